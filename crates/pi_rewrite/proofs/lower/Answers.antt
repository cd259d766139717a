-- Behind the test all of the program is built.
use Rattle.std.proofs.Common.{◌≡◌, ◌∙◌, None, sym}
use Rattle.pi_core.specs.CoreTree.{program_tree}
use Rattle.pi_syntax.specs.ProgramTree.{source_tree}
use Rattle.pi_rewrite_sound.specs.Built.{unbuilt_part}
use Rattle.pi_rewrite.proofs.LawLemmas.{lowered-program}
use Rattle.pi_rewrite.proofs.lower.Goals as goal

pub returns-clause-lowered : goal.returns-clause-lowered
returns-clause-lowered c =
    let built : unbuilt_part (source_tree c.args.program.now) ≡ None = sym c.unbuilt.ensures ∙ c.in_default.is in
    lowered-program (source_tree c.args.program.now) (program_tree (record { preds = c.in_ok-preds.preds })) c.in_ok-preds.ensures built
