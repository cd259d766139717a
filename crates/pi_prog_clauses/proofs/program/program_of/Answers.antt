use Rattle.std.proofs.Common.{◌∷◌, [], ◌++◌, ap, ◌∙◌, sym}
use Rattle.std.specs.Prelude.{map}
use Rattle.pi_syntax.specs.ProgramTree.{part_tree}
use Rattle.pi_prog_clauses.specs.Seen.{seen}
use Rattle.pi_prog_clauses.specs.Verdict.{parts_of}
use Rattle.pi_prog_clauses.proofs.program.OnePartMore.{none_yet, parts_next, none_left}
use Rattle.pi_prog_clauses.proofs.program.program_of.Goals as goal

pub loop-reading-init : goal.loop-reading-init
loop-reading-init c = none_yet _ c.args.readings.items _ c.in_ok-parts.ensures.items c.reverse.ensures.items

pub loop-reading-preserved : goal.loop-reading-preserved
loop-reading-preserved c =
    parts_next _ _ (parts_of (map seen c.args.readings.items)) c.loop-reading.left.items c.give_back.new.left.items c.in-Some.reading (c.in-Some.ensures.items ∙ sym (ap (λ rs. rs ++ c.in-Some.reading ∷ []) c.give_back.ensures.items))
    c.in_ok-add_part.ensures c.loop-reading.invariant

pub returns : goal.returns
returns c = ap (map part_tree) c.from_vec.ensures ∙ none_left _ (parts_of (map seen c.args.readings.items)) c.loop-reading.left.items (sym c.loop-reading.left.ok.0 ∙ c.in_default.ensures.cases.0) c.loop-reading.invariant
