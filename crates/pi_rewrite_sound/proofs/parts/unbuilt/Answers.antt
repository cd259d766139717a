use Rattle.std.proofs.Common.{◌∙◌, List, ap, map}
use Rattle.pi_syntax.specs.declared.program.Part.{Part}
use Rattle.pi_syntax.specs.ProgramTree.{part_tree}
use Rattle.pi_rewrite_sound.specs.Built.{unbuilt_from}
use Rattle.pi_rewrite_sound.proofs.BuiltPartLemmas.{one_more_built, one_not_built, all_built}
use Rattle.pi_rewrite_sound.proofs.parts.unbuilt.Goals as goal

pub returns-then-not-is_built_part : goal.returns-then-not-is_built_part
returns-then-not-is_built_part c =
    one_not_built c.loop-i.i c.as_slice-parts.result.now c.index-parts-i.result c.is_built_part.result c.loop-i-test.true c.index-parts-i.is c.is_built_part.ensures c.if-not-is_built_part.true c.loop-i.invariant
    ∙ ap (λ (ps : List Part). unbuilt_from 1 (map part_tree ps)) c.as_slice-parts.ensures

pub loop-i-preserved : goal.loop-i-preserved
loop-i-preserved c =
    one_more_built c.loop-i.i c.as_slice-parts.result.now c.index-parts-i.result c.is_built_part.result c.loop-i-test.true c.index-parts-i.is c.is_built_part.ensures c.if-not-is_built_part.false c.loop-i.invariant

pub returns : goal.returns
returns c =
    all_built c.loop-i.i c.as_slice-parts.result.now c.loop-i-test.false c.loop-i.invariant
    ∙ ap (λ (ps : List Part). unbuilt_from 1 (map part_tree ps)) c.as_slice-parts.ensures
