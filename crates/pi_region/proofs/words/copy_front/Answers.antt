use Rattle.std.proofs.Common.{◌<◌, ◌∙◌, length, refl, arith}
use Rattle.std.proofs.lemmas.List.{length-set}
use Rattle.std.specs.Prelude.{Some}
use Rattle.pi_region.proofs.WordsLemmas.{copied-more}
use Rattle.pi_region.proofs.words.copy_front.Goals as goal

pub loop-i-init : goal.loop-i-init
loop-i-init c = (refl, refl)

pub store-requires : goal.store-requires
store-requires c = let same = c.loop-i.invariant.1 in let long = c.requires.to in let less = c.loop-i-test.true in omega arith

pub loop-i-preserved : goal.loop-i-preserved
loop-i-preserved c =
    let i = c.loop-i.i in let less = c.loop-i-test.true in let from_long = c.requires.from.0 in let to_long = c.requires.to in let same = c.loop-i.invariant.1 in
    let within : i < length c.loop-i.to = omega arith in
    rw c.store.ensures (copied-more c.loop-i.to c.args.from.now i (Some c.load.result) c.loop-i.invariant.0 within (omega arith) c.load.ensures, length-set c.loop-i.to i (Some c.load.result) ∙ same)
