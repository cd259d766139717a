use Rattle.std.proofs.Common.{◌+◌, ◌≤◌, ◌&&◌, [], ◌∷◌, ◌∙◌, Bool, false, length, refl, ap, sym, arith}
use Rattle.pi_store_blocks.specs.Form.{all_ground}
use Rattle.pi_store_blocks.specs.Heap.{is_same}
use Rattle.pi_store_blocks.proofs.PlacedLemmas.{placed_two}
use Rattle.pi_store_blocks.proofs.placed.are_two.Goals as goal

pub returns-then-not-are_both_refs : goal.returns-then-not-are_both_refs
returns-then-not-are_both_refs c =
    let within : c.args.place + 2 ≤ length c.args.words.now.region = omega arith in
    let same : Bool = is_same c.args.is_ground (all_ground (c.word.result ∷ c.word-2.result ∷ [])) in
    placed_two c.args.words.now.region c.args.place c.word.result c.word-2.result c.args.is_ground c.are_both_refs.result same false within c.word.ensures c.word-2.ensures c.are_both_refs.ensures refl
    (sym (ap (λ (x : Bool). x && same) c.if-not-are_both_refs.true))

pub returns : goal.returns
returns c =
    let within : c.args.place + 2 ≤ length c.args.words.now.region = omega arith in
    placed_two c.args.words.now.region c.args.place c.word.result c.word-2.result c.args.is_ground c.are_both_refs.result c.is_same.result c.is_same.result within c.word.ensures c.word-2.ensures c.are_both_refs.ensures
    (c.is_same.ensures ∙ ap (is_same c.args.is_ground) c.are_both_ground.ensures) (sym (ap (λ (x : Bool). x && c.is_same.result) c.if-not-are_both_refs.false))
