use Rattle.std.proofs.Common.{rules, ◌≡◌, ap, sym, ◌∙◌, to_z, of_z}
use Rattle.std.specs.Int.{w128}
use Rattle.pi_store_blocks.specs.Head.{rel_of}
use Rattle.pi_store_blocks.specs.Items.{item_of}
use Rattle.pi_store_blocks.proofs.KindLemmas.{linear_is, product_is, absolute_is, different_is, element_is, reified_is}
use Rattle.pi_store_blocks.proofs.constraints.read.read_numbers.Goals as goal

pub returns-in_ok-read_terms-in-0 : goal.returns-in_ok-read_terms-in-0
returns-in_ok-read_terms-in-0 c =
    let bits : to_z w128 (of_z w128 c.read_constant.result) ≡ c.read_constant.result = search rules in
    linear_is c.args.block.now _ _ _ (sym c.get.ensures.is ∙ c.in-0.is) (c.rel_of.ensures ∙ ap rel_of c.get-in-0.ensures.is) c.in_ok-read_terms-in-0.ensures (bits ∙ c.read_constant.ensures)

pub returns-in-1 : goal.returns-in-1
returns-in-1 c =
    product_is c.args.block.now _ _ _ (sym c.get.ensures.is ∙ c.in-1.is) (c.item_of.ensures ∙ ap item_of c.get-in-1.ensures.is) (c.item_of-in-1.ensures ∙ ap item_of c.get-in-1-2.ensures.is)
    (c.item_of-in-1-2.ensures ∙ ap item_of c.get-in-1-3.ensures.is)

pub returns-in-2 : goal.returns-in-2
returns-in-2 c =
    absolute_is c.args.block.now _ _ (sym c.get.ensures.is ∙ c.in-2.is) (c.item_of-in-2.ensures ∙ ap item_of c.get-in-2.ensures.is) (c.item_of-in-2-2.ensures ∙ ap item_of c.get-in-2-2.ensures.is)

pub returns-in_ok-read_items-in-3 : goal.returns-in_ok-read_items-in-3
returns-in_ok-read_items-in-3 c = different_is c.args.block.now _ (sym c.get.ensures.is ∙ c.in-3.is) c.in_ok-read_items-in-3.ensures

pub returns-in_ok-read_items-in-4 : goal.returns-in_ok-read_items-in-4
returns-in_ok-read_items-in-4 c =
    element_is c.args.block.now _ _ _ (sym c.get.ensures.is ∙ c.in-4.is) (c.item_of-in-4.ensures ∙ ap item_of c.get-in-4.ensures.is) c.in_ok-read_items-in-4.ensures
    (c.item_of-in-4-2.ensures ∙ ap item_of c.get-in-4-2.ensures.is)

pub returns-in_ok-read_terms-in-5 : goal.returns-in_ok-read_terms-in-5
returns-in_ok-read_terms-in-5 c =
    let bits : to_z w128 (of_z w128 c.read_constant-in-5.result) ≡ c.read_constant-in-5.result = search rules in
    reified_is c.args.block.now _ _ _ _ (sym c.get.ensures.is ∙ c.in-5.is) (c.item_of-in-5.ensures ∙ ap item_of c.get-in-5.ensures.is) (c.rel_of-in-5.ensures ∙ ap rel_of c.get-in-5-2.ensures.is)
    c.in_ok-read_terms-in-5.ensures (bits ∙ c.read_constant-in-5.ensures)
