use Rattle.std.proofs.Common.{◌∙◌, sym, refl}
use Rattle.std.proofs.lemmas.Bool.{false≢true}
use Rattle.std.proofs.lemmas.List.{drop_more}
use Rattle.pi_prop_filters.proofs.LimitLemmas.{item_passed, item_wrong, items_seen}
use Rattle.pi_prop_filters.proofs.limits.are_items.Goals as goal

pub returns-then-not-is_item : goal.returns-then-not-is_item
returns-then-not-is_item c = (
  λ t. absurd (false≢true t),
  λ all. absurd (item_wrong c.args.items.now c.loop-i.i _ (drop_more c.args.items.now c.loop-i.i _ c.loop-i-test.true) (λ h. false≢true (sym c.if-not-is_item.true ∙ c.is_item.ensures.1 h)) c.loop-i.invariant all),
)

pub loop-i-preserved : goal.loop-i-preserved
loop-i-preserved c = item_passed c.args.items.now c.loop-i.i _ c.loop-i-test.true (drop_more c.args.items.now c.loop-i.i _ c.loop-i-test.true) (c.is_item.ensures.0 c.if-not-is_item.false) c.loop-i.invariant

pub returns : goal.returns
returns c = (λ t. items_seen c.args.items.now c.loop-i.i c.loop-i-test.false c.loop-i.invariant, λ all. refl)
