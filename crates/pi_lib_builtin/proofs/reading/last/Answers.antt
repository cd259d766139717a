use Rattle.std.proofs.Common.{◌≡◌, ap, refl, sym, ◌∙◌, subst}
use Rattle.std.specs.Prelude.{pos, None, slice_get}
use Rattle.std.specs.List.{last_or}
use Rattle.pi_terms.specs.Tree.{int}
use Rattle.pi_effects.specs.Exception.{bad_index}
use Rattle.pi_effects.specs.Answer.{or_raised}
use Rattle.pi_effects.specs.Collections.{item_or_first_index}
use Rattle.pi_effects.specs.Results.{ShowsTerm}
use Rattle.pi_effects.specs.declared.fault.Fault.{Fault}
use Rattle.pi_lib_builtin.proofs.CollectionLemmas.{collection-is, last-is, item-or}
use Rattle.pi_lib_builtin.proofs.reading.last.Goals as goal

pub returns : goal.returns
returns g c = λ t a is.
    let v = g.S.StateStore.seen c.args.s.now in
    let items = c.in_ok-items.ensures t a is in
    let ts = items.0 in
    let ball = bad_index (int (pos 1)) v.now.state in
    let place : last_or None ts ≡ slice_get ts c.saturating_sub-place.result = last-is ts c.count.result (c.count.ensures ts items.2) ∙ ap (slice_get ts) (sym c.saturating_sub-place.ensures) in
    subst (ShowsTerm v v c.ok_or.result) (sym (collection-is v t (λ us. item_or_first_index (last_or None us) v.now.state) ts items.1 ∙ ap (λ o. or_raised o ball) place))
    (subst (λ r. ShowsTerm v v r (or_raised (slice_get ts c.saturating_sub-place.result) ball)) (sym c.ok_or.ensures.value)
    (item-or v (slice_get ts c.saturating_sub-place.result) c.item.result Fault.NoFirst ball (c.item.ensures ts a items.2) refl))
