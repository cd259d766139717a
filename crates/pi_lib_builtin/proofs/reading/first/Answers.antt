use Rattle.std.proofs.Common.{refl, sym, subst}
use Rattle.std.specs.Prelude.{pos, slice_get}
use Rattle.pi_terms.specs.Tree.{int}
use Rattle.pi_constraints.specs.Store.{IsTerm}
use Rattle.pi_effects.specs.Exception.{bad_index}
use Rattle.pi_effects.specs.Answer.{or_raised}
use Rattle.pi_effects.specs.Collections.{item_or_first_index}
use Rattle.pi_effects.specs.Results.{ShowsTerm}
use Rattle.pi_effects.specs.declared.fault.Fault.{Fault}
use Rattle.pi_lib_builtin.proofs.CollectionLemmas.{collection-is, collection-stops, item-or}
use Rattle.pi_lib_builtin.proofs.ResultLemmas.{stopped-shows}
use Rattle.pi_lib_builtin.proofs.reading.first.Goals as goal

pub returns-in_err-items : goal.returns-in_err-items
returns-in_err-items g c = λ t a is.
    let v = g.S.StateStore.seen c.args.s.now in
    stopped-shows (IsTerm v) v c.from_residual.result _ _ c.from_residual.ensures.1 (collection-stops v _ t (λ us. item_or_first_index (slice_get us 0) v.now.state) (c.in_err-items.ensures t a is))

pub returns : goal.returns
returns g c = λ t a is.
    let v = g.S.StateStore.seen c.args.s.now in
    let items = c.in_ok-items.ensures t a is in
    let ts = items.0 in
    let ball = bad_index (int (pos 1)) v.now.state in
    subst (ShowsTerm v v c.ok_or.result) (sym (collection-is v t (λ us. item_or_first_index (slice_get us 0) v.now.state) ts items.1))
    (subst (λ r. ShowsTerm v v r (or_raised (slice_get ts 0) ball)) (sym c.ok_or.ensures.value)
    (item-or v (slice_get ts 0) c.item.result Fault.NoFirst ball (c.item.ensures ts a items.2) refl))
