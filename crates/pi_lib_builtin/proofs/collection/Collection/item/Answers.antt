use Rattle.std.proofs.Common.{ap, sym, ◌∙◌, subst}
use Rattle.std.specs.Prelude.{Option, slice_get}
use Rattle.pi_constraints.specs.declared.store.Ref.{Ref}
use Rattle.pi_lib_builtin.specs.Items.{HasItems, ShowsItem}
use Rattle.pi_lib_builtin.proofs.RowLemmas.{item-shown}
use Rattle.pi_lib_builtin.proofs.CollectionLemmas.{argument-shown, argument-past}
use Rattle.pi_lib_builtin.proofs.collection.Collection.item.Goals as goal

pub returns-in-Listed : goal.returns-in-Listed
returns-in-Listed g c = λ ts a has.
    let v = g.S.StateStore.seen c.args.s.now in
    let rs = c.in-Listed.items.items in
    subst (λ (o : Option Ref). ShowsItem v (slice_get ts c.args.place) o) (sym (c.item_in.ensures ∙ ap (λ xs. slice_get xs c.args.place) c.deref.ensures.value))
    (item-shown v rs ts c.args.place (subst (λ k. HasItems v k ts) c.in-Listed.is has))

pub returns-then-place-count : goal.returns-then-place-count
returns-then-place-count g c = λ ts a has.
    let v = g.S.StateStore.seen c.args.s.now in
    argument-shown v c.in-Arguments.term c.arg.result c.in-Arguments.count c.args.place ts a (subst (λ k. HasItems v k ts) c.in-Arguments.is has) c.if-place-count.true c.arg.ensures

pub returns-else-place-count : goal.returns-else-place-count
returns-else-place-count g c = λ ts a has.
    let v = g.S.StateStore.seen c.args.s.now in
    argument-past v c.in-Arguments.term c.in-Arguments.count c.args.place ts (subst (λ k. HasItems v k ts) c.in-Arguments.is has) c.if-place-count.false
