-- Item by item, from the left.
use Rattle.std.proofs.Common.{◌≡◌, ◌<◌, ◌∷◌, ◌+◌, length, drop, get_or, arith, subst}
use Rattle.pi_constraints.specs.declared.store.Ref.{Ref}
use Rattle.pi_prop_spec.specs.Lists.{read_each}
use Rattle.pi_prop_read.specs.OperandFrames.{AreThere}
use Rattle.pi_prop_read.specs.Items.{values_at}
use Rattle.pi_prop_read.proofs.ItemLemmas.{EachSoFar, each-none, each-more, each-refused, each-done, rest-at, there-at, first-there, none-behind}
use Rattle.pi_prop_read.proofs.items.items_at.Goals as goal

pub loop-i-init : goal.loop-i-init
loop-i-init g c = λ m s are.
    let w = (g.S.StateStore.seen c.args.s.now).now in
    each-none w m c.new-items.result c.args.terms.now c.new-items.ensures

pub loop-i-preserved : goal.loop-i-preserved
loop-i-preserved g c = λ m s are.
    let w = (g.S.StateStore.seen c.args.s.now).now in
    let rs = c.args.terms.now in
    let i = c.loop-i.i in
    let low : i < length rs = omega (arith, c.loop-i-test.true) in
    let none : Ref = record { number = 0 } in
    let r : Ref = get_or rs i none in
    let here : drop i rs ≡ r ∷ drop (i + 1) rs = rest-at rs i none low in
    let there : AreThere w (r ∷ drop (i + 1) rs) = subst (AreThere w) here (there-at w rs i are) in
    let whole = read_each (values_at w rs) m in
    each-more w m c.loop-i.items c.push.new.self r (drop (i + 1) rs) c.in-Ok.item whole there (c.in-Ok.ensures m s (first-there w r (drop (i + 1) rs) there)) c.in-Ok-push.ensures (subst (λ qs. EachSoFar w m c.loop-i.items qs whole) here (c.loop-i.invariant m s are))

pub returns-in-Err : goal.returns-in-Err
returns-in-Err g c = λ m s are.
    let w = (g.S.StateStore.seen c.args.s.now).now in
    let rs = c.args.terms.now in
    let i = c.loop-i.i in
    let low : i < length rs = omega (arith, c.loop-i-test.true) in
    let none : Ref = record { number = 0 } in
    let r : Ref = get_or rs i none in
    let here : drop i rs ≡ r ∷ drop (i + 1) rs = rest-at rs i none low in
    let there : AreThere w (r ∷ drop (i + 1) rs) = subst (AreThere w) here (there-at w rs i are) in
    let whole = read_each (values_at w rs) m in
    each-refused w m c.loop-i.items r (drop (i + 1) rs) c.in-Err.stop whole (c.in-Err.ensures m s (first-there w r (drop (i + 1) rs) there)) (subst (λ qs. EachSoFar w m c.loop-i.items qs whole) here (c.loop-i.invariant m s are))

pub returns : goal.returns
returns g c = λ m s are.
    let w = (g.S.StateStore.seen c.args.s.now).now in
    let rs = c.args.terms.now in
    each-done w m c.loop-i.items (drop c.loop-i.i rs) (read_each (values_at w rs) m) (none-behind rs c.loop-i.i (omega (arith, c.loop-i-test.false))) (c.loop-i.invariant m s are)
