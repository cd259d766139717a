use Rattle.std.proofs.Common.{arith, ◌≡◌, ◌∙◌, ℤ, pos, take, get_or, sym, subst, refl, to_z, of_z, w64}
use Rattle.pi_prop_filters.proofs.CountLemmas.{count_from, from_passed}
use Rattle.pi_prop_filters.proofs.FullLemmas.{FullBefore, full_at_first, full_passed, full_all}
use Rattle.pi_prop_filters.proofs.TurnLemmas.{back64, above64, reached, reached_small, turn_far, turn_over, turn_open, turn_closed, turn_counted}
use Rattle.pi_prop_filters.proofs.ends.full_ends.Goals as goal
use Rattle.pi_prop_filters.proofs.ends.full_ends.Goals.{then-a-least+else-width-most+else-width-count+then-width-count-2+in_ok-push, then-a-least+else-width-most+else-width-count+else-width-count-2, else-a-least}

pub loop-i-init : goal.loop-i-init
loop-i-init c = rw c.new-full.ensures.items (record { full = full_at_first _ c.args.sorted.now; count = refl; few = omega arith })

pub overflow_add-width : goal.overflow_add-width
overflow_add-width c =
    let e = c.requires.ends c.loop-i.i (pos 0, pos 0) c.loop-i-test.true in
    record { fits = reached_small c.args.a c.args.sorted.now c.loop-i.i _ c.requires.from (reached c.args.a c.args.sorted.now c.loop-i.i _ c.requires.from e c.if-a-least.true c.abs_diff-width.ensures) }

pub returns-then-width-most : goal.returns-then-width-most
returns-then-width-most c =
    let i = c.loop-i.i in
    let x = reached c.args.a c.args.sorted.now i _ c.requires.from (c.requires.ends i (pos 0, pos 0) c.loop-i-test.true) c.if-a-least.true c.abs_diff-width.ensures in
    turn_far c.args.a c.args.sorted.now i _ c.loop-i.full.items c.requires.sorted c.loop-i-test.true x c.if-width-most.true
    (subst (λ (z : ℤ). FullBefore z c.args.sorted.now i c.loop-i.full.items) (back64 c.args.a c.requires.from) c.loop-i.invariant.full)

pub returns-then-width-count : goal.returns-then-width-count
returns-then-width-count c =
    let i = c.loop-i.i in
    let x = reached c.args.a c.args.sorted.now i _ c.requires.from (c.requires.ends i (pos 0, pos 0) c.loop-i-test.true) c.if-a-least.true c.abs_diff-width.ensures in
    turn_over c.args.a c.args.sorted.now i _ c.loop-i.count c.requires.sorted c.loop-i-test.true x
    (subst (λ (z : ℤ). c.loop-i.count ≡ count_from z (take i c.args.sorted.now)) (back64 c.args.a c.requires.from) c.loop-i.invariant.count) c.if-width-count.true

pub loop-i-preserved : goal.loop-i-preserved
loop-i-preserved c =
    let a = c.args.a in
    let sorted = c.args.sorted.now in
    let i = c.loop-i.i in
    let back = back64 a c.requires.from in
    let e = c.requires.ends i (pos 0, pos 0) c.loop-i-test.true in
    let before : FullBefore a sorted i c.loop-i.full.items = subst (λ (z : ℤ). FullBefore z sorted i c.loop-i.full.items) back c.loop-i.invariant.full in
    let count : c.loop-i.count ≡ count_from a (take i sorted) = subst (λ (z : ℤ). c.loop-i.count ≡ count_from z (take i sorted)) back c.loop-i.invariant.count in
    elim c.if-a-least.branch [
      | then-a-least+else-width-most+else-width-count+then-width-count-2+in_ok-push w ↦
          let x = reached a sorted i _ c.requires.from e w.if-a-least.true w.abs_diff-width.ensures in
          let item : to_z w64 (of_z w64 (get_or sorted i (pos 0, pos 0)).0) ≡ (get_or sorted i (pos 0, pos 0)).0 = back64 _ e.greatest in
          rw (w.full-is, w.count-is, w.in_ok-push.ensures.items, item, back) (record {
            full = turn_closed a sorted i _ c.loop-i.count c.loop-i.full.items c.requires.sorted c.loop-i-test.true x count w.if-width-count-2.true before;
            count = turn_counted a sorted i _ c.loop-i.count c.loop-i-test.true x count;
            few = omega (arith, c.loop-i.invariant.few);
          })
      | then-a-least+else-width-most+else-width-count+else-width-count-2 w ↦
          let x = reached a sorted i _ c.requires.from e w.if-a-least.true w.abs_diff-width.ensures in
          rw (w.full-is, w.count-is, back) (record {
            full = turn_open a sorted i _ c.loop-i.count c.loop-i.full.items c.requires.sorted c.loop-i-test.true x count w.if-width-count.false w.if-width-count-2.false before;
            count = turn_counted a sorted i _ c.loop-i.count c.loop-i-test.true x count;
            few = omega (arith, c.loop-i.invariant.few);
          })
      | else-a-least w ↦
          let high = above64 a ((get_or sorted i (pos 0, pos 0)).1) c.requires.from e.least w.if-a-least.false in
          rw (w.full-is, w.count-is, back) (record {
            full = full_passed a sorted i c.loop-i.full.items c.loop-i-test.true high before;
            count = count ∙ sym (from_passed a sorted i c.loop-i-test.true high);
            few = omega (arith, c.loop-i.invariant.few);
          })
    ]

pub returns : goal.returns
returns c =
    full_all c.args.a c.args.sorted.now c.loop-i.i c.loop-i.full.items c.loop-i-test.false
    (subst (λ (z : ℤ). FullBefore z c.args.sorted.now c.loop-i.i c.loop-i.full.items) (back64 c.args.a c.requires.from) c.loop-i.invariant.full)
