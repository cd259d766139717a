use Rattle.std.proofs.Common.{rules, arith, ◌≡◌, List, sym, subst, true, false, inl, inr, w64, to_z, of_z}
use Rattle.std.specs.Prelude.{ℤ, ◌≤ℤ◌, FitsSigned, int_le}
use Rattle.std.proofs.lemmas.Int.{ints, to_z-of_z}
use Rattle.pi_constraints.specs.declared.domain.Span.{Span}
use Rattle.pi_constraints.proofs.MeetLemmas.{Shares, Shares-none, Shares-next, Shares-next_other, Shares-over}
use Rattle.pi_constraints.proofs.meets.shared_spans.Goals as goal
use Rattle.pi_constraints.proofs.meets.shared_spans.Goals.{then-loop-i-test+else-j-e, else-loop-i-test}

pub loop-i-init : goal.loop-i-init
loop-i-init c = subst (λ (x : List Span). Shares c.args.d.now c.args.e.now x c.args.d.now c.args.e.now) (sym c.new-shared.ensures.items) (Shares-none c.args.d.now c.args.e.now c.requires.first)

-- the test of the code, at numbers of 64 bits
ends_no_higher : (x y : ℤ) → FitsSigned w64 x → FitsSigned w64 y → int_le (to_z w64 (of_z w64 x)) (to_z w64 (of_z w64 y)) ≡ true → x ≤ℤ y
ends_no_higher x y f g h = grind (arith, ints, to_z-of_z)

ends_higher : (x y : ℤ) → FitsSigned w64 x → FitsSigned w64 y → int_le (to_z w64 (of_z w64 x)) (to_z w64 (of_z w64 y)) ≡ false → y ≤ℤ x
ends_higher x y f g h = grind (arith, ints, to_z-of_z)

pub loop-i-preserved-then-d-i : goal.loop-i-preserved-then-d-i
loop-i-preserved-then-d-i c =
    Shares-next c.args.d.now c.args.e.now c.loop-i.shared.items c.push_overlap.new.spans.items c.loop-i.i c.loop-i.j _ c.requires.first c.requires.second c.loop-i-test.true c.if-j-e.true c.loop-i.invariant
    (ends_no_higher _ _ (search rules) (search rules) c.if-d-i.true) c.in_ok-push_overlap.ensures.ok

pub loop-i-preserved : goal.loop-i-preserved
loop-i-preserved c =
    Shares-next_other c.args.d.now c.args.e.now c.loop-i.shared.items c.push_overlap.new.spans.items c.loop-i.i c.loop-i.j _ c.requires.first c.requires.second c.loop-i-test.true c.if-j-e.true c.loop-i.invariant
    (ends_higher _ _ (search rules) (search rules) c.if-d-i.false) c.in_ok-push_overlap.ensures.ok

pub returns-clause-values : goal.returns-clause-values
returns-clause-values c =
    Shares-over c.args.d.now c.args.e.now c.loop-i.shared.items c.loop-i.i c.loop-i.j
    (elim c.loop-i-test.branch [ then-loop-i-test+else-j-e w ↦ inr w.if-j-e.false | else-loop-i-test w ↦ inl w.loop-i-test.false ]) c.loop-i.invariant
