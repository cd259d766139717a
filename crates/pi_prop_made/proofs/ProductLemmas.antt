-- Products and absolute values, as they are read.
use Rattle.std.specs.Prelude.{◌≡◌, ℕ, suc, ◌≤◌, Bool, true, false, cond, List, [], ◌∷◌, Option, Some, None, Result, Ok, Err, ℤ, refl}
use Rattle.std.proofs.Common.{arith, ◌∙◌, ap, sym}
use Rattle.pi_constraints.specs.declared.constraint.Item.{Item}
use Rattle.pi_constraints.specs.declared.constraint.Constraint.{Constraint}
use Rattle.pi_prop_spec.specs.PostingSums.{Sum, of_variable}
use Rattle.pi_prop_spec.specs.Steps.{Refusal, wide_coefficient, Made, Known, Reading, gives, refuses, after, then, step, variable_of, side, side_by, product, product_variable, absolute_variable}
use Rattle.pi_prop_spec.specs.Limits.{are_values, refusal_of}
use Rattle.pi_prop_made.specs.declared.stop.SumStop.{SumStop}
use Rattle.pi_prop_made.specs.Steps.{fits, ShowsStep}
use Rattle.pi_prop_made.specs.declared.making.Making.{Making}
use Rattle.pi_prop_made.specs.Making.{Shows, Reads, ShowsReading, AllBelow, side_product, with_constraint, with_variable}

-- ---- constraints over variables alone keep their limits

pub product_keeps : (z x y : ℕ) → refusal_of (Constraint.Product (Item.Var z) (Item.Var x) (Item.Var y)) ≡ None
unfolding are_values
product_keeps z x y = refl

pub absolute_keeps : (z x : ℕ) → refusal_of (Constraint.Absolute (Item.Var z) (Item.Var x)) ≡ None
unfolding are_values
absolute_keeps z x = refl

-- ---- a step behind a reading

step_fits : (w : Sum) (k : Made) → fits w ≡ true → step w k ≡ Ok (record { what = w; made = k })
step_fits w k e = ap (λ (b : Bool). cond b (gives w) (refuses wide_coefficient) k) e

step_wide : (w : Sum) (k : Made) → fits w ≡ false → step w k ≡ Err wide_coefficient
step_wide w k e = ap (λ (b : Bool). cond b (gives w) (refuses wide_coefficient) k) e

pub read_step : (p : Reading Sum) (m k : Made) (w : Sum) (new : Making) (r : Result Sum SumStop) → p m ≡ Ok (record { what = w; made = k }) → Shows new k → ShowsStep r w → ShowsReading (then p step) m new r
read_step p m k w new (Ok made) e s t = record {
  made = k;
  is = ap (λ (o : Result (Known Sum) Refusal). after o step) e ∙ (step_fits w k t.1 ∙ ap (λ (v : Sum). Ok (record { what = v; made = k })) (sym t.0));
  shown = s;
}
read_step p m k w new (Err SumStop.Wide) e s t = ap (λ (o : Result (Known Sum) Refusal). after o step) e ∙ step_wide w k t
read_step p m k w new (Err SumStop.Memory) e s t = tt

-- a reading that comes to another one
reading_as : (p q : Reading Sum) (m k : Made) (new : Making) (r : Result Sum SumStop) → p m ≡ q k → ShowsReading q k new r → ShowsReading p m new r
reading_as p q m k new (Ok w) e s = record { made = s.made; is = e ∙ s.is; shown = s.shown }
reading_as p q m k new (Err SumStop.Wide) e s = e ∙ s
reading_as p q m k new (Err SumStop.Memory) e s = tt

-- ---- new variables

pub product_made : (x y z : ℕ) (m : Made) (new : Making) (r : Result Sum SumStop) → z ≡ m.unused → Shows new (with_constraint (with_variable m) (Constraint.Product (Item.Var z) (Item.Var x) (Item.Var y))) →
    ShowsStep r (of_variable z) → ShowsReading (then (product_variable x y) step) m new r
product_made x y z m new r e s t =
    read_step (product_variable x y) m (with_constraint (with_variable m) (Constraint.Product (Item.Var z) (Item.Var x) (Item.Var y))) (of_variable z) new r
    (ap (λ (j : ℕ). Ok (record { what = of_variable j; made = with_constraint (with_variable m) (Constraint.Product (Item.Var j) (Item.Var x) (Item.Var y)) })) (sym e)) s t

pub absolute_made : (x z : ℕ) (m : Made) (new : Making) (r : Result Sum SumStop) → z ≡ m.unused → Shows new (with_constraint (with_variable m) (Constraint.Absolute (Item.Var z) (Item.Var x))) →
    ShowsStep r (of_variable z) → ShowsReading (then (absolute_variable x) step) m new r
absolute_made x z m new r e s t =
    read_step (absolute_variable x) m (with_constraint (with_variable m) (Constraint.Absolute (Item.Var z) (Item.Var x))) (of_variable z) new r
    (ap (λ (j : ℕ). Ok (record { what = of_variable j; made = with_constraint (with_variable m) (Constraint.Absolute (Item.Var j) (Item.Var x)) })) (sym e)) s t

-- ---- sides

made_or : Made → Result (Known ℕ) Refusal → Made
made_or m (Err r) = m
made_or m (Ok k) = k.made

side_grows : (u : Sum) (m k : Made) (n : ℕ) → side u m ≡ Ok (record { what = n; made = k }) → m.unused ≤ k.unused
unfolding made_or
side_grows u m k n e = by (variable_of u) e
  where
    by : (o : Option ℕ) → side_by o u m ≡ Ok (record { what = n; made = k }) → m.unused ≤ k.unused
    by (Some j) f = let same : m.unused ≡ k.unused = ap (λ (o : Result (Known ℕ) Refusal). (made_or m o).unused) f in omega (arith, same)
    by None f = let same : suc m.unused ≡ k.unused = ap (λ (o : Result (Known ℕ) Refusal). (made_or m o).unused) f in omega (arith, same)

below_more : (n k : ℕ) (ts : List (ℤ × ℕ)) → n ≤ k → AllBelow n ts → AllBelow k ts
unfolding AllBelow
below_more n k [] l b = tt
below_more n k (t ∷ ts) l b = (omega (arith, l, b.0), below_more n k ts l b.1)

-- the other side is still below what is unused
pub still_below : (u : Sum) (m : Made) (x : ℕ) (mid : Making) (ts : List (ℤ × ℕ)) → (r : Reads (side u) m x mid) → AllBelow m.unused ts → AllBelow r.made.unused ts
still_below u m x mid ts r b = below_more m.unused r.made.unused ts (side_grows u m r.made x r.is) b

pub sides_read : (u v : Sum) (m : Made) (x y : ℕ) (mid last new : Making) (r : Result Sum SumStop) → (a : Reads (side u) m x mid) → (b : Reads (side v) a.made y last) → ShowsReading (then (product_variable x y) step) b.made new r →
    ShowsReading (then (side_product u v) step) m new r
sides_read u v m x y mid last new r a b s =
    reading_as (then (side_product u v) step) (then (product_variable x y) step) m b.made new r
    (ap (λ (o : Result (Known ℕ) Refusal). after (after o (λ i. then (side v) (λ j. product_variable i j))) step) a.is
    ∙ ap (λ (o : Result (Known ℕ) Refusal). after (after o (λ j. product_variable x j)) step) b.is) s
