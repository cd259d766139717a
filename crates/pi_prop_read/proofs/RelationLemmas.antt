-- A relation, by its sides.
use Rattle.std.specs.Prelude.{◌≡◌, Bool, true, false, cond, Result, Ok, Err, refl}
use Rattle.std.proofs.Common.{◌∙◌, ap, sym}
use Rattle.pi_constraints.specs.Store.{Moment}
use Rattle.pi_constraints.specs.declared.store.Ref.{Ref}
use Rattle.pi_prop_spec.specs.Operands.{Operand, Comparison as ComparisonOf}
use Rattle.pi_prop_spec.specs.PostingSums.{Sum}
use Rattle.pi_prop_spec.specs.Steps.{Refusal, wide_coefficient, Made, Known, Reading, gives, refuses, after, then, step, read_operand}
use Rattle.pi_prop_spec.specs.Relations.{Standing, relation_of, sides_apart, and_apart, read_relation}
use Rattle.pi_prop_made.specs.declared.stop.SumStop.{SumStop}
use Rattle.pi_prop_made.specs.Steps.{fits, ShowsStep}
use Rattle.pi_prop_made.specs.declared.making.Making.{Making}
use Rattle.pi_prop_made.specs.declared.to_zero.ToZero.{ToZero}
use Rattle.pi_prop_made.specs.Making.{Shows}
use Rattle.pi_prop_read.specs.declared.operands.stop.OperandStop.{OperandStop}
use Rattle.pi_prop_read.specs.OperandFrames.{HasRead, Refuses}
use Rattle.pi_prop_read.specs.declared.relations.Relation.{Relation}
use Rattle.pi_prop_read.specs.Relations.{Means, HasRelation}

-- what is read behind the left side, and behind both
abbrev behind-both : ComparisonOf → Sum → Sum → Reading Standing
behind-both c u v = then (step (sides_apart c u v)) (λ x. gives (record { rel = relation_of c; sum = and_apart c x }))

abbrev behind-left : ComparisonOf → Operand → Sum → Reading Standing
behind-left c y u = then (read_operand y) (behind-both c u)

by-left : (c : ComparisonOf) (x y : Operand) (m : Made) → read_relation c x y m ≡ after (read_operand x m) (behind-left c y)
unfolding read_relation
by-left c x y m = refl

-- a part that is refused
refused-after : {A B : Type 0} (w : Moment) (stop : OperandStop) (o : Result (Known A) Refusal) (f : A → Reading B) → Refuses w stop o → Refuses w stop (after o f)
refused-after {A = A} w (OperandStop.NotLinear r) o f h = (h.0, ap (λ (e : Result (Known A) Refusal). after e f) h.1)
refused-after {A = A} w OperandStop.Wide o f h = ap (λ (e : Result (Known A) Refusal). after e f) h
refused-after w OperandStop.Memory o f h = tt

refused-as : {A : Type 0} (w : Moment) (stop : OperandStop) (o p : Result (Known A) Refusal) → p ≡ o → Refuses w stop o → Refuses w stop p
refused-as w (OperandStop.NotLinear r) o p e h = (h.0, e ∙ h.1)
refused-as w OperandStop.Wide o p e h = e ∙ h
refused-as w OperandStop.Memory o p e h = tt

pub left-refused : (w : Moment) (stop : OperandStop) (c : ComparisonOf) (x y : Operand) (m : Made) → Refuses w stop (read_operand x m) → Refuses w stop (read_relation c x y m)
left-refused w stop c x y m h = refused-as w stop (after (read_operand x m) (behind-left c y)) (read_relation c x y m) (by-left c x y m) (refused-after w stop (read_operand x m) (behind-left c y) h)

-- the left side was read
left-read : (c : ComparisonOf) (x y : Operand) (m k : Made) (u : Sum) → read_operand x m ≡ Ok (record { what = u; made = k }) → read_relation c x y m ≡ after (read_operand y k) (behind-both c u)
left-read c x y m k u e = by-left c x y m ∙ ap (λ (o : Result (Known Sum) Refusal). after o (behind-left c y)) e

pub right-refused : (w : Moment) (a : Making) (stop : OperandStop) (c : ComparisonOf) (x y : Operand) (m : Made) (u : Sum) → (h : HasRead w a u (read_operand x m)) → Refuses w stop (read_operand y h.made) → Refuses w stop (read_relation c x y m)
right-refused w a stop c x y m u h r =
    refused-as w stop (after (read_operand y h.made) (behind-both c u)) (read_relation c x y m) (left-read c x y m h.made u h.is) (refused-after w stop (read_operand y h.made) (behind-both c u) r)

-- both sides were read
both-read : (c : ComparisonOf) (x y : Operand) (m k l : Made) (u v : Sum) → read_operand x m ≡ Ok (record { what = u; made = k }) → read_operand y k ≡ Ok (record { what = v; made = l }) → read_relation c x y m ≡ behind-both c u v l
both-read c x y m k l u v e f = left-read c x y m k u e ∙ ap (λ (o : Result (Known Sum) Refusal). after o (behind-both c u)) f

step-is : (c : ComparisonOf) (u v : Sum) (l : Made) (b : Bool) → fits (sides_apart c u v) ≡ b → behind-both c u v l ≡ after (cond b (gives (sides_apart c u v)) (refuses wide_coefficient) l) (λ x. gives (record { rel = relation_of c; sum = and_apart c x }))
step-is c u v l b e = ap (λ (p : Bool). after (cond p (gives (sides_apart c u v)) (refuses wide_coefficient) l) (λ x. gives (record { rel = relation_of c; sum = and_apart c x }))) e

pub related : (w : Moment) (a b : Making) (c : ComparisonOf) (how : ToZero) (x y : Operand) (m : Made) (u v d : Sum) → Means how c → (h : HasRead w a u (read_operand x m)) → HasRead w b v (read_operand y h.made) → ShowsStep (Ok d) (sides_apart c u v) →
    HasRelation w b (record { how = how; sum = d }) (read_relation c x y m)
related w a b c how x y m u v d means h g (is, fit) = record {
  made = g.made;
  is = both-read c x y m h.made g.made u v h.is g.is ∙ (step-is c u v g.made true fit
      ∙ (λ i. Ok (record { what = record { rel = sym means.rel i; sum = (ap (and_apart c) (sym is) ∙ sym (means.sum d)) i }; made = g.made })));
  shown = g.shown;
  enough = g.enough;
}

pub apart-refused : (w : Moment) (a b : Making) (c : ComparisonOf) (x y : Operand) (m : Made) (u v : Sum) → (h : HasRead w a u (read_operand x m)) → HasRead w b v (read_operand y h.made) → ShowsStep (Err SumStop.Wide) (sides_apart c u v) → Refuses w OperandStop.Wide (read_relation c x y m)
apart-refused w a b c x y m u v h g wide = both-read c x y m h.made g.made u v h.is g.is ∙ step-is c u v g.made false wide
