-- What the reading of a relation answers. (Own.)
use Rattle.std.specs.Prelude.{◌≡◌, ℕ, ◌≤◌, Result, Ok, Err}
use Rattle.pi_constraints.specs.State.{next}
use Rattle.pi_constraints.specs.Store.{Moment}
use Rattle.pi_prop_spec.specs.Operands.{Comparison as ComparisonOf, equal, unequal, less, at_most, greater, at_least}
use Rattle.pi_prop_spec.specs.PostingSums.{Sum}
use Rattle.pi_prop_spec.specs.Steps.{Refusal, Made, Known}
use Rattle.pi_prop_spec.specs.Relations.{Standing, relation_of, and_apart}
use Rattle.pi_prop_made.specs.declared.making.Making.{Making}
use Rattle.pi_prop_made.specs.declared.to_zero.ToZero.{ToZero}
use Rattle.pi_prop_made.specs.Making.{Shows}
use Rattle.pi_prop_made.specs.ToZero.{rel_of, sum_for}
use Rattle.pi_prop_read.specs.declared.operands.stop.OperandStop.{OperandStop}
use Rattle.pi_prop_read.specs.OperandFrames.{Refuses}
use Rattle.pi_prop_read.specs.declared.relations.Comparison.{Comparison}
use Rattle.pi_prop_read.specs.declared.relations.Relation.{Relation}

abbrev pub comparison_of : Comparison → ComparisonOf
comparison_of Comparison.Equal = equal
comparison_of Comparison.Unequal = unequal
comparison_of Comparison.Less = less
comparison_of Comparison.AtMost = at_most
comparison_of Comparison.Greater = greater
comparison_of Comparison.AtLeast = at_least

-- how the difference of compared sides stands to 0
pub record Means (how : ToZero) (c : ComparisonOf) : Type 0 where
  pub rel : rel_of how ≡ relation_of c
  pub sum : (u : Sum) → sum_for how u ≡ and_apart c u

-- a sum that stands so to 0, with 1 more where it is below
abbrev pub standing_of : Relation → Standing
standing_of x = record { rel = rel_of x.how; sum = sum_for x.how x.sum }

-- the whole is this relation, with what was made by then
pub record HasRelation (w : Moment) (a : Making) (x : Relation) (whole : Result (Known Standing) Refusal) : Type 0 where
  pub made : Made
  pub is : whole ≡ Ok (record { what = standing_of x; made = made })
  pub shown : Shows a made
  pub enough : next w.state ≤ made.unused

abbrev pub ShowsRelation : Moment → Making → Result Relation OperandStop → Result (Known Standing) Refusal → Type 0
ShowsRelation w a (Ok x) whole = HasRelation w a x whole
ShowsRelation w a (Err stop) whole = Refuses w stop whole
