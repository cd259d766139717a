-- The items are judged first, then the index and the value.
use Rattle.std.proofs.Common.{subst}
use Rattle.pi_constraints.specs.declared.constraint.Constraint.{Constraint}
use Rattle.pi_prop_made.specs.Items.{IsJudged}
use Rattle.pi_prop_made.proofs.ItemLemmas.{element-limit, index-wide, value-wide, element-kept}
use Rattle.pi_prop_made.proofs.making.Making.post_element.Goals as goal

pub returns-in-Some : goal.returns-in-Some
returns-in-Some c = λ m i v xs a b j s. c.refuse.ensures m (Constraint.Element i xs v) s (element-limit c.in-Some.limit i v xs (c.in-Some.ensures xs j))

pub returns-in_default-index : goal.returns-in_default-index
returns-in_default-index c = λ m i v xs a b j s. c.refuse-in_default-index.ensures m (Constraint.Element i xs v) s (index-wide i v xs (subst (λ o. IsJudged o i) c.in_default-index.is a) (c.in_default.ensures xs j))

pub returns-in_default-value : goal.returns-in_default-value
returns-in_default-value c = λ m i v xs a b j s. c.refuse-in_default-value.ensures m (Constraint.Element i xs v) s (value-wide i v xs (subst (λ o. IsJudged o v) c.in_default-value.is b) (c.in_default.ensures xs j))

pub returns : goal.returns
returns c = λ m i v xs a b j s.
    element-kept c.keep.new.self m c.in-Some-index.index i c.in-Some-value.value v c.args.items xs (subst (λ o. IsJudged o i) c.in-Some-index.is a) (subst (λ o. IsJudged o v) c.in-Some-value.is b) j (c.in_default.ensures xs j)
    (λ e. c.in_ok-keep.ensures m e s)
