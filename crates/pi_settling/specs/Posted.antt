-- What a goal that posts constraints leaves: the state with its new variables and its constraints, in which each variable of these has a domain; or what it raises. It is settled behind that.
-- (A User's Guide to Picat, 'Constraints'; the default domain is own.)
use Rattle.std.specs.Prelude.{List, [], ◌∷◌, ◌++◌, Result, Ok, Err}
use Rattle.pi_terms.specs.Tree.{Tree}
use Rattle.pi_constraints.specs.declared.constraint.Constraint.{Constraint}
use Rattle.pi_constraints.specs.declared.constraint.Item.{Item}
use Rattle.pi_prop_spec.specs.Places.{places_of}
use Rattle.pi_constraints.specs.State.{State, with_constraint}
use Rattle.pi_constraints.specs.Evaluation.{with_new_variables}
use Rattle.pi_effects.specs.Effect.{Effect, Succeeds, Raises}
use Rattle.pi_settling.specs.Confined.{confined}
use Rattle.pi_prop_spec.specs.Steps.{Refusal}
use Rattle.pi_prop_spec.specs.Postings.{Posting, posting_in, raised_by}

-- more constraints, in this order
unfoldable pub with_constraints : List Constraint → State → State
with_constraints [] s = s
with_constraints (c ∷ cs) s = with_constraints cs (with_constraint s c)

-- the places of all of them
unfoldable pub places_of_all : List Constraint → List Item
places_of_all [] = []
places_of_all (c ∷ cs) = places_of c ++ places_of_all cs

-- the variables at these places that have no domain get the default one
abbrev pub posted_in : State → Posting → State
posted_in s p = confined (with_constraints p.list (with_new_variables p.fresh s)) (places_of_all p.list)

abbrev pub effect_of_posting : State → Result Posting Refusal → Effect
effect_of_posting s (Err r) = Raises (raised_by s r)
effect_of_posting s (Ok p) = Succeeds (posted_in s p)

-- the effect of the goal that a term is
abbrev pub posting_goal : State → Tree → Effect
posting_goal s t = effect_of_posting s (posting_in s t)
