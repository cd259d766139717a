-- The laws of labelling.
use Rattle.std.specs.Prelude.{◌≡◌, ◌↔◌, ℕ, ◌<◌, ℤ, pos, ◌&&◌, IsTrue, List, [], ◌∷◌, length, get_or, Contains, Option, Some, None}
use Rattle.pi_terms.specs.Places.{held}
use Rattle.pi_constraints.specs.declared.constraint.Item.{Item}
use Rattle.pi_constraints.specs.declared.domain.Span.{Span}
use Rattle.pi_constraints.specs.Domain.{IsDomain, has_value}
use Rattle.pi_traces.specs.Trace.{Trace, one}
use Rattle.pi_traces.specs.Depth.{DepthOnlyAdds}
use Rattle.pi_constraints.specs.State.{State, bindings, next, domain_of, IsState}
use Rattle.pi_settling.specs.Roots.{root_item}
use Rattle.pi_settling.specs.Solves.{Solves}
use Rattle.pi_settling.specs.SettlingLaws.{MaySettle}
use Rattle.pi_settling.specs.Options.{Options, ValueWord}
use Rattle.pi_settling.specs.Confined.{confined}
use Rattle.pi_settling.specs.Choices.{pending, Alternative, is_value, allows, alternatives, left_by, narrowed_to}
use Rattle.pi_settling.specs.Label.{Settling, Lower, labelled, labelling}
use Rattle.pi_settling.specs.Reading.{Solving}
use Rattle.pi_settling.specs.Rounds.{solved}
use Rattle.pi_settling.specs.Assignments.{IsFirst, AreAll, IsSatSolved}

-- one of these alternatives allows a value, and no other does
pub record OneAllows (alts : List Alternative) (i : ℤ) : Type 0 where
  pub place : ℕ
  pub inside : place < length alts
  pub does : IsTrue (allows (get_or alts place (is_value (pos 0))) i)
  pub only : (j : ℕ) → j < length alts → IsTrue (allows (get_or alts j (is_value (pos 0))) i) → j ≡ place

-- the alternatives part a domain
abbrev pub AlternativesPartTheDomain : Type 0
AlternativesPartTheDomain = (w : ValueWord) (d : List Span) (i : ℤ) → IsDomain d → IsTrue (has_value d i) → OneAllows (alternatives w d) i

-- what an alternative leaves of a domain is the values that it allows
abbrev pub LeftIsAllowed : Type 0
LeftIsAllowed = (a : Alternative) (d : List Span) (i : ℤ) → IsDomain d → has_value (left_by a d) i ≡ (has_value d i && allows a i)

abbrev pub LeftIsADomain : Type 0
LeftIsADomain = (a : Alternative) (d : List Span) → IsDomain d → IsDomain (left_by a d)

-- a state that is narrowed by an alternative has those solutions whose value it allows; where nothing is left it allows none
abbrev pub NarrowingKeepsSolutions : Type 0
NarrowingKeepsSolutions = (s : State) (n : ℕ) (d : List Span) (alternative : Alternative) (a : ℕ → ℤ) → IsState s → MaySettle s → domain_of s n ≡ Some d →
    ((r : State) → narrowed_to s n (left_by alternative d) ≡ Some r → Solves r a ↔ (Solves s a × IsTrue (allows alternative (a n))))
    × (narrowed_to s n (left_by alternative d) ≡ None → Solves s a → IsTrue (allows alternative (a n)) → ⊥)

-- where labelling begins each of its unbound variables has a domain, and nothing more is bound
abbrev pub ConfinedHaveDomains : Type 0
ConfinedHaveDomains = (s : State) (items : List Item) (x : Item) (n : ℕ) → Contains items x → root_item s x ≡ Item.Var n → n < next s → held (bindings s) n ≡ None →
    (d : List Span) × (domain_of (confined s items) n ≡ Some d)

abbrev pub ConfiningBindsNothing : Type 0
ConfiningBindsNothing = (s : State) (items : List Item) → bindings (confined s items) ≡ bindings s

-- where no variable is unbound, labelling adds nothing
abbrev pub LabellingNothing : Type 0
LabellingNothing = (settle : Settling) (below : Option Lower) (o : Options) (items : List Item) (s : State) → pending s items ≡ [] → labelled settle below o items s ≡ one s

-- more depth only adds, where it does for what runs what waits
abbrev pub LabellingDoesMore : Type 0
LabellingDoesMore = (settle : Settling) (drains : ℕ → State → Trace State) (o : Options) (items : List Item) →
    ((s : State) → DepthOnlyAdds (λ d. drains d s)) → (s : State) → DepthOnlyAdds (λ d. labelling settle drains o items d s)

-- and so with an objective
abbrev pub SolvingDoesMore : Type 0
SolvingDoesMore = (p : Solving) → ((s : State) → DepthOnlyAdds (λ d. p.drains d s)) → (s : State) → DepthOnlyAdds (λ d. solved p d s)

-- there is one first assignment at most
abbrev pub FirstIsOne : Type 0
FirstIsOne = (s : State) (items : List Item) (values others : List ℤ) → IsFirst s items values → IsFirst s items others → values ≡ others

-- and so `sat_solve` comes to one trace at most
abbrev pub SatSolvedIsOne : Type 0
SatSolvedIsOne = (s : State) (items : List Item) (t u : Trace State) → IsSatSolved s items t → IsSatSolved s items u → t ≡ u

-- of all assignments the first one is the first
abbrev pub FirstOfAll : Type 0
FirstOfAll = (s : State) (items : List Item) (values : List ℤ) (more : List (List ℤ)) → AreAll s items (values ∷ more) → IsFirst s items values
