-- The laws of settling.
use Rattle.std.specs.Prelude.{◌≡◌, ◌⊎◌, ◌↔◌, ℕ, ◌+◌, ◌<◌, ℤ, IsTrue, List, [], ◌∷◌, Some, None, slice_get, Contains}
use Rattle.pi_terms.specs.Tree.{Tree, int}
use Rattle.pi_terms.specs.Places.{held}
use Rattle.pi_constraints.specs.declared.constraint.Constraint.{Constraint}
use Rattle.pi_constraints.specs.declared.constraint.Item.{Item}
use Rattle.pi_constraints.specs.declared.domain.Span.{Span}
use Rattle.pi_constraints.specs.Domain.{IsWithinBounds, has_value}
use Rattle.pi_prop_spec.specs.Places.{places_of}
use Rattle.pi_prop_spec.specs.Solutions.{value_of}
use Rattle.pi_traces.specs.Trace.{Trace, one}
use Rattle.pi_constraints.specs.Value.{Bindings, IsAcyclic}
use Rattle.pi_constraints.specs.State.{State, WatchTree, IsState, bindings, domain_of, LeadsTo}
use Rattle.pi_constraints.specs.declared.event.Event.{Event}
use Rattle.pi_constraints.specs.declared.event.Activation.{Activation}
use Rattle.pi_settling.specs.Roots.{root_item, Counts}
use Rattle.pi_settling.specs.Stable.{Domains, LieBelow, NoFilterChanges, Stays, IsStable}
use Rattle.pi_settling.specs.Events.{events_between}
use Rattle.pi_settling.specs.Answers.{leads_to, answer_to, first_answered}
use Rattle.pi_settling.specs.Settled.{IsSettled}
use Rattle.pi_settling.specs.Solves.{Solves}

-- a state has one stable state at most, and so settling comes to one trace at most
abbrev pub StableIsOne : Type 0
StableIsOne = (s r q : State) → IsStable s r → IsStable s q → r ≡ q

abbrev pub SettledIsOne : Type 0
SettledIsOne = (before s : State) (t u : Trace State) → IsSettled before s t → IsSettled before s u → t ≡ u

-- no variable has a value that it didn't have
abbrev pub StableLiesBelow : Type 0
StableLiesBelow = (s r : State) (n : ℕ) (d : List Span) → IsStable s r → domain_of s n ≡ Some d →
    ((e : List Span) (i : ℤ) → domain_of r n ≡ Some e → IsTrue (has_value e i) → IsTrue (has_value d i))
    × ((i : ℤ) → held (bindings r) n ≡ Some (int i) → IsTrue (has_value d i))

-- no solution is lost
abbrev pub SettlingKeepsSolutions : Type 0
SettlingKeepsSolutions = (s : State) (a : ℕ → ℤ) → Solves s a → (x : Item) → Counts s x → Stays s x (value_of a x)

-- domains that have the values that stay, and no others, are among those that no filter changes: so they are the greatest of these
abbrev pub StableIsUnchanged : Type 0
StableIsUnchanged = (s : State) (ds : Domains) → LieBelow s ds →
    ((x : Item) (i : ℤ) → Counts s x → Stays s x i → IsTrue (has_value (ds x) i)) →
    ((x : Item) (i : ℤ) → Counts s x → IsTrue (has_value (ds x) i) → Stays s x i) → NoFilterChanges s ds

-- where nothing changed there are no events
abbrev pub NoChangeNoEvents : Type 0
NoChangeNoEvents = (s : State) → IsState s → events_between s s ≡ []

-- what settling asks of a state: each item of a posted constraint comes to a variable with a domain, or to an integer that a domain can have
abbrev pub MaySettle : State → Type 0
MaySettle s = (c : Constraint) (y : Item) → Contains s.constraints c → Contains (places_of c) y →
    ((n : ℕ) × (d : List Span) × (root_item s y ≡ Item.Var n) × (domain_of s n ≡ Some d)) ⊎ ((i : ℤ) × (root_item s y ≡ Item.Int i) × IsWithinBounds i)

-- a way to settle: of each state that may settle it makes what settling comes to
pub record Settles (settle : State → State → Trace State) : Type 0 where
  pub each : (before s : State) → IsState s → MaySettle s → IsSettled before s (settle before s)

-- all ways to settle do the same
abbrev pub SettlingIsOne : Type 0
SettlingIsOne = (f g : State → State → Trace State) → Settles f → Settles g → (before s : State) → IsState s → MaySettle s → f before s ≡ g before s

-- a stable state is its own stable state, and settled from itself it is the one answer, without load and events
abbrev pub StableStaysStable : Type 0
StableStaysStable = (s r : State) → IsState s → IsState r → MaySettle s → IsStable s r → IsStable r r

abbrev pub SettlingTwiceIsOnce : Type 0
SettlingTwiceIsOnce = (s r : State) → IsState s → IsState r → MaySettle s → IsStable s r → IsSettled r r (one r)

-- a stable state is a state, and may settle where the state before might
abbrev pub StableIsAState : Type 0
StableIsAState = (s r : State) → IsState s → IsStable s r → IsState r

abbrev pub StableMaySettle : Type 0
StableMaySettle = (s r : State) → IsState s → MaySettle s → IsStable s r → MaySettle r

-- a state and its stable state have the same solutions
abbrev pub SolutionsStay : Type 0
SolutionsStay = (s r : State) (a : ℕ → ℤ) → IsState s → MaySettle s → IsStable s r → Solves s a ↔ Solves r a

-- whether a term leads to a variable is told as it is said
abbrev pub LeadsAreFollowed : Type 0
LeadsAreFollowed = (b : Bindings) (t : Tree) (n : ℕ) → IsAcyclic b → IsTrue (leads_to b t n) ↔ LeadsTo b t n

-- what is made of the first pattern that an event answers, of those from number i on
pub record ByFirst (b : Bindings) (e : Event) (agent i : ℕ) (ws : List WatchTree) (a : Activation) : Type 0 where
  pub place : ℕ
  pub pattern : WatchTree
  pub there : slice_get ws place ≡ Some pattern
  pub answers : answer_to b e pattern ≡ Some a.value
  pub before : (j : ℕ) (w : WatchTree) → j < place → slice_get ws j ≡ Some w → answer_to b e w ≡ None
  pub numbers : (a.agent ≡ agent) × (a.watch ≡ i + place)

-- an event wakes an agent once at most: by the first pattern that it answers, and not where it answers none
abbrev pub AgentsAreWokenOnce : Type 0
AgentsAreWokenOnce = (b : Bindings) (e : Event) (agent i : ℕ) (ws : List WatchTree) →
    ((first_answered b e agent i ws ≡ []) × ((j : ℕ) (w : WatchTree) → slice_get ws j ≡ Some w → answer_to b e w ≡ None))
    ⊎ ((a : Activation) × (first_answered b e agent i ws ≡ a ∷ []) × ByFirst b e agent i ws a)
