-- What is true of each copying store has one proof at most, as the type of a ghost field must.
use Rattle.std.specs.Prelude.{ℕ, List, [], ◌∷◌, Bool}
use mathlib.Core.HLevel.{×_prop, Unit-prop}
use Rattle.std.proofs.Props.{props}
use Rattle.pi_terms.specs.Tree.{Tree}
use Rattle.pi_atoms.specs.Names.{HasDistinct}
use Rattle.pi_types.specs.TreeStoreWalks.{AllBelow, AllWatchedBelow}
use Rattle.pi_types.specs.TreeStoreSound.{IsSoundCompound, IsSoundTerm, IsKnownBelow, IsMadeBelow, IsSoundVariable, IsSoundAgent, IsSoundState, IsSound}
use Rattle.pi_constraints.specs.declared.store.Ref.{Ref}
use Rattle.pi_constraints.specs.declared.event.Watch.{Watch}
use Rattle.pi_types.specs.declared.tree_store.state.StoredTerm.{StoredTerm}
use Rattle.pi_types.specs.declared.tree_store.state.Known.{Known}
use Rattle.pi_types.specs.declared.tree_store.state.StoredVariable.{StoredVariable}
use Rattle.pi_types.specs.declared.tree_store.state.StoredAgent.{StoredAgent}
use Rattle.pi_types.specs.declared.tree_store.state.TreeState.{TreeState}

AllBelow-prop : (n : ℕ) (rs : List Ref) → IsProp (AllBelow n rs)
unfolding AllBelow
AllBelow-prop n [] = Unit-prop
AllBelow-prop n (r ∷ rs) = ×_prop (hlevel props) (AllBelow-prop n rs)

AllWatchedBelow-prop : (n : ℕ) (ws : List Watch) → IsProp (AllWatchedBelow n ws)
unfolding AllWatchedBelow
AllWatchedBelow-prop n [] = Unit-prop
AllWatchedBelow-prop n (w ∷ ws) = ×_prop (hlevel props) (AllWatchedBelow-prop n ws)

compound_prop : (names : List (List ℕ)) (trees : List Tree) (i k : ℕ) (args : List Ref) (is_ground : Bool) → IsProp (IsSoundCompound names trees i k args is_ground)
compound_prop names trees i k args is_ground = hlevel (props, AllBelow-prop)

term_prop : (names : List (List ℕ)) (trees : List Tree) (i : ℕ) (c : StoredTerm) → IsProp (IsSoundTerm names trees i c)
term_prop names trees i (StoredTerm.Var n) = Unit-prop
term_prop names trees i (StoredTerm.Int n) = Unit-prop
term_prop names trees i (StoredTerm.Atom k) = hlevel props
term_prop names trees i (StoredTerm.Comp k args is_ground) = compound_prop names trees i k args is_ground

known_prop : (m : ℕ) (k : Known) → IsProp (IsKnownBelow m k)
known_prop m Known.Free = Unit-prop
known_prop m (Known.Within d) = Unit-prop
known_prop m (Known.Bound r) = hlevel props

made_prop : (m : ℕ) (c : StoredTerm) → IsProp (IsMadeBelow m c)
made_prop m (StoredTerm.Var n) = hlevel props
made_prop m (StoredTerm.Int n) = Unit-prop
made_prop m (StoredTerm.Atom k) = Unit-prop
made_prop m (StoredTerm.Comp k args is_ground) = Unit-prop

variable_prop : (terms : List StoredTerm) (n : ℕ) (v : StoredVariable) → IsProp (IsSoundVariable terms n v)
variable_prop terms n v = hlevel (props, known_prop)

agent_prop : (m : ℕ) (a : StoredAgent) → IsProp (IsSoundAgent m a)
agent_prop m a = hlevel (props, AllWatchedBelow-prop)

state_prop : (names : List (List ℕ)) (s : TreeState) → IsProp (IsSoundState names s)
state_prop names s = hlevel (props, term_prop, made_prop, variable_prop, agent_prop)

distinct_prop : (names : List (List ℕ)) → IsProp (HasDistinct names)
distinct_prop names = hlevel props

pub sound_prop : (names : List (List ℕ)) (earlier : List TreeState) (present : TreeState) → IsProp (IsSound names earlier present)
sound_prop names earlier present = hlevel (props, state_prop, distinct_prop)
