-- What is true of each copying store: a compound's arguments stand below it, each variable has a term of its own, Refs and
-- names within a state are those of its terms and atoms, and each compound's flag says whether a variable occurs in it.
use Rattle.std.specs.Prelude.{◌≡◌, ◌↔◌, ℕ, ◌<◌, List, [], ◌∷◌, length, Some, slice_get, IsTrue, Bool, true, false, ◌++◌, ⊤}
use Rattle.pi_terms.specs.Tree.{Tree, comp}
use Rattle.pi_terms.specs.Variables.{IsGround}
use Rattle.pi_types.specs.TreeStore.{trees_of, trees_in, name_at}
use Rattle.pi_atoms.specs.Names.{HasDistinct}
use Rattle.pi_types.specs.TreeStoreWalks.{AllBelow, AllWatchedBelow, variable_at}
use Rattle.pi_constraints.specs.declared.store.Ref.{Ref}
use Rattle.pi_types.specs.declared.tree_store.state.StoredTerm.{StoredTerm}
use Rattle.pi_types.specs.declared.tree_store.state.Known.{Known}
use Rattle.pi_types.specs.declared.tree_store.state.StoredVariable.{StoredVariable}
use Rattle.pi_types.specs.declared.tree_store.state.StoredAgent.{StoredAgent}
use Rattle.pi_types.specs.declared.tree_store.state.TreeState.{TreeState}

pub record IsSoundCompound (names : List (List ℕ)) (trees : List Tree) (i : ℕ) (k : ℕ) (args : List Ref) (is_ground : Bool) : Type 0 where
  pub named : k < length names
  pub below : AllBelow i args
  pub flag : IsTrue is_ground ↔ IsGround (comp (name_at names k) (trees_in trees args))

-- the term with number i
abbrev pub IsSoundTerm : List (List ℕ) → List Tree → ℕ → StoredTerm → Type 0
IsSoundTerm names trees i (StoredTerm.Var n) = ⊤
IsSoundTerm names trees i (StoredTerm.Int n) = ⊤
IsSoundTerm names trees i (StoredTerm.Atom k) = k < length names
IsSoundTerm names trees i (StoredTerm.Comp k args is_ground) = IsSoundCompound names trees i k args is_ground

-- a variable's term is that of a variable that was made
abbrev pub IsMadeBelow : ℕ → StoredTerm → Type 0
IsMadeBelow m (StoredTerm.Var n) = n < m
IsMadeBelow m (StoredTerm.Int n) = ⊤
IsMadeBelow m (StoredTerm.Atom k) = ⊤
IsMadeBelow m (StoredTerm.Comp k args is_ground) = ⊤

abbrev pub IsKnownBelow : ℕ → Known → Type 0
IsKnownBelow m Known.Free = ⊤
IsKnownBelow m (Known.Within d) = ⊤
IsKnownBelow m (Known.Bound r) = r.number < m

pub record IsSoundVariable (terms : List StoredTerm) (n : ℕ) (v : StoredVariable) : Type 0 where
  pub own : variable_at (slice_get terms v.term.number) ≡ Some n
  pub known : IsKnownBelow (length terms) v.known

pub record IsSoundAgent (m : ℕ) (a : StoredAgent) : Type 0 where
  pub call : a.call.number < m
  pub watches : AllWatchedBelow m a.watches

pub record IsSoundState (names : List (List ℕ)) (s : TreeState) : Type 0 where
  pub terms : (i : ℕ) (c : StoredTerm) → slice_get s.terms i ≡ Some c → IsSoundTerm names (trees_of names s) i c
  pub made : (i : ℕ) (c : StoredTerm) → slice_get s.terms i ≡ Some c → IsMadeBelow (length s.variables) c
  pub variables : (n : ℕ) (v : StoredVariable) → slice_get s.variables n ≡ Some v → IsSoundVariable s.terms n v
  pub agents : (n : ℕ) (a : StoredAgent) → slice_get s.agents n ≡ Some a → IsSoundAgent (length s.terms) a

pub record IsSound (names : List (List ℕ)) (earlier : List TreeState) (present : TreeState) : Type 0 where
  pub distinct : HasDistinct names
  pub present_is : IsSoundState names present
  pub earlier_are : (i : ℕ) (s : TreeState) → slice_get earlier i ≡ Some s → IsSoundState names s

-- the states before the present one, when the present one is about to change
abbrev pub with_kept : List TreeState → TreeState → Bool → List TreeState
with_kept earlier present true = earlier ++ present ∷ []
with_kept earlier present false = earlier

-- a change of the present state that was made, with the names, the states before it, the present one, and whether it is
-- kept, each before and after
pub record IsAdvanced (names names' : List (List ℕ)) (earlier earlier' : List TreeState) (present present' : TreeState) (kept kept' : Bool) (next : TreeState) : Type 0 where
  pub same_names : names' ≡ names
  pub moved : earlier' ≡ with_kept earlier present kept
  pub is_next : present' ≡ next
  pub unkept : kept' ≡ false

-- a change that was refused
pub record IsSame (names names' : List (List ℕ)) (earlier earlier' : List TreeState) (present present' : TreeState) (kept kept' : Bool) : Type 0 where
  pub same_names : names' ≡ names
  pub same_earlier : earlier' ≡ earlier
  pub same_present : present' ≡ present
  pub same_kept : kept' ≡ kept
