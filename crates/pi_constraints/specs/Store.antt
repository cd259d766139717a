-- What a store holds, as its contracts see it, and what its calls do to it.
use Rattle.std.specs.Prelude.{◌≡◌, ◌≢◌, ◌⊎◌, ◌↔◌, ℕ, suc, ◌<◌, ◌≤◌, Bool, true, false, List, [], ◌∷◌, length, Contains, Option, Some, None, Result, Ok, Err, slice_get, ⊤}
use Rattle.pi_terms.specs.Tree.{Tree, var, int, atom, comp, cells, most_cells, Trees, no_trees, tree, args, arity}
use Rattle.pi_terms.specs.Places.{held}
use Rattle.pi_constraints.specs.Value.{IsAcyclic, MayBind}
use Rattle.pi_constraints.specs.Domain.{size_of}
use Rattle.pi_constraints.specs.Constraint.{SpeaksOf}
use Rattle.pi_constraints.specs.State.{State, Agent, WatchTree, on_ins, on_bound, on_dom, on_dom_any, on_posted, bindings, domain_of, followed, LeadsTo, IsUnbound, with_binding, with_domain, with_agent, with_waiting}
use Rattle.pi_constraints.specs.declared.store.Ref.{Ref}
use Rattle.pi_constraints.specs.declared.store.Cell.{Cell}
use Rattle.pi_constraints.specs.declared.event.Watch.{Watch}
use Rattle.pi_constraints.specs.declared.store.ReadStop.{ReadStop}
use Rattle.pi_constraints.specs.declared.domain.Span.{Span}
use Rattle.pi_constraints.specs.declared.constraint.Constraint.{Constraint}
use Rattle.pi_constraints.specs.declared.event.AgentView.{AgentView}
use Rattle.pi_constraints.specs.declared.event.Activation.{Activation}

-- the terms that a store has, by the numbers of their Refs; None for a number that stands for no term now
abbrev pub Terms : Type 0
Terms = ℕ → Option Tree

-- what a store holds at one moment; and the words of which it consists, in a store that can keep a state beside a mark
pub record Moment : Type 0 where
  pub state : State
  pub terms : Terms
  pub words : List (List ℕ)

-- a state that is kept beside a mark: the words of which the store consists where it comes back to the mark, the state, and the names of atoms
-- in it; and a number that whoever keeps it chose
pub record Beside : Type 0 where
  pub from : List (List ℕ)
  pub state : State
  pub names : List (List ℕ)
  pub number : ℕ

-- a store, over its marks: what it holds now, what each mark brings back, which marks are good, what each keeps beside that, and the names of
-- its atoms by their numbers, which are never taken back
pub record StoreView (Mark : Type 0) : Type 0 where
  pub now : Moment
  pub at_mark : Mark → Moment
  pub is_good : Mark → Bool
  pub beside : Mark → Option Beside
  pub names : List (List ℕ)

-- a mark is good, as one is that was made at or before the present state and not undone past
abbrev pub IsGood : {M : Type 0} → StoreView M → M → Type 0
IsGood v m = v.is_good m ≡ true

-- the term of a Ref
abbrev pub IsTerm : {M : Type 0} → StoreView M → Ref → Tree → Type 0
IsTerm v r t = v.now.terms r.number ≡ Some t

-- the terms of Refs, from the left
unfoldable pub AreTerms : {M : Type 0} → StoreView M → List Ref → Trees → Type 0
AreTerms v [] no_trees = ⊤
AreTerms v [] (tree t ts) = ⊥
AreTerms v (r ∷ rs) no_trees = ⊥
AreTerms v (r ∷ rs) (tree t ts) = IsTerm v r t × AreTerms v rs ts

-- the name of an atom
abbrev pub IsName : {M : Type 0} → StoreView M → ℕ → List ℕ → Type 0
IsName v k name = slice_get v.names k ≡ Some name

-- the event that an agent waits for, with the term of its Ref
abbrev pub IsWatch : {M : Type 0} → StoreView M → Watch → WatchTree → Type 0
IsWatch v (Watch.Ins r) w = (t : Tree) × IsTerm v r t × (w ≡ on_ins t)
IsWatch v (Watch.Bound r) w = (t : Tree) × IsTerm v r t × (w ≡ on_bound t)
IsWatch v (Watch.Dom r slot) w = (t : Tree) × IsTerm v r t × (w ≡ on_dom t slot)
IsWatch v (Watch.DomAny r slot) w = (t : Tree) × IsTerm v r t × (w ≡ on_dom_any t slot)
IsWatch v (Watch.Posted r slot) w = (t : Tree) × IsTerm v r t × (w ≡ on_posted t slot)

unfoldable pub AreWatches : {M : Type 0} → StoreView M → List Watch → List WatchTree → Type 0
AreWatches v [] [] = ⊤
AreWatches v [] (w ∷ ws) = ⊥
AreWatches v (r ∷ rs) [] = ⊥
AreWatches v (r ∷ rs) (w ∷ ws) = IsWatch v r w × AreWatches v rs ws

-- what a term is at its root
abbrev pub ShowsCell : {M : Type 0} → StoreView M → Tree → Cell → Type 0
ShowsCell v t (Cell.Var n) = t ≡ var n
ShowsCell v t (Cell.Int n) = t ≡ int n
ShowsCell v t (Cell.Atom k) = (name : List ℕ) × IsName v k name × (t ≡ atom name)
ShowsCell v t (Cell.Comp k count) = (name : List ℕ) × IsName v k name × (t ≡ comp name (args t)) × (count ≡ arity t)

-- An agent as it is shown: None for one that was not made or has ended
abbrev pub ShowsAgent : {M : Type 0} → StoreView M → ℕ → Option AgentView → Type 0
ShowsAgent v n None = (a : Agent) → slice_get v.now.state.agents n ≡ Some a → a.alive ≡ false
ShowsAgent v n (Some shown) = (a : Agent) × (slice_get v.now.state.agents n ≡ Some a) × (a.alive ≡ true) × IsTerm v shown.call a.call × (shown.rule ≡ a.rule)

-- What stays in every call but `undo`: good marks are good and bring back the same, each keeps the same beside, Refs have the same terms,
-- atoms the same names
pub record Keeps {M : Type 0} (v w : StoreView M) : Type 0 where
  pub good : (m : M) → IsGood v m → IsGood w m
  pub same : (m : M) → IsGood v m → w.at_mark m ≡ v.at_mark m
  pub beside : (m : M) → w.beside m ≡ v.beside m
  pub terms : (r : Ref) (t : Tree) → IsTerm v r t → IsTerm w r t
  pub names : (k : ℕ) (name : List ℕ) → IsName v k name → IsName w k name

-- a call that makes the state this one
pub record Changes {M : Type 0} (v w : StoreView M) (s : State) : Type 0 where
  pub keeps : Keeps v w
  pub state : w.now.state ≡ s

-- a call that changes nothing
abbrev pub Stays : {M : Type 0} → StoreView M → StoreView M → Type 0
Stays v w = Changes v w v.now.state

-- a call that makes the state this one, and answers the Ref of this term
pub record Gives {M : Type 0} (v w : StoreView M) (s : State) (r : Ref) (t : Tree) : Type 0 where
  pub changes : Changes v w s
  pub term : IsTerm w r t

-- A mark that is made: it brings back what the store held, keeps nothing beside, and its order is not below that of any good mark
pub record Marks {M : Type 0} (order : M → ℕ) (v w : StoreView M) (m : M) : Type 0 where
  pub stays : Stays v w
  pub good : IsGood w m
  pub brings_back : w.at_mark m ≡ v.now
  pub nothing : w.beside m ≡ None
  pub newest : (n : M) → IsGood v n → order n ≤ order m

-- A return to a mark: the store holds what it held then; marks that are not newer stay good
pub record Returns {M : Type 0} (order : M → ℕ) (v w : StoreView M) (m : M) : Type 0 where
  pub now : w.now ≡ v.at_mark m
  pub beside : (n : M) → w.beside n ≡ v.beside n
  pub good : (n : M) → IsGood v n → order n ≤ order m → IsGood w n
  pub same : (n : M) → IsGood v n → order n ≤ order m → w.at_mark n ≡ v.at_mark n
  pub names : (k : ℕ) (name : List ℕ) → IsName v k name → IsName w k name

-- A variable is bound to a term in whose value it doesn't occur: both are followed at their roots first
abbrev pub Binds : {M : Type 0} → StoreView M → StoreView M → Ref → Ref → Type 0
Binds v w r q = (n : ℕ) (t u : Tree) → IsTerm v r t → IsTerm v q u → followed (bindings v.now.state) t ≡ var n → MayBind (bindings v.now.state) n u → Changes v w (with_binding v.now.state n (followed (bindings v.now.state) u))

-- An unbound variable gets a domain of two or more values
abbrev pub Confines : {M : Type 0} → StoreView M → StoreView M → Ref → List Span → Type 0
Confines v w r d = (n : ℕ) (t : Tree) → IsTerm v r t → IsAcyclic (bindings v.now.state) → followed (bindings v.now.state) t ≡ var n → IsUnbound v.now.state n → 2 ≤ size_of d → Changes v w (with_domain v.now.state n d)

-- A call becomes the agent with this number
pub record Suspends {M : Type 0} (v w : StoreView M) (call : Ref) (rule : ℕ) (watches : List Watch) (made : ℕ) : Type 0 where
  pub number : made ≡ length v.now.state.agents
  pub agent : (t : Tree) (ws : List WatchTree) → IsTerm v call t → AreWatches v watches ws → Changes v w (with_agent v.now.state (record { call = t; rule = rule; watches = ws; alive = true }))

-- The first activation that waits is taken
abbrev pub TakesFirst : {M : Type 0} → StoreView M → StoreView M → Option Activation → Type 0
TakesFirst v w None = (v.now.state.waiting ≡ []) × Stays v w
TakesFirst v w (Some a) = (rest : List Activation) × (v.now.state.waiting ≡ a ∷ rest) × Changes v w (with_waiting v.now.state rest)

-- a term that is read, or refused for its size
abbrev pub ShowsRead : Tree → Result Tree ReadStop → Type 0
ShowsRead t (Ok read) = (read ≡ t) × (cells t ≤ most_cells)
ShowsRead t (Err ReadStop.TooLarge) = most_cells < cells t
ShowsRead t (Err ReadStop.Memory) = ⊤

-- the numbers ascend, and are those of which this is so
unfoldable pub AscendAbove : ℕ → List ℕ → Type 0
AscendAbove least [] = ⊤
AscendAbove least (n ∷ ns) = (least ≤ n) × AscendAbove (suc n) ns

pub record Lists (P : ℕ → Type 0) (ns : List ℕ) : Type 0 where
  pub ascend : AscendAbove 0 ns
  pub has : (n : ℕ) → Contains ns n ↔ P n

-- a variable occurs in the constraint with this number, itself or as one that is bound to it directly or through others
abbrev pub IsPostedOn : State → ℕ → ℕ → Type 0
IsPostedOn s v i = (c : Constraint) × (n : ℕ) × (slice_get s.constraints i ≡ Some c) × SpeaksOf c n × LeadsTo (bindings s) (var n) v

-- a variable was unbound in the first state, and is bound in the second one or has another domain there
abbrev pub HasChanged : State → State → ℕ → Type 0
HasChanged s u n = IsUnbound s n × ((held (bindings u) n ≢ None) ⊎ (domain_of u n ≢ domain_of s n))

-- terms that are there at one moment are the same at a later one
abbrev pub Extend : Terms → Terms → Type 0
Extend t u = (n : ℕ) (x : Tree) → t n ≡ Some x → u n ≡ Some x

-- ---- a state beside a mark

-- names of atoms, by their numbers, are those of a store
abbrev pub AreNames : {M : Type 0} → StoreView M → List (List ℕ) → Type 0
AreNames v names = (k : ℕ) (name : List ℕ) → slice_get names k ≡ Some name → IsName v k name

-- what a mark keeps beside can be brought back where the store comes back to the mark
abbrev pub StandsBeside : {M : Type 0} → StoreView M → M → Type 0
StandsBeside v m = (b : Beside) → v.beside m ≡ Some b → (b.from ≡ (v.at_mark m).words) × AreNames v b.names

-- A mark that brings back what another one does, and keeps the present state beside, with a number
pub record KeepsBeside {M : Type 0} (order : M → ℕ) (v : StoreView M) (m kept : M) (number : ℕ) : Type 0 where
  pub order_is : order kept ≡ order m
  pub good : IsGood v kept
  pub same : v.at_mark kept ≡ v.at_mark m
  pub beside : Beside
  pub is_beside : v.beside kept ≡ Some beside
  pub state : beside.state ≡ v.now.state
  pub number_is : beside.number ≡ number
  pub stands : StandsBeside v kept

-- A state that was kept beside a mark is brought back, where the store has come back to that mark
abbrev pub BringsBack : {M : Type 0} → StoreView M → StoreView M → M → Type 0
BringsBack v w m = (b : Beside) → v.beside m ≡ Some b → b.from ≡ v.now.words → AreNames v b.names → Changes v w b.state
