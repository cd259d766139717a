-- What the copying store's own walks answer, by the numbers of terms and variables alone; and the changes of a state.
use Rattle.pi_constraints.specs.Store.{AscendAbove}
use Rattle.std.specs.Prelude.{◌≢◌, ◌⊎◌, ◌↔◌, IsTrue, Contains, ℕ, zero, suc, ◌<◌, ◌==◌, Bool, true, false, List, [], ◌∷◌, ◌++◌, length, Option, Some, None, slice_get, slice_set, unwrap_or, drop, cond, ⊤, ℤ}
use Rattle.std.specs.Option.{is_some}
use Rattle.pi_constraints.specs.declared.domain.Span.{Span}
use Rattle.pi_constraints.specs.declared.store.Ref.{Ref}
use Rattle.pi_constraints.specs.declared.store.Cell.{Cell}
use Rattle.pi_constraints.specs.declared.event.Watch.{Watch}
use Rattle.pi_constraints.specs.declared.constraint.Item.{Item}
use Rattle.pi_constraints.specs.declared.constraint.Constraint.{Constraint}
use Rattle.pi_types.specs.declared.tree_store.state.StoredTerm.{StoredTerm}
use Rattle.pi_types.specs.declared.tree_store.state.Known.{Known}
use Rattle.pi_types.specs.declared.tree_store.state.StoredVariable.{StoredVariable}
use Rattle.pi_types.specs.declared.tree_store.state.TreeState.{TreeState}
use Rattle.pi_types.specs.declared.tree_store.state.Change.{Change}

-- all these Refs have terms among the first n
unfoldable pub AllBelow : ℕ → List Ref → Type 0
AllBelow n [] = ⊤
AllBelow n (r ∷ rs) = (r.number < n) × AllBelow n rs

-- the Ref of an event
abbrev pub watched_ref : Watch → Ref
watched_ref (Watch.Ins r) = r
watched_ref (Watch.Bound r) = r
watched_ref (Watch.Dom r slot) = r
watched_ref (Watch.DomAny r slot) = r
watched_ref (Watch.Posted r slot) = r

unfoldable pub AllWatchedBelow : ℕ → List Watch → Type 0
AllWatchedBelow n [] = ⊤
AllWatchedBelow n (w ∷ ws) = ((watched_ref w).number < n) × AllWatchedBelow n ws

-- no variable occurs in the term, by what is stored with it; so too where there is no term
abbrev pub ground_flag : Option StoredTerm → Bool
ground_flag None = true
ground_flag (Some (StoredTerm.Var n)) = false
ground_flag (Some (StoredTerm.Int n)) = true
ground_flag (Some (StoredTerm.Atom k)) = true
ground_flag (Some (StoredTerm.Comp k args is_ground)) = is_ground

abbrev pub is_ground_in : TreeState → Ref → Bool
is_ground_in s r = ground_flag (slice_get s.terms r.number)

unfoldable pub all_ground_in : TreeState → List Ref → Bool
all_ground_in s [] = true
all_ground_in s (r ∷ rs) = cond (is_ground_in s r) (all_ground_in s rs) false

-- what a variable is bound to
abbrev pub bound_ref : Known → Option Ref
bound_ref Known.Free = None
bound_ref (Known.Within d) = None
bound_ref (Known.Bound r) = Some r

abbrev pub bound_ref_of : Option StoredVariable → Option Ref
bound_ref_of None = None
bound_ref_of (Some v) = bound_ref v.known

abbrev pub binding_in : TreeState → ℕ → Option Ref
binding_in s n = bound_ref_of (slice_get s.variables n)

-- the variable that a term is
abbrev pub variable_at : Option StoredTerm → Option ℕ
variable_at None = None
variable_at (Some (StoredTerm.Var n)) = Some n
variable_at (Some (StoredTerm.Int n)) = None
variable_at (Some (StoredTerm.Atom k)) = None
variable_at (Some (StoredTerm.Comp k args is_ground)) = None

abbrev pub variable_in : TreeState → Ref → Option ℕ
variable_in s r = variable_at (slice_get s.terms r.number)

abbrev pub binding_of_any : TreeState → Option ℕ → Option Ref
binding_of_any s None = None
binding_of_any s (Some n) = binding_in s n

-- a term, or what it is bound to directly
abbrev pub step_in : TreeState → Ref → Ref
step_in s r = unwrap_or (binding_of_any s (variable_in s r)) r

-- so many steps
unfoldable pub steps_in : ℕ → TreeState → Ref → Ref
steps_in zero s r = r
steps_in (suc k) s r = steps_in k s (step_in s r)

-- as many steps as there are variables
abbrev pub followed_in : TreeState → Ref → Ref
followed_in s r = steps_in (length s.variables) s r

-- what a term is, with no binding followed
abbrev pub cell_at : ℕ → Option StoredTerm → Cell
cell_at n None = Cell.Var n
cell_at n (Some (StoredTerm.Var m)) = Cell.Var m
cell_at n (Some (StoredTerm.Int i)) = Cell.Int i
cell_at n (Some (StoredTerm.Atom k)) = Cell.Atom k
cell_at n (Some (StoredTerm.Comp k args is_ground)) = Cell.Comp k (length args)

abbrev pub cell_in : TreeState → Ref → Cell
cell_in s r = cell_at (length s.variables) (slice_get s.terms r.number)

-- an argument of a term, and the Ref itself where there is no such argument
abbrev pub arg_of : Ref → ℕ → Option StoredTerm → Ref
arg_of r i None = r
arg_of r i (Some (StoredTerm.Var n)) = r
arg_of r i (Some (StoredTerm.Int n)) = r
arg_of r i (Some (StoredTerm.Atom k)) = r
arg_of r i (Some (StoredTerm.Comp k args is_ground)) = unwrap_or (slice_get args i) r

abbrev pub arg_in : TreeState → Ref → ℕ → Ref
arg_in s r i = arg_of r i (slice_get s.terms r.number)

-- the term of a variable
abbrev pub term_of : Option StoredVariable → Ref
term_of None = record { number = 0 }
term_of (Some v) = v.term

abbrev pub unless_bound : ℕ → Option Ref → Option ℕ
unless_bound n None = Some n
unless_bound n (Some r) = None

abbrev pub unbound_of : ℕ → Option StoredVariable → Option ℕ
unbound_of n None = None
unbound_of n (Some v) = unless_bound n (bound_ref v.known)

abbrev pub unbound_cell : TreeState → Cell → Option ℕ
unbound_cell s (Cell.Var n) = unbound_of n (slice_get s.variables n)
unbound_cell s (Cell.Int n) = None
unbound_cell s (Cell.Atom k) = None
unbound_cell s (Cell.Comp k count) = None

-- the unbound variable that a term is
abbrev pub unbound_in : TreeState → Ref → Option ℕ
unbound_in s r = unbound_cell s (cell_in s (followed_in s r))

-- the domain of a variable that is not bound and has one
abbrev pub known_domain : Known → Option (List Span)
known_domain Known.Free = None
known_domain (Known.Within d) = Some d
known_domain (Known.Bound r) = None

abbrev pub known_domain_of : Option StoredVariable → Option (List Span)
known_domain_of None = None
known_domain_of (Some v) = known_domain v.known

abbrev pub known_domain_in : TreeState → ℕ → Option (List Span)
known_domain_in s n = known_domain_of (slice_get s.variables n)

-- the number is that of a variable that is not bound
abbrev pub is_unbound_in : TreeState → ℕ → Bool
is_unbound_in s n = is_some (unbound_of n (slice_get s.variables n))

abbrev pub any_in : (ℕ → Bool) → Option ℕ → Bool
any_in p None = false
any_in p (Some n) = p n

abbrev pub variable_of_any : TreeState → Option Ref → Option ℕ
variable_of_any s None = None
variable_of_any s (Some r) = variable_in s r

-- a variable is the second one, or bound to it in so many steps
unfoldable pub leads_for : ℕ → TreeState → ℕ → ℕ → Bool
leads_for zero s n v = n == v
leads_for (suc k) s n v = cond (n == v) true (any_in (λ m. leads_for k s m v) (variable_of_any s (binding_in s n)))

abbrev pub leads_in : TreeState → ℕ → ℕ → Bool
leads_in s n v = leads_for (length s.variables) s n v

abbrev pub item_leads : TreeState → Item → ℕ → Bool
item_leads s (Item.Var n) v = leads_in s n v
item_leads s (Item.Int i) v = false

unfoldable pub items_lead : TreeState → List Item → ℕ → Bool
items_lead s [] v = false
items_lead s (i ∷ is) v = cond (item_leads s i v) true (items_lead s is v)

unfoldable pub sum_leads : TreeState → List (ℤ × ℕ) → ℕ → Bool
sum_leads s [] v = false
sum_leads s (t ∷ ts) v = cond (leads_in s t.1 v) true (sum_leads s ts v)

abbrev pub constraint_leads : TreeState → Constraint → ℕ → Bool
constraint_leads s (Constraint.Linear rel terms constant) v = sum_leads s terms v
constraint_leads s (Constraint.Product z x y) v = cond (item_leads s z v) true (cond (item_leads s x v) true (item_leads s y v))
constraint_leads s (Constraint.Absolute z x) v = cond (item_leads s z v) true (item_leads s x v)
constraint_leads s (Constraint.Different items) v = items_lead s items v
constraint_leads s (Constraint.Element index items value) v = cond (item_leads s index v) true (cond (items_lead s items v) true (item_leads s value v))
constraint_leads s (Constraint.Reified truth rel terms constant) v = cond (item_leads s truth v) true (sum_leads s terms v)
constraint_leads s (Constraint.Distinct items) v = items_lead s items v

-- a variable stands in the constraint with a number
abbrev pub posted_of : TreeState → ℕ → Option Constraint → Bool
posted_of s v None = false
posted_of s v (Some c) = constraint_leads s c v

abbrev pub posted_in : TreeState → ℕ → ℕ → Bool
posted_in s v i = posted_of s v (slice_get s.constraints i)

-- a variable that is not bound in the first state is bound in the second one, or has another domain there
abbrev pub HasChangedIn : TreeState → TreeState → ℕ → Type 0
HasChangedIn s u n = IsTrue (is_unbound_in s n) × (IsTrue (is_some (binding_in u n)) ⊎ (known_domain_in u n ≢ known_domain_in s n))

-- the numbers ascend, and are those below the bound of which this is so
pub record ListsBelow (P : ℕ → Type 0) (bound : ℕ) (ns : List ℕ) : Type 0 where
  pub ascend : AscendAbove 0 ns
  pub has : (n : ℕ) → Contains ns n ↔ ((n < bound) × P n)

-- a state after a change
abbrev pub changed : TreeState → Change → TreeState
changed s (Change.Term t) = record s { terms = s.terms ++ t ∷ [] }
changed s Change.NewVariable = record s { terms = s.terms ++ StoredTerm.Var (length s.variables) ∷ []; variables = s.variables ++ (record { term = record { number = length s.terms }; known = Known.Free }) ∷ [] }
changed s (Change.SetVariable n v) = record s { variables = slice_set s.variables n v }
changed s (Change.Post c) = record s { constraints = s.constraints ++ c ∷ [] }
changed s (Change.Suspend a) = record s { agents = s.agents ++ a ∷ [] }
changed s (Change.SetAgent n a) = record s { agents = slice_set s.agents n a }
changed s (Change.Wait a) = record s { waiting = s.waiting ++ a ∷ [] }
changed s Change.DropWaiting = record s { waiting = drop 1 s.waiting }
