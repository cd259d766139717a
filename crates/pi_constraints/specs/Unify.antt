-- Unification: a state in which two terms are one (A User's Guide to Picat, 'Equality Testing, and Unification'), and the
-- common values of variables that have domains. In which order pairs of terms are taken and variables are bound is own.
use Rattle.std.specs.Prelude.{◌≡◌, ◌↔◌, ℕ, zero, suc, ◌+◌, ◌*◌, ◌<◌, ◌==◌, Bool, true, false, cond, not, ◌&&◌, List, [], ◌∷◌, ◌++◌, Option, Some, None, ℤ, IsTrue, nat_lt, ⊤}
use Rattle.std.specs.Ordering.{is_eq, int_cmp}
use Rattle.std.specs.List.{list_any}
use Rattle.pi_terms.specs.Tree.{Tree, var, int, atom, comp, Trees, no_trees, tree, cells, tree_count}
use Rattle.pi_terms.specs.Places.{held}
use Rattle.pi_terms.specs.Order.{name_order}
use Rattle.pi_terms.specs.Variables.{occurrences}
use Rattle.pi_terms.specs.Substitution.{instance}
use Rattle.pi_constraints.specs.Domain.{has_value, values_of, common}
use Rattle.pi_constraints.specs.Value.{Bindings, value, Solves}
use Rattle.pi_constraints.specs.State.{State, bindings, next, domain_of, followed, with_binding, with_domain, SpeaksBelow, IsState}
use Rattle.pi_constraints.specs.declared.domain.Span.{Span}

-- two terms that are to be one
abbrev pub Pair : Type 0
Pair = Tree × Tree

-- the arguments of two compounds in pairs, from the left
unfoldable pub in_pairs : Trees → Trees → List Pair
in_pairs no_trees us = []
in_pairs (tree t ts) no_trees = []
in_pairs (tree t ts) (tree u us) = (t, u) ∷ in_pairs ts us

-- what a pair comes to: the terms can't be one, they are one in this state, or they are one where these pairs are
pub data Outcome : Type 0 where
  clash : Outcome
  changed : State → Outcome
  parts : List Pair → Outcome

-- a variable occurs in a term
abbrev pub does_occur : ℕ → Tree → Bool
does_occur n t = list_any (λ m. m == n) (occurrences t)

-- a variable with this domain can be the term, which is no variable
abbrev pub admits : Option (List Span) → Tree → Bool
admits None t = true
admits (Some d) (int i) = has_value d i
admits (Some d) t = false

-- a variable is made equal to a term that is none: not where it occurs in the term's value, and not where the term is
-- no value of its domain
unfoldable pub assigned : State → ℕ → Tree → Outcome
assigned s n t = cond (not (does_occur n (value (bindings s) t)) && admits (domain_of s n) t) (changed (with_binding s n t)) clash

-- two variables are made equal that have common values: the higher is bound to the lower; with one common value the
-- lower is bound too
abbrev pub confined : State → ℕ → ℕ → List Span → List ℤ → Outcome
confined s low high d [] = clash
confined s low high d (i ∷ []) = changed (with_binding (with_binding s high (var low)) low (int i))
confined s low high d (i ∷ j ∷ rest) = changed (with_domain (with_binding s high (var low)) low d)

-- two variables are made equal: the higher is bound to the lower, which gets the domain of that one that has one, or the
-- common values
abbrev pub joined_with : State → ℕ → ℕ → Option (List Span) → Option (List Span) → Outcome
joined_with s low high d None = changed (with_binding s high (var low))
joined_with s low high None (Some e) = changed (with_domain (with_binding s high (var low)) low e)
joined_with s low high (Some d) (Some e) = confined s low high (common d e) (values_of (common d e))

unfoldable pub joined : State → ℕ → ℕ → Outcome
joined s low high = joined_with s low high (domain_of s low) (domain_of s high)

-- a pair of terms that were followed at their roots
unfoldable pub outcome : State → Tree → Tree → Outcome
outcome s (var m) (var n) = cond (m == n) (parts []) (cond (nat_lt m n) (joined s m n) (joined s n m))
outcome s (var n) (int i) = assigned s n (int i)
outcome s (var n) (atom f) = assigned s n (atom f)
outcome s (var n) (comp f ts) = assigned s n (comp f ts)
outcome s (int i) (var n) = assigned s n (int i)
outcome s (int i) (int j) = cond (is_eq (int_cmp i j)) (parts []) clash
outcome s (int i) (atom f) = clash
outcome s (int i) (comp f ts) = clash
outcome s (atom f) (var n) = assigned s n (atom f)
outcome s (atom f) (int i) = clash
outcome s (atom f) (atom g) = cond (is_eq (name_order f g)) (parts []) clash
outcome s (atom f) (comp g us) = clash
outcome s (comp f ts) (var n) = assigned s n (comp f ts)
outcome s (comp f ts) (int i) = clash
outcome s (comp f ts) (atom g) = clash
outcome s (comp f ts) (comp g us) = cond (is_eq (name_order f g) && (tree_count ts == tree_count us)) (parts (in_pairs ts us)) clash

-- after the outcome of a pair, `rest` unifies the pairs that it leaves and those behind it
abbrev pub go_on : (State → List Pair → Option State) → State → List Pair → Outcome → Option State
go_on rest s ps clash = None
go_on rest s ps (changed r) = rest r ps
go_on rest s ps (parts qs) = rest s (qs ++ ps)

-- so many pairs at most, from the left, each followed at its roots in the state that those before it made
unfoldable pub unified_for : ℕ → State → List Pair → Option State
unified_for k s [] = Some s
unified_for zero s (p ∷ ps) = None
unified_for (suc k) s (p ∷ ps) = go_on (unified_for k) s ps (outcome s (followed (bindings s) p.0) (followed (bindings s) p.1))

-- how many variables are unbound
unfoldable pub unbound_in : Bindings → ℕ
unbound_in [] = 0
unbound_in (None ∷ b) = suc (unbound_in b)
unbound_in (Some t ∷ b) = unbound_in b

-- the cells of the values of the pairs
unfoldable pub cells_of_pairs : Bindings → List Pair → ℕ
cells_of_pairs b [] = 0
cells_of_pairs b (p ∷ ps) = (cells (value b p.0) + cells (value b p.1)) + cells_of_pairs b ps

-- more pairs than are taken with so many unbound variables and cells: a pair that binds none has fewer cells after it,
-- and a variable that is bound puts at most all the cells in place of each
unfoldable pub most_pairs : ℕ → ℕ → ℕ
most_pairs zero m = m
most_pairs (suc n) m = m + most_pairs n (m * m)

abbrev pub pairs_ahead : State → List Pair → ℕ
pairs_ahead s ps = most_pairs (unbound_in (bindings s)) (cells_of_pairs (bindings s) ps)

-- all pairs, from the left
unfoldable pub all_unified : State → List Pair → Option State
all_unified s ps = unified_for (pairs_ahead s ps) s ps

-- the state in which two terms are one; None where there is none
abbrev pub unified : State → Tree → Tree → Option State
unified s t u = all_unified s ((t, u) ∷ [])

-- Laws

-- the pairs speak of variables below n alone
unfoldable pub PairsBelow : ℕ → List Pair → Type 0
PairsBelow n [] = ⊤
PairsBelow n (p ∷ ps) = SpeaksBelow n p.0 × SpeaksBelow n p.1 × PairsBelow n ps

-- no pairs leave the state
abbrev pub NoPairsLeaveTheState : Type 0
NoPairsLeaveTheState = (s : State) → all_unified s [] ≡ Some s

-- the pair that stands first is followed at its roots and comes to its outcome; then the others go on
abbrev pub FirstPairComesFirst : Type 0
FirstPairComesFirst = (s : State) (t u : Tree) (ps : List Pair) → IsState s → PairsBelow (next s) ((t, u) ∷ ps) →
    all_unified s ((t, u) ∷ ps) ≡ go_on all_unified s ps (outcome s (followed (bindings s) t) (followed (bindings s) u))

-- an assignment of terms to variables is one of the state: each bound variable is its term's instance, and each variable
-- with a domain is an integer of it
pub record IsAssignment (s : State) (a : ℕ → Tree) : Type 0 where
  pub solves : Solves a (bindings s)
  pub admitted : (n : ℕ) (d : List Span) → domain_of s n ≡ Some d → (i : ℤ) × (a n ≡ int i) × IsTrue (has_value d i)

-- no assignment is lost or gained: those after are those before under which both terms are one
abbrev pub UnifiedHasTheAssignments : Type 0
UnifiedHasTheAssignments = (s r : State) (t u : Tree) → IsState s → SpeaksBelow (next s) t → SpeaksBelow (next s) u →
    unified s t u ≡ Some r → (a : ℕ → Tree) → IsAssignment r a ↔ (IsAssignment s a × (instance a t ≡ instance a u))

-- there is no state after exactly where there is no such assignment
abbrev pub NotUnifiedHasNone : Type 0
NotUnifiedHasNone = (s : State) (t u : Tree) → IsState s → SpeaksBelow (next s) t → SpeaksBelow (next s) u →
    (unified s t u ≡ None) ↔ ((a : ℕ → Tree) → IsAssignment s a → instance a t ≡ instance a u → ⊥)

-- the terms have one value after
abbrev pub UnifiedAreOne : Type 0
UnifiedAreOne = (s r : State) (t u : Tree) → IsState s → SpeaksBelow (next s) t → SpeaksBelow (next s) u →
    unified s t u ≡ Some r → value (bindings r) t ≡ value (bindings r) u

-- r has the bindings of s and maybe more, and its domains have no other values; a variable without a domain may get that
-- of one that it is made equal to; constraints, agents and what waits are the same
pub record Grows (s r : State) : Type 0 where
  pub as_many : next r ≡ next s
  pub keeps : (n : ℕ) (t : Tree) → held (bindings s) n ≡ Some t → held (bindings r) n ≡ Some t
  pub narrows : (n : ℕ) (d : List Span) → domain_of s n ≡ Some d → held (bindings r) n ≡ None → (e : List Span) × (domain_of r n ≡ Some e) × ((i : ℤ) → IsTrue (has_value e i) → IsTrue (has_value d i))
  pub constraints : r.constraints ≡ s.constraints
  pub agents : r.agents ≡ s.agents
  pub waiting : r.waiting ≡ s.waiting

abbrev pub UnifiedIsAState : Type 0
UnifiedIsAState = (s r : State) (t u : Tree) → IsState s → SpeaksBelow (next s) t → SpeaksBelow (next s) u →
    unified s t u ≡ Some r → IsState r

abbrev pub UnifiedGrows : Type 0
UnifiedGrows = (s r : State) (t u : Tree) → IsState s → SpeaksBelow (next s) t → SpeaksBelow (next s) u →
    unified s t u ≡ Some r → Grows s r

-- a variable that is newly bound to another one is the higher of the two
abbrev pub HigherIsBoundToLower : Type 0
HigherIsBoundToLower = (s r : State) (t u : Tree) → IsState s → SpeaksBelow (next s) t → SpeaksBelow (next s) u →
    unified s t u ≡ Some r → (m n : ℕ) → held (bindings s) n ≡ None → held (bindings r) n ≡ Some (var m) → m < n
