-- Slots of a store's terms, and what is left to match, as the loop of `match_head` keeps it.
use Rattle.std.specs.Prelude.{◌≡◌, ℕ, ℤ, suc, ◌+◌, ◌<◌, ◌==◌, ◌&&◌, Bool, true, false, cond, List, [], ◌∷◌, ◌++◌, length, map, drop, Option, Some, None, slice_get, option_and_then}
use Rattle.std.specs.Ordering.{is_eq, int_eq}
use Rattle.pi_terms.specs.Tree.{Tree, var, int, atom, comp, tree_count, args, arity, drop_trees}
use Rattle.pi_terms.specs.Places.{Places}
use Rattle.pi_terms.specs.Order.{name_order, identical}
use Rattle.pi_terms.specs.PatternTree.{PatternTree, slot, exact_int, exact_atom, compound, named, PatternTrees, no_patterns, pattern}
use Rattle.pi_constraints.specs.Value.{Bindings}
use Rattle.pi_constraints.specs.State.{bindings, followed}
use Rattle.pi_constraints.specs.Store.{StoreView}
use Rattle.pi_constraints.specs.HeadMatch.{filled_in, matched_in, matched_all_in}
use Rattle.pi_core.specs.CoreTree.{pattern_tree, pattern_trees}
use Rattle.pi_constraints.specs.declared.store.Ref.{Ref}
use Rattle.pi_constraints.specs.declared.store.Cell.{Cell}
use Rattle.pi_core.specs.declared.core_program.Pattern.{Pattern}
use Rattle.pi_unify.specs.Terms.{IsGiven, term_of}
use Rattle.pi_unify.specs.declared.matching.Pending.{Pending}
use Rattle.pi_unify.specs.declared.matching.Arguments.{Arguments}

-- what a slot holds: the term of its Ref
abbrev pub slot_term : {M : Type 0} → StoreView M → Option Ref → Option Tree
slot_term v None = None
slot_term v (Some r) = v.now.terms r.number

abbrev pub slot_terms : {M : Type 0} → StoreView M → List (Option Ref) → Places
slot_terms v slots = map (slot_term v) slots

-- a slot is empty, or its Ref was given
abbrev pub HoldsGiven : {M : Type 0} → StoreView M → Option Ref → Type 0
HoldsGiven v None = Unit {0}
HoldsGiven v (Some r) = IsGiven v r

unfoldable pub HoldAllGiven : {M : Type 0} → StoreView M → List (Option Ref) → Type 0
HoldAllGiven v [] = Unit {0}
HoldAllGiven v (o ∷ slots) = HoldsGiven v o × HoldAllGiven v slots

-- only empty slots were filled
pub record FillsEmpty (old new : List (Option Ref)) : Type 0 where
  pub as_many : length new ≡ length old
  pub keeps : (k : ℕ) (r : Ref) → slice_get old k ≡ Some (Some r) → slice_get new k ≡ Some (Some r)

-- whether there is a match, and that these are the slots that it leaves
abbrev pub TellsMatch : Bool → Option Places → Places → Type 0
TellsMatch true found after = found ≡ Some after
TellsMatch false found after = found ≡ None

-- ---- a step at the root of a term, and what is left behind it

abbrev pub pattern_count : PatternTrees → ℕ
pattern_count no_patterns = 0
pattern_count (pattern p ps) = suc (pattern_count ps)

abbrev pub is_compound_of : List ℕ → ℕ → Tree → Bool
is_compound_of f count (var n) = false
is_compound_of f count (int n) = false
is_compound_of f count (atom name) = false
is_compound_of f count (comp g ts) = is_eq (name_order f g) && (tree_count ts == count)

-- the slots after the term was looked at where it is a pattern's, and not behind that
abbrev pub root_match : Bindings → PatternTree → Tree → Places → Option Places
root_match b (slot k) t e = filled_in b k t e
root_match b (exact_int n) t e = cond (identical (int n) (followed b t)) (Some e) None
root_match b (exact_atom name) t e = cond (identical (atom name) (followed b t)) (Some e) None
root_match b (compound f ps) t e = cond (is_compound_of f (pattern_count ps) (followed b t)) (Some e) None
root_match b (named k p) t e = filled_in b k t e

-- the root of the term is what the pattern says
abbrev pub FitsRoot : Bindings → PatternTree → Tree → Type 0
FitsRoot b (slot k) t = Unit {0}
FitsRoot b (exact_int n) t = Unit {0}
FitsRoot b (exact_atom name) t = Unit {0}
FitsRoot b (compound f ps) t = is_compound_of f (pattern_count ps) (followed b t) ≡ true
FitsRoot b (named k p) t = Unit {0}

-- whether a term that shows this is this integer
abbrev pub is_int_in : ℤ → Cell → Bool
is_int_in n (Cell.Var m) = false
is_int_in n (Cell.Int m) = int_eq m n
is_int_in n (Cell.Atom k) = false
is_int_in n (Cell.Comp k count) = false

-- all patterns of a compound are left too, where it has any
pub record Pushes (old new : List Arguments) (ps : List Pattern) (of : Ref) : Type 0 where
  pub none : length ps ≡ 0 → new ≡ old
  pub some : 0 < length ps → (f : Arguments) × (f.patterns.now ≡ ps) × (f.of ≡ of) × (f.next ≡ 0) × (f.count ≡ length ps) × (new ≡ old ++ f ∷ [])

-- patterns are left, so many of all
pub record IsWithin (f : Arguments) : Type 0 where
  pub count : f.count ≡ length f.patterns.now
  pub within : f.next < f.count

unfoldable pub AreWithin : List Arguments → Type 0
AreWithin [] = Unit {0}
AreWithin (f ∷ fs) = IsWithin f × AreWithin fs

-- they are for the arguments of a term that was given and has as many
pub record IsLeft {M : Type 0} (v : StoreView M) (f : Arguments) : Type 0 where
  pub given : IsGiven v f.of
  pub many : arity (followed (bindings v.now.state) (term_of v f.of)) ≡ length f.patterns.now

unfoldable pub AreLeft : {M : Type 0} → StoreView M → List Arguments → Type 0
AreLeft v [] = Unit {0}
AreLeft v (f ∷ fs) = IsLeft v f × AreLeft v fs

abbrev pub left_match : {M : Type 0} → StoreView M → Arguments → Places → Option Places
left_match v f e =
    matched_all_in (bindings v.now.state) (pattern_trees (drop f.next f.patterns.now)) (drop_trees f.next (args (followed (bindings v.now.state) (term_of v f.of)))) e

-- a term has as many arguments as there are patterns
abbrev pub HasAsMany : {M : Type 0} → StoreView M → Ref → List Pattern → Type 0
HasAsMany v of ps = arity (followed (bindings v.now.state) (term_of v of)) ≡ length ps

-- the match of these patterns and its arguments
abbrev pub arguments_match : {M : Type 0} → StoreView M → List Pattern → Ref → Places → Option Places
arguments_match v ps of e = matched_all_in (bindings v.now.state) (pattern_trees ps) (args (followed (bindings v.now.state) (term_of v of))) e

-- the slots in the end, where all but these came to o
unfoldable pub match_with : {M : Type 0} → StoreView M → List Arguments → Option Places → Option Places
match_with v [] o = o
match_with v (f ∷ fs) o = option_and_then (left_match v f) (match_with v fs o)

-- the nodes of patterns
unfoldable mutual
  pub nodes : PatternTree → ℕ
  nodes (slot k) = 1
  nodes (exact_int n) = 1
  nodes (exact_atom name) = 1
  nodes (compound f ps) = suc (nodes_of_all ps)
  nodes (named k p) = suc (nodes p)

  pub nodes_of_all : PatternTrees → ℕ
  nodes_of_all no_patterns = 0
  nodes_of_all (pattern p ps) = nodes p + nodes_of_all ps

unfoldable pub nodes_left : List Arguments → ℕ
nodes_left [] = 0
nodes_left (f ∷ fs) = nodes_of_all (pattern_trees (drop f.next f.patterns.now)) + nodes_left fs

-- the match of a pair
abbrev pub pending_match : {M : Type 0} → StoreView M → Pending → Places → Option Places
pending_match v p e = matched_in (bindings v.now.state) (pattern_tree p.pattern.now) (term_of v p.term) e

-- the nodes of the next pattern and of those behind it are so many
pub record HasNodes (total : ℕ) (new : List Arguments) (p : Pending) : Type 0 where
  pub within : AreWithin new
  pub nodes : nodes (pattern_tree p.pattern.now) + nodes_left new ≡ total

abbrev pub LeavesNodes : ℕ → List Arguments → Option Pending → Type 0
LeavesNodes total new None = Unit {0}
LeavesNodes total new (Some p) = HasNodes total new p

-- or fewer
pub record HasFewer (total : ℕ) (new : List Arguments) (p : Pending) : Type 0 where
  pub within : AreWithin new
  pub nodes : nodes (pattern_tree p.pattern.now) + nodes_left new < total

abbrev pub LeavesFewer : ℕ → List Arguments → Option Pending → Type 0
LeavesFewer total new None = Unit {0}
LeavesFewer total new (Some p) = HasFewer total new p

-- the next pair stands before what is left
pub record TakesNext {M : Type 0} (v : StoreView M) (old new : List Arguments) (p : Pending) : Type 0 where
  pub given : IsGiven v p.term
  pub left : AreLeft v new
  pub match_is : (e : Places) → match_with v old (Some e) ≡ match_with v new (pending_match v p e)

abbrev pub TakesPending : {M : Type 0} → StoreView M → List Arguments → List Arguments → Option Pending → Type 0
TakesPending v old new None = old ≡ []
TakesPending v old new (Some p) = TakesNext v old new p

-- what is to be matched behind the root of a pattern, before what was left
pub record GoesBehind {M : Type 0} (v : StoreView M) (p : PatternTree) (t : Tree) (old new : List Arguments) (next : Pending) : Type 0 where
  pub given : IsGiven v next.term
  pub left : AreLeft v new
  pub match_is : (e after : Places) → root_match (bindings v.now.state) p t e ≡ Some after → match_with v old (matched_in (bindings v.now.state) p t e) ≡ match_with v new (pending_match v next after)

-- or nothing is left at all
abbrev pub EndsBehind : {M : Type 0} → StoreView M → PatternTree → Tree → List Arguments → Type 0
EndsBehind v p t old = (e after : Places) → root_match (bindings v.now.state) p t e ≡ Some after → match_with v old (matched_in (bindings v.now.state) p t e) ≡ Some after

abbrev pub ComesBehind : {M : Type 0} → StoreView M → PatternTree → Tree → List Arguments → List Arguments → Option Pending → Type 0
ComesBehind v p t old new None = EndsBehind v p t old
ComesBehind v p t old new (Some next) = GoesBehind v p t old new next
