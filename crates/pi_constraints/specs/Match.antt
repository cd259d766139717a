-- One-way matching: the slots under which a pattern is a given term (A User's Guide to Picat, 'Predicates and
-- Functions': a call matches a head if it is an instance of it). The term's variables are never bound, so one of them
-- matches only a slot. A slot that occurs twice, or is filled before, takes an identical term alone.
use Rattle.std.specs.Prelude.{◌≡◌, ◌↔◌, ℕ, nat_lt, cond, Option, Some, None, length, slice_set, option_and_then}
use Rattle.std.specs.Ordering.{is_eq}
use Rattle.pi_terms.specs.Tree.{Tree, var, int, atom, comp, Trees, no_trees, tree}
use Rattle.pi_terms.specs.Places.{Places, held}
use Rattle.pi_terms.specs.Order.{name_order, identical}
use Rattle.pi_terms.specs.PatternTree.{PatternTree, slot, exact_int, exact_atom, compound, named, PatternTrees, no_patterns, pattern, HasSlot, HaveSlot}

abbrev pub Slots : Type 0
Slots = Places

-- a slot takes a term, where it held the first one or nothing
abbrev pub taken : Option Tree → Slots → ℕ → Tree → Option Slots
taken (Some u) s k t = cond (identical u t) (Some s) None
taken None s k t = cond (nat_lt k (length s)) (Some (slice_set s k (Some t))) None

abbrev pub filled : ℕ → Tree → Slots → Option Slots
filled k t s = taken (held s k) s k t

-- the slots after the pattern is matched against the term, from the left
unfoldable mutual
  pub matched : PatternTree → Tree → Slots → Option Slots
  matched (slot k) t s = filled k t s
  matched (exact_int n) t s = cond (identical (int n) t) (Some s) None
  matched (exact_atom name) t s = cond (identical (atom name) t) (Some s) None
  matched (compound f ps) (comp g ts) s = cond (is_eq (name_order f g)) (matched_all ps ts s) None
  matched (compound f ps) t s = None
  matched (named k p) t s = option_and_then (matched p t) (filled k t s)

  pub matched_all : PatternTrees → Trees → Slots → Option Slots
  matched_all no_patterns no_trees s = Some s
  matched_all no_patterns (tree t ts) s = None
  matched_all (pattern p ps) no_trees s = None
  matched_all (pattern p ps) (tree t ts) s = option_and_then (matched_all ps ts) (matched p t s)

-- under these slots the pattern is the term
unfoldable mutual
  pub IsUnder : Slots → PatternTree → Tree → Type 0
  IsUnder s (slot k) t = held s k ≡ Some t
  IsUnder s (exact_int n) t = t ≡ int n
  IsUnder s (exact_atom name) t = t ≡ atom name
  IsUnder s (compound name ps) t = (ts : Trees) × (t ≡ comp name ts) × AreUnder s ps ts
  IsUnder s (named k p) t = (held s k ≡ Some t) × IsUnder s p t

  pub AreUnder : Slots → PatternTrees → Trees → Type 0
  AreUnder s no_patterns no_trees = Unit {0}
  AreUnder s no_patterns (tree t ts) = ⊥
  AreUnder s (pattern p ps) no_trees = ⊥
  AreUnder s (pattern p ps) (tree t ts) = IsUnder s p t × AreUnder s ps ts

-- r has the same slots as s, and holds in them what s does, and maybe more
pub record Extends (s r : Slots) : Type 0 where
  pub as_many : length r ≡ length s
  pub keeps : (k : ℕ) (t : Tree) → held s k ≡ Some t → held r k ≡ Some t

-- r differs from s in slots of the pattern alone
abbrev pub FillsOnly : PatternTree → Slots → Slots → Type 0
FillsOnly p s r = (k : ℕ) → (HasSlot p k → ⊥) → held r k ≡ held s k

-- r is s with just the pattern's slots filled so that the pattern is the term
pub record IsMatch (p : PatternTree) (t : Tree) (s r : Slots) : Type 0 where
  pub extends : Extends s r
  pub only : FillsOnly p s r
  pub under : IsUnder r p t

-- r differs from s in slots of these patterns alone
abbrev pub FillOnly : PatternTrees → Slots → Slots → Type 0
FillOnly ps s r = (k : ℕ) → (HaveSlot ps k → ⊥) → held r k ≡ held s k

-- r is s with just the slots of a head's patterns filled so that each of them is its argument
pub record AreMatch (ps : PatternTrees) (ts : Trees) (s r : Slots) : Type 0 where
  pub extends : Extends s r
  pub only : FillOnly ps s r
  pub under : AreUnder r ps ts

-- a pattern that is a slot, or one by another name too
abbrev pub IsSlot : PatternTree → Type 0
IsSlot (slot k) = Unit {0}
IsSlot (exact_int n) = ⊥
IsSlot (exact_atom name) = ⊥
IsSlot (compound name ps) = ⊥
IsSlot (named k p) = IsSlot p

abbrev pub MatchFills : Type 0
MatchFills = (p : PatternTree) (t : Tree) (s r : Slots) → (matched p t s ≡ Some r) ↔ IsMatch p t s r

-- whatever extends the slots and makes the pattern the term, extends the match
abbrev pub MatchIsLeast : Type 0
MatchIsLeast = (p : PatternTree) (t : Tree) (s r q : Slots) → matched p t s ≡ Some r → Extends s q → IsUnder q p t → Extends r q

abbrev pub MatchFails : Type 0
MatchFails = (p : PatternTree) (t : Tree) (s : Slots) → (matched p t s ≡ None) ↔ ((r : Slots) → Extends s r → IsUnder r p t → ⊥)

abbrev pub VariableWantsSlot : Type 0
VariableWantsSlot = (p : PatternTree) (n : ℕ) (s r : Slots) → matched p (var n) s ≡ Some r → IsSlot p

-- the same of the patterns of a head, from the left
abbrev pub HeadMatchFills : Type 0
HeadMatchFills = (ps : PatternTrees) (ts : Trees) (s r : Slots) → (matched_all ps ts s ≡ Some r) ↔ AreMatch ps ts s r

abbrev pub HeadMatchIsLeast : Type 0
HeadMatchIsLeast = (ps : PatternTrees) (ts : Trees) (s r q : Slots) → matched_all ps ts s ≡ Some r → Extends s q → AreUnder q ps ts → Extends r q

abbrev pub HeadMatchFails : Type 0
HeadMatchFails = (ps : PatternTrees) (ts : Trees) (s : Slots) → (matched_all ps ts s ≡ None) ↔ ((r : Slots) → Extends s r → AreUnder r ps ts → ⊥)

-- a slot that occurs twice takes identical terms
abbrev pub SlotTakesIdentical : Type 0
SlotTakesIdentical = (k : ℕ) (t u : Tree) (s r : Slots) →
    matched_all (pattern (slot k) (pattern (slot k) no_patterns)) (tree t (tree u no_trees)) s ≡ Some r → t ≡ u
