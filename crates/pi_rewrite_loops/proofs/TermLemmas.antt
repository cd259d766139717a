-- Slots as terms and as patterns, one after the other.
use Rattle.std.proofs.Common.{◌≡◌, ℕ, zero, suc, ◌+◌, ◌-◌, ◌<◌, ◌≤◌, List, [], ◌∷◌, ◌++◌, length, get_or, drop, refl, sym, ◌∙◌, ap, append_assoc, arith}
use Rattle.std.specs.Borrow.{Bor}
use Rattle.std.proofs.lemmas.List.{append-nil, drop_all}
use Rattle.pi_terms.specs.Tree.{Tree}
use Rattle.pi_terms.specs.PatternTree.{slot, compound, PatternTrees, no_patterns, pattern}
use Rattle.pi_terms.specs.ListNames.{cell_name}
use Rattle.pi_core.specs.CoreTree.{pattern_tree, pattern_trees}
use Rattle.pi_core.specs.declared.core_program.Pattern.{Pattern, Slot}
use Rattle.pi_rewrite_slots.specs.Indexed.{names_in}
use Rattle.pi_rewrite_slots.proofs.FlatLemmas.{drop-next}
use Rattle.pi_rewrite_spec.specs.Slots.{SlotNames, slot_for}
use Rattle.pi_rewrite_spec.specs.Loops.{slots_from, slots_head, slots_for_names}
use Rattle.pi_rewrite_loops.specs.Heads.{onto}

one-more : (i n : ℕ) → i < n → n - i ≡ suc (n - (i + 1))
one-more i n less = omega (arith, less)

all-left : (n : ℕ) → n - 0 ≡ n
all-left n = omega arith

none-left : (i n : ℕ) → n ≤ i → n - i ≡ 0
none-left i n past = omega (arith, past)

-- an item, as what stands in a list at its place
pub item-at : {A : Type 0} (xs : List A) (i : ℕ) (d : A) → i < length xs → get_or xs i d ≡ get_or xs i (get_or xs i d)
item-at [] i d less = absurd (omega (arith, less))
item-at (x ∷ xs) zero d less = refl
item-at (x ∷ xs) (suc i) d less = item-at xs i d (omega (arith, less))

-- ---- so many slots as terms: those so far stand in front of those that are left

pub record SlotsTo (old : List Tree) (first count i k : ℕ) (now : List Tree) : Type 0 where
  pub is : now ++ slots_from k (count - i) ≡ old ++ slots_from first count

pub slots-none : (old : List Tree) (first count : ℕ) → SlotsTo old first count 0 first old
slots-none old first count = record { is = ap (λ n. old ++ slots_from first n) (all-left count) }

slots-first : (k n m : ℕ) → n ≡ suc m → slots_from k n ≡ Tree.var k ∷ slots_from (k + 1) m
unfolding slots_from
slots-first k n m is = ap (slots_from k) is ∙ ap (λ j. Tree.var k ∷ slots_from j m) (omega arith)

pub slots-more : (old now new : List Tree) (first count i k j : ℕ) (t : Tree) → i < count → t ≡ Tree.var k → new ≡ now ++ t ∷ [] → j ≡ k + 1 → SlotsTo old first count i k now → SlotsTo old first count (i + 1) j new
slots-more old now new first count i k j t less is put next so =
    let rest : List Tree = slots_from (k + 1) (count - (i + 1)) in
    record {
      is = ap (λ ts. ts ++ slots_from j (count - (i + 1))) put ∙ (ap (λ n. (now ++ t ∷ []) ++ slots_from n (count - (i + 1))) next ∙ (append_assoc now (t ∷ []) rest
          ∙ (ap (λ (u : Tree). now ++ u ∷ rest) is ∙ (ap (λ ts. now ++ ts) (sym (slots-first k (count - i) (count - (i + 1)) (one-more i count less))) ∙ so.is))));
    }

pub slots-all : (old now : List Tree) (first count i k : ℕ) → count ≤ i → SlotsTo old first count i k now → now ≡ old ++ slots_from first count
unfolding slots_from
slots-all old now first count i k past so = sym (append-nil now) ∙ (ap (λ n. now ++ slots_from k n) (sym (none-left i count past)) ∙ so.is)

-- ---- as patterns

onto-behind : (ps : List Pattern) (p : Pattern) (rest : PatternTrees) → onto (ps ++ p ∷ []) rest ≡ onto ps (pattern (pattern_tree p) rest)
onto-behind [] p rest = refl
onto-behind (q ∷ ps) p rest = ap (pattern (pattern_tree q)) (onto-behind ps p rest)

onto-nothing : (ps : List Pattern) → onto ps (slots_head 0 0) ≡ pattern_trees ps
unfolding slots_head pattern_trees
onto-nothing [] = refl
onto-nothing (p ∷ ps) = ap (pattern (pattern_tree p)) (onto-nothing ps)

pub record HeadTo (old : List Pattern) (first count i k : ℕ) (now : List Pattern) : Type 0 where
  pub is : onto now (slots_head k (count - i)) ≡ onto old (slots_head first count)

pub head-none : (old : List Pattern) (first count : ℕ) → HeadTo old first count 0 first old
head-none old first count = record { is = ap (λ n. onto old (slots_head first n)) (all-left count) }

head-first : (k n m : ℕ) → n ≡ suc m → slots_head k n ≡ pattern (slot k) (slots_head (k + 1) m)
unfolding slots_head
head-first k n m is = ap (slots_head k) is ∙ ap (λ j. pattern (slot k) (slots_head j m)) (omega arith)

pub head-more : (old now new : List Pattern) (first count i k j : ℕ) → i < count → new ≡ now ++ Slot k ∷ [] → j ≡ k + 1 → HeadTo old first count i k now → HeadTo old first count (i + 1) j new
unfolding pattern_tree
head-more old now new first count i k j less put next so = record {
  is = ap (λ ps. onto ps (slots_head j (count - (i + 1)))) put ∙ (ap (λ n. onto (now ++ Slot k ∷ []) (slots_head n (count - (i + 1)))) next
      ∙ (onto-behind now (Slot k) (slots_head (k + 1) (count - (i + 1))) ∙ (ap (onto now) (sym (head-first k (count - i) (count - (i + 1)) (one-more i count less))) ∙ so.is)));
}

head-end : (k n : ℕ) → n ≡ 0 → slots_head k n ≡ slots_head 0 0
unfolding slots_head
head-end k n none = ap (slots_head k) none

pub head-all : (old now : List Pattern) (first count i k : ℕ) → count ≤ i → HeadTo old first count i k now → pattern_trees now ≡ onto old (slots_head first count)
head-all old now first count i k past so = sym (onto-nothing now) ∙ (ap (onto now) (sym (head-end k (count - i) (none-left i count past))) ∙ so.is)

-- ---- the slots of names

pub record NamedTo (old : List Tree) (names : List (Bor (List ℕ))) (ns : SlotNames) (i : ℕ) (now : List Tree) : Type 0 where
  pub is : now ++ slots_for_names (names_in (drop i names)) ns ≡ old ++ slots_for_names (names_in names) ns

pub named-none : (old : List Tree) (names : List (Bor (List ℕ))) (ns : SlotNames) → NamedTo old names ns 0 old
named-none old names ns = record { is = refl }

pub named-more : (old now new : List Tree) (names : List (Bor (List ℕ))) (ns : SlotNames) (i k : ℕ) (x : Bor (List ℕ)) (t : Tree) → i < length names → x ≡ get_or names i x → k ≡ slot_for x.now ns → t ≡ Tree.var k → new ≡ now ++ t ∷ [] →
    NamedTo old names ns i now → NamedTo old names ns (i + 1) new
named-more old now new names ns i k x t less item at is put so =
    let rest : List Tree = slots_for_names (names_in (drop (i + 1) names)) ns in
    record {
      is = ap (λ ts. ts ++ rest) put ∙ (append_assoc now (t ∷ []) rest ∙ (ap (λ (u : Tree). now ++ u ∷ rest) (is ∙ ap Tree.var at)
          ∙ (ap (λ xs. now ++ slots_for_names (names_in xs) ns) (sym (drop-next names i x less item)) ∙ so.is)));
    }

pub named-all : (old now : List Tree) (names : List (Bor (List ℕ))) (ns : SlotNames) (i : ℕ) → length names ≤ i → NamedTo old names ns i now → now ≡ old ++ slots_for_names (names_in names) ns
named-all old now names ns i past so = sym (append-nil now) ∙ (ap (λ xs. now ++ slots_for_names (names_in xs) ns) (sym (drop_all i names past)) ∙ so.is)

-- the pattern of a list cell
pub cell-form : (parts : List Pattern) → parts ≡ Slot 0 ∷ Slot 1 ∷ [] → compound cell_name (pattern_trees parts) ≡ compound cell_name (pattern (slot 0) (pattern (slot 1) no_patterns))
unfolding pattern_tree pattern_trees
cell-form parts is = ap (λ ps. compound cell_name (pattern_trees ps)) is
