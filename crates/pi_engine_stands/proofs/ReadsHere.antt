-- What is laid out in tables is read there: operands are their terms, and can be read.
use Rattle.std.proofs.Common.{◌≡◌, inl, inr, ℕ, zero, suc, ◌+◌, ◌-◌, ◌≤◌, ◌<◌, List, [], ◌∷◌, ◌++◌, Some, length, take, drop, map, refl, sym, ◌∙◌, ap, subst, arith}
use Rattle.std.specs.Prelude.{slice_get, slice_index_or, unwrap_or, Contains}
use Rattle.std.proofs.lemmas.List.{append-nil, map-append}
use Rattle.std.proofs.lemmas.Option.{slice_get_within, get_or_from_slice_get}
use Rattle.pi_terms.specs.Tree.{Tree, var, int, atom, comp, Trees, no_trees, tree, cells, subterms, subterms_all, args, arity, tree_count, cells_all, drop_trees}
use Rattle.pi_terms.specs.Variables.{IsGround, Occurs, OccursInAny, occurrences, firsts}
use Rattle.pi_constraints.specs.State.{SpeaksBelow}
use Rattle.pi_terms.specs.TermCells.{flat, flat_all, spelled, spelled-flat, with_cell, first_tree, take_trees}
use Rattle.pi_terms.specs.declared.term.TermCell.{TermCell}
use Rattle.pi_terms.specs.declared.term.TermCell.TheVariants.{Var, Int, Atom, Comp}
use Rattle.pi_terms.proofs.TermLemmas.{subterm_for_each_cell, cells-positive}
use Rattle.pi_engine_code.specs.declared.code.Operand.{Operand}
use Rattle.pi_engine_code.specs.declared.code.Part.{Part}
use Rattle.pi_engine_code.specs.Code.{Tables, spelled_parts, with_part, operand_tree}
use Rattle.pi_engine_stands.specs.Here.{Block, IsReadable, IsReadablePart}
use Rattle.pi_engine_code.specs.Laid.{IsAlone, IsPartOf, PartsAt, IsOperand, OperandsAt}

-- the rest of a list from one on
pub drop-got : {A : Type 0} (xs : List A) (i : ℕ) (x : A) → slice_get xs i ≡ Some x → drop i xs ≡ x ∷ drop (suc i) xs
drop-got [] i x at = absurd cc
drop-got (y ∷ xs) zero x at = cc
drop-got (y ∷ xs) (suc i) x at = drop-got xs i x at

pub got-index : {A B : Type 0} (f : A → B) (xs : List A) (i : ℕ) (x : A) (d : B) → slice_get xs i ≡ Some x → slice_index_or (map f xs) i d ≡ f x
got-index f [] i x d at = absurd cc
got-index f (y ∷ xs) zero x d at = cc
got-index f (y ∷ xs) (suc i) x d at = got-index f xs i x d at

-- ---- the term of an operand

-- a term's first cell
abbrev root_cell : Tree → TermCell
root_cell (var n) = Var n
root_cell (int n) = Int n
root_cell (atom name) = Atom name
root_cell (comp name ts) = Comp name (tree_count ts) (suc (cells_all ts))

mutual
  unfolding flat subterms

  flat-roots : (t : Tree) → flat t ≡ map root_cell (subterms t)
  flat-roots (var n) = refl
  flat-roots (int n) = refl
  flat-roots (atom name) = refl
  flat-roots (comp name ts) = ap (λ cs. Comp name (tree_count ts) (suc (cells_all ts)) ∷ cs) (flat-roots-all ts)

  flat-roots-all : (ts : Trees) → flat_all ts ≡ map root_cell (subterms_all ts)
  flat-roots-all no_trees = refl
  flat-roots-all (tree t ts) = ap (λ cs. cs ++ flat_all ts) (flat-roots t) ∙ ap (λ cs. map root_cell (subterms t) ++ cs) (flat-roots-all ts) ∙ sym (map-append root_cell (subterms t) (subterms_all ts))

alone-cell : (u : Tree) (ts : Trees) → IsAlone u → with_cell (root_cell u) ts ≡ tree u ts
alone-cell (var n) ts h = refl
alone-cell (int n) ts h = refl
alone-cell (atom name) ts h = refl
alone-cell (comp name us) ts (inl h) = absurd (cc h.1)
alone-cell (comp name us) ts (inr h) = absurd (cc h.1)

var-cell : (k : ℕ) (ts : Trees) → tree (var k) ts ≡ with_cell (root_cell (var k)) ts
var-cell k ts = refl

abbrev with_part-comp : List ℕ → ℕ → Trees → Trees
with_part-comp name k ts = tree (comp name (take_trees k ts)) (drop_trees k ts)

comp-cell : (name : List ℕ) (us ts : Trees) (k : ℕ) → k ≡ arity (comp name us) → with_part-comp name k ts ≡ with_cell (root_cell (comp name us)) ts
comp-cell name us ts k e = ap (λ n. with_part-comp name n ts) e

part-cell : (t : Tables) (u : Tree) (p : Part) (ts : Trees) → IsPartOf t.terms t.names u p → with_part t p ts ≡ with_cell (root_cell u) ts
part-cell t u (Part.Slot k) ts is = subst (λ x. tree (var k) ts ≡ with_cell (root_cell x) ts) (sym is) (var-cell k ts)
part-cell t u (Part.Known r) ts is = ap (λ o. tree (unwrap_or o (atom [])) ts) is.0 ∙ sym (alone-cell u ts is.1)
part-cell t u (Part.Compound i k) ts is =
    ap (λ n. with_part-comp n k ts) (get_or_from_slice_get t.names i is.0 [] is.1) ∙ comp-cell is.0 (args u) ts k (is.3 ∙ ap arity is.2) ∙ ap (λ x. with_cell (root_cell x) ts) (sym is.2)

-- parts spell the terms whose roots they are
parts-spell : (t : Tables) (at : ℕ) (us : List Tree) → PartsAt t at us → spelled_parts t (take (length us) (drop at t.parts)) ≡ spelled (map root_cell us)
unfolding PartsAt spelled_parts spelled
parts-spell t at [] are = refl
parts-spell t at (u ∷ us) (first, rest) =
    ap (λ ps. spelled_parts t (take (suc (length us)) ps)) (drop-got t.parts at first.0 first.1)
    ∙ ap (with_part t first.0) (parts-spell t (suc at) us rest)
    ∙ part-cell t u first.0 (spelled (map root_cell us)) first.2

made-spells : (t : Tables) (from : ℕ) (u : Tree) → PartsAt t from (subterms u) → spelled_parts t (take (cells u) (drop from t.parts)) ≡ tree u no_trees
unfolding spelled
made-spells t from u are =
    ap (λ n. spelled_parts t (take n (drop from t.parts))) (sym (subterm_for_each_cell u))
    ∙ parts-spell t from (subterms u) are ∙ ap spelled (sym (flat-roots u)) ∙ ap spelled (sym (append-nil (flat u))) ∙ spelled-flat u []

made-length : (from to n : ℕ) → to ≡ from + n → to - from ≡ n
made-length from to n e = omega (arith, e)

pub operand-reads : (t : Tables) (u : Tree) (o : Operand) → IsOperand t u o → operand_tree t o ≡ u
unfolding operand_tree
operand-reads t u (Operand.Slot k) is = sym is
operand-reads t u (Operand.Known r) is = ap (λ o. unwrap_or o (atom [])) is.0
operand-reads t u (Operand.Made from to) is =
    ap (λ n. first_tree (spelled_parts t (take n (drop from t.parts)))) (made-length from to (cells u) is.0) ∙ ap first_tree (made-spells t from u is.1)

pub operands-read : (t : Tables) (at : ℕ) (us : List Tree) → OperandsAt t at us → map (operand_tree t) (take (length us) (drop at t.operands)) ≡ us
unfolding OperandsAt
operands-read t at [] are = refl
operands-read t at (u ∷ us) (first, rest) =
    ap (λ os. map (operand_tree t) (take (suc (length us)) os)) (drop-got t.operands at first.0 first.1)
    ∙ ap (λ x. x ∷ map (operand_tree t) (take (length us) (drop (suc at) t.operands))) (operand-reads t u first.0 first.2)
    ∙ ap (λ xs. u ∷ xs) (operands-read t (suc at) us rest)

-- ---- operands can be read

-- the variables among these terms are slots below n
abbrev VarsBelow : ℕ → List Tree → Type 0
VarsBelow n us = (i k : ℕ) → slice_get us i ≡ Some (var k) → k < n

vars-append : (n : ℕ) (us ws : List Tree) → VarsBelow n us → VarsBelow n ws → VarsBelow n (us ++ ws)
vars-append n [] ws f g i k at = g i k at
vars-append n (u ∷ us) ws f g zero k at = f zero k at
vars-append n (u ∷ us) ws f g (suc i) k at = vars-append n us ws (λ j m h. f (suc j) m h) g i k at

same-var : (m k : ℕ) → var m ≡ var k → m ≡ k
same-var m k e = cc

mutual
  unfolding subterms Occurs

  vars-below : (n : ℕ) (u : Tree) → SpeaksBelow n u → VarsBelow n (subterms u)
  vars-below n (var m) below zero k at = let same : var m ≡ var k = cc in below k (same-var m k same)
  vars-below n (var m) below (suc i) k at = absurd cc
  vars-below n (int m) below zero k at = absurd cc
  vars-below n (int m) below (suc i) k at = absurd cc
  vars-below n (atom name) below zero k at = absurd cc
  vars-below n (atom name) below (suc i) k at = absurd cc
  vars-below n (comp name ts) below zero k at = absurd cc
  vars-below n (comp name ts) below (suc i) k at = vars-below-all n ts below i k at

  vars-below-all : (n : ℕ) (ts : Trees) → ((m : ℕ) → OccursInAny m ts → m < n) → VarsBelow n (subterms_all ts)
  vars-below-all n no_trees below i k at = absurd cc
  vars-below-all n (tree t ts) below i k at = vars-append n (subterms t) (subterms_all ts) (vars-below n t (λ m h. below m (inl h))) (vars-below-all n ts (λ m h. below m (inr h))) i k at

alone-ground : (u : Tree) → IsAlone u → IsGround u
unfolding firsts occurrences
alone-ground u (inl h) = subst IsGround (sym h.1) refl
alone-ground u (inr h) = subst IsGround (sym h.1) refl

part-readable : (t : Tables) (b : Block) (u : Tree) (p : Part) → ((k : ℕ) → u ≡ var k → k < b.count) → IsPartOf t.terms t.names u p → IsReadablePart t.terms b p
part-readable t b u (Part.Slot k) below is = below k is
part-readable t b u (Part.Known r) below is = (u, is.0, alone-ground u is.1)
part-readable t b u (Part.Compound i k) below is = tt

parts-readable : (t : Tables) (b : Block) (at : ℕ) (us : List Tree) → PartsAt t at us → VarsBelow b.count us → (i : ℕ) (p : Part) → i < length us → slice_get t.parts (at + i) ≡ Some p → IsReadablePart t.terms b p
unfolding PartsAt
parts-readable t b at [] are below i p within here = absurd (omega arith)
parts-readable t b at (u ∷ us) (first, rest) below zero p within here =
    let same : Some first.0 ≡ Some p = sym first.1 ∙ ap (slice_get t.parts) (omega arith) ∙ here in
    subst (IsReadablePart t.terms b) (cc) (part-readable t b u first.0 (λ k e. below zero k (ap (λ x. Some x) e)) first.2)
parts-readable t b at (u ∷ us) (first, rest) below (suc i) p within here =
    parts-readable t b (suc at) us rest (λ j k h. below (suc j) k h) i p (omega arith) (ap (slice_get t.parts) (omega arith) ∙ here)

parts-within : (t : Tables) (at : ℕ) (us : List Tree) → 0 < length us → PartsAt t at us → at + length us ≤ length t.parts
unfolding PartsAt
parts-within t at [] some are = absurd (omega arith)
parts-within t at (u ∷ []) some (first, rest) = omega (arith, slice_get_within t.parts at first.0 first.1)
parts-within t at (u ∷ w ∷ us) some (first, rest) = omega (arith, parts-within t (suc at) (w ∷ us) (omega arith) rest)

pub operand-readable : (t : Tables) (b : Block) (u : Tree) (o : Operand) → IsOperand t u o → SpeaksBelow b.count u → IsReadable t b o
unfolding Occurs
operand-readable t b u (Operand.Slot k) is below = below k (subst (Occurs k) (sym is) refl)
operand-readable t b u (Operand.Known r) is below = (u, is.0, is.1)
operand-readable t b u (Operand.Made from to) is below =
    let some : 0 < length (subterms u) = omega (arith, subterm_for_each_cell u, cells-positive u) in (
      omega (arith, is.0, cells-positive u),
      omega (arith, is.0, subterm_for_each_cell u, parts-within t from (subterms u) some is.1),
      λ i p above under here.
          parts-readable t b from (subterms u) is.1 (vars-below b.count u below) (i - from) p (omega (arith, above, under, is.0, subterm_for_each_cell u)) (ap (slice_get t.parts) (omega (arith, above)) ∙ here),
      (u, ap (λ n. spelled_parts t (take n (drop from t.parts))) (made-length from to (cells u) is.0) ∙ made-spells t from u is.1),
    )

pub operands-within : (t : Tables) (at : ℕ) (us : List Tree) → OperandsAt t at us → at + length us ≤ length t.operands
unfolding OperandsAt
operands-within t at [] are = omega (arith, are)
operands-within t at (u ∷ us) (first, rest) = omega (arith, operands-within t (suc at) us rest)

pub operands-readable : (t : Tables) (b : Block) (at : ℕ) (us : List Tree) → OperandsAt t at us → ((u : Tree) → Contains us u → SpeaksBelow b.count u) → (i : ℕ) (o : Operand) → i < length us → slice_get t.operands (at + i) ≡ Some o → IsReadable t b o
unfolding OperandsAt
operands-readable t b at [] are below i o within here = absurd (omega arith)
operands-readable t b at (u ∷ us) (first, rest) below zero o within here =
    let same : Some first.0 ≡ Some o = sym first.1 ∙ ap (slice_get t.operands) (omega arith) ∙ here in
    subst (IsReadable t b) (cc) (operand-readable t b u first.0 first.2 (below u (0, omega arith, refl)))
operands-readable t b at (u ∷ us) (first, rest) below (suc i) o within here =
    operands-readable t b (suc at) us rest (λ w h. below w (suc h.0, omega (arith, h.1), h.2)) i o (omega arith) (ap (slice_get t.operands) (omega arith) ∙ here)
