-- The outcome of a pair of terms that were followed at their roots.
use Rattle.std.proofs.Common.{◌≡◌, ℕ, ◌+◌, ◌*◌, ◌<◌, ◌≤◌, ◌==◌, true, false, List, [], ◌∷◌, None, refl, ap, sym, inl, inr, arith, eq-eqb}
use Rattle.std.specs.Prelude.{⊤}
use Rattle.std.specs.List.{list_any}
use Rattle.std.proofs.lemmas.Bool.{cases_Bool, eqb-true}
use Rattle.pi_terms.specs.Tree.{Tree, var, int, atom, comp, Trees, no_trees, tree, cells, cells_all}
use Rattle.pi_terms.specs.Places.{held}
use Rattle.pi_terms.specs.Variables.{occurrences, Occurs, OccursInAny}
use Rattle.pi_terms.specs.Substitution.{instance, instances}
use Rattle.pi_constraints.specs.Value.{value, Solves}
use Rattle.pi_constraints.specs.State.{State, bindings, next, SpeaksBelow, IsState}
use Rattle.pi_constraints.specs.Unify.{Pair, Outcome, clash, changed, parts, does_occur, PairsBelow, unbound_in, cells_of_pairs, IsAssignment, Grows}
use Rattle.pi_terms.proofs.VariableLemmas.{Has, Has-from_occurs, occurs_from_Has}
use Rattle.pi_constraints.proofs.UnifyBindings.{ToLower}

-- all pairs are one under an assignment
unfoldable pub AreOne : (ℕ → Tree) → List Pair → Type 0
AreOne a [] = ⊤
AreOne a (p ∷ ps) = (instance a p.0 ≡ instance a p.1) × AreOne a ps

-- no assignment makes the terms one
abbrev pub NoWay : State → Tree → Tree → Type 0
NoWay s t u = (a : ℕ → Tree) → IsAssignment s a → instance a t ≡ instance a u → ⊥

-- the terms are one in r, which has just the assignments of s under which they are
pub record Joins (s : State) (t u : Tree) (r : State) : Type 0 where
  pub state : IsState r
  pub grows : Grows s r
  pub lower : ToLower s r
  pub solved : (a : ℕ → Tree) → Solves a (bindings r) → Solves a (bindings s) × (instance a t ≡ instance a u)
  pub before : (a : ℕ → Tree) → IsAssignment r a → IsAssignment s a
  pub after : (a : ℕ → Tree) → IsAssignment s a → instance a t ≡ instance a u → IsAssignment r a
  pub fewer : unbound_in (bindings r) < unbound_in (bindings s)
  pub size : (ps : List Pair) → cells_of_pairs (bindings r) ps ≤ cells_of_pairs (bindings s) ps * (cells (value (bindings s) t) + cells (value (bindings s) u))

-- the terms are one where these pairs are
pub record Parts (s : State) (t u : Tree) (qs : List Pair) : Type 0 where
  pub below : PairsBelow (next s) qs
  pub from : (a : ℕ → Tree) → AreOne a qs → instance a t ≡ instance a u
  pub to : (a : ℕ → Tree) → instance a t ≡ instance a u → AreOne a qs
  pub size : cells_of_pairs (bindings s) qs < cells (value (bindings s) t) + cells (value (bindings s) u)

abbrev pub IsOutcome : State → Tree → Tree → Outcome → Type 0
IsOutcome s t u clash = NoWay s t u
IsOutcome s t u (changed r) = Joins s t u r
IsOutcome s t u (parts qs) = Parts s t u qs

-- a term that was followed at its root
pub record IsRoot (s : State) (t : Tree) : Type 0 where
  pub below : SpeaksBelow (next s) t
  pub unbound : (n : ℕ) → t ≡ var n → held (bindings s) n ≡ None

-- ---- both ways round

pub flip_no_way : (s : State) (t u : Tree) → NoWay s t u → NoWay s u t
flip_no_way s t u h a is one = h a is (sym one)

pub flip_joins : (s : State) (t u : Tree) (r : State) → Joins s t u r → Joins s u t r
flip_joins s t u r j = record {
  state = j.state;
  grows = j.grows;
  lower = j.lower;
  solved = λ a solves. let x : Solves a (bindings s) × (instance a t ≡ instance a u) = j.solved a solves in (x.0, sym x.1);
  before = j.before;
  after = λ a is one. j.after a is (sym one);
  fewer = j.fewer;
  size = λ ps.
      let here : cells_of_pairs (bindings r) ps ≤ cells_of_pairs (bindings s) ps * (cells (value (bindings s) t) + cells (value (bindings s) u)) = j.size ps in
      let turned : cells_of_pairs (bindings s) ps * (cells (value (bindings s) t) + cells (value (bindings s) u)) ≡ cells_of_pairs (bindings s) ps * (cells (value (bindings s) u) + cells (value (bindings s) t)) = ap (λ (k : ℕ). cells_of_pairs (bindings s) ps * k) (omega arith) in
      omega arith;
}

-- ---- whether a variable occurs

listed_has : (ns : List ℕ) (n : ℕ) → Has ns n → list_any (λ m. m == n) ns ≡ true
listed_has [] n h = absurd h
listed_has (m ∷ ns) n (inl e) = let here : (m == n) ≡ true = eq-eqb m n e in rw here refl
listed_has (m ∷ ns) n (inr h) = elim (cases_Bool (m == n)) [ inl here ↦ rw here refl | inr there ↦ rw there (listed_has ns n h) ]

has_listed : (ns : List ℕ) (n : ℕ) → list_any (λ m. m == n) ns ≡ true → Has ns n
has_listed [] n e = cc
has_listed (m ∷ ns) n e = elim (cases_Bool (m == n)) [
  | inl here ↦ inl (eqb-true m n here)
  | inr there ↦ let rest : list_any (λ m. m == n) ns ≡ true = rw there at e in inr (has_listed ns n rest)
]

pub does_occur_is : (n : ℕ) (t : Tree) → does_occur n t ≡ true → Occurs n t
does_occur_is n t e = occurs_from_Has t n (has_listed (occurrences t) n e)

pub does_occur_not : (n : ℕ) (t : Tree) → does_occur n t ≡ false → Occurs n t → ⊥
does_occur_not n t e h = let e2 : does_occur n t ≡ true = listed_has (occurrences t) n (Has-from_occurs t n h) in cc

-- ---- a term that would hold itself

mutual
  unfolding instance Occurs cells

  pub part_cells : (a : ℕ → Tree) (n : ℕ) (t : Tree) → Occurs n t → cells (a n) ≤ cells (instance a t)
  part_cells a n (var m) e = let same : cells (a m) ≡ cells (a n) = ap (λ (k : ℕ). cells (a k)) e in omega arith
  part_cells a n (int m) e = absurd e
  part_cells a n (atom name) e = absurd e
  part_cells a n (comp name ts) e = let rest : cells (a n) ≤ cells_all (instances a ts) = parts_cells a n ts e in omega arith

  pub parts_cells : (a : ℕ → Tree) (n : ℕ) (ts : Trees) → OccursInAny n ts → cells (a n) ≤ cells_all (instances a ts)
  parts_cells a n no_trees e = absurd e
  parts_cells a n (tree t ts) (inl e) = let this : cells (a n) ≤ cells (instance a t) = part_cells a n t e in omega arith
  parts_cells a n (tree t ts) (inr e) = let rest : cells (a n) ≤ cells_all (instances a ts) = parts_cells a n ts e in omega arith
