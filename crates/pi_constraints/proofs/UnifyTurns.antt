-- Any pair has a sound outcome, after which fewer pairs are ahead; so the pairs ahead are enough, and the first pair
-- comes first.
use Rattle.std.proofs.Common.{◌≡◌, ℕ, zero, suc, ◌+◌, ◌*◌, ◌<◌, ◌≤◌, ◌==◌, false, cond, List, [], ◌∷◌, ◌++◌, Some, nat_lt, refl, ap, sym, subst, inl, inr, arith, eq-eqb}
use Rattle.std.specs.Prelude.{ℤ}
use Rattle.std.proofs.lemmas.Bool.{cases_Bool, eqb-true, ltb-true, ltb-false}
use Rattle.std.proofs.Math.Nat.{mul-le-mul_left}
use Rattle.pi_terms.specs.Tree.{Tree, var, int, atom, comp, Trees, cells}
use Rattle.pi_terms.specs.Variables.{Occurs}
use Rattle.pi_terms.specs.Substitution.{instance}
use Rattle.pi_constraints.specs.Value.{Bindings, value}
use Rattle.pi_constraints.specs.State.{State, bindings, next, followed, SpeaksBelow, IsState}
use Rattle.pi_constraints.specs.Unify.{Pair, Outcome, clash, changed, parts, assigned, joined, outcome, go_on, unified_for, unbound_in, cells_of_pairs, most_pairs, pairs_ahead, all_unified, PairsBelow, NoPairsLeaveTheState, FirstPairComesFirst}
use Rattle.pi_constraints.proofs.FollowLemmas.{IsNoVariable, followed_value, followed_below, followed_unbound}
use Rattle.pi_constraints.proofs.StateLemmas.{bound_below}
use Rattle.pi_constraints.proofs.UnifyCells.{some_cells, pairs-append, most-less, most-bound}
use Rattle.pi_constraints.proofs.UnifyOutcome.{IsOutcome, Joins, Parts, IsRoot, flip_no_way, flip_joins}
use Rattle.pi_constraints.proofs.UnifyAssigned.{assigned_outcome}
use Rattle.pi_constraints.proofs.UnifyJoined.{AreTwo, joined_outcome}
use Rattle.pi_constraints.proofs.UnifyParts.{compounds_outcome, ints_outcome, atoms_outcome, same_outcome}

-- ---- the outcome of any pair

pub root : (s : State) (t : Tree) → IsState s → SpeaksBelow (next s) t → IsRoot s (followed (bindings s) t)
root s t is below = record {
  below = followed_below (next s) (bindings s) t (λ n u held. bound_below s n u is held) below;
  unbound = λ n e. followed_unbound (bindings s) t n is.acyclic e;
}

flip : (s : State) (t u : Tree) (o : Outcome) → IsOutcome s t u o → IsOutcome s u t o
flip s t u clash h = flip_no_way s t u h
flip s t u (changed r) h = flip_joins s t u r h
flip s t u (parts qs) h = record { below = h.below; from = λ a one. sym (h.from a one); to = λ a one. h.to a (sym one); size = omega (arith, h.size) }

root_made : (s : State) (n : ℕ) → IsRoot s (var n) → n < next s
unfolding Occurs
root_made s n r = r.below n refl

assigned_root : (s : State) (n : ℕ) (u : Tree) → IsState s → IsRoot s (var n) → IsRoot s u → IsNoVariable u → IsOutcome s (var n) u (assigned s n u)
assigned_root s n u is l r other = assigned_outcome s n u is (root_made s n l) (l.unbound n refl) r.below other

two_roots : (s : State) (low high : ℕ) → IsState s → IsRoot s (var low) → IsRoot s (var high) → low < high → AreTwo s low high
two_roots s low high is l h less = record { state = is; less = less; made = root_made s high h; low_unbound = l.unbound low refl; high_unbound = h.unbound high refl }

above : (m n : ℕ) → (m == n) ≡ false → n ≤ m → n < m
above m n apart more = elim (cases_Bool (nat_lt n m)) [
  | inl less ↦ ltb-true n m less
  | inr not_less ↦ let same : m ≡ n = let back : m ≤ n = ltb-false n m not_less in omega arith in absurd (cc (eq-eqb m n same))
]

variables_outcome : (s : State) (m n : ℕ) → IsState s → IsRoot s (var m) → IsRoot s (var n) → IsOutcome s (var m) (var n) (cond (m == n) (parts []) (cond (nat_lt m n) (joined s m n) (joined s n m)))
variables_outcome s m n is l r = elim (cases_Bool (m == n)) [
  | inl same ↦ rw same (same_outcome s (var m) (var n) (ap var (eqb-true m n same)))
  | inr apart ↦ rw apart (elim (cases_Bool (nat_lt m n)) [
    | inl less ↦ rw less (joined_outcome s m n (two_roots s m n is l r (ltb-true m n less)))
    | inr more ↦ rw more (flip s (var n) (var m) (joined s n m) (joined_outcome s n m (two_roots s n m is r l (above m n apart (ltb-false m n more)))))
  ])
]

int_no_atom : (a : ℕ → Tree) (i : ℤ) (f : List ℕ) → instance a (int i) ≡ instance a (atom f) → ⊥
unfolding instance
int_no_atom a i f one = cc

int_no_compound : (a : ℕ → Tree) (i : ℤ) (f : List ℕ) (ts : Trees) → instance a (int i) ≡ instance a (comp f ts) → ⊥
unfolding instance
int_no_compound a i f ts one = cc

atom_no_compound : (a : ℕ → Tree) (f g : List ℕ) (ts : Trees) → instance a (atom f) ≡ instance a (comp g ts) → ⊥
unfolding instance
atom_no_compound a f g ts one = cc

pub outcome_good : (s : State) (t u : Tree) → IsState s → IsRoot s t → IsRoot s u → IsOutcome s t u (outcome s t u)
unfolding outcome
outcome_good s (var m) (var n) is l r = variables_outcome s m n is l r
outcome_good s (var n) (int i) is l r = assigned_root s n (int i) is l r (λ m e. cc)
outcome_good s (var n) (atom f) is l r = assigned_root s n (atom f) is l r (λ m e. cc)
outcome_good s (var n) (comp f ts) is l r = assigned_root s n (comp f ts) is l r (λ m e. cc)
outcome_good s (int i) (var n) is l r = flip s (var n) (int i) (assigned s n (int i)) (assigned_root s n (int i) is r l (λ m e. cc))
outcome_good s (int i) (int j) is l r = ints_outcome s i j
outcome_good s (int i) (atom f) is l r = λ a assigns one. int_no_atom a i f one
outcome_good s (int i) (comp f ts) is l r = λ a assigns one. int_no_compound a i f ts one
outcome_good s (atom f) (var n) is l r = flip s (var n) (atom f) (assigned s n (atom f)) (assigned_root s n (atom f) is r l (λ m e. cc))
outcome_good s (atom f) (int i) is l r = λ a assigns one. int_no_atom a i f (sym one)
outcome_good s (atom f) (atom g) is l r = atoms_outcome s f g
outcome_good s (atom f) (comp g us) is l r = λ a assigns one. atom_no_compound a f g us one
outcome_good s (comp f ts) (var n) is l r = flip s (var n) (comp f ts) (assigned s n (comp f ts)) (assigned_root s n (comp f ts) is r l (λ m e. cc))
outcome_good s (comp f ts) (int i) is l r = λ a assigns one. int_no_compound a i f ts (sym one)
outcome_good s (comp f ts) (atom g) is l r = λ a assigns one. atom_no_compound a g f ts (sym one)
outcome_good s (comp f ts) (comp g us) is l r = compounds_outcome s f g ts us l.below r.below

-- the outcome of a pair, followed at its roots
abbrev pub first_outcome : State → Pair → Outcome
first_outcome s p = outcome s (followed (bindings s) p.0) (followed (bindings s) p.1)

pub first_good : (s : State) (p : Pair) → IsState s → SpeaksBelow (next s) p.0 → SpeaksBelow (next s) p.1 → IsOutcome s (followed (bindings s) p.0) (followed (bindings s) p.1) (first_outcome s p)
first_good s p is l r = outcome_good s (followed (bindings s) p.0) (followed (bindings s) p.1) is (root s p.0 is l) (root s p.1 is r)

-- ---- fewer pairs are ahead

pair_cells : (s : State) (p : Pair) → IsState s → cells (value (bindings s) (followed (bindings s) p.0)) + cells (value (bindings s) (followed (bindings s) p.1)) ≡ cells (value (bindings s) p.0) + cells (value (bindings s) p.1)
pair_cells s p is =
    let left : cells (value (bindings s) (followed (bindings s) p.0)) ≡ cells (value (bindings s) p.0) = ap cells (followed_value (bindings s) p.0 is.acyclic) in
    let right : cells (value (bindings s) (followed (bindings s) p.1)) ≡ cells (value (bindings s) p.1) = ap cells (followed_value (bindings s) p.1 is.acyclic) in
    omega arith

pub ahead_changed : (s : State) (p : Pair) (ps : List Pair) (r : State) → IsState s → Joins s (followed (bindings s) p.0) (followed (bindings s) p.1) r → pairs_ahead r ps < pairs_ahead s (p ∷ ps)
unfolding cells_of_pairs
ahead_changed s p ps r is j =
    let b : Bindings = bindings s in
    let pair : ℕ = cells (value b p.0) + cells (value b p.1) in
    let rest : ℕ = cells_of_pairs b ps in
    let some : 1 ≤ cells (value b p.0) = some_cells (value b p.0) in
    let size : cells_of_pairs (bindings r) ps ≤ rest * pair = subst (λ (k : ℕ). cells_of_pairs (bindings r) ps ≤ rest * k) (pair_cells s p is) (j.size ps) in
    let more : rest * pair ≤ rest * (pair + rest) = mul-le-mul_left {m = pair} {n = pair + rest} rest (omega arith) in
    most-bound (unbound_in (bindings r)) (unbound_in b) (cells_of_pairs (bindings r) ps) (pair + rest) rest j.fewer (omega arith) (omega arith) (omega arith)

pub ahead_parts : (s : State) (p : Pair) (ps qs : List Pair) → IsState s → Parts s (followed (bindings s) p.0) (followed (bindings s) p.1) qs → pairs_ahead s (qs ++ ps) < pairs_ahead s (p ∷ ps)
unfolding cells_of_pairs
ahead_parts s p ps qs is h =
    let b : Bindings = bindings s in
    let pair : ℕ = cells (value b p.0) + cells (value b p.1) in
    let size : cells_of_pairs b qs < pair = subst (λ (k : ℕ). cells_of_pairs b qs < k) (pair_cells s p is) h.size in
    let all : cells_of_pairs b (qs ++ ps) ≡ cells_of_pairs b qs + cells_of_pairs b ps = pairs-append b qs ps in
    most-less (unbound_in b) (cells_of_pairs b (qs ++ ps)) (pair + cells_of_pairs b ps) (omega arith)

most_some : (n m : ℕ) → m ≤ most_pairs n m
unfolding most_pairs
most_some zero m = omega arith
most_some (suc n) m = omega arith

pub ahead_some : (s : State) (p : Pair) (ps : List Pair) → 1 ≤ pairs_ahead s (p ∷ ps)
unfolding cells_of_pairs
ahead_some s p ps =
    let some : 1 ≤ cells (value (bindings s) p.0) = some_cells (value (bindings s) p.0) in
    let most = most_some (unbound_in (bindings s)) (cells_of_pairs (bindings s) (p ∷ ps)) in
    omega arith

pub pairs_below-append : (n : ℕ) (ps qs : List Pair) → PairsBelow n ps → PairsBelow n qs → PairsBelow n (ps ++ qs)
unfolding PairsBelow
pairs_below-append n [] qs l r = r
pairs_below-append n (p ∷ ps) qs l r = (l.0, l.1, pairs_below-append n ps qs l.2 r)

-- ---- enough is enough

same_after : (k j : ℕ) (s : State) (p : Pair) (ps : List Pair) (o : Outcome) → IsState s → PairsBelow (next s) ps → IsOutcome s (followed (bindings s) p.0) (followed (bindings s) p.1) o
    → pairs_ahead s (p ∷ ps) ≤ suc k → pairs_ahead s (p ∷ ps) ≤ suc j
    → ((r : State) (qs : List Pair) → IsState r → PairsBelow (next r) qs → pairs_ahead r qs ≤ k → pairs_ahead r qs ≤ j → unified_for k r qs ≡ unified_for j r qs)
    → go_on (unified_for k) s ps o ≡ go_on (unified_for j) s ps o
same_after k j s p ps clash is below h kmore jmore same = refl
same_after k j s p ps (changed r) is below h kmore jmore same =
    let ahead : pairs_ahead r ps < pairs_ahead s (p ∷ ps) = ahead_changed s p ps r is h in
    same r ps h.state (subst (λ (n : ℕ). PairsBelow n ps) (sym h.grows.as_many) below) (omega arith) (omega arith)
same_after k j s p ps (parts qs) is below h kmore jmore same =
    let ahead : pairs_ahead s (qs ++ ps) < pairs_ahead s (p ∷ ps) = ahead_parts s p ps qs is h in
    same s (qs ++ ps) is (pairs_below-append (next s) qs ps h.below below) (omega arith) (omega arith)

pub enough : (k j : ℕ) (s : State) (ps : List Pair) → IsState s → PairsBelow (next s) ps → pairs_ahead s ps ≤ k → pairs_ahead s ps ≤ j → unified_for k s ps ≡ unified_for j s ps
unfolding unified_for PairsBelow
enough zero zero s ps is below kmore jmore = refl
enough zero (suc j) s [] is below kmore jmore = refl
enough (suc k) zero s [] is below kmore jmore = refl
enough (suc k) (suc j) s [] is below kmore jmore = refl
enough zero (suc j) s (p ∷ ps) is below kmore jmore = absurd (omega (arith, ahead_some s p ps))
enough (suc k) zero s (p ∷ ps) is below kmore jmore = absurd (omega (arith, ahead_some s p ps))
enough (suc k) (suc j) s (p ∷ ps) is below kmore jmore =
    same_after k j s p ps (first_outcome s p) is below.2 (first_good s p is below.0 below.1) kmore jmore (λ r qs good low more less. enough k j r qs good low more less)

none_for : (k : ℕ) (s : State) → unified_for k s [] ≡ Some s
unfolding unified_for
none_for zero s = refl
none_for (suc k) s = refl

same_goes_on : (k : ℕ) (s : State) (p : Pair) (ps : List Pair) (o : Outcome) → IsState s → PairsBelow (next s) ps → IsOutcome s (followed (bindings s) p.0) (followed (bindings s) p.1) o → pairs_ahead s (p ∷ ps) ≤ suc k → go_on (unified_for k) s ps o ≡ go_on all_unified s ps o
unfolding all_unified
same_goes_on k s p ps clash is below h more = refl
same_goes_on k s p ps (changed r) is below h more =
    let ahead : pairs_ahead r ps < pairs_ahead s (p ∷ ps) = ahead_changed s p ps r is h in
    enough k (pairs_ahead r ps) r ps h.state (subst (λ (n : ℕ). PairsBelow n ps) (sym h.grows.as_many) below) (omega arith) (omega arith)
same_goes_on k s p ps (parts qs) is below h more =
    let ahead : pairs_ahead s (qs ++ ps) < pairs_ahead s (p ∷ ps) = ahead_parts s p ps qs is h in
    enough k (pairs_ahead s (qs ++ ps)) s (qs ++ ps) is (pairs_below-append (next s) qs ps h.below below) (omega arith) (omega arith)

from_ahead : (k : ℕ) (s : State) (p : Pair) (ps : List Pair) → IsState s → PairsBelow (next s) (p ∷ ps) → pairs_ahead s (p ∷ ps) ≡ k → unified_for k s (p ∷ ps) ≡ go_on all_unified s ps (first_outcome s p)
unfolding unified_for PairsBelow
from_ahead zero s p ps is below e = absurd (omega (arith, ahead_some s p ps))
from_ahead (suc k) s p ps is below e = same_goes_on k s p ps (first_outcome s p) is below.2 (first_good s p is below.0 below.1) (omega arith)

pub no_pairs : NoPairsLeaveTheState
unfolding all_unified
no_pairs s = none_for (pairs_ahead s []) s

pub first_pair : FirstPairComesFirst
unfolding all_unified PairsBelow
first_pair s t u ps is below = from_ahead (pairs_ahead s ((t, u) ∷ ps)) s (t, u) ps is below refl
