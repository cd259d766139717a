-- The state that a unification gives has just the assignments under which the pairs are one.
use Rattle.std.proofs.Common.{◌≡◌, ℕ, zero, suc, ◌<◌, ◌≤◌, List, [], ◌∷◌, ◌++◌, length, Option, Some, None, refl, ap, sym, ◌∙◌, subst, arith}
use Rattle.std.specs.Prelude.{ℤ, IsTrue}
use Rattle.pi_terms.specs.Tree.{Tree, var, int}
use Rattle.pi_terms.specs.Places.{held}
use Rattle.pi_terms.specs.Substitution.{instance}
use Rattle.pi_constraints.specs.Domain.{IsDomain, has_value, values_of, size_of}
use Rattle.pi_constraints.specs.Value.{Bindings, value, Solves}
use Rattle.pi_constraints.specs.State.{State, bindings, next, domain_of, followed, SpeaksBelow, IsState}
use Rattle.pi_constraints.specs.Unify.{Pair, Outcome, clash, changed, parts, go_on, unified_for, pairs_ahead, all_unified, unified, PairsBelow, IsAssignment, Grows, UnifiedHasTheAssignments, NotUnifiedHasNone, UnifiedAreOne, UnifiedIsAState, UnifiedGrows, HigherIsBoundToLower}
use Rattle.pi_constraints.specs.declared.domain.Span.{Span}
use Rattle.pi_terms.proofs.VariableLemmas.{substitution}
use Rattle.pi_constraints.proofs.ValueLemmas.{value_goes_by_variables, unbound_is_its_own_value, bound_has_value_of_its_term, values_solve}
use Rattle.pi_constraints.proofs.CommonLemmas.{first_value}
use Rattle.pi_constraints.proofs.FollowLemmas.{followed_instance}
use Rattle.pi_constraints.proofs.StateLemmas.{domain_unbound, domain_good}
use Rattle.pi_constraints.proofs.UnifyBindings.{grows-refl, grows-trans, ToLower, same_lower, lower-trans}
use Rattle.pi_constraints.proofs.UnifyOutcome.{AreOne, IsOutcome}
use Rattle.pi_constraints.proofs.UnifyTurns.{first_outcome, first_good, ahead_changed, ahead_parts, ahead_some, pairs_below-append}

-- r is the state in which the pairs are one
pub record Unifies (s : State) (ps : List Pair) (r : State) : Type 0 where
  pub state : IsState r
  pub grows : Grows s r
  pub lower : ToLower s r
  pub solved : (a : ℕ → Tree) → Solves a (bindings r) → Solves a (bindings s) × AreOne a ps
  pub before : (a : ℕ → Tree) → IsAssignment r a → IsAssignment s a
  pub after : (a : ℕ → Tree) → IsAssignment s a → AreOne a ps → IsAssignment r a

abbrev pub IsResult : State → List Pair → Option State → Type 0
IsResult s ps None = (a : ℕ → Tree) → IsAssignment s a → AreOne a ps → ⊥
IsResult s ps (Some r) = Unifies s ps r

unifies_none : (s : State) → IsState s → Unifies s [] s
unfolding AreOne
unifies_none s is = record { state = is; grows = grows-refl s; lower = same_lower s s refl; solved = λ a solves. (solves, tt); before = λ a assigns. assigns; after = λ a assigns one. assigns }

one_append : (a : ℕ → Tree) (ps qs : List Pair) → AreOne a (ps ++ qs) → AreOne a ps × AreOne a qs
unfolding AreOne
one_append a [] qs one = (tt, one)
one_append a (p ∷ ps) qs one = let rest : AreOne a ps × AreOne a qs = one_append a ps qs one.1 in ((one.0, rest.0), rest.1)

append_one : (a : ℕ → Tree) (ps qs : List Pair) → AreOne a ps → AreOne a qs → AreOne a (ps ++ qs)
unfolding AreOne
append_one a [] qs one two = two
append_one a (p ∷ ps) qs one two = (one.0, append_one a ps qs one.1 two)

-- a pair is one where the terms are that it leads to
pair_from_roots : (s : State) (p : Pair) (a : ℕ → Tree) → Solves a (bindings s) → instance a (followed (bindings s) p.0) ≡ instance a (followed (bindings s) p.1) → instance a p.0 ≡ instance a p.1
pair_from_roots s p a solves one = sym (followed_instance a (bindings s) p.0 solves) ∙ (one ∙ followed_instance a (bindings s) p.1 solves)

roots_from_pair : (s : State) (p : Pair) (a : ℕ → Tree) → Solves a (bindings s) → instance a p.0 ≡ instance a p.1 → instance a (followed (bindings s) p.0) ≡ instance a (followed (bindings s) p.1)
roots_from_pair s p a solves one = followed_instance a (bindings s) p.0 solves ∙ (one ∙ sym (followed_instance a (bindings s) p.1 solves))

-- ---- a pair and those behind it

after_changed : (s r : State) (p : Pair) (ps : List Pair) (o : Option State) → IsOutcome s (followed (bindings s) p.0) (followed (bindings s) p.1) (changed r) → IsResult r ps o → IsResult s (p ∷ ps) o
unfolding AreOne
after_changed s r p ps None j h = λ a is one. h a (j.after a is (roots_from_pair s p a is.solves one.0)) one.1
after_changed s r p ps (Some q) j h = record {
  state = h.state;
  grows = grows-trans s r q j.grows h.grows;
  lower = lower-trans s r q h.grows j.lower h.lower;
  solved = λ a solves.
      let x : Solves a (bindings r) × AreOne a ps = h.solved a solves in
      let y : Solves a (bindings s) × (instance a (followed (bindings s) p.0) ≡ instance a (followed (bindings s) p.1)) = j.solved a x.0 in
      (y.0, (pair_from_roots s p a y.0 y.1, x.1));
  before = λ a is. j.before a (h.before a is);
  after = λ a is one. h.after a (j.after a is (roots_from_pair s p a is.solves one.0)) one.1;
}

after_parts : (s : State) (p : Pair) (ps qs : List Pair) (o : Option State) → IsOutcome s (followed (bindings s) p.0) (followed (bindings s) p.1) (parts qs) → IsResult s (qs ++ ps) o → IsResult s (p ∷ ps) o
unfolding AreOne
after_parts s p ps qs None j h = λ a is one. h a is (append_one a qs ps (j.to a (roots_from_pair s p a is.solves one.0)) one.1)
after_parts s p ps qs (Some q) j h = record {
  state = h.state;
  grows = h.grows;
  lower = h.lower;
  solved = λ a solves.
      let x : Solves a (bindings s) × AreOne a (qs ++ ps) = h.solved a solves in
      let y : AreOne a qs × AreOne a ps = one_append a qs ps x.1 in
      (x.0, (pair_from_roots s p a x.0 (j.from a y.0), y.1));
  before = h.before;
  after = λ a is one. h.after a is (append_one a qs ps (j.to a (roots_from_pair s p a is.solves one.0)) one.1);
}

result_after : (k : ℕ) (s : State) (p : Pair) (ps : List Pair) (o : Outcome) → IsState s → PairsBelow (next s) ps → IsOutcome s (followed (bindings s) p.0) (followed (bindings s) p.1) o → pairs_ahead s (p ∷ ps) ≤ suc k
    → ((r : State) (qs : List Pair) → IsState r → PairsBelow (next r) qs → pairs_ahead r qs ≤ k → IsResult r qs (unified_for k r qs))
    → IsResult s (p ∷ ps) (go_on (unified_for k) s ps o)
unfolding AreOne
result_after k s p ps clash is below h more deeper = λ a assigns one. h a assigns (roots_from_pair s p a assigns.solves one.0)
result_after k s p ps (changed r) is below h more deeper =
    let ahead : pairs_ahead r ps < pairs_ahead s (p ∷ ps) = ahead_changed s p ps r is h in
    after_changed s r p ps (unified_for k r ps) h (deeper r ps h.state (subst (λ (n : ℕ). PairsBelow n ps) (sym h.grows.as_many) below) (omega arith))
result_after k s p ps (parts qs) is below h more deeper =
    let ahead : pairs_ahead s (qs ++ ps) < pairs_ahead s (p ∷ ps) = ahead_parts s p ps qs is h in
    after_parts s p ps qs (unified_for k s (qs ++ ps)) h (deeper s (qs ++ ps) is (pairs_below-append (next s) qs ps h.below below) (omega arith))

result_for : (k : ℕ) (s : State) (ps : List Pair) → IsState s → PairsBelow (next s) ps → pairs_ahead s ps ≤ k → IsResult s ps (unified_for k s ps)
unfolding unified_for PairsBelow
result_for zero s [] is below more = unifies_none s is
result_for (suc k) s [] is below more = unifies_none s is
result_for zero s (p ∷ ps) is below more = absurd (omega (arith, ahead_some s p ps))
result_for (suc k) s (p ∷ ps) is below more =
    result_after k s p ps (first_outcome s p) is below.2 (first_good s p is below.0 below.1) more (λ r qs good low less. result_for k r qs good low less)

pub result : (s : State) (ps : List Pair) → IsState s → PairsBelow (next s) ps → IsResult s ps (all_unified s ps)
unfolding all_unified
result s ps is below = result_for (pairs_ahead s ps) s ps is below (omega arith)

-- ---- the laws

pair_below : (n : ℕ) (t u : Tree) → SpeaksBelow n t → SpeaksBelow n u → PairsBelow n ((t, u) ∷ [])
unfolding PairsBelow
pair_below n t u l r = (l, r, tt)

unifies : (s r : State) (t u : Tree) → IsState s → SpeaksBelow (next s) t → SpeaksBelow (next s) u → unified s t u ≡ Some r → Unifies s ((t, u) ∷ []) r
unifies s r t u is l h e = subst (IsResult s ((t, u) ∷ [])) e (result s ((t, u) ∷ []) is (pair_below (next s) t u l h))

pub unified_is_a_state : UnifiedIsAState
unified_is_a_state s r t u is l h e = (unifies s r t u is l h e).state

pub unified_grows : UnifiedGrows
unified_grows s r t u is l h e = (unifies s r t u is l h e).grows

pub higher_is_bound_to_lower : HigherIsBoundToLower
higher_is_bound_to_lower s r t u is l h e = (unifies s r t u is l h e).lower

solved_pair : (s r : State) (t u : Tree) (a : ℕ → Tree) → Unifies s ((t, u) ∷ []) r → Solves a (bindings r) → instance a t ≡ instance a u
unfolding AreOne
solved_pair s r t u a h solves = let x : Solves a (bindings s) × AreOne a ((t, u) ∷ []) = h.solved a solves in x.1.0

pub unified_has_the_assignments : UnifiedHasTheAssignments
unfolding AreOne
unified_has_the_assignments s r t u is l h e a =
    let x : Unifies s ((t, u) ∷ []) r = unifies s r t u is l h e in
    ((λ assigns. (x.before a assigns, solved_pair s r t u a x assigns.solves)), (λ both. x.after a both.0 (both.1, tt)))

pub unified_are_one : UnifiedAreOne
unified_are_one s r t u is l h e =
    let x : Unifies s ((t, u) ∷ []) r = unifies s r t u is l h e in
    let a : ℕ → Tree = λ n. value (bindings r) (var n) in
    value_goes_by_variables (bindings r) t ∙ (solved_pair s r t u a x (values_solve (bindings r) x.state.acyclic) ∙ sym (value_goes_by_variables (bindings r) u))

-- ---- a state has an assignment: the first value of each domain, in the values of all terms

first_of : List ℤ → ℕ → Tree
first_of [] n = var n
first_of (i ∷ rest) n = int i

chosen_of : Option (List Span) → ℕ → Tree
chosen_of None n = var n
chosen_of (Some d) n = first_of (values_of d) n

abbrev chosen : State → ℕ → Tree
chosen s n = chosen_of (domain_of s n) n

abbrev assignment : State → ℕ → Tree
assignment s n = instance (chosen s) (value (bindings s) (var n))

first_admitted : (d : List Span) (n : ℕ) (values : List ℤ) → IsDomain d → 2 ≤ size_of d → values_of d ≡ values → (i : ℤ) × (first_of values n ≡ int i) × IsTrue (has_value d i)
unfolding first_of
first_admitted d n [] up many is = absurd (let none : size_of d ≡ 0 = ap length is in omega arith)
first_admitted d n (i ∷ rest) up many is = (i, refl, first_value d i rest up is)

assignment_solves : (s : State) → IsState s → Solves (assignment s) (bindings s)
assignment_solves s is n u held =
    let b : Bindings = bindings s in
    ap (instance (chosen s)) (bound_has_value_of_its_term b n u is.acyclic held ∙ value_goes_by_variables b u)
    ∙ substitution (chosen s) (λ m. value b (var m)) u

state_has_one : (s : State) → IsState s → IsAssignment s (assignment s)
unfolding instance chosen_of
state_has_one s is = record {
  solves = assignment_solves s is;
  admitted = λ n d has.
      let own : value (bindings s) (var n) ≡ var n = unbound_is_its_own_value (bindings s) n (domain_unbound s n d has) in
      let good : IsDomain d × (2 ≤ size_of d) = domain_good s n d is has in
      let x : (i : ℤ) × (first_of (values_of d) n ≡ int i) × IsTrue (has_value d i) = first_admitted d n (values_of d) good.0 good.1 refl in
      (x.0, ap (instance (chosen s)) own ∙ (ap (λ o. chosen_of o n) has ∙ x.1), x.2);
}

none_or_some : (o : Option State) → ((r : State) → o ≡ Some r → ⊥) → o ≡ None
none_or_some None h = refl
none_or_some (Some r) h = absurd (h r refl)

pub not_unified_has_none : NotUnifiedHasNone
unfolding AreOne
not_unified_has_none s t u is l h = (
  (λ e a assigns one. subst (IsResult s ((t, u) ∷ [])) e (result s ((t, u) ∷ []) is (pair_below (next s) t u l h)) a assigns (one, tt)),
  (λ none. none_or_some (unified s t u) (λ r e.
      let x : Unifies s ((t, u) ∷ []) r = unifies s r t u is l h e in
      let y : IsAssignment r (assignment r) = state_has_one r x.state in
      none (assignment r) (x.before (assignment r) y) (solved_pair s r t u (assignment r) x y.solves))),
)
