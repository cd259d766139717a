-- The value of a term under acyclic bindings.
use Rattle.std.proofs.Common.{◌≡◌, ℕ, zero, suc, ◌==◌, ◌+◌, ◌<◌, ◌≤◌, Bool, true, false, cond, List, [], ◌∷◌, Option, Some, None, length, nat_lt, refl, ap, sym, ◌∙◌, subst, inl, inr, arith}
use Rattle.std.specs.Option.{unwrap_or}
use Rattle.std.proofs.lemmas.Bool.{cases_Bool, eqb-true, ltb-true, ltb-false}
use Rattle.std.proofs.lemmas.Bool.Decides.{nat_tests}
use Rattle.std.proofs.lemmas.List.{get_or_past}
use Rattle.pi_terms.specs.Tree.{Tree, var, int, atom, comp, Trees, no_trees, tree}
use Rattle.pi_terms.specs.Places.{held}
use Rattle.pi_terms.specs.Variables.{Occurs, OccursInAny}
use Rattle.pi_terms.specs.Substitution.{instance, instances, after}
use Rattle.pi_constraints.specs.Value.{Bindings, replaced_once, rounds, value, IsAcyclic, ValueGoesByVariables, UnboundIsItsOwnValue, BoundHasValueOfItsTerm, ValueHasNoneBound, GroundIsItsOwnValue, Solves, ValuesSolve, ValueHasSameInstances}
use Rattle.pi_terms.proofs.VariableLemmas.{Has, only_its_variables_count, instance-var, substitution, ground_stays}

-- ---- variables of an instance

mutual
  unfolding instance Occurs

  pub occurs_in_instance : (s : ℕ → Tree) (t : Tree) (m : ℕ) → Occurs m (instance s t) → (n : ℕ) × Occurs n t × Occurs m (s n)
  occurs_in_instance s (var n) m h = (n, refl, h)
  occurs_in_instance s (int n) m h = absurd h
  occurs_in_instance s (atom name) m h = absurd h
  occurs_in_instance s (comp name ts) m h = occurs_in_instances s ts m h

  occurs_in_instances : (s : ℕ → Tree) (ts : Trees) (m : ℕ) → OccursInAny m (instances s ts) → (n : ℕ) × OccursInAny n ts × Occurs m (s n)
  occurs_in_instances s no_trees m h = absurd h
  occurs_in_instances s (tree t ts) m (inl h) = let r : (n : ℕ) × Occurs n t × Occurs m (s n) = occurs_in_instance s t m h in (r.0, inl r.1, r.2)
  occurs_in_instances s (tree t ts) m (inr h) = let r : (n : ℕ) × OccursInAny n ts × Occurs m (s n) = occurs_in_instances s ts m h in (r.0, inr r.1, r.2)

mutual
  unfolding instance Occurs

  pub occurs_through : (s : ℕ → Tree) (t : Tree) (n m : ℕ) → Occurs n t → Occurs m (s n) → Occurs m (instance s t)
  occurs_through s (var k) n m e h = let P : ℕ → Type 0 = λ j. Occurs m (s j) in subst P (sym e) h
  occurs_through s (int k) n m e h = absurd e
  occurs_through s (atom name) n m e h = absurd e
  occurs_through s (comp name ts) n m e h = occurs_through_any s ts n m e h

  occurs_through_any : (s : ℕ → Tree) (ts : Trees) (n m : ℕ) → OccursInAny n ts → Occurs m (s n) → OccursInAny m (instances s ts)
  occurs_through_any s no_trees n m e h = absurd e
  occurs_through_any s (tree t ts) n m (inl e) h = inl (occurs_through s t n m e h)
  occurs_through_any s (tree t ts) n m (inr e) h = inr (occurs_through_any s ts n m e h)

-- ---- rounds

abbrev pub once : Bindings → ℕ → Tree
once b n = unwrap_or (held b n) (var n)

rounds_go : (k : ℕ) (b : Bindings) (t : Tree) → rounds k b t ≡ instance (λ n. rounds k b (var n)) t
unfolding rounds instance
rounds_go zero b t = sym (instance-var t)
rounds_go (suc k) b t =
    rounds_go k b (replaced_once b t) ∙ (substitution (λ n. rounds k b (var n)) (once b) t
    ∙ only_its_variables_count (after (λ n. rounds k b (var n)) (once b)) (λ n. rounds k b (once b n)) t (λ n h. sym (rounds_go k b (once b n))))

rounds_once : (k : ℕ) (b : Bindings) (t : Tree) → rounds k b (replaced_once b t) ≡ replaced_once b (rounds k b t)
unfolding rounds
rounds_once zero b t = refl
rounds_once (suc k) b t = rounds_once k b (replaced_once b t)

once_stays : (b : Bindings) (t : Tree) → ((n : ℕ) → Occurs n t → held b n ≡ None) → replaced_once b t ≡ t
once_stays b t none = only_its_variables_count (once b) var t (λ n h. ap (λ o. unwrap_or o (var n)) (none n h)) ∙ instance-var t

rounds_unbound : (k : ℕ) (b : Bindings) (n : ℕ) → held b n ≡ None → rounds k b (var n) ≡ var n
unfolding rounds instance
rounds_unbound zero b n e = refl
rounds_unbound (suc k) b n e = ap (λ o. rounds k b (unwrap_or o (var n))) e ∙ rounds_unbound k b n e

-- ---- ranks below the number of variables

abbrev numbers : ℕ → List ℕ
numbers zero = []
numbers (suc n) = n ∷ numbers n

Has-numbers : (n i : ℕ) → i < n → Has (numbers n) i
Has-numbers zero i h = absurd (omega arith)
Has-numbers (suc n) i h = elim (cases_Bool (n == i)) [
  | inl here ↦ inl (eqb-true n i here)
  | inr there ↦ inr (Has-numbers n i (grind (arith, nat_tests)))
]

abbrev passing : (ℕ → Bool) → List ℕ → ℕ
passing p [] = 0
passing p (x ∷ xs) = cond (p x) 1 0 + passing p xs

passing_upto : (p : ℕ → Bool) (n : ℕ) → passing p (numbers n) ≤ n
passing_upto p zero = omega arith
passing_upto p (suc n) = elim (cases_Bool (p n)) [
  | inl hit ↦ rw hit (omega (arith, passing_upto p n))
  | inr miss ↦ rw miss (omega (arith, passing_upto p n))
]

passing_weaker : (p q : ℕ → Bool) (xs : List ℕ) → ((x : ℕ) → p x ≡ true → q x ≡ true) → passing p xs ≤ passing q xs
passing_weaker p q [] weaker = omega arith
passing_weaker p q (x ∷ xs) weaker = elim (cases_Bool (p x)) [
  | inl hit ↦ rw (hit, weaker x hit) (omega (arith, passing_weaker p q xs weaker))
  | inr miss ↦ rw miss (omega (arith, passing_weaker p q xs weaker))
]

passing_more : (p q : ℕ → Bool) (xs : List ℕ) (x : ℕ) → ((y : ℕ) → p y ≡ true → q y ≡ true) → Has xs x → p x ≡ false → q x ≡ true → passing p xs < passing q xs
passing_more p q [] x weaker h fails passes = absurd h
passing_more p q (y ∷ xs) x weaker (inl e) fails passes =
    rw (ap p e ∙ fails, ap q e ∙ passes) (omega (arith, passing_weaker p q xs weaker))
passing_more p q (y ∷ xs) x weaker (inr h) fails passes = elim (cases_Bool (p y)) [
  | inl hit ↦ rw (hit, weaker y hit) (omega (arith, passing_more p q xs x weaker h fails passes))
  | inr miss ↦ rw miss (omega (arith, passing_more p q xs x weaker h fails passes))
]

pub none_from : (o : Option Tree) → ((u : Tree) → o ≡ Some u → ⊥) → o ≡ None
none_from None h = refl
none_from (Some u) h = absurd (h u refl)

pub made : (b : Bindings) (n : ℕ) (u : Tree) → held b n ≡ Some u → n < length b
made b n u e = elim (cases_Bool (nat_lt n (length b))) [
  | inl hit ↦ ltb-true n (length b) hit
  | inr miss ↦ let past : held b n ≡ None = get_or_past b n None (ltb-false n (length b) miss) in absurd (cc)
]

-- ranks of the bound variables, below their number
pub record Ranked (b : Bindings) : Type 0 where
  pub rank : ℕ → ℕ
  pub falls : (n m : ℕ) (u w : Tree) → held b n ≡ Some u → Occurs m u → held b m ≡ Some w → rank m < rank n
  pub below : (n : ℕ) (u : Tree) → held b n ≡ Some u → rank n < length b

lower : (ℕ → ℕ) → ℕ → ℕ → Bool
lower r n m = nat_lt (r m) (r n)

lower_passes : (r : ℕ → ℕ) (n m : ℕ) → r m < r n → lower r n m ≡ true
unfolding lower
lower_passes r n m h = grind (arith, nat_tests)

lower_fails : (r : ℕ → ℕ) (n : ℕ) → lower r n n ≡ false
unfolding lower
lower_fails r n = grind (arith, nat_tests)

lower_weaker : (r : ℕ → ℕ) (n m : ℕ) → r m < r n → (x : ℕ) → lower r m x ≡ true → lower r n x ≡ true
unfolding lower
lower_weaker r n m h x e = let l : r x < r m = ltb-true (r x) (r m) e in grind (arith, nat_tests)

pub ranked : (b : Bindings) → IsAcyclic b → Ranked b
ranked b a = record {
  rank = λ n. passing (lower a.rank n) (numbers (length b));
  falls = λ n m u w is occurs bound.
      let h : a.rank m < a.rank n = a.falls n m u is occurs in
      passing_more (lower a.rank m) (lower a.rank n) (numbers (length b)) m (lower_weaker a.rank n m h)
      (Has-numbers (length b) m (made b m w bound)) (lower_fails a.rank m) (lower_passes a.rank n m h);
  below = λ n u is.
      let all : ℕ → Bool = λ m. true in
      let less : passing (lower a.rank n) (numbers (length b)) < passing all (numbers (length b)) =
      passing_more (lower a.rank n) all (numbers (length b)) n (λ y e. refl) (Has-numbers (length b) n (made b n u is)) (lower_fails a.rank n) refl in
      omega (arith, less, passing_upto all (length b));
}

-- the bound variables of a term have ranks below k
abbrev Below : (b : Bindings) → Ranked b → ℕ → Tree → Type 0
Below b r k t = (m : ℕ) (w : Tree) → Occurs m t → held b m ≡ Some w → r.rank m < k

below_after : (b : Bindings) (r : Ranked b) (k n m : ℕ) (w : Tree) (o : Option Tree) → held b n ≡ o → ((v : Tree) → held b n ≡ Some v → r.rank n < suc k) → Occurs m (unwrap_or o (var n)) → held b m ≡ Some w → r.rank m < k
unfolding Occurs
below_after b r k n m w None is below h bound = let same : held b n ≡ held b m = ap (held b) h in absurd (cc)
below_after b r k n m w (Some u) is below h bound = omega (arith, r.falls n m u w is h bound, below u is)

none_bound : (k : ℕ) (b : Bindings) (r : Ranked b) (t : Tree) → Below b r k t → (n : ℕ) → Occurs n (rounds k b t) → held b n ≡ None
unfolding rounds
none_bound zero b r t below n h = none_from (held b n) (λ u is. absurd (omega (arith, below n u h is)))
none_bound (suc k) b r t below n h = none_bound k b r (replaced_once b t) (λ m w occurs bound.
    let x : (j : ℕ) × Occurs j t × Occurs m (once b j) = occurs_in_instance (once b) t m occurs in
    below_after b r k x.0 m w (held b x.0) refl (λ v is. below x.0 v x.1 is) x.2 bound) n h

-- ---- the equations of a value

pub value_goes_by_variables : ValueGoesByVariables
unfolding value
value_goes_by_variables b t = rounds_go (length b) b t

pub unbound_is_its_own_value : UnboundIsItsOwnValue
unfolding value
unbound_is_its_own_value b n e = rounds_unbound (length b) b n e

pub value_has_none_bound : ValueHasNoneBound
unfolding value
value_has_none_bound b t n a h = let r : Ranked b = ranked b a in none_bound (length b) b r t (λ m w occurs bound. r.below m w bound) n h

rounds_bound : (k : ℕ) (b : Bindings) (r : Ranked b) (n : ℕ) (u : Tree) → held b n ≡ Some u → r.rank n < k → rounds k b (var n) ≡ rounds k b u
unfolding rounds instance
rounds_bound zero b r n u is h = absurd (omega arith)
rounds_bound (suc k) b r n u is h =
    ap (λ o. rounds k b (unwrap_or o (var n))) is ∙ (sym (once_stays b (rounds k b u) (none_bound k b r u (λ m w occurs bound. omega (arith, r.falls n m u w is occurs bound, h))))
    ∙ sym (rounds_once k b u))

pub bound_has_value_of_its_term : BoundHasValueOfItsTerm
unfolding value
bound_has_value_of_its_term b n u a is = let r : Ranked b = ranked b a in rounds_bound (length b) b r n u is (r.below n u is)

pub ground_is_its_own_value : GroundIsItsOwnValue
ground_is_its_own_value b t ground = value_goes_by_variables b t ∙ ground_stays (λ n. value b (var n)) t ground

-- ---- assignments

pub values_solve : ValuesSolve
values_solve b a n u is = bound_has_value_of_its_term b n u a is ∙ value_goes_by_variables b u

solved_place : (b : Bindings) (s : ℕ → Tree) (n : ℕ) (o : Option Tree) → held b n ≡ o → Solves s b → instance s (unwrap_or o (var n)) ≡ s n
unfolding instance
solved_place b s n None is solves = refl
solved_place b s n (Some u) is solves = sym (solves n u is)

rounds_solved : (k : ℕ) (b : Bindings) (s : ℕ → Tree) (t : Tree) → Solves s b → instance s (rounds k b t) ≡ instance s t
unfolding rounds
rounds_solved zero b s t solves = refl
rounds_solved (suc k) b s t solves =
    rounds_solved k b s (replaced_once b t) solves ∙ (substitution s (once b) t
    ∙ only_its_variables_count (after s (once b)) s t (λ n h. solved_place b s n (held b n) refl solves))

pub value_has_same_instances : ValueHasSameInstances
unfolding value
value_has_same_instances b s t solves = rounds_solved (length b) b s t solves

-- ---- these equations have one solution

pub record LikeValue (b : Bindings) (f : Tree → Tree) : Type 0 where
  pub goes : (t : Tree) → f t ≡ instance (λ n. f (var n)) t
  pub unbound : (n : ℕ) → held b n ≡ None → f (var n) ≡ var n
  pub bound : (n : ℕ) (u : Tree) → held b n ≡ Some u → f (var n) ≡ f u

same_variable : (b : Bindings) (a : IsAcyclic b) (f : Tree → Tree) → LikeValue b f → (n : ℕ) (o : Option Tree) → held b n ≡ o → ((u : Tree) → held b n ≡ Some u → f u ≡ value b u) → f (var n) ≡ value b (var n)
same_variable b a f l n None is deeper = l.unbound n is ∙ sym (unbound_is_its_own_value b n is)
same_variable b a f l n (Some u) is deeper = l.bound n u is ∙ (deeper u is ∙ sym (bound_has_value_of_its_term b n u a is))

same_upto : (k : ℕ) (b : Bindings) (a : IsAcyclic b) (r : Ranked b) (f : Tree → Tree) → LikeValue b f → (t : Tree) → Below b r k t → f t ≡ value b t
same_upto zero b a r f l t below =
    l.goes t ∙ (only_its_variables_count (λ n. f (var n)) (λ n. value b (var n)) t (λ n h. same_variable b a f l n (held b n) refl (λ u is. absurd (omega (arith, below n u h is))))
    ∙ sym (value_goes_by_variables b t))
same_upto (suc k) b a r f l t below =
    l.goes t ∙ (only_its_variables_count (λ n. f (var n)) (λ n. value b (var n)) t (λ n h. same_variable b a f l n (held b n) refl
    (λ u is. same_upto k b a r f l u (λ m w occurs bound. omega (arith, r.falls n m u w is occurs bound, below n u h is))))
    ∙ sym (value_goes_by_variables b t))

pub value_from_equations : (b : Bindings) (f : Tree → Tree) (t : Tree) → IsAcyclic b → LikeValue b f → f t ≡ value b t
value_from_equations b f t a l = let r : Ranked b = ranked b a in same_upto (length b) b a r f l t (λ m w occurs bound. r.below m w bound)
