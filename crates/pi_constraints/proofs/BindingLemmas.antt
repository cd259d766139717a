-- What a new binding and a new variable do to the values of terms.
use Rattle.std.proofs.Common.{◌≡◌, ◌⊎◌, ℕ, zero, suc, ◌==◌, ◌+◌, ◌<◌, ◌≤◌, Bool, true, false, cond, List, [], ◌∷◌, ◌++◌, Some, None, length, set, refl, ap, sym, ◌∙◌, subst, inl, inr, arith, eq-eqb}
use Rattle.std.proofs.lemmas.Bool.{cases_Bool, eqb-true}
use Rattle.std.proofs.lemmas.List.{get_or-set_same, get_or-set_other}
use Rattle.pi_terms.specs.Tree.{Tree, var}
use Rattle.pi_terms.specs.Places.{held}
use Rattle.pi_terms.specs.Variables.{occurrences, Occurs}
use Rattle.pi_terms.specs.Substitution.{instance}
use Rattle.pi_constraints.specs.Value.{Bindings, value, IsAcyclic, only_at, MayBind, BindingStaysAcyclic, BindingReplaces, NewVariableChangesNoValue, NewVariableStaysAcyclic}
use Rattle.pi_terms.proofs.VariableLemmas.{Has, Has-from_occurs, occurs_from_Has, only_its_variables_count, instance-var, substitution}
use Rattle.pi_constraints.proofs.ValueLemmas.{occurs_through, value_from_equations, value_goes_by_variables, unbound_is_its_own_value, bound_has_value_of_its_term}

-- ---- whether a variable occurs

listed : List ℕ → ℕ → Bool
listed [] n = false
listed (m ∷ ms) n = cond (m == n) true (listed ms n)

listed-from_Has : (ms : List ℕ) (n : ℕ) → Has ms n → listed ms n ≡ true
unfolding listed
listed-from_Has [] n h = absurd h
listed-from_Has (m ∷ ms) n (inl e) = rw (eq-eqb m n e) refl
listed-from_Has (m ∷ ms) n (inr h) = elim (cases_Bool (m == n)) [ inl here ↦ rw here refl | inr there ↦ rw there (listed-from_Has ms n h) ]

Has-from_listed : (ms : List ℕ) (n : ℕ) → listed ms n ≡ true → Has ms n
unfolding listed
Has-from_listed [] n e = cc
Has-from_listed (m ∷ ms) n e = elim (cases_Bool (m == n)) [
  | inl here ↦ inl (eqb-true m n here)
  | inr there ↦ let l : listed ms n ≡ true = rw there at e in inr (Has-from_listed ms n l)
]

does_occur : ℕ → Tree → Bool
does_occur n t = listed (occurrences t) n

occurs_is : (n : ℕ) (t : Tree) → Occurs n t → does_occur n t ≡ true
unfolding does_occur
occurs_is n t h = listed-from_Has (occurrences t) n (Has-from_occurs t n h)

occurs_not : (n : ℕ) (t : Tree) → (Occurs n t → ⊥) → does_occur n t ≡ false
unfolding does_occur
occurs_not n t h = elim (cases_Bool (does_occur n t)) [
  | inl hit ↦ absurd (h (occurs_from_Has t n (Has-from_listed (occurrences t) n hit)))
  | inr miss ↦ miss
]

occurs_or_not : (n : ℕ) (t : Tree) → Occurs n t ⊎ (Occurs n t → ⊥)
unfolding does_occur
occurs_or_not n t = elim (cases_Bool (does_occur n t)) [
  | inl hit ↦ inl (occurs_from_Has t n (Has-from_listed (occurrences t) n hit))
  | inr miss ↦ inr (λ h. cc (occurs_is n t h, miss))
]

-- ---- a new binding

abbrev bound_to : Bindings → ℕ → Tree → Bindings
bound_to b n u = set b n (Some u)

held_here : (b : Bindings) (n : ℕ) (u : Tree) → n < length b → held (bound_to b n u) n ≡ Some u
held_here b n u h = get_or-set_same b n (Some u) None h

held_elsewhere : (b : Bindings) (n : ℕ) (u : Tree) (m : ℕ) → (m == n) ≡ false → held (bound_to b n u) m ≡ held b m
held_elsewhere b n u m e = get_or-set_other b n m (Some u) None (λ same. cc (eq-eqb m n same))

-- a variable that occurs in the value of one of a term's variables occurs in the term's value
occurs_in_value : (b : Bindings) (t : Tree) (j n : ℕ) → Occurs j t → Occurs n (value b (var j)) → Occurs n (value b t)
occurs_in_value b t j n h k =
    let P : Tree → Type 0 = λ v. Occurs n v in
    subst P (sym (value_goes_by_variables b t)) (occurs_through (λ m. value b (var m)) t j n h k)

-- the sum of the ranks of a list of variables
total : (ℕ → ℕ) → List ℕ → ℕ
total r [] = 0
total r (n ∷ ns) = r n + total r ns

rank_upto_total : (r : ℕ → ℕ) (ns : List ℕ) (n : ℕ) → Has ns n → r n ≤ total r ns
unfolding total
rank_upto_total r [] n h = absurd h
rank_upto_total r (m ∷ ns) n (inl e) = let same : r m ≡ r n = ap r e in omega arith
rank_upto_total r (m ∷ ns) n (inr h) = omega (arith, rank_upto_total r ns n h)

-- the variables whose values hold n rise above all those of u
raise : Tree → (ℕ → ℕ) → ℕ
raise u r = suc (total r (occurrences u))

raised : (b : Bindings) → IsAcyclic b → ℕ → Tree → ℕ → ℕ
raised b a n u j = cond (does_occur n (value b (var j))) (a.rank j + raise u a.rank) (a.rank j)

raised_holds : (b : Bindings) (a : IsAcyclic b) (n : ℕ) (u : Tree) (j : ℕ) → Occurs n (value b (var j)) → raised b a n u j ≡ a.rank j + raise u a.rank
unfolding raised
raised_holds b a n u j h = rw (occurs_is n (value b (var j)) h) refl

raised_holds_not : (b : Bindings) (a : IsAcyclic b) (n : ℕ) (u : Tree) (j : ℕ) → (Occurs n (value b (var j)) → ⊥) → raised b a n u j ≡ a.rank j
unfolding raised
raised_holds_not b a n u j h = rw (occurs_not n (value b (var j)) h) refl

raised_least : (b : Bindings) (a : IsAcyclic b) (n : ℕ) (u : Tree) (j : ℕ) → a.rank j ≤ raised b a n u j
raised_least b a n u j = elim (occurs_or_not n (value b (var j))) [
  | inl h ↦ omega (arith, raised_holds b a n u j h)
  | inr h ↦ omega (arith, raised_holds_not b a n u j h)
]

-- below the variable that is bound now
falls_here : (b : Bindings) (n : ℕ) (u : Tree) (m : MayBind b n u) (j : ℕ) → Occurs j u → raised b m.acyclic n u j < raised b m.acyclic n u n
unfolding raise Occurs
falls_here b n u m j h =
    let out : Occurs n (value b (var j)) → ⊥ = λ k. m.apart (occurs_in_value b u j n h k) in
    let P : Tree → Type 0 = λ v. Occurs n v in
    let itself : Occurs n (value b (var n)) = subst P (sym (unbound_is_its_own_value b n m.unbound)) refl in
    omega (
      arith,
      raised_holds_not b m.acyclic n u j out,
      raised_holds b m.acyclic n u n itself,
      rank_upto_total m.acyclic.rank (occurrences u) j (Has-from_occurs u j h),
    )

-- below a variable that was bound before
falls_elsewhere : (b : Bindings) (n : ℕ) (u : Tree) (m : MayBind b n u) (i j : ℕ) (w : Tree) → held b i ≡ Some w → Occurs j w → raised b m.acyclic n u j < raised b m.acyclic n u i
falls_elsewhere b n u m i j w is h =
    let less : m.acyclic.rank j < m.acyclic.rank i = m.acyclic.falls i j w is h in
    elim (occurs_or_not n (value b (var j))) [
      | inl k ↦
          let P : Tree → Type 0 = λ v. Occurs n v in
          let above : Occurs n (value b (var i)) = subst P (sym (bound_has_value_of_its_term b i w m.acyclic is)) (occurs_in_value b w j n h k) in
          omega (arith, less, raised_holds b m.acyclic n u j k, raised_holds b m.acyclic n u i above)
      | inr k ↦ omega (arith, less, raised_holds_not b m.acyclic n u j k, raised_least b m.acyclic n u i)
    ]

pub binding_stays_acyclic : BindingStaysAcyclic
binding_stays_acyclic b n u m = record {
  rank = raised b m.acyclic n u;
  falls = λ i j w is h. elim (cases_Bool (i == n)) [
    | inl here ↦
        let e : i ≡ n = eqb-true i n here in
        let now : held (bound_to b n u) i ≡ held (bound_to b n u) n = ap (held (bound_to b n u)) e in
        let same : w ≡ u = cc (held_here b n u m.made) in
        let P : Tree → Type 0 = λ v. Occurs j v in
        let Q : ℕ → Type 0 = λ k. raised b m.acyclic n u j < raised b m.acyclic n u k in
        subst Q (sym e) (falls_here b n u m j (subst P same h))
    | inr there ↦ falls_elsewhere b n u m i j w (sym (held_elsewhere b n u i there) ∙ is) h
  ];
}

-- ---- the values under a new binding

one_here : (n : ℕ) (u : Tree) → only_at n u n ≡ u
one_here n u = rw (eq-eqb n n refl) refl

one_elsewhere : (n : ℕ) (u : Tree) (m : ℕ) → (m == n) ≡ false → only_at n u m ≡ var m
one_elsewhere n u m e = rw e refl

-- a term without the variable stays
one_stays : (n : ℕ) (u t : Tree) → (Occurs n t → ⊥) → instance (only_at n u) t ≡ t
one_stays n u t out = only_its_variables_count (only_at n u) var t (λ m h. elim (cases_Bool (m == n)) [
  | inl here ↦ let P : ℕ → Type 0 = λ k. Occurs k t in absurd (out (subst P (eqb-true m n here) h))
  | inr there ↦ one_elsewhere n u m there
]) ∙ instance-var t

then_one : Bindings → ℕ → Tree → Tree → Tree
then_one b n u t = instance (only_at n (value b u)) (value b t)

then_one_goes : (b : Bindings) (n : ℕ) (u t : Tree) → then_one b n u t ≡ instance (λ m. then_one b n u (var m)) t
unfolding then_one
then_one_goes b n u t = ap (instance (only_at n (value b u))) (value_goes_by_variables b t) ∙ substitution (only_at n (value b u)) (λ m. value b (var m)) t

-- at the variable itself
then_one_here : (b : Bindings) (n : ℕ) (u : Tree) → MayBind b n u → then_one b n u (var n) ≡ then_one b n u u
unfolding then_one instance
then_one_here b n u m =
    ap (instance (only_at n (value b u))) (unbound_is_its_own_value b n m.unbound) ∙ (one_here n (value b u) ∙ sym (one_stays n (value b u) (value b u) m.apart))

then_one_unbound : (b : Bindings) (n : ℕ) (u : Tree) → MayBind b n u → (i : ℕ) → held (bound_to b n u) i ≡ None → then_one b n u (var i) ≡ var i
unfolding then_one instance
then_one_unbound b n u m i none = elim (cases_Bool (i == n)) [
  | inl here ↦
      let now : held (bound_to b n u) i ≡ held (bound_to b n u) n = ap (held (bound_to b n u)) (eqb-true i n here) in
      absurd (cc (held_here b n u m.made))
  | inr there ↦
      ap (instance (only_at n (value b u))) (unbound_is_its_own_value b i (sym (held_elsewhere b n u i there) ∙ none)) ∙ one_elsewhere n (value b u) i there
]

then_one_from_value : (b : Bindings) (n : ℕ) (u t v : Tree) → value b t ≡ value b v → then_one b n u t ≡ then_one b n u v
unfolding then_one
then_one_from_value b n u t v e = ap (instance (only_at n (value b u))) e

then_one_bound : (b : Bindings) (n : ℕ) (u : Tree) → MayBind b n u → (i : ℕ) (w : Tree) → held (bound_to b n u) i ≡ Some w → then_one b n u (var i) ≡ then_one b n u w
then_one_bound b n u m i w is = elim (cases_Bool (i == n)) [
  | inl here ↦
      let e : i ≡ n = eqb-true i n here in
      let now : held (bound_to b n u) i ≡ held (bound_to b n u) n = ap (held (bound_to b n u)) e in
      let same : u ≡ w = cc (held_here b n u m.made) in
      ap (λ k. then_one b n u (var k)) e ∙ (then_one_here b n u m ∙ ap (then_one b n u) same)
  | inr there ↦ then_one_from_value b n u (var i) w (bound_has_value_of_its_term b i w m.acyclic (sym (held_elsewhere b n u i there) ∙ is))
]

pub binding_replaces : BindingReplaces
unfolding then_one
binding_replaces b n u t m = sym (value_from_equations (bound_to b n u) (then_one b n u) t (binding_stays_acyclic b n u m) (record {
  goes = then_one_goes b n u;
  unbound = then_one_unbound b n u m;
  bound = then_one_bound b n u m;
}))

-- ---- a new variable

held_more : (b : Bindings) (n : ℕ) → held (b ++ None ∷ []) n ≡ held b n
held_more [] zero = refl
held_more [] (suc n) = refl
held_more (o ∷ b) zero = refl
held_more (o ∷ b) (suc n) = held_more b n

pub new_variable_stays_acyclic : NewVariableStaysAcyclic
new_variable_stays_acyclic b a = record { rank = a.rank; falls = λ n m u is h. a.falls n m u (sym (held_more b n) ∙ is) h }

pub new_variable_changes_no_value : NewVariableChangesNoValue
new_variable_changes_no_value b t a = sym (value_from_equations (b ++ None ∷ []) (value b) t (new_variable_stays_acyclic b a) (record {
  goes = value_goes_by_variables b;
  unbound = λ n none. unbound_is_its_own_value b n (sym (held_more b n) ∙ none);
  bound = λ n u is. bound_has_value_of_its_term b n u a (sym (held_more b n) ∙ is);
}))
