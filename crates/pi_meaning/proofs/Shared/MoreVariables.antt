-- What a state reads of variables that are labelled stays where variables are made and more of them are bound, all to integers: so do goals that post constraints, and settling. That holds in every state,
-- also in one whose bindings go in a circle.
use Rattle.std.specs.Prelude.{◌≡◌, ◌⊎◌, ℕ, zero, suc, ◌≤◌, ℤ, cond, List, [], ◌∷◌, length, Option, Some, None, option_map, option_and_then, unwrap_or, Result, Ok, Err, refl, ⊤}
use Rattle.std.specs.Option.{option_or}
use Rattle.std.proofs.Common.{arith, sym, ◌∙◌, ap, ap₂, subst, inl, inr}
use Rattle.pi_terms.specs.Tree.{Tree, var, int, atom, comp, Trees, no_trees, tree, cells, cells_all}
use Rattle.pi_terms.specs.Places.{held}
use Rattle.pi_terms.specs.Substitution.{instance, instances}
use Rattle.pi_constraints.specs.declared.constraint.Constraint.{Constraint}
use Rattle.pi_constraints.specs.declared.constraint.Item.{Item}
use Rattle.pi_constraints.specs.Value.{Bindings, replaced_once, rounds, value}
use Rattle.pi_constraints.specs.State.{State, binding, bindings, followed_for, followed, with_new, with_constraint}
use Rattle.pi_constraints.specs.Evaluation.{with_new_variables}
use Rattle.pi_constraints.proofs.StateLemmas.{held_is, as_many}
use Rattle.pi_constraints.proofs.UnifyCells.{some_cells}
use Rattle.pi_effects.specs.Items.{is_nil, cell_parts, array_parts, in_front_of, items_of_root, items_for, list_items, collection_items}
use Rattle.pi_prop_spec.specs.Steps.{Refusal, Known}
use Rattle.pi_prop_spec.specs.Postings.{Posting}
use Rattle.pi_prop_spec.specs.PostingSums.{Sum as PostedSum}
use Rattle.pi_settling.specs.Asked.{Flat, flat, no_item, joined, flat_all, flat_parts, flat_variable, flat_for, flat_items}
use Rattle.pi_settling.specs.Posted.{with_constraints, places_of_all, posted_in}
use Rattle.pi_settling.specs.Reading.{Sum, reads}
use Rattle.pi_settling.specs.Read.{operand_as, operand_in}
use Rattle.pi_meaning.proofs.Machine.LaterStates.{new-variable, new-next}
use Rattle.pi_meaning.proofs.Shared.BoundIntegers.{IsItemNow, BindsIntegers, binds-kept, binds-items, confining-binds}
use Rattle.pi_meaning.proofs.Shared.BoundValues.{KeepsAll, PutsItems, IsStill, followed-integer, followed-unbound, for-still, rounds-cells}

-- ---- bindings of more variables

-- these bindings and maybe more, of which those of variables that were unbound are integers
pub record Grows (b c : Bindings) : Type 0 where
  pub kept : KeepsAll b c
  pub items : PutsItems b c
  pub more : length b ≤ length c

pub grows-then : (b c d : Bindings) → Grows b c → Grows c d → Grows b d
grows-then b c d f g = record { kept = λ n t is. g.kept n t (f.kept n t is); items = λ n none. later n (f.items n none); more = omega (arith, f.more, g.more) }
  where
    later : (n : ℕ) → IsItemNow (held c n) → IsItemNow (held d n)
    later n (inl none) = g.items n none
    later n (inr (i, is)) = inr (i, g.kept n (int i) is)

same-grow : (b c : Bindings) → ((n : ℕ) → held c n ≡ held b n) → length b ≤ length c → Grows b c
same-grow b c same more = record { kept = λ n t is. same n ∙ is; items = λ n none. inl (same n ∙ none); more = more }

pub binds-grow : (s r : State) → BindsIntegers s r → Grows (bindings s) (bindings r)
binds-grow s r h = record { kept = binds-kept s r h; items = binds-items s r h; more = omega (arith, as_many s, as_many r, h.count) }

new-grow : (s : State) → Grows (bindings s) (bindings (with_new s))
new-grow s =
    same-grow (bindings s) (bindings (with_new s)) (λ n. held_is (with_new s) n ∙ (ap binding (new-variable s n) ∙ sym (held_is s n)))
    (omega (arith, as_many s, as_many (with_new s), new-next s))

fresh-grow : (k : ℕ) (s : State) → Grows (bindings s) (bindings (with_new_variables k s))
unfolding with_new_variables
fresh-grow zero s = same-grow (bindings s) (bindings s) (λ n. refl) (omega arith)
fresh-grow (suc k) s = grows-then (bindings s) (bindings (with_new s)) (bindings (with_new_variables k (with_new s))) (new-grow s) (fresh-grow k (with_new s))

constraints-bind : (cs : List Constraint) (s : State) → bindings (with_constraints cs s) ≡ bindings s
unfolding with_constraints
constraints-bind [] s = refl
constraints-bind (c ∷ cs) s = constraints-bind cs (with_constraint s c)

-- what a goal posts
pub posted-grow : (s : State) (p : Posting) → Grows (bindings s) (bindings (posted_in s p))
posted-grow s p =
    let made : State = with_new_variables p.fresh s in
    let posted : State = with_constraints p.list made in
    grows-then (bindings s) (bindings posted) (bindings (posted_in s p)) (subst (Grows (bindings s)) (sym (constraints-bind p.list made)) (fresh-grow p.fresh s))
    (binds-grow posted (posted_in s p) (confining-binds posted (places_of_all p.list)))

operand-by : (s r : State) (sum : Sum) (k : Result (Known PostedSum) Refusal) (p : Result Posting Refusal) → operand_as s k p ≡ reads r sum → Grows (bindings s) (bindings r)
operand-by s r sum (Err x) p is = absurd (cc)
operand-by s r sum (Ok k) (Err x) is = absurd (cc)
operand-by s r sum (Ok k) (Ok p) is = let same : posted_in s p ≡ r = cc in subst (λ (q : State). Grows (bindings s) (bindings q)) same (posted-grow s p)

-- what the reading of an operand posts
pub operand-grow : (t : Tree) (s r : State) (sum : Sum) → operand_in t s ≡ reads r sum → Grows (bindings s) (bindings r)
operand-grow t s r sum is = operand-by s r sum _ _ is

-- ---- so many steps of following suffice

-- neither a variable nor an integer
abbrev IsFixed : Tree → Type 0
IsFixed (var n) = ⊥
IsFixed (int i) = ⊥
IsFixed (atom name) = ⊤
IsFixed (comp name ts) = ⊤

-- no variable
abbrev pub IsOther : Tree → Type 0
IsOther (var n) = ⊥
IsOther (int i) = ⊤
IsOther (atom name) = ⊤
IsOther (comp name ts) = ⊤

variable-fixed : (n : ℕ) (u : Tree) → IsFixed u → var n ≡ u → ⊥
variable-fixed n u fixed is = subst IsFixed (sym is) fixed

integer-fixed : (i : ℤ) (u : Tree) → IsFixed u → int i ≡ u → ⊥
integer-fixed i u fixed is = subst IsFixed (sym is) fixed

-- more bindings lead there too
for-kept : (k : ℕ) (b c : Bindings) (t u : Tree) → KeepsAll b c → IsFixed u → followed_for k b t ≡ u → followed_for k c t ≡ u
unfolding followed_for
for-kept zero b c t u kept fixed is = is
for-kept (suc k) b c (var n) u kept fixed is = by (λ t. for-kept k b c t u kept fixed) (held b n) refl is
  where
    by : ((t : Tree) → followed_for k b t ≡ u → followed_for k c t ≡ u) → (o : Option Tree) → held b n ≡ o → followed_for k b (unwrap_or o (var n)) ≡ u →
        followed_for k c (unwrap_or (held c n) (var n)) ≡ u
    by again None none at = absurd (variable-fixed n u fixed (sym (followed-unbound k b n none) ∙ at))
    by again (Some t) some at = ap (λ (o : Option Tree). followed_for k c (unwrap_or o (var n))) (kept n t some) ∙ again t at
for-kept (suc k) b c (int i) u kept fixed is = is
for-kept (suc k) b c (atom name) u kept fixed is = is
for-kept (suc k) b c (comp name ts) u kept fixed is = is

-- where the others are integers, the first bindings lead there
for-back : (k : ℕ) (b c : Bindings) (t u : Tree) → KeepsAll b c → PutsItems b c → IsFixed u → followed_for k c t ≡ u → followed_for k b t ≡ u
unfolding followed_for
for-back zero b c t u kept items fixed is = is
for-back (suc k) b c (var n) u kept items fixed is = by (λ t. for-back k b c t u kept items fixed) (held b n) refl
  where
    unbound : (o : Option Tree) → held c n ≡ o → IsItemNow o → held b n ≡ None → followed_for k b (var n) ≡ u
    unbound o at (inl none) free =
        absurd (variable-fixed n u fixed (sym (followed-unbound k c n (at ∙ none)) ∙ (sym (ap (λ (p : Option Tree). followed_for k c (unwrap_or p (var n))) (at ∙ none)) ∙ is)))
    unbound o at (inr (i, some)) free =
        absurd (integer-fixed i u fixed (sym (followed-integer k c i) ∙ (sym (ap (λ (p : Option Tree). followed_for k c (unwrap_or p (var n))) (at ∙ some)) ∙ is)))

    by : ((t : Tree) → followed_for k c t ≡ u → followed_for k b t ≡ u) → (o : Option Tree) → held b n ≡ o → followed_for k b (unwrap_or (held b n) (var n)) ≡ u
    by again None none = ap (λ (p : Option Tree). followed_for k b (unwrap_or p (var n))) none ∙ unbound (held c n) refl (items n none) none
    by again (Some t) some =
        ap (λ (p : Option Tree). followed_for k b (unwrap_or p (var n))) some
        ∙ again t (sym (ap (λ (p : Option Tree). followed_for k c (unwrap_or p (var n))) (kept n t some)) ∙ is)
for-back (suc k) b c (int i) u kept items fixed is = is
for-back (suc k) b c (atom name) u kept items fixed is = is
for-back (suc k) b c (comp name ts) u kept items fixed is = is

-- how many variables are bound
unfoldable count_bound : Bindings → ℕ
count_bound [] = 0
count_bound (None ∷ b) = count_bound b
count_bound (Some t ∷ b) = suc (count_bound b)

-- all but this one
unfoldable without : Bindings → ℕ → Bindings
without [] n = []
without (o ∷ b) zero = None ∷ b
without (o ∷ b) (suc n) = o ∷ without b n

bound-most : (b : Bindings) → count_bound b ≤ length b
unfolding count_bound
bound-most [] = omega arith
bound-most (None ∷ b) = let h : _ = bound-most b in omega arith
bound-most (Some t ∷ b) = let h : _ = bound-most b in omega arith

one-less : (b : Bindings) (n : ℕ) (t : Tree) → held b n ≡ Some t → suc (count_bound (without b n)) ≡ count_bound b
unfolding count_bound without
one-less [] zero t is = absurd (cc)
one-less [] (suc n) t is = absurd (cc)
one-less (None ∷ b) zero t is = absurd (cc)
one-less (Some u ∷ b) zero t is = refl
one-less (None ∷ b) (suc n) t is = one-less b n t is
one-less (Some u ∷ b) (suc n) t is = ap suc (one-less b n t is)

here-or-same : (b : Bindings) (n m : ℕ) → (m ≡ n) ⊎ (held (without b n) m ≡ held b m)
unfolding without
here-or-same [] n m = inr refl
here-or-same (o ∷ b) zero zero = inl refl
here-or-same (o ∷ b) zero (suc m) = inr refl
here-or-same (o ∷ b) (suc n) zero = inr refl
here-or-same (o ∷ b) (suc n) (suc m) = elim (here-or-same b n m) [
  | inl is ↦ inl (ap suc is)
  | inr same ↦ inr same
]

less-kept : (b : Bindings) (n : ℕ) → KeepsAll (without b n) b
unfolding without
less-kept [] n m t is = is
less-kept (o ∷ b) zero zero t is = absurd (cc)
less-kept (o ∷ b) zero (suc m) t is = is
less-kept (o ∷ b) (suc n) zero t is = is
less-kept (o ∷ b) (suc n) (suc m) t is = less-kept b n m t is

-- it is come by without a variable, or from it in fewer steps
through : (i : ℕ) (b : Bindings) (n : ℕ) (t u : Tree) → followed_for i b t ≡ u → (followed_for i (without b n) t ≡ u) ⊎ ((j : ℕ) × (j ≤ i) × (followed_for j b (var n) ≡ u))
unfolding followed_for
through zero b n t u is = inl is
through (suc i) b n (var m) u is = by (through i b n (unwrap_or (held b m) (var m)) u is) (here-or-same b n m)
  where
    on : (followed_for i (without b n) (unwrap_or (held b m) (var m)) ≡ u) ⊎ ((j : ℕ) × (j ≤ i) × (followed_for j b (var n) ≡ u)) → held (without b n) m ≡ held b m →
        (followed_for i (without b n) (unwrap_or (held (without b n) m) (var m)) ≡ u) ⊎ ((j : ℕ) × (j ≤ suc i) × (followed_for j b (var n) ≡ u))
    on (inl at) same = inl (ap (λ (o : Option Tree). followed_for i (without b n) (unwrap_or o (var m))) same ∙ at)
    on (inr (j, le, at)) same = inr (j, omega (arith, le), at)

    by : (followed_for i (without b n) (unwrap_or (held b m) (var m)) ≡ u) ⊎ ((j : ℕ) × (j ≤ i) × (followed_for j b (var n) ≡ u)) → (m ≡ n) ⊎ (held (without b n) m ≡ held b m) →
        (followed_for i (without b n) (unwrap_or (held (without b n) m) (var m)) ≡ u) ⊎ ((j : ℕ) × (j ≤ suc i) × (followed_for j b (var n) ≡ u))
    by more (inl here) = inr (suc i, omega arith, subst (λ (k : ℕ). followed_for (suc i) b (var k) ≡ u) here is)
    by more (inr same) = on more same
through (suc i) b n (int x) u is = inl is
through (suc i) b n (atom name) u is = inl is
through (suc i) b n (comp name ts) u is = inl is

pub fixed-stays : (k : ℕ) (b : Bindings) (t : Tree) → IsOther t → followed_for k b t ≡ t
unfolding followed_for
fixed-stays zero b t other = refl
fixed-stays (suc k) b (var n) other = absurd other
fixed-stays (suc k) b (int i) other = refl
fixed-stays (suc k) b (atom name) other = refl
fixed-stays (suc k) b (comp name ts) other = refl

-- what is come by at all is come by in as many steps as variables are bound
other-shorter : (i h : ℕ) (b : Bindings) (t u : Tree) → IsOther t → followed_for i b t ≡ u → followed_for h b t ≡ u
other-shorter i h b t u other is = fixed-stays h b t other ∙ (sym (fixed-stays i b t other) ∙ is)

abbrev Shortens : ℕ → Type 0
Shortens k = (i : ℕ) → i ≤ k → (b : Bindings) (t u : Tree) → IsFixed u → followed_for i b t ≡ u → (h : ℕ) → count_bound b ≤ h → followed_for h b t ≡ u

-- from a variable that is bound to this term
bound-shorter : (k j : ℕ) → Shortens k → j ≤ k → (b : Bindings) (n : ℕ) (t u : Tree) → IsFixed u → held b n ≡ Some t → followed_for j b t ≡ u → (h : ℕ) → count_bound b ≤ h → followed_for h b (var n) ≡ u
unfolding followed_for
bound-shorter k j shortens le b n t u fixed some is zero many = absurd (omega (arith, one-less b n t some, many))
bound-shorter k j shortens le b n t u fixed some is (suc h) many = by (through j b n t u is)
  where
    by : (followed_for j (without b n) t ≡ u) ⊎ ((i : ℕ) × (i ≤ j) × (followed_for i b (var n) ≡ u)) → followed_for (suc h) b (var n) ≡ u
    by (inl past) =
        ap (λ (o : Option Tree). followed_for h b (unwrap_or o (var n))) some
        ∙ for-kept h (without b n) b t u (less-kept b n) fixed (shortens j le (without b n) t u fixed past h (omega (arith, one-less b n t some, many)))
    by (inr (i, less, at)) = shortens i (omega (arith, le, less)) b (var n) u fixed at (suc h) many

variable-shorter : (k j : ℕ) → Shortens k → j ≤ k → (b : Bindings) (n : ℕ) (u : Tree) → IsFixed u → (o : Option Tree) → held b n ≡ o → followed_for j b (unwrap_or o (var n)) ≡ u → (h : ℕ) → count_bound b ≤ h →
    followed_for h b (var n) ≡ u
variable-shorter k j shortens le b n u fixed None none is h many = absurd (variable-fixed n u fixed (sym (followed-unbound j b n none) ∙ is))
variable-shorter k j shortens le b n u fixed (Some t) some is h many = bound-shorter k j shortens le b n t u fixed some is h many

shorter : (k : ℕ) → Shortens k
unfolding followed_for
shorter k i le b (int x) u fixed is h many = other-shorter i h b (int x) u tt is
shorter k i le b (atom name) u fixed is h many = other-shorter i h b (atom name) u tt is
shorter k i le b (comp name ts) u fixed is h many = other-shorter i h b (comp name ts) u tt is
shorter k zero le b (var n) u fixed is h many = absurd (variable-fixed n u fixed is)
shorter zero (suc i) le b (var n) u fixed is h many = absurd (omega (arith, le))
shorter (suc k) (suc i) le b (var n) u fixed is h many = variable-shorter k i (shorter k) (omega (arith, le)) b n u fixed (held b n) refl is h many

-- ---- what a term is followed to

-- a variable or an integer
abbrev IsOpen : Tree → Type 0
IsOpen (var n) = ⊤
IsOpen (int i) = ⊤
IsOpen (atom name) = ⊥
IsOpen (comp name ts) = ⊥

-- the same, or a variable or an integer in place of a variable
abbrev IsLater : Tree → Tree → Type 0
IsLater (var n) u = IsOpen u
IsLater (int i) u = u ≡ int i
IsLater (atom name) u = u ≡ atom name
IsLater (comp name ts) u = u ≡ comp name ts

-- more steps lead there too
for-more : (j k : ℕ) → j ≤ k → (c : Bindings) (t u : Tree) → IsOther u → followed_for j c t ≡ u → followed_for k c t ≡ u
unfolding followed_for
for-more zero k le c t u other is = ap (followed_for k c) is ∙ fixed-stays k c u other
for-more (suc j) zero le c t u other is = absurd (omega (arith, le))
for-more (suc j) (suc k) le c (var n) u other is = for-more j k (omega (arith, le)) c (unwrap_or (held c n) (var n)) u other is
for-more (suc j) (suc k) le c (int i) u other is = is
for-more (suc j) (suc k) le c (atom name) u other is = is
for-more (suc j) (suc k) le c (comp name ts) u other is = is

-- where a variable is come by, the other bindings lead to no term that is fixed
for-open : (b c : Bindings) → Grows b c → (t : Tree) (m : ℕ) → followed_for (length b) b t ≡ var m → (w : Tree) → followed_for (length c) c t ≡ w → IsOpen w
for-open b c g t m is (var n) at = tt
for-open b c g t m is (int i) at = tt
for-open b c g t m is (atom name) at =
    variable-fixed m (atom name) tt
    (sym is ∙ shorter (length c) (length c) (omega arith) b t (atom name) tt (for-back (length c) b c t (atom name) g.kept g.items tt at) (length b) (bound-most b))
for-open b c g t m is (comp name ts) at =
    variable-fixed m (comp name ts) tt
    (sym is ∙ shorter (length c) (length c) (omega arith) b t (comp name ts) tt (for-back (length c) b c t (comp name ts) g.kept g.items tt at) (length b) (bound-most b))

followed-later : (b c : Bindings) → Grows b c → (t : Tree) → IsLater (followed b t) (followed c t)
unfolding followed
followed-later b c g t = by (followed_for (length b) b t) refl (for-still (length b) b c t g.kept g.items)
  where
    by : (v : Tree) → followed_for (length b) b t ≡ v → IsStill v (followed_for (length b) c t) → IsLater v (followed_for (length c) c t)
    by (var m) is still = for-open b c g t m is (followed_for (length c) c t) refl
    by (int i) is still = for-more (length b) (length c) g.more c t (int i) tt still
    by (atom name) is still = for-more (length b) (length c) g.more c t (atom name) tt still
    by (comp name ts) is still = for-more (length b) (length c) g.more c t (comp name ts) tt still

-- ---- cells of a value

mutual
  unfolding instance cells

  instance-more : (f : ℕ → Tree) (t : Tree) → cells t ≤ cells (instance f t)
  instance-more f (var n) = some_cells (f n)
  instance-more f (int i) = omega arith
  instance-more f (atom name) = omega arith
  instance-more f (comp name ts) = let h : cells_all ts ≤ cells_all (instances f ts) = instances-more f ts in omega (arith, h)

  instances-more : (f : ℕ → Tree) (ts : Trees) → cells_all ts ≤ cells_all (instances f ts)
  instances-more f no_trees = omega arith
  instances-more f (tree t ts) = omega (arith, instance-more f t, instances-more f ts)

rounds-grow : (k : ℕ) (c : Bindings) (t : Tree) → cells t ≤ cells (rounds k c t)
unfolding rounds
rounds-grow zero c t = omega arith
rounds-grow (suc k) c t = omega (arith, instance-more (λ n. unwrap_or (held c n) (var n)) t, rounds-grow k c (replaced_once c t))

rounds-more : (j k : ℕ) → j ≤ k → (c : Bindings) (t : Tree) → cells (rounds j c t) ≤ cells (rounds k c t)
unfolding rounds
rounds-more zero k le c t = rounds-grow k c t
rounds-more (suc j) zero le c t = absurd (omega (arith, le))
rounds-more (suc j) (suc k) le c t = rounds-more j k (omega (arith, le)) c (replaced_once c t)

value-more : (b c : Bindings) → Grows b c → (t : Tree) → cells (value b t) ≤ cells (value c t)
unfolding value
value-more b c g t =
    subst (λ (k : ℕ). k ≤ cells (rounds (length c) c t)) (rounds-cells (length b) b c t g.kept g.items) (rounds-more (length b) (length c) g.more c t)

-- ---- items of lists and arrays

-- what is read of a term that is no variable
told-later : {A : Type 0} (f : Tree → Option A) → ((n : ℕ) → f (var n) ≡ None) → (v w : Tree) (x : A) → IsLater v w → f v ≡ Some x → f w ≡ Some x
told-later f none (var n) w x later is = absurd (let no : None ≡ Some x = sym (none n) ∙ is in cc)
told-later f none (int i) w x later is = ap f later ∙ is
told-later f none (atom name) w x later is = ap f later ∙ is
told-later f none (comp name ts) w x later is = ap f later ∙ is

-- one gives what the other does, where that gives something
abbrev GivesMore : (Tree → Option (List Tree)) → (Tree → Option (List Tree)) → Type 0
GivesMore f g = (t : Tree) (ts : List Tree) → f t ≡ Some ts → g t ≡ Some ts

front-more : (f g : Tree → Option (List Tree)) → GivesMore f g → (p : Tree × Tree) (ts : List Tree) (o : Option (List Tree)) → f p.1 ≡ o → option_map (λ us. p.0 ∷ us) o ≡ Some ts → in_front_of g p ≡ Some ts
front-more f g h p ts None at is = absurd (cc)
front-more f g h p ts (Some us) at is = ap (option_map (λ xs. p.0 ∷ xs)) (h p.1 us at) ∙ is

root-more : (f g : Tree → Option (List Tree)) → GivesMore f g → GivesMore (items_of_root f) (items_of_root g)
root-more f g h t ts is = by (cond (is_nil t) (Some []) None) (cell_parts t) is
  where
    by : (o : Option (List Tree)) (p : Option (Tree × Tree)) → option_or o (option_and_then (in_front_of f) p) ≡ Some ts → option_or o (option_and_then (in_front_of g) p) ≡ Some ts
    by (Some us) p at = at
    by None None at = at
    by None (Some p) at = front-more f g h p ts (f p.1) refl at

for-items-more : (b c : Bindings) → Grows b c → (j k : ℕ) → j ≤ k → GivesMore (items_for j b) (items_for k c)
unfolding items_for
for-items-more b c g zero k le t ts is = absurd (cc)
for-items-more b c g (suc j) zero le t ts is = absurd (omega (arith, le))
for-items-more b c g (suc j) (suc k) le t ts is =
    told-later (items_of_root (items_for k c)) (λ n. refl) (followed b t) (followed c t) ts (followed-later b c g t)
    (root-more (items_for j b) (items_for k c) (for-items-more b c g j k (omega (arith, le))) (followed b t) ts is)

list-more : (b c : Bindings) → Grows b c → GivesMore (list_items b) (list_items c)
unfolding list_items
list-more b c g t ts is = for-items-more b c g (cells (value b t)) (cells (value c t)) (value-more b c g t) t ts is

no-array : (v w : Tree) → IsLater v w → array_parts v ≡ None → array_parts w ≡ None
no-array (var n) (var m) later is = refl
no-array (var n) (int i) later is = refl
no-array (var n) (atom name) later is = refl
no-array (var n) (comp name ts) later is = absurd later
no-array (int i) w later is = ap array_parts later ∙ is
no-array (atom name) w later is = ap array_parts later ∙ is
no-array (comp name ts) w later is = ap array_parts later ∙ is

collection-more : (b c : Bindings) → Grows b c → GivesMore (collection_items b) (collection_items c)
collection-more b c g t ts is = by (array_parts (followed b t)) refl is
  where
    by : (o : Option (List Tree)) → array_parts (followed b t) ≡ o → option_or o (list_items b t) ≡ Some ts → collection_items c t ≡ Some ts
    by None none at =
        ap (λ (o : Option (List Tree)). option_or o (list_items c t)) (no-array (followed b t) (followed c t) (followed-later b c g t) none) ∙ list-more b c g t ts at
    by (Some us) some at =
        ap (λ (o : Option (List Tree)). option_or o (list_items c t)) (told-later array_parts (λ n. refl) (followed b t) (followed c t) us (followed-later b c g t) some) ∙ at

-- ---- variables that are labelled

abbrev FlatMore : (Tree → Flat) → (Tree → Flat) → Type 0
FlatMore f g = (t : Tree) (xs : List Item) → f t ≡ flat xs → g t ≡ flat xs

joined-more : (x y v w : Flat) (xs : List Item) → ((us : List Item) → x ≡ flat us → v ≡ flat us) → ((us : List Item) → y ≡ flat us → w ≡ flat us) → joined x y ≡ flat xs → joined v w ≡ flat xs
joined-more (flat us) (flat ws) v w xs here rest is = ap₂ joined (here us refl) (rest ws refl) ∙ is
joined-more (flat us) (no_item t) v w xs here rest is = absurd (cc)
joined-more (no_item t) y v w xs here rest is = absurd (cc)

all-more : (f g : Tree → Flat) → FlatMore f g → (ts : List Tree) (xs : List Item) → flat_all f ts ≡ flat xs → flat_all g ts ≡ flat xs
unfolding flat_all
all-more f g h [] xs is = is
all-more f g h (t ∷ ts) xs is = joined-more (f t) (flat_all f ts) (g t) (flat_all g ts) xs (h t) (all-more f g h ts) is

parts-more : (b c : Bindings) → Grows b c → (f g : Tree → Flat) → FlatMore f g → (t : Tree) (xs : List Item) → flat_parts f t (collection_items b t) ≡ flat xs → flat_parts g t (collection_items c t) ≡ flat xs
parts-more b c grows f g h t xs is = by (collection_items b t) refl is
  where
    by : (o : Option (List Tree)) → collection_items b t ≡ o → flat_parts f t o ≡ flat xs → flat_parts g t (collection_items c t) ≡ flat xs
    by None none at = absurd (cc)
    by (Some ts) some at = ap (flat_parts g t) (collection-more b c grows t ts some) ∙ all-more f g h ts xs at

variable-open : (g : Tree → Flat) (c : Bindings) (n : ℕ) (w : Tree) (xs : List Item) → IsOpen w → flat (Item.Var n ∷ []) ≡ flat xs → flat_variable g c n w ≡ flat xs
variable-open g c n (var m) xs h is = is
variable-open g c n (int i) xs h is = is
variable-open g c n (atom name) xs h is = absurd h
variable-open g c n (comp name ts) xs h is = absurd h

variable-more : (b c : Bindings) → Grows b c → (f g : Tree → Flat) → FlatMore f g → (n : ℕ) (v w : Tree) (xs : List Item) → IsLater v w → flat_variable f b n v ≡ flat xs → flat_variable g c n w ≡ flat xs
variable-more b c grows f g h n (var m) w xs later is = variable-open g c n w xs later is
variable-more b c grows f g h n (int i) w xs later is = ap (flat_variable g c n) later ∙ is
variable-more b c grows f g h n (atom name) w xs later is = ap (flat_variable g c n) later ∙ parts-more b c grows f g h (atom name) xs is
variable-more b c grows f g h n (comp name ts) w xs later is = ap (flat_variable g c n) later ∙ parts-more b c grows f g h (comp name ts) xs is

for-flat-more : (b c : Bindings) → Grows b c → (j k : ℕ) → j ≤ k → FlatMore (flat_for j b) (flat_for k c)
unfolding flat_for
for-flat-more b c g zero k le t xs is = absurd (cc)
for-flat-more b c g (suc j) zero le t xs is = absurd (omega (arith, le))
for-flat-more b c g (suc j) (suc k) le (var n) xs is =
    variable-more b c g (flat_for j b) (flat_for k c) (for-flat-more b c g j k (omega (arith, le))) n (followed b (var n)) (followed c (var n)) xs (followed-later b c g (var n)) is
for-flat-more b c g (suc j) (suc k) le (int i) xs is = is
for-flat-more b c g (suc j) (suc k) le (atom name) xs is = parts-more b c g (flat_for j b) (flat_for k c) (for-flat-more b c g j k (omega (arith, le))) (atom name) xs is
for-flat-more b c g (suc j) (suc k) le (comp name ts) xs is = parts-more b c g (flat_for j b) (flat_for k c) (for-flat-more b c g j k (omega (arith, le))) (comp name ts) xs is

-- the variables that are labelled are the same
pub flat-more : (b c : Bindings) → Grows b c → (t : Tree) (xs : List Item) → flat_items b t ≡ flat xs → flat_items c t ≡ flat xs
flat-more b c g t xs is = for-flat-more b c g (cells (value b t)) (cells (value c t)) (value-more b c g t) t xs is
