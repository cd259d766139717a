-- Which constraints a variable is at, told by their places and by what a store tells of them.
use Rattle.std.specs.Prelude.{◌≡◌, ◌⊎◌, ℕ, zero, suc, ℤ, List, [], ◌∷◌, ◌++◌, length, slice_get, Option, Some, None, Contains, unwrap_or, refl}
use Rattle.std.proofs.Common.{arith, sym, ◌∙◌, ap, subst, inl, inr}
use Rattle.std.proofs.lemmas.Option.{slice_get-get_or, slice_get_within, get_or_from_slice_get}
use Rattle.std.proofs.lemmas.List.Elements.{Contains-append_left, Contains-append_right, Contains-append_cases}
use Rattle.pi_terms.specs.Tree.{Tree, var, int, atom, comp}
use Rattle.pi_terms.specs.Places.{held}
use Rattle.pi_constraints.specs.declared.constraint.Constraint.{Constraint}
use Rattle.pi_constraints.specs.declared.constraint.Item.{Item}
use Rattle.pi_constraints.specs.Constraint.{HoldsVariable, HoldVariable, SumHasVariable, SpeaksOf}
use Rattle.pi_prop_spec.specs.Places.{places_of, sum_places}
use Rattle.pi_constraints.specs.Value.{Bindings, IsAcyclic, value}
use Rattle.pi_constraints.specs.State.{State, Variable, binding, bindings, next, followed_for, followed, LeadsTo, is_it, through}
use Rattle.pi_constraints.specs.Store.{IsPostedOn}
use Rattle.pi_constraints.proofs.StateLemmas.{variable, held_is}
use Rattle.pi_constraints.proofs.ValueLemmas.{unbound_is_its_own_value, bound_has_value_of_its_term}
use Rattle.pi_settling.specs.Roots.{item_of, root_item}
use Rattle.pi_settling.proofs.RootLemmas.{root-by_value}
use Rattle.pi_settling.proofs.TwiceLemmas.{past_free, less_or_not}
use Rattle.pi_settling.specs.Narrowed.{NarrowsTo, left_free, left_bound, some_left, one_left, IsNarrowed}
use Rattle.pi_settling.specs.Run.{HasVariable}
use Rattle.pi_settling.proofs.NarrowLemmas.{narrow-keeps}
use Rattle.pi_settling.proofs.SizeLemmas.{in-front, behind, front-or-behind, none-there}

-- ---- a constraint speaks of a variable just where it is at a place

holds-is : (x : Item) (n : ℕ) → HoldsVariable x n → x ≡ Item.Var n
holds-is (Item.Var m) n h = ap Item.Var h
holds-is (Item.Int i) n h = absurd h

is-holds : (x : Item) (n : ℕ) → x ≡ Item.Var n → HoldsVariable x n
is-holds (Item.Var m) n e = cc
is-holds (Item.Int i) n e = absurd (cc)

here : (x : Item) (xs : List Item) (n : ℕ) → HoldsVariable x n → Contains (x ∷ xs) (Item.Var n)
here x xs n h = subst (Contains (x ∷ xs)) (holds-is x n h) (in-front x xs)

items-place : (xs : List Item) (n : ℕ) → HoldVariable xs n → Contains xs (Item.Var n)
unfolding HoldVariable
items-place [] n h = absurd h
items-place (x ∷ xs) n (inl h) = here x xs n h
items-place (x ∷ xs) n (inr h) = behind x (Item.Var n) xs (items-place xs n h)

place-items : (xs : List Item) (n : ℕ) → Contains xs (Item.Var n) → HoldVariable xs n
unfolding HoldVariable
place-items [] n h = absurd (none-there (Item.Var n) h)
place-items (x ∷ xs) n h = elim (front-or-behind x (Item.Var n) xs h) [ inl e ↦ inl (is-holds x n e) | inr b ↦ inr (place-items xs n b) ]

sum-place : (ts : List (ℤ × ℕ)) (n : ℕ) → SumHasVariable ts n → Contains (sum_places ts) (Item.Var n)
unfolding SumHasVariable sum_places
sum-place [] n h = absurd h
sum-place ((c, m) ∷ ts) n (inl e) = here (Item.Var m) (sum_places ts) n e
sum-place ((c, m) ∷ ts) n (inr h) = behind (Item.Var m) (Item.Var n) (sum_places ts) (sum-place ts n h)

place-sum : (ts : List (ℤ × ℕ)) (n : ℕ) → Contains (sum_places ts) (Item.Var n) → SumHasVariable ts n
unfolding SumHasVariable sum_places
place-sum [] n h = absurd (none-there (Item.Var n) h)
place-sum ((c, m) ∷ ts) n h = elim (front-or-behind (Item.Var m) (Item.Var n) (sum_places ts) h) [ inl e ↦ inl (is-holds (Item.Var m) n e) | inr b ↦ inr (place-sum ts n b) ]

element-place : (index : Item) (items : List Item) (v : Item) (n : ℕ) → HoldsVariable index n ⊎ (HoldVariable items n ⊎ HoldsVariable v n) → Contains (index ∷ (items ++ v ∷ [])) (Item.Var n)
element-place index items v n (inl h) = here index (items ++ v ∷ []) n h
element-place index items v n (inr (inl h)) = behind index (Item.Var n) (items ++ v ∷ []) (Contains-append_left items (v ∷ []) (Item.Var n) (items-place items n h))
element-place index items v n (inr (inr h)) = behind index (Item.Var n) (items ++ v ∷ []) (Contains-append_right items (v ∷ []) (Item.Var n) (here v [] n h))

last-place : (v : Item) (n : ℕ) → Contains (v ∷ []) (Item.Var n) → HoldsVariable v n
last-place v n h = elim (front-or-behind v (Item.Var n) [] h) [ inl e ↦ is-holds v n e | inr b ↦ absurd (none-there (Item.Var n) b) ]

place-element : (index : Item) (items : List Item) (v : Item) (n : ℕ) → Contains (index ∷ (items ++ v ∷ [])) (Item.Var n) → HoldsVariable index n ⊎ (HoldVariable items n ⊎ HoldsVariable v n)
place-element index items v n h = elim (front-or-behind index (Item.Var n) (items ++ v ∷ []) h) [
  | inl e ↦ inl (is-holds index n e)
  | inr b ↦ elim (Contains-append_cases items (v ∷ []) (Item.Var n) b) [ inl a ↦ inr (inl (place-items items n a)) | inr l ↦ inr (inr (last-place v n l)) ]
]

pub speaks-place : (c : Constraint) (n : ℕ) → SpeaksOf c n → Contains (places_of c) (Item.Var n)
speaks-place (Constraint.Linear rel terms constant) n h = sum-place terms n h
speaks-place (Constraint.Product z x y) n (inl h) = here z (x ∷ y ∷ []) n h
speaks-place (Constraint.Product z x y) n (inr (inl h)) = behind z (Item.Var n) (x ∷ y ∷ []) (here x (y ∷ []) n h)
speaks-place (Constraint.Product z x y) n (inr (inr h)) = behind z (Item.Var n) (x ∷ y ∷ []) (behind x (Item.Var n) (y ∷ []) (here y [] n h))
speaks-place (Constraint.Absolute z x) n (inl h) = here z (x ∷ []) n h
speaks-place (Constraint.Absolute z x) n (inr h) = behind z (Item.Var n) (x ∷ []) (here x [] n h)
speaks-place (Constraint.Different items) n h = items-place items n h
speaks-place (Constraint.Element index items v) n h = element-place index items v n h
speaks-place (Constraint.Reified truth rel terms constant) n (inl h) = here truth (sum_places terms) n h
speaks-place (Constraint.Reified truth rel terms constant) n (inr h) = behind truth (Item.Var n) (sum_places terms) (sum-place terms n h)
speaks-place (Constraint.Distinct items) n h = items-place items n h

pub place-speaks : (c : Constraint) (n : ℕ) → Contains (places_of c) (Item.Var n) → SpeaksOf c n
place-speaks (Constraint.Linear rel terms constant) n h = place-sum terms n h
place-speaks (Constraint.Product z x y) n h = elim (front-or-behind z (Item.Var n) (x ∷ y ∷ []) h) [
  | inl e ↦ inl (is-holds z n e)
  | inr b ↦ inr (elim (front-or-behind x (Item.Var n) (y ∷ []) b) [ inl e ↦ inl (is-holds x n e) | inr l ↦ inr (last-place y n l) ])
]
place-speaks (Constraint.Absolute z x) n h = elim (front-or-behind z (Item.Var n) (x ∷ []) h) [ inl e ↦ inl (is-holds z n e) | inr l ↦ inr (last-place x n l) ]
place-speaks (Constraint.Different items) n h = place-items items n h
place-speaks (Constraint.Element index items v) n h = place-element index items v n h
place-speaks (Constraint.Reified truth rel terms constant) n h = elim (front-or-behind truth (Item.Var n) (sum_places terms) h) [ inl e ↦ inl (is-holds truth n e) | inr b ↦ inr (place-sum terms n b) ]
place-speaks (Constraint.Distinct items) n h = place-items items n h

-- ---- a variable that leads to an unbound one comes to it

leads-value : (b : Bindings) (t : Tree) (v : ℕ) → IsAcyclic b → held b v ≡ None → LeadsTo b t v → value b t ≡ var v
leads-value b _ v a none (is_it _) = unbound_is_its_own_value b v none
leads-value b _ v a none (through m u is h) = bound_has_value_of_its_term b m u a is ∙ leads-value b u v a none h

pub leads-root : (s : State) (m v : ℕ) → IsAcyclic (bindings s) → held (bindings s) v ≡ None → LeadsTo (bindings s) (var m) v → root_item s (Item.Var m) ≡ Item.Var v
leads-root s m v a none h = root-by_value (bindings s) m a ∙ ap (item_of m) (leads-value (bindings s) (var m) v a none h)

step-leads : (b : Bindings) (m n : ℕ) (o : Option Tree) → held b m ≡ o → LeadsTo b (unwrap_or o (var m)) n → LeadsTo b (var m) n
step-leads b m n None is h = h
step-leads b m n (Some u) is h = through m u is h

followed-leads : (k : ℕ) (b : Bindings) (t : Tree) (n : ℕ) → followed_for k b t ≡ var n → LeadsTo b t n
unfolding followed_for
followed-leads zero b t n e = subst (λ (u : Tree). LeadsTo b u n) (sym e) (is_it n)
followed-leads (suc k) b (var m) n e = step-leads b m n (held b m) refl (followed-leads k b (unwrap_or (held b m) (var m)) n e)
followed-leads (suc k) b (int i) n e = absurd (cc)
followed-leads (suc k) b (atom name) n e = absurd (cc)
followed-leads (suc k) b (comp name ts) n e = absurd (cc)

to-variable : (b : Bindings) (m n : ℕ) → followed b (var m) ≡ var n → LeadsTo b (var m) n
unfolding followed
to-variable b m n e = followed-leads (length b) b (var m) n e

root-at : (b : Bindings) (m v : ℕ) (t : Tree) → held b v ≡ None → followed b (var m) ≡ t → item_of m t ≡ Item.Var v → LeadsTo b (var m) v
root-at b m v (var n) none is e = to-variable b m v (is ∙ cc)
root-at b m v (int i) none is e = absurd (cc)
root-at b m v (atom name) none is e = let same : m ≡ v = cc in subst (λ (j : ℕ). LeadsTo b (var j) v) (sym same) (is_it v)
root-at b m v (comp name ts) none is e = let same : m ≡ v = cc in subst (λ (j : ℕ). LeadsTo b (var j) v) (sym same) (is_it v)

pub root-leads : (s : State) (m v : ℕ) → held (bindings s) v ≡ None → root_item s (Item.Var m) ≡ Item.Var v → LeadsTo (bindings s) (var m) v
root-leads s m v none e = root-at (bindings s) m v (followed (bindings s) (var m)) none refl e

-- ---- what leads where, before and behind a run

was-bound : (K : ℤ → Type 0) (v w : Variable) (u : Tree) → NarrowsTo K v w → binding w ≡ Some u → (binding v ≡ Some u) ⊎ ((i : ℤ) × (u ≡ int i))
was-bound K v w u left_free is = absurd (cc)
was-bound K v w u (left_bound t) is = inl is
was-bound K v w u (some_left d e p q all) is = absurd (cc)
was-bound K v w u (one_left d i all) is = inr (i, cc)

held-before : (K : ℕ → ℤ → Type 0) (s r : State) (m : ℕ) (u : Tree) → IsNarrowed K s r → held (bindings r) m ≡ Some u → (held (bindings s) m ≡ Some u) ⊎ ((i : ℤ) × (u ≡ int i))
held-before K s r m u f is = elim (less_or_not m (next s)) [
  | inl l ↦ elim (was-bound (K m) (variable s m) (variable r m) u (f.variables m l) (sym (held_is r m) ∙ is)) [ inl same ↦ inl (held_is s m ∙ same) | inr other ↦ inr other ]
  | inr past ↦ absurd (let none : binding (variable r m) ≡ None = ap binding (past_free r m (let same = f.count in omega arith)) in let gone : held (bindings r) m ≡ None = held_is r m ∙ none in cc)
]

no-lead : (b : Bindings) (t : Tree) (v : ℕ) (i : ℤ) → LeadsTo b t v → t ≡ int i → ⊥
no-lead b _ v i (is_it _) e = cc
no-lead b _ v i (through m u is h) e = cc

leads-before : (K : ℕ → ℤ → Type 0) (s r : State) (t : Tree) (v : ℕ) → IsNarrowed K s r → LeadsTo (bindings r) t v → LeadsTo (bindings s) t v
leads-before K s r _ v f (is_it _) = is_it v
leads-before K s r _ v f (through m u is h) = elim (held-before K s r m u f is) [
  | inl same ↦ through m u same (leads-before K s r u v f h)
  | inr (i, e) ↦ absurd (no-lead (bindings r) u v i h e)
]

leads-behind : (K : ℕ → ℤ → Type 0) (s r : State) (t : Tree) (v : ℕ) → IsNarrowed K s r → LeadsTo (bindings s) t v → LeadsTo (bindings r) t v
leads-behind K s r _ v f (is_it _) = is_it v
leads-behind K s r _ v f (through m u is h) = through m u (narrow-keeps K s r f m u is) (leads-behind K s r u v f h)

-- ---- the constraints that a store tells of a variable behind a run are those that came to it before

there : {X : Type 0} (xs : List X) (x : X) → Contains xs x → (k : ℕ) × (slice_get xs k ≡ Some x)
there xs x (k, l, e) = (k, slice_get-get_or xs k x l ∙ ap Some e)

pub posted-has : (K : ℕ → ℤ → Type 0) (s r : State) (v i : ℕ) → IsAcyclic (bindings s) → IsNarrowed K s r → held (bindings s) v ≡ None → IsPostedOn r v i → HasVariable s i v
posted-has K s r v i a f none (c, m, at, speaks, leads) =
    let place = there (places_of c) (Item.Var m) (speaks-place c m speaks) in
    (c, place.0, subst (λ (cs : List Constraint). slice_get cs i ≡ Some c) f.constraints at, (Item.Var m, place.1, leads-root s m v a none (leads-before K s r (var m) v f leads)))

has-at : (K : ℕ → ℤ → Type 0) (s r : State) (v i k : ℕ) (c : Constraint) (y : Item) → IsNarrowed K s r → held (bindings s) v ≡ None → slice_get s.constraints i ≡ Some c → slice_get (places_of c) k ≡ Some y → root_item s y ≡ Item.Var v → IsPostedOn r v i
has-at K s r v i k c (Item.Int j) f none at place e = absurd (cc)
has-at K s r v i k c (Item.Var m) f none at place e =
    let inside : Contains (places_of c) (Item.Var m) = (k, slice_get_within (places_of c) k (Item.Var m) place, get_or_from_slice_get (places_of c) k (Item.Var m) (Item.Var m) place) in
    (c, m, subst (λ (cs : List Constraint). slice_get cs i ≡ Some c) (sym f.constraints) at, place-speaks c m inside, leads-behind K s r (var m) v f (root-leads s m v none e))

pub has-posted : (K : ℕ → ℤ → Type 0) (s r : State) (v i : ℕ) → IsNarrowed K s r → held (bindings s) v ≡ None → HasVariable s i v → IsPostedOn r v i
has-posted K s r v i f none (c, k, at, (y, place, e)) = has-at K s r v i k c y f none at place e
