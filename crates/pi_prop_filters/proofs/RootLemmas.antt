-- The places that stand for places, one more at a time.
use Rattle.std.specs.Prelude.{◌≡◌, ℕ, ◌+◌, ◌<◌, Bool, ℤ, nat_eq, cond, Option, Some, None, unwrap_or, slice_get, List, [], ◌∷◌, ◌++◌, length, refl}
use Rattle.std.proofs.Common.{arith, sym, ◌∙◌, ap, subst, inl, inr, length-append}
use Rattle.std.proofs.Math.Seq.{get_or-append_seam}
use Rattle.std.proofs.lemmas.List.{get_or_append_left}
use Rattle.std.proofs.lemmas.Bool.{cases_eq, eq-eqb, ne_eqb}
use Rattle.pi_constraints.specs.declared.constraint.Item.{Item}
use Rattle.pi_prop_spec.specs.Places.{HaveOneVariable}
use Rattle.pi_prop_filters.specs.Variables.{root_at, AreRoots, AreSettled, IsRootOf}

-- what is known of the first so many places
pub record RootsSoFar (items : List Item) (many : ℕ) (roots : List ℕ) (known : ℕ → Option ℕ) : Type 0 where
  pub count : length roots ≡ many
  pub inside : (k : ℕ) → k < many → root_at roots k < many
  pub one : (k : ℕ) → k < many → HaveOneVariable items (root_at roots k) k
  pub sound : (v r : ℕ) → known v ≡ Some r → (r < many) × (slice_get items r ≡ Some (Item.Var v))
  pub whole : (k v : ℕ) → k < many → slice_get items k ≡ Some (Item.Var v) → known v ≡ Some (root_at roots k)

some_same : (x y : ℕ) → Some x ≡ Some y → x ≡ y
some_same x y e = ap (λ (o : Option ℕ). unwrap_or o 0) e

pub roots_found : (items : List Item) (many : ℕ) (roots : List ℕ) (known : ℕ → Option ℕ) → RootsSoFar items many roots known → AreRoots items many roots
roots_found items many roots known f = record {
  count = f.count;
  inside = f.inside;
  one = f.one;
  same = λ j k l m one. elim one [
    | inl e ↦ ap (root_at roots) e
    | inr h ↦ some_same (root_at roots j) (root_at roots k) (sym (f.whole j h.0 l h.1) ∙ f.whole k h.0 m h.2)
  ];
}

pub roots_settled : (items : List Item) (many : ℕ) (roots : List ℕ) → AreRoots items many roots → AreSettled roots
roots_settled items many roots f k l =
    let m : k < many = omega (arith, f.count) in
    f.same (root_at roots k) k (f.inside k m) m (f.one k m)

-- ---- one more root

none_some : (x : ℕ) → None ≡ Some x → ⊥
none_some x e = absurd (cc)

pub some_item : (x y : Item) → Some x ≡ Some y → x ≡ y
some_item x y e = ap (λ (o : Option Item). unwrap_or o x) e

no_variable : (i : ℤ) (v : ℕ) → Item.Int i ≡ Item.Var v → ⊥
no_variable i v e = absurd (cc)

variable_of : Item → ℕ
variable_of (Item.Var v) = v
variable_of (Item.Int i) = 0

pub variable_same : (v w : ℕ) → Item.Var v ≡ Item.Var w → v ≡ w
unfolding variable_of
variable_same v w e = ap variable_of e

before_last : (roots : List ℕ) (r many k : ℕ) → length roots ≡ many → k < many → root_at (roots ++ r ∷ []) k ≡ root_at roots k
before_last roots r many k c l = get_or_append_left roots (r ∷ []) 0 k (omega arith)

last : (roots : List ℕ) (r many : ℕ) → length roots ≡ many → root_at (roots ++ r ∷ []) many ≡ r
last roots r many c = subst (λ (i : ℕ). root_at (roots ++ r ∷ []) i ≡ r) c (get_or-append_seam roots r [] 0)

still_below : (k many : ℕ) → k < many + 1 → (k ≡ many → ⊥) → k < many
still_below k many l o = omega arith

-- the next place got its root, and the variables that are known are those up to it
grown : (items : List Item) (many root : ℕ) (roots : List ℕ) (known after : ℕ → Option ℕ) → RootsSoFar items many roots known → root < many + 1 → HaveOneVariable items root many
    → ((v r : ℕ) → after v ≡ Some r → (r < many + 1) × (slice_get items r ≡ Some (Item.Var v)))
    → ((k v : ℕ) → k < many → slice_get items k ≡ Some (Item.Var v) → after v ≡ Some (root_at roots k))
    → ((v : ℕ) → slice_get items many ≡ Some (Item.Var v) → after v ≡ Some root)
    → RootsSoFar items (many + 1) (roots ++ root ∷ []) after
grown items many root roots known after f inside one sound whole here =
    let new : List ℕ = roots ++ root ∷ [] in
    let old : (k : ℕ) → k < many → root_at new k ≡ root_at roots k = λ k l. before_last roots root many k f.count l in
    let at : root_at new many ≡ root = last roots root many f.count in record {
      count = length-append roots (root ∷ []) ∙ ap (λ (n : ℕ). n + 1) f.count;
      inside = λ k l. elim (cases_eq k many) [
        | inl e ↦ subst (λ (i : ℕ). root_at new i < many + 1) (sym e) (subst (λ (r : ℕ). r < many + 1) (sym at) inside)
        | inr o ↦ let m : k < many = still_below k many l o in let b : root_at roots k < many = f.inside k m in subst (λ (r : ℕ). r < many + 1) (sym (old k m)) (omega arith)
      ];
      one = λ k l. elim (cases_eq k many) [
        | inl e ↦ subst (λ (i : ℕ). HaveOneVariable items (root_at new i) i) (sym e) (subst (λ (r : ℕ). HaveOneVariable items r many) (sym at) one)
        | inr o ↦ let m : k < many = still_below k many l o in subst (λ (r : ℕ). HaveOneVariable items r k) (sym (old k m)) (f.one k m)
      ];
      sound = sound;
      whole = λ k v l e. elim (cases_eq k many) [
        | inl s ↦ subst (λ (i : ℕ). after v ≡ Some (root_at new i)) (sym s) (here v (subst (λ (i : ℕ). slice_get items i ≡ Some (Item.Var v)) s e) ∙ ap Some (sym at))
        | inr o ↦ let m : k < many = still_below k many l o in whole k v m e ∙ ap Some (sym (old k m))
      ];
    }

-- of an integer
integer_root : (items : List Item) (many root : ℕ) (i : ℤ) (roots : List ℕ) (known after : ℕ → Option ℕ) → slice_get items many ≡ Some (Item.Int i) → root ≡ many → ((w : ℕ) → after w ≡ known w) → RootsSoFar items many roots known
    → RootsSoFar items (many + 1) (roots ++ root ∷ []) after
integer_root items many root i roots known after at is same f =
    grown items many root roots known after f (omega arith) (inl is)
    (λ v r e. let p = f.sound v r (sym (same v) ∙ e) in (omega (arith, p.0), p.1))
    (λ k v l e. same v ∙ f.whole k v l e)
    (λ v e. absurd (no_variable i v (some_item (Item.Int i) (Item.Var v) (sym at ∙ e))))

-- of a variable: its root has it
variable_root : (items : List Item) (many root v : ℕ) (roots : List ℕ) (known after : ℕ → Option ℕ) → slice_get items many ≡ Some (Item.Var v) → (root < many + 1) × (slice_get items root ≡ Some (Item.Var v)) → ((k : ℕ) → k < many → slice_get items k ≡ Some (Item.Var v) → root_at roots k ≡ root)
    → ((w : ℕ) → after w ≡ cond (nat_eq v w) (Some root) (known w)) → RootsSoFar items many roots known → RootsSoFar items (many + 1) (roots ++ root ∷ []) after
variable_root items many root v roots known after at is all says f =
    let here : (w : ℕ) → w ≡ v → after w ≡ Some root = λ w e. says w ∙ ap (λ (b : Bool). cond b (Some root) (known w)) (eq-eqb v w (sym e)) in
    let there : (w : ℕ) → (w ≡ v → ⊥) → after w ≡ known w = λ w o. says w ∙ ap (λ (b : Bool). cond b (Some root) (known w)) (ne_eqb v w (λ e. o (sym e))) in
    grown items many root roots known after f is.0 (inr (v, is.1, at))
    (λ w r e. elim (cases_eq w v) [
      | inl s ↦
          let same : r ≡ root = some_same r root (sym e ∙ here w s) in
          subst (λ (x : ℕ). (x < many + 1) × (slice_get items x ≡ Some (Item.Var w))) (sym same) (is.0, is.1 ∙ ap (λ (x : ℕ). Some (Item.Var x)) (sym s))
      | inr o ↦ let p = f.sound w r (sym (there w o) ∙ e) in (omega (arith, p.0), p.1)
    ])
    (λ k w l e. elim (cases_eq w v) [
      | inl s ↦ here w s ∙ ap Some (sym (all k l (e ∙ ap (λ (x : ℕ). Some (Item.Var x)) s)))
      | inr o ↦ there w o ∙ f.whole k w l e
    ])
    (λ w e. here w (variable_same w v (some_item (Item.Var w) (Item.Var v) (sym e ∙ at))))

known_root : (items : List Item) (many root v : ℕ) (roots : List ℕ) (known : ℕ → Option ℕ) (o : Option ℕ) → known v ≡ o → slice_get items many ≡ Some (Item.Var v) → root ≡ unwrap_or o many → RootsSoFar items many roots known
    → (root < many + 1) × (slice_get items root ≡ Some (Item.Var v)) × ((k : ℕ) → k < many → slice_get items k ≡ Some (Item.Var v) → root_at roots k ≡ root)
known_root items many root v roots known None e at is f =
    (omega arith, subst (λ (x : ℕ). slice_get items x ≡ Some (Item.Var v)) (sym is) at, λ k l h. absurd (none_some (root_at roots k) (sym e ∙ f.whole k v l h)))
known_root items many root v roots known (Some r) e at is f =
    let p = f.sound v r e in
    (omega (arith, p.0, is), subst (λ (x : ℕ). slice_get items x ≡ Some (Item.Var v)) (sym is) p.1, λ k l h. some_same (root_at roots k) r (sym (f.whole k v l h) ∙ e) ∙ sym is)

pub roots_more : (items : List Item) (many root : ℕ) (item : Item) (roots : List ℕ) (known after : ℕ → Option ℕ) → slice_get items many ≡ Some item → IsRootOf item many root known after → RootsSoFar items many roots known → RootsSoFar items (many + 1) (roots ++ root ∷ []) after
roots_more items many root (Item.Var v) roots known after at is f =
    let p = known_root items many root v roots known (known v) refl at is.0 f in
    variable_root items many root v roots known after at (p.0, p.1) p.2 is.1 f
roots_more items many root (Item.Int i) roots known after at is f = integer_root items many root i roots known after at is.0 is.1 f
