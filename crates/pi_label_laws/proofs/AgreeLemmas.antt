-- Whether a constraint holds goes by the values at its places.
use Rattle.std.specs.Prelude.{◌≡◌, ℕ, suc, List, [], ◌∷◌, ◌++◌, get_or, ℤ, pos, ◌+ℤ◌, ◌*ℤ◌, Contains, refl}
use Rattle.std.proofs.Common.{arith, sym, ◌∙◌, ap, subst, inl, inr}
use Rattle.std.proofs.lemmas.List.Elements.{Contains-append_left, Contains-append_right}
use Rattle.pi_constraints.specs.declared.constraint.Rel.{Rel}
use Rattle.pi_constraints.specs.declared.constraint.Item.{Item}
use Rattle.pi_constraints.specs.declared.constraint.Constraint.{Constraint}
use Rattle.pi_prop_spec.specs.Places.{sum_places, places_of}
use Rattle.pi_prop_spec.specs.Rules.{magnitude}
use Rattle.pi_prop_spec.specs.Solutions.{value_of, values_of_items, sum_of, Stands, AreDifferent, Holds}

-- two assignments give these items the same values
abbrev pub AgreeAt : List Item → (ℕ → ℤ) → (ℕ → ℤ) → Type 0
AgreeAt xs a b = (y : Item) → Contains xs y → value_of b y ≡ value_of a y

pub agree-behind : (x : Item) (xs : List Item) (a b : ℕ → ℤ) → AgreeAt (x ∷ xs) a b → AgreeAt xs a b
agree-behind x xs a b h y (k, l, e) = h y (suc k, omega arith, e)

pub agree-first : (x : Item) (xs : List Item) (a b : ℕ → ℤ) → AgreeAt (x ∷ xs) a b → value_of b x ≡ value_of a x
agree-first x xs a b h = h x (0, omega arith, refl)

pub sums-agree : (ts : List (ℤ × ℕ)) (a b : ℕ → ℤ) → AgreeAt (sum_places ts) a b → sum_of b ts ≡ sum_of a ts
unfolding sum_places sum_of
sums-agree [] a b h = refl
sums-agree (t ∷ ts) a b h =
    let first : b t.1 ≡ a t.1 = agree-first (Item.Var t.1) (sum_places ts) a b h in
    let rest : sum_of b ts ≡ sum_of a ts = sums-agree ts a b (agree-behind (Item.Var t.1) (sum_places ts) a b h) in
    (λ i. t.0 *ℤ first i +ℤ rest i)

values-agree : (xs : List Item) (a b : ℕ → ℤ) → AgreeAt xs a b → values_of_items b xs ≡ values_of_items a xs
values-agree [] a b h = refl
values-agree (x ∷ xs) a b h = let first = agree-first x xs a b h in let rest = values-agree xs a b (agree-behind x xs a b h) in (λ i. first i ∷ rest i)

stands-agree : (rel : Rel) (ts : List (ℤ × ℕ)) (k : ℤ) (a b : ℕ → ℤ) → AgreeAt (sum_places ts) a b → Stands rel (k +ℤ sum_of a ts) → Stands rel (k +ℤ sum_of b ts)
stands-agree rel ts k a b h s = subst (λ (x : ℤ). Stands rel (k +ℤ x)) (sym (sums-agree ts a b h)) s

back : (xs : List Item) (a b : ℕ → ℤ) → AgreeAt xs a b → AgreeAt xs b a
back xs a b h y at = sym (h y at)

abbrev Element : (ℕ → ℤ) → Item → List Item → Item → Type 0
Element a index items value = Holds (Constraint.Element index items value) a

element-agrees : (index : Item) (items : List Item) (value : Item) (a b : ℕ → ℤ) → AgreeAt (index ∷ (items ++ value ∷ [])) a b → Element a index items value → Element b index items value
element-agrees index items value a b h (i, l, e, f) =
    let first : value_of b index ≡ value_of a index = agree-first index (items ++ value ∷ []) a b h in
    let rest : AgreeAt (items ++ value ∷ []) a b = agree-behind index (items ++ value ∷ []) a b h in
    let inner : values_of_items b items ≡ values_of_items a items = values-agree items a b (λ y at. rest y (Contains-append_left items (value ∷ []) y at)) in
    let last : value_of b value ≡ value_of a value = rest value (Contains-append_right items (value ∷ []) value (0, omega arith, refl)) in
    (i, l, first ∙ e, ap (λ (vs : List ℤ). get_or vs i (pos 0)) inner ∙ (f ∙ sym last))

pub holds-agrees : (c : Constraint) (a b : ℕ → ℤ) → AgreeAt (places_of c) a b → Holds c a → Holds c b
holds-agrees (Constraint.Linear rel ts k) a b h s = stands-agree rel ts k a b h s
holds-agrees (Constraint.Product z x y) a b h s =
    let first : value_of b z ≡ value_of a z = h z (0, omega arith, refl) in
    let second : value_of b x ≡ value_of a x = h x (1, omega arith, refl) in
    let third : value_of b y ≡ value_of a y = h y (2, omega arith, refl) in
    first ∙ (s ∙ (λ i. sym second i *ℤ sym third i))
holds-agrees (Constraint.Absolute z x) a b h s =
    let first : value_of b z ≡ value_of a z = h z (0, omega arith, refl) in
    let second : value_of b x ≡ value_of a x = h x (1, omega arith, refl) in
    first ∙ (s ∙ ap magnitude (sym second))
holds-agrees (Constraint.Different items) a b h s = subst AreDifferent (sym (values-agree items a b h)) s
holds-agrees (Constraint.Element index items value) a b h s = element-agrees index items value a b h s
holds-agrees (Constraint.Reified truth rel ts k) a b h s =
    let first : value_of b truth ≡ value_of a truth = agree-first truth (sum_places ts) a b h in
    let rest : AgreeAt (sum_places ts) a b = agree-behind truth (sum_places ts) a b h in
    elim s [
      | inl y ↦ inl (first ∙ y.0, stands-agree rel ts k a b rest y.1)
      | inr n ↦ inr (first ∙ n.0, λ z. n.1 (stands-agree rel ts k b a (back (sum_places ts) a b rest) z))
    ]
holds-agrees (Constraint.Distinct items) a b h s = subst AreDifferent (sym (values-agree items a b h)) s
