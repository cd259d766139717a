-- Places that are read, and told of, one after the other.
use Rattle.std.specs.Prelude.{◌≡◌, ◌⊎◌, ℕ, zero, suc, ◌+◌, ◌<◌, ◌≤◌, List, [], ◌∷◌, ◌++◌, length, map, take, Option, None, unwrap_or, refl}
use Rattle.std.proofs.Common.{arith, sym, ◌∙◌, ap, subst, get_or, inl, inr, length-append}
use Rattle.std.proofs.lemmas.List.{take_more, take_all, get_or-map, get_or_default}
use Rattle.pi_constraints.specs.Constraint.{AreItems, IsItem}
use Rattle.pi_constraints.specs.declared.constraint.Item.{Item}
use Rattle.pi_constraints.specs.declared.domain.Span.{Span}
use Rattle.pi_prop_spec.specs.Places.{domain_at}
use Rattle.pi_queue.specs.Changes.{AreTold}

pub item-at : (xs : List Item) (k : ℕ) (x : Item) → k < length xs → AreItems xs → IsItem (get_or xs k x)
unfolding AreItems
item-at [] k x l all = absurd (omega arith)
item-at (y ∷ xs) zero x l all = all.0
item-at (y ∷ xs) (suc k) x l all = item-at xs k x (omega arith) all.1

map-push : {X Y : Type 0} (f : X → Y) (xs : List X) (x : X) → map f (xs ++ x ∷ []) ≡ map f xs ++ f x ∷ []
map-push f [] x = refl
map-push f (y ∷ xs) x = ap (λ ys. f y ∷ ys) (map-push f xs x)

pub push-count : {X : Type 0} (xs ys : List X) (y : X) (n : ℕ) → ys ≡ xs ++ y ∷ [] → length xs ≡ n → length ys ≡ n + 1
push-count xs ys y n is e = let more : length ys ≡ length (xs ++ y ∷ []) = ap length is in omega (arith, length-append xs (y ∷ []), more, e)

pub read-more : {X Y : Type 0} (f : X → Y) (xs : List X) (k : ℕ) (d : X) (made new : List Y) (y : Y) → k < length xs → new ≡ made ++ y ∷ [] → made ≡ map f (take k xs) → y ≡ f (get_or xs k d) → new ≡ map f (take (k + 1) xs)
read-more f xs k d made new y l push is e =
    push ∙ (ap (λ ys. ys ++ y ∷ []) is ∙ (ap (λ z. map f (take k xs) ++ z ∷ []) e ∙ (sym (map-push f (take k xs) (get_or xs k d)) ∙ sym (ap (map f) (take_more xs k d l)))))

pub read-all : {X Y : Type 0} (f : X → Y) (xs : List X) (k : ℕ) (made : List Y) → length xs ≤ k → made ≡ map f (take k xs) → made ≡ map f xs
read-all f xs k made l is = is ∙ ap (map f) (take_all k xs l)

-- ---- what is told of the first so many places

pub AreFirstTold : ℕ → List (List Span) → List (Option (List Span)) → List (List Span) → Type 0
AreFirstTold many before told after = (k : ℕ) → k < many → domain_at after k ≡ unwrap_or (get_or told k None) (domain_at before k)

at-old : {X : Type 0} (xs : List X) (x : X) (j : ℕ) (d : X) → j < length xs → get_or (xs ++ x ∷ []) j d ≡ get_or xs j d
at-old [] x j d l = absurd (omega arith)
at-old (y ∷ xs) x zero d l = refl
at-old (y ∷ xs) x (suc j) d l = at-old xs x j d (omega arith)

at-new : {X : Type 0} (xs : List X) (x : X) (j : ℕ) (d : X) → j ≡ length xs → get_or (xs ++ x ∷ []) j d ≡ x
at-new [] x zero d e = refl
at-new [] x (suc j) d e = absurd (omega arith)
at-new (y ∷ xs) x zero d e = absurd (omega arith)
at-new (y ∷ xs) x (suc j) d e = at-new xs x j d (omega arith)

less-or-here : (j k : ℕ) → j < k + 1 → (j < k) ⊎ (j ≡ k)
less-or-here zero zero l = inr refl
less-or-here zero (suc k) l = inl (omega arith)
less-or-here (suc j) zero l = absurd (omega arith)
less-or-here (suc j) (suc k) l = elim (less-or-here j k (omega arith)) [ inl m ↦ inl (omega arith) | inr e ↦ inr (ap suc e) ]

pub none-told : (before : List (List Span)) (told : List (Option (List Span))) (after : List (List Span)) → AreFirstTold 0 before told after
unfolding AreFirstTold
none-told before told after k l = absurd (omega arith)

pub told-more : (f : Item → List Span) (items : List Item) (told new : List (Option (List Span))) (after : List (List Span)) (k : ℕ) (d : Item) (one : Option (List Span)) (held : List Span) → k < length items → length items ≡ length after → length told ≡ k → new ≡ told ++ one ∷ [] →
    held ≡ get_or after k held → held ≡ unwrap_or one (f (get_or items k d)) → AreFirstTold k (map f items) told after → AreFirstTold (k + 1) (map f items) new after
unfolding AreFirstTold
told-more f items told new after k d one held l many count push at is h j m = elim (less-or-here j k m) [
  | inl b ↦ h j b ∙ ap (λ (o : Option (List Span)). unwrap_or o (domain_at (map f items) j)) (sym (at-old told one j None (omega (arith, count, b))) ∙ sym (ap (λ (os : List (Option (List Span))). get_or os j None) push))
  | inr e ↦
      let here : domain_at after k ≡ held = get_or_default after k [] held (omega (arith, l, many)) ∙ sym at in
      let was : domain_at (map f items) k ≡ f (get_or items k d) = get_or-map f items k d [] l in
      let last : get_or new k None ≡ one = ap (λ (os : List (Option (List Span))). get_or os k None) push ∙ at-new told one k None (sym count) in
      let same : domain_at after k ≡ unwrap_or (get_or new k None) (domain_at (map f items) k) =
      here ∙ (is ∙ (ap (λ (o : Option (List Span)). unwrap_or o (f (get_or items k d))) (sym last) ∙ ap (λ (x : List Span). unwrap_or (get_or new k None) x) (sym was))) in
      subst (λ (i : ℕ). domain_at after i ≡ unwrap_or (get_or new i None) (domain_at (map f items) i)) (sym e) same
]

pub told-all : (before : List (List Span)) (told : List (Option (List Span))) (after : List (List Span)) (k : ℕ) → length told ≡ k → k ≡ length after → AreFirstTold k before told after → AreTold before told after
unfolding AreFirstTold
told-all before told after k count end h = record { count = count ∙ end; same = λ j l. h j (omega (arith, end, l)) }
