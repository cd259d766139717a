-- Tests that are put together: what they decide.
use Rattle.std.specs.Prelude.{◌≡◌, ◌⊎◌, ℕ, zero, suc, ◌<◌, ◌≤◌, nat_le, Bool, true, false, cond, ◌&&◌, ◌||◌, List, [], ◌∷◌, Contains, ℤ, ◌≤ℤ◌, int_le, refl}
use Rattle.std.specs.Bool.{Decides}
use Rattle.std.specs.List.{list_any}
use Rattle.std.proofs.Common.{arith, sym, subst, inl, inr}
use Rattle.std.proofs.lemmas.Bool.{leb-true, le-leb}
use Rattle.std.proofs.lemmas.Bool.Decides.{Decides-like, Decides-and}
use Rattle.std.proofs.lemmas.Int.{ints}
use Rattle.pi_prop_spec.specs.Decided.{each_below, some_below, if_so}

pub le-decides : (x y : ℤ) → Decides (int_le x y) (x ≤ℤ y)
le-decides x y = (λ e. grind (arith, ints, e), λ h. grind (arith, ints, h))

pub nat_le-decides : (m n : ℕ) → Decides (nat_le m n) (m ≤ n)
nat_le-decides m n = (λ e. leb-true m n e, λ h. le-leb m n h)

pub is-true : (b : Bool) → Decides b (b ≡ true)
is-true b = (λ e. e, λ e. e)

pub not_both : (b : Bool) → b ≡ true → b ≡ false → ⊥
not_both b t f = absurd (cc)

-- the second has to be decided only where the first is so
pub and_so-decides : {P Q : Type 0} (a b : Bool) → Decides a P → (P → Decides b Q) → Decides (a && b) (P × Q)
and_so-decides true b f g = (λ e. (f.0 refl, (g (f.0 refl)).0 e), λ h. (g h.0).1 h.1)
and_so-decides false b f g = (λ e. absurd (cc), λ h. f.1 h.0)

pub if_so-decides : {P Q : Type 0} (a b : Bool) → Decides a P → (P → Decides b Q) → Decides (if_so a b) (P → Q)
if_so-decides true b f g = (λ e p. (g p).0 e, λ h. (g (f.0 refl)).1 (h (f.0 refl)))
if_so-decides false b f g = (λ e p. absurd (not_both false (f.1 p) refl), λ h. refl)

pub unless-decides : {P Q : Type 0} (a b : Bool) → Decides a P → Decides b Q → Decides (a || b) ((P → ⊥) → Q)
unless-decides true b f g = (λ e none. absurd (none (f.0 refl)), λ h. refl)
unless-decides false b f g = (λ e none. g.0 e, λ h. g.1 (h (λ p. not_both false (f.1 p) refl)))

pub cond-decides : {P R : Type 0} (a b c : Bool) → Decides a P → (P → Decides b R) → ((P → ⊥) → Decides c R) → Decides (cond a b c) R
cond-decides true b c f g h = g (f.0 refl)
cond-decides false b c f g h = h (λ p. not_both false (f.1 p) refl)

-- ---- numbers below one

less_or_same : (k n : ℕ) → k < suc n → (k < n) ⊎ (n ≡ k)
less_or_same zero zero l = inr refl
less_or_same zero (suc n) l = inl (omega arith)
less_or_same (suc k) zero l = absurd (omega arith)
less_or_same (suc k) (suc n) l = elim (less_or_same k n (omega (arith, l))) [ inl h ↦ inl (omega (arith, h)) | inr e ↦ inr (omega (arith, e)) ]

pub each_below-decides : (p : ℕ → Bool) (P : ℕ → Type 0) (n : ℕ) → ((k : ℕ) → k < n → Decides (p k) (P k)) → Decides (each_below n p) ((k : ℕ) → k < n → P k)
unfolding each_below
each_below-decides p P zero each = (λ e k l. absurd (omega (arith, l)), λ h. refl)
each_below-decides p P (suc n) each = Decides-like (p n && each_below n p)
    (λ h k l. elim (less_or_same k n l) [ inl m ↦ h.1 k m | inr e ↦ subst P e h.0 ])
    (λ h. (h n (omega arith), λ k l. h k (omega (arith, l))))
    (Decides-and (p n) (each_below n p) (each n (omega arith)) (each_below-decides p P n (λ k l. each k (omega (arith, l)))))

-- where not each does, some number doesn't
pub each_below-fails : (p : ℕ → Bool) (n : ℕ) → each_below n p ≡ false → (k : ℕ) × (k < n) × (p k ≡ false)
unfolding each_below
each_below-fails p zero e = absurd (not_both true refl e)
each_below-fails p (suc n) e = by (p n) refl e (each_below-fails p n)
  where
    by : (a : Bool) → p n ≡ a → (a && each_below n p) ≡ false → (each_below n p ≡ false → (k : ℕ) × (k < n) × (p k ≡ false)) → (k : ℕ) × (k < suc n) × (p k ≡ false)
    by true at f below = let w = below f in (w.0, omega (arith, w.1), w.2)
    by false at f below = (n, omega arith, at)

pub some_below-decides : (p : ℕ → Bool) (P : ℕ → Type 0) (n : ℕ) → ((k : ℕ) → k < n → Decides (p k) (P k)) → Decides (some_below n p) ((k : ℕ) × (k < n) × P k)
unfolding some_below
some_below-decides p P zero each = (λ e. absurd (not_both false e refl), λ h. absurd (omega (arith, h.1)))
some_below-decides p P (suc n) each = by (p n) (some_below n p) (each n (omega arith)) (some_below-decides p P n (λ k l. each k (omega (arith, l))))
  where
    by : (a b : Bool) → Decides a (P n) → Decides b ((k : ℕ) × (k < n) × P k) → Decides (a || b) ((k : ℕ) × (k < suc n) × P k)
    by true b f g = (λ e. (n, omega arith, f.0 refl), λ h. refl)
    by false b f g = (
      λ e. let w = g.0 e in (w.0, omega (arith, w.1), w.2),
      λ h. g.1 (elim (less_or_same h.0 n h.1) [ inl m ↦ (h.0, m, h.2) | inr e ↦ absurd (not_both false (f.1 (subst P (sym e) h.2)) refl) ]),
    )

-- ---- items of a list

at-front : {X : Type 0} (x : X) (xs : List X) → Contains (x ∷ xs) x
at-front x xs = (0, omega arith, refl)

further : {X : Type 0} (x y : X) (xs : List X) → Contains xs y → Contains (x ∷ xs) y
further x y xs (k, l, e) = (suc k, omega (arith, l), e)

front-or-further : {X : Type 0} (x y : X) (xs : List X) → Contains (x ∷ xs) y → (x ≡ y) ⊎ Contains xs y
front-or-further x y xs (zero, l, e) = inl e
front-or-further x y xs (suc k, l, e) = inr (k, omega (arith, l), e)

pub list_any-decides : {X : Type 0} (p : X → Bool) (P : X → Type 0) → ((x : X) → Decides (p x) (P x)) → (xs : List X) → Decides (list_any p xs) ((x : X) × Contains xs x × P x)
list_any-decides p P each [] = (λ e. absurd (not_both false e refl), λ h. absurd (let c = h.1 in omega (arith, c.1)))
list_any-decides {X = X} p P each (x ∷ xs) = by (p x) (list_any p xs) (each x) (list_any-decides p P each xs)
  where
    by : (a b : Bool) → Decides a (P x) → Decides b ((y : X) × Contains xs y × P y) → Decides (a || b) ((y : X) × Contains (x ∷ xs) y × P y)
    by true b f g = (λ e. (x, at-front x xs, f.0 refl), λ h. refl)
    by false b f g = (
      λ e. let w = g.0 e in (w.0, further x w.0 xs w.1, w.2),
      λ h. g.1 (elim (front-or-further x h.0 xs h.1) [ inl e ↦ absurd (not_both false (f.1 (subst P (sym e) h.2)) refl) | inr c ↦ (h.0, c, h.2) ]),
    )
