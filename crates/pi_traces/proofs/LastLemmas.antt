-- Traces that end in Deep only past so many Ticks.
use Rattle.std.proofs.Common.{◌≡◌, ◌≢◌, ℕ, zero, suc, ◌-◌, ◌≤◌, List, [], ◌∷◌, refl, subst, arith}
use Rattle.pi_terms.specs.Tree.{Tree}
use Rattle.pi_traces.specs.Trace.{Trace, end, note, ans, End, Done, Raise, Deep, Tick, Load, Out, one, alt, then, first}
use Rattle.pi_traces.specs.Control.{negated, chosen, collected, counted, caught}
use Rattle.pi_traces.specs.Depth.{cut, CutWithoutDeep}

-- Deep comes past d Ticks or more, and an answer past fewer holds what is said of those that are left
unfoldable pub Lasts : {A : Type 0} → (ℕ → A → Type 0) → ℕ → Trace A → Type 0
Lasts Ok d (end e) = e ≡ Deep → d ≡ 0
Lasts Ok d (note Tick t) = Lasts Ok (d - 1) t
Lasts Ok d (note (Load k) t) = Lasts Ok d t
Lasts Ok d (note (Out text) t) = Lasts Ok d t
Lasts Ok d (ans x t) = Ok d x × Lasts Ok d t

-- what holds where more is left holds where less is
abbrev pub Falls : {A : Type 0} → (ℕ → A → Type 0) → Type 0
Falls {A = A} Ok = (d k : ℕ) (x : A) → k ≤ d → Ok d x → Ok k x

-- nothing is asked of answers
abbrev pub Any : {A : Type 0} → ℕ → A → Type 0
Any d x = Unit {0}

pub any-falls : {A : Type 0} → Falls (Any {A = A})
any-falls d k x h a = tt

pub less-left : {A : Type 0} (Ok : ℕ → A → Type 0) → Falls Ok → (d k : ℕ) → k ≤ d → (t : Trace A) → Lasts Ok d t → Lasts Ok k t
unfolding Lasts
less-left Ok f d k h (end e) a = λ is. let z : d ≡ 0 = a is in omega arith
less-left Ok f d k h (note Tick t) a = less-left Ok f (d - 1) (k - 1) (omega arith) t a
less-left Ok f d k h (note (Load n) t) a = less-left Ok f d k h t a
less-left Ok f d k h (note (Out text) t) a = less-left Ok f d k h t a
less-left Ok f d k h (ans x t) a = (f d k x h a.0, less-left Ok f d k h t a.1)

pub lasts-map : {A : Type 0} (Ok Ok' : ℕ → A → Type 0) → ((d : ℕ) (x : A) → Ok d x → Ok' d x) → (d : ℕ) (t : Trace A) → Lasts Ok d t → Lasts Ok' d t
unfolding Lasts
lasts-map Ok Ok' f d (end e) a = a
lasts-map Ok Ok' f d (note Tick t) a = lasts-map Ok Ok' f (d - 1) t a
lasts-map Ok Ok' f d (note (Load n) t) a = lasts-map Ok Ok' f d t a
lasts-map Ok Ok' f d (note (Out text) t) a = lasts-map Ok Ok' f d t a
lasts-map Ok Ok' f d (ans x t) a = (f d x a.0, lasts-map Ok Ok' f d t a.1)

-- an end that is not Deep
pub lasts-end : {A : Type 0} (Ok : ℕ → A → Type 0) (d : ℕ) (e : End) → e ≢ Deep → Lasts Ok d (end e)
unfolding Lasts
lasts-end Ok d e h = λ is. absurd (h is)

pub done-lasts : {A : Type 0} (Ok : ℕ → A → Type 0) (d : ℕ) → Lasts Ok d (end Done)
done-lasts Ok d = lasts-end Ok d Done (λ is. cc)

pub raise-lasts : {A : Type 0} (Ok : ℕ → A → Type 0) (d : ℕ) (t : Tree) → Lasts Ok d (end (Raise t))
raise-lasts Ok d t = lasts-end Ok d (Raise t) (λ is. cc)

pub one-lasts : {A : Type 0} (Ok : ℕ → A → Type 0) (d : ℕ) (x : A) → Ok d x → Lasts Ok d (one x)
unfolding Lasts
one-lasts Ok d x a = (a, done-lasts Ok d)

pub alt-lasts : {A : Type 0} (Ok : ℕ → A → Type 0) → Falls Ok → (d : ℕ) (t u : Trace A) → Lasts Ok d t → Lasts Ok d u → Lasts Ok d (alt t u)
unfolding Lasts alt
alt-lasts Ok f d (end Done) u a b = b
alt-lasts Ok f d (end e) u a b = a
alt-lasts Ok f d (note Tick t) u a b = alt-lasts Ok f (d - 1) t u a (less-left Ok f d (d - 1) (omega arith) u b)
alt-lasts Ok f d (note (Load n) t) u a b = alt-lasts Ok f d t u a b
alt-lasts Ok f d (note (Out text) t) u a b = alt-lasts Ok f d t u a b
alt-lasts Ok f d (ans x t) u a b = (a.0, alt-lasts Ok f d t u a.1 b)

pub then-lasts : {A B : Type 0} (Ok : ℕ → A → Type 0) (Ok' : ℕ → B → Type 0) → Falls Ok' → (d : ℕ) (t : Trace A) (f : A → Trace B) → Lasts Ok d t →
    ((k : ℕ) (x : A) → k ≤ d → Ok k x → Lasts Ok' k (f x)) → Lasts Ok' d (then t f)
unfolding Lasts then
then-lasts Ok Ok' h d (end e) f a b = a
then-lasts Ok Ok' h d (note Tick t) f a b = then-lasts Ok Ok' h (d - 1) t f a (λ k x l o. b k x (omega (arith, l)) o)
then-lasts Ok Ok' h d (note (Load n) t) f a b = then-lasts Ok Ok' h d t f a b
then-lasts Ok Ok' h d (note (Out text) t) f a b = then-lasts Ok Ok' h d t f a b
then-lasts Ok Ok' h d (ans x t) f a b = alt-lasts Ok' h d (f x) (then t f) (b d x (omega arith) a.0) (then-lasts Ok Ok' h d t f a.1 b)

pub first-lasts : {A : Type 0} (Ok : ℕ → A → Type 0) (d : ℕ) (t : Trace A) → Lasts Ok d t → Lasts Ok d (first t)
unfolding Lasts first
first-lasts Ok d (end e) a = a
first-lasts Ok d (note Tick t) a = first-lasts Ok (d - 1) t a
first-lasts Ok d (note (Load n) t) a = first-lasts Ok d t a
first-lasts Ok d (note (Out text) t) a = first-lasts Ok d t a
first-lasts Ok d (ans x t) a = one-lasts Ok d x a.0

pub negated-lasts : {A B : Type 0} (Ok : ℕ → A → Type 0) (Ok' : ℕ → B → Type 0) (d : ℕ) (t : Trace A) (y : B) → Lasts Ok d t →
    ((k : ℕ) → k ≤ d → Ok' k y) → Lasts Ok' d (negated t y)
unfolding Lasts negated
negated-lasts Ok Ok' d (end Done) y a b = one-lasts Ok' d y (b d (omega arith))
negated-lasts Ok Ok' d (end e) y a b = a
negated-lasts Ok Ok' d (note Tick t) y a b = negated-lasts Ok Ok' (d - 1) t y a (λ k l. b k (omega (arith, l)))
negated-lasts Ok Ok' d (note (Load n) t) y a b = negated-lasts Ok Ok' d t y a b
negated-lasts Ok Ok' d (note (Out text) t) y a b = negated-lasts Ok Ok' d t y a b
negated-lasts Ok Ok' d (ans x t) y a b = done-lasts Ok' d

pub chosen-lasts : {A B : Type 0} (Ok : ℕ → A → Type 0) (Ok' : ℕ → B → Type 0) → Falls Ok' → (d : ℕ) (t : Trace A) (f : A → Trace B) (u : Trace B) → Lasts Ok d t →
    ((k : ℕ) (x : A) → k ≤ d → Ok k x → Lasts Ok' k (f x)) → Lasts Ok' d u → Lasts Ok' d (chosen t f u)
unfolding Lasts chosen
chosen-lasts Ok Ok' h d (end Done) f u a b c = c
chosen-lasts Ok Ok' h d (end e) f u a b c = a
chosen-lasts Ok Ok' h d (note Tick t) f u a b c =
    chosen-lasts Ok Ok' h (d - 1) t f u a (λ k x l o. b k x (omega (arith, l)) o) (less-left Ok' h d (d - 1) (omega arith) u c)
chosen-lasts Ok Ok' h d (note (Load n) t) f u a b c = chosen-lasts Ok Ok' h d t f u a b c
chosen-lasts Ok Ok' h d (note (Out text) t) f u a b c = chosen-lasts Ok Ok' h d t f u a b c
chosen-lasts Ok Ok' h d (ans x t) f u a b c = b d x (omega arith) a.0

pub collected-lasts : {A B C : Type 0} (Ok : ℕ → A → Type 0) (Ok' : ℕ → C → Type 0) (d : ℕ) (t : Trace A) (value : A → B) (f : List B → Trace C) → Lasts Ok d t →
    ((k : ℕ) (ys : List B) → k ≤ d → Lasts Ok' k (f ys)) → Lasts Ok' d (collected t value f)
unfolding Lasts collected
collected-lasts Ok Ok' d (end Done) value f a b = b d [] (omega arith)
collected-lasts Ok Ok' d (end e) value f a b = a
collected-lasts Ok Ok' d (note Tick t) value f a b = collected-lasts Ok Ok' (d - 1) t value f a (λ k ys l. b k ys (omega (arith, l)))
collected-lasts Ok Ok' d (note (Load n) t) value f a b = collected-lasts Ok Ok' d t value f a b
collected-lasts Ok Ok' d (note (Out text) t) value f a b = collected-lasts Ok Ok' d t value f a b
collected-lasts Ok Ok' d (ans x t) value f a b = collected-lasts Ok Ok' d t value (λ ys. f (value x ∷ ys)) a.1 (λ k ys l. b k (value x ∷ ys) l)

pub counted-lasts : {A B : Type 0} (Ok : ℕ → A → Type 0) (Ok' : ℕ → B → Type 0) (d : ℕ) (t : Trace A) (f : ℕ → Trace B) → Lasts Ok d t →
    ((k n : ℕ) → k ≤ d → Lasts Ok' k (f n)) → Lasts Ok' d (counted t f)
unfolding Lasts counted
counted-lasts Ok Ok' d (end Done) f a b = b d 0 (omega arith)
counted-lasts Ok Ok' d (end e) f a b = a
counted-lasts Ok Ok' d (note Tick t) f a b = counted-lasts Ok Ok' (d - 1) t f a (λ k n l. b k n (omega (arith, l)))
counted-lasts Ok Ok' d (note (Load n) t) f a b = counted-lasts Ok Ok' d t f a b
counted-lasts Ok Ok' d (note (Out text) t) f a b = counted-lasts Ok Ok' d t f a b
counted-lasts Ok Ok' d (ans x t) f a b = counted-lasts Ok Ok' d t (λ n. f (suc n)) a.1 (λ k n l. b k (suc n) l)

pub caught-lasts : {A : Type 0} (Ok : ℕ → A → Type 0) (d : ℕ) (t : Trace A) (f : Tree → Trace A) → Lasts Ok d t →
    ((k : ℕ) (ball : Tree) → k ≤ d → Lasts Ok k (f ball)) → Lasts Ok d (caught t f)
unfolding Lasts caught
caught-lasts Ok d (end (Raise ball)) f a b = b d ball (omega arith)
caught-lasts Ok d (end e) f a b = a
caught-lasts Ok d (note Tick t) f a b = caught-lasts Ok (d - 1) t f a (λ k ball l. b k ball (omega (arith, l)))
caught-lasts Ok d (note (Load n) t) f a b = caught-lasts Ok d t f a b
caught-lasts Ok d (note (Out text) t) f a b = caught-lasts Ok d t f a b
caught-lasts Ok d (ans x t) f a b = (a.0, caught-lasts Ok d t f a.1 b)

-- a cut before Tick number n + 1 of a trace that lasts so long
pub cut-lasts : {A : Type 0} (Ok : ℕ → A → Type 0) (n : ℕ) (t : Trace A) → Lasts Ok (suc n) t → CutWithoutDeep n t
unfolding Lasts cut
cut-lasts Ok n (end Deep) a = λ is. let z : suc n ≡ 0 = a refl in omega arith
cut-lasts Ok n (end e) a = λ is. cc
cut-lasts Ok zero (note Tick t) a = λ is. cc
cut-lasts Ok (suc n) (note Tick t) a =
    let left : suc (suc n) - 1 ≡ suc n = omega arith in
    cut-lasts Ok n t (subst (λ k. Lasts Ok k t) left a)
cut-lasts Ok n (note (Load k) t) a = cut-lasts Ok n t a
cut-lasts Ok n (note (Out text) t) a = cut-lasts Ok n t a
cut-lasts Ok n (ans x t) a = cut-lasts Ok n t a.1
