-- Lemmas on traces that agree but for their answers.
use Rattle.std.proofs.Common.{ℕ, suc, List, [], ◌∷◌}
use Rattle.pi_terms.specs.Tree.{Tree}
use Rattle.pi_traces.specs.Trace.{Trace, end, note, ans, Done, Raise, one, alt, then, first}
use Rattle.pi_traces.specs.Control.{negated, chosen, collected, counted, caught}
use Rattle.pi_traces.specs.Depth.{Below, deeper, same_end, same_note, same_answer}
use Rattle.pi_traces.specs.Related.{BelowBy, deeper_by, end_by, note_by, answer_by}

-- a value and itself
pub data Same {A : Type 0} : A → A → Type 0 where
  same : (x : A) → Same x x

pub by-below : {A : Type 0} (t u : Trace A) → Below t u → BelowBy Same t u
by-below _ _ (deeper u) = deeper_by u
by-below _ _ (same_end e) = end_by e
by-below _ _ (same_note n {t = t} {u = u} a) = note_by n (by-below t u a)
by-below _ _ (same_answer x {t = t} {u = u} a) = answer_by (same x) (by-below t u a)

below-answer : {A : Type 0} (x y : A) (t u : Trace A) → Same x y → Below t u → Below (ans x t) (ans y u)
below-answer _ _ t u (same x) a = same_answer x a

pub below-by : {A : Type 0} (t u : Trace A) → BelowBy Same t u → Below t u
below-by _ _ (deeper_by u) = deeper u
below-by _ _ (end_by e) = same_end e
below-by _ _ (note_by n {t = t} {u = u} a) = same_note n (below-by t u a)
below-by _ _ (answer_by {x = x} {y = y} {t = t} {u = u} r a) = below-answer x y t u r (below-by t u a)

pub by-refl : {A : Type 0} (R : A → A → Type 0) → ((x : A) → R x x) → (t : Trace A) → BelowBy R t t
by-refl R r (end e) = end_by e
by-refl R r (note n t) = note_by n (by-refl R r t)
by-refl R r (ans x t) = answer_by (r x) (by-refl R r t)

pub by-same : {A : Type 0} (t : Trace A) → BelowBy Same t t
by-same t = by-refl Same same t

pub by-one : {A B : Type 0} (R : A → B → Type 0) (x : A) (y : B) → R x y → BelowBy R (one x) (one y)
by-one R x y r = answer_by r (end_by Done)

pub by-alt : {A B : Type 0} (R : A → B → Type 0) (t : Trace A) (t' : Trace B) (u : Trace A) (u' : Trace B) → BelowBy R t t' → BelowBy R u u' → BelowBy R (alt t u) (alt t' u')
unfolding alt
by-alt R _ t' u u' (deeper_by _) b = deeper_by (alt t' u')
by-alt R _ _ u u' (end_by Done) b = b
by-alt R _ _ u u' (end_by e) b = end_by e
by-alt R _ _ u u' (note_by n {t = t} {u = t'} a) b = note_by n (by-alt R t t' u u' a b)
by-alt R _ _ u u' (answer_by {t = t} {u = t'} r a) b = answer_by r (by-alt R t t' u u' a b)

pub by-then : {A B C D : Type 0} (R : A → B → Type 0) (S : C → D → Type 0) (t : Trace A) (t' : Trace B) (f : A → Trace C) (g : B → Trace D) →
    BelowBy R t t' → ((x : A) (y : B) → R x y → BelowBy S (f x) (g y)) → BelowBy S (then t f) (then t' g)
unfolding then
by-then R S _ t' f g (deeper_by _) b = deeper_by (then t' g)
by-then R S _ _ f g (end_by e) b = end_by e
by-then R S _ _ f g (note_by n {t = t} {u = t'} a) b = note_by n (by-then R S t t' f g a b)
by-then R S _ _ f g (answer_by {x = x} {y = y} {t = t} {u = t'} r a) b = by-alt S (f x) (g y) (then t f) (then t' g) (b x y r) (by-then R S t t' f g a b)

pub by-first : {A B : Type 0} (R : A → B → Type 0) (t : Trace A) (t' : Trace B) → BelowBy R t t' → BelowBy R (first t) (first t')
unfolding first
by-first R _ t' (deeper_by _) = deeper_by (first t')
by-first R _ _ (end_by e) = end_by e
by-first R _ _ (note_by n {t = t} {u = t'} a) = note_by n (by-first R t t' a)
by-first R _ _ (answer_by {x = x} {y = y} r a) = by-one R x y r

pub by-negated : {A B C D : Type 0} (R : A → B → Type 0) (S : C → D → Type 0) (t : Trace A) (t' : Trace B) (x : C) (y : D) → BelowBy R t t' → S x y → BelowBy S (negated t x) (negated t' y)
unfolding negated
by-negated R S _ t' x y (deeper_by _) s = deeper_by (negated t' y)
by-negated R S _ _ x y (end_by Done) s = by-one S x y s
by-negated R S _ _ x y (end_by e) s = end_by e
by-negated R S _ _ x y (note_by n {t = t} {u = t'} a) s = note_by n (by-negated R S t t' x y a s)
by-negated R S _ _ x y (answer_by r a) s = end_by Done

pub by-chosen : {A B C D : Type 0} (R : A → B → Type 0) (S : C → D → Type 0) (t : Trace A) (t' : Trace B) (f : A → Trace C) (g : B → Trace D) (u : Trace C) (u' : Trace D) →
    BelowBy R t t' → ((x : A) (y : B) → R x y → BelowBy S (f x) (g y)) → BelowBy S u u' → BelowBy S (chosen t f u) (chosen t' g u')
unfolding chosen
by-chosen R S _ t' f g u u' (deeper_by _) b c = deeper_by (chosen t' g u')
by-chosen R S _ _ f g u u' (end_by Done) b c = c
by-chosen R S _ _ f g u u' (end_by e) b c = end_by e
by-chosen R S _ _ f g u u' (note_by n {t = t} {u = t'} a) b c = note_by n (by-chosen R S t t' f g u u' a b c)
by-chosen R S _ _ f g u u' (answer_by {x = x} {y = y} r a) b c = b x y r

pub by-collected : {A C D : Type 0} (S : C → D → Type 0) (t t' : Trace A) (f : List A → Trace C) (g : List A → Trace D) →
    BelowBy Same t t' → ((xs : List A) → BelowBy S (f xs) (g xs)) → BelowBy S (collected t (λ x. x) f) (collected t' (λ x. x) g)
unfolding collected
by-collected S _ t' f g (deeper_by _) b = deeper_by (collected t' (λ x. x) g)
by-collected S _ _ f g (end_by Done) b = b []
by-collected S _ _ f g (end_by e) b = end_by e
by-collected S _ _ f g (note_by n {t = t} {u = t'} a) b = note_by n (by-collected S t t' f g a b)
by-collected S _ _ f g (answer_by {t = t} {u = t'} (same x) a) b = by-collected S t t' (λ xs. f (x ∷ xs)) (λ xs. g (x ∷ xs)) a (λ xs. b (x ∷ xs))

pub by-counted : {A B C D : Type 0} (R : A → B → Type 0) (S : C → D → Type 0) (t : Trace A) (t' : Trace B) (f : ℕ → Trace C) (g : ℕ → Trace D) →
    BelowBy R t t' → ((k : ℕ) → BelowBy S (f k) (g k)) → BelowBy S (counted t f) (counted t' g)
unfolding counted
by-counted R S _ t' f g (deeper_by _) b = deeper_by (counted t' g)
by-counted R S _ _ f g (end_by Done) b = b 0
by-counted R S _ _ f g (end_by e) b = end_by e
by-counted R S _ _ f g (note_by n {t = t} {u = t'} a) b = note_by n (by-counted R S t t' f g a b)
by-counted R S _ _ f g (answer_by {t = t} {u = t'} r a) b = by-counted R S t t' (λ k. f (suc k)) (λ k. g (suc k)) a (λ k. b (suc k))

pub by-caught : {A B : Type 0} (R : A → B → Type 0) (t : Trace A) (t' : Trace B) (f : Tree → Trace A) (g : Tree → Trace B) →
    BelowBy R t t' → ((ball : Tree) → BelowBy R (f ball) (g ball)) → BelowBy R (caught t f) (caught t' g)
unfolding caught
by-caught R _ t' f g (deeper_by _) b = deeper_by (caught t' g)
by-caught R _ _ f g (end_by (Raise ball)) b = b ball
by-caught R _ _ f g (end_by e) b = end_by e
by-caught R _ _ f g (note_by n {t = t} {u = t'} a) b = note_by n (by-caught R t t' f g a b)
by-caught R _ _ f g (answer_by {t = t} {u = t'} r a) b = answer_by r (by-caught R t t' f g a b)

-- what follows the same answers
follow-same : {A C D : Type 0} (S : C → D → Type 0) (f : A → Trace C) (g : A → Trace D) → ((x : A) → BelowBy S (f x) (g x)) → (x y : A) → Same x y → BelowBy S (f x) (g y)
follow-same S f g b _ _ (same x) = b x

pub by-then_same : {A C D : Type 0} (S : C → D → Type 0) (t t' : Trace A) (f : A → Trace C) (g : A → Trace D) →
    Below t t' → ((x : A) → BelowBy S (f x) (g x)) → BelowBy S (then t f) (then t' g)
by-then_same S t t' f g a b = by-then Same S t t' f g (by-below t t' a) (follow-same S f g b)
