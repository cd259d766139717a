-- Traces that are the same but for their answers, which stand in a relation.
use Rattle.std.proofs.Common.{◌≡◌, ℕ, suc, List, [], ◌∷◌, refl, ap, subst}
use Rattle.pi_terms.specs.Tree.{Tree}
use Rattle.pi_traces.specs.Trace.{Trace, end, note, ans, End, Done, Raise, Note, one, alt, then, first}
use Rattle.pi_traces.specs.Control.{negated, chosen, collected, counted, caught}
use Rattle.pi_traces.proofs.RelatedLemmas.{Same, same}
use Rattle.pi_traces.proofs.AnswerLemmas.{EachAnswer}

pub data SameBy {A B : Type 0} (R : A → B → Type 0) : Trace A → Trace B → Type 0 where
  same_end : (e : End) → SameBy R (end e) (end e)
  same_note : (n : Note) {t : Trace A} {u : Trace B} → SameBy R t u → SameBy R (note n t) (note n u)
  same_answer : {x : A} {y : B} {t : Trace A} {u : Trace B} → R x y → SameBy R t u → SameBy R (ans x t) (ans y u)

pub same-itself : {A : Type 0} (t : Trace A) → SameBy Same t t
same-itself (end e) = same_end e
same-itself (note n t) = same_note n (same-itself t)
same-itself (ans x t) = same_answer (same x) (same-itself t)

-- where they are equal
pub same-equals : {A : Type 0} (t u : Trace A) → t ≡ u → SameBy Same t u
same-equals t u e = subst (λ (x : Trace _). SameBy Same t x) e (same-itself t)

pub same-one : {A B : Type 0} (R : A → B → Type 0) (x : A) (y : B) → R x y → SameBy R (one x) (one y)
same-one R x y r = same_answer r (same_end Done)

-- a wider relation between the answers
pub same-map : {A B : Type 0} (R S : A → B → Type 0) → ((x : A) (y : B) → R x y → S x y) → (t : Trace A) (u : Trace B) → SameBy R t u → SameBy S t u
same-map R S g _ _ (same_end e) = same_end e
same-map R S g _ _ (same_note n {t = t} {u = u} a) = same_note n (same-map R S g t u a)
same-map R S g _ _ (same_answer {x = x} {y = y} {t = t} {u = u} r a) = same_answer (g x y r) (same-map R S g t u a)

pub same-alt : {A B : Type 0} (R : A → B → Type 0) (t : Trace A) (t' : Trace B) (u : Trace A) (u' : Trace B) → SameBy R t t' → SameBy R u u' → SameBy R (alt t u) (alt t' u')
unfolding alt
same-alt R _ _ u u' (same_end Done) b = b
same-alt R _ _ u u' (same_end e) b = same_end e
same-alt R _ _ u u' (same_note n {t = t} {u = t'} a) b = same_note n (same-alt R t t' u u' a b)
same-alt R _ _ u u' (same_answer {t = t} {u = t'} r a) b = same_answer r (same-alt R t t' u u' a b)

pub same-then : {A B C D : Type 0} (R : A → B → Type 0) (S : C → D → Type 0) (t : Trace A) (t' : Trace B) (f : A → Trace C) (g : B → Trace D) →
    SameBy R t t' → ((x : A) (y : B) → R x y → SameBy S (f x) (g y)) → SameBy S (then t f) (then t' g)
unfolding then
same-then R S _ _ f g (same_end e) b = same_end e
same-then R S _ _ f g (same_note n {t = t} {u = t'} a) b = same_note n (same-then R S t t' f g a b)
same-then R S _ _ f g (same_answer {x = x} {y = y} {t = t} {u = t'} r a) b = same-alt S (f x) (g y) (then t f) (then t' g) (b x y r) (same-then R S t t' f g a b)

pub same-first : {A B : Type 0} (R : A → B → Type 0) (t : Trace A) (t' : Trace B) → SameBy R t t' → SameBy R (first t) (first t')
unfolding first
same-first R _ _ (same_end e) = same_end e
same-first R _ _ (same_note n {t = t} {u = t'} a) = same_note n (same-first R t t' a)
same-first R _ _ (same_answer {x = x} {y = y} r a) = same-one R x y r

pub same-negated : {A B C D : Type 0} (R : A → B → Type 0) (S : C → D → Type 0) (t : Trace A) (t' : Trace B) (x : C) (y : D) → SameBy R t t' → S x y → SameBy S (negated t x) (negated t' y)
unfolding negated
same-negated R S _ _ x y (same_end Done) s = same-one S x y s
same-negated R S _ _ x y (same_end e) s = same_end e
same-negated R S _ _ x y (same_note n {t = t} {u = t'} a) s = same_note n (same-negated R S t t' x y a s)
same-negated R S _ _ x y (same_answer r a) s = same_end Done

pub same-chosen : {A B C D : Type 0} (R : A → B → Type 0) (S : C → D → Type 0) (t : Trace A) (t' : Trace B) (f : A → Trace C) (g : B → Trace D) (u : Trace C) (u' : Trace D) →
    SameBy R t t' → ((x : A) (y : B) → R x y → SameBy S (f x) (g y)) → SameBy S u u' → SameBy S (chosen t f u) (chosen t' g u')
unfolding chosen
same-chosen R S _ _ f g u u' (same_end Done) b c = c
same-chosen R S _ _ f g u u' (same_end e) b c = same_end e
same-chosen R S _ _ f g u u' (same_note n {t = t} {u = t'} a) b c = same_note n (same-chosen R S t t' f g u u' a b c)
same-chosen R S _ _ f g u u' (same_answer {x = x} {y = y} r a) b c = b x y r

pub same-collected : {A C D : Type 0} (S : C → D → Type 0) (t t' : Trace A) (f : List A → Trace C) (g : List A → Trace D) →
    SameBy Same t t' → ((xs : List A) → SameBy S (f xs) (g xs)) → SameBy S (collected t (λ x. x) f) (collected t' (λ x. x) g)
unfolding collected
same-collected S _ _ f g (same_end Done) b = b []
same-collected S _ _ f g (same_end e) b = same_end e
same-collected S _ _ f g (same_note n {t = t} {u = t'} a) b = same_note n (same-collected S t t' f g a b)
same-collected S _ _ f g (same_answer {t = t} {u = t'} (same x) a) b = same-collected S t t' (λ xs. f (x ∷ xs)) (λ xs. g (x ∷ xs)) a (λ xs. b (x ∷ xs))

pub same-counted : {A B C D : Type 0} (R : A → B → Type 0) (S : C → D → Type 0) (t : Trace A) (t' : Trace B) (f : ℕ → Trace C) (g : ℕ → Trace D) →
    SameBy R t t' → ((k : ℕ) → SameBy S (f k) (g k)) → SameBy S (counted t f) (counted t' g)
unfolding counted
same-counted R S _ _ f g (same_end Done) b = b 0
same-counted R S _ _ f g (same_end e) b = same_end e
same-counted R S _ _ f g (same_note n {t = t} {u = t'} a) b = same_note n (same-counted R S t t' f g a b)
same-counted R S _ _ f g (same_answer {t = t} {u = t'} r a) b = same-counted R S t t' (λ k. f (suc k)) (λ k. g (suc k)) a (λ k. b (suc k))

pub same-caught : {A B : Type 0} (R : A → B → Type 0) (t : Trace A) (t' : Trace B) (f : Tree → Trace A) (g : Tree → Trace B) →
    SameBy R t t' → ((ball : Tree) → SameBy R (f ball) (g ball)) → SameBy R (caught t f) (caught t' g)
unfolding caught
same-caught R _ _ f g (same_end (Raise ball)) b = b ball
same-caught R _ _ f g (same_end e) b = same_end e
same-caught R _ _ f g (same_note n {t = t} {u = t'} a) b = same_note n (same-caught R t t' f g a b)
same-caught R _ _ f g (same_answer {t = t} {u = t'} r a) b = same_answer r (same-caught R t t' f g a b)

answers-same : {A : Type 0} (x y : A) (t u : Trace A) → Same x y → t ≡ u → ans x t ≡ ans y u
answers-same _ _ t u (same x) e = ap (ans x) e

pub same-equal : {A : Type 0} (t u : Trace A) → SameBy Same t u → t ≡ u
same-equal _ _ (same_end e) = refl
same-equal _ _ (same_note n {t = t} {u = u} a) = ap (note n) (same-equal t u a)
same-equal _ _ (same_answer {x = x} {y = y} {t = t} {u = u} r a) = answers-same x y t u r (same-equal t u a)

-- what follows the same answers
follow-same : {A C D : Type 0} (S : C → D → Type 0) (f : A → Trace C) (g : A → Trace D) → ((x : A) → SameBy S (f x) (g x)) → (x y : A) → Same x y → SameBy S (f x) (g y)
follow-same S f g b _ _ (same x) = b x

pub same-then_same : {A C D : Type 0} (S : C → D → Type 0) (t t' : Trace A) (f : A → Trace C) (g : A → Trace D) →
    t ≡ t' → ((x : A) → SameBy S (f x) (g x)) → SameBy S (then t f) (then t' g)
same-then_same S t t' f g e b = same-then Same S t t' f g (same-equals t t' e) (follow-same S f g b)

-- with what holds of each answer of one of them
pub same-each : {A B : Type 0} (R : A → B → Type 0) (P : B → Type 0) (t : Trace A) (u : Trace B) → SameBy R t u → EachAnswer P u → SameBy (λ x y. R x y × P y) t u
unfolding EachAnswer
same-each R P _ _ (same_end e) each = same_end e
same-each R P _ _ (same_note n {t = t} {u = u} a) each = same_note n (same-each R P t u a each)
same-each R P _ _ (same_answer {x = x} {y = y} {t = t} {u = u} r a) each = same_answer (r, each.0) (same-each R P t u a each.1)

pub same-each-left : {A B : Type 0} (R : A → B → Type 0) (P : A → Type 0) (t : Trace A) (u : Trace B) → SameBy R t u → EachAnswer P t → SameBy (λ x y. R x y × P x) t u
unfolding EachAnswer
same-each-left R P _ _ (same_end e) each = same_end e
same-each-left R P _ _ (same_note n {t = t} {u = u} a) each = same_note n (same-each-left R P t u a each)
same-each-left R P _ _ (same_answer {x = x} {y = y} {t = t} {u = u} r a) each = same_answer (r, each.0) (same-each-left R P t u a each.1)
