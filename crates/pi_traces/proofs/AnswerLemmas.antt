-- What holds of each answer of a trace, and how the control forms keep it.
use Rattle.std.proofs.Common.{ℕ, suc, List, [], ◌∷◌}
use Rattle.std.specs.Prelude.{All, Contains, ⊤}
use Rattle.std.proofs.lemmas.List.Elements.{All-cons, All-nil, All-contains}
use Rattle.pi_terms.specs.Tree.{Tree}
use Rattle.pi_traces.specs.Trace.{Trace, end, note, ans, Done, Raise, one, alt, then, first, answers}
use Rattle.pi_traces.specs.Control.{negated, chosen, collected, counted, caught}

unfoldable pub EachAnswer : {A : Type 0} → (A → Type 0) → Trace A → Type 0
EachAnswer P (end e) = ⊤
EachAnswer P (note n t) = EachAnswer P t
EachAnswer P (ans x t) = P x × EachAnswer P t

all-answers : {A : Type 0} (P : A → Type 0) (t : Trace A) → EachAnswer P t → All P (answers t)
unfolding EachAnswer answers
all-answers P (end e) h = All-nil P
all-answers P (note n t) h = all-answers P t h
all-answers P (ans x t) h = All-cons P x (answers t) h.0 (all-answers P t h.1)

pub each-contained : {A : Type 0} (P : A → Type 0) (t : Trace A) → EachAnswer P t → (x : A) → Contains (answers t) x → P x
each-contained P t h x within = All-contains P (answers t) x (all-answers P t h) within

pub each-map : {A : Type 0} (P Q : A → Type 0) → ((x : A) → P x → Q x) → (t : Trace A) → EachAnswer P t → EachAnswer Q t
unfolding EachAnswer
each-map P Q f (end e) h = tt
each-map P Q f (note n t) h = each-map P Q f t h
each-map P Q f (ans x t) h = (f x h.0, each-map P Q f t h.1)

pub each-one : {A : Type 0} (P : A → Type 0) (x : A) → P x → EachAnswer P (one x)
unfolding EachAnswer
each-one P x h = (h, tt)

pub each-alt : {A : Type 0} (P : A → Type 0) (t u : Trace A) → EachAnswer P t → EachAnswer P u → EachAnswer P (alt t u)
unfolding EachAnswer alt
each-alt P (end Done) u a b = b
each-alt P (end e) u a b = tt
each-alt P (note n t) u a b = each-alt P t u a b
each-alt P (ans x t) u a b = (a.0, each-alt P t u a.1 b)

pub each-then : {A B : Type 0} (P : A → Type 0) (Q : B → Type 0) (t : Trace A) (f : A → Trace B) → EachAnswer P t → ((x : A) → P x → EachAnswer Q (f x)) → EachAnswer Q (then t f)
unfolding EachAnswer then
each-then P Q (end e) f a b = tt
each-then P Q (note n t) f a b = each-then P Q t f a b
each-then P Q (ans x t) f a b = each-alt Q (f x) (then t f) (b x a.0) (each-then P Q t f a.1 b)

pub each-first : {A : Type 0} (P : A → Type 0) (t : Trace A) → EachAnswer P t → EachAnswer P (first t)
unfolding EachAnswer first
each-first P (end e) a = tt
each-first P (note n t) a = each-first P t a
each-first P (ans x t) a = (a.0, tt)

pub each-negated : {A B : Type 0} (Q : B → Type 0) (t : Trace A) (y : B) → Q y → EachAnswer Q (negated t y)
unfolding EachAnswer negated
each-negated Q (end Done) y b = (b, tt)
each-negated Q (end e) y b = tt
each-negated Q (note n t) y b = each-negated Q t y b
each-negated Q (ans x t) y b = tt

pub each-chosen : {A B : Type 0} (P : A → Type 0) (Q : B → Type 0) (t : Trace A) (f : A → Trace B) (u : Trace B) →
    EachAnswer P t → ((x : A) → P x → EachAnswer Q (f x)) → EachAnswer Q u → EachAnswer Q (chosen t f u)
unfolding EachAnswer chosen
each-chosen P Q (end Done) f u a b c = c
each-chosen P Q (end e) f u a b c = tt
each-chosen P Q (note n t) f u a b c = each-chosen P Q t f u a b c
each-chosen P Q (ans x t) f u a b c = b x a.0

pub each-collected : {A B C : Type 0} (Q : C → Type 0) (t : Trace A) (value : A → B) (f : List B → Trace C) → ((ys : List B) → EachAnswer Q (f ys)) → EachAnswer Q (collected t value f)
unfolding EachAnswer collected
each-collected Q (end Done) value f b = b []
each-collected Q (end e) value f b = tt
each-collected Q (note n t) value f b = each-collected Q t value f b
each-collected Q (ans x t) value f b = each-collected Q t value (λ ys. f (value x ∷ ys)) (λ ys. b (value x ∷ ys))

pub each-counted : {A B : Type 0} (Q : B → Type 0) (t : Trace A) (f : ℕ → Trace B) → ((n : ℕ) → EachAnswer Q (f n)) → EachAnswer Q (counted t f)
unfolding EachAnswer counted
each-counted Q (end Done) f b = b 0
each-counted Q (end e) f b = tt
each-counted Q (note n t) f b = each-counted Q t f b
each-counted Q (ans x t) f b = each-counted Q t (λ n. f (suc n)) (λ n. b (suc n))

pub each-caught : {A : Type 0} (P : A → Type 0) (t : Trace A) (f : Tree → Trace A) → EachAnswer P t → ((ball : Tree) → EachAnswer P (f ball)) → EachAnswer P (caught t f)
unfolding EachAnswer caught
each-caught P (end (Raise ball)) f a b = b ball
each-caught P (end e) f a b = tt
each-caught P (note n t) f a b = each-caught P t f a b
each-caught P (ans x t) f a b = (a.0, each-caught P t f a.1 b)
