-- What holds of the answers of a trace, and of each answer and those behind it.
use Rattle.std.specs.Prelude.{ℕ, zero, suc, All, AllPairs, ⊤}
use Rattle.std.proofs.Common.{arith}
use Rattle.std.proofs.lemmas.List.Elements.{All-cons}
use Rattle.std.proofs.lemmas.List.Kept.{AllPairs-cons}
use Rattle.pi_traces.specs.Trace.{Trace, end, note, ans, Done, alt, answers}
use Rattle.pi_settling.specs.Settled.{loaded}

unfoldable pub EachAnswer : {A : Type 0} → (A → Type 0) → Trace A → Type 0
EachAnswer P (end e) = ⊤
EachAnswer P (note n t) = EachAnswer P t
EachAnswer P (ans r t) = P r × EachAnswer P t

unfoldable pub InOrder : {A : Type 0} → (A → A → Type 0) → Trace A → Type 0
InOrder R (end e) = ⊤
InOrder R (note n t) = InOrder R t
InOrder R (ans r t) = EachAnswer (R r) t × InOrder R t

pub each-all : {A : Type 0} (P : A → Type 0) (t : Trace A) → EachAnswer P t → All P (answers t)
unfolding EachAnswer answers
each-all P (end e) h = λ k d l. absurd (omega arith)
each-all P (note n t) h = each-all P t h
each-all P (ans r t) h = All-cons P r (answers t) h.0 (each-all P t h.1)

pub order-all : {A : Type 0} (R : A → A → Type 0) (t : Trace A) → InOrder R t → AllPairs R (answers t)
unfolding InOrder answers
order-all R (end e) h = λ i j d l m. absurd (omega arith)
order-all R (note n t) h = order-all R t h
order-all R (ans r t) h = AllPairs-cons R r (answers t) (each-all (R r) t h.0) (order-all R t h.1)

pub each-more : {A : Type 0} (P Q : A → Type 0) (t : Trace A) → ((r : A) → P r → Q r) → EachAnswer P t → EachAnswer Q t
unfolding EachAnswer
each-more P Q (end e) f h = tt
each-more P Q (note n t) f h = each-more P Q t f h
each-more P Q (ans r t) f h = (f r h.0, each-more P Q t f h.1)

pub each-alt : {A : Type 0} (P : A → Type 0) (t u : Trace A) → EachAnswer P t → EachAnswer P u → EachAnswer P (alt t u)
unfolding EachAnswer alt
each-alt P (end Done) u h k = k
each-alt P (end e) u h k = tt
each-alt P (note n t) u h k = each-alt P t u h k
each-alt P (ans r t) u h k = (h.0, each-alt P t u h.1 k)

pub order-alt : {A : Type 0} (R : A → A → Type 0) (P : A → Type 0) (t u : Trace A) → InOrder R t → InOrder R u → EachAnswer P t → ((r : A) → P r → EachAnswer (R r) u) → InOrder R (alt t u)
unfolding EachAnswer InOrder alt
order-alt R P (end Done) u h k p cross = k
order-alt R P (end e) u h k p cross = tt
order-alt R P (note n t) u h k p cross = order-alt R P t u h k p cross
order-alt R P (ans r t) u h k p cross = (each-alt (R r) t u h.0 (cross r p.0), order-alt R P t u h.1 k p.1 cross)

pub each-loaded : {A : Type 0} (P : A → Type 0) (k : ℕ) (t : Trace A) → EachAnswer P t → EachAnswer P (loaded k t)
unfolding EachAnswer loaded
each-loaded P zero t h = h
each-loaded P (suc k) t h = h

pub order-loaded : {A : Type 0} (R : A → A → Type 0) (k : ℕ) (t : Trace A) → InOrder R t → InOrder R (loaded k t)
unfolding InOrder loaded
order-loaded R zero t h = h
order-loaded R (suc k) t h = h
