-- Traces that don't end in an exception that no `catch` catches: what is made of them doesn't either.
use Rattle.std.proofs.Common.{◌≡◌, ℕ, zero, suc, Bool, true, false, cond, List, [], ◌∷◌, Option, Some, None}
use Rattle.std.specs.Option.{option_or}
use Rattle.std.specs.Prelude.{option_map, ⊤}
use Rattle.pi_terms.specs.Tree.{Tree}
use Rattle.pi_traces.specs.Trace.{Trace, end, note, ans, Done, Raise, Abort, Miss, Deep, Tick, Load, Out, alt, then, first}
use Rattle.pi_traces.specs.Control.{negated, chosen, collected, counted, caught}
use Rattle.pi_traces.specs.Depth.{cut, Ended}

-- it has no such end, and this holds of each of its answers
unfoldable pub NoAbort : {A : Type 0} → (A → Type 0) → Trace A → Type 0
NoAbort P (end (Abort ball)) = ⊥
NoAbort P (end e) = ⊤
NoAbort P (note n t) = NoAbort P t
NoAbort P (ans x t) = P x × NoAbort P t

abbrev pub Anything : {A : Type 0} → A → Type 0
Anything x = ⊤

-- what is given, if anything
unfoldable pub NoneAborts : {A : Type 0} → (A → Type 0) → Option (Trace A) → Type 0
NoneAborts P None = ⊤
NoneAborts P (Some t) = NoAbort P t

pub no-alt : {A : Type 0} (P : A → Type 0) (t u : Trace A) → NoAbort P t → NoAbort P u → NoAbort P (alt t u)
unfolding alt NoAbort
no-alt P (end Done) u a b = b
no-alt P (end (Raise ball)) u a b = tt
no-alt P (end (Abort ball)) u a b = absurd a
no-alt P (end (Miss call)) u a b = tt
no-alt P (end Deep) u a b = tt
no-alt P (note n t) u a b = no-alt P t u a b
no-alt P (ans x t) u a b = (a.0, no-alt P t u a.1 b)

pub no-then : {A B : Type 0} (P : A → Type 0) (Q : B → Type 0) (t : Trace A) (f : A → Trace B) → NoAbort P t → ((x : A) → P x → NoAbort Q (f x)) → NoAbort Q (then t f)
unfolding then NoAbort
no-then P Q (end Done) f a each = tt
no-then P Q (end (Raise ball)) f a each = tt
no-then P Q (end (Abort ball)) f a each = absurd a
no-then P Q (end (Miss call)) f a each = tt
no-then P Q (end Deep) f a each = tt
no-then P Q (note n t) f a each = no-then P Q t f a each
no-then P Q (ans x t) f a each = no-alt Q (f x) (then t f) (each x a.0) (no-then P Q t f a.1 each)

pub no-first : {A : Type 0} (P : A → Type 0) (t : Trace A) → NoAbort P t → NoAbort P (first t)
unfolding first NoAbort
no-first P (end Done) a = tt
no-first P (end (Raise ball)) a = tt
no-first P (end (Abort ball)) a = absurd a
no-first P (end (Miss call)) a = tt
no-first P (end Deep) a = tt
no-first P (note n t) a = no-first P t a
no-first P (ans x t) a = (a.0, tt)

pub no-negated : {A B : Type 0} (P : A → Type 0) (Q : B → Type 0) (t : Trace A) (y : B) → NoAbort P t → Q y → NoAbort Q (negated t y)
unfolding negated NoAbort
no-negated P Q (end Done) y a b = (b, tt)
no-negated P Q (end (Raise ball)) y a b = tt
no-negated P Q (end (Abort ball)) y a b = absurd a
no-negated P Q (end (Miss call)) y a b = tt
no-negated P Q (end Deep) y a b = tt
no-negated P Q (note n t) y a b = no-negated P Q t y a b
no-negated P Q (ans x t) y a b = tt

pub no-chosen : {A B : Type 0} (P : A → Type 0) (Q : B → Type 0) (t : Trace A) (f : A → Trace B) (u : Trace B) → NoAbort P t → ((x : A) → P x → NoAbort Q (f x)) → NoAbort Q u → NoAbort Q (chosen t f u)
unfolding chosen NoAbort
no-chosen P Q (end Done) f u a each b = b
no-chosen P Q (end (Raise ball)) f u a each b = tt
no-chosen P Q (end (Abort ball)) f u a each b = absurd a
no-chosen P Q (end (Miss call)) f u a each b = tt
no-chosen P Q (end Deep) f u a each b = tt
no-chosen P Q (note n t) f u a each b = no-chosen P Q t f u a each b
no-chosen P Q (ans x t) f u a each b = each x a.0

pub no-collected : {A B C : Type 0} (P : A → Type 0) (Q : C → Type 0) (t : Trace A) (value : A → B) (f : List B → Trace C) → NoAbort P t → ((values : List B) → NoAbort Q (f values)) → NoAbort Q (collected t value f)
unfolding collected NoAbort
no-collected P Q (end Done) value f a each = each []
no-collected P Q (end (Raise ball)) value f a each = tt
no-collected P Q (end (Abort ball)) value f a each = absurd a
no-collected P Q (end (Miss call)) value f a each = tt
no-collected P Q (end Deep) value f a each = tt
no-collected P Q (note n t) value f a each = no-collected P Q t value f a each
no-collected P Q (ans x t) value f a each = no-collected P Q t value (λ values. f (value x ∷ values)) a.1 (λ values. each (value x ∷ values))

pub no-counted : {A B : Type 0} (P : A → Type 0) (Q : B → Type 0) (t : Trace A) (f : ℕ → Trace B) → NoAbort P t → ((k : ℕ) → NoAbort Q (f k)) → NoAbort Q (counted t f)
unfolding counted NoAbort
no-counted P Q (end Done) f a each = each 0
no-counted P Q (end (Raise ball)) f a each = tt
no-counted P Q (end (Abort ball)) f a each = absurd a
no-counted P Q (end (Miss call)) f a each = tt
no-counted P Q (end Deep) f a each = tt
no-counted P Q (note n t) f a each = no-counted P Q t f a each
no-counted P Q (ans x t) f a each = no-counted P Q t (λ k. f (suc k)) a.1 (λ k. each (suc k))

pub no-caught : {A : Type 0} (P : A → Type 0) (t : Trace A) (f : Tree → Trace A) → NoAbort P t → ((ball : Tree) → NoAbort P (f ball)) → NoAbort P (caught t f)
unfolding caught NoAbort
no-caught P (end Done) f a each = tt
no-caught P (end (Raise ball)) f a each = each ball
no-caught P (end (Abort ball)) f a each = absurd a
no-caught P (end (Miss call)) f a each = tt
no-caught P (end Deep) f a each = tt
no-caught P (note n t) f a each = no-caught P t f a each
no-caught P (ans x t) f a each = (a.0, no-caught P t f a.1 each)

-- ---- by cases

pub no-cond : {A : Type 0} (P : A → Type 0) (c : Bool) (t u : Trace A) → NoAbort P t → NoAbort P u → NoAbort P (cond c t u)
unfolding NoAbort
no-cond P true t u a b = a
no-cond P false t u a b = b

pub none-cond : {A : Type 0} (P : A → Type 0) (c : Bool) (t u : Option (Trace A)) → NoneAborts P t → NoneAborts P u → NoneAborts P (cond c t u)
unfolding NoneAborts
none-cond P true t u a b = a
none-cond P false t u a b = b

pub none-or : {A : Type 0} (P : A → Type 0) (t u : Option (Trace A)) → NoneAborts P t → NoneAborts P u → NoneAborts P (option_or t u)
unfolding NoneAborts
none-or P None u a b = b
none-or P (Some t) u a b = a

pub none-map : {A B : Type 0} (P : B → Type 0) (o : Option A) (f : A → Trace B) → ((x : A) → NoAbort P (f x)) → NoneAborts P (option_map f o)
unfolding NoneAborts NoAbort
none-map P None f each = tt
none-map P (Some x) f each = each x

pub none-some : {A : Type 0} (P : A → Type 0) (t : Trace A) → NoAbort P t → NoneAborts P (Some t)
unfolding NoneAborts NoAbort
none-some P t a = a

pub none-none : {A : Type 0} (P : A → Type 0) → NoneAborts P None
unfolding NoneAborts NoAbort
none-none P = tt

-- ---- a cut of it

pub no-abort-cut : {A : Type 0} (P : A → Type 0) (n : ℕ) (t : Trace A) (ball : Tree) → NoAbort P t → (cut n t).stop ≡ Ended (Abort ball) → ⊥
unfolding cut NoAbort
no-abort-cut P n (end (Abort other)) ball a is = absurd a
no-abort-cut P n (end Done) ball a is = cc
no-abort-cut P n (end (Raise other)) ball a is = cc
no-abort-cut P n (end (Miss call)) ball a is = cc
no-abort-cut P n (end Deep) ball a is = cc
no-abort-cut P zero (note Tick t) ball a is = cc
no-abort-cut P (suc n) (note Tick t) ball a is = no-abort-cut P n t ball a is
no-abort-cut P n (note (Load k) t) ball a is = no-abort-cut P n t ball a is
no-abort-cut P n (note (Out text) t) ball a is = no-abort-cut P n t ball a is
no-abort-cut P n (ans x t) ball a is = no-abort-cut P n t ball a.1 is
