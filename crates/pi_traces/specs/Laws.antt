-- The laws of traces, each for every type of answers.
use Rattle.std.specs.Prelude.{◌≡◌, ◌≢◌, ◌≤◌, ℕ, List, [], ◌++◌, ◌+◌, map, length}
use Rattle.pi_terms.specs.Tree.{Tree}
use Rattle.pi_traces.specs.Trace.{Trace, end, note, ans, End, Done, Raise, Note, Tick, Emitted, noted, done, one, alt, then, first, end_of, WithoutDeep, answers, emit, events_of, count_ticks, ticks}
use Rattle.pi_traces.specs.Control.{negated, chosen, collected, counted, caught}
use Rattle.pi_traces.specs.Depth.{Below, BelowAfter, DepthOnlyAdds, Stop, Ended, Spent, with_events, cut, CutWithoutDeep}

-- A trace is a list of events and an end, and alternatives go on behind the end.

abbrev pub TraceIsEventsAndEnd : Type 0 → Type 0
TraceIsEventsAndEnd A = (t : Trace A) → t ≡ emit (events_of t) (end (end_of t))

abbrev pub AltGoesOnWhereDone : Type 0 → Type 0
AltGoesOnWhereDone A = (t u : Trace A) → end_of t ≡ Done → alt t u ≡ emit (events_of t) u

abbrev pub AltIsTheFirstElse : Type 0 → Type 0
AltIsTheFirstElse A = (t u : Trace A) → end_of t ≢ Done → alt t u ≡ t

-- Alternatives and what follows are a monad with choice.

abbrev pub DoneBeforeAddsNothing : Type 0 → Type 0
DoneBeforeAddsNothing A = (t : Trace A) → alt done t ≡ t

abbrev pub DoneAfterAddsNothing : Type 0 → Type 0
DoneAfterAddsNothing A = (t : Trace A) → alt t done ≡ t

abbrev pub AltIsAssociative : Type 0 → Type 0
AltIsAssociative A = (t u v : Trace A) → alt (alt t u) v ≡ alt t (alt u v)

abbrev pub ThenOfOneIsWhatFollows : Type 0 → Type 0 → Type 0
ThenOfOneIsWhatFollows A B = (x : A) (f : A → Trace B) → then (one x) f ≡ f x

abbrev pub ThenOneAddsNothing : Type 0 → Type 0
ThenOneAddsNothing A = (t : Trace A) → then t (λ x. one x) ≡ t

abbrev pub ThenIsAssociative : Type 0 → Type 0 → Type 0 → Type 0
ThenIsAssociative A B C = (t : Trace A) (f : A → Trace B) (g : B → Trace C) → then (then t f) g ≡ then t (λ x. then (f x) g)

abbrev pub ThenGoesOverAlt : Type 0 → Type 0 → Type 0
ThenGoesOverAlt A B = (t u : Trace A) (f : A → Trace B) → then (alt t u) f ≡ alt (then t f) (then u f)

-- What follows, at each thing that a trace can begin with: an end stays, a note stays in front, and in place of an answer
-- stands what follows it.

abbrev pub ThenAtAnEnd : Type 0 → Type 0 → Type 0
ThenAtAnEnd A B = (e : End) (f : A → Trace B) → then (end e) f ≡ end e

abbrev pub ThenAtANote : Type 0 → Type 0 → Type 0
ThenAtANote A B = (n : Note) (t : Trace A) (f : A → Trace B) → then (note n t) f ≡ note n (then t f)

abbrev pub ThenAtAnAnswer : Type 0 → Type 0 → Type 0
ThenAtAnAnswer A B = (x : A) (t : Trace A) (f : A → Trace B) → then (ans x t) f ≡ alt (f x) (then t f)

-- what stands in front stays there: notes, and before an alternative answers too
abbrev pub ThenKeepsNotes : Type 0 → Type 0 → Type 0
ThenKeepsNotes A B = (notes : List Note) (t : Trace A) (f : A → Trace B) →
    then (emit (map noted notes) t) f ≡ emit (map noted notes) (then t f)

abbrev pub AltKeepsEvents : Type 0 → Type 0
AltKeepsEvents A = (events : List (Emitted A)) (t u : Trace A) → alt (emit events t) u ≡ emit events (alt t u)

-- What the control forms are.

abbrev pub FirstHasNoOther : Type 0 → Type 0
FirstHasNoOther A = (t : Trace A) → first (first t) ≡ first t

abbrev pub FirstStopsAtAnAnswer : Type 0 → Type 0
FirstStopsAtAnAnswer A = (notes : List Note) (x : A) (t : Trace A) → first (emit (map noted notes) (ans x t)) ≡ emit (map noted notes) (one x)

abbrev pub FirstIsAllWithoutAnswers : Type 0 → Type 0
FirstIsAllWithoutAnswers A = (t : Trace A) → answers t ≡ [] → first t ≡ t

-- where there is an answer, `if` is its first answer and what follows
abbrev pub ChosenIsThen : Type 0 → Type 0 → Type 0
ChosenIsThen A B = (t : Trace A) (f : A → Trace B) (u : Trace B) → answers t ≢ [] → chosen t f u ≡ then (first t) f

-- where there is none, it is the condition's trace and after it the other one
abbrev pub ChosenIsElse : Type 0 → Type 0 → Type 0
ChosenIsElse A B = (t : Trace A) (f : A → Trace B) (u : Trace B) → answers t ≡ [] → chosen t f u ≡ alt (then t f) u

-- `not` is an `if` that fails where there is an answer
abbrev pub NegatedIsChosen : Type 0 → Type 0 → Type 0
NegatedIsChosen A B = (t : Trace A) (y : B) → negated t y ≡ chosen t (λ x. done) (one y)

-- `find_all` is the trace without its answers, and after it what follows the list of their values
abbrev pub CollectedIsTheList : Type 0 → Type 0 → Type 0 → Type 0
CollectedIsTheList A B C = (t : Trace A) (value : A → B) (f : List B → Trace C) →
    collected t value f ≡ alt (then t (λ x. done)) (f (map value (answers t)))

abbrev pub CountedIsTheLength : Type 0 → Type 0 → Type 0
CountedIsTheLength A B = (t : Trace A) (f : ℕ → Trace B) → counted t f ≡ alt (then t (λ x. done)) (f (length (answers t)))

-- `catch` goes on after an exception, and leaves a trace that ends in another way as it is
abbrev pub CaughtGoesOn : Type 0 → Type 0
CaughtGoesOn A = (events : List (Emitted A)) (ball : Tree) (f : Tree → Trace A) → caught (emit events (end (Raise ball))) f ≡ emit events (f ball)

abbrev pub CaughtIsTheRest : Type 0 → Type 0
CaughtIsTheRest A = (t : Trace A) (f : Tree → Trace A) → ((ball : Tree) → end_of t ≢ Raise ball) → caught t f ≡ t

abbrev pub CaughtKeepsEvents : Type 0 → Type 0
CaughtKeepsEvents A = (events : List (Emitted A)) (t : Trace A) (f : Tree → Trace A) → caught (emit events t) f ≡ emit events (caught t f)

-- What follows a `catch` stands outside of it. Where what follows one of its answers raises, and what follows the answers
-- before that one is done, the whole ends there: with the events so far, and in that exception, which the handler never
-- sees.
abbrev pub RaiseBehindIsNotCaught : Type 0 → Type 0 → Type 0
RaiseBehindIsNotCaught A B = (events : List (Emitted A)) (x : A) (t : Trace A) (handler : Tree → Trace A) (f : A → Trace B) (ball : Tree) →
    end_of (then (emit events done) f) ≡ Done → end_of (f x) ≡ Raise ball →
    then (caught (emit events (ans x t)) handler) f ≡ emit (events_of (then (emit events done) f)) (f x)

-- where the trace in it doesn't raise, a `catch` is as if it were not there, whatever raises behind it
abbrev pub CatchWithoutRaiseIsNone : Type 0 → Type 0 → Type 0
CatchWithoutRaiseIsNone A B = (t : Trace A) (handler : Tree → Trace A) (f : A → Trace B) → ((ball : Tree) → end_of t ≢ Raise ball) →
    then (caught t handler) f ≡ then t f

-- where it does, what follows its answers comes first, and then what follows those of the handler
abbrev pub CaughtRaiseIsFollowed : Type 0 → Type 0 → Type 0
CaughtRaiseIsFollowed A B = (events : List (Emitted A)) (ball : Tree) (handler : Tree → Trace A) (f : A → Trace B) →
    then (caught (emit events (end (Raise ball))) handler) f ≡ alt (then (emit events done) f) (then (handler ball) f)

-- What the control forms make of alternatives: `first`, `not` and `if` go on with the second trace where the first one has
-- no answer, `find_all` and `count_all` go on with what they have so far.

abbrev pub FirstOverAlt : Type 0 → Type 0
FirstOverAlt A = (t u : Trace A) → first (alt t u) ≡ chosen t (λ x. one x) (first u)

abbrev pub NegatedOverAlt : Type 0 → Type 0 → Type 0
NegatedOverAlt A B = (t u : Trace A) (y : B) → negated (alt t u) y ≡ chosen t (λ x. done) (negated u y)

abbrev pub ChosenOverAlt : Type 0 → Type 0 → Type 0
ChosenOverAlt A B = (t u : Trace A) (f : A → Trace B) (v : Trace B) → chosen (alt t u) f v ≡ chosen t f (chosen u f v)

abbrev pub CollectedOverAlt : Type 0 → Type 0 → Type 0 → Type 0
CollectedOverAlt A B C = (t u : Trace A) (value : A → B) (f : List B → Trace C) →
    collected (alt t u) value f ≡ collected t value (λ front. collected u value (λ back. f (front ++ back)))

abbrev pub CountedOverAlt : Type 0 → Type 0 → Type 0
CountedOverAlt A B = (t u : Trace A) (f : ℕ → Trace B) → counted (alt t u) f ≡ counted t (λ j. counted u (λ k. f (j + k)))

abbrev pub CaughtOverAlt : Type 0 → Type 0
CaughtOverAlt A = (t u : Trace A) (f : Tree → Trace A) → end_of t ≡ Done → caught (alt t u) f ≡ alt t (caught u f)

-- More depth only adds.

abbrev pub BelowIsReflexive : Type 0 → Type 0
BelowIsReflexive A = (t : Trace A) → Below t t

abbrev pub BelowIsTransitive : Type 0 → Type 0
BelowIsTransitive A = (t u v : Trace A) → Below t u → Below u v → Below t v

abbrev pub BelowIsAntisymmetric : Type 0 → Type 0
BelowIsAntisymmetric A = (t u : Trace A) → Below t u → Below u t → t ≡ u

abbrev pub WithoutDeepNothingIsAdded : Type 0 → Type 0
WithoutDeepNothingIsAdded A = (t u : Trace A) → Below t u → WithoutDeep t → t ≡ u

-- a trace without Deep is the same at each greater depth
abbrev pub DepthIsEnough : Type 0 → Type 0
DepthIsEnough A = (trace : ℕ → Trace A) → DepthOnlyAdds trace → (depth more : ℕ) → WithoutDeep (trace depth) →
    trace depth ≡ trace (depth + more)

abbrev pub AltKeepsBelow : Type 0 → Type 0
AltKeepsBelow A = (t t' u u' : Trace A) → Below t t' → Below u u' → Below (alt t u) (alt t' u')

abbrev pub ThenKeepsBelow : Type 0 → Type 0 → Type 0
ThenKeepsBelow A B = (t t' : Trace A) (f f' : A → Trace B) → Below t t' → BelowAfter f f' → Below (then t f) (then t' f')

abbrev pub FirstKeepsBelow : Type 0 → Type 0
FirstKeepsBelow A = (t t' : Trace A) → Below t t' → Below (first t) (first t')

abbrev pub NegatedKeepsBelow : Type 0 → Type 0 → Type 0
NegatedKeepsBelow A B = (t t' : Trace A) (y : B) → Below t t' → Below (negated t y) (negated t' y)

abbrev pub ChosenKeepsBelow : Type 0 → Type 0 → Type 0
ChosenKeepsBelow A B = (t t' : Trace A) (f f' : A → Trace B) (u u' : Trace B) → Below t t' → BelowAfter f f' → Below u u' →
    Below (chosen t f u) (chosen t' f' u')

abbrev pub CollectedKeepsBelow : Type 0 → Type 0 → Type 0 → Type 0
CollectedKeepsBelow A B C = (t t' : Trace A) (value : A → B) (f f' : List B → Trace C) → Below t t' → BelowAfter f f' →
    Below (collected t value f) (collected t' value f')

abbrev pub CountedKeepsBelow : Type 0 → Type 0 → Type 0
CountedKeepsBelow A B = (t t' : Trace A) (f f' : ℕ → Trace B) → Below t t' → BelowAfter f f' → Below (counted t f) (counted t' f')

abbrev pub CaughtKeepsBelow : Type 0 → Type 0
CaughtKeepsBelow A = (t t' : Trace A) (f f' : Tree → Trace A) → Below t t' → BelowAfter f f' → Below (caught t f) (caught t' f')

abbrev pub EmitKeepsBelow : Type 0 → Type 0
EmitKeepsBelow A = (events : List (Emitted A)) (t t' : Trace A) → Below t t' → Below (emit events t) (emit events t')

-- events that are known stay
abbrev pub BelowKeepsEvents : Type 0 → Type 0
BelowKeepsEvents A = (events : List (Emitted A)) (t u : Trace A) → Below (emit events t) u →
    (rest : Trace A) × (u ≡ emit events rest) × Below t rest

-- Events in front of a trace, and cuts.

abbrev pub EmitIsAssociative : Type 0 → Type 0
EmitIsAssociative A = (front back : List (Emitted A)) (t : Trace A) → emit (front ++ back) t ≡ emit front (emit back t)

-- what stands where a cut stops: the trace's end, or a Tick
abbrev pub StandsAt : {A : Type 0} → Stop → Trace A → Type 0
StandsAt (Ended e) rest = rest ≡ end e
StandsAt {A = A} Spent rest = (after : Trace A) × (rest ≡ note Tick after)

-- a trace is the events before a cut and then what stands there
abbrev pub CutIsAPrefix : Type 0 → Type 0
CutIsAPrefix A = (n : ℕ) (t : Trace A) → (rest : Trace A) × (t ≡ emit (cut n t).events rest) × StandsAt (cut n t).stop rest

-- a cut goes on behind events, with the Ticks that they leave
abbrev pub CutGoesOverEvents : Type 0 → Type 0
CutGoesOverEvents A = (events : List (Emitted A)) (n : ℕ) (t : Trace A) →
    cut (count_ticks events + n) (emit events t) ≡ with_events events (cut n t)

-- a cut at number n + 1 leaves n Ticks where there are more, and all where there aren't
abbrev pub CutStopsAtATick : Type 0 → Type 0
CutStopsAtATick A = (events : List (Emitted A)) (t : Trace A) →
    cut (count_ticks events) (emit events (note Tick t)) ≡ record { events = events; stop = Spent }

abbrev pub CutLeavesFewerTicks : Type 0 → Type 0
CutLeavesFewerTicks A = (n : ℕ) (t : Trace A) → ticks t ≤ n → cut n t ≡ record { events = events_of t; stop = Ended (end_of t) }

-- a trace is known by its cuts
abbrev pub CutsTellTraces : Type 0 → Type 0
CutsTellTraces A = (t u : Trace A) → ((n : ℕ) → cut n t ≡ cut n u) → t ≡ u

-- where the depth reaches to a cut, more depth leaves the cut as it is
abbrev pub BelowLeavesCuts : Type 0 → Type 0
BelowLeavesCuts A = (n : ℕ) (t u : Trace A) → Below t u → CutWithoutDeep n t → cut n t ≡ cut n u

-- all depths that reach to a cut have the same cut
abbrev pub DepthsAgree : Type 0 → Type 0
DepthsAgree A = (n : ℕ) (trace : ℕ → Trace A) → DepthOnlyAdds trace →
    (depth other : ℕ) → CutWithoutDeep n (trace depth) → CutWithoutDeep n (trace other) → cut n (trace depth) ≡ cut n (trace other)
