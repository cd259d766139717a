-- Traces: all that a goal does, in order, and how it ends. A trace is a list of successes in which steps and output
-- stand too. Traces are this project's own.
use Rattle.std.specs.Prelude.{◌≢◌, ℕ, suc, ℤ, Bool, List, [], ◌∷◌}
use Rattle.pi_terms.specs.Tree.{Tree}

-- a planner call: whether a best plan is wanted, the state to start from, the limit
pub record Call : Type 0 where
  pub best : Bool
  pub start : Tree
  pub limit : ℤ

-- how a trace ends: there are no more answers; an exception; an exception that no `catch` catches; the answer of a
-- planner call is missing; the depth doesn't reach further
pub data End : Type 0 where
  Done : End
  Raise : Tree → End
  Abort : Tree → End
  Miss : Call → End
  Deep : End

-- what a trace holds besides answers: a step that is counted, a propagation with its load, a text that is written
pub data Note : Type 0 where
  Tick : Note
  Load : ℕ → Note
  Out : List ℕ → Note

-- an end, or a note or an answer and the trace after it
pub data Trace (A : Type 0) : Type 0 where
  end : End → Trace A
  note : Note → Trace A → Trace A
  ans : A → Trace A → Trace A

-- the empty trace, which is the trace of a goal that fails
abbrev pub done : {A : Type 0} → Trace A
done = end Done

-- the trace of one answer
abbrev pub one : {A : Type 0} → A → Trace A
one x = ans x done

-- a trace, and another one after it where it is done
unfoldable pub alt : {A : Type 0} → Trace A → Trace A → Trace A
alt (end Done) u = u
alt (end e) u = end e
alt (note n t) u = note n (alt t u)
alt (ans x t) u = ans x (alt t u)

-- the trace that follows each answer, in the answer's place; the first end other than Done ends the whole
unfoldable pub then : {A B : Type 0} → Trace A → (A → Trace B) → Trace B
then (end e) f = end e
then (note n t) f = note n (then t f)
then (ans x t) f = alt (f x) (then t f)

-- a trace up to and with its first answer; all of it where it has none
unfoldable pub first : {A : Type 0} → Trace A → Trace A
first (end e) = end e
first (note n t) = note n (first t)
first (ans x t) = one x

-- how it ends
unfoldable pub end_of : {A : Type 0} → Trace A → End
end_of (end e) = e
end_of (note n t) = end_of t
end_of (ans x t) = end_of t

-- the depth reaches to its end
abbrev pub WithoutDeep : {A : Type 0} → Trace A → Type 0
WithoutDeep t = end_of t ≢ Deep

-- its answers
unfoldable pub answers : {A : Type 0} → Trace A → List A
answers (end e) = []
answers (note n t) = answers t
answers (ans x t) = x ∷ answers t

-- a note or an answer
pub data Emitted (A : Type 0) : Type 0 where
  noted : Note → Emitted A
  answered : A → Emitted A

-- events, and a trace after them
unfoldable pub emit : {A : Type 0} → List (Emitted A) → Trace A → Trace A
emit [] t = t
emit (noted n ∷ events) t = note n (emit events t)
emit (answered x ∷ events) t = ans x (emit events t)

-- a trace's events
unfoldable pub events_of : {A : Type 0} → Trace A → List (Emitted A)
events_of (end e) = []
events_of (note n t) = noted n ∷ events_of t
events_of (ans x t) = answered x ∷ events_of t

-- how many of them are Ticks
unfoldable pub count_ticks : {A : Type 0} → List (Emitted A) → ℕ
count_ticks [] = 0
count_ticks (noted Tick ∷ events) = suc (count_ticks events)
count_ticks (event ∷ events) = count_ticks events

abbrev pub ticks : {A : Type 0} → Trace A → ℕ
ticks t = count_ticks (events_of t)
