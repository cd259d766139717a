-- Traces that agree but for their answers: one is the other, with answers that stand in a relation to those there, save
-- that where the first ends in Deep the second may go on.
use Rattle.pi_traces.specs.Trace.{Trace, end, note, ans, End, Deep, Note}

pub data BelowBy {A B : Type 0} (R : A → B → Type 0) : Trace A → Trace B → Type 0 where
  deeper_by : (u : Trace B) → BelowBy R (end Deep) u
  end_by : (e : End) → BelowBy R (end e) (end e)
  note_by : (n : Note) {t : Trace A} {u : Trace B} → BelowBy R t u → BelowBy R (note n t) (note n u)
  answer_by : {x : A} {y : B} {t : Trace A} {u : Trace B} → R x y → BelowBy R t u → BelowBy R (ans x t) (ans y u)
