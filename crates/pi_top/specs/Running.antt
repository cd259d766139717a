-- A query that is being run: what is written of it so far, and what it comes to. Here it is a query of the core language, whose run is
-- that of the goal over its names.
use Rattle.std.specs.Prelude.{◌≡◌, ◌<◌, ◌≤◌, ℕ, List, [], ◌∷◌, ◌++◌, Result, Ok, Err}
use Rattle.pi_outside.specs.Writes.{SinkWrite}
use Rattle.pi_core.specs.CoreTree.{PredTree, QueryTree}
use Rattle.pi_core.specs.declared.core_program.NameSlot.{NameSlot}
use Rattle.pi_traces.specs.Trace.{Tick, Load, Out, Emitted, noted, answered}
use Rattle.pi_traces.specs.Depth.{Cut}
use Rattle.pi_meaning.specs.Shared.View.{query_view}
use Rattle.pi_meaning.specs.CoreMeaning.Run.{Solution, IsRun}
use Rattle.pi_meaning.specs.Shared.Told.{answer_of}
use Rattle.pi_print_terms.specs.PrintAnswer.{answer_lines}
use Rattle.pi_meaning.specs.declared.happening.Budget.{Budget}
use Rattle.pi_meaning.specs.declared.happening.Happening.{Happening}
use Rattle.pi_meaning.specs.declared.happening.Mode.{Mode}
use Rattle.pi_meaning.specs.Machine.Budget.{IsWithin}
use Rattle.pi_meaning.specs.Machine.Built.{IsRunnable}
use Rattle.pi_engine.specs.Seen.{MachineView, mode_of, end_of, GoesOn}
use Rattle.pi_engine.specs.Happens.{Happens, IsBuiltSoFar, lasting}
use Rattle.pi_engine.specs.Runs.{RunsTo}
use Rattle.pi_top.specs.declared.manner.Lines.{Lines}
use Rattle.pi_top.specs.declared.runs.QueryRun.{QueryRun}
use Rattle.pi_top.specs.declared.query.Stop.{Stop}
use Rattle.pi_top.specs.declared.query.Stop.TheVariants.{Memory}
use Rattle.pi_top.specs.Stops.{status_of_stop}
use Rattle.pi_top.specs.Handing.{HandsAll, FailsIn}
use Rattle.pi_top.specs.Prefix.{IsPrefix}
use Rattle.pi_top.specs.QueryEnd.{QueryEnd, status_of, count_answers, EndsWithLast, Ends}
use Rattle.pi_top.specs.QueryWords.{ToldQuery, AskedQuery}
use Rattle.pi_top.specs.Runs.{no_work, run_of}
use Rattle.pi_top.specs.ToldLines.{where_told, end_lines}
use Rattle.pi_top.specs.Took.{Bounds, bounds_in, KeepsRest, AreRunsAlone, Took, took_in, IsAllowed, Takes, TakesMore, TakesAt}

-- ---- what is printed of a query's run

unfoldable pub print_solutions : Lines → List NameSlot → List (Emitted Solution) → List (List ℕ)
print_solutions lines names [] = []
print_solutions lines names (noted Tick ∷ events) = print_solutions lines names events
print_solutions lines names (noted (Load k) ∷ events) = print_solutions lines names events
print_solutions lines names (noted (Out text) ∷ events) = text ∷ print_solutions lines names events
print_solutions lines names (answered x ∷ events) = where_told lines (answer_lines (answer_of names x)) ++ print_solutions lines names events

-- a part of the run of a query, cut before the Tick that is one more than it may take
pub record IsQueryPart (program : List PredTree) (q : QueryTree) (steps : ℕ) (run : Cut Solution) (part : List (Emitted Solution)) : Type 0 where
  pub is_run : IsRun program q [] steps run
  pub begins : IsPrefix part run.events

-- its end is written
pub record QueryEnds (asked : AskedQuery) (took : Took) (status : ℕ) (writes : List SinkWrite) : Type 0 where
  pub run : Cut Solution
  pub part : List (Emitted Solution)
  pub is_part : IsQueryPart asked.program asked.query asked.bounds.steps run part
  pub ending : QueryEnd
  pub ends : Ends asked.answers part run ending
  pub takes : TakesAt asked.bounds.work ending took part
  pub its_status : status ≡ status_of ending
  pub written : HandsAll (print_solutions asked.lines asked.query.names part ++ end_lines asked.lines ending) writes

-- it is cut off
pub data HowQueryIsCut (lines : Lines) (answers work : ℕ) (q : QueryTree) (run : Cut Solution) (part : List (Emitted Solution)) (took : Took) (status : ℕ) (writes : List SinkWrite) : Type 0 where
  in_answer : status ≡ 8 → Takes took part → (earlier : List (Emitted Solution)) (x : Solution) → part ≡ earlier ++ answered x ∷ [] → count_answers part ≤ answers →
      FailsIn (print_solutions lines q.names earlier) (where_told lines (answer_lines (answer_of q.names x))) writes → HowQueryIsCut lines answers work q run part took status writes
  in_text : status ≡ 8 → Takes took part → (earlier : List (Emitted Solution)) (text : List ℕ) → part ≡ earlier ++ noted (Out text) ∷ [] → count_answers part < answers →
      FailsIn (print_solutions lines q.names earlier) (text ∷ []) writes → HowQueryIsCut lines answers work q run part took status writes
  in_line : status ≡ 8 → (ending : QueryEnd) → Ends answers part run ending → TakesAt work ending took part → FailsIn (print_solutions lines q.names part) (end_lines lines ending) writes →
      HowQueryIsCut lines answers work q run part took status writes
  at_memory : status ≡ 9 → TakesMore took part → count_answers part < answers → HandsAll (print_solutions lines q.names part) writes →
      HowQueryIsCut lines answers work q run part took status writes

pub record QueryIsCut (asked : AskedQuery) (took : Took) (status : ℕ) (writes : List SinkWrite) : Type 0 where
  pub run : Cut Solution
  pub part : List (Emitted Solution)
  pub is_part : IsQueryPart asked.program asked.query asked.bounds.steps run part
  pub how : HowQueryIsCut asked.lines asked.answers asked.bounds.work asked.query run part took status writes

-- it is cut off behind so many answers: in one part of its run, alike for each number of answers above these that is asked for
pub record IsCutBehind (of : ToldQuery) (given : ℕ) (may : Bounds) (took : Took) (status : ℕ) (writes : List SinkWrite) : Type 0 where
  pub run : Cut Solution
  pub part : List (Emitted Solution)
  pub is_part : IsQueryPart of.program of.query may.steps run part
  pub how : (asked : ℕ) → given < asked → HowQueryIsCut of.lines asked may.work of.query run part took status writes

-- ---- while it runs

-- a machine is about to run a query, of which an answer at least is asked for, and nothing is counted yet
pub record IsAtStart {M : Type 0} (m : MachineView M) (b : Budget) (answers : ℕ) (program : List PredTree) (q : QueryTree) : Type 0 where
  pub runnable : IsRunnable program q
  pub runs : RunsTo (query_view []) m program q []
  pub counts_ticks : mode_of m ≡ Mode.Top
  pub running : GoesOn m
  pub unspent : b.ticks ≡ 0
  pub workless : b.work ≡ no_work
  pub within : IsWithin b
  pub asked : 0 < answers

-- so many answers were written, and all that was run is printed
pub record IsSoFar {M : Type 0} (of : ToldQuery) (m : MachineView M) (b : Budget) (given : ℕ) (writes : List SinkWrite) : Type 0 where
  pub events : List (Emitted Solution)
  pub runs : RunsTo (query_view []) m of.program of.query events
  pub counts_ticks : mode_of m ≡ Mode.Top
  pub running : GoesOn m
  pub answers : count_answers events ≡ given
  pub takes : Takes (took_in b) events
  pub others : AreRunsAlone b.work
  pub within : IsWithin b
  pub written : HandsAll (print_solutions of.lines of.query.names events) writes

-- the same, where nothing comes behind the last answer
pub record IsWritten {M : Type 0} (of : ToldQuery) (m : MachineView M) (b : Budget) (given : ℕ) (writes : List SinkWrite) : Type 0 where
  pub so_far : IsSoFar of m b given writes
  pub last : 0 < given → EndsWithLast given so_far.events

-- what a call of `next` did to the budget, and that the machine is still of its kind
pub record Called {M : Type 0} (m n : MachineView M) (b c : Budget) : Type 0 where
  pub ticks : b.ticks ≤ c.ticks
  pub rest : KeepsRest (mode_of m) b c
  pub within : IsWithin b → IsWithin c
  pub mode : mode_of n ≡ mode_of m

-- what comes next that is no text, behind all texts that were written before it
pub record IsNext {M : Type 0} (of : ToldQuery) (n : MachineView M) (c : Budget) (given : ℕ) (happening : Happening) (writes : List SinkWrite) : Type 0 where
  pub before : MachineView M
  pub budget : Budget
  pub so_far : IsSoFar of before budget given writes
  pub called : Called before n budget c
  pub happens : Happens (query_view []) of.program of.query so_far.events before n budget c happening
  pub built : IsBuiltSoFar happening
  pub no_text : (text : List ℕ) → happening ≡ Happening.Out text → ⊥
  pub lasts : end_of n ≡ lasting happening

-- that, or the writing of a text is cut off
abbrev pub NextComes : {M : Type 0} → ToldQuery → ℕ → MachineView M → Budget → Result Happening Stop → List SinkWrite → Type 0
NextComes of given n c (Ok happening) writes = IsNext of n c given happening writes
NextComes of given n c (Err stop) writes = IsCutBehind of given (bounds_in c) (took_in c) (status_of_stop stop) writes

-- what it comes to, by what is answered
abbrev pub ComesTo : AskedQuery → Took → Result ℕ Stop → List SinkWrite → Type 0
ComesTo asked took (Ok status) writes = QueryEnds asked took status writes
ComesTo asked took (Err stop) writes = QueryIsCut asked took (status_of_stop stop) writes

-- it is listed behind those that were run before, with what it took, and comes to this
pub record IsListed (asked : AskedQuery) (old new : List QueryRun) (r : Result ℕ Stop) (writes : List SinkWrite) : Type 0 where
  pub took : Took
  pub listed : new ≡ old ++ run_of took ∷ []
  pub within : IsAllowed asked.bounds took
  pub comes : ComesTo asked took r writes

-- or memory is wanted before it is asked, and nothing is listed or written
pub data HasRun (asked : AskedQuery) (old new : List QueryRun) (r : Result ℕ Stop) (writes : List SinkWrite) : Type 0 where
  not_asked : r ≡ Err Memory → new ≡ old → writes ≡ [] → HasRun asked old new r writes
  was_asked : IsListed asked old new r writes → HasRun asked old new r writes
