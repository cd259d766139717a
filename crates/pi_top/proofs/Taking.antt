-- What a query took, call of `next` by call.
use Rattle.std.proofs.Common.{◌≡◌, ◌≤◌, ℕ, ◌+◌, List, [], ◌∷◌, ◌++◌, refl, ap, ◌∙◌, arith}
use Rattle.pi_traces.specs.Trace.{Out, Emitted, noted, answered, count_ticks}
use Rattle.pi_meaning.specs.CoreMeaning.Run.{Solution}
use Rattle.pi_core.specs.declared.log.Work.{Work}
use Rattle.pi_outside.specs.Writes.{SinkWrite}
use Rattle.pi_meaning.specs.declared.happening.Budget.{Budget}
use Rattle.pi_meaning.specs.declared.happening.Happening.{Happening}
use Rattle.pi_meaning.specs.declared.happening.Mode.{Mode}
use Rattle.pi_meaning.specs.Machine.Budget.{IsWithin, IsWorkUsed}
use Rattle.pi_engine_stands.specs.Goes.{counted}
use Rattle.pi_engine.specs.Happens.{sum_of_loads, Adds}
use Rattle.pi_engine.specs.Seen.{MachineView, mode_of}
use Rattle.pi_engine.specs.Spends.{Spends}
use Rattle.pi_top.specs.QueryEnd.{count_answers}
use Rattle.pi_top.specs.QueryWords.{ToldQuery}
use Rattle.pi_top.specs.Running.{print_solutions, IsSoFar, Called}
use Rattle.pi_top.specs.Took.{Bounds, bounds_in, KeepsRest, AreRunsAlone, Took, took_in, IsAllowed, Takes, TakesMore}
use Rattle.pi_top.proofs.EventLemmas.{ticks-append, loads-append, answers-behind, print-behind, ticks-answer, loads-answer, ticks-text, loads-text}

-- ---- the budget

-- what a machine says of its budget is all that is read of it
pub called-of : {M : Type 0} (m n : MachineView M) (b c : Budget) → Spends (mode_of m) b c → (IsWithin b → IsWithin c) → mode_of n ≡ mode_of m → Called m n b c
called-of m n b c spends within mode = record {
  ticks = spends.ticks;
  rest = record {
    bounds = let steps : c.steps ≡ b.steps = spends.steps in let limit : c.limit ≡ b.limit = spends.limit in ap (λ (s : ℕ). record { steps = s; work = c.limit }) steps ∙ ap (λ (w : ℕ). record { steps = b.steps; work = w }) limit;
    goals = spends.top;
    expansions = spends.expansions;
  };
  within = within;
  mode = mode;
}

pub rest-none : (mode : Mode) (b : Budget) → KeepsRest mode b b
rest-none mode b = record { bounds = refl; goals = λ top. refl; expansions = refl }

pub rest-then : (mode its : Mode) (a b c : Budget) → its ≡ mode → KeepsRest mode a b → KeepsRest its b c → KeepsRest mode a c
rest-then mode its a b c same first second = record {
  bounds = second.bounds ∙ first.bounds;
  goals = λ top. second.goals (same ∙ top) ∙ first.goals top;
  expansions = second.expansions ∙ first.expansions;
}

pub same-steps : (b : Budget) (may : Bounds) → bounds_in b ≡ may → b.steps ≡ may.steps
same-steps b may same = ap (λ (x : Bounds). x.steps) same

pub same-work : (b : Budget) (may : Bounds) → bounds_in b ≡ may → b.limit ≡ may.work
same-work b may same = ap (λ (x : Bounds). x.work) same

pub still-alone : (mode : Mode) (b c : Budget) → mode ≡ Mode.Top → KeepsRest mode b c → AreRunsAlone b.work → AreRunsAlone c.work
still-alone mode b c top rest alone = record { goals = rest.goals top ∙ alone.goals; expansions = rest.expansions ∙ alone.expansions }

pub work-is : (w : Work) → AreRunsAlone w → w ≡ record { goals = 0; runs = w.runs; expansions = 0 }
work-is w alone = ap (λ (g : ℕ). record { goals = g; runs = w.runs; expansions = w.expansions }) alone.goals ∙ ap (λ (e : ℕ). record { goals = 0; runs = w.runs; expansions = e }) alone.expansions

-- what a budget counted is no more than it has
pub is-allowed : (b : Budget) (may : Bounds) → IsWithin b → bounds_in b ≡ may → IsAllowed may (took_in b)
is-allowed b may within same =
    let steps = same-steps b may same in
    let work = same-work b may same in
    record { ticks = omega (arith, within.ticks, steps); runs = omega (arith, within.work, work) }

-- it counted all of the work
pub all-used : (b : Budget) (may : Bounds) → IsWithin b → AreRunsAlone b.work → bounds_in b ≡ may → IsWorkUsed b → b.work.runs ≡ may.work
all-used b may within alone same used = let work = same-work b may same in omega (arith, within.work, alone.goals, alone.expansions, work, used)

-- ---- what is counted, behind the events so far

pub counted-ticks : (mode : Mode) (b c : Budget) → mode ≡ Mode.Top → b.ticks ≤ c.ticks → b.ticks + counted mode b c ≡ c.ticks
counted-ticks Mode.Top b c top more = omega (arith, more)
counted-ticks (Mode.Inner rest) b c top more = absurd (cc)

pub takes-whole : {A : Type 0} (took : Took) (part : List (Emitted A)) → Takes took part → TakesMore took part
takes-whole took part takes = record { ticks = takes.ticks; finished = took.runs; cut_off = 0; runs = omega arith; loads = takes.runs }

-- notes that a call of `next` adds: they print nothing, and are told by what is counted
pub record IsTail (of : ToldQuery) (events notes : List (Emitted Solution)) (given : ℕ) (c : Budget) : Type 0 where
  pub answers : count_answers (events ++ notes) ≡ given
  pub printed : print_solutions of.lines of.query.names (events ++ notes) ≡ print_solutions of.lines of.query.names events
  pub takes : TakesMore (took_in c) (events ++ notes)
  pub others : AreRunsAlone c.work
  pub within : IsWithin c

pub tail-of : {M : Type 0} (of : ToldQuery) (m n : MachineView M) (b c : Budget) (given : ℕ) (happening : Happening) (notes : List (Emitted Solution)) (writes : List SinkWrite) →
    (w : IsSoFar of m b given writes) → Called m n b c → Adds (mode_of m) b c happening notes → IsTail of w.events notes given c
tail-of of m n b c given happening notes writes w called adds =
    let more : b.ticks + counted (mode_of m) b c ≡ c.ticks = counted-ticks (mode_of m) b c w.counts_ticks called.ticks in
    let ticks : count_ticks (w.events ++ notes) ≡ count_ticks w.events + count_ticks notes = ticks-append w.events notes in
    let loads : sum_of_loads (w.events ++ notes) ≡ sum_of_loads w.events + sum_of_loads notes = loads-append w.events notes in
    record {
      answers = answers-behind w.events notes adds.kinds ∙ w.answers;
      printed = print-behind of.lines of.query.names w.events notes adds.kinds;
      takes = record {
        ticks = omega (arith, more, w.takes.ticks, ticks, adds.ticks);
        finished = b.work.runs + adds.finished;
        cut_off = adds.cut_off;
        runs = omega (arith, adds.runs);
        loads = omega (arith, w.takes.runs, loads, adds.loads);
      };
      others = still-alone (mode_of m) b c w.counts_ticks called.rest w.others;
      within = called.within w.within;
    }

-- where no propagation was cut off
pub tail-whole : {M : Type 0} (of : ToldQuery) (m n : MachineView M) (b c : Budget) (given : ℕ) (happening : Happening) (notes : List (Emitted Solution)) (writes : List SinkWrite) →
    (w : IsSoFar of m b given writes) → Called m n b c → (adds : Adds (mode_of m) b c happening notes) → adds.cut_off ≡ 0 → Takes (took_in c) (w.events ++ notes)
tail-whole of m n b c given happening notes writes w called adds none =
    let tail = tail-of of m n b c given happening notes writes w called adds in
    let loads : sum_of_loads (w.events ++ notes) ≡ sum_of_loads w.events + sum_of_loads notes = loads-append w.events notes in
    record { ticks = tail.takes.ticks; runs = omega (arith, adds.runs, none, w.takes.runs, loads, adds.loads) }

-- an answer, or a text, takes nothing
pub takes-answer : (took : Took) (events : List (Emitted Solution)) (x : Solution) → Takes took events → Takes took (events ++ answered x ∷ [])
takes-answer took events x takes =
    let ticks = ticks-answer events x in
    let loads = loads-answer events x in
    record { ticks = omega (arith, takes.ticks, ticks); runs = omega (arith, takes.runs, loads) }

pub takes-text : (took : Took) (events : List (Emitted Solution)) (text : List ℕ) → Takes took events → Takes took (events ++ noted (Out text) ∷ [])
takes-text took events text takes =
    let ticks = ticks-text events text in
    let loads = loads-text events text in
    record { ticks = omega (arith, takes.ticks, ticks); runs = omega (arith, takes.runs, loads) }
