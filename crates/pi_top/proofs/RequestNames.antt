-- What a request of a session's query comes to, over the names of its goal.
use Rattle.std.proofs.Common.{◌<◌, ◌≤◌, ℕ, List, [], ◌++◌, refl, arith}
use Rattle.pi_outside.specs.Writes.{SinkWrite}
use Rattle.pi_core.specs.CoreTree.{PredTree, QueryTree}
use Rattle.pi_syntax.specs.ExpTree.{ExpTree}
use Rattle.pi_syntax.specs.ProgramTree.{ProgramTree}
use Rattle.pi_traces.specs.Trace.{count_ticks}
use Rattle.pi_meaning.specs.Shared.Told.{solution_told}
use Rattle.pi_meaning.specs.OverNames.Telling.{told_cut}
use Rattle.pi_meaning.specs.declared.happening.Budget.{Budget}
use Rattle.pi_engine.specs.Seen.{MachineView}
use Rattle.pi_rewrite.specs.Laws.{RunsTheSame}
use Rattle.pi_top.specs.declared.manner.Manner.{Manner}
use Rattle.pi_top.specs.Serving.{QuerySoFar, QueryEnded, QueryCutOff, requested}
use Rattle.pi_top.specs.PresentCode.{CanAnswer}
use Rattle.pi_top.specs.Printing.{print}
use Rattle.pi_top.specs.QueryEnd.{status_of}
use Rattle.pi_top.specs.ToldLines.{end_lines}
use Rattle.pi_top.specs.Turn.{EndsAt, IsCutAt}
use Rattle.pi_top.proofs.OverNames.{told, told-prints, told-takes, told-takes-at, told-last, told-ends, told-cut, part-over-names}
use Rattle.pi_top.proofs.QueryRuns.{HasPart, has-part}
use Rattle.pi_top.proofs.Taking.{same-steps}
use Rattle.pi_top.specs.Took.{bounds_of, Took, took_in}
use Rattle.pi_top.specs.QueryWords.{asked_in}

pub so-far-over-names : {M : Type 0} (manner : Manner) (program : ProgramTree) (goal : ExpTree) (preds : List PredTree) (q : QueryTree) (m : MachineView M) (b : Budget) (given : ℕ) (writes : List SinkWrite) →
    RunsTheSame program goal preds q → CanAnswer manner preds q m b given writes → 0 < given → QuerySoFar manner program goal [] given (took_in b) writes
so-far-over-names manner program goal preds q m b given writes is can some =
    let w = can.written.so_far in
    let few : count_ticks w.events ≤ manner.steps = let steps = same-steps b (bounds_of manner) can.its_bounds in omega (arith, w.takes.ticks, w.within.ticks, steps) in
    let has : HasPart preds q manner.steps w.events = has-part m preds q w.events manner.steps can.runnable w.runs few in
    record {
      run = told_cut (solution_told q.names) has.run;
      part = told q.names w.events;
      is_part = part-over-names program goal preds q manner.steps has.run w.events is has.is_part;
      takes = told-takes q.names (took_in b) w.events w.takes;
      last = told-last q.names given w.events (can.written.last some);
      fewer = can.fewer;
      written = rw (told-prints manner.lines q.names w.events) w.written;
    }

pub ended-over-names : (manner : Manner) (program : ProgramTree) (goal : ExpTree) (preds : List PredTree) (q : QueryTree) (requests : ℕ) (took : Took) (writes : List SinkWrite) →
    RunsTheSame program goal preds q → EndsAt (asked_in manner preds q) requests took writes → QueryEnded manner program goal [] requests took writes
ended-over-names manner program goal preds q requests took writes is has = record {
  status = status_of has.ending;
  texts = print manner.lines (told q.names has.part) ++ end_lines manner.lines has.ending;
  headline = record {
    run = told_cut (solution_told q.names) has.run;
    part = told q.names has.part;
    is_part = part-over-names program goal preds q manner.steps has.run has.part is has.is_part;
    ending = has.ending;
    ends = told-ends q.names requests has.part has.run has.ending has.ends;
    takes = told-takes-at q.names manner.work has.ending took has.part has.takes;
    its_status = refl;
    written = refl;
  };
  at_limit = has.at_limit;
  written = rw (told-prints manner.lines q.names has.part) has.written;
}

pub cut-off-over-names : (manner : Manner) (program : ProgramTree) (goal : ExpTree) (preds : List PredTree) (q : QueryTree) (requests : ℕ) (took : Took) (status : ℕ) (writes : List SinkWrite) →
    RunsTheSame program goal preds q → IsCutAt (asked_in manner preds q) requests took status writes → QueryCutOff manner program goal [] requests took status writes
cut-off-over-names manner program goal preds q requests took status writes is has = record {
  run = told_cut (solution_told q.names) has.run;
  part = told q.names has.part;
  is_part = part-over-names program goal preds q manner.steps has.run has.part is has.is_part;
  at_request = told-cut (requested manner requests) q has.run has.part took status writes has.at_request;
  in_all = told-cut manner q has.run has.part took status writes has.in_all;
}
