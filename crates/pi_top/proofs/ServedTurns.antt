-- How a line is served by a request of a query: its first, or one more.
use Rattle.std.proofs.Common.{◌≡◌, ◌<◌, ℕ, suc, ◌+◌, List, [], ◌∷◌, ◌++◌, Option, None, Some, Result, Ok, Err, refl, sym, subst, ◌∙◌, arith, add-one}
use Rattle.pi_outside.specs.Writes.{SinkWrite}
use Rattle.pi_core.specs.CoreTree.{PredTree, QueryTree}
use Rattle.pi_syntax.specs.ExpTree.{ExpTree}
use Rattle.pi_syntax.specs.ProgramTree.{ProgramTree}
use Rattle.pi_constraints.specs.Store.{StoreView}
use Rattle.pi_engine.specs.Seen.{machine_view}
use Rattle.pi_rewrite.specs.Laws.{RunsTheSame}
use Rattle.pi_outside.specs.Requests.{another, a_goal}
use Rattle.pi_top.specs.declared.manner.Manner.{Manner}
use Rattle.pi_top.specs.declared.runs.QueryRun.{QueryRun}
use Rattle.pi_top.specs.declared.present.Present.{Present as PresentRun}
use Rattle.pi_top.specs.declared.query.Stop.{Stop}
use Rattle.pi_top.specs.Asking.{AsksOf}
use Rattle.pi_top.specs.Stops.{status_of_stop}
use Rattle.pi_top.specs.Runs.{run_of}
use Rattle.pi_top.specs.Serving.{Present, no_query, query, QuerySoFar, QueryEnded, QueryCutOff, Serves, CutServing}
use Rattle.pi_top.specs.PresentCode.{AnswersMore, AnswerComes}
use Rattle.pi_top.specs.ServingCode.{ServesTo}
use Rattle.pi_top.proofs.RequestNames.{so-far-over-names, ended-over-names, cut-off-over-names}
use Rattle.pi_top.specs.Took.{Took, took_in}
use Rattle.pi_top.specs.QueryWords.{begun_query, listed_over, session_of}

some-more : (n k : ℕ) → n ≡ k + 1 → 0 < n
some-more n k is = omega (arith, is)

-- ---- the first request

first-more : {S M : Type 0} (seen : S → StoreView M) (order : M → ℕ) (manner : Manner) (program : ProgramTree) (core : List PredTree) (q : QueryTree) (present : Present) (text : List ℕ) (goal : ExpTree) (run : PresentRun S M)
    (runs new : List QueryRun) (writes : List SinkWrite) → AsksOf program text goal → RunsTheSame program goal core q →
    AnswersMore manner core q (machine_view seen order run.machine) run.budget 0 run.given runs new writes →
    ServesTo (session_of seen order manner program core) present (a_goal text) (Ok (Some run)) (listed_over runs new) writes
first-more seen order manner program core q present text goal run runs new writes asks same is =
    let m = machine_view seen order run.machine in
    let one : run.given ≡ 1 = omega (arith, is.one_more) in
    let so_far : QuerySoFar manner program goal [] run.given (took_in run.budget) writes = so-far-over-names manner program goal core q m run.budget run.given writes same is.can (some-more run.given 0 is.one_more) in
    let first : QuerySoFar manner program goal [] 1 (took_in run.budget) writes = subst (λ n. QuerySoFar manner program goal [] n (took_in run.budget) writes) one so_far in
    record {
      next = query goal 1 writes;
      serves = subst (λ l. Serves manner program [] present (a_goal text) (query goal 1 writes) runs l writes) (sym is.last.listed)
          (Serves.answered present text goal (took_in run.budget) runs writes asks first);
      keeps = record { q = q; runs = same; can = is.can; so_many = one; earlier = runs; last = is.last };
    }

pub serves-first : {S M : Type 0} (seen : S → StoreView M) (order : M → ℕ) (manner : Manner) (program : ProgramTree) (core : List PredTree) (q : QueryTree) (present : Present) (text : List ℕ) (goal : ExpTree)
    (r : Result (Option (PresentRun S M)) Stop) (runs new : List QueryRun) (writes : List SinkWrite) → AsksOf program text goal → RunsTheSame program goal core q →
    AnswerComes (machine_view seen order) manner (begun_query core q 0 runs) r new writes → ServesTo (session_of seen order manner program core) present (a_goal text) r (listed_over runs new) writes
serves-first seen order manner program core q present text goal (Ok (Some run)) runs new writes asks same is = first-more seen order manner program core q present text goal run runs new writes asks same is
serves-first seen order manner program core q present text goal (Ok None) runs new writes asks same is = record {
  next = no_query;
  serves = subst (λ l. Serves manner program [] present (a_goal text) no_query runs l writes) (sym is.last.listed)
      (Serves.ended present text goal is.took runs writes asks (ended-over-names manner program goal core q 1 is.took writes same is.ends));
  keeps = refl;
}
serves-first seen order manner program core q present text goal (Err stop) runs new writes asks same is =
    subst (λ l. CutServing manner program [] present (a_goal text) runs l (status_of_stop stop) writes) (sym is.last.listed)
    (CutServing.in_run present text goal is.took (status_of_stop stop) runs writes asks (cut-off-over-names manner program goal core q 1 is.took (status_of_stop stop) writes same is.cut))

-- ---- one request more

next-more : {S M : Type 0} (seen : S → StoreView M) (order : M → ℕ) (manner : Manner) (program : ProgramTree) (core : List PredTree) (q : QueryTree) (goal : ExpTree) (requests : ℕ) (before : Took) (run : PresentRun S M)
    (runs new : List QueryRun) (first writes : List SinkWrite) → RunsTheSame program goal core q →
    AnswersMore manner core q (machine_view seen order run.machine) run.budget requests run.given runs new (first ++ writes) →
    ServesTo (session_of seen order manner program core) (query goal requests first) another (Ok (Some run)) (listed_over (runs ++ run_of before ∷ []) new) writes
next-more seen order manner program core q goal requests before run runs new first writes same is =
    let m = machine_view seen order run.machine in
    let all : List SinkWrite = first ++ writes in
    let more : run.given ≡ suc requests = is.one_more ∙ add-one requests in
    let so_far : QuerySoFar manner program goal [] run.given (took_in run.budget) all = so-far-over-names manner program goal core q m run.budget run.given all same is.can (some-more run.given requests is.one_more) in
    let next : QuerySoFar manner program goal [] (suc requests) (took_in run.budget) all = subst (λ n. QuerySoFar manner program goal [] n (took_in run.budget) all) more so_far in
    record {
      next = query goal (suc requests) all;
      serves = subst (λ l. Serves manner program [] (query goal requests first) another (query goal (suc requests) all) (runs ++ run_of before ∷ []) l writes) (sym is.last.listed)
          (Serves.answered_more goal requests before (took_in run.budget) first runs writes next);
      keeps = record { q = q; runs = same; can = is.can; so_many = more; earlier = runs; last = is.last };
    }

pub serves-more : {S M : Type 0} (seen : S → StoreView M) (order : M → ℕ) (manner : Manner) (program : ProgramTree) (core : List PredTree) (q : QueryTree) (goal : ExpTree) (requests : ℕ) (before : Took)
    (r : Result (Option (PresentRun S M)) Stop) (runs new : List QueryRun) (first writes : List SinkWrite) → RunsTheSame program goal core q →
    AnswerComes (machine_view seen order) manner (begun_query core q requests runs) r new (first ++ writes) → ServesTo (session_of seen order manner program core) (query goal requests first) another r (listed_over (runs ++ run_of before ∷ []) new) writes
serves-more seen order manner program core q goal requests before (Ok (Some run)) runs new first writes same is = next-more seen order manner program core q goal requests before run runs new first writes same is
serves-more seen order manner program core q goal requests before (Ok None) runs new first writes same is =
    let ended : QueryEnded manner program goal [] (suc requests) is.took (first ++ writes) =
    subst (λ n. QueryEnded manner program goal [] n is.took (first ++ writes)) (add-one requests) (ended-over-names manner program goal core q (requests + 1) is.took (first ++ writes) same is.ends) in
    record {
      next = no_query;
      serves = subst (λ l. Serves manner program [] (query goal requests first) another no_query (runs ++ run_of before ∷ []) l writes) (sym is.last.listed)
          (Serves.ended_later goal requests before is.took first runs writes ended);
      keeps = refl;
    }
serves-more seen order manner program core q goal requests before (Err stop) runs new first writes same is =
    let status : ℕ = status_of_stop stop in
    let cut : QueryCutOff manner program goal [] (suc requests) is.took status (first ++ writes) =
    subst (λ n. QueryCutOff manner program goal [] n is.took status (first ++ writes)) (add-one requests) (cut-off-over-names manner program goal core q (requests + 1) is.took status (first ++ writes) same is.cut) in
    subst (λ l. CutServing manner program [] (query goal requests first) another (runs ++ run_of before ∷ []) l status writes) (sym is.last.listed)
    (CutServing.in_run_later goal requests before is.took status first runs writes cut)
