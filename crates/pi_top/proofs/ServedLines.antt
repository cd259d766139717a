-- How a line is served, by what it asks.
use Rattle.std.proofs.Common.{◌≡◌, ℕ, List, [], ◌∷◌, ◌++◌, Option, None, Some, Result, Ok, refl, sym, subst}
use Rattle.pi_outside.specs.Writes.{SinkWrite}
use Rattle.pi_core.specs.CoreTree.{PredTree, QueryTree}
use Rattle.pi_syntax.specs.ProgramTree.{ProgramTree}
use Rattle.pi_constraints.specs.Store.{StoreView}
use Rattle.pi_engine.specs.Seen.{machine_view}
use Rattle.pi_outside.specs.Requests.{Asked, nothing, another, too_long, a_goal}
use Rattle.pi_top.specs.declared.manner.Manner.{Manner}
use Rattle.pi_top.specs.declared.runs.QueryRun.{QueryRun}
use Rattle.pi_top.specs.declared.present.Present.{Present as PresentRun}
use Rattle.pi_top.specs.declared.query.Stop.{Stop}
use Rattle.pi_top.specs.Asking.{RefusesOf}
use Rattle.pi_top.specs.Handing.{Hands, Fails}
use Rattle.pi_top.specs.Runs.{run_of}
use Rattle.pi_top.specs.Serving.{Present, no_query, query, no_query_line, line_too_long, Serves, ServesLine, CutServing}
use Rattle.pi_top.specs.PresentCode.{CanAnswer, AnswerComes}
use Rattle.pi_top.specs.AskingCode.{IsAskedOf}
use Rattle.pi_top.specs.ServingCode.{Keeps, ServesTo}
use Rattle.pi_top.proofs.HandedTexts.{fails-one}
use Rattle.pi_top.proofs.ServedTurns.{serves-first, serves-more}
use Rattle.pi_top.specs.Took.{took_in}
use Rattle.pi_top.specs.QueryWords.{begun_query, listed_over, session_of}

-- the write of a line fails
pub line-cut : (manner : Manner) (program : ProgramTree) (present : Present) (asked : Asked) (line : List ℕ) (runs : List QueryRun) (writes : List SinkWrite) → ServesLine program present asked line → Fails line writes →
    CutServing manner program [] present asked runs runs 8 writes
line-cut manner program present asked line runs writes is fails = CutServing.in_line present asked line runs writes is (fails-one line writes fails)

-- nothing is asked
pub nothing-served : {S M : Type 0} (seen : S → StoreView M) (order : M → ℕ) (manner : Manner) (program : ProgramTree) (core : List PredTree) (present : Present) (asked : Asked) (run : Option (PresentRun S M)) (runs : List QueryRun) →
    asked ≡ nothing → Keeps (session_of seen order manner program core) run present runs → ServesTo (session_of seen order manner program core) present asked (Ok run) (listed_over runs runs) []
nothing-served seen order manner program core present asked run runs is keeps = record {
  next = present;
  serves = subst (λ a. Serves manner program [] present a present runs runs []) (sym is) (Serves.passed_over present runs);
  keeps = keeps;
}

-- the next answer is asked for, and there is no query
pub no-query-served : {S M : Type 0} (seen : S → StoreView M) (order : M → ℕ) (manner : Manner) (program : ProgramTree) (core : List PredTree) (present : Present) (runs : List QueryRun) (writes : List SinkWrite) →
    Keeps (session_of seen order manner program core) None present runs → Hands no_query_line writes → ServesTo (session_of seen order manner program core) present another (Ok None) (listed_over runs runs) writes
no-query-served seen order manner program core present runs writes none hands = record {
  next = no_query;
  serves = subst (λ p. Serves manner program [] p another no_query runs runs writes) (sym none) (Serves.has_no_query runs writes hands);
  keeps = refl;
}

pub no-query-cut : (manner : Manner) (program : ProgramTree) (present : Present) (runs : List QueryRun) (writes : List SinkWrite) → present ≡ no_query → Fails no_query_line writes →
    CutServing manner program [] present another runs runs 8 writes
no-query-cut manner program present runs writes none fails =
    subst (λ p. CutServing manner program [] p another runs runs 8 writes) (sym none) (line-cut manner program no_query another no_query_line runs writes ServesLine.has_no_query fails)

-- and there is one
pub kept-answers : {S M : Type 0} (seen : S → StoreView M) (order : M → ℕ) (manner : Manner) (program : ProgramTree) (core : List PredTree) (run : PresentRun S M) (present : Present) (r : Result (Option (PresentRun S M)) Stop)
    (old new : List QueryRun) (writes : List SinkWrite) → Keeps (session_of seen order manner program core) (Some run) present old →
    ((first : List SinkWrite) (q : QueryTree) (earlier : List QueryRun) (before : QueryRun) → old ≡ earlier ++ before ∷ [] → CanAnswer manner core q (machine_view seen order run.machine) run.budget run.given first →
    AnswerComes (machine_view seen order) manner (begun_query core q run.given earlier) r new (first ++ writes)) →
    ServesTo (session_of seen order manner program core) present another r (listed_over old new) writes
kept-answers seen order manner program core run no_query r old new writes keeps comes = absurd keeps
kept-answers seen order manner program core run (query goal requests first) r old new writes keeps comes =
    let answers = comes first keeps.q keeps.earlier (run_of (took_in run.budget)) keeps.last.listed keeps.can in
    subst (λ l. ServesTo (session_of seen order manner program core) (query goal requests first) another r (listed_over l new) writes) (sym keeps.last.listed)
    (serves-more seen order manner program core keeps.q goal requests (took_in run.budget) r keeps.earlier new first writes keeps.runs
    (subst (λ n. AnswerComes (machine_view seen order) manner (begun_query core keeps.q n keeps.earlier) r new (first ++ writes)) keeps.so_many answers))

-- the line is too long
pub too-long-served : {S M : Type 0} (seen : S → StoreView M) (order : M → ℕ) (manner : Manner) (program : ProgramTree) (core : List PredTree) (present : Present) (asked : Asked) (runs : List QueryRun) (writes : List SinkWrite) →
    asked ≡ too_long → Hands line_too_long writes → ServesTo (session_of seen order manner program core) present asked (Ok None) (listed_over runs runs) writes
too-long-served seen order manner program core present asked runs writes is hands = record {
  next = no_query;
  serves = subst (λ a. Serves manner program [] present a no_query runs runs writes) (sym is) (Serves.is_too_long present runs writes hands);
  keeps = refl;
}

pub too-long-cut : (manner : Manner) (program : ProgramTree) (present : Present) (asked : Asked) (runs : List QueryRun) (writes : List SinkWrite) → asked ≡ too_long → Fails line_too_long writes →
    CutServing manner program [] present asked runs runs 8 writes
too-long-cut manner program present asked runs writes is fails =
    subst (λ a. CutServing manner program [] present a runs runs 8 writes) (sym is) (line-cut manner program present too_long line_too_long runs writes (ServesLine.is_too_long present) fails)

-- a goal isn't asked
pub refusal-served : {S M : Type 0} (seen : S → StoreView M) (order : M → ℕ) (manner : Manner) (program : ProgramTree) (core : List PredTree) (present : Present) (text line : List ℕ) (runs : List QueryRun) (writes : List SinkWrite) →
    RefusesOf program text line → Hands line writes → ServesTo (session_of seen order manner program core) present (a_goal text) (Ok None) (listed_over runs runs) writes
refusal-served seen order manner program core present text line runs writes is hands = record {
  next = no_query;
  serves = Serves.refused present text line runs writes is hands;
  keeps = refl;
}

pub refusal-cut : (manner : Manner) (program : ProgramTree) (present : Present) (text line : List ℕ) (runs : List QueryRun) (writes : List SinkWrite) → RefusesOf program text line → Fails line writes →
    CutServing manner program [] present (a_goal text) runs runs 8 writes
refusal-cut manner program present text line runs writes is fails = line-cut manner program present (a_goal text) line runs writes (ServesLine.refused present text line is) fails

-- and one is
pub goal-served : {S M : Type 0} (seen : S → StoreView M) (order : M → ℕ) (manner : Manner) (program : ProgramTree) (core : List PredTree) (q : QueryTree) (present : Present) (text : List ℕ) (r : Result (Option (PresentRun S M)) Stop)
    (old new : List QueryRun) (writes : List SinkWrite) → (is : IsAskedOf program core text q) → AnswerComes (machine_view seen order) manner (begun_query core q 0 old) r new writes →
    ServesTo (session_of seen order manner program core) present (a_goal text) r (listed_over old new) writes
goal-served seen order manner program core q present text r old new writes is comes =
    serves-first seen order manner program core q present text is.goal r old new writes is.asks is.lowered.runs comes

-- what a line asks was served
pub asked-served : {S M : Type 0} (seen : S → StoreView M) (order : M → ℕ) (manner : Manner) (program : ProgramTree) (core : List PredTree) (present : Present) (asked it : Asked) (r : Result (Option (PresentRun S M)) Stop)
    (old new : List QueryRun) (writes : List SinkWrite) → asked ≡ it → ServesTo (session_of seen order manner program core) present it r (listed_over old new) writes → ServesTo (session_of seen order manner program core) present asked r (listed_over old new) writes
asked-served seen order manner program core present asked it r old new writes is serves = subst (λ a. ServesTo (session_of seen order manner program core) present a r (listed_over old new) writes) (sym is) serves
