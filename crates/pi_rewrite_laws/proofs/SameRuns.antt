-- Where a query means what a goal means, its runs are those of the goal.
use Rattle.std.proofs.Common.{◌≡◌, List, ◌++◌, sym, ◌∙◌, ap}
use Rattle.pi_constraints.specs.State.{empty_state}
use Rattle.pi_syntax.specs.ExpTree.{ExpTree}
use Rattle.pi_syntax.specs.ProgramTree.{ProgramTree}
use Rattle.pi_core.specs.CoreTree.{PredTree, QueryTree}
use Rattle.pi_traces.specs.Depth.{cut}
use Rattle.pi_meaning.specs.CoreMeaning.Builtins.{Builtins}
use Rattle.pi_meaning.specs.CoreMeaning.Instances.{whole}
use Rattle.pi_meaning.specs.CoreMeaning.Run.{query_trace}
use Rattle.pi_meaning.specs.OverNames.Telling.{place_told, told_trace, told_cut}
use Rattle.pi_meaning.specs.Shared.Told.{solution_told}
use Rattle.pi_meaning.proofs.OverNames.ToldCuts.{cut-told, stop-told}
use Rattle.pi_meaning.specs.OverNames.Run.{answer_names, names_trace}
use Rattle.pi_rewrite_laws.specs.Laws.{query_from, MeansTheSame, RunsTheSame}

-- ---- goals

-- where a query means what a goal means, its runs are those of the goal
pub runs-the-same : (program : ProgramTree) (goal : ExpTree) (preds : List PredTree) (q : QueryTree) → MeansTheSame program goal preds q → RunsTheSame program goal preds q
unfolding query_from query_trace names_trace
runs-the-same program goal preds q means v later goes roots n c run =
    let b : Builtins = whole v later.calls (preds ++ q.helpers) in
    let e : told_trace (solution_told q.names) (query_trace b preds q run.depth) ≡ told_trace (place_told (answer_names goal)) (names_trace v later program goal run.depth) = means v later goes roots run.depth empty_state in
    let stops : (cut n (names_trace v later program goal run.depth)).stop ≡ (cut n (query_trace b preds q run.depth)).stop =
    sym (stop-told (place_told (answer_names goal)) n (names_trace v later program goal run.depth)) ∙ ap (λ t. (cut n t).stop) (sym e)
    ∙ stop-told (solution_told q.names) n (query_trace b preds q run.depth) in
    record {
      depth = run.depth;
      reaches = λ is. run.reaches (sym stops ∙ is);
      is_cut = ap (told_cut (solution_told q.names)) run.is_cut ∙ sym (cut-told (solution_told q.names) n (query_trace b preds q run.depth)) ∙ ap (cut n) e;
    }
