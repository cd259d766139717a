-- Where a query means what a goal means, its runs are those of the goal.
use Rattle.std.proofs.Common.{◌≡◌, ℕ, List, ◌++◌, sym, ◌∙◌, ap}
use Rattle.pi_syntax.specs.ExpTree.{ExpTree}
use Rattle.pi_syntax.specs.ProgramTree.{ProgramTree}
use Rattle.pi_core.specs.CoreTree.{PredTree, QueryTree}
use Rattle.pi_traces.specs.Depth.{cut}
use Rattle.pi_constraints.specs.State.{empty_state}
use Rattle.pi_meaning.specs.Shared.View.{View}
use Rattle.pi_meaning.specs.CoreMeaning.Instances.{built_later, whole}
use Rattle.pi_meaning.specs.CoreMeaning.Run.{query_trace}
use Rattle.pi_meaning.specs.OverNames.Telling.{place_told, told_trace, told_cut}
use Rattle.pi_meaning.specs.Shared.Told.{solution_told}
use Rattle.pi_meaning.proofs.OverNames.ToldCuts.{cut-told, stop-told}
use Rattle.pi_meaning.specs.OverNames.Stages.{LaterStages}
use Rattle.pi_meaning.specs.OverNames.Run.{answer_names, names_trace}
use Rattle.pi_rewrite_laws.specs.Laws.{query_from}
use Rattle.pi_rewrite_sound.specs.TermCalls.{Allows}
use Rattle.pi_rewrite.specs.Laws.{MeansTheSame, SameMeaningRunsTheSame}

-- from the empty state
asked-means : (program : ProgramTree) (goal : ExpTree) (preds : List PredTree) (q : QueryTree) → MeansTheSame program goal preds q → (v : View) (later : LaterStages) → Allows later program goal → (d : ℕ) →
    told_trace (solution_told q.names) (query_trace (whole v built_later (preds ++ q.helpers)) preds q d) ≡ told_trace (place_told (answer_names goal)) (names_trace v later program goal d)
unfolding query_from query_trace names_trace
asked-means program goal preds q same v later allows d = same v later allows d empty_state

pub same-meaning-runs-the-same : SameMeaningRunsTheSame
same-meaning-runs-the-same program goal preds q same v later allows n c run =
    let e = asked-means program goal preds q same v later allows run.depth in
    let stops : (cut n (names_trace v later program goal run.depth)).stop ≡ (cut n (query_trace (whole v built_later (preds ++ q.helpers)) preds q run.depth)).stop =
    sym (stop-told (place_told (answer_names goal)) n (names_trace v later program goal run.depth)) ∙ ap (λ t. (cut n t).stop) (sym e)
    ∙ stop-told (solution_told q.names) n (query_trace (whole v built_later (preds ++ q.helpers)) preds q run.depth) in
    record {
      depth = run.depth;
      reaches = λ is. run.reaches (sym stops ∙ is);
      is_cut = ap (told_cut (solution_told q.names)) run.is_cut ∙ sym (cut-told (solution_told q.names) n (query_trace (whole v built_later (preds ++ q.helpers)) preds q run.depth)) ∙ ap (cut n) e;
    }
