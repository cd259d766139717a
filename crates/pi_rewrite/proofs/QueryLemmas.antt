-- Of what a program is lowered to, each goal has a query that keeps its meaning.
use Rattle.std.proofs.Common.{◌≡◌, inl, inr, ℕ, true, List, sym, ◌∙◌, ap, subst}
use Rattle.std.specs.Prelude.{None}
use Rattle.pi_syntax.specs.ExpTree.{ExpTree}
use Rattle.pi_syntax.specs.ProgramTree.{ProgramTree}
use Rattle.pi_core.specs.CoreTree.{PredTree}
use Rattle.pi_meaning.specs.Shared.View.{View}
use Rattle.pi_meaning.specs.OverNames.Place.{Place, at_state, beginning}
use Rattle.pi_meaning.specs.OverNames.Telling.{place_told, told_trace}
use Rattle.pi_meaning.specs.OverNames.Stages.{LaterStages, built_stages}
use Rattle.pi_meaning.specs.OverNames.Run.{answer_names, names_from}
use Rattle.pi_rewrite_laws.specs.Laws as over_whole
use Rattle.pi_rewrite_laws.specs.Laws.{known_of, AreNew, GoalsAreKept}
use Rattle.pi_rewrite_spec.specs.Programs.{Naming, core_query}
use Rattle.pi_rewrite_laws.specs.Within.{IsAsked}
use Rattle.pi_rewrite_laws.proofs.RootNames.{built-later-keeps}
use Rattle.pi_rewrite_laws.proofs.SolveAlike.{built-goes-by-calls}
use Rattle.pi_rewrite_sound.specs.Built.{unbuilt_part, is_built_goal}
use Rattle.pi_rewrite_sound.specs.TermCalls.{Allows}
use Rattle.pi_rewrite_sound.specs.Within.{IsWithin}
use Rattle.pi_rewrite_sound.specs.LaterLaws.{GoalsAreTheSame}
use Rattle.pi_rewrite_sound.specs.Laws.{AreNames, QueryFits, LoweredQueriesAreSound}
use Rattle.pi_rewrite.specs.Laws.{IsCoreProgram, IsLoweredProgram, MeansTheSame, IsLowered}
use Rattle.pi_rewrite.proofs.ProgramLemmas.{built-gives}
use Rattle.pi_rewrite.proofs.CutLemmas.{same-meaning-runs-the-same}

goals-allowed : GoalsAreTheSame → (program : ProgramTree) (goal : ExpTree) → unbuilt_part program ≡ None → is_built_goal goal ≡ true → (v : View) (later : LaterStages) → Allows later program goal → (d : ℕ) (p : Place) →
    names_from v built_stages program goal d p ≡ names_from v later program goal d p
goals-allowed goals program goal built built_goal v later (inl (none, gives)) d p = goals program goal built built_goal none v built_stages later built-gives gives d p
goals-allowed goals program goal built built_goal v later (inr is) d p = ap (λ (stages : LaterStages). names_from v stages program goal d p) (sym is)

-- in whatever way a core program is known as one
whole-means : GoalsAreKept → (program : ProgramTree) (goal : ExpTree) (preds : List PredTree) → IsWithin program → IsAsked program goal → IsCoreProgram program preds → (other : Naming) → AreNames program other →
    AreNew preds other → over_whole.MeansTheSame program goal preds (core_query other goal)
whole-means keeps program goal preds within asked core other names new =
    subst (λ (ps : List PredTree). over_whole.MeansTheSame program goal ps (core_query other goal)) (sym core.is)
    (keeps program goal within.forms asked core.called core.names.own other names.own (subst (λ (ps : List PredTree). AreNew ps other) core.is new)).0

query-means : GoalsAreKept → GoalsAreTheSame → (program : ProgramTree) (goal : ExpTree) (preds : List PredTree) → IsWithin program → unbuilt_part program ≡ None → IsAsked program goal → is_built_goal goal ≡ true →
    IsCoreProgram program preds → (other : Naming) → AreNames program other → AreNew preds other → MeansTheSame program goal preds (core_query other goal)
query-means keeps goals program goal preds within built asked built_goal core other names new v later allows d s =
    whole-means keeps program goal preds within asked core other names new v built_stages (built-goes-by-calls (known_of program)) built-later-keeps d s
    ∙ ap (told_trace (place_told (answer_names goal))) (goals-allowed goals program goal built built_goal v later allows d (at_state beginning s))

pub query-kept : GoalsAreKept → GoalsAreTheSame → LoweredQueriesAreSound → (program : ProgramTree) (goal : ExpTree) (preds : List PredTree) → IsWithin program → unbuilt_part program ≡ None →
    IsAsked program goal → is_built_goal goal ≡ true → IsLoweredProgram program preds → (other : Naming) → AreNames program other → AreNew preds other → IsLowered program goal preds (core_query other goal)
query-kept keeps goals sound program goal preds within built asked built_goal kept other names new =
    let fits : QueryFits preds goal other = sound program goal preds kept.defines kept.sound kept.closed kept.free kept.plain asked built_goal other names new in
    let means : MeansTheSame program goal preds (core_query other goal) = query-means keeps goals program goal preds within built asked built_goal kept.made other names new in
    record {
      sound = fits.sound;
      plain = fits.plain;
      closed = fits.closed;
      free = fits.free;
      means = means;
      runs = same-meaning-runs-the-same program goal preds (core_query other goal) means;
    }
