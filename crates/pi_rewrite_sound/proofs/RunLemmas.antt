-- The laws: levels, calls, goals and runs of what is built are the same whatever later stages give.
use Rattle.std.specs.Prelude.{◌≡◌, ◌++◌, ℕ, true, [], None, refl}
use Rattle.std.proofs.Common.{subst}
use Rattle.pi_syntax.specs.ExpTree.{ExpTree}
use Rattle.pi_syntax.specs.ProgramTree.{ProgramTree}
use Rattle.pi_traces.specs.Trace.{Trace, then}
use Rattle.pi_traces.specs.Depth.{cut, CutWithoutDeep}
use Rattle.pi_meaning.specs.Shared.View.{View}
use Rattle.pi_meaning.specs.Shared.Level.{Level, lowest, over, Calls}
use Rattle.pi_meaning.specs.OverNames.Place.{Place, beginning}
use Rattle.pi_meaning.specs.OverNames.Telling.{telling, place_told, told_trace}
use Rattle.pi_meaning.specs.OverNames.Stages.{LaterStages}
use Rattle.pi_meaning.specs.OverNames.Control.{strictly}
use Rattle.pi_meaning.specs.OverNames.Rules.{heads_named}
use Rattle.pi_meaning.specs.OverNames.Prelude.{prelude}
use Rattle.pi_meaning.specs.OverNames.Run.{is_some_head, setting, program_level, answer_names, names_from, names_trace}
use Rattle.pi_rewrite_spec.specs.Forms.{Knows}
use Rattle.pi_rewrite_laws.specs.Levels.{SameCalls, SameLevels}
use Rattle.pi_rewrite_laws.specs.Laws.{known_of}
use Rattle.pi_rewrite_sound.specs.Built.{is_built_goal, unbuilt_part}
use Rattle.pi_rewrite_sound.specs.TermCalls.{CallNoTerms, GivesBuilt}
use Rattle.pi_rewrite_sound.specs.LaterLaws.{LevelsAreTheSame, CallsAreTheSame, GoalsAreTheSame, RunsAreTheSame}
use Rattle.pi_rewrite_sound.proofs.CallLemmas.{CallsAlike, stages-alike}
use Rattle.pi_rewrite_sound.proofs.GoalLemmas.{goal-alike}
use Rattle.pi_rewrite_sound.proofs.PartLemmas.{parts-built, both-built, prelude-built}
use Rattle.pi_rewrite_sound.proofs.RuleLemmas.{level-alike}

settings-alike : (v : View) (a b : LaterStages) → GivesBuilt a.calls → GivesBuilt b.calls → (program : ProgramTree) → CallsAlike (setting v a program).calls (setting v b program).calls
settings-alike v a b x y program = stages-alike v (λ name k. is_some_head (heads_named name k (prelude ++ program))) a.calls b.calls x y

pub levels-are-the-same : LevelsAreTheSame
levels-are-the-same program built none v a b x y d =
    level-alike (setting v a program) (setting v b program) (settings-alike v a b x y program) (prelude ++ program) (both-built prelude program prelude-built (parts-built 1 program built none)) d

-- ---- calls

same-calls : (known : Knows) (c : Calls) → SameCalls known c c
same-calls known c = record { called = λ name ts s is. refl; applied = λ name ts s is. refl; drained = λ s. refl }

same-level : (known : Knows) (l : Level) → SameLevels known l l
unfolding SameLevels
same-level known (lowest c) = same-calls known c
same-level known (over c l) = (same-calls known c, same-level known l)

pub calls-are-the-same : CallsAreTheSame
calls-are-the-same program built none v a b x y d =
    subst (λ (l : Level). SameLevels (known_of program) (program_level v a program d) l) (levels-are-the-same program built none v a b x y d) (same-level (known_of program) (program_level v a program d))

-- ---- goals

pub goals-are-the-same : GoalsAreTheSame
unfolding names_from
goals-are-the-same program goal built is_built none v a b x y d p = λ i.
    then (strictly (goal-alike (setting v a program).calls (setting v b program).calls (settings-alike v a b x y program) [] goal is_built none.1 i) (levels-are-the-same program built none.0 v a b x y d i) p) (telling (answer_names goal))

trace-same : (program : ProgramTree) (goal : ExpTree) → unbuilt_part program ≡ None → is_built_goal goal ≡ true → CallNoTerms program goal → (v : View) (a b : LaterStages) → GivesBuilt a.calls → GivesBuilt b.calls → (d : ℕ) → names_trace v a program goal d ≡ names_trace v b program goal d
unfolding names_trace
trace-same program goal built is_built none v a b x y d = goals-are-the-same program goal built is_built none v a b x y d beginning

pub runs-are-the-same : RunsAreTheSame
runs-are-the-same program goal built is_built none v a b x y n c run =
    let same = trace-same program goal built is_built none v a b x y run.depth in
    record {
      depth = run.depth;
      reaches = subst (λ (t : Trace Place). CutWithoutDeep n t) same run.reaches;
      is_cut = subst (λ (t : Trace Place). c ≡ cut n (told_trace (place_told (answer_names goal)) t)) same run.is_cut;
    }
