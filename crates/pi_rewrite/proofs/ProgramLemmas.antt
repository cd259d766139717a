-- What a program is lowered to keeps its meaning, whatever later stages give that it allows.
use Rattle.std.proofs.Common.{◌≡◌, inl, inr, ℕ, List, [], refl, sym, ◌∙◌, ap, subst}
use Rattle.std.specs.Prelude.{None}
use Rattle.std.proofs.lemmas.List.{append-nil}
use Rattle.pi_syntax.specs.ProgramTree.{ProgramTree}
use Rattle.pi_core.specs.CoreTree.{PredTree}
use Rattle.pi_meaning.specs.Shared.View.{View}
use Rattle.pi_meaning.specs.Shared.Level.{calls_at}
use Rattle.pi_meaning.specs.CoreMeaning.Instances.{built_later, whole}
use Rattle.pi_meaning.specs.CoreMeaning.Rules.{level_at}
use Rattle.pi_meaning.specs.CoreMeaning.Defined.{ProgramCallsDefined, NamesAreFree}
use Rattle.pi_meaning.specs.OverNames.Stages.{LaterStages, built_stages}
use Rattle.pi_meaning.specs.OverNames.Run.{program_level}
use Rattle.pi_rewrite_laws.specs.Levels.{SameCalls, SameLevels}
use Rattle.pi_rewrite_laws.specs.Laws.{known_of, KeepsMeaning, ProgramsAreKept}
use Rattle.pi_rewrite_spec.specs.Programs.{Naming, core_program}
use Rattle.pi_rewrite_laws.proofs.AlikeLemmas.{calls-same}
use Rattle.pi_rewrite_laws.proofs.RootNames.{built-later-keeps}
use Rattle.pi_rewrite_laws.proofs.SolveAlike.{built-goes-by-calls}
use Rattle.pi_rewrite_sound.specs.Built.{unbuilt_part}
use Rattle.pi_rewrite_sound.specs.TermCalls.{GivesBuilt, ProgramAllows}
use Rattle.pi_rewrite_sound.specs.Within.{IsWithin}
use Rattle.pi_rewrite_sound.specs.LaterLaws.{LevelsAreTheSame}
use Rattle.pi_rewrite_sound.specs.Laws.{AreNames, LoweredProgramsAreSound, LoweredProgramsAreClosed, LoweredProgramsArePlain}
use Rattle.pi_rewrite.specs.Laws.{CallsTheSame, IsLoweredProgram}

pub built-gives : GivesBuilt built_stages.calls
built-gives = record { goals = λ v l name ts s is. refl; labelling = λ v l name ts s is. refl; functions = λ name ts s is. refl }

levels-allowed : LevelsAreTheSame → (program : ProgramTree) → unbuilt_part program ≡ None → (v : View) (later : LaterStages) → ProgramAllows later program → (d : ℕ) →
    program_level v built_stages program d ≡ program_level v later program d
levels-allowed levels program built v later (inl (none, gives)) d = levels program built none v built_stages later built-gives gives d
levels-allowed levels program built v later (inr is) d = ap (λ (stages : LaterStages). program_level v stages program d) (sym is)

calls-kept : LevelsAreTheSame → (program : ProgramTree) → unbuilt_part program ≡ None → (preds : List PredTree) → KeepsMeaning program preds → CallsTheSame program preds
calls-kept levels program built preds kept = record {
  predicates = λ v later allows d name ts s known. (at v d).called name ts s known ∙ ap (λ l. (calls_at l).called name ts s) (levels-allowed levels program built v later allows d);
  functions = λ v later allows d name ts s known. (at v d).applied name ts s known ∙ ap (λ l. (calls_at l).applied name ts s) (levels-allowed levels program built v later allows d);
}
  where
    same : (v : View) (d : ℕ) → SameLevels (known_of program) (level_at (whole v built_later preds) preds d) (program_level v built_stages program d)
    same v d = subst (λ (ps : List PredTree). SameLevels (known_of program) (level_at (whole v built_later ps) ps d) (program_level v built_stages program d)) (append-nil preds)
        (kept.calls [] tt v built_stages (built-goes-by-calls (known_of program)) built-later-keeps d)

    at : (v : View) (d : ℕ) → SameCalls (known_of program) (calls_at (level_at (whole v built_later preds) preds d)) (calls_at (program_level v built_stages program d))
    at v d = calls-same (known_of program) (level_at (whole v built_later preds) preds d) (program_level v built_stages program d) (same v d)

pub program-kept : ProgramsAreKept → LevelsAreTheSame → LoweredProgramsAreSound → LoweredProgramsAreClosed → LoweredProgramsArePlain → (program : ProgramTree) → IsWithin program → unbuilt_part program ≡ None →
    (called : Naming) → AreNames program called → IsLoweredProgram program (core_program called program)
program-kept keeps levels sound closed plain program within built called names =
    let kept : KeepsMeaning program (core_program called program) = keeps program within.forms called names.own in
    let calls : ProgramCallsDefined (core_program called program) × NamesAreFree (core_program called program) = closed program within built called names in
    record {
      made = record { called = called; names = names; is = refl };
      sound = sound program within built called names;
      plain = plain program within called;
      closed = calls.0;
      free = calls.1;
      defines = kept.defines;
      calls = calls-kept levels program built (core_program called program) kept;
    }
