-- What is built, and calls no term, means the same whatever events, planner calls and agents do, where goals of constraints, labelling and functions of domains do what is built. (Own.)
use Rattle.std.specs.Prelude.{◌≡◌, ℕ, true, false, None}
use Rattle.pi_syntax.specs.ExpTree.{ExpTree}
use Rattle.pi_syntax.specs.ProgramTree.{ProgramTree}
use Rattle.pi_traces.specs.Depth.{Cut}
use Rattle.pi_meaning.specs.Shared.View.{View}
use Rattle.pi_meaning.specs.OverNames.Place.{Place}
use Rattle.pi_meaning.specs.OverNames.Telling.{Told}
use Rattle.pi_meaning.specs.OverNames.Stages.{LaterStages}
use Rattle.pi_meaning.specs.OverNames.Run.{program_level, names_from, IsNamesRun}
use Rattle.pi_rewrite_laws.specs.Levels.{SameLevels}
use Rattle.pi_rewrite_laws.specs.Laws.{known_of}
use Rattle.pi_rewrite_sound.specs.Built.{is_built_goal, unbuilt_part}
use Rattle.pi_rewrite_sound.specs.TermCalls.{program_calls_terms, CallNoTerms, GivesBuilt}

-- The level of each depth is one: what calls of each predicate and each function do at it and below it, and what draining does.
abbrev pub LevelsAreTheSame : Type 0
LevelsAreTheSame = (program : ProgramTree) → unbuilt_part program ≡ None → program_calls_terms program ≡ false → (v : View) (a b : LaterStages) → GivesBuilt a.calls → GivesBuilt b.calls → (d : ℕ) →
    program_level v a program d ≡ program_level v b program d

-- so calls of what the program has, with the prelude, do the same
abbrev pub CallsAreTheSame : Type 0
CallsAreTheSame = (program : ProgramTree) → unbuilt_part program ≡ None → program_calls_terms program ≡ false → (v : View) (a b : LaterStages) → GivesBuilt a.calls → GivesBuilt b.calls → (d : ℕ) →
    SameLevels (known_of program) (program_level v a program d) (program_level v b program d)

-- and a goal has one trace, from each place
abbrev pub GoalsAreTheSame : Type 0
GoalsAreTheSame = (program : ProgramTree) (goal : ExpTree) → unbuilt_part program ≡ None → is_built_goal goal ≡ true → CallNoTerms program goal → (v : View) (a b : LaterStages) →
    GivesBuilt a.calls → GivesBuilt b.calls → (d : ℕ) (p : Place) →
    names_from v a program goal d p ≡ names_from v b program goal d p

-- and the same runs
abbrev pub RunsAreTheSame : Type 0
RunsAreTheSame = (program : ProgramTree) (goal : ExpTree) → unbuilt_part program ≡ None → is_built_goal goal ≡ true → CallNoTerms program goal → (v : View) (a b : LaterStages) →
    GivesBuilt a.calls → GivesBuilt b.calls → (n : ℕ) (c : Cut Told) →
    IsNamesRun v a program goal n c → IsNamesRun v b program goal n c
