-- The trace and the run of a goal that is asked of a program, over its names. (Own.)
use Rattle.std.specs.Prelude.{◌≡◌, ℕ, ◌++◌, Bool, true, false, List, [], ◌∷◌}
use Rattle.pi_syntax.specs.ExpTree.{ExpTree}
use Rattle.pi_syntax.specs.ProgramTree.{ProgramTree}
use Rattle.pi_traces.specs.Trace.{Trace, then}
use Rattle.pi_traces.specs.Depth.{Cut, cut, CutWithoutDeep}
use Rattle.pi_meaning.specs.Shared.View.{View}
use Rattle.pi_meaning.specs.Shared.Level.{Level}
use Rattle.pi_meaning.specs.OverNames.Place.{Place, beginning}
use Rattle.pi_meaning.specs.OverNames.Telling.{told_behind, telling, Told, place_told, told_trace}
use Rattle.pi_meaning.specs.OverNames.Texts.{Names, places}
use Rattle.pi_meaning.specs.OverNames.Stages.{LaterStages, RulesSetting}
use Rattle.pi_meaning.specs.OverNames.Control.{strictly}
use Rattle.pi_meaning.specs.OverNames.Goals.{goal_of}
use Rattle.pi_meaning.specs.OverNames.Rules.{heads_named, level_for}
use Rattle.pi_meaning.specs.OverNames.Prelude.{prelude}

abbrev pub is_some_head : List ExpTree → Bool
is_some_head [] = false
is_some_head (e ∷ es) = true

-- the setting of a program, with the prelude
abbrev pub setting : View → LaterStages → ProgramTree → RulesSetting
setting v later program = record {
  calls = record { view = v; later = later.calls; defines = λ name k. is_some_head (heads_named name k (prelude ++ program)) };
  agent = later.agent;
}

-- the level of a depth
abbrev pub program_level : View → LaterStages → ProgramTree → ℕ → Level
program_level v later program d = level_for (setting v later program) (prelude ++ program) d

-- the names that an answer of a goal tells: those outside of loops and comprehensions that don't begin with `_`, each once, by first occurrence
abbrev pub answer_names : ExpTree → Names
answer_names goal = told_behind [] (places goal)

-- The trace of a goal that is asked of a program, at a depth, from a place. An answer counts when nothing waits any more.
unfoldable pub names_from : View → LaterStages → ProgramTree → ExpTree → ℕ → Place → Trace Place
names_from v later program goal d p =
    then (strictly (goal_of (setting v later program).calls [] goal) (program_level v later program d) p) (telling (answer_names goal))

-- It begins with no names in the empty state.
unfoldable pub names_trace : View → LaterStages → ProgramTree → ExpTree → ℕ → Trace Place
names_trace v later program goal d = names_from v later program goal d beginning

-- What a program does with a goal under a view, before Tick number n + 1: its trace, cut there, at a depth that reaches to the cut.
pub record IsNamesRun (v : View) (later : LaterStages) (program : ProgramTree) (goal : ExpTree) (n : ℕ) (c : Cut Told) : Type 0 where
  pub depth : ℕ
  pub reaches : CutWithoutDeep n (names_trace v later program goal depth)
  pub is_cut : c ≡ cut n (told_trace (place_told (answer_names goal)) (names_trace v later program goal depth))
