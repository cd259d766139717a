-- What is asked in a mode, and how.
use Rattle.std.specs.Prelude.{ℕ, List, unwrap_or}
use lib.Chars.{codes}
use Rattle.pi_top_words.specs.declared.asked.Options.{Options}
use Rattle.pi_top_words.specs.declared.run_mode.RunMode.{RunMode}
use Rattle.pi_top_words.specs.declared.run_mode.RunMode.TheVariants.{Run, Demo}
use Rattle.pi_top.specs.declared.manner.Lines.TheVariants.{All, WithoutAnswers}
use Rattle.pi_top.specs.declared.manner.Manner.{Manner}

-- as many answers as the words say, all of whose lines are written
abbrev pub as_asked : Options → Manner
as_asked asked = record { answers = asked.answers; steps = asked.steps; work = asked.work; lines = All }

-- one answer, of which nothing is written
abbrev pub once : Options → Manner
once asked = record { answers = 1; steps = asked.steps; work = asked.work; lines = WithoutAnswers }

abbrev pub manner_in : RunMode → Options → Manner
manner_in Run asked = once asked
manner_in Demo asked = once asked
manner_in other asked = as_asked asked

abbrev pub manner_of : Options → Manner
manner_of asked = manner_in asked.mode asked

-- GOAL, which the words have in the mode `query`, and else `main`
abbrev pub goal_of : Options → List ℕ
goal_of asked = unwrap_or asked.goal (codes "main")
