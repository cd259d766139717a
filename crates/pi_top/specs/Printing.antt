-- What a part of a goal's run prints.
use Rattle.std.specs.Prelude.{ℕ, List, [], ◌∷◌, ◌++◌}
use Rattle.pi_traces.specs.Trace.{Tick, Load, Out, Emitted, noted, answered}
use Rattle.pi_meaning.specs.OverNames.Telling.{Told, told_answer}
use Rattle.pi_print_terms.specs.PrintAnswer.{answer_lines}
use Rattle.pi_top.specs.declared.manner.Lines.{Lines}
use Rattle.pi_top.specs.ToldLines.{where_told}

-- The texts, in order: an answer prints its lines, where they are written, a text itself; Ticks and loads print nothing.
unfoldable pub print : Lines → List (Emitted Told) → List (List ℕ)
print lines [] = []
print lines (noted Tick ∷ events) = print lines events
print lines (noted (Load k) ∷ events) = print lines events
print lines (noted (Out text) ∷ events) = text ∷ print lines events
print lines (answered x ∷ events) = where_told lines (answer_lines (told_answer x)) ++ print lines events
