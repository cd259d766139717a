-- Which lines of a goal's run are written, beside the texts that the program writes itself.
use Rattle.std.specs.Prelude.{ℕ, List, [], ◌∷◌}
use Rattle.pi_top.specs.QueryEnd.{QueryEnd, Stopped, NoMore, No, Exception, StepsSpent, WorkSpent, line_of}
use Rattle.pi_top.specs.declared.manner.Lines.{Lines}
use Rattle.pi_top.specs.declared.manner.Lines.TheVariants.{All, WithoutAnswers}

-- these lines tell of an answer
abbrev pub where_told : Lines → List (List ℕ) → List (List ℕ)
where_told All lines = lines
where_told WithoutAnswers lines = []

-- the line of an end: one behind answers tells of them
abbrev pub end_lines : Lines → QueryEnd → List (List ℕ)
end_lines lines Stopped = where_told lines (line_of Stopped ∷ [])
end_lines lines NoMore = where_told lines (line_of NoMore ∷ [])
end_lines lines No = line_of No ∷ []
end_lines lines (Exception ball) = line_of (Exception ball) ∷ []
end_lines lines StepsSpent = line_of StepsSpent ∷ []
end_lines lines WorkSpent = line_of WorkSpent ∷ []
