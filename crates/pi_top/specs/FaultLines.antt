-- The lines of the faults of texts, without what stands in front of them and the line feed. Names are written as they are, numbers as
-- decimals. (Own.)
use Rattle.std.specs.Prelude.{ℕ, List, ◌++◌, Option, None, Some}
use Rattle.std.specs.Fmt.{decimal}
use lib.Chars.{codes}
use Rattle.pi_syntax.specs.Tokens.{Fault, TooLong, NotUtf8, BadToken, WideInteger}
use Rattle.pi_prog_clauses.specs.Calls.{Named}
use Rattle.pi_prog_clauses.specs.GoalVerdict.{GoalVerdict, a_goal, goal_is_faulty, calls_unknown}
use Rattle.pi_prog_clauses.specs.Verdict.{PartFault, TooDeep, BadDeclaration, BadClause, TooManyVariables, Verdict, a_program, part_is_faulty, is_scattered, is_unknown}

-- of a text that has no tokens
abbrev pub token_line : Fault → List ℕ
token_line TooLong = codes "TooLong"
token_line (NotUtf8 place) = codes "NotUtf8 at " ++ decimal place
token_line (BadToken line) = codes "BadToken line " ++ decimal line
token_line (WideInteger line) = codes "WideInteger line " ++ decimal line

abbrev pub part_word : PartFault → List ℕ
part_word TooDeep = codes "TooDeep "
part_word BadDeclaration = codes "BadDeclaration "
part_word BadClause = codes "BadClause "
part_word TooManyVariables = codes "TooManyVariables "

-- of a part with its number
abbrev pub part_line : PartFault → ℕ → List ℕ
part_line fault number = part_word fault ++ decimal number

-- a name, with the number of its arguments
abbrev pub name_text : Named → List ℕ
name_text called = called.name ++ (codes "/" ++ decimal called.arity)

-- of a predicate or a function whose clauses don't stand together
abbrev pub scattered_line : Named → List ℕ
scattered_line defined = codes "Scattered " ++ name_text defined

-- of a name that is called in a part and isn't there
abbrev pub unknown_line : Named → ℕ → List ℕ
unknown_line called number = codes "UnknownName " ++ (name_text called ++ (codes " in " ++ decimal number))

-- of what a program's tokens come to, where that is a fault
abbrev pub verdict_line : Verdict → Option (List ℕ)
verdict_line (a_program program) = None
verdict_line (part_is_faulty faulty) = Some (part_line faulty.fault faulty.number)
verdict_line (is_scattered defined) = Some (scattered_line defined)
verdict_line (is_unknown unknown) = Some (unknown_line unknown.called unknown.number)

-- of what a goal's tokens come to; a goal is part 1
abbrev pub goal_verdict_line : GoalVerdict → Option (List ℕ)
goal_verdict_line (a_goal goal) = None
goal_verdict_line (goal_is_faulty fault) = Some (part_line fault 1)
goal_verdict_line (calls_unknown called) = Some (unknown_line called 1)

-- of a part that has what isn't built
abbrev pub not_built_line : ℕ → List ℕ
not_built_line number = codes "NotBuilt " ++ decimal number

-- the whole line on a program, and on a goal
abbrev pub of_program : List ℕ → List ℕ
of_program line = codes "program: " ++ (line ++ codes "\n")

abbrev pub of_goal : List ℕ → List ℕ
of_goal line = codes "goal: " ++ (line ++ codes "\n")
