-- What the faults of the code say.
use Rattle.std.specs.Prelude.{◌≡◌, ◌⊎◌, ℕ, List, Result}
use Rattle.std.specs.Prelude as prelude
use Rattle.pi_syntax.specs.ProgramTree.{ProgramTree, source_tree, goal_source}
use Rattle.pi_syntax.specs.Tokens.{Token}
use Rattle.pi_syntax.specs.declared.program.Program.{Program}
use Rattle.pi_syntax.specs.declared.program.Goal.{Goal}
use Rattle.pi_prog_clauses.specs.Calls.{Named}
use Rattle.pi_prog_clauses.specs.GoalVerdict.{GoalVerdict, a_goal, goal_is_faulty, calls_unknown, HasGoalVerdict}
use Rattle.pi_prog_clauses.specs.Verdict as spec
use Rattle.pi_prog_clauses.specs.Verdict.{Verdict, a_program, part_is_faulty, is_scattered, is_unknown, HasVerdict}
use Rattle.pi_prog_clauses.specs.declared.prog_fault.ProgFault.{ProgFault}
use Rattle.pi_prog_clauses.specs.declared.prog_fault.ProgFault.TheVariants as fault

-- a part with this number has this fault
abbrev pub IsFaulty : spec.Faulty → ℕ → spec.PartFault → Type 0
IsFaulty f number fault = (number ≡ f.number) × (fault ≡ f.fault)

-- a name with so many arguments
abbrev pub IsNamed : Named → List ℕ → ℕ → Type 0
IsNamed d name arity = (name ≡ d.name) × (arity ≡ d.arity)

-- the fault is the verdict
abbrev pub TellsFault : ProgFault → Verdict → Type 0
TellsFault (fault.BadClause number) (part_is_faulty f) = IsFaulty f number spec.BadClause
TellsFault (fault.TooDeep number) (part_is_faulty f) = IsFaulty f number spec.TooDeep
TellsFault (fault.BadDeclaration number) (part_is_faulty f) = IsFaulty f number spec.BadDeclaration
TellsFault (fault.TooManyVariables number) (part_is_faulty f) = IsFaulty f number spec.TooManyVariables
TellsFault (fault.UnknownName name arity number) (is_unknown u) = IsNamed u.called name arity × (number ≡ u.number)
TellsFault (fault.Scattered name arity) (is_scattered d) = IsNamed d name arity
TellsFault f v = ⊥

-- a goal is part 1
abbrev pub TellsGoalFault : ProgFault → GoalVerdict → Type 0
TellsGoalFault (fault.BadClause number) (goal_is_faulty f) = IsFaulty (record { number = 1; fault = f }) number spec.BadClause
TellsGoalFault (fault.TooDeep number) (goal_is_faulty f) = IsFaulty (record { number = 1; fault = f }) number spec.TooDeep
TellsGoalFault (fault.TooManyVariables number) (goal_is_faulty f) = IsFaulty (record { number = 1; fault = f }) number spec.TooManyVariables
TellsGoalFault (fault.UnknownName name arity number) (calls_unknown d) = IsNamed d name arity × (number ≡ 1)
TellsGoalFault f v = ⊥

-- want of memory says nothing of the tokens
abbrev pub IsTold : Verdict → ProgFault → Type 0
IsTold v fault.Memory = Unit {0}
IsTold v f = TellsFault f v

abbrev pub IsGoalTold : GoalVerdict → ProgFault → Type 0
IsGoalTold v fault.Memory = Unit {0}
IsGoalTold v f = TellsGoalFault f v

abbrev pub IsProgramFault : List Token → ProgFault → Type 0
IsProgramFault tokens fault.Memory = Unit {0}
IsProgramFault tokens f = (v : Verdict) × HasVerdict tokens v × TellsFault f v

abbrev pub IsGoalFault : List Token → ProgramTree → ProgFault → Type 0
IsGoalFault tokens program fault.Memory = Unit {0}
IsGoalFault tokens program f = (v : GoalVerdict) × HasGoalVerdict tokens program v × TellsGoalFault f v

-- a reader's answer to tokens with this verdict
abbrev pub AnswersProgram : Result Program ProgFault → Verdict → Type 0
AnswersProgram (prelude.Ok program) v = v ≡ a_program (source_tree program)
AnswersProgram (prelude.Err f) v = (f ≡ fault.Memory) ⊎ TellsFault f v

abbrev pub AnswersGoal : Result Goal ProgFault → GoalVerdict → Type 0
AnswersGoal (prelude.Ok goal) v = v ≡ a_goal (goal_source goal)
AnswersGoal (prelude.Err f) v = (f ≡ fault.Memory) ⊎ TellsGoalFault f v
