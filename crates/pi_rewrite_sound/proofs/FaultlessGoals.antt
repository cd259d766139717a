-- A goal without a fault that is built is one that is asked.
use Rattle.std.proofs.Common.{◌≡◌, ℕ, Bool, true, false, if◌then◌else◌, List, ◌++◌, refl, ap, subst}
use Rattle.std.specs.Prelude.{Option, Some, None}
use Rattle.std.proofs.lemmas.Bool.{or_parts}
use Rattle.pi_syntax.specs.ExpTree.{ExpTree}
use Rattle.pi_syntax.specs.ProgramTree.{ProgramTree}
use Rattle.pi_syntax.specs.Tokens.{Token}
use Rattle.pi_meaning.specs.OverNames.Prelude.{prelude}
use Rattle.pi_prog_clauses.specs.Calls.{Named, calls_among, first_unknown}
use Rattle.pi_prog_clauses.specs.GoalVerdict.{defined_by_program, GoalVerdict, a_goal, goal_is_faulty, calls_unknown, unknown_goal, goal_verdict, JudgesGoal, goal_too_deep, no_goal, an_expression}
use Rattle.pi_prog_clauses.specs.Items.{misplaces, are_bad_nodes}
use Rattle.pi_prog_clauses.specs.Places.{goal, placed}
use Rattle.pi_prog_clauses.specs.Reading.{variable_names}
use Rattle.pi_prog_clauses.specs.Stretch.{without_end}
use Rattle.pi_prog_clauses.specs.Verdict.{BadClause, TooManyVariables, has_too_many_names}
use Rattle.pi_rewrite_laws.specs.Within.{knows}
use Rattle.pi_rewrite_sound.specs.FaultlessLaws.{FaultlessGoalsAreAsked}
use Rattle.pi_rewrite_sound.proofs.KnownCalls.{AreFine, nodes-fine}
use Rattle.pi_rewrite_sound.proofs.BuiltGoals.{goal-of}
use Rattle.pi_rewrite_sound.proofs.KnownNames.{program-has}

-- each call of the goal is known, and no node misplaced
abbrev IsFine : ProgramTree → ExpTree → Type 0
IsFine p e = AreFine (defined_by_program p) (placed (goal true) e)

goal-in : ExpTree → GoalVerdict → ExpTree
goal-in other (a_goal e) = e
goal-in other (goal_is_faulty f) = other
goal-in other (calls_unknown c) = other

by-unknown : (e found : ExpTree) (o : Option Named) → unknown_goal found o ≡ a_goal e → (o ≡ None) × (found ≡ e)
unfolding goal-in
by-unknown e found None is = (refl, ap (goal-in e) is)
by-unknown e found (Some c) is = absurd cc

by-tests : (bad crowded : Bool) (e found : ExpTree) (o : Option Named)
    → (if bad then goal_is_faulty BadClause else if crowded then goal_is_faulty TooManyVariables else unknown_goal found o) ≡ a_goal e → (bad ≡ false) × ((o ≡ None) × (found ≡ e))
by-tests true crowded e found o is = absurd cc
by-tests false true e found o is = absurd cc
by-tests false false e found o is = (refl, by-unknown e found o is)

fine-found : (p : ProgramTree) (found e : ExpTree) (names : List (List ℕ)) → goal_verdict p found names ≡ a_goal e → IsFine p e
unfolding goal_verdict misplaces
fine-found p found e names is =
    let tests = by-tests (are_bad_nodes (placed (goal true) found)) (has_too_many_names names) e found (first_unknown (defined_by_program p) (calls_among (placed (goal true) found))) is in
    subst (IsFine p) tests.1.1 (nodes-fine (defined_by_program p) (placed (goal true) found) tests.1.0 (or_parts (misplaces (placed (goal true) found)) _ tests.0).0)

fine-judged : (p : ProgramTree) (ts : List Token) (v : GoalVerdict) (e : ExpTree) → JudgesGoal p ts v → v ≡ a_goal e → IsFine p e
fine-judged p ts v e (goal_too_deep deep) is = absurd cc
fine-judged p ts v e (no_goal none) is = absurd cc
fine-judged p ts v e (an_expression {e = found} read) is = fine-found p found e (variable_names ts) is

pub faultless-goals-are-asked : FaultlessGoalsAreAsked
faultless-goals-are-asked tokens program e has built =
    let fine : IsFine program e = fine-judged program (without_end tokens) (a_goal e) e has refl in
    goal-of (defined_by_program program) (knows (prelude ++ program)) (program-has program) true e built fine.0.0 fine.1
