-- Which programs and goals call terms by `call`, by what is written alone. What such a call leads to is told only by a run, so it may be any name of the language; without one, a program
-- calls the names that stand in it. (Own.)
use Rattle.std.specs.Prelude.{◌≡◌, ◌⊎◌, ℕ, Bool, true, false, ◌||◌, List, [], ◌∷◌, Option, Some, None}
use Rattle.pi_terms.specs.Tree.{Trees, tree_count}
use Rattle.pi_constraints.specs.State.{State}
use Rattle.pi_syntax.specs.ExpTree.{ExpTree, var, int, atom, str, list, list_onto, array, call, quote, index, range, range_by, at, collect, and, or, arrow, if_then, if_else, foreach, while_do, do_while, ExpTrees, no_exps, exp, ExpBranches, no_branches, branch}
use Rattle.pi_syntax.specs.ProgramTree.{RuleTree, FunctionTree, WrittenClause, rule, function, fact, ProgramTree}
use Rattle.pi_syntax.specs.Signature.{exp_count}
use Rattle.pi_settling.specs.DomainValues.{is_domain_function}
use Rattle.pi_settling.specs.Goals.{is_constraint_goal}
use Rattle.pi_settling.specs.SolveCalls.{is_solve}
use Rattle.pi_meaning.specs.Shared.View.{View}
use Rattle.pi_meaning.specs.Shared.Level.{Level}
use Rattle.pi_meaning.specs.Shared.Names.{is_call}
use Rattle.pi_meaning.specs.Shared.Given.{Later}
use Rattle.pi_meaning.specs.CoreMeaning.Instances.{built_later}
use Rattle.pi_meaning.specs.OverNames.Stages.{LaterStages, built_stages}

-- A call of `call` stands in it, at any depth. Behind `$` all is a term, which calls nothing where it stands.
unfoldable mutual
  pub calls_terms : ExpTree → Bool
  calls_terms (var name) = false
  calls_terms (int n) = false
  calls_terms (atom name) = false
  calls_terms (str text) = false
  calls_terms (list es) = some_call_terms es
  calls_terms (list_onto es e) = some_call_terms es || calls_terms e
  calls_terms (array es) = some_call_terms es
  calls_terms (call name es) = is_call name (exp_count es) || some_call_terms es
  calls_terms (quote e) = false
  calls_terms (index e es) = calls_terms e || some_call_terms es
  calls_terms (range first last) = calls_terms first || calls_terms last
  calls_terms (range_by first step last) = calls_terms first || (calls_terms step || calls_terms last)
  calls_terms (at name e) = calls_terms e
  calls_terms (collect is_array e es) = calls_terms e || some_call_terms es
  calls_terms (and es) = some_call_terms es
  calls_terms (or es) = some_call_terms es
  calls_terms (arrow c e) = calls_terms c || calls_terms e
  calls_terms (if_then bs) = some_branch_calls_terms bs
  calls_terms (if_else bs e) = some_branch_calls_terms bs || calls_terms e
  calls_terms (foreach es e) = some_call_terms es || calls_terms e
  calls_terms (while_do c e) = calls_terms c || calls_terms e
  calls_terms (do_while e c) = calls_terms e || calls_terms c

  pub some_call_terms : ExpTrees → Bool
  some_call_terms no_exps = false
  some_call_terms (exp e es) = calls_terms e || some_call_terms es

  pub some_branch_calls_terms : ExpBranches → Bool
  some_branch_calls_terms no_branches = false
  some_branch_calls_terms (branch c e bs) = calls_terms c || (calls_terms e || some_branch_calls_terms bs)

-- ---- parts: a head calls nothing, and a fact is a head

abbrev pub calls_terms_if : Option ExpTree → Bool
calls_terms_if None = false
calls_terms_if (Some e) = calls_terms e

abbrev pub rule_calls_terms : RuleTree → Bool
rule_calls_terms r = calls_terms_if r.cond || calls_terms r.body

abbrev pub function_calls_terms : FunctionTree → Bool
function_calls_terms f = calls_terms_if f.cond || (calls_terms_if f.body || calls_terms f.value)

abbrev pub clause_calls_terms : Option WrittenClause → Bool
clause_calls_terms None = false
clause_calls_terms (Some (rule r)) = rule_calls_terms r
clause_calls_terms (Some (function f)) = function_calls_terms f
clause_calls_terms (Some (fact head)) = false

unfoldable pub program_calls_terms : ProgramTree → Bool
program_calls_terms [] = false
program_calls_terms (p ∷ ps) = clause_calls_terms p.clause || program_calls_terms ps

-- neither a program nor a goal that is asked of it calls a term
abbrev pub CallNoTerms : ProgramTree → ExpTree → Type 0
CallNoTerms program goal = (program_calls_terms program ≡ false) × (calls_terms goal ≡ false)

-- ---- what is said of them

-- goals of constraints, labelling and functions of domains do what is built, labelling at each level
pub record GivesBuilt (later : Later) : Type 0 where
  pub goals : (v : View) (l : Level) (name : List ℕ) (ts : Trees) (s : State) → is_constraint_goal name (tree_count ts) ≡ true →
      later.predicate v l name ts s ≡ built_later.predicate v l name ts s
  pub labelling : (v : View) (l : Level) (name : List ℕ) (ts : Trees) (s : State) → is_solve name (tree_count ts) ≡ true →
      later.predicate v l name ts s ≡ built_later.predicate v l name ts s
  pub functions : (name : List ℕ) (ts : Trees) (s : State) → is_domain_function name (tree_count ts) ≡ true → later.function name ts s ≡ built_later.function name ts s

-- A program means the same whatever events and planner calls do; where it calls terms, that is said of what it means where these aren't there: so far they are unknown to
-- `call`.
abbrev pub ProgramAllows : LaterStages → ProgramTree → Type 0
ProgramAllows later program = ((program_calls_terms program ≡ false) × GivesBuilt later.calls) ⊎ (later ≡ built_stages)

-- so with a goal that is asked of it
abbrev pub Allows : LaterStages → ProgramTree → ExpTree → Type 0
Allows later program goal = (CallNoTerms program goal × GivesBuilt later.calls) ⊎ (later ≡ built_stages)
