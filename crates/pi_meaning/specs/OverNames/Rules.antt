-- What calls of a program's predicates and functions do, at each depth: rules, facts behind an `index`, and functions, those of the prelude among them (A User's Guide to
-- Picat, 'Predicates and Functions'; Ticks and depths, and what drains, are own).
use Rattle.std.specs.Prelude.{ℕ, zero, suc, Bool, false, cond, List, [], ◌∷◌, filter, filter_map, Option, Some, None, option_and_then, codes}
use Rattle.std.specs.List.{list_any}
use Rattle.pi_terms.specs.Tree.{Tree, comp, Trees, tree_count}
use Rattle.pi_constraints.specs.State.{State, bindings}
use Rattle.pi_constraints.specs.Unify.{unified}
use Rattle.pi_syntax.specs.ExpTree.{ExpTree}
use Rattle.pi_syntax.specs.ProgramTree.{RuleTree, FunctionTree, WrittenClause, rule, function, fact, PartTree, ProgramTree}
use Rattle.pi_syntax.specs.declared.program.Mode.{Mode}
use Rattle.pi_traces.specs.Trace.{Trace, done, one, alt, then}
use Rattle.pi_traces.specs.Control.{chosen}
use Rattle.pi_core.specs.CoreTree.{index_of}
use Rattle.pi_meaning.specs.Shared.Settle.{settled_from}
use Rattle.pi_meaning.specs.Shared.Drain.{drained}
use Rattle.pi_meaning.specs.Shared.Raise.{raised_with}
use Rattle.pi_meaning.specs.Shared.Level.{Level, Applied, Calls, level_of, ticked}
use Rattle.pi_meaning.specs.CoreMeaning.Facts.{fits_modes}
use Rattle.pi_meaning.specs.CoreMeaning.Rules.{chosen_rule}
use Rattle.pi_meaning.specs.OverNames.Environment.{Environment, Valued, ValuedAll}
use Rattle.pi_meaning.specs.OverNames.Place.{Place}
use Rattle.pi_meaning.specs.OverNames.WrittenRules.{is_rule_of, rules_of, is_signature, head_arguments}
use Rattle.pi_syntax.specs.Signature.{signature}
use Rattle.pi_meaning.specs.OverNames.Texts.{Names, places, behind}
use Rattle.pi_meaning.specs.OverNames.Terms.{written_terms}
use Rattle.pi_meaning.specs.OverNames.Heads.{patterns_matched}
use Rattle.pi_meaning.specs.OverNames.Stages.{RulesSetting}
use Rattle.pi_meaning.specs.OverNames.Control.{Goal, strictly}
use Rattle.pi_meaning.specs.OverNames.Forms.{plain}
use Rattle.pi_meaning.specs.OverNames.Goals.{goal_of, value_of}

-- ---- the clauses of a program

-- the head of a clause of a predicate, where there is one, and of a fact
abbrev pub predicate_head : Option WrittenClause → Option ExpTree
predicate_head None = None
predicate_head (Some (rule r)) = Some r.head
predicate_head (Some (function f)) = None
predicate_head (Some (fact head)) = Some head

abbrev pub fact_head : Option WrittenClause → Option ExpTree
fact_head None = None
fact_head (Some (rule r)) = None
fact_head (Some (function f)) = None
fact_head (Some (fact head)) = Some head

abbrev pub function_in : Option WrittenClause → Option FunctionTree
function_in None = None
function_in (Some (rule r)) = None
function_in (Some (function f)) = Some f
function_in (Some (fact head)) = None

abbrev pub is_head_of : List ℕ → ℕ → ExpTree → Bool
is_head_of name k head = is_signature name k (signature head)

-- those of one predicate or function, in order
abbrev pub rules_named : List ℕ → ℕ → ProgramTree → List RuleTree
rules_named name k program = filter (is_rule_of name k) (rules_of program)

abbrev pub facts_named : List ℕ → ℕ → ProgramTree → List ExpTree
facts_named name k program = filter (is_head_of name k) (filter_map (λ p. fact_head p.clause) program)

abbrev pub functions_named : List ℕ → ℕ → ProgramTree → List FunctionTree
functions_named name k program = filter (λ f. is_head_of name k f.head) (filter_map (λ p. function_in p.clause) program)

abbrev pub heads_named : List ℕ → ℕ → ProgramTree → List ExpTree
heads_named name k program = filter (is_head_of name k) (filter_map (λ p. predicate_head p.clause) program)

-- the mode lists of a predicate's `index`
abbrev pub is_head_in : List ℕ → ℕ → Option ExpTree → Bool
is_head_in name k None = false
is_head_in name k (Some head) = is_head_of name k head

abbrev pub modes_before : List ℕ → ℕ → PartTree → Option (List (List Mode)) → Option (List (List Mode))
modes_before name k p None = None
modes_before name k p (Some lists) = cond (is_head_in name k (fact_head p.clause)) (Some lists) None

abbrev pub first_modes : Option (List (List Mode)) → Option (List (List Mode)) → Option (List (List Mode))
first_modes None later = later
first_modes (Some lists) later = Some lists

unfoldable pub modes_named : List ℕ → ℕ → ProgramTree → Option (List (List Mode))
modes_named name k [] = None
modes_named name k (p ∷ parts) = first_modes (modes_before name k p (index_of p.decl)) (modes_named name k parts)

-- ---- rules

-- a condition is a strict place, of which the first answer counts; where there is none nothing is run
abbrev pub guarded : RulesSetting → Names → Option ExpTree → Goal
guarded set before None l p = one p
guarded set before (Some c) l p = strictly (goal_of set.calls before c) l p

abbrev pub places_in : Option ExpTree → Names
places_in None = []
places_in (Some e) = places e

-- the names that stand before a rule's body: those of its head, and of its condition
abbrev pub names_before : ExpTree → Option ExpTree → Names
names_before head c = behind (behind [] (places head)) (places_in c)

-- a rule that is tried: for what call, its number, and the rule
pub record TriedRule : Type 0 where
  pub call : Tree
  pub number : ℕ
  pub rule : RuleTree

abbrev pub tried_rule : Tree → ℕ → RuleTree → TriedRule
tried_rule call i r = record { call = call; number = i; rule = r }

-- a rule runs its body; an action rule has one answer instead, in which the call is a new agent
abbrev pub body_or_agent : RulesSetting → TriedRule → List ExpTree → Level → Place → Trace State
body_or_agent set t [] l p = then (goal_of set.calls (names_before t.rule.head t.rule.cond) t.rule.body l p) (λ q. one q.state)
body_or_agent set t (e ∷ es) l p = set.agent t.call t.number (e ∷ es) p

-- an action rule is committed
abbrev pub leaves_later : RuleTree → List ExpTree → Bool
leaves_later r [] = r.back
leaves_later r (e ∷ es) = false

-- A rule applies where its head matches, from an empty environment, and its condition has an answer. A committed rule ends the choice; of a backtrackable one the later
-- rules are alternatives.
abbrev pub rule_or_later : RulesSetting → TriedRule → Level → State → Trace State → Option Environment → Trace State
rule_or_later set t l s later None = later
rule_or_later set t l s later (Some e) =
    chosen (guarded set (behind [] (places t.rule.head)) t.rule.cond l (record { names = e; state = s }))
    (λ p. chosen_rule (leaves_later t.rule t.rule.events) (body_or_agent set t t.rule.events l p) later) later

-- a call that is made: the level of its clauses, its arguments, and the state
pub record CallMade : Type 0 where
  pub level : Level
  pub args : Trees
  pub state : State

abbrev pub call_made : Level → Trees → State → CallMade
call_made l ts s = record { level = l; args = ts; state = s }

-- rules in order, each with its number; no rule, no answer
unfoldable pub rules_called : RulesSetting → Tree → ℕ → List RuleTree → CallMade → Trace State
rules_called set call i [] c = done
rules_called set call i (r ∷ rs) c =
    rule_or_later set (tried_rule call i r) c.level c.state (rules_called set call (suc i) rs c)
    (patterns_matched (bindings c.state) (head_arguments r.head) c.args [])

-- ---- facts

-- one after the other, each unified with the call in the call's state, and settled
abbrev pub unified_with : Trees → ValuedAll → Option State
unified_with ts all = unified all.state (comp [] ts) (comp [] all.trees)

unfoldable pub facts_called : List ExpTree → Trees → State → Trace State
facts_called [] ts s = done
facts_called (head ∷ heads) ts s =
    alt (settled_from s (option_and_then (unified_with ts) (written_terms (head_arguments head) [] s))) (facts_called heads ts s)

-- a call fails where no mode list fits
abbrev pub predicate_run : RulesSetting → ProgramTree → List ℕ → CallMade → Option (List (List Mode)) → Trace State
predicate_run set program name c None = rules_called set (comp name c.args) 0 (rules_named name (tree_count c.args) program) c
predicate_run set program name c (Some lists) =
    cond (list_any (λ modes. fits_modes (bindings c.state) modes c.args) lists)
    (facts_called (facts_named name (tree_count c.args) program) c.args c.state) done

-- ---- functions

abbrev pub body_or_none : RulesSetting → Names → Option ExpTree → Goal
body_or_none set before None l p = one p
body_or_none set before (Some body) l p = goal_of set.calls before body l p

abbrev pub applied : Valued → Applied
applied x = record { value = x.tree; state = x.state }

-- The names that stand before a function's condition: those of its head, and of its value, which is written before condition and body. The value is evaluated behind the
-- body, so that those of the body stand before it.
abbrev pub function_names : FunctionTree → Names
function_names f = behind (behind [] (places f.head)) (places f.value)

-- the body, whose answers count when nothing waits any more, and behind it the value
abbrev pub value_run : RulesSetting → FunctionTree → Level → Place → Trace Applied
value_run set f l p =
    then (strictly (body_or_none set (behind (function_names f) (places_in f.cond)) f.body) l p)
    (λ q. then (value_of set.calls plain (behind (names_before f.head f.cond) (places_in f.body)) f.value l q) (λ x. one (applied x)))

-- a function's rules are committed
abbrev pub function_or_later : RulesSetting → FunctionTree → Level → State → Trace Applied → Option Environment → Trace Applied
function_or_later set f l s later None = later
function_or_later set f l s later (Some e) =
    chosen (guarded set (function_names f) f.cond l (record { names = e; state = s })) (λ p. value_run set f l p) later

unfoldable pub functions_called : RulesSetting → List FunctionTree → Level → Trees → State → Trace Applied
functions_called set [] l ts s = done
functions_called set (f ∷ fs) l ts s =
    function_or_later set f l s (functions_called set fs l ts s) (patterns_matched (bindings s) (head_arguments f.head) ts [])

-- the first answer is the call's; where there is none the call is raised as unresolved
abbrev pub function_run : RulesSetting → ProgramTree → Level → List ℕ → Trees → State → Trace Applied
function_run set program l name ts s =
    chosen (functions_called set (functions_named name (tree_count ts) program) l ts s) (λ a. one a) (raised_with (codes "unresolved_function_call") (comp name ts) s)

-- ---- depths

-- draining, at a level that calls lead to; nothing waits so far
abbrev pub drained_by : RulesSetting → ProgramTree → Option Level → State → Trace State
drained_by set program below s = drained s

-- a call takes one from the depth, by a Tick
unfoldable pub calls_by : RulesSetting → ProgramTree → Option Level → Calls
calls_by set program below = record {
  called = λ name ts s. ticked below (λ l. predicate_run set program name (call_made l ts s) (modes_named name (tree_count ts) program));
  applied = λ name ts s. ticked below (λ l. function_run set program l name ts s);
  drained = λ s. drained_by set program below s;
}

unfoldable pub level_for : RulesSetting → ProgramTree → ℕ → Level
level_for set program zero = level_of (calls_by set program None) None
level_for set program (suc d) = level_of (calls_by set program (Some (level_for set program d))) (Some (level_for set program d))
