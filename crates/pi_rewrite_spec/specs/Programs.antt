-- What a program and a goal are lowered to, their loops among the rest: clauses, and the helpers of loops behind all that the program defines. (Own.)
use Rattle.std.specs.Prelude.{ℕ, ◌+◌, true, false, List, [], ◌∷◌, ◌++◌, length, Option, Some, None}
use Rattle.std.specs.List.{cons_option}
use Rattle.pi_syntax.specs.ExpTree.{ExpTree}
use Rattle.pi_syntax.specs.ProgramTree.{RuleTree, FunctionTree, WrittenClause, rule, function, fact, ProgramTree}
use Rattle.pi_syntax.specs.Signature.{signature}
use Rattle.pi_syntax.specs.declared.program.Mode.{Mode}
use Rattle.pi_core.specs.CoreTree.{ClauseTree, PredTree, QueryTree, index_of}
use Rattle.pi_meaning.specs.OverNames.Texts.{Names, places, behind}
use Rattle.pi_meaning.specs.OverNames.Rules.{places_in, names_before, function_names}
use Rattle.pi_meaning.specs.OverNames.Prelude.{prelude}
use Rattle.pi_meaning.specs.OverNames.Run.{answer_names}
use Rattle.pi_rewrite_spec.specs.Slots.{SlotNames, named_slots, slots_behind}
use Rattle.pi_rewrite_spec.specs.Values.{last_value}
use Rattle.pi_rewrite_spec.specs.Goals.{SlotGoals, in_turn}
use Rattle.pi_rewrite_spec.specs.Sites.{Site, helpers_in, behind_site}
use Rattle.pi_rewrite_spec.specs.Written.{made, goal_of}
use Rattle.pi_rewrite_spec.specs.Helpers.{value_helpers, goal_helpers}
use Rattle.pi_rewrite_spec.specs.Clauses.{head_forms, head_slots, rule_with, function_with, lowered_fact, named_by, Lowering, grouped_all}

-- what helpers are called, by their numbers
abbrev pub Naming : Type 0
Naming = ℕ → List ℕ

-- ---- goals that may be left out

abbrev pub option_goals : Site → Option ExpTree → SlotNames → SlotGoals
option_goals s None ns = record { goals = []; names = ns }
option_goals s (Some e) ns = goal_of s e ns

abbrev pub option_count : Option ExpTree → ℕ
option_count None = 0
option_count (Some e) = helpers_in e

abbrev pub option_helpers : Site → Option ExpTree → List PredTree
option_helpers s None = []
option_helpers s (Some e) = goal_helpers s e

abbrev pub behind_option : Site → Option ExpTree → Site
behind_option s o = behind_site s (places_in o) (option_count o)

-- ---- clauses, each behind so many helpers

-- behind its head, with these names before
abbrev pub clause_site : Naming → ℕ → ExpTree → Names → Site
clause_site called n head before = record { filled = head_slots head; before = before; helpers = n; called = called }

abbrev pub rule_site : Naming → ℕ → RuleTree → Site
rule_site called n r = clause_site called n r.head (behind [] (places r.head))

abbrev pub written_rule : Naming → ℕ → RuleTree → ClauseTree
written_rule called n r =
    let s : Site = rule_site called n r in
    let guard : SlotGoals = option_goals s r.cond (head_forms r.head).names in
    rule_with r (head_slots r.head) (head_forms r.head) guard (goal_of (behind_option s r.cond) r.body guard.names)

abbrev pub rule_count : RuleTree → ℕ
rule_count r = option_count r.cond + helpers_in r.body

abbrev pub rule_helpers : Naming → ℕ → RuleTree → List PredTree
rule_helpers called n r = option_helpers (rule_site called n r) r.cond ++ goal_helpers (behind_option (rule_site called n r) r.cond) r.body

-- the value stands behind the body
abbrev pub function_site : Naming → ℕ → FunctionTree → Site
function_site called n f = clause_site called n f.head (function_names f)

abbrev pub value_site : Naming → ℕ → FunctionTree → Site
value_site called n f = clause_site called (n + (option_count f.cond + option_count f.body)) f.head (behind (names_before f.head f.cond) (places_in f.body))

abbrev pub written_function : Naming → ℕ → FunctionTree → ClauseTree
written_function called n f =
    let s : Site = function_site called n f in
    let guard : SlotGoals = option_goals s f.cond (head_forms f.head).names in
    let body : SlotGoals = option_goals (behind_option s f.cond) f.body guard.names in
    function_with f (head_forms f.head) guard body (last_value f.value body.names (made (value_site called n f) f.value body.names))

abbrev pub function_count : FunctionTree → ℕ
function_count f = option_count f.cond + (option_count f.body + helpers_in f.value)

abbrev pub function_helpers : Naming → ℕ → FunctionTree → List PredTree
function_helpers called n f =
    option_helpers (function_site called n f) f.cond ++ (option_helpers (behind_option (function_site called n f) f.cond) f.body ++ value_helpers (value_site called n f) f.value)

-- ---- programs

abbrev pub clause_count : Option WrittenClause → ℕ
clause_count None = 0
clause_count (Some (rule r)) = rule_count r
clause_count (Some (function f)) = function_count f
clause_count (Some (fact head)) = 0

-- a clause, with the mode lists that its part declares
abbrev pub written_clause : Naming → ℕ → Option (List (List Mode)) → Option WrittenClause → Option Lowering
written_clause called n modes None = None
written_clause called n modes (Some (rule r)) = Some (record { is_function = false; head = named_by (signature r.head); modes = None; clause = written_rule called n r })
written_clause called n modes (Some (function f)) = Some (record { is_function = true; head = named_by (signature f.head); modes = None; clause = written_function called n f })
written_clause called n modes (Some (fact head)) = Some (record { is_function = false; head = named_by (signature head); modes = modes; clause = lowered_fact head })

abbrev pub clause_helpers : Naming → ℕ → Option WrittenClause → List PredTree
clause_helpers called n None = []
clause_helpers called n (Some (rule r)) = rule_helpers called n r
clause_helpers called n (Some (function f)) = function_helpers called n f
clause_helpers called n (Some (fact head)) = []

unfoldable pub clauses_of : Naming → ℕ → ProgramTree → List Lowering
clauses_of called n [] = []
clauses_of called n (p ∷ program) = cons_option (written_clause called n (index_of p.decl) p.clause) (clauses_of called (n + clause_count p.clause) program)

unfoldable pub helpers_of : Naming → ℕ → ProgramTree → List PredTree
helpers_of called n [] = []
helpers_of called n (p ∷ program) = clause_helpers called n p.clause ++ helpers_of called (n + clause_count p.clause) program

-- the helpers stand behind
unfoldable pub core_program : Naming → ProgramTree → List PredTree
core_program called program = grouped_all (clauses_of called 0 (prelude ++ program)) ++ helpers_of called 0 (prelude ++ program)

-- ---- goals that are asked

abbrev pub query_site : Naming → Site
query_site called = record { filled = 0; before = []; helpers = 0; called = called }

abbrev pub query_with : Names → SlotGoals → List PredTree → QueryTree
query_with told goal helpers = record { goal = in_turn goal.goals; helpers = helpers; names = named_slots told goal.names; slots = length (slots_behind told goal.names) }

unfoldable pub core_query : Naming → ExpTree → QueryTree
core_query called goal = query_with (answer_names goal) (goal_of (query_site called) goal []) (goal_helpers (query_site called) goal)
