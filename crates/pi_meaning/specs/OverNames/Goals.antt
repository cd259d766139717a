-- What each goal does and what each expression comes to, by what it is made of: at a level, from a place, under a setting. `before` are the names that stand before it in
-- the text of its clause, which are what a loop leaves to those behind it. (A User's Guide to Picat, 'Data Types, Operators, and Built-ins', 'Predicates and
-- Functions', 'Assignments and Loops', 'List and Array Comprehensions'; the order of evaluation and what is strict are own.)
use Rattle.std.specs.Prelude.{ℕ, Bool, ◌++◌, cond, List, [], ◌∷◌, Option, Some, None}
use Rattle.pi_terms.specs.Tree.{Tree, comp}
use Rattle.pi_terms.specs.ListNames.{nil}
use Rattle.pi_syntax.specs.PrintTerm.{array_name}
use Rattle.pi_effects.specs.Texts.{text_list}
use Rattle.pi_syntax.specs.ExpTree.{ExpTree, var, int, atom, str, list, list_onto, array, call, quote, index, range, range_by, at, collect, and, or, arrow, if_then, if_else, foreach, while_do, do_while, ExpTrees, no_exps, exp, ExpBranches, no_branches, branch}
use Rattle.pi_syntax.specs.Signature.{exp_count}
use Rattle.pi_traces.specs.Trace.{Trace, done, one}
use Rattle.pi_meaning.specs.Shared.Given.{Setting}
use Rattle.pi_meaning.specs.OverNames.Environment.{known, Valued, name_valued}
use Rattle.pi_meaning.specs.OverNames.Texts.{Names, places, places_all, places_behind, places_caught, places_of_branches, occurring, occurring_all, behind, iterated, unit_places, begins_with_iterator, shared_names, names_inside, variable_first, assigned, kept_names}
use Rattle.pi_meaning.specs.OverNames.Terms.{items_onto, written_term}
use Rattle.pi_meaning.specs.OverNames.Control.{Goal, Value, Values, no_goal, no_value, draining, strictly, constantly, nothing, in_front, made_of, made_onto, following, Arrow, branch_before, choosing, value_at}
use Rattle.pi_meaning.specs.OverNames.Loops.{Finish, as_it_is, turning, unit, while_turns, do_turns, hidden, adding, in_order, comprehended, names_around}
use Rattle.pi_meaning.specs.OverNames.Forms.{form_of, call_goal, atom_goal, Reading, plain, readings, first_reading, later_readings, operand_readings, call_value, range_value, indexed_by}

-- a name is what it stands for, or a new variable
abbrev pub name_value : List ℕ → Value
name_value name l p = one (name_valued (known name p.names) name p.names p.state)

-- what stands behind `$` is a term
abbrev pub term_value : Option Valued → Trace Valued
term_value None = done
term_value (Some x) = one x

abbrev pub quoted_value : ExpTree → Value
quoted_value e l p = term_value (written_term e p.names p.state)

-- a loop from its iterators and tests on: where the first is an iterator the loop starts with it
abbrev pub started : Bool → Finish → Names → Names → Names → (Finish → Names → Goal) → Goal
started begins finish before inside kept turns = cond begins (turns finish before) (turning (names_around finish before inside kept) (strictly (turns as_it_is inside)))

unfoldable mutual
  -- an expression
  pub value_of : Setting → Reading → Names → ExpTree → Value
  value_of set r before (var name) l p = name_value name l p
  value_of set r before (int n) l p = constantly (Tree.int n) l p
  value_of set r before (atom name) l p = constantly (Tree.atom name) l p
  value_of set r before (str text) l p = constantly (text_list text) l p
  value_of set r before (list es) l p = made_of (λ ts. items_onto ts (Tree.atom nil)) (values_of set [] before es) l p
  value_of set r before (list_onto es e) l p = made_onto items_onto (values_of set [] before es) (value_of set plain (behind before (places_all es)) e) l p
  value_of set r before (array es) l p = made_of (comp array_name) (values_of set [] before es) l p
  value_of set r before (call name es) l p =
      call_value set r name (exp_count es) (record {
        variable = variable_first es;
        goals = goals_in set before es;
        values = values_in set before es;
        late = values_apart set (behind before (places_behind es)) es;
        all = values_of set (operand_readings r name (exp_count es)) before es;
      }) l p
  value_of set r before (quote e) l p = quoted_value e l p
  value_of set r before (index e es) l p = indexed_by set (value_of set plain before e) (values_in set (behind before (places e)) es) l p
  value_of set r before (range first last) l p =
      range_value set r (in_front (value_of set plain before first) (in_front (value_of set plain (behind before (places first)) last) nothing)) l p
  value_of set r before (range_by first step last) l p =
      range_value set r (in_front (value_of set plain before first) (in_front (value_of set plain (behind before (places first)) step)
      (in_front (value_of set plain (behind before (places first ++ places step)) last) nothing))) l p
  value_of set r before (collect is_array e es) l p =
      comprehended before (started (begins_with_iterator es) (in_order is_array) (before ++ hidden ∷ []) (shared_names (before ++ hidden ∷ []) (occurring_all es ++ hidden ∷ occurring e)) (hidden ∷ [])
      (λ finish inside. units_of set finish inside (hidden ∷ []) (hidden ∷ occurring e) es (λ names. adding (value_of set plain names e)))) l p
  value_of set r before (at name e) l p = no_value l p
  value_of set r before (and es) l p = no_value l p
  value_of set r before (or es) l p = no_value l p
  value_of set r before (arrow c e) l p = no_value l p
  value_of set r before (if_then bs) l p = no_value l p
  value_of set r before (if_else bs e) l p = no_value l p
  value_of set r before (foreach es e) l p = no_value l p
  value_of set r before (while_do c e) l p = no_value l p
  value_of set r before (do_while e c) l p = no_value l p

  -- expressions from the left
  pub values_of : Setting → List Reading → Names → ExpTrees → Values
  values_of set rs before no_exps l p = nothing l p
  values_of set rs before (exp e es) l p =
      in_front (value_of set (first_reading rs) before e) (values_of set (later_readings rs) (behind before (places e)) es) l p

  -- each by itself
  pub values_in : Setting → Names → ExpTrees → List Value
  values_in set before no_exps = []
  values_in set before (exp e es) = value_of set plain before e ∷ values_in set (behind before (places e)) es

  -- the same, each with just these names before it
  pub values_apart : Setting → Names → ExpTrees → List Value
  values_apart set before no_exps = []
  values_apart set before (exp e es) = value_of set plain before e ∷ values_apart set before es

  pub goals_in : Setting → Names → ExpTrees → List Goal
  goals_in set before no_exps = []
  goals_in set before (exp e es) = goal_of set before e ∷ goals_in set (behind before (places e)) es

  -- a goal
  pub goal_of : Setting → Names → ExpTree → Goal
  goal_of set before (atom name) l p = draining (atom_goal set name) l p
  goal_of set before (call name es) l p =
      draining (call_goal set name (form_of name (exp_count es)) (record {
        variable = variable_first es;
        goals = goals_in set (behind before (places_caught name es)) es;
        values = values_in set before es;
        late = values_apart set (behind before (places_behind es)) es;
        all = values_of set (readings name (exp_count es)) before es;
      })) l p
  goal_of set before (and es) l p = all_of set before es l p
  goal_of set before (or es) l p = draining (any_of set before es) l p
  goal_of set before (if_then bs) l p = draining (branches_of set before bs (λ m q. one q)) l p
  goal_of set before (if_else bs e) l p = draining (branches_of set before bs (goal_of set (behind before (places_of_branches bs)) e)) l p
  goal_of set before (foreach es e) l p =
      draining (started (begins_with_iterator es) as_it_is before (shared_names before (occurring_all es ++ occurring e)) (kept_names before es (assigned e))
      (λ finish inside. units_of set finish inside (assigned e) (occurring e) es (λ names. goal_of set names e))) l p
  goal_of set before (while_do c e) l p =
      let inside : Names = shared_names before (occurring c ++ occurring e) in
      draining (turning (names_around as_it_is before inside (kept_names before no_exps (assigned e))) (while_turns inside (goal_of set inside c) (goal_of set (behind inside (places c)) e))) l p
  goal_of set before (do_while e c) l p =
      let inside : Names = shared_names before (occurring e ++ occurring c) in
      draining (turning (names_around as_it_is before inside (kept_names before no_exps (assigned e))) (do_turns inside (goal_of set inside e) (goal_of set (behind inside (places e)) c))) l p
  goal_of set before (var name) l p = no_goal l p
  goal_of set before (int n) l p = no_goal l p
  goal_of set before (str text) l p = no_goal l p
  goal_of set before (list es) l p = no_goal l p
  goal_of set before (list_onto es e) l p = no_goal l p
  goal_of set before (array es) l p = no_goal l p
  goal_of set before (quote e) l p = no_goal l p
  goal_of set before (index e es) l p = no_goal l p
  goal_of set before (range first last) l p = no_goal l p
  goal_of set before (range_by first step last) l p = no_goal l p
  goal_of set before (at name e) l p = no_goal l p
  goal_of set before (collect is_array e es) l p = no_goal l p
  goal_of set before (arrow c e) l p = no_goal l p

  -- a conjunction: one after the other, each of which drains by itself
  pub all_of : Setting → Names → ExpTrees → Goal
  all_of set before no_exps l p = one p
  all_of set before (exp e es) l p = following (goal_of set before e) (all_of set (behind before (places e)) es) l p

  -- a disjunction: the answers of one, then those of the next; what stands behind a branch with an arrow is its else part
  pub any_of : Setting → Names → ExpTrees → Goal
  any_of set before no_exps l p = done
  any_of set before (exp e es) l p = branch_before (arrow_in set before e) (goal_of set before e) (any_of set (behind before (places e)) es) l p

  pub arrow_in : Setting → Names → ExpTree → Option Arrow
  arrow_in set before (arrow c e) = Some (record { test = goal_of set before c; body = goal_of set (behind before (places c)) e })
  arrow_in set before e = None

  -- conditions with their bodies, and what is done where none holds
  pub branches_of : Setting → Names → ExpBranches → Goal → Goal
  branches_of set before no_branches other l p = other l p
  branches_of set before (branch c e bs) other l p =
      choosing (goal_of set before c) (goal_of set (behind before (places c)) e) (branches_of set (behind before (places c ++ places e)) bs other) l p

  -- iterators and tests from the left, and then what stands in the loop, which assigns some names and in which some occur
  pub units_of : Setting → Finish → Names → Names → Names → ExpTrees → (Names → Goal) → Goal
  units_of set finish before names used no_exps body l p = body before l p
  units_of set finish before names used (exp u us) body l p =
      let inside : Names = names_inside before (iterated u) (occurring_all us ++ used) in
      unit (names_around finish before inside (kept_names before (exp u us) names)) (iterated u) (collection_of set before u) (goal_of set before u)
      (units_of set as_it_is (behind inside (unit_places (iterated u) u)) names used us body) l p

  -- what an iterator goes over; the names of its pattern are those of the turns, and stand behind it
  pub collection_of : Setting → Names → ExpTree → Value
  collection_of set before (call name es) l p = value_at (values_apart set before es) 1 l p
  collection_of set before e l p = no_value l p
