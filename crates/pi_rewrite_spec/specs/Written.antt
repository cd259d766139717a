-- What goals and expressions of a text are lowered to, by where they stand. A loop is a call of its helper; what helpers there are is told by itself (`Helpers`). (Own.)
use Rattle.std.specs.Prelude.{ℕ, suc, ◌+◌, ◌&&◌, Bool, true, false, cond, List, [], ◌∷◌, ◌++◌, length, replicate, Option, Some, None, codes}
use Rattle.pi_terms.specs.Tree.{Tree, comp}
use Rattle.pi_terms.specs.ListNames.{nil}
use Rattle.pi_syntax.specs.PrintTerm.{array_name}
use Rattle.pi_syntax.specs.ExpTree.{ExpTree, var, int, atom, str, list, list_onto, array, call, quote, index, range, range_by, at, collect, and, or, arrow, if_then, if_else, foreach, while_do, do_while, ExpTrees, no_exps, exp, ExpBranches, no_branches, branch}
use Rattle.pi_syntax.specs.Signature.{exp_count}
use Rattle.pi_core.specs.GoalTree.{GoalTree}
use Rattle.pi_meaning.specs.OverNames.Terms.{items_onto}
use Rattle.pi_meaning.specs.OverNames.Forms.{form_of, is_find_all, Reading, plain, readings, first_reading, later_readings, operand_readings}
use Rattle.pi_meaning.specs.OverNames.Texts.{Names, places, places_all, places_of_branches, occurring, occurring_all, behind, iterated, begins_with_iterator, shared_names, names_inside, variable_first, assigned, kept_names}
use Rattle.pi_meaning.specs.OverNames.Loops.{hidden}
use Rattle.pi_rewrite_spec.specs.Slots.{SlotNames, unnamed}
use Rattle.pi_rewrite_spec.specs.Values.{stays, is_ranged, is_flat, are_flat_as, SlotValue, SlotValues, value_before_as, value_by_as, last_value, value_before, value_by, no_values, before_values, value_of_parts, value_onto, slot_pattern}
use Rattle.pi_rewrite_spec.specs.Goals.{SlotGoals, SlotBranches, just, never, no_value, value_at, call_goals, call_value, atom_goals, indexed_by, begins_flat, range_of_two, range_of_three, two_parts, three_parts, joined, choosing, as_goals, SlotArrow, branch_before}
use Rattle.pi_rewrite_spec.specs.Sites.{Site, helpers_in, helpers_in_all, helpers_in_branches, helpers_in_units, behind_site, behind_exp, inside, following_sites, goal_sites, value_sites}
use Rattle.pi_rewrite_spec.specs.Loops.{Ending, as_it_is, in_order, Loop, loop_slots, loop_goals}
use Rattle.pi_rewrite_spec.specs.Iterators.{walk_slots, iterator_goals, tested}
use Rattle.pi_rewrite_spec.specs.Comprehensions.{adding, comprehension}
use Rattle.pi_rewrite_spec.specs.Ranges.{range_goals}

-- ---- loops of a text

-- a loop, whose own helpers have the numbers behind so many
abbrev pub loop_at : Site → ℕ → Names → Names → Ending → Loop
loop_at s n shared kept ending = record { name = s.called (s.helpers + n); shared = shared; kept = kept; ending = ending }

abbrev pub while_loop : Site → ExpTree → ExpTree → Loop
while_loop s c e = loop_at s (helpers_in c + helpers_in e) (shared_names s.before (occurring c ++ occurring e)) (kept_names s.before no_exps (assigned e)) as_it_is

abbrev pub do_loop : Site → ExpTree → ExpTree → Loop
do_loop s e c = loop_at s (helpers_in e + helpers_in c) (shared_names s.before (occurring e ++ occurring c)) (kept_names s.before no_exps (assigned e)) as_it_is

-- where its turns stand
abbrev pub turns_of : Site → Loop → Site
turns_of s l = inside s (length (loop_slots l)) l.shared

-- What stands in a loop behind its iterators and tests: the names that it assigns, those that occur in it, and how many helpers it has.
pub record Inner : Type 0 where
  pub assigned : Names
  pub used : Names
  pub count : ℕ

-- a `foreach`, and a comprehension, whose site has the name of what is gathered
abbrev pub inner_of : ExpTree → Inner
inner_of e = record { assigned = assigned e; used = occurring e; count = helpers_in e }

abbrev pub gathering : ExpTree → Inner
gathering e = record { assigned = hidden ∷ []; used = hidden ∷ occurring e; count = helpers_in e }

abbrev pub gathered_at : Site → Site
gathered_at s = record { filled = s.filled; before = s.before ++ hidden ∷ []; helpers = s.helpers; called = s.called }

-- a loop that begins with no iterator
abbrev pub start_loop : Site → Ending → Names → Inner → ExpTrees → Loop
start_loop s ending kept i us = loop_at s (helpers_in_units us + i.count) (shared_names s.before (occurring_all us ++ i.used)) kept ending

-- an iterator over elements of this form, and what stands behind it; its second helper; where its turns stand
abbrev pub iterator_loop : Site → Ending → Inner → ExpTree → ExpTrees → ExpTree → Loop
iterator_loop s ending i u us e =
    loop_at s (helpers_in u + (helpers_in_units us + i.count)) (names_inside s.before (Some e) (occurring_all us ++ i.used)) (kept_names s.before (exp u us) i.assigned) ending

abbrev pub turn_name : Site → Inner → ExpTree → ExpTrees → List ℕ
turn_name s i u us = s.called (suc (s.helpers + (helpers_in u + (helpers_in_units us + i.count))))

abbrev pub elements_of : Site → Loop → ExpTree → ExpTree → Site
elements_of s l u e = record {
  filled = length ((slot_pattern e []).names ++ replicate walk_slots unnamed) + length (loop_slots l);
  before = behind l.shared (places e);
  helpers = s.helpers + helpers_in u;
  called = s.called;
}

-- two and three values, of which the last is evaluated where they are used
abbrev pub last_one : ExpTree → (SlotNames → SlotValue) → SlotNames → SlotValues
last_one e f ns = before_values (last_value e ns (f ns)) (no_values (last_value e ns (f ns)).names)

-- an expression that others follow: what it is lowered to, and whether it is the last one that is evaluated before the use
pub record Ahead : Type 0 where
  pub exp : ExpTree
  pub made : SlotNames → SlotValue
  pub is_last : Bool

abbrev pub ahead : ExpTree → (SlotNames → SlotValue) → Bool → Ahead
ahead e f is_last = record { exp = e; made = f; is_last = is_last }

abbrev pub pair_values : ℕ → Ahead → ExpTree → (SlotNames → SlotValue) → SlotNames → SlotValues
pair_values h x i g ns = before_values (value_by x.is_last h x.exp ns (x.made ns)) (last_one i g (value_by x.is_last h x.exp ns (x.made ns)).names)

abbrev pub three_values : ℕ → Ahead → Ahead → ExpTree → (SlotNames → SlotValue) → SlotNames → SlotValues
three_values h first step last k ns =
    before_values (value_by first.is_last h first.exp ns (first.made ns))
    (pair_values h step last k (value_by first.is_last h first.exp ns (first.made ns)).names)

-- an iterator or a test
abbrev pub unit_goals : Option ExpTree → (ExpTree → SlotNames → SlotGoals) → (SlotNames → SlotGoals) → SlotNames → SlotGoals
unit_goals None iterator test ns = test ns
unit_goals (Some e) iterator test ns = iterator e ns

-- an iterator goes over a range that isn't built, or over a list or an array
abbrev pub is_range : ExpTree → Bool
is_range (call name (exp e (exp (range first last) es))) = true
is_range (call name (exp e (exp (range_by first step last) es))) = true
is_range u = false

abbrev pub gone_over : Bool → Site → Loop → (SlotNames → SlotValues) → (SlotNames → SlotValue) → SlotNames → SlotGoals
gone_over true s l bounds collection ns = range_goals s.filled s.before l bounds ns
gone_over false s l bounds collection ns = iterator_goals s.filled s.before l collection ns

-- a loop starts with its first iterator, or before its first test
abbrev pub started_goals : Bool → (SlotNames → SlotGoals) → Site → Loop → SlotNames → SlotGoals
started_goals true units s l ns = units ns
started_goals false units s l ns = loop_goals s.filled s.before l ns

unfoldable mutual
  -- an expression with a call in it, as it is read
  pub made_as : Site → Reading → ExpTree → SlotNames → SlotValue
  made_as s r (list es) ns = value_of_parts (λ ts. items_onto ts (Tree.atom nil)) (parts_as s [] es ns)
  made_as s r (list_onto es e) ns =
      value_onto (parts_as s [] es ns) (value_before s.filled e (parts_as s [] es ns).names (made_as (behind_site s (places_all es) (helpers_in_all es)) plain e (parts_as s [] es ns).names))
  made_as s r (array es) ns = value_of_parts (comp array_name) (parts_as s [] es ns)
  made_as s r (call name es) ns =
      cond (stays r name (exp_count es)) (value_of_parts (comp name) (parts_as s (operand_readings r name (exp_count es)) es ns))
      (call_value name (exp_count es) (record {
        variable = variable_first es;
        goals = goals_in (value_sites (is_find_all name (exp_count es)) s es) es;
        values = values_in (value_sites (is_find_all name (exp_count es)) s es) es;
        all = arguments_as s [] es;
      }) ns)
  made_as s r (index e es) ns = indexed_by (value_by (begins_flat es) s.filled e ns (made_as s plain e ns)) (values_in (following_sites (behind_exp s e) es) es)
  made_as s r (range first last) ns =
      cond (is_ranged r) (value_of_parts (comp (codes "..")) (two_parts (value_before s.filled first ns (made_as s plain first ns)) (λ ms. value_before s.filled last ms (made_as (behind_exp s first) plain last ms))))
      (range_of_two (value_by (is_flat last) s.filled first ns (made_as s plain first ns)) (λ ms. last_value last ms (made_as (behind_exp s first) plain last ms)))
  made_as s r (range_by first step last) ns =
      let t : Site = behind_site s (places first ++ places step) (helpers_in first + helpers_in step) in
      cond (is_ranged r) (value_of_parts (comp (codes ".."))
      (three_parts (value_before s.filled first ns (made_as s plain first ns)) (λ ms. value_before s.filled step ms (made_as (behind_exp s first) plain step ms)) (λ ms. value_before s.filled last ms (made_as t plain last ms))))
      (range_of_three (value_by (is_flat step && is_flat last) s.filled first ns (made_as s plain first ns)) (λ ms. value_by (is_flat last) s.filled step ms (made_as (behind_exp s first) plain step ms))
      (λ ms. last_value last ms (made_as t plain last ms)))
  made_as s r (collect is_array e es) ns =
      let t : Site = gathered_at s in
      comprehension s.filled s.before (started_goals (begins_with_iterator es) (units t (in_order is_array) (gathering e) es (λ u ms. adding (last_value e ms (made_as u plain e ms)))) t
      (start_loop t (in_order is_array) (hidden ∷ []) (gathering e) es)) ns
  made_as s r (var name) ns = no_value ns
  made_as s r (int n) ns = no_value ns
  made_as s r (atom name) ns = no_value ns
  made_as s r (str text) ns = no_value ns
  made_as s r (quote e) ns = no_value ns
  made_as s r (at name e) ns = no_value ns
  made_as s r (and es) ns = no_value ns
  made_as s r (or es) ns = no_value ns
  made_as s r (arrow c e) ns = no_value ns
  made_as s r (if_then bs) ns = no_value ns
  made_as s r (if_else bs e) ns = no_value ns
  made_as s r (foreach es e) ns = no_value ns
  made_as s r (while_do c e) ns = no_value ns
  made_as s r (do_while e c) ns = no_value ns

  -- parts of a term, each evaluated before the term is used
  pub parts_as : Site → List Reading → ExpTrees → SlotNames → SlotValues
  parts_as s rs no_exps ns = no_values ns
  parts_as s rs (exp e es) ns =
      let v : SlotValue = value_before_as (first_reading rs) s.filled e ns (made_as s (first_reading rs) e ns) in
      before_values v (parts_as (behind_exp s e) (later_readings rs) es v.names)

  -- arguments: those behind the last one with a call in it are evaluated by the call that uses them
  pub arguments_as : Site → List Reading → ExpTrees → SlotNames → SlotValues
  arguments_as s rs no_exps ns = no_values ns
  arguments_as s rs (exp e es) ns =
      let v : SlotValue = value_by_as (first_reading rs) (are_flat_as (later_readings rs) es) s.filled e ns (made_as s (first_reading rs) e ns) in
      before_values v (arguments_as (behind_exp s e) (later_readings rs) es v.names)

  -- each by itself, where it stands
  pub values_in : (ℕ → Site) → ExpTrees → List (SlotNames → SlotValue)
  values_in sites no_exps = []
  values_in sites (exp e es) = (λ ns. last_value e ns (made_as (sites 0) plain e ns)) ∷ values_in (λ i. sites (suc i)) es

  pub goals_in : (ℕ → Site) → ExpTrees → List (SlotNames → SlotGoals)
  goals_in sites no_exps = []
  goals_in sites (exp e es) = goal_of (sites 0) e ∷ goals_in (λ i. sites (suc i)) es

  -- a goal
  pub goal_of : Site → ExpTree → SlotNames → SlotGoals
  goal_of s (atom name) ns = atom_goals name ns
  goal_of s (call name es) ns =
      call_goals name (form_of name (exp_count es)) (record {
        variable = variable_first es;
        goals = goals_in (goal_sites (form_of name (exp_count es)) s es) es;
        values = values_in (goal_sites (form_of name (exp_count es)) s es) es;
        all = arguments_as s (readings name (exp_count es)) es;
      }) ns
  goal_of s (and es) ns = all_of s es ns
  goal_of s (or es) ns = as_goals (any_of s es ns)
  goal_of s (if_then bs) ns = branches_of s bs (λ ms. just GoalTree.truth ms) ns
  goal_of s (if_else bs e) ns = branches_of s bs (goal_of (behind_site s (places_of_branches bs) (helpers_in_branches bs)) e) ns
  goal_of s (foreach es e) ns =
      started_goals (begins_with_iterator es) (units s as_it_is (inner_of e) es (λ t. goal_of t e)) s (start_loop s as_it_is (kept_names s.before es (assigned e)) (inner_of e) es) ns
  goal_of s (while_do c e) ns = loop_goals s.filled s.before (while_loop s c e) ns
  goal_of s (do_while e c) ns = loop_goals s.filled s.before (do_loop s e c) ns
  goal_of s (var name) ns = never ns
  goal_of s (int n) ns = never ns
  goal_of s (str text) ns = never ns
  goal_of s (list es) ns = never ns
  goal_of s (list_onto es e) ns = never ns
  goal_of s (array es) ns = never ns
  goal_of s (quote e) ns = never ns
  goal_of s (index e es) ns = never ns
  goal_of s (range first last) ns = never ns
  goal_of s (range_by first step last) ns = never ns
  goal_of s (at name e) ns = never ns
  goal_of s (collect is_array e es) ns = never ns
  goal_of s (arrow c e) ns = never ns

  -- a conjunction
  pub all_of : Site → ExpTrees → SlotNames → SlotGoals
  all_of s no_exps ns = record { goals = []; names = ns }
  all_of s (exp e es) ns = joined (goal_of s e ns) (all_of (behind_exp s e) es (goal_of s e ns).names)

  -- a disjunction
  pub any_of : Site → ExpTrees → SlotNames → SlotBranches
  any_of s no_exps ns = record { branches = []; names = ns }
  any_of s (exp e es) ns = branch_before (arrow_in s e) (goal_of s e) (any_of (behind_exp s e) es) ns

  pub arrow_in : Site → ExpTree → Option SlotArrow
  arrow_in s (arrow c e) = Some (record { test = goal_of s c; body = goal_of (behind_exp s c) e })
  arrow_in s e = None

  -- conditions with their bodies, and what is done where none holds
  pub branches_of : Site → ExpBranches → (SlotNames → SlotGoals) → SlotNames → SlotGoals
  branches_of s no_branches other ns = other ns
  branches_of s (branch c e bs) other ns =
      choosing (goal_of s c ns) (goal_of (behind_exp s c) e) (branches_of (behind_site s (places c ++ places e) (helpers_in c + helpers_in e)) bs other)

  -- iterators and tests from the left, and then what stands in the loop, wherever that is
  pub units : Site → Ending → Inner → ExpTrees → (Site → SlotNames → SlotGoals) → SlotNames → SlotGoals
  units s ending i no_exps body ns = body s ns
  units s ending i (exp u us) body ns =
      unit_goals (iterated u) (λ e ms. gone_over (is_range u) s (iterator_loop s ending i u us e) (bounds_of s u) (collection_of s u) ms) (λ ms. tested (goal_of s u ms) (units (behind_exp s u) as_it_is i us body)) ns

  -- what an iterator goes over
  pub collection_of : Site → ExpTree → SlotNames → SlotValue
  collection_of s (call name es) ns = value_at (values_in (λ i. s) es) 1 ns
  collection_of s e ns = no_value ns

  -- the bounds of a range that an iterator goes over, and its step
  pub bounds_of : Site → ExpTree → SlotNames → SlotValues
  bounds_of s (call name (exp e (exp (range first last) es))) ns =
      pair_values s.filled (ahead first (made_as s plain first) (is_flat last)) last (made_as (behind_exp s first) plain last) ns
  bounds_of s (call name (exp e (exp (range_by first step last) es))) ns =
      three_values s.filled (ahead first (made_as s plain first) (is_flat step && is_flat last)) (ahead step (made_as (behind_exp s first) plain step) (is_flat last)) last
      (made_as (behind_site s (places first ++ places step) (helpers_in first + helpers_in step)) plain last) ns
  bounds_of s u ns = no_values ns

-- where all is evaluated
abbrev pub made : Site → ExpTree → SlotNames → SlotValue
made s e = made_as s plain e

abbrev pub parts : Site → ExpTrees → SlotNames → SlotValues
parts s es = parts_as s [] es

abbrev pub arguments : Site → ExpTrees → SlotNames → SlotValues
arguments s es = arguments_as s [] es
