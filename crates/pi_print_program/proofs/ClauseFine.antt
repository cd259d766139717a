-- What is known of the units of a clause whose form isn't bad.
use Rattle.std.proofs.Common.{◌≡◌, ℕ, Bool, true, false, not, ◌&&◌, ◌||◌, List, [], ◌++◌, Option, Some, None, is_some, refl, sym, subst}
use Rattle.std.proofs.lemmas.Bool.{false≢true, not-false}
use Rattle.std.specs.List.{list_any}
use Rattle.pi_prog_clauses.specs.Items.{head_of, is_function, is_function_with_choice_or_events, is_open_action_rule, has_bad_events, are_bad_events, has_bad_head, are_bad_nodes, is_misplaced, is_event, is_event_of_one, is_event_of_two, is_empty}
use Rattle.pi_prog_clauses.specs.Places.{goal, expression, test, placed, placed_if, clause_placed}
use Rattle.pi_prog_clauses.specs.Shape.{Shape, ruled, units, first_unit, other_units, events_in, conditions, condition, listed, Equation, equation, bare_clause, ruled_clause, clause_of, shape_events, is_open}
use Rattle.pi_syntax.specs.ExpTree.{ExpTree, var, call, and, ExpTrees, no_exps, exp}
use Rattle.pi_syntax.specs.Grammar.{conjunction}
use Rattle.pi_syntax.specs.ProgramTree.{WrittenClause}
use Rattle.pi_print_program.specs.Patterns.{Fine, AllFine}
use Rattle.pi_print_program.proofs.Calls.{neither}
use Rattle.pi_print_program.proofs.ClauseAgain.{bad_shape}
use Rattle.pi_print_program.proofs.Fine.{fine_conjunction}
use Rattle.pi_print_program.proofs.FineNodes.{split, front_clear, rest_clear, AreClear, fine_placed, placed_rightly, nodes_clear}
use Rattle.pi_print_program.proofs.Heads.{GoodHead, good_head, equation_is, head_by}
use Rattle.pi_print_program.proofs.Units.{with_events, split_whole, apart, NoArrays, apart_no_arrays}
use Rattle.pi_print_program.proofs.UnitTexts.{AreGiven}

-- ---- what is forbidden goes by the clause, the arrow and the events

abbrev pub bad_by : WrittenClause → Bool → Option ExpTrees → Bool
bad_by c back es =
    ((is_function c && (back || is_some es)) || ((is_some es && back) || are_bad_events (head_of c) es))
    || (has_bad_head c || are_bad_nodes (clause_placed c))

pub bad_as : (s : Shape) → bad_shape s ≡ bad_by (clause_of s) (is_open s) (shape_events s)
unfolding is_function_with_choice_or_events is_open_action_rule has_bad_events
bad_as s = refl

pub record IsFree (c : WrittenClause) (back : Bool) (es : Option ExpTrees) : Type 0 where
  pub choice : (is_function c && (back || is_some es)) ≡ false
  pub events : are_bad_events (head_of c) es ≡ false
  pub head : has_bad_head c ≡ false
  pub nodes : are_bad_nodes (clause_placed c) ≡ false

pub free_by : (c : WrittenClause) (back : Bool) (es : Option ExpTrees) → bad_by c back es ≡ false → IsFree c back es
free_by c back es good =
    let choice = is_function c && (back || is_some es) in
    let arrow = is_some es && back in
    let events = are_bad_events (head_of c) es in
    let (first', second) = neither (choice || (arrow || events)) (has_bad_head c || are_bad_nodes (clause_placed c)) good in
    let (a, b) = neither choice (arrow || events) first' in
    let (d, e) = neither (has_bad_head c) (are_bad_nodes (clause_placed c)) second in
    record { choice = a; events = (neither arrow events b).1; head = d; nodes = e }

-- ---- events

one_fine : (head : ExpTree) (name : List ℕ) (x : ExpTree) → is_event_of_one head name x ≡ true → Fine x
unfolding Fine
one_fine head name (var x) is = tt
one_fine head name x is = absurd (false≢true is)

two_fine : (head : ExpTree) (name : List ℕ) (x t : ExpTree) → is_event_of_two head name x t ≡ true → Fine x × Fine t
unfolding Fine
two_fine head name (var x) (var t) is = (tt, tt)
two_fine head name x t is = absurd (false≢true is)

call_fine : (head : ExpTree) (name : List ℕ) (es : ExpTrees) → is_event head (call name es) ≡ true → AllFine es
unfolding AllFine
call_fine head name no_exps is = absurd (false≢true is)
call_fine head name (exp x no_exps) is = (one_fine head name x is, tt)
call_fine head name (exp x (exp t no_exps)) is = let both = two_fine head name x t is in (both.0, (both.1, tt))
call_fine head name (exp x (exp t (exp u es))) is = absurd (false≢true is)

event_fine : (head e : ExpTree) → is_event head e ≡ true → Fine e
unfolding Fine
event_fine head (call name es) is = call_fine head name es is
event_fine head e is = absurd (false≢true is)

events_fine : (head : ExpTree) (es : ExpTrees) → list_any (λ e. not (is_event head e)) (listed es) ≡ false → AllFine es
unfolding AllFine listed
events_fine head no_exps each = tt
events_fine head (exp e es) each =
    let (here, rest) = neither (not (is_event head e)) (list_any (λ x. not (is_event head x)) (listed es)) each in
    (event_fine head e (not-false (is_event head e) here), events_fine head es rest)

abbrev EventsFine : Option ExpTrees → Type 0
EventsFine None = Unit {0}
EventsFine (Some es) = AllFine es

pub given : (head : ExpTree) (o : Option ExpTrees) → are_bad_events head o ≡ false → AreGiven o
given head None good = tt
given head (Some es) good = (neither (is_empty (listed es)) (list_any (λ e. not (is_event head e)) (listed es)) good).0

fine_events : (head : ExpTree) (o : Option ExpTrees) → are_bad_events head o ≡ false → EventsFine o
fine_events head None good = tt
fine_events head (Some es) good = events_fine head es (neither (is_empty (listed es)) (list_any (λ e. not (is_event head e)) (listed es)) good).1

-- ---- conditions

condition_fine : (cs : ExpTrees) → AreClear (placed_if test (condition cs)) → AllFine cs
unfolding AllFine
condition_fine no_exps clear = tt
condition_fine (exp e cs) clear = fine_conjunction (exp e cs) (fine_placed test (conjunction (exp e cs)) clear)

with_fine : (cs : ExpTrees) (o : Option ExpTrees) → AllFine cs → EventsFine o → AllFine (with_events cs o)
unfolding Fine AllFine
with_fine no_exps None fine more = tt
with_fine no_exps (Some es) fine more = (more, tt)
with_fine (exp e cs) o fine more = (fine.0, with_fine cs o fine.1 more)

-- the units behind the first
others_fine : (head : ExpTree) (us : ExpTrees) → are_bad_events head (events_in us) ≡ false → AreClear (placed_if test (condition (conditions us))) → AllFine us
others_fine head us good clear =
    subst AllFine (split_whole us) (with_fine (conditions us) (events_in us) (condition_fine (conditions us) clear) (fine_events head (events_in us) good))

-- ---- the units of a clause

pub record FineParts (q : Option Equation) (e : ExpTree) (us : ExpTrees) (r : ExpTree) : Type 0 where
  pub head : GoodHead (head_by q e)
  pub first : Fine e
  pub others : AllFine us
  pub body : Fine r
  pub no_arrays : NoArrays (apart (conditions us))
  pub given : AreGiven (events_in us)

fine_equation : (e : ExpTree) (q : Equation) → equation e ≡ Some q → Fine q.head → Fine q.value → Fine e
unfolding Fine AllFine
fine_equation e q is head value = subst Fine (sym (equation_is e q is)) (head, (value, tt))

pub fine_parts : (e : ExpTree) (us : ExpTrees) (back : Bool) (body : ExpTree) (q : Option Equation) → equation e ≡ q
    → IsFree (ruled_clause q e us back body) back (events_in us) → FineParts q e us body
fine_parts e us back body None is free =
    let head = good_head (ruled_clause None e us back body) free.head in
    let xs = placed_if test (condition (conditions us)) in
    let ys = placed (goal true) body in
    let clear = nodes_clear (xs ++ ys) free.nodes in
    record {
      head = head;
      first = head.fine;
      others = others_fine e us free.events (front_clear xs ys clear);
      body = fine_placed (goal true) body (rest_clear xs ys clear);
      no_arrays = apart_no_arrays (conditions us) (split is_misplaced xs ys (placed_rightly (xs ++ ys) free.nodes)).0;
      given = given e (events_in us) free.events;
    }
fine_parts e us back body (Some q) is free =
    let head = good_head (ruled_clause (Some q) e us back body) free.head in
    let vs = placed expression q.value in
    let xs = placed_if test (condition (conditions us)) in
    let ys = placed (goal true) body in
    let clear = nodes_clear (vs ++ (xs ++ ys)) free.nodes in
    let behind = rest_clear vs (xs ++ ys) clear in
    let placed' = (split is_misplaced vs (xs ++ ys) (placed_rightly (vs ++ (xs ++ ys)) free.nodes)).1 in
    record {
      head = head;
      first = fine_equation e q is head.fine (fine_placed expression q.value (front_clear vs (xs ++ ys) clear));
      others = others_fine q.head us free.events (front_clear xs ys behind);
      body = fine_placed (goal true) body (rest_clear xs ys behind);
      no_arrays = apart_no_arrays (conditions us) (split is_misplaced xs ys placed').0;
      given = given q.head (events_in us) free.events;
    }

-- units of a left side
fine_left : (us : ExpTrees) (back : Bool) (body : ExpTree) → IsFree (ruled_clause (equation (first_unit us)) (first_unit us) (other_units us) back body) back (events_in (other_units us)) → AllFine us
unfolding AllFine
fine_left no_exps back body free = tt
fine_left (exp e us) back body free = let parts = fine_parts e us back body (equation e) refl free in (parts.first, parts.others)

fine_units : (e : ExpTree) → AllFine (units e) → Fine e
unfolding Fine AllFine
fine_units (and es) fine = fine
fine_units e fine = fine.0

pub left_fine : (l : ExpTree) (back : Bool) (r : ExpTree) → IsFree (clause_of (ruled l back r)) back (events_in (other_units (units l))) → Fine l
left_fine l back r free = fine_units l (fine_left (units l) back r free)

-- a clause without an arrow
pub record FineAlone (q : Option Equation) (e : ExpTree) : Type 0 where
  pub head : GoodHead (head_by q e)
  pub fine : Fine e

pub fine_alone : (e : ExpTree) (q : Option Equation) → equation e ≡ q → IsFree (bare_clause e q) false None → FineAlone q e
fine_alone e None is free = let head = good_head (bare_clause e None) free.head in record { head = head; fine = head.fine }
fine_alone e (Some q) is free =
    let head = good_head (bare_clause e (Some q)) free.head in
    let clear = nodes_clear (placed expression q.value ++ []) free.nodes in
    record { head = head; fine = fine_equation e q is head.fine (fine_placed expression q.value (front_clear (placed expression q.value) [] clear)) }
