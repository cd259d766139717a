-- Goals and expressions over names in which `current_resource` isn't called mean the same where calls by name do, but for that function.
use Rattle.std.specs.Prelude.{◌≡◌, ◌++◌, ◌||◌, ℕ, false, cond, List, [], ◌∷◌, Option, Some, None, codes, refl}
use Rattle.std.specs.Str.{bytes_eq}
use Rattle.std.proofs.Common.{sym, ap, ◌∙◌}
use Rattle.std.proofs.Math.Path.{fun_ext}
use Rattle.pi_terms.specs.Tree.{Tree, comp, Trees, no_trees, tree, tree_count}
use Rattle.pi_terms.specs.ListNames.{nil}
use Rattle.pi_constraints.specs.State.{State}
use Rattle.pi_syntax.specs.PrintTerm.{array_name}
use Rattle.pi_effects.specs.Indexing.{index_name}
use Rattle.pi_syntax.specs.ExpTree.{ExpTree, var, int, atom, str, list, list_onto, array, call, quote, index, range, range_by, at, collect, and, or, arrow, if_then, if_else, foreach, while_do, do_while, ExpTrees, no_exps, exp, ExpBranches, no_branches, branch}
use Rattle.pi_syntax.specs.Signature.{exp_count}
use Rattle.pi_traces.specs.Trace.{Trace, end, Done, done, one, alt, then}
use Rattle.pi_traces.proofs.TraceLemmas.{alt-done, then-assoc}
use Rattle.pi_meaning.specs.Shared.Level.{Level, Applied}
use Rattle.pi_meaning.specs.OverNames.Environment.{Valued, ValuedAll}
use Rattle.pi_meaning.specs.OverNames.Place.{Place}
use Rattle.pi_meaning.specs.Shared.Names.{is_resource}
use Rattle.pi_meaning.specs.Shared.Given.{Setting}
use Rattle.pi_meaning.specs.Shared.Calls.{predicate_called, function_called, first_called}
use Rattle.pi_meaning.specs.OverNames.Assigning.{place_of}
use Rattle.pi_meaning.specs.OverNames.Texts.{Names, places, places_all, places_behind, places_caught, places_of_branches, occurring, occurring_all, behind, iterated, unit_places, begins_with_iterator, shared_names, names_inside, variable_first, assigned, kept_names}
use Rattle.pi_meaning.specs.OverNames.Terms.{items_onto}
use Rattle.pi_meaning.specs.OverNames.Control.{Goal, Value, Values, draining, nothing, in_front, made_of, made_onto, applied_to, all_found, all_counted, called_with, calling_term, following, choosing, branch_before, denying, taken_once, assigning, catching, goal_at, value_at}
use Rattle.pi_meaning.specs.OverNames.Loops.{Finish, as_it_is, turning, unit, while_turns, do_turns, hidden, adding, in_order, comprehended, names_around}
use Rattle.pi_meaning.specs.OverNames.Forms.{Form, negation, once, assignment, catch, by_term, membership, form_of, Parts, call_goal, atom_goal, Reading, plain, operand, boolean, ranged, readings, first_reading, later_readings, is_operand_node, is_sum, is_connective, is_constraint, operand_readings, is_find_all, is_count_all, function_value, call_value, range_value, indexed_by}
use Rattle.pi_meaning.specs.OverNames.Goals.{started, value_of, values_of, values_in, values_apart, goals_in, goal_of, all_of, any_of, arrow_in, branches_of, units_of, collection_of}
use Rattle.pi_solve_spec.specs.Written.{IsOtherCall, AsksNone, AskNone, BranchesAskNone}
use Rattle.pi_solve_spec.proofs.GoalLemmas.{some-arguments}

-- settings under which calls by name are the same, but for `current_resource`
pub record CallsAlike (a b : Setting) : Type 0 where
  pub predicates : (l : Level) (name : List ℕ) (ts : Trees) (s : State) → predicate_called a l name ts s ≡ predicate_called b l name ts s
  pub functions : (l : Level) (name : List ℕ) (ts : Trees) (s : State) → is_resource name (tree_count ts) ≡ false → function_called a l name ts s ≡ function_called b l name ts s
  pub terms : (l : Level) (ts : Trees) (s : State) → first_called a l ts s ≡ first_called b l ts s

-- ---- calls of predicates

called-alike : (a b : Setting) → CallsAlike a b → (name : List ℕ) (vs ws : Values) → vs ≡ ws → called_with a name vs ≡ called_with b name ws
unfolding called_with
called-alike a b h name vs ws e = λ i l p. then (e i l p) (λ all. then (h.predicates l name all.trees all.state i) (λ s. one (record { names = all.names; state = s })))

term-alike : (a b : Setting) → CallsAlike a b → (vs ws : Values) → vs ≡ ws → calling_term a vs ≡ calling_term b ws
unfolding calling_term
term-alike a b h vs ws e = λ i l p. then (e i l p) (λ all. then (h.terms l all.trees all.state i) (λ s. one (record { names = all.names; state = s })))

call-alike : (a b : Setting) → CallsAlike a b → (name : List ℕ) (o : Option Form) (parts others : Parts) → parts ≡ others → call_goal a name o parts ≡ call_goal b name o others
call-alike a b h name None parts others e = called-alike a b h name parts.all others.all (λ i. (e i).all)
call-alike a b h name (Some negation) parts others e = λ i. denying (goal_at (e i).goals 0)
call-alike a b h name (Some once) parts others e = λ i. taken_once (goal_at (e i).goals 0)
call-alike a b h name (Some assignment) parts others e = λ i. assigning (e i).variable (value_at (e i).values 1)
call-alike a b h name (Some catch) parts others e = λ i. catching (goal_at (e i).goals 0) (value_at (e i).values 1) (goal_at (e i).goals 2)
call-alike a b h name (Some by_term) parts others e = term-alike a b h parts.all others.all (λ i. (e i).all)
call-alike a b h name (Some membership) parts others e = refl

atom-alike : (a b : Setting) → CallsAlike a b → (name : List ℕ) → atom_goal a name ≡ atom_goal b name
unfolding atom_goal
atom-alike a b h name =
    λ i l p. cond (bytes_eq name (codes "true")) (one p) (cond (bytes_eq name (codes "fail")) done (called-alike a b h name nothing nothing refl i l p))

-- ---- calls of functions

-- the value that a function gives, where these are the names
abbrev given_to : ValuedAll → Applied → Trace Valued
given_to all y = one (record { tree = y.value; names = all.names; state = y.state })

applied-nothing : (a b : Setting) → CallsAlike a b → (name : List ℕ) → bytes_eq name (codes "current_resource") ≡ false → applied_to a name nothing ≡ applied_to b name nothing
unfolding applied_to then tree_count
applied-nothing a b h name n =
    λ i l p. alt (then (h.functions l name no_trees p.state n i) (λ y. one (record { tree = y.value; names = p.names; state = y.state }))) (end Done)

-- with an argument in front
applied-front : (set : Setting) (name : List ℕ) (v : Value) (vs : Values) (l : Level) (p : Place) →
    applied_to set name (in_front v vs) l p
    ≡ then (v l p) (λ x. then (vs l (place_of x)) (λ all. then (function_called set l name (tree x.tree all.trees) all.state) (given_to all)))
unfolding applied_to then
applied-front set name v vs l p =
    let after : ValuedAll → Trace Valued = λ all. then (function_called set l name all.trees all.state) (given_to all) in
    let joined : Valued → ValuedAll → ValuedAll = λ x all. record { trees = tree x.tree all.trees; names = all.names; state = all.state } in
    then-assoc (v l p) (λ x. then (vs l (place_of x)) (λ all. one (joined x all))) after
    ∙ ap (then (v l p)) (fun_ext (λ x. then-assoc (vs l (place_of x)) (λ all. one (joined x all)) after
    ∙ ap (then (vs l (place_of x))) (fun_ext (λ all. alt-done (after (joined x all))))))

front-alike : (a b : Setting) → CallsAlike a b → (name : List ℕ) (v w : Value) (vs ws : Values) → v ≡ w → vs ≡ ws → applied_to a name (in_front v vs) ≡ applied_to b name (in_front w ws)
front-alike a b h name v w vs ws d e = λ i l p.
    (applied-front a name v vs l p
    ∙ (λ j. then (d j l p) (λ x. then (e j l (place_of x)) (λ all. then (h.functions l name (tree x.tree all.trees) all.state (some-arguments name x.tree all.trees) j) (given_to all))))
    ∙ sym (applied-front b name w ws l p)) i

function-alike : (a b : Setting) (name : List ℕ) (k : ℕ) (parts others : Parts) → parts ≡ others → applied_to a name parts.all ≡ applied_to b name others.all →
    function_value a name k parts ≡ function_value b name k others
function-alike a b name k parts others e f =
    λ i. cond (is_find_all name k) (all_found (value_at (e i).late 0) (goal_at (e i).goals 1)) (cond (is_count_all name k) (all_counted (goal_at (e i).goals 0)) (f i))

call-value-alike : (a b : Setting) (r : Reading) (name : List ℕ) (k : ℕ) (parts others : Parts) → parts ≡ others → applied_to a name parts.all ≡ applied_to b name others.all →
    call_value a r name k parts ≡ call_value b r name k others
unfolding call_value
call-value-alike a b plain name k parts others e f = function-alike a b name k parts others e f
call-value-alike a b ranged name k parts others e f = function-alike a b name k parts others e f
call-value-alike a b operand name k parts others e f =
    λ i. cond (is_operand_node name k || is_sum name k) (made_of (comp name) (e i).all) (function-alike a b name k parts others e f i)
call-value-alike a b boolean name k parts others e f =
    λ i. cond (is_connective name k || is_constraint name k) (made_of (comp name) (e i).all) (function-alike a b name k parts others e f i)

range-alike : (a b : Setting) → CallsAlike a b → (r : Reading) (v w : Value) (vs ws : Values) → v ≡ w → vs ≡ ws → range_value a r (in_front v vs) ≡ range_value b r (in_front w ws)
unfolding range_value
range-alike a b h plain v w vs ws d e = front-alike a b h (codes "..") v w vs ws d e
range-alike a b h operand v w vs ws d e = front-alike a b h (codes "..") v w vs ws d e
range-alike a b h boolean v w vs ws d e = front-alike a b h (codes "..") v w vs ws d e
range-alike a b h ranged v w vs ws d e = λ i. made_of (comp (codes "..")) (in_front (d i) (e i))

-- ---- all goals and expressions

mutual
  unfolding value_of values_of values_in values_apart goals_in goal_of all_of any_of arrow_in branches_of units_of collection_of indexed_by AsksNone AskNone BranchesAskNone

  pub value-alike : (a b : Setting) → CallsAlike a b → (r : Reading) (before : Names) (e : ExpTree) → AsksNone e → value_of a r before e ≡ value_of b r before e
  value-alike a b h r before (var name) n = refl
  value-alike a b h r before (int i) n = refl
  value-alike a b h r before (atom name) n = refl
  value-alike a b h r before (str text) n = refl
  value-alike a b h r before (list es) n = λ i l p. made_of (λ ts. items_onto ts (Tree.atom nil)) (values-alike a b h [] before es n i) l p
  value-alike a b h r before (list_onto es e) n =
      λ i l p. made_onto items_onto (values-alike a b h [] before es n.0 i) (value-alike a b h plain (behind before (places_all es)) e n.1 i) l p
  value-alike a b h r before (array es) n = λ i l p. made_of (comp array_name) (values-alike a b h [] before es n i) l p
  value-alike a b h r before (call name es) n =
      let parts : Setting → Parts = λ set. record {
        variable = variable_first es;
        goals = goals_in set before es;
        values = values_in set before es;
        late = values_apart set (behind before (places_behind es)) es;
        all = values_of set (operand_readings r name (exp_count es)) before es;
      } in
      let same : parts a ≡ parts b = λ i. record {
        variable = variable_first es;
        goals = goals-in-alike a b h before es n.1 i;
        values = values-in-alike a b h before es n.1 i;
        late = values-apart-alike a b h (behind before (places_behind es)) es n.1 i;
        all = values-alike a b h (operand_readings r name (exp_count es)) before es n.1 i;
      } in
      λ i l p. call-value-alike a b r name (exp_count es) (parts a) (parts b) same (applied-alike a b h (operand_readings r name (exp_count es)) before name es n.0 n.1) i l p
  value-alike a b h r before (quote e) n = refl
  value-alike a b h r before (index e es) n =
      λ i l p. indexed-alike a b h (behind before (places e)) es n.1 (value_of a plain before e) (value_of b plain before e) (value-alike a b h plain before e n.0) i l p
  value-alike a b h r before (range first last) n =
      λ i l p. range-alike a b h r _ _ _ _ (value-alike a b h plain before first n.0) (λ j. in_front (value-alike a b h plain (behind before (places first)) last n.1 j) nothing) i l p
  value-alike a b h r before (range_by first step last) n =
      λ i l p. range-alike a b h r _ _ _ _ (value-alike a b h plain before first n.0)
      (λ j. in_front (value-alike a b h plain (behind before (places first)) step n.1 j) (in_front (value-alike a b h plain (behind before (places first ++ places step)) last n.2 j) nothing)) i l p
  value-alike a b h r before (collect is_array e es) n =
      λ i l p. comprehended before (started (begins_with_iterator es) (in_order is_array) (before ++ hidden ∷ []) (shared_names (before ++ hidden ∷ []) (occurring_all es ++ hidden ∷ occurring e)) (hidden ∷ [])
      (λ finish inside. units-alike a b h finish inside (hidden ∷ []) (hidden ∷ occurring e) es n.1 (λ names. adding (value_of a plain names e)) (λ names. adding (value_of b plain names e))
      (λ j names. adding (value-alike a b h plain names e n.0 j)) i)) l p
  value-alike a b h r before (at name e) n = refl
  value-alike a b h r before (and es) n = refl
  value-alike a b h r before (or es) n = refl
  value-alike a b h r before (arrow c e) n = refl
  value-alike a b h r before (if_then bs) n = refl
  value-alike a b h r before (if_else bs e) n = refl
  value-alike a b h r before (foreach es e) n = refl
  value-alike a b h r before (while_do c e) n = refl
  value-alike a b h r before (do_while e c) n = refl

  values-alike : (a b : Setting) → CallsAlike a b → (rs : List Reading) (before : Names) (es : ExpTrees) → AskNone es → values_of a rs before es ≡ values_of b rs before es
  values-alike a b h rs before no_exps n = refl
  values-alike a b h rs before (exp e es) n =
      λ i l p. in_front (value-alike a b h (first_reading rs) before e n.0 i) (values-alike a b h (later_readings rs) (behind before (places e)) es n.1 i) l p

  -- what a function makes of them
  applied-alike : (a b : Setting) → CallsAlike a b → (rs : List Reading) (before : Names) (name : List ℕ) (es : ExpTrees) → IsOtherCall name es → AskNone es →
      applied_to a name (values_of a rs before es) ≡ applied_to b name (values_of b rs before es)
  applied-alike a b h rs before name no_exps other n = applied-nothing a b h name other
  applied-alike a b h rs before name (exp e es) other n =
      front-alike a b h name (value_of a (first_reading rs) before e) (value_of b (first_reading rs) before e) (values_of a (later_readings rs) (behind before (places e)) es) (values_of b (later_readings rs) (behind before (places e)) es)
      (value-alike a b h (first_reading rs) before e n.0) (values-alike a b h (later_readings rs) (behind before (places e)) es n.1)

  indexed-alike : (a b : Setting) → CallsAlike a b → (before : Names) (es : ExpTrees) → AskNone es → (v w : Value) → v ≡ w → indexed_by a v (values_in a before es) ≡ indexed_by b w (values_in b before es)
  indexed-alike a b h before no_exps n v w d = d
  indexed-alike a b h before (exp e es) n v w d =
      indexed-alike a b h (behind before (places e)) es n.1 (applied_to a index_name (in_front v (in_front (value_of a plain before e) nothing))) (applied_to b index_name (in_front w (in_front (value_of b plain before e) nothing)))
      (front-alike a b h index_name v w (in_front (value_of a plain before e) nothing) (in_front (value_of b plain before e) nothing) d (λ i. in_front (value-alike a b h plain before e n.0 i) nothing))

  values-in-alike : (a b : Setting) → CallsAlike a b → (before : Names) (es : ExpTrees) → AskNone es → values_in a before es ≡ values_in b before es
  values-in-alike a b h before no_exps n = refl
  values-in-alike a b h before (exp e es) n = λ i. value-alike a b h plain before e n.0 i ∷ values-in-alike a b h (behind before (places e)) es n.1 i

  values-apart-alike : (a b : Setting) → CallsAlike a b → (before : Names) (es : ExpTrees) → AskNone es → values_apart a before es ≡ values_apart b before es
  values-apart-alike a b h before no_exps n = refl
  values-apart-alike a b h before (exp e es) n = λ i. value-alike a b h plain before e n.0 i ∷ values-apart-alike a b h before es n.1 i

  goals-in-alike : (a b : Setting) → CallsAlike a b → (before : Names) (es : ExpTrees) → AskNone es → goals_in a before es ≡ goals_in b before es
  goals-in-alike a b h before no_exps n = refl
  goals-in-alike a b h before (exp e es) n = λ i. goal-alike a b h before e n.0 i ∷ goals-in-alike a b h (behind before (places e)) es n.1 i

  pub goal-alike : (a b : Setting) → CallsAlike a b → (before : Names) (e : ExpTree) → AsksNone e → goal_of a before e ≡ goal_of b before e
  goal-alike a b h before (atom name) n = λ i l p. draining (atom-alike a b h name i) l p
  goal-alike a b h before (call name es) n =
      let parts : Setting → Parts = λ set. record {
        variable = variable_first es;
        goals = goals_in set (behind before (places_caught name es)) es;
        values = values_in set before es;
        late = values_apart set (behind before (places_behind es)) es;
        all = values_of set (readings name (exp_count es)) before es;
      } in
      let same : parts a ≡ parts b = λ i. record {
        variable = variable_first es;
        goals = goals-in-alike a b h (behind before (places_caught name es)) es n.1 i;
        values = values-in-alike a b h before es n.1 i;
        late = values-apart-alike a b h (behind before (places_behind es)) es n.1 i;
        all = values-alike a b h (readings name (exp_count es)) before es n.1 i;
      } in
      λ i l p. draining (call-alike a b h name (form_of name (exp_count es)) (parts a) (parts b) same i) l p
  goal-alike a b h before (and es) n = λ i l p. all-alike a b h before es n i l p
  goal-alike a b h before (or es) n = λ i l p. draining (any-alike a b h before es n i) l p
  goal-alike a b h before (if_then bs) n = λ i l p. draining (branches-alike a b h before bs n (λ m q. one q) (λ m q. one q) refl i) l p
  goal-alike a b h before (if_else bs e) n =
      λ i l p. draining (branches-alike a b h before bs n.0 (goal_of a (behind before (places_of_branches bs)) e) (goal_of b (behind before (places_of_branches bs)) e)
      (goal-alike a b h (behind before (places_of_branches bs)) e n.1) i) l p
  goal-alike a b h before (foreach es e) n =
      λ i l p. draining (started (begins_with_iterator es) as_it_is before (shared_names before (occurring_all es ++ occurring e)) (kept_names before es (assigned e))
      (λ finish inside. units-alike a b h finish inside (assigned e) (occurring e) es n.0 (λ names. goal_of a names e) (λ names. goal_of b names e) (λ j names. goal-alike a b h names e n.1 j) i)) l p
  goal-alike a b h before (while_do c e) n =
      let inside : Names = shared_names before (occurring c ++ occurring e) in
      λ i l p. draining (turning (names_around as_it_is before inside (kept_names before no_exps (assigned e))) (while_turns inside (goal-alike a b h inside c n.0 i) (goal-alike a b h (behind inside (places c)) e n.1 i))) l p
  goal-alike a b h before (do_while e c) n =
      let inside : Names = shared_names before (occurring e ++ occurring c) in
      λ i l p. draining (turning (names_around as_it_is before inside (kept_names before no_exps (assigned e))) (do_turns inside (goal-alike a b h inside e n.0 i) (goal-alike a b h (behind inside (places e)) c n.1 i))) l p
  goal-alike a b h before (var name) n = refl
  goal-alike a b h before (int i) n = refl
  goal-alike a b h before (str text) n = refl
  goal-alike a b h before (list es) n = refl
  goal-alike a b h before (list_onto es e) n = refl
  goal-alike a b h before (array es) n = refl
  goal-alike a b h before (quote e) n = refl
  goal-alike a b h before (index e es) n = refl
  goal-alike a b h before (range first last) n = refl
  goal-alike a b h before (range_by first step last) n = refl
  goal-alike a b h before (at name e) n = refl
  goal-alike a b h before (collect is_array e es) n = refl
  goal-alike a b h before (arrow c e) n = refl

  all-alike : (a b : Setting) → CallsAlike a b → (before : Names) (es : ExpTrees) → AskNone es → all_of a before es ≡ all_of b before es
  all-alike a b h before no_exps n = refl
  all-alike a b h before (exp e es) n = λ i l p. following (goal-alike a b h before e n.0 i) (all-alike a b h (behind before (places e)) es n.1 i) l p

  any-alike : (a b : Setting) → CallsAlike a b → (before : Names) (es : ExpTrees) → AskNone es → any_of a before es ≡ any_of b before es
  any-alike a b h before no_exps n = refl
  any-alike a b h before (exp e es) n =
      λ i l p. branch_before (arrow-alike a b h before e n.0 i) (goal-alike a b h before e n.0 i) (any-alike a b h (behind before (places e)) es n.1 i) l p

  arrow-alike : (a b : Setting) → CallsAlike a b → (before : Names) (e : ExpTree) → AsksNone e → arrow_in a before e ≡ arrow_in b before e
  arrow-alike a b h before (arrow c e) n = λ i. Some (record { test = goal-alike a b h before c n.0 i; body = goal-alike a b h (behind before (places c)) e n.1 i })
  arrow-alike a b h before e n = refl

  branches-alike : (a b : Setting) → CallsAlike a b → (before : Names) (bs : ExpBranches) → BranchesAskNone bs → (other last : Goal) → other ≡ last →
      branches_of a before bs other ≡ branches_of b before bs last
  branches-alike a b h before no_branches n other last d = λ i l p. d i l p
  branches-alike a b h before (branch c e bs) n other last d =
      λ i l p. choosing (goal-alike a b h before c n.0 i) (goal-alike a b h (behind before (places c)) e n.1 i) (branches-alike a b h (behind before (places c ++ places e)) bs n.2 other last d i) l p

  units-alike : (a b : Setting) → CallsAlike a b → (finish : Finish) (before names used : Names) (us : ExpTrees) → AskNone us → (body other : Names → Goal) → body ≡ other →
      units_of a finish before names used us body ≡ units_of b finish before names used us other
  units-alike a b h finish before names used no_exps n body other d = λ i l p. d i before l p
  units-alike a b h finish before names used (exp u us) n body other d =
      let inside : Names = names_inside before (iterated u) (occurring_all us ++ used) in
      λ i l p. unit (names_around finish before inside (kept_names before (exp u us) names)) (iterated u) (collection-alike a b h before u n.0 i) (goal-alike a b h before u n.0 i)
      (units-alike a b h as_it_is (behind inside (unit_places (iterated u) u)) names used us n.1 body other d i) l p

  collection-alike : (a b : Setting) → CallsAlike a b → (before : Names) (e : ExpTree) → AsksNone e → collection_of a before e ≡ collection_of b before e
  collection-alike a b h before (call name es) n = λ i l p. value_at (values-apart-alike a b h before es n.1 i) 1 l p
  collection-alike a b h before e n = refl
