-- More depth only adds: goals and expressions, by what they are made of.
use Rattle.std.proofs.Common.{ℕ, Bool, true, false, cond, List, [], ◌∷◌, ◌++◌}
use Rattle.std.specs.Prelude.{Option, Some, None, codes, ◌==◌, ◌&&◌, ◌||◌}
use Rattle.std.specs.Str.{bytes_eq}
use Rattle.pi_terms.specs.Tree.{comp}
use Rattle.pi_syntax.specs.ExpTree.{ExpTree, var, int, atom, str, list, list_onto, array, call, quote, index, range, range_by, at, collect, and, or, arrow, if_then, if_else, foreach, while_do, do_while, ExpTrees, no_exps, exp, ExpBranches, no_branches, branch}
use Rattle.pi_syntax.specs.Signature.{exp_count}
use Rattle.pi_traces.specs.Trace.{Trace, done, one}
use Rattle.pi_traces.proofs.BelowLemmas.{below-refl}
use Rattle.pi_meaning.specs.Shared.Level.{Level}
use Rattle.pi_meaning.specs.OverNames.Place.{Place}
use Rattle.pi_meaning.specs.OverNames.Texts.{Names, places, places_all, places_behind, places_caught, places_of_branches, occurring, occurring_all, behind, iterated, unit_places, begins_with_iterator, shared_names, names_inside, assigned, kept_names}
use Rattle.pi_meaning.specs.Shared.Given.{Setting, LaterOnlyAdds}
use Rattle.pi_meaning.specs.OverNames.Control.{Goal, Values, nothing, made_of, applied_to, all_found, all_counted, goal_at, value_at}
use Rattle.pi_meaning.specs.OverNames.Loops.{Finish, as_it_is, hidden, in_order}
use Rattle.pi_meaning.specs.OverNames.Forms.{Form, negation, once, assignment, catch, by_term, membership, form_of, Parts, call_goal, atom_goal, Reading, plain, operand, boolean, ranged, readings, first_reading, later_readings, is_operand_node, is_sum, is_connective, is_constraint, operand_readings, function_value, call_value, range_value}
use Rattle.pi_meaning.specs.OverNames.Goals.{value_of, values_of, values_in, values_apart, goals_in, goal_of, all_of, any_of, arrow_in, branches_of, units_of, collection_of}
use Rattle.pi_meaning.proofs.Shared.CallLemmas.{cond-below}
use Rattle.pi_meaning.proofs.OverNames.GrowControl.{Grows, stays, draining-grows, front-grows, made-grows, onto-grows, applied-grows, found-grows, counted-grows, called-grows, calling-grows, following-grows, choosing-grows, denying-grows, once-grows, assigning-grows, catching-grows, ArrowGrows, no_arrow, an_arrow, branch-grows, AllGrow, goal-at-grows, value-at-grows}
use Rattle.pi_meaning.proofs.OverNames.GrowLoops.{turning-grows, unit-grows, while-grows, do-grows, adding-grows, comprehended-grows, started-grows, indexed-grows}

nothing-grows : Grows nothing
nothing-grows l m b p = below-refl _

-- the parts of a call
record PartsGrow (parts : Parts) : Type 0 where
  goals : AllGrow parts.goals
  values : AllGrow parts.values
  late : AllGrow parts.late
  all : Grows parts.all

call-grows : (set : Setting) → LaterOnlyAdds set.later → (name : List ℕ) (o : Option Form) (parts : Parts) → PartsGrow parts → Grows (call_goal set name o parts)
call-grows set adds name None parts h = called-grows set adds name parts.all h.all
call-grows set adds name (Some negation) parts h = denying-grows (goal_at parts.goals 0) (goal-at-grows parts.goals 0 h.goals)
call-grows set adds name (Some once) parts h = once-grows (goal_at parts.goals 0) (goal-at-grows parts.goals 0 h.goals)
call-grows set adds name (Some assignment) parts h = assigning-grows parts.variable (value_at parts.values 1) (value-at-grows parts.values 1 h.values)
call-grows set adds name (Some catch) parts h =
    catching-grows (goal_at parts.goals 0) (value_at parts.values 1) (goal_at parts.goals 2) (goal-at-grows parts.goals 0 h.goals) (value-at-grows parts.values 1 h.values) (goal-at-grows parts.goals 2 h.goals)
call-grows set adds name (Some by_term) parts h = calling-grows set adds parts.all h.all
call-grows set adds name (Some membership) parts h = stays (λ p. done)

atom-grows : (set : Setting) → LaterOnlyAdds set.later → (name : List ℕ) → Grows (atom_goal set name)
unfolding atom_goal
atom-grows set adds name l m b p =
    cond-below (bytes_eq name (codes "true")) _ _ _ _ (below-refl _)
    (cond-below (bytes_eq name (codes "fail")) _ _ _ _ (below-refl _) (called-grows set adds name nothing (stays _) l m b p))

either-grows : {X : Type 0} (c : Bool) (f g : Level → Place → Trace X) → Grows f → Grows g → Grows (cond c f g)
either-grows true f g a b = a
either-grows false f g a b = b

function-grows : (set : Setting) (name : List ℕ) (k : ℕ) (parts : Parts) → PartsGrow parts → Grows (function_value set name k parts)
function-grows set name k parts h =
    either-grows (k == 2 && bytes_eq name (codes "find_all")) (all_found (value_at parts.late 0) (goal_at parts.goals 1))
    (cond (k == 1 && bytes_eq name (codes "count_all")) (all_counted (goal_at parts.goals 0)) (applied_to set name parts.all))
    (found-grows (value_at parts.late 0) (goal_at parts.goals 1) (value-at-grows parts.late 0 h.late) (goal-at-grows parts.goals 1 h.goals))
    (either-grows (k == 1 && bytes_eq name (codes "count_all")) (all_counted (goal_at parts.goals 0)) (applied_to set name parts.all)
    (counted-grows (goal_at parts.goals 0) (goal-at-grows parts.goals 0 h.goals)) (applied-grows set name parts.all h.all))

call-value-grows : (set : Setting) (r : Reading) (name : List ℕ) (k : ℕ) (parts : Parts) → PartsGrow parts → Grows (call_value set r name k parts)
unfolding call_value
call-value-grows set plain name k parts h = function-grows set name k parts h
call-value-grows set ranged name k parts h = function-grows set name k parts h
call-value-grows set operand name k parts h =
    either-grows (is_operand_node name k || is_sum name k) (made_of (comp name) parts.all) (function_value set name k parts) (made-grows (comp name) parts.all h.all) (function-grows set name k parts h)
call-value-grows set boolean name k parts h =
    either-grows (is_connective name k || is_constraint name k) (made_of (comp name) parts.all) (function_value set name k parts) (made-grows (comp name) parts.all h.all) (function-grows set name k parts h)

range-grows : (set : Setting) (r : Reading) (vs : Values) → Grows vs → Grows (range_value set r vs)
unfolding range_value
range-grows set plain vs h = applied-grows set (codes "..") vs h
range-grows set operand vs h = applied-grows set (codes "..") vs h
range-grows set boolean vs h = applied-grows set (codes "..") vs h
range-grows set ranged vs h = made-grows (comp (codes "..")) vs h

mutual
  unfolding value_of values_of values_in values_apart goals_in goal_of all_of any_of arrow_in branches_of units_of collection_of

  pub value-grows : (set : Setting) → LaterOnlyAdds set.later → (r : Reading) (before : Names) (e : ExpTree) → Grows (value_of set r before e)
  value-grows set adds r before (var name) = stays _
  value-grows set adds r before (int n) = stays _
  value-grows set adds r before (atom name) = stays _
  value-grows set adds r before (str text) = stays _
  value-grows set adds r before (list es) = made-grows _ _ (values-grow set adds [] before es)
  value-grows set adds r before (list_onto es e) = onto-grows _ _ _ (values-grow set adds [] before es) (value-grows set adds plain (behind before (places_all es)) e)
  value-grows set adds r before (array es) = made-grows _ _ (values-grow set adds [] before es)
  value-grows set adds r before (call name es) =
      call-value-grows set r name (exp_count es) _
      (record { goals = goals-in-grow set adds before es; values = values-in-grow set adds before es; late = values-apart-grow set adds (behind before (places_behind es)) es; all = values-grow set adds (operand_readings r name (exp_count es)) before es })
  value-grows set adds r before (quote e) = stays _
  value-grows set adds r before (index e es) = indexed-grows set _ _ (value-grows set adds plain before e) (values-in-grow set adds (behind before (places e)) es)
  value-grows set adds r before (range first last) =
      range-grows set r _ (front-grows _ _ (value-grows set adds plain before first) (front-grows _ nothing (value-grows set adds plain (behind before (places first)) last) nothing-grows))
  value-grows set adds r before (range_by first step last) =
      range-grows set r _ (front-grows _ _ (value-grows set adds plain before first) (front-grows _ _ (value-grows set adds plain (behind before (places first)) step)
      (front-grows _ nothing (value-grows set adds plain (behind before (places first ++ places step)) last) nothing-grows)))
  value-grows set adds r before (collect is_array e es) =
      comprehended-grows before _ (started-grows (begins_with_iterator es) (in_order is_array) (before ++ hidden ∷ []) _ (hidden ∷ []) _
      (λ finish inside. units-grow set adds finish inside (hidden ∷ []) (hidden ∷ occurring e) es _ (λ names. adding-grows _ (value-grows set adds plain names e))))
  value-grows set adds r before (at name e) = stays _
  value-grows set adds r before (and es) = stays _
  value-grows set adds r before (or es) = stays _
  value-grows set adds r before (arrow c e) = stays _
  value-grows set adds r before (if_then bs) = stays _
  value-grows set adds r before (if_else bs e) = stays _
  value-grows set adds r before (foreach es e) = stays _
  value-grows set adds r before (while_do c e) = stays _
  value-grows set adds r before (do_while e c) = stays _

  values-grow : (set : Setting) → LaterOnlyAdds set.later → (rs : List Reading) (before : Names) (es : ExpTrees) → Grows (values_of set rs before es)
  values-grow set adds rs before no_exps = stays _
  values-grow set adds rs before (exp e es) = front-grows _ _ (value-grows set adds (first_reading rs) before e) (values-grow set adds (later_readings rs) (behind before (places e)) es)

  values-in-grow : (set : Setting) → LaterOnlyAdds set.later → (before : Names) (es : ExpTrees) → AllGrow (values_in set before es)
  values-in-grow set adds before no_exps = tt
  values-in-grow set adds before (exp e es) = (value-grows set adds plain before e, values-in-grow set adds (behind before (places e)) es)

  values-apart-grow : (set : Setting) → LaterOnlyAdds set.later → (before : Names) (es : ExpTrees) → AllGrow (values_apart set before es)
  values-apart-grow set adds before no_exps = tt
  values-apart-grow set adds before (exp e es) = (value-grows set adds plain before e, values-apart-grow set adds before es)

  goals-in-grow : (set : Setting) → LaterOnlyAdds set.later → (before : Names) (es : ExpTrees) → AllGrow (goals_in set before es)
  goals-in-grow set adds before no_exps = tt
  goals-in-grow set adds before (exp e es) = (goal-grows set adds before e, goals-in-grow set adds (behind before (places e)) es)

  pub goal-grows : (set : Setting) → LaterOnlyAdds set.later → (before : Names) (e : ExpTree) → Grows (goal_of set before e)
  goal-grows set adds before (atom name) = draining-grows _ (atom-grows set adds name)
  goal-grows set adds before (call name es) =
      draining-grows _ (call-grows set adds name (form_of name (exp_count es)) _
      (record { goals = goals-in-grow set adds (behind before (places_caught name es)) es; values = values-in-grow set adds before es; late = values-apart-grow set adds (behind before (places_behind es)) es; all = values-grow set adds (readings name (exp_count es)) before es }))
  goal-grows set adds before (and es) = all-grows set adds before es
  goal-grows set adds before (or es) = draining-grows _ (any-grows set adds before es)
  goal-grows set adds before (if_then bs) = draining-grows _ (branches-grow set adds before bs (λ m q. one q) (stays (λ q. one q)))
  goal-grows set adds before (if_else bs e) = draining-grows _ (branches-grow set adds before bs _ (goal-grows set adds (behind before (places_of_branches bs)) e))
  goal-grows set adds before (foreach es e) =
      draining-grows _ (started-grows (begins_with_iterator es) as_it_is before _ (kept_names before es (assigned e)) _
      (λ finish inside. units-grow set adds finish inside (assigned e) (occurring e) es _ (λ names. goal-grows set adds names e)))
  goal-grows set adds before (while_do c e) =
      let inside : Names = shared_names before (occurring c ++ occurring e) in
      draining-grows _ (turning-grows as_it_is before inside (kept_names before no_exps (assigned e)) _ (while-grows inside _ _ (goal-grows set adds inside c) (goal-grows set adds (behind inside (places c)) e)))
  goal-grows set adds before (do_while e c) =
      let inside : Names = shared_names before (occurring e ++ occurring c) in
      draining-grows _ (turning-grows as_it_is before inside (kept_names before no_exps (assigned e)) _ (do-grows inside _ _ (goal-grows set adds inside e) (goal-grows set adds (behind inside (places e)) c)))
  goal-grows set adds before (var name) = stays _
  goal-grows set adds before (int n) = stays _
  goal-grows set adds before (str text) = stays _
  goal-grows set adds before (list es) = stays _
  goal-grows set adds before (list_onto es e) = stays _
  goal-grows set adds before (array es) = stays _
  goal-grows set adds before (quote e) = stays _
  goal-grows set adds before (index e es) = stays _
  goal-grows set adds before (range first last) = stays _
  goal-grows set adds before (range_by first step last) = stays _
  goal-grows set adds before (at name e) = stays _
  goal-grows set adds before (collect is_array e es) = stays _
  goal-grows set adds before (arrow c e) = stays _

  all-grows : (set : Setting) → LaterOnlyAdds set.later → (before : Names) (es : ExpTrees) → Grows (all_of set before es)
  all-grows set adds before no_exps = stays _
  all-grows set adds before (exp e es) = following-grows _ _ (goal-grows set adds before e) (all-grows set adds (behind before (places e)) es)

  any-grows : (set : Setting) → LaterOnlyAdds set.later → (before : Names) (es : ExpTrees) → Grows (any_of set before es)
  any-grows set adds before no_exps = stays _
  any-grows set adds before (exp e es) = branch-grows _ _ _ (arrow-grows set adds before e) (goal-grows set adds before e) (any-grows set adds (behind before (places e)) es)

  arrow-grows : (set : Setting) → LaterOnlyAdds set.later → (before : Names) (e : ExpTree) → ArrowGrows (arrow_in set before e)
  arrow-grows set adds before (arrow c e) = an_arrow _ (goal-grows set adds before c) (goal-grows set adds (behind before (places c)) e)
  arrow-grows set adds before e = no_arrow

  branches-grow : (set : Setting) → LaterOnlyAdds set.later → (before : Names) (bs : ExpBranches) (other : Goal) → Grows other → Grows (branches_of set before bs other)
  branches-grow set adds before no_branches other h = h
  branches-grow set adds before (branch c e bs) other h =
      choosing-grows _ _ _ (goal-grows set adds before c) (goal-grows set adds (behind before (places c)) e) (branches-grow set adds (behind before (places c ++ places e)) bs other h)

  units-grow : (set : Setting) → LaterOnlyAdds set.later → (finish : Finish) (before names used : Names) (us : ExpTrees) (body : Names → Goal) → ((ns : Names) → Grows (body ns)) → Grows (units_of set finish before names used us body)
  units-grow set adds finish before names used no_exps body h = h before
  units-grow set adds finish before names used (exp u us) body h =
      let inside : Names = names_inside before (iterated u) (occurring_all us ++ used) in
      unit-grows finish before inside (kept_names before (exp u us) names) (iterated u) _ _ _ (collection-grows set adds before u) (goal-grows set adds before u)
      (units-grow set adds as_it_is (behind inside (unit_places (iterated u) u)) names used us body h)

  collection-grows : (set : Setting) → LaterOnlyAdds set.later → (before : Names) (e : ExpTree) → Grows (collection_of set before e)
  collection-grows set adds before (call name es) = value-at-grows _ 1 (values-apart-grow set adds before es)
  collection-grows set adds before e = stays _
