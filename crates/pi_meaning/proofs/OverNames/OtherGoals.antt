-- A name that occurs neither in a goal nor before it changes nothing.
use Rattle.std.proofs.Common.{◌≡◌, ℕ, Bool, true, false, cond, List, [], ◌∷◌, ◌++◌, subst}
use Rattle.std.specs.Prelude.{⊤, Option, Some, None, codes, ◌==◌, ◌&&◌, ◌||◌}
use Rattle.std.specs.Str.{bytes_eq}
use Rattle.pi_terms.specs.Tree.{comp}
use Rattle.pi_syntax.specs.ExpTree.{ExpTree, var, int, atom, str, list, list_onto, array, call, quote, index, range, range_by, at, collect, and, or, arrow, if_then, if_else, foreach, while_do, do_while, ExpTrees, no_exps, exp, ExpBranches, no_branches, branch}
use Rattle.pi_syntax.specs.Signature.{exp_count}
use Rattle.pi_traces.specs.Trace.{Trace, one}
use Rattle.pi_traces.specs.Related.{BelowBy}
use Rattle.pi_meaning.specs.Shared.Level.{Level}
use Rattle.pi_meaning.specs.OverNames.Place.{Place}
use Rattle.pi_meaning.specs.OverNames.Texts.{Names, places, places_all, places_behind, places_caught, places_of_branches, occurring, occurring_all, behind, iterated, unit_places, begins_with_iterator, shared_names, names_inside, assigned, kept_names}
use Rattle.pi_meaning.specs.Shared.Given.{Setting}
use Rattle.pi_meaning.specs.OverNames.Control.{Goal, Values, nothing, made_of, applied_to, all_found, all_counted, goal_at, value_at}
use Rattle.pi_meaning.specs.OverNames.Loops.{Finish, as_it_is, hidden, in_order}
use Rattle.pi_meaning.specs.OverNames.Forms.{Form, negation, once, assignment, catch, by_term, membership, form_of, Parts, call_goal, atom_goal, Reading, plain, operand, boolean, ranged, readings, first_reading, later_readings, is_operand_node, is_sum, is_connective, is_constraint, operand_readings, function_value, call_value, range_value}
use Rattle.pi_meaning.specs.OverNames.Goals.{value_of, values_of, values_in, values_apart, goals_in, goal_of, all_of, any_of, arrow_in, branches_of, units_of, collection_of}
use Rattle.pi_meaning.specs.OverNames.OtherNames.{IsOther, AreOther, Lacks, LackAll, LackBranches, AgreeAt, agree_at, OtherNamesChangeNothing}
use Rattle.pi_meaning.proofs.OverNames.OtherEnvironments.{AgreeValued, agree-back, other-append, other-behind, other-kept, other-shared, other-inside, lacks-places, lacks-all-places, lacks-behind, lacks-caught, lacks-branch-places, lacks-assigned, lacks-unit}
use Rattle.pi_meaning.proofs.OverNames.OtherControl.{Steady, SteadyGoal, SteadyValue, SteadyValues, no-answer, no-valued, one-answer, quoted-steady, draining-steady, constantly-steady, name-steady, nothing-steady, front-steady, made-steady, onto-steady, applied-steady, called-steady, calling-steady, found-steady, counted-steady, following-steady, choosing-steady, denying-steady, once-steady, assigning-steady, catching-steady, SteadyArrow, no_arrow, an_arrow, branch-steady, AllSteady, goal-at-steady, value-at-steady}
use Rattle.pi_meaning.proofs.OverNames.OtherLoops.{turning-steady, unit-steady, while-steady, do-steady, adding-steady, comprehended-steady, started-steady, indexed-steady}

record PartsSteady (x : List ℕ) (parts : Parts) : Type 0 where
  goals : AllSteady x (AgreeAt x) parts.goals
  values : AllSteady x (AgreeValued x) parts.values
  late : AllSteady x (AgreeValued x) parts.late
  all : SteadyValues x parts.all

call-steady : (x : List ℕ) (set : Setting) (name : List ℕ) (o : Option Form) (parts : Parts) → PartsSteady x parts → SteadyGoal x (call_goal set name o parts)
call-steady x set name None parts h = called-steady x set name parts.all h.all
call-steady x set name (Some negation) parts h = denying-steady x (goal_at parts.goals 0) (goal-at-steady x parts.goals 0 h.goals)
call-steady x set name (Some once) parts h = once-steady x (goal_at parts.goals 0) (goal-at-steady x parts.goals 0 h.goals)
call-steady x set name (Some assignment) parts h = assigning-steady x parts.variable (value_at parts.values 1) (value-at-steady x parts.values 1 h.values)
call-steady x set name (Some catch) parts h =
    catching-steady x (goal_at parts.goals 0) (value_at parts.values 1) (goal_at parts.goals 2) (goal-at-steady x parts.goals 0 h.goals) (value-at-steady x parts.values 1 h.values) (goal-at-steady x parts.goals 2 h.goals)
call-steady x set name (Some by_term) parts h = calling-steady x set parts.all h.all
call-steady x set name (Some membership) parts h = no-answer x

either-steady : {X : Type 0} (x : List ℕ) (R : X → X → Type 0) (c : Bool) (f g : Level → Place → Trace X) → Steady x R f → Steady x R g → Steady x R (cond c f g)
either-steady x R true f g a b = a
either-steady x R false f g a b = b

cond-steady : {X : Type 0} (R : X → X → Type 0) (c : Bool) (t u v w : Trace X) → BelowBy R t v → BelowBy R u w → BelowBy R (cond c t u) (cond c v w)
cond-steady R true t u v w a b = a
cond-steady R false t u v w a b = b

atom-steady : (x : List ℕ) (set : Setting) (name : List ℕ) → SteadyGoal x (atom_goal set name)
unfolding atom_goal
atom-steady x set name l p q a =
    cond-steady (AgreeAt x) (bytes_eq name (codes "true")) _ _ _ _ (one-answer x l p q a)
    (cond-steady (AgreeAt x) (bytes_eq name (codes "fail")) _ _ _ _ (no-answer x l p q a) (called-steady x set name nothing (nothing-steady x) l p q a))

function-steady : (x : List ℕ) (set : Setting) (name : List ℕ) (k : ℕ) (parts : Parts) → PartsSteady x parts → SteadyValue x (function_value set name k parts)
function-steady x set name k parts h =
    either-steady x (AgreeValued x) (k == 2 && bytes_eq name (codes "find_all")) (all_found (value_at parts.late 0) (goal_at parts.goals 1))
    (cond (k == 1 && bytes_eq name (codes "count_all")) (all_counted (goal_at parts.goals 0)) (applied_to set name parts.all))
    (found-steady x (value_at parts.late 0) (goal_at parts.goals 1) (value-at-steady x parts.late 0 h.late) (goal-at-steady x parts.goals 1 h.goals))
    (either-steady x (AgreeValued x) (k == 1 && bytes_eq name (codes "count_all")) (all_counted (goal_at parts.goals 0)) (applied_to set name parts.all)
    (counted-steady x (goal_at parts.goals 0) (goal-at-steady x parts.goals 0 h.goals)) (applied-steady x set name parts.all h.all))

call-value-steady : (x : List ℕ) (set : Setting) (r : Reading) (name : List ℕ) (k : ℕ) (parts : Parts) → PartsSteady x parts → SteadyValue x (call_value set r name k parts)
unfolding call_value
call-value-steady x set plain name k parts h = function-steady x set name k parts h
call-value-steady x set ranged name k parts h = function-steady x set name k parts h
call-value-steady x set operand name k parts h =
    either-steady x (AgreeValued x) (is_operand_node name k || is_sum name k) (made_of (comp name) parts.all) (function_value set name k parts) (made-steady x (comp name) parts.all h.all) (function-steady x set name k parts h)
call-value-steady x set boolean name k parts h =
    either-steady x (AgreeValued x) (is_connective name k || is_constraint name k) (made_of (comp name) parts.all) (function_value set name k parts) (made-steady x (comp name) parts.all h.all) (function-steady x set name k parts h)

range-steady : (x : List ℕ) (set : Setting) (r : Reading) (vs : Values) → SteadyValues x vs → SteadyValue x (range_value set r vs)
unfolding range_value
range-steady x set plain vs h = applied-steady x set (codes "..") vs h
range-steady x set operand vs h = applied-steady x set (codes "..") vs h
range-steady x set boolean vs h = applied-steady x set (codes "..") vs h
range-steady x set ranged vs h = made-steady x (comp (codes "..")) vs h

-- a text that lacks the name has iterators whose patterns do
abbrev LacksIn : List ℕ → Option ExpTree → Type 0
LacksIn x None = ⊤
LacksIn x (Some e) = Lacks x e

iterated-part : (x : List ℕ) (e f : ExpTree) → Some e ≡ Some f → Lacks x e → Lacks x f
iterated-part x e f same h = subst (λ (o : Option ExpTree). LacksIn x o) same h

iterated-lacks : (x : List ℕ) (u : ExpTree) → Lacks x u → (e : ExpTree) → iterated u ≡ Some e → Lacks x e
unfolding Lacks LackAll
iterated-lacks x (call name (exp e (exp d no_exps))) h f is = tested (bytes_eq name (codes "in")) is
  where
    tested : (b : Bool) → cond b (Some e) None ≡ Some f → Lacks x f
    tested true same = iterated-part x e f same h.0
    tested false same = absurd cc
iterated-lacks x u h f is = absurd cc

behind-places : (x : List ℕ) (before : Names) → AreOther x before → (e : ExpTree) → Lacks x e → AreOther x (behind before (places e))
behind-places x before o e h = other-behind x before (places e) o (lacks-places x e h)

kept-other : (x : List ℕ) (before : Names) (us : ExpTrees) (e : ExpTree) → Lacks x e → AreOther x (kept_names before us (assigned e))
kept-other x before us e h = other-kept x before us (assigned e) (lacks-assigned x e h)

hidden-other : (x : List ℕ) → IsOther x hidden → AreOther x (hidden ∷ [])
unfolding AreOther
hidden-other x other = (other, tt)

mutual
  unfolding value_of values_of values_in values_apart goals_in goal_of all_of any_of arrow_in branches_of units_of collection_of Lacks LackAll LackBranches

  value-steady : (x : List ℕ) → IsOther x hidden → (set : Setting) (r : Reading) (before : Names) → AreOther x before → (e : ExpTree) → Lacks x e → SteadyValue x (value_of set r before e)
  value-steady x n set r before o (var name) h = name-steady x name h
  value-steady x n set r before o (int i) h = constantly-steady x _
  value-steady x n set r before o (atom name) h = constantly-steady x _
  value-steady x n set r before o (str text) h = constantly-steady x _
  value-steady x n set r before o (list es) h = made-steady x _ _ (values-steady x n set [] before o es h)
  value-steady x n set r before o (list_onto es e) h =
      onto-steady x _ _ _ (values-steady x n set [] before o es h.0) (value-steady x n set plain (behind before (places_all es)) (other-behind x before (places_all es) o (lacks-all-places x es h.0)) e h.1)
  value-steady x n set r before o (array es) h = made-steady x _ _ (values-steady x n set [] before o es h)
  value-steady x n set r before o (call name es) h =
      call-value-steady x set r name (exp_count es) _
      (record { goals = goals-in-steady x n set before o es h; values = values-in-steady x n set before o es h; late = values-apart-steady x n set (behind before (places_behind es)) (other-behind x before (places_behind es) o (lacks-behind x es h)) es h; all = values-steady x n set (operand_readings r name (exp_count es)) before o es h })
  value-steady x n set r before o (quote e) h = quoted-steady x e h
  value-steady x n set r before o (index e es) h =
      indexed-steady x set _ _ (value-steady x n set plain before o e h.0) (values-in-steady x n set (behind before (places e)) (behind-places x before o e h.0) es h.1)
  value-steady x n set r before o (range first last) h =
      range-steady x set r _ (front-steady x _ _ (value-steady x n set plain before o first h.0)
      (front-steady x _ nothing (value-steady x n set plain (behind before (places first)) (behind-places x before o first h.0) last h.1) (nothing-steady x)))
  value-steady x n set r before o (range_by first step last) h =
      range-steady x set r _ (front-steady x _ _ (value-steady x n set plain before o first h.0)
      (front-steady x _ _ (value-steady x n set plain (behind before (places first)) (behind-places x before o first h.0) step h.1)
      (front-steady x _ nothing (value-steady x n set plain (behind before (places first ++ places step))
      (other-behind x before (places first ++ places step) o (other-append x (places first) (places step) (lacks-places x first h.0) (lacks-places x step h.1))) last h.2) (nothing-steady x))))
  value-steady x n set r before o (collect is_array e es) h =
      let inside : AreOther x (before ++ hidden ∷ []) = other-append x before (hidden ∷ []) o (hidden-other x n) in
      comprehended-steady x n before o _ (started-steady x (begins_with_iterator es) (in_order is_array) (before ++ hidden ∷ []) _ (hidden ∷ []) inside (other-shared x (before ++ hidden ∷ []) (occurring_all es ++ hidden ∷ occurring e) inside) (hidden-other x n) _
      (λ finish names others. units-steady x n set finish names others (hidden ∷ []) (hidden-other x n) (hidden ∷ occurring e) es h.1 _ (λ ns other. adding-steady x n _ (value-steady x n set plain ns other e h.0))))
  value-steady x n set r before o (at name e) h = no-valued x
  value-steady x n set r before o (and es) h = no-valued x
  value-steady x n set r before o (or es) h = no-valued x
  value-steady x n set r before o (arrow c e) h = no-valued x
  value-steady x n set r before o (if_then bs) h = no-valued x
  value-steady x n set r before o (if_else bs e) h = no-valued x
  value-steady x n set r before o (foreach es e) h = no-valued x
  value-steady x n set r before o (while_do c e) h = no-valued x
  value-steady x n set r before o (do_while e c) h = no-valued x

  values-steady : (x : List ℕ) → IsOther x hidden → (set : Setting) (rs : List Reading) (before : Names) → AreOther x before → (es : ExpTrees) → LackAll x es → SteadyValues x (values_of set rs before es)
  values-steady x n set rs before o no_exps h = nothing-steady x
  values-steady x n set rs before o (exp e es) h =
      front-steady x _ _ (value-steady x n set (first_reading rs) before o e h.0) (values-steady x n set (later_readings rs) (behind before (places e)) (behind-places x before o e h.0) es h.1)

  values-in-steady : (x : List ℕ) → IsOther x hidden → (set : Setting) (before : Names) → AreOther x before → (es : ExpTrees) → LackAll x es → AllSteady x (AgreeValued x) (values_in set before es)
  values-in-steady x n set before o no_exps h = tt
  values-in-steady x n set before o (exp e es) h = (value-steady x n set plain before o e h.0, values-in-steady x n set (behind before (places e)) (behind-places x before o e h.0) es h.1)

  values-apart-steady : (x : List ℕ) → IsOther x hidden → (set : Setting) (before : Names) → AreOther x before → (es : ExpTrees) → LackAll x es → AllSteady x (AgreeValued x) (values_apart set before es)
  values-apart-steady x n set before o no_exps h = tt
  values-apart-steady x n set before o (exp e es) h = (value-steady x n set plain before o e h.0, values-apart-steady x n set before o es h.1)

  goals-in-steady : (x : List ℕ) → IsOther x hidden → (set : Setting) (before : Names) → AreOther x before → (es : ExpTrees) → LackAll x es → AllSteady x (AgreeAt x) (goals_in set before es)
  goals-in-steady x n set before o no_exps h = tt
  goals-in-steady x n set before o (exp e es) h = (goal-steady x n set before o e h.0, goals-in-steady x n set (behind before (places e)) (behind-places x before o e h.0) es h.1)

  pub goal-steady : (x : List ℕ) → IsOther x hidden → (set : Setting) (before : Names) → AreOther x before → (e : ExpTree) → Lacks x e → SteadyGoal x (goal_of set before e)
  goal-steady x n set before o (atom name) h = draining-steady x _ (atom-steady x set name)
  goal-steady x n set before o (call name es) h =
      draining-steady x _ (call-steady x set name (form_of name (exp_count es)) _
      (record { goals = goals-in-steady x n set (behind before (places_caught name es)) (other-behind x before (places_caught name es) o (lacks-caught x name es h)) es h; values = values-in-steady x n set before o es h; late = values-apart-steady x n set (behind before (places_behind es)) (other-behind x before (places_behind es) o (lacks-behind x es h)) es h; all = values-steady x n set (readings name (exp_count es)) before o es h }))
  goal-steady x n set before o (and es) h = all-steady x n set before o es h
  goal-steady x n set before o (or es) h = draining-steady x _ (any-steady x n set before o es h)
  goal-steady x n set before o (if_then bs) h = draining-steady x _ (branches-steady x n set before o bs h (λ m q. one q) (one-answer x))
  goal-steady x n set before o (if_else bs e) h =
      draining-steady x _ (branches-steady x n set before o bs h.0 _
      (goal-steady x n set (behind before (places_of_branches bs)) (other-behind x before (places_of_branches bs) o (lacks-branch-places x bs h.0)) e h.1))
  goal-steady x n set before o (foreach es e) h =
      draining-steady x _ (started-steady x (begins_with_iterator es) as_it_is before _ (kept_names before es (assigned e)) o (other-shared x before (occurring_all es ++ occurring e) o) (kept-other x before es e h.1) _
      (λ finish names others. units-steady x n set finish names others (assigned e) (lacks-assigned x e h.1) (occurring e) es h.0 _ (λ ns other. goal-steady x n set ns other e h.1)))
  goal-steady x n set before o (while_do c e) h =
      let inside : Names = shared_names before (occurring c ++ occurring e) in
      let others : AreOther x inside = other-shared x before (occurring c ++ occurring e) o in
      draining-steady x _ (turning-steady x as_it_is before inside (kept_names before no_exps (assigned e)) o (kept-other x before no_exps e h.1) _
      (while-steady x inside _ _ (goal-steady x n set inside others c h.0) (goal-steady x n set (behind inside (places c)) (behind-places x inside others c h.0) e h.1)))
  goal-steady x n set before o (do_while e c) h =
      let inside : Names = shared_names before (occurring e ++ occurring c) in
      let others : AreOther x inside = other-shared x before (occurring e ++ occurring c) o in
      draining-steady x _ (turning-steady x as_it_is before inside (kept_names before no_exps (assigned e)) o (kept-other x before no_exps e h.0) _
      (do-steady x inside _ _ (goal-steady x n set inside others e h.0) (goal-steady x n set (behind inside (places e)) (behind-places x inside others e h.0) c h.1)))
  goal-steady x n set before o (var name) h = no-answer x
  goal-steady x n set before o (int i) h = no-answer x
  goal-steady x n set before o (str text) h = no-answer x
  goal-steady x n set before o (list es) h = no-answer x
  goal-steady x n set before o (list_onto es e) h = no-answer x
  goal-steady x n set before o (array es) h = no-answer x
  goal-steady x n set before o (quote e) h = no-answer x
  goal-steady x n set before o (index e es) h = no-answer x
  goal-steady x n set before o (range first last) h = no-answer x
  goal-steady x n set before o (range_by first step last) h = no-answer x
  goal-steady x n set before o (at name e) h = no-answer x
  goal-steady x n set before o (collect is_array e es) h = no-answer x
  goal-steady x n set before o (arrow c e) h = no-answer x

  all-steady : (x : List ℕ) → IsOther x hidden → (set : Setting) (before : Names) → AreOther x before → (es : ExpTrees) → LackAll x es → SteadyGoal x (all_of set before es)
  all-steady x n set before o no_exps h = one-answer x
  all-steady x n set before o (exp e es) h = following-steady x _ _ (goal-steady x n set before o e h.0) (all-steady x n set (behind before (places e)) (behind-places x before o e h.0) es h.1)

  any-steady : (x : List ℕ) → IsOther x hidden → (set : Setting) (before : Names) → AreOther x before → (es : ExpTrees) → LackAll x es → SteadyGoal x (any_of set before es)
  any-steady x n set before o no_exps h = no-answer x
  any-steady x n set before o (exp e es) h =
      branch-steady x _ _ _ (arrow-steady x n set before o e h.0) (goal-steady x n set before o e h.0) (any-steady x n set (behind before (places e)) (behind-places x before o e h.0) es h.1)

  arrow-steady : (x : List ℕ) → IsOther x hidden → (set : Setting) (before : Names) → AreOther x before → (e : ExpTree) → Lacks x e → SteadyArrow x (arrow_in set before e)
  arrow-steady x n set before o (arrow c e) h = an_arrow _ (goal-steady x n set before o c h.0) (goal-steady x n set (behind before (places c)) (behind-places x before o c h.0) e h.1)
  arrow-steady x n set before o e h = no_arrow

  branches-steady : (x : List ℕ) → IsOther x hidden → (set : Setting) (before : Names) → AreOther x before → (bs : ExpBranches) → LackBranches x bs → (other : Goal) → SteadyGoal x other → SteadyGoal x (branches_of set before bs other)
  branches-steady x n set before o no_branches h other s = s
  branches-steady x n set before o (branch c e bs) h other s =
      choosing-steady x _ _ _ (goal-steady x n set before o c h.0) (goal-steady x n set (behind before (places c)) (behind-places x before o c h.0) e h.1)
      (branches-steady x n set (behind before (places c ++ places e)) (other-behind x before (places c ++ places e) o (other-append x (places c) (places e) (lacks-places x c h.0) (lacks-places x e h.1))) bs h.2 other s)

  units-steady : (x : List ℕ) → IsOther x hidden → (set : Setting) (finish : Finish) (before : Names) → AreOther x before → (names : Names) → AreOther x names → (used : Names) (us : ExpTrees) → LackAll x us → (body : Names → Goal) →
      ((ns : Names) → AreOther x ns → SteadyGoal x (body ns)) → SteadyGoal x (units_of set finish before names used us body)
  units-steady x n set finish before o names m used no_exps h body s = s before o
  units-steady x n set finish before o names m used (exp u us) h body s =
      let inside : Names = names_inside before (iterated u) (occurring_all us ++ used) in
      let others : AreOther x inside = other-inside x before (iterated u) (occurring_all us ++ used) o in
      unit-steady x finish before inside (kept_names before (exp u us) names) o (other-kept x before (exp u us) names m) (iterated u) _ _ _
      (collection-steady x n set before o u h.0) (goal-steady x n set before o u h.0)
      (units-steady x n set as_it_is (behind inside (unit_places (iterated u) u)) (other-behind x inside (unit_places (iterated u) u) others (lacks-unit x u h.0 (iterated u) (iterated-lacks x u h.0))) names m used us h.1 body s)

  collection-steady : (x : List ℕ) → IsOther x hidden → (set : Setting) (before : Names) → AreOther x before → (e : ExpTree) → Lacks x e → SteadyValue x (collection_of set before e)
  collection-steady x n set before o (call name es) h = value-at-steady x _ 1 (values-apart-steady x n set before o es h)
  collection-steady x n set before o e h = no-valued x

pub other-names-change_nothing : OtherNamesChangeNothing
other-names-change_nothing set x n before o goal h l e f a s =
    (goal-steady x n set before o goal h l _ _ (agree_at e f a s), goal-steady x n set before o goal h l _ _ (agree_at f e (agree-back x e f a) s))
