-- `X := E` by the value that is assigned and the slot that it goes into.
use Rattle.std.proofs.Common.{◌≡◌, ℕ, true, List, [], ◌∷◌, ◌++◌, refl, sym, ◌∙◌, ap, append_assoc, get_or}
use Rattle.std.specs.Prelude.{Option, Some, None}
use Rattle.pi_terms.specs.Tree.{Tree}
use Rattle.pi_effects.specs.Inner.{itself_name}
use Rattle.pi_core.specs.GoalTree.{GoalTree}
use Rattle.pi_syntax.specs.ExpTree.{ExpTree, var, int, atom, str, list, list_onto, array, call, quote, index, range, range_by, at, collect, and, or, arrow, if_then, if_else, foreach, while_do, do_while, ExpTrees, no_exps, exp, exp_tree}
use Rattle.pi_syntax.specs.ExpLists.{exps_of}
use Rattle.pi_syntax.specs.declared.exp.Exp.{Exp}
use Rattle.pi_meaning.specs.OverNames.Texts.{variable_first}
use Rattle.pi_rewrite_spec.specs.Slots.{SlotNames, slot_for, slots_for}
use Rattle.pi_rewrite_spec.specs.Values.{SlotValue}
use Rattle.pi_rewrite_spec.specs.Goals.{assigned}
use Rattle.pi_rewrite_spec.specs.Sites.{Site, behind_exp}
use Rattle.pi_rewrite_loops.specs.Parts.{IsValue, AreGoals}
use Rattle.pi_rewrite_goals.specs.Lowering.{by_place_as, value_of, by_place, call_as_goal}
use Rattle.pi_rewrite_goals.specs.Calls.{assigned_to}
use Rattle.pi_rewrite_goals.specs.declared.calls.CallForm.{CallForm}
use Rattle.pi_rewrite_goals.specs.declared.calls.CallForm.TheVariants.{Assignment}
use Rattle.pi_rewrite_goals.proofs.ValueLemmas.{goals-as}
use Rattle.pi_rewrite_goals.proofs.CallLemmas.{Found, goal-assigned}

-- what stands first
first-to : (e : ExpTree) (es : ExpTrees) (v : SlotValue) → assigned (variable_first (exp e es)) v ≡ assigned_to e v
first-to (var name) es v = refl
first-to (int n) es v = refl
first-to (atom name) es v = refl
first-to (str text) es v = refl
first-to (list fs) es v = refl
first-to (list_onto fs f) es v = refl
first-to (array fs) es v = refl
first-to (call name fs) es v = refl
first-to (quote f) es v = refl
first-to (index f fs) es v = refl
first-to (range f g) es v = refl
first-to (range_by f g k) es v = refl
first-to (at name f) es v = refl
first-to (collect is_array f fs) es v = refl
first-to (and fs) es v = refl
first-to (or fs) es v = refl
first-to (arrow f g) es v = refl
first-to (if_then bs) es v = refl
first-to (if_else bs f) es v = refl
first-to (foreach fs f) es v = refl
first-to (while_do f g) es v = refl
first-to (do_while f g) es v = refl

-- goals behind those of the value
behind-value : (o : Option (List ℕ)) (v : SlotValue) (old mid new : List GoalTree) (t : Tree) (a c : SlotNames) → IsValue v old mid t a → AreGoals (assigned o (record { goals = []; tree = t; names = a })) mid new c → AreGoals (assigned o v) old new c
behind-value None v old mid new t a c is put = record {
  goals = put.goals ∙ (ap (λ gs. gs ++ GoalTree.fail ∷ []) is.goals ∙ append_assoc old v.goals (GoalTree.fail ∷ []));
  names = put.names ∙ is.names;
}
behind-value (Some name) v old mid new t a c is put = record {
  goals = put.goals ∙ (ap (λ gs. gs ++ GoalTree.apply itself_name (t ∷ []) (slot_for name a) ∷ []) is.goals
      ∙ (append_assoc old v.goals (GoalTree.apply itself_name (t ∷ []) (slot_for name a) ∷ [])
      ∙ (ap (λ (u : Tree). old ++ (v.goals ++ GoalTree.apply itself_name (u ∷ []) (slot_for name a) ∷ [])) is.tree
      ∙ ap (λ ns. old ++ (v.goals ++ GoalTree.apply itself_name (v.tree ∷ []) (slot_for name ns) ∷ [])) is.names)));
  names = put.names ∙ ap (λ ns. slots_for name ns) is.names;
}

behind-to : (e : ExpTree) (v : SlotValue) (old mid new : List GoalTree) (t : Tree) (a c : SlotNames) → IsValue v old mid t a → AreGoals (assigned_to e (record { goals = []; tree = t; names = a })) mid new c → AreGoals (assigned_to e v) old new c
behind-to e v old mid new t a c is put =
    let w : SlotValue = record { goals = []; tree = t; names = a } in
    let o : Option (List ℕ) = variable_first (exp e no_exps) in
    goals-as (assigned_to e v) (assigned o v) old new c (sym (first-to e no_exps v))
    (behind-value o v old mid new t a c is (goals-as (assigned o w) (assigned_to e w) mid new c (first-to e no_exps w) put))

pub assigned-value : (s s' : Site) (to y : ExpTree) (ns a c : SlotNames) (old mid new : List GoalTree) (t : Tree) → s' ≡ behind_exp s to → IsValue (by_place true s' y ns) old mid t a → AreGoals (assigned_to to (record { goals = []; tree = t; names = a })) mid new c →
    AreGoals (assigned_to to (value_of (behind_exp s to) y ns)) old new c
unfolding by_place_as
assigned-value s s' to y ns a c old mid new t go value put =
    goals-as (assigned_to to (value_of (behind_exp s to) y ns)) (assigned_to to (value_of s' y ns)) old new c (ap (λ z. assigned_to to (value_of z y ns)) (sym go)) (behind-to to (value_of s' y ns) old mid new t a c value put)

pub assigned-call : (s : Site) (name : List ℕ) (es : List Exp) (n : ℕ) (f : CallForm) (to y : Exp) (ns : SlotNames) → Found name es n f → f ≡ Assignment → to ≡ get_or es 0 to → y ≡ get_or es 1 y →
    call_as_goal s name (exps_of es) ns ≡ assigned_to (exp_tree to) (value_of (behind_exp s (exp_tree to)) (exp_tree y) ns)
assigned-call s name es n f to y ns found by first second =
    goal-assigned s name es n f to y ns found by first second ∙ first-to (exp_tree to) (exp (exp_tree y) no_exps) (value_of (behind_exp s (exp_tree to)) (exp_tree y) ns)
