-- What a goal comes to, by its kind, and a call by its form.
use Rattle.std.proofs.Common.{◌≡◌, ℕ, true, false, List, [], ◌∷◌, ◌++◌, get_or, refl, sym, ◌∙◌, ap, append_assoc, length}
use Rattle.std.specs.Prelude.{map, IfOk, Result, Ok, Err}
use Rattle.pi_core.specs.CoreTree.{pred_tree}
use Rattle.pi_core.specs.declared.core_program.CorePred.{CorePred}
use Rattle.pi_terms.specs.Tree.{Tree}
use Rattle.pi_core.specs.GoalTree.{GoalTree}
use Rattle.pi_syntax.specs.ExpTree.{ExpTree, ExpTrees, ExpBranches, exp_tree}
use Rattle.pi_syntax.specs.ExpLists.{exps_of}
use Rattle.pi_syntax.specs.Signature.{exp_count}
use Rattle.pi_syntax.specs.declared.exp.Exp.{Exp}
use Rattle.pi_meaning.specs.OverNames.Forms.{form_of, Reading, readings}
use Rattle.pi_rewrite_spec.specs.Slots.{SlotNames}
use Rattle.pi_rewrite_spec.specs.Values.{SlotValue, SlotValues}
use Rattle.pi_rewrite_spec.specs.Goals.{SlotGoals, as_goals, atom_goals, just, never, either_of, in_turn, goal_by, called, catching}
use Rattle.pi_meaning.specs.OverNames.Texts.{places_of_branches}
use Rattle.pi_rewrite_spec.specs.Sites.{Site, behind_site, behind_exp, helpers_in_branches}
use Rattle.pi_rewrite_spec.specs.Written.{made_as, arguments_as, goal_of, all_of, branches_of}
use Rattle.pi_rewrite_spec.specs.Helpers.{goal_helpers}
use Rattle.pi_rewrite_loops.specs.Parts.{IsValue, AreValues, AreGoals, IsAlone}
use Rattle.pi_rewrite_goals.specs.Lowering.{values_as, by_place_as, With, value_of, by_place, goal_with, call_as_goal}
use Rattle.pi_rewrite_goals.specs.Joined.{closed, chosen, chosen_onto, branches_onto, AreBranches, AreConditions}
use Rattle.pi_rewrite_goals.specs.Calls.{atom_tree}
use Rattle.pi_rewrite_goals.specs.declared.calls.CallForm.{CallForm}
use Rattle.pi_rewrite_goals.specs.declared.calls.CallForm.TheVariants.{Negation, Once, Catch, Never, Plain}
use Rattle.pi_rewrite_goals.specs.declared.branches.Branch.{Branch}
use Rattle.pi_rewrite_goals.specs.declared.branches.Condition.{Condition}
use Rattle.pi_rewrite_goals.proofs.ValueLemmas.{goals-as}
use Rattle.pi_rewrite_goals.proofs.CallLemmas.{Found, ball_site, handler_site, goal-not, goal-once, goal-never, goal-plain, goal-catch}
use Rattle.pi_rewrite_goals.proofs.HelperLemmas.{no-helpers}

pub put-atom : (s : Site) (e : ExpTree) (name label : List ℕ) (ns m : SlotNames) (old new : List GoalTree) (g : GoalTree) → e ≡ ExpTree.atom name → label ≡ name → g ≡ atom_tree label → new ≡ old ++ g ∷ [] → m ≡ ns → AreGoals (goal_of s e ns) old new m
unfolding made_as
put-atom s e name label ns m old new g is same atom put names =
    goals-as (goal_of s e ns) (atom_goals name ns) old new m (ap (λ z. goal_of s z ns) is)
    (record { goals = put ∙ ap (λ (a : GoalTree). old ++ a ∷ []) (atom ∙ ap atom_tree same); names = names })

pub goal-call : (s : Site) (e : ExpTree) (name label : List ℕ) (es : ExpTrees) (ns : SlotNames) → e ≡ ExpTree.call name es → label ≡ name → goal_of s e ns ≡ call_as_goal s label es ns
unfolding made_as call_as_goal
goal-call s e name label es ns p same = ap (λ t. goal_of s t ns) p ∙ ap (λ l. goal_with (form_of l (exp_count es)) s l es ns) (sym same)

pub goal-and : (s : Site) (e : ExpTree) (es : ExpTrees) (ns : SlotNames) → e ≡ ExpTree.and es → goal_of s e ns ≡ all_of s es ns
unfolding made_as
goal-and s e es ns p = ap (λ t. goal_of s t ns) p

pub put-or : (s : Site) (e : ExpTree) (es : ExpTrees) (ns m : SlotNames) (bs : List Branch) (old new : List GoalTree) (g : GoalTree) → e ≡ ExpTree.or es → AreBranches s es ns bs m → g ≡ either_of (closed bs []) → new ≡ old ++ g ∷ [] → AreGoals (goal_of s e ns) old new m
unfolding made_as
put-or s e es ns m bs old new g p all made put =
    goals-as (goal_of s e ns) (as_goals (branches_onto bs (record { branches = []; names = m }))) old new m (ap (λ t. goal_of s t ns) p ∙ ap as_goals all.are)
    (record { goals = put ∙ ap (λ (a : GoalTree). old ++ a ∷ []) made; names = refl })

put-chosen : (g other : SlotGoals) (cs : List Condition) (none last old new : List GoalTree) (m : SlotNames) → g ≡ chosen_onto cs other → none ≡ [] → AreGoals other none last m → new ≡ old ++ chosen cs last → AreGoals g old new m
put-chosen g other cs none last old new m is empty there put =
    goals-as g (chosen_onto cs other) old new m is
    (record { goals = put ∙ ap (λ gs. old ++ chosen cs gs) (there.goals ∙ ap (λ gs. gs ++ other.goals) empty); names = there.names })

pub put-if_else : (s s' : Site) (e : ExpTree) (bs : ExpBranches) (y : ExpTree) (ns m n : SlotNames) (cs : List Condition) (none gs old new : List GoalTree) → e ≡ ExpTree.if_else bs y → AreConditions s bs ns cs m → s' ≡ behind_site s (places_of_branches bs) (helpers_in_branches bs) →
    none ≡ [] → AreGoals (goal_of s' y m) none gs n → new ≡ old ++ chosen cs gs → AreGoals (goal_of s e ns) old new n
unfolding made_as
put-if_else s s' e bs y ns m n cs none gs old new p all go empty there put =
    put-chosen (goal_of s e ns) (goal_of s' y m) cs none gs old new n
    (ap (λ t. goal_of s t ns) p ∙ (ap (λ z. branches_of s bs (goal_of z y) ns) (sym go) ∙ all.are (goal_of s' y))) empty there put

pub put-if_then : (s : Site) (e : ExpTree) (bs : ExpBranches) (ns m : SlotNames) (cs : List Condition) (none gs old new : List GoalTree) (g : GoalTree) → e ≡ ExpTree.if_then bs →
    AreConditions s bs ns cs m → none ≡ [] → g ≡ GoalTree.truth → gs ≡ none ++ g ∷ [] → new ≡ old ++ chosen cs gs → AreGoals (goal_of s e ns) old new m
unfolding made_as
put-if_then s e bs ns m cs none gs old new g p all empty truth there put =
    put-chosen (goal_of s e ns) (just GoalTree.truth m) cs none gs old new m
    (ap (λ t. goal_of s t ns) p ∙ all.are (λ ms. just GoalTree.truth ms))
    empty (record { goals = there ∙ ap (λ (a : GoalTree). none ++ a ∷ []) truth; names = refl }) put

-- what is no goal
pub put-never : (g : SlotGoals) (ns m : SlotNames) (old new : List GoalTree) → g ≡ never ns → new ≡ old ++ GoalTree.fail ∷ [] → m ≡ ns → AreGoals g old new m
put-never g ns m old new is put names = goals-as g (never ns) old new m is (record { goals = put; names = names })

-- ---- goals as one

pub is-alone : (g : SlotGoals) (none gs : List GoalTree) (one : GoalTree) (m : SlotNames) → none ≡ [] → AreGoals g none gs m → one ≡ in_turn gs → IsAlone g one m
is-alone g none gs one m empty all turn = record {
  goal = turn ∙ ap in_turn (all.goals ∙ ap (λ hs. hs ++ g.goals) empty);
  names = all.names;
}

pub alone-as : (g h : SlotGoals) (one : GoalTree) (m : SlotNames) → g ≡ h → IsAlone h one m → IsAlone g one m
alone-as g h one m e r = record {
  goal = r.goal ∙ sym (ap (λ x. in_turn x.goals) e);
  names = r.names ∙ sym (ap (λ x. x.names) e);
}

-- ---- calls

pub put-by : (g h : SlotGoals) (make : GoalTree → GoalTree) (one made : GoalTree) (old new : List GoalTree) (m : SlotNames) → g ≡ goal_by make h → IsAlone h one m → made ≡ make one → new ≡ old ++ made ∷ [] → AreGoals g old new m
put-by g h make one made old new m is alone by put =
    goals-as g (goal_by make h) old new m is (record { goals = put ∙ ap (λ (a : GoalTree). old ++ a ∷ []) (by ∙ ap make alone.goal); names = alone.names })

pub put-called : (g : SlotGoals) (name : List ℕ) (vs : SlotValues) (old mid new : List GoalTree) (ts : List Tree) (made : GoalTree) (m : SlotNames) → g ≡ called name vs → AreValues vs old mid ts m → made ≡ GoalTree.call name ts → new ≡ mid ++ made ∷ [] → AreGoals g old new m
put-called g name vs old mid new ts made m is all by put =
    goals-as g (called name vs) old new m is
    (record {
      goals = put ∙ (ap (λ gs. gs ++ made ∷ []) all.goals ∙ (append_assoc old vs.goals (made ∷ []) ∙ ap (λ (a : GoalTree). old ++ (vs.goals ++ a ∷ [])) (by ∙ ap (λ us. GoalTree.call name us) all.trees)));
      names = all.names;
    })

pub put-catch : (g handler : SlotNames → SlotGoals) (v : SlotValue) (old mid new : List GoalTree) (t : Tree) (one other made : GoalTree) (a b c : SlotNames) → IsValue v old mid t a → IsAlone (g a) one b → IsAlone (handler b) other c → made ≡ GoalTree.catch one t other → new ≡ mid ++ made ∷ [] →
    AreGoals (catching g handler v) old new c
put-catch g handler v old mid new t one other made a b c ball first second by put =
    let in-first : IsAlone (g v.names) one b = record { goal = first.goal ∙ ap (λ ms. in_turn (g ms).goals) ball.names; names = first.names ∙ ap (λ ms. (g ms).names) ball.names } in
    let rest : SlotNames = (g v.names).names in
    record {
      goals = put ∙ (ap (λ gs. gs ++ made ∷ []) ball.goals ∙ (append_assoc old v.goals (made ∷ [])
          ∙ ap (λ (x : GoalTree). old ++ (v.goals ++ x ∷ [])) (by ∙ (ap (λ (x : GoalTree). GoalTree.catch x t other) in-first.goal
          ∙ (ap (λ (x : Tree). GoalTree.catch (in_turn (g v.names).goals) x other) ball.tree
          ∙ ap (λ (x : GoalTree). GoalTree.catch (in_turn (g v.names).goals) v.tree x) (second.goal ∙ ap (λ ms. in_turn (handler ms).goals) in-first.names))))));
      names = second.names ∙ ap (λ ms. (handler ms).names) in-first.names;
    }

-- ---- calls by their form

pub put-not : (s : Site) (name : List ℕ) (es : List Exp) (n : ℕ) (f : CallForm) (x : Exp) (ns m : SlotNames) (old new : List GoalTree) (one made : GoalTree) → Found name es n f → f ≡ Negation → x ≡ get_or es 0 x →
    IsAlone (goal_of s (exp_tree x) ns) one m → made ≡ GoalTree.not one → new ≡ old ++ made ∷ [] → AreGoals (call_as_goal s name (exps_of es) ns) old new m
put-not s name es n f x ns m old new one made found by at alone turn put =
    put-by (call_as_goal s name (exps_of es) ns) (goal_of s (exp_tree x) ns) GoalTree.not one made old new m (goal-not s name es n f x ns found by at) alone turn put

pub put-once : (s : Site) (name : List ℕ) (es : List Exp) (n : ℕ) (f : CallForm) (x : Exp) (ns m : SlotNames) (old new : List GoalTree) (one made : GoalTree) → Found name es n f → f ≡ Once → x ≡ get_or es 0 x →
    IsAlone (goal_of s (exp_tree x) ns) one m → made ≡ GoalTree.once one → new ≡ old ++ made ∷ [] → AreGoals (call_as_goal s name (exps_of es) ns) old new m
put-once s name es n f x ns m old new one made found by at alone turn put =
    put-by (call_as_goal s name (exps_of es) ns) (goal_of s (exp_tree x) ns) GoalTree.once one made old new m (goal-once s name es n f x ns found by at) alone turn put

pub put-no-call : (s : Site) (name : List ℕ) (es : List Exp) (n : ℕ) (f : CallForm) (ns m : SlotNames) (old new : List GoalTree) → Found name es n f → f ≡ Never → new ≡ old ++ GoalTree.fail ∷ [] → m ≡ ns → AreGoals (call_as_goal s name (exps_of es) ns) old new m
put-no-call s name es n f ns m old new found by put names = put-never (call_as_goal s name (exps_of es) ns) ns m old new (goal-never s name es n f ns found by) put names

pub put-plain : (s : Site) (name : List ℕ) (es : List Exp) (n : ℕ) (f : CallForm) (rs : List Reading) (ns m : SlotNames) (old mid new : List GoalTree) (ts : List Tree) (made : GoalTree) → Found name es n f → f ≡ Plain → rs ≡ readings name (length es) →
    AreValues (values_as false s rs (exps_of es) ns) old mid ts m → made ≡ GoalTree.call name ts → new ≡ mid ++ made ∷ [] → AreGoals (call_as_goal s name (exps_of es) ns) old new m
unfolding values_as
put-plain s name es n f rs ns m old mid new ts made found by read all turn put =
    put-called (call_as_goal s name (exps_of es) ns) name (values_as false s rs (exps_of es) ns) old mid new ts made m
    (goal-plain s name es n f ns found by ∙ ap (λ qs. called name (arguments_as s qs (exps_of es) ns)) (sym read)) all turn put

pub put-caught : (s b g h : Site) (name : List ℕ) (es : List Exp) (n : ℕ) (f : CallForm) (x y z : Exp) (ns a c d : SlotNames) (old mid new : List GoalTree) (t : Tree) (one other made : GoalTree) → Found name es n f → f ≡ Catch → x ≡ get_or es 0 x → y ≡ get_or es 1 y → z ≡ get_or es 2 z →
    b ≡ ball_site s (exp_tree x) → g ≡ behind_exp s (exp_tree y) → h ≡ handler_site s (exp_tree x) (exp_tree y) → IsValue (by_place true b (exp_tree y) ns) old mid t a → IsAlone (goal_of g (exp_tree x) a) one c → IsAlone (goal_of h (exp_tree z) c) other d →
    made ≡ GoalTree.catch one t other → new ≡ mid ++ made ∷ [] → AreGoals (call_as_goal s name (exps_of es) ns) old new d
unfolding by_place_as
put-caught s b g h name es n f x y z ns a c d old mid new t one other made found by at at-ball at-last first second third ball goal handler turn put =
    goals-as (call_as_goal s name (exps_of es) ns) (catching (goal_of g (exp_tree x)) (goal_of h (exp_tree z)) (value_of b (exp_tree y) ns)) old new d
    (goal-catch s name es n f x y z ns found by at at-ball at-last
    ∙ (ap (λ w. catching (goal_of w (exp_tree x)) (goal_of (handler_site s (exp_tree x) (exp_tree y)) (exp_tree z)) (value_of (ball_site s (exp_tree x)) (exp_tree y) ns)) (sym second)
    ∙ (ap (λ w. catching (goal_of g (exp_tree x)) (goal_of w (exp_tree z)) (value_of (ball_site s (exp_tree x)) (exp_tree y) ns)) (sym third)
    ∙ ap (λ w. catching (goal_of g (exp_tree x)) (goal_of h (exp_tree z)) (value_of w (exp_tree y) ns)) (sym first))))
    (put-catch (goal_of g (exp_tree x)) (goal_of h (exp_tree z)) (value_of b (exp_tree y) ns) old mid new t one other made a c d ball goal handler turn put)

-- ---- what is no goal

pub never-as : {A E : Type 0} → (s : Site) (x y : Exp) (ns : SlotNames) (old new : List GoalTree) (hs : List CorePred) (r : Result A E) → x ≡ y → goal_of s (exp_tree y) ns ≡ never ns → goal_helpers s (exp_tree y) ≡ [] → IfOk r (λ _. new ≡ old ++ GoalTree.fail ∷ []) →
    IfOk r (λ _. With (AreGoals (goal_of s (exp_tree x) ns) old new ns) hs hs (goal_helpers s (exp_tree x)))
never-as s x y ns old new hs (Ok t) p is none put = record {
  is = put-never (goal_of s (exp_tree x) ns) ns ns old new (ap (λ z. goal_of s (exp_tree z) ns) p ∙ is) put refl;
  helpers = no-helpers (map pred_tree hs) (goal_helpers s (exp_tree x)) (ap (λ z. goal_helpers s (exp_tree z)) p ∙ none);
}
never-as s x y ns old new hs (Err r) p is none put = tt
