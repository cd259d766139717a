-- Each goal and each expression of a text that is built is lowered to goals that are fine wherever they stand, with good helpers.
use Rattle.std.proofs.Common.{◌≡◌, ℕ, zero, suc, ◌+◌, Bool, true, false, cond, List, [], ◌∷◌, ◌++◌, length, refl, sym, ◌∙◌, ap, subst, append_assoc}
use Rattle.std.specs.Prelude.{None, codes, ◌&&◌}
use Rattle.std.specs.Str.{bytes_eq}
use Rattle.std.proofs.lemmas.Bool.{false≢true, and_parts}
use Rattle.std.proofs.lemmas.List.{append-nil}
use Rattle.pi_terms.specs.Tree.{Tree, comp}
use Rattle.pi_terms.specs.ListNames.{nil}
use Rattle.pi_constraints.proofs.KeepsLemmas.{comp-below}
use Rattle.pi_syntax.specs.PrintTerm.{array_name}
use Rattle.pi_syntax.specs.ExpTree.{ExpTree, var, int, atom, str, list, list_onto, array, call, quote, index, range, range_by, collect, and, or, arrow, if_then, if_else, foreach, while_do, do_while, ExpTrees, no_exps, exp, ExpBranches, no_branches, branch}
use Rattle.pi_syntax.specs.Signature.{exp_count}
use Rattle.pi_core.specs.GoalTree as core
use Rattle.pi_core.specs.CoreTree.{PredTree}
use Rattle.pi_meaning.proofs.CoreMeaning.MeaningLemmas.{count-of}
use Rattle.pi_meaning.specs.OverNames.Terms.{items_onto}
use Rattle.pi_meaning.specs.OverNames.Texts.{places, places_all, places_of_branches, occurring, occurring_all, iterated, begins_with_iterator, variable_first, assigned, kept_names}
use Rattle.pi_meaning.specs.OverNames.Loops.{hidden}
use Rattle.pi_meaning.specs.OverNames.Forms.{form_of, Reading, plain, readings, first_reading, later_readings, operand_readings, is_find_all, is_count_all}
use Rattle.pi_meaning.proofs.OverNames.LoopNames.{Within, AreNamed, behind-named, shared-before, assigned-occurs}
use Rattle.pi_rewrite_spec.specs.Slots.{SlotNames}
use Rattle.pi_rewrite_spec.specs.Values.{stays, is_ranged, is_flat_as, are_flat_as, is_flat, SlotValue, last_value, value_before, value_by, value_of_parts}
use Rattle.pi_rewrite_spec.specs.Goals as slots
use Rattle.pi_rewrite_spec.specs.Goals.{SlotGoals, begins_flat, just, two_parts, three_parts, range_of_two, range_of_three}
use Rattle.pi_rewrite_spec.specs.Forms.{IsRead, AreRead, IsNode, Knows, IsExpressionAt, IsGoalAt, IsGoal, AreGoals, AreBranches, IsBranch, HaveGoals, AreUnits, IsCollection}
use Rattle.pi_rewrite_spec.specs.Sites.{Site, helpers_in, helpers_in_all, helpers_in_branches, behind_site, behind_exp, following_sites, goal_sites, value_sites}
use Rattle.pi_rewrite_spec.specs.Loops.{Ending, as_it_is, in_order, Loop, while_helper, do_helper}
use Rattle.pi_rewrite_spec.specs.Comprehensions.{adding}
use Rattle.pi_rewrite_spec.specs.Written.{made_as, parts_as, arguments_as, while_loop, do_loop, turns_of, Inner, inner_of, gathering, gathered_at, is_range, made, values_in, goals_in, goal_of, all_of, any_of, arrow_in, branches_of, units}
use Rattle.pi_rewrite_spec.specs.Helpers.{helpers_at, value_helpers, all_helpers, values_helpers, goals_helpers, goal_helpers, conjunct_helpers, branch_helpers, units_helpers, collection_helpers}
use Rattle.pi_rewrite_laws.proofs.BelowLemmas.{atom-below, items-below}
use Rattle.pi_rewrite_laws.proofs.FormLemmas.{a-term}
use Rattle.pi_rewrite_laws.proofs.TextCalls.{arguments-count}
use Rattle.pi_rewrite_laws.proofs.CollectLemmas.{hidden-named, hidden-within, hidden-stands, hidden-shared}
use Rattle.pi_rewrite_laws.proofs.HelperLemmas.{AreAmong}
use Rattle.pi_rewrite_laws.proofs.LoopTexts.{shared-among, kept-before, kept-among}
use Rattle.pi_rewrite_laws.proofs.UnitLemmas.{within-behind}
use Rattle.pi_rewrite_spec.proofs.ReadingLemmas.{third-of}
use Rattle.pi_rewrite_sound.specs.Built.{are_some, is_built_function, is_assigned, is_built_form, is_built_value, are_built_values, is_built_value_at, is_built_goal_at, is_built_goal, are_built_goals, are_built_branches, is_built_branch, have_built_goals, is_built_unit, are_built_units, is_built_collection}
use Rattle.pi_rewrite_sound.proofs.FineGoals.{fine-truth}
use Rattle.pi_rewrite_sound.proofs.GivenNames.{ranges-there}
use Rattle.pi_rewrite_sound.proofs.GoodHelpers.{has-last}
use Rattle.pi_rewrite_sound.proofs.GoodGoals.{GoodGoals, GoodValue, GoodValues, GoodBranches, good-nothing, good-just, good-joined, good-choosing, good-no-branches, good-as-goals, GoodArrow, no_good_arrow, a_good_arrow, good-branch, good-same}
use Rattle.pi_rewrite_sound.proofs.GoodValues.{good-none, good-last, good-before, good-by, good-no-values, good-front, pair-good, three-good, kept-good, kept-three, good-parts, good-onto, good-table, GoodIndexes, no_indexes, one_index, good-indexed}
use Rattle.pi_rewrite_sound.proofs.GoodCalls.{good-value-call, good-goal-call, good-atom, goal-sites-named, value-sites-named}
use Rattle.pi_rewrite_sound.proofs.LoopGoals.{good-loop}
use Rattle.pi_rewrite_sound.proofs.LoopHelpers.{enters-again, good-while, good-do}
use Rattle.pi_rewrite_sound.proofs.GoodUnits.{GoodCollection, by_value, by_range, unit-good, started-good, good-adding, good-comprehension}

-- a branch without an arrow is a goal
branch-goal : (known : Knows) (s : Site) (e : ExpTree) → IsBranch known e → arrow_in s e ≡ None → IsGoal known e
unfolding IsBranch made_as
branch-goal known s (arrow c e) is none = absurd cc
branch-goal known s (atom name) is none = is
branch-goal known s (call name es) is none = is
branch-goal known s (and es) is none = is
branch-goal known s (or es) is none = is
branch-goal known s (if_then bs) is none = is
branch-goal known s (if_else bs e) is none = is
branch-goal known s (foreach es e) is none = is
branch-goal known s (while_do c e) is none = is
branch-goal known s (do_while e c) is none = is
branch-goal known s e is none = absurd is

branch-built : (s : Site) (e : ExpTree) → is_built_branch e ≡ true → arrow_in s e ≡ None → is_built_goal e ≡ true
unfolding is_built_branch made_as
branch-built s (arrow c e) is none = absurd cc
branch-built s (atom name) is none = is
branch-built s (call name es) is none = is
branch-built s (and es) is none = is
branch-built s (or es) is none = is
branch-built s (if_then bs) is none = is
branch-built s (if_else bs e) is none = is
branch-built s (foreach es e) is none = is
branch-built s (while_do c e) is none = is
branch-built s (do_while e c) is none = is
branch-built s e is none = absurd (false≢true is)

counted : (s : Site) (rs : List Reading) (es : ExpTrees) (ns : SlotNames) → length (arguments_as s rs es ns).trees ≡ exp_count es
counted s rs es ns = sym (count-of (arguments_as s rs es ns).trees) ∙ arguments-count s rs es ns

-- a call, by whether it stays as a structure
node-good : (known : Knows) (r : Reading) (name : List ℕ) (k : ℕ) (own called : Type 0) (exps : Bool) (found counts : Bool) (ps qs all : List PredTree) (stay : SlotNames → SlotValue) (function : SlotNames → SlotValue) → (own → exps ≡ true → GoodValue known all stay) →
    (called → cond (is_find_all name k) found (cond (is_count_all name k) counts (exps && is_built_function name k)) ≡ true → GoodValue known (cond (is_find_all name k) ps (cond (is_count_all name k) qs all)) function) → (test : Bool) → stays r name k ≡ test →
    IsNode test own called → cond (is_find_all name k) found (cond (is_count_all name k) counts (exps && is_built_function name k)) ≡ true →
    GoodValue known (cond (is_find_all name k) ps (cond (is_count_all name k) qs all)) (λ ns. cond test (stay ns) (function ns))
node-good known r name k own called exps found counts ps qs all stay function one other true stays is built =
    subst (λ (hs : List PredTree). GoodValue known hs stay) (sym (third-of r name k stays ps qs all))
    (one is (and_parts exps (is_built_function name k) (sym (third-of r name k stays found counts (exps && is_built_function name k)) ∙ built)).0)
node-good known r name k own called exps found counts ps qs all stay function one other false stays is built = other is built

-- a range, by whether it stays as one
range-good : (known : Knows) (ps : List PredTree) (test : Bool) (stay function : SlotNames → SlotValue) → GoodValue known ps stay → GoodValue known ps function → GoodValue known ps (λ ns. cond test (stay ns) (function ns))
range-good known ps true stay function one other = one
range-good known ps false stay function one other = other

-- ---- each of them

mutual
  unfolding made_as value_helpers helpers_at is_flat_as IsRead is_built_value slots.indexed_by slots.goals_at slots.value_at following_sites exp_count assigned occurring

  pub value-good : (known : Knows) (s : Site) (r : Reading) (e : ExpTree) → AreNamed s.before → IsRead known r e → is_built_value e ≡ true → GoodValue known (value_helpers s e) (λ ns. made_as s r e ns)
  value-good known s r (var name) named is built = good-none
  value-good known s r (int n) named is built = good-none
  value-good known s r (atom name) named is built = good-none
  value-good known s r (str text) named is built = good-none
  value-good known s r (quote e) named is built = good-none
  value-good known s r (list es) named is built = good-parts (λ ts. items_onto ts (Tree.atom nil)) (λ n ts below. items-below n ts (Tree.atom nil) below (atom-below n nil)) (parts-good known s [] es named is built)
  value-good known s r (list_onto es e) named is built =
      let both : (are_built_values es ≡ true) × (is_built_value e ≡ true) = and_parts (are_built_values es) (is_built_value e) built in
      good-onto (parts-good known s [] es named is.0 both.0)
      (good-before plain s.filled e (value-good known (behind_site s (places_all es) (helpers_in_all es)) plain e (behind-named s.before (places_all es) named) is.1 both.1))
  value-good known s r (array es) named is built = good-parts (comp array_name) (λ n ts below. comp-below n array_name ts below) (parts-good known s [] es named is built)
  value-good known s r (call name es) named is built =
      let k : ℕ = exp_count es in
      let at : ℕ → Site = value_sites (is_find_all name k) s es in
      let there : (i : ℕ) → AreNamed (at i).before = value-sites-named (is_find_all name k) s es named in
      node-good known r name k _ _ (are_built_values es) (is_built_value_at es 0 && is_built_goal_at es 1) (is_built_goal_at es 0) _ _ (all_helpers s es) (λ ns. value_of_parts (comp name) (parts_as s (operand_readings r name k) es ns)) _
      (λ are fine. good-parts (comp name) (λ n ts below. comp-below n name ts below) (parts-good known s (operand_readings r name k) es named are fine))
      (λ call fine. good-value-call known name k (AreRead known [] es) (are_built_values es) (IsExpressionAt known es) (IsGoalAt known es) (is_built_value_at es) (is_built_goal_at es)
      (record { goals = goals_helpers at es; values = values_helpers at es; all = all_helpers s es })
      (record { variable = variable_first es; goals = goals_in at es; values = values_in at es; all = λ ns. arguments_as s [] es ns })
      (record {
        goals = λ i fits fine. goal-at-good known at es i there fits fine;
        values = λ i fits fine. value-at-good known at es i there fits fine;
        all = λ are fine. arguments-good known s [] es named are fine;
        long = counted s [] es;
      }) (is_find_all name k) (is_count_all name k) call fine) (stays r name k) refl is built
  value-good known s r (index e es) named is built =
      let both : (is_built_value e ≡ true) × ((are_built_values es && are_some es) ≡ true) = and_parts (is_built_value e) (are_built_values es && are_some es) built in
      good-indexed (indexes-good known (behind_exp s e) es (behind-named s.before (places e) named) is.1 (and_parts (are_built_values es) (are_some es) both.1).0) (λ ns. value_by (begins_flat es) s.filled e ns (made s e ns))
      (good-by plain (begins_flat es) s.filled e (value-good known s plain e named is.0 both.0))
  value-good known s r (range first last) named is built =
      let both : (is_built_value first ≡ true) × (is_built_value last ≡ true) = and_parts (is_built_value first) (is_built_value last) built in
      let one : GoodValue known (value_helpers s first) (λ ns. made s first ns) = value-good known s plain first named is.0 both.0 in
      let two : GoodValue known (value_helpers (behind_exp s first) last) (λ ns. made (behind_exp s first) last ns) = value-good known (behind_exp s first) plain last (behind-named s.before (places first) named) is.1 both.1 in
      range-good known (value_helpers s first ++ value_helpers (behind_exp s first) last) (is_ranged r)
      (λ ns. value_of_parts (comp (codes "..")) (two_parts (value_before s.filled first ns (made s first ns)) (λ ms. value_before s.filled last ms (made (behind_exp s first) last ms))))
      (λ ns. range_of_two (value_by (is_flat last) s.filled first ns (made s first ns)) (λ ms. last_value last ms (made (behind_exp s first) last ms)))
      (good-parts (comp (codes "..")) (λ n ts below. comp-below n (codes "..") ts below) (kept-good s.filled first last one two)) (good-table (codes "..") 2 (pair-good s.filled first last (is_flat last) one two) (λ ns. refl) ranges-there.0)
  value-good known s r (range_by first step last) named is built =
      let three : (is_built_value first ≡ true) × ((is_built_value step && is_built_value last) ≡ true) = and_parts (is_built_value first) (is_built_value step && is_built_value last) built in
      let both : (is_built_value step ≡ true) × (is_built_value last ≡ true) = and_parts (is_built_value step) (is_built_value last) three.1 in
      let t : Site = behind_exp s first in
      let u : Site = behind_site s (places first ++ places step) (helpers_in first + helpers_in step) in
      let one : GoodValue known (value_helpers s first) (λ ns. made s first ns) = value-good known s plain first named is.0 three.0 in
      let two : GoodValue known (value_helpers t step) (λ ns. made t step ns) = value-good known t plain step (behind-named s.before (places first) named) is.1 both.0 in
      let last-is : GoodValue known (value_helpers u last) (λ ns. made u last ns) = value-good known u plain last (behind-named s.before (places first ++ places step) named) is.2 both.1 in
      range-good known (value_helpers s first ++ (value_helpers t step ++ value_helpers u last)) (is_ranged r)
      (λ ns. value_of_parts (comp (codes "..")) (three_parts (value_before s.filled first ns (made s first ns)) (λ ms. value_before s.filled step ms (made t step ms)) (λ ms. value_before s.filled last ms (made u last ms))))
      (λ ns. range_of_three (value_by (is_flat step && is_flat last) s.filled first ns (made s first ns)) (λ ms. value_by (is_flat last) s.filled step ms (made t step ms)) (λ ms. last_value last ms (made u last ms)))
      (good-parts (comp (codes "..")) (λ n ts below. comp-below n (codes "..") ts below) (kept-three s.filled first step last one two last-is))
      (good-table (codes "..") 3 (three-good s.filled first step last (is_flat step && is_flat last) (is_flat last) one two last-is) (λ ns. refl) ranges-there.1)
  value-good known s r (collect is_array e es) named is built =
      let both : (are_built_units es ≡ true) × (is_built_value e ≡ true) = and_parts (are_built_units es) (is_built_value e) built in
      let t : Site = gathered_at s in
      let body : Site → SlotNames → SlotGoals = λ u ms. adding (last_value e ms (made u e ms)) in
      good-comprehension s.filled s.before
      (started-good known t (in_order is_array) (hidden ∷ []) (gathering e) es body (λ u ending. units_helpers u ending (gathering e) es body (λ v. value_helpers v e)) (hidden-named s.before named) (hidden-stands s.before)
      (hidden-shared s.before (occurring_all es) (occurring e))
      (λ u ending there. units-good known u ending (gathering e) es there is.0 both.0 (hidden-within (occurring e)) body (λ v. value_helpers v e) (λ v at. good-adding (good-last plain e (value-good known v plain e at is.1 both.1)))) (begins_with_iterator es))
  value-good known s r e named is built = absurd is

  parts-good : (known : Knows) (s : Site) (rs : List Reading) (es : ExpTrees) → AreNamed s.before → AreRead known rs es → are_built_values es ≡ true → GoodValues known (all_helpers s es) (λ ns. parts_as s rs es ns)
  parts-good known s rs no_exps named is built = good-no-values
  parts-good known s rs (exp e es) named is built =
      let both : (is_built_value e ≡ true) × (are_built_values es ≡ true) = and_parts (is_built_value e) (are_built_values es) built in
      good-front (good-before (first_reading rs) s.filled e (value-good known s (first_reading rs) e named is.0 both.0)) (parts-good known (behind_exp s e) (later_readings rs) es (behind-named s.before (places e) named) is.1 both.1)

  arguments-good : (known : Knows) (s : Site) (rs : List Reading) (es : ExpTrees) → AreNamed s.before → AreRead known rs es → are_built_values es ≡ true → GoodValues known (all_helpers s es) (λ ns. arguments_as s rs es ns)
  arguments-good known s rs no_exps named is built = good-no-values
  arguments-good known s rs (exp e es) named is built =
      let both : (is_built_value e ≡ true) × (are_built_values es ≡ true) = and_parts (is_built_value e) (are_built_values es) built in
      good-front (good-by (first_reading rs) (are_flat_as (later_readings rs) es) s.filled e (value-good known s (first_reading rs) e named is.0 both.0))
      (arguments-good known (behind_exp s e) (later_readings rs) es (behind-named s.before (places e) named) is.1 both.1)

  indexes-good : (known : Knows) (s : Site) (es : ExpTrees) → AreNamed s.before → AreRead known [] es → are_built_values es ≡ true → GoodIndexes known (all_helpers s es) (values_in (following_sites s es) es)
  indexes-good known s no_exps named is built = no_indexes
  indexes-good known s (exp e es) named is built =
      let both : (is_built_value e ≡ true) × (are_built_values es ≡ true) = and_parts (is_built_value e) (are_built_values es) built in
      one_index (value_helpers s e) (all_helpers (behind_exp s e) es) (λ ns. last_value e ns (made s e ns)) (values_in (following_sites (behind_exp s e) es) es) (good-last plain e (value-good known s plain e named is.0 both.0))
      (indexes-good known (behind_exp s e) es (behind-named s.before (places e) named) is.1 both.1)

  value-at-good : (known : Knows) (sites : ℕ → Site) (es : ExpTrees) (i : ℕ) → ((j : ℕ) → AreNamed (sites j).before) → IsExpressionAt known es i → is_built_value_at es i ≡ true →
      GoodValue known (helpers_at (values_helpers sites es) i) (slots.value_at (values_in sites es) i)
  value-at-good known sites no_exps i named is built = absurd is
  value-at-good known sites (exp e es) zero named is built = good-last plain e (value-good known (sites 0) plain e (named 0) is built)
  value-at-good known sites (exp e es) (suc i) named is built = value-at-good known (λ j. sites (suc j)) es i (λ j. named (suc j)) is built

  goal-at-good : (known : Knows) (sites : ℕ → Site) (es : ExpTrees) (i : ℕ) → ((j : ℕ) → AreNamed (sites j).before) → IsGoalAt known es i → is_built_goal_at es i ≡ true → GoodGoals known (helpers_at (goals_helpers sites es) i) (slots.goals_at (goals_in sites es) i)
  goal-at-good known sites no_exps i named is built = absurd is
  goal-at-good known sites (exp e es) zero named is built = goal-good known (sites 0) e (named 0) is built
  goal-at-good known sites (exp e es) (suc i) named is built = goal-at-good known (λ j. sites (suc j)) es i (λ j. named (suc j)) is built

  pub goal-good : (known : Knows) (s : Site) (e : ExpTree) → AreNamed s.before → IsGoal known e → is_built_goal e ≡ true → GoodGoals known (goal_helpers s e) (λ ns. goal_of s e ns)
  goal-good known s (atom name) named is built = good-atom known name (bytes_eq name (codes "true")) (bytes_eq name (codes "fail")) is built
  goal-good known s (call name es) named is built =
      let at : ℕ → Site = goal_sites (form_of name (exp_count es)) s es in
      let there : (i : ℕ) → AreNamed (at i).before = goal-sites-named (form_of name (exp_count es)) s es named in
      good-goal-call known name (exp_count es) (AreRead known (readings name (exp_count es)) es) (are_built_values es) (IsExpressionAt known es) (IsGoalAt known es) (is_built_value_at es) (is_built_goal_at es)
      (record { goals = goals_helpers at es; values = values_helpers at es; all = all_helpers s es })
      (record { variable = variable_first es; goals = goals_in at es; values = values_in at es; all = λ ns. arguments_as s (readings name (exp_count es)) es ns })
      (record {
        goals = λ i fits fine. goal-at-good known at es i there fits fine;
        values = λ i fits fine. value-at-good known at es i there fits fine;
        all = λ are fine. arguments-good known s (readings name (exp_count es)) es named are fine;
        long = counted s (readings name (exp_count es)) es;
      }) (form_of name (exp_count es)) (a-term name (exp_count es)) is.0
      (and_parts (is_built_form (form_of name (exp_count es)) name (exp_count es) (are_built_values es) (is_built_value_at es) (is_built_goal_at es)) (is_assigned (form_of name (exp_count es)) es) built).0
  goal-good known s (and es) named is built = all-good known s es named is built
  goal-good known s (or es) named is built = good-as-goals (any-good known s es named is built)
  goal-good known s (if_then bs) named is built =
      good-same (append-nil (branch_helpers s bs)) (branches-good known s bs named is built [] (λ ms. just core.truth ms) (good-just core.truth (λ n may allows. fine-truth n may)))
  goal-good known s (if_else bs e) named is built =
      let both : (have_built_goals bs ≡ true) × (is_built_goal e ≡ true) = and_parts (have_built_goals bs) (is_built_goal e) built in
      let t : Site = behind_site s (places_of_branches bs) (helpers_in_branches bs) in
      branches-good known s bs named is.0 both.0 (goal_helpers t e) (λ ms. goal_of t e ms) (goal-good known t e (behind-named s.before (places_of_branches bs) named) is.1 both.1)
  goal-good known s (foreach es e) named is built =
      let both : (are_built_units es ≡ true) × (is_built_goal e ≡ true) = and_parts (are_built_units es) (is_built_goal e) built in
      let body : Site → SlotNames → SlotGoals = λ u ms. goal_of u e ms in
      let within : Within (assigned e) (occurring_all es ++ occurring e) = within-behind (assigned e) (occurring_all es) (occurring e) (assigned-occurs e) in
      started-good known s as_it_is (kept_names s.before es (assigned e)) (inner_of e) es body (λ u ending. units_helpers u ending (inner_of e) es body (λ v. goal_helpers v e)) named (kept-before s.before es (assigned e))
      (kept-among s.before es (assigned e) (occurring_all es ++ occurring e) within)
      (λ u ending there. units-good known u ending (inner_of e) es there is.0 both.0 (assigned-occurs e) body (λ v. goal_helpers v e) (λ v at. goal-good known v e at is.1 both.1)) (begins_with_iterator es)
  goal-good known s (while_do c e) named is built =
      let both : (is_built_goal c ≡ true) × (is_built_goal e ≡ true) = and_parts (is_built_goal c) (is_built_goal e) built in
      let loop : Loop = while_loop s c e in
      let turns : Site = turns_of s loop in
      let t : Site = behind_exp turns c in
      let there : AreNamed turns.before = λ name at. named name (shared-before s.before (occurring c ++ occurring e) name at) in
      let among : AreAmong loop.shared loop.kept = kept-among s.before no_exps (assigned e) (occurring c ++ occurring e) (assigned-occurs (while_do c e)) in
      good-loop s.filled s.before loop (shared-among s.before (occurring c ++ occurring e) named) (kept-before s.before no_exps (assigned e))
      (good-while known loop among (goal_helpers turns c) (goal_helpers t e) (λ ns. goal_of turns c ns) (λ ns. goal_of t e ns) (goal-good known turns c there is.0 both.0) (goal-good known t e (behind-named turns.before (places c) there) is.1 both.1))
      (λ may has. enters-again may loop
      (has-last may (goal_helpers t e) (while_helper loop (λ ns. goal_of turns c ns) (λ ns. goal_of t e ns) ∷ []) (has-last may (goal_helpers turns c) (goal_helpers t e ++ while_helper loop (λ ns. goal_of turns c ns) (λ ns. goal_of t e ns) ∷ []) has)).0)
  goal-good known s (do_while e c) named is built =
      let both : (is_built_goal e ≡ true) × (is_built_goal c ≡ true) = and_parts (is_built_goal e) (is_built_goal c) built in
      let loop : Loop = do_loop s e c in
      let turns : Site = turns_of s loop in
      let t : Site = behind_exp turns e in
      let there : AreNamed turns.before = λ name at. named name (shared-before s.before (occurring e ++ occurring c) name at) in
      let among : AreAmong loop.shared loop.kept = kept-among s.before no_exps (assigned e) (occurring e ++ occurring c) (assigned-occurs (do_while e c)) in
      good-loop s.filled s.before loop (shared-among s.before (occurring e ++ occurring c) named) (kept-before s.before no_exps (assigned e))
      (good-do known loop among (goal_helpers turns e) (goal_helpers t c) (λ ns. goal_of turns e ns) (λ ns. goal_of t c ns) (goal-good known turns e there is.0 both.0) (goal-good known t c (behind-named turns.before (places e) there) is.1 both.1))
      (λ may has. enters-again may loop
      (has-last may (goal_helpers t c) (do_helper loop (λ ns. goal_of turns e ns) (λ ns. goal_of t c ns) ∷ []) (has-last may (goal_helpers turns e) (goal_helpers t c ++ do_helper loop (λ ns. goal_of turns e ns) (λ ns. goal_of t c ns) ∷ []) has)).0)
  goal-good known s e named is built = absurd is

  all-good : (known : Knows) (s : Site) (es : ExpTrees) → AreNamed s.before → AreGoals known es → are_built_goals es ≡ true → GoodGoals known (conjunct_helpers s es) (λ ns. all_of s es ns)
  all-good known s no_exps named is built = good-nothing
  all-good known s (exp e es) named is built =
      let both : (is_built_goal e ≡ true) × (are_built_goals es ≡ true) = and_parts (is_built_goal e) (are_built_goals es) built in
      good-joined (goal-good known s e named is.0 both.0) (all-good known (behind_exp s e) es (behind-named s.before (places e) named) is.1 both.1)

  any-good : (known : Knows) (s : Site) (es : ExpTrees) → AreNamed s.before → AreBranches known es → are_built_branches es ≡ true → GoodBranches known (conjunct_helpers s es) (λ ns. any_of s es ns)
  any-good known s no_exps named is built = good-no-branches
  any-good known s (exp e es) named is built =
      let both : (is_built_branch e ≡ true) × (are_built_branches es ≡ true) = and_parts (is_built_branch e) (are_built_branches es) built in
      good-branch (arrow-good known s e named is.0 both.0) (λ none. goal-good known s e named (branch-goal known s e is.0 none) (branch-built s e both.0 none)) (any-good known (behind_exp s e) es (behind-named s.before (places e) named) is.1 both.1)

  arrow-good : (known : Knows) (s : Site) (e : ExpTree) → AreNamed s.before → IsBranch known e → is_built_branch e ≡ true → GoodArrow known (goal_helpers s e) (arrow_in s e)
  arrow-good known s (arrow c e) named is built =
      let both : (is_built_goal c ≡ true) × (is_built_goal e ≡ true) = and_parts (is_built_goal c) (is_built_goal e) built in
      a_good_arrow (goal_helpers s c) (goal_helpers (behind_exp s c) e) _ (goal-good known s c named is.0 both.0) (goal-good known (behind_exp s c) e (behind-named s.before (places c) named) is.1 both.1)
  arrow-good known s (atom name) named is built = no_good_arrow (goal_helpers s (atom name))
  arrow-good known s (call name es) named is built = no_good_arrow (goal_helpers s (call name es))
  arrow-good known s (and es) named is built = no_good_arrow (goal_helpers s (and es))
  arrow-good known s (or es) named is built = no_good_arrow (goal_helpers s (or es))
  arrow-good known s (if_then bs) named is built = no_good_arrow (goal_helpers s (if_then bs))
  arrow-good known s (if_else bs e) named is built = no_good_arrow (goal_helpers s (if_else bs e))
  arrow-good known s (foreach es e) named is built = no_good_arrow (goal_helpers s (foreach es e))
  arrow-good known s (while_do c e) named is built = no_good_arrow (goal_helpers s (while_do c e))
  arrow-good known s (do_while e c) named is built = no_good_arrow (goal_helpers s (do_while e c))
  arrow-good known s e named is built = absurd is

  branches-good : (known : Knows) (s : Site) (bs : ExpBranches) → AreNamed s.before → HaveGoals known bs → have_built_goals bs ≡ true → (qs : List PredTree) (other : SlotNames → SlotGoals) → GoodGoals known qs other →
      GoodGoals known (branch_helpers s bs ++ qs) (λ ns. branches_of s bs other ns)
  branches-good known s no_branches named is built qs other good = good
  branches-good known s (branch c e bs) named is built qs other good =
      let first : (is_built_goal c ≡ true) × ((is_built_goal e && have_built_goals bs) ≡ true) = and_parts (is_built_goal c) (is_built_goal e && have_built_goals bs) built in
      let rest : (is_built_goal e ≡ true) × (have_built_goals bs ≡ true) = and_parts (is_built_goal e) (have_built_goals bs) first.1 in
      let u : Site = behind_exp s c in
      let v : Site = behind_site s (places c ++ places e) (helpers_in c + helpers_in e) in
      good-same (sym (append_assoc (goal_helpers s c) (goal_helpers u e ++ branch_helpers v bs) qs
      ∙ ap (λ (xs : List PredTree). goal_helpers s c ++ xs) (append_assoc (goal_helpers u e) (branch_helpers v bs) qs)))
      (good-choosing (goal-good known s c named is.0 first.0) (goal-good known u e (behind-named s.before (places c) named) is.1 rest.0) (branches-good known v bs (behind-named s.before (places c ++ places e) named) is.2 rest.1 qs other good))

  -- iterators and tests, and what stands in the loop
  units-good : (known : Knows) (s : Site) (ending : Ending) (i : Inner) (us : ExpTrees) → AreNamed s.before → AreUnits known us → are_built_units us ≡ true → Within i.assigned i.used → (body : Site → SlotNames → SlotGoals) (inner : Site → List PredTree) →
      ((t : Site) → AreNamed t.before → GoodGoals known (inner t) (λ ns. body t ns)) → GoodGoals known (units_helpers s ending i us body inner) (λ ns. units s ending i us body ns)
  units-good known s ending i no_exps named is built within body inner good = good s named
  units-good known s ending i (exp u us) named is built within body inner good =
      let both : (is_built_unit (iterated u) (is_built_collection u) (is_built_goal u) ≡ true) × (are_built_units us ≡ true) = and_parts (is_built_unit (iterated u) (is_built_collection u) (is_built_goal u)) (are_built_units us) built in
      unit-good known s ending i u us (IsCollection known u) (IsGoal known u) (is_built_collection u) (is_built_goal u) named within body (λ t o. units_helpers t o i us body inner) (collection_helpers s u) (goal_helpers s u)
      (λ fits fine. collection-good known s u named fits fine) (λ fits fine. goal-good known s u named fits fine) (λ t o there. units-good known t o i us there is.1 both.1 within body inner good) (iterated u) refl is.0 both.0

  collection-good : (known : Knows) (s : Site) (u : ExpTree) → AreNamed s.before → IsCollection known u → is_built_collection u ≡ true → GoodCollection known (collection_helpers s u) s u (is_range u)
  collection-good known s (call name no_exps) named is built = absurd is
  collection-good known s (call name (exp x no_exps)) named is built = absurd is
  collection-good known s (call name (exp x (exp (range first last) es))) named is built =
      let both : (is_built_value first ≡ true) × (is_built_value last ≡ true) = and_parts (is_built_value first) (is_built_value last) built in by_range (pair-good s.filled first last (is_flat last) (value-good known s plain first named is.0 both.0) (value-good known (behind_exp s first) plain last (behind-named s.before (places first) named) is.1 both.1))
  collection-good known s (call name (exp x (exp (range_by first step last) es))) named is built =
      let three : (is_built_value first ≡ true) × ((is_built_value step && is_built_value last) ≡ true) = and_parts (is_built_value first) (is_built_value step && is_built_value last) built in
      let both : (is_built_value step ≡ true) × (is_built_value last ≡ true) = and_parts (is_built_value step) (is_built_value last) three.1 in
      by_range (three-good s.filled first step last (is_flat step && is_flat last) (is_flat last) (value-good known s plain first named is.0 three.0) (value-good known (behind_exp s first) plain step (behind-named s.before (places first) named) is.1 both.0)
      (value-good known (behind_site s (places first ++ places step) (helpers_in first + helpers_in step)) plain last (behind-named s.before (places first ++ places step) named) is.2 both.1))
  collection-good known s (call name (exp x (exp (var y) es))) named is built = by_value (good-last plain (var y) (value-good known s plain (var y) named is built))
  collection-good known s (call name (exp x (exp (int n) es))) named is built = by_value (good-last plain (int n) (value-good known s plain (int n) named is built))
  collection-good known s (call name (exp x (exp (atom y) es))) named is built = by_value (good-last plain (atom y) (value-good known s plain (atom y) named is built))
  collection-good known s (call name (exp x (exp (str y) es))) named is built = by_value (good-last plain (str y) (value-good known s plain (str y) named is built))
  collection-good known s (call name (exp x (exp (list ys) es))) named is built = by_value (good-last plain (list ys) (value-good known s plain (list ys) named is built))
  collection-good known s (call name (exp x (exp (list_onto ys y) es))) named is built = by_value (good-last plain (list_onto ys y) (value-good known s plain (list_onto ys y) named is built))
  collection-good known s (call name (exp x (exp (array ys) es))) named is built = by_value (good-last plain (array ys) (value-good known s plain (array ys) named is built))
  collection-good known s (call name (exp x (exp (call f ys) es))) named is built = by_value (good-last plain (call f ys) (value-good known s plain (call f ys) named is built))
  collection-good known s (call name (exp x (exp (quote y) es))) named is built = by_value (good-last plain (quote y) (value-good known s plain (quote y) named is built))
  collection-good known s (call name (exp x (exp (index y ys) es))) named is built = by_value (good-last plain (index y ys) (value-good known s plain (index y ys) named is built))
  collection-good known s (call name (exp x (exp (collect is_array y ys) es))) named is built = by_value (good-last plain (collect is_array y ys) (value-good known s plain (collect is_array y ys) named is built))
  collection-good known s (call name (exp x (exp d es))) named is built = absurd is
  collection-good known s u named is built = absurd is
