-- The helpers of the loops of a text, in the order of their numbers. (Own.)
use Rattle.std.specs.Prelude.{ℕ, zero, suc, ◌+◌, Bool, true, false, cond, List, [], ◌∷◌, ◌++◌, Option, Some, None}
use Rattle.pi_syntax.specs.ExpTree.{ExpTree, list, list_onto, array, call, index, range, range_by, collect, and, or, arrow, if_then, if_else, foreach, while_do, do_while, ExpTrees, no_exps, exp, ExpBranches, no_branches, branch}
use Rattle.pi_syntax.specs.Signature.{exp_count}
use Rattle.pi_core.specs.CoreTree.{PredTree}
use Rattle.pi_meaning.specs.OverNames.Forms.{Form, negation, once, assignment, catch, by_term, membership, form_of, is_find_all, is_count_all}
use Rattle.pi_meaning.specs.OverNames.Texts.{places, places_all, places_of_branches, iterated, begins_with_iterator, assigned, kept_names}
use Rattle.pi_meaning.specs.OverNames.Loops.{hidden}
use Rattle.pi_rewrite_spec.specs.Sites.{Site, helpers_in, helpers_in_all, helpers_in_branches, behind_site, behind_exp, goal_sites, value_sites}
use Rattle.pi_rewrite_spec.specs.Slots.{SlotNames}
use Rattle.pi_rewrite_spec.specs.Values.{last_value}
use Rattle.pi_rewrite_spec.specs.Goals.{SlotGoals}
use Rattle.pi_rewrite_spec.specs.Loops.{Ending, as_it_is, in_order, Loop, while_helper, do_helper, only_turn_helper}
use Rattle.pi_rewrite_spec.specs.Iterators.{turn_helper, element_helper}
use Rattle.pi_rewrite_spec.specs.Ranges.{range_helper, step_helper}
use Rattle.pi_rewrite_spec.specs.Comprehensions.{adding}
use Rattle.pi_rewrite_spec.specs.Written.{while_loop, do_loop, turns_of, Inner, inner_of, gathering, gathered_at, start_loop, iterator_loop, turn_name, is_range, elements_of, made, goal_of, units}

-- ---- calls

-- those of a call's arguments: of each as a goal and as an expression, and of all as arguments
pub record HelperParts : Type 0 where
  pub goals : List (List PredTree)
  pub values : List (List PredTree)
  pub all : List PredTree

unfoldable pub helpers_at : List (List PredTree) → ℕ → List PredTree
helpers_at [] i = []
helpers_at (ps ∷ all) zero = ps
helpers_at (ps ∷ all) (suc i) = helpers_at all i

-- What a `catch` is to catch is lowered before its goal, and the expression of a `find_all` behind its goal.
abbrev pub goal_call_helpers : Option Form → HelperParts → List PredTree
goal_call_helpers None parts = parts.all
goal_call_helpers (Some negation) parts = helpers_at parts.goals 0
goal_call_helpers (Some once) parts = helpers_at parts.goals 0
goal_call_helpers (Some assignment) parts = helpers_at parts.values 1
goal_call_helpers (Some catch) parts = helpers_at parts.values 1 ++ (helpers_at parts.goals 0 ++ helpers_at parts.goals 2)
goal_call_helpers (Some by_term) parts = parts.all
goal_call_helpers (Some membership) parts = []

abbrev pub value_call_helpers : List ℕ → ℕ → HelperParts → List PredTree
value_call_helpers name k parts =
    cond (is_find_all name k) (helpers_at parts.goals 1 ++ helpers_at parts.values 0) (cond (is_count_all name k) (helpers_at parts.goals 0) parts.all)

-- ---- loops

-- an iterator's own
abbrev pub own_helpers : Bool → List ℕ → Loop → ExpTree → (SlotNames → SlotGoals) → List PredTree
own_helpers true name l e turn = range_helper name l ∷ step_helper name l e turn ∷ []
own_helpers false name l e turn = element_helper name l ∷ turn_helper name l e turn ∷ []

-- an iterator of a text: where it stands, the ending of its loop, what stands in that, the iterator itself, the units after it, and its pattern
pub record IteratorText : Type 0 where
  pub site : Site
  pub ending : Ending
  pub inner : Inner
  pub unit : ExpTree
  pub others : ExpTrees
  pub pattern : ExpTree

abbrev pub iterator_text : Site → Ending → Inner → ExpTree → ExpTrees → ExpTree → IteratorText
iterator_text s ending i u us e = record { site = s; ending = ending; inner = i; unit = u; others = us; pattern = e }

-- Those of what an iterator goes over stand before those of its turns, and these before its own two.
abbrev pub iterated_helpers : IteratorText → List PredTree → List PredTree → (SlotNames → SlotGoals) → List PredTree
iterated_helpers t over inside turn =
    let loop : Loop = iterator_loop t.site t.ending t.inner t.unit t.others t.pattern in
    over ++ (inside ++ own_helpers (is_range t.unit) (turn_name t.site t.inner t.unit t.others) loop t.pattern turn)

abbrev pub unit_helpers : Option ExpTree → (ExpTree → List PredTree) → List PredTree → List PredTree
unit_helpers None iterator test = test
unit_helpers (Some e) iterator test = iterator e

-- a loop that begins with no iterator has one turn
abbrev pub started_helpers : Bool → (Site → Ending → List PredTree) → (Site → SlotNames → SlotGoals) → Site → Loop → List PredTree
started_helpers true inside turn s l = inside s l.ending
started_helpers false inside turn s l = inside (turns_of s l) as_it_is ++ only_turn_helper l (turn (turns_of s l)) ∷ []

-- ---- expressions and goals

unfoldable mutual
  pub value_helpers : Site → ExpTree → List PredTree
  value_helpers s (list es) = all_helpers s es
  value_helpers s (list_onto es e) = all_helpers s es ++ value_helpers (behind_site s (places_all es) (helpers_in_all es)) e
  value_helpers s (array es) = all_helpers s es
  value_helpers s (call name es) =
      value_call_helpers name (exp_count es) (record {
        goals = goals_helpers (value_sites (is_find_all name (exp_count es)) s es) es;
        values = values_helpers (value_sites (is_find_all name (exp_count es)) s es) es;
        all = all_helpers s es;
      })
  value_helpers s (index e es) = value_helpers s e ++ all_helpers (behind_exp s e) es
  value_helpers s (range first last) = value_helpers s first ++ value_helpers (behind_exp s first) last
  value_helpers s (range_by first step last) =
      value_helpers s first ++ (value_helpers (behind_exp s first) step ++ value_helpers (behind_site s (places first ++ places step) (helpers_in first + helpers_in step)) last)
  value_helpers s (collect is_array e es) =
      let t : Site = gathered_at s in
      let loop : Loop = start_loop t (in_order is_array) (hidden ∷ []) (gathering e) es in
      started_helpers (begins_with_iterator es) (λ u ending. units_helpers u ending (gathering e) es (λ v ms. adding (last_value e ms (made v e ms))) (λ v. value_helpers v e))
      (λ u. units u as_it_is (gathering e) es (λ v ms. adding (last_value e ms (made v e ms)))) t loop
  value_helpers s e = []

  pub all_helpers : Site → ExpTrees → List PredTree
  all_helpers s no_exps = []
  all_helpers s (exp e es) = value_helpers s e ++ all_helpers (behind_exp s e) es

  -- of each by itself, where it stands
  pub values_helpers : (ℕ → Site) → ExpTrees → List (List PredTree)
  values_helpers sites no_exps = []
  values_helpers sites (exp e es) = value_helpers (sites 0) e ∷ values_helpers (λ i. sites (suc i)) es

  pub goals_helpers : (ℕ → Site) → ExpTrees → List (List PredTree)
  goals_helpers sites no_exps = []
  goals_helpers sites (exp e es) = goal_helpers (sites 0) e ∷ goals_helpers (λ i. sites (suc i)) es

  pub goal_helpers : Site → ExpTree → List PredTree
  goal_helpers s (call name es) =
      goal_call_helpers (form_of name (exp_count es)) (record {
        goals = goals_helpers (goal_sites (form_of name (exp_count es)) s es) es;
        values = values_helpers (goal_sites (form_of name (exp_count es)) s es) es;
        all = all_helpers s es;
      })
  goal_helpers s (and es) = conjunct_helpers s es
  goal_helpers s (or es) = conjunct_helpers s es
  goal_helpers s (arrow c e) = goal_helpers s c ++ goal_helpers (behind_exp s c) e
  goal_helpers s (if_then bs) = branch_helpers s bs
  goal_helpers s (if_else bs e) = branch_helpers s bs ++ goal_helpers (behind_site s (places_of_branches bs) (helpers_in_branches bs)) e
  goal_helpers s (foreach es e) =
      let loop : Loop = start_loop s as_it_is (kept_names s.before es (assigned e)) (inner_of e) es in
      started_helpers (begins_with_iterator es) (λ u ending. units_helpers u ending (inner_of e) es (λ v. goal_of v e) (λ v. goal_helpers v e)) (λ u. units u as_it_is (inner_of e) es (λ v. goal_of v e)) s loop
  goal_helpers s (while_do c e) =
      let turns : Site = turns_of s (while_loop s c e) in
      goal_helpers turns c ++ (goal_helpers (behind_exp turns c) e ++ while_helper (while_loop s c e) (goal_of turns c) (goal_of (behind_exp turns c) e) ∷ [])
  goal_helpers s (do_while e c) =
      let turns : Site = turns_of s (do_loop s e c) in
      goal_helpers turns e ++ (goal_helpers (behind_exp turns e) c ++ do_helper (do_loop s e c) (goal_of turns e) (goal_of (behind_exp turns e) c) ∷ [])
  goal_helpers s e = []

  -- of goals one after the other, or of alternatives
  pub conjunct_helpers : Site → ExpTrees → List PredTree
  conjunct_helpers s no_exps = []
  conjunct_helpers s (exp e es) = goal_helpers s e ++ conjunct_helpers (behind_exp s e) es

  pub branch_helpers : Site → ExpBranches → List PredTree
  branch_helpers s no_branches = []
  branch_helpers s (branch c e bs) =
      goal_helpers s c ++ (goal_helpers (behind_exp s c) e ++ branch_helpers (behind_site s (places c ++ places e) (helpers_in c + helpers_in e)) bs)

  -- of iterators and tests, and of what stands in the loop
  pub units_helpers : Site → Ending → Inner → ExpTrees → (Site → SlotNames → SlotGoals) → (Site → List PredTree) → List PredTree
  units_helpers s ending i no_exps body inner = inner s
  units_helpers s ending i (exp u us) body inner =
      unit_helpers (iterated u) (λ e. iterated_helpers (iterator_text s ending i u us e) (collection_helpers s u) (units_helpers (elements_of s (iterator_loop s ending i u us e) u e) as_it_is i us body inner)
      (units (elements_of s (iterator_loop s ending i u us e) u e) as_it_is i us body)) (goal_helpers s u ++ units_helpers (behind_exp s u) as_it_is i us body inner)

  pub collection_helpers : Site → ExpTree → List PredTree
  collection_helpers s (call name es) = helpers_at (values_helpers (λ i. s) es) 1
  collection_helpers s e = []
