-- Each goal and each expression of a text, loops among them, does over slots what it does over names, at each depth, where the core program has the helpers of its loops.
use Rattle.std.proofs.Common.{◌≡◌, ℕ, zero, suc, ◌+◌, false, [], ◌∷◌, ◌++◌, List, refl, arith}
use Rattle.std.specs.Prelude.{codes, ◌&&◌}
use Rattle.std.specs.Str.{bytes_eq}
use Rattle.std.proofs.lemmas.Bool.{true≢false}
use Rattle.pi_terms.specs.Tree.{Tree, comp, tree_count}
use Rattle.pi_terms.specs.ListNames.{nil}
use Rattle.pi_syntax.specs.PrintTerm.{array_name}
use Rattle.pi_effects.specs.Indexing.{index_name}
use Rattle.pi_syntax.specs.ExpTree.{ExpTree, var, int, atom, str, list, list_onto, array, call, quote, index, range, range_by, and, or, arrow, collect, if_then, if_else, foreach, while_do, do_while, ExpTrees, no_exps, exp, ExpBranches, no_branches, branch}
use Rattle.pi_syntax.specs.Signature.{exp_count}
use Rattle.pi_core.specs.CoreTree.{PredTree}
use Rattle.pi_core.specs.GoalTree.{GoalTree}
use Rattle.pi_traces.specs.Trace.{one}
use Rattle.pi_meaning.specs.Shared.Level.{Level}
use Rattle.pi_meaning.specs.CoreMeaning.Builtins.{Builtins}
use Rattle.pi_meaning.specs.OverNames.Texts.{Names, iterated, begins_with_iterator, occurring_all, places, places_all, places_behind, places_caught, places_of_branches, behind, variable_first, occurring, kept_names, assigned}
use Rattle.pi_meaning.specs.OverNames.Terms.{items_onto}
use Rattle.pi_meaning.specs.OverNames.Control.{Goal, Value, nothing, in_front, applied_to, goal_at, value_at}
use Rattle.pi_meaning.specs.OverNames.Loops as over_names
use Rattle.pi_meaning.specs.OverNames.Loops.{hidden}
use Rattle.pi_meaning.specs.OverNames.Forms.{form_of, Reading, plain, readings, first_reading, later_readings, call_value, operand_readings, range_value, indexed_by, atom_goal}
use Rattle.pi_meaning.specs.OverNames.Goals.{value_of, values_of, values_in, values_apart, goals_in, goal_of, all_of, any_of, arrow_in, branches_of, units_of}
use Rattle.pi_meaning.proofs.OverNames.LoopNames.{Within, AreNamed, behind-named, shared-before, assigned-occurs}
use Rattle.pi_rewrite_spec.specs.Slots.{SlotNames}
use Rattle.pi_rewrite_spec.specs.Values.{stays, is_flat_as, is_flat, SlotValue, last_value, value_before_as, value_before, value_by, value_of_parts, no_values, before_values}
use Rattle.pi_rewrite_spec.specs.Goals as slots
use Rattle.pi_rewrite_spec.specs.Goals.{SlotGoals}
use Rattle.pi_rewrite_spec.specs.Sites.{Site, helpers_in, helpers_in_all, helpers_in_branches, helpers_in_units, behind_site, behind_exp, following_sites, goal_sites}
use Rattle.pi_rewrite_spec.specs.Loops.{Ending, as_it_is, in_order, Loop, loop_slots, while_helper, do_helper}
use Rattle.pi_rewrite_spec.specs.Comprehensions.{adding}
use Rattle.pi_rewrite_spec.specs.Written as written
use Rattle.pi_rewrite_spec.specs.Written.{made_as, parts_as, arguments_as, while_loop, do_loop, turns_of, pair_values, three_values, is_range, Inner, inner_of, gathering, gathered_at, start_loop, started_goals, made, parts, arguments, ahead}
use Rattle.pi_rewrite_spec.specs.Helpers.{helpers_at, value_helpers, all_helpers, goal_helpers, conjunct_helpers, branch_helpers, units_helpers, collection_helpers}
use Rattle.pi_rewrite_spec.specs.Forms.{IsRead, AreExpressions, IsGoal, AreGoals, AreBranches, IsBranch, HaveGoals, AreUnits, IsCollection}
use Rattle.pi_rewrite_spec.proofs.AgreeLemmas.{grows-then}
use Rattle.pi_rewrite_spec.proofs.FilledLemmas.{is_comp, is_atom, items-filled}
use Rattle.pi_rewrite_spec.proofs.RunLemmas.{SameGoals, SameLast, SameFilled, SameArguments, SameParts, goals-drained}
use Rattle.pi_rewrite_spec.proofs.ControlLemmas.{none-goals, joined-goals, true-goals, chosen-goals, SameBranches, none-branches, branches-goals, SameArrow, no_arrow, an_arrow, branch-first}
use Rattle.pi_rewrite_spec.proofs.BuiltInLemmas.{item-given, range-given}
use Rattle.pi_rewrite_laws.proofs.ValueLemmas.{no-arguments, no-parts, front-parts, parts-value, onto-value}
use Rattle.pi_rewrite_laws.proofs.FormLemmas.{before-value, last-value, first-arguments, other-arguments, call-goals, atom-goals, AllLast, none_last, one_last, indexed-more}
use Rattle.pi_rewrite_spec.proofs.EndLemmas.{finish_of}
use Rattle.pi_rewrite_laws.proofs.GatherLemmas.{adding-goals}
use Rattle.pi_rewrite_laws.proofs.ComprehensionLemmas.{comprehension-same}
use Rattle.pi_rewrite_laws.proofs.CollectLemmas.{hidden-named, hidden-within, hidden-stands, hidden-shared, started-leaves}
use Rattle.pi_rewrite_laws.proofs.RangeStarts.{two_bounds, with_step}
use Rattle.pi_rewrite_laws.proofs.UnitLemmas.{within-behind, Collected, by_value, by_range, unit-same, started-same}
use Rattle.pi_rewrite_laws.proofs.WhileLemmas.{PartsSame}
use Rattle.pi_rewrite_laws.proofs.WholeLoops.{while-same, do-same}
use Rattle.pi_rewrite_laws.proofs.LoopTexts.{shared-among, kept-before, kept-among}
use Rattle.pi_rewrite_laws.proofs.TurnLevels.{EachLevel, turns-at}
use Rattle.pi_rewrite_laws.proofs.StandsLemmas.{Fixture, Here, slots_level, names_level, AlikeUpTo, alike-here, have-first, have-last, Stands, stands-first, stands-last, stands-third}
use Rattle.pi_rewrite_laws.proofs.TextCalls.{branch-goal, flat-term, flat-terms, pair-arguments, three-arguments, flat-arguments, arguments-count, exp_at, GoalAt, LastAt, ArgumentsAt, PartsAt, node-same, range-by, call-parts}

-- ---- parts of a range that stays

two-parts : (b : Builtins) (l m : Level) (h : ℕ) (v v' : Value) (lv lv' : SlotNames → SlotValue) → SameFilled b l m h v lv → SameFilled b l m h v' lv' → SameParts b l m h (in_front v (in_front v' nothing)) (λ ns. slots.two_parts (lv ns) lv')
two-parts b l m h v v' lv lv' one two =
    front-parts b l m h v (in_front v' nothing) lv (λ ns. before_values (lv' ns) (no_values (lv' ns).names)) one (front-parts b l m h v' nothing lv' no_values two (no-parts b l m h))

-- ---- goals and expressions

mutual
  unfolding value_of made_as is_flat_as IsRead IsGoal call_value operand_readings range_value indexed_by slots.indexed_by atom_goal goal_at value_at slots.goals_at slots.value_at tree_count helpers_in value_helpers goal_helpers helpers_at following_sites places_caught behind exp_count exp_at assigned occurring units_of

  pub made-same : (c : Fixture) (each : AlikeUpTo c) (w : Here c) (s : Site) (r : Reading) (e : ExpTree) → IsRead c.known r e → Stands c w s (helpers_in e) (value_helpers s e) → is_flat_as r e ≡ false → SameFilled c.builtins (slots_level c w) (names_level c w) s.filled (value_of c.set.calls r s.before e) (made_as s r e)
  made-same c each w s r (list es) is st flat =
      parts-value c.builtins (slots_level c w) (names_level c w) s.filled (λ ts. items_onto ts (Tree.atom nil)) (values_of c.set.calls [] s.before es) (parts s es) (λ f ts us fs. items-filled f ts us (Tree.atom nil) (Tree.atom nil) fs (is_atom nil)) (parts-same c each w s [] es is st)
  made-same c each w s r (list_onto es e) is st flat =
      let t : Site = behind_site s (places_all es) (helpers_in_all es) in
      onto-value c.builtins (slots_level c w) (names_level c w) s.filled (values_of c.set.calls [] s.before es) (value_of c.set.calls plain t.before e) (parts s es) (λ ns. value_before s.filled e ns (made t e ns))
      (parts-same c each w s [] es is.0 (stands-first c w s (helpers_in_all es) (helpers_in e) (all_helpers s es) (value_helpers t e) st))
      (before-value c.known c.set.calls c.builtins (slots_level c w) (names_level c w) s.filled (alike-here c each w) plain t.before e (flat-term c.known plain e is.1) (made t e) (made-same c each w t plain e is.1 (stands-last c w s (places_all es) (helpers_in_all es) (helpers_in_all es) (helpers_in e) (all_helpers s es) (value_helpers t e) st)))
  made-same c each w s r (array es) is st flat =
      parts-value c.builtins (slots_level c w) (names_level c w) s.filled (comp array_name) (values_of c.set.calls [] s.before es) (parts s es) (λ f ts us fs. is_comp array_name fs) (parts-same c each w s [] es is st)
  made-same c each w s r (call name es) is st flat =
      node-same c each w s r name es (λ u i at have. goal-at c each w u es i at have) (λ u i at have. last-at c each w u es i at have) (λ are have. arguments-same c each w s [] es are have)
      (λ are have. parts-same c each w s (operand_readings r name (exp_count es)) es are have) (stays r name (exp_count es)) refl is st
  made-same c each w s r (index e (exp i is)) are st flat =
      let t : Site = behind_exp s e in
      let rest : Stands c w t (helpers_in_all (exp i is)) (all_helpers t (exp i is)) = stands-last c w s (places e) (helpers_in e) (helpers_in e) (helpers_in_all (exp i is)) (value_helpers s e) (all_helpers t (exp i is)) st in
      let one : is_flat e ≡ false → SameFilled c.builtins (slots_level c w) (names_level c w) s.filled (value_of c.set.calls plain s.before e) (made s e) =
      made-same c each w s plain e are.0 (stands-first c w s (helpers_in e) (helpers_in_all (exp i is)) (value_helpers s e) (all_helpers t (exp i is)) st) in
      let two : is_flat i ≡ false → SameFilled c.builtins (slots_level c w) (names_level c w) s.filled (value_of c.set.calls plain t.before i) (made t i) =
      made-same c each w t plain i are.1.0 (stands-first c w t (helpers_in i) (helpers_in_all is) (value_helpers t i) (all_helpers (behind_exp t i) is) rest) in
      indexed-more c.known c.set.calls c.builtins (slots_level c w) (names_level c w) s.filled (alike-here c each w) (values_in c.set.calls (behind t.before (places i)) is) (written.values_in (following_sites (behind_exp t i) is) is)
      (all-last c each w (behind_exp t i) is are.1.1 (stands-last c w t (places i) (helpers_in i) (helpers_in i) (helpers_in_all is) (value_helpers t i) (all_helpers (behind_exp t i) is) rest))
      (applied_to c.set.calls index_name (in_front (value_of c.set.calls plain s.before e) (in_front (value_of c.set.calls plain t.before i) nothing)))
      (λ ns. slots.indexed (value_by (is_flat i) s.filled e ns (made s e ns)) (λ ms. last_value i ms (made t i ms)))
      (other-arguments c.known c.set.calls c.builtins (slots_level c w) (names_level c w) s.filled index_name 2 (in_front (value_of c.set.calls plain s.before e) (in_front (value_of c.set.calls plain t.before i) nothing)) (pair_values s.filled (ahead e (made s e) (is_flat i)) i (made t i)) (alike-here c each w)
      (pair-arguments c.known c.set.calls c.builtins (slots_level c w) (names_level c w) s.filled (alike-here c each w) s.before e i (flat-term c.known plain e are.0) (flat-term c.known plain i are.1.0) (made s e) (made t i) one two) (λ ns. refl) item-given)
  made-same c each w s r (index e no_exps) are st flat = absurd (are.2 refl)
  made-same c each w s r (range first last) is st flat =
      let t : Site = behind_exp s first in
      let one : is_flat first ≡ false → SameFilled c.builtins (slots_level c w) (names_level c w) s.filled (value_of c.set.calls plain s.before first) (made s first) =
      made-same c each w s plain first is.0 (stands-first c w s (helpers_in first) (helpers_in last) (value_helpers s first) (value_helpers t last) st) in
      let two : is_flat last ≡ false → SameFilled c.builtins (slots_level c w) (names_level c w) s.filled (value_of c.set.calls plain t.before last) (made t last) =
      made-same c each w t plain last is.1 (stands-last c w s (places first) (helpers_in first) (helpers_in first) (helpers_in last) (value_helpers s first) (value_helpers t last) st) in
      range-by c.set.calls c.builtins (slots_level c w) (names_level c w) s.filled r (in_front (value_of c.set.calls plain s.before first) (in_front (value_of c.set.calls plain t.before last) nothing))
      (λ ns. value_of_parts (comp (codes "..")) (slots.two_parts (value_before s.filled first ns (made s first ns)) (λ ms. value_before s.filled last ms (made t last ms))))
      (λ ns. slots.range_of_two (value_by (is_flat last) s.filled first ns (made s first ns)) (λ ms. last_value last ms (made t last ms)))
      (parts-value c.builtins (slots_level c w) (names_level c w) s.filled (comp (codes "..")) (in_front (value_of c.set.calls plain s.before first) (in_front (value_of c.set.calls plain t.before last) nothing))
      (λ ns. slots.two_parts (value_before s.filled first ns (made s first ns)) (λ ms. value_before s.filled last ms (made t last ms))) (λ f ts us fs. is_comp (codes "..") fs)
      (two-parts c.builtins (slots_level c w) (names_level c w) s.filled (value_of c.set.calls plain s.before first) (value_of c.set.calls plain t.before last) (λ ns. value_before s.filled first ns (made s first ns)) (λ ms. value_before s.filled last ms (made t last ms))
      (before-value c.known c.set.calls c.builtins (slots_level c w) (names_level c w) s.filled (alike-here c each w) plain s.before first (flat-term c.known plain first is.0) (made s first) one)
      (before-value c.known c.set.calls c.builtins (slots_level c w) (names_level c w) s.filled (alike-here c each w) plain t.before last (flat-term c.known plain last is.1) (made t last) two)))
      (other-arguments c.known c.set.calls c.builtins (slots_level c w) (names_level c w) s.filled (codes "..") 2 (in_front (value_of c.set.calls plain s.before first) (in_front (value_of c.set.calls plain t.before last) nothing)) (pair_values s.filled (ahead first (made s first) (is_flat last)) last (made t last)) (alike-here c each w)
      (pair-arguments c.known c.set.calls c.builtins (slots_level c w) (names_level c w) s.filled (alike-here c each w) s.before first last (flat-term c.known plain first is.0) (flat-term c.known plain last is.1) (made s first) (made t last) one two) (λ ns. refl) range-given.0)
  made-same c each w s r (range_by first step last) is st flat =
      let t : Site = behind_exp s first in
      let u : Site = behind_site s (places first ++ places step) (helpers_in first + helpers_in step) in
      let rest : Stands c w t (helpers_in step + helpers_in last) (value_helpers t step ++ value_helpers u last) =
      stands-last c w s (places first) (helpers_in first) (helpers_in first) (helpers_in step + helpers_in last) (value_helpers s first) (value_helpers t step ++ value_helpers u last) st in
      let one : is_flat first ≡ false → SameFilled c.builtins (slots_level c w) (names_level c w) s.filled (value_of c.set.calls plain s.before first) (made s first) =
      made-same c each w s plain first is.0 (stands-first c w s (helpers_in first) (helpers_in step + helpers_in last) (value_helpers s first) (value_helpers t step ++ value_helpers u last) st) in
      let two : is_flat step ≡ false → SameFilled c.builtins (slots_level c w) (names_level c w) s.filled (value_of c.set.calls plain t.before step) (made t step) =
      made-same c each w t plain step is.1 (stands-first c w t (helpers_in step) (helpers_in last) (value_helpers t step) (value_helpers u last) rest) in
      let three : is_flat last ≡ false → SameFilled c.builtins (slots_level c w) (names_level c w) s.filled (value_of c.set.calls plain u.before last) (made u last) =
      made-same c each w u plain last is.2 (stands-third c w s (places first ++ places step) (helpers_in first + helpers_in step) (helpers_in first) (helpers_in step) (helpers_in last) (value_helpers s first) (value_helpers t step) (value_helpers u last) st) in
      range-by c.set.calls c.builtins (slots_level c w) (names_level c w) s.filled r (in_front (value_of c.set.calls plain s.before first) (in_front (value_of c.set.calls plain t.before step) (in_front (value_of c.set.calls plain u.before last) nothing)))
      (λ ns. value_of_parts (comp (codes "..")) (slots.three_parts (value_before s.filled first ns (made s first ns)) (λ ms. value_before s.filled step ms (made t step ms)) (λ ms. value_before s.filled last ms (made u last ms))))
      (λ ns. slots.range_of_three (value_by (is_flat step && is_flat last) s.filled first ns (made s first ns)) (λ ms. value_by (is_flat last) s.filled step ms (made t step ms)) (λ ms. last_value last ms (made u last ms)))
      (parts-value c.builtins (slots_level c w) (names_level c w) s.filled (comp (codes "..")) (in_front (value_of c.set.calls plain s.before first) (in_front (value_of c.set.calls plain t.before step) (in_front (value_of c.set.calls plain u.before last) nothing)))
      (λ ns. slots.three_parts (value_before s.filled first ns (made s first ns)) (λ ms. value_before s.filled step ms (made t step ms)) (λ ms. value_before s.filled last ms (made u last ms))) (λ f ts us fs. is_comp (codes "..") fs)
      (front-parts c.builtins (slots_level c w) (names_level c w) s.filled (value_of c.set.calls plain s.before first) (in_front (value_of c.set.calls plain t.before step) (in_front (value_of c.set.calls plain u.before last) nothing)) (λ ns. value_before s.filled first ns (made s first ns))
      (λ ns. slots.two_parts (value_before s.filled step ns (made t step ns)) (λ ms. value_before s.filled last ms (made u last ms)))
      (before-value c.known c.set.calls c.builtins (slots_level c w) (names_level c w) s.filled (alike-here c each w) plain s.before first (flat-term c.known plain first is.0) (made s first) one)
      (two-parts c.builtins (slots_level c w) (names_level c w) s.filled (value_of c.set.calls plain t.before step) (value_of c.set.calls plain u.before last) (λ ns. value_before s.filled step ns (made t step ns)) (λ ms. value_before s.filled last ms (made u last ms))
      (before-value c.known c.set.calls c.builtins (slots_level c w) (names_level c w) s.filled (alike-here c each w) plain t.before step (flat-term c.known plain step is.1) (made t step) two)
      (before-value c.known c.set.calls c.builtins (slots_level c w) (names_level c w) s.filled (alike-here c each w) plain u.before last (flat-term c.known plain last is.2) (made u last) three))))
      (other-arguments c.known c.set.calls c.builtins (slots_level c w) (names_level c w) s.filled (codes "..") 3 (in_front (value_of c.set.calls plain s.before first) (in_front (value_of c.set.calls plain t.before step) (in_front (value_of c.set.calls plain u.before last) nothing)))
      (three_values s.filled (ahead first (made s first) (is_flat step && is_flat last)) (ahead step (made t step) (is_flat last)) last (made u last)) (alike-here c each w)
      (three-arguments c.known c.set.calls c.builtins (slots_level c w) (names_level c w) s.filled (alike-here c each w) s.before first step last (flat-term c.known plain first is.0) (flat-term c.known plain step is.1) (flat-term c.known plain last is.2) (made s first) (made t step) (made u last) one two three)
      (λ ns. refl) range-given.1)
  made-same c each w s r (collect is_array e es) is st flat =
      let t : Site = gathered_at s in
      let nbody : Names → Goal = λ names. over_names.adding (value_of c.set.calls plain names e) in
      let lbody : Site → SlotNames → SlotGoals = λ u ms. adding (last_value e ms (made u e ms)) in
      comprehension-same c.known c.set.calls c.builtins (slots_level c w) (names_level c w) s.filled (alike-here c each w) s.before _ (started_goals (begins_with_iterator es) (written.units t (in_order is_array) (gathering e) es lbody) t (start_loop t (in_order is_array) (hidden ∷ []) (gathering e) es))
      (started-same c each w t (in_order is_array) (hidden ∷ []) (gathering e) es nbody lbody (λ u ending. units_helpers u ending (gathering e) es lbody (λ v. value_helpers v e)) (hidden-stands s.before) (hidden-shared s.before (occurring_all es) (occurring e))
      (λ v u ending have. units-same c each v u ending (gathering e) es is.0 (hidden-within (occurring e)) nbody lbody (λ x. value_helpers x e) have
      (λ v u have. adding-goals c.known c.set.calls c.builtins (slots_level c v) (names_level c v) u.filled (value_of c.set.calls plain u.before e) (λ ms. last_value e ms (made u e ms)) (alike-here c each v)
      (last-value c.known c.set.calls c.builtins (slots_level c v) (names_level c v) u.filled plain u.before e (flat-term c.known plain e is.1) (made u e) (made-same c each v u plain e is.1 have)))) (begins_with_iterator es)
      (record { named = hidden-named s.before st.named; few = st.few; fits = st.fits; has = st.has }))
      (started-leaves c.set.calls (over_names.in_order is_array) s.before (hidden ∷ occurring e) _ es nbody _ (begins_with_iterator es) refl is.2 (names_level c w))
  made-same c each w s r (var name) is st flat = absurd (true≢false flat)
  made-same c each w s r (int n) is st flat = absurd (true≢false flat)
  made-same c each w s r (atom name) is st flat = absurd (true≢false flat)
  made-same c each w s r (str text) is st flat = absurd (true≢false flat)
  made-same c each w s r (quote e) is st flat = absurd (true≢false flat)
  made-same c each w s r e is st flat = absurd is

  parts-same : (c : Fixture) (each : AlikeUpTo c) (w : Here c) (s : Site) (rs : List Reading) (es : ExpTrees) → PartsAt c w s rs es
  parts-same c each w s rs no_exps is st = no-parts c.builtins (slots_level c w) (names_level c w) s.filled
  parts-same c each w s rs (exp e es) is st =
      let t : Site = behind_exp s e in
      front-parts c.builtins (slots_level c w) (names_level c w) s.filled (value_of c.set.calls (first_reading rs) s.before e) (values_of c.set.calls (later_readings rs) t.before es)
      (λ ns. value_before_as (first_reading rs) s.filled e ns (made_as s (first_reading rs) e ns)) (parts_as t (later_readings rs) es)
      (before-value c.known c.set.calls c.builtins (slots_level c w) (names_level c w) s.filled (alike-here c each w) (first_reading rs) s.before e (flat-term c.known (first_reading rs) e is.0) (made_as s (first_reading rs) e)
      (made-same c each w s (first_reading rs) e is.0 (stands-first c w s (helpers_in e) (helpers_in_all es) (value_helpers s e) (all_helpers t es) st)))
      (parts-same c each w t (later_readings rs) es is.1 (stands-last c w s (places e) (helpers_in e) (helpers_in e) (helpers_in_all es) (value_helpers s e) (all_helpers t es) st))

  pub arguments-same : (c : Fixture) (each : AlikeUpTo c) (w : Here c) (s : Site) (rs : List Reading) (es : ExpTrees) → ArgumentsAt c w s rs es
  arguments-same c each w s rs no_exps is st = no-arguments c.builtins (slots_level c w) (names_level c w) s.filled
  arguments-same c each w s rs (exp e es) is st =
      let t : Site = behind_exp s e in
      first-arguments c.known c.set.calls c.builtins (slots_level c w) (names_level c w) s.filled (alike-here c each w) (first_reading rs) (later_readings rs) s.before e es (flat-term c.known (first_reading rs) e is.0)
      (flat-terms c.known (later_readings rs) es is.1) (made_as s (first_reading rs) e) (arguments_as t (later_readings rs) es) (flat-arguments t (later_readings rs) es)
      (made-same c each w s (first_reading rs) e is.0 (stands-first c w s (helpers_in e) (helpers_in_all es) (value_helpers s e) (all_helpers t es) st))
      (arguments-same c each w t (later_readings rs) es is.1 (stands-last c w s (places e) (helpers_in e) (helpers_in e) (helpers_in_all es) (value_helpers s e) (all_helpers t es) st))

  all-last : (c : Fixture) (each : AlikeUpTo c) (w : Here c) (s : Site) (es : ExpTrees) → AreExpressions c.known es → Stands c w s (helpers_in_all es) (all_helpers s es) → AllLast c.builtins (slots_level c w) (names_level c w) s.filled (values_in c.set.calls s.before es) (written.values_in (following_sites s es) es)
  all-last c each w s no_exps is st = none_last
  all-last c each w s (exp e es) is st =
      let t : Site = behind_exp s e in
      one_last (value_of c.set.calls plain s.before e) (values_in c.set.calls t.before es) (λ ns. last_value e ns (made s e ns)) (written.values_in (following_sites t es) es)
      (last-value c.known c.set.calls c.builtins (slots_level c w) (names_level c w) s.filled plain s.before e (flat-term c.known plain e is.0) (made s e) (made-same c each w s plain e is.0 (stands-first c w s (helpers_in e) (helpers_in_all es) (value_helpers s e) (all_helpers t es) st)))
      (all-last c each w t es is.1 (stands-last c w s (places e) (helpers_in e) (helpers_in e) (helpers_in_all es) (value_helpers s e) (all_helpers t es) st))

  goal-at : (c : Fixture) (each : AlikeUpTo c) (w : Here c) (s : Site) (es : ExpTrees) (i : ℕ) → GoalAt c w s es i
  goal-at c each w s no_exps i is st = absurd is
  goal-at c each w s (exp e es) zero is st = goal-same c each w s e is st
  goal-at c each w s (exp e es) (suc i) is st = goal-at c each w s es i is st

  last-at : (c : Fixture) (each : AlikeUpTo c) (w : Here c) (s : Site) (es : ExpTrees) (i : ℕ) → LastAt c w s es i
  last-at c each w s no_exps i is st = absurd is
  last-at c each w s (exp e es) zero is st = last-value c.known c.set.calls c.builtins (slots_level c w) (names_level c w) s.filled plain s.before e (flat-term c.known plain e is) (made s e) (made-same c each w s plain e is st)
  last-at c each w s (exp e es) (suc i) is st = last-at c each w s es i is st

  pub goal-same : (c : Fixture) (each : AlikeUpTo c) (w : Here c) (s : Site) (e : ExpTree) → IsGoal c.known e → Stands c w s (helpers_in e) (goal_helpers s e) → SameGoals c.builtins (slots_level c w) (names_level c w) s.filled (goal_of c.set.calls s.before e) (written.goal_of s e)
  goal-same c each w s (atom name) is st =
      goals-drained c.known c.set.calls c.builtins (slots_level c w) (names_level c w) s.filled (atom_goal c.set.calls name) (slots.atom_goals name) (alike-here c each w) (atom-goals c.known c.set.calls c.builtins (slots_level c w) (names_level c w) s.filled (alike-here c each w) name (bytes_eq name (codes "true")) (bytes_eq name (codes "fail")) is)
  goal-same c each w s (call name es) is st =
      goals-drained c.known c.set.calls c.builtins (slots_level c w) (names_level c w) s.filled _ _ (alike-here c each w)
      (call-goals c.known c.set.calls c.builtins (slots_level c w) (names_level c w) s.filled (alike-here c each w) name (exp_count es) (form_of name (exp_count es)) refl
      (SameArguments c.builtins (slots_level c w) (names_level c w) s.filled (values_of c.set.calls (readings name (exp_count es)) s.before es) (arguments_as s (readings name (exp_count es)) es))
      (λ i. SameLast c.builtins (slots_level c w) (names_level c w) s.filled (value_at (values_in c.set.calls s.before es) i) (slots.value_at (written.values_in (goal_sites (form_of name (exp_count es)) s es) es) i))
      (λ i. SameGoals c.builtins (slots_level c w) (names_level c w) s.filled (goal_at (goals_in c.set.calls (behind s.before (places_caught name es)) es) i) (slots.goals_at (written.goals_in (goal_sites (form_of name (exp_count es)) s es) es) i))
      (call-parts c each w s name es (λ t i at have. goal-at c each w t es i at have) (λ t i at have. last-at c each w t es i at have) (λ are have. arguments-same c each w s (readings name (exp_count es)) es are have)
      (form_of name (exp_count es)) refl is.0 st) s.before es (variable_first es)
      (goals_in c.set.calls (behind s.before (places_caught name es)) es) (values_in c.set.calls s.before es) (values_apart c.set.calls (behind s.before (places_behind es)) es)
      (written.goals_in (goal_sites (form_of name (exp_count es)) s es) es) (written.values_in (goal_sites (form_of name (exp_count es)) s es) es) (arguments_as s (readings name (exp_count es)) es)
      (record { goals = λ i same. same; values = λ i same. same }) (λ same. same) (arguments-count s (readings name (exp_count es)) es))
  goal-same c each w s (and es) is st = all-same c each w s es is st
  goal-same c each w s (or es) is st =
      goals-drained c.known c.set.calls c.builtins (slots_level c w) (names_level c w) s.filled (any_of c.set.calls s.before es) (λ ns. slots.as_goals (written.any_of s es ns)) (alike-here c each w)
      (branches-goals c.builtins (slots_level c w) (names_level c w) s.filled (any_of c.set.calls s.before es) (written.any_of s es) (alike-here c each w).core_drains (any-same c each w s es is st))
  goal-same c each w s (if_then bs) is st =
      goals-drained c.known c.set.calls c.builtins (slots_level c w) (names_level c w) s.filled (branches_of c.set.calls s.before bs (λ k q. one q)) (written.branches_of s bs (λ ms. slots.just GoalTree.truth ms)) (alike-here c each w)
      (branches-same c each w s bs is st (λ k q. one q) (λ ms. slots.just GoalTree.truth ms) (true-goals c.builtins (slots_level c w) (names_level c w) s.filled (alike-here c each w).core_drains))
  goal-same c each w s (if_else bs e) is st =
      let t : Site = behind_site s (places_of_branches bs) (helpers_in_branches bs) in
      goals-drained c.known c.set.calls c.builtins (slots_level c w) (names_level c w) s.filled (branches_of c.set.calls s.before bs (goal_of c.set.calls t.before e)) (written.branches_of s bs (written.goal_of t e)) (alike-here c each w)
      (branches-same c each w s bs is.0 (stands-first c w s (helpers_in_branches bs) (helpers_in e) (branch_helpers s bs) (goal_helpers t e) st) (goal_of c.set.calls t.before e) (written.goal_of t e)
      (goal-same c each w t e is.1 (stands-last c w s (places_of_branches bs) (helpers_in_branches bs) (helpers_in_branches bs) (helpers_in e) (branch_helpers s bs) (goal_helpers t e) st)))
  goal-same c each w s (foreach es e) is st =
      let nbody : Names → Goal = λ names. goal_of c.set.calls names e in
      let lbody : Site → SlotNames → SlotGoals = λ u. written.goal_of u e in
      goals-drained c.known c.set.calls c.builtins (slots_level c w) (names_level c w) s.filled _ _ (alike-here c each w)
      (started-same c each w s as_it_is (kept_names s.before es (assigned e)) (inner_of e) es nbody lbody (λ u ending. units_helpers u ending (inner_of e) es lbody (λ v. goal_helpers v e)) (kept-before s.before es (assigned e))
      (kept-among s.before es (assigned e) (occurring_all es ++ occurring e) (within-behind (assigned e) (occurring_all es) (occurring e) (assigned-occurs e)))
      (λ v u ending have. units-same c each v u ending (inner_of e) es is.0 (assigned-occurs e) nbody lbody (λ x. goal_helpers x e) have (λ v u have. goal-same c each v u e is.1 have)) (begins_with_iterator es) st)
  goal-same c each w s (while_do t e) is st =
      let loop : Loop = while_loop s t e in
      let turns : Site = turns_of s loop in
      let lt : SlotNames → SlotGoals = written.goal_of turns t in
      let lb : SlotNames → SlotGoals = written.goal_of (behind_exp turns t) e in
      let inner : List PredTree = goal_helpers (behind_exp turns t) e ++ while_helper loop lt lb ∷ [] in
      let rank : ℕ = helpers_in t + helpers_in e in
      let named : AreNamed turns.before = λ name is. st.named name (shared-before s.before (occurring t ++ occurring e) name is) in
      let both : EachLevel c.builtins c.preds c.set c.program c.most (PartsSame c.known c.set.calls c.builtins loop (goal_of c.set.calls turns.before t) (goal_of c.set.calls (behind turns.before (places t)) e) lt lb) rank =
      λ d k up few. (record {
        alike = each.alike d k up (omega arith);
        first = goal-same c each (record { depth = d; calls = k; up = up }) turns t is.0 (record { named = named; few = omega (arith, few); fits = omega (arith, st.fits); has = have-first c (goal_helpers turns t) inner st.has });
        second = goal-same c each (record { depth = d; calls = k; up = up }) (behind_exp turns t) e is.1
            (record { named = behind-named turns.before (places t) named; few = omega (arith, few); fits = omega (arith, st.fits); has = have-first c (goal_helpers (behind_exp turns t) e) (while_helper loop lt lb ∷ []) (have-last c (goal_helpers turns t) inner st.has) });
      }) in
      let here : PartsSame c.known c.set.calls c.builtins loop (goal_of c.set.calls turns.before t) (goal_of c.set.calls (behind turns.before (places t)) e) lt lb (slots_level c w) (names_level c w) = both w.depth w.calls w.up (omega (arith, st.few)) in
      goals-drained c.known c.set.calls c.builtins (slots_level c w) (names_level c w) s.filled _ _ (alike-here c each w)
      (while-same c.known c.set.calls c.builtins (slots_level c w) (names_level c w) s.filled (alike-here c each w) loop s.before (goal_of c.set.calls turns.before t) (goal_of c.set.calls (behind turns.before (places t)) e) lt lb
      (shared-among s.before (occurring t ++ occurring e) st.named) (kept-before s.before no_exps (assigned e)) (kept-among s.before no_exps (assigned e) (occurring t ++ occurring e) (assigned-occurs (while_do t e)))
      (grows-then (loop_slots loop) _ _ (here.first.grows (loop_slots loop)) (here.second.grows (lt (loop_slots loop)).names))
      (turns-at c.builtins c.preds c.set c.program c.most (while_helper loop lt lb) (have-last c (goal_helpers (behind_exp turns t) e) (while_helper loop lt lb ∷ []) (have-last c (goal_helpers turns t) inner st.has)).0
      (PartsSame c.known c.set.calls c.builtins loop (goal_of c.set.calls turns.before t) (goal_of c.set.calls (behind turns.before (places t)) e) lt lb) rank st.fits both w.depth w.calls w.up st.few))
  goal-same c each w s (do_while e t) is st =
      let loop : Loop = do_loop s e t in
      let turns : Site = turns_of s loop in
      let lb : SlotNames → SlotGoals = written.goal_of turns e in
      let lt : SlotNames → SlotGoals = written.goal_of (behind_exp turns e) t in
      let inner : List PredTree = goal_helpers (behind_exp turns e) t ++ do_helper loop lb lt ∷ [] in
      let rank : ℕ = helpers_in e + helpers_in t in
      let named : AreNamed turns.before = λ name is. st.named name (shared-before s.before (occurring e ++ occurring t) name is) in
      let both : EachLevel c.builtins c.preds c.set c.program c.most (PartsSame c.known c.set.calls c.builtins loop (goal_of c.set.calls turns.before e) (goal_of c.set.calls (behind turns.before (places e)) t) lb lt) rank =
      λ d k up few. (record {
        alike = each.alike d k up (omega arith);
        first = goal-same c each (record { depth = d; calls = k; up = up }) turns e is.0 (record { named = named; few = omega (arith, few); fits = omega (arith, st.fits); has = have-first c (goal_helpers turns e) inner st.has });
        second = goal-same c each (record { depth = d; calls = k; up = up }) (behind_exp turns e) t is.1
            (record { named = behind-named turns.before (places e) named; few = omega (arith, few); fits = omega (arith, st.fits); has = have-first c (goal_helpers (behind_exp turns e) t) (do_helper loop lb lt ∷ []) (have-last c (goal_helpers turns e) inner st.has) });
      }) in
      let here : PartsSame c.known c.set.calls c.builtins loop (goal_of c.set.calls turns.before e) (goal_of c.set.calls (behind turns.before (places e)) t) lb lt (slots_level c w) (names_level c w) = both w.depth w.calls w.up (omega (arith, st.few)) in
      goals-drained c.known c.set.calls c.builtins (slots_level c w) (names_level c w) s.filled _ _ (alike-here c each w)
      (do-same c.known c.set.calls c.builtins (slots_level c w) (names_level c w) s.filled (alike-here c each w) loop s.before (goal_of c.set.calls turns.before e) (goal_of c.set.calls (behind turns.before (places e)) t) lb lt
      (shared-among s.before (occurring e ++ occurring t) st.named) (kept-before s.before no_exps (assigned e)) (kept-among s.before no_exps (assigned e) (occurring e ++ occurring t) (assigned-occurs (do_while e t)))
      (grows-then (loop_slots loop) _ _ (here.first.grows (loop_slots loop)) (here.second.grows (lb (loop_slots loop)).names))
      (turns-at c.builtins c.preds c.set c.program c.most (do_helper loop lb lt) (have-last c (goal_helpers (behind_exp turns e) t) (do_helper loop lb lt ∷ []) (have-last c (goal_helpers turns e) inner st.has)).0
      (PartsSame c.known c.set.calls c.builtins loop (goal_of c.set.calls turns.before e) (goal_of c.set.calls (behind turns.before (places e)) t) lb lt) rank st.fits both w.depth w.calls w.up st.few))
  goal-same c each w s e is st = absurd is

  all-same : (c : Fixture) (each : AlikeUpTo c) (w : Here c) (s : Site) (es : ExpTrees) → AreGoals c.known es → Stands c w s (helpers_in_all es) (conjunct_helpers s es) → SameGoals c.builtins (slots_level c w) (names_level c w) s.filled (all_of c.set.calls s.before es) (written.all_of s es)
  all-same c each w s no_exps is st = none-goals c.builtins (slots_level c w) (names_level c w) s.filled
  all-same c each w s (exp e es) is st =
      let t : Site = behind_exp s e in
      joined-goals c.builtins (slots_level c w) (names_level c w) s.filled (goal_of c.set.calls s.before e) (all_of c.set.calls t.before es) (written.goal_of s e) (written.all_of t es)
      (goal-same c each w s e is.0 (stands-first c w s (helpers_in e) (helpers_in_all es) (goal_helpers s e) (conjunct_helpers t es) st))
      (all-same c each w t es is.1 (stands-last c w s (places e) (helpers_in e) (helpers_in e) (helpers_in_all es) (goal_helpers s e) (conjunct_helpers t es) st))

  any-same : (c : Fixture) (each : AlikeUpTo c) (w : Here c) (s : Site) (es : ExpTrees) → AreBranches c.known es → Stands c w s (helpers_in_all es) (conjunct_helpers s es) → SameBranches c.builtins (slots_level c w) (names_level c w) s.filled (any_of c.set.calls s.before es) (written.any_of s es)
  any-same c each w s no_exps is st = none-branches c.builtins (slots_level c w) (names_level c w) s.filled
  any-same c each w s (exp e es) is st =
      let t : Site = behind_exp s e in
      let one : Stands c w s (helpers_in e) (goal_helpers s e) = stands-first c w s (helpers_in e) (helpers_in_all es) (goal_helpers s e) (conjunct_helpers t es) st in
      branch-first c.known c.set.calls c.builtins (slots_level c w) (names_level c w) s.filled (arrow_in c.set.calls s.before e) (written.arrow_in s e) (goal_of c.set.calls s.before e) (any_of c.set.calls t.before es) (written.goal_of s e) (written.any_of t es) (alike-here c each w)
      (arrow-same c each w s e is.0 one) (λ none. goal-same c each w s e (branch-goal c.known c.set.calls s.before e is.0 none) one)
      (any-same c each w t es is.1 (stands-last c w s (places e) (helpers_in e) (helpers_in e) (helpers_in_all es) (goal_helpers s e) (conjunct_helpers t es) st))

  arrow-same : (c : Fixture) (each : AlikeUpTo c) (w : Here c) (s : Site) (e : ExpTree) → IsBranch c.known e → Stands c w s (helpers_in e) (goal_helpers s e) → SameArrow c.builtins (slots_level c w) (names_level c w) s.filled (arrow_in c.set.calls s.before e) (written.arrow_in s e)
  arrow-same c each w s (arrow t e) is st =
      an_arrow _ _ (goal-same c each w s t is.0 (stands-first c w s (helpers_in t) (helpers_in e) (goal_helpers s t) (goal_helpers (behind_exp s t) e) st))
      (goal-same c each w (behind_exp s t) e is.1 (stands-last c w s (places t) (helpers_in t) (helpers_in t) (helpers_in e) (goal_helpers s t) (goal_helpers (behind_exp s t) e) st))
  arrow-same c each w s (atom name) is st = no_arrow
  arrow-same c each w s (call name es) is st = no_arrow
  arrow-same c each w s (and es) is st = no_arrow
  arrow-same c each w s (or es) is st = no_arrow
  arrow-same c each w s (if_then bs) is st = no_arrow
  arrow-same c each w s (if_else bs e) is st = no_arrow
  arrow-same c each w s (foreach es e) is st = no_arrow
  arrow-same c each w s (while_do t e) is st = no_arrow
  arrow-same c each w s (do_while e t) is st = no_arrow
  arrow-same c each w s e is st = absurd is

  branches-same : (c : Fixture) (each : AlikeUpTo c) (w : Here c) (s : Site) (bs : ExpBranches) → HaveGoals c.known bs → Stands c w s (helpers_in_branches bs) (branch_helpers s bs) → (other : Goal) (lother : SlotNames → SlotGoals) →
      SameGoals c.builtins (slots_level c w) (names_level c w) s.filled other lother → SameGoals c.builtins (slots_level c w) (names_level c w) s.filled (branches_of c.set.calls s.before bs other) (written.branches_of s bs lother)
  branches-same c each w s no_branches is st other lother same = same
  branches-same c each w s (branch t e bs) is st other lother same =
      let u : Site = behind_exp s t in
      let v : Site = behind_site s (places t ++ places e) (helpers_in t + helpers_in e) in
      chosen-goals c.known c.set.calls c.builtins (slots_level c w) (names_level c w) s.filled (goal_of c.set.calls s.before t) (goal_of c.set.calls u.before e) (branches_of c.set.calls v.before bs other) (written.goal_of s t) (written.goal_of u e) (written.branches_of v bs lother) (alike-here c each w)
      (goal-same c each w s t is.0 (stands-first c w s (helpers_in t) (helpers_in e + helpers_in_branches bs) (goal_helpers s t) (goal_helpers u e ++ branch_helpers v bs) st))
      (goal-same c each w u e is.1 (stands-first c w u (helpers_in e) (helpers_in_branches bs) (goal_helpers u e) (branch_helpers v bs)
      (stands-last c w s (places t) (helpers_in t) (helpers_in t) (helpers_in e + helpers_in_branches bs) (goal_helpers s t) (goal_helpers u e ++ branch_helpers v bs) st)))
      (branches-same c each w v bs is.2 (stands-third c w s (places t ++ places e) (helpers_in t + helpers_in e) (helpers_in t) (helpers_in e) (helpers_in_branches bs) (goal_helpers s t) (goal_helpers u e) (branch_helpers v bs) st) other lother same)

  -- iterators and tests, and what stands in the loop
  units-same : (c : Fixture) (each : AlikeUpTo c) (w : Here c) (s : Site) (ending : Ending) (i : Inner) (us : ExpTrees) → AreUnits c.known us → Within i.assigned i.used → (nbody : Names → Goal) (lbody : Site → SlotNames → SlotGoals) (inner : Site → List PredTree) →
      Stands c w s (helpers_in_units us + i.count) (units_helpers s ending i us lbody inner) →
      ((v : Here c) (t : Site) → Stands c v t i.count (inner t) → SameGoals c.builtins (slots_level c v) (names_level c v) t.filled (nbody t.before) (lbody t)) →
      SameGoals c.builtins (slots_level c w) (names_level c w) s.filled (units_of c.set.calls (finish_of ending) s.before i.assigned i.used us nbody) (written.units s ending i us lbody)
  units-same c each w s ending i no_exps is within nbody lbody inner st body = body w s (record { named = st.named; few = omega (arith, st.few); fits = omega (arith, st.fits); has = st.has })
  units-same c each w s ending i (exp u us) is within nbody lbody inner st body =
      unit-same c each w s ending i u us (IsCollection c.known u) (IsGoal c.known u) within nbody lbody (λ t o. units_helpers t o i us lbody inner) (collection_helpers s u) (goal_helpers s u) (λ fits have. collection-same c each w s u fits have)
      (λ fits have. goal-same c each w s u fits have) (λ v t o have. units-same c each v t o i us is.1 within nbody lbody inner have body) (iterated u) refl is.0 st

  collection-same : (c : Fixture) (each : AlikeUpTo c) (w : Here c) (s : Site) (u : ExpTree) → IsCollection c.known u → Stands c w s (helpers_in u) (collection_helpers s u) → Collected c w s u (is_range u)
  collection-same c each w s (call name no_exps) is st = absurd is
  collection-same c each w s (call name (exp x no_exps)) is st = absurd is
  collection-same c each w s (call name (exp x (exp (range first last) es))) is st =
      let t : Site = behind_exp s first in
      let ours : Stands c w s (helpers_in first + helpers_in last) (value_helpers s first ++ value_helpers t last) = record { named = st.named; few = omega (arith, st.few); fits = omega (arith, st.fits); has = st.has } in
      by_range (in_front (value_of c.set.calls plain s.before first) (in_front (value_of c.set.calls plain t.before last) nothing)) refl (λ ns. two_bounds _ _)
      (pair-arguments c.known c.set.calls c.builtins (slots_level c w) (names_level c w) s.filled (alike-here c each w) s.before first last (flat-term c.known plain first is.0) (flat-term c.known plain last is.1) (made s first) (made t last)
      (made-same c each w s plain first is.0 (stands-first c w s (helpers_in first) (helpers_in last) (value_helpers s first) (value_helpers t last) ours))
      (made-same c each w t plain last is.1 (stands-last c w s (places first) (helpers_in first) (helpers_in first) (helpers_in last) (value_helpers s first) (value_helpers t last) ours)))
  collection-same c each w s (call name (exp x (exp (range_by first step last) es))) is st =
      let t : Site = behind_exp s first in
      let u : Site = behind_site s (places first ++ places step) (helpers_in first + helpers_in step) in
      let ours : Stands c w s (helpers_in first + (helpers_in step + helpers_in last)) (value_helpers s first ++ (value_helpers t step ++ value_helpers u last)) =
      record { named = st.named; few = omega (arith, st.few); fits = omega (arith, st.fits); has = st.has } in
      let rest : Stands c w t (helpers_in step + helpers_in last) (value_helpers t step ++ value_helpers u last) =
      stands-last c w s (places first) (helpers_in first) (helpers_in first) (helpers_in step + helpers_in last) (value_helpers s first) (value_helpers t step ++ value_helpers u last) ours in
      by_range (in_front (value_of c.set.calls plain s.before first) (in_front (value_of c.set.calls plain t.before step) (in_front (value_of c.set.calls plain u.before last) nothing))) refl (λ ns. with_step _ _ _)
      (three-arguments c.known c.set.calls c.builtins (slots_level c w) (names_level c w) s.filled (alike-here c each w) s.before first step last (flat-term c.known plain first is.0) (flat-term c.known plain step is.1) (flat-term c.known plain last is.2) (made s first) (made t step) (made u last)
      (made-same c each w s plain first is.0 (stands-first c w s (helpers_in first) (helpers_in step + helpers_in last) (value_helpers s first) (value_helpers t step ++ value_helpers u last) ours))
      (made-same c each w t plain step is.1 (stands-first c w t (helpers_in step) (helpers_in last) (value_helpers t step) (value_helpers u last) rest))
      (made-same c each w u plain last is.2
      (stands-third c w s (places first ++ places step) (helpers_in first + helpers_in step) (helpers_in first) (helpers_in step) (helpers_in last) (value_helpers s first) (value_helpers t step) (value_helpers u last) ours)))
  collection-same c each w s (call name (exp x (exp (var label) es))) is st =
      by_value (last-value c.known c.set.calls c.builtins (slots_level c w) (names_level c w) s.filled plain s.before (var label) (flat-term c.known plain (var label) is) (made s (var label)) (made-same c each w s plain (var label) is (record { named = st.named; few = omega (arith, st.few); fits = omega (arith, st.fits); has = st.has })))
  collection-same c each w s (call name (exp x (exp (int n) es))) is st =
      by_value (last-value c.known c.set.calls c.builtins (slots_level c w) (names_level c w) s.filled plain s.before (int n) (flat-term c.known plain (int n) is) (made s (int n)) (made-same c each w s plain (int n) is (record { named = st.named; few = omega (arith, st.few); fits = omega (arith, st.fits); has = st.has })))
  collection-same c each w s (call name (exp x (exp (atom a) es))) is st =
      by_value (last-value c.known c.set.calls c.builtins (slots_level c w) (names_level c w) s.filled plain s.before (atom a) (flat-term c.known plain (atom a) is) (made s (atom a)) (made-same c each w s plain (atom a) is (record { named = st.named; few = omega (arith, st.few); fits = omega (arith, st.fits); has = st.has })))
  collection-same c each w s (call name (exp x (exp (str a) es))) is st =
      by_value (last-value c.known c.set.calls c.builtins (slots_level c w) (names_level c w) s.filled plain s.before (str a) (flat-term c.known plain (str a) is) (made s (str a)) (made-same c each w s plain (str a) is (record { named = st.named; few = omega (arith, st.few); fits = omega (arith, st.fits); has = st.has })))
  collection-same c each w s (call name (exp x (exp (list xs) es))) is st =
      by_value (last-value c.known c.set.calls c.builtins (slots_level c w) (names_level c w) s.filled plain s.before (list xs) (flat-term c.known plain (list xs) is) (made s (list xs)) (made-same c each w s plain (list xs) is (record { named = st.named; few = omega (arith, st.few); fits = omega (arith, st.fits); has = st.has })))
  collection-same c each w s (call name (exp x (exp (list_onto xs y) es))) is st =
      by_value (last-value c.known c.set.calls c.builtins (slots_level c w) (names_level c w) s.filled plain s.before (list_onto xs y) (flat-term c.known plain (list_onto xs y) is) (made s (list_onto xs y)) (made-same c each w s plain (list_onto xs y) is (record { named = st.named; few = omega (arith, st.few); fits = omega (arith, st.fits); has = st.has })))
  collection-same c each w s (call name (exp x (exp (array xs) es))) is st =
      by_value (last-value c.known c.set.calls c.builtins (slots_level c w) (names_level c w) s.filled plain s.before (array xs) (flat-term c.known plain (array xs) is) (made s (array xs)) (made-same c each w s plain (array xs) is (record { named = st.named; few = omega (arith, st.few); fits = omega (arith, st.fits); has = st.has })))
  collection-same c each w s (call name (exp x (exp (call f xs) es))) is st =
      by_value (last-value c.known c.set.calls c.builtins (slots_level c w) (names_level c w) s.filled plain s.before (call f xs) (flat-term c.known plain (call f xs) is) (made s (call f xs)) (made-same c each w s plain (call f xs) is (record { named = st.named; few = omega (arith, st.few); fits = omega (arith, st.fits); has = st.has })))
  collection-same c each w s (call name (exp x (exp (quote y) es))) is st =
      by_value (last-value c.known c.set.calls c.builtins (slots_level c w) (names_level c w) s.filled plain s.before (quote y) (flat-term c.known plain (quote y) is) (made s (quote y)) (made-same c each w s plain (quote y) is (record { named = st.named; few = omega (arith, st.few); fits = omega (arith, st.fits); has = st.has })))
  collection-same c each w s (call name (exp x (exp (index y xs) es))) is st =
      by_value (last-value c.known c.set.calls c.builtins (slots_level c w) (names_level c w) s.filled plain s.before (index y xs) (flat-term c.known plain (index y xs) is) (made s (index y xs)) (made-same c each w s plain (index y xs) is (record { named = st.named; few = omega (arith, st.few); fits = omega (arith, st.fits); has = st.has })))
  collection-same c each w s (call name (exp x (exp (collect is_array y xs) es))) is st =
      by_value (last-value c.known c.set.calls c.builtins (slots_level c w) (names_level c w) s.filled plain s.before (collect is_array y xs) (flat-term c.known plain (collect is_array y xs) is) (made s (collect is_array y xs)) (made-same c each w s plain (collect is_array y xs) is (record { named = st.named; few = omega (arith, st.few); fits = omega (arith, st.fits); has = st.has })))
  collection-same c each w s (call name (exp x (exp d es))) is st = absurd is
  collection-same c each w s u is st = absurd is
