-- Goals and expressions that are built, and call no term, mean the same where calls of names that are built do.
use Rattle.std.specs.Prelude.{◌≡◌, ◌++◌, ◌&&◌, ◌||◌, ℕ, zero, suc, Bool, true, false, List, [], ◌∷◌, Option, Some, None, refl}
use Rattle.std.proofs.lemmas.Bool.{and_parts, or_parts}
use Rattle.pi_terms.specs.Tree.{Tree, comp}
use Rattle.pi_terms.specs.ListNames.{nil}
use Rattle.pi_syntax.specs.PrintTerm.{array_name}
use Rattle.pi_effects.specs.Indexing.{index_name}
use Rattle.pi_syntax.specs.ExpTree.{ExpTree, var, int, atom, str, list, list_onto, array, call, quote, index, range, range_by, at, collect, and, or, arrow, if_then, if_else, foreach, while_do, do_while, ExpTrees, no_exps, exp, ExpBranches, no_branches, branch}
use Rattle.pi_syntax.specs.Signature.{exp_count}
use Rattle.pi_traces.specs.Trace.{one}
use Rattle.pi_meaning.specs.OverNames.Environment.{Valued}
use Rattle.pi_meaning.specs.Shared.Names.{is_call}
use Rattle.pi_meaning.specs.Shared.Given.{Setting}
use Rattle.pi_meaning.specs.OverNames.Texts.{Names, places, places_all, places_behind, places_caught, places_of_branches, behind, variable_first, occurring, occurring_all, iterated, unit_places, begins_with_iterator, shared_names, names_inside, assigned, kept_names}
use Rattle.pi_meaning.specs.OverNames.Terms.{items_onto}
use Rattle.pi_meaning.specs.OverNames.Control.{Goal, Value, Values, draining, nothing, in_front, made_of, made_onto, applied_to, following, choosing, branch_before, goal_at, value_at}
use Rattle.pi_meaning.specs.OverNames.Forms.{form_of, Parts, Reading, plain, readings, first_reading, later_readings, operand_readings, indexed_by}
use Rattle.pi_meaning.specs.OverNames.Loops.{Finish, as_it_is, unit, iterating, turning, while_turns, do_turns, hidden, adding, in_order, comprehended, names_around}
use Rattle.pi_meaning.specs.OverNames.Goals.{started, value_of, values_of, values_in, values_apart, goals_in, goal_of, all_of, any_of, arrow_in, branches_of, units_of, collection_of}
use Rattle.pi_rewrite_sound.specs.Built.{is_built_pattern, is_built_form, is_assigned, is_built_unit, are_built_units, is_built_collection, are_some, is_built_value, are_built_values, is_built_value_at, is_built_goal_at, is_built_goal, are_built_goals, are_built_branches, is_built_branch, have_built_goals}
use Rattle.pi_rewrite_sound.specs.TermCalls.{calls_terms, some_call_terms, some_branch_calls_terms}
use Rattle.pi_rewrite_sound.proofs.BuiltNames.{ranges-built, index-built}
use Rattle.pi_rewrite_sound.proofs.CallLemmas.{CallsAlike, Counted, nothing-counted, front-counted, values-counted, applied-alike}
use Rattle.pi_rewrite_sound.proofs.FormLemmas.{no-term, form-alike, atom-alike, call-value-alike, range-alike}

-- two values in front of no more, and three
two-counted : (v w : Value) → Counted Valued 2 (in_front v (in_front w nothing))
two-counted v w = front-counted 1 v (in_front w nothing) (front-counted 0 w nothing nothing-counted)

three-counted : (v w x : Value) → Counted Valued 3 (in_front v (in_front w (in_front x nothing)))
three-counted v w x = front-counted 2 v (in_front w (in_front x nothing)) (two-counted w x)

-- a branch without an arrow is a goal, and what one with an arrow does is its parts'
branch-goal : (a b : Setting) (before : Names) (e : ExpTree) → is_built_branch e ≡ true → (is_built_goal e ≡ true → goal_of a before e ≡ goal_of b before e) → goal_of a before e ≡ goal_of b before e
unfolding goal_of is_built_goal is_built_branch
branch-goal a b before (arrow c e) n same = refl
branch-goal a b before (atom name) n same = same n
branch-goal a b before (call name es) n same = same n
branch-goal a b before (and es) n same = same n
branch-goal a b before (or es) n same = same n
branch-goal a b before (if_then bs) n same = same n
branch-goal a b before (if_else bs e) n same = same n
branch-goal a b before (foreach es e) n same = same n
branch-goal a b before (while_do c e) n same = same n
branch-goal a b before (do_while e c) n same = same n
branch-goal a b before e n same = absurd cc

-- an iterator or a test, of what it goes over or of what it asks, and of what stands behind it
unit-alike : (finish : Finish) (before inside kept : Names) (o : Option ExpTree) (over tested : Bool) → is_built_unit o over tested ≡ true → (v w : Value) → (over ≡ true → v ≡ w) → (f g : Goal) → (tested ≡ true → f ≡ g) → (rest last : Goal) → rest ≡ last →
    unit (names_around finish before inside kept) o v f rest ≡ unit (names_around finish before inside kept) o w g last
unit-alike finish before inside kept None over tested built v w collection f g test rest last d = λ i l p. choosing (test built i) (d i) (λ m q. one q) l p
unit-alike finish before inside kept (Some e) over tested built v w collection f g test rest last d =
    λ i l p. iterating (names_around finish before inside kept) e (collection (and_parts (is_built_pattern e) over built).1 i) (d i) l p

mutual
  unfolding value_of values_of values_in values_apart goals_in goal_of all_of any_of arrow_in branches_of indexed_by value_at goal_at is_built_value are_built_values is_built_value_at is_built_goal_at is_built_goal
      are_built_goals are_built_branches is_built_branch have_built_goals are_built_units is_built_collection units_of collection_of calls_terms some_call_terms some_branch_calls_terms

  pub value-alike : (a b : Setting) → CallsAlike a b → (r : Reading) (before : Names) (e : ExpTree) → is_built_value e ≡ true → calls_terms e ≡ false → value_of a r before e ≡ value_of b r before e
  value-alike a b h r before (var name) n z = refl
  value-alike a b h r before (int i) n z = refl
  value-alike a b h r before (atom name) n z = refl
  value-alike a b h r before (str text) n z = refl
  value-alike a b h r before (list es) n z = λ i l p. made_of (λ ts. items_onto ts (Tree.atom nil)) (values-alike a b h [] before es n z i) l p
  value-alike a b h r before (list_onto es e) n z =
      let parts = and_parts (are_built_values es) (is_built_value e) n in
      let free = or_parts (some_call_terms es) (calls_terms e) z in
      λ i l p. made_onto items_onto (values-alike a b h [] before es parts.0 free.0 i) (value-alike a b h plain (behind before (places_all es)) e parts.1 free.1 i) l p
  value-alike a b h r before (array es) n z = λ i l p. made_of (comp array_name) (values-alike a b h [] before es n z i) l p
  value-alike a b h r before (call name es) n z =
      let parts : Setting → Parts = λ set. record {
        variable = variable_first es;
        goals = goals_in set before es;
        values = values_in set before es;
        late = values_apart set (behind before (places_behind es)) es;
        all = values_of set (operand_readings r name (exp_count es)) before es;
      } in
      let free = or_parts (is_call name (exp_count es)) (some_call_terms es) z in
      λ i l p. call-value-alike a b h name (exp_count es) (parts a) (parts b) (are_built_values es) (is_built_value_at es) (is_built_goal_at es)
      (values-counted a (operand_readings r name (exp_count es)) before es) (λ m. values-alike a b h (operand_readings r name (exp_count es)) before es m free.1)
      (λ k m. late-alike a b h (behind before (places_behind es)) es k m free.1) (λ k m. goal-at-alike a b h before es k m free.1) r n i l p
  value-alike a b h r before (quote e) n z = refl
  value-alike a b h r before (index e es) n z =
      let parts = and_parts (is_built_value e) (are_built_values es && are_some es) n in
      let free = or_parts (calls_terms e) (some_call_terms es) z in
      λ i l p. indexed-alike a b h (behind before (places e)) es (and_parts (are_built_values es) (are_some es) parts.1).0 free.1 (value_of a plain before e) (value_of b plain before e)
      (value-alike a b h plain before e parts.0 free.0) i l p
  value-alike a b h r before (range first last) n z =
      let parts = and_parts (is_built_value first) (is_built_value last) n in
      let free = or_parts (calls_terms first) (calls_terms last) z in
      λ i l p. range-alike a b h r 2 ranges-built.0
      (in_front (value_of a plain before first) (in_front (value_of a plain (behind before (places first)) last) nothing)) (in_front (value_of b plain before first) (in_front (value_of b plain (behind before (places first)) last) nothing))
      (two-counted (value_of a plain before first) (value_of a plain (behind before (places first)) last))
      (λ j. in_front (value-alike a b h plain before first parts.0 free.0 j) (in_front (value-alike a b h plain (behind before (places first)) last parts.1 free.1 j) nothing)) i l p
  value-alike a b h r before (range_by first step last) n z =
      let parts = and_parts (is_built_value first) (is_built_value step && is_built_value last) n in
      let rest = and_parts (is_built_value step) (is_built_value last) parts.1 in
      let free = or_parts (calls_terms first) (calls_terms step || calls_terms last) z in
      let others = or_parts (calls_terms step) (calls_terms last) free.1 in
      let bounds : Setting → Values = λ set. in_front (value_of set plain before first) (in_front (value_of set plain (behind before (places first)) step) (in_front (value_of set plain (behind before (places first ++ places step)) last) nothing)) in
      λ i l p. range-alike a b h r 3 ranges-built.1 (bounds a) (bounds b)
      (three-counted (value_of a plain before first) (value_of a plain (behind before (places first)) step) (value_of a plain (behind before (places first ++ places step)) last))
      (λ j. in_front (value-alike a b h plain before first parts.0 free.0 j)
      (in_front (value-alike a b h plain (behind before (places first)) step rest.0 others.0 j) (in_front (value-alike a b h plain (behind before (places first ++ places step)) last rest.1 others.1 j) nothing))) i l p
  value-alike a b h r before (collect is_array e es) n z =
      let parts = and_parts (are_built_units es) (is_built_value e) n in
      let free = or_parts (calls_terms e) (some_call_terms es) z in
      λ i l p. comprehended before (started (begins_with_iterator es) (in_order is_array) (before ++ hidden ∷ []) (shared_names (before ++ hidden ∷ []) (occurring_all es ++ hidden ∷ occurring e)) (hidden ∷ [])
      (λ finish inside. units-alike a b h finish inside (hidden ∷ []) (hidden ∷ occurring e) es parts.0 free.1 (λ names. adding (value_of a plain names e)) (λ names. adding (value_of b plain names e))
      (λ j names. adding (value-alike a b h plain names e parts.1 free.0 j)) i)) l p
  value-alike a b h r before (at name e) n z = refl
  value-alike a b h r before (and es) n z = refl
  value-alike a b h r before (or es) n z = refl
  value-alike a b h r before (arrow c e) n z = refl
  value-alike a b h r before (if_then bs) n z = refl
  value-alike a b h r before (if_else bs e) n z = refl
  value-alike a b h r before (foreach es e) n z = refl
  value-alike a b h r before (while_do c e) n z = refl
  value-alike a b h r before (do_while e c) n z = refl

  values-alike : (a b : Setting) → CallsAlike a b → (rs : List Reading) (before : Names) (es : ExpTrees) → are_built_values es ≡ true → some_call_terms es ≡ false → values_of a rs before es ≡ values_of b rs before es
  values-alike a b h rs before no_exps n z = refl
  values-alike a b h rs before (exp e es) n z =
      let parts = and_parts (is_built_value e) (are_built_values es) n in
      let free = or_parts (calls_terms e) (some_call_terms es) z in
      λ i l p. in_front (value-alike a b h (first_reading rs) before e parts.0 free.0 i) (values-alike a b h (later_readings rs) (behind before (places e)) es parts.1 free.1 i) l p

  indexed-alike : (a b : Setting) → CallsAlike a b → (before : Names) (es : ExpTrees) → are_built_values es ≡ true → some_call_terms es ≡ false → (v w : Value) → v ≡ w → indexed_by a v (values_in a before es) ≡ indexed_by b w (values_in b before es)
  indexed-alike a b h before no_exps n z v w d = d
  indexed-alike a b h before (exp e es) n z v w d =
      let parts = and_parts (is_built_value e) (are_built_values es) n in
      let free = or_parts (calls_terms e) (some_call_terms es) z in
      indexed-alike a b h (behind before (places e)) es parts.1 free.1 (applied_to a index_name (in_front v (in_front (value_of a plain before e) nothing))) (applied_to b index_name (in_front w (in_front (value_of b plain before e) nothing)))
      (applied-alike a b h index_name 2 index-built (in_front v (in_front (value_of a plain before e) nothing)) (in_front w (in_front (value_of b plain before e) nothing)) (two-counted v (value_of a plain before e))
      (λ i. in_front (d i) (in_front (value-alike a b h plain before e parts.0 free.0 i) nothing)))

  -- the one with this number
  value-at-alike : (a b : Setting) → CallsAlike a b → (before : Names) (es : ExpTrees) (k : ℕ) → is_built_value_at es k ≡ true → some_call_terms es ≡ false → value_at (values_in a before es) k ≡ value_at (values_in b before es) k
  value-at-alike a b h before no_exps k n z = absurd cc
  value-at-alike a b h before (exp e es) zero n z = value-alike a b h plain before e n (or_parts (calls_terms e) (some_call_terms es) z).0
  value-at-alike a b h before (exp e es) (suc k) n z = value-at-alike a b h (behind before (places e)) es k n (or_parts (calls_terms e) (some_call_terms es) z).1

  late-alike : (a b : Setting) → CallsAlike a b → (before : Names) (es : ExpTrees) (k : ℕ) → is_built_value_at es k ≡ true → some_call_terms es ≡ false → value_at (values_apart a before es) k ≡ value_at (values_apart b before es) k
  late-alike a b h before no_exps k n z = absurd cc
  late-alike a b h before (exp e es) zero n z = value-alike a b h plain before e n (or_parts (calls_terms e) (some_call_terms es) z).0
  late-alike a b h before (exp e es) (suc k) n z = late-alike a b h before es k n (or_parts (calls_terms e) (some_call_terms es) z).1

  goal-at-alike : (a b : Setting) → CallsAlike a b → (before : Names) (es : ExpTrees) (k : ℕ) → is_built_goal_at es k ≡ true → some_call_terms es ≡ false → goal_at (goals_in a before es) k ≡ goal_at (goals_in b before es) k
  goal-at-alike a b h before no_exps k n z = absurd cc
  goal-at-alike a b h before (exp e es) zero n z = goal-alike a b h before e n (or_parts (calls_terms e) (some_call_terms es) z).0
  goal-at-alike a b h before (exp e es) (suc k) n z = goal-at-alike a b h (behind before (places e)) es k n (or_parts (calls_terms e) (some_call_terms es) z).1

  pub goal-alike : (a b : Setting) → CallsAlike a b → (before : Names) (e : ExpTree) → is_built_goal e ≡ true → calls_terms e ≡ false → goal_of a before e ≡ goal_of b before e
  goal-alike a b h before (atom name) n z = λ i l p. draining (atom-alike a b h name n i) l p
  goal-alike a b h before (call name es) n z =
      let parts : Setting → Parts = λ set. record {
        variable = variable_first es;
        goals = goals_in set (behind before (places_caught name es)) es;
        values = values_in set before es;
        late = values_apart set (behind before (places_behind es)) es;
        all = values_of set (readings name (exp_count es)) before es;
      } in
      let free = or_parts (is_call name (exp_count es)) (some_call_terms es) z in
      λ i l p. draining (form-alike a b h (form_of name (exp_count es)) name (exp_count es) (parts a) (parts b) (are_built_values es) (is_built_value_at es) (is_built_goal_at es) (no-term name (exp_count es) free.0)
      (and_parts (is_built_form (form_of name (exp_count es)) name (exp_count es) (are_built_values es) (is_built_value_at es) (is_built_goal_at es)) (is_assigned (form_of name (exp_count es)) es) n).0
      (values-counted a (readings name (exp_count es)) before es) refl (λ m. values-alike a b h (readings name (exp_count es)) before es m free.1)
      (λ k m. value-at-alike a b h before es k m free.1) (λ k m. goal-at-alike a b h (behind before (places_caught name es)) es k m free.1) i) l p
  goal-alike a b h before (and es) n z = λ i l p. all-alike a b h before es n z i l p
  goal-alike a b h before (or es) n z = λ i l p. draining (any-alike a b h before es n z i) l p
  goal-alike a b h before (if_then bs) n z = λ i l p. draining (branches-alike a b h before bs n z (λ m q. one q) (λ m q. one q) refl i) l p
  goal-alike a b h before (if_else bs e) n z =
      let parts = and_parts (have_built_goals bs) (is_built_goal e) n in
      let free = or_parts (some_branch_calls_terms bs) (calls_terms e) z in
      λ i l p. draining (branches-alike a b h before bs parts.0 free.0 (goal_of a (behind before (places_of_branches bs)) e) (goal_of b (behind before (places_of_branches bs)) e)
      (goal-alike a b h (behind before (places_of_branches bs)) e parts.1 free.1) i) l p
  goal-alike a b h before (foreach es e) n z =
      let parts = and_parts (are_built_units es) (is_built_goal e) n in
      let free = or_parts (some_call_terms es) (calls_terms e) z in
      λ i l p. draining (started (begins_with_iterator es) as_it_is before (shared_names before (occurring_all es ++ occurring e)) (kept_names before es (assigned e))
      (λ finish inside. units-alike a b h finish inside (assigned e) (occurring e) es parts.0 free.0 (λ names. goal_of a names e) (λ names. goal_of b names e) (λ j names. goal-alike a b h names e parts.1 free.1 j) i)) l p
  goal-alike a b h before (while_do c e) n z =
      let parts = and_parts (is_built_goal c) (is_built_goal e) n in
      let free = or_parts (calls_terms c) (calls_terms e) z in
      let inside : Names = shared_names before (occurring c ++ occurring e) in
      λ i l p. draining (turning (names_around as_it_is before inside (kept_names before no_exps (assigned e)))
      (while_turns inside (goal-alike a b h inside c parts.0 free.0 i) (goal-alike a b h (behind inside (places c)) e parts.1 free.1 i))) l p
  goal-alike a b h before (do_while e c) n z =
      let parts = and_parts (is_built_goal e) (is_built_goal c) n in
      let free = or_parts (calls_terms e) (calls_terms c) z in
      let inside : Names = shared_names before (occurring e ++ occurring c) in
      λ i l p. draining (turning (names_around as_it_is before inside (kept_names before no_exps (assigned e)))
      (do_turns inside (goal-alike a b h inside e parts.0 free.0 i) (goal-alike a b h (behind inside (places e)) c parts.1 free.1 i))) l p
  goal-alike a b h before (var name) n z = refl
  goal-alike a b h before (int i) n z = refl
  goal-alike a b h before (str text) n z = refl
  goal-alike a b h before (list es) n z = refl
  goal-alike a b h before (list_onto es e) n z = refl
  goal-alike a b h before (array es) n z = refl
  goal-alike a b h before (quote e) n z = refl
  goal-alike a b h before (index e es) n z = refl
  goal-alike a b h before (range first last) n z = refl
  goal-alike a b h before (range_by first step last) n z = refl
  goal-alike a b h before (at name e) n z = refl
  goal-alike a b h before (collect is_array e es) n z = refl
  goal-alike a b h before (arrow c e) n z = refl

  all-alike : (a b : Setting) → CallsAlike a b → (before : Names) (es : ExpTrees) → are_built_goals es ≡ true → some_call_terms es ≡ false → all_of a before es ≡ all_of b before es
  all-alike a b h before no_exps n z = refl
  all-alike a b h before (exp e es) n z =
      let parts = and_parts (is_built_goal e) (are_built_goals es) n in
      let free = or_parts (calls_terms e) (some_call_terms es) z in
      λ i l p. following (goal-alike a b h before e parts.0 free.0 i) (all-alike a b h (behind before (places e)) es parts.1 free.1 i) l p

  any-alike : (a b : Setting) → CallsAlike a b → (before : Names) (es : ExpTrees) → are_built_branches es ≡ true → some_call_terms es ≡ false → any_of a before es ≡ any_of b before es
  any-alike a b h before no_exps n z = refl
  any-alike a b h before (exp e es) n z =
      let parts = and_parts (is_built_branch e) (are_built_branches es) n in
      let free = or_parts (calls_terms e) (some_call_terms es) z in
      λ i l p. branch_before (arrow-alike a b h before e parts.0 free.0 i) (branch-goal a b before e parts.0 (λ m. goal-alike a b h before e m free.0) i) (any-alike a b h (behind before (places e)) es parts.1 free.1 i) l p

  arrow-alike : (a b : Setting) → CallsAlike a b → (before : Names) (e : ExpTree) → is_built_branch e ≡ true → calls_terms e ≡ false → arrow_in a before e ≡ arrow_in b before e
  arrow-alike a b h before (arrow c e) n z =
      let parts = and_parts (is_built_goal c) (is_built_goal e) n in
      let free = or_parts (calls_terms c) (calls_terms e) z in
      λ i. Some (record { test = goal-alike a b h before c parts.0 free.0 i; body = goal-alike a b h (behind before (places c)) e parts.1 free.1 i })
  arrow-alike a b h before e n z = refl

  branches-alike : (a b : Setting) → CallsAlike a b → (before : Names) (bs : ExpBranches) → have_built_goals bs ≡ true → some_branch_calls_terms bs ≡ false → (other last : Goal) → other ≡ last →
      branches_of a before bs other ≡ branches_of b before bs last
  branches-alike a b h before no_branches n z other last d = λ i l p. d i l p
  branches-alike a b h before (branch c e bs) n z other last d =
      let parts = and_parts (is_built_goal c) (is_built_goal e && have_built_goals bs) n in
      let rest = and_parts (is_built_goal e) (have_built_goals bs) parts.1 in
      let free = or_parts (calls_terms c) (calls_terms e || some_branch_calls_terms bs) z in
      let others = or_parts (calls_terms e) (some_branch_calls_terms bs) free.1 in
      λ i l p. choosing (goal-alike a b h before c parts.0 free.0 i) (goal-alike a b h (behind before (places c)) e rest.0 others.0 i)
      (branches-alike a b h (behind before (places c ++ places e)) bs rest.1 others.1 other last d i) l p

  -- iterators and tests, and what stands in the loop
  units-alike : (a b : Setting) → CallsAlike a b → (finish : Finish) (before names used : Names) (es : ExpTrees) → are_built_units es ≡ true → some_call_terms es ≡ false → (body last : Names → Goal) → body ≡ last →
      units_of a finish before names used es body ≡ units_of b finish before names used es last
  units-alike a b h finish before names used no_exps n z body last d = λ i l p. d i before l p
  units-alike a b h finish before names used (exp u us) n z body last d =
      let parts = and_parts (is_built_unit (iterated u) (is_built_collection u) (is_built_goal u)) (are_built_units us) n in
      let free = or_parts (calls_terms u) (some_call_terms us) z in
      let inside : Names = names_inside before (iterated u) (occurring_all us ++ used) in
      let later : Names = behind inside (unit_places (iterated u) u) in
      λ i l p. unit-alike finish before inside (kept_names before (exp u us) names) (iterated u) (is_built_collection u) (is_built_goal u) parts.0 (collection_of a before u) (collection_of b before u)
      (λ m. collection-alike a b h before u m free.0) (goal_of a before u) (goal_of b before u) (λ m. goal-alike a b h before u m free.0) (units_of a as_it_is later names used us body) (units_of b as_it_is later names used us last)
      (units-alike a b h as_it_is later names used us parts.1 free.1 body last d) i l p

  collection-alike : (a b : Setting) → CallsAlike a b → (before : Names) (u : ExpTree) → is_built_collection u ≡ true → calls_terms u ≡ false → collection_of a before u ≡ collection_of b before u
  collection-alike a b h before (call name es) n z = λ i l p. late-alike a b h before es 1 n (or_parts (is_call name (exp_count es)) (some_call_terms es) z).1 i l p
  collection-alike a b h before u n z = absurd cc
