-- What the name of a predicate does, each by what its body is.
use Rattle.std.proofs.Common.{◌≡◌, ℕ, Bool, true, false, List, [], refl, ap, sym, subst, ◌∙◌}
use Rattle.std.specs.Prelude.{Option, Some, None, Result, Ok, Err, IfOk, IfErr, is_none, cond, nat_lt, codes, option_map}
use Rattle.std.specs.Option.{option_or}
use Rattle.pi_terms.specs.Tree.{Tree, Trees, no_trees, tree, tree_count}
use Rattle.pi_constraints.specs.State.{State, bindings, followed}
use Rattle.pi_constraints.specs.Store.{StoreView, Stays}
use Rattle.pi_constraints.specs.Unify.{unified}
use Rattle.pi_unify.specs.Answers.{Answers}
use Rattle.pi_effects.specs.Effect.{Effect, Succeeds, Fails, Writes, Raises, succeeds_in}
use Rattle.pi_effects.specs.Exception.{thrown}
use Rattle.pi_effects.specs.Answer.{Answer, integers_then}
use Rattle.pi_effects.specs.Rows.{done_by}
use Rattle.pi_effects.specs.Items.{each_tree}
use Rattle.pi_effects.specs.Format.{formatted}
use Rattle.pi_effects.specs.Comparing.{comparing_tests, value_order}
use Rattle.pi_effects.specs.Kinds.{kind_tests, holds_no_variable}
use Rattle.pi_effects.specs.Texts.{writing_predicates, text_before, line_feed, plain, quoted}
use Rattle.pi_effects.specs.BuiltIns.{tests, other_predicates, built_in_predicate, test_in, writing_in}
use Rattle.pi_lib_builtin.specs.Relations.{holds}
use Rattle.pi_lib_builtin.specs.declared.relations.Relation.{Relation}
use Rattle.pi_lib_builtin.specs.Kinds.{passes}
use Rattle.pi_lib_builtin.specs.Ordered.{is_ordered}
use Rattle.pi_lib_builtin.specs.declared.kinds.TermKind.{TermKind}
use Rattle.pi_lib_builtin.specs.declared.ordering.TermRelation.{TermRelation}
use Rattle.pi_effects.specs.Results.{ShowsSame}
use Rattle.pi_effects.specs.declared.fault.Stop.{Stop}
use Rattle.pi_lib_builtin.specs.Names.{none_name, test_name, pair_name}
use Rattle.pi_lib_builtin.specs.declared.predicates.PredicateOfNone.{PredicateOfNone}
use Rattle.pi_lib_builtin.specs.declared.predicates.PredicateOfOne.{PredicateOfOne}
use Rattle.pi_lib_builtin.specs.declared.predicates.PredicateOfTwo.{PredicateOfTwo}
use Rattle.pi_lib.specs.Outcomes.{ShowsOutcome, tested, written}
use Rattle.pi_lib.specs.declared.predicates.Outcome.{Outcome}

-- ---- by variant

abbrev pub none_done : PredicateOfNone → State → Effect
none_done PredicateOfNone.True s = Succeeds s
none_done PredicateOfNone.Fail s = Fails
none_done PredicateOfNone.LineFeed s = Writes line_feed s

abbrev pub one_done : PredicateOfOne → State → Tree → Effect
one_done (PredicateOfOne.Kind kind) s t = test_in s (Ok (passes kind (followed (bindings s) t)))
one_done PredicateOfOne.Ground s t = test_in s (Ok (holds_no_variable (bindings s) t))
one_done PredicateOfOne.Throw s t = Raises (thrown t s)
one_done PredicateOfOne.Print s t = writing_in s (text_before plain [] s t)
one_done PredicateOfOne.PrintLine s t = writing_in s (text_before plain line_feed s t)
one_done PredicateOfOne.Write s t = writing_in s (text_before quoted [] s t)
one_done PredicateOfOne.WriteLine s t = writing_in s (text_before quoted line_feed s t)

abbrev pub two_done : PredicateOfTwo → State → Tree → Tree → Effect
two_done PredicateOfTwo.Unify s t u = succeeds_in (unified s t u)
two_done PredicateOfTwo.Differ s t u = test_in s (Ok (is_none (unified s t u)))
two_done (PredicateOfTwo.Integers relation) s t u = test_in s (integers_then s t u (λ m n. Ok (holds relation m n)))
two_done (PredicateOfTwo.Terms relation) s t u = test_in s (Ok (is_ordered relation (value_order s t u)))

-- ---- by name

none-by_name : (p : PredicateOfNone) (s : State) → built_in_predicate (none_name p) no_trees s ≡ Some (none_done p s)
unfolding built_in_predicate done_by tests comparing_tests kind_tests writing_predicates other_predicates
none-by_name PredicateOfNone.True s = refl
none-by_name PredicateOfNone.Fail s = refl
none-by_name PredicateOfNone.LineFeed s = refl

one-by_name : (p : PredicateOfOne) (t : Tree) (s : State) → built_in_predicate (test_name p) (tree t no_trees) s ≡ Some (one_done p s t)
unfolding built_in_predicate done_by tests comparing_tests kind_tests writing_predicates other_predicates
one-by_name (PredicateOfOne.Kind TermKind.Variable) t s = refl
one-by_name (PredicateOfOne.Kind TermKind.NoVariable) t s = refl
one-by_name (PredicateOfOne.Kind TermKind.Integer) t s = refl
one-by_name (PredicateOfOne.Kind TermKind.Atom) t s = refl
one-by_name (PredicateOfOne.Kind TermKind.Atomic) t s = refl
one-by_name (PredicateOfOne.Kind TermKind.Compound) t s = refl
one-by_name (PredicateOfOne.Kind TermKind.List) t s = refl
one-by_name (PredicateOfOne.Kind TermKind.Array) t s = refl
one-by_name (PredicateOfOne.Kind TermKind.Structure) t s = refl
one-by_name PredicateOfOne.Ground t s = refl
one-by_name PredicateOfOne.Throw t s = refl
one-by_name PredicateOfOne.Print t s = refl
one-by_name PredicateOfOne.PrintLine t s = refl
one-by_name PredicateOfOne.Write t s = refl
one-by_name PredicateOfOne.WriteLine t s = refl

two-by_name : (p : PredicateOfTwo) (t u : Tree) (s : State) → built_in_predicate (pair_name p) (tree t (tree u no_trees)) s ≡ Some (two_done p s t u)
unfolding built_in_predicate done_by tests comparing_tests kind_tests writing_predicates other_predicates
two-by_name PredicateOfTwo.Unify t u s = refl
two-by_name PredicateOfTwo.Differ t u s = refl
two-by_name (PredicateOfTwo.Integers Relation.Less) t u s = refl
two-by_name (PredicateOfTwo.Integers Relation.AtMost) t u s = refl
two-by_name (PredicateOfTwo.Integers Relation.Greater) t u s = refl
two-by_name (PredicateOfTwo.Integers Relation.AtLeast) t u s = refl
two-by_name (PredicateOfTwo.Integers Relation.Equal) t u s = refl
two-by_name (PredicateOfTwo.Integers Relation.Unequal) t u s = refl
two-by_name (PredicateOfTwo.Terms TermRelation.Same) t u s = refl
two-by_name (PredicateOfTwo.Terms TermRelation.Different) t u s = refl
two-by_name (PredicateOfTwo.Terms TermRelation.Before) t u s = refl
two-by_name (PredicateOfTwo.Terms TermRelation.NotAfter) t u s = refl
two-by_name (PredicateOfTwo.Terms TermRelation.After) t u s = refl
two-by_name (PredicateOfTwo.Terms TermRelation.NotBefore) t u s = refl

same-done : (o : Option Effect) (d e : Effect) → o ≡ Some d → o ≡ Some e → d ≡ e
same-done o d e h g = cc

-- ---- what comes of tests and texts

pub test-shown : {M : Type 0} (v w : StoreView M) (result : Result Bool Stop) (told : Result Outcome Stop) (a : Answer Bool) → told ≡ tested result → Stays v w → ShowsSame v result a → ShowsOutcome v w told (test_in v.now.state a)
test-shown v w result told a e stays shows = subst (λ r. ShowsOutcome v w r (test_in v.now.state a)) (sym e) (by_result result shows)
  where
    by_result : (r : Result Bool Stop) → ShowsSame v r a → ShowsOutcome v w (tested r) (test_in v.now.state a)
    by_result (Ok true) h = ap (test_in v.now.state) h ∙ ap Succeeds (sym stays.state)
    by_result (Ok false) h = ap (test_in v.now.state) h
    by_result (Err (Stop.Raised fault)) h = (h.0, ap (test_in v.now.state) h.1, h.2, stays)
    by_result (Err Stop.Memory) h = h

pub text-shown : {M : Type 0} (v : StoreView M) (result : Result (List ℕ) Stop) (told : Result Outcome Stop) (a : Answer (List ℕ)) → told ≡ written result → Stays v v → ShowsSame v result a → ShowsOutcome v v told (writing_in v.now.state a)
text-shown v result told a e stays shows = subst (λ r. ShowsOutcome v v r (writing_in v.now.state a)) (sym e) (by_result result shows)
  where
    by_result : (r : Result (List ℕ) Stop) → ShowsSame v r a → ShowsOutcome v v (written r) (writing_in v.now.state a)
    by_result (Ok text) h = ap (writing_in v.now.state) h
    by_result (Err (Stop.Raised fault)) h = (h.0, ap (writing_in v.now.state) h.1, h.2, stays)
    by_result (Err Stop.Memory) h = h

-- ---- what a body shows is what the name does

pub none-shown : {M : Type 0} (v w : StoreView M) (result : Result Outcome Stop) (p q : PredicateOfNone) (e : Effect) → p ≡ q → ShowsOutcome v w result (none_done q v.now.state)
    → built_in_predicate (none_name p) no_trees v.now.state ≡ Some e → ShowsOutcome v w result e
none-shown v w result p q e same shows done =
    subst (ShowsOutcome v w result) (same-done (built_in_predicate (none_name q) no_trees v.now.state) (none_done q v.now.state) e (none-by_name q v.now.state) (subst (λ r. built_in_predicate (none_name r) no_trees v.now.state ≡ Some e) same done)) shows

pub one-shown : {M : Type 0} (v w : StoreView M) (result : Result Outcome Stop) (p q : PredicateOfOne) (t : Tree) (e : Effect) → p ≡ q → ShowsOutcome v w result (one_done q v.now.state t)
    → built_in_predicate (test_name p) (tree t no_trees) v.now.state ≡ Some e → ShowsOutcome v w result e
one-shown v w result p q t e same shows done =
    subst (ShowsOutcome v w result) (same-done (built_in_predicate (test_name q) (tree t no_trees) v.now.state) (one_done q v.now.state t) e (one-by_name q t v.now.state) (subst (λ r. built_in_predicate (test_name r) (tree t no_trees) v.now.state ≡ Some e) same done)) shows

pub two-shown : {M : Type 0} (v w : StoreView M) (result : Result Outcome Stop) (p q : PredicateOfTwo) (t u : Tree) (e : Effect) → p ≡ q → ShowsOutcome v w result (two_done q v.now.state t u)
    → built_in_predicate (pair_name p) (tree t (tree u no_trees)) v.now.state ≡ Some e → ShowsOutcome v w result e
two-shown v w result p q t u e same shows done =
    subst (ShowsOutcome v w result) (same-done (built_in_predicate (pair_name q) (tree t (tree u no_trees)) v.now.state) (two_done q v.now.state t u) e (two-by_name q t u v.now.state) (subst (λ r. built_in_predicate (pair_name r) (tree t (tree u no_trees)) v.now.state ≡ Some e) same done)) shows

-- unification
pub unify-shown : {M : Type 0} (v w : StoreView M) (result : Result Bool Stop) (told : Result Outcome Stop) (o : Option State) → told ≡ tested result → (IfOk result (λ one. Answers o one w.now.state)) → IfErr result (λ stop. stop ≡ Stop.Memory) → ShowsOutcome v w told (succeeds_in o)
unify-shown v w result told o e ok err = subst (λ r. ShowsOutcome v w r (succeeds_in o)) (sym e) (by_result result o ok err)
  where
    by_result : (r : Result Bool Stop) (q : Option State) → IfOk r (λ one. Answers q one w.now.state) → IfErr r (λ stop. stop ≡ Stop.Memory) → ShowsOutcome v w (tested r) (succeeds_in q)
    by_result (Ok true) None h g = absurd cc
    by_result (Ok true) (Some s) h g = ap Succeeds (sym h.1)
    by_result (Ok false) None h g = refl
    by_result (Ok false) (Some s) h g = absurd cc
    by_result (Err stop) q h g = subst (λ x. ShowsOutcome v w (Err x) (succeeds_in q)) (sym g) tt

-- `printf` is its format filled in
printf-fits : (q : Bool) (s : State) (a : Answer (List ℕ)) (e : Effect) → option_or (option_map (writing_in s) (option_or (cond q (Some a) None) None)) None ≡ Some e → writing_in s a ≡ e
printf-fits true s a e h = cc
printf-fits false s a e h = absurd cc

printf-done : (t : Tree) (us : Trees) (s : State) (e : Effect) → built_in_predicate (codes "printf") (tree t us) s ≡ Some e → writing_in s (formatted s t (each_tree us)) ≡ e
unfolding built_in_predicate done_by tests comparing_tests kind_tests writing_predicates other_predicates
printf-done t us s e h = printf-fits (nat_lt (tree_count us) 16) s (formatted s t (each_tree us)) e h

pub printf-shown : {M : Type 0} (v : StoreView M) (result : Result Outcome Stop) (t : Tree) (us : Trees) (e : Effect) → ShowsOutcome v v result (writing_in v.now.state (formatted v.now.state t (each_tree us))) → built_in_predicate (codes "printf") (tree t us) v.now.state ≡ Some e → ShowsOutcome v v result e
printf-shown v result t us e shows done = subst (ShowsOutcome v v result) (printf-done t us v.now.state e done) shows
