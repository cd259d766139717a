-- The tables of built-ins together: which names they have, and what they do to a state.
use Rattle.std.proofs.Common.{◌≡◌, ℕ, Bool, true, false, cond, List, inl, inr, refl, ap, ◌∙◌}
use Rattle.std.specs.Prelude.{◌||◌, ◌*◌, nat_lt, Option, Some, None, Ok, Err, is_some, option_map}
use Rattle.std.specs.Option.{option_or}
use Rattle.pi_terms.specs.Tree.{Tree, tree_count, cells, most_cells}
use Rattle.pi_terms.specs.Copy.{copy, new_variables}
use Rattle.pi_constraints.specs.Value.{value}
use Rattle.pi_constraints.specs.State.{State, bindings, next, followed}
use Rattle.pi_constraints.specs.Unify.{unified}
use Rattle.pi_constraints.specs.Evaluation.{with_new_variables}
use Rattle.pi_effects.specs.Answer.{Answer}
use Rattle.pi_effects.specs.Effect.{FunctionEffect, Gives, Refuses, succeeds_in}
use Rattle.pi_effects.specs.Exception.{term_too_large, bad_index, range_too_long}
use Rattle.pi_effects.specs.Items.{list_of, array_of}
use Rattle.pi_effects.specs.Ranges.{most_items}
use Rattle.pi_effects.specs.Rows.{done_by, has_line}
use Rattle.pi_effects.specs.Making.{size_at, size_or_raised, so_many, new_from, new_rows, new_items, new_grid, copied, making_functions}
use Rattle.pi_effects.specs.Texts.{writing_predicates}
use Rattle.pi_effects.specs.BuiltIns.{reading_functions, answer_in, built_in_function, tests, test_in, writing_in, other_predicates, built_in_predicate, is_function, is_predicate, FunctionsAreListed, PredicatesAreListed, OnlyMakesVariables, FunctionsOnlyMakeVariables, OnlyUnifies, PredicatesOnlyUnify}
use Rattle.pi_effects.proofs.RowLemmas.{some-or, some-map, lines-fit, given-or, given-map, lines-give}

mapped-fit : {A B : Type 0} (f : A → B) (x : Option A) (c : Bool) → is_some x ≡ c → is_some (option_map f x) ≡ c
mapped-fit f x c h = some-map f x ∙ h

or-fit : {A : Type 0} (x y : Option A) (c d : Bool) → is_some x ≡ c → is_some y ≡ d → is_some (option_or x y) ≡ (c || d)
or-fit x y c d h k = some-or x y ∙ (ap (λ e. e || is_some y) h ∙ ap (λ e. c || e) k)

pub functions-listed : FunctionsAreListed
unfolding built_in_function is_function
functions-listed name ts s =
    or-fit (option_map (answer_in s) (done_by reading_functions name ts s)) (done_by making_functions name ts s) (has_line reading_functions name (tree_count ts))
    (has_line making_functions name (tree_count ts))
    (mapped-fit (answer_in s) (done_by reading_functions name ts s) (has_line reading_functions name (tree_count ts)) (lines-fit reading_functions name ts s))
    (lines-fit making_functions name ts s)

pub predicates-listed : PredicatesAreListed
unfolding built_in_predicate is_predicate
predicates-listed name ts s =
    or-fit (option_map (test_in s) (done_by tests name ts s))
    (option_or (option_map (writing_in s) (done_by writing_predicates name ts s)) (done_by other_predicates name ts s))
    (has_line tests name (tree_count ts)) (has_line writing_predicates name (tree_count ts) || has_line other_predicates name (tree_count ts))
    (mapped-fit (test_in s) (done_by tests name ts s) (has_line tests name (tree_count ts)) (lines-fit tests name ts s))
    (or-fit (option_map (writing_in s) (done_by writing_predicates name ts s)) (done_by other_predicates name ts s) (has_line writing_predicates name (tree_count ts))
    (has_line other_predicates name (tree_count ts))
    (mapped-fit (writing_in s) (done_by writing_predicates name ts s) (has_line writing_predicates name (tree_count ts)) (lines-fit writing_predicates name ts s))
    (lines-fit other_predicates name ts s))

-- ---- states

answer-makes : (s : State) (a : Answer Tree) → OnlyMakesVariables s (answer_in s a)
unfolding with_new_variables
answer-makes s (Ok t) = (0, refl)
answer-makes s (Err ball) = tt

size-makes : (s : State) (o : Option ℕ) (ball : Tree) (f : ℕ → FunctionEffect) → ((k : ℕ) → OnlyMakesVariables s (f k)) → OnlyMakesVariables s (size_or_raised o ball f)
size-makes s None ball f all = tt
size-makes s (Some k) ball f all = all k

many-makes : (s : State) (c : Bool) (ball : Tree) (e : FunctionEffect) → OnlyMakesVariables s e → OnlyMakesVariables s (cond c (Refuses ball) e)
many-makes s true ball e h = tt
many-makes s false ball e h = h

items-make : (make : List Tree → Tree) (s : State) (t : Tree) → OnlyMakesVariables s (new_items make s t)
items-make make s t =
    size-makes s (size_at (followed (bindings s) t)) (bad_index t s) (λ k. so_many k (Gives (make (new_from (next s) k)) (with_new_variables k s)))
    (λ k. many-makes s (nat_lt most_items k) range_too_long (Gives (make (new_from (next s) k)) (with_new_variables k s)) (k, refl))

grid-makes : (s : State) (t u : Tree) → OnlyMakesVariables s (new_grid s t u)
grid-makes s t u =
    size-makes s (size_at (followed (bindings s) t)) (bad_index t s) _
    (λ m. many-makes s (nat_lt most_items m) range_too_long _
    (size-makes s (size_at (followed (bindings s) u)) (bad_index u s) _
    (λ k. many-makes s (nat_lt most_items (m * k)) range_too_long (Gives (array_of (new_rows m k (next s))) (with_new_variables (m * k) s)) (m * k, refl))))

copy-makes : (s : State) (t : Tree) → OnlyMakesVariables s (copied s t)
copy-makes s t =
    many-makes s (nat_lt most_cells (cells t)) term_too_large (Gives (copy (next s) t) (with_new_variables (new_variables t) s)) (new_variables t, refl)

pub functions-make : FunctionsOnlyMakeVariables
unfolding built_in_function making_functions
functions-make name ts s e h =
    given-or (OnlyMakesVariables s) (option_map (answer_in s) (done_by reading_functions name ts s)) (done_by making_functions name ts s) e h
    (given-map (OnlyMakesVariables s) (answer_in s) (done_by reading_functions name ts s) e (answer-makes s))
    (lines-give (OnlyMakesVariables s) making_functions name ts s e
    (items-make list_of s, (items-make array_of s, (grid-makes s, ((λ t. copy-makes s (value (bindings s) t)), tt)))))

test-keeps : (s : State) (a : Answer Bool) → OnlyUnifies s (test_in s a)
test-keeps s (Ok true) = inl refl
test-keeps s (Ok false) = tt
test-keeps s (Err ball) = tt

writing-keeps : (s : State) (a : Answer (List ℕ)) → OnlyUnifies s (writing_in s a)
writing-keeps s (Ok text) = refl
writing-keeps s (Err ball) = tt

unified-keeps : (s : State) (t u : Tree) (o : Option State) → unified s t u ≡ o → OnlyUnifies s (succeeds_in o)
unified-keeps s t u None h = tt
unified-keeps s t u (Some r) h = inr (t, u, h)

pub predicates-unify : PredicatesOnlyUnify
unfolding built_in_predicate other_predicates
predicates-unify name ts s e h =
    given-or (OnlyUnifies s) (option_map (test_in s) (done_by tests name ts s))
    (option_or (option_map (writing_in s) (done_by writing_predicates name ts s)) (done_by other_predicates name ts s)) e h
    (given-map (OnlyUnifies s) (test_in s) (done_by tests name ts s) e (test-keeps s))
    (λ k. given-or (OnlyUnifies s) (option_map (writing_in s) (done_by writing_predicates name ts s)) (done_by other_predicates name ts s) e k
    (given-map (OnlyUnifies s) (writing_in s) (done_by writing_predicates name ts s) e (writing-keeps s))
    (lines-give (OnlyUnifies s) other_predicates name ts s e ((λ t u. unified-keeps s t u (unified s t u) refl), ((λ t. tt), tt))))
