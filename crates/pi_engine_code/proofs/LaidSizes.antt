-- The sizes of the goals in a goal, from the last one on.
use Rattle.std.proofs.Common.{◌≡◌, ℕ, suc, ◌+◌, ◌≤◌, ◌<◌, List, [], ◌∷◌, ◌++◌, length, get_or, refl, sym, ◌∙◌, ap, arith, length-append, ◌⊎◌, inl, inr, set, length-set}
use Rattle.std.specs.Prelude.{slice_index_or}
use Rattle.std.proofs.Math.Seq.{get_or-append_seam}
use Rattle.std.proofs.lemmas.List.{get_or_append_left, get_or-set_other}
use Rattle.std.proofs.lemmas.Bool.{cases_lt}
use Rattle.std.proofs.lemmas.Grind.{get_or-set_at}
use Rattle.pi_core.specs.GoalTree.{GoalTree, GoalTrees, no_goals, goal, count_goals, take_goals, children, child, child_count, subgoal, nodes, nodes_all}
use Rattle.pi_core.proofs.GoalPlaces.{nodes-children, place_of, place_of-within, subgoal-place_of}
use Rattle.pi_engine_code.specs.Laid.{Sized}

-- ---- the numbers of child goals

-- the first so many are there
pub record Counted (g : GoalTree) (xs : List ℕ) (i : ℕ) : Type 0 where
  pub long : length xs ≡ i
  pub counts : (j : ℕ) → j < i → slice_index_or xs j 0 ≡ child_count (subgoal g j)

pub counted-none : (g : GoalTree) (xs : List ℕ) → xs ≡ [] → Counted g xs 0
counted-none g xs e = record { long = ap length e; counts = λ j h. absurd (omega arith) }

count-at : (g : GoalTree) (xs : List ℕ) (i n j : ℕ) → Counted g xs i → n ≡ child_count (subgoal g i) → (j < i) ⊎ (i ≡ j) → slice_index_or (xs ++ n ∷ []) j 0 ≡ child_count (subgoal g j)
count-at g xs i n j is e (inl h) = get_or_append_left xs (n ∷ []) 0 j (omega (arith, is.long)) ∙ is.counts j h
count-at g xs i n j is e (inr h) =
    ap (λ k. get_or (xs ++ n ∷ []) k 0) (sym h ∙ sym is.long) ∙ get_or-append_seam xs n [] 0 ∙ e ∙ ap (λ k. child_count (subgoal g k)) h

below-more : (j i : ℕ) → j < i + 1 → (j < i) ⊎ (i ≡ j)
below-more j i h = elim (cases_lt j i) [ inl a ↦ inl a | inr a ↦ inr (omega (arith, a, h)) ]

pub counted-more : (g : GoalTree) (xs ys : List ℕ) (i n : ℕ) → Counted g xs i → n ≡ child_count (subgoal g i) → ys ≡ xs ++ n ∷ [] → Counted g ys (i + 1)
counted-more g xs ys i n is e f =
    record {
      long = ap length f ∙ length-append xs (n ∷ []) ∙ ap (λ k. k + 1) is.long;
      counts = λ j h. ap (λ r. get_or r j 0) f ∙ count-at g xs i n j is e (below-more j i h);
    }

pub counted-all : (g : GoalTree) (xs : List ℕ) (i : ℕ) → Counted g xs i → i ≡ nodes g → Sized g xs (nodes g)
counted-all g xs i is e =
    record { long = is.long ∙ e; counts = λ j h lt. is.counts j (omega (arith, e, h)); sizes_are = λ j h lt. absurd (omega (arith, h, lt)) }

-- ---- the size of one

all-taken : (gs : GoalTrees) → take_goals (count_goals gs) gs ≡ gs
unfolding take_goals count_goals
all-taken no_goals = refl
all-taken (goal g gs) = ap (goal g) (all-taken gs)

-- behind the last child goal
pub place_of-end : (g : GoalTree) (i k : ℕ) → k ≡ child_count (subgoal g i) → place_of g i k ≡ i + nodes (subgoal g i)
place_of-end g i k e =
    ap (λ n. place_of g i n) e ∙ (let h : nodes_all (take_goals (child_count (subgoal g i)) (children (subgoal g i))) ≡ nodes_all (children (subgoal g i)) = ap nodes_all (all-taken (children (subgoal g i))) in
    let n : nodes (subgoal g i) ≡ suc (nodes_all (children (subgoal g i))) = nodes-children (subgoal g i) in omega (arith, h, n))

pub size-there : (g : GoalTree) (xs : List ℕ) (i k at : ℕ) → i < nodes g → Sized g xs (i + 1) → k < child_count (subgoal g i) → at ≡ place_of g i k → slice_index_or xs at 0 ≡ nodes (child (subgoal g i) k)
size-there g xs i k at lt is has e =
    ap (λ n. get_or xs n 0) e ∙ is.sizes_are (place_of g i k) (omega arith) (place_of-within g i k lt has) ∙ ap nodes (subgoal-place_of g i k lt has)

-- ---- one more size

size-set : (g : GoalTree) (xs : List ℕ) (i n j : ℕ) → i < nodes g → Sized g xs (i + 1) → n ≡ nodes (subgoal g i) → i ≤ j → j < nodes g → (i < j) ⊎ (j ≡ i) → slice_index_or (set xs i n) j 0 ≡ nodes (subgoal g j)
size-set g xs i n j lt is e le within (inl h) = get_or-set_other xs i j n 0 (λ same. absurd (omega (arith, same, h))) ∙ is.sizes_are j (omega (arith, h)) within
size-set g xs i n j lt is e le within (inr h) = get_or-set_at xs i j n 0 h (omega (arith, is.long, lt)) ∙ e ∙ ap (λ k. nodes (subgoal g k)) (sym h)

from-less : (i j : ℕ) → i ≤ j → (i < j) ⊎ (j ≡ i)
from-less i j h = elim (cases_lt i j) [ inl a ↦ inl a | inr a ↦ inr (omega (arith, a, h)) ]

pub sized-more : (g : GoalTree) (xs ys : List ℕ) (i n : ℕ) → i < nodes g → Sized g xs (i + 1) → n ≡ nodes (subgoal g i) → ys ≡ set xs i n → Sized g ys i
sized-more g xs ys i n lt is e f =
    record {
      long = ap length f ∙ length-set xs i n ∙ is.long;
      counts = λ j h within. ap (λ r. get_or r j 0) f ∙ get_or-set_other xs i j n 0 (λ same. absurd (omega (arith, same, h))) ∙ is.counts j (omega (arith, h)) within;
      sizes_are = λ j h within. ap (λ r. get_or r j 0) f ∙ size-set g xs i n j lt is e h within (from-less i j h);
    }
