-- The weight of a configuration falls at each step that counts no Tick.
use Rattle.std.proofs.Common.{◌≡◌, ℕ, zero, suc, ◌+◌, ◌≤◌, List, [], ◌∷◌, ◌++◌, refl, ap, ◌∙◌, arith}
use Rattle.std.specs.Prelude.{Bool, true, false}
use Rattle.pi_terms.specs.Tree.{Tree}
use Rattle.pi_core.specs.GoalTree.{GoalTree, GoalTrees, no_goals, goal}
use Rattle.pi_core.specs.CoreTree.{ClauseTree}
use Rattle.pi_meaning.specs.Machine.Configuration.{Frame, Back, Strict, Entry, choice, strict, catch_level, left, behind, after_body}
use Rattle.pi_meaning.specs.Machine.Weight.{CallWeights, goal_weight, goals_weight, going_weight, frames_weight, body_behind, strict_answer_weight, answer_weight, choice_weight, strict_weight, stack_weight}
use Rattle.pi_meaning.proofs.Machine.StackLemmas.{IsClosed}

-- ---- goals and frames

pub behind-weight : (calls : CallWeights) (gs : GoalTrees) (k : List Frame) (a : ℕ) → frames_weight calls (behind gs k) a ≡ goals_weight calls gs (frames_weight calls k a)
unfolding frames_weight goals_weight
behind-weight calls no_goals k a = refl
behind-weight calls (goal g gs) k a = refl

pub going-below : (calls : CallWeights) (gs : GoalTrees) (r : ℕ) → going_weight calls gs r ≤ goals_weight calls gs r
unfolding goals_weight
going-below calls no_goals r = omega arith
going-below calls (goal g gs) r = omega arith

pub after-weight : (calls : CallWeights) (function : Bool) (c : ClauseTree) (k : List Frame) (a : ℕ) → frames_weight calls (after_body function c k) a ≡ body_behind function (frames_weight calls k a) a
unfolding frames_weight
after-weight calls true c k a = refl
after-weight calls false c k a = refl

-- ---- stacks

-- what is above closed entries
pub closed-answer : (calls : CallWeights) (n : ℕ) (above rest : List Entry) → IsClosed n above → answer_weight calls n (above ++ rest) ≡ answer_weight calls 0 rest
unfolding IsClosed answer_weight
closed-answer calls zero [] rest h = refl
closed-answer calls (suc n) [] rest h = absurd h
closed-answer calls n (choice c b ∷ es) rest h = closed-answer calls n es rest h
closed-answer calls n (strict level b ∷ es) rest h = absurd h
closed-answer calls zero (catch_level ball handler b ∷ es) rest h = absurd h
closed-answer calls (suc n) (catch_level ball handler b ∷ es) rest h = closed-answer calls n es rest h
closed-answer calls n (left ∷ es) rest h = closed-answer calls (suc n) es rest h

pub left-answer : (calls : CallWeights) (n : ℕ) (above : List Entry) → IsClosed n above → (ball : Tree) (handler : GoalTree) (b : Back) (below : List Entry) →
    answer_weight calls (suc n) (above ++ catch_level ball handler b ∷ below) ≡ answer_weight calls 0 below
unfolding IsClosed answer_weight
left-answer calls zero [] h ball handler b below = refl
left-answer calls (suc n) [] h ball handler b below = absurd h
left-answer calls n (choice c k ∷ es) h ball handler b below = left-answer calls n es h ball handler b below
left-answer calls n (strict level k ∷ es) h ball handler b below = absurd h
left-answer calls zero (catch_level t w k ∷ es) h ball handler b below = absurd h
left-answer calls (suc n) (catch_level t w k ∷ es) h ball handler b below = left-answer calls n es h ball handler b below
left-answer calls n (left ∷ es) h ball handler b below = left-answer calls (suc n) es h ball handler b below

-- entries below weigh no more than all
pub below-weight : (calls : CallWeights) (above rest : List Entry) → stack_weight calls rest ≤ stack_weight calls (above ++ rest)
unfolding stack_weight
below-weight calls [] rest = omega arith
below-weight calls (choice c b ∷ es) rest =
    let h : stack_weight calls rest ≤ stack_weight calls (es ++ rest) = below-weight calls es rest in omega arith
below-weight calls (strict level b ∷ es) rest =
    let h : stack_weight calls rest ≤ stack_weight calls (es ++ rest) = below-weight calls es rest in omega arith
below-weight calls (catch_level ball handler b ∷ es) rest =
    let h : stack_weight calls rest ≤ stack_weight calls (es ++ rest) = below-weight calls es rest in omega arith
below-weight calls (left ∷ es) rest =
    let h : stack_weight calls rest ≤ stack_weight calls (es ++ rest) = below-weight calls es rest in omega arith

-- stacks that weigh the same below weigh the same
abbrev pub SameWeight : CallWeights → List Entry → List Entry → Type 0
SameWeight calls es fs = ((n : ℕ) → answer_weight calls n es ≡ answer_weight calls n fs) × (stack_weight calls es ≡ stack_weight calls fs)

same-answer-strict : (calls : CallWeights) (level : Strict) (b : Back) (es fs : List Entry) → ((n : ℕ) → answer_weight calls n es ≡ answer_weight calls n fs) → (n : ℕ) →
    answer_weight calls n (strict level b ∷ es) ≡ answer_weight calls n (strict level b ∷ fs)
unfolding answer_weight
same-answer-strict calls level b es fs h zero = ap (λ a. strict_answer_weight calls level (frames_weight calls b.frames a) a) (h 0)
same-answer-strict calls level b es fs h (suc n) = h (suc n)

same-answer-catch : (calls : CallWeights) (ball : Tree) (handler : GoalTree) (b : Back) (es fs : List Entry) → ((n : ℕ) → answer_weight calls n es ≡ answer_weight calls n fs) → (n : ℕ) →
    answer_weight calls n (catch_level ball handler b ∷ es) ≡ answer_weight calls n (catch_level ball handler b ∷ fs)
unfolding answer_weight
same-answer-catch calls ball handler b es fs h zero = ap (λ a. suc (suc (frames_weight calls b.frames a))) (h 0)
same-answer-catch calls ball handler b es fs h (suc n) = h n

pub same-weight : (calls : CallWeights) (above es fs : List Entry) → SameWeight calls es fs → SameWeight calls (above ++ es) (above ++ fs)
unfolding answer_weight stack_weight
same-weight calls [] es fs h = h
same-weight calls (choice c b ∷ above) es fs h =
    let r : SameWeight calls (above ++ es) (above ++ fs) = same-weight calls above es fs h in (
      r.0,
      ap (λ a. choice_weight calls c (frames_weight calls b.frames a) a + stack_weight calls (above ++ es)) (r.0 0)
          ∙ ap (λ w. choice_weight calls c (frames_weight calls b.frames (answer_weight calls 0 (above ++ fs))) (answer_weight calls 0 (above ++ fs)) + w) r.1,
    )
same-weight calls (strict level b ∷ above) es fs h =
    let r : SameWeight calls (above ++ es) (above ++ fs) = same-weight calls above es fs h in (
      same-answer-strict calls level b (above ++ es) (above ++ fs) r.0,
      ap (λ a. strict_weight calls level (frames_weight calls b.frames a) a + stack_weight calls (above ++ es)) (r.0 0)
          ∙ ap (λ w. strict_weight calls level (frames_weight calls b.frames (answer_weight calls 0 (above ++ fs))) (answer_weight calls 0 (above ++ fs)) + w) r.1,
    )
same-weight calls (catch_level ball handler b ∷ above) es fs h =
    let r : SameWeight calls (above ++ es) (above ++ fs) = same-weight calls above es fs h in (
      same-answer-catch calls ball handler b (above ++ es) (above ++ fs) r.0,
      ap (λ a. suc (goal_weight calls handler (frames_weight calls b.frames a)) + stack_weight calls (above ++ es)) (r.0 0)
          ∙ ap (λ w. suc (goal_weight calls handler (frames_weight calls b.frames (answer_weight calls 0 (above ++ fs)))) + w) r.1,
    )
same-weight calls (left ∷ above) es fs h =
    let r : SameWeight calls (above ++ es) (above ++ fs) = same-weight calls above es fs h in
    (λ n. r.0 (suc n), ap suc r.1)
