-- `call` weighs more than what it leads to.
use Rattle.std.proofs.Common.{◌≡◌, ℕ, suc, ◌+◌, ◌≤◌, Bool, true, false, cond, List, [], ◌∷◌, length, refl, ap, sym, ◌∙◌, arith}
use Rattle.std.specs.Prelude.{Option, Some, None}
use Rattle.pi_terms.specs.Tree.{Tree, Trees, no_trees, tree, trees_of, tree_count}
use Rattle.pi_terms.specs.Places.{Places}
use Rattle.pi_constraints.specs.State.{State, bindings, followed}
use Rattle.pi_constraints.specs.Evaluation.{evaluated_all}
use Rattle.pi_core.specs.GoalTree.{GoalTree, call}
use Rattle.pi_core.specs.CoreTree.{PredTree}
use Rattle.pi_effects.specs.Items.{each_tree}
use Rattle.pi_meaning.specs.Shared.Names.{is_planner, is_call}
use Rattle.pi_meaning.specs.Shared.Calls.{Called as Named, called_by}
use Rattle.pi_meaning.proofs.CoreMeaning.MeaningLemmas.{as-many, count-of}
use Rattle.pi_meaning.specs.Machine.NamedGoals.{slots_from, goal_by_name}
use Rattle.pi_meaning.proofs.Shared.NamesApart.{slots-count}
use Rattle.pi_meaning.proofs.Machine.NamedLemmas.{is_there, NamedBy, by_catch, by_call, by_name, named-by}
use Rattle.pi_meaning.specs.Machine.Configuration.{Frame, more, return, give, returning}
use Rattle.pi_meaning.specs.Machine.Step.{goal_called, unknown_by, named_now, term_now, first_now}
use Rattle.pi_meaning.specs.Machine.Weight.{CallWeights, search_room, call_weight, goal_weight, goals_weight, frames_weight, now_weight, program_calls}
use Rattle.pi_meaning.proofs.Machine.QuietWeights.{there-weighs}

-- a goal by any name
pub call-heavy : (called : Bool) (r : ℕ) → suc (suc (suc r)) + search_room ≤ call_weight called r
call-heavy true r = omega arith
call-heavy false r = omega arith

pub given-many : (args : List Tree) (e : Places) (s : State) → tree_count (evaluated_all (trees_of args) e s).trees ≡ length args
given-many args e s = as-many (trees_of args) e s ∙ count-of args

pub returning-weight : (calls : CallWeights) (e : Places) (k : List Frame) (a : ℕ) → frames_weight calls (returning e k) a ≤ suc (frames_weight calls k a)
unfolding frames_weight
returning-weight calls e [] a = omega arith
returning-weight calls e (more gs ∷ k) a = omega arith
returning-weight calls e (return f ∷ k) a = omega arith
returning-weight calls e (give t ∷ k) a = omega arith

-- a goal by a name that isn't `call`
name-light : (preds : List PredTree) (name : List ℕ) (args : List Tree) (k r : ℕ) → length args ≡ k → is_call name k ≡ false → is_there preds name k ≡ true → goal_weight (program_calls preds) (call name args) r ≤ suc (suc (suc r)) + search_room
unfolding goal_weight
name-light preds name args k r many other there =
    let same : call_weight (is_call name (length args)) r ≡ suc (suc (suc r)) + search_room = ap (λ n. call_weight (is_call name n) r) many ∙ ap (λ b. call_weight b r) other in
    let none : program_calls preds false name (length args) r ≡ 0 = ap (λ n. program_calls preds false name n r) many ∙ there-weighs preds (length preds) name k r there in
    rw (same, none) (omega arith)

-- a goal, whatever is behind it, weighs no more than a call of a built-in
abbrev IsLight : List PredTree → GoalTree → Type 0
IsLight preds g = (r : ℕ) → goal_weight (program_calls preds) g r ≤ suc (suc (suc r)) + search_room

named-light : (preds : List PredTree) (name : List ℕ) (k : ℕ) (g : GoalTree) → NamedBy preds name k g → IsLight preds g
unfolding goal_weight goals_weight
named-light preds name k _ (by_catch is) r = omega arith
named-light preds name k _ (by_call other is) r = omega arith
named-light preds name k _ (by_name other not there) r = name-light preds name (slots_from 0 k) k r (slots-count 0 k) not there

abbrev Light : List PredTree → Option GoalTree → Type 0
Light preds o = (g : GoalTree) → o ≡ Some g → IsLight preds g

called-light : (planner : Bool) (preds : List PredTree) (name : List ℕ) (k : ℕ) → is_planner name k ≡ planner → Light preds (goal_called preds name k)
called-light true preds name k is g found r = absurd (never (sym (ap (λ b. cond b None (goal_by_name preds name k)) is) ∙ found))
  where
    never : None ≡ Some g → ⊥
    never h = cc
called-light false preds name k is g found r =
    named-light preds name k g (named-by preds name k g (sym (ap (λ b. cond b None (goal_by_name preds name k)) is) ∙ found)) r

named-lighter : (preds : List PredTree) (o : Option GoalTree) → Light preds o → (ball : Tree) (ts : Trees) (s : State) (k : List Frame) (a : ℕ) →
    now_weight (program_calls preds) (named_now o ball ts s k) a ≤ suc (suc (suc (frames_weight (program_calls preds) k a))) + search_room
unfolding now_weight goals_weight
named-lighter preds None light ball ts s k a = omega arith
named-lighter preds (Some g) light ball ts s k a = light g refl (frames_weight (program_calls preds) k a)

term-lighter : (preds : List PredTree) (t : Tree) (s : State) (k : List Frame) (o : Option Named) (a : ℕ) →
    now_weight (program_calls preds) (term_now preds t s k o) a ≤ suc (suc (suc (frames_weight (program_calls preds) k a))) + search_room
unfolding now_weight
term-lighter preds t s k None a = omega arith
term-lighter preds t s k (Some c) a =
    named-lighter preds (goal_called preds c.name (tree_count c.args)) (called-light (is_planner c.name (tree_count c.args)) preds c.name (tree_count c.args) refl)
    (unknown_by preds c.name (tree_count c.args)) c.args s k a

pub first-lighter : (preds : List PredTree) (ts : Trees) (s : State) (k : List Frame) (a : ℕ) → now_weight (program_calls preds) (first_now preds ts s k) a ≤ suc (suc (suc (frames_weight (program_calls preds) k a))) + search_room
unfolding first_now now_weight
first-lighter preds no_trees s k a = omega arith
first-lighter preds (tree t ts) s k a = term-lighter preds t s k (called_by (followed (bindings s) t) (each_tree ts)) a
