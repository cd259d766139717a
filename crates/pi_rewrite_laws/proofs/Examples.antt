-- What goals are lowered to, worked out.
use Rattle.std.proofs.Common.{◌≡◌, ℕ, List, [], ◌∷◌, refl}
use Rattle.pi_meaning.specs.OverNames.Texts.{Names}
use Rattle.std.specs.Prelude.{pos, codes}
use Rattle.pi_terms.specs.Tree.{Tree, no_trees, tree}
use Rattle.pi_syntax.specs.ExpTree.{ExpTree, var, int, list, call, index, range, ExpTrees, no_exps, exp}
use Rattle.pi_syntax.specs.Signature.{exp_count}
use Rattle.pi_core.specs.GoalTree.{GoalTree, goals_of}
use Rattle.pi_meaning.specs.OverNames.Forms.{form_of, readings, operand_readings}
use Rattle.pi_meaning.specs.OverNames.Terms.{items_onto}
use Rattle.pi_terms.specs.ListCopies.{list_cell}
use Rattle.pi_rewrite_spec.specs.Slots.{slot_of}
use Rattle.pi_rewrite_spec.specs.Values.{is_flat_as, slot_term, is_below, evaluating}
use Rattle.pi_rewrite_spec.specs.Goals.{goals_at, value_at, indexed_by}
use Rattle.pi_rewrite_spec.specs.Sites.{Site, helpers_in, following_sites}
use Rattle.pi_rewrite_spec.specs.Written.{goal_of}

abbrev two : ExpTree → ExpTree → ExpTrees
two a b = exp a (exp b no_exps)

abbrev n : ExpTree
n = var (codes "N")

abbrev x : ExpTree
x = var (codes "X")

-- where a head has filled so many slots, with these names before
abbrev at_site : ℕ → Names → Site
at_site filled before = record { filled = filled; before = before; helpers = 0; called = λ n. [] }

-- `X = N-1` where a head has filled N: X is new, and stands before a call
pub difference : (goal_of (at_site 1 (codes "N" ∷ [])) (call (codes "=") (two x (call (codes "-") (two n (int (pos 1)))))) (codes "N" ∷ [])).goals
    ≡ GoalTree.call (codes "=") (Tree.var 1 ∷ Tree.var 1 ∷ []) ∷ GoalTree.apply (codes "-") (Tree.var 0 ∷ Tree.int (pos 1) ∷ []) 2 ∷ GoalTree.call (codes "=") (Tree.var 1 ∷ Tree.var 2 ∷ []) ∷ []
unfolding goal_of is_flat_as is_below slot_term slot_of form_of exp_count helpers_in following_sites readings
difference = refl

-- `p(N,f(N))` where no head has filled N: it is evaluated first
pub argument : (goal_of (at_site 0 (codes "N" ∷ [])) (call (codes "p") (two n (call (codes "f") (exp n no_exps)))) (codes "N" ∷ [])).goals
    ≡ evaluating (Tree.var 0) ∷ GoalTree.apply (codes "f") (Tree.var 0 ∷ []) 1 ∷ GoalTree.call (codes "p") (Tree.var 0 ∷ Tree.var 1 ∷ []) ∷ []
unfolding goal_of is_flat_as is_below slot_term slot_of form_of exp_count helpers_in following_sites readings
argument = refl

-- `Y = find_all([X],p(X))`: the list is put into a slot behind the goal, and then collected
pub found : (goal_of (at_site 0 []) (call (codes "=") (two (var (codes "Y")) (call (codes "find_all") (two (list (exp x no_exps)) (call (codes "p") (exp x no_exps)))))) []).goals
    ≡ GoalTree.call (codes "=") (Tree.var 0 ∷ Tree.var 0 ∷ [])
    ∷ GoalTree.collect (GoalTree.seq (goals_of (GoalTree.call (codes "p") (Tree.var 1 ∷ []) ∷ GoalTree.apply (codes "once") (list_cell (Tree.var 1) (Tree.atom (codes "[]")) ∷ []) 2 ∷ []))) 2 3
    ∷ GoalTree.call (codes "=") (Tree.var 0 ∷ Tree.var 3 ∷ []) ∷ []
unfolding goal_of is_flat_as is_below slot_term slot_of form_of exp_count helpers_in following_sites readings items_onto goals_at value_at
found = refl

-- ---- constraints, where a head has filled all names

abbrev pair : List ℕ → Tree → Tree → Tree
pair name t u = Tree.comp name (tree t (tree u no_trees))

-- `Q[I]+1 #= abs(X)`: the item is taken first, and the rest stays as structure
pub operands : (goal_of (at_site 3 (codes "Q" ∷ codes "I" ∷ codes "X" ∷ []))
    (call (codes "#=") (two (call (codes "+") (two (index (var (codes "Q")) (exp (var (codes "I")) no_exps)) (int (pos 1)))) (call (codes "abs") (exp x no_exps)))) (codes "Q" ∷ codes "I" ∷ codes "X" ∷ [])).goals
    ≡ GoalTree.apply (codes "in") (Tree.var 0 ∷ Tree.var 1 ∷ []) 3
    ∷ GoalTree.call (codes "#=") (pair (codes "+") (Tree.var 3) (Tree.int (pos 1)) ∷ Tree.comp (codes "abs") (tree (Tree.var 2) no_trees) ∷ []) ∷ []
unfolding goal_of is_flat_as is_below slot_term slot_of form_of exp_count helpers_in following_sites readings operand_readings indexed_by
operands = refl

-- `X :: 1..N-1`: the range stays as one, of bounds that are evaluated
pub domain : (goal_of (at_site 2 (codes "X" ∷ codes "N" ∷ [])) (call (codes "::") (two x (range (int (pos 1)) (call (codes "-") (two n (int (pos 1))))))) (codes "X" ∷ codes "N" ∷ [])).goals
    ≡ GoalTree.apply (codes "-") (Tree.var 1 ∷ Tree.int (pos 1) ∷ []) 2 ∷ GoalTree.call (codes "::") (Tree.var 0 ∷ pair (codes "..") (Tree.int (pos 1)) (Tree.var 2) ∷ []) ∷ []
unfolding goal_of is_flat_as is_below slot_term slot_of form_of exp_count helpers_in following_sites readings operand_readings
domain = refl

-- `N #<=> X #> f(X)`: the relation stays, with operands of its own
pub truth : (goal_of (at_site 2 (codes "X" ∷ codes "N" ∷ [])) (call (codes "#<=>") (two n (call (codes "#>") (two x (call (codes "f") (exp x no_exps)))))) (codes "X" ∷ codes "N" ∷ [])).goals
    ≡ GoalTree.apply (codes "f") (Tree.var 0 ∷ []) 2 ∷ GoalTree.call (codes "#<=>") (Tree.var 1 ∷ pair (codes "#>") (Tree.var 0) (Tree.var 2) ∷ []) ∷ []
unfolding goal_of is_flat_as is_below slot_term slot_of form_of exp_count helpers_in following_sites readings operand_readings
truth = refl
