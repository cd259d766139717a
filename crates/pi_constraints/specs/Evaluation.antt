-- What a term of a clause or a goal comes to. Its variables are slots. Terms are read from the left, and a slot that is
-- empty gets a new variable at its first occurrence (own; A User's Guide to Picat, 'Variables', has variables that are
-- new where they first occur). Heads are matched, but for those of facts, which use `slot_term` for their slots.
use Rattle.std.specs.Prelude.{ℕ, zero, suc, Option, Some, None, slice_set}
use Rattle.pi_terms.specs.Tree.{Tree, var, int, atom, comp, Trees, no_trees, tree}
use Rattle.pi_terms.specs.Places.{Places, held}
use Rattle.pi_constraints.specs.State.{State, next, with_new}

-- a term, and slots and state after it
pub record Evaluated : Type 0 where
  pub tree : Tree
  pub slots : Places
  pub state : State

pub record EvaluatedAll : Type 0 where
  pub trees : Trees
  pub slots : Places
  pub state : State

-- a slot is what it holds, or a new variable
abbrev pub slot_term : Option Tree → ℕ → Places → State → Evaluated
slot_term (Some t) k e s = record { tree = t; slots = e; state = s }
slot_term None k e s = record { tree = var (next s); slots = slice_set e k (Some (var (next s))); state = with_new s }

unfoldable mutual
  pub evaluated : Tree → Places → State → Evaluated
  evaluated (var k) e s = slot_term (held e k) k e s
  evaluated (int n) e s = record { tree = int n; slots = e; state = s }
  evaluated (atom name) e s = record { tree = atom name; slots = e; state = s }
  evaluated (comp name ts) e s =
      let all : EvaluatedAll = evaluated_all ts e s in
      record { tree = comp name all.trees; slots = all.slots; state = all.state }

  pub evaluated_all : Trees → Places → State → EvaluatedAll
  evaluated_all no_trees e s = record { trees = no_trees; slots = e; state = s }
  evaluated_all (tree t ts) e s =
      let first : Evaluated = evaluated t e s in
      let rest : EvaluatedAll = evaluated_all ts first.slots first.state in
      record { trees = tree first.tree rest.trees; slots = rest.slots; state = rest.state }

-- so many new variables
unfoldable pub with_new_variables : ℕ → State → State
with_new_variables zero s = s
with_new_variables (suc k) s = with_new_variables k (with_new s)
