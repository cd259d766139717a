-- Environments: what the names of a clause or a goal stand for while it is run (A User's Guide to Picat, 'Variables'), and what
-- expressions come to in one. A name that the environment lacks gets a new variable when its first occurrence is evaluated,
-- from the left. Each `_` is a name of its own (own: it has an entry too, which is never looked up).
use Rattle.std.specs.Prelude.{ℕ, cond, List, [], ◌∷◌, ◌++◌, Option, Some, None, codes}
use Rattle.std.specs.Str.{bytes_eq}
use Rattle.pi_terms.specs.Tree.{Tree, Trees}
use Rattle.pi_terms.specs.Order.{identical}
use Rattle.pi_constraints.specs.Value.{Bindings, value}
use Rattle.pi_constraints.specs.State.{State, next, with_new}
use Rattle.pi_syntax.specs.ExpTree.{ExpTree}

-- a name with what it stands for
pub record Meant : Type 0 where
  pub name : List ℕ
  pub tree : Tree

-- names in the order of their first occurrences
abbrev pub Environment : Type 0
Environment = List Meant

-- what a name stands for
unfoldable pub meant : List ℕ → Environment → Option Tree
meant name [] = None
meant name (m ∷ e) = cond (bytes_eq name m.name) (Some m.tree) (meant name e)

-- what an occurrence of a name stands for; None for one that is new, as each `_`
abbrev pub known : List ℕ → Environment → Option Tree
known name e = cond (bytes_eq name (codes "_")) None (meant name e)

-- one more name
abbrev pub with_name : Environment → List ℕ → Tree → Environment
with_name e name t = e ++ record { name = name; tree = t } ∷ []

-- ---- evaluation

-- a term, and environment and state after it
pub record Valued : Type 0 where
  pub tree : Tree
  pub names : Environment
  pub state : State

pub record ValuedAll : Type 0 where
  pub trees : Trees
  pub names : Environment
  pub state : State

-- a name is what it stands for, or a new variable
abbrev pub name_valued : Option Tree → List ℕ → Environment → State → Valued
name_valued (Some t) name e s = record { tree = t; names = e; state = s }
name_valued None name e s = record { tree = Tree.var (next s); names = with_name e name (Tree.var (next s)); state = with_new s }

-- what a term comes to; other expressions are no terms so far, and of them this says nothing
abbrev pub valued : ExpTree → Environment → State → Valued
valued (ExpTree.var name) e s = name_valued (known name e) name e s
valued (ExpTree.int n) e s = record { tree = Tree.int n; names = e; state = s }
valued (ExpTree.atom name) e s = record { tree = Tree.atom name; names = e; state = s }
valued x e s = record { tree = Tree.atom []; names = e; state = s }

-- ---- matching

-- A new name stands for the term as it is, with bound variables in it; one that is there takes a term of the same value.
abbrev pub name_matched : Bindings → Option Tree → List ℕ → Tree → Environment → Option Environment
name_matched b (Some u) name t e = cond (identical (value b u) (value b t)) (Some e) None
name_matched b None name t e = Some (with_name e name t)
