-- What an expression says of the predicate or function that it is of, as a head or a call: a name with a number of arguments.
use Rattle.std.specs.Prelude.{ℕ, suc, List, Option, Some, None}
use Rattle.pi_syntax.specs.ExpTree.{ExpTree, atom, call, ExpTrees, no_exps, exp}

-- how many expressions they are
unfoldable pub exp_count : ExpTrees → ℕ
exp_count no_exps = 0
exp_count (exp e es) = suc (exp_count es)

-- a name, with so many arguments
pub record Signature : Type 0 where
  pub name : List ℕ
  pub arity : ℕ

-- the predicate that a head is of, or a goal calls; None for an expression that is neither an atom nor one with arguments
abbrev pub signature : ExpTree → Option Signature
signature (atom name) = Some (record { name = name; arity = 0 })
signature (call name es) = Some (record { name = name; arity = exp_count es })
signature e = None
