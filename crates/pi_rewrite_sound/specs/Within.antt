-- Which programs are lowered: those of forms that are lowered, where no name is with one number of arguments both a predicate's and a function's. That lowering keeps their meaning wants
-- the forms alone (`HasForms`); that what they are lowered to is sound wants both. (Own.)
use Rattle.std.specs.Prelude.{◌≡◌, ◌++◌, Contains}
use Rattle.pi_syntax.specs.ProgramTree.{ProgramTree}
use Rattle.pi_meaning.specs.OverNames.Prelude.{prelude}
use Rattle.pi_rewrite_laws.specs.Within.{Key, keys, HasForms}

-- no name is with one number of arguments both a predicate's and a function's
abbrev pub AreApart : ProgramTree → Type 0
AreApart program = (a b : Key) → Contains (keys (prelude ++ program)) a → Contains (keys (prelude ++ program)) b → a.named ≡ b.named → a.kind ≡ b.kind

pub record IsWithin (program : ProgramTree) : Type 0 where
  pub forms : HasForms program
  pub apart : AreApart program
