-- A copy of a term has new variables in place of all its variables, numbered from a given number on by first occurrence
-- from the left (own).
use Rattle.std.specs.Prelude.{◌≡◌, ℕ, ◌+◌, ◌==◌, List, length}
use Rattle.std.specs.List.{position_or_len, range_with_len}
use Rattle.pi_terms.specs.Tree.{Tree, var, cells}
use Rattle.pi_terms.specs.Variables.{variables, IsGround, Occurs}
use Rattle.pi_terms.specs.Substitution.{instance}

-- the place of a number in a list, counted from 0
abbrev pub place_in : List ℕ → ℕ → ℕ
place_in ns n = position_or_len (λ m. m == n) ns

abbrev pub renamed : (ℕ → ℕ) → Tree → Tree
renamed r t = instance (λ n. var (r n)) t

unfoldable pub copy : ℕ → Tree → Tree
copy next t = renamed (λ n. next + place_in (variables t) n) t

-- how many variables a copy has, and so how many it makes
abbrev pub new_variables : Tree → ℕ
new_variables t = length (variables t)

-- u is t under a renaming that tells its variables apart, and has the numbers from `next` on in the order of their first
-- occurrences. Each place of one variable has the same new one, since a renaming goes by the variable alone.
pub record IsCopy (next : ℕ) (t u : Tree) : Type 0 where
  pub renaming : ℕ → ℕ
  pub renames : u ≡ renamed renaming t
  pub tells_apart : (m n : ℕ) → Occurs m t → Occurs n t → renaming m ≡ renaming n → m ≡ n
  pub in_order : variables u ≡ range_with_len next (new_variables t)

abbrev pub CopyRenames : Type 0
CopyRenames = (next : ℕ) (t : Tree) → IsCopy next t (copy next t)

abbrev pub CopyIsUnique : Type 0
CopyIsUnique = (next : ℕ) (t u : Tree) → IsCopy next t u → u ≡ copy next t

abbrev pub CopyKeepsCells : Type 0
CopyKeepsCells = (next : ℕ) (t : Tree) → cells (copy next t) ≡ cells t

abbrev pub GroundIsItsOwnCopy : Type 0
GroundIsItsOwnCopy = (next : ℕ) (t : Tree) → IsGround t → copy next t ≡ t
