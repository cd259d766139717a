-- Levels at which calls of what a program has do the same, as those of a program and of what it is lowered to. (Own.)
use Rattle.std.specs.Prelude.{◌≡◌, ℕ, List, IsTrue}
use Rattle.pi_terms.specs.Tree.{Trees, tree_count}
use Rattle.pi_constraints.specs.State.{State}
use Rattle.pi_meaning.specs.Shared.View.{View}
use Rattle.pi_meaning.specs.Shared.Level.{Level, lowest, over, Calls}
use Rattle.pi_meaning.specs.Shared.Given.{Later}
use Rattle.pi_rewrite_spec.specs.Forms.{Knows}

pub record SameCalls (known : Knows) (c d : Calls) : Type 0 where
  pub called : (name : List ℕ) (ts : Trees) (s : State) → IsTrue (known.predicate name (tree_count ts)) → c.called name ts s ≡ d.called name ts s
  pub applied : (name : List ℕ) (ts : Trees) (s : State) → IsTrue (known.function name (tree_count ts)) → c.applied name ts s ≡ d.applied name ts s
  pub drained : (s : State) → c.drained s ≡ d.drained s

-- here and at each lower level
unfoldable pub SameLevels : Knows → Level → Level → Type 0
SameLevels known (lowest c) (lowest d) = SameCalls known c d
SameLevels known (lowest c) (over d m) = ⊥
SameLevels known (over c l) (lowest d) = ⊥
SameLevels known (over c l) (over d m) = SameCalls known c d × SameLevels known l m

-- What a later stage gives goes by what calls of what the program has do: at two levels at which these do the same it is the same. So it calls nothing that the program lacks.
abbrev pub GoesByCalls : Knows → Later → Type 0
GoesByCalls known later = (v : View) (l m : Level) → SameLevels known l m → (name : List ℕ) (ts : Trees) (s : State) → later.predicate v l name ts s ≡ later.predicate v m name ts s
