-- A place of a mode list and the arguments from one on.
use Rattle.std.specs.Prelude.{Bool, true}
use Rattle.pi_terms.specs.Tree.{Trees, no_trees, tree}
use Rattle.pi_constraints.specs.Value.{Bindings}
use Rattle.pi_meaning.specs.CoreMeaning.Facts.{fits_mode}
use Rattle.pi_syntax.specs.declared.program.Mode.{Mode}

-- it fits the first of them, where there is one
abbrev pub fits_first : Bindings → Mode → Trees → Bool
fits_first b m no_trees = true
fits_first b m (tree t ts) = fits_mode b m t
