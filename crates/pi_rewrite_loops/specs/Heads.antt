-- Patterns in front of others.
use Rattle.std.specs.Prelude.{List, [], ◌∷◌}
use Rattle.pi_terms.specs.PatternTree.{PatternTrees, pattern}
use Rattle.pi_core.specs.CoreTree.{pattern_tree}
use Rattle.pi_core.specs.declared.core_program.Pattern.{Pattern}

abbrev pub onto : List Pattern → PatternTrees → PatternTrees
onto [] rest = rest
onto (p ∷ ps) rest = pattern (pattern_tree p) (onto ps rest)
