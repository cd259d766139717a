-- Places that hold a term or nothing, by their numbers: the slots of a rule, the variables of a state.
use Rattle.std.specs.Prelude.{ℕ, List, Option, None, slice_index_or}
use Rattle.pi_terms.specs.Tree.{Tree}

abbrev pub Places : Type 0
Places = List (Option Tree)

-- what a place holds; a number past the last one has no place, and so nothing
abbrev pub held : Places → ℕ → Option Tree
held s k = slice_index_or s k None
