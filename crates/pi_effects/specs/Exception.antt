-- The terms that goals raise. What is raised is a copy of the term's value, with new variables from 0 on, so that it says
-- nothing of the state that is left; a copy past the limit raises `term_too_large` in its place. (A User's Guide to Picat,
-- 'Exceptions'; numbers and the limit are own.)
use Rattle.std.specs.Prelude.{ℕ, nat_lt, cond, List, codes}
use Rattle.pi_terms.specs.Tree.{Tree, atom, comp, no_trees, tree, cells, most_cells}
use Rattle.pi_terms.specs.Copy.{copy}
use Rattle.pi_constraints.specs.Value.{value}
use Rattle.pi_constraints.specs.State.{State, bindings}

abbrev pub term_too_large : Tree
term_too_large = atom (codes "term_too_large")

-- what is raised that is made of a term's copy
abbrev pub raised_of : Tree → Tree → Tree
raised_of t ball = cond (nat_lt most_cells (cells t)) term_too_large ball

-- `throw`: the term itself
unfoldable pub thrown : Tree → State → Tree
thrown t s = raised_of (value (bindings s) t) (copy 0 (value (bindings s) t))

-- an exception of this name that tells a term
unfoldable pub exception_with : List ℕ → Tree → State → Tree
exception_with name t s = raised_of (value (bindings s) t) (comp name (tree (copy 0 (value (bindings s) t)) no_trees))

-- an argument that is of another kind than this
unfoldable pub type_error : List ℕ → Tree → State → Tree
type_error kind t s =
    raised_of (value (bindings s) t) (comp (codes "type_error") (tree (atom kind) (tree (copy 0 (value (bindings s) t)) no_trees)))

-- an index that isn't there, and a size that is none; a text that is no format, or one that doesn't fit what it is filled with
abbrev pub bad_index : Tree → State → Tree
bad_index t s = exception_with (codes "bad_index") t s

abbrev pub bad_format : Tree → State → Tree
bad_format t s = exception_with (codes "bad_format") t s

-- a step of 0; more items than a list of numbers or of new variables has at most
abbrev pub bad_range : Tree
bad_range = atom (codes "bad_range")

abbrev pub range_too_long : Tree
range_too_long = atom (codes "range_too_long")
