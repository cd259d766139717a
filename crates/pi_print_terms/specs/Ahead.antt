-- The terms that a reader of a term's nodes has ahead of it: their nodes stand in prefix order.
use Rattle.std.specs.Prelude.{◌≡◌, ℕ, List, [], ◌∷◌, Option, Some, None, refl}
use Rattle.std.specs.Coded.{Coded, code_by, coded_list}
use Rattle.std.proofs.Common.{ap, sym, ◌∙◌}
use Rattle.std.proofs.lemmas.List.{append-nil}
use Rattle.pi_terms.specs.Tree.{Tree, var, int, atom, comp, Trees, no_trees, tree, drop_trees, arity}
use Rattle.pi_terms.specs.TermCells.{flat_all, spelled, take_trees, append_trees, cell_code, spelled-flat_all}
use Rattle.pi_terms.specs.declared.term.TermCell.{TermCell}
use Rattle.pi_terms.specs.declared.term.TermHead.{TermHead}

-- the terms whose nodes these are, each node with all that stands below it
abbrev pub roots : List Tree → Trees
roots [] = no_trees
roots (t ∷ ts) = tree t (drop_trees (arity t) (roots ts))

-- the term with this root whose arguments are the first terms ahead
abbrev pub built : TermHead → Trees → Tree
built (TermHead.Var n) ts = var n
built (TermHead.Int n) ts = int n
built (TermHead.Atom name) ts = atom name.now
built (TermHead.Comp name count) ts = comp name.now (take_trees count ts)

-- how many arguments it has
abbrev pub count_of : TermHead → ℕ
count_of (TermHead.Var n) = 0
count_of (TermHead.Int n) = 0
count_of (TermHead.Atom name) = 0
count_of (TermHead.Comp name count) = count

abbrev pub argument_count : Option TermHead → ℕ
argument_count None = 0
argument_count (Some h) = count_of h

-- the terms behind its arguments
abbrev pub behind : TermHead → Trees → Trees
behind h ts = drop_trees (count_of h) ts

pub append_no_trees : (ts : Trees) → append_trees ts no_trees ≡ ts
append_no_trees no_trees = refl
append_no_trees (tree t ts) = ap (tree t) (append_no_trees ts)

pub spelled_by_all : (ts : Trees) → spelled (flat_all ts) ≡ ts
unfolding spelled
spelled_by_all ts = ap spelled (sym (append-nil (flat_all ts))) ∙ (spelled-flat_all ts [] ∙ append_no_trees ts)

-- terms are stored by their cells
abbrev pub trees_code : Coded Trees
trees_code = code_by (List TermCell) (coded_list cell_code) flat_all spelled spelled_by_all
