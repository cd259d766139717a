-- Terms as they are written, without evaluation: what stands behind `$`, and the heads of facts (A User's Guide to Picat, 'Data Types, Operators, and Built-ins').
-- Calls and signs in them are structures, ranges are compounds named `..`, and an inner `$` changes nothing (own). Names that are new get variables from the left.
use Rattle.std.specs.Prelude.{Option, Some, None, option_map, option_and_then, codes}
use Rattle.pi_terms.specs.Tree.{Tree, comp, Trees, no_trees, tree}
use Rattle.pi_terms.specs.ListNames.{nil}
use Rattle.pi_terms.specs.ListCopies.{list_cell}
use Rattle.pi_constraints.specs.State.{State}
use Rattle.pi_constraints.specs.Unify.{unified}
use Rattle.pi_syntax.specs.PrintTerm.{array_name}
use Rattle.pi_effects.specs.Texts.{text_list}
use Rattle.pi_syntax.specs.ExpTree.{ExpTree, var, int, atom, str, list, list_onto, array, call, quote, index, range, range_by, at, collect, and, or, arrow, if_then, if_else, foreach, while_do, do_while, ExpTrees, no_exps, exp}
use Rattle.pi_meaning.specs.OverNames.Environment.{Environment, known, Valued, ValuedAll, name_valued}

abbrev pub constant : Tree → Environment → State → Valued
constant t e s = record { tree = t; names = e; state = s }

-- items in front of a term
unfoldable pub items_onto : Trees → Tree → Tree
items_onto no_trees rest = rest
items_onto (tree t ts) rest = list_cell t (items_onto ts rest)

-- no term, with the names and the state behind another one
abbrev pub nothing_behind : Valued → ValuedAll
nothing_behind x = record { trees = no_trees; names = x.names; state = x.state }

-- a term that is made of others
abbrev pub made : (Trees → Tree) → ValuedAll → Valued
made make all = record { tree = make all.trees; names = all.names; state = all.state }

abbrev pub with_front : Valued → ValuedAll → ValuedAll
with_front x all = record { trees = tree x.tree all.trees; names = all.names; state = all.state }

abbrev pub list_made : ValuedAll → Valued → Valued
list_made all x = record { tree = items_onto all.trees x.tree; names = x.names; state = x.state }

-- `V@P`: V is made equal to P
abbrev pub also_named : Valued → Valued → Option Valued
also_named whole part = option_map (λ s. record { tree = whole.tree; names = part.names; state = s }) (unified part.state whole.tree part.tree)

-- what one expression comes to, and then what stands behind it; None where one is no term, or a `V@P` can't be one
unfoldable mutual
  pub written_term : ExpTree → Environment → State → Option Valued
  written_term (var name) e s = Some (name_valued (known name e) name e s)
  written_term (int n) e s = Some (constant (Tree.int n) e s)
  written_term (atom name) e s = Some (constant (Tree.atom name) e s)
  written_term (str text) e s = Some (constant (text_list text) e s)
  written_term (list xs) e s = option_map (made (λ ts. items_onto ts (Tree.atom nil))) (written_terms xs e s)
  written_term (list_onto xs x) e s = option_and_then (λ all. option_map (list_made all) (written_term x all.names all.state)) (written_terms xs e s)
  written_term (array xs) e s = option_map (made (comp array_name)) (written_terms xs e s)
  written_term (call name xs) e s = option_map (made (comp name)) (written_terms xs e s)
  written_term (quote x) e s = written_term x e s
  written_term (range first last) e s =
      option_map (made (comp (codes "..")))
      (option_and_then (λ x. option_and_then (λ y. Some (with_front x (with_front y (nothing_behind y)))) (written_term last x.names x.state)) (written_term first e s))
  written_term (range_by first step last) e s =
      option_map (made (comp (codes "..")))
      (option_and_then (λ x. option_and_then (λ y. option_and_then (λ z. Some (with_front x (with_front y (with_front z (nothing_behind z)))))
      (written_term last y.names y.state)) (written_term step x.names x.state)) (written_term first e s))
  written_term (at name x) e s =
      let whole : Valued = name_valued (known name e) name e s in
      option_and_then (also_named whole) (written_term x whole.names whole.state)
  written_term (index x xs) e s = None
  written_term (collect is_array x xs) e s = None
  written_term (and xs) e s = None
  written_term (or xs) e s = None
  written_term (arrow c x) e s = None
  written_term (if_then bs) e s = None
  written_term (if_else bs x) e s = None
  written_term (foreach xs x) e s = None
  written_term (while_do c x) e s = None
  written_term (do_while x c) e s = None

  pub written_terms : ExpTrees → Environment → State → Option ValuedAll
  written_terms no_exps e s = Some (record { trees = no_trees; names = e; state = s })
  written_terms (exp x xs) e s = option_and_then (λ first. option_map (with_front first) (written_terms xs first.names first.state)) (written_term x e s)
