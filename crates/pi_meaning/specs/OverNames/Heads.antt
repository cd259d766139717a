-- Matching: an argument of a head, or the pattern of an iterator, against a term whose variables may be bound, none of which it binds (A User's Guide to Picat,
-- 'Pattern-Matching'). A name takes the part of the term as it stands; one that occurs twice takes terms of one value.
use Rattle.std.specs.Prelude.{ℕ, cond, List, [], ◌∷◌, Option, Some, None, option_and_then, codes}
use Rattle.std.specs.Char.{encode_utf8}
use Rattle.std.specs.Str.{bytes_eq, chars}
use Rattle.pi_terms.specs.Tree.{Tree, comp, Trees, no_trees, tree}
use Rattle.pi_terms.specs.ListNames.{nil}
use Rattle.pi_terms.specs.Order.{identical}
use Rattle.pi_constraints.specs.Value.{Bindings}
use Rattle.pi_constraints.specs.State.{followed}
use Rattle.pi_syntax.specs.PrintTerm.{array_name}
use Rattle.pi_effects.specs.Items.{cell_parts}
use Rattle.pi_syntax.specs.ExpTree.{ExpTree, var, int, atom, str, list, list_onto, array, call, quote, index, range, range_by, at, collect, and, or, arrow, if_then, if_else, foreach, while_do, do_while, ExpTrees, no_exps, exp}
use Rattle.pi_meaning.specs.OverNames.Environment.{Environment, known, name_matched}

-- the environment that comes of matching a term
abbrev pub Matching : Type 0
Matching = Tree → Environment → Option Environment

-- a compound of this name, whose arguments match
abbrev pub compound_matched : List ℕ → (Trees → Environment → Option Environment) → Matching
compound_matched name parts (Tree.var n) e = None
compound_matched name parts (Tree.int n) e = None
compound_matched name parts (Tree.atom f) e = None
compound_matched name parts (comp f ts) e = cond (bytes_eq name f) (parts ts e) None

-- an argument, and those behind it
abbrev pub one_before : Matching → (Trees → Environment → Option Environment) → Trees → Environment → Option Environment
one_before first rest no_trees e = None
one_before first rest (tree t ts) e = option_and_then (rest ts) (first t e)

abbrev pub no_more : Trees → Environment → Option Environment
no_more no_trees e = Some e
no_more (tree t ts) e = None

-- the item and the rest of a list cell
abbrev pub cell_matched : Matching → Matching → Option (Tree × Tree) → Environment → Option Environment
cell_matched first rest None e = None
cell_matched first rest (Some p) e = option_and_then (rest p.1) (first p.0 e)

-- an atom at the root
abbrev pub atom_matched : Bindings → List ℕ → Matching
atom_matched b name t e = cond (identical (Tree.atom name) (followed b t)) (Some e) None

-- A text is the list of its characters, each as an atom: it matches as the list of these atoms does, cell by cell.
unfoldable pub characters_matched : Bindings → List ℕ → Matching
characters_matched b [] t e = atom_matched b nil t e
characters_matched b (c ∷ cs) t e = cell_matched (atom_matched b (encode_utf8 c)) (characters_matched b cs) (cell_parts (followed b t)) e

unfoldable mutual
  pub pattern_matched : Bindings → ExpTree → Matching
  pattern_matched b (var name) t e = name_matched b (known name e) name t e
  pattern_matched b (int n) t e = cond (identical (Tree.int n) (followed b t)) (Some e) None
  pattern_matched b (atom name) t e = atom_matched b name t e
  pattern_matched b (str text) t e = characters_matched b (chars text) t e
  pattern_matched b (list ps) t e = items_matched b ps (atom_matched b nil) t e
  pattern_matched b (list_onto ps p) t e = items_matched b ps (pattern_matched b p) t e
  pattern_matched b (array ps) t e = compound_matched array_name (patterns_matched b ps) (followed b t) e
  pattern_matched b (call name ps) t e = compound_matched name (patterns_matched b ps) (followed b t) e
  pattern_matched b (quote p) t e = pattern_matched b p t e
  pattern_matched b (range first last) t e =
      compound_matched (codes "..") (one_before (pattern_matched b first) (one_before (pattern_matched b last) no_more)) (followed b t) e
  pattern_matched b (range_by first step last) t e =
      compound_matched (codes "..") (one_before (pattern_matched b first) (one_before (pattern_matched b step) (one_before (pattern_matched b last) no_more))) (followed b t) e
  pattern_matched b (at name p) t e = option_and_then (pattern_matched b p t) (name_matched b (known name e) name t e)
  pattern_matched b (index p ps) t e = None
  pattern_matched b (collect is_array p ps) t e = None
  pattern_matched b (and ps) t e = None
  pattern_matched b (or ps) t e = None
  pattern_matched b (arrow c p) t e = None
  pattern_matched b (if_then bs) t e = None
  pattern_matched b (if_else bs p) t e = None
  pattern_matched b (foreach ps p) t e = None
  pattern_matched b (while_do c p) t e = None
  pattern_matched b (do_while p c) t e = None

  -- arguments from the left
  pub patterns_matched : Bindings → ExpTrees → Trees → Environment → Option Environment
  patterns_matched b no_exps ts e = no_more ts e
  patterns_matched b (exp p ps) ts e = one_before (pattern_matched b p) (patterns_matched b ps) ts e

  -- items of a list from the left, and then what is behind them
  pub items_matched : Bindings → ExpTrees → Matching → Matching
  items_matched b no_exps rest t e = rest t e
  items_matched b (exp p ps) rest t e = cell_matched (pattern_matched b p) (items_matched b ps rest) (cell_parts (followed b t)) e
