-- Terms and patterns over slots, and what goals make of values before they are used. (Own; the order of evaluation is that of `pi_meaning`.)
use Rattle.std.specs.Prelude.{ℕ, nat_lt, Bool, true, false, ◌&&◌, ◌||◌, cond, List, [], ◌∷◌, ◌++◌, length, codes}
use Rattle.pi_terms.specs.Tree.{Tree, Trees, no_trees, tree, trees_of}
use Rattle.pi_terms.specs.ListNames.{nil, cell_name}
use Rattle.pi_terms.specs.PatternTree.{PatternTree, slot, exact_int, exact_atom, compound, named, PatternTrees, no_patterns, pattern}
use Rattle.pi_syntax.specs.PrintTerm.{array_name}
use Rattle.pi_effects.specs.Texts.{text_list}
use Rattle.pi_effects.specs.Inner.{itself_name}
use Rattle.pi_syntax.specs.ExpTree.{ExpTree, var, int, atom, str, list, list_onto, array, call, quote, index, range, range_by, at, collect, and, or, arrow, if_then, if_else, foreach, while_do, do_while, ExpTrees, no_exps, exp}
use Rattle.pi_syntax.specs.Signature.{exp_count}
use Rattle.pi_core.specs.GoalTree.{GoalTree}
use Rattle.pi_meaning.specs.OverNames.Terms.{items_onto}
use Rattle.pi_meaning.specs.OverNames.Forms.{Reading, plain, operand, boolean, ranged, first_reading, later_readings, operand_readings, is_operand_node, is_sum, is_connective, is_constraint}
use Rattle.pi_rewrite_spec.specs.Slots.{SlotNames, slot_for, slots_for, with_value}

-- ---- terms

-- a term over slots, and the slots after it
pub record SlotTerm : Type 0 where
  pub tree : Tree
  pub names : SlotNames

pub record SlotTerms : Type 0 where
  pub trees : List Tree
  pub names : SlotNames

abbrev pub constant : Tree → SlotNames → SlotTerm
constant t ns = record { tree = t; names = ns }

abbrev pub made_of : (Trees → Tree) → SlotTerms → SlotTerm
made_of make ts = record { tree = make (trees_of ts.trees); names = ts.names }

abbrev pub made_onto : SlotTerms → SlotTerm → SlotTerm
made_onto ts t = record { tree = items_onto (trees_of ts.trees) t.tree; names = t.names }

abbrev pub no_terms : SlotNames → SlotTerms
no_terms ns = record { trees = []; names = ns }

abbrev pub before_terms : SlotTerm → SlotTerms → SlotTerms
before_terms t ts = record { trees = t.tree ∷ ts.trees; names = ts.names }

-- An expression as it stands, as behind `$`: with calls and signs as structures. Of what is no term this says nothing.
unfoldable mutual
  pub slot_term : ExpTree → SlotNames → SlotTerm
  slot_term (var name) ns = record { tree = Tree.var (slot_for name ns); names = slots_for name ns }
  slot_term (int n) ns = constant (Tree.int n) ns
  slot_term (atom name) ns = constant (Tree.atom name) ns
  slot_term (str text) ns = constant (text_list text) ns
  slot_term (list es) ns = made_of (λ ts. items_onto ts (Tree.atom nil)) (slot_terms es ns)
  slot_term (list_onto es e) ns = made_onto (slot_terms es ns) (slot_term e (slot_terms es ns).names)
  slot_term (array es) ns = made_of (Tree.comp array_name) (slot_terms es ns)
  slot_term (call name es) ns = made_of (Tree.comp name) (slot_terms es ns)
  slot_term (quote e) ns = slot_term e ns
  slot_term (range first last) ns =
      made_of (Tree.comp (codes "..")) (before_terms (slot_term first ns) (before_terms (slot_term last (slot_term first ns).names)
      (no_terms (slot_term last (slot_term first ns).names).names)))
  slot_term (range_by first step last) ns =
      let one : SlotTerm = slot_term first ns in
      let two : SlotTerm = slot_term step one.names in
      let three : SlotTerm = slot_term last two.names in
      made_of (Tree.comp (codes "..")) (before_terms one (before_terms two (before_terms three (no_terms three.names))))
  slot_term (index e es) ns = constant (Tree.atom []) ns
  slot_term (at name e) ns = constant (Tree.atom []) ns
  slot_term (collect is_array e es) ns = constant (Tree.atom []) ns
  slot_term (and es) ns = constant (Tree.atom []) ns
  slot_term (or es) ns = constant (Tree.atom []) ns
  slot_term (arrow c e) ns = constant (Tree.atom []) ns
  slot_term (if_then bs) ns = constant (Tree.atom []) ns
  slot_term (if_else bs e) ns = constant (Tree.atom []) ns
  slot_term (foreach es e) ns = constant (Tree.atom []) ns
  slot_term (while_do c e) ns = constant (Tree.atom []) ns
  slot_term (do_while e c) ns = constant (Tree.atom []) ns

  pub slot_terms : ExpTrees → SlotNames → SlotTerms
  slot_terms no_exps ns = no_terms ns
  slot_terms (exp e es) ns = before_terms (slot_term e ns) (slot_terms es (slot_term e ns).names)

-- ---- what stays as structure

-- A call that stays as a structure of what its arguments come to: of an operand signs, `abs` and `sum`, of a Boolean expression connectives and relations.
abbrev pub stays : Reading → List ℕ → ℕ → Bool
stays plain name k = false
stays ranged name k = false
stays operand name k = is_operand_node name k || is_sum name k
stays boolean name k = is_connective name k || is_constraint name k

-- a range stays as one
abbrev pub is_ranged : Reading → Bool
is_ranged plain = false
is_ranged operand = false
is_ranged boolean = false
is_ranged ranged = true

-- an expression without a call, where it is read so: its value is the term as it stands
unfoldable mutual
  pub is_flat_as : Reading → ExpTree → Bool
  is_flat_as r (var name) = true
  is_flat_as r (int n) = true
  is_flat_as r (atom name) = true
  is_flat_as r (str text) = true
  is_flat_as r (list es) = are_flat_as [] es
  is_flat_as r (list_onto es e) = are_flat_as [] es && is_flat_as plain e
  is_flat_as r (array es) = are_flat_as [] es
  is_flat_as r (quote e) = true
  is_flat_as r (call name es) = stays r name (exp_count es) && are_flat_as (operand_readings r name (exp_count es)) es
  is_flat_as r (range first last) = is_ranged r && (is_flat_as plain first && is_flat_as plain last)
  is_flat_as r (range_by first step last) = is_ranged r && (is_flat_as plain first && (is_flat_as plain step && is_flat_as plain last))
  is_flat_as r e = false

  pub are_flat_as : List Reading → ExpTrees → Bool
  are_flat_as rs no_exps = true
  are_flat_as rs (exp e es) = is_flat_as (first_reading rs) e && are_flat_as (later_readings rs) es

-- the same where all is evaluated
abbrev pub is_flat : ExpTree → Bool
is_flat e = is_flat_as plain e

abbrev pub are_flat : ExpTrees → Bool
are_flat es = are_flat_as [] es

-- ---- values

-- what an expression comes to: goals that stand before its use, a term over slots, and the slots after it
pub record SlotValue : Type 0 where
  pub goals : List GoalTree
  pub tree : Tree
  pub names : SlotNames

pub record SlotValues : Type 0 where
  pub goals : List GoalTree
  pub trees : List Tree
  pub names : SlotNames

abbrev pub as_it_stands : SlotTerm → SlotValue
as_it_stands t = record { goals = []; tree = t.tree; names = t.names }

-- every slot of a term is below h
unfoldable mutual
  pub is_below : ℕ → Tree → Bool
  is_below h (Tree.var k) = nat_lt k h
  is_below h (Tree.int n) = true
  is_below h (Tree.atom name) = true
  is_below h (Tree.comp name ts) = are_below h ts

  pub are_below : ℕ → Trees → Bool
  are_below h no_trees = true
  are_below h (tree t ts) = is_below h t && are_below h ts

-- A goal that does nothing but evaluate a term, so that each of its slots is filled: a `catch` evaluates what it catches before its goal. For one slot that is new, from number m on,
-- an equation of it with itself does.
abbrev pub evaluating : Tree → GoalTree
evaluating t = GoalTree.catch GoalTree.truth t GoalTree.fail

abbrev pub filling : ℕ → Tree → GoalTree
filling m (Tree.var k) = cond (nat_lt k m) (evaluating (Tree.var k)) (GoalTree.call (codes "=") (Tree.var k ∷ Tree.var k ∷ []))
filling m t = evaluating t

-- A term that stands before a call, so that its new variables are made before those of the call. The slots below h are filled anyway. m is the number of slots before it.
abbrev pub filled_before : ℕ → ℕ → SlotTerm → SlotValue
filled_before h m t = record { goals = cond (is_below h t.tree) [] (filling m t.tree ∷ []); tree = t.tree; names = t.names }

-- an expression as the last one that is evaluated, or one before a call; `made` is what it comes to where it has a call
abbrev pub last_value_as : Reading → ExpTree → SlotNames → SlotValue → SlotValue
last_value_as r e ns made = cond (is_flat_as r e) (as_it_stands (slot_term e ns)) made

abbrev pub value_before_as : Reading → ℕ → ExpTree → SlotNames → SlotValue → SlotValue
value_before_as r h e ns made = cond (is_flat_as r e) (filled_before h (length ns) (slot_term e ns)) made

-- the same by whether no call stands behind it
abbrev pub value_by_as : Reading → Bool → ℕ → ExpTree → SlotNames → SlotValue → SlotValue
value_by_as r is_last h e ns made = cond is_last (last_value_as r e ns made) (value_before_as r h e ns made)

-- where it is evaluated
abbrev pub last_value : ExpTree → SlotNames → SlotValue → SlotValue
last_value e ns made = last_value_as plain e ns made

abbrev pub value_before : ℕ → ExpTree → SlotNames → SlotValue → SlotValue
value_before h e ns made = value_before_as plain h e ns made

abbrev pub value_by : Bool → ℕ → ExpTree → SlotNames → SlotValue → SlotValue
value_by is_last h e ns made = value_by_as plain is_last h e ns made

abbrev pub no_values : SlotNames → SlotValues
no_values ns = record { goals = []; trees = []; names = ns }

abbrev pub before_values : SlotValue → SlotValues → SlotValues
before_values v vs = record { goals = v.goals ++ vs.goals; trees = v.tree ∷ vs.trees; names = vs.names }

-- a term that is made of values, and one of some in front of another
abbrev pub value_of_parts : (Trees → Tree) → SlotValues → SlotValue
value_of_parts make vs = record { goals = vs.goals; tree = make (trees_of vs.trees); names = vs.names }

abbrev pub value_onto : SlotValues → SlotValue → SlotValue
value_onto vs v = record { goals = vs.goals ++ v.goals; tree = items_onto (trees_of vs.trees) v.tree; names = v.names }

-- a function's value stands in a slot of its own
abbrev pub applied : List ℕ → SlotValues → SlotValue
applied name vs = record { goals = vs.goals ++ GoalTree.apply name vs.trees (length vs.names) ∷ []; tree = Tree.var (length vs.names); names = with_value vs.names }

-- a value that stands in a slot: one that is none is put into one, as it stands
pub record Slotted : Type 0 where
  pub goals : List GoalTree
  pub place : ℕ
  pub names : SlotNames

abbrev pub slotted : List GoalTree → Tree → SlotNames → Slotted
slotted goals (Tree.var k) ns = record { goals = goals; place = k; names = ns }
slotted goals t ns = record { goals = goals ++ GoalTree.apply itself_name (t ∷ []) (length ns) ∷ []; place = length ns; names = with_value ns }

-- ---- patterns

-- a pattern over slots, and the slots after it
pub record SlotPattern : Type 0 where
  pub form : PatternTree
  pub names : SlotNames

pub record SlotPatterns : Type 0 where
  pub forms : PatternTrees
  pub names : SlotNames

abbrev pub exact : PatternTree → SlotNames → SlotPattern
exact p ns = record { form = p; names = ns }

abbrev pub no_forms : SlotNames → SlotPatterns
no_forms ns = record { forms = no_patterns; names = ns }

abbrev pub before_forms : SlotPattern → SlotPatterns → SlotPatterns
before_forms p ps = record { forms = pattern p.form ps.forms; names = ps.names }

abbrev pub structure : List ℕ → SlotPatterns → SlotPattern
structure name ps = record { form = compound name ps.forms; names = ps.names }

-- items in front of the pattern of what is behind them
unfoldable pub cells_onto : PatternTrees → PatternTree → PatternTree
cells_onto no_patterns rest = rest
cells_onto (pattern p ps) rest = compound cell_name (pattern p (pattern (cells_onto ps rest) no_patterns))

-- a term that holds no variable, as a pattern
unfoldable mutual
  pub exact_term : Tree → PatternTree
  exact_term (Tree.var k) = exact_atom []
  exact_term (Tree.int n) = exact_int n
  exact_term (Tree.atom name) = exact_atom name
  exact_term (Tree.comp name ts) = compound name (exact_terms ts)

  pub exact_terms : Trees → PatternTrees
  exact_terms no_trees = no_patterns
  exact_terms (tree t ts) = pattern (exact_term t) (exact_terms ts)

-- An argument of a head. Of what is no pattern this says nothing.
unfoldable mutual
  pub slot_pattern : ExpTree → SlotNames → SlotPattern
  slot_pattern (var name) ns = record { form = slot (slot_for name ns); names = slots_for name ns }
  slot_pattern (int n) ns = exact (exact_int n) ns
  slot_pattern (atom name) ns = exact (exact_atom name) ns
  slot_pattern (str text) ns = exact (exact_term (text_list text)) ns
  slot_pattern (list es) ns = record { form = cells_onto (slot_patterns es ns).forms (exact_atom nil); names = (slot_patterns es ns).names }
  slot_pattern (list_onto es e) ns =
      let rest : SlotPattern = slot_pattern e (slot_patterns es ns).names in
      record { form = cells_onto (slot_patterns es ns).forms rest.form; names = rest.names }
  slot_pattern (array es) ns = structure array_name (slot_patterns es ns)
  slot_pattern (call name es) ns = structure name (slot_patterns es ns)
  slot_pattern (quote e) ns = slot_pattern e ns
  slot_pattern (range first last) ns =
      let one : SlotPattern = slot_pattern first ns in
      let two : SlotPattern = slot_pattern last one.names in
      structure (codes "..") (before_forms one (before_forms two (no_forms two.names)))
  slot_pattern (range_by first step last) ns =
      let one : SlotPattern = slot_pattern first ns in
      let two : SlotPattern = slot_pattern step one.names in
      let three : SlotPattern = slot_pattern last two.names in
      structure (codes "..") (before_forms one (before_forms two (before_forms three (no_forms three.names))))
  slot_pattern (at name e) ns =
      let part : SlotPattern = slot_pattern e (slots_for name ns) in
      record { form = named (slot_for name ns) part.form; names = part.names }
  slot_pattern (index e es) ns = exact (exact_atom []) ns
  slot_pattern (collect is_array e es) ns = exact (exact_atom []) ns
  slot_pattern (and es) ns = exact (exact_atom []) ns
  slot_pattern (or es) ns = exact (exact_atom []) ns
  slot_pattern (arrow c e) ns = exact (exact_atom []) ns
  slot_pattern (if_then bs) ns = exact (exact_atom []) ns
  slot_pattern (if_else bs e) ns = exact (exact_atom []) ns
  slot_pattern (foreach es e) ns = exact (exact_atom []) ns
  slot_pattern (while_do c e) ns = exact (exact_atom []) ns
  slot_pattern (do_while e c) ns = exact (exact_atom []) ns

  pub slot_patterns : ExpTrees → SlotNames → SlotPatterns
  slot_patterns no_exps ns = no_forms ns
  slot_patterns (exp e es) ns = before_forms (slot_pattern e ns) (slot_patterns es (slot_pattern e ns).names)
