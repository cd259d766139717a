-- A goal's reading speaks of the variables of its term and of new ones.
use Rattle.std.specs.Prelude.{⊤, ℕ, zero, suc, Bool, true, false, cond, List, [], ◌∷◌, ℤ, pos, Option, Some, None, option_map, option_and_then, codes, refl}
use Rattle.std.specs.Option.{option_or}
use Rattle.std.specs.Str.{bytes_eq}
use Rattle.std.proofs.Common.{inl, inr}
use Rattle.pi_terms.specs.Tree.{Tree, var, int, atom, comp, Trees, no_trees, tree, cells}
use Rattle.pi_terms.specs.ListNames.{nil, cell_name}
use Rattle.pi_terms.specs.Variables.{Occurs, OccursInAny}
use Rattle.pi_constraints.specs.declared.constraint.Rel.{Rel}
use Rattle.pi_constraints.specs.declared.constraint.Item.{Item}
use Rattle.pi_constraints.specs.declared.constraint.Constraint.{Constraint}
use Rattle.pi_constraints.specs.Value.{value}
use Rattle.pi_constraints.specs.State.{followed_for, followed}
use Rattle.pi_effects.specs.Items.{each_tree, in_front_of, items_for, list_items, collection_items}
use Rattle.pi_prop_spec.specs.Operands.{Operand, plus, minus, times, positive, negative, absolute, no_operand, Operands, no_operands, operand, Comparison, Connective, Boolean, truth_variable, truth_number, relation, negation, joined, no_boolean, Goal, is_so, all_different, all_distinct, element, no_constraint}
use Rattle.pi_prop_spec.specs.Terms.{total_of, one_part, two_parts, operand_of, operands_of, operands_of_array, operands_of_list, comparison_named, connective_named, joined_by, related_by, boolean_of, goal_of_boolean, goal_of}
use Rattle.pi_prop_spec.specs.PostingSums.{of_number, of_item, difference}
use Rattle.pi_prop_spec.specs.Steps.{not_a_constraint, gives, then, posting, read_operand}
use Rattle.pi_prop_spec.specs.Relations.{read_relation, posts_standing}
use Rattle.pi_prop_spec.specs.Truths.{truth_of_standing, truth_of_negation, truth_of_joined, read_truth}
use Rattle.pi_prop_spec.specs.Lists.{read_item, read_each, items_or_refused, read_collection}
use Rattle.pi_prop_spec.specs.Postings.{read_goal}
use Rattle.pi_settling.proofs.CalmReads.{ItemOnly, ItemsOnly, PlacesOnly, Each, each-append, SumOnly, Reads, gives-reads, refuses-reads, then-reads, posting-reads, ReadsOperand, ReadsItems, number-reads, variable-reads, plus-reads, minus-reads, times-reads, positive-reads, negative-reads, absolute-reads, total-reads, no-items-read, item-reads}
use Rattle.pi_settling.proofs.CalmTruths.{StandingOnly, Anything, relation-reads, standing-reads, standing-item, done-reads, ReadsItem, truth-variable-reads, truth-number-reads, truth-standing-reads, negation-reads, joined-reads}

-- a term's variables are of such a kind
abbrev pub TermOnly : (ℕ → Type 0) → Tree → Type 0
TermOnly Q t = (m : ℕ) → Occurs m t → Q m

abbrev pub ArgumentsOnly : (ℕ → Type 0) → Trees → Type 0
ArgumentsOnly Q ts = (m : ℕ) → OccursInAny m ts → Q m

-- ---- operands

none-reads : (Q : ℕ → Type 0) (t : Tree) → ReadsOperand Q (no_operand t)
unfolding read_operand
none-reads Q t = refuses-reads Q (SumOnly Q) (not_a_constraint t)

-- where there are operands
abbrev SomeItems : (ℕ → Type 0) → Option Operands → Type 0
SomeItems Q None = ⊤
SomeItems Q (Some xs) = ReadsItems Q xs

either-way : (Q : ℕ → Type 0) (b : Bool) (x y : Operand) → ReadsOperand Q x → ReadsOperand Q y → ReadsOperand Q (cond b x y)
either-way Q true x y h k = h
either-way Q false x y h k = k

total-of : (Q : ℕ → Type 0) (t : Tree) (o : Option Operands) → SomeItems Q o → ReadsOperand Q (total_of t o)
total-of Q t None h = none-reads Q t
total-of Q t (Some xs) h = total-reads Q xs h

one-part : (Q : ℕ → Type 0) (name : List ℕ) (whole t : Tree) (x : Operand) (o : Option Operands) → ReadsOperand Q x → SomeItems Q o → ReadsOperand Q (one_part name whole t x o)
one-part Q name whole t x o h k =
    either-way Q (bytes_eq name (codes "+")) (positive x) _ (positive-reads Q x h)
    (either-way Q (bytes_eq name (codes "-")) (negative x) _ (negative-reads Q x h)
    (either-way Q (bytes_eq name (codes "abs")) (absolute x) _ (absolute-reads Q x h)
    (either-way Q (bytes_eq name (codes "sum")) (total_of t o) (no_operand whole) (total-of Q t o k) (none-reads Q whole))))

two-parts : (Q : ℕ → Type 0) (name : List ℕ) (whole : Tree) (x y : Operand) → ReadsOperand Q x → ReadsOperand Q y → ReadsOperand Q (two_parts name whole x y)
two-parts Q name whole x y h k =
    either-way Q (bytes_eq name (codes "+")) (plus x y) _ (plus-reads Q x y h k)
    (either-way Q (bytes_eq name (codes "-")) (minus x y) _ (minus-reads Q x y h k)
    (either-way Q (bytes_eq name (codes "*")) (times x y) (no_operand whole) (times-reads Q x y h k) (none-reads Q whole)))

or-items : (Q : ℕ → Type 0) (o p : Option Operands) → SomeItems Q o → SomeItems Q p → SomeItems Q (option_or o p)
or-items Q None p h k = k
or-items Q (Some xs) p h k = h

only-items : (Q : ℕ → Type 0) (b : Bool) (o : Option Operands) → SomeItems Q o → SomeItems Q (cond b o None)
only-items Q true o h = h
only-items Q false o h = tt

front-items : (Q : ℕ → Type 0) (x : Operand) (o : Option Operands) → ReadsOperand Q x → SomeItems Q o → SomeItems Q (option_map (operand x) o)
front-items Q x None h k = tt
front-items Q x (Some xs) h k = item-reads Q x xs h k

mutual
  unfolding operand_of Occurs

  pub operand-reads : (Q : ℕ → Type 0) (t : Tree) → TermOnly Q t → ReadsOperand Q (operand_of t)
  operand-reads Q (var m) h = variable-reads Q m (h m refl)
  operand-reads Q (int i) h = number-reads Q i
  operand-reads Q (atom name) h = none-reads Q (atom name)
  operand-reads Q (comp name no_trees) h = none-reads Q (comp name no_trees)
  operand-reads Q (comp name (tree t no_trees)) h =
      one-part Q name (comp name (tree t no_trees)) t (operand_of t) (option_or (operands_of_array t) (operands_of_list t)) (operand-reads Q t (λ m o. h m (inl o)))
      (or-items Q (operands_of_array t) (operands_of_list t) (array-reads Q t (λ m o. h m (inl o))) (list-reads Q t (λ m o. h m (inl o))))
  operand-reads Q (comp name (tree t (tree u no_trees))) h =
      two-parts Q name (comp name (tree t (tree u no_trees))) (operand_of t) (operand_of u) (operand-reads Q t (λ m o. h m (inl o))) (operand-reads Q u (λ m o. h m (inr (inl o))))
  operand-reads Q (comp name (tree t (tree u (tree v ts)))) h = none-reads Q (comp name (tree t (tree u (tree v ts))))

  operands-reads : (Q : ℕ → Type 0) (ts : Trees) → ArgumentsOnly Q ts → ReadsItems Q (operands_of ts)
  operands-reads Q no_trees h = no-items-read Q
  operands-reads Q (tree t ts) h = item-reads Q (operand_of t) (operands_of ts) (operand-reads Q t (λ m o. h m (inl o))) (operands-reads Q ts (λ m o. h m (inr o)))

  array-reads : (Q : ℕ → Type 0) (t : Tree) → TermOnly Q t → SomeItems Q (operands_of_array t)
  array-reads Q (var m) h = tt
  array-reads Q (int i) h = tt
  array-reads Q (atom name) h = tt
  array-reads Q (comp name ts) h = only-items Q _ (Some (operands_of ts)) (operands-reads Q ts h)

  list-reads : (Q : ℕ → Type 0) (t : Tree) → TermOnly Q t → SomeItems Q (operands_of_list t)
  list-reads Q (var m) h = tt
  list-reads Q (int i) h = tt
  list-reads Q (atom name) h = only-items Q (bytes_eq name nil) (Some no_operands) (no-items-read Q)
  list-reads Q (comp name no_trees) h = tt
  list-reads Q (comp name (tree t no_trees)) h = tt
  list-reads Q (comp name (tree t (tree u no_trees))) h =
      only-items Q (bytes_eq name cell_name) (option_map (operand (operand_of t)) (operands_of_list u))
      (front-items Q (operand_of t) (operands_of_list u) (operand-reads Q t (λ m o. h m (inl o))) (list-reads Q u (λ m o. h m (inr (inl o)))))
  list-reads Q (comp name (tree t (tree u (tree v ts)))) h = tt

-- ---- Boolean expressions, with what they are as goals

-- the reading of an expression, and of the goal that it is
record ReadsBoolean (Q : ℕ → Type 0) (b : Boolean) : Type 0 where
  truth : ReadsItem Q (read_truth b)
  goal : (whole : Tree) → Reads Q Anything (read_goal (goal_of_boolean b whole))

so-reads : (Q : ℕ → Type 0) (b : Boolean) → ReadsItem Q (read_truth b) → Reads Q Anything (read_goal (is_so b))
so-reads Q b h = then-reads Q (ItemOnly Q) Anything (read_truth b) (λ t. posts_standing Rel.Equal (difference (of_item t) (of_number (pos 1)))) h (standing-item Q)

refused : (Q : ℕ → Type 0) (t : Tree) → Reads Q Anything (read_goal (no_constraint t))
refused Q t = refuses-reads Q Anything (not_a_constraint t)

variable-boolean : (Q : ℕ → Type 0) (n : ℕ) → Q n → ReadsBoolean Q (truth_variable n)
unfolding read_truth
variable-boolean Q n q = record { truth = truth-variable-reads Q n q; goal = refused Q }

number-boolean : (Q : ℕ → Type 0) (i : ℤ) → ReadsBoolean Q (truth_number i)
unfolding read_truth
number-boolean Q i = record { truth = truth-number-reads Q i; goal = refused Q }

no-boolean : (Q : ℕ → Type 0) (t : Tree) → ReadsBoolean Q (no_boolean t)
unfolding read_truth
no-boolean Q t = record { truth = refuses-reads Q (ItemOnly Q) (not_a_constraint t); goal = refused Q }

relation-boolean : (Q : ℕ → Type 0) (c : Comparison) (x y : Operand) → ReadsOperand Q x → ReadsOperand Q y → ReadsBoolean Q (relation c x y)
unfolding read_truth
relation-boolean Q c x y h g = record {
  truth = then-reads Q (StandingOnly Q) (ItemOnly Q) (read_relation c x y) (λ w. truth_of_standing w.rel w.sum) (relation-reads Q c x y h g) (λ w r. truth-standing-reads Q w.rel w.sum r);
  goal = λ whole. then-reads Q (StandingOnly Q) Anything (read_relation c x y) (λ w. posts_standing w.rel w.sum) (relation-reads Q c x y h g) (λ w r. standing-reads Q w.rel w.sum r);
}

negation-boolean : (Q : ℕ → Type 0) (b : Boolean) → ReadsBoolean Q b → ReadsBoolean Q (negation b)
unfolding read_truth
negation-boolean Q b h =
    let t : ReadsItem Q (read_truth (negation b)) = then-reads Q (ItemOnly Q) (ItemOnly Q) (read_truth b) truth_of_negation h.truth (negation-reads Q) in
    record { truth = t; goal = λ whole. so-reads Q (negation b) t }

joined-boolean : (Q : ℕ → Type 0) (k : Connective) (b c : Boolean) → ReadsBoolean Q b → ReadsBoolean Q c → ReadsBoolean Q (joined k b c)
unfolding read_truth
joined-boolean Q k b c h g =
    let t : ReadsItem Q (read_truth (joined k b c)) =
    then-reads Q (ItemOnly Q) (ItemOnly Q) (read_truth b) (λ x. then (read_truth c) (λ y. truth_of_joined k x y)) h.truth
    (λ x p. then-reads Q (ItemOnly Q) (ItemOnly Q) (read_truth c) (λ y. truth_of_joined k x y) g.truth (λ y q. joined-reads Q k x y p q)) in
    record { truth = t; goal = λ whole. so-reads Q (joined k b c) t }

either-boolean : (Q : ℕ → Type 0) (p : Bool) (b c : Boolean) → ReadsBoolean Q b → ReadsBoolean Q c → ReadsBoolean Q (cond p b c)
either-boolean Q true b c h k = h
either-boolean Q false b c h k = k

joined-by : (Q : ℕ → Type 0) (o : Option Connective) (whole : Tree) (b c : Boolean) → ReadsBoolean Q b → ReadsBoolean Q c → ReadsBoolean Q (joined_by o whole b c)
joined-by Q None whole b c h k = no-boolean Q whole
joined-by Q (Some j) whole b c h k = joined-boolean Q j b c h k

related-by : (Q : ℕ → Type 0) (o : Option Comparison) (x y : Operand) (b : Boolean) → ReadsOperand Q x → ReadsOperand Q y → ReadsBoolean Q b → ReadsBoolean Q (related_by o x y b)
related-by Q None x y b h k r = r
related-by Q (Some c) x y b h k r = relation-boolean Q c x y h k

boolean-reads : (Q : ℕ → Type 0) (t : Tree) → TermOnly Q t → ReadsBoolean Q (boolean_of t)
unfolding boolean_of Occurs
boolean-reads Q (var m) h = variable-boolean Q m (h m refl)
boolean-reads Q (int i) h = number-boolean Q i
boolean-reads Q (atom name) h = no-boolean Q (atom name)
boolean-reads Q (comp name no_trees) h = no-boolean Q (comp name no_trees)
boolean-reads Q (comp name (tree t no_trees)) h =
    either-boolean Q (bytes_eq name (codes "#~")) (negation (boolean_of t)) (no_boolean (comp name (tree t no_trees))) (negation-boolean Q (boolean_of t) (boolean-reads Q t (λ m o. h m (inl o)))) (no-boolean Q (comp name (tree t no_trees)))
boolean-reads Q (comp name (tree t (tree u no_trees))) h =
    related-by Q (comparison_named name) (operand_of t) (operand_of u) (joined_by (connective_named name) (comp name (tree t (tree u no_trees))) (boolean_of t) (boolean_of u))
    (operand-reads Q t (λ m o. h m (inl o))) (operand-reads Q u (λ m o. h m (inr (inl o))))
    (joined-by Q (connective_named name) (comp name (tree t (tree u no_trees))) (boolean_of t) (boolean_of u) (boolean-reads Q t (λ m o. h m (inl o))) (boolean-reads Q u (λ m o. h m (inr (inl o)))))
boolean-reads Q (comp name (tree t (tree u (tree v ts)))) h = no-boolean Q (comp name (tree t (tree u (tree v ts))))

-- ---- lists

unfoldable EachOnly : (ℕ → Type 0) → List Tree → Type 0
EachOnly Q [] = ⊤
EachOnly Q (t ∷ ts) = TermOnly Q t × EachOnly Q ts

abbrev SomeOnly : (ℕ → Type 0) → Option (List Tree) → Type 0
SomeOnly Q None = ⊤
SomeOnly Q (Some ts) = EachOnly Q ts

each-only : (Q : ℕ → Type 0) (ts : Trees) → ArgumentsOnly Q ts → EachOnly Q (each_tree ts)
unfolding EachOnly each_tree Occurs
each-only Q no_trees h = tt
each-only Q (tree t ts) h = ((λ m o. h m (inl o)), each-only Q ts (λ m o. h m (inr o)))

front-only : (Q : ℕ → Type 0) (t : Tree) (o : Option (List Tree)) → TermOnly Q t → SomeOnly Q o → SomeOnly Q (option_map (λ ts. t ∷ ts) o)
unfolding EachOnly
front-only Q t None s r = tt
front-only Q t (Some ts) s r = (s, r)

empty-only : (Q : ℕ → Type 0) (b : Bool) → SomeOnly Q (option_or (cond b (Some []) None) None)
unfolding EachOnly
empty-only Q true = tt
empty-only Q false = tt

cell-only : (Q : ℕ → Type 0) (b : Bool) (items : Tree → Option (List Tree)) (t u : Tree) → SomeOnly Q (option_map (λ ts. t ∷ ts) (items u)) →
    SomeOnly Q (option_or None (option_and_then (in_front_of items) (cond b (Some (t, u)) None)))
cell-only Q true items t u h = h
cell-only Q false items t u h = tt

list-only : (Q : ℕ → Type 0) (k : ℕ) (t : Tree) → TermOnly Q t → SomeOnly Q (items_for k [] t)
unfolding items_for followed followed_for Occurs
list-only Q zero t h = tt
list-only Q (suc k) (var m) h = tt
list-only Q (suc k) (int i) h = tt
list-only Q (suc k) (atom name) h = empty-only Q (bytes_eq name nil)
list-only Q (suc k) (comp name no_trees) h = tt
list-only Q (suc k) (comp name (tree t no_trees)) h = tt
list-only Q (suc k) (comp name (tree t (tree u no_trees))) h =
    cell-only Q (bytes_eq name cell_name) (items_for k []) t u (front-only Q t (items_for k [] u) (λ m o. h m (inl o)) (list-only Q k u (λ m o. h m (inr (inl o)))))
list-only Q (suc k) (comp name (tree t (tree u (tree v ts)))) h = tt

array-only : (Q : ℕ → Type 0) (b : Bool) (ts : Trees) (o : Option (List Tree)) → ArgumentsOnly Q ts → SomeOnly Q o → SomeOnly Q (option_or (cond b (Some (each_tree ts)) None) o)
array-only Q true ts o h r = each-only Q ts h
array-only Q false ts o h r = r

collection-only : (Q : ℕ → Type 0) (t : Tree) → TermOnly Q t → SomeOnly Q (collection_items [] t)
unfolding list_items followed followed_for Occurs
collection-only Q (var m) h = list-only Q (cells (value [] (var m))) (var m) h
collection-only Q (int i) h = list-only Q (cells (value [] (int i))) (int i) h
collection-only Q (atom name) h = list-only Q (cells (value [] (atom name))) (atom name) h
collection-only Q (comp name ts) h = array-only Q _ ts (list_items [] (comp name ts)) h (list-only Q (cells (value [] (comp name ts))) (comp name ts) h)

or-refused : (Q : ℕ → Type 0) (t : Tree) (o : Option (List Tree)) → SomeOnly Q o → Reads Q (EachOnly Q) (items_or_refused t o)
or-refused Q t None h = refuses-reads Q (EachOnly Q) (not_a_constraint t)
or-refused Q t (Some ts) h = gives-reads Q (EachOnly Q) ts h

collection-reads : (Q : ℕ → Type 0) (t : Tree) → TermOnly Q t → Reads Q (EachOnly Q) (read_collection t)
collection-reads Q t h = or-refused Q t (collection_items [] t) (collection-only Q t h)

one-reads : (Q : ℕ → Type 0) (t : Tree) → TermOnly Q t → ReadsItem Q (read_item t)
unfolding Occurs
one-reads Q (var n) h = gives-reads Q (ItemOnly Q) (Item.Var n) (h n refl)
one-reads Q (int i) h = gives-reads Q (ItemOnly Q) (Item.Int i) tt
one-reads Q (atom name) h = refuses-reads Q (ItemOnly Q) (not_a_constraint (atom name))
one-reads Q (comp name ts) h = refuses-reads Q (ItemOnly Q) (not_a_constraint (comp name ts))

each-reads : (Q : ℕ → Type 0) (ts : List Tree) → EachOnly Q ts → Reads Q (ItemsOnly Q) (read_each ts)
unfolding EachOnly Each read_each
each-reads Q [] h = gives-reads Q (ItemsOnly Q) [] tt
each-reads Q (t ∷ ts) h =
    then-reads Q (ItemOnly Q) (ItemsOnly Q) (read_item t) (λ x. then (read_each ts) (λ xs. gives (x ∷ xs))) (one-reads Q t h.0)
    (λ x p. then-reads Q (ItemsOnly Q) (ItemsOnly Q) (read_each ts) (λ xs. gives (x ∷ xs)) (each-reads Q ts h.1) (λ xs q. gives-reads Q (ItemsOnly Q) (x ∷ xs) (p, q)))

-- a constraint over the items of a list or an array
over-items : (Q : ℕ → Type 0) (f : List Item → Constraint) → ((xs : List Item) → ItemsOnly Q xs → PlacesOnly Q (f xs)) → (t : Tree) → TermOnly Q t →
    Reads Q Anything (then (read_collection t) (λ ts. then (read_each ts) (λ xs. posting (f xs) (gives tt))))
over-items Q f only t h =
    then-reads Q (EachOnly Q) Anything (read_collection t) (λ ts. then (read_each ts) (λ xs. posting (f xs) (gives tt))) (collection-reads Q t h)
    (λ ts p. then-reads Q (ItemsOnly Q) Anything (read_each ts) (λ xs. posting (f xs) (gives tt)) (each-reads Q ts p)
    (λ xs q. posting-reads Q Anything (f xs) (gives tt) (only xs q) (done-reads Q)))

element-places : (Q : ℕ → Type 0) (x v : Item) (xs : List Item) → ItemOnly Q x → ItemOnly Q v → ItemsOnly Q xs → PlacesOnly Q (Constraint.Element x xs v)
unfolding Each
element-places Q x v xs p q r = (p, each-append (ItemOnly Q) xs (v ∷ []) r (q, tt))

element-reads : (Q : ℕ → Type 0) (i l v : Tree) → TermOnly Q i → TermOnly Q l → TermOnly Q v → Reads Q Anything (read_goal (element i l v))
element-reads Q i l v a b c =
    then-reads Q (ItemOnly Q) Anything (read_item i) _ (one-reads Q i a)
    (λ x p. then-reads Q (EachOnly Q) Anything (read_collection l) _ (collection-reads Q l b)
    (λ ts r. then-reads Q (ItemOnly Q) Anything (read_item v) _ (one-reads Q v c)
    (λ y q. then-reads Q (ItemsOnly Q) Anything (read_each ts) _ (each-reads Q ts r)
    (λ xs s. posting-reads Q Anything (Constraint.Element x xs y) (gives tt) (element-places Q x y xs p q s) (done-reads Q)))))

-- ---- goals

goal-either : (Q : ℕ → Type 0) (p : Bool) (g h : Goal) → Reads Q Anything (read_goal g) → Reads Q Anything (read_goal h) → Reads Q Anything (read_goal (cond p g h))
goal-either Q true g h a b = a
goal-either Q false g h a b = b

pub goal-reads : (Q : ℕ → Type 0) (t : Tree) → TermOnly Q t → Reads Q Anything (read_goal (goal_of t))
unfolding goal_of Occurs
goal-reads Q (var m) h = refused Q (var m)
goal-reads Q (int i) h = refused Q (int i)
goal-reads Q (atom name) h = refused Q (atom name)
goal-reads Q (comp name no_trees) h = refused Q (comp name no_trees)
goal-reads Q (comp name (tree t no_trees)) h =
    let whole : Tree = comp name (tree t no_trees) in
    let inner : TermOnly Q t = λ m o. h m (inl o) in
    goal-either Q (bytes_eq name (codes "all_different")) (all_different t) (cond (bytes_eq name (codes "all_distinct")) (all_distinct t) (goal_of_boolean (boolean_of whole) whole))
    (over-items Q Constraint.Different (λ xs q. q) t inner)
    (goal-either Q (bytes_eq name (codes "all_distinct")) (all_distinct t) (goal_of_boolean (boolean_of whole) whole) (over-items Q Constraint.Distinct (λ xs q. q) t inner) ((boolean-reads Q whole h).goal whole))
goal-reads Q (comp name (tree t (tree u no_trees))) h = let whole : Tree = comp name (tree t (tree u no_trees)) in (boolean-reads Q whole h).goal whole
goal-reads Q (comp name (tree t (tree u (tree v no_trees)))) h =
    let whole : Tree = comp name (tree t (tree u (tree v no_trees))) in
    goal-either Q (bytes_eq name (codes "element")) (element t u v) (no_constraint whole)
    (element-reads Q t u v (λ m o. h m (inl o)) (λ m o. h m (inr (inl o))) (λ m o. h m (inr (inr (inl o))))) (refused Q whole)
goal-reads Q (comp name (tree t (tree u (tree v (tree w ts))))) h = refused Q (comp name (tree t (tree u (tree v (tree w ts)))))
