-- An operand's reading speaks of the variables of its term and of new ones.
use Rattle.std.specs.Prelude.{⊤, ℕ, Bool, true, false, cond, List, Option, Some, None, option_map, codes, refl}
use Rattle.std.specs.Option.{option_or}
use Rattle.std.specs.Str.{bytes_eq}
use Rattle.std.proofs.Common.{inl, inr}
use Rattle.pi_terms.specs.Tree.{Tree, var, int, atom, comp, Trees, no_trees, tree}
use Rattle.pi_terms.specs.ListNames.{nil, cell_name}
use Rattle.pi_terms.specs.Variables.{Occurs, OccursInAny}
use Rattle.pi_prop_spec.specs.Operands.{Operand, plus, minus, times, positive, negative, absolute, no_operand, Operands, no_operands, operand}
use Rattle.pi_prop_spec.specs.Terms.{total_of, one_part, two_parts, operand_of, operands_of, operands_of_array, operands_of_list}
use Rattle.pi_prop_spec.specs.Steps.{not_a_constraint, read_operand}
use Rattle.pi_settling.proofs.CalmReads.{SumOnly, refuses-reads, ReadsOperand, ReadsItems, number-reads, variable-reads, plus-reads, minus-reads, times-reads, positive-reads, negative-reads, absolute-reads, total-reads, no-items-read, item-reads}

-- a term's variables are of such a kind
abbrev pub TermOnly : (ℕ → Type 0) → Tree → Type 0
TermOnly Q t = (m : ℕ) → Occurs m t → Q m

abbrev pub ArgumentsOnly : (ℕ → Type 0) → Trees → Type 0
ArgumentsOnly Q ts = (m : ℕ) → OccursInAny m ts → Q m

-- ---- operands

none-reads : (Q : ℕ → Type 0) (t : Tree) → ReadsOperand Q (no_operand t)
unfolding read_operand
none-reads Q t = refuses-reads Q (SumOnly Q) (not_a_constraint t)

-- where there are operands
abbrev SomeItems : (ℕ → Type 0) → Option Operands → Type 0
SomeItems Q None = ⊤
SomeItems Q (Some xs) = ReadsItems Q xs

either-way : (Q : ℕ → Type 0) (b : Bool) (x y : Operand) → ReadsOperand Q x → ReadsOperand Q y → ReadsOperand Q (cond b x y)
either-way Q true x y h k = h
either-way Q false x y h k = k

total-of : (Q : ℕ → Type 0) (t : Tree) (o : Option Operands) → SomeItems Q o → ReadsOperand Q (total_of t o)
total-of Q t None h = none-reads Q t
total-of Q t (Some xs) h = total-reads Q xs h

one-part : (Q : ℕ → Type 0) (name : List ℕ) (whole t : Tree) (x : Operand) (o : Option Operands) → ReadsOperand Q x → SomeItems Q o → ReadsOperand Q (one_part name whole t x o)
one-part Q name whole t x o h k =
    either-way Q (bytes_eq name (codes "+")) (positive x) _ (positive-reads Q x h)
    (either-way Q (bytes_eq name (codes "-")) (negative x) _ (negative-reads Q x h)
    (either-way Q (bytes_eq name (codes "abs")) (absolute x) _ (absolute-reads Q x h)
    (either-way Q (bytes_eq name (codes "sum")) (total_of t o) (no_operand whole) (total-of Q t o k) (none-reads Q whole))))

two-parts : (Q : ℕ → Type 0) (name : List ℕ) (whole : Tree) (x y : Operand) → ReadsOperand Q x → ReadsOperand Q y → ReadsOperand Q (two_parts name whole x y)
two-parts Q name whole x y h k =
    either-way Q (bytes_eq name (codes "+")) (plus x y) _ (plus-reads Q x y h k)
    (either-way Q (bytes_eq name (codes "-")) (minus x y) _ (minus-reads Q x y h k)
    (either-way Q (bytes_eq name (codes "*")) (times x y) (no_operand whole) (times-reads Q x y h k) (none-reads Q whole)))

or-items : (Q : ℕ → Type 0) (o p : Option Operands) → SomeItems Q o → SomeItems Q p → SomeItems Q (option_or o p)
or-items Q None p h k = k
or-items Q (Some xs) p h k = h

only-items : (Q : ℕ → Type 0) (b : Bool) (o : Option Operands) → SomeItems Q o → SomeItems Q (cond b o None)
only-items Q true o h = h
only-items Q false o h = tt

front-items : (Q : ℕ → Type 0) (x : Operand) (o : Option Operands) → ReadsOperand Q x → SomeItems Q o → SomeItems Q (option_map (operand x) o)
front-items Q x None h k = tt
front-items Q x (Some xs) h k = item-reads Q x xs h k

mutual
  unfolding operand_of Occurs

  pub operand-reads : (Q : ℕ → Type 0) (t : Tree) → TermOnly Q t → ReadsOperand Q (operand_of t)
  operand-reads Q (var m) h = variable-reads Q m (h m refl)
  operand-reads Q (int i) h = number-reads Q i
  operand-reads Q (atom name) h = none-reads Q (atom name)
  operand-reads Q (comp name no_trees) h = none-reads Q (comp name no_trees)
  operand-reads Q (comp name (tree t no_trees)) h =
      one-part Q name (comp name (tree t no_trees)) t (operand_of t) (option_or (operands_of_array t) (operands_of_list t)) (operand-reads Q t (λ m o. h m (inl o)))
      (or-items Q (operands_of_array t) (operands_of_list t) (array-reads Q t (λ m o. h m (inl o))) (list-reads Q t (λ m o. h m (inl o))))
  operand-reads Q (comp name (tree t (tree u no_trees))) h =
      two-parts Q name (comp name (tree t (tree u no_trees))) (operand_of t) (operand_of u) (operand-reads Q t (λ m o. h m (inl o))) (operand-reads Q u (λ m o. h m (inr (inl o))))
  operand-reads Q (comp name (tree t (tree u (tree v ts)))) h = none-reads Q (comp name (tree t (tree u (tree v ts))))

  operands-reads : (Q : ℕ → Type 0) (ts : Trees) → ArgumentsOnly Q ts → ReadsItems Q (operands_of ts)
  operands-reads Q no_trees h = no-items-read Q
  operands-reads Q (tree t ts) h = item-reads Q (operand_of t) (operands_of ts) (operand-reads Q t (λ m o. h m (inl o))) (operands-reads Q ts (λ m o. h m (inr o)))

  array-reads : (Q : ℕ → Type 0) (t : Tree) → TermOnly Q t → SomeItems Q (operands_of_array t)
  array-reads Q (var m) h = tt
  array-reads Q (int i) h = tt
  array-reads Q (atom name) h = tt
  array-reads Q (comp name ts) h = only-items Q _ (Some (operands_of ts)) (operands-reads Q ts h)

  list-reads : (Q : ℕ → Type 0) (t : Tree) → TermOnly Q t → SomeItems Q (operands_of_list t)
  list-reads Q (var m) h = tt
  list-reads Q (int i) h = tt
  list-reads Q (atom name) h = only-items Q (bytes_eq name nil) (Some no_operands) (no-items-read Q)
  list-reads Q (comp name no_trees) h = tt
  list-reads Q (comp name (tree t no_trees)) h = tt
  list-reads Q (comp name (tree t (tree u no_trees))) h =
      only-items Q (bytes_eq name cell_name) (option_map (operand (operand_of t)) (operands_of_list u))
      (front-items Q (operand_of t) (operands_of_list u) (operand-reads Q t (λ m o. h m (inl o))) (list-reads Q u (λ m o. h m (inr (inl o)))))
  list-reads Q (comp name (tree t (tree u (tree v ts)))) h = tt
