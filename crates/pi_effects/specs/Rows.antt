-- Tables of built-ins: a line is a name with what is done with so many arguments. What is done is a function of the state and of
-- the arguments; what it gives is told beside each table. (Own.)
use Rattle.std.specs.Prelude.{ℕ, zero, suc, nat_lt, cond, Bool, true, false, ◌&&◌, List, [], ◌∷◌, Option, Some, None}
use Rattle.std.specs.Option.{option_or}
use Rattle.std.specs.List.{list_any}
use Rattle.std.specs.Str.{bytes_eq}
use Rattle.pi_terms.specs.Tree.{Tree, Trees, no_trees, tree, tree_count}
use Rattle.pi_constraints.specs.State.{State}
use Rattle.pi_effects.specs.Items.{each_tree}

-- what is done with no argument, with one, two or three; and with one and others behind it, so many in all at most
pub data Body (R : Type 0) : Type 0 where
  of_none : (State → R) → Body R
  of_one : (State → Tree → R) → Body R
  of_two : (State → Tree → Tree → R) → Body R
  of_three : (State → Tree → Tree → Tree → R) → Body R
  of_many : ℕ → (State → Tree → List Tree → R) → Body R

pub record Row (R : Type 0) : Type 0 where
  pub name : List ℕ
  pub body : Body R

abbrev pub line : {R : Type 0} → List ℕ → Body R → Row R
line name body = record { name = name; body = body }

-- what is done with these arguments; None where it is done with another number of them
abbrev pub with_arguments : {R : Type 0} → Body R → Trees → State → Option R
with_arguments (of_none f) no_trees s = Some (f s)
with_arguments (of_one f) (tree t no_trees) s = Some (f s t)
with_arguments (of_two f) (tree t (tree u no_trees)) s = Some (f s t u)
with_arguments (of_three f) (tree t (tree u (tree w no_trees))) s = Some (f s t u w)
with_arguments (of_many most f) (tree t ts) s = cond (nat_lt (tree_count ts) most) (Some (f s t (each_tree ts))) None
with_arguments body ts s = None

abbrev pub done_by_row : {R : Type 0} → Row R → List ℕ → Trees → State → Option R
done_by_row r name ts s = cond (bytes_eq r.name name) (with_arguments r.body ts s) None

-- what a name does with these arguments; None where no line has it with so many
unfoldable pub done_by : {R : Type 0} → List (Row R) → List ℕ → Trees → State → Option R
done_by [] name ts s = None
done_by (r ∷ rows) name ts s = option_or (done_by_row r name ts s) (done_by rows name ts s)

-- it is done with so many arguments
abbrev pub fits : {R : Type 0} → Body R → ℕ → Bool
fits (of_none f) zero = true
fits (of_none f) (suc k) = false
fits (of_one f) zero = false
fits (of_one f) (suc zero) = true
fits (of_one f) (suc (suc k)) = false
fits (of_two f) zero = false
fits (of_two f) (suc zero) = false
fits (of_two f) (suc (suc zero)) = true
fits (of_two f) (suc (suc (suc k))) = false
fits (of_three f) zero = false
fits (of_three f) (suc zero) = false
fits (of_three f) (suc (suc zero)) = false
fits (of_three f) (suc (suc (suc zero))) = true
fits (of_three f) (suc (suc (suc (suc k)))) = false
fits (of_many most f) zero = false
fits (of_many most f) (suc k) = nat_lt k most

-- a line has the name with so many arguments
unfoldable pub has_line : {R : Type 0} → List (Row R) → List ℕ → ℕ → Bool
has_line rows name k = list_any (λ r. bytes_eq r.name name && fits r.body k) rows
