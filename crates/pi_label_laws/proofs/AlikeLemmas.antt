-- The value of an operand goes by those of its variables, also where these are replaced by variables or integers.
use Rattle.std.specs.Prelude.{◌≡◌, ◌⊎◌, ⊤, ℕ, ℤ, ◌+ℤ◌, ◌-ℤ◌, ◌*ℤ◌, neg_ℤ, Bool, true, false, cond, List, Option, Some, None, option_map, codes, refl}
use Rattle.std.specs.Option.{option_or}
use Rattle.std.specs.Str.{bytes_eq}
use Rattle.std.proofs.Common.{sym, ◌∙◌, ap, subst, inl, inr}
use Rattle.pi_terms.specs.Tree.{Tree, var, int, atom, comp, Trees, no_trees, tree}
use Rattle.pi_terms.specs.ListNames.{nil, cell_name}
use Rattle.pi_terms.specs.Variables.{Occurs, OccursInAny}
use Rattle.pi_terms.specs.Substitution.{instance, instances}
use Rattle.pi_terms.proofs.VariableLemmas.{instance-var}
use Rattle.pi_prop_spec.specs.Rules.{magnitude}
use Rattle.pi_prop_spec.specs.Operands.{Operand, plus, minus, times, positive, negative, absolute, no_operand, Operands, no_operands, operand}
use Rattle.pi_prop_spec.specs.Terms.{total_of, one_part, two_parts, operand_of, operands_of, operands_of_array, operands_of_list}
use Rattle.pi_prop_spec.specs.Says.{operand_value, total_value}

-- what is put in place of a variable is a variable or an integer, of the same value
abbrev pub Put : (ℕ → Tree) → (ℕ → ℤ) → (ℕ → ℤ) → ℕ → Type 0
Put s a b n = ((m : ℕ) × (s n ≡ var m) × (a m ≡ b n)) ⊎ ((i : ℤ) × (s n ≡ int i) × (i ≡ b n))

abbrev Same : (ℕ → ℤ) → (ℕ → ℤ) → Operand → Operand → Type 0
Same a b x y = operand_value a x ≡ operand_value b y

abbrev SomeSame : (ℕ → ℤ) → (ℕ → ℤ) → Option Operands → Option Operands → Type 0
SomeSame a b None None = ⊤
SomeSame a b None (Some ys) = ⊥
SomeSame a b (Some xs) None = ⊥
SomeSame a b (Some xs) (Some ys) = total_value a xs ≡ total_value b ys

either-same : (a b : ℕ → ℤ) (p : Bool) (x y v w : Operand) → Same a b x v → Same a b y w → Same a b (cond p x y) (cond p v w)
either-same a b true x y v w h k = h
either-same a b false x y v w h k = k

none-same : (a b : ℕ → ℤ) (t u : Tree) → Same a b (no_operand t) (no_operand u)
unfolding operand_value
none-same a b t u = refl

total-same : (a b : ℕ → ℤ) (t u : Tree) (o p : Option Operands) → SomeSame a b o p → Same a b (total_of t o) (total_of u p)
unfolding operand_value
total-same a b t u None None h = refl
total-same a b t u None (Some ys) h = absurd h
total-same a b t u (Some xs) None h = absurd h
total-same a b t u (Some xs) (Some ys) h = h

one-same : (a b : ℕ → ℤ) (name : List ℕ) (w w' t t' : Tree) (x y : Operand) (o p : Option Operands) → Same a b x y → SomeSame a b o p → Same a b (one_part name w t x o) (one_part name w' t' y p)
unfolding operand_value
one-same a b name w w' t t' x y o p h k =
    either-same a b (bytes_eq name (codes "+")) (positive x) _ (positive y) _ h
    (either-same a b (bytes_eq name (codes "-")) (negative x) _ (negative y) _ (ap neg_ℤ h)
    (either-same a b (bytes_eq name (codes "abs")) (absolute x) _ (absolute y) _ (ap magnitude h)
    (either-same a b (bytes_eq name (codes "sum")) (total_of t o) (no_operand w) (total_of t' p) (no_operand w') (total-same a b t t' o p k) (none-same a b w w'))))

two-same : (a b : ℕ → ℤ) (name : List ℕ) (w w' : Tree) (x y v z : Operand) → Same a b x v → Same a b y z → Same a b (two_parts name w x y) (two_parts name w' v z)
unfolding operand_value
two-same a b name w w' x y v z h k =
    either-same a b (bytes_eq name (codes "+")) (plus x y) _ (plus v z) _ (λ i. h i +ℤ k i)
    (either-same a b (bytes_eq name (codes "-")) (minus x y) _ (minus v z) _ (λ i. h i -ℤ k i)
    (either-same a b (bytes_eq name (codes "*")) (times x y) (no_operand w) (times v z) (no_operand w') (λ i. h i *ℤ k i) (none-same a b w w')))

or-same : (a b : ℕ → ℤ) (o p q r : Option Operands) → SomeSame a b o q → SomeSame a b p r → SomeSame a b (option_or o p) (option_or q r)
or-same a b None p None r h k = k
or-same a b None p (Some ys) r h k = absurd h
or-same a b (Some xs) p None r h k = absurd h
or-same a b (Some xs) p (Some ys) r h k = h

only-same : (a b : ℕ → ℤ) (c : Bool) (o p : Option Operands) → SomeSame a b o p → SomeSame a b (cond c o None) (cond c p None)
only-same a b true o p h = h
only-same a b false o p h = tt

front-same : (a b : ℕ → ℤ) (x y : Operand) (o p : Option Operands) → Same a b x y → SomeSame a b o p → SomeSame a b (option_map (operand x) o) (option_map (operand y) p)
unfolding operand_value
front-same a b x y None None h k = tt
front-same a b x y None (Some ys) h k = absurd k
front-same a b x y (Some xs) None h k = absurd k
front-same a b x y (Some xs) (Some ys) h k = λ i. h i +ℤ k i

variable-same : (s : ℕ → Tree) (a b : ℕ → ℤ) (n : ℕ) → Put s a b n → operand_value a (operand_of (s n)) ≡ b n
unfolding operand_of operand_value
variable-same s a b n (inl (m, e, f)) = ap (λ (t : Tree). operand_value a (operand_of t)) e ∙ f
variable-same s a b n (inr (i, e, f)) = ap (λ (t : Tree). operand_value a (operand_of t)) e ∙ f

variable-array : (s : ℕ → Tree) (a b : ℕ → ℤ) (n : ℕ) → Put s a b n → SomeSame a b (operands_of_array (s n)) None
unfolding operands_of_array
variable-array s a b n (inl (m, e, f)) = subst (λ (t : Tree). SomeSame a b (operands_of_array t) None) (sym e) tt
variable-array s a b n (inr (i, e, f)) = subst (λ (t : Tree). SomeSame a b (operands_of_array t) None) (sym e) tt

variable-list : (s : ℕ → Tree) (a b : ℕ → ℤ) (n : ℕ) → Put s a b n → SomeSame a b (operands_of_list (s n)) None
unfolding operands_of_list
variable-list s a b n (inl (m, e, f)) = subst (λ (t : Tree). SomeSame a b (operands_of_list t) None) (sym e) tt
variable-list s a b n (inr (i, e, f)) = subst (λ (t : Tree). SomeSame a b (operands_of_list t) None) (sym e) tt

mutual
  unfolding instance operand_of operand_value Occurs

  pub instance-same : (s : ℕ → Tree) (a b : ℕ → ℤ) (t : Tree) → ((n : ℕ) → Occurs n t → Put s a b n) → operand_value a (operand_of (instance s t)) ≡ operand_value b (operand_of t)
  instance-same s a b (var n) h = variable-same s a b n (h n refl)
  instance-same s a b (int i) h = refl
  instance-same s a b (atom name) h = refl
  instance-same s a b (comp name no_trees) h = refl
  instance-same s a b (comp name (tree t no_trees)) h =
      one-same a b name _ _ (instance s t) t (operand_of (instance s t)) (operand_of t) (option_or (operands_of_array (instance s t)) (operands_of_list (instance s t))) (option_or (operands_of_array t) (operands_of_list t))
      (instance-same s a b t (λ n o. h n (inl o)))
      (or-same a b (operands_of_array (instance s t)) (operands_of_list (instance s t)) (operands_of_array t) (operands_of_list t) (array-same s a b t (λ n o. h n (inl o))) (list-same s a b t (λ n o. h n (inl o))))
  instance-same s a b (comp name (tree t (tree u no_trees))) h =
      two-same a b name _ _ (operand_of (instance s t)) (operand_of (instance s u)) (operand_of t) (operand_of u) (instance-same s a b t (λ n o. h n (inl o))) (instance-same s a b u (λ n o. h n (inr (inl o))))
  instance-same s a b (comp name (tree t (tree u (tree v ts)))) h = refl

  operands-same : (s : ℕ → Tree) (a b : ℕ → ℤ) (ts : Trees) → ((n : ℕ) → OccursInAny n ts → Put s a b n) → total_value a (operands_of (instances s ts)) ≡ total_value b (operands_of ts)
  operands-same s a b no_trees h = refl
  operands-same s a b (tree t ts) h =
      let first = instance-same s a b t (λ n o. h n (inl o)) in
      let rest = operands-same s a b ts (λ n o. h n (inr o)) in
      (λ i. first i +ℤ rest i)

  array-same : (s : ℕ → Tree) (a b : ℕ → ℤ) (t : Tree) → ((n : ℕ) → Occurs n t → Put s a b n) → SomeSame a b (operands_of_array (instance s t)) (operands_of_array t)
  array-same s a b (var n) h = variable-array s a b n (h n refl)
  array-same s a b (int i) h = tt
  array-same s a b (atom name) h = tt
  array-same s a b (comp name ts) h = only-same a b _ (Some (operands_of (instances s ts))) (Some (operands_of ts)) (operands-same s a b ts h)

  list-same : (s : ℕ → Tree) (a b : ℕ → ℤ) (t : Tree) → ((n : ℕ) → Occurs n t → Put s a b n) → SomeSame a b (operands_of_list (instance s t)) (operands_of_list t)
  list-same s a b (var n) h = variable-list s a b n (h n refl)
  list-same s a b (int i) h = tt
  list-same s a b (atom name) h = only-same a b (bytes_eq name nil) (Some no_operands) (Some no_operands) refl
  list-same s a b (comp name no_trees) h = tt
  list-same s a b (comp name (tree t no_trees)) h = tt
  list-same s a b (comp name (tree t (tree u no_trees))) h =
      only-same a b (bytes_eq name cell_name) (option_map (operand (operand_of (instance s t))) (operands_of_list (instance s u))) (option_map (operand (operand_of t)) (operands_of_list u))
      (front-same a b (operand_of (instance s t)) (operand_of t) (operands_of_list (instance s u)) (operands_of_list u) (instance-same s a b t (λ n o. h n (inl o))) (list-same s a b u (λ n o. h n (inr (inl o)))))
  list-same s a b (comp name (tree t (tree u (tree v ts)))) h = tt

-- values that agree on the variables of a term
pub values-same : (a b : ℕ → ℤ) (t : Tree) → ((n : ℕ) → Occurs n t → a n ≡ b n) → operand_value a (operand_of t) ≡ operand_value b (operand_of t)
values-same a b t h = ap (λ (u : Tree). operand_value a (operand_of u)) (sym (instance-var t)) ∙ instance-same var a b t (λ n o. inl (n, refl, h n o))
