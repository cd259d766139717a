-- Sums as constraints have them: equal variables are joined, coefficients of 0 are dropped, and terms ascend by variable. (Own.)
use Rattle.std.specs.Prelude.{◌≢◌, ⊤, ◌≤◌, ℕ, zero, suc, ◌==◌, nat_lt, cond, List, [], ◌∷◌, ℤ, pos, negsuc, ◌+ℤ◌, ◌*ℤ◌}
use Rattle.pi_constraints.specs.declared.constraint.Item.{Item}
use Rattle.pi_prop_spec.specs.Solutions.{sum_of}

-- the sum of the terms, each a coefficient and a variable, and of the constant
pub record Sum : Type 0 where
  pub terms : List (ℤ × ℕ)
  pub constant : ℤ

abbrev pub of_number : ℤ → Sum
of_number i = record { terms = []; constant = i }

abbrev pub of_variable : ℕ → Sum
of_variable n = record { terms = (pos 1, n) ∷ []; constant = pos 0 }

abbrev pub of_item : Item → Sum
of_item (Item.Var n) = of_variable n
of_item (Item.Int i) = of_number i

-- a term in front of others, unless its coefficient is 0
abbrev pub in_front : ℤ → ℕ → List (ℤ × ℕ) → List (ℤ × ℕ)
in_front (pos zero) n ts = ts
in_front (pos (suc c)) n ts = (pos (suc c), n) ∷ ts
in_front (negsuc c) n ts = (negsuc c, n) ∷ ts

-- one more term among terms that ascend: joined with that of its variable, where there is one
unfoldable pub with_term : ℤ → ℕ → List (ℤ × ℕ) → List (ℤ × ℕ)
with_term c n [] = in_front c n []
with_term c n (t ∷ ts) = cond (nat_lt n t.1) (in_front c n (t ∷ ts)) (cond (n == t.1) (in_front (c +ℤ t.0) n ts) (t ∷ with_term c n ts))

-- the terms of two sums
unfoldable pub with_terms : List (ℤ × ℕ) → List (ℤ × ℕ) → List (ℤ × ℕ)
with_terms [] us = us
with_terms (t ∷ ts) us = with_term t.0 t.1 (with_terms ts us)

unfoldable pub scaled_terms : ℤ → List (ℤ × ℕ) → List (ℤ × ℕ)
scaled_terms c [] = []
scaled_terms c (t ∷ ts) = in_front (c *ℤ t.0) t.1 (scaled_terms c ts)

-- two sums added
abbrev pub added : Sum → Sum → Sum
added u v = record { terms = with_terms u.terms v.terms; constant = u.constant +ℤ v.constant }

-- a number times a sum
abbrev pub scaled : ℤ → Sum → Sum
scaled c u = record { terms = scaled_terms c u.terms; constant = c *ℤ u.constant }

abbrev pub opposite : Sum → Sum
opposite u = scaled (negsuc 0) u

-- one sum without another
abbrev pub difference : Sum → Sum → Sum
difference u v = added u (opposite v)

-- what a sum comes to where variable n has the value a n
abbrev pub sum_value : (ℕ → ℤ) → Sum → ℤ
sum_value a u = u.constant +ℤ sum_of a u.terms

-- terms as a joined sum has them: from a variable on they ascend, and no coefficient is 0
unfoldable pub Ascend : ℕ → List (ℤ × ℕ) → Type 0
Ascend least [] = ⊤
Ascend least (t ∷ ts) = (t.0 ≢ pos 0) × (least ≤ t.1) × Ascend (suc t.1) ts

-- the coefficient of a variable, 0 where it has no term
unfoldable pub coefficient : List (ℤ × ℕ) → ℕ → ℤ
coefficient [] n = pos 0
coefficient (t ∷ ts) n = cond (n == t.1) (t.0 +ℤ coefficient ts n) (coefficient ts n)
