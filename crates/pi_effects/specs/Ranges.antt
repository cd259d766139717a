-- Ranges as lists of their values (A User's Guide to Picat, 'Data Types, Operators, and Built-ins'; the limit and what is raised are own).
use Rattle.std.specs.Prelude.{ℕ, zero, suc, ◌/◌, nat_lt, ◌&&◌, cond, ℤ, pos, negsuc, ◌+ℤ◌, int_le, List, [], ◌∷◌, codes, Ok, Err}
use Rattle.std.specs.Int.{int_gap}
use Rattle.pi_terms.specs.Tree.{Tree, int}
use Rattle.pi_effects.specs.Range.{has_128_bits}
use Rattle.pi_effects.specs.declared.arith_fault.ArithFault.TheVariants.{Overflow}
use Rattle.pi_effects.specs.Exception.{bad_range, range_too_long}
use Rattle.pi_effects.specs.Answer.{Answer, integer_then, integers_then}
use Rattle.pi_effects.specs.Items.{list_of}
use Rattle.pi_effects.specs.Integers.{fault_term}
use Rattle.pi_effects.specs.Rows.{of_two, of_three, Row, line}

-- the most values of a range, and the most items of a list or an array of new variables (own)
abbrev pub most_items : ℕ
most_items = 16777216

-- how many values there are from one number in steps to another, both among them
abbrev pub count_by : ℤ → ℤ → ℤ → ℕ
count_by low (pos zero) high = 0
count_by low (pos (suc n)) high = cond (int_le low high) (suc (int_gap low high / suc n)) 0
count_by low (negsuc n) high = cond (int_le high low) (suc (int_gap high low / suc n)) 0

-- so many of them
unfoldable pub values_by : ℕ → ℤ → ℤ → List Tree
values_by zero low step = []
values_by (suc k) low step = int low ∷ values_by k (low +ℤ step) step

-- what is made of the number of values, where these are no more than a list has; a bound of more than 128 bits is no number of the language, and raises what a sum does that
-- comes to one
abbrev pub counted : {A : Type 0} → (ℕ → A) → ℤ → ℤ → ℤ → Answer A
counted make low step high =
    let count : ℕ = count_by low step high in
    cond (nat_lt most_items count) (Err range_too_long) (cond (has_128_bits low && has_128_bits high) (Ok (make count)) (Err (fault_term Overflow)))

-- the same for a step that may be 0, by which there is no range
abbrev pub counted_by : {A : Type 0} → (ℕ → A) → ℤ → ℤ → ℤ → Answer A
counted_by make low (pos zero) high = Err bad_range
counted_by make low (pos (suc n)) high = counted make low (pos (suc n)) high
counted_by make low (negsuc n) high = counted make low (negsuc n) high

abbrev pub range : ℤ → ℤ → ℤ → Answer Tree
range low step high = counted (λ count. list_of (values_by count low step)) low step high

abbrev pub range_by : ℤ → ℤ → ℤ → Answer Tree
range_by low step high = counted_by (λ count. list_of (values_by count low step)) low step high

-- bounds and step in the order in which they are written, the first that is no integer is told
unfoldable pub range_functions : List (Row (Answer Tree))
range_functions =
    line (codes "..") (of_two (λ s t u. integers_then s t u (λ low high. range low (pos 1) high))) ∷
    line (codes "..") (of_three (λ s t u w. integer_then s t (λ low. integers_then s u w (λ step high. range_by low step high)))) ∷
    []
