-- What comes of a built-in that leaves the state as it is: something, or a term that is raised in its place. (Own.)
use Rattle.std.specs.Prelude.{ℤ, nat_lt, cond, codes, Option, Some, None, Result, Ok, Err}
use Rattle.pi_terms.specs.Tree.{Tree, var, int, atom, comp, cells, most_cells}
use Rattle.pi_constraints.specs.State.{State, bindings, followed}
use Rattle.pi_effects.specs.Exception.{term_too_large, type_error}

abbrev pub Answer : Type 0 → Type 0
Answer A = Result A Tree

-- what follows from what is there; where nothing is, this term is raised
abbrev pub found_or : {A B : Type 0} → Option A → Tree → (A → Answer B) → Answer B
found_or None ball f = Err ball
found_or (Some x) ball f = f x

-- the same in short, where what is there is the answer
abbrev pub or_raised : {A : Type 0} → Option A → Tree → Answer A
or_raised None ball = Err ball
or_raised (Some x) ball = Ok x

-- what is made of a whole term, where that has no more than the most cells
abbrev pub measured : {A : Type 0} → Tree → Answer A → Answer A
measured t a = cond (nat_lt most_cells (cells t)) (Err term_too_large) a

-- ---- integers as arguments

abbrev pub integer_at : Tree → Option ℤ
integer_at (var n) = None
integer_at (int i) = Some i
integer_at (atom name) = None
integer_at (comp name ts) = None

-- what follows from an integer; any other term is of a wrong kind
abbrev pub integer_then : {A : Type 0} → State → Tree → (ℤ → Answer A) → Answer A
integer_then s t f = found_or (integer_at (followed (bindings s) t)) (type_error (codes "integer") t s) f

-- what follows from two integers: the first wrong argument from the left is told
abbrev pub integers_then : {A : Type 0} → State → Tree → Tree → (ℤ → ℤ → Answer A) → Answer A
integers_then s t u f = integer_then s t (λ m. integer_then s u (λ n. f m n))
