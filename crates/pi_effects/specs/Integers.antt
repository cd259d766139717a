-- Functions on integers (A User's Guide to Picat, 'Arithmetic'; the 128 bits, the limits of shifts and the names of faults are own).
-- What each operation comes to is said in `pi_effects`; an argument that is no integer is told before any fault, the first from the left.
use Rattle.std.specs.Prelude.{ℕ, ℤ, pos, List, [], ◌∷◌, codes, Ok, Err}
use Rattle.std.specs.Int.{int_min, int_max}
use Rattle.pi_terms.specs.Tree.{Tree, int, atom}
use Rattle.pi_effects.specs.Range.{Outcome}
use Rattle.pi_effects.specs.Value.{value_of}
use Rattle.pi_effects.specs.declared.arith_fault.ArithFault.{ArithFault}
use Rattle.pi_effects.specs.declared.arith_fault.ArithFault.TheVariants.{Overflow, ZeroDivisor, NegativeExponent, BadShift}
use Rattle.pi_effects.specs.declared.operation.Op.{Op}
use Rattle.pi_effects.specs.declared.operation.Op.TheVariants.{Add, Sub, Mul, Quot, Floor, Ceil, Mod, Rem, Pow, ShiftLeft, ShiftRight, And, Or, Xor, Neg, Not, Abs, Sign}
use Rattle.pi_effects.specs.Answer.{Answer, integer_then, integers_then}
use Rattle.pi_effects.specs.Rows.{of_one, of_two, Row, line}

-- the term that a fault raises
abbrev pub fault_term : ArithFault → Tree
fault_term Overflow = atom (codes "integer_overflow")
fault_term ZeroDivisor = atom (codes "zero_divisor")
fault_term NegativeExponent = atom (codes "negative_exponent")
fault_term BadShift = atom (codes "bad_shift")

-- what follows from a value; a fault is raised
abbrev pub outcome_then : {A : Type 0} → Outcome → (ℤ → Answer A) → Answer A
outcome_then (Ok n) f = f n
outcome_then (Err fault) f = Err (fault_term fault)

abbrev pub number : ℤ → Answer Tree
number n = Ok (int n)

-- an operation with one argument, and with two
abbrev pub of_integer : List ℕ → Op → Row (Answer Tree)
of_integer name op = line name (of_one (λ s t. integer_then s t (λ a. outcome_then (value_of op a (pos 0)) number)))

abbrev pub of_integers : List ℕ → Op → Row (Answer Tree)
of_integers name op = line name (of_two (λ s t u. integers_then s t u (λ a b. outcome_then (value_of op a b) number)))

-- a function of two integers that has no fault
abbrev pub of_integers_always : List ℕ → (ℤ → ℤ → ℤ) → Row (Answer Tree)
of_integers_always name f = line name (of_two (λ s t u. integers_then s t u (λ a b. number (f a b))))

unfoldable pub integer_functions : List (Row (Answer Tree))
integer_functions =
    of_integers (codes "+") Add ∷
    of_integers (codes "-") Sub ∷
    of_integers (codes "*") Mul ∷
    line (codes "+") (of_one (λ s t. integer_then s t number)) ∷
    of_integer (codes "-") Neg ∷
    of_integer (codes "abs") Abs ∷
    of_integer (codes "sign") Sign ∷
    of_integers (codes "//") Quot ∷
    of_integers (codes "/<") Floor ∷
    of_integers (codes "div") Floor ∷
    of_integers (codes "/>") Ceil ∷
    of_integers (codes "mod") Mod ∷
    of_integers (codes "rem") Rem ∷
    of_integers (codes "**") Pow ∷
    of_integers (codes ">>") ShiftRight ∷
    of_integers (codes "<<") ShiftLeft ∷
    of_integers (codes "/\\") And ∷
    of_integers (codes "\\/") Or ∷
    of_integers (codes "^") Xor ∷
    of_integer (codes "~") Not ∷
    of_integers_always (codes "min") int_min ∷
    of_integers_always (codes "max") int_max ∷
    []
