-- What each control form makes of the trace of the goal in it. A form keeps the notes of the part of that trace which it
-- uses, and an end of that part other than Done is the form's end, save that `caught` goes on after an exception. A
-- condition and `once` take the `first` answer; a function call is `chosen` with an exception for the other trace. (A
-- User's Guide to Picat, 'Predicates and Functions' and 'Exceptions'.)
use Rattle.std.specs.Prelude.{ℕ, suc, List, [], ◌∷◌}
use Rattle.pi_terms.specs.Tree.{Tree}
use Rattle.pi_traces.specs.Trace.{Trace, end, note, ans, Done, Raise, one, done}

-- not: no answer where there is one, and this answer where there is none
unfoldable pub negated : {A B : Type 0} → Trace A → B → Trace B
negated (end Done) y = one y
negated (end e) y = end e
negated (note n t) y = note n (negated t y)
negated (ans x t) y = done

-- if: what follows the first answer, and the other trace where there is none
unfoldable pub chosen : {A B : Type 0} → Trace A → (A → Trace B) → Trace B → Trace B
chosen (end Done) f u = u
chosen (end e) f u = end e
chosen (note n t) f u = note n (chosen t f u)
chosen (ans x t) f u = f x

-- find_all: what follows the list of the values of all answers, in the order of the answers
unfoldable pub collected : {A B C : Type 0} → Trace A → (A → B) → (List B → Trace C) → Trace C
collected (end Done) value f = f []
collected (end e) value f = end e
collected (note n t) value f = note n (collected t value f)
collected (ans x t) value f = collected t value (λ values. f (value x ∷ values))

-- count_all: what follows the number of answers
unfoldable pub counted : {A B : Type 0} → Trace A → (ℕ → Trace B) → Trace B
counted (end Done) f = f 0
counted (end e) f = end e
counted (note n t) f = note n (counted t f)
counted (ans x t) f = counted t (λ k. f (suc k))

-- catch: the trace, and where it ends in an exception what follows the ball
unfoldable pub caught : {A : Type 0} → Trace A → (Tree → Trace A) → Trace A
caught (end (Raise ball)) f = f ball
caught (end e) f = end e
caught (note n t) f = note n (caught t f)
caught (ans x t) f = ans x (caught t f)
