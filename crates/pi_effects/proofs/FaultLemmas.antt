-- Faults and results, handed on.
use Rattle.std.proofs.Common.{◌≡◌, ℤ, Some, None, Ok, Err, refl, ap, sym, subst, ◌∙◌}
use Rattle.std.specs.Prelude.{Result, Option, pos, codes}
use Rattle.pi_effects.specs.Range.{Outcome}
use Rattle.pi_effects.specs.declared.arith_fault.ArithFault.{ArithFault}
use Rattle.pi_terms.specs.Tree.{Tree, int}
use Rattle.pi_constraints.specs.State.{State, bindings, followed}
use Rattle.pi_constraints.specs.Store.{StoreView, Stays}
use Rattle.pi_constraints.specs.declared.store.Ref.{Ref}
use Rattle.pi_effects.specs.Exception.{thrown, exception_with, bad_index, bad_format, type_error}
use Rattle.pi_effects.specs.Answer.{Answer, found_or, integer_at, integer_then, integers_then}
use Rattle.pi_effects.specs.BuiltIns.{answer_in}
use Rattle.pi_effects.specs.Integers.{outcome_then, fault_term}
use Rattle.pi_effects.specs.Balls.{kind_name, Tells, IsBall}
use Rattle.pi_effects.specs.Results.{Stops, ShowsTerm, ShowsEffect}
use Rattle.pi_effects.specs.declared.fault.Fault.{Fault}
use Rattle.pi_effects.specs.declared.fault.Stop.{Stop}

-- ---- while the state stays

tells-stays : {M : Type 0} (v w : StoreView M) (r : Ref) (raised : Tree → State → Tree) (ball : Tree) → Stays v w → Tells v r raised ball → Tells w r raised ball
tells-stays v w r raised ball stays told = (told.0, stays.keeps.terms r told.0 told.1, told.2 ∙ ap (raised told.0) (sym stays.state))

-- a fault keeps its ball
pub ball-stays : {M : Type 0} (v w : StoreView M) (fault : Fault) (ball : Tree) → Stays v w → IsBall v fault ball → IsBall w fault ball
ball-stays v w (Fault.WrongKind kind r) ball stays told = tells-stays v w r (type_error (kind_name kind)) ball stays told
ball-stays v w (Fault.BadIndex r) ball stays told = tells-stays v w r bad_index ball stays told
ball-stays v w Fault.NoFirst ball stays told = told ∙ ap (bad_index (int (pos 1))) (sym stays.state)
ball-stays v w (Fault.BadFormat r) ball stays told = tells-stays v w r bad_format ball stays told
ball-stays v w Fault.BadRange ball stays told = told
ball-stays v w Fault.RangeTooLong ball stays told = told
ball-stays v w Fault.TermTooLarge ball stays told = told
ball-stays v w (Fault.Arithmetic fault) ball stays told = told
ball-stays v w (Fault.NotAConstraint r) ball stays told = tells-stays v w r (exception_with (codes "not_a_constraint")) ball stays told
ball-stays v w (Fault.BadOption r) ball stays told = tells-stays v w r (exception_with (codes "bad_option")) ball stays told
ball-stays v w Fault.ConstraintTooLarge ball stays told = told
ball-stays v w Fault.DomainTooWide ball stays told = told
ball-stays v w (Fault.Thrown r) ball stays told = tells-stays v w r thrown ball stays told

-- ---- what stops a part stops the whole

pub stops-whole : {M A B : Type 0} (v : StoreView M) (stop : Stop) (part : Answer A) (whole : Answer B) → ((ball : Tree) → part ≡ Err ball → whole ≡ Err ball) → Stops v stop part → Stops v stop whole
stops-whole v (Stop.Raised fault) part whole goes h = (h.0, goes h.0 h.1, h.2)
stops-whole v Stop.Memory part whole goes h = h

-- ---- what is there, and what follows from it

pub found-raised : {A B : Type 0} (o : Option A) (none ball : Tree) (f : A → Answer B) → found_or o none (λ x. Ok x) ≡ Err ball → found_or o none f ≡ Err ball
found-raised None none ball f e = cc
found-raised (Some x) none ball f e = cc

pub found-is : {A B : Type 0} (o : Option A) (none : Tree) (f : A → Answer B) (x : A) → found_or o none (λ y. Ok y) ≡ Ok x → found_or o none f ≡ f x
found-is None none f x e = cc
found-is (Some y) none f x e = cc

-- ---- an integer, and what follows from it

pub integer-stops : {M B : Type 0} (v : StoreView M) (stop : Stop) (t : Tree) (f : ℤ → Answer B) → Stops v stop (integer_then v.now.state t (λ n. Ok n)) → Stops v stop (integer_then v.now.state t f)
integer-stops v stop t f h = stops-whole v stop _ _ (λ ball. found-raised (integer_at (followed (bindings v.now.state) t)) _ ball f) h

pub integer-is : {B : Type 0} (s : State) (t : Tree) (f : ℤ → Answer B) (n : ℤ) → integer_then s t (λ m. Ok m) ≡ Ok n → integer_then s t f ≡ f n
integer-is s t f n e = found-is (integer_at (followed (bindings s) t)) _ f n e

-- the same of two, from the left
pub integers-stop : {M B : Type 0} (v : StoreView M) (stop : Stop) (t u : Tree) (f : ℤ → ℤ → Answer B) (m : ℤ) → integer_then v.now.state t (λ i. Ok i) ≡ Ok m → Stops v stop (integer_then v.now.state u (λ n. Ok n)) → Stops v stop (integers_then v.now.state t u f)
integers-stop v stop t u f m e h =
    subst (Stops v stop) (sym (integer-is v.now.state t (λ i. integer_then v.now.state u (λ n. f i n)) m e)) (integer-stops v stop u (λ n. f m n) h)

pub integers-are : {B : Type 0} (s : State) (t u : Tree) (f : ℤ → ℤ → Answer B) (m n : ℤ) → integer_then s t (λ i. Ok i) ≡ Ok m → integer_then s u (λ i. Ok i) ≡ Ok n → integers_then s t u f ≡ f m n
integers-are s t u f m n e d = integer-is s t (λ i. integer_then s u (λ j. f i j)) m e ∙ integer-is s u (λ j. f m j) n d

-- ---- the value of an operation, and what follows from it

pub outcome-stops : {M B : Type 0} (v : StoreView M) (o : Outcome) (fault : ArithFault) (f : ℤ → Answer B) → o ≡ Err fault → Stops v (Stop.Raised (Fault.Arithmetic fault)) (outcome_then o f)
outcome-stops v o fault f e = (fault_term fault, ap (λ p. outcome_then p f) e, refl)

pub outcome-is : {B : Type 0} (o : Outcome) (f : ℤ → Answer B) (n : ℤ) → o ≡ Ok n → outcome_then o f ≡ f n
outcome-is o f n e = ap (λ p. outcome_then p f) e

-- ---- a function that leaves the state as it is

pub effect-shown : {M : Type 0} (v w : StoreView M) (result : Result Ref Stop) (a : Answer Tree) → Stays v w → ShowsTerm v w result a → ShowsEffect v w result (answer_in v.now.state a)
effect-shown v w (Ok made) a stays h = (h.0, v.now.state, ap (answer_in v.now.state) h.1, record { changes = stays; term = h.2 })
effect-shown v w (Err (Stop.Raised fault)) a stays h = (h.0, ap (answer_in v.now.state) h.1, h.2, stays)
effect-shown v w (Err Stop.Memory) a stays h = h
