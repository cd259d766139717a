-- The value of an operation on integers of the code, and what follows from it.
use Rattle.std.proofs.Common.{◌≡◌, ℤ, Ok, Err, sym, ◌∙◌, subst}
use Rattle.pi_effects.specs.Range.{Outcome}
use Rattle.pi_effects.specs.declared.arith_fault.ArithFault.{ArithFault}
use Rattle.pi_terms.specs.Tree.{Tree}
use Rattle.pi_constraints.specs.State.{State}
use Rattle.pi_constraints.specs.Store.{StoreView}
use Rattle.pi_effects.specs.Answer.{Answer, integer_then, integers_then}
use Rattle.pi_effects.specs.Integers.{outcome_then}
use Rattle.pi_effects.specs.Results.{Stops}
use Rattle.pi_effects.specs.declared.fault.Fault.{Fault}
use Rattle.pi_effects.specs.declared.fault.Stop.{Stop}
use Rattle.pi_effects.proofs.FaultLemmas.{integer-is, integers-are, outcome-stops, outcome-is}

-- of one integer
pub value-stops : {M B : Type 0} (v : StoreView M) (t : Tree) (value : ℤ → Outcome) (f : ℤ → Answer B) (m : ℤ) (fault : ArithFault) (o : Outcome) → integer_then v.now.state t (λ i. Ok i) ≡ Ok m → Err fault ≡ o → o ≡ value m
    → Stops v (Stop.Raised (Fault.Arithmetic fault)) (integer_then v.now.state t (λ i. outcome_then (value i) f))
value-stops v t value f m fault o one e is =
    subst (Stops v (Stop.Raised (Fault.Arithmetic fault))) (sym (integer-is v.now.state t (λ i. outcome_then (value i) f) m one)) (outcome-stops v (value m) fault f (sym (e ∙ is)))

pub value-is : {B : Type 0} (s : State) (t : Tree) (value : ℤ → Outcome) (f : ℤ → Answer B) (m n : ℤ) (o : Outcome) → integer_then s t (λ i. Ok i) ≡ Ok m → Ok n ≡ o → o ≡ value m → integer_then s t (λ i. outcome_then (value i) f) ≡ f n
value-is s t value f m n o one e is = integer-is s t (λ i. outcome_then (value i) f) m one ∙ outcome-is (value m) f n (sym (e ∙ is))

-- and of two
pub values-stop : {M B : Type 0} (v : StoreView M) (t u : Tree) (value : ℤ → ℤ → Outcome) (f : ℤ → Answer B) (m n : ℤ) (fault : ArithFault) (o : Outcome) → integer_then v.now.state t (λ i. Ok i) ≡ Ok m → integer_then v.now.state u (λ i. Ok i) ≡ Ok n
    → Err fault ≡ o → o ≡ value m n → Stops v (Stop.Raised (Fault.Arithmetic fault)) (integers_then v.now.state t u (λ i j. outcome_then (value i j) f))
values-stop v t u value f m n fault o one two e is =
    subst (Stops v (Stop.Raised (Fault.Arithmetic fault))) (sym (integers-are v.now.state t u (λ i j. outcome_then (value i j) f) m n one two)) (outcome-stops v (value m n) fault f (sym (e ∙ is)))

pub values-are : {B : Type 0} (s : State) (t u : Tree) (value : ℤ → ℤ → Outcome) (f : ℤ → Answer B) (m n r : ℤ) (o : Outcome) → integer_then s t (λ i. Ok i) ≡ Ok m → integer_then s u (λ i. Ok i) ≡ Ok n → Ok r ≡ o → o ≡ value m n
    → integers_then s t u (λ i j. outcome_then (value i j) f) ≡ f r
values-are s t u value f m n r o one two e is = integers-are s t u (λ i j. outcome_then (value i j) f) m n one two ∙ outcome-is (value m n) f r (sym (e ∙ is))
