-- Integers that are joined from the left, item by item.
use Rattle.std.proofs.Common.{◌≡◌, ℕ, ℤ, suc, ◌+◌, ◌<◌, ◌≤◌, List, ◌∷◌, length, drop, get_or, sym, ap, ◌∙◌, subst, arith, add-one}
use Rattle.std.specs.Prelude.{Option, Some, None, Ok, Err, codes}
use Rattle.pi_effects.specs.Range.{Outcome}
use Rattle.pi_effects.specs.Value.{value_of}
use Rattle.pi_effects.specs.declared.operation.Op.{Op}
use Rattle.pi_terms.specs.Tree.{Tree, int}
use Rattle.pi_constraints.specs.State.{State, bindings, followed}
use Rattle.pi_constraints.specs.Store.{StoreView, IsTerm}
use Rattle.pi_constraints.specs.declared.store.Ref.{Ref}
use Rattle.pi_effects.specs.Exception.{type_error}
use Rattle.pi_effects.specs.Answer.{Answer, found_or, integer_at, integer_then}
use Rattle.pi_effects.specs.Integers.{outcome_then}
use Rattle.pi_effects.specs.Collections.{total}
use Rattle.pi_effects.specs.Results.{Stops, Shows}
use Rattle.pi_effects.specs.declared.fault.Stop.{Stop}
use Rattle.pi_effects.proofs.FaultLemmas.{stops-whole}
use Rattle.pi_lib_builtin.specs.Items.{AreItems, IsInteger}
use Rattle.pi_lib_builtin.proofs.RowLemmas.{as-many, ItemAt, item-at, none-behind}

-- an integer joined with one more
abbrev pub one_joined : State → Op → ℤ → Tree → Answer ℤ
one_joined s op sum t = integer_then s t (λ n. outcome_then (value_of op sum n) (λ more. Ok more))

outcome-goes : {B : Type 0} (o : Outcome) (f : ℤ → Answer B) (n : ℤ) → outcome_then o (λ m. Ok m) ≡ Ok n → outcome_then o f ≡ f n
outcome-goes (Ok m) f n e = cc
outcome-goes (Err fault) f n e = cc

outcome-raises : {B : Type 0} (o : Outcome) (f : ℤ → Answer B) (ball : Tree) → outcome_then o (λ m. Ok m) ≡ Err ball → outcome_then o f ≡ Err ball
outcome-raises (Ok m) f ball e = cc
outcome-raises (Err fault) f ball e = cc

joined-goes : {B : Type 0} (o : Option ℤ) (none : Tree) (value : ℤ → Outcome) (f : ℤ → Answer B) (n : ℤ) → found_or o none (λ m. outcome_then (value m) (λ more. Ok more)) ≡ Ok n → found_or o none (λ m. outcome_then (value m) f) ≡ f n
joined-goes None none value f n e = cc
joined-goes (Some m) none value f n e = outcome-goes (value m) f n e

joined-raises : {B : Type 0} (o : Option ℤ) (none : Tree) (value : ℤ → Outcome) (f : ℤ → Answer B) (ball : Tree) → found_or o none (λ m. outcome_then (value m) (λ more. Ok more)) ≡ Err ball → found_or o none (λ m. outcome_then (value m) f) ≡ Err ball
joined-raises None none value f ball e = cc
joined-raises (Some m) none value f ball e = outcome-raises (value m) f ball e

-- an integer of the code stands in a loop by its bits, so that what is said of it comes with an equation
pub total-more : {M : Type 0} (v : StoreView M) (rs : List Ref) (ts : List Tree) (i : ℕ) (r : Ref) (op : Op) (first sum seen more next : ℤ) → AreItems v rs ts → i < length rs → r ≡ get_or rs i r
    → ((t : Tree) → IsTerm v r t → one_joined v.now.state op seen t ≡ Ok next) → total op v.now.state first ts ≡ total op v.now.state sum (drop i ts) → seen ≡ sum → more ≡ next
    → total op v.now.state first ts ≡ total op v.now.state more (drop (i + 1) ts)
unfolding total
total-more v rs ts i r op first sum seen more next h low e joins before is goes =
    let s : State = v.now.state in
    let at : ItemAt v ts i r = item-at v rs ts i r h low e in
    let one : one_joined s op sum at.it ≡ Ok next = subst (λ n. one_joined s op n at.it ≡ Ok next) is (joins at.it at.is) in
    before ∙ (ap (total op s sum) at.behind
    ∙ (joined-goes (integer_at (followed (bindings s) at.it)) (type_error (codes "integer") at.it s) (value_of op sum) (λ n. total op s n (drop (suc i) ts)) next one
    ∙ (ap (λ n. total op s n (drop (suc i) ts)) (sym goes) ∙ ap (λ k. total op s more (drop k ts)) (sym (add-one i)))))

pub total-stops : {M : Type 0} (v : StoreView M) (rs : List Ref) (ts : List Tree) (i : ℕ) (r : Ref) (op : Op) (first whole sum seen : ℤ) (stop : Stop) → AreItems v rs ts → i < length rs → r ≡ get_or rs i r
    → ((t : Tree) → IsTerm v r t → Stops v stop (one_joined v.now.state op seen t)) → total op v.now.state first ts ≡ total op v.now.state sum (drop i ts) → seen ≡ sum → whole ≡ first
    → Stops v stop (total op v.now.state whole ts)
unfolding total
total-stops v rs ts i r op first whole sum seen stop h low e stops before is same =
    let s : State = v.now.state in
    let at : ItemAt v ts i r = item-at v rs ts i r h low e in
    let goes : total op s whole ts ≡ total op s sum (at.it ∷ drop (suc i) ts) = ap (λ n. total op s n ts) same ∙ (before ∙ ap (total op s sum) at.behind) in
    stops-whole v stop (one_joined s op sum at.it) (total op s whole ts)
    (λ ball raised. goes ∙ joined-raises (integer_at (followed (bindings s) at.it)) (type_error (codes "integer") at.it s) (value_of op sum) (λ n. total op s n (drop (suc i) ts)) ball raised)
    (subst (λ n. Stops v stop (one_joined s op n at.it)) is (stops at.it at.is))

pub total-is : {M : Type 0} (v : StoreView M) (rs : List Ref) (ts : List Tree) (i : ℕ) (op : Op) (first whole sum seen : ℤ) → AreItems v rs ts → length rs ≤ i → total op v.now.state first ts ≡ total op v.now.state sum (drop i ts) → seen ≡ sum → whole ≡ first
    → Shows IsInteger v (Ok seen) (total op v.now.state whole ts)
unfolding total
total-is v rs ts i op first whole sum seen h all before is same =
    let s : State = v.now.state in
    (int sum, ap (λ n. total op s n ts) same ∙ (before ∙ ap (total op s sum) (none-behind ts i (omega (arith, as-many v rs ts h)))), ap int (sym is))
