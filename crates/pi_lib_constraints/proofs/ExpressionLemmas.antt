-- What the reading of an operand by itself posts may be posted, and what comes of it.
use Rattle.std.specs.Prelude.{◌≡◌, ℕ, ◌+◌, ◌-◌, ◌<◌, ◌≤◌, List, [], ◌∷◌, Contains, ℤ, Option, Some, None, Result, Ok, Err, refl}
use Rattle.std.proofs.Common.{arith, ◌∙◌, ap, sym, subst}
use Rattle.pi_terms.specs.Tree.{Tree}
use Rattle.pi_constraints.specs.Constraint.{SpeaksOf, IsWithinLimits}
use Rattle.pi_constraints.specs.State.{State, IsState, SpeaksBelow, bindings, next}
use Rattle.pi_constraints.specs.Store.{StoreView}
use Rattle.pi_constraints.specs.Value.{value}
use Rattle.pi_prop_made.specs.Finished.{posting_as}
use Rattle.pi_prop_read.specs.declared.called.PostingStop.{PostingStop}
use Rattle.pi_prop_read.specs.declared.expressions.Expression.{Expression}
use Rattle.pi_prop_read.specs.Called.{ShowsCalled}
use Rattle.pi_prop_read.specs.Expressions.{expression_read, IsExpression}
use Rattle.pi_prop_read.specs.Refs.{value_at}
use Rattle.pi_prop_spec.specs.Limits.{first_refusal}
use Rattle.pi_prop_spec.specs.Postings.{Posting, posting_unless, finished, nothing_made, raised_by}
use Rattle.pi_prop_spec.specs.PostingSums.{Sum}
use Rattle.pi_prop_spec.specs.Says.{operand_value as operand_under}
use Rattle.pi_prop_spec.specs.Steps.{Refusal, not_a_constraint, too_many_terms, wide_coefficient, Known, read_operand, constant_of_terms}
use Rattle.pi_prop_spec.specs.Terms.{operand_of}
use Rattle.pi_prop_spec.proofs.GrowLemmas.{AreFormed}
use Rattle.pi_prop_spec.proofs.LimitLemmas.{all_kept}
use Rattle.pi_prop_spec.proofs.OperandLemmas.{SumRead, operand-read}
use Rattle.pi_prop_spec.proofs.TermLemmas.{operand-below}
use Rattle.pi_settling.specs.Posted.{posted_in}
use Rattle.pi_settling.specs.Read.{operand_as, operand_in}
use Rattle.pi_settling.specs.Reading.{Sum as Total, reads, refuses, constant_of, operand_value}
use Rattle.pi_lib_constraints.specs.Posts.{fault_of, MayPostAll, ShowsOperandPosted}
use Rattle.pi_lib_constraints.proofs.PostLemmas.{stays_none, value-below, wrong-told}

-- ---- what was made keeps all limits

record KeptBy (n : ℕ) (k : Known Sum) (p : Posting) : Type 0 where
  kept : first_refusal k.made.constraints ≡ None
  same : record { fresh = k.made.unused - n; list = k.made.constraints } ≡ p

posting_or : Posting → Result Posting Refusal → Posting
posting_or p (Err r) = p
posting_or p (Ok q) = q

kept-by : (n : ℕ) (k : Known Sum) (p : Posting) → finished n (Ok k) ≡ Ok p → KeptBy n k p
unfolding posting_or
kept-by n k p e = by (first_refusal k.made.constraints) refl e
  where
    by : (o : Option Refusal) → first_refusal k.made.constraints ≡ o → posting_unless o n k.made ≡ Ok p → KeptBy n k p
    by (Some r) f h = absurd cc
    by None f h = record { kept = f; same = ap (posting_or p) h }

all_numbers : (n m : ℕ) → n ≤ m → n + (m - n) ≡ m
all_numbers n m h = omega (arith, h)

operand-may-be-posted : (n : ℕ) (t : Tree) (k : Known Sum) (p : Posting) → SpeaksBelow n t → read_operand (operand_of t) (nothing_made n) ≡ Ok k → finished n (Ok k) ≡ Ok p → MayPostAll (n + p.fresh) p.list
unfolding AreFormed
operand-may-be-posted n t k p below read e c h =
    let by : KeptBy n k p = kept-by n k p e in
    let r : SumRead (nothing_made n) k (λ a. operand_under a (operand_of t)) = operand-read n (operand_of t) (nothing_made n) k (operand-below n t below) (omega arith) read in
    let there = subst (λ (q : Posting). Contains q.list c) (sym by.same) h in
    let kept = all_kept k.made.unused k.made.constraints c (r.grows.formed tt) by.kept there in
    subst (λ (q : Posting). IsWithinLimits c × ((m : ℕ) → SpeaksOf c m → m < n + q.fresh)) by.same
    (kept.0, λ m o. subst (λ (w : ℕ). m < w) (sym (all_numbers n k.made.unused r.grows.more)) (kept.1 m o))

-- ---- it is read

operand-is : (s : State) (t : Tree) (x : Expression) → (h : IsExpression x (next s) (expression_read s t)) → operand_in t s ≡ reads (posted_in s (posting_as x.posting)) (record { terms = h.known.what.terms; constant = h.known.what.constant })
operand-is s t x h = (λ i. operand_as s (h.is i) (h.posting i))

pub operand-posted : {M : Type 0} (v w : StoreView M) (t : Tree) (x : Expression) → IsState v.now.state → SpeaksBelow (next v.now.state) t → IsExpression x (next v.now.state) (expression_read v.now.state t) →
    (MayPostAll (next v.now.state + x.posting.fresh) x.posting.list → w.now.state ≡ posted_in v.now.state (posting_as x.posting)) → ShowsOperandPosted v w (Ok tt) (operand_in t v.now.state)
operand-posted v w t x is below h puts =
    let s : State = v.now.state in
    let n : ℕ = next s in
    let whole : finished n (Ok h.known) ≡ Ok (posting_as x.posting) = sym (ap (finished n) h.is) ∙ h.posting in
    let sum : Total = record { terms = h.known.what.terms; constant = h.known.what.constant } in
    let may : MayPostAll (n + x.posting.fresh) x.posting.list = operand-may-be-posted n (value (bindings s) t) h.known (posting_as x.posting) (value-below s t is below) h.is whole in
    (sum, operand-is s t x h ∙ ap (λ (q : State). reads q sum) (sym (puts may)))

constant-same : (ts : List (ℤ × ℕ)) (c : ℤ) → constant_of_terms ts c ≡ constant_of ts c
constant-same [] c = refl
constant-same (t ∷ ts) c = refl

pub number-found : (s : State) (t : Tree) (x : Expression) → IsExpression x (next s) (expression_read s t) → x.number ≡ operand_value (operand_in t s)
number-found s t x h = h.number ∙ (constant-same h.known.what.terms h.known.what.constant ∙ sym (ap operand_value (operand-is s t x h)))

-- ---- it is refused

refusal_or : Refusal → Result Posting Refusal → Refusal
refusal_or r (Err q) = q
refusal_or r (Ok p) = r

refused-as : (s : State) (n : ℕ) (r : Refusal) (o : Result (Known Sum) Refusal) → finished n o ≡ Err r → operand_as s o (finished n o) ≡ refuses (raised_by s r)
unfolding refusal_or
refused-as s n r (Err q) e = let same : q ≡ r = ap (refusal_or r) e in ap (λ (x : Refusal). refuses (raised_by s x)) same
refused-as s n r (Ok k) e = ap (operand_as s (Ok k)) e

refused-in : (s : State) (t : Tree) (r : Refusal) → finished (next s) (expression_read s t) ≡ Err r → operand_in t s ≡ refuses (raised_by s r)
refused-in s t r e = refused-as s (next s) r (expression_read s t) e

pub operand-refused : {M : Type 0} (v : StoreView M) (t : Tree) (stop : PostingStop) → IsState v.now.state → ShowsCalled v.now (Err stop) (finished (next v.now.state) (expression_read v.now.state t)) →
    ShowsOperandPosted v v (Err (fault_of stop)) (operand_in t v.now.state)
operand-refused v t (PostingStop.NotAConstraint r) is (there, e) =
    let q : Refusal = not_a_constraint (value_at v.now r) in (raised_by v.now.state q, refused-in v.now.state t q e, wrong-told v r is there, stays_none v)
operand-refused v t PostingStop.TooManyTerms is e = (raised_by v.now.state too_many_terms, refused-in v.now.state t too_many_terms e, refl, stays_none v)
operand-refused v t PostingStop.WideCoefficient is e = (raised_by v.now.state wide_coefficient, refused-in v.now.state t wide_coefficient e, refl, stays_none v)
operand-refused v t PostingStop.Memory is e = tt

pub none-found : (s : State) (t : Tree) (r : Refusal) → finished (next s) (expression_read s t) ≡ Err r → None ≡ operand_value (operand_in t s)
none-found s t r e = sym (ap operand_value (refused-in s t r e))
