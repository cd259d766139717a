use Rattle.std.proofs.Common.{◌≡◌, ◌↔◌, ◌<◌, ℕ, List, length, Some, sym, ap, subst, ◌∙◌}
use Rattle.std.specs.Prelude.{IsTrue, All, ◌||◌, slice_get}
use Rattle.pi_constraints.specs.declared.constraint.Constraint.{Constraint}
use Rattle.pi_sat_spec.specs.declared.entry.SatEntry.{SatEntry}
use Rattle.pi_sat_spec.specs.declared.literal.Literal.{Literal}
use Rattle.pi_sat_spec.specs.Domains.{IsLemma, refuted, has_empty}
use Rattle.pi_sat_spec.specs.Logs.{lemma_of, leads_on, Refutes, IsRightEntry}
use Rattle.pi_sat_spec.proofs.StepLemmas.{with-first, with-first_of_two}
use Rattle.pi_sat_check.proofs.entries.is_right.Goals as goal

pub returns-in_ok-right-in-FromConstraint : goal.returns-in_ok-right-in-FromConstraint
returns-in_ok-right-in-FromConstraint c =
    let r = c.in_ok-right-in-FromConstraint.right in
    let lemma : List Literal = c.in-FromConstraint.lemma in
    let fits : IsLemma c.args.domains.now lemma = subst (IsLemma c.args.domains.now) (c.lemma_of.ensures ∙ ap lemma_of c.in-FromConstraint.is) (c.is_lemma.ensures.0 c.if-not-is_lemma.false) in
    let both = subst (λ (ls : List Literal). IsTrue r ↔ ((b : Constraint) × (slice_get c.args.constraints.now c.in-FromConstraint.constraint ≡ Some b) × Refutes b (refuted c.args.domains.now ls)))
    c.as_slice.ensures c.in_ok-right-in-FromConstraint.ensures in
    subst (λ (e : SatEntry). IsTrue r ↔ IsRightEntry c.args.domains.now c.args.constraints.now c.args.earlier.now e) (sym c.in-FromConstraint.is) (with-first r fits both)

pub returns-in_ok-right-in-Learned : goal.returns-in_ok-right-in-Learned
returns-in_ok-right-in-Learned c =
    let r = c.in_ok-right-in-Learned.right in
    let lemma : List Literal = c.in-Learned.lemma in
    let fits : IsLemma c.args.domains.now lemma = subst (IsLemma c.args.domains.now) (c.lemma_of.ensures ∙ ap lemma_of c.in-Learned.is) (c.is_lemma.ensures.0 c.if-not-is_lemma.false) in
    let one = subst (λ (ls : List Literal). IsTrue r ↔ (All (λ h. h < length c.args.earlier.now) c.as_slice-in-Learned-2.result.now
    × IsTrue (has_empty (refuted c.args.domains.now ls) || leads_on c.args.earlier.now (refuted c.args.domains.now ls) c.as_slice-in-Learned-2.result.now)))
    c.as_slice-in-Learned.ensures c.in_ok-right-in-Learned.ensures in
    let both = subst (λ (hs : List ℕ). IsTrue r ↔ (All (λ h. h < length c.args.earlier.now) hs
    × IsTrue (has_empty (refuted c.args.domains.now lemma) || leads_on c.args.earlier.now (refuted c.args.domains.now lemma) hs)))
    c.as_slice-in-Learned-2.ensures one in
    subst (λ (e : SatEntry). IsTrue r ↔ IsRightEntry c.args.domains.now c.args.constraints.now c.args.earlier.now e) (sym c.in-Learned.is) (with-first_of_two r fits both)
