-- The signs make no difference.
use Rattle.std.specs.Prelude.{◌≡◌, ◌≤◌, ◌<◌, ◌^◌, nat_abs, false, List, ℤ, ℕ}
use Rattle.std.proofs.Common.{rules, ◌∙◌, ap, sym, subst}
use Rattle.pi_prop_spec.specs.Limits.{are_narrow}
use Rattle.pi_prop_made.specs.declared.coefficient.Coefficient.{Coefficient}
use Rattle.pi_prop_made.specs.Kept.{terms_of}
use Rattle.pi_prop_made.proofs.WrittenLemmas.{narrow_any, narrow_stops, narrow_next, narrow_all}
use Rattle.pi_prop_made.proofs.terms.Terms.are_narrow.Goals as goal

pub loop-coefficient-init : goal.loop-coefficient-init
loop-coefficient-init c =
    let all : c.into_iter-coefficient-iterator.result ≡ c.self.inside.entries.entries = search rules in
    ap (λ (es : List (ℕ × Coefficient)). are_narrow (terms_of false es)) all ∙ (sym (narrow_any c.self.inside.negated c.self.inside.entries.entries) ∙ ap (λ (ts : List (ℤ × ℕ)). are_narrow ts) c.self.view_is)

pub loop-coefficient-preserved : goal.loop-coefficient-preserved
loop-coefficient-preserved c =
    let magnitude : c.unsigned_abs.result ≡ nat_abs c.in-Some.coefficient.now.value = search rules in
    sym (narrow_next c.loop-coefficient.coefficient-iterator c.next.new.self c.in-Some.field-0-0.now c.in-Some.coefficient.now c.in-Some.ensures.steps
    (subst (λ (n : ℕ). n ≤ 2 ^ 40) magnitude c.if-unsigned_abs-gt-MAX_MAGNITUDE.false)) ∙ c.loop-coefficient.invariant

pub returns-then-unsigned_abs-gt-MAX_MAGNITUDE : goal.returns-then-unsigned_abs-gt-MAX_MAGNITUDE
returns-then-unsigned_abs-gt-MAX_MAGNITUDE c =
    let magnitude : c.unsigned_abs.result ≡ nat_abs c.in-Some.coefficient.now.value = search rules in
    sym (narrow_stops c.loop-coefficient.coefficient-iterator c.next.new.self c.in-Some.field-0-0.now c.in-Some.coefficient.now c.in-Some.ensures.steps
    (subst (λ (n : ℕ). 2 ^ 40 < n) magnitude c.if-unsigned_abs-gt-MAX_MAGNITUDE.true)) ∙ c.loop-coefficient.invariant

pub returns : goal.returns
returns c = sym (narrow_all c.loop-coefficient.coefficient-iterator c.in-None.ensures.steps.0) ∙ c.loop-coefficient.invariant
