use Rattle.std.proofs.Common.{arith, List, [], ◌≡◌, ap, sym, subst, ◌∙◌, refl, below_more}
use Rattle.std.specs.Prelude.{ℤ, IsTrue}
use Rattle.std.proofs.lemmas.List.{get_or_read}
use Rattle.pi_constraints.specs.declared.domain.Span.{Span}
use Rattle.pi_constraints.specs.Domain.{has_value}
use Rattle.pi_prop_spec.specs.Places.{domain_at}
use Rattle.pi_sat_spec.specs.Domains.{has_none}
use Rattle.pi_sat_spec.proofs.LeftLemmas.{no-values, a-value}
use Rattle.pi_sat_search.proofs.filtered.have_none.Goals as goal

pub returns-then-is_empty : goal.returns-then-is_empty
returns-then-is_empty c =
    let read : c.domain-item.result ≡ domain_at c.args.domains.now c.loop-domain.domain-index = get_or_read c.args.domains.now c.loop-domain.domain-index c.domain-item.result c.loop-domain-test.true c.domain-item.is [] in
    (λ t. (c.loop-domain.domain-index, c.loop-domain-test.true, λ n h. no-values (domain_at c.args.domains.now c.loop-domain.domain-index) n (ap has_none (sym read) ∙ (sym c.is_empty.ensures ∙ c.if-is_empty.true)) h), λ h. refl)

pub loop-domain-preserved : goal.loop-domain-preserved
loop-domain-preserved c =
    let read : c.domain-item.result ≡ domain_at c.args.domains.now c.loop-domain.domain-index = get_or_read c.args.domains.now c.loop-domain.domain-index c.domain-item.result c.loop-domain-test.true c.domain-item.is [] in
    below_more _ _ c.loop-domain.invariant
    (subst (λ (d : List Span). (n : ℤ) × IsTrue (has_value d n)) read (a-value c.domain-item.result c.spans-spans.ensures.domain (sym c.is_empty.ensures ∙ c.if-is_empty.false)))

pub returns : goal.returns
returns c = (
  λ t. absurd (cc),
  λ h. let value = c.loop-domain.invariant h.0 (let l = h.1 in let past = c.loop-domain-test.false in omega arith) in absurd (h.2 value.0 value.1),
)
