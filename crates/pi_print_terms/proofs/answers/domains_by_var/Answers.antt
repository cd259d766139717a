use Rattle.std.proofs.Common.{◌≡◌, ◌-◌, ◌∷◌, drop, length, ap, ◌∙◌, arith, refl}
use Rattle.pi_print_terms.proofs.AnswerLemmas.{no_domains, one_more_domain, front, past}
use Rattle.pi_print_terms.proofs.answers.domains_by_var.Goals as goal

pub loop-at-init : goal.loop-at-init
loop-at-init c = rw (past (length c.args.domains.now) c.args.domains.now (omega arith)) (no_domains _ c.new-by_var.ensures.empty)

pub loop-at-preserved : goal.loop-at-preserved
loop-at-preserved c =
    let e : drop (c.loop-at.at - 1) c.args.domains.now ≡ c.index-domains-at.result ∷ drop c.loop-at.at c.args.domains.now =
    front c.args.domains.now (c.loop-at.at - 1) c.index-domains-at.result (omega arith) c.index-domains-at.is
    ∙ ap (λ k. c.index-domains-at.result ∷ drop k c.args.domains.now) (omega arith) in
    rw e (one_more_domain _ c.loop-at.by_var _ c.index-domains-at.result _ refl c.loop-at.invariant c.in_ok-insert.ensures.updates.0)
