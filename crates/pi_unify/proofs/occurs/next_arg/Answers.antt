use Rattle.std.proofs.Common.{Option, subst}
use Rattle.pi_unify.proofs.BindLemmas.{if_err}
use Rattle.pi_unify.specs.Answers.{GivesArg}
use Rattle.pi_constraints.specs.declared.store.Ref.{Ref}
use Rattle.pi_unify.proofs.occurs.next_arg.Goals as goal

pub returns-in_err-next : goal.returns-in_err-next
returns-in_err-next g c = if_err c.from_residual.result _ c.from_residual.ensures.0

pub returns-in-Some : goal.returns-in-Some
returns-in-Some g c = λ is all. subst (λ (next : Option Ref). GivesArg (g.S.StateStore.seen c.args.s.now) c.args.ahead.now.items next c.next_term.new.rests.items) c.in-Some.is (c.in_ok-next.ensures.terms is all)

pub returns-in-None : goal.returns-in-None
returns-in-None g c = λ is all. subst (λ (next : Option Ref). GivesArg (g.S.StateStore.seen c.args.s.now) c.args.ahead.now.items next c.next_term.new.rests.items) c.in-None.is (c.in_ok-next.ensures.terms is all)
