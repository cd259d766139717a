use Rattle.std.proofs.Common.{◌∙◌, Option, Some, subst}
use Rattle.pi_terms.specs.Tree.{arg_at}
use Rattle.pi_constraints.specs.declared.store.Ref.{Ref}
use Rattle.pi_store.specs.Waiting.{ShowsArgument}
use Rattle.pi_store.proofs.WaitLemmas.{number_found, number_none}
use Rattle.pi_store.proofs.waiting.number_at.Goals as goal

pub returns-in-Some : goal.returns-in-Some
returns-in-Some c = λ h t same is.
    let shown : ShowsArgument h (arg_at t c.args.i) (Some c.in-Some.found) = subst (λ (o : Option Ref). ShowsArgument h (arg_at t c.args.i) o) c.in-Some.is (c.argument.ensures h t same is) in
    c.number.ensures ∙ number_found h (arg_at t c.args.i) c.in-Some.found c.cell.result shown (λ u at. c.cell.ensures h u same at)

pub returns-in-None : goal.returns-in-None
returns-in-None c = λ h t same is. number_none h (arg_at t c.args.i) (subst (λ (o : Option Ref). ShowsArgument h (arg_at t c.args.i) o) c.in-None.is (c.argument.ensures h t same is))
