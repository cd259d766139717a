use Rattle.std.proofs.Common.{Option, refl, subst}
use Rattle.pi_terms.specs.Tree.{arg_at}
use Rattle.pi_constraints.specs.declared.store.Ref.{Ref}
use Rattle.pi_store.specs.Waiting.{ShowsArgument}
use Rattle.pi_store.specs.Holding.{heap_of}
use Rattle.pi_store.proofs.ReadLemmas.{made_readable}
use Rattle.pi_store.proofs.WaitLemmas.{value_none, value_read}
use Rattle.pi_store.proofs.waiting.value_at.Goals as goal

pub returns-in_default : goal.returns-in_default
returns-in_default c = λ t is.
    let h = heap_of c.args.names.now c.args.words.now in
    value_none h (arg_at t 2) (subst (λ (o : Option Ref). ShowsArgument h (arg_at t 2) o) c.in_default.is (c.argument.ensures h t refl is))

pub returns-in-Ok : goal.returns-in-Ok
returns-in-Ok c = λ t is.
    let h = heap_of c.args.names.now c.args.words.now in
    value_read h (arg_at t 2) c.in-Some.value c.in-Ok.value (subst (λ (o : Option Ref). ShowsArgument h (arg_at t 2) o) c.in-Some.is (c.argument.ensures h t refl is))
    (λ u at. (c.in-Ok.ensures u (made_readable c.args.names.now c.args.words.now c.in-Some.value u at)).0)
