use Rattle.std.proofs.Common.{◌≡◌}
use Rattle.std.proofs.lemmas.Result.{err_from_is_err_and}
use Rattle.pi_outside.proofs.WriteRuns.{ByWrites-so}
use Rattle.pi_top.specs.declared.query.Stop.TheVariants.{Write}
use Rattle.pi_top.proofs.HandedTexts.{hands-one, fails-one}
use Rattle.pi_top.proofs.query.ended.Goals as goal

pub returns-in_err-write_text-clause-told : goal.returns-in_err-write_text-clause-told
returns-in_err-write_text-clause-told g c =
    let p = err_from_is_err_and c.from_residual.result c.from_residual.ensures.1 in
    let write : p.0 ≡ Write = p.2 in
    rw (p.1, write) (ByWrites-so c.in_err-write_text.ensures.hands (λ writes fails. record { all = tt; cut = fails-one c.args.line.now writes fails }))

pub returns-clause-told : goal.returns-clause-told
returns-clause-told g c = ByWrites-so c.in_ok-write_text.ensures.hands (λ writes hands. record { all = hands-one c.args.line.now writes hands; cut = tt })
