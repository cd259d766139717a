use Rattle.std.proofs.Common.{◌≡◌, ℕ, List, [], ◌∷◌, refl, subst, ◌∙◌}
use Rattle.std.proofs.lemmas.Result.{err_from_is_err_and}
use Rattle.pi_outside.proofs.WriteRuns.{ByWrites-none, ByWrites-so}
use Rattle.pi_top.specs.declared.query.Stop.TheVariants.{Memory}
use Rattle.pi_top.specs.Writing.{Writes}
use Rattle.pi_top.proofs.query.write_raised.Goals as goal

pub returns-in_err-line-clause-told : goal.returns-in_err-line-clause-told
returns-in_err-line-clause-told g c =
    let p = err_from_is_err_and c.from_residual.result c.from_residual.ensures.1 in
    let memory : p.0 ≡ Memory = p.2 in
    rw (p.1, memory) (ByWrites-none g.O.Sink.wrote g.O.Sink.taken c.args.out.now _ (record { all = tt; cut = refl }))

pub returns-clause-told : goal.returns-clause-told
returns-clause-told g c = ByWrites-so c.ended.ensures.told (λ writes told.
    subst (λ (text : List ℕ). Writes (text ∷ []) c.ended.result writes) (c.as_str.ensures.value ∙ c.in_ok-line.ensures) told)
