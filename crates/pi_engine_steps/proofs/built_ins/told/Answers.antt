use Rattle.std.proofs.Common.{refl, sym, subst}
use Rattle.pi_engine_arenas.specs.declared.run.Now.{Now}
use Rattle.pi_engine_stands.specs.Does.{IsTold}
use Rattle.pi_engine_steps.proofs.built_ins.told.Goals as goal

pub returns-in_ok-told-in-Top : goal.returns-in_ok-told-in-Top
returns-in_ok-told-in-Top c =
    subst (λ m. IsTold m c.args.text c.args.point (Now.Telling c.in_ok-told-in-Top.told)) (sym c.in-Top.is) (c.in_ok-told-in-Top.told, c.in_ok-told-in-Top.ensures.ok, refl)
