use Rattle.std.proofs.Common.{◌∙◌, ap, refl}
use Rattle.pi_store.specs.Held.{Holding}
use Rattle.pi_store.specs.declared.mark.KeptStore.{KeptStore}
use Rattle.pi_store.proofs.BesideLemmas.{keeps_beside}
use Rattle.pi_store.proofs.store.RawStore.keep_beside.Goals as goal

pub returns : goal.returns
returns c = λ good.
    let with_number : Holding → KeptStore = λ s. record { store = s; number = c.args.number } in
    keeps_beside c.args.self.now c.args.m.now _ c.in_ok-kept.kept c.args.number refl refl (c.in_ok-kept.ensures.ok ∙ ap with_number c.in_ok-store.ensures) good
