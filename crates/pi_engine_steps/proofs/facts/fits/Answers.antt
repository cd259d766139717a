use Rattle.std.proofs.Common.{◌≡◌, ◌∙◌, sym, ap, subst, Some}
use Rattle.std.specs.Prelude.{slice_get, option_copied}
use Rattle.std.proofs.lemmas.Result.{IfOk-weaker}
use Rattle.pi_engine_code.specs.Code.{preds_of}
use Rattle.pi_constraints.specs.Store.{AreTerms}
use Rattle.pi_engine_steps.proofs.FactsTried.{terms-held, source-pred}
use Rattle.pi_engine_steps.proofs.facts.fits.Goals as goal

pub returns-clause-tells : goal.returns-clause-tells
returns-clause-tells g c = IfOk-weaker c.fits_call.result _ _ (λ _ so pred lists ts at index acyclic holds.
    let v = g.S.StateStore.seen c.args.run.now.store in
    let n = c.args.call.now.predicate in
    let source = c.in-Some.source.now in
    let rs = c.take_block.new.terms.items in
    let at_source : slice_get (preds_of c.args.code.now) n ≡ Some source = sym c.source.ensures ∙ ap option_copied c.in-Some.is in
    so lists ts (ap (λ p. p.index) (source-pred (preds_of c.args.code.now) n source pred at_source at) ∙ index) acyclic
    (subst (λ qs. AreTerms v qs ts) (sym c.deref.ensures.value) (terms-held v c.args.run.now.arenas.blocks.slots c.args.call.now.base c.args.arity ts rs holds (c.in_ok-take_block.ensures v.now.terms ts holds)))) c.fits_call.ensures
