use Rattle.std.proofs.Common.{◌≡◌, ◌∙◌, sym, ap, subst, [], false, Some}
use Rattle.std.specs.Prelude.{slice_get}
use Rattle.std.proofs.lemmas.Result.{IfOk-weaker}
use Rattle.pi_engine_arenas.specs.Arenas.{view_of}
use Rattle.pi_meaning.specs.Machine.Step.{back_to, try_clauses}
use Rattle.pi_engine_stands.specs.Stands.{World, world, Stands}
use Rattle.pi_engine_stands.specs.Tries.{TriesFacts}
use Rattle.pi_engine_arenas.specs.declared.run.Now.{Now}
use Rattle.pi_engine_steps.proofs.FactsTried.{there-of, by-facts, fits-so, fits-not, call-fails, fits-there}
use Rattle.pi_engine_steps.proofs.facts.call_facts.Goals as goal
use Rattle.pi_engine_stands.specs.Changes.{change}

pub returns-then-branch : goal.returns-then-branch
returns-then-branch g c = IfOk-weaker c.try_facts.result _ _ (λ _ so l is_code has facts ts cs s k es is args same.
    let seen = g.S.StateStore.seen in
    let order = g.S.StateStore.order in
    let run = c.args.run.now in
    let one_run = c.fits.new.run in
    let end = c.try_facts.new.run in
    let call = c.args.call.now in
    let predicate = c.args.predicate.now in
    let w : World _ = world l (seen run.store) order (view_of run.arenas) in
    let after : World _ = world l (seen end.store) order (view_of end.arenas) in
    let there : slice_get l.code.predicates.items call.predicate ≡ Some predicate = ap (λ p. slice_get p.predicates.items call.predicate) is_code ∙ has in
    let tries : TriesFacts call predicate.first false (change w after end.now) =
    subst (λ r. TriesFacts call predicate.first false (change (world l (seen r) order (view_of run.arenas)) after end.now)) c.fits.ensures.store
    (subst (λ r. TriesFacts call predicate.first false (change (world l (seen one_run.store) order (view_of r)) after end.now)) c.fits.ensures.arenas (so l is_code has)) in
    by-facts after end.now is.call.call.pred.index ts cs (back_to [] s k) es c.in_ok-fits.field-0
    (sym (there-of w call.predicate call.base call.frame predicate.first (record { function = false; args = ts }) cs s k es false predicate is there).facts ∙ facts)
    (fits-there w call.predicate call.base call.frame predicate.first ts cs s k es predicate c.args.code.now c.in_ok-fits.field-0 is is_code there args same c.in_ok-fits.ensures.tells)
    (fits-so after end.now c.in_ok-fits.field-0 ts cs (back_to [] s k) es c.if-branch.true (tries ts cs s k es is args same))) c.try_facts.ensures

pub returns-else-branch : goal.returns-else-branch
returns-else-branch g c = λ l is_code has facts ts cs s k es is args same.
    let seen = g.S.StateStore.seen in
    let order = g.S.StateStore.order in
    let run = c.args.run.now in
    let one_run = c.fits.new.run in
    let call = c.args.call.now in
    let predicate = c.args.predicate.now in
    let w : World _ = world l (seen run.store) order (view_of run.arenas) in
    let there : slice_get l.code.predicates.items call.predicate ≡ Some predicate = ap (λ p. slice_get p.predicates.items call.predicate) is_code ∙ has in
    subst (λ r. Stands (world l (seen r) order (view_of one_run.arenas)) Now.Failing (try_clauses is.call.call.pred.index cs ts (back_to [] s k) es)) (sym c.fits.ensures.store)
    (subst (λ r. Stands (world l (seen run.store) order (view_of r)) Now.Failing (try_clauses is.call.call.pred.index cs ts (back_to [] s k) es)) (sym c.fits.ensures.arenas)
    (by-facts w Now.Failing is.call.call.pred.index ts cs (back_to [] s k) es c.in_ok-fits.field-0
    (sym (there-of w call.predicate call.base call.frame predicate.first (record { function = false; args = ts }) cs s k es false predicate is there).facts ∙ facts)
    (fits-there w call.predicate call.base call.frame predicate.first ts cs s k es predicate c.args.code.now c.in_ok-fits.field-0 is is_code there args same c.in_ok-fits.ensures.tells)
    (fits-not w Now.Failing c.in_ok-fits.field-0 ts cs (back_to [] s k) es c.if-branch.false
    (call-fails w call.predicate call.base call.frame predicate.first (record { function = false; args = ts }) cs s k es is))))
