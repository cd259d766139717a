use Rattle.std.proofs.Common.{◌≡◌, ◌∙◌, sym, ap, subst, map, false, Some, rules}
use Rattle.std.specs.Prelude.{slice_get, option_copied}
use Rattle.std.proofs.lemmas.Result.{IfOk-weaker}
use Rattle.pi_core.specs.CoreTree.{clause_tree}
use Rattle.pi_engine_code.specs.Code.{preds_of}
use Rattle.pi_engine_arenas.specs.Arenas.{view_of}
use Rattle.pi_engine_stands.specs.Here.{HoldsArguments}
use Rattle.pi_engine_stands.specs.Stands.{World, world}
use Rattle.pi_engine_stands.proofs.CallsStay.{call-stays}
use Rattle.pi_engine_steps.specs.Facts.{TriesSome, asking}
use Rattle.pi_engine_steps.proofs.FactsTried.{there-of, pred-at, source-pred}
use Rattle.pi_engine_steps.proofs.facts.try_facts.Goals as goal
use Rattle.pi_engine_stands.specs.Changes.{change}

pub returns : goal.returns
returns g c = IfOk-weaker c.try_some.result _ _ (λ _ so l is_code has ts cs s k es is args same.
    let seen = g.S.StateStore.seen in
    let order = g.S.StateStore.order in
    let run = c.args.run.now in
    let one_run = c.asked_of.new.run in
    let end = c.try_some.new.run in
    let call = c.args.call.now in
    let predicate = c.args.predicate.now in
    let source = c.in-Some.source.now in
    let again = c.args.is_again in
    let w : World _ = world l (seen run.store) order (view_of run.arenas) in
    let after : World _ = world l (seen end.store) order (view_of end.arenas) in
    let there : slice_get l.code.predicates.items call.predicate ≡ Some predicate = ap (λ p. slice_get p.predicates.items call.predicate) is_code ∙ has in
    let at_source : slice_get (preds_of c.args.code.now) call.predicate ≡ Some source = sym c.source.ensures ∙ ap option_copied c.in-Some.is in
    let pred_is = source-pred (preds_of c.args.code.now) call.predicate source is.call.call.pred at_source
    (pred-at w call.predicate call.base call.frame c.args.from (record { function = false; args = ts }) cs s k es again c.args.code.now is is_code) in
    let clauses : is.call.call.pred.clauses ≡ map clause_tree c.as_slice-clauses.result.now = sym (ap (λ p. p.clauses) pred_is) ∙ ap (map clause_tree) (search rules) in
    let arity = (there-of w call.predicate call.base call.frame c.args.from (record { function = false; args = ts }) cs s k es again predicate is there).arity in
    let stays = c.asked_of.ensures.stays in
    let tries : TriesSome call c.args.from (asking predicate c.as_slice-clauses.result.now c.in_ok-asked.asked) again (change (world l (seen one_run.store) order (view_of run.arenas)) after end.now) =
    subst (λ r. TriesSome call c.args.from (asking predicate c.as_slice-clauses.result.now c.in_ok-asked.asked) again (change (world l (seen one_run.store) order (view_of r)) after end.now)) c.asked_of.ensures.arenas (so l is_code) in
    tries is.call.call.pred ts cs s k es (call-stays w (seen one_run.store) call.predicate call.base call.frame c.args.from (record { function = false; args = ts }) cs s k es again stays is) is.call.call.is_pred there clauses
    (c.in_ok-asked.ensures.term ts (subst (λ n. HoldsArguments (seen run.store).now.terms run.arenas.blocks.slots call.base n ts) (sym arity) args)) (same ∙ sym stays.state)) c.try_some.ensures
