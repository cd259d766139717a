use Rattle.std.proofs.Common.{◌≡◌, ◌∙◌, sym, ap, [], false, Some}
use Rattle.std.specs.Prelude.{slice_get}
use Rattle.std.proofs.lemmas.Result.{IfOk-weaker}
use Rattle.pi_engine_arenas.specs.Arenas.{view_of}
use Rattle.pi_meaning.specs.Machine.Step.{back_to}
use Rattle.pi_engine_stands.specs.Stands.{World, world}
use Rattle.pi_engine_steps.proofs.FactsTried.{there-of, by-rules}
use Rattle.pi_engine_steps.proofs.facts.try_clauses.Goals as goal

pub returns-then-predicate : goal.returns-then-predicate
returns-then-predicate g c = IfOk-weaker c.call_facts.result _ _ (λ _ so l is_code has. so l is_code has c.if-predicate.true) c.call_facts.ensures

pub returns-else-predicate : goal.returns-else-predicate
returns-else-predicate g c = IfOk-weaker c.try_rules.result _ _ (λ _ so l is_code has ts cs s k es is args same.
    let seen = g.S.StateStore.seen in
    let order = g.S.StateStore.order in
    let run = c.args.run.now in
    let end = c.try_rules.new.run in
    let call = c.args.call.now in
    let predicate = c.args.predicate.now in
    let w : World _ = world l (seen run.store) order (view_of run.arenas) in
    let there : slice_get l.code.predicates.items call.predicate ≡ Some predicate = ap (λ p. slice_get p.predicates.items call.predicate) is_code ∙ has in
    by-rules (world l (seen end.store) order (view_of end.arenas)) end.now is.call.call.pred.index ts cs (back_to [] s k) es
    (sym (there-of w call.predicate call.base call.frame predicate.first (record { function = false; args = ts }) cs s k es false predicate is there).facts ∙ c.if-predicate.false)
    (so l is_code has (record { function = false; args = ts }) cs s k es is args same)) c.try_rules.ensures
