use Rattle.std.proofs.Common.{◌+◌, [], ◌∷◌, subst, sym}
use Rattle.pi_engine_arenas.specs.declared.run.Now.{Now}
use Rattle.pi_engine_arenas.specs.Arenas.{view_of}
use Rattle.pi_meaning.specs.Machine.Step.{taken, back_to, trial}
use Rattle.pi_engine_stands.specs.Stands.{World, world, Stands}
use Rattle.pi_engine_stands.proofs.RulesTaken.{rule-alone, rule-kept, arity-of, call-fits, entry-gone, entry-none}
use Rattle.pi_engine_steps.proofs.rules.take_rule.Goals.{in-Some+in_ok-keep, in_default+then-is_again, in_default+else-is_again}
use Rattle.pi_engine_steps.proofs.rules.take_rule.Goals as goal

pub returns : goal.returns
returns g c = λ l called clause cs s k es e applies.
    let seen = g.S.StateStore.seen in
    let order = g.S.StateStore.order in
    let run = c.args.run.now in
    let call = c.args.call.now in
    let number = c.args.number in
    let again = c.args.is_again in
    let predicate = c.args.predicate.now in
    let rule = c.args.rule.now in
    let before : World _ = world l (seen run.store) order (view_of run.arenas) in
    let now : Now = Now.Going (record { place = rule.body; count = rule.goals; base = call.base; frame = call.frame }) in
    elim c.match-later_rule.branch [
      | in-Some+in_ok-keep w ↦
          subst (λ r. Stands (world l (seen r.store) order (view_of r.arenas)) now (taken (trial called clause cs (back_to [] s k) es) e (seen run.store).now.state)) (sym w.run-is)
          (rule-kept before (seen w.keep.new.run.store) (view_of w.keep.new.run.arenas) call.predicate call.base call.frame number w.in-Some.next (call.base + predicate.arity) called clause cs s k es again predicate rule e
          applies w.in-Some.ensures.0 w.in-Some.ensures.1 w.in-Some.ensures.2
          (arity-of before call.predicate call.base call.frame number called (clause ∷ cs) s k es again predicate applies.is applies.is_predicate)
          (w.in_ok-keep.ensures (call-fits before call.predicate call.base call.frame number called (clause ∷ cs) s k es again predicate applies.is applies.is_predicate)))
      | in_default+then-is_again w ↦
          subst (λ r. Stands (world l (seen r.store) order (view_of r.arenas)) now (taken (trial called clause cs (back_to [] s k) es) e (seen run.store).now.state)) (sym w.run-is)
          (rule-alone before (seen run.store) (view_of w.pop.new.self) call.predicate call.base call.frame number called clause cs s k es again predicate rule e applies w.in_default.ensures
          (entry-gone before (view_of w.pop.new.self) call.predicate call.base call.frame number called (clause ∷ cs) s k es again applies.is w.if-is_again.true
          (record { entries = w.pop.ensures.entries; kept = w.pop.ensures.kept; slots = w.pop.ensures.slots; keeps = w.pop.ensures.keeps; frames = w.pop.ensures.frames; level = w.pop.ensures.level; collected = w.pop.ensures.collected })))
      | in_default+else-is_again w ↦
          subst (λ r. Stands (world l (seen r.store) order (view_of r.arenas)) now (taken (trial called clause cs (back_to [] s k) es) e (seen run.store).now.state)) (sym w.run-is)
          (rule-alone before (seen run.store) (view_of run.arenas) call.predicate call.base call.frame number called clause cs s k es again predicate rule e applies w.in_default.ensures
          (entry-none before call.predicate call.base call.frame number called (clause ∷ cs) s k es again applies.is w.if-is_again.false))
    ]
