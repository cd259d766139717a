use Rattle.std.proofs.Common.{◌≡◌, [], sym, ◌∙◌, ap}
use Rattle.std.proofs.lemmas.List.{append-nil}
use Rattle.pi_terms.proofs.TakenLemmas.{took-one, took-none, empty}
use Rattle.pi_engine_steps.proofs.values.take_arguments.Goals as goal
use Rattle.pi_engine_steps.proofs.values.take_arguments.Goals.{in-Some+in_ok-push, in_default}

pub loop-i-preserved : goal.loop-i-preserved
loop-i-preserved c =
    elim c.match-pop.branch [
      | in-Some+in_ok-push w ↦ took-one c.args.made.now.items c.loop-i.made.items c.pop.new.self.items c.loop-i.arguments.items c.match-pop.arguments.items c.loop-i._i w.in-Some.term
          c.loop-i.invariant.0 c.loop-i.invariant.1 w.in-Some.ensures.items (ap (λ r. r.items) w.arguments-is ∙ w.in_ok-push.ensures.items)
      | in_default w ↦ (let none : c.loop-i.made.items ≡ [] = empty c.loop-i.made.items (sym c.loop-i.made.ok.0 ∙ w.in_default.ensures.cases.0) in
          let rest : c.pop.new.self.items ≡ [] = sym (append-nil c.pop.new.self.items) ∙ sym w.in_default.ensures.items ∙ none in
          took-none c.args.made.now.items c.loop-i.made.items c.pop.new.self.items c.match-pop.arguments.items c.loop-i._i (ap (λ r. r.items) w.arguments-is ∙ c.loop-i.invariant.0) c.loop-i.invariant.1 none rest)
    ]
