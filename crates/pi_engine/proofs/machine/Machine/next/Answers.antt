use Rattle.std.proofs.Common.{◌≡◌, refl, sym, ◌∙◌, subst}
use Rattle.pi_engine_arenas.specs.Arenas.{view_of}
use Rattle.pi_engine_stands.specs.Answers.{AreNames}
use Rattle.pi_engine_stands.specs.Goes.{IsIn}
use Rattle.pi_engine.specs.Seen.{MachineView, machine_view}
use Rattle.pi_engine.specs.Inside.{loaded_as, run_of}
use Rattle.pi_engine_stands.specs.Stands.{Loaded}
use Rattle.pi_engine.specs.Turns.{NextComes, stopped_run}
use Rattle.pi_engine.proofs.NextTurns.{repeated-as}
use Rattle.pi_engine.proofs.RunsTold.{later, placed-in, lasting-in, told-by}
use Rattle.pi_engine.proofs.machine.Machine.next.Goals as goal

pub returns-clause-within : goal.returns-clause-within
returns-clause-within g c = c.next_happening.ensures.spends.within

pub returns-clause-steps : goal.returns-clause-steps
returns-clause-steps g c = λ on v program q events r.
    let seen = g.S.StateStore.seen in
    let end = c.next_happening.new.run in
    let a = c.args.budget.now in
    let b = c.next_happening.new.budget in
    let m : MachineView _ = machine_view seen g.S.StateStore.order c.args.self.now in
    let p = r.place in
    let l : Loaded = loaded_as m p.terms program q in
    let names : c.as_slice.result.now ≡ q.names = c.as_slice.ensures ∙ p.names in
    told-by v m program q events (seen end.store) (view_of end.arenas) end.now a b c.next_happening.result on r
    (subst (λ ns. NextComes v ns m.mode a b (run_of (later m (seen end.store) (view_of end.arenas) end.now) l) m.now end.now p.config c.next_happening.result) names
    (c.next_happening.ensures.comes l refl (subst (AreNames q.slots) (sym names) p.slots) v r.view p.config (subst (λ ns. IsIn v ns (run_of m l) m.now p.config) (sym names) (placed-in v m program q events on p))))
    c.next_happening.ensures.lasts

pub returns-clause-repeats : goal.returns-clause-repeats
returns-clause-repeats g c = λ end ended.
    let self = c.args.self.now in
    repeated-as (λ r. machine_view g.S.StateStore.seen g.S.StateStore.order (record self { run = r })) stopped_run self.run c.next_happening.new.run c.args.budget.now c.next_happening.new.budget end c.next_happening.result
    refl self.run.now ended c.next_happening.ensures.repeats

pub returns-clause-lasts : goal.returns-clause-lasts
returns-clause-lasts g c = lasting-in c.next_happening.new.run.now c.next_happening.result c.next_happening.ensures.lasts
