use Rattle.pi_engine_facts.proofs.HeadLemmas.{slot-there, slot-new}
use Rattle.std.proofs.Common.{◌∙◌, sym}
use Rattle.pi_engine_facts.proofs.heads.slot_of.Goals as goal

pub returns-in-Some-clause-puts : goal.returns-in-Some-clause-puts
returns-in-Some-clause-puts g c = λ state made.
    slot-there (g.S.StateStore.seen c.args.s.now) c.args.slots.now.items c.args.k c.in-Some.n c.var_ref.result (sym c.variable_of.ensures ∙ c.in-Some.is) state made c.var_ref.ensures

pub returns-clause-puts : goal.returns-clause-puts
returns-clause-puts g c = λ state made.
    slot-new (g.S.StateStore.seen c.args.s.now) (g.S.StateStore.seen c.new_var.new.self) c.args.slots.now.items c.keep_variable.new.slots.items c.args.k c.vars-n.result c.in_ok-made.made (sym c.variable_of.ensures ∙ c.in_default.is) state made c.vars-n.ensures
    c.keep_variable.ensures c.in_ok-made.ensures.ok
