use Rattle.pi_lib_builtin.proofs.BuildLemmas.{array-put}
use Rattle.pi_lib_builtin.proofs.building.put_array.Goals as goal

pub returns-clause-ok : goal.returns-clause-ok
returns-clause-ok g c = λ ts items.
    array-put (g.S.StateStore.seen c.args.s.now) (g.S.StateStore.seen c.put_comp.new.self) c.args.items.now c.in_ok-made.made ts items c.in_ok-made.ensures.ok
