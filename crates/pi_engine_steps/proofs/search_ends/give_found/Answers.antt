use Rattle.pi_engine_arenas.specs.Arenas.{view_of}
use Rattle.pi_engine_stands.specs.Stands.{world}
use Rattle.pi_engine_stands.proofs.SearchEnds.{ends-with}
use Rattle.pi_engine_steps.proofs.search_ends.give_found.Goals as goal

pub returns : goal.returns
returns g c = λ l named x is some s b es it.
    let seen = g.S.StateStore.seen in
    let run = c.args.run.now in
    ends-with (world l (seen run.store) g.S.StateStore.order (view_of run.arenas)) (seen c.bring_back.new.self) (view_of c.leave.new.self) c.args.back c.to_caller.result c.args.site c.count-level.result c.leave.result x c.in-Some.entry.now s b es
    named is some c.in-Some.ensures.some c.in_ok-bring_back.ensures.ok c.count-level.ensures c.to_caller.ensures c.leave.ensures.leaves c.leave.ensures.result it
