use Rattle.std.proofs.Common.{sym, subst}
use Rattle.pi_engine_arenas.specs.Arenas.{view_of}
use Rattle.pi_meaning.specs.Machine.Step.{raise_step}
use Rattle.pi_engine_stands.specs.Stands.{world}
use Rattle.pi_engine_stands.specs.Fails.{ComesTo}
use Rattle.pi_engine_stands.proofs.RaisesStand.{LeftCatch, left-found, left-there, left-passed}
use Rattle.pi_terms.proofs.OptionLemmas.{none-some}
use Rattle.pi_engine_steps.proofs.raises.pass_left.Goals as goal

pub returns-in-Some : goal.returns-in-Some
returns-in-Some g c = λ l named x at back_is ball es raising stands balanced.
    let v = g.S.StateStore.seen c.args.run.now.store in
    let b = view_of c.leave.new.self in
    let w = world l v g.S.StateStore.order (view_of c.args.run.now.arenas) in
    let it : LeftCatch w c.args.exit.level ball es = left-found w c.args.exit x ball es stands at back_is named balanced in
    subst (λ n. ComesTo (world l v g.S.StateStore.order b) n (raise_step ball es)) (sym raising)
    (left-passed w b c.args.exit.level c.in-Some.entry.now ball es stands it c.in-Some.ensures.some c.leave.ensures.leaves)

pub returns-in_default : goal.returns-in_default
returns-in_default g c = λ l named x at back_is ball es raising stands balanced.
    let w = world l (g.S.StateStore.seen c.args.run.now.store) g.S.StateStore.order (view_of c.args.run.now.arenas) in
    let it : LeftCatch w c.args.exit.level ball es = left-found w c.args.exit x ball es stands at back_is named balanced in
    absurd (none-some c.in_default.ensures.none (left-there w c.args.exit.level ball es it))
