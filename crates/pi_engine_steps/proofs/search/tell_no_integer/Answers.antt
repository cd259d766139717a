use Rattle.std.proofs.Common.{◌≡◌, ◌-◌, refl, subst}
use Rattle.std.specs.Prelude.{codes}
use Rattle.pi_terms.specs.Tree.{Tree}
use Rattle.pi_constraints.specs.Value.{IsAcyclic}
use Rattle.pi_constraints.specs.State.{bindings}
use Rattle.pi_constraints.specs.Store.{StoreView}
use Rattle.pi_effects.specs.Exception.{type_error}
use Rattle.pi_effects.specs.Balls.{IsBall}
use Rattle.pi_effects.specs.declared.fault.Fault.{Fault}
use Rattle.pi_effects.specs.declared.fault.Kind.{Kind}
use Rattle.pi_effects.specs.declared.fault.Stop.{Stop}
use Rattle.pi_lib.specs.Runs.{IsRaised}
use Rattle.pi_meaning.specs.Machine.Configuration.{config, raising}
use Rattle.pi_engine_arenas.specs.Arenas.{view_of, LeavesLevel}
use Rattle.pi_engine_arenas.specs.declared.run.Now.{Now}
use Rattle.pi_engine_stands.specs.Stands.{world, Stands}
use Rattle.pi_engine_stands.proofs.SearchAnswers.{search-raises}
use Rattle.pi_engine_steps.proofs.search.tell_no_integer.Goals as goal

same-fault : (a b : Fault) → Stop.Raised a ≡ Stop.Raised b → a ≡ b
same-fault a b h = cc

told-so : {M : Type 0} (v : StoreView M) (fault : Fault) (made ball : Tree) → IsAcyclic (bindings v.now.state) → IsRaised v (Stop.Raised fault) made → IsBall v fault ball → made ≡ ball
told-so v fault made ball acyclic raised is = raised.2 ball acyclic (subst (λ q. IsBall v q ball) (same-fault fault raised.0 raised.1) is)

pub returns : goal.returns
returns g c = λ l x f d es it named term.
    let v = g.S.StateStore.seen c.args.run.now.store in
    let a = view_of c.args.run.now.arenas in
    let b = view_of c.leave.new.self in
    let order = g.S.StateStore.order in
    let w = world l v order a in
    let ball = c.in_ok-ball.ball in
    let told : ball ≡ type_error (codes "integer") x.objective.expression v.now.state =
    told-so v (Fault.WrongKind Kind.Integer c.args.wanted) ball (type_error (codes "integer") x.objective.expression v.now.state) it.state.calm.state.acyclic c.in_ok-ball.ensures (x.objective.expression, term, refl) in
    subst (λ q. Stands (world l v order b) (Now.Raising ball) (config (raising q) es)) told
    (search-raises w b c.args.level c.args.back c.args.site x _ f d ball es it named (subst (λ q. LeavesLevel a b (c.args.level - 1) q) c.to_caller.ensures c.leave.ensures.leaves))
