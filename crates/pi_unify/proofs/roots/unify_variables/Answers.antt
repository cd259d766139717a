use Rattle.pi_constraints.specs.Unify.{joined, outcome}
use Rattle.pi_unify.specs.Refs.{root_of}
use Rattle.pi_unify.proofs.RootLemmas.{less_if, meets_made, meets_same, outcome_less, outcome_more, outcome_same, refused_at_clash}
use Rattle.pi_unify.proofs.KeepsLemmas.{keeps_none}
use Rattle.pi_unify.proofs.BindLemmas.{if_err}
use Rattle.pi_unify.proofs.roots.unify_variables.Goals as goal

pub returns-then-x-y-clause-meets : goal.returns-then-x-y-clause-meets
returns-then-x-y-clause-meets g c = λ is left right.
    let v = g.S.StateStore.seen c.args.s.now in
    let t = root_of v c.args.x.at in
    let u = root_of v c.args.y.at in
    meets_same v.now.state t u (outcome_same v.now.state t u c.args.x.number c.args.y.number left.root right.root c.if-x-y.true)

pub returns-in_ok-join-clause-meets : goal.returns-in_ok-join-clause-meets
returns-in_ok-join-clause-meets g c = λ is left right.
    let v = g.S.StateStore.seen c.args.s.now in
    let t = root_of v c.args.x.at in
    let u = root_of v c.args.y.at in
    let m = c.args.x.number in
    let n = c.args.y.number in
    meets_made v.now.state t u (joined v.now.state m n) (outcome v.now.state t u) c.in_ok-join.field-0 c.same_if.result _
    (outcome_less v.now.state t u m n left.root right.root c.if-x-y-2.true) c.same_if.ensures (c.in_ok-join.ensures.makes (record { state = is; low = left; high = right; less = c.if-x-y-2.true }))

pub returns-in_ok-join-2-clause-meets : goal.returns-in_ok-join-2-clause-meets
returns-in_ok-join-2-clause-meets g c = λ is left right.
    let v = g.S.StateStore.seen c.args.s.now in
    let t = root_of v c.args.x.at in
    let u = root_of v c.args.y.at in
    let m = c.args.x.number in
    let n = c.args.y.number in
    meets_made v.now.state t u (joined v.now.state n m) (outcome v.now.state t u) c.in_ok-join-2.field-0 c.same_if-else-x-y-2.result _
    (outcome_more v.now.state t u m n left.root right.root c.if-x-y.false c.if-x-y-2.false) c.same_if-else-x-y-2.ensures (c.in_ok-join-2.ensures.makes (record { state = is; low = right; high = left; less = less_if n m c.if-x-y.false c.if-x-y-2.false }))

pub returns-then-x-y-clause-keeps : goal.returns-then-x-y-clause-keeps
returns-then-x-y-clause-keeps g c = keeps_none (g.S.StateStore.seen c.args.s.now)

pub returns-in_err-join-clause-keeps : goal.returns-in_err-join-clause-keeps
returns-in_err-join-clause-keeps g c = c.join.ensures.keeps

pub returns-in_err-join-clause-meets : goal.returns-in_err-join-clause-meets
returns-in_err-join-clause-meets g c = if_err c.from_residual.result _ c.from_residual.ensures.0

pub returns-in_err-join-clause-clash : goal.returns-in_err-join-clause-clash
returns-in_err-join-clause-clash g c = if_err c.from_residual.result _ c.from_residual.ensures.0

pub returns-in_err-join-2-clause-keeps : goal.returns-in_err-join-2-clause-keeps
returns-in_err-join-2-clause-keeps g c = c.join-else-x-y-2.ensures.keeps

pub returns-in_err-join-2-clause-meets : goal.returns-in_err-join-2-clause-meets
returns-in_err-join-2-clause-meets g c = if_err c.from_residual-in_err-join-2.result _ c.from_residual-in_err-join-2.ensures.0

pub returns-in_err-join-2-clause-clash : goal.returns-in_err-join-2-clause-clash
returns-in_err-join-2-clause-clash g c = if_err c.from_residual-in_err-join-2.result _ c.from_residual-in_err-join-2.ensures.0

pub returns-in_ok-join-clause-keeps : goal.returns-in_ok-join-clause-keeps
returns-in_ok-join-clause-keeps g c = c.join.ensures.keeps

pub returns-in_ok-join-clause-clash : goal.returns-in_ok-join-clause-clash
returns-in_ok-join-clause-clash g c = λ clashes. c.in_ok-join.ensures.refused (refused_at_clash c.in_ok-join.field-0 c.same_if.result c.same_if.ensures clashes)

pub returns-in_ok-join-2-clause-keeps : goal.returns-in_ok-join-2-clause-keeps
returns-in_ok-join-2-clause-keeps g c = c.join-else-x-y-2.ensures.keeps

pub returns-in_ok-join-2-clause-clash : goal.returns-in_ok-join-2-clause-clash
returns-in_ok-join-2-clause-clash g c = λ clashes. c.in_ok-join-2.ensures.refused (refused_at_clash c.in_ok-join-2.field-0 c.same_if-else-x-y-2.result c.same_if-else-x-y-2.ensures clashes)
