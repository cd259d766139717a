use Rattle.std.proofs.Common.{refl, subst, [], sym}
use Rattle.pi_constraints.specs.State.{IsState}
use Rattle.pi_constraints.specs.Unify.{outcome}
use Rattle.pi_unify.specs.Refs.{root_of}
use Rattle.pi_unify.specs.Ahead.{ArePairs, pairs_on, pair_and, IsNextPair}
use Rattle.pi_unify.specs.Answers.{Meets, GoesOn, Steps}
use Rattle.pi_unify.specs.declared.roots.Roots.{Roots}
use Rattle.pi_unify.proofs.BindLemmas.{if_ok, if_err}
use Rattle.pi_unify.proofs.StepLemmas.{met_clash, met_same, met_args, step_on}
use Rattle.pi_unify.proofs.unifier.take_pair.Goals as goal

pub returns-in-Clash-clause-steps : goal.returns-in-Clash-clause-steps
returns-in-Clash-clause-steps g c = λ is pair.
    let v = g.S.StateStore.seen c.args.s.now in
    let w = g.S.StateStore.seen c.unify_roots.new.s in
    let t = root_of v c.args.a in
    let u = root_of v c.args.b in
    let met = c.in_ok-unify_roots.ensures.meets (record { state = is; left = pair.left; right = pair.right }) in
    let meets = subst (λ (roots : Roots). Meets v.now.state t u (outcome v.now.state t u) roots w.now.state) c.in-Clash.is met in
    met_clash v c.args.a c.args.b c.args.ahead.now.items w.now.state (outcome v.now.state t u) is pair refl meets

pub returns-in-Same-clause-steps : goal.returns-in-Same-clause-steps
returns-in-Same-clause-steps g c =
    let v = g.S.StateStore.seen c.args.s.now in
    let w = g.S.StateStore.seen c.unify_roots.new.s in
    let t = root_of v c.args.a in
    let u = root_of v c.args.b in
    let fs = c.args.ahead.now.items in
    let gs = c.go_on.new.ahead.items in
    if_ok c.go_on.result (λ step. IsState w.now.state → ArePairs w fs → GoesOn w (pairs_on w fs []) step gs) (λ step. IsState v.now.state → IsNextPair v c.args.a c.args.b fs → Steps v (pair_and v c.args.a c.args.b fs) step w gs) c.go_on.ensures
    (λ step goes is pair.
    let met = c.in_ok-unify_roots.ensures.meets (record { state = is; left = pair.left; right = pair.right }) in
    let meets = subst (λ (roots : Roots). Meets v.now.state t u (outcome v.now.state t u) roots w.now.state) c.in-Same.is met in
    let leaves = met_same v w c.args.a c.args.b fs (outcome v.now.state t u) is pair c.in_ok-unify_roots.ensures.keeps refl meets in
    step_on v w c.args.a c.args.b fs fs gs step leaves (goes leaves.state leaves.pairs))

pub returns-in_ok-leave_all-in-Args-clause-steps : goal.returns-in_ok-leave_all-in-Args-clause-steps
returns-in_ok-leave_all-in-Args-clause-steps g c =
    let v = g.S.StateStore.seen c.args.s.now in
    let w = g.S.StateStore.seen c.unify_roots.new.s in
    let t = root_of v c.args.a in
    let u = root_of v c.args.b in
    let fs = c.args.ahead.now.items in
    let hs = c.leave_all.new.rests.items in
    let gs = c.go_on-in-Args.new.ahead.items in
    if_ok c.go_on-in-Args.result (λ step. IsState w.now.state → ArePairs w hs → GoesOn w (pairs_on w hs []) step gs) (λ step. IsState v.now.state → IsNextPair v c.args.a c.args.b fs → Steps v (pair_and v c.args.a c.args.b fs) step w gs) c.go_on-in-Args.ensures
    (λ step goes is pair.
    let met = c.in_ok-unify_roots.ensures.meets (record { state = is; left = pair.left; right = pair.right }) in
    let meets = subst (λ (roots : Roots). Meets v.now.state t u (outcome v.now.state t u) roots w.now.state) c.in-Args.is met in
    let leaves = met_args v w c.args.a c.args.b fs hs c.in-Args.count (outcome v.now.state t u) is pair c.in_ok-unify_roots.ensures.keeps refl meets c.in_ok-leave_all-in-Args.ensures in
    step_on v w c.args.a c.args.b fs hs gs step leaves (goes leaves.state leaves.pairs))

pub returns-in-Clash-clause-state : goal.returns-in-Clash-clause-state
returns-in-Clash-clause-state g c = λ is pair. subst IsState (sym (c.in_ok-unify_roots.ensures.clash c.in-Clash.is)) is

pub returns-in-Same-clause-state : goal.returns-in-Same-clause-state
returns-in-Same-clause-state g c =
    let v = g.S.StateStore.seen c.args.s.now in
    let w = g.S.StateStore.seen c.unify_roots.new.s in
    let t = root_of v c.args.a in
    let u = root_of v c.args.b in
    let fs = c.args.ahead.now.items in
    let gs = c.go_on.new.ahead.items in
    if_ok c.go_on.result (λ step. IsState w.now.state → ArePairs w fs → GoesOn w (pairs_on w fs []) step gs) (λ step. IsState v.now.state → IsNextPair v c.args.a c.args.b fs → IsState w.now.state) c.go_on.ensures
    (λ step goes is pair.
    let met = c.in_ok-unify_roots.ensures.meets (record { state = is; left = pair.left; right = pair.right }) in
    let meets = subst (λ (roots : Roots). Meets v.now.state t u (outcome v.now.state t u) roots w.now.state) c.in-Same.is met in
    (met_same v w c.args.a c.args.b fs (outcome v.now.state t u) is pair c.in_ok-unify_roots.ensures.keeps refl meets).state)

pub returns-in_ok-leave_all-in-Args-clause-state : goal.returns-in_ok-leave_all-in-Args-clause-state
returns-in_ok-leave_all-in-Args-clause-state g c =
    let v = g.S.StateStore.seen c.args.s.now in
    let w = g.S.StateStore.seen c.unify_roots.new.s in
    let t = root_of v c.args.a in
    let u = root_of v c.args.b in
    let fs = c.args.ahead.now.items in
    let hs = c.leave_all.new.rests.items in
    let gs = c.go_on-in-Args.new.ahead.items in
    if_ok c.go_on-in-Args.result (λ step. IsState w.now.state → ArePairs w hs → GoesOn w (pairs_on w hs []) step gs) (λ step. IsState v.now.state → IsNextPair v c.args.a c.args.b fs → IsState w.now.state) c.go_on-in-Args.ensures
    (λ step goes is pair.
    let met = c.in_ok-unify_roots.ensures.meets (record { state = is; left = pair.left; right = pair.right }) in
    let meets = subst (λ (roots : Roots). Meets v.now.state t u (outcome v.now.state t u) roots w.now.state) c.in-Args.is met in
    (met_args v w c.args.a c.args.b fs hs c.in-Args.count (outcome v.now.state t u) is pair c.in_ok-unify_roots.ensures.keeps refl meets c.in_ok-leave_all-in-Args.ensures).state)

pub returns-in_err-unify_roots-clause-keeps : goal.returns-in_err-unify_roots-clause-keeps
returns-in_err-unify_roots-clause-keeps g c = c.unify_roots.ensures.keeps

pub returns-in_err-unify_roots-clause-steps : goal.returns-in_err-unify_roots-clause-steps
returns-in_err-unify_roots-clause-steps g c = if_err c.from_residual.result _ c.from_residual.ensures.0

pub returns-in_err-unify_roots-clause-state : goal.returns-in_err-unify_roots-clause-state
returns-in_err-unify_roots-clause-state g c = if_err c.from_residual.result _ c.from_residual.ensures.0

pub returns-in-Clash-clause-keeps : goal.returns-in-Clash-clause-keeps
returns-in-Clash-clause-keeps g c = c.in_ok-unify_roots.ensures.keeps

pub returns-in-Same-clause-keeps : goal.returns-in-Same-clause-keeps
returns-in-Same-clause-keeps g c = c.in_ok-unify_roots.ensures.keeps

pub returns-in_err-leave_all-in-Args-clause-keeps : goal.returns-in_err-leave_all-in-Args-clause-keeps
returns-in_err-leave_all-in-Args-clause-keeps g c = c.in_ok-unify_roots.ensures.keeps

pub returns-in_err-leave_all-in-Args-clause-steps : goal.returns-in_err-leave_all-in-Args-clause-steps
returns-in_err-leave_all-in-Args-clause-steps g c = if_err c.from_residual-in_err-leave_all-in-Args.result _ c.from_residual-in_err-leave_all-in-Args.ensures.0

pub returns-in_err-leave_all-in-Args-clause-state : goal.returns-in_err-leave_all-in-Args-clause-state
returns-in_err-leave_all-in-Args-clause-state g c = if_err c.from_residual-in_err-leave_all-in-Args.result _ c.from_residual-in_err-leave_all-in-Args.ensures.0

pub returns-in_ok-leave_all-in-Args-clause-keeps : goal.returns-in_ok-leave_all-in-Args-clause-keeps
returns-in_ok-leave_all-in-Args-clause-keeps g c = c.in_ok-unify_roots.ensures.keeps
