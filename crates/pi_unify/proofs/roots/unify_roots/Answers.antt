use Rattle.pi_constraints.specs.Unify.{assigned, outcome}
use Rattle.pi_unify.specs.Refs.{term_of, root_of}
use Rattle.pi_unify.proofs.RootLemmas.{meets_made, meets_compared, outcome_left, outcome_right, shown_other, refused_at_clash}
use Rattle.std.proofs.Common.{refl}
use Rattle.pi_unify.proofs.KeepsLemmas.{keeps_none}
use Rattle.pi_unify.proofs.BindLemmas.{if_ok, if_err}
use Rattle.pi_unify.proofs.roots.unify_roots.Goals as goal

pub returns-in_ok-assign-in_default-right-clause-meets : goal.returns-in_ok-assign-in_default-right-clause-meets
returns-in_ok-assign-in_default-right-clause-meets g c = λ p.
    let v = g.S.StateStore.seen c.args.s.now in
    let t = root_of v c.args.a in
    let u = root_of v c.args.b in
    let left = c.in-Var.ensures.shows (term_of v c.args.a) p.left.is p.state.acyclic in
    let right = c.look-right.ensures.shows (term_of v c.args.b) p.right.is p.state.acyclic in
    let other = shown_other v u c.look-right.result c.in_default-right.not-Var right in
    meets_made v.now.state t u (assigned v.now.state c.in-Var.m u) (outcome v.now.state t u) c.in_ok-assign-in_default-right.field-0 c.same_if.result _
    (outcome_left v.now.state t u c.in-Var.m left other) c.same_if.ensures (c.in_ok-assign-in_default-right.ensures.makes (record { state = p.state; variable = record { at = p.left; root = left }; term = p.right; other = other }))

pub returns-in_ok-assign-in-Var-right-2-clause-meets : goal.returns-in_ok-assign-in-Var-right-2-clause-meets
returns-in_ok-assign-in-Var-right-2-clause-meets g c = λ p.
    let v = g.S.StateStore.seen c.args.s.now in
    let t = root_of v c.args.a in
    let u = root_of v c.args.b in
    let left = c.look-left.ensures.shows (term_of v c.args.a) p.left.is p.state.acyclic in
    let right = c.in-Var-right-2.ensures.shows (term_of v c.args.b) p.right.is p.state.acyclic in
    let other = shown_other v t c.look-left.result c.in_default.not-Var left in
    meets_made v.now.state t u (assigned v.now.state c.in-Var-right-2.n t) (outcome v.now.state t u) c.in_ok-assign-in-Var-right-2.field-0 c.same_if-in-Var-right-2.result _
    (outcome_right v.now.state t u c.in-Var-right-2.n right other) c.same_if-in-Var-right-2.ensures (c.in_ok-assign-in-Var-right-2.ensures.makes (record { state = p.state; variable = record { at = p.right; root = right }; term = p.left; other = other }))

pub returns-in_default-right-2-clause-meets : goal.returns-in_default-right-2-clause-meets
returns-in_default-right-2-clause-meets g c = λ p.
    let v = g.S.StateStore.seen c.args.s.now in
    let t = root_of v c.args.a in
    let u = root_of v c.args.b in
    let left = c.look-left.ensures.shows (term_of v c.args.a) p.left.is p.state.acyclic in
    let right = c.look-right.ensures.shows (term_of v c.args.b) p.right.is p.state.acyclic in
    let left_other = shown_other v t c.look-left.result c.in_default.not-Var left in
    let right_other = shown_other v u c.look-right.result c.in_default-right-2.not-Var right in
    meets_compared v t u c.look-left.result c.look-right.result c.compared.result c.look-left.ensures.distinct left_other right_other left right c.compared.ensures

pub returns-in-Var-right-clause-keeps : goal.returns-in-Var-right-clause-keeps
returns-in-Var-right-clause-keeps g c = c.unify_variables.ensures.keeps

pub returns-in-Var-right-clause-meets : goal.returns-in-Var-right-clause-meets
returns-in-Var-right-clause-meets g c = if_ok c.unify_variables.result _ _ c.unify_variables.ensures.meets (λ roots meets p. meets p.state (record { at = p.left; root = c.in-Var.ensures.shows (term_of (g.S.StateStore.seen c.args.s.now) c.args.a) p.left.is p.state.acyclic }) (record { at = p.right; root = c.in-Var-right.ensures.shows (term_of (g.S.StateStore.seen c.args.s.now) c.args.b) p.right.is p.state.acyclic }))

pub returns-in-Var-right-clause-clash : goal.returns-in-Var-right-clause-clash
returns-in-Var-right-clause-clash g c = c.unify_variables.ensures.clash

pub returns-in_err-assign-in_default-right : goal.returns-in_err-assign-in_default-right
returns-in_err-assign-in_default-right g c = record { keeps = c.in_err-assign-in_default-right.ensures.keeps; meets = if_err c.from_residual.result _ c.from_residual.ensures.0; clash = if_err c.from_residual.result _ c.from_residual.ensures.0 }

pub returns-in_ok-assign-in_default-right-clause-keeps : goal.returns-in_ok-assign-in_default-right-clause-keeps
returns-in_ok-assign-in_default-right-clause-keeps g c = c.in_ok-assign-in_default-right.ensures.keeps

pub returns-in_ok-assign-in_default-right-clause-clash : goal.returns-in_ok-assign-in_default-right-clause-clash
returns-in_ok-assign-in_default-right-clause-clash g c = λ clashes. c.in_ok-assign-in_default-right.ensures.refused (refused_at_clash c.in_ok-assign-in_default-right.field-0 c.same_if.result c.same_if.ensures clashes)

pub returns-in_err-assign-in-Var-right-2 : goal.returns-in_err-assign-in-Var-right-2
returns-in_err-assign-in-Var-right-2 g c = record { keeps = c.in_err-assign-in-Var-right-2.ensures.keeps; meets = if_err c.from_residual-in_err-assign-in-Var-right-2.result _ c.from_residual-in_err-assign-in-Var-right-2.ensures.0; clash = if_err c.from_residual-in_err-assign-in-Var-right-2.result _ c.from_residual-in_err-assign-in-Var-right-2.ensures.0 }

pub returns-in_ok-assign-in-Var-right-2-clause-keeps : goal.returns-in_ok-assign-in-Var-right-2-clause-keeps
returns-in_ok-assign-in-Var-right-2-clause-keeps g c = c.in_ok-assign-in-Var-right-2.ensures.keeps

pub returns-in_ok-assign-in-Var-right-2-clause-clash : goal.returns-in_ok-assign-in-Var-right-2-clause-clash
returns-in_ok-assign-in-Var-right-2-clause-clash g c = λ clashes. c.in_ok-assign-in-Var-right-2.ensures.refused (refused_at_clash c.in_ok-assign-in-Var-right-2.field-0 c.same_if-in-Var-right-2.result c.same_if-in-Var-right-2.ensures clashes)

pub returns-in_default-right-2-clause-keeps : goal.returns-in_default-right-2-clause-keeps
returns-in_default-right-2-clause-keeps g c = keeps_none (g.S.StateStore.seen c.args.s.now)

pub returns-in_default-right-2-clause-clash : goal.returns-in_default-right-2-clause-clash
returns-in_default-right-2-clause-clash g c = λ clashes. refl
