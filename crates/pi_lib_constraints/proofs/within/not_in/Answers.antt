use Rattle.std.proofs.Common.{false, ◌∙◌, ap}
use Rattle.pi_settling.specs.RightSide.{side_domain}
use Rattle.pi_settling.specs.Within.{item_not_in, each_item}
use Rattle.pi_lib_constraints.specs.Kept.{item_kept}
use Rattle.pi_lib_constraints.proofs.KeepLemmas.{notin-each}
use Rattle.pi_lib_constraints.proofs.WithinLemmas.{side-raised, left-raised, goal-shown}
use Rattle.pi_lib_constraints.proofs.within.not_in.Goals as goal

pub returns-in_err-domain-clause-shows : goal.returns-in_err-domain-clause-shows
returns-in_err-domain-clause-shows g c = λ t u is left right.
    let v = g.S.StateStore.seen c.args.s.now in
    side-raised v t (side_domain false v.now.state u) item_not_in _ c.from_residual.result c.from_residual.ensures.1 (c.in_err-domain.ensures u is.acyclic right)

pub returns-in_err-items-clause-shows : goal.returns-in_err-items-clause-shows
returns-in_err-items-clause-shows g c = λ t u is left right.
    let v = g.S.StateStore.seen c.args.s.now in
    left-raised v t (side_domain false v.now.state u) c.in_ok-domain.domain item_not_in _ c.from_residual-in_err-items.result c.from_residual-in_err-items.ensures.1 (c.in_ok-domain.ensures u is.acyclic right) (c.in_err-items.ensures t is.acyclic left)

pub returns-clause-shows : goal.returns-clause-shows
returns-clause-shows g c = λ t u is left right.
    let v = g.S.StateStore.seen c.args.s.now in
    let d = c.in_ok-domain.domain in
    let kept = c.in_ok-kept.kept in
    goal-shown v (g.S.StateStore.seen c.keep_all.new.s) t (side_domain false v.now.state u) d item_not_in (item_kept false d kept) c.in_ok-items.items c.deref.result.now c.in_ok-some.some c.outcome_of.result (c.in_ok-domain.ensures u is.acyclic right)
    (c.in_ok-items.ensures t is.acyclic left) c.deref.ensures.value (λ xs are. c.in_ok-some.ensures.left xs is c.spans-spans.ensures.domain are)
    (λ xs. ap (λ e. each_item (item_kept false d e) xs v.now.state) c.in_ok-kept.ensures ∙ notin-each d xs v.now.state) c.outcome_of.ensures
