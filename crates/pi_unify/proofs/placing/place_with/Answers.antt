use Rattle.pi_terms.specs.Copy.{renamed, copy, new_variables}
use Rattle.pi_constraints.specs.State.{next}
use Rattle.pi_constraints.specs.Store.{IsTerm, Gives}
use Rattle.pi_unify.specs.Copying.{with_variables, MakesSome, renumbered}
use Rattle.pi_unify.proofs.KeepsLemmas.{some_made}
use Rattle.pi_unify.proofs.MatchingLemmas.{if_ok}
use Rattle.pi_unify.proofs.PlaceLemmas.{made_enough, placed, on_err}
use Rattle.pi_unify.proofs.placing.place_with.Goals as goal

pub put_nodes-requires-clause-made : goal.put_nodes-requires-clause-made
put_nodes-requires-clause-made g c =
    let v = g.S.StateStore.seen c.args.s.now in
    let w = g.S.StateStore.seen c.make_variables.new.s in
    made_enough v w c.len.result c.args.numbers.now c.in_ok-make_variables.ensures.ok c.len.ensures

pub returns-clause-ok : goal.returns-clause-ok
returns-clause-ok g c =
    let v = g.S.StateStore.seen c.args.s.now in
    let w = g.S.StateStore.seen c.make_variables.new.s in
    let x = g.S.StateStore.seen c.put_nodes.new.s in
    let t = c.args.t.now in
    let ns = c.args.numbers.now in
    if_ok c.put_nodes.result (λ made. IsTerm x made (renamed (renumbered w.now.state ns) t)) (λ made. Gives v x (with_variables (new_variables t) v.now.state) made (copy (next v.now.state) t))
    (λ made term. placed v w x c.len.result ns t made c.in_ok-make_variables.ensures.ok c.len.ensures c.requires c.put_nodes.ensures.stays term)
    c.put_nodes.ensures.ok

pub returns-clause-err : goal.returns-clause-err
returns-clause-err g c =
    let v = g.S.StateStore.seen c.args.s.now in
    let w = g.S.StateStore.seen c.make_variables.new.s in
    let x = g.S.StateStore.seen c.put_nodes.new.s in
    on_err c.put_nodes.result (MakesSome v x) (some_made v w x c.len.result c.in_ok-make_variables.ensures.ok c.put_nodes.ensures.stays)
