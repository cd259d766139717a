use Rattle.std.proofs.Common.{◌+◌, arith}
use Rattle.pi_unify.proofs.KeepsLemmas.{makes_none, some_made}
use Rattle.pi_unify.proofs.PlaceLemmas.{on_err}
use Rattle.pi_unify.specs.Copying.{MakesSome}
use Rattle.pi_lib.proofs.MadeLists.{makes_next, none_made, one_made, all_made}
use Rattle.pi_lib.proofs.variables.new_variables.Goals as goal

pub loop-k-init : goal.loop-k-init
loop-k-init g c =
    let v = g.S.StateStore.seen c.args.s.now in
    record { makes = makes_none v; terms = none_made v c.new-made.result.items c.new-made.ensures.items }

pub loop-k-preserved : goal.loop-k-preserved
loop-k-preserved g c =
    let v = g.S.StateStore.seen c.args.s.now in
    let w = g.S.StateStore.seen c.loop-k.s in
    let x = g.S.StateStore.seen c.new_var.new.self in
    record {
      makes = makes_next v w x c.loop-k._k c.loop-k.invariant.makes c.in_ok-var.ensures.ok.changes;
      terms = one_made v w x c.loop-k.made.items c.push.new.self.items c.loop-k._k c.in_ok-var.var c.loop-k.invariant.makes c.loop-k.invariant.terms c.in_ok-var.ensures.ok c.in_ok-push.ensures.items;
    }

pub returns-in_err-var-clause-err : goal.returns-in_err-var-clause-err
returns-in_err-var-clause-err g c =
    let v = g.S.StateStore.seen c.args.s.now in
    let w = g.S.StateStore.seen c.loop-k.s in
    let x = g.S.StateStore.seen c.new_var.new.self in
    on_err c.from_residual.result (MakesSome v x) (some_made v w x c.loop-k._k c.loop-k.invariant.makes c.in_err-var.ensures.err)

pub returns-in_err-push-clause-err : goal.returns-in_err-push-clause-err
returns-in_err-push-clause-err g c =
    let v = g.S.StateStore.seen c.args.s.now in
    let w = g.S.StateStore.seen c.loop-k.s in
    let x = g.S.StateStore.seen c.new_var.new.self in
    on_err c.from_residual-in_err-push.result (MakesSome v x) (c.loop-k._k + 1, makes_next v w x c.loop-k._k c.loop-k.invariant.makes c.in_ok-var.ensures.ok.changes)

pub returns-clause-ok : goal.returns-clause-ok
returns-clause-ok g c =
    let v = g.S.StateStore.seen c.args.s.now in
    let w = g.S.StateStore.seen c.loop-k.s in
    all_made v w c.loop-k.made.items c.loop-k._k c.args.count (omega arith) c.loop-k.invariant.makes c.loop-k.invariant.terms
