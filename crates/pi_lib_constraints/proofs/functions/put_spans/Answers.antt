use Rattle.std.proofs.Common.{◌≡◌, ◌<◌, ◌-◌, suc, pos, length, drop, map, subst, arith}
use Rattle.pi_constraints.specs.Domain.{values_of}
use Rattle.pi_constraints.specs.Store.{IsTerm}
use Rattle.pi_effects.specs.Items.{list_of}
use Rattle.pi_terms.specs.Tree.{int}
use Rattle.pi_unify.proofs.KeepsLemmas.{stays_then}
use Rattle.pi_lib_constraints.proofs.SideLemmas.{span-within}
use Rattle.pi_lib_constraints.proofs.FunctionLemmas.{spans-none, spans-more, span-ordered}
use Rattle.pi_lib_constraints.proofs.functions.put_spans.Goals as goal

pub loop-k-init : goal.loop-k-init
loop-k-init g c =
    record { stays = c.in_ok-list.ensures.ok.changes; list = spans-none (g.S.StateStore.seen c.put_atom.new.self) c.in_ok-list.list c.args.spans.now (length c.args.spans.now) (omega arith) c.in_ok-list.ensures.ok.term }

pub put_span-requires-clause-ordered : goal.put_span-requires-clause-ordered
put_span-requires-clause-ordered g c = span-ordered c.args.spans.now (c.loop-k.k - 1) (record { lo = pos 0; hi = pos 0 }) c.requires (omega (arith, c.loop-k-test.true, c.loop-k.auto.k))

pub put_span-requires-clause-low : goal.put_span-requires-clause-low
put_span-requires-clause-low g c = (span-within c.args.spans.now (c.loop-k.k - 1) (record { lo = pos 0; hi = pos 0 }) c.requires (omega (arith, c.loop-k-test.true, c.loop-k.auto.k))).0

pub put_span-requires-clause-high : goal.put_span-requires-clause-high
put_span-requires-clause-high g c = (span-within c.args.spans.now (c.loop-k.k - 1) (record { lo = pos 0; hi = pos 0 }) c.requires (omega (arith, c.loop-k-test.true, c.loop-k.auto.k))).1

pub loop-k-preserved : goal.loop-k-preserved
loop-k-preserved g c =
    let v = g.S.StateStore.seen c.args.s.now in
    let w = g.S.StateStore.seen c.loop-k.s in
    let x = g.S.StateStore.seen c.put_span.new.s in
    let ss = c.args.spans.now in
    let k = c.loop-k.k - 1 in
    let up : c.loop-k.k ≡ suc k = omega (arith, c.loop-k-test.true) in
    let low : k < length ss = omega (arith, c.loop-k-test.true, c.loop-k.auto.k) in
    record {
      stays = stays_then v w x v.now.state c.loop-k.invariant.stays c.in_ok-list-2.ensures.stays;
      list =
          spans-more w x c.loop-k.list c.in_ok-list-2.list ss k (record { lo = pos 0; hi = pos 0 }) low
          (subst (λ n. IsTerm w c.loop-k.list (list_of (map int (values_of (drop n ss))))) up c.loop-k.invariant.list) c.in_ok-list-2.ensures.ok;
    }
