use Rattle.std.proofs.Common.{◌≡◌, ◌∙◌, ◌<◌, ◌-◌, ◌+ℤ◌, suc, pos, map, subst, arith, rules, to_z, of_z, w64}
use Rattle.std.specs.Int.{w128}
use Rattle.std.proofs.lemmas.Int.{to_z-of_z}
use Rattle.pi_constraints.specs.Domain.{numbers_from}
use Rattle.pi_constraints.specs.Store.{IsTerm}
use Rattle.pi_effects.specs.Items.{list_onto}
use Rattle.pi_terms.specs.Tree.{int}
use Rattle.pi_unify.proofs.KeepsLemmas.{stays_then}
use Rattle.pi_lib_constraints.proofs.PostLemmas.{stays_none}
use Rattle.pi_lib_constraints.proofs.FunctionLemmas.{span-none, span-more, span-all}
use Rattle.pi_lib_constraints.proofs.functions.put_numbers.Goals as goal

pub loop-k-init : goal.loop-k-init
loop-k-init g c = let v = g.S.StateStore.seen c.args.s.now in record { stays = stays_none v; list = λ t is. span-none v c.args.rest (to_z w64 (of_z w64 c.args.low)) c.args.count t is }

pub loop-k-preserved : goal.loop-k-preserved
loop-k-preserved g c =
    let v = g.S.StateStore.seen c.args.s.now in
    let w = g.S.StateStore.seen c.loop-k.s in
    let x = g.S.StateStore.seen c.put_int.new.self in
    let y = g.S.StateStore.seen c.put_comp.new.self in
    let k = c.loop-k.k - 1 in
    let up : c.loop-k.k ≡ suc k = omega (arith, c.loop-k-test.true) in
    let n = to_z w128 (of_z w128 c.number_after.result) in
    let first = to_z w64 (of_z w64 c.args.low) in
    let bits : n ≡ c.number_after.result = search rules in
    let whole : c.number_after.result ≡ first +ℤ pos k = c.number_after.ensures in
    let low : k < c.args.count = omega (arith, c.loop-k-test.true, c.loop-k.auto.k) in
    record {
      stays = stays_then v x y v.now.state (stays_then v w x v.now.state c.loop-k.invariant.stays c.in_ok-value.ensures.ok.changes) c.in_ok-list.ensures.stays;
      list = λ t is.
          span-more w x y c.in_ok-value.value c.loop-k.list c.in_ok-list.list first n c.args.count k t low (bits ∙ whole) c.in_ok-value.ensures.ok.term c.in_ok-value.ensures.ok.changes.keeps
          (subst (λ m. IsTerm w c.loop-k.list (list_onto (map int (numbers_from (first +ℤ pos m) (c.args.count - m))) t)) up (c.loop-k.invariant.list t is)) c.in_ok-list.ensures.ok;
    }

pub returns-in_err-value-clause-stays : goal.returns-in_err-value-clause-stays
returns-in_err-value-clause-stays g c =
    let v = g.S.StateStore.seen c.args.s.now in
    stays_then v (g.S.StateStore.seen c.loop-k.s) (g.S.StateStore.seen c.put_int.new.self) v.now.state c.loop-k.invariant.stays c.in_err-value.ensures.err

pub returns-in_err-list-clause-stays : goal.returns-in_err-list-clause-stays
returns-in_err-list-clause-stays g c =
    let v = g.S.StateStore.seen c.args.s.now in
    let x = g.S.StateStore.seen c.put_int.new.self in
    stays_then v x (g.S.StateStore.seen c.put_comp.new.self) v.now.state (stays_then v (g.S.StateStore.seen c.loop-k.s) x v.now.state c.loop-k.invariant.stays c.in_ok-value.ensures.ok.changes) c.in_err-list.ensures.stays

pub returns-clause-ok : goal.returns-clause-ok
returns-clause-ok g c = λ t is.
    let w = g.S.StateStore.seen c.loop-k.s in
    let first = to_z w64 (of_z w64 c.args.low) in
    subst (λ n. IsTerm w c.loop-k.list (list_onto (map int (numbers_from n c.args.count)) t)) (to_z-of_z w64 c.args.low c.ranges.low) (span-all w c.loop-k.list first c.args.count c.loop-k.k t (omega (arith, c.loop-k-test.false)) (c.loop-k.invariant.list t is))
