use Rattle.std.proofs.Common.{◌≡◌, ◌+◌, ◌++◌, ◌∷◌, [], ◌∙◌, sym, ap, subst, arith, Some}
use Rattle.std.specs.Prelude.{slice_get}
use Rattle.pi_terms.specs.Tree.{trees_of}
use Rattle.pi_constraints.specs.Evaluation.{evaluated_all}
use Rattle.pi_engine_arenas.specs.Arenas.{view_of}
use Rattle.pi_engine_code.specs.Code.{tables_of}
use Rattle.pi_engine_stands.specs.Evaluates.{operand_trees}
use Rattle.pi_constraints.proofs.StateLemmas.{extends}
use Rattle.pi_engine_stands.proofs.ArgumentsStand.{EvaluatesFirst, evaluates-none, evaluates-more, operand-there}
use Rattle.pi_engine_steps.proofs.calls.take_arguments.Goals as goal
use Rattle.pi_engine_steps.proofs.calls.take_arguments.Goals.{in-Some+in_ok-term+in_ok-push, in_default}

pub loop-i-init : goal.loop-i-init
loop-i-init g c = λ t b e at readable extend holds.
    evaluates-none b (g.S.StateStore.seen c.args.run.now.store) (view_of c.args.run.now.arenas) (tables_of t c.args.code.now) c.args.operands e c.clear.new.self.items c.clear.ensures.items holds

pub loop-i-preserved : goal.loop-i-preserved
loop-i-preserved g c = λ t b e at readable extend holds.
    let v = g.S.StateStore.seen c.args.run.now.store in
    let w = g.S.StateStore.seen c.loop-i.run.store in
    let a = view_of c.args.run.now.arenas in
    let T = tables_of t c.args.code.now in
    let first = c.args.operands in
    let i = c.loop-i.i in
    let before = c.loop-i.invariant t b e at readable extend holds in
    let f = evaluated_all (trees_of (operand_trees T first i)) e v.now.state in
    let index : c.saturating_add.result ≡ first + i = omega (arith, c.saturating_add.ensures, c.ranges.operands.fits, c.ranges.arity.fits, c.loop-i-test.true) in
    let here : slice_get c.args.code.now.operands.items (first + i) ≡ c.operand.result = ap (slice_get c.args.code.now.operands.items) (sym index) ∙ sym c.operand.ensures in
    elim c.match-operand.branch [
      | in-Some+in_ok-term+in_ok-push q ↦ (let o = q.in-Some.operand in
          let r = q.in_ok-term.term in
          let x = g.S.StateStore.seen q.value.new.run.store in
          let is : slice_get c.args.code.now.operands.items (first + i) ≡ Some o = here ∙ q.in-Some.is in
          subst (λ run. EvaluatesFirst b v (g.S.StateStore.seen run.store) a (view_of run.arenas) T first (i + 1) e run.terms.items) (sym q.run-is)
          (evaluates-more b v w x a (view_of c.loop-i.run.arenas) (view_of q.value.new.run.arenas) T first i o e c.loop-i.run.terms.items q.push.new.self.items r is before
          (q.in_ok-term.ensures.ok t b f.slots at (readable.1 i o c.loop-i-test.true is) (λ n y has. extends v w before.writes.keeps n y (extend n y has)) before.writes.holds)
          (q.in_ok-push.ensures.items ∙ ap (λ m. m.items ++ r ∷ []) q.in_ok-term.ensures.terms)))
      | in_default q ↦ absurd (operand-there T first i c.args.arity c.loop-i-test.true readable.0 (here ∙ q.in_default.is))
    ]

pub returns : goal.returns
returns g c = record {
  ok = λ t b e at readable extend holds.
      subst (λ n. EvaluatesFirst b (g.S.StateStore.seen c.args.run.now.store) (g.S.StateStore.seen c.loop-i.run.store) (view_of c.args.run.now.arenas) (view_of c.loop-i.run.arenas) (tables_of t c.args.code.now) c.args.operands n e c.loop-i.run.terms.items)
      (omega (arith, c.loop-i-test.false, c.loop-i.auto.i-end)) (c.loop-i.invariant t b e at readable extend holds);
}
