use Rattle.std.proofs.Common.{◌≡◌, ◌-◌, suc, ◌<◌, ◌≤◌, ◌∙◌, refl, sym, subst, arith, Some}
use Rattle.std.specs.Prelude.{slice_get}
use Rattle.pi_unify.specs.Copying.{AreBuilt}
use Rattle.pi_engine_arenas.specs.Arenas.{view_of}
use Rattle.pi_engine_code.specs.Code.{tables_of}
use Rattle.pi_engine_stands.specs.Here.{IsReadablePart}
use Rattle.pi_engine_stands.specs.Evaluates.{IsFilledPart}
use Rattle.pi_engine_stands.proofs.SlotsStand.{writes-none}
use Rattle.pi_constraints.proofs.StateLemmas.{extends}
use Rattle.pi_engine_stands.proofs.FillLemmas.{readable-here, part-here, part-there}
use Rattle.pi_engine_stands.proofs.BuiltLemmas.{built_from, nothing-built, one-built, all-built}
use Rattle.pi_engine_steps.proofs.values.put_together.Goals as goal

pub loop-i-init : goal.loop-i-init
loop-i-init g c = (
  refl,
  λ order. order,
  λ t b f at order fits extend readable filled holds. (
    writes-none b (g.S.StateStore.seen c.args.run.now.store) (view_of c.args.run.now.arenas) f holds,
    nothing-built (g.S.StateStore.seen c.args.run.now.store) (tables_of t c.args.code.now) c.args.to f (g.S.StateStore.seen c.args.run.now.store).now.state c.clear.new.self.items c.clear.ensures.items,
  ),
)

pub loop-i-preserved-in-Continue-1 : goal.loop-i-preserved-in-Continue-1
loop-i-preserved-in-Continue-1 g c = (
  c.in_ok-add_part.ensures.terms ∙ c.loop-i.invariant.0,
  λ order. omega (arith, c.loop-i-test.true),
  λ t b f at order fits extend readable filled holds.
      (let v = g.S.StateStore.seen c.args.run.now.store in
      let w = g.S.StateStore.seen c.loop-i.run.store in
      let x = g.S.StateStore.seen c.add_part.new.run.store in
      let T = tables_of t c.args.code.now in
      let i = c.loop-i.i - 1 in
      let p = c.in-Some.part in
      let before = c.loop-i.invariant.2 t b f at order fits extend readable filled holds in
      let here : slice_get c.args.code.now.parts.items i ≡ Some p = sym c.part.ensures ∙ c.in-Some.is in
      let above : c.args.from ≤ i = omega (arith, c.loop-i-test.true) in
      let below : i < c.args.to = omega (arith, c.loop-i-test.true, c.loop-i.auto.i) in
      let up : c.loop-i.i ≡ suc i = omega (arith, c.loop-i-test.true) in
      let readable_here : IsReadablePart t b p = readable-here T b c.args.from c.args.to i p above below here readable in
      let filled_here : IsFilledPart f p = filled (i - c.args.from) p (part-here T c.args.from c.args.to i above below ∙ here) in
      one-built b v w x (view_of c.args.run.now.arenas) (view_of c.loop-i.run.arenas) (view_of c.add_part.new.run.arenas) T f c.args.from c.args.to i p c.add_part.new.run.made.items above below here readable filled before.0
      (c.in_ok-add_part.ensures.ok t b f (built_from T (suc i) c.args.to f v.now.state) at (λ n y is. extends v w before.0.keeps n y (extend n y is)) readable_here filled_here before.0.holds
      (subst (λ n. AreBuilt w c.loop-i.run.made.items (built_from T n c.args.to f v.now.state)) up before.1))),
)

pub loop-i-preserved : goal.loop-i-preserved
loop-i-preserved g c = (
  c.loop-i.invariant.0,
  λ order. omega (arith, c.loop-i-test.true),
  λ t b f at order fits extend readable filled holds.
      absurd (part-there (tables_of t c.args.code.now) c.args.to (c.loop-i.i - 1) (omega (arith, c.loop-i-test.true, c.loop-i.auto.i)) fits (sym c.part.ensures ∙ c.in_default.is)),
)

pub returns-in-Some-pop-clause-ok : goal.returns-in-Some-pop-clause-ok
returns-in-Some-pop-clause-ok g c = λ t b f u at order fits extend readable filled spelled holds.
    let before = c.loop-i.invariant.2 t b f at order fits extend readable filled holds in
    all-built b (g.S.StateStore.seen c.args.run.now.store) (g.S.StateStore.seen c.loop-i.run.store) (view_of c.args.run.now.arenas) (view_of c.loop-i.run.arenas) (tables_of t c.args.code.now) f c.args.from c.args.to c.loop-i.i u
    c.loop-i.run.made.items c.pop.new.self.items c.in-Some-pop.term (omega (arith, c.loop-i-test.false, c.loop-i.invariant.1 order)) spelled before.0 before.1 c.in-Some-pop.ensures.items
