use Rattle.std.proofs.Common.{◌≡◌, ◌+◌, ◌∙◌, refl, sym, ap, subst, arith, Some}
use Rattle.std.specs.Prelude.{slice_get}
use Rattle.pi_engine_arenas.specs.Arenas.{view_of, between}
use Rattle.pi_engine_code.specs.Code.{tables_of}
use Rattle.pi_engine_stands.proofs.FillLemmas.{filling, fills-none, fills-one, fills-all, readable-here, part-there}
use Rattle.pi_engine_steps.proofs.values.fill_slots.Goals as goal
use Rattle.pi_engine_steps.proofs.values.fill_slots.Goals.{in-Some+in_ok-fill_part, in_default}
use Rattle.pi_engine_stands.specs.Evaluates.{WritesFilling}

pub loop-i-init : goal.loop-i-init
loop-i-init g c =
    (refl, λ t b e at order fits readable holds. fills-none b (g.S.StateStore.seen c.args.run.now.store) (view_of c.args.run.now.arenas) (tables_of t c.args.code.now) c.args.from c.args.to e holds)

pub loop-i-preserved : goal.loop-i-preserved
loop-i-preserved g c =
    elim c.match-part.branch [
      | in-Some+in_ok-fill_part w ↦ (
        ap (λ r. r.terms) w.run-is ∙ w.in_ok-fill_part.ensures.terms ∙ c.loop-i.invariant.0,
        λ t b e at order fits readable holds.
            let v = g.S.StateStore.seen c.args.run.now.store in
            let a = view_of c.args.run.now.arenas in
            let T = tables_of t c.args.code.now in
            let i = c.loop-i.i in
            let f = filling T c.args.from c.args.to i e v.now.state in
            let before = c.loop-i.invariant.1 t b e at order fits readable holds in
            let here : slice_get c.args.code.now.parts.items i ≡ Some w.in-Some.part = sym c.part.ensures ∙ w.in-Some.is in
            subst (λ run. WritesFilling b (between v (g.S.StateStore.seen run.store) a (view_of run.arenas)) (filling T c.args.from c.args.to (i + 1) e v.now.state)) (sym w.run-is)
            (fills-one b v (g.S.StateStore.seen c.loop-i.run.store) (g.S.StateStore.seen w.fill_part.new.run.store) a (view_of c.loop-i.run.arenas) (view_of w.fill_part.new.run.arenas) T c.args.from c.args.to i w.in-Some.part e
            c.loop-i.auto.i c.loop-i-test.true here before
            (w.in_ok-fill_part.ensures.ok t b f.slots at (readable-here T b c.args.from c.args.to i w.in-Some.part c.loop-i.auto.i c.loop-i-test.true here readable) before.holds)),
      )
      | in_default w ↦ (
        ap (λ r. r.terms) w.run-is ∙ c.loop-i.invariant.0,
        λ t b e at order fits readable holds. absurd (part-there (tables_of t c.args.code.now) c.args.to c.loop-i.i c.loop-i-test.true fits (sym c.part.ensures ∙ w.in_default.is)),
      )
    ]

pub returns-clause-ok : goal.returns-clause-ok
returns-clause-ok g c = λ t b e at order fits readable holds.
    fills-all b (g.S.StateStore.seen c.args.run.now.store) (g.S.StateStore.seen c.loop-i.run.store) (view_of c.args.run.now.arenas) (view_of c.loop-i.run.arenas) (tables_of t c.args.code.now) c.args.from c.args.to c.loop-i.i e
    (omega (arith, c.loop-i-test.false, c.loop-i.auto.i-end order)) (c.loop-i.invariant.1 t b e at order fits readable holds)
