use Rattle.std.proofs.Common.{◌≡◌, ℕ, Some, sym, subst, map, rules}
use Rattle.pi_constraints.specs.Store.{IsName}
use Rattle.pi_core.specs.CoreTree.{pred_tree}
use Rattle.pi_engine_code.specs.declared.callables.Callables.{Callables}
use Rattle.pi_engine_code.proofs.LaidNames.{Updated, one-number, place-added, has-added}
use Rattle.pi_engine_code.proofs.build.Builder.add_callable.Goals.{in-Some+in_ok-add, in_default}
use Rattle.pi_engine_code.proofs.build.Builder.add_callable.Goals as goal

pub returns-clause-right : goal.returns-clause-right
returns-clause-right g c = λ all numbered acyclic.
    let named : (n : ℕ) × (c.in_ok-number.number ≡ Some n) × IsName (g.S.StateStore.seen c.number_of.new.store) n c.args.name.now = c.in_ok-number.ensures.is acyclic in
    elim c.match-number.branch [
      | in-Some+in_ok-add w ↦
          let updated : Updated c.args.callables.now w.add.new.self w.in-Some.number c.args.arity c.in_ok-place.place = search rules in
          place-added all (g.S.StateStore.seen c.args.store.now) (g.S.StateStore.seen c.number_of.new.store) (g.S.StateStore.seen c.add_goal.new.store) c.args.code.now c.add_goal.new.code c.args.callables.now c.match-number.callables w.in-Some.number
          c.in_ok-place.place c.args.name.now c.args.arity c.in_ok-goal.goal c.in_ok-number.ensures.stays
          (one-number (g.S.StateStore.seen c.number_of.new.store) c.in_ok-number.number w.in-Some.number c.args.name.now named w.in-Some.is) c.in_ok-place.ensures.adds (c.in_ok-place.ensures.laid all numbered)
          (c.in_ok-goal.ensures (map pred_tree all)) (subst (λ (m : Callables). Updated c.args.callables.now m w.in-Some.number c.args.arity c.in_ok-place.place) (sym w.callables-is) updated)
      | in_default w ↦ absurd (w.in_default.not-Some named.0 named.1)
    ]

pub returns-clause-has : goal.returns-clause-has
returns-clause-has g c = λ acyclic.
    let named : (n : ℕ) × (c.in_ok-number.number ≡ Some n) × IsName (g.S.StateStore.seen c.number_of.new.store) n c.args.name.now = c.in_ok-number.ensures.is acyclic in
    elim c.match-number.branch [
      | in-Some+in_ok-add w ↦
          let updated : Updated c.args.callables.now w.add.new.self w.in-Some.number c.args.arity c.in_ok-place.place = search rules in
          has-added (g.S.StateStore.seen c.args.store.now) (g.S.StateStore.seen c.number_of.new.store) (g.S.StateStore.seen c.add_goal.new.store) c.args.callables.now c.match-number.callables w.in-Some.number c.in_ok-place.place c.args.name.now c.args.arity
          c.in_ok-number.ensures.stays.keeps (one-number (g.S.StateStore.seen c.number_of.new.store) c.in_ok-number.number w.in-Some.number c.args.name.now named w.in-Some.is) c.in_ok-place.ensures.keeps
          (subst (λ (m : Callables). Updated c.args.callables.now m w.in-Some.number c.args.arity c.in_ok-place.place) (sym w.callables-is) updated)
      | in_default w ↦ absurd (w.in_default.not-Some named.0 named.1)
    ]
