use Rattle.std.proofs.Common.{◌≡◌, ◌∙◌, ◌-◌, zero, suc, sym, ap, subst, to_z, of_z, arith}
use Rattle.std.specs.Prelude.{option_map, unwrap_or}
use Rattle.std.specs.Int.{w128}
use Rattle.std.proofs.lemmas.Int.{to_z-of_z}
use Rattle.std.proofs.lemmas.Result.{IfOk-weaker}
use Rattle.pi_meaning.specs.Machine.Step.{next_round, rounds_after}
use Rattle.pi_settling.specs.Rounds.{count_better}
use Rattle.pi_engine_arenas.specs.Arenas.{view_of}
use Rattle.pi_engine_stands.specs.Stands.{world, Stands}
use Rattle.pi_engine_stands.proofs.SearchAnswersOpen.{reopened-at}
use Rattle.pi_engine_stands.proofs.SearchAnswersRounds.{rounds-counted}
use Rattle.pi_engine_steps.proofs.search.next_round.Goals as goal

-- no round may follow
pub returns-then-left-eq0 : goal.returns-then-left-eq0
unfolding next_round
returns-then-left-eq0 g c = λ l x f d es it named slot.
    let v = g.S.StateStore.seen c.args.run.now.store in
    let order = g.S.StateStore.order in
    let w = world l v order (view_of c.args.run.now.arenas) in
    let after = world l (g.S.StateStore.seen c.answer_by.new.run.store) order (view_of c.answer_by.new.run.arenas) in
    let same : to_z w128 (of_z w128 c.args.value) ≡ c.args.value = to_z-of_z w128 c.args.value c.ranges.value in
    let at = reopened-at w c.args.level c.args.back _ es it in
    let none : rounds_after x.objective f c.args.value ≡ zero =
    sym (rounds-counted w c.args.level c.args.back c.args.site x f d es it.entry c.args.value it named at) ∙ sym (c.rounds_left-left.ensures it.entry at ∙ ap (λ i. unwrap_or (option_map (λ b. b.number) (v.beside it.entry.mark)) (count_better c.args.site.greatest i)) same) ∙ omega (arith, c.if-left-eq0.true) in
    subst (λ n. Stands after c.answer_by.new.run.now (next_round n x v.now.state c.args.value d es)) (sym none) (c.answer_by.ensures l x f d es it named)

pub returns : goal.returns
unfolding next_round
returns g c = IfOk-weaker c.begin_round.result _ _ (λ _ so l x f d es it named slot.
    let v = g.S.StateStore.seen c.args.run.now.store in
    let order = g.S.StateStore.order in
    let w = world l v order (view_of c.args.run.now.arenas) in
    let after = world l (g.S.StateStore.seen c.begin_round.new.run.store) order (view_of c.begin_round.new.run.arenas) in
    let same : to_z w128 (of_z w128 c.args.value) ≡ c.args.value = to_z-of_z w128 c.args.value c.ranges.value in
    let at = reopened-at w c.args.level c.args.back _ es it in
    let some : rounds_after x.objective f c.args.value ≡ suc (c.rounds_left-left.result - 1) =
    sym (rounds-counted w c.args.level c.args.back c.args.site x f d es it.entry c.args.value it named at) ∙ sym (c.rounds_left-left.ensures it.entry at ∙ ap (λ i. unwrap_or (option_map (λ b. b.number) (v.beside it.entry.mark)) (count_better c.args.site.greatest i)) same) ∙ omega (arith, c.if-left-eq0.false) in
    subst (λ n. Stands after c.begin_round.new.run.now (next_round n x v.now.state c.args.value d es)) (sym some)
    (subst (λ i. Stands after c.begin_round.new.run.now (next_round (suc (c.rounds_left-left.result - 1)) x v.now.state i d es)) same (so l x f d es it named slot))) c.begin_round.ensures
