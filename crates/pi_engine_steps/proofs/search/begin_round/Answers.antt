use Rattle.std.proofs.Common.{false, ◌∷◌, Some, subst}
use Rattle.std.specs.Int.{w128}
use Rattle.std.proofs.lemmas.Int.{to_z-of_z}
use Rattle.std.proofs.lemmas.Result.{IfOk-weaker}
use Rattle.pi_prop_spec.specs.Postings.{posting_in}
use Rattle.pi_meaning.specs.Machine.Configuration.{Found, config, strict, search_level}
use Rattle.pi_meaning.specs.Machine.Step.{bettered_now, better_goal}
use Rattle.pi_engine_arenas.specs.Arenas.{view_of}
use Rattle.pi_engine_stands.specs.Stands.{world, Stands}
use Rattle.pi_terms.proofs.OptionLemmas.{none-some}
use Rattle.pi_engine_stands.proofs.SearchAnswersOpen.{reopened-at}
use Rattle.pi_engine_stands.proofs.SearchAnswersRounds.{RoundReturned, round-returned}
use Rattle.pi_engine_steps.proofs.search.begin_round.Goals as goal

-- the entry is there
pub returns-in_default : goal.returns-in_default
returns-in_default g c = λ l x f d es it named slot.
    absurd (none-some c.in_default.ensures.none (reopened-at (world l (g.S.StateStore.seen c.args.run.now.store) g.S.StateStore.order (view_of c.args.run.now.arenas)) c.args.level c.args.back _ es it))

pub returns : goal.returns
returns g c = IfOk-weaker c.post_better.result _ _ (λ _ so l x f d es it named slot.
    let v = g.S.StateStore.seen c.args.run.now.store in
    let u = g.S.StateStore.seen c.undo.new.self in
    let order = g.S.StateStore.order in
    let b = view_of c.set_kind.new.self in
    let w = world l v order (view_of c.args.run.now.arenas) in
    let after = world l (g.S.StateStore.seen c.post_better.new.run.store) order (view_of c.post_better.new.run.arenas) in
    let m = c.set_mark.ensures in
    let k = c.set_kind.ensures in
    let g1 : Found = record { state = v.now.state; left = c.args.left } in
    let there : RoundReturned (world l u order b) c.args.back.base c.args.wanted c.args.site x g1 d es =
    round-returned w u (view_of c.set_mark.new.self) b c.in_ok-kept.kept c.args.left c.args.level c.args.back c.args.site c.args.wanted c.in_phase.result x f d es c.in-Some.entry.now it named slot c.in-Some.ensures.some
    c.in_ok-kept.ensures c.undo.ensures c.in_phase.ensures m.entries m.blocks m.frames m.level m.collected k.entries k.blocks k.frames k.level k.collected in
    subst (λ s. Stands after c.post_better.new.run.now (config (bettered_now x s (posting_in s (better_goal x.objective c.args.value))) (strict (search_level x false (Some g1)) d ∷ es))) there.state
    (subst (λ i. Stands after c.post_better.new.run.now (config (bettered_now x u.now.state (posting_in u.now.state (better_goal x.objective i))) (strict (search_level x false (Some g1)) d ∷ es))) (to_z-of_z w128 c.args.value c.ranges.value)
    (so l x (strict (search_level x false (Some g1)) d ∷ es) there.stands there.going there.greatest there.term))) c.post_better.ensures
