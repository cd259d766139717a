use Rattle.std.proofs.Common.{◌≡◌, ◌∙◌, true, [], ◌∷◌, Some, sym, ap, subst}
use Rattle.std.specs.Prelude.{slice_get, codes}
use Rattle.std.proofs.lemmas.Result.{IfOk-weaker}
use Rattle.pi_constraints.specs.Store.{AreTerms}
use Rattle.pi_core.specs.GoalTree.{no_goals, goal as first_goal}
use Rattle.pi_lib_solve.specs.Asks.{ShowsAsked}
use Rattle.pi_meaning.specs.Machine.Configuration.{in_places, strict, search_level}
use Rattle.pi_meaning.specs.Machine.NamedGoals.{slots_from}
use Rattle.pi_meaning.specs.Machine.Step.{round_goal, round_step, round_call, search_args, search_slots, with_rest}
use Rattle.pi_engine_arenas.specs.Arenas.{view_of}
use Rattle.pi_engine_arenas.specs.declared.run.Now.{Now}
use Rattle.pi_engine_stands.specs.Here.{AreHeld}
use Rattle.pi_engine_stands.specs.Stands.{world, steps_of, Stands, StandsGoing}
use Rattle.pi_engine_stands.proofs.MissingStand.{terms-of-held}
use Rattle.pi_engine_stands.proofs.SolveStands.{raises-here}
use Rattle.pi_engine_stands.proofs.SearchAnswers.{round-filled}
use Rattle.pi_engine_stands.proofs.SearchAnswersRounds.{RoundStands, round-stands, round-solves}
use Rattle.pi_engine_steps.proofs.SolveAsked.{IsAnswered, answered-so, raises-so}
use Rattle.pi_engine_steps.proofs.search.label_round.Goals as goal

pub returns-in-Ok : goal.returns-in-Ok
returns-in-Ok g c = IfOk-weaker c.label_plainly.result _ _ (λ _ so l is_code x f d es it named.
    let v = g.S.StateStore.seen c.args.run.now.store in
    let b = view_of c.set_kind.new.self in
    let order = g.S.StateStore.order in
    let w = world l v order (view_of c.args.run.now.arenas) in
    let after = world l (g.S.StateStore.seen c.label_plainly.new.run.store) order (view_of c.label_plainly.new.run.arenas) in
    let site = c.args.site in
    let k = c.set_kind.ensures in
    let there : RoundStands (world l v order b) c.args.back.base site.goal x f d es = round-stands w b c.args.level c.args.back site c.in_phase.result x f d es it named c.in_phase.ensures k.entries k.blocks k.frames k.level k.collected in
    let ts = search_args x in
    let rs = c.take_block.new.terms.items in
    let acyclic = it.state.calm.state.acyclic in
    let terms : AreTerms v rs ts = terms-of-held v rs ts (subst (λ q. AreHeld v.now.terms q (in_places ts)) (sym (c.in_ok-take_block.ensures v.now.terms ts there.held)) there.held.held) in
    let asked : IsAnswered v (codes "solve") ts c.ask.result =
    answered-so v (codes "solve") c.deref.result.now ts c.ask.result (round-solves x) (subst (λ qs. AreTerms v qs ts) (sym c.deref.ensures.value) terms) (λ vars. c.ask.ensures.plainly vars acyclic) (λ words vars. c.ask.ensures.by_options words vars acyclic) in
    let found = subst (λ r. ShowsAsked v r asked.asks) c.in-Ok.is asked.shows in
    let step : c.step.result ≡ there.step = c.step.ensures.is there.step (ap (λ q. slice_get q.steps.items site.goal) (sym is_code) ∙ there.at) in
    let at : slice_get (steps_of l) c.alone.result.place ≡ Some c.step.result = ap (λ q. slice_get (steps_of l) q.place) c.alone.ensures ∙ there.at ∙ ap Some (sym step) in
    let going : StandsGoing (world l v order b) c.alone.result (first_goal round_goal no_goals) (search_slots x) [] (strict (search_level x true f) d ∷ es) =
    subst (λ q. StandsGoing (world l v order b) q (first_goal round_goal no_goals) (search_slots x) [] (strict (search_level x true f) d ∷ es)) (sym c.alone.ensures) there.going in
    subst (λ q. Stands after c.label_plainly.new.run.now (round_step q (round_call x v.now.state) (with_rest no_goals [] (strict (search_level x true f) d ∷ es)))) (sym (asked.is ∙ ap Some found.2))
    (so l found.0 found.1 (codes "solve") (slots_from 0 2) ts no_goals (search_slots x) [] (strict (search_level x true f) d ∷ es) at found.3 found.4 (round-filled x) going)) c.label_plainly.ensures

pub returns-in_ok-ball-in-Err : goal.returns-in_ok-ball-in-Err
returns-in_ok-ball-in-Err g c = λ l is_code x f d es it named.
    let v = g.S.StateStore.seen c.args.run.now.store in
    let b = view_of c.set_kind.new.self in
    let order = g.S.StateStore.order in
    let w = world l v order (view_of c.args.run.now.arenas) in
    let after = world l v order b in
    let site = c.args.site in
    let k = c.set_kind.ensures in
    let there : RoundStands after c.args.back.base site.goal x f d es = round-stands w b c.args.level c.args.back site c.in_phase.result x f d es it named c.in_phase.ensures k.entries k.blocks k.frames k.level k.collected in
    let ts = search_args x in
    let rs = c.take_block.new.terms.items in
    let ball = c.in_ok-ball-in-Err.ball in
    let acyclic = it.state.calm.state.acyclic in
    let terms : AreTerms v rs ts = terms-of-held v rs ts (subst (λ q. AreHeld v.now.terms q (in_places ts)) (sym (c.in_ok-take_block.ensures v.now.terms ts there.held)) there.held.held) in
    let asked : IsAnswered v (codes "solve") ts c.ask.result =
    answered-so v (codes "solve") c.deref.result.now ts c.ask.result (round-solves x) (subst (λ qs. AreTerms v qs ts) (sym c.deref.ensures.value) terms) (λ vars. c.ask.ensures.plainly vars acyclic) (λ words vars. c.ask.ensures.by_options words vars acyclic) in
    let raises_it = raises-so v c.in-Err.stop asked.asks ball acyclic (subst (λ r. ShowsAsked v r asked.asks) c.in-Err.is asked.shows) c.in_ok-ball-in-Err.ensures in
    subst (λ q. Stands after (Now.Raising ball) (round_step q (round_call x v.now.state) (with_rest no_goals [] (strict (search_level x true f) d ∷ es)))) (sym (asked.is ∙ ap Some raises_it))
    (raises-here after _ ball _ (search_slots x) [] (strict (search_level x true f) d ∷ es) there.going)
