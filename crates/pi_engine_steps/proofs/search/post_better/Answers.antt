use Rattle.std.proofs.Common.{sym, subst}
use Rattle.std.specs.Int.{w128}
use Rattle.std.proofs.lemmas.Int.{to_z-of_z}
use Rattle.pi_lib_solve.specs.Sought.{ShowsBettered}
use Rattle.pi_terms.specs.Tree.{int, comp, tree, no_trees}
use Rattle.pi_constraints.specs.Store.{IsTerm}
use Rattle.pi_unify.proofs.KeepsLemmas.{keeps_then}
use Rattle.pi_prop_spec.specs.Postings.{posting_in}
use Rattle.pi_settling.specs.Posted.{effect_of_posting}
use Rattle.pi_settling.specs.Rounds.{better_sign}
use Rattle.pi_meaning.specs.Machine.Configuration.{config}
use Rattle.pi_meaning.specs.Machine.Step.{bettered_now}
use Rattle.pi_engine_settle.specs.Due.{SinceIs}
use Rattle.pi_engine_settle.proofs.MarkLemmas.{since-stays}
use Rattle.pi_engine_arenas.specs.Arenas.{view_of}
use Rattle.pi_engine_stands.specs.Does.{ComesAfter}
use Rattle.pi_engine_stands.specs.Rests.{Rests}
use Rattle.pi_engine_stands.specs.Searches.{round_end}
use Rattle.pi_engine_stands.specs.Stands.{world, Stands}
use Rattle.pi_engine_stands.proofs.StacksLie.{stack-lies}
use Rattle.pi_engine_stands.proofs.SearchBegins.{bettered-stands, posted-lies, posted-going}
use Rattle.pi_engine_steps.specs.Done.{Leaves}
use Rattle.pi_engine_steps.proofs.RoundsPost.{shows-bettered, bettered-leaves}
use Rattle.pi_engine_steps.proofs.search.post_better.Goals as goal

pub returns : goal.returns
returns g c = λ l x es stands is greatest term.
    let v = g.S.StateStore.seen c.args.run.now.store in
    let v1 = g.S.StateStore.seen c.begin.new.store in
    let u = g.S.StateStore.seen c.better-posted.new.s in
    let a = view_of c.args.run.now.arenas in
    let order = g.S.StateStore.order in
    let w = world l v order a in
    let base = c.args.base in
    let e = x.objective.expression in
    let goal_is = comp (better_sign c.args.greatest) (tree e (tree (int c.args.value) no_trees)) in
    let stays = c.begin.ensures.stays in
    let keeps = keeps_then v v1 u stays.keeps c.better-posted.ensures.keeps in
    let rests : Rests v1.now.state = subst Rests (sym stays.state) stands.state in
    let term1 : IsTerm v1 c.args.wanted e = stays.keeps.terms c.args.wanted e term in
    let shows = shows-bettered v1 u c.better-posted.result (posting_in v1.now.state goal_is) (subst (λ i. ShowsBettered v1 u c.better-posted.result (posting_in v1.now.state (comp (better_sign c.args.greatest) (tree e (tree (int i) no_trees))))) (to_z-of_z w128 c.args.value c.ranges.value)
    (c.better-posted.ensures.shows e rests.calm.state term1)) in
    let leaves : Leaves v1.now.state (effect_of_posting v1.now.state (posting_in v1.now.state goal_is)) =
    subst (λ s. Leaves s (effect_of_posting s (posting_in s goal_is))) (sym stays.state) (bettered-leaves v.now.state e c.args.greatest c.args.value stands.state (c.see_terms.ensures c.args.wanted e term)) in
    let since = since-stays v1 u v1.now.state c.in_ok-since.since c.better-posted.ensures.keeps (subst (λ r. SinceIs v1 r c.in_ok-since.since) (sym stays.state) c.in_ok-since.ensures.since) in
    let next = c.in_ok-next.ensures v1 (effect_of_posting v1.now.state (posting_in v1.now.state goal_is)) rests.calm.state since shows leaves in
    let there : ComesAfter v.now.state (round_end base) (effect_of_posting v.now.state (posting_in v.now.state goal_is)) u.now.state c.in_ok-next.next =
    subst (λ s. ComesAfter s (round_end base) (effect_of_posting s (posting_in s goal_is)) u.now.state c.in_ok-next.next) stays.state next in
    let lies = stack-lies w es stands in
    subst (λ q. Stands (world l u order a) c.in_ok-next.next (config (bettered_now x v.now.state (posting_in v.now.state (comp (better_sign q) (tree e (tree (int c.args.value) no_trees))))) es)) greatest
    (bettered-stands (world l u order a) v.now.state x (posting_in v.now.state goal_is) base c.in_ok-next.next es (posted-lies w u base x es keeps lies is) (posted-going w u base x es keeps lies is) there)
