use Rattle.std.proofs.Common.{◌≡◌, ◌++◌, ◌∙◌, ℕ, Some, List, [], ◌∷◌, map, length, sym, ap, subst}
use Rattle.pi_terms.specs.Tree.{no_trees, tree}
use Rattle.pi_constraints.specs.State.{SpeaksBelow, next}
use Rattle.pi_constraints.specs.Store.{AreTerms, IsTerm, Keeps}
use Rattle.pi_settling.specs.Read.{operand_in}
use Rattle.pi_unify.proofs.KeepsLemmas.{keeps_then}
use Rattle.pi_engine_arenas.specs.declared.arenas.Kind.{Kind}
use Rattle.pi_engine_arenas.specs.Arenas.{view_of, opened, pushed}
use Rattle.pi_engine_arenas.specs.Blocks.{KeepsBlocks}
use Rattle.pi_engine_settle.specs.Due.{SinceIs}
use Rattle.pi_engine_settle.proofs.MarkLemmas.{since-stays}
use Rattle.pi_meaning.specs.Machine.Step.{search_step, search_of, name_call, with_rest}
use Rattle.pi_engine_stands.specs.Rests.{Rests}
use Rattle.pi_engine_stands.specs.Stands.{World, tables_in, steps_of, search_held, world, Stands}
use Rattle.pi_engine_stands.specs.Does.{ComesAfter}
use Rattle.pi_engine_stands.specs.Evaluates.{with_blocks}
use Rattle.pi_engine_stands.specs.Makes.{search_at}
use Rattle.pi_engine_stands.specs.Searches.{FindsRound, effect_of_operand, round_end}
use Rattle.pi_engine_stands.proofs.FramesStand.{framed, arenas-framed}
use Rattle.pi_engine_stands.proofs.LevelStands.{arenas-opened}
use Rattle.pi_engine_stands.proofs.SearchBeginsEntry.{site_of, search_for, search-begins}
use Rattle.pi_engine_steps.proofs.RoundsPost.{shows-begun, begun-leaves}
use Rattle.pi_engine_steps.proofs.SolveRuns.{objective-is, two-terms, second-term, search-terms, round-in}
use Rattle.pi_engine_steps.proofs.search.search.Goals as goal

-- there are two arguments
pub returns-in_default : goal.returns-in_default
returns-in_default g c = λ l is_code o b name args words vars gs e k es at chosen options sought terms filled stands.
    let v = g.S.StateStore.seen c.args.run.now.store in
    absurd (c.in_default.ensures.none (ap length c.deref.ensures.value ∙ two-terms v c.args.run.now.terms.items words vars terms))

-- the goal has its place
pub returns-in_default-2 : goal.returns-in_default-2
returns-in_default-2 g c = λ l is_code o b name args words vars gs e k es at chosen options sought terms filled stands.
    let v = g.S.StateStore.seen c.args.run.now.store in
    let v1 = g.S.StateStore.seen c.plain_words.new.s in
    let v2 = g.S.StateStore.seen c.round_goal.new.store in
    let rests : Rests v1.now.state = subst Rests (sym c.plain_words.ensures.stays.state) stands.entries.state in
    let keeps : Keeps v v2 = keeps_then v v1 v2 c.plain_words.ensures.stays.keeps c.in_ok-goal.ensures.stays.keeps in
    absurd (subst (FindsRound (tables_in l) (steps_of l)) c.in_default-2.is (round-in l c.args.code.now v v1 v2 c.in_ok-goal.field-0 is_code stands.entries.code keeps rests.calm.state.acyclic c.in_ok-goal.ensures.finds))

pub returns : goal.returns
returns g c = λ l is_code o b name args words vars gs e k es at chosen options sought terms filled stands.
    let seen = g.S.StateStore.seen in
    let order = g.S.StateStore.order in
    let v = seen c.args.run.now.store in
    let v1 = seen c.plain_words.new.s in
    let v2 = seen c.round_goal.new.store in
    let u = seen c.push_entry.new.run.store in
    let u1 = seen c.begin.new.store in
    let z = seen c.begin-posted.new.s in
    let a = view_of c.args.run.now.arenas in
    let w : World _ = world l v order a in
    let p = c.args.point in
    let s = c.args.step in
    let place = c.in-Some-2.goal in
    let n = c.in_ok-frame.frame in
    let now = c.in_ok-next.next in
    let wanted = c.args.objective.expression in
    let rs : List _ = c.in_ok-plain.plain ∷ c.in-Some.vars ∷ wanted ∷ [] in
    let plain_stays = c.plain_words.ensures.stays in
    let goal_stays = c.in_ok-goal.ensures.stays in
    let keeps : Keeps v v2 = keeps_then v v1 v2 plain_stays.keeps goal_stays.keeps in
    let state2 : v2.now.state ≡ v.now.state = goal_stays.state ∙ plain_stays.state in
    let rests1 : Rests v1.now.state = subst Rests (sym plain_stays.state) stands.entries.state in
    let objective = objective-is v c.args.options.objective o.objective c.args.objective b options.sought chosen sought in
    let these : IsTerm v c.in-Some.vars vars = second-term v c.args.run.now.terms.items c.in-Some._words c.in-Some.vars words vars terms (sym c.deref.ensures.value ∙ c.in-Some.ensures.some) in
    let held : AreTerms v2 rs (search_held (search_for o b vars)) =
    search-terms v2 c.in_ok-plain.plain c.in-Some.vars wanted o b vars (goal_stays.keeps.terms c.in_ok-plain.plain _ (c.in_ok-plain.ensures.ok o options)) (keeps.terms c.in-Some.vars vars these) (keeps.terms wanted b.expression objective.1) in
    let here = subst (FindsRound (tables_in l) (steps_of l)) c.in-Some-2.is (round-in l c.args.code.now v v1 v2 c.in_ok-goal.field-0 is_code stands.entries.code keeps rests1.calm.state.acyclic c.in_ok-goal.ensures.finds) in
    let framed_run = c.frame_behind.new.self in
    let fs = framed_run.frames in
    let d = c.push_terms.new.self in
    let push = c.in_ok-push_entry.ensures in
    let limit : ℕ = length a.blocks.slots in
    let same_blocks : framed_run.blocks ≡ a.blocks = c.frame_behind.ensures.blocks in
    let base : c.count-base.result ≡ limit = c.count-base.ensures ∙ ap (λ r. length r.slots) same_blocks in
    let before : with_blocks (framed a fs) d ≡ with_blocks (view_of framed_run) d =
    ap (λ r. with_blocks r d) (arenas-framed a (view_of framed_run) same_blocks c.frame_behind.ensures.entries c.frame_behind.ensures.level c.frame_behind.ensures.collected) in
    let inner = view_of c.open.new.self in
    let kind : Kind = search_at (site_of p place c.args.objective.greatest) in
    let same_all : opened (pushed (with_blocks (framed a fs) d) push.mark (length d.slots) limit n (search_at (site_of p place b.greatest))) ≡ inner =
    ap (λ q. opened (pushed (with_blocks (framed a fs) d) push.mark (length d.slots) limit n (search_at (site_of p place q)))) (sym objective.0)
    ∙ ap (λ r. opened (pushed r push.mark (length d.slots) limit n kind)) before ∙ ap (λ m. opened (pushed (with_blocks (view_of framed_run) d) push.mark (length d.slots) m n kind)) (sym base) ∙ ap opened (sym push.arenas)
    ∙ arenas-opened (view_of c.push_entry.new.run.arenas) inner c.open.ensures.frames c.open.ensures.blocks c.open.ensures.entries c.open.ensures.level c.open.ensures.collected in
    let begin_stays = c.begin.ensures.stays in
    let posts = c.begin-posted.ensures in
    let state_u1 : u1.now.state ≡ v.now.state = begin_stays.state ∙ push.marks.stays.state ∙ state2 in
    let rests_u1 : Rests u1.now.state = subst Rests (sym state_u1) stands.entries.state in
    let term_u1 : IsTerm u1 wanted b.expression = begin_stays.keeps.terms wanted b.expression (push.marks.stays.keeps.terms wanted b.expression (keeps.terms wanted b.expression objective.1)) in
    let below : SpeaksBelow (next u1.now.state) b.expression =
    subst (λ r. SpeaksBelow (next r) b.expression) (sym (begin_stays.state ∙ push.marks.stays.state)) (c.in_ok-goal.ensures.below wanted b.expression (keeps.terms wanted b.expression objective.1)) in
    let since : SinceIs z u1.now.state c.in_ok-since.since =
    since-stays u1 z u1.now.state c.in_ok-since.since posts.keeps (subst (λ r. SinceIs u1 r c.in_ok-since.since) (sym begin_stays.state) c.in_ok-since.ensures.since) in
    let comes = c.in_ok-next.ensures u1 (effect_of_operand (operand_in b.expression u1.now.state)) rests_u1.calm.state since
    (shows-begun u1 z c.begin-posted.result (operand_in b.expression u1.now.state) (posts.shows b.expression rests_u1.calm.state term_u1)) (begun-leaves u1.now.state b.expression rests_u1 below) in
    let next : ComesAfter v.now.state (round_end limit) (effect_of_operand (operand_in b.expression v.now.state)) z.now.state now =
    subst (λ r. ComesAfter r (round_end limit) (effect_of_operand (operand_in b.expression r)) z.now.state now) state_u1
    (subst (λ m. ComesAfter u1.now.state (round_end m) (effect_of_operand (operand_in b.expression u1.now.state)) z.now.state now) base comes) in
    subst (λ r. Stands (world l z order r) now (search_step (search_of o b (tree words (tree vars no_trees))) (name_call name args (record { trees = tree words (tree vars no_trees); slots = e; state = v.now.state })) (with_rest gs k es))) same_all
    (search-begins w v2 u z push.mark fs d rs p s n place now o b name args words vars gs e k es at stands keeps state2 held here c.in_ok-frame.ensures.ok
    (c.in_ok-push_terms.ensures.ok ∙ ap (λ r. r.slots ++ map (λ t. Some t) rs) same_blocks)
    (subst (λ r. KeepsBlocks r d) same_blocks c.push_terms.ensures.keeps) (c.push_terms.ensures.kept ∙ ap (λ r. r.kept) same_blocks) push.marks
    (keeps_then u u1 z begin_stays.keeps posts.keeps) next)
