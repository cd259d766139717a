-- A search begins: its level is entered, whose block stands behind what its caller keeps, and what the reading of its expression posts is next.
use Rattle.std.proofs.Common.{◌≡◌, ℕ, zero, ◌+◌, ◌≤◌, ◌<◌, ◌^◌, Bool, true, false, List, [], ◌∷◌, ◌++◌, Some, None, length, take, drop, map, refl, sym, subst, arith}
use Rattle.std.specs.Prelude.{slice_get}
use Rattle.pi_terms.specs.Tree.{Tree, no_trees, tree, tree_count}
use Rattle.pi_terms.specs.Places.{Places}
use Rattle.pi_constraints.specs.declared.store.Ref.{Ref}
use Rattle.pi_constraints.specs.Store.{StoreView, Keeps, Marks, AreTerms, Extend}
use Rattle.pi_core.specs.GoalTree.{GoalTree, GoalTrees, no_goals, goal, call, nodes}
use Rattle.pi_settling.specs.Options.{Options, Objective}
use Rattle.pi_settling.specs.Read.{operand_in}
use Rattle.pi_meaning.specs.Machine.Configuration.{Frame, Search, behind, config, strict, search_level, Entry as EntryData}
use Rattle.pi_meaning.specs.Machine.Shape.{open_level}
use Rattle.pi_meaning.specs.Machine.Step.{search_slots, round_goal, begun_now, search_of, search_step, back_to, name_call, with_rest}
use Rattle.pi_engine_code.specs.declared.code.Step.{Step}
use Rattle.pi_engine_arenas.specs.declared.arenas.Kind.{Kind}
use Rattle.pi_engine_arenas.specs.declared.arenas.Search.{Search as Site}
use Rattle.pi_engine_arenas.specs.declared.frames.Point.{Point}
use Rattle.pi_engine_arenas.specs.declared.run.Now.{Now}
use Rattle.pi_engine_arenas.specs.Blocks.{BlocksView, KeepsBlocks}
use Rattle.pi_engine_arenas.specs.Frames.{PushesBehind}
use Rattle.pi_engine_stands.specs.Rests.{Rests}
use Rattle.pi_engine_stands.specs.Here.{block_end, IsHere, HoldsArguments}
use Rattle.pi_engine_stands.specs.Stands.{World, tables_in, steps_of, block_at, entries_of, now_here, round_block, search_held, KindIs, search_kind, StackStands, Stands, StandsGoing, GoingIs}
use Rattle.pi_engine_stands.specs.Does.{ComesAfter}
use Rattle.pi_engine_stands.specs.Evaluates.{with_blocks}
use Rattle.pi_engine_stands.specs.Makes.{search_at}
use Rattle.pi_engine_stands.specs.Searches.{effect_of_operand, round_end}
use Rattle.pi_engine_stands.specs.Tries.{KeepsFront, KeepsBelow}
use Rattle.pi_engine_stands.proofs.HereLemmas.{held-extends}
use Rattle.pi_engine_stands.proofs.StandsLemmas.{moved, open_level-within, stack-length}
use Rattle.pi_engine_stands.proofs.StacksLie.{stack-lies}
use Rattle.pi_engine_stands.proofs.FramesStand.{MoreFrames, pushes-more, framed, with_new_frames, stack-framed, going-of, going-size, Entered, entered-behind}
use Rattle.pi_engine_stands.proofs.LevelStands.{entered_level, block-of-step, level-of-new, agrees-with-new, stack-entered}
use Rattle.pi_engine_stands.proofs.LevelSteps.{goal-stands, kept-within}
use Rattle.pi_engine_stands.proofs.CallMade.{front-more, arguments-added, stack-below}
use Rattle.pi_engine_stands.proofs.ApplyRuns.{EnteredWithin, entered-below}
use Rattle.pi_engine_stands.proofs.SolveLabels.{kept-stands}
use Rattle.pi_engine_stands.proofs.SearchBegins.{round-going, begun-stands, posted-lies, posted-going}

-- what its entry says of it
abbrev pub site_of : Point → ℕ → Bool → Site
site_of p place greatest = record { place = p.place; goal = place; caller = p.base; greatest = greatest; is_settling = true }

-- its level is entered, and its first round has nothing left to do
record Begun {M : Type 0} (w : World M) (base : ℕ) (x : Search) (es : List EntryData) : Type 0 where
  pub stack : StackStands w es
  pub going : GoingIs w (round_end base) no_goals (search_slots x) []

search-made : {M : Type 0} (w : World M) (u : StoreView M) (mark : M) (p : Point) (s : Step) (n base place : ℕ) (x : Search) (name : List ℕ) (args : List Tree) (e : Places) (k : List Frame) (es : List EntryData) →
    StackStands w es → Marks w.order w.store u mark → (in_it : Entered w p n (call name args) e k) → slice_get (steps_of w.loaded) p.place ≡ Some s → IsHere (tables_in w.loaded) (steps_of w.loaded) (round_block base) place round_goal true →
    block_end in_it.block ≤ base → HoldsArguments w.store.now.terms w.arenas.blocks.slots base 3 (search_held x) →
    Begun (entered_level w u mark base n (search_at (site_of p place x.objective.greatest))) base x (strict (search_level x false None) (back_to e w.store.now.state k) ∷ es)
unfolding open_level
search-made w u mark p s n base place x name args e k es stands marks in_it at here below holds =
    let kind : Kind = search_at (site_of p place x.objective.greatest) in
    let slots : ℕ = length w.arenas.blocks.slots in
    let top : ℕ = length w.arenas.collected in
    let after : World _ = entered_level w u mark base n kind in
    let y : EntryData = strict (search_level x false None) (back_to e w.store.now.state k) in
    let block : block_at w.loaded p.place p.base ≡ in_it.block = block-of-step w.loaded in_it.block p.place p.base (call name args) in_it.at.own s in_it.at.here in_it.base at in
    let is : KindIs w.loaded w.arenas.collected (now_here w) w.store.now.state base n slots top top kind y =
    search_kind (goal-stands w p n s (call name args) e k at in_it) here holds (subst (λ b. block_end b ≤ base) (sym block) below) refl refl in
    let level : w.arenas.level ≤ length (entries_of w) = omega (arith, stands.level, open_level-within zero es, stack-length w (length (entries_of w)) top es stands.stack) in
    let extends : Extend w.store.now.terms u.now.terms = λ i t has. marks.stays.keeps.terms (record { number = i }) t has in
    let own : HoldsArguments u.now.terms w.arenas.blocks.slots base 3 (search_held x) = record { within = holds.within; held = held-extends w.store.now.terms u.now.terms (take 3 (drop base w.arenas.blocks.slots)) _ extends holds.held } in
    record {
      stack = stack-entered w u mark base n top kind y es stands marks in_it.agrees refl (kept-within w es stands) (omega arith) stands.stack is refl;
      going = round-going after base x own (level-of-new w u mark base n kind) (agrees-with-new w u mark base n kind level (omega (arith, holds.within)) marks);
    }

-- what a search has: its options, its objective and its variables
abbrev pub search_for : Options → Objective → Tree → Search
search_for o b vars = record { options = o; objective = b; vars = vars }

-- the run after it has begun
abbrev pub search_begun : {M : Type 0} → World M → StoreView M → StoreView M → M → List Point → BlocksView → Point → ℕ → ℕ → Bool → World M
search_begun w v u mark fs d p n place greatest =
    entered_level (moved w v (with_blocks (framed w.arenas fs) d)) u mark (length w.arenas.blocks.slots) n (search_at (site_of p place greatest))

-- The store has the words of the options, the block is pushed and the level entered; then the reading of the expression posts.
pub search-begins : {M : Type 0} (w : World M) (v u z : StoreView M) (mark : M) (fs : List Point) (d : BlocksView) (rs : List Ref) (p : Point) (s : Step) (n place : ℕ) (now : Now) (o : Options) (b : Objective) (name : List ℕ) (args : List Tree) (words vars : Tree)
    (gs : GoalTrees) (e : Places) (k : List Frame) (es : List EntryData) → slice_get (steps_of w.loaded) p.place ≡ Some s → StandsGoing w p (goal (call name args) gs) e k es → Keeps w.store v → v.now.state ≡ w.store.now.state →
    AreTerms v rs (search_held (search_for o b vars)) → ((base : ℕ) → IsHere (tables_in w.loaded) (steps_of w.loaded) (round_block base) place round_goal true) →
    PushesBehind p s w.arenas.frames fs n → d.slots ≡ w.arenas.blocks.slots ++ map (λ r. Some r) rs → KeepsBlocks w.arenas.blocks d → d.kept ≡ w.arenas.blocks.kept → Marks w.order v u mark → Keeps u z →
    ComesAfter w.store.now.state (round_end (length w.arenas.blocks.slots)) (effect_of_operand (operand_in b.expression w.store.now.state)) z.now.state now →
    let begun : World M = search_begun w v u mark fs d p n place b.greatest in
    Stands (moved w z begun.arenas) now
    (search_step (search_of o b (tree words (tree vars no_trees))) (name_call name args (record { trees = tree words (tree vars no_trees); slots = e; state = w.store.now.state })) (with_rest gs k es))
unfolding tree_count
search-begins w v u z mark fs d rs p s n place now o b name args words vars gs e k es at stands keeps same terms here pushes new kept_blocks kept marks later next =
    let g : GoalTree = call name args in
    let x : Search = search_for o b vars in
    let w1 : World _ = moved w v w.arenas in
    let there : StandsGoing w1 p (goal g gs) e k es = kept-stands w v p (goal g gs) e k es keeps (subst Rests (sym same) stands.entries.state) stands in
    let is : GoingIs w1 p (goal g gs) e k = going-of w1 p (goal g gs) e v.now.state k there.runs in
    let size : (s.size ≡ nodes g) × (p.place + nodes g < 2 ^ 32) = going-size w1 p s g gs e k at is in
    let more : MoreFrames w.arenas.frames fs = pushes-more p s w.arenas.frames fs n (omega (arith, size.0, size.1)) pushes in
    let w2 : World _ = with_new_frames w1 fs in
    let stack2 : StackStands w2 es = stack-framed w1 fs es more there.entries in
    let in_it : Entered w2 p n g e (behind gs k) = entered-behind w1 p s g gs e k fs n at more pushes is in
    let limit : ℕ = length w.arenas.blocks.slots in
    let front : KeepsFront w.arenas.blocks d limit = front-more w.arenas.blocks d limit (map (λ r. Some r) rs) (omega arith) new kept_blocks kept in
    let below : KeepsBelow w2.arenas (with_blocks w2.arenas d) limit = record { long = front.long; front = front.front; keeps = front.keeps; kept = front.kept; frames = refl; entries = refl; level = refl; collected = refl } in
    let w3 : World _ = moved w2 v (with_blocks w2.arenas d) in
    let own : EnteredWithin w3 p n g e (behind gs k) limit =
    entered-below w2 (with_blocks w2.arenas d) limit p n g e (behind gs k) es below stack2 in_it (omega (arith, in_it.slots.within)) in
    let w4 : World _ = search_begun w v u mark fs d p n place b.greatest in
    let made : Begun w4 limit x (strict (search_level x false None) (back_to e v.now.state (behind gs k)) ∷ es) =
    search-made w3 u mark p s n limit place x name args e (behind gs k) es (stack-below w2 (with_blocks w2.arenas d) limit es below stack2) marks own.it at (here limit) own.within
    (arguments-added v w.arenas.blocks.slots d.slots rs 3 (search_held x) terms refl new) in
    let all : List EntryData = strict (search_level x false None) (back_to e v.now.state (behind gs k)) ∷ es in
    subst (λ r. Stands (moved w z w4.arenas) now (config (begun_now x w.store.now.state (operand_in b.expression w.store.now.state)) (strict (search_level x false None) (back_to e r (behind gs k)) ∷ es))) same
    (begun-stands (moved w4 z w4.arenas) w.store.now.state x (operand_in b.expression w.store.now.state) limit now all (posted-lies w4 z limit x all later (stack-lies w4 all made.stack) made.going)
    (posted-going w4 z limit x all later (stack-lies w4 all made.stack) made.going) next)
