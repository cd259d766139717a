-- A call of a term as a step of the machine.
use Rattle.std.proofs.Common.{◌≡◌, ◌≢◌, ℕ, zero, suc, ◌+◌, ◌≤◌, ◌<◌, ◌^◌, Bool, true, false, List, ◌++◌, Some, None, length, take, drop, map, Option, refl, sym, ◌∙◌, ap, subst, arith}
use Rattle.std.specs.Prelude.{slice_get, codes}
use Rattle.pi_terms.specs.Tree.{Tree, Trees, trees_of, tree_count}
use Rattle.pi_terms.specs.Places.{Places}
use Rattle.pi_constraints.specs.Store.{StoreView, AreTerms, Terms}
use Rattle.pi_engine_stands.specs.Rests.{Rests}
use Rattle.pi_constraints.specs.Evaluation.{EvaluatedAll, evaluated_all}
use Rattle.pi_effects.specs.Rows.{has_line}
use Rattle.pi_settling.specs.SolveCalls.{solve_calls, is_solve}
use Rattle.pi_meaning.specs.Shared.View.{View}
use Rattle.pi_meaning.specs.Shared.Names.{is_call}
use Rattle.pi_core.specs.GoalTree.{GoalTree, GoalTrees, call, goal, no_goals, nodes}
use Rattle.pi_constraints.specs.declared.store.Ref.{Ref}
use Rattle.pi_engine_arenas.specs.declared.frames.Point.{Point}
use Rattle.pi_engine_arenas.specs.declared.run.Now.{Now}
use Rattle.pi_engine_arenas.specs.declared.arenas.Entry.{Entry}
use Rattle.pi_engine_code.specs.declared.code.Node.{Node}
use Rattle.pi_engine_code.specs.declared.code.Step.{Step}
use Rattle.pi_engine_code.specs.declared.code.Operand.{Operand}
use Rattle.pi_engine_code.specs.Code.{Tables, node_kind}
use Rattle.pi_engine_arenas.specs.Blocks.{BlocksView, KeepsBlocks}
use Rattle.pi_engine_arenas.specs.Arenas.{ArenasView, entry_at, between}
use Rattle.pi_engine_arenas.specs.Frames.{PushesBehind}
use Rattle.pi_meaning.specs.Machine.Configuration.{Frame, going, raising, Config, config, behind, returning, Now as NowData, Entry as EntryData, in_places}
use Rattle.pi_meaning.specs.Machine.Built.{AreOfRules}
use Rattle.pi_meaning.specs.Machine.Step.{deeper, first_now, goal_step, step, with_rest}
use Rattle.pi_meaning.specs.declared.happening.Budget.{Budget}
use Rattle.pi_meaning.specs.declared.happening.Mode.{Mode}
use Rattle.pi_meaning.proofs.Machine.CallFound.{term-comes-to}
use Rattle.pi_engine_stands.specs.Here.{Block, Holds, HoldsArguments, AreHeld, IsHere, last_here, NodeIsReadable, GoesOn}
use Rattle.pi_engine_stands.specs.Stands.{World, tables_in, steps_of, entries_of, now_here, StackStands, Stands, StandsGoing, GoingIs, going_now, raising_now}
use Rattle.pi_engine_stands.specs.Evaluates.{with_blocks, operand_trees, Writes}
use Rattle.pi_engine_stands.specs.Makes.{StandsAfter, RunsGoal}
use Rattle.pi_engine_stands.specs.Goes.{GoalGoes}
use Rattle.pi_engine_stands.specs.Tries.{KeepsFront, KeepsBelow}
use Rattle.pi_engine_stands.proofs.StandsLemmas.{moved}
use Rattle.pi_engine_stands.proofs.BasesStand.{block-above, level-begins}
use Rattle.pi_engine_stands.proofs.FramesStand.{MoreFrames, pushes-more, framed, with_new_frames, stack-framed, going-of, going-size, Entered, entered-behind}
use Rattle.pi_engine_stands.proofs.EqualStands.{block_of, kind-of-node, stack-moved, going-moved, node-readable, lies-moved}
use Rattle.pi_engine_stands.proofs.CallLemmas.{call-of}
use Rattle.pi_engine_stands.proofs.CallRuns.{all-count, GivesBack, said-last, room-of}
use Rattle.pi_engine_stands.proofs.CallMade.{returning-some, arguments-added, Room, room-front, room-limit, front-more, Caller, frames-made, stack-below, level-below}
use Rattle.pi_engine_stands.proofs.GoalsGo.{GoalThere, goal-there, unspent, silent-ticks, deeper-on, by-goal, at_goal, goal-first}
use Rattle.pi_engine_stands.proofs.HeadsMatch.{front-then}
use Rattle.pi_engine_stands.proofs.LevelSteps.{kept-within}
use Rattle.pi_engine_stands.specs.Changes.{change}
use Rattle.pi_engine_stands.proofs.RestLemmas.{evaluated-all-rests}
use Rattle.pi_engine_stands.proofs.StacksLie.{stack-lies}

-- ---- the goal

pub term-of : {M : Type 0} (w : World M) (p : Point) (s : Step) (g : GoalTree) (gs : GoalTrees) (e : Places) (k : List Frame) (es : List EntryData) (operands arity : ℕ) → s.node ≡ Node.CallTerm operands arity →
    slice_get (steps_of w.loaded) p.place ≡ Some s → StandsGoing w p (goal g gs) e k es → g ≡ call (codes "call") (operand_trees (tables_in w.loaded) operands arity)
unfolding node_kind
term-of w p s g gs e k es operands arity node at stands =
    call-of g _ _ (kind-of-node w p s g gs e k (Node.CallTerm operands arity) at (going-of w p (goal g gs) e w.store.now.state k stands.runs) node)

-- what the arguments come to
abbrev pub term_arguments : {M : Type 0} → World M → ℕ → ℕ → Places → EvaluatedAll
term_arguments w operands arity e = evaluated_all (trees_of (operand_trees (tables_in w.loaded) operands arity)) e w.store.now.state

-- what is next where a term is called, behind the goal
abbrev pub term_next : {M : Type 0} → World M → ℕ → ℕ → GoalTrees → Places → List Frame → NowData
term_next w operands arity gs e k =
    let all : EvaluatedAll = term_arguments w operands arity e in first_now w.loaded.preds all.trees all.state (returning all.slots (behind gs k))

pub one-at_least : (k : ℕ) → is_call (codes "call") k ≡ true → 0 < k
one-at_least zero is = absurd cc
one-at_least (suc k) is = omega arith

-- the step is one down, to where this is next
pub term-form : {M : Type 0} (w : World M) (p : Point) (s : Step) (operands arity : ℕ) (view : View) (g : GoalTree) (gs : GoalTrees) (e : Places) (k : List Frame) (es : List EntryData) → s.node ≡ Node.CallTerm operands arity →
    slice_get (steps_of w.loaded) p.place ≡ Some s → StandsGoing w p (goal g gs) e k es →
    goal_step view w.loaded.preds g e w.store.now.state (with_rest gs k es) ≡ deeper (config (term_next w operands arity gs e k) es)
term-form w p s operands arity view g gs e k es node at stands =
    let T : Tables = tables_in w.loaded in
    let is : GoingIs w p (goal g gs) e k = going-of w p (goal g gs) e w.store.now.state k stands.runs in
    let reads : NodeIsReadable T is.block (Node.CallTerm operands arity) = node-readable w p s g gs e k (Node.CallTerm operands arity) at is node in
    let count : tree_count (term_arguments w operands arity e).trees ≡ arity = all-count T operands arity e w.store.now.state reads.0.0 in
    ap (λ h. goal_step view w.loaded.preds h e w.store.now.state (with_rest gs k es)) (term-of w p s g gs e k es operands arity node at stands)
    ∙ term-comes-to view w.loaded.preds (codes "call") (operand_trees T operands arity) gs e w.store.now.state k es (ap (is_call (codes "call")) count ∙ reads.1)

pub term-step : {M : Type 0} (w end : World M) (p : Point) (s : Step) (operands arity : ℕ) (now : Now) (view : View) (g : GoalTree) (gs : GoalTrees) (e : Places) (k : List Frame) (es : List EntryData) → s.node ≡ Node.CallTerm operands arity →
    slice_get (steps_of w.loaded) p.place ≡ Some s → StandsGoing w p (goal g gs) e k es → Stands end now (config (term_next w operands arity gs e k) es) →
    StandsAfter end now (goal_step view w.loaded.preds g e w.store.now.state (with_rest gs k es))
term-step w end p s operands arity now view g gs e k es node at stands ends =
    subst (StandsAfter end now) (sym (term-form w p s operands arity view g gs e k es node at stands)) ends

no-value : (s : Step) (operands arity : ℕ) (o : Operand) → s.node ≡ Node.CallTerm operands arity → s.node ≢ Node.Value o
no-value s operands arity o node other = cc

-- such a goal is run: no Tick is counted
pub term-goes : {M : Type 0} (before after : World M) (p : Point) (s : Step) (operands arity : ℕ) (now : Now) (mode : Mode) (b : Budget) → before.loaded ≡ after.loaded → s.node ≡ Node.CallTerm operands arity → RunsGoal p s (change before after now) →
    GoalGoes mode b b p s (change before after now)
term-goes before after p s operands arity now mode b same node runs v fits names c is =
    let it : GoalThere before p c = goal-there before p s c is (λ o. no-value s operands arity o node) in
    let next : Config = config (term_next before operands arity it.gs it.e it.k) c.stack in
    let form : goal_step v before.loaded.preds it.g it.e before.store.now.state (with_rest it.gs it.k c.stack) ≡ deeper next = term-form before p s operands arity v it.g it.gs it.e it.k c.stack node is.at it.stands in
    let stands : Stands after now next = subst (StandsAfter after now) form (runs v it.g it.gs it.e it.k c.stack is.at it.stands) in
    let d : Config = at_goal before p c it in
    goal-first before after p c v names mode b b now same is.rules is.good it
    (λ good. silent-ticks v names mode b after now d
    (deeper-on v names after now d next (subst (λ l. AreOfRules l.preds) same is.rules) good (ap (λ l. step v l.preds names d) (sym same) ∙ by-goal before p c v names it ∙ form) stands)
    (unspent after mode b now next stands))

-- what can be said of the arguments once they were evaluated
pub record TermReads {M : Type 0} (w : World M) (p : Point) (g : GoalTree) (gs : GoalTrees) (e : Places) (k : List Frame) (es : List EntryData) (stands : StandsGoing w p (goal g gs) e k es) (operands arity : ℕ) : Type 0 where
  pub readable : NodeIsReadable (tables_in w.loaded) (block_of w p g gs e k es stands) (Node.CallTerm operands arity)
  pub count : tree_count (term_arguments w operands arity e).trees ≡ arity
  pub some : 0 < arity
  pub state : Rests (term_arguments w operands arity e).state

pub term-reads : {M : Type 0} (w : World M) (p : Point) (s : Step) (g : GoalTree) (gs : GoalTrees) (e : Places) (k : List Frame) (es : List EntryData) (operands arity : ℕ) → s.node ≡ Node.CallTerm operands arity →
    slice_get (steps_of w.loaded) p.place ≡ Some s → (stands : StandsGoing w p (goal g gs) e k es) → TermReads w p g gs e k es stands operands arity
term-reads w p s g gs e k es operands arity node at stands =
    let T : Tables = tables_in w.loaded in
    let is : GoingIs w p (goal g gs) e k = going-of w p (goal g gs) e w.store.now.state k stands.runs in
    let reads : NodeIsReadable T is.block (Node.CallTerm operands arity) = node-readable w p s g gs e k (Node.CallTerm operands arity) at is node in
    record {
      readable = reads;
      count = all-count T operands arity e w.store.now.state reads.0.0;
      some = one-at_least arity reads.1;
      state = evaluated-all-rests (trees_of (operand_trees T operands arity)) e w.store.now.state stands.entries.state;
    }

-- ---- what can't be called

pub term-raises : {M : Type 0} (w : World M) (v : StoreView M) (a : ArenasView M) (p : Point) (s : Step) (operands arity : ℕ) (ball : Tree) (view : View) (g : GoalTree) (gs : GoalTrees) (e : Places) (k : List Frame) (es : List EntryData) →
    s.node ≡ Node.CallTerm operands arity → slice_get (steps_of w.loaded) p.place ≡ Some s → (stands : StandsGoing w p (goal g gs) e k es) →
    let all : EvaluatedAll = term_arguments w operands arity e in
    Writes (block_of w p g gs e k es stands) (between w.store v w.arenas a) all.slots all.state → term_next w operands arity gs e k ≡ raising ball →
    StandsAfter (moved w v a) (Now.Raising ball) (goal_step view w.loaded.preds g e w.store.now.state (with_rest gs k es))
term-raises w v a p s operands arity ball view g gs e k es node at stands writes raises =
    let is : GoingIs w p (goal g gs) e k = going-of w p (goal g gs) e w.store.now.state k stands.runs in
    let all : EvaluatedAll = term_arguments w operands arity e in
    let state : Rests v.now.state = subst Rests (sym writes.state) (term-reads w p s g gs e k es operands arity node at stands).state in
    term-step w (moved w v a) p s operands arity (Now.Raising ball) view g gs e k es node at stands
    (subst (λ n. Stands (moved w v a) (Now.Raising ball) (config n es)) (sym raises)
    (record { entries = lies-moved w v a is.block all.slots all.state es writes (stack-lies w es stands.entries); runs = raising_now }))

-- ---- a goal by a name

-- where the goal's block begins
abbrev pub named_point : ℕ → ℕ → ℕ → Point
named_point place base frame = record { place = place; count = 1; base = base; frame = frame }

pub arguments-hold : (t : Terms) (slots : List (Option Ref)) (base many : ℕ) (ts : Trees) → HoldsArguments t slots base many ts → Holds t slots (record { base = base; first = 0; count = many }) (in_places ts)
arguments-hold t slots base many ts holds =
    let same : base ≡ base + 0 = omega arith in
    record {
      within = omega (arith, holds.within);
      held = subst (λ n. AreHeld t (take many (drop n slots)) (in_places ts)) same holds.held;
    }

-- it runs in a block of its own, behind what its caller keeps
pub named-stands : {M : Type 0} (w : World M) (c d : BlocksView) (rs : List Ref) (b : Block) (leaves : Bool) (limit n place many : ℕ) (it : GoalTree) (ts : Trees) (e : Places) (k : List Frame) (es : List EntryData) →
    Caller w b leaves n e k es → Room w.arenas.blocks c b leaves limit → d.slots ≡ c.slots ++ map (λ r. Some r) rs → KeepsBlocks c d → d.kept ≡ c.kept → AreTerms w.store rs ts → tree_count ts ≡ many →
    ((base : ℕ) → IsHere (tables_in w.loaded) (steps_of w.loaded) (record { base = base; first = 0; count = many }) place it true) →
    StandsGoing (moved w w.store (with_blocks w.arenas d)) (named_point place (length c.slots) n) (goal it no_goals) (in_places ts) (returning e k) es
named-stands w c d rs b leaves limit n place many it ts e k es caller room new kept_blocks kept are count here =
    let after : World _ = moved w w.store (with_blocks w.arenas d) in
    let fits : b.base ≤ length w.arenas.blocks.slots = omega (arith, caller.slots.within) in
    let lies : (b.base ≤ limit) × (limit ≤ length c.slots) = room-limit w.arenas.blocks c b leaves limit fits room in
    let front : KeepsFront w.arenas.blocks d limit = front-then w.arenas.blocks c d limit (room-front w.arenas.blocks c b leaves limit room) (front-more c d limit (map (λ r. Some r) rs) lies.1 new kept_blocks kept) in
    let keeps : KeepsBelow w.arenas (with_blocks w.arenas d) limit = record { long = front.long; front = front.front; keeps = front.keeps; kept = front.kept; frames = refl; entries = refl; level = refl; collected = refl } in
    let holds : HoldsArguments w.store.now.terms d.slots (length c.slots) many ts = arguments-added w.store c.slots d.slots rs many ts are count new in
    let block : Block = record { base = length c.slots; first = 0; count = many } in
    let goes : GoesOn (tables_in w.loaded) (steps_of w.loaded) (now_here after) block true n (returning e k) = frames-made w c d b leaves limit n 0 many e k es caller room keeps lies.1 in
    let begins : (z : Entry _) → entry_at (entries_of w) w.arenas.level ≡ Some z → z.back.base ≤ limit =
    λ z found. omega (arith, lies.0, level-begins w.loaded z (entry_at (entries_of w) w.arenas.level) b.base found (block-above (tables_in w.loaded) (steps_of w.loaded) (now_here w) b leaves n k caller.frames)) in
    record {
      entries = stack-below w (with_blocks w.arenas d) limit es keeps caller.stands;
      runs = going_now (record {
        block = block;
        base = refl;
        value = None;
        last = true;
        rest = returning e k;
        goals = last_here (here (length c.slots));
        behind = record { slots = arguments-hold w.store.now.terms d.slots (length c.slots) many ts holds; leaves = true; frames = goes };
        leaves = record { is_last = λ is. refl; is_given = λ is leaves. returning-some e k; is_value = λ t is. absurd cc };
        frames = refl;
        agrees = level-below w (with_blocks w.arenas d) limit es keeps caller.stands begins caller.agrees;
      });
    }

-- `call` isn't `solve`
call-no-solve : (k : ℕ) → is_solve (codes "call") k ≡ false
unfolding has_line solve_calls
call-no-solve k = refl

pub term-enters : {M : Type 0} (w : World M) (v : StoreView M) (a : ArenasView M) (fs : List Point) (c d : BlocksView) (rs : List Ref) (p : Point) (s : Step) (operands arity n place : ℕ) (it : GoalTree) (ts : Trees) (view : View) (g : GoalTree) (gs : GoalTrees) (e : Places) (k : List Frame) (es : List EntryData) →
    s.node ≡ Node.CallTerm operands arity → slice_get (steps_of w.loaded) p.place ≡ Some s → (stands : StandsGoing w p (goal g gs) e k es) →
    let all : EvaluatedAll = term_arguments w operands arity e in
    Writes (block_of w p g gs e k es stands) (between w.store v w.arenas a) all.slots all.state → term_next w operands arity gs e k ≡ going (goal it no_goals) (in_places ts) all.state (returning all.slots (behind gs k)) → AreTerms v rs ts →
    ((base : ℕ) → IsHere (tables_in w.loaded) (steps_of w.loaded) (record { base = base; first = 0; count = tree_count ts }) place it true) →
    PushesBehind p s a.frames fs n → GivesBack a.blocks c p.base s.is_last → d.slots ≡ c.slots ++ map (λ r. Some r) rs → KeepsBlocks c d → d.kept ≡ c.kept →
    StandsAfter (moved w v (with_blocks (framed a fs) d)) (Now.Going (named_point place (length c.slots) n)) (goal_step view w.loaded.preds g e w.store.now.state (with_rest gs k es))
term-enters w v a fs c d rs p s operands arity n place it ts view g gs e k es node at stands writes goes terms here pushes gives new keeps kept =
    let T : Tables = tables_in w.loaded in
    let is : GoingIs w p (goal g gs) e k = going-of w p (goal g gs) e w.store.now.state k stands.runs in
    let all : EvaluatedAll = term_arguments w operands arity e in
    let state : Rests v.now.state = subst Rests (sym writes.state) (term-reads w p s g gs e k es operands arity node at stands).state in
    let w1 : World _ = moved w v a in
    let stack1 : StackStands w1 es = stack-moved w v a is.block all.slots all.state es writes state stands.entries in
    let going1 : GoingIs w1 p (goal g gs) all.slots k = going-moved w v a p (goal g gs) e all.slots all.state k es stands.entries is writes in
    let size : (s.size ≡ nodes g) × (p.place + nodes g < 2 ^ 32) = going-size w1 p s g gs all.slots k at going1 in
    let more : MoreFrames a.frames fs = pushes-more p s a.frames fs n (omega (arith, size.0, size.1)) pushes in
    let stack2 : StackStands (with_new_frames w1 fs) es = stack-framed w1 fs es more stack1 in
    let in_it : Entered (with_new_frames w1 fs) p n g all.slots (behind gs k) = entered-behind w1 p s g gs all.slots k fs n at more pushes going1 in
    let last : s.is_last ≡ in_it.at.own =
    said-last (steps_of w.loaded) p.place g (codes "call") (operand_trees T operands arity) in_it.at.own s (term-of w p s g gs e k es operands arity node at stands) (call-no-solve (length (operand_trees T operands arity))) in_it.at.here.says at in
    let room : (limit : ℕ) × Room a.blocks c in_it.block in_it.at.leaves limit =
    room-of a.blocks c in_it.block in_it.at.leaves s.is_last in_it.at.own p.base (behind gs k) in_it.base (omega (arith, in_it.base, in_it.slots.within)) (kept-within (with_new_frames w1 fs) es stack2) last in_it.at.own_leaves gives in
    let caller : Caller (with_new_frames w1 fs) in_it.block in_it.at.leaves n all.slots (behind gs k) es =
    record { stands = stack2; slots = in_it.slots; frames = in_it.at.frames; given = in_it.at.own_leaves.is_given refl; agrees = in_it.agrees } in
    let end : World _ = moved w v (with_blocks (framed a fs) d) in
    let point : Point = named_point place (length c.slots) n in
    term-step w end p s operands arity (Now.Going point) view g gs e k es node at stands
    (subst (λ x. Stands end (Now.Going point) (config x es)) (sym goes)
    (subst (λ r. Stands end (Now.Going point) (config (going (goal it no_goals) (in_places ts) r (returning all.slots (behind gs k))) es)) writes.state
    (named-stands (with_new_frames w1 fs) c d rs in_it.block in_it.at.leaves room.0 n place (tree_count ts) it ts all.slots (behind gs k) es caller room.1 new keeps kept terms refl here)))
