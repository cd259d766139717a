-- A call of a function as a step of the machine: a level that waits for the first value.
use Rattle.std.proofs.Common.{◌≡◌, ℕ, zero, suc, ◌+◌, ◌≤◌, ◌<◌, ◌^◌, true, List, [], ◌∷◌, ◌++◌, Some, length, take, drop, map, refl, sym, ◌∙◌, ap, subst, arith}
use Rattle.std.specs.Prelude.{slice_get}
use Rattle.std.proofs.lemmas.List.{length-append}
use Rattle.pi_terms.proofs.GetLemmas.{get_append_last}
use Rattle.pi_terms.specs.Tree.{Tree, Trees, comp, trees_of, tree_count}
use Rattle.pi_terms.specs.Places.{Places}
use Rattle.pi_constraints.specs.Store.{StoreView, Marks, Extend}
use Rattle.pi_engine_stands.specs.Rests.{Rests}
use Rattle.pi_meaning.specs.Shared.View.{View}
use Rattle.pi_meaning.specs.Shared.Names.{is_given}
use Rattle.pi_core.specs.CoreTree.{find_pred, PredTree}
use Rattle.pi_constraints.specs.Evaluation.{EvaluatedAll, evaluated_all}
use Rattle.pi_meaning.specs.Shared.Effects.{is_value_name}
use Rattle.pi_core.specs.GoalTree.{GoalTree, GoalTrees, apply, goal, nodes}
use Rattle.pi_constraints.specs.declared.store.Ref.{Ref}
use Rattle.pi_engine_arenas.specs.declared.frames.Point.{Point}
use Rattle.pi_engine_code.specs.declared.code.Node.{Node}
use Rattle.pi_engine_code.specs.declared.code.Step.{Step}
use Rattle.pi_engine_code.specs.declared.code.Predicate.{Predicate}
use Rattle.pi_engine_arenas.specs.declared.arenas.Kind.{Kind}
use Rattle.pi_engine_arenas.specs.declared.arenas.Strict.{Strict}
use Rattle.pi_engine_arenas.specs.declared.run.Now.{Now}
use Rattle.pi_engine_arenas.specs.Blocks.{BlocksView, KeepsBlocks}
use Rattle.pi_engine_arenas.specs.Arenas.{ArenasView, entry_at, new_entry, between}
use Rattle.pi_engine_arenas.specs.declared.arenas.Entry.{Entry}
use Rattle.pi_engine_arenas.specs.Frames.{PushesBehind}
use Rattle.pi_engine_code.specs.Laid.{IsNotBuiltIn}
use Rattle.pi_engine_code.specs.Code.{Tables, arguments, node_kind}
use Rattle.pi_meaning.specs.Machine.Configuration.{Frame, Called, Config, behind, strict, value_level, Entry as EntryData}
use Rattle.pi_meaning.specs.Machine.Shape.{open_level}
use Rattle.pi_meaning.specs.Machine.Step.{call_step, try_rules, goal_step, back_to, with_rest}
use Rattle.pi_engine_stands.specs.Here.{block_end, AreReadable, HoldsArguments, GoesOn, gives}
use Rattle.pi_engine_stands.specs.Stands.{World, tables_in, steps_of, block_at, entries_of, now_here, HasNumber, IsCodeOf, KindIs, apply_kind, StackStands, Stands, StandsGoing, GoingIs}
use Rattle.pi_engine_stands.specs.Evaluates.{with_blocks, operand_trees, EvaluatesAll}
use Rattle.pi_engine_stands.specs.Makes.{StandsAfter}
use Rattle.pi_engine_stands.specs.Tries.{RulesLeft, no_entry, KeepsFront, KeepsBelow}
use Rattle.pi_engine_stands.proofs.HereLemmas.{goes_on-moves, holds-moves, held-extends}
use Rattle.pi_engine_stands.proofs.StandsLemmas.{moved, open_level-within, stack-length}
use Rattle.pi_engine_stands.proofs.BasesStand.{block-above, level-begins}
use Rattle.pi_engine_stands.proofs.FramesStand.{MoreFrames, pushes-more, framed, with_new_frames, stack-framed, going-of, going-size, Entered, entered-behind}
use Rattle.pi_engine_stands.proofs.LevelStands.{entered_level, block-of-step, level-of-new, agrees-with-new, stack-entered}
use Rattle.pi_engine_stands.proofs.LevelSteps.{goal-stands, kept-within}
use Rattle.pi_engine_stands.proofs.EqualStands.{block_of, kind-of-node, stack-moved, going-moved}
use Rattle.pi_engine_stands.proofs.CallLemmas.{apply-of}
use Rattle.pi_engine_stands.proofs.RulesTried.{IsFound}
use Rattle.pi_engine_stands.proofs.CallsTried.{below-ends, below-moves}
use Rattle.pi_meaning.proofs.Shared.FoundLemmas.{found-by-number}
use Rattle.pi_meaning.proofs.Machine.CallFound.{apply-comes-to}
use Rattle.pi_engine_stands.proofs.CallMade.{front-more, arguments-added, arguments-long, all-left, stack-below, level-below, Made}
use Rattle.pi_engine_stands.proofs.CallRuns.{Numbered, numbered, arguments-of, args-count, all-count, stands-called}
use Rattle.pi_engine_stands.proofs.RestLemmas.{evaluated-all-rests}

-- the function of a call's number, and what the goal is
pub record Applies {M : Type 0} (w : World M) (g : GoalTree) (q operands into : ℕ) (predicate : Predicate) : Type 0 where
  pub it : Numbered w true q predicate
  pub goal_is : g ≡ apply it.pred.name (operand_trees (tables_in w.loaded) operands predicate.arity) into

pub applies : {M : Type 0} (w : World M) (p : Point) (s : Step) (g : GoalTree) (gs : GoalTrees) (e : Places) (k : List Frame) (es : List EntryData) (q operands into : ℕ) (predicate : Predicate) → s.node ≡ Node.Apply q operands into →
    slice_get (steps_of w.loaded) p.place ≡ Some s → StandsGoing w p (goal g gs) e k es → IsFound w q predicate → Applies w g q operands into predicate
unfolding node_kind
applies w p s g gs e k es q operands into predicate node at stands known =
    let it : Numbered w true q predicate = numbered w true q predicate stands.entries.code (subst (HasNumber w.loaded.preds) node (stands.entries.code.numbers p.place s at)) known in
    let is : GoingIs w p (goal g gs) e k = going-of w p (goal g gs) e w.store.now.state k stands.runs in
    record {
      it = it;
      goal_is = apply-of g _ _ into (kind-of-node w p s g gs e k (Node.Apply q operands into) at is node)
          ∙ ap (λ n. apply n (arguments (tables_in w.loaded) q operands) into) it.name ∙ ap (λ ts. apply it.pred.name ts into) (arguments-of w true q operands predicate it);
    }

-- ---- the caller stands, where slots behind its own are added

block-level : {M : Type 0} (w : World M) (p : Point) (n : ℕ) (g : GoalTree) (e : Places) (k : List Frame) (limit : ℕ) → (in_it : Entered w p n g e k) → in_it.block.base ≤ limit → (z : Entry M) → entry_at (entries_of w) w.arenas.level ≡ Some z → z.back.base ≤ limit
block-level w p n g e k limit in_it below z found =
    omega (arith, below, level-begins w.loaded z (entry_at (entries_of w) w.arenas.level) in_it.block.base found (block-above (tables_in w.loaded) (steps_of w.loaded) (now_here w) in_it.block in_it.at.leaves n k in_it.at.frames))

-- with its block in front of a slot
pub record EnteredWithin {M : Type 0} (w : World M) (p : Point) (n : ℕ) (g : GoalTree) (e : Places) (k : List Frame) (limit : ℕ) : Type 0 where
  pub it : Entered w p n g e k
  pub within : block_end it.block ≤ limit

pub entered-below : {M : Type 0} (w : World M) (b : ArenasView M) (limit : ℕ) (p : Point) (n : ℕ) (g : GoalTree) (e : Places) (k : List Frame) (es : List EntryData) → KeepsBelow w.arenas b limit → StackStands w es → (in_it : Entered w p n g e k) →
    block_end in_it.block ≤ limit → EnteredWithin (moved w w.store b) p n g e k limit
entered-below w b limit p n g e k es keeps stands in_it within =
    record {
      it = record {
        block = in_it.block;
        base = in_it.base;
        slots = holds-moves w.store.now.terms w.store.now.terms w.arenas.blocks.slots b.blocks.slots in_it.block e limit within keeps.long (sym keeps.front) (λ i t is. is) in_it.slots;
        at = record {
          own = in_it.at.own;
          leaves = in_it.at.leaves;
          here = in_it.at.here;
          frames = goes_on-moves (tables_in w.loaded) (steps_of w.loaded) (now_here w) (now_here (moved w w.store b)) in_it.block in_it.at.leaves n k limit n (omega (arith, within)) (omega arith) (below-moves w b limit n keeps) (below-ends w b limit keeps) in_it.at.frames;
          own_leaves = in_it.at.own_leaves;
        };
        agrees = level-below w b limit es keeps stands (block-level w p n g e k limit in_it (omega (arith, within))) in_it.agrees;
      };
      within = within;
    }

-- ---- the level, with the call in it

one-entry : {M : Type 0} (x z : Entry M) → Some x ≡ Some z → z.back.base ≡ x.back.base
one-entry x z at = cc

new-base : {M : Type 0} (es : List (Entry M)) (x z : Entry M) → entry_at (es ++ x ∷ []) (suc (length es)) ≡ Some z → z.back.base ≡ x.back.base
new-base es x z found = one-entry x z (sym (get_append_last es x) ∙ found)

apply-made : {M : Type 0} (w : World M) (u : StoreView M) (mark : M) (p : Point) (s : Step) (n q base arity into : ℕ) (pred : PredTree) (predicate : Predicate) (args : List Tree) (ts : Trees) (e : Places) (k : List Frame) (es : List EntryData) →
    StackStands w es → Marks w.order w.store u mark → (in_it : Entered w p n (apply pred.name args into) e k) → slice_get (steps_of w.loaded) p.place ≡ Some s → slice_get w.loaded.preds q ≡ Some pred → slice_get w.loaded.code.predicates.items q ≡ Some predicate →
    pred.function ≡ true → IsNotBuiltIn true pred.name pred.arity → length args ≡ pred.arity → length w.arenas.blocks.slots ≡ base + pred.arity → block_end in_it.block ≤ base → HoldsArguments w.store.now.terms w.arenas.blocks.slots base pred.arity ts →
    Made (entered_level w u mark base n (Kind.Strict (Strict.Apply p.place p.base))) q base 0 (record { function = true; args = ts }) pred.clauses []
    (strict (value_level (comp pred.name ts) into) (back_to e w.store.now.state k) ∷ es) predicate.first
unfolding open_level
apply-made w u mark p s n q base arity into pred predicate args ts e k es stands marks in_it at is_pred is_predicate function not_built many long below holds =
    let kind : Kind = Kind.Strict (Strict.Apply p.place p.base) in
    let slots : ℕ = length w.arenas.blocks.slots in
    let after : World _ = entered_level w u mark base n kind in
    let y : EntryData = strict (value_level (comp pred.name ts) into) (back_to e w.store.now.state k) in
    let x : Entry _ = new_entry w.arenas mark slots base n kind in
    let held : HoldsArguments w.store.now.terms w.arenas.blocks.slots base (length args) ts = subst (λ m. HoldsArguments w.store.now.terms w.arenas.blocks.slots base m ts) (sym many) holds in
    let block : block_at w.loaded p.place p.base ≡ in_it.block = block-of-step w.loaded in_it.block p.place p.base (apply pred.name args into) in_it.at.own s in_it.at.here in_it.base at in
    let is : KindIs w.loaded w.arenas.collected (now_here w) w.store.now.state base n slots (length w.arenas.collected) (length w.arenas.collected) kind y =
    apply_kind (goal-stands w p n s (apply pred.name args into) e k at in_it) (ap (is_value_name pred.name) many ∙ not_built) held (subst (λ b. block_end b ≤ base) (sym block) below) refl in
    let entered : StackStands after (y ∷ es) =
    stack-entered w u mark base n (length w.arenas.collected) kind y es stands marks in_it.agrees refl (kept-within w es stands) (omega arith) stands.stack is tt in
    let level : w.arenas.level ≤ length (entries_of w) = omega (arith, stands.level, open_level-within zero es, stack-length w (length (entries_of w)) (length w.arenas.collected) es stands.stack) in
    let extends : Extend w.store.now.terms u.now.terms = λ i t has. marks.stays.keeps.terms (record { number = i }) t has in
    let own : HoldsArguments u.now.terms w.arenas.blocks.slots base pred.arity ts = record { within = holds.within; held = held-extends w.store.now.terms u.now.terms (take pred.arity (drop base w.arenas.blocks.slots)) _ extends holds.held } in
    let left : RulesLeft w.loaded q predicate.first (record { function = true; args = ts }) pred.clauses =
    record { pred = pred; predicate = predicate; is_pred = is_pred; is_predicate = is_predicate; function = sym function; from = omega arith; rules = all-left pred.clauses predicate.first } in
    let goes : GoesOn (tables_in w.loaded) (steps_of w.loaded) (now_here after) (record { base = base; first = pred.arity; count = 0 }) true 0 [] = gives base (level-of-new w u mark base n kind) (omega arith) in
    let more : length (entries_of w ++ x ∷ []) ≡ suc (length (entries_of w)) = length-append (entries_of w) (x ∷ []) ∙ omega arith in
    record {
      is = record {
        code = entered.code;
        state = entered.state;
        tables = entered.tables;
        level = entered.level;
        kept = entered.kept;
        call = record { call = left; fits = holds.within; frames = goes; returns = λ not. absurd cc; alone = λ is. refl };
        agrees = agrees-with-new w u mark base n kind level (omega (arith, holds.within)) marks;
        over = omega (arith, long);
        inside = λ z found. omega (arith, new-base (entries_of w) x z (ap (entry_at (entries_of w ++ x ∷ [])) (sym more) ∙ found));
        entry = no_entry refl
            (record {
              call = record { pred = pred; predicate = predicate; is_pred = is_pred; is_predicate = is_predicate; function = sym function; args = own; from = omega arith; rules = left.rules };
              frames = goes;
              returns = λ not. absurd cc;
              alone = λ is. refl;
            })
            entered.stack;
      };
      args = own;
    }

-- ---- the step

pub record ApplyRuns {M : Type 0} (w after : World M) (q base : ℕ) (predicate : Predicate) (view : View) (g : GoalTree) (gs : GoalTrees) (e : Places) (k : List Frame) (es : List EntryData) : Type 0 where
  pub pred : PredTree
  pub called : Called
  pub level : EntryData
  pub made : Made after q base 0 called pred.clauses [] (level ∷ es) predicate.first
  pub step : (now : Now) (end : World M) → Stands end now (try_rules called pred.clauses (back_to [] after.store.now.state []) (level ∷ es)) → StandsAfter end now (goal_step view w.loaded.preds g e w.store.now.state (with_rest gs k es))

pub apply-runs : {M : Type 0} (w : World M) (v u : StoreView M) (mark : M) (a : ArenasView M) (fs : List Point) (d : BlocksView) (rs : List Ref) (p : Point) (s : Step) (q operands into n : ℕ) (predicate : Predicate) (view : View) (g : GoalTree) (gs : GoalTrees) (e : Places) (k : List Frame) (es : List EntryData) →
    Applies w g q operands into predicate → slice_get (steps_of w.loaded) p.place ≡ Some s → (stands : StandsGoing w p (goal g gs) e k es) → AreReadable (tables_in w.loaded) (block_of w p g gs e k es stands) operands predicate.arity →
    EvaluatesAll (block_of w p g gs e k es stands) (between w.store v w.arenas a) (evaluated_all (trees_of (operand_trees (tables_in w.loaded) operands predicate.arity)) e w.store.now.state) rs →
    PushesBehind p s a.frames fs n → d.slots ≡ a.blocks.slots ++ map (λ r. Some r) rs → KeepsBlocks a.blocks d → d.kept ≡ a.blocks.kept → Marks w.order v u mark →
    ApplyRuns w (entered_level (moved w v (with_blocks (framed a fs) d)) u mark (length a.blocks.slots) n (Kind.Strict (Strict.Apply p.place p.base))) q (length a.blocks.slots) predicate view g gs e k es
apply-runs w v u mark a fs d rs p s q operands into n predicate view g gs e k es applies at stands readable evaluates pushes new keeps kept marks =
    let T : Tables = tables_in w.loaded in
    let pred : PredTree = applies.it.pred in
    let is : GoingIs w p (goal g gs) e k = going-of w p (goal g gs) e w.store.now.state k stands.runs in
    let args : List Tree = operand_trees T operands predicate.arity in
    let all : EvaluatedAll = evaluated_all (trees_of args) e w.store.now.state in
    let called : Called = record { function = true; args = all.trees } in
    let state : Rests v.now.state = subst Rests (sym evaluates.writes.state) (evaluated-all-rests (trees_of args) e w.store.now.state stands.entries.state) in
    let w1 : World _ = moved w v a in
    let stack1 : StackStands w1 es = stack-moved w v a is.block all.slots all.state es evaluates.writes state stands.entries in
    let going1 : GoingIs w1 p (goal g gs) all.slots k = going-moved w v a p (goal g gs) e all.slots all.state k es stands.entries is evaluates.writes in
    let size : (s.size ≡ nodes g) × (p.place + nodes g < 2 ^ 32) = going-size w1 p s g gs all.slots k at going1 in
    let more : MoreFrames a.frames fs = pushes-more p s a.frames fs n (omega (arith, size.0, size.1)) pushes in
    let w2 : World _ = with_new_frames w1 fs in
    let stack2 : StackStands w2 es = stack-framed w1 fs es more stack1 in
    let in_it : Entered w2 p n g all.slots (behind gs k) = entered-behind w1 p s g gs all.slots k fs n at more pushes going1 in
    let limit : ℕ = length a.blocks.slots in
    let count : tree_count all.trees ≡ predicate.arity = all-count T operands predicate.arity e w.store.now.state readable.0 in
    let front : KeepsFront a.blocks d limit = front-more a.blocks d limit (map (λ r. Some r) rs) (omega arith) new keeps kept in
    let below : KeepsBelow w2.arenas (with_blocks w2.arenas d) limit = record { long = front.long; front = front.front; keeps = front.keeps; kept = front.kept; frames = refl; entries = refl; level = refl; collected = refl } in
    let holds : HoldsArguments v.now.terms d.slots limit pred.arity all.trees = arguments-added v a.blocks.slots d.slots rs pred.arity all.trees evaluates.terms (count ∙ applies.it.arity) new in
    let long : length d.slots ≡ limit + pred.arity = arguments-long v a.blocks.slots d.slots rs pred.arity all.trees evaluates.terms (count ∙ applies.it.arity) new in
    let w3 : World _ = moved w2 v (with_blocks w2.arenas d) in
    let own : EnteredWithin w3 p n (apply pred.name args into) all.slots (behind gs k) limit =
    subst (λ h. EnteredWithin w3 p n h all.slots (behind gs k) limit) applies.goal_is
    (entered-below w2 (with_blocks w2.arenas d) limit p n g all.slots (behind gs k) es below stack2 in_it (omega (arith, in_it.slots.within))) in
    let many : length args ≡ pred.arity = args-count T operands predicate.arity readable.0 ∙ applies.it.arity in
    let level : EntryData = strict (value_level (comp pred.name all.trees) into) (back_to all.slots v.now.state (behind gs k)) in
    record {
      pred = pred;
      called = called;
      level = level;
      made = apply-made w3 u mark p s n q limit predicate.arity into pred predicate args all.trees all.slots (behind gs k) es (stack-below w2 (with_blocks w2.arenas d) limit es below stack2) marks own.it at
          applies.it.is_pred applies.it.is_predicate applies.it.is_function applies.it.not_built many long own.within holds;
      step = λ now end ends.
          subst (StandsAfter end now)
          (sym (ap (λ h. goal_step view w.loaded.preds h e w.store.now.state (with_rest gs k es)) applies.goal_is
          ∙ apply-comes-to view w.loaded.preds pred.name args into pred gs e w.store.now.state k es (ap (λ n. is_given true pred.name n) (count ∙ applies.it.arity) ∙ applies.it.not_given)
          (ap (λ m. find_pred true pred.name m w.loaded.preds) (count ∙ applies.it.arity) ∙ found-by-number true w.loaded.preds q pred stands.entries.code.apart applies.it.is_pred applies.it.is_function)))
          (stands-called end now pred.quiet _
          (subst (λ r. Stands end now (try_rules called pred.clauses (back_to [] r []) (strict (value_level (comp pred.name all.trees) into) (back_to all.slots r (behind gs k)) ∷ es))) evaluates.writes.state
          (subst (λ r. Stands end now (try_rules called pred.clauses (back_to [] r []) (level ∷ es))) marks.stays.state ends)));
    }

-- what the step of such a goal is
pub apply-form : {M : Type 0} (w : World M) (q operands into : ℕ) (predicate : Predicate) (view : View) (g : GoalTree) (gs : GoalTrees) (e : Places) (k : List Frame) (es : List EntryData) → (applies : Applies w g q operands into predicate) →
    IsCodeOf w.loaded.code (tables_in w.loaded) w.store.names w.loaded.preds → operands + predicate.arity ≤ length (tables_in w.loaded).operands →
    (x : Config) × (goal_step view w.loaded.preds g e w.store.now.state (with_rest gs k es) ≡ call_step predicate.is_quiet x)
apply-form w q operands into predicate view g gs e k es applies code within =
    let T : Tables = tables_in w.loaded in
    let args : List Tree = operand_trees T operands predicate.arity in
    let all : EvaluatedAll = evaluated_all (trees_of args) e w.store.now.state in
    let next : Config = try_rules (record { function = true; args = all.trees }) applies.it.pred.clauses (back_to [] all.state []) (strict (value_level (comp applies.it.pred.name all.trees) into) (back_to all.slots all.state (behind gs k)) ∷ es) in
    let count : tree_count all.trees ≡ predicate.arity = all-count T operands predicate.arity e w.store.now.state within in (
      next,
      ap (λ h. goal_step view w.loaded.preds h e w.store.now.state (with_rest gs k es)) applies.goal_is
          ∙ apply-comes-to view w.loaded.preds applies.it.pred.name args into applies.it.pred gs e w.store.now.state k es (ap (λ n. is_given true applies.it.pred.name n) (count ∙ applies.it.arity) ∙ applies.it.not_given)
          (ap (λ m. find_pred true applies.it.pred.name m w.loaded.preds) (count ∙ applies.it.arity) ∙ found-by-number true w.loaded.preds q applies.it.pred code.apart applies.it.is_pred applies.it.is_function)
          ∙ ap (λ b. call_step b next) (sym applies.it.quiet),
    )
