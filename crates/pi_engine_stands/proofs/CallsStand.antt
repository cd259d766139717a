-- A call whose rules are tried, where the store and the arenas change.
use Rattle.std.proofs.Common.{◌≡◌, ◌≢◌, ℕ, zero, ◌+◌, ◌≤◌, Bool, true, false, List, [], ◌∷◌, Option, Some, None, length, take, drop, refl, sym, ◌∙◌, ap, subst, arith}
use Rattle.std.specs.Prelude.{IsTrue, IsSome, ◌↔◌}
use Rattle.pi_terms.specs.Tree.{Tree, Trees}
use Rattle.pi_terms.specs.Places.{Places}
use Rattle.pi_constraints.specs.State.{State}
use Rattle.pi_constraints.specs.Store.{StoreView, Stays, Keeps, Extend}
use Rattle.pi_core.specs.GoalTree.{no_goals, goal}
use Rattle.pi_core.specs.CoreTree.{ClauseTree, PredTree}
use Rattle.pi_engine_code.specs.declared.code.Rule.{Rule}
use Rattle.pi_engine_code.specs.declared.code.Step.{Step}
use Rattle.pi_engine_code.specs.Code.{Tables}
use Rattle.pi_engine_arenas.specs.Frames.{frame_at}
use Rattle.pi_engine_arenas.specs.Arenas.{ArenasView, entry_at}
use Rattle.pi_engine_arenas.specs.declared.arenas.Entry.{Entry}
use Rattle.pi_meaning.specs.Machine.Configuration.{Frame, Called, give, after_body, Entry as EntryData, in_places}
use Rattle.pi_meaning.specs.Machine.Shape.{open_level}
use Rattle.pi_engine_stands.specs.Here.{Block, Here, AreHeld, Holds, HoldsArguments, GoesOn, answers, gives, returns_to_end, more_of_block, returns_to, valued}
use Rattle.pi_engine_stands.specs.Stands.{World, Loaded, tables_in, steps_of, entries_of, now_here, level_ends, entry_ends, Agrees, agrees_from, IsRuleOf, clause_block, CallStands, StackIs, GoingIs}
use Rattle.pi_engine_stands.specs.Tries.{HasEntry, no_entry, own_entry}
use Rattle.pi_engine_stands.proofs.HereLemmas.{held-extends, part-agrees, Moves, goes_on-moves, holds-extends}
use Rattle.pi_engine_stands.proofs.StandsLemmas.{moved, Leaves, stack-length, open_level-within, entry_at-take, agrees-moves}

-- ---- frames and arguments

-- of frames of which none goes on with the block, nothing is said but where the block begins
pub goes_on-any : (t : Tables) (steps : List Step) (h : Here) (b d : Block) (leaves : Bool) (n : ℕ) (k : List Frame) → leaves ≡ true → b.base ≡ d.base →
    GoesOn t steps h b leaves n k → GoesOn t steps h d leaves n k
goes_on-any t steps h b d leaves n k out same (answers is) = absurd cc
goes_on-any t steps h b d leaves n k out same (gives start is lies) = gives start is (omega (arith, lies, same))
goes_on-any t steps h b d leaves n k out same (returns_to_end c is lies holds) = returns_to_end c is (omega (arith, lies, same)) holds
goes_on-any t steps h b d leaves n k out same (more_of_block p gs value last on k' at begins earlier some here and_leaves rest) = absurd cc
goes_on-any t steps h b d leaves n k out same (returns_to p c gs value last on k' at begins lies earlier some holds here and_leaves rest) =
    returns_to p c gs value last on k' at begins (omega (arith, lies, same)) earlier some holds here and_leaves rest

pub arguments-move : (h g : Here) (base arity limit m : ℕ) (ts : Trees) → base + arity ≤ limit → Moves h g limit m → HoldsArguments h.terms h.slots base arity ts → HoldsArguments g.terms g.slots base arity ts
arguments-move h g base arity limit m ts in_front moves holds =
    record {
      within = omega (arith, in_front, moves.long);
      held = held-extends h.terms g.terms (take arity (drop base g.slots)) (in_places ts) moves.terms
          (subst (λ rs. AreHeld h.terms rs (in_places ts)) (part-agrees base arity limit h.slots g.slots in_front moves.slots) holds.held);
    }

abbrev pub call-moves : (l : Loaded) (h g : Here) (base frame p r limit m : ℕ) (called : Called) (cs : List ClauseTree) (k : List Frame) → (is : CallStands l h base frame p r called cs k) →
    base + is.call.pred.arity ≤ limit → frame ≤ m → Moves h g limit m → h.ends ≡ g.ends → CallStands l g base frame p r called cs k
call-moves l h g base frame p r limit m called cs k is in_front below moves ends =
    record {
      call = record {
        pred = is.call.pred;
        predicate = is.call.predicate;
        is_pred = is.call.is_pred;
        is_predicate = is.call.is_predicate;
        function = is.call.function;
        args = arguments-move h g base is.call.pred.arity limit m called.args in_front moves is.call.args;
        from = is.call.from;
        rules = is.call.rules;
      };
      frames = goes_on-moves (tables_in l) (steps_of l) h g (record { base = base; first = is.call.pred.arity; count = 0 }) true frame k limit m (omega (arith, in_front)) below moves ends is.frames;
      returns = is.returns;
      alone = is.alone;
    }

-- ---- the value behind a rule's body

false-true : {X : Type 0} → IsTrue false → X
false-true h = absurd cc

none-some : {X : Type 0} → IsSome {T = Tree} None → X
none-some h = absurd cc

pub valued-after : (function : Bool) (c : ClauseTree) (value : Option Tree) (k : List Frame) → c.value ≡ value → (IsTrue function ↔ IsSome value) → after_body function c k ≡ valued value k
valued-after true c None k is has = none-some (has.0 refl)
valued-after true c (Some t) k is has = ap (λ v. give v ∷ k) is
valued-after false c None k is has = refl
valued-after false c (Some t) k is has = false-true (has.1 refl)

no-value : (own : Bool) (value : Option Tree) → (IsTrue own ↔ IsSome value) → value ≡ None → own ≡ false
no-value true None has none = none-some (has.0 refl)
no-value true (Some t) has none = absurd cc
no-value false value has none = refl

-- a rule without a value is no function's
without-value : (function own : Bool) (value : Option Tree) → function ≡ own → (IsTrue own ↔ IsSome value) → value ≡ None → function ≡ false
without-value function own value same has none = same ∙ no-value own value has none

own-value : (own : Bool) (value : Option Tree) (t : Tree) → (IsTrue own ↔ IsSome value) → value ≡ Some t → own ≡ true
own-value true value t has some = refl
own-value false None t has some = absurd cc
own-value false (Some u) t has some = false-true (has.1 refl)

-- one with a value is a function's
with-value : (function own : Bool) (value : Option Tree) (t : Tree) → function ≡ own → (IsTrue own ↔ IsSome value) → value ≡ Some t → function ≡ true
with-value function own value t same has some = same ∙ own-value own value t has some

-- ---- what stays of a call

-- the first so many entries stay, and what the call has but that terms may be added
pub record Passes {M : Type 0} (w : World M) (v : StoreView M) (a : ArenasView M) (m : ℕ) : Type 0 where
  pub leaves : Leaves w v a m (length w.arenas.collected)
  pub slots : a.blocks.slots ≡ w.arenas.blocks.slots
  pub frames : a.frames ≡ w.arenas.frames
  pub level : a.level ≡ w.arenas.level
  pub stays : Stays w.store v

pub keeps-terms : {M : Type 0} (v u : StoreView M) → Keeps v u → Extend v.now.terms u.now.terms
keeps-terms v u keeps = λ n x is. keeps.terms (record { number = n }) x is

pub ends-pass : {M : Type 0} (w : World M) (v : StoreView M) (a : ArenasView M) (m : ℕ) → Passes w v a m → w.arenas.level ≤ m → level_ends w w.arenas.level ≡ level_ends (moved w v a) a.level
ends-pass w v a m passes within =
    ap (entry_ends w.loaded) (entry_at-take (entries_of w) a.entries m w.arenas.level within passes.leaves.entries)
    ∙ ap (λ n. level_ends (moved w v a) n) (sym passes.level)

pub moves-pass : {M : Type 0} (w : World M) (v : StoreView M) (a : ArenasView M) (m limit top : ℕ) → Passes w v a m → limit ≤ length w.arenas.blocks.slots → Moves (now_here w) (now_here (moved w v a)) limit top
moves-pass w v a m limit top passes fit =
    record {
      long = subst (λ xs. limit ≤ length xs) (sym passes.slots) fit;
      slots = ap (take limit) (sym passes.slots);
      terms = keeps-terms w.store v passes.stays.keeps;
      frames = λ n p h at. subst (λ fs. frame_at fs n ≡ Some p) (sym passes.frames) at;
    }

pub agrees-extends : {M : Type 0} (w : World M) (r : Option (Entry M)) (h g : Here) → Extend h.terms g.terms → g.slots ≡ h.slots → g.frames ≡ h.frames → agrees_from w r h → agrees_from w r g
agrees-extends w None h g terms slots frames agrees = tt
agrees-extends w (Some x) h g terms slots frames agrees = (
  λ n t is. terms n t (agrees.0 n t is),
  agrees.1 ∙ ap (take x.back.base) (sym slots),
  subst (λ xs. x.back.base ≤ length xs) (sym slots) agrees.2,
  ap (take x.back.frames) frames ∙ agrees.3,
)

pub agrees-pass : {M : Type 0} (w : World M) (v : StoreView M) (a : ArenasView M) (m : ℕ) (es : List EntryData) → Passes w v a m → StackIs w m (length w.arenas.collected) es → w.arenas.level ≤ m →
    Agrees w w.arenas.level (now_here w) → Agrees (moved w v a) a.level (now_here (moved w v a))
agrees-pass w v a m es passes stack within agrees =
    subst (λ n. Agrees (moved w v a) n (now_here (moved w v a))) (sym passes.level)
    (agrees-extends (moved w v a) (entry_at a.entries w.arenas.level) (now_here w) (now_here (moved w v a)) (keeps-terms w.store v passes.stays.keeps) passes.slots passes.frames
    (agrees-moves w v a m (length w.arenas.collected) m (length w.arenas.collected) w.arenas.level es (now_here w) (now_here w) passes.leaves (omega arith) stack within refl agrees))

-- a rule's body, in the call's block
pub body-goes : {M : Type 0} (w : World M) (v : StoreView M) (a : ArenasView M) (m base frame : ℕ) (es : List EntryData) (pred : PredTree) (c : ClauseTree) (rule : Rule) (called : Called) (e : Places) (k : List Frame) →
    Passes w v a m → StackIs w m (length w.arenas.collected) es → w.arenas.level ≡ open_level 0 es →
    GoesOn (tables_in w.loaded) (steps_of w.loaded) (now_here w) (record { base = base; first = pred.arity; count = 0 }) true frame k → (called.function ≡ false → k ≢ []) → (called.function ≡ true → k ≡ []) → Agrees w w.arenas.level (now_here w) →
    IsRuleOf w.loaded.code (tables_in w.loaded) w.store.names pred c rule → called.function ≡ pred.function → Holds w.store.now.terms w.arenas.blocks.slots (clause_block base pred c) e →
    GoingIs (moved w v a) (record { place = rule.body; count = rule.goals; base = base; frame = frame }) (goal c.body no_goals) e (after_body called.function c k)
body-goes w v a m base frame es pred c rule called e k passes stack level frames returns alone agrees is same slots =
    let within : w.arenas.level ≤ m = omega (arith, level, open_level-within zero es, stack-length w m (length w.arenas.collected) es stack) in
    let here : Here = now_here (moved w v a) in
    let moves : Moves (now_here w) here base frame = moves-pass w v a m base frame passes (omega (arith, slots.within)) in
    record {
      block = clause_block base pred c;
      base = refl;
      value = c.value;
      last = is.last;
      rest = k;
      goals = is.body base;
      behind = record {
        slots = holds-extends w.store.now.terms v.now.terms a.blocks.slots (clause_block base pred c) e (keeps-terms w.store v passes.stays.keeps)
            (subst (λ xs. Holds w.store.now.terms xs (clause_block base pred c) e) (sym passes.slots) slots);
        leaves = true;
        frames = goes_on-any (tables_in w.loaded) (steps_of w.loaded) here (record { base = base; first = pred.arity; count = 0 }) (clause_block base pred c) true frame k refl refl
            (goes_on-moves (tables_in w.loaded) (steps_of w.loaded) (now_here w) here (record { base = base; first = pred.arity; count = 0 }) true frame k base frame (omega arith) (omega arith) moves
            (ends-pass w v a m passes within) frames);
      };
      leaves = record { is_last = λ h. refl; is_given = λ none out. returns (without-value called.function pred.function c.value same is.value none); is_value = λ t h. (refl, alone (with-value called.function pred.function c.value t same is.value h)) };
      frames = valued-after called.function c c.value k refl (subst (λ f. IsTrue f ↔ IsSome c.value) (sym same) is.value);
      agrees = agrees-pass w v a m es passes stack within agrees;
    }

-- the stack below a call
pub record BelowCall {M : Type 0} (w : World M) (es : List EntryData) : Type 0 where
  pub count : ℕ
  pub stack : StackIs w count (length w.arenas.collected) es
  pub within : count ≤ length (entries_of w)

pub below-call : {M : Type 0} (w : World M) (p base frame from : ℕ) (called : Called) (cs : List ClauseTree) (s : State) (k : List Frame) (es : List EntryData) (again : Bool) →
    HasEntry w p base frame from called cs s k es again → BelowCall w es
below-call w p base frame from called cs s k es again (no_entry same call stack) = record { count = length (entries_of w); stack = stack; within = omega arith }
below-call w p base frame from called cs s k es again (own_entry own) = record { count = own.below; stack = own.stack; within = omega (arith, own.all) }
