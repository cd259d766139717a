-- A call of a predicate as a step of the machine.
use Rattle.std.proofs.Common.{◌≡◌, ℕ, zero, suc, ◌+◌, ◌≤◌, ◌<◌, ◌^◌, Bool, true, false, ◌||◌, List, [], ◌∷◌, ◌++◌, Option, Some, None, length, take, drop, map, get_or, refl, sym, ◌∙◌, ap, subst, arith}
use Rattle.std.specs.Prelude.{slice_get, slice_index_or, max}
use Rattle.std.proofs.lemmas.List.{length-take-le, length-drop}
use Rattle.std.proofs.lemmas.Option.{slice_get_within, get_or_from_slice_get}
use Rattle.pi_terms.specs.Tree.{Tree, Trees, no_trees, tree, trees_of, tree_count}
use Rattle.pi_terms.specs.Places.{Places}
use Rattle.pi_constraints.specs.Store.{StoreView}
use Rattle.pi_constraints.specs.State.{State}
use Rattle.pi_engine_stands.specs.Rests.{Rests}
use Rattle.pi_meaning.specs.Shared.View.{View}
use Rattle.pi_settling.specs.SolveCalls.{is_solve}
use Rattle.pi_meaning.specs.Shared.Effects.{is_effect_name}
use Rattle.pi_meaning.specs.Shared.Names.{is_given}
use Rattle.pi_core.specs.CoreTree.{find_pred, PredTree, pred_tree}
use Rattle.pi_constraints.specs.Evaluation.{evaluated, EvaluatedAll, evaluated_all}
use Rattle.pi_core.specs.GoalTree.{GoalTree, GoalTrees, call, goal, nodes}
use Rattle.pi_core.specs.declared.core_program.CorePred.{CorePred}
use Rattle.pi_constraints.specs.declared.store.Ref.{Ref}
use Rattle.pi_engine_arenas.specs.declared.frames.Point.{Point}
use Rattle.pi_engine_code.specs.declared.code.Node.{Node}
use Rattle.pi_engine_code.specs.declared.code.Step.{Step}
use Rattle.pi_engine_code.specs.declared.code.Predicate.{Predicate}
use Rattle.pi_engine_arenas.specs.declared.run.Now.{Now}
use Rattle.pi_engine_arenas.specs.Blocks.{BlocksView, KeepsBlocks}
use Rattle.pi_engine_arenas.specs.Arenas.{ArenasView, between}
use Rattle.pi_engine_arenas.specs.Frames.{PushesBehind}
use Rattle.pi_engine_code.specs.Laid.{IsNotBuiltIn}
use Rattle.pi_engine_code.specs.Code.{Tables, preds_of, arguments, node_kind, operand_tree}
use Rattle.pi_meaning.specs.Machine.Configuration.{Frame, Called, Config, behind, returning, Entry as EntryData}
use Rattle.pi_meaning.specs.Machine.Step.{call_step, try_clauses, goal_step, back_to, with_rest}
use Rattle.pi_engine_stands.specs.Here.{Block, SayLast, AreReadable, LeftBehind}
use Rattle.pi_engine_stands.specs.Stands.{World, tables_in, steps_of, IsNumberOf, HasNumber, IsCodeOf, StackStands, Stands, StandsGoing, GoingIs}
use Rattle.pi_engine_stands.specs.Evaluates.{with_blocks, operand_trees, EvaluatesAll}
use Rattle.pi_engine_stands.specs.Makes.{StandsAfter}
use Rattle.pi_engine_stands.specs.Tries.{KeepsFront}
use Rattle.pi_engine_stands.proofs.StandsLemmas.{moved}
use Rattle.pi_engine_stands.proofs.FramesStand.{MoreFrames, pushes-more, framed, with_new_frames, stack-framed, going-of, going-size, Entered, entered-behind}
use Rattle.pi_engine_stands.proofs.EqualStands.{block_of, kind-of-node, stack-moved, going-moved}
use Rattle.pi_engine_stands.proofs.CallLemmas.{call-of}
use Rattle.pi_engine_stands.proofs.RulesTried.{IsFound}
use Rattle.pi_meaning.proofs.Shared.FoundLemmas.{found-by-number}
use Rattle.pi_meaning.proofs.Machine.CallFound.{call-comes-to}
use Rattle.pi_engine_stands.proofs.CallMade.{Room, kept_whole, given_back, cut-back, Caller, Made, call-made}
use Rattle.pi_engine_stands.proofs.LevelSteps.{kept-within}
use Rattle.pi_engine_stands.proofs.RestLemmas.{evaluated-all-rests}

-- ---- the predicate by its number

pub name-at : (ps : List CorePred) (q : ℕ) (pred : PredTree) → slice_get (map pred_tree ps) q ≡ Some pred → (get_or (map (λ p. p.name) ps) q [] ≡ pred.name) × (get_or (map (λ p. p.arity) ps) q 0 ≡ pred.arity)
name-at [] q pred at = absurd cc
name-at (p ∷ ps) zero pred at = let same : pred_tree p ≡ pred = cc in (ap (λ r. r.name) same, ap (λ r. r.arity) same)
name-at (p ∷ ps) (suc q) pred at = name-at ps q pred at

pub trees-count : (ts : List Tree) → tree_count (trees_of ts) ≡ length ts
unfolding tree_count
trees-count [] = refl
trees-count (t ∷ ts) = ap suc (trees-count ts)

pub evaluated-count : (ts : Trees) (e : Places) (s : State) → tree_count (evaluated_all ts e s).trees ≡ tree_count ts
unfolding tree_count evaluated
evaluated-count no_trees e s = refl
evaluated-count (tree t ts) e s = ap suc (evaluated-count ts (evaluated t e s).slots (evaluated t e s).state)

pub map-count : {A B : Type 0} (f : A → B) (xs : List A) → length (map f xs) ≡ length xs
map-count f [] = refl
map-count f (x ∷ xs) = ap suc (map-count f xs)

-- the predicate or function of a call's number
pub record Numbered {M : Type 0} (w : World M) (function : Bool) (q : ℕ) (predicate : Predicate) : Type 0 where
  pub pred : PredTree
  pub is_pred : slice_get w.loaded.preds q ≡ Some pred
  pub is_predicate : slice_get w.loaded.code.predicates.items q ≡ Some predicate
  pub is_function : pred.function ≡ function
  pub not_built : IsNotBuiltIn function pred.name pred.arity
  pub not_given : is_given function pred.name pred.arity ≡ false
  pub arity : predicate.arity ≡ pred.arity
  pub quiet : predicate.is_quiet ≡ pred.quiet
  pub name : slice_index_or (tables_in w.loaded).called q [] ≡ pred.name
  pub arities : slice_index_or (tables_in w.loaded).arities q 0 ≡ predicate.arity

pub numbered : {M : Type 0} (w : World M) (function : Bool) (q : ℕ) (predicate : Predicate) → IsCodeOf w.loaded.code (tables_in w.loaded) w.store.names w.loaded.preds → IsNumberOf w.loaded.preds function q → IsFound w q predicate → Numbered w function q predicate
numbered w function q predicate code number known =
    let pred : PredTree = number.0 in
    let found = code.predicates q pred number.1 in
    let same : predicate ≡ found.0 = known found.0 found.1 in
    let names = name-at (preds_of w.loaded.code) q pred (ap (λ ps. slice_get ps q) (sym code.source) ∙ number.1) in
    let arity : predicate.arity ≡ pred.arity = ap (λ r. r.arity) same ∙ found.2.arity in
    record {
      pred = pred;
      is_pred = number.1;
      is_predicate = found.1 ∙ ap (λ r. Some r) (sym same);
      is_function = number.2;
      not_built = number.3;
      not_given = sym (ap (λ b. is_given b pred.name pred.arity) number.2) ∙ code.free pred (q, slice_get_within w.loaded.preds q pred number.1, get_or_from_slice_get w.loaded.preds q pred pred number.1);
      arity = arity;
      quiet = ap (λ r. r.is_quiet) same ∙ found.2.quiet;
      name = names.0;
      arities = names.1 ∙ sym arity;
    }

-- its arguments
pub arguments-of : {M : Type 0} (w : World M) (function : Bool) (q operands : ℕ) (predicate : Predicate) → Numbered w function q predicate → arguments (tables_in w.loaded) q operands ≡ operand_trees (tables_in w.loaded) operands predicate.arity
arguments-of w function q operands predicate is = ap (λ n. map (operand_tree (tables_in w.loaded)) (take n (drop operands (tables_in w.loaded).operands))) is.arities

-- and what a call's goal is
pub record Calls {M : Type 0} (w : World M) (g : GoalTree) (q operands : ℕ) (predicate : Predicate) : Type 0 where
  pub it : Numbered w false q predicate
  pub goal_is : g ≡ call it.pred.name (operand_trees (tables_in w.loaded) operands predicate.arity)

pub calls : {M : Type 0} (w : World M) (p : Point) (s : Step) (g : GoalTree) (gs : GoalTrees) (e : Places) (k : List Frame) (es : List EntryData) (q operands : ℕ) (predicate : Predicate) → s.node ≡ Node.Call q operands →
    slice_get (steps_of w.loaded) p.place ≡ Some s → StandsGoing w p (goal g gs) e k es → IsFound w q predicate → Calls w g q operands predicate
unfolding node_kind
calls w p s g gs e k es q operands predicate node at stands known =
    let it : Numbered w false q predicate = numbered w false q predicate stands.entries.code (subst (HasNumber w.loaded.preds) node (stands.entries.code.numbers p.place s at)) known in
    let is : GoingIs w p (goal g gs) e k = going-of w p (goal g gs) e w.store.now.state k stands.runs in
    record {
      it = it;
      goal_is = call-of g _ _ (kind-of-node w p s g gs e k (Node.Call q operands) at is node)
          ∙ ap (λ n. call n (arguments (tables_in w.loaded) q operands)) it.name ∙ ap (call it.pred.name) (arguments-of w false q operands predicate it);
    }

pub args-count : (t : Tables) (operands arity : ℕ) → operands + arity ≤ length t.operands → length (operand_trees t operands arity) ≡ arity
args-count t operands arity within =
    map-count (operand_tree t) (take arity (drop operands t.operands)) ∙ length-take-le arity (drop operands t.operands) (omega (arith, within, length-drop operands t.operands))

pub all-count : (t : Tables) (operands arity : ℕ) (e : Places) (s : State) → operands + arity ≤ length t.operands → tree_count (evaluated_all (trees_of (operand_trees t operands arity)) e s).trees ≡ arity
all-count t operands arity e s within =
    evaluated-count (trees_of (operand_trees t operands arity)) e s ∙ trees-count (operand_trees t operands arity) ∙ args-count t operands arity within

-- ---- what the slots of the caller come to

-- the caller's block is given back where the call is its last goal
pub record GivesBack (a c : BlocksView) (base : ℕ) (last : Bool) : Type 0 where
  pub whole : last ≡ false → c ≡ a
  pub cut : last ≡ true → (c.slots ≡ take (max base a.kept) a.slots) × KeepsBlocks a c × (c.kept ≡ a.kept)

pub gives-cut : (a x c : BlocksView) (base : ℕ) (last : Bool) → last ≡ true → x ≡ a → c.slots ≡ take (max base x.kept) x.slots → KeepsBlocks x c → c.kept ≡ x.kept → GivesBack a c base last
gives-cut a x c base last is same cut keeps kept =
    subst (λ r. GivesBack r c base last) same (record { whole = λ not. absurd cc; cut = λ yes. (cut, keeps, kept) })

pub gives-whole : (a c : BlocksView) (base : ℕ) (last : Bool) → last ≡ false → c ≡ a → GivesBack a c base last
gives-whole a c base last is same = record { whole = λ not. same; cut = λ yes. absurd cc }

pub said-last : (steps : List Step) (place : ℕ) (g : GoalTree) (name : List ℕ) (args : List Tree) (own : Bool) (s : Step) → g ≡ call name args → is_solve name (length args) ≡ false → SayLast steps place g own → slice_get steps place ≡ Some s → s.is_last ≡ own
unfolding SayLast
said-last steps place g name args own s is other says at = subst (λ h. SayLast steps place h own) is says other s at

or-right : (x y : Bool) → (x || y) ≡ false → y ≡ false
or-right true y h = absurd cc
or-right false y h = h

-- a predicate of the program isn't `solve`
pub calls-no-solve : (pred : PredTree) (args : List Tree) → length args ≡ pred.arity → IsNotBuiltIn false pred.name pred.arity → is_solve pred.name (length args) ≡ false
calls-no-solve pred args many not = ap (is_solve pred.name) many ∙ or-right (is_effect_name pred.name pred.arity) (is_solve pred.name pred.arity) not.0

pub room-of : (a c : BlocksView) (b : Block) (leaves last own : Bool) (base : ℕ) (k : List Frame) → b.base ≡ base → base ≤ length a.slots → a.kept ≤ length a.slots → last ≡ own → LeftBehind None own leaves k → GivesBack a c base last → (limit : ℕ) × Room a c b leaves limit
room-of a c b leaves false own base k begins fits over same left gives = (length a.slots, kept_whole (gives.whole refl) refl)
room-of a c b leaves true own base k begins fits over same left gives =
    let cut = gives.cut refl in
    let back : KeepsFront a c base × (c.kept ≤ length c.slots) = cut-back a c base fits over cut.0 cut.1 cut.2 in
    (base, given_back (left.is_last (sym same)) (sym begins) back.0 back.1)

-- ---- the step

pub stands-called : {M : Type 0} (w : World M) (now : Now) (quiet : Bool) (c : Config) → Stands w now c → StandsAfter w now (call_step quiet c)
stands-called w now true c stands = stands
stands-called w now false c stands = stands

one-pred : (r : Option PredTree) (p q : PredTree) → r ≡ Some p → r ≡ Some q → p ≡ q
one-pred r p q h k = cc

-- what is there once a call is made
pub record CallRuns {M : Type 0} (w after : World M) (q base frame : ℕ) (predicate : Predicate) (view : View) (g : GoalTree) (gs : GoalTrees) (e : Places) (k : List Frame) (es : List EntryData) : Type 0 where
  pub pred : PredTree
  pub args : Trees
  pub frames : List Frame
  pub made : Made after q base frame (record { function = false; args = args }) pred.clauses frames es predicate.first
  pub pred_is : made.is.call.call.pred ≡ pred
  pub step : (now : Now) (end : World M) → Stands end now (try_clauses pred.index pred.clauses args (back_to [] after.store.now.state frames) es) → StandsAfter end now (goal_step view w.loaded.preds g e w.store.now.state (with_rest gs k es))

pub call-runs : {M : Type 0} (w : World M) (v : StoreView M) (a : ArenasView M) (fs : List Point) (c d : BlocksView) (rs : List Ref) (p : Point) (s : Step) (q operands n : ℕ) (predicate : Predicate) (view : View) (g : GoalTree) (gs : GoalTrees) (e : Places) (k : List Frame) (es : List EntryData) →
    Calls w g q operands predicate → slice_get (steps_of w.loaded) p.place ≡ Some s → (stands : StandsGoing w p (goal g gs) e k es) → AreReadable (tables_in w.loaded) (block_of w p g gs e k es stands) operands predicate.arity →
    EvaluatesAll (block_of w p g gs e k es stands) (between w.store v w.arenas a) (evaluated_all (trees_of (operand_trees (tables_in w.loaded) operands predicate.arity)) e w.store.now.state) rs →
    PushesBehind p s a.frames fs n → GivesBack a.blocks c p.base s.is_last → d.slots ≡ c.slots ++ map (λ r. Some r) rs → KeepsBlocks c d → d.kept ≡ c.kept →
    CallRuns w (moved w v (with_blocks (framed a fs) d)) q (length c.slots) n predicate view g gs e k es
call-runs w v a fs c d rs p s q operands n predicate view g gs e k es calls at stands readable evaluates pushes gives new keeps kept =
    let T : Tables = tables_in w.loaded in
    let is : GoingIs w p (goal g gs) e k = going-of w p (goal g gs) e w.store.now.state k stands.runs in
    let args : List Tree = operand_trees T operands predicate.arity in
    let all : EvaluatedAll = evaluated_all (trees_of args) e w.store.now.state in
    let called : Called = record { function = false; args = all.trees } in
    let state : Rests v.now.state = subst Rests (sym evaluates.writes.state) (evaluated-all-rests (trees_of args) e w.store.now.state stands.entries.state) in
    let w1 : World _ = moved w v a in
    let stack1 : StackStands w1 es = stack-moved w v a is.block all.slots all.state es evaluates.writes state stands.entries in
    let going1 : GoingIs w1 p (goal g gs) all.slots k = going-moved w v a p (goal g gs) e all.slots all.state k es stands.entries is evaluates.writes in
    let size : (s.size ≡ nodes g) × (p.place + nodes g < 2 ^ 32) = going-size w1 p s g gs all.slots k at going1 in
    let more : MoreFrames a.frames fs = pushes-more p s a.frames fs n (omega (arith, size.0, size.1)) pushes in
    let stack2 : StackStands (with_new_frames w1 fs) es = stack-framed w1 fs es more stack1 in
    let in_it : Entered (with_new_frames w1 fs) p n g all.slots (behind gs k) = entered-behind w1 p s g gs all.slots k fs n at more pushes going1 in
    let count : tree_count all.trees ≡ predicate.arity = all-count T operands predicate.arity e w.store.now.state readable.0 in
    let last : s.is_last ≡ in_it.at.own = said-last (steps_of w.loaded) p.place g calls.it.pred.name args in_it.at.own s calls.goal_is
    (calls-no-solve calls.it.pred args (args-count T operands predicate.arity readable.0 ∙ calls.it.arity) calls.it.not_built) in_it.at.here.says at in
    let room : (limit : ℕ) × Room a.blocks c in_it.block in_it.at.leaves limit =
    room-of a.blocks c in_it.block in_it.at.leaves s.is_last in_it.at.own p.base (behind gs k) in_it.base (omega (arith, in_it.base, in_it.slots.within)) (kept-within (with_new_frames w1 fs) es stack2) last in_it.at.own_leaves gives in
    let caller : Caller (with_new_frames w1 fs) in_it.block in_it.at.leaves n all.slots (behind gs k) es =
    record { stands = stack2; slots = in_it.slots; frames = in_it.at.frames; given = in_it.at.own_leaves.is_given refl; agrees = in_it.agrees } in
    let none : is_given false calls.it.pred.name (tree_count all.trees) ≡ false = ap (λ n. is_given false calls.it.pred.name n) (count ∙ calls.it.arity) ∙ calls.it.not_given in
    let made : Made (moved w v (with_blocks (framed a fs) d)) q (length c.slots) n called calls.it.pred.clauses (returning all.slots (behind gs k)) es predicate.first =
    call-made (with_new_frames w1 fs) c d rs in_it.block in_it.at.leaves room.0 n q calls.it.pred predicate called all.slots (behind gs k) es caller room.1 new keeps kept calls.it.is_pred calls.it.is_predicate (sym calls.it.is_function) refl evaluates.terms (count ∙ calls.it.arity) in
    record {
      pred = calls.it.pred;
      args = all.trees;
      frames = returning all.slots (behind gs k);
      made = made;
      step = λ now end ends.
          subst (StandsAfter end now)
          (sym (ap (λ h. goal_step view w.loaded.preds h e w.store.now.state (with_rest gs k es)) calls.goal_is
          ∙ call-comes-to view w.loaded.preds calls.it.pred.name args calls.it.pred gs e w.store.now.state k es none
          (ap (λ m. find_pred false calls.it.pred.name m w.loaded.preds) (count ∙ calls.it.arity) ∙ found-by-number false w.loaded.preds q calls.it.pred stands.entries.code.apart calls.it.is_pred calls.it.is_function)))
          (stands-called end now calls.it.pred.quiet (try_clauses calls.it.pred.index calls.it.pred.clauses all.trees (back_to [] all.state (returning all.slots (behind gs k))) es)
          (subst (λ r. Stands end now (try_clauses calls.it.pred.index calls.it.pred.clauses all.trees (back_to [] r (returning all.slots (behind gs k))) es)) evaluates.writes.state ends));
      pred_is = one-pred (slice_get w.loaded.preds q) made.is.call.call.pred calls.it.pred made.is.call.call.is_pred calls.it.is_pred;
    }

-- what the step of such a goal is
pub call-form : {M : Type 0} (w : World M) (q operands : ℕ) (predicate : Predicate) (view : View) (g : GoalTree) (gs : GoalTrees) (e : Places) (k : List Frame) (es : List EntryData) → (calls : Calls w g q operands predicate) →
    IsCodeOf w.loaded.code (tables_in w.loaded) w.store.names w.loaded.preds → operands + predicate.arity ≤ length (tables_in w.loaded).operands →
    (x : Config) × (goal_step view w.loaded.preds g e w.store.now.state (with_rest gs k es) ≡ call_step predicate.is_quiet x)
call-form w q operands predicate view g gs e k es calls code within =
    let T : Tables = tables_in w.loaded in
    let args : List Tree = operand_trees T operands predicate.arity in
    let all : EvaluatedAll = evaluated_all (trees_of args) e w.store.now.state in
    let next : Config = try_clauses calls.it.pred.index calls.it.pred.clauses all.trees (back_to [] all.state (returning all.slots (behind gs k))) es in
    let count : tree_count all.trees ≡ predicate.arity = all-count T operands predicate.arity e w.store.now.state within in (
      next,
      ap (λ h. goal_step view w.loaded.preds h e w.store.now.state (with_rest gs k es)) calls.goal_is
          ∙ call-comes-to view w.loaded.preds calls.it.pred.name args calls.it.pred gs e w.store.now.state k es (ap (λ n. is_given false calls.it.pred.name n) (count ∙ calls.it.arity) ∙ calls.it.not_given)
          (ap (λ m. find_pred false calls.it.pred.name m w.loaded.preds) (count ∙ calls.it.arity) ∙ found-by-number false w.loaded.preds q calls.it.pred code.apart calls.it.is_pred calls.it.is_function)
          ∙ ap (λ b. call_step b next) (sym calls.it.quiet),
    )
