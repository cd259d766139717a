-- The facts of a call, tried from one on.
use Rattle.std.proofs.Common.{◌≡◌, ℕ, zero, ◌+◌, ◌-◌, ◌≤◌, Bool, true, false, List, [], ◌∷◌, Option, Some, None, length, drop, refl, sym, ◌∙◌, ap, subst, arith}
use Rattle.std.specs.Prelude.{slice_get, cond, is_some}
use Rattle.std.proofs.lemmas.List.{take_all, drop-drop}
use Rattle.pi_terms.specs.Tree.{Trees}
use Rattle.pi_constraints.specs.State.{State}
use Rattle.pi_engine_stands.specs.Rests.{Rests}
use Rattle.pi_constraints.specs.Store.{StoreView, Keeps, Stays}
use Rattle.pi_core.specs.GoalTree.{no_goals}
use Rattle.pi_core.specs.CoreTree.{ClauseTree, PredTree}
use Rattle.pi_unify.specs.Answers.{Answers}
use Rattle.pi_engine_arenas.specs.declared.arenas.Kind.{Kind}
use Rattle.pi_engine_arenas.specs.declared.frames.Point.{Point}
use Rattle.pi_engine_arenas.specs.declared.run.Now.{Now}
use Rattle.pi_engine_arenas.specs.Arenas.{ArenasView, DropsNewest, between}
use Rattle.pi_engine_code.specs.declared.code.Predicate.{Predicate}
use Rattle.pi_meaning.specs.Machine.Configuration.{Frame, Called, Config, config, failed, choice, facts_left, Back, Entry as EntryData, settling}
use Rattle.pi_meaning.specs.Machine.Step.{with_fact, from_unifying, later_facts, fact_tried, try_facts, back_to}
use Rattle.pi_meaning.specs.Machine.Shape.{open_level}
use Rattle.pi_engine_facts.specs.Trying.{IsFirst, IsNext, numbered}
use Rattle.pi_engine_stands.specs.Here.{Block, Here, none_here, AreHeld}
use Rattle.pi_engine_stands.specs.Stands.{World, tables_in, steps_of, now_here, CallStands, facts_kind, StackIs, StackStands, GoingIs, Stands}
use Rattle.pi_engine_stands.specs.Evaluates.{Writes}
use Rattle.pi_engine_stands.specs.Tries.{CallIs, LeavesLater}
use Rattle.pi_engine_stands.proofs.HereLemmas.{Moves, goes_on-moves}
use Rattle.pi_engine_stands.proofs.ProgramStands.{code-keeps}
use Rattle.pi_engine_stands.proofs.StandsLemmas.{moved, stack-length, open_level-within}
use Rattle.pi_engine_stands.proofs.CallsStand.{Passes, keeps-terms, ends-pass, moves-pass, agrees-pass}
use Rattle.pi_engine_stands.proofs.CallEntries.{Drops}
use Rattle.pi_engine_stands.proofs.CallKept.{Makes, call-kept}
use Rattle.pi_engine_stands.proofs.RulesTaken.{StackAfter, stack-kept, entry-gone, entry-none}
use Rattle.pi_engine_stands.proofs.CallsTried.{call-ended}
use Rattle.pi_engine_stands.proofs.CallsStay.{call-stays}
use Rattle.pi_engine_stands.proofs.EqualStands.{writes-kept, lies-moved, going-moved}
use Rattle.pi_engine_stands.proofs.StacksLie.{stack-lies}
use Rattle.pi_engine_arenas.specs.Frames.{call_at}
use Rattle.pi_engine_settle.specs.Settles.{LeftBy}
use Rattle.pi_engine_stands.specs.Settling.{GoesOnTo, NextAfter}
use Rattle.pi_engine_stands.proofs.SettlesFirst.{goes-on-to}

-- ---- the machine as data

abbrev first_tried : Trees → List ClauseTree → Back → List EntryData → Config
first_tried ts [] b es = config failed es
first_tried ts (c ∷ cs) b es = fact_tried ts cs b es (with_fact ts b.state c) (config failed es)

pass-one : (ts : Trees) (c : ClauseTree) (cs : List ClauseTree) (b : Back) (es : List EntryData) (o : Option State) → with_fact ts b.state c ≡ o → try_facts ts cs b es ≡ first_tried ts (from_unifying ts b.state cs) b es →
    fact_tried ts cs b es o (try_facts ts cs b es) ≡ first_tried ts (cond (is_some o) (c ∷ cs) (from_unifying ts b.state cs)) b es
pass-one ts c cs b es None is h = h
pass-one ts c cs b es (Some r) is h = sym (ap (λ o. fact_tried ts cs b es o (config failed es)) is)

-- the first fact that unifies is tried
tried-first : (ts : Trees) (cs : List ClauseTree) (b : Back) (es : List EntryData) → try_facts ts cs b es ≡ first_tried ts (from_unifying ts b.state cs) b es
unfolding try_facts from_unifying
tried-first ts [] b es = refl
tried-first ts (c ∷ cs) b es = pass-one ts c cs b es (with_fact ts b.state c) refl (tried-first ts cs b es)

pub facts-none : (ts : Trees) (cs : List ClauseTree) (b : Back) (es : List EntryData) → from_unifying ts b.state cs ≡ [] → try_facts ts cs b es ≡ config failed es
facts-none ts cs b es none = tried-first ts cs b es ∙ ap (λ ds. first_tried ts ds b es) none

pub facts-some : (ts : Trees) (cs rest : List ClauseTree) (c : ClauseTree) (r : State) (b : Back) (es : List EntryData) → from_unifying ts b.state cs ≡ c ∷ rest → with_fact ts b.state c ≡ Some r →
    try_facts ts cs b es ≡ config (settling b.state r no_goals b.slots b.frames) (later_facts ts (from_unifying ts b.state rest) b es)
facts-some ts cs rest c r b es some is =
    tried-first ts cs b es ∙ (ap (λ ds. first_tried ts ds b es) some ∙ ap (λ o. fact_tried ts rest b es o (config failed es)) is)

-- ---- what is behind a fact runs

-- nothing is left of a call's own, and what is behind it goes on
nothing-goes : {M : Type 0} (w : World M) (v : StoreView M) (a : ArenasView M) (m p base frame number : ℕ) (called : Called) (cs : List ClauseTree) (s : State) (k : List Frame) (es : List EntryData) (again : Bool) →
    (is : CallIs w p base frame number called cs s k es again) → called.function ≡ false → Passes w v a m → StackIs w m (length w.arenas.collected) es →
    GoingIs (moved w v a) (record { place = 0; count = 0; base = base; frame = frame }) no_goals [] k
unfolding AreHeld
nothing-goes w v a m p base frame number called cs s k es again is predicate passes stack =
    let within : w.arenas.level ≤ m = omega (arith, is.level, open_level-within zero es, stack-length w m (length w.arenas.collected) es stack) in
    let here : Here = now_here (moved w v a) in
    let block : Block = record { base = base; first = is.call.call.pred.arity; count = 0 } in
    let limit : ℕ = base + is.call.call.pred.arity in
    let moves : Moves (now_here w) here limit frame = moves-pass w v a m limit frame passes is.call.fits in
    record {
      block = block;
      base = refl;
      value = None;
      last = true;
      rest = k;
      goals = none_here;
      behind = record {
        slots = record { within = omega (arith, moves.long); held = tt };
        leaves = true;
        frames = goes_on-moves (tables_in w.loaded) (steps_of w.loaded) (now_here w) here block true frame k limit frame (omega arith) (omega arith) moves (ends-pass w v a m passes within) is.call.frames;
      };
      leaves = record { is_last = λ h. refl; is_given = λ none out. is.call.returns predicate; is_value = λ t h. absurd cc };
      frames = refl;
      agrees = agrees-pass w v a m es passes stack within is.agrees;
    }

pub fact-stands : {M : Type 0} (w : World M) (v u : StoreView M) (a : ArenasView M) (p base frame number : ℕ) (called : Called) (cs : List ClauseTree) (s before : State) (k : List Frame) (es all : List EntryData) (again : Bool) (now : Now) →
    CallIs w p base frame number called cs s k es again → called.function ≡ false → StackAfter w v a es all → open_level 0 all ≡ open_level 0 es → Keeps v u → LeftBy before u.now.state →
    GoesOnTo before u.now.state (record { place = 0; count = 0; base = base; frame = frame }) now → Stands (moved w u a) now (config (settling before u.now.state no_goals [] k) all)
fact-stands w v u a p base frame number called cs s before k es all again now is predicate after opens keeps left goes =
    let point : Point = record { place = 0; count = 0; base = base; frame = frame } in
    let w1 : World _ = moved w v a in
    let entries : StackStands w1 all =
    record {
      code = code-keeps w.loaded.code (tables_in w.loaded) w.store.names v.names w.loaded.preds (λ i name has. after.passes.stays.keeps.names i name has) is.code;
      state = subst Rests (sym after.passes.stays.state) is.state;
      tables = λ i t has. keeps-terms w.store v after.passes.stays.keeps i t (is.tables i t has);
      level = after.passes.level ∙ is.level ∙ sym opens;
      kept = after.kept;
      stack = after.stack;
    } in
    let runs : GoingIs w1 point no_goals [] k = nothing-goes w v a after.below p base frame number called cs s k es again is predicate after.passes after.under in
    let writes : Writes runs.block (between v u a a) [] u.now.state = writes-kept runs.block v u a [] keeps runs.behind.slots in
    record {
      entries = lies-moved w1 u a runs.block [] u.now.state all writes (stack-lies w1 all entries);
      runs = goes-on-to (moved w u a) point before no_goals [] k now left (going-moved w1 u a point no_goals [] [] u.now.state k all entries runs writes) goes;
    }

-- ---- what is left of a call

-- the newest entry is gone
pub newest-gone : {M : Type 0} (a b : ArenasView M) → DropsNewest a b → Drops a b (length a.entries - 1)
newest-gone a b d =
    record {
      entries = d.drops.entries;
      kept = d.drops.kept;
      slots = d.slots;
      keeps = d.drops.keeps;
      frames = d.drops.frames_are ∙ take_all (length a.frames) a.frames (omega arith);
      level = d.level;
      collected = d.drops.collected;
    }

none-left : {M : Type 0} (w : World M) (b : ArenasView M) (p base frame number : ℕ) (called : Called) (cs : List ClauseTree) (s : State) (k : List Frame) (es : List EntryData) (again known : Bool) → again ≡ known →
    CallIs w p base frame number called cs s k es again → (again ≡ true → DropsNewest w.arenas b) → (again ≡ false → b ≡ w.arenas) → StackAfter w w.store b es es
none-left w b p base frame number called cs s k es again true known is gone stays = entry-gone w b p base frame number called cs s k es again is known (newest-gone w.arenas b (gone known))
none-left w b p base frame number called cs s k es again false known is gone stays =
    subst (λ a. StackAfter w w.store a es es) (sym (stays known)) (entry-none w p base frame number called cs s k es again is known)

-- no fact is left: the entry of the call is gone, if it had one
pub facts-end : {M : Type 0} (w : World M) (v : StoreView M) (b : ArenasView M) (p base frame number : ℕ) (ts : Trees) (cs : List ClauseTree) (s : State) (k : List Frame) (es : List EntryData) (again : Bool) →
    CallIs w p base frame number (record { function = false; args = ts }) cs s k es again → Stays w.store v → (again ≡ true → DropsNewest w.arenas b) → (again ≡ false → b ≡ w.arenas) → from_unifying ts s cs ≡ [] →
    Stands (moved w v b) Now.Failing (try_facts ts cs (back_to [] s k) es)
facts-end w v b p base frame number ts cs s k es again is stays gone same none =
    let called : Called = record { function = false; args = ts } in
    let after : CallIs (moved w v w.arenas) p base frame number called cs s k es again = call-stays w v p base frame number called cs s k es again stays is in
    subst (Stands (moved w v b) Now.Failing) (sym (facts-none ts cs (back_to [] s k) es none))
    (call-ended (moved w v w.arenas) b p base frame number called cs s k es again after (none-left (moved w v w.arenas) b p base frame number called cs s k es again again refl after gone same))

-- facts of the call from a number on
drop-from : (cs : List ClauseTree) (first from number : ℕ) → first ≤ from → from ≤ number → drop (number - from) (drop (from - first) cs) ≡ drop (number - first) cs
drop-from cs first from number low more = drop-drop (number - from) (from - first) cs ∙ ap (λ n. drop n cs) (omega (arith, low, more))

-- a call goes on with the facts from a number on
abbrev later-call : {M : Type 0} (w : World M) (h : Here) (p base frame from number : ℕ) (called : Called) (cs ds : List ClauseTree) (k : List Frame) →
    (is : CallStands w.loaded h base frame p from called cs k) → is.call.predicate.first ≤ number → ds ≡ drop (number - is.call.predicate.first) is.call.pred.clauses → CallStands w.loaded h base frame p number called ds k
later-call w h p base frame from number called cs ds k is low are =
    record {
      call = record {
        pred = is.call.pred;
        predicate = is.call.predicate;
        is_pred = is.call.is_pred;
        is_predicate = is.call.is_predicate;
        function = is.call.function;
        args = is.call.args;
        from = low;
        rules = are;
      };
      frames = is.frames;
      returns = is.returns;
      alone = is.alone;
    }

-- ---- which predicate it is

one-pred : (r : Option PredTree) (p q : PredTree) → r ≡ Some p → r ≡ Some q → p ≡ q
one-pred r p q h k = cc

one-predicate : (r : Option Predicate) (p q : Predicate) → r ≡ Some p → r ≡ Some q → p ≡ q
one-predicate r p q h k = cc

rules-of : (cs : List ClauseTree) (from : ℕ) (one pred : PredTree) (two predicate : Predicate) → one ≡ pred → two ≡ predicate → cs ≡ drop (from - two.first) one.clauses → cs ≡ drop (from - predicate.first) pred.clauses
rules-of cs from one pred two predicate same also rules = rules ∙ ap (λ q. drop (from - q.first) one.clauses) also ∙ ap (λ r. drop (from - predicate.first) r.clauses) same

-- the facts that are left
pub facts-left : {M : Type 0} (w : World M) (p base frame from : ℕ) (called : Called) (cs : List ClauseTree) (s : State) (k : List Frame) (es : List EntryData) (again : Bool) (pred : PredTree) (predicate : Predicate) →
    CallIs w p base frame from called cs s k es again → slice_get w.loaded.preds p ≡ Some pred → slice_get w.loaded.code.predicates.items p ≡ Some predicate → cs ≡ drop (from - predicate.first) pred.clauses
facts-left w p base frame from called cs s k es again pred predicate is at there =
    rules-of cs from is.call.call.pred pred is.call.call.predicate predicate (one-pred (slice_get w.loaded.preds p) is.call.call.pred pred is.call.call.is_pred at)
    (one-predicate (slice_get w.loaded.code.predicates.items p) is.call.call.predicate predicate is.call.call.is_predicate there) is.call.call.rules

-- an entry for the facts from a number on
later-made : {M : Type 0} (w : World M) (p base frame from number : ℕ) (ts : Trees) (cs ds : List ClauseTree) (s : State) (k : List Frame) (pred : PredTree) (predicate : Predicate) →
    slice_get w.loaded.preds p ≡ Some pred → slice_get w.loaded.code.predicates.items p ≡ Some predicate → predicate.first ≤ number → ds ≡ drop (number - predicate.first) pred.clauses →
    Makes w p base frame from (record { function = false; args = ts }) cs s k (Kind.Facts p number) (choice (facts_left ts ds) (back_to [] s k))
later-made w p base frame from number ts cs ds s k pred predicate at there low are = λ h slots stands over.
    let same : pred ≡ stands.call.pred = one-pred (slice_get w.loaded.preds p) pred stands.call.pred at stands.call.is_pred in
    let also : predicate ≡ stands.call.predicate = one-predicate (slice_get w.loaded.code.predicates.items p) predicate stands.call.predicate there stands.call.is_predicate in
    facts_kind (later-call w h p base frame from number (record { function = false; args = ts }) cs ds k stands (omega (arith, low, ap (λ q. q.first) also)) (rules-of ds number pred stands.call.pred predicate stands.call.predicate same also are)) over refl

-- ---- a fact that unifies is taken

-- the stack once the call's entry waits for what is left
record Kept {M : Type 0} (w : World M) (x : StoreView M) (b : ArenasView M) (ts : Trees) (ds : List ClauseTree) (s : State) (k : List Frame) (es : List EntryData) : Type 0 where
  pub after : StackAfter w x b es (later_facts ts ds (back_to [] s k) es)
  pub opens : open_level 0 (later_facts ts ds (back_to [] s k) es) ≡ open_level 0 es

later-kept : {M : Type 0} (w : World M) (x : StoreView M) (b : ArenasView M) (p base frame from number slots : ℕ) (pred : PredTree) (predicate : Predicate) (ts : Trees) (cs : List ClauseTree) (s : State) (k : List Frame) (es : List EntryData) (again : Bool) (next : Option ℕ) →
    (is : CallIs w p base frame from (record { function = false; args = ts }) cs s k es again) → slice_get w.loaded.preds p ≡ Some pred → slice_get w.loaded.code.predicates.items p ≡ Some predicate → slots ≡ base + is.call.call.pred.arity → predicate.first ≤ number →
    IsNext ts s (numbered pred.clauses predicate.first predicate.end) number next → LeavesLater w.order (between w.store x w.arenas b) (call_at p base frame) slots again next → Kept w x b ts (from_unifying ts s (drop (number - predicate.first) pred.clauses)) s k es
unfolding open_level
later-kept w x b p base frame from number slots pred predicate ts cs s k es again None is at there fits low none leaves =
    subst (λ ds. Kept w x b ts ds s k es) (sym none)
    (record {
      after = subst (λ v. StackAfter w v b es es) (sym leaves.0) (none-left w b p base frame from (record { function = false; args = ts }) cs s k es again again refl is leaves.1 leaves.2);
      opens = refl;
    })
later-kept w x b p base frame from number slots pred predicate ts cs s k es again (Some n) is at there fits low first leaves =
    subst (λ ds. Kept w x b ts ds s k es) (sym first.found)
    (record {
      after = stack-kept w x b base (Kind.Facts p n) (choice (facts_left ts (first.fact ∷ first.behind)) (back_to [] s k)) es
          (call-kept w x b p base frame from slots (record { function = false; args = ts }) cs s k es again (Kind.Facts p n) (choice (facts_left ts (first.fact ∷ first.behind)) (back_to [] s k)) is fits
          (later-made w p base frame from n ts cs (first.fact ∷ first.behind) s k pred predicate at there (omega (arith, low, first.from_on)) (sym first.here)) tt leaves);
      opens = refl;
    })

told-by : (o : Option State) (r : State) (one : Bool) (s : State) → o ≡ Some r → Answers o one s → (one ≡ true) × (s ≡ r)
told-by None r one s is told = absurd cc
told-by (Some q) r one s is told = (told.0, told.1 ∙ some-one q r is)
  where
    some-one : (q r : State) → Some q ≡ Some r → q ≡ r
    some-one q r h = cc

behind-of : (cs behind : List ClauseTree) (c : ClauseTree) (first number : ℕ) → first ≤ number → drop (number - first) cs ≡ c ∷ behind → behind ≡ drop (number + 1 - first) cs
behind-of cs behind c first number low here = sym (ap (drop 1) here) ∙ drop-drop 1 (number - first) cs ∙ ap (λ n. drop n cs) (omega (arith, low))

pub fact-taken : {M : Type 0} (w : World M) (v x u : StoreView M) (b : ArenasView M) (p base frame from number slots : ℕ) (pred : PredTree) (predicate : Predicate) (ts : Trees) (cs : List ClauseTree) (s : State) (k : List Frame) (es : List EntryData) (again : Bool)
    (next : Option ℕ) (one : Bool) (now : Now) → (is : CallIs w p base frame from (record { function = false; args = ts }) cs s k es again) → s ≡ w.store.now.state → Stays w.store v → slice_get w.loaded.preds p ≡ Some pred → slice_get w.loaded.code.predicates.items p ≡ Some predicate →
    predicate.first ≤ from → slots ≡ base + is.call.call.pred.arity → (found : IsFirst ts s (numbered pred.clauses predicate.first predicate.end) from number) → IsNext ts s (numbered pred.clauses predicate.first predicate.end) (number + 1) next →
    LeavesLater w.order (between v x w.arenas b) (call_at p base frame) slots again next → Keeps x u → Answers (with_fact ts x.now.state found.fact) one u.now.state → (one ≡ true → LeftBy x.now.state u.now.state) →
    NextAfter one x.now.state u.now.state (record { place = 0; count = 0; base = base; frame = frame }) now → Stands (moved w u b) now (try_facts ts cs (back_to [] s k) es)
fact-taken w v x u b p base frame from number slots pred predicate ts cs s k es again next one now is same stays at there low fits found later leaves keeps answers left comes =
    let called : Called = record { function = false; args = ts } in
    let point : Point = record { place = 0; count = 0; base = base; frame = frame } in
    let w1 : World _ = moved w v w.arenas in
    let is1 : CallIs w1 p base frame from called cs s k es again = call-stays w v p base frame from called cs s k es again stays is in
    let kept : Kept w1 x b ts (from_unifying ts s (drop (number + 1 - predicate.first) pred.clauses)) s k es =
    later-kept w1 x b p base frame from (number + 1) slots pred predicate ts cs s k es again next is1 at there fits (omega (arith, low, found.from_on)) later leaves in
    let here : x.now.state ≡ s = kept.after.passes.stays.state ∙ stays.state ∙ sym same in
    let told : (one ≡ true) × (u.now.state ≡ found.state) = told-by (with_fact ts x.now.state found.fact) found.state one u.now.state (ap (λ q. with_fact ts q found.fact) here ∙ found.unifies) answers in
    let rest : List ClauseTree = from_unifying ts s (drop (number + 1 - predicate.first) pred.clauses) in
    let behind : found.behind ≡ drop (number + 1 - predicate.first) pred.clauses = behind-of pred.clauses found.behind found.fact predicate.first number (omega (arith, low, found.from_on)) found.here in
    let whole : try_facts ts cs (back_to [] s k) es ≡ config (settling s found.state no_goals [] k) (later_facts ts rest (back_to [] s k) es) =
    facts-some ts cs found.behind found.fact found.state (back_to [] s k) es (ap (from_unifying ts s) (facts-left w p base frame from called cs s k es again pred predicate is at there) ∙ found.found) found.unifies
    ∙ ap (λ ds. config (settling s found.state no_goals [] k) (later_facts ts (from_unifying ts s ds) (back_to [] s k) es)) behind in
    subst (Stands (moved w u b) now) (sym whole)
    (subst (λ r. Stands (moved w u b) now (config (settling s r no_goals [] k) (later_facts ts rest (back_to [] s k) es))) told.1
    (fact-stands w1 x u b p base frame from called cs s s k es (later_facts ts rest (back_to [] s k) es) again now is1 refl kept.after kept.opens keeps
    (subst (λ q. LeftBy q u.now.state) here (left told.0))
    (subst (λ q. GoesOnTo q u.now.state point now) here (subst (λ q. NextAfter q x.now.state u.now.state point now) told.0 comes))))
