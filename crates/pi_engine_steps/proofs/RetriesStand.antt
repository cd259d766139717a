-- Rules that are tried again, where the newest entry is the call's.
use Rattle.std.proofs.Common.{◌≡◌, ℕ, ◌+◌, ◌-◌, ◌≤◌, ◌<◌, min, true, List, [], ◌∷◌, Some, length, drop, refl, sym, ◌∙◌, ap, subst, arith}
use Rattle.std.specs.Prelude.{slice_get}
use Rattle.std.proofs.lemmas.List.{length-drop, drop-drop}
use Rattle.pi_terms.specs.Tree.{Tree}
use Rattle.pi_constraints.specs.State.{State}
use Rattle.pi_core.specs.CoreTree.{ClauseTree}
use Rattle.pi_engine_arenas.specs.declared.arenas.Back.{Back}
use Rattle.pi_engine_arenas.specs.declared.arenas.Kind.{Kind}
use Rattle.pi_engine_arenas.specs.declared.arenas.Strict.{Strict as StrictKind}
use Rattle.pi_engine_code.specs.declared.code.Predicate.{Predicate}
use Rattle.pi_engine_arenas.specs.declared.run.Now.{Now}
use Rattle.pi_engine_arenas.specs.declared.frames.Call.{Call}
use Rattle.pi_engine_arenas.specs.Arenas.{entry_at, slots_kept_by}
use Rattle.pi_engine_arenas.specs.declared.arenas.Entry.{Entry}
use Rattle.pi_meaning.specs.Machine.Configuration.{Frame, Called, Entry as EntryData, choice, rules_left, Strict, strict, guard_level, Back as BackData}
use Rattle.pi_meaning.specs.Machine.Step.{silently, try_rules, back_to, end_step, fail_step}
use Rattle.pi_engine_stands.specs.Here.{Here, HoldsArguments, GoesOn}
use Rattle.pi_engine_stands.specs.Stands.{World, Loaded, tables_in, steps_of, entries_of, now_here, back_here, agrees_from, IsPredicateOf, IsCall, CallStands, KindIs, rules_kind, facts_kind, branches_kind, alternatives_kind, once_kind, not_kind, if_kind, guard_kind, apply_kind, collect_kind, count_kind, search_kind, catch_kind, exit_kind, EntryIs, StackIs, Stands}
use Rattle.pi_engine_stands.specs.Tries.{own_entry, CallIs, TriesRules}
use Rattle.pi_engine_stands.specs.Fails.{ComesTo, IsBack}
use Rattle.pi_terms.proofs.ListLemmas.{take-take}
use Rattle.pi_terms.proofs.OptionLemmas.{one-some}
use Rattle.pi_engine_stands.proofs.BasesStand.{block-above, level-begins}
use Rattle.pi_engine_stands.proofs.BackStand.{back-agrees, back-rests}
use Rattle.pi_engine_stands.specs.Changes.{change}
use Rattle.pi_engine_arenas.specs.Frames.{call_at}

-- what is there agrees with an entry that was come back to just now
pub agrees-itself : {M : Type 0} (w : World M) (x : Entry M) → now_here w ≡ back_here w x → x.back.base ≤ length (back_here w x).slots → agrees_from w (Some x) (now_here w)
agrees-itself w x here within =
    subst (λ h. agrees_from w (Some x) h) (sym here) (λ n t is. is, refl, within, take-take x.back.frames x.back.frames w.arenas.frames (omega arith))

-- the call of an entry that was come back to
abbrev pub again : {M : Type 0} (w : World M) (back : Back) (y : EntryData) (es : List EntryData) (it : IsBack w back y es) (p r : ℕ) (called : Called) (cs : List ClauseTree) (k : List Frame) → it.from ≡ length w.arenas.collected →
    (stands : CallStands w.loaded (back_here w it.entry) it.entry.back.base it.entry.back.frame p r called cs k) → it.entry.back.blocks.slots ≤ it.entry.back.base + stands.call.pred.arity →
    CallIs w p it.entry.back.base it.entry.back.frame r called cs w.store.now.state k es true
again w back y es it p r called cs k none stands over =
    let x : Entry _ = it.entry in
    let top : ℕ = length w.arenas.collected in
    let level : w.arenas.level ≡ x.back.level = it.level ∙ ap (λ q. q.level) (sym it.back_is) in
    record {
      code = it.code;
      state = back-rests w back _ es it;
      tables = it.tables;
      level = level ∙ it.is.level;
      kept = it.kept;
      call = record {
        call = record {
          pred = stands.call.pred;
          predicate = stands.call.predicate;
          is_pred = stands.call.is_pred;
          is_predicate = stands.call.is_predicate;
          function = stands.call.function;
          from = stands.call.from;
          rules = stands.call.rules;
        };
        fits = subst (λ h. x.back.base + stands.call.pred.arity ≤ length h.slots) (sym it.here) stands.call.args.within;
        frames = subst (λ h. GoesOn (tables_in w.loaded) (steps_of w.loaded) h (record { base = x.back.base; first = stands.call.pred.arity; count = 0 }) true x.back.frame k) (sym it.here) stands.frames;
        returns = stands.returns;
        alone = stands.alone;
      };
      agrees = back-agrees w back y es it;
      over = omega (arith, over, it.kept, ap slots_kept_by (ap (entry_at (entries_of w)) it.count ∙ it.at));
      inside = λ z found. omega (
        arith,
        level-begins w.loaded z (entry_at (entries_of w) x.back.level) x.back.base (ap (entry_at (entries_of w)) (sym level) ∙ found)
            (block-above (tables_in w.loaded) (steps_of w.loaded) (back_here w x) (record { base = x.back.base; first = stands.call.pred.arity; count = 0 }) true x.back.frame k stands.frames),
      );
      entry = own_entry (record {
        below = it.below;
        entry = x;
        stood = y;
        all = it.count;
        at = it.at;
        is = subst (λ n. EntryIs w es (entry_at (entries_of w) it.below) n top x y) none it.is;
        begins = refl;
        goes_on = refl;
        state = sym it.now;
        call = stands;
        over = over;
        agrees = agrees-itself w x it.here (omega (arith, stands.call.args.within));
        stack = subst (λ n. StackIs w it.below n es) none it.stack;
      });
    }

-- its rules from one on are tried
again-tried : {M : Type 0} (w after : World M) (back : Back) (y : EntryData) (es : List EntryData) (it : IsBack w back y es) (p r : ℕ) (called : Called) (cs : List ClauseTree) (k : List Frame) (now : Now) → it.from ≡ length w.arenas.collected →
    (stands : CallStands w.loaded (back_here w it.entry) it.entry.back.base it.entry.back.frame p r called cs k) → it.entry.back.blocks.slots ≤ it.entry.back.base + stands.call.pred.arity →
    TriesRules (call_at p back.base back.frame) r true (change w after now) → Stands after now (try_rules called cs (back_to [] (w.store.at_mark it.entry.mark).state k) es)
again-tried w after back y es it p r called cs k now none stands over tries =
    subst (λ s. Stands after now (try_rules called cs (back_to [] s k) es)) it.now
    (subst (λ q. TriesRules (call_at p q.base q.frame) r true (change w after now)) (sym it.back_is) tries called cs w.store.now.state k es (again w back y es it p r called cs k none stands over)
    (subst (λ h. HoldsArguments h.terms h.slots it.entry.back.base stands.call.pred.arity called.args) (sym it.here) stands.call.args) refl)

-- ---- the rules that are left

record RulesShape (l : Loaded) (h : Here) (t : State) (base frame slots from to p r : ℕ) (y : EntryData) : Type 0 where
  pub called : Called
  pub rules : List ClauseTree
  pub frames : List Frame
  pub stands : CallStands l h base frame p r called rules frames
  pub over : slots ≤ base + stands.call.pred.arity
  pub one : from ≡ to
  pub is : y ≡ choice (rules_left called rules) (back_to [] t frames)

rules-shape : (l : Loaded) (c : List Tree) (h : Here) (t : State) (base frame slots from to p r : ℕ) (kind : Kind) (y : EntryData) → kind ≡ Kind.Rules p r → KindIs l c h t base frame slots from to kind y → RulesShape l h t base frame slots from to p r y
rules-shape l c h t base frame slots from to p r kind y named (rules_kind {p = q} {r = n} {called = called} {cs = cs} {k = k} stands over one) =
    let same : q ≡ p = cc in
    let rule : n ≡ r = cc in
    subst (λ m. RulesShape l h t base frame slots from to p m (choice (rules_left called cs) (back_to [] t k))) rule
    (subst (λ m. RulesShape l h t base frame slots from to m n (choice (rules_left called cs) (back_to [] t k))) same
    (record { called = called; rules = cs; frames = k; stands = stands; over = over; one = one; is = refl }))
rules-shape l c h t base frame slots from to p r kind y named (facts_kind stands over one) = absurd cc
rules-shape l c h t base frame slots from to p r kind y named (branches_kind is at here last count one) = absurd cc
rules-shape l c h t base frame slots from to p r kind y named (alternatives_kind own are one) = absurd cc
rules-shape l c h t base frame slots from to p r kind y named (once_kind own one) = absurd cc
rules-shape l c h t base frame slots from to p r kind y named (not_kind own one) = absurd cc
rules-shape l c h t base frame slots from to p r kind y named (if_kind own one) = absurd cc
rules-shape l c h t base frame slots from to p r kind y named (guard_kind call fits one) = absurd cc
rules-shape l c h t base frame slots from to p r kind y named (apply_kind own free args fit one) = absurd cc
rules-shape l c h t base frame slots from to p r kind y named (collect_kind own order some) = absurd cc
rules-shape l c h t base frame slots from to p r kind y named (count_kind own one) = absurd cc
rules-shape l c h t base frame slots from to p r kind y named (search_kind own labels held fit order one) = absurd cc
rules-shape l c h t base frame slots from to p r kind y named (catch_kind own stays one) = absurd cc
rules-shape l c h t base frame slots from to p r kind y named (exit_kind one) = absurd cc

rules-step : (y : EntryData) (called : Called) (cs : List ClauseTree) (b : BackData) (es : List EntryData) → y ≡ choice (rules_left called cs) b → fail_step (y ∷ es) ≡ silently (try_rules called cs b es)
unfolding fail_step
rules-step y called cs b es is = ap (λ q. fail_step (q ∷ es)) is

-- what is told of the call of an entry
pub tries-of : {M : Type 0} (w after : World M) (back : Back) (call : Call) (p r : ℕ) (now : Now) → call.predicate ≡ p → call.base ≡ back.base → call.frame ≡ back.frame →
    TriesRules call r true (change w after now) → TriesRules (call_at p back.base back.frame) r true (change w after now)
tries-of w after back call p r now one two three tries =
    subst (λ n. TriesRules (call_at n back.base back.frame) r true (change w after now)) one
    (subst (λ n. TriesRules (call_at call.predicate n back.frame) r true (change w after now)) two
    (subst (λ n. TriesRules (call_at call.predicate call.base n) r true (change w after now)) three tries))

pub rules-retried : {M : Type 0} (w after : World M) (back : Back) (p r : ℕ) (y : EntryData) (es : List EntryData) (now : Now) → back.kind ≡ Kind.Rules p r → IsBack w back y es → TriesRules (call_at p back.base back.frame) r true (change w after now) →
    ComesTo after now (fail_step (y ∷ es))
rules-retried w after back p r y es now named it tries =
    let x : Entry _ = it.entry in
    let top : ℕ = length w.arenas.collected in
    let shape : RulesShape w.loaded (back_here w x) (w.store.at_mark x.mark).state x.back.base x.back.frame x.back.blocks.slots it.from top p r y =
    rules-shape w.loaded w.arenas.collected (back_here w x) (w.store.at_mark x.mark).state x.back.base x.back.frame x.back.blocks.slots it.from top p r x.back.kind y (ap (λ q. q.kind) it.back_is ∙ named) it.is.kind in
    subst (ComesTo after now) (sym (rules-step y shape.called shape.rules (back_to [] (w.store.at_mark x.mark).state shape.frames) es shape.is))
    (again-tried w after back y es it p r shape.called shape.rules shape.frames now shape.one shape.stands shape.over tries)

-- ---- the rules behind one whose condition has no answer

one-less : (c : ClauseTree) (cs : List ClauseTree) (n : ℕ) (xs : List ClauseTree) → c ∷ cs ≡ drop n xs → (cs ≡ drop (n + 1) xs) × (n < length xs)
one-less c cs n xs is = (
  ap (drop 1) is ∙ drop-drop 1 n xs,
  omega (arith, ap length is, length-drop n xs),
)

record GuardShape (l : Loaded) (h : Here) (t : State) (base frame slots from to p r : ℕ) (s : Strict) (b : BackData) : Type 0 where
  pub called : Called
  pub clause : ClauseTree
  pub rules : List ClauseTree
  pub frames : List Frame
  pub stands : CallStands l h base frame p r called (clause ∷ rules) frames
  pub over : slots ≤ base + stands.call.pred.arity
  pub one : from ≡ to
  pub level : s ≡ guard_level called clause rules
  pub back_is : b ≡ back_to [] t frames

guard-shape : (l : Loaded) (c : List Tree) (h : Here) (t : State) (base frame slots from to p r : ℕ) (kind : Kind) (s : Strict) (b : BackData) → kind ≡ Kind.Strict (StrictKind.Guard p r) → KindIs l c h t base frame slots from to kind (strict s b) →
    GuardShape l h t base frame slots from to p r s b
guard-shape l c h t base frame slots from to p r kind s b named (once_kind own one) = absurd cc
guard-shape l c h t base frame slots from to p r kind s b named (not_kind own one) = absurd cc
guard-shape l c h t base frame slots from to p r kind s b named (if_kind own one) = absurd cc
guard-shape l c h t base frame slots from to p r kind s b named (guard_kind {p = q} {r = n} {called = called} {c = clause} {cs = cs} {k = k} stands over one) =
    let same : q ≡ p = cc in
    let rule : n ≡ r = cc in
    subst (λ m. GuardShape l h t base frame slots from to p m (guard_level called clause cs) (back_to [] t k)) rule
    (subst (λ m. GuardShape l h t base frame slots from to m n (guard_level called clause cs) (back_to [] t k)) same
    (record { called = called; clause = clause; rules = cs; frames = k; stands = stands; over = over; one = one; level = refl; back_is = refl }))
guard-shape l c h t base frame slots from to p r kind s b named (apply_kind own free args fit one) = absurd cc
guard-shape l c h t base frame slots from to p r kind s b named (collect_kind own order some) = absurd cc
guard-shape l c h t base frame slots from to p r kind s b named (count_kind own one) = absurd cc
guard-shape l c h t base frame slots from to p r kind s b named (search_kind own labels held fit order one) = absurd cc

guard-step : (s : Strict) (called : Called) (c : ClauseTree) (cs : List ClauseTree) (b d : BackData) (es : List EntryData) → s ≡ guard_level called c cs → b ≡ d → end_step s b es ≡ try_rules called cs d es
unfolding end_step
guard-step s called c cs b d es level back = ap (λ q. end_step q b es) level ∙ ap (λ q. end_step (guard_level called c cs) q es) back

pub guard-retried : {M : Type 0} (w after : World M) (back : Back) (p r next end : ℕ) (s : Strict) (b : BackData) (es : List EntryData) (now : Now) → back.kind ≡ Kind.Strict (StrictKind.Guard p r) → IsBack w back (strict s b) es →
    ((q : Predicate) → slice_get w.loaded.code.predicates.items p ≡ Some q → end ≡ q.end) → end < 4294967296 → next ≡ min (min (r + 1) 4294967295) end → TriesRules (call_at p back.base back.frame) next true (change w after now) →
    Stands after now (end_step s b es)
guard-retried w after back p r next end s b es now named it finds small following tries =
    let x : Entry _ = it.entry in
    let top : ℕ = length w.arenas.collected in
    let t : State = (w.store.at_mark x.mark).state in
    let shape : GuardShape w.loaded (back_here w x) t x.back.base x.back.frame x.back.blocks.slots it.from top p r s b =
    guard-shape w.loaded w.arenas.collected (back_here w x) t x.back.base x.back.frame x.back.blocks.slots it.from top p r x.back.kind s b (ap (λ q. q.kind) it.back_is ∙ named) it.is.kind in
    let call : IsCall w.loaded (back_here w x) x.back.base p r shape.called (shape.clause ∷ shape.rules) = shape.stands.call in
    let end_is : end ≡ call.predicate.end = finds call.predicate call.is_predicate in
    let less : (shape.rules ≡ drop (r - call.predicate.first + 1) call.pred.clauses) × (r - call.predicate.first < length call.pred.clauses) = one-less shape.clause shape.rules (r - call.predicate.first) call.pred.clauses call.rules in
    let there : (p' : Predicate) × (slice_get w.loaded.code.predicates.items p ≡ Some p') × IsPredicateOf w.loaded.code (tables_in w.loaded) w.store.names call.pred p' = it.code.predicates p call.pred call.is_pred in
    let ends : call.predicate.end ≡ call.predicate.first + length call.pred.clauses =
    subst (λ (z : Predicate). z.end ≡ z.first + length call.pred.clauses) (one-some (slice_get w.loaded.code.predicates.items p) there.0 call.predicate there.1 call.is_predicate) there.2.rules in
    let next_is : next ≡ r + 1 = omega (arith, following, small, end_is, ends, less.1, call.from) in
    let later : r - call.predicate.first + 1 ≡ r + 1 - call.predicate.first = omega (arith, call.from) in
    subst (Stands after now) (sym (guard-step s shape.called shape.clause shape.rules b (back_to [] t shape.frames) es shape.level shape.back_is))
    (again-tried w after back (strict s b) es it p (r + 1) shape.called shape.rules shape.frames now shape.one
    (record {
      call = record {
        pred = call.pred;
        predicate = call.predicate;
        is_pred = call.is_pred;
        is_predicate = call.is_predicate;
        function = call.function;
        args = call.args;
        from = omega (arith, call.from);
        rules = less.0 ∙ ap (λ m. drop m call.pred.clauses) later;
      };
      frames = shape.stands.frames;
      returns = shape.stands.returns;
      alone = shape.stands.alone;
    }) shape.over (subst (λ m. TriesRules (call_at p back.base back.frame) m true (change w after now)) next_is tries))
