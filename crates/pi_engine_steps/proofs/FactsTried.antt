-- The facts of a call that are tried, from what the calls of the code say.
use Rattle.std.proofs.Common.{◌≡◌, ℕ, zero, suc, ◌+◌, ◌-◌, ◌≤◌, ◌<◌, Bool, true, false, List, [], ◌∷◌, Option, Some, None, length, drop, take, map, refl, sym, ◌∙◌, ap, subst, arith}
use Rattle.std.specs.Prelude.{slice_get, is_some, cond}
use Rattle.std.specs.List.{list_any}
use Rattle.std.proofs.lemmas.List.{length-map, length-drop}
use Rattle.pi_terms.specs.Tree.{Tree, Trees, comp}
use Rattle.pi_constraints.specs.State.{State, bindings, IsState}
use Rattle.pi_engine_stands.specs.Rests.{Rests}
use Rattle.pi_constraints.specs.Store.{StoreView, IsTerm, AreTerms, Stays}
use Rattle.pi_constraints.specs.declared.store.Ref.{Ref}
use Rattle.pi_core.specs.CoreTree.{ClauseTree, PredTree, clause_tree, pred_tree}
use Rattle.pi_core.specs.declared.core_program.CoreClause.{CoreClause}
use Rattle.pi_core.specs.declared.core_program.CorePred.{CorePred}
use Rattle.pi_unify.specs.Answers.{Answers}
use Rattle.pi_meaning.specs.CoreMeaning.Facts.{fits_modes}
use Rattle.pi_syntax.specs.declared.program.Mode.{Mode}
use Rattle.pi_engine_code.specs.Code.{preds_of}
use Rattle.pi_engine_code.specs.declared.code.Predicate.{Predicate}
use Rattle.pi_engine_code.specs.declared.code.Code.{Code}
use Rattle.pi_constraints.specs.Value.{IsAcyclic}
use Rattle.pi_engine_arenas.specs.Arenas.{ArenasView, DropsNewest, between, keeping}
use Rattle.pi_engine_arenas.specs.declared.arenas.Back.{Back}
use Rattle.pi_engine_arenas.specs.declared.arenas.Kind.{Kind}
use Rattle.pi_engine_arenas.specs.declared.arenas.Entry.{Entry}
use Rattle.pi_engine_arenas.specs.declared.run.Now.{Now}
use Rattle.pi_meaning.specs.Machine.Configuration.{Frame, Called, config, failed, choice, facts_left, in_places, Back as BackData, Entry as EntryData}
use Rattle.pi_meaning.specs.Machine.Step.{with_fact, from_unifying, silently, fail_step, try_facts, try_rules, try_clauses, back_to}
use Rattle.pi_engine_facts.specs.Trying.{IsFirst, IsNext, numbered}
use Rattle.pi_engine_facts.proofs.TryingLemmas.{next-there}
use Rattle.pi_engine_stands.specs.Here.{Here, AreHeld, HoldsArguments}
use Rattle.pi_engine_stands.specs.Stands.{World, Loaded, tables_in, back_here, IsPredicateOf, CallStands, KindIs, rules_kind, facts_kind, branches_kind, alternatives_kind, once_kind, not_kind, if_kind, guard_kind, apply_kind, collect_kind, count_kind, search_kind, catch_kind, exit_kind, Stands}
use Rattle.pi_engine_stands.specs.Tries.{CallIs, HasArguments, KeepsCall, keeps_new, keeps_own, LeavesLater, TriesFacts}
use Rattle.pi_engine_stands.specs.Fails.{ComesTo, IsBack}
use Rattle.pi_engine_stands.proofs.StandsLemmas.{moved}
use Rattle.pi_engine_stands.proofs.RulesTaken.{predicate-of, entry-none}
use Rattle.pi_engine_stands.proofs.CallsTried.{call-ended}
use Rattle.pi_engine_stands.proofs.MissingStand.{terms-of-held}
use Rattle.pi_engine_stands.proofs.CallEntries.{same-stays}
use Rattle.pi_engine_stands.proofs.FactsStand.{facts-left, facts-end, fact-taken}
use Rattle.pi_engine_arenas.specs.declared.frames.Call.{Call}
use Rattle.pi_engine_steps.specs.Facts.{TakesFact}
use Rattle.pi_engine_steps.proofs.RetriesStand.{again}
use Rattle.pi_engine_stands.specs.Changes.{change}
use Rattle.pi_engine_arenas.specs.Frames.{call_at}

pub same-pred : (o : Option PredTree) (p q : PredTree) → o ≡ Some p → o ≡ Some q → p ≡ q
same-pred o p q h k = cc

same-predicate : (o : Option Predicate) (p q : Predicate) → o ≡ Some p → o ≡ Some q → p ≡ q
same-predicate o p q h k = cc

-- the predicate of a call, by its number
pub there-of : {M : Type 0} (w : World M) (p base frame from : ℕ) (called : Called) (cs : List ClauseTree) (s : State) (k : List Frame) (es : List EntryData) (again : Bool) (predicate : Predicate) → (is : CallIs w p base frame from called cs s k es again) →
    slice_get w.loaded.code.predicates.items p ≡ Some predicate → IsPredicateOf w.loaded.code (tables_in w.loaded) w.store.names is.call.call.pred predicate
there-of w p base frame from called cs s k es again predicate is there =
    subst (IsPredicateOf w.loaded.code (tables_in w.loaded) w.store.names is.call.call.pred) (same-predicate (slice_get w.loaded.code.predicates.items p) is.call.call.predicate predicate is.call.call.is_predicate there)
    (predicate-of w p from called cs is.code is.call.call)

-- ---- rules or facts

pub by-rules : {M : Type 0} (w : World M) (now : Now) (index : Option (List (List Mode))) (ts : Trees) (cs : List ClauseTree) (b : BackData) (es : List EntryData) → is_some index ≡ false → Stands w now (try_rules (record { function = false; args = ts }) cs b es) →
    Stands w now (try_clauses index cs ts b es)
unfolding try_clauses
by-rules w now None ts cs b es not stands = stands
by-rules w now (Some lists) ts cs b es not stands = absurd cc

pub by-facts : {M : Type 0} (w : World M) (now : Now) (index : Option (List (List Mode))) (ts : Trees) (cs : List ClauseTree) (b : BackData) (es : List EntryData) (one : Bool) → is_some index ≡ true →
    ((lists : List (List Mode)) → index ≡ Some lists → one ≡ list_any (λ modes. fits_modes (bindings b.state) modes ts) lists) → Stands w now (cond one (try_facts ts cs b es) (config failed es)) → Stands w now (try_clauses index cs ts b es)
unfolding try_clauses
by-facts w now None ts cs b es one some tells stands = absurd cc
by-facts w now (Some lists) ts cs b es one some tells stands = subst (λ f. Stands w now (cond f (try_facts ts cs b es) (config failed es))) (tells lists refl) stands

pub fits-so : {M : Type 0} (w : World M) (now : Now) (one : Bool) (ts : Trees) (cs : List ClauseTree) (b : BackData) (es : List EntryData) → one ≡ true → Stands w now (try_facts ts cs b es) → Stands w now (cond one (try_facts ts cs b es) (config failed es))
fits-so w now one ts cs b es is stands = subst (λ f. Stands w now (cond f (try_facts ts cs b es) (config failed es))) (sym is) stands

pub fits-not : {M : Type 0} (w : World M) (now : Now) (one : Bool) (ts : Trees) (cs : List ClauseTree) (b : BackData) (es : List EntryData) → one ≡ false → Stands w now (config failed es) → Stands w now (cond one (try_facts ts cs b es) (config failed es))
fits-not w now one ts cs b es is stands = subst (λ f. Stands w now (cond f (try_facts ts cs b es) (config failed es))) (sym is) stands

-- a call that was made just now fails
pub call-fails : {M : Type 0} (w : World M) (p base frame from : ℕ) (called : Called) (cs : List ClauseTree) (s : State) (k : List Frame) (es : List EntryData) → CallIs w p base frame from called cs s k es false → Stands w Now.Failing (config failed es)
call-fails w p base frame from called cs s k es is = call-ended w w.arenas p base frame from called cs s k es false is (entry-none w p base frame from called cs s k es false is refl)

-- ---- the arguments of a call

-- what stands in a call's block
pub terms-held : {M : Type 0} (v : StoreView M) (slots : List (Option Ref)) (base arity : ℕ) (ts : Trees) (rs : List Ref) → HoldsArguments v.now.terms slots base arity ts → map (λ r. Some r) rs ≡ take arity (drop base slots) → AreTerms v rs ts
terms-held v slots base arity ts rs holds are = terms-of-held v rs ts (subst (λ xs. AreHeld v.now.terms xs (in_places ts)) (sym are) holds.held)

-- ---- facts that are tried

there : (ds : List CoreClause) (i : ℕ) → i < length ds → (d : CoreClause) × (slice_get ds i ≡ Some d)
there [] i less = absurd (omega (arith, less))
there (d ∷ ds) zero less = (d, refl)
there (d ∷ ds) (suc i) less = there ds i (omega (arith, less))

same-head : (c d : ClauseTree) (cs ds : List ClauseTree) → c ∷ cs ≡ d ∷ ds → c ≡ d
same-head c d cs ds h = cc

-- the clause of the code that a fact is
item-of : (ds : List CoreClause) (i : ℕ) (c : ClauseTree) (rest : List ClauseTree) → drop i (map clause_tree ds) ≡ c ∷ rest → (d : CoreClause) × (slice_get ds i ≡ Some d) × (clause_tree d ≡ c)
item-of ds i c rest here =
    let less : i < length ds = omega (arith, ap length here, length-drop i (map clause_tree ds), length-map ds clause_tree) in
    let d : (d : CoreClause) × (slice_get ds i ≡ Some d) = there ds i less in
    (d.0, d.1, same-head (clause_tree d.0) c (drop (i + 1) (map clause_tree ds)) rest (sym (next-there ds i d.0 d.1) ∙ here))

-- the same of the clauses of the predicate
abbrev first-of : (ts : Trees) (s : State) (cs ds : List ClauseTree) (first from end number : ℕ) → cs ≡ ds → IsFirst ts s (numbered ds first end) from number → IsFirst ts s (numbered cs first end) from number
first-of ts s cs ds first from end number same found =
    record {
      from_on = found.from_on;
      within = found.within;
      fact = found.fact;
      behind = found.behind;
      here = ap (drop (number - first)) same ∙ found.here;
      state = found.state;
      unifies = found.unifies;
      found = ap (λ xs. from_unifying ts s (drop (from - first) xs)) same ∙ found.found;
    }

pub some-taken : {M : Type 0} (w : World M) (v x u : StoreView M) (b : ArenasView M) (p base frame from number : ℕ) (pred : PredTree) (predicate : Predicate) (facts : List CoreClause) (asked : Ref) (ts : Trees) (cs : List ClauseTree) (s : State) (k : List Frame) (es : List EntryData)
    (again : Bool) (next : Option ℕ) (now : Now) → (is : CallIs w p base frame from (record { function = false; args = ts }) cs s k es again) → slice_get w.loaded.preds p ≡ Some pred → slice_get w.loaded.code.predicates.items p ≡ Some predicate → pred.clauses ≡ map clause_tree facts →
    IsTerm w.store asked (comp [] ts) → s ≡ w.store.now.state → predicate.first ≤ from → Stays w.store v → IsFirst ts s (numbered (map clause_tree facts) predicate.first predicate.end) from number → IsNext ts s (numbered (map clause_tree facts) predicate.first predicate.end) (number + 1) next →
    LeavesLater w.order (between v x w.arenas b) (call_at p base frame) (base + predicate.arity) again next → Stays v x →
    ((d : CoreClause) → slice_get facts (number - predicate.first) ≡ Some d → Rests x.now.state → IsTerm x asked (comp [] ts) → TakesFact x u ts (clause_tree d) (call_at p base frame) now) →
    Stands (moved w u b) now (try_facts ts cs (back_to [] s k) es)
some-taken w v x u b p base frame from number pred predicate facts asked ts cs s k es again next now is at there clauses term same low stays found later leaves also takes =
    let there_is : IsPredicateOf w.loaded.code (tables_in w.loaded) w.store.names is.call.call.pred predicate = there-of w p base frame from (record { function = false; args = ts }) cs s k es again predicate is there in
    let it : (d : CoreClause) × (slice_get facts (number - predicate.first) ≡ Some d) × (clause_tree d ≡ found.fact) = item-of facts (number - predicate.first) found.fact found.behind found.here in
    let state : Rests x.now.state = subst Rests (sym (also.state ∙ stays.state)) is.state in
    let it_takes : TakesFact x u ts (clause_tree it.0) (call_at p base frame) now = takes it.0 it.1 state (also.keeps.terms asked (comp [] ts) (stays.keeps.terms asked (comp [] ts) term)) in
    fact-taken w v x u b p base frame from number (base + predicate.arity) pred predicate ts cs s k es again next it_takes.one now is same stays at there low (ap (λ n. base + n) there_is.arity)
    (first-of ts s pred.clauses (map clause_tree facts) predicate.first from predicate.end number clauses found) (subst (λ ds. IsNext ts s (numbered ds predicate.first predicate.end) (number + 1) next) (sym clauses) later) leaves it_takes.keeps
    (subst (λ c. Answers (with_fact ts x.now.state c) it_takes.one u.now.state) it.2 it_takes.answers) it_takes.left it_takes.next

-- no fact is left that unifies
pub none-taken : {M : Type 0} (w : World M) (v : StoreView M) (b : ArenasView M) (p base frame from : ℕ) (pred : PredTree) (predicate : Predicate) (facts : List CoreClause) (ts : Trees) (cs : List ClauseTree) (s : State) (k : List Frame) (es : List EntryData) (again : Bool) →
    CallIs w p base frame from (record { function = false; args = ts }) cs s k es again → slice_get w.loaded.preds p ≡ Some pred → slice_get w.loaded.code.predicates.items p ≡ Some predicate → pred.clauses ≡ map clause_tree facts → Stays w.store v →
    (again ≡ true → DropsNewest w.arenas b) → (again ≡ false → b ≡ w.arenas) → from_unifying ts s (drop (from - predicate.first) (map clause_tree facts)) ≡ [] → Stands (moved w v b) Now.Failing (try_facts ts cs (back_to [] s k) es)
none-taken w v b p base frame from pred predicate facts ts cs s k es again is at there clauses stays gone same none =
    facts-end w v b p base frame from ts cs s k es again is stays gone same
    (ap (from_unifying ts s) (facts-left w p base frame from (record { function = false; args = ts }) cs s k es again pred predicate is at there ∙ ap (drop (from - predicate.first)) clauses) ∙ none)

-- where a call's facts begin
pub low-of : {M : Type 0} (w : World M) (p base frame from : ℕ) (called : Called) (cs : List ClauseTree) (s : State) (k : List Frame) (es : List EntryData) (again : Bool) (predicate : Predicate) → CallIs w p base frame from called cs s k es again →
    slice_get w.loaded.code.predicates.items p ≡ Some predicate → predicate.first ≤ from
low-of w p base frame from called cs s k es again predicate is there =
    omega (arith, is.call.call.from, ap (λ q. q.first) (same-predicate (slice_get w.loaded.code.predicates.items p) is.call.call.predicate predicate is.call.call.is_predicate there))

pub end-of : {M : Type 0} (w : World M) (p base frame from : ℕ) (called : Called) (cs : List ClauseTree) (s : State) (k : List Frame) (es : List EntryData) (again : Bool) (pred : PredTree) (predicate : Predicate) (facts : List CoreClause) → CallIs w p base frame from called cs s k es again →
    slice_get w.loaded.preds p ≡ Some pred → slice_get w.loaded.code.predicates.items p ≡ Some predicate → pred.clauses ≡ map clause_tree facts → predicate.end ≡ predicate.first + length facts
end-of w p base frame from called cs s k es again pred predicate facts is at there clauses =
    (there-of w p base frame from called cs s k es again predicate is there).rules
    ∙ ap (λ n. predicate.first + n) (ap (λ r. length r.clauses) (same-pred (slice_get w.loaded.preds p) is.call.call.pred pred is.call.call.is_pred at) ∙ ap length clauses ∙ length-map facts clause_tree)

pub fits-end : {M : Type 0} (w : World M) (p base frame from : ℕ) (called : Called) (cs : List ClauseTree) (s : State) (k : List Frame) (es : List EntryData) (again : Bool) (predicate : Predicate) → (is : CallIs w p base frame from called cs s k es again) →
    slice_get w.loaded.code.predicates.items p ≡ Some predicate → base + predicate.arity ≤ length w.arenas.blocks.slots
fits-end w p base frame from called cs s k es again predicate is there = omega (arith, is.call.fits, (there-of w p base frame from called cs s k es again predicate is there).arity)

-- ---- facts that are tried again

record FactsShape (l : Loaded) (h : Here) (t : State) (base frame slots from to p r : ℕ) (y : EntryData) : Type 0 where
  pub args : Trees
  pub facts : List ClauseTree
  pub frames : List Frame
  pub stands : CallStands l h base frame p r (record { function = false; args = args }) facts frames
  pub over : slots ≤ base + stands.call.pred.arity
  pub one : from ≡ to
  pub is : y ≡ choice (facts_left args facts) (back_to [] t frames)

facts-shape : (l : Loaded) (c : List Tree) (h : Here) (t : State) (base frame slots from to p r : ℕ) (kind : Kind) (y : EntryData) → kind ≡ Kind.Facts p r → KindIs l c h t base frame slots from to kind y → FactsShape l h t base frame slots from to p r y
facts-shape l c h t base frame slots from to p r kind y named (rules_kind stands over one) = absurd cc
facts-shape l c h t base frame slots from to p r kind y named (facts_kind {p = q} {r = n} {ts = ts} {cs = cs} {k = k} stands over one) =
    let same : q ≡ p = cc in
    let fact : n ≡ r = cc in
    subst (λ m. FactsShape l h t base frame slots from to p m (choice (facts_left ts cs) (back_to [] t k))) fact
    (subst (λ m. FactsShape l h t base frame slots from to m n (choice (facts_left ts cs) (back_to [] t k))) same
    (record { args = ts; facts = cs; frames = k; stands = stands; over = over; one = one; is = refl }))
facts-shape l c h t base frame slots from to p r kind y named (branches_kind is at here last count one) = absurd cc
facts-shape l c h t base frame slots from to p r kind y named (alternatives_kind own are one) = absurd cc
facts-shape l c h t base frame slots from to p r kind y named (once_kind own one) = absurd cc
facts-shape l c h t base frame slots from to p r kind y named (not_kind own one) = absurd cc
facts-shape l c h t base frame slots from to p r kind y named (if_kind own one) = absurd cc
facts-shape l c h t base frame slots from to p r kind y named (guard_kind call fits one) = absurd cc
facts-shape l c h t base frame slots from to p r kind y named (apply_kind own free args fit one) = absurd cc
facts-shape l c h t base frame slots from to p r kind y named (collect_kind own order some) = absurd cc
facts-shape l c h t base frame slots from to p r kind y named (count_kind own one) = absurd cc
facts-shape l c h t base frame slots from to p r kind y named (search_kind own labels held fit order one) = absurd cc
facts-shape l c h t base frame slots from to p r kind y named (catch_kind own stays one) = absurd cc
facts-shape l c h t base frame slots from to p r kind y named (exit_kind one) = absurd cc

facts-step : (y : EntryData) (ts : Trees) (cs : List ClauseTree) (b : BackData) (es : List EntryData) → y ≡ choice (facts_left ts cs) b → fail_step (y ∷ es) ≡ silently (try_facts ts cs b es)
unfolding fail_step
facts-step y ts cs b es is = ap (λ q. fail_step (q ∷ es)) is

pub facts-retried : {M : Type 0} (w after : World M) (back : Back) (p r : ℕ) (y : EntryData) (es : List EntryData) (now : Now) → back.kind ≡ Kind.Facts p r → IsBack w back y es → TriesFacts (call_at p back.base back.frame) r true (change w after now) → ComesTo after now (fail_step (y ∷ es))
facts-retried w after back p r y es now named it tries =
    let x : Entry _ = it.entry in
    let top : ℕ = length w.arenas.collected in
    let t : State = (w.store.at_mark x.mark).state in
    let shape : FactsShape w.loaded (back_here w x) t x.back.base x.back.frame x.back.blocks.slots it.from top p r y =
    facts-shape w.loaded w.arenas.collected (back_here w x) t x.back.base x.back.frame x.back.blocks.slots it.from top p r x.back.kind y (ap (λ q. q.kind) it.back_is ∙ named) it.is.kind in
    let called : Called = record { function = false; args = shape.args } in
    subst (ComesTo after now) (sym (facts-step y shape.args shape.facts (back_to [] t shape.frames) es shape.is))
    (subst (λ s. Stands after now (try_facts shape.args shape.facts (back_to [] s shape.frames) es)) it.now
    (subst (λ q. TriesFacts (call_at p q.base q.frame) r true (change w after now)) (sym it.back_is) tries shape.args shape.facts w.store.now.state shape.frames es (again w back y es it p r called shape.facts shape.frames shape.one shape.stands shape.over)
    (subst (λ h. HoldsArguments h.terms h.slots x.back.base shape.stands.call.pred.arity shape.args) (sym it.here) shape.stands.call.args) refl))

pub facts-of : {M : Type 0} (w after : World M) (back : Back) (call : Call) (p r : ℕ) (now : Now) → call.predicate ≡ p → call.base ≡ back.base → call.frame ≡ back.frame →
    TriesFacts call r true (change w after now) → TriesFacts (call_at p back.base back.frame) r true (change w after now)
facts-of w after back call p r now one two three tries =
    subst (λ n. TriesFacts (call_at n back.base back.frame) r true (change w after now)) one
    (subst (λ n. TriesFacts (call_at call.predicate n back.frame) r true (change w after now)) two
    (subst (λ n. TriesFacts (call_at call.predicate call.base n) r true (change w after now)) three tries))

-- there is such an entry's predicate
pub no-facts : {M X : Type 0} (w : World M) (back : Back) (p r : ℕ) (y : EntryData) (es : List EntryData) → back.kind ≡ Kind.Facts p r → IsBack w back y es → slice_get w.loaded.code.predicates.items p ≡ None → X
no-facts w back p r y es named it none =
    let x : Entry _ = it.entry in
    let shape : FactsShape w.loaded (back_here w x) (w.store.at_mark x.mark).state x.back.base x.back.frame x.back.blocks.slots it.from (length w.arenas.collected) p r y =
    facts-shape w.loaded w.arenas.collected (back_here w x) (w.store.at_mark x.mark).state x.back.base x.back.frame x.back.blocks.slots it.from (length w.arenas.collected) p r x.back.kind y (ap (λ q. q.kind) it.back_is ∙ named) it.is.kind in
    let both : Some shape.stands.call.predicate ≡ None = sym shape.stands.call.is_predicate ∙ none in
    absurd cc

-- ---- the predicate in the program

pub source-pred : (ps : List CorePred) (n : ℕ) (source : CorePred) (pred : PredTree) → slice_get ps n ≡ Some source → slice_get (map pred_tree ps) n ≡ Some pred → pred_tree source ≡ pred
source-pred [] n source pred at there = absurd cc
source-pred (p ∷ ps) zero source pred at there = ap pred_tree (sym (one p source at)) ∙ two (pred_tree p) pred there
  where
    one : (p q : CorePred) → Some p ≡ Some q → p ≡ q
    one p q h = cc

    two : (p q : PredTree) → Some p ≡ Some q → p ≡ q
    two p q h = cc
source-pred (p ∷ ps) (suc n) source pred at there = source-pred ps n source pred at there

pub pred-at : {M : Type 0} (w : World M) (p base frame from : ℕ) (called : Called) (cs : List ClauseTree) (s : State) (k : List Frame) (es : List EntryData) (again : Bool) (code : Code) → (is : CallIs w p base frame from called cs s k es again) → w.loaded.code ≡ code →
    slice_get (map pred_tree (preds_of code)) p ≡ Some is.call.call.pred
pred-at w p base frame from called cs s k es again code is is_code =
    ap (λ r. slice_get (map pred_tree (preds_of r)) p) (sym is_code) ∙ (ap (λ ps. slice_get ps p) (sym is.code.source) ∙ is.call.call.is_pred)

-- what is told of mode lists
pub fits-there : {M : Type 0} (w : World M) (p base frame from : ℕ) (ts : Trees) (cs : List ClauseTree) (s : State) (k : List Frame) (es : List EntryData) (predicate : Predicate) (code : Code) (one : Bool) → (is : CallIs w p base frame from (record { function = false; args = ts }) cs s k es false) →
    w.loaded.code ≡ code → slice_get w.loaded.code.predicates.items p ≡ Some predicate → HasArguments w base is.call.call.pred.arity (record { function = false; args = ts }) → s ≡ w.store.now.state →
    ((pred : PredTree) (lists : List (List Mode)) (us : Trees) → slice_get (map pred_tree (preds_of code)) p ≡ Some pred → pred.index ≡ Some lists → IsAcyclic (bindings w.store.now.state) → HoldsArguments w.store.now.terms w.arenas.blocks.slots base predicate.arity us →
    one ≡ list_any (λ modes. fits_modes (bindings w.store.now.state) modes us) lists) →
    (lists : List (List Mode)) → is.call.call.pred.index ≡ Some lists → one ≡ list_any (λ modes. fits_modes (bindings s) modes ts) lists
fits-there w p base frame from ts cs s k es predicate code one is is_code there args same tells lists index =
    let called : Called = record { function = false; args = ts } in
    let arity : predicate.arity ≡ is.call.call.pred.arity = (there-of w p base frame from called cs s k es false predicate is there).arity in
    tells is.call.call.pred lists ts (pred-at w p base frame from called cs s k es false code is is_code) index is.state.calm.state.acyclic (subst (λ n. HoldsArguments w.store.now.terms w.arenas.blocks.slots base n ts) (sym arity) args)
    ∙ ap (λ r. list_any (λ modes. fits_modes (bindings r) modes ts) lists) (sym same)

-- ---- the state stays where a call is kept

keeps-stay : {M : Type 0} (order : M → ℕ) (v w : StoreView M) (a b : ArenasView M) (slots base frame : ℕ) (kind : Kind) (again : Bool) → KeepsCall order (between v w a b) (keeping slots base frame kind) again → Stays v w
keeps-stay order v w a b slots base frame kind again (keeps_new push) = push.marks.stays
keeps-stay order v w a b slots base frame kind again (keeps_own same arenas) = subst (Stays v) (sym same) (same-stays v)

pub later-stays : {M : Type 0} (order : M → ℕ) (v w : StoreView M) (a b : ArenasView M) (slots p base frame : ℕ) (again : Bool) (next : Option ℕ) → LeavesLater order (between v w a b) (call_at p base frame) slots again next → Stays v w
later-stays order v w a b slots p base frame again None leaves = subst (Stays v) (sym leaves.0) (same-stays v)
later-stays order v w a b slots p base frame again (Some n) leaves = keeps-stay order v w a b slots base frame (Kind.Facts p n) again leaves
