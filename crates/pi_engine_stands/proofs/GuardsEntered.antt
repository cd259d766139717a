-- A rule's condition that is entered.
use Rattle.std.proofs.Common.{◌≡◌, ◌≢◌, ℕ, suc, ◌+◌, Bool, false, List, [], ◌∷◌, Option, Some, None, length, refl, sym, ◌∙◌, ap, subst, arith}
use Rattle.std.specs.Prelude.{slice_get}
use Rattle.pi_terms.specs.Places.{Places}
use Rattle.pi_constraints.specs.Store.{StoreView}
use Rattle.pi_constraints.specs.State.{State}
use Rattle.pi_engine_stands.specs.Rests.{Rests}
use Rattle.pi_core.specs.GoalTree.{GoalTree, truth, fail, tick, call, apply, seq, alternatives, if_else, not, once, collect, count, catch, no_goals, goal}
use Rattle.pi_core.specs.CoreTree.{ClauseTree}
use Rattle.pi_engine_arenas.specs.declared.arenas.Kind.{Kind}
use Rattle.pi_engine_arenas.specs.declared.arenas.Strict.{Strict}
use Rattle.pi_engine_arenas.specs.declared.frames.Point.{Point}
use Rattle.pi_engine_code.specs.declared.code.Rule.{Rule}
use Rattle.pi_engine_code.specs.declared.code.Step.{Step}
use Rattle.pi_engine_code.specs.declared.code.Predicate.{Predicate}
use Rattle.pi_engine_arenas.specs.declared.run.Now.{Now}
use Rattle.pi_engine_code.specs.Code.{Tables}
use Rattle.pi_engine_arenas.specs.Arenas.{ArenasView, newest, opened, between, keeping}
use Rattle.pi_engine_arenas.specs.declared.arenas.Entry.{Entry}
use Rattle.pi_meaning.specs.Machine.Configuration.{Frame, Called, strict, guard_level, Back as BackData, going, Entry as EntryData}
use Rattle.pi_meaning.specs.Machine.Step.{back_to, guarding, inside, trial}
use Rattle.pi_meaning.specs.Machine.Shape.{open_level}
use Rattle.pi_engine_stands.specs.Here.{Block, IsHere, last_here, answers, in_block, Holds}
use Rattle.pi_engine_stands.specs.Stands.{World, Loaded, tables_in, steps_of, entries_of, now_here, level_ends, entry_ends, ends_of, rule_block, rule_shape, clause_block, agrees_from, IsGuardHere, IsPredicateOf, guard_kind, StackIs, Stands, NowIs, going_now}
use Rattle.pi_engine_stands.specs.Tries.{CallIs, KeepsCall, Applies}
use Rattle.pi_engine_stands.proofs.HereLemmas.{holds-extends}
use Rattle.pi_engine_stands.proofs.ProgramStands.{code-keeps}
use Rattle.pi_engine_stands.proofs.StandsLemmas.{moved, stack-moves, stack-length}
use Rattle.pi_engine_stands.proofs.CallsStand.{keeps-terms}
use Rattle.pi_engine_stands.proofs.CallKept.{CallKept, Makes, call-kept}
use Rattle.pi_engine_stands.proofs.RulesTaken.{predicate-of}

-- ---- conditions

guarding-inside : (g : GoalTree) (called : Called) (c : ClauseTree) (cs : List ClauseTree) (b : BackData) (es : List EntryData) (e : Places) → g ≢ truth →
    guarding g (trial called c cs b es) e ≡ inside g e b.state (strict (guard_level called c cs) b) es
guarding-inside truth called c cs b es e some = absurd (some refl)
guarding-inside fail called c cs b es e some = refl
guarding-inside tick called c cs b es e some = refl
guarding-inside (call name args) called c cs b es e some = refl
guarding-inside (apply name args slot) called c cs b es e some = refl
guarding-inside (seq gs) called c cs b es e some = refl
guarding-inside (alternatives gs) called c cs b es e some = refl
guarding-inside (if_else test g other) called c cs b es e some = refl
guarding-inside (not g) called c cs b es e some = refl
guarding-inside (once g) called c cs b es e some = refl
guarding-inside (collect g slot into) called c cs b es e some = refl
guarding-inside (count g into) called c cs b es e some = refl
guarding-inside (catch g ball handler) called c cs b es e some = refl

one-place : (n m : ℕ) → Some n ≡ Some m → n ≡ m
one-place n m is = cc

guard-here : (t : Tables) (steps : List Step) (b : Block) (found : Option ℕ) (place : ℕ) (g : GoalTree) → found ≡ Some place → IsGuardHere t steps b found g → (g ≢ truth) × IsHere t steps b place g false
guard-here t steps b None place g is here = absurd cc
guard-here t steps b (Some n) place g is here = subst (λ m. (g ≢ truth) × IsHere t steps b m g false) (one-place n place is) here

-- ---- the level

-- how it ends
pub guard-ends : {M : Type 0} (w : World M) (p base number arity : ℕ) (predicate : Predicate) (c : ClauseTree) (rule : Rule) → slice_get w.loaded.code.predicates.items p ≡ Some predicate →
    slice_get w.loaded.code.rules.items number ≡ Some rule → predicate.arity ≡ arity → rule.slots ≡ c.slots →
    rule_block w.loaded p number base ≡ record { base = base; first = arity; count = c.slots }
guard-ends w p base number arity predicate c rule is found first many =
    ap (λ q. rule_shape q (slice_get w.loaded.code.rules.items number) base) is
    ∙ ap (λ r. rule_shape (Some predicate) r base) found
    ∙ ap (λ n. record { base = base; first = n; count = rule.slots }) first
    ∙ ap (λ n. record { base = base; first = arity; count = n }) many

-- the stack doesn't go by what is open
pub stack-open : {M : Type 0} (w : World M) (es : List EntryData) → StackIs w (length (entries_of w)) (length w.arenas.collected) es →
    StackIs (moved w w.store (opened w.arenas)) (length (entries_of w)) (length w.arenas.collected) es
stack-open w es is =
    stack-moves w w.store (opened w.arenas) (length (entries_of w)) (length w.arenas.collected) (length (entries_of w)) (length w.arenas.collected) es
    (record { entries = refl; marks = λ i x h at good. (good, refl); blocks = λ i x h at kept. (kept, refl); frames = λ i x h at fit. (fit, refl); collected = refl; enough = omega arith; beside = λ m. refl; names = λ k name has. has })
    (omega arith) (omega arith) is

found-ends : {M : Type 0} (l : Loaded) (r : Option (Entry M)) (x : Entry M) (kind : Kind) (base : ℕ) → r ≡ Some x → x.back.kind ≡ kind → x.back.base ≡ base → entry_ends l r ≡ ends_of l kind base
found-ends l r x kind base is is_kind begins = ap (entry_ends l) is ∙ ap (λ m. ends_of l m x.back.base) is_kind ∙ ap (ends_of l kind) begins

pub guard-entered : {M : Type 0} (w : World M) (v : StoreView M) (a : ArenasView M) (p base frame number slots guard : ℕ) (called : Called) (c : ClauseTree) (cs : List ClauseTree) (s : State) (k : List Frame) (es : List EntryData) (again : Bool)
    (predicate : Predicate) (rule : Rule) (e : Places) → (applies : Applies w p base frame number called c cs s k es again predicate rule e) → rule.guard ≡ Some guard → s ≡ w.store.now.state →
    slots ≡ base + applies.is.call.call.pred.arity → KeepsCall w.order (between w.store v w.arenas a) (keeping slots base frame (Kind.Strict (Strict.Guard p number))) again →
    Stands (moved w v (opened a)) (Now.Going (record { place = guard; count = 1; base = base; frame = 0 })) (guarding c.guard (trial called c cs (back_to [] s k) es) e)
unfolding open_level
guard-entered w v a p base frame number slots guard called c cs s k es again predicate rule e applies is_guard same at keeps =
    let is : CallIs w p base frame number called (c ∷ cs) s k es again = applies.is in
    let kind : Kind = Kind.Strict (Strict.Guard p number) in
    let y : EntryData = strict (guard_level called c cs) (back_to [] s k) in
    let point : Point = record { place = guard; count = 1; base = base; frame = 0 } in
    let block : Block = clause_block base is.call.call.pred c in
    let after : World _ = moved w v (opened a) in
    let in_tables : IsPredicateOf w.loaded.code (tables_in w.loaded) w.store.names is.call.call.pred is.call.call.predicate = predicate-of w p number called (c ∷ cs) is.code is.call.call in
    let makes : Makes w p base frame number called (c ∷ cs) s k kind y = λ h slots stands over. guard_kind stands over refl in
    let kept : CallKept w v a base kind y es = call-kept w v a p base frame number slots called (c ∷ cs) s k es again kind y is at makes tt keeps in
    let here : (c.guard ≢ truth) × IsHere (tables_in w.loaded) (steps_of w.loaded) block guard c.guard false =
    guard-here (tables_in w.loaded) (steps_of w.loaded) block rule.guard guard c.guard is_guard (applies.is_rule.guard base) in
    let long : suc (length es) ≡ length a.entries = stack-length (moved w v a) (length a.entries) (length a.collected) (y ∷ es) kept.stack in
    let ends : level_ends after (length a.entries) ≡ in_block block =
    found-ends w.loaded (newest a.entries) kept.entry kind base kept.is_newest kept.is_kind kept.begins
    ∙ ap in_block (guard-ends w p base number is.call.call.pred.arity is.call.call.predicate c rule is.call.call.is_predicate applies.found in_tables.arity applies.is_rule.slots) in
    subst (Stands after (Now.Going point)) (sym (guarding-inside c.guard called c cs (back_to [] s k) es e here.0))
    (record {
      entries = record {
        code = code-keeps w.loaded.code (tables_in w.loaded) w.store.names v.names w.loaded.preds (λ i name has. kept.passes.stays.keeps.names i name has) is.code;
        state = subst Rests (sym kept.passes.stays.state) is.state;
        tables = λ i t has. keeps-terms w.store v kept.passes.stays.keeps i t (is.tables i t has);
        level = sym long;
        kept = kept.kept;
        stack = stack-open (moved w v a) (y ∷ es) kept.stack;
      };
      runs = subst (λ r. NowIs after (Now.Going point) (going (goal c.guard no_goals) e r [])) (kept.passes.stays.state ∙ sym same)
          (going_now (record {
            block = block;
            base = refl;
            value = None;
            last = false;
            rest = [];
            goals = last_here here.1;
            behind = record {
              slots = holds-extends w.store.now.terms v.now.terms a.blocks.slots block e (keeps-terms w.store v kept.passes.stays.keeps)
                  (subst (λ xs. Holds w.store.now.terms xs block e) (sym kept.passes.slots) applies.slots);
              leaves = false;
              frames = answers ends;
            };
            leaves = record { is_last = λ h. h; is_given = λ none out. absurd cc; is_value = λ t h. absurd cc };
            frames = refl;
            agrees = subst (λ r. agrees_from after r (now_here after)) (sym kept.is_newest) kept.agrees;
          }));
    })
