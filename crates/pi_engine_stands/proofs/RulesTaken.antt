-- A rule that is taken.
use Rattle.std.proofs.Common.{◌≡◌, ◌⊎◌, inl, inr, ℕ, ◌+◌, ◌-◌, ◌≤◌, ◌<◌, Bool, true, false, List, [], ◌∷◌, Option, Some, length, drop, refl, sym, ◌∙◌, ap, subst, arith}
use Rattle.std.specs.Prelude.{slice_get}
use Rattle.std.proofs.lemmas.List.{length-drop, drop-drop, length-take-le}
use Rattle.pi_terms.specs.Places.{Places}
use Rattle.pi_constraints.specs.Store.{StoreView}
use Rattle.pi_constraints.specs.State.{State}
use Rattle.pi_engine_stands.specs.Rests.{Rests}
use Rattle.pi_core.specs.GoalTree.{no_goals, goal}
use Rattle.pi_core.specs.CoreTree.{ClauseTree, leaves_others}
use Rattle.pi_engine_arenas.specs.declared.arenas.Kind.{Kind}
use Rattle.pi_engine_arenas.specs.declared.frames.Point.{Point}
use Rattle.pi_engine_code.specs.declared.code.Rule.{Rule}
use Rattle.pi_engine_code.specs.declared.code.Predicate.{Predicate}
use Rattle.pi_engine_arenas.specs.declared.run.Now.{Now}
use Rattle.pi_engine_arenas.specs.Arenas.{ArenasView, newest, slots_kept_by, between, keeping}
use Rattle.pi_meaning.specs.Machine.Configuration.{Frame, Called, rules_left, choice, config, after_body, going, Entry as EntryData}
use Rattle.pi_meaning.specs.Machine.Step.{run_goal, back_to, later_rules, taken, trial}
use Rattle.pi_meaning.specs.Machine.Shape.{open_level}
use Rattle.pi_engine_stands.specs.Here.{Here}
use Rattle.pi_engine_stands.specs.Stands.{World, Loaded, tables_in, entries_of, IsCodeOf, IsPredicateOf, IsCall, CallStands, KindIs, rules_kind, StackIs, Stands, NowIs, going_now}
use Rattle.pi_engine_stands.specs.Tries.{RulesLeft, OwnEntry, HasEntry, no_entry, own_entry, CallIs, KeepsCall, Applies}
use Rattle.pi_engine_stands.proofs.ProgramStands.{code-keeps}
use Rattle.pi_engine_stands.proofs.StandsLemmas.{moved, stack-moves}
use Rattle.pi_engine_stands.proofs.CallsStand.{Passes, keeps-terms, body-goes}
use Rattle.pi_engine_stands.proofs.CallEntries.{Drops, drops-leave, drops-pass, same-stays}
use Rattle.pi_engine_stands.proofs.CallKept.{CallKept, Makes, call-kept}

-- ---- the rules behind the first of those that are left

tail-of : {X : Type 0} (xs : List X) (n : ℕ) (y : X) (ys : List X) → y ∷ ys ≡ drop n xs → ys ≡ drop (n + 1) xs
tail-of xs n y ys is = ap (drop 1) is ∙ drop-drop 1 n xs

-- the rules that a call has
abbrev pub left-of : (l : Loaded) (h : Here) (base p r : ℕ) (called : Called) (cs : List ClauseTree) → IsCall l h base p r called cs → RulesLeft l p r called cs
left-of l h base p r called cs is = record { pred = is.pred; predicate = is.predicate; is_pred = is.is_pred; is_predicate = is.is_predicate; function = is.function; from = is.from; rules = is.rules }

-- the rules behind the next one
pub rules-next : (l : Loaded) (p r : ℕ) (called : Called) (c : ClauseTree) (cs : List ClauseTree) → (is : RulesLeft l p r called (c ∷ cs)) → cs ≡ drop (r + 1 - is.predicate.first) is.pred.clauses
rules-next l p r called c cs is = tail-of is.pred.clauses (r - is.predicate.first) c cs is.rules ∙ ap (λ n. drop n is.pred.clauses) (omega (arith, is.from))

abbrev pub call-next : (l : Loaded) (h : Here) (base frame p r : ℕ) (called : Called) (c : ClauseTree) (cs : List ClauseTree) (k : List Frame) →
    CallStands l h base frame p r called (c ∷ cs) k → CallStands l h base frame p (r + 1) called cs k
call-next l h base frame p r called c cs k is =
    record {
      call = record {
        pred = is.call.pred;
        predicate = is.call.predicate;
        is_pred = is.call.is_pred;
        is_predicate = is.call.is_predicate;
        function = is.call.function;
        args = is.call.args;
        from = omega (arith, is.call.from);
        rules = rules-next l p r called c cs (left-of l h base p r called (c ∷ cs) is.call);
      };
      frames = is.frames;
      returns = is.returns;
      alone = is.alone;
    }

-- ---- what a rule's body goes on from

-- the stack is the same but for what lies above it
pub record StackAfter {M : Type 0} (w : World M) (v : StoreView M) (a : ArenasView M) (es all : List EntryData) : Type 0 where
  pub below : ℕ
  pub under : StackIs w below (length w.arenas.collected) es
  pub passes : Passes w v a below
  pub stack : StackIs (moved w v a) (length a.entries) (length a.collected) all
  pub kept : a.blocks.kept ≡ slots_kept_by (newest a.entries)

-- the stack below a call whose entry is gone
pub stack-dropped : {M : Type 0} (w : World M) (b : ArenasView M) (n : ℕ) (es : List EntryData) → n ≤ length (entries_of w) → StackIs w n (length w.arenas.collected) es → Drops w.arenas b n → StackAfter w w.store b es es
stack-dropped w b n es within stack drops =
    let few : length b.entries ≡ n = ap length drops.entries ∙ length-take-le n (entries_of w) within in
    record {
      below = n;
      under = stack;
      passes = drops-pass w b n es within stack drops;
      stack = subst (λ m. StackIs (moved w w.store b) m (length b.collected) es) (sym few)
          (subst (λ m. StackIs (moved w w.store b) n m es) (ap length (sym drops.collected))
          (stack-moves w w.store b n (length w.arenas.collected) n (length w.arenas.collected) es (drops-leave w b n es within stack drops) (omega arith) (omega arith) stack));
      kept = drops.kept ∙ ap (λ xs. slots_kept_by (newest xs)) (sym drops.entries);
    }

pub stack-kept : {M : Type 0} (w : World M) (v : StoreView M) (a : ArenasView M) (base : ℕ) (kind : Kind) (y : EntryData) (es : List EntryData) → CallKept w v a base kind y es → StackAfter w v a es (y ∷ es)
stack-kept w v a base kind y es is = record { below = is.below; under = is.under; passes = is.passes; stack = is.stack; kept = is.kept }

-- nothing has changed
pub stack-same : {M : Type 0} (w : World M) (es : List EntryData) → w.arenas.blocks.kept ≡ slots_kept_by (newest (entries_of w)) → StackIs w (length (entries_of w)) (length w.arenas.collected) es → StackAfter w w.store w.arenas es es
stack-same w es kept stack =
    record {
      below = length (entries_of w);
      under = stack;
      passes = record {
        leaves = record { entries = refl; marks = λ i x h at good. (good, refl); blocks = λ i x h at is. (is, refl); frames = λ i x h at fit. (fit, refl); collected = refl; enough = omega arith; beside = λ m. refl; names = λ k name has. has };
        slots = refl;
        frames = refl;
        level = refl;
        stays = same-stays w.store;
      };
      stack = stack;
      kept = kept;
    }

-- a rule's body runs above a stack that is open as the one below the call
pub rule-stands : {M : Type 0} (w : World M) (v : StoreView M) (a : ArenasView M) (p base frame number : ℕ) (called : Called) (c : ClauseTree) (cs : List ClauseTree) (s : State) (k : List Frame) (es all : List EntryData) (again : Bool)
    (predicate : Predicate) (rule : Rule) (e : Places) → Applies w p base frame number called c cs s k es again predicate rule e → StackAfter w v a es all → open_level 0 all ≡ open_level 0 es →
    Stands (moved w v a) (Now.Going (record { place = rule.body; count = rule.goals; base = base; frame = frame })) (config (run_goal c.body e w.store.now.state (after_body called.function c k)) all)
rule-stands w v a p base frame number called c cs s k es all again predicate rule e applies after opens =
    let is : CallIs w p base frame number called (c ∷ cs) s k es again = applies.is in
    let point : Point = record { place = rule.body; count = rule.goals; base = base; frame = frame } in
    record {
      entries = record {
        code = code-keeps w.loaded.code (tables_in w.loaded) w.store.names v.names w.loaded.preds (λ i name has. after.passes.stays.keeps.names i name has) is.code;
        state = subst Rests (sym after.passes.stays.state) is.state;
        tables = λ i t has. keeps-terms w.store v after.passes.stays.keeps i t (is.tables i t has);
        level = after.passes.level ∙ is.level ∙ sym opens;
        kept = after.kept;
        stack = after.stack;
      };
      runs = subst (λ r. NowIs (moved w v a) (Now.Going point) (going (goal c.body no_goals) e r (after_body called.function c k))) after.passes.stays.state
          (going_now (body-goes w v a after.below base frame es is.call.call.pred c rule called e k after.passes after.under is.level is.call.frames is.call.returns is.call.alone is.agrees applies.is_rule is.call.call.function applies.slots));
    }

-- ---- which entries are left

none-later : (leaves : Bool) (called : Called) (cs : List ClauseTree) (s : State) (k : List Frame) (es : List EntryData) → (leaves ≡ false) ⊎ (cs ≡ []) → later_rules leaves called cs (back_to [] s k) es ≡ es
none-later false called cs s k es none = refl
none-later true called [] s k es none = refl
none-later true called (c ∷ cs) s k es (inl never) = absurd cc
none-later true called (c ∷ cs) s k es (inr never) = absurd cc

some-later : (leaves : Bool) (called : Called) (cs : List ClauseTree) (s : State) (k : List Frame) (es : List EntryData) → leaves ≡ true → 0 < length cs →
    later_rules leaves called cs (back_to [] s k) es ≡ choice (rules_left called cs) (back_to [] s k) ∷ es
some-later false called cs s k es leaves some = absurd cc
some-later true called [] s k es leaves some = absurd (omega (arith, some))
some-later true called (c ∷ cs) s k es leaves some = refl

-- how many rules are left behind a rule
left-behind : (l : Loaded) (p r : ℕ) (called : Called) (c : ClauseTree) (cs : List ClauseTree) → (is : RulesLeft l p r called (c ∷ cs)) →
    length cs ≡ length is.pred.clauses - (r + 1 - is.predicate.first)
left-behind l p r called c cs is = ap length (rules-next l p r called c cs is) ∙ length-drop (r + 1 - is.predicate.first) is.pred.clauses

one-predicate : (r : Option Predicate) (p q : Predicate) → r ≡ Some p → r ≡ Some q → p ≡ q
one-predicate r p q h k = cc

-- the predicate of a call, in the tables
pub predicate-of : {M : Type 0} (w : World M) (p r : ℕ) (called : Called) (cs : List ClauseTree) → IsCodeOf w.loaded.code (tables_in w.loaded) w.store.names w.loaded.preds →
    (is : RulesLeft w.loaded p r called cs) → IsPredicateOf w.loaded.code (tables_in w.loaded) w.store.names is.pred is.predicate
predicate-of w p r called cs code is =
    let found : (q : Predicate) × (slice_get w.loaded.code.predicates.items p ≡ Some q) × IsPredicateOf w.loaded.code (tables_in w.loaded) w.store.names is.pred q = code.predicates p is.pred is.is_pred in
    subst (IsPredicateOf w.loaded.code (tables_in w.loaded) w.store.names is.pred) (one-predicate (slice_get w.loaded.code.predicates.items p) found.0 is.predicate found.1 is.is_predicate) found.2

leaves-same : (f g r : Bool) (c : ClauseTree) → f ≡ g → r ≡ leaves_others g c → leaves_others f c ≡ r
leaves-same f g r c same is = ap (λ x. leaves_others x c) same ∙ sym is

no-length : {X : Type 0} (xs : List X) → length xs ≡ 0 → xs ≡ []
no-length [] h = refl
no-length (x ∷ xs) h = absurd (omega (arith, h))

-- the rules behind it stay
pub rule-kept : {M : Type 0} (w : World M) (v : StoreView M) (a : ArenasView M) (p base frame number next slots : ℕ) (called : Called) (c : ClauseTree) (cs : List ClauseTree) (s : State) (k : List Frame) (es : List EntryData) (again : Bool)
    (predicate : Predicate) (rule : Rule) (e : Places) → (applies : Applies w p base frame number called c cs s k es again predicate rule e) → rule.leaves_others ≡ true → next ≡ number + 1 → next < predicate.end →
    slots ≡ base + applies.is.call.call.pred.arity → KeepsCall w.order (between w.store v w.arenas a) (keeping slots base frame (Kind.Rules p next)) again →
    Stands (moved w v a) (Now.Going (record { place = rule.body; count = rule.goals; base = base; frame = frame })) (taken (trial called c cs (back_to [] s k) es) e w.store.now.state)
unfolding open_level
rule-kept w v a p base frame number next slots called c cs s k es again predicate rule e applies others is_next more at keeps =
    let is : CallIs w p base frame number called (c ∷ cs) s k es again = applies.is in
    let top : ℕ = length w.arenas.collected in
    let y : EntryData = choice (rules_left called cs) (back_to [] s k) in
    let in_tables : IsPredicateOf w.loaded.code (tables_in w.loaded) w.store.names is.call.call.pred is.call.call.predicate = predicate-of w p number called (c ∷ cs) is.code is.call.call in
    let leaves : leaves_others called.function c ≡ true = leaves-same called.function is.call.call.pred.function rule.leaves_others c is.call.call.function applies.is_rule.leaves_others ∙ others in
    let last : predicate.end ≡ is.call.call.predicate.first + length is.call.call.pred.clauses = ap (λ q. q.end) (sym applies.is_predicate) ∙ in_tables.rules in
    let some : 0 < length cs = omega (arith, left-behind w.loaded p number called c cs is.call.call, last, more, is_next, is.call.call.from) in
    let makes : Makes w p base frame number called (c ∷ cs) s k (Kind.Rules p next) y =
    λ h slots stands over.
    subst (λ n. KindIs w.loaded w.arenas.collected h s base frame slots top top (Kind.Rules p n) y) (sym is_next) (rules_kind (call-next w.loaded h base frame p number called c cs k stands) over refl) in
    subst (λ all. Stands (moved w v a) (Now.Going (record { place = rule.body; count = rule.goals; base = base; frame = frame })) (config (run_goal c.body e w.store.now.state (after_body called.function c k)) all))
    (sym (some-later (leaves_others called.function c) called cs s k es leaves some))
    (rule-stands w v a p base frame number called c cs s k es (y ∷ es) again predicate rule e applies
    (stack-kept w v a base (Kind.Rules p next) y es (call-kept w v a p base frame number slots called (c ∷ cs) s k es again (Kind.Rules p next) y is at makes tt keeps)) refl)

-- no rule behind it stays
pub rule-alone : {M : Type 0} (w : World M) (v : StoreView M) (a : ArenasView M) (p base frame number : ℕ) (called : Called) (c : ClauseTree) (cs : List ClauseTree) (s : State) (k : List Frame) (es : List EntryData) (again : Bool)
    (predicate : Predicate) (rule : Rule) (e : Places) → (applies : Applies w p base frame number called c cs s k es again predicate rule e) → (rule.leaves_others ≡ false) ⊎ (predicate.end ≤ number + 1) →
    StackAfter w v a es es →
    Stands (moved w v a) (Now.Going (record { place = rule.body; count = rule.goals; base = base; frame = frame })) (taken (trial called c cs (back_to [] s k) es) e w.store.now.state)
rule-alone w v a p base frame number called c cs s k es again predicate rule e applies none after =
    let is : CallIs w p base frame number called (c ∷ cs) s k es again = applies.is in
    let in_tables : IsPredicateOf w.loaded.code (tables_in w.loaded) w.store.names is.call.call.pred is.call.call.predicate = predicate-of w p number called (c ∷ cs) is.code is.call.call in
    let leaves : leaves_others called.function c ≡ rule.leaves_others = leaves-same called.function is.call.call.pred.function rule.leaves_others c is.call.call.function applies.is_rule.leaves_others in
    let last : predicate.end ≡ is.call.call.predicate.first + length is.call.call.pred.clauses = ap (λ q. q.end) (sym applies.is_predicate) ∙ in_tables.rules in
    let no_rest : (leaves_others called.function c ≡ false) ⊎ (cs ≡ []) =
    elim none as (λ o. (leaves_others called.function c ≡ false) ⊎ (cs ≡ [])) [
      | inl never ↦ inl (leaves ∙ never)
      | inr ends ↦ inr (no-length cs (omega (arith, left-behind w.loaded p number called c cs is.call.call, last, ends, is.call.call.from)))
    ] in
    subst (λ all. Stands (moved w v a) (Now.Going (record { place = rule.body; count = rule.goals; base = base; frame = frame })) (config (run_goal c.body e w.store.now.state (after_body called.function c k)) all))
    (sym (none-later (leaves_others called.function c) called cs s k es no_rest))
    (rule-stands w v a p base frame number called c cs s k es es again predicate rule e applies after refl)

-- ---- by the arguments of the functions

pub arity-of : {M : Type 0} (w : World M) (p base frame number : ℕ) (called : Called) (cs : List ClauseTree) (s : State) (k : List Frame) (es : List EntryData) (again : Bool)
    (predicate : Predicate) → (is : CallIs w p base frame number called cs s k es again) → is.call.call.predicate ≡ predicate → base + predicate.arity ≡ base + is.call.call.pred.arity
arity-of w p base frame number called cs s k es again predicate is same =
    ap (λ n. base + n) (ap (λ q. q.arity) (sym same) ∙ (predicate-of w p number called cs is.code is.call.call).arity)

own-of : {M : Type 0} (w : World M) (p base frame number : ℕ) (called : Called) (cs : List ClauseTree) (s : State) (k : List Frame) (es : List EntryData) (again : Bool) →
    HasEntry w p base frame number called cs s k es again → again ≡ true → OwnEntry w p base frame number called cs s k es
own-of w p base frame number called cs s k es again (no_entry same stands stack) is = absurd cc
own-of w p base frame number called cs s k es again (own_entry own) is = own

stack-of : {M : Type 0} (w : World M) (p base frame number : ℕ) (called : Called) (cs : List ClauseTree) (s : State) (k : List Frame) (es : List EntryData) (again : Bool) →
    HasEntry w p base frame number called cs s k es again → again ≡ false → StackIs w (length (entries_of w)) (length w.arenas.collected) es
stack-of w p base frame number called cs s k es again (no_entry same stands stack) is = stack
stack-of w p base frame number called cs s k es again (own_entry own) is = absurd cc

-- the call's entry is gone
pub entry-gone : {M : Type 0} (w : World M) (b : ArenasView M) (p base frame number : ℕ) (called : Called) (cs : List ClauseTree) (s : State) (k : List Frame) (es : List EntryData) (again : Bool) →
    CallIs w p base frame number called cs s k es again → again ≡ true → Drops w.arenas b (length (entries_of w) - 1) → StackAfter w w.store b es es
entry-gone w b p base frame number called cs s k es again is true_is drops =
    let own : OwnEntry w p base frame number called cs s k es = own-of w p base frame number called cs s k es again is.entry true_is in
    let one : length (entries_of w) - 1 ≡ own.below = omega (arith, own.all) in
    stack-dropped w b own.below es (omega (arith, own.all)) own.stack (subst (Drops w.arenas b) one drops)

-- it had none
pub entry-none : {M : Type 0} (w : World M) (p base frame number : ℕ) (called : Called) (cs : List ClauseTree) (s : State) (k : List Frame) (es : List EntryData) (again : Bool) →
    CallIs w p base frame number called cs s k es again → again ≡ false → StackAfter w w.store w.arenas es es
entry-none w p base frame number called cs s k es again is none = stack-same w es is.kept (stack-of w p base frame number called cs s k es again is.entry none)

pub call-fits : {M : Type 0} (w : World M) (p base frame number : ℕ) (called : Called) (cs : List ClauseTree) (s : State) (k : List Frame) (es : List EntryData) (again : Bool)
    (predicate : Predicate) → (is : CallIs w p base frame number called cs s k es again) → is.call.call.predicate ≡ predicate → base + predicate.arity ≤ length w.arenas.blocks.slots
call-fits w p base frame number called cs s k es again predicate is same =
    omega (arith, arity-of w p base frame number called cs s k es again predicate is same, is.call.fits)
