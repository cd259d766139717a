-- A rule's condition that has an answer.
use Rattle.std.proofs.Common.{◌≡◌, ℕ, zero, suc, ◌+◌, ◌-◌, ◌≤◌, max, List, [], ◌∷◌, Option, Some, None, length, take, drop, refl, sym, ◌∙◌, ap, subst, arith}
use Rattle.std.specs.Prelude.{slice_get}
use Rattle.std.proofs.lemmas.List.{length-take}
use Rattle.pi_terms.specs.Tree.{Tree}
use Rattle.pi_constraints.specs.State.{State}
use Rattle.pi_core.specs.CoreTree.{ClauseTree}
use Rattle.pi_engine_arenas.specs.declared.arenas.Kind.{Kind}
use Rattle.pi_engine_arenas.specs.declared.arenas.Strict.{Strict}
use Rattle.pi_engine_arenas.specs.declared.arenas.Back.{Back}
use Rattle.pi_engine_code.specs.declared.code.Rule.{Rule}
use Rattle.pi_engine_arenas.specs.Arenas.{ArenasView, entry_at, newest}
use Rattle.pi_engine_arenas.specs.declared.arenas.Entry.{Entry}
use Rattle.pi_meaning.specs.Machine.Configuration.{Frame, Called, strict, guard_level, Entry as EntryData}
use Rattle.pi_meaning.specs.Machine.Step.{back_to}
use Rattle.pi_engine_stands.specs.Here.{Here}
use Rattle.pi_engine_stands.specs.Stands.{World, Loaded, tables_in, entries_of, now_here, back_here, agrees_from, Agrees, IsCodeOf, IsPredicateOf, IsRuleOf, rule_block, clause_block, CallStands, KindIs, guard_kind, EntryIs, StackIs, entry_above}
use Rattle.pi_constraints.specs.Store.{Extend}
use Rattle.pi_engine_stands.specs.Tries.{RulesLeft, ReturnsTo}
use Rattle.pi_terms.proofs.ListLemmas.{take-take}
use Rattle.pi_engine_stands.proofs.HereLemmas.{take-agrees}
use Rattle.pi_engine_stands.proofs.StandsLemmas.{moved, Leaves, slice-take, stack-moves, agrees-moves}
use Rattle.pi_engine_stands.proofs.GuardsEntered.{guard-ends}
use Rattle.pi_engine_stands.proofs.RulesTaken.{predicate-of}
use Rattle.pi_engine_stands.proofs.CallEntries.{IsBefore, entry-before, newest-below}

-- ---- the level's entry

pub record GuardEntry {M : Type 0} (w : World M) (m top p number : ℕ) (called : Called) (c : ClauseTree) (cs : List ClauseTree) (s : State) (k : List Frame) (below : List EntryData) : Type 0 where
  pub entry : Entry M
  pub at : slice_get (entries_of w) m ≡ Some entry
  pub is : EntryIs w below (entry_at (entries_of w) m) top top entry (strict (guard_level called c cs) (back_to [] s k))
  pub state : (w.store.at_mark entry.mark).state ≡ s
  pub call : CallStands w.loaded (back_here w entry) entry.back.base entry.back.frame p number called (c ∷ cs) k
  pub over : entry.back.blocks.slots ≤ entry.back.base + call.call.pred.arity
  pub stack : StackIs w m top below

pub record GuardKind (l : Loaded) (h : Here) (st s : State) (base frame slots from to p number : ℕ) (called : Called) (c : ClauseTree) (cs : List ClauseTree) (k : List Frame) : Type 0 where
  pub call : CallStands l h base frame p number called (c ∷ cs) k
  pub over : slots ≤ base + call.call.pred.arity
  pub state : st ≡ s
  pub none : from ≡ to

guard-numbers : (p number q r : ℕ) → Kind.Strict (Strict.Guard q r) ≡ Kind.Strict (Strict.Guard p number) → (q ≡ p) × (r ≡ number)
guard-numbers p number q r same = (cc, cc)

-- by the numbers
guard-of : (l : Loaded) (h : Here) (st : State) (base frame slots from to p number q r : ℕ) (called : Called) (c : ClauseTree) (cs : List ClauseTree) (k : List Frame) →
    (call : CallStands l h base frame q r called (c ∷ cs) k) → slots ≤ base + call.call.pred.arity → from ≡ to → (q ≡ p) × (r ≡ number) → GuardKind l h st st base frame slots from to p number called c cs k
guard-of l h st base frame slots from to p number q r called c cs k call over none numbers =
    subst (λ n. GuardKind l h st st base frame slots from to n number called c cs k) numbers.0
    (subst (λ n. GuardKind l h st st base frame slots from to q n called c cs k) numbers.1 (record { call = call; over = over; state = refl; none = none }))

kind-of-guard : (l : Loaded) (collected : List Tree) (h : Here) (st s : State) (base frame slots from to p number : ℕ) (called : Called) (c : ClauseTree) (cs : List ClauseTree) (k : List Frame) (kind : Kind) →
    kind ≡ Kind.Strict (Strict.Guard p number) → KindIs l collected h st base frame slots from to kind (strict (guard_level called c cs) (back_to [] s k)) → GuardKind l h st s base frame slots from to p number called c cs k
kind-of-guard l collected h st s base frame slots from to p number called c cs k kind same (guard_kind {p = q} {r = r} call over none) =
    guard-of l h st base frame slots from to p number q r called c cs k call over none (guard-numbers p number q r same)

pub guard-entry : {M : Type 0} (w : World M) (m top p number : ℕ) (called : Called) (c : ClauseTree) (cs : List ClauseTree) (s : State) (k : List Frame) (below : List EntryData) →
    ((x : Entry M) → slice_get (entries_of w) m ≡ Some x → x.back.kind ≡ Kind.Strict (Strict.Guard p number)) →
    StackIs w (suc m) top (strict (guard_level called c cs) (back_to [] s k) ∷ below) → GuardEntry w m top p number called c cs s k below
guard-entry w m top p number called c cs s k below kinds (entry_above n from fs x y at is stack) =
    let kind : GuardKind w.loaded (back_here w x) (w.store.at_mark x.mark).state s x.back.base x.back.frame x.back.blocks.slots from top p number called c cs k =
    kind-of-guard w.loaded w.arenas.collected (back_here w x) (w.store.at_mark x.mark).state s x.back.base x.back.frame x.back.blocks.slots from top p number called c cs k x.back.kind (kinds x at) is.kind in
    record {
      entry = x;
      at = at;
      is = subst (λ n. EntryIs w below (entry_at (entries_of w) m) n top x (strict (guard_level called c cs) (back_to [] s k))) kind.none is;
      state = kind.state;
      call = kind.call;
      over = kind.over;
      stack = subst (λ n. StackIs w m n below) kind.none stack;
    }

-- ---- what is given back

before-back : {M : Type 0} (r : Option (Entry M)) (x : Entry M) (back : Back) → IsBefore x r → ((z : Entry M) → r ≡ Some z → z.back ≡ back) → x.back.frames ≤ back.frames
before-back None x back before is_back = omega (arith, before.frames)
before-back (Some z) x back before is_back = omega (arith, before.frames, ap (λ q. q.frames) (is_back z refl))

pub returns-leave : {M : Type 0} (w : World M) (b : ArenasView M) (m slots top : ℕ) (back : Back) (es : List EntryData) → suc m ≤ length (entries_of w) → StackIs w (suc m) top es → top ≤ length w.arenas.collected →
    ((x : Entry M) → slice_get (entries_of w) m ≡ Some x → x.back ≡ back) → ReturnsTo w.arenas b (suc m) back slots → Leaves w w.store b (suc m) top
returns-leave w b m slots top back es within stack some is_back returns =
    let now : newest (take (suc m) (entries_of w)) ≡ slice_get (entries_of w) m = newest-below (entries_of w) (suc m) within in
    record {
      entries = sym (ap (take (suc m)) returns.entries ∙ take-take (suc m) (suc m) (entries_of w) (omega arith));
      marks = λ i x h at good. (good, refl);
      blocks = λ i x h at kept.
          let before : IsBefore x (newest (take (suc m) (entries_of w))) = subst (IsBefore x) (sym now) (entry-before w (suc m) top es i x stack h at) in
          returns.keeps x.back.blocks kept (omega (arith, before.slots, returns.kept)) before.trail;
      frames = λ i x h at fit.
          let before : IsBefore x (slice_get (entries_of w) m) = entry-before w (suc m) top es i x stack h at in
          let few : x.back.frames ≤ back.frames = before-back (slice_get (entries_of w) m) x back before is_back in (
            subst (λ fs. x.back.frames ≤ length fs) (sym returns.frames) (omega (arith, length-take back.frames w.arenas.frames, few, fit)),
            ap (take x.back.frames) returns.frames ∙ take-take x.back.frames back.frames w.arenas.frames few,
          );
      collected = ap (take top) (sym returns.collected);
      enough = subst (λ r. top ≤ length r) (sym returns.collected) some;
      beside = λ m. refl;
      names = λ k name has. has;
    }

-- ---- the call that the level comes back to

-- what is there agrees with a level also where it stays but in front of some slot
pub agrees-through : {M : Type 0} (w : World M) (r : Option (Entry M)) (h g : Here) (limit : ℕ) → ((z : Entry M) → r ≡ Some z → z.back.base ≤ limit) → Extend h.terms g.terms → take limit h.slots ≡ take limit g.slots →
    limit ≤ length g.slots → g.frames ≡ h.frames → agrees_from w r h → agrees_from w r g
agrees-through w None h g limit inside terms slots long frames agrees = tt
agrees-through w (Some z) h g limit inside terms slots long frames agrees =
    (λ n t is. terms n t (agrees.0 n t is), agrees.1 ∙ take-agrees z.back.base limit h.slots g.slots (inside z refl) slots, omega (arith, inside z refl, long), ap (take z.back.frames) frames ∙ agrees.3)

get-of-drop : {X : Type 0} (xs : List X) (n : ℕ) (x : X) (ys : List X) → x ∷ ys ≡ drop n xs → slice_get xs n ≡ Some x
get-of-drop [] zero x ys is = absurd cc
get-of-drop [] (suc n) x ys is = absurd cc
get-of-drop (z ∷ xs) zero x ys is = cc
get-of-drop (z ∷ xs) (suc n) x ys is = get-of-drop xs n x ys is

one-rule : (r : Option Rule) (p q : Rule) → r ≡ Some p → r ≡ Some q → p ≡ q
one-rule r p q h k = cc

-- the rule with a call's number is that of its clause
pub rule-of : {M : Type 0} (w : World M) (p number : ℕ) (called : Called) (c : ClauseTree) (cs : List ClauseTree) (rule : Rule) → IsCodeOf w.loaded.code (tables_in w.loaded) w.store.names w.loaded.preds →
    (is : RulesLeft w.loaded p number called (c ∷ cs)) → slice_get w.loaded.code.rules.items number ≡ Some rule → IsRuleOf w.loaded.code (tables_in w.loaded) w.store.names is.pred c rule
rule-of w p number called c cs rule code is found =
    let in_tables : IsPredicateOf w.loaded.code (tables_in w.loaded) w.store.names is.pred is.predicate = predicate-of w p number called (c ∷ cs) code is in
    let at : slice_get is.pred.clauses (number - is.predicate.first) ≡ Some c = get-of-drop is.pred.clauses (number - is.predicate.first) c cs is.rules in
    let r : (r : Rule) × (slice_get w.loaded.code.rules.items (is.predicate.first + (number - is.predicate.first)) ≡ Some r) × IsRuleOf w.loaded.code (tables_in w.loaded) w.store.names is.pred c r =
    in_tables.each (number - is.predicate.first) c at in
    let same : is.predicate.first + (number - is.predicate.first) ≡ number = omega (arith, is.from) in
    subst (IsRuleOf w.loaded.code (tables_in w.loaded) w.store.names is.pred c)
    (one-rule (slice_get w.loaded.code.rules.items number) r.0 rule (ap (slice_get w.loaded.code.rules.items) (sym same) ∙ r.1) found) r.2

-- the rule with a call's number stands there
pub rule-found : {M : Type 0} (w : World M) (p number : ℕ) (called : Called) (c : ClauseTree) (cs : List ClauseTree) → IsCodeOf w.loaded.code (tables_in w.loaded) w.store.names w.loaded.preds →
    (is : RulesLeft w.loaded p number called (c ∷ cs)) → (r : Rule) × (slice_get w.loaded.code.rules.items number ≡ Some r)
rule-found w p number called c cs code is =
    let in_tables : IsPredicateOf w.loaded.code (tables_in w.loaded) w.store.names is.pred is.predicate = predicate-of w p number called (c ∷ cs) code is in
    let at : slice_get is.pred.clauses (number - is.predicate.first) ≡ Some c = get-of-drop is.pred.clauses (number - is.predicate.first) c cs is.rules in
    let r : (r : Rule) × (slice_get w.loaded.code.rules.items (is.predicate.first + (number - is.predicate.first)) ≡ Some r) × IsRuleOf w.loaded.code (tables_in w.loaded) w.store.names is.pred c r =
    in_tables.each (number - is.predicate.first) c at in
    let same : is.predicate.first + (number - is.predicate.first) ≡ number = omega (arith, is.from) in
    (r.0, ap (slice_get w.loaded.code.rules.items) (sym same) ∙ r.1)

-- the block of the rule that a level stands for
pub rule-block : {M : Type 0} (w : World M) (p number base : ℕ) (called : Called) (c : ClauseTree) (cs : List ClauseTree) (rule : Rule) → IsCodeOf w.loaded.code (tables_in w.loaded) w.store.names w.loaded.preds →
    (is : RulesLeft w.loaded p number called (c ∷ cs)) → slice_get w.loaded.code.rules.items number ≡ Some rule → rule_block w.loaded p number base ≡ clause_block base is.pred c
rule-block w p number base called c cs rule code is found =
    guard-ends w p base number is.pred.arity is.predicate c rule is.is_predicate found (predicate-of w p number called (c ∷ cs) code is).arity (rule-of w p number called c cs rule code is found).slots

-- what is there once the level's goal is given back
pub record GuardBack {M : Type 0} (w : World M) (m p number : ℕ) (called : Called) (c : ClauseTree) (cs : List ClauseTree) (s : State) (k : List Frame) (below : List EntryData) (back : Back) : Type 0 where
  pub own : GuardEntry w m (length w.arenas.collected) p number called c cs s k below
  pub is_back : own.entry.back ≡ back
  pub agrees : agrees_from w (Some own.entry) (now_here w)

pub guard-back : {M : Type 0} (w : World M) (b : ArenasView M) (m slots p number : ℕ) (called : Called) (c : ClauseTree) (cs : List ClauseTree) (s : State) (k : List Frame) (below : List EntryData) (back : Back) →
    suc m ≤ length (entries_of w) → StackIs w (suc m) (length w.arenas.collected) (strict (guard_level called c cs) (back_to [] s k) ∷ below) → ((x : Entry M) → slice_get (entries_of w) m ≡ Some x → x.back ≡ back) →
    back.kind ≡ Kind.Strict (Strict.Guard p number) → ReturnsTo w.arenas b (suc m) back slots → Agrees w (suc m) (now_here w) → back.base ≤ max slots b.blocks.kept →
    GuardBack (moved w w.store b) m p number called c cs s k below back
guard-back w b m slots p number called c cs s k below back within stack is_back is_kind returns agrees in_front =
    let top : ℕ = length w.arenas.collected in
    let y : EntryData = strict (guard_level called c cs) (back_to [] s k) in
    let after : World _ = moved w w.store b in
    let leaves : Leaves w w.store b (suc m) top = returns-leave w b m slots top back (y ∷ below) within stack (omega arith) is_back returns in
    let still : (x : Entry _) → slice_get b.entries m ≡ Some x → x.back ≡ back = λ x at. is_back x (slice-take (entries_of w) b.entries (suc m) m (omega arith) leaves.entries ∙ at) in
    let moved_stack : StackIs after (suc m) (length b.collected) (y ∷ below) =
    subst (λ n. StackIs after (suc m) n (y ∷ below)) (ap length (sym returns.collected)) (stack-moves w w.store b (suc m) top (suc m) top (y ∷ below) leaves (omega arith) (omega arith) stack) in
    let own : GuardEntry after m (length b.collected) p number called c cs s k below =
    guard-entry after m (length b.collected) p number called c cs s k below (λ x at. ap (λ q. q.kind) (still x at) ∙ is_kind) moved_stack in
    let same : own.entry.back ≡ back = still own.entry own.at in
    let now : agrees_from after (Some own.entry) (now_here w) =
    subst (λ r. agrees_from after r (now_here w)) own.at (agrees-moves w w.store b (suc m) top (suc m) top (suc m) (y ∷ below) (now_here w) (now_here w) leaves (omega arith) stack (omega arith) refl agrees) in
    record {
      own = own;
      is_back = same;
      agrees = (
        now.0,
        now.1 ∙ sym (ap (take own.entry.back.base) returns.held ∙ take-take own.entry.back.base (max slots b.blocks.kept) w.arenas.blocks.slots (omega (arith, in_front, ap (λ q. q.base) same))),
        subst (λ xs. own.entry.back.base ≤ length xs) (sym returns.held) (omega (arith, length-take (max slots b.blocks.kept) w.arenas.blocks.slots, now.2, in_front, ap (λ q. q.base) same)),
        ap (take own.entry.back.frames) returns.frames ∙ take-take own.entry.back.frames back.frames w.arenas.frames (omega (arith, ap (λ q. q.frames) same)) ∙ now.3,
      );
    }
