-- A rule whose condition has an answer, once what was made for the condition is given back.
use Rattle.std.proofs.Common.{◌≡◌, ℕ, zero, suc, ◌+◌, ◌≤◌, max, Bool, true, List, [], ◌∷◌, Option, Some, None, length, take, drop, refl, sym, ◌∙◌, ap, subst, arith}
use Rattle.std.specs.Prelude.{slice_get}
use Rattle.std.proofs.lemmas.List.{length-take, length-take-le, take_all}
use Rattle.pi_terms.specs.Places.{Places}
use Rattle.pi_constraints.specs.State.{State}
use Rattle.pi_engine_stands.specs.Rests.{Rests}
use Rattle.pi_core.specs.CoreTree.{ClauseTree}
use Rattle.pi_engine_arenas.specs.declared.arenas.Back.{Back}
use Rattle.pi_engine_arenas.specs.declared.blocks.BlocksMark.{BlocksMark}
use Rattle.pi_engine_code.specs.declared.code.Rule.{Rule}
use Rattle.pi_engine_code.specs.declared.code.Predicate.{Predicate}
use Rattle.pi_engine_arenas.specs.Blocks.{BlocksView, brought_back}
use Rattle.pi_engine_arenas.specs.Frames.{frame_at}
use Rattle.pi_engine_arenas.specs.Arenas.{ArenasView, entry_at, newest, slots_kept_by}
use Rattle.pi_engine_arenas.specs.declared.arenas.Entry.{Entry}
use Rattle.pi_meaning.specs.Machine.Configuration.{Frame, Called, strict, guard_level, Entry as EntryData}
use Rattle.pi_meaning.specs.Machine.Step.{back_to}
use Rattle.pi_engine_stands.specs.Here.{Holds}
use Rattle.pi_engine_stands.specs.Stands.{World, tables_in, steps_of, entries_of, now_here, back_here, level_ends, Agrees, IsCodeOf, rule_block, clause_block}
use Rattle.pi_constraints.specs.Store.{Extend}
use Rattle.pi_engine_stands.specs.Tries.{RulesLeft, own_entry, Applies, ReturnsTo, GuardAnswers}
use Rattle.pi_terms.proofs.ListLemmas.{take-take}
use Rattle.pi_engine_arenas.proofs.BlocksLemmas.{brought_back-is, length-slots_before}
use Rattle.pi_engine_stands.proofs.HereLemmas.{Moves, goes_on-moves, holds-moves}
use Rattle.pi_engine_stands.proofs.StandsLemmas.{moved, open_level-within, entry_at-take}
use Rattle.pi_engine_stands.proofs.RulesTaken.{left-of}
use Rattle.pi_engine_stands.proofs.GuardsAnswered.{GuardEntry, guard-entry, GuardBack, guard-back, agrees-through, rule-of, rule-found, rule-block}

brought-few : (m : BlocksMark) (b : BlocksView) → length (brought_back m b) ≤ m.slots
brought-few m b = omega (arith, ap length (brought_back-is m b), length-slots_before (drop m.trail b.trail) (take m.slots b.slots), length-take m.slots b.slots)

-- what is true of a run, whatever runs
pub record GuardFacts {M : Type 0} (w : World M) : Type 0 where
  pub code : IsCodeOf w.loaded.code (tables_in w.loaded) w.store.names w.loaded.preds
  pub state : Rests w.store.now.state
  pub tables : Extend w.loaded.terms w.store.now.terms

-- the call, with the slots that its rule's head has filled
pub call-back : {M : Type 0} (w : World M) (m p number : ℕ) (called : Called) (c : ClauseTree) (cs : List ClauseTree) (s : State) (k : List Frame) (below : List EntryData) (back : Back) (predicate : Predicate) (rule : Rule) (e : Places) →
    (is : GuardBack w m p number called c cs s k below back) → w.arenas.level ≡ back.level → w.arenas.blocks.kept ≡ slots_kept_by (newest (entries_of w)) → length (entries_of w) ≡ suc m → m ≡ length below →
    length w.arenas.frames ≤ back.frames → ((z : Entry M) → entry_at (entries_of w) back.level ≡ Some z → z.back.base ≤ back.base) → GuardFacts w →
    slice_get w.loaded.code.rules.items number ≡ Some rule → ((q : Predicate) → slice_get w.loaded.code.predicates.items p ≡ Some q → predicate ≡ q) →
    Holds w.store.now.terms w.arenas.blocks.slots (rule_block w.loaded p number back.base) e →
    Applies w p back.base back.frame number called c cs s k below true predicate rule e
call-back w m p number called c cs s k below back predicate rule e is level kept count_is depth few inside facts found known slots =
    let x : Entry _ = is.own.entry in
    let left : RulesLeft w.loaded p number called (c ∷ cs) = left-of w.loaded (back_here w x) x.back.base p number called (c ∷ cs) is.own.call.call in
    let begins : x.back.base ≡ back.base = ap (λ q. q.base) is.is_back in
    let block : rule_block w.loaded p number back.base ≡ clause_block x.back.base left.pred c =
    ap (rule_block w.loaded p number) (sym begins) ∙ rule-block w p number x.back.base called c cs rule facts.code left found in
    let holds : Holds w.store.now.terms w.arenas.blocks.slots (clause_block x.back.base left.pred c) e = subst (λ b. Holds w.store.now.terms w.arenas.blocks.slots b e) block slots in
    let all : take x.back.frames w.arenas.frames ≡ w.arenas.frames = take_all x.back.frames w.arenas.frames (omega (arith, few, ap (λ q. q.frames) is.is_back)) in
    let opens : w.arenas.level ≡ x.back.level = level ∙ ap (λ q. q.level) (sym is.is_back) in
    let newest_is : newest (entries_of w) ≡ Some x = ap (entry_at (entries_of w)) count_is ∙ is.own.at in
    let moves : Moves (back_here w x) (now_here w) x.back.base x.back.frame =
    record { long = is.agrees.2; slots = is.agrees.1; terms = is.agrees.0; frames = λ n q h at. subst (λ fs. frame_at fs n ≡ Some q) all at } in
    subst (λ q. Applies w p q.base q.frame number called c cs s k below true predicate rule e) is.is_back
    (record {
      is = record {
        code = facts.code;
        state = facts.state;
        tables = facts.tables;
        level = opens ∙ is.own.is.level;
        kept = kept;
        call = record {
          call = left;
          fits = omega (arith, holds.within);
          frames = goes_on-moves (tables_in w.loaded) (steps_of w.loaded) (back_here w x) (now_here w) (record { base = x.back.base; first = left.pred.arity; count = 0 }) true x.back.frame k x.back.base x.back.frame
              (omega arith) (omega arith) moves (ap (level_ends w) (sym opens)) is.own.call.frames;
          returns = is.own.call.returns;
          alone = is.own.call.alone;
        };
        agrees = subst (λ n. Agrees w n (now_here w)) (sym opens)
            (agrees-through w (entry_at (entries_of w) x.back.level) (back_here w x) (now_here w) x.back.base
            (λ z at. omega (arith, inside z (ap (λ q. entry_at (entries_of w) q.level) (sym is.is_back) ∙ at), begins)) is.agrees.0 is.agrees.1 is.agrees.2 (sym all) is.own.is.agrees);
        over = omega (arith, kept, ap slots_kept_by newest_is, is.own.over);
        inside = λ z at. omega (arith, inside z (ap (entry_at (entries_of w)) (sym level) ∙ at), begins);
        entry = own_entry (record {
          below = m;
          entry = x;
          stood = strict (guard_level called c cs) (back_to [] s k);
          all = count_is;
          at = is.own.at;
          is = is.own.is;
          begins = refl;
          goes_on = refl;
          state = is.own.state;
          call = is.own.call;
          over = is.own.over;
          agrees = is.agrees;
          stack = is.own.stack;
        });
      };
      is_predicate = sym (known left.predicate left.is_predicate);
      is_rule = rule-of w p number called c cs rule facts.code left found;
      found = found;
      slots = holds;
    })

guard-taken-at : {M : Type 0} (w : World M) (b : ArenasView M) (p number slots : ℕ) (back : Back) (called : Called) (c : ClauseTree) (cs : List ClauseTree) (s : State) (k : List Frame) (below : List EntryData) (predicate : Predicate) (rule : Rule) (e : Places) →
    GuardAnswers w (suc (length below)) back p number called c cs s k below e → ReturnsTo w.arenas b (suc (length below)) back slots → slice_get w.loaded.code.rules.items number ≡ Some rule →
    ((q : Predicate) → slice_get w.loaded.code.predicates.items p ≡ Some q → predicate ≡ q) → ((n : ℕ) → n ≤ length w.arenas.blocks.slots → n ≤ back.blocks.slots + rule.slots → n ≤ slots) →
    Applies (moved w w.store b) p back.base back.frame number called c cs s k below true predicate rule e
guard-taken-at w b p number slots back called c cs s k below predicate rule e is returns found known fits =
    let m : ℕ = length below in
    let top : ℕ = length w.arenas.collected in
    let pre : GuardEntry w m top p number called c cs s k below = guard-entry w m top p number called c cs s k below (λ x at. ap (λ q. q.kind) (is.is_back x at) ∙ is.is_kind) is.stack in
    let x : Entry _ = pre.entry in
    let same : x.back ≡ back = is.is_back x pre.at in
    let left : RulesLeft w.loaded p number called (c ∷ cs) = left-of w.loaded (back_here w x) x.back.base p number called (c ∷ cs) pre.call.call in
    let block : rule_block w.loaded p number back.base ≡ clause_block back.base left.pred c = rule-block w p number back.base called c cs rule is.code left found in
    let holds : Holds w.store.now.terms w.arenas.blocks.slots (clause_block back.base left.pred c) e = subst (λ r. Holds w.store.now.terms w.arenas.blocks.slots r e) block is.slots in
    let end : ℕ = back.base + (left.pred.arity + c.slots) in
    let kept_slots : back.base + left.pred.arity ≤ back.blocks.slots =
    omega (arith, pre.call.call.args.within, brought-few x.back.blocks w.arenas.blocks, ap (λ q. q.base) same, ap (λ q. q.blocks.slots) same) in
    let enough : end ≤ slots = fits end holds.within (omega (arith, kept_slots, (rule-of w p number called c cs rule is.code left found).slots)) in
    let last : ℕ = max slots b.blocks.kept in
    let gb : GuardBack (moved w w.store b) m p number called c cs s k below back =
    guard-back w b m slots p number called c cs s k below back is.within is.stack is.is_back is.is_kind returns is.agrees (omega (arith, enough)) in
    let low : back.level ≤ m = omega (arith, ap (λ q. q.level) gb.is_back, gb.own.is.level, open_level-within zero below) in
    let front : take (suc m) (entries_of w) ≡ take (suc m) b.entries = sym (ap (take (suc m)) returns.entries ∙ take-take (suc m) (suc m) (entries_of w) (omega arith)) in
    let here : Holds w.store.now.terms b.blocks.slots (clause_block back.base left.pred c) e =
    holds-moves w.store.now.terms w.store.now.terms w.arenas.blocks.slots b.blocks.slots (clause_block back.base left.pred c) e end (omega arith)
    (subst (λ xs. end ≤ length xs) (sym returns.held) (omega (arith, length-take last w.arenas.blocks.slots, holds.within, enough)))
    (sym (ap (take end) returns.held ∙ take-take end last w.arenas.blocks.slots (omega (arith, enough)))) (λ n t has. has) holds in
    call-back (moved w w.store b) m p number called c cs s k below back predicate rule e gb returns.level (returns.kept ∙ ap (λ xs. slots_kept_by (newest xs)) (sym returns.entries))
    (ap length returns.entries ∙ length-take-le (suc m) (entries_of w) is.within) refl (omega (arith, ap length returns.frames, length-take back.frames w.arenas.frames))
    (λ z at. is.inside z (entry_at-take (entries_of w) b.entries (suc m) back.level (omega (arith, low)) front ∙ at)) (record { code = is.code; state = is.state; tables = is.tables }) found known
    (subst (λ r. Holds w.store.now.terms b.blocks.slots r e) (sym block) here)

-- the rule applies as it did before its condition was run
pub guard-taken : {M : Type 0} (w : World M) (b : ArenasView M) (level p number slots : ℕ) (back : Back) (called : Called) (c : ClauseTree) (cs : List ClauseTree) (s : State) (k : List Frame) (below : List EntryData) (predicate : Predicate) (rule : Rule) (e : Places) →
    GuardAnswers w level back p number called c cs s k below e → ReturnsTo w.arenas b level back slots → slice_get w.loaded.code.rules.items number ≡ Some rule →
    ((q : Predicate) → slice_get w.loaded.code.predicates.items p ≡ Some q → predicate ≡ q) → ((n : ℕ) → n ≤ length w.arenas.blocks.slots → n ≤ back.blocks.slots + rule.slots → n ≤ slots) →
    Applies (moved w w.store b) p back.base back.frame number called c cs s k below true predicate rule e
guard-taken w b level p number slots back called c cs s k below predicate rule e is returns found known fits =
    guard-taken-at w b p number slots back called c cs s k below predicate rule e (subst (λ n. GuardAnswers w n back p number called c cs s k below e) is.is_level is)
    (subst (λ n. ReturnsTo w.arenas b n back slots) is.is_level returns) found known fits

-- the rule is in the tables
pub guard-found : {M : Type 0} (w : World M) (level p number : ℕ) (back : Back) (called : Called) (c : ClauseTree) (cs : List ClauseTree) (s : State) (k : List Frame) (below : List EntryData) (e : Places) →
    GuardAnswers w level back p number called c cs s k below e → (r : Rule) × (slice_get w.loaded.code.rules.items number ≡ Some r)
guard-found w level p number back called c cs s k below e is =
    let pre : GuardEntry w (length below) (length w.arenas.collected) p number called c cs s k below =
    guard-entry w (length below) (length w.arenas.collected) p number called c cs s k below (λ x at. ap (λ q. q.kind) (is.is_back x (ap (entry_at (entries_of w)) is.is_level ∙ at)) ∙ is.is_kind) is.stack in
    rule-found w p number called c cs is.code (left-of w.loaded (back_here w pre.entry) pre.entry.back.base p number called (c ∷ cs) pre.call.call)

-- by the parts of a call
pub applies-at : {M : Type 0} (w : World M) (p q base begin frame next number : ℕ) (called : Called) (c : ClauseTree) (cs : List ClauseTree) (s : State) (k : List Frame) (es : List EntryData) (again : Bool) (predicate : Predicate) (rule : Rule) (e : Places) →
    q ≡ p → begin ≡ base → next ≡ frame → Applies w p base frame number called c cs s k es again predicate rule e → Applies w q begin next number called c cs s k es again predicate rule e
applies-at w p q base begin frame next number called c cs s k es again predicate rule e is begins goes_on applies =
    subst (λ n. Applies w n begin next number called c cs s k es again predicate rule e) (sym is)
    (subst (λ n. Applies w p n next number called c cs s k es again predicate rule e) (sym begins)
    (subst (λ n. Applies w p base n number called c cs s k es again predicate rule e) (sym goes_on) applies))

pub none-found : {X : Type 0} (r : Option Rule) (q : Rule) → r ≡ None → r ≡ Some q → X
none-found r q h k = absurd cc
