-- A level's entry that waits for something else, with entries above it: a number that grows, or values that are collected.
use Rattle.std.proofs.Common.{◌≡◌, ◌≢◌, ◌⊎◌, inl, inr, ℕ, zero, suc, ◌+◌, ◌≤◌, List, [], ◌∷◌, ◌++◌, Option, Some, None, length, take, refl, sym, ◌∙◌, ap, subst, arith}
use Rattle.std.specs.Prelude.{slice_get, slice_set}
use Rattle.std.proofs.lemmas.List.{take-set, take_all, length-set, length-append}
use Rattle.pi_terms.specs.Tree.{Tree}
use Rattle.pi_constraints.specs.State.{State}
use Rattle.pi_core.specs.GoalTree.{GoalTree}
use Rattle.pi_engine_arenas.specs.declared.arenas.Kind.{Kind}
use Rattle.pi_engine_arenas.specs.Blocks.{brought_back}
use Rattle.pi_engine_arenas.specs.Arenas.{ArenasView, entry_at, slots_kept_by, with_kind}
use Rattle.pi_engine_arenas.specs.declared.arenas.Entry.{Entry}
use Rattle.pi_meaning.specs.Machine.Configuration.{Entry as EntryData, choice, strict, catch_level, left, Strict, Back as BackData}
use Rattle.pi_meaning.specs.Machine.Shape.{open_level}
use Rattle.pi_engine_stands.specs.Here.{Here}
use Rattle.pi_engine_stands.specs.Stands.{World, Loaded, entries_of, ends_of, entry_ends, back_here, agrees_from, Agrees, KindIs, rules_kind, facts_kind, branches_kind, alternatives_kind, once_kind, not_kind, if_kind, guard_kind, apply_kind, collect_kind, count_kind, search_kind, catch_kind, exit_kind, KeepsFound, EntryIs, IsAbove, StackIs, entry_above, StackStands}
use Rattle.pi_constraints.specs.Store.{Extend}
use Rattle.pi_meaning.proofs.Machine.StackLemmas.{IsClosed}
use Rattle.pi_terms.proofs.OptionLemmas.{one-some}
use Rattle.pi_engine_stands.proofs.StandsLemmas.{moved, here_of, stack-moves, kind-order}
use Rattle.pi_engine_stands.proofs.CallEntries.{get-set, above-kind}

-- the arenas where the entry i, counted from 0, waits for something else, and these values are collected
abbrev pub altered : {M : Type 0} → ArenasView M → ℕ → Entry M → Kind → List Tree → ArenasView M
altered a i x kind c = record { frames = a.frames; blocks = a.blocks; entries = slice_set a.entries i (with_kind x kind); level = a.level; collected = c }

abbrev pub after_altering : {M : Type 0} → World M → ℕ → Entry M → Kind → List Tree → World M
after_altering w i x kind c = moved w w.store (altered w.arenas i x kind c)

-- ---- entries are the same, but for what one waits for; how its level ends stays

pub data Alike {M : Type 0} (l : Loaded) : Option (Entry M) → Option (Entry M) → Type 0 where
  alike_same : {r : Option (Entry M)} → Alike l r r
  alike_kind : (x : Entry M) (kind : Kind) → ((base : ℕ) → ends_of l kind base ≡ ends_of l x.back.kind base) → Alike l (Some x) (Some (with_kind x kind))

get-other : {A : Type 0} (xs : List A) (i j : ℕ) (y : A) → j ≢ i → slice_get (slice_set xs i y) j ≡ slice_get xs j
get-other [] i j y other = refl
get-other (x ∷ xs) zero zero y other = absurd (other refl)
get-other (x ∷ xs) zero (suc j) y other = refl
get-other (x ∷ xs) (suc i) zero y other = refl
get-other (x ∷ xs) (suc i) (suc j) y other = get-other xs i j y (λ same. other (ap suc same))

same-or-not : (i j : ℕ) → (j ≡ i) ⊎ (j ≢ i)
same-or-not zero zero = inl refl
same-or-not zero (suc j) = inr (λ h. absurd (omega (arith, h)))
same-or-not (suc i) zero = inr (λ h. absurd (omega (arith, h)))
same-or-not (suc i) (suc j) = elim (same-or-not i j) as (λ o. (suc j ≡ suc i) ⊎ (suc j ≢ suc i)) [ inl same ↦ inl (ap suc same) | inr other ↦ inr (λ h. other (omega (arith, h))) ]

alike-at : {M : Type 0} (w : World M) (i n : ℕ) (x : Entry M) (kind : Kind) → slice_get (entries_of w) i ≡ Some x → ((base : ℕ) → ends_of w.loaded kind base ≡ ends_of w.loaded x.back.kind base) →
    Alike w.loaded (entry_at (entries_of w) n) (entry_at (slice_set (entries_of w) i (with_kind x kind)) n)
alike-at w i zero x kind at ends = alike_same
alike-at w i (suc j) x kind at ends =
    elim (same-or-not i j) as (λ o. Alike w.loaded (slice_get (entries_of w) j) (slice_get (slice_set (entries_of w) i (with_kind x kind)) j)) [
      | inl same ↦ subst (λ m. Alike w.loaded (slice_get (entries_of w) m) (slice_get (slice_set (entries_of w) i (with_kind x kind)) m)) (sym same)
          (subst (λ r. Alike w.loaded r (slice_get (slice_set (entries_of w) i (with_kind x kind)) i)) (sym at)
          (subst (λ r. Alike w.loaded (Some x) r) (sym (get-set (entries_of w) i x (with_kind x kind) at)) (alike_kind x kind ends)))
      | inr other ↦ subst (λ r. Alike w.loaded (slice_get (entries_of w) j) r) (sym (get-other (entries_of w) i j (with_kind x kind) other)) alike_same
    ]

alike-ends : {M : Type 0} (l : Loaded) (r q : Option (Entry M)) → Alike l r q → entry_ends l q ≡ entry_ends l r
alike-ends l r q alike_same = refl
alike-ends l r q (alike_kind x kind ends) = ends x.back.base

alike-kept : {M : Type 0} (l : Loaded) (r q : Option (Entry M)) → Alike l r q → slots_kept_by q ≡ slots_kept_by r
alike-kept l r q alike_same = refl
alike-kept l r q (alike_kind x kind ends) = refl

-- what an entry brings back
back-alike : {M : Type 0} (w : World M) (i : ℕ) (x z : Entry M) (kind : Kind) (c : List Tree) → slice_get (entries_of w) i ≡ Some x → ((base : ℕ) → ends_of w.loaded kind base ≡ ends_of w.loaded x.back.kind base) →
    back_here (after_altering w i x kind c) z ≡ back_here w z
back-alike w i x z kind c at ends =
    ap (here_of (w.store.at_mark z.mark).terms (brought_back z.back.blocks w.arenas.blocks) (take z.back.frames w.arenas.frames))
    (alike-ends w.loaded (entry_at (entries_of w) z.back.level) (entry_at (slice_set (entries_of w) i (with_kind x kind)) z.back.level) (alike-at w i z.back.level x kind at ends))

agrees-alike : {M : Type 0} (w : World M) (i : ℕ) (x : Entry M) (kind : Kind) (c : List Tree) (r q : Option (Entry M)) (h : Here) → slice_get (entries_of w) i ≡ Some x →
    ((base : ℕ) → ends_of w.loaded kind base ≡ ends_of w.loaded x.back.kind base) → Alike w.loaded r q → agrees_from w r h → agrees_from (after_altering w i x kind c) q h
agrees-alike w i x kind c None q h at ends alike_same agrees = tt
agrees-alike w i x kind c (Some z) q h at ends alike_same agrees =
    subst (λ b. Extend b.terms h.terms × (take z.back.base b.slots ≡ take z.back.base h.slots) × (z.back.base ≤ length h.slots) × (take z.back.frames h.frames ≡ b.frames)) (sym (back-alike w i x z kind c at ends)) agrees
agrees-alike w i x kind c r q h at ends (alike_kind z k same) agrees =
    subst (λ b. Extend b.terms h.terms × (take z.back.base b.slots ≡ take z.back.base h.slots) × (z.back.base ≤ length h.slots) × (take z.back.frames h.frames ≡ b.frames)) (sym (back-alike w i x (with_kind z k) kind c at ends)) agrees

above-alike : {M : Type 0} (w : World M) (l : Loaded) (r q : Option (Entry M)) (z : Entry M) → Alike l r q → IsAbove w r z → IsAbove w q z
above-alike w l r q z alike_same above = above
above-alike w l r q z (alike_kind x kind ends) above = above

above-after : {M : Type 0} (w : World M) (a : ArenasView M) (r : Option (Entry M)) (z : Entry M) → IsAbove w r z → IsAbove (moved w w.store a) r z
above-after w a None z above = tt
above-after w a (Some y) z above = above

-- ---- each entry of the stack

entry-alike : {M : Type 0} (w : World M) (i m from to above over : ℕ) (x z : Entry M) (kind : Kind) (c : List Tree) (y y' : EntryData) (es es' : List EntryData) → slice_get (entries_of w) i ≡ Some x →
    ((base : ℕ) → ends_of w.loaded kind base ≡ ends_of w.loaded x.back.kind base) → EntryIs w es (entry_at (entries_of w) m) from to z y → open_level zero es' ≡ open_level zero es →
    KindIs w.loaded c (back_here w z) (w.store.at_mark z.mark).state z.back.base z.back.frame z.back.blocks.slots above over z.back.kind y' →
    (KeepsFound w.store z.mark y → KeepsFound w.store z.mark y') →
    EntryIs (after_altering w i x kind c) es' (entry_at (slice_set (entries_of w) i (with_kind x kind)) m) above over z y'
entry-alike w i m from to above over x z kind c y y' es es' at ends is level kind_is found =
    let after : World _ = after_altering w i x kind c in
    record {
      good = is.good;
      state = is.state;
      tables = is.tables;
      level = is.level ∙ sym level;
      kept = is.kept;
      frames = is.frames;
      agrees = subst (λ h. Agrees after z.back.level h) (sym (back-alike w i x z kind c at ends))
          (agrees-alike w i x kind c (entry_at (entries_of w) z.back.level) (entry_at (slice_set (entries_of w) i (with_kind x kind)) z.back.level) (back_here w z) at ends (alike-at w i z.back.level x kind at ends) is.agrees);
      kind = subst (λ h. KindIs w.loaded c h (w.store.at_mark z.mark).state z.back.base z.back.frame z.back.blocks.slots above over z.back.kind y') (sym (back-alike w i x z kind c at ends)) kind_is;
      older = above-after w (altered w.arenas i x kind c) (entry_at (slice_set (entries_of w) i (with_kind x kind)) m) z
          (above-alike w w.loaded (entry_at (entries_of w) m) (entry_at (slice_set (entries_of w) i (with_kind x kind)) m) z (alike-at w i m x kind at ends) is.older);
      found = found is.found;
    }

-- the entry itself, which stands for something else
entry-itself : {M : Type 0} (w : World M) (i from top over : ℕ) (x : Entry M) (kind : Kind) (c : List Tree) (y y' : EntryData) (es : List EntryData) → slice_get (entries_of w) i ≡ Some x →
    ((base : ℕ) → ends_of w.loaded kind base ≡ ends_of w.loaded x.back.kind base) → EntryIs w es (entry_at (entries_of w) i) from top x y →
    KindIs w.loaded c (back_here w x) (w.store.at_mark x.mark).state x.back.base x.back.frame x.back.blocks.slots from over kind y' →
    (KeepsFound w.store x.mark y → KeepsFound w.store x.mark y') →
    EntryIs (after_altering w i x kind c) es (entry_at (slice_set (entries_of w) i (with_kind x kind)) i) from over (with_kind x kind) y'
entry-itself w i from top over x kind c y y' es at ends is kind_is found =
    let after : World _ = after_altering w i x kind c in
    let back : back_here after (with_kind x kind) ≡ back_here w x = back-alike w i x (with_kind x kind) kind c at ends in
    record {
      good = is.good;
      state = is.state;
      tables = is.tables;
      level = is.level;
      kept = is.kept;
      frames = is.frames;
      agrees = subst (λ h. Agrees after x.back.level h) (sym back)
          (agrees-alike w i x kind c (entry_at (entries_of w) x.back.level) (entry_at (slice_set (entries_of w) i (with_kind x kind)) x.back.level) (back_here w x) at ends (alike-at w i x.back.level x kind at ends) is.agrees);
      kind = subst (λ h. KindIs w.loaded c h (w.store.at_mark x.mark).state x.back.base x.back.frame x.back.blocks.slots from over kind y') (sym back) kind_is;
      older = above-after w (altered w.arenas i x kind c) (entry_at (slice_set (entries_of w) i (with_kind x kind)) i) (with_kind x kind)
          (above-kind w (entry_at (slice_set (entries_of w) i (with_kind x kind)) i) x kind
          (above-alike w w.loaded (entry_at (entries_of w) i) (entry_at (slice_set (entries_of w) i (with_kind x kind)) i) x (alike-at w i i x kind at ends) is.older));
      found = found is.found;
    }

-- an entry that is no strict level has nothing of its own among the values
kind-shifts : (l : Loaded) (c d : List Tree) (h : Here) (t : State) (base frame slots from to over : ℕ) (kind : Kind) (y : EntryData) → ((s : Strict) (b : BackData) → y ≢ strict s b) → KindIs l c h t base frame slots from to kind y →
    KindIs l d h t base frame slots over over kind y × (from ≡ to)
kind-shifts l c d h t base frame slots from to over kind y lies (rules_kind is fits one) = (rules_kind is fits refl, one)
kind-shifts l c d h t base frame slots from to over kind y lies (facts_kind is fits one) = (facts_kind is fits refl, one)
kind-shifts l c d h t base frame slots from to over kind y lies (branches_kind is at here last count one) = (branches_kind is at here last count refl, one)
kind-shifts l c d h t base frame slots from to over kind y lies (alternatives_kind own are one) = (alternatives_kind own are refl, one)
kind-shifts l c d h t base frame slots from to over kind y lies (once_kind own one) = absurd (lies _ _ refl)
kind-shifts l c d h t base frame slots from to over kind y lies (not_kind own one) = absurd (lies _ _ refl)
kind-shifts l c d h t base frame slots from to over kind y lies (if_kind own one) = absurd (lies _ _ refl)
kind-shifts l c d h t base frame slots from to over kind y lies (guard_kind call fits one) = absurd (lies _ _ refl)
kind-shifts l c d h t base frame slots from to over kind y lies (apply_kind own free args fit one) = absurd (lies _ _ refl)
kind-shifts l c d h t base frame slots from to over kind y lies (collect_kind own order some) = absurd (lies _ _ refl)
kind-shifts l c d h t base frame slots from to over kind y lies (count_kind own one) = absurd (lies _ _ refl)
kind-shifts l c d h t base frame slots from to over kind y lies (search_kind own labels held fit order one) = absurd (lies _ _ refl)
kind-shifts l c d h t base frame slots from to over kind y lies (catch_kind own stays one) = (catch_kind own stays refl, one)
kind-shifts l c d h t base frame slots from to over kind y lies (exit_kind one) = (exit_kind refl, one)

no-choice : (c : _) (b d : BackData) (s : Strict) → choice c b ≡ strict s d → ⊥
no-choice c b d s h = cc

no-catch : (ball : Tree) (handler : GoalTree) (b d : BackData) (s : Strict) → catch_level ball handler b ≡ strict s d → ⊥
no-catch ball handler b d s h = cc

no-left : (d : BackData) (s : Strict) → left ≡ strict s d → ⊥
no-left d s h = cc

-- entries above the level are no strict levels
closed-first : (n : ℕ) (y : EntryData) (above : List EntryData) → IsClosed n (y ∷ above) → (s : Strict) (b : BackData) → y ≢ strict s b
unfolding IsClosed
closed-first n (choice c b) above closed s d = no-choice c b d s
closed-first n (strict t b) above closed s d = absurd closed
closed-first n (catch_level ball handler b) above closed s d = no-catch ball handler b d s
closed-first n left above closed s d = no-left d s

closed-rest : (n : ℕ) (y : EntryData) (above : List EntryData) → IsClosed n (y ∷ above) → (m : ℕ) × IsClosed m above
unfolding IsClosed
closed-rest n (choice c b) above closed = (n, closed)
closed-rest n (strict t b) above closed = absurd closed
closed-rest zero (catch_level ball handler b) above closed = absurd closed
closed-rest (suc n) (catch_level ball handler b) above closed = (n, closed)
closed-rest n left above closed = (suc n, closed)

-- the open level is where it was
pub open-altered : (n : ℕ) (above below : List EntryData) (s t : Strict) (b d : BackData) → open_level n (above ++ strict t d ∷ below) ≡ open_level n (above ++ strict s b ∷ below)
unfolding open_level
open-altered zero [] below s t b d = refl
open-altered (suc n) [] below s t b d = refl
open-altered n (choice c f ∷ above) below s t b d = open-altered n above below s t b d
open-altered zero (strict r f ∷ above) below s t b d = ap suc (length-append above (strict t d ∷ below) ∙ sym (length-append above (strict s b ∷ below)))
open-altered (suc n) (strict r f ∷ above) below s t b d = open-altered (suc n) above below s t b d
open-altered zero (catch_level ball handler f ∷ above) below s t b d = ap suc (length-append above (strict t d ∷ below) ∙ sym (length-append above (strict s b ∷ below)))
open-altered (suc n) (catch_level ball handler f ∷ above) below s t b d = open-altered n above below s t b d
open-altered n (left ∷ above) below s t b d = open-altered (suc n) above below s t b d

-- what changes of the entry
pub record Alters {M : Type 0} (w : World M) (i : ℕ) (x : Entry M) (kind : Kind) (c : List Tree) (s t : Strict) (b : BackData) : Type 0 where
  pub at : slice_get (entries_of w) i ≡ Some x
  pub ends : (base : ℕ) → ends_of w.loaded kind base ≡ ends_of w.loaded x.back.kind base
  pub more : take (length w.arenas.collected) c ≡ w.arenas.collected
  pub long : length w.arenas.collected ≤ length c
  pub waits : (from : ℕ) →
      KindIs w.loaded w.arenas.collected (back_here w x) (w.store.at_mark x.mark).state x.back.base x.back.frame x.back.blocks.slots from (length w.arenas.collected) x.back.kind (strict s b) →
      KindIs w.loaded c (back_here w x) (w.store.at_mark x.mark).state x.back.base x.back.frame x.back.blocks.slots from (length c) kind (strict t b)
  pub found : KeepsFound w.store x.mark (strict s b) → KeepsFound w.store x.mark (strict t b)

below-stays : {M : Type 0} (w : World M) (i from : ℕ) (x : Entry M) (kind : Kind) (c : List Tree) (s t : Strict) (b : BackData) (es : List EntryData) → Alters w i x kind c s t b → from ≤ length w.arenas.collected →
    StackIs w i from es → StackIs (after_altering w i x kind c) i from es
below-stays w i from x kind c s t b es it order below =
    stack-moves w w.store (altered w.arenas i x kind c) i (length w.arenas.collected) i from es
    (record {
      entries = sym (take-set (entries_of w) i (with_kind x kind));
      marks = λ j z h at good. (good, refl);
      blocks = λ j z h at kept. (kept, refl);
      frames = λ j z h at few. (few, refl);
      collected = take_all (length w.arenas.collected) w.arenas.collected (omega arith) ∙ sym it.more;
      enough = it.long;
      beside = λ m. refl;
      names = λ k name has. has;
    }) (omega arith) order below

stack-itself : {M : Type 0} (w : World M) (i n top : ℕ) (x : Entry M) (kind : Kind) (c : List Tree) (s t : Strict) (b : BackData) (below : List EntryData) → Alters w i x kind c s t b → n ≡ suc i → top ≡ length w.arenas.collected →
    StackIs w n top (strict s b ∷ below) → StackIs (after_altering w i x kind c) n (length c) (strict t b ∷ below)
stack-itself w i n top x kind c s t b below it number all (entry_above m from fs z y here is under) =
    let same : m ≡ i = omega (arith, number) in
    let entry : z ≡ x = one-some (slice_get (entries_of w) i) z x (ap (slice_get (entries_of w)) (sym same) ∙ here) it.at in
    let is_it : EntryIs w below (entry_at (entries_of w) i) from (length w.arenas.collected) x (strict s b) =
    subst (λ r. EntryIs w below (entry_at (entries_of w) i) from (length w.arenas.collected) r (strict s b)) entry
    (subst (λ k. EntryIs w below (entry_at (entries_of w) i) from k z (strict s b)) all (subst (λ k. EntryIs w below (entry_at (entries_of w) k) from top z (strict s b)) same is)) in
    let order : from ≤ length w.arenas.collected =
    kind-order w.loaded w.arenas.collected (back_here w x) (w.store.at_mark x.mark).state x.back.base x.back.frame x.back.blocks.slots from (length w.arenas.collected) x.back.kind (strict s b) is_it.kind in
    subst (λ k. StackIs (after_altering w i x kind c) (suc k) (length c) (strict t b ∷ below)) (sym same)
    (entry_above i from below (with_kind x kind) (strict t b) (get-set (entries_of w) i x (with_kind x kind) it.at)
    (entry-itself w i from (length w.arenas.collected) (length c) x kind c (strict s b) (strict t b) below it.at it.ends is_it (it.waits from is_it.kind) it.found)
    (below-stays w i from x kind c s t b below it order (subst (λ k. StackIs w k from below) same under)))

stack-altered : {M : Type 0} (w : World M) (i n top k : ℕ) (x : Entry M) (kind : Kind) (c : List Tree) (s t : Strict) (b : BackData) (above below : List EntryData) → Alters w i x kind c s t b → IsClosed k above → n ≡ length above + suc i →
    top ≡ length w.arenas.collected → StackIs w n top (above ++ strict s b ∷ below) → StackIs (after_altering w i x kind c) n (length c) (above ++ strict t b ∷ below)
stack-altered w i n top k x kind c s t b [] below it closed number all stack = stack-itself w i n top x kind c s t b below it (omega (arith, number)) all stack
stack-altered w i n top k x kind c s t b (y ∷ above) below it closed number all (entry_above m from fs z u here is under) =
    let over : ℕ = length c in
    let shifts : KindIs w.loaded c (back_here w z) (w.store.at_mark z.mark).state z.back.base z.back.frame z.back.blocks.slots over over z.back.kind y × (from ≡ top) =
    kind-shifts w.loaded w.arenas.collected c (back_here w z) (w.store.at_mark z.mark).state z.back.base z.back.frame z.back.blocks.slots from top over z.back.kind y (closed-first k y above closed) is.kind in
    let rest : (j : ℕ) × IsClosed j above = closed-rest k y above closed in
    entry_above m over (above ++ strict t b ∷ below) z y (get-other (entries_of w) i m (with_kind x kind) (λ same. absurd (omega (arith, same, number))) ∙ here)
    (entry-alike w i m from top over over x z kind c y y (above ++ strict s b ∷ below) (above ++ strict t b ∷ below) it.at it.ends is (open-altered zero above below s t b b) shifts.0 (λ has. has))
    (stack-altered w i m from rest.0 x kind c s t b above below it rest.1 (omega (arith, number)) (shifts.1 ∙ all) under)

-- the whole stack
pub altered-stands : {M : Type 0} (w : World M) (i k : ℕ) (x : Entry M) (kind : Kind) (c : List Tree) (s t : Strict) (b : BackData) (above below : List EntryData) → Alters w i x kind c s t b → IsClosed k above →
    length (entries_of w) ≡ length above + suc i → StackStands w (above ++ strict s b ∷ below) → StackStands (after_altering w i x kind c) (above ++ strict t b ∷ below)
altered-stands w i k x kind c s t b above below it closed number stands =
    let n : ℕ = length (entries_of w) in
    let a : ArenasView _ = altered w.arenas i x kind c in
    let long : length a.entries ≡ n = length-set (entries_of w) i (with_kind x kind) in
    record {
      code = stands.code;
      state = stands.state;
      tables = stands.tables;
      level = stands.level ∙ sym (open-altered zero above below s t b b);
      kept = stands.kept ∙ sym (alike-kept w.loaded (entry_at (entries_of w) n) (entry_at a.entries n) (alike-at w i n x kind it.at it.ends)) ∙ ap (λ m. slots_kept_by (entry_at a.entries m)) (sym long);
      stack = subst (λ m. StackIs (after_altering w i x kind c) m (length c) (above ++ strict t b ∷ below)) (sym long)
          (stack-altered w i n (length w.arenas.collected) k x kind c s t b above below it closed number refl stands.stack);
    }
