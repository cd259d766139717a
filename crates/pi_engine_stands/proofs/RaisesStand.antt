-- An exception on its way: entries that it drops, and the catches that were left.
use Rattle.std.proofs.Common.{◌≡◌, ℕ, zero, suc, ◌-◌, ◌≤◌, List, [], ◌∷◌, Some, length, take, refl, sym, ◌∙◌, ap, subst, arith}
use Rattle.std.specs.Prelude.{slice_get}
use Rattle.std.proofs.lemmas.List.{length-take, take_all, length-take-le}
use Rattle.std.proofs.lemmas.Option.{slice_get_within}
use Rattle.pi_terms.specs.Tree.{Tree}
use Rattle.pi_constraints.specs.State.{State}
use Rattle.pi_core.specs.GoalTree.{GoalTree}
use Rattle.pi_engine_arenas.specs.declared.arenas.Back.{Back}
use Rattle.pi_engine_arenas.specs.declared.arenas.Kind.{Kind}
use Rattle.pi_engine_arenas.specs.declared.run.Now.{Now}
use Rattle.pi_engine_arenas.specs.declared.run.End.{End as RunEnd}
use Rattle.pi_engine_arenas.specs.Arenas.{ArenasView, entry_at, newest, slots_kept_by, LeavesLevel, with_collected}
use Rattle.pi_engine_arenas.specs.declared.arenas.Entry.{Entry}
use Rattle.pi_meaning.specs.Machine.Configuration.{Entry as EntryData, choice, strict, catch_level, left, Back as BackData, config, raising}
use Rattle.pi_meaning.specs.Machine.Step.{silently, raise_step, below_left, Open, none_open, strict_open, newest_open}
use Rattle.pi_meaning.specs.Machine.Shape.{open_level, IsBalanced}
use Rattle.pi_engine_stands.specs.Here.{Here}
use Rattle.pi_engine_stands.specs.Stands.{World, Loaded, entries_of, back_here, KindIs, rules_kind, facts_kind, branches_kind, alternatives_kind, once_kind, not_kind, if_kind, guard_kind, apply_kind, collect_kind, count_kind, search_kind, catch_kind, exit_kind, IsAbove, StackIs, no_entries, entry_above, StackLies, raising_now}
use Rattle.pi_engine_stands.specs.Raises.{IsDropped, collected_below}
use Rattle.pi_engine_stands.specs.Fails.{ComesTo}
use Rattle.pi_terms.proofs.ListLemmas.{take-take}
use Rattle.pi_terms.proofs.OptionLemmas.{none-some, one-some, taken-is}
use Rattle.pi_engine_stands.proofs.StandsLemmas.{moved, Leaves, stack-moves, kind-order}
use Rattle.pi_engine_stands.proofs.LeaveStand.{above-frames, drops-leave}
use Rattle.pi_engine_stands.proofs.OpenStand.{OpenAt, nothing_at, strict_at, catch_at, open-at}
use Rattle.pi_meaning.proofs.Machine.EndSteps.{IsMatched, left-matched}

-- ---- entries that are dropped

-- the first so many entries stand for the rest of the stack, once those behind them are dropped
pub dropped : {M : Type 0} (w : World M) (c : List Tree) (b : ArenasView M) (i from : ℕ) (x : Entry M) (es fs : List EntryData) → StackLies w es → StackIs w i from fs → IsAbove w (entry_at (entries_of w) i) x →
    x.back.level ≡ open_level zero fs → i ≤ length (entries_of w) → from ≤ length w.arenas.collected → c ≡ take from w.arenas.collected → LeavesLevel (with_collected w.arenas c) b i x.back →
    StackLies (moved w w.store b) fs
dropped w c b i from x es fs stands below above level fit some values leaves =
    let a : ArenasView _ = with_collected w.arenas c in
    let w1 : World _ = moved w w.store a in
    let many : length c ≡ from = ap length values ∙ length-take-le from w.arenas.collected some in
    let first : Leaves w w.store a i from =
    record {
      entries = refl;
      marks = λ j z h at good. (good, refl);
      blocks = λ j z h at kept. (kept, refl);
      frames = λ j z h at few. (few, refl);
      collected = sym (take-take from from w.arenas.collected (omega arith)) ∙ ap (take from) (sym values);
      enough = omega (arith, many);
      beside = λ m. refl;
      names = λ k name has. has;
    } in
    let stack : StackIs w1 i from fs = stack-moves w w.store a i from i from fs first (omega arith) (omega arith) below in
    let second : Leaves w1 w1.store b i from =
    drops-leave w1 b i i from x.back.frames fs fs stack leaves.drops (omega arith) fit (above-frames w (entry_at (entries_of w) i) x above) (omega (arith, many)) in
    let long : length b.entries ≡ i = ap length leaves.drops.entries ∙ length-take i (entries_of w) ∙ omega (arith, fit) in
    record {
      code = stands.code;
      tables = stands.tables;
      level = leaves.level ∙ level;
      kept = leaves.drops.kept ∙ ap (λ r. slots_kept_by (newest r)) (sym leaves.drops.entries);
      stack = subst (λ n. StackIs (moved w w.store b) n (length b.collected) fs) (sym long)
          (subst (λ n. StackIs (moved w w.store b) i n fs) (sym many ∙ ap length (sym leaves.drops.collected)) (stack-moves w1 w1.store b i from i from fs second (omega arith) (omega arith) stack));
    }

-- what an entry that is dropped has collected, and what the step makes of it
record IsGone (ball : Tree) (from to : ℕ) (kind : Kind) (y : EntryData) (fs : List EntryData) : Type 0 where
  pub starts : from ≡ collected_below kind to
  pub steps : raise_step ball (y ∷ fs) ≡ silently (config (raising ball) fs)

gone : (l : Loaded) (c : List Tree) (h : Here) (t : State) (base frame slots from to : ℕ) (kind : Kind) (ball : Tree) (y : EntryData) (fs : List EntryData) → IsDropped kind →
    KindIs l c h t base frame slots from to kind y → IsGone ball from to kind y fs
unfolding raise_step
gone l c h t base frame slots from to kind ball y fs drops (rules_kind is fits one) = record { starts = one; steps = refl }
gone l c h t base frame slots from to kind ball y fs drops (facts_kind is fits one) = record { starts = one; steps = refl }
gone l c h t base frame slots from to kind ball y fs drops (branches_kind is at here last count one) = record { starts = one; steps = refl }
gone l c h t base frame slots from to kind ball y fs drops (alternatives_kind own are one) = record { starts = one; steps = refl }
gone l c h t base frame slots from to kind ball y fs drops (once_kind own one) = record { starts = one; steps = refl }
gone l c h t base frame slots from to kind ball y fs drops (not_kind own one) = record { starts = one; steps = refl }
gone l c h t base frame slots from to kind ball y fs drops (if_kind own one) = record { starts = one; steps = refl }
gone l c h t base frame slots from to kind ball y fs drops (guard_kind call fits one) = record { starts = one; steps = refl }
gone l c h t base frame slots from to kind ball y fs drops (apply_kind own free args fit one) = record { starts = one; steps = refl }
gone l c h t base frame slots from to kind ball y fs drops (collect_kind own order some) = record { starts = refl; steps = refl }
gone l c h t base frame slots from to kind ball y fs drops (count_kind own one) = record { starts = one; steps = refl }
gone l c h t base frame slots from to kind ball y fs drops (search_kind own labels held fit order one) = record { starts = one; steps = refl }
gone l c h t base frame slots from to kind ball y fs drops (catch_kind own stays one) = absurd drops
gone l c h t base frame slots from to kind ball y fs drops (exit_kind one) = absurd drops

raise-drops-in : {M : Type 0} (w : World M) (c : List Tree) (b : ArenasView M) (back : Back) (x : Entry M) (ball : Tree) (n top : ℕ) (es : List EntryData) → StackLies w es → newest (entries_of w) ≡ Some x → x.back ≡ back → IsDropped back.kind →
    c ≡ take (collected_below back.kind (length w.arenas.collected)) w.arenas.collected → LeavesLevel (with_collected w.arenas c) b (length (entries_of w) - 1) back → length (entries_of w) ≡ n → top ≡ length w.arenas.collected → StackIs w n top es →
    ComesTo (moved w w.store b) (Now.Raising ball) (raise_step ball es)
raise-drops-in w c b back x ball n top es stands at back_is drops values leaves count all no_entries = absurd (none-some refl (sym (ap (entry_at (entries_of w)) count) ∙ at))
raise-drops-in w c b back x ball n top es stands at back_is drops values leaves count all (entry_above m from fs z y here is below) =
    let same : z.back ≡ back = ap (λ r. r.back) (taken-is (ap (entry_at (entries_of w)) count) at here) ∙ back_is in
    let it : IsGone ball from top z.back.kind y fs =
    gone w.loaded w.arenas.collected (back_here w z) (w.store.at_mark z.mark).state z.back.base z.back.frame z.back.blocks.slots from top z.back.kind ball y fs (subst (λ r. IsDropped r.kind) (sym same) drops) is.kind in
    let order : from ≤ top = kind-order w.loaded w.arenas.collected (back_here w z) (w.store.at_mark z.mark).state z.back.base z.back.frame z.back.blocks.slots from top z.back.kind y is.kind in
    let starts : from ≡ collected_below back.kind (length w.arenas.collected) = it.starts ∙ ap (λ r. collected_below r.kind top) same ∙ ap (collected_below back.kind) all in
    subst (ComesTo (moved w w.store b) (Now.Raising ball)) (sym it.steps)
    (record {
      entries = dropped w c b m from z (y ∷ fs) fs stands below is.older is.level (omega (arith, count)) (omega (arith, order, all)) (values ∙ ap (λ k. take k w.arenas.collected) (sym starts))
          (subst (λ r. LeavesLevel (with_collected w.arenas c) b m r) (sym same) (subst (λ k. LeavesLevel (with_collected w.arenas c) b k back) (omega (arith, count)) leaves));
      runs = raising_now;
    })

pub raise-drops : {M : Type 0} (w : World M) (c : List Tree) (b : ArenasView M) (back : Back) (x : Entry M) (ball : Tree) (es : List EntryData) → StackLies w es → newest (entries_of w) ≡ Some x → x.back ≡ back → IsDropped back.kind →
    c ≡ take (collected_below back.kind (length w.arenas.collected)) w.arenas.collected → LeavesLevel (with_collected w.arenas c) b (length (entries_of w) - 1) back →
    ComesTo (moved w w.store b) (Now.Raising ball) (raise_step ball es)
raise-drops w c b back x ball es stands at back_is drops values leaves =
    raise-drops-in w c b back x ball (length (entries_of w)) (length w.arenas.collected) es stands at back_is drops values leaves refl refl stands.stack

-- ---- a `catch` that was left

balanced-less : (n : ℕ) (es : List EntryData) → IsBalanced (suc n) es → IsBalanced n es
unfolding IsBalanced
balanced-less n [] h = absurd h
balanced-less n (choice c b ∷ es) h = balanced-less n es h
balanced-less n (strict s b ∷ es) h = absurd h
balanced-less zero (catch_level ball handler b ∷ es) h = h
balanced-less (suc n) (catch_level ball handler b ∷ es) h = balanced-less n es h
balanced-less n (left ∷ es) h = balanced-less (suc n) es h

balanced-left : (es : List EntryData) → IsBalanced zero (left ∷ es) → IsBalanced (suc zero) es
unfolding IsBalanced
balanced-left es h = h

unmatched : (es : List EntryData) (o : Open) → IsMatched zero es o → o ≡ none_open → ⊥
unfolding IsMatched
unmatched es o matched is = subst (IsMatched zero es) is matched

unmatched-strict : (es : List EntryData) (o : Open) (above below : List EntryData) (s : _) (b : BackData) → IsMatched zero es o → o ≡ strict_open above s b below → ⊥
unfolding IsMatched
unmatched-strict es o above below s b matched is = subst (IsMatched zero es) is matched

catch-begins : (l : Loaded) (c : List Tree) (h : Here) (t : State) (base frame slots from to : ℕ) (kind : Kind) (ball : Tree) (handler : GoalTree) (b : BackData) → KindIs l c h t base frame slots from to kind (catch_level ball handler b) → from ≡ to
catch-begins l c h t base frame slots from to kind ball handler b (catch_kind own stays one) = one

exit-is : (l : Loaded) (c : List Tree) (h : Here) (t : State) (base frame slots from to : ℕ) (kind : Kind) (y : EntryData) → kind ≡ Kind.Exit → KindIs l c h t base frame slots from to kind y → (y ≡ left) × (from ≡ to)
exit-is l c h t base frame slots from to kind y named (rules_kind is fits one) = absurd cc
exit-is l c h t base frame slots from to kind y named (facts_kind is fits one) = absurd cc
exit-is l c h t base frame slots from to kind y named (branches_kind is at here last count one) = absurd cc
exit-is l c h t base frame slots from to kind y named (alternatives_kind own are one) = absurd cc
exit-is l c h t base frame slots from to kind y named (once_kind own one) = absurd cc
exit-is l c h t base frame slots from to kind y named (not_kind own one) = absurd cc
exit-is l c h t base frame slots from to kind y named (if_kind own one) = absurd cc
exit-is l c h t base frame slots from to kind y named (guard_kind call fits one) = absurd cc
exit-is l c h t base frame slots from to kind y named (apply_kind own free args fit one) = absurd cc
exit-is l c h t base frame slots from to kind y named (collect_kind own order some) = absurd cc
exit-is l c h t base frame slots from to kind y named (count_kind own one) = absurd cc
exit-is l c h t base frame slots from to kind y named (search_kind own labels held fit order one) = absurd cc
exit-is l c h t base frame slots from to kind y named (catch_kind own stays one) = absurd cc
exit-is l c h t base frame slots from to kind y named (exit_kind one) = (refl, one)

-- the entry of the `catch` of the newest exit
pub record LeftCatch {M : Type 0} (w : World M) (number : ℕ) (ball : Tree) (es : List EntryData) : Type 0 where
  pub i : ℕ
  pub from : ℕ
  pub entry : Entry M
  pub below : List EntryData
  pub is_number : number ≡ suc i
  pub at : slice_get (entries_of w) i ≡ Some entry
  pub stack : StackIs w i from below
  pub above : IsAbove w (entry_at (entries_of w) i) entry
  pub level : entry.back.level ≡ open_level zero below
  pub whole : from ≡ length w.arenas.collected
  pub steps : raise_step ball es ≡ silently (config (raising ball) below)

left-in : {M : Type 0} (w : World M) (number top : ℕ) (ball : Tree) (fs : List EntryData) (o : Open) → newest_open zero fs ≡ o → IsMatched zero fs (newest_open zero fs) → top ≡ length w.arenas.collected → OpenAt w top o number →
    LeftCatch w number ball (left ∷ fs)
unfolding raise_step
left-in w number top ball fs o is matched all nothing_at = absurd (unmatched fs (newest_open zero fs) matched is)
left-in w number top ball fs o is matched all (strict_at j from z above t bk below at entry_is stack) = absurd (unmatched-strict fs (newest_open zero fs) above below t bk matched is)
left-in w number top ball fs o is matched all (catch_at j from z above caught handler bk below at entry_is stack) =
    let none : from ≡ top = catch-begins w.loaded w.arenas.collected (back_here w z) _ z.back.base z.back.frame z.back.blocks.slots from top z.back.kind caught handler bk entry_is.kind in
    record {
      i = j;
      from = from;
      entry = z;
      below = below;
      is_number = refl;
      at = at;
      stack = stack;
      above = entry_is.older;
      level = entry_is.level;
      whole = none ∙ all;
      steps = ap (λ q. silently (config (raising ball) (below_left q fs))) is;
    }

left-found-in : {M : Type 0} (w : World M) (back : Back) (x : Entry M) (ball : Tree) (n top : ℕ) (es : List EntryData) → newest (entries_of w) ≡ Some x → x.back ≡ back → back.kind ≡ Kind.Exit → IsBalanced zero es →
    length (entries_of w) ≡ n → top ≡ length w.arenas.collected → StackIs w n top es → LeftCatch w back.level ball es
left-found-in w back x ball n top es at back_is named balanced count all no_entries = absurd (none-some refl (sym (ap (entry_at (entries_of w)) count) ∙ at))
left-found-in w back x ball n top es at back_is named balanced count all (entry_above m from fs z y here is below) =
    let same : z.back ≡ back = ap (λ r. r.back) (taken-is (ap (entry_at (entries_of w)) count) at here) ∙ back_is in
    let exit : (y ≡ left) × (from ≡ top) =
    exit-is w.loaded w.arenas.collected (back_here w z) (w.store.at_mark z.mark).state z.back.base z.back.frame z.back.blocks.slots from top z.back.kind y (ap (λ r. r.kind) same ∙ named) is.kind in
    let more : IsBalanced (suc zero) fs = balanced-left fs (subst (λ q. IsBalanced zero (q ∷ fs)) exit.0 balanced) in
    let number : back.level ≡ open_level zero fs = ap (λ r. r.level) (sym same) ∙ is.level in
    subst (λ q. LeftCatch w back.level ball (q ∷ fs)) (sym exit.0)
    (subst (λ q. LeftCatch w q ball (left ∷ fs)) (sym number)
    (left-in w (open_level zero fs) from ball fs (newest_open zero fs) refl (left-matched zero fs more) (exit.1 ∙ all) (open-at w m from zero fs below (balanced-less zero fs more))))

pub left-found : {M : Type 0} (w : World M) (back : Back) (x : Entry M) (ball : Tree) (es : List EntryData) → StackLies w es → newest (entries_of w) ≡ Some x → x.back ≡ back → back.kind ≡ Kind.Exit → IsBalanced zero es →
    LeftCatch w back.level ball es
left-found w back x ball es stands at back_is named balanced = left-found-in w back x ball (length (entries_of w)) (length w.arenas.collected) es at back_is named balanced refl refl stands.stack

-- there it is
pub left-there : {M : Type 0} (w : World M) (number : ℕ) (ball : Tree) (es : List EntryData) → (it : LeftCatch w number ball es) → entry_at (entries_of w) number ≡ Some it.entry
left-there w number ball es it = ap (entry_at (entries_of w)) it.is_number ∙ it.at

pub left-passed : {M : Type 0} (w : World M) (b : ArenasView M) (number : ℕ) (z : Entry M) (ball : Tree) (es : List EntryData) → StackLies w es → (it : LeftCatch w number ball es) → entry_at (entries_of w) number ≡ Some z →
    LeavesLevel w.arenas b (number - 1) z.back → ComesTo (moved w w.store b) (Now.Raising ball) (raise_step ball es)
left-passed w b number z ball es stands it at leaves =
    let same : it.entry ≡ z = one-some (entry_at (entries_of w) number) it.entry z (left-there w number ball es it) at in
    let out : LeavesLevel w.arenas b it.i it.entry.back = subst (λ r. LeavesLevel w.arenas b it.i r.back) (sym same) (subst (λ k. LeavesLevel w.arenas b k z.back) (omega (arith, it.is_number)) leaves) in
    let within : suc it.i ≤ length (entries_of w) = slice_get_within (entries_of w) it.i it.entry it.at in
    subst (ComesTo (moved w w.store b) (Now.Raising ball)) (sym it.steps)
    (record {
      entries = dropped w w.arenas.collected b it.i it.from it.entry es it.below stands it.stack it.above it.level (omega (arith, within)) (omega (arith, it.whole))
          (sym (ap (λ k. take k w.arenas.collected) it.whole ∙ take_all (length w.arenas.collected) w.arenas.collected (omega arith)))
          (record {
            drops = record { entries = out.drops.entries; frames_are = out.drops.frames_are; collected = out.drops.collected; kept = out.drops.kept; keeps = out.drops.keeps };
            slots = out.slots;
            level = out.level;
          });
      runs = raising_now;
    })

-- ---- without an entry

pub raise-none : {M : Type 0} (w : World M) (now : Now) (ball : Tree) (es : List EntryData) → es ≡ [] → now ≡ Now.Ended (RunEnd.Raised ball) → ComesTo w now (raise_step ball es)
unfolding raise_step
raise-none w now ball es none ended = subst (λ r. ComesTo w now (raise_step ball r)) (sym none) ended
