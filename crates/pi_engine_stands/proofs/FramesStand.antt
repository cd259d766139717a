-- Runs that push a frame for what is left behind a goal.
use Rattle.std.proofs.Common.{◌≡◌, inl, inr, ℕ, ◌+◌, ◌^◌, ◌≤◌, ◌<◌, List, [], ◌∷◌, ◌++◌, Option, Some, None, length, take, refl, sym, ◌∙◌, ap, subst, arith}
use Rattle.std.specs.Prelude.{slice_get}
use Rattle.std.proofs.lemmas.List.{take-append-le, length-append}
use Rattle.pi_terms.specs.Places.{Places}
use Rattle.pi_constraints.specs.State.{State}
use Rattle.pi_core.specs.GoalTree.{GoalTree, GoalTrees, goal, seq, count_goals, children, nodes}
use Rattle.pi_engine_arenas.specs.declared.frames.Point.{Point}
use Rattle.pi_engine_code.specs.declared.code.Step.{Step}
use Rattle.pi_engine_arenas.specs.declared.run.Now.{Now}
use Rattle.pi_engine_arenas.specs.Frames.{PushesBehind, point_behind}
use Rattle.pi_engine_arenas.specs.Arenas.{ArenasView}
use Rattle.pi_engine_arenas.specs.declared.arenas.Entry.{Entry}
use Rattle.pi_meaning.specs.Machine.Configuration.{Frame, behind, Entry as EntryData, going}
use Rattle.pi_engine_stands.specs.Here.{Block, Holds, SayLast}
use Rattle.pi_engine_stands.specs.Stands.{tables_in, World, steps_of, entries_of, now_here, Agrees, agrees_from, StackStands, GoingIs, NowIs, going_now, StandsGoing}
use Rattle.pi_engine_stands.proofs.PointLemmas.{one-or-more, here-size, first-of, GoalAtPoint, frame-behind}
use Rattle.pi_engine_stands.proofs.GoalsStand.{children-here}
use Rattle.pi_engine_stands.proofs.StandsLemmas.{moved, Leaves, stack-moves}

-- the same arenas with these frames
abbrev pub framed : {M : Type 0} → ArenasView M → List Point → ArenasView M
framed a fs = record { frames = fs; blocks = a.blocks; entries = a.entries; level = a.level; collected = a.collected }

abbrev pub with_new_frames : {M : Type 0} → World M → List Point → World M
with_new_frames w fs = moved w w.store (framed w.arenas fs)

pub arenas-framed : {M : Type 0} (a b : ArenasView M) → b.blocks ≡ a.blocks → b.entries ≡ a.entries → b.level ≡ a.level → b.collected ≡ a.collected → framed a b.frames ≡ b
arenas-framed a b blocks entries level collected =
    ap (λ x. record { frames = b.frames; blocks = x; entries = a.entries; level = a.level; collected = a.collected }) (sym blocks)
    ∙ ap (λ x. record { frames = b.frames; blocks = b.blocks; entries = x; level = a.level; collected = a.collected }) (sym entries)
    ∙ ap (λ x. record { frames = b.frames; blocks = b.blocks; entries = b.entries; level = x; collected = a.collected }) (sym level)
    ∙ ap (λ x. record { frames = b.frames; blocks = b.blocks; entries = b.entries; level = b.level; collected = x }) (sym collected)

-- the frames are the same, or there is one more
pub record MoreFrames (old new : List Point) : Type 0 where
  pub long : length old ≤ length new
  pub front : (n : ℕ) → n ≤ length old → take n new ≡ take n old

more-same : (fs gs : List Point) → gs ≡ fs → MoreFrames fs gs
more-same fs gs same = subst (λ r. MoreFrames fs r) (sym same) (record { long = omega arith; front = λ n h. refl })

more-one : (fs : List Point) (q : Point) → MoreFrames fs (fs ++ q ∷ [])
more-one fs q = record { long = omega (arith, length-append fs (q ∷ [])); front = λ n h. take-append-le n fs (q ∷ []) h }

pub pushes-more : (p : Point) (s : Step) (fs gs : List Point) (n : ℕ) → p.place + s.size < 2 ^ 32 → PushesBehind p s fs gs n → MoreFrames fs gs
pushes-more p s fs gs n fits pushes =
    elim (one-or-more p.count) as (λ w. MoreFrames fs gs) [
      | inl few ↦ more-same fs gs (pushes.alone few).1
      | inr many ↦ subst (λ r. MoreFrames fs r) (sym (pushes.some many fits).1) (more-one fs (point_behind p s))
    ]

-- entries stay
frames-leave : {M : Type 0} (w : World M) (fs : List Point) (n : ℕ) → MoreFrames w.arenas.frames fs → Leaves w w.store (framed w.arenas fs) n (length w.arenas.collected)
frames-leave w fs n more =
    record {
      entries = refl;
      marks = λ i x h at good. (good, refl);
      blocks = λ i x h at kept. (kept, refl);
      frames = λ i x h at fit. (omega (arith, fit, more.long), more.front x.back.frames fit);
      collected = refl;
      enough = omega arith;
      beside = λ m. refl;
      names = λ k name has. has;
    }

pub stack-framed : {M : Type 0} (w : World M) (fs : List Point) (es : List EntryData) → MoreFrames w.arenas.frames fs → StackStands w es → StackStands (with_new_frames w fs) es
stack-framed w fs es more is =
    record {
      code = is.code;
      state = is.state;
      tables = is.tables;
      level = is.level;
      kept = is.kept;
      stack = stack-moves w w.store (framed w.arenas fs) (length (entries_of w)) (length w.arenas.collected) (length (entries_of w)) (length w.arenas.collected) es
          (frames-leave w fs (length (entries_of w)) more) (omega arith) (omega arith) is.stack;
    }

-- what is there now agrees with its level, which goes by slots and terms alone
now-agrees : {M : Type 0} (w : World M) (fs : List Point) (r : Option (Entry M)) → MoreFrames w.arenas.frames fs → agrees_from w r (now_here w) → agrees_from (with_new_frames w fs) r (now_here (with_new_frames w fs))
now-agrees w fs None more agrees = tt
now-agrees w fs (Some x) more agrees = (agrees.0, agrees.1, agrees.2, refl)

-- ---- goals behind which a frame is pushed

pub going-of : {M : Type 0} (w : World M) (p : Point) (gs : GoalTrees) (e : Places) (s : State) (k : List Frame) → NowIs w (Now.Going p) (going gs e s k) → GoingIs w p gs e k
going-of w p gs e s k (going_now is) = is

pub going-size : {M : Type 0} (w : World M) (p : Point) (s : Step) (g : GoalTree) (gs : GoalTrees) (e : Places) (k : List Frame) →
    slice_get (steps_of w.loaded) p.place ≡ Some s → GoingIs w p (goal g gs) e k → (s.size ≡ nodes g) × (p.place + nodes g < 2 ^ 32)
going-size w p s g gs e k at is =
    here-size (tables_in w.loaded) (steps_of w.loaded) is.block p.place g _ s
    (first-of (tables_in w.loaded) (steps_of w.loaded) is.block p.place p.count g gs is.value is.last is.goals).here at

-- the goal at a point with what is left behind it, once the frame for that is there
pub record Entered {M : Type 0} (w : World M) (p : Point) (n : ℕ) (g : GoalTree) (e : Places) (k : List Frame) : Type 0 where
  pub block : Block
  pub base : block.base ≡ p.base
  pub slots : Holds w.store.now.terms w.arenas.blocks.slots block e
  pub at : GoalAtPoint (tables_in w.loaded) (steps_of w.loaded) (now_here w) block p.place n g k
  pub agrees : Agrees w w.arenas.level (now_here w)

pub entered-behind : {M : Type 0} (w : World M) (p : Point) (s : Step) (g : GoalTree) (gs : GoalTrees) (e : Places) (k : List Frame) (fs : List Point) (n : ℕ) →
    slice_get (steps_of w.loaded) p.place ≡ Some s → MoreFrames w.arenas.frames fs → PushesBehind p s w.arenas.frames fs n → GoingIs w p (goal g gs) e k →
    Entered (with_new_frames w fs) p n g e (behind gs k)
entered-behind w p s g gs e k fs n at more pushes is =
    record {
      block = is.block;
      base = is.base;
      slots = is.behind.slots;
      at = subst (λ r. GoalAtPoint (tables_in w.loaded) (steps_of w.loaded) (now_here (with_new_frames w fs)) is.block p.place n g (behind gs r)) (sym is.frames)
          (frame-behind (tables_in w.loaded) (steps_of w.loaded) (now_here w) is.block p s g gs is.value is.last is.behind.leaves is.rest fs n at is.base
          (omega (arith, is.behind.slots.within)) is.goals is.behind.frames is.leaves pushes);
      agrees = now-agrees w fs _ more is.agrees;
    }

-- a sequence is entered
pub sequence-stands : {M : Type 0} (w : World M) (p q : Point) (s : Step) (hs gs : GoalTrees) (e : Places) (k : List Frame) (es : List EntryData) (fs : List Point) (n : ℕ) →
    slice_get (steps_of w.loaded) p.place ≡ Some s → PushesBehind p s w.arenas.frames fs n →
    q ≡ record { place = p.place + 1; count = count_goals hs; base = p.base; frame = n } →
    StandsGoing w p (goal (seq hs) gs) e k es → StandsGoing (with_new_frames w fs) q hs e (behind gs k) es
unfolding SayLast children
sequence-stands w p q s hs gs e k es fs n at pushes next stands =
    let is : GoingIs w p (goal (seq hs) gs) e k = going-of w p (goal (seq hs) gs) e w.store.now.state k stands.runs in
    let size : (s.size ≡ nodes (seq hs)) × (p.place + nodes (seq hs) < 2 ^ 32) = going-size w p s (seq hs) gs e k at is in
    let more : MoreFrames w.arenas.frames fs = pushes-more p s w.arenas.frames fs n (omega (arith, size.0, size.1)) pushes in
    let in_it : Entered (with_new_frames w fs) p n (seq hs) e (behind gs k) = entered-behind w p s (seq hs) gs e k fs n at more pushes is in
    subst (λ r. StandsGoing (with_new_frames w fs) r hs e (behind gs k) es) (sym next)
    (record {
      entries = stack-framed w fs es more stands.entries;
      runs = going_now (record {
        block = in_it.block;
        base = in_it.base;
        value = None;
        last = in_it.at.own;
        rest = behind gs k;
        goals = children-here (tables_in w.loaded) (steps_of w.loaded) in_it.block p.place (seq hs) in_it.at.own in_it.at.own in_it.at.here in_it.at.here.says.1;
        behind = record { slots = in_it.slots; leaves = in_it.at.leaves; frames = in_it.at.frames };
        leaves = in_it.at.own_leaves;
        frames = refl;
        agrees = in_it.agrees;
      });
    })
