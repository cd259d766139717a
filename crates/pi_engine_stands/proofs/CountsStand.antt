-- Answers that are counted.
use Rattle.std.proofs.Common.{◌≡◌, ℕ, zero, suc, ◌+◌, ◌-◌, List, ◌∷◌, ◌++◌, Some, length, refl, sym, ◌∙◌, ap, subst, arith}
use Rattle.std.specs.Prelude.{slice_get, slice_set}
use Rattle.std.proofs.lemmas.List.{take_all, length-append}
use Rattle.pi_terms.specs.Tree.{Tree}
use Rattle.pi_terms.specs.Places.{Places}
use Rattle.pi_constraints.specs.State.{State}
use Rattle.pi_meaning.specs.Shared.View.{View}
use Rattle.pi_core.specs.GoalTree.{no_goals}
use Rattle.pi_core.specs.declared.core_program.NameSlot.{NameSlot}
use Rattle.pi_engine_arenas.specs.declared.arenas.Kind.{Kind}
use Rattle.pi_engine_arenas.specs.declared.arenas.Strict.{Strict as StrictKind}
use Rattle.pi_engine_arenas.specs.declared.frames.Point.{Point}
use Rattle.pi_engine_arenas.specs.declared.run.Now.{Now}
use Rattle.pi_engine_arenas.specs.Arenas.{ArenasView, with_kind}
use Rattle.pi_engine_arenas.specs.declared.arenas.Entry.{Entry}
use Rattle.pi_meaning.specs.Machine.Configuration.{Frame, Entry as EntryData, Config, config, going, failed, Strict, strict, number_level, Back as BackData}
use Rattle.pi_meaning.specs.Machine.Step.{Open, strict_open, newest_open, strict_step}
use Rattle.pi_meaning.specs.Machine.Shape.{IsBalanced}
use Rattle.pi_engine_stands.specs.Here.{Here}
use Rattle.pi_engine_stands.specs.Stands.{World, Loaded, entries_of, ends_of, back_here, block_at, KindIs, once_kind, not_kind, if_kind, guard_kind, apply_kind, collect_kind, count_kind, search_kind, StackStands, Stands, StandsGoing, failing_now}
use Rattle.pi_engine_stands.specs.Makes.{SilentlyTo}
use Rattle.pi_meaning.proofs.Machine.StackLemmas.{IsFound, IsClosed, newest-found}
use Rattle.pi_engine_stands.proofs.StandsLemmas.{moved, stack-length}
use Rattle.pi_engine_stands.proofs.OnceStand.{Found, level-answers}
use Rattle.pi_engine_stands.proofs.AltersStand.{altered, after_altering, altered-stands}
use Rattle.pi_engine_stands.proofs.StacksLie.{stack-lies}

-- ---- where a strict level is found

-- the stack is what lies above it, it, and what lies below
pub record Around {M : Type 0} (w : World M) (i : ℕ) (x : Entry M) (es : List EntryData) (it : Found w i x es) : Type 0 where
  pub whole : es ≡ it.above ++ strict it.level it.back ∷ it.below
  pub closed : IsClosed zero it.above
  pub number : length (entries_of w) ≡ length it.above + suc i

found-around : (es : List EntryData) (o : Open) (above below : List EntryData) (s : Strict) (b : BackData) → IsFound zero es o → o ≡ strict_open above s b below → IsBalanced zero es → (es ≡ above ++ strict s b ∷ below) × IsClosed zero above
unfolding IsFound
found-around es o above below s b found is balanced = let it : IsFound zero es (strict_open above s b below) = subst (IsFound zero es) is found in (it.0, it.1 balanced)

pub lies-around : {M : Type 0} (w : World M) (i : ℕ) (x : Entry M) (es : List EntryData) → StackStands w es → IsBalanced zero es → (it : Found w i x es) → Around w i x es it
lies-around w i x es stands balanced it =
    let two : (es ≡ it.above ++ strict it.level it.back ∷ it.below) × IsClosed zero it.above = found-around es (newest_open zero es) it.above it.below it.level it.back (newest-found zero es) it.opens balanced in
    record {
      whole = two.0;
      closed = two.1;
      number = omega (
        arith,
        stack-length w (length (entries_of w)) (length w.arenas.collected) es stands.stack,
        stack-length w i it.from it.below it.stack,
        ap length two.0 ∙ length-append it.above (strict it.level it.back ∷ it.below),
      );
    }

-- ---- one answer more

counts-more : (l : Loaded) (c : List Tree) (h : Here) (t : State) (base frame slots from to place n : ℕ) (kind : Kind) (s : Strict) (b : BackData) → kind ≡ Kind.Strict (StrictKind.Count place n) → KindIs l c h t base frame slots from to kind (strict s b) →
    (into : ℕ) × (s ≡ number_level into n) × KindIs l c h t base frame slots from to (Kind.Strict (StrictKind.Count place (suc n))) (strict (number_level into (suc n)) b)
counts-more l c h t base frame slots from to place n kind s b named (once_kind own one) = absurd cc
counts-more l c h t base frame slots from to place n kind s b named (not_kind own one) = absurd cc
counts-more l c h t base frame slots from to place n kind s b named (if_kind own one) = absurd cc
counts-more l c h t base frame slots from to place n kind s b named (guard_kind call over one) = absurd cc
counts-more l c h t base frame slots from to place n kind s b named (apply_kind own free args fit one) = absurd cc
counts-more l c h t base frame slots from to place n kind s b named (collect_kind own order some) = absurd cc
counts-more l c h t base frame slots from to place n kind s b named (count_kind {place = at} {into = into} {n = m} {g = g} {e = e} {k = k} own one) =
    let same : at ≡ place = cc in
    let many : m ≡ n = cc in (
      into,
      ap (number_level into) many,
      subst (λ q. KindIs l c h t base frame slots from to (Kind.Strict (StrictKind.Count q (suc n))) (strict (number_level into (suc n)) (record { slots = e; state = t; frames = k }))) same (count_kind own one),
    )
counts-more l c h t base frame slots from to place n kind s b named (search_kind own labels held fit order one) = absurd cc

one-into : (a b n : ℕ) → number_level a n ≡ number_level b n → a ≡ b
one-into a b n h = cc

count-stands : {M : Type 0} (w : World M) (i place n into : ℕ) (x : Entry M) (s : Strict) (b : BackData) (above below : List EntryData) → slice_get (entries_of w) i ≡ Some x → x.back.kind ≡ Kind.Strict (StrictKind.Count place n) → s ≡ number_level into n →
    IsClosed zero above → length (entries_of w) ≡ length above + suc i → StackStands w (above ++ strict s b ∷ below) →
    StackStands (after_altering w i x (Kind.Strict (StrictKind.Count place (suc n))) w.arenas.collected) (above ++ strict (number_level into (suc n)) b ∷ below)
count-stands w i place n into x s b above below at named is closed number stands =
    altered-stands w i zero x (Kind.Strict (StrictKind.Count place (suc n))) w.arenas.collected s (number_level into (suc n)) b above below
    (record {
      at = at;
      ends = λ base. ap (λ q. ends_of w.loaded q base) (sym named);
      more = take_all (length w.arenas.collected) w.arenas.collected (omega arith);
      long = omega arith;
      waits = λ from kind_is.
          (let it : _ = counts-more w.loaded w.arenas.collected (back_here w x) (w.store.at_mark x.mark).state x.back.base x.back.frame x.back.blocks.slots from (length w.arenas.collected) place n x.back.kind s b named kind_is in
          subst (λ m. KindIs w.loaded w.arenas.collected (back_here w x) (w.store.at_mark x.mark).state x.back.base x.back.frame x.back.blocks.slots from (length w.arenas.collected) (Kind.Strict (StrictKind.Count place (suc n))) (strict (number_level m (suc n)) b))
          (one-into it.0 into n (sym it.1 ∙ is)) it.2);
      found = λ has. tt;
    }) closed number stands

count-step : (into n : ℕ) (s : Strict) (e : Places) (t : State) (above : List EntryData) (b : BackData) (below : List EntryData) → s ≡ number_level into n → strict_step s e t above b below ≡ config failed (above ++ strict (number_level into (suc n)) b ∷ below)
unfolding strict_step
count-step into n s e t above b below is = ap (λ q. strict_step q e t above b below) is

pub count-answers : {M : Type 0} (w : World M) (a : ArenasView M) (i place n : ℕ) (x : Entry M) (p : Point) (es : List EntryData) (view : View) (names : List NameSlot) (e : Places) (k : List Frame) →
    StandsGoing w p no_goals e k es → p.count ≡ 0 → p.frame ≡ 0 → IsBalanced zero es → w.arenas.level ≡ suc i → slice_get (entries_of w) i ≡ Some x → x.back.kind ≡ Kind.Strict (StrictKind.Count place n) →
    a ≡ altered w.arenas i x (Kind.Strict (StrictKind.Count place (suc n))) w.arenas.collected →
    (c : Config) × SilentlyTo view w.loaded.preds names (config (going no_goals e w.store.now.state k) es) c × Stands (moved w w.store a) Now.Failing c
count-answers w a i place n x p es view names e k stands none last balanced level at named arenas =
    level-answers w w.store a i (block_at w.loaded place x.back.base) x (StrictKind.Count place n) Now.Failing p es view names e k stands none last balanced level at named refl
    (λ it f agrees holds.
    let lies : Around w i x es it = lies-around w i x es stands.entries balanced it in
    let waits : _ = counts-more w.loaded w.arenas.collected (back_here w x) (w.store.at_mark x.mark).state x.back.base x.back.frame x.back.blocks.slots it.from (length w.arenas.collected) place n x.back.kind it.level it.back named it.is.kind in
    subst (λ r. Stands (moved w w.store r) Now.Failing (strict_step it.level f w.store.now.state it.above it.back it.below)) (sym arenas)
    (subst (Stands (after_altering w i x (Kind.Strict (StrictKind.Count place (suc n))) w.arenas.collected) Now.Failing) (sym (count-step waits.0 n it.level f w.store.now.state it.above it.back it.below waits.1))
    (record {
      entries = stack-lies _ _ (count-stands w i place n waits.0 x it.level it.back it.above it.below at named waits.1 lies.closed lies.number (subst (StackStands w) lies.whole stands.entries));
      runs = failing_now;
    })))

-- what the call of the arenas leaves
pub arenas-altered : {M : Type 0} (a b : ArenasView M) (i number : ℕ) (x : Entry M) (kind : Kind) → number ≡ suc i → b.entries ≡ slice_set a.entries (number - 1) (with_kind x kind) → b.blocks ≡ a.blocks → b.frames ≡ a.frames → b.level ≡ a.level → b.collected ≡ a.collected →
    b ≡ altered a i x kind a.collected
arenas-altered a b i number x kind is entries blocks frames level collected =
    ap (λ r. record { frames = r; blocks = b.blocks; entries = b.entries; level = b.level; collected = b.collected }) frames
    ∙ ap (λ r. record { frames = a.frames; blocks = r; entries = b.entries; level = b.level; collected = b.collected }) blocks
    ∙ ap (λ r. record { frames = a.frames; blocks = a.blocks; entries = r; level = b.level; collected = b.collected }) (entries ∙ ap (λ n. slice_set a.entries n (with_kind x kind)) (omega (arith, is)))
    ∙ ap (λ r. record { frames = a.frames; blocks = a.blocks; entries = slice_set a.entries i (with_kind x kind); level = r; collected = b.collected }) level
    ∙ ap (λ r. record { frames = a.frames; blocks = a.blocks; entries = slice_set a.entries i (with_kind x kind); level = a.level; collected = r }) collected
