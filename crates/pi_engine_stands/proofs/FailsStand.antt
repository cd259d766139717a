-- Goals that have no further answer: what the newest entry makes of it, whichever it is.
use Rattle.std.proofs.Common.{◌≡◌, ℕ, List, [], ◌∷◌, refl, sym, ap, subst, length}
use Rattle.pi_terms.specs.Tree.{Tree}
use Rattle.pi_constraints.specs.State.{State}
use Rattle.pi_core.specs.GoalTree.{GoalTrees}
use Rattle.pi_settling.specs.Choices.{Pending, Alternative}
use Rattle.pi_engine_arenas.specs.declared.arenas.Alternatives.{Alternatives}
use Rattle.pi_engine_arenas.specs.declared.arenas.Back.{Back}
use Rattle.pi_engine_arenas.specs.declared.arenas.Kind.{Kind}
use Rattle.pi_engine_arenas.specs.declared.arenas.Strict.{Strict as StrictKind}
use Rattle.pi_engine_arenas.specs.declared.run.End.{End as RunEnd}
use Rattle.pi_engine_arenas.specs.declared.run.Now.{Now}
use Rattle.pi_meaning.specs.Machine.Configuration.{Entry as EntryData, choice, branches_left, alternatives_left, Strict, strict, Back as BackData}
use Rattle.pi_meaning.specs.Machine.Step.{Outcome, silently, with_tick, quietly, deeper, loading, writing, answering, ending, branch, alternatives_step, end_step, fail_step}
use Rattle.pi_engine_stands.specs.Goes.{Counting}
use Rattle.pi_engine_stands.specs.Here.{Here}
use Rattle.pi_engine_stands.specs.Stands.{World, Loaded, now_here, KindIs, rules_kind, facts_kind, branches_kind, alternatives_kind, once_kind, not_kind, if_kind, guard_kind, apply_kind, collect_kind, count_kind, search_kind, catch_kind, exit_kind, Stands}
use Rattle.pi_engine_stands.specs.Fails.{ComesTo, ComesBy, IsBack, GoesOnWithBranch, EndsLevel, TriesAlternative}
use Rattle.pi_engine_stands.proofs.BackStand.{back-kind}
use Rattle.pi_engine_stands.specs.Changes.{change}

-- without an entry the run is done
pub fail-none : {M : Type 0} (w : World M) (now : Now) (es : List EntryData) → es ≡ [] → now ≡ Now.Ended RunEnd.Done → ComesTo w now (fail_step es)
unfolding fail_step
fail-none w now es none ended = subst (λ r. ComesTo w now (fail_step r)) (sym none) ended

branches-are : (l : Loaded) (c : List Tree) (h : Here) (t : State) (base frame slots from to place n : ℕ) (kind : Kind) (y : EntryData) → kind ≡ Kind.Branches place n → KindIs l c h t base frame slots from to kind y →
    (gs : GoalTrees) × (b : BackData) × (y ≡ choice (branches_left gs) b)
branches-are l c h t base frame slots from to place n kind y named (rules_kind is fits one) = absurd cc
branches-are l c h t base frame slots from to place n kind y named (facts_kind is fits one) = absurd cc
branches-are l c h t base frame slots from to place n kind y named (branches_kind is at here last count one) = (_, _, refl)
branches-are l c h t base frame slots from to place n kind y named (alternatives_kind own are one) = absurd cc
branches-are l c h t base frame slots from to place n kind y named (once_kind own one) = absurd cc
branches-are l c h t base frame slots from to place n kind y named (not_kind own one) = absurd cc
branches-are l c h t base frame slots from to place n kind y named (if_kind own one) = absurd cc
branches-are l c h t base frame slots from to place n kind y named (guard_kind call fits one) = absurd cc
branches-are l c h t base frame slots from to place n kind y named (apply_kind own free args fit one) = absurd cc
branches-are l c h t base frame slots from to place n kind y named (collect_kind own order some) = absurd cc
branches-are l c h t base frame slots from to place n kind y named (count_kind own one) = absurd cc
branches-are l c h t base frame slots from to place n kind y named (search_kind own labels held fit order one) = absurd cc
branches-are l c h t base frame slots from to place n kind y named (catch_kind own stays one) = absurd cc
branches-are l c h t base frame slots from to place n kind y named (exit_kind one) = absurd cc

branch-step : (y : EntryData) (gs : GoalTrees) (b : BackData) (es : List EntryData) → y ≡ choice (branches_left gs) b → fail_step (y ∷ es) ≡ silently (branch gs b es)
unfolding fail_step
branch-step y gs b es is = ap (λ q. fail_step (q ∷ es)) is

pub branches-fail : {M : Type 0} (w after : World M) (back : Back) (place n : ℕ) (y : EntryData) (es : List EntryData) (now : Now) → back.kind ≡ Kind.Branches place n → IsBack w back y es → GoesOnWithBranch back (change w after now) → ComesTo after now (fail_step (y ∷ es))
branches-fail w after back place n y es now named it goes =
    let is : (gs : GoalTrees) × (b : BackData) × (y ≡ choice (branches_left gs) b) =
    branches-are w.loaded w.arenas.collected (now_here w) w.store.now.state back.base back.frame back.blocks.slots it.from (length w.arenas.collected) place n back.kind y named (back-kind w back y es it) in
    subst (ComesTo after now) (sym (branch-step y is.0 is.1 es is.2)) (goes is.0 is.1 es (subst (λ q. IsBack w back q es) is.2 it))

strict-is : (l : Loaded) (c : List Tree) (h : Here) (t : State) (base frame slots from to : ℕ) (kind : Kind) (s : StrictKind) (y : EntryData) → kind ≡ Kind.Strict s → KindIs l c h t base frame slots from to kind y →
    (level : Strict) × (b : BackData) × (y ≡ strict level b)
strict-is l c h t base frame slots from to kind s y named (rules_kind is fits one) = absurd cc
strict-is l c h t base frame slots from to kind s y named (facts_kind is fits one) = absurd cc
strict-is l c h t base frame slots from to kind s y named (branches_kind is at here last count one) = absurd cc
strict-is l c h t base frame slots from to kind s y named (alternatives_kind own are one) = absurd cc
strict-is l c h t base frame slots from to kind s y named (once_kind own one) = (_, _, refl)
strict-is l c h t base frame slots from to kind s y named (not_kind own one) = (_, _, refl)
strict-is l c h t base frame slots from to kind s y named (if_kind own one) = (_, _, refl)
strict-is l c h t base frame slots from to kind s y named (guard_kind call fits one) = (_, _, refl)
strict-is l c h t base frame slots from to kind s y named (apply_kind own free args fit one) = (_, _, refl)
strict-is l c h t base frame slots from to kind s y named (collect_kind own order some) = (_, _, refl)
strict-is l c h t base frame slots from to kind s y named (count_kind own one) = (_, _, refl)
strict-is l c h t base frame slots from to kind s y named (search_kind own labels held fit order one) = (_, _, refl)
strict-is l c h t base frame slots from to kind s y named (catch_kind own stays one) = absurd cc
strict-is l c h t base frame slots from to kind s y named (exit_kind one) = absurd cc

strict-step : (y : EntryData) (s : Strict) (b : BackData) (es : List EntryData) → y ≡ strict s b → fail_step (y ∷ es) ≡ silently (end_step s b es)
unfolding fail_step
strict-step y s b es is = ap (λ q. fail_step (q ∷ es)) is

pub strict-fails : {M : Type 0} (w after : World M) (back : Back) (s : StrictKind) (y : EntryData) (es : List EntryData) (now : Now) → back.kind ≡ Kind.Strict s → IsBack w back y es → EndsLevel back (change w after now) → ComesTo after now (fail_step (y ∷ es))
strict-fails w after back s y es now named it ends =
    let is : (level : Strict) × (b : BackData) × (y ≡ strict level b) =
    strict-is w.loaded w.arenas.collected (now_here w) w.store.now.state back.base back.frame back.blocks.slots it.from (length w.arenas.collected) back.kind s y named (back-kind w back y es it) in
    subst (ComesTo after now) (sym (strict-step y is.0 is.1 es is.2)) (ends is.0 is.1 es (subst (λ q. IsBack w back q es) is.2 it))

-- a level that is passed over
pub passed-ends : {M : Type 0} (w : World M) (now : Now) (s : Strict) (b : BackData) (es : List EntryData) → ComesTo w now (fail_step (strict s b ∷ es)) → Stands w now (end_step s b es)
unfolding fail_step
passed-ends w now s b es comes = comes

-- ---- alternatives of a labelling

alternatives-are : (l : Loaded) (c : List Tree) (h : Here) (t : State) (base frame slots from to place : ℕ) (left : Alternatives) (kind : Kind) (y : EntryData) → kind ≡ Kind.Alternatives place left → KindIs l c h t base frame slots from to kind y →
    (name : List ℕ) × (args : List Tree) × (p : Pending) × (alts : List Alternative) × (b : BackData) × (y ≡ choice (alternatives_left name args p alts) b)
alternatives-are l c h t base frame slots from to place left kind y named (rules_kind is fits one) = absurd cc
alternatives-are l c h t base frame slots from to place left kind y named (facts_kind is fits one) = absurd cc
alternatives-are l c h t base frame slots from to place left kind y named (branches_kind is at here last count one) = absurd cc
alternatives-are l c h t base frame slots from to place left kind y named (alternatives_kind own are one) = (_, _, _, _, _, refl)
alternatives-are l c h t base frame slots from to place left kind y named (once_kind own one) = absurd cc
alternatives-are l c h t base frame slots from to place left kind y named (not_kind own one) = absurd cc
alternatives-are l c h t base frame slots from to place left kind y named (if_kind own one) = absurd cc
alternatives-are l c h t base frame slots from to place left kind y named (guard_kind call fits one) = absurd cc
alternatives-are l c h t base frame slots from to place left kind y named (apply_kind own free args fit one) = absurd cc
alternatives-are l c h t base frame slots from to place left kind y named (collect_kind own order some) = absurd cc
alternatives-are l c h t base frame slots from to place left kind y named (count_kind own one) = absurd cc
alternatives-are l c h t base frame slots from to place left kind y named (search_kind own labels held fit order one) = absurd cc
alternatives-are l c h t base frame slots from to place left kind y named (catch_kind own stays one) = absurd cc
alternatives-are l c h t base frame slots from to place left kind y named (exit_kind one) = absurd cc

alternatives-fails : (y : EntryData) (name : List ℕ) (args : List Tree) (p : Pending) (alts : List Alternative) (b : BackData) (es : List EntryData) → y ≡ choice (alternatives_left name args p alts) b → fail_step (y ∷ es) ≡ alternatives_step name args p alts b es
unfolding fail_step
alternatives-fails y name args p alts b es is = ap (λ q. fail_step (q ∷ es)) is

pub alternatives-fail : {M : Type 0} (w after : World M) (back : Back) (place : ℕ) (left : Alternatives) (y : EntryData) (es : List EntryData) (c : Counting) (now : Now) → back.kind ≡ Kind.Alternatives place left → IsBack w back y es → TriesAlternative c back (change w after now) →
    ComesBy c after now (fail_step (y ∷ es))
alternatives-fail w after back place left y es c now named it tries =
    let is : (name : List ℕ) × (args : List Tree) × (p : Pending) × (alts : List Alternative) × (b : BackData) × (y ≡ choice (alternatives_left name args p alts) b) =
    alternatives-are w.loaded w.arenas.collected (now_here w) w.store.now.state back.base back.frame back.blocks.slots it.from (length w.arenas.collected) place left back.kind y named (back-kind w back y es it) in
    subst (ComesBy c after now) (sym (alternatives-fails y is.0 is.1 is.2 is.3 is.4 es is.5)) (tries is.0 is.1 is.2 is.3 is.4 es (subst (λ q. IsBack w back q es) is.5 it))

-- ---- no Tick is counted

pub comes-by : {M : Type 0} (c : Counting) (w : World M) (now : Now) (o : Outcome) → c.new ≡ c.old → ComesTo w now o → ComesBy c w now o
comes-by c w now (silently d) same comes = (same, comes)
comes-by c w now (with_tick d) same comes = absurd comes
comes-by c w now (quietly d) same comes = comes
comes-by c w now (deeper d) same comes = comes
comes-by c w now (loading n d) same comes = comes
comes-by c w now (writing text d) same comes = comes
comes-by c w now (answering x d) same comes = comes
comes-by c w now (ending e) same comes = (same, comes)
