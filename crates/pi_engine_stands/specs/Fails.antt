-- Goals that have no further answer: the newest entry is come back to, and says what is next.
use Rattle.std.specs.Prelude.{◌≡◌, ◌⊎◌, ℕ, suc, List, ◌∷◌, Option, Some, None, length, slice_get}
use Rattle.pi_traces.specs.Trace.{End, Done, Raise}
use Rattle.pi_engine_arenas.specs.declared.arenas.Back.{Back}
use Rattle.pi_engine_arenas.specs.declared.run.End.{End as RunEnd}
use Rattle.pi_engine_arenas.specs.declared.run.Now.{Now}
use Rattle.pi_engine_arenas.specs.declared.arenas.Alternatives.{Alternatives}
use Rattle.pi_engine_arenas.specs.declared.arenas.Kind.{Kind}
use Rattle.pi_engine_arenas.specs.Arenas.{ArenasView, entry_at, newest, slots_kept_by, DropsNewest}
use Rattle.pi_label.specs.declared.alternatives.Choice.{Choice}
use Rattle.pi_engine_stands.specs.Tries.{renamed}
use Rattle.pi_engine_arenas.specs.declared.arenas.Entry.{Entry}
use Rattle.pi_meaning.specs.Machine.Configuration.{Entry as EntryData, choice, branches_left, alternatives_left, Strict, strict, Back as BackData}
use Rattle.pi_meaning.specs.Machine.Step.{Outcome, silently, with_tick, quietly, deeper, loading, writing, answering, ending, branch, alternatives_step, end_step, fail_step}
use Rattle.pi_meaning.specs.Machine.Configuration.{Config}
use Rattle.pi_settling.specs.Choices.{Pending, Alternative}
use Rattle.pi_terms.specs.Tree.{Tree}
use Rattle.pi_engine_stands.specs.Goes.{Counting, counted, spent, HasNone}
use Rattle.pi_core.specs.GoalTree.{GoalTrees}
use Rattle.pi_engine_stands.specs.Stands.{World, tables_in, entries_of, now_here, back_here, IsCodeOf, EntryIs, StackIs, StackLies, Stands}
use Rattle.pi_constraints.specs.Store.{Extend}
use Rattle.pi_engine_stands.specs.Changes.{Change}

-- a run is at its end
abbrev pub IsEnded : Now → End → Type 0
IsEnded now Done = now ≡ Now.Ended RunEnd.Done
IsEnded now (Raise ball) = now ≡ Now.Ended (RunEnd.Raised ball)
IsEnded now e = ⊥

-- a run after a step without a Tick or an answer: it stands for what the step comes to, or is at its end
abbrev pub ComesTo : {M : Type 0} → World M → Now → Outcome → Type 0
ComesTo w now (silently c) = Stands w now c
ComesTo w now (with_tick c) = ⊥
ComesTo w now (quietly c) = ⊥
ComesTo w now (deeper c) = ⊥
ComesTo w now (loading n c) = ⊥
ComesTo w now (writing text c) = ⊥
ComesTo w now (answering x c) = ⊥
ComesTo w now (ending e) = IsEnded now e

-- one Tick is counted, and the run stands for what is after it; or the budget has none left, and the run ends before it
abbrev pub TicksTo : {M : Type 0} → Counting → World M → Now → Config → Type 0
TicksTo b w now c = ((counted b.mode b.old b.new ≡ 1) × Stands w now c) ⊎ ((b.new ≡ b.old) × (now ≡ Now.Ended (spent b.mode)) × HasNone b.mode b.old)

-- a run after a step that may count a Tick
abbrev pub ComesBy : {M : Type 0} → Counting → World M → Now → Outcome → Type 0
ComesBy b w now (silently c) = (b.new ≡ b.old) × Stands w now c
ComesBy b w now (with_tick c) = TicksTo b w now c
ComesBy b w now (quietly c) = ⊥
ComesBy b w now (deeper c) = ⊥
ComesBy b w now (loading n c) = ⊥
ComesBy b w now (writing text c) = ⊥
ComesBy b w now (answering x c) = ⊥
ComesBy b w now (ending e) = (b.new ≡ b.old) × IsEnded now e

-- A step of a run: goals have no further answer, and the newest entry is next.
abbrev pub Fails : {M : Type 0} → Counting → Change M → Type 0
Fails b made = (es : List EntryData) → StackLies made.before es → ComesBy b made.after made.now (fail_step es)

-- The newest entry, which waits for this, was come back to: what is there is what it brings back.
pub record IsBack {M : Type 0} (w : World M) (back : Back) (y : EntryData) (es : List EntryData) : Type 0 where
  pub below : ℕ
  pub from : ℕ
  pub entry : Entry M
  pub count : length (entries_of w) ≡ suc below
  pub at : slice_get (entries_of w) below ≡ Some entry
  pub back_is : entry.back ≡ back
  pub is : EntryIs w es (entry_at (entries_of w) below) from (length w.arenas.collected) entry y
  pub stack : StackIs w below from es
  pub here : now_here w ≡ back_here w entry
  pub now : w.store.now.state ≡ (w.store.at_mark entry.mark).state
  pub words : w.store.now.words ≡ (w.store.at_mark entry.mark).words
  pub level : w.arenas.level ≡ back.level
  pub kept : w.arenas.blocks.kept ≡ slots_kept_by (newest (entries_of w))
  pub code : IsCodeOf w.loaded.code (tables_in w.loaded) w.store.names w.loaded.preds
  pub tables : Extend w.loaded.terms w.store.now.terms

-- what is next of branches, with an entry for those that are left
abbrev pub GoesOnWithBranch : {M : Type 0} → Back → Change M → Type 0
GoesOnWithBranch back made =
    (gs : GoalTrees) (b : BackData) (es : List EntryData) → IsBack made.before back (choice (branches_left gs) b) es → Stands made.after made.now (branch gs b es)

-- what a level makes of it that its goal has no further answer
abbrev pub EndsLevel : {M : Type 0} → Back → Change M → Type 0
EndsLevel back made =
    (s : Strict) (b : BackData) (es : List EntryData) → IsBack made.before back (strict s b) es → Stands made.after made.now (end_step s b es)

-- an entry that is passed over
abbrev pub PassesOver : {M : Type 0} → Back → Change M → Type 0
PassesOver back made =
    (y : EntryData) (es : List EntryData) → IsBack made.before back y es → ComesTo made.after made.now (fail_step (y ∷ es))

-- those of a variable that follow this one
abbrev pub those_after : Alternatives → Choice → Alternatives
those_after it tried = record { variable = it.variable; word = it.word; after = Some tried }

-- the newest entry waits for these where there is a next one; else it is gone
abbrev pub KeepsAlternatives : {M : Type 0} → ℕ → Alternatives → Option Choice → ArenasView M → ArenasView M → Type 0
KeepsAlternatives place it None a b = DropsNewest a b
KeepsAlternatives {M} place it (Some next) a b = (x : Entry M) → newest a.entries ≡ Some x → b ≡ renamed a x (Kind.Alternatives place it)

-- the next alternative of a variable that is labelled, with an entry for those that are left
abbrev pub TriesAlternative : {M : Type 0} → Counting → Back → Change M → Type 0
TriesAlternative c back made =
    (name : List ℕ) (args : List Tree) (p : Pending) (alts : List Alternative) (b : BackData) (es : List EntryData) →
    IsBack made.before back (choice (alternatives_left name args p alts) b) es → ComesBy c made.after made.now (alternatives_step name args p alts b es)
