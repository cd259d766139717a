-- Rounds of a search: what a run has where its level has an answer, and what the search makes of that.
use Rattle.std.specs.Prelude.{◌≡◌, ℕ, suc, ◌+◌, ℤ, Bool, true, false, List, [], ◌∷◌, Option, Some, None, length, take, slice_get, slice_index_or, codes}
use Rattle.pi_constraints.specs.declared.store.Ref.{Ref}
use Rattle.pi_constraints.specs.Store.{IsTerm, Extend}
use Rattle.pi_effects.specs.Exception.{type_error}
use Rattle.pi_prop_spec.specs.Postings.{posting_in}
use Rattle.pi_core.specs.GoalTree.{no_goals}
use Rattle.pi_settling.specs.SolveCalls.{solve_asked}
use Rattle.pi_meaning.specs.Machine.Configuration.{Search, Found, Back as BackData, Entry as EntryData, strict, search_level, config, going, raising}
use Rattle.pi_meaning.specs.Machine.Step.{round_step, round_call, search_args, search_slots, rounds_after, next_round, weighed_step, worth_in, bettered_now, better_goal, with_rest}
use Rattle.pi_engine_arenas.specs.declared.arenas.Back.{Back}
use Rattle.pi_engine_arenas.specs.declared.arenas.Entry.{Entry}
use Rattle.pi_engine_arenas.specs.declared.arenas.Search.{Search as Site}
use Rattle.pi_engine_arenas.specs.declared.blocks.BlocksMark.{BlocksMark}
use Rattle.pi_engine_arenas.specs.Blocks.{IsKept, IsOlder, brought_back}
use Rattle.pi_engine_arenas.specs.Arenas.{ArenasView, entry_at, newest, slots_kept_by}
use Rattle.pi_engine_stands.specs.Rests.{Rests}
use Rattle.pi_engine_stands.specs.Stands.{World, tables_in, entries_of, back_here, now_here, agrees_from, IsCodeOf, EntryIs, StackIs, StackStands, Stands, GoingIs}
use Rattle.pi_engine_stands.specs.Makes.{search_at}
use Rattle.pi_engine_stands.specs.Searches.{round_end}
use Rattle.pi_engine_stands.specs.Changes.{Change}

-- The arenas after a level is gone back to, whose entry has this number: it is the newest, its level is open, and there is what it brings back.
pub record Reopens {M : Type 0} (a b : ArenasView M) (level : ℕ) (back : Back) : Type 0 where
  pub entries : b.entries ≡ take level a.entries
  pub frames : b.frames ≡ take back.frames a.frames
  pub slots : IsKept a.blocks back.blocks → b.blocks.slots ≡ brought_back back.blocks a.blocks
  pub kept : b.blocks.kept ≡ back.blocks.slots
  pub keeps : (m : BlocksMark) → IsKept a.blocks back.blocks → IsKept a.blocks m → IsOlder m back.blocks → IsKept b.blocks m × (brought_back m b.blocks ≡ brought_back m a.blocks)
  pub opens : b.level ≡ level
  pub collected : b.collected ≡ a.collected

-- A level was gone back to, whose entry, which waits for this, is the newest and has this number: what is there is what it brings back, but for the store, which
-- goes on from what it has.
pub record IsReopened {M : Type 0} (w : World M) (level : ℕ) (back : Back) (y : EntryData) (es : List EntryData) : Type 0 where
  pub below : ℕ
  pub from : ℕ
  pub entry : Entry M
  pub number : level ≡ suc below
  pub count : length (entries_of w) ≡ suc below
  pub at : slice_get (entries_of w) below ≡ Some entry
  pub back_is : entry.back ≡ back
  pub is : EntryIs w es (entry_at (entries_of w) below) from (length w.arenas.collected) entry y
  pub stack : StackIs w below from es
  pub slots : w.arenas.blocks.slots ≡ (back_here w entry).slots
  pub frames : w.arenas.frames ≡ (back_here w entry).frames
  pub agrees : agrees_from w (Some entry) (now_here w)
  pub opens : w.arenas.level ≡ level
  pub kept : w.arenas.blocks.kept ≡ slots_kept_by (newest (entries_of w))
  pub code : IsCodeOf w.loaded.code (tables_in w.loaded) w.store.names w.loaded.preds
  pub state : Rests w.store.now.state
  pub tables : Extend w.loaded.terms w.store.now.terms

-- an entry of a search in a phase of its round
abbrev pub in_phase : Site → Bool → Site
in_phase site settles = record { place = site.place; goal = site.goal; caller = site.caller; greatest = site.greatest; is_settling = settles }

-- ---- what a search makes of an answer of its level, once that was gone back to

-- what a round posted is settled: it labels
abbrev pub LabelsRound : {M : Type 0} → ℕ → Back → Site → Change M → Type 0
LabelsRound level back site made =
    (x : Search) (f : Option Found) (b : BackData) (es : List EntryData) → IsReopened made.before level back (strict (search_level x false f) b) es → back.kind ≡ search_at site →
    Stands made.after made.now
    (round_step (solve_asked (codes "solve") (search_args x) made.before.store.now.state) (round_call x made.before.store.now.state) (with_rest no_goals [] (strict (search_level x true f) b ∷ es)))

-- a labelling has an answer, which is weighed
abbrev pub WeighsAnswer : {M : Type 0} → ℕ → Back → Site → Change M → Type 0
WeighsAnswer level back site made =
    (x : Search) (f : Option Found) (b : BackData) (es : List EntryData) → IsReopened made.before level back (strict (search_level x true f) b) es → back.kind ≡ search_at site →
    Stands made.after made.now (weighed_step x f made.before.store.now.state (worth_in x made.before.store.now.state) b es)

-- the expression, by this Ref, is no integer there
abbrev pub TellsNoInteger : {M : Type 0} → ℕ → Back → Site → Ref → Change M → Type 0
TellsNoInteger level back site wanted made =
    (x : Search) (f : Option Found) (b : BackData) (es : List EntryData) → IsReopened made.before level back (strict (search_level x true f) b) es → back.kind ≡ search_at site →
    IsTerm made.before.store wanted x.objective.expression → Stands made.after made.now (config (raising (type_error (codes "integer") x.objective.expression made.before.store.now.state)) es)

-- it has this value: the answer is the search's, or the next round begins
abbrev pub GoesOnWith : {M : Type 0} → ℕ → Back → Site → Ref → ℤ → Change M → Type 0
GoesOnWith level back site wanted value made =
    (x : Search) (f : Option Found) (b : BackData) (es : List EntryData) → IsReopened made.before level back (strict (search_level x true f) b) es → back.kind ≡ search_at site →
    slice_index_or made.before.arenas.blocks.slots (back.base + 2) None ≡ Some wanted → Stands made.after made.now (next_round (rounds_after x.objective f value) x made.before.store.now.state value b es)

-- the answer is the search's
abbrev pub IsTheAnswer : {M : Type 0} → ℕ → Back → Site → Change M → Type 0
IsTheAnswer level back site made =
    (x : Search) (f : Option Found) (b : BackData) (es : List EntryData) → IsReopened made.before level back (strict (search_level x true f) b) es → back.kind ≡ search_at site →
    Stands made.after made.now (config (going no_goals b.slots made.before.store.now.state b.frames) es)

-- the next round begins, after which so many may follow
abbrev pub BeginsRound : {M : Type 0} → ℕ → Back → Site → Ref → ℤ → ℕ → Change M → Type 0
BeginsRound level back site wanted value left made =
    (x : Search) (f : Option Found) (b : BackData) (es : List EntryData) → IsReopened made.before level back (strict (search_level x true f) b) es → back.kind ≡ search_at site →
    slice_index_or made.before.arenas.blocks.slots (back.base + 2) None ≡ Some wanted →
    Stands made.after made.now
    (config (bettered_now x b.state (posting_in b.state (better_goal x.objective value))) (strict (search_level x false (Some (record { state = made.before.store.now.state; left = left }))) b ∷ es))

-- in its block, which begins at a base, a better value is posted
abbrev pub PostsBetter : {M : Type 0} → ℕ → Ref → Bool → ℤ → Change M → Type 0
PostsBetter base wanted greatest value made =
    (x : Search) (es : List EntryData) → StackStands made.before es → GoingIs made.before (round_end base) no_goals (search_slots x) [] → greatest ≡ x.objective.greatest →
    IsTerm made.before.store wanted x.objective.expression →
    Stands made.after made.now (config (bettered_now x made.before.store.now.state (posting_in made.before.store.now.state (better_goal x.objective value))) es)
