-- What entries keep: one mark each, which brings back the state in which the entry was made, and its place in the program. And what is there
-- when an entry was come back to.
use Rattle.std.specs.Prelude.{◌≡◌, ℕ, List, ◌∷◌, ◌++◌, Some, length, slice_get, ⊤}
use Rattle.pi_constraints.specs.State.{State}
use Rattle.pi_constraints.specs.Store.{StoreView, IsGood}
use Rattle.pi_engine_arenas.specs.declared.arenas.Back.{Back}
use Rattle.pi_engine_arenas.specs.declared.arenas.Entry.{Entry}
use Rattle.pi_engine_arenas.specs.declared.run.Now.{Now}
use Rattle.pi_engine_arenas.specs.Arenas.{ArenasView, ReturnsToNewest, between}
use Rattle.pi_meaning.specs.Machine.Configuration.{Entry as EntryData, choice, strict, catch_level, left, Config}
use Rattle.pi_engine_stands.specs.Stands.{World, entries_of, back_here, KindIs, StackLies, Stands}

-- the machine as data goes on from this state where it comes back to the entry: the one in which it was made. The mark that a
-- `catch` was left goes on from none
abbrev pub IsMadeIn : EntryData → State → Type 0
IsMadeIn (choice c b) s = b.state ≡ s
IsMadeIn (strict l b) s = b.state ≡ s
IsMadeIn (catch_level ball handler b) s = b.state ≡ s
IsMadeIn left s = ⊤

-- the entry with this number, from the oldest on: its mark is good and brings back the state in which it was made, and its kind names its place
pub record KeepsOneMark {M : Type 0} (w : World M) (n : ℕ) (y : EntryData) : Type 0 where
  pub entry : Entry M
  pub at : slice_get (entries_of w) n ≡ Some entry
  pub good : IsGood w.store entry.mark
  pub made : IsMadeIn y (w.store.at_mark entry.mark).state
  pub from : ℕ
  pub to : ℕ
  pub place : KindIs w.loaded w.arenas.collected (back_here w entry) (w.store.at_mark entry.mark).state entry.back.base entry.back.frame entry.back.blocks.slots from to entry.back.kind y

-- a run that stands for a configuration has an entry for each of the configuration's, and no other
abbrev pub EntriesKeepOneMark : Type 0 → Type 0
EntriesKeepOneMark M =
    (w : World M) (now : Now) (c : Config) → Stands w now c →
    (length c.stack ≡ length (entries_of w)) × ((newer es : List EntryData) (y : EntryData) → c.stack ≡ newer ++ y ∷ es → KeepsOneMark w (length es) y)

-- where the newest entry is come back to, the state is the one in which it was made
abbrev pub ReturnsToTheMaking : Type 0 → Type 0
ReturnsToTheMaking M =
    (w : World M) (v : StoreView M) (b : ArenasView M) (back : Back) (y : EntryData) (es : List EntryData) → StackLies w (y ∷ es) →
    ReturnsToNewest w.order (between w.store v w.arenas b) back → IsMadeIn y v.now.state
