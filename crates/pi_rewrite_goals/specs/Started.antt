-- Where loops over iterators and tests begin and end.
use Rattle.std.specs.Prelude.{◌≡◌, true, false, List, [], ◌∷◌, ◌++◌, Option, Some, None}
use Rattle.pi_core.specs.GoalTree.{GoalTree}
use Rattle.pi_core.specs.CoreTree.{PredTree}
use Rattle.pi_syntax.specs.ExpTree.{ExpTrees}
use Rattle.pi_meaning.specs.OverNames.Texts.{Names, begins_with_iterator}
use Rattle.pi_rewrite_spec.specs.Slots.{SlotNames}
use Rattle.pi_rewrite_spec.specs.Goals.{SlotGoals}
use Rattle.pi_rewrite_spec.specs.Sites.{Site}
use Rattle.pi_rewrite_spec.specs.Loops.{Ending, as_it_is, loop_slots, loop_goals, only_turn}
use Rattle.pi_rewrite_spec.specs.Written.{Inner, start_loop, turns_of}
use Rattle.pi_rewrite_sites.specs.SiteOf.{site_of}
use Rattle.pi_rewrite_loops.specs.Parts.{AreGoals}
use Rattle.pi_rewrite_loops.specs.Helpers.{loop_of, ending_of}
use Rattle.pi_rewrite_loops.specs.declared.loops.Loop.{Loop}
use Rattle.pi_rewrite_goals.specs.Lowering.{SoFar}
use Rattle.pi_rewrite_goals.specs.declared.iterated.Start.{Start}

-- a loop of a text: where it stands, its ending, the names that it keeps, what stands in it, and its iterators and tests
pub record LoopText : Type 0 where
  pub site : Site
  pub ending : Ending
  pub kept : Names
  pub inner : Inner
  pub units : ExpTrees

abbrev pub loop_text : Site → Ending → Names → Inner → ExpTrees → LoopText
loop_text s ending kept i us = record { site = s; ending = ending; kept = kept; inner = i; units = us }

-- where its turns are put: their site, the ending of what stands first there, and the goals and slots so far
pub record TurnsAt : Type 0 where
  pub site : Site
  pub ending : Ending
  pub goals : List GoalTree
  pub slots : SlotNames

abbrev pub turns_at : Site → Ending → List GoalTree → SlotNames → TurnsAt
turns_at t now goals ms = record { site = t; ending = now; goals = goals; slots = ms }

-- a loop begins with an iterator, which stands where the loop does
pub record BeginsOpen (l : LoopText) (old : SlotNames) (t : TurnsAt) : Type 0 where
  pub begins : begins_with_iterator l.units ≡ true
  pub ending_is : t.ending ≡ l.ending
  pub site : t.site ≡ l.site
  pub goals_are : t.goals ≡ []
  pub slots : t.slots ≡ old

-- or with a test, or with the body
pub record BeginsWhole (w : Loop) (l : LoopText) (old : SlotNames) (t : TurnsAt) (new : SlotNames) : Type 0 where
  pub begins : begins_with_iterator l.units ≡ false
  pub whole : loop_of w ≡ start_loop l.site l.ending l.kept l.inner l.units
  pub ending_is : t.ending ≡ as_it_is
  pub site : t.site ≡ turns_of l.site (loop_of w)
  pub goals_are : t.goals ≡ []
  pub slots : t.slots ≡ loop_slots (loop_of w)
  pub same : new ≡ old

abbrev pub Begins : Option Loop → LoopText → SlotNames → TurnsAt → SlotNames → Type 0
Begins None l old t new = BeginsOpen l old t
Begins (Some w) l old t new = BeginsWhole w l old t new

abbrev pub IsStart : LoopText → SlotNames → Start → SlotNames → Type 0
IsStart l old st new =
    Begins st.whole l old (turns_at (site_of st.inside.site) (ending_of st.ending) st.inside.goals.items st.inside.slots) new

-- what all is closed to is put behind the goals, or into a helper that is called there
pub record EndsOpen (turn : SlotGoals) (old new : SoFar PredTree) : Type 0 where
  pub put : AreGoals turn old.goals new.goals new.slots
  pub helpers : new.helpers ≡ old.helpers

pub record EndsWhole (w : Loop) (s : Site) (turn : SlotGoals) (old new : SoFar PredTree) : Type 0 where
  pub put : AreGoals (loop_goals s.filled s.before (loop_of w) old.slots) old.goals new.goals new.slots
  pub helpers : new.helpers ≡ old.helpers ++ only_turn (loop_of w) turn ∷ []

abbrev pub Ends : Option Loop → Site → SlotGoals → SoFar PredTree → SoFar PredTree → Type 0
Ends None s turn old new = EndsOpen turn old new
Ends (Some w) s turn old new = EndsWhole w s turn old new
