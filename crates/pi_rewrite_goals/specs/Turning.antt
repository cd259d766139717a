-- `while` and `do` as code goes through them: where their turns begin, and where they end.
use Rattle.std.specs.Prelude.{◌≡◌, List, [], ◌∷◌, ◌++◌}
use Rattle.pi_core.specs.GoalTree.{GoalTree}
use Rattle.pi_core.specs.CoreTree.{PredTree}
use Rattle.pi_syntax.specs.ExpTree.{ExpTree}
use Rattle.pi_rewrite_spec.specs.Slots.{SlotNames}
use Rattle.pi_rewrite_spec.specs.Sites.{Site, behind_exp}
use Rattle.pi_rewrite_spec.specs.Loops.{Loop, loop_slots, loop_goals}
use Rattle.pi_rewrite_spec.specs.Written.{turns_of}
use Rattle.pi_rewrite_sites.specs.SiteOf.{site_of}
use Rattle.pi_rewrite_loops.specs.Parts.{AreGoals}
use Rattle.pi_rewrite_loops.specs.Helpers.{loop_of}
use Rattle.pi_rewrite_goals.specs.declared.loops.Turns.{Turns}

-- the turns of a loop have begun, whose first goal is this
pub record HasTurns (s : Site) (l : Loop) (e : ExpTree) (t : Turns) : Type 0 where
  pub whole : loop_of t.whole ≡ l
  pub first : site_of t.first ≡ turns_of s l
  pub second : site_of t.second ≡ behind_exp (turns_of s l) e
  pub slots : t.slots ≡ loop_slots l
  pub one : t.one.items ≡ []
  pub other : t.other.items ≡ []

-- the loop is put behind the goals, and its helper behind those before
pub record EndsTurns (s : Site) (l : Loop) (h : PredTree) (ns : SlotNames) (old new : List GoalTree) (ms : SlotNames) (hs all : List PredTree) : Type 0 where
  pub put : AreGoals (loop_goals s.filled s.before l ns) old new ms
  pub owns : all ≡ hs ++ h ∷ []
