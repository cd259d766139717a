-- Loops over iterators and tests as code goes through them: where they begin, one more test or iterator that is open, and where they end.
use Rattle.std.specs.Prelude.{◌≡◌, Bool, ⊤, List, [], ◌∷◌, ◌++◌, length, Option}
use Rattle.pi_terms.specs.Tree.{Tree}
use Rattle.pi_core.specs.GoalTree.{GoalTree}
use Rattle.pi_core.specs.CoreTree.{PredTree}
use Rattle.pi_syntax.specs.ExpTree.{ExpTree, ExpTrees, foreach, collect}
use Rattle.pi_meaning.specs.OverNames.Texts.{Names, assigned, kept_names}
use Rattle.pi_meaning.specs.OverNames.Loops.{hidden}
use Rattle.pi_rewrite_spec.specs.Slots.{SlotNames}
use Rattle.pi_rewrite_spec.specs.Goals.{SlotGoals}
use Rattle.pi_rewrite_spec.specs.Sites.{Site}
use Rattle.pi_rewrite_spec.specs.Loops.{Ending, as_it_is, in_order, started}
use Rattle.pi_rewrite_spec.specs.Iterators.{behind_collection}
use Rattle.pi_rewrite_spec.specs.Comprehensions.{adding, begun}
use Rattle.pi_rewrite_spec.specs.Written.{Inner, inner_of, gathering, gathered_at}
use Rattle.pi_rewrite_sites.specs.SiteOf.{site_of}
use Rattle.pi_rewrite_loops.specs.Parts.{AreGoals, goals_before}
use Rattle.pi_rewrite_loops.specs.Helpers.{ending_of, lowered}
use Rattle.pi_rewrite_loops.specs.declared.loops.Loop.{Loop}
use Rattle.pi_rewrite_goals.specs.Planned.{inner_in, IsPlanned}
use Rattle.pi_rewrite_goals.specs.Opened.{all_around, all_own, StepTo}
use Rattle.pi_rewrite_goals.specs.Started.{Begins, Ends, loop_text, turns_at}
use Rattle.pi_rewrite_goals.specs.declared.inner.Planned.{Planned}
use Rattle.pi_rewrite_goals.specs.declared.opened.Open.{Open}
use Rattle.pi_rewrite_goals.specs.declared.whole.Iterating.{Iterating}
use Rattle.pi_rewrite_goals.specs.declared.whole.Comprehension.{Comprehension}
use Rattle.pi_rewrite_goals.specs.declared.whole.Around.{Around}
use Rattle.pi_rewrite_goals.specs.Lowering.{so_far}

-- a loop has begun
pub record Iterates (s : Site) (ending : Ending) (kept : Names) (i : Inner) (us : ExpTrees) (old : SlotNames) (b : Iterating) (new : SlotNames) : Type 0 where
  pub inner : inner_in b.inner ≡ i
  pub begins : Begins b.whole (loop_text s ending kept i us) old (turns_at (site_of b.inside.site) (ending_of b.ending) b.inside.goals.items b.inside.slots) new

-- it is this loop
unfoldable pub HasBegun : Site → ExpTree → SlotNames → Iterating → SlotNames → Type 0
HasBegun s (foreach us e) ns b ms = Iterates s as_it_is (kept_names s.before us (assigned e)) (inner_of e) us ns b ms
HasBegun s e ns b ms = ⊤

-- an iterator as it was planned, or a test, is open
pub record OpensUnit (p : Option Planned) (t : Site) (u : ExpTree) (goals : List GoalTree) (ms : SlotNames) (o : Open) (t' : Site) (more : List GoalTree) (m : SlotNames) (old new : List PredTree) : Type 0 where
  pub step : (now : Ending) (i : Inner) (us : ExpTrees) → IsPlanned t now i u us p → StepTo i t now u us goals ms o t' more m old new

-- what is open is closed around these goals, and the loop is put
pub record EndsLoop (w : Option Loop) (s : Site) (os : List Open) (g : SlotGoals) (ns : SlotNames) (old new : List GoalTree) (ms : SlotNames) (hs all : List PredTree) : Type 0 where
  pub turn : List GoalTree
  pub slots : SlotNames
  pub owned : List PredTree
  pub closes : lowered turn slots ≡ all_around os g
  pub owns : owned ≡ hs ++ all_own os g
  pub ends : Ends w s (lowered turn slots) (so_far ns old owned) (so_far ms new all)

-- ---- comprehensions

-- the loop of one has begun
pub record Gathers (s : Site) (e : ExpTree) (es : ExpTrees) (is_array : Bool) (ns : SlotNames) (old : List GoalTree) (c : Comprehension) (ms : SlotNames) (new : List GoalTree) : Type 0 where
  pub first : List GoalTree
  pub within : SlotNames
  pub inner : inner_in c.inner ≡ gathering e
  pub site : site_of c.around.site ≡ gathered_at s
  pub starts : AreGoals (goals_before (started s.filled s.before ns)) old first ms
  pub has_begun : AreGoals (begun ms) first new within
  pub begins : Begins c.around.whole (loop_text (site_of c.around.site) (in_order is_array) (hidden ∷ []) (gathering e) es) within (turns_at (site_of c.inside.site) (ending_of c.ending) c.inside.goals.items c.inside.slots) c.around.slots

-- it is this comprehension
unfoldable pub IsGathering : Site → ExpTree → SlotGoals → Comprehension → SlotGoals → Type 0
IsGathering s (collect is_array e us) old c new = Gathers s e us is_array old.names old.goals c new.names new.goals
IsGathering s e old c new = ⊤

-- an item is gathered, the loop ends, and the slot with what was gathered is the value
pub record EndsGathering (a : Around) (os : List Open) (item : Tree) (mid : List GoalTree) (l ms : SlotNames) (old : List GoalTree) (list : Tree) (new : List GoalTree) (end : SlotNames) (hs all : List PredTree) : Type 0 where
  pub turn : List GoalTree
  pub slots : SlotNames
  pub behind : SlotNames
  pub adds : AreGoals (adding (record { goals = []; tree = item; names = l })) mid turn slots
  pub ends : EndsLoop a.whole (site_of a.site) os (lowered turn slots) a.slots old new behind hs all
  pub is : list ≡ Tree.var (length ms)
  pub left : end ≡ behind_collection ms behind
