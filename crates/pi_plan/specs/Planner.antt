-- A planner as its callers see it, and what its answers say.
use Rattle.std.specs.Prelude.{◌≡◌, ℕ, ◌<◌, ◌≤◌, ◌^◌, ℤ, pos, unsigned_abs, Bool, true, false, cond, List, [], ◌∷◌, ◌++◌, map, Option, Some, None, option_and_then, slice_get, Contains}
use Rattle.pi_terms.specs.Tree.{Tree}
use Rattle.pi_plan.specs.declared.given.Successor.{Successor}
use Rattle.pi_plan.specs.declared.given.GivenState.{GivenState}
use Rattle.pi_plan.specs.Plan.{Bodies, Valid, Reached, Exhausted, AllBelow, Wanted, IsFound, HasNoPlan, plan_term}
use Rattle.pi_plan.specs.Given.{IsGiven, over}
use Rattle.pi_plan.specs.Ways.{AreWays}
use Rattle.pi_plan.specs.Place.{place_of}
use Rattle.pi_plan.specs.Searching.{weight, Asked, asked_of, asked_by, place_asked, AreGiven, NoneFinal}
use Rattle.pi_plan.specs.Search.{IsSearchNow, HasRoot}
use Rattle.pi_plan.specs.declared.search.Way.{Way}
use Rattle.pi_plan.specs.declared.search.Search.{Search}
use Rattle.pi_plan.specs.declared.planner.PlanStep.{PlanStep}
use Rattle.pi_plan.specs.declared.planner.Ending.{Ending}
use Rattle.pi_plan.specs.declared.planner.Stage.{Stage}
use Rattle.pi_plan.specs.declared.planner.Planner.{Planner}

-- ---- what its callers see

abbrev pub wanted_of : Planner → Wanted
wanted_of p = record { best = p.best; start = p.start; limit = p.limit }

-- the state with its rest that a planner waits for
abbrev pub asked_at : Stage → List Way → Option Asked
asked_at Stage.Ready ways = None
asked_at (Stage.Asked i) ways = option_and_then (λ w. Some (asked_by w)) (slice_get ways i)
asked_at (Stage.Given i) ways = None
asked_at (Stage.Ended e) ways = None

abbrev pub waits_for : Planner → Option Asked
waits_for p = asked_at p.stage p.search.ways.items

-- the end that it has come to
abbrev pub ended_at : Stage → Option PlanStep
ended_at Stage.Ready = None
ended_at (Stage.Asked i) = None
ended_at (Stage.Given i) = None
ended_at (Stage.Ended (Ending.Found plan cost)) = Some (PlanStep.Found plan cost)
ended_at (Stage.Ended Ending.NoPlan) = Some PlanStep.NoPlan
ended_at (Stage.Ended Ending.Memory) = Some PlanStep.Memory

abbrev pub ended_by : Planner → Option PlanStep
ended_by p = ended_at p.stage

-- the call is the same
pub record IsSameCall (old new : Planner) : Type 0 where
  pub wanted : wanted_of new ≡ wanted_of old
  pub by_rest : new.search.by_rest ≡ old.search.by_rest

-- ---- what its answers say

-- a state is reached as early as it may be asked for where a best plan is wanted: by rests with its rest, and else with any, under
-- a number each of whose smaller ones is exhausted
pub record ReachedFirst (b : Bodies) (by_rest : Bool) (start : Tree) (whole : ℕ) (s : Tree) (r : ℕ) : Type 0 where
  pub number : ℕ
  pub within : number ≤ whole
  pub there : ℕ
  pub by_rests : by_rest ≡ true → (number ≡ whole) × (there ≡ r)
  pub reached : Reached b start number s there
  pub least : AllBelow b start number

-- a state may be asked for with a rest: the call reaches it, of `plan` under the limit and of `best_plan` under a number up to it,
-- and then as early as it may; nothing was given for it, and no plan that may be answered is there yet
pub record MayAsk (given : List GivenState) (by_rest : Bool) (w : Wanted) (s : Tree) (r : ℕ) : Type 0 where
  pub whole : ℕ
  pub within : whole ≤ w.limit
  pub reached : Reached (over given by_rest) w.start whole s r
  pub of_any : w.best ≡ false → whole ≡ w.limit
  pub of_best : w.best ≡ true → ReachedFirst (over given by_rest) by_rest w.start whole s r
  pub open_yet : IsGiven given by_rest s r → ⊥
  pub none_found : (plan : List Tree) (cost : ℕ) → IsFound (over given by_rest) w plan cost → ⊥

-- what an answer says, by what was given
abbrev pub Says : List GivenState → Bool → Wanted → PlanStep → Type 0
Says given by_rest w (PlanStep.Expand s r) = (q : ℕ) × (r ≡ pos q) × MayAsk given by_rest w s q
Says given by_rest w (PlanStep.Found plan cost) = (actions : List Tree) × (n : ℕ) × (plan ≡ plan_term actions) × (cost ≡ pos n) × IsFound (over given by_rest) w actions n
Says given by_rest w PlanStep.NoPlan = HasNoPlan (over given by_rest) w
Says given by_rest w PlanStep.Memory = Unit {0}

-- a planner waits for what it asks for, and behind an end for nothing: it answers that for good
abbrev pub LeavesAt : PlanStep → Stage → List Way → Type 0
LeavesAt (PlanStep.Expand s r) now ways = (q : ℕ) × (r ≡ pos q) × (asked_at now ways ≡ Some (record { state = s; rest = q }))
LeavesAt (PlanStep.Found plan cost) now ways = (ended_at now ≡ Some (PlanStep.Found plan cost)) × (asked_at now ways ≡ None)
LeavesAt PlanStep.NoPlan now ways = (ended_at now ≡ Some PlanStep.NoPlan) × (asked_at now ways ≡ None)
LeavesAt PlanStep.Memory now ways = (ended_at now ≡ Some PlanStep.Memory) × (asked_at now ways ≡ None)

abbrev pub Leaves : PlanStep → Planner → Type 0
Leaves step p = LeavesAt step p.stage p.search.ways.items

-- an end that is answered again. A plan is copied for that: where no memory is left for it, want of memory
abbrev pub Repeats : PlanStep → PlanStep → Type 0
Repeats (PlanStep.Found plan cost) PlanStep.Memory = Unit {0}
Repeats e step = step ≡ e

-- ---- what is true of each planner

abbrev pub number_of : Bool → ℕ → ℕ → ℕ
number_of by_rest whole level = cond by_rest whole level

-- under which number is searched, from where, by which ways, over what was given
pub record IsUnder (w : Wanted) (given : List GivenState) (s : Search) : Type 0 where
  pub bounded : w.limit < 2 ^ 127
  pub within : s.whole ≤ w.limit
  pub by_cost : s.by_rest ≡ false → s.whole ≡ w.limit
  pub any_plan : w.best ≡ false → s.whole ≡ w.limit
  pub root : HasRoot s w.start
  pub ways : AreWays (over given s.by_rest) w.start s.whole s.ways.items
  pub are_given : AreGiven given

-- all that was given is unfolded
pub record IsReady (w : Wanted) (given : List GivenState) (s : Search) : Type 0 where
  pub under : IsUnder w given s
  pub none_final : NoneFinal given
  pub level : ℕ
  pub search : IsSearchNow s level given (map asked_of given)
  pub least : w.best ≡ true → AllBelow (over given s.by_rest) w.start (number_of s.by_rest s.whole level)

-- a way is asked for
pub record IsAsking (w : Wanted) (given : List GivenState) (s : Search) (i : ℕ) : Type 0 where
  pub under : IsUnder w given s
  pub none_final : NoneFinal given
  pub way : Way
  pub at : slice_get s.ways.items i ≡ Some way
  pub within : way.rest ≤ s.whole
  pub place : way.place ≡ place_of s.by_rest way.place.state way.rest
  pub fresh : (p : Asked) → Contains (map asked_of given) p → place_asked s.by_rest p ≡ way.place → ⊥
  pub search : IsSearchNow s (weight s.by_rest s.whole way.rest) given (map asked_of given ++ asked_by way ∷ [])
  pub least : w.best ≡ true → AllBelow (over given s.by_rest) w.start (number_of s.by_rest s.whole (weight s.by_rest s.whole way.rest))

-- the last of what was given is for that way, and isn't unfolded
pub record IsAnswered (w : Wanted) (given : List GivenState) (s : Search) (i : ℕ) : Type 0 where
  pub before : List GivenState
  pub entry : GivenState
  pub last : given ≡ before ++ entry ∷ []
  pub under : IsUnder w given s
  pub none_final : NoneFinal before
  pub way : Way
  pub at : slice_get s.ways.items i ≡ Some way
  pub within : way.rest ≤ s.whole
  pub state : entry.state ≡ way.place.state
  pub rest : entry.rest ≡ pos way.rest
  pub search : IsSearchNow s (weight s.by_rest s.whole way.rest) before (map asked_of before ++ asked_by way ∷ [])
  pub least : w.best ≡ true → AllBelow (over given s.by_rest) w.start (number_of s.by_rest s.whole (weight s.by_rest s.whole way.rest))

abbrev pub IsSoundAt : Stage → Wanted → List GivenState → Search → Type 0
IsSoundAt Stage.Ready w given s = IsReady w given s
IsSoundAt (Stage.Asked i) w given s = IsAsking w given s i
IsSoundAt (Stage.Given i) w given s = IsAnswered w given s i
IsSoundAt (Stage.Ended e) w given s = Unit {0}

abbrev pub IsSound : Planner → Type 0
IsSound p = IsSoundAt p.stage (wanted_of p) p.given p.search

-- every way is taken, so the number that is searched is exhausted
pub record IsSpent (w : Wanted) (given : List GivenState) (s : Search) : Type 0 where
  pub under : IsUnder w given s
  pub none_final : NoneFinal given
  pub level : ℕ
  pub search : IsSearchNow s level given (map asked_of given)
  pub dry : s.frontier.keys ≡ []
  pub spent : (m : ℕ) → m ≤ s.whole → (s.by_rest ≡ true → m ≡ s.whole) → Exhausted (over given s.by_rest) w.start m
  pub least : w.best ≡ true → AllBelow (over given s.by_rest) w.start (number_of s.by_rest s.whole level)

-- a way is to be asked for, or there is no plan
abbrev pub Advances : Wanted → List GivenState → Search → Option ℕ → Type 0
Advances w given s (Some i) = IsAsking w given s i
Advances w given s None = HasNoPlan (over given s.by_rest) w

-- a term is a plan that is valid under this number, with this cost
pub record IsPlan (given : List GivenState) (by_rest : Bool) (start : Tree) (whole cost : ℕ) (t : Tree) : Type 0 where
  pub actions : List Tree
  pub term : t ≡ plan_term actions
  pub valid : Valid (over given by_rest) start whole actions cost

-- the number that is searched first
abbrev pub first_number_of : ℕ → Bool → Bool → ℕ
first_number_of limit best by_rest = cond best (cond by_rest 0 limit) limit

-- ---- what planners do

-- where the search has come to: a way is asked for, or it has ended, in a plan or without one
abbrev pub StageIs : Wanted → List GivenState → Search → Stage → Type 0
StageIs w given s Stage.Ready = ⊥
StageIs w given s (Stage.Asked i) = IsAsking w given s i
StageIs w given s (Stage.Given i) = ⊥
StageIs w given s (Stage.Ended (Ending.Found plan cost)) = Says given s.by_rest w (PlanStep.Found plan cost)
StageIs w given s (Stage.Ended Ending.NoPlan) = HasNoPlan (over given s.by_rest) w
StageIs w given s (Stage.Ended Ending.Memory) = ⊥

-- how a planner goes on from each stage
abbrev pub GoesOn : Stage → Stage → Wanted → List GivenState → Search → Type 0
GoesOn Stage.Ready now w given s = StageIs w given s now
GoesOn (Stage.Asked i) now w given s = now ≡ Stage.Asked i
GoesOn (Stage.Given i) now w given s = StageIs w given s now
GoesOn (Stage.Ended e) now w given s = now ≡ Stage.Ended e

-- memory may be wanted at a stage: at each but the ends for which nothing is copied
abbrev pub MayLack : Stage → Type 0
MayLack Stage.Ready = Unit {0}
MayLack (Stage.Asked i) = Unit {0}
MayLack (Stage.Given i) = Unit {0}
MayLack (Stage.Ended (Ending.Found plan cost)) = Unit {0}
MayLack (Stage.Ended Ending.NoPlan) = ⊥
MayLack (Stage.Ended Ending.Memory) = ⊥

-- what is answered at each stage
abbrev pub Tells : Stage → List Way → PlanStep → Type 0
Tells Stage.Ready ways step = Unit {0}
Tells (Stage.Asked i) ways step = (w : Way) → slice_get ways i ≡ Some w → w.rest < 2 ^ 127 → step ≡ PlanStep.Expand w.place.state (pos w.rest)
Tells (Stage.Given i) ways step = Unit {0}
Tells (Stage.Ended (Ending.Found plan cost)) ways step = step ≡ PlanStep.Found plan cost
Tells (Stage.Ended Ending.NoPlan) ways step = step ≡ PlanStep.NoPlan
Tells (Stage.Ended Ending.Memory) ways step = step ≡ PlanStep.Memory

-- a planner that has just been made
pub record Begins (start : Tree) (limit : ℤ) (best by_rest : Bool) (p : Planner) : Type 0 where
  pub wanted : wanted_of p ≡ record { best = best; start = start; limit = unsigned_abs limit }
  pub is_by_rest : p.search.by_rest ≡ by_rest
  pub given : p.given ≡ []
  pub waits : waits_for p ≡ None
  pub ended : ended_by p ≡ None

-- a planner that was given what it waited for
pub record Gives (old new : Planner) (is_final : Bool) (successors : List Successor) : Type 0 where
  pub same : IsSameCall old new
  pub asked : Asked
  pub was : waits_for old ≡ Some asked
  pub given : new.given ≡ old.given ++ record { state = asked.state; rest = pos asked.rest; is_final = is_final; successors = successors } ∷ []
  pub waits : waits_for new ≡ None
  pub ended : ended_by new ≡ None
