-- What each form of goal and expression is made of, over slots: of the goals and values of its parts, which `Written` puts together by the text. Values of nested calls are made before
-- the goal that uses them, from the left, inner first, each in a slot of its own. (Own.)
use Rattle.std.specs.Prelude.{ℕ, zero, suc, Bool, false, cond, List, [], ◌∷◌, ◌++◌, length, Option, Some, None, codes}
use Rattle.std.specs.Str.{bytes_eq}
use Rattle.pi_terms.specs.Tree.{Tree}
use Rattle.pi_effects.specs.Indexing.{index_name}
use Rattle.pi_effects.specs.Inner.{itself_name}
use Rattle.pi_syntax.specs.ExpTree.{ExpTrees, no_exps, exp}
use Rattle.pi_core.specs.GoalTree.{GoalTree, goals_of}
use Rattle.pi_meaning.specs.OverNames.Forms.{Form, negation, once, assignment, catch, by_term, membership, is_find_all, is_count_all}
use Rattle.pi_rewrite_spec.specs.Slots.{SlotNames, slot_for, slots_for, with_value}
use Rattle.pi_rewrite_spec.specs.Values.{is_flat, SlotValue, SlotValues, no_values, before_values, applied, Slotted, slotted}

-- ---- goals

-- goals one after the other, and the slots after them
pub record SlotGoals : Type 0 where
  pub goals : List GoalTree
  pub names : SlotNames

-- alternatives in order, and the slots after them
pub record SlotBranches : Type 0 where
  pub branches : List GoalTree
  pub names : SlotNames

-- several goals as one, and several alternatives as one
abbrev pub in_turn : List GoalTree → GoalTree
in_turn [] = GoalTree.truth
in_turn (g ∷ []) = g
in_turn (g ∷ g' ∷ gs) = GoalTree.seq (goals_of (g ∷ g' ∷ gs))

abbrev pub either_of : List GoalTree → GoalTree
either_of [] = GoalTree.fail
either_of (g ∷ []) = g
either_of (g ∷ g' ∷ gs) = GoalTree.alternatives (goals_of (g ∷ g' ∷ gs))

-- one goal
abbrev pub just : GoalTree → SlotNames → SlotGoals
just g ns = record { goals = g ∷ []; names = ns }

-- for what stands in no such place
abbrev pub never : SlotNames → SlotGoals
never ns = just GoalTree.fail ns

abbrev pub no_value : SlotNames → SlotValue
no_value ns = record { goals = GoalTree.fail ∷ []; tree = Tree.atom []; names = ns }

-- goals that are one goal of what they are
abbrev pub goal_by : (GoalTree → GoalTree) → SlotGoals → SlotGoals
goal_by make gs = just (make (in_turn gs.goals)) gs.names

-- ---- calls

-- a call's arguments: the variable that stands first, where one does; each as a goal and as an expression that is the last to be evaluated; and all of them as arguments
pub record SlotParts : Type 0 where
  pub variable : Option (List ℕ)
  pub goals : List (SlotNames → SlotGoals)
  pub values : List (SlotNames → SlotValue)
  pub all : SlotNames → SlotValues

unfoldable pub goals_at : List (SlotNames → SlotGoals) → ℕ → SlotNames → SlotGoals
goals_at [] i ns = never ns
goals_at (g ∷ gs) zero ns = g ns
goals_at (g ∷ gs) (suc i) ns = goals_at gs i ns

unfoldable pub value_at : List (SlotNames → SlotValue) → ℕ → SlotNames → SlotValue
value_at [] i ns = no_value ns
value_at (v ∷ vs) zero ns = v ns
value_at (v ∷ vs) (suc i) ns = value_at vs i ns

abbrev pub called : List ℕ → SlotValues → SlotGoals
called name vs = record { goals = vs.goals ++ GoalTree.call name vs.trees ∷ []; names = vs.names }

-- what is caught is evaluated first
abbrev pub catching : (SlotNames → SlotGoals) → (SlotNames → SlotGoals) → SlotValue → SlotGoals
catching g handler ball =
    record {
      goals = ball.goals ++ GoalTree.catch (in_turn (g ball.names).goals) ball.tree (in_turn (handler (g ball.names).names).goals) ∷ [];
      names = (handler (g ball.names).names).names;
    }

-- a value goes into the slot of a name, as it stands
abbrev pub put : List ℕ → SlotValue → SlotGoals
put name v = record { goals = v.goals ++ GoalTree.apply itself_name (v.tree ∷ []) (slot_for name v.names) ∷ []; names = slots_for name v.names }

-- `X := E`: the slot of X has another value from here on. So it has one slot behind branches of which only some assign it, and one that no branch has come to stays empty.
abbrev pub assigned : Option (List ℕ) → SlotValue → SlotGoals
assigned None v = record { goals = v.goals ++ GoalTree.fail ∷ []; names = v.names }
assigned (Some name) v = put name v

abbrev pub call_goals : List ℕ → Option Form → SlotParts → SlotNames → SlotGoals
call_goals name None parts ns = called name (parts.all ns)
call_goals name (Some negation) parts ns = goal_by GoalTree.not (goals_at parts.goals 0 ns)
call_goals name (Some once) parts ns = goal_by GoalTree.once (goals_at parts.goals 0 ns)
call_goals name (Some assignment) parts ns = assigned parts.variable (value_at parts.values 1 ns)
call_goals name (Some catch) parts ns = catching (goals_at parts.goals 0) (goals_at parts.goals 2) (value_at parts.values 1 ns)
call_goals name (Some by_term) parts ns = called name (parts.all ns)
call_goals name (Some membership) parts ns = never ns

abbrev pub atom_goals : List ℕ → SlotNames → SlotGoals
atom_goals name ns =
    just (cond (bytes_eq name (codes "true")) GoalTree.truth (cond (bytes_eq name (codes "fail")) GoalTree.fail (GoalTree.call name []))) ns

-- `find_all`: the expression is evaluated behind the goal, in it
abbrev pub all_found : SlotNames → List GoalTree → Slotted → SlotValue
all_found ns goals v =
    record { goals = GoalTree.collect (in_turn (goals ++ v.goals)) v.place (length v.names) ∷ []; tree = Tree.var (length v.names); names = with_value v.names }

abbrev pub found_by : SlotGoals → (SlotNames → SlotValue) → SlotValue
found_by g v = all_found g.names g.goals (slotted (v g.names).goals (v g.names).tree (v g.names).names)

abbrev pub all_counted : SlotGoals → SlotValue
all_counted g = record { goals = GoalTree.count (in_turn g.goals) (length g.names) ∷ []; tree = Tree.var (length g.names); names = with_value g.names }

abbrev pub call_value : List ℕ → ℕ → SlotParts → SlotNames → SlotValue
call_value name k parts ns =
    cond (is_find_all name k) (found_by (goals_at parts.goals 1 ns) (value_at parts.values 0))
    (cond (is_count_all name k) (all_counted (goals_at parts.goals 0 ns)) (applied name (parts.all ns)))

-- one index after the other
abbrev pub indexed : SlotValue → (SlotNames → SlotValue) → SlotValue
indexed v i = applied index_name (before_values v (before_values (i v.names) (no_values (i v.names).names)))

unfoldable pub indexed_by : SlotValue → List (SlotNames → SlotValue) → SlotValue
indexed_by v [] = v
indexed_by v (i ∷ is) = indexed_by (indexed v i) is

abbrev pub begins_flat : ExpTrees → Bool
begins_flat no_exps = false
begins_flat (exp e es) = is_flat e

-- the bounds of a range, and its step
abbrev pub two_parts : SlotValue → (SlotNames → SlotValue) → SlotValues
two_parts first last = before_values first (before_values (last first.names) (no_values (last first.names).names))

abbrev pub three_parts : SlotValue → (SlotNames → SlotValue) → (SlotNames → SlotValue) → SlotValues
three_parts first step last = before_values first (two_parts (step first.names) last)

abbrev pub range_of_two : SlotValue → (SlotNames → SlotValue) → SlotValue
range_of_two first last = applied (codes "..") (two_parts first last)

abbrev pub range_of_three : SlotValue → (SlotNames → SlotValue) → (SlotNames → SlotValue) → SlotValue
range_of_three first step last = applied (codes "..") (three_parts first step last)

-- ---- control

abbrev pub joined : SlotGoals → SlotGoals → SlotGoals
joined gs hs = record { goals = gs.goals ++ hs.goals; names = hs.names }

-- a condition with its body, and what is done where it has no answer
abbrev pub choosing : SlotGoals → (SlotNames → SlotGoals) → (SlotNames → SlotGoals) → SlotGoals
choosing test body other =
    let held : SlotGoals = body test.names in
    let otherwise : SlotGoals = other held.names in
    just (GoalTree.if_else (in_turn test.goals) (in_turn held.goals) (in_turn otherwise.goals)) otherwise.names

-- alternatives as one goal
abbrev pub as_goals : SlotBranches → SlotGoals
as_goals bs = just (either_of bs.branches) bs.names

-- a branch of a disjunction with an arrow
pub record SlotArrow : Type 0 where
  pub test : SlotNames → SlotGoals
  pub body : SlotNames → SlotGoals

-- a branch, and those behind it, which are alternatives, or of an arrow its else part
abbrev pub in_front : SlotGoals → (SlotNames → SlotBranches) → SlotBranches
in_front g others = record { branches = in_turn g.goals ∷ (others g.names).branches; names = (others g.names).names }

abbrev pub one_branch : SlotGoals → SlotBranches
one_branch g = record { branches = g.goals; names = g.names }

abbrev pub branch_before : Option SlotArrow → (SlotNames → SlotGoals) → (SlotNames → SlotBranches) → SlotNames → SlotBranches
branch_before None g others ns = in_front (g ns) others
branch_before (Some a) g others ns = one_branch (choosing (a.test ns) a.body (λ ms. as_goals (others ms)))
