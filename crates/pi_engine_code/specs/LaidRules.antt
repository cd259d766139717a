-- Rules and predicates laid out in tables that only grow.
use Rattle.pi_terms.specs.PatternTree.{PatternTree, slot, exact_int, exact_atom, PatternTrees, no_patterns, pattern}
use Rattle.std.specs.Prelude.{◌≡◌, ◌≢◌, ℕ, suc, ◌+◌, Bool, false, List, [], ◌∷◌, Option, Some, None, length, map, is_none, is_some, slice_get, AllPairs, ⊤}
use Rattle.pi_terms.specs.Tree.{Tree}
use Rattle.pi_constraints.specs.Store.{StoreView}
use Rattle.pi_core.specs.GoalTree.{GoalTree, truth, nodes}
use Rattle.pi_core.specs.CoreTree.{ClauseTree, PredTree, pred_tree, leaves_others}
use Rattle.pi_core.specs.declared.core_program.CorePred.{CorePred}
use Rattle.pi_engine_code.specs.declared.code.HeadTest.{HeadTest}
use Rattle.pi_engine_code.specs.declared.code.Rule.{Rule}
use Rattle.pi_engine_code.specs.declared.code.Predicate.{Predicate}
use Rattle.pi_engine_code.specs.declared.code.Code.{Code}
use Rattle.pi_engine_code.specs.Code.{Tables}
use Rattle.pi_meaning.specs.CoreMeaning.Sound.{IsAnother}
use Rattle.pi_engine_code.specs.Callables.{AreCallable}
use Rattle.pi_engine_code.specs.Keyed.{AreKeyed}
use Rattle.pi_engine_code.specs.Laid.{Adds, IsLaid, IsValueLaid, AreResolved, layout, Layout, tables_for}

-- a test is that of a pattern; a pattern that needs more is looked up in the program
abbrev pub IsTestOf : List (List ℕ) → PatternTree → HeadTest → Type 0
IsTestOf names p HeadTest.Deep = ⊤
IsTestOf names p (HeadTest.Slot k) = p ≡ slot k
IsTestOf names p (HeadTest.Int n) = p ≡ exact_int n
IsTestOf names p (HeadTest.Atom k) = (name : List ℕ) × (slice_get names k ≡ Some name) × (p ≡ exact_atom name)

-- ---- tables that grow

-- tables get longer, those of rules and predicates stay
pub record AddsRule {M : Type 0} (v w : StoreView M) (c d : Code) : Type 0 where
  pub adds : Adds v w c d
  pub rules : d.rules ≡ c.rules
  pub predicates : d.predicates ≡ c.predicates

-- that of predicates stays
pub record AddsRules {M : Type 0} (v w : StoreView M) (c d : Code) : Type 0 where
  pub adds : Adds v w c d
  pub predicates : d.predicates ≡ c.predicates

-- ---- rules

-- the tests from a place on are those of patterns; none is deep, where none is said to be
unfoldable pub TestsAt : List (List ℕ) → List HeadTest → Bool → ℕ → PatternTrees → Type 0
TestsAt names tests deep at no_patterns = ⊤
TestsAt names tests deep at (pattern p ps) =
    ((t : HeadTest) × (slice_get tests at ≡ Some t) × IsTestOf names p t × (deep ≡ false → t ≢ HeadTest.Deep)) × TestsAt names tests deep (suc at) ps

-- a condition is laid out at a place; `truth` has none
abbrev pub IsGuardLaid : Layout → Option ℕ → GoalTree → Type 0
IsGuardLaid l None g = g ≡ truth
IsGuardLaid l (Some place) g = (g ≢ truth) × IsLaid l place g false

-- how many goals a body is, and the value behind it
abbrev pub IsBodyEnd : Layout → ℕ → ℕ → Option Tree → Type 0
IsBodyEnd l at goals None = goals ≡ 1
IsBodyEnd l at goals (Some value) = (goals ≡ 2) × IsValueLaid l.tables l.steps l.first l.slots at value

-- what rules are laid out in: the predicates that they call, the tables, the store's names, and the code
pub record InTables : Type 0 where
  pub preds : List CorePred
  pub tables : Tables
  pub names : List (List ℕ)
  pub code : Code

abbrev pub in_tables : List CorePred → Tables → List (List ℕ) → Code → InTables
in_tables preds t names code = record { preds = preds; tables = t; names = names; code = code }

-- the same of tables as they are with a store
abbrev pub tables_with : {M : Type 0} → List CorePred → StoreView M → Code → InTables
tables_with preds v code = in_tables preds (tables_for preds v.now.terms code) v.names code

-- the slots of a clause of a predicate
abbrev pub layout_of : InTables → PredTree → ClauseTree → Layout
layout_of l pred c = layout l.preds l.tables l.code.steps.items pred.arity c.slots

pub record IsRuleLaid (l : InTables) (pred : PredTree) (c : ClauseTree) (r : Rule) : Type 0 where
  pub slots : r.slots ≡ c.slots
  pub leaves_others_is : r.leaves_others ≡ leaves_others pred.function c
  pub tests_are : TestsAt l.names l.code.tests.items r.is_deep r.tests c.head
  pub guard : IsGuardLaid (layout_of l pred c) r.guard c.guard
  pub body : IsLaid (layout_of l pred c) r.body c.body (is_none c.value)
  pub end : IsBodyEnd (layout_of l pred c) (r.body + nodes c.body) r.goals c.value

-- the rules from a place on are those of clauses
unfoldable pub RulesAt : InTables → PredTree → ℕ → List ClauseTree → Type 0
RulesAt l pred at [] = ⊤
RulesAt l pred at (c ∷ cs) = ((r : Rule) × (slice_get l.code.rules.items at ≡ Some r) × IsRuleLaid l pred c r) × RulesAt l pred (suc at) cs

pub record IsPredicateLaid (l : InTables) (pred : PredTree) (p : Predicate) : Type 0 where
  pub arity : p.arity ≡ pred.arity
  pub quiet : p.is_quiet ≡ pred.quiet
  pub facts : p.is_facts ≡ is_some pred.index
  pub rules : p.end ≡ p.first + length pred.clauses
  pub each : RulesAt l pred p.first pred.clauses

-- the predicates from a place on are these
unfoldable pub PredicatesAt : InTables → ℕ → List PredTree → Type 0
PredicatesAt l at [] = ⊤
PredicatesAt l at (pred ∷ more) = ((p : Predicate) × (slice_get l.code.predicates.items at ≡ Some p) × IsPredicateLaid l pred p) × PredicatesAt l (suc at) more

-- the predicates of a program and its query's own are laid out, and the query's goal at a place; each call is resolved, and where no two predicates are alike, the goals by
-- which names are called have their places; facts have the keys by which they are found
pub record IsFilled (l : InTables) (goal : GoalTree) (slots place : ℕ) : Type 0 where
  pub predicates : PredicatesAt l 0 (map pred_tree l.preds)
  pub goal_is : IsLaid (layout l.preds l.tables l.code.steps.items 0 slots) place goal false
  pub resolved : AreResolved l.preds l.code.steps.items
  pub callables : AllPairs IsAnother (map pred_tree l.preds) → AreCallable l.preds l.tables l.names l.code.steps.items l.code.callables
  pub keyed : AreKeyed l.code.predicates.items l.code.rules.items l.code.tests.items l.code.keys
