-- Sound programs: what holds of each program and query of the core language that are run. All this is own.
use Rattle.std.specs.Prelude.{◌≡◌, ◌≢◌, ◌⊎◌, ◌↔◌, ℕ, suc, ◌<◌, Bool, true, false, List, [], length, AllPairs, Contains, Some, IsSome, IsTrue, codes, ⊤, ◌++◌}
use Rattle.pi_terms.specs.Tree.{Tree}
use Rattle.pi_terms.specs.PatternTree.{PatternTrees, no_patterns, pattern, HaveSlot}
use Rattle.pi_constraints.specs.State.{SpeaksBelow}
use Rattle.pi_core.specs.GoalTree.{GoalTree, truth, fail, tick, call, apply, seq, alternatives, if_else, not, once, collect, count, catch, subgoals}
use Rattle.pi_core.specs.CoreTree.{ClauseTree, PredTree, QueryTree, find_pred}
use Rattle.pi_meaning.specs.Shared.Names.{is_given, is_planner}
use Rattle.pi_meaning.specs.CoreMeaning.Quiet.{TicksBetween}
use Rattle.pi_core.specs.declared.core_program.NameSlot.{NameSlot}
use Rattle.pi_core.specs.declared.core_program.SlotWatch.{SlotWatch}
use Rattle.pi_syntax.specs.declared.program.Mode.{Mode}

-- Slots are those that a clause or a query has.

-- the slots that a goal names itself, and not in a goal in it, are below n
abbrev pub NamesBelow : ℕ → GoalTree → Type 0
NamesBelow n truth = ⊤
NamesBelow n fail = ⊤
NamesBelow n tick = ⊤
NamesBelow n (call name args) = (t : Tree) → Contains args t → SpeaksBelow n t
NamesBelow n (apply name args slot) = ((t : Tree) → Contains args t → SpeaksBelow n t) × (slot < n)
NamesBelow n (seq gs) = ⊤
NamesBelow n (alternatives gs) = ⊤
NamesBelow n (if_else test then other) = ⊤
NamesBelow n (not g) = ⊤
NamesBelow n (once g) = ⊤
NamesBelow n (collect g value into) = (value < n) × (into < n)
NamesBelow n (count g into) = into < n
NamesBelow n (catch g ball handler) = SpeaksBelow n ball

abbrev pub SlotsBelow : ℕ → GoalTree → Type 0
SlotsBelow n g = (h : GoalTree) → Contains (subgoals g) h → NamesBelow n h

abbrev pub EventBelow : ℕ → SlotWatch → Type 0
EventBelow n (SlotWatch.Ins k) = k < n
EventBelow n (SlotWatch.Bound k) = k < n
EventBelow n (SlotWatch.Dom k into) = (k < n) × (into < n)
EventBelow n (SlotWatch.DomAny k into) = (k < n) × (into < n)
EventBelow n (SlotWatch.Posted k into) = (k < n) × (into < n)

pub record KeepsSlots (c : ClauseTree) : Type 0 where
  pub head : (k : ℕ) → HaveSlot c.head k → k < c.slots
  pub guard : SlotsBelow c.slots c.guard
  pub watches : (w : SlotWatch) → Contains c.watches w → EventBelow c.slots w
  pub body : SlotsBelow c.slots c.body
  pub value : (t : Tree) → c.value ≡ Some t → SpeaksBelow c.slots t

-- What is called is there.

-- a predicate or a function of the program, or one that the language gives
abbrev pub IsKnown : List PredTree → Bool → List ℕ → ℕ → Type 0
IsKnown preds function name k = IsSome (find_pred function name k preds) ⊎ IsTrue (is_given function name k)

abbrev pub PlansAreDefined : List PredTree → Type 0
PlansAreDefined preds = IsSome (find_pred false (codes "final") 1 preds) × IsSome (find_pred false (codes "action") 4 preds)

pub record CallsKnown (preds : List PredTree) (g : GoalTree) : Type 0 where
  pub calls : (name : List ℕ) (args : List Tree) → Contains (subgoals g) (call name args) → IsKnown preds false name (length args)
  pub functions : (name : List ℕ) (args : List Tree) (slot : ℕ) → Contains (subgoals g) (apply name args slot) → IsKnown preds true name (length args)
  pub plans : (name : List ℕ) (args : List Tree) → Contains (subgoals g) (call name args) → IsTrue (is_planner name (length args)) → PlansAreDefined preds

-- Clauses fit their predicate.

unfoldable pub pattern_count : PatternTrees → ℕ
pattern_count no_patterns = 0
pattern_count (pattern p ps) = suc (pattern_count ps)

pub record IsSoundClause (preds : List PredTree) (pred : PredTree) (c : ClauseTree) : Type 0 where
  pub slots : KeepsSlots c
  pub arity : pattern_count c.head ≡ pred.arity
  pub value : IsTrue pred.function ↔ IsSome c.value
  pub guard : CallsKnown preds c.guard
  pub body : CallsKnown preds c.body
  -- those of a quiet predicate are committed rules without events, since it is made for a loop
  pub quiet : IsTrue pred.quiet → (c.back ≡ false) × (c.watches ≡ [])

-- mode lists are as long as the arity, and stand before no function and no quiet predicate
pub record IsSoundIndex (pred : PredTree) (lists : List (List Mode)) : Type 0 where
  pub long : (modes : List Mode) → Contains lists modes → length modes ≡ pred.arity
  pub no_function : pred.function ≡ false
  pub not_quiet : pred.quiet ≡ false

abbrev pub IsAnother : PredTree → PredTree → Type 0
IsAnother p q = p.name ≡ q.name → p.arity ≢ q.arity

pub record IsSound (preds : List PredTree) : Type 0 where
  pub apart : AllPairs IsAnother preds
  pub clauses : (pred : PredTree) → Contains preds pred → (c : ClauseTree) → Contains pred.clauses c → IsSoundClause preds pred c
  pub index : (pred : PredTree) → Contains preds pred → (lists : List (List Mode)) → pred.index ≡ Some lists → IsSoundIndex pred lists
  pub ticks : TicksBetween preds

-- a query, with the predicates that were made for it
pub record IsSoundQuery (program : List PredTree) (q : QueryTree) : Type 0 where
  pub preds : IsSound (program ++ q.helpers)
  pub slots : SlotsBelow q.slots q.goal
  pub names : (n : NameSlot) → Contains q.names n → n.slot < q.slots
  pub calls : CallsKnown (program ++ q.helpers) q.goal
