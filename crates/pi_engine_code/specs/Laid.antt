-- A program and a goal laid out in tables that only grow: what operands, nodes and steps stand for in tables as they are at
-- one moment, and in all longer ones.
use Rattle.std.specs.Prelude.{◌≡◌, ◌⊎◌, ℕ, suc, ◌+◌, ◌-◌, ◌≤◌, ◌<◌, ℤ, Bool, true, false, List, [], ◌∷◌, ◌++◌, Some, length, map, slice_get, slice_index_or, codes, ⊤}
use Rattle.pi_terms.specs.Tree.{Tree, var, int, atom, comp, cells, subterms, args, arity}
use Rattle.pi_terms.specs.Variables.{IsGround}
use Rattle.pi_constraints.specs.Store.{Terms, StoreView, Stays}
use Rattle.pi_core.specs.GoalTree.{GoalTree, truth, fail, tick, call, apply, seq, alternatives, if_else, not, once, collect, count, catch, GoalTrees, no_goals, goal, nodes, subgoal, child_count}
use Rattle.pi_core.specs.GoalCells.{kind_of}
use Rattle.pi_core.specs.declared.goal_node.GoalKind.{GoalKind}
use Rattle.pi_core.specs.declared.goal_node.GoalNode.{GoalNode}
use Rattle.pi_core.specs.declared.core_program.CorePred.{CorePred}
use Rattle.pi_settling.specs.SolveCalls.{is_solve}
use Rattle.pi_meaning.specs.Shared.Effects.{is_built_name, is_value_name}
use Rattle.pi_meaning.specs.Shared.Names.{is_call}
use Rattle.pi_lib_builtin.specs.declared.predicates.Predicate.{Predicate}
use Rattle.pi_lib_builtin.specs.Names.{may_bind}
use Rattle.pi_lib_builtin.specs.Resolved.{IsFunctionNamed, IsPredicateNamed}
use Rattle.pi_lib_constraints.specs.Functions.{function_name}
use Rattle.pi_lib_constraints.specs.Named.{IsConstraintNamed}
use Rattle.pi_lib_constraints.specs.declared.functions.DomainFunction.{DomainFunction}
use Rattle.pi_engine_code.specs.declared.code.Operand.{Operand}
use Rattle.pi_engine_code.specs.declared.code.Part.{Part}
use Rattle.pi_engine_code.specs.declared.code.Node.{Node}
use Rattle.pi_engine_code.specs.declared.code.Step.{Step}
use Rattle.pi_engine_code.specs.declared.code.Code.{Code}
use Rattle.pi_engine_code.specs.Code.{Tables}
use Rattle.pi_engine_code.specs.declared.build.Shape.{Shape}

-- ---- tables that grow

-- what the first list has at a place, the second has there too
abbrev pub Longer : {A : Type 0} → List A → List A → Type 0
Longer {A} xs ys = (i : ℕ) (x : A) → slice_get xs i ≡ Some x → slice_get ys i ≡ Some x

-- the tables, where calls are those of these predicates
abbrev pub tables_for : List CorePred → Terms → Code → Tables
tables_for preds terms code = record {
  terms = terms;
  operands = code.operands.items;
  parts = code.parts.items;
  names = code.names.items;
  called = map (λ p. p.name) preds;
  arities = map (λ p. p.arity) preds;
}

-- nothing is laid out
pub record IsBlank (c : Code) : Type 0 where
  pub steps : c.steps.items ≡ []
  pub predicates : c.predicates.items ≡ []

-- tables of the same program
abbrev pub HasItsCore : Code → Code → Type 0
HasItsCore c d = d.core ≡ c.core

-- Tables get longer, and the store gets terms.
pub record Adds {M : Type 0} (v w : StoreView M) (c d : Code) : Type 0 where
  pub stays : Stays v w
  pub core : d.core ≡ c.core
  pub steps : Longer c.steps.items d.steps.items
  pub operands : Longer c.operands.items d.operands.items
  pub parts : Longer c.parts.items d.parts.items
  pub names : Longer c.names.items d.names.items
  pub tests : Longer c.tests.items d.tests.items
  pub rules : Longer c.rules.items d.rules.items
  pub predicates : Longer c.predicates.items d.predicates.items

-- the same of parts and their names alone
pub record AddsParts {M : Type 0} (v w : StoreView M) (c d : Code) : Type 0 where
  pub adds : Adds v w c d
  pub steps : d.steps ≡ c.steps
  pub operands : d.operands ≡ c.operands
  pub tests : d.tests ≡ c.tests
  pub rules : d.rules ≡ c.rules
  pub predicates : d.predicates ≡ c.predicates

-- of these and operands
pub record AddsOperands {M : Type 0} (v w : StoreView M) (c d : Code) : Type 0 where
  pub adds : Adds v w c d
  pub steps : d.steps ≡ c.steps
  pub tests : d.tests ≡ c.tests
  pub rules : d.rules ≡ c.rules
  pub predicates : d.predicates ≡ c.predicates

-- of these and steps
pub record AddsSteps {M : Type 0} (v w : StoreView M) (c d : Code) : Type 0 where
  pub adds : Adds v w c d
  pub tests : d.tests ≡ c.tests
  pub rules : d.rules ≡ c.rules
  pub predicates : d.predicates ≡ c.predicates

-- ---- terms

-- an integer or an atom
abbrev pub IsAlone : Tree → Type 0
IsAlone u = ((n : ℤ) × (u ≡ int n)) ⊎ ((name : List ℕ) × (u ≡ atom name))

-- a part is the root of a term
abbrev pub IsPartOf : Terms → List (List ℕ) → Tree → Part → Type 0
IsPartOf terms names u (Part.Slot k) = u ≡ var k
IsPartOf terms names u (Part.Known r) = (terms r.number ≡ Some u) × IsAlone u
IsPartOf terms names u (Part.Compound i k) = (name : List ℕ) × (slice_get names i ≡ Some name) × (u ≡ comp name (args u)) × (k ≡ arity u)

-- the parts from a place on are the roots of these terms, in order
unfoldable pub PartsAt : Tables → ℕ → List Tree → Type 0
PartsAt t at [] = ⊤
PartsAt t at (u ∷ us) = ((p : Part) × (slice_get t.parts at ≡ Some p) × IsPartOf t.terms t.names u p) × PartsAt t (suc at) us

-- an operand is a term
abbrev pub IsOperand : Tables → Tree → Operand → Type 0
IsOperand t u (Operand.Slot k) = u ≡ var k
IsOperand t u (Operand.Known r) = (t.terms r.number ≡ Some u) × IsGround u
IsOperand t u (Operand.Made from to) = (to ≡ from + cells u) × PartsAt t from (subterms u)

-- the operands from a place on, which is one among them or behind the last, are these terms
unfoldable pub OperandsAt : Tables → ℕ → List Tree → Type 0
OperandsAt t at [] = at ≤ length t.operands
OperandsAt t at (u ∷ us) = ((o : Operand) × (slice_get t.operands at ≡ Some o) × IsOperand t u o) × OperandsAt t (suc at) us

-- ---- calls

-- the predicate or function with this number has this name and so many arguments
pub record IsNamed (preds : List CorePred) (function : Bool) (n : ℕ) (name : List ℕ) (k : ℕ) : Type 0 where
  pub pred : CorePred
  pub is : slice_get preds n ≡ Some pred
  pub function_is : pred.function ≡ function
  pub name_is : pred.name ≡ name
  pub arity_is : pred.arity ≡ k

abbrev pub IsUnnamed : List CorePred → Bool → List ℕ → ℕ → Type 0
IsUnnamed preds function name k = (n : ℕ) → IsNamed preds function n name k → ⊥

-- no predicate or function of this name with so many arguments is built, also not with constraints or to label, and it calls no term
abbrev pub IsNotBuiltIn : Bool → List ℕ → ℕ → Type 0
IsNotBuiltIn false name k = (is_built_name name k ≡ false) × (is_call name k ≡ false)
IsNotBuiltIn true name k = is_value_name name k ≡ false

-- what is called isn't there
abbrev pub IsUnknown : List CorePred → GoalKind → Type 0
IsUnknown preds (GoalKind.Call name args) = IsUnnamed preds false name (length args) × IsNotBuiltIn false name (length args)
IsUnknown preds (GoalKind.Apply name args slot) = IsUnnamed preds true name (length args) × IsNotBuiltIn true name (length args)
IsUnknown preds kind = ⊥

-- a built-in predicate does what a name does with so many arguments, and binds nothing
abbrev pub IsEffectOf : List ℕ → ℕ → Predicate → Type 0
IsEffectOf name k p = IsPredicateNamed name k p × (may_bind p ≡ false)

-- a name with so many arguments is that of a function of domains
abbrev pub IsDomainFunctionNamed : List ℕ → ℕ → DomainFunction → Type 0
IsDomainFunctionNamed name k f = (name ≡ function_name f) × (k ≡ 1)

-- ---- steps

-- a node is a kind of goal; a call of what isn't there is `fail`
abbrev pub IsNodeOf : List CorePred → Tables → GoalKind → Node → Type 0
IsNodeOf preds t k Node.True = k ≡ GoalKind.True
IsNodeOf preds t k Node.Fail = (k ≡ GoalKind.Fail) ⊎ IsUnknown preds k
IsNodeOf preds t k Node.Tick = k ≡ GoalKind.Tick
IsNodeOf preds t k (Node.Seq n) = k ≡ GoalKind.Seq n
IsNodeOf preds t k (Node.Alt n) = k ≡ GoalKind.Alt n
IsNodeOf preds t k Node.If = k ≡ GoalKind.If
IsNodeOf preds t k Node.Not = k ≡ GoalKind.Not
IsNodeOf preds t k Node.Once = k ≡ GoalKind.Once
IsNodeOf preds t k (Node.Collect value into) = k ≡ GoalKind.Collect value into
IsNodeOf preds t k (Node.Count into) = k ≡ GoalKind.Count into
IsNodeOf preds t k (Node.Catch ball) = (u : Tree) × (k ≡ GoalKind.Catch u) × IsOperand t u ball
IsNodeOf preds t k (Node.Unify left right) = (u : Tree) × (w : Tree) × (k ≡ GoalKind.Call (codes "=") (u ∷ w ∷ [])) × IsOperand t u left × IsOperand t w right
IsNodeOf preds t k (Node.Throw ball) = (u : Tree) × (k ≡ GoalKind.Call (codes "throw") (u ∷ [])) × IsOperand t u ball
IsNodeOf preds t k (Node.Call n first) =
    (name : List ℕ) × (us : List Tree) × (k ≡ GoalKind.Call name us) × IsNamed preds false n name (length us) × IsNotBuiltIn false name (length us) × OperandsAt t first us
IsNodeOf preds t k (Node.Apply n first slot) =
    (name : List ℕ) × (us : List Tree) × (k ≡ GoalKind.Apply name us slot) × IsNamed preds true n name (length us) × IsNotBuiltIn true name (length us) × OperandsAt t first us
IsNodeOf preds t k (Node.Value value) = ⊥
IsNodeOf preds t k (Node.BuiltIn p n first arity) =
    (name : List ℕ) × (us : List Tree) × (k ≡ GoalKind.Call name us) × (slice_get t.names n ≡ Some name) × (arity ≡ length us) × IsEffectOf name (length us) p × OperandsAt t first us
IsNodeOf preds t k (Node.BuiltInValue f n first arity slot) =
    (name : List ℕ) × (us : List Tree) × (k ≡ GoalKind.Apply name us slot) × (slice_get t.names n ≡ Some name) × (arity ≡ length us) × IsFunctionNamed name (length us) f × OperandsAt t first us
IsNodeOf preds t k (Node.Constrain g n first arity) =
    (name : List ℕ) × (us : List Tree) × (k ≡ GoalKind.Call name us) × (slice_get t.names n ≡ Some name) × (arity ≡ length us) × IsConstraintNamed name (length us) g × OperandsAt t first us
IsNodeOf preds t k (Node.DomainValue f n first arity slot) =
    (name : List ℕ) × (us : List Tree) × (k ≡ GoalKind.Apply name us slot) × (slice_get t.names n ≡ Some name) × (arity ≡ length us) × IsDomainFunctionNamed name (length us) f × OperandsAt t first us
IsNodeOf preds t k (Node.Solve n first arity) =
    (name : List ℕ) × (us : List Tree) × (k ≡ GoalKind.Call name us) × (slice_get t.names n ≡ Some name) × (arity ≡ length us) × (is_solve name (length us) ≡ true) × OperandsAt t first us
IsNodeOf preds t k (Node.CallTerm first arity) =
    (us : List Tree) × (k ≡ GoalKind.Call (codes "call") us) × (arity ≡ length us) × (is_call (codes "call") (length us) ≡ true) × OperandsAt t first us

-- a goal, and whether something is left to do behind it in its body
pub record Marked : Type 0 where
  pub it : GoalTree
  pub last : Bool

abbrev pub mark : GoalTree → Bool → Marked
mark g last = record { it = g; last = last }

-- the goals in a goal in prefix order, where the whole is last or isn't: as `SayLast` has it
unfoldable mutual
  pub marked : GoalTree → Bool → List Marked
  marked truth last = mark truth last ∷ []
  marked fail last = mark fail last ∷ []
  marked tick last = mark tick last ∷ []
  marked (call name args) last = mark (call name args) last ∷ []
  marked (apply name args slot) last = mark (apply name args slot) last ∷ []
  marked (seq gs) last = mark (seq gs) last ∷ marked_seq gs last
  marked (alternatives gs) last = mark (alternatives gs) last ∷ marked_each gs last
  marked (if_else test g other) last = mark (if_else test g other) last ∷ (marked test false ++ (marked g last ++ marked other last))
  marked (not g) last = mark (not g) last ∷ marked g false
  marked (once g) last = mark (once g) last ∷ marked g false
  marked (collect g value into) last = mark (collect g value into) last ∷ marked g false
  marked (count g into) last = mark (count g into) last ∷ marked g false
  marked (catch g ball handler) last = mark (catch g ball handler) last ∷ (marked g false ++ marked handler last)

  pub marked_seq : GoalTrees → Bool → List Marked
  marked_seq no_goals last = []
  marked_seq (goal g no_goals) last = marked g last
  marked_seq (goal g (goal h hs)) last = marked g false ++ marked_seq (goal h hs) last

  pub marked_each : GoalTrees → Bool → List Marked
  marked_each no_goals last = []
  marked_each (goal g gs) last = marked g last ++ marked_each gs last

-- a step is that of a goal, in a clause whose slots begin behind so many and are so many
pub record IsStepFor (preds : List CorePred) (t : Tables) (first slots : ℕ) (h : Marked) (s : Step) : Type 0 where
  pub node : IsNodeOf preds t (kind_of h.it) s.node
  pub size : s.size ≡ nodes h.it
  pub first_is : s.first_slot ≡ first
  pub slots_is : s.slots ≡ slots
  pub last : s.is_last ≡ h.last

-- what goals are laid out in: the predicates that they call, the tables and their steps, and the slots of the clause, which begin behind
-- so many and are so many
pub record Layout : Type 0 where
  pub preds : List CorePred
  pub tables : Tables
  pub steps : List Step
  pub first : ℕ
  pub slots : ℕ

abbrev pub layout : List CorePred → Tables → List Step → ℕ → ℕ → Layout
layout preds t steps first slots = record { preds = preds; tables = t; steps = steps; first = first; slots = slots }

-- the same of tables as they are with a store
abbrev pub layout_in : {M : Type 0} → List CorePred → StoreView M → Code → Shape → Layout
layout_in preds v code shape = layout preds (tables_for preds v.now.terms code) code.steps.items shape.first_slot shape.slots

-- the steps from a place on are those of these goals
unfoldable pub StepsAt : Layout → ℕ → List Marked → Type 0
StepsAt l at [] = ⊤
StepsAt l at (h ∷ hs) =
    ((s : Step) × (slice_get l.steps at ≡ Some s) × IsStepFor l.preds l.tables l.first l.slots h s) × StepsAt l (suc at) hs

-- a goal is laid out at a place
pub record IsLaid (l : Layout) (at : ℕ) (g : GoalTree) (last : Bool) : Type 0 where
  pub steps_are : StepsAt l at (marked g last)
  pub fits : at + nodes g < 4294967296

-- how many child goals below a node stand before those behind which nothing of its goal is left to do
abbrev pub before_last : GoalNode → ℕ
before_last GoalNode.True = 0
before_last GoalNode.Fail = 0
before_last GoalNode.Tick = 0
before_last (GoalNode.Call name args) = 0
before_last (GoalNode.Apply name args slot) = 0
before_last (GoalNode.Seq k) = k - 1
before_last (GoalNode.Alt k) = 0
before_last GoalNode.If = 1
before_last GoalNode.Not = 1
before_last GoalNode.Once = 1
before_last (GoalNode.Collect value into) = 1
before_last (GoalNode.Count into) = 1
before_last (GoalNode.Catch ball) = 1

-- a function's value is laid out at a place
pub record IsValueLaid (t : Tables) (steps : List Step) (first slots at : ℕ) (value : Tree) : Type 0 where
  pub step : Step
  pub operand : Operand
  pub stands : slice_get steps at ≡ Some step
  pub node : step.node ≡ Node.Value operand
  pub is_value : IsOperand t value operand
  pub first_is : step.first_slot ≡ first
  pub slots_is : step.slots ≡ slots

-- the number of each call is that of a predicate that isn't built in, of each function call that of such a function
abbrev pub IsResolved : List CorePred → Node → Type 0
IsResolved preds (Node.Call n first) = (name : List ℕ) × (k : ℕ) × IsNamed preds false n name k × IsNotBuiltIn false name k
IsResolved preds (Node.Apply n first slot) = (name : List ℕ) × (k : ℕ) × IsNamed preds true n name k × IsNotBuiltIn true name k
IsResolved preds node = ⊤

abbrev pub AreResolved : List CorePred → List Step → Type 0
AreResolved preds steps = (i : ℕ) (s : Step) → slice_get steps i ≡ Some s → IsResolved preds s.node

-- ---- sizes

-- of the goals in a goal, in prefix order: those in front of a number by their child goals, the others by their nodes
pub record Sized (g : GoalTree) (sizes : List ℕ) (i : ℕ) : Type 0 where
  pub long : length sizes ≡ nodes g
  pub counts : (j : ℕ) → j < i → j < nodes g → slice_index_or sizes j 0 ≡ child_count (subgoal g j)
  pub sizes_are : (j : ℕ) → i ≤ j → j < nodes g → slice_index_or sizes j 0 ≡ nodes (subgoal g j)
