-- What a run's arenas stand for, at one moment: the slots of a block, the goals at a place of the tables, what the frames
-- say. Nothing here speaks of the store but for the terms that Refs stand for.
use Rattle.std.specs.Prelude.{◌≡◌, ◌≢◌, ℕ, suc, ◌+◌, ◌-◌, ◌≤◌, ◌<◌, Bool, true, false, List, [], ◌∷◌, Option, Some, None, length, take, drop, slice_get, slice_index_or, ⊤, codes}
use Rattle.pi_terms.specs.Tree.{Tree, Trees, no_trees, tree}
use Rattle.pi_terms.specs.Places.{Places}
use Rattle.pi_terms.specs.Variables.{IsGround}
use Rattle.pi_constraints.specs.Store.{Terms}
use Rattle.pi_core.specs.GoalTree.{GoalTree, truth, fail, tick, call, apply, seq, alternatives, if_else, not, once, collect, count, catch, GoalTrees, no_goals, goal, nodes}
use Rattle.pi_constraints.specs.declared.store.Ref.{Ref}
use Rattle.pi_engine_arenas.specs.declared.frames.Point.{Point}
use Rattle.pi_engine_code.specs.declared.code.Operand.{Operand}
use Rattle.pi_engine_code.specs.declared.code.Part.{Part}
use Rattle.pi_engine_code.specs.declared.code.Node.{Node}
use Rattle.pi_engine_code.specs.declared.code.Step.{Step}
use Rattle.pi_lib_builtin.specs.Resolved.{IsFunctionNamed}
use Rattle.pi_lib_constraints.specs.Named.{IsConstraintNamed}
use Rattle.pi_engine_code.specs.Laid.{IsEffectOf, IsDomainFunctionNamed}
use Rattle.pi_settling.specs.SolveCalls.{is_solve}
use Rattle.pi_meaning.specs.Shared.Names.{is_call}
use Rattle.pi_engine_code.specs.Code.{Tables, operand_tree, spelled_parts, StandsAt}
use Rattle.pi_engine_arenas.specs.Frames.{frame_at}
use Rattle.pi_meaning.specs.Machine.Configuration.{Frame, return, give, behind, in_places}

-- ---- slots

-- a block of slots: where it begins; how many slots stand in front of those of the clause, which are the arguments of the
-- call; how many the clause has
pub record Block : Type 0 where
  pub base : ℕ
  pub first : ℕ
  pub count : ℕ

abbrev pub block_end : Block → ℕ
block_end b = b.base + (b.first + b.count)

-- what slots hold, by the terms of their Refs
unfoldable pub AreHeld : Terms → List (Option Ref) → Places → Type 0
AreHeld t [] [] = ⊤
AreHeld t [] (x ∷ e) = ⊥
AreHeld t (r ∷ rs) [] = ⊥
AreHeld t (None ∷ rs) (None ∷ e) = AreHeld t rs e
AreHeld t (None ∷ rs) (Some x ∷ e) = ⊥
AreHeld t (Some r ∷ rs) (None ∷ e) = ⊥
AreHeld t (Some r ∷ rs) (Some x ∷ e) = (t r.number ≡ Some x) × AreHeld t rs e

-- the clause's slots in a block
pub record Holds (t : Terms) (slots : List (Option Ref)) (b : Block) (e : Places) : Type 0 where
  pub within : block_end b ≤ length slots
  pub held : AreHeld t (take b.count (drop (b.base + b.first) slots)) e

-- the arguments of the call of a block, which has so many
pub record HoldsArguments (t : Terms) (slots : List (Option Ref)) (base arity : ℕ) (ts : Trees) : Type 0 where
  pub within : base + arity ≤ length slots
  pub held : AreHeld t (take arity (drop base slots)) (in_places ts)

-- ---- goals

-- an operand can be read: its slot is the clause's, its term is there
abbrev pub IsReadablePart : Terms → Block → Part → Type 0
IsReadablePart t b (Part.Slot k) = k < b.count
IsReadablePart t b (Part.Known r) = (u : Tree) × (t r.number ≡ Some u) × IsGround u
IsReadablePart t b (Part.Compound i k) = ⊤

abbrev pub IsReadable : Tables → Block → Operand → Type 0
IsReadable t b (Operand.Slot k) = k < b.count
IsReadable t b (Operand.Known r) = (u : Tree) × (t.terms r.number ≡ Some u) × IsGround u
IsReadable t b (Operand.Made from to) =
    (from < to) × (to ≤ length t.parts) × ((i : ℕ) (p : Part) → from ≤ i → i < to → slice_get t.parts i ≡ Some p → IsReadablePart t.terms b p)
    × ((u : Tree) × (spelled_parts t (take (to - from) (drop from t.parts)) ≡ tree u no_trees))

-- so many operands from one on can be read
abbrev pub AreReadable : Tables → Block → ℕ → ℕ → Type 0
AreReadable t b first arity =
    (first + arity ≤ length t.operands) × ((i : ℕ) (o : Operand) → i < arity → slice_get t.operands (first + i) ≡ Some o → IsReadable t b o)

-- the same of all that a node reads, a built-in is that of its name, and `call` has as many arguments as it may; the value behind a function's body is no goal
abbrev pub NodeIsReadable : Tables → Block → Node → Type 0
NodeIsReadable t b (Node.Unify left right) = IsReadable t b left × IsReadable t b right
NodeIsReadable t b (Node.Throw ball) = IsReadable t b ball
NodeIsReadable t b (Node.Catch ball) = IsReadable t b ball
NodeIsReadable t b (Node.Value value) = ⊥
NodeIsReadable t b (Node.Call p first) = AreReadable t b first (slice_index_or t.arities p 0)
NodeIsReadable t b (Node.Apply p first slot) = AreReadable t b first (slice_index_or t.arities p 0) × (slot < b.count)
NodeIsReadable t b (Node.Collect value into) = (value < b.count) × (into < b.count)
NodeIsReadable t b (Node.Count into) = into < b.count
NodeIsReadable t b (Node.BuiltIn p name first arity) = AreReadable t b first arity × IsEffectOf (slice_index_or t.names name []) arity p
NodeIsReadable t b (Node.BuiltInValue f name first arity into) = AreReadable t b first arity × IsFunctionNamed (slice_index_or t.names name []) arity f × (into < b.count)
NodeIsReadable t b (Node.Constrain g name first arity) = AreReadable t b first arity × IsConstraintNamed (slice_index_or t.names name []) arity g
NodeIsReadable t b (Node.DomainValue f name first arity into) = AreReadable t b first arity × IsDomainFunctionNamed (slice_index_or t.names name []) arity f × (into < b.count)
NodeIsReadable t b (Node.Solve name first arity) = AreReadable t b first arity × (is_solve (slice_index_or t.names name []) arity ≡ true)
NodeIsReadable t b (Node.CallTerm first arity) = AreReadable t b first arity × (is_call (codes "call") arity ≡ true)
NodeIsReadable t b node = ⊤

-- a step belongs to a clause with slots like those of a block, and its operands can be read
pub record IsStepOf (t : Tables) (b : Block) (s : Step) : Type 0 where
  pub first : s.first_slot ≡ b.first
  pub count : s.slots ≡ b.count
  pub readable : NodeIsReadable t b s.node

-- the step at a place says whether something is left to do behind it in its body
abbrev pub SaysLast : List Step → ℕ → Bool → Type 0
SaysLast steps place last = (s : Step) → slice_get steps place ≡ Some s → s.is_last ≡ last

-- The steps of a goal say it: the goal's own says `last`. Of a sequence that is last the last goal is last, of alternatives
-- each one, and so on; what a level waits for is never last. A call of `solve` gives nothing of its block back, so nothing is said of it.
unfoldable mutual
  pub SayLast : List Step → ℕ → GoalTree → Bool → Type 0
  SayLast steps at truth last = SaysLast steps at last
  SayLast steps at fail last = SaysLast steps at last
  SayLast steps at tick last = SaysLast steps at last
  SayLast steps at (call name args) last = is_solve name (length args) ≡ false → SaysLast steps at last
  SayLast steps at (apply name args slot) last = SaysLast steps at last
  SayLast steps at (seq gs) last = SaysLast steps at last × LastOfAll steps (at + 1) gs last
  SayLast steps at (alternatives gs) last = SaysLast steps at last × EachLast steps (at + 1) gs last
  SayLast steps at (if_else test g other) last =
      SaysLast steps at last × SayLast steps (at + 1) test false × SayLast steps (at + 1 + nodes test) g last
      × SayLast steps (at + 1 + nodes test + nodes g) other last
  SayLast steps at (not g) last = SaysLast steps at last × SayLast steps (at + 1) g false
  SayLast steps at (once g) last = SaysLast steps at last × SayLast steps (at + 1) g false
  SayLast steps at (collect g value into) last = SaysLast steps at last × SayLast steps (at + 1) g false
  SayLast steps at (count g into) last = SaysLast steps at last × SayLast steps (at + 1) g false
  SayLast steps at (catch g ball handler) last =
      SaysLast steps at last × SayLast steps (at + 1) g false × SayLast steps (at + 1 + nodes g) handler last

  -- goals one after the other
  pub LastOfAll : List Step → ℕ → GoalTrees → Bool → Type 0
  LastOfAll steps at no_goals last = ⊤
  LastOfAll steps at (goal g no_goals) last = SayLast steps at g last
  LastOfAll steps at (goal g (goal h hs)) last = SayLast steps at g false × LastOfAll steps (at + nodes g) (goal h hs) last

  -- alternatives
  pub EachLast : List Step → ℕ → GoalTrees → Bool → Type 0
  EachLast steps at no_goals last = ⊤
  EachLast steps at (goal g gs) last = SayLast steps at g last × EachLast steps (at + nodes g) gs last

-- a goal of a block's clause stands at a place
pub record IsHere (t : Tables) (steps : List Step) (b : Block) (place : ℕ) (g : GoalTree) (last : Bool) : Type 0 where
  pub stands : StandsAt t steps place g
  pub of_block : (i : ℕ) (s : Step) → i < nodes g → slice_get steps (place + i) ≡ Some s → IsStepOf t b s
  pub says : SayLast steps place g last

-- the value of a function's clause stands at a place
pub record IsValueHere (t : Tables) (steps : List Step) (b : Block) (place : ℕ) (value : Tree) : Type 0 where
  pub step : Step
  pub operand : Operand
  pub stands : slice_get steps place ≡ Some step
  pub node : step.node ≡ Node.Value operand
  pub is_value : value ≡ operand_tree t operand
  pub first : step.first_slot ≡ b.first
  pub count : step.slots ≡ b.count
  pub readable : IsReadable t b operand

-- so many goals from a place on, one after the other, and behind them maybe a function's value, which counts as one more
pub data AreHere (t : Tables) (steps : List Step) (b : Block) : ℕ → ℕ → GoalTrees → Option Tree → Bool → Type 0 where
  none_here : {place : ℕ} {last : Bool} → AreHere t steps b place 0 no_goals None last
  value_here : {place : ℕ} {value : Tree} {last : Bool} → IsValueHere t steps b place value → AreHere t steps b place 1 no_goals (Some value) last
  last_here : {place : ℕ} {g : GoalTree} {last : Bool} → IsHere t steps b place g last → AreHere t steps b place 1 (goal g no_goals) None last
  more_here : {place n : ℕ} {g : GoalTree} {gs : GoalTrees} {value : Option Tree} {last : Bool} →
      IsHere t steps b place g false → AreHere t steps b (place + nodes g) (suc n) gs value last → AreHere t steps b place (suc (suc n)) (goal g gs) value last

-- branches from a place on
unfoldable pub AreBranches : Tables → List Step → Block → ℕ → GoalTrees → Bool → Type 0
AreBranches t steps b place no_goals last = ⊤
AreBranches t steps b place (goal g gs) last = IsHere t steps b place g last × AreBranches t steps b (place + nodes g) gs last

-- ---- frames

-- a function's value in front of frames
abbrev pub valued : Option Tree → List Frame → List Frame
valued None k = k
valued (Some t) k = give (Some t) ∷ k

-- what an answer of the newest open level goes by: the slots of a block; or a function's value alone, whose call stands in a
-- block that begins at a base
pub data Ends : Type 0 where
  in_block : Block → Ends
  with_value : ℕ → Ends

-- where the block begins that a level was entered in
abbrev pub ends_base : Ends → ℕ
ends_base (in_block b) = b.base
ends_base (with_value base) = base

-- what a run has at one moment: the terms that Refs stand for, the slots, the frames, and how its level ends
pub record Here : Type 0 where
  pub terms : Terms
  pub slots : List (Option Ref)
  pub frames : List Point
  pub ends : Ends

-- What is left to do behind goals that are maybe followed by a function's value: behind a last goal of a body nothing of it goes
-- on with the block, an answer of a level that waits for a value has one, and nothing is left behind the value.
pub record LeftBehind (value : Option Tree) (last leaves : Bool) (k : List Frame) : Type 0 where
  pub is_last : last ≡ true → leaves ≡ true
  pub is_given : value ≡ None → leaves ≡ true → k ≢ []
  pub is_value : (t : Tree) → value ≡ Some t → (leaves ≡ true) × (k ≡ [])

-- What is left to do behind the goals of a block, by the number of a frame. `leaves` says that nothing of it goes on with
-- the block itself.
pub data GoesOn (t : Tables) (steps : List Step) (h : Here) : Block → Bool → ℕ → List Frame → Type 0 where
  answers : {b : Block} → h.ends ≡ in_block b → GoesOn t steps h b false 0 []
  gives : {b : Block} (base : ℕ) → h.ends ≡ with_value base → base ≤ b.base → GoesOn t steps h b true 0 []
  returns_to_end : {b : Block} {e : Places} (d : Block) → h.ends ≡ in_block d → block_end d ≤ b.base → Holds h.terms h.slots d e →
      GoesOn t steps h b true 0 (return e ∷ [])
  more_of_block : {b : Block} {n : ℕ} (p : Point) (gs : GoalTrees) (value : Option Tree) (last leaves : Bool) (k : List Frame) →
      frame_at h.frames n ≡ Some p → p.base ≡ b.base → p.frame < n → 0 < p.count →
      AreHere t steps b p.place p.count gs value last → LeftBehind value last leaves k → GoesOn t steps h b leaves p.frame k →
      GoesOn t steps h b false n (behind gs (valued value k))
  returns_to : {b : Block} {e : Places} {n : ℕ} (p : Point) (d : Block) (gs : GoalTrees) (value : Option Tree) (last leaves : Bool) (k : List Frame) →
      frame_at h.frames n ≡ Some p → p.base ≡ d.base → block_end d ≤ b.base → p.frame < n → 0 < p.count → Holds h.terms h.slots d e →
      AreHere t steps d p.place p.count gs value last → LeftBehind value last leaves k → GoesOn t steps h d leaves p.frame k →
      GoesOn t steps h b true n (return e ∷ behind gs (valued value k))
