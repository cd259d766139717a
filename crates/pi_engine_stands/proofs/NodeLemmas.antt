-- Which goal a step of the tables is, by its node.
use Rattle.std.proofs.Common.{◌≡◌, ℕ, Bool, List, Some, refl, sym, ◌∙◌, ap}
use Rattle.std.specs.Prelude.{slice_get}
use Rattle.pi_core.specs.GoalTree.{GoalTree, truth, fail, tick, call, apply, seq, alternatives, if_else, not, once, collect, count, catch, GoalTrees, count_goals}
use Rattle.pi_core.specs.GoalCells.{kind_of}
use Rattle.pi_core.specs.declared.goal_node.GoalKind.{GoalKind}
use Rattle.pi_engine_code.specs.declared.code.Step.{Step}
use Rattle.pi_engine_code.specs.declared.code.Node.{Node}
use Rattle.pi_engine_code.specs.Code.{Tables, node_kind, step_cell}
use Rattle.pi_engine_stands.specs.Here.{Block, IsHere}
use Rattle.pi_engine_code.proofs.CodeLemmas.{stands-first}

-- the kind of the goal that stands at a step
pub kind-here : (t : Tables) (steps : List Step) (b : Block) (place : ℕ) (g : GoalTree) (own : Bool) (s : Step) (node : Node) →
    IsHere t steps b place g own → slice_get steps place ≡ Some s → s.node ≡ node → node_kind t node ≡ kind_of g
unfolding step_cell
kind-here t steps b place g own s node here at is = ap (node_kind t) (sym is) ∙ ap (λ c. c.kind) (stands-first t steps place g s here.stands at)

pub seq-of : (g : GoalTree) (n : ℕ) → GoalKind.Seq n ≡ kind_of g → (hs : GoalTrees) × (g ≡ seq hs) × (count_goals hs ≡ n)
unfolding kind_of
seq-of truth n h = absurd cc
seq-of fail n h = absurd cc
seq-of tick n h = absurd cc
seq-of (call name args) n h = absurd cc
seq-of (apply name args slot) n h = absurd cc
seq-of (seq gs) n h = (gs, refl, cc)
seq-of (alternatives gs) n h = absurd cc
seq-of (if_else test g other) n h = absurd cc
seq-of (not g) n h = absurd cc
seq-of (once g) n h = absurd cc
seq-of (collect g value into) n h = absurd cc
seq-of (count g into) n h = absurd cc
seq-of (catch g ball handler) n h = absurd cc

pub alternatives-of : (g : GoalTree) (n : ℕ) → GoalKind.Alt n ≡ kind_of g → (hs : GoalTrees) × (g ≡ alternatives hs) × (count_goals hs ≡ n)
unfolding kind_of
alternatives-of truth n h = absurd cc
alternatives-of fail n h = absurd cc
alternatives-of tick n h = absurd cc
alternatives-of (call name args) n h = absurd cc
alternatives-of (apply name args slot) n h = absurd cc
alternatives-of (seq gs) n h = absurd cc
alternatives-of (alternatives gs) n h = (gs, refl, cc)
alternatives-of (if_else test g other) n h = absurd cc
alternatives-of (not g) n h = absurd cc
alternatives-of (once g) n h = absurd cc
alternatives-of (collect g value into) n h = absurd cc
alternatives-of (count g into) n h = absurd cc
alternatives-of (catch g ball handler) n h = absurd cc

pub if-of : (g : GoalTree) → GoalKind.If ≡ kind_of g → (test : GoalTree) × (then : GoalTree) × (other : GoalTree) × (g ≡ if_else test then other)
unfolding kind_of
if-of truth h = absurd cc
if-of fail h = absurd cc
if-of tick h = absurd cc
if-of (call name args) h = absurd cc
if-of (apply name args slot) h = absurd cc
if-of (seq gs) h = absurd cc
if-of (alternatives gs) h = absurd cc
if-of (if_else test g other) h = (test, g, other, refl)
if-of (not g) h = absurd cc
if-of (once g) h = absurd cc
if-of (collect g value into) h = absurd cc
if-of (count g into) h = absurd cc
if-of (catch g ball handler) h = absurd cc

pub not-of : (g : GoalTree) → GoalKind.Not ≡ kind_of g → (c : GoalTree) × (g ≡ not c)
unfolding kind_of
not-of truth h = absurd cc
not-of fail h = absurd cc
not-of tick h = absurd cc
not-of (call name args) h = absurd cc
not-of (apply name args slot) h = absurd cc
not-of (seq gs) h = absurd cc
not-of (alternatives gs) h = absurd cc
not-of (if_else test g other) h = absurd cc
not-of (not g) h = (g, refl)
not-of (once g) h = absurd cc
not-of (collect g value into) h = absurd cc
not-of (count g into) h = absurd cc
not-of (catch g ball handler) h = absurd cc

pub once-of : (g : GoalTree) → GoalKind.Once ≡ kind_of g → (c : GoalTree) × (g ≡ once c)
unfolding kind_of
once-of truth h = absurd cc
once-of fail h = absurd cc
once-of tick h = absurd cc
once-of (call name args) h = absurd cc
once-of (apply name args slot) h = absurd cc
once-of (seq gs) h = absurd cc
once-of (alternatives gs) h = absurd cc
once-of (if_else test g other) h = absurd cc
once-of (not g) h = absurd cc
once-of (once g) h = (g, refl)
once-of (collect g value into) h = absurd cc
once-of (count g into) h = absurd cc
once-of (catch g ball handler) h = absurd cc

pub collect-of : (g : GoalTree) (v i : ℕ) → GoalKind.Collect v i ≡ kind_of g → (c : GoalTree) × (g ≡ collect c v i)
unfolding kind_of
collect-of truth v i h = absurd cc
collect-of fail v i h = absurd cc
collect-of tick v i h = absurd cc
collect-of (call name args) v i h = absurd cc
collect-of (apply name args slot) v i h = absurd cc
collect-of (seq gs) v i h = absurd cc
collect-of (alternatives gs) v i h = absurd cc
collect-of (if_else test g other) v i h = absurd cc
collect-of (not g) v i h = absurd cc
collect-of (once g) v i h = absurd cc
collect-of (collect g value into) v i h = (g, cc)
collect-of (count g into) v i h = absurd cc
collect-of (catch g ball handler) v i h = absurd cc

pub count-of : (g : GoalTree) (i : ℕ) → GoalKind.Count i ≡ kind_of g → (c : GoalTree) × (g ≡ count c i)
unfolding kind_of
count-of truth i h = absurd cc
count-of fail i h = absurd cc
count-of tick i h = absurd cc
count-of (call name args) i h = absurd cc
count-of (apply name args slot) i h = absurd cc
count-of (seq gs) i h = absurd cc
count-of (alternatives gs) i h = absurd cc
count-of (if_else test g other) i h = absurd cc
count-of (not g) i h = absurd cc
count-of (once g) i h = absurd cc
count-of (collect g value into) i h = absurd cc
count-of (count g into) i h = (g, cc)
count-of (catch g ball handler) i h = absurd cc
