-- How the run of a query begins.
use Rattle.std.specs.Prelude.{ℕ, List, ◌++◌, map}
use Rattle.pi_constraints.specs.Store.{StoreView}
use Rattle.pi_core.specs.GoalTree.{GoalTree}
use Rattle.pi_core.specs.CoreTree.{PredTree, QueryTree, pred_tree}
use Rattle.pi_core.specs.declared.core_program.CorePred.{CorePred}
use Rattle.pi_core.specs.declared.core_program.NameSlot.{NameSlot}
use Rattle.pi_engine_code.specs.declared.code.Code.{Code}
use Rattle.pi_engine_arenas.specs.declared.run.Now.{Now}
use Rattle.pi_engine_arenas.specs.Arenas.{ArenasView}
use Rattle.pi_meaning.specs.Machine.Step.{start}
use Rattle.pi_engine_stands.specs.Stands.{Loaded, world, Stands}

-- a query by its parts
abbrev pub asked : GoalTree → List CorePred → List NameSlot → ℕ → QueryTree
asked goal helpers names slots = record { goal = goal; helpers = map pred_tree helpers; names = names; slots = slots }

-- what is run, by the terms that are in the store now
abbrev pub loaded_with : {M : Type 0} → Code → StoreView M → List PredTree → ℕ → Loaded
loaded_with code v preds slots = record { code = code; terms = v.now.terms; preds = preds; query_slots = slots }

-- a run: the store and the order of its marks, the arenas, and what is next
pub record Begun (M : Type 0) : Type 0 where
  pub store : StoreView M
  pub order : M → ℕ
  pub arenas : ArenasView M
  pub now : Now

abbrev pub begun : {M : Type 0} → StoreView M → (M → ℕ) → ArenasView M → Now → Begun M
begun v order a now = record { store = v; order = order; arenas = a; now = now }

-- a run of tables stands for what the meaning of a query starts from
abbrev pub Begins : {M : Type 0} → Code → Begun M → List PredTree → QueryTree → Type 0
Begins code run program q = Stands (world (loaded_with code run.store (program ++ q.helpers) q.slots) run.store run.order run.arenas) run.now (start q)
