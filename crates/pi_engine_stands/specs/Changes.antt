-- Steps of a run: what it has before and after, and what is next then.
use Rattle.std.specs.Prelude.{◌≡◌, ℕ}
use Rattle.pi_terms.specs.Tree.{Trees}
use Rattle.pi_terms.specs.Places.{Places}
use Rattle.pi_constraints.specs.Store.{StoreView}
use Rattle.pi_engine_code.specs.declared.code.Code.{Code}
use Rattle.pi_engine_arenas.specs.declared.run.Now.{Now}
use Rattle.pi_engine_arenas.specs.declared.run.Run.{Run}
use Rattle.pi_engine_stands.specs.Here.{Block, Holds, HoldsArguments}
use Rattle.pi_engine_stands.specs.Stands.{Loaded, World, world_of}

-- what a run has before a step and after it, and what is next then
pub record Change (M : Type 0) : Type 0 where
  pub before : World M
  pub after : World M
  pub now : Now

abbrev pub change : {M : Type 0} → World M → World M → Now → Change M
change before after now = record { before = before; after = after; now = now }

-- a run changes like this, whatever it was loaded with
abbrev pub Changes : {S M : Type 0} → (S → StoreView M) → (M → ℕ) → Run S M → Run S M → (Change M → Type 0) → Type 0
Changes seen order old new what = (l : Loaded) → what (change (world_of seen order l old) (world_of seen order l new) new.now)

-- the same of a run that was loaded with these tables
abbrev pub ChangesBy : {S M : Type 0} → (S → StoreView M) → (M → ℕ) → Code → Run S M → Run S M → (Change M → Type 0) → Type 0
ChangesBy seen order code old new what = (l : Loaded) → l.code ≡ code → what (change (world_of seen order l old) (world_of seen order l new) new.now)

-- ---- what the slots of a run hold

-- the clause's slots in a block
abbrev pub HoldsIn : {S M : Type 0} → (S → StoreView M) → Run S M → Block → Places → Type 0
HoldsIn seen run b e = Holds (seen run.store).now.terms run.arenas.blocks.slots b e

-- the arguments of the call of a block, which has so many
abbrev pub HoldsArgumentsIn : {S M : Type 0} → (S → StoreView M) → Run S M → ℕ → ℕ → Trees → Type 0
HoldsArgumentsIn seen run base arity ts = HoldsArguments (seen run.store).now.terms run.arenas.blocks.slots base arity ts
