-- What contracts see of a run.
use Rattle.pi_constraints.specs.State.{State}
use Rattle.pi_constraints.specs.Store.{StoreView, Terms}
use Rattle.pi_engine_arenas.specs.declared.run.Run.{Run}
use Rattle.pi_engine_arenas.specs.Arenas.{view_of, Between, between}

-- a run before a step and then, by what its kind of store holds
abbrev pub across : {S M : Type 0} → (S → StoreView M) → Run S M → Run S M → Between M
across seen old new = between (seen old.store) (seen new.store) (view_of old.arenas) (view_of new.arenas)

-- the state of a run, and the terms of its store
abbrev pub state_in : {S M : Type 0} → (S → StoreView M) → Run S M → State
state_in seen run = (seen run.store).now.state

abbrev pub terms_in : {S M : Type 0} → (S → StoreView M) → Run S M → Terms
terms_in seen run = (seen run.store).now.terms
