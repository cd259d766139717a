-- What a Ref of a store stands for: its term as it was made, and that term's value under the present bindings.
use Rattle.std.specs.Prelude.{[], IsSome, unwrap_or}
use Rattle.pi_terms.specs.Tree.{Tree, atom}
use Rattle.pi_constraints.specs.Value.{IsAcyclic, value}
use Rattle.pi_constraints.specs.State.{bindings}
use Rattle.pi_constraints.specs.Store.{StoreView}
use Rattle.pi_constraints.specs.declared.store.Ref.{Ref}

-- the store gave it, and has not taken it back
abbrev pub IsGiven : {M : Type 0} → StoreView M → Ref → Type 0
IsGiven v r = IsSome (v.now.terms r.number)

-- no term of the store holds itself
abbrev pub HoldsNoCycle : {M : Type 0} → StoreView M → Type 0
HoldsNoCycle v = IsAcyclic (bindings v.now.state)

-- the term of a Ref that was given; for any other one it says nothing
abbrev pub term_of : {M : Type 0} → StoreView M → Ref → Tree
term_of v r = unwrap_or (v.now.terms r.number) (atom [])

-- its value
abbrev pub value_of : {M : Type 0} → StoreView M → Ref → Tree
value_of v r = value (bindings v.now.state) (term_of v r)
