-- What variables are bound to, by their words.
use Rattle.std.specs.Prelude.{◌≡◌, ℕ, List, map, Some}
use Rattle.pi_terms.specs.Tree.{Tree}
use Rattle.pi_constraints.specs.Value.{Bindings}
use Rattle.pi_constraints.specs.State.{binding}
use Rattle.pi_constraints.specs.declared.store.Ref.{Ref}
use Rattle.pi_store_blocks.specs.Heap.{Heap, term_at}
use Rattle.pi_store.specs.Walk.{binding_at}
use Rattle.pi_store.specs.Holding.{variable_in}

-- what variables with these words are bound to has trees
abbrev pub HasBound : Heap → List ℕ → Type 0
HasBound h vs = (n : ℕ) (q : Ref) → binding_at vs n ≡ Some q → (t : Tree) × (term_at h q.number ≡ Some t)

-- and these are the trees
abbrev pub bound_in : Heap → List ℕ → Bindings
bound_in h vs = map binding (map (variable_in h) vs)
