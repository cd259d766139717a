-- Copies of terms, and the terms of faults.
use Rattle.std.proofs.Common.{◌≡◌, ℕ, ℤ, ◌≤◌, ◌<◌, cond, List, Some, None, Ok, refl, ap, sym, ◌∙◌, lt-ltb}
use Rattle.std.specs.Prelude.{pos, codes}
use Rattle.pi_terms.specs.Tree.{Tree, int, atom, comp, no_trees, tree, cells, most_cells}
use Rattle.pi_terms.specs.Copy.{copy}
use Rattle.pi_terms.specs.Substitution.{instance}
use Rattle.pi_terms.proofs.OptionLemmas.{not-less}
use Rattle.pi_constraints.specs.State.{State, bindings, followed}
use Rattle.pi_constraints.specs.Value.{value}
use Rattle.pi_constraints.specs.Store.{StoreView, IsTerm, ShowsCell}
use Rattle.pi_constraints.specs.declared.store.Ref.{Ref}
use Rattle.pi_constraints.specs.declared.store.Cell.{Cell}
use Rattle.pi_constraints.proofs.RootLemmas.{value_int}
use Rattle.pi_effects.specs.Exception.{raised_of, thrown, exception_with, type_error, bad_index, term_too_large}
use Rattle.pi_effects.specs.Answer.{found_or, integer_at, integer_then}
use Rattle.pi_effects.specs.Balls.{Tells}
use Rattle.pi_effects.specs.Results.{Stops}
use Rattle.pi_effects.specs.Reads.{IsCopied}
use Rattle.pi_effects.specs.declared.fault.Fault.{Fault}
use Rattle.pi_effects.specs.declared.fault.Kind.{Kind}
use Rattle.pi_effects.specs.declared.fault.Stop.{Stop}

-- ---- copies

-- a ball that is made of a copy, and what stands in its place
raised-few : (u ball : Tree) → cells u ≤ most_cells → raised_of u ball ≡ ball
raised-few u ball few = ap (λ q. cond q term_too_large ball) (not-less most_cells (cells u) few)

raised-many : (u ball : Tree) → most_cells < cells u → raised_of u ball ≡ term_too_large
raised-many u ball many = ap (λ q. cond q term_too_large ball) (lt-ltb most_cells (cells u) many)

-- ---- exceptions that tell a term

pub thrown-copy : (t x : Tree) (s : State) → IsCopied (value (bindings s) t) (Some x) → x ≡ thrown t s
unfolding thrown
thrown-copy t x s h = h.0 ∙ sym (raised-few (value (bindings s) t) (copy 0 (value (bindings s) t)) h.1)

pub thrown-large : (t x : Tree) (s : State) → IsCopied (value (bindings s) t) None → x ≡ term_too_large → x ≡ thrown t s
unfolding thrown
thrown-large t x s many e = e ∙ sym (raised-many (value (bindings s) t) (copy 0 (value (bindings s) t)) many)

abbrev telling : List ℕ → Tree → Tree
telling name t = comp name (tree t no_trees)

pub exception-copy : (name : List ℕ) (t x made : Tree) (s : State) → IsCopied (value (bindings s) t) (Some x) → made ≡ comp name (tree x no_trees) → made ≡ exception_with name t s
unfolding exception_with
exception-copy name t x made s h e = e ∙ ap (telling name) h.0 ∙ sym (raised-few (value (bindings s) t) (telling name (copy 0 (value (bindings s) t))) h.1)

pub exception-large : (name : List ℕ) (t made : Tree) (s : State) → IsCopied (value (bindings s) t) None → made ≡ term_too_large → made ≡ exception_with name t s
unfolding exception_with
exception-large name t made s many e = e ∙ sym (raised-many (value (bindings s) t) (telling name (copy 0 (value (bindings s) t))) many)

abbrev of_kind : List ℕ → Tree → Tree
of_kind kind t = comp (codes "type_error") (tree (atom kind) (tree t no_trees))

pub kind-copy : (kind : List ℕ) (t x made : Tree) (s : State) → IsCopied (value (bindings s) t) (Some x) → made ≡ comp (codes "type_error") (tree (atom kind) (tree x no_trees)) → made ≡ type_error kind t s
unfolding type_error
kind-copy kind t x made s h e = e ∙ ap (of_kind kind) h.0 ∙ sym (raised-few (value (bindings s) t) (of_kind kind (copy 0 (value (bindings s) t))) h.1)

pub kind-large : (kind : List ℕ) (t made : Tree) (s : State) → IsCopied (value (bindings s) t) None → made ≡ term_too_large → made ≡ type_error kind t s
unfolding type_error
kind-large kind t made s many e = e ∙ sym (raised-many (value (bindings s) t) (of_kind kind (copy 0 (value (bindings s) t))) many)

-- `bad_index(1)` is the same in each state
pub no-first : (s : State) → bad_index (int (pos 1)) s ≡ comp (codes "bad_index") (tree (int (pos 1)) no_trees)
unfolding exception_with copy instance cells
no-first s = ap (λ u. raised_of u (comp (codes "bad_index") (tree (copy 0 u) no_trees))) (value_int (bindings s) (pos 1))

-- ---- each fault has one ball

pub told-is : {M : Type 0} (v : StoreView M) (r : Ref) (raised : Tree → State → Tree) (made ball : Tree) → ((t : Tree) → IsTerm v r t → made ≡ raised t v.now.state) → Tells v r raised ball → made ≡ ball
told-is v r raised made ball is told = is told.0 told.1 ∙ sym told.2

-- ---- an argument that is an integer, or none

not-integer : {M : Type 0} (v : StoreView M) (u : Tree) (cell : Cell) → ((n : ℤ) → cell ≡ Cell.Int n → ⊥) → ShowsCell v u cell → integer_at u ≡ None
not-integer v u (Cell.Var n) not shows = ap integer_at shows
not-integer v u (Cell.Int n) not shows = absurd (not n refl)
not-integer v u (Cell.Atom k) not shows = ap integer_at shows.2
not-integer v u (Cell.Comp k count) not shows = ap integer_at shows.2

pub integer-not : {M : Type 0} (v : StoreView M) (r : Ref) (t : Tree) (cell : Cell) → IsTerm v r t → ((n : ℤ) → cell ≡ Cell.Int n → ⊥) → ShowsCell v (followed (bindings v.now.state) t) cell → Stops v (Stop.Raised (Fault.WrongKind Kind.Integer r)) (integer_then v.now.state t (λ n. Ok n))
integer-not v r t cell is not shows = (
  type_error (codes "integer") t v.now.state,
  ap (λ o. found_or o (type_error (codes "integer") t v.now.state) (λ n. Ok n)) (not-integer v (followed (bindings v.now.state) t) cell not shows),
  (t, is, refl),
)
