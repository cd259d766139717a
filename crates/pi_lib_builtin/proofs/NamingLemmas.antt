-- Names and numbers of arguments of what a store shows.
use Rattle.std.proofs.Common.{◌≡◌, ℕ, refl, ap}
use Rattle.std.specs.Prelude.{None, codes}
use Rattle.pi_terms.specs.Tree.{Tree}
use Rattle.pi_constraints.specs.State.{bindings, followed}
use Rattle.pi_constraints.specs.Store.{StoreView, IsTerm, ShowsCell}
use Rattle.pi_constraints.specs.declared.store.Ref.{Ref}
use Rattle.pi_constraints.specs.declared.store.Cell.{Cell}
use Rattle.pi_effects.specs.Exception.{type_error}
use Rattle.pi_effects.specs.Answer.{or_raised}
use Rattle.pi_effects.specs.Naming.{name_at, arity_at}
use Rattle.pi_effects.specs.Results.{Stops}
use Rattle.pi_effects.specs.declared.fault.Fault.{Fault}
use Rattle.pi_effects.specs.declared.fault.Kind.{Kind}
use Rattle.pi_effects.specs.declared.fault.Stop.{Stop}

-- what is neither
none-at : {M : Type 0} (v : StoreView M) (u : Tree) (cell : Cell) → ((k : ℕ) → cell ≡ Cell.Atom k → ⊥) → ((k count : ℕ) → cell ≡ Cell.Comp k count → ⊥) → ShowsCell v u cell → (name_at u ≡ None) × (arity_at u ≡ None)
none-at v u (Cell.Var n) not other shows = (ap name_at shows, ap arity_at shows)
none-at v u (Cell.Int n) not other shows = (ap name_at shows, ap arity_at shows)
none-at v u (Cell.Atom k) not other shows = absurd (not k refl)
none-at v u (Cell.Comp k count) not other shows = absurd (other k count refl)

pub not-callable : {M : Type 0} (v : StoreView M) (r : Ref) (t : Tree) (cell : Cell) → IsTerm v r t → ((k : ℕ) → cell ≡ Cell.Atom k → ⊥) → ((k count : ℕ) → cell ≡ Cell.Comp k count → ⊥) → ShowsCell v (followed (bindings v.now.state) t) cell
    → Stops v (Stop.Raised (Fault.WrongKind Kind.Callable r)) (or_raised (name_at (followed (bindings v.now.state) t)) (type_error (codes "callable") t v.now.state))
    × Stops v (Stop.Raised (Fault.WrongKind Kind.Callable r)) (or_raised (arity_at (followed (bindings v.now.state) t)) (type_error (codes "callable") t v.now.state))
not-callable v r t cell is not other shows =
    let none = none-at v (followed (bindings v.now.state) t) cell not other shows in
    let ball : Tree = type_error (codes "callable") t v.now.state in
    ((ball, ap (λ o. or_raised o ball) none.0, (t, is, refl)), (ball, ap (λ o. or_raised o ball) none.1, (t, is, refl)))
