-- The goal that labels in rounds is found by the number of its name, which a look at its atom shows.
use Rattle.std.proofs.Common.{◌≡◌, ℕ, List, refl, subst}
use Rattle.std.specs.Prelude.{codes}
use Rattle.pi_terms.specs.Tree.{Tree, atom}
use Rattle.pi_constraints.specs.State.{bindings, followed}
use Rattle.pi_constraints.specs.Store.{StoreView, Terms, IsTerm, IsName, ShowsCell}
use Rattle.pi_constraints.specs.declared.store.Cell.{Cell}
use Rattle.pi_constraints.specs.declared.store.Ref.{Ref}
use Rattle.pi_constraints.proofs.FollowLemmas.{followed_other}
use Rattle.pi_core.specs.CoreTree.{PredTree}
use Rattle.pi_unify.specs.Terms.{HoldsNoCycle}
use Rattle.pi_engine_facts.specs.Called.{NamesAreDistinct}
use Rattle.pi_engine_code.specs.declared.code.Code.{Code}
use Rattle.pi_engine_code.specs.Code.{tables_of}
use Rattle.pi_engine_code.specs.Callables.{place_in}
use Rattle.pi_engine_stands.specs.Stands.{IsCodeOf}
use Rattle.pi_engine_stands.specs.Searches.{FindsRound}
use Rattle.pi_engine_stands.proofs.SearchBeginsGoal.{round-found}

cell-of-atom : {M : Type 0} (v : StoreView M) (name : List ℕ) (cell : Cell) → ShowsCell v (atom name) cell → (n : ℕ) × (cell ≡ Cell.Atom n) × IsName v n name
cell-of-atom v name (Cell.Var n) shows = absurd cc
cell-of-atom v name (Cell.Int n) shows = absurd cc
cell-of-atom v name (Cell.Atom n) shows = (n, refl, let same : shows.0 ≡ name = (let it : atom name ≡ atom shows.0 = shows.2 in cc) in subst (IsName v n) same shows.1)
cell-of-atom v name (Cell.Comp n k) shows = absurd (let it = shows.2 in cc)

-- a look at the atom shows its number
pub solve-shown : {M : Type 0} (v : StoreView M) (r : Ref) (cell : Cell) → IsTerm v r (atom (codes "solve")) → HoldsNoCycle v →
    ((t : Tree) → IsTerm v r t → HoldsNoCycle v → ShowsCell v (followed (bindings v.now.state) t) cell) → (n : ℕ) × (cell ≡ Cell.Atom n) × IsName v n (codes "solve")
solve-shown v r cell is acyclic shows =
    cell-of-atom v (codes "solve") cell (subst (λ t. ShowsCell v t cell) (followed_other (bindings v.now.state) (atom (codes "solve")) (λ m h. cc)) (shows (atom (codes "solve")) is acyclic))

pub number-found : {M : Type 0} (v : StoreView M) (code : Code) (t : Terms) (preds : List PredTree) (n : ℕ) → IsCodeOf code (tables_of t code) v.names preds → NamesAreDistinct v → IsName v n (codes "solve") →
    FindsRound (tables_of t code) code.steps.items (place_in code.callables n 2)
number-found v code t preds n is distinct named = round-found code (tables_of t code) v.names preds n is named distinct
