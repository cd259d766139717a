-- What a call of `solve` asks for, by the arguments that it was asked with.
use Rattle.std.proofs.Common.{◌≡◌, ℕ, true, List, Some, Result, Err, refl, sym, ◌∙◌, ap, subst}
use Rattle.pi_terms.specs.Tree.{Tree, Trees, no_trees, tree, tree_count}
use Rattle.pi_constraints.specs.Value.{IsAcyclic}
use Rattle.pi_constraints.specs.State.{bindings}
use Rattle.pi_constraints.specs.Store.{StoreView, AreTerms}
use Rattle.pi_constraints.specs.declared.store.Ref.{Ref}
use Rattle.pi_effects.specs.Balls.{IsBall}
use Rattle.pi_effects.specs.declared.fault.Stop.{Stop}
use Rattle.pi_settling.specs.Asked.{Asked as Asks, raises, asked, asked_plainly}
use Rattle.pi_settling.specs.SolveCalls.{solve_asked, is_solve}
use Rattle.pi_lib.specs.Runs.{IsRaised}
use Rattle.pi_lib_solve.specs.Asks.{ShowsAsked}
use Rattle.pi_lib_solve.specs.declared.asking.Asked.{Asked}
use Rattle.pi_engine_stands.proofs.SolveAsks.{IsAsked, plainly, by_options, asked-so}

-- what a call asks for, and that this is what was answered
pub record IsAnswered {M : Type 0} (v : StoreView M) (name : List ℕ) (ts : Trees) (found : Result Asked Stop) : Type 0 where
  pub asks : Asks
  pub is : solve_asked name ts v.now.state ≡ Some asks
  pub shows : ShowsAsked v found asks

pub answered-so : {M : Type 0} (v : StoreView M) (name : List ℕ) (rs : List Ref) (ts : Trees) (found : Result Asked Stop) → is_solve name (tree_count ts) ≡ true → AreTerms v rs ts →
    ((vars : Tree) → AreTerms v rs (tree vars no_trees) → ShowsAsked v found (asked_plainly v.now.state vars)) →
    ((words vars : Tree) → AreTerms v rs (tree words (tree vars no_trees)) → ShowsAsked v found (asked v.now.state words vars)) → IsAnswered v name ts found
answered-so v name rs ts found is are one two = by ts (asked-so name ts v.now.state is) are
  where
    by : (us : Trees) → IsAsked name v.now.state us → AreTerms v rs us → IsAnswered v name us found
    by _ (plainly vars so) are = record { asks = asked_plainly v.now.state vars; is = so; shows = one vars are }
    by _ (by_options words vars so) are = record { asks = asked v.now.state words vars; is = so; shows = two words vars are }

-- a fault is raised
pub raises-so : {M : Type 0} (v : StoreView M) (stop : Stop) (asks : Asks) (made : Tree) → IsAcyclic (bindings v.now.state) → ShowsAsked v (Err stop) asks → IsRaised v stop made → asks ≡ raises made
raises-so v stop asks made acyclic shows raised =
    let found : (ball : Tree) × (asks ≡ raises ball) × IsBall v raised.0 ball = subst (λ x. ShowsAsked v (Err x) asks) raised.1 shows in
    found.1 ∙ ap raises (sym (raised.2 found.0 acyclic found.2))
