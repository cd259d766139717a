-- What is next behind a call of a built-in predicate.
use Rattle.std.proofs.Common.{Result, Ok, Err, refl, sym, subst}
use Rattle.std.specs.Prelude.{IfOk}
use Rattle.pi_terms.specs.Tree.{Tree}
use Rattle.pi_constraints.specs.State.{IsState}
use Rattle.pi_constraints.specs.Store.{StoreView}
use Rattle.pi_effects.specs.Effect.{Effect}
use Rattle.pi_effects.specs.declared.fault.Stop.{Stop}
use Rattle.pi_lib.specs.declared.predicates.Outcome.{Outcome}
use Rattle.pi_lib.specs.Outcomes.{ShowsOutcome}
use Rattle.pi_lib.specs.Runs.{IsRaised}
use Rattle.pi_lib.proofs.RunLemmas.{step-raised}
use Rattle.pi_meaning.specs.declared.happening.Mode.{Mode}
use Rattle.pi_engine_arenas.specs.declared.frames.Point.{Point}
use Rattle.pi_engine_arenas.specs.declared.run.Now.{Now}
use Rattle.pi_engine_stands.specs.Does.{ComesNext}
use Rattle.pi_engine_steps.specs.Done.{IsDone}

pub done-comes : {M : Type 0} (v w : StoreView M) (mode : Mode) (p : Point) (o : Outcome) (e : Effect) (now : Now) → ShowsOutcome v w (Ok o) e → IsDone mode p o now → ComesNext mode p e w.now.state now
done-comes v w mode p Outcome.Yes e now shows is = subst (λ d. ComesNext mode p d w.now.state now) (sym shows) (refl, is)
done-comes v w mode p Outcome.No e now shows is = subst (λ d. ComesNext mode p d w.now.state now) (sym shows) is
done-comes v w mode p (Outcome.Out text) e now shows is = subst (λ d. ComesNext mode p d w.now.state now) (sym shows) (refl, is)

pub raised-comes : {M : Type 0} (v w : StoreView M) (mode : Mode) (p : Point) (stop : Stop) (e : Effect) (made : Tree) → IsState v.now.state → ShowsOutcome v w (Err stop) e → IsRaised w stop made → ComesNext mode p e w.now.state (Now.Raising made)
raised-comes v w mode p stop e made state shows is = subst (λ d. ComesNext mode p d w.now.state (Now.Raising made)) (sym (step-raised v w stop e made state shows is).0) refl

-- what two clauses of a call that comes last say together
pub both-ok : {T E : Type 0} (r : Result T E) (P Q R : T → Type 0) → ((x : T) → P x → Q x → R x) → IfOk r P → IfOk r Q → IfOk r R
both-ok (Ok x) P Q R f p q = f x p q
both-ok (Err y) P Q R f p q = tt
