-- Calls by name, and what they come to, against what the built-in does. Want of memory says nothing. (Own.)
use Rattle.std.specs.Prelude.{◌≡◌, ℕ, true, Option, Some, None, ⊤}
use Rattle.pi_terms.specs.Tree.{Tree, var, int, atom, comp, Trees, no_trees}
use Rattle.pi_constraints.specs.State.{State, bindings}
use Rattle.pi_constraints.specs.Store.{StoreView, Stays, Gives as GivesTerm}
use Rattle.pi_effects.specs.Effect.{Effect, Succeeds, Fails, Writes, Raises, FunctionEffect, Gives, Refuses}
use Rattle.pi_effects.specs.BuiltIns.{built_in_predicate}
use Rattle.pi_lib_builtin.specs.Names.{predicate_name, takes}
use Rattle.pi_lib_builtin.specs.declared.predicates.Predicate.{Predicate}
use Rattle.pi_constraints.specs.Value.{IsAcyclic}
use Rattle.pi_effects.specs.Balls.{IsBall}
use Rattle.pi_effects.specs.declared.fault.Fault.{Fault}
use Rattle.pi_effects.specs.declared.fault.Stop.{Stop}
use Rattle.pi_lib.specs.declared.predicates.Outcome.{Outcome}
use Rattle.pi_lib.specs.declared.runs.LibStep.{LibStep}
use Rattle.pi_lib.specs.declared.runs.LibValue.{LibValue}

-- what a call does that is this term at its root
abbrev pub effect_of_call : State → Tree → Option Effect
effect_of_call s (var n) = None
effect_of_call s (int n) = None
effect_of_call s (atom name) = built_in_predicate name no_trees s
effect_of_call s (comp name ts) = built_in_predicate name ts s

-- a predicate has one answer in the state after, none, a text that is written before, or raises a term in the state before
abbrev pub ShowsStep : {M : Type 0} → StoreView M → StoreView M → LibStep → Effect → Type 0
ShowsStep before after LibStep.Yes e = e ≡ Succeeds after.now.state
ShowsStep before after LibStep.No e = e ≡ Fails
ShowsStep before after (LibStep.Out text) e = e ≡ Writes text after.now.state
ShowsStep before after (LibStep.Raised ball) e = (e ≡ Raises ball) × Stays before after
ShowsStep before after LibStep.Memory e = ⊤

-- a function has a value in the state after, or raises a term in the state before
abbrev pub ShowsValue : {M : Type 0} → StoreView M → StoreView M → LibValue → FunctionEffect → Type 0
ShowsValue before after (LibValue.Value made) e = (t : Tree) × (s : State) × (e ≡ Gives t s) × GivesTerm before after s made t
ShowsValue before after (LibValue.Raised ball) e = (e ≡ Refuses ball) × Stays before after
ShowsValue before after LibValue.Memory e = ⊤

-- the predicate that was found does this with so many arguments
abbrev pub DoesCall : State → ℕ → Trees → Option Predicate → Effect → Type 0
DoesCall s count ts None e = ⊥
DoesCall s count ts (Some p) e = (takes p count ≡ true) × (built_in_predicate (predicate_name p) ts s ≡ Some e)

-- what a predicate came to, as a step
abbrev pub step_of : Outcome → LibStep
step_of Outcome.Yes = LibStep.Yes
step_of Outcome.No = LibStep.No
step_of (Outcome.Out text) = LibStep.Out text

-- a term that is raised is that of the fault, in a state without cycles
abbrev pub IsRaised : {M : Type 0} → StoreView M → Stop → Tree → Type 0
IsRaised v stop made = (fault : Fault) × (stop ≡ Stop.Raised fault) × ((t : Tree) → IsAcyclic (bindings v.now.state) → IsBall v fault t → made ≡ t)
