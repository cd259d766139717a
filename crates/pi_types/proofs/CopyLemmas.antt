-- Copies of what a state holds, one value after another.
use Rattle.std.proofs.Common.{◌≡◌, ℕ, ◌+◌, List, [], ◌∷◌, ◌++◌, take, Some, ap, sym, ◌∙◌}
use Rattle.std.specs.Prelude.{slice_get}
use Rattle.pi_terms.proofs.GetLemmas.{take_more}
use Rattle.pi_constraints.specs.declared.constraint.Constraint.{Constraint}
use Rattle.pi_constraints.specs.declared.event.Activation.{Activation}
use Rattle.pi_types.specs.declared.tree_store.state.StoredTerm.{StoredTerm}
use Rattle.pi_types.specs.declared.tree_store.state.StoredVariable.{StoredVariable}
use Rattle.pi_types.specs.declared.tree_store.state.StoredAgent.{StoredAgent}
use Rattle.pi_types.specs.declared.tree_store.state.TreeState.{TreeState}

pub one_queued : {X : Type 0} (xs old new : List X) (i : ℕ) (x y : X) → slice_get xs i ≡ Some y → old ≡ take i xs → x ≡ y → new ≡ old ++ x ∷ [] → new ≡ take (i + 1) xs
one_queued xs old new i x y at o e n = n ∙ (ap (λ l. l ++ x ∷ []) o ∙ (ap (λ z. take i xs ++ z ∷ []) e ∙ sym (take_more xs i y at)))

pub state_copied : (s : TreeState) (terms : List StoredTerm) (variables : List StoredVariable) (constraints : List Constraint) (agents : List StoredAgent) (waiting : List Activation)
    → terms ≡ s.terms → variables ≡ s.variables → constraints ≡ s.constraints → agents ≡ s.agents → waiting ≡ s.waiting
    → ◌≡◌ {A = TreeState} (record { terms = terms; variables = variables; constraints = constraints; agents = agents; waiting = waiting }) s
state_copied s terms variables constraints agents waiting t v c a w = λ i. record { terms = t i; variables = v i; constraints = c i; agents = a i; waiting = w i }
