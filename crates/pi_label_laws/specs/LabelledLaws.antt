-- Postings lead to states that may be labelled. (Own.)
use Rattle.std.specs.Prelude.{◌≡◌, ℕ, List, [], Ok, Contains}
use Rattle.pi_terms.specs.Tree.{Tree}
use Rattle.pi_terms.specs.Variables.{Occurs}
use Rattle.pi_constraints.specs.declared.constraint.Item.{Item}
use Rattle.pi_constraints.specs.Value.{value}
use Rattle.pi_constraints.specs.State.{State, bindings, next, SpeaksBelow, IsState}
use Rattle.pi_prop_spec.specs.Postings.{Posting, posting_in}
use Rattle.pi_settling.specs.Posted.{posted_in}
use Rattle.pi_settling.specs.Roots.{root_item}
use Rattle.pi_settling.specs.Stable.{IsStable}
use Rattle.pi_label_laws.specs.Made.{MayLabel}

-- the unbound variables of a term are among those that the items come to
abbrev pub AreAmong : State → List Item → Tree → Type 0
AreAmong s items t = (n : ℕ) → Occurs n (value (bindings s) t) → (x : Item) × Contains items x × (root_item s x ≡ Item.Var n)

-- a state without constraints, agents and what waits may be labelled
abbrev pub WithoutConstraintsMayBeLabelled : Type 0
WithoutConstraintsMayBeLabelled = (s : State) (items : List Item) → IsState s → s.constraints ≡ [] → s.agents ≡ [] → s.waiting ≡ [] → MayLabel s items

-- In a state that may be labelled by some items a goal over variables among these is posted: what it leaves, settled, may be labelled by them too.
abbrev pub PostingsMayBeLabelled : Type 0
PostingsMayBeLabelled = (s r : State) (items : List Item) (t : Tree) (p : Posting) → MayLabel s items → SpeaksBelow (next s) t → AreAmong s items t → posting_in s t ≡ Ok p → IsStable (posted_in s p) r → MayLabel r items
