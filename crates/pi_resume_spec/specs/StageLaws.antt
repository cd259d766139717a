-- The laws of the paths of labelling and draining.
use Rattle.std.specs.Prelude.{◌≡◌, ℕ, List, Option, Some, None, option_map}
use Rattle.pi_terms.specs.Tree.{Tree}
use Rattle.pi_constraints.specs.State.{State}
use Rattle.pi_constraints.specs.declared.constraint.Item.{Item}
use Rattle.pi_settling.specs.Options.{Options, Objective}
use Rattle.pi_settling.specs.Fire.{SlotValue}
use Rattle.pi_settling.specs.Label as plain_label
use Rattle.pi_settling.specs.Label.{Settling}
use Rattle.pi_settling.specs.Drain as plain_drain
use Rattle.pi_settling.specs.Reading.{Solving}
use Rattle.pi_settling.specs.Rounds as plain_rounds
use Rattle.pi_traces.specs.Trace.{Trace}
use Rattle.pi_resume_spec.specs.Resumed.{Search, At}
use Rattle.pi_resume_spec.specs.Searches.{without_paths}
use Rattle.pi_resume_spec.specs.Label.{labelling, solved_for}
use Rattle.pi_resume_spec.specs.Drain.{Lower, plain_lower, drained}
use Rattle.pi_resume_spec.specs.LanguageLaws.{OneAtMost, IsGuided}

-- settling has one answer at most
abbrev pub SettlesOnce : Settling → Type 0
SettlesOnce settle = (s r : State) → OneAtMost (settle s r)

-- ---- labelling

-- without its paths labelling is what it is, where draining is
abbrev pub LabellingAddsNothing : Type 0
LabellingAddsNothing = (settle : Settling) (drains : ℕ → State → Search State) (o : Options) (items : List Item) (d : ℕ) (s : State) →
    without_paths (labelling settle drains o items d s) ≡ plain_label.labelling settle (λ n r. without_paths (drains n r)) o items d s

-- and its paths lead apart, each to its answer, where those of draining do
abbrev pub LabellingIsGuided : Type 0
LabellingIsGuided = (settle : Settling) (drains : ℕ → State → Search State) → SettlesOnce settle → ((n : ℕ) (s : State) → IsGuided (drains n s)) →
    (o : Options) (items : List Item) (d : ℕ) (s : State) → IsGuided (labelling settle drains o items d s)

-- so it is of `solve`; with an objective it has one answer at most, and no choice
abbrev pub SolvingAddsNothing : Type 0
SolvingAddsNothing = (p : Solving) (drains : ℕ → State → Search State) → ((n : ℕ) (s : State) → without_paths (drains n s) ≡ p.drains n s) →
    (o : Option Objective) (d : ℕ) (s : State) → without_paths (solved_for p drains o d s) ≡ plain_rounds.solved_for p o d s

abbrev pub SolvingIsGuided : Type 0
SolvingIsGuided = (p : Solving) (drains : ℕ → State → Search State) → SettlesOnce p.settle → ((n : ℕ) (s : State) → IsGuided (drains n s)) →
    (o : Option Objective) (d : ℕ) (s : State) → IsGuided (solved_for p drains o d s)

-- ---- draining

abbrev pub DrainingAddsNothing : Type 0 → Type 0
DrainingAddsNothing X = (below : Option (Lower X)) (s : State) → without_paths (drained below s) ≡ plain_drain.drained (option_map plain_lower below) s

-- what a lower depth runs is guided: a rule's body from each place to which its condition leads, a call that is made anew, and draining
pub record IsGuidedLower {X : Type 0} (l : Lower X) : Type 0 where
  pub body : (i : ℕ) (t : Tree) (v : Option SlotValue) (s : State) (x : X) (rest : Trace X) → At (l.rules.applies i t s) x rest → IsGuided (l.rules.body i t v x)
  pub anew : (t : Tree) (s : State) → IsGuided (l.rules.anew t s)
  pub drains : (s : State) → IsGuided (l.drains s)

abbrev pub IsGuidedBelow : {X : Type 0} → Option (Lower X) → Type 0
IsGuidedBelow None = Unit {0}
IsGuidedBelow (Some l) = IsGuidedLower l

abbrev pub DrainingIsGuided : Type 0 → Type 0
DrainingIsGuided X = (below : Option (Lower X)) → IsGuidedBelow below → (s : State) → IsGuided (drained below s)
