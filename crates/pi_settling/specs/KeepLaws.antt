-- Labelling loses no solution and adds none. (Own.)
use Rattle.std.specs.Prelude.{◌≡◌, ◌↔◌, ℕ, ℤ, List, [], AllPairs, Contains}
use Rattle.pi_constraints.specs.declared.constraint.Item.{Item}
use Rattle.pi_traces.specs.Trace.{Trace, Done, answers, end_of}
use Rattle.pi_constraints.specs.State.{State, IsState}
use Rattle.pi_settling.specs.Solves.{Solves}
use Rattle.pi_settling.specs.SettlingLaws.{MaySettle, Settles}
use Rattle.pi_settling.specs.Options.{Options}
use Rattle.pi_settling.specs.Label.{Settling, labelled_at}
use Rattle.pi_settling.specs.SolutionLaws.{RunsWhatWaits}

-- some answer of a trace has this solution
abbrev pub SolvesSome : Trace State → (ℕ → ℤ) → Type 0
SolvesSome t a = (r : State) × Contains (answers t) r × Solves r a

-- Where a labelling comes to its end, its answers have together just the solutions of the state in which it began: whatever the options and the variables are, and whether or not some
-- variables are left unbound.
abbrev pub LabellingKeepsSolutions : Type 0
LabellingKeepsSolutions = (settle : Settling) (drains : ℕ → State → Trace State) (o : Options) (items : List Item) → Settles settle → RunsWhatWaits drains →
    (s : State) → IsState s → MaySettle s → s.agents ≡ [] → s.waiting ≡ [] → (d : ℕ) → end_of (labelled_at settle drains o items d s) ≡ Done →
    (a : ℕ → ℤ) → Solves s a ↔ SolvesSome (labelled_at settle drains o items d s) a

-- And no two of its answers have a solution in common: each solution is one of one answer.
abbrev pub HaveNoneInCommon : State → State → Type 0
HaveNoneInCommon r q = (a : ℕ → ℤ) → Solves r a → Solves q a → ⊥

abbrev pub AnswersPartTheSolutions : Type 0
AnswersPartTheSolutions = (settle : Settling) (drains : ℕ → State → Trace State) (o : Options) (items : List Item) → Settles settle → RunsWhatWaits drains →
    (s : State) → IsState s → MaySettle s → s.agents ≡ [] → s.waiting ≡ [] → (d : ℕ) → end_of (labelled_at settle drains o items d s) ≡ Done →
    AllPairs HaveNoneInCommon (answers (labelled_at settle drains o items d s))

-- And it comes to its end at some depth.
abbrev pub LabellingEnds : Type 0
LabellingEnds = (settle : Settling) (drains : ℕ → State → Trace State) (o : Options) (items : List Item) → Settles settle → RunsWhatWaits drains →
    (s : State) → IsState s → MaySettle s → s.agents ≡ [] → s.waiting ≡ [] → (d : ℕ) × (end_of (labelled_at settle drains o items d s) ≡ Done)
