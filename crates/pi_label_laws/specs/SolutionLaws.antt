-- Labelling gives exactly the solutions: what is promised of its answers. (Own.)
use Rattle.std.specs.Prelude.{◌≡◌, ◌≢◌, ℕ, ℤ, List, [], map, Option, None}
use Rattle.pi_terms.specs.Tree.{Tree}
use Rattle.pi_constraints.specs.declared.constraint.Item.{Item}
use Rattle.pi_traces.specs.Trace.{Trace, Done, one, answers, end_of}
use Rattle.pi_constraints.specs.State.{State, next, SpeaksBelow}
use Rattle.pi_settling.specs.Roots.{root_item}
use Rattle.pi_settling.specs.SettlingLaws.{Settles}
use Rattle.pi_settling.specs.Settle.{settled}
use Rattle.pi_settling.specs.Options.{Options, VariableWord, forward, backward, ff, ValueWord, up, down, split, reverse_split}
use Rattle.pi_settling.specs.Confined.{confined}
use Rattle.pi_settling.specs.Drain.{Lower, drained}
use Rattle.pi_settling.specs.Asked.{asked, labels}
use Rattle.pi_settling.specs.Reading.{Solving}
use Rattle.pi_settling.specs.Read.{constraints_read}
use Rattle.pi_settling.specs.Rounds.{solved}
use Rattle.pi_settling.specs.Assignments.{ComesBefore, AreAllBy}
use Rattle.pi_label_laws.specs.Made.{MayLabel}

-- what runs what waits does nothing where nothing waits
abbrev pub RunsWhatWaits : (ℕ → State → Trace State) → Type 0
RunsWhatWaits drains = (d : ℕ) (s : State) → s.waiting ≡ [] → drains d s ≡ one s

-- draining is so, whatever lower depths do
abbrev pub DrainingRunsWhatWaits : Type 0 → Type 0
DrainingRunsWhatWaits X = (lower : ℕ → Option (Lower X)) → RunsWhatWaits (λ d s. drained (lower d) s)

-- the items come to these integers in a state
abbrev pub AreTold : List Item → State → List ℤ → Type 0
AreTold items r values = map (root_item r) items ≡ map (λ i. Item.Int i) values

-- and to these in the answers of a trace, one list an answer
abbrev pub AnswersTell : List Item → Trace State → List (List ℤ) → Type 0
AnswersTell items t lists = map (λ r. map (root_item r) items) (answers t) ≡ map (λ values. map (λ i. Item.Int i) values) lists

-- The order of the answers: under `forward` by the places of the items, ascending or descending; else each is another one.
abbrev pub StandsBefore : VariableWord → ValueWord → List ℤ → List ℤ → Type 0
StandsBefore forward up is js = ComesBefore is js
StandsBefore forward down is js = ComesBefore js is
StandsBefore forward split is js = ComesBefore is js
StandsBefore forward reverse_split is js = ComesBefore js is
StandsBefore backward w is js = is ≢ js
StandsBefore ff w is js = is ≢ js

-- Without an objective the answers are exactly the assignments that extend to a solution, each once, in the order of the options.
abbrev pub LabellingGivesTheSolutions : Type 0
LabellingGivesTheSolutions = (p : Solving) (s : State) (words vars : Tree) → asked s words vars ≡ labels p.chosen_options p.items → p.chosen_options.objective ≡ None → SpeaksBelow (next s) vars →
    Settles p.settle → RunsWhatWaits p.drains → MayLabel s p.items →
    (d : ℕ) × (lists : List (List ℤ)) × (end_of (solved p d s) ≡ Done) × AnswersTell p.items (solved p d s) lists
    × AreAllBy (StandsBefore p.chosen_options.variable p.chosen_options.value) (confined s p.items) p.items lists

-- a call of `solve` as it is settled and read
abbrev pub call_of : (ℕ → State → Trace State) → Options → List Item → Solving
call_of drains o items = record { settle = settled; drains = drains; reading = constraints_read; chosen_options = o; items = items }

abbrev pub SolveGivesTheSolutions : Type 0
SolveGivesTheSolutions = (drains : ℕ → State → Trace State) (o : Options) (items : List Item) (s : State) (words vars : Tree) → asked s words vars ≡ labels o items → o.objective ≡ None → SpeaksBelow (next s) vars → RunsWhatWaits drains → MayLabel s items →
    (d : ℕ) × (lists : List (List ℤ)) × (end_of (solved (call_of drains o items) d s) ≡ Done) × AnswersTell items (solved (call_of drains o items) d s) lists × AreAllBy (StandsBefore o.variable o.value) (confined s items) items lists
