-- Labelling with an objective gives the best of the solutions: what is promised of its answer. (Own.)
use Rattle.std.specs.Prelude.{◌≡◌, ◌⊎◌, ◌↔◌, ℕ, ◌<◌, ◌≤◌, ℤ, pos, ◌<ℤ◌, Bool, true, false, cond, List, [], ◌∷◌, Some, None, Ok}
use Rattle.pi_terms.specs.Tree.{Tree, int}
use Rattle.pi_terms.specs.Places.{held}
use Rattle.pi_constraints.specs.declared.constraint.Item.{Item}
use Rattle.pi_constraints.specs.State.{State, bindings, next, SpeaksBelow, IsState}
use Rattle.pi_traces.specs.Trace.{Trace, Done, Raise, end, one, answers, end_of}
use Rattle.pi_constraints.specs.Domain.{IsWithinBounds}
use Rattle.pi_constraints.specs.Value.{value}
use Rattle.pi_prop_spec.specs.Terms.{operand_of}
use Rattle.pi_prop_spec.specs.PostingSums as Sums
use Rattle.pi_prop_spec.specs.Steps.{Known, read_operand}
use Rattle.pi_prop_spec.specs.Says.{operand_value, AllHold, AgreeBelow}
use Rattle.pi_prop_spec.specs.Postings.{nothing_made}
use Rattle.pi_settling.specs.Roots.{root_item}
use Rattle.pi_settling.specs.Stable.{IsStable}
use Rattle.pi_settling.specs.Solves.{Solves}
use Rattle.pi_settling.specs.Settle.{is_variable}
use Rattle.pi_settling.specs.SettlingLaws.{MaySettle, Settles}
use Rattle.pi_settling.specs.Options.{Options, Objective}
use Rattle.pi_settling.specs.Confined.{confined}
use Rattle.pi_settling.specs.Asked.{asked, labels}
use Rattle.pi_settling.specs.Reading.{Sum, reads, refuses, Solving}
use Rattle.pi_settling.specs.Rounds.{better_sign, worth, solved}
use Rattle.pi_settling.specs.Assignments.{Extends}
use Rattle.pi_label_laws.specs.Made.{MayLabel}
use Rattle.pi_label_laws.specs.LabelledLaws.{AreAmong}
use Rattle.pi_label_laws.specs.SolutionLaws.{RunsWhatWaits, AreTold, call_of}

-- the assignments of a call
abbrev pub IsAssignment : State → List Item → List ℤ → Type 0
IsAssignment s items values = Extends (confined s items) items values

-- More is posted in the second state, over the same bindings, which leaves just those assignments of which this is true; and once it is settled it may be labelled.
pub record PostsMore (s q : State) (items : List Item) (leaves : List ℤ → Type 0) : Type 0 where
  pub state : IsState q
  pub settles : MaySettle q
  pub more : next s ≤ next q
  pub same : (n : ℕ) → held (bindings q) n ≡ held (bindings s) n
  pub kept : (values : List ℤ) → IsAssignment q items values ↔ (IsAssignment s items values × leaves values)
  pub may_label : (r : State) → IsStable q r → MayLabel r items

-- a value is better than another one
abbrev pub IsBetter : Bool → ℤ → ℤ → Type 0
IsBetter false i j = i <ℤ j
IsBetter true i j = j <ℤ i

-- What isn't refused is read rightly: the expression's reading posts what loses no assignment; that its value is to be better leaves those that give a better one; and where the items come to an
-- assignment in a later state it is read to the value that this gives it.
pub record IsReadRightly (p : Solving) (o : Objective) (s : State) (value : List ℤ → ℤ) : Type 0 where
  pub first : ((ball : Tree) × (p.reading.operand o.expression s ≡ refuses ball))
      ⊎ ((q : State) × (sum : Sum) × (p.reading.operand o.expression s ≡ reads q sum) × PostsMore s q p.items (λ values. Unit {0}))
  pub later : (found : List ℤ) → IsAssignment s p.items found →
      ((ball : Tree) × (p.reading.relation (better_sign o.greatest) o.expression (int (value found)) s ≡ end (Raise ball)))
      ⊎ ((q : State) × (p.reading.relation (better_sign o.greatest) o.expression (int (value found)) s ≡ one q) × PostsMore s q p.items (λ values. IsBetter o.greatest (value values) (value found)))
  pub worth_is : (r : State) (values : List ℤ) → IsState r → ((n : ℕ) (u : Tree) → held (bindings s) n ≡ Some u → held (bindings r) n ≡ Some u) →
      IsAssignment s p.items values → AreTold p.items r values → (worth p o r ≡ None) ⊎ (worth p o r ≡ Some (value values))

-- nothing is raised at any depth
abbrev pub NothingIsRaised : Solving → State → Type 0
NothingIsRaised p s = (d : ℕ) (ball : Tree) → end_of (solved p d s) ≡ Raise ball → ⊥

-- the one answer is an assignment than which none is better, and there is no answer exactly where there is no assignment
abbrev pub IsBestAnswer : List Item → Objective → State → (List ℤ → ℤ) → Trace State → Type 0
IsBestAnswer items o s value t =
    ((answers t ≡ []) × ((values : List ℤ) → IsAssignment s items values → ⊥))
    ⊎ ((r : State) × (values : List ℤ) × (answers t ≡ r ∷ []) × AreTold items r values × IsAssignment s items values
    × ((others : List ℤ) → IsAssignment s items others → IsBetter o.greatest (value others) (value values) → ⊥))

-- With an objective whose expression is read rightly, and where nothing is raised, the one answer is a best assignment.
abbrev pub ObjectiveGivesTheBest : Type 0
ObjectiveGivesTheBest = (p : Solving) (o : Objective) (s : State) (words vars : Tree) (value : List ℤ → ℤ) → asked s words vars ≡ labels p.chosen_options p.items → p.chosen_options.objective ≡ Some o →
    SpeaksBelow (next s) vars → Settles p.settle → RunsWhatWaits p.drains → MayLabel s p.items → IsReadRightly p o s value → NothingIsRaised p s →
    (d : ℕ) × (end_of (solved p d s) ≡ Done) × IsBestAnswer p.items o s value (solved p d s)

-- ---- of a call as it is settled and read

-- the value that values of the items give a variable: that of the first item which comes to it
unfoldable pub value_by : State → List Item → List ℤ → ℕ → ℤ
value_by s [] values n = pos 0
value_by s (x ∷ items) [] n = pos 0
value_by s (x ∷ items) (i ∷ values) n = cond (is_variable n (root_item s x)) i (value_by s items values n)

-- the value of an expression where the items have these
abbrev pub expression_value : State → List Item → Tree → List ℤ → ℤ
expression_value s items t values = operand_value (value_by s items values) (operand_of (value (bindings s) t))

-- the values that the reading of the expression gives its new variables lie within the bounds, for each assignment
abbrev pub NewValuesFit : State → List Item → Tree → Type 0
NewValuesFit s items t = (k : Known Sums.Sum) → read_operand (operand_of (value (bindings s) t)) (nothing_made (next s)) ≡ Ok k → (a b : ℕ → ℤ) → Solves (confined s items) a → AgreeBelow (next s) a b → AllHold k.made.constraints b →
    (m : ℕ) → next s ≤ m → m < k.made.unused → IsWithinBounds (b m)

-- constraints are read rightly
abbrev pub ReadingIsRight : Type 0
ReadingIsRight = (drains : ℕ → State → Trace State) (chosen : Options) (items : List Item) (o : Objective) (s : State) (words vars : Tree) → asked s words vars ≡ labels chosen items → SpeaksBelow (next s) vars → SpeaksBelow (next s) o.expression →
    MayLabel s items → AreAmong s items o.expression → NewValuesFit s items o.expression → IsReadRightly (call_of drains chosen items) o s (expression_value s items o.expression)

-- So the one answer is an assignment that gives the expression a best value, and there is none exactly where there is no assignment.
abbrev pub SolveGivesTheBest : Type 0
SolveGivesTheBest = (drains : ℕ → State → Trace State) (chosen : Options) (items : List Item) (o : Objective) (s : State) (words vars : Tree) → asked s words vars ≡ labels chosen items → chosen.objective ≡ Some o →
    SpeaksBelow (next s) words → SpeaksBelow (next s) vars → RunsWhatWaits drains → MayLabel s items → AreAmong s items o.expression → NewValuesFit s items o.expression → NothingIsRaised (call_of drains chosen items) s →
    (d : ℕ) × (end_of (solved (call_of drains chosen items) d s) ≡ Done) × IsBestAnswer items o s (expression_value s items o.expression) (solved (call_of drains chosen items) d s)
