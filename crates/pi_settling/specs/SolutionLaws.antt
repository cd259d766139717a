-- Labelling gives exactly the solutions: what is promised of its answers, as statements that aren't proved here. (Own.)
use Rattle.std.specs.Prelude.{◌≡◌, ◌⊎◌, ◌↔◌, ◌≢◌, ℕ, ◌<◌, ℤ, pos, ◌<ℤ◌, Bool, true, false, List, [], ◌∷◌, ◌++◌, map, Some, None, Contains}
use Rattle.pi_terms.specs.Tree.{Tree, int}
use Rattle.pi_terms.specs.Places.{held}
use Rattle.pi_constraints.specs.declared.constraint.Rel.{Rel}
use Rattle.pi_constraints.specs.declared.constraint.Item.{Item}
use Rattle.pi_constraints.specs.declared.constraint.Constraint.{Constraint}
use Rattle.pi_prop_spec.specs.Places.{places_of, sum_places}
use Rattle.pi_traces.specs.Trace.{Trace, Done, one, answers, end_of}
use Rattle.pi_constraints.specs.State.{State, bindings, next, SpeaksBelow, IsState}
use Rattle.pi_settling.specs.Roots.{root_item}
use Rattle.pi_settling.specs.Stable.{IsStable}
use Rattle.pi_settling.specs.SettlingLaws.{MaySettle, Settles}
use Rattle.pi_settling.specs.Options.{VariableWord, forward, backward, ff, ValueWord, up, down, split, reverse_split, Objective}
use Rattle.pi_settling.specs.Confined.{confined}
use Rattle.pi_settling.specs.Asked.{asked, labels}
use Rattle.pi_settling.specs.Reading.{Sum, reads, Solving}
use Rattle.pi_settling.specs.Rounds.{better_sign, worth, solved}
use Rattle.pi_settling.specs.Assignments.{Extends, ComesBefore, AreAllBy}

-- ---- what may be labelled

-- A constraint makes a variable's value out of those of other items, as the reading of products, of absolute values, of their sides and of truths posts it.
pub data Makes (n : ℕ) : Constraint → List Item → Type 0 where
  a_product : (x y : Item) → Makes n (Constraint.Product (Item.Var n) x y) (x ∷ y ∷ [])
  an_absolute : (x : Item) → Makes n (Constraint.Absolute (Item.Var n) x) (x ∷ [])
  a_side : (before behind : List (ℤ × ℕ)) (constant : ℤ) → Makes n (Constraint.Linear Rel.Equal (before ++ (pos 1, n) ∷ behind) constant) (sum_places (before ++ behind))
  a_truth : (rel : Rel) (terms : List (ℤ × ℕ)) (constant : ℤ) → Makes n (Constraint.Reified (Item.Var n) rel terms constant) (sum_places terms)

-- an unbound variable of the call, or one that the reading of a constraint made out of integers and variables of lower ranks
pub data IsKnown (s : State) (items : List Item) (rank : ℕ → ℕ) (n : ℕ) : Type 0 where
  of_call : (x : Item) → Contains items x → root_item s x ≡ Item.Var n → IsKnown s items rank n
  by_reading : (m : ℕ) (c : Constraint) (others : List Item) → Contains s.constraints c → Makes m c others → root_item s (Item.Var m) ≡ Item.Var n →
      ((y : Item) (k : ℕ) → Contains others y → root_item s y ≡ Item.Var k → rank k < rank n) → IsKnown s items rank n

-- a stable state without agents, in which each unbound variable of a posted constraint is one of these
pub record MayLabel (s : State) (items : List Item) : Type 0 where
  pub state : IsState s
  pub settles : MaySettle s
  pub stable : IsStable s s
  pub agents : s.agents ≡ []
  pub waiting : s.waiting ≡ []
  pub rank : ℕ → ℕ
  pub known : (c : Constraint) (y : Item) (n : ℕ) → Contains s.constraints c → Contains (places_of c) y → root_item s y ≡ Item.Var n → IsKnown s items rank n

-- what runs what waits does nothing where nothing waits
abbrev pub RunsWhatWaits : (ℕ → State → Trace State) → Type 0
RunsWhatWaits drains = (d : ℕ) (s : State) → s.waiting ≡ [] → drains d s ≡ one s

-- ---- what the answers are

-- the items come to these integers in a state
abbrev pub AreTold : List Item → State → List ℤ → Type 0
AreTold items r values = map (root_item r) items ≡ map (λ i. Item.Int i) values

-- and to these in the answers of a trace, one list an answer
abbrev pub AnswersTell : List Item → Trace State → List (List ℤ) → Type 0
AnswersTell items t lists = map (λ r. map (root_item r) items) (answers t) ≡ map (λ values. map (λ i. Item.Int i) values) lists

-- The order of the answers: under `forward` by the places of the items, ascending or descending; else each is another one.
abbrev pub StandsBefore : VariableWord → ValueWord → List ℤ → List ℤ → Type 0
StandsBefore forward up is js = ComesBefore is js
StandsBefore forward down is js = ComesBefore js is
StandsBefore forward split is js = ComesBefore is js
StandsBefore forward reverse_split is js = ComesBefore js is
StandsBefore backward w is js = is ≢ js
StandsBefore ff w is js = is ≢ js

-- Without an objective the answers are exactly the assignments that extend to a solution, each once, in the order of the options.
abbrev pub LabellingGivesTheSolutions : Type 0
LabellingGivesTheSolutions = (p : Solving) (s : State) (words vars : Tree) → asked s words vars ≡ labels p.chosen_options p.items → p.chosen_options.objective ≡ None → SpeaksBelow (next s) vars →
    Settles p.settle → RunsWhatWaits p.drains → MayLabel s p.items →
    (d : ℕ) × (lists : List (List ℤ)) × (end_of (solved p d s) ≡ Done) × AnswersTell p.items (solved p d s) lists
    × AreAllBy (StandsBefore p.chosen_options.variable p.chosen_options.value) (confined s p.items) p.items lists

-- ---- with an objective

-- the assignments of a call
abbrev pub IsAssignment : Solving → State → List ℤ → Type 0
IsAssignment p s values = Extends (confined s p.items) p.items values

-- more is posted in the second state, which leaves just those assignments of which this is true, and which may be labelled once it is settled
pub record PostsMore (p : Solving) (s q : State) (leaves : List ℤ → Type 0) : Type 0 where
  pub kept : (values : List ℤ) → IsAssignment p q values ↔ (IsAssignment p s values × leaves values)
  pub state : IsState q
  pub settles : MaySettle q
  pub may_label : (r : State) → IsStable q r → MayLabel r p.items

-- a value is better than another one
abbrev pub IsBetter : Bool → ℤ → ℤ → Type 0
IsBetter false i j = i <ℤ j
IsBetter true i j = j <ℤ i

-- The expression's variables are among the items and nothing is raised: each assignment gives it a value, which it has in each later state where the items come to that. The reading
-- posts what loses no assignment, so the values of its new variables lie within the bounds for each; and that the value is to be better leaves those that give a better one.
pub record IsReadRightly (p : Solving) (o : Objective) (s : State) (value : List ℤ → ℤ) : Type 0 where
  pub first : (q : State) × (sum : Sum) × (p.reading.operand o.expression s ≡ reads q sum) × PostsMore p s q (λ values. Unit {0})
  pub later : (found : List ℤ) → IsAssignment p s found →
      (q : State) × (p.reading.relation (better_sign o.greatest) o.expression (int (value found)) s ≡ one q) × PostsMore p s q (λ values. IsBetter o.greatest (value values) (value found))
  pub worth_is : (r : State) (values : List ℤ) → IsState r → ((n : ℕ) (u : Tree) → held (bindings s) n ≡ Some u → held (bindings r) n ≡ Some u) →
      IsAssignment p s values → AreTold p.items r values → worth p o r ≡ Some (value values)

-- the one answer is an assignment than which none is better, and there is no answer exactly where there is no assignment
abbrev pub IsBestAnswer : Solving → Objective → State → (List ℤ → ℤ) → Trace State → Type 0
IsBestAnswer p o s value t =
    ((answers t ≡ []) × ((values : List ℤ) → IsAssignment p s values → ⊥))
    ⊎ ((r : State) × (values : List ℤ) × (answers t ≡ r ∷ []) × AreTold p.items r values × IsAssignment p s values
    × ((others : List ℤ) → IsAssignment p s others → IsBetter o.greatest (value others) (value values) → ⊥))

abbrev pub ObjectiveGivesTheBest : Type 0
ObjectiveGivesTheBest = (p : Solving) (o : Objective) (s : State) (words vars : Tree) (value : List ℤ → ℤ) → asked s words vars ≡ labels p.chosen_options p.items → p.chosen_options.objective ≡ Some o →
    SpeaksBelow (next s) vars → Settles p.settle → RunsWhatWaits p.drains → MayLabel s p.items → IsReadRightly p o s value →
    (d : ℕ) × (end_of (solved p d s) ≡ Done) × IsBestAnswer p o s value (solved p d s)
