-- What is still to be done with truths, as readings, and what the code's turns show of them. (Own.)
use Rattle.std.specs.Prelude.{◌≡◌, ◌≢◌, ◌⊎◌, ⊤, ◌≤◌, ℤ, pos, List, [], ◌∷◌, ◌++◌, Option, Some, None, Result, Ok, Err}
use Rattle.pi_constraints.specs.declared.constraint.Item.{Item}
use Rattle.pi_constraints.specs.State.{next}
use Rattle.pi_constraints.specs.Store.{Moment}
use Rattle.pi_constraints.specs.declared.store.Ref.{Ref}
use Rattle.pi_prop_spec.specs.Steps.{Refusal, Made, Known, Reading, gives, after, then}
use Rattle.pi_prop_spec.specs.Truths.{truth_of_negation, truth_of_joined, read_truth}
use Rattle.pi_prop_made.specs.declared.making.Making.{Making}
use Rattle.pi_prop_made.specs.Making.{Shows}
use Rattle.pi_prop_read.specs.declared.operands.stop.OperandStop.{OperandStop}
use Rattle.pi_prop_read.specs.Refs.{IsThere}
use Rattle.pi_prop_read.specs.OperandFrames.{Refuses}
use Rattle.pi_prop_read.specs.declared.truths.frames.TruthFrame.{TruthFrame}
use Rattle.pi_prop_read.specs.declared.truths.frames.TruthTurn.{TruthTurn}
use Rattle.pi_prop_read.specs.declared.truths.frames.TruthNext.{TruthNext}
use Rattle.pi_prop_read.specs.TruthNodes.{connective_of, boolean_at}

-- 0 and 1 are their own truths, and no other integer is one
abbrev pub ShowsTruthNumber : Option Item → ℤ → Type 0
ShowsTruthNumber (Some x) i = (x ≡ Item.Int i) × ((i ≡ pos 0) ⊎ (i ≡ pos 1))
ShowsTruthNumber None i = (i ≢ pos 0) × (i ≢ pos 1)

-- a truth comes to what waits for it
abbrev pub come : Moment → TruthFrame → Item → Reading Item
come w (TruthFrame.Left k r) x = then (read_truth (boolean_at w r)) (truth_of_joined (connective_of k) x)
come w (TruthFrame.Right k x) y = truth_of_joined (connective_of k) x y
come w TruthFrame.Negation x = truth_of_negation x

-- and on through all that wait, of which the last one is the next
unfoldable pub back : Moment → List TruthFrame → Item → Reading Item
back w [] x = gives x
back w (f ∷ fs) x = then (back w fs x) (come w f)

-- ---- what is there

abbrev pub FrameIs : Moment → TruthFrame → Type 0
FrameIs w (TruthFrame.Left k r) = IsThere w r
FrameIs w (TruthFrame.Right k x) = ⊤
FrameIs w TruthFrame.Negation = ⊤

unfoldable pub FramesAre : Moment → List TruthFrame → Type 0
FramesAre w [] = ⊤
FramesAre w (f ∷ fs) = FrameIs w f × FramesAre w fs

abbrev pub TurnIs : Moment → TruthTurn → Type 0
TurnIs w (TruthTurn.Read r) = IsThere w r
TurnIs w (TruthTurn.Have x) = ⊤

abbrev pub turn_reading : Moment → TruthTurn → Reading Item
turn_reading w (TruthTurn.Read r) = read_truth (boolean_at w r)
turn_reading w (TruthTurn.Have x) = gives x

-- a turn goes on from what was made, and all of it comes to the whole
pub record IsTurn (w : Moment) (a : Making) (turn : TruthTurn) (fs : List TruthFrame) (whole : Result (Known Item) Refusal) : Type 0 where
  pub made : Made
  pub shown : Shows a made
  pub enough : next w.state ≤ made.unused
  pub frames : FramesAre w fs
  pub is_here : TurnIs w turn
  pub goes : after (turn_reading w turn made) (back w fs) ≡ whole

-- ---- what is answered

-- the whole is this, with what was made by then
pub record HasMade {A : Type 0} (w : Moment) (a : Making) (x : A) (whole : Result (Known A) Refusal) : Type 0 where
  pub made : Made
  pub is : whole ≡ Ok (record { what = x; made = made })
  pub shown : Shows a made
  pub enough : next w.state ≤ made.unused

abbrev pub ShowsTurn : Moment → Making → Result TruthTurn OperandStop → List TruthFrame → Result (Known Item) Refusal → Type 0
ShowsTurn w a (Ok turn) fs whole = IsTurn w a turn fs whole
ShowsTurn w a (Err stop) fs whole = Refuses w stop whole

abbrev pub ShowsNext : Moment → Making → Result TruthNext OperandStop → List TruthFrame → Result (Known Item) Refusal → Type 0
ShowsNext w a (Ok (TruthNext.Turn turn)) fs whole = IsTurn w a turn fs whole
ShowsNext w a (Ok (TruthNext.Done x)) fs whole = HasMade w a x whole
ShowsNext w a (Err stop) fs whole = Refuses w stop whole

abbrev pub ShowsMade : {A : Type 0} → Moment → Making → Result A OperandStop → Result (Known A) Refusal → Type 0
ShowsMade w a (Ok x) whole = HasMade w a x whole
ShowsMade w a (Err stop) whole = Refuses w stop whole

-- a turn comes next
abbrev pub next_turn : Result TruthTurn OperandStop → Result TruthNext OperandStop
next_turn (Ok turn) = Ok (TruthNext.Turn turn)
next_turn (Err stop) = Err stop

-- an expression is read, behind one more frame; memory may be wanted
abbrev pub ShowsWait : Result TruthTurn OperandStop → List TruthFrame → List TruthFrame → TruthFrame → Ref → Type 0
ShowsWait (Ok turn) old new f r = (turn ≡ TruthTurn.Read r) × (new ≡ old ++ f ∷ [])
ShowsWait (Err (OperandStop.NotLinear q)) old new f r = ⊥
ShowsWait (Err OperandStop.Wide) old new f r = ⊥
ShowsWait (Err OperandStop.Memory) old new f r = ⊤
