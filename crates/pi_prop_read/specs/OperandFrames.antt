-- What is still to be done, as readings, and what the code's turns show of them. (Own.)
use Rattle.std.specs.Prelude.{◌≡◌, ⊤, ℕ, ◌≤◌, List, [], ◌∷◌, ◌++◌, Result, Ok, Err}
use Rattle.pi_constraints.specs.State.{next}
use Rattle.pi_constraints.specs.Store.{Moment}
use Rattle.pi_constraints.specs.declared.store.Ref.{Ref}
use Rattle.pi_prop_spec.specs.PostingSums.{Sum, added, opposite, difference}
use Rattle.pi_prop_spec.specs.Steps.{Refusal, not_a_constraint, wide_coefficient, Made, Known, Reading, gives, after, then, step, product, absolute_sum, read_operand}
use Rattle.pi_prop_made.specs.declared.stop.SumStop.{SumStop}
use Rattle.pi_prop_made.specs.declared.making.Making.{Making}
use Rattle.pi_prop_made.specs.Making.{Shows, AllBelow}
use Rattle.pi_prop_read.specs.declared.operands.node.Binary.{Binary}
use Rattle.pi_prop_read.specs.declared.operands.node.Unary.{Unary}
use Rattle.pi_prop_read.specs.declared.operands.frames.Frame.{Frame}
use Rattle.pi_prop_read.specs.declared.operands.frames.Turn.{Turn}
use Rattle.pi_prop_read.specs.declared.operands.frames.Next.{Next}
use Rattle.pi_prop_read.specs.declared.operands.stop.OperandStop.{OperandStop}
use Rattle.pi_prop_read.specs.Refs.{IsThere, value_at, operand_at}

-- the step of a node, once the sums of its sides are there
abbrev pub combined : Binary → Sum → Sum → Reading Sum
combined Binary.Plus u v = step (added u v)
combined Binary.Minus u v = step (difference u v)
combined Binary.Times u v = then (product u v) step

abbrev pub changed : Unary → Sum → Reading Sum
changed Unary.Positive u = step u
changed Unary.Negative u = step (opposite u)
changed Unary.Absolute u = then (absolute_sum u) step

-- a sum comes to what waits for it
abbrev pub come : Moment → Frame → Sum → Reading Sum
come w (Frame.Left o r) u = then (read_operand (operand_at w r)) (combined o u)
come w (Frame.Right o u) v = combined o u v
come w (Frame.Under o) u = changed o u

-- and on through all that wait, of which the last one is the next
unfoldable pub back : Moment → List Frame → Sum → Reading Sum
back w [] u = gives u
back w (f ∷ fs) u = then (back w fs u) (come w f)

-- the items of `sum`, each of which is added to what comes; the first one is the next
unfoldable pub stacked : List Ref → List Frame
stacked [] = []
stacked (r ∷ rs) = stacked rs ++ Frame.Left Binary.Plus r ∷ []

-- ---- what is there

-- the Refs and the sums that wait
abbrev pub FrameIs : Moment → ℕ → Frame → Type 0
FrameIs w n (Frame.Left o r) = IsThere w r
FrameIs w n (Frame.Right o u) = AllBelow n u.terms
FrameIs w n (Frame.Under o) = ⊤

unfoldable pub FramesAre : Moment → ℕ → List Frame → Type 0
FramesAre w n [] = ⊤
FramesAre w n (f ∷ fs) = FrameIs w n f × FramesAre w n fs

-- Refs that are there
unfoldable pub AreThere : Moment → List Ref → Type 0
AreThere w [] = ⊤
AreThere w (r ∷ rs) = IsThere w r × AreThere w rs

abbrev pub TurnIs : Moment → Turn → ℕ → Type 0
TurnIs w (Turn.Read r) n = IsThere w r
TurnIs w (Turn.Have u) n = AllBelow n u.terms

abbrev pub turn_reading : Moment → Turn → Reading Sum
turn_reading w (Turn.Read r) = read_operand (operand_at w r)
turn_reading w (Turn.Have u) = gives u

-- a reading goes on from what was made, and all of it comes to the whole
pub record IsAt (w : Moment) (a : Making) (here : ℕ → Type 0) (r : Reading Sum) (fs : List Frame) (whole : Result (Known Sum) Refusal) : Type 0 where
  pub made : Made
  pub shown : Shows a made
  pub enough : next w.state ≤ made.unused
  pub frames : FramesAre w made.unused fs
  pub is_here : here made.unused
  pub goes : after (r made) (back w fs) ≡ whole

abbrev pub IsTurn : Moment → Making → Turn → List Frame → Result (Known Sum) Refusal → Type 0
IsTurn w a turn fs whole = IsAt w a (TurnIs w turn) (turn_reading w turn) fs whole

-- ---- what is answered

-- the whole is this sum, with what was made by then
pub record HasRead (w : Moment) (a : Making) (u : Sum) (whole : Result (Known Sum) Refusal) : Type 0 where
  pub made : Made
  pub is : whole ≡ Ok (record { what = u; made = made })
  pub shown : Shows a made
  pub enough : next w.state ≤ made.unused
  pub below : AllBelow made.unused u.terms

-- the whole is refused; memory may be wanted at any time
abbrev pub Refuses : {A : Type 0} → Moment → OperandStop → Result (Known A) Refusal → Type 0
Refuses w (OperandStop.NotLinear r) whole = IsThere w r × (whole ≡ Err (not_a_constraint (value_at w r)))
Refuses w OperandStop.Wide whole = whole ≡ Err wide_coefficient
Refuses w OperandStop.Memory whole = ⊤

abbrev pub ShowsTurn : Moment → Making → Result Turn OperandStop → List Frame → Result (Known Sum) Refusal → Type 0
ShowsTurn w a (Ok turn) fs whole = IsTurn w a turn fs whole
ShowsTurn w a (Err stop) fs whole = Refuses w stop whole

abbrev pub ShowsNext : Moment → Making → Result Next OperandStop → List Frame → Result (Known Sum) Refusal → Type 0
ShowsNext w a (Ok (Next.Turn turn)) fs whole = IsTurn w a turn fs whole
ShowsNext w a (Ok (Next.Done u)) fs whole = HasRead w a u whole
ShowsNext w a (Err stop) fs whole = Refuses w stop whole

abbrev pub ShowsOperand : Moment → Making → Result Sum OperandStop → Result (Known Sum) Refusal → Type 0
ShowsOperand w a (Ok u) whole = HasRead w a u whole
ShowsOperand w a (Err stop) whole = Refuses w stop whole

-- a step as a turn
abbrev pub turn_of : Result Sum SumStop → Result Turn OperandStop
turn_of (Ok u) = Ok (Turn.Have u)
turn_of (Err SumStop.Wide) = Err OperandStop.Wide
turn_of (Err SumStop.Memory) = Err OperandStop.Memory
