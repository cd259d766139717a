-- What a step is as what comes next, and how `sum` begins. (Own.)
use Rattle.std.specs.Prelude.{◌≡◌, ⊤, List, [], ◌∷◌, ◌++◌, Result, Ok, Err}
use Rattle.pi_constraints.specs.Store.{Moment}
use Rattle.pi_constraints.specs.declared.store.Ref.{Ref}
use Rattle.pi_prop_spec.specs.PostingSums.{Sum}
use Rattle.pi_prop_spec.specs.Steps.{Refusal, Known, read_operand}
use Rattle.pi_prop_made.specs.declared.stop.SumStop.{SumStop}
use Rattle.pi_prop_made.specs.declared.making.Making.{Making}
use Rattle.pi_prop_read.specs.declared.operands.frames.Frame.{Frame}
use Rattle.pi_prop_read.specs.declared.operands.frames.Turn.{Turn}
use Rattle.pi_prop_read.specs.declared.operands.frames.Next.{Next}
use Rattle.pi_prop_read.specs.declared.operands.stop.OperandStop.{OperandStop}
use Rattle.pi_prop_read.specs.Refs.{IsThere}
use Rattle.pi_prop_read.specs.OperandNodes.{sum_at}
use Rattle.pi_prop_read.specs.OperandFrames.{IsAt}

abbrev pub next_turn : Result Turn OperandStop → Result Next OperandStop
next_turn (Ok turn) = Ok (Next.Turn turn)
next_turn (Err stop) = Err stop

abbrev pub next_of : Result Sum SumStop → Result Next OperandStop
next_of (Ok u) = Ok (Next.Turn (Turn.Have u))
next_of (Err SumStop.Wide) = Err OperandStop.Wide
next_of (Err SumStop.Memory) = Err OperandStop.Memory

-- an operand is read, behind one more frame; memory may be wanted
abbrev pub ShowsWait : Result Turn OperandStop → List Frame → List Frame → Frame → Ref → Type 0
ShowsWait (Ok turn) old new f r = (turn ≡ Turn.Read r) × (new ≡ old ++ f ∷ [])
ShowsWait (Err (OperandStop.NotLinear q)) old new f r = ⊥
ShowsWait (Err OperandStop.Wide) old new f r = ⊥
ShowsWait (Err OperandStop.Memory) old new f r = ⊤

-- the sum of the items of a Ref is to be read
abbrev pub BeginsSum : Moment → Making → Ref → List Frame → Result (Known Sum) Refusal → Type 0
BeginsSum w a q fs whole = IsAt w a (λ n. IsThere w q) (read_operand (sum_at w q)) fs whole
