-- The right side of `::` and `notin`, as it is read from a store. (Own.)
use Rattle.std.specs.Prelude.{◌≡◌, ℤ, List, Option, Some, None, codes, Result, Ok, Err, Vec, ⊤}
use Rattle.std.specs.declared.alloc.Global.{Global}
use Rattle.pi_terms.specs.Tree.{Tree, comp, no_trees, tree}
use Rattle.pi_constraints.specs.declared.domain.Span.{Span}
use Rattle.pi_constraints.specs.State.{bindings}
use Rattle.pi_constraints.specs.Store.{Moment}
use Rattle.pi_constraints.specs.Value.{value}
use Rattle.pi_effects.specs.Answer.{Answer}
use Rattle.pi_effects.specs.Exception.{bad_range, range_too_long}
use Rattle.pi_effects.specs.declared.fault.Fault.{Fault}
use Rattle.pi_effects.specs.declared.fault.Stop.{Stop}
use Rattle.pi_prop_read.specs.Refs.{IsThere, value_at}
use Rattle.pi_settling.specs.RightSide.{right_side, listed, domain_too_wide}
use Rattle.pi_lib_constraints.specs.declared.shapes.Shape.{Shape}
use Rattle.pi_lib_constraints.specs.declared.values.SideStop.{SideStop}

-- the arguments of a range, or what is none
abbrev pub ShowsShape : Moment → Tree → Shape → Type 0
ShowsShape w t (Shape.Range a b) = (value (bindings w.state) t ≡ comp (codes "..") (tree (value_at w a) (tree (value_at w b) no_trees))) × IsThere w a × IsThere w b
ShowsShape w t (Shape.Steps a b d) =
    (value (bindings w.state) t ≡ comp (codes "..") (tree (value_at w a) (tree (value_at w b) (tree (value_at w d) no_trees)))) × IsThere w a × IsThere w b × IsThere w d
ShowsShape w t Shape.Other = right_side (value (bindings w.state) t) ≡ listed (value (bindings w.state) t)

-- what is raised in place of a domain
abbrev pub ball_of : SideStop → Option Tree
ball_of SideStop.TooWide = Some domain_too_wide
ball_of SideStop.NoStep = Some bad_range
ball_of SideStop.TooLong = Some range_too_long
ball_of SideStop.Memory = None

abbrev pub ShowsStop : Option Tree → Answer (List Span) → Type 0
ShowsStop None a = ⊤
ShowsStop (Some ball) a = a ≡ Err ball

abbrev pub ShowsJudged : Result (List Span) SideStop → Answer (List Span) → Type 0
ShowsJudged (Ok d) a = a ≡ Ok d
ShowsJudged (Err stop) a = ShowsStop (ball_of stop) a

abbrev pub stop_of : SideStop → Stop
stop_of SideStop.TooWide = Stop.Raised Fault.DomainTooWide
stop_of SideStop.NoStep = Stop.Raised Fault.BadRange
stop_of SideStop.TooLong = Stop.Raised Fault.RangeTooLong
stop_of SideStop.Memory = Stop.Memory

abbrev pub judged : Result (List Span) SideStop → Result (List Span) Stop
judged (Ok d) = Ok d
judged (Err stop) = Err (stop_of stop)

abbrev pub ShowsNumbers : Option (Vec ℤ Global) → Option (List ℤ) → Type 0
ShowsNumbers None o = o ≡ None
ShowsNumbers (Some found) o = o ≡ Some found.items
