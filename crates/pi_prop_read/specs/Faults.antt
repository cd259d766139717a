-- What `read_constraint` answers: the posting of a term, or its first refusal. A wrong term that is too large isn't told. (Own.)
use Rattle.std.specs.Prelude.{◌≡◌, ⊤, ◌<◌, ◌≤◌, Result, Ok, Err}
use Rattle.pi_terms.specs.Tree.{Tree, cells, most_cells}
use Rattle.pi_prop_spec.specs.Steps.{Refusal, not_a_constraint, too_many_terms, wide_coefficient}
use Rattle.pi_prop_spec.specs.Postings.{Posting as PostingOf}
use Rattle.pi_constraints.specs.Store.{Moment}
use Rattle.pi_prop_read.specs.declared.operands.stop.OperandStop.{OperandStop}
use Rattle.pi_prop_read.specs.Refs.{IsThere, value_at}
use Rattle.pi_prop_made.specs.declared.posting.Posting.{Posting}
use Rattle.pi_prop_made.specs.Finished.{posting_as}
use Rattle.pi_prop_read.specs.declared.reading.ConFault.{ConFault}

abbrev pub ShowsFault : ConFault → Result PostingOf Refusal → Type 0
ShowsFault (ConFault.NotLinear t) o = (o ≡ Err (not_a_constraint t)) × (cells t ≤ most_cells)
ShowsFault ConFault.TooManyTerms o = o ≡ Err too_many_terms
ShowsFault ConFault.WideCoefficient o = o ≡ Err wide_coefficient
ShowsFault ConFault.TooLarge o = (t : Tree) × (o ≡ Err (not_a_constraint t)) × (most_cells < cells t)
ShowsFault ConFault.Memory o = ⊤

abbrev pub ShowsPosting : Result Posting ConFault → Result PostingOf Refusal → Type 0
ShowsPosting (Ok p) o = o ≡ Ok (posting_as p)
ShowsPosting (Err fault) o = ShowsFault fault o

-- what stopped a reading
abbrev pub Stops : Moment → OperandStop → Result PostingOf Refusal → Type 0
Stops w (OperandStop.NotLinear r) o = IsThere w r × (o ≡ Err (not_a_constraint (value_at w r)))
Stops w OperandStop.Wide o = o ≡ Err wide_coefficient
Stops w OperandStop.Memory o = ⊤
