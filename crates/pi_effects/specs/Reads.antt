-- Terms that are copied out of a store, and what it is that refuses it. (Own.)
use Rattle.std.specs.Prelude.{◌≡◌, ◌<◌, ◌≤◌, Option, Some, None}
use Rattle.pi_terms.specs.Tree.{Tree, cells, most_cells}
use Rattle.pi_terms.specs.Copy.{copy}
use Rattle.pi_constraints.specs.declared.store.ReadStop.{ReadStop}
use Rattle.pi_effects.specs.declared.fault.Fault.{Fault}
use Rattle.pi_effects.specs.declared.fault.Stop.{Stop}

-- a term past the limit raises `term_too_large`
abbrev pub stop_of : ReadStop → Stop
stop_of ReadStop.TooLarge = Stop.Raised Fault.TermTooLarge
stop_of ReadStop.Memory = Stop.Memory

-- a copy of a term with this value, or none where it is too large
abbrev pub IsCopied : Tree → Option Tree → Type 0
IsCopied u (Some x) = (x ≡ copy 0 u) × (cells u ≤ most_cells)
IsCopied u None = most_cells < cells u
