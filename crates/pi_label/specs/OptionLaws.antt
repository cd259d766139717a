-- What a call of `solve` asks for, by the reading of its options.
use Rattle.std.specs.Prelude.{◌≡◌, nat_lt, cond}
use Rattle.pi_terms.specs.Tree.{Tree, cells, most_cells}
use Rattle.pi_constraints.specs.Value.{value}
use Rattle.pi_constraints.specs.State.{State, bindings}
use Rattle.pi_effects.specs.Exception.{term_too_large}
use Rattle.pi_settling.specs.Asked.{raises, with_options, asked}
use Rattle.pi_label.specs.Reads.{options_in}

-- options that are too large are told first, and then what the reading of them comes to
abbrev pub CallsGoByOptions : Type 0
CallsGoByOptions = (s : State) (words vars : Tree) → asked s words vars ≡ cond (nat_lt most_cells (cells (value (bindings s) words))) (raises term_too_large) (with_options s vars (options_in (bindings s) words))
