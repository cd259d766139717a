-- Which words of labelling the options stand for, and which alternative a choice is.
use Rattle.std.specs.Prelude.{ℕ, List, cond, Option, Some, None, codes}
use Rattle.std.specs.Str.{bytes_eq}
use Rattle.pi_settling.specs.Options.{VariableWord as Picks, forward, backward, ff, ValueWord as Tries, up, down, split, reverse_split}
use Rattle.pi_settling.specs.Choices.{Alternative, is_value, at_most, above}
use Rattle.pi_label.specs.declared.options.VariableWord.{VariableWord}
use Rattle.pi_label.specs.declared.options.ValueWord.{ValueWord}
use Rattle.pi_label.specs.declared.alternatives.Choice.{Choice}

abbrev pub variable_word : VariableWord → Picks
variable_word VariableWord.Forward = forward
variable_word VariableWord.Backward = backward
variable_word VariableWord.Ff = ff

abbrev pub value_word : ValueWord → Tries
value_word ValueWord.Up = up
value_word ValueWord.Down = down
value_word ValueWord.Split = split
value_word ValueWord.ReverseSplit = reverse_split

abbrev pub alternative_of : Choice → Alternative
alternative_of (Choice.Is n) = is_value n
alternative_of (Choice.AtMost n) = at_most n
alternative_of (Choice.Above n) = above n

-- the words of a group, by name
abbrev pub picking_word : List ℕ → Option Picks
picking_word name = cond (bytes_eq name (codes "forward")) (Some forward) (cond (bytes_eq name (codes "backward")) (Some backward) (cond (bytes_eq name (codes "ff")) (Some ff) None))

abbrev pub trying_word : List ℕ → Option Tries
trying_word name =
    cond (bytes_eq name (codes "up")) (Some up) (cond (bytes_eq name (codes "down")) (Some down) (cond (bytes_eq name (codes "split")) (Some split) (cond (bytes_eq name (codes "reverse_split")) (Some reverse_split) None)))
