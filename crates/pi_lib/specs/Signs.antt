-- Signs of formats as pieces, for the private functions of this crate.
use Rattle.std.specs.Prelude.{ℕ, Option, Some, None}
use Rattle.pi_effects.specs.Format.{Form, any_term, an_integer, a_text, Piece, plain_byte, argument, no_sign, sign}
use Rattle.pi_lib.specs.declared.signs.Form.{Form as FormCode}
use Rattle.pi_lib.specs.declared.signs.Sign.{Sign}

abbrev pub form_of : FormCode → Form
form_of FormCode.Term = any_term
form_of FormCode.Integer = an_integer
form_of FormCode.Text = a_text

abbrev pub piece_of : Sign → Piece
piece_of (Sign.Argument form) = argument (form_of form)
piece_of Sign.LineFeed = plain_byte 10
piece_of Sign.Percent = plain_byte 37
piece_of Sign.Unknown = no_sign

-- the piece that a letter behind a `%` stands for, and the end of a format
abbrev pub letter_piece : Option ℕ → Piece
letter_piece None = no_sign
letter_piece (Some c) = sign c
