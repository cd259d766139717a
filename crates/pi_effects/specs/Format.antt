-- Formats of `printf`: a text in which `%w`, `%d` and `%s` stand for a term in plain form, for an integer and for a text, `%n` for a line feed and `%%`
-- for a `%` (A User's Guide to Picat, 'Input and Output'; which signs there are is own). A text is the list of its characters as atoms. The first fault
-- from the left is told: a sign that is none, one without an argument or with one of another kind, an argument behind the last sign, a term past the limit.
-- What isn't a text at all is no format either. (Own.)
use Rattle.std.specs.Prelude.{ℕ, ◌==◌, cond, Bool, true, false, List, [], ◌∷◌, ◌++◌, Ok, Err}
use Rattle.std.specs.Fmt.{signed_decimal}
use Rattle.std.specs.Str.{byte}
use Rattle.pi_terms.specs.Tree.{Tree, var, int, atom, comp}
use Rattle.pi_constraints.specs.Value.{value}
use Rattle.pi_constraints.specs.State.{State, bindings}
use Rattle.pi_syntax.specs.PrintTerm.{is_characters, characters, text_of}
use Rattle.pi_effects.specs.Exception.{bad_format}
use Rattle.pi_effects.specs.Answer.{Answer, measured}

-- how an argument is written
pub data Form : Type 0 where
  any_term : Form
  an_integer : Form
  a_text : Form

-- a piece of a format: a byte that is written as it is, an argument, or a sign that is none
pub data Piece : Type 0 where
  plain_byte : ℕ → Piece
  argument : Form → Piece
  no_sign : Piece

-- the sign with this letter
abbrev pub sign : ℕ → Piece
sign c =
    cond (c == byte "w") (argument any_term)
    (cond (c == byte "d") (argument an_integer)
    (cond (c == byte "s") (argument a_text)
    (cond (c == byte "n") (plain_byte (byte "\n"))
    (cond (c == byte "%") (plain_byte (byte "%")) no_sign))))

abbrev pub unless_percent : ℕ → List Piece → List Piece
unless_percent c ps = cond (c == byte "%") ps (plain_byte c ∷ ps)

-- the pieces of a format; at `true` a `%` stands before it
unfoldable pub pieces : List ℕ → Bool → List Piece
pieces [] false = []
pieces [] true = no_sign ∷ []
pieces (c ∷ cs) false = unless_percent c (pieces cs (c == byte "%"))
pieces (c ∷ cs) true = sign c ∷ pieces cs false

-- an argument's text; one of another kind raises this term
abbrev pub argument_text : Form → Tree → Tree → Answer (List ℕ)
argument_text any_term bad t = measured t (Ok (text_of false t))
argument_text an_integer bad (int i) = Ok (signed_decimal i)
argument_text an_integer bad (var n) = Err bad
argument_text an_integer bad (atom name) = Err bad
argument_text an_integer bad (comp name ts) = Err bad
argument_text a_text bad t = cond (is_characters t) (measured t (Ok (characters t))) (Err bad)

-- one text in front of another; what is raised first is raised
abbrev pub in_front : Answer (List ℕ) → Answer (List ℕ) → Answer (List ℕ)
in_front (Ok text) (Ok more) = Ok (text ++ more)
in_front (Ok text) (Err ball) = Err ball
in_front (Err ball) more = Err ball

-- pieces with the arguments that they take
unfoldable pub filled_in : State → Tree → List Piece → List Tree → Answer (List ℕ)
filled_in s bad [] [] = Ok []
filled_in s bad [] (t ∷ ts) = Err bad
filled_in s bad (plain_byte c ∷ ps) ts = in_front (Ok (c ∷ [])) (filled_in s bad ps ts)
filled_in s bad (argument form ∷ ps) [] = Err bad
filled_in s bad (argument form ∷ ps) (t ∷ ts) = in_front (argument_text form bad (value (bindings s) t)) (filled_in s bad ps ts)
filled_in s bad (no_sign ∷ ps) ts = Err bad

-- a format, which is a text, with its arguments
unfoldable pub formatted : State → Tree → List Tree → Answer (List ℕ)
formatted s format ts =
    let text : Tree = value (bindings s) format in
    let bad : Tree = bad_format format s in
    measured text (cond (is_characters text) (filled_in s bad (pieces (characters text) false) ts) (Err bad))
