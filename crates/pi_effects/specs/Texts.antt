-- Texts of terms, and writing them (A User's Guide to Picat, 'Input and Output'; the forms and the limit are own). A term past the limit is raised as too
-- large before its text is made; what is made isn't measured.
use Rattle.std.specs.Prelude.{ℕ, Bool, true, false, List, [], ◌∷◌, ◌++◌, map, codes, Ok}
use Rattle.std.specs.Char.{encode_utf8}
use Rattle.std.specs.Str.{chars}
use Rattle.pi_terms.specs.Tree.{Tree, atom}
use Rattle.pi_constraints.specs.Value.{value}
use Rattle.pi_constraints.specs.State.{State, bindings}
use Rattle.pi_syntax.specs.PrintTerm.{text_of}
use Rattle.pi_effects.specs.Answer.{Answer, measured}
use Rattle.pi_effects.specs.Items.{list_of}
use Rattle.pi_effects.specs.Format.{formatted}
use Rattle.pi_effects.specs.Rows.{of_none, of_one, of_many, Row, line}

-- the plain form is the one without quotes
abbrev pub plain : Bool
plain = false

abbrev pub quoted : Bool
quoted = true

abbrev pub line_feed : List ℕ
line_feed = codes "\n"

-- the text of a term's value, and what stands behind it
abbrev pub text_before : Bool → List ℕ → State → Tree → Answer (List ℕ)
text_before form behind s t = measured (value (bindings s) t) (Ok (text_of form (value (bindings s) t) ++ behind))

-- a text is the list of its characters as atoms
abbrev pub text_list : List ℕ → Tree
text_list text = list_of (map (λ c. atom (encode_utf8 c)) (chars text))

abbrev pub plain_text_list : State → Tree → Answer Tree
plain_text_list s t = measured (value (bindings s) t) (Ok (text_list (text_of plain (value (bindings s) t))))

unfoldable pub text_functions : List (Row (Answer Tree))
text_functions = line (codes "to_string") (of_one plain_text_list) ∷ []

-- what is written
unfoldable pub writing_predicates : List (Row (Answer (List ℕ)))
writing_predicates =
    line (codes "print") (of_one (text_before plain [])) ∷
    line (codes "println") (of_one (text_before plain line_feed)) ∷
    line (codes "write") (of_one (text_before quoted [])) ∷
    line (codes "writeln") (of_one (text_before quoted line_feed)) ∷
    line (codes "nl") (of_none (λ s. Ok line_feed)) ∷
    line (codes "printf") (of_many 16 formatted) ∷
    []
