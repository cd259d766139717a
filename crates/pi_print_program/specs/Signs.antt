-- Which calls are signs: those that the grammar reads as a sign between two operands, or before one, with the sign as name. A sign
-- that is read as another one, as `<=`, `#<=` and `div`, is no call's name by the grammar. (A User's Guide to Picat, 'Operators';
-- this choice of them is own.)
use Rattle.std.specs.Prelude.{ℕ, Bool, ◌&&◌, ◌||◌, ◌==◌, List, [], ◌∷◌, codes}
use Rattle.pi_syntax.specs.Tokens.{is_one_of}

-- the signs between two operands
abbrev pub two_place_signs : List (List ℕ)
two_place_signs =
    codes "#<=>" ∷ codes "#=>" ∷ codes "#\\/" ∷ codes "#^" ∷ codes "#/\\" ∷ codes "=" ∷ codes "!=" ∷ codes "==" ∷ codes "!==" ∷ codes "=:="
    ∷ codes "=\\=" ∷ codes "<" ∷ codes "=<" ∷ codes ">" ∷ codes ">=" ∷ codes "@<" ∷ codes "@=<" ∷ codes "@>" ∷ codes "@>=" ∷ codes ":="
    ∷ codes "::" ∷ codes "in" ∷ codes "notin" ∷ codes "#=" ∷ codes "#!=" ∷ codes "#<" ∷ codes "#=<" ∷ codes "#>" ∷ codes "#>="
    ∷ codes "\\/" ∷ codes "^" ∷ codes "/\\" ∷ codes ">>" ∷ codes "<<" ∷ codes "+" ∷ codes "-" ∷ codes "++" ∷ codes "*" ∷ codes "//"
    ∷ codes "/>" ∷ codes "/<" ∷ codes "mod" ∷ codes "rem" ∷ codes "**" ∷ []

-- the words before one operand, and the other signs there
abbrev pub prefix_words : List (List ℕ)
prefix_words = codes "not" ∷ codes "once" ∷ []

abbrev pub prefix_signs : List (List ℕ)
prefix_signs = codes "-" ∷ codes "+" ∷ codes "~" ∷ codes "#~" ∷ []

unfoldable pub is_two_place : List ℕ → ℕ → Bool
is_two_place name arity = arity == 2 && is_one_of two_place_signs name

unfoldable pub is_prefix_word : List ℕ → ℕ → Bool
is_prefix_word name arity = arity == 1 && is_one_of prefix_words name

unfoldable pub is_prefix_sign : List ℕ → ℕ → Bool
is_prefix_sign name arity = arity == 1 && is_one_of prefix_signs name

-- any of these
abbrev pub is_sign : List ℕ → ℕ → Bool
is_sign name arity = is_two_place name arity || (is_prefix_word name arity || is_prefix_sign name arity)
