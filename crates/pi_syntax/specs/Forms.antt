-- The names of goals that call nothing themselves: `not`, `once`, `:=` and `in`. (A User's Guide to Picat, 'Goals' and 'Operators'; that
-- these are no calls is own.)
use Rattle.std.specs.Prelude.{ℕ, Bool, ◌&&◌, ◌||◌, ◌==◌, List, codes}
use Rattle.std.specs.Str.{bytes_eq}

abbrev pub is_form : List ℕ → ℕ → Bool
is_form name arity =
    (arity == 1 && (bytes_eq name (codes "not") || bytes_eq name (codes "once")))
    || (arity == 2 && (bytes_eq name (codes ":=") || bytes_eq name (codes "in")))
