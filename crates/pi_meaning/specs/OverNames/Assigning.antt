-- What loops and assignments do with environments (A User's Guide to Picat, 'Assignments and Loops'). An environment is a finite map: of two entries with one name
-- the first one counts.
use Rattle.std.specs.Prelude.{ℕ, cond, List, [], ◌∷◌, filter}
use Rattle.std.specs.Str.{bytes_eq}
use Rattle.pi_terms.specs.Tree.{Tree}
use Rattle.pi_meaning.specs.OverNames.Environment.{Environment, known, Valued, name_valued}
use Rattle.pi_meaning.specs.OverNames.Place.{Place}
use Rattle.pi_meaning.specs.OverNames.Texts.{Names, is_among}

-- a name stands for another term from here on
unfoldable pub with_value : Environment → List ℕ → Tree → Environment
with_value [] name t = record { name = name; tree = t } ∷ []
with_value (m ∷ e) name t = cond (bytes_eq name m.name) (record { name = name; tree = t } ∷ e) (m ∷ with_value e name t)

-- the place behind a value
abbrev pub place_of : Valued → Place
place_of x = record { names = x.names; state = x.state }

-- each of these names that the environment lacks stands for a new variable, in their order
unfoldable pub with_names : Names → Place → Place
with_names [] p = p
with_names (name ∷ names) p = with_names names (place_of (name_valued (known name p.names) name p.names p.state))

-- what an environment has for these names
abbrev pub narrowed : Names → Environment → Environment
narrowed names e = filter (λ m. is_among names m.name) e

-- A place with these names alone: what is carried into a loop, and from the end of a turn into the next one.
abbrev pub carried : Names → Place → Place
carried names p = record { names = narrowed names p.names; state = p.state }
