-- The views under which a machine runs.
use Rattle.std.specs.Prelude.{◌≡◌, pos, negsuc}
use Rattle.pi_meaning.specs.Shared.View.{View}
use Rattle.pi_meaning.specs.Shared.Within.{a_query, a_body}
use Rattle.pi_meaning.specs.declared.happening.Mode.{Mode}

-- A Top machine runs a query, and an Inner one the body of a planner call with so much of its limit left. That is a number from 0;
-- with a negative one no view fits.
abbrev pub Fits : Mode → View → Type 0
Fits Mode.Top v = v.within ≡ a_query
Fits (Mode.Inner (pos rest)) v = v.within ≡ a_body rest
Fits (Mode.Inner (negsuc n)) v = ⊥
