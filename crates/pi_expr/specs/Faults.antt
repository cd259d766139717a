-- What the faults of a reader say of its tokens.
use Rattle.std.specs.Prelude.{List}
pub use Rattle.pi_expr_phrases.specs.Stretch.{stretch}
use Rattle.pi_syntax.specs.Tokens.{Token}
use Rattle.pi_syntax.specs.Crowding.{IsTooDeep, HasNoExp}
use Rattle.pi_expr.specs.declared.fault.ExpFault.{ExpFault}
use Rattle.pi_expr.specs.declared.fault.ExpFault.TheVariants as fault

-- want of memory says nothing of the tokens
abbrev pub IsFault : List Token → ExpFault → Type 0
IsFault tokens fault.NoExpression = HasNoExp tokens
IsFault tokens fault.TooDeep = IsTooDeep tokens
IsFault tokens fault.Memory = Unit {0}
