-- What a clause's tokens are: an expression alone, or two with an arrow between them; and the clause that this is. (A User's Guide to
-- Picat, 'Predicates and Functions', and for events 'Action Rules'.)
use Rattle.std.specs.Prelude.{◌≡◌, Bool, true, false, if◌then◌else◌, List, [], ◌∷◌, Option, Some, None, option_map, codes}
use Rattle.std.specs.Str.{bytes_eq}
use Rattle.pi_syntax.specs.ExpTree.{ExpTree, array, call, and, ExpTrees, no_exps, exp, one_exp}
use Rattle.pi_syntax.specs.Grammar.{HasExp, conjunction}
use Rattle.pi_syntax.specs.ProgramTree.{WrittenClause, rule, function, fact}
use Rattle.pi_syntax.specs.Tokens.{Token, Sign}

pub data Shape : Type 0 where
  -- no arrow stands there
  bare : ExpTree → Shape
  -- what stands on the left of the arrow, whether it is `?=>`, and what stands on its right
  ruled : ExpTree → Bool → ExpTree → Shape

-- whether an arrow is `?=>`
abbrev pub arrow_of : Token → Option Bool
arrow_of (Sign sign) = if bytes_eq sign (codes "=>") then Some false else if bytes_eq sign (codes "?=>") then Some true else None
arrow_of _ = None

-- tokens with an arrow between them
pub record Sides : Type 0 where
  pub left : List Token
  pub back : Bool
  pub right : List Token

abbrev pub with_left : Token → Sides → Sides
with_left t s = record { left = t ∷ s.left; back = s.back; right = s.right }

-- the sides of the first arrow, where the first token is this arrow or none
abbrev pub sides_by : Option Bool → Token → List Token → Option Sides → Option Sides
sides_by (Some back) t ts rest = Some (record { left = []; back = back; right = ts })
sides_by None t ts rest = option_map (with_left t) rest

-- the sides of the first arrow, where there is one
unfoldable pub sides : List Token → Option Sides
sides [] = None
sides (t ∷ ts) = sides_by (arrow_of t) t ts (sides ts)

pub data HasShape : List Token → Shape → Type 0 where
  without_arrow : {ts : List Token} {e : ExpTree} → sides ts ≡ None → HasExp ts e → HasShape ts (bare e)
  with_arrow : {ts : List Token} {s : Sides} {l r : ExpTree} → sides ts ≡ Some s → HasExp s.left l → HasExp s.right r → HasShape ts (ruled l s.back r)

-- ---- the units of a left side

abbrev pub units : ExpTree → ExpTrees
units (and es) = es
units e = one_exp e

-- the first unit, behind which the others stand
abbrev pub first_unit : ExpTrees → ExpTree
first_unit no_exps = and no_exps
first_unit (exp e es) = e

abbrev pub other_units : ExpTrees → ExpTrees
other_units no_exps = no_exps
other_units (exp e es) = es

-- the events: what a last unit in braces holds
unfoldable pub events_in : ExpTrees → Option ExpTrees
events_in no_exps = None
events_in (exp (array es) no_exps) = Some es
events_in (exp e es) = events_in es

-- the units without it
unfoldable pub conditions : ExpTrees → ExpTrees
conditions no_exps = no_exps
conditions (exp (array es) no_exps) = no_exps
conditions (exp e es) = exp e (conditions es)

abbrev pub condition : ExpTrees → Option ExpTree
condition no_exps = None
condition (exp e es) = Some (conjunction (exp e es))

unfoldable pub listed : ExpTrees → List ExpTree
listed no_exps = []
listed (exp e es) = e ∷ listed es

abbrev pub listed_or_none : Option ExpTrees → List ExpTree
listed_or_none None = []
listed_or_none (Some es) = listed es

-- head and value, where a unit is an equation
pub record Equation : Type 0 where
  pub head : ExpTree
  pub value : ExpTree

abbrev pub equation : ExpTree → Option Equation
equation (call name (exp head (exp value no_exps))) = if bytes_eq name (codes "=") then Some (record { head = head; value = value }) else None
equation e = None

-- ---- the clause

-- `head`, or `head = value`
abbrev pub bare_clause : ExpTree → Option Equation → WrittenClause
bare_clause e None = fact e
bare_clause e (Some q) = function (record { head = q.head; value = q.value; cond = None; body = None })

abbrev pub ruled_clause : Option Equation → ExpTree → ExpTrees → Bool → ExpTree → WrittenClause
ruled_clause None head others back body =
    rule (record { head = head; cond = condition (conditions others); events = listed_or_none (events_in others); back = back; body = body })
ruled_clause (Some q) head others back body =
    function (record { head = q.head; value = q.value; cond = condition (conditions others); body = Some body })

abbrev pub clause_of : Shape → WrittenClause
clause_of (bare e) = bare_clause e (equation e)
clause_of (ruled l back r) = ruled_clause (equation (first_unit (units l))) (first_unit (units l)) (other_units (units l)) back r

-- the events of a shape, and whether its arrow is `?=>`
abbrev pub shape_events : Shape → Option ExpTrees
shape_events (bare e) = None
shape_events (ruled l back r) = events_in (other_units (units l))

abbrev pub is_open : Shape → Bool
is_open (bare e) = false
is_open (ruled l back r) = back
