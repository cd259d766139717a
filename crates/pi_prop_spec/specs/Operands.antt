-- What a constraint is made of, apart from the names that it is written with: operands, relations between them, Boolean expressions. (A User's Guide to Picat, 'Constraints'.)
use Rattle.std.specs.Prelude.{ℕ, ℤ}
use Rattle.pi_terms.specs.Tree.{Tree}

-- an operand: an integer, a variable, one of the signs over operands, `abs` of an operand, `sum` of operands; any other term is none, and kept to be told
mutual
  pub data Operand : Type 0 where
    number : ℤ → Operand
    variable : ℕ → Operand
    plus : Operand → Operand → Operand
    minus : Operand → Operand → Operand
    times : Operand → Operand → Operand
    positive : Operand → Operand
    negative : Operand → Operand
    absolute : Operand → Operand
    total : Operands → Operand
    no_operand : Tree → Operand

  -- from the left
  pub data Operands : Type 0 where
    no_operands : Operands
    operand : Operand → Operands → Operands

-- how two operands are compared: #=, #!=, #<, #=< (and #<=), #>, #>=
pub data Comparison : Type 0 where
  equal : Comparison
  unequal : Comparison
  less : Comparison
  at_most : Comparison
  greater : Comparison
  at_least : Comparison

-- what joins two Boolean expressions: #/\, #\/, #^, #=>, #<=>
pub data Connective : Type 0 where
  and : Connective
  or : Connective
  either : Connective
  implies : Connective
  equivalent : Connective

-- a Boolean expression: a variable, an integer, a relation, #~ of one, two that are joined; any other term is none
pub data Boolean : Type 0 where
  truth_variable : ℕ → Boolean
  truth_number : ℤ → Boolean
  relation : Comparison → Operand → Operand → Boolean
  negation : Boolean → Boolean
  joined : Connective → Boolean → Boolean → Boolean
  no_boolean : Tree → Boolean

-- A goal that posts constraints: a relation, a Boolean expression, `all_different(L)`, `all_distinct(L)`, `element(I,L,V)`, with the terms that are its arguments. Any other term is none.
pub data Goal : Type 0 where
  relates : Comparison → Operand → Operand → Goal
  is_so : Boolean → Goal
  all_different : Tree → Goal
  all_distinct : Tree → Goal
  element : Tree → Tree → Tree → Goal
  no_constraint : Tree → Goal
