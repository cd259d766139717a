-- Of which form an expression is: of a function that lowers one form, something is said where it is of that.
use Rattle.std.specs.Prelude.{◌≡◌, Bool, Option, Some, Vec}
use Rattle.std.specs.declared.alloc.Global.{Global}
use Rattle.std.specs.declared.boxed.Box.{Box}
use Rattle.pi_syntax.specs.declared.exp.Exp as code
use Rattle.pi_syntax.specs.declared.exp.Exp.{Exp}

-- ---- goals

pub record IsIf (x : Exp) : Type 0 where
  pub parts : Vec (Exp × Exp) Global
  pub other : Option (Box Exp Global)
  pub is : x ≡ code.If parts other

pub record IsArrow (x : Exp) : Type 0 where
  pub test : Box Exp Global
  pub body : Box Exp Global
  pub is : x ≡ code.Arrow test body

pub record IsForeach (x : Exp) : Type 0 where
  pub units : Vec Exp Global
  pub body : Box Exp Global
  pub is : x ≡ code.Foreach units body

pub record IsWhile (x : Exp) : Type 0 where
  pub test : Box Exp Global
  pub body : Box Exp Global
  pub is : x ≡ code.While test body

pub record IsDo (x : Exp) : Type 0 where
  pub body : Box Exp Global
  pub test : Box Exp Global
  pub is : x ≡ code.DoWhile body test

-- ---- values

pub record IsList (x : Exp) : Type 0 where
  pub items : Vec Exp Global
  pub tail : Option (Box Exp Global)
  pub is : x ≡ code.List items tail

pub record IsIndex (x : Exp) : Type 0 where
  pub whole : Box Exp Global
  pub places : Vec Exp Global
  pub is : x ≡ code.Index whole places

-- a range with a step or without one, and one with a step
pub record IsSpan (x : Exp) : Type 0 where
  pub low : Box Exp Global
  pub step : Option (Box Exp Global)
  pub high : Box Exp Global
  pub is : x ≡ code.Range low step high

pub record IsStepped (x : Exp) : Type 0 where
  pub low : Box Exp Global
  pub step : Box Exp Global
  pub high : Box Exp Global
  pub is : x ≡ code.Range low (Some step) high

pub record IsCollected (x : Exp) : Type 0 where
  pub is_array : Bool
  pub item : Box Exp Global
  pub units : Vec Exp Global
  pub is : x ≡ code.Collect is_array item units
