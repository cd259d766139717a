-- An expression and its parts.
use Rattle.std.specs.Prelude.{◌≡◌, ℕ, List, Vec}
use Rattle.std.specs.declared.alloc.Global.{Global}
use Rattle.pi_syntax.specs.declared.exp.Apart.{Apart}
use Rattle.pi_syntax.specs.declared.exp.Apart.TheVariants as apart
use Rattle.pi_syntax.specs.declared.exp.Exp as e
use Rattle.pi_syntax.specs.declared.exp.Exp.{Exp}

-- neither a conjunction nor an array nor a call
pub record IsOther (x : Exp) : Type 0 where
  pub no_conjunction : (es : Vec Exp Global) → x ≡ e.And es → ⊥
  pub no_array : (es : Vec Exp Global) → x ≡ e.Array es → ⊥
  pub no_call : (name : List ℕ) (es : Vec Exp Global) → x ≡ e.Call name es → ⊥

abbrev pub IsApart : Apart → Exp → Type 0
IsApart (apart.Conjunction es) x = x ≡ e.And es
IsApart (apart.Array es) x = x ≡ e.Array es
IsApart (apart.Call name es) x = x ≡ e.Call name es
IsApart (apart.Other y) x = (y ≡ x) × IsOther x
