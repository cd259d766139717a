-- What is asked of one constraint, and of its items. The definitions are own.
use Rattle.std.specs.Prelude.{◌≡◌, ◌≢◌, ℕ, List, [], All, Contains}
use Rattle.pi_constraints.specs.declared.constraint.Item.{Item}
use Rattle.pi_constraints.specs.declared.constraint.Constraint.{Constraint}
use Rattle.pi_constraints.specs.declared.var_domain.VarDomain.{VarDomain}
use Rattle.pi_constraints.specs.Constraint.{IsWithinLimits}
use Rattle.pi_prop_spec.specs.Places.{places_of}
use Rattle.pi_sat_spec.specs.Domains.{domain_of}

-- an item that is a variable has a domain that isn't empty
abbrev pub HasValues : List VarDomain → Item → Type 0
HasValues xs x = (n : ℕ) → x ≡ Item.Var n → domain_of xs n ≢ []

abbrev pub HaveValues : List VarDomain → List Item → Type 0
HaveValues xs items = All (HasValues xs) items

-- the constraint is within its limits, and each of its variables has a domain that isn't empty
abbrev pub MayHave : List VarDomain → Constraint → Type 0
MayHave xs c = IsWithinLimits c × HaveValues xs (places_of c)
