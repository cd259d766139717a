-- The law of the filter as a test.
use Rattle.std.specs.Prelude.{◌↔◌, ℕ, IsTrue, List, ℤ}
use Rattle.pi_constraints.specs.declared.constraint.Constraint.{Constraint}
use Rattle.pi_constraints.specs.declared.domain.Span.{Span}
use Rattle.pi_prop_spec.specs.Filter.{Leaves}
use Rattle.pi_prop_spec.specs.Decided.{leaves}
use Rattle.pi_prop_spec.specs.Laws.{AreDomainsOf}

-- of domains, one for each place, the test passes just the values that the filter leaves
abbrev pub LeavesIsDecided : Type 0
LeavesIsDecided = (c : Constraint) (ds : List (List Span)) (k : ℕ) (n : ℤ) → AreDomainsOf c ds → IsTrue (leaves c ds k n) ↔ Leaves c ds k n
