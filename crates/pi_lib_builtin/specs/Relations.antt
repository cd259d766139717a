-- When a relation of integers holds (A User's Guide to Picat, 'Arithmetic').
use Rattle.std.specs.Prelude.{ℤ, int_lt, int_le, Bool, not}
use Rattle.std.specs.Ordering.{int_eq}
use Rattle.pi_lib_builtin.specs.declared.relations.Relation.{Relation}

abbrev pub holds : Relation → ℤ → ℤ → Bool
holds Relation.Less m n = int_lt m n
holds Relation.AtMost m n = int_le m n
holds Relation.Greater m n = int_lt n m
holds Relation.AtLeast m n = int_le n m
holds Relation.Equal m n = int_eq m n
holds Relation.Unequal m n = not (int_eq m n)
