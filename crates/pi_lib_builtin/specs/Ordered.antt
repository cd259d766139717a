-- The relations of terms by the standard order of their values (A User's Guide to Picat, 'Term Comparison').
use Rattle.std.specs.Prelude.{Bool, not}
use Rattle.std.specs.Ordering.{is_lt, is_le, is_gt, is_ge, is_eq}
use Rattle.std.specs.declared.cmp.Ordering.{Ordering}
use Rattle.pi_lib_builtin.specs.declared.ordering.TermRelation.{TermRelation}

abbrev pub is_ordered : TermRelation → Ordering → Bool
is_ordered TermRelation.Same o = is_eq o
is_ordered TermRelation.Different o = not (is_eq o)
is_ordered TermRelation.Before o = is_lt o
is_ordered TermRelation.NotAfter o = is_le o
is_ordered TermRelation.After o = is_gt o
is_ordered TermRelation.NotBefore o = is_ge o
