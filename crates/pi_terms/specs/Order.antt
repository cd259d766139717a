-- The standard order of terms (own): variables by number, then integers, then atoms by code points, then compounds by
-- their number of arguments, then by name by code points, then by their arguments from the left. A name is the list of
-- its bytes in UTF-8, whose order is that of its code points.
use Rattle.std.specs.Prelude.{◌≡◌, ◌↔◌, ℕ, Bool, List}
use Rattle.std.specs.Str.{encode_utf8_all}
use Rattle.std.specs.Ordering.{nat_cmp, int_cmp, ordering_then, is_eq}
use Rattle.std.specs.Cmp.{IsTotalOrder}
use Rattle.std.specs.Cmp.Lexicographic.{slice_cmp}
use Rattle.std.specs.declared.cmp.Ordering.{Ordering}
use Rattle.std.specs.declared.cmp.Ordering.TheVariants.{Less, Equal, Greater}
use Rattle.pi_terms.specs.Tree.{Tree, var, int, atom, comp, Trees, no_trees, tree, tree_count}

abbrev pub name_order : List ℕ → List ℕ → Ordering
name_order f g = slice_cmp nat_cmp f g

-- the bytes of names are in the order of the names' code points
abbrev pub NamesByCodePoints : Type 0
NamesByCodePoints = (cs ds : List ℕ) → name_order (encode_utf8_all cs) (encode_utf8_all ds) ≡ slice_cmp nat_cmp cs ds

unfoldable mutual
  pub order : Tree → Tree → Ordering
  order (var m) (var n) = nat_cmp m n
  order (var m) (int n) = Less
  order (var m) (atom b) = Less
  order (var m) (comp g us) = Less
  order (int m) (var n) = Greater
  order (int m) (int n) = int_cmp m n
  order (int m) (atom b) = Less
  order (int m) (comp g us) = Less
  order (atom a) (var n) = Greater
  order (atom a) (int n) = Greater
  order (atom a) (atom b) = name_order a b
  order (atom a) (comp g us) = Less
  order (comp f ts) (var n) = Greater
  order (comp f ts) (int n) = Greater
  order (comp f ts) (atom b) = Greater
  order (comp f ts) (comp g us) =
      ordering_then (nat_cmp (tree_count ts) (tree_count us)) (ordering_then (name_order f g) (order_all ts us))

  -- arguments from the left; where one list ends first, it comes first
  pub order_all : Trees → Trees → Ordering
  order_all no_trees no_trees = Equal
  order_all no_trees (tree u us) = Less
  order_all (tree t ts) no_trees = Greater
  order_all (tree t ts) (tree u us) = ordering_then (order t u) (order_all ts us)

-- whether two terms are the same
abbrev pub identical : Tree → Tree → Bool
identical t u = is_eq (order t u)

-- any two terms stand in a fixed order, in which only a term and itself are equal
abbrev pub OrderIsTotal : Type 0
OrderIsTotal = IsTotalOrder order

abbrev pub EqualIsIdentity : Type 0
EqualIsIdentity = (t u : Tree) → (order t u ≡ Equal) ↔ (t ≡ u)
