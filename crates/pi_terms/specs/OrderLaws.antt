-- What counts in the standard order, and what counts first.
use Rattle.std.specs.Prelude.{◌≡◌, ℕ, ◌<◌, ℤ, List, ◌∷◌, ◌++◌, length}
use Rattle.std.specs.Ordering.{nat_cmp, int_cmp}
use Rattle.std.specs.declared.cmp.Ordering.TheVariants.{Less}
use Rattle.pi_terms.specs.Tree.{Tree, var, int, atom, comp, Trees, trees_of, tree_count}
use Rattle.pi_terms.specs.Order.{name_order, order}

-- the kinds of terms stand in this order
abbrev pub KindsAreInOrder : Type 0
KindsAreInOrder = (m : ℕ) (n : ℤ) (a f : List ℕ) (ts : Trees) →
    (order (var m) (int n) ≡ Less) × (order (int n) (atom a) ≡ Less) × (order (atom a) (comp f ts) ≡ Less)

-- variables go by number, integers by value, and atoms by name
abbrev pub KindsAreOrderedWithin : Type 0
KindsAreOrderedWithin = ((m n : ℕ) → order (var m) (var n) ≡ nat_cmp m n) × ((m n : ℤ) → order (int m) (int n) ≡ int_cmp m n)
    × ((a b : List ℕ) → order (atom a) (atom b) ≡ name_order a b)

-- of two compounds the one with fewer arguments comes first, whatever their names and arguments are
abbrev pub FewerArgumentsComeFirst : Type 0
FewerArgumentsComeFirst = (f g : List ℕ) (ts us : Trees) → tree_count ts < tree_count us → order (comp f ts) (comp g us) ≡ Less

-- with as many arguments names count, whatever the arguments are
abbrev pub NamesCountNext : Type 0
NamesCountNext = (f g : List ℕ) (ts us : Trees) → tree_count ts ≡ tree_count us → name_order f g ≡ Less →
    order (comp f ts) (comp g us) ≡ Less

-- with the same name too the first arguments from the left count that aren't the same
abbrev pub ArgumentsCountLast : Type 0
ArgumentsCountLast = (f : List ℕ) (front : List Tree) (t u : Tree) (ts us : List Tree) → length ts ≡ length us → order t u ≡ Less →
    order (comp f (trees_of (front ++ t ∷ ts))) (comp f (trees_of (front ++ u ∷ us))) ≡ Less
