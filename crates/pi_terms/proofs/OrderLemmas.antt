-- The standard order is a total order in which only a term and itself are equal.
use Rattle.std.proofs.Common.{◌≡◌, ℕ, ℤ, List, [], ◌∷◌, refl, ap, sym, ◌∙◌, subst, ◌<◌}
use Rattle.std.proofs.lemmas.Cmp.{nat_cmp_total, int_cmp_total, nat_list_cmp_total, ranked, int_ranked, by_ranked, tied_itself}
use Rattle.std.specs.Prelude.{◌<ℤ◌}
use Rattle.std.specs.Ordering.{nat_cmp, int_cmp, ordering_then, ordering_reverse}
use Rattle.std.specs.Cmp.{IsTotalOrder}
use Rattle.std.specs.declared.cmp.Ordering.{Ordering}
use Rattle.std.specs.declared.cmp.Ordering.TheVariants.{Less, Equal, Greater}
use Rattle.pi_terms.specs.Tree.{Tree, var, int, atom, comp, Trees, no_trees, tree, tree_count}
use Rattle.pi_terms.specs.Order.{name_order, order, order_all, OrderIsTotal, EqualIsIdentity}

-- ---- comparisons one after another

then_equal : (o p : Ordering) → ordering_then o p ≡ Equal → (o ≡ Equal) × (p ≡ Equal)
then_equal Less p e = cc
then_equal Equal p e = (refl, e)
then_equal Greater p e = cc

reverse_then : (o p q r : Ordering) → o ≡ ordering_reverse p → q ≡ ordering_reverse r → ordering_then o q ≡ ordering_reverse (ordering_then p r)
reverse_then o Less q r e h = cc
reverse_then o Equal q r e h = cc
reverse_then o Greater q r e h = cc

-- what two comparisons say of a third, in an order in which only equals are equal
record Chained (o p q : Ordering) : Type 0 where
  pub less : o ≡ Less → p ≡ Less → q ≡ Less
  pub first_equal : o ≡ Equal → q ≡ p
  pub second_equal : p ≡ Equal → q ≡ o

chained_then : (o p q o' p' q' : Ordering) → Chained o p q → Chained o' p' q' → Chained (ordering_then o o') (ordering_then p p') (ordering_then q q')
chained_then Less Less q o' p' q' c d = let e : q ≡ Less = c.less refl refl in record { less = λ h k. cc; first_equal = λ h. cc; second_equal = λ h. cc }
chained_then Less Equal q o' p' q' c d = let e : q ≡ Less = c.second_equal refl in record { less = λ h k. cc; first_equal = λ h. cc; second_equal = λ h. cc }
chained_then Less Greater q o' p' q' c d = record { less = λ h k. cc; first_equal = λ h. cc; second_equal = λ h. cc }
chained_then Equal Less q o' p' q' c d = let e : q ≡ Less = c.first_equal refl in record { less = λ h k. cc; first_equal = λ h. cc; second_equal = λ h. cc }
chained_then Equal Equal q o' p' q' c d = let e : q ≡ Equal = c.first_equal refl in let P : Ordering → Type 0 = λ o. Chained o' p' (ordering_then o q') in subst P (sym e) d
chained_then Equal Greater q o' p' q' c d = let e : q ≡ Greater = c.first_equal refl in record { less = λ h k. cc; first_equal = λ h. cc; second_equal = λ h. cc }
chained_then Greater p q o' p' q' c d = record { less = λ h k. cc; first_equal = λ h. cc; second_equal = λ h. cc (c.second_equal (then_equal p p' h).0) }

-- a total order in which only equals are equal
chained : {K : Type 0} {R : K → K → Ordering} → IsTotalOrder R → ((x y : K) → R x y ≡ Equal → x ≡ y) → (x y z : K) → Chained (R x y) (R y z) (R x z)
chained {R = R} total same x y z = record {
  less = total.trans x y z;
  first_equal = λ e. ap (λ w. R w z) (same x y e);
  second_equal = λ e. ap (λ w. R x w) (sym (same y z e));
}

-- ---- numbers, integers and names that are equal

numbers_same : (m n : ℕ) → nat_cmp m n ≡ Equal → m ≡ n
numbers_same m n e = by_ranked (m < n) (m ≡ n) (n < m) (nat_cmp m n) (ranked m n (nat_cmp m n) refl) (λ d h. cc) (λ d h. h) (λ d h. cc)

integers_same : (m n : ℤ) → int_cmp m n ≡ Equal → m ≡ n
integers_same m n e = by_ranked (m <ℤ n) (m ≡ n) (n <ℤ m) (int_cmp m n) (int_ranked m n (int_cmp m n) refl) (λ d h. cc) (λ d h. h) (λ d h. cc)

pub names_same : (f g : List ℕ) → name_order f g ≡ Equal → f ≡ g
names_same [] [] e = refl
names_same [] (b ∷ g) e = cc
names_same (a ∷ f) [] e = cc
names_same (a ∷ f) (b ∷ g) e =
    let h : (nat_cmp a b ≡ Equal) × (name_order f g ≡ Equal) = then_equal (nat_cmp a b) (name_order f g) e in
    let this : a ≡ b = numbers_same a b h.0 in
    let rest : f ≡ g = names_same f g h.1 in
    cc

-- ---- terms

mutual
  unfolding order

  order_reverse : (t u : Tree) → order t u ≡ ordering_reverse (order u t)
  order_reverse (var m) (var n) = nat_cmp_total.antisymm m n
  order_reverse (int m) (int n) = int_cmp_total.antisymm m n
  order_reverse (atom a) (atom b) = nat_list_cmp_total.antisymm a b
  order_reverse (comp f ts) (comp g us) =
      reverse_then (nat_cmp (tree_count ts) (tree_count us)) (nat_cmp (tree_count us) (tree_count ts)) _ _ (nat_cmp_total.antisymm (tree_count ts) (tree_count us))
      (reverse_then (name_order f g) (name_order g f) _ _ (nat_list_cmp_total.antisymm f g) (order_all_reverse ts us))
  order_reverse t u = refl

  order_all_reverse : (ts us : Trees) → order_all ts us ≡ ordering_reverse (order_all us ts)
  order_all_reverse no_trees no_trees = refl
  order_all_reverse no_trees (tree u us) = refl
  order_all_reverse (tree t ts) no_trees = refl
  order_all_reverse (tree t ts) (tree u us) = reverse_then (order t u) (order u t) _ _ (order_reverse t u) (order_all_reverse ts us)

mutual
  unfolding order

  pub same_from_order : (t u : Tree) → order t u ≡ Equal → t ≡ u
  same_from_order (var m) (var n) e = ap var (numbers_same m n e)
  same_from_order (int m) (int n) e = ap int (integers_same m n e)
  same_from_order (atom a) (atom b) e = ap atom (names_same a b e)
  same_from_order (comp f ts) (comp g us) e =
      let h : (nat_cmp (tree_count ts) (tree_count us) ≡ Equal) × (ordering_then (name_order f g) (order_all ts us) ≡ Equal) = then_equal _ _ e in
      let k : (name_order f g ≡ Equal) × (order_all ts us ≡ Equal) = then_equal _ _ h.1 in
      let name : f ≡ g = names_same f g k.0 in
      let rest : ts ≡ us = same_from_order_all ts us k.1 in
      cc
  same_from_order t u e = cc

  same_from_order_all : (ts us : Trees) → order_all ts us ≡ Equal → ts ≡ us
  same_from_order_all no_trees no_trees e = refl
  same_from_order_all no_trees (tree u us) e = cc
  same_from_order_all (tree t ts) no_trees e = cc
  same_from_order_all (tree t ts) (tree u us) e =
      let h : (order t u ≡ Equal) × (order_all ts us ≡ Equal) = then_equal _ _ e in
      let this : t ≡ u = same_from_order t u h.0 in
      let rest : ts ≡ us = same_from_order_all ts us h.1 in
      cc

mutual
  unfolding order

  order_itself : (t : Tree) → order t t ≡ Equal
  order_itself (var n) = tied_itself nat_cmp_total n
  order_itself (int n) = tied_itself int_cmp_total n
  order_itself (atom a) = tied_itself nat_list_cmp_total a
  order_itself (comp f ts) = rw (tied_itself nat_cmp_total (tree_count ts), tied_itself nat_list_cmp_total f) (order_all_itself ts)

  order_all_itself : (ts : Trees) → order_all ts ts ≡ Equal
  order_all_itself no_trees = refl
  order_all_itself (tree t ts) = rw (order_itself t) (order_all_itself ts)

mutual
  unfolding order

  order_chained : (t u v : Tree) → Chained (order t u) (order u v) (order t v)
  order_chained (var l) (var m) (var n) = chained nat_cmp_total numbers_same l m n
  order_chained (int l) (int m) (int n) = chained int_cmp_total integers_same l m n
  order_chained (atom a) (atom b) (atom c) = chained nat_list_cmp_total names_same a b c
  order_chained (comp f ts) (comp g us) (comp h vs) =
      chained_then _ _ _ _ _ _ (chained nat_cmp_total numbers_same (tree_count ts) (tree_count us) (tree_count vs))
      (chained_then _ _ _ _ _ _ (chained nat_list_cmp_total names_same f g h) (order_all_chained ts us vs))
  order_chained t u (var n) = record { less = λ h k. cc; first_equal = λ h. cc; second_equal = λ h. cc }
  order_chained t u v = record { less = λ h k. cc; first_equal = λ h. cc; second_equal = λ h. cc }

  order_all_chained : (ts us vs : Trees) → Chained (order_all ts us) (order_all us vs) (order_all ts vs)
  order_all_chained (tree t ts) (tree u us) (tree v vs) = chained_then _ _ _ _ _ _ (order_chained t u v) (order_all_chained ts us vs)
  order_all_chained no_trees no_trees no_trees = record { less = λ h k. cc; first_equal = λ h. cc; second_equal = λ h. cc }
  order_all_chained no_trees no_trees (tree v vs) = record { less = λ h k. cc; first_equal = λ h. cc; second_equal = λ h. cc }
  order_all_chained no_trees (tree u us) no_trees = record { less = λ h k. cc; first_equal = λ h. cc; second_equal = λ h. cc }
  order_all_chained no_trees (tree u us) (tree v vs) = record { less = λ h k. cc; first_equal = λ h. cc; second_equal = λ h. cc }
  order_all_chained (tree t ts) no_trees no_trees = record { less = λ h k. cc; first_equal = λ h. cc; second_equal = λ h. cc }
  order_all_chained (tree t ts) no_trees (tree v vs) = record { less = λ h k. cc; first_equal = λ h. cc; second_equal = λ h. cc }
  order_all_chained (tree t ts) (tree u us) no_trees = record { less = λ h k. cc; first_equal = λ h. cc; second_equal = λ h. cc }

pub order_total : OrderIsTotal
order_total = record {
  antisymm = order_reverse;
  trans = λ t u v. (order_chained t u v).less;
  congr = λ t u v. (order_chained t u v).first_equal;
}

pub equal_is_identity : EqualIsIdentity
equal_is_identity t u = (same_from_order t u, λ e. ap (λ v. order t v) (sym e) ∙ order_itself t)
