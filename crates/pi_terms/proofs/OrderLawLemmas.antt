-- What counts in the standard order, and what counts first.
use Rattle.std.proofs.Common.{◌≡◌, ℕ, suc, List, [], ◌∷◌, ◌++◌, length, refl, ap, sym, ◌∙◌}
use Rattle.std.proofs.lemmas.Cmp.{nat_cmp_total, nat_list_cmp_total, tied_itself}
use Rattle.std.specs.Cmp.{nat_cmp_is}
use Rattle.std.specs.Ordering.{nat_cmp}
use Rattle.std.specs.declared.cmp.Ordering.TheVariants.{Less, Equal}
use Rattle.pi_terms.specs.Tree.{Tree, trees_of, tree_count}
use Rattle.pi_terms.specs.Order.{order, order_all}
use Rattle.pi_terms.specs.OrderLaws.{KindsAreInOrder, KindsAreOrderedWithin, FewerArgumentsComeFirst, NamesCountNext, ArgumentsCountLast}
use Rattle.pi_terms.proofs.OrderLemmas.{equal_is_identity}
use Rattle.pi_terms.proofs.TermLemmas.{tree_count-trees_of}

pub kinds_are_in_order : KindsAreInOrder
unfolding order
kinds_are_in_order m n a f ts = (refl, refl, refl)

pub kinds_are_ordered_within : KindsAreOrderedWithin
unfolding order
kinds_are_ordered_within = (λ m n. refl, λ m n. refl, λ a b. refl)

pub fewer_arguments_come_first : FewerArgumentsComeFirst
unfolding order
fewer_arguments_come_first f g ts us h = rw (sym (nat_cmp_is (tree_count ts) (tree_count us) Less h)) refl

equal_numbers : (m n : ℕ) → m ≡ n → nat_cmp m n ≡ Equal
equal_numbers m n e = rw e (tied_itself nat_cmp_total n)

pub names_count_next : NamesCountNext
unfolding order
names_count_next f g ts us e h = rw (equal_numbers (tree_count ts) (tree_count us) e, h) refl

counts_behind : (front : List Tree) (t u : Tree) (ts us : List Tree) → length ts ≡ length us → tree_count (trees_of (front ++ t ∷ ts)) ≡ tree_count (trees_of (front ++ u ∷ us))
unfolding tree_count
counts_behind [] t u ts us e = ap suc (tree_count-trees_of ts ∙ e ∙ sym (tree_count-trees_of us))
counts_behind (a ∷ front) t u ts us e = ap suc (counts_behind front t u ts us e)

order_behind : (front : List Tree) (t u : Tree) (ts us : List Tree) → order t u ≡ Less → order_all (trees_of (front ++ t ∷ ts)) (trees_of (front ++ u ∷ us)) ≡ Less
unfolding order
order_behind [] t u ts us h = rw h refl
order_behind (a ∷ front) t u ts us h = rw ((equal_is_identity a a).1 refl) (order_behind front t u ts us h)

pub arguments_count_last : ArgumentsCountLast
unfolding order
arguments_count_last f front t u ts us e h =
    rw (equal_numbers (tree_count (trees_of (front ++ t ∷ ts))) (tree_count (trees_of (front ++ u ∷ us))) (counts_behind front t u ts us e), tied_itself nat_list_cmp_total f) (order_behind front t u ts us h)
