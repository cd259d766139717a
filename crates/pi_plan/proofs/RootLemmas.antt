-- The standard order and the variables of terms, by what their subterms are at their roots.
use Rattle.std.proofs.Common.{◌≡◌, true, false, ℕ, zero, suc, ◌+◌, ◌<◌, ◌≤◌, List, [], ◌∷◌, ◌++◌, drop, length, refl, ap, sym, ◌∙◌, append_assoc, inl, inr, arith, add-one, length-drop}
use Rattle.std.proofs.lemmas.Bool.{cases_lt}
use Rattle.std.proofs.lemmas.Cmp.{nat_cmp_total, tied_itself, ranked, by_ranked}
use Rattle.std.specs.Cmp.{nat_cmp_is}
use Rattle.std.specs.Prelude.{min}
use Rattle.std.specs.Prelude.{IsSomeAnd, slice_get}
use Rattle.std.specs.Cmp.Lexicographic.{slice_cmp}
use Rattle.std.specs.Ordering.{nat_cmp, int_cmp, ordering_then, is_ne}
use Rattle.std.specs.declared.cmp.Ordering.{Ordering}
use Rattle.std.specs.declared.cmp.Ordering.TheVariants.{Less, Equal, Greater}
use Rattle.std.proofs.lemmas.List.{append-nil, drop_all}
use Rattle.pi_terms.specs.Tree.{Tree, var, int, atom, comp, Trees, no_trees, tree, tree_count, cells, args, subterms, subterms_all, ShowsHead}
use Rattle.pi_terms.specs.Order.{name_order, order, order_all}
use Rattle.pi_terms.specs.Variables.{occurrences, occurrences_all, firsts, IsGround}
use Rattle.pi_terms.specs.declared.term.TermHead.{TermHead}
use Rattle.pi_terms.proofs.TermLemmas.{subterm_for_each_cell}
use Rattle.pi_plan.specs.Roots.{head_order, is_variable_head, bare_variables}

-- how two terms stand by their roots alone
abbrev pub root_order : Tree → Tree → Ordering
root_order (var m) (var n) = nat_cmp m n
root_order (var m) (int n) = Less
root_order (var m) (atom b) = Less
root_order (var m) (comp g us) = Less
root_order (int m) (var n) = Greater
root_order (int m) (int n) = int_cmp m n
root_order (int m) (atom b) = Less
root_order (int m) (comp g us) = Less
root_order (atom a) (var n) = Greater
root_order (atom a) (int n) = Greater
root_order (atom a) (atom b) = name_order a b
root_order (atom a) (comp g us) = Less
root_order (comp f ts) (var n) = Greater
root_order (comp f ts) (int n) = Greater
root_order (comp f ts) (atom b) = Greater
root_order (comp f ts) (comp g us) = ordering_then (nat_cmp (tree_count ts) (tree_count us)) (name_order f g)

-- ---- from the left

then_assoc : (o p q : Ordering) → ordering_then (ordering_then o p) q ≡ ordering_then o (ordering_then p q)
then_assoc Less p q = refl
then_assoc Equal p q = refl
then_assoc Greater p q = refl

-- a compound's name counts where the numbers of arguments are the same, and its arguments where the names are
under_name : (o m p q r : Ordering) → (o ≡ Equal → r ≡ ordering_then p q) → ordering_then (ordering_then o m) r ≡ ordering_then (ordering_then o (ordering_then m p)) q
under_name Less m p q r h = refl
under_name Greater m p q r h = refl
under_name Equal Less p q r h = refl
under_name Equal Equal p q r h = h refl
under_name Equal Greater p q r h = refl

pub same_numbers : (m n : ℕ) → nat_cmp m n ≡ Equal → m ≡ n
same_numbers m n e = by_ranked (m < n) (m ≡ n) (n < m) (nat_cmp m n) (ranked m n (nat_cmp m n) refl) (λ d h. cc) (λ d h. h) (λ d h. cc)

mutual
  unfolding order subterms tree_count

  order-roots : (t u : Tree) (xs ys : List Tree) → slice_cmp root_order (subterms t ++ xs) (subterms u ++ ys) ≡ ordering_then (order t u) (slice_cmp root_order xs ys)
  order-roots (comp f ts) (comp g us) xs ys =
      under_name (nat_cmp (tree_count ts) (tree_count us)) (name_order f g) (order_all ts us) (slice_cmp root_order xs ys)
      (slice_cmp root_order (subterms_all ts ++ xs) (subterms_all us ++ ys))
      (λ e. order_all-roots ts us xs ys (same_numbers (tree_count ts) (tree_count us) e))
  order-roots (var m) (var n) xs ys = refl
  order-roots (int m) (int n) xs ys = refl
  order-roots (atom a) (atom b) xs ys = refl
  order-roots t u xs ys = refl

  order_all-roots : (ts us : Trees) (xs ys : List Tree) → tree_count ts ≡ tree_count us →
      slice_cmp root_order (subterms_all ts ++ xs) (subterms_all us ++ ys) ≡ ordering_then (order_all ts us) (slice_cmp root_order xs ys)
  order_all-roots no_trees no_trees xs ys e = refl
  order_all-roots no_trees (tree u us) xs ys e = absurd (omega arith)
  order_all-roots (tree t ts) no_trees xs ys e = absurd (omega arith)
  order_all-roots (tree t ts) (tree u us) xs ys e =
      rw (append_assoc (subterms t) (subterms_all ts) xs, append_assoc (subterms u) (subterms_all us) ys)
      (order-roots t u (subterms_all ts ++ xs) (subterms_all us ++ ys)
      ∙ (ap (λ r. ordering_then (order t u) r) (order_all-roots ts us xs ys (omega arith))
      ∙ sym (then_assoc (order t u) (order_all ts us) (slice_cmp root_order xs ys))))

then_nothing : (o : Ordering) → ordering_then o Equal ≡ o
then_nothing Less = refl
then_nothing Equal = refl
then_nothing Greater = refl

pub order_by_roots : (t u : Tree) → order t u ≡ slice_cmp root_order (subterms t) (subterms u)
order_by_roots t u =
    sym (then_nothing (order t u)) ∙ (sym (order-roots t u [] []) ∙ ap (λ xs. slice_cmp root_order xs (subterms u ++ [])) (append-nil (subterms t))
    ∙ ap (λ ys. slice_cmp root_order (subterms t) ys) (append-nil (subterms u)))

-- ---- what is looked at

meet : (t u t' u' : Tree) → t ≡ t' → u ≡ u' → root_order t' u' ≡ root_order t u
meet t u t' u' e f = cc

heads_meet : (t u : Tree) (h k : TermHead) → ShowsHead t h → ShowsHead u k → head_order h k ≡ root_order t u
heads_meet t u (TermHead.Var m) (TermHead.Var n) e f = meet t u (var m) (var n) e f
heads_meet t u (TermHead.Var m) (TermHead.Int n) e f = meet t u (var m) (int n) e f
heads_meet t u (TermHead.Var m) (TermHead.Atom b) e f = meet t u (var m) (atom b.now) e f
heads_meet t u (TermHead.Var m) (TermHead.Comp g n) e f = meet t u (var m) (comp g.now (args u)) e f.0
heads_meet t u (TermHead.Int m) (TermHead.Var n) e f = meet t u (int m) (var n) e f
heads_meet t u (TermHead.Int m) (TermHead.Int n) e f = meet t u (int m) (int n) e f
heads_meet t u (TermHead.Int m) (TermHead.Atom b) e f = meet t u (int m) (atom b.now) e f
heads_meet t u (TermHead.Int m) (TermHead.Comp g n) e f = meet t u (int m) (comp g.now (args u)) e f.0
heads_meet t u (TermHead.Atom a) (TermHead.Var n) e f = meet t u (atom a.now) (var n) e f
heads_meet t u (TermHead.Atom a) (TermHead.Int n) e f = meet t u (atom a.now) (int n) e f
heads_meet t u (TermHead.Atom a) (TermHead.Atom b) e f = meet t u (atom a.now) (atom b.now) e f
heads_meet t u (TermHead.Atom a) (TermHead.Comp g n) e f = meet t u (atom a.now) (comp g.now (args u)) e f.0
heads_meet t u (TermHead.Comp a m) (TermHead.Var n) e f = meet t u (comp a.now (args t)) (var n) e.0 f
heads_meet t u (TermHead.Comp a m) (TermHead.Int n) e f = meet t u (comp a.now (args t)) (int n) e.0 f
heads_meet t u (TermHead.Comp a m) (TermHead.Atom b) e f = meet t u (comp a.now (args t)) (atom b.now) e.0 f
heads_meet t u (TermHead.Comp a m) (TermHead.Comp g n) e f =
    rw (e.1, f.1) (meet t u (comp a.now (args t)) (comp g.now (args u)) e.0 f.0)

pub roots_step : (xs ys : List Tree) (i : ℕ) (h k : TermHead) → IsSomeAnd (slice_get xs i) (λ t. ShowsHead t h) → IsSomeAnd (slice_get ys i) (λ u. ShowsHead u k) →
    slice_cmp root_order (drop i xs) (drop i ys) ≡ ordering_then (head_order h k) (slice_cmp root_order (drop (suc i) xs) (drop (suc i) ys))
roots_step [] ys i h k e f = absurd e
roots_step (x ∷ xs) [] i h k e f = absurd f
roots_step (x ∷ xs) (y ∷ ys) zero h k e f = rw (heads_meet x y h k e f) refl
roots_step (x ∷ xs) (y ∷ ys) (suc i) h k e f = roots_step xs ys i h k e f

first_ends : (zs : List Tree) (a b : ℕ) → length zs + a ≡ b → slice_cmp root_order [] zs ≡ nat_cmp a b
first_ends [] a b e = let same : a ≡ b = omega arith in rw same (sym (tied_itself nat_cmp_total b))
first_ends (z ∷ zs) a b e = let less : a < b = omega arith in nat_cmp_is a b Less less

second_ends : (zs : List Tree) (a b : ℕ) → length zs + b ≡ a → slice_cmp root_order zs [] ≡ nat_cmp a b
second_ends [] a b e = let same : a ≡ b = omega arith in rw same (sym (tied_itself nat_cmp_total b))
second_ends (z ∷ zs) a b e = let less : b < a = omega arith in nat_cmp_is a b Greater less

-- where one list ends
pub roots_end : (xs ys : List Tree) (n : ℕ) → n ≡ min (length xs) (length ys) → slice_cmp root_order (drop n xs) (drop n ys) ≡ nat_cmp (length xs) (length ys)
roots_end xs ys n e = elim (cases_lt (length xs) (length ys)) [
  | inl less ↦
      let past : length xs ≤ n = omega arith in
      rw (drop_all n xs past) (first_ends (drop n ys) (length xs) (length ys) (omega (arith, length-drop n ys)))
  | inr more ↦
      let past : length ys ≤ n = omega arith in
      rw (drop_all n ys past) (second_ends (drop n xs) (length xs) (length ys) (omega (arith, length-drop n xs)))
]

-- ---- variables

bare_variables-append : (ts us : List Tree) → bare_variables (ts ++ us) ≡ bare_variables ts ++ bare_variables us
bare_variables-append [] us = refl
bare_variables-append (var n ∷ ts) us = ap (λ ns. n ∷ ns) (bare_variables-append ts us)
bare_variables-append (int n ∷ ts) us = bare_variables-append ts us
bare_variables-append (atom name ∷ ts) us = bare_variables-append ts us
bare_variables-append (comp name vs ∷ ts) us = bare_variables-append ts us

mutual
  unfolding subterms occurrences

  occurrences-roots : (t : Tree) → occurrences t ≡ bare_variables (subterms t)
  occurrences-roots (var n) = refl
  occurrences-roots (int n) = refl
  occurrences-roots (atom name) = refl
  occurrences-roots (comp name ts) = occurrences_all-roots ts

  occurrences_all-roots : (ts : Trees) → occurrences_all ts ≡ bare_variables (subterms_all ts)
  occurrences_all-roots no_trees = refl
  occurrences_all-roots (tree t ts) =
      ap (λ ns. ns ++ occurrences_all ts) (occurrences-roots t) ∙ (ap (λ ns. bare_variables (subterms t) ++ ns) (occurrences_all-roots ts)
      ∙ sym (bare_variables-append (subterms t) (subterms_all ts)))

pub ground_by_roots : (t : Tree) → bare_variables (subterms t) ≡ [] → IsGround t
unfolding firsts
ground_by_roots t e = ap firsts (occurrences-roots t ∙ e)

some_first : (n : ℕ) (ns : List ℕ) → firsts (n ∷ ns) ≡ [] → ⊥
unfolding firsts
some_first n ns e = cc

pub not_ground_by_roots : (t : Tree) (n : ℕ) (ns : List ℕ) → bare_variables (subterms t) ≡ n ∷ ns → IsGround t → ⊥
not_ground_by_roots t n ns e ground = some_first n ns (sym (ap firsts (occurrences-roots t ∙ e)) ∙ ground)

-- what is looked at, where it is a variable and where it isn't
pub variable_here : (xs : List Tree) (i : ℕ) (h : TermHead) → IsSomeAnd (slice_get xs i) (λ t. ShowsHead t h) → is_variable_head h ≡ true →
    (n : ℕ) × (bare_variables (drop i xs) ≡ n ∷ bare_variables (drop (suc i) xs))
variable_here [] i h e hit = absurd e
variable_here (x ∷ xs) zero (TermHead.Var n) e hit = (n, ap (λ t. bare_variables (t ∷ xs)) e)
variable_here (x ∷ xs) zero (TermHead.Int n) e hit = absurd (cc)
variable_here (x ∷ xs) zero (TermHead.Atom name) e hit = absurd (cc)
variable_here (x ∷ xs) zero (TermHead.Comp name k) e hit = absurd (cc)
variable_here (x ∷ xs) (suc i) h e hit = variable_here xs i h e hit

none_at_root : (t : Tree) (ts : List Tree) (h : TermHead) → ShowsHead t h → is_variable_head h ≡ false → bare_variables (t ∷ ts) ≡ bare_variables ts
none_at_root t ts (TermHead.Var n) e miss = absurd (cc)
none_at_root t ts (TermHead.Int n) e miss = ap (λ u. bare_variables (u ∷ ts)) e
none_at_root t ts (TermHead.Atom name) e miss = ap (λ u. bare_variables (u ∷ ts)) e
none_at_root t ts (TermHead.Comp name k) e miss = ap (λ u. bare_variables (u ∷ ts)) e.0

pub no_variable_here : (xs : List Tree) (i : ℕ) (h : TermHead) → IsSomeAnd (slice_get xs i) (λ t. ShowsHead t h) → is_variable_head h ≡ false → bare_variables (drop i xs) ≡ bare_variables (drop (suc i) xs)
no_variable_here [] i h e miss = absurd e
no_variable_here (x ∷ xs) zero h e miss = none_at_root x xs h e miss
no_variable_here (x ∷ xs) (suc i) h e miss = no_variable_here xs i h e miss

-- ---- the loops

decided : (o r : Ordering) → is_ne o ≡ true → ordering_then o r ≡ o
decided Less r e = refl
decided Equal r e = absurd (cc)
decided Greater r e = refl

undecided : (o r : Ordering) → is_ne o ≡ false → ordering_then o r ≡ r
undecided Less r e = absurd (cc)
undecided Equal r e = refl
undecided Greater r e = absurd (cc)

-- how two terms stand from a place on
pub record StandFrom (t u : Tree) (i : ℕ) : Type 0 where
  pub stand : order t u ≡ slice_cmp root_order (drop i (subterms t)) (drop i (subterms u))

pub stand_from_start : (t u : Tree) → StandFrom t u 0
stand_from_start t u = record { stand = order_by_roots t u }

pub stand_decided : (t u : Tree) (i : ℕ) (h k : TermHead) (o : Ordering) → StandFrom t u i → IsSomeAnd (slice_get (subterms t) i) (λ x. ShowsHead x h) →
    IsSomeAnd (slice_get (subterms u) i) (λ x. ShowsHead x k) → o ≡ head_order h k → is_ne o ≡ true → o ≡ order t u
stand_decided t u i h k o from e f is differs =
    sym (from.stand ∙ (roots_step (subterms t) (subterms u) i h k e f ∙ (ap (λ p. ordering_then p (slice_cmp root_order (drop (suc i) (subterms t)) (drop (suc i) (subterms u)))) (sym is)
    ∙ decided o _ differs)))

pub stand_on : (t u : Tree) (i : ℕ) (h k : TermHead) (o : Ordering) → StandFrom t u i → IsSomeAnd (slice_get (subterms t) i) (λ x. ShowsHead x h) →
    IsSomeAnd (slice_get (subterms u) i) (λ x. ShowsHead x k) → o ≡ head_order h k → is_ne o ≡ false → StandFrom t u (i + 1)
stand_on t u i h k o from e f is same = record {
  stand = rw (add-one i) (from.stand ∙ (roots_step (subterms t) (subterms u) i h k e f ∙ (ap (λ p. ordering_then p (slice_cmp root_order (drop (suc i) (subterms t)) (drop (suc i) (subterms u)))) (sym is)
      ∙ undecided o _ same)));
}

pub stand_end : (t u : Tree) (i : ℕ) → StandFrom t u i → i ≡ min (cells t) (cells u) → nat_cmp (cells t) (cells u) ≡ order t u
stand_end t u i from e =
    sym (from.stand ∙ (roots_end (subterms t) (subterms u) i (rw (subterm_for_each_cell t, subterm_for_each_cell u) e)
    ∙ rw (subterm_for_each_cell t, subterm_for_each_cell u) refl))

-- the variables of a term from a place on
pub record VariablesFrom (t : Tree) (i : ℕ) : Type 0 where
  pub are : bare_variables (subterms t) ≡ bare_variables (drop i (subterms t))

pub variables_on : (t : Tree) (i : ℕ) (h : TermHead) → VariablesFrom t i → IsSomeAnd (slice_get (subterms t) i) (λ x. ShowsHead x h) → is_variable_head h ≡ false → VariablesFrom t (i + 1)
variables_on t i h from e miss = record { are = rw (add-one i) (from.are ∙ no_variable_here (subterms t) i h e miss) }

pub variable_found : (t : Tree) (i : ℕ) (h : TermHead) → VariablesFrom t i → IsSomeAnd (slice_get (subterms t) i) (λ x. ShowsHead x h) → is_variable_head h ≡ true → IsGround t → ⊥
variable_found t i h from e hit =
    let found : (n : ℕ) × (bare_variables (drop i (subterms t)) ≡ n ∷ bare_variables (drop (suc i) (subterms t))) = variable_here (subterms t) i h e hit in
    not_ground_by_roots t found.0 (bare_variables (drop (suc i) (subterms t))) (from.are ∙ found.1)

pub no_variable_found : (t : Tree) (i : ℕ) → VariablesFrom t i → cells t ≤ i → IsGround t
no_variable_found t i from past = ground_by_roots t (from.are ∙ ap bare_variables (drop_all i (subterms t) (omega (arith, subterm_for_each_cell t))))
