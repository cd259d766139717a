-- How many helpers parts have, one after the other.
use Rattle.std.proofs.Common.{◌≡◌, ℕ, ◌+◌, ◌<◌, ◌≤◌, List, Result, Ok, Err, IfOk, length, get_or, drop, sym, ◌∙◌, ap, arith}
use Rattle.std.proofs.lemmas.List.{drop_all}
use Rattle.std.proofs.lemmas.Result.{IfOk-weaker}
use Rattle.pi_syntax.specs.ExpTree.{exp_tree}
use Rattle.pi_syntax.specs.ExpLists.{exps_of}
use Rattle.pi_syntax.specs.declared.exp.Exp.{Exp}
use Rattle.pi_meaning.specs.OverNames.Texts.{iterated}
use Rattle.pi_rewrite_spec.specs.Sites.{helpers_in, helpers_in_all, helpers_in_branches, helpers_in_units, iterator_helpers}
use Rattle.pi_rewrite_slots.specs.Branches.{branches_in}
use Rattle.pi_rewrite_slots.proofs.FlatLemmas.{drop-next}
use Rattle.pi_rewrite_sites.specs.Sums.{IsSum, IsMore}

pub one-count : {E : Type 0} (r : Result ℕ E) (w a : ℕ) → w ≡ a → IfOk r (λ n. n ≡ a) → IfOk r (λ n. n ≡ w)
one-count r w a is = IfOk-weaker r (λ n. n ≡ a) (λ n. n ≡ w) (λ n count. count ∙ sym is)

sum-of : {E : Type 0} (one other : Result ℕ E) (m n all w : ℕ) → w ≡ m + n → IfOk one (λ a. a ≡ m) → IfOk other (λ b. b ≡ n) → IsSum one other all → all ≡ w
sum-of (Ok a) (Ok b) m n all w is first second sum = omega (arith, is, first, second, sum)
sum-of (Ok a) (Err e) m n all w is first second sum = absurd sum
sum-of (Err e) other m n all w is first second sum = absurd sum

pub two-counts : {E : Type 0} (r one other : Result ℕ E) (w m n : ℕ) → w ≡ m + n → IfOk one (λ a. a ≡ m) → IfOk other (λ b. b ≡ n) → IfOk r (λ all. IsSum one other all) → IfOk r (λ all. all ≡ w)
two-counts r one other w m n is first second = IfOk-weaker r (λ all. IsSum one other all) (λ all. all ≡ w) (λ all sum. sum-of one other m n all w is first second sum)

more-of : {E : Type 0} (one : Result ℕ E) (m n k all w : ℕ) → w ≡ m + n → k ≡ n → IfOk one (λ a. a ≡ m) → IsMore one k all → all ≡ w
more-of (Ok a) m n k all w is same first sum = omega (arith, is, same, first, sum)
more-of (Err e) m n k all w is same first sum = absurd sum

pub more-counts : {E : Type 0} (r one : Result ℕ E) (w m n k : ℕ) → w ≡ m + n → k ≡ n → IfOk one (λ a. a ≡ m) → IfOk r (λ all. IsMore one k all) → IfOk r (λ all. all ≡ w)
more-counts r one w m n k is same first = IfOk-weaker r (λ all. IsMore one k all) (λ all. all ≡ w) (λ all sum. more-of one m n k all w is same first sum)

-- those so far, and those that are left
abbrev pub AllTo : List Exp → ℕ → ℕ → Type 0
AllTo es i n = n + helpers_in_all (exps_of (drop i es)) ≡ helpers_in_all (exps_of es)

pub all-more : (es : List Exp) (i : ℕ) (x : Exp) (n more m : ℕ) → i < length es → x ≡ get_or es i x → more ≡ helpers_in (exp_tree x) → m ≡ n + more → AllTo es i n → AllTo es (i + 1) m
unfolding helpers_in
all-more es i x n more m h is count sum so =
    let next : helpers_in_all (exps_of (drop i es)) ≡ helpers_in (exp_tree x) + helpers_in_all (exps_of (drop (i + 1) es)) = ap (λ xs. helpers_in_all (exps_of xs)) (drop-next es i x h is) in
    omega (arith, next, count, sum, so)

pub all-end : (es : List Exp) (i n : ℕ) → length es ≤ i → AllTo es i n → n ≡ helpers_in_all (exps_of es)
unfolding helpers_in
all-end es i n h so =
    let none : helpers_in_all (exps_of (drop i es)) ≡ 0 = ap (λ xs. helpers_in_all (exps_of xs)) (drop_all i es h) in
    omega (arith, none, so)

abbrev pub BranchesTo : List (Exp × Exp) → ℕ → ℕ → Type 0
BranchesTo bs i n = n + helpers_in_branches (branches_in (drop i bs)) ≡ helpers_in_branches (branches_in bs)

pub branches-more : (bs : List (Exp × Exp)) (i : ℕ) (x : Exp × Exp) (n c e both m : ℕ) → i < length bs → x ≡ get_or bs i x → c ≡ helpers_in (exp_tree x.0) → e ≡ helpers_in (exp_tree x.1) → both ≡ c + e → m ≡ n + both → BranchesTo bs i n → BranchesTo bs (i + 1) m
unfolding helpers_in
branches-more bs i x n c e both m h is first second sum whole so =
    let next : helpers_in_branches (branches_in (drop i bs)) ≡ helpers_in (exp_tree x.0) + (helpers_in (exp_tree x.1) + helpers_in_branches (branches_in (drop (i + 1) bs))) = ap (λ xs. helpers_in_branches (branches_in xs)) (drop-next bs i x h is) in
    omega (arith, next, first, second, sum, whole, so)

pub branches-end : (bs : List (Exp × Exp)) (i n : ℕ) → length bs ≤ i → BranchesTo bs i n → n ≡ helpers_in_branches (branches_in bs)
unfolding helpers_in
branches-end bs i n h so =
    let none : helpers_in_branches (branches_in (drop i bs)) ≡ 0 = ap (λ xs. helpers_in_branches (branches_in xs)) (drop_all i bs h) in
    omega (arith, none, so)

abbrev pub UnitsTo : List Exp → ℕ → ℕ → Type 0
UnitsTo us i n = n + helpers_in_units (exps_of (drop i us)) ≡ helpers_in_units (exps_of us)

pub units-more : (us : List Exp) (i : ℕ) (x : Exp) (n inner own all m : ℕ) → i < length us → x ≡ get_or us i x → inner ≡ helpers_in (exp_tree x) → own ≡ iterator_helpers (iterated (exp_tree x)) → all ≡ inner + own → m ≡ n + all → UnitsTo us i n → UnitsTo us (i + 1) m
unfolding helpers_in
units-more us i x n inner own all m h is first second sum whole so =
    let next : helpers_in_units (exps_of (drop i us)) ≡ helpers_in (exp_tree x) + (helpers_in_units (exps_of (drop (i + 1) us)) + iterator_helpers (iterated (exp_tree x))) = ap (λ xs. helpers_in_units (exps_of xs)) (drop-next us i x h is) in
    omega (arith, next, first, second, sum, whole, so)

pub units-end : (us : List Exp) (i n : ℕ) → length us ≤ i → UnitsTo us i n → n ≡ helpers_in_units (exps_of us)
unfolding helpers_in
units-end us i n h so =
    let none : helpers_in_units (exps_of (drop i us)) ≡ 0 = ap (λ xs. helpers_in_units (exps_of xs)) (drop_all i us h) in
    omega (arith, none, so)
