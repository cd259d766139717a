-- The right side of `::` and `notin`: domains of values, and what a term is as a right side.
use Rattle.std.specs.Prelude.{◌≡◌, ◌↔◌, ℕ, zero, suc, ◌+◌, ◌<◌, ◌≤◌, ◌==◌, nat_lt, Bool, true, false, ◌&&◌, ◌||◌, cond, IsTrue, List, [], ◌∷◌, ◌++◌, length, map, take, drop, get_or, filter, Contains, ℤ, pos, negsuc, neg_ℤ, ◌+ℤ◌, ◌-ℤ◌, ◌*ℤ◌, ◌≤ℤ◌, int_le, FitsSigned, Option, Some, None, option_map, option_and_then, Result, Ok, Err, Vec, codes, refl}
use Rattle.std.specs.Int.{w128}
use Rattle.std.specs.List.{list_any, list_all}
use Rattle.std.specs.Ordering.{int_eq}
use Rattle.std.specs.Str.{bytes_eq}
use Rattle.std.specs.declared.alloc.Global.{Global}
use Rattle.std.proofs.Common.{arith, tests, rules, sym, ◌∙◌, ap, subst, append_assoc}
use Rattle.std.proofs.lemmas.Int.{ints}
use Rattle.std.proofs.lemmas.Slice.Eq.{bytes_eq-Decides}
use Rattle.std.proofs.lemmas.Bool.Decides.{Decides-int_eq}
use Rattle.std.proofs.lemmas.List.{take_more, take_all}
use lib.IntN.{suc_ℤ-*ℤ, zero-*ℤ}
use Rattle.pi_terms.specs.Tree.{Tree, var, int, atom, comp, Trees, no_trees, tree, tree_count, tree_at, args}
use Rattle.pi_terms.specs.Substitution.{instance}
use Rattle.pi_constraints.specs.declared.domain.Span.{Span}
use Rattle.pi_constraints.specs.declared.domain.TheConstants.{MAX_VALUE}
use Rattle.pi_constraints.specs.declared.fault.DomFault.{DomFault}
use Rattle.pi_constraints.specs.declared.fault.DomFault.TheVariants.{TooWide}
use Rattle.pi_constraints.specs.declared.store.Ref.{Ref}
use Rattle.pi_constraints.specs.declared.store.Cell.{Cell}
use Rattle.pi_constraints.specs.Domain.{IsWithinBounds, AscendFrom, IsDomain, has_value, span_has, overlap}
use Rattle.pi_constraints.specs.State.{bindings, followed, followed_for}
use Rattle.pi_constraints.specs.Store.{StoreView, IsTerm, IsName, ShowsCell}
use Rattle.pi_constraints.specs.Value.{Bindings, IsAcyclic, value}
use Rattle.pi_constraints.proofs.ClipLemmas.{whole, IsDomain-clip}
use Rattle.pi_constraints.proofs.CommonLemmas.{has_value-overlap}
use Rattle.pi_constraints.proofs.DomainLemmas.{same_values_same_domain}
use Rattle.pi_constraints.proofs.FollowLemmas.{followed_unbound}
use Rattle.pi_constraints.proofs.JoinLemmas.{listed as in-list, from_listed as of-list}
use Rattle.pi_constraints.proofs.RootLemmas.{with_values, value_int, value_atom, value_comp, value_at_root}
use Rattle.pi_constraints.proofs.ValueLemmas.{unbound_is_its_own_value}
use Rattle.pi_effects.specs.Answer.{Answer, integer_at, found_or}
use Rattle.pi_effects.specs.Collections.{list_then}
use Rattle.pi_effects.specs.Exception.{bad_range, range_too_long, type_error}
use Rattle.pi_effects.specs.Items.{list_items}
use Rattle.pi_effects.specs.Ranges.{most_items, count_by}
use Rattle.pi_effects.specs.Results.{ShowsSame, Stops}
use Rattle.pi_effects.specs.declared.fault.Fault.{Fault}
use Rattle.pi_effects.specs.declared.fault.Kind.{Kind}
use Rattle.pi_effects.specs.declared.fault.Stop.{Stop}
use Rattle.pi_effects.proofs.ItemLemmas.{items-by_root, items-by_value}
use Rattle.pi_effects.proofs.RangeLemmas.{value-fits}
use Rattle.pi_lib.specs.Steps.{value_after, AllFit}
use Rattle.pi_lib_builtin.specs.Items.{AreItems}
use Rattle.pi_lib_builtin.proofs.RowLemmas.{ItemAt, as-many, all-before}
use Rattle.pi_prop_read.specs.Refs.{IsThere, value_at}
use Rattle.pi_prop_read.proofs.RootLemmas.{IsArg, IsCompound, HasTwo, has-two, compound-shown, three-arguments, argument-there, argument-value, there, tree_is, value_is}
use Rattle.pi_settling.specs.RightSide.{RightSide, from_to, by_steps, these, range_of, range_by, integers_of, listed, is_range, right_side, domain_too_wide, unless_wide, range_judged, values_judged, steps_judged, step_judged, side_judged, judged_or, side_domain}
use Rattle.pi_settling.specs.Roots.{all_values}
use Rattle.pi_settling.specs.Values.{can_have, between, domain_of_values, gaps_from, all_but, numbers_by}
use Rattle.pi_settling.proofs.ValueLemmas.{values_are_a_domain, values_are_its_own, all_but_is_a_domain}
use Rattle.pi_lib_constraints.specs.Sides.{ShowsShape, ShowsJudged, ShowsNumbers, judged}
use Rattle.pi_lib_constraints.specs.declared.shapes.Shape.{Shape}
use Rattle.pi_lib_constraints.specs.declared.values.SideStop.{SideStop}

-- ---- a range

three-of : (w p q : Bool) → (((w || false) && p) && q) ≡ ((p && q) && w)
three-of true true true = refl
three-of true true false = refl
three-of true false q = refl
three-of false true true = refl
three-of false true false = refl
three-of false false q = refl

clip-has : (lo hi n : ℤ) → has_value all_values n ≡ (span_has whole n || false)
unfolding has_value
clip-has lo hi n = refl

pub clipped-is : (all above made : List Span) (lo hi low high : ℤ) → all ≡ all_values → ((n : ℤ) → has_value above n ≡ (has_value all n && int_le low n)) → ((n : ℤ) → has_value made n ≡ (has_value above n && int_le n high)) → IsDomain made → low ≡ lo → high ≡ hi →
    made ≡ overlap (record { lo = lo; hi = hi }) (record { lo = neg_ℤ MAX_VALUE; hi = MAX_VALUE })
clipped-is all above made lo hi low high is first second up l h =
    let s : Span = record { lo = low; hi = high } in
    let same : made ≡ overlap s whole =
    same_values_same_domain made (overlap s whole) up (IsDomain-clip s)
    (λ n. second n ∙ (ap (λ (b : Bool). b && int_le n high) (first n ∙ ap (λ (b : Bool). b && int_le low n) (ap (λ (d : List Span). has_value d n) is ∙ clip-has low high n))
    ∙ (three-of (span_has whole n) (int_le low n) (int_le n high) ∙ sym (has_value-overlap s whole n)))) in
    same ∙ (ap (λ (x : ℤ). overlap (record { lo = x; hi = high }) whole) l ∙ ap (λ (x : ℤ). overlap (record { lo = lo; hi = x }) whole) h)

pub is-wide : (b wide : Bool) (d : List Span) → wide ≡ b → wide ≡ true → ◌≡◌ {A = Answer (List Span)} (cond b (Err domain_too_wide) (Ok d)) (Err domain_too_wide)
is-wide true wide d is so = refl
is-wide false wide d is so = absurd (let both : true ≡ false = sym so ∙ is in cc)

pub isnt-wide : (b wide : Bool) (d : List Span) → wide ≡ b → wide ≡ false → ◌≡◌ {A = Answer (List Span)} (cond b (Err domain_too_wide) (Ok d)) (Ok d)
isnt-wide true wide d is so = absurd (let both : false ≡ true = sym so ∙ is in cc)
isnt-wide false wide d is so = refl

-- ---- values of a list

same-bool : (b t : Bool) → (b ≡ true → t ≡ true) → (t ≡ true → b ≡ true) → b ≡ t
same-bool true t h g = sym (h refl)
same-bool false true h g = g refl
same-bool false false h g = refl

true-is : (b : Bool) → IsTrue b → b ≡ true
true-is b h = search rules

is-true : (b : Bool) → b ≡ true → IsTrue b
is-true b e = subst (λ (c : Bool). IsTrue c) (sym e) (search rules)

can-within : (n : ℤ) → can_have n ≡ false → IsWithinBounds n → ⊥
can-within n e h = let p : can_have n ≡ true = grind (arith, ints, h.0, h.1) in let both : false ≡ true = sym e ∙ p in absurd cc

within-can : (n : ℤ) → (IsWithinBounds n → ⊥) → can_have n ≡ false
within-can n past = by (can_have n) refl
  where
    by : (b : Bool) → can_have n ≡ b → b ≡ false
    by true e = absurd (past (grind (arith, ints, e)))
    by false e = refl

each-within : (ns : List ℤ) → ((n : ℤ) → Contains ns n → (IsWithinBounds n → ⊥) → ⊥) → (n : ℤ) → Contains ns n → can_have n ≡ true
each-within ns none n at = by (can_have n) refl
  where
    by : (b : Bool) → can_have n ≡ b → b ≡ true
    by true e = refl
    by false e = absurd (none n at (can-within n e))

all-within : (ns : List ℤ) → ((n : ℤ) → Contains ns n → can_have n ≡ true) → list_all can_have ns ≡ true
all-within [] each = refl
all-within (n ∷ ns) each = (λ i. each n (0, omega arith, refl) i && all-within ns (λ m at. each m (suc at.0, omega (arith, at.1), at.2)) i)

not-all : (ns : List ℤ) (n : ℤ) → Contains ns n → can_have n ≡ false → list_all can_have ns ≡ false
not-all [] n at e = absurd (omega (arith, at.1))
not-all (m ∷ ns) n (zero, l, same) e = ap (λ (b : Bool). b && list_all can_have ns) (ap can_have same ∙ e)
not-all (m ∷ ns) n (suc k, l, same) e = ap (λ (b : Bool). can_have m && b) (not-all ns n (k, omega (arith, l), same) e) ∙ and-false (can_have m)
  where
    and-false : (b : Bool) → (b && false) ≡ false
    and-false true = refl
    and-false false = refl

both-true : (a b : Bool) → a ≡ true → b ≡ true → (a && b) ≡ true
both-true true b p q = q
both-true false b p q = absurd (let both : false ≡ true = p in cc)

second-true : (a b : Bool) → (a && b) ≡ true → b ≡ true
second-true true b e = e
second-true false b e = absurd (let both : false ≡ true = e in cc)

-- a domain of values that all can be had
list-same : (ns : List ℤ) (made : List Span) → IsDomain made → ((n : ℤ) → IsTrue (has_value made n) ↔ Contains ns n) → ((n : ℤ) → Contains ns n → can_have n ≡ true) → made ≡ domain_of_values ns
list-same ns made up says each =
    same_values_same_domain made (domain_of_values ns) up (values_are_a_domain ns)
    (λ n. same-bool (has_value made n) (can_have n && list_any (int_eq n) ns)
    (λ e. let at : Contains ns n = (says n).0 (is-true (has_value made n) e) in both-true (can_have n) (list_any (int_eq n) ns) (each n at) (of-list ns n at))
    (λ e. true-is (has_value made n) ((says n).1 (in-list ns n (second-true (can_have n) (list_any (int_eq n) ns) e))))
    ∙ sym (values_are_its_own ns n))

pub strict-made : (ns : List ℤ) (result : Result (List Span) DomFault) (made : List Span) → result ≡ Ok made → IsDomain made → ((n : ℤ) → IsTrue (has_value made n) ↔ Contains ns n) → ((result ≡ Err TooWide) ↔ ((n : ℤ) × Contains ns n × ¬ IsWithinBounds n)) →
    values_judged true ns ≡ Ok made
strict-made ns result made is up says wide =
    let each : (n : ℤ) → Contains ns n → can_have n ≡ true = each-within ns (λ n at past. let e : Ok made ≡ Err TooWide = sym is ∙ wide.1 (n, at, past) in cc) in
    ap (λ (b : Bool). unless_wide true b (domain_of_values ns)) (all-within ns each) ∙ ap Ok (sym (list-same ns made up says each))

pub strict-wide : (ns : List ℤ) (result : Result (List Span) DomFault) → result ≡ Err TooWide → ((result ≡ Err TooWide) ↔ ((n : ℤ) × Contains ns n × ¬ IsWithinBounds n)) → values_judged true ns ≡ Err domain_too_wide
strict-wide ns result is wide =
    let found = wide.0 is in
    ap (λ (b : Bool). unless_wide true b (domain_of_values ns)) (not-all ns found.0 found.1 (within-can found.0 found.2))

-- those that can be had
filter-has : (ns : List ℤ) (n : ℤ) → list_any (int_eq n) (filter can_have ns) ≡ (can_have n && list_any (int_eq n) ns)
filter-has [] n = sym (no-more (can_have n))
  where
    no-more : (b : Bool) → (b && false) ≡ false
    no-more true = refl
    no-more false = refl
filter-has (m ∷ ns) n = by (can_have m) (int_eq n m) refl refl (filter-has ns n)
  where
    kept : (c p q : Bool) → (p ≡ true → c ≡ true) → (p || (c && q)) ≡ (c && (p || q))
    kept true p q h = refl
    kept false true q h = absurd (let both : false ≡ true = h refl in cc)
    kept false false q h = refl

    gone : (c p q : Bool) → (p ≡ true → c ≡ false) → (c && q) ≡ (c && (p || q))
    gone false p q h = refl
    gone true true q h = absurd (let both : true ≡ false = h refl in cc)
    gone true false q h = refl

    by : (b p : Bool) → can_have m ≡ b → int_eq n m ≡ p → list_any (int_eq n) (filter can_have ns) ≡ (can_have n && list_any (int_eq n) ns) → list_any (int_eq n) (cond b (m ∷ filter can_have ns) (filter can_have ns)) ≡ (can_have n && (int_eq n m || list_any (int_eq n) ns))
    by true p can same rest =
        ap (λ (b : Bool). int_eq n m || b) rest ∙ kept (can_have n) (int_eq n m) (list_any (int_eq n) ns) (λ e. ap can_have ((Decides-int_eq n m).0 e) ∙ can)
    by false p can same rest = rest ∙ gone (can_have n) (int_eq n m) (list_any (int_eq n) ns) (λ e. ap can_have ((Decides-int_eq n m).0 e) ∙ can)

pub loose-made : (ns within lent : List ℤ) (made : List Span) → within ≡ filter can_have ns → lent ≡ within → IsDomain made → ((n : ℤ) → IsTrue (has_value made n) ↔ Contains lent n) → values_judged false ns ≡ Ok made
loose-made ns within lent made is same up says =
    let whole : lent ≡ filter can_have ns = same ∙ is in
    ap Ok (sym (same_values_same_domain made (domain_of_values ns) up (values_are_a_domain ns)
    (λ n. same-bool (has_value made n) (can_have n && list_any (int_eq n) ns)
    (λ e. sym (filter-has ns n) ∙ of-list (filter can_have ns) n (subst (λ (xs : List ℤ). Contains xs n) whole ((says n).0 (is-true (has_value made n) e))))
    (λ e. true-is (has_value made n) ((says n).1 (subst (λ (xs : List ℤ). Contains xs n) (sym whole) (in-list (filter can_have ns) n (filter-has ns n ∙ e)))))
    ∙ sym (values_are_its_own ns n))))

first-kept : (b : Bool) (m : ℤ) (ws us vs : List ℤ) → ws ≡ us ++ vs → cond b (m ∷ ws) ws ≡ cond b (m ∷ us) us ++ vs
first-kept true m ws us vs e = ap (λ (xs : List ℤ). m ∷ xs) e
first-kept false m ws us vs e = e

filter-append : (xs ys : List ℤ) → filter can_have (xs ++ ys) ≡ filter can_have xs ++ filter can_have ys
filter-append [] ys = refl
filter-append (x ∷ xs) ys = first-kept (can_have x) x (filter can_have (xs ++ ys)) (filter can_have xs) (filter can_have ys) (filter-append xs ys)

pub filter-more : (ns : List ℤ) (k : ℕ) (n : ℤ) (old new : List ℤ) → k < length ns → n ≡ get_or ns k (pos 0) → old ≡ filter can_have (take k ns) → new ≡ old ++ filter can_have (n ∷ []) → new ≡ filter can_have (take (k + 1) ns)
filter-more ns k n old new l e is pushed =
    pushed ∙ (ap (λ (xs : List ℤ). xs ++ filter can_have (n ∷ [])) is
    ∙ (sym (filter-append (take k ns) (n ∷ [])) ∙ (ap (λ (m : ℤ). filter can_have (take k ns ++ m ∷ [])) e ∙ ap (filter can_have) (sym (take_more ns k (pos 0) l)))))

pub filter-all : (ns : List ℤ) (k : ℕ) (old : List ℤ) → length ns ≤ k → old ≡ filter can_have (take k ns) → old ≡ filter can_have ns
filter-all ns k old l is = is ∙ ap (filter can_have) (take_all k ns l)

-- ---- values by a step

first-value : (low step : ℤ) → value_after low step 0 ≡ low
first-value low step = let none : pos 0 *ℤ step ≡ pos 0 = zero-*ℤ step in rw none (omega (arith, ints))

next-value : (low step : ℤ) (k : ℕ) → value_after low step (suc k) ≡ value_after (low +ℤ step) step k
next-value low step k = let more : pos (suc k) *ℤ step ≡ pos k *ℤ step +ℤ step = suc_ℤ-*ℤ (pos k) step in omega (arith, ints, more)

numbers-last : (k : ℕ) (low step : ℤ) → numbers_by (suc k) low step ≡ numbers_by k low step ++ value_after low step k ∷ []
unfolding numbers_by
numbers-last zero low step = ap (λ (n : ℤ). n ∷ []) (sym (first-value low step))
numbers-last (suc k) low step = ap (λ (ns : List ℤ). low ∷ ns) (numbers-last k (low +ℤ step) step ∙ ap (λ (n : ℤ). numbers_by k (low +ℤ step) step ++ n ∷ []) (sym (next-value low step k)))

pub numbers-none : (low step : ℤ) (ns : List ℤ) → ns ≡ [] → ns ≡ numbers_by 0 low step
unfolding numbers_by
numbers-none low step ns e = e

add-one : (k : ℕ) → suc k ≡ k + 1
add-one k = omega arith

pub numbers-more : (k : ℕ) (low step n : ℤ) (old new : List ℤ) → n ≡ value_after low step k → old ≡ numbers_by k low step → new ≡ old ++ n ∷ [] → new ≡ numbers_by (k + 1) low step
numbers-more k low step n old new e is pushed =
    pushed ∙ (ap (λ (ns : List ℤ). ns ++ n ∷ []) is ∙ (ap (λ (m : ℤ). numbers_by k low step ++ m ∷ []) e ∙ (sym (numbers-last k low step) ∙ ap (λ (j : ℕ). numbers_by j low step) (add-one k))))

pub all-fit : (low step high : ℤ) (count : ℕ) → FitsSigned w128 low → FitsSigned w128 high → count ≡ count_by low step high → AllFit low step count
all-fit low step high count f g e k l = value-fits low step high f g k (subst (λ (n : ℕ). k < n) e l)

not-zero : (strict : Bool) (low step high : ℤ) → (step ≡ pos 0 → ⊥) → step_judged strict low step high ≡ steps_judged strict low step high
not-zero strict low (pos zero) high other = absurd (other refl)
not-zero strict low (pos (suc n)) high other = refl
not-zero strict low (negsuc n) high other = refl

pub step-none : (strict : Bool) (low step high : ℤ) → step ≡ pos 0 → step_judged strict low step high ≡ Err bad_range
step-none strict low step high e = ap (λ (z : ℤ). step_judged strict low z high) e

less-true : (m n : ℕ) → m < n → nat_lt m n ≡ true
less-true m n l = grind (arith, tests, l)

less-false : (m n : ℕ) → n ≤ m → nat_lt m n ≡ false
less-false m n l = grind (arith, tests, l)

pub steps-long : (strict : Bool) (low step high : ℤ) → (step ≡ pos 0 → ⊥) → most_items < count_by low step high → step_judged strict low step high ≡ Err range_too_long
steps-long strict low step high other many =
    not-zero strict low step high other ∙ ap (λ (b : Bool). cond b (Err range_too_long) (values_judged strict (numbers_by (count_by low step high) low step))) (less-true most_items (count_by low step high) many)

pub steps-few : (strict : Bool) (low step high : ℤ) (count : ℕ) (ns : List ℤ) → (step ≡ pos 0 → ⊥) → count ≡ count_by low step high → count ≤ most_items → ns ≡ numbers_by count low step → step_judged strict low step high ≡ values_judged strict ns
steps-few strict low step high count ns other is few made =
    not-zero strict low step high other
    ∙ (ap (λ (b : Bool). cond b (Err range_too_long) (values_judged strict (numbers_by (count_by low step high) low step))) (less-false most_items (count_by low step high) (subst (λ (n : ℕ). n ≤ most_items) is few))
    ∙ ap (values_judged strict) (ap (λ (n : ℕ). numbers_by n low step) (sym is) ∙ sym made))

-- ---- what a term is as a right side

pub number-is : {M : Type 0} (v : StoreView M) (t : Tree) (n : ℤ) → IsAcyclic (bindings v.now.state) → followed (bindings v.now.state) t ≡ int n → Some n ≡ integer_at (value (bindings v.now.state) t)
number-is v t n a e = sym (ap integer_at (value_at_root (bindings v.now.state) t (int n) a e ∙ value_int (bindings v.now.state) n))

pub no-number-var : {M : Type 0} (v : StoreView M) (t : Tree) (n : ℕ) → IsAcyclic (bindings v.now.state) → followed (bindings v.now.state) t ≡ var n → None ≡ integer_at (value (bindings v.now.state) t)
no-number-var v t n a e =
    let b : Bindings = bindings v.now.state in
    sym (ap integer_at (value_at_root b t (var n) a e ∙ unbound_is_its_own_value b n (followed_unbound b t n a e)))

pub no-number-atom : {M : Type 0} (v : StoreView M) (t : Tree) (k : ℕ) → IsAcyclic (bindings v.now.state) → ShowsCell v (followed (bindings v.now.state) t) (Cell.Atom k) → None ≡ integer_at (value (bindings v.now.state) t)
no-number-atom v t k a (name, is, e) = sym (ap integer_at (value_at_root (bindings v.now.state) t (atom name) a e ∙ value_atom (bindings v.now.state) name))

pub no-number-comp : {M : Type 0} (v : StoreView M) (t : Tree) (k count : ℕ) → IsAcyclic (bindings v.now.state) → ShowsCell v (followed (bindings v.now.state) t) (Cell.Comp k count) → None ≡ integer_at (value (bindings v.now.state) t)
no-number-comp v t k count a (name, is, e, many) =
    let us : Trees = args (followed (bindings v.now.state) t) in
    sym (ap integer_at (value_at_root (bindings v.now.state) t (comp name us) a e ∙ value_comp (bindings v.now.state) name us))

-- ---- shapes

compound-at : {M : Type 0} (v : StoreView M) (r : Ref) (t : Tree) (k count : ℕ) → IsAcyclic (bindings v.now.state) → IsTerm v r t → (shown : ShowsCell v (followed (bindings v.now.state) t) (Cell.Comp k count)) → IsCompound v r shown.0 count
compound-at v r t k count a is (name, named, e, many) =
    compound-shown v r k count name a (subst (λ (u : Tree). ShowsCell v (followed (bindings v.now.state) u) (Cell.Comp k count)) (sym (tree_is v.now r t is)) (name, named, e, many))
    (λ other so. let same : Some name ≡ Some other = sym named ∙ so in cc)

same-bytes : (xs ys : List ℕ) → bytes_eq xs ys ≡ true → xs ≡ ys
same-bytes xs ys e = (bytes_eq-Decides xs ys).0 e

same-name : (name : List ℕ) (b : Bool) → b ≡ bytes_eq name (codes "..") → b ≡ true → name ≡ codes ".."
same-name name b is so = same-bytes name (codes "..") (sym is ∙ so)

pub shape-range : {M : Type 0} (v : StoreView M) (r p q : Ref) (t : Tree) (k count : ℕ) (ranged : Bool) → IsAcyclic (bindings v.now.state) → IsTerm v r t → (shown : ShowsCell v (followed (bindings v.now.state) t) (Cell.Comp k count)) →
    ((f : List ℕ) → IsName v k f → ranged ≡ bytes_eq f (codes "..")) → ranged ≡ true → count ≡ 2 → IsArg v r 0 p → IsArg v r 1 q → ShowsShape v.now t (Shape.Range p q)
shape-range v r p q t k count ranged a is shown named so two first second =
    let h : HasTwo v r p q shown.0 = has-two v r p q count shown.0 a (there v.now r t is) (compound-at v r t k count a is shown) two first second in (
      sym (value_is v.now r t is) ∙ (h.value ∙ ap (λ (f : List ℕ). comp f (tree (value_at v.now p) (tree (value_at v.now q) no_trees))) (same-name shown.0 ranged (named shown.0 shown.1) so)),
      h.first,
      h.second,
    )

pub shape-steps : {M : Type 0} (v : StoreView M) (r p q x : Ref) (t : Tree) (k count : ℕ) (ranged : Bool) → IsAcyclic (bindings v.now.state) → IsTerm v r t → (shown : ShowsCell v (followed (bindings v.now.state) t) (Cell.Comp k count)) →
    ((f : List ℕ) → IsName v k f → ranged ≡ bytes_eq f (codes "..")) → ranged ≡ true → count ≡ 3 → IsArg v r 0 p → IsArg v r 1 q → IsArg v r 2 x → ShowsShape v.now t (Shape.Steps p q x)
unfolding instance tree_at
shape-steps v r p q x t k count ranged a is shown named so size first second third =
    let b : Bindings = bindings v.now.state in
    let c : IsCompound v r shown.0 count = compound-at v r t k count a is shown in
    let here : IsThere v.now r = there v.now r t is in
    let three = three-arguments c.trees (sym c.size ∙ size) in
    let one : IsTerm v p three.0 = argument-there v r p 0 (comp shown.0 c.trees) three.0 here a c.root (ap (λ ts. tree_at ts 0) three.3) first in
    let two : IsTerm v q three.1 = argument-there v r q 1 (comp shown.0 c.trees) three.1 here a c.root (ap (λ ts. tree_at ts 1) three.3) second in
    let last : IsTerm v x three.2 = argument-there v r x 2 (comp shown.0 c.trees) three.2 here a c.root (ap (λ ts. tree_at ts 2) three.3) third in (
      sym (value_is v.now r t is)
          ∙ (c.value
          ∙ (ap (λ ts. comp shown.0 (with_values b ts)) three.3
          ∙ ((λ j. comp shown.0 (tree (argument-value v.now p three.0 one j) (tree (argument-value v.now q three.1 two j) (tree (argument-value v.now x three.2 last j) no_trees))))
          ∙ ap (λ (f : List ℕ). comp f (tree (value_at v.now p) (tree (value_at v.now q) (tree (value_at v.now x) no_trees)))) (same-name shown.0 ranged (named shown.0 shown.1) so)))),
      there v.now p three.0 one,
      there v.now q three.1 two,
      there v.now x three.2 last,
    )

-- a term that is no range
abbrev IsOther : Tree → Type 0
IsOther u = right_side u ≡ listed u

no-bindings : IsAcyclic []
no-bindings = record { rank = λ n. 0; falls = λ n m u h o. absurd (cc) }

listed-three : (name : List ℕ) (x y z : Tree) → listed (comp name (tree x (tree y (tree z no_trees)))) ≡ None
unfolding followed followed_for
listed-three name x y z = ap (λ (o : Option (List Tree)). option_map these (option_and_then integers_of o)) (items-by_root [] (comp name (tree x (tree y (tree z no_trees)))) no-bindings)

two-other : (c : Bool) (o p : Option RightSide) → c ≡ false → cond c o p ≡ p
two-other c o p e = ap (λ (d : Bool). cond d o p) e

name-other : (b : Bindings) (name : List ℕ) (us : Trees) → is_range name ≡ false → IsOther (comp name (with_values b us))
unfolding right_side instance
name-other b name no_trees e = refl
name-other b name (tree x no_trees) e = refl
name-other b name (tree x (tree y no_trees)) e = two-other (is_range name) _ _ e
name-other b name (tree x (tree y (tree z no_trees))) e = two-other (is_range name) _ _ e ∙ sym (listed-three name _ _ _)
name-other b name (tree x (tree y (tree z (tree u us)))) e = refl

count-other : (b : Bindings) (name : List ℕ) (us : Trees) (count : ℕ) → count ≡ tree_count us → (count == 2) ≡ false → (count == 3) ≡ false → IsOther (comp name (with_values b us))
unfolding right_side instance tree_count
count-other b name no_trees count e two three = refl
count-other b name (tree x no_trees) count e two three = refl
count-other b name (tree x (tree y no_trees)) count e two three = absurd (grind (arith, tests, e, two))
count-other b name (tree x (tree y (tree z no_trees))) count e two three = absurd (grind (arith, tests, e, three))
count-other b name (tree x (tree y (tree z (tree u us)))) count e two three = refl

pub shape-named : {M : Type 0} (v : StoreView M) (r : Ref) (t : Tree) (k count : ℕ) (ranged : Bool) → IsAcyclic (bindings v.now.state) → IsTerm v r t → (shown : ShowsCell v (followed (bindings v.now.state) t) (Cell.Comp k count)) →
    ((f : List ℕ) → IsName v k f → ranged ≡ bytes_eq f (codes "..")) → ranged ≡ false → ShowsShape v.now t Shape.Other
shape-named v r t k count ranged a is shown named so =
    let c : IsCompound v r shown.0 count = compound-at v r t k count a is shown in
    subst IsOther (sym (sym (value_is v.now r t is) ∙ c.value)) (name-other (bindings v.now.state) shown.0 c.trees (sym (named shown.0 shown.1) ∙ so))

pub shape-counted : {M : Type 0} (v : StoreView M) (r : Ref) (t : Tree) (k count : ℕ) → IsAcyclic (bindings v.now.state) → IsTerm v r t → (shown : ShowsCell v (followed (bindings v.now.state) t) (Cell.Comp k count)) → (count == 2) ≡ false → (count == 3) ≡ false →
    ShowsShape v.now t Shape.Other
shape-counted v r t k count a is shown two three =
    let c : IsCompound v r shown.0 count = compound-at v r t k count a is shown in
    subst IsOther (sym (sym (value_is v.now r t is) ∙ c.value)) (count-other (bindings v.now.state) shown.0 c.trees count c.size two three)

pub shape-other : {M : Type 0} (v : StoreView M) (t : Tree) (cell : Cell) → IsAcyclic (bindings v.now.state) → ShowsCell v (followed (bindings v.now.state) t) cell → ((k count : ℕ) → cell ≡ Cell.Comp k count → ⊥) → ShowsShape v.now t Shape.Other
unfolding right_side
shape-other v t (Cell.Var n) a e other =
    let b : Bindings = bindings v.now.state in
    subst IsOther (sym (value_at_root b t (var n) a e ∙ unbound_is_its_own_value b n (followed_unbound b t n a e))) refl
shape-other v t (Cell.Int i) a e other = subst IsOther (sym (value_at_root (bindings v.now.state) t (int i) a e ∙ value_int (bindings v.now.state) i)) refl
shape-other v t (Cell.Atom k) a (name, is, e) other = subst IsOther (sym (value_at_root (bindings v.now.state) t (atom name) a e ∙ value_atom (bindings v.now.state) name)) refl
shape-other v t (Cell.Comp k count) a shown other = absurd (other k count refl)

-- ---- what a body answers

pub no-side : {M : Type 0} (v : StoreView M) (r : Ref) (t : Tree) (strict : Bool) (o : Option RightSide) → IsTerm v r t → o ≡ None → ShowsSame v (Err (Stop.Raised (Fault.WrongKind Kind.Domain r))) (judged_or strict (type_error (codes "domain") t v.now.state) o)
no-side v r t strict o is e = (type_error (codes "domain") t v.now.state, ap (judged_or strict (type_error (codes "domain") t v.now.state)) e, (t, is, refl))

pub judged-shown : {M : Type 0} (v : StoreView M) (made : Result (List Span) SideStop) (told : Result (List Span) Stop) (ball : Tree) (strict : Bool) (o : Option RightSide) (side : RightSide) → told ≡ judged made → o ≡ Some side → ShowsJudged made (side_judged strict side) →
    ShowsSame v told (judged_or strict ball o)
judged-shown v made told ball strict o side is at shows = subst (λ (x : Result (List Span) Stop). ShowsSame v x (judged_or strict ball o)) (sym is) (subst (λ (p : Option RightSide). ShowsSame v (judged made) (judged_or strict ball p)) (sym at) (by made shows))
  where
    by : (m : Result (List Span) SideStop) → ShowsJudged m (side_judged strict side) → ShowsSame v (judged m) (side_judged strict side)
    by (Ok d) h = h
    by (Err SideStop.TooWide) h = (domain_too_wide, h, refl)
    by (Err SideStop.NoStep) h = (bad_range, h, refl)
    by (Err SideStop.TooLong) h = (range_too_long, h, refl)
    by (Err SideStop.Memory) h = tt

pub range-first : (x y : Tree) → None ≡ integer_at x → range_of x y ≡ None
range-first x y e = ap (option_and_then (λ lo. option_map (from_to lo) (integer_at y))) (sym e)

pub range-second : (x y : Tree) (lo : ℤ) → Some lo ≡ integer_at x → None ≡ integer_at y → range_of x y ≡ None
range-second x y lo first e = ap (option_and_then (λ m. option_map (from_to m) (integer_at y))) (sym first) ∙ ap (option_map (from_to lo)) (sym e)

pub range-both : (x y : Tree) (lo hi : ℤ) → Some lo ≡ integer_at x → Some hi ≡ integer_at y → range_of x y ≡ Some (from_to lo hi)
range-both x y lo hi first second = ap (option_and_then (λ m. option_map (from_to m) (integer_at y))) (sym first) ∙ ap (option_map (from_to lo)) (sym second)

abbrev behind-low : Tree → Tree → ℤ → Option RightSide
behind-low y z lo = option_and_then (λ step. option_map (by_steps lo step) (integer_at z)) (integer_at y)

pub steps-first : (x y z : Tree) → None ≡ integer_at x → range_by x y z ≡ None
steps-first x y z e = ap (option_and_then (behind-low y z)) (sym e)

pub steps-second : (x y z : Tree) (lo : ℤ) → Some lo ≡ integer_at x → None ≡ integer_at y → range_by x y z ≡ None
steps-second x y z lo first e = ap (option_and_then (behind-low y z)) (sym first) ∙ ap (option_and_then (λ step. option_map (by_steps lo step) (integer_at z))) (sym e)

pub steps-third : (x y z : Tree) (lo step : ℤ) → Some lo ≡ integer_at x → Some step ≡ integer_at y → None ≡ integer_at z → range_by x y z ≡ None
steps-third x y z lo step first second e =
    ap (option_and_then (behind-low y z)) (sym first) ∙ (ap (option_and_then (λ m. option_map (by_steps lo m) (integer_at z))) (sym second) ∙ ap (option_map (by_steps lo step)) (sym e))

pub steps-all : (x y z : Tree) (lo step hi : ℤ) → Some lo ≡ integer_at x → Some step ≡ integer_at y → Some hi ≡ integer_at z → range_by x y z ≡ Some (by_steps lo step hi)
steps-all x y z lo step hi first second third =
    ap (option_and_then (behind-low y z)) (sym first) ∙ (ap (option_and_then (λ m. option_map (by_steps lo m) (integer_at z))) (sym second) ∙ ap (option_map (by_steps lo step)) (sym third))

-- the numbers that a call was handed stand by their bits
pub range-at : (made : Result (List Span) SideStop) (strict : Bool) (lo hi low high : ℤ) → low ≡ lo → high ≡ hi → ShowsJudged made (range_judged strict low high) → ShowsJudged made (range_judged strict lo hi)
range-at made strict lo hi low high l h shows = subst (λ (x : ℤ). ShowsJudged made (range_judged strict x hi)) l (subst (λ (x : ℤ). ShowsJudged made (range_judged strict low x)) h shows)

pub steps-at : (made : Result (List Span) SideStop) (strict : Bool) (lo step hi low by high : ℤ) → low ≡ lo → by ≡ step → high ≡ hi → ShowsJudged made (step_judged strict low by high) → ShowsJudged made (step_judged strict lo step hi)
steps-at made strict lo step hi low by high l b h shows =
    subst (λ (x : ℤ). ShowsJudged made (step_judged strict x step hi)) l (subst (λ (x : ℤ). ShowsJudged made (step_judged strict low x hi)) b (subst (λ (x : ℤ). ShowsJudged made (step_judged strict low by x)) h shows))

-- ---- lists

pub listed-none : (u : Tree) → option_and_then integers_of (list_items [] u) ≡ None → listed u ≡ None
listed-none u e = ap (option_map these) e

pub listed-some : (u : Tree) (is : List ℤ) → option_and_then integers_of (list_items [] u) ≡ Some is → listed u ≡ Some (these is)
listed-some u is e = ap (option_map these) e

found-all : (o : Option (List Tree)) (ball : Tree) (ts : List Tree) → found_or o ball (λ us. Ok us) ≡ Ok ts → o ≡ Some ts
found-all None ball ts e = absurd cc
found-all (Some us) ball ts e = cc

found-none : (o : Option (List Tree)) (ball other : Tree) → found_or o ball (λ us. Ok us) ≡ Err other → o ≡ None
found-none None ball other e = refl
found-none (Some us) ball other e = absurd cc

pub list-numbers : {M : Type 0} (v : StoreView M) (t : Tree) (ts : List Tree) (found : Option (Vec ℤ Global)) → IsAcyclic (bindings v.now.state) → list_then v.now.state t (λ us. Ok us) ≡ Ok ts → ShowsNumbers found (integers_of (map (value (bindings v.now.state)) ts)) →
    ShowsNumbers found (option_and_then integers_of (list_items [] (value (bindings v.now.state) t)))
list-numbers v t ts found a is shows =
    let b : Bindings = bindings v.now.state in
    subst (λ (o : Option (List Tree)). ShowsNumbers found (option_and_then integers_of o)) (sym (ap (option_map (map (value b))) (found-all (list_items b t) _ ts is)) ∙ items-by_value b t a) shows

pub no-list : {M : Type 0} (v : StoreView M) (t : Tree) (stop : Fault) → IsAcyclic (bindings v.now.state) → Stops v (Stop.Raised stop) (list_then v.now.state t (λ us. Ok us)) → option_and_then integers_of (list_items [] (value (bindings v.now.state) t)) ≡ None
no-list v t stop a (ball, is, told) =
    let b : Bindings = bindings v.now.state in
    ap (option_and_then integers_of) (sym (items-by_value b t a) ∙ ap (option_map (map (value b))) (found-none (list_items b t) _ ball is))

map-last : (f : Tree → Tree) (ts : List Tree) (t : Tree) → map f (ts ++ t ∷ []) ≡ map f ts ++ f t ∷ []
map-last f [] t = refl
map-last f (u ∷ ts) t = ap (λ (us : List Tree). f u ∷ us) (map-last f ts t)

integers-last : (ts : List Tree) (t : Tree) (is : List ℤ) (i : ℤ) → integers_of ts ≡ Some is → Some i ≡ integer_at t → integers_of (ts ++ t ∷ []) ≡ Some (is ++ i ∷ [])
unfolding integers_of
integers-last [] t is i first last = ap (option_and_then (λ j. option_map (λ js. j ∷ js) (Some []))) (sym last) ∙ ap (λ (js : List ℤ). Some (js ++ i ∷ [])) (let e : [] ≡ is = cc in e)
integers-last (u ∷ ts) t is i first last = by (integer_at u) (integers_of ts) refl first (λ js h. integers-last ts t js i h last)
  where
    by : (o : Option ℤ) (p : Option (List ℤ)) → integers_of ts ≡ p → option_and_then (λ j. option_map (λ js. j ∷ js) p) o ≡ Some is → ((js : List ℤ) → integers_of ts ≡ Some js → integers_of (ts ++ t ∷ []) ≡ Some (js ++ i ∷ [])) →
        option_and_then (λ j. option_map (λ js. j ∷ js) (integers_of (ts ++ t ∷ []))) o ≡ Some (is ++ i ∷ [])
    by None p at e rest = absurd cc
    by (Some j) None at e rest = absurd cc
    by (Some j) (Some js) at e rest = let same : j ∷ js ≡ is = cc in ap (option_map (λ ks. j ∷ ks)) (rest js at) ∙ ap (λ (ks : List ℤ). Some (ks ++ i ∷ [])) same

integers-none : (ts us : List Tree) (t : Tree) → None ≡ integer_at t → integers_of (ts ++ t ∷ us) ≡ None
unfolding integers_of
integers-none [] us t e = ap (option_and_then (λ j. option_map (λ js. j ∷ js) (integers_of us))) (sym e)
integers-none (u ∷ ts) us t e = ap (λ (p : Option (List ℤ)). option_and_then (λ j. option_map (λ js. j ∷ js) p) (integer_at u)) (integers-none ts us t e) ∙ by (integer_at u)
  where
    by : (o : Option ℤ) → option_and_then (λ j. option_map (λ js. j ∷ js) None) o ≡ None
    by None = refl
    by (Some j) = refl

pub numbers-start : (b : Bindings) (ts : List Tree) (ns : List ℤ) → ns ≡ [] → integers_of [] ≡ Some ns
unfolding integers_of
numbers-start b ts ns e = ap Some (sym e)

pub numbers-goes : {M : Type 0} (v : StoreView M) (ts : List Tree) (k : ℕ) (r : Ref) (n : ℤ) (old new : List ℤ) → (at : ItemAt v ts k r) → integers_of (map (value (bindings v.now.state)) (take k ts)) ≡ Some old → Some n ≡ integer_at (value (bindings v.now.state) at.it) →
    new ≡ old ++ n ∷ [] → integers_of (map (value (bindings v.now.state)) (take (k + 1) ts)) ≡ Some new
numbers-goes v ts k r n old new at so is pushed =
    let f : Tree → Tree = value (bindings v.now.state) in
    ap (λ (j : ℕ). integers_of (map f (take j ts))) (sym (add-one k))
    ∙ (ap (λ (us : List Tree). integers_of (map f us)) at.before
    ∙ (ap integers_of (map-last f (take k ts) at.it) ∙ (integers-last (map f (take k ts)) (f at.it) old n so is ∙ ap Some (sym pushed))))

parted : (ts : List Tree) (k : ℕ) → ts ≡ take k ts ++ drop k ts
parted [] zero = refl
parted [] (suc k) = refl
parted (t ∷ ts) zero = refl
parted (t ∷ ts) (suc k) = ap (λ (us : List Tree). t ∷ us) (parted ts k)

map-parts : (f : Tree → Tree) (ts us : List Tree) (t : Tree) → map f (ts ++ t ∷ us) ≡ map f ts ++ f t ∷ map f us
map-parts f [] us t = refl
map-parts f (u ∷ ts) us t = ap (λ (xs : List Tree). f u ∷ xs) (map-parts f ts us t)

pub numbers-stop : {M : Type 0} (v : StoreView M) (ts : List Tree) (k : ℕ) (r : Ref) → (at : ItemAt v ts k r) → None ≡ integer_at (value (bindings v.now.state) at.it) → integers_of (map (value (bindings v.now.state)) ts) ≡ None
numbers-stop v ts k r at is =
    let f : Tree → Tree = value (bindings v.now.state) in
    ap (λ (us : List Tree). integers_of (map f us)) (parted ts k ∙ ap (λ (us : List Tree). take k ts ++ us) at.behind)
    ∙ (ap integers_of (map-parts f (take k ts) (drop (suc k) ts) at.it) ∙ integers-none (map f (take k ts)) (map f (drop (suc k) ts)) (f at.it) is)

-- what a call was handed stands by its bits
pub numbers-at : (k : ℕ) (low step by to : ℤ) (ns : List ℤ) → by ≡ low → to ≡ step → ns ≡ numbers_by k by to → ns ≡ numbers_by k low step
numbers-at k low step by to ns l s is = is ∙ (ap (λ (x : ℤ). numbers_by k x to) l ∙ ap (numbers_by k low) s)

pub of-three : {A : Type 0} (f : ℤ → ℤ → ℤ → A) (x y z a b c : ℤ) → a ≡ x → b ≡ y → c ≡ z → f a b c ≡ f x y z
of-three f x y z a b c p q r = (λ i. f (p i) (q i) (r i))

-- ---- the whole side

range-side : (u x y : Tree) → u ≡ comp (codes "..") (tree x (tree y no_trees)) → right_side u ≡ range_of x y
unfolding right_side
range-side u x y e = ap right_side e

steps-side : (u x y z : Tree) → u ≡ comp (codes "..") (tree x (tree y (tree z no_trees))) → right_side u ≡ range_by x y z
unfolding right_side
steps-side u x y z e = ap right_side e

pub side-shown : {M : Type 0} (v : StoreView M) (t : Tree) (strict : Bool) (result : Result (List Span) Stop) (o : Option RightSide) → right_side (value (bindings v.now.state) t) ≡ o → ShowsSame v result (judged_or strict (type_error (codes "domain") t v.now.state) o) →
    ShowsSame v result (side_domain strict v.now.state t)
side-shown v t strict result o e shows = subst (λ (p : Option RightSide). ShowsSame v result (judged_or strict (type_error (codes "domain") t v.now.state) p)) (sym e) shows

pub side-range : {M : Type 0} (v : StoreView M) (t : Tree) (strict : Bool) (result : Result (List Span) Stop) (a b : Ref) → ShowsShape v.now t (Shape.Range a b) →
    ShowsSame v result (judged_or strict (type_error (codes "domain") t v.now.state) (range_of (value_at v.now a) (value_at v.now b))) → ShowsSame v result (side_domain strict v.now.state t)
side-range v t strict result a b h shows = side-shown v t strict result (range_of (value_at v.now a) (value_at v.now b)) (range-side (value (bindings v.now.state) t) (value_at v.now a) (value_at v.now b) h.0) shows

pub side-steps : {M : Type 0} (v : StoreView M) (t : Tree) (strict : Bool) (result : Result (List Span) Stop) (a b d : Ref) → ShowsShape v.now t (Shape.Steps a b d) →
    ShowsSame v result (judged_or strict (type_error (codes "domain") t v.now.state) (range_by (value_at v.now a) (value_at v.now b) (value_at v.now d))) → ShowsSame v result (side_domain strict v.now.state t)
side-steps v t strict result a b d h shows =
    side-shown v t strict result (range_by (value_at v.now a) (value_at v.now b) (value_at v.now d)) (steps-side (value (bindings v.now.state) t) (value_at v.now a) (value_at v.now b) (value_at v.now d) h.0) shows

pub some-numbers : (found : Option (Vec ℤ Global)) (numbers : Vec ℤ Global) (o : Option (List ℤ)) → found ≡ Some numbers → ShowsNumbers found o → o ≡ Some numbers.items
some-numbers found numbers o is shows = subst (λ (f : Option (Vec ℤ Global)). ShowsNumbers f o) is shows

pub none-numbers : (found : Option (Vec ℤ Global)) (o : Option (List ℤ)) → found ≡ None → ShowsNumbers found o → o ≡ None
none-numbers found o is shows = subst (λ (f : Option (Vec ℤ Global)). ShowsNumbers f o) is shows

pub numbers-all : {M : Type 0} (v : StoreView M) (rs : List Ref) (ts : List Tree) (k : ℕ) (ns : List ℤ) → AreItems v rs ts → length rs ≤ k → integers_of (map (value (bindings v.now.state)) (take k ts)) ≡ Some ns → integers_of (map (value (bindings v.now.state)) ts) ≡ Some ns
numbers-all v rs ts k ns are l so =
    ap (λ (us : List Tree). integers_of (map (value (bindings v.now.state)) us)) (sym (all-before ts k (let many : length ts ≡ length rs = as-many v rs ts are in omega (arith, many, l)))) ∙ so

-- ---- the values that a domain lacks

spans-within : (least : ℤ) (ss : List Span) (k : ℕ) (d : Span) → neg_ℤ MAX_VALUE ≤ℤ least → AscendFrom least ss → k < length ss → IsWithinBounds (get_or ss k d).lo × IsWithinBounds (get_or ss k d).hi
unfolding AscendFrom
spans-within least [] k d low h l = absurd (omega (arith, l))
spans-within least (s ∷ ss) zero d low h l = ((omega (arith, ints, low, h.0), omega (arith, ints, h.1, h.2)), (omega (arith, ints, low, h.0, h.1), h.2))
spans-within least (s ∷ ss) (suc k) d low h l = spans-within (s.hi +ℤ pos 2) ss k d (omega (arith, ints, low, h.0, h.1)) h.3 (omega (arith, l))

pub span-within : (ss : List Span) (k : ℕ) (d : Span) → IsDomain ss → k < length ss → IsWithinBounds (get_or ss k d).lo × IsWithinBounds (get_or ss k d).hi
span-within ss k d h l = spans-within (neg_ℤ MAX_VALUE) ss k d (omega (arith, ints)) h l

drop-more : (ss : List Span) (k : ℕ) (d : Span) → k < length ss → drop k ss ≡ get_or ss k d ∷ drop (suc k) ss
drop-more [] k d l = absurd (omega (arith, l))
drop-more (s ∷ ss) zero d l = refl
drop-more (s ∷ ss) (suc k) d l = drop-more ss k d (omega (arith, l))

drop-all : (ss : List Span) (k : ℕ) → length ss ≤ k → drop k ss ≡ []
drop-all [] zero l = refl
drop-all [] (suc k) l = refl
drop-all (s ∷ ss) zero l = absurd (omega (arith, l))
drop-all (s ∷ ss) (suc k) l = drop-all ss k (omega (arith, l))

gaps-first : (least : ℤ) (s : Span) (ss : List Span) → gaps_from least (s ∷ ss) ≡ between least (s.lo -ℤ pos 1) ++ gaps_from (s.hi +ℤ pos 1) ss
unfolding gaps_from
gaps-first least s ss = refl

gaps-none : (least : ℤ) → gaps_from least [] ≡ between least MAX_VALUE
unfolding gaps_from
gaps-none least = refl

pub gaps-start : (ss gaps : List Span) (least : ℤ) → gaps ≡ [] → least ≡ neg_ℤ MAX_VALUE → gaps ++ gaps_from least ss ≡ gaps_from (neg_ℤ MAX_VALUE) ss
gaps-start ss gaps least none e = ap (λ (gs : List Span). gs ++ gaps_from least ss) none ∙ ap (λ (x : ℤ). gaps_from x ss) e

pub gaps-more : (ss : List Span) (k : ℕ) (d s : Span) (least next : ℤ) (old new whole : List Span) → k < length ss → s ≡ get_or ss k d → old ++ gaps_from least (drop k ss) ≡ whole → next ≡ s.hi +ℤ pos 1 → new ≡ old ++ between least (s.lo -ℤ pos 1) →
    new ++ gaps_from next (drop (k + 1) ss) ≡ whole
gaps-more ss k d s least next old new whole l e so is pushed =
    ap (λ (gs : List Span). gs ++ gaps_from next (drop (k + 1) ss)) pushed
    ∙ (append_assoc old (between least (s.lo -ℤ pos 1)) (gaps_from next (drop (k + 1) ss))
    ∙ (ap (λ (x : ℤ). old ++ (between least (s.lo -ℤ pos 1) ++ gaps_from x (drop (k + 1) ss))) is
    ∙ (ap (λ (j : ℕ). old ++ (between least (s.lo -ℤ pos 1) ++ gaps_from (s.hi +ℤ pos 1) (drop j ss))) (sym (add-one k))
    ∙ (ap (λ (gs : List Span). old ++ gs) (sym (gaps-first least s (drop (suc k) ss)))
    ∙ (ap (λ (t : Span). old ++ gaps_from least (t ∷ drop (suc k) ss)) e ∙ (ap (λ (qs : List Span). old ++ gaps_from least qs) (sym (drop-more ss k d l)) ∙ so))))))

pub gaps-end : (ss d : List Span) (k : ℕ) (least : ℤ) (old new : List Span) → length ss ≤ k → ss ≡ d → old ++ gaps_from least (drop k ss) ≡ gaps_from (neg_ℤ MAX_VALUE) ss → new ≡ old ++ between least MAX_VALUE → new ≡ all_but d
gaps-end ss d k least old new l e so pushed =
    pushed ∙ (ap (λ (gs : List Span). old ++ gs) (sym (gaps-none least)) ∙ (ap (λ (qs : List Span). old ++ gaps_from least qs) (sym (drop-all ss k l)) ∙ (so ∙ ap (gaps_from (neg_ℤ MAX_VALUE)) e)))

pub others-domain : (d made : List Span) → made ≡ all_but d → IsDomain d → IsDomain made
others-domain d made e up = subst IsDomain (sym e) (all_but_is_a_domain d up)
