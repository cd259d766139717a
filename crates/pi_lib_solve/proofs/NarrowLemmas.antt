-- What an alternative leaves of a variable.
use Rattle.std.specs.Prelude.{◌≡◌, ℕ, suc, ◌<◌, ◌≤◌, ◌&&◌, ◌||◌, Bool, true, false, not, IsTrue, List, [], ◌∷◌, ◌++◌, Option, Some, None, ℤ, pos, ◌+ℤ◌, int_le, refl}
use Rattle.std.specs.Int.{int_gap}
use Rattle.std.specs.Ordering.{is_eq, int_cmp}
use Rattle.std.proofs.Common.{arith, sym, ◌∙◌, ap, subst}
use Rattle.std.proofs.lemmas.Int.{ints}
use Rattle.pi_terms.specs.Tree.{var, int}
use Rattle.pi_constraints.specs.declared.domain.Span.{Span}
use Rattle.pi_constraints.specs.declared.store.Ref.{Ref}
use Rattle.pi_constraints.specs.Domain.{AscendFrom, IsDomain, IsWithinBounds, has_value, numbers_from, values_of, size_of}
use Rattle.pi_constraints.specs.State.{State, IsState, bindings, domain_of, domain_at_root, followed, next, with_binding, with_domain}
use Rattle.pi_constraints.specs.Store.{StoreView, IsTerm}
use Rattle.pi_constraints.specs.Stored.{stored}
use Rattle.pi_constraints.proofs.DomainLemmas.{gap_is, same_values_same_domain, values_are_within_bounds}
use Rattle.pi_constraints.proofs.FollowLemmas.{followed_itself}
use Rattle.pi_constraints.proofs.StateLemmas.{domain_unbound}
use Rattle.pi_lib_constraints.specs.Kept.{LeadsToVariable}
use Rattle.pi_lib_constraints.proofs.KeepLemmas.{left-by}
use Rattle.pi_settling.specs.Choices.{Alternative, is_value, at_most, above, allows, left_by, with_values, narrowed_to}
use Rattle.pi_settling.specs.Roots.{only}
use Rattle.pi_settling.proofs.LabelNarrows.{left_is_a_domain}
use Rattle.pi_settling.proofs.LeftLemmas.{left_is_allowed}
use Rattle.pi_settling.proofs.UniqueLemmas.{domain_made}
use Rattle.pi_lib_solve.proofs.ChoiceLemmas.{stored-is, domain-is}

-- the Ref of a variable with a domain
pub leads-to : {M : Type 0} (v : StoreView M) (r : Ref) (n : ℕ) (d : List Span) → domain_of v.now.state n ≡ Some d → (n < next v.now.state → IsTerm v r (var n)) → LeadsToVariable v r n
leads-to v r n d has at = record { term = var n; is = at (domain_made v.now.state n d has); root = followed_itself (bindings v.now.state) n (domain_unbound v.now.state n d has) }

pub copied : {M : Type 0} (v : StoreView M) (r : Ref) (n : ℕ) (d : List Span) (found : Option (List Span)) → IsState v.now.state → domain_of v.now.state n ≡ Some d → (n < next v.now.state → IsTerm v r (var n)) →
    (IsTerm v r (var n) → found ≡ domain_at_root v.now.state (followed (bindings v.now.state) (var n))) → found ≡ Some d
copied v r n d found is has at copy =
    let s : State = v.now.state in
    copy (at (domain_made s n d has)) ∙ (ap (domain_at_root s) (followed_itself (bindings s) n (domain_unbound s n d has)) ∙ has)

-- ---- the values that are left

left-is : (a : Alternative) (d left : List Span) → IsDomain d → IsDomain left → ((m : ℤ) → has_value left m ≡ (has_value d m && allows a m)) → left ≡ left_by a d
left-is a d left up is values = same_values_same_domain left (left_by a d) is (left_is_a_domain a d up) (λ m. values m ∙ sym (left_is_allowed a d m up))

narrowed-by : (s : State) (n : ℕ) (a : Alternative) (d left : List Span) → left ≡ left_by a d → narrowed_to s n (left_by a d) ≡ with_values s n left (values_of left)
narrowed-by s n a d left e = ap (λ (x : List Span). with_values s n x (values_of x)) (sym e)

no-values : (s : State) (n : ℕ) (left : List Span) → left ≡ [] → with_values s n left (values_of left) ≡ None
unfolding values_of
no-values s n left e = ap (λ (x : List Span). with_values s n left (values_of x)) e

pub none-kept : (s : State) (n : ℕ) (a : Alternative) (d left : List Span) → IsState s → domain_of s n ≡ Some d → IsDomain left → ((m : ℤ) → has_value left m ≡ (has_value d m && allows a m)) → left ≡ [] → narrowed_to s n (left_by a d) ≡ None
none-kept s n a d left is has up values none = narrowed-by s n a d left (left-is a d left (domain-is s n d is has) up values) ∙ no-values s n left none

-- `j` is the least value, as it is bound
pub some-kept : (s r : State) (n : ℕ) (a : Alternative) (d left : List Span) (least j : ℤ) → IsState s → domain_of s n ≡ Some d → IsDomain left → ((m : ℤ) → has_value left m ≡ (has_value d m && allows a m)) → IsTrue (has_value left least) →
    (size_of left ≡ 1 → r ≡ with_binding s n (int j)) → (2 ≤ size_of left → r ≡ with_domain s n left) → least ≡ j → narrowed_to s n (left_by a d) ≡ Some r
some-kept s r n a d left least j is has up values there one more same =
    narrowed-by s n a d left (left-is a d left (domain-is s n d is has) up values)
    ∙ left-by s r n left least (values_of left) refl up there (subst (λ (i : ℤ). size_of left ≡ 1 → r ≡ with_binding s n (int i)) (sym same) one) more

-- ---- one value

or_false : (b : Bool) → (b || false) ≡ b
or_false true = refl
or_false false = refl

one-has : (i m : ℤ) → has_value (only i) m ≡ is_eq (int_cmp m i)
unfolding has_value
one-has i m = or_false (int_le i m && int_le m i) ∙ between i m
  where
    between : (i m : ℤ) → (int_le i m && int_le m i) ≡ is_eq (int_cmp m i)
    between i m = grind (arith, ints)

is-it : (m i : ℤ) → is_eq (int_cmp m i) ≡ true → m ≡ i
is-it m i e = grind (arith, ints)

one-domain : (i : ℤ) → IsWithinBounds i → IsDomain (only i)
unfolding AscendFrom
one-domain i b = (b.0, omega (arith, ints), b.1, tt)

none-domain : IsDomain []
unfolding AscendFrom
none-domain = tt

one-value : (i : ℤ) → values_of (only i) ≡ i ∷ []
unfolding values_of numbers_from
one-value i =
    let gap : i +ℤ pos (int_gap i i) ≡ i = gap_is i i (omega (arith, ints)) in
    let none : int_gap i i ≡ 0 = omega (arith, ints, gap) in
    ap (λ (k : ℕ). numbers_from i (suc k) ++ []) none

where-known : (b t : Bool) → (t ≡ true → b ≡ true) → t ≡ (b && t)
where-known true t h = refl
where-known false true h = absurd (let e = h refl in cc)
where-known false false h = refl

where-not : (b t : Bool) → (t ≡ true → b ≡ false) → false ≡ (b && t)
where-not true true h = sym (h refl)
where-not true false h = refl
where-not false t h = refl

pub value-kept : (s r : State) (n : ℕ) (d : List Span) (i j : ℤ) → IsState s → domain_of s n ≡ Some d → has_value (stored s n) i ≡ true → r ≡ with_binding s n (int j) → i ≡ j → narrowed_to s n (left_by (is_value i) d) ≡ Some r
value-kept s r n d i j is has there made same =
    let here : has_value d i ≡ true = ap (λ (x : List Span). has_value x i) (sym (stored-is s n d has)) ∙ there in
    let up : IsDomain d = domain-is s n d is has in
    let values : (m : ℤ) → has_value (only i) m ≡ (has_value d m && is_eq (int_cmp m i)) = λ m. one-has i m ∙ where-known (has_value d m) (is_eq (int_cmp m i)) (λ t. ap (has_value d) (is-it m i t) ∙ here) in
    narrowed-by s n (is_value i) d (only i) (left-is (is_value i) d (only i) up (one-domain i (values_are_within_bounds d i up here)) values)
    ∙ (ap (with_values s n (only i)) (one-value i) ∙ (ap (λ (k : ℤ). Some (with_binding s n (int k))) same ∙ ap Some (sym made)))

pub value-lost : (s : State) (n : ℕ) (d : List Span) (i : ℤ) → IsState s → domain_of s n ≡ Some d → has_value (stored s n) i ≡ false → narrowed_to s n (left_by (is_value i) d) ≡ None
unfolding has_value
value-lost s n d i is has none =
    let here : has_value d i ≡ false = ap (λ (x : List Span). has_value x i) (sym (stored-is s n d has)) ∙ none in
    none-kept s n (is_value i) d [] is has none-domain (λ m. where-not (has_value d m) (is_eq (int_cmp m i)) (λ t. ap (has_value d) (is-it m i t) ∙ here)) refl

-- ---- half of a domain, as it is cut from a copy

same-copy : (d had : List Span) (found : Option (List Span)) → found ≡ Some d → found ≡ Some had → had ≡ d
same-copy d had found e f = cc

above-test : (n least m : ℤ) → least ≡ n +ℤ pos 1 → int_le least m ≡ not (int_le m n)
above-test n least m e = grind (arith, ints, e)

pub up-to-kept : (d had left : List Span) (found : Option (List Span)) (n greatest : ℤ) → found ≡ Some d → found ≡ Some had → ((m : ℤ) → has_value left m ≡ (has_value had m && int_le m greatest)) → greatest ≡ n → (m : ℤ) → has_value left m ≡ (has_value d m && allows (at_most n) m)
up-to-kept d had left found n greatest copy is values e m = values m ∙ (ap (λ (x : List Span). has_value x m && int_le m greatest) (same-copy d had found copy is) ∙ ap (λ (k : ℤ). has_value d m && int_le m k) e)

pub above-kept : (d had left : List Span) (found : Option (List Span)) (n least : ℤ) → found ≡ Some d → found ≡ Some had → ((m : ℤ) → has_value left m ≡ (has_value had m && int_le least m)) → least ≡ n +ℤ pos 1 → (m : ℤ) → has_value left m ≡ (has_value d m && allows (above n) m)
above-kept d had left found n least copy is values e m = values m ∙ (ap (λ (x : List Span). has_value x m && int_le least m) (same-copy d had found copy is) ∙ ap (λ (t : Bool). has_value d m && t) (above-test n least m e))
