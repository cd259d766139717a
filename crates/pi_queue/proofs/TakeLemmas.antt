-- What a variable takes of the values that are left.
use Rattle.std.specs.Prelude.{◌≡◌, ◌⊎◌, ◌↔◌, ◌==◌, ◌&&◌, ℕ, zero, suc, ◌<◌, ◌≤◌, ℤ, Bool, true, false, IsTrue, List, [], ◌∷◌, ◌++◌, length, Contains, Option, Some, None, unwrap_or, refl}
use Rattle.std.proofs.Common.{arith, sym, ◌∙◌, ap, subst, inl, inr, eq-eqb}
use Rattle.std.proofs.lemmas.Bool.{cases_Bool, eqb-true}
use Rattle.pi_terms.specs.Tree.{Tree, var, int, atom, comp, args}
use Rattle.pi_constraints.specs.declared.constraint.Item.{Item}
use Rattle.pi_constraints.specs.declared.domain.Span.{Span}
use Rattle.pi_constraints.specs.Domain.{IsWithinBounds, AscendFrom, IsDomain, has_value, values_of, size_of}
use Rattle.pi_constraints.proofs.DomainLemmas.{not_both, values_lie_in_spans}
use Rattle.pi_constraints.proofs.CommonLemmas.{empty_if_none}
use Rattle.pi_constraints.specs.State.{State, bindings, followed, domain_of, with_domain, with_binding}
use Rattle.pi_constraints.specs.Store.{StoreView, ShowsCell}
use Rattle.pi_constraints.specs.declared.store.Cell.{Cell}
use Rattle.pi_constraints.proofs.StateLemmas.{domain_unbound}
use Rattle.pi_constraints.proofs.FollowLemmas.{followed_itself}
use Rattle.pi_settling.specs.Roots.{item_of, root_item, only, given}
use Rattle.pi_settling.proofs.StableLemmas.{only-domain, has-only, empty-has}
use Rattle.pi_settling.proofs.TwiceLemmas.{has_in}
use Rattle.pi_settling.proofs.NarrowLemmas.{unbound-domain}
use Rattle.pi_settling.proofs.SizeLemmas.{size-lost, same-or-lost, front-or-behind, none-there}
use Rattle.pi_queue.specs.Leaving.{IsWithin, IsLater, MayTake, IsTaken, all_stay, some_stay, one_stays, Takes, with_lost}

-- ---- as many values are the same values

within-back : (d e : List Span) → IsDomain d → IsDomain e → IsWithin e d → size_of d ≡ size_of e → IsWithin d e
within-back d e up vp inside same i h = elim (cases_Bool (has_value e i)) [
  | inl is ↦ is
  | inr none ↦ absurd (let less : size_of e < size_of d = size-lost d e i up vp inside h (λ has. not_both (has_value e i) has none) in omega arith)
]

pub as-many : (d e : List Span) (b : Bool) → IsDomain d → IsDomain e → IsWithin e d → b ≡ (size_of d == size_of e) → b ≡ true → IsWithin d e
as-many d e b up vp inside is hit = within-back d e up vp inside (eqb-true (size_of d) (size_of e) (sym is ∙ hit))

pub one-gone : (d e : List Span) (b : Bool) → IsDomain d → IsDomain e → IsWithin e d → b ≡ (size_of d == size_of e) → b ≡ false → (v : ℤ) × IsTrue (has_value d v) × (IsTrue (has_value e v) → ⊥)
one-gone d e b up vp inside is miss = elim (same-or-lost d e up vp inside) [
  | inl same ↦ absurd (let eq : (size_of d == size_of e) ≡ true = eq-eqb (size_of d) (size_of e) (ap size_of (sym same)) in cc)
  | inr lost ↦ lost
]

-- a domain of one value has no other
first-of-one : (xs : List ℤ) (i j : ℤ) → length xs ≡ 1 → Contains xs i → Contains xs j → j ≡ i
first-of-one [] i j one a b = absurd (none-there i a)
first-of-one (x ∷ []) i j one a b = elim (front-or-behind x i [] a) [
  | inl is ↦ elim (front-or-behind x j [] b) [ inl is' ↦ sym is' ∙ is | inr later ↦ absurd (none-there j later) ]
  | inr later ↦ absurd (none-there i later)
]
first-of-one (x ∷ y ∷ xs) i j one a b = absurd (omega arith)

only-value : (e : List Span) (i j : ℤ) → IsDomain e → size_of e ≡ 1 → IsTrue (has_value e i) → IsTrue (has_value e j) → j ≡ i
only-value e i j up one hi hj = first-of-one (values_of e) i j one ((values_lie_in_spans e up i).0 hi) ((values_lie_in_spans e up j).0 hj)

-- ---- what stays as it was

pub unchanged : (s : State) (x : Item) (before left : List Span) (told : Option (List Span)) (lost : List ℕ) → left ≡ unwrap_or told before → told ≡ None → MayTake s x before left → Takes left (with_lost s lost) (root_item s x) true (with_lost s lost)
unchanged s x before left told lost is none may =
    let same : left ≡ before = is ∙ ap (λ (o : Option (List Span)). unwrap_or o before) none in
    all_stay (root_item s x) (λ i h. subst (λ (d : List Span). IsTrue (has_value d i)) (sym same) (may.had i h))

pub shown-told : (s r : State) (before left here : List Span) (told : Option (List Span)) (lost more : List ℕ) (x : Item) (some : Bool) → left ≡ unwrap_or told before → told ≡ Some here → Takes here (with_lost s lost) x some (with_lost r more) → Takes left (with_lost s lost) x some (with_lost r more)
shown-told s r before left here told lost more x some is there t = subst (λ (d : List Span). Takes d (with_lost s lost) x some (with_lost r more)) (sym (is ∙ ap (λ (o : Option (List Span)). unwrap_or o before) there)) t

-- ---- an integer

pub integer-takes : (s : State) (left : List Span) (lost : List ℕ) (i : ℤ) (b : Bool) → b ≡ has_value left i → Takes left (with_lost s lost) (Item.Int i) b (with_lost s lost)
integer-takes s left lost i true is = all_stay (Item.Int i) (λ j h. subst (λ (z : ℤ). IsTrue (has_value left z)) (sym (has-only i j h)) (sym is))
integer-takes s left lost i false is = (refl, λ j h l. not_both (has_value left i) (subst (λ (z : ℤ). IsTrue (has_value left z)) (has-only i j h) l) (sym is))

-- ---- a variable

given-had : (s : State) (n : ℕ) (d : List Span) (i : ℤ) → domain_of s n ≡ Some d → IsTrue (has_value (given s (Item.Var n)) i) → IsTrue (has_value d i)
given-had s n d i has h = has_in (given s (Item.Var n)) d i (unbound-domain s n d has).1 h

pub all-kept : (s : State) (n : ℕ) (d e : List Span) (lost : List ℕ) (b : Bool) → domain_of s n ≡ Some d → IsDomain d → IsDomain e → IsWithin e d → b ≡ (size_of d == size_of e) → b ≡ true → Takes e (with_lost s lost) (Item.Var n) true (with_lost s lost)
all-kept s n d e lost b has up vp inside is hit = all_stay (Item.Var n) (λ i h. as-many d e b up vp inside is hit i (given-had s n d i has h))

pub none-kept : (s : State) (n : ℕ) (e : List Span) (lost more : List ℕ) → e ≡ [] → Takes e (with_lost s lost) (Item.Var n) false (with_lost s more)
none-kept s n e lost more empty = (refl, λ i h l. empty-has i (has_in e [] i empty l))

-- the values of both that one has are its own
both-own : (d e : List Span) → IsWithin e d → (i : ℤ) → IsTrue (has_value e i) ↔ (IsTrue (has_value d i) × IsTrue (has_value e i))
both-own d e inside i = (λ h. (inside i h, h), λ h. h.1)

at-least-two : (n : ℕ) → (n ≡ 0 → ⊥) → (n ≡ 1 → ⊥) → 2 ≤ n
at-least-two zero none one = absurd (none refl)
at-least-two (suc zero) none one = absurd (one refl)
at-least-two (suc (suc n)) none one = omega arith

some-values : (e : List Span) (i : ℤ) → IsTrue (has_value e i) → size_of e ≡ 0 → ⊥
some-values e i h none = empty-has i (has_in e [] i (empty_if_none e none) h)

written : (s r : State) (n : ℕ) (d e : List Span) (i : ℤ) (lost : List ℕ) → domain_of s n ≡ Some d → IsDomain e → IsWithin e d → (v : ℤ) × IsTrue (has_value d v) × (IsTrue (has_value e v) → ⊥) → IsTrue (has_value e i) →
    (size_of e ≡ 1) ⊎ (2 ≤ size_of e) → (size_of e ≡ 1 → r ≡ with_binding s n (int i)) → (2 ≤ size_of e → r ≡ with_domain s n e) → IsTaken e s lost (Item.Var n) r (lost ++ n ∷ [])
written s r n d e i lost has vp inside gone least (inl one) fix confine =
    subst (λ (q : State). IsTaken e s lost (Item.Var n) q (lost ++ n ∷ [])) (sym (fix one))
    (one_stays n d i gone.0 has (λ j. (λ same. let there : IsTrue (has_value e j) = subst (λ (z : ℤ). IsTrue (has_value e z)) (sym same) least in (inside j there, there), λ h. only-value e i j vp one least h.1)) gone.1 gone.2)
written s r n d e i lost has vp inside gone least (inr two) fix confine =
    subst (λ (q : State). IsTaken e s lost (Item.Var n) q (lost ++ n ∷ [])) (sym (confine two)) (some_stay n d e gone.0 has vp two (both-own d e inside) gone.1 gone.2)

one-or-more : (n : ℕ) → (n ≡ 0 → ⊥) → (n ≡ 1) ⊎ (2 ≤ n)
one-or-more zero none = absurd (none refl)
one-or-more (suc zero) none = inl refl
one-or-more (suc (suc n)) none = inr (omega arith)

pub some-kept : (s r : State) (n : ℕ) (d e : List Span) (i : ℤ) (b : Bool) (lost more : List ℕ) → domain_of s n ≡ Some d → IsDomain d → IsDomain e → IsWithin e d → b ≡ (size_of d == size_of e) → b ≡ false → IsTrue (has_value e i) →
    (size_of e ≡ 1 → r ≡ with_binding s n (int i)) → (2 ≤ size_of e → r ≡ with_domain s n e) → more ≡ lost ++ n ∷ [] → Takes e (with_lost s lost) (Item.Var n) true (with_lost r more)
some-kept s r n d e i b lost more has up vp inside is miss least fix confine pushed =
    subst (λ (ms : List ℕ). IsTaken e s lost (Item.Var n) r ms) (sym pushed)
    (written s r n d e i lost has vp inside (one-gone d e b up vp inside is miss) least (one-or-more (size_of e) (some-values e i least)) fix confine)

-- ---- the values that a variable had and that are left

-- the values that are kept are those that a variable had and that are left
abbrev pub IsMet : List Span → List Span → List Span → Type 0
IsMet d left e = (i : ℤ) → has_value e i ≡ (has_value d i && has_value left i)

both-true : (p q : Bool) → IsTrue (p && q) → IsTrue p × IsTrue q
both-true true true h = (refl, refl)
both-true true false h = absurd (cc)
both-true false q h = absurd (cc)

true-both : (p q : Bool) → IsTrue p → IsTrue q → IsTrue (p && q)
true-both true true a b = refl
true-both true false a b = absurd (cc)
true-both false q a b = absurd (cc)

met-both : (d left e : List Span) → IsMet d left e → (i : ℤ) → IsTrue (has_value e i) → IsTrue (has_value d i) × IsTrue (has_value left i)
met-both d left e met i h = both-true (has_value d i) (has_value left i) (sym (met i) ∙ h)

both-met : (d left e : List Span) → IsMet d left e → (i : ℤ) → IsTrue (has_value d i) → IsTrue (has_value left i) → IsTrue (has_value e i)
both-met d left e met i a b = met i ∙ true-both (has_value d i) (has_value left i) a b

pub met-within : (d left e : List Span) → IsMet d left e → IsWithin e d
met-within d left e met i h = (met-both d left e met i h).0

one-domain : (s : State) (m n : ℕ) (d d' : List Span) → Item.Var m ≡ Item.Var n → domain_of s n ≡ Some d → domain_of s m ≡ Some d' → d' ≡ d
one-domain s m n d d' e has had =
    let same : m ≡ n = cc in
    let has' : domain_of s m ≡ Some d = subst (λ (j : ℕ). domain_of s j ≡ Some d) (sym same) has in
    cc

met-taken : (s r : State) (n : ℕ) (d left e : List Span) (lost more : List ℕ) (x : Item) → domain_of s n ≡ Some d → IsMet d left e → x ≡ Item.Var n → IsTaken e s lost x r more → IsTaken left s lost x r more
met-taken s r n d left e lost more x has met is (all_stay _ inside) = all_stay x (λ i h. (met-both d left e met i (inside i h)).1)
met-taken s r n d left e lost more x has met is (some_stay m d' f v had up two both in-d not-e) =
    let same : d' ≡ d = one-domain s m n d d' is has had in
    some_stay m d' f v had up two (λ i. (
      λ h. let was = (both i).0 h in (was.0, (met-both d left e met i was.1).1),
      λ h. (both i).1 (h.0, both-met d left e met i (has_in d' d i same h.0) h.1),
    )) in-d (λ l. not-e (both-met d left e met v (has_in d' d v same in-d) l))
met-taken s r n d left e lost more x has met is (one_stays m d' j v had both in-d not-e) =
    let same : d' ≡ d = one-domain s m n d d' is has had in
    one_stays m d' j v had (λ i. (
      λ h. let was = (both i).0 h in (was.0, (met-both d left e met i was.1).1),
      λ h. (both i).1 (h.0, both-met d left e met i (has_in d' d i same h.0) h.1),
    )) in-d (λ l. not-e (both-met d left e met v (has_in d' d v same in-d) l))

pub met-takes : (s r : State) (n : ℕ) (d left e : List Span) (lost more : List ℕ) (b : Bool) → domain_of s n ≡ Some d → IsMet d left e → Takes e (with_lost s lost) (Item.Var n) b (with_lost r more) → Takes left (with_lost s lost) (Item.Var n) b (with_lost r more)
met-takes s r n d left e lost more true has met taken = met-taken s r n d left e lost more (Item.Var n) has met refl taken
met-takes s r n d left e lost more false has met (same, none) = (same, λ i h l. none i h (both-met d left e met i (given-had s n d i has h) l))

-- ---- a variable that was followed in a state before

-- one that comes to a variable is that one, and has a domain
pub later-variable : (s : State) (n m : ℕ) → IsLater s (Item.Var n) → root_item s (Item.Var n) ≡ Item.Var m → (d : List Span) × (domain_of s n ≡ Some d)
later-variable s n m (inl had) e = had
later-variable s n m (inr (i, is)) e = absurd (let same : Item.Int i ≡ Item.Var m = sym is ∙ e in cc)

pub variable-takes : (s r : State) (n : ℕ) (d left : List Span) (lost more : List ℕ) (b : Bool) → domain_of s n ≡ Some d → Takes left (with_lost s lost) (Item.Var n) b (with_lost r more) → Takes left (with_lost s lost) (root_item s (Item.Var n)) b (with_lost r more)
variable-takes s r n d left lost more b has taken = subst (λ (x : Item). Takes left (with_lost s lost) x b (with_lost r more)) (sym (unbound-domain s n d has).0) taken

pub shown-takes : (s r : State) (x y : Item) (left : List Span) (lost more : List ℕ) (b : Bool) → x ≡ y → Takes left (with_lost s lost) y b (with_lost r more) → Takes left (with_lost s lost) x b (with_lost r more)
shown-takes s r x y left lost more b e taken = subst (λ (z : Item). Takes left (with_lost s lost) z b (with_lost r more)) (sym e) taken

-- one that is no integer is unbound, so it is neither an atom nor a compound at its root
unbound-shows : (s : State) (n : ℕ) (t : Tree) → IsLater s (Item.Var n) → followed (bindings s) (var n) ≡ t → ((i : ℤ) → item_of n t ≡ Item.Int i → ⊥) → t ≡ var n
unbound-shows s n t (inl (d, has)) e none = sym e ∙ followed_itself (bindings s) n (domain_unbound s n d has)
unbound-shows s n t (inr (i, is)) e none = absurd (none i (sym (ap (item_of n) e) ∙ is))

pub no-atom : {M : Type 0} (v : StoreView M) (s : State) (n k : ℕ) → IsLater s (Item.Var n) → ShowsCell v (followed (bindings s) (var n)) (Cell.Atom k) → ⊥
no-atom v s n k later (name, is, e) = let same : atom name ≡ var n = unbound-shows s n (atom name) later e (λ i h. cc) in cc

pub no-compound : {M : Type 0} (v : StoreView M) (s : State) (n k count : ℕ) → IsLater s (Item.Var n) → ShowsCell v (followed (bindings s) (var n)) (Cell.Comp k count) → ⊥
no-compound v s n k count later (name, is, e, many) = let same : comp name (args (followed (bindings s) (var n))) ≡ var n = unbound-shows s n (comp name (args (followed (bindings s) (var n)))) later e (λ i h. cc) in cc

pub domain-found : (s : State) (n : ℕ) (d e : List Span) (found : Option (List Span)) → domain_of s n ≡ Some d → found ≡ Some d → found ≡ Some e → domain_of s n ≡ Some e
domain-found s n d e found has is same = has ∙ (sym is ∙ same)

-- ---- an integer that is passed on stands by its bits

pub integer-takes-at : (s : State) (left : List Span) (lost : List ℕ) (i j : ℤ) (b : Bool) → b ≡ has_value left j → i ≡ j → Takes left (with_lost s lost) (Item.Int i) b (with_lost s lost)
integer-takes-at s left lost i j b is same = integer-takes s left lost i b (is ∙ ap (has_value left) (sym same))

pub some-kept-at : (s r : State) (n : ℕ) (d e : List Span) (i j : ℤ) (b : Bool) (lost more : List ℕ) → domain_of s n ≡ Some d → IsDomain d → IsDomain e → IsWithin e d → b ≡ (size_of d == size_of e) → b ≡ false → IsTrue (has_value e i) →
    (size_of e ≡ 1 → r ≡ with_binding s n (int j)) → (2 ≤ size_of e → r ≡ with_domain s n e) → more ≡ lost ++ n ∷ [] → i ≡ j → Takes e (with_lost s lost) (Item.Var n) true (with_lost r more)
some-kept-at s r n d e i j b lost more has up vp inside is miss least fix confine pushed same =
    some-kept s r n d e j b lost more has up vp inside is miss (subst (λ (z : ℤ). IsTrue (has_value e z)) same least) fix confine pushed

-- ---- domains that are made

pub empty-domain : (items : List Span) → items ≡ [] → IsDomain items
unfolding AscendFrom
empty-domain items is = subst IsDomain (sym is) tt

pub just-domain : (items old : List Span) (m n : ℤ) → items ≡ old ++ record { lo = m; hi = m } ∷ [] → old ≡ [] → IsWithinBounds n → m ≡ n → IsDomain items
just-domain items old m n is none bounds same =
    subst IsDomain (sym (is ∙ (ap (λ (ss : List Span). ss ++ record { lo = m; hi = m } ∷ []) none ∙ ap only same))) (only-domain n bounds)
