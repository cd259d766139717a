-- Which items are pending, and in what order two answers stand whose values differ at the item that was picked.
use Rattle.std.specs.Prelude.{◌≡◌, ◌≢◌, ℕ, zero, suc, nat_lt, ℤ, pos, ◌<ℤ◌, Bool, true, false, cond, List, [], ◌∷◌, map, get_or, Option, Some, None, Contains, ⊤, refl}
use Rattle.std.specs.List.{cons_option, last_or}
use Rattle.std.proofs.Common.{arith, sym, ◌∙◌, ap, subst, inl, inr}
use Rattle.std.proofs.lemmas.Int.{ints}
use Rattle.std.proofs.lemmas.List.{get_or-map}
use Rattle.pi_constraints.specs.declared.constraint.Item.{Item}
use Rattle.pi_constraints.specs.declared.domain.Span.{Span}
use Rattle.pi_constraints.specs.Domain.{size_of}
use Rattle.pi_constraints.specs.State.{State, domain_of}
use Rattle.pi_prop_spec.specs.Solutions.{value_of}
use Rattle.pi_settling.specs.Roots.{root_item}
use Rattle.pi_settling.specs.Options.{VariableWord, forward, backward, ff, ValueWord, up, down, split, reverse_split}
use Rattle.pi_settling.specs.Choices.{Pending, pending_with, pending_at, pending, smallest, picked}
use Rattle.pi_settling.specs.Assignments.{ComesBefore}
use Rattle.pi_label_laws.specs.SolutionLaws.{StandsBefore}
use Rattle.pi_label_laws.proofs.RestLemmas.{IsTold}
use Rattle.pi_label_laws.proofs.RankLemmas.{HasDomain, ComesOut}

-- ---- where nothing is pending

with-none : (n : ℕ) (o : Option (List Span)) → pending_with n o ≡ None → o ≡ None
with-none n None e = refl
with-none n (Some d) e = absurd cc

at-none : (r : State) (x y : Item) → root_item r x ≡ y → pending_at r y ≡ None → ComesOut r x → IsTold r x
at-none r x (Item.Int i) e none out = (i, e)
at-none r x (Item.Var n) e none (inr told) = told
at-none r x (Item.Var n) e none (inl (v, f, has)) =
    let same : ◌≡◌ {A = Item} (Item.Var n) (Item.Var v) = sym e ∙ f in
    let gone : domain_of r n ≡ None = with-none n (domain_of r n) none in
    absurd (not_both r n v same gone has.0 has.1)
  where
    number_of : Item → ℕ
    number_of (Item.Var n) = n
    number_of (Item.Int i) = 0

    not_both : (r : State) (n v : ℕ) → ◌≡◌ {A = Item} (Item.Var n) (Item.Var v) → domain_of r n ≡ None → (d : List Span) → domain_of r v ≡ Some d → ⊥
    not_both r n v same gone d has = let e : n ≡ v = ap number_of same in let there : domain_of r n ≡ Some d = ap (domain_of r) e ∙ has in cc

cons-none : (o : Option Pending) (ps : List Pending) → cons_option o ps ≡ [] → (o ≡ None) × (ps ≡ [])
cons-none None ps e = (refl, e)
cons-none (Some p) ps e = absurd cc

pub none-told : (r : State) (items : List Item) → pending r items ≡ [] → (x : Item) → Contains items x → ComesOut r x → IsTold r x
none-told r [] none x (k, l, e) out = absurd (omega arith)
none-told r (y ∷ items) none x (zero, l, e) out =
    let first = (cons-none (pending_at r (root_item r y)) (pending r items) none).0 in
    at-none r x (root_item r x) refl (subst (λ (z : Item). pending_at r (root_item r z) ≡ None) e first) out
none-told r (y ∷ items) none x (suc k, l, e) out =
    none-told r items (cons-none (pending_at r (root_item r y)) (pending r items) none).1 x (k, omega arith, e) out

-- ---- what is pending

-- a pending variable is that of an item, and has its domain
pub record IsPending (s : State) (items : List Item) (p : Pending) : Type 0 where
  pub item : Item
  pub at : Contains items item
  pub root : root_item s item ≡ Item.Var p.variable
  pub has : domain_of s p.variable ≡ Some p.domain

unfoldable pub AllPending : State → List Item → List Pending → Type 0
AllPending s items [] = ⊤
AllPending s items (p ∷ ps) = IsPending s items p × AllPending s items ps

abbrev MayPend : State → List Item → Option Pending → Type 0
MayPend s items None = ⊤
MayPend s items (Some p) = IsPending s items p

with-pends : (s : State) (items : List Item) (x : Item) (n : ℕ) (o : Option (List Span)) → Contains items x → root_item s x ≡ Item.Var n → domain_of s n ≡ o → MayPend s items (pending_with n o)
with-pends s items x n None at e f = tt
with-pends s items x n (Some d) at e f = record { item = x; at = at; root = e; has = f }

at-pends : (s : State) (items : List Item) (x y : Item) → Contains items x → root_item s x ≡ y → MayPend s items (pending_at s y)
at-pends s items x (Item.Var n) at e = with-pends s items x n (domain_of s n) at e refl
at-pends s items x (Item.Int i) at e = tt

option-pends : (s : State) (items : List Item) (o : Option Pending) (ps : List Pending) → MayPend s items o → AllPending s items ps → AllPending s items (cons_option o ps)
unfolding AllPending
option-pends s items None ps h rest = rest
option-pends s items (Some p) ps h rest = (h, rest)

pub all-pend : (s : State) (all items : List Item) → ((x : Item) → Contains items x → Contains all x) → AllPending s all (pending s items)
unfolding AllPending
all-pend s all [] within = tt
all-pend s all (x ∷ items) within =
    option-pends s all (pending_at s (root_item s x)) (pending s items) (at-pends s all x (root_item s x) (within x (0, omega arith, refl)) refl)
    (all-pend s all items (λ y at. within y (suc at.0, omega (arith, at.1), at.2)))

last-pends : (s : State) (items : List Item) (p : Pending) (ps : List Pending) → IsPending s items p → AllPending s items ps → MayPend s items (last_or (Some p) ps)
unfolding AllPending
last-pends s items p [] h rest = h
last-pends s items p (q ∷ ps) h rest = last-pends s items q ps rest.0 rest.1

chosen-pends : (s : State) (items : List Item) (b : Bool) (p q : Pending) → IsPending s items p → IsPending s items q → IsPending s items (cond b q p)
chosen-pends s items true p q h k = k
chosen-pends s items false p q h k = h

smallest-pends : (s : State) (items : List Item) (p : Pending) (ps : List Pending) → IsPending s items p → AllPending s items ps → IsPending s items (smallest p ps)
unfolding AllPending smallest
smallest-pends s items p [] h rest = h
smallest-pends s items p (q ∷ ps) h rest =
    let less : Bool = nat_lt (size_of q.domain) (size_of p.domain) in
    smallest-pends s items (cond less q p) ps (chosen-pends s items less p q h rest.0) rest.1

picked-pends : (s : State) (items : List Item) (ps : List Pending) (w : VariableWord) → AllPending s items ps → MayPend s items (picked ps w)
unfolding AllPending
picked-pends s items [] w h = tt
picked-pends s items (p ∷ ps) forward h = h.0
picked-pends s items (p ∷ ps) backward h = last-pends s items p ps h.0 h.1
picked-pends s items (p ∷ ps) ff h = smallest-pends s items p ps h.0 h.1

pub is-pending : (s : State) (items : List Item) (w : VariableWord) (p : Pending) → picked (pending s items) w ≡ Some p → IsPending s items p
is-pending s items w p e = subst (MayPend s items) e (picked-pends s items (pending s items) w (all-pend s items items (λ x at. at)))

-- where none is picked none is pending
last-some : (p : Pending) (ps : List Pending) → last_or (Some p) ps ≡ None → ⊥
last-some p [] e = absurd cc
last-some p (q ∷ ps) e = last-some q ps e

pub none-pending : (ps : List Pending) (w : VariableWord) → picked ps w ≡ None → ps ≡ []
none-pending [] w e = refl
none-pending (p ∷ ps) forward e = absurd cc
none-pending (p ∷ ps) backward e = absurd (last-some p ps e)
none-pending (p ∷ ps) ff e = absurd cc

-- ---- the order of two answers

-- the integers that items come to
pub told_value : State → Item → ℤ
told_value r x = value_of (λ n. pos 0) (root_item r x)

pub told-is : (r : State) (x : Item) → told_value r x ≡ value_of (λ n. pos 0) (root_item r x)
unfolding told_value
told-is r x = refl

abbrev pub told_values : State → List Item → List ℤ
told_values r items = map (told_value r) items

pub value-told : (r : State) (x : Item) (i : ℤ) → root_item r x ≡ Item.Int i → told_value r x ≡ i
unfolding told_value
value-told r x i e = ap (value_of (λ n. pos 0)) e

-- a value comes before another one, as the alternatives are tried
abbrev pub Ahead : ValueWord → ℤ → ℤ → Type 0
Ahead up i j = i <ℤ j
Ahead down i j = j <ℤ i
Ahead split i j = i <ℤ j
Ahead reverse_split i j = j <ℤ i

apart : (w : ValueWord) (i j : ℤ) → Ahead w i j → i ≢ j
apart up i j h e = omega (arith, ints, h, e)
apart down i j h e = omega (arith, ints, h, e)
apart split i j h e = omega (arith, ints, h, e)
apart reverse_split i j h e = omega (arith, ints, h, e)

-- two states behind one, in which the item that was picked has these values
pub record Parts (s r q : State) (n : ℕ) (i j : ℤ) : Type 0 where
  pub first : (y : Item) → root_item r (root_item s y) ≡ root_item r y
  pub second : (y : Item) → root_item q (root_item s y) ≡ root_item q y
  pub one : root_item r (Item.Var n) ≡ Item.Int i
  pub other : root_item q (Item.Var n) ≡ Item.Int j

value-first : (s r q : State) (n : ℕ) (i j : ℤ) (x : Item) → Parts s r q n i j → root_item s x ≡ Item.Var n → told_value r x ≡ i
value-first s r q n i j x p e = value-told r x i (sym (p.first x) ∙ (ap (root_item r) e ∙ p.one))

value-second : (s r q : State) (n : ℕ) (i j : ℤ) (x : Item) → Parts s r q n i j → root_item s x ≡ Item.Var n → told_value q x ≡ j
value-second s r q n i j x p e = value-told q x j (sym (p.second x) ∙ (ap (root_item q) e ∙ p.other))

same-told : (s r q : State) (n : ℕ) (i j k : ℤ) (x : Item) → Parts s r q n i j → root_item s x ≡ Item.Int k → told_value r x ≡ told_value q x
same-told s r q n i j k x p e =
    value-told r x k (sym (p.first x) ∙ ap (root_item r) e) ∙ sym (value-told q x k (sym (p.second x) ∙ ap (root_item q) e))

-- under `forward` the first item that is pending is the first at which they differ
abbrev pub AreOut : State → List Item → Type 0
AreOut s items = (x : Item) → Contains items x → ComesOut s x

pending-is : (n : ℕ) (d : List Span) (o : Option (List Span)) (ps : List Pending) (p : Pending) (rest : List Pending) → o ≡ Some d → cons_option (pending_with n o) ps ≡ p ∷ rest → p.variable ≡ n
pending-is n d None ps p rest e f = absurd cc
pending-is n d (Some c) ps p rest e f = sym (ap (λ (list : List Pending). variable_of n list) f)
  where
    variable_of : ℕ → List Pending → ℕ
    variable_of n [] = n
    variable_of n (p ∷ ps) = p.variable

some-out : (s : State) (x : Item) (m : ℕ) → root_item s x ≡ Item.Var m → ComesOut s x → HasDomain s m
some-out s x m e (inr (i, f)) = absurd cc
some-out s x m e (inl (v, f, dom)) = (dom.0, ap (domain_of s) (number (Item.Var m) (Item.Var v) (sym e ∙ f)) ∙ dom.1)
  where
    number_of : Item → ℕ
    number_of (Item.Var n) = n
    number_of (Item.Int i) = 0

    number : (x y : Item) → x ≡ y → number_of x ≡ number_of y
    number x y e = ap number_of e

comes-first : (s r q : State) (n : ℕ) (i j : ℤ) (x : Item) (items : List Item) (p : Pending) (ps : List Pending) (y : Item) → root_item s x ≡ y → Parts s r q n i j → ComesOut s x →
    (pending s items ≡ p ∷ ps → ComesBefore (told_values r items) (told_values q items)) → cons_option (pending_at s y) (pending s items) ≡ p ∷ ps → p.variable ≡ n → i <ℤ j →
    ComesBefore (told_values r (x ∷ items)) (told_values q (x ∷ items))
unfolding ComesBefore
comes-first s r q n i j x items p ps (Item.Int k) f parts here rest e at less = inr (same-told s r q n i j k x parts f, rest e)
comes-first s r q n i j x items p ps (Item.Var m) f parts here rest e at less =
    let has : HasDomain s m = some-out s x m f here in
    let same : m ≡ n = sym (pending-is m has.0 (domain_of s m) (pending s items) p ps has.1 e) ∙ at in
    let root : root_item s x ≡ Item.Var n = f ∙ ap Item.Var same in
    inl (subst (λ (z : ℤ). z <ℤ told_value q x) (sym (value-first s r q n i j x parts root)) (subst (λ (z : ℤ). i <ℤ z) (sym (value-second s r q n i j x parts root)) less))

comes-before : (s r q : State) (n : ℕ) (i j : ℤ) (items : List Item) (p : Pending) (ps : List Pending) → Parts s r q n i j → AreOut s items → pending s items ≡ p ∷ ps → p.variable ≡ n → i <ℤ j →
    ComesBefore (told_values r items) (told_values q items)
comes-before s r q n i j [] p ps parts out e at less = absurd cc
comes-before s r q n i j (x ∷ items) p ps parts out e at less =
    comes-first s r q n i j x items p ps (root_item s x) refl parts (out x (0, omega arith, refl))
    (λ f. comes-before s r q n i j items p ps parts (λ y there. out y (suc there.0, omega (arith, there.1), there.2)) f at less) e at less

swapped : (s r q : State) (n : ℕ) (i j : ℤ) → Parts s r q n i j → Parts s q r n j i
swapped s r q n i j p = record { first = p.second; second = p.first; one = p.other; other = p.one }

-- else they differ at the item that was picked
values-differ : (s r q : State) (n : ℕ) (i j : ℤ) (items : List Item) (x : Item) → Parts s r q n i j → Contains items x → root_item s x ≡ Item.Var n → i ≢ j → told_values r items ≢ told_values q items
values-differ s r q n i j items x parts (k, l, e) root other same =
    let at : get_or items k x ≡ x = e in
    let first : get_or (told_values r items) k (pos 0) ≡ told_value r (get_or items k x) = get_or-map (told_value r) items k x (pos 0) l in
    let second : get_or (told_values q items) k (pos 0) ≡ told_value q (get_or items k x) = get_or-map (told_value q) items k x (pos 0) l in
    other (sym (value-first s r q n i j x parts root) ∙ (sym (ap (told_value r) at) ∙ (sym first ∙ (ap (λ (list : List ℤ). get_or list k (pos 0)) same ∙ (second ∙ (ap (told_value q) at ∙ value-second s r q n i j x parts root))))))

first-is : (ps : List Pending) (p : Pending) → picked ps forward ≡ Some p → (rest : List Pending) × (ps ≡ p ∷ rest)
first-is [] p e = absurd cc
first-is (q ∷ ps) p e = (ps, let same : q ≡ p = some-is q p e in ap (λ (x : Pending). x ∷ ps) same)
  where
    some-is : (q p : Pending) → Some q ≡ Some p → q ≡ p
    some-is q p e = cc

pub stands-before : (v : VariableWord) (w : ValueWord) (s r q : State) (i j : ℤ) (items : List Item) (p : Pending) → picked (pending s items) v ≡ Some p → AreOut s items → Parts s r q p.variable i j → Ahead w i j →
    StandsBefore v w (told_values r items) (told_values q items)
stands-before forward up s r q i j items p e out parts h = let there = first-is (pending s items) p e in comes-before s r q p.variable i j items p there.0 parts out there.1 refl h
stands-before forward down s r q i j items p e out parts h = let there = first-is (pending s items) p e in comes-before s q r p.variable j i items p there.0 (swapped s r q p.variable i j parts) out there.1 refl h
stands-before forward split s r q i j items p e out parts h = let there = first-is (pending s items) p e in comes-before s r q p.variable i j items p there.0 parts out there.1 refl h
stands-before forward reverse_split s r q i j items p e out parts h = let there = first-is (pending s items) p e in comes-before s q r p.variable j i items p there.0 (swapped s r q p.variable i j parts) out there.1 refl h
stands-before backward w s r q i j items p e out parts h = let is = is-pending s items backward p e in values-differ s r q p.variable i j items is.item parts is.at is.root (apart w i j h)
stands-before ff w s r q i j items p e out parts h = let is = is-pending s items ff p e in values-differ s r q p.variable i j items is.item parts is.at is.root (apart w i j h)
