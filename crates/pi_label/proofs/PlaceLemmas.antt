-- The place that is picked of the domains of items leads to the variable that is picked of the items.
use Rattle.std.proofs.Common.{◌≡◌, ℕ, suc, ◌+◌, ◌<◌, Bool, true, false, cond, List, [], ◌∷◌, get_or, refl, ap, ◌∙◌, subst, arith}
use Rattle.std.specs.Prelude.{nat_lt, Option, Some, None, option_and_then, ℤ, pos, ◌+ℤ◌, ⊤}
use Rattle.std.specs.Int.{int_gap}
use Rattle.std.specs.List.{last_or, AllZip, cons_option}
use Rattle.std.proofs.lemmas.Int.{ints}
use Rattle.std.proofs.lemmas.List.Elements.{Contains-append_right, Contains-get_or}
use Rattle.pi_constraints.specs.declared.constraint.Item.{Item}
use Rattle.pi_constraints.specs.declared.domain.Span.{Span}
use Rattle.pi_constraints.specs.Domain.{size_of}
use Rattle.pi_constraints.proofs.DomainLemmas.{gap_is}
use Rattle.pi_constraints.specs.State.{State}
use Rattle.pi_settling.specs.Roots.{root_item, given, only, domain_or_all}
use Rattle.pi_settling.specs.Options.{VariableWord, forward, backward, ff}
use Rattle.pi_settling.specs.Choices.{Pending, pending_with, pending_at, pending, smallest, picked}
use Rattle.pi_label.specs.Picks.{open_places, place_of, picked_place}
use Rattle.pi_label.specs.PickLaws.{domains_at, HasDomain, HaveDomains, PlacesLeadToPicks}
use Rattle.pi_label.proofs.PickLemmas.{size-one}

-- ---- lists in step

zip-more : (R : Pending → Pending → Type 0) (test : Bool) (p : Pending) (ps : List Pending) (o : Option Pending) (q : Pending) (qs : List Pending) → test ≡ true → o ≡ Some q → R p q → AllZip R ps qs → AllZip R (cond test (p ∷ ps) ps) (cons_option o qs)
zip-more R true p ps None q qs t e r h = cc
zip-more R true p ps (Some x) q qs t e r h = (let same : q ≡ x = cc in subst (R p) same r, h)
zip-more R false p ps o q qs t e r h = cc

zip-same : (R : Pending → Pending → Type 0) (test : Bool) (p : Pending) (ps : List Pending) (o : Option Pending) (qs : List Pending) → test ≡ false → o ≡ None → AllZip R ps qs → AllZip R (cond test (p ∷ ps) ps) (cons_option o qs)
zip-same R true p ps o qs t e h = cc
zip-same R false p ps None qs t e h = h
zip-same R false p ps (Some x) qs t e h = cc

-- ---- a place and the variable that it leads to

abbrev item_at : List Item → ℕ → Item
item_at items k = get_or items k (Item.Int (pos 0))

abbrev Leads : State → List Item → Pending → Pending → Type 0
Leads s items p q = (p.domain ≡ q.domain) × (pending_at s (root_item s (item_at items p.variable)) ≡ Some q)

one-value : (i : ℤ) → nat_lt 1 (size_of (only i)) ≡ false
one-value i =
    let size : size_of (only i) ≡ suc (int_gap i i) = size-one (record { lo = i; hi = i }) in
    let gap : i +ℤ pos (int_gap i i) ≡ i = gap_is i i (omega (arith, ints)) in
    let none : int_gap i i ≡ 0 = omega (arith, ints) in
    grind arith

several : (n : ℕ) → 1 < n → nat_lt 1 n ≡ true
several n h = grind arith

placed : (s : State) (all : List Item) (x : Item) (xs : List Item) (at : ℕ) (root : Item) → root_item s x ≡ root → HasDomain s root → item_at all at ≡ x → AllZip (Leads s all) (open_places (suc at) (domains_at s xs)) (pending s xs) → AllZip (Leads s all) (open_places at (domains_at s (x ∷ xs))) (pending s (x ∷ xs))
unfolding open_places
placed s all x xs at (Item.Var n) e (d, has, wide) here h =
    let g : given s (root_item s x) ≡ d = ap (given s) e ∙ ap domain_or_all has in
    let o : pending_at s (root_item s x) ≡ Some (record { variable = n; domain = d }) = ap (pending_at s) e ∙ ap (pending_with n) has in
    zip-more (Leads s all) (nat_lt 1 (size_of (given s (root_item s x)))) (record { variable = at; domain = given s (root_item s x) }) (open_places (suc at) (domains_at s xs)) (pending_at s (root_item s x)) (record { variable = n; domain = d }) (pending s xs)
    (ap (λ (k : List Span). nat_lt 1 (size_of k)) g ∙ several (size_of d) wide) o (g, ap (λ y. pending_at s (root_item s y)) here ∙ o) h
placed s all x xs at (Item.Int i) e has here h =
    zip-same (Leads s all) (nat_lt 1 (size_of (given s (root_item s x)))) (record { variable = at; domain = given s (root_item s x) }) (open_places (suc at) (domains_at s xs)) (pending_at s (root_item s x)) (pending s xs)
    (ap (λ y. nat_lt 1 (size_of (given s y))) e ∙ one-value i) (ap (pending_at s) e) h

nothing-placed : (s : State) (all : List Item) (at : ℕ) → AllZip (Leads s all) (open_places at []) []
unfolding open_places
nothing-placed s all at = tt

aligned : (s : State) (all rest : List Item) (at : ℕ) → ((k : ℕ) → item_at all (at + k) ≡ item_at rest k) → HaveDomains s rest → AllZip (Leads s all) (open_places at (domains_at s rest)) (pending s rest)
aligned s all [] at same have = nothing-placed s all at
aligned s all (x ∷ xs) at same have =
    let here : item_at all at ≡ x = ap (item_at all) (omega arith) ∙ same 0 in
    placed s all x xs at (root_item s x) refl (have x (Contains-get_or (x ∷ xs) 0 x (omega arith))) here
    (aligned s all xs (suc at) (λ k. ap (item_at all) (omega arith) ∙ same (suc k)) (λ y h. have y (Contains-append_right (x ∷ []) xs y h)))

-- ---- picks in step

abbrev InStep : (Pending → Pending → Type 0) → Option Pending → Option Pending → Type 0
InStep R None None = ⊤
InStep R None (Some q) = ⊥
InStep R (Some p) None = ⊥
InStep R (Some p) (Some q) = R p q

last-same : (R : Pending → Pending → Type 0) (p q : Pending) (ps qs : List Pending) → R p q → AllZip R ps qs → InStep R (last_or (Some p) ps) (last_or (Some q) qs)
last-same R p q [] [] r h = r
last-same R p q [] (y ∷ qs) r h = absurd h
last-same R p q (x ∷ ps) [] r h = absurd h
last-same R p q (x ∷ ps) (y ∷ qs) r h = last-same R x y ps qs h.0 h.1

chosen-same : (R : Pending → Pending → Type 0) (b c : Bool) (x y p q : Pending) → b ≡ c → R x y → R p q → R (cond b x p) (cond c y q)
chosen-same R true true x y p q e r h = r
chosen-same R true false x y p q e r h = cc
chosen-same R false true x y p q e r h = cc
chosen-same R false false x y p q e r h = h

smallest-same : (R : Pending → Pending → Type 0) → ((p q : Pending) → R p q → p.domain ≡ q.domain) → (p q : Pending) (ps qs : List Pending) → R p q → AllZip R ps qs → R (smallest p ps) (smallest q qs)
unfolding smallest
smallest-same R dom p q [] [] r h = r
smallest-same R dom p q [] (y ∷ qs) r h = absurd h
smallest-same R dom p q (x ∷ ps) [] r h = absurd h
smallest-same R dom p q (x ∷ ps) (y ∷ qs) r h =
    smallest-same R dom (cond (nat_lt (size_of x.domain) (size_of p.domain)) x p) (cond (nat_lt (size_of y.domain) (size_of q.domain)) y q) ps qs
    (chosen-same R (nat_lt (size_of x.domain) (size_of p.domain)) (nat_lt (size_of y.domain) (size_of q.domain)) x y p q
    (ap (λ (d : List Span). nat_lt (size_of d) (size_of p.domain)) (dom x y h.0) ∙ ap (λ (d : List Span). nat_lt (size_of y.domain) (size_of d)) (dom p q r)) h.0 r) h.1

picked-same : (R : Pending → Pending → Type 0) → ((p q : Pending) → R p q → p.domain ≡ q.domain) → (w : VariableWord) (ps qs : List Pending) → AllZip R ps qs → InStep R (picked ps w) (picked qs w)
picked-same R dom w [] [] h = tt
picked-same R dom w [] (q ∷ qs) h = absurd h
picked-same R dom w (p ∷ ps) [] h = absurd h
picked-same R dom forward (p ∷ ps) (q ∷ qs) h = h.0
picked-same R dom backward (p ∷ ps) (q ∷ qs) h = last-same R p q ps qs h.0 h.1
picked-same R dom ff (p ∷ ps) (q ∷ qs) h = smallest-same R dom p q ps qs h.0 h.1

lead-to : (s : State) (items : List Item) (o r : Option Pending) → InStep (Leads s items) o r → option_and_then (λ k. pending_at s (root_item s (item_at items k))) (place_of o) ≡ r
lead-to s items None None h = refl
lead-to s items None (Some q) h = absurd h
lead-to s items (Some p) None h = absurd h
lead-to s items (Some p) (Some q) h = h.1

pub places-lead_to_picks : PlacesLeadToPicks
unfolding picked_place
places-lead_to_picks s items w have =
    lead-to s items (picked (open_places 0 (domains_at s items)) w) (picked (pending s items) w)
    (picked-same (Leads s items) (λ p q h. h.0) w (open_places 0 (domains_at s items)) (pending s items) (aligned s items items 0 (λ k. ap (item_at items) (omega arith)) have))
