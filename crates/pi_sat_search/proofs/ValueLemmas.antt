-- The values of an assignment, found one after the other, and constraints that hold of them.
use Rattle.std.specs.Prelude.{◌≡◌, ◌≢◌, ◌↔◌, ℕ, Bool, true, false, not, ◌+◌, ◌<◌, ◌≤◌, IsTrue, List, [], ◌∷◌, length, get_or, drop, map, All, ℤ, pos, refl}
use Rattle.std.proofs.Common.{arith, sym, ◌∙◌, ap, subst}
use Rattle.std.proofs.lemmas.Bool.{eq-eqb, ne_eqb}
use Rattle.std.proofs.lemmas.List.{drop_more, drop_all, length-map, get_or-map}
use Rattle.pi_constraints.specs.declared.constraint.Constraint.{Constraint}
use Rattle.pi_constraints.specs.declared.constraint.Item.{Item}
use Rattle.pi_constraints.specs.declared.domain.Span.{Span}
use Rattle.pi_constraints.specs.Constraint.{IsWithinLimits}
use Rattle.pi_constraints.specs.Domain.{has_value, IsWithinBounds}
use Rattle.pi_prop_spec.specs.Filter.{Leaves}
use Rattle.pi_prop_spec.specs.Places.{places_of, domain_at}
use Rattle.pi_prop_spec.specs.Solutions.{value_of, Holds}
use Rattle.pi_sat_spec.specs.Domains.{only}
use Rattle.pi_sat_spec.specs.Fixed.{fixed_places}
use Rattle.pi_sat_spec.specs.Places.{HaveNone}
use Rattle.pi_sat_spec.proofs.FixedLemmas.{fixed_places_tell}
use Rattle.pi_sat_search.specs.Assigned.{assigned}

-- ---- the first that a variable has

pub assigned-here : (ps : List (ℕ × ℤ)) (n i : ℕ) (p : ℕ × ℤ) → i < length ps → p ≡ get_or ps i p → p.0 ≡ n → assigned (drop i ps) n ≡ p.1
unfolding assigned
assigned-here ps n i p inside read e =
    ap (λ (qs : List (ℕ × ℤ)). assigned qs n) (drop_more ps i p inside)
    ∙ (ap (λ (q : ℕ × ℤ). assigned (q ∷ drop (i + 1) ps) n) (sym read) ∙ rw (eq-eqb p.0 n e) refl)

pub assigned-behind : (ps : List (ℕ × ℤ)) (n i : ℕ) (p : ℕ × ℤ) → i < length ps → p ≡ get_or ps i p → p.0 ≢ n → assigned (drop (i + 1) ps) n ≡ assigned (drop i ps) n
unfolding assigned
assigned-behind ps n i p inside read e =
    sym (ap (λ (qs : List (ℕ × ℤ)). assigned qs n) (drop_more ps i p inside)
    ∙ (ap (λ (q : ℕ × ℤ). assigned (q ∷ drop (i + 1) ps) n) (sym read) ∙ rw (ne_eqb p.0 n e) refl))

pub assigned-end : (ps : List (ℕ × ℤ)) (n i : ℕ) → length ps ≤ i → assigned (drop i ps) n ≡ pos 0
unfolding assigned
assigned-end ps n i past = ap (λ (qs : List (ℕ × ℤ)). assigned qs n) (drop_all i ps past)

-- ---- a constraint whose filter leaves the values

map-twice : (a : ℕ → ℤ) (xs : List Item) → map only (map (value_of a) xs) ≡ map (λ x. only (value_of a x)) xs
map-twice a [] = refl
map-twice a (x ∷ xs) = ap (λ (ds : List (List Span)). only (value_of a x) ∷ ds) (map-twice a xs)

value-bounds : (a : ℕ → ℤ) (xs : List Item) → All IsWithinBounds (map (value_of a) xs) → All (λ x. IsWithinBounds (value_of a x)) xs
value-bounds a xs h = λ k other l.
    let m : k < length (map (value_of a) xs) = omega (arith, l, length-map xs (value_of a)) in
    subst IsWithinBounds (get_or-map (value_of a) xs k other (pos 0) l) (h k (pos 0) m)

pub holds-so : (c : Constraint) (a : ℕ → ℤ) (numbers : List ℤ) (ds left : List (List Span)) → IsWithinLimits c → numbers ≡ map (value_of a) (places_of c) → All IsWithinBounds numbers → ds ≡ map only numbers →
    length left ≡ length ds → ((k : ℕ) (n : ℤ) → k < length ds → IsTrue (has_value (domain_at left k) n) ↔ Leaves c ds k n) → (HaveNone left → ⊥) → Holds c a
holds-so c a numbers ds left limits are bounds made count values some =
    let fixed : ds ≡ fixed_places a c = made ∙ (ap (map only) are ∙ map-twice a (places_of c)) in
    let many : length ds ≡ length (places_of c) = ap length fixed ∙ length-map (places_of c) (λ (x : Item). only (value_of a x)) in
    fixed_places_tell c a limits (value-bounds a (places_of c) (subst (All IsWithinBounds) are bounds))
    (λ h. some (h.0, (let l = h.1 in omega (arith, l, count, many)), λ n has. h.2 n (subst (λ (es : List (List Span)). Leaves c es h.0 n) fixed ((values h.0 n (let l = h.1 in omega (arith, l, many))).0 has))))

pub not-both : (b : Bool) → IsTrue (not b) → IsTrue b → ⊥
not-both true t h = cc
not-both false t h = cc
