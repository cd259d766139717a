-- Steps of loops, and what they come to.
use Rattle.std.specs.Prelude.{◌≡◌, ◌↔◌, ℕ, zero, suc, ◌+◌, ◌<◌, ◌≤◌, Bool, true, false, IsTrue, Option, Some, None, List, [], ◌∷◌, length, get_or, slice_get, drop, ℤ, refl}
use Rattle.std.proofs.Common.{arith, sym, ◌∙◌, ap, subst, inl, inr}
use Rattle.std.proofs.lemmas.Bool.{both_ways}
use Rattle.std.proofs.lemmas.List.{drop_more, drop_all, length-map}
use Rattle.std.proofs.lemmas.Option.{slice_get-get_or}
use Rattle.pi_constraints.specs.declared.constraint.Constraint.{Constraint}
use Rattle.pi_constraints.specs.declared.constraint.Item.{Item}
use Rattle.pi_constraints.specs.declared.domain.Span.{Span}
use Rattle.pi_constraints.specs.declared.var_domain.VarDomain.{VarDomain}
use Rattle.pi_constraints.specs.Constraint.{IsItem, AreItems}
use Rattle.pi_constraints.specs.Domain.{has_value}
use Rattle.pi_prop_spec.specs.Places.{places_of, domain_at}
use Rattle.pi_prop_spec.specs.Filter.{Leaves}
use Rattle.pi_sat_spec.specs.declared.entry.SatEntry.{SatEntry}
use Rattle.pi_sat_spec.specs.declared.literal.Literal.{Literal}
use Rattle.pi_sat_spec.specs.Literals.{negated}
use Rattle.pi_sat_spec.specs.Domains.{cut, refuted, has_empty, allowed, item_domain, at_places}
use Rattle.pi_sat_spec.specs.Logs.{lemma_of, lemma_or_none, lemma_at, by_only, leads_on, Refutes}
use Rattle.pi_sat_spec.specs.Places.{HaveNone}

-- ---- cuts

pub refuted-step : (xs ys : List VarDomain) (lemma : List Literal) (i : ℕ) (l : Literal) (whole : List VarDomain) → i < length lemma → l ≡ get_or lemma i l → ys ≡ cut xs (negated l) →
    refuted xs (drop i lemma) ≡ whole → refuted ys (drop (i + 1) lemma) ≡ whole
unfolding refuted
refuted-step xs ys lemma i l whole inside e is h =
    ap (λ (zs : List VarDomain). refuted zs (drop (i + 1) lemma)) (is ∙ ap (λ (m : Literal). cut xs (negated m)) e) ∙ (ap (refuted xs) (sym (drop_more lemma i l inside)) ∙ h)

pub refuted-end : (xs : List VarDomain) (lemma : List Literal) (i : ℕ) (whole : List VarDomain) → length lemma ≤ i → refuted xs (drop i lemma) ≡ whole → xs ≡ whole
unfolding refuted
refuted-end xs lemma i whole past h = ap (refuted xs) (sym (drop_all i lemma past)) ∙ h

-- ---- hints

pub lemma-read : (earlier : List SatEntry) (h : ℕ) (e : SatEntry) → h < length earlier → e ≡ get_or earlier h e → lemma_of e ≡ lemma_at earlier h
lemma-read earlier h e inside is = ap lemma_of is ∙ ap lemma_or_none (sym (slice_get-get_or earlier h e inside))

led : (earlier : List SatEntry) (xs : List VarDomain) (hints : List ℕ) (i : ℕ) (whole : Bool) → i < length hints → leads_on earlier xs (drop i hints) ≡ whole →
    by_only (allowed xs (lemma_at earlier (get_or hints i 0))) (λ l. leads_on earlier (cut xs l) (drop (i + 1) hints)) ≡ whole
unfolding leads_on
led earlier xs hints i whole inside h = ap (leads_on earlier xs) (sym (drop_more hints i 0 inside)) ∙ h

pub led-nothing : (earlier : List SatEntry) (xs : List VarDomain) (hints : List ℕ) (i : ℕ) (whole : Bool) → i < length hints → leads_on earlier xs (drop i hints) ≡ whole →
    allowed xs (lemma_at earlier (get_or hints i 0)) ≡ [] → true ≡ whole
led-nothing earlier xs hints i whole inside h none = ap (λ (ls : List Literal). by_only ls (λ l. leads_on earlier (cut xs l) (drop (i + 1) hints))) (sym none) ∙ led earlier xs hints i whole inside h

pub led-one : (earlier : List SatEntry) (xs ys : List VarDomain) (hints : List ℕ) (i : ℕ) (l : Literal) (whole : Bool) → i < length hints → leads_on earlier xs (drop i hints) ≡ whole →
    allowed xs (lemma_at earlier (get_or hints i 0)) ≡ l ∷ [] → ys ≡ cut xs l → leads_on earlier ys (drop (i + 1) hints) ≡ whole
led-one earlier xs ys hints i l whole inside h one is =
    ap (λ (zs : List VarDomain). leads_on earlier zs (drop (i + 1) hints)) is
    ∙ (ap (λ (ls : List Literal). by_only ls (λ m. leads_on earlier (cut xs m) (drop (i + 1) hints))) (sym one) ∙ led earlier xs hints i whole inside h)

two-or-more : (ls : List Literal) (goes_on : Literal → Bool) → 2 ≤ length ls → false ≡ by_only ls goes_on
two-or-more [] goes_on l = absurd (omega arith)
two-or-more (x ∷ []) goes_on l = absurd (omega arith)
two-or-more (x ∷ y ∷ ls) goes_on l = refl

pub led-more : (earlier : List SatEntry) (xs : List VarDomain) (hints : List ℕ) (i : ℕ) (whole : Bool) → i < length hints → leads_on earlier xs (drop i hints) ≡ whole →
    2 ≤ length (allowed xs (lemma_at earlier (get_or hints i 0))) → false ≡ whole
led-more earlier xs hints i whole inside h more =
    two-or-more (allowed xs (lemma_at earlier (get_or hints i 0))) (λ l. leads_on earlier (cut xs l) (drop (i + 1) hints)) more ∙ led earlier xs hints i whole inside h

pub led-end : (earlier : List SatEntry) (xs : List VarDomain) (hints : List ℕ) (i : ℕ) (whole : Bool) → length hints ≤ i → leads_on earlier xs (drop i hints) ≡ whole → false ≡ whole
unfolding leads_on
led-end earlier xs hints i whole past h = ap (leads_on earlier xs) (sym (drop_all i hints past)) ∙ h

-- ---- constraints

pub item-at : (xs : List Item) (k : ℕ) (x : Item) → k < length xs → AreItems xs → x ≡ get_or xs k x → IsItem x
unfolding AreItems
item-at [] k x l h e = absurd (omega arith)
item-at (y ∷ xs) zero x l h e = subst IsItem (sym e) h.0
item-at (y ∷ xs) (suc k) x l h e = item-at xs k x (omega arith) h.1 e

pub none-left-is : (c : Constraint) (xs : List VarDomain) (ds left : List (List Span)) → ds ≡ at_places xs c → has_empty xs ≡ false → length left ≡ length ds → ((k : ℕ) (n : ℤ) → k < length ds → IsTrue (has_value (domain_at left k) n) ↔ Leaves c ds k n) → HaveNone left ↔ Refutes c xs
none-left-is c xs ds left made some same values =
    let count : length left ≡ length (places_of c) = same ∙ (ap length made ∙ length-map (places_of c) (item_domain xs)) in
    let many : length ds ≡ length (places_of c) = ap length made ∙ length-map (places_of c) (item_domain xs) in (
      λ h. inr (h.0, (let l = h.1 in omega (arith, l, count)), λ n stays. h.2 n ((values h.0 n (let l = h.1 in omega (arith, l, count, many))).1 (subst (λ (es : List (List Span)). Leaves c es h.0 n) (sym made) stays))),
      λ h. elim h [
        | inl empty ↦ absurd (both_ways (has_empty xs) some empty)
        | inr (k, l, none) ↦ (k, omega (arith, l, count), λ n has. none n (subst (λ (es : List (List Span)). Leaves c es k n) made ((values k n (omega (arith, l, many))).0 has)))
      ],
    )

pub found-one : (cs : List Constraint) (number : ℕ) (x : Constraint) (b : Bool) (P : Constraint → Type 0) → slice_get cs number ≡ Some x → (IsTrue b ↔ P x) → IsTrue b ↔ ((c : Constraint) × (slice_get cs number ≡ Some c) × P c)
found-one cs number x b P is h = (λ t. (x, is, h.0 t), λ f. h.1 (let same : f.0 ≡ x = some-same f.0 x (sym f.1 ∙ is) in subst P same f.2))
  where
    some-or : Constraint → Option Constraint → Constraint
    some-or d None = d
    some-or d (Some y) = y

    some-same : (y z : Constraint) → Some y ≡ Some z → y ≡ z
    some-same y z e = ap (some-or y) e

pub with-first : {P Q : Type 0} (b : Bool) → P → (IsTrue b ↔ Q) → IsTrue b ↔ (P × Q)
with-first b p h = (λ t. (p, h.0 t), λ r. h.1 r.1)

pub with-first_of_two : {P Q R : Type 0} (b : Bool) → P → (IsTrue b ↔ (Q × R)) → IsTrue b ↔ (P × Q × R)
with-first_of_two b p h = (λ t. let r = h.0 t in (p, r.0, r.1), λ r. h.1 (r.1, r.2))
