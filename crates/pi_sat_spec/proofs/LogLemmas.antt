-- Lemmas of right entries hold in each solution.
use Rattle.std.specs.Prelude.{◌≡◌, ◌≢◌, ℕ, zero, suc, ◌<◌, ◌≤◌, ◌-◌, Bool, true, false, ◌||◌, IsTrue, Option, Some, List, [], ◌∷◌, length, get_or, slice_get, take, All, Contains, ℤ, refl}
use Rattle.std.proofs.Common.{arith, sym, ◌∙◌, subst, inl, inr}
use Rattle.std.proofs.lemmas.Bool.{cases_Bool, or_cases, both_ways}
use Rattle.std.proofs.lemmas.Option.{slice_get_within, slice_get-get_or, get_or_from_slice_get}
use Rattle.pi_constraints.specs.declared.constraint.Constraint.{Constraint}
use Rattle.pi_constraints.specs.declared.constraint.Item.{Item}
use Rattle.pi_constraints.specs.declared.domain.Span.{Span}
use Rattle.pi_constraints.specs.declared.var_domain.VarDomain.{VarDomain}
use Rattle.pi_constraints.specs.Domain.{IsDomain, has_value}
use Rattle.pi_constraints.specs.Constraint.{IsItem, IsWithinLimits}
use Rattle.pi_prop_spec.specs.Places.{places_of, domain_at}
use Rattle.pi_prop_spec.specs.Solutions.{Holds, value_of, value_at}
use Rattle.pi_prop_spec.proofs.EndLemmas.{not_empty}
use Rattle.pi_prop_spec.proofs.FilterLemmas.{filters_keep_solutions}
use Rattle.pi_sat_spec.specs.declared.entry.SatEntry.{SatEntry}
use Rattle.pi_sat_spec.specs.declared.literal.Literal.{Literal}
use Rattle.pi_sat_spec.specs.Literals.{allows, is_satisfied}
use Rattle.pi_sat_spec.specs.Domains.{domain_of, cut, refuted, has_empty, allowed, item_domain, at_places, AreDomains, IsLemma}
use Rattle.pi_sat_spec.specs.Solutions.{MaySearch, IsSolution}
use Rattle.pi_sat_spec.specs.Logs.{lemma_of, lemma_or_none, lemma_at, by_only, leads_on, Refutes, IsRightEntry, AreRight}
use Rattle.pi_sat_spec.specs.Laws.{LemmasHold, NoSolutionOverARightLog}
use Rattle.pi_sat_spec.proofs.CutLemmas.{rest-of, head-of, domain-good}
use Rattle.pi_sat_spec.proofs.InsideLemmas.{Inside, IsKnown, inside-given, inside-cut, inside-refuted, none-empty, allowed-hold}
use Rattle.pi_sat_spec.proofs.PlaceLemmas.{place_at, place-domain, place-value, place-contained, count-places, place-item, only-domain, only-has}

-- ---- constraints

-- an item's domain has its value
item-good : (given : List VarDomain) (a : ℕ → ℤ) (xs : List VarDomain) → Inside given a xs → (x : Item) → IsItem x → ((n : ℕ) → x ≡ Item.Var n → domain_of given n ≢ []) →
    IsDomain (item_domain xs x) × IsTrue (has_value (item_domain xs x) (value_of a x))
item-good given a xs i (Item.Var n) is known = (domain-good xs n i.domains, i.values n (known n refl))
item-good given a xs i (Item.Int j) is known = (only-domain j is, only-has j)

place-good : (given : List VarDomain) (a : ℕ → ℤ) (xs : List VarDomain) (cs : List Constraint) (number : ℕ) (c : Constraint) → Inside given a xs → MaySearch given cs → slice_get cs number ≡ Some c →
    (k : ℕ) → k < length (places_of c) → IsDomain (domain_at (at_places xs c) k) × IsTrue (has_value (domain_at (at_places xs c) k) (value_at a c k))
place-good given a xs cs number c i may is k l =
    let there : number < length cs = slice_get_within cs number c is in
    let same : get_or cs number c ≡ c = get_or_from_slice_get cs number c c is in
    let limits : IsWithinLimits c = subst IsWithinLimits same (may.limits number c there) in
    let known : (n : ℕ) → place_at c k ≡ Item.Var n → domain_of given n ≢ [] =
    λ n e. subst (λ (b : Constraint). (m : ℕ) → Contains (places_of b) (Item.Var m) → domain_of given m ≢ []) same (may.values number c there) n (subst (Contains (places_of c)) e (place-contained c k l)) in
    let good = item-good given a xs i (place_at c k) (place-item c k limits l) known in (
      subst IsDomain (sym (place-domain xs c k l)) good.0,
      subst (λ (d : List Span). IsTrue (has_value d (value_at a c k))) (sym (place-domain xs c k l))
          (subst (λ (n : ℤ). IsTrue (has_value (item_domain xs (place_at c k)) n)) (sym (place-value a c k l)) good.1),
    )

constraint-holds : (given : List VarDomain) (a : ℕ → ℤ) (cs : List Constraint) (number : ℕ) (c : Constraint) → IsSolution given cs a → slice_get cs number ≡ Some c → Holds c a
constraint-holds given a cs number c s is =
    subst (λ (b : Constraint). Holds b a) (get_or_from_slice_get cs number c c is) (s.holds number c (slice_get_within cs number c is))

not-emptied : (given : List VarDomain) (a : ℕ → ℤ) (xs : List VarDomain) (cs : List Constraint) (number : ℕ) (c : Constraint) → Inside given a xs → MaySearch given cs → IsSolution given cs a →
    slice_get cs number ≡ Some c → Refutes c xs → ⊥
not-emptied given a xs cs number c i may s is (inl empty) = both_ways (has_empty xs) (none-empty a xs i.within) empty
not-emptied given a xs cs number c i may s is (inr (k, l, none)) =
    let good = place-good given a xs cs number c i may is in
    none (value_at a c k)
    (filters_keep_solutions c (at_places xs c) a (record { count = count-places xs c; domains = λ j m. (good j (omega (arith, count-places xs c))).0 }) (λ j m. (good j m).1)
    (constraint-holds given a cs number c s is) k l)

-- ---- hints

-- the lemmas before hold, and each of their literals has a variable with a domain
pub record Hold (given : List VarDomain) (a : ℕ → ℤ) (earlier : List SatEntry) : Type 0 where
  pub known : (h : ℕ) → h < length earlier → All (IsKnown given) (lemma_at earlier h)
  pub hold : (h : ℕ) → h < length earlier → is_satisfied a (lemma_at earlier h) ≡ true

one-holds : (b : Bool) → (b || false) ≡ true → b ≡ true
one-holds true e = refl
one-holds false e = absurd cc

by-only : (a : ℕ → ℤ) (ls : List Literal) (goes_on : Literal → Bool) → is_satisfied a ls ≡ true → ((l : Literal) → allows l (a l.var) ≡ true → goes_on l ≡ true → ⊥) → by_only ls goes_on ≡ true → ⊥
by-only a [] goes_on h never e = cc
by-only a (l ∷ []) goes_on h never e = never l (one-holds (allows l (a l.var)) h) e
by-only a (l ∷ m ∷ ms) goes_on h never e = cc

not-led : (given : List VarDomain) (a : ℕ → ℤ) (earlier : List SatEntry) (xs : List VarDomain) (hints : List ℕ) → Hold given a earlier → Inside given a xs → All (λ h. h < length earlier) hints →
    leads_on earlier xs hints ≡ true → ⊥
unfolding leads_on
not-led given a earlier xs [] hold i below e = cc
not-led given a earlier xs (h ∷ hs) hold i below e =
    let there : h < length earlier = head-of (λ (j : ℕ). j < length earlier) h hs below in
    by-only a (allowed xs (lemma_at earlier h)) (λ l. leads_on earlier (cut xs l) hs) (allowed-hold given a xs (lemma_at earlier h) i (hold.known h there) (hold.hold h there))
    (λ l ok rest. not-led given a earlier (cut xs l) hs hold (inside-cut given a xs l i ok) (rest-of (λ (j : ℕ). j < length earlier) h hs below) rest) e

-- ---- entries

lemma-known : (given : List VarDomain) (lemma : List Literal) → IsLemma given lemma → All (IsKnown given) lemma
lemma-known given lemma is = λ k d l. not_empty (domain_of given (get_or lemma k d).var) (get_or lemma k d).bound (is.bounds k d l)

entry-known : (given : List VarDomain) (cs : List Constraint) (earlier : List SatEntry) (e : SatEntry) → IsRightEntry given cs earlier e → All (IsKnown given) (lemma_of e)
entry-known given cs earlier (SatEntry.FromConstraint lemma constraint) r = lemma-known given lemma r.0
entry-known given cs earlier (SatEntry.Learned lemma hints) r = lemma-known given lemma r.0

learned-holds : (given : List VarDomain) (a : ℕ → ℤ) (earlier : List SatEntry) (xs : List VarDomain) (hints : List ℕ) → Hold given a earlier → Inside given a xs → All (λ h. h < length earlier) hints →
    (has_empty xs || leads_on earlier xs hints) ≡ true → ⊥
learned-holds given a earlier xs hints hold i below e = elim (or_cases (has_empty xs) (leads_on earlier xs hints) e) [
  | inl empty ↦ both_ways (has_empty xs) (none-empty a xs i.within) empty
  | inr led ↦ not-led given a earlier xs hints hold i below led
]

entry-holds : (given : List VarDomain) (a : ℕ → ℤ) (cs : List Constraint) (earlier : List SatEntry) (e : SatEntry) → AreDomains given → MaySearch given cs → IsSolution given cs a → Hold given a earlier →
    IsRightEntry given cs earlier e → is_satisfied a (lemma_of e) ≡ true
entry-holds given a cs earlier (SatEntry.FromConstraint lemma constraint) good may s hold r = elim (cases_Bool (is_satisfied a lemma)) [
  | inl holds ↦ holds
  | inr fails ↦
      absurd (not-emptied given a (refuted given lemma) cs constraint r.1.0 (inside-refuted given a given lemma (inside-given a given good s.within) fails) may s r.1.1 r.1.2)
]
entry-holds given a cs earlier (SatEntry.Learned lemma hints) good may s hold r = elim (cases_Bool (is_satisfied a lemma)) [
  | inl holds ↦ holds
  | inr fails ↦ absurd (learned-holds given a earlier (refuted given lemma) hints hold (inside-refuted given a given lemma (inside-given a given good s.within) fails) r.1 r.2)
]

-- ---- logs

-- an entry of the first so many
pub taken : {X : Type 0} (k : ℕ) (xs : List X) (h : ℕ) → h < length (take k xs) → (h < k) × (slice_get (take k xs) h ≡ slice_get xs h)
taken zero xs h l = absurd (omega arith)
taken (suc k) [] h l = absurd (omega arith)
taken (suc k) (x ∷ xs) zero l = (omega arith, refl)
taken (suc k) (x ∷ xs) (suc h) l = let r = taken k xs h (omega arith) in (omega (arith, r.0), r.1)

Each : (given : List VarDomain) (a : ℕ → ℤ) (log : List SatEntry) → ℕ → Type 0
Each given a log n = (k : ℕ) (e : SatEntry) → k < n → slice_get log k ≡ Some e → All (IsKnown given) (lemma_of e) × (is_satisfied a (lemma_of e) ≡ true)

earlier-hold : (given : List VarDomain) (a : ℕ → ℤ) (log : List SatEntry) (n k : ℕ) (other : SatEntry) → k ≤ n → Each given a log n → Hold given a (take k log)
unfolding Each
earlier-hold given a log n k other le each = record {
  known = λ h l.
      let t = taken k log h l in
      let is = slice_get-get_or (take k log) h other l in
      subst (λ (o : Option SatEntry). All (IsKnown given) (lemma_or_none o)) (sym is) (each h (get_or (take k log) h other) (omega (arith, t.0)) (sym t.1 ∙ is)).0;
  hold = λ h l.
      let t = taken k log h l in
      let is = slice_get-get_or (take k log) h other l in
      subst (λ (o : Option SatEntry). is_satisfied a (lemma_or_none o) ≡ true) (sym is) (each h (get_or (take k log) h other) (omega (arith, t.0)) (sym t.1 ∙ is)).1;
}

each-holds : (given : List VarDomain) (a : ℕ → ℤ) (cs : List Constraint) (log : List SatEntry) → AreDomains given → MaySearch given cs → AreRight given cs log → IsSolution given cs a → (n : ℕ) → Each given a log n
unfolding Each
each-holds given a cs log good may right s zero k e l is = absurd (omega arith)
each-holds given a cs log good may right s (suc n) k e l is =
    let r : IsRightEntry given cs (take k log) e = right k e is in (
      entry-known given cs (take k log) e r,
      entry-holds given a cs (take k log) e good may s (earlier-hold given a log n k e (omega arith) (each-holds given a cs log good may right s n)) r,
    )

pub lemmas_hold : LemmasHold
unfolding Each
lemmas_hold given cs log a good may right s k e is = (each-holds given a cs log good may right s (suc k) k e (omega arith) is).1

pub none_over_right_log : NoSolutionOverARightLog
none_over_right_log given cs log a good may right s =
    let last = right.last in
    let holds : is_satisfied a (lemma_of last.0) ≡ true = lemmas_hold given cs log a good may right.entries s (length log - 1) last.0 last.1 in
    let none : is_satisfied a [] ≡ true = subst (λ (ls : List Literal). is_satisfied a ls ≡ true) last.2 holds in
    absurd (both_ways false refl none)
