-- What is left of domains that are cut, and of what they allow.
use Rattle.std.specs.Prelude.{◌≡◌, ◌≢◌, ◌⊎◌, ℕ, zero, suc, ◌<◌, Bool, true, false, not, ◌&&◌, nat_eq, IsTrue, List, [], ◌∷◌, ◌++◌, length, get_or, All, ℤ, ◌≤ℤ◌, int_le, refl}
use Rattle.std.proofs.Common.{arith, sym, ◌∙◌, ap, subst, inl, inr}
use Rattle.std.proofs.lemmas.Bool.{cases_Bool, both_ways, and_parts, eqb-true, eqb-false, eq-eqb, ne_eqb, or_parts, or_from}
use Rattle.std.proofs.lemmas.Int.{ints}
use Rattle.std.proofs.lemmas.List.Elements.{All-nil, All-cons, All-head, All-tail}
use Rattle.pi_constraints.specs.declared.domain.Span.{Span}
use Rattle.pi_constraints.specs.declared.var_domain.VarDomain.{VarDomain}
use Rattle.pi_constraints.specs.Domain.{IsDomain, has_value, common}
use Rattle.pi_constraints.proofs.DomainLemmas.{same_values_same_domain}
use Rattle.pi_sat_spec.specs.declared.literal.Literal.{Literal}
use Rattle.pi_sat_spec.specs.Literals.{allows, negated, left_by}
use Rattle.pi_sat_spec.specs.Domains.{domain_of, cut, refuted, has_none, has_empty, is_allowed, allowed, AreDomains}
use Rattle.pi_sat_spec.proofs.CutLemmas.{cut-domains, domain-good}
use Rattle.pi_sat_spec.proofs.LeftLemmas.{no-values, a-value}
use Rattle.pi_sat_spec.proofs.LiteralLemmas.{left-value, left-domain, left-has}
use Rattle.pi_sat_search.proofs.SortedLemmas.{none-pass, pass-none, All-more}
use Rattle.pi_sat_search.specs.Steps.{IsOnce}

abbrev Good : VarDomain → Type 0
Good x = IsDomain x.domain

-- ---- one domain

-- what a literal leaves has only values of before, which make it so
pub left-parts : (l : Literal) (d : List Span) (n : ℤ) → IsDomain d → IsTrue (has_value (left_by l d) n) → IsTrue (has_value d n) × IsTrue (allows l n)
left-parts l d n good h = and_parts (has_value d n) (allows l n) (sym (left-value l d n good) ∙ h)

pub allowed-by : (l : Literal) (d : List Span) (n : ℤ) → IsDomain d → IsTrue (has_value d n) → IsTrue (allows l n) → not (has_none (left_by l d)) ≡ true
allowed-by l d n good h ok = elim (cases_Bool (has_none (left_by l d))) [
  | inl e ↦ absurd (no-values (left_by l d) n e (left-has l d n good h ok))
  | inr e ↦ rw e refl
]

pub allowed-value : (l : Literal) (d : List Span) → IsDomain d → not (has_none (left_by l d)) ≡ true → (n : ℤ) × IsTrue (has_value d n) × IsTrue (allows l n)
allowed-value l d good e = elim (cases_Bool (has_none (left_by l d))) [
  | inl f ↦ absurd (let g : not true ≡ true = rw f at e in cc)
  | inr f ↦ let v = a-value (left_by l d) (left-domain l d good) f in let p = left-parts l d v.0 good v.1 in (v.0, p.0, p.1)
]

weaker : (b c n : ℤ) → b ≤ℤ c → not (int_le n c) ≡ true → not (int_le n b) ≡ true
weaker b c n h e = grind (arith, ints, h, e)

-- the weaker of two bounds leaves nothing else
pub left-twice : (x : ℕ) (b c : ℤ) (d : List Span) → IsDomain d → b ≤ℤ c →
    left_by (record { var = x; bound = c; above = true }) (left_by (record { var = x; bound = b; above = true }) d) ≡ left_by (record { var = x; bound = c; above = true }) d
left-twice x b c d good le =
    let l : Literal = record { var = x; bound = b; above = true } in
    let m : Literal = record { var = x; bound = c; above = true } in
    same_values_same_domain (left_by m (left_by l d)) (left_by m d) (left-domain m (left_by l d) (left-domain l d good)) (left-domain m d good)
    (λ n. left-value m (left_by l d) n (left-domain l d good) ∙ (ap (λ (t : Bool). t && allows m n) (left-value l d n good) ∙ (twice (has_value d n) (not (int_le n b)) (not (int_le n c)) (weaker b c n le) ∙ sym (left-value m d n good))))
  where
    twice : (h s t : Bool) → (t ≡ true → s ≡ true) → ((h && s) && t) ≡ (h && t)
    twice true true t f = refl
    twice true false true f = absurd (let e : false ≡ true = f refl in cc)
    twice true false false f = refl
    twice false s t f = refl

-- ---- the domain of a variable

pub cut-other : (xs : List VarDomain) (l : Literal) (n : ℕ) → n ≢ l.var → domain_of (cut xs l) n ≡ domain_of xs n
unfolding cut domain_of
cut-other [] l n other = refl
cut-other (x ∷ xs) l n other = elim (cases_Bool (nat_eq x.var l.var)) [
  | inl e ↦
      let f : nat_eq x.var n ≡ false = ne_eqb x.var n (λ g. other (sym g ∙ eqb-true x.var l.var e)) in
      rw e (rw f refl)
  | inr e ↦ rw e (elim (cases_Bool (nat_eq x.var n)) [ inl f ↦ rw f refl | inr f ↦ rw f (cut-other xs l n other) ])
]

pub cut-here : (xs : List VarDomain) (l : Literal) → domain_of (cut xs l) l.var ≡ left_by l (domain_of xs l.var)
unfolding cut domain_of left_by common
cut-here [] l = refl
cut-here (x ∷ xs) l = elim (cases_Bool (nat_eq x.var l.var)) [
  | inl e ↦ rw e (rw e refl)
  | inr e ↦ rw e (rw e (cut-here xs l))
]

abbrev pub Has : List VarDomain → ℕ → ℤ → Type 0
Has xs n v = IsTrue (has_value (domain_of xs n) v)

pub same-or-other : (m n : ℕ) → (m ≡ n) ⊎ (m ≢ n)
same-or-other m n = elim (cases_Bool (nat_eq m n)) [ inl e ↦ inl (eqb-true m n e) | inr e ↦ inr (eqb-false m n e) ]

pub cut-has-parts : (xs : List VarDomain) (l : Literal) (n : ℕ) (v : ℤ) → AreDomains xs → Has (cut xs l) n v → Has xs n v × (n ≡ l.var → IsTrue (allows l v))
cut-has-parts xs l n v good h = elim (same-or-other n l.var) [
  | inl e ↦
      let here : IsTrue (has_value (left_by l (domain_of xs l.var)) v) = subst (λ (d : List Span). IsTrue (has_value d v)) (ap (domain_of (cut xs l)) e ∙ cut-here xs l) h in
      let p = left-parts l (domain_of xs l.var) v (domain-good xs l.var good) here in
      (subst (λ (m : ℕ). Has xs m v) (sym e) p.0, λ f. p.1)
  | inr other ↦ (subst (λ (d : List Span). IsTrue (has_value d v)) (cut-other xs l n other) h, λ f. absurd (other f))
]

pub cut-keeps : (xs : List VarDomain) (l : Literal) (n : ℕ) (v : ℤ) → AreDomains xs → Has xs n v → (n ≡ l.var → IsTrue (allows l v)) → Has (cut xs l) n v
cut-keeps xs l n v good h ok = elim (same-or-other n l.var) [
  | inl e ↦
      subst (λ (d : List Span). IsTrue (has_value d v)) (sym (ap (domain_of (cut xs l)) e ∙ cut-here xs l))
      (left-has l (domain_of xs l.var) v (domain-good xs l.var good) (subst (λ (m : ℕ). Has xs m v) e h) (ok e))
  | inr other ↦ subst (λ (d : List Span). IsTrue (has_value d v)) (sym (cut-other xs l n other)) h
]

-- ---- what is allowed

pub is-allowed : (xs : List VarDomain) (m : Literal) (v : ℤ) → AreDomains xs → Has xs m.var v → IsTrue (allows m v) → is_allowed xs m ≡ true
is-allowed xs m v good h ok = allowed-by m (domain_of xs m.var) v (domain-good xs m.var good) h ok

pub value-of-allowed : (xs : List VarDomain) (m : Literal) → AreDomains xs → is_allowed xs m ≡ true → (v : ℤ) × Has xs m.var v × IsTrue (allows m v)
value-of-allowed xs m good e = allowed-value m (domain_of xs m.var) (domain-good xs m.var good) e

pub not-allowed-cut : (xs : List VarDomain) (l m : Literal) → AreDomains xs → is_allowed xs m ≡ false → is_allowed (cut xs l) m ≡ false
not-allowed-cut xs l m good e = elim (cases_Bool (is_allowed (cut xs l) m)) [
  | inl t ↦
      let v = value-of-allowed (cut xs l) m (cut-domains xs l good) t in
      absurd (both_ways (is_allowed xs m) e (is-allowed xs m v.0 good (cut-has-parts xs l m.var v.0 good v.1).0 v.2))
  | inr f ↦ f
]

pub none-allowed-cut : (xs : List VarDomain) (l : Literal) (lemma : List Literal) → AreDomains xs → allowed xs lemma ≡ [] → allowed (cut xs l) lemma ≡ []
none-allowed-cut xs l lemma good e =
    pass-none (is_allowed (cut xs l)) lemma (All-more (λ m. is_allowed xs m ≡ false) (λ m. is_allowed (cut xs l) m ≡ false) lemma (λ m f. not-allowed-cut xs l m good f) (none-pass (is_allowed xs) lemma e))

not-allowed-refuted : (xs : List VarDomain) (lemma : List Literal) (m : Literal) → AreDomains xs → is_allowed xs m ≡ false → is_allowed (refuted xs lemma) m ≡ false
unfolding refuted
not-allowed-refuted xs [] m good e = e
not-allowed-refuted xs (l ∷ ls) m good e = not-allowed-refuted (cut xs (negated l)) ls m (cut-domains xs (negated l) good) (not-allowed-cut xs (negated l) m good e)

not-both : (above : Bool) (b v : ℤ) → IsTrue (allows (record { var = 0; bound = b; above = above }) v) → IsTrue (allows (record { var = 0; bound = b; above = not above }) v) → ⊥
not-both true b v h g = grind (arith, ints, h, g)
not-both false b v h g = grind (arith, ints, h, g)

denied : (xs : List VarDomain) (l : Literal) → AreDomains xs → is_allowed (cut xs (negated l)) l ≡ false
denied xs l good = elim (cases_Bool (is_allowed (cut xs (negated l)) l)) [
  | inl t ↦
      let v = value-of-allowed (cut xs (negated l)) l (cut-domains xs (negated l) good) t in
      absurd (not-both l.above l.bound v.0 v.2 ((cut-has-parts xs (negated l) l.var v.0 good v.1).1 refl))
  | inr f ↦ f
]

-- where the negation of each literal of a lemma cut the domains, none of them is allowed
pub refuted-all : (xs : List VarDomain) (lemma : List Literal) → AreDomains xs → All (λ m. is_allowed (refuted xs lemma) m ≡ false) lemma
unfolding refuted
refuted-all xs [] good = All-nil (λ m. is_allowed (refuted xs []) m ≡ false)
refuted-all xs (l ∷ ls) good =
    let after : List VarDomain = cut xs (negated l) in
    let fine : AreDomains after = cut-domains xs (negated l) good in
    All-cons (λ m. is_allowed (refuted after ls) m ≡ false) l ls (not-allowed-refuted after ls l fine (denied xs l good)) (refuted-all after ls fine)

pub refuted-none : (xs : List VarDomain) (lemma : List Literal) → AreDomains xs → allowed (refuted xs lemma) lemma ≡ []
refuted-none xs lemma good = pass-none (is_allowed (refuted xs lemma)) lemma (refuted-all xs lemma good)

pub refuted-before : (xs : List VarDomain) (lemma : List Literal) (n : ℕ) (v : ℤ) → AreDomains xs → Has (refuted xs lemma) n v → Has xs n v
unfolding refuted
refuted-before xs [] n v good h = h
refuted-before xs (l ∷ ls) n v good h = (cut-has-parts xs (negated l) n v good (refuted-before (cut xs (negated l)) ls n v (cut-domains xs (negated l) good) h)).0

pub refuted-push : (xs : List VarDomain) (lemma : List Literal) (l : Literal) → refuted xs (lemma ++ l ∷ []) ≡ cut (refuted xs lemma) (negated l)
unfolding refuted
refuted-push xs [] l = refl
refuted-push xs (m ∷ ls) l = refuted-push (cut xs (negated m)) ls l

pub refuted-domains : (xs : List VarDomain) (lemma : List Literal) → AreDomains xs → AreDomains (refuted xs lemma)
unfolding refuted
refuted-domains xs [] good = good
refuted-domains xs (l ∷ ls) good = refuted-domains (cut xs (negated l)) ls (cut-domains xs (negated l) good)

-- ---- two cuts that are one, and what cuts leave as it is

pub cut-twice : (x : ℕ) (b c : ℤ) (xs : List VarDomain) → AreDomains xs → b ≤ℤ c →
    cut (cut xs (record { var = x; bound = b; above = true })) (record { var = x; bound = c; above = true }) ≡ cut xs (record { var = x; bound = c; above = true })
unfolding cut
cut-twice x b c [] good le = refl
cut-twice x b c (y ∷ ys) good le = elim (cases_Bool (nat_eq y.var x)) [
  | inl e ↦ rw e (rw e (ap (λ (d : List Span). (record { var = y.var; domain = d }) ∷ ys) (left-twice x b c y.domain (All-head Good y ys good) le)))
  | inr e ↦ rw e (rw e (ap (λ (zs : List VarDomain). y ∷ zs) (cut-twice x b c ys (All-tail Good y ys good) le)))
]

pub cut-some : (xs : List VarDomain) (l : Literal) → has_empty xs ≡ false → is_allowed xs l ≡ true → has_empty (cut xs l) ≡ false
unfolding cut domain_of
cut-some [] l some ok = some
cut-some (x ∷ xs) l some ok =
    let parts = or_parts (has_none x.domain) (has_empty xs) some in
    elim (cases_Bool (nat_eq x.var l.var)) [
      | inl e ↦
          let here : not (has_none (left_by l x.domain)) ≡ true = rw e at ok in
          rw e (or_from (has_none (left_by l x.domain)) (has_empty xs) (turn (has_none (left_by l x.domain)) here) parts.1)
      | inr e ↦
          let there : is_allowed xs l ≡ true = rw e at ok in
          rw e (or_from (has_none x.domain) (has_empty (cut xs l)) parts.0 (cut-some xs l parts.1 there))
    ]
  where
    turn : (b : Bool) → not b ≡ true → b ≡ false
    turn true e = absurd (let f : false ≡ true = e in cc)
    turn false e = refl

pub cut-count : (xs : List VarDomain) (l : Literal) → length (cut xs l) ≡ length xs
unfolding cut
cut-count [] l = refl
cut-count (x ∷ xs) l = elim (cases_Bool (nat_eq x.var l.var)) [
  | inl e ↦ rw e refl
  | inr e ↦ rw e (ap suc (cut-count xs l))
]

pub cut-var : (xs : List VarDomain) (l : Literal) (i : ℕ) (other : VarDomain) → i < length xs → (get_or (cut xs l) i other).var ≡ (get_or xs i other).var
unfolding cut
cut-var [] l i other lt = absurd (omega (arith, lt))
cut-var (x ∷ xs) l zero other lt = elim (cases_Bool (nat_eq x.var l.var)) [ inl e ↦ rw e refl | inr e ↦ rw e refl ]
cut-var (x ∷ xs) l (suc i) other lt = elim (cases_Bool (nat_eq x.var l.var)) [
  | inl e ↦ rw e refl
  | inr e ↦ rw e (cut-var xs l i other (omega (arith, lt)))
]

pub cut-once : (xs : List VarDomain) (l : Literal) → IsOnce xs → IsOnce (cut xs l)
cut-once xs l once i j other less inside e =
    let lt : j < length xs = omega (arith, inside, cut-count xs l) in
    once i j other less lt (sym (cut-var xs l i other (omega (arith, less, lt))) ∙ (e ∙ cut-var xs l j other lt))

-- where no domain is empty, that of a variable that has one isn't
pub some-domain : (xs : List VarDomain) (i : ℕ) (other : VarDomain) → has_empty xs ≡ false → i < length xs → domain_of xs (get_or xs i other).var ≢ []
unfolding domain_of
some-domain [] i other some lt = absurd (omega (arith, lt))
some-domain (x ∷ xs) zero other some lt =
    let parts = or_parts (has_none x.domain) (has_empty xs) some in
    rw (eq-eqb x.var x.var refl) (λ e. both_ways (has_none x.domain) parts.0 (ap has_none e))
some-domain (x ∷ xs) (suc i) other some lt =
    let parts = or_parts (has_none x.domain) (has_empty xs) some in
    elim (cases_Bool (nat_eq x.var (get_or xs i other).var)) [
      | inl e ↦ rw e (λ f. both_ways (has_none x.domain) parts.0 (ap has_none f))
      | inr e ↦ rw e (some-domain xs i other parts.1 (omega (arith, lt)))
    ]
