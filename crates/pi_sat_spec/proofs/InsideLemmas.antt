-- Domains in which the values of a solution stay.
use Rattle.std.specs.Prelude.{◌≡◌, ◌≢◌, ℕ, true, false, nat_eq, IsTrue, List, [], ◌∷◌, All, ℤ, refl}
use Rattle.std.proofs.Common.{subst, inl, inr}
use Rattle.std.proofs.lemmas.Bool.{cases_Bool, eqb-true, or_parts, or_from}
use Rattle.pi_constraints.specs.declared.domain.Span.{Span}
use Rattle.pi_constraints.specs.declared.var_domain.VarDomain.{VarDomain}
use Rattle.pi_constraints.specs.Domain.{has_value}
use Rattle.pi_sat_spec.specs.declared.literal.Literal.{Literal}
use Rattle.pi_sat_spec.specs.Literals.{allows, negated, left_by, is_satisfied}
use Rattle.pi_sat_spec.specs.Domains.{domain_of, cut, refuted, has_none, has_empty, is_allowed, allowed, AreDomains}
use Rattle.pi_sat_spec.specs.Solutions.{LiesWithin}
use Rattle.pi_sat_spec.proofs.LiteralLemmas.{left-has, negation-allows}
use Rattle.pi_sat_spec.proofs.CutLemmas.{head-of, rest-of, cut-domains, cut-within, cut-value, domain-good}

-- the values lie in the domains xs, and each variable that has a domain among those given has its value there
pub record Inside (given : List VarDomain) (a : ℕ → ℤ) (xs : List VarDomain) : Type 0 where
  pub domains : AreDomains xs
  pub within : LiesWithin xs a
  pub values : (n : ℕ) → domain_of given n ≢ [] → IsTrue (has_value (domain_of xs n) (a n))

value-given : (a : ℕ → ℤ) (xs : List VarDomain) (n : ℕ) → LiesWithin xs a → domain_of xs n ≢ [] → IsTrue (has_value (domain_of xs n) (a n))
unfolding domain_of
value-given a [] n h some = absurd (some refl)
value-given a (x ∷ xs) n h some = elim (cases_Bool (nat_eq x.var n)) [
  | inl e ↦
      let same : x.var ≡ n = eqb-true x.var n e in
      rw e (subst (λ (v : ℕ). IsTrue (has_value x.domain (a v))) same (head-of (λ (y : VarDomain). IsTrue (has_value y.domain (a y.var))) x xs h))
  | inr e ↦
      let rest : domain_of xs n ≢ [] = rw e at some in
      rw e (value-given a xs n (rest-of (λ (y : VarDomain). IsTrue (has_value y.domain (a y.var))) x xs h) rest)
]

pub inside-given : (a : ℕ → ℤ) (xs : List VarDomain) → AreDomains xs → LiesWithin xs a → Inside xs a xs
inside-given a xs good h = record { domains = good; within = h; values = λ n some. value-given a xs n h some }

pub inside-cut : (given : List VarDomain) (a : ℕ → ℤ) (xs : List VarDomain) (l : Literal) → Inside given a xs → IsTrue (allows l (a l.var)) → Inside given a (cut xs l)
inside-cut given a xs l i ok = record {
  domains = cut-domains xs l i.domains;
  within = cut-within a xs l i.domains i.within ok;
  values = λ n some. cut-value a xs l n i.domains ok (i.values n some);
}

pub inside-refuted : (given : List VarDomain) (a : ℕ → ℤ) (xs : List VarDomain) (lemma : List Literal) → Inside given a xs → is_satisfied a lemma ≡ false → Inside given a (refuted xs lemma)
unfolding refuted
inside-refuted given a xs [] i e = i
inside-refuted given a xs (l ∷ ls) i e =
    let parts = or_parts (allows l (a l.var)) (is_satisfied a ls) e in
    inside-refuted given a (cut xs (negated l)) ls (inside-cut given a xs (negated l) i (negation-allows l (a l.var) parts.0)) parts.1

some-value : (d : List Span) (n : ℤ) → IsTrue (has_value d n) → has_none d ≡ false
unfolding has_value
some-value [] n h = absurd cc
some-value (s ∷ ss) n h = refl

pub none-empty : (a : ℕ → ℤ) (xs : List VarDomain) → LiesWithin xs a → has_empty xs ≡ false
none-empty a [] h = refl
none-empty a (x ∷ xs) h =
    or_from (has_none x.domain) (has_empty xs) (some-value x.domain (a x.var) (head-of (λ (y : VarDomain). IsTrue (has_value y.domain (a y.var))) x xs h))
    (none-empty a xs (rest-of (λ (y : VarDomain). IsTrue (has_value y.domain (a y.var))) x xs h))

-- the values are a variable's own
abbrev pub IsKnown : List VarDomain → Literal → Type 0
IsKnown given l = domain_of given l.var ≢ []

-- a literal that holds is allowed
holding-allowed : (given : List VarDomain) (a : ℕ → ℤ) (xs : List VarDomain) (l : Literal) → Inside given a xs → IsKnown given l → IsTrue (allows l (a l.var)) → is_allowed xs l ≡ true
holding-allowed given a xs l i known ok =
    let some : has_none (left_by l (domain_of xs l.var)) ≡ false =
    some-value (left_by l (domain_of xs l.var)) (a l.var) (left-has l (domain_of xs l.var) (a l.var) (domain-good xs l.var i.domains) (i.values l.var known) ok) in
    rw some refl

-- so the allowed literals of a lemma that holds are a lemma that holds
pub allowed-hold : (given : List VarDomain) (a : ℕ → ℤ) (xs : List VarDomain) (lemma : List Literal) → Inside given a xs → All (IsKnown given) lemma → is_satisfied a lemma ≡ true →
    is_satisfied a (allowed xs lemma) ≡ true
allowed-hold given a xs [] i known h = h
allowed-hold given a xs (l ∷ ls) i known h = elim (cases_Bool (allows l (a l.var))) [
  | inl ok ↦ let e = holding-allowed given a xs l i (head-of (IsKnown given) l ls known) ok in rw e (rw ok refl)
  | inr fails ↦
      let rest : is_satisfied a ls ≡ true = rw fails at h in
      let later : is_satisfied a (allowed xs ls) ≡ true = allowed-hold given a xs ls i (rest-of (IsKnown given) l ls known) rest in
      elim (cases_Bool (is_allowed xs l)) [ inl e ↦ rw e (rw fails later) | inr e ↦ rw e later ]
]
