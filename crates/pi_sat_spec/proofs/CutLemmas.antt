-- Values that lie in domains still do where a literal that they make so cuts the domains.
use Rattle.std.specs.Prelude.{◌≡◌, ℕ, suc, nat_eq, IsTrue, List, [], ◌∷◌, All, ℤ}
use Rattle.std.proofs.Common.{arith, sym, ◌∙◌, subst, inl, inr}
use Rattle.std.proofs.lemmas.Bool.{cases_Bool, eqb-true}
use Rattle.std.proofs.lemmas.List.Elements.{All-nil, All-cons}
use Rattle.pi_constraints.specs.declared.var_domain.VarDomain.{VarDomain}
use Rattle.pi_constraints.specs.Domain.{IsDomain, AscendFrom, has_value}
use Rattle.pi_sat_spec.specs.declared.literal.Literal.{Literal}
use Rattle.pi_sat_spec.specs.Literals.{allows, left_by}
use Rattle.pi_sat_spec.specs.Domains.{domain_of, cut, AreDomains}
use Rattle.pi_sat_spec.specs.Solutions.{LiesWithin}
use Rattle.pi_sat_spec.proofs.LiteralLemmas.{left-domain, left-has}

pub head-of : {X : Type 0} (P : X → Type 0) (x : X) (xs : List X) → All P (x ∷ xs) → P x
head-of P x xs h = h 0 x (omega arith)

pub rest-of : {X : Type 0} (P : X → Type 0) (x : X) (xs : List X) → All P (x ∷ xs) → All P xs
rest-of P x xs h = λ k d l. h (suc k) d (omega arith)

abbrev Has : (ℕ → ℤ) → VarDomain → Type 0
Has a x = IsTrue (has_value x.domain (a x.var))

abbrev Good : VarDomain → Type 0
Good x = IsDomain x.domain

-- the first domain cut, where it is that of the literal's variable
abbrev first-cut : VarDomain → Literal → VarDomain
first-cut x l = record { var = x.var; domain = left_by l x.domain }

pub cut-domains : (xs : List VarDomain) (l : Literal) → AreDomains xs → AreDomains (cut xs l)
unfolding cut
cut-domains [] l h = All-nil Good
cut-domains (x ∷ xs) l h = elim (cases_Bool (nat_eq x.var l.var)) [
  | inl e ↦ rw e (All-cons Good (first-cut x l) xs (left-domain l x.domain (head-of Good x xs h)) (rest-of Good x xs h))
  | inr e ↦ rw e (All-cons Good x (cut xs l) (head-of Good x xs h) (cut-domains xs l (rest-of Good x xs h)))
]

allows-at : (a : ℕ → ℤ) (l : Literal) (m : ℕ) → m ≡ l.var → IsTrue (allows l (a l.var)) → IsTrue (allows l (a m))
allows-at a l m e h = subst (λ (v : ℕ). IsTrue (allows l (a v))) (sym e) h

pub cut-within : (a : ℕ → ℤ) (xs : List VarDomain) (l : Literal) → AreDomains xs → LiesWithin xs a → IsTrue (allows l (a l.var)) → LiesWithin (cut xs l) a
unfolding cut
cut-within a [] l good h ok = All-nil (Has a)
cut-within a (x ∷ xs) l good h ok = elim (cases_Bool (nat_eq x.var l.var)) [
  | inl e ↦ rw e
      (All-cons (Has a) (first-cut x l) xs (left-has l x.domain (a x.var) (head-of Good x xs good) (head-of (Has a) x xs h) (allows-at a l x.var (eqb-true x.var l.var e) ok)) (rest-of (Has a) x xs h))
  | inr e ↦ rw e (All-cons (Has a) x (cut xs l) (head-of (Has a) x xs h) (cut-within a xs l (rest-of Good x xs good) (rest-of (Has a) x xs h) ok))
]

pub domain-good : (xs : List VarDomain) (n : ℕ) → AreDomains xs → IsDomain (domain_of xs n)
unfolding domain_of AscendFrom
domain-good [] n h = tt
domain-good (x ∷ xs) n h = elim (cases_Bool (nat_eq x.var n)) [
  | inl e ↦ rw e (head-of Good x xs h)
  | inr e ↦ rw e (domain-good xs n (rest-of Good x xs h))
]

-- a variable keeps its value
pub cut-value : (a : ℕ → ℤ) (xs : List VarDomain) (l : Literal) (n : ℕ) → AreDomains xs → IsTrue (allows l (a l.var)) → IsTrue (has_value (domain_of xs n) (a n)) →
    IsTrue (has_value (domain_of (cut xs l) n) (a n))
unfolding cut domain_of
cut-value a [] l n good ok h = h
cut-value a (x ∷ xs) l n good ok h = elim (cases_Bool (nat_eq x.var l.var)) [
  | inl e ↦ rw e (elim (cases_Bool (nat_eq x.var n)) [
    | inl f ↦
        let has : IsTrue (has_value x.domain (a n)) = rw f at h in
        let same : n ≡ l.var = sym (eqb-true x.var n f) ∙ eqb-true x.var l.var e in
        rw f (left-has l x.domain (a n) (head-of Good x xs good) has (allows-at a l n same ok))
    | inr f ↦ let has : IsTrue (has_value (domain_of xs n) (a n)) = rw f at h in rw f has
  ])
  | inr e ↦ rw e (elim (cases_Bool (nat_eq x.var n)) [
    | inl f ↦ let has : IsTrue (has_value x.domain (a n)) = rw f at h in rw f has
    | inr f ↦ let has : IsTrue (has_value (domain_of xs n) (a n)) = rw f at h in rw f (cut-value a xs l n (rest-of Good x xs good) ok has)
  ])
]
