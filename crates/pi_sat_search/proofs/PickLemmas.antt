-- Where a variable stands among those of which each stands once, and the first one that is open.
use Rattle.std.specs.Prelude.{◌≡◌, ◌⊎◌, ℕ, zero, suc, ◌+◌, ◌<◌, ◌≤◌, nat_eq, Option, Some, None, List, [], ◌∷◌, length, get_or, ℤ, pos, ◌≤ℤ◌, MatchOption, refl}
use Rattle.std.proofs.Common.{arith, sym, ◌∙◌, ap, subst, inl, inr}
use Rattle.std.proofs.lemmas.Bool.{cases_Bool, eqb-true}
use Rattle.std.proofs.lemmas.Int.{ints}
use Rattle.std.proofs.lemmas.List.{get_or_default}
use Rattle.pi_constraints.specs.declared.domain.Span.{Span}
use Rattle.pi_constraints.specs.declared.var_domain.VarDomain.{VarDomain}
use Rattle.pi_constraints.specs.Domain.{IsDomain, IsLeastValue, IsGreatestValue}
use Rattle.pi_prop_spec.specs.Ends.{least_of, greatest_of}
use Rattle.pi_prop_spec.proofs.EndLemmas.{least-has, least-below, greatest-has, greatest-above, not_empty}
use Rattle.pi_sat_spec.specs.Domains.{domain_of}
use Rattle.pi_sat_spec.specs.Places.{IsPlace}
use Rattle.pi_sat_spec.proofs.LookupLemmas.{domain-at}
use Rattle.pi_sat_search.specs.declared.picks.Pick.{Pick}
use Rattle.pi_sat_search.specs.Nodes.{IsOpen, IsPick, NoneOpen, IsEarlier}
use Rattle.pi_sat_search.specs.Steps.{IsOnce}
use Rattle.pi_sat_search.proofs.NodeLemmas.{some-open}

-- the ends of a domain, as they are found
pub greatest-none : (d : List Span) → d ≡ [] → pos 0 ≡ greatest_of d
unfolding greatest_of
greatest-none d e = rw e refl

pub greatest-some : (d : List Span) (n : ℤ) → IsDomain d → IsGreatestValue d n → n ≡ greatest_of d
greatest-some d n good g =
    let up : n ≤ℤ greatest_of d = greatest-above d n good g.is_value in
    let down : greatest_of d ≤ℤ n = g.none_above (greatest_of d) (greatest-has d good (not_empty d n g.is_value)) in
    omega (arith, ints, up, down)

pub place-here : (xs : List VarDomain) (i : ℕ) (other : VarDomain) → IsOnce xs → i < length xs → IsPlace xs (get_or xs i other).var i
place-here xs i other once lt = record {
  within = lt;
  here = λ o. ap (λ (x : VarDomain). x.var) (get_or_default xs i o other lt);
  before = λ j o l e. once j i o l lt (e ∙ ap (λ (x : VarDomain). x.var) (get_or_default xs i other o lt));
}

pub domain-here : (xs : List VarDomain) (i : ℕ) (other : VarDomain) → IsOnce xs → i < length xs → domain_of xs (get_or xs i other).var ≡ (get_or xs i other).domain
domain-here xs i other once lt = domain-at xs (get_or xs i other).var i other (place-here xs i other once lt)

-- a variable that has a domain with two values stands somewhere
open-place : (xs : List VarDomain) (n : ℕ) → IsOpen (domain_of xs n) → (i : ℕ) × (i < length xs) × ((other : VarDomain) → ((get_or xs i other).var ≡ n) × IsOpen (get_or xs i other).domain)
unfolding domain_of
open-place [] n o = absurd (some-open [] o refl)
open-place (x ∷ xs) n o = elim (cases_Bool (nat_eq x.var n)) [
  | inl e ↦ let here : IsOpen x.domain = rw e at o in (zero, omega arith, λ other. (eqb-true x.var n e, here))
  | inr e ↦ let there : IsOpen (domain_of xs n) = rw e at o in let r = open-place xs n there in (suc r.0, (let l = r.1 in omega (arith, l)), r.2)
]

-- what is picked of the first so many
abbrev pub IsFirstOf : List VarDomain → ℕ → Option Pick → Type 0
IsFirstOf xs i None = (k : ℕ) (other : VarDomain) → k < i → k < length xs → IsOpen (get_or xs k other).domain → ⊥
IsFirstOf xs i (Some p) =
    IsOpen (domain_of xs p.var) × IsLeastValue (domain_of xs p.var) p.least × ((k : ℕ) (other : VarDomain) → k < i → k < length xs → IsOpen (get_or xs k other).domain → p.var ≤ (get_or xs k other).var)

before-or-here : (k i : ℕ) → k < i + 1 → (k < i) ⊎ (k ≡ i)
before-or-here k i l = grind (arith, l)

open-at : (xs : List VarDomain) (i k : ℕ) (x other : VarDomain) → i < length xs → x ≡ get_or xs i x → k ≡ i → get_or xs k other ≡ x
open-at xs i k x other lt read e = ap (λ (j : ℕ). get_or xs j other) e ∙ (get_or_default xs i other x lt ∙ sym read)

pub first-closed : (xs : List VarDomain) (i : ℕ) (x : VarDomain) (first : Option Pick) → i < length xs → x ≡ get_or xs i x → (IsOpen x.domain → ⊥) → IsFirstOf xs i first → IsFirstOf xs (i + 1) first
first-closed xs i x None lt read closed h = λ k other l inside o. elim (before-or-here k i l) [
  | inl less ↦ h k other less inside o
  | inr e ↦ closed (subst (λ (y : VarDomain). IsOpen y.domain) (open-at xs i k x other lt read e) o)
]
first-closed xs i x (Some p) lt read closed h = (
  h.0,
  h.1,
  λ k other l inside o. elim (before-or-here k i l) [
    | inl less ↦ h.2 k other less inside o
    | inr e ↦ absurd (closed (subst (λ (y : VarDomain). IsOpen y.domain) (open-at xs i k x other lt read e) o))
  ],
)

abbrev of-domain : VarDomain → Pick
of-domain x = record { var = x.var; least = least_of x.domain }

least-is : (d : List Span) → IsDomain d → IsOpen d → IsLeastValue d (least_of d)
least-is d good o = record { is_value = least-has d good (some-open d o); none_below = λ m h. least-below d m good h }

own-domain : (xs : List VarDomain) (i : ℕ) (x : VarDomain) → IsOnce xs → i < length xs → x ≡ get_or xs i x → x.domain ≡ domain_of xs x.var
own-domain xs i x once lt read =
    ap (λ (y : VarDomain). y.domain) read ∙ (sym (domain-here xs i x once lt) ∙ ap (λ (y : VarDomain). domain_of xs y.var) (sym read))

take-own : (xs : List VarDomain) (i : ℕ) (x : VarDomain) (q : Pick) → IsOnce xs → i < length xs → x ≡ get_or xs i x → IsDomain x.domain → IsOpen x.domain → q ≡ of-domain x →
    ((k : ℕ) (other : VarDomain) → k < i → k < length xs → IsOpen (get_or xs k other).domain → x.var ≤ (get_or xs k other).var) → IsFirstOf xs (i + 1) (Some q)
take-own xs i x q once lt read good o is before =
    subst (λ (r : Pick). IsFirstOf xs (i + 1) (Some r)) (sym is) (
      subst IsOpen (own-domain xs i x once lt read) o,
      subst (λ (d : List Span). IsLeastValue d (least_of x.domain)) (own-domain xs i x once lt read) (least-is x.domain good o),
      λ k other l inside p. elim (before-or-here k i l) [
        | inl less ↦ before k other less inside p
        | inr e ↦ (let f = ap (λ (y : VarDomain). y.var) (open-at xs i k x other lt read e) in omega (arith, f))
      ],
    )

pub first-open : (xs : List VarDomain) (i : ℕ) (x : VarDomain) (first : Option Pick) (q : Pick) → IsOnce xs → i < length xs → x ≡ get_or xs i x → IsDomain x.domain → IsOpen x.domain →
    IsEarlier first (of-domain x) q → IsFirstOf xs i first → IsFirstOf xs (i + 1) (Some q)
first-open xs i x None q once lt read good o is h = take-own xs i x q once lt read good o is (λ k other less inside p. absurd (h k other less inside p))
first-open xs i x (Some first) q once lt read good o (inl is) h =
    subst (λ (r : Pick). IsFirstOf xs (i + 1) (Some r)) (sym is.0) (
      h.0,
      h.1,
      λ k other l inside p. elim (before-or-here k i l) [
        | inl less ↦ h.2 k other less inside p
        | inr e ↦ (let f = ap (λ (y : VarDomain). y.var) (open-at xs i k x other lt read e) in let g = is.1 in omega (arith, f, g))
      ],
    )
first-open xs i x (Some first) q once lt read good o (inr is) h =
    take-own xs i x q once lt read good o is.0 (λ k other less inside p. let le = h.2 k other less inside p in let f = is.1 in omega (arith, le, f))

pub first-end : (xs : List VarDomain) (i : ℕ) (other : VarDomain) (first : Option Pick) → length xs ≤ i → IsFirstOf xs i first → MatchOption first (NoneOpen xs) (IsPick xs)
first-end xs i other None past h = λ n o. let r = open-place xs n o in let l = r.1 in h r.0 other (omega (arith, l, past)) l (r.2 other).1
first-end xs i other (Some p) past h = record {
  is_open = h.0;
  least = h.1;
  first = λ n o. let r = open-place xs n o in let l = r.1 in let le = h.2 r.0 other (omega (arith, l, past)) l (r.2 other).1 in let e = (r.2 other).0 in omega (arith, le, e);
}
