-- What stands at the place of a variable.
use Rattle.std.specs.Prelude.{◌≡◌, ◌≢◌, ℕ, zero, suc, false, nat_eq, List, [], ◌∷◌, get_or, set, ℤ, refl}
use Rattle.std.proofs.Common.{arith, sym, ◌∙◌, ap}
use Rattle.std.proofs.lemmas.Bool.{eq-eqb, ne_eqb}
use Rattle.pi_constraints.specs.declared.domain.Span.{Span}
use Rattle.pi_constraints.specs.declared.var_domain.VarDomain.{VarDomain}
use Rattle.pi_constraints.specs.Domain.{IsDomain, AscendFrom, has_value, common}
use Rattle.pi_sat_spec.specs.declared.literal.Literal.{Literal}
use Rattle.pi_sat_spec.specs.Literals.{left_by}
use Rattle.pi_sat_spec.specs.Domains.{domain_of, cut, is_allowed}
use Rattle.pi_sat_spec.specs.Places.{IsPlace, IsNoPlace}

none-behind : (x : VarDomain) (xs : List VarDomain) (n : ℕ) → IsNoPlace (x ∷ xs) n → IsNoPlace xs n
none-behind x xs n h = λ j other l. h (suc j) other (omega arith)

place-behind : (x : VarDomain) (xs : List VarDomain) (n i : ℕ) → IsPlace (x ∷ xs) n (suc i) → IsPlace xs n i
place-behind x xs n i p = record { within = let w = p.within in omega arith; here = p.here; before = λ j other l. p.before (suc j) other (omega arith) }

not-first : (x : VarDomain) (n : ℕ) → x.var ≢ n → nat_eq x.var n ≡ false
not-first x n h = ne_eqb x.var n h

pub domain-none : (xs : List VarDomain) (n : ℕ) → IsNoPlace xs n → domain_of xs n ≡ []
unfolding domain_of
domain-none [] n h = refl
domain-none (x ∷ xs) n h = rw (not-first x n (h 0 x (omega arith))) (domain-none xs n (none-behind x xs n h))

pub domain-at : (xs : List VarDomain) (n i : ℕ) (other : VarDomain) → IsPlace xs n i → domain_of xs n ≡ (get_or xs i other).domain
unfolding domain_of
domain-at [] n i other p = absurd (let w = p.within in omega arith)
domain-at (x ∷ xs) n zero other p = rw (eq-eqb x.var n (p.here x)) refl
domain-at (x ∷ xs) n (suc i) other p = rw (not-first x n (p.before 0 x (omega arith))) (domain-at xs n i other (place-behind x xs n i p))

pub cut-none : (xs : List VarDomain) (l : Literal) → IsNoPlace xs l.var → cut xs l ≡ xs
unfolding cut
cut-none [] l h = refl
cut-none (x ∷ xs) l h = rw (not-first x l.var (h 0 x (omega arith))) (ap (λ (ys : List VarDomain). x ∷ ys) (cut-none xs l (none-behind x xs l.var h)))

pub cut-at : (xs : List VarDomain) (l : Literal) (i : ℕ) (other : VarDomain) → IsPlace xs l.var i → cut xs l ≡ set xs i (record { var = l.var; domain = left_by l (get_or xs i other).domain })
unfolding cut
cut-at [] l i other p = absurd (let w = p.within in omega arith)
cut-at (x ∷ xs) l zero other p = rw (eq-eqb x.var l.var (p.here x)) (ap (λ (v : ℕ). (record { var = v; domain = left_by l x.domain }) ∷ xs) (p.here x))
cut-at (x ∷ xs) l (suc i) other p =
    rw (not-first x l.var (p.before 0 x (omega arith))) (ap (λ (ys : List VarDomain). x ∷ ys) (cut-at xs l i other (place-behind x xs l.var i p)))

pub none-allowed : (xs : List VarDomain) (l : Literal) → IsNoPlace xs l.var → false ≡ is_allowed xs l
unfolding left_by common
none-allowed xs l h = rw (domain-none xs l.var h) refl

pub none-bound : (xs : List VarDomain) (n : ℕ) (b : ℤ) → IsNoPlace xs n → false ≡ has_value (domain_of xs n) b
unfolding has_value
none-bound xs n b h = rw (domain-none xs n h) refl

-- a place that was read is cut
pub cut-read : (xs : List VarDomain) (l : Literal) (i : ℕ) (x : VarDomain) (left : List Span) → IsPlace xs l.var i → x ≡ get_or xs i x → left ≡ left_by l x.domain →
    set xs i (record { var = l.var; domain = left }) ≡ cut xs l
cut-read xs l i x left p e is =
    ap (λ (d : List Span). set xs i (record { var = l.var; domain = d })) (is ∙ ap (λ (y : VarDomain). left_by l y.domain) e) ∙ sym (cut-at xs l i x p)

pub empty-domain : IsDomain []
unfolding AscendFrom
empty-domain = tt
