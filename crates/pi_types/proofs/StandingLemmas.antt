-- The spans of a variable, as a stored state has them.
use Rattle.std.specs.Prelude.{◌≡◌, ℕ, ◌<◌, List, [], length, slice_get, Option, Some, None, unwrap_or}
use Rattle.std.proofs.Common.{arith, sym, ◌∙◌, ap, subst}
use Rattle.pi_constraints.specs.declared.domain.Span.{Span}
use Rattle.pi_constraints.specs.Domain.{AscendFrom, IsDomain}

-- what a state has of a variable, by what is known of it
pub count-by : (o known : Option (List Span)) (n : ℕ) → o ≡ known → n ≡ length (unwrap_or o []) → n ≡ length (unwrap_or known [])
count-by o known n is e = e ∙ ap (λ (x : Option (List Span)). length (unwrap_or x [])) is

pub domain-by : (o known : Option (List Span)) → o ≡ known → IsDomain (unwrap_or o []) → IsDomain (unwrap_or known [])
domain-by o known is up = subst (λ (x : Option (List Span)). IsDomain (unwrap_or x [])) is up

pub span-by : (o known : Option (List Span)) (k : ℕ) (s : Span) → o ≡ known → (k < length (unwrap_or o []) → slice_get (unwrap_or o []) k ≡ Some s) → k < length (unwrap_or known []) → slice_get (unwrap_or known []) k ≡ Some s
span-by o known k s is at = subst (λ (x : Option (List Span)). k < length (unwrap_or x []) → slice_get (unwrap_or x []) k ≡ Some s) is at

pub none-domain : (known : Option (List Span)) → None ≡ known → IsDomain (unwrap_or known [])
unfolding AscendFrom
none-domain known is = subst (λ (x : Option (List Span)). IsDomain (unwrap_or x [])) is tt

pub none-span : (known : Option (List Span)) (k : ℕ) (s : Span) → None ≡ known → k < length (unwrap_or known []) → slice_get (unwrap_or known []) k ≡ Some s
none-span known k s is = span-by None known k s is (λ l. absurd (omega arith))
