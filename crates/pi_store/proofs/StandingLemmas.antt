-- The spans of a variable, as the words have them.
use Rattle.std.proofs.Common.{◌≡◌, ℕ, zero, suc, ◌<◌, List, [], length, slice_index, Option, Some, None, refl, sym, ap, subst, ◌∙◌, arith}
use Rattle.std.specs.Prelude.{slice_get, unwrap_or}
use Rattle.pi_constraints.specs.declared.domain.Span.{Span}
use Rattle.pi_constraints.specs.Domain.{AscendFrom, IsDomain}
use Rattle.pi_constraints.specs.Stored.{stored}
use Rattle.pi_constraints.specs.State.{State}
use Rattle.pi_constraints.specs.State as state
use Rattle.pi_region.specs.Image.{Image}
use Rattle.pi_store_blocks.specs.Block.{block_at}
use Rattle.pi_store_blocks.proofs.DomainLemmas.{are_domains}
use Rattle.pi_store_blocks.specs.NameTable.{NameTable}
use Rattle.pi_store.specs.Domains.{domain_at, domain_end, domain_by_end, domain_by}
use Rattle.pi_store.specs.Holding.{heap_of, state_of}
use Rattle.pi_store.proofs.DomainLemmas.{domain_is}

-- ---- by the place where a block ends

end_domain : (words : List ℕ) (end : ℕ) → IsDomain (unwrap_or (domain_by_end words end) [])
unfolding AscendFrom
end_domain words zero = tt
end_domain words (suc last) = are_domains (block_at words (suc last))

pub by_domain : (words : List ℕ) (word : ℕ) → IsDomain (unwrap_or (domain_by words word) [])
by_domain words word = end_domain words (domain_end word)

none_at : (words : List ℕ) (end : ℕ) → end ≡ 0 → None ≡ domain_by_end words end
none_at words end e = sym (ap (domain_by_end words) e)

some_at : (words : List ℕ) (end : ℕ) → (end ≡ 0 → ⊥) → Some (domain_at words end) ≡ domain_by_end words end
some_at words zero not = absurd (not refl)
some_at words (suc last) not = refl

pub no_count : (words : List ℕ) (word end : ℕ) → end ≡ domain_end word → end ≡ 0 → 0 ≡ length (unwrap_or (domain_by words word) [])
no_count words word end is e = ap (λ (o : Option (List Span)). length (unwrap_or o [])) (none_at words (domain_end word) (sym is ∙ e))

pub some_count : (words : List ℕ) (word end n : ℕ) → end ≡ domain_end word → (end ≡ 0 → ⊥) → n ≡ length (domain_at words end) → n ≡ length (unwrap_or (domain_by words word) [])
some_count words word end n is not e = e ∙ (ap (λ (x : ℕ). length (domain_at words x)) is ∙ ap (λ (o : Option (List Span)). length (unwrap_or o [])) (some_at words (domain_end word) (λ z. not (is ∙ z))))

pub no_span : (words : List ℕ) (word end k : ℕ) (s : Span) → end ≡ domain_end word → end ≡ 0 → k < length (unwrap_or (domain_by words word) []) → slice_get (unwrap_or (domain_by words word) []) k ≡ Some s
no_span words word end k s is e l = let none : 0 ≡ length (unwrap_or (domain_by words word) []) = no_count words word end is e in absurd (omega (arith, none, l))

pub some_span : (words : List ℕ) (word end k : ℕ) (s : Span) → end ≡ domain_end word → (end ≡ 0 → ⊥) → (k < length (domain_at words end) → slice_get (domain_at words end) k ≡ Some s) → k < length (unwrap_or (domain_by words word) []) → slice_get (unwrap_or (domain_by words word) []) k ≡ Some s
some_span words word end k s is not at =
    subst (λ (o : Option (List Span)). k < length (unwrap_or o []) → slice_get (unwrap_or o []) k ≡ Some s) (some_at words (domain_end word) (λ z. not (is ∙ z)))
    (subst (λ (x : ℕ). k < length (domain_at words x) → slice_get (domain_at words x) k ≡ Some s) is at)

-- ---- as the state has them

same_stored : (t : NameTable) (i : Image) (n word : ℕ) → word ≡ slice_index i.variables n → domain_by i.region word ≡ state.domain_of (state_of (heap_of t i) i) n
same_stored t i n word is = ap (domain_by i.region) is ∙ sym (domain_is (heap_of t i) i.variables n)

pub count_shown : (t : NameTable) (i : Image) (n word count : ℕ) → word ≡ slice_index i.variables n → count ≡ length (unwrap_or (domain_by i.region word) []) → count ≡ length (stored (state_of (heap_of t i) i) n)
count_shown t i n word count is e = e ∙ ap (λ (o : Option (List Span)). length (unwrap_or o [])) (same_stored t i n word is)

pub domain_shown : (t : NameTable) (i : Image) (n word : ℕ) → word ≡ slice_index i.variables n → IsDomain (unwrap_or (domain_by i.region word) []) → IsDomain (stored (state_of (heap_of t i) i) n)
domain_shown t i n word is up = subst (λ (o : Option (List Span)). IsDomain (unwrap_or o [])) (same_stored t i n word is) up

pub span_shown : (t : NameTable) (i : Image) (n word k : ℕ) (s : Span) → word ≡ slice_index i.variables n → (k < length (unwrap_or (domain_by i.region word) []) → slice_get (unwrap_or (domain_by i.region word) []) k ≡ Some s)
    → k < length (stored (state_of (heap_of t i) i) n) → slice_get (stored (state_of (heap_of t i) i) n) k ≡ Some s
span_shown t i n word k s is at = subst (λ (o : Option (List Span)). k < length (unwrap_or o []) → slice_get (unwrap_or o []) k ≡ Some s) (same_stored t i n word is) at
