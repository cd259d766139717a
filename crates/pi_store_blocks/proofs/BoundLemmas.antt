-- What keeps the words of variables such: they are words of a table that stay so.
use Rattle.std.proofs.Common.{◌≡◌, ◌≢◌, ℕ, suc, ◌+◌, ◌-◌, ◌*◌, ◌/◌, ◌%◌, ◌≤◌, length, slice_index, refl, ap, subst, ◌∙◌, arith, length-append}
use Rattle.pi_region.specs.Image.{Image, pushed, replaced}
use Rattle.pi_region.specs.declared.entry.Table.{Table}
use Rattle.pi_store_blocks.specs.Form.{form_with, form_of}
use Rattle.pi_store_blocks.specs.Heap.{Heap}
use Rattle.pi_store_blocks.specs.Placed.{IsRefIn}
use Rattle.pi_store_blocks.proofs.RefLemmas.{form_stays}
use Rattle.pi_region.proofs.ChangeLemmas.{replaced_advances}
use Rattle.pi_store_blocks.specs.Past.{NamesAt, heap_at}
use Rattle.pi_store_blocks.specs.Kept.{Stays}
use Rattle.pi_store_blocks.specs.Right.{IsRight}
use Rattle.pi_store_blocks.specs.Bound.{IsBoundIn, AreBound, BoundHaveTrees, BoundAreRefs, BoundByUndo, BoundByWords, BoundByNew, BoundByPush, BoundByReplace, BoundByBinding, BoundByDomain, BoundByNames}
use Rattle.pi_store_blocks.proofs.KeptLemmas as kept
use Rattle.pi_store_blocks.proofs.PastLemmas.{heaps_grow}
use Rattle.pi_store_blocks.proofs.TermRightLemmas.{have_trees}

-- a word of a variable in a heap that grew
pub bound_stays : Stays IsBoundIn
bound_stays h k grows w is =
    let long : length k.words ≡ length h.words + length grows.words.0 = ap length grows.words.1 ∙ length-append h.words grows.words.0 in
    record {
      place = λ e. let le : w / 8 ≤ length h.words = is.place e in omega arith;
      ref = λ ne. form_stays h k grows (form_of (w - 1)) (is.ref ne);
    }

-- that of a free variable
pub free_in : (h : Heap) → IsBoundIn h 0
free_in h = record { place = λ e. omega arith; ref = λ ne. absurd (ne refl) }

-- a Ref isn't 7 by its lowest bits
pub no_data : (h : Heap) (r : ℕ) → IsRefIn h (form_of r) → r % 8 ≢ 7
no_data h r is e = subst (IsRefIn h) (ap (λ tag. form_with tag (r / 8)) e) is

pub binding_in : (h : Heap) (r : ℕ) → IsRefIn h (form_of r) → IsBoundIn h (suc r)
binding_in h r is = record {
  place = λ e. let seven : r % 8 ≡ 7 = omega arith in absurd (no_data h r is seven);
  ref = λ ne. let same : r ≡ suc r - 1 = omega arith in subst (λ (q : ℕ). IsRefIn h (form_of q)) same is;
}

domain_in : (h : Heap) (end : ℕ) → end ≤ length h.words → IsBoundIn h (8 * end)
domain_in h end le = record {
  place = λ e. omega arith;
  ref = λ ne. let none : (8 * end) % 8 ≡ 0 = omega arith in absurd (ne none);
}

pub kept_at : (names : NamesAt) (i : Image) → IsRight names i → AreBound names i → (n : ℕ) → IsBoundIn (heap_at names i) (slice_index i.variables n)
kept_at names i r b n = kept.kept_now IsBoundIn bound_stays Table.Variables names i r.trail b n

pub bound_refs : BoundAreRefs
bound_refs names i r b n ne = (kept_at names i r b n).ref ne

pub bound_trees : BoundHaveTrees
bound_trees names i stay r b n ne = have_trees names i stay r (slice_index i.variables n - 1) (bound_refs names i r b n ne)

pub by_undo : BoundByUndo
by_undo names i r b n = kept.by_undo IsBoundIn bound_stays Table.Variables names i r.trail b n

pub by_words : BoundByWords
by_words names i ws stay r b = kept.by_words IsBoundIn bound_stays Table.Variables names i r.trail b stay ws

pub by_push : BoundByPush
by_push names i t w ne stay r b = kept.by_other_push IsBoundIn bound_stays Table.Variables names i r.trail b stay t w ne

pub by_replace : BoundByReplace
by_replace names i t place w ne stay r b = kept.by_other_replace IsBoundIn bound_stays Table.Variables names i r.trail b stay t place w ne

pub by_new : BoundByNew
by_new names i stay r b = kept.by_push IsBoundIn bound_stays Table.Variables names i r.trail b stay 0 (free_in (heap_at names (pushed i Table.Variables 0)))

pub by_binding : BoundByBinding
by_binding names i n q stay r b is =
    let grows = heaps_grow names i _ stay (replaced_advances i Table.Variables n (suc q) r.trail) in
    kept.by_replace IsBoundIn bound_stays Table.Variables names i r.trail b stay n (suc q) (binding_in _ q (form_stays _ _ grows (form_of q) is))

pub by_domain : BoundByDomain
by_domain names i n end stay r b le =
    let a = replaced_advances i Table.Variables n (8 * end) r.trail in
    let longer : length i.region ≤ length (replaced i Table.Variables n (8 * end)).region = a.longer in
    kept.by_replace IsBoundIn bound_stays Table.Variables names i r.trail b stay n (8 * end) (domain_in _ end (omega arith))

pub by_names : BoundByNames
by_names old new i more b = kept.by_names IsBoundIn bound_stays Table.Variables old new i more b
