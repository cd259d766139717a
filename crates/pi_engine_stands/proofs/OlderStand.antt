-- Each entry was made at or behind those below it: what it keeps is what they keep, or more.
use Rattle.std.proofs.Common.{◌≡◌, inl, inr, ℕ, ◌≤◌, ◌<◌, List, Option, Some, None, refl, sym, ◌∙◌, ap, subst, arith}
use Rattle.std.specs.Prelude.{slice_get}
use Rattle.pi_engine_arenas.specs.Arenas.{entry_at, slots_kept_by, frames_kept_by, noted_by}
use Rattle.pi_engine_arenas.specs.declared.arenas.Entry.{Entry}
use Rattle.pi_meaning.specs.Machine.Configuration.{Entry as EntryData}
use Rattle.pi_engine_stands.specs.Stands.{World, entries_of, IsAbove, StackIs, no_entries, entry_above}
use Rattle.pi_engine_stands.proofs.StandsLemmas.{last-or-below}
use Rattle.pi_terms.proofs.OptionLemmas.{same-some}

-- what the newest of the first n entries keeps is what each of them keeps, or more
pub record KeptBy {M : Type 0} (w : World M) (r : Option (Entry M)) (x : Entry M) : Type 0 where
  pub frames : x.back.frames ≤ frames_kept_by r
  pub slots : x.back.blocks.slots ≤ slots_kept_by r
  pub trail : x.back.blocks.trail ≤ noted_by r
  pub order : (y : Entry M) → r ≡ Some y → w.order x.mark ≤ w.order y.mark

-- there is an entry where one more stands
stack-some : {M : Type 0} (w : World M) (n top : ℕ) (es : List EntryData) (i : ℕ) → StackIs w n top es → i < n → entry_at (entries_of w) n ≡ None → ⊥
stack-some w n top es i no_entries within none = absurd (omega (arith, within))
stack-some w n top es i (entry_above m from fs z y here is below) within none = absurd cc

kept-self : {M : Type 0} (w : World M) (r : Option (Entry M)) (x : Entry M) → r ≡ Some x → KeptBy w r x
kept-self w r x is = subst (λ o. KeptBy w o x) (sym is) (record { frames = omega arith; slots = omega arith; trail = omega arith; order = λ y h. subst (λ z. w.order x.mark ≤ w.order z.mark) (same-some h) (omega arith) })

kept-above : {M : Type 0} (w : World M) (r : Option (Entry M)) (x z : Entry M) → IsAbove w r z → KeptBy w r x → (r ≡ None → ⊥) → KeptBy w (Some z) x
kept-above w None x z above kept some = absurd (some refl)
kept-above w (Some y) x z above kept some =
    record {
      frames = omega (arith, kept.frames, above.1);
      slots = omega (arith, kept.slots, above.0.slots);
      trail = omega (arith, kept.trail, above.0.trail);
      order = λ u h. subst (λ v. w.order x.mark ≤ w.order v.mark) (same-some h) (omega (arith, kept.order y refl, above.2));
    }

pub kept-by-newest : {M : Type 0} (w : World M) (n top : ℕ) (es : List EntryData) (i : ℕ) (x : Entry M) → StackIs w n top es → i < n → slice_get (entries_of w) i ≡ Some x →
    KeptBy w (entry_at (entries_of w) n) x
kept-by-newest w n top es i x no_entries within at = absurd (omega (arith, within))
kept-by-newest w n top es i x (entry_above m from fs z y here is below) within at =
    elim (last-or-below i m within) as (λ h. KeptBy w (slice_get (entries_of w) m) x) [
      | inl lower ↦ subst (λ o. KeptBy w o x) (sym here)
          (kept-above w (entry_at (entries_of w) m) x z is.older (kept-by-newest w m from fs i x below lower at) (λ none. stack-some w m from fs i below lower none))
      | inr same ↦ kept-self w (slice_get (entries_of w) m) x (ap (slice_get (entries_of w)) (sym same) ∙ at)
    ]
