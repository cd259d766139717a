-- Parts one after the other.
use Rattle.std.proofs.Common.{◌≡◌, ℕ, ◌+◌, ◌<◌, ◌≤◌, true, false, List, [], ◌∷◌, ◌++◌, drop, length, slice_get, Some, refl, ap, sym, subst, ◌∙◌, arith, append_assoc, append-nil}
use Rattle.std.proofs.lemmas.List.{drop_all}
use Rattle.pi_syntax.specs.Tokens.{Token}
use Rattle.pi_expr.specs.Faults as faults
use Rattle.pi_expr.proofs.CrowdLemmas.{stretch_none}
use Rattle.pi_prog.specs.Parts.{Parts, none, next, SoFar}
use Rattle.pi_prog.specs.Pieces.{ShowsPart, is_end}
use Rattle.pi_prog_clauses.specs.Reading as reading
use Rattle.pi_prog_clauses.specs.Reading.{Reading, ReadAll}
use Rattle.pi_prog_clauses.specs.Shown as shown
use Rattle.pi_prog_clauses.specs.Shown.{AreShown}
use Rattle.pi_prog_clauses.specs.Stretch.{Stretch, stretch, stretches, stretches_behind}
use Rattle.pi_prog_clauses.specs.declared.parts.PartReading.{PartReading}
use Rattle.pi_prog.proofs.EndLemmas.{end_step, other_step, last_step, no_step, is_the_end, drop_at}
use Rattle.pi_prog.proofs.reading.PlaceLemmas.{stretch_more, length-stretch}

parts_more : {ss : List Stretch} {ps : List PartReading} (s : Stretch) (p : PartReading) → Parts ss ps → ShowsPart s p → Parts (ss ++ s ∷ []) (ps ++ p ∷ [])
parts_more s p none h = next h none
parts_more s p (next g parts) h = next g (parts_more s p parts h)

abbrev pub AreRead : List Stretch → List PartReading → Type 0
AreRead ss ps = (rs : List Reading) × ReadAll ss rs × AreShown ps rs

parts_read : {ss : List Stretch} {ps : List PartReading} → Parts ss ps → AreRead ss ps
parts_read none = ([], reading.none, shown.none)
parts_read (next (r, reads, shows) parts) = let (rs, all, are) = parts_read parts in (r ∷ rs, reading.next reads all, shown.next shows are)

drop_none : (ts : List Token) (n : ℕ) → length ts ≤ n → drop n ts ≡ []
drop_none ts n h = drop_all n ts h

so_far_none : (ts : List Token) → SoFar ts [] 0 0
so_far_none ts = record { before = []; parts = none; rest = refl; ordered = omega arith }

pub so_far_start : (ts : List Token) (ps : List PartReading) → ps ≡ [] → SoFar ts ps 0 0
so_far_start ts ps is = subst (λ xs. SoFar ts xs 0 0) (sym is) (so_far_none ts)

pub so_far_on : (ts : List Token) (ps : List PartReading) (from at after : ℕ) (t : Token) → after ≡ at + 1 → slice_get ts at ≡ Some t → is_end t ≡ false → SoFar ts ps from at → SoFar ts ps from after
so_far_on ts ps from at after t n is not_end far = record {
  before = far.before;
  parts = far.parts;
  rest = far.rest ∙ ap (λ ss. far.before ++ ss) (
      ap (stretches_behind (faults.stretch ts from at)) (drop_at ts at after t n is)
      ∙ other_step (faults.stretch ts from at) t (drop after ts) not_end
      ∙ ap (λ b. stretches_behind b (drop after ts)) (sym (stretch_more ts from at after t n far.ordered is)));
  ordered = omega (arith, far.ordered, n);
}

so_far_end : (ts : List Token) (ps : List PartReading) (from at after : ℕ) (t : Token) (p : PartReading) → after ≡ at + 1 → slice_get ts at ≡ Some t → is_end t ≡ true
    → ShowsPart (stretch (faults.stretch ts from at) true) p → SoFar ts ps from at → SoFar ts (ps ++ p ∷ []) after after
so_far_end ts ps from at after t p n is ends shows far =
    let s : Stretch = stretch (faults.stretch ts from at) true in
    record {
      before = far.before ++ s ∷ [];
      parts = parts_more s p far.parts shows;
      rest = far.rest ∙ ap (λ ss. far.before ++ ss) (
          ap (stretches_behind (faults.stretch ts from at)) (drop_at ts at after t n is ∙ ap (λ u. u ∷ drop after ts) (is_the_end t ends))
          ∙ end_step (faults.stretch ts from at) (drop after ts)
          ∙ ap (λ b. s ∷ stretches_behind b (drop after ts)) (sym (stretch_none ts after after (omega arith))))
          ∙ sym (append_assoc far.before (s ∷ []) (stretches_behind (faults.stretch ts after after) (drop after ts)));
      ordered = omega arith;
    }

pub so_far_push : (ts : List Token) (ps all : List PartReading) (from at after : ℕ) (t : Token) (p : PartReading) → after ≡ at + 1 → slice_get ts at ≡ Some t → is_end t ≡ true → all ≡ ps ++ p ∷ []
    → ShowsPart (stretch (faults.stretch ts from at) true) p → SoFar ts ps from at → SoFar ts all after after
so_far_push ts ps all from at after t p n is ends made shows far = subst (λ xs. SoFar ts xs after after) (sym made) (so_far_end ts ps from at after t p n is ends shows far)

-- no token is left

pub so_far_all : (ts : List Token) (ps : List PartReading) (from end : ℕ) → length ts ≤ end → end ≤ from → SoFar ts ps from end → AreRead (stretches ts) ps
so_far_all ts ps from end short passed far =
    let whole : stretches ts ≡ far.before =
    far.rest ∙ ap (λ b. far.before ++ stretches_behind b (drop end ts)) (stretch_none ts from end passed)
    ∙ ap (λ ds. far.before ++ stretches_behind [] ds) (drop_none ts end short)
    ∙ ap (λ ss. far.before ++ ss) no_step ∙ append-nil far.before in
    subst (λ ss. AreRead ss ps) (sym whole) (parts_read far.parts)

so_far_last : (ts : List Token) (ps : List PartReading) (from end : ℕ) (p : PartReading) → length ts ≡ end → from < end → ShowsPart (stretch (faults.stretch ts from end) false) p
    → SoFar ts ps from end → AreRead (stretches ts) (ps ++ p ∷ [])
so_far_last ts ps from end p all left shows far =
    let s : Stretch = stretch (faults.stretch ts from end) false in
    let some : 0 < length (faults.stretch ts from end) = omega (arith, length-stretch ts from end (omega arith) (omega arith)) in
    let whole : stretches ts ≡ far.before ++ s ∷ [] =
    far.rest ∙ ap (λ ds. far.before ++ stretches_behind (faults.stretch ts from end) ds) (drop_none ts end (omega arith))
    ∙ ap (λ ss. far.before ++ ss) (last_step (faults.stretch ts from end) some) in
    subst (λ ss. AreRead ss (ps ++ p ∷ [])) (sym whole) (parts_read (parts_more s p far.parts shows))

pub so_far_rest : (ts : List Token) (ps all : List PartReading) (from at end : ℕ) (p : PartReading) → length ts ≡ end → at ≡ end → from < end → all ≡ ps ++ p ∷ [] → ShowsPart (stretch (faults.stretch ts from end) false) p
    → SoFar ts ps from at → AreRead (stretches ts) all
so_far_rest ts ps all from at end p short is left made shows far =
    subst (λ xs. AreRead (stretches ts) xs) (sym made) (so_far_last ts ps from end p short left shows (subst (SoFar ts ps from) is far))
