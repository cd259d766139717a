-- What a sink takes over a run of calls.
use Rattle.std.proofs.Common.{◌≡◌, ℕ, List, [], ◌++◌, Option, None, Some, refl, sym, ◌∙◌, ap, append_assoc}
use Rattle.std.proofs.lemmas.List.{append-nil}
use Rattle.pi_outside.specs.Taken.{Takes}

-- where no call was made
pub Takes-none : (taken : Option (List ℕ)) → Takes taken [] taken
Takes-none taken = record { told = λ all is. (all, is, sym (append-nil all)) }

-- one call more, or one run more
pub Takes-then : {before between after : Option (List ℕ)} {piece more : List ℕ} → Takes before piece between → Takes between more after → Takes before (piece ++ more) after
Takes-then {piece = piece} {more = more} first second = record {
  told = λ all is.
      let second_told = second.told all is in
      let first_told = first.told second_told.0 second_told.1 in
      (first_told.0, first_told.1, second_told.2 ∙ ap (λ l. l ++ more) first_told.2 ∙ append_assoc first_told.0 piece more);
}

-- a sink that tells
pub Takes-told : (earlier piece all : List ℕ) → all ≡ earlier ++ piece → Takes (Some earlier) piece (Some all)
Takes-told earlier piece all is = record { told = λ l told. (earlier, refl, cc) }

-- a sink that no longer tells
pub Takes-untold : (before : Option (List ℕ)) (piece : List ℕ) → Takes before piece None
Takes-untold before piece = record { told = λ l told. absurd (cc) }
