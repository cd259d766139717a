-- What a source gives over a run of calls.
use Rattle.std.proofs.Common.{◌≡◌, ℕ, List, [], ◌++◌, Option, None, Some, sym, ◌∙◌, ap, append_assoc}
use Rattle.std.proofs.lemmas.List.{append-nil}
use Rattle.pi_outside.specs.Given.{Gives, IsSpent}

-- where no call was made
pub Gives-none : (rest : Option (List ℕ)) → Gives rest [] rest
Gives-none rest = record { told = λ left is. is }

-- one call more, or one run more
pub Gives-then : {before between after : Option (List ℕ)} {piece more : List ℕ} → Gives before piece between → Gives between more after → Gives before (piece ++ more) after
Gives-then {piece = piece} {more = more} first second = record {
  told = λ left is. first.told (more ++ left) (second.told left is) ∙ ap Some (sym (append_assoc piece more left));
}

-- a run to the end gives all that there was
pub Gives-all : {before after : Option (List ℕ)} {piece : List ℕ} → Gives before piece after → IsSpent after → (left : List ℕ) → after ≡ Some left → before ≡ Some piece
Gives-all {piece = piece} run spent left is =
    run.told left is ∙ ap (λ l. Some (piece ++ l)) (spent.told left is) ∙ ap Some (append-nil piece)

-- a source that tells
pub Gives-told : (before piece after : List ℕ) → before ≡ piece ++ after → Gives (Some before) piece (Some after)
Gives-told before piece after is = record { told = λ l told. cc }

-- a source that doesn't tell
pub Gives-untold : (before : Option (List ℕ)) (piece : List ℕ) → Gives before piece None
Gives-untold before piece = record { told = λ l told. absurd (cc) }
