-- What files hold over a run of calls, and a file that is read from its start to its end.
use Rattle.std.proofs.Common.{◌≡◌, ℕ, ◌+◌, List, [], ◌++◌, length, take, drop, Option, None, Some, refl, sym, ◌∙◌, ap, length-append}
use Rattle.std.specs.Prelude.{IsSome, unwrap_or}
use Rattle.std.proofs.lemmas.List.{take_all}
use Rattle.std.proofs.Math.Seq.{drop-drop, take-add}
use Rattle.pi_outside.specs.Held.{Holding, bytes_of, Keeps, IsThere, HasPiece, EndsBy}

drop_drop_at : (at n : ℕ) (bytes : List ℕ) → drop (at + n) bytes ≡ drop n (drop at bytes)
drop_drop_at at n bytes = sym (drop-drop n at bytes)

some_of : (file : Option (List ℕ)) → IsSome file → file ≡ Some (unwrap_or file [])
some_of None is = absurd (cc)
some_of (Some bytes) is = refl

-- where no call was made
pub Keeps-none : (held : Option Holding) → Keeps held held
Keeps-none held = record { told = λ files is. is }

-- one call more, or one run more
pub Keeps-then : {before between after : Option Holding} → Keeps before between → Keeps between after → Keeps before after
Keeps-then first second = record { told = λ files is. first.told files (second.told files is) }

-- a file that was there is there
pub IsThere-keeps : {before after : Option Holding} {name : List ℕ} → IsThere before name → Keeps before after → IsThere after name
IsThere-keeps there keeps = record { told = λ files is. there.told files (keeps.told files is) }

-- a piece that stood in a file stands in it
pub HasPiece-keeps : {before after : Option Holding} {name : List ℕ} {at : ℕ} {piece : List ℕ} → HasPiece before name at piece → Keeps before after → HasPiece after name at piece
HasPiece-keeps has keeps = record { told = λ files is. has.told files (keeps.told files is) }

-- before the first read
pub HasPiece-none : (held : Option Holding) (name : List ℕ) (at : ℕ) → HasPiece held name at []
HasPiece-none held name at = record { told = λ files is. refl }

-- one read more
pub HasPiece-then : {held : Option Holding} {name : List ℕ} {at : ℕ} {piece more : List ℕ} → HasPiece held name at piece → HasPiece held name (at + length piece) more → HasPiece held name at (piece ++ more)
HasPiece-then {name = name} {at = at} {piece = piece} {more = more} first second = record {
  told = λ files is.
      let bytes = bytes_of files name in
      ap (λ l. l ++ more) (first.told files is)
      ∙ ap (λ l. take (length piece) (drop at bytes) ++ l) (second.told files is ∙ ap (take (length more)) (drop_drop_at at (length piece) bytes))
      ∙ sym (take-add (length piece) (length more) (drop at bytes))
      ∙ ap (λ n. take n (drop at bytes)) (sym (length-append piece more));
}

-- a file that was read from its start to its end
pub HasPiece-all : {held : Option Holding} {name : List ℕ} {piece : List ℕ} → HasPiece held name 0 piece → EndsBy held name (length piece) → IsThere held name → (files : Holding) → held ≡ Some files → files name ≡ Some piece
HasPiece-all {name = name} {piece = piece} has ends there files is =
    some_of (files name) (there.told files is) ∙ ap Some (sym (has.told files is ∙ take_all (length piece) (bytes_of files name) (ends.told files is)))
