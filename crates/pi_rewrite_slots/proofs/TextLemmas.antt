-- Texts that are compared.
use Rattle.std.proofs.Common.{◌≡◌, ℕ, true, List, sym}
use Rattle.std.specs.Str.{bytes_eq}
use Rattle.std.specs.Bool.{Decides}
use Rattle.std.proofs.lemmas.Bool.Decides.{same_from_decides}
use Rattle.std.proofs.lemmas.Slice.Eq.{bytes_eq-Decides}

pub text_same : (a b : List ℕ) → bytes_eq a b ≡ true → a ≡ b
text_same a b h = (bytes_eq-Decides a b).0 h

pub text_turned : (a b : List ℕ) → bytes_eq a b ≡ bytes_eq b a
text_turned a b = same_from_decides (bytes_eq a b) (bytes_eq b a) (bytes_eq-Decides a b) (turned (bytes_eq-Decides b a))
  where
    turned : Decides (bytes_eq b a) (b ≡ a) → Decides (bytes_eq b a) (a ≡ b)
    turned d = (λ h. sym (d.0 h), λ e. d.1 (sym e))
