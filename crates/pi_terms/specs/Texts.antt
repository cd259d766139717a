-- What a text holds.
use Rattle.std.specs.Prelude.{ℕ, List, string_bytes}
use Rattle.pi_terms.specs.declared.text.Kept.{Kept}
use Rattle.pi_terms.specs.declared.text.Kept.TheVariants as kept

-- the bytes of a text
abbrev pub kept_bytes : Kept → List ℕ
kept_bytes (kept.Here short) = short
kept_bytes (kept.Apart string) = string_bytes string.value
