-- The first bytes of a line tell what it asks.
use Rattle.std.proofs.Common.{◌≡◌, ◌<◌, ℕ, ◌+◌, true, List, length, take, inl, inr, sym, ◌∙◌, ap, arith, length-take-le}
use Rattle.std.specs.Prelude.{nat_lt, if◌then◌else◌}
use Rattle.std.proofs.lemmas.Bool.{cases_lt}
use Rattle.std.proofs.lemmas.Bool.Decides.{nat_tests}
use Rattle.std.proofs.lemmas.List.{take_all}
use Rattle.pi_outside.specs.declared.request.TheConstants.{KEPT_LINE}
use Rattle.pi_outside.specs.Requests.{too_long, asked_by, trimmed, request_within, request_of, most_in_line}

long-line : (most : ℕ) (line : List ℕ) → most < length line → request_within most line ≡ too_long
long-line most line long =
    let test : nat_lt most (length line) ≡ true = grind (arith, nat_tests) in
    ap (λ b. if b then too_long else asked_by (trimmed line)) test

pub kept-within : (most : ℕ) (line : List ℕ) → request_within most (take (most + 1) line) ≡ request_within most line
kept-within most line = elim (cases_lt most (length line)) [
  | inl long ↦
      let kept : length (take (most + 1) line) ≡ most + 1 = length-take-le (most + 1) line (omega arith) in
      long-line most (take (most + 1) line) (omega (arith, kept)) ∙ sym (long-line most line long)
  | inr short ↦ ap (request_within most) (take_all (most + 1) line (omega arith))
]

-- with the numbers of the language
pub kept-tells : (line : List ℕ) → request_of (take KEPT_LINE line) ≡ request_of line
kept-tells line = kept-within most_in_line line
