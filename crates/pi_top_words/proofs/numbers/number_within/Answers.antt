use Rattle.std.proofs.Common.{rules, ◌≡◌, ◌<◌, ◌≤◌, ℕ, List, Result, Ok, length, true, arith}
use Rattle.std.proofs.lemmas.Bool.Decides.{nat_tests}
use Rattle.std.proofs.lemmas.Grind.{common_steps}
use Rattle.std.proofs.lemmas.Str.Parse.{IsNumeralModel, IsDigitsTest, numerals_by_value, digits_value_short, parse_gives}
use Rattle.std.specs.Char.{is_ascii_digit}
use Rattle.std.specs.List.{list_all}
use Rattle.std.specs.Str.Parse.{ParsesUnsigned, digits_value}
use Rattle.pi_top_words.specs.Words.{is_number}
use Rattle.pi_top_words.proofs.numbers.number_within.Goals as goal

tells : IsDigitsTest (λ ds. list_all is_ascii_digit ds ≡ true)
tells = search rules

own : IsNumeralModel (λ ds. list_all is_ascii_digit ds ≡ true) (digits_value 10)
own = numerals_by_value _ tells

reads : {E : Type 0} (word : List ℕ) (r : Result ℕ E) → ParsesUnsigned 64 10 word r → is_number word ≡ true
    → r ≡ Ok (digits_value 10 word)
reads word r h number =
    let digits : list_all is_ascii_digit word ≡ true = grind (arith, nat_tests, common_steps) in
    let some : 0 < length word = grind (arith, nat_tests, common_steps) in
    let few : length word ≤ 19 = grind (arith, nat_tests, common_steps) in
    let short = digits_value_short own word 19 digits few in
    parse_gives own 64 word r h digits some (omega arith)

pub returns-in_err-value : goal.returns-in_err-value
returns-in_err-value c =
    let read = reads c.args.word.now _ c.parse.ensures.value.0 (grind (arith, common_steps)) in
    grind (arith, common_steps)
