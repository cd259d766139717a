-- The tokens of names, words and punctuation.
use Rattle.std.proofs.Common.{◌≡◌, ℕ, ◌==◌, true, false, List, [], ◌∷◌, ◌++◌, length, refl, ◌∙◌, arith, encode_utf8_all, if◌then◌else◌}
use Rattle.std.proofs.lemmas.Bool.{and_parts}
use Rattle.std.proofs.lemmas.Bool.Decides.{nat_tests}
use Rattle.std.proofs.lemmas.List.{take_at}
use Rattle.std.specs.List.{list_all, prefix_len}
use Rattle.pi_syntax.specs.Tokens.{Lexeme, item_at, Var, Atom, Word, first, is_white, is_name_part, is_variable_start, is_atom_start, is_reserved, variable, atom_or_word}
use Rattle.pi_print_program.proofs.Says.{item_some, Stops}

-- the name goes on up to what ends it
prefix_len-name : (cs more : List ℕ) → list_all is_name_part cs ≡ true → is_name_part (first more) ≡ false → prefix_len is_name_part (cs ++ more) ≡ length cs
prefix_len-name [] [] all stops = refl
prefix_len-name [] (c ∷ more) all stops = rw stops refl
prefix_len-name (c ∷ cs) more all stops =
    let (here, rest) = and_parts (is_name_part c) (list_all is_name_part cs) all in
    rw (here, prefix_len-name cs more rest stops) (omega arith)

-- what begins with a letter or `_` is a name
variable_item : (c : ℕ) (text : List ℕ) → is_variable_start c ≡ true → item_at (c ∷ text) ≡ variable (c ∷ text)
variable_item c text starts =
    let white : is_white c ≡ false = grind (arith, nat_tests) in
    let percent : (c == 37) ≡ false = grind (arith, nat_tests) in
    let slash : (c == 47) ≡ false = grind (arith, nat_tests) in
    item_some c text ∙ rw (white, percent, slash, starts) refl

atom_item : (c : ℕ) (text : List ℕ) → is_atom_start c ≡ true → item_at (c ∷ text) ≡ atom_or_word (c ∷ text)
atom_item c text starts =
    let white : is_white c ≡ false = grind (arith, nat_tests) in
    let percent : (c == 37) ≡ false = grind (arith, nat_tests) in
    let slash : (c == 47) ≡ false = grind (arith, nat_tests) in
    let upper : is_variable_start c ≡ false = grind (arith, nat_tests) in
    item_some c text ∙ rw (white, percent, slash, upper, starts) refl

variable_whole : (cs more : List ℕ) → list_all is_name_part cs ≡ true → is_name_part (first more) ≡ false
    → variable (cs ++ more) ≡ Lexeme (Var (encode_utf8_all cs)) (length cs)
unfolding variable
variable_whole cs more all stops = rw (prefix_len-name cs more all stops, take_at cs more (length cs) refl) refl

atom_whole : (cs more : List ℕ) → list_all is_name_part cs ≡ true → is_name_part (first more) ≡ false
    → atom_or_word (cs ++ more) ≡ Lexeme (if is_reserved cs then Word (encode_utf8_all cs) else Atom (encode_utf8_all cs)) (length cs)
unfolding atom_or_word
atom_whole cs more all stops = rw (prefix_len-name cs more all stops, take_at cs more (length cs) refl) refl

pub variable_token : (c : ℕ) (cs more : List ℕ) → is_variable_start c ≡ true → list_all is_name_part (c ∷ cs) ≡ true → Stops more
    → item_at (c ∷ (cs ++ more)) ≡ Lexeme (Var (encode_utf8_all (c ∷ cs))) (length (c ∷ cs))
variable_token c cs more starts all stops = variable_item c (cs ++ more) starts ∙ variable_whole (c ∷ cs) more all stops.name

pub name_token : (c : ℕ) (cs more : List ℕ) → is_atom_start c ≡ true → list_all is_name_part (c ∷ cs) ≡ true → Stops more
    → item_at (c ∷ (cs ++ more)) ≡ Lexeme (if is_reserved (c ∷ cs) then Word (encode_utf8_all (c ∷ cs)) else Atom (encode_utf8_all (c ∷ cs))) (length (c ∷ cs))
name_token c cs more starts all stops = atom_item c (cs ++ more) starts ∙ atom_whole (c ∷ cs) more all stops.name
