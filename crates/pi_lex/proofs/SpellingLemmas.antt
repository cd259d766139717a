-- What is left to compare of a text with characters.
use Rattle.std.proofs.Common.{◌≡◌, ℕ, ◌+◌, ◌<◌, List, ◌++◌, length, drop, get_or, sym, ◌∙◌, ap, arith, length-append}
use Rattle.std.proofs.lemmas.List.{drop_more}
use Rattle.std.proofs.lemmas.Str.{encode_same, length-encode, len_utf8_bounds}
use Rattle.std.specs.Char.{encode_utf8}
use Rattle.std.specs.Str.{encode_utf8_all}

-- the text is these characters exactly where its rest is those from here on
abbrev pub IsLeft : List ℕ → List ℕ → List ℕ → ℕ → Type 0
IsLeft text spelling rest i =
    (rest ≡ encode_utf8_all (drop i spelling) → text ≡ encode_utf8_all spelling)
    × (text ≡ encode_utf8_all spelling → rest ≡ encode_utf8_all (drop i spelling))

-- one character, and those behind it
pub ahead : (spelling : List ℕ) (i c : ℕ) → i < length spelling → c ≡ get_or spelling i c
    → encode_utf8_all (drop i spelling) ≡ encode_utf8 c ++ encode_utf8_all (drop (i + 1) spelling)
ahead spelling i c within is =
    ap encode_utf8_all (drop_more spelling i c within) ∙ ap (λ x. encode_utf8 x ++ encode_utf8_all (drop (i + 1) spelling)) (sym is)

pub none_left : (text spelling rest : List ℕ) (i c : ℕ) → i < length spelling → c ≡ get_or spelling i c → length rest ≡ 0
    → IsLeft text spelling rest i → text ≡ encode_utf8_all spelling → ⊥
none_left text spelling rest i c within is none left same =
    let size = ap length (left.1 same ∙ ahead spelling i c within is) ∙ length-append (encode_utf8 c) (encode_utf8_all (drop (i + 1) spelling)) in
    omega (arith, size, none, length-encode c, len_utf8_bounds c)

pub other_left : (text spelling rest more : List ℕ) (i found c : ℕ) → i < length spelling → c ≡ get_or spelling i c → rest ≡ encode_utf8 found ++ more
    → IsLeft text spelling rest i → text ≡ encode_utf8_all spelling → (found ≡ c) × (more ≡ encode_utf8_all (drop (i + 1) spelling))
other_left text spelling rest more i found c within is begins left same =
    encode_same found c more (encode_utf8_all (drop (i + 1) spelling)) (sym begins ∙ left.1 same ∙ ahead spelling i c within is)

pub less_left : (text spelling rest more : List ℕ) (i found c : ℕ) → i < length spelling → c ≡ get_or spelling i c → rest ≡ encode_utf8 found ++ more
    → found ≡ c → IsLeft text spelling rest i → IsLeft text spelling more (i + 1)
less_left text spelling rest more i found c within is begins same left = (
  λ behind. left.0 (begins ∙ ap (λ x. encode_utf8 x ++ more) same ∙ ap (λ xs. encode_utf8 c ++ xs) behind ∙ sym (ahead spelling i c within is)),
  λ whole. (other_left text spelling rest more i found c within is begins left whole).1,
)
