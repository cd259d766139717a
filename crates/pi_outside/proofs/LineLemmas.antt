-- The first line of a text, by where its first line feed stands, and of a text that comes in two parts.
use Rattle.std.proofs.Common.{◌≡◌, ◌<◌, ℕ, suc, ◌+◌, Bool, true, false, List, [], ◌∷◌, ◌++◌, length, take, drop, Option, None, Some, refl, ◌∙◌, ap, arith}
use Rattle.std.specs.Prelude.{not, ◌==◌, if◌then◌else◌}
use Rattle.std.specs.Option.{option_map}
use Rattle.pi_outside.specs.Lines.{line_feed, Split, in_front, first_line, line_len}

-- how far the line goes that begins with a byte
len_step : Bool → ℕ → ℕ
len_step is_feed n = if not is_feed then 1 + n else 0

first_step : Bool → ℕ → List ℕ → Option Split → Option Split
first_step is_feed x xs rest = if is_feed then Some (record { line = []; rest = xs }) else option_map (in_front x) rest

some-step : (is_feed : Bool) (n x : ℕ) (xs : List ℕ) (found : Option Split) → (n < length xs → found ≡ Some (record { line = take n xs; rest = drop (n + 1) xs })) →
    len_step is_feed n < length (x ∷ xs) → first_step is_feed x xs found ≡ Some (record { line = take (len_step is_feed n) (x ∷ xs); rest = drop (len_step is_feed n + 1) (x ∷ xs) })
unfolding len_step first_step
some-step true n x xs found so less = refl
some-step false n x xs found so less =
    let next : 1 + n ≡ suc n = omega arith in
    let behind : suc n + 1 ≡ suc (n + 1) = omega arith in
    rw (so (omega (arith, less)), next, behind) refl

-- there is one
pub first_line-some : (xs : List ℕ) → line_len xs < length xs → first_line xs ≡ Some (record { line = take (line_len xs) xs; rest = drop (line_len xs + 1) xs })
unfolding len_step first_step
first_line-some [] less = absurd (omega (arith, less))
first_line-some (x ∷ xs) less = some-step (x == line_feed) (line_len xs) x xs (first_line xs) (first_line-some xs) less

none-step : (is_feed : Bool) (n x : ℕ) (xs : List ℕ) (found : Option Split) → (length xs ≡ n → found ≡ None) → length (x ∷ xs) ≡ len_step is_feed n → first_step is_feed x xs found ≡ None
unfolding len_step first_step
none-step true n x xs found so same = absurd (omega (arith, same))
none-step false n x xs found so same = rw (so (omega (arith, same))) refl

-- there is none
pub first_line-none : (xs : List ℕ) → length xs ≡ line_len xs → first_line xs ≡ None
unfolding len_step first_step
first_line-none [] same = refl
first_line-none (x ∷ xs) same = none-step (x == line_feed) (line_len xs) x xs (first_line xs) (first_line-none xs) same

-- ---- a text in two parts, the first of which has no line feed

-- a line that begins with this
abbrev pub behind : List ℕ → Split → Split
behind front split = record split { line = front ++ split.line }

behind-nothing : (found : Option Split) → found ≡ option_map (behind []) found
behind-nothing None = refl
behind-nothing (Some split) = refl

behind-more : (x : ℕ) (front : List ℕ) (found : Option Split) → option_map (in_front x) (option_map (behind front) found) ≡ option_map (behind (x ∷ front)) found
behind-more x front None = refl
behind-more x front (Some split) = refl

no-map : (x : ℕ) (found : Option Split) → option_map (in_front x) found ≡ None → found ≡ None
no-map x None none = refl
no-map x (Some split) none = absurd (cc)

behind-step : (is_feed : Bool) (x : ℕ) (xs bytes : List ℕ) (found whole rest : Option Split) → (found ≡ None → whole ≡ option_map (behind xs) rest) → first_step is_feed x xs found ≡ None →
    first_step is_feed x (xs ++ bytes) whole ≡ option_map (behind (x ∷ xs)) rest
unfolding first_step
behind-step true x xs bytes found whole rest so none = absurd (cc)
behind-step false x xs bytes found whole rest so none = ap (option_map (in_front x)) (so (no-map x found none)) ∙ behind-more x xs rest

pub first_line-behind : (front bytes : List ℕ) → first_line front ≡ None → first_line (front ++ bytes) ≡ option_map (behind front) (first_line bytes)
unfolding first_step
first_line-behind [] bytes none = behind-nothing (first_line bytes)
first_line-behind (x ∷ xs) bytes none = behind-step (x == line_feed) x xs bytes (first_line xs) (first_line (xs ++ bytes)) (first_line bytes) (first_line-behind xs bytes) none
