-- Parts by their tokens with their lines; that each number has one part at most.
use Rattle.std.proofs.Common.{◌≡◌, ℕ, ◌-◌, ◌≤◌, inl, inr, List, [], ◌∷◌, ◌++◌, take, drop, length, slice_get, Option, Some, None, refl, ap, sym, ◌∙◌, arith, append_assoc}
use Rattle.std.proofs.lemmas.List.{length-append, length-map, length-take-le, length-drop, take-map}
use Rattle.pi_syntax.specs.Tokens.{Token, Var, Atom, Word, Int, Str, Sign, End, Located, Fault, Lexes}
use Rattle.pi_lex.specs.Kinds.{kinds, lines}
use Rattle.pi_prog_clauses.specs.Stretch.{stretches, stretches_behind}
use Rattle.pi_prog.proofs.EndLemmas.{length-kinds}
use Rattle.pi_where.specs.Places.{BeginsAt, EndsAt}
use Rattle.pi_where.specs.Where.{with_end, all_tokens, IsPart, HasLines, LacksPart, TextHasLines, TextLacksPart, HasNoTokens}
use Rattle.pi_where.specs.declared.part_lines.PartLines.{PartLines}
use Rattle.pi_where.proofs.ListLemmas.{between, get_between, in_three, map-between, second_of}

-- the lines of a part, by its places
pub lines_there : (tokens : List Located) (number from to : ℕ) (found : PartLines) → BeginsAt (kinds tokens) number from → EndsAt (kinds tokens) from to
    → slice_get (lines tokens) from ≡ Some found.first → slice_get (lines tokens) (to - 1) ≡ Some found.last → HasLines tokens number found
lines_there tokens number from to found begins ends first last =
    let some = ends.some in
    let within : to ≤ length tokens = omega (arith, ends.within, length-map tokens (λ (located : Located). located.0)) in
    let part = between tokens from to in
    let count : length part ≡ to - from = length-take-le (to - from) (drop from tokens) (omega (arith, within, length-drop from tokens)) in
    let its_lines : lines part ≡ between (lines tokens) from to = map-between (λ (located : Located). located.1) tokens from to in
    record {
      part = part;
      is_part = record {
        before = begins.before;
        this = ends.this;
        following = stretches (drop to (kinds tokens));
        parts = begins.parts ∙ ap (λ ss. begins.before ++ ss) ends.part;
        counted = begins.counted;
        earlier = take from tokens;
        later = drop to tokens;
        all = in_three tokens from to (omega (arith, some));
        earlier_parts = sym (take-map (λ (located : Located). located.0) from tokens) ∙ begins.earlier;
        its_own = map-between (λ (located : Located). located.0) tokens from to ∙ ends.its_own;
      };
      first = ap (λ ls. slice_get ls 0) its_lines ∙ get_between (lines tokens) from to from 0 (omega arith) some ∙ first;
      last = ap (λ ls. slice_get ls (length part - 1)) its_lines
          ∙ get_between (lines tokens) from to (to - 1) (length part - 1) (omega (arith, count, some)) (omega (arith, some))
          ∙ last;
    }

-- ---- one part for a number

some_one : {X : Type 0} (o : Option X) (x y : X) → o ≡ Some x → o ≡ Some y → x ≡ y
some_one o x y p q = let same : Some x ≡ Some y = sym p ∙ q in cc

cons_one : {X : Type 0} (x y : X) (xs ys : List X) → x ∷ xs ≡ y ∷ ys → (x ≡ y) × (xs ≡ ys)
cons_one x y xs ys h = (cc, cc)

split_one : {X : Type 0} (xs ys : List X) (x y : X) (rest others : List X) → length xs ≡ length ys → xs ++ x ∷ rest ≡ ys ++ y ∷ others → (xs ≡ ys) × (x ≡ y)
split_one [] [] x y rest others count h = (refl, (cons_one x y rest others h).0)
split_one [] (b ∷ ys) x y rest others count h = absurd (omega (arith, count))
split_one (a ∷ xs) [] x y rest others count h = absurd (omega (arith, count))
split_one (a ∷ xs) (b ∷ ys) x y rest others count h =
    let (first, others_too) = cons_one a b (xs ++ x ∷ rest) (ys ++ y ∷ others) h in
    let (same, item) = split_one xs ys x y rest others (omega (arith, count)) others_too in
    (cc, item)

same_length : (xs ys : List Located) → kinds xs ≡ kinds ys → length xs ≡ length ys
same_length xs ys h = sym (length-kinds xs) ∙ ap length h ∙ length-kinds ys

part_one : (tokens : List Located) (number : ℕ) (part other : List Located) → IsPart tokens number part → IsPart tokens number other → part ≡ other
part_one tokens number part other p q =
    let (before, this) = split_one p.before q.before p.this q.this p.following q.following (omega (arith, p.counted, q.counted)) (sym p.parts ∙ q.parts) in
    let earlier : length p.earlier ≡ length q.earlier = same_length p.earlier q.earlier (p.earlier_parts ∙ ap all_tokens before ∙ sym q.earlier_parts) in
    let own : length part ≡ length other = same_length part other (p.its_own ∙ ap (λ s. with_end s) this ∙ sym q.its_own) in
    second_of tokens p.earlier part p.later p.all
    ∙ ap (λ n. take n (drop (length p.earlier) tokens)) own
    ∙ ap (λ n. take (length other) (drop n tokens)) earlier
    ∙ sym (second_of tokens q.earlier other q.later q.all)

found_one : (a b : PartLines) → a.first ≡ b.first → a.last ≡ b.last → a ≡ b
found_one a b first last = λ i. record { first = first i; last = last i }

lines_one : (tokens : List Located) (number : ℕ) (found other : PartLines) → HasLines tokens number found → HasLines tokens number other → found ≡ other
lines_one tokens number found other p q =
    let same : p.part ≡ q.part = part_one tokens number p.part q.part p.is_part q.is_part in
    found_one found other
    (some_one (slice_get (lines q.part) 0) found.first other.first (sym (ap (λ xs. slice_get (lines xs) 0) same) ∙ p.first) q.first)
    (some_one (slice_get (lines q.part) (length q.part - 1)) found.last other.last (sym (ap (λ xs. slice_get (lines xs) (length xs - 1)) same) ∙ p.last) q.last)

there_not_lacking : (tokens : List Located) (number : ℕ) (part : List Located) → IsPart tokens number part → LacksPart tokens number → ⊥
there_not_lacking tokens number part p (inl none) = absurd (omega (arith, none, p.counted))
there_not_lacking tokens number part p (inr few) =
    absurd (omega (arith, few, p.counted, ap length p.parts, length-append p.before (p.this ∷ p.following)))

-- ---- of texts, where each has one reading

abbrev pub HasOneReading : List ℕ → Type 0
HasOneReading text = (tokens others : List Located) (fault other : Option Fault) → Lexes text tokens fault → Lexes text others other → (tokens ≡ others) × (fault ≡ other)

pub text_lines_one : (text : List ℕ) (number : ℕ) (found other : PartLines) → HasOneReading text → TextHasLines text number found → TextHasLines text number other → found ≡ other
text_lines_one text number found other one p q =
    let same : q.tokens ≡ p.tokens = (one q.tokens p.tokens None None q.lexed p.lexed).0 in
    lines_one p.tokens number found other p.on (rw same at q.on)

pub text_not_lacking : (text : List ℕ) (number : ℕ) (found : PartLines) → HasOneReading text → TextHasLines text number found → ¬ TextLacksPart text number
text_not_lacking text number found one p q =
    let same : q.tokens ≡ p.tokens = (one q.tokens p.tokens None None q.lexed p.lexed).0 in
    there_not_lacking p.tokens number p.on.part p.on.is_part (rw same at q.lacks)

pub text_not_faulty : (text : List ℕ) (number : ℕ) (found : PartLines) → HasOneReading text → TextHasLines text number found → ¬ HasNoTokens text
text_not_faulty text number found one p (fault, (tokens, lexed)) =
    let apart : None ≡ Some fault = (one p.tokens tokens None (Some fault) p.lexed lexed).1 in
    absurd cc

-- ---- all tokens

all_from : (before ts : List Token) → all_tokens (stretches_behind before ts) ≡ before ++ ts
unfolding stretches_behind
all_from [] [] = refl
all_from (b ∷ bs) [] = refl
all_from [] (End ∷ ts) = ap (λ xs. End ∷ xs) (all_from [] ts)
all_from (b ∷ bs) (End ∷ ts) = ap (λ xs. (b ∷ bs) ++ End ∷ [] ++ xs) (all_from [] ts) ∙ append_assoc (b ∷ bs) (End ∷ []) ts
all_from [] (Var n ∷ ts) = all_from (Var n ∷ []) ts
all_from [] (Atom n ∷ ts) = all_from (Atom n ∷ []) ts
all_from [] (Word n ∷ ts) = all_from (Word n ∷ []) ts
all_from [] (Int n ∷ ts) = all_from (Int n ∷ []) ts
all_from [] (Str n ∷ ts) = all_from (Str n ∷ []) ts
all_from [] (Sign n ∷ ts) = all_from (Sign n ∷ []) ts
all_from (b ∷ bs) (Var n ∷ ts) = all_from ((b ∷ bs) ++ Var n ∷ []) ts ∙ append_assoc (b ∷ bs) (Var n ∷ []) ts
all_from (b ∷ bs) (Atom n ∷ ts) = all_from ((b ∷ bs) ++ Atom n ∷ []) ts ∙ append_assoc (b ∷ bs) (Atom n ∷ []) ts
all_from (b ∷ bs) (Word n ∷ ts) = all_from ((b ∷ bs) ++ Word n ∷ []) ts ∙ append_assoc (b ∷ bs) (Word n ∷ []) ts
all_from (b ∷ bs) (Int n ∷ ts) = all_from ((b ∷ bs) ++ Int n ∷ []) ts ∙ append_assoc (b ∷ bs) (Int n ∷ []) ts
all_from (b ∷ bs) (Str n ∷ ts) = all_from ((b ∷ bs) ++ Str n ∷ []) ts ∙ append_assoc (b ∷ bs) (Str n ∷ []) ts
all_from (b ∷ bs) (Sign n ∷ ts) = all_from ((b ∷ bs) ++ Sign n ∷ []) ts ∙ append_assoc (b ∷ bs) (Sign n ∷ []) ts

pub parts_all : (ts : List Token) → all_tokens (stretches ts) ≡ ts
parts_all ts = all_from [] ts
