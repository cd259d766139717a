-- Pieces of a format, and what is filled in for them.
use Rattle.std.proofs.Common.{◌≡◌, ◌≢◌, ℕ, suc, ◌<◌, ◌≤◌, ◌==◌, Bool, true, false, cond, List, [], ◌∷◌, ◌++◌, length, get_or, inl, inr, refl, ap, sym, ◌∙◌, arith, append_assoc, length-append}
use Rattle.std.specs.Prelude.{nat_lt, map, Ok, Err}
use Rattle.std.specs.Char.{encode_utf8}
use Rattle.std.proofs.lemmas.Bool.{cases_Bool, ltb-true, ltb-false}
use Rattle.std.proofs.lemmas.Bool.Decides.{nat_tests}
use Rattle.std.proofs.lemmas.List.{append-nil}
use Rattle.std.proofs.lemmas.Str.{encode_ascii, char_from_byte, length-encode, len_utf8_bounds}
use Rattle.pi_terms.specs.Tree.{Tree}
use Rattle.pi_constraints.specs.State.{State}
use Rattle.pi_effects.specs.Answer.{Answer}
use Rattle.pi_effects.specs.Format.{Piece, plain_byte, no_sign, sign, pieces, in_front, filled_in}

-- ---- the letter behind a `%`

no_letter : (c : ℕ) → 128 ≤ c → sign c ≡ no_sign
no_letter c h = grind (arith, nat_tests)

-- what a letter behind a `%` stands for comes first
pub record Behind (behind rest : List ℕ) (p : Piece) : Type 0 where
  pub others : List Piece
  pub are : pieces behind true ≡ p ∷ others
  pub known : p ≢ no_sign → others ≡ pieces rest false

letter_low : (c : ℕ) (behind rest : List ℕ) → c < 128 → behind ≡ encode_utf8 c ++ rest → Behind behind rest (sign c)
unfolding pieces
letter_low c behind rest low e =
    let front : behind ≡ c ∷ rest = e ∙ ap (λ bs. bs ++ rest) (encode_ascii c low) in
    record { others = pieces rest false; are = ap (λ bs. pieces bs true) front; known = λ _. refl }

first_high : (c b : ℕ) (bs rest : List ℕ) → 128 ≤ c → b ∷ bs ≡ encode_utf8 c ++ rest → 128 ≤ b
first_high c b bs rest high e = elim (cases_Bool (nat_lt b 128)) [
  | inl hit ↦
      let low : b < 128 = ltb-true b 128 hit in
      let same : c ≡ b = char_from_byte (b ∷ bs) rest c e low (omega arith) in
      absurd (omega arith)
  | inr miss ↦ ltb-false b 128 miss
]

letter_high : (c : ℕ) (behind rest : List ℕ) → 128 ≤ c → behind ≡ encode_utf8 c ++ rest → Behind behind rest (sign c)
unfolding pieces
letter_high c [] rest high e = absurd (omega (arith, ap length e, length-append (encode_utf8 c) rest, length-encode c, len_utf8_bounds c))
letter_high c (b ∷ bs) rest high e =
    let none : sign c ≡ no_sign = no_letter c high in
    let first : 128 ≤ b = first_high c b bs rest high e in
    record { others = pieces bs false; are = ap (λ p. p ∷ pieces bs false) (no_letter b first ∙ sym none); known = λ other. absurd (other none) }

pub letter_behind : (c : ℕ) (behind rest : List ℕ) → behind ≡ encode_utf8 c ++ rest → Behind behind rest (sign c)
letter_behind c behind rest e = elim (cases_Bool (nat_lt c 128)) [
  | inl hit ↦ letter_low c behind rest (ltb-true c 128 hit) e
  | inr miss ↦ letter_high c behind rest (ltb-false c 128 miss) e
]

pub nothing_behind : (behind rest : List ℕ) → length behind ≡ 0 → Behind behind rest no_sign
unfolding pieces
nothing_behind [] rest e = record { others = []; are = refl; known = λ other. absurd (other refl) }
nothing_behind (b ∷ bs) rest e = absurd (omega arith)

-- ---- bytes that are written as they are

abbrev pub NoPercent : List ℕ → Type 0
NoPercent xs = (i : ℕ) → i < length xs → get_or xs i 0 ≢ 37

plain_test : (x : ℕ) → x ≢ 37 → (x == 37) ≡ false
plain_test x h = grind (arith, nat_tests)

tail_free : (x : ℕ) (xs : List ℕ) → NoPercent (x ∷ xs) → NoPercent xs
tail_free x xs h i within = h (suc i) (omega arith)

pub plain_front : (xs ys : List ℕ) → NoPercent xs → pieces (xs ++ 37 ∷ ys) false ≡ map plain_byte xs ++ pieces ys true
unfolding pieces
plain_front [] ys h = refl
plain_front (x ∷ xs) ys h =
    let other : (x == 37) ≡ false = plain_test x (h 0 (omega arith)) in
    ap (λ (q : Bool). cond q (pieces (xs ++ 37 ∷ ys) q) (plain_byte x ∷ pieces (xs ++ 37 ∷ ys) q)) other ∙ ap (λ ps. plain_byte x ∷ ps) (plain_front xs ys (tail_free x xs h))

pub plain_all : (xs : List ℕ) → NoPercent xs → pieces xs false ≡ map plain_byte xs
unfolding pieces
plain_all [] h = refl
plain_all (x ∷ xs) h =
    let other : (x == 37) ≡ false = plain_test x (h 0 (omega arith)) in
    ap (λ (q : Bool). cond q (pieces xs q) (plain_byte x ∷ pieces xs q)) other ∙ ap (λ ps. plain_byte x ∷ ps) (plain_all xs (tail_free x xs h))

-- ---- texts in front of others

pub in_front-none : (a : Answer (List ℕ)) → in_front (Ok []) a ≡ a
in_front-none (Ok text) = refl
in_front-none (Err ball) = refl

pub in_front-append : (xs ys : List ℕ) (a : Answer (List ℕ)) → in_front (Ok xs) (in_front (Ok ys) a) ≡ in_front (Ok (xs ++ ys)) a
in_front-append xs ys (Ok text) = ap Ok (sym (append_assoc xs ys text))
in_front-append xs ys (Err ball) = refl

pub filled-plain : (s : State) (bad : Tree) (xs : List ℕ) (ps : List Piece) (ts : List Tree) → filled_in s bad (map plain_byte xs ++ ps) ts ≡ in_front (Ok xs) (filled_in s bad ps ts)
unfolding filled_in
filled-plain s bad [] ps ts = sym (in_front-none (filled_in s bad ps ts))
filled-plain s bad (x ∷ xs) ps ts = ap (in_front (Ok (x ∷ []))) (filled-plain s bad xs ps ts) ∙ in_front-append (x ∷ []) xs (filled_in s bad ps ts)

-- ---- the loop

-- the whole is what was written, and then what the rest comes to with the arguments that are left
abbrev pub GoesOn : State → Tree → Answer (List ℕ) → List ℕ → List ℕ → List Tree → Type 0
GoesOn s bad whole out rest left = whole ≡ in_front (Ok out) (filled_in s bad (pieces rest false) left)

pub goes_begin : (s : State) (bad : Tree) (text out : List ℕ) (ts : List Tree) → out ≡ [] → GoesOn s bad (filled_in s bad (pieces text false) ts) out text ts
goes_begin s bad text out ts e = sym (ap (λ xs. in_front (Ok xs) (filled_in s bad (pieces text false) ts)) e ∙ in_front-none (filled_in s bad (pieces text false) ts))

-- at a `%`
pub goes_plain : (s : State) (bad : Tree) (whole : Answer (List ℕ)) (out more rest plain behind : List ℕ) (left : List Tree) → GoesOn s bad whole out rest left → rest ≡ plain ++ 37 ∷ behind → NoPercent plain → more ≡ out ++ plain → whole ≡ in_front (Ok more) (filled_in s bad (pieces behind true) left)
goes_plain s bad whole out more rest plain behind left goes is free e =
    goes ∙ ap (λ ps. in_front (Ok out) (filled_in s bad ps left)) (ap (λ xs. pieces xs false) is ∙ plain_front plain behind free)
    ∙ ap (in_front (Ok out)) (filled-plain s bad plain (pieces behind true) left) ∙ in_front-append out plain (filled_in s bad (pieces behind true) left)
    ∙ ap (λ xs. in_front (Ok xs) (filled_in s bad (pieces behind true) left)) (sym e)

pub goes_sign : (s : State) (bad : Tree) (whole : Answer (List ℕ)) (out more text behind rest : List ℕ) (p : Piece) (left new : List Tree) → whole ≡ in_front (Ok out) (filled_in s bad (pieces behind true) left) → Behind behind rest p → p ≢ no_sign → more ≡ out ++ text → ((ps : List Piece) → filled_in s bad (p ∷ ps) left ≡ in_front (Ok text) (filled_in s bad ps new)) → GoesOn s bad whole more rest new
goes_sign s bad whole out more text behind rest p left new goes front known e fills =
    goes ∙ ap (λ ps. in_front (Ok out) (filled_in s bad ps left)) (front.are ∙ ap (λ ps. p ∷ ps) (front.known known))
    ∙ ap (in_front (Ok out)) (fills (pieces rest false)) ∙ in_front-append out text (filled_in s bad (pieces rest false) new)
    ∙ ap (λ xs. in_front (Ok xs) (filled_in s bad (pieces rest false) new)) (sym e)

-- what is raised for a sign is raised
pub raised_sign : (s : State) (bad : Tree) (whole : Answer (List ℕ)) (out behind rest : List ℕ) (p : Piece) (left : List Tree) (ball : Tree) → whole ≡ in_front (Ok out) (filled_in s bad (pieces behind true) left) → (front : Behind behind rest p) → filled_in s bad (p ∷ front.others) left ≡ Err ball → whole ≡ Err ball
raised_sign s bad whole out behind rest p left ball goes front e = goes ∙ ap (λ ps. in_front (Ok out) (filled_in s bad ps left)) front.are ∙ ap (in_front (Ok out)) e

-- where no `%` is left
pub goes_end : (s : State) (bad : Tree) (whole : Answer (List ℕ)) (out rest : List ℕ) (left : List Tree) → GoesOn s bad whole out rest left → NoPercent rest → whole ≡ in_front (Ok (out ++ rest)) (filled_in s bad [] left)
goes_end s bad whole out rest left goes free =
    goes ∙ ap (λ ps. in_front (Ok out) (filled_in s bad ps left)) (plain_all rest free ∙ sym (append-nil (map plain_byte rest)))
    ∙ ap (in_front (Ok out)) (filled-plain s bad rest [] left) ∙ in_front-append out rest (filled_in s bad [] left)

pub all_filled : (s : State) (bad : Tree) (whole : Answer (List ℕ)) (out more rest : List ℕ) (left : List Tree) → GoesOn s bad whole out rest left → NoPercent rest → left ≡ [] → more ≡ out ++ rest → whole ≡ Ok more
unfolding filled_in
all_filled s bad whole out more rest left goes free none e =
    goes_end s bad whole out rest left goes free ∙ ap (λ us. in_front (Ok (out ++ rest)) (filled_in s bad [] us)) none ∙ ap Ok (append-nil (out ++ rest) ∙ sym e)

pub argument_left : (s : State) (bad : Tree) (whole : Answer (List ℕ)) (out rest : List ℕ) (u : Tree) (left us : List Tree) → GoesOn s bad whole out rest left → NoPercent rest → left ≡ u ∷ us → whole ≡ Err bad
unfolding filled_in
argument_left s bad whole out rest u left us goes free some =
    goes_end s bad whole out rest left goes free ∙ ap (λ vs. in_front (Ok (out ++ rest)) (filled_in s bad [] vs)) some
