-- The lines that are found one after the other are those of what was read.
use Rattle.std.proofs.Common.{◌≡◌, ◌≤◌, ℕ, ◌+◌, ◌-◌, Bool, true, false, List, [], ◌∷◌, ◌++◌, length, take, Option, None, Some, refl, sym, ◌∙◌, ap, subst, append_assoc, arith, length-append}
use Rattle.std.specs.Prelude.{◌==◌, nat_lt, if◌then◌else◌}
use Rattle.std.specs.Option.{option_map}
use Rattle.std.proofs.lemmas.Bool.Decides.{nat_tests}
use Rattle.std.proofs.lemmas.List.{append-nil, take_all}
use Rattle.std.proofs.Math.Seq.{take-append-add}
use Rattle.pi_outside.specs.Inputs.{SourceRead, given_in}
use Rattle.pi_outside.proofs.InputRuns.{given_in-append}
use Rattle.pi_outside.specs.Lines.{line_feed, Split, in_front, first_line, joined, lines_of}
use Rattle.pi_outside.specs.Ahead.{Ahead, with_piece, at_start}
use Rattle.pi_outside.specs.Finding.{read_of, ReadsOn, nothing, piece, FindsLine}
use Rattle.pi_outside.specs.Order.{FoundSoFar, at_first, one_more, EndsWithItsLines, PassesWithFirstLines, FailsWithLinesSoFar}

-- ---- one line

lines_step : Bool → ℕ → List (List ℕ) → List (List ℕ)
lines_step is_feed x lines = if is_feed then [] ∷ lines else joined x lines

first_step : Bool → ℕ → List ℕ → Option Split → Option Split
first_step is_feed x xs rest = if is_feed then Some (record { line = []; rest = xs }) else option_map (in_front x) rest

no-map : (x : ℕ) (found : Option Split) → option_map (in_front x) found ≡ None → found ≡ None
no-map x None none = refl
no-map x (Some split) none = absurd (cc)

whole-step : (is_feed : Bool) (x : ℕ) (xs : List ℕ) (found : Option Split) (lines : List (List ℕ)) → (found ≡ None → lines ≡ xs ∷ []) → first_step is_feed x xs found ≡ None →
    lines_step is_feed x lines ≡ (x ∷ xs) ∷ []
unfolding lines_step first_step
whole-step true x xs found lines so none = absurd (cc)
whole-step false x xs found lines so none = ap (joined x) (so (no-map x found none))

-- a text without a line feed is one line
lines_of-whole : (xs : List ℕ) → first_line xs ≡ None → lines_of xs ≡ xs ∷ []
unfolding lines_step first_step
lines_of-whole [] none = refl
lines_of-whole (x ∷ xs) none = whole-step (x == line_feed) x xs (first_line xs) (lines_of xs) (lines_of-whole xs) none

before-step : (is_feed : Bool) (x : ℕ) (xs : List ℕ) (found : Option Split) (lines rest : List (List ℕ)) → (found ≡ None → lines ≡ xs ∷ rest) → first_step is_feed x xs found ≡ None →
    lines_step is_feed x lines ≡ (x ∷ xs) ∷ rest
unfolding lines_step first_step
before-step true x xs found lines rest so none = absurd (cc)
before-step false x xs found lines rest so none = ap (joined x) (so (no-map x found none))

-- a line in front of others
lines_of-before : (xs rest : List ℕ) → first_line xs ≡ None → lines_of (xs ++ line_feed ∷ rest) ≡ xs ∷ lines_of rest
unfolding lines_step first_step
lines_of-before [] rest none = refl
lines_of-before (x ∷ xs) rest none = before-step (x == line_feed) x xs (first_line xs) (lines_of (xs ++ line_feed ∷ rest)) (lines_of rest) (lines_of-before xs rest) none

-- what the first line of a text says of it
record IsSplit (text : List ℕ) (split : Split) : Type 0 where
  pub whole : text ≡ split.line ++ line_feed ∷ split.rest
  pub no_line : first_line split.line ≡ None

some-map : (x : ℕ) (found : Option Split) (split : Split) → option_map (in_front x) found ≡ Some split → (inner : Split) × (found ≡ Some inner) × (split ≡ in_front x inner)
some-map x None split is = absurd (cc)
some-map x (Some inner) split is = let same : in_front x inner ≡ split = cc in (inner, refl, sym same)

split-step : (is_feed : Bool) (x : ℕ) (xs : List ℕ) (split : Split) → (x == line_feed) ≡ is_feed → ((inner : Split) → first_line xs ≡ Some inner → IsSplit xs inner) →
    first_step is_feed x xs (first_line xs) ≡ Some split → IsSplit (x ∷ xs) split
unfolding first_step
split-step true x xs split test so is =
    let same : (let s : Split = record { line = []; rest = xs } in s) ≡ split = cc in
    let feed : x ≡ line_feed = grind (arith, nat_tests) in
    rw (← same) (record { whole = ap (λ (n : ℕ). n ∷ xs) feed; no_line = refl })
split-step false x xs split test so is =
    let found : (inner : Split) × (first_line xs ≡ Some inner) × (split ≡ in_front x inner) = some-map x (first_line xs) split is in
    let inner : IsSplit xs found.0 = so found.0 found.1 in
    rw (found.2) (record {
      whole = ap (λ l. x ∷ l) inner.whole;
      no_line = ap (λ (b : Bool). first_step b x found.0.line (first_line found.0.line)) test ∙ ap (option_map (in_front x)) inner.no_line;
    })

is-split : (xs : List ℕ) (split : Split) → first_line xs ≡ Some split → IsSplit xs split
unfolding first_step
is-split [] split is = absurd (cc)
is-split (x ∷ xs) split is = split-step (x == line_feed) x xs split refl (is-split xs) is

-- ---- lines with their line feeds

unlined : List (List ℕ) → List ℕ
unlined [] = []
unlined (line ∷ lines) = line ++ line_feed ∷ unlined lines

AreWithoutFeeds : List (List ℕ) → Type 0
AreWithoutFeeds [] = Unit {0}
AreWithoutFeeds (line ∷ lines) = (first_line line ≡ None) × AreWithoutFeeds lines

lines_of-unlined : (lines : List (List ℕ)) (rest : List ℕ) → AreWithoutFeeds lines → lines_of (unlined lines ++ rest) ≡ lines ++ lines_of rest
unfolding unlined AreWithoutFeeds
lines_of-unlined [] rest all = refl
lines_of-unlined (line ∷ lines) rest all =
    ap lines_of (append_assoc line (line_feed ∷ unlined lines) rest) ∙ lines_of-before line (unlined lines ++ rest) all.0 ∙ ap (λ l. line ∷ l) (lines_of-unlined lines rest all.1)

unlined-more : (lines : List (List ℕ)) (line rest : List ℕ) → unlined lines ++ (line ++ line_feed ∷ rest) ≡ unlined (lines ++ line ∷ []) ++ rest
unfolding unlined
unlined-more [] line rest = sym (append_assoc line (line_feed ∷ []) rest)
unlined-more (first ∷ lines) line rest =
    append_assoc first (line_feed ∷ unlined lines) (line ++ line_feed ∷ rest) ∙ ap (λ l. first ++ line_feed ∷ l) (unlined-more lines line rest)
    ∙ sym (append_assoc first (line_feed ∷ unlined (lines ++ line ∷ [])) rest)

without-more : (lines : List (List ℕ)) (line : List ℕ) → AreWithoutFeeds lines → first_line line ≡ None → AreWithoutFeeds (lines ++ line ∷ [])
unfolding AreWithoutFeeds
without-more [] line all none = (none, tt)
without-more (first ∷ lines) line all none = (all.0, without-more lines line all.1 none)

-- ---- where a reader stands

record Stands (most : ℕ) (text : List ℕ) (lines : List (List ℕ)) (ahead : Ahead) : Type 0 where
  pub split : take most text ≡ unlined lines ++ ahead.bytes
  pub left : ahead.left ≡ most - length text
  pub over : ahead.is_over ≡ nat_lt most (length text)
  pub without : AreWithoutFeeds lines

take-none : (n : ℕ) → take n (let l : List ℕ = [] in l) ≡ []
take-none n = take_all n [] (omega arith)

stands-first : (most : ℕ) → Stands most [] [] (at_start most)
unfolding unlined AreWithoutFeeds
stands-first most = record { split = take-none most; left = omega arith; over = grind (arith, nat_tests); without = tt }

within-of : (most size : ℕ) (over : Bool) → over ≡ false → over ≡ nat_lt most size → size ≤ most
within-of most size over off is = grind (arith, nat_tests)

over-more : (most size more : ℕ) → size ≤ most → nat_lt (most - size) more ≡ nat_lt most (size + more)
over-more most size more within = grind (arith, nat_tests)

take-more : (most : ℕ) (text bytes : List ℕ) → length text ≤ most → take most (text ++ bytes) ≡ take most text ++ take (most - length text) bytes
take-more most text bytes within =
    let whole : most ≡ length text + (most - length text) = omega arith in
    ap (λ n. take n (text ++ bytes)) whole ∙ take-append-add text bytes (most - length text) ∙ ap (λ l. l ++ take (most - length text) bytes) (sym (take_all most text within))

stands-piece : (most : ℕ) (text bytes : List ℕ) (lines : List (List ℕ)) (at : Ahead) → at.is_over ≡ false → Stands most text lines at → Stands most (text ++ bytes) lines (with_piece bytes at)
stands-piece most text bytes lines at may stands =
    let within : length text ≤ most = within-of most (length text) at.is_over may stands.over in
    let size : length (text ++ bytes) ≡ length text + length bytes = length-append text bytes in
    record {
      split = take-more most text bytes within ∙ ap (λ l. l ++ take (most - length text) bytes) stands.split ∙ append_assoc (unlined lines) at.bytes (take (most - length text) bytes)
          ∙ ap (λ n. unlined lines ++ (at.bytes ++ take n bytes)) (sym stands.left);
      left = ap (λ n. n - length bytes) stands.left ∙ (let e : (most - length text) - length bytes ≡ most - length (text ++ bytes) = omega (arith, size) in e);
      over = ap (λ n. nat_lt n (length bytes)) stands.left ∙ over-more most (length text) (length bytes) within ∙ ap (nat_lt most) (sym size);
      without = stands.without;
    }

given-one : (reads : List SourceRead) (bytes : List ℕ) (room : ℕ) → given_in (reads ++ read_of room (Some bytes) ∷ []) ≡ given_in reads ++ bytes
given-one reads bytes room = given_in-append reads (read_of room (Some bytes) ∷ []) ∙ ap (λ l. given_in reads ++ l) (append-nil bytes)

stands-on : (most : ℕ) (text : List ℕ) (lines : List (List ℕ)) (start at : Ahead) (reads : List SourceRead) → ReadsOn start at reads → Stands most text lines start → Stands most (text ++ given_in reads) lines at
stands-on most text lines start at reads nothing stands = subst (λ (t : List ℕ). Stands most t lines start) (sym (append-nil text)) stands
stands-on most text lines start at reads (piece before bytes room earlier wants some on) stands =
    subst (λ (t : List ℕ). Stands most t lines (with_piece bytes before)) (append_assoc text (given_in earlier) bytes ∙ ap (λ l. text ++ l) (sym (given-one earlier bytes room)))
    (stands-piece most (text ++ given_in earlier) bytes lines before wants.may_read (stands-on most text lines start before earlier on stands))

stands-line : (most : ℕ) (text line : List ℕ) (lines : List (List ℕ)) (start after : Ahead) (reads : List SourceRead) → FindsLine start reads line after → Stands most text lines start →
    Stands most (text ++ given_in reads) (lines ++ line ∷ []) after
stands-line most text line lines start after reads finds stands =
    let at : Ahead = finds.at in
    let here : Stands most (text ++ given_in reads) lines at = stands-on most text lines start at reads finds.on stands in
    let split : IsSplit at.bytes (record { line = line; rest = finds.rest }) = is-split at.bytes _ finds.is_first in
    rw (finds.after_is) (record {
      split = here.split ∙ ap (λ l. unlined lines ++ l) split.whole ∙ unlined-more lines line finds.rest;
      left = here.left;
      over = here.over;
      without = without-more lines line here.without split.no_line;
    })

stands-so-far : (most : ℕ) (lines : List (List ℕ)) (reads : List SourceRead) (ahead : Ahead) → FoundSoFar most lines reads ahead → Stands most (given_in reads) lines ahead
stands-so-far most lines reads ahead at_first = stands-first most
stands-so-far most lines reads ahead (one_more earlier line before its at after so_far finds) =
    subst (λ (t : List ℕ). Stands most t (earlier ++ line ∷ []) after) (sym (given_in-append before its))
    (stands-line most (given_in before) line earlier at after its finds (stands-so-far most earlier before at so_far))

-- ---- the laws

stands-behind : (most : ℕ) (lines : List (List ℕ)) (reads earlier : List SourceRead) (ahead at : Ahead) → FoundSoFar most lines reads ahead → ReadsOn ahead at earlier → Stands most (given_in (reads ++ earlier)) lines at
stands-behind most lines reads earlier ahead at so_far on =
    subst (λ (t : List ℕ). Stands most t lines at) (sym (given_in-append reads earlier))
    (stands-on most (given_in reads) lines ahead at earlier on (stands-so-far most lines reads ahead so_far))

pub ends-with-its-lines : EndsWithItsLines
ends-with-its-lines most lines last reads its ahead so_far ends =
    let at : Ahead = ends.at in
    let whole : List ℕ = given_in (reads ++ ends.earlier) in
    let here : Stands most whole lines at = stands-behind most lines reads ends.earlier ahead at so_far ends.on in
    let within : length whole ≤ most = within-of most (length whole) at.is_over ends.wants.may_read here.over in
    let same : given_in (reads ++ its) ≡ whole =
    given_in-append reads its ∙ ap (λ (l : List SourceRead). given_in reads ++ given_in l) ends.all ∙ ap (λ l. given_in reads ++ l) (given-one ends.earlier [] ends.room ∙ append-nil (given_in ends.earlier))
    ∙ sym (given_in-append reads ends.earlier) in
    let split : whole ≡ unlined lines ++ at.bytes = sym (take_all most whole within) ∙ here.split in
    rw same (record {
      within = within;
      are = ap lines_of split ∙ lines_of-unlined lines at.bytes here.without ∙ ap (λ l. lines ++ l) (lines_of-whole at.bytes ends.wants.no_line ∙ ap (λ (l : List ℕ). l ∷ []) (sym ends.line_is));
    })

pub passes-with-first-lines : PassesWithFirstLines
passes-with-first-lines most lines reads its ahead so_far passes =
    let at : Ahead = passes.at in
    let here : Stands most (given_in (reads ++ its)) lines at = stands-behind most lines reads its ahead at so_far passes.on in
    let long : nat_lt most (length (given_in (reads ++ its))) ≡ true = sym here.over ∙ passes.over in
    record {
      more = grind (arith, nat_tests);
      rest = at.bytes;
      are = ap lines_of here.split ∙ lines_of-unlined lines at.bytes here.without ∙ ap (λ l. lines ++ l) (lines_of-whole at.bytes passes.no_line);
    }

pub fails-with-lines-so-far : FailsWithLinesSoFar
fails-with-lines-so-far most lines reads its ahead so_far fails =
    let at : Ahead = fails.at in
    let whole : List ℕ = given_in (reads ++ fails.earlier) in
    let here : Stands most whole lines at = stands-behind most lines reads fails.earlier ahead at so_far fails.on in
    let within : length whole ≤ most = within-of most (length whole) at.is_over fails.wants.may_read here.over in
    let none : given_in (fails.earlier ++ read_of fails.room None ∷ []) ≡ given_in fails.earlier =
    given_in-append fails.earlier (read_of fails.room None ∷ []) ∙ append-nil (given_in fails.earlier) in
    let same : given_in (reads ++ its) ≡ whole =
    given_in-append reads its ∙ ap (λ (l : List SourceRead). given_in reads ++ given_in l) fails.all ∙ ap (λ l. given_in reads ++ l) none ∙ sym (given_in-append reads fails.earlier) in
    let split : whole ≡ unlined lines ++ at.bytes = sym (take_all most whole within) ∙ here.split in
    rw same (record {
      within = within;
      rest = at.bytes;
      are = ap lines_of split ∙ lines_of-unlined lines at.bytes here.without ∙ ap (λ l. lines ++ l) (lines_of-whole at.bytes fails.wants.no_line);
    })
