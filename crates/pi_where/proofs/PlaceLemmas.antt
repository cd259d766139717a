-- Parts one after the other, by the places between them.
use Rattle.std.proofs.Common.{◌≡◌, ℕ, ◌+◌, ◌-◌, ◌<◌, ◌≤◌, true, false, List, [], ◌∷◌, ◌++◌, take, drop, length, slice_get, Some, refl, ap, sym, ◌∙◌, arith, append_assoc, append-nil}
use Rattle.std.proofs.lemmas.List.{drop_all, length-append, length-take-le, length-drop}
use Rattle.pi_syntax.specs.Tokens.{Token}
use Rattle.pi_prog_clauses.specs.Stretch.{Stretch, stretch, stretches, stretches_behind}
use Rattle.pi_prog.specs.Pieces.{is_end}
use Rattle.pi_prog.proofs.EndLemmas.{end_step, other_step, last_step, no_step, is_the_end, drop_at}
use Rattle.pi_where.specs.Places.{BeginsAt, EndsAt}
use Rattle.pi_where.specs.Where.{with_end, all_tokens}
use Rattle.pi_where.proofs.ListLemmas.{between, between_more, take_on}

-- no token from one place up to another is an end point
abbrev pub IsOpenTo : List Token → ℕ → ℕ → Type 0
IsOpenTo ts from at = stretches (drop from ts) ≡ stretches_behind (between ts from at) (drop at ts)

pub open_none : (ts : List Token) (from : ℕ) → IsOpenTo ts from from
open_none ts from =
    let none : from - from ≡ 0 = omega arith in
    sym (ap (λ k. stretches_behind (take k (drop from ts)) (drop from ts)) none)

pub open_more : (ts : List Token) (from at next : ℕ) (t : Token) → next ≡ at + 1 → from ≤ at → slice_get ts at ≡ Some t → is_end t ≡ false → IsOpenTo ts from at → IsOpenTo ts from next
open_more ts from at next t n h is other far =
    far
    ∙ ap (stretches_behind (between ts from at)) (drop_at ts at next t n is)
    ∙ other_step (between ts from at) t (drop next ts) other
    ∙ ap (λ b. stretches_behind b (drop next ts)) (sym (between_more ts from at next t n h is))

-- an end point ends the part
pub ends_at_point : (ts : List Token) (from at next : ℕ) (t : Token) → next ≡ at + 1 → from ≤ at → at < length ts → slice_get ts at ≡ Some t → is_end t ≡ true → IsOpenTo ts from at → EndsAt ts from next
ends_at_point ts from at next t n h short is ends far = record {
  this = stretch (between ts from at) true;
  part = far
      ∙ ap (stretches_behind (between ts from at)) (drop_at ts at next t n is ∙ ap (λ u. u ∷ drop next ts) (is_the_end t ends))
      ∙ end_step (between ts from at) (drop next ts);
  its_own = between_more ts from at next t n h is ∙ ap (λ u. between ts from at ++ u ∷ []) (is_the_end t ends);
  some = omega (arith, n, h);
  within = omega (arith, n, short);
}

-- and so does the last token
pub ends_at_last : (ts : List Token) (from end : ℕ) → end ≡ length ts → from < end → IsOpenTo ts from end → EndsAt ts from end
ends_at_last ts from end all some far =
    let none : drop end ts ≡ [] = drop_all end ts (omega (arith, all)) in
    let count : length (between ts from end) ≡ end - from = length-take-le (end - from) (drop from ts) (omega (arith, all, length-drop from ts)) in
    record {
      this = stretch (between ts from end) false;
      part = far
          ∙ ap (stretches_behind (between ts from end)) none
          ∙ last_step (between ts from end) (omega (arith, count, some))
          ∙ ap (λ ss. stretch (between ts from end) false ∷ ss) (sym (ap (λ ds. stretches ds) none ∙ no_step));
      its_own = refl;
      some = some;
      within = omega (arith, all);
    }

-- ---- parts by their numbers

all_tokens-append : (ss others : List Stretch) → all_tokens (ss ++ others) ≡ all_tokens ss ++ all_tokens others
all_tokens-append [] others = refl
all_tokens-append (s ∷ ss) others = ap (λ ts. with_end s ++ ts) (all_tokens-append ss others) ∙ sym (append_assoc (with_end s) (all_tokens ss) (all_tokens others))

pub begins_first : (ts : List Token) → BeginsAt ts 1 0
begins_first ts = record { before = []; parts = refl; counted = omega arith; earlier = refl }

pub begins_next : (ts : List Token) (number next from to : ℕ) → next ≡ number + 1 → BeginsAt ts number from → EndsAt ts from to → BeginsAt ts next to
begins_next ts number next from to n begins ends = record {
  before = begins.before ++ ends.this ∷ [];
  parts = begins.parts ∙ ap (λ ss. begins.before ++ ss) ends.part ∙ sym (append_assoc begins.before (ends.this ∷ []) (stretches (drop to ts)));
  counted = omega (arith, n, begins.counted, length-append begins.before (ends.this ∷ []));
  earlier = take_on ts from to (omega (arith, ends.some))
      ∙ ap (λ xs. xs ++ between ts from to) begins.earlier
      ∙ ap (λ xs. all_tokens begins.before ++ xs) (ends.its_own ∙ sym (append-nil (with_end ends.this)))
      ∙ sym (all_tokens-append begins.before (ends.this ∷ []));
}

-- where no token is left, so many parts aren't there
pub lacks_from : (ts : List Token) (number at : ℕ) → length ts ≤ at → BeginsAt ts number at → length (stretches ts) < number
lacks_from ts number at all begins =
    let none : stretches (drop at ts) ≡ [] = ap (λ ds. stretches ds) (drop_all at ts all) ∙ no_step in
    let whole : stretches ts ≡ begins.before = begins.parts ∙ ap (λ ss. begins.before ++ ss) none ∙ append-nil begins.before in
    omega (arith, begins.counted, ap length whole)
