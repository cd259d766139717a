-- Lines by the line feeds that are passed, and the list of tokens with them.
use Rattle.std.proofs.Common.{◌≡◌, ℕ, zero, suc, ◌+◌, ◌-◌, ◌<◌, ◌≤◌, le_refl, inl, inr, Bool, true, false, cond, nat_le, List, [], ◌∷◌, ◌++◌, length, take, get_or, refl, sym, ◌∙◌, ap, subst, arith, length-append, Vec, Some, slice_get, replicate}
use Rattle.std.proofs.lemmas.Bool.{cases_lt}
use Rattle.std.proofs.lemmas.Bool.Decides.{nat_tests}
use Rattle.std.proofs.lemmas.List.{get_or_append_left, get_or-append_right, get_or-replicate, length-replicate, take_all}
use Rattle.std.proofs.lemmas.List.Elements.{All-head, All-tail, All-weaker, All-push, All-append, All-replicate, AllWithin-from_all}
use Rattle.std.proofs.lemmas.List.Sums.{sum_by-append, sum_by-cons}
use Rattle.std.proofs.lemmas.List.Folds.{sum_by-replicate}
use Rattle.std.specs.declared.alloc.Global.{Global}
use Rattle.std.specs.List.{All, count_by}
use Rattle.std.specs.List.Sorted.{IsNonDecreasing, IsPartitionPoint}
use Rattle.pi_lex.specs.declared.form.Form.{Form}
use Rattle.pi_lex.specs.declared.store.Store.{Store}
use Rattle.pi_lex.specs.Kinds.{kinds, lines}
use Rattle.pi_lex.specs.Store.{token_of, line_at, located_from, listed, IsForm, IsSound, Keeps}
use Rattle.pi_lex.proofs.StoreLemmas.{token_of-kept, IsForm-kept}

-- the elements before a partition point are those that pass
pub count_by-point : {X : Type 0} (p : X → Bool) (xs : List X) (at : ℕ) → at ≤ length xs
    → IsPartitionPoint (λ x. p x ≡ true) (λ x. p x ≡ false) xs at → count_by p xs ≡ at
count_by-point p [] at within point = omega (arith, within)
count_by-point p (x ∷ xs) zero within point =
    let rest = count_by-point p xs zero (omega arith)
    ((λ k d low high. absurd (omega (arith, high))), (λ k d low high. point.1 (suc k) d (omega arith) (omega (arith, high)))) in
    sum_by-cons (λ y. cond (p y) 1 0) x xs ∙ (ap (λ b. cond b 1 0 + count_by p xs) (point.1 0 x (omega arith) (omega arith))
    ∙ (let same : 0 + count_by p xs ≡ 0 = omega (arith, rest) in same))
count_by-point p (x ∷ xs) (suc at) within point =
    let rest = count_by-point p xs at (omega (arith, within))
    ((λ k d low high. point.0 (suc k) d (omega arith) (omega (arith, high))), (λ k d low high. point.1 (suc k) d (omega (arith, low)) (omega (arith, high)))) in
    sum_by-cons (λ y. cond (p y) 1 0) x xs ∙ (ap (λ b. cond b 1 0 + count_by p xs) (point.0 0 x (omega arith) (omega arith))
    ∙ (let same : 1 + count_by p xs ≡ suc at = omega (arith, rest) in same))

pub count_by-all : (feeds : List ℕ) (place : ℕ) → All (λ before. before ≤ place) feeds → count_by (λ before. nat_le before place) feeds ≡ length feeds
count_by-all [] place all = refl
count_by-all (before ∷ feeds) place all =
    let here : before ≤ place = All-head (λ b. b ≤ place) before feeds all in
    let passes : nat_le before place ≡ true = grind (arith, nat_tests) in
    let rest = count_by-all feeds place (All-tail (λ b. b ≤ place) before feeds all) in
    sum_by-cons (λ b. cond (nat_le b place) 1 0) before feeds
    ∙ (ap (λ b. cond b 1 0 + count_by (λ b. nat_le b place) feeds) passes
    ∙ (let same : 1 + count_by (λ b. nat_le b place) feeds ≡ suc (length feeds) = omega (arith, rest) in same))

-- line feeds behind a token don't change its line
pub line_at-more : (feeds : List ℕ) (n here place : ℕ) → place < here → line_at (feeds ++ replicate n here) place ≡ line_at feeds place
line_at-more feeds n here place behind =
    let fails : nat_le here place ≡ false = grind (arith, nat_tests) in
    rw (sum_by-append, sum_by-replicate, fails) (omega arith)

pub length-located_from : (store : Store) (place : ℕ) (forms : List Form) → length (located_from store place forms) ≡ length forms
length-located_from store place [] = refl
length-located_from store place (f ∷ forms) = ap suc (length-located_from store (place + 1) forms)

pub kind_at : (store : Store) (place : ℕ) (forms : List Form) (i : ℕ) (f : Form) → i < length forms → f ≡ get_or forms i f
    → slice_get (kinds (located_from store place forms)) i ≡ Some (token_of store f)
kind_at store place [] i f within read = absurd (omega arith)
kind_at store place (g ∷ forms) zero f within read = ap (λ h. Some (token_of store h)) (sym read)
kind_at store place (g ∷ forms) (suc i) f within read = kind_at store (place + 1) forms i f (omega arith) read

pub line_at-listed : (store : Store) (place : ℕ) (forms : List Form) (i : ℕ) → i < length forms
    → slice_get (lines (located_from store place forms)) i ≡ Some (line_at store.feeds.items (place + i))
line_at-listed store place [] i within = absurd (omega arith)
line_at-listed store place (g ∷ forms) zero within =
    let same : place + 0 ≡ place = omega arith in
    rw same refl
line_at-listed store place (g ∷ forms) (suc i) within =
    let same : place + 1 + i ≡ place + suc i = omega arith in
    line_at-listed store (place + 1) forms i (omega arith) ∙ ap (λ k. Some (line_at store.feeds.items k)) same

-- the tokens so far stay what they were
pub located_from-kept : (old new : Store) (place n here : ℕ) (forms : List Form) → ((f : Form) → IsForm old f → token_of new f ≡ token_of old f)
    → new.feeds.items ≡ old.feeds.items ++ replicate n here → place + length forms ≤ here → All (IsForm old) forms
    → located_from new place forms ≡ located_from old place forms
located_from-kept old new place n here [] same grown within all = refl
located_from-kept old new place n here (f ∷ forms) same grown within all =
    let token = same f (All-head (IsForm old) f forms all) in
    let line : line_at new.feeds.items place ≡ line_at old.feeds.items place =
    ap (λ feeds. line_at feeds place) grown ∙ line_at-more old.feeds.items n here place (omega (arith, within)) in
    let rest = located_from-kept old new (place + 1) n here forms same grown (omega (arith, within)) (All-tail (IsForm old) f forms all) in
    rw (token, line, rest)

pub located_from-push : (store : Store) (place : ℕ) (forms : List Form) (f : Form)
    → located_from store place (forms ++ f ∷ []) ≡ located_from store place forms ++ (token_of store f, line_at store.feeds.items (place + length forms)) ∷ []
located_from-push store place [] f =
    let same : place + 0 ≡ place = omega arith in
    rw same refl
located_from-push store place (g ∷ forms) f =
    let same : place + 1 + length forms ≡ place + suc (length forms) = omega arith in
    rw (located_from-push store (place + 1) forms f, same)

-- line feeds more
pub reached : (feeds : List ℕ) (n here : ℕ) → All (λ before. before ≤ here) feeds → All (λ before. before ≤ here) (feeds ++ replicate n here)
reached feeds n here all = All-append (λ b. b ≤ here) feeds (replicate n here) all (All-replicate (λ b. b ≤ here) n here (le_refl here))

pub IsNonDecreasing-more : (feeds : List ℕ) (n here : ℕ) → IsNonDecreasing feeds → All (λ before. before ≤ here) feeds → IsNonDecreasing (feeds ++ replicate n here)
IsNonDecreasing-more feeds n here up all i j d before within =
    let longer : length (feeds ++ replicate n here) ≡ length feeds + n = length-append feeds (replicate n here) ∙ ap (λ k. length feeds + k) (length-replicate n here) in
    elim (cases_lt j (length feeds)) [
      | inl old ↦
          rw (get_or_append_left feeds (replicate n here) d j old, get_or_append_left feeds (replicate n here) d i (omega (arith, before, old)))
          (up i j d before old)
      | inr new ↦
          let here_at : get_or (feeds ++ replicate n here) j d ≡ here =
          get_or-append_right feeds (replicate n here) (length feeds) j d refl new
          ∙ get_or-replicate n (j - length feeds) here d (omega (arith, within, longer, new)) in
          rw here_at (AllWithin-from_all (λ b. b ≤ here) (feeds ++ replicate n here) (reached feeds n here all) i d (omega arith) (omega (arith, before, within)))
    ]

-- what `resize` makes of them
pub passed_more : (old new : List ℕ) (line here : ℕ) → length old < line → new ≡ take (line - 1) old ++ replicate (line - 1 - length old) here
    → new ≡ old ++ replicate (line - 1 - length old) here
passed_more old new line here before passed = passed ∙ ap (λ front. front ++ replicate (line - 1 - length old) here) (take_all (line - 1) old (omega (arith, before)))

-- what a store is with one token more, which stands behind the line feeds that are passed
abbrev pub pushed : Store → Vec Form Global → Vec ℕ Global → Store
pushed mid forms feeds = record { buffer = mid.buffer; longs = mid.longs; numbers = mid.numbers; forms = forms; feeds = feeds; seats = mid.seats }

pub listed_pushed : (old mid : Store) (forms : Vec Form Global) (feeds : Vec ℕ Global) (f : Form) (n here line : ℕ) → IsSound old → Keeps old mid
    → forms.items ≡ mid.forms.items ++ f ∷ [] → feeds.items ≡ mid.feeds.items ++ replicate n here → here ≡ length mid.forms.items
    → line ≡ 1 + (length mid.feeds.items + n)
    → listed (pushed mid forms feeds) ≡ listed old ++ (token_of mid f, line) ∷ []
listed_pushed old mid forms feeds f n here line sound keeps more passed count reach =
    let new : Store = pushed mid forms feeds in
    let all : All (λ before. before ≤ here) mid.feeds.items = rw (keeps.feeds, count, keeps.forms) sound.within in
    let at : 0 + length old.forms.items ≡ here = omega (arith, count, ap length keeps.forms) in
    let passes = count_by-all (mid.feeds.items ++ replicate n here) here (reached mid.feeds.items n here all) in
    let last : line_at feeds.items (0 + length old.forms.items) ≡ line =
    ap (λ place. line_at feeds.items place) at ∙ (ap (λ fs. line_at fs here) passed
    ∙ (let same : line_at (mid.feeds.items ++ replicate n here) here ≡ line =
    omega (arith, passes, reach, length-append mid.feeds.items (replicate n here), length-replicate n here) in same)) in
    let front = located_from-kept old new 0 n here old.forms.items (λ g is. token_of-kept old mid g keeps is)
    (passed ∙ ap (λ fs. fs ++ replicate n here) keeps.feeds) (omega (arith, at)) sound.forms in
    ap (λ fs. located_from new 0 fs) (more ∙ ap (λ fs. fs ++ f ∷ []) keeps.forms)
    ∙ (located_from-push new 0 old.forms.items f
    ∙ (ap (λ ls. ls ++ (token_of mid f, line_at feeds.items (0 + length old.forms.items)) ∷ []) front
    ∙ ap (λ k. listed old ++ (token_of mid f, k) ∷ []) last))

pub IsSound-pushed : (old mid : Store) (forms : Vec Form Global) (feeds : Vec ℕ Global) (f : Form) (n here : ℕ) → IsSound old → Keeps old mid → IsForm mid f
    → forms.items ≡ mid.forms.items ++ f ∷ [] → feeds.items ≡ mid.feeds.items ++ replicate n here → here ≡ length mid.forms.items
    → IsSound (pushed mid forms feeds)
IsSound-pushed old mid forms feeds f n here sound keeps lies more passed count =
    let all : All (λ before. before ≤ here) mid.feeds.items = rw (keeps.feeds, count, keeps.forms) sound.within in
    let longer : length forms.items ≡ here + 1 = rw (more, length-append, count) refl in
    let kept = All-weaker (IsForm old) (IsForm mid) (λ g is. IsForm-kept old mid g keeps is) old.forms.items sound.forms in
    record {
      forms = subst (All (IsForm mid)) (sym (more ∙ ap (λ fs. fs ++ f ∷ []) keeps.forms)) (All-push (IsForm mid) old.forms.items f kept lies);
      ascending = subst IsNonDecreasing (sym passed) (IsNonDecreasing-more mid.feeds.items n here (subst IsNonDecreasing (sym keeps.feeds) sound.ascending) all);
      within = subst (All (λ b. b ≤ length forms.items)) (sym passed) (All-weaker (λ b. b ≤ here) (λ b. b ≤ length forms.items) (λ b below. omega (arith, below, longer)) (mid.feeds.items ++ replicate n here) (reached mid.feeds.items n here all));
    }
