-- The way back leaves the region, and makes neither the trail nor the variables longer; so heaps only grow.
use Rattle.std.proofs.Common.{◌≡◌, ℕ, zero, suc, ◌+◌, ◌-◌, ◌<◌, ◌≤◌, ⊎_elim, min, List, ◌++◌, length, take, drop, slice_index, slice_set, ap, sym, subst, ◌∙◌, arith}
use Rattle.std.proofs.Math.Seq.{take-append-add}
use Rattle.std.proofs.Math.ListN.{length-set}
use Rattle.std.proofs.lemmas.Bool.{cases_lt}
use Rattle.std.proofs.lemmas.List.{get_or-take, length-take, take-append-drop, take_all}
use Rattle.pi_region.specs.Image.{Image, table_in, with_table, appended}
use Rattle.pi_region.specs.Back.{taken_back, newest, newest_place, newest_old, back_once, back, cut, at_length, Advances}
use Rattle.pi_region.specs.declared.entry.Table.{Table}
use Rattle.pi_region.specs.declared.entry.Change.{Change}
use Rattle.pi_region.proofs.BackLemmas.{trail_once, back_stop, back_go, region_back, trail_back, two_parts, from_itself, len_back}
use Rattle.pi_store_blocks.specs.Past.{NamesAt, heap_at, past_of, HeapsGrow}

-- The way back

pub words_then : (n : ℕ) (i : Image) → (at_length n i).region ≡ take n i.region
words_then n i = ap (take n) (region_back n i)

pub now_is : (i : Image) → i.trail ≤ length i.region → at_length (length i.region) i ≡ i
now_is i low = (from_itself i low).back

-- a length past the end leaves all as it is
pub past_end : (n : ℕ) (i : Image) → i.trail ≤ n → length i.region ≤ n → at_length n i ≡ i
past_end n i low le = ap (cut n) (back_stop n i low) ∙ ap (λ r. record i { region = r }) (take_all n i.region le)

-- a table that gets back what it had isn't longer
fewer_taken : (c : Change) (xs : List ℕ) (place old : ℕ) → length (taken_back c xs place old) ≤ length xs
fewer_taken Change.Pushed xs place old = let l : length (take (length xs - 1) xs) ≡ min (length xs - 1) (length xs) = length-take (length xs - 1) xs in omega arith
fewer_taken Change.Filled xs place old = let l : length (slice_set xs place 0) ≡ length xs = length-set xs place 0 in omega arith
fewer_taken Change.Replaced xs place old = let l : length (slice_set xs place old) ≡ length xs = length-set xs place old in omega arith

fewer_with : (i : Image) (t : Table) (xs : List ℕ) → length xs ≤ length (table_in i t) → length (with_table i t xs).variables ≤ length i.variables
fewer_with i Table.Variables xs le = le
fewer_with i Table.Constraints xs le = omega arith
fewer_with i Table.Agents xs le = omega arith
fewer_with i Table.Waiting xs le = omega arith
fewer_with i Table.Heads xs le = omega arith

fewer_once : (i : Image) → length (back_once i).variables ≤ length i.variables
unfolding back_once
fewer_once i =
    let e = newest i in
    let j : Image = record i { trail = min e.link (i.trail - 1) } in
    fewer_with j e.table (taken_back e.change (table_in j e.table) (newest_place i) (newest_old i)) (fewer_taken e.change (table_in j e.table) (newest_place i) (newest_old i))

-- neither the trail nor the variables get longer, by the number of words behind the newest entry
record Shorter (i j : Image) : Type 0 where
  trail : j.trail ≤ i.trail
  variables : length j.variables ≤ length i.variables

shorter_for : (k len : ℕ) (i : Image) → i.trail ≤ k → Shorter i (back len i)
shorter_for zero len i h = let l : i.trail ≤ len = omega arith in subst (Shorter i) (sym (back_stop len i l)) (record { trail = omega arith; variables = omega arith })
shorter_for (suc k) len i h = ⊎_elim
    (λ l. let fewer : (back_once i).trail ≤ i.trail - 1 = trail_once i in
    let less : length (back_once i).variables ≤ length i.variables = fewer_once i in
    let c : (back_once i).trail ≤ k = omega arith in
    let rest = shorter_for k len (back_once i) c in
    let a : (back len (back_once i)).trail ≤ (back_once i).trail = rest.trail in
    let b : length (back len (back_once i)).variables ≤ length (back_once i).variables = rest.variables in
    subst (Shorter i) (sym (back_go len i l)) (record { trail = omega arith; variables = omega arith }))
    (λ l. subst (Shorter i) (sym (back_stop len i l)) (record { trail = omega arith; variables = omega arith }))
    (cases_lt len i.trail)

shorter : (len : ℕ) (i : Image) → Shorter i (back len i)
shorter len i = shorter_for i.trail len i (omega arith)

pub fewer_variables : (len : ℕ) (i : Image) → length (at_length len i).variables ≤ length i.variables
fewer_variables len i = (shorter len i).variables

pub trail_within : (n : ℕ) (i : Image) → i.trail ≤ length i.region → (at_length n i).trail ≤ length (at_length n i).region
trail_within n i low =
    let l : length (at_length n i).region ≡ min n (length i.region) = len_back n i in
    let a : (back n i).trail ≤ n = trail_back n i in
    let b : (back n i).trail ≤ i.trail = (shorter n i).trail in
    omega arith

-- The same at an earlier length

pub before : (i j : Image) (n : ℕ) → Advances i j → n ≤ length i.region → at_length n j ≡ at_length n i
before i j n a le = sym (two_parts n (length i.region) j le) ∙ ap (at_length n) a.back

pub front_is : (i j : Image) → Advances i j → take (length i.region) j.region ≡ i.region
front_is i j a = sym (words_then (length i.region) j) ∙ ap (λ (k : Image). k.region) a.back

pub word_before : (i j : Image) (n : ℕ) → Advances i j → n < length i.region → slice_index j.region n ≡ slice_index i.region n
word_before i j n a lt = sym (get_or-take (length i.region) j.region n 0 lt) ∙ ap (λ ws. slice_index ws n) (front_is i j a)

pub past_then : (names : NamesAt) (i : Image) (m n : ℕ) → m ≤ n → past_of names (at_length n i) m ≡ past_of names i m
past_then names i m n le = ap (heap_at names) (two_parts m n i le)

pub heaps_grow : HeapsGrow
heaps_grow names i j stay a =
    let le : length i.region ≤ length j.region = a.longer in
    let more : length (at_length (length i.region) j).variables ≤ length j.variables = fewer_variables (length i.region) j in
    let same : length (at_length (length i.region) j).variables ≡ length i.variables = ap (λ (k : Image). length k.variables) a.back in
    record {
      names = λ k text e. stay (length i.region) (length j.region) k text le e;
      next = omega arith;
      words = (drop (length i.region) j.region, sym (take-append-drop (length i.region) j.region) ∙ ap (λ ws. ws ++ drop (length i.region) j.region) (front_is i j a));
    }

pub advances_past : (i : Image) (m n : ℕ) → m ≤ n → n ≤ length i.region → Advances (at_length m i) (at_length n i)
advances_past i m n le within =
    let a : length (at_length m i).region ≡ min m (length i.region) = len_back m i in
    let b : length (at_length n i).region ≡ min n (length i.region) = len_back n i in
    let first : length (at_length m i).region ≡ m = omega arith in
    record {
      longer = omega arith;
      back = ap (λ k. at_length k (at_length n i)) first ∙ two_parts m n i le;
    }

-- more words, at a length that is no earlier
pub then_appended : (i : Image) (ws : List ℕ) (len : ℕ) → i.trail ≤ length i.region → length i.region ≤ len → at_length len (appended i ws) ≡ appended i (take (len - length i.region) ws)
then_appended i ws len low le =
    let at : len ≡ length i.region + (len - length i.region) = omega arith in
    ap (cut len) (back_stop len (appended i ws) (omega arith))
    ∙ ap (λ r. record i { region = r }) (ap (λ m. take m (i.region ++ ws)) at ∙ take-append-add i.region ws (len - length i.region))
