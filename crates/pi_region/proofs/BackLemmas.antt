-- The way back along the trail: it stops at its length, needs no more steps than there are words, and may be taken in two parts.
use Rattle.std.proofs.Common.{◌≡◌, ℕ, zero, suc, ◌+◌, ◌-◌, ◌*◌, ◌%◌, ◌<◌, ◌≤◌, ⊎_elim, min, List, length, take, slice_index, refl, ap, sym, subst, ◌∙◌, arith, nat_le}
use Rattle.std.proofs.lemmas.Bool.{cases_lt, le-leb, lt-leb, cond-true, cond-false}
use Rattle.std.proofs.lemmas.List.{get_or-take, take-take, take_all, length-take}
use Rattle.pi_region.specs.Entry.{value_of, entry_of}
use Rattle.pi_region.specs.Image.{Image, table_in, with_table}
use Rattle.pi_region.specs.Back.{taken_back, without, newest, newest_place, newest_old, back_once, back_for, back, cut, at_length, Advances, AdvancesFromItself, AdvancesThrough, BackInTwoParts}
use Rattle.pi_region.specs.declared.entry.Entry.{Entry}
use Rattle.pi_region.proofs.TableLemmas.{region_with, trail_with, with_cut, table_cut}

trail_without : (i : Image) (e : Entry) (place old : ℕ) → (without i e place old).trail ≤ i.trail - 1
trail_without i e place old =
    let low : min e.link (i.trail - 1) ≤ i.trail - 1 = omega arith in
    subst (λ (k : ℕ). k ≤ i.trail - 1) (sym (trail_with (record i { trail = min e.link (i.trail - 1) }) e.table (taken_back e.change (table_in i e.table) place old))) low

pub trail_once : (i : Image) → (back_once i).trail ≤ i.trail - 1
unfolding back_once
trail_once i = trail_without i (newest i) (newest_place i) (newest_old i)

stop : (k len : ℕ) (i : Image) → i.trail ≤ len → back_for k len i ≡ i
unfolding back_for
stop zero len i h = refl
stop (suc k) len i h = cond-true (nat_le i.trail len) i (back_for k len (back_once i)) (le-leb i.trail len h)

go : (k len : ℕ) (i : Image) → len < i.trail → back_for (suc k) len i ≡ back_for k len (back_once i)
unfolding back_for
go k len i h = cond-false (nat_le i.trail len) i (back_for k len (back_once i)) (lt-leb i.trail len h)

-- more steps than there are words change nothing
enough : (k m len : ℕ) (i : Image) → i.trail ≤ k → i.trail ≤ m → back_for k len i ≡ back_for m len i
enough zero m len i a b = let h : i.trail ≤ len = omega arith in stop zero len i h ∙ sym (stop m len i h)
enough (suc k) zero len i a b = let h : i.trail ≤ len = omega arith in stop (suc k) len i h ∙ sym (stop zero len i h)
enough (suc k) (suc m) len i a b = ⊎_elim
    (λ h. let fewer : (back_once i).trail ≤ i.trail - 1 = trail_once i in
    let c : (back_once i).trail ≤ k = omega arith in
    let d : (back_once i).trail ≤ m = omega arith in
    go k len i h ∙ (enough k m len (back_once i) c d ∙ sym (go m len i h)))
    (λ h. stop (suc k) len i h ∙ sym (stop (suc m) len i h))
    (cases_lt len i.trail)

pub back_stop : (len : ℕ) (i : Image) → i.trail ≤ len → back len i ≡ i
back_stop len i h = stop i.trail len i h

pub back_go : (len : ℕ) (i : Image) → len < i.trail → back len i ≡ back len (back_once i)
back_go len i h =
    let fewer : (back_once i).trail ≤ i.trail - 1 = trail_once i in
    let a : i.trail ≤ suc (i.trail - 1) = omega arith in
    let b : i.trail ≤ i.trail = omega arith in
    enough i.trail (suc (i.trail - 1)) len i b a
    ∙ (go (i.trail - 1) len i h ∙ enough (i.trail - 1) (back_once i).trail len (back_once i) fewer (omega arith))

region_without : (i : Image) (e : Entry) (place old : ℕ) → (without i e place old).region ≡ i.region
region_without i e place old = region_with (record i { trail = min e.link (i.trail - 1) }) e.table (taken_back e.change (table_in i e.table) place old)

pub region_once : (i : Image) → (back_once i).region ≡ i.region
unfolding back_once
region_once i = region_without i (newest i) (newest_place i) (newest_old i)

-- by the number of words behind the newest entry
region_back_for : (k len : ℕ) (i : Image) → i.trail ≤ k → (back len i).region ≡ i.region
region_back_for zero len i h = let l : i.trail ≤ len = omega arith in ap (λ (j : Image). j.region) (back_stop len i l)
region_back_for (suc k) len i h = ⊎_elim
    (λ l. let fewer : (back_once i).trail ≤ i.trail - 1 = trail_once i in
    let c : (back_once i).trail ≤ k = omega arith in
    ap (λ (j : Image). j.region) (back_go len i l) ∙ (region_back_for k len (back_once i) c ∙ region_once i))
    (λ l. ap (λ (j : Image). j.region) (back_stop len i l))
    (cases_lt len i.trail)

pub region_back : (len : ℕ) (i : Image) → (back len i).region ≡ i.region
region_back len i = region_back_for i.trail len i (omega arith)

trail_back_for : (k len : ℕ) (i : Image) → i.trail ≤ k → (back len i).trail ≤ len
trail_back_for zero len i h = let l : i.trail ≤ len = omega arith in subst (λ (j : Image). j.trail ≤ len) (sym (back_stop len i l)) l
trail_back_for (suc k) len i h = ⊎_elim
    (λ l. let fewer : (back_once i).trail ≤ i.trail - 1 = trail_once i in
    let c : (back_once i).trail ≤ k = omega arith in
    subst (λ (j : Image). j.trail ≤ len) (sym (back_go len i l)) (trail_back_for k len (back_once i) c))
    (λ l. subst (λ (j : Image). j.trail ≤ len) (sym (back_stop len i l)) l)
    (cases_lt len i.trail)

pub trail_back : (len : ℕ) (i : Image) → (back len i).trail ≤ len
trail_back len i = trail_back_for i.trail len i (omega arith)

parts : (k m n : ℕ) (i : Image) → i.trail ≤ k → m ≤ n → back m (back n i) ≡ back m i
parts zero m n i h le = let l : i.trail ≤ n = omega arith in ap (back m) (back_stop n i l)
parts (suc k) m n i h le = ⊎_elim
    (λ l. let fewer : (back_once i).trail ≤ i.trail - 1 = trail_once i in
    let c : (back_once i).trail ≤ k = omega arith in
    let l2 : m < i.trail = omega arith in
    ap (back m) (back_go n i l) ∙ (parts k m n (back_once i) c le ∙ sym (back_go m i l2)))
    (λ l. ap (back m) (back_stop n i l))
    (cases_lt n i.trail)

-- entries that end within a length are read the same in the region cut to it
without_cut : (n : ℕ) (i : Image) (e : Entry) (place old : ℕ) → without (cut n i) e place old ≡ cut n (without i e place old)
without_cut n i e place old =
    ap (λ xs. with_table (record (cut n i) { trail = min e.link (i.trail - 1) }) e.table (taken_back e.change xs place old)) (table_cut n i e.table)
    ∙ with_cut n i e.table (taken_back e.change (table_in i e.table) place old) (min e.link (i.trail - 1))

pub newest_cut : (n : ℕ) (i : Image) → 0 < i.trail → i.trail ≤ n → newest (cut n i) ≡ newest i
newest_cut n i a h = ap entry_of (get_or-take n i.region (i.trail - 1) 0 (omega arith))

pub place_cut : (n : ℕ) (i : Image) → 0 < i.trail → i.trail ≤ n → newest_place (cut n i) ≡ newest_place i
place_cut n i a h = ap value_of (get_or-take n i.region (i.trail - 2) 0 (omega arith))

old_cut : (n : ℕ) (i : Image) → 0 < i.trail → i.trail ≤ n → newest_old (cut n i) ≡ newest_old i
old_cut n i a h =
    let r : List ℕ = i.region in
    let t : ℕ = i.trail in
    ap (λ v. value_of v * 32 + value_of (slice_index (take n r) (t - 3)) % 32) (get_or-take n r (t - 4) 0 (omega arith))
    ∙ ap (λ v. value_of (slice_index r (t - 4)) * 32 + value_of v % 32) (get_or-take n r (t - 3) 0 (omega arith))

pub once_cut : (n : ℕ) (i : Image) → 0 < i.trail → i.trail ≤ n → back_once (cut n i) ≡ cut n (back_once i)
unfolding back_once
once_cut n i a h =
    ap (λ e. without (cut n i) e (newest_place (cut n i)) (newest_old (cut n i))) (newest_cut n i a h)
    ∙ (ap (λ p. without (cut n i) (newest i) p (newest_old (cut n i))) (place_cut n i a h)
    ∙ (ap (λ o. without (cut n i) (newest i) (newest_place i) o) (old_cut n i a h)
    ∙ without_cut n i (newest i) (newest_place i) (newest_old i)))

cut_for : (k m n : ℕ) (i : Image) → i.trail ≤ k → i.trail ≤ n → back m (cut n i) ≡ cut n (back m i)
cut_for zero m n i h l = let s : i.trail ≤ m = omega arith in back_stop m (cut n i) s ∙ ap (cut n) (sym (back_stop m i s))
cut_for (suc k) m n i h l = ⊎_elim
    (λ g. let fewer : (back_once i).trail ≤ i.trail - 1 = trail_once i in
    let c : (back_once i).trail ≤ k = omega arith in
    let d : (back_once i).trail ≤ n = omega arith in
    back_go m (cut n i) g ∙ (ap (back m) (once_cut n i (omega arith) l) ∙ (cut_for k m n (back_once i) c d ∙ ap (cut n) (sym (back_go m i g)))))
    (λ s. back_stop m (cut n i) s ∙ ap (cut n) (sym (back_stop m i s)))
    (cases_lt m i.trail)

pub two_parts : BackInTwoParts
two_parts m n i le =
    let t : (back n i).trail ≤ n = trail_back n i in
    let k : (back n i).trail ≤ (back n i).trail = omega arith in
    ap (cut m) (cut_for (back n i).trail m n (back n i) k t)
    ∙ (ap (λ j. cut m (cut n j)) (parts i.trail m n i (omega arith) le)
    ∙ ap (λ r. record (back m i) { region = r }) (take-take m n (back m i).region le))

pub from_itself : AdvancesFromItself
from_itself i h = record {
  longer = omega arith;
  back = ap (cut (length i.region)) (back_stop (length i.region) i h) ∙ ap (λ r. record i { region = r }) (take_all (length i.region) i.region (omega arith));
}

pub through : AdvancesThrough
through i j k a b =
    let l : length i.region ≤ length j.region = a.longer in
    record {
      longer = let m : length j.region ≤ length k.region = b.longer in omega arith;
      back = sym (two_parts (length i.region) (length j.region) k l) ∙ (ap (at_length (length i.region)) b.back ∙ a.back);
    }

-- a return to a length leaves the region as long, or as it was where it is shorter
pub len_back : (len : ℕ) (i : Image) → length (at_length len i).region ≡ min len (length i.region)
len_back len i = ap (λ r. length (take len r)) (region_back len i) ∙ length-take len i.region

-- what was there at an earlier length is still led back to
pub older : (len : ℕ) (i j : Image) → Advances i j → length i.region ≤ len → Advances i (at_length len j)
older len i j a le =
    let n : length (at_length len j).region ≡ min len (length j.region) = len_back len j in
    let l : length i.region ≤ length j.region = a.longer in
    record {
      longer = omega arith;
      back = two_parts (length i.region) len j le ∙ a.back;
    }

pub restored : (len : ℕ) (i j : Image) → Advances i j → len ≡ length i.region → at_length len j ≡ i
restored len i j a e = ap (λ n. at_length n j) e ∙ a.back
