-- Each change of an image can be taken back.
use Rattle.std.proofs.Common.{◌≡◌, ℕ, zero, suc, ◌+◌, ◌-◌, ◌*◌, ◌/◌, ◌%◌, ◌<◌, ◌≤◌, min, List, [], ◌∷◌, ◌++◌, length, slice_index, slice_set, refl, ap, sym, subst, ◌∙◌, arith, length-append}
use Rattle.std.proofs.lemmas.List.{get_or-append-add, set-set, set-get_or, take_at}
use Rattle.pi_region.specs.Entry.{data_of, value_of, word_of, entry_of}
use Rattle.pi_region.specs.Image.{Image, table_in, with_table, appended, logged, pushed, replacing, replaced}
use Rattle.pi_region.specs.Back.{taken_back, without, newest, newest_place, newest_old, back_once, cut, at_length, Advances}
use Rattle.pi_region.specs.declared.entry.Table.{Table}
use Rattle.pi_region.specs.declared.entry.Change.{Change}
use Rattle.pi_region.specs.declared.entry.Entry.{Entry}
use Rattle.pi_region.proofs.EntryLemmas.{value_of-data_of, entry_of-word_of}
use Rattle.pi_region.proofs.TableLemmas.{region_with, table_with, table_at, with_same, with_at, with_back}
use Rattle.pi_region.proofs.BackLemmas.{back_stop, back_go}

pub appended_advances : (i : Image) (ws : List ℕ) → i.trail ≤ length i.region → Advances i (appended i ws)
appended_advances i ws h = record {
  longer = omega (arith, length-append i.region ws);
  back = ap (cut (length i.region)) (back_stop (length i.region) (appended i ws) h) ∙ ap (λ r. record i { region = r }) (take_at i.region ws (length i.region) refl);
}

-- a change that wrote an entry: these words more in the region, the newest entry says this, and without it nothing is changed
pub record Logs (i j : Image) (e : Entry) (place : ℕ) (ws : List ℕ) : Type 0 where
  pub more : 0 < length ws
  pub region : j.region ≡ i.region ++ ws
  pub end : j.trail ≡ length (i.region ++ ws)
  pub entry : newest j ≡ e
  pub at : newest_place j ≡ place
  pub once : back_once j ≡ appended i ws

pub logs_advance : (i j : Image) (e : Entry) (place : ℕ) (ws : List ℕ) → i.trail ≤ length i.region → Logs i j e place ws → Advances i j
logs_advance i j e place ws h logs =
    let l : length (i.region ++ ws) ≡ length i.region + length ws = length-append i.region ws in
    let more : 0 < length ws = logs.more in
    let end : j.trail ≡ length (i.region ++ ws) = logs.end in
    let past : length i.region < j.trail = omega arith in
    record {
      longer = subst (λ (r : List ℕ). length i.region ≤ length r) (sym logs.region) (omega arith);
      back = ap (cut (length i.region)) (back_go (length i.region) j past) ∙ (ap (at_length (length i.region)) logs.once ∙ (appended_advances i ws h).back);
    }

-- the words at the end of a list
read_end : (r ws : List ℕ) (n k : ℕ) → n ≡ length r + k → slice_index (r ++ ws) n ≡ slice_index ws k
read_end r ws n k e = ap (slice_index (r ++ ws)) e ∙ get_or-append-add r ws k 0

-- what the newest entry says
pub once_by : (j : Image) (e : Entry) (place old : ℕ) → newest j ≡ e → newest_place j ≡ place → newest_old j ≡ old → back_once j ≡ without j e place old
unfolding back_once
once_by j e place old a b c =
    ap (λ f. without j f (newest_place j) (newest_old j)) a ∙ (ap (λ p. without j e p (newest_old j)) b ∙ ap (λ o. without j e place o) c)

-- a table that gets back what it had
undone : (i : Image) (t : Table) (c : Change) (xs r : List ℕ) (k place old : ℕ) → i.trail ≤ k - 1 → taken_back c xs place old ≡ table_in i t
    → without (record (with_table i t xs) { region = r; trail = k }) (record { link = i.trail; table = t; change = c }) place old ≡ record i { region = r }
undone i t c xs r k place old low same =
    let j : Image = record (with_table i t xs) { region = r; trail = k } in
    let at : Image → ℕ → Image = λ v n. record v { region = r; trail = n } in
    let found : table_in j t ≡ xs = table_at (with_table i t xs) t r k ∙ table_with i t xs in
    let m : min i.trail (k - 1) ≡ i.trail = omega arith in
    ap (λ ys. with_table (record j { trail = min i.trail (k - 1) }) t (taken_back c ys place old)) found
    ∙ (ap (λ ys. with_table (record j { trail = min i.trail (k - 1) }) t ys) same
    ∙ (with_back i t xs (table_in i t) r (min i.trail (k - 1)) 0
    ∙ (ap (λ (v : Image). at v (min i.trail (k - 1))) (with_same i t)
    ∙ ap (at i) m)))

-- the end of a region that got an entry
logged_is : (i : Image) (t : Table) (xs ws : List ℕ) → logged (with_table i t xs) ws ≡ record (with_table i t xs) { region = i.region ++ ws; trail = length (i.region ++ ws) }
logged_is i t xs ws = ap (λ r. record (with_table i t xs) { region = r ++ ws; trail = length (r ++ ws) }) (region_with i t xs)

-- the image with an entry, as it is read
abbrev pub ended : Image → Table → List ℕ → List ℕ → Image
ended i t xs ws = record (with_table i t xs) { region = i.region ++ ws; trail = length (i.region ++ ws) }

-- words that say how a table gets back what it had
undone_by : (i : Image) (t : Table) (c : Change) (xs ws : List ℕ) (place old : ℕ) → i.trail ≤ length i.region → 0 < length ws
    → slice_index (i.region ++ ws) (length (i.region ++ ws) - 1) ≡ word_of (record { link = i.trail; table = t; change = c })
    → newest_place (ended i t xs ws) ≡ place → newest_old (ended i t xs ws) ≡ old → taken_back c xs place old ≡ table_in i t
    → Logs i (logged (with_table i t xs) ws) (record { link = i.trail; table = t; change = c }) place ws
undone_by i t c xs ws place old h more a b d same =
    let r : List ℕ = i.region ++ ws in
    let l : length (i.region ++ ws) ≡ length i.region + length ws = length-append i.region ws in
    let low : i.trail ≤ length (i.region ++ ws) - 1 = omega arith in
    let said : Entry = record { link = i.trail; table = t; change = c } in
    let one : newest (ended i t xs ws) ≡ said = ap entry_of a ∙ entry_of-word_of i.trail t c in
    subst (λ (v : Image). Logs i v said place ws) (sym (logged_is i t xs ws)) (record {
      more = more;
      region = refl;
      end = refl;
      entry = one;
      at = b;
      once = once_by (ended i t xs ws) said place old one b d ∙ undone i t c xs r (length r) place old low same;
    })

-- the entry of a word that was pushed
abbrev pub push_word : Image → Table → ℕ
push_word i t = word_of (record { link = i.trail; table = t; change = Change.Pushed })

pub pushed_logs : (i : Image) (t : Table) (w : ℕ) → i.trail ≤ length i.region
    → Logs i (pushed i t w) (record { link = i.trail; table = t; change = Change.Pushed }) (newest_place (ended i t (table_in i t ++ w ∷ []) (push_word i t ∷ []))) (push_word i t ∷ [])
pushed_logs i t w h =
    let e : ℕ = push_word i t in
    let r : List ℕ = i.region in
    let xs : List ℕ = table_in i t in
    let l : length (r ++ e ∷ []) ≡ length r + 1 = length-append r (e ∷ []) in
    let n : length (xs ++ w ∷ []) ≡ length xs + 1 = length-append xs (w ∷ []) in
    undone_by i t Change.Pushed (xs ++ w ∷ []) (e ∷ []) (newest_place (ended i t (xs ++ w ∷ []) (e ∷ []))) (newest_old (ended i t (xs ++ w ∷ []) (e ∷ []))) h (omega arith)
    (read_end r (e ∷ []) (length (r ++ e ∷ []) - 1) 0 (omega arith)) refl refl
    (take_at xs (w ∷ []) (length (xs ++ w ∷ []) - 1) (omega arith))

-- whether what was there is zero
abbrev pub replace_change : ℕ → Change
replace_change zero = Change.Filled
replace_change (suc n) = Change.Replaced

halves : (n : ℕ) → n / 32 * 32 + n % 32 % 32 ≡ n
halves n = omega arith

replaced_by : (i : Image) (t : Table) (place w old : ℕ) → i.trail ≤ length i.region → old ≡ slice_index (table_in i t) place
    → Logs i (logged (with_table i t (slice_set (table_in i t) place w)) (replacing i.trail t place old)) (record { link = i.trail; table = t; change = replace_change old }) place (replacing i.trail t place old)
replaced_by i t place w zero h is =
    let e : ℕ = word_of (record { link = i.trail; table = t; change = Change.Filled }) in
    let d : ℕ = data_of place in
    let r : List ℕ = i.region in
    let xs : List ℕ = slice_set (table_in i t) place w in
    let l : length (r ++ d ∷ e ∷ []) ≡ length r + 2 = length-append r (d ∷ e ∷ []) in
    undone_by i t Change.Filled xs (d ∷ e ∷ []) place (newest_old (ended i t xs (d ∷ e ∷ []))) h (omega arith)
    (read_end r (d ∷ e ∷ []) (length (r ++ d ∷ e ∷ []) - 1) 1 (omega arith))
    (ap value_of (read_end r (d ∷ e ∷ []) (length (r ++ d ∷ e ∷ []) - 2) 0 (omega arith)) ∙ value_of-data_of place) refl
    (set-set (table_in i t) place w 0 ∙ (ap (slice_set (table_in i t) place) is ∙ set-get_or (table_in i t) place 0))
replaced_by i t place w (suc m) h is =
    let e : ℕ = word_of (record { link = i.trail; table = t; change = Change.Replaced }) in
    let d : ℕ = data_of place in
    let a : ℕ = data_of (suc m / 32) in
    let b : ℕ = data_of (suc m % 32) in
    let r : List ℕ = i.region in
    let ws : List ℕ = a ∷ b ∷ d ∷ e ∷ [] in
    let xs : List ℕ = slice_set (table_in i t) place w in
    let l : length (r ++ ws) ≡ length r + 4 = length-append r ws in
    let high : value_of (slice_index (r ++ ws) (length (r ++ ws) - 4)) ≡ suc m / 32 = ap value_of (read_end r ws (length (r ++ ws) - 4) 0 (omega arith)) ∙ value_of-data_of (suc m / 32) in
    let low : value_of (slice_index (r ++ ws) (length (r ++ ws) - 3)) ≡ suc m % 32 = ap value_of (read_end r ws (length (r ++ ws) - 3) 1 (omega arith)) ∙ value_of-data_of (suc m % 32) in
    undone_by i t Change.Replaced xs ws place (suc m) h (omega arith)
    (read_end r ws (length (r ++ ws) - 1) 3 (omega arith))
    (ap value_of (read_end r ws (length (r ++ ws) - 2) 2 (omega arith)) ∙ value_of-data_of place)
    (ap (λ v. v * 32 + value_of (slice_index (r ++ ws) (length (r ++ ws) - 3)) % 32) high ∙ (ap (λ v. suc m / 32 * 32 + v % 32) low ∙ halves (suc m)))
    (set-set (table_in i t) place w (suc m) ∙ (ap (slice_set (table_in i t) place) is ∙ set-get_or (table_in i t) place 0))

pub replaced_logs : (i : Image) (t : Table) (place w : ℕ) → i.trail ≤ length i.region
    → Logs i (replaced i t place w) (record { link = i.trail; table = t; change = replace_change (slice_index (table_in i t) place) }) place (replacing i.trail t place (slice_index (table_in i t) place))
replaced_logs i t place w h = replaced_by i t place w (slice_index (table_in i t) place) h refl

pub replaced_advances : (i : Image) (t : Table) (place w : ℕ) → i.trail ≤ length i.region → Advances i (replaced i t place w)
replaced_advances i t place w h = let l = replaced_logs i t place w h in logs_advance i (replaced i t place w) _ place _ h l

pub pushed_advances : (i : Image) (t : Table) (w : ℕ) → i.trail ≤ length i.region → Advances i (pushed i t w)
pushed_advances i t w h = let l = pushed_logs i t w h in logs_advance i (pushed i t w) _ _ _ h l

-- the entry may be written before the table is changed
replaced_after : (i : Image) (t : Table) (place w : ℕ) (ws : List ℕ)
    → with_table (logged i ws) t (slice_set (table_in (logged i ws) t) place w) ≡ logged (with_table i t (slice_set (table_in i t) place w)) ws
replaced_after i t place w ws =
    let r : List ℕ = i.region ++ ws in
    ap (λ xs. with_table (logged i ws) t (slice_set xs place w)) (table_at i t r (length r))
    ∙ (with_at i t (slice_set (table_in i t) place w) r (length r) ∙ sym (logged_is i t (slice_set (table_in i t) place w) ws))

pub replaced_is : (i j n : Image) (t : Table) (place w old : ℕ) → old ≡ slice_index (table_in i t) place → j ≡ logged i (replacing i.trail t place old)
    → n ≡ with_table j t (slice_set (table_in j t) place w) → n ≡ replaced i t place w
replaced_is i j n t place w old was logs is =
    let entry : ℕ → Image = λ o. logged i (replacing i.trail t place o) in
    let log : j ≡ entry (slice_index (table_in i t) place) = logs ∙ ap entry was in
    is ∙ (ap (λ v. with_table v t (slice_set (table_in v t) place w)) log ∙ replaced_after i t place w (replacing i.trail t place (slice_index (table_in i t) place)))

-- what takes the newest entry's change back, read word by word
pub took : (i n : Image) (e : Entry) (c : Change) (a1 a2 w w2 place old k : ℕ)
    → a1 ≡ i.trail - 1 → a2 ≡ i.trail - 2 → w ≡ slice_index i.region a1 → e ≡ entry_of w → w2 ≡ slice_index i.region a2 → place ≡ value_of w2
    → ((xs : List ℕ) → taken_back c xs place old ≡ taken_back c xs place (newest_old i)) → k ≡ min e.link a1 → e.change ≡ c
    → n ≡ with_table (record i { trail = k }) e.table (taken_back c (table_in (record i { trail = k }) e.table) place old)
    → n ≡ back_once i
took i n e c a1 a2 w w2 place old k p1 p2 word entry word2 is_place is_old link change is =
    let low : k ≡ min e.link (i.trail - 1) = link ∙ ap (min e.link) p1 in
    let at : ℕ → Image = λ m. record i { trail = m } in
    let tables : n ≡ with_table (at k) e.table (taken_back c (table_in i e.table) place old) = is ∙ ap (λ xs. with_table (at k) e.table (taken_back c xs place old)) (table_at i e.table i.region k) in
    let olds : n ≡ with_table (at k) e.table (taken_back c (table_in i e.table) place (newest_old i)) = tables ∙ ap (with_table (at k) e.table) (is_old (table_in i e.table)) in
    let changed : n ≡ with_table (at k) e.table (taken_back e.change (table_in i e.table) place (newest_old i)) = olds ∙ ap (λ d. with_table (at k) e.table (taken_back d (table_in i e.table) place (newest_old i))) (sym change) in
    let lower : n ≡ without i e place (newest_old i) = changed ∙ ap (λ m. with_table (at m) e.table (taken_back e.change (table_in i e.table) place (newest_old i))) low in
    let r : List ℕ = i.region in
    let said : newest i ≡ e = ap (λ a. entry_of (slice_index r a)) (sym p1) ∙ (ap entry_of (sym word) ∙ sym entry) in
    let put : newest_place i ≡ place = ap (λ a. value_of (slice_index r a)) (sym p2) ∙ (ap value_of (sym word2) ∙ sym is_place) in
    lower ∙ sym (once_by i e place (newest_old i) said put refl)
