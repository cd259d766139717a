-- Since when a variable has its word: more words, and entries about others, leave it.
use Rattle.std.proofs.Common.{◌≡◌, ◌≢◌, ℕ, zero, suc, ◌+◌, ◌-◌, ◌<◌, ◌≤◌, ◌⊎◌, inl, inr, ⊎_elim, Bool, true, false, ◌&&◌, cond, List, ◌++◌, length, slice_index, refl, ap, sym, subst, ◌∙◌, arith, length-append}
use Rattle.std.specs.Prelude.{◌==◌}
use Rattle.std.proofs.lemmas.Bool.{cond-true, cond-false, cases_Bool, ne_eqb, eq-eqb, and_right}
use Rattle.std.proofs.lemmas.List.{take_at}
use Rattle.pi_region.specs.Image.{Image, appended, pushed, replacing, replaced}
use Rattle.pi_region.specs.Back.{newest, newest_place, back_once, cut}
use Rattle.pi_region.specs.Since.{is_variables, is_set, is_about, since_for, since}
use Rattle.pi_region.specs.declared.entry.Table.{Table}
use Rattle.pi_region.specs.declared.entry.Entry.{Entry}
use Rattle.pi_region.proofs.BackLemmas.{trail_once, newest_cut, place_cut, once_cut}
use Rattle.pi_region.proofs.ChangeLemmas.{Logs, pushed_logs, replaced_logs, replace_change}

-- whether the newest entry is about a variable
abbrev pub newest_about : ℕ → Image → Bool
newest_about n i = is_about n (newest i) (newest_place i)

-- without an entry there is none about it
none_for : (k n : ℕ) (i : Image) → i.trail ≡ 0 → since_for k n i ≡ 0
unfolding since_for
none_for zero n i h = refl
none_for (suc k) n i h =
    let fewer : (back_once i).trail ≤ i.trail - 1 = trail_once i in
    let c : (back_once i).trail ≡ 0 = omega arith in
    ⊎_elim
    (λ e. cond-true (newest_about n i) i.trail (since_for k n (back_once i)) e ∙ h)
    (λ e. cond-false (newest_about n i) i.trail (since_for k n (back_once i)) e ∙ none_for k n (back_once i) c)
    (cases_Bool (newest_about n i))

-- more steps than there are words change nothing
enough : (k m n : ℕ) (i : Image) → i.trail ≤ k → i.trail ≤ m → since_for k n i ≡ since_for m n i
unfolding since_for
enough zero m n i a b = let z : i.trail ≡ 0 = omega arith in sym (none_for m n i z)
enough (suc k) zero n i a b = let z : i.trail ≡ 0 = omega arith in none_for (suc k) n i z
enough (suc k) (suc m) n i a b =
    let fewer : (back_once i).trail ≤ i.trail - 1 = trail_once i in
    let c : (back_once i).trail ≤ k = omega arith in
    let d : (back_once i).trail ≤ m = omega arith in
    ap (cond (newest_about n i) i.trail) (enough k m n (back_once i) c d)

since_step : (n : ℕ) (i : Image) → 0 < i.trail → since n i ≡ cond (newest_about n i) i.trail (since n (back_once i))
unfolding since_for
since_step n i h =
    let fewer : (back_once i).trail ≤ i.trail - 1 = trail_once i in
    let le : i.trail ≤ i.trail = omega arith in
    let a : i.trail ≤ suc (i.trail - 1) = omega arith in
    let b : (back_once i).trail ≤ (back_once i).trail = omega arith in
    enough i.trail (suc (i.trail - 1)) n i le a ∙ ap (cond (newest_about n i) i.trail) (enough (i.trail - 1) (back_once i).trail n (back_once i) fewer b)

pub since_here : (n : ℕ) (i : Image) → 0 < i.trail → newest_about n i ≡ true → since n i ≡ i.trail
since_here n i h e = since_step n i h ∙ cond-true (newest_about n i) i.trail (since n (back_once i)) e

pub since_before : (n : ℕ) (i : Image) → 0 < i.trail → newest_about n i ≡ false → since n i ≡ since n (back_once i)
since_before n i h e = since_step n i h ∙ cond-false (newest_about n i) i.trail (since n (back_once i)) e

le_for : (k n : ℕ) (i : Image) → since_for k n i ≤ i.trail
unfolding since_for
le_for zero n i = omega arith
le_for (suc k) n i =
    let fewer : (back_once i).trail ≤ i.trail - 1 = trail_once i in
    let rest : since_for k n (back_once i) ≤ (back_once i).trail = le_for k n (back_once i) in
    let le : i.trail ≤ i.trail = omega arith in
    let P : ℕ → Type 0 = λ v. v ≤ i.trail in
    ⊎_elim
    (λ e. subst P (sym (cond-true (newest_about n i) i.trail (since_for k n (back_once i)) e)) le)
    (λ e. subst P (sym (cond-false (newest_about n i) i.trail (since_for k n (back_once i)) e)) (omega arith))
    (cases_Bool (newest_about n i))

pub since_le : (n : ℕ) (i : Image) → since n i ≤ i.trail
since_le n i = le_for i.trail n i

about_cut : (m n : ℕ) (i : Image) → 0 < i.trail → i.trail ≤ m → newest_about n (cut m i) ≡ newest_about n i
about_cut m n i a h = ap (λ e. is_about n e (newest_place (cut m i))) (newest_cut m i a h) ∙ ap (is_about n (newest i)) (place_cut m i a h)

positive : (n : ℕ) → (n ≡ 0) ⊎ (0 < n)
positive zero = inl refl
positive (suc n) = inr (omega arith)

cut_for : (k m n : ℕ) (i : Image) → i.trail ≤ k → i.trail ≤ m → since n (cut m i) ≡ since n i
cut_for zero m n i h l = let z : i.trail ≡ 0 = omega arith in none_for (cut m i).trail n (cut m i) z ∙ sym (none_for i.trail n i z)
cut_for (suc k) m n i h l = ⊎_elim
    (λ z. none_for (cut m i).trail n (cut m i) z ∙ sym (none_for i.trail n i z))
    (λ g. let fewer : (back_once i).trail ≤ i.trail - 1 = trail_once i in
    let c : (back_once i).trail ≤ k = omega arith in
    let d : (back_once i).trail ≤ m = omega arith in
    since_step n (cut m i) g
    ∙ (ap (λ b. cond b i.trail (since n (back_once (cut m i)))) (about_cut m n i g l)
    ∙ (ap (λ j. cond (newest_about n i) i.trail (since n j)) (once_cut m i g l)
    ∙ (ap (cond (newest_about n i) i.trail) (cut_for k m n (back_once i) c d)
    ∙ sym (since_step n i g)))))
    (positive i.trail)

pub since_cut : (m n : ℕ) (i : Image) → i.trail ≤ m → since n (cut m i) ≡ since n i
since_cut m n i h = cut_for i.trail m n i (omega arith) h

pub since_appended : (n : ℕ) (i : Image) (ws : List ℕ) → i.trail ≤ length i.region → since n (appended i ws) ≡ since n i
since_appended n i ws h =
    sym (since_cut (length i.region) n (appended i ws) h) ∙ ap (λ r. since n (record i { region = r })) (take_at i.region ws (length i.region) refl)

-- an entry about another place or table leaves it
by_log : (n : ℕ) (i j : Image) (e : Entry) (place : ℕ) (ws : List ℕ) → i.trail ≤ length i.region → Logs i j e place ws → is_about n e place ≡ false → since n j ≡ since n i
by_log n i j e place ws h logs other =
    let l : length (i.region ++ ws) ≡ length i.region + length ws = length-append i.region ws in
    let more : 0 < length ws = logs.more in
    let end : j.trail ≡ length (i.region ++ ws) = logs.end in
    let past : 0 < j.trail = omega arith in
    let about : newest_about n j ≡ false = ap (λ f. is_about n f (newest_place j)) logs.entry ∙ (ap (is_about n e) logs.at ∙ other) in
    since_before n j past about ∙ (ap (since n) logs.once ∙ since_appended n i ws h)

pub since_pushed : (n : ℕ) (i : Image) (t : Table) (w : ℕ) → i.trail ≤ length i.region → since n (pushed i t w) ≡ since n i
since_pushed n i t w h = by_log n i (pushed i t w) _ _ _ h (pushed_logs i t w h) (and_right (is_variables t) false refl)

pub since_other : (n : ℕ) (i : Image) (place w : ℕ) → i.trail ≤ length i.region → n ≢ place → since n (replaced i Table.Variables place w) ≡ since n i
since_other n i place w h ne =
    let logs = replaced_logs i Table.Variables place w h in
    let other : (n == place) ≡ false = ne_eqb n place ne in
    by_log n i (replaced i Table.Variables place w) _ place _ h logs (and_right (is_set (replace_change (slice_index i.variables place))) (n == place) other)

set_change : (old : ℕ) → is_set (replace_change old) ≡ true
set_change zero = refl
set_change (suc n) = refl

pub since_replaced : (i : Image) (place w : ℕ) → i.trail ≤ length i.region → since place (replaced i Table.Variables place w) ≡ length (replaced i Table.Variables place w).region
since_replaced i place w h =
    let j : Image = replaced i Table.Variables place w in
    let logs = replaced_logs i Table.Variables place w h in
    let ws : List ℕ = replacing i.trail Table.Variables place (slice_index i.variables place) in
    let l : length (i.region ++ ws) ≡ length i.region + length ws = length-append i.region ws in
    let more : 0 < length ws = logs.more in
    let end : j.trail ≡ length (i.region ++ ws) = logs.end in
    let past : 0 < j.trail = omega arith in
    let about : newest_about place j ≡ true =
    ap (λ f. is_about place f (newest_place j)) logs.entry
    ∙ (ap (is_about place (record { link = i.trail; table = Table.Variables; change = replace_change (slice_index i.variables place) })) logs.at
    ∙ (ap (λ b. b && (place == place)) (set_change (slice_index i.variables place)) ∙ eq-eqb place place refl)) in
    since_here place j past about
