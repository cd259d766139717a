-- What keeps something that is so at each length that the region had, where it is so behind more words.
use Rattle.std.proofs.Common.{◌≡◌, ℕ, ◌<◌, ◌≤◌, ⊎_elim, List, ◌++◌, length, ap, sym, subst, ◌∙◌, arith}
use Rattle.std.proofs.lemmas.Bool.{cases_lt}
use Rattle.pi_region.specs.Image.{Image, appended, pushed, replaced}
use Rattle.pi_region.specs.Back.{cut, at_length, Advances}
use Rattle.pi_region.specs.declared.entry.Table.{Table}
use Rattle.pi_region.specs.declared.entry.Entry.{Entry}
use Rattle.pi_region.proofs.BackLemmas.{back_go, two_parts, len_back}
use Rattle.pi_region.proofs.ChangeLemmas.{Logs, logs_advance, appended_advances, pushed_logs, replaced_logs}
use Rattle.pi_store_blocks.proofs.PastLemmas.{now_is, past_end, trail_within, before, then_appended}
use Rattle.pi_store.specs.Sound.{AtEach}

module _ (Q : Image → Type 0) (i : Image) (low : i.trail ≤ length i.region) (b : AtEach Q i) where
  pub now : Q i
  now = subst Q (now_is i low) (b (length i.region))

  pub by_undo : (n : ℕ) → AtEach Q (at_length n i)
  by_undo n = λ len. ⊎_elim
      (λ large. let l = len_back n i in
      let within : (at_length n i).trail ≤ length (at_length n i).region = trail_within n i low in
      subst Q (sym (past_end len (at_length n i) (omega arith) (omega arith))) (b n))
      (λ small. subst Q (sym (two_parts len n i small)) (b len))
      (cases_lt n len)

  by_more : (j : Image) → Advances i j → ((len : ℕ) → length i.region < len → Q (at_length len j)) → AtEach Q j
  by_more j a more = λ len. ⊎_elim
      (λ late. more len late)
      (λ early. subst Q (sym (before i j len a early)) (b len))
      (cases_lt (length i.region) len)

  then_words : ((ws : List ℕ) → Q (appended i ws)) → (ws : List ℕ) (len : ℕ) → length i.region ≤ len → Q (at_length len (appended i ws))
  then_words more ws len le = subst Q (sym (then_appended i ws len low le)) (more _)

  pub by_words : ((ws : List ℕ) → Q (appended i ws)) → (ws : List ℕ) → AtEach Q (appended i ws)
  by_words more ws = by_more (appended i ws) (appended_advances i ws low) (λ len late. then_words more ws len (omega arith))

  by_logs : ((ws : List ℕ) → Q (appended i ws)) → (j : Image) (e : Entry) (place : ℕ) (ws : List ℕ) → Logs i j e place ws → Q j → AtEach Q j
  by_logs more j e place ws logs here = by_more j (logs_advance i j e place ws low logs) (λ len late.
      let long : length j.region ≡ length (i.region ++ ws) = ap length logs.region in
      let end : j.trail ≡ length (i.region ++ ws) = logs.end in
      ⊎_elim
      (λ within. subst Q (sym (ap (cut len) (back_go len j within) ∙ ap (at_length len) logs.once)) (then_words more ws len (omega arith)))
      (λ past. subst Q (sym (past_end len j past (omega arith))) here)
      (cases_lt len j.trail))

  pub by_push : ((ws : List ℕ) → Q (appended i ws)) → (t : Table) (w : ℕ) → Q (pushed i t w) → AtEach Q (pushed i t w)
  by_push more t w here = by_logs more (pushed i t w) _ _ _ (pushed_logs i t w low) here

  pub by_replace : ((ws : List ℕ) → Q (appended i ws)) → (t : Table) (place w : ℕ) → Q (replaced i t place w) → AtEach Q (replaced i t place w)
  by_replace more t place w here = by_logs more (replaced i t place w) _ _ _ (replaced_logs i t place w low) here
