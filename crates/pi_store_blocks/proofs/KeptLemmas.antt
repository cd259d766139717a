-- What keeps the words of a table such as they are.
use Rattle.std.proofs.Common.{◌≡◌, ◌≢◌, ◌⊎◌, inl, inr, ℕ, zero, suc, ◌-◌, ◌<◌, ◌≤◌, ⊎_elim, List, [], ◌∷◌, ◌++◌, length, take, slice_index, slice_set, refl, ap, sym, subst, ◌∙◌, arith}
use Rattle.std.proofs.lemmas.Bool.{cases_lt}
use Rattle.std.proofs.lemmas.List.{append-nil}
use Rattle.pi_region.specs.Image.{Image, appended, logged, pushed, replacing, replaced, table_in, with_table}
use Rattle.pi_region.specs.Back.{cut, at_length, Advances}
use Rattle.pi_region.specs.declared.entry.Table.{Table}
use Rattle.pi_region.specs.declared.entry.Entry.{Entry}
use Rattle.pi_region.proofs.BackLemmas.{back_go, two_parts, len_back}
use Rattle.pi_region.proofs.TableLemmas.{table_with}
use Rattle.pi_region.proofs.ChangeLemmas.{Logs, push_word, logs_advance, appended_advances, pushed_advances, replaced_advances, pushed_logs, replaced_logs}
use Rattle.pi_store_blocks.specs.Heap.{Heap, Grows}
use Rattle.pi_store_blocks.specs.Past.{NamesAt, NamesStay, heap_at, past_of}
use Rattle.pi_store_blocks.specs.Right.{HasMoreNames}
use Rattle.pi_store_blocks.specs.Kept.{AreKept, Stays}
use Rattle.pi_store_blocks.proofs.PastLemmas.{now_is, past_end, trail_within, before, heaps_grow, then_appended}

-- Tables by themselves

table_logged : (i : Image) (ws : List ℕ) (t : Table) → table_in (logged i ws) t ≡ table_in i t
table_logged i ws Table.Variables = refl
table_logged i ws Table.Constraints = refl
table_logged i ws Table.Agents = refl
table_logged i ws Table.Waiting = refl
table_logged i ws Table.Heads = refl

table_appended : (i : Image) (ws : List ℕ) (t : Table) → table_in (appended i ws) t ≡ table_in i t
table_appended i ws Table.Variables = refl
table_appended i ws Table.Constraints = refl
table_appended i ws Table.Agents = refl
table_appended i ws Table.Waiting = refl
table_appended i ws Table.Heads = refl

-- another table is another one
other_with : (i : Image) (t u : Table) (xs : List ℕ) → u ≢ t → table_in (with_table i u xs) t ≡ table_in i t
other_with i Table.Variables Table.Variables xs ne = absurd (ne refl)
other_with i Table.Variables Table.Constraints xs ne = refl
other_with i Table.Variables Table.Agents xs ne = refl
other_with i Table.Variables Table.Waiting xs ne = refl
other_with i Table.Variables Table.Heads xs ne = refl
other_with i Table.Constraints Table.Variables xs ne = refl
other_with i Table.Constraints Table.Constraints xs ne = absurd (ne refl)
other_with i Table.Constraints Table.Agents xs ne = refl
other_with i Table.Constraints Table.Waiting xs ne = refl
other_with i Table.Constraints Table.Heads xs ne = refl
other_with i Table.Agents Table.Variables xs ne = refl
other_with i Table.Agents Table.Constraints xs ne = refl
other_with i Table.Agents Table.Agents xs ne = absurd (ne refl)
other_with i Table.Agents Table.Waiting xs ne = refl
other_with i Table.Agents Table.Heads xs ne = refl
other_with i Table.Waiting Table.Variables xs ne = refl
other_with i Table.Waiting Table.Constraints xs ne = refl
other_with i Table.Waiting Table.Agents xs ne = refl
other_with i Table.Waiting Table.Waiting xs ne = absurd (ne refl)
other_with i Table.Waiting Table.Heads xs ne = refl
other_with i Table.Heads Table.Variables xs ne = refl
other_with i Table.Heads Table.Constraints xs ne = refl
other_with i Table.Heads Table.Agents xs ne = refl
other_with i Table.Heads Table.Waiting xs ne = refl
other_with i Table.Heads Table.Heads xs ne = absurd (ne refl)

table_pushed : (i : Image) (t : Table) (w : ℕ) → table_in (pushed i t w) t ≡ table_in i t ++ w ∷ []
table_pushed i t w = table_logged (with_table i t (table_in i t ++ w ∷ [])) (push_word i t ∷ []) t ∙ table_with i t (table_in i t ++ w ∷ [])

table_replaced : (i : Image) (t : Table) (place w : ℕ) → table_in (replaced i t place w) t ≡ slice_set (table_in i t) place w
table_replaced i t place w = table_logged (with_table i t (slice_set (table_in i t) place w)) (replacing i.trail t place (slice_index (table_in i t) place)) t ∙ table_with i t (slice_set (table_in i t) place w)

pushed_other : (i : Image) (t u : Table) (w : ℕ) → u ≢ t → table_in (pushed i u w) t ≡ table_in i t
pushed_other i t u w ne = table_logged (with_table i u (table_in i u ++ w ∷ [])) (push_word i u ∷ []) t ∙ other_with i t u (table_in i u ++ w ∷ []) ne

replaced_other : (i : Image) (t u : Table) (place w : ℕ) → u ≢ t → table_in (replaced i u place w) t ≡ table_in i t
replaced_other i t u place w ne = table_logged (with_table i u (slice_set (table_in i u) place w)) (replacing i.trail u place (slice_index (table_in i u) place)) t ∙ other_with i t u (slice_set (table_in i u) place w) ne

read_push : (vs : List ℕ) (n w : ℕ) → (slice_index (vs ++ w ∷ []) n ≡ slice_index vs n) ⊎ (slice_index (vs ++ w ∷ []) n ≡ w)
read_push [] zero w = inr refl
read_push [] (suc n) w = inl refl
read_push (v ∷ vs) zero w = inl refl
read_push (v ∷ vs) (suc n) w = read_push vs n w

read_set : (vs : List ℕ) (n m w : ℕ) → (slice_index (slice_set vs n w) m ≡ slice_index vs m) ⊎ (slice_index (slice_set vs n w) m ≡ w)
read_set [] n m w = inl refl
read_set (v ∷ vs) zero zero w = inr refl
read_set (v ∷ vs) zero (suc m) w = inl refl
read_set (v ∷ vs) (suc n) zero w = inl refl
read_set (v ∷ vs) (suc n) (suc m) w = read_set vs n m w

abbrev pub Low : Image → Type 0
Low i = i.trail ≤ length i.region

-- at one moment
abbrev Here : (Heap → ℕ → Type 0) → Table → NamesAt → ℕ → Image → Type 0
Here P t names n j = P (heap_at names j) (slice_index (table_in j t) n)

-- more names

pub by_names : (P : Heap → ℕ → Type 0) → Stays P → (t : Table) (old new : NamesAt) (i : Image) → HasMoreNames old new (length i.region) → AreKept P t old i → AreKept P t new i
by_names P stays t old new i more b = record {
  at = λ len n.
      let l = len_back len i in
      stays (past_of old i len) (past_of new i len)
      (record { names = λ k text e. more (length (at_length len i).region) k text (omega arith) e; next = omega arith; words = ([], sym (append-nil (at_length len i).region)) })
      (slice_index (table_in (at_length len i) t) n) (b.at len n);
}

-- changes

module _ (P : Heap → ℕ → Type 0) (stays : Stays P) (t : Table) (names : NamesAt) (i : Image) (low : Low i) (b : AreKept P t names i) where
  pub kept_now : (n : ℕ) → P (heap_at names i) (slice_index (table_in i t) n)
  kept_now n = subst (Here P t names n) (now_is i low) (b.at (length i.region) n)

  -- a return
  pub by_undo : (n : ℕ) → AreKept P t names (at_length n i)
  by_undo n = record {
    at = λ len m. ⊎_elim
        (λ large. let l = len_back n i in
        let within : (at_length n i).trail ≤ length (at_length n i).region = trail_within n i low in
        subst (Here P t names m) (sym (past_end len (at_length n i) (omega arith) (omega arith))) (b.at n m))
        (λ small. subst (Here P t names m) (sym (two_parts len n i small)) (b.at len m))
        (cases_lt n len);
  }

  -- what came later
  pub by_more : (j : Image) → Advances i j → ((len n : ℕ) → length i.region < len → P (past_of names j len) (slice_index (table_in (at_length len j) t) n)) → AreKept P t names j
  by_more j a more = record {
    at = λ len n. ⊎_elim
        (λ late. more len n late)
        (λ early. subst (Here P t names n) (sym (before i j len a early)) (b.at len n))
        (cases_lt (length i.region) len);
  }

  -- a change that leaves the table
  pub same_table : NamesStay names → (j : Image) → Advances i j → table_in j t ≡ table_in i t → (n : ℕ) → P (heap_at names j) (slice_index (table_in j t) n)
  same_table stay j a same n =
      subst (λ (ws : List ℕ). P (heap_at names j) (slice_index ws n)) (sym same)
      (stays (heap_at names i) (heap_at names j) (heaps_grow names i j stay a) (slice_index (table_in i t) n) (kept_now n))

  -- more words leave all tables
  pub kept_then : NamesStay names → (ws : List ℕ) (len n : ℕ) → length i.region ≤ len → P (past_of names (appended i ws) len) (slice_index (table_in (at_length len (appended i ws)) t) n)
  kept_then stay ws len n le =
      let vs : List ℕ = take (len - length i.region) ws in
      subst (Here P t names n) (sym (then_appended i ws len low le)) (same_table stay (appended i vs) (appended_advances i vs low) (table_appended i vs t) n)

  pub by_words : NamesStay names → (ws : List ℕ) → AreKept P t names (appended i ws)
  by_words stay ws = by_more (appended i ws) (appended_advances i ws low) (λ len n late. kept_then stay ws len n (omega arith))

  -- an entry, where the words of the table behind it are such
  pub by_logs : NamesStay names → (j : Image) (e : Entry) (place : ℕ) (ws : List ℕ) → Logs i j e place ws → ((n : ℕ) → P (heap_at names j) (slice_index (table_in j t) n)) → AreKept P t names j
  by_logs stay j e place ws logs now = by_more j (logs_advance i j e place ws low logs) (λ len n late.
      let long : length j.region ≡ length (i.region ++ ws) = ap length logs.region in
      let end : j.trail ≡ length (i.region ++ ws) = logs.end in
      ⊎_elim
      (λ within. subst (Here P t names n) (sym (ap (cut len) (back_go len j within) ∙ ap (at_length len) logs.once)) (kept_then stay ws len n (omega arith)))
      (λ past. subst (Here P t names n) (sym (past_end len j past (omega arith))) (now n))
      (cases_lt len j.trail))

  -- one more word of the table
  pub by_push : NamesStay names → (w : ℕ) → P (heap_at names (pushed i t w)) w → AreKept P t names (pushed i t w)
  by_push stay w is =
      let j : Image = pushed i t w in
      let grows : Grows (heap_at names i) (heap_at names j) = heaps_grow names i j stay (pushed_advances i t w low) in
      by_logs stay j _ _ _ (pushed_logs i t w low) (λ n.
      subst (λ (xs : List ℕ). P (heap_at names j) (slice_index xs n)) (sym (table_pushed i t w))
      (⊎_elim
      (λ e. subst (P (heap_at names j)) (sym e) (stays (heap_at names i) (heap_at names j) grows (slice_index (table_in i t) n) (kept_now n)))
      (λ e. subst (P (heap_at names j)) (sym e) is)
      (read_push (table_in i t) n w)))

  -- another word in its place
  pub by_replace : NamesStay names → (place w : ℕ) → P (heap_at names (replaced i t place w)) w → AreKept P t names (replaced i t place w)
  by_replace stay place w is =
      let j : Image = replaced i t place w in
      let grows : Grows (heap_at names i) (heap_at names j) = heaps_grow names i j stay (replaced_advances i t place w low) in
      by_logs stay j _ _ _ (replaced_logs i t place w low) (λ n.
      subst (λ (xs : List ℕ). P (heap_at names j) (slice_index xs n)) (sym (table_replaced i t place w))
      (⊎_elim
      (λ e. subst (P (heap_at names j)) (sym e) (stays (heap_at names i) (heap_at names j) grows (slice_index (table_in i t) n) (kept_now n)))
      (λ e. subst (P (heap_at names j)) (sym e) is)
      (read_set (table_in i t) place n w)))

  -- a change of another table
  pub by_other_push : NamesStay names → (u : Table) (w : ℕ) → u ≢ t → AreKept P t names (pushed i u w)
  by_other_push stay u w ne = by_logs stay (pushed i u w) _ _ _ (pushed_logs i u w low) (same_table stay (pushed i u w) (pushed_advances i u w low) (pushed_other i t u w ne))

  pub by_other_replace : NamesStay names → (u : Table) (place w : ℕ) → u ≢ t → AreKept P t names (replaced i u place w)
  by_other_replace stay u place w ne =
      by_logs stay (replaced i u place w) _ _ _ (replaced_logs i u place w low) (same_table stay (replaced i u place w) (replaced_advances i u place w low) (replaced_other i t u place w ne))
