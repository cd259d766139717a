-- What keeps the words of a region right.
use Rattle.std.proofs.Common.{◌≡◌, ℕ, zero, suc, ◌+◌, ◌-◌, ◌<◌, ◌≤◌, ⊎_elim, min, List, [], ◌∷◌, ◌++◌, length, take, slice_index, Some, refl, ap, sym, subst, ◌∙◌, arith, length-append}
use Rattle.std.proofs.lemmas.Bool.{cases_lt}
use Rattle.std.proofs.lemmas.List.{append-nil, get_or-take, get_or-append-add, length-take-le}
use Rattle.pi_terms.specs.Tree.{Tree}
use Rattle.pi_region.specs.Entry.{data_of}
use Rattle.pi_region.specs.Image.{Image, appended, pushed, replacing, replaced, table_in}
use Rattle.pi_region.specs.Back.{at_length, Advances}
use Rattle.pi_region.specs.declared.entry.Table.{Table}
use Rattle.pi_region.specs.declared.entry.Entry.{Entry}
use Rattle.pi_region.proofs.BackLemmas.{back_stop, len_back}
use Rattle.pi_region.proofs.ChangeLemmas.{Logs, logs_advance, appended_advances, pushed_logs, replaced_logs}
use Rattle.pi_store_blocks.specs.declared.form.Form.{Form}
use Rattle.pi_store_blocks.specs.declared.header.Header.{Header}
use Rattle.pi_store_blocks.specs.Form.{form_of, header_of}
use Rattle.pi_store_blocks.specs.Heap.{Heap, Names, term_at}
use Rattle.pi_store_blocks.specs.Placed.{IsRefIn, IsHeaderIn, IsWordOf, IsWordIn}
use Rattle.pi_store_blocks.proofs.PlacedLemmas.{refs_have_trees}
use Rattle.pi_store_blocks.proofs.RefLemmas.{trees_are_refs}
use Rattle.pi_store_blocks.proofs.WriteLemmas.{data_word, writes_by}
use Rattle.pi_store_blocks.specs.Past.{NamesAt, heap_at, past_of}
use Rattle.pi_store_blocks.specs.Right.{IsRight, RightIsHistory, RightRefsHaveTrees, RightTreesAreRefs, RightByUndo, RightByWrites, RightByWord, RightByPush, RightByReplace, RightByNames}
use Rattle.pi_store_blocks.proofs.PastLemmas.{words_then, now_is, trail_within, before, word_before, past_then, heaps_grow, advances_past}

-- Heaps that there were

pub is_history : RightIsHistory
is_history names i stay r = record {
  front = λ n le. words_then n i;
  grows = λ m n le within. heaps_grow names (at_length m i) (at_length n i) stay (advances_past i m n le within);
  written = r.written;
}

present : (names : NamesAt) (i : Image) → IsRight names i → past_of names i (length i.region) ≡ heap_at names i
present names i r = ap (heap_at names) (now_is i r.trail)

pub have_trees : RightRefsHaveTrees
have_trees names i stay r q is =
    let same : past_of names i (length i.region) ≡ heap_at names i = present names i r in
    let P : Heap → Type 0 = λ h. IsRefIn h (form_of q) → (t : Tree) × (term_at h q ≡ Some t) in
    subst P same (refs_have_trees (past_of names i) i.region (is_history names i stay r) (length i.region) (omega arith) q) is

pub are_refs : RightTreesAreRefs
are_refs names i stay r q t is =
    let same : past_of names i (length i.region) ≡ heap_at names i = present names i r in
    let P : Heap → Type 0 = λ h. term_at h q ≡ Some t → IsRefIn h (form_of q) in
    subst P same (trees_are_refs (past_of names i) i.region (is_history names i stay r) (length i.region) (omega arith) q t) is

-- A word stays right where there are more names and variables

abbrev heap_of : Names → ℕ → List ℕ → Heap
heap_of ns next ws = record { names = ns; next = next; words = ws }

abbrev More : Names → Names → Type 0
More ns ms = (k : ℕ) (text : List ℕ) → ns k ≡ Some text → ms k ≡ Some text

header_more : (ns ms : Names) (a b : ℕ) (ws : List ℕ) → More ns ms → a ≤ b → (header : Header) → IsHeaderIn (heap_of ns a ws) header → IsHeaderIn (heap_of ms b ws) header
header_more ns ms a b ws more le Header.Nothing is = tt
header_more ns ms a b ws more le (Header.Comp name count flag) is = record { named = (is.named.0, more name is.named.0 is.named.1); within = is.within; refs = is.refs; flag = is.flag }
header_more ns ms a b ws more le (Header.Wide top) is = is

form_more : (ns ms : Names) (a b : ℕ) (ws : List ℕ) → More ns ms → a ≤ b → (w : ℕ) (f : Form) → IsWordOf (heap_of ns a ws) w f → IsWordOf (heap_of ms b ws) w f
form_more ns ms a b ws more le w (Form.Var n) is = let lt : n < a = is in omega arith
form_more ns ms a b ws more le w (Form.Int n) is = tt
form_more ns ms a b ws more le w (Form.Atom k) is = (is.0, more k is.0 is.1)
form_more ns ms a b ws more le w (Form.Pair place flag) is = ((is.0.0, more 0 is.0.0 is.0.1), is.1)
form_more ns ms a b ws more le w (Form.Comp place flag) is = is
form_more ns ms a b ws more le w (Form.Data n) is = header_more ns ms a b ws more le (header_of w) is

word_more : (ns ms : Names) (a b : ℕ) (ws : List ℕ) → More ns ms → a ≤ b → (w : ℕ) → IsWordIn (heap_of ns a ws) w → IsWordIn (heap_of ms b ws) w
word_more ns ms a b ws more le w is = form_more ns ms a b ws more le w (form_of w) is

-- What keeps words right

pub by_undo : RightByUndo
by_undo names i r n =
    let l : length (at_length n i).region ≡ min n (length i.region) = len_back n i in
    record {
      trail = trail_within n i r.trail;
      written = λ m lt.
          let le : m ≤ n = omega arith in
          let word : slice_index (at_length n i).region m ≡ slice_index i.region m = ap (λ ws. slice_index ws m) (words_then n i) ∙ get_or-take n i.region m 0 (omega arith) in
          subst (λ (h : Heap). IsWordIn h (slice_index (at_length n i).region m)) (sym (past_then names i m n le))
          (subst (λ (w : ℕ). IsWordIn (past_of names i m) w) (sym word) (r.written m (omega arith)));
    }

-- words behind those that there were
by_more : (names : NamesAt) (i j : Image) → IsRight names i → Advances i j → j.trail ≤ length j.region
    → ((n : ℕ) → length i.region ≤ n → n < length j.region → IsWordIn (past_of names j n) (slice_index j.region n)) → IsRight names j
by_more names i j r a low more = record {
  trail = low;
  written = λ n lt. ⊎_elim
      (λ small. subst (λ (h : Heap). IsWordIn h (slice_index j.region n)) (sym (ap (heap_at names) (before i j n a (omega arith))))
      (subst (λ (w : ℕ). IsWordIn (past_of names i n) w) (sym (word_before i j n a small)) (r.written n small)))
      (λ large. more n large lt)
      (cases_lt n (length i.region));
}

pub by_writes : RightByWrites
by_writes names i ws stay r writes =
    let j : Image = appended i ws in
    let l : length (i.region ++ ws) ≡ length i.region + length ws = length-append i.region ws in
    let low : i.trail ≤ length i.region = r.trail in
    by_more names i j r (appended_advances i ws low) (omega arith) (λ n large lt.
    let cut : at_length n j ≡ record i { region = take n (i.region ++ ws) } = ap (λ (k : Image). record k { region = take n k.region }) (back_stop n j (omega arith)) in
    let long : length (take n (i.region ++ ws)) ≡ n = length-take-le n (i.region ++ ws) (omega arith) in
    subst (λ (h : Heap). IsWordIn h (slice_index (i.region ++ ws) n)) (sym (ap (heap_at names) cut))
    (word_more (names (length i.region)) (names (length (take n (i.region ++ ws)))) (length i.variables) (length i.variables) (take n (i.region ++ ws))
    (λ k text e. stay (length i.region) (length (take n (i.region ++ ws))) k text (omega arith) e) (omega arith) (slice_index (i.region ++ ws) n) (writes n large lt)))

pub by_word : RightByWord
by_word names i w stay r is = by_writes names i (w ∷ []) stay r (writes_by (heap_at names i) (i.region ++ w ∷ []) (w ∷ []) refl each)
  where
    none : i.region ++ [] ≡ i.region
    none = append-nil i.region

    each : (k : ℕ) → k < 1 → IsWordIn (record (heap_at names i) { words = i.region ++ take k (w ∷ []) }) (slice_index (w ∷ []) k)
    each zero lt = subst (λ (ws : List ℕ). IsWordIn (record (heap_at names i) { words = ws }) w) (sym none) is
    each (suc k) lt = absurd (omega arith)

-- words that say nothing
abbrev AreData : List ℕ → Type 0
AreData ws = (k : ℕ) → k < length ws → (n : ℕ) × (slice_index ws k ≡ data_of n)

by_logs : (names : NamesAt) (i j : Image) (e : Entry) (place : ℕ) (ws : List ℕ) → IsRight names i → Logs i j e place ws → AreData ws → IsRight names j
by_logs names i j e place ws r logs data_words =
    let l : length (i.region ++ ws) ≡ length i.region + length ws = length-append i.region ws in
    let long : length j.region ≡ length (i.region ++ ws) = ap length logs.region in
    let end : j.trail ≡ length (i.region ++ ws) = logs.end in
    by_more names i j r (logs_advance i j e place ws r.trail logs) (omega arith) (λ n large lt.
    let k : ℕ = n - length i.region in
    let at : n ≡ length i.region + (n - length i.region) = omega arith in
    let d = data_words k (omega arith) in
    let word : slice_index j.region n ≡ data_of d.0 = ap (λ vs. slice_index vs n) logs.region ∙ (ap (slice_index (i.region ++ ws)) at ∙ (get_or-append-add i.region ws k 0 ∙ d.1)) in
    subst (λ (w : ℕ). IsWordIn (past_of names j n) w) (sym word) (data_word (past_of names j n) d.0))

one_data : (n : ℕ) → AreData (data_of n ∷ [])
one_data n zero lt = (n, refl)
one_data n (suc k) lt = absurd (omega arith)

replacing_data : (link : ℕ) (t : Table) (place old : ℕ) → AreData (replacing link t place old)
replacing_data link t place zero zero lt = (_, refl)
replacing_data link t place zero (suc zero) lt = (_, refl)
replacing_data link t place zero (suc (suc k)) lt = absurd (omega arith)
replacing_data link t place (suc old) zero lt = (_, refl)
replacing_data link t place (suc old) (suc zero) lt = (_, refl)
replacing_data link t place (suc old) (suc (suc zero)) lt = (_, refl)
replacing_data link t place (suc old) (suc (suc (suc zero))) lt = (_, refl)
replacing_data link t place (suc old) (suc (suc (suc (suc k)))) lt = absurd (omega arith)

pub by_push : RightByPush
by_push names i t w r = by_logs names i (pushed i t w) _ _ _ r (pushed_logs i t w r.trail) (one_data _)

pub by_replace : RightByReplace
by_replace names i t place w r = by_logs names i (replaced i t place w) _ _ _ r (replaced_logs i t place w r.trail) (replacing_data i.trail t place (slice_index (table_in i t) place))

pub by_names : RightByNames
by_names old new i more r = record {
  trail = r.trail;
  written = λ n lt.
      let l : length (at_length n i).region ≡ min n (length i.region) = len_back n i in
      word_more (old (length (at_length n i).region)) (new (length (at_length n i).region)) (length (at_length n i).variables) (length (at_length n i).variables) (at_length n i).region
      (λ k text e. more (length (at_length n i).region) k text (omega arith) e) (omega arith) (slice_index i.region n) (r.written n lt);
}
