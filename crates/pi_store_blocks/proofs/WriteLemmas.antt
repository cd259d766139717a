-- What is written for a term is right behind the words before it.
use Rattle.std.proofs.Common.{◌≡◌, ℕ, zero, suc, ◌+◌, ◌-◌, ◌/◌, ◌%◌, ◌^◌, ◌<◌, ◌≤◌, ◌⊎◌, inl, inr, ⊎_elim, Bool, true, List, [], ◌∷◌, ◌++◌, length, take, drop, refl, ap, sym, subst, ◌∙◌, arith}
use Rattle.std.specs.Prelude.{slice_index}
use Rattle.std.proofs.Math.Seq.{take-append-add}
use Rattle.std.proofs.lemmas.Bool.{cases_lt}
use Rattle.std.proofs.lemmas.List.{take_at, take_all, drop_at, get_or-append-add, get_or_append_left, get_or_at, length-append, length-map}
use Rattle.pi_constraints.specs.declared.store.Ref.{Ref}
use Rattle.pi_region.specs.Entry.{data_of}
use Rattle.pi_region.specs.Image.{numbers_of}
use Rattle.pi_store_blocks.specs.declared.form.Form.{Form}
use Rattle.pi_store_blocks.specs.declared.header.Header.{Header}
use Rattle.pi_store_blocks.specs.Form.{form_with, form_of, all_ground, header_of, comp_word, wide_word}
use Rattle.pi_store_blocks.specs.Heap.{Heap, block, Grows}
use Rattle.pi_store_blocks.specs.Placed.{all_refs, IsNamed, IsRefIn, Heads, IsHeaderIn, IsWordOf, IsWordIn, AreRefsIn, WritesRight}
use Rattle.pi_store_blocks.proofs.FormLemmas.{header_of-comp_word, header_of-data_of, header_of-wide_word}
use Rattle.pi_store_blocks.proofs.PutLemmas.{grown}
use Rattle.pi_store_blocks.proofs.RefLemmas.{form_stays, refs_all}

-- words by themselves

-- a Ref is a right word
pub word_by_ref : (h : Heap) (w : ℕ) (f : Form) → IsRefIn h f → IsWordOf h w f
word_by_ref h w (Form.Var n) is = is
word_by_ref h w (Form.Int n) is = tt
word_by_ref h w (Form.Atom k) is = is
word_by_ref h w (Form.Pair place flag) is = is
word_by_ref h w (Form.Comp place flag) is = is
word_by_ref h w (Form.Data n) is = absurd is

-- a word with tag 7 is right where its header is
word_by_header : (h : Heap) (w : ℕ) (header : Header) → w % 8 ≡ 7 → header_of w ≡ header → IsHeaderIn h header → IsWordIn h w
word_by_header h w header tag is ok =
    subst (λ (f : Form). IsWordOf h w f) (sym (ap (λ k. form_with k (w / 8)) tag)) (subst (IsHeaderIn h) (sym is) ok)

-- a word that says nothing is right behind any words
pub data_word : (h : Heap) (n : ℕ) → IsWordIn h (data_of n)
data_word h n = word_by_header h (data_of n) Header.Nothing (omega arith) (header_of-data_of n) tt

pub wide_right : (h : Heap) (top : ℕ) → 2 ≤ length h.words → IsWordIn h (wide_word top)
wide_right h top two = word_by_header h (wide_word top) (Header.Wide top) (omega arith) (header_of-wide_word top) two

-- the words that stand behind a heap
pub writes_by : (h : Heap) (words ws : List ℕ) → words ≡ h.words ++ ws → ((k : ℕ) → k < length ws → IsWordIn (record h { words = h.words ++ take k ws }) (slice_index ws k)) → WritesRight h words
writes_by h words ws is right n low lt =
    let k : ℕ = n - length h.words in
    let at : n ≡ length h.words + (n - length h.words) = omega arith in
    let l : length words ≡ length h.words + length ws = ap length is ∙ length-append h.words ws in
    let before : h.words ++ take k ws ≡ take n words = sym (ap (take n) is ∙ (ap (λ m. take m (h.words ++ ws)) at ∙ take-append-add h.words ws k)) in
    let word : slice_index ws k ≡ slice_index words n = sym (ap (λ vs. slice_index vs n) is ∙ (ap (slice_index (h.words ++ ws)) at ∙ get_or-append-add h.words ws k 0)) in
    subst (λ (vs : List ℕ). IsWordIn (record h { words = vs }) (slice_index words n)) before
    (subst (λ (w : ℕ). IsWordIn (record h { words = h.words ++ take k ws }) w) word (right k (omega arith)))

-- a Ref of a heap is right behind more words
ref_later : (h : Heap) (ws : List ℕ) (r : ℕ) → IsRefIn h (form_of r) → IsWordIn (record h { words = h.words ++ ws }) r
ref_later h ws r is =
    let k : Heap = record h { words = h.words ++ ws } in
    word_by_ref k r (form_of r) (form_stays h k (grown h k ws refl refl refl) (form_of r) is)

pub writes_refs : (h : Heap) (words rs : List ℕ) (last : ℕ) → words ≡ h.words ++ (rs ++ last ∷ []) → AreRefsIn h rs → IsWordIn (record h { words = h.words ++ rs }) last → WritesRight h words
writes_refs h words rs last is are ok =
    let ws : List ℕ = rs ++ last ∷ [] in
    let l : length ws ≡ length rs + 1 = length-append rs (last ∷ []) in
    writes_by h words ws is (λ k lt. ⊎_elim
    (λ small. subst (λ (w : ℕ). IsWordIn (record h { words = h.words ++ take k ws }) w) (sym (get_or_append_left rs (last ∷ []) 0 k small)) (ref_later h (take k ws) (slice_index rs k) (are k small)))
    (λ large. let end : length rs ≡ k = omega arith in
    subst (λ (vs : List ℕ). IsWordIn (record h { words = h.words ++ vs }) (slice_index ws k)) (sym (take_at rs (last ∷ []) k end))
    (subst (λ (w : ℕ). IsWordIn (record h { words = h.words ++ rs }) w) (sym (get_or_at rs last [] 0 k end)) ok))
    (cases_lt k (length rs)))

-- the header of a compound behind its arguments
header_right : (h : Heap) (name : ℕ) (rs : List ℕ) → IsNamed h.names name → length rs < 2 ^ 32 → AreRefsIn h rs → IsWordIn (record h { words = h.words ++ rs }) (comp_word name (length rs) (all_ground rs))
header_right h name rs named few are =
    let k : Heap = record h { words = h.words ++ rs } in
    let l : length (h.words ++ rs) ≡ length h.words + length rs = length-append h.words rs in
    let start : length h.words ≡ length (h.words ++ rs) - length rs = omega arith in
    let stands : block (h.words ++ rs) (length (h.words ++ rs) - length rs) (length rs) ≡ rs =
    ap (λ s. block (h.words ++ rs) s (length rs)) (sym start) ∙ (ap (take (length rs)) (drop_at h.words rs (length h.words) refl) ∙ take_all (length rs) rs (omega arith)) in
    word_by_header k (comp_word name (length rs) (all_ground rs)) (Header.Comp name (length rs) (all_ground rs)) (omega arith) (header_of-comp_word name (length rs) (all_ground rs) few)
    (record { named = named; within = omega arith; refs = ap all_refs stands ∙ refs_all h rs are; flag = ap all_ground stands })

-- What the makers of terms write

pub pair_right : (h : Heap) (old new : List ℕ) (a b : ℕ) → new ≡ old ++ a ∷ b ∷ [] → h.words ≡ old → AreRefsIn h (a ∷ b ∷ []) → WritesRight h new
pair_right h old new a b is same are =
    writes_refs h new (a ∷ []) b (is ∙ ap (λ ws. ws ++ a ∷ b ∷ []) (sym same)) (λ i lt. first i lt) (ref_later h (a ∷ []) b (are 1 (omega arith)))
  where
    first : (i : ℕ) → i < 1 → IsRefIn h (form_of (slice_index (a ∷ []) i))
    first zero lt = are 0 (omega arith)
    first (suc i) lt = absurd (omega arith)

pub block_right : (h : Heap) (old new : List ℕ) (name count w : ℕ) (args : List Ref) (flag : Bool) → new ≡ old ++ (numbers_of args ++ w ∷ []) → w ≡ comp_word name count flag → count ≡ length args → count < 2 ^ 32
    → flag ≡ all_ground (numbers_of args) → h.words ≡ old → IsNamed h.names name → AreRefsIn h (numbers_of args) → WritesRight h new
block_right h old new name count w args flag is header counts few grounds same named are =
    let ns : List ℕ = numbers_of args in
    let many : count ≡ length ns = counts ∙ sym (length-map args (λ r. r.number)) in
    let long : length ns < 2 ^ 32 = omega arith in
    let first : comp_word name (length ns) (all_ground ns) ≡ w = sym (header ∙ (ap (λ c. comp_word name c flag) many ∙ ap (comp_word name (length ns)) grounds)) in
    writes_refs h new ns w (is ∙ ap (λ ws. ws ++ (ns ++ w ∷ [])) (sym same)) are (subst (λ (v : ℕ). IsWordIn (record h { words = h.words ++ ns }) v) first (header_right h name ns named long are))

pub wide_words_right : (h : Heap) (old new : List ℕ) (mid low top : ℕ) → new ≡ old ++ data_of mid ∷ data_of low ∷ wide_word top ∷ [] → h.words ≡ old → WritesRight h new
wide_words_right h old new mid low top is same =
    writes_by h new (data_of mid ∷ data_of low ∷ wide_word top ∷ []) (is ∙ ap (λ ws. ws ++ data_of mid ∷ data_of low ∷ wide_word top ∷ []) (sym same)) each
  where
    each : (k : ℕ) → k < 3 → IsWordIn (record h { words = h.words ++ take k (data_of mid ∷ data_of low ∷ wide_word top ∷ []) }) (slice_index (data_of mid ∷ data_of low ∷ wide_word top ∷ []) k)
    each zero lt = data_word (record h { words = h.words ++ [] }) mid
    each (suc zero) lt = data_word (record h { words = h.words ++ data_of mid ∷ [] }) low
    each (suc (suc zero)) lt =
        wide_right (record h { words = h.words ++ data_of mid ∷ data_of low ∷ [] }) top (let l : length (h.words ++ data_of mid ∷ data_of low ∷ []) ≡ length h.words + 2 = length-append h.words (data_of mid ∷ data_of low ∷ []) in omega arith)
    each (suc (suc (suc k))) lt = absurd (omega arith)

-- no more words
pub none_right : (h : Heap) (words : List ℕ) → words ≡ h.words → WritesRight h words
none_right h words is n low lt = let l : length words ≡ length h.words = ap length is in absurd (omega arith)
