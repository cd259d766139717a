-- Terms that were made have their trees.
use Rattle.std.proofs.Common.{◌≡◌, ℕ, suc, ◌+◌, ◌-◌, ◌^◌, ◌<◌, ◌≤◌, Bool, true, false, nat_lt, nat_le, ◌&&◌, List, [], ◌∷◌, ◌++◌, length, take, get_or, Option, Some, None, refl, ap, sym, subst, ◌∙◌, arith, ℤ, length-append}
use Rattle.std.specs.Prelude.{option_map, slice_index}
use Rattle.std.proofs.lemmas.Bool.{lt-ltb, le-leb, and_from, cond-true}
use Rattle.std.proofs.lemmas.List.{drop_at, take_at, get_or_at, get_or-append-add, length-map}
use Rattle.pi_terms.specs.Tree.{Tree, var, int, atom, comp, Trees}
use Rattle.pi_store_blocks.specs.Form.{form_of, number_of, IsFitting, IsSmall, all_ground, header_of, comp_word, wide_word, wide_of}
use Rattle.pi_store_blocks.specs.Heap.{Heap, Names, Makes, all_trees, compound_at, wide_at, headed, is_same, block, is_block, tree_with, tree_for, term_at, Grows}
use Rattle.pi_region.specs.Entry.{data_of, value_of}
use Rattle.pi_region.proofs.EntryLemmas.{value_of-data_of}
use Rattle.pi_store_blocks.specs.declared.form.Form.{Form}
use Rattle.pi_constraints.specs.declared.store.Ref.{Ref}
use Rattle.pi_region.specs.Image.{numbers_of}
use Rattle.pi_store_blocks.proofs.FormLemmas.{form_of-number_of, header_of-comp_word, header_of-wide_word}
use Rattle.pi_store_blocks.proofs.HeapLemmas.{compound_from, guarded_from, block_from, all_more, tree_more, tree_by}

-- a Ref with the number of a form
pub put_by : (h : Heap) (r : ℕ) (f : Form) → IsFitting f → r ≡ number_of f → term_at h r ≡ tree_with (tree_for (length h.words) h) h f
put_by h r f fits e = tree_by h r f (ap form_of e ∙ form_of-number_of f fits)

pub put_var : (h : Heap) (r n : ℕ) → n < h.next → n < 2 ^ 61 → r ≡ number_of (Form.Var n) → term_at h r ≡ Some (var n)
put_var h r n lt fits e = put_by h r (Form.Var n) fits e ∙ cond-true (nat_lt n h.next) (Some (var n)) None (lt-ltb n h.next lt)

pub put_small : (h : Heap) (r : ℕ) (n : ℤ) → IsSmall n → r ≡ number_of (Form.Int n) → term_at h r ≡ Some (int n)
put_small h r n fits e = put_by h r (Form.Int n) fits e

pub put_name : (h : Heap) (r k : ℕ) (text : List ℕ) → h.names k ≡ Some text → k < 2 ^ 61 → r ≡ number_of (Form.Atom k) → term_at h r ≡ Some (atom text)
put_name h r k text named fits e = put_by h r (Form.Atom k) fits e ∙ ap (option_map atom) named

pub put_wide : (h : Heap) (ws : List ℕ) (r top mid low : ℕ) (n : ℤ) → h.words ≡ ws ++ data_of mid ∷ data_of low ∷ wide_word top ∷ [] → wide_of top mid low ≡ n → length ws + 2 < 2 ^ 61 → r ≡ number_of (Form.Comp (length ws + 2) true) → term_at h r ≡ Some (int n)
put_wide h ws r top mid low n words is fits e =
    let p : ℕ = length ws in
    let read : (j k : ℕ) → j ≡ p + k → slice_index h.words j ≡ slice_index (data_of mid ∷ data_of low ∷ wide_word top ∷ []) k =
    λ j k same. ap (λ v. slice_index v j) words ∙ (ap (slice_index (ws ++ data_of mid ∷ data_of low ∷ wide_word top ∷ [])) same ∙ get_or-append-add ws (data_of mid ∷ data_of low ∷ wide_word top ∷ []) k 0) in
    let head : slice_index h.words (p + 2) ≡ wide_word top = read (p + 2) 2 refl in
    let first : slice_index h.words (p + 2 - 2) ≡ data_of mid = read (p + 2 - 2) 0 (omega arith) in
    let second : slice_index h.words (p + 2 - 1) ≡ data_of low = read (p + 2 - 1) 1 (omega arith) in
    let F : ℕ → Option Tree = tree_for (length h.words) h in
    put_by h r (Form.Comp (p + 2) true) fits e
    ∙ (ap (λ v. headed F h (p + 2) true (header_of v)) head
    ∙ (ap (headed F h (p + 2) true) (header_of-wide_word top)
    ∙ (cond-true (nat_le 2 (p + 2) && true) (Some (wide_at h (p + 2) top)) None (and_from (nat_le 2 (p + 2)) true (le-leb 2 (p + 2) (omega arith)) refl)
    ∙ (ap (λ v. Some (int (wide_of top (value_of v) (value_of (slice_index h.words (p + 2 - 1)))))) first
    ∙ (ap (λ v. Some (int (wide_of top v (value_of (slice_index h.words (p + 2 - 1)))))) (value_of-data_of mid)
    ∙ (ap (λ v. Some (int (wide_of top mid (value_of v)))) second
    ∙ (ap (λ v. Some (int (wide_of top mid v))) (value_of-data_of low)
    ∙ ap (λ v. Some (int v)) is)))))))

pub same_three : (r : List ℕ) (a b c x y z : ℕ) → a ≡ x → b ≡ y → c ≡ z → r ++ a ∷ b ∷ c ∷ [] ≡ r ++ x ∷ y ∷ z ∷ []
same_three r a b c x y z p q s = cc

same_flag : (b : Bool) → is_same b b ≡ true
same_flag true = refl
same_flag false = refl

-- a compound whose arguments stand at the end
record Ends (h k : Heap) (place : ℕ) (args : List ℕ) : Type 0 where
  grows : Grows h k
  longer : length h.words < length k.words
  within : place + length args ≤ length k.words
  is : block k.words place (length args) ≡ args

ended : (h k : Heap) (name place : ℕ) (args : List ℕ) (text : List ℕ) (ts : Trees) → Ends h k place args → h.names name ≡ Some text → all_trees (term_at h) args ≡ Some ts
    → compound_at (tree_for (length k.words) k) k name place (length args) (all_ground args) ≡ Some (comp text ts)
ended h k name place args text ts ends named trees =
    let lt : length h.words < length k.words = ends.longer in
    compound_from (is_block k.words place (length args) (all_ground args)) (k.names name) (all_trees (tree_for (length k.words) k) (block k.words place (length args))) text ts
    (block_from k.words place (length args) (all_ground args) ends.within (ap (λ ws. is_same (all_ground args) (all_ground ws)) ends.is ∙ same_flag (all_ground args)))
    (ends.grows.names name text named)
    (ap (all_trees (tree_for (length k.words) k)) ends.is
    ∙ all_more (term_at h) (tree_for (length k.words) k) (λ q u f. tree_more (suc (length h.words)) (length k.words) h k ends.grows (omega arith) q u f) args ts trees)

pub grown : (h k : Heap) (ws : List ℕ) → k.names ≡ h.names → k.next ≡ h.next → k.words ≡ h.words ++ ws → Grows h k
grown h k ws names next words = record {
  names = λ j name e. ap (λ (ns : Names). ns j) names ∙ e;
  next = omega arith;
  words = (ws, words);
}

pub put_pair : (h : Heap) (r a b : ℕ) (text : List ℕ) (ts : Trees) (words : List ℕ) → h.names 0 ≡ Some text → all_trees (term_at h) (a ∷ b ∷ []) ≡ Some ts
    → words ≡ h.words ++ a ∷ b ∷ [] → length h.words < 2 ^ 61 → r ≡ number_of (Form.Pair (length h.words) (all_ground (a ∷ b ∷ []))) → term_at (record h { words = words }) r ≡ Some (comp text ts)
put_pair h r a b text ts words named trees is fits e =
    let k : Heap = record h { words = words } in
    let l : length words ≡ length h.words + 2 = ap length is ∙ length-append h.words (a ∷ b ∷ []) in
    let stands : block words (length h.words) 2 ≡ a ∷ b ∷ [] = ap (λ ws. block ws (length h.words) 2) is ∙ ap (take 2) (drop_at h.words (a ∷ b ∷ []) (length h.words) refl) in
    let ends : Ends h k (length h.words) (a ∷ b ∷ []) = record { grows = grown h k (a ∷ b ∷ []) refl refl is; longer = omega arith; within = omega arith; is = stands } in
    put_by k r (Form.Pair (length h.words) (all_ground (a ∷ b ∷ []))) fits e ∙ ended h k 0 (length h.words) (a ∷ b ∷ []) text ts ends named trees

pub put_block : (h : Heap) (r name : ℕ) (args : List ℕ) (text : List ℕ) (ts : Trees) (words : List ℕ) → h.names name ≡ Some text → all_trees (term_at h) args ≡ Some ts
    → words ≡ h.words ++ (args ++ comp_word name (length args) (all_ground args) ∷ []) → length args < 2 ^ 32 → length h.words + length args < 2 ^ 61 → r ≡ number_of (Form.Comp (length h.words + length args) (all_ground args)) → term_at (record h { words = words }) r ≡ Some (comp text ts)
put_block h r name args text ts words named trees is few fits e =
    let k : Heap = record h { words = words } in
    let n : ℕ = length args in
    let p : ℕ = length h.words + n in
    let g : Bool = all_ground args in
    let w : ℕ = comp_word name n g in
    let more : length (args ++ w ∷ []) ≡ n + 1 = length-append args (w ∷ []) in
    let l : length words ≡ length h.words + length (args ++ w ∷ []) = ap length is ∙ length-append h.words (args ++ w ∷ []) in
    let start : p - n ≡ length h.words = omega arith in
    let stands : block words (p - n) n ≡ args = ap (λ ws. block ws (p - n) n) is ∙ (ap (take n) (drop_at h.words (args ++ w ∷ []) (p - n) (sym start)) ∙ take_at args (w ∷ []) n refl) in
    let ends : Ends h k (p - n) args = record { grows = grown h k (args ++ w ∷ []) refl refl is; longer = omega arith; within = omega arith; is = stands } in
    let head : slice_index words p ≡ w = ap (λ ws. slice_index ws p) is ∙ (get_or-append-add h.words (args ++ w ∷ []) n 0 ∙ get_or_at args w [] 0 n refl) in
    let F : ℕ → Option Tree = tree_for (length k.words) k in
    put_by k r (Form.Comp p g) fits e
    ∙ (ap (λ v. headed F k p g (header_of v)) head
    ∙ (ap (headed F k p g) (header_of-comp_word name n g few)
    ∙ guarded_from (nat_le n p) (compound_at F k name (p - n) n g) (comp text ts) (le-leb n p (omega arith)) (ended h k name (p - n) args text ts ends named trees)))

pub makes_pair : (old new : List ℕ) (r a b : ℕ) (flag : Bool) → new ≡ old ++ a ∷ b ∷ [] → length old < 2 ^ 61 → flag ≡ all_ground (a ∷ b ∷ []) → r ≡ number_of (Form.Pair (length old) flag) → Makes old new 0 (a ∷ b ∷ []) r
makes_pair old new r a b flag is fits grounds e h text ts same named trees =
    let long : length h.words < 2 ^ 61 = subst (λ (ws : List ℕ). length ws < 2 ^ 61) (sym same) fits in
    put_pair h r a b text ts new named trees (is ∙ ap (λ ws. ws ++ a ∷ b ∷ []) (sym same)) long
    (e ∙ (ap (λ g. number_of (Form.Pair (length old) g)) grounds ∙ ap (λ ws. number_of (Form.Pair (length ws) (all_ground (a ∷ b ∷ [])))) (sym same)))

pub makes_block : (old new : List ℕ) (r name count w : ℕ) (args : List Ref) (flag : Bool) → new ≡ old ++ (numbers_of args ++ w ∷ []) → w ≡ comp_word name count flag → count ≡ length args → count < 2 ^ 32 → length old + count < 2 ^ 61
    → flag ≡ all_ground (numbers_of args) → r ≡ number_of (Form.Comp (length old + count) flag) → Makes old new name (numbers_of args) r
makes_block old new r name count w args flag is header counts few fits grounds e h text ts same named trees =
    let ns : List ℕ = numbers_of args in
    let many : count ≡ length ns = counts ∙ sym (length-map args (λ r. r.number)) in
    let long : length old + length ns < 2 ^ 61 = omega arith in
    let long2 : length h.words + length ns < 2 ^ 61 = subst (λ (ws : List ℕ). length ws + length ns < 2 ^ 61) (sym same) long in
    let first : w ≡ comp_word name (length ns) (all_ground ns) = header ∙ (ap (λ c. comp_word name c flag) many ∙ ap (comp_word name (length ns)) grounds) in
    put_block h r name ns text ts new named trees
    (is ∙ (ap (λ v. old ++ (ns ++ v ∷ [])) first ∙ ap (λ ws. ws ++ (ns ++ comp_word name (length ns) (all_ground ns) ∷ [])) (sym same)))
    (omega arith) long2
    (e ∙ (ap (λ c. number_of (Form.Comp (length old + c) flag)) many ∙ (ap (λ g. number_of (Form.Comp (length old + length ns) g)) grounds ∙ ap (λ ws. number_of (Form.Comp (length ws + length ns) (all_ground ns))) (sym same))))

-- two arguments by their places
pub two_numbers : (rs : List Ref) (d : Ref) → length rs ≡ 2 → numbers_of rs ≡ (get_or rs 0 d).number ∷ (get_or rs 1 d).number ∷ []
two_numbers [] d n = absurd (cc)
two_numbers (p ∷ []) d n = absurd (omega arith)
two_numbers (p ∷ q ∷ []) d n = refl
two_numbers (p ∷ q ∷ s ∷ rs) d n = absurd (omega arith)
