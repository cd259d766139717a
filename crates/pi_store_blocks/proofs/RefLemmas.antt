-- Refs stay Refs when there is more, and just they have trees.
use Rattle.std.proofs.Common.{◌≡◌, ℕ, zero, suc, ◌+◌, ◌-◌, ◌<◌, ◌≤◌, ⊎_elim, Bool, true, false, cond, nat_lt, nat_le, ◌&&◌, List, [], ◌∷◌, ◌++◌, length, Option, Some, None, refl, ap, sym, subst, ◌∙◌, arith}
use Rattle.std.specs.Prelude.{slice_index}
use Rattle.std.proofs.lemmas.Bool.{and_parts, and_from, leb-true, le-leb, ltb-true, cond-true, cases_lt}
use Rattle.std.proofs.lemmas.Option.{cond_some}
use Rattle.std.proofs.lemmas.List.{get_or_append_left, get_or_past, length-append}
use Rattle.pi_terms.specs.Tree.{Tree, var, atom, Trees, no_trees, tree}
use Rattle.pi_store_blocks.specs.declared.form.Form.{Form}
use Rattle.pi_store_blocks.specs.declared.header.Header.{Header}
use Rattle.pi_store_blocks.specs.Form.{form_of, is_ref_form, is_ref, all_ground, header_of}
use Rattle.pi_store_blocks.specs.Heap.{Heap, all_trees, compound_at, wide_at, headed, is_same, block, is_block, tree_with, tree_for, term_at, Grows}
use Rattle.pi_store_blocks.specs.Placed.{all_refs, is_headed, is_placed, IsRefIn, Heads, IsHistory, AreRefsIn, TreesAreRefs, RefsStay}
use Rattle.pi_store_blocks.proofs.HeapLemmas.{TreeOf, compound_is, block_is, block_more, front_is, mapped_is, guarded_is, tree_by}
use Rattle.pi_store_blocks.proofs.PlacedLemmas.{same_is, same_flag, length_past, header_before, header_at, block_then}

-- When there is more

pair_stays : (ws more : List ℕ) (place : ℕ) (flag : Bool) → is_placed ws (Form.Pair place flag) ≡ true → is_placed (ws ++ more) (Form.Pair place flag) ≡ true
pair_stays ws more place flag e =
    let a = and_parts (nat_le (place + 2) (length ws)) (all_refs (block ws place 2) && is_same flag (all_ground (block ws place 2))) e in
    let within : place + 2 ≤ length ws = leb-true (place + 2) (length ws) a.0 in
    let l : length (ws ++ more) ≡ length ws + length more = length-append ws more in
    let same : block (ws ++ more) place 2 ≡ block ws place 2 = block_more ws more place 2 within in
    and_from (nat_le (place + 2) (length (ws ++ more))) (all_refs (block (ws ++ more) place 2) && is_same flag (all_ground (block (ws ++ more) place 2)))
    (le-leb (place + 2) (length (ws ++ more)) (omega arith)) (ap (λ vs. all_refs vs && is_same flag (all_ground vs)) same ∙ a.1)

header_stays : (ws more : List ℕ) (place : ℕ) (flag : Bool) → is_placed ws (Form.Comp place flag) ≡ true → is_placed (ws ++ more) (Form.Comp place flag) ≡ true
header_stays ws more place flag e = ⊎_elim
    (λ lt. ap (λ v. is_headed flag (header_of v)) (get_or_append_left ws more 0 place lt) ∙ e)
    (λ le. let gone : false ≡ true = ap (λ v. is_headed flag (header_of v)) (sym (get_or_past ws place 0 le)) ∙ e in absurd (cc))
    (cases_lt place (length ws))

stays_by : (h k : Heap) → Grows h k → (f : Form) → ((more : List ℕ) → is_placed h.words f ≡ true → is_placed (h.words ++ more) f ≡ true) → is_placed h.words f ≡ true → is_placed k.words f ≡ true
stays_by h k grows f more e = ap (λ ws. is_placed ws f) grows.words.1 ∙ more grows.words.0 e

pub form_stays : (h k : Heap) → Grows h k → (f : Form) → IsRefIn h f → IsRefIn k f
form_stays h k grows (Form.Var n) is = let le : h.next ≤ k.next = grows.next in omega arith
form_stays h k grows (Form.Int n) is = tt
form_stays h k grows (Form.Atom j) is = (is.0, grows.names j is.0 is.1)
form_stays h k grows (Form.Pair place flag) is =
    ((is.0.0, grows.names 0 is.0.0 is.0.1), stays_by h k grows (Form.Pair place flag) (λ more e. pair_stays h.words more place flag e) is.1)
form_stays h k grows (Form.Comp place flag) is = stays_by h k grows (Form.Comp place flag) (λ more e. header_stays h.words more place flag e) is
form_stays h k grows (Form.Data n) is = absurd is

pub refs_stay : RefsStay
refs_stay old new grows r is = form_stays old new grows (form_of r) is

-- A Ref by its form

pub ref_form : (h : Heap) (f : Form) → IsRefIn h f → is_ref_form f ≡ true
ref_form h (Form.Var n) is = refl
ref_form h (Form.Int n) is = refl
ref_form h (Form.Atom j) is = refl
ref_form h (Form.Pair place flag) is = refl
ref_form h (Form.Comp place flag) is = refl
ref_form h (Form.Data n) is = absurd is

pub refs_all : (h : Heap) (rs : List ℕ) → AreRefsIn h rs → all_refs rs ≡ true
unfolding all_refs
refs_all h [] are = refl
refs_all h (r ∷ rs) are =
    cond-true (is_ref r) (all_refs rs) false (ref_form h (form_of r) (are 0 (omega arith))) ∙ refs_all h rs (λ i lt. are (suc i) (omega arith))

-- What has a tree

form_with_tree : (f : TreeOf) (h : Heap) (form : Form) (t : Tree) → tree_with f h form ≡ Some t → is_ref_form form ≡ true
form_with_tree f h (Form.Var n) t e = refl
form_with_tree f h (Form.Int n) t e = refl
form_with_tree f h (Form.Atom j) t e = refl
form_with_tree f h (Form.Pair place flag) t e = refl
form_with_tree f h (Form.Comp place flag) t e = refl
form_with_tree f h (Form.Data n) t e = absurd (cc)

ref_with_tree : (d : ℕ) (h : Heap) (r : ℕ) (t : Tree) → tree_for d h r ≡ Some t → is_ref r ≡ true
unfolding tree_for
ref_with_tree zero h r t e = absurd (cc)
ref_with_tree (suc d) h r t e = form_with_tree (tree_for d h) h (form_of r) t e

refs_with_trees : (d : ℕ) (h : Heap) (rs : List ℕ) (ts : Trees) → all_trees (tree_for d h) rs ≡ Some ts → all_refs rs ≡ true
unfolding all_refs all_trees
refs_with_trees d h [] ts e = refl
refs_with_trees d h (r ∷ rs) ts e =
    let p = front_is (tree_for d h r) (all_trees (tree_for d h) rs) ts e in
    cond-true (is_ref r) (all_refs rs) false (ref_with_tree d h r p.first p.here) ∙ refs_with_trees d h rs p.rest p.behind

-- a compound whose arguments stand at a place
record Stands (h : Heap) (name place count : ℕ) (flag : Bool) : Type 0 where
  text : List ℕ
  named : h.names name ≡ Some text
  within : place + count ≤ length h.words
  refs : all_refs (block h.words place count) ≡ true
  ground : all_ground (block h.words place count) ≡ flag

stands : (d : ℕ) (h : Heap) (name place count : ℕ) (flag : Bool) (t : Tree) → compound_at (tree_for d h) h name place count flag ≡ Some t → Stands h name place count flag
stands d h name place count flag t e =
    let c = compound_is (is_block h.words place count flag) (h.names name) (all_trees (tree_for d h) (block h.words place count)) t e in
    let b = block_is h.words place count flag c.holds in
    record {
      text = c.text;
      named = c.named;
      within = b.within;
      refs = refs_with_trees d h (block h.words place count) c.trees c.args;
      ground = same_is flag (all_ground (block h.words place count)) b.same;
    }

headed_ref : (past : ℕ → Heap) (words : List ℕ) → IsHistory past words → (n place : ℕ) (flag : Bool) (header : Header) (t : Tree) → n ≤ length words → header_of (slice_index (past n).words place) ≡ header
    → headed (tree_for (length (past n).words) (past n)) (past n) place flag header ≡ Some t → is_headed flag header ≡ true
headed_ref past words is n place flag Header.Nothing t le at e = absurd (cc)
headed_ref past words is n place flag (Header.Wide top) t le at e = (and_parts (nat_le 2 place) flag (cond_some (nat_le 2 place && flag) (wide_at (past n) place top) t e).0).1
headed_ref past words is n place flag (Header.Comp name count own) t le at e =
    let d : ℕ = length (past n).words in
    let lt : place < n = header_before past words is n place (Header.Comp name count own) le at (λ q. absurd (cc)) in
    let heads : Heads (past place) name count own = header_at past words is n place (Header.Comp name count own) le at (λ q. absurd (cc)) in
    let c = guarded_is (nat_le count place) (compound_at (tree_for d (past n)) (past n) name (place - count) count flag) t e in
    let s = stands d (past n) name (place - count) count flag t c.1 in
    let old : block (past n).words (place - count) count ≡ block (past place).words (length (past place).words - count) count = block_then past words is n place count (omega arith) le heads.within in
    let same : own ≡ flag = sym heads.flag ∙ (ap all_ground (sym old) ∙ s.ground) in
    ap (is_same own) (sym same) ∙ same_flag own

form_ref : (past : ℕ → Heap) (words : List ℕ) → IsHistory past words → (n : ℕ) → n ≤ length words → (f : Form) (t : Tree) → tree_with (tree_for (length (past n).words) (past n)) (past n) f ≡ Some t → IsRefIn (past n) f
form_ref past words is n le (Form.Var m) t e = ltb-true m (past n).next (cond_some (nat_lt m (past n).next) (var m) t e).0
form_ref past words is n le (Form.Int m) t e = tt
form_ref past words is n le (Form.Atom j) t e = let p = mapped_is atom ((past n).names j) t e in (p.it, p.here)
form_ref past words is n le (Form.Pair place flag) t e =
    let ws : List ℕ = (past n).words in
    let s = stands (length (past n).words) (past n) 0 place 2 flag t e in (
      (s.text, s.named),
      and_from (nat_le (place + 2) (length ws)) (all_refs (block ws place 2) && is_same flag (all_ground (block ws place 2))) (le-leb (place + 2) (length ws) s.within)
          (and_from (all_refs (block ws place 2)) (is_same flag (all_ground (block ws place 2))) s.refs (ap (is_same flag) s.ground ∙ same_flag flag)),
    )
form_ref past words is n le (Form.Comp place flag) t e = headed_ref past words is n place flag (header_of (slice_index (past n).words place)) t le refl e
form_ref past words is n le (Form.Data m) t e = absurd (cc)

pub trees_are_refs : TreesAreRefs
trees_are_refs past words is n le r t e = form_ref past words is n le (form_of r) t (sym (tree_by (past n) r (form_of r) refl) ∙ e)
