-- Each Ref of a heap has a tree, where each word was right when it was written: by the place that it points to.
use Rattle.std.proofs.Common.{◌≡◌, ℕ, zero, suc, ◌+◌, ◌-◌, ◌/◌, ◌%◌, ◌^◌, ◌<◌, ◌≤◌, ◌⊎◌, inl, inr, ⊎_elim, Bool, true, false, cond, nat_lt, nat_le, ◌&&◌, List, [], ◌∷◌, length, take, drop, Some, None, refl, ap, sym, subst, ◌∙◌, arith}
use Rattle.std.specs.Prelude.{option_map, slice_index, ◌==◌}
use Rattle.std.proofs.lemmas.Bool.{and_parts, and_from, leb-true, le-leb, lt-ltb, cond-true, cases_lt, eqb-true}
use Rattle.std.proofs.lemmas.List.{get_or-take, get_or-drop, get_or_past, length-take-le, length-drop, drop_more}
use Rattle.pi_terms.specs.Tree.{Tree, var, int, atom, comp, Trees, no_trees, tree}
use Rattle.pi_store_blocks.specs.declared.form.Form.{Form}
use Rattle.pi_store_blocks.specs.declared.header.Header.{Header}
use Rattle.pi_store_blocks.specs.Form.{form_with, form_of, is_ref_form, is_ref, all_ground, header_with, header_of}
use Rattle.pi_store_blocks.specs.Heap.{Heap, all_trees, is_same, block, is_block, compound_at, wide_at, headed, tree_with, tree_for, term_at}
use Rattle.pi_store_blocks.specs.Placed.{all_refs, is_headed, is_placed, IsRefIn, Heads, IsHeaderIn, IsWordOf, IsWordIn, IsHistory, RefsHaveTrees}
use Rattle.pi_store_blocks.proofs.HeapLemmas.{TreeOf, front_from, compound_from, guarded_from, block_from, block_more, tree_more, tree_by}

-- a word that is a header is no Ref
header_tag : (w : ℕ) → (w % 32 ≡ 15) ⊎ (w % 32 ≡ 23) → w % 8 ≡ 7
header_tag w (inl e) = omega arith
header_tag w (inr e) = omega arith

-- the kind of a header that says something
kind_of : (kind n : ℕ) (h : Header) → header_with kind n ≡ h → (h ≡ Header.Nothing → ⊥) → (kind ≡ 15) ⊎ (kind ≡ 23)
kind_of kind n h e some = kind_by kind n h e some (kind == 15) refl (kind == 23) refl
  where
    kind_by : (kind n : ℕ) (h : Header) → header_with kind n ≡ h → (h ≡ Header.Nothing → ⊥) → (a : Bool) → (kind == 15) ≡ a → (b : Bool) → (kind == 23) ≡ b → (kind ≡ 15) ⊎ (kind ≡ 23)
    kind_by kind n h e some true p b q = inl (eqb-true kind 15 p)
    kind_by kind n h e some false p true q = inr (eqb-true kind 23 q)
    kind_by kind n h e some false p false q =
        let gone : header_with kind n ≡ Header.Nothing =
        ap (λ x. cond x (Header.Comp (n / 2 / 2 ^ 32) (n / 2 % 2 ^ 32) (n % 2 == 1)) (cond (kind == 23) (Header.Wide n) Header.Nothing)) p
        ∙ ap (λ x. cond x (Header.Wide n) Header.Nothing) q in
        absurd (some (sym e ∙ gone))

header_form : (w : ℕ) (h : Header) → header_of w ≡ h → (h ≡ Header.Nothing → ⊥) → form_of w ≡ Form.Data (w / 8)
header_form w h e some = ap (λ tag. form_with tag (w / 8)) (header_tag w (kind_of (w % 32) (w / 32) h e some))

header_in : (h : Heap) (w : ℕ) (header : Header) → IsWordIn h w → header_of w ≡ header → (header ≡ Header.Nothing → ⊥) → IsHeaderIn h header
header_in h w header is e some =
    let said : IsHeaderIn h (header_of w) = subst (λ (f : Form). IsWordOf h w f) (header_form w header e some) is in
    subst (IsHeaderIn h) e said

-- a word that is a Ref is one of the heap behind which it was written
ref_by : (h : Heap) (w : ℕ) (f : Form) → IsWordOf h w f → is_ref_form f ≡ true → IsRefIn h f
ref_by h w (Form.Var n) is e = is
ref_by h w (Form.Int n) is e = is
ref_by h w (Form.Atom k) is e = is
ref_by h w (Form.Pair place flag) is e = is
ref_by h w (Form.Comp place flag) is e = is
ref_by h w (Form.Data n) is e = absurd (cc)

-- the parts of lists of Refs

cond_parts : (a b : Bool) → cond a b false ≡ true → (a ≡ true) × (b ≡ true)
cond_parts true b e = (refl, e)
cond_parts false b e = absurd (cc)

refs_at : (rs : List ℕ) (i : ℕ) → all_refs rs ≡ true → i < length rs → is_ref (slice_index rs i) ≡ true
unfolding all_refs
refs_at [] i e lt = absurd (omega arith)
refs_at (r ∷ rs) zero e lt = (cond_parts (is_ref r) (all_refs rs) e).0
refs_at (r ∷ rs) (suc i) e lt = refs_at rs i (cond_parts (is_ref r) (all_refs rs) e).1 (omega arith)

-- Refs that each have a tree have trees
abbrev Has : TreeOf → ℕ → Type 0
Has f r = (t : Tree) × (f r ≡ Some t)

all_have : (f : TreeOf) (rs : List ℕ) → ((i : ℕ) → i < length rs → Has f (slice_index rs i)) → (ts : Trees) × (all_trees f rs ≡ Some ts)
unfolding all_trees
all_have f [] has = (no_trees, refl)
all_have f (r ∷ rs) has =
    let first = has 0 (omega arith) in
    let rest = all_have f rs (λ i lt. has (suc i) (omega arith)) in
    (tree first.0 rest.0, front_from (f r) (all_trees f rs) first.0 rest.0 first.1 rest.1)

pub same_is : (a b : Bool) → is_same a b ≡ true → b ≡ a
same_is true b e = e
same_is false true e = absurd (cc)
same_is false false e = refl

pub same_flag : (b : Bool) → is_same b b ≡ true
same_flag true = refl
same_flag false = refl

-- a history up to a length
abbrev Trees_below : (ℕ → Heap) → List ℕ → ℕ → Type 0
Trees_below past words n = (m : ℕ) → m < n → (r : ℕ) → IsRefIn (past m) (form_of r) → (t : Tree) × (term_at (past m) r ≡ Some t)

pub length_past : (past : ℕ → Heap) (words : List ℕ) → IsHistory past words → (n : ℕ) → n ≤ length words → length (past n).words ≡ n
length_past past words is n le = ap length (is.front n le) ∙ length-take-le n words le

read_past : (past : ℕ → Heap) (words : List ℕ) → IsHistory past words → (n i : ℕ) → n ≤ length words → i < n → slice_index (past n).words i ≡ slice_index words i
read_past past words is n i le lt = ap (λ ws. slice_index ws i) (is.front n le) ∙ get_or-take n words i 0 lt

-- a Ref that was written has its tree in a later heap
written_has : (past : ℕ → Heap) (words : List ℕ) → IsHistory past words → (n i : ℕ) → n ≤ length words → i < n → Trees_below past words n → is_ref (slice_index words i) ≡ true
    → Has (tree_for (length (past n).words) (past n)) (slice_index words i)
written_has past words is n i le lt below e =
    let w : ℕ = slice_index words i in
    let r : IsRefIn (past i) (form_of w) = ref_by (past i) w (form_of w) (is.written i (omega arith)) e in
    let t = below i lt w r in
    let first : length (past i).words ≡ i = length_past past words is i (omega arith) in
    let last : length (past n).words ≡ n = length_past past words is n le in
    (t.0, tree_more (suc (length (past i).words)) (length (past n).words) (past i) (past n) (is.grows i n (omega arith) le) (omega arith) w t.0 t.1)

-- so have those of a block
block_has : (past : ℕ → Heap) (words : List ℕ) → IsHistory past words → (n place count : ℕ) → n ≤ length words → place + count ≤ n → Trees_below past words n → all_refs (block (past n).words place count) ≡ true
    → (ts : Trees) × (all_trees (tree_for (length (past n).words) (past n)) (block (past n).words place count) ≡ Some ts)
block_has past words is n place count le within below refs =
    let ws : List ℕ = (past n).words in
    let F : TreeOf = tree_for (length (past n).words) (past n) in
    let long : length (past n).words ≡ n = length_past past words is n le in
    let left : length (drop place (past n).words) ≡ length (past n).words - place = length-drop place ws in
    let size : length (block (past n).words place count) ≡ count = length-take-le count (drop place ws) (omega arith) in
    all_have F (block ws place count) (λ i lt.
    let small : i < count = omega arith in
    let read : slice_index (block ws place count) i ≡ slice_index words (place + i) =
    get_or-take count (drop place ws) i 0 small ∙ (get_or-drop place ws i 0 ∙ read_past past words is n (place + i) le (omega arith)) in
    let ref : is_ref (slice_index words (place + i)) ≡ true = ap is_ref (sym read) ∙ refs_at (block ws place count) i refs lt in
    subst (Has F) (sym read) (written_has past words is n (place + i) le (omega arith) below ref))

-- the tree of a form

compound_has : (past : ℕ → Heap) (words : List ℕ) → IsHistory past words → (n name place count : ℕ) (flag : Bool) (text : List ℕ) → n ≤ length words → place + count ≤ n → Trees_below past words n
    → (past n).names name ≡ Some text → all_refs (block (past n).words place count) ≡ true → all_ground (block (past n).words place count) ≡ flag
    → (t : Tree) × (compound_at (tree_for (length (past n).words) (past n)) (past n) name place count flag ≡ Some t)
compound_has past words is n name place count flag text le within below named refs ground =
    let ws : List ℕ = (past n).words in
    let F : TreeOf = tree_for (length (past n).words) (past n) in
    let long : length (past n).words ≡ n = length_past past words is n le in
    let ts = block_has past words is n place count le within below refs in (
      comp text ts.0,
      compound_from (is_block ws place count flag) ((past n).names name) (all_trees F (block ws place count)) text ts.0
          (block_from ws place count flag (omega arith) (ap (is_same flag) ground ∙ same_flag flag)) named ts.1,
    )

-- a header that says something stands within the words, and was right when it was written
pub header_before : (past : ℕ → Heap) (words : List ℕ) → IsHistory past words → (n place : ℕ) (header : Header) → n ≤ length words → header_of (slice_index (past n).words place) ≡ header
    → (header ≡ Header.Nothing → ⊥) → place < n
header_before past words is n place header le at says =
    let long : length (past n).words ≡ n = length_past past words is n le in
    ⊎_elim (λ l. l) (λ l. absurd (says (sym at ∙ ap header_of (get_or_past (past n).words place 0 (omega arith))))) (cases_lt place n)

pub header_at : (past : ℕ → Heap) (words : List ℕ) → IsHistory past words → (n place : ℕ) (header : Header) → n ≤ length words → header_of (slice_index (past n).words place) ≡ header
    → (header ≡ Header.Nothing → ⊥) → IsHeaderIn (past place) header
header_at past words is n place header le at says =
    let lt : place < n = header_before past words is n place header le at says in
    let word : slice_index (past n).words place ≡ slice_index words place = read_past past words is n place le lt in
    header_in (past place) (slice_index words place) header (is.written place (omega arith)) (ap header_of (sym word) ∙ at) says

-- the words below a header are those that were there when it was written
pub block_then : (past : ℕ → Heap) (words : List ℕ) → IsHistory past words → (n place count : ℕ) → place ≤ n → n ≤ length words → count ≤ length (past place).words
    → block (past n).words (place - count) count ≡ block (past place).words (length (past place).words - count) count
block_then past words is n place count before le within =
    let first : length (past place).words ≡ place = length_past past words is place (omega arith) in
    let start : length (past place).words - count ≡ place - count = omega arith in
    let more = (is.grows place n before le).words in
    ap (λ vs. block vs (place - count) count) more.1
    ∙ (block_more (past place).words more.0 (place - count) count (omega arith) ∙ ap (λ s. block (past place).words s count) (sym start))

headed_has : (past : ℕ → Heap) (words : List ℕ) → IsHistory past words → (n place : ℕ) (flag : Bool) (header : Header) → n ≤ length words → Trees_below past words n
    → header_of (slice_index (past n).words place) ≡ header → is_headed flag header ≡ true
    → (t : Tree) × (headed (tree_for (length (past n).words) (past n)) (past n) place flag header ≡ Some t)
headed_has past words is n place flag Header.Nothing le below at e = absurd (cc)
headed_has past words is n place flag (Header.Wide top) le below at e =
    let lt : place < n = header_before past words is n place (Header.Wide top) le at (λ q. absurd (cc)) in
    let two : 2 ≤ length (past place).words = header_at past words is n place (Header.Wide top) le at (λ q. absurd (cc)) in
    let first : length (past place).words ≡ place = length_past past words is place (omega arith) in
    let z : Tree = wide_at (past n) place top in
    (z, cond-true (nat_le 2 place && flag) (Some z) None (and_from (nat_le 2 place) flag (le-leb 2 place (omega arith)) e))
headed_has past words is n place flag (Header.Comp name count own) le below at e =
    let lt : place < n = header_before past words is n place (Header.Comp name count own) le at (λ q. absurd (cc)) in
    let heads : Heads (past place) name count own = header_at past words is n place (Header.Comp name count own) le at (λ q. absurd (cc)) in
    let first : length (past place).words ≡ place = length_past past words is place (omega arith) in
    let within : count ≤ length (past place).words = heads.within in
    let flags : own ≡ flag = sym (same_is own flag e) in
    let grown = is.grows place n (omega arith) le in
    let old : block (past n).words (place - count) count ≡ block (past place).words (length (past place).words - count) count = block_then past words is n place count (omega arith) le within in
    let t = compound_has past words is n name (place - count) count flag heads.named.0 le (omega arith) below
    (grown.names name heads.named.0 heads.named.1) (ap all_refs old ∙ heads.refs) (ap all_ground old ∙ (heads.flag ∙ flags)) in
    (t.0, guarded_from (nat_le count place) (compound_at (tree_for (length (past n).words) (past n)) (past n) name (place - count) count flag) t.0 (le-leb count place (omega arith)) t.1)

form_has : (past : ℕ → Heap) (words : List ℕ) → IsHistory past words → (n : ℕ) → n ≤ length words → Trees_below past words n → (f : Form) → IsRefIn (past n) f
    → (t : Tree) × (tree_with (tree_for (length (past n).words) (past n)) (past n) f ≡ Some t)
form_has past words is n le below (Form.Var m) ref = (var m, cond-true (nat_lt m (past n).next) (Some (var m)) None (lt-ltb m (past n).next ref))
form_has past words is n le below (Form.Int m) ref = (int m, refl)
form_has past words is n le below (Form.Atom k) ref = (atom ref.0, ap (option_map atom) ref.1)
form_has past words is n le below (Form.Pair place flag) ref =
    let ws : List ℕ = (past n).words in
    let long : length (past n).words ≡ n = length_past past words is n le in
    let a = and_parts (nat_le (place + 2) (length ws)) (all_refs (block ws place 2) && is_same flag (all_ground (block ws place 2))) ref.1 in
    let b = and_parts (all_refs (block ws place 2)) (is_same flag (all_ground (block ws place 2))) a.1 in
    let within : place + 2 ≤ length (past n).words = leb-true (place + 2) (length ws) a.0 in
    compound_has past words is n 0 place 2 flag ref.0.0 le (omega arith) below ref.0.1 b.0 (same_is flag (all_ground (block ws place 2)) b.1)
form_has past words is n le below (Form.Comp place flag) ref = headed_has past words is n place flag (header_of (slice_index (past n).words place)) le below refl ref
form_has past words is n le below (Form.Data m) ref = absurd ref

-- by the length
have_for : (past : ℕ → Heap) (words : List ℕ) → IsHistory past words → (k n : ℕ) → n ≤ k → n ≤ length words → (r : ℕ) → IsRefIn (past n) (form_of r) → (t : Tree) × (term_at (past n) r ≡ Some t)
have_for past words is zero n small le r ref =
    let t = form_has past words is n le (λ m lt. absurd (omega arith)) (form_of r) ref in
    (t.0, tree_by (past n) r (form_of r) refl ∙ t.1)
have_for past words is (suc k) n small le r ref =
    let t = form_has past words is n le (λ m lt q p. have_for past words is k m (omega arith) (omega arith) q p) (form_of r) ref in
    (t.0, tree_by (past n) r (form_of r) refl ∙ t.1)

pub refs_have_trees : RefsHaveTrees
refs_have_trees past words is n le r ref = have_for past words is n n (omega arith) le r ref

-- two words at a place
block_two : (ws : List ℕ) (place : ℕ) → place + 2 ≤ length ws → block ws place 2 ≡ slice_index ws place ∷ slice_index ws (place + 1) ∷ []
block_two ws place h =
    let more : drop (place + 1) ws ≡ slice_index ws (place + 1) ∷ drop (place + 1 + 1) ws = drop_more ws (place + 1) 0 (omega arith) in
    ap (take 2) (drop_more ws place 0 (omega arith)) ∙ ap (λ vs. take 2 (slice_index ws place ∷ vs)) more

pub placed_two : (ws : List ℕ) (place a b : ℕ) (flag refs same r : Bool) → place + 2 ≤ length ws → a ≡ slice_index ws place → b ≡ slice_index ws (place + 1)
    → refs ≡ all_refs (a ∷ b ∷ []) → same ≡ is_same flag (all_ground (a ∷ b ∷ [])) → r ≡ (refs && same) → r ≡ is_placed ws (Form.Pair place flag)
placed_two ws place a b flag refs same r within one two is_refs is_flag is =
    let both : block ws place 2 ≡ a ∷ b ∷ [] = block_two ws place within ∙ (ap (λ v. v ∷ slice_index ws (place + 1) ∷ []) (sym one) ∙ ap (λ v. a ∷ v ∷ []) (sym two)) in
    let inside : (refs && same) ≡ (all_refs (block ws place 2) && is_same flag (all_ground (block ws place 2))) =
    ap (λ x. x && same) is_refs ∙ (ap (λ x. all_refs (a ∷ b ∷ []) && x) is_flag ∙ ap (λ vs. all_refs vs && is_same flag (all_ground vs)) (sym both)) in
    is ∙ (inside ∙ ap (λ x. x && (all_refs (block ws place 2) && is_same flag (all_ground (block ws place 2)))) (sym (le-leb (place + 2) (length ws) within)))
