-- Trees of Refs: those that are there stay when there is more.
use Rattle.std.proofs.Common.{◌≡◌, ℕ, zero, suc, ◌+◌, ◌-◌, ◌<◌, ◌≤◌, Bool, true, false, cond, nat_lt, nat_le, ◌&&◌, List, [], ◌∷◌, ◌++◌, length, take, drop, Option, Some, None, ⊎_elim, refl, ap, sym, ◌∙◌, arith, length-append}
use Rattle.std.specs.Prelude.{option_map, slice_index}
use Rattle.std.proofs.lemmas.Bool.{leb-true, le-leb, ltb-true, lt-ltb, and_parts, and_from, cond-true, cases_lt}
use Rattle.std.proofs.lemmas.Option.{cond_some}
use Rattle.std.proofs.lemmas.List.{drop-append-le, take-append-le, length-drop, get_or_append_left, get_or_past}
use Rattle.pi_terms.specs.Tree.{Tree, var, int, atom, comp, Trees, tree}
use Rattle.pi_store_blocks.specs.Form.{form_of, all_ground, header_of, wide_of}
use Rattle.pi_store_blocks.specs.Heap.{Heap, in_front, all_trees, compound, is_same, block, is_block, compound_at, headed, tree_with, tree_for, term_at, Grows, TreesStay}
use Rattle.pi_region.specs.Entry.{value_of}
use Rattle.pi_store_blocks.specs.declared.form.Form.{Form}
use Rattle.pi_store_blocks.specs.declared.header.Header.{Header}

abbrev pub TreeOf : Type 0
TreeOf = ℕ → Option Tree

-- what has a tree has it still
abbrev pub Stays : TreeOf → TreeOf → Type 0
Stays f g = (q : ℕ) (u : Tree) → f q ≡ Some u → g q ≡ Some u

-- the parts of a tree that is there
pub record IsFront (o : Option Tree) (os : Option Trees) (ts : Trees) : Type 0 where
  pub first : Tree
  pub rest : Trees
  pub here : o ≡ Some first
  pub behind : os ≡ Some rest
  pub is : ts ≡ tree first rest

pub front_is : (o : Option Tree) (os : Option Trees) (ts : Trees) → in_front o os ≡ Some ts → IsFront o os ts
front_is None os ts e = absurd (cc)
front_is (Some t) None ts e = absurd (cc)
front_is (Some t) (Some us) ts e = record { first = t; rest = us; here = refl; behind = refl; is = cc }

pub front_from : (o : Option Tree) (os : Option Trees) (t : Tree) (us : Trees) → o ≡ Some t → os ≡ Some us → in_front o os ≡ Some (tree t us)
front_from o os t us a b = ap (λ x. in_front x os) a ∙ ap (in_front (Some t)) b

pub record IsCompound (test : Bool) (name : Option (List ℕ)) (ts : Option Trees) (t : Tree) : Type 0 where
  pub text : List ℕ
  pub trees : Trees
  pub holds : test ≡ true
  pub named : name ≡ Some text
  pub args : ts ≡ Some trees
  pub is : t ≡ comp text trees

pub compound_is : (b : Bool) (name : Option (List ℕ)) (ts : Option Trees) (t : Tree) → compound b name ts ≡ Some t → IsCompound b name ts t
compound_is false name ts t e = absurd (cc)
compound_is true None ts t e = absurd (cc)
compound_is true (Some n) None t e = absurd (cc)
compound_is true (Some n) (Some us) t e = record { text = n; trees = us; holds = refl; named = refl; args = refl; is = cc }

pub compound_from : (b : Bool) (name : Option (List ℕ)) (ts : Option Trees) (n : List ℕ) (us : Trees) → b ≡ true → name ≡ Some n → ts ≡ Some us → compound b name ts ≡ Some (comp n us)
compound_from b name ts n us a c d = ap (λ x. compound x name ts) a ∙ (ap (λ x. compound true x ts) c ∙ ap (λ x. compound true (Some n) x) d)

-- a block within the words
pub record IsBlock (words : List ℕ) (place count : ℕ) (flag : Bool) : Type 0 where
  pub within : place + count ≤ length words
  pub same : is_same flag (all_ground (block words place count)) ≡ true

pub block_is : (words : List ℕ) (place count : ℕ) (flag : Bool) → is_block words place count flag ≡ true → IsBlock words place count flag
block_is words place count flag e =
    let p = and_parts (nat_le (place + count) (length words)) (is_same flag (all_ground (block words place count))) e in
    record { within = leb-true (place + count) (length words) p.0; same = p.1 }

pub block_from : (words : List ℕ) (place count : ℕ) (flag : Bool) → place + count ≤ length words → is_same flag (all_ground (block words place count)) ≡ true → is_block words place count flag ≡ true
block_from words place count flag le same = and_from (nat_le (place + count) (length words)) (is_same flag (all_ground (block words place count))) (le-leb (place + count) (length words) le) same

pub block_more : (ws more : List ℕ) (place count : ℕ) → place + count ≤ length ws → block (ws ++ more) place count ≡ block ws place count
block_more ws more place count h =
    let l : length (drop place ws) ≡ length ws - place = length-drop place ws in
    ap (take count) (drop-append-le place ws more (omega arith)) ∙ take-append-le count (drop place ws) more (omega arith)

pub all_more : (f g : TreeOf) → Stays f g → (rs : List ℕ) (ts : Trees) → all_trees f rs ≡ Some ts → all_trees g rs ≡ Some ts
unfolding all_trees
all_more f g stays [] ts e = e
all_more f g stays (r ∷ rs) ts e =
    let p = front_is (f r) (all_trees f rs) ts e in
    front_from (g r) (all_trees g rs) p.first p.rest (stays r p.first p.here) (all_more f g stays rs p.rest p.behind) ∙ ap Some (sym p.is)

compound_more : (f g : TreeOf) (h k : Heap) → Grows h k → Stays f g → (name place count : ℕ) (flag : Bool) (t : Tree) → compound_at f h name place count flag ≡ Some t → compound_at g k name place count flag ≡ Some t
compound_more f g h k grows stays name place count flag t e =
    let c = compound_is (is_block h.words place count flag) (h.names name) (all_trees f (block h.words place count)) t e in
    let b = block_is h.words place count flag c.holds in
    let more = grows.words in
    let l : length k.words ≡ length h.words + length more.0 = ap length more.1 ∙ length-append h.words more.0 in
    let same : block k.words place count ≡ block h.words place count = ap (λ ws. block ws place count) more.1 ∙ block_more h.words more.0 place count b.within in
    let le : place + count ≤ length h.words = b.within in
    compound_from (is_block k.words place count flag) (k.names name) (all_trees g (block k.words place count)) c.text c.trees
    (block_from k.words place count flag (omega arith) (ap (λ ws. is_same flag (all_ground ws)) same ∙ b.same))
    (grows.names name c.text c.named)
    (ap (all_trees g) same ∙ all_more f g stays (block h.words place count) c.trees c.args)
    ∙ ap Some (sym c.is)

pub compound_within : (f : TreeOf) (h : Heap) (name place count : ℕ) (flag : Bool) (t : Tree) → compound_at f h name place count flag ≡ Some t → place + count ≤ length h.words
compound_within f h name place count flag t e =
    let c = compound_is (is_block h.words place count flag) (h.names name) (all_trees f (block h.words place count)) t e in
    (block_is h.words place count flag c.holds).within

word_more : (h k : Heap) → Grows h k → (place : ℕ) → place < length h.words → slice_index k.words place ≡ slice_index h.words place
word_more h k grows place lt = let more = grows.words in ap (λ ws. slice_index ws place) more.1 ∙ get_or_append_left h.words more.0 0 place lt

pub record IsMapped {A B : Type 0} (f : A → B) (o : Option A) (y : B) : Type 0 where
  pub it : A
  pub here : o ≡ Some it
  pub is : y ≡ f it

pub mapped_is : {A B : Type 0} (f : A → B) (o : Option A) (y : B) → option_map f o ≡ Some y → IsMapped f o y
mapped_is f None y e = absurd (cc)
mapped_is f (Some x) y e = record { it = x; here = refl; is = cc }

-- what is there only where a test holds
pub guarded_is : (b : Bool) (o : Option Tree) (t : Tree) → cond b o None ≡ Some t → (b ≡ true) × (o ≡ Some t)
guarded_is false o t e = absurd (cc)
guarded_is true o t e = (refl, e)

pub guarded_from : (b : Bool) (o : Option Tree) (t : Tree) → b ≡ true → o ≡ Some t → cond b o None ≡ Some t
guarded_from b o t p e = cond-true b o None p ∙ e

-- a header stands within the words
pub headed_within : (f : TreeOf) (h : Heap) (place : ℕ) (flag : Bool) (t : Tree) → headed f h place flag (header_of (slice_index h.words place)) ≡ Some t → place < length h.words
headed_within f h place flag t e = ⊎_elim
    (λ lt. lt)
    (λ le. let gone : headed f h place flag Header.Nothing ≡ Some t = ap (λ v. headed f h place flag (header_of v)) (sym (get_or_past h.words place 0 le)) ∙ e in absurd (cc))
    (cases_lt place (length h.words))

headed_more : (f g : TreeOf) (h k : Heap) → Grows h k → Stays f g → (place : ℕ) (flag : Bool) → place < length h.words → (header : Header) (t : Tree) → headed f h place flag header ≡ Some t → headed g k place flag header ≡ Some t
headed_more f g h k grows stays place flag lt Header.Nothing t e = absurd (cc)
headed_more f g h k grows stays place flag lt (Header.Comp name count own) t e =
    let p = guarded_is (nat_le count place) (compound_at f h name (place - count) count flag) t e in
    guarded_from (nat_le count place) (compound_at g k name (place - count) count flag) t p.0 (compound_more f g h k grows stays name (place - count) count flag t p.1)
headed_more f g h k grows stays place flag lt (Header.Wide top) t e =
    ap (λ v. cond (nat_le 2 place && flag) (Some (int (wide_of top (value_of v) (value_of (slice_index k.words (place - 1)))))) None) (word_more h k grows (place - 2) (omega arith))
    ∙ (ap (λ v. cond (nat_le 2 place && flag) (Some (int (wide_of top (value_of (slice_index h.words (place - 2))) (value_of v)))) None) (word_more h k grows (place - 1) (omega arith)) ∙ e)

with_more : (f g : TreeOf) (h k : Heap) → Grows h k → Stays f g → (form : Form) (t : Tree) → tree_with f h form ≡ Some t → tree_with g k form ≡ Some t
with_more f g h k grows stays (Form.Var n) t e =
    let p = cond_some (nat_lt n h.next) (var n) t e in
    let lt : n < h.next = ltb-true n h.next p.0 in
    let le : h.next ≤ k.next = grows.next in
    cond-true (nat_lt n k.next) (Some (var n)) None (lt-ltb n k.next (omega arith)) ∙ ap Some p.1
with_more f g h k grows stays (Form.Int n) t e = e
with_more f g h k grows stays (Form.Atom j) t e =
    let p = mapped_is atom (h.names j) t e in
    ap (option_map atom) (grows.names j p.it p.here) ∙ ap Some (sym p.is)
with_more f g h k grows stays (Form.Pair place flag) t e = compound_more f g h k grows stays 0 place 2 flag t e
with_more f g h k grows stays (Form.Comp place flag) t e =
    let lt : place < length h.words = headed_within f h place flag t e in
    ap (λ v. headed g k place flag (header_of v)) (word_more h k grows place lt) ∙ headed_more f g h k grows stays place flag lt (header_of (slice_index h.words place)) t e
with_more f g h k grows stays (Form.Data n) t e = absurd (cc)

pub tree_more : (d m : ℕ) (h k : Heap) → Grows h k → d ≤ m → (r : ℕ) (t : Tree) → tree_for d h r ≡ Some t → tree_for m k r ≡ Some t
unfolding tree_for
tree_more zero m h k grows le r t e = absurd (cc)
tree_more (suc d) zero h k grows le r t e = absurd (omega arith)
tree_more (suc d) (suc m) h k grows le r t e = with_more (tree_for d h) (tree_for m k) h k grows (λ q u f. tree_more d m h k grows (omega arith) q u f) (form_of r) t e

pub trees_stay : TreesStay
trees_stay old new grows r t e =
    let more = grows.words in
    let l : length new.words ≡ length old.words + length more.0 = ap length more.1 ∙ length-append old.words more.0 in
    tree_more (suc (length old.words)) (suc (length new.words)) old new grows (omega arith) r t e

-- the tree of a Ref by its form
pub tree_by : (h : Heap) (r : ℕ) (f : Form) → form_of r ≡ f → term_at h r ≡ tree_with (tree_for (length h.words) h) h f
unfolding tree_for
tree_by h r f e = ap (tree_with (tree_for (length h.words) h) h) e
