-- Only variables that were made occur in the tree of a Ref.
use Rattle.std.proofs.Common.{◌≡◌, ℕ, zero, suc, ◌-◌, ◌<◌, ◌≤◌, ⊎_elim, Bool, cond, nat_lt, nat_le, ◌&&◌, List, [], ◌∷◌, length, Some, sym, subst, ap, arith}
use Rattle.std.specs.Prelude.{slice_index}
use Rattle.std.proofs.lemmas.Bool.{ltb-true}
use Rattle.std.proofs.lemmas.Option.{cond_some}
use Rattle.pi_terms.specs.Tree.{Tree, var, int, atom, comp, Trees, no_trees}
use Rattle.pi_terms.specs.Variables.{Occurs, OccursInAny}
use Rattle.pi_store_blocks.specs.declared.form.Form.{Form}
use Rattle.pi_store_blocks.specs.declared.header.Header.{Header}
use Rattle.pi_store_blocks.specs.Form.{form_of, header_of}
use Rattle.pi_store_blocks.specs.Heap.{Heap, all_trees, block, is_block, compound_at, wide_at, headed, tree_with, tree_for, term_at, TreesSpeakBelow}
use Rattle.pi_store_blocks.proofs.HeapLemmas.{TreeOf, compound_is, front_is, mapped_is, guarded_is}

abbrev Speaks : ℕ → Tree → Type 0
Speaks next t = (n : ℕ) → Occurs n t → n < next

abbrev All_speak : TreeOf → ℕ → Type 0
All_speak f next = (r : ℕ) (t : Tree) → f r ≡ Some t → Speaks next t

refs_speak : (f : TreeOf) (next : ℕ) → All_speak f next → (rs : List ℕ) (ts : Trees) → all_trees f rs ≡ Some ts → (n : ℕ) → OccursInAny n ts → n < next
unfolding all_trees OccursInAny
refs_speak f next speak [] ts e n o = let none : ts ≡ no_trees = cc in absurd (subst (OccursInAny n) none o)
refs_speak f next speak (r ∷ rs) ts e n o =
    let p = front_is (f r) (all_trees f rs) ts e in
    ⊎_elim (λ here. speak r p.first p.here n here) (λ there. refs_speak f next speak rs p.rest p.behind n there) (subst (OccursInAny n) p.is o)

compound_speaks : (f : TreeOf) (h : Heap) → All_speak f h.next → (name place count : ℕ) (flag : Bool) (t : Tree) → compound_at f h name place count flag ≡ Some t → Speaks h.next t
unfolding Occurs
compound_speaks f h speak name place count flag t e n o =
    let c = compound_is (is_block h.words place count flag) (h.names name) (all_trees f (block h.words place count)) t e in
    refs_speak f h.next speak (block h.words place count) c.trees c.args n (subst (Occurs n) c.is o)

headed_speaks : (f : TreeOf) (h : Heap) → All_speak f h.next → (place : ℕ) (flag : Bool) (header : Header) (t : Tree) → headed f h place flag header ≡ Some t → Speaks h.next t
unfolding Occurs
headed_speaks f h speak place flag Header.Nothing t e n o = absurd (cc)
headed_speaks f h speak place flag (Header.Comp name count own) t e n o =
    compound_speaks f h speak name (place - count) count flag t (guarded_is (nat_le count place) (compound_at f h name (place - count) count flag) t e).1 n o
headed_speaks f h speak place flag (Header.Wide top) t e n o = absurd (subst (Occurs n) (sym (cond_some (nat_le 2 place && flag) (wide_at h place top) t e).1) o)

form_speaks : (f : TreeOf) (h : Heap) → All_speak f h.next → (form : Form) (t : Tree) → tree_with f h form ≡ Some t → Speaks h.next t
unfolding Occurs
form_speaks f h speak (Form.Var m) t e n o =
    let v = cond_some (nat_lt m h.next) (var m) t e in
    let lt : m < h.next = ltb-true m h.next v.0 in
    let same : m ≡ n = subst (Occurs n) (sym v.1) o in
    omega arith
form_speaks f h speak (Form.Int m) t e n o = let same : int m ≡ t = cc in absurd (subst (Occurs n) (sym same) o)
form_speaks f h speak (Form.Atom k) t e n o = absurd (subst (Occurs n) (mapped_is atom (h.names k) t e).is o)
form_speaks f h speak (Form.Pair place flag) t e n o = compound_speaks f h speak 0 place 2 flag t e n o
form_speaks f h speak (Form.Comp place flag) t e n o = headed_speaks f h speak place flag (header_of (slice_index h.words place)) t e n o
form_speaks f h speak (Form.Data m) t e n o = absurd (cc)

for_speaks : (d : ℕ) (h : Heap) → All_speak (tree_for d h) h.next
unfolding tree_for
for_speaks zero h r t e = absurd (cc)
for_speaks (suc d) h r t e = form_speaks (tree_for d h) h (for_speaks d h) (form_of r) t e

pub trees_speak_below : TreesSpeakBelow
trees_speak_below h r t e = for_speaks (suc (length h.words)) h r t e
