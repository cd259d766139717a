-- Which numbers are Refs, and what a compound is made of.
use Rattle.std.proofs.Common.{◌≡◌, ℕ, zero, suc, ◌+◌, ◌<◌, ◌≤◌, ⊎_elim, Bool, List, [], ◌∷◌, length, Some, get_or, slice_index, refl, ap, sym, subst, ◌∙◌, arith}
use Rattle.std.specs.Prelude.{◌↔◌, IsTrue}
use Rattle.std.proofs.lemmas.Bool.{cases_lt}
use Rattle.std.proofs.lemmas.List.{append-nil, length-map}
use Rattle.pi_terms.specs.Tree.{Tree, comp, Trees, no_trees, tree}
use Rattle.pi_terms.proofs.GetLemmas.{get_some}
use Rattle.pi_constraints.specs.Store.{Stays, AreTerms}
use Rattle.pi_constraints.specs.declared.store.Ref.{Ref}
use Rattle.pi_region.specs.Image.{Image, numbers_of}
use Rattle.pi_region.specs.Back.{Advances}
use Rattle.pi_region.proofs.BackLemmas.{through}
use Rattle.pi_store_blocks.specs.Form.{form_of}
use Rattle.pi_store_blocks.specs.Heap.{Heap, all_trees, term_at, Grows, Appends, Makes}
use Rattle.pi_store_blocks.specs.Placed.{IsNamed, IsRefIn, AreRefsIn}
use Rattle.pi_store_blocks.proofs.HeapLemmas.{TreeOf, front_is, front_from, all_more, trees_stay}
use Rattle.pi_store_blocks.specs.NameTable.{NameTable, is_given, names_of}
use Rattle.pi_store.specs.Holding.{heap_of, view_of}
use Rattle.pi_store.specs.Sound.{IsSound}
use Rattle.pi_store.specs.Changed.{IsNumbered}
use Rattle.pi_store.proofs.NameLemmas.{stay, given_text, given_of}
use Rattle.pi_store.proofs.SoundLemmas.{sound_numbered, term_is_ref}
use Rattle.pi_store.proofs.KeepLemmas.{heap_grows, stays_all, same_then, same_appended, advances_numbered, tables_numbered, advances_appends}

-- A test of a Ref

pub named_by : (t : NameTable) (n k : ℕ) (b : Bool) → b ≡ is_given t n k → (IsTrue b → k < length t.texts) → IsTrue b ↔ IsNamed (names_of t n) k
named_by t n k b is known =
    (λ e. let x = get_some t.texts k (known e) in (x.0, given_text t n k x.0 (sym is ∙ e) x.1), λ named. is ∙ given_of t n k named.0 named.1)

-- Refs of a list, one by one

number_at : (rs : List Ref) (k : ℕ) (d : Ref) → k < length rs → slice_index (numbers_of rs) k ≡ (get_or rs k d).number
number_at [] k d lt = absurd (omega arith)
number_at (r ∷ rs) zero d lt = refl
number_at (r ∷ rs) (suc k) d lt = number_at rs k d (omega arith)

pub ref_at : (h : Heap) (rs : List Ref) (k : ℕ) (d : Ref) → k < length rs → AreRefsIn h (numbers_of rs) → IsRefIn h (form_of (get_or rs k d).number)
ref_at h rs k d lt are =
    let l : length (numbers_of rs) ≡ length rs = length-map rs (λ r. r.number) in
    subst (λ (n : ℕ). IsRefIn h (form_of n)) (number_at rs k d lt) (are k (omega arith))

pub refs_on : (h : Heap) (rs : List Ref) (n : ℕ) (d : Ref) → n < length rs → ((k : ℕ) → k < n → IsRefIn h (form_of (slice_index (numbers_of rs) k))) → IsRefIn h (form_of (get_or rs n d).number)
    → (k : ℕ) → k < n + 1 → IsRefIn h (form_of (slice_index (numbers_of rs) k))
refs_on h rs n d lt before here k le = ⊎_elim
    (λ less. before k less)
    (λ same. let e : n ≡ k = omega arith in subst (λ (m : ℕ). IsRefIn h (form_of (slice_index (numbers_of rs) m))) e (subst (λ (m : ℕ). IsRefIn h (form_of m)) (sym (number_at rs n d lt)) here))
    (cases_lt k n)

-- Terms of arguments

are_trees : (t : NameTable) (i : Image) (rs : List Ref) (ts : Trees) → AreTerms (view_of t i) rs ts → all_trees (term_at (heap_of t i)) (numbers_of rs) ≡ Some ts
unfolding AreTerms all_trees
are_trees t i [] no_trees are = refl
are_trees t i [] (tree x ts) are = absurd are
are_trees t i (r ∷ rs) no_trees are = absurd are
are_trees t i (r ∷ rs) (tree x ts) are =
    front_from (term_at (heap_of t i) r.number) (all_trees (term_at (heap_of t i)) (numbers_of rs)) x ts are.0 (are_trees t i rs ts are.1)

each_tree : (f : TreeOf) (rs : List ℕ) (ts : Trees) → all_trees f rs ≡ Some ts → (i : ℕ) → i < length rs → (x : Tree) × (f (slice_index rs i) ≡ Some x)
unfolding all_trees
each_tree f [] ts e i lt = absurd (omega arith)
each_tree f (r ∷ rs) ts e zero lt = let p = front_is (f r) (all_trees f rs) ts e in (p.first, p.here)
each_tree f (r ∷ rs) ts e (suc i) lt = let p = front_is (f r) (all_trees f rs) ts e in each_tree f rs p.rest p.behind i (omega arith)

-- the trees of arguments, where a name got a number since
record Ready (u : NameTable) (j : Image) (rs : List Ref) (ts : Trees) : Type 0 where
  trees : all_trees (term_at (heap_of u j)) (numbers_of rs) ≡ Some ts
  refs : AreRefsIn (heap_of u j) (numbers_of rs)

ready : (t u : NameTable) (i j : Image) (name : List ℕ) (rs : List Ref) (ts : Trees) → IsSound t i → IsNumbered t u i j name → AreTerms (view_of t i) rs ts → Ready u j rs ts
ready t u i j name rs ts s is are =
    let grows : Grows (heap_of t i) (heap_of u j) = heap_grows t u i j is.keeps (advances_numbered t u i j name is s) in
    let all : all_trees (term_at (heap_of u j)) (numbers_of rs) ≡ Some ts =
    all_more (term_at (heap_of t i)) (term_at (heap_of u j)) (λ q x e. trees_stay (heap_of t i) (heap_of u j) grows q x e) (numbers_of rs) ts (are_trees t i rs ts are) in
    record {
      trees = all;
      refs = λ k lt. let x = each_tree (term_at (heap_of u j)) (numbers_of rs) ts all k lt in term_is_ref u j (sound_numbered t u i j name is s) (slice_index (numbers_of rs) k) x.0 x.1;
    }

-- What makes a compound

pub compound_stays : (t u : NameTable) (i j l : Image) (name : List ℕ) → IsSound t i → IsNumbered t u i j name → Appends j l → Stays (view_of t i) (view_of u l)
compound_stays t u i j l name s is more =
    let v : IsSound u j = sound_numbered t u i j name is s in
    stays_all t u i l s is.keeps (through i j l (advances_numbered t u i j name is s) (advances_appends j l v.right.trail more))
    (same_then i j l (tables_numbered t u i j name is) (same_appended j l more))

pub compound_made : (t u : NameTable) (i j l : Image) (name : List ℕ) (k r : ℕ) (rs args : List Ref) (ts : Trees) → IsSound t i → IsNumbered t u i j name → Appends j l
    → names_of u (length j.region) k ≡ Some name → (AreRefsIn (heap_of u j) (numbers_of args) → rs ≡ args) → Makes j.region l.region k (numbers_of rs) r → AreTerms (view_of t i) args ts
    → term_at (heap_of u l) r ≡ Some (comp name ts)
compound_made t u i j l name k r rs args ts s is more named kept makes are =
    let v : IsSound u j = sound_numbered t u i j name is s in
    let x = ready t u i j name args ts s is are in
    let trees : all_trees (term_at (heap_of u j)) (numbers_of rs) ≡ Some ts = ap (λ qs. all_trees (term_at (heap_of u j)) (numbers_of qs)) (kept x.refs) ∙ x.trees in
    let a : Advances j l = advances_appends j l v.right.trail more in
    let le : length j.region ≤ length l.region = a.longer in
    let vars : l.variables ≡ j.variables = ap (λ (m : Image). m.variables) more.1 in
    trees_stay (record (heap_of u j) { words = l.region }) (heap_of u l)
    (record { names = λ m text e. stay u (length j.region) (length l.region) m text le e; next = let n : length l.variables ≡ length j.variables = ap length vars in omega arith; words = ([], sym (append-nil l.region)) })
    r (comp name ts) (makes (heap_of u j) name ts refl named trees)
