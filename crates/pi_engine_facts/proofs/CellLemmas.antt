-- Lemmas on what a store shows of an argument: another thing than a pattern's terms are.
use Rattle.std.proofs.Common.{◌≡◌, inl, inr, ℕ, suc, eqb, List, [], ◌∷◌, length, refl, ap, sym, subst, ◌∙◌, true, false, of_z}
use Rattle.std.specs.Prelude.{◌≢◌, ℤ, not}
use Rattle.std.specs.Int.{w128}
use Rattle.std.specs.Str.{bytes_eq}
use Rattle.std.proofs.lemmas.Slice.Eq.{bytes_eq-Decides}
use Rattle.std.proofs.lemmas.Bool.Decides.{Decides-eqb}
use Rattle.pi_terms.specs.Tree.{Tree}
use Rattle.pi_terms.specs.PatternTree.{PatternTree, exact_int, exact_atom, compound}
use Rattle.pi_constraints.specs.Store.{StoreView, IsName, ShowsCell}
use Rattle.pi_constraints.specs.declared.store.Cell.{Cell}
use Rattle.pi_core.specs.CoreTree.{pattern_tree, pattern_trees}
use Rattle.pi_core.specs.declared.core_program.Pattern.{Pattern, Int, Atom, Comp}
use Rattle.pi_meaning.specs.CoreMeaning.Sound.{pattern_count}
use Rattle.pi_unify.proofs.PatternLemmas.{pattern_tree-comp}
use Rattle.pi_engine_facts.specs.Roots.{Differs}
use Rattle.std.specs.declared.vec.Vec.{Vec}
use Rattle.std.specs.declared.alloc.Global.{Global}

never : false ≡ true → ⊥
never h = cc

-- ---- an integer

other-bits : (m n : ℤ) → not (eqb (of_z w128 m) (of_z w128 n)) ≡ true → n ≢ m
other-bits m n told same =
    never (sym (ap not ((Decides-eqb (of_z w128 m) (of_z w128 n)).1 (ap (of_z w128) (sym same)))) ∙ told)

pub int-int : {M : Type 0} (v : StoreView M) (cell : Cell) (m n : ℤ) (t : Tree) → cell ≡ Cell.Int m → not (eqb (of_z w128 m) (of_z w128 n)) ≡ true → ShowsCell v t cell → Differs (exact_int n) t
unfolding Differs
int-int v cell m n t is told shows = subst (Differs (exact_int n)) (sym (subst (ShowsCell v t) is shows)) (other-bits m n told)

pub int-atom : {M : Type 0} (v : StoreView M) (cell : Cell) (k : ℕ) (n : ℤ) (t : Tree) → cell ≡ Cell.Atom k → ShowsCell v t cell → Differs (exact_int n) t
unfolding Differs
int-atom v cell k n t is shows = let s : ShowsCell v t (Cell.Atom k) = subst (ShowsCell v t) is shows in subst (Differs (exact_int n)) (sym s.2) tt

pub int-comp : {M : Type 0} (v : StoreView M) (cell : Cell) (k count : ℕ) (n : ℤ) (t : Tree) → cell ≡ Cell.Comp k count → ShowsCell v t cell → Differs (exact_int n) t
unfolding Differs
int-comp v cell k count n t is shows = let s : ShowsCell v t (Cell.Comp k count) = subst (ShowsCell v t) is shows in subst (Differs (exact_int n)) (sym s.2) tt

-- ---- an atom

other-name : (name found f : List ℕ) → not (bytes_eq name found) ≡ true → found ≡ f → name ≢ f
other-name name found f told is same = never (sym (ap not ((bytes_eq-Decides name found).1 (same ∙ sym is))) ∙ told)

pub atom-int : {M : Type 0} (v : StoreView M) (cell : Cell) (m : ℤ) (name : List ℕ) (t : Tree) → cell ≡ Cell.Int m → ShowsCell v t cell → Differs (exact_atom name) t
unfolding Differs
atom-int v cell m name t is shows = let s : ShowsCell v t (Cell.Int m) = subst (ShowsCell v t) is shows in subst (Differs (exact_atom name)) (sym s) tt

pub atom-atom : {M : Type 0} (v : StoreView M) (cell : Cell) (k : ℕ) (name found : List ℕ) (t : Tree) → cell ≡ Cell.Atom k → not (bytes_eq name found) ≡ true → ((f : List ℕ) → IsName v k f → found ≡ f) → ShowsCell v t cell → Differs (exact_atom name) t
unfolding Differs
atom-atom v cell k name found t is told tells shows =
    let s : ShowsCell v t (Cell.Atom k) = subst (ShowsCell v t) is shows in
    subst (Differs (exact_atom name)) (sym s.2) (other-name name found s.0 told (tells s.0 s.1))

pub atom-comp : {M : Type 0} (v : StoreView M) (cell : Cell) (k count : ℕ) (name : List ℕ) (t : Tree) → cell ≡ Cell.Comp k count → ShowsCell v t cell → Differs (exact_atom name) t
unfolding Differs
atom-comp v cell k count name t is shows = let s : ShowsCell v t (Cell.Comp k count) = subst (ShowsCell v t) is shows in subst (Differs (exact_atom name)) (sym s.2) tt

-- ---- a compound

patterns-counted : (ps : List Pattern) → pattern_count (pattern_trees ps) ≡ length ps
unfolding pattern_count pattern_trees
patterns-counted [] = refl
patterns-counted (p ∷ ps) = ap suc (patterns-counted ps)

pub comp-int : {M : Type 0} (v : StoreView M) (cell : Cell) (m : ℤ) (name : List ℕ) (ps : List Pattern) (t : Tree) → cell ≡ Cell.Int m → ShowsCell v t cell → Differs (compound name (pattern_trees ps)) t
unfolding Differs
comp-int v cell m name ps t is shows = let s : ShowsCell v t (Cell.Int m) = subst (ShowsCell v t) is shows in subst (Differs (compound name (pattern_trees ps))) (sym s) tt

pub comp-atom : {M : Type 0} (v : StoreView M) (cell : Cell) (k : ℕ) (name : List ℕ) (ps : List Pattern) (t : Tree) → cell ≡ Cell.Atom k → ShowsCell v t cell → Differs (compound name (pattern_trees ps)) t
unfolding Differs
comp-atom v cell k name ps t is shows = let s : ShowsCell v t (Cell.Atom k) = subst (ShowsCell v t) is shows in subst (Differs (compound name (pattern_trees ps))) (sym s.2) tt

pub comp-count : {M : Type 0} (v : StoreView M) (cell : Cell) (k count : ℕ) (name : List ℕ) (ps : List Pattern) (t : Tree) → cell ≡ Cell.Comp k count → (count ≡ length ps → ⊥) → ShowsCell v t cell → Differs (compound name (pattern_trees ps)) t
unfolding Differs
comp-count v cell k count name ps t is other shows =
    let s : ShowsCell v t (Cell.Comp k count) = subst (ShowsCell v t) is shows in
    subst (Differs (compound name (pattern_trees ps))) (sym s.2) (inr (λ same. other (s.3 ∙ (sym same ∙ patterns-counted ps))))

pub comp-name : {M : Type 0} (v : StoreView M) (cell : Cell) (k count : ℕ) (name found : List ℕ) (ps : List Pattern) (t : Tree) → cell ≡ Cell.Comp k count → not (bytes_eq name found) ≡ true → ((f : List ℕ) → IsName v k f → found ≡ f) →
    ShowsCell v t cell → Differs (compound name (pattern_trees ps)) t
unfolding Differs
comp-name v cell k count name found ps t is told tells shows =
    let s : ShowsCell v t (Cell.Comp k count) = subst (ShowsCell v t) is shows in
    subst (Differs (compound name (pattern_trees ps))) (sym s.2) (inl (other-name name found s.0 told (tells s.0 s.1)))

-- ---- by the pattern

pub as-int : (p : Pattern) (n m : ℤ) (t : Tree) → p ≡ Int n → m ≡ n → Differs (exact_int m) t → Differs (pattern_tree p) t
unfolding pattern_tree
as-int p n m t is same differs = subst (λ (q : Pattern). Differs (pattern_tree q) t) (sym is) (subst (λ (k : ℤ). Differs (exact_int k) t) same differs)

pub as-atom : (p : Pattern) (name found : List ℕ) (t : Tree) → p ≡ Atom name → found ≡ name → Differs (exact_atom found) t → Differs (pattern_tree p) t
unfolding pattern_tree
as-atom p name found t is same differs = subst (λ (q : Pattern). Differs (pattern_tree q) t) (sym is) (subst (λ (f : List ℕ). Differs (exact_atom f) t) same differs)

pub as-comp : (p : Pattern) (name found : List ℕ) (ps : Vec Pattern Global) (qs : List Pattern) (t : Tree) → p ≡ Comp name ps → found ≡ name → qs ≡ ps.items → Differs (compound found (pattern_trees qs)) t → Differs (pattern_tree p) t
as-comp p name found ps qs t is same all differs =
    subst (λ (q : PatternTree). Differs q t) (sym (ap pattern_tree is ∙ pattern_tree-comp name ps))
    (subst (λ (f : List ℕ). Differs (compound f (pattern_trees ps.items)) t) same (subst (λ (rs : List Pattern). Differs (compound found (pattern_trees rs)) t) all differs))
