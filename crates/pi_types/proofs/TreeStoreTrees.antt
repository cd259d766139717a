-- The trees of a state's terms: more terms and more names change no tree, and each tree is that of its term over all trees.
use Rattle.std.proofs.Common.{◌≡◌, ℕ, zero, suc, ◌+◌, ◌<◌, ◌≤◌, List, [], ◌∷◌, ◌++◌, length, Some, refl, ap, sym, ◌∙◌, arith, append_assoc, length-append}
use Rattle.std.specs.Prelude.{slice_get, pos, ⊤}
use Rattle.std.proofs.lemmas.List.{append-nil, get_or_append_left}
use Rattle.std.proofs.lemmas.Option.{slice_get_within, get_or_from_slice_get}
use Rattle.pi_terms.specs.Tree.{Tree, int, atom, comp, tree}
use Rattle.pi_types.specs.TreeStore.{tree_in, trees_in, term_tree, grown, trees_of, name_at}
use Rattle.pi_types.specs.TreeStoreWalks.{AllBelow}
use Rattle.pi_types.specs.TreeStoreSound.{IsSoundTerm, IsSoundState}
use Rattle.pi_constraints.specs.declared.store.Ref.{Ref}
use Rattle.pi_types.specs.declared.tree_store.state.StoredTerm.{StoredTerm}
use Rattle.pi_types.specs.declared.tree_store.state.TreeState.{TreeState}
use Rattle.pi_terms.proofs.GetLemmas.{get_append_seam, get_some}

abbrev pub Names : Type 0
Names = List (List ℕ)

pub grown_append : (names : Names) (acc : List Tree) (cs ds : List StoredTerm) → grown names acc (cs ++ ds) ≡ grown names (grown names acc cs) ds
unfolding grown
grown_append names acc [] ds = refl
grown_append names acc (c ∷ cs) ds = grown_append names (acc ++ term_tree names acc c ∷ []) cs ds

pub trees_more : (names : Names) (cs : List StoredTerm) (c : StoredTerm) → grown names [] (cs ++ c ∷ []) ≡ grown names [] cs ++ term_tree names (grown names [] cs) c ∷ []
unfolding grown
trees_more names cs c = grown_append names [] cs (c ∷ [])

pub grown_extends : (names : Names) (acc : List Tree) (cs : List StoredTerm) → (more : List Tree) × (grown names acc cs ≡ acc ++ more)
unfolding grown
grown_extends names acc [] = ([], sym (append-nil acc))
grown_extends names acc (c ∷ cs) =
    let t : Tree = term_tree names acc c in
    let r = grown_extends names (acc ++ t ∷ []) cs in
    (t ∷ r.0, r.1 ∙ append_assoc acc (t ∷ []) r.0)

pub length_grown : (names : Names) (acc : List Tree) (cs : List StoredTerm) → length (grown names acc cs) ≡ length acc + length cs
unfolding grown
length_grown names acc [] = omega arith
length_grown names acc (c ∷ cs) =
    let t : Tree = term_tree names acc c in
    let r : length (grown names (acc ++ t ∷ []) cs) ≡ length (acc ++ t ∷ []) + length cs = length_grown names (acc ++ t ∷ []) cs in
    omega (arith, length-append acc (t ∷ []))

pub length_trees : (names : Names) (s : TreeState) → length (trees_of names s) ≡ length s.terms
length_trees names s = let l : length (grown names [] s.terms) ≡ 0 + length s.terms = length_grown names [] s.terms in omega arith

-- where a term's tree stands
record IsPlaced (names : Names) (acc : List Tree) (cs : List StoredTerm) (i : ℕ) (c : StoredTerm) : Type 0 where
  front : List Tree
  more : List Tree
  whole : grown names acc cs ≡ front ++ term_tree names front c ∷ more
  place : length front ≡ length acc + i

placed : (names : Names) (acc : List Tree) (cs : List StoredTerm) (i : ℕ) (c : StoredTerm) → slice_get cs i ≡ Some c → IsPlaced names acc cs i c
unfolding grown
placed names acc [] i c e = absurd (cc)
placed names acc (d ∷ cs) zero c e =
    let same : d ≡ c = cc in
    let t : Tree = term_tree names acc d in
    let r = grown_extends names (acc ++ t ∷ []) cs in
    record { front = acc; more = r.0; whole = (r.1 ∙ append_assoc acc (t ∷ []) r.0) ∙ ap (λ x. acc ++ term_tree names acc x ∷ r.0) same; place = omega arith }
placed names acc (d ∷ cs) (suc i) c e =
    let t : Tree = term_tree names acc d in
    let p : IsPlaced names (acc ++ t ∷ []) cs i c = placed names (acc ++ t ∷ []) cs i c e in
    let l : length p.front ≡ length (acc ++ t ∷ []) + i = p.place in
    record { front = p.front; more = p.more; whole = p.whole; place = omega (arith, length-append acc (t ∷ [])) }

pub tree_in_more : (trees more : List Tree) (r : Ref) → r.number < length trees → tree_in (trees ++ more) r ≡ tree_in trees r
tree_in_more trees more r h = get_or_append_left trees more (int (pos 0)) r.number h

pub trees_in_more : (trees more : List Tree) (n : ℕ) (rs : List Ref) → AllBelow n rs → n ≤ length trees → trees_in (trees ++ more) rs ≡ trees_in trees rs
unfolding trees_in AllBelow
trees_in_more trees more n [] h l = refl
trees_in_more trees more n (r ∷ rs) h l =
    let here : r.number < n = h.0 in
    ap (λ t. tree t (trees_in (trees ++ more) rs)) (tree_in_more trees more r (omega arith)) ∙ ap (λ ts. tree (tree_in trees r) ts) (trees_in_more trees more n rs h.1 l)

-- the arguments of a term stand below it
abbrev pub IsBelow : ℕ → StoredTerm → Type 0
IsBelow n (StoredTerm.Var m) = ⊤
IsBelow n (StoredTerm.Int m) = ⊤
IsBelow n (StoredTerm.Atom k) = ⊤
IsBelow n (StoredTerm.Comp k args is_ground) = AllBelow n args

pub is_below : (names : Names) (trees : List Tree) (i : ℕ) (c : StoredTerm) → IsSoundTerm names trees i c → IsBelow i c
is_below names trees i (StoredTerm.Var n) h = tt
is_below names trees i (StoredTerm.Int n) h = tt
is_below names trees i (StoredTerm.Atom k) h = tt
is_below names trees i (StoredTerm.Comp k args is_ground) h = h.below

pub term_tree_more : (names : Names) (trees more : List Tree) (n : ℕ) (c : StoredTerm) → IsBelow n c → n ≤ length trees → term_tree names (trees ++ more) c ≡ term_tree names trees c
term_tree_more names trees more n (StoredTerm.Var m) h l = refl
term_tree_more names trees more n (StoredTerm.Int m) h l = refl
term_tree_more names trees more n (StoredTerm.Atom k) h l = refl
term_tree_more names trees more n (StoredTerm.Comp k args is_ground) h l = ap (λ ts. comp (name_at names k) ts) (trees_in_more trees more n args h l)

-- each tree is that of its term over all trees
pub tree_is : (names : Names) (s : TreeState) (h : IsSoundState names s) (i : ℕ) (c : StoredTerm) → slice_get s.terms i ≡ Some c → slice_get (trees_of names s) i ≡ Some (term_tree names (trees_of names s) c)
tree_is names s h i c e =
    let p : IsPlaced names [] s.terms i c = placed names [] s.terms i c e in
    let t : Tree = term_tree names p.front c in
    let l : length p.front ≡ i = let q : length p.front ≡ 0 + i = p.place in omega arith in
    let same : term_tree names (trees_of names s) c ≡ t = ap (λ ts. term_tree names ts c) p.whole ∙ term_tree_more names p.front (t ∷ p.more) i c (is_below names (trees_of names s) i c (h.terms i c e)) (omega arith) in
    let at : slice_get (p.front ++ t ∷ p.more) (length p.front) ≡ Some t = get_append_seam p.front p.more t in
    ap (λ ts. slice_get ts i) p.whole ∙ (ap (λ j. slice_get (p.front ++ t ∷ p.more) j) (sym l) ∙ (at ∙ ap Some (sym same)))

-- the term of a tree
pub record IsTermOf (names : Names) (s : TreeState) (i : ℕ) (t : Tree) : Type 0 where
  pub term : StoredTerm
  pub stored : slice_get s.terms i ≡ Some term
  pub is : t ≡ term_tree names (trees_of names s) term

pub term_at : (names : Names) (s : TreeState) (h : IsSoundState names s) (i : ℕ) (t : Tree) → slice_get (trees_of names s) i ≡ Some t → IsTermOf names s i t
term_at names s h i t e =
    let l : length (trees_of names s) ≡ length s.terms = length_trees names s in
    let w : i < length (trees_of names s) = slice_get_within (trees_of names s) i t e in
    let c = get_some s.terms i (omega arith) in
    let q = tree_is names s h i c.0 c.1 in
    record { term = c.0; stored = c.1; is = cc }

pub tree_in_is : (trees : List Tree) (r : Ref) (t : Tree) → slice_get trees r.number ≡ Some t → tree_in trees r ≡ t
tree_in_is trees r t e = get_or_from_slice_get trees r.number t (int (pos 0)) e

-- More names

abbrev pub IsNamed : Names → StoredTerm → Type 0
IsNamed names (StoredTerm.Var m) = ⊤
IsNamed names (StoredTerm.Int m) = ⊤
IsNamed names (StoredTerm.Atom k) = k < length names
IsNamed names (StoredTerm.Comp k args is_ground) = k < length names

pub is_named : (names : Names) (trees : List Tree) (i : ℕ) (c : StoredTerm) → IsSoundTerm names trees i c → IsNamed names c
is_named names trees i (StoredTerm.Var n) h = tt
is_named names trees i (StoredTerm.Int n) h = tt
is_named names trees i (StoredTerm.Atom k) h = h
is_named names trees i (StoredTerm.Comp k args is_ground) h = h.named

pub name_more : (names more : Names) (k : ℕ) → k < length names → name_at (names ++ more) k ≡ name_at names k
name_more names more k h = get_or_append_left names more [] k h

pub term_tree_names : (names more : Names) (trees : List Tree) (c : StoredTerm) → IsNamed names c → term_tree (names ++ more) trees c ≡ term_tree names trees c
term_tree_names names more trees (StoredTerm.Var n) h = refl
term_tree_names names more trees (StoredTerm.Int n) h = refl
term_tree_names names more trees (StoredTerm.Atom k) h = ap atom (name_more names more k h)
term_tree_names names more trees (StoredTerm.Comp k args is_ground) h = ap (λ name. comp name (trees_in trees args)) (name_more names more k h)

grown_names : (names more : Names) (acc : List Tree) (cs : List StoredTerm) → ((i : ℕ) (c : StoredTerm) → slice_get cs i ≡ Some c → IsNamed names c) → grown (names ++ more) acc cs ≡ grown names acc cs
unfolding grown
grown_names names more acc [] h = refl
grown_names names more acc (c ∷ cs) h = ap (λ t. grown (names ++ more) (acc ++ t ∷ []) cs) (term_tree_names names more acc c (h 0 c refl)) ∙ grown_names names more (acc ++ term_tree names acc c ∷ []) cs (λ i d e. h (suc i) d e)

pub trees_names : (names more : Names) (s : TreeState) → IsSoundState names s → trees_of (names ++ more) s ≡ trees_of names s
trees_names names more s h = grown_names names more [] s.terms (λ i c e. is_named names (trees_of names s) i c (h.terms i c e))
