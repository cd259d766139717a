-- Terms without variables, and compounds that are made.
use Rattle.std.proofs.Common.{◌≡◌, ℕ, ◌<◌, Bool, true, false, List, [], ◌∷◌, ◌++◌, length, Option, Some, refl, ap, sym, subst, ◌∙◌, ◌⊎◌, inl, inr, arith, cond}
use Rattle.std.proofs.lemmas.Bool.Decides.{nat_tests}
use Rattle.std.specs.Prelude.{nat_lt, slice_get, IsTrue, ◌↔◌}
use Rattle.std.proofs.lemmas.Option.{slice_get_within, get_or_from_slice_get}
use Rattle.pi_terms.specs.Tree.{Tree, comp, Trees, no_trees, tree}
use Rattle.pi_terms.specs.Variables.{IsGround, occurrences, occurrences_all, firsts}
use Rattle.pi_constraints.specs.Store.{AreTerms}
use Rattle.pi_types.specs.TreeStore.{tree_in, trees_in, term_tree, trees_of, store_view, name_at}
use Rattle.pi_types.specs.TreeStoreWalks.{AllBelow, ground_flag, is_ground_in, all_ground_in}
use Rattle.pi_types.specs.TreeStoreSound.{IsMadeBelow, IsSoundState, IsSoundTerm}
use Rattle.pi_constraints.specs.declared.store.Ref.{Ref}
use Rattle.pi_types.specs.declared.tree_store.state.StoredTerm.{StoredTerm}
use Rattle.pi_types.specs.declared.tree_store.state.TreeState.{TreeState}
use Rattle.pi_terms.proofs.GetLemmas.{get_some}
use Rattle.pi_types.proofs.TreeStoreTrees.{Names, IsTermOf, term_at, tree_in_is, length_trees, trees_names}

-- no variable stands in it
abbrev Bare : Tree → Type 0
Bare t = occurrences t ≡ []

firsts_none : (ns : List ℕ) → firsts ns ≡ [] → ns ≡ []
unfolding firsts
firsts_none [] e = refl
firsts_none (n ∷ ns) e = absurd (cc)

none_firsts : (ns : List ℕ) → ns ≡ [] → firsts ns ≡ []
unfolding firsts
none_firsts ns e = ap firsts e

ground_bare : (t : Tree) → IsGround t → Bare t
ground_bare t h = firsts_none (occurrences t) h

bare_ground : (t : Tree) → Bare t → IsGround t
bare_ground t h = none_firsts (occurrences t) h

append_none : (xs ys : List ℕ) → xs ++ ys ≡ [] → (xs ≡ []) × (ys ≡ [])
append_none [] ys e = (refl, e)
append_none (x ∷ xs) ys e = absurd (cc)

-- the flag of a term says whether it is ground
flag_term : (names : Names) (trees : List Tree) (i : ℕ) (c : StoredTerm) → IsSoundTerm names trees i c → IsTrue (ground_flag (Some c)) ↔ IsGround (term_tree names trees c)
unfolding occurrences firsts
flag_term names trees i (StoredTerm.Var n) h = (λ t. absurd (cc), λ e. absurd (cc))
flag_term names trees i (StoredTerm.Int n) h = (λ t. refl, λ e. refl)
flag_term names trees i (StoredTerm.Atom k) h = (λ t. refl, λ e. refl)
flag_term names trees i (StoredTerm.Comp k args g) h = h.flag

pub flag_is : (names : Names) (p : TreeState) (h : IsSoundState names p) (r : Ref) (t : Tree) → slice_get (trees_of names p) r.number ≡ Some t → IsTrue (is_ground_in p r) ↔ IsGround t
flag_is names p h r t e =
    let c : IsTermOf names p r.number t = term_at names p h r.number t e in
    let P : Tree → Type 0 = λ u. IsTrue (is_ground_in p r) ↔ IsGround u in
    let Q : Option StoredTerm → Type 0 = λ o. IsTrue (ground_flag o) ↔ IsGround (term_tree names (trees_of names p) c.term) in
    subst P (sym c.is) (subst Q (sym c.stored) (flag_term names (trees_of names p) r.number c.term (h.terms r.number c.term c.stored)))

pub grounds : (names : Names) (p : TreeState) (h : IsSoundState names p) (r : Ref) (b : Bool) (t : Tree) → b ≡ is_ground_in p r → slice_get (trees_of names p) r.number ≡ Some t → IsTrue b ↔ IsGround t
grounds names p h r b t e f = let P : Bool → Type 0 = λ x. IsTrue x ↔ IsGround t in subst P (sym e) (flag_is names p h r t f)

-- the flag of a new compound

AllBare : Trees → Type 0
AllBare ts = occurrences_all ts ≡ []

cond_true : (a b : Bool) → IsTrue (cond a b false) → IsTrue a × IsTrue b
cond_true true b h = (refl, h)
cond_true false b h = absurd (cc)

true_cond : (a b : Bool) → IsTrue a → IsTrue b → IsTrue (cond a b false)
true_cond true b h i = i
true_cond false b h i = absurd (cc)

pub valid_tree : (names : Names) (p : TreeState) (r : Ref) → r.number < length p.terms → slice_get (trees_of names p) r.number ≡ Some (tree_in (trees_of names p) r)
valid_tree names p r h =
    let l : length (trees_of names p) ≡ length p.terms = length_trees names p in
    let t = get_some (trees_of names p) r.number (omega arith) in
    t.1 ∙ ap Some (sym (tree_in_is (trees_of names p) r t.0 t.1))

all_flags : (names : Names) (p : TreeState) (h : IsSoundState names p) (args : List Ref) → AllBelow (length p.terms) args → IsTrue (all_ground_in p args) → occurrences_all (trees_in (trees_of names p) args) ≡ []
unfolding AllBelow all_ground_in occurrences_all trees_in
all_flags names p h [] b f = refl
all_flags names p h (r ∷ rs) b f =
    let s = cond_true (is_ground_in p r) (all_ground_in p rs) f in
    let here : occurrences (tree_in (trees_of names p) r) ≡ [] = ground_bare (tree_in (trees_of names p) r) ((flag_is names p h r (tree_in (trees_of names p) r) (valid_tree names p r b.0)).0 s.0) in
    let rest : occurrences_all (trees_in (trees_of names p) rs) ≡ [] = all_flags names p h rs b.1 s.1 in
    ap (λ ns. ns ++ occurrences_all (trees_in (trees_of names p) rs)) here ∙ rest

flags_all : (names : Names) (p : TreeState) (h : IsSoundState names p) (args : List Ref) → AllBelow (length p.terms) args → occurrences_all (trees_in (trees_of names p) args) ≡ [] → IsTrue (all_ground_in p args)
unfolding AllBelow all_ground_in occurrences_all trees_in
flags_all names p h [] b e = refl
flags_all names p h (r ∷ rs) b e =
    let s = append_none (occurrences (tree_in (trees_of names p) r)) (occurrences_all (trees_in (trees_of names p) rs)) e in
    true_cond (is_ground_in p r) (all_ground_in p rs)
    ((flag_is names p h r (tree_in (trees_of names p) r) (valid_tree names p r b.0)).1 (bare_ground (tree_in (trees_of names p) r) s.0))
    (flags_all names p h rs b.1 s.1)

sound_all : (names : Names) (p : TreeState) (h : IsSoundState names p) (k : ℕ) (args : List Ref) → k < length names → AllBelow (length p.terms) args → IsSoundTerm names (trees_of names p) (length p.terms) (StoredTerm.Comp k args (all_ground_in p args))
unfolding occurrences
sound_all names p h k args n b = record {
  named = n;
  below = b;
  flag = (
    λ f. bare_ground (comp (name_at names k) (trees_in (trees_of names p) args)) (all_flags names p h args b f),
    λ g. flags_all names p h args b (ground_bare (comp (name_at names k) (trees_in (trees_of names p) args)) g),
  );
}

sound_none : (names : Names) (p : TreeState) (k : ℕ) → k < length names → IsSoundTerm names (trees_of names p) (length p.terms) (StoredTerm.Comp k [] true)
unfolding AllBelow occurrences occurrences_all trees_in firsts
sound_none names p k n = record { named = n; below = tt; flag = (λ f. refl, λ g. refl) }

less_by : (a b : ℕ) (v : Bool) → nat_lt a b ≡ v → (a < b) ⊎ (a < b → ⊥)
less_by a b true e = inl (grind (arith, nat_tests))
less_by a b false e = inr (λ l. grind (arith, nat_tests))

less_or_not : (a b : ℕ) → (a < b) ⊎ (a < b → ⊥)
less_or_not a b = less_by a b (nat_lt a b) refl

below_or_not : (n : ℕ) (rs : List Ref) → AllBelow n rs ⊎ (AllBelow n rs → ⊥)
unfolding AllBelow
below_or_not n [] = inl tt
below_or_not n (r ∷ rs) = elim (less_or_not r.number n) [
  | inl h ↦ elim (below_or_not n rs) [ inl g ↦ inl (h, g) | inr g ↦ inr (λ b. g b.1) ]
  | inr h ↦ inr (λ b. h b.0)
]

pub sound_compound : (names : Names) (p : TreeState) (h : IsSoundState names p) (k : ℕ) (args : List Ref) (c : StoredTerm) → k < length names
    → (AllBelow (length p.terms) args → c ≡ StoredTerm.Comp k args (all_ground_in p args)) → ((AllBelow (length p.terms) args → ⊥) → c ≡ StoredTerm.Comp k [] true)
    → IsSoundTerm names (trees_of names p) (length p.terms) c
sound_compound names p h k args c n all lacks =
    let P : StoredTerm → Type 0 = λ x. IsSoundTerm names (trees_of names p) (length p.terms) x in
    elim (below_or_not (length p.terms) args) [
      | inl b ↦ subst P (sym (all b)) (sound_all names p h k args n b)
      | inr b ↦ subst P (sym (lacks b)) (sound_none names p k n)
    ]

pub made_compound : (m : ℕ) (p : TreeState) (k : ℕ) (args : List Ref) (c : StoredTerm) → (AllBelow (length p.terms) args → c ≡ StoredTerm.Comp k args (all_ground_in p args))
    → ((AllBelow (length p.terms) args → ⊥) → c ≡ StoredTerm.Comp k [] true) → IsMadeBelow m c
made_compound m p k args c all lacks =
    let P : StoredTerm → Type 0 = λ x. IsMadeBelow m x in
    elim (below_or_not (length p.terms) args) [ inl b ↦ subst P (sym (all b)) tt | inr b ↦ subst P (sym (lacks b)) tt ]

-- the arguments that a caller names

pub args_below : (names : Names) (e : List TreeState) (p : TreeState) (k : Bool) (args : List Ref) (ts : Trees) → AreTerms (store_view names e p k) args ts → AllBelow (length p.terms) args
unfolding AreTerms AllBelow
args_below names e p k [] no_trees h = tt
args_below names e p k [] (tree t ts) h = absurd h
args_below names e p k (r ∷ rs) no_trees h = absurd h
args_below names e p k (r ∷ rs) (tree t ts) h =
    let l : length (trees_of names p) ≡ length p.terms = length_trees names p in
    let w : r.number < length (trees_of names p) = slice_get_within (trees_of names p) r.number t h.0 in
    (omega arith, args_below names e p k rs ts h.1)

pub args_are : (names : Names) (e : List TreeState) (p : TreeState) (k : Bool) (args : List Ref) (ts : Trees) → AreTerms (store_view names e p k) args ts → trees_in (trees_of names p) args ≡ ts
unfolding AreTerms trees_in
args_are names e p k [] no_trees h = refl
args_are names e p k [] (tree t ts) h = absurd h
args_are names e p k (r ∷ rs) no_trees h = absurd h
args_are names e p k (r ∷ rs) (tree t ts) h =
    ap (λ u. tree u (trees_in (trees_of names p) rs)) (tree_in_is (trees_of names p) r t h.0) ∙ ap (λ us. tree t us) (args_are names e p k rs ts h.1)

pub compound_tree : (names more now : Names) (e : List TreeState) (p : TreeState) (k : Bool) (h : IsSoundState names p) (j : ℕ) (args : List Ref) (ts : Trees) (c : StoredTerm) (name : List ℕ)
    → now ≡ names ++ more → AreTerms (store_view names e p k) args ts → slice_get now j ≡ Some name
    → (AllBelow (length p.terms) args → c ≡ StoredTerm.Comp j args (all_ground_in p args)) → term_tree now (trees_of now p) c ≡ comp name ts
compound_tree names more now e p k h j args ts c name f a n all =
    let b : AllBelow (length p.terms) args = args_below names e p k args ts a in
    let same : trees_of now p ≡ trees_of names p = ap (λ w. trees_of w p) f ∙ trees_names names more p h in
    ap (λ x. term_tree now (trees_of now p) x) (all b)
    ∙ (ap (λ us. comp (name_at now j) (trees_in us args)) same
    ∙ (ap (λ us. comp (name_at now j) us) (args_are names e p k args ts a)
    ∙ ap (λ x. comp x ts) (get_or_from_slice_get now j name [] n)))
