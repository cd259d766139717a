-- What two roots come to.
use Rattle.std.proofs.Common.{◌≡◌, ◌≢◌, ℕ, ◌<◌, ◌≤◌, ◌==◌, Bool, true, false, ◌&&◌, List, [], nat_lt, refl, ap, sym, ◌∙◌, subst, inl, inr, arith, eq-eqb}
use Rattle.std.specs.Prelude.{ℤ, if◌then◌else◌}
use Rattle.std.specs.Ordering.{is_eq, int_cmp}
use Rattle.std.proofs.lemmas.Bool.{cases_Bool, eqb-true}
use Rattle.std.proofs.lemmas.Bool.Decides.{nat_tests}
use Rattle.pi_terms.specs.Tree.{Tree, var, int, atom, comp, Trees, no_trees, tree, args, arity, tree_count}
use Rattle.pi_terms.specs.Order.{name_order, order}
use Rattle.pi_constraints.specs.State.{State}
use Rattle.pi_constraints.specs.Store.{StoreView, ShowsCell, IsName}
use Rattle.pi_constraints.specs.Unify.{in_pairs, Outcome, clash, changed, parts, assigned, joined, outcome}
use Rattle.pi_constraints.specs.declared.store.Cell.{Cell}
use Rattle.pi_constraints.proofs.MatchLemmas.{same_name, name_itself, same_from_identical, identical_from_same}
use Rattle.pi_unify.specs.Refs.{IsNoVariable}
use Rattle.pi_unify.specs.Answers.{Makes, Meets, Compares, args_of_cell}
use Rattle.pi_unify.specs.declared.roots.Roots.{Roots}

-- ---- a pair with a variable

meets_by : (s : State) (t u : Tree) (o : Outcome) (one : Bool) (now : State) → Makes o one now → Meets s t u o (if one then Roots.Same else Roots.Clash) now
meets_by s t u clash true now makes = absurd (cc)
meets_by s t u clash false now makes = tt
meets_by s t u (changed r) true now makes = makes.1
meets_by s t u (changed r) false now makes = absurd (cc)
meets_by s t u (parts qs) one now makes = absurd makes

pub meets_made : (s : State) (t u : Tree) (o p : Outcome) (one : Bool) (roots : Roots) (now : State) → p ≡ o → roots ≡ (if one then Roots.Same else Roots.Clash) → Makes o one now → Meets s t u p roots now
meets_made s t u o p one roots now same is makes =
    let here : Meets s t u o (if one then Roots.Same else Roots.Clash) now = meets_by s t u o one now makes in
    subst (λ (q : Outcome). Meets s t u q roots now) (sym same) (subst (λ (r : Roots). Meets s t u o r now) (sym is) here)

pub meets_same : (s : State) (t u : Tree) → outcome s t u ≡ parts [] → Meets s t u (outcome s t u) Roots.Same s
meets_same s t u same = subst (λ (q : Outcome). Meets s t u q Roots.Same s) (sym same) (refl, refl)

outcome_of : (s : State) (t t' u u' : Tree) → t ≡ t' → u ≡ u' → outcome s t u ≡ outcome s t' u'
outcome_of s t t' u u' l r = cc

pub outcome_less : (s : State) (t u : Tree) (m n : ℕ) → t ≡ var m → u ≡ var n → m < n → outcome s t u ≡ joined s m n
unfolding outcome
outcome_less s t u m n l r less =
    let apart : (m == n) ≡ false = grind (arith, nat_tests) in
    let below : nat_lt m n ≡ true = grind (arith, nat_tests) in
    outcome_of s t (var m) u (var n) l r ∙ rw (apart, below) refl

pub outcome_more : (s : State) (t u : Tree) (m n : ℕ) → t ≡ var m → u ≡ var n → m ≢ n → n ≤ m → outcome s t u ≡ joined s n m
unfolding outcome
outcome_more s t u m n l r other more =
    let apart : (m == n) ≡ false = grind (arith, nat_tests) in
    let above : nat_lt m n ≡ false = grind (arith, nat_tests) in
    outcome_of s t (var m) u (var n) l r ∙ rw (apart, above) refl

pub outcome_same : (s : State) (t u : Tree) (m n : ℕ) → t ≡ var m → u ≡ var n → m ≡ n → outcome s t u ≡ parts []
unfolding outcome
outcome_same s t u m n l r same = outcome_of s t (var m) u (var n) l r ∙ rw (eq-eqb m n same) refl

outcome_left_at : (s : State) (n : ℕ) (u : Tree) → IsNoVariable u → outcome s (var n) u ≡ assigned s n u
unfolding outcome
outcome_left_at s n (var m) other = absurd (other m refl)
outcome_left_at s n (int i) other = refl
outcome_left_at s n (atom f) other = refl
outcome_left_at s n (comp f ts) other = refl

pub outcome_left : (s : State) (t u : Tree) (n : ℕ) → t ≡ var n → IsNoVariable u → outcome s t u ≡ assigned s n u
outcome_left s t u n l other = outcome_of s t (var n) u u l refl ∙ outcome_left_at s n u other

outcome_right_at : (s : State) (t : Tree) (n : ℕ) → IsNoVariable t → outcome s t (var n) ≡ assigned s n t
unfolding outcome
outcome_right_at s (var m) n other = absurd (other m refl)
outcome_right_at s (int i) n other = refl
outcome_right_at s (atom f) n other = refl
outcome_right_at s (comp f ts) n other = refl

pub outcome_right : (s : State) (t u : Tree) (n : ℕ) → u ≡ var n → IsNoVariable t → outcome s t u ≡ assigned s n t
outcome_right s t u n r other = outcome_of s t t u (var n) refl r ∙ outcome_right_at s t n other

-- ---- two roots that are no variables

-- no name has two numbers
abbrev pub AreDistinct : {M : Type 0} → StoreView M → Type 0
AreDistinct v = (j k : ℕ) (name : List ℕ) → IsName v j name → IsName v k name → j ≡ k

ints_clash : (s : State) (i j : ℤ) → (i ≡ j → ⊥) → outcome s (int i) (int j) ≡ clash
unfolding outcome order
ints_clash s i j apart = elim (cases_Bool (is_eq (int_cmp i j))) [
  | inl hit ↦ absurd (apart (let same : int i ≡ int j = same_from_identical (int i) (int j) hit in cc))
  | inr miss ↦ rw miss refl
]

ints_same : (s : State) (i : ℤ) → outcome s (int i) (int i) ≡ parts []
unfolding outcome order
ints_same s i = let hit : is_eq (int_cmp i i) ≡ true = identical_from_same (int i) (int i) refl in rw hit refl

atoms_clash : (s : State) (f g : List ℕ) → (f ≡ g → ⊥) → outcome s (atom f) (atom g) ≡ clash
unfolding outcome
atoms_clash s f g apart = elim (cases_Bool (is_eq (name_order f g))) [
  | inl hit ↦ absurd (apart (same_name f g hit))
  | inr miss ↦ rw miss refl
]

atoms_same : (s : State) (f g : List ℕ) → f ≡ g → outcome s (atom f) (atom g) ≡ parts []
unfolding outcome
atoms_same s f g same = let hit : is_eq (name_order f g) ≡ true = subst (λ (h : List ℕ). is_eq (name_order f h) ≡ true) same (name_itself f) in rw hit refl

both_passed : (p q : Bool) → (p && q) ≡ true → (p ≡ true) × (q ≡ true)
both_passed true q e = (refl, e)
both_passed false q e = absurd (cc)

compounds_clash : (s : State) (f g : List ℕ) (ts us : Trees) → (f ≡ g → tree_count ts ≡ tree_count us → ⊥) → outcome s (comp f ts) (comp g us) ≡ clash
unfolding outcome
compounds_clash s f g ts us apart = elim (cases_Bool (is_eq (name_order f g) && (tree_count ts == tree_count us))) [
  | inl hit ↦ absurd (let x : (is_eq (name_order f g) ≡ true) × ((tree_count ts == tree_count us) ≡ true) = both_passed (is_eq (name_order f g)) (tree_count ts == tree_count us) hit in apart (same_name f g x.0) (eqb-true (tree_count ts) (tree_count us) x.1))
  | inr miss ↦ rw miss refl
]

compounds_same : (s : State) (f g : List ℕ) (ts us : Trees) → f ≡ g → tree_count ts ≡ tree_count us → outcome s (comp f ts) (comp g us) ≡ parts (in_pairs ts us)
unfolding outcome
compounds_same s f g ts us same many =
    let hit : is_eq (name_order f g) ≡ true = subst (λ (h : List ℕ). is_eq (name_order f h) ≡ true) same (name_itself f) in
    let sizes : (tree_count ts == tree_count us) ≡ true = eq-eqb (tree_count ts) (tree_count us) many in
    rw (hit, sizes) refl

-- names by their numbers
name_of : {M : Type 0} (v : StoreView M) (j k : ℕ) (f g : List ℕ) → IsName v j f → IsName v k g → j ≡ k → f ≡ g
name_of v j k f g l r same = let here : IsName v j g = subst (λ (n : ℕ). IsName v n g) (sym same) r in cc

number_of : {M : Type 0} (v : StoreView M) (j k : ℕ) (f g : List ℕ) → AreDistinct v → IsName v j f → IsName v k g → f ≡ g → j ≡ k
number_of v j k f g distinct l r same = distinct j k g (subst (λ (h : List ℕ). IsName v j h) same l) r

no_pairs_of : (ts us : Trees) → tree_count ts ≡ 0 → in_pairs ts us ≡ []
unfolding in_pairs tree_count
no_pairs_of no_trees us is = refl
no_pairs_of (tree t ts) us is = absurd (omega arith)

shown_clash : {M : Type 0} (v : StoreView M) (s : State) (t u : Tree) (one other : Cell) → AreDistinct v → IsNoVariable t → IsNoVariable u → ShowsCell v t one → ShowsCell v u other → one ≢ other → outcome s t u ≡ clash
unfolding outcome
shown_clash v s t u (Cell.Var m) other distinct l r shows shows_too apart = absurd (l m shows)
shown_clash v s t u (Cell.Int i) (Cell.Var n) distinct l r shows shows_too apart = absurd (r n shows_too)
shown_clash v s t u (Cell.Int i) (Cell.Int j) distinct l r shows shows_too apart = outcome_of s t (int i) u (int j) shows shows_too ∙ ints_clash s i j (λ e. apart (ap Cell.Int e))
shown_clash v s t u (Cell.Int i) (Cell.Atom g) distinct l r shows shows_too apart = outcome_of s t (int i) u (atom shows_too.0) shows shows_too.2
shown_clash v s t u (Cell.Int i) (Cell.Comp g k) distinct l r shows shows_too apart = outcome_of s t (int i) u (comp shows_too.0 (args u)) shows shows_too.2
shown_clash v s t u (Cell.Atom f) (Cell.Var n) distinct l r shows shows_too apart = absurd (r n shows_too)
shown_clash v s t u (Cell.Atom f) (Cell.Int j) distinct l r shows shows_too apart = outcome_of s t (atom shows.0) u (int j) shows.2 shows_too
shown_clash v s t u (Cell.Atom f) (Cell.Atom g) distinct l r shows shows_too apart = outcome_of s t (atom shows.0) u (atom shows_too.0) shows.2 shows_too.2 ∙ atoms_clash s shows.0 shows_too.0 (λ e. apart (ap Cell.Atom (number_of v f g shows.0 shows_too.0 distinct shows.1 shows_too.1 e)))
shown_clash v s t u (Cell.Atom f) (Cell.Comp g k) distinct l r shows shows_too apart = outcome_of s t (atom shows.0) u (comp shows_too.0 (args u)) shows.2 shows_too.2
shown_clash v s t u (Cell.Comp f j) (Cell.Var n) distinct l r shows shows_too apart = absurd (r n shows_too)
shown_clash v s t u (Cell.Comp f j) (Cell.Int i) distinct l r shows shows_too apart = outcome_of s t (comp shows.0 (args t)) u (int i) shows.2 shows_too
shown_clash v s t u (Cell.Comp f j) (Cell.Atom g) distinct l r shows shows_too apart = outcome_of s t (comp shows.0 (args t)) u (atom shows_too.0) shows.2 shows_too.2
shown_clash v s t u (Cell.Comp f j) (Cell.Comp g k) distinct l r shows shows_too apart =
    outcome_of s t (comp shows.0 (args t)) u (comp shows_too.0 (args u)) shows.2 shows_too.2
    ∙ compounds_clash s shows.0 shows_too.0 (args t) (args u) (λ e many.
    let names : f ≡ g = number_of v f g shows.0 shows_too.0 distinct shows.1 shows_too.1 e in
    let sizes : j ≡ k = shows.3 ∙ (many ∙ sym shows_too.3) in
    apart (cc))

record ShownSame (s : State) (t u : Tree) (k : ℕ) : Type 0 where
  pub same : outcome s t u ≡ parts (in_pairs (args t) (args u))
  pub left : arity t ≡ k
  pub right : arity u ≡ k

shown_same : {M : Type 0} (v : StoreView M) (s : State) (t u : Tree) (one : Cell) → IsNoVariable t → ShowsCell v t one → ShowsCell v u one → ShownSame s t u (args_of_cell one)
unfolding in_pairs tree_count
shown_same v s t u (Cell.Var m) l shows shows_too = absurd (l m shows)
shown_same v s t u (Cell.Int i) l shows shows_too = record {
  same = outcome_of s t (int i) u (int i) shows shows_too ∙ (ints_same s i ∙ ap (λ (w : Tree). parts (in_pairs (args w) (args u))) (sym shows));
  left = ap arity shows;
  right = ap arity shows_too;
}
shown_same v s t u (Cell.Atom f) l shows shows_too =
    let name : shows.0 ≡ shows_too.0 = name_of v f f shows.0 shows_too.0 shows.1 shows_too.1 refl in
    record {
      same = outcome_of s t (atom shows.0) u (atom shows_too.0) shows.2 shows_too.2 ∙ (atoms_same s shows.0 shows_too.0 name ∙ ap (λ (w : Tree). parts (in_pairs (args w) (args u))) (sym shows.2));
      left = ap arity shows.2;
      right = ap arity shows_too.2;
    }
shown_same v s t u (Cell.Comp f k) l shows shows_too =
    let name : shows.0 ≡ shows_too.0 = name_of v f f shows.0 shows_too.0 shows.1 shows_too.1 refl in
    record {
      same = outcome_of s t (comp shows.0 (args t)) u (comp shows_too.0 (args u)) shows.2 shows_too.2 ∙ compounds_same s shows.0 shows_too.0 (args t) (args u) name (sym shows.3 ∙ shows_too.3);
      left = sym shows.3;
      right = sym shows_too.3;
    }

meets_shown : {M : Type 0} (v : StoreView M) (s : State) (t u : Tree) (one other : Cell) (roots : Roots) → AreDistinct v → IsNoVariable t → IsNoVariable u → ShowsCell v t one → ShowsCell v u other → Compares one other roots → Meets s t u (outcome s t u) roots s
meets_shown v s t u one other Roots.Clash distinct l r shows shows_too apart = subst (λ (o : Outcome). Meets s t u o Roots.Clash s) (sym (shown_clash v s t u one other distinct l r shows shows_too apart)) tt
meets_shown v s t u one other Roots.Same distinct l r shows shows_too same =
    let x : ShownSame s t u (args_of_cell one) = shown_same v s t u one l shows (subst (ShowsCell v u) (sym same.0) shows_too) in
    subst (λ (o : Outcome). Meets s t u o Roots.Same s) (sym x.same) (refl, no_pairs_of (args t) (args u) (x.left ∙ same.1))
meets_shown v s t u one other (Roots.Args k) distinct l r shows shows_too same =
    let x : ShownSame s t u (args_of_cell one) = shown_same v s t u one l shows (subst (ShowsCell v u) (sym same.0) shows_too) in
    subst (λ (o : Outcome). Meets s t u o (Roots.Args k) s) (sym x.same) (refl, refl, same.2, x.left ∙ same.1, x.right ∙ same.1)

pub meets_compared : {M : Type 0} (v : StoreView M) (t u : Tree) (one other : Cell) (roots : Roots) → AreDistinct v → IsNoVariable t → IsNoVariable u → ShowsCell v t one → ShowsCell v u other → Compares one other roots → Meets v.now.state t u (outcome v.now.state t u) roots v.now.state
meets_compared v t u one other roots distinct l r shows shows_too compares = meets_shown v v.now.state t u one other roots distinct l r shows shows_too compares

-- a root that shows something else than a variable is none
pub shown_other : {M : Type 0} (v : StoreView M) (t : Tree) (cell : Cell) → ((n : ℕ) → cell ≡ Cell.Var n → ⊥) → ShowsCell v t cell → IsNoVariable t
shown_other v t (Cell.Var n) other shows = absurd (other n refl)
shown_other v t (Cell.Int i) other shows = λ m e. cc
shown_other v t (Cell.Atom f) other shows = λ m e. let is : t ≡ atom shows.0 = shows.2 in cc
shown_other v t (Cell.Comp f k) other shows = λ m e. let is : t ≡ comp shows.0 (args t) = shows.2 in cc

pub less_if : (m n : ℕ) → n ≢ m → m ≤ n → m < n
less_if m n other more = grind arith

pub refused_at_clash : (one : Bool) (roots : Roots) → roots ≡ (if one then Roots.Same else Roots.Clash) → roots ≡ Roots.Clash → one ≡ false
refused_at_clash true roots is clashes = let same : Roots.Same ≡ Roots.Clash = sym is ∙ clashes in cc
refused_at_clash false roots is clashes = refl
