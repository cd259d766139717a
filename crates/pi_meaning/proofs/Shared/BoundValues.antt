-- What a state reads of terms that stays where more variables are bound, all of them to integers: what a term is followed to, how many cells its value has, and the items of lists, arrays and
-- variables that are labelled.
use Rattle.std.specs.Prelude.{◌≡◌, ◌⊎◌, ℕ, zero, suc, ◌+◌, ℤ, cond, List, [], ◌∷◌, length, Option, Some, None, option_map, option_and_then, unwrap_or, refl}
use Rattle.std.specs.Option.{option_or}
use Rattle.std.proofs.Common.{sym, ◌∙◌, ap, subst, inl, inr}
use Rattle.pi_terms.specs.Tree.{Tree, var, int, atom, comp, Trees, no_trees, tree, cells, cells_all}
use Rattle.pi_terms.specs.Places.{held}
use Rattle.pi_terms.specs.Substitution.{instance, instances}
use Rattle.pi_constraints.specs.Value.{Bindings, replaced_once, rounds, value}
use Rattle.pi_constraints.specs.State.{State, bindings, followed_for, followed}
use Rattle.pi_constraints.proofs.StateLemmas.{as_many}
use Rattle.pi_effects.specs.Items.{is_nil, cell_parts, array_parts, in_front_of, items_of_root, items_for, list_items, collection_items}
use Rattle.pi_settling.specs.Asked.{Flat, joined, flat_all, flat_parts, flat_variable, flat_for, flat_items}
use Rattle.pi_meaning.proofs.Shared.BoundIntegers.{IsItemNow, BindsIntegers, binds-kept, binds-items}

-- the first bindings, of which the second have those and more variables bound to integers
abbrev pub KeepsAll : Bindings → Bindings → Type 0
KeepsAll b c = (n : ℕ) (t : Tree) → held b n ≡ Some t → held c n ≡ Some t

abbrev pub PutsItems : Bindings → Bindings → Type 0
PutsItems b c = (n : ℕ) → held b n ≡ None → IsItemNow (held c n)

-- ---- what a term is followed to

-- the same, or an integer in place of a variable
abbrev pub IsStill : Tree → Tree → Type 0
IsStill (var n) u = (u ≡ var n) ⊎ ((i : ℤ) × (u ≡ int i))
IsStill (int i) u = u ≡ int i
IsStill (atom name) u = u ≡ atom name
IsStill (comp name ts) u = u ≡ comp name ts

still-itself : (t : Tree) → IsStill t t
still-itself (var n) = inl refl
still-itself (int i) = refl
still-itself (atom name) = refl
still-itself (comp name ts) = refl

pub followed-integer : (k : ℕ) (b : Bindings) (i : ℤ) → followed_for k b (int i) ≡ int i
unfolding followed_for
followed-integer zero b i = refl
followed-integer (suc k) b i = refl

pub followed-unbound : (k : ℕ) (b : Bindings) (n : ℕ) → held b n ≡ None → followed_for k b (var n) ≡ var n
unfolding followed_for
followed-unbound zero b n is = refl
followed-unbound (suc k) b n is = ap (λ (o : Option Tree). followed_for k b (unwrap_or o (var n))) is ∙ followed-unbound k b n is

-- from a variable that was unbound
unbound-still : (k : ℕ) (c : Bindings) (n : ℕ) (o : Option Tree) → held c n ≡ o → IsItemNow o → IsStill (var n) (followed_for k c (unwrap_or o (var n)))
unbound-still k c n o at (inl is) = inl (ap (λ (p : Option Tree). followed_for k c (unwrap_or p (var n))) is ∙ followed-unbound k c n (at ∙ is))
unbound-still k c n o at (inr (i, is)) = inr (i, ap (λ (p : Option Tree). followed_for k c (unwrap_or p (var n))) is ∙ followed-integer k c i)

pub for-still : (k : ℕ) (b c : Bindings) (t : Tree) → KeepsAll b c → PutsItems b c → IsStill (followed_for k b t) (followed_for k c t)
unfolding followed_for
for-still zero b c t kept items = still-itself t
for-still (suc k) b c (var n) kept items =
    let each : (o : Option Tree) → held b n ≡ o → IsStill (followed_for k b (unwrap_or o (var n))) (followed_for k c (unwrap_or (held c n) (var n))) =
    λ o. elim o as (λ o. held b n ≡ o → IsStill (followed_for k b (unwrap_or o (var n))) (followed_for k c (unwrap_or (held c n) (var n)))) [
      | None ↦ λ none.
          subst (λ (u : Tree). IsStill u (followed_for k c (unwrap_or (held c n) (var n)))) (sym (followed-unbound k b n none)) (unbound-still k c n (held c n) refl (items n none))
      | Some u ↦ λ some.
          subst (λ (o : Option Tree). IsStill (followed_for k b u) (followed_for k c (unwrap_or o (var n)))) (sym (kept n u some)) (for-still k b c u kept items)
    ] in
    each (held b n) refl
for-still (suc k) b c (int i) kept items = refl
for-still (suc k) b c (atom name) kept items = refl
for-still (suc k) b c (comp name ts) kept items = refl

pub followed-still : (s r : State) → BindsIntegers s r → (t : Tree) → IsStill (followed (bindings s) t) (followed (bindings r) t)
unfolding followed
followed-still s r h t =
    let many : length (bindings r) ≡ length (bindings s) = as_many r ∙ (h.count ∙ sym (as_many s)) in
    subst (λ (k : ℕ). IsStill (followed_for (length (bindings s)) (bindings s) t) (followed_for k (bindings r) t)) (sym many)
    (for-still (length (bindings s)) (bindings s) (bindings r) t (binds-kept s r h) (binds-items s r h))

-- what makes no difference between variables and integers is the same of both
pub seen-same : {A : Type 0} (f : Tree → A) → ((n : ℕ) (i : ℤ) → f (int i) ≡ f (var n)) → (t u : Tree) → IsStill t u → f u ≡ f t
seen-same f alike (var n) u (inl is) = ap f is
seen-same f alike (var n) u (inr (i, is)) = ap f is ∙ alike n i
seen-same f alike (int i) u is = ap f is
seen-same f alike (atom name) u is = ap f is
seen-same f alike (comp name ts) u is = ap f is

-- ---- cells of a value

-- the same but with integers in place of some variables that are unbound
unfoldable mutual
  HasItems : Bindings → Tree → Tree → Type 0
  HasItems b (var n) u = (u ≡ var n) ⊎ ((i : ℤ) × (held b n ≡ None) × (u ≡ int i))
  HasItems b (int i) u = u ≡ int i
  HasItems b (atom name) u = u ≡ atom name
  HasItems b (comp name ts) u = (us : Trees) × (u ≡ comp name us) × HaveItems b ts us

  HaveItems : Bindings → Trees → Trees → Type 0
  HaveItems b no_trees us = us ≡ no_trees
  HaveItems b (tree t ts) us = (w : Tree) × (ws : Trees) × (us ≡ tree w ws) × HasItems b t w × HaveItems b ts ws

mutual
  unfolding HasItems

  has-itself : (b : Bindings) (t : Tree) → HasItems b t t
  has-itself b (var n) = inl refl
  has-itself b (int i) = refl
  has-itself b (atom name) = refl
  has-itself b (comp name ts) = (ts, refl, have-themselves b ts)

  have-themselves : (b : Bindings) (ts : Trees) → HaveItems b ts ts
  have-themselves b no_trees = refl
  have-themselves b (tree t ts) = (t, ts, refl, has-itself b t, have-themselves b ts)

mutual
  unfolding HasItems cells

  has-cells : (b : Bindings) (t u : Tree) → HasItems b t u → cells u ≡ cells t
  has-cells b (var n) u (inl is) = ap cells is
  has-cells b (var n) u (inr (i, none, is)) = ap cells is
  has-cells b (int i) u is = ap cells is
  has-cells b (atom name) u is = ap cells is
  has-cells b (comp name ts) u (us, is, all) = ap cells is ∙ ap suc (have-cells b ts us all)

  have-cells : (b : Bindings) (ts us : Trees) → HaveItems b ts us → cells_all us ≡ cells_all ts
  have-cells b no_trees us is = ap cells_all is
  have-cells b (tree t ts) us (w, ws, is, one, all) = ap cells_all is ∙ (ap (λ (k : ℕ). k + cells_all ws) (has-cells b t w one) ∙ ap (λ (k : ℕ). cells t + k) (have-cells b ts ws all))

abbrev once : Bindings → ℕ → Tree
once b n = unwrap_or (held b n) (var n)

-- a variable that was unbound, replaced once
unbound-once : (b c : Bindings) (n : ℕ) (o : Option Tree) → held b n ≡ None → IsItemNow o → HasItems b (var n) (unwrap_or o (var n))
unfolding HasItems
unbound-once b c n o none (inl is) = inl (ap (λ (p : Option Tree). unwrap_or p (var n)) is)
unbound-once b c n o none (inr (i, is)) = inr (i, none, ap (λ (p : Option Tree). unwrap_or p (var n)) is)

variable-once : (b c : Bindings) (n : ℕ) (o : Option Tree) → held b n ≡ o → KeepsAll b c → PutsItems b c → HasItems b (unwrap_or o (var n)) (once c n)
variable-once b c n None is kept items = unbound-once b c n (held c n) is (items n is)
variable-once b c n (Some t) is kept items = subst (λ (o : Option Tree). HasItems b t (unwrap_or o (var n))) (sym (kept n t is)) (has-itself b t)

mutual
  unfolding HasItems instance

  has-once : (b c : Bindings) (t u : Tree) → KeepsAll b c → PutsItems b c → HasItems b t u → HasItems b (instance (once b) t) (instance (once c) u)
  has-once b c (var n) u kept items (inl is) = subst (λ (w : Tree). HasItems b (once b n) (instance (once c) w)) (sym is) (variable-once b c n (held b n) refl kept items)
  has-once b c (var n) u kept items (inr (i, none, is)) =
      subst (λ (w : Tree). HasItems b (once b n) (instance (once c) w)) (sym is) (subst (λ (o : Option Tree). HasItems b (unwrap_or o (var n)) (int i)) (sym none) (inr (i, none, refl)))
  has-once b c (int i) u kept items is = ap (instance (once c)) is
  has-once b c (atom name) u kept items is = ap (instance (once c)) is
  has-once b c (comp name ts) u kept items (us, is, all) = (instances (once c) us, ap (instance (once c)) is, have-once b c ts us kept items all)

  have-once : (b c : Bindings) (ts us : Trees) → KeepsAll b c → PutsItems b c → HaveItems b ts us → HaveItems b (instances (once b) ts) (instances (once c) us)
  have-once b c no_trees us kept items is = ap (instances (once c)) is
  have-once b c (tree t ts) us kept items (w, ws, is, one, all) =
      (instance (once c) w, instances (once c) ws, ap (instances (once c)) is, has-once b c t w kept items one, have-once b c ts ws kept items all)

rounds-have : (k : ℕ) (b c : Bindings) (t u : Tree) → KeepsAll b c → PutsItems b c → HasItems b t u → HasItems b (rounds k b t) (rounds k c u)
unfolding rounds
rounds-have zero b c t u kept items h = h
rounds-have (suc k) b c t u kept items h = rounds-have k b c (replaced_once b t) (replaced_once c u) kept items (has-once b c t u kept items h)

-- so often replaced, a term has as many cells
pub rounds-cells : (k : ℕ) (b c : Bindings) (t : Tree) → KeepsAll b c → PutsItems b c → cells (rounds k c t) ≡ cells (rounds k b t)
rounds-cells k b c t kept items = has-cells b (rounds k b t) (rounds k c t) (rounds-have k b c t t kept items (has-itself b t))

pub value-cells : (s r : State) → BindsIntegers s r → (t : Tree) → cells (value (bindings r) t) ≡ cells (value (bindings s) t)
unfolding value
value-cells s r h t =
    let b : Bindings = bindings s in
    let c : Bindings = bindings r in
    let many : length c ≡ length b = as_many r ∙ (h.count ∙ sym (as_many s)) in
    ap (λ (k : ℕ). cells (rounds k c t)) many
    ∙ rounds-cells (length b) b c t (binds-kept s r h) (binds-items s r h)

-- ---- items of lists and arrays

root-items : (f g : Tree → Option (List Tree)) → ((t : Tree) → f t ≡ g t) → (t : Tree) → items_of_root f t ≡ items_of_root g t
root-items f g same t = ap (λ (o : Option (List Tree)). option_or (cond (is_nil t) (Some []) None) o) (by (cell_parts t))
  where
    by : (o : Option (Tree × Tree)) → option_and_then (in_front_of f) o ≡ option_and_then (in_front_of g) o
    by None = refl
    by (Some p) = ap (option_map (λ ts. p.0 ∷ ts)) (same p.1)

for-items : (s r : State) → BindsIntegers s r → (k : ℕ) (t : Tree) → items_for k (bindings r) t ≡ items_for k (bindings s) t
unfolding items_for
for-items s r h zero t = refl
for-items s r h (suc k) t =
    root-items (items_for k (bindings r)) (items_for k (bindings s)) (for-items s r h k) (followed (bindings r) t)
    ∙ seen-same (items_of_root (items_for k (bindings s))) (λ n i. refl) (followed (bindings s) t) (followed (bindings r) t) (followed-still s r h t)

pub items-same : (s r : State) → BindsIntegers s r → (t : Tree) → list_items (bindings r) t ≡ list_items (bindings s) t
unfolding list_items
items-same s r h t = ap (λ (k : ℕ). items_for k (bindings r) t) (value-cells s r h t) ∙ for-items s r h (cells (value (bindings s) t)) t

collection-same : (s r : State) → BindsIntegers s r → (t : Tree) → collection_items (bindings r) t ≡ collection_items (bindings s) t
collection-same s r h t =
    ap (λ (o : Option (List Tree)). option_or o (list_items (bindings r) t)) (seen-same array_parts (λ n i. refl) (followed (bindings s) t) (followed (bindings r) t) (followed-still s r h t))
    ∙ ap (option_or (array_parts (followed (bindings s) t))) (items-same s r h t)

-- ---- variables that are labelled

all-flat : (f g : Tree → Flat) → ((t : Tree) → f t ≡ g t) → (ts : List Tree) → flat_all f ts ≡ flat_all g ts
unfolding flat_all
all-flat f g same [] = refl
all-flat f g same (t ∷ ts) = ap (λ (x : Flat). joined x (flat_all f ts)) (same t) ∙ ap (joined (g t)) (all-flat f g same ts)

parts-flat : (f g : Tree → Flat) → ((t : Tree) → f t ≡ g t) → (t : Tree) (o : Option (List Tree)) → flat_parts f t o ≡ flat_parts g t o
parts-flat f g same t None = refl
parts-flat f g same t (Some ts) = all-flat f g same ts

variable-flat : (s r : State) → BindsIntegers s r → (f g : Tree → Flat) → ((t : Tree) → f t ≡ g t) → (n : ℕ) (t : Tree) → flat_variable f (bindings r) n t ≡ flat_variable g (bindings s) n t
variable-flat s r h f g same n (var m) = refl
variable-flat s r h f g same n (int i) = refl
variable-flat s r h f g same n (atom name) = ap (flat_parts f (atom name)) (collection-same s r h (atom name)) ∙ parts-flat f g same (atom name) (collection_items (bindings s) (atom name))
variable-flat s r h f g same n (comp name ts) = ap (flat_parts f (comp name ts)) (collection-same s r h (comp name ts)) ∙ parts-flat f g same (comp name ts) (collection_items (bindings s) (comp name ts))

for-flat : (s r : State) → BindsIntegers s r → (k : ℕ) (t : Tree) → flat_for k (bindings r) t ≡ flat_for k (bindings s) t
unfolding flat_for
for-flat s r h zero t = refl
for-flat s r h (suc k) (var n) =
    variable-flat s r h (flat_for k (bindings r)) (flat_for k (bindings s)) (for-flat s r h k) n (followed (bindings r) (var n))
    ∙ seen-same (flat_variable (flat_for k (bindings s)) (bindings s) n) (λ m i. refl) (followed (bindings s) (var n)) (followed (bindings r) (var n)) (followed-still s r h (var n))
for-flat s r h (suc k) (int i) = refl
for-flat s r h (suc k) (atom name) =
    ap (flat_parts (flat_for k (bindings r)) (atom name)) (collection-same s r h (atom name))
    ∙ parts-flat (flat_for k (bindings r)) (flat_for k (bindings s)) (for-flat s r h k) (atom name) (collection_items (bindings s) (atom name))
for-flat s r h (suc k) (comp name ts) =
    ap (flat_parts (flat_for k (bindings r)) (comp name ts)) (collection-same s r h (comp name ts))
    ∙ parts-flat (flat_for k (bindings r)) (flat_for k (bindings s)) (for-flat s r h k) (comp name ts) (collection_items (bindings s) (comp name ts))

pub flat-same : (s r : State) → BindsIntegers s r → (t : Tree) → flat_items (bindings r) t ≡ flat_items (bindings s) t
flat-same s r h t = ap (λ (k : ℕ). flat_for k (bindings r) t) (value-cells s r h t) ∙ for-flat s r h (cells (value (bindings s) t)) t
