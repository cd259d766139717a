-- The calls that look at a copying store: what its walks answer is what the trees say.
use Rattle.std.proofs.Common.{◌≡◌, ℕ, zero, suc, ◌<◌, ◌≤◌, Bool, List, [], ◌∷◌, length, Option, Some, None, refl, ap, sym, subst, ◌∙◌, arith, map}
use Rattle.std.specs.Prelude.{slice_get, unwrap_or, option_map, pos, ℤ}
use Rattle.std.proofs.lemmas.List.{length-map}
use Rattle.std.proofs.lemmas.Option.{slice_get_within, slice_get-get_or}
use Rattle.pi_terms.specs.Tree.{Tree, var, int, atom, comp, Trees, tree_count, tree_at, args, arg_at}
use Rattle.pi_terms.specs.Places.{held}
use Rattle.pi_constraints.specs.Value.{Bindings}
use Rattle.pi_constraints.specs.State.{binding, bindings, followed, followed_for, next}
use Rattle.pi_constraints.specs.Store.{ShowsCell}
use Rattle.pi_types.specs.TreeStore.{tree_in, trees_in, term_tree, trees_of, known_of, variable_of, state_of, store_view, name_at}
use Rattle.pi_types.specs.TreeStoreWalks.{AllBelow, bound_ref, bound_ref_of, binding_in, variable_at, variable_in, binding_of_any, step_in, steps_in, followed_in, cell_at, cell_in, arg_of, arg_in, term_of}
use Rattle.pi_types.specs.TreeStoreSound.{IsSoundState, IsSoundTerm, IsKnownBelow}
use Rattle.pi_constraints.specs.declared.store.Ref.{Ref}
use Rattle.pi_constraints.specs.declared.store.Cell.{Cell}
use Rattle.pi_types.specs.declared.tree_store.state.StoredTerm.{StoredTerm}
use Rattle.pi_types.specs.declared.tree_store.state.Known.{Known}
use Rattle.pi_types.specs.declared.tree_store.state.StoredVariable.{StoredVariable}
use Rattle.pi_types.specs.declared.tree_store.state.TreeState.{TreeState}
use Rattle.pi_terms.proofs.GetLemmas.{get_some}
use Rattle.pi_types.proofs.TreeStoreTrees.{Names, IsTermOf, tree_is, term_at, length_trees}

-- A term of a valid number

tree_at_ref : (names : Names) (s : TreeState) (r : Ref) → r.number < length s.terms → slice_get (trees_of names s) r.number ≡ Some (tree_in (trees_of names s) r)
tree_at_ref names s r h = let l : length (trees_of names s) ≡ length s.terms = length_trees names s in
    slice_get-get_or (trees_of names s) r.number (int (pos 0)) (omega arith)

-- What a variable is bound to

binding_known : (trees : List Tree) (k : Known) → binding (known_of trees k) ≡ option_map (tree_in trees) (bound_ref k)
binding_known trees Known.Free = refl
binding_known trees (Known.Within d) = refl
binding_known trees (Known.Bound r) = refl

held_by : (trees : List Tree) (vs : List StoredVariable) (n : ℕ) → held (map binding (map (variable_of trees) vs)) n ≡ option_map (tree_in trees) (bound_ref_of (slice_get vs n))
held_by trees [] n = refl
held_by trees (v ∷ vs) zero = binding_known trees v.known
held_by trees (v ∷ vs) (suc n) = held_by trees vs n

pub held_is : (trees : List Tree) (s : TreeState) (n : ℕ) → held (bindings (state_of trees s)) n ≡ option_map (tree_in trees) (binding_in s n)
held_is trees s n = held_by trees s.variables n

bound_below : (m : ℕ) (k : Known) (q : Ref) → IsKnownBelow m k → bound_ref k ≡ Some q → q.number < m
bound_below m Known.Free q h e = absurd (cc)
bound_below m (Known.Within d) q h e = absurd (cc)
bound_below m (Known.Bound r) q h e = let same : r ≡ q = cc in let P : Ref → Type 0 = λ x. x.number < m in subst P same h

binding_below_of : (names : Names) (s : TreeState) (h : IsSoundState names s) (n : ℕ) (o : Option StoredVariable) → slice_get s.variables n ≡ o → (q : Ref) → bound_ref_of o ≡ Some q → q.number < length s.terms
binding_below_of names s h n None e q f = absurd (cc)
binding_below_of names s h n (Some v) e q f = bound_below (length s.terms) v.known q (h.variables n v e).known f

pub binding_below : (names : Names) (s : TreeState) (h : IsSoundState names s) (n : ℕ) (q : Ref) → binding_in s n ≡ Some q → q.number < length s.terms
binding_below names s h n q f = binding_below_of names s h n (slice_get s.variables n) refl q f

-- Following

abbrev pub bound_in : Names → TreeState → Bindings
bound_in names s = bindings (state_of (trees_of names s) s)

-- one step of a Ref, and of its tree
record Steps (names : Names) (s : TreeState) (r : Ref) (t : Tree) : Type 0 where
  after : Tree
  at : slice_get (trees_of names s) (step_in s r).number ≡ Some after
  same : (k : ℕ) → followed_for (suc k) (bound_in names s) t ≡ followed_for k (bound_in names s) after

-- a term that is no variable is followed to itself
solid_int : (k : ℕ) (b : Bindings) (n : ℤ) → followed_for k b (int n) ≡ int n
unfolding followed_for
solid_int zero b n = refl
solid_int (suc k) b n = refl

solid_atom : (k : ℕ) (b : Bindings) (name : List ℕ) → followed_for k b (atom name) ≡ atom name
unfolding followed_for
solid_atom zero b name = refl
solid_atom (suc k) b name = refl

solid_comp : (k : ℕ) (b : Bindings) (name : List ℕ) (ts : Trees) → followed_for k b (comp name ts) ≡ comp name ts
unfolding followed_for
solid_comp zero b name ts = refl
solid_comp (suc k) b name ts = refl

step_to : (s : TreeState) (r : Ref) (o : Option ℕ) (q : Option Ref) → variable_in s r ≡ o → binding_of_any s o ≡ q → step_in s r ≡ unwrap_or q r
step_to s r o q e f = ap (λ x. unwrap_or (binding_of_any s x) r) e ∙ ap (λ x. unwrap_or x r) f

tree_along : (trees : List Tree) (r q : Ref) (t : Tree) → r ≡ q → slice_get trees q.number ≡ Some t → slice_get trees r.number ≡ Some t
tree_along trees r q t e f = ap (λ x. slice_get trees x.number) e ∙ f

steps_variable : (names : Names) (s : TreeState) (h : IsSoundState names s) (r : Ref) (n : ℕ) → slice_get (trees_of names s) r.number ≡ Some (var n) → variable_in s r ≡ Some n → (o : Option Ref) → binding_in s n ≡ o → Steps names s r (var n)
unfolding followed_for
steps_variable names s h r n e v None b = record {
  after = var n;
  at = tree_along (trees_of names s) (step_in s r) r (var n) (step_to s r (Some n) None v b) e;
  same = λ k. ap (λ o. followed_for k (bound_in names s) (unwrap_or o (var n))) (held_is (trees_of names s) s n ∙ ap (λ o. option_map (tree_in (trees_of names s)) o) b);
}
steps_variable names s h r n e v (Some q) b = record {
  after = tree_in (trees_of names s) q;
  at = tree_along (trees_of names s) (step_in s r) q (tree_in (trees_of names s) q) (step_to s r (Some n) (Some q) v b) (tree_at_ref names s q (binding_below names s h n q b));
  same = λ k. ap (λ o. followed_for k (bound_in names s) (unwrap_or o (var n))) (held_is (trees_of names s) s n ∙ ap (λ o. option_map (tree_in (trees_of names s)) o) b);
}

steps_solid : (names : Names) (s : TreeState) (r : Ref) (t : Tree) → slice_get (trees_of names s) r.number ≡ Some t → variable_in s r ≡ None → ((k : ℕ) → followed_for k (bound_in names s) t ≡ t) → Steps names s r t
steps_solid names s r t e v f = record {
  after = t;
  at = tree_along (trees_of names s) (step_in s r) r t (step_to s r None None v refl) e;
  same = λ k. f (suc k) ∙ sym (f k);
}

steps_by : (names : Names) (s : TreeState) (h : IsSoundState names s) (r : Ref) (c : StoredTerm) → slice_get s.terms r.number ≡ Some c → slice_get (trees_of names s) r.number ≡ Some (term_tree names (trees_of names s) c) → Steps names s r (term_tree names (trees_of names s) c)
steps_by names s h r (StoredTerm.Var n) f e = steps_variable names s h r n e (ap variable_at f) (binding_in s n) refl
steps_by names s h r (StoredTerm.Int n) f e = steps_solid names s r (int n) e (ap variable_at f) (λ k. solid_int k (bound_in names s) n)
steps_by names s h r (StoredTerm.Atom j) f e = steps_solid names s r (atom (name_at names j)) e (ap variable_at f) (λ k. solid_atom k (bound_in names s) (name_at names j))
steps_by names s h r (StoredTerm.Comp j args g) f e = steps_solid names s r (comp (name_at names j) (trees_in (trees_of names s) args)) e (ap variable_at f) (λ k. solid_comp k (bound_in names s) (name_at names j) (trees_in (trees_of names s) args))

steps : (names : Names) (s : TreeState) (h : IsSoundState names s) (r : Ref) (t : Tree) → slice_get (trees_of names s) r.number ≡ Some t → Steps names s r t
steps names s h r t e =
    let c : IsTermOf names s r.number t = term_at names s h r.number t e in
    let P : Tree → Type 0 = λ u. Steps names s r u in
    subst P (sym c.is) (steps_by names s h r c.term c.stored (e ∙ ap Some c.is))

follows : (names : Names) (s : TreeState) (h : IsSoundState names s) (k : ℕ) (r : Ref) (t : Tree) → slice_get (trees_of names s) r.number ≡ Some t → slice_get (trees_of names s) (steps_in k s r).number ≡ Some (followed_for k (bound_in names s) t)
unfolding steps_in followed_for
follows names s h zero r t e = e
follows names s h (suc k) r t e =
    let p : Steps names s r t = steps names s h r t e in
    follows names s h k (step_in s r) p.after p.at ∙ ap Some (sym (p.same k))

-- the tree of the Ref that a Ref is followed to
pub followed_is : (names : Names) (s : TreeState) (h : IsSoundState names s) (r : Ref) (t : Tree) → slice_get (trees_of names s) r.number ≡ Some t → slice_get (trees_of names s) (followed_in s r).number ≡ Some (followed (bound_in names s) t)
unfolding followed
followed_is names s h r t e =
    let l : length (bound_in names s) ≡ length s.variables = length-map (map (variable_of (trees_of names s)) s.variables) binding ∙ length-map s.variables (variable_of (trees_of names s)) in
    follows names s h (length s.variables) r t e ∙ ap (λ k. Some (followed_for k (bound_in names s) t)) (sym l)

-- What a term shows

pub count_in : (trees : List Tree) (rs : List Ref) → length rs ≡ tree_count (trees_in trees rs)
unfolding tree_count trees_in
count_in trees [] = refl
count_in trees (r ∷ rs) = ap suc (count_in trees rs)

name_is : (names : Names) (k : ℕ) → k < length names → slice_get names k ≡ Some (name_at names k)
name_is names k h = slice_get-get_or names k [] h

shows_term : (names : Names) (e : List TreeState) (p : TreeState) (k : Bool) (i : ℕ) (c : StoredTerm) → IsSoundTerm names (trees_of names p) i c → ShowsCell (store_view names e p k) (term_tree names (trees_of names p) c) (cell_at (length p.variables) (Some c))
shows_term names e p k i (StoredTerm.Var n) h = refl
shows_term names e p k i (StoredTerm.Int n) h = refl
shows_term names e p k i (StoredTerm.Atom j) h = (name_at names j, name_is names j h, refl)
shows_term names e p k i (StoredTerm.Comp j args g) h = (name_at names j, name_is names j h.named, refl, count_in (trees_of names p) args)

pub shows_cell : (names : Names) (e : List TreeState) (p : TreeState) (k : Bool) (h : IsSoundState names p) (r : Ref) (t : Tree) → slice_get (trees_of names p) r.number ≡ Some t → ShowsCell (store_view names e p k) t (cell_in p r)
shows_cell names e p k h r t f =
    let c : IsTermOf names p r.number t = term_at names p h r.number t f in
    let P : Tree → Type 0 = λ u. ShowsCell (store_view names e p k) u (cell_in p r) in
    let Q : Option StoredTerm → Type 0 = λ o. ShowsCell (store_view names e p k) (term_tree names (trees_of names p) c.term) (cell_at (length p.variables) o) in
    subst P (sym c.is) (subst Q (sym c.stored) (shows_term names e p k r.number c.term (h.terms r.number c.term c.stored)))

pub looks : (names : Names) (e : List TreeState) (p : TreeState) (k : Bool) (h : IsSoundState names p) (r q : Ref) (shown : Cell) (t : Tree) → q ≡ followed_in p r → shown ≡ cell_in p q → slice_get (trees_of names p) r.number ≡ Some t → ShowsCell (store_view names e p k) (followed (bound_in names p) t) shown
looks names e p k h r q shown t a b f =
    let P : Cell → Type 0 = λ x. ShowsCell (store_view names e p k) (followed (bound_in names p) t) x in
    subst P (sym (b ∙ ap (cell_in p) a)) (shows_cell names e p k h (followed_in p r) (followed (bound_in names p) t) (followed_is names p h r t f))

-- Arguments

arg_among : (trees : List Tree) (m i : ℕ) (rs : List Ref) (r : Ref) (u : Tree) → AllBelow m rs → m ≤ length trees → tree_at (trees_in trees rs) i ≡ Some u → slice_get trees (unwrap_or (slice_get rs i) r).number ≡ Some u
unfolding AllBelow trees_in tree_at
arg_among trees m i [] r u h l e = absurd (cc)
arg_among trees m zero (q ∷ rs) r u h l e =
    let b : q.number < m = h.0 in slice_get-get_or trees q.number (int (pos 0)) (omega arith) ∙ e
arg_among trees m (suc i) (q ∷ rs) r u h l e = arg_among trees m i rs r u h.1 l e

arg_by : (names : Names) (p : TreeState) (h : IsSoundState names p) (j i : ℕ) (c : StoredTerm) (r : Ref) (u : Tree) → IsSoundTerm names (trees_of names p) j c → j ≤ length (trees_of names p) → arg_at (term_tree names (trees_of names p) c) i ≡ Some u → slice_get (trees_of names p) (arg_of r i (Some c)).number ≡ Some u
unfolding tree_at
arg_by names p h j i (StoredTerm.Var n) r u s l e = absurd (cc)
arg_by names p h j i (StoredTerm.Int n) r u s l e = absurd (cc)
arg_by names p h j i (StoredTerm.Atom k) r u s l e = absurd (cc)
arg_by names p h j i (StoredTerm.Comp k args g) r u s l e = arg_among (trees_of names p) j i args r u s.below l e

pub arg_is : (names : Names) (p : TreeState) (h : IsSoundState names p) (r q given : Ref) (i : ℕ) (t u : Tree) → q ≡ followed_in p r → given ≡ arg_in p q i → slice_get (trees_of names p) r.number ≡ Some t → arg_at (followed (bound_in names p) t) i ≡ Some u → slice_get (trees_of names p) given.number ≡ Some u
arg_is names p h r q given i t u a b f g =
    let last : Ref = followed_in p r in
    let v : Tree = followed (bound_in names p) t in
    let d : slice_get (trees_of names p) last.number ≡ Some v = followed_is names p h r t f in
    let c : IsTermOf names p last.number v = term_at names p h last.number v d in
    let w : last.number < length (trees_of names p) = slice_get_within (trees_of names p) last.number v d in
    let x : slice_get (trees_of names p) (arg_of last i (Some c.term)).number ≡ Some u =
    arg_by names p h last.number i c.term last u (h.terms last.number c.term c.stored) (omega arith) (ap (λ y. arg_at y i) (sym c.is) ∙ g) in
    ap (λ y. slice_get (trees_of names p) y.number) (b ∙ ap (λ y. arg_in p y i) a) ∙ (ap (λ o. slice_get (trees_of names p) (arg_of last i o).number) c.stored ∙ x)

-- The term of a variable

variable_tree : (names : Names) (trees : List Tree) (c : StoredTerm) (n : ℕ) → variable_at (Some c) ≡ Some n → term_tree names trees c ≡ var n
variable_tree names trees (StoredTerm.Var m) n e = let same : m ≡ n = cc in ap var same
variable_tree names trees (StoredTerm.Int m) n e = absurd (cc)
variable_tree names trees (StoredTerm.Atom k) n e = absurd (cc)
variable_tree names trees (StoredTerm.Comp k args g) n e = absurd (cc)

pub own_tree : (names : Names) (p : TreeState) (h : IsSoundState names p) (i n : ℕ) (o : Option StoredTerm) → slice_get p.terms i ≡ o → variable_at o ≡ Some n → slice_get (trees_of names p) i ≡ Some (var n)
own_tree names p h i n None e f = absurd (cc)
own_tree names p h i n (Some c) e f = tree_is names p h i c e ∙ ap Some (variable_tree names (trees_of names p) c n f)

pub variable_term : (names : Names) (p : TreeState) (h : IsSoundState names p) (n : ℕ) (r : Ref) → r ≡ term_of (slice_get p.variables n) → n < next (state_of (trees_of names p) p) → slice_get (trees_of names p) r.number ≡ Some (var n)
variable_term names p h n r e l =
    let m : length (map (variable_of (trees_of names p)) p.variables) ≡ length p.variables = length-map p.variables (variable_of (trees_of names p)) in
    let v = get_some p.variables n (omega arith) in
    tree_along (trees_of names p) r v.0.term (var n) (e ∙ ap term_of v.1) (own_tree names p h v.0.term.number n (slice_get p.terms v.0.term.number) refl (h.variables n v.0 v.1).own)
