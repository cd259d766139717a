-- What becomes known of a variable of a copying store.
use Rattle.std.proofs.Common.{◌≡◌, ℕ, zero, suc, ◌<◌, Bool, List, [], ◌∷◌, length, Option, Some, None, refl, ap, sym, subst, ◌∙◌, arith, map}
use Rattle.std.specs.Prelude.{slice_get, slice_index_or, option_map}
use Rattle.std.proofs.lemmas.List.{length-map}
use Rattle.std.proofs.lemmas.Option.{slice_get_within}
use Rattle.pi_terms.specs.Tree.{Tree, var}
use Rattle.pi_constraints.specs.State.{free, within, bound, bindings, next, followed, IsUnbound, with_variable, domain_of, domain_in, domain_at_root}
use Rattle.pi_constraints.proofs.StateLemmas.{as_many}
use Rattle.pi_constraints.specs.Store.{Changes, Binds, Confines, ShowsCell}
use Rattle.pi_types.specs.TreeStore.{tree_in, term_tree, trees_of, known_of, variable_of, agent_of, state_of, store_view}
use Rattle.pi_types.specs.TreeStoreWalks.{bound_ref, bound_ref_of, binding_in, cell_at, cell_in, followed_in, term_of, unless_bound, unbound_of, unbound_cell, unbound_in, changed, known_domain, known_domain_of, known_domain_in}
use Rattle.pi_types.specs.TreeStoreSound.{IsSoundState, IsSoundVariable, IsKnownBelow, IsAdvanced}
use Rattle.pi_constraints.specs.declared.domain.Span.{Span}
use Rattle.pi_constraints.specs.declared.store.Ref.{Ref}
use Rattle.pi_constraints.specs.declared.store.Cell.{Cell}
use Rattle.pi_types.specs.declared.tree_store.state.StoredTerm.{StoredTerm}
use Rattle.pi_types.specs.declared.tree_store.state.Known.{Known}
use Rattle.pi_types.specs.declared.tree_store.state.StoredVariable.{StoredVariable}
use Rattle.pi_types.specs.declared.tree_store.state.TreeState.{TreeState}
use Rattle.pi_types.specs.declared.tree_store.state.Change.{Change}
use Rattle.pi_terms.proofs.GetLemmas.{get_some, map_set}
use Rattle.pi_types.proofs.TreeStoreTrees.{Names, IsTermOf, term_at, tree_in_is, length_trees}
use Rattle.pi_types.proofs.TreeStoreGround.{valid_tree}
use Rattle.pi_types.proofs.TreeStoreLooks.{bound_in, held_is, followed_is}
use Rattle.pi_types.proofs.TreeStoreKeeps.{changes_by}
use Rattle.pi_types.proofs.TreeStoreCalls.{same_terms}
use Rattle.pi_types.proofs.TreeStoreSoundLemmas.{sound_set}

-- a variable that was made

record Made (p : TreeState) (n : ℕ) : Type 0 where
  variable : StoredVariable
  stored : slice_get p.variables n ≡ Some variable

made_by : (p : TreeState) (m n : ℕ) (v : StoredVariable) → slice_get p.variables m ≡ Some v → (o : Option Ref) → unless_bound m o ≡ Some n → Made p n
made_by p m n v e None f = let same : m ≡ n = cc in record { variable = v; stored = ap (λ j. slice_get p.variables j) (sym same) ∙ e }
made_by p m n v e (Some q) f = absurd (cc)

made_of : (p : TreeState) (m n : ℕ) (o : Option StoredVariable) → slice_get p.variables m ≡ o → unbound_of m o ≡ Some n → Made p n
made_of p m n None e f = absurd (cc)
made_of p m n (Some v) e f = made_by p m n v e (bound_ref v.known) f

made_cell : (p : TreeState) (n : ℕ) (c : Cell) → unbound_cell p c ≡ Some n → Made p n
made_cell p n (Cell.Var m) f = made_of p m n (slice_get p.variables m) refl f
made_cell p n (Cell.Int i) f = absurd (cc)
made_cell p n (Cell.Atom k) f = absurd (cc)
made_cell p n (Cell.Comp k count) f = absurd (cc)

pub sound_known : (names : Names) (p : TreeState) (h : IsSoundState names p) (r term : Ref) (n : ℕ) (known : Known) → unbound_in p r ≡ Some n → term ≡ term_of (slice_get p.variables n) → IsKnownBelow (length p.terms) known
    → IsSoundState names (changed p (Change.SetVariable n (record { term = term; known = known })))
sound_known names p h r term n known u e b =
    let m : Made p n = made_cell p n (cell_in p (followed_in p r)) u in
    let same : term ≡ m.variable.term = e ∙ ap term_of m.stored in
    let P : Ref → Type 0 = λ x. IsSoundVariable p.terms n (record { term = x; known = known }) in
    sound_set names p n (record { term = term; known = known }) h (subst P (sym same) (record { own = (h.variables n m.variable m.stored).own; known = b }))

pub knows : (names names' : Names) (e e' : List TreeState) (p p' : TreeState) (k k' : Bool) (term : Ref) (n : ℕ) (known : Known)
    → IsAdvanced names names' e e' p p' k k' (changed p (Change.SetVariable n (record { term = term; known = known })))
    → Changes (store_view names e p k) (store_view names' e' p' k') (with_variable (state_of (trees_of names p) p) n (known_of (trees_of names p) known))
knows names names' e e' p p' k k' term n known a = changes_by names names' e e' p p' k k' _ _ a (same_terms names p)
    (ap (λ vs. record { variables = vs; constraints = p.constraints; agents = map (agent_of (trees_of names p)) p.agents; waiting = p.waiting })
    (map_set (variable_of (trees_of names p)) p.variables n (record { term = term; known = known })))

pub knows_at : (names names' : Names) (e e' : List TreeState) (p p' : TreeState) (k k' : Bool) (term : Ref) (m n : ℕ) (known : Known) (o : Option ℕ) → o ≡ Some m → o ≡ Some n
    → IsAdvanced names names' e e' p p' k k' (changed p (Change.SetVariable m (record { term = term; known = known })))
    → Changes (store_view names e p k) (store_view names' e' p' k') (with_variable (state_of (trees_of names p) p) n (known_of (trees_of names p) known))
knows_at names names' e e' p p' k k' term m n known o f g a =
    let same : m ≡ n = cc in
    let P : ℕ → Type 0 = λ j. Changes (store_view names e p k) (store_view names' e' p' k') (with_variable (state_of (trees_of names p) p) j (known_of (trees_of names p) known)) in
    subst P same (knows names names' e e' p p' k k' term m known a)

-- the variable that a term is at its root

variable_cell : (names : Names) (trees : List Tree) (m n : ℕ) (c : StoredTerm) → var n ≡ term_tree names trees c → cell_at m (Some c) ≡ Cell.Var n
variable_cell names trees m n (StoredTerm.Var j) e = let same : n ≡ j = cc in ap (λ i. Cell.Var i) (sym same)
variable_cell names trees m n (StoredTerm.Int j) e = absurd (cc)
variable_cell names trees m n (StoredTerm.Atom k) e = absurd (cc)
variable_cell names trees m n (StoredTerm.Comp k args g) e = absurd (cc)

pub root_cell : (names : Names) (p : TreeState) (h : IsSoundState names p) (r : Ref) (t : Tree) (n : ℕ) → slice_get (trees_of names p) r.number ≡ Some t → followed (bound_in names p) t ≡ var n → cell_in p (followed_in p r) ≡ Cell.Var n
root_cell names p h r t n e f =
    let q : Ref = followed_in p r in
    let d : slice_get (trees_of names p) q.number ≡ Some (var n) = followed_is names p h r t e ∙ ap Some f in
    let c : IsTermOf names p q.number (var n) = term_at names p h q.number (var n) d in
    ap (λ o. cell_at (length p.variables) o) c.stored ∙ variable_cell names (trees_of names p) (length p.variables) n c.term c.is

none_of_map : (trees : List Tree) (o : Option Ref) → option_map (tree_in trees) o ≡ None → o ≡ None
none_of_map trees None e = refl
none_of_map trees (Some q) e = absurd (cc)

pub unbound_from : (names : Names) (p : TreeState) (h : IsSoundState names p) (r : Ref) (t : Tree) (n : ℕ) → slice_get (trees_of names p) r.number ≡ Some t → followed (bound_in names p) t ≡ var n → IsUnbound (state_of (trees_of names p) p) n → unbound_in p r ≡ Some n
unbound_from names p h r t n e f u =
    let l : length (map (variable_of (trees_of names p)) p.variables) ≡ length p.variables = length-map p.variables (variable_of (trees_of names p)) in
    let w : n < length (map (variable_of (trees_of names p)) p.variables) = u.0 in
    let v = get_some p.variables n (omega arith) in
    let b : binding_in p n ≡ None = none_of_map (trees_of names p) (binding_in p n) (sym (held_is (trees_of names p) p n) ∙ u.1) in
    let x : bound_ref v.0.known ≡ None = ap bound_ref_of (sym v.1) ∙ b in
    ap (unbound_cell p) (root_cell names p h r t n e f) ∙ (ap (unbound_of n) v.1 ∙ ap (unless_bound n) x)

pub followed_below : (names : Names) (p : TreeState) (h : IsSoundState names p) (r q : Ref) → r.number < length p.terms → q ≡ followed_in p r → q.number < length p.terms
followed_below names p h r q b e =
    let l : length (trees_of names p) ≡ length p.terms = length_trees names p in
    let t : Tree = tree_in (trees_of names p) r in
    let d : slice_get (trees_of names p) (followed_in p r).number ≡ Some (followed (bound_in names p) t) = followed_is names p h r t (valid_tree names p r b) in
    let w : (followed_in p r).number < length (trees_of names p) = slice_get_within (trees_of names p) (followed_in p r).number (followed (bound_in names p) t) d in
    let P : Ref → Type 0 = λ x. x.number < length p.terms in
    subst P (sym e) (omega arith)

-- the clauses

pub binds : (names names' : Names) (e e' : List TreeState) (p p' : TreeState) (k k' : Bool) (h : IsSoundState names p) (r q to : Ref) → to ≡ followed_in p q
    → ((n : ℕ) → unbound_in p r ≡ Some n → Changes (store_view names e p k) (store_view names' e' p' k') (with_variable (state_of (trees_of names p) p) n (bound (tree_in (trees_of names p) to))))
    → Binds (store_view names e p k) (store_view names' e' p' k') r q
binds names names' e e' p p' k k' h r q to f g = λ n t u i j root may.
    let many : length (bindings (state_of (trees_of names p) p)) ≡ next (state_of (trees_of names p) p) = as_many (state_of (trees_of names p) p) in
    let made : n < length (bindings (state_of (trees_of names p) p)) = may.made in
    let free_is : IsUnbound (state_of (trees_of names p) p) n = (omega arith, may.unbound) in
    let b : tree_in (trees_of names p) to ≡ followed (bound_in names p) u = tree_in_is (trees_of names p) to (followed (bound_in names p) u) (ap (λ x. slice_get (trees_of names p) x.number) f ∙ followed_is names p h q u j) in
    let P : Tree → Type 0 = λ w. Changes (store_view names e p k) (store_view names' e' p' k') (with_variable (state_of (trees_of names p) p) n (bound w)) in
    subst P b (g n (unbound_from names p h r t n i root free_is))

pub binds_none : (names : Names) (e : List TreeState) (p : TreeState) (k : Bool) (r q : Ref) → (q.number < length p.terms → ⊥) → Binds (store_view names e p k) (store_view names e p k) r q
binds_none names e p k r q f = λ n t u i j root may.
    let l : length (trees_of names p) ≡ length p.terms = length_trees names p in
    let w : q.number < length (trees_of names p) = slice_get_within (trees_of names p) q.number u j in
    absurd (f (omega arith))

pub confines : (names names' : Names) (e e' : List TreeState) (p p' : TreeState) (k k' : Bool) (h : IsSoundState names p) (r : Ref) (d d' : List Span) → d' ≡ d
    → ((n : ℕ) → unbound_in p r ≡ Some n → Changes (store_view names e p k) (store_view names' e' p' k') (with_variable (state_of (trees_of names p) p) n (within d')))
    → Confines (store_view names e p k) (store_view names' e' p' k') r d
confines names names' e e' p p' k k' h r d d' f g = λ n t i _ root free_is _.
    let P : List Span → Type 0 = λ w. Changes (store_view names e p k) (store_view names' e' p' k') (with_variable (state_of (trees_of names p) p) n (within w)) in
    subst P f (g n (unbound_from names p h r t n i root free_is))

-- domains

domain_known : (trees : List Tree) (k : Known) → domain_in (known_of trees k) ≡ known_domain k
domain_known trees Known.Free = refl
domain_known trees (Known.Within d) = refl
domain_known trees (Known.Bound r) = refl

domain_by : (trees : List Tree) (vs : List StoredVariable) (n : ℕ) → domain_in (slice_index_or (map (variable_of trees) vs) n free) ≡ known_domain_of (slice_get vs n)
domain_by trees [] n = refl
domain_by trees (v ∷ vs) zero = domain_known trees v.known
domain_by trees (v ∷ vs) (suc n) = domain_by trees vs n

pub domain_is : (trees : List Tree) (s : TreeState) (n : ℕ) → domain_of (state_of trees s) n ≡ known_domain_in s n
domain_is trees s n = domain_by trees s.variables n

pub domain_found : (trees : List Tree) (s : TreeState) (u : Tree) (n : ℕ) (found : Option (List Span)) → u ≡ var n → found ≡ known_domain_in s n → found ≡ domain_at_root (state_of trees s) u
domain_found trees s u n found e f = f ∙ (sym (domain_is trees s n) ∙ ap (domain_at_root (state_of trees s)) (sym e))

pub no_domain : (names : Names) (e : List TreeState) (p : TreeState) (k : Bool) (u : Tree) (c : Cell) → ShowsCell (store_view names e p k) u c → ((n : ℕ) → c ≡ Cell.Var n → ⊥) → None ≡ domain_at_root (state_of (trees_of names p) p) u
no_domain names e p k u (Cell.Var n) s f = absurd (f n refl)
no_domain names e p k u (Cell.Int n) s f = ap (domain_at_root (state_of (trees_of names p) p)) (sym s)
no_domain names e p k u (Cell.Atom j) s f = ap (domain_at_root (state_of (trees_of names p) p)) (sym s.2)
no_domain names e p k u (Cell.Comp j count) s f = ap (domain_at_root (state_of (trees_of names p) p)) (sym s.2)
