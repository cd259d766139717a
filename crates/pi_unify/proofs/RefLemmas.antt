-- Refs and what a store's calls say of them.
use Rattle.std.proofs.Common.{◌≡◌, ℕ, zero, suc, ◌<◌, ◌≤◌, List, Option, Some, None, refl, ap, sym, ◌∙◌, subst, inl, inr, arith}
use Rattle.std.specs.Prelude.{pos}
use Rattle.std.specs.Option.{unwrap_or}
use Rattle.pi_terms.specs.Tree.{Tree, var, int, atom, comp, Trees, no_trees, tree, arg_at, tree_at, tree_count, drop_trees}
use Rattle.pi_terms.specs.Places.{held}
use Rattle.pi_terms.specs.Variables.{Occurs, OccursInAny}
use Rattle.pi_constraints.specs.Value.{IsAcyclic, MayBind, value}
use Rattle.pi_constraints.specs.Domain.{size_of}
use Rattle.pi_constraints.specs.State.{State, next, bindings, domain_of, domain_at_root, followed, IsUnbound, SpeaksBelow, IsState, with_binding, with_domain}
use Rattle.pi_constraints.specs.Store.{StoreView, IsTerm, Keeps, Changes, Binds, Confines}
use Rattle.pi_constraints.specs.Unify.{Grows}
use Rattle.pi_constraints.specs.declared.store.Ref.{Ref}
use Rattle.pi_constraints.specs.declared.domain.Span.{Span}
use Rattle.pi_constraints.proofs.FollowLemmas.{followed_later, followed_value}
use Rattle.pi_constraints.proofs.ValueLemmas.{unbound_is_its_own_value}
use Rattle.pi_constraints.proofs.StateLemmas.{as_many}
use Rattle.pi_constraints.proofs.UnifyOutcome.{IsRoot}
use Rattle.pi_constraints.proofs.UnifyBindings.{bound_grows, bound_state}
use Rattle.pi_constraints.proofs.UnifyTurns.{root}
use Rattle.pi_constraints.proofs.UnifyJoined.{AreTwo, tied, may_tie, tied_unbound}
use Rattle.pi_unify.specs.declared.variables.Variable.{Variable}
use Rattle.pi_unify.specs.Refs.{IsRef, term_of, root_of, IsVariable}

-- ---- the term of a Ref

pub term_is : {M : Type 0} (v : StoreView M) (r : Ref) (t : Tree) → IsTerm v r t → term_of v r ≡ t
term_is v r t is = ap (λ o. unwrap_or o (int (pos 0))) is

pub ref_of_term : {M : Type 0} (v : StoreView M) (r : Ref) (t : Tree) → IsTerm v r t → SpeaksBelow (next v.now.state) t → IsRef v r
ref_of_term v r t is below = record {
  is = is ∙ ap Some (sym (term_is v r t is));
  below = subst (SpeaksBelow (next v.now.state)) (sym (term_is v r t is)) below;
}

pub ref_root : {M : Type 0} (v : StoreView M) (r : Ref) → IsState v.now.state → IsRef v r → IsRoot v.now.state (root_of v r)
ref_root v r is ref = root v.now.state (term_of v r) is ref.below

-- ---- an argument

part_below : (n : ℕ) (ts : Trees) (i : ℕ) (u : Tree) → ((m : ℕ) → OccursInAny m ts → m < n) → tree_at ts i ≡ Some u → SpeaksBelow n u
unfolding tree_at Occurs
part_below n no_trees i u below is = absurd (cc)
part_below n (tree t ts) zero u below is = let same : t ≡ u = cc in subst (SpeaksBelow n) same (λ m h. below m (inl h))
part_below n (tree t ts) (suc i) u below is = part_below n ts i u (λ m h. below m (inr h)) is

arg_below : (n : ℕ) (t : Tree) (i : ℕ) (u : Tree) → SpeaksBelow n t → arg_at t i ≡ Some u → SpeaksBelow n u
unfolding tree_at Occurs
arg_below n (var m) i u below is = absurd (cc)
arg_below n (int m) i u below is = absurd (cc)
arg_below n (atom name) i u below is = absurd (cc)
arg_below n (comp name ts) i u below is = part_below n ts i u below is

pub arg_ref : {M : Type 0} (v : StoreView M) (r x : Ref) (i : ℕ) (u : Tree) → IsState v.now.state → IsRef v r → arg_at (root_of v r) i ≡ Some u → IsTerm v x u → IsRef v x
arg_ref v r x i u is ref at term = ref_of_term v x u term (arg_below (next v.now.state) (root_of v r) i u (ref_root v r is ref).below at)

-- the arguments from one on begin with that one
pub drop_at : (ts : Trees) (i : ℕ) → i < tree_count ts → (u : Tree) × (tree_at ts i ≡ Some u) × (drop_trees i ts ≡ tree u (drop_trees (suc i) ts))
unfolding tree_count tree_at
drop_at no_trees i h = absurd (omega arith)
drop_at (tree t ts) zero h = (t, refl, refl)
drop_at (tree t ts) (suc i) h = drop_at ts i (omega arith)

pub drop_all : (ts : Trees) (i : ℕ) → tree_count ts ≤ i → drop_trees i ts ≡ no_trees
unfolding tree_count
drop_all no_trees zero h = refl
drop_all no_trees (suc i) h = refl
drop_all (tree t ts) zero h = absurd (omega arith)
drop_all (tree t ts) (suc i) h = drop_all ts i (omega arith)

-- ---- other states

pub ref_kept : {M : Type 0} (v w : StoreView M) (r : Ref) → Keeps v w → next w.now.state ≡ next v.now.state → IsRef v r → IsRef w r
ref_kept v w r keeps many ref = ref_of_term w r (term_of v r) (keeps.terms r (term_of v r) ref.is) (subst (λ (n : ℕ). SpeaksBelow n (term_of v r)) (sym many) ref.below)

pub term_kept : {M : Type 0} (v w : StoreView M) (r : Ref) → Keeps v w → IsRef v r → term_of w r ≡ term_of v r
term_kept v w r keeps ref = term_is w r (term_of v r) (keeps.terms r (term_of v r) ref.is)

-- a root that is not bound meanwhile is the same
pub root_kept : {M : Type 0} (v w : StoreView M) (r : Ref) → Keeps v w → Grows v.now.state w.now.state → IsRef v r → ((n : ℕ) → root_of v r ≡ var n → held (bindings w.now.state) n ≡ None) → root_of w r ≡ root_of v r
root_kept v w r keeps grows ref unbound =
    ap (followed (bindings w.now.state)) (term_kept v w r keeps ref)
    ∙ followed_later (bindings v.now.state) (bindings w.now.state) (term_of v r) (root_of v r)
    (as_many w.now.state ∙ (grows.as_many ∙ sym (as_many v.now.state))) grows.keeps unbound refl

-- ---- variables

pub variable_unbound : {M : Type 0} (v : StoreView M) (x : Variable) → IsState v.now.state → IsVariable v x → IsUnbound v.now.state x.number
unfolding Occurs
variable_unbound v x is var_x =
    let r : IsRoot v.now.state (root_of v x.at) = ref_root v x.at is var_x.at in
    let below : SpeaksBelow (next v.now.state) (var x.number) = subst (SpeaksBelow (next v.now.state)) var_x.root r.below in
    (below x.number refl, r.unbound x.number var_x.root)

pub two_variables : {M : Type 0} (v : StoreView M) (low high : Variable) → IsState v.now.state → IsVariable v low → IsVariable v high → low.number < high.number → AreTwo v.now.state low.number high.number
two_variables v low high is l h less =
    let lows : IsUnbound v.now.state low.number = variable_unbound v low is l in
    let highs : IsUnbound v.now.state high.number = variable_unbound v high is h in
    record { state = is; less = less; made = highs.0; low_unbound = lows.1; high_unbound = highs.1 }

pub domain_of_variable : {M : Type 0} (v : StoreView M) (x : Variable) (found : Option (List Span)) → IsState v.now.state → IsVariable v x → ((t : Tree) → IsTerm v x.at t → IsAcyclic (bindings v.now.state) → found ≡ domain_at_root v.now.state (followed (bindings v.now.state) t)) → domain_of v.now.state x.number ≡ found
domain_of_variable v x found is var_x says =
    sym (says (term_of v x.at) var_x.at.is is.acyclic ∙ ap (domain_at_root v.now.state) var_x.root)

-- ---- what the calls that bind do

pub bind_is : {M : Type 0} (v w : StoreView M) (x : Variable) (r : Ref) → IsState v.now.state → IsVariable v x → IsRef v r → (Occurs x.number (value (bindings v.now.state) (term_of v r)) → ⊥) → Binds v w x.at r → w.now.state ≡ with_binding v.now.state x.number (root_of v r)
bind_is v w x r is var_x ref apart binds =
    let free : IsUnbound v.now.state x.number = variable_unbound v x is var_x in
    let may : MayBind (bindings v.now.state) x.number (term_of v r) = record { acyclic = is.acyclic; made = subst (λ (k : ℕ). x.number < k) (sym (as_many v.now.state)) free.0; unbound = free.1; apart = apart } in
    let c : Changes v w (with_binding v.now.state x.number (root_of v r)) = binds x.number (term_of v x.at) (term_of v r) var_x.at.is ref.is var_x.root may in
    c.state

-- the value of an unbound variable is itself
value_of_variable : {M : Type 0} (v : StoreView M) (x : Variable) → IsState v.now.state → IsVariable v x → value (bindings v.now.state) (term_of v x.at) ≡ var x.number
value_of_variable v x is var_x =
    sym (followed_value (bindings v.now.state) (term_of v x.at) is.acyclic)
    ∙ (ap (value (bindings v.now.state)) var_x.root ∙ unbound_is_its_own_value (bindings v.now.state) x.number (variable_unbound v x is var_x).1)

-- and no other variable occurs in it
other_apart : {M : Type 0} (v : StoreView M) (low high : Variable) → IsState v.now.state → IsVariable v low → low.number < high.number → Occurs high.number (value (bindings v.now.state) (term_of v low.at)) → ⊥
unfolding Occurs
other_apart v low high is l less o =
    let same : low.number ≡ high.number = subst (Occurs high.number) (value_of_variable v low is l) o in
    absurd (omega arith)

pub tie_is : {M : Type 0} (v w : StoreView M) (low high : Variable) → IsState v.now.state → IsVariable v low → IsVariable v high → low.number < high.number → Binds v w high.at low.at → w.now.state ≡ tied v.now.state low.number high.number
tie_is v w low high is l h less binds =
    bind_is v w high low.at is h l.at (other_apart v low high is l less) binds ∙ ap (with_binding v.now.state high.number) l.root

pub domain_call_is : {M : Type 0} (v w : StoreView M) (x : Variable) (d : List Span) → IsState v.now.state → IsVariable v x → 2 ≤ size_of d → Confines v w x.at d → w.now.state ≡ with_domain v.now.state x.number d
domain_call_is v w x d is var_x two confines =
    let c : Changes v w (with_domain v.now.state x.number d) = confines x.number (term_of v x.at) var_x.at.is is.acyclic var_x.root (variable_unbound v x is var_x) two in
    c.state

var_same : (m n : ℕ) → var m ≡ var n → m ≡ n
var_same m n e = cc

-- after the higher variable is bound to the lower, that one is unbound
pub low_after : {M : Type 0} (v w : StoreView M) (low high : Variable) → IsState v.now.state → IsVariable v low → IsVariable v high → low.number < high.number → Keeps v w → w.now.state ≡ tied v.now.state low.number high.number → IsState w.now.state × IsVariable w low
low_after v w low high is l h less keeps now =
    let two : AreTwo v.now.state low.number high.number = two_variables v low high is l h less in
    let r : State = tied v.now.state low.number high.number in
    let m = may_tie v.now.state low.number high.number two in
    let state : IsState w.now.state = subst IsState (sym now) (bound_state v.now.state high.number (var low.number) m) in
    let grows : Grows v.now.state w.now.state = subst (Grows v.now.state) (sym now) (bound_grows v.now.state high.number (var low.number) m) in
    let unbound : held (bindings w.now.state) low.number ≡ None = subst (λ (s : State). held (bindings s) low.number ≡ None) (sym now) (tied_unbound v.now.state low.number high.number two) in (
      state,
      record {
        at = ref_kept v w low.at keeps grows.as_many l.at;
        root = root_kept v w low.at keeps grows l.at (λ n e. let same : low.number ≡ n = var_same low.number n (sym l.root ∙ e) in subst (λ (k : ℕ). held (bindings w.now.state) k ≡ None) same unbound) ∙ l.root;
      },
    )
