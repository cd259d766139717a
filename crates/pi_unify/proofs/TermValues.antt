-- What a store shows of a term is what its value is at the root; an argument's value is the value's argument.
use Rattle.std.proofs.Common.{◌≡◌, ℕ, suc, ◌<◌, true, List, [], Option, Some, None, refl, ap, sym, ◌∙◌, arith}
use Rattle.std.specs.Option.{is_some, unwrap_or}
use Rattle.pi_terms.specs.Tree.{Tree, var, int, atom, comp, Trees, tree, tree_count, tree_at, args, arity, arg_at, drop_trees}
use Rattle.pi_constraints.specs.Value.{Bindings, IsAcyclic, value}
use Rattle.pi_constraints.specs.State.{bindings, followed}
use Rattle.pi_constraints.specs.Store.{StoreView, IsTerm, IsName, ShowsCell}
use Rattle.pi_constraints.specs.declared.store.Ref.{Ref}
use Rattle.pi_constraints.specs.declared.store.Cell.{Cell}
use Rattle.pi_constraints.proofs.ValueLemmas.{value_goes_by_variables, unbound_is_its_own_value}
use Rattle.pi_constraints.proofs.FollowLemmas.{followed_unbound}
use Rattle.pi_constraints.proofs.RootLemmas.{with_values, value_int, value_atom, value_comp, value_at_root}
use Rattle.pi_terms.proofs.VariableLemmas.{tree_count-instances, tree_at-instances}
use Rattle.pi_terms.proofs.TermLemmas.{TreeAt, tree_at-below}
use Rattle.pi_unify.specs.Terms.{IsGiven, HoldsNoCycle, term_of, value_of}

-- ---- Refs that were given

some_is : (o : Option Tree) → is_some o ≡ true → o ≡ Some (unwrap_or o (atom []))
some_is None h = cc
some_is (Some t) h = refl

pub given_term : {M : Type 0} (v : StoreView M) (r : Ref) → IsGiven v r → IsTerm v r (term_of v r)
given_term v r h = some_is (v.now.terms r.number) h

pub term_given : {M : Type 0} (v : StoreView M) (r : Ref) (t : Tree) → IsTerm v r t → IsGiven v r
term_given v r t h = ap is_some h

pub term_is : {M : Type 0} (v : StoreView M) (r : Ref) (t : Tree) → IsTerm v r t → term_of v r ≡ t
term_is v r t h = ap (λ o. unwrap_or o (atom [])) h

pub value_is : {M : Type 0} (v : StoreView M) (r : Ref) (t : Tree) → IsTerm v r t → value_of v r ≡ value (bindings v.now.state) t
value_is v r t h = ap (value (bindings v.now.state)) (term_is v r t h)

-- ---- values at their roots

shows_comp : {M : Type 0} (v : StoreView M) (w t : Tree) (name : List ℕ) (k count : ℕ) → HoldsNoCycle v → IsName v k name → followed (bindings v.now.state) w ≡ t → t ≡ comp name (args t) → count ≡ arity t → ShowsCell v (value (bindings v.now.state) w) (Cell.Comp k count)
shows_comp v w t name k count a is e is_comp many =
    let b : Bindings = bindings v.now.state in
    let root : value b w ≡ comp name (with_values b (args t)) = value_at_root b w (comp name (args t)) a (e ∙ is_comp) ∙ value_comp b name (args t) in
    let behind : args (value b w) ≡ with_values b (args t) = ap args root in
    (name, is, root ∙ ap (comp name) (sym behind), many ∙ (sym (tree_count-instances (λ n. value b (var n)) (args t)) ∙ ap tree_count (sym behind)))

-- what a store shows of a term, it shows of its value
pub shows_value : {M : Type 0} (v : StoreView M) (t : Tree) (c : Cell) → HoldsNoCycle v → ShowsCell v (followed (bindings v.now.state) t) c → ShowsCell v (value (bindings v.now.state) t) c
shows_value v t (Cell.Var n) a e = value_at_root (bindings v.now.state) t (var n) a e ∙ unbound_is_its_own_value (bindings v.now.state) n (followed_unbound (bindings v.now.state) t n a e)
shows_value v t (Cell.Int n) a e = value_at_root (bindings v.now.state) t (int n) a e ∙ value_int (bindings v.now.state) n
shows_value v t (Cell.Atom k) a (name, is, e) = (name, is, value_at_root (bindings v.now.state) t (atom name) a e ∙ value_atom (bindings v.now.state) name)
shows_value v t (Cell.Comp k count) a (name, is, e, many) = shows_comp v t (followed (bindings v.now.state) t) name k count a is refl e many

-- ---- arguments

-- a Ref has this argument of a value
pub record IsArgument {M : Type 0} (v : StoreView M) (q : Ref) (w : Tree) (i : ℕ) : Type 0 where
  pub given : IsGiven v q
  pub is : tree_at (args w) i ≡ Some (value_of v q)
  pub front : drop_trees i (args w) ≡ tree (value_of v q) (drop_trees (suc i) (args w))

-- a term that has arguments in its value is a compound where it is followed
record Rooted (b : Bindings) (t : Tree) : Type 0 where
  name : List ℕ
  behind : Trees
  is : followed b t ≡ comp name behind

rooted : (b : Bindings) (t u : Tree) (i : ℕ) → IsAcyclic b → followed b t ≡ u → i < arity (value b t) → Rooted b t
unfolding tree_count
rooted b t (var n) i a e h =
    let none : arity (value b t) ≡ 0 = ap arity (value_at_root b t (var n) a e ∙ unbound_is_its_own_value b n (followed_unbound b t n a e)) in absurd (omega arith)
rooted b t (int n) i a e h = let none : arity (value b t) ≡ 0 = ap arity (value_at_root b t (int n) a e ∙ value_int b n) in absurd (omega arith)
rooted b t (atom name) i a e h = let none : arity (value b t) ≡ 0 = ap arity (value_at_root b t (atom name) a e ∙ value_atom b name) in absurd (omega arith)
rooted b t (comp name ts) i a e h = record { name = name; behind = ts; is = e }

-- what `arg` of a store answers is an argument of the value
pub argument : {M : Type 0} (v : StoreView M) (r q : Ref) (i : ℕ) → HoldsNoCycle v → IsGiven v r → i < arity (value_of v r) → ((t u : Tree) → IsTerm v r t → IsAcyclic (bindings v.now.state) → arg_at (followed (bindings v.now.state) t) i ≡ Some u → IsTerm v q u) → IsArgument v q (value_of v r) i
argument v r q i a given below answers =
    let b : Bindings = bindings v.now.state in
    let t : Tree = term_of v r in
    let root : Rooted b t = rooted b t (followed b t) i a refl below in
    let is : value b t ≡ comp root.name (with_values b root.behind) = value_at_root b t (comp root.name root.behind) a root.is ∙ value_comp b root.name root.behind in
    let behind : args (value b t) ≡ with_values b root.behind = ap args is in
    let many : i < tree_count root.behind = omega (arith, ap tree_count behind, tree_count-instances (λ n. value b (var n)) root.behind) in
    let own : TreeAt root.behind i = tree_at-below root.behind i many in
    let term : IsTerm v q own.it = answers t own.it (given_term v r given) a (ap (λ u. arg_at u i) root.is ∙ own.is) in
    let here : tree_at (args (value b t)) i ≡ Some (value_of v q) =
    ap (λ us. tree_at us i) behind ∙ (tree_at-instances (λ n. value b (var n)) root.behind i own.it own.is ∙ ap Some (sym (value_goes_by_variables b own.it) ∙ sym (value_is v q own.it term))) in
    let valued : TreeAt (args (value b t)) i = tree_at-below (args (value b t)) i below in
    let same : valued.it ≡ value_of v q = cc (valued.is, here) in
    record { given = term_given v q own.it term; is = here; front = valued.front ∙ ap (λ u. tree u (drop_trees (suc i) (args (value b t)))) same }
