-- What a store shows of a term is what it is as a Boolean expression.
use Rattle.std.specs.Prelude.{◌≡◌, ℕ, ◌==◌, ⊤, Bool, true, false, cond, List, codes, Option, Some, None, refl}
use Rattle.std.specs.Str.{bytes_eq}
use Rattle.std.proofs.Common.{arith, tests, eqb-true, ◌∙◌, ap, sym, subst}
use Rattle.pi_terms.specs.Tree.{Tree, var, int, atom, comp, Trees, no_trees, tree, tree_count, args}
use Rattle.pi_terms.specs.Substitution.{instance}
use Rattle.pi_constraints.specs.Value.{Bindings}
use Rattle.pi_constraints.specs.State.{IsState, bindings}
use Rattle.pi_constraints.specs.Store.{Moment, StoreView, ShowsCell}
use Rattle.pi_constraints.specs.declared.store.Ref.{Ref}
use Rattle.pi_constraints.specs.declared.store.Cell.{Cell}
use Rattle.pi_constraints.proofs.RootLemmas.{with_values}
use Rattle.pi_prop_spec.specs.Operands.{Boolean, no_boolean, Comparison as ComparisonOf, Connective as ConnectiveOf}
use Rattle.pi_prop_spec.specs.Terms.{joined_by, related_by, comparison_named, connective_named, boolean_of}
use Rattle.pi_prop_read.specs.Refs.{IsThere, value_at, operand_at}
use Rattle.pi_prop_read.proofs.RootLemmas.{root_of, IsArg, Names, variable-root, integer-root, atom-root, compound-root, compound-shown, HasOne, has-one, HasTwo, has-two}
use Rattle.pi_prop_read.specs.Relations.{comparison_of}
use Rattle.pi_prop_read.specs.declared.truths.nodes.Connective.{Connective}
use Rattle.pi_prop_read.specs.declared.truths.nodes.TruthNode.{TruthNode}
use Rattle.pi_prop_read.specs.TruthNodes.{connective_of, node_of_one, IsTwo, boolean_at, boolean_by, HasTruthParts, ShowsTruthNode}

-- ---- terms without arguments

pub variable-truth : {M : Type 0} (v : StoreView M) (r : Ref) (n : ℕ) → IsState v.now.state → ShowsCell v (root_of v.now r) (Cell.Var n) → ShowsTruthNode v.now r (TruthNode.Variable n)
unfolding boolean_of
variable-truth v r n s e = record { is = ap boolean_of (variable-root v.now r n s.acyclic e); parts = tt }

pub integer-truth : {M : Type 0} (v : StoreView M) (r : Ref) (cell : Cell) (i : _) → IsState v.now.state → cell ≡ Cell.Int i → ShowsCell v (root_of v.now r) cell → ShowsTruthNode v.now r (TruthNode.Number i)
unfolding boolean_of
integer-truth v r cell i s is shows =
    let own : value_at v.now r ≡ int i = integer-root v.now r i s.acyclic (subst (ShowsCell v (root_of v.now r)) is shows) in
    record { is = ap boolean_of own; parts = own }

pub atom-truth : {M : Type 0} (v : StoreView M) (r : Ref) (k : ℕ) → IsState v.now.state → ShowsCell v (root_of v.now r) (Cell.Atom k) → ShowsTruthNode v.now r TruthNode.Other
unfolding boolean_of
atom-truth v r k s (name, is, e) =
    let own : value_at v.now r ≡ atom name = atom-root v.now r name s.acyclic e in
    record { is = ap boolean_of own ∙ ap no_boolean (sym own); parts = tt }

-- ---- names with one argument

one-by : (w : Moment) (r q : Ref) (whole : Tree) (b : Bool) → whole ≡ value_at w r → cond b (Boolean.negation (boolean_at w q)) (no_boolean whole) ≡ boolean_by w r (cond b (TruthNode.Negation q) TruthNode.Other)
one-by w r q whole true e = refl
one-by w r q whole false e = ap no_boolean e

one-parts : (w : Moment) (r q : Ref) (b : Bool) → IsThere w q → HasTruthParts w r (cond b (TruthNode.Negation q) TruthNode.Other)
one-parts w r q true h = h
one-parts w r q false h = tt

pub one-truth : {M : Type 0} (v : StoreView M) (r q : Ref) (k count : ℕ) (text : List ℕ) (node : TruthNode) → IsState v.now.state → IsThere v.now r → ShowsCell v (root_of v.now r) (Cell.Comp k count) → Names v k text → (count == 1) ≡ true → IsArg v r 0 q → node ≡ node_of_one text q → ShowsTruthNode v.now r node
unfolding boolean_of
one-truth v r q k count text node s here shows named size arg is =
    let h : HasOne v r q text = has-one v r q count text s.acyclic here (compound-shown v r k count text s.acyclic shows named) (eqb-true count 1 size) arg in
    subst (ShowsTruthNode v.now r) (sym is) (record {
      is = ap boolean_of h.value ∙ one-by v.now r q (comp text (tree (value_at v.now q) no_trees)) (bytes_eq text (codes "#~")) (sym h.value);
      parts = one-parts v.now r q (bytes_eq text (codes "#~")) h.first;
    })

-- ---- names with two arguments

two-by : {M : Type 0} (v : StoreView M) (r p q : Ref) (text : List ℕ) (node : TruthNode) → HasTwo v r p q text → IsTwo node text p q
    → related_by (comparison_named text) (operand_at v.now p) (operand_at v.now q) (joined_by (connective_named text) (comp text (tree (value_at v.now p) (tree (value_at v.now q) no_trees))) (boolean_at v.now p) (boolean_at v.now q)) ≡ boolean_by v.now r node
two-by v r p q text (TruthNode.Variable n) h is = absurd is
two-by v r p q text (TruthNode.Number i) h is = absurd is
two-by v r p q text (TruthNode.Relation c x y) h (e, f, named) =
    let other : Boolean = joined_by (connective_named text) (comp text (tree (value_at v.now p) (tree (value_at v.now q) no_trees))) (boolean_at v.now p) (boolean_at v.now q) in
    ap (λ (o : Option ComparisonOf). related_by o (operand_at v.now p) (operand_at v.now q) other) named ∙ (λ i. Boolean.relation (comparison_of c) (operand_at v.now (sym e i)) (operand_at v.now (sym f i)))
two-by v r p q text (TruthNode.Negation x) h is = absurd is
two-by v r p q text (TruthNode.Joined k x y) h (e, f, none, named) =
    let whole : Tree = comp text (tree (value_at v.now p) (tree (value_at v.now q) no_trees)) in
    (λ i. related_by (none i) (operand_at v.now p) (operand_at v.now q) (joined_by (named i) whole (boolean_at v.now p) (boolean_at v.now q)))
    ∙ (λ i. Boolean.joined (connective_of k) (boolean_at v.now (sym e i)) (boolean_at v.now (sym f i)))
two-by v r p q text TruthNode.Other h (none, neither) =
    let whole : Tree = comp text (tree (value_at v.now p) (tree (value_at v.now q) no_trees)) in
    (λ i. related_by (none i) (operand_at v.now p) (operand_at v.now q) (joined_by (neither i) whole (boolean_at v.now p) (boolean_at v.now q)))
    ∙ ap no_boolean (sym h.value)

two-parts : {M : Type 0} (v : StoreView M) (r p q : Ref) (text : List ℕ) (node : TruthNode) → HasTwo v r p q text → IsTwo node text p q → HasTruthParts v.now r node
two-parts v r p q text (TruthNode.Variable n) h is = tt
two-parts v r p q text (TruthNode.Number i) h is = absurd is
two-parts v r p q text (TruthNode.Relation c x y) h (e, f, named) = (subst (IsThere v.now) (sym e) h.first, subst (IsThere v.now) (sym f) h.second)
two-parts v r p q text (TruthNode.Negation x) h is = absurd is
two-parts v r p q text (TruthNode.Joined k x y) h (e, f, none, named) = (subst (IsThere v.now) (sym e) h.first, subst (IsThere v.now) (sym f) h.second)
two-parts v r p q text TruthNode.Other h is = tt

pub two-truth : {M : Type 0} (v : StoreView M) (r p q : Ref) (k count : ℕ) (text : List ℕ) (node : TruthNode) → IsState v.now.state → IsThere v.now r → ShowsCell v (root_of v.now r) (Cell.Comp k count) → Names v k text → (count == 2) ≡ true → IsArg v r 0 p → IsArg v r 1 q → IsTwo node text p q → ShowsTruthNode v.now r node
unfolding boolean_of
two-truth v r p q k count text node s here shows named size arg more is =
    let h : HasTwo v r p q text = has-two v r p q count text s.acyclic here (compound-shown v r k count text s.acyclic shows named) (eqb-true count 2 size) arg more in
    record { is = ap boolean_of h.value ∙ two-by v r p q text node h is; parts = two-parts v r p q text node h is }

-- ---- other compounds

no-boolean : (b : Bindings) (name : List ℕ) (ts : Trees) (count : ℕ) → count ≡ tree_count ts → (count == 1) ≡ false → (count == 2) ≡ false → boolean_of (comp name (with_values b ts)) ≡ no_boolean (comp name (with_values b ts))
unfolding boolean_of instance tree_count
no-boolean b name no_trees count e one two = refl
no-boolean b name (tree x no_trees) count e one two = absurd (grind (arith, tests, e, one))
no-boolean b name (tree x (tree y no_trees)) count e one two = absurd (grind (arith, tests, e, two))
no-boolean b name (tree x (tree y (tree z zs))) count e one two = refl

pub other-truth : {M : Type 0} (v : StoreView M) (r : Ref) (k count : ℕ) → IsState v.now.state → ShowsCell v (root_of v.now r) (Cell.Comp k count) → (count == 1) ≡ false → (count == 2) ≡ false → ShowsTruthNode v.now r TruthNode.Other
other-truth v r k count s (name, is, e, many) one two =
    let value : value_at v.now r ≡ comp name (with_values (bindings v.now.state) (args (root_of v.now r))) = compound-root v.now r name (args (root_of v.now r)) s.acyclic e in
    record {
      is = ap boolean_of value ∙ (no-boolean (bindings v.now.state) name (args (root_of v.now r)) count many one two ∙ ap no_boolean (sym value));
      parts = tt;
    }
