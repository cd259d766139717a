-- What a store shows of a term is what it is as an operand.
use Rattle.std.specs.Prelude.{◌≡◌, ℕ, ◌==◌, Bool, true, false, cond, List, codes, refl}
use Rattle.std.specs.Option.{option_or}
use Rattle.std.specs.Str.{bytes_eq}
use Rattle.std.proofs.Common.{arith, tests, eqb-true, ◌∙◌, ap, sym, subst}
use Rattle.pi_terms.specs.Tree.{Tree, var, int, atom, comp, Trees, no_trees, tree, tree_count, args}
use Rattle.pi_terms.specs.Substitution.{instance}
use Rattle.pi_constraints.specs.Value.{Bindings}
use Rattle.pi_constraints.specs.State.{IsState, SpeaksBelow, bindings, next}
use Rattle.pi_constraints.specs.Store.{Moment, StoreView, ShowsCell}
use Rattle.pi_constraints.specs.declared.store.Ref.{Ref}
use Rattle.pi_constraints.specs.declared.store.Cell.{Cell}
use Rattle.pi_constraints.proofs.RootLemmas.{with_values}
use Rattle.pi_prop_spec.specs.Operands.{Operand, no_operand}
use Rattle.pi_prop_spec.specs.Terms.{one_part, two_parts, operand_of, operands_of_array, operands_of_list}
use Rattle.pi_prop_read.specs.declared.operands.node.Binary.{Binary}
use Rattle.pi_prop_read.specs.declared.operands.node.Unary.{Unary}
use Rattle.pi_prop_read.specs.declared.operands.node.Node.{Node}
use Rattle.pi_prop_read.specs.Refs.{tree_of, IsThere, value_at, operand_at}
use Rattle.pi_prop_read.specs.OperandNodes.{node_of_one, node_of_two, operand_by, HasParts, ShowsNode}
use Rattle.pi_prop_read.proofs.RootLemmas.{root_of, IsArg, Names, variable-root, integer-root, atom-root, compound-root, variable-made, compound-shown, HasOne, has-one, HasTwo, has-two}

pub either_way : {A : Type 0} (P : A → Type 0) (b : Bool) (x y : A) → P x → P y → P (cond b x y)
either_way P true x y h k = h
either_way P false x y h k = k

-- ---- terms without arguments

pub variable-node : {M : Type 0} (v : StoreView M) (r : Ref) (n : ℕ) → IsState v.now.state → SpeaksBelow (next v.now.state) (tree_of v.now r) → ShowsCell v (root_of v.now r) (Cell.Var n) → ShowsNode v.now r (Node.Variable n)
unfolding operand_of
variable-node v r n s below e = record { is = ap operand_of (variable-root v.now r n s.acyclic e); parts = variable-made v.now r n s below e }

pub integer-node : {M : Type 0} (v : StoreView M) (r : Ref) (cell : Cell) (i : _) → IsState v.now.state → cell ≡ Cell.Int i → ShowsCell v (root_of v.now r) cell → ShowsNode v.now r (Node.Number i)
unfolding operand_of
integer-node v r cell i s is shows = record { is = ap operand_of (integer-root v.now r i s.acyclic (subst (ShowsCell v (root_of v.now r)) is shows)); parts = tt }

pub atom-node : {M : Type 0} (v : StoreView M) (r : Ref) (k : ℕ) → IsState v.now.state → ShowsCell v (root_of v.now r) (Cell.Atom k) → ShowsNode v.now r Node.Other
unfolding operand_of
atom-node v r k s (name, is, e) =
    let own : value_at v.now r ≡ atom name = atom-root v.now r name s.acyclic e in
    record { is = ap operand_of own ∙ ap no_operand (sym own); parts = tt }

-- ---- names with one argument

one-through : (f : Node → Operand) (name : List ℕ) (q : Ref) → f (node_of_one name q)
    ≡ cond (bytes_eq name (codes "+")) (f (Node.One Unary.Positive q))
    (cond (bytes_eq name (codes "-")) (f (Node.One Unary.Negative q))
    (cond (bytes_eq name (codes "abs")) (f (Node.One Unary.Absolute q))
    (cond (bytes_eq name (codes "sum")) (f (Node.Sum q))
    (f Node.Other))))
one-through f name q = by (bytes_eq name (codes "+")) (bytes_eq name (codes "-")) (bytes_eq name (codes "abs")) (bytes_eq name (codes "sum"))
  where
    by : (a b c d : Bool) → f (cond a (Node.One Unary.Positive q) (cond b (Node.One Unary.Negative q) (cond c (Node.One Unary.Absolute q) (cond d (Node.Sum q) Node.Other))))
        ≡ cond a (f (Node.One Unary.Positive q)) (cond b (f (Node.One Unary.Negative q)) (cond c (f (Node.One Unary.Absolute q)) (cond d (f (Node.Sum q)) (f Node.Other))))
    by true b c d = refl
    by false true c d = refl
    by false false true d = refl
    by false false false true = refl
    by false false false false = refl

one-parts : (w : Moment) (name : List ℕ) (q : Ref) → IsThere w q → HasParts w (node_of_one name q)
one-parts w name q h =
    either_way (HasParts w) (bytes_eq name (codes "+")) (Node.One Unary.Positive q) _ h
    (either_way (HasParts w) (bytes_eq name (codes "-")) (Node.One Unary.Negative q) _ h
    (either_way (HasParts w) (bytes_eq name (codes "abs")) (Node.One Unary.Absolute q) _ h
    (either_way (HasParts w) (bytes_eq name (codes "sum")) (Node.Sum q) Node.Other h tt)))

one-shown : {M : Type 0} (v : StoreView M) (r q : Ref) (name : List ℕ) → HasOne v r q name → ShowsNode v.now r (node_of_one name q)
unfolding operand_of
one-shown v r q name h = record {
  is = ap operand_of h.value
      ∙ (ap (λ (whole : Tree). one_part name whole (value_at v.now q) (operand_at v.now q) (option_or (operands_of_array (value_at v.now q)) (operands_of_list (value_at v.now q)))) (sym h.value)
      ∙ sym (one-through (operand_by v.now r) name q));
  parts = one-parts v.now name q h.first;
}

pub one-node : {M : Type 0} (v : StoreView M) (r q : Ref) (k count : ℕ) (text : List ℕ) (node : Node) → IsState v.now.state → IsThere v.now r → ShowsCell v (root_of v.now r) (Cell.Comp k count) → Names v k text → (count == 1) ≡ true → IsArg v r 0 q → node ≡ node_of_one text q → ShowsNode v.now r node
one-node v r q k count text node s here shows named size arg is =
    subst (ShowsNode v.now r) (sym is) (one-shown v r q text (has-one v r q count text s.acyclic here (compound-shown v r k count text s.acyclic shows named) (eqb-true count 1 size) arg))

-- ---- names with two arguments

two-through : (f : Node → Operand) (name : List ℕ) (p q : Ref) → f (node_of_two name p q)
    ≡ cond (bytes_eq name (codes "+")) (f (Node.Two Binary.Plus p q))
    (cond (bytes_eq name (codes "-")) (f (Node.Two Binary.Minus p q))
    (cond (bytes_eq name (codes "*")) (f (Node.Two Binary.Times p q))
    (f Node.Other)))
two-through f name p q = by (bytes_eq name (codes "+")) (bytes_eq name (codes "-")) (bytes_eq name (codes "*"))
  where
    by : (a b c : Bool) → f (cond a (Node.Two Binary.Plus p q) (cond b (Node.Two Binary.Minus p q) (cond c (Node.Two Binary.Times p q) Node.Other)))
        ≡ cond a (f (Node.Two Binary.Plus p q)) (cond b (f (Node.Two Binary.Minus p q)) (cond c (f (Node.Two Binary.Times p q)) (f Node.Other)))
    by true b c = refl
    by false true c = refl
    by false false true = refl
    by false false false = refl

two-parts : (w : Moment) (name : List ℕ) (p q : Ref) → IsThere w p → IsThere w q → HasParts w (node_of_two name p q)
two-parts w name p q h k =
    either_way (HasParts w) (bytes_eq name (codes "+")) (Node.Two Binary.Plus p q) _ (h, k)
    (either_way (HasParts w) (bytes_eq name (codes "-")) (Node.Two Binary.Minus p q) _ (h, k)
    (either_way (HasParts w) (bytes_eq name (codes "*")) (Node.Two Binary.Times p q) Node.Other (h, k) tt))

two-shown : {M : Type 0} (v : StoreView M) (r p q : Ref) (name : List ℕ) → HasTwo v r p q name → ShowsNode v.now r (node_of_two name p q)
unfolding operand_of
two-shown v r p q name h = record {
  is = ap operand_of h.value ∙ (ap (λ (whole : Tree). two_parts name whole (operand_at v.now p) (operand_at v.now q)) (sym h.value) ∙ sym (two-through (operand_by v.now r) name p q));
  parts = two-parts v.now name p q h.first h.second;
}

pub two-node : {M : Type 0} (v : StoreView M) (r p q : Ref) (k count : ℕ) (text : List ℕ) (node : Node) → IsState v.now.state → IsThere v.now r → ShowsCell v (root_of v.now r) (Cell.Comp k count) → Names v k text → (count == 2) ≡ true → IsArg v r 0 p → IsArg v r 1 q → node ≡ node_of_two text p q → ShowsNode v.now r node
two-node v r p q k count text node s here shows named size arg more is =
    subst (ShowsNode v.now r) (sym is) (two-shown v r p q text (has-two v r p q count text s.acyclic here (compound-shown v r k count text s.acyclic shows named) (eqb-true count 2 size) arg more))

-- ---- other compounds

no-operand : (b : Bindings) (name : List ℕ) (ts : Trees) (count : ℕ) → count ≡ tree_count ts → (count == 1) ≡ false → (count == 2) ≡ false → operand_of (comp name (with_values b ts)) ≡ no_operand (comp name (with_values b ts))
unfolding operand_of instance tree_count
no-operand b name no_trees count e one two = refl
no-operand b name (tree x no_trees) count e one two = absurd (grind (arith, tests, e, one))
no-operand b name (tree x (tree y no_trees)) count e one two = absurd (grind (arith, tests, e, two))
no-operand b name (tree x (tree y (tree z zs))) count e one two = refl

pub other-node : {M : Type 0} (v : StoreView M) (r : Ref) (k count : ℕ) → IsState v.now.state → ShowsCell v (root_of v.now r) (Cell.Comp k count) → (count == 1) ≡ false → (count == 2) ≡ false → ShowsNode v.now r Node.Other
other-node v r k count s (name, is, e, many) one two =
    let value : value_at v.now r ≡ comp name (with_values (bindings v.now.state) (args (root_of v.now r))) = compound-root v.now r name (args (root_of v.now r)) s.acyclic e in
    record {
      is = ap operand_of value ∙ (no-operand (bindings v.now.state) name (args (root_of v.now r)) count many one two ∙ ap no_operand (sym value));
      parts = tt;
    }
