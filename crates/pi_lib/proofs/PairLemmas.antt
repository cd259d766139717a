-- What a store shows of an array of two items.
use Rattle.std.proofs.Common.{◌≡◌, ℕ, Bool, true, false, cond, List, refl, sym, ap, ◌∙◌, arith, true≢false}
use Rattle.std.specs.Prelude.{◌==◌, ◌&&◌, Some, None, codes}
use Rattle.std.specs.Str.{bytes_eq}
use Rattle.std.proofs.lemmas.Bool.{eqb-true}
use Rattle.std.proofs.lemmas.Slice.Eq.{bytes_eq-Decides}
use Rattle.pi_terms.specs.Tree.{Tree, comp, Trees, no_trees, tree, tree_count, tree_at, args, arg_at}
use Rattle.pi_constraints.specs.Value.{IsAcyclic}
use Rattle.pi_constraints.specs.State.{bindings, followed}
use Rattle.pi_constraints.specs.Store.{StoreView, IsTerm, IsName, ShowsCell}
use Rattle.pi_constraints.specs.declared.store.Cell.{Cell}
use Rattle.pi_constraints.specs.declared.store.Ref.{Ref}
use Rattle.pi_effects.specs.Inner.{pair_parts}
use Rattle.pi_lib.specs.Pairs.{ShowsPair}

abbrev pair_of : Tree → Tree → Tree
pair_of x y = comp (codes "{}") (tree x (tree y no_trees))

-- what `arg` of a store answers
abbrev IsArg : {M : Type 0} → StoreView M → Ref → ℕ → Ref → Type 0
IsArg v r i q = (t u : Tree) → IsTerm v r t → IsAcyclic (bindings v.now.state) → arg_at (followed (bindings v.now.state) t) i ≡ Some u → IsTerm v q u

abbrev Tests : {M : Type 0} → StoreView M → ℕ → ℕ → Bool → Type 0
Tests v k count b = (f : List ℕ) → IsName v k f → b ≡ (bytes_eq f (codes "{}") && (count == 2))

both_hold : (a b : Bool) → (a && b) ≡ true → (a ≡ true) × (b ≡ true)
both_hold true true h = (refl, refl)
both_hold true false h = absurd (true≢false (sym h))
both_hold false b h = absurd (true≢false (sym h))

two_arguments : (ts : Trees) → tree_count ts ≡ 2 → (x : Tree) × (y : Tree) × (ts ≡ tree x (tree y no_trees))
unfolding tree_count
two_arguments no_trees h = absurd (omega arith)
two_arguments (tree x no_trees) h = absurd (omega arith)
two_arguments (tree x (tree y no_trees)) h = (x, y, refl)
two_arguments (tree x (tree y (tree z zs))) h = absurd (omega arith)

whole_pair : {M : Type 0} (v : StoreView M) (u : Tree) (k count : ℕ) (b : Bool) → ShowsCell v u (Cell.Comp k count) → Tests v k count b → b ≡ true → (x : Tree) × (y : Tree) × (u ≡ pair_of x y)
whole_pair v u k count b (name, is, e, many) test h =
    let both : (bytes_eq name (codes "{}") ≡ true) × ((count == 2) ≡ true) = both_hold (bytes_eq name (codes "{}")) (count == 2) (sym (test name is) ∙ h) in
    let named : name ≡ codes "{}" = (bytes_eq-Decides name (codes "{}")).0 both.0 in
    let size : count ≡ 2 = eqb-true count 2 both.1 in
    let two : (x : Tree) × (y : Tree) × (args u ≡ tree x (tree y no_trees)) = two_arguments (args u) (sym many ∙ size) in
    (two.0, two.1, e ∙ (ap (λ f. comp f (args u)) named ∙ ap (comp (codes "{}")) two.2))

items_of : (x y : Tree) → (arg_at (pair_of x y) 0 ≡ Some x) × (arg_at (pair_of x y) 1 ≡ Some y)
unfolding tree_at
items_of x y = (refl, refl)

pub pair_is : {M : Type 0} (v : StoreView M) (r : Ref) (t : Tree) (k count : ℕ) (b : Bool) (p q : Ref) → IsAcyclic (bindings v.now.state) → IsTerm v r t → ShowsCell v (followed (bindings v.now.state) t) (Cell.Comp k count) → Tests v k count b → b ≡ true → IsArg v r 0 p → IsArg v r 1 q
    → ShowsPair v (pair_parts (followed (bindings v.now.state) t)) (Some (p, q))
pair_is v r t k count b p q a is shows test h first second =
    let whole = whole_pair v (followed (bindings v.now.state) t) k count b shows test h in
    (whole.0, whole.1, ap pair_parts whole.2, first t whole.0 is a (ap (λ w. arg_at w 0) whole.2 ∙ (items_of whole.0 whole.1).0), second t whole.1 is a (ap (λ w. arg_at w 1) whole.2 ∙ (items_of whole.0 whole.1).1))

not_name : (a : Bool) (count : ℕ) → count ≡ 2 → (a && (count == 2)) ≡ false → a ≡ false
not_name true count e h = absurd (true≢false (sym (ap (λ n. n == 2) e) ∙ h))
not_name false count e h = refl

other_arguments : (name : List ℕ) (ts : Trees) (count : ℕ) → count ≡ tree_count ts → (bytes_eq name (codes "{}") && (count == 2)) ≡ false → pair_parts (comp name ts) ≡ None
unfolding tree_count
other_arguments name no_trees count e h = refl
other_arguments name (tree x no_trees) count e h = refl
other_arguments name (tree x (tree y no_trees)) count e h = ap (λ b. cond b (Some (x, y)) None) (not_name (bytes_eq name (codes "{}")) count e h)
other_arguments name (tree x (tree y (tree z zs))) count e h = refl

pub other_compound : {M : Type 0} (v : StoreView M) (u : Tree) (k count : ℕ) (b : Bool) → ShowsCell v u (Cell.Comp k count) → Tests v k count b → b ≡ false → pair_parts u ≡ None
other_compound v u k count b (name, is, e, many) test h = ap pair_parts e ∙ other_arguments name (args u) count many (sym (test name is) ∙ h)
