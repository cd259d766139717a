-- Terms that speak of variables below a number.
use Rattle.std.proofs.Common.{inl, inr, ℕ, ◌<◌, List, refl, subst}
use Rattle.pi_terms.specs.Tree.{Tree, Trees, no_trees, tree}
use Rattle.pi_terms.specs.ListNames.{cell_name}
use Rattle.pi_terms.specs.Variables.{Occurs}
use Rattle.pi_constraints.specs.State.{SpeaksBelow}
use Rattle.pi_constraints.proofs.KeepsLemmas.{TreesBelow, comp-below}
use Rattle.pi_meaning.specs.OverNames.Terms.{items_onto}

pub none-below : (n : ℕ) → TreesBelow n no_trees
unfolding Occurs
none-below n m h = absurd h

pub front-below : (n : ℕ) (t : Tree) (ts : Trees) → SpeaksBelow n t → TreesBelow n ts → TreesBelow n (tree t ts)
unfolding Occurs
front-below n t ts a b m (inl h) = a m h
front-below n t ts a b m (inr h) = b m h

pub first-of : (n : ℕ) (t : Tree) (ts : Trees) → TreesBelow n (tree t ts) → SpeaksBelow n t
unfolding Occurs
first-of n t ts a m h = a m (inl h)

pub rest-of : (n : ℕ) (t : Tree) (ts : Trees) → TreesBelow n (tree t ts) → TreesBelow n ts
unfolding Occurs
rest-of n t ts a m h = a m (inr h)

pub var-below : (n k : ℕ) → k < n → SpeaksBelow n (Tree.var k)
unfolding Occurs
var-below n k less m h = subst (λ (j : ℕ). j < n) h less

pub below-var : (n k : ℕ) → SpeaksBelow n (Tree.var k) → k < n
unfolding Occurs
below-var n k a = a k refl

pub atom-below : (n : ℕ) (name : List ℕ) → SpeaksBelow n (Tree.atom name)
unfolding Occurs
atom-below n name m h = absurd h

pub items-below : (n : ℕ) (ts : Trees) (t : Tree) → TreesBelow n ts → SpeaksBelow n t → SpeaksBelow n (items_onto ts t)
unfolding items_onto
items-below n no_trees t a b = b
items-below n (tree x ts) t a b =
    comp-below n cell_name _ (front-below n x _ (first-of n x ts a) (front-below n _ no_trees (items-below n ts t (rest-of n x ts a) b) (none-below n)))
