-- Calls of a store one after another: new variables, and terms that are put.
use Rattle.std.proofs.Common.{◌≡◌, ℕ, zero, suc, ◌+◌, List, [], ◌∷◌, ◌++◌, refl, ap, ◌∙◌, arith}
use Rattle.pi_terms.specs.Tree.{Tree, Trees, no_trees, tree, trees_of, comp}
use Rattle.pi_terms.specs.ListNames.{cell_name}
use Rattle.pi_terms.specs.ListCopies.{list_cell}
use Rattle.pi_constraints.specs.State.{State, next, with_new}
use Rattle.pi_constraints.specs.Store.{StoreView, IsTerm, AreTerms, Keeps, Stays}
use Rattle.pi_constraints.specs.Evaluation.{with_new_variables}
use Rattle.pi_constraints.specs.declared.store.Ref.{Ref}
use Rattle.pi_constraints.proofs.KeepsLemmas.{news-next}
use Rattle.pi_unify.specs.Copying.{with_variables, Makes, MakesSome}
use Rattle.pi_unify.proofs.KeepsLemmas.{keeps_then, keeps_none}

-- ---- numbers of new variables, the last one first and the first one first

new-last : (k : ℕ) (s : State) → with_new (with_new_variables k s) ≡ with_new_variables k (with_new s)
unfolding with_new_variables
new-last zero s = refl
new-last (suc k) s = new-last k (with_new s)

pub news-are : (k : ℕ) (s : State) → with_variables k s ≡ with_new_variables k s
unfolding with_variables with_new_variables
news-are zero s = refl
news-are (suc k) s = ap with_new (news-are k s) ∙ new-last k s

pub next-with : (k : ℕ) (s : State) → next (with_variables k s) ≡ next s + k
next-with k s = ap next (news-are k s) ∙ news-next k s

with-more : (a b : ℕ) (s : State) → with_variables b (with_variables a s) ≡ with_variables (a + b) s
unfolding with_variables
with-more a zero s = let e : a ≡ a + 0 = omega arith in ap (λ k. with_variables k s) e
with-more a (suc b) s = let e : suc (a + b) ≡ a + suc b = omega arith in ap with_new (with-more a b s) ∙ ap (λ k. with_variables k s) e

-- ---- one call after another

pub stays_none : {M : Type 0} (v : StoreView M) → Stays v v
stays_none v = record { keeps = keeps_none v; state = refl }

pub makes_then : {M : Type 0} (v w x : StoreView M) (a b : ℕ) → Makes v w a → Makes w x b → Makes v x (a + b)
makes_then v w x a b h k = record { keeps = keeps_then v w x h.keeps k.keeps; state = k.state ∙ ap (with_variables b) h.state ∙ with-more a b v.now.state }

pub makes_then_some : {M : Type 0} (v w x : StoreView M) (a : ℕ) → Makes v w a → MakesSome w x → MakesSome v x
makes_then_some v w x a h k = (a + k.0, makes_then v w x a k.0 h k.1)

pub stays_makes : {M : Type 0} (v w : StoreView M) → Stays v w → MakesSome v w
unfolding with_variables
stays_makes v w h = (0, h)

-- ---- more terms

pub are_more : {M : Type 0} (w x : StoreView M) (rs : List Ref) (ts : List Tree) (r : Ref) (t : Tree) → Keeps w x → AreTerms w rs (trees_of ts) → IsTerm x r t → AreTerms x (rs ++ r ∷ []) (trees_of (ts ++ t ∷ []))
unfolding AreTerms
are_more w x [] [] r t keeps h is = (is, tt)
are_more w x [] (u ∷ us) r t keeps h is = absurd h
are_more w x (q ∷ qs) [] r t keeps h is = absurd h
are_more w x (q ∷ qs) (u ∷ us) r t keeps h is = (keeps.terms q u h.0, are_more w x qs us r t keeps h.1 is)

-- a list cell that is put
pub cell_put : {M : Type 0} (v w : StoreView M) (item rest made : Ref) (t u : Tree) → IsTerm v item t → IsTerm v rest u → ((ts : Trees) → AreTerms v (item ∷ rest ∷ []) ts → IsTerm w made (comp cell_name ts)) → IsTerm w made (list_cell t u)
unfolding AreTerms
cell_put v w item rest made t u h k puts = puts (tree t (tree u no_trees)) (h, (k, tt))
