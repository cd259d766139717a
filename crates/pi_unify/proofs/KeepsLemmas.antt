-- Calls of a store one after another.
use Rattle.std.proofs.Common.{ℕ, suc, List, [], ◌∷◌, refl, ap, ◌∙◌}
use Rattle.pi_terms.specs.Tree.{Trees, no_trees, tree}
use Rattle.pi_constraints.specs.State.{State, with_new}
use Rattle.pi_constraints.specs.Store.{StoreView, AreTerms, Keeps, Changes, Stays}
use Rattle.pi_constraints.specs.declared.store.Ref.{Ref}
use Rattle.pi_unify.specs.Copying.{with_variables, Makes, MakesSome}

pub keeps_none : {M : Type 0} (v : StoreView M) → Keeps v v
keeps_none v = record { good = λ m h. h; same = λ m h. refl; beside = λ m. refl; terms = λ r t h. h; names = λ k name h. h }

pub keeps_then : {M : Type 0} (v w x : StoreView M) → Keeps v w → Keeps w x → Keeps v x
keeps_then v w x a b = record {
  good = λ m h. b.good m (a.good m h);
  same = λ m h. b.same m (a.good m h) ∙ a.same m h;
  beside = λ m. b.beside m ∙ a.beside m;
  terms = λ r t h. b.terms r t (a.terms r t h);
  names = λ k name h. b.names k name (a.names k name h);
}

pub stays_then : {M : Type 0} (v w x : StoreView M) (s : State) → Changes v w s → Stays w x → Changes v x s
stays_then v w x s a b = record { keeps = keeps_then v w x a.keeps b.keeps; state = b.state ∙ a.state }

pub terms_kept : {M : Type 0} (v w : StoreView M) (rs : List Ref) (ts : Trees) → Keeps v w → AreTerms v rs ts → AreTerms w rs ts
unfolding AreTerms
terms_kept v w [] no_trees k h = tt
terms_kept v w [] (tree t ts) k h = absurd h
terms_kept v w (r ∷ rs) no_trees k h = absurd h
terms_kept v w (r ∷ rs) (tree t ts) k h = (k.terms r t h.0, terms_kept v w rs ts k h.1)

-- ---- new variables

pub makes_none : {M : Type 0} (v : StoreView M) → Makes v v 0
unfolding with_variables
makes_none v = record { keeps = keeps_none v; state = refl }

pub makes_one_more : {M : Type 0} (v w x : StoreView M) (k : ℕ) → Makes v w k → Changes w x (with_new w.now.state) → Makes v x (suc k)
unfolding with_variables
makes_one_more v w x k a b = record { keeps = keeps_then v w x a.keeps b.keeps; state = b.state ∙ ap with_new a.state }

pub some_made : {M : Type 0} (v w x : StoreView M) (k : ℕ) → Makes v w k → Stays w x → MakesSome v x
some_made v w x k a b = (k, stays_then v w x (with_variables k v.now.state) a b)
