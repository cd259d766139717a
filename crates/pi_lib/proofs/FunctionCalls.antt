-- What a function's name does, as the body of the function shows it.
use Rattle.std.proofs.Common.{◌≡◌, ℕ, suc, ◌==◌, true, arith, ◌∷◌, [], List, refl, subst}
use Rattle.std.specs.Prelude.{Option, Some, Result, length}
use Rattle.pi_terms.specs.Tree.{Tree, Trees, no_trees, tree}
use Rattle.pi_constraints.specs.Store.{StoreView, IsTerm, AreTerms, Stays}
use Rattle.pi_constraints.specs.declared.store.Ref.{Ref}
use Rattle.pi_effects.specs.Effect.{FunctionEffect}
use Rattle.pi_effects.specs.Answer.{Answer}
use Rattle.pi_effects.specs.BuiltIns.{answer_in}
use Rattle.pi_effects.specs.Results.{ShowsTerm, ShowsEffect}
use Rattle.pi_effects.specs.declared.fault.Stop.{Stop}
use Rattle.pi_effects.proofs.FaultLemmas.{effect-shown}

-- the terms of so many Refs
pub terms-none : {M : Type 0} (v : StoreView M) (args : List Ref) (ts : Trees) → AreTerms v args ts → (length args == 0) ≡ true → ts ≡ no_trees
unfolding AreTerms
terms-none v [] no_trees h e = refl
terms-none v [] (tree t ts) h e = absurd h
terms-none v (r ∷ rs) ts h e = absurd (none-here (length rs) e)
  where
    none-here : (k : ℕ) → (suc k == 0) ≡ true → ⊥
    none-here k d = grind (arith, d)

pub terms-one : {M : Type 0} (v : StoreView M) (args : List Ref) (a : Ref) (ts : Trees) (P : Trees → Type 0) → args ≡ a ∷ [] → AreTerms v args ts → ((t : Tree) → IsTerm v a t → P (tree t no_trees)) → P ts
unfolding AreTerms
terms-one v args a ts P e terms f = go ts (subst (λ rs. AreTerms v rs ts) e terms)
  where
    go : (us : Trees) → AreTerms v (a ∷ []) us → P us
    go no_trees h = absurd h
    go (tree t no_trees) h = f t h.0
    go (tree t (tree u us)) h = absurd h.1

pub terms-two : {M : Type 0} (v : StoreView M) (args : List Ref) (a b : Ref) (ts : Trees) (P : Trees → Type 0) → args ≡ a ∷ b ∷ [] → AreTerms v args ts → ((t u : Tree) → IsTerm v a t → IsTerm v b u → P (tree t (tree u no_trees))) → P ts
unfolding AreTerms
terms-two v args a b ts P e terms f = go ts (subst (λ rs. AreTerms v rs ts) e terms)
  where
    go : (us : Trees) → AreTerms v (a ∷ b ∷ []) us → P us
    go no_trees h = absurd h
    go (tree t no_trees) h = absurd h.1
    go (tree t (tree u no_trees)) h = f t u h.0 h.1.0
    go (tree t (tree u (tree w us))) h = absurd h.1.1

pub terms-three : {M : Type 0} (v : StoreView M) (args : List Ref) (a b c : Ref) (ts : Trees) (P : Trees → Type 0) → args ≡ a ∷ b ∷ c ∷ [] → AreTerms v args ts → ((t u w : Tree) → IsTerm v a t → IsTerm v b u → IsTerm v c w → P (tree t (tree u (tree w no_trees)))) → P ts
unfolding AreTerms
terms-three v args a b c ts P e terms f = go ts (subst (λ rs. AreTerms v rs ts) e terms)
  where
    go : (us : Trees) → AreTerms v (a ∷ b ∷ c ∷ []) us → P us
    go no_trees h = absurd h
    go (tree t no_trees) h = absurd h.1
    go (tree t (tree u no_trees)) h = absurd h.1.1
    go (tree t (tree u (tree w no_trees))) h = f t u w h.0 h.1.0 h.1.1.0
    go (tree t (tree u (tree w (tree x us)))) h = absurd h.1.1.1

-- what is done is what was asked for
pub shown-effect : {M : Type 0} (v w : StoreView M) (result : Result Ref Stop) (done : Option FunctionEffect) (e f : FunctionEffect) → done ≡ Some f → done ≡ Some e → ShowsEffect v w result f → ShowsEffect v w result e
shown-effect v w result done e f h g shows = subst (ShowsEffect v w result) (let same : f ≡ e = cc in same) shows

pub shown-answer : {M : Type 0} (v w : StoreView M) (result : Result Ref Stop) (done : Option FunctionEffect) (e : FunctionEffect) (a : Answer Tree) → Stays v w → done ≡ Some (answer_in v.now.state a) → done ≡ Some e → ShowsTerm v w result a → ShowsEffect v w result e
shown-answer v w result done e a stays h g shows = shown-effect v w result done e (answer_in v.now.state a) h g (effect-shown v w result a stays shows)

-- the first of them, and the others
pub terms-first : {M : Type 0} (v : StoreView M) (args : List Ref) (a : Ref) (rest : List Ref) (ts : Trees) (P : Trees → Type 0) → args ≡ a ∷ rest → AreTerms v args ts → ((t : Tree) (us : Trees) → IsTerm v a t → AreTerms v rest us → P (tree t us)) → P ts
unfolding AreTerms
terms-first v args a rest ts P e terms f = go ts (subst (λ rs. AreTerms v rs ts) e terms)
  where
    go : (us : Trees) → AreTerms v (a ∷ rest) us → P us
    go no_trees h = absurd h
    go (tree t us) h = f t us h.0 h.1

pub terms-nothing : {M : Type 0} (v : StoreView M) → AreTerms v [] no_trees
unfolding AreTerms
terms-nothing v = tt
