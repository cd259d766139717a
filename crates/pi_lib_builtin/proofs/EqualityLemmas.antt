-- What is tried and undone leaves a store as it was, and says whether two terms can be one.
use Rattle.std.proofs.Common.{◌≡◌, ℕ, Bool, not, ap, sym, ◌∙◌, subst}
use Rattle.std.specs.Prelude.{Option, Some, None, is_none}
use Rattle.pi_terms.specs.Tree.{Tree}
use Rattle.pi_constraints.specs.State.{State, IsState}
use Rattle.pi_constraints.specs.Store.{StoreView, IsGood, IsTerm, Keeps, Stays, Marks, Returns}
use Rattle.pi_constraints.specs.Unify.{unified}
use Rattle.pi_constraints.specs.declared.store.Ref.{Ref}
use Rattle.pi_unify.specs.Answers.{Answers}

-- a mark, what keeps it, and the return
pub undone-stays : {M : Type 0} (order : M → ℕ) (v x y z : StoreView M) (m : M) → Marks order v x m → Keeps x y → (IsGood y m → Returns order y z m) → Stays v z
undone-stays order v x y z m marks keeps returns =
    let back : Returns order y z m = returns (keeps.good m marks.good) in
    let now : z.now ≡ v.now = back.now ∙ keeps.same m marks.good ∙ marks.brings_back in
    record {
      keeps = record {
        good = λ n h. back.good n (keeps.good n (marks.stays.keeps.good n h)) (marks.newest n h);
        same = λ n h. back.same n (keeps.good n (marks.stays.keeps.good n h)) (marks.newest n h) ∙ keeps.same n (marks.stays.keeps.good n h) ∙ marks.stays.keeps.same n h;
        beside = λ n. back.beside n ∙ (keeps.beside n ∙ marks.stays.keeps.beside n);
        terms = λ r t h. ap (λ p. p.terms r.number) now ∙ h;
        names = λ k name h. back.names k name (keeps.names k name (marks.stays.keeps.names k name h));
      };
      state = ap (λ p. p.state) now;
    }

answered : (o : Option State) (one : Bool) (now : State) → Answers o one now → is_none o ≡ not one
answered None one now h = ap not (sym h)
answered (Some r) one now h = ap not (sym h.0)

-- what is tried behind a mark is answered as it were before it
pub answered-behind : {M : Type 0} (v w : StoreView M) (a b : Ref) (t u : Tree) (one : Bool) (now : State) → Stays v w
    → ((p q : Tree) → IsState w.now.state → IsTerm w a p → IsTerm w b q → Answers (unified w.now.state p q) one now) → IsState v.now.state → IsTerm v a t → IsTerm v b u → is_none (unified v.now.state t u) ≡ not one
answered-behind v w a b t u one now stays answers is left right =
    answered (unified v.now.state t u) one now
    (subst (λ (s : State). Answers (unified s t u) one now) stays.state (answers t u (subst IsState (sym stays.state) is) (stays.keeps.terms a t left) (stays.keeps.terms b u right)))
