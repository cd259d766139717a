-- What a stack leaves, when a compound is put on it and when an argument is taken off it.
use Rattle.std.proofs.Common.{◌≡◌, ℕ, suc, ◌+◌, ◌<◌, ◌≤◌, List, [], ◌∷◌, ◌++◌, Some, refl, ap, sym, ◌∙◌, subst, inl, inr, add-one, arith}
use Rattle.pi_terms.specs.Tree.{Tree, Trees, no_trees, tree, args, arity, arg_at, tree_at}
use Rattle.pi_constraints.specs.Value.{IsAcyclic}
use Rattle.pi_constraints.specs.State.{bindings, followed, IsState}
use Rattle.pi_constraints.specs.Store.{StoreView, IsTerm}
use Rattle.pi_constraints.specs.Unify.{Pair, in_pairs}
use Rattle.pi_constraints.specs.declared.store.Ref.{Ref}
use Rattle.pi_unify.specs.Refs.{IsRef, term_of, root_of, args_from}
use Rattle.pi_unify.specs.Ahead.{pairs_in, pairs_on, IsPairs, ArePairs, pair_and, IsNextPair, in_list, args_on, IsArgs, AreArgs, term_and}
use Rattle.pi_unify.specs.declared.ahead.Rest.{Rest}
use Rattle.pi_unify.specs.declared.ahead.RefPair.{RefPair}
use Rattle.pi_unify.specs.Rests.{after, Taken}
use Rattle.pi_unify.specs.Answers.{GivesArg, GivesPair}
use Rattle.pi_unify.proofs.RestLemmas.{IsBehind, behind}
use Rattle.pi_unify.proofs.RefLemmas.{term_is, arg_ref, drop_at, drop_all}

-- what a store says of an argument
abbrev pub ArgSays : {M : Type 0} → StoreView M → Ref → ℕ → Ref → Type 0
ArgSays v r i x = (t u : Tree) → IsTerm v r t → IsAcyclic (bindings v.now.state) → arg_at (followed (bindings v.now.state) t) i ≡ Some u → IsTerm v x u

-- the argument that comes next, and those behind it
record Next {M : Type 0} (v : StoreView M) (r : Ref) (i : ℕ) (x : Ref) : Type 0 where
  pub ref : IsRef v x
  pub first : args_from v r i ≡ tree (term_of v x) (args_from v r (suc i))

next_is : {M : Type 0} (v : StoreView M) (r : Ref) (i : ℕ) (x : Ref) → IsState v.now.state → IsRef v r → i < arity (root_of v r) → ArgSays v r i x → Next v r i x
next_is v r i x is ref less says =
    let d : (u : Tree) × (tree_at (args (root_of v r)) i ≡ Some u) × (args_from v r i ≡ tree u (args_from v r (suc i))) = drop_at (args (root_of v r)) i less in
    let term : IsTerm v x d.0 = says (term_of v r) d.0 ref.is is.acyclic d.1 in
    record {
      ref = arg_ref v r x i d.0 is ref d.1 term;
      first = d.2 ∙ ap (λ (u : Tree). tree u (args_from v r (suc i))) (sym (term_is v x d.0 term));
    }

-- ---- pairs

pub pairs_on-push : {M : Type 0} (v : StoreView M) (fs : List (Rest RefPair)) (f : Rest RefPair) (ps : List Pair) → pairs_on v (fs ++ f ∷ []) ps ≡ pairs_in v f ++ pairs_on v fs ps
unfolding pairs_on
pairs_on-push v [] f ps = refl
pairs_on-push v (e ∷ fs) f ps = pairs_on-push v fs f (pairs_in v e ++ ps)

pub are_pairs-push : {M : Type 0} (v : StoreView M) (fs : List (Rest RefPair)) (f : Rest RefPair) → ArePairs v fs → IsPairs v f → ArePairs v (fs ++ f ∷ [])
unfolding ArePairs
are_pairs-push v [] f all is = (is, tt)
are_pairs-push v (e ∷ fs) f all is = (all.0, are_pairs-push v fs f all.1 is)

are_pairs-pop : {M : Type 0} (v : StoreView M) (fs : List (Rest RefPair)) (f : Rest RefPair) → ArePairs v (fs ++ f ∷ []) → ArePairs v fs × IsPairs v f
unfolding ArePairs
are_pairs-pop v [] f all = (tt, all.0)
are_pairs-pop v (e ∷ fs) f all = let rest : ArePairs v fs × IsPairs v f = are_pairs-pop v fs f all.1 in ((all.0, rest.0), rest.1)

pairs_behind : {M : Type 0} → StoreView M → Rest RefPair → List Pair
pairs_behind v f = in_pairs (args_from v f.of.left (suc f.next)) (args_from v f.of.right (suc f.next))

left_pairs : {M : Type 0} (v : StoreView M) (f : Rest RefPair) (rest gs : List (Rest RefPair)) → ArePairs v rest → IsPairs v f → IsBehind f rest gs → ArePairs v gs × (pairs_on v gs [] ≡ pairs_behind v f ++ pairs_on v rest [])
unfolding pairs_behind in_pairs
left_pairs v f rest gs all is (inl more) =
    let later : IsPairs v (after f) = record { a = is.a; b = is.b; some = more.0; of_a = is.of_a; of_b = is.of_b } in
    let same : pairs_in v (after f) ≡ pairs_behind v f = ap (λ (n : ℕ). in_pairs (args_from v f.of.left n) (args_from v f.of.right n)) (add-one f.next) in (
      subst (ArePairs v) (sym more.1) (are_pairs-push v rest (after f) all later),
      ap (λ (fs : List (Rest RefPair)). pairs_on v fs []) more.1 ∙ (pairs_on-push v rest (after f) [] ∙ ap (λ (qs : List Pair). qs ++ pairs_on v rest []) same),
    )
left_pairs v f rest gs all is (inr last) =
    let size : arity (root_of v f.of.left) ≡ f.count = is.of_a in
    let end : f.count ≤ f.next + 1 = last.0 in
    let past : arity (root_of v f.of.left) ≤ suc f.next = omega arith in
    let none : args_from v f.of.left (suc f.next) ≡ no_trees = drop_all (args (root_of v f.of.left)) (suc f.next) past in (
      subst (ArePairs v) (sym last.1) all,
      ap (λ (fs : List (Rest RefPair)). pairs_on v fs []) last.1 ∙ ap (λ (ts : Trees). in_pairs ts (args_from v f.of.right (suc f.next)) ++ pairs_on v rest []) (sym none),
    )

next_pair_is : {M : Type 0} (v : StoreView M) (f : Rest RefPair) (rest gs : List (Rest RefPair)) (x y : Ref) → IsState v.now.state → ArePairs v (rest ++ f ∷ []) → ArgSays v f.of.left f.next x → ArgSays v f.of.right f.next y → IsBehind f rest gs → IsNextPair v x y gs × (pair_and v x y gs ≡ pairs_on v (rest ++ f ∷ []) [])
unfolding pairs_behind in_pairs
next_pair_is v f rest gs x y is all left right later =
    let popped : ArePairs v rest × IsPairs v f = are_pairs-pop v rest f all in
    let pairs : IsPairs v f = popped.1 in
    let some : f.next < f.count = pairs.some in
    let a_size : arity (root_of v f.of.left) ≡ f.count = pairs.of_a in
    let b_size : arity (root_of v f.of.right) ≡ f.count = pairs.of_b in
    let a : Next v f.of.left f.next x = next_is v f.of.left f.next x is pairs.a (omega arith) left in
    let b : Next v f.of.right f.next y = next_is v f.of.right f.next y is pairs.b (omega arith) right in
    let rest_of : ArePairs v gs × (pairs_on v gs [] ≡ pairs_behind v f ++ pairs_on v rest []) = left_pairs v f rest gs popped.0 pairs later in
    let here : pairs_in v f ≡ (term_of v x, term_of v y) ∷ pairs_behind v f = ap (λ (ts : Trees). in_pairs ts (args_from v f.of.right f.next)) a.first ∙ ap (λ (us : Trees). in_pairs (tree (term_of v x) (args_from v f.of.left (suc f.next))) us) b.first in (
      record { left = a.ref; right = b.ref; ahead = rest_of.0 },
      ap (λ (ps : List Pair). (term_of v x, term_of v y) ∷ ps) rest_of.1 ∙ sym (pairs_on-push v rest f [] ∙ ap (λ (qs : List Pair). qs ++ pairs_on v rest []) here),
    )

-- ---- arguments

pub args_on-push : {M : Type 0} (v : StoreView M) (fs : List (Rest Ref)) (f : Rest Ref) (ts : List Tree) → args_on v (fs ++ f ∷ []) ts ≡ in_list (args_from v f.of f.next) ++ args_on v fs ts
unfolding args_on
args_on-push v [] f ts = refl
args_on-push v (e ∷ fs) f ts = args_on-push v fs f (in_list (args_from v e.of e.next) ++ ts)

pub are_args-push : {M : Type 0} (v : StoreView M) (fs : List (Rest Ref)) (f : Rest Ref) → AreArgs v fs → IsArgs v f → AreArgs v (fs ++ f ∷ [])
unfolding AreArgs
are_args-push v [] f all is = (is, tt)
are_args-push v (e ∷ fs) f all is = (all.0, are_args-push v fs f all.1 is)

are_args-pop : {M : Type 0} (v : StoreView M) (fs : List (Rest Ref)) (f : Rest Ref) → AreArgs v (fs ++ f ∷ []) → AreArgs v fs × IsArgs v f
unfolding AreArgs
are_args-pop v [] f all = (tt, all.0)
are_args-pop v (e ∷ fs) f all = let rest : AreArgs v fs × IsArgs v f = are_args-pop v fs f all.1 in ((all.0, rest.0), rest.1)

args_behind : {M : Type 0} → StoreView M → Rest Ref → List Tree
args_behind v f = in_list (args_from v f.of (suc f.next))

left_args : {M : Type 0} (v : StoreView M) (f : Rest Ref) (rest gs : List (Rest Ref)) → AreArgs v rest → IsArgs v f → IsBehind f rest gs → AreArgs v gs × (args_on v gs [] ≡ args_behind v f ++ args_on v rest [])
unfolding args_behind in_list
left_args v f rest gs all is (inl more) =
    let later : IsArgs v (after f) = record { of = is.of; some = more.0; count = is.count } in
    let same : in_list (args_from v f.of (f.next + 1)) ≡ args_behind v f = ap (λ (n : ℕ). in_list (args_from v f.of n)) (add-one f.next) in (
      subst (AreArgs v) (sym more.1) (are_args-push v rest (after f) all later),
      ap (λ (fs : List (Rest Ref)). args_on v fs []) more.1 ∙ (args_on-push v rest (after f) [] ∙ ap (λ (qs : List Tree). qs ++ args_on v rest []) same),
    )
left_args v f rest gs all is (inr last) =
    let size : arity (root_of v f.of) ≡ f.count = is.count in
    let end : f.count ≤ f.next + 1 = last.0 in
    let past : arity (root_of v f.of) ≤ suc f.next = omega arith in
    let none : args_from v f.of (suc f.next) ≡ no_trees = drop_all (args (root_of v f.of)) (suc f.next) past in (
      subst (AreArgs v) (sym last.1) all,
      ap (λ (fs : List (Rest Ref)). args_on v fs []) last.1 ∙ ap (λ (ts : Trees). in_list ts ++ args_on v rest []) (sym none),
    )

next_arg_is : {M : Type 0} (v : StoreView M) (f : Rest Ref) (rest gs : List (Rest Ref)) (x : Ref) → IsState v.now.state → AreArgs v (rest ++ f ∷ []) → ArgSays v f.of f.next x → IsBehind f rest gs → IsRef v x × AreArgs v gs × (term_and v x gs ≡ args_on v (rest ++ f ∷ []) [])
unfolding args_behind in_list
next_arg_is v f rest gs x is all says later =
    let popped : AreArgs v rest × IsArgs v f = are_args-pop v rest f all in
    let this : IsArgs v f = popped.1 in
    let some : f.next < f.count = this.some in
    let size : arity (root_of v f.of) ≡ f.count = this.count in
    let a : Next v f.of f.next x = next_is v f.of f.next x is this.of (omega arith) says in
    let rest_of : AreArgs v gs × (args_on v gs [] ≡ args_behind v f ++ args_on v rest []) = left_args v f rest gs popped.0 this later in
    let here : in_list (args_from v f.of f.next) ≡ term_of v x ∷ args_behind v f = ap in_list a.first in
    (a.ref, rest_of.0, ap (λ (ts : List Tree). term_of v x ∷ ts) rest_of.1 ∙ sym (args_on-push v rest f [] ∙ ap (λ (qs : List Tree). qs ++ args_on v rest []) here))

-- ---- what is taken off a stack

pub pair_taken : {M : Type 0} (v : StoreView M) (old new : List (Rest RefPair)) (f : Rest RefPair) (p : RefPair) → Taken old new f → IsState v.now.state → ArePairs v old → ArgSays v f.of.left f.next p.left → ArgSays v f.of.right f.next p.right → GivesPair v old (Some p) new
pair_taken v old new f p t is all left right =
    let x : IsNextPair v p.left p.right new × (pair_and v p.left p.right new ≡ pairs_on v (t.older ++ f ∷ []) []) = next_pair_is v f t.older new p.left p.right is (subst (ArePairs v) t.was all) left right (behind old new f t) in
    (x.0, x.1 ∙ ap (λ (fs : List (Rest RefPair)). pairs_on v fs []) (sym t.was))

pub arg_taken : {M : Type 0} (v : StoreView M) (old new : List (Rest Ref)) (f : Rest Ref) (x : Ref) → Taken old new f → IsState v.now.state → AreArgs v old → ArgSays v f.of f.next x → GivesArg v old (Some x) new
arg_taken v old new f x t is all says =
    let next : IsRef v x × AreArgs v new × (term_and v x new ≡ args_on v (t.older ++ f ∷ []) []) = next_arg_is v f t.older new x is (subst (AreArgs v) t.was all) says (behind old new f t) in
    (next.0, next.1, next.2 ∙ ap (λ (fs : List (Rest Ref)). args_on v fs []) (sym t.was))

pub no_pair_taken : {M : Type 0} (v : StoreView M) (fs : List (Rest RefPair)) → fs ≡ [] → pairs_on v fs [] ≡ []
unfolding pairs_on
no_pair_taken v fs none = ap (λ gs. pairs_on v gs []) none

pub no_arg_taken : {M : Type 0} (v : StoreView M) (fs : List (Rest Ref)) → fs ≡ [] → args_on v fs [] ≡ []
unfolding args_on
no_arg_taken v fs none = ap (λ gs. args_on v gs []) none
