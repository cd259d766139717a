-- One pair and what is left behind it.
use Rattle.std.proofs.Common.{◌≡◌, ℕ, zero, suc, ◌<◌, Bool, false, List, [], ◌∷◌, ◌++◌, Option, Some, refl, ap, sym, ◌∙◌, subst, inr, arith}
use Rattle.pi_terms.specs.Tree.{Tree, var, int, atom, comp, Trees, no_trees, tree, args, arity, tree_count, drop_trees}
use Rattle.pi_terms.specs.Variables.{Occurs, OccursInAny}
use Rattle.pi_constraints.specs.State.{State, next, IsState, SpeaksBelow}
use Rattle.pi_constraints.specs.Store.{StoreView, IsTerm, Keeps}
use Rattle.pi_constraints.specs.Unify.{Pair, in_pairs, Outcome, clash, changed, parts, outcome, go_on, all_unified, unified, pairs_ahead, PairsBelow, Grows}
use Rattle.pi_constraints.specs.declared.store.Ref.{Ref}
use Rattle.pi_constraints.proofs.UnifyBindings.{grows-refl}
use Rattle.pi_constraints.proofs.UnifyOutcome.{IsOutcome, Joins, Parts}
use Rattle.pi_constraints.proofs.UnifyParts.{pairs_below}
use Rattle.pi_constraints.proofs.UnifyTurns.{first_good, ahead_changed, ahead_parts, pairs_below-append, no_pairs, first_pair}
use Rattle.pi_unify.specs.Refs.{IsRef, term_of, root_of, args_from, AreTerms}
use Rattle.pi_unify.specs.Ahead.{pairs_in, pairs_on, IsPairs, ArePairs, pair_and, IsNextPair}
use Rattle.pi_unify.specs.Answers.{Answers, Meets, GoesOn, Steps}
use Rattle.pi_unify.specs.declared.roots.Roots.{Roots}
use Rattle.pi_unify.specs.declared.unifier.Step.{Step}
use Rattle.pi_unify.specs.declared.ahead.Rest.{Rest}
use Rattle.pi_unify.specs.declared.ahead.RefPair.{RefPair}
use Rattle.pi_unify.specs.Rests.{with_all}
use Rattle.pi_unify.proofs.RefLemmas.{term_is, ref_of_term, ref_root, ref_kept, root_kept}
use Rattle.pi_unify.proofs.RestLemmas.{some_put}
use Rattle.pi_unify.proofs.AheadLemmas.{pairs_on-push, are_pairs-push}

-- ---- what is ahead speaks of variables that were made

occurs_in_args : (t : Tree) (m : ℕ) → OccursInAny m (args t) → Occurs m t
unfolding Occurs
occurs_in_args (var n) m h = absurd h
occurs_in_args (int n) m h = absurd h
occurs_in_args (atom f) m h = absurd h
occurs_in_args (comp f ts) m h = h

occurs_in_drop : (k : ℕ) (ts : Trees) (m : ℕ) → OccursInAny m (drop_trees k ts) → OccursInAny m ts
unfolding Occurs
occurs_in_drop zero ts m h = h
occurs_in_drop (suc k) no_trees m h = absurd h
occurs_in_drop (suc k) (tree t ts) m h = inr (occurs_in_drop k ts m h)

args_below : {M : Type 0} (v : StoreView M) (r : Ref) (k : ℕ) → IsState v.now.state → IsRef v r → (m : ℕ) → OccursInAny m (args_from v r k) → m < next v.now.state
args_below v r k is ref m h = (ref_root v r is ref).below m (occurs_in_args (root_of v r) m (occurs_in_drop k (args (root_of v r)) m h))

ahead_below : {M : Type 0} (v : StoreView M) (fs : List (Rest RefPair)) (ps : List Pair) → IsState v.now.state → ArePairs v fs → PairsBelow (next v.now.state) ps → PairsBelow (next v.now.state) (pairs_on v fs ps)
unfolding ArePairs pairs_on
ahead_below v [] ps is all below = below
ahead_below v (f ∷ fs) ps is all below =
    ahead_below v fs (pairs_in v f ++ ps) is all.1
    (pairs_below-append (next v.now.state) (pairs_in v f) ps
    (pairs_below (next v.now.state) (args_from v f.of.left f.next) (args_from v f.of.right f.next) (args_below v f.of.left f.next is all.0.a) (args_below v f.of.right f.next is all.0.b)) below)

none_below : (n : ℕ) → PairsBelow n []
unfolding PairsBelow
none_below n = tt

pair_below : {M : Type 0} (v : StoreView M) (a b : Ref) (fs : List (Rest RefPair)) → IsState v.now.state → IsNextPair v a b fs → PairsBelow (next v.now.state) (pair_and v a b fs)
unfolding PairsBelow
pair_below v a b fs is pair = (pair.left.below, pair.right.below, ahead_below v fs [] is pair.ahead (none_below (next v.now.state)))

-- ---- what is ahead stays in a state that has grown

no_arguments : (t : Tree) (n : ℕ) → t ≡ var n → arity t ≡ 0
unfolding tree_count
no_arguments t n is = ap arity is

root_stays : {M : Type 0} (v w : StoreView M) (r : Ref) → Keeps v w → Grows v.now.state w.now.state → IsRef v r → 0 < arity (root_of v r) → root_of w r ≡ root_of v r
root_stays v w r keeps grows ref some = root_kept v w r keeps grows ref (λ n e. absurd (omega (arith, no_arguments (root_of v r) n e)))

frame_stays : {M : Type 0} (v w : StoreView M) (f : Rest RefPair) → Keeps v w → Grows v.now.state w.now.state → IsPairs v f → IsPairs w f × (pairs_in w f ≡ pairs_in v f)
frame_stays v w f keeps grows is =
    let some : f.next < f.count = is.some in
    let a_size : arity (root_of v f.of.left) ≡ f.count = is.of_a in
    let b_size : arity (root_of v f.of.right) ≡ f.count = is.of_b in
    let a : root_of w f.of.left ≡ root_of v f.of.left = root_stays v w f.of.left keeps grows is.a (omega arith) in
    let b : root_of w f.of.right ≡ root_of v f.of.right = root_stays v w f.of.right keeps grows is.b (omega arith) in (
      record {
        a = ref_kept v w f.of.left keeps grows.as_many is.a;
        b = ref_kept v w f.of.right keeps grows.as_many is.b;
        some = some;
        of_a = ap arity a ∙ a_size;
        of_b = ap arity b ∙ b_size;
      },
      ap (λ (t : Tree). in_pairs (drop_trees f.next (args t)) (args_from w f.of.right f.next)) a ∙ ap (λ (u : Tree). in_pairs (args_from v f.of.left f.next) (drop_trees f.next (args u))) b,
    )

stays : {M : Type 0} (v w : StoreView M) (fs : List (Rest RefPair)) (ps : List Pair) → Keeps v w → Grows v.now.state w.now.state → ArePairs v fs → ArePairs w fs × (pairs_on w fs ps ≡ pairs_on v fs ps)
unfolding ArePairs pairs_on
stays v w [] ps keeps grows all = (tt, refl)
stays v w (f ∷ fs) ps keeps grows all =
    let here : IsPairs w f × (pairs_in w f ≡ pairs_in v f) = frame_stays v w f keeps grows all.0 in
    let rest : ArePairs w fs × (pairs_on w fs (pairs_in v f ++ ps) ≡ pairs_on v fs (pairs_in v f ++ ps)) = stays v w fs (pairs_in v f ++ ps) keeps grows all.1 in
    ((here.0, rest.0), ap (λ (qs : List Pair). pairs_on w fs (qs ++ ps)) here.1 ∙ rest.1)

-- ---- after the roots of a pair

-- what is left of a pair and those behind it, in the state after
pub record Leaves {M : Type 0} (v w : StoreView M) (a b : Ref) (fs gs : List (Rest RefPair)) : Type 0 where
  pub state : IsState w.now.state
  pub pairs : ArePairs w gs
  pub same : all_unified v.now.state (pair_and v a b fs) ≡ all_unified w.now.state (pairs_on w gs [])
  pub fewer : pairs_ahead w.now.state (pairs_on w gs []) < pairs_ahead v.now.state (pair_and v a b fs)

abbrev outcome_at : {M : Type 0} → StoreView M → Ref → Ref → Outcome
outcome_at v a b = outcome v.now.state (root_of v a) (root_of v b)

good : {M : Type 0} (v : StoreView M) (a b : Ref) (fs : List (Rest RefPair)) → IsState v.now.state → IsNextPair v a b fs → IsOutcome v.now.state (root_of v a) (root_of v b) (outcome_at v a b)
good v a b fs is pair = first_good v.now.state (term_of v a, term_of v b) is pair.left.below pair.right.below

turned : {M : Type 0} (v : StoreView M) (a b : Ref) (fs : List (Rest RefPair)) (o : Outcome) → IsState v.now.state → IsNextPair v a b fs → outcome_at v a b ≡ o → all_unified v.now.state (pair_and v a b fs) ≡ go_on all_unified v.now.state (pairs_on v fs []) o
turned v a b fs o is pair e =
    first_pair v.now.state (term_of v a) (term_of v b) (pairs_on v fs []) is (pair_below v a b fs is pair) ∙ ap (go_on all_unified v.now.state (pairs_on v fs [])) e

pub met_clash : {M : Type 0} (v : StoreView M) (a b : Ref) (fs : List (Rest RefPair)) (now : State) (o : Outcome) → IsState v.now.state → IsNextPair v a b fs → outcome_at v a b ≡ o → Meets v.now.state (root_of v a) (root_of v b) o Roots.Clash now → Answers (all_unified v.now.state (pair_and v a b fs)) false now
met_clash v a b fs now clash is pair e meets = subst (λ (r : Option State). Answers r false now) (sym (turned v a b fs clash is pair e)) refl
met_clash v a b fs now (changed r) is pair e meets = absurd meets
met_clash v a b fs now (parts qs) is pair e meets = absurd meets

-- in a state that has grown, what the outcome leaves is what the stack leaves
left_by : {M : Type 0} (v w : StoreView M) (a b : Ref) (fs gs : List (Rest RefPair)) (ps : List Pair) → IsState w.now.state → ArePairs w gs → all_unified v.now.state (pair_and v a b fs) ≡ all_unified w.now.state ps → pairs_ahead w.now.state ps < pairs_ahead v.now.state (pair_and v a b fs) → pairs_on w gs [] ≡ ps → Leaves v w a b fs gs
left_by v w a b fs gs ps state all same fewer is = record {
  state = state;
  pairs = all;
  same = same ∙ ap (all_unified w.now.state) (sym is);
  fewer = subst (λ (qs : List Pair). pairs_ahead w.now.state qs < pairs_ahead v.now.state (pair_and v a b fs)) (sym is) fewer;
}

left_changed : {M : Type 0} (v w : StoreView M) (a b : Ref) (fs : List (Rest RefPair)) (r : State) → IsState v.now.state → IsNextPair v a b fs → Keeps v w → outcome_at v a b ≡ changed r → w.now.state ≡ r → Leaves v w a b fs fs
left_changed v w a b fs r is pair keeps e now =
    let joins : Joins v.now.state (root_of v a) (root_of v b) r = subst (IsOutcome v.now.state (root_of v a) (root_of v b)) e (good v a b fs is pair) in
    let grows : Grows v.now.state w.now.state = subst (Grows v.now.state) (sym now) joins.grows in
    let rest : ArePairs w fs × (pairs_on w fs [] ≡ pairs_on v fs []) = stays v w fs [] keeps grows pair.ahead in
    left_by v w a b fs fs (pairs_on v fs []) (subst IsState (sym now) joins.state) rest.0
    (turned v a b fs (changed r) is pair e ∙ ap (λ (s : State). all_unified s (pairs_on v fs [])) (sym now))
    (subst (λ (s : State). pairs_ahead s (pairs_on v fs []) < pairs_ahead v.now.state (pair_and v a b fs)) (sym now) (ahead_changed v.now.state (term_of v a, term_of v b) (pairs_on v fs []) r is joins)) rest.1

-- the pairs of an outcome in front of what was left
left_parts : {M : Type 0} (v w : StoreView M) (a b : Ref) (fs gs : List (Rest RefPair)) (qs : List Pair) → IsState v.now.state → IsNextPair v a b fs → outcome_at v a b ≡ parts qs → w.now.state ≡ v.now.state → ArePairs w gs → pairs_on w gs [] ≡ qs ++ pairs_on v fs [] → Leaves v w a b fs gs
left_parts v w a b fs gs qs is pair e now all on =
    let here : Parts v.now.state (root_of v a) (root_of v b) qs = subst (IsOutcome v.now.state (root_of v a) (root_of v b)) e (good v a b fs is pair) in
    left_by v w a b fs gs (qs ++ pairs_on v fs []) (subst IsState (sym now) is) all
    (turned v a b fs (parts qs) is pair e ∙ ap (λ (s : State). all_unified s (qs ++ pairs_on v fs [])) (sym now))
    (subst (λ (s : State). pairs_ahead s (qs ++ pairs_on v fs []) < pairs_ahead v.now.state (pair_and v a b fs)) (sym now) (ahead_parts v.now.state (term_of v a, term_of v b) (pairs_on v fs []) qs is here)) on

grown : (s r : State) → r ≡ s → Grows s r
grown s r e = subst (Grows s) (sym e) (grows-refl s)

pub met_same : {M : Type 0} (v w : StoreView M) (a b : Ref) (fs : List (Rest RefPair)) (o : Outcome) → IsState v.now.state → IsNextPair v a b fs → Keeps v w → outcome_at v a b ≡ o → Meets v.now.state (root_of v a) (root_of v b) o Roots.Same w.now.state → Leaves v w a b fs fs
met_same v w a b fs clash is pair keeps e meets = absurd meets
met_same v w a b fs (changed r) is pair keeps e meets = left_changed v w a b fs r is pair keeps e meets
met_same v w a b fs (parts qs) is pair keeps e meets =
    let rest : ArePairs w fs × (pairs_on w fs [] ≡ pairs_on v fs []) = stays v w fs [] keeps (grown v.now.state w.now.state meets.0) pair.ahead in
    left_parts v w a b fs fs qs is pair e meets.0 rest.0 (rest.1 ∙ ap (λ (ps : List Pair). ps ++ pairs_on v fs []) (sym meets.1))

abbrev pub refs : Ref → Ref → RefPair
refs a b = record { left = a; right = b }

abbrev first_pairs : Ref → Ref → ℕ → Rest RefPair
first_pairs a b k = record { of = refs a b; next = 0; count = k }

met_some_args : {M : Type 0} (v w : StoreView M) (a b : Ref) (fs : List (Rest RefPair)) (k : ℕ) (o : Outcome) → IsState v.now.state → IsNextPair v a b fs → Keeps v w → outcome_at v a b ≡ o → Meets v.now.state (root_of v a) (root_of v b) o (Roots.Args k) w.now.state → Leaves v w a b fs (fs ++ first_pairs a b k ∷ [])
met_some_args v w a b fs k clash is pair keeps e meets = absurd meets
met_some_args v w a b fs k (changed r) is pair keeps e meets = absurd meets
met_some_args v w a b fs k (parts qs) is pair keeps e meets =
    let grows : Grows v.now.state w.now.state = grown v.now.state w.now.state meets.0 in
    let this : IsPairs v (first_pairs a b k) = record { a = pair.left; b = pair.right; some = meets.2; of_a = meets.3; of_b = meets.4 } in
    let here : IsPairs w (first_pairs a b k) × (pairs_in w (first_pairs a b k) ≡ pairs_in v (first_pairs a b k)) = frame_stays v w (first_pairs a b k) keeps grows this in
    let rest : ArePairs w fs × (pairs_on w fs [] ≡ pairs_on v fs []) = stays v w fs [] keeps grows pair.ahead in
    left_parts v w a b fs (fs ++ first_pairs a b k ∷ []) qs is pair e meets.0 (are_pairs-push w fs (first_pairs a b k) rest.0 here.0)
    (pairs_on-push w fs (first_pairs a b k) [] ∙ (ap (λ (ps : List Pair). ps ++ pairs_on w fs []) (here.1 ∙ sym meets.1) ∙ ap (λ (ps : List Pair). qs ++ ps) rest.1))

pub met_args : {M : Type 0} (v w : StoreView M) (a b : Ref) (fs gs : List (Rest RefPair)) (k : ℕ) (o : Outcome) → IsState v.now.state → IsNextPair v a b fs → Keeps v w → outcome_at v a b ≡ o → Meets v.now.state (root_of v a) (root_of v b) o (Roots.Args k) w.now.state → gs ≡ with_all fs (refs a b) k → Leaves v w a b fs gs
met_args v w a b fs gs k clash is pair keeps e meets put = absurd meets
met_args v w a b fs gs k (changed r) is pair keeps e meets put = absurd meets
met_args v w a b fs gs k (parts qs) is pair keeps e meets put =
    subst (λ (all : List (Rest RefPair)). Leaves v w a b fs all) (sym (put ∙ some_put fs (refs a b) k meets.2)) (met_some_args v w a b fs k (parts qs) is pair keeps e meets)

-- ---- the pair that comes next

pub step_on : {M : Type 0} (v w : StoreView M) (a b : Ref) (fs hs gs : List (Rest RefPair)) (step : Step) → Leaves v w a b fs hs → GoesOn w (pairs_on w hs []) step gs → Steps v (pair_and v a b fs) step w gs
step_on v w a b fs hs gs (Step.Done one) leaves goes =
    let all : all_unified v.now.state (pair_and v a b fs) ≡ Some w.now.state = leaves.same ∙ (ap (all_unified w.now.state) goes.1 ∙ no_pairs w.now.state) in
    subst (λ (r : Option State). Answers r one w.now.state) (sym all) (goes.0, refl)
step_on v w a b fs hs gs (Step.Next x y) leaves goes = (
  leaves.state,
  goes.0,
  leaves.same ∙ ap (all_unified w.now.state) (sym goes.1),
  subst (λ (ps : List Pair). pairs_ahead w.now.state ps < pairs_ahead v.now.state (pair_and v a b fs)) (sym goes.1) leaves.fewer,
)

-- ---- all pairs

-- what is left of two terms, in the state that was made so far
pub record Unifying {M : Type 0} (v w : StoreView M) (a b x y : Ref) (fs : List (Rest RefPair)) : Type 0 where
  pub state : IsState w.now.state
  pub pair : IsNextPair w x y fs
  pub same : unified v.now.state (term_of v a) (term_of v b) ≡ all_unified w.now.state (pair_and w x y fs)

pub unifying_first : {M : Type 0} (v : StoreView M) (a b : Ref) (fs : List (Rest RefPair)) → [] ≡ fs → AreTerms v a b → Unifying v v a b a b fs
unfolding ArePairs pairs_on
unifying_first v a b fs none p = record {
  state = p.state;
  pair = record { left = p.left; right = p.right; ahead = subst (λ (gs : List (Rest RefPair)). ArePairs v gs) none tt };
  same = ap (λ (gs : List (Rest RefPair)). all_unified v.now.state (pair_and v a b gs)) none;
}

pub unifying_next : {M : Type 0} (v w x : StoreView M) (a b c d p q : Ref) (fs gs : List (Rest RefPair)) → Unifying v w a b c d fs → Steps w (pair_and w c d fs) (Step.Next p q) x gs → Unifying v x a b p q gs
unifying_next v w x a b c d p q fs gs so step = record { state = step.0; pair = step.1; same = so.same ∙ step.2 }

pub are_terms : {M : Type 0} (v : StoreView M) (a b : Ref) (t u : Tree) → IsState v.now.state → IsTerm v a t → IsTerm v b u → SpeaksBelow (next v.now.state) t → SpeaksBelow (next v.now.state) u → AreTerms v a b
are_terms v a b t u is left right left_below right_below = record { state = is; left = ref_of_term v a t left left_below; right = ref_of_term v b u right right_below }

pub unifying_done : {M : Type 0} (v w x : StoreView M) (a b c d : Ref) (fs gs : List (Rest RefPair)) (t u : Tree) (one : Bool) → IsTerm v a t → IsTerm v b u → Unifying v w a b c d fs → Steps w (pair_and w c d fs) (Step.Done one) x gs → Answers (unified v.now.state t u) one x.now.state
unifying_done v w x a b c d fs gs t u one left right so step =
    let terms : unified v.now.state t u ≡ unified v.now.state (term_of v a) (term_of v b) = ap (λ k. unified v.now.state k u) (sym (term_is v a t left)) ∙ ap (unified v.now.state (term_of v a)) (sym (term_is v b u right)) in
    subst (λ (r : Option State). Answers r one x.now.state) (sym (terms ∙ so.same)) step

pub keeps-refl : {M : Type 0} (v : StoreView M) → Keeps v v
keeps-refl v = record { good = λ m h. h; same = λ m h. refl; beside = λ m. refl; terms = λ r t h. h; names = λ k name h. h }
