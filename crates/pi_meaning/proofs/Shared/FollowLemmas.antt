-- What goals leave follows what they began in: evaluation, unification, and the goals of constraints.
use Rattle.std.specs.Prelude.{◌≡◌, ℕ, zero, suc, ◌+◌, ◌≤◌, ℤ, true, false, not, List, [], ◌∷◌, ◌++◌, Option, Some, None, option_and_then, Result, Ok, Err, refl}
use Rattle.std.proofs.Common.{arith, sym, ◌∙◌, ap, subst, append_assoc, append-nil}
use Rattle.pi_terms.specs.Tree.{Tree, int}
use Rattle.pi_terms.specs.Places.{held}
use Rattle.pi_constraints.specs.declared.constraint.Constraint.{Constraint}
use Rattle.pi_constraints.specs.declared.constraint.Item.{Item}
use Rattle.pi_constraints.specs.declared.domain.Span.{Span}
use Rattle.pi_constraints.specs.Domain.{has_value, values_of, common}
use Rattle.pi_constraints.specs.State.{State, IsState, SpeaksBelow, Variable, free, within, bound, binding, bindings, next, with_new, with_variable, with_binding, with_domain, with_constraint}
use Rattle.pi_constraints.specs.Evaluation.{with_new_variables}
use Rattle.pi_constraints.specs.Unify.{Grows, unified}
use Rattle.pi_constraints.proofs.StateLemmas.{variable, held_is, changed_next}
use Rattle.pi_constraints.proofs.KeepsLemmas.{news-next}
use Rattle.pi_constraints.proofs.UnifyLemmas.{unified_grows}
use Rattle.pi_effects.specs.Effect.{Succeeds}
use Rattle.pi_prop_spec.specs.Steps.{Refusal}
use Rattle.pi_prop_spec.specs.Postings.{Posting, posting_in}
use Rattle.pi_settling.specs.Roots.{root_item, given, all_values}
use Rattle.pi_settling.specs.Choices.{with_values, narrowed_to}
use Rattle.pi_settling.specs.Values.{all_but}
use Rattle.pi_settling.specs.RightSide.{side_domain}
use Rattle.pi_settling.specs.Confined.{with_default, confined_at, confined}
use Rattle.pi_settling.specs.Within.{unless_bound, item_in, item_not_in, each_item, within_goal, notin_goal}
use Rattle.pi_settling.specs.Posted.{with_constraints, places_of_all, posted_in, effect_of_posting, posting_goal}
use Rattle.pi_settling.proofs.CalmItems.{news-at}
use Rattle.pi_settling.proofs.CalmFollowed.{changed-keeps}
use Rattle.pi_settling.proofs.CalmGoals.{Step, Went, went, only-is}
use Rattle.pi_meaning.specs.Shared.Follows.{Follows}

-- ---- an order

pub follows-itself : (s : State) → Follows s s
follows-itself s = record { posted = []; constraints = sym (append-nil s.constraints); count = omega arith; bound = λ n t is. is }

pub follows-then : (s r q : State) → Follows s r → Follows r q → Follows s q
follows-then s r q h g = record {
  posted = h.posted ++ g.posted;
  constraints = g.constraints ∙ (ap (λ (cs : List Constraint). cs ++ g.posted) h.constraints ∙ append_assoc s.constraints h.posted g.posted);
  count = omega (arith, h.count, g.count);
  bound = λ n t is. g.bound n t (h.bound n t is);
}

-- where the constraints are the same
pub follows-by : (s r : State) → r.constraints ≡ s.constraints → next s ≤ next r → ((n : ℕ) (t : Tree) → held (bindings s) n ≡ Some t → held (bindings r) n ≡ Some t) → Follows s r
follows-by s r same more keeps = record { posted = []; constraints = same ∙ sym (append-nil s.constraints); count = more; bound = keeps }

-- ---- new variables, and a unification

news-constraints : (k : ℕ) (s : State) → (with_new_variables k s).constraints ≡ s.constraints
unfolding with_new_variables
news-constraints zero s = refl
news-constraints (suc k) s = news-constraints k (with_new s)

pub follows-news : (k : ℕ) (s : State) → Follows s (with_new_variables k s)
follows-news k s = follows-by s (with_new_variables k s) (news-constraints k s) (let many : next (with_new_variables k s) ≡ next s + k = news-next k s in omega (arith, many))
    (λ n t is. held_is (with_new_variables k s) n ∙ (ap binding (news-at k s n) ∙ (sym (held_is s n) ∙ is)))

pub follows-grows : (s r : State) → Grows s r → Follows s r
follows-grows s r g = follows-by s r g.constraints (omega (arith, g.as_many)) g.keeps

pub follows-unified : (s r : State) (t u : Tree) → IsState s → SpeaksBelow (next s) t → SpeaksBelow (next s) u → unified s t u ≡ Some r → Follows s r
follows-unified s r t u is bt bu same = follows-grows s r (unified_grows s r t u is bt bu same)

-- ---- a variable that isn't bound

pub follows-changed : (s : State) (n : ℕ) (v : Variable) → held (bindings s) n ≡ None → Follows s (with_variable s n v)
follows-changed s n v none = follows-by s (with_variable s n v) refl (omega (arith, changed_next s n v)) (changed-keeps s n v none)

-- ---- `::` and `notin`

abbrev StepFollows : Step → Type 0
StepFollows f = (s : State) (x : Item) (m : State) → f s x ≡ Some m → Follows s m

values-follow : (s : State) (n : ℕ) (e : List Span) (vs : List ℤ) (m : State) → held (bindings s) n ≡ None → with_values s n e vs ≡ Some m → Follows s m
values-follow s n e [] m none same = absurd cc
values-follow s n e (i ∷ []) m none same = let here : with_binding s n (int i) ≡ m = cc in subst (Follows s) here (follows-changed s n (bound (int i)) none)
values-follow s n e (i ∷ j ∷ rest) m none same = let here : with_domain s n e ≡ m = cc in subst (Follows s) here (follows-changed s n (within e) none)

kept-follows : (d : List Span) (s : State) (n : ℕ) (m : State) (o : Option Tree) → held (bindings s) n ≡ o → unless_bound s o (narrowed_to s n (common (given s (Item.Var n)) d)) ≡ Some m → Follows s m
kept-follows d s n m None none same = values-follow s n (common (given s (Item.Var n)) d) (values_of (common (given s (Item.Var n)) d)) m none same
kept-follows d s n m (Some t) at same = let here : s ≡ m = cc in subst (Follows s) here (follows-itself s)

in-follows : (d : List Span) → StepFollows (item_in d)
in-follows d s (Item.Var n) m same = kept-follows d s n m (held (bindings s) n) refl same
in-follows d s (Item.Int i) m same = subst (Follows s) (only-is (has_value d i) s m same) (follows-itself s)

not-in-follows : (d : List Span) → StepFollows (item_not_in d)
not-in-follows d s (Item.Var n) m same = kept-follows (all_but d) s n m (held (bindings s) n) refl same
not-in-follows d s (Item.Int i) m same = subst (Follows s) (only-is (not (has_value d i)) s m same) (follows-itself s)

each-follows : (f : Step) → StepFollows f → (xs : List Item) (s r : State) → each_item f xs s ≡ Some r → Follows s r
unfolding each_item
each-follows f step [] s r same = let here : s ≡ r = cc in subst (Follows s) here (follows-itself s)
each-follows f step (x ∷ xs) s r same = by (λ m. each-follows f step xs m r) (f s (root_item s x)) refl same
  where
    by : ((m : State) → each_item f xs m ≡ Some r → Follows m r) → (o : Option State) → f s (root_item s x) ≡ o → option_and_then (each_item f xs) o ≡ Some r → Follows s r
    by later None at left = absurd cc
    by later (Some m) at left = follows-then s m r (step s (root_item s x) m at) (later m left)

pub follows-within : (s r : State) (t u : Tree) → within_goal s t u ≡ Succeeds r → Follows s r
follows-within s r t u same =
    let w : Went s r (side_domain true s u) item_in = went s r t (side_domain true s u) item_in same in
    each-follows (item_in w.domain) (in-follows w.domain) w.items s r w.left

pub follows-notin : (s r : State) (t u : Tree) → notin_goal s t u ≡ Succeeds r → Follows s r
follows-notin s r t u same =
    let w : Went s r (side_domain false s u) item_not_in = went s r t (side_domain false s u) item_not_in same in
    each-follows (item_not_in w.domain) (not-in-follows w.domain) w.items s r w.left

-- ---- goals that post

follows-constraint : (s : State) (c : Constraint) → Follows s (with_constraint s c)
follows-constraint s c = record { posted = c ∷ []; constraints = refl; count = omega arith; bound = λ n t is. is }

pub follows-constraints : (cs : List Constraint) (s : State) → Follows s (with_constraints cs s)
unfolding with_constraints
follows-constraints [] s = follows-itself s
follows-constraints (c ∷ cs) s = follows-then s (with_constraint s c) (with_constraints cs (with_constraint s c)) (follows-constraint s c) (follows-constraints cs (with_constraint s c))

follows-default : (s : State) (n : ℕ) (v : Variable) → variable s n ≡ v → Follows s (with_default s n v)
follows-default s n free is = follows-changed s n (within all_values) (held_is s n ∙ ap binding is)
follows-default s n (within d) is = follows-itself s
follows-default s n (bound t) is = follows-itself s

follows-confined_at : (s : State) (x : Item) → Follows s (confined_at s x)
follows-confined_at s (Item.Var n) = follows-default s n (variable s n) refl
follows-confined_at s (Item.Int i) = follows-itself s

pub follows-confined : (s : State) (xs : List Item) → Follows s (confined s xs)
unfolding confined
follows-confined s [] = follows-itself s
follows-confined s (x ∷ xs) =
    follows-then s (confined_at s (root_item s x)) (confined (confined_at s (root_item s x)) xs) (follows-confined_at s (root_item s x)) (follows-confined (confined_at s (root_item s x)) xs)

pub follows-posting : (s : State) (p : Posting) → Follows s (posted_in s p)
follows-posting s p =
    let made : State = with_new_variables p.fresh s in
    let posted : State = with_constraints p.list made in
    follows-then s posted (posted_in s p) (follows-then s made posted (follows-news p.fresh s) (follows-constraints p.list made)) (follows-confined posted (places_of_all p.list))

by-posting : (s r : State) (o : Result Posting Refusal) → effect_of_posting s o ≡ Succeeds r → Follows s r
by-posting s r (Err e) same = absurd cc
by-posting s r (Ok p) same = let here : posted_in s p ≡ r = cc in subst (Follows s) here (follows-posting s p)

pub follows-posted : (s r : State) (t : Tree) → posting_goal s t ≡ Succeeds r → Follows s r
follows-posted s r t same = by-posting s r (posting_in s t) same
