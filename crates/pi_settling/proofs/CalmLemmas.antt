-- Which states are calm, and that settling adds nothing to them.
use Rattle.std.specs.Prelude.{◌≡◌, ℕ, zero, suc, ◌+◌, ◌<◌, ◌≤◌, IsTrue, List, [], ◌∷◌, ◌++◌, length, get_or, map, sum_by, Some, None, Contains, refl}
use Rattle.std.proofs.Common.{arith, sym, ◌∙◌, ap, subst, inl, inr, append-nil}
use Rattle.pi_terms.specs.Tree.{var, int, atom, comp, no_trees, tree}
use Rattle.pi_terms.specs.Places.{held}
use Rattle.pi_traces.specs.Trace.{one}
use Rattle.pi_constraints.specs.declared.constraint.Constraint.{Constraint}
use Rattle.pi_constraints.specs.declared.constraint.Item.{Item}
use Rattle.pi_constraints.specs.declared.domain.Span.{Span}
use Rattle.pi_constraints.specs.Domain.{has_value}
use Rattle.pi_prop_spec.specs.Places.{places_of, domain_at}
use Rattle.pi_constraints.specs.State.{State, Variable, free, binding, next, with_new, IsState}
use Rattle.pi_constraints.specs.declared.event.Activation.{Activation}
use Rattle.pi_prop_spec.specs.Filter.{Leaves}
use Rattle.pi_constraints.specs.Evaluation.{Evaluated, evaluated, evaluated_all, with_new_variables}
use Rattle.pi_constraints.proofs.KeepsLemmas.{empty-is-state, news-keep, news-next}
use Rattle.pi_constraints.proofs.StateLemmas.{variable}
use Rattle.pi_settling.specs.Roots.{root_item, only, given}
use Rattle.pi_settling.specs.Stable.{at_places, IsStable}
use Rattle.pi_settling.specs.Events.{events_between}
use Rattle.pi_settling.specs.Load.{count_due, count_lost, load}
use Rattle.pi_settling.specs.Settled.{loaded, with_events, IsSettled}
use Rattle.pi_settling.specs.SettlingLaws.{MaySettle}
use Rattle.pi_settling.specs.Run.{given_at}
use Rattle.pi_settling.specs.Runs.{no_run}
use Rattle.pi_settling.specs.Calm.{IsCalm}
use Rattle.pi_settling.specs.CalmLaws.{EmptyIsCalm, WithoutConstraintsIsCalm, StableIsCalm, CalmGoesByVariables, NewVariablesAddUp, NewVariablesKeepCalm, SlotMakesVariables, EvaluationMakesVariables, EvaluationOfAllMakesVariables, EvaluationKeepsCalm, EvaluationOfAllKeepsCalm, CalmIsStable, CalmIsSettled, NewVariablesAreSettled, WithoutConstraintsIsSettled}
use Rattle.pi_settling.proofs.StableLemmas.{only-has, just-is}
use Rattle.pi_settling.proofs.UniqueLemmas.{same_states}
use Rattle.pi_settling.proofs.EventLemmas.{from-none}
use Rattle.pi_settling.proofs.TwiceLemmas.{left, left-unchanged, stable_stays_stable}
use Rattle.pi_settling.proofs.KeepLemmas.{MayCome, stable_is_a_state, stable_may_settle}
use Rattle.pi_settling.proofs.LoadLemmas.{HaveSameVariables, no-load, nothing-waits}
use Rattle.pi_settling.proofs.RunLemmas.{contained}
use Rattle.pi_settling.proofs.WakeLemmas.{runs_reach_stable_domains}
use Rattle.pi_settling.proofs.LabelKeeps.{none-woken}
use Rattle.pi_settling.proofs.ConfinedLemmas.{root-same}
use Rattle.pi_settling.proofs.CalmItems.{calm-like, news-like, news-at}

-- ---- a calm state is its own stable state

pub calm_is_stable : CalmIsStable
calm_is_stable s calm = runs_reach_stable_domains s [] 0 s (record {
  state = calm.state;
  settles = calm.settles;
  different = λ i j d l m. absurd (omega (arith, m));
  posted = λ i h. absurd (omega (arith, h.1));
  others = λ i c at none. calm.unchanged i c at;
}) no_run

-- ---- a stable state is calm

pub same_map_in : (f g : Item → List Span) (xs : List Item) → ((x : Item) → Contains xs x → f x ≡ g x) → map f xs ≡ map g xs
same_map_in f g [] same = refl
same_map_in f g (x ∷ xs) same =
    let here : f x ≡ g x = same x (0, omega arith, refl) in
    let rest : map f xs ≡ map g xs = same_map_in f g xs (λ y h. same y (suc h.0, omega (arith, h.1), h.2)) in
    cc

left-comes : (s : State) (x : Item) → MayCome s x → left s x ≡ given s x
unfolding left
left-comes s x (inl (n, d, e, has)) = subst (λ (y : Item). left s y ≡ given s y) (sym e) refl
left-comes s x (inr (i, e, b)) = subst (λ (y : Item). left s y ≡ given s y) (sym e) (just-is (only i) i (only-has i) b)

stable-calm : (s : State) → IsState s → MaySettle s → IsStable s s → IsCalm s
stable-calm s is may f = record {
  state = is;
  settles = may;
  unchanged = λ i c at k j l h.
      let posted : Contains s.constraints c = contained s.constraints i c at in
      let same : at_places s (left s) c ≡ given_at s c =
      same_map_in (λ x. left s (root_item s x)) (λ x. given s (root_item s x)) (places_of c) (λ x place. left-comes s (root_item s x) (may c x posted place)) in
      subst (λ (ds : List (List Span)). Leaves c ds k j) same
      (left-unchanged s s is is may f c k j posted l (subst (λ (ds : List (List Span)). IsTrue (has_value (domain_at ds k) j)) (sym same) h));
}

pub stable_is_calm : StableIsCalm
stable_is_calm s r is may f =
    let is' : IsState r = stable_is_a_state s r is f in
    stable-calm r is' (stable_may_settle s r is may f) (stable_stays_stable s r is is' may f)

-- ---- without constraints

no-constraint : {P : Type 0} (cs : List Constraint) (c : Constraint) → cs ≡ [] → Contains cs c → P
no-constraint cs c none h = absurd (let l : h.0 < length cs = h.1 in let many : length cs ≡ 0 = ap length none in omega (arith, l, many))

pub without_constraints_is_calm : WithoutConstraintsIsCalm
without_constraints_is_calm s is none = record {
  state = is;
  settles = λ c y posted at. no-constraint s.constraints c none posted;
  unchanged = λ i c at. no-constraint s.constraints c none (contained s.constraints i c at);
}

pub empty_is_calm : EmptyIsCalm
empty_is_calm = without_constraints_is_calm _ empty-is-state refl

-- ---- by variables and constraints

pub calm_goes_by_variables : CalmGoesByVariables
calm_goes_by_variables s r calm is variables constraints = calm-like s r is (record {
  variables = λ n. ap (λ (vs : List Variable). get_or vs n free) variables;
  roots = root-same s r (ap (map binding) variables);
  constraints = constraints;
}) calm

-- ---- new variables

pub new_variables_keep_calm : NewVariablesKeepCalm
new_variables_keep_calm k s calm = calm-like s (with_new_variables k s) (news-keep k s calm.state) (news-like k s calm.state) calm

pub new_variables_add_up : NewVariablesAddUp
unfolding with_new_variables
new_variables_add_up zero k s = let same : k ≡ 0 + k = omega arith in ap (λ (n : ℕ). with_new_variables n s) same
new_variables_add_up (suc j) k s = let same : suc (j + k) ≡ suc j + k = omega arith in new_variables_add_up j k (with_new s) ∙ ap (λ (n : ℕ). with_new_variables n s) same

pub slot_makes_variables : SlotMakesVariables
unfolding with_new_variables
slot_makes_variables (Some t) k e s = (0, refl)
slot_makes_variables None k e s = (1, refl)

mutual
  unfolding evaluated with_new_variables

  pub evaluation_makes_variables : EvaluationMakesVariables
  evaluation_makes_variables (var k) e s = slot_makes_variables (held e k) k e s
  evaluation_makes_variables (int n) e s = (0, refl)
  evaluation_makes_variables (atom name) e s = (0, refl)
  evaluation_makes_variables (comp name ts) e s = evaluation_of_all_makes_variables ts e s

  pub evaluation_of_all_makes_variables : EvaluationOfAllMakesVariables
  evaluation_of_all_makes_variables no_trees e s = (0, refl)
  evaluation_of_all_makes_variables (tree t ts) e s =
      let x : Evaluated = evaluated t e s in
      let first : (j : ℕ) × (x.state ≡ with_new_variables j s) = evaluation_makes_variables t e s in
      let rest : (k : ℕ) × ((evaluated_all ts x.slots x.state).state ≡ with_new_variables k x.state) = evaluation_of_all_makes_variables ts x.slots x.state in
      (first.0 + rest.0, rest.1 ∙ (ap (with_new_variables rest.0) first.1 ∙ new_variables_add_up first.0 rest.0 s))

pub evaluation_keeps_calm : EvaluationKeepsCalm
evaluation_keeps_calm t e s calm = let made = evaluation_makes_variables t e s in subst IsCalm (sym made.1) (new_variables_keep_calm made.0 s calm)

pub evaluation_of_all_keeps_calm : EvaluationOfAllKeepsCalm
evaluation_of_all_keeps_calm ts e s calm = let made = evaluation_of_all_makes_variables ts e s in subst IsCalm (sym made.1) (new_variables_keep_calm made.0 s calm)

-- ---- settling adds nothing

settled-itself : (before r : State) → HaveSameVariables before r → r.constraints ≡ before.constraints → next before ≤ next r → IsCalm r → IsSettled before r (one r)
unfolding loaded
settled-itself before r same posted more calm =
    let none : events_between before r ≡ [] = from-none r calm.state 0 before.variables (omega (arith, more)) (λ k l. sym (same k) ∙ ap (variable r) (omega arith)) in
    inr (r, calm_is_stable r calm, rw (no-load before r same posted) (ap one (sym (nothing-waits before r none))))

pub calm_is_settled : CalmIsSettled
calm_is_settled s calm = settled-itself s s (λ n. refl) refl (omega arith) calm

pub new_variables_are_settled : NewVariablesAreSettled
new_variables_are_settled k before calm =
    settled-itself before (with_new_variables k before) (news-at k before) (news-like k before calm.state).constraints (omega (arith, news-next k before)) (new_variables_keep_calm k before calm)

no-load-without : (before s : State) (cs : List Constraint) → cs ≡ [] → count_due before s 0 cs + sum_by (count_lost s s) cs ≡ 0
unfolding count_due
no-load-without before s cs none = ap (λ (list : List Constraint). count_due before s 0 list + sum_by (count_lost s s) list) none

pub without_constraints_is_settled : WithoutConstraintsIsSettled
unfolding loaded
without_constraints_is_settled before s is none agents =
    let light : load before s s ≡ 0 = no-load-without before s s.constraints none in
    let same : with_events before s ≡ s =
    same_states (with_events before s) s refl refl refl (ap (λ (list : List Activation). s.waiting ++ list) (none-woken s (events_between before s) agents) ∙ append-nil s.waiting) in
    inr (s, calm_is_stable s (without_constraints_is_calm s is none), rw light (ap one (sym same)))
