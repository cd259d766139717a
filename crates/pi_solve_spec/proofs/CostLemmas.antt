-- What plans cost.
use Rattle.std.specs.Prelude.{◌≡◌, ◌≢◌, ◌⊎◌, ℕ, ◌+◌, ◌-◌, ◌<◌, ◌≤◌, ℤ, pos, ◌≤ℤ◌, List, [], ◌∷◌, None, Contains}
use Rattle.std.proofs.Common.{arith, subst, inl, inr}
use Rattle.std.proofs.lemmas.Int.{ints}
use Rattle.pi_terms.specs.Tree.{Tree, int}
use Rattle.pi_traces.specs.Trace.{Trace, Done, answers, end_of}
use Rattle.pi_constraints.specs.State.{State}
use Rattle.pi_core.specs.declared.log.LogEntry.{LogEntry}
use Rattle.pi_solve_spec.specs.Bodies.{Offer, Bodies, first_fault}
use Rattle.pi_solve_spec.specs.Steps.{IsFinal, GoesOn, IsStep, Valid, Reached, at_start, by_step, IsClosed, number_of}
use Rattle.pi_solve_spec.specs.Entries.{HasPlan, ExhaustedBelow}
use Rattle.pi_solve_spec.specs.Known.{NotByRests}
use Rattle.pi_solve_spec.specs.PlanLaws.{PlansKeepTheLimit, PlansGoByCost, StepsGoByCost, ReachedGoesByCost, LessIsExhausted, BestPlansAreCheapest, LeastCostIsOne, NoPlanIsNone}

pub plans_keep_the_limit : PlansKeepTheLimit
unfolding Valid
plans_keep_the_limit b log [] s r cost v = let none : cost ≡ 0 = v.1 in omega arith
plans_keep_the_limit b log (a ∷ plan) s r cost (c, t, left, others, step, is_rest, is_cost, v) =
    let rest : others ≤ left = plans_keep_the_limit b log plan t left others v in
    omega arith

final_by_cost : (b : Bodies) (log : List LogEntry) (s : Tree) (r q : ℕ) → NotByRests b → IsFinal b log s r → IsFinal b log s q
final_by_cost b log s r q same h = (h.0, subst (λ (t : Trace State). answers t ≢ []) (same.final log [] r q s h.0) h.1)

step_by_cost : (b : Bodies) (log : List LogEntry) (s : Tree) (r q : ℕ) (a : Tree) (c : ℕ) (t : Tree) → NotByRests b → c ≤ q → IsStep b log s r a c t → IsStep b log s q a c t
step_by_cost b log s r q a c t same within h = record {
  given = (h.given.0, subst (λ (u : Trace Offer). Contains (answers u) (record { state = t; action = a; cost = int (pos c) })) (same.action log [] r q s h.given.0) h.given.1);
  state = h.state;
  ground = h.ground;
  within = within;
}

pub plans_go_by_cost : PlansGoByCost
unfolding Valid
plans_go_by_cost b log [] s r q cost same v l = (final_by_cost b log s r q same v.0, v.1)
plans_go_by_cost b log (a ∷ plan) s r q cost same (c, t, left, others, step, is_rest, is_cost, v) l =
    (c, t, q - c, others, step_by_cost b log s r q a c t same (omega arith) step, omega arith, is_cost, plans_go_by_cost b log plan t left (q - c) others same v (omega arith))

pub steps_go_by_cost : StepsGoByCost
steps_go_by_cost b log s r q action cost t same h within = step_by_cost b log s r q action cost t same within h

goes_on-by_cost : (b : Bodies) (log : List LogEntry) (s : Tree) (r q : ℕ) → NotByRests b → GoesOn b log s r → GoesOn b log s q
goes_on-by_cost b log s r q same (d, e, none) =
    (d, subst (λ (t : Trace State). end_of t ≡ Done) (same.final log [] r q s d) e, subst (λ (t : Trace State). answers t ≡ []) (same.final log [] r q s d) none)

pub reached_goes_by_cost : ReachedGoesByCost
reached_goes_by_cost b log start limit _ _ more same at_start = at_start
reached_goes_by_cost b log start limit _ _ more same (by_step s r a c t left before goes step e) =
    by_step s (r + more) a c t (left + more) (reached_goes_by_cost b log start limit s r more same before) (goes_on-by_cost b log s r (r + more) same goes)
    (step_by_cost b log s r (r + more) a c t same (omega arith) step) (omega arith)

closed-by_cost : (b : Bodies) (log : List LogEntry) (s : Tree) (r q : ℕ) → NotByRests b → IsClosed b log s r → IsClosed b log s q
closed-by_cost b log s r q same h = record {
  final = goes_on-by_cost b log s r q same h.final;
  depth = h.depth;
  action = subst (λ (t : Trace Offer). end_of t ≡ Done) (same.action log [] r q s h.depth) h.action;
  faults = subst (λ (t : Trace Offer). first_fault (answers t) ≡ None) (same.action log [] r q s h.depth) h.faults;
}

pub less_is_exhausted : LessIsExhausted
less_is_exhausted b log start limit less same h within = record {
  none = λ plan cost v. h.none plan cost (plans_go_by_cost b log plan start less limit cost same v (let kept : cost ≤ less = plans_keep_the_limit b log plan start less cost v in omega arith));
  closed = λ s r reached.
      let more : ℕ = limit - less in
      let whole : less + more ≡ limit = omega arith in
      let there : Reached b log start limit s (r + more) = subst (λ (m : ℕ). Reached b log start m s (r + more)) whole (reached_goes_by_cost b log start less s r more same reached) in
      closed-by_cost b log s (r + more) r same (h.closed s (r + more) there);
}

less_or_not : (m n : ℕ) → (m < n) ⊎ (n ≤ m)
less_or_not m n = grind arith

-- a plan that is valid under some limit doesn't cost less than the least limit
not_below : (b : Bodies) (log : List LogEntry) (start : Tree) (m limit : ℕ) (actions : List Tree) (other : ℕ) → NotByRests b → ExhaustedBelow b log start m → Valid b log actions start limit other → m ≤ other
not_below b log start m limit actions other same below v = elim (less_or_not other m) [
  | inl less ↦ absurd ((below other less).none actions other (plans_go_by_cost b log actions start limit other other same v (omega arith)))
  | inr more ↦ more
]

found_below : (b : Bodies) (log : List LogEntry) (start plan : Tree) (m limit other : ℕ) (cost : ℤ) (actions : List Tree) → NotByRests b → HasPlan b log start m plan cost → ExhaustedBelow b log start m → Valid b log actions start limit other → cost ≤ℤ pos other
found_below b log start plan m limit other cost actions same has below v =
    let kept : has.number ≤ m = plans_keep_the_limit b log has.actions start m has.number has.valid in
    let least : m ≤ other = not_below b log start m limit actions other same below v in
    let is : cost ≡ pos has.number = has.is_cost in
    omega (arith, ints)

pub best_plans_are_cheapest : BestPlansAreCheapest
best_plans_are_cheapest b log start plan limit cost same (m, within, has, below) actions other v = found_below b log start plan m (number_of limit) other cost actions same has below v

pub least_cost_is_one : LeastCostIsOne
least_cost_is_one b log start plan other limit cost price same (m, within, has, below) (m', within', has', below') =
    let one : cost ≤ℤ pos has'.number = found_below b log start plan m m' has'.number cost has'.actions same has below has'.valid in
    let two : price ≤ℤ pos has.number = found_below b log start other m' m has.number price has.actions same has' below' has.valid in
    let is : cost ≡ pos has.number = has.is_cost in
    let is' : price ≡ pos has'.number = has'.is_cost in
    omega (arith, ints)

pub no_plan_is_none : NoPlanIsNone
no_plan_is_none b log start limit none m within actions cost v = (none m within).none actions cost v
