-- The plan that a way is: the actions so far are valid from where it has come back to.
use Rattle.std.proofs.Common.{◌≡◌, ℕ, ◌-◌, ◌+◌, ◌≤◌, Bool, List, [], ◌∷◌, ◌++◌, map, Some, None, refl, ap, sym, ◌∙◌, subst, arith}
use Rattle.std.specs.Prelude.{slice_get, reverse}
use Rattle.std.proofs.lemmas.List.{map-append, reverse-append}
use Rattle.pi_terms.specs.Tree.{Tree}
use Rattle.pi_terms.proofs.OptionLemmas.{one-some, none-some}
use Rattle.pi_plan.specs.declared.given.GivenState.{GivenState}
use Rattle.pi_plan.specs.Plan.{Valid, at_goal, then_plan}
use Rattle.pi_plan.specs.Given.{GivenFinal, over}
use Rattle.pi_plan.specs.declared.search.Way.{Way}
use Rattle.pi_plan.specs.declared.search.Origin.{Origin}
use Rattle.pi_plan.specs.Ways.{IsStepFrom, IsStart, ComesFrom, AreWays, root}

-- actions that are a valid plan from a way on, whose cost is what is left there without what is left at the end
pub record PlanFrom (given : List GivenState) (by_rest : Bool) (ways : List Way) (left at : ℕ) (actions : List Tree) : Type 0 where
  pub here : Way
  pub is_here : slice_get ways at ≡ Some here
  pub cost : ℕ
  pub valid : Valid (over given by_rest) here.place.state here.rest actions cost
  pub spent : cost + left ≡ here.rest

pub record Building (ways : List Way) (number at : ℕ) (actions : List Tree) : Type 0 where
  pub builds : (given : List GivenState) (by_rest : Bool) (start : Tree) (whole : ℕ) (w : Way) → AreWays (over given by_rest) start whole ways → slice_get ways number ≡ Some w → GivenFinal given by_rest w.place.state w.rest →
      PlanFrom given by_rest ways w.rest at actions

pub building_start : (ways : List Way) (number : ℕ) → Building ways number number []
building_start ways number = record {
  builds = λ given by_rest start whole w are at final. record {
    here = w;
    is_here = at;
    cost = 0;
    valid = at_goal final;
    spent = omega arith;
  };
}

step_more : (given : List GivenState) (by_rest : Bool) (ways : List Way) (left at : ℕ) (actions : List Tree) (here : Way) (parent : ℕ) (action : Tree) → (p : PlanFrom given by_rest ways left at actions) → p.here ≡ here →
    IsStepFrom (over given by_rest) ways at here parent action → PlanFrom given by_rest ways left parent (action ∷ actions)
step_more given by_rest ways left at actions here parent action p same s =
    let from_here : Valid (over given by_rest) here.place.state here.rest actions p.cost = subst (λ (x : Way). Valid (over given by_rest) x.place.state x.rest actions p.cost) same p.valid in
    let within : s.cost ≤ s.before.rest = s.step.within in
    let left_here : p.cost + left ≡ here.rest = p.spent ∙ ap (λ (x : Way). x.rest) same in
    record {
      here = s.before;
      is_here = s.is_before;
      cost = s.cost + p.cost;
      valid = then_plan s.step (subst (λ (r : ℕ). Valid (over given by_rest) here.place.state r actions p.cost) s.rest from_here);
      spent = omega (arith, left_here, s.rest, within);
    }

pub building_more : (ways : List Way) (number at : ℕ) (actions : List Tree) (here : Way) (parent : ℕ) (action : Tree) → Building ways number at actions → slice_get ways at ≡ Some here → here.origin ≡ Origin.Step parent action →
    Building ways number parent (action ∷ actions)
building_more ways number at actions here parent action b is_here origin = record {
  builds = λ given by_rest start whole w are is_way final.
      let p : PlanFrom given by_rest ways w.rest at actions = b.builds given by_rest start whole w are is_way final in
      let from : ComesFrom (over given by_rest) (root start whole) ways at here (Origin.Step parent action) = subst (λ (o : Origin). ComesFrom (over given by_rest) (root start whole) ways at here o) origin (are.each at here is_here) in
      step_more given by_rest ways w.rest at actions here parent action p (one-some (slice_get ways at) p.here here p.is_here is_here) from;
}

pub building_end : (ways : List Way) (number at : ℕ) (actions : List Tree) (here : Way) → Building ways number at actions → slice_get ways at ≡ Some here → here.origin ≡ Origin.Start → (given : List GivenState) (by_rest : Bool) (start : Tree) (whole : ℕ) (w : Way) →
    AreWays (over given by_rest) start whole ways → slice_get ways number ≡ Some w → GivenFinal given by_rest w.place.state w.rest → Valid (over given by_rest) start whole actions (whole - w.rest)
building_end ways number at actions here b is_here origin given by_rest start whole w are is_way final =
    let p : PlanFrom given by_rest ways w.rest at actions = b.builds given by_rest start whole w are is_way final in
    let same : p.here ≡ here = one-some (slice_get ways at) p.here here p.is_here is_here in
    let from : IsStart (root start whole) here = subst (λ (o : Origin). ComesFrom (over given by_rest) (root start whole) ways at here o) origin (are.each at here is_here) in
    let at_start : Valid (over given by_rest) start whole actions p.cost =
    subst (λ (r : ℕ). Valid (over given by_rest) start r actions p.cost) from.rest (subst (λ (s : Tree). Valid (over given by_rest) s here.rest actions p.cost) from.state
    (subst (λ (x : Way). Valid (over given by_rest) x.place.state x.rest actions p.cost) same p.valid)) in
    let left_here : p.cost + w.rest ≡ here.rest = p.spent ∙ ap (λ (x : Way). x.rest) same in
    let costs : p.cost ≡ whole - w.rest = omega (arith, left_here, from.rest) in
    subst (λ (n : ℕ). Valid (over given by_rest) start whole actions n) costs at_start

pub building_lost : (ways : List Way) (number at : ℕ) (actions : List Tree) → Building ways number at actions → None ≡ slice_get ways at → (given : List GivenState) (by_rest : Bool) (start : Tree) (whole : ℕ) (w : Way) →
    AreWays (over given by_rest) start whole ways → slice_get ways number ≡ Some w → GivenFinal given by_rest w.place.state w.rest → Valid (over given by_rest) start whole actions (whole - w.rest)
building_lost ways number at actions b none given by_rest start whole w are is_way final =
    let p : PlanFrom given by_rest ways w.rest at actions = b.builds given by_rest start whole w are is_way final in
    absurd (none-some (sym none) p.is_here)

pub begins : (o : Origin) → ((parent : ℕ) (action : Tree) → o ≡ Origin.Step parent action → ⊥) → o ≡ Origin.Start
begins Origin.Start h = refl
begins (Origin.Step parent action) h = absurd (h parent action refl)

-- one more at the end, read backwards
pub reverse_push : {X : Type 0} (f : X → Tree) (xs ys : List X) (x : X) → ys ≡ xs ++ x ∷ [] → reverse (map f ys) ≡ f x ∷ reverse (map f xs)
reverse_push f xs ys x e = ap (λ zs. reverse (map f zs)) e ∙ (ap reverse (map-append f xs (x ∷ [])) ∙ reverse-append (map f xs) (f x ∷ []))
