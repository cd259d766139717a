use Rattle.std.proofs.Common.{sym, ap, subst}
use Rattle.pi_sat_search.specs.declared.stand.Stand.{Stand}
use Rattle.pi_sat_search.specs.Steps.{Searched, IsStep, Stays}
use Rattle.pi_sat_search.proofs.NextLemmas.{searched, again-stands, again-step, again-stays, again-open, first-kept, first-stands, first-step}
use Rattle.pi_sat_search.proofs.search.SatSearch.next.Goals as goal

pub invariant_of-self : goal.invariant_of-self
invariant_of-self c =
    let a = c.self.inside in
    (c.self.invariant.0, c.self.invariant.1, again-stands a.given.domains a.given.constraints a.log a.stand c.again.new.stand _ c.self.invariant.2 c.again.ensures)

pub first_step-requires-clause-open : goal.first_step-requires-clause-open
first_step-requires-clause-open c = (again-open c.self.inside.stand c.again.new.stand c.in-None.ensures).1

pub invariant_of-self-in-None : goal.invariant_of-self-in-None
invariant_of-self-in-None c =
    let a = c.self.inside in (
      c.self.invariant.0,
      first-kept a.given.domains a.given.constraints a.log c.first_step.new.log c.first_step.new.stand c.first_step.result c.self.invariant.1 c.first_step.ensures,
      first-stands a.given.domains a.given.constraints a.log c.first_step.new.log c.first_step.new.stand c.first_step.result c.first_step.ensures,
    )

pub returns-in-Some-clause-domains : goal.returns-in-Some-clause-domains
returns-in-Some-clause-domains c = ap (λ (s : Searched). s.domains) c.self.view_is

pub returns-in-Some-clause-constraints : goal.returns-in-Some-clause-constraints
returns-in-Some-clause-constraints c = ap (λ (s : Searched). s.constraints) c.self.view_is

pub returns-in-Some-clause-step : goal.returns-in-Some-clause-step
returns-in-Some-clause-step c =
    let a = c.self.inside in
    subst (λ (s : Searched). IsStep s (searched a.given.domains a.given.constraints a.log c.again.new.stand) c.in-Some.step) c.self.view_is
    (again-step a.given.domains a.given.constraints a.log a.stand c.again.new.stand c.in-Some.step c.self.invariant.1.right c.self.invariant.2 c.in-Some.ensures)

pub returns-in-Some-clause-stays : goal.returns-in-Some-clause-stays
returns-in-Some-clause-stays c = subst (λ (s : Searched). Stays s.stand c.in-Some.step) c.self.view_is (again-stays c.self.inside.stand c.again.new.stand c.in-Some.step c.in-Some.ensures)

pub returns-in-None-clause-domains : goal.returns-in-None-clause-domains
returns-in-None-clause-domains c = ap (λ (s : Searched). s.domains) c.self.view_is

pub returns-in-None-clause-constraints : goal.returns-in-None-clause-constraints
returns-in-None-clause-constraints c = ap (λ (s : Searched). s.constraints) c.self.view_is

pub returns-in-None-clause-step : goal.returns-in-None-clause-step
returns-in-None-clause-step c =
    let a = c.self.inside in
    subst (λ (s : Searched). IsStep s (searched a.given.domains a.given.constraints c.first_step.new.log c.first_step.new.stand) c.first_step.result) c.self.view_is
    (first-step a.given.domains a.given.constraints a.log c.first_step.new.log a.stand c.first_step.new.stand c.first_step.result c.self.invariant.1.right c.first_step.ensures)

pub returns-in-None-clause-stays : goal.returns-in-None-clause-stays
returns-in-None-clause-stays c =
    let opened = (again-open c.self.inside.stand c.again.new.stand c.in-None.ensures).0 in
    subst (λ (s : Searched). Stays s.stand c.first_step.result) c.self.view_is (subst (λ (o : Stand). Stays o c.first_step.result) (sym opened) tt)
