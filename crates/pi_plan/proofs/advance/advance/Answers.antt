use Rattle.std.proofs.Common.{◌∙◌, map, arith}
use Rattle.pi_plan.specs.Searching.{asked_of}
use Rattle.pi_plan.specs.Planner.{IsReady, IsSpent}
use Rattle.pi_plan.proofs.AdvanceLemmas.{asks_from, spent_from, none_of}
use Rattle.pi_plan.proofs.advance.advance.Goals as goal

pub returns-in-Some-clause-advances : goal.returns-in-Some-clause-advances
returns-in-Some-clause-advances c = λ w given start limit h.
    let ready : IsReady w given c.loop-way.search = c.loop-way.invariant.1 w given start limit h in
    asks_from w given c.loop-way.search c.pop.new.self c.in-Some.way ready c.pop.ensures.keeps (c.in-Some.ensures.pops ready.level given (map asked_of given) ready.search)

pub returns-then-search-limit-clause-advances : goal.returns-then-search-limit-clause-advances
returns-then-search-limit-clause-advances c = λ w given start limit h.
    let ready : IsReady w given c.loop-way.search = c.loop-way.invariant.1 w given start limit h in
    let spent : IsSpent w given c.pop.new.self =
    spent_from w given c.loop-way.search c.pop.new.self ready c.pop.ensures.keeps (c.in_default.ensures.pops ready.level given (map asked_of given) ready.search) in
    none_of w given c.pop.new.self spent (omega arith)

pub loop-way-preserved : goal.loop-way-preserved
loop-way-preserved c = (
  c.begin_next.ensures.by_rest ∙ (c.pop.ensures.keeps.by_rest ∙ c.loop-way.invariant.0),
  λ w given start limit h.
      let ready : IsReady w given c.loop-way.search = c.loop-way.invariant.1 w given start limit h in
      let spent : IsSpent w given c.pop.new.self =
      spent_from w given c.loop-way.search c.pop.new.self ready c.pop.ensures.keeps (c.in_default.ensures.pops ready.level given (map asked_of given) ready.search) in
      c.in_ok-begin_next.ensures.ready w given start (omega arith) spent,
)
