use Rattle.std.proofs.Common.{◌∙◌}
use Rattle.pi_plan.proofs.AdvanceLemmas.{begun_of}
use Rattle.pi_plan.proofs.advance.begin.Goals as goal

pub returns-clause-ready : goal.returns-clause-ready
returns-clause-ready c = λ bounded.
    begun_of c.args.limit c.args.best c.args.by_rest c.args.start.now c.empty-search.result c.add_start.new.self bounded c.empty-search.ensures.by_rest
    (c.empty-search.ensures.whole ∙ c.first_number.ensures) c.empty-search.ensures.ways c.empty-search.ensures.known c.empty-search.ensures.frontier c.in_ok-add_start.ensures.adds
