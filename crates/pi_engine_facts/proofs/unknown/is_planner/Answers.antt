use Rattle.std.proofs.Common.{◌==◌, ◌&&◌, ◌∙◌, ap}
use Rattle.std.specs.Prelude.{◌||◌}
use Rattle.pi_engine_facts.proofs.NameTests.{planner-test}
use Rattle.pi_engine_facts.proofs.unknown.is_planner.Goals as goal

pub returns : goal.returns
returns c = ap (λ b. b && ((c.args.arity == 2) || ((c.args.arity == 3) || (c.args.arity == 4)))) c.is_plan.ensures ∙ planner-test c.args.name.now c.args.arity
