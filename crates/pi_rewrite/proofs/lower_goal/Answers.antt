-- Behind the test the goal is built.
use Rattle.std.proofs.Common.{List, map, ap, ◌∙◌, sym}
use Rattle.pi_core.specs.CoreTree.{pred_tree, program_tree, query_tree}
use Rattle.pi_core.specs.declared.core_program.CorePred.{CorePred}
use Rattle.pi_syntax.specs.ProgramTree.{goal_source}
use Rattle.pi_rewrite_spec.specs.Programs.{core_query}
use Rattle.pi_rewrite_sites.specs.OwnNames.{own_name}
use Rattle.pi_rewrite.specs.Built.{query_prefix}
use Rattle.pi_rewrite.proofs.LawLemmas.{lowered-goal}
use Rattle.pi_rewrite.proofs.lower_goal.Goals as goal

pub returns-clause-lowered : goal.returns-clause-lowered
returns-clause-lowered c = λ program.
    lowered-goal program (goal_source c.args.goal.now) (program_tree c.args.core.now) (query_tree c.in_ok-query.query)
    (c.in_ok-query.ensures ∙ ap (λ (preds : List CorePred). core_query (own_name (query_prefix (map pred_tree preds))) (goal_source c.args.goal.now)) c.as_slice.ensures) (sym c.is_built_goal.ensures ∙ c.if-not-is_built_goal.false)
