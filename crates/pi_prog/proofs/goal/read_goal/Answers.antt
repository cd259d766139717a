use Rattle.pi_syntax.specs.ProgramTree.{source_tree}
use Rattle.pi_lex.specs.Kinds.{kinds}
use Rattle.pi_prog.proofs.goal.GoalLemmas.{answers_goal}
use Rattle.pi_prog.proofs.goal.read_goal.Goals as goal

pub returns-clause-exact : goal.returns-clause-exact
returns-clause-exact c = answers_goal (kinds c.args.tokens.now) (source_tree c.args.program.now) _ c.read_judged.ensures.goal c.read_judged.ensures.fault
