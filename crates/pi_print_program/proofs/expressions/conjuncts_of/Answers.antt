use Rattle.std.proofs.Common.{◌∙◌, ap, sym}
use Rattle.pi_syntax.specs.ExpTree.{and}
use Rattle.pi_syntax.specs.ExpLists.{exps_of}
use Rattle.pi_print_program.proofs.ExpTrees.{and-is}
use Rattle.pi_print_program.proofs.expressions.conjuncts_of.Goals as goal

pub returns-in-And : goal.returns-in-And
returns-in-And c = and-is c.args.exp.now c.in-And.conjuncts c.in-And.is ∙ ap (λ es. and (exps_of es)) (sym c.as_slice.ensures.value)
