use Rattle.std.specs.String.{string_bytes}
use Rattle.pi_syntax.specs.ExpTree.{exp_tree}
use Rattle.pi_syntax.specs.ExpLists.{exps_of}
use Rattle.pi_print_program.specs.CanonicalExp.{top_text}
use Rattle.pi_print_program.proofs.ClauseLemmas.{top-and, top-other}
use Rattle.pi_print_program.proofs.PartedLemmas.{wrote-as}
use Rattle.pi_print_program.proofs.expressions.write_top.Goals as goal

pub returns-in-Some : goal.returns-in-Some
returns-in-Some c =
    wrote-as c.write_exps.result (string_bytes c.args.out.now) (string_bytes c.write_exps.new.out) _ (top_text (exp_tree c.args.exp.now))
    (top-and (exp_tree c.args.exp.now) (exps_of c.in-Some.conjuncts.now) c.in-Some.ensures) c.write_exps.ensures

pub returns-in-None : goal.returns-in-None
returns-in-None c =
    wrote-as c.write_exp.result (string_bytes c.args.out.now) (string_bytes c.write_exp.new.out) _ (top_text (exp_tree c.args.exp.now))
    (top-other (exp_tree c.args.exp.now) c.in-None.ensures) c.write_exp.ensures
