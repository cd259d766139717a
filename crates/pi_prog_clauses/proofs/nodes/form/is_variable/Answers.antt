use Rattle.std.proofs.Common.{◌∙◌, ap, sym}
use Rattle.pi_syntax.specs.ExpTree.{exp_tree}
use Rattle.pi_prog_clauses.specs.Form.{is_variable_alone}
use Rattle.pi_prog_clauses.proofs.nodes.FormLemmas.{alone_by_form}
use Rattle.pi_prog_clauses.proofs.nodes.form.is_variable.Goals as goal

pub returns : goal.returns
returns c = c.is_variable_alone.ensures ∙ ap is_variable_alone c.of.ensures ∙ sym (alone_by_form (exp_tree c.args.exp.now))
