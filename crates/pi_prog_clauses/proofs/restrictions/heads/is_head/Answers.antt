use Rattle.std.proofs.Common.{◌∙◌, ap, sym}
use Rattle.pi_syntax.specs.ExpTree.{exp_tree}
use Rattle.pi_prog_clauses.specs.Form.{is_head_form}
use Rattle.pi_prog_clauses.proofs.nodes.FormLemmas.{head_by_form}
use Rattle.pi_prog_clauses.proofs.restrictions.heads.is_head.Goals as goal

pub returns : goal.returns
returns c = c.is_head.ensures ∙ ap is_head_form c.of.ensures ∙ sym (head_by_form (exp_tree c.args.exp.now))
