use Rattle.std.proofs.Common.{◌∙◌, ap, sym}
use Rattle.pi_syntax.specs.ExpTree.{exp_tree}
use Rattle.pi_prog_clauses.specs.Form.{is_bad_form}
use Rattle.pi_prog_clauses.specs.Walk.{shown_place}
use Rattle.pi_prog_clauses.proofs.nodes.FormLemmas.{bad_by_form}
use Rattle.pi_prog_clauses.proofs.restrictions.bad_nodes.is_bad.Goals as goal

pub returns : goal.returns
returns c =
    c.is_bad_form.ensures ∙ ap (is_bad_form (shown_place c.args.node.place)) c.of-form.ensures
    ∙ sym (bad_by_form (shown_place c.args.node.place) (exp_tree c.args.node.exp.now))
