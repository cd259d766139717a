use Rattle.std.proofs.Common.{◌∙◌, ap, sym}
use Rattle.pi_syntax.specs.ExpTree.{exp_tree}
use Rattle.pi_prog_clauses.specs.Called.{calls_of_form}
use Rattle.pi_prog_clauses.specs.Walk.{shown_place}
use Rattle.pi_prog_clauses.proofs.nodes.FormLemmas.{calls_by_form}
use Rattle.pi_prog_clauses.proofs.names.calls.calls_at.Goals as goal

pub returns : goal.returns
returns c =
    c.calls_of_form.ensures ∙ ap (calls_of_form (shown_place c.args.node.place)) c.of.ensures
    ∙ sym (calls_by_form (shown_place c.args.node.place) (exp_tree c.args.node.exp.now))
