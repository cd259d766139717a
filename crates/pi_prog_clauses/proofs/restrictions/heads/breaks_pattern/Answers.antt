use Rattle.std.proofs.Common.{◌∙◌, ap, sym}
use Rattle.pi_syntax.specs.ExpTree.{exp_tree}
use Rattle.pi_prog_clauses.specs.Form.{breaks_pattern_form}
use Rattle.pi_prog_clauses.specs.Walk.{shown_place}
use Rattle.pi_prog_clauses.proofs.nodes.FormLemmas.{breaks_by_form}
use Rattle.pi_prog_clauses.proofs.restrictions.heads.breaks_pattern.Goals as goal

pub returns : goal.returns
returns c =
    c.breaks_pattern_form.ensures ∙ ap (breaks_pattern_form (shown_place c.args.node.place)) c.of-form.ensures
    ∙ sym (breaks_by_form (shown_place c.args.node.place) (exp_tree c.args.node.exp.now))
