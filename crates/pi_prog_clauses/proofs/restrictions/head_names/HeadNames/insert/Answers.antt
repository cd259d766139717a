use Rattle.std.proofs.Common.{◌∙◌, ap, sym}
use Rattle.pi_prog_clauses.specs.declared.nodes.form.Form.TheVariants as code
use Rattle.pi_prog_clauses.proofs.restrictions.HeadNameLemmas.{variable_more, binding_more}
use Rattle.pi_prog_clauses.proofs.restrictions.head_names.HeadNames.insert.Goals as goal
use Rattle.pi_prog_clauses.proofs.restrictions.head_names.HeadNames.insert.Goals.{in-Variable, in-Binding}

pub returns : goal.returns
returns c = λ name.
    elim c.match-form.branch [
      | in-Variable w ↦ variable_more c.args.self.now.names.keys _ _ _ (w.in-Variable.is ∙ ap (λ k. code.Variable k) (sym w.name-is)) c.in_ok-insert.ensures.keys name
      | in-Binding w ↦ binding_more c.args.self.now.names.keys _ _ _ (w.in-Binding.is ∙ ap (λ k. code.Binding k) (sym w.name-is)) c.in_ok-insert.ensures.keys name
    ]
