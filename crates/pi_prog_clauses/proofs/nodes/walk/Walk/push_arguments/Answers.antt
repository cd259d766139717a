use Rattle.std.proofs.Common.{length, ◌++◌, ap, sym, ◌∙◌, arith}
use Rattle.pi_syntax.proofs.ExpListLemmas.{exp_count-exps_of}
use Rattle.pi_syntax.specs.ExpLists.{exps_of}
use Rattle.pi_prog_clauses.specs.Walk.{shown_place, nodes_ahead}
use Rattle.pi_prog_clauses.proofs.nodes.WalkLemmas.{once_ok, last-is-all}
use Rattle.pi_prog_clauses.proofs.nodes.walk.Walk.push_arguments.Goals as goal

pub returns : goal.returns
returns c =
    let args = c.args.args.now in
    once_ok c.push_row.result c.push_row.ensures
    (λ h. h ∙ ap (λ ps. ps ++ nodes_ahead c.args.self.now)
    (sym (last-is-all (shown_place c.args.place) c.args.name.now (length args) 0 (exps_of args) (omega (arith, exp_count-exps_of args)))))
