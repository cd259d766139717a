-- A call by its name and arguments.
use Rattle.std.proofs.Common.{sym, ◌∙◌, ap}
use Rattle.pi_syntax.specs.ExpTree.{call}
use Rattle.pi_syntax.specs.ExpLists.{exps_of}
use Rattle.pi_meaning.specs.OverNames.Texts.{iterated as iterated_of}
use Rattle.pi_rewrite_sites.proofs.NowTrees.{call-now}
use Rattle.pi_rewrite_sites.proofs.units.iterated.Goals as goal

pub returns-in-Call : goal.returns-in-Call
returns-in-Call c =
    c.in_sign.ensures
    ∙ ap (λ e. iterated_of e) (ap (λ n. call n (exps_of c.as_slice.result.now)) c.as_str.ensures ∙ sym (call-now c.args.unit.now c.in-Call.name c.in-Call.args c.as_slice.result.now c.in-Call.is c.as_slice.ensures.value))
