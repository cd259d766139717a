use Rattle.std.proofs.Common.{◌∙◌, ap}
use Rattle.std.proofs.lemmas.Result.{IfOk-weaker}
use Rattle.pi_prog_clauses.specs.Calls.{first_unknown}
use Rattle.pi_prog_clauses.proofs.judging.JudgedLemmas.{written_calls}
use Rattle.pi_prog_clauses.proofs.judging.first_faults.unknown_of_part.Goals as goal

pub returns : goal.returns
returns c =
    IfOk-weaker c.unknown_among.result _ _ (λ made so defined is. so defined is ∙ ap (first_unknown defined) (c.in_ok-calls.ensures ∙ written_calls c.args.part.now c.in-Written.written c.in-Written.is)) c.unknown_among.ensures
