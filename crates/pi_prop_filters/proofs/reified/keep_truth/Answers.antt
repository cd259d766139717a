use Rattle.std.proofs.lemmas.Result.{IfOk-from_err}
use Rattle.pi_prop_filters.proofs.ReifiedLemmas.{truth_kept}
use Rattle.pi_prop_filters.proofs.reified.keep_truth.Goals as goal

pub returns-in_err-keep_between : goal.returns-in_err-keep_between
returns-in_err-keep_between g c = IfOk-from_err c.from_residual.result _ c.from_residual.ensures.0

pub returns : goal.returns
returns g c =
    truth_kept c.args.holds c.args.fails c.least_truth.result c.greatest_truth.result (g.P.Places.domains c.args.places.now) (g.P.Places.domains c.keep_between.new.places) c.least_truth.ensures c.greatest_truth.ensures c.in_ok-keep_between.ensures
