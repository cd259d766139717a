use Rattle.std.proofs.Common.{sym, ◌∙◌}
use Rattle.std.proofs.lemmas.Bool.{false≢true}
use Rattle.std.proofs.lemmas.Result.{IfOk-from_err}
use Rattle.pi_prop_filters.proofs.LeftLemmas.{distinct_left, no_distinct_left}
use Rattle.pi_prop_filters.proofs.narrowing.narrow_distinct.Goals as goal

pub returns-in_err-take_all : goal.returns-in_err-take_all
returns-in_err-take_all g c = IfOk-from_err c.from_residual.result _ c.from_residual.ensures.0

pub returns-then-not-have_values : goal.returns-then-not-have_values
returns-then-not-have_values g c =
    no_distinct_left (g.P.Places.domains c.args.places.now) (g.P.Places.domains c.take_all.new.places) (λ h. false≢true (sym c.if-not-have_values.true ∙ c.have_values.ensures.1 h)) c.in_ok-take_all.ensures

pub returns-in_err-filter_distinct : goal.returns-in_err-filter_distinct
returns-in_err-filter_distinct g c = IfOk-from_err c.from_residual-in_err-filter_distinct.result _ c.from_residual-in_err-filter_distinct.ensures.0

pub returns : goal.returns
returns g c =
    distinct_left (g.P.Places.domains c.args.places.now) (g.P.Places.domains c.filter_distinct.new.places) (c.have_values.ensures.0 c.if-not-have_values.false) c.in_ok-filter_distinct.ensures
