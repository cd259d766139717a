use Rattle.std.proofs.Common.{◌∙◌, sym}
use Rattle.std.proofs.lemmas.Bool.{false≢true}
use Rattle.pi_prop_filters.proofs.LeftLemmas.{filter_left, none_left}
use Rattle.pi_prop_filters.proofs.narrowing.narrow.Goals as goal

pub returns-then-not-have_values : goal.returns-then-not-have_values
returns-then-not-have_values g c = none_left c.args.constraint.now (g.P.Places.domains c.args.places.now) _ c.requires.count (λ h. false≢true (sym c.if-not-have_values.true ∙ c.have_values.ensures.1 h)) c.in_ok-take_all.ensures

pub returns : goal.returns
returns g c =
    filter_left c.args.constraint.now (g.P.Places.domains c.args.places.now) (g.P.Places.domains c.filter_places.new.places) _ c.requires.count (c.have_values.ensures.0 c.if-not-have_values.false) c.in_ok-filter_places.ensures c.in_ok-meet_places.ensures
