use Rattle.pi_label.proofs.PlaceLemmas.{places-lead_to_picks}
use Rattle.pi_label.proofs.laws.places_lead_to_picks.Goals as goal

pub returns : goal.returns
returns c = places-lead_to_picks
