use Rattle.std.proofs.Common.{◌∙◌, ℕ, List, length, subst, sym}
use Rattle.pi_prop_filters.specs.Variables.{AreRoots, AreSettled, AreSpread}
use Rattle.pi_prop_filters.proofs.RootLemmas.{roots_settled}
use Rattle.pi_prop_filters.proofs.MeetLemmas.{places_met}
use Rattle.pi_prop_filters.proofs.ApartLemmas.{apart_met}
use Rattle.pi_prop_filters.proofs.meeting.meet_items.Goals as goal

pub returns-then-are_apart : goal.returns-then-are_apart
returns-then-are_apart g c = apart_met _ (g.P.Places.domains c.args.places.now) (c.are_apart.ensures c.if-are_apart.true) c.requires

pub gather-requires : goal.gather-requires
gather-requires g c = subst AreSettled (sym c.as_slice.ensures.value) (roots_settled c.args.items.now (length c.args.items.now) _ c.in_ok-roots.ensures)

pub spread-requires : goal.spread-requires
spread-requires g c = subst AreSettled (sym c.as_slice-2.ensures.value) (roots_settled c.args.items.now (length c.args.items.now) _ c.in_ok-roots.ensures)

pub returns : goal.returns
returns g c =
    let items = c.args.items.now in
    let es = g.P.Places.domains c.gather.new.places in
    let fs = g.P.Places.domains c.spread.new.places in
    let roots = subst (AreRoots items (length items)) (sym c.as_slice.ensures.value) c.in_ok-roots.ensures in
    let spread = subst (λ (x : List ℕ). AreSpread (length x) x es fs) (c.as_slice-2.ensures.value ∙ sym c.as_slice.ensures.value) c.in_ok-spread.ensures in
    places_met items c.as_slice.result.now (g.P.Places.domains c.args.places.now) es fs c.requires roots c.in_ok-gather.ensures spread
