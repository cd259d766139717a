use Rattle.std.proofs.Common.{drop, subst, sym, ◌+◌}
use Rattle.pi_prop_places.specs.Roots.{ShowsOpen}
use Rattle.pi_prop_places.specs.declared.roots.Open.{Open}
use Rattle.pi_prop_places.proofs.RootLemmas.{open_at_first, open_seen, fixed_behind}
use Rattle.pi_prop_places.proofs.roots.open_places.Goals as goal

pub loop-i-init : goal.loop-i-init
loop-i-init g c = open_at_first (drop c.args.first (g.P.Places.domains c.args.places.now))

pub loop-i-preserved : goal.loop-i-preserved
loop-i-preserved g c =
    let ds = g.P.Places.domains c.args.places.now in
    subst (λ (spot : Open). ShowsOpen (drop c.args.first ds) (c.loop-i.i + 1) spot) (sym c.seen-spot.ensures)
    (open_seen (drop c.args.first ds) c.loop-i.i c.loop-i.spot c.is_fixed.result (fixed_behind ds c.args.first c.loop-i.i c.is_fixed.result c.is_fixed.ensures) c.loop-i.invariant)
