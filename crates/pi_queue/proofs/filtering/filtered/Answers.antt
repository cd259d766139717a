use Rattle.std.proofs.Common.{sym, ◌∙◌, refl}
use Rattle.std.specs.Prelude.{map}
use Rattle.pi_queue.specs.Standing.{standing_at}
use Rattle.pi_queue.proofs.FilterLemmas.{filters}
use Rattle.pi_queue.proofs.filtering.filtered.Goals as goal

pub narrow-requires-clause-count : goal.narrow-requires-clause-count
narrow-requires-clause-count g c = c.in_ok-places.ensures.count ∙ c.requires.count

pub changed-requires : goal.changed-requires
changed-requires g c = sym (c.in_ok-narrow.ensures.count ∙ c.in_ok-places.ensures.count)

pub returns-clause-filtered : goal.returns-clause-filtered
returns-clause-filtered g c = λ all.
    filters c.args.constraint.now (map (standing_at (g.S.StateStore.seen c.args.s.now).now.state) c.args.roots.now) c.in_ok-places.places.held.items c.narrow.new.places.held.items c.narrow.new.places.held.items c.in_ok-told.told.items
    (c.in_ok-places.ensures.values all) c.in_ok-narrow.ensures refl (c.in_ok-told.ensures.told all)
