-- The patterns' names are left out.
use Rattle.std.proofs.Common.{refl, ap}
use Rattle.pi_syntax.specs.ExpLists.{exps_of}
use Rattle.pi_rewrite_slots.specs.Indexed.{names_in}
use Rattle.pi_rewrite_sites.proofs.AssignedLemmas.{turn-assigned}
use Rattle.pi_rewrite_sites.proofs.assigned.push_outer.Goals as goal

pub returns : goal.returns
returns c =
    turn-assigned c.args.names.now.items c.append.new.self.items c.in_ok-outer.outer.items (names_in c.args.inner.now) (names_in c.new-patterns.result.items) (names_in c.push_patterns.new.names.items) c.args.inner.now c.as_slice.result.now
    (exps_of c.args.units.now) (ap names_in c.new-patterns.ensures.items) c.in_ok-push_patterns.ensures refl (ap names_in c.as_slice.ensures.value) c.in_ok-outer.ensures c.in_ok-append.ensures.items
