use Rattle.std.proofs.Common.{ap, sym, Some}
use Rattle.std.proofs.lemmas.Slice.Eq.{bytes_eq-Decides}
use Rattle.pi_terms.specs.ListNames.{cell_name}
use Rattle.pi_store_blocks.proofs.NameTables.{distinct_still, table_still, names_still}
use Rattle.pi_store_blocks.proofs.raw_names.RawNames.number.Goals as goal

pub returns-then-eq-clause-ok : goal.returns-then-eq-clause-ok
returns-then-eq-clause-ok c = rw (← c.self.view_is) (ap Some (sym ((bytes_eq-Decides c.args.name.now cell_name).0 (sym c.if-eq.ensures))))

pub returns-then-eq-clause-distinct : goal.returns-then-eq-clause-distinct
returns-then-eq-clause-distinct c = rw (← c.self.view_is) c.self.invariant.distinct

pub invariant_of-self-in_err-place : goal.invariant_of-self-in_err-place
invariant_of-self-in_err-place c = table_still c.self.inside.atoms _ c.self.inside.from _ c.args.name.now c.self.invariant (sym c.if-eq.ensures) c.number.ensures.grows c.number.ensures.distinct c.make_room.ensures.same (rw (← c.len-count.ensures) c.in_ok-make_room.ensures.room)

pub returns-in_err-place-clause-same : goal.returns-in_err-place-clause-same
returns-in_err-place-clause-same c = rw (← c.self.view_is) (names_still c.self.inside.atoms _ c.self.inside.from _ c.args.name.now c.self.invariant c.number.ensures.grows c.make_room.ensures.same)

pub returns-in_err-place-clause-distinct : goal.returns-in_err-place-clause-distinct
returns-in_err-place-clause-distinct c = distinct_still c.self.inside.atoms _ c.args.name.now c.self.invariant.distinct (sym c.if-eq.ensures) c.number.ensures.grows c.number.ensures.distinct

pub invariant_of-self-2 : goal.invariant_of-self-2
invariant_of-self-2 c = table_still c.self.inside.atoms _ c.self.inside.from _ c.args.name.now c.self.invariant (sym c.if-eq.ensures) c.number.ensures.grows c.number.ensures.distinct c.make_room.ensures.same (rw (← c.len-count.ensures) c.in_ok-make_room.ensures.room)

pub returns-clause-same : goal.returns-clause-same
returns-clause-same c = rw (← c.self.view_is) (names_still c.self.inside.atoms _ c.self.inside.from _ c.args.name.now c.self.invariant c.number.ensures.grows c.make_room.ensures.same)

pub returns-clause-distinct : goal.returns-clause-distinct
returns-clause-distinct c = distinct_still c.self.inside.atoms _ c.args.name.now c.self.invariant.distinct (sym c.if-eq.ensures) c.number.ensures.grows c.number.ensures.distinct
