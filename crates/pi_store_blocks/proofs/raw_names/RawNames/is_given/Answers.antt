use Rattle.std.proofs.Common.{◌-◌, ◌<◌, length, arith}
use Rattle.pi_store_blocks.proofs.NameTables.{given_known}
use Rattle.pi_store_blocks.proofs.raw_names.RawNames.is_given.Goals as goal

pub returns-then-number-eq0-clause-known : goal.returns-then-number-eq0-clause-known
returns-then-number-eq0-clause-known c = λ _. rw (← c.self.view_is) (omega arith)

pub returns-clause-known : goal.returns-clause-known
returns-clause-known c = λ given.
    let known = given_known c.self.inside.atoms c.self.inside.from (c.args.number - 1) c.get.result c.args.len c.is_from.result c.self.invariant c.get.ensures c.is_from.ensures given in
    rw (← c.self.view_is) (omega arith)
