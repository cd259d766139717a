-- One more name.
use Rattle.std.proofs.Common.{[]}
use Rattle.pi_rewrite_slots.specs.Indexed.{names_in}
use Rattle.pi_rewrite_sites.proofs.NameLemmas.{behind-more, behind-end}
use Rattle.pi_rewrite_sites.proofs.names.put_behind.Goals as goal

pub loop-name-preserved : goal.loop-name-preserved
loop-name-preserved c =
    behind-more (names_in c.args.before.now.items) c.args.names.now c.loop-name.name-index (record { ref_ptr = (0, 0); now = [] }) (names_in c.loop-name.before.items) (names_in c.put_one.new.before.items) c.loop-name-test.true c.in_ok-put_one.ensures c.loop-name.invariant

pub returns : goal.returns
returns c = behind-end (names_in c.args.before.now.items) c.args.names.now c.loop-name.name-index (names_in c.loop-name.before.items) c.loop-name-test.false c.loop-name.invariant
