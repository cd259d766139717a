-- One more name.
use Rattle.std.proofs.Common.{[], ap}
use Rattle.pi_meaning.specs.OverNames.Telling.{told_behind}
use Rattle.pi_rewrite_slots.specs.Indexed.{names_in}
use Rattle.pi_rewrite.proofs.TellLemmas.{told-more, told-all}
use Rattle.pi_rewrite.proofs.telling.told.Goals as goal

pub loop-name-init : goal.loop-name-init
loop-name-init c = ap (λ xs. told_behind (names_in xs) (names_in c.args.names.now)) c.new-told.ensures.items

pub loop-name-preserved : goal.loop-name-preserved
loop-name-preserved c =
    told-more c.args.names.now c.loop-name.name-index (record { ref_ptr = (0, 0); now = [] }) (names_in c.loop-name.told.items) (names_in c.tell_name.new.names.items) c.loop-name-test.true c.in_ok-tell_name.ensures c.loop-name.invariant

pub returns : goal.returns
returns c = told-all c.args.names.now c.loop-name.name-index (names_in c.loop-name.told.items) c.loop-name-test.false c.loop-name.invariant
