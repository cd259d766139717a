use Rattle.std.proofs.Common.{◌∙◌, sym}
use Rattle.pi_store.proofs.AddLemmas.{adds_then, along_starts, along_turns, along_ends}
use Rattle.pi_store.proofs.lists.add_along.Goals as goal

pub loop-init : goal.loop-init
loop-init c = along_starts c.args.words.now c.args.number c.args.extra c.args.from c.len-len.ensures.sound

pub loop-preserved : goal.loop-preserved
loop-preserved c =
    along_turns c.args.words.now c.loop.words c.add_to_list.new.words c.args.number c.args.extra c.args.from c.loop.at c.in-Some.next c.loop.invariant c.add_to_list.ensures.adds c.in_ok-add_to_list.ensures.ok (sym c.next_variable.ensures ∙ c.in-Some.is)

pub returns-in_err-add_to_list-clause-adds : goal.returns-in_err-add_to_list-clause-adds
returns-in_err-add_to_list-clause-adds c = adds_then c.args.words.now c.loop.words c.add_to_list.new.words c.loop.invariant.adds c.add_to_list.ensures.adds

pub returns-in-None-clause-ok : goal.returns-in-None-clause-ok
returns-in-None-clause-ok c =
    along_ends c.args.words.now c.loop.words c.add_to_list.new.words c.args.number c.args.extra c.args.from c.loop.at c.loop.invariant c.add_to_list.ensures.adds c.in_ok-add_to_list.ensures.ok (sym c.next_variable.ensures ∙ c.in-None.is)

pub returns-in-None-clause-adds : goal.returns-in-None-clause-adds
returns-in-None-clause-adds c = adds_then c.args.words.now c.loop.words c.add_to_list.new.words c.loop.invariant.adds c.add_to_list.ensures.adds

pub returns-clause-adds : goal.returns-clause-adds
returns-clause-adds c = c.loop.invariant.adds
