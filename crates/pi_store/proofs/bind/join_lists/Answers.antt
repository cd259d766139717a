use Rattle.std.proofs.Common.{◌∙◌, sym}
use Rattle.pi_store.proofs.AddLemmas.{adds_none}
use Rattle.pi_store.proofs.BindLemmas.{joins_none, joins_no_variable, joins_along}
use Rattle.pi_store.proofs.bind.join_lists.Goals as goal

pub returns-then-end-eq0-clause-ok : goal.returns-then-end-eq0-clause-ok
returns-then-end-eq0-clause-ok c = joins_none c.args.words.now c.args.n c.args.to.number (sym c.list_end-end.ensures ∙ c.if-end-eq0.true)

pub returns-then-end-eq0-clause-adds : goal.returns-then-end-eq0-clause-adds
returns-then-end-eq0-clause-adds c = adds_none c.args.words.now c.len-len.ensures.sound

pub returns-in-None-clause-ok : goal.returns-in-None-clause-ok
returns-in-None-clause-ok c = joins_no_variable c.args.words.now c.args.n c.args.to.number (sym c.variable.ensures ∙ c.in-None.is)

pub returns-in-None-clause-adds : goal.returns-in-None-clause-adds
returns-in-None-clause-adds c = adds_none c.args.words.now c.len-len.ensures.sound

pub returns-in_ok-add_along-in-Some-clause-ok : goal.returns-in_ok-add_along-in-Some-clause-ok
returns-in_ok-add_along-in-Some-clause-ok c =
    joins_along c.args.words.now c.add_along.new.words c.args.n c.args.to.number c.in-Some.m c.at-number.result.number c.list_end-end.result (sym c.variable.ensures ∙ c.in-Some.is) c.list_end-end.ensures c.in_ok-add_along-in-Some.ensures.ok
