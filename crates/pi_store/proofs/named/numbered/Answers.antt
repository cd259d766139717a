use Rattle.std.proofs.Common.{refl, sym, ◌∙◌}
use Rattle.pi_store.proofs.NumberedLemmas.{numbered_so, numbered_by_word, named_so, named_then}
use Rattle.pi_store.proofs.named.numbered.Goals as goal

pub returns-in_err-number-clause-moved : goal.returns-in_err-number-clause-moved
returns-in_err-number-clause-moved c = numbered_so _ _ _ _ _ c.number.ensures.grows c.number.ensures.same c.number.ensures.distinct refl

pub returns-then-is_given-clause-moved : goal.returns-then-is_given-clause-moved
returns-then-is_given-clause-moved c = numbered_so _ _ _ _ _ c.number.ensures.grows c.number.ensures.same c.number.ensures.distinct refl

pub returns-then-is_given-clause-ok : goal.returns-then-is_given-clause-ok
returns-then-is_given-clause-ok c = named_so c.number.new.self _ _ _ _ _ c.from.ensures c.len.ensures.len (sym c.is_given.ensures.is ∙ c.if-is_given.true) c.in_ok-number.ensures.ok

pub returns-in_err-append-clause-moved : goal.returns-in_err-append-clause-moved
returns-in_err-append-clause-moved c = numbered_so _ _ _ _ _ c.number.ensures.grows c.number.ensures.same c.number.ensures.distinct c.in_err-append.ensures.err

pub returns-clause-moved : goal.returns-clause-moved
returns-clause-moved c =
    numbered_by_word _ c.number.new.self _ _ _ _ _ _ c.number.ensures.grows c.number.ensures.same c.number.ensures.distinct c.give.ensures.texts c.give.ensures.earlier c.give.ensures.stays c.len-2.ensures.len c.data.ensures
    c.in_ok-append.ensures.ok

pub returns-clause-ok : goal.returns-clause-ok
returns-clause-ok c = named_then c.number.new.self c.give.new.self _ _ _ _ _ c.from-2.ensures c.len-2.ensures.len c.give.ensures.texts c.give.ensures.given c.in_ok-number.ensures.ok
