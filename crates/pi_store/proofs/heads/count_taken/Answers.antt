use Rattle.std.proofs.Common.{sym, subst}
use Rattle.pi_region.specs.Image.{Image}
use Rattle.pi_region.specs.Back.{Advances}
use Rattle.pi_region.proofs.BackLemmas.{from_itself}
use Rattle.pi_store.proofs.heads.count_taken.Goals as goal

pub returns-in-Err-clause-advances : goal.returns-in-Err-clause-advances
returns-in-Err-clause-advances c =
    subst (λ (j : Image). Advances c.args.words.now j) (sym (c.give_back.ensures c.args.words.now c.write_head.ensures.advances c.len-start.ensures.len)) (from_itself c.args.words.now c.len-start.ensures.sound)

pub returns-in-Err-clause-err : goal.returns-in-Err-clause-err
returns-in-Err-clause-err c = c.give_back.ensures c.args.words.now c.write_head.ensures.advances c.len-start.ensures.len
