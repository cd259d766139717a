use Rattle.pi_store.proofs.PostLemmas.{kept_if}
use Rattle.pi_store.proofs.post.post_constraint.Goals as goal

pub returns-in-Ok-clause-ok : goal.returns-in-Ok-clause-ok
returns-in-Ok-clause-ok c =
    kept_if c.args.words.now c.try_post.new.words c.keep_posted.new.words c.args.constraint.now c.in-Ok.posted c.keep_posted.result c.keep_posted.ensures.is c.in-Ok.ensures.ok c.keep_posted.ensures.kept
    (λ e. c.keep_posted.ensures.undone e c.args.words.now c.try_post.ensures.advances c.len-start.ensures.len)

pub returns-in-Err-clause-err : goal.returns-in-Err-clause-err
returns-in-Err-clause-err c = c.give_back.ensures c.args.words.now c.try_post.ensures.advances c.len-start.ensures.len
