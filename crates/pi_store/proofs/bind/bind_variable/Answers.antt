use Rattle.pi_store.proofs.bind.bind_variable.Goals as goal

pub returns-in-Err-clause-err : goal.returns-in-Err-clause-err
returns-in-Err-clause-err c = c.give_back.ensures c.args.words.now c.join_and_bind.ensures.advances c.len-start.ensures.len
