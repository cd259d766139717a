use Rattle.pi_store.proofs.heads.give_back.Goals as goal

pub returns : goal.returns
returns c = λ before a e. c.undo.ensures.restores before a e
