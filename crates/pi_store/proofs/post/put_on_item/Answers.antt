use Rattle.pi_store.proofs.AddLemmas.{adds_none}
use Rattle.pi_store.proofs.post.put_on_item.Goals as goal

pub returns-in-Int-clause-adds : goal.returns-in-Int-clause-adds
returns-in-Int-clause-adds c = adds_none c.args.words.now c.len-len.ensures.sound
