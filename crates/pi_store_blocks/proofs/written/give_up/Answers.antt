use Rattle.pi_store_blocks.proofs.BlockLemmas.{gone}
use Rattle.pi_store_blocks.proofs.written.give_up.Goals as goal

pub returns : goal.returns
returns c = λ before b a. gone before c.args.words.now c.undo.new.self c.args.start b a c.undo.ensures.back
