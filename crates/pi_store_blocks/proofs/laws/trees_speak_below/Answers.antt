use Rattle.pi_store_blocks.proofs.SpeakLemmas as lemmas
use Rattle.pi_store_blocks.proofs.laws.trees_speak_below.Goals as goal

pub returns : goal.returns
returns c = lemmas.trees_speak_below
