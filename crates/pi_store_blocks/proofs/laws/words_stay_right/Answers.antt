use Rattle.pi_store_blocks.proofs.PastLemmas as past
use Rattle.pi_store_blocks.proofs.TermRightLemmas as lemmas
use Rattle.pi_store_blocks.proofs.laws.words_stay_right.Goals as goal

pub returns : goal.returns
returns c = record {
  grow = past.heaps_grow;
  history = lemmas.is_history;
  have_trees = lemmas.have_trees;
  are_refs = lemmas.are_refs;
  undo = lemmas.by_undo;
  writes = lemmas.by_writes;
  word = lemmas.by_word;
  push = lemmas.by_push;
  replace = lemmas.by_replace;
  names = lemmas.by_names;
}
