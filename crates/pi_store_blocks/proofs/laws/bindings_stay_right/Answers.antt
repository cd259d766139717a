use Rattle.pi_store_blocks.proofs.BoundLemmas as lemmas
use Rattle.pi_store_blocks.proofs.laws.bindings_stay_right.Goals as goal

pub returns : goal.returns
returns c = record {
  have_trees = lemmas.bound_trees;
  are_refs = lemmas.bound_refs;
  undo = lemmas.by_undo;
  words = lemmas.by_words;
  new = lemmas.by_new;
  push = lemmas.by_push;
  replace = lemmas.by_replace;
  binding = lemmas.by_binding;
  domain = lemmas.by_domain;
  names = lemmas.by_names;
}
