use Rattle.std.proofs.Common.{◌≡◌, map, take}
use Rattle.pi_region.specs.Entry.{data_of}
use Rattle.pi_region.specs.Image.{appended}
use Rattle.pi_store_blocks.specs.Terms.{term_numbers}
use Rattle.pi_store_blocks.proofs.constraints.terms.append_terms.Given as goal

abbrev pub invariant-loop-term : goal.invariant-loop-term
invariant-loop-term l = l.words ≡ appended l.initial.words (map data_of (term_numbers (take l.term-index l.terms)))
