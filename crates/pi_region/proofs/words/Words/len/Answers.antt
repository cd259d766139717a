use Rattle.std.proofs.Common.{◌≤◌, subst, arith}
use Rattle.pi_region.specs.Words.{Region, block_len, most_words}
use Rattle.pi_region.proofs.WordsLemmas.{length-written}
use Rattle.pi_region.proofs.words.Words.len.Goals as goal

pub returns-clause-small : goal.returns-clause-small
returns-clause-small c =
    let q = c.self.inside in
    subst (λ (r : Region). block_len r ≤ most_words) c.self.view_is (omega (arith, length-written q.len q.block c.self.invariant.0.0, c.self.invariant.0.0, c.self.invariant.1))
