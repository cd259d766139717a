use Rattle.std.proofs.Common.{ℕ, ◌≡◌, ◌≤◌, ◌∙◌, length, ap, sym, subst, arith}
use Rattle.std.proofs.Math.ListN.{length-replicate}
use Rattle.std.specs.Prelude.{None}
use Rattle.pi_region.specs.Words.{most_words}
use Rattle.pi_region.proofs.WordsLemmas.{AreWritten-front}
use Rattle.pi_region.proofs.words.Words.copied.Goals as goal

pub invariant_of-result : goal.invariant_of-result
invariant_of-result c =
    let q = c.self.inside in
    let long : length c.copy_front.new.to ≡ q.len = c.copy_front.ensures.len ∙ ap length c.in_ok-block.ensures ∙ length-replicate q.len None in
    let written = c.self.invariant.0.0 in let most = c.self.invariant.1 in
    (AreWritten-front q.len c.copy_front.new.to q.block c.copy_front.ensures.front (omega arith) c.self.invariant.0, subst (λ (k : ℕ). k ≤ most_words) (sym long) (omega arith))
