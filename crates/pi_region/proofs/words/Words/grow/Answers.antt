use Rattle.std.proofs.Common.{ℕ, ◌≡◌, ◌≤◌, ◌∙◌, length, ap, sym, subst, arith}
use Rattle.std.proofs.Math.ListN.{length-replicate}
use Rattle.std.specs.Prelude.{None}
use Rattle.pi_region.specs.Words.{most_words}
use Rattle.pi_region.proofs.WordsLemmas.{AreWritten-front}
use Rattle.pi_region.proofs.words.Words.grow.Goals as goal

pub invariant_of-self : goal.invariant_of-self
invariant_of-self c =
    let q = c.self.inside in let wanted = c.grown-capacity.ensures.wanted in
    let long : length c.copy_front.new.to ≡ c.grown-capacity.result = c.copy_front.ensures.len ∙ ap length c.in_ok-block.ensures ∙ length-replicate c.grown-capacity.result None in
    (AreWritten-front q.len c.copy_front.new.to q.block c.copy_front.ensures.front (omega arith) c.self.invariant.0, subst (λ (k : ℕ). k ≤ most_words) (sym long) c.grown-capacity.ensures.most)
