use Rattle.std.proofs.Common.{ℕ, List, ◌≤◌, ◌∙◌, length, take, ap, sym, subst}
use Rattle.pi_region.specs.Words.{Region}
use Rattle.pi_region.proofs.WordsLemmas.{length-written, written-take}
use Rattle.pi_region.proofs.words.Words.truncate.Goals as goal

pub returns-clause-words : goal.returns-clause-words
returns-clause-words c =
    let q = c.self.inside in let words = ap (λ (r : Region). r.words) c.self.view_is in
    let within : c.args.n ≤ q.len = subst (λ (k : ℕ). c.args.n ≤ k) (ap length (sym words) ∙ length-written q.len q.block c.self.invariant.0.0) c.requires in
    written-take c.args.n q.len q.block within ∙ ap (λ (ws : List ℕ). take c.args.n ws) words
