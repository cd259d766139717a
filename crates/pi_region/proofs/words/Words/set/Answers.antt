use Rattle.std.proofs.Common.{ℕ, List, ◌<◌, ◌≤◌, ◌∙◌, length, slice_index, slice_set, ap, sym, subst}
use Rattle.std.proofs.lemmas.List.{length-set, get_or-set_other}
use Rattle.std.specs.Prelude.{Some}
use Rattle.pi_region.specs.Words.{Region, most_words}
use Rattle.pi_region.proofs.WordsLemmas.{AreWritten-set, length-written, written-set}
use Rattle.pi_region.proofs.words.Words.set.Goals as goal

pub invariant_of-self : goal.invariant_of-self
invariant_of-self c =
    let q = c.self.inside in
    rw c.store.ensures (AreWritten-set q.len q.block c.args.index c.args.word c.self.invariant.0, subst (λ (k : ℕ). k ≤ most_words) (sym (length-set q.block c.args.index (Some c.args.word))) c.self.invariant.1)

pub returns-clause-words : goal.returns-clause-words
returns-clause-words c =
    let q = c.self.inside in let words = ap (λ (r : Region). r.words) c.self.view_is in
    let within : c.args.index < q.len = subst (λ (k : ℕ). c.args.index < k) (ap length (sym words) ∙ length-written q.len q.block c.self.invariant.0.0) c.requires in
    rw c.store.ensures (written-set q.len q.block c.args.index c.args.word within ∙ ap (λ (ws : List ℕ). slice_set ws c.args.index c.args.word) words)

pub returns-clause-others : goal.returns-clause-others
returns-clause-others c = λ i other. ap (λ (ws : List ℕ). slice_index ws i) (returns-clause-words c) ∙ get_or-set_other c.args.self.now.words c.args.index i c.args.word 0 other
