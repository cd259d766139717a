use Rattle.std.proofs.Common.{ℕ, ◌<◌, ◌≤◌, length, ap, sym, subst, arith}
use Rattle.std.proofs.lemmas.List.{length-set}
use Rattle.std.specs.Prelude.{Some}
use Rattle.pi_region.specs.Words.{Region, most_words}
use Rattle.pi_region.proofs.WordsLemmas.{AreWritten-push}
use Rattle.pi_region.proofs.words.Words.push.Goals as goal

pub invariant_of-self : goal.invariant_of-self
invariant_of-self c =
    let q = c.self.inside in let spare = ap (λ (r : Region). r.spare) c.self.view_is in let has = c.requires in let room : q.len < length q.block = omega arith in
    rw c.store.ensures (AreWritten-push q.len q.block c.args.word c.self.invariant.0 room, subst (λ (k : ℕ). k ≤ most_words) (sym (length-set q.block q.len (Some c.args.word))) c.self.invariant.1)
