use Rattle.std.proofs.Common.{◌<◌, ◌≤◌, length, arith}
use Rattle.pi_atoms.proofs.AtomLemmas.{same_text, same_next, same_all}
use Rattle.pi_atoms.proofs.atoms.Atoms.has_all.Goals as goal

pub loop-k-preserved : goal.loop-k-preserved
loop-k-preserved c =
    let le : length c.args.other.now ≤ length c.args.self.now = omega arith in
    let lt : c.loop-k.k < length c.args.other.now = omega arith in
    same_next c.args.self.now c.args.other.now c.loop-k.k c.name.result.now c.name-in-loop-k.result.now le lt c.loop-k.invariant c.name.ensures.is c.name-in-loop-k.ensures.is (same_text c.name.result.now c.name-in-loop-k.result.now c.if-ne.ensures)

pub returns : goal.returns
returns c = λ _. same_all c.args.self.now c.args.other.now c.loop-k.k (omega arith) c.loop-k.invariant
