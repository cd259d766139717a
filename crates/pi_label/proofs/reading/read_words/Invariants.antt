use Rattle.std.proofs.Common.{List}
use Rattle.pi_terms.specs.Tree.{Tree}
use Rattle.pi_unify.specs.Terms.{HoldsNoCycle}
use Rattle.pi_lib_builtin.specs.Items.{AreItems}
use Rattle.pi_label.proofs.WordLemmas.{AreReadTo}
use Rattle.pi_label.proofs.reading.read_words.Given as goal

-- the words before one were read
abbrev pub invariant-loop-word : goal.invariant-loop-word
invariant-loop-word g l =
    let v = g.S.StateStore.seen l.s in
    (ts : List Tree) → HoldsNoCycle v → AreItems v l.words ts → AreReadTo v ts l.chosen l.word-index
