use Rattle.std.proofs.Common.{◌≤◌, false, length, drop}
use Rattle.std.specs.String.{string_bytes}
use denote.Shadow.{shadow}
use denote.Text.{Utf8}
use Rattle.pi_terms.specs.Tree.{Tree, Trees}
use Rattle.pi_constraints.specs.Value.{IsAcyclic}
use Rattle.pi_constraints.specs.State.{bindings}
use Rattle.pi_constraints.specs.Store.{IsTerm, AreTerms}
use Rattle.pi_effects.specs.Exception.{bad_format}
use Rattle.pi_effects.specs.Items.{each_tree}
use Rattle.pi_effects.specs.Format.{filled_in, pieces}
use Rattle.pi_lib.proofs.PieceLemmas.{GoesOn}
use Rattle.pi_lib.proofs.formats.fill.Given as goal

abbrev pub invariant-loop-plain : goal.invariant-loop-plain
invariant-loop-plain g l =
    let v = g.S.StateStore.seen l.s in
    let s = v.now.state in
    record {
      text : shadow (Utf8 l.rest);
      within : l.taken ≤ length l.args;
      goes : (t : Tree) (ts : Trees) → IsAcyclic (bindings s) → IsTerm v l.format t → AreTerms v l.args ts → GoesOn s (bad_format t s) (filled_in s (bad_format t s) (pieces l.fn.text false) (each_tree ts)) (string_bytes l.out) l.rest (drop l.taken (each_tree ts));
    }

abbrev pub decreases-loop-plain : goal.decreases-loop-plain
decreases-loop-plain g l = length l.rest
