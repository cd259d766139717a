-- The slots of a call whose operands are evaluated hold each of its variables.
use Rattle.std.proofs.Common.{◌≡◌, ℕ, suc, ◌+◌, ◌≤◌, ◌<◌, true, List, [], ◌∷◌, Some, length, take, drop, map, refl, sym, ◌∙◌, ap, subst, arith}
use Rattle.std.specs.Prelude.{slice_get}
use Rattle.std.proofs.lemmas.List.{length-take}
use Rattle.std.proofs.lemmas.Option.{slice_get_within}
use Rattle.pi_terms.specs.Tree.{Tree, trees_of}
use Rattle.pi_terms.specs.Places.{Places}
use Rattle.pi_constraints.specs.State.{State}
use Rattle.pi_constraints.specs.Evaluation.{evaluated_all}
use Rattle.pi_constraints.proofs.KeepsLemmas.{TreesBelow, no-trees-below, trees-below}
use Rattle.pi_meaning.specs.Machine.Filled.{are_filled}
use Rattle.pi_meaning.proofs.Machine.EvaluationLemmas.{arguments-filled}
use Rattle.pi_engine_code.specs.declared.code.Operand.{Operand}
use Rattle.pi_engine_code.specs.Code.{Tables, operand_tree, operand_trees}
use Rattle.pi_engine_stands.specs.Here.{Block, IsReadable, AreReadable}
use Rattle.pi_engine_stands.proofs.PartsStand.{part-between}
use Rattle.pi_engine_stands.proofs.ValuesStand.{operand-below}

-- operands speak of the block's slots alone
each-below : (t : Tables) (b : Block) (os : List Operand) → ((i : ℕ) (o : Operand) → slice_get os i ≡ Some o → IsReadable t b o) → TreesBelow b.count (trees_of (map (operand_tree t) os))
each-below t b [] readable = no-trees-below b.count
each-below t b (o ∷ os) readable =
    trees-below b.count (operand_tree t o) (trees_of (map (operand_tree t) os)) (operand-below t b o (readable 0 o refl)) (each-below t b os (λ i r at. readable (suc i) r at))

operands-below : (t : Tables) (b : Block) (first arity : ℕ) → AreReadable t b first arity → TreesBelow b.count (trees_of (operand_trees t first arity))
operands-below t b first arity readable =
    each-below t b (take arity (drop first t.operands))
    (λ i o at.
    let within : i < arity = omega (arith, slice_get_within (take arity (drop first t.operands)) i o at, length-take arity (drop first t.operands)) in
    readable.1 i o within (sym (part-between t.operands first arity i within) ∙ at))

pub operands-filled : (t : Tables) (b : Block) (first arity : ℕ) (e : Places) (s : State) → AreReadable t b first arity → length e ≡ b.count →
    are_filled (evaluated_all (trees_of (operand_trees t first arity)) e s).slots (trees_of (operand_trees t first arity)) ≡ true
operands-filled t b first arity e s readable many =
    arguments-filled (trees_of (operand_trees t first arity)) e s (subst (λ n. TreesBelow n (trees_of (operand_trees t first arity))) (sym many) (operands-below t b first arity readable))
