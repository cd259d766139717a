-- Comprehensions.
use Rattle.std.proofs.Common.{◌≡◌, ℕ, List, [], ◌∷◌, ◌++◌, length, ◌∙◌, ap}
use Rattle.std.specs.Prelude.{not}
use Rattle.std.specs.Str.{bytes_eq}
use Rattle.pi_terms.specs.Tree.{Tree, trees_of}
use Rattle.pi_terms.specs.ListNames.{nil, cell_name}
use Rattle.pi_terms.specs.ListCopies.{list_cell}
use Rattle.pi_core.specs.GoalTree.{GoalTree}
use Rattle.pi_effects.specs.Inner.{itself_name}
use Rattle.pi_meaning.specs.OverNames.Loops.{hidden}
use Rattle.pi_rewrite_spec.specs.Slots.{SlotNames, slot_for, slots_for}
use Rattle.pi_rewrite_spec.specs.Iterators.{found_by}
use Rattle.pi_rewrite_spec.specs.Comprehensions.{begun, adding}
use Rattle.pi_rewrite_loops.specs.Parts.{AreGoals}

pub begun-is : (ns ms ks : SlotNames) (count : ℕ) (empty : Tree) (args : List Tree) (old new : List GoalTree) → count ≡ length ns → empty ≡ Tree.atom nil → args ≡ empty ∷ [] → new ≡ old ++ GoalTree.apply itself_name args count ∷ [] → ms ≡ found_by (λ name. not (bytes_eq name hidden)) ns → ks ≡ ms ++ hidden ∷ [] →
    AreGoals (begun ns) old new ks
begun-is ns ms ks count empty args old new at is all put but more = record {
  goals = put ∙ (ap (λ (ts : List Tree). old ++ GoalTree.apply itself_name ts count ∷ []) (all ∙ ap (λ (t : Tree). t ∷ []) is) ∙ ap (λ (k : ℕ). old ++ GoalTree.apply itself_name (Tree.atom nil ∷ []) k ∷ []) at);
  names = more ∙ ap (λ us. us ++ hidden ∷ []) but;
}

pub adding-is : (item rest cell : Tree) (pair args : List Tree) (from into : ℕ) (ns ms ks : SlotNames) (old new : List GoalTree) → from ≡ slot_for hidden ns → ms ≡ slots_for hidden ns → into ≡ slot_for hidden ms → ks ≡ slots_for hidden ms → rest ≡ Tree.var from → pair ≡ item ∷ rest ∷ [] →
    cell ≡ Tree.comp cell_name (trees_of pair) → args ≡ cell ∷ [] → new ≡ old ++ GoalTree.apply itself_name args into ∷ [] → AreGoals (adding (record { goals = []; tree = item; names = ns })) old new ks
adding-is item rest cell pair args from into ns ms ks old new at slots at' slots' var both made all put =
    let cells : cell ≡ list_cell item (Tree.var (slot_for hidden ns)) = made ∙ ap (λ ts. Tree.comp cell_name (trees_of ts)) (both ∙ ap (λ (t : Tree). item ∷ t ∷ []) (var ∙ ap Tree.var at)) in
    record {
      goals = put ∙ (ap (λ (ts : List Tree). old ++ GoalTree.apply itself_name ts into ∷ []) (all ∙ ap (λ (t : Tree). t ∷ []) cells)
          ∙ ap (λ (k : ℕ). old ++ GoalTree.apply itself_name (list_cell item (Tree.var (slot_for hidden ns)) ∷ []) k ∷ []) (at' ∙ ap (slot_for hidden) slots));
      names = slots' ∙ ap (slots_for hidden) slots;
    }
