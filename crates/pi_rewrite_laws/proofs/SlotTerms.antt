-- A term over slots speaks of slots that are there.
use Rattle.std.proofs.Common.{ℕ, ◌≤◌, List, [], ◌∷◌, length, arith}
use Rattle.std.specs.Prelude.{codes, map}
use Rattle.std.specs.Str.{chars}
use Rattle.std.specs.Char.{encode_utf8}
use Rattle.pi_terms.specs.Tree.{Tree, no_trees, trees_of}
use Rattle.pi_terms.specs.ListNames.{nil, cell_name}
use Rattle.pi_constraints.specs.State.{SpeaksBelow}
use Rattle.pi_constraints.proofs.KeepsLemmas.{TreesBelow, comp-below, int-below}
use Rattle.pi_syntax.specs.PrintTerm.{array_name}
use Rattle.pi_effects.specs.Items.{list_onto as items_before, list_of}
use Rattle.pi_syntax.specs.ExpTree.{ExpTree, var, int, atom, str, list, list_onto, array, call, quote, range, range_by, ExpTrees, no_exps, exp}
use Rattle.pi_rewrite_spec.specs.Slots.{SlotNames}
use Rattle.pi_rewrite_spec.specs.Values.{slot_term, slot_terms}
use Rattle.pi_rewrite_spec.proofs.AgreeLemmas.{grows-length}
use Rattle.pi_rewrite_spec.proofs.TermLemmas.{name-room, term-grows, terms-grow}
use Rattle.pi_rewrite_laws.proofs.BelowLemmas.{none-below, front-below, var-below, atom-below, items-below}

-- ---- terms

atoms-below : (n : ℕ) (g : ℕ → List ℕ) (cs : List ℕ) → SpeaksBelow n (list_of (map (λ c. Tree.atom (g c)) cs))
unfolding items_before
atoms-below n g [] = atom-below n nil
atoms-below n g (c ∷ cs) = comp-below n cell_name _ (front-below n _ _ (atom-below n (g c)) (front-below n _ no_trees (atoms-below n g cs) (none-below n)))

mutual
  unfolding slot_term

  pub term-below : (e : ExpTree) (ns : SlotNames) (n : ℕ) → length (slot_term e ns).names ≤ n → SpeaksBelow n (slot_term e ns).tree
  term-below (var name) ns n room = var-below n _ (name-room name ns n room)
  term-below (int k) ns n room = int-below n k
  term-below (atom name) ns n room = atom-below n name
  term-below (str text) ns n room = atoms-below n encode_utf8 (chars text)
  term-below (list es) ns n room = items-below n (trees_of (slot_terms es ns).trees) (Tree.atom nil) (terms-below es ns n room) (atom-below n nil)
  term-below (list_onto es e) ns n room =
      let ms : SlotNames = (slot_terms es ns).names in
      items-below n (trees_of (slot_terms es ns).trees) (slot_term e ms).tree (terms-below es ns n (omega (arith, room, grows-length ms _ (term-grows e ms)))) (term-below e ms n room)
  term-below (array es) ns n room = comp-below n array_name _ (terms-below es ns n room)
  term-below (call name es) ns n room = comp-below n name _ (terms-below es ns n room)
  term-below (quote e) ns n room = term-below e ns n room
  term-below (range first last) ns n room =
      let ms : SlotNames = (slot_term first ns).names in
      comp-below n (codes "..") _ (front-below n _ _ (term-below first ns n (omega (arith, room, grows-length ms _ (term-grows last ms)))) (front-below n _ no_trees (term-below last ms n room) (none-below n)))
  term-below (range_by first step last) ns n room =
      let ms : SlotNames = (slot_term first ns).names in
      let ks : SlotNames = (slot_term step ms).names in
      comp-below n (codes "..") _ (front-below n _ _ (term-below first ns n (omega (arith, room, grows-length ms ks (term-grows step ms), grows-length ks _ (term-grows last ks))))
      (front-below n _ _ (term-below step ms n (omega (arith, room, grows-length ks _ (term-grows last ks)))) (front-below n _ no_trees (term-below last ks n room) (none-below n))))
  term-below e ns n room = atom-below n []

  pub terms-below : (es : ExpTrees) (ns : SlotNames) (n : ℕ) → length (slot_terms es ns).names ≤ n → TreesBelow n (trees_of (slot_terms es ns).trees)
  terms-below no_exps ns n room = none-below n
  terms-below (exp e es) ns n room =
      let ms : SlotNames = (slot_term e ns).names in
      front-below n _ _ (term-below e ns n (omega (arith, room, grows-length ms _ (terms-grow es ms)))) (terms-below es ms n room)
