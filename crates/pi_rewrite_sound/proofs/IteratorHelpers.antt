-- Helpers of iterators, of what stands in a turn: of lists and arrays, and of ranges.
use Rattle.std.proofs.Common.{◌≡◌, inl, inr, ℕ, suc, ◌+◌, ◌-◌, ◌≤◌, ◌<◌, List, [], ◌∷◌, ◌++◌, length, refl, sym, ◌∙◌, ap, subst, arith, length-append}
use Rattle.std.specs.Prelude.{IsTrue, codes, pos, replicate}
use Rattle.pi_terms.specs.Tree.{Tree, no_trees, trees_of}
use Rattle.pi_terms.specs.ListNames.{nil, cell_name}
use Rattle.pi_terms.specs.PatternTree.{PatternTree, slot, exact_atom, compound, no_patterns, pattern, HaveSlot}
use Rattle.pi_constraints.specs.State.{SpeaksBelow}
use Rattle.pi_constraints.proofs.KeepsLemmas.{TreesBelow, int-below}
use Rattle.pi_effects.specs.Indexing.{index_name}
use Rattle.pi_syntax.specs.ExpTree.{ExpTree}
use Rattle.pi_core.specs.GoalTree.{GoalTree, tick, if_else, call, apply}
use Rattle.pi_core.specs.CoreTree.{PredTree}
use Rattle.pi_meaning.specs.CoreMeaning.Quiet.{Callee, Passes, Reaches}
use Rattle.pi_meaning.specs.CoreMeaning.Sound.{pattern_count}
use Rattle.pi_rewrite_spec.specs.Forms.{Knows, IsPattern}
use Rattle.pi_rewrite_spec.specs.Slots.{SlotNames, unnamed}
use Rattle.pi_rewrite_spec.specs.Values.{SlotPattern, slot_pattern}
use Rattle.pi_rewrite_spec.specs.Goals.{SlotGoals, in_turn}
use Rattle.pi_rewrite_spec.specs.Loops.{slots_from, slots_head, closing, closing_slots, Loop}
use Rattle.pi_rewrite_spec.specs.Iterators.{walk_slots, handed, turn_slots, end_slots, tick_then, element_helper, turn_helper}
use Rattle.pi_rewrite_spec.specs.Ranges.{next_turn, range_helper, step_helper}
use Rattle.pi_rewrite_laws.proofs.BelowLemmas.{none-below, front-below, var-below}
use Rattle.pi_rewrite_laws.proofs.SoundLemmas.{pattern-below}
use Rattle.pi_rewrite_spec.proofs.EnteredLemmas.{values-long}
use Rattle.pi_rewrite_laws.proofs.HelperLemmas.{AreAmong}
use Rattle.pi_rewrite_laws.proofs.ElementLemmas.{unnamed-long}
use Rattle.pi_rewrite_sound.proofs.FineGoals.{Fine, AllFine, fine-one, fine-first, fine-append, fine-turn, fine-tick, fine-if, fine-call, fine-apply, MayReach, reaches-fine, past-tick, if-reached, turn-reached}
use Rattle.pi_rewrite_sound.proofs.GivenNames.{less-there, item-there, plus-there, minus-there}
use Rattle.pi_rewrite_sound.proofs.GoodHelpers.{Allows, Has, has-first, has-last, FineHelpers, Falls}
use Rattle.pi_rewrite_sound.proofs.GoodGoals.{GoodGoals}
use Rattle.pi_rewrite_sound.proofs.SlotRoom.{among-values, among-last, slots-below, slots-count, head-below, head-count}
use Rattle.pi_rewrite_sound.proofs.LoopGoals.{closing-room, closing-fine}
use Rattle.pi_rewrite_sound.proofs.LoopHelpers.{clause-fine, call-fine}

-- ---- terms and goals

two-below : (n : ℕ) (t u : Tree) → SpeaksBelow n t → SpeaksBelow n u → TreesBelow n (trees_of (t ∷ u ∷ []))
two-below n t u one two = front-below n t _ one (front-below n u no_trees two (none-below n))

less-fine : (known may : Knows) → Allows known may → (n : ℕ) (t u : Tree) → SpeaksBelow n t → SpeaksBelow n u → Fine n may (call (codes "<") (t ∷ u ∷ []))
less-fine known may allows n t u one two = fine-call n may (codes "<") (t ∷ u ∷ []) (two-below n t u one two) (allows.machine (codes "<") 2 less-there)

-- slots of a walk and of what is handed on
end-long : (k : ℕ) (l : Loop) → length (end_slots k l) ≡ k + (length l.shared + length l.kept)
end-long k l = values-long l.kept (replicate k unnamed ++ l.shared) ∙ omega (arith, length-append (replicate k unnamed) l.shared, unnamed-long k)

turn-long : (l : Loop) (p : SlotPattern) → length (turn_slots l p) ≡ length p.names + handed l
turn-long l p =
    values-long l.kept ((p.names ++ replicate walk_slots unnamed) ++ l.shared)
    ∙ omega (arith, length-append (p.names ++ replicate walk_slots unnamed) l.shared, length-append p.names (replicate walk_slots unnamed), unnamed-long walk_slots)

-- the end, where so many slots stand in front of what is handed on
ends-fine : (known may : Knows) → Allows known may → (l : Loop) → AreAmong l.shared l.kept → (k next n : ℕ) → k + (length l.shared + length l.kept) ≤ next → closing_slots l.kept next ≤ n →
    Fine n may (in_turn (closing l.ending l.kept (k + length l.shared) next (end_slots k l)))
ends-fine known may allows l among k next n wide room =
    fine-turn n may (closing l.ending l.kept (k + length l.shared) next (end_slots k l))
    (closing-fine known may allows n l.ending l.kept (k + length l.shared) next (end_slots k l) (among-values l.kept l.kept (replicate k unnamed ++ l.shared) (among-last l.kept (replicate k unnamed) l.shared among))
    (omega (arith, wide, room, closing-room l.kept next, end-long k l)) (omega (arith, wide, room, closing-room l.kept next)) room)

-- ---- heads

-- a pattern in front of slots
pattern-first : (e : ExpTree) → IsPattern e → (l : Loop) (n : ℕ) → length (slot_pattern e []).names + handed l ≤ n → (k : ℕ) → HaveSlot (pattern (slot_pattern e []).form (slots_head (length (slot_pattern e []).names) (handed l))) k → k < n
unfolding HaveSlot
pattern-first e is l n room k (inl first) = pattern-below n e is [] (omega (arith, room)) k first
pattern-first e is l n room k (inr later) = omega (arith, room, head-below (length (slot_pattern e []).names) (handed l) k later)

pattern-first-count : (p : PatternTree) (k j : ℕ) → pattern_count (pattern p (slots_head k j)) ≡ suc j
unfolding pattern_count
pattern-first-count p k j = ap suc (head-count k j)

cell-below : (j k : ℕ) → HaveSlot (pattern (compound cell_name (pattern (slot 0) (pattern (slot 1) no_patterns))) (slots_head 2 j)) k → k < 2 + j
unfolding HaveSlot
cell-below j k (inl (inl first)) = omega (arith, first)
cell-below j k (inl (inr (inl second))) = omega (arith, second)
cell-below j k (inl (inr (inr none))) = absurd none
cell-below j k (inr later) = head-below 2 j k later

nil-below : (j k : ℕ) → HaveSlot (pattern (exact_atom nil) (slots_head 0 j)) k → k < j
unfolding HaveSlot
nil-below j k (inl none) = absurd none
nil-below j k (inr later) = omega (arith, head-below 0 j k later)

-- ---- turns

module _ (known : Knows) (l : Loop) (among : AreAmong l.shared l.kept) (name : List ℕ) (e : ExpTree) (is : IsPattern e) (ps : List PredTree) (body : SlotNames → SlotGoals) (one : GoodGoals known ps body) where
  abbrev p : SlotPattern
  p = slot_pattern e []

  abbrev turn : SlotGoals
  turn = body (turn_slots l (slot_pattern e []))

  -- a turn's slots are those of the pattern and of what is handed on, and more
  room : length (slot_pattern e []).names + handed l ≤ length (body (turn_slots l (slot_pattern e []))).names
  room = omega (arith, one.longer (turn_slots l p), turn-long l p)

  -- what stands in a turn
  turn-fine : (may : Knows) → Allows known may → Has may ps → (n : ℕ) → length (body (turn_slots l (slot_pattern e []))).names ≤ n → AllFine n may (body (turn_slots l (slot_pattern e []))).goals
  turn-fine may allows has n wide = one.fine may allows has n (turn_slots l p) wide

  -- ---- of a list or an array

  cell-fine : (may : Knows) → IsTrue (may.predicate name (suc (handed l))) → Fine (suc (handed l)) may (tick_then (call name (slots_from 0 (suc (handed l))) ∷ []))
  cell-fine may turns =
      fine-turn (suc (handed l)) may (tick ∷ call name (slots_from 0 (suc (handed l))) ∷ [])
      (fine-first (suc (handed l)) may tick (call name (slots_from 0 (suc (handed l))) ∷ []) (fine-tick (suc (handed l)) may)
      (fine-one (suc (handed l)) may _ (call-fine may (suc (handed l)) name 0 (suc (handed l)) (omega arith) turns)))

  abbrev item : ℕ
  item = length (end_slots walk_slots l)

  abbrev array_end : ℕ
  array_end = closing_slots l.kept (length (end_slots walk_slots l) + 2)

  abbrev next_item : List GoalTree
  next_item =
      apply index_name (Tree.var 0 ∷ Tree.var 1 ∷ []) (length (end_slots walk_slots l)) ∷ apply (codes "+") (Tree.var 1 ∷ Tree.int (pos 1) ∷ []) (suc (length (end_slots walk_slots l)))
      ∷ call name (Tree.var (length (end_slots walk_slots l)) ∷ Tree.var 0 ∷ Tree.var (suc (length (end_slots walk_slots l))) ∷ slots_from 2 (handed l - 2)) ∷ []

  fits : item + 2 ≤ array_end
  fits = omega (arith, closing-room l.kept (item + 2))

  long : item ≡ 3 + (length l.shared + length l.kept)
  long = end-long walk_slots l

  array-less : (may : Knows) → Allows known may → Fine array_end may (call (codes "<") (Tree.var 1 ∷ Tree.var 2 ∷ []))
  array-less may allows = less-fine known may allows array_end (Tree.var 1) (Tree.var 2) (var-below array_end 1 (omega (arith, fits, long))) (var-below array_end 2 (omega (arith, fits, long)))

  array-ends : (may : Knows) → Allows known may → Fine array_end may (in_turn (closing l.ending l.kept (walk_slots + length l.shared) (item + 2) (end_slots walk_slots l)))
  array-ends may allows = ends-fine known may allows l among walk_slots (item + 2) array_end (omega (arith, long)) (omega arith)

  array-next : (may : Knows) → Allows known may → IsTrue (may.predicate name (suc (handed l))) → AllFine array_end may next_item
  array-next may allows turns =
      fine-first array_end may _ (apply (codes "+") (Tree.var 1 ∷ Tree.int (pos 1) ∷ []) (suc item) ∷ call name (Tree.var item ∷ Tree.var 0 ∷ Tree.var (suc item) ∷ slots_from 2 (handed l - 2)) ∷ [])
      (fine-apply array_end may index_name (Tree.var 0 ∷ Tree.var 1 ∷ []) item (two-below array_end _ _ (var-below array_end 0 (omega (arith, fits, long))) (var-below array_end 1 (omega (arith, fits, long)))) (omega (arith, fits)) (allows.tables index_name 2 item-there))
      (fine-first array_end may _ (call name (Tree.var item ∷ Tree.var 0 ∷ Tree.var (suc item) ∷ slots_from 2 (handed l - 2)) ∷ [])
      (fine-apply array_end may (codes "+") (Tree.var 1 ∷ Tree.int (pos 1) ∷ []) (suc item) (two-below array_end _ _ (var-below array_end 1 (omega (arith, fits, long))) (int-below array_end (pos 1))) (omega (arith, fits)) (allows.tables (codes "+") 2 plus-there))
      (fine-one array_end may _
      (fine-call array_end may name (Tree.var item ∷ Tree.var 0 ∷ Tree.var (suc item) ∷ slots_from 2 (handed l - 2))
      (front-below array_end _ _ (var-below array_end item (omega (arith, fits))) (front-below array_end _ _ (var-below array_end 0 (omega (arith, fits, long))) (front-below array_end _ _ (var-below array_end (suc item) (omega (arith, fits)))
      (slots-below 2 (handed l - 2) array_end (omega (arith, fits, long))))))
      (subst (λ (k : ℕ). IsTrue (may.predicate name k)) count turns))))
    where
      count : suc (3 + length l.shared + length l.kept) ≡ suc (suc (suc (length (slots_from 2 (3 + length l.shared + length l.kept - 2)))))
      count = omega (arith, slots-count 2 (3 + length l.shared + length l.kept - 2))

  nil-fine : (may : Knows) → Allows known may → Fine (closing_slots l.kept (length (end_slots 2 l))) may (in_turn (closing l.ending l.kept (2 + length l.shared) (length (end_slots 2 l)) (end_slots 2 l)))
  nil-fine may allows = ends-fine known may allows l among 2 (length (end_slots 2 l)) (closing_slots l.kept (length (end_slots 2 l))) (omega (arith, end-long 2 l)) (omega arith)

  -- a turn, and what stands behind it
  element-fine : (may : Knows) → Allows known may → Has may ps → IsTrue (may.predicate l.name (handed l)) →
      Fine (length (body (turn_slots l (slot_pattern e []))).names) may (in_turn ((body (turn_slots l (slot_pattern e []))).goals ++ call l.name (slots_from (length (slot_pattern e []).names) (handed l)) ∷ []))
  element-fine may allows has others =
      fine-turn (length turn.names) may (turn.goals ++ call l.name (slots_from (length p.names) (handed l)) ∷ [])
      (fine-append (length turn.names) may turn.goals (call l.name (slots_from (length p.names) (handed l)) ∷ []) (turn-fine may allows has (length turn.names) (omega arith))
      (fine-one (length turn.names) may _ (call-fine may (length turn.names) l.name (length p.names) (handed l) room others)))

  passed-fine : (may : Knows) → IsTrue (may.predicate l.name (handed l)) → Fine (suc (handed l)) may (call l.name (slots_from 1 (handed l)))
  passed-fine may others = call-fine may (suc (handed l)) l.name 1 (handed l) (omega arith) others

  pub elements-fine : (may : Knows) → Allows known may → Has may ps → Has may (element_helper name l ∷ turn_helper name l e body ∷ []) → FineHelpers may (element_helper name l ∷ turn_helper name l e body ∷ [])
  elements-fine may allows has own = (
    record {
      kind = refl;
      quiet = refl;
      index = refl;
      clauses = (
        clause-fine may (handed l) _ _ (suc (handed l)) (λ k there. omega (arith, cell-below (handed l - 1) k there)) (pattern-first-count _ 2 (handed l - 1) ∙ omega arith) (cell-fine may own.1.0),
        (
          clause-fine may (handed l) _ _ (closing_slots l.kept (length (end_slots 2 l))) (λ k there. omega (arith, nil-below (handed l - 1) k there, end-long 2 l, closing-room l.kept (length (end_slots 2 l)))) (pattern-first-count _ 0 (handed l - 1) ∙ omega arith)
              (nil-fine may allows),
          (
            clause-fine may (handed l) _ _ array_end (λ k there. omega (arith, head-below 0 (handed l) k there, fits, long)) (head-count 0 (handed l))
                (fine-if array_end may (call (codes "<") (Tree.var 1 ∷ Tree.var 2 ∷ [])) (tick_then next_item) (in_turn (closing l.ending l.kept (walk_slots + length l.shared) (item + 2) (end_slots walk_slots l))) (array-less may allows)
                (fine-turn array_end may (tick ∷ next_item) (fine-first array_end may tick next_item (fine-tick array_end may) (array-next may allows own.1.0))) (array-ends may allows)),
            tt,
          ),
        ),
      );
    },
    (
      record {
        kind = refl;
        quiet = refl;
        index = refl;
        clauses = (
          clause-fine may (suc (handed l)) _ _ (length turn.names) (pattern-first e is l (length turn.names) room) (pattern-first-count p.form (length p.names) (handed l)) (element-fine may allows has own.0),
          (clause-fine may (suc (handed l)) _ _ (suc (handed l)) (λ k there. omega (arith, head-below 0 (suc (handed l)) k there)) (head-count 0 (suc (handed l))) (passed-fine may own.0), tt),
        );
      },
      tt,
    ),
  )

  pub elements-fall : Falls known ps (element_helper name l ∷ turn_helper name l e body ∷ [])
  elements-fall = ((cells, (nils, (arrays, tt))), ((turns, (passes, tt)), tt))
    where
      cells : (may : Knows) → Allows known may → Has may ps → (d : Callee) → Reaches d (tick_then (call name (slots_from 0 (suc (handed l))) ∷ [])) → MayReach may d
      cells may allows has d at = absurd (past-tick d (call name (slots_from 0 (suc (handed l))) ∷ []) at)

      nils : (may : Knows) → Allows known may → Has may ps → (d : Callee) → Reaches d (in_turn (closing l.ending l.kept (2 + length l.shared) (length (end_slots 2 l)) (end_slots 2 l))) → MayReach may d
      nils may allows has d at = reaches-fine (closing_slots l.kept (length (end_slots 2 l))) may d _ (nil-fine may allows) at

      arrays : (may : Knows) → Allows known may → Has may ps → (d : Callee) →
          Reaches d (if_else (call (codes "<") (Tree.var 1 ∷ Tree.var 2 ∷ [])) (tick_then next_item) (in_turn (closing l.ending l.kept (walk_slots + length l.shared) (item + 2) (end_slots walk_slots l)))) → MayReach may d
      arrays may allows has d at =
          if-reached d (call (codes "<") (Tree.var 1 ∷ Tree.var 2 ∷ [])) (tick_then next_item) (in_turn (closing l.ending l.kept (walk_slots + length l.shared) (item + 2) (end_slots walk_slots l))) at
          (λ first. reaches-fine array_end may d (call (codes "<") (Tree.var 1 ∷ Tree.var 2 ∷ [])) (array-less may allows) first) (λ second. absurd (past-tick d next_item second))
          (λ third. reaches-fine array_end may d (in_turn (closing l.ending l.kept (walk_slots + length l.shared) (item + 2) (end_slots walk_slots l))) (array-ends may allows) third)

      turns : (may : Knows) → Allows known may → Has may (ps ++ element_helper name l ∷ []) → (d : Callee) →
          Reaches d (in_turn ((body (turn_slots l (slot_pattern e []))).goals ++ call l.name (slots_from (length (slot_pattern e []).names) (handed l)) ∷ [])) → MayReach may d
      turns may allows has d at = reaches-fine (length turn.names) may d _ (element-fine may allows (has-first may ps (element_helper name l ∷ []) has) (has-last may ps (element_helper name l ∷ []) has).0) at

      passes : (may : Knows) → Allows known may → Has may (ps ++ element_helper name l ∷ []) → (d : Callee) → Reaches d (call l.name (slots_from 1 (handed l))) → MayReach may d
      passes may allows has d at = reaches-fine (suc (handed l)) may d _ (passed-fine may (has-last may ps (element_helper name l ∷ []) has).0) at

  -- ---- of a range

  abbrev range_end : ℕ
  range_end = closing_slots l.kept (length (end_slots walk_slots l))

  range-fits : item ≤ range_end
  range-fits = omega (arith, closing-room l.kept item)

  range-less : (may : Knows) → Allows known may → Fine range_end may (call (codes "<") (Tree.int (pos 0) ∷ Tree.var 1 ∷ []))
  range-less may allows = less-fine known may allows range_end (Tree.int (pos 0)) (Tree.var 1) (int-below range_end (pos 0)) (var-below range_end 1 (omega (arith, range-fits, long)))

  range-ends : (may : Knows) → Allows known may → Fine range_end may (in_turn (closing l.ending l.kept (walk_slots + length l.shared) item (end_slots walk_slots l)))
  range-ends may allows = ends-fine known may allows l among walk_slots item range_end (omega (arith, long)) (omega arith)

  first-fine : (may : Knows) → IsTrue (may.predicate name (suc (handed l))) → Fine range_end may (call name (Tree.var 0 ∷ slots_from 0 (handed l)))
  first-fine may turns =
      fine-call range_end may name (Tree.var 0 ∷ slots_from 0 (handed l)) (front-below range_end _ _ (var-below range_end 0 (omega (arith, range-fits, long))) (slots-below 0 (handed l) range_end (omega (arith, range-fits, long))))
      (subst (λ (k : ℕ). IsTrue (may.predicate name k)) (ap suc (sym (slots-count 0 (handed l)))) turns)

  -- behind a turn
  abbrev later_turn : ℕ → ℕ → List GoalTree
  later_turn first free =
      apply (codes "+") (Tree.var first ∷ Tree.var (suc (suc first)) ∷ []) free ∷ apply (codes "-") (Tree.var (suc first) ∷ Tree.int (pos 1) ∷ []) (suc free) ∷ tick
      ∷ call name (Tree.var free ∷ Tree.var free ∷ Tree.var (suc free) ∷ slots_from (suc (suc first)) (handed l - 2)) ∷ []

  abbrev last_turn : ℕ → GoalTree
  last_turn first = call l.name (Tree.var first ∷ Tree.int (pos 0) ∷ slots_from (suc (suc first)) (handed l - 2))

  step-less : (may : Knows) → Allows known may → (n first : ℕ) → first + handed l ≤ n → Fine n may (call (codes "<") (Tree.int (pos 1) ∷ Tree.var (suc first) ∷ []))
  step-less may allows n first enough = less-fine known may allows n (Tree.int (pos 1)) (Tree.var (suc first)) (int-below n (pos 1)) (var-below n (suc first) (omega (arith, enough)))

  plus-fine : (may : Knows) → Allows known may → (n first free : ℕ) → first + handed l ≤ n → free + 2 ≤ n → Fine n may (apply (codes "+") (Tree.var first ∷ Tree.var (suc (suc first)) ∷ []) free)
  plus-fine may allows n first free enough more =
      fine-apply n may (codes "+") (Tree.var first ∷ Tree.var (suc (suc first)) ∷ []) free (two-below n _ _ (var-below n first (omega (arith, enough))) (var-below n (suc (suc first)) (omega (arith, enough)))) (omega (arith, more)) (allows.tables (codes "+") 2 plus-there)

  minus-fine : (may : Knows) → Allows known may → (n first free : ℕ) → first + handed l ≤ n → free + 2 ≤ n → Fine n may (apply (codes "-") (Tree.var (suc first) ∷ Tree.int (pos 1) ∷ []) (suc free))
  minus-fine may allows n first free enough more =
      fine-apply n may (codes "-") (Tree.var (suc first) ∷ Tree.int (pos 1) ∷ []) (suc free) (two-below n _ _ (var-below n (suc first) (omega (arith, enough))) (int-below n (pos 1))) (omega (arith, more)) (allows.tables (codes "-") 2 minus-there)

  last-fine : (may : Knows) → (n first : ℕ) → first + handed l ≤ n → IsTrue (may.predicate l.name (handed l)) → Fine n may (last_turn first)
  last-fine may n first enough others =
      fine-call n may l.name (Tree.var first ∷ Tree.int (pos 0) ∷ slots_from (suc (suc first)) (handed l - 2))
      (front-below n _ _ (var-below n first (omega (arith, enough))) (front-below n _ _ (int-below n (pos 0)) (slots-below (suc (suc first)) (handed l - 2) n (omega (arith, enough)))))
      (subst (λ (k : ℕ). IsTrue (may.predicate l.name k)) count others)
    where
      count : 3 + length l.shared + length l.kept ≡ suc (suc (length (slots_from (suc (suc first)) (3 + length l.shared + length l.kept - 2))))
      count = omega (arith, slots-count (suc (suc first)) (3 + length l.shared + length l.kept - 2))

  next-fine : (may : Knows) → Allows known may → (n first free : ℕ) → first + handed l ≤ n → free + 2 ≤ n → IsTrue (may.predicate l.name (handed l)) → IsTrue (may.predicate name (suc (handed l))) → Fine n may (next_turn name l first free)
  next-fine may allows n first free enough more others turns =
      fine-if n may (call (codes "<") (Tree.int (pos 1) ∷ Tree.var (suc first) ∷ [])) (in_turn (later_turn first free)) (last_turn first) (step-less may allows n first enough)
      (fine-turn n may (later_turn first free)
      (fine-first n may (apply (codes "+") (Tree.var first ∷ Tree.var (suc (suc first)) ∷ []) free)
      (apply (codes "-") (Tree.var (suc first) ∷ Tree.int (pos 1) ∷ []) (suc free) ∷ tick ∷ call name (Tree.var free ∷ Tree.var free ∷ Tree.var (suc free) ∷ slots_from (suc (suc first)) (handed l - 2)) ∷ []) (plus-fine may allows n first free enough more)
      (fine-first n may (apply (codes "-") (Tree.var (suc first) ∷ Tree.int (pos 1) ∷ []) (suc free)) (tick ∷ call name (Tree.var free ∷ Tree.var free ∷ Tree.var (suc free) ∷ slots_from (suc (suc first)) (handed l - 2)) ∷ []) (minus-fine may allows n first free enough more)
      (fine-first n may tick (call name (Tree.var free ∷ Tree.var free ∷ Tree.var (suc free) ∷ slots_from (suc (suc first)) (handed l - 2)) ∷ []) (fine-tick n may)
      (fine-one n may _
      (fine-call n may name (Tree.var free ∷ Tree.var free ∷ Tree.var (suc free) ∷ slots_from (suc (suc first)) (handed l - 2))
      (front-below n _ _ (var-below n free (omega (arith, more))) (front-below n _ _ (var-below n free (omega (arith, more))) (front-below n _ _ (var-below n (suc free) (omega (arith, more))) (slots-below (suc (suc first)) (handed l - 2) n (omega (arith, enough))))))
      (subst (λ (k : ℕ). IsTrue (may.predicate name k)) count turns)))))))
      (last-fine may n first enough others)
    where
      count : suc (3 + length l.shared + length l.kept) ≡ suc (suc (suc (length (slots_from (suc (suc first)) (3 + length l.shared + length l.kept - 2)))))
      count = omega (arith, slots-count (suc (suc first)) (3 + length l.shared + length l.kept - 2))

  -- of the next turn nothing is reached, since it stands behind a Tick
  next-reached : (may : Knows) → Allows known may → (n first free : ℕ) → first + handed l ≤ n → free + 2 ≤ n → IsTrue (may.predicate l.name (handed l)) → (d : Callee) → Reaches d (next_turn name l first free) → MayReach may d
  unfolding Reaches Passes
  next-reached may allows n first free enough more others d (inl test) = reaches-fine n may d (call (codes "<") (Tree.int (pos 1) ∷ Tree.var (suc first) ∷ [])) (step-less may allows n first enough) test
  next-reached may allows n first free enough more others d (inr (inl (passes, inl sum))) = reaches-fine n may d (apply (codes "+") (Tree.var first ∷ Tree.var (suc (suc first)) ∷ []) free) (plus-fine may allows n first free enough more) sum
  next-reached may allows n first free enough more others d (inr (inl (passes, inr (on, inl rest)))) = reaches-fine n may d (apply (codes "-") (Tree.var (suc first) ∷ Tree.int (pos 1) ∷ []) (suc free)) (minus-fine may allows n first free enough more) rest
  next-reached may allows n first free enough more others d (inr (inl (passes, inr (on, inr (off, inl none))))) = absurd none
  next-reached may allows n first free enough more others d (inr (inl (passes, inr (on, inr (off, inr (none, later)))))) = absurd none
  next-reached may allows n first free enough more others d (inr (inr end)) = reaches-fine n may d (last_turn first) (last-fine may n first enough others) end

  abbrev step_end : ℕ
  step_end = length (body (turn_slots l (slot_pattern e []))).names + 2

  step-fine : (may : Knows) → Allows known may → Has may ps → IsTrue (may.predicate l.name (handed l)) → IsTrue (may.predicate name (suc (handed l))) →
      Fine step_end may (in_turn (turn.goals ++ next_turn name l (length p.names) (length turn.names) ∷ []))
  step-fine may allows has others turns =
      fine-turn step_end may (turn.goals ++ next_turn name l (length p.names) (length turn.names) ∷ [])
      (fine-append step_end may turn.goals (next_turn name l (length p.names) (length turn.names) ∷ []) (turn-fine may allows has step_end (omega arith))
      (fine-one step_end may _ (next-fine may allows step_end (length p.names) (length turn.names) (omega (arith, room)) (omega arith) others turns)))

  pub steps-fine : (may : Knows) → Allows known may → Has may ps → Has may (range_helper name l ∷ step_helper name l e body ∷ []) → FineHelpers may (range_helper name l ∷ step_helper name l e body ∷ [])
  steps-fine may allows has own = (
    record {
      kind = refl;
      quiet = refl;
      index = refl;
      clauses = (
        clause-fine may (handed l) _ _ range_end (λ k there. omega (arith, head-below 0 (handed l) k there, range-fits, long)) (head-count 0 (handed l))
            (fine-if range_end may (call (codes "<") (Tree.int (pos 0) ∷ Tree.var 1 ∷ [])) (tick_then (call name (Tree.var 0 ∷ slots_from 0 (handed l)) ∷ [])) (in_turn (closing l.ending l.kept (walk_slots + length l.shared) item (end_slots walk_slots l)))
            (range-less may allows)
            (fine-turn range_end may (tick ∷ call name (Tree.var 0 ∷ slots_from 0 (handed l)) ∷ []) (fine-first range_end may tick (call name (Tree.var 0 ∷ slots_from 0 (handed l)) ∷ []) (fine-tick range_end may) (fine-one range_end may _ (first-fine may own.1.0))))
            (range-ends may allows)),
        tt,
      );
    },
    (
      record {
        kind = refl;
        quiet = refl;
        index = refl;
        clauses = (
          clause-fine may (suc (handed l)) _ _ step_end (pattern-first e is l step_end (omega (arith, room))) (pattern-first-count p.form (length p.names) (handed l)) (step-fine may allows has own.0 own.1.0),
          (
            clause-fine may (suc (handed l)) _ _ (suc (handed l) + 2) (λ k there. omega (arith, head-below 0 (suc (handed l)) k there)) (head-count 0 (suc (handed l)))
                (next-fine may allows (suc (handed l) + 2) 1 (suc (handed l)) (omega arith) (omega arith) own.0 own.1.0),
            tt,
          ),
        );
      },
      tt,
    ),
  )

  pub steps-fall : Falls known ps (range_helper name l ∷ step_helper name l e body ∷ [])
  steps-fall = ((starts, tt), ((turns, (passes, tt)), tt))
    where
      starts : (may : Knows) → Allows known may → Has may ps → (d : Callee) →
          Reaches d (if_else (call (codes "<") (Tree.int (pos 0) ∷ Tree.var 1 ∷ [])) (tick_then (call name (Tree.var 0 ∷ slots_from 0 (handed l)) ∷ [])) (in_turn (closing l.ending l.kept (walk_slots + length l.shared) item (end_slots walk_slots l)))) → MayReach may d
      starts may allows has d at =
          if-reached d (call (codes "<") (Tree.int (pos 0) ∷ Tree.var 1 ∷ [])) (tick_then (call name (Tree.var 0 ∷ slots_from 0 (handed l)) ∷ [])) (in_turn (closing l.ending l.kept (walk_slots + length l.shared) item (end_slots walk_slots l))) at
          (λ first. reaches-fine range_end may d (call (codes "<") (Tree.int (pos 0) ∷ Tree.var 1 ∷ [])) (range-less may allows) first) (λ second. absurd (past-tick d (call name (Tree.var 0 ∷ slots_from 0 (handed l)) ∷ []) second))
          (λ third. reaches-fine range_end may d (in_turn (closing l.ending l.kept (walk_slots + length l.shared) item (end_slots walk_slots l))) (range-ends may allows) third)

      others : (may : Knows) → Has may (ps ++ range_helper name l ∷ []) → IsTrue (may.predicate l.name (handed l))
      others may has = (has-last may ps (range_helper name l ∷ []) has).0

      turns : (may : Knows) → Allows known may → Has may (ps ++ range_helper name l ∷ []) → (d : Callee) → Reaches d (in_turn (turn.goals ++ next_turn name l (length p.names) (length turn.names) ∷ [])) → MayReach may d
      turns may allows has d at =
          turn-reached d turn.goals (next_turn name l (length p.names) (length turn.names)) at
          (λ first. reaches-fine step_end may d (in_turn turn.goals) (fine-turn step_end may turn.goals (turn-fine may allows (has-first may ps (range_helper name l ∷ []) has) step_end (omega arith))) first)
          (λ last. next-reached may allows step_end (length p.names) (length turn.names) (omega (arith, room)) (omega arith) (others may has) d last)

      passes : (may : Knows) → Allows known may → Has may (ps ++ range_helper name l ∷ []) → (d : Callee) → Reaches d (next_turn name l 1 (suc (handed l))) → MayReach may d
      passes may allows has d at = next-reached may allows (suc (handed l) + 2) 1 (suc (handed l)) (omega arith) (omega arith) (others may has) d at
