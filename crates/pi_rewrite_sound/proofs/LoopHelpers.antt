-- Helpers of `while` and `do`, and of a loop that begins with a test, of what stands in them.
use Rattle.std.proofs.Common.{◌≡◌, ℕ, ◌+◌, ◌≤◌, ◌<◌, List, [], ◌∷◌, ◌++◌, length, refl, sym, subst, arith, append_assoc}
use Rattle.std.specs.Prelude.{IsTrue}
use Rattle.pi_terms.specs.PatternTree.{PatternTrees, HaveSlot}
use Rattle.pi_core.specs.GoalTree.{GoalTree, tick, if_else, call}
use Rattle.pi_core.specs.CoreTree.{PredTree}
use Rattle.pi_meaning.specs.CoreMeaning.Quiet.{Callee, Reaches}
use Rattle.pi_meaning.specs.CoreMeaning.Sound.{pattern_count}
use Rattle.pi_rewrite_spec.specs.Forms.{Knows}
use Rattle.pi_rewrite_spec.specs.Slots.{SlotNames}
use Rattle.pi_rewrite_spec.specs.Goals.{SlotGoals, in_turn}
use Rattle.pi_rewrite_spec.specs.Loops.{slots_from, slots_head, closing, closing_slots, clause_of, Loop, loop_slots, again, while_helper, do_helper, only_turn_helper}
use Rattle.pi_rewrite_spec.proofs.EnteredLemmas.{values-long}
use Rattle.pi_rewrite_laws.proofs.HelperLemmas.{AreAmong}
use Rattle.pi_rewrite_sound.proofs.FineGoals.{Fine, fine-one, fine-first, fine-append, fine-turn, fine-tick, fine-if, fine-call, MayReach, reaches-fine, past-tick, if-reached}
use Rattle.pi_rewrite_sound.proofs.GoodHelpers.{Allows, Has, has-first, has-last, FineClause, FineHelpers, GoodHelpers, both-helpers, more-helpers}
use Rattle.pi_rewrite_sound.proofs.GoodGoals.{GoodGoals}
use Rattle.pi_rewrite_sound.proofs.SlotRoom.{among-values, slots-below, slots-count, head-below, head-count}
use Rattle.pi_rewrite_sound.proofs.LoopGoals.{Enters, closing-room, closing-fine}

-- a clause of a helper
pub clause-fine : (may : Knows) (arity : ℕ) (head : PatternTrees) (body : GoalTree) (slots : ℕ) → ((k : ℕ) → HaveSlot head k → k < slots) → pattern_count head ≡ arity → Fine slots may body → FineClause may arity (clause_of head body slots)
clause-fine may arity head body slots below fits is = record { head = below; fits = fits; body = is; guard = refl; back = refl; watches = refl; value = refl }

-- so many slots as arguments
pub call-fine : (may : Knows) (n : ℕ) (name : List ℕ) (k j : ℕ) → k + j ≤ n → IsTrue (may.predicate name j) → Fine n may (call name (slots_from k j))
call-fine may n name k j room is = fine-call n may name (slots_from k j) (slots-below k j n room) (subst (λ (i : ℕ). IsTrue (may.predicate name i)) (sym (slots-count k j)) is)

-- where a loop ends
pub end-fine : (known may : Knows) → Allows known may → (l : Loop) → AreAmong l.shared l.kept → (next : ℕ) → length (loop_slots l) ≤ next → (n : ℕ) → closing_slots l.kept next ≤ n → Fine n may (in_turn (closing l.ending l.kept (length l.shared) next (loop_slots l)))
end-fine known may allows l among next wide n room =
    fine-turn n may (closing l.ending l.kept (length l.shared) next (loop_slots l))
    (closing-fine known may allows n l.ending l.kept (length l.shared) next (loop_slots l) (among-values l.kept l.kept l.shared among) (omega (arith, wide, room, closing-room l.kept next))
    (omega (arith, wide, room, closing-room l.kept next, values-long l.kept l.shared)) room)

-- its helper may be called with what its head has
pub enters-again : (may : Knows) (l : Loop) → IsTrue (may.predicate l.name (length (loop_slots l))) → Enters may l 0
enters-again may l is = subst (λ (k : ℕ). IsTrue (may.predicate l.name k)) (omega (arith, values-long l.kept l.shared)) is

-- ---- `while`

module _ (known : Knows) (l : Loop) (among : AreAmong l.shared l.kept) (ps qs : List PredTree) (test body : SlotNames → SlotGoals) (one : GoodGoals known ps test) (two : GoodGoals known qs body) where
  abbrev ns : SlotNames
  ns = loop_slots l

  abbrev ms : SlotNames
  ms = (test (loop_slots l)).names

  abbrev ks : SlotNames
  ks = (body (test (loop_slots l)).names).names

  abbrev slots : ℕ
  slots = closing_slots l.kept (length (body (test (loop_slots l)).names).names)

  wide : length (body (test (loop_slots l)).names).names ≤ closing_slots l.kept (length (body (test (loop_slots l)).names).names)
  wide = omega (arith, closing-room l.kept (length (body (test (loop_slots l)).names).names))

  longer : length (loop_slots l) ≤ length (body (test (loop_slots l)).names).names
  longer = omega (arith, one.longer (loop_slots l), two.longer (test (loop_slots l)).names)

  end : (may : Knows) → Allows known may →
      Fine (closing_slots l.kept (length (body (test (loop_slots l)).names).names)) may (in_turn (closing l.ending l.kept (length l.shared) (length (body (test (loop_slots l)).names).names) (loop_slots l)))
  end may allows = end-fine known may allows l among (length ks) longer slots (omega arith)

  first : (may : Knows) → Allows known may → Has may ps → Fine (closing_slots l.kept (length (body (test (loop_slots l)).names).names)) may (in_turn (test (loop_slots l)).goals)
  first may allows has = fine-turn slots may (test ns).goals (one.fine may allows has slots ns (omega (arith, wide, two.longer ms)))

  again-fine : (may : Knows) → IsTrue (may.predicate l.name (length (loop_slots l))) → Fine (closing_slots l.kept (length (body (test (loop_slots l)).names).names)) may (again l)
  again-fine may is = call-fine may slots l.name 0 (length ns) (omega (arith, wide, longer)) is

  while-fine : (may : Knows) → Allows known may → Has may (ps ++ qs) → Has may (while_helper l test body ∷ []) → FineHelpers may (while_helper l test body ∷ [])
  while-fine may allows has own = (
    record {
      kind = refl;
      quiet = refl;
      index = refl;
      clauses = (
        clause-fine may (length ns) (slots_head 0 (length ns)) _ slots (λ k there. omega (arith, head-below 0 (length ns) k there, longer, wide)) (head-count 0 (length ns))
            (fine-if slots may (in_turn (test ns).goals) (in_turn (tick ∷ (body ms).goals ++ again l ∷ [])) (in_turn (closing l.ending l.kept (length l.shared) (length ks) ns)) (first may allows (has-first may ps qs has))
            (fine-turn slots may (tick ∷ (body ms).goals ++ again l ∷ [])
            (fine-first slots may tick ((body ms).goals ++ again l ∷ []) (fine-tick slots may)
            (fine-append slots may (body ms).goals (again l ∷ []) (two.fine may allows (has-last may ps qs has) slots ms wide) (fine-one slots may (again l) (again-fine may own.0))))) (end may allows)),
        tt,
      );
    },
    tt,
  )

  pub good-while : GoodHelpers known (ps ++ (qs ++ while_helper l test body ∷ []))
  good-while = subst (GoodHelpers known) (append_assoc ps qs (while_helper l test body ∷ [])) (more-helpers known (ps ++ qs) (while_helper l test body ∷ []) (both-helpers known ps qs one.helpers two.helpers) while-fine ((reached, tt), tt))
    where
      reached : (may : Knows) → Allows known may → Has may (ps ++ qs) → (d : Callee) →
          Reaches d (if_else (in_turn (test (loop_slots l)).goals) (in_turn (tick ∷ (body (test (loop_slots l)).names).goals ++ again l ∷ [])) (in_turn (closing l.ending l.kept (length l.shared) (length (body (test (loop_slots l)).names).names) (loop_slots l)))) → MayReach may d
      reached may allows has d at =
          if-reached d (in_turn (test ns).goals) (in_turn (tick ∷ (body ms).goals ++ again l ∷ [])) (in_turn (closing l.ending l.kept (length l.shared) (length ks) ns)) at
          (λ in_test. reaches-fine slots may d (in_turn (test ns).goals) (first may allows (has-first may ps qs has)) in_test)
          (λ in_turns. absurd (past-tick d ((body ms).goals ++ again l ∷ []) in_turns))
          (λ in_end. reaches-fine slots may d (in_turn (closing l.ending l.kept (length l.shared) (length ks) ns)) (end may allows) in_end)

-- ---- `do`

module _ (known : Knows) (l : Loop) (among : AreAmong l.shared l.kept) (ps qs : List PredTree) (body test : SlotNames → SlotGoals) (one : GoodGoals known ps body) (two : GoodGoals known qs test) where
  abbrev do_slots : ℕ
  do_slots = closing_slots l.kept (length (test (body (loop_slots l)).names).names)

  do_wide : length (test (body (loop_slots l)).names).names ≤ closing_slots l.kept (length (test (body (loop_slots l)).names).names)
  do_wide = omega (arith, closing-room l.kept (length (test (body (loop_slots l)).names).names))

  do_longer : length (loop_slots l) ≤ length (test (body (loop_slots l)).names).names
  do_longer = omega (arith, one.longer (loop_slots l), two.longer (body (loop_slots l)).names)

  -- what stands behind the body
  abbrev last : GoalTree
  last = if_else (in_turn (test (body (loop_slots l)).names).goals) (again l) (in_turn (closing l.ending l.kept (length l.shared) (length (test (body (loop_slots l)).names).names) (loop_slots l)))

  do-fine : (may : Knows) → Allows known may → Has may (ps ++ qs) → Has may (do_helper l body test ∷ []) → FineHelpers may (do_helper l body test ∷ [])
  do-fine may allows has own = (
    record {
      kind = refl;
      quiet = refl;
      index = refl;
      clauses = (
        clause-fine may (length ns) (slots_head 0 (length ns)) _ do_slots (λ k there. omega (arith, head-below 0 (length ns) k there, do_longer, do_wide)) (head-count 0 (length ns))
            (fine-turn do_slots may (tick ∷ (body ns).goals ++ last ∷ [])
            (fine-first do_slots may tick ((body ns).goals ++ last ∷ []) (fine-tick do_slots may)
            (fine-append do_slots may (body ns).goals (last ∷ []) (one.fine may allows (has-first may ps qs has) do_slots ns (omega (arith, do_wide, two.longer ms)))
            (fine-one do_slots may last
            (fine-if do_slots may (in_turn (test ms).goals) (again l) (in_turn (closing l.ending l.kept (length l.shared) (length ks) ns)) (fine-turn do_slots may (test ms).goals (two.fine may allows (has-last may ps qs has) do_slots ms do_wide))
            (call-fine may do_slots l.name 0 (length ns) (omega (arith, do_wide, do_longer)) own.0) (end-fine known may allows l among (length ks) do_longer do_slots (omega arith))))))),
        tt,
      );
    },
    tt,
  )
    where
      ns : SlotNames
      ns = loop_slots l

      ms : SlotNames
      ms = (body (loop_slots l)).names

      ks : SlotNames
      ks = (test (body (loop_slots l)).names).names

  pub good-do : GoodHelpers known (ps ++ (qs ++ do_helper l body test ∷ []))
  good-do = subst (GoodHelpers known) (append_assoc ps qs (do_helper l body test ∷ []))
      (more-helpers known (ps ++ qs) (do_helper l body test ∷ []) (both-helpers known ps qs one.helpers two.helpers) do-fine (((λ may allows has d at. absurd (past-tick d ((body (loop_slots l)).goals ++ last ∷ []) at)), tt), tt))

-- ---- one turn

module _ (known : Knows) (l : Loop) (among : AreAmong l.shared l.kept) (ps : List PredTree) (body : SlotNames → SlotGoals) (one : GoodGoals known ps body) where
  abbrev only_slots : ℕ
  only_slots = closing_slots l.kept (length (body (loop_slots l)).names)

  turn : (may : Knows) → Allows known may → Has may ps →
      Fine (closing_slots l.kept (length (body (loop_slots l)).names)) may (in_turn ((body (loop_slots l)).goals ++ closing l.ending l.kept (length l.shared) (length (body (loop_slots l)).names) (loop_slots l)))
  turn may allows has =
      fine-turn only_slots may ((body ns).goals ++ closing l.ending l.kept (length l.shared) next ns)
      (fine-append only_slots may (body ns).goals (closing l.ending l.kept (length l.shared) next ns) (one.fine may allows has only_slots ns (omega (arith, closing-room l.kept next)))
      (closing-fine known may allows only_slots l.ending l.kept (length l.shared) next ns (among-values l.kept l.kept l.shared among) (omega (arith, one.longer ns, closing-room l.kept next))
      (omega (arith, one.longer ns, closing-room l.kept next, values-long l.kept l.shared)) (omega arith)))
    where
      ns : SlotNames
      ns = loop_slots l

      next : ℕ
      next = length (body (loop_slots l)).names

  pub good-only : GoodHelpers known (ps ++ only_turn_helper l body ∷ [])
  good-only = more-helpers known ps (only_turn_helper l body ∷ []) one.helpers
      (λ may allows has own. (
        record {
          kind = refl;
          quiet = refl;
          index = refl;
          clauses = (
            clause-fine may (length (loop_slots l)) (slots_head 0 (length (loop_slots l))) _ only_slots (λ k there. omega (arith, head-below 0 (length (loop_slots l)) k there, one.longer (loop_slots l), closing-room l.kept (length (body (loop_slots l)).names)))
                (head-count 0 (length (loop_slots l))) (turn may allows has),
            tt,
          );
        },
        tt,
      )) (((λ may allows has d at. reaches-fine only_slots may d _ (turn may allows has) at), tt), tt)
