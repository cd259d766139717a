-- `X := E` does over slots what it does over names.
use Rattle.std.proofs.Common.{ℕ, ◌≤◌, List, [], ◌∷◌, length, refl, sym, ◌∙◌, arith, subst}
use Rattle.std.specs.Prelude.{Option, Some, None, slice_set}
use Rattle.pi_terms.specs.Tree.{Tree, no_trees, tree, trees_of, tree_count}
use Rattle.pi_terms.specs.Places.{Places}
use Rattle.pi_constraints.specs.Evaluation.{EvaluatedAll}
use Rattle.pi_effects.specs.Inner.{itself_name}
use Rattle.pi_core.specs.GoalTree.{GoalTree}
use Rattle.pi_traces.specs.Trace.{Trace, done, one, then}
use Rattle.pi_meaning.specs.Shared.Level.{Level, Applied, Point}
use Rattle.pi_meaning.specs.CoreMeaning.Builtins.{Builtins, function_by}
use Rattle.pi_meaning.specs.Shared.Given.{Setting}
use Rattle.pi_meaning.specs.CoreMeaning.Meaning.{applying, failing, meaning}
use Rattle.pi_meaning.specs.OverNames.Environment.{Valued}
use Rattle.pi_meaning.specs.OverNames.Place.{Place}
use Rattle.pi_meaning.specs.OverNames.Assigning.{with_value}
use Rattle.pi_meaning.specs.OverNames.Control.{Value, assigning, with_assigned}
use Rattle.pi_rewrite_spec.specs.Slots.{SlotNames, slot_for, slots_for}
use Rattle.pi_rewrite_spec.specs.Values.{SlotValue}
use Rattle.pi_rewrite_spec.specs.Goals.{put, assigned}
use Rattle.pi_rewrite_spec.specs.Forms.{Knows}
use Rattle.pi_rewrite_spec.proofs.SameLemmas.{SameBy, same_end, same-one, same-then}
use Rattle.pi_rewrite_spec.proofs.AgreeLemmas.{Room, grows-then, grows-length, grows-for, agrees-assigned}
use Rattle.pi_rewrite_spec.proofs.TermLemmas.{ComesAll}
use Rattle.pi_rewrite_spec.proofs.RunLemmas.{Alike, point, place, AtPlace, at_place, AtValue, at_value, runs, SameGoals, SameLast, then-of-one, runs-append}
use Rattle.pi_rewrite_spec.proofs.ControlLemmas.{just-same}
use Rattle.pi_rewrite_spec.proofs.InnerLemmas.{itself-called, itself-known}
use Rattle.pi_rewrite_laws.proofs.FoundLemmas.{item-comes}

-- the slot of a name has the value
put-answer : (known : Knows) (set : Setting) (b : Builtins) (l m : Level) (n : Room) (h : ℕ) (ms : SlotNames) (t : Tree) (start : Places) (name : List ℕ) → Alike known set b l m → length (slots_for name ms) ≤ n.slots →
    (q : Point) (x : Valued) → AtValue l n h ms t start q x → SameBy (AtPlace l n h (slots_for name ms)) (runs b (GoalTree.apply itself_name (t ∷ []) (slot_for name ms) ∷ []) q) (with_assigned (Some name) x)
unfolding meaning applying tree_count
put-answer known set b l m n h ms t start name alike room _ _ (at_value slots s x c extends) =
    just-same R b l alike.core_drains (GoalTree.apply itself_name (t ∷ []) k) (applying b itself_name (t ∷ []) k) refl slots s _
    (subst (λ (y : EvaluatedAll). SameBy R (then (function_by b l itself_name y.trees y.state) (λ a. one (point l (slice_set y.slots k (Some a.value)) a.state))) (with_assigned (Some name) x)) (sym comes.comes)
    (subst (λ (w : Trace Applied). SameBy R (then w into) (with_assigned (Some name) x)) (sym (alike.functions itself_name (tree x.tree no_trees) x.state (itself-known (known.function itself_name 1)) ∙ itself-called set m x.tree x.state))
    (subst (λ (w : Trace Point). SameBy R w (with_assigned (Some name) x)) (sym (then-of-one (record { value = x.tree; state = x.state }) into))
    (same-one R _ _ (at_place (with_value x.names name x.tree) (slice_set comes.after k (Some x.tree)) x.state (agrees-assigned n h ms x.names comes.after name x.tree comes.agrees room))))))
  where
    R : Point → Place → Type 0
    R = AtPlace l n h (slots_for name ms)

    k : ℕ
    k = slot_for name ms

    comes : ComesAll n h ms (trees_of (t ∷ [])) slots s (record { trees = tree x.tree no_trees; names = x.names; state = x.state })
    comes = item-comes n h ms t slots s x c

    into : Applied → Trace Point
    into a = one (point l (slice_set comes.after k (Some a.value)) a.state)

pub put-goals : (known : Knows) (set : Setting) (b : Builtins) (l m : Level) (h : ℕ) (name : List ℕ) (v : Value) (lv : SlotNames → SlotValue) → Alike known set b l m → SameLast b l m h v lv → SameGoals b l m h (assigning (Some name) v) (λ ns. put name (lv ns))
put-goals known set b l m h name v lv alike is = record {
  grows = λ ns. grows-then ns _ _ (is.grows ns) (grows-for name (lv ns).names);
  same = λ n ns e slots s a room.
      let ms : SlotNames = (lv ns).names in
      let goals : List GoalTree = GoalTree.apply itself_name ((lv ns).tree ∷ []) (slot_for name ms) ∷ [] in
      subst (λ (t : Trace Point). SameBy (AtPlace l n h (slots_for name ms)) t (assigning (Some name) v m (place e s))) (sym (runs-append b (lv ns).goals goals (point l slots s)))
      (same-then (AtValue l n h ms (lv ns).tree slots) (AtPlace l n h (slots_for name ms)) _ _ (runs b goals) (with_assigned (Some name)) (is.same n ns e slots s a (omega (arith, room, grows-length ms _ (grows-for name ms))))
      (put-answer known set b l m n h ms (lv ns).tree slots name alike room));
}

pub assigned-goals : (known : Knows) (set : Setting) (b : Builtins) (l m : Level) (h : ℕ) (variable : Option (List ℕ)) (v : Value) (lv : SlotNames → SlotValue) → Alike known set b l m → SameLast b l m h v lv →
    SameGoals b l m h (assigning variable v) (λ ns. assigned variable (lv ns))
unfolding meaning
assigned-goals known set b l m h None v lv alike is = record {
  grows = is.grows;
  same = λ n ns e slots s a room.
      subst (λ (t : Trace Point). SameBy (AtPlace l n h (lv ns).names) t (assigning None v m (place e s))) (sym (runs-append b (lv ns).goals (GoalTree.fail ∷ []) (point l slots s)))
      (same-then (AtValue l n h (lv ns).names (lv ns).tree slots) (AtPlace l n h (lv ns).names) _ _ (runs b (GoalTree.fail ∷ [])) (with_assigned None) (is.same n ns e slots s a room)
      (λ q x at. fails n (lv ns).names (lv ns).tree slots q x at));
}
  where
    fails : (n : Room) (ms : SlotNames) (t : Tree) (start : Places) (q : Point) (x : Valued) → AtValue l n h ms t start q x → SameBy (AtPlace l n h ms) (runs b (GoalTree.fail ∷ []) q) done
    fails n ms t start _ _ (at_value slots s x c extends) = just-same (AtPlace l n h ms) b l alike.core_drains GoalTree.fail failing refl slots s _ (same_end _)
assigned-goals known set b l m h (Some name) v lv alike is = put-goals known set b l m h name v lv alike is
