-- One item more: the turn of a comprehension does over slots what it does over names.
use Rattle.std.proofs.Common.{◌≡◌, ℕ, ◌≤◌, length, sym, ◌∙◌, ap, subst, arith}
use Rattle.pi_terms.specs.Tree.{Tree, comp, no_trees, tree}
use Rattle.pi_terms.specs.ListNames.{cell_name}
use Rattle.pi_terms.specs.ListCopies.{list_cell}
use Rattle.pi_terms.specs.Places.{Places}
use Rattle.pi_constraints.specs.State.{State}
use Rattle.pi_constraints.specs.Evaluation.{Evaluated, EvaluatedAll, evaluated, evaluated_all}
use Rattle.pi_traces.specs.Trace.{Trace, one, then}
use Rattle.pi_traces.proofs.TraceLemmas.{then-one, then-assoc}
use Rattle.pi_meaning.specs.Shared.Level.{Level, Point}
use Rattle.pi_meaning.specs.CoreMeaning.Builtins.{Builtins}
use Rattle.pi_meaning.specs.Shared.Given.{Setting}
use Rattle.pi_meaning.specs.OverNames.Environment.{known, Valued, ValuedAll, name_valued}
use Rattle.pi_meaning.specs.OverNames.Place.{Place}
use Rattle.pi_meaning.specs.OverNames.Assigning.{place_of}
use Rattle.pi_meaning.specs.OverNames.Terms.{items_onto}
use Rattle.pi_meaning.specs.OverNames.Control.{Value, behind_all, nothing, in_front, made_onto}
use Rattle.pi_meaning.specs.OverNames.Loops.{hidden, so_far, adding}
use Rattle.pi_rewrite_spec.specs.Slots.{SlotNames, slot_for, slots_for}
use Rattle.pi_rewrite_spec.specs.Values.{SlotValue}
use Rattle.pi_rewrite_spec.specs.Forms.{Knows}
use Rattle.pi_rewrite_spec.specs.Comprehensions as slots
use Rattle.pi_rewrite_spec.proofs.SameLemmas.{SameBy, same-one, same-then}
use Rattle.pi_rewrite_spec.proofs.FilledLemmas.{is_comp, one_filled, none_filled, filled-more, extends-then, in_front_of, term_at}
use Rattle.pi_rewrite_spec.proofs.AgreeLemmas.{Room, grows-then, grows-length, grows-for}
use Rattle.pi_rewrite_spec.proofs.TermLemmas.{Comes, name-comes}
use Rattle.pi_rewrite_spec.proofs.RunLemmas.{Alike, point, place, AtValue, at_value, runs, SameGoals, SameLast, then-of-one}
use Rattle.pi_rewrite_laws.proofs.AssignLemmas.{put-goals}

-- ---- an item in front of those so far

-- a value, and then what the items so far are
abbrev in_front_of_all : Valued → Valued
in_front_of_all x =
    let y : Valued = name_valued (known hidden x.names) hidden x.names x.state in
    record { tree = list_cell x.tree y.tree; names = y.names; state = y.state }

cell-comes : (n : Room) (h : ℕ) (ms : SlotNames) (t : Tree) (slots : Places) (s : State) (x : Valued) → Comes n h ms t slots s x → length (slots_for hidden ms) ≤ n.slots →
    Comes n h (slots_for hidden ms) (list_cell t (Tree.var (slot_for hidden ms))) slots s (in_front_of_all x)
unfolding evaluated
cell-comes n h ms t slots s x c room = record {
  after = d.after;
  comes =
      ap (λ (v : Evaluated). whole (in_front_of v (evaluated_all (tree (Tree.var k) no_trees) v.slots v.state))) c.comes
      ∙ ap (λ (v : Evaluated). whole (in_front_of (term_at x.tree c.after x.state) (in_front_of v (evaluated_all no_trees v.slots v.state)))) d.comes;
  agrees = d.agrees;
  extends = extends-then slots c.after d.after c.extends d.extends;
  filled = is_comp cell_name (one_filled (filled-more c.after d.after d.extends t x.tree c.filled) (one_filled d.filled none_filled));
}
  where
    k : ℕ
    k = slot_for hidden ms

    d : Comes n h (slots_for hidden ms) (Tree.var (slot_for hidden ms)) c.after x.state (name_valued (known hidden x.names) hidden x.names x.state)
    d = name-comes n h ms x.names c.after x.state c.agrees hidden room

    whole : EvaluatedAll → Evaluated
    whole all = record { tree = comp cell_name all.trees; slots = all.slots; state = all.state }

gathered : (item : Value) (m : Level) (p : Place) → made_onto items_onto (in_front item nothing) so_far m p ≡ then (item m p) (λ x. one (in_front_of_all x))
unfolding items_onto
gathered item m p = then-assoc (item m p) first last ∙ ap (then (item m p)) (λ i x. each x i)
  where
    first : Valued → Trace ValuedAll
    first x = then (nothing m (place_of x)) (λ all. one (record { trees = tree x.tree all.trees; names = all.names; state = all.state }))

    last : ValuedAll → Trace Valued
    last all = then (so_far m (behind_all all)) (λ x. one (record { tree = items_onto all.trees x.tree; names = x.names; state = x.state }))

    each : (x : Valued) → then (first x) last ≡ one (in_front_of_all x)
    each x =
        let none : ValuedAll = record { trees = no_trees; names = x.names; state = x.state } in
        let alone : ValuedAll = record { trees = tree x.tree no_trees; names = x.names; state = x.state } in
        ap (λ (t : Trace ValuedAll). then t last) (then-of-one none (λ (all : ValuedAll). one {A = ValuedAll} (record { trees = tree x.tree all.trees; names = all.names; state = all.state })))
        ∙ then-of-one alone last
        ∙ then-of-one (name_valued (known hidden x.names) hidden x.names x.state) (λ (y : Valued). one {A = Valued} (record { tree = items_onto alone.trees y.tree; names = y.names; state = y.state }))

gathered-last : (b : Builtins) (l m : Level) (h : ℕ) (item : Value) (lv : SlotNames → SlotValue) → SameLast b l m h item lv →
    SameLast b l m h (made_onto items_onto (in_front item nothing) so_far) (λ ns. record { goals = (lv ns).goals; tree = list_cell (lv ns).tree (Tree.var (slot_for hidden (lv ns).names)); names = slots_for hidden (lv ns).names })
gathered-last b l m h item lv is = record {
  grows = λ ns. grows-then ns _ _ (is.grows ns) (grows-for hidden (lv ns).names);
  same = λ n ns e slots s a room.
      let ms : SlotNames = (lv ns).names in
      let S : Point → Valued → Type 0 = AtValue l n h (slots_for hidden ms) (list_cell (lv ns).tree (Tree.var (slot_for hidden ms))) slots in
      subst (λ (t : Trace Point). SameBy S t (made_onto items_onto (in_front item nothing) so_far m (place e s))) (then-one (runs b (lv ns).goals (point l slots s)))
      (subst (λ (t : Trace Valued). SameBy S (then (runs b (lv ns).goals (point l slots s)) (λ p. one p)) t) (sym (gathered item m (place e s)))
      (same-then (AtValue l n h ms (lv ns).tree slots) S _ _ (λ p. one p) (λ x. one (in_front_of_all x)) (is.same n ns e slots s a (omega (arith, room, grows-length ms _ (grows-for hidden ms))))
      (behind n ms (lv ns).tree slots room)));
}
  where
    behind : (n : Room) (ms : SlotNames) (t : Tree) (start : Places) → length (slots_for hidden ms) ≤ n.slots → (p : Point) (x : Valued) → AtValue l n h ms t start p x →
        SameBy (AtValue l n h (slots_for hidden ms) (list_cell t (Tree.var (slot_for hidden ms))) start) (one p) (one (in_front_of_all x))
    behind n ms t start room _ _ (at_value slots s x c extends) = same-one _ _ _ (at_value slots s (in_front_of_all x) (cell-comes n h ms t slots s x c room) extends)

-- The turn of a comprehension.
pub adding-goals : (known : Knows) (set : Setting) (b : Builtins) (l m : Level) (h : ℕ) (item : Value) (lv : SlotNames → SlotValue) → Alike known set b l m → SameLast b l m h item lv → SameGoals b l m h (adding item) (λ ns. slots.adding (lv ns))
adding-goals known set b l m h item lv alike is = put-goals known set b l m h hidden _ _ alike (gathered-last b l m h item lv is)
