-- `find_all` and `count_all` do over slots what they do over names.
use Rattle.std.proofs.Common.{◌≡◌, ℕ, ◌≤◌, ◌<◌, List, [], ◌∷◌, ◌++◌, length, refl, sym, ◌∙◌, ap, subst, arith, length-append}
use Rattle.std.specs.Prelude.{Some, None, slice_set, pos}
use Rattle.std.proofs.lemmas.List.{get_or-set_same}
use Rattle.pi_terms.specs.Tree.{Tree, no_trees, tree, trees_of, tree_count}
use Rattle.pi_terms.specs.Places.{Places}
use Rattle.pi_terms.specs.ListCopies.{new_in_all, list_of_copies}
use Rattle.pi_constraints.specs.Value.{value}
use Rattle.pi_constraints.specs.State.{State, bindings, next}
use Rattle.pi_constraints.specs.Evaluation.{Evaluated, with_new_variables}
use Rattle.pi_effects.specs.Inner.{itself_name}
use Rattle.pi_core.specs.GoalTree.{GoalTree}
use Rattle.pi_traces.specs.Trace.{Trace, one, then}
use Rattle.pi_traces.proofs.TraceLemmas.{then-one}
use Rattle.pi_traces.proofs.RelatedLemmas.{Same}
use Rattle.pi_meaning.specs.Shared.Level.{Level, Applied, Point}
use Rattle.pi_meaning.specs.CoreMeaning.Builtins.{Builtins}
use Rattle.pi_meaning.specs.Shared.Given.{Setting}
use Rattle.pi_meaning.specs.CoreMeaning.Meaning.{draining, strictly, slot_value, copyable, collecting, counting, meaning}
use Rattle.pi_meaning.specs.OverNames.Environment.{Environment, Valued}
use Rattle.pi_meaning.specs.OverNames.Place.{Place}
use Rattle.pi_meaning.specs.OverNames.Control.{Goal, Value, all_found, all_counted, strictly as names_strictly}
use Rattle.pi_rewrite_spec.specs.Slots.{SlotNames, unnamed, with_value}
use Rattle.pi_rewrite_spec.specs.Values.{SlotValue, slotted}
use Rattle.pi_rewrite_spec.specs.Goals.{SlotGoals, in_turn, found_by, all_counted as slots_counted}
use Rattle.pi_rewrite_spec.specs.Forms.{Knows}
use Rattle.pi_rewrite_spec.proofs.SameLemmas.{SameBy, same-equals, same-one, same-map, same-then, same-collected, same-counted}
use Rattle.pi_rewrite_spec.proofs.FilledLemmas.{in_slot, Extends, extends-nothing, extends-then, set-keeps}
use Rattle.pi_rewrite_spec.proofs.AgreeLemmas.{Room, by, Grows, grows-none, grows-then, grows-length, Agrees, agrees-more, agrees-value}
use Rattle.pi_rewrite_spec.proofs.TermLemmas.{Comes, ComesAll, nothing-comes, front-comes}
use Rattle.pi_rewrite_spec.proofs.RunLemmas.{Alike, point, place, AtPlace, at_place, AtValue, at_value, at_values, AtFilled, at_filled, runs, SameGoals, SameLast, SameFilled, filled-value, then-of-one, runs-append, not-drained, names-not-drained, turn-runs, same-strictly}
use Rattle.pi_rewrite_spec.proofs.ControlLemmas.{Drains, just-same}
use Rattle.pi_rewrite_laws.proofs.ValueLemmas.{applied-answer}
use Rattle.pi_rewrite_spec.proofs.InnerLemmas.{itself-called, itself-known}

-- ---- a value that stands in a slot

-- it as the only argument
pub item-comes : (n : Room) (h : ℕ) (ms : SlotNames) (t : Tree) (slots : Places) (s : State) (x : Valued) → Comes n h ms t slots s x →
    ComesAll n h ms (trees_of (t ∷ [])) slots s (record { trees = tree x.tree no_trees; names = x.names; state = x.state })
item-comes n h ms t slots s x c = front-comes n h ms ms t no_trees slots s x _ c (nothing-comes n h ms x.names c.after x.state c.agrees)

-- it as it stands
item-answer : (known : Knows) (set : Setting) (b : Builtins) (l m : Level) (n : Room) (h : ℕ) (ms : SlotNames) (t : Tree) (start : Places) → Alike known set b l m → length (with_value ms) ≤ n.slots →
    (q : Point) (x : Valued) → AtValue l n h ms t start q x → SameBy (AtFilled l n h (with_value ms) (Tree.var (length ms)) start) (runs b (GoalTree.apply itself_name (t ∷ []) (length ms) ∷ []) q) (one x)
unfolding tree_count
item-answer known set b l m n h ms t start alike room _ _ (at_value slots s x c extends) =
    subst (λ (w : Trace Valued). SameBy (AtFilled l n h (with_value ms) (Tree.var (length ms)) start) (runs b (GoalTree.apply itself_name (t ∷ []) (length ms) ∷ []) (point l slots s)) w)
    (ap (λ (w : Trace Applied). then w (λ a. one (record { tree = a.value; names = x.names; state = a.state }))) (itself-called set m x.tree x.state) ∙ then-of-one (record { value = x.tree; state = x.state }) _)
    (applied-answer known set b l m n h ms itself_name (t ∷ []) start alike room (itself-known (known.function itself_name 1)) (point l slots s) _ (at_values slots s _ (item-comes n h ms t slots s x c) extends))

-- goals with a slot in which their value stands
abbrev pub slot_value_of : SlotValue → SlotValue
slot_value_of v =
    record { goals = (slotted v.goals v.tree v.names).goals; tree = Tree.var (slotted v.goals v.tree v.names).place; names = (slotted v.goals v.tree v.names).names }

slotted-grows : (goals : List GoalTree) (t : Tree) (ms : SlotNames) → Grows ms (slotted goals t ms).names
slotted-grows goals (Tree.var k) ms = grows-none ms
slotted-grows goals (Tree.int i) ms = by (unnamed ∷ [])
slotted-grows goals (Tree.atom name) ms = by (unnamed ∷ [])
slotted-grows goals (Tree.comp name ts) ms = by (unnamed ∷ [])

item-same : (known : Knows) (set : Setting) (b : Builtins) (l m : Level) (n : Room) (h : ℕ) (ms : SlotNames) (t : Tree) (start : Places) → Alike known set b l m → length (with_value ms) ≤ n.slots → (goals : List GoalTree) (p : Point) (u : Trace Valued) →
    SameBy (AtValue l n h ms t start) (runs b goals p) u → SameBy (AtValue l n h (with_value ms) (Tree.var (length ms)) start) (runs b (goals ++ GoalTree.apply itself_name (t ∷ []) (length ms) ∷ []) p) u
item-same known set b l m n h ms t start alike room goals p u is =
    subst (λ (w : Trace Point). SameBy (AtValue l n h (with_value ms) (Tree.var (length ms)) start) w u) (sym (runs-append b goals _ p))
    (subst (λ (w : Trace Valued). SameBy (AtValue l n h (with_value ms) (Tree.var (length ms)) start) (then (runs b goals p) (runs b (GoalTree.apply itself_name (t ∷ []) (length ms) ∷ []))) w) (then-one u)
    (same-then (AtValue l n h ms t start) (AtValue l n h (with_value ms) (Tree.var (length ms)) start) _ _ (runs b (GoalTree.apply itself_name (t ∷ []) (length ms) ∷ [])) (λ x. one x) is
    (λ q x at. same-map (AtFilled l n h (with_value ms) (Tree.var (length ms)) start) (AtValue l n h (with_value ms) (Tree.var (length ms)) start) (filled-value l n h (with_value ms) (Tree.var (length ms)) start) _ _
    (item-answer known set b l m n h ms t start alike room q x at))))

slotted-same : (known : Knows) (set : Setting) (b : Builtins) (l m : Level) (n : Room) (h : ℕ) (ms : SlotNames) (t : Tree) (start : Places) → Alike known set b l m → (goals : List GoalTree) → length (slotted goals t ms).names ≤ n.slots → (p : Point) (u : Trace Valued) →
    SameBy (AtValue l n h ms t start) (runs b goals p) u → SameBy (AtValue l n h (slotted goals t ms).names (Tree.var (slotted goals t ms).place) start) (runs b (slotted goals t ms).goals p) u
slotted-same known set b l m n h ms (Tree.var k) start alike goals room p u is = is
slotted-same known set b l m n h ms (Tree.int i) start alike goals room p u is = item-same known set b l m n h ms (Tree.int i) start alike room goals p u is
slotted-same known set b l m n h ms (Tree.atom name) start alike goals room p u is = item-same known set b l m n h ms (Tree.atom name) start alike room goals p u is
slotted-same known set b l m n h ms (Tree.comp name ts) start alike goals room p u is = item-same known set b l m n h ms (Tree.comp name ts) start alike room goals p u is

slotted-last : (known : Knows) (set : Setting) (b : Builtins) (l m : Level) (h : ℕ) (v : Value) (lv : SlotNames → SlotValue) → Alike known set b l m → SameLast b l m h v lv → SameLast b l m h v (λ ns. slot_value_of (lv ns))
slotted-last known set b l m h v lv alike is = record {
  grows = λ ns. grows-then ns _ _ (is.grows ns) (slotted-grows (lv ns).goals (lv ns).tree (lv ns).names);
  same = λ n ns e slots s a room.
      slotted-same known set b l m n h (lv ns).names (lv ns).tree slots alike (lv ns).goals room (point l slots s) (v m (place e s))
      (is.same n ns e slots s a (omega (arith, room, grows-length (lv ns).names _ (slotted-grows (lv ns).goals (lv ns).tree (lv ns).names))));
}

-- ---- the expression behind each answer, where nothing says what stayed in slots

value-wider : (l : Level) (n : Room) (h : ℕ) (ns : SlotNames) (t : Tree) (start first : Places) → Extends first start → (p : Point) (x : Valued) → AtValue l n h ns t start p x → AtValue l n h ns t first p x
value-wider l n h ns t start first more _ _ (at_value slots s x c extends) = at_value slots s x c (extends-then first start slots more extends)

pub value-from : (b : Builtins) (l m : Level) (h : ℕ) (v : Value) (lv : SlotNames → SlotValue) → SameLast b l m h v lv → (n : Room) (ns : SlotNames) → length (lv ns).names ≤ n.slots → (p : Point) (q : Place) → AtPlace l n h ns p q →
    SameBy (AtValue l n h (lv ns).names (lv ns).tree []) (runs b (lv ns).goals p) (v m q)
value-from b l m h v lv is n ns room _ _ (at_place e slots s a) =
    same-map (AtValue l n h (lv ns).names (lv ns).tree slots) (AtValue l n h (lv ns).names (lv ns).tree []) (value-wider l n h (lv ns).names (lv ns).tree slots [] (extends-nothing slots)) _ _ (is.same n ns e slots s a room)

pub names-strict : (g : Goal) (m : Level) → Drains m → (p : Place) → names_strictly g m p ≡ g m p
unfolding names_strictly
names-strict g m drains p = ap (then (g m p)) (λ i q. names-not-drained (λ k r. one r) m q drains i) ∙ then-one (g m p)

-- each answer counts, since nothing waits
pub strict-left : (l : Level) (n : Room) (h : ℕ) (ns : SlotNames) (t : Tree) (start : Places) → Drains l → (w : Trace Point) (u : Trace Valued) → SameBy (AtValue l n h ns t start) w u → SameBy (AtValue l n h ns t start) (then w (draining (λ r. one r))) u
strict-left l n h ns t start drains w u is =
    subst (λ (x : Trace Valued). SameBy (AtValue l n h ns t start) (then w (draining (λ r. one r))) x) (then-one u)
    (same-then (AtValue l n h ns t start) (AtValue l n h ns t start) w u (draining (λ r. one r)) (λ x. one x) is answer)
  where
    answer : (p : Point) (x : Valued) → AtValue l n h ns t start p x → SameBy (AtValue l n h ns t start) (draining (λ r. one r) p) (one x)
    answer _ _ (at_value slots s x c extends) =
        subst (λ (y : Trace Point). SameBy (AtValue l n h ns t start) y (one x)) (sym (not-drained (λ r. one r) (point l slots s) drains)) (same-one (AtValue l n h ns t start) _ _ (at_value slots s x c extends))

pub values-behind : (known : Knows) (set : Setting) (b : Builtins) (l m : Level) (h : ℕ) (g : Goal) (v : Value) (lg : SlotNames → SlotGoals) (lv : SlotNames → SlotValue) → Alike known set b l m → SameGoals b l m h g lg → SameLast b l m h v lv →
    (n : Room) (ns : SlotNames) (e : Environment) (slots : Places) (s : State) → Agrees n h ns e slots → length (lv (lg ns).names).names ≤ n.slots →
    SameBy (AtValue l n h (lv (lg ns).names).names (lv (lg ns).names).tree []) (strictly (meaning b (in_turn ((lg ns).goals ++ (lv (lg ns).names).goals))) (point l slots s)) (then (names_strictly g m (place e s)) (v m))
unfolding strictly
values-behind known set b l m h g v lg lv alike is value n ns e slots s a room =
    let ms : SlotNames = (lg ns).names in
    let R : Point → Valued → Type 0 = AtValue l n h (lv ms).names (lv ms).tree [] in
    strict-left l n h (lv ms).names (lv ms).tree [] alike.core_drains _ _
    (subst (λ (t : Trace Point). SameBy R t (then (names_strictly g m (place e s)) (v m))) (sym (turn-runs b l alike.core_drains ((lg ns).goals ++ (lv ms).goals) slots s ∙ runs-append b (lg ns).goals (lv ms).goals (point l slots s)))
    (subst (λ (u : Trace Place). SameBy R (then (runs b (lg ns).goals (point l slots s)) (runs b (lv ms).goals)) (then u (v m))) (sym (names-strict g m alike.names_drain (place e s)))
    (same-then (AtPlace l n h ms) R _ _ (runs b (lv ms).goals) (v m) (is.same n ns e slots s a (omega (arith, room, grows-length ms _ (value.grows ms)))) (value-from b l m h v lv value n ms room))))

copied : (l : Level) (n : Room) (h : ℕ) (ns : SlotNames) (k : ℕ) (start : Places) (p : Point) (x : Valued) → AtValue l n h ns (Tree.var k) start p x →
    SameBy Same (copyable (slot_value k p.slots p.state)) (copyable (value (bindings x.state) x.tree))
copied l n h ns k start _ _ (at_value slots s x c extends) =
    same-equals _ _ (ap (λ (y : Evaluated). copyable (value (bindings y.state) y.tree)) c.comes)

-- a value in the next slot
next-filled : (l : Level) (n : Room) (h : ℕ) (ns ms : SlotNames) (e : Environment) (slots : Places) (s : State) (t : Tree) → Agrees n h ns e slots → Grows ns ms → length (with_value ms) ≤ n.slots →
    AtFilled l n h (with_value ms) (Tree.var (length ms)) slots (point l (slice_set slots (length ms) (Some t)) s) (record { tree = t; names = e; state = s })
next-filled l n h ns ms e slots s t a grows room =
    let wide : Agrees n h ms e slots = agrees-more n h ns ms e slots grows a in
    let fits : length ms < length slots = omega (arith, room, length-append ms (unnamed ∷ []), a.long) in
    at_filled e (slice_set slots (length ms) (Some t)) s t (agrees-value n h ms e slots t wide) (set-keeps slots (length ms) t (wide.empty (length ms) (omega arith)))
    (in_slot (length ms) t (get_or-set_same slots (length ms) (Some t) None fits))

pub found-value : (known : Knows) (set : Setting) (b : Builtins) (l m : Level) (h : ℕ) (g : Goal) (v : Value) (lg : SlotNames → SlotGoals) (lv : SlotNames → SlotValue) → Alike known set b l m → SameGoals b l m h g lg → SameLast b l m h v lv →
    SameFilled b l m h (all_found v g) (λ ns. found_by (lg ns) lv)
unfolding meaning collecting all_found
found-value known set b l m h g v lg lv alike is gives = record {
  grows = λ ns. grows-then ns _ _ (grows-then ns _ _ (is.grows ns) (slots.grows (lg ns).names)) (by (unnamed ∷ []));
  same = λ n ns e places s a room.
      let ms : SlotNames = (lg ns).names in
      let w : SlotValue = slot_value_of (lv ms) in
      let k : ℕ = (slotted (lv ms).goals (lv ms).tree (lv ms).names).place in
      let goals : GoalTree = in_turn ((lg ns).goals ++ w.goals) in
      let R : Point → Valued → Type 0 = AtFilled l n h (with_value w.names) (Tree.var (length w.names)) places in
      just-same R b l alike.core_drains (GoalTree.collect goals k (length w.names)) (collecting (meaning b goals) k (length w.names)) refl places s _
      (same-collected R _ _ _ _
      (same-then (AtValue l n h w.names (Tree.var k) []) Same _ _ (λ q. copyable (slot_value k q.slots q.state)) (λ x. copyable (value (bindings x.state) x.tree))
      (values-behind known set b l m h g v lg (λ ns. slot_value_of (lv ns)) alike is slots n ns e places s a (omega (arith, room, length-append w.names (unnamed ∷ [])))) (copied l n h w.names k []))
      (λ ts. same-one R _ _ (next-filled l n h ns w.names e places (with_new_variables (new_in_all ts) s) (list_of_copies (next s) ts) a (grows-then ns _ _ (is.grows ns) (slots.grows ms)) room)));
}
  where
    slots : SameLast b l m h v (λ ns. slot_value_of (lv ns))
    slots = slotted-last known set b l m h v lv alike gives

pub counted-value : (known : Knows) (set : Setting) (b : Builtins) (l m : Level) (h : ℕ) (g : Goal) (lg : SlotNames → SlotGoals) → Alike known set b l m → SameGoals b l m h g lg →
    SameFilled b l m h (all_counted g) (λ ns. slots_counted (lg ns))
unfolding meaning counting all_counted
counted-value known set b l m h g lg alike is = record {
  grows = λ ns. grows-then ns _ _ (is.grows ns) (by (unnamed ∷ []));
  same = λ n ns e slots s a room.
      let ms : SlotNames = (lg ns).names in
      let R : Point → Valued → Type 0 = AtFilled l n h (with_value ms) (Tree.var (length ms)) slots in
      just-same R b l alike.core_drains (GoalTree.count (in_turn (lg ns).goals) (length ms)) (counting (meaning b (in_turn (lg ns).goals)) (length ms)) refl slots s _
      (same-counted (AtPlace l n h ms) R _ _ _ _ (same-strictly known set b l m h g lg alike is n ns e slots s a (omega (arith, room, length-append ms (unnamed ∷ []))))
      (λ k. same-one R _ _ (next-filled l n h ns ms e slots s (Tree.int (pos k)) a (is.grows ns) room)));
}
