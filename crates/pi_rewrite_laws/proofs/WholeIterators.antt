-- An iterator as a goal does over slots what it does over names, where what stands in its turns keeps what terms are followed to.
use Rattle.std.proofs.Common.{◌≡◌, ℕ, suc, ◌+◌, ◌-◌, ◌≤◌, List, [], ◌∷◌, ◌++◌, length, sym, ◌∙◌, ap, subst, arith, length-append}
use Rattle.std.specs.Prelude.{Some, None, replicate, slice_set, pos}
use Rattle.std.proofs.lemmas.List.{length-set, get_or-set_same}
use Rattle.pi_terms.specs.Tree.{Tree}
use Rattle.pi_terms.specs.Places.{Places, held}
use Rattle.pi_constraints.specs.State.{State, bindings, next}
use Rattle.pi_constraints.specs.Evaluation.{with_new_variables}
use Rattle.pi_effects.specs.Items.{collection_items}
use Rattle.pi_syntax.specs.ExpTree.{ExpTree}
use Rattle.pi_core.specs.GoalTree.{GoalTree}
use Rattle.pi_traces.specs.Trace.{Trace, then}
use Rattle.pi_traces.proofs.TraceLemmas.{then-assoc}
use Rattle.pi_traces.proofs.AnswerLemmas.{EachAnswer}
use Rattle.pi_meaning.specs.Shared.Level.{Level, Point}
use Rattle.pi_meaning.specs.CoreMeaning.Builtins.{Builtins}
use Rattle.pi_meaning.specs.Shared.Given.{Setting}
use Rattle.pi_meaning.specs.OverNames.Environment.{Environment, Valued}
use Rattle.pi_meaning.specs.OverNames.Place.{Place}
use Rattle.pi_meaning.specs.OverNames.Texts.{Names}
use Rattle.pi_meaning.specs.OverNames.Assigning.{with_names, narrowed, carried}
use Rattle.pi_meaning.specs.OverNames.Control.{Goal, Value}
use Rattle.pi_meaning.specs.OverNames.Loops as over_names
use Rattle.pi_rewrite_spec.specs.Slots.{SlotNames, unnamed, with_value}
use Rattle.pi_rewrite_spec.specs.Values.{SlotValue, slot_pattern}
use Rattle.pi_rewrite_spec.specs.Forms.{Knows, IsPattern}
use Rattle.pi_rewrite_spec.specs.Goals.{SlotGoals}
use Rattle.pi_rewrite_spec.specs.Loops.{slots_from, slots_for_names, with_values, Loop, started, kept_goals}
use Rattle.pi_rewrite_spec.specs.Iterators.{turn_helper, element_helper, only, behind_collection, iterator_goals}
use Rattle.pi_rewrite_spec.proofs.SameLemmas.{SameBy, same-then, same-each}
use Rattle.pi_rewrite_spec.proofs.FilledLemmas.{in_slot, is_int, Extends, extends-then, set-keeps, filled-more}
use Rattle.pi_rewrite_spec.proofs.AgreeLemmas.{Room, Grows, by, grows-then, grows-length, Agrees, holding, set-other}
use Rattle.pi_rewrite_spec.proofs.RunLemmas.{Alike, point, place, AtPlace, at_place, AtValue, at_value, runs, SameGoals, SameLast, then-of-one, runs-append}
use Rattle.pi_rewrite_spec.proofs.EndLemmas.{finish_of}
use Rattle.pi_rewrite_spec.proofs.LoopLemmas.{started-grows, started-same}
use Rattle.pi_rewrite_spec.proofs.EnteredLemmas.{values-long, values-grow}
use Rattle.pi_rewrite_spec.proofs.CarriedLemmas.{Apart}
use Rattle.pi_rewrite_laws.proofs.HelperLemmas.{AreAmong}
use Rattle.pi_rewrite_laws.proofs.EnterLemmas.{AreFilled, AllThere, names-there, handed_on}
use Rattle.pi_rewrite_laws.proofs.WholeLoops.{among-there, entered-same}
use Rattle.pi_rewrite_laws.proofs.ElementLemmas.{turn_front, TurnSame, unnamed-long}
use Rattle.pi_rewrite_laws.proofs.WalkArrays.{number_of}
use Rattle.pi_rewrite_laws.proofs.WalkTurns.{ahead-later, Walks, walk-calls}
use Rattle.pi_rewrite_laws.proofs.StayLemmas.{new-variables-stay}
use Rattle.pi_rewrite_laws.proofs.CollectionLemmas.{only-long, only-agrees, slot-still, still-agrees}
use Rattle.pi_rewrite_laws.proofs.IteratorLemmas.{first-handed, first-ahead, counting_goals, counted_slots, counted-same}

-- the slots behind what is gone over
abbrev gone_over : SlotNames → SlotValue → SlotNames
gone_over ns v = behind_collection ns (with_value (with_value v.names))

two-longer : (ns : SlotNames) → length (with_value (with_value ns)) ≡ length ns + 2
two-longer ns = omega (arith, length-append (with_value ns) (unnamed ∷ []), length-append ns (unnamed ∷ []))

behind-long : (ns : SlotNames) (v : SlotValue) → length ns ≤ length v.names → length (gone_over ns v) ≡ length v.names + 2
behind-long ns v less = length-append ns (replicate (length (with_value (with_value v.names)) - length ns) unnamed) ∙ omega (arith, less, unnamed-long (length (with_value (with_value v.names)) - length ns), two-longer v.names)

-- the call of the first helper, and what the loop's names stand for behind it
abbrev last_goals : Loop → SlotNames → SlotValue → List GoalTree
last_goals w ns v =
    GoalTree.call w.name (((v.tree ∷ Tree.int (pos 1) ∷ Tree.var (length (gone_over ns v) - 1) ∷ []) ++ slots_for_names w.shared (gone_over ns v)) ++ slots_from (length (gone_over ns v)) (length w.kept)) ∷ kept_goals w.kept (length (gone_over ns v)) (gone_over ns v)

-- behind the evaluation of what is gone over: its items are counted, and the first helper is called
behind-same : (known : Knows) (set : Setting) (b : Builtins) (l k : Level) (h : ℕ) → Alike known set b l k → (w : Loop) (turn : List ℕ) (before : Names) (e0 : ExpTree) → IsPattern e0 → (body : Goal) (lb : SlotNames → SlotGoals) →
    AreAmong before w.shared → AreAmong before w.kept → AreAmong w.shared w.kept → Apart w (turn_front (slot_pattern e0 [])) → Walks b (element_helper turn w) (turn_helper turn w e0 lb) (TurnSame known set b w (slot_pattern e0 []) body lb) l k →
    (n : Room) (ns : SlotNames) (v : SlotValue) (e : Environment) (slots : Places) → Agrees n h ns e slots → AllThere before e → Grows (only before ns) v.names → length (with_values w.kept (gone_over ns v)) ≤ n.slots →
    (p : Point) (x : Valued) → AtValue l (holding n (only before ns) slots) h v.names v.tree slots p x →
    SameBy (AtPlace l n h (with_values w.kept (gone_over ns v)))
    (then (runs b (counting_goals v.tree (length v.names)) p)
    (runs b (last_goals w ns v)))
    (over_names.items_then (λ ts. over_names.framed (finish_of w.ending) w.shared w.kept (over_names.elements w.shared e0 body ts) k (place e x.state)) x.tree x.state (collection_items (bindings x.state) x.tree))
unfolding AreFilled
behind-same known set b l k h alike w turn before e0 is-pattern body lb shared kept among apart walks n ns v e slots a there grows room _ _ (at_value places s x c extends) =
    counted-same known set b l k alike v.tree x.tree (length v.names) places c.after s x.state c.comes (omega (arith, room, values-long w.kept (gone_over ns v), behind-long ns v longer, c.agrees.long)) (last_goals w ns v) _ (AtPlace l n h (with_values w.kept (gone_over ns v)))
    (λ ts m found numbered. entered-same known set b l k alike w before (over_names.elements w.shared e0 body ts) shared kept n h (gone_over ns v) e (counted_slots c.after (length v.names) (length ts)) x.state (agrees ts) there room
    (v.tree ∷ Tree.int (pos 1) ∷ Tree.var (length (gone_over ns v) - 1) ∷ []) (x.tree ∷ number_of 1 ∷ number_of (suc (length ts)) ∷ [])
    (filled-more c.after (counted_slots c.after (length v.names) (length ts)) (stays ts) v.tree x.tree c.filled, (is_int (pos 1), (in_slot (length (gone_over ns v) - 1) (number_of (suc (length ts))) (last ts), tt)))
    (walk-calls known set b w turn e0 is-pattern body lb among apart l k walks (next x.state) ts (narrowed w.shared e) (handed_on w (next x.state) e) x.tree (number_of 1) (number_of (suc (length ts))) (with_new_variables (length w.kept) x.state)
    (first-handed w (next x.state) e (among-there before w.shared e shared there))
    (ahead-later x.state (with_new_variables (length w.kept) x.state) (new-variables-stay (length w.kept) x.state) x.tree (number_of 1) (number_of (suc (length ts))) ts (first-ahead x.state x.tree ts m found numbered))))
  where
    longer : length ns ≤ length v.names
    longer = omega (arith, only-long before ns, grows-length (only before ns) v.names grows)

    fits : length v.names + 2 ≤ n.slots
    fits = omega (arith, room, values-long w.kept (gone_over ns v), behind-long ns v longer)

    first : List Tree → Places
    first ts = slice_set c.after (length v.names) (Some (number_of (length ts)))

    far : (ts : List Tree) (i : ℕ) → (i ≡ length v.names → ⊥) → (i ≡ suc (length v.names) → ⊥) → held (counted_slots c.after (length v.names) (length ts)) i ≡ held c.after i
    far ts i other past = set-other (first ts) (suc (length v.names)) (Some (number_of (suc (length ts)))) i past ∙ set-other c.after (length v.names) (Some (number_of (length ts))) i other

    stays : (ts : List Tree) → Extends c.after (counted_slots c.after (length v.names) (length ts))
    stays ts = extends-then c.after (first ts) (counted_slots c.after (length v.names) (length ts)) (set-keeps c.after (length v.names) (number_of (length ts)) (c.agrees.empty (length v.names) (omega arith)))
        (set-keeps (first ts) (suc (length v.names)) (number_of (suc (length ts))) (set-other c.after (length v.names) (Some (number_of (length ts))) (suc (length v.names)) (λ same. omega (arith, same)) ∙ c.agrees.empty (suc (length v.names)) (omega arith)))

    last : (ts : List Tree) → held (counted_slots c.after (length v.names) (length ts)) (length (gone_over ns v) - 1) ≡ Some (number_of (suc (length ts)))
    last ts =
        ap (held (counted_slots c.after (length v.names) (length ts))) (omega (arith, behind-long ns v longer))
        ∙ get_or-set_same (first ts) (suc (length v.names)) (Some (number_of (suc (length ts)))) None (omega (arith, fits, length-set c.after (length v.names) (Some (number_of (length ts))), c.agrees.long))

    agrees : (ts : List Tree) → Agrees n h (gone_over ns v) e (counted_slots c.after (length v.names) (length ts))
    agrees ts = still-agrees n h (length (with_value (with_value v.names)) - length ns) ns e slots (counted_slots c.after (length v.names) (length ts)) a
        (length-set (first ts) (suc (length v.names)) (Some (number_of (suc (length ts)))) ∙ length-set c.after (length v.names) (Some (number_of (length ts))) ∙ c.agrees.long)
        (λ i less. far ts i (λ same. omega (arith, same, less, longer)) (λ same. omega (arith, same, less, longer))
        ∙ slot-still before n h ns v.names e x.names slots c.after a there c.agrees (extends-then slots places c.after extends c.extends) i less)
        (λ i past. far ts i (λ same. omega (arith, same, past, longer, two-longer v.names)) (λ same. omega (arith, same, past, longer, two-longer v.names)) ∙ c.agrees.empty i (omega (arith, past, longer, two-longer v.names)))

pub iterator-same : (known : Knows) (set : Setting) (b : Builtins) (l k : Level) (h : ℕ) → Alike known set b l k → (w : Loop) (turn : List ℕ) (before : Names) (e0 : ExpTree) → IsPattern e0 → (collection : Value) (lc : SlotNames → SlotValue) → SameLast b l k h collection lc →
    (body : Goal) (lb : SlotNames → SlotGoals) → AreAmong before w.shared → AreAmong before w.kept → AreAmong w.shared w.kept → Apart w (turn_front (slot_pattern e0 [])) →
    Walks b (element_helper turn w) (turn_helper turn w e0 lb) (TurnSame known set b w (slot_pattern e0 []) body lb) l k →
    SameGoals b l k h (over_names.iterating (over_names.names_around (finish_of w.ending) before w.shared w.kept) e0 collection body) (iterator_goals h before w lc)
unfolding over_names.iterating EachAnswer
iterator-same known set b l k h alike w turn before e0 is-pattern collection lc is body lb shared kept among apart walks = record {
  grows = λ ns. grows-then ns _ _ (started-grows known set b l k h alike before ns) (grows-then (started h before ns).names _ _ (by _) (values-grow w.kept (gone_over (started h before ns).names (lc (only before (started h before ns).names)))));
  same = λ n ns e slots s a room. whole n ns e slots s a room;
}
  where
    -- over names, from where all that stand before the loop are there
    goes_over : Place → Trace Place
    goes_over start = then (collection k (carried before start)) (λ x. over_names.items_then (λ ts. over_names.framed (finish_of w.ending) w.shared w.kept (over_names.elements w.shared e0 body ts) k (record { names = start.names; state = x.state })) x.tree x.state
        (collection_items (bindings x.state) x.tree))

    counts : SlotNames → SlotValue → Point → Trace Point
    counts ns v q = then (runs b (counting_goals v.tree (length v.names)) q) (runs b (last_goals w ns v))

    behind : (n : Room) (ns : SlotNames) → length (with_values w.kept (gone_over ns (lc (only before ns)))) ≤ n.slots → (p : Point) (q : Place) → AtPlace l n h ns p q × AllThere before q.names →
        SameBy (AtPlace l n h (with_values w.kept (gone_over ns (lc (only before ns))))) (then (runs b (lc (only before ns)).goals p) (counts ns (lc (only before ns)))) (goes_over q)
    behind n ns room _ _ (at_place e slots s a, there) =
        same-then (AtValue l (holding n (only before ns) slots) h (lc (only before ns)).names (lc (only before ns)).tree slots) (AtPlace l n h (with_values w.kept (gone_over ns (lc (only before ns))))) _ _ (counts ns (lc (only before ns))) _
        (is.same (holding n (only before ns) slots) (only before ns) (narrowed before e) slots s (only-agrees before n h ns e slots a)
        (omega (arith, room, values-long w.kept (gone_over ns (lc (only before ns))), behind-long ns (lc (only before ns)) (omega (arith, only-long before ns, grows-length (only before ns) _ (is.grows (only before ns)))))))
        (behind-same known set b l k h alike w turn before e0 is-pattern body lb shared kept among apart walks n ns (lc (only before ns)) e slots a there (is.grows (only before ns)) room)

    whole : (n : Room) (ns : SlotNames) (e : Environment) (slots : Places) (s : State) → Agrees n h ns e slots → length (iterator_goals h before w lc ns).names ≤ n.slots →
        SameBy (AtPlace l n h (iterator_goals h before w lc ns).names) (runs b (iterator_goals h before w lc ns).goals (point l slots s)) (goes_over (with_names before (place e s)))
    whole n ns e slots s a room =
        subst (λ (t : Trace Point). SameBy R t (goes_over (with_names before (place e s)))) (sym core)
        (subst (λ (t : Trace Place). SameBy R (then (runs b start.goals (point l slots s)) (λ p. then (runs b v.goals p) (counts ms v))) t) (then-of-one (with_names before (place e s)) goes_over)
        (same-then (λ p q. AtPlace l n h ms p q × AllThere before q.names) R _ _ (λ p. then (runs b v.goals p) (counts ms v)) goes_over
        (same-each (AtPlace l n h ms) (λ q. AllThere before q.names) _ _ (started-same known set b l k h alike before n ns e slots s a (omega (arith, room, values-long w.kept (gone_over ms v), length-append ms (replicate (length (with_value (with_value v.names)) - length ms) unnamed))))
        (names-there before (place e s), tt)) (behind n ms room)))
      where
        start : SlotValue
        start = started h before ns

        ms : SlotNames
        ms = (started h before ns).names

        v : SlotValue
        v = lc (only before (started h before ns).names)

        R : Point → Place → Type 0
        R = AtPlace l n h (iterator_goals h before w lc ns).names

        core : runs b (iterator_goals h before w lc ns).goals (point l slots s) ≡ then (runs b (started h before ns).goals (point l slots s)) (λ p. then (runs b (lc (only before (started h before ns).names)).goals p) (counts (started h before ns).names (lc (only before (started h before ns).names))))
        core =
            runs-append b (start.goals ++ (v.goals ++ counting_goals v.tree (length v.names))) (last_goals w ms v) (point l slots s)
            ∙ ap (λ (t : Trace Point). then t (runs b (last_goals w ms v))) (runs-append b start.goals (v.goals ++ counting_goals v.tree (length v.names)) (point l slots s))
            ∙ then-assoc (runs b start.goals (point l slots s)) (runs b (v.goals ++ counting_goals v.tree (length v.names))) (runs b (last_goals w ms v))
            ∙ ap (then (runs b start.goals (point l slots s))) (λ i p. (ap (λ (t : Trace Point). then t (runs b (last_goals w ms v))) (runs-append b v.goals (counting_goals v.tree (length v.names)) p)
            ∙ then-assoc (runs b v.goals p) (runs b (counting_goals v.tree (length v.names))) (runs b (last_goals w ms v))) i)
