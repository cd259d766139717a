-- An iterator over a range as a goal does over slots what it does over names, where the range is a list: the same values, the same errors in the same order, and the same variables.
use Rattle.std.proofs.Common.{◌≡◌, ℕ, zero, suc, ◌+◌, ◌-◌, ◌≤◌, List, [], ◌∷◌, ◌++◌, length, refl, sym, ◌∙◌, ap, subst, arith, length-append}
use Rattle.std.specs.Prelude.{ℤ, ◌+ℤ◌, Option, replicate, pos, codes}
use Rattle.pi_terms.specs.Tree.{Tree, trees_of}
use Rattle.pi_terms.specs.Places.{Places}
use Rattle.pi_constraints.specs.State.{State, bindings, next}
use Rattle.pi_constraints.specs.Evaluation.{with_new_variables}
use Rattle.pi_effects.specs.Range.{Outcome}
use Rattle.pi_effects.specs.Value.{value_of}
use Rattle.pi_effects.specs.declared.operation.Op.TheVariants.{Add}
use Rattle.pi_effects.specs.Answer.{Answer}
use Rattle.pi_effects.specs.Items.{list_of, collection_items}
use Rattle.pi_effects.specs.Ranges.{most_items, values_by}
use Rattle.pi_effects.specs.BuiltIns.{answer_in}
use Rattle.pi_syntax.specs.ExpTree.{ExpTree}
use Rattle.pi_core.specs.GoalTree.{GoalTree}
use Rattle.pi_traces.specs.Trace.{Trace, end, Raise, one, then}
use Rattle.pi_traces.proofs.TraceLemmas.{then-assoc}
use Rattle.pi_traces.proofs.AnswerLemmas.{EachAnswer}
use Rattle.pi_meaning.specs.Shared.Level.{Level, Applied, Point}
use Rattle.pi_meaning.specs.Shared.Builtin.{function_trace}
use Rattle.pi_meaning.specs.CoreMeaning.Builtins.{Builtins}
use Rattle.pi_meaning.specs.Shared.Given.{Setting}
use Rattle.pi_meaning.specs.Shared.Calls.{function_called}
use Rattle.pi_meaning.specs.OverNames.Environment.{Environment, Valued, ValuedAll}
use Rattle.pi_meaning.specs.OverNames.Place.{Place}
use Rattle.pi_meaning.specs.OverNames.Texts.{Names}
use Rattle.pi_meaning.specs.OverNames.Assigning.{with_names, narrowed, carried}
use Rattle.pi_meaning.specs.OverNames.Control.{Goal, Values, applied_to}
use Rattle.pi_meaning.specs.OverNames.Loops as over_names
use Rattle.pi_rewrite_spec.specs.Slots.{SlotNames, unnamed, with_value}
use Rattle.pi_rewrite_spec.specs.Values.{SlotValue, SlotValues, slot_pattern}
use Rattle.pi_rewrite_spec.specs.Forms.{Knows, IsPattern}
use Rattle.pi_rewrite_spec.specs.Goals.{SlotGoals}
use Rattle.pi_rewrite_spec.specs.Loops.{slots_from, slots_for_names, with_values, Loop, started, kept_goals}
use Rattle.pi_rewrite_spec.specs.Iterators.{only}
use Rattle.pi_rewrite_spec.specs.Ranges.{step_helper, range_helper, SlotRange, range_of, counting, first_turn, behind_range, range_goals}
use Rattle.pi_rewrite_spec.proofs.SameLemmas.{SameBy, same_end, same-then, same-each}
use Rattle.pi_rewrite_spec.proofs.FilledLemmas.{extends-then}
use Rattle.pi_rewrite_spec.proofs.AgreeLemmas.{Room, Grows, by, grows-then, grows-length, Agrees, holding}
use Rattle.pi_rewrite_spec.proofs.RunLemmas.{Alike, point, place, AtPlace, at_place, AtValues, at_values, runs, SameGoals, SameArguments, then-of-one, runs-append}
use Rattle.pi_rewrite_spec.proofs.InnerLemmas.{collection-made}
use Rattle.pi_rewrite_spec.proofs.EndLemmas.{finish_of}
use Rattle.pi_rewrite_spec.proofs.LoopLemmas.{started-grows, started-same}
use Rattle.pi_rewrite_spec.proofs.EnteredLemmas.{values-long, values-grow}
use Rattle.pi_rewrite_spec.proofs.CarriedLemmas.{Apart}
use Rattle.pi_rewrite_laws.proofs.HelperLemmas.{AreAmong}
use Rattle.pi_rewrite_laws.proofs.EnterLemmas.{AllThere, names-there, handed_on}
use Rattle.pi_rewrite_laws.proofs.WholeLoops.{among-there, entered-same}
use Rattle.pi_rewrite_laws.proofs.ElementLemmas.{turn_front, TurnSame, unnamed-long}
use Rattle.pi_rewrite_laws.proofs.WalkArrays.{number_of}
use Rattle.pi_rewrite_laws.proofs.CollectionLemmas.{only-long, only-agrees, slot-still, still-agrees}
use Rattle.pi_rewrite_laws.proofs.IteratorLemmas.{first-handed}
use Rattle.pi_rewrite_laws.proofs.RangeCalls.{list_made, count_made, RangeIs, refused, has_values, range-is, few-numbered}
use Rattle.pi_rewrite_laws.proofs.RangeTurns.{Steps}
use Rattle.pi_rewrite_laws.proofs.RangeWalk.{range-calls}
use Rattle.pi_rewrite_laws.proofs.RangeStarts.{Bounds, RangeReady, range-ready, CountRuns, count-runs, count-raises}

three-longer : (ns : SlotNames) → length (with_value (with_value (with_value ns))) ≡ length ns + 3
three-longer ns = omega (arith, length-append (with_value (with_value ns)) (unnamed ∷ []), length-append (with_value ns) (unnamed ∷ []), length-append ns (unnamed ∷ []))

behind-long : (ns : SlotNames) (r : SlotRange) → length ns ≤ length r.names → length (behind_range ns r) ≡ length r.names + 3
behind-long ns r less = length-append ns (replicate (length (with_value (with_value (with_value r.names))) - length ns) unnamed) ∙ omega (arith, less, unnamed-long (length (with_value (with_value (with_value r.names))) - length ns), three-longer r.names)

-- the call of the first helper, and what the loop's names stand for behind it
abbrev last_goals : Loop → SlotNames → SlotRange → List GoalTree
last_goals w ns r =
    GoalTree.call w.name ((first_turn r ++ slots_for_names w.shared (behind_range ns r)) ++ slots_from (length (behind_range ns r)) (length w.kept)) ∷ kept_goals w.kept (length (behind_range ns r)) (behind_range ns r)

-- a function's value with the names behind its arguments
abbrev valued_by : ValuedAll → Applied → Trace Valued
valued_by x a = one (record { tree = a.value; names = x.names; state = a.state })

-- what the range comes to, and the values of that
abbrev goes_through : Setting → Loop → ExpTree → Goal → Environment → Level → ValuedAll → Trace Applied → Trace Place
goes_through set w e0 body e k x applied =
    then (then applied (valued_by x))
    (λ y. over_names.items_then (λ ts. over_names.framed (finish_of w.ending) w.shared w.kept (over_names.elements w.shared e0 body ts) k (record { names = e; state = y.state })) y.tree y.state (collection_items (bindings y.state) y.tree))

range-long : (n : ℕ) (low step : ℤ) → length (values_by n low step) ≡ n
unfolding values_by
range-long zero low step = refl
range-long (suc n) low step = ap suc (range-long n (low +ℤ step) step)

-- the values of a range that is a list are gone through
values-gone-through : (set : Setting) (w : Loop) (e0 : ExpTree) (body : Goal) (e : Environment) (k : Level) (x : ValuedAll) (q : State) (low step : ℤ) (count : ℕ) → count ≤ most_items →
    goes_through set w e0 body e k x (one (record { value = list_of (values_by count low step); state = q }))
    ≡ over_names.framed (finish_of w.ending) w.shared w.kept (over_names.elements w.shared e0 body (values_by count low step)) k (place e q)
values-gone-through set w e0 body e k x q low step count few =
    ap (λ (t : Trace Valued). then t after) (then-of-one made (valued_by x)) ∙ then-of-one (record { tree = list_of (values_by count low step); names = x.names; state = q }) after
    ∙ ap (λ (o : Option (List Tree)). over_names.items_then turns (list_of (values_by count low step)) q o) (collection-made (bindings q) (values_by count low step))
    ∙ ap (λ (o : Outcome). over_names.if_numbered o (turns (values_by count low step))) (ap (λ (n : ℕ). value_of Add (pos n) (pos 1)) (range-long count low step) ∙ few-numbered count few)
  where
    made : Applied
    made = record { value = list_of (values_by count low step); state = q }

    turns : List Tree → Trace Place
    turns ts = over_names.framed (finish_of w.ending) w.shared w.kept (over_names.elements w.shared e0 body ts) k (place e q)

    after : Valued → Trace Place
    after y = over_names.items_then (λ ts. over_names.framed (finish_of w.ending) w.shared w.kept (over_names.elements w.shared e0 body ts) k (place e y.state)) y.tree y.state (collection_items (bindings y.state) y.tree)

-- behind the evaluation of bounds and step: the values are counted, and the first helper is called
range-behind : (known : Knows) (set : Setting) (b : Builtins) (l k : Level) (h : ℕ) → Alike known set b l k → (w : Loop) (turn : List ℕ) (before : Names) (e0 : ExpTree) → IsPattern e0 → (body : Goal) (lb : SlotNames → SlotGoals) →
    AreAmong before w.shared → AreAmong before w.kept → AreAmong w.shared w.kept → Apart w (turn_front (slot_pattern e0 [])) → Steps b (range_helper turn w) (step_helper turn w e0 lb) (TurnSame known set b w (slot_pattern e0 []) body lb) l k →
    (n : Room) (ns : SlotNames) (vs : SlotValues) → Bounds vs.trees → (e : Environment) (slots : Places) → Agrees n h ns e slots → AllThere before e → Grows (only before ns) vs.names → length (with_values w.kept (behind_range ns (range_of vs))) ≤ n.slots →
    (p : Point) (x : ValuedAll) → AtValues l (holding n (only before ns) slots) h vs.names (trees_of vs.trees) slots p x →
    SameBy (AtPlace l n h (with_values w.kept (behind_range ns (range_of vs)))) (then (runs b (counting (range_of vs)) p) (runs b (last_goals w ns (range_of vs)))) (goes_through set w e0 body e k x (function_called set k (codes "..") x.trees x.state))
unfolding then
range-behind known set b l k h alike w turn before e0 is-pattern body lb shared kept among apart steps n ns vs bounds e slots a there grows room _ _ (at_values places s x c extends) =
    go (range-is x.state ready.t ready.w ready.u)
  where
    r : SlotRange
    r = range_of vs

    R : Point → Place → Type 0
    R = AtPlace l n h (with_values w.kept (behind_range ns (range_of vs)))

    ready : RangeReady set k (range_of vs) places c.after s x
    ready = range-ready set k vs.goals vs.trees vs.names bounds (holding n (only before ns) slots) h places s x c

    longer : length ns ≤ length vs.names
    longer = omega (arith, only-long before ns, grows-length (only before ns) vs.names grows)

    fits : length vs.names + 3 ≤ n.slots
    fits = omega (arith, room, values-long w.kept (behind_range ns (range_of vs)), behind-long ns (range_of vs) longer)

    go : RangeIs x.state ready.t ready.w ready.u → SameBy (AtPlace l n h (with_values w.kept (behind_range ns (range_of vs)))) (then (runs b (counting (range_of vs)) (point l places s)) (runs b (last_goals w ns (range_of vs)))) (goes_through set w e0 body e k x (function_called set k (codes "..") x.trees x.state))
    go (refused ball each) =
        subst (λ (t : Trace Point). SameBy R (then t (runs b (last_goals w ns r))) (goes_through set w e0 body e k x (function_called set k (codes "..") x.trees x.state)))
        (sym (count-raises known set b l k alike r places c.after s x.state ready.t ready.w ready.u ball ready.comes (each count_made)))
        (subst (λ (t : Trace Applied). SameBy R (end (Raise ball)) (goes_through set w e0 body e k x t)) (sym (ready.listed ∙ ap (λ (y : Answer Tree). function_trace (answer_in x.state y)) (each list_made))) (same_end _))
    go (has_values low step count is-low is-step few fit makes) =
        subst (λ (t : Trace Point). SameBy R t (goes_through set w e0 body e k x (function_called set k (codes "..") x.trees x.state))) (sym (ap (λ (t : Trace Point). then t (runs b (last_goals w ns r))) counted.does ∙ then-of-one (point l counted.last x.state) (runs b (last_goals w ns r))))
        (subst (λ (t : Trace Place). SameBy R (runs b (last_goals w ns r) (point l counted.last x.state)) t)
        (sym (ap (goes_through set w e0 body e k x) (ready.listed ∙ ap (λ (y : Answer Tree). function_trace (answer_in x.state y)) (makes list_made)) ∙ values-gone-through set w e0 body e k x x.state low step count few))
        (entered-same known set b l k alike w before (over_names.elements w.shared e0 body (values_by count low step)) shared kept n h (behind_range ns r) e counted.last x.state agrees there room (first_turn r) (Tree.int low ∷ number_of count ∷ Tree.int step ∷ []) counted.filled
        (range-calls known set b w turn e0 is-pattern body lb among apart l k steps (next x.state) low step count fit few (narrowed w.shared e) (handed_on w (next x.state) e) (with_new_variables (length w.kept) x.state)
        (first-handed w (next x.state) e (among-there before w.shared e shared there)))))
      where
        counted : CountRuns b l (range_of vs) places c.after s x.state low step count
        counted = count-runs known set b l k alike r places c.after s x.state ready.t ready.w ready.u ready.comes ready.first ready.by (λ i past. c.agrees.empty i past) (omega (arith, fits, c.agrees.long)) low step count is-low is-step (makes count_made)

        agrees : Agrees n h (behind_range ns (range_of vs)) e counted.last
        agrees = still-agrees n h (length (with_value (with_value (with_value vs.names))) - length ns) ns e slots counted.last a (counted.long ∙ c.agrees.long)
            (λ i less. counted.still i (omega (arith, less, longer)) ∙ slot-still before n h ns vs.names e x.names slots c.after a there c.agrees (extends-then slots places c.after extends c.extends) i less)
            (λ i past. counted.empty i (omega (arith, past, longer, three-longer vs.names)) ∙ c.agrees.empty i (omega (arith, past, longer, three-longer vs.names)))

-- An iterator over a range.
pub range-same : (known : Knows) (set : Setting) (b : Builtins) (l k : Level) (h : ℕ) → Alike known set b l k → (w : Loop) (turn : List ℕ) (before : Names) (e0 : ExpTree) → IsPattern e0 → (vs : Values) (lvs : SlotNames → SlotValues) → ((ns : SlotNames) → Bounds (lvs ns).trees) → SameArguments b l k h vs lvs →
    (body : Goal) (lb : SlotNames → SlotGoals) → AreAmong before w.shared → AreAmong before w.kept → AreAmong w.shared w.kept → Apart w (turn_front (slot_pattern e0 [])) → Steps b (range_helper turn w) (step_helper turn w e0 lb) (TurnSame known set b w (slot_pattern e0 []) body lb) l k →
    SameGoals b l k h (over_names.iterating (over_names.names_around (finish_of w.ending) before w.shared w.kept) e0 (applied_to set (codes "..") vs) body) (range_goals h before w lvs)
unfolding over_names.iterating EachAnswer applied_to
range-same known set b l k h alike w turn before e0 is-pattern vs lvs bounds is body lb shared kept among apart steps = record {
  grows = λ ns. grows-then ns _ _ (started-grows known set b l k h alike before ns) (grows-then (started h before ns).names _ _ (by _) (values-grow w.kept (behind_range (started h before ns).names (range_of (lvs (only before (started h before ns).names))))));
  same = λ n ns e slots s a room. whole n ns e slots s a room;
}
  where
    -- over names, from where all that stand before the loop are there
    goes_over : Place → Trace Place
    goes_over start =
        then (then (vs k (carried before start)) (λ all. then (function_called set k (codes "..") all.trees all.state) (valued_by all)))
        (λ x. over_names.items_then (λ ts. over_names.framed (finish_of w.ending) w.shared w.kept (over_names.elements w.shared e0 body ts) k (record { names = start.names; state = x.state })) x.tree x.state (collection_items (bindings x.state) x.tree))

    counts : SlotNames → SlotRange → Point → Trace Point
    counts ns r q = then (runs b (counting r) q) (runs b (last_goals w ns r))

    behind : (n : Room) (ns : SlotNames) → length (with_values w.kept (behind_range ns (range_of (lvs (only before ns))))) ≤ n.slots → (p : Point) (q : Place) → AtPlace l n h ns p q × AllThere before q.names →
        SameBy (AtPlace l n h (with_values w.kept (behind_range ns (range_of (lvs (only before ns)))))) (then (runs b (lvs (only before ns)).goals p) (counts ns (range_of (lvs (only before ns))))) (goes_over q)
    behind n ns room _ _ (at_place e slots s a, there) =
        subst (λ (t : Trace Place). SameBy (AtPlace l n h (with_values w.kept (behind_range ns r))) (then (runs b (lvs (only before ns)).goals (point l slots s)) (counts ns r)) t)
        (sym (then-assoc (vs k (place (narrowed before e) s)) (λ all. then (function_called set k (codes "..") all.trees all.state) (valued_by all))
        (λ x. over_names.items_then (λ ts. over_names.framed (finish_of w.ending) w.shared w.kept (over_names.elements w.shared e0 body ts) k (record { names = e; state = x.state })) x.tree x.state (collection_items (bindings x.state) x.tree))))
        (same-then (AtValues l (holding n (only before ns) slots) h (lvs (only before ns)).names (trees_of (lvs (only before ns)).trees) slots) (AtPlace l n h (with_values w.kept (behind_range ns r))) _ _ (counts ns r)
        (λ x. goes_through set w e0 body e k x (function_called set k (codes "..") x.trees x.state))
        (is.same (holding n (only before ns) slots) (only before ns) (narrowed before e) slots s (only-agrees before n h ns e slots a)
        (omega (arith, room, values-long w.kept (behind_range ns r), behind-long ns r (omega (arith, only-long before ns, grows-length (only before ns) _ (is.grows (only before ns)))))))
        (range-behind known set b l k h alike w turn before e0 is-pattern body lb shared kept among apart steps n ns (lvs (only before ns)) (bounds (only before ns)) e slots a there (is.grows (only before ns)) room))
      where
        r : SlotRange
        r = range_of (lvs (only before ns))

    whole : (n : Room) (ns : SlotNames) (e : Environment) (slots : Places) (s : State) → Agrees n h ns e slots → length (range_goals h before w lvs ns).names ≤ n.slots →
        SameBy (AtPlace l n h (range_goals h before w lvs ns).names) (runs b (range_goals h before w lvs ns).goals (point l slots s)) (goes_over (with_names before (place e s)))
    whole n ns e slots s a room =
        subst (λ (t : Trace Point). SameBy R t (goes_over (with_names before (place e s)))) (sym core)
        (subst (λ (t : Trace Place). SameBy R (then (runs b start.goals (point l slots s)) (λ p. then (runs b (lvs (only before ms)).goals p) (counts ms r))) t) (then-of-one (with_names before (place e s)) goes_over)
        (same-then (λ p q. AtPlace l n h ms p q × AllThere before q.names) R _ _ (λ p. then (runs b (lvs (only before ms)).goals p) (counts ms r)) goes_over
        (same-each (AtPlace l n h ms) (λ q. AllThere before q.names) _ _ (started-same known set b l k h alike before n ns e slots s a (omega (arith, room, values-long w.kept (behind_range ms r), length-append ms (replicate (length (with_value (with_value (with_value r.names))) - length ms) unnamed))))
        (names-there before (place e s), tt)) (behind n ms room)))
      where
        start : SlotValue
        start = started h before ns

        ms : SlotNames
        ms = (started h before ns).names

        r : SlotRange
        r = range_of (lvs (only before (started h before ns).names))

        R : Point → Place → Type 0
        R = AtPlace l n h (range_goals h before w lvs ns).names

        core : runs b (range_goals h before w lvs ns).goals (point l slots s)
            ≡ then (runs b (started h before ns).goals (point l slots s)) (λ p. then (runs b (lvs (only before (started h before ns).names)).goals p) (counts (started h before ns).names (range_of (lvs (only before (started h before ns).names)))))
        core =
            runs-append b (start.goals ++ (r.goals ++ counting r)) (last_goals w ms r) (point l slots s)
            ∙ ap (λ (t : Trace Point). then t (runs b (last_goals w ms r))) (runs-append b start.goals (r.goals ++ counting r) (point l slots s))
            ∙ then-assoc (runs b start.goals (point l slots s)) (runs b (r.goals ++ counting r)) (runs b (last_goals w ms r))
            ∙ ap (then (runs b start.goals (point l slots s))) (λ i p. (ap (λ (t : Trace Point). then t (runs b (last_goals w ms r))) (runs-append b r.goals (counting r) p) ∙ then-assoc (runs b r.goals p) (runs b (counting r)) (runs b (last_goals w ms r))) i)
