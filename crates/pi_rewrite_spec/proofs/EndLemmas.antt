-- Where a loop ends: its variables are unified with what its names have at last, as it is or in order, one after the other.
use Rattle.std.proofs.Common.{◌≡◌, ℕ, suc, ◌+◌, ◌≤◌, false, true, List, [], ◌∷◌, length, refl, sym, ◌∙◌, ap, arith, reverse}
use Rattle.std.specs.Prelude.{Option, Some, None, slice_set, codes, ⊤, Bool, unwrap_or}
use Rattle.std.proofs.lemmas.List.{length-set, get_or-set_same}
use Rattle.pi_terms.specs.Tree.{Tree, no_trees, tree, tree_count, trees_of}
use Rattle.pi_terms.specs.Places.{Places, held}
use Rattle.pi_constraints.specs.State.{State, bindings}
use Rattle.pi_constraints.specs.Unify.{unified}
use Rattle.pi_constraints.specs.Evaluation.{EvaluatedAll}
use Rattle.pi_effects.specs.Effect.{succeeds_in}
use Rattle.pi_effects.specs.Items.{list_of, array_of, list_items}
use Rattle.pi_effects.specs.Inner.{in_order_name}
use Rattle.pi_core.specs.GoalTree.{GoalTree}
use Rattle.pi_traces.specs.Trace.{Trace, one, then}
use Rattle.pi_traces.proofs.TraceLemmas.{then-assoc}
use Rattle.pi_meaning.specs.Shared.Settle.{settled_from}
use Rattle.pi_meaning.specs.Shared.View.{View}
use Rattle.pi_meaning.specs.Shared.Level.{Level, Applied, calls_at, Point}
use Rattle.pi_meaning.specs.Shared.Builtin.{settled_effect}
use Rattle.pi_meaning.specs.CoreMeaning.Builtins.{Builtins, predicate_by, function_by}
use Rattle.pi_meaning.specs.Shared.Given.{Setting}
use Rattle.pi_meaning.specs.CoreMeaning.Meaning.{calling, applying, meaning}
use Rattle.pi_meaning.specs.OverNames.Environment.{Environment}
use Rattle.pi_meaning.specs.OverNames.Place.{Place}
use Rattle.pi_meaning.specs.OverNames.Texts.{Names}
use Rattle.pi_meaning.specs.OverNames.Assigning.{with_value}
use Rattle.pi_meaning.specs.OverNames.Loops as over_names
use Rattle.pi_meaning.specs.OverNames.Loops.{Finish, now}
use Rattle.pi_rewrite_spec.specs.Slots.{SlotNames, slot_for}
use Rattle.pi_rewrite_spec.specs.Forms.{Knows}
use Rattle.pi_rewrite_spec.specs.Loops.{Ending, as_it_is, in_order, ended, closing, closing_slots}
use Rattle.pi_rewrite_spec.proofs.FilledLemmas.{AllFilled, none_filled, one_filled, in_slot, all-filled-comes, Extends, extends-none, extends-then, set-keeps}
use Rattle.pi_rewrite_spec.proofs.AgreeLemmas.{set-other}
use Rattle.pi_rewrite_spec.proofs.RunLemmas.{Alike, point, place, runs, then-of-one, runs-append, runs-one, not-drained}
use Rattle.pi_rewrite_spec.proofs.ControlLemmas.{Drains}
use Rattle.pi_rewrite_spec.proofs.BuiltInLemmas.{equals-called, equals-known}
use Rattle.pi_rewrite_spec.proofs.InnerLemmas.{order-called, order-known, array-called, array-known}

-- ---- calls over slots

-- a function's value goes into a slot
pub applied-runs : (b : Builtins) (l : Level) → Drains l → (name : List ℕ) (args vs : List Tree) (into : ℕ) (slots : Places) (s : State) (x : Tree) → AllFilled slots (trees_of args) (trees_of vs) →
    function_by b l name (trees_of vs) s ≡ one (record { value = x; state = s }) → meaning b (GoalTree.apply name args into) (point l slots s) ≡ one (point l (slice_set slots into (Some x)) s)
unfolding meaning applying
applied-runs b l drains name args vs into slots s x filled is =
    not-drained (applying b name args into) (point l slots s) drains
    ∙ ap (λ (y : EvaluatedAll). then (function_by b l name y.trees y.state) (λ a. one (point l (slice_set y.slots into (Some a.value)) a.state))) (all-filled-comes slots (trees_of args) (trees_of vs) filled s)
    ∙ ap (λ (t : Trace Applied). then t (λ a. one (point l (slice_set slots into (Some a.value)) a.state))) is
    ∙ then-of-one (record { value = x; state = s }) (λ a. one (point l (slice_set slots into (Some a.value)) a.state))

-- ---- one name

settles : (v : View) (s : State) (o : Option State) → settled_effect v s (succeeds_in o) ≡ settled_from s o
settles v s None = refl
settles v s (Some r) = refl

-- the equation of what stands in two slots
equation-runs : (known : Knows) (set : Setting) (b : Builtins) (l m : Level) → Alike known set b l m → (j k : ℕ) (slots : Places) (s : State) (t u : Tree) → held slots j ≡ Some t → held slots k ≡ Some u →
    meaning b (GoalTree.call (codes "=") (Tree.var j ∷ Tree.var k ∷ [])) (point l slots s) ≡ then (settled_from s (unified s t u)) (λ r. one (point l slots r))
unfolding meaning calling tree_count
equation-runs known set b l m alike j k slots s t u first second =
    not-drained (calling b (codes "=") (Tree.var j ∷ Tree.var k ∷ [])) (point l slots s) alike.core_drains
    ∙ ap (λ (y : EvaluatedAll). then (predicate_by b l (codes "=") y.trees y.state) (λ r. one (point l y.slots r)))
    (all-filled-comes slots (tree (Tree.var j) (tree (Tree.var k) no_trees)) (tree t (tree u no_trees)) (one_filled (in_slot j t first) (one_filled (in_slot k u second) none_filled)) s)
    ∙ ap (λ (w : Trace State). then w (λ r. one (point l slots r))) (alike.predicates (codes "=") (tree t (tree u no_trees)) s refl (equals-known (known.predicate (codes "=") 2)) ∙ equals-called set m t u s ∙ settles set.view s (unified s t u))

-- what an ending makes of the last value, over names
abbrev pub finish_of : Ending → Finish
finish_of as_it_is = over_names.as_it_is
finish_of (in_order is_array) = over_names.in_order is_array

-- A variable in one slot is unified with what is made of the value in another. What is made stands in slots from `next` on, which were empty.
record EndRuns (b : Builtins) (l : Level) (o : Ending) (k j next : ℕ) (slots : Places) (s : State) (t u : Tree) : Type 0 where
  after : Places
  extends : Extends slots after
  long : length after ≡ length slots
  empty : (i : ℕ) → next + 2 ≤ i → held after i ≡ None
  does : runs b (ended o k j next) (point l slots s) ≡ then (settled_from s (unified s t (finish_of o (bindings s) u))) (λ r. one (point l after r))

end-runs : (known : Knows) (set : Setting) (b : Builtins) (l m : Level) → Alike known set b l m → (o : Ending) (k j next : ℕ) (slots : Places) (s : State) (t u : Tree) → held slots k ≡ Some t → held slots j ≡ Some u →
    ((i : ℕ) → next ≤ i → held slots i ≡ None) → next + 2 ≤ length slots → EndRuns b l o k j next slots s t u
unfolding meaning tree_count
end-runs known set b l m alike as_it_is k j next slots s t u first second empty room = record {
  after = slots;
  extends = extends-none slots;
  long = refl;
  empty = λ i past. empty i (omega (arith, past));
  does = runs-one b (GoalTree.call (codes "=") (Tree.var k ∷ Tree.var j ∷ [])) (point l slots s) ∙ equation-runs known set b l m alike k j slots s t u first second;
}
end-runs known set b l m alike (in_order is_array) k j next slots s t u first second empty room = go is_array
  where
    items : List Tree
    items = reverse (unwrap_or (list_items (bindings s) u) [])

    ordered : Places
    ordered = slice_set slots next (Some (list_of (reverse (unwrap_or (list_items (bindings s) u) []))))

    extends-ordered : Extends slots ordered
    extends-ordered = set-keeps slots next (list_of items) (empty next (omega arith))

    has : held ordered next ≡ Some (list_of items)
    has = get_or-set_same slots next (Some (list_of items)) None (omega (arith, room))

    orders : meaning b (GoalTree.apply in_order_name (Tree.var j ∷ []) next) (point l slots s) ≡ one (point l ordered s)
    orders = applied-runs b l alike.core_drains in_order_name (Tree.var j ∷ []) (u ∷ []) next slots s (list_of items) (one_filled (in_slot j u second) none_filled)
        (alike.functions in_order_name (tree u no_trees) s (order-known (known.function in_order_name 1)) ∙ order-called set m u s)

    go : (is_array : Bool) → EndRuns b l (in_order is_array) k j next slots s t u
    go false = record {
      after = ordered;
      extends = extends-ordered;
      long = length-set slots next (Some (list_of items));
      empty = λ i past. set-other slots next (Some (list_of items)) i (λ same. omega (arith, same, past)) ∙ empty i (omega (arith, past));
      does =
          ap (λ (x : Trace Point). then x (runs b (equation ∷ []))) orders ∙ then-of-one (point l ordered s) (runs b (equation ∷ [])) ∙ runs-one b equation (point l ordered s)
          ∙ equation-runs known set b l m alike k next ordered s t (list_of items) (extends-ordered k t first) has;
    }
      where
        equation : GoalTree
        equation = GoalTree.call (codes "=") (Tree.var k ∷ Tree.var next ∷ [])
    go true = record {
      after = made;
      extends = extends-then slots ordered made extends-ordered extends-made;
      long = length-set ordered (suc next) (Some (array_of items)) ∙ length-set slots next (Some (list_of items));
      empty = λ i past. set-other ordered (suc next) (Some (array_of items)) i (λ same. omega (arith, same, past)) ∙ set-other slots next (Some (list_of items)) i (λ same. omega (arith, same, past)) ∙ empty i (omega (arith, past));
      does =
          ap (λ (x : Trace Point). then x (runs b (makes ∷ equation ∷ []))) orders ∙ then-of-one (point l ordered s) (runs b (makes ∷ equation ∷ []))
          ∙ ap (λ (x : Trace Point). then x (runs b (equation ∷ []))) (applied-runs b l alike.core_drains (codes "to_array") (Tree.var next ∷ []) (list_of items ∷ []) (suc next) ordered s (array_of items)
          (one_filled (in_slot next (list_of items) has) none_filled) (alike.functions (codes "to_array") (tree (list_of items) no_trees) s (array-known (known.function (codes "to_array") 1)) ∙ array-called set m items s))
          ∙ then-of-one (point l made s) (runs b (equation ∷ [])) ∙ runs-one b equation (point l made s)
          ∙ equation-runs known set b l m alike k (suc next) made s t (array_of items) (extends-made k t (extends-ordered k t first)) (get_or-set_same ordered (suc next) (Some (array_of items)) None (omega (arith, room, length-set slots next (Some (list_of items)))));
    }
      where
        made : Places
        made = slice_set ordered (suc next) (Some (array_of items))

        extends-made : Extends ordered made
        extends-made = set-keeps ordered (suc next) (array_of items) (set-other slots next (Some (list_of items)) (suc next) (λ same. omega (arith, same)) ∙ empty (suc next) (omega arith))

        makes : GoalTree
        makes = GoalTree.apply (codes "to_array") (Tree.var next ∷ []) (suc next)

        equation : GoalTree
        equation = GoalTree.call (codes "=") (Tree.var k ∷ Tree.var (suc next) ∷ [])

-- ---- all of them

-- the variables of names stand in slots from k on, and what the names have in theirs
unfoldable pub Stand : Names → ℕ → ℕ → SlotNames → Environment → Places → Type 0
Stand [] k base ns e slots = ⊤
Stand (name ∷ names) k base ns e slots = (held slots k ≡ Some (Tree.var base)) × (held slots (slot_for name ns) ≡ Some (now name e)) × Stand names (suc k) (suc base) ns e slots

pub stand-more : (names : Names) (k base : ℕ) (ns : SlotNames) (e : Environment) (slots after : Places) → Extends slots after → Stand names k base ns e slots → Stand names k base ns e after
unfolding Stand
stand-more [] k base ns e slots after extends stand = tt
stand-more (name ∷ names) k base ns e slots after extends stand =
    (extends k (Tree.var base) stand.0, extends (slot_for name ns) (now name e) stand.1, stand-more names (suc k) (suc base) ns e slots after extends stand.2)

-- slots enough to end a loop
pub closing-room : (names : Names) (next : ℕ) → next ≤ closing_slots names next
unfolding closing_slots
closing-room [] next = omega arith
closing-room (name ∷ names) next = omega (arith, closing-room names (next + 2))

-- One after the other is unified with its last value.
pub closing-same : (known : Knows) (set : Setting) (b : Builtins) (l m : Level) → Alike known set b l m → (o : Ending) (names : Names) (k base next : ℕ) (ns : SlotNames) (e after : Environment) (slots : Places) (s : State) → Stand names k base ns e slots →
    ((i : ℕ) → next ≤ i → held slots i ≡ None) → closing_slots names next ≤ length slots →
    then (runs b (closing o names k next ns) (point l slots s)) (λ q. one q.state) ≡ then (over_names.closed (finish_of o) names base after m (place e s)) (λ q. one q.state)
unfolding closing closing_slots over_names.closed Stand meaning
closing-same known set b l m alike o [] k base next ns e after slots s stand empty room = then-of-one (point l slots s) (λ q. one q.state) ∙ sym (then-of-one (place after s) (λ q. one q.state))
closing-same known set b l m alike o (name ∷ names) k base next ns e after slots s stand empty room =
    ap (λ (t : Trace Point). then t (λ q. one q.state)) (runs-append b (ended o k (slot_for name ns) next) rest (point l slots s) ∙ ap (λ (t : Trace Point). then t (runs b rest)) one_ends.does)
    ∙ then-assoc (then ends (λ r. one (point l one_ends.after r))) (runs b rest) (λ q. one q.state)
    ∙ then-assoc ends (λ r. one (point l one_ends.after r)) (λ p. then (runs b rest p) (λ q. one q.state))
    ∙ ap (then ends) (λ i r. each (λ q. closing-same known set b l m alike o names (suc k) (suc base) (next + 2) ns e (with_value after name (Tree.var base)) one_ends.after q
    (stand-more names (suc k) (suc base) ns e slots one_ends.after one_ends.extends stand.2) one_ends.empty (omega (arith, room, one_ends.long))) r i)
    ∙ sym (then-assoc ends (λ r. over_names.closed (finish_of o) names (suc base) later m (place e r)) (λ q. one q.state))
    ∙ ap (λ (t : Trace Place). then t (λ q. one q.state)) (sym drained)
  where
    rest : List GoalTree
    rest = closing o names (suc k) (next + 2) ns

    ends : Trace State
    ends = settled_from s (unified s (Tree.var base) (finish_of o (bindings s) (now name e)))

    one_ends : EndRuns b l o k (slot_for name ns) next slots s (Tree.var base) (now name e)
    one_ends = end-runs known set b l m alike o k (slot_for name ns) next slots s (Tree.var base) (now name e) stand.0 stand.1 empty (omega (arith, room, closing-room names (next + 2)))

    later : Environment
    later = with_value after name (Tree.var base)

    each : ((r : State) → then (runs b rest (point l one_ends.after r)) (λ q. one q.state) ≡ then (over_names.closed (finish_of o) names (suc base) later m (place e r)) (λ q. one q.state)) → (r : State) →
        then (one (point l one_ends.after r)) (λ p. then (runs b rest p) (λ q. one q.state)) ≡ then (over_names.closed (finish_of o) names (suc base) later m (place e r)) (λ q. one q.state)
    each others r = then-of-one (point l one_ends.after r) (λ p. then (runs b rest p) (λ q. one q.state)) ∙ others r

    turn : State → Trace Place
    turn r = then (settled_from r (unified r (Tree.var base) (finish_of o (bindings r) (now name e)))) (λ q. over_names.closed (finish_of o) names (suc base) later m (place e q))

    drained : then ((calls_at m).drained s) turn ≡ then ends (λ q. over_names.closed (finish_of o) names (suc base) later m (place e q))
    drained = ap (λ (t : Trace State). then t turn) (alike.names_drain s) ∙ then-of-one s turn

-- Of the names behind the loop only its state was missing.
abbrev pub states_of : Trace Place → Trace State
states_of t = then t (λ q. one q.state)

unfoldable pub kept_environment : Names → ℕ → Environment → Environment
kept_environment [] base e = e
kept_environment (name ∷ names) base e = kept_environment names (suc base) (with_value e name (Tree.var base))

pub closed-places : (finish : over_names.Finish) (names : Names) (base : ℕ) (after : Environment) (m : Level) (p : Place) →
    over_names.closed finish names base after m p ≡ then (states_of (over_names.closed finish names base after m p)) (λ s. one (place (kept_environment names base after) s))
unfolding over_names.closed kept_environment
closed-places finish [] base after m p = sym (ap (λ (t : Trace State). then t (λ s. one (place after s))) (then-of-one (place after p.state) (λ q. one q.state)) ∙ then-of-one p.state (λ s. one (place after s)))
closed-places finish (name ∷ names) base after m p =
    ap (then ((calls_at m).drained p.state)) (λ i s. inside (λ r. closed-places finish names (suc base) (with_value after name (Tree.var base)) m (place p.names r)) s i) ∙ sym (outside ((calls_at m).drained p.state) turn)
  where
    last : Environment
    last = kept_environment names (suc base) (with_value after name (Tree.var base))

    rest : State → Trace Place
    rest r = over_names.closed finish names (suc base) (with_value after name (Tree.var base)) m (place p.names r)

    turn : State → Trace Place
    turn s = then (settled_from s (unified s (Tree.var base) (finish (bindings s) (now name p.names)))) rest

    outside : (t : Trace State) (f : State → Trace Place) → then (states_of (then t f)) (λ s. one (place last s)) ≡ then t (λ s. then (states_of (f s)) (λ r. one (place last r)))
    outside t f =
        ap (λ (u : Trace State). then u (λ s. one (place last s))) (then-assoc t f (λ q. one q.state)) ∙ then-assoc t (λ s. states_of (f s)) (λ s. one (place last s))

    inside : ((r : State) → rest r ≡ then (states_of (rest r)) (λ s. one (place last s))) → (s : State) → turn s ≡ then (states_of (turn s)) (λ r. one (place last r))
    inside others s =
        ap (then (settled_from s (unified s (Tree.var base) (finish (bindings s) (now name p.names))))) (λ i r. others r i)
        ∙ sym (outside (settled_from s (unified s (Tree.var base) (finish (bindings s) (now name p.names)))) rest)
