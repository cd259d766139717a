-- An array is walked by an index.
use Rattle.std.proofs.Common.{◌≡◌, ℕ, suc, ◌+◌, ◌-◌, ◌≤◌, ◌<◌, Bool, true, false, cond, List, [], ◌∷◌, ◌++◌, length, refl, ◌∙◌, ap, subst, arith, length-append, nat_lt}
use Rattle.std.specs.Prelude.{ℤ, Some, None, Ok, replicate, slice_set, slice_get, pos, int_lt, codes}
use Rattle.std.proofs.lemmas.Bool.{cond-true, cond-false}
use Rattle.std.proofs.lemmas.Bool.Decides.{Decides-ltb}
use Rattle.std.proofs.lemmas.List.{length-set, get_or-set_same}
use Rattle.pi_terms.specs.Tree.{Tree, comp, Trees, no_trees, tree, trees_of, tree_count}
use Rattle.pi_terms.specs.Places.{Places, held}
use Rattle.pi_constraints.specs.State.{State, bindings, followed}
use Rattle.pi_syntax.specs.PrintTerm.{array_name}
use Rattle.pi_effects.specs.Value.{value_of}
use Rattle.pi_effects.specs.declared.operation.Op.TheVariants.{Add}
use Rattle.pi_effects.specs.Integers.{outcome_then, number}
use Rattle.pi_effects.specs.BuiltIns.{answer_in}
use Rattle.pi_effects.specs.Items.{each_tree}
use Rattle.pi_effects.specs.Indexing.{index_name}
use Rattle.pi_core.specs.GoalTree.{GoalTree}
use Rattle.pi_traces.specs.Trace.{Trace, end, note, Deep, Tick, one, then, done}
use Rattle.pi_traces.specs.Control.{chosen}
use Rattle.pi_traces.proofs.TraceLemmas.{then-one, then-assoc}
use Rattle.pi_meaning.specs.Shared.Level.{Level, lower, Point}
use Rattle.pi_meaning.specs.Shared.Builtin.{function_trace}
use Rattle.pi_meaning.specs.CoreMeaning.Builtins.{Builtins, predicate_by}
use Rattle.pi_meaning.specs.Shared.Given.{Setting}
use Rattle.pi_meaning.specs.CoreMeaning.Meaning.{meaning, strictly, draining}
use Rattle.pi_meaning.specs.OverNames.Environment.{Environment}
use Rattle.pi_rewrite_spec.specs.Slots.{unnamed}
use Rattle.pi_rewrite_spec.specs.Forms.{Knows}
use Rattle.pi_rewrite_spec.specs.Loops.{slots_from, closing_slots, Loop, loop_slots}
use Rattle.pi_rewrite_spec.specs.Iterators.{walk_slots, handed, end_slots, array_clause, element_helper}
use Rattle.pi_rewrite_spec.proofs.FilledLemmas.{AllFilled, none_filled, one_filled, in_slot, is_int, Extends, extends-then, set-keeps, all-filled-more, all-filled-comes}
use Rattle.pi_rewrite_spec.proofs.AgreeLemmas.{set-other}
use Rattle.pi_rewrite_spec.proofs.RunLemmas.{Alike, point, place, runs, then-of-one, runs-one, not-drained, turn-runs}
use Rattle.pi_rewrite_spec.proofs.ControlLemmas.{Drains}
use Rattle.pi_rewrite_spec.proofs.EndLemmas.{applied-runs, finish_of, closing-room}
use Rattle.pi_rewrite_spec.proofs.HandedLemmas.{entered, entered-long, entered-empty}
use Rattle.pi_rewrite_spec.proofs.EnteredLemmas.{values-long}
use Rattle.pi_rewrite_spec.proofs.CarriedLemmas.{Handed}
use Rattle.pi_rewrite_laws.proofs.HelperLemmas.{state_of, HelperCalled, count-trees, called-runs, endings, AreAmong}
use Rattle.pi_rewrite_laws.proofs.WhileLemmas.{tick-runs, tick-stops}
use Rattle.pi_rewrite_laws.proofs.ElementLemmas.{walked, handed-long}
use Rattle.pi_rewrite_laws.proofs.MatchedLemmas.{slots-hold, walked-long}
use Rattle.pi_rewrite_laws.proofs.WalkCalls.{less-called, less-known, sum-called, sum-known, array-item-called}
use Rattle.pi_rewrite_laws.proofs.NumberLemmas.{less-natural, next-number}
use Rattle.pi_rewrite_laws.proofs.WalkLemmas.{array-runs}
use Rattle.pi_rewrite_laws.proofs.WalkEnds.{walk-closes}
use Rattle.pi_rewrite_spec.proofs.BuiltInLemmas.{item-known}

-- ---- calls over slots

-- a test with one answer in the state in which it began, or with none
pub tested-runs : (b : Builtins) (l : Level) → Drains l → (name : List ℕ) (args vs : List Tree) (slots : Places) (s : State) (holds : Bool) → AllFilled slots (trees_of args) (trees_of vs) → predicate_by b l name (trees_of vs) s ≡ cond holds (one s) done →
    strictly (meaning b (GoalTree.call name args)) (point l slots s) ≡ cond holds (one (point l slots s)) done
unfolding strictly then
tested-runs b l drains name args vs slots s holds filled is =
    ap (λ (t : Trace Point). then t (draining (λ q. one q))) (called-runs b l drains name args vs slots slots s s (all-filled-comes slots (trees_of args) (trees_of vs) filled s) ∙ ap (λ (t : Trace State). then t (λ q. one (point l slots q))) is)
    ∙ go holds
  where
    go : (c : Bool) → then (then (cond c (one s) done) (λ q. one (point l slots q))) (draining (λ q. one q)) ≡ cond c (one (point l slots s)) done
    go true = ap (λ (t : Trace Point). then t (draining (λ q. one q))) (then-of-one s (λ q. one (point l slots q))) ∙ then-of-one (point l slots s) (draining (λ q. one q)) ∙ not-drained (λ q. one q) (point l slots s) drains
    go false = refl

-- ---- what is walked

abbrev pub number_of : ℕ → Tree
number_of k = Tree.int (pos k)

-- the slots of the clause
abbrev array_slots : Loop → ℕ
array_slots w = closing_slots w.kept (length (end_slots walk_slots w) + 2)

abbrev spare : Loop → ℕ
spare w = array_slots w - handed w

pub item-slot : (w : Loop) → length (end_slots walk_slots w) ≡ handed w
item-slot w = values-long w.kept (replicate walk_slots unnamed ++ w.shared) ∙ omega (arith, length-append (replicate {A = List ℕ} walk_slots unnamed) w.shared)

wide : (w : Loop) → handed w + 2 ≤ array_slots w
wide w = omega (arith, closing-room w.kept (length (end_slots walk_slots w) + 2), item-slot w)

-- the test whether an item is left
left-tested : (known : Knows) (set : Setting) (b : Builtins) (l k : Level) → Alike known set b l k → (d : Tree) (i all : ℤ) (hs : List Tree) (m : ℕ) (s : State) →
    strictly (meaning b (GoalTree.call (codes "<") (Tree.var 1 ∷ Tree.var 2 ∷ []))) (point l (entered (walked d (Tree.int i) (Tree.int all) hs) m) s) ≡ cond (int_lt i all) (one (point l (entered (walked d (Tree.int i) (Tree.int all) hs) m) s)) done
unfolding tree_count
left-tested known set b l k alike d i all hs m s =
    tested-runs b l alike.core_drains (codes "<") (Tree.var 1 ∷ Tree.var 2 ∷ []) (Tree.int i ∷ Tree.int all ∷ []) (entered (walked d (Tree.int i) (Tree.int all) hs) m) s (int_lt i all) (one_filled (in_slot 1 (Tree.int i) refl) (one_filled (in_slot 2 (Tree.int all) refl) none_filled))
    (alike.predicates (codes "<") (tree (Tree.int i) (tree (Tree.int all) no_trees)) s refl (less-known (known.predicate (codes "<") 2)) ∙ less-called set k i all s)

-- by that test a turn, or the end
array-turns : (known : Knows) (set : Setting) (b : Builtins) (l inner k : Level) (w : Loop) (turn : List ℕ) → HelperCalled b l (element_helper turn w) inner → Alike known set b inner k → (base : ℕ) (e : Environment) (hs : List Tree) → Handed w base e hs → (d : Tree) (ts : Trees) (i all : ℤ) (s : State) →
    followed (bindings s) d ≡ comp array_name ts → (then_goal other : GoalTree) → (array_clause turn w).body ≡ GoalTree.if_else (GoalTree.call (codes "<") (Tree.var 1 ∷ Tree.var 2 ∷ [])) then_goal other →
    predicate_by b l w.name (trees_of (walked d (Tree.int i) (Tree.int all) hs)) s
    ≡ cond (int_lt i all) (then (meaning b then_goal (point inner (entered (walked d (Tree.int i) (Tree.int all) hs) (spare w)) s)) state_of) (then (meaning b other (point inner (entered (walked d (Tree.int i) (Tree.int all) hs) (spare w)) s)) state_of)
unfolding meaning chosen
array-turns known set b l inner k w turn called alike base e hs given d ts i all s root then_goal other is =
    called (trees_of (walked d (Tree.int i) (Tree.int all) hs)) s (count-trees (walked d (Tree.int i) (Tree.int all) hs) ∙ walked-long w base e hs given d (Tree.int i) (Tree.int all))
    ∙ array-runs b inner w turn base e hs given d (Tree.int i) (Tree.int all) ts s (spare w) root (omega (arith, wide w))
    ∙ ap (λ (g : GoalTree). then (meaning b g (point inner slots s)) state_of) is
    ∙ ap (λ (t : Trace Point). then t state_of) (not-drained (λ p. chosen (strictly (meaning b test) p) (meaning b then_goal) (meaning b other p)) (point inner slots s) alike.core_drains
    ∙ ap (λ (t : Trace Point). chosen t (meaning b then_goal) (meaning b other (point inner slots s))) (left-tested known set b inner k alike d i all hs (spare w) s))
    ∙ go (int_lt i all)
  where
    test : GoalTree
    test = GoalTree.call (codes "<") (Tree.var 1 ∷ Tree.var 2 ∷ [])

    slots : Places
    slots = entered (walked d (Tree.int i) (Tree.int all) hs) (spare w)

    go : (c : Bool) → then (chosen (cond c (one (point inner (entered (walked d (Tree.int i) (Tree.int all) hs) (spare w)) s)) done) (meaning b then_goal) (meaning b other (point inner (entered (walked d (Tree.int i) (Tree.int all) hs) (spare w)) s))) state_of
        ≡ cond c (then (meaning b then_goal (point inner (entered (walked d (Tree.int i) (Tree.int all) hs) (spare w)) s)) state_of) (then (meaning b other (point inner (entered (walked d (Tree.int i) (Tree.int all) hs) (spare w)) s)) state_of)
    go true = refl
    go false = refl

-- ---- a turn

-- the goals of a turn: its item, the next number, and the second helper
abbrev item_goals : Loop → List ℕ → List GoalTree
item_goals w turn =
    GoalTree.apply index_name (Tree.var 0 ∷ Tree.var 1 ∷ []) (length (end_slots walk_slots w)) ∷ GoalTree.apply (codes "+") (Tree.var 1 ∷ Tree.int (pos 1) ∷ []) (suc (length (end_slots walk_slots w)))
    ∷ GoalTree.call turn (Tree.var (length (end_slots walk_slots w)) ∷ Tree.var 0 ∷ Tree.var (suc (length (end_slots walk_slots w))) ∷ slots_from 2 (handed w - 2)) ∷ []

item-runs : (known : Knows) (set : Setting) (b : Builtins) (l k : Level) → Alike known set b l k → (w : Loop) (turn : List ℕ) (base : ℕ) (e : Environment) (hs : List Tree) → Handed w base e hs → (d : Tree) (ts : Trees) (j total : ℕ) (n : ℤ) (all x : Tree) (s : State) →
    followed (bindings s) d ≡ comp array_name ts → slice_get (each_tree ts) j ≡ Some x → suc j ≤ total → value_of Add (pos total) (pos 1) ≡ Ok n →
    then (runs b (item_goals w turn) (point l (entered (walked d (number_of (suc j)) all hs) (spare w)) s)) state_of ≡ predicate_by b l turn (trees_of (x ∷ walked d (number_of (suc (suc j))) all hs)) s
unfolding meaning tree_count
item-runs known set b l k alike w turn base e hs given d ts j total n all x s root item less numbered =
    ap (λ (t : Trace Point). then (then t (runs b (sum ∷ call ∷ []))) state_of)
    (applied-runs b l alike.core_drains index_name (Tree.var 0 ∷ Tree.var 1 ∷ []) (d ∷ number_of (suc j) ∷ []) into slots s x (one_filled (in_slot 0 d refl) (one_filled (in_slot 1 (number_of (suc j)) refl) none_filled))
    (alike.functions index_name (tree d (tree (number_of (suc j)) no_trees)) s (item-known (known.function index_name 2)) ∙ array-item-called set k d ts j x s root item))
    ∙ ap (λ (t : Trace Point). then t state_of) (then-of-one (point l first s) (runs b (sum ∷ call ∷ [])))
    ∙ ap (λ (t : Trace Point). then (then t (runs b (call ∷ []))) state_of)
    (applied-runs b l alike.core_drains (codes "+") (Tree.var 1 ∷ Tree.int (pos 1) ∷ []) (number_of (suc j) ∷ number_of 1 ∷ []) (suc into) first s (number_of (suc (suc j)))
    (one_filled (in_slot 1 (number_of (suc j)) (set-other slots into (Some x) 1 (λ same. omega (arith, same, at)))) (one_filled (is_int (pos 1)) none_filled))
    (alike.functions (codes "+") (tree (number_of (suc j)) (tree (number_of 1) no_trees)) s (sum-known (known.function (codes "+") 2)) ∙ sum-called set k (pos (suc j)) (pos 1) s
    ∙ ap (λ o. function_trace (answer_in s (outcome_then o number))) (next-number (suc j) total n less numbered)))
    ∙ ap (λ (t : Trace Point). then t state_of) (then-of-one (point l second s) (runs b (call ∷ [])) ∙ runs-one b call (point l second s)
    ∙ called-runs b l alike.core_drains turn args vs second second s s (all-filled-comes second (trees_of args) (trees_of vs) filled s))
    ∙ then-states (predicate_by b l turn (trees_of vs) s)
  where
    into : ℕ
    into = length (end_slots walk_slots w)

    at : length (end_slots walk_slots w) ≡ suc (suc (suc (length (loop_slots w))))
    at = item-slot w ∙ handed-long w

    slots : Places
    slots = entered (walked d (number_of (suc j)) all hs) (spare w)

    first : Places
    first = slice_set (entered (walked d (number_of (suc j)) all hs) (spare w)) (length (end_slots walk_slots w)) (Some x)

    second : Places
    second = slice_set (slice_set (entered (walked d (number_of (suc j)) all hs) (spare w)) (length (end_slots walk_slots w)) (Some x)) (suc (length (end_slots walk_slots w))) (Some (number_of (suc (suc j))))

    sum : GoalTree
    sum = GoalTree.apply (codes "+") (Tree.var 1 ∷ Tree.int (pos 1) ∷ []) (suc (length (end_slots walk_slots w)))

    args : List Tree
    args = Tree.var (length (end_slots walk_slots w)) ∷ Tree.var 0 ∷ Tree.var (suc (length (end_slots walk_slots w))) ∷ slots_from 2 (handed w - 2)

    call : GoalTree
    call = GoalTree.call turn args

    vs : List Tree
    vs = x ∷ walked d (number_of (suc (suc j))) all hs

    then-states : (t : Trace State) → then (then t (λ q. one (point l second q))) state_of ≡ t
    then-states t = then-assoc t (λ q. one (point l second q)) state_of ∙ ap (then t) (λ i q. then-of-one (point l second q) state_of i) ∙ then-one t

    long : length (entered (walked d (number_of (suc j)) all hs) (spare w)) ≡ array_slots w
    long = entered-long (walked d (number_of (suc j)) all hs) (spare w) ∙ omega (arith, wide w, walked-long w base e hs given d (number_of (suc j)) all)

    empty : (i : ℕ) → length (end_slots walk_slots w) ≤ i → held (entered (walked d (number_of (suc j)) all hs) (spare w)) i ≡ None
    empty i past = entered-empty (walked d (number_of (suc j)) all hs) (spare w) i (omega (arith, past, item-slot w, walked-long w base e hs given d (number_of (suc j)) all))

    stays : Extends (entered (walked d (number_of (suc j)) all hs) (spare w)) second
    stays = extends-then slots first second (set-keeps slots into x (empty into (omega arith)))
        (set-keeps first (suc into) (number_of (suc (suc j))) (set-other slots into (Some x) (suc into) (λ same. omega (arith, same)) ∙ empty (suc into) (omega arith)))

    filled : AllFilled second (trees_of args) (trees_of vs)
    filled =
        one_filled (in_slot into x (set-other first (suc into) (Some (number_of (suc (suc j)))) into (λ same. omega (arith, same)) ∙ get_or-set_same slots into (Some x) None (omega (arith, long, wide w, item-slot w))))
        (one_filled (in_slot 0 d (stays 0 d refl))
        (one_filled (in_slot (suc into) (number_of (suc (suc j))) (get_or-set_same first (suc into) (Some (number_of (suc (suc j)))) None (omega (arith, length-set slots into (Some x), long, wide w, item-slot w))))
        (all-filled-more slots second stays (trees_of (slots_from 2 (handed w - 2))) (trees_of (all ∷ hs))
        (subst (λ (c : ℕ). AllFilled slots (trees_of (slots_from 2 c)) (trees_of (all ∷ hs))) (omega (arith, walked-long w base e hs given d (number_of (suc j)) all)) (slots-hold (d ∷ number_of (suc j) ∷ []) (all ∷ hs) (spare w))))))

-- behind its Tick the second helper is called, with the next number
pub array-goes-on : (known : Knows) (set : Setting) (b : Builtins) (l inner below k m : Level) (w : Loop) (turn : List ℕ) → HelperCalled b l (element_helper turn w) inner → Alike known set b inner k → lower inner ≡ Some below → Alike known set b below m →
    (base : ℕ) (e : Environment) (hs : List Tree) → Handed w base e hs → (d : Tree) (ts : Trees) (j total : ℕ) (n : ℤ) (x : Tree) (s : State) → followed (bindings s) d ≡ comp array_name ts → slice_get (each_tree ts) j ≡ Some x → suc j ≤ total → value_of Add (pos total) (pos 1) ≡ Ok n →
    predicate_by b l w.name (trees_of (walked d (number_of (suc j)) (number_of (suc total)) hs)) s ≡ note Tick (predicate_by b below turn (trees_of (x ∷ walked d (number_of (suc (suc j))) (number_of (suc total)) hs)) s)
unfolding then
array-goes-on known set b l inner below k m w turn called alike is deeper base e hs given d ts j total n x s root item less numbered =
    array-turns known set b l inner k w turn called alike base e hs given d ts (pos (suc j)) (pos (suc total)) s root _ _ refl
    ∙ cond-true (int_lt (pos (suc j)) (pos (suc total))) _ _ (less-natural (suc j) (suc total) ∙ (Decides-ltb (suc j) (suc total)).1 (omega (arith, less)))
    ∙ ap (λ (t : Trace Point). then t state_of) (turn-runs b inner alike.core_drains (GoalTree.tick ∷ item_goals w turn) (entered (walked d (number_of (suc j)) (number_of (suc total)) hs) (spare w)) s
    ∙ tick-runs b inner below alike.core_drains is (item_goals w turn) (entered (walked d (number_of (suc j)) (number_of (suc total)) hs) (spare w)) s)
    ∙ ap (note Tick) (item-runs known set b below m deeper w turn base e hs given d ts j total n (number_of (suc total)) x s root item less numbered)

pub array-stops : (known : Knows) (set : Setting) (b : Builtins) (l inner k : Level) (w : Loop) (turn : List ℕ) → HelperCalled b l (element_helper turn w) inner → Alike known set b inner k → lower inner ≡ None →
    (base : ℕ) (e : Environment) (hs : List Tree) → Handed w base e hs → (d : Tree) (ts : Trees) (j total : ℕ) (s : State) → followed (bindings s) d ≡ comp array_name ts → suc j ≤ total →
    predicate_by b l w.name (trees_of (walked d (number_of (suc j)) (number_of (suc total)) hs)) s ≡ end Deep
unfolding then
array-stops known set b l inner k w turn called alike is base e hs given d ts j total s root less =
    array-turns known set b l inner k w turn called alike base e hs given d ts (pos (suc j)) (pos (suc total)) s root _ _ refl
    ∙ cond-true (int_lt (pos (suc j)) (pos (suc total))) _ _ (less-natural (suc j) (suc total) ∙ (Decides-ltb (suc j) (suc total)).1 (omega (arith, less)))
    ∙ ap (λ (t : Trace Point). then t state_of) (turn-runs b inner alike.core_drains (GoalTree.tick ∷ item_goals w turn) (entered (walked d (number_of (suc j)) (number_of (suc total)) hs) (spare w)) s
    ∙ tick-stops b inner alike.core_drains is (item_goals w turn) (entered (walked d (number_of (suc j)) (number_of (suc total)) hs) (spare w)) s)

-- The end of an array.
pub array-ends : (known : Knows) (set : Setting) (b : Builtins) (l inner k : Level) (w : Loop) (turn : List ℕ) → HelperCalled b l (element_helper turn w) inner → Alike known set b inner k → AreAmong w.shared w.kept →
    (base : ℕ) (e : Environment) (hs : List Tree) → Handed w base e hs → (d : Tree) (ts : Trees) (total : ℕ) (s : State) → followed (bindings s) d ≡ comp array_name ts →
    predicate_by b l w.name (trees_of (walked d (number_of (suc total)) (number_of (suc total)) hs)) s ≡ endings (finish_of w.ending) w.kept base (place e s)
array-ends known set b l inner k w turn called alike among base e hs given d ts total s root =
    array-turns known set b l inner k w turn called alike base e hs given d ts (pos (suc total)) (pos (suc total)) s root _ _ refl
    ∙ cond-false (int_lt (pos (suc total)) (pos (suc total))) _ _ (less-natural (suc total) (suc total) ∙ ltb-irrefl (suc total))
    ∙ walk-closes known set b inner k alike w among base e hs given 3 (d ∷ number_of (suc total) ∷ number_of (suc total) ∷ []) refl (spare w) (length (end_slots walk_slots w) + 2) s
    (omega (arith, item-slot w, handed-long w, given.count)) (omega (arith, wide w, handed-long w, given.count))
  where
    ltb-irrefl : (a : ℕ) → nat_lt a a ≡ false
    ltb-irrefl a = go (nat_lt a a) refl
      where
        go : (c : Bool) → nat_lt a a ≡ c → c ≡ false
        go false is = refl
        go true is = let less : a < a = (Decides-ltb a a).0 is in absurd (omega (arith, less))
