-- Where a range starts that isn't built: its bounds are evaluated from the left, its values are counted, and the numbers that its first turn needs stand in slots.
use Rattle.std.proofs.Common.{◌≡◌, ℕ, suc, ◌+◌, ◌≤◌, ◌<◌, List, [], ◌∷◌, ◌++◌, length, refl, sym, ◌∙◌, ap, subst, arith}
use Rattle.std.specs.Prelude.{ℤ, Some, None, Ok, Err, slice_set, pos, codes}
use Rattle.std.proofs.lemmas.List.{length-set, get_or-set_same}
use Rattle.pi_terms.specs.Tree.{Tree, comp, Trees, no_trees, tree, trees_of, tree_count}
use Rattle.pi_terms.specs.Places.{Places, held}
use Rattle.pi_constraints.specs.State.{State, bindings, followed}
use Rattle.pi_constraints.specs.Evaluation.{Evaluated, EvaluatedAll, evaluated, evaluated_all}
use Rattle.pi_constraints.proofs.FollowLemmas.{followed_other}
use Rattle.pi_effects.specs.Answer.{Answer}
use Rattle.pi_effects.specs.Inner.{range_count_name}
use Rattle.pi_effects.specs.BuiltIns.{answer_in}
use Rattle.pi_core.specs.GoalTree.{GoalTree}
use Rattle.pi_traces.specs.Trace.{Trace, end, Raise, one, then}
use Rattle.pi_meaning.specs.Shared.Level.{Level, Applied, Point}
use Rattle.pi_meaning.specs.Shared.Builtin.{function_trace}
use Rattle.pi_meaning.specs.CoreMeaning.Builtins.{Builtins}
use Rattle.pi_meaning.specs.Shared.Given.{Setting}
use Rattle.pi_meaning.specs.Shared.Calls.{function_called}
use Rattle.pi_meaning.specs.CoreMeaning.Meaning.{meaning}
use Rattle.pi_meaning.specs.OverNames.Environment.{ValuedAll}
use Rattle.pi_rewrite_spec.specs.Slots.{SlotNames}
use Rattle.pi_rewrite_spec.specs.Forms.{Knows}
use Rattle.pi_rewrite_spec.specs.Ranges.{SlotRange, range_of, number_goals, number_tree, counting, first_turn}
use Rattle.pi_rewrite_spec.proofs.FilledLemmas.{Filled, in_slot, is_int, AllFilled, none_filled, one_filled, Extends, extends-none, extends-then, set-keeps, filled-more, terms_at}
use Rattle.pi_rewrite_spec.proofs.AgreeLemmas.{Room, set-other}
use Rattle.pi_rewrite_spec.proofs.TermLemmas.{ComesAll}
use Rattle.pi_rewrite_spec.proofs.RunLemmas.{Alike, point, runs, then-of-one, runs-append, runs-one}
use Rattle.pi_rewrite_spec.proofs.EndLemmas.{applied-runs}
use Rattle.pi_rewrite_laws.proofs.EnterLemmas.{AreFilled}
use Rattle.pi_rewrite_laws.proofs.WalkArrays.{number_of}
use Rattle.pi_rewrite_laws.proofs.IteratorLemmas.{applied-comes}
use Rattle.pi_rewrite_laws.proofs.RangeCalls.{ranged, list_made, count_made, pair_of, two-called, three-called, count-called, count-known, number-called, number-known}

-- ---- a number that a term is

record NumberRuns (b : Builtins) (l : Level) (t : Tree) (k : ℕ) (slots : Places) (s : State) (n : ℤ) : Type 0 where
  after : Places
  extends : Extends slots after
  long : length after ≡ length slots
  far : (i : ℕ) → (i ≡ k → ⊥) → held after i ≡ held slots i
  does : runs b (number_goals t k) (point l slots s) ≡ one (point l after s)
  filled : Filled after (number_tree t k) (Tree.int n)

no-int : (i : ℤ) (k : ℕ) → Tree.int i ≡ Tree.var k → ⊥
no-int i k e = absurd cc

filled-int : (f : Places) (i : ℤ) (u : Tree) → Filled f (Tree.int i) u → u ≡ Tree.int i
filled-int f _ _ (is_int i) = refl

-- one that isn't written stands in a slot
record LeastRuns (b : Builtins) (l : Level) (t : Tree) (k : ℕ) (slots : Places) (s : State) (n : ℤ) : Type 0 where
  runs_to : runs b (GoalTree.apply (codes "min") (t ∷ t ∷ []) k ∷ []) (point l slots s) ≡ one (point l (slice_set slots k (Some (Tree.int n))) s)
  has : held (slice_set slots k (Some (Tree.int n))) k ≡ Some (Tree.int n)
  extends : Extends slots (slice_set slots k (Some (Tree.int n)))

least-runs : (known : Knows) (set : Setting) (b : Builtins) (l m : Level) → Alike known set b l m → (t u : Tree) (k : ℕ) (slots : Places) (s : State) (n : ℤ) → Filled slots t u → followed (bindings s) u ≡ Tree.int n → held slots k ≡ None → k < length slots → LeastRuns b l t k slots s n
unfolding tree_count
least-runs known set b l m alike t u k slots s n filled is empty room = record {
  runs_to = runs-one b (GoalTree.apply (codes "min") (t ∷ t ∷ []) k) (point l slots s) ∙ applied-runs b l alike.core_drains (codes "min") (t ∷ t ∷ []) (u ∷ u ∷ []) k slots s (Tree.int n) (one_filled filled (one_filled filled none_filled))
      (alike.functions (codes "min") (tree u (tree u no_trees)) s (number-known (known.function (codes "min") 2)) ∙ number-called set m u n s is);
  has = get_or-set_same slots k (Some (Tree.int n)) None room;
  extends = set-keeps slots k (Tree.int n) empty;
}

number-runs : (known : Knows) (set : Setting) (b : Builtins) (l m : Level) → Alike known set b l m → (t u : Tree) (k : ℕ) (slots : Places) (s : State) (n : ℤ) → Filled slots t u → followed (bindings s) u ≡ Tree.int n → held slots k ≡ None → k < length slots → NumberRuns b l t k slots s n
unfolding meaning
number-runs known set b l m alike (Tree.int i) u k slots s n filled is empty room = record {
  after = slots;
  extends = extends-none slots;
  long = refl;
  far = λ j apart. refl;
  does = refl;
  filled = subst (λ (t : Tree). Filled slots (Tree.int i) t) (sym (followed_other (bindings s) (Tree.int i) (no-int i)) ∙ ap (followed (bindings s)) (sym (filled-int slots i u filled)) ∙ is) (is_int i);
}
number-runs known set b l m alike (Tree.var j) u k slots s n filled is empty room =
    let r : LeastRuns b l (Tree.var j) k slots s n = least-runs known set b l m alike (Tree.var j) u k slots s n filled is empty room in
    record { after = slice_set slots k (Some (Tree.int n)); extends = r.extends; long = length-set slots k (Some (Tree.int n)); far = λ i apart. set-other slots k (Some (Tree.int n)) i apart; does = r.runs_to; filled = in_slot k (Tree.int n) r.has }
number-runs known set b l m alike (Tree.atom name) u k slots s n filled is empty room =
    let r : LeastRuns b l (Tree.atom name) k slots s n = least-runs known set b l m alike (Tree.atom name) u k slots s n filled is empty room in
    record { after = slice_set slots k (Some (Tree.int n)); extends = r.extends; long = length-set slots k (Some (Tree.int n)); far = λ i apart. set-other slots k (Some (Tree.int n)) i apart; does = r.runs_to; filled = in_slot k (Tree.int n) r.has }
number-runs known set b l m alike (comp name ts) u k slots s n filled is empty room =
    let r : LeastRuns b l (comp name ts) k slots s n = least-runs known set b l m alike (comp name ts) u k slots s n filled is empty room in
    record { after = slice_set slots k (Some (Tree.int n)); extends = r.extends; long = length-set slots k (Some (Tree.int n)); far = λ i apart. set-other slots k (Some (Tree.int n)) i apart; does = r.runs_to; filled = in_slot k (Tree.int n) r.has }

-- ---- bounds and step

-- bounds, and a step where one is written
pub data Bounds : List Tree → Type 0 where
  two_bounds : (low high : Tree) → Bounds (low ∷ high ∷ [])
  with_step : (low step high : Tree) → Bounds (low ∷ step ∷ high ∷ [])

-- as the call that counts evaluates them
pub record RangeReady (set : Setting) (m : Level) (r : SlotRange) (slots after : Places) (s : State) (x : ValuedAll) : Type 0 where
  pub t : Tree
  pub w : Tree
  pub u : Tree
  pub listed : function_called set m (codes "..") x.trees x.state ≡ function_trace (answer_in x.state (ranged list_made x.state t w u))
  pub comes : evaluated_all (trees_of (r.low ∷ pair_of r.step r.high ∷ [])) slots s ≡ terms_at (trees_of (t ∷ pair_of w u ∷ [])) after x.state
  pub first : Filled after r.low t
  pub by : Filled after r.step w

-- the trees of the bounds in front of those of an array
abbrev paired : Trees → Trees
paired (tree a (tree c no_trees)) = tree a (tree (pair_of (Tree.int (pos 1)) c) no_trees)
paired (tree a (tree b (tree c no_trees))) = tree a (tree (pair_of b c) no_trees)
paired ts = ts

abbrev regrouped : EvaluatedAll → EvaluatedAll
regrouped all = record { trees = paired all.trees; slots = all.slots; state = all.state }

first-filled : (f : Places) (t u : Tree) (ts us : Trees) → AllFilled f (tree t ts) (tree u us) → Filled f t u
first-filled f _ _ _ _ (one_filled a b) = a

rest-filled : (f : Places) (t u : Tree) (ts us : Trees) → AllFilled f (tree t ts) (tree u us) → AllFilled f ts us
rest-filled f _ _ _ _ (one_filled a b) = b

pub range-ready : (set : Setting) (m : Level) (goals : List GoalTree) (ts : List Tree) (ns : SlotNames) → Bounds ts → (n : Room) (h : ℕ) (slots : Places) (s : State) (x : ValuedAll) (c : ComesAll n h ns (trees_of ts) slots s x) →
    RangeReady set m (range_of (record { goals = goals; trees = ts; names = ns })) slots c.after s x
unfolding evaluated
range-ready set m goals _ ns (two_bounds low high) n h slots s x c = record {
  t = first.tree;
  w = Tree.int (pos 1);
  u = second.tree;
  listed = ap (λ (ts : Trees). function_called set m (codes "..") ts x.state) (sym shape) ∙ two-called set m first.tree second.tree x.state;
  comes = ap regrouped (c.comes ∙ ap (λ (ts : Trees). terms_at ts c.after x.state) (sym shape));
  first = first-filled c.after low first.tree _ _ filled;
  by = is_int (pos 1);
}
  where
    first : Evaluated
    first = evaluated low slots s

    second : Evaluated
    second = evaluated high first.slots first.state

    shape : tree first.tree (tree second.tree no_trees) ≡ x.trees
    shape = ap (λ (all : EvaluatedAll). all.trees) c.comes

    filled : AllFilled c.after (tree low (tree high no_trees)) (tree first.tree (tree second.tree no_trees))
    filled = subst (λ (us : Trees). AllFilled c.after (tree low (tree high no_trees)) us) (sym shape) c.filled
range-ready set m goals _ ns (with_step low step high) n h slots s x c = record {
  t = first.tree;
  w = second.tree;
  u = third.tree;
  listed = ap (λ (ts : Trees). function_called set m (codes "..") ts x.state) (sym shape) ∙ three-called set m first.tree second.tree third.tree x.state;
  comes = ap regrouped (c.comes ∙ ap (λ (ts : Trees). terms_at ts c.after x.state) (sym shape));
  first = first-filled c.after low first.tree _ _ filled;
  by = first-filled c.after step second.tree _ _ (rest-filled c.after low first.tree _ _ filled);
}
  where
    first : Evaluated
    first = evaluated low slots s

    second : Evaluated
    second = evaluated step first.slots first.state

    third : Evaluated
    third = evaluated high second.slots second.state

    shape : tree first.tree (tree second.tree (tree third.tree no_trees)) ≡ x.trees
    shape = ap (λ (all : EvaluatedAll). all.trees) c.comes

    filled : AllFilled c.after (tree low (tree step (tree high no_trees))) (tree first.tree (tree second.tree (tree third.tree no_trees)))
    filled = subst (λ (us : Trees). AllFilled c.after (tree low (tree step (tree high no_trees))) us) (sym shape) c.filled

-- ---- the values are counted

-- the slots where the first turn is called
pub record CountRuns (b : Builtins) (l : Level) (r : SlotRange) (slots after : Places) (s q : State) (low step : ℤ) (count : ℕ) : Type 0 where
  pub last : Places
  pub extends : Extends after last
  pub long : length last ≡ length after
  pub still : (i : ℕ) → i < length r.names → held last i ≡ held after i
  pub empty : (i : ℕ) → length r.names + 3 ≤ i → held last i ≡ held after i
  pub does : runs b (counting r) (point l slots s) ≡ one (point l last q)
  pub filled : AreFilled last (first_turn r) (Tree.int low ∷ number_of count ∷ Tree.int step ∷ [])

pub count-runs : (known : Knows) (set : Setting) (b : Builtins) (l m : Level) → Alike known set b l m → (r : SlotRange) (slots after : Places) (s q : State) (t w u : Tree) → evaluated_all (trees_of (r.low ∷ pair_of r.step r.high ∷ [])) slots s ≡ terms_at (trees_of (t ∷ pair_of w u ∷ [])) after q →
    Filled after r.low t → Filled after r.step w → ((i : ℕ) → length r.names ≤ i → held after i ≡ None) → length r.names + 3 ≤ length after → (low step : ℤ) (count : ℕ) → followed (bindings q) t ≡ Tree.int low → followed (bindings q) w ≡ Tree.int step →
    ranged count_made q t w u ≡ Ok (number_of count) → CountRuns b l r slots after s q low step count
unfolding meaning tree_count AreFilled
count-runs known set b l m alike r slots after s q t w u comes first stepped empty room low step count is-low is-step counts = record {
  last = two.after;
  extends = extends-then after counted two.after extends-counted (extends-then counted one_number.after two.after one_number.extends two.extends);
  long = two.long ∙ one_number.long ∙ length-set after k (Some (number_of count));
  still = λ i less. two.far i (λ same. omega (arith, same, less)) ∙ one_number.far i (λ same. omega (arith, same, less)) ∙ set-other after k (Some (number_of count)) i (λ same. omega (arith, same, less));
  empty = λ i past. two.far i (λ same. omega (arith, same, past)) ∙ one_number.far i (λ same. omega (arith, same, past)) ∙ set-other after k (Some (number_of count)) i (λ same. omega (arith, same, past));
  does =
      ap (λ (x : Trace Point). then x (runs b (number_goals r.low (suc k) ++ number_goals r.step (suc (suc k))))) count-does ∙ then-of-one (point l counted q) (runs b (number_goals r.low (suc k) ++ number_goals r.step (suc (suc k))))
      ∙ runs-append b (number_goals r.low (suc k)) (number_goals r.step (suc (suc k))) (point l counted q) ∙ ap (λ (x : Trace Point). then x (runs b (number_goals r.step (suc (suc k))))) one_number.does
      ∙ then-of-one (point l one_number.after q) (runs b (number_goals r.step (suc (suc k)))) ∙ two.does;
  filled = (
    filled-more one_number.after two.after two.extends (number_tree r.low (suc k)) (Tree.int low) one_number.filled,
    (in_slot k (number_of count) (two.extends k (number_of count) (one_number.extends k (number_of count) has-count)), (two.filled, tt)),
  );
}
  where
    k : ℕ
    k = length r.names

    counted : Places
    counted = slice_set after (length r.names) (Some (number_of count))

    extends-counted : Extends after counted
    extends-counted = set-keeps after (length r.names) (number_of count) (empty (length r.names) (omega arith))

    has-count : held counted (length r.names) ≡ Some (number_of count)
    has-count = get_or-set_same after (length r.names) (Some (number_of count)) None (omega (arith, room))

    count-does : meaning b (GoalTree.apply range_count_name (r.low ∷ pair_of r.step r.high ∷ []) (length r.names)) (point l slots s) ≡ one (point l counted q)
    count-does =
        applied-comes b l alike.core_drains range_count_name (r.low ∷ pair_of r.step r.high ∷ []) (t ∷ pair_of w u ∷ []) (length r.names) slots after s q _ comes
        (alike.functions range_count_name (tree t (tree (pair_of w u) no_trees)) q (count-known (known.function range_count_name 2)) ∙ count-called set m t w u q ∙ ap (λ (a : Answer Tree). function_trace (answer_in q a)) counts)
        ∙ then-of-one {A = Applied} (record { value = number_of count; state = q }) (λ a. one (point l (slice_set after (length r.names) (Some a.value)) a.state))

    one_number : NumberRuns b l r.low (suc (length r.names)) counted q low
    one_number = number-runs known set b l m alike r.low t (suc (length r.names)) counted q low (filled-more after counted extends-counted r.low t first) is-low
        (set-other after (length r.names) (Some (number_of count)) (suc (length r.names)) (λ same. omega (arith, same)) ∙ empty (suc (length r.names)) (omega arith)) (omega (arith, room, length-set after (length r.names) (Some (number_of count))))

    two : NumberRuns b l r.step (suc (suc (length r.names))) one_number.after q step
    two = number-runs known set b l m alike r.step w (suc (suc (length r.names))) one_number.after q step (filled-more counted one_number.after one_number.extends r.step w (filled-more after counted extends-counted r.step w stepped)) is-step
        (one_number.far (suc (suc (length r.names))) (λ same. omega (arith, same)) ∙ set-other after (length r.names) (Some (number_of count)) (suc (suc (length r.names))) (λ same. omega (arith, same)) ∙ empty (suc (suc (length r.names))) (omega arith))
        (omega (arith, room, one_number.long, length-set after (length r.names) (Some (number_of count))))

-- where something is raised
pub count-raises : (known : Knows) (set : Setting) (b : Builtins) (l m : Level) → Alike known set b l m → (r : SlotRange) (slots after : Places) (s q : State) (t w u ball : Tree) → evaluated_all (trees_of (r.low ∷ pair_of r.step r.high ∷ [])) slots s ≡ terms_at (trees_of (t ∷ pair_of w u ∷ [])) after q →
    ranged count_made q t w u ≡ Err ball → runs b (counting r) (point l slots s) ≡ end (Raise ball)
unfolding meaning tree_count then
count-raises known set b l m alike r slots after s q t w u ball comes raises =
    ap (λ (x : Trace Point). then x (runs b (number_goals r.low (suc (length r.names)) ++ number_goals r.step (suc (suc (length r.names))))))
    (applied-comes b l alike.core_drains range_count_name (r.low ∷ pair_of r.step r.high ∷ []) (t ∷ pair_of w u ∷ []) (length r.names) slots after s q _ comes
    (alike.functions range_count_name (tree t (tree (pair_of w u) no_trees)) q (count-known (known.function range_count_name 2)) ∙ count-called set m t w u q ∙ ap (λ (a : Answer Tree). function_trace (answer_in q a)) raises))
