-- An iterator's helpers do over slots what its elements do over names: a collection is walked in place, in the state of each turn, and meets the items that it had when the loop started.
use Rattle.std.proofs.Common.{◌≡◌, ℕ, zero, suc, ◌≤◌, Bool, true, false, cond, List, [], ◌∷◌, length, refl, sym, ◌∙◌, ap, subst, arith}
use Rattle.std.specs.Prelude.{ℤ, Option, Some, None, option_and_then, option_map, Ok, drop, slice_get, pos}
use Rattle.std.specs.Option.{option_or}
use Rattle.std.specs.Str.{bytes_eq}
use Rattle.std.proofs.lemmas.Slice.Eq.{bytes_eq-Decides}
use Rattle.pi_terms.specs.Tree.{Tree, comp, Trees, no_trees, tree, trees_of}
use Rattle.pi_terms.specs.ListNames.{nil, cell_name}
use Rattle.pi_constraints.specs.Value.{Bindings}
use Rattle.pi_constraints.specs.State.{State, bindings, followed}
use Rattle.pi_syntax.specs.PrintTerm.{array_name}
use Rattle.pi_effects.specs.Value.{value_of}
use Rattle.pi_effects.specs.declared.operation.Op.TheVariants.{Add}
use Rattle.pi_effects.specs.Items.{each_tree, in_front_of, items_of_root, items_for}
use Rattle.pi_syntax.specs.ExpTree.{ExpTree}
use Rattle.pi_core.specs.CoreTree.{PredTree}
use Rattle.pi_traces.specs.Trace.{Trace, end, note, Deep, Tick, one, then}
use Rattle.pi_meaning.specs.Shared.Level.{Level, lowest, over, Calls, lower, ticked}
use Rattle.pi_meaning.specs.CoreMeaning.Builtins.{Builtins, predicate_by}
use Rattle.pi_meaning.specs.Shared.Given.{Setting}
use Rattle.pi_meaning.specs.OverNames.Environment.{Environment}
use Rattle.pi_meaning.specs.OverNames.Place.{Place}
use Rattle.pi_meaning.specs.OverNames.Control.{Goal}
use Rattle.pi_meaning.specs.OverNames.Loops.{element, elements}
use Rattle.pi_rewrite_spec.specs.Slots.{SlotNames}
use Rattle.pi_rewrite_spec.specs.Values.{slot_pattern}
use Rattle.pi_rewrite_spec.specs.Forms.{Knows, IsPattern}
use Rattle.pi_rewrite_spec.specs.Goals.{SlotGoals}
use Rattle.pi_rewrite_spec.specs.Loops.{Loop}
use Rattle.pi_rewrite_spec.specs.Iterators.{turn_helper, element_helper}
use Rattle.pi_rewrite_spec.proofs.RunLemmas.{place, then-of-one, names-not-drained}
use Rattle.pi_rewrite_spec.proofs.EndLemmas.{finish_of}
use Rattle.pi_rewrite_spec.proofs.CarriedLemmas.{Handed, Apart}
use Rattle.pi_rewrite_laws.proofs.HelperLemmas.{HelperCalled, endings, AreAmong}
use Rattle.pi_rewrite_laws.specs.Roots.{RootsStay}
use Rattle.pi_rewrite_laws.proofs.ElementLemmas.{turn_front, TurnSame, walked}
use Rattle.pi_rewrite_laws.proofs.MatchedLemmas.{element-called}
use Rattle.pi_rewrite_laws.proofs.WalkLemmas.{cell-goes-on, cell-stops}
use Rattle.pi_rewrite_laws.proofs.WalkEnds.{nil-ends}
use Rattle.pi_rewrite_laws.proofs.WalkArrays.{number_of, array-goes-on, array-stops, array-ends}

-- ---- lists

-- what stands at the root of a list
data ListRoot (b : Bindings) (t : Tree) : List Tree → Type 0 where
  at_end : followed b t ≡ Tree.atom nil → ListRoot b t []
  at_cell : (x r : Tree) (k : ℕ) (ts : List Tree) → followed b t ≡ comp cell_name (tree x (tree r no_trees)) → items_for k b r ≡ Some ts → ListRoot b t (x ∷ ts)

text-is : (a c : List ℕ) → bytes_eq a c ≡ true → a ≡ c
text-is a c is = (bytes_eq-Decides a c).0 is

abbrev items : Option (List Tree) → List Tree
items None = []
items (Some ts) = ts

list-root : (k : ℕ) (b : Bindings) (t : Tree) (ts : List Tree) → items_for k b t ≡ Some ts → ListRoot b t ts
unfolding items_for
list-root zero b t ts is = absurd (cc is)
list-root (suc k) b t ts is = go (followed b t) refl is
  where
    atom-root : (name : List ℕ) (c : Bool) → bytes_eq name nil ≡ c → followed b t ≡ Tree.atom name → option_or (cond c (Some []) None) None ≡ Some ts → ListRoot b t ts
    atom-root name true same root found = subst (λ (us : List Tree). ListRoot b t us) (ap items found) (at_end (root ∙ ap Tree.atom (text-is name nil same)))
    atom-root name false other root found = absurd (cc found)

    rest-root : (name : List ℕ) (x r : Tree) → followed b t ≡ comp name (tree x (tree r no_trees)) → bytes_eq name cell_name ≡ true → (o : Option (List Tree)) → items_for k b r ≡ o → option_map (λ us. x ∷ us) o ≡ Some ts → ListRoot b t ts
    rest-root name x r root same None at found = absurd (cc found)
    rest-root name x r root same (Some us) at found =
        subst (λ (vs : List Tree). ListRoot b t vs) (ap items found) (at_cell x r k us (root ∙ ap (λ (f : List ℕ). comp f (tree x (tree r no_trees))) (text-is name cell_name same)) at)

    cell-root : (name : List ℕ) (x r : Tree) (c : Bool) → bytes_eq name cell_name ≡ c → followed b t ≡ comp name (tree x (tree r no_trees)) → option_and_then (in_front_of (items_for k b)) (cond c (Some (x, r)) None) ≡ Some ts → ListRoot b t ts
    cell-root name x r true same root found = rest-root name x r root same (items_for k b r) refl found
    cell-root name x r false other root found = absurd (cc found)

    go : (u : Tree) → followed b t ≡ u → items_of_root (items_for k b) u ≡ Some ts → ListRoot b t ts
    go (Tree.var n) root found = absurd (cc found)
    go (Tree.int n) root found = absurd (cc found)
    go (Tree.atom name) root found = atom-root name (bytes_eq name nil) refl root found
    go (comp name no_trees) root found = absurd (cc found)
    go (comp name (tree x no_trees)) root found = absurd (cc found)
    go (comp name (tree x (tree r no_trees))) root found = cell-root name x r (bytes_eq name cell_name) refl root found
    go (comp name (tree x (tree r (tree y us)))) root found = absurd (cc found)

-- items that a list has it has later too
items-later : (s r : State) → RootsStay s r → (k : ℕ) (t : Tree) (ts : List Tree) → items_for k (bindings s) t ≡ Some ts → items_for k (bindings r) t ≡ Some ts
unfolding items_for
items-later s r stays zero t ts is = absurd (cc is)
items-later s r stays (suc k) t ts is = go (λ u us at. items-later s r stays k u us at) (followed (bindings s) t) refl is
  where
    cell : ((u : Tree) (us : List Tree) → items_for k (bindings s) u ≡ Some us → items_for k (bindings r) u ≡ Some us) → (x u : Tree) (o : Option (List Tree)) → items_for k (bindings s) u ≡ o → option_map (λ us. x ∷ us) o ≡ Some ts → option_map (λ us. x ∷ us) (items_for k (bindings r) u) ≡ Some ts
    cell later x u None at found = absurd (cc found)
    cell later x u (Some us) at found = ap (option_map (λ vs. x ∷ vs)) (later u us at) ∙ found

    two : ((u : Tree) (us : List Tree) → items_for k (bindings s) u ≡ Some us → items_for k (bindings r) u ≡ Some us) → (x u : Tree) (c : Bool) → option_and_then (in_front_of (items_for k (bindings s))) (cond c (Some (x, u)) None) ≡ Some ts →
        option_and_then (in_front_of (items_for k (bindings r))) (cond c (Some (x, u)) None) ≡ Some ts
    two later x u true found = cell later x u (items_for k (bindings s) u) refl found
    two later x u false found = absurd (cc found)

    go : ((u : Tree) (us : List Tree) → items_for k (bindings s) u ≡ Some us → items_for k (bindings r) u ≡ Some us) → (u : Tree) → followed (bindings s) t ≡ u → items_of_root (items_for k (bindings s)) u ≡ Some ts → items_of_root (items_for k (bindings r)) (followed (bindings r) t) ≡ Some ts
    go later (Tree.var n) root found = absurd (cc found)
    go later (Tree.int n) root found = absurd (cc found)
    go later (Tree.atom name) root found = ap (items_of_root (items_for k (bindings r))) (stays.atoms t name root) ∙ found
    go later (comp name no_trees) root found = absurd (cc found)
    go later (comp name (tree x no_trees)) root found = absurd (cc found)
    go later (comp name (tree x (tree u no_trees))) root found = ap (items_of_root (items_for k (bindings r))) (stays.compounds t name (tree x (tree u no_trees)) root) ∙ two later x u (bytes_eq name cell_name) found
    go later (comp name (tree x (tree u (tree y us)))) root found = absurd (cc found)

-- ---- what is ahead

-- what is left of a list, or an array with the number of its next item, and the items that are left
pub data Ahead (s : State) : Tree → Tree → Tree → List Tree → Type 0 where
  list_ahead : (t i all : Tree) (k : ℕ) (ts : List Tree) → items_for k (bindings s) t ≡ Some ts → Ahead s t i all ts
  array_ahead : (d : Tree) (us : Trees) (j : ℕ) (n : ℤ) (ts : List Tree) → followed (bindings s) d ≡ comp array_name us → j ≤ length (each_tree us) → value_of Add (pos (length (each_tree us))) (pos 1) ≡ Ok n → drop j (each_tree us) ≡ ts →
      Ahead s d (number_of (suc j)) (number_of (suc (length (each_tree us)))) ts

pub ahead-later : (s r : State) → RootsStay s r → (t i all : Tree) (ts : List Tree) → Ahead s t i all ts → Ahead r t i all ts
ahead-later s r stays _ _ _ _ (list_ahead t i all k ts is) = list_ahead t i all k ts (items-later s r stays k t ts is)
ahead-later s r stays _ _ _ _ (array_ahead d us j n ts root few numbered left) = array_ahead d us j n ts (stays.compounds d array_name us root) few numbered left

-- the items from a place on
drop-some : (xs : List Tree) (j : ℕ) (x : Tree) (ts : List Tree) → drop j xs ≡ x ∷ ts → (slice_get xs j ≡ Some x) × (suc j ≤ length xs) × (drop (suc j) xs ≡ ts)
drop-some [] zero x ts is = absurd (cc is)
drop-some [] (suc j) x ts is = absurd (cc is)
drop-some (y ∷ xs) zero x ts is = (ap first is, omega arith, ap rest is)
  where
    first : List Tree → Option Tree
    first [] = None
    first (z ∷ zs) = Some z

    rest : List Tree → List Tree
    rest [] = []
    rest (z ∷ zs) = zs
drop-some (y ∷ xs) (suc j) x ts is = let r : (slice_get xs j ≡ Some x) × (suc j ≤ length xs) × (drop (suc j) xs ≡ ts) = drop-some xs j x ts is in (r.0, omega (arith, r.1), r.2)

drop-none : (xs : List Tree) (j : ℕ) → j ≤ length xs → drop j xs ≡ [] → j ≡ length xs
drop-none [] zero few is = refl
drop-none [] (suc j) few is = absurd (omega (arith, few))
drop-none (y ∷ xs) zero few is = absurd (cc is)
drop-none (y ∷ xs) (suc j) few is = ap suc (drop-none xs j (omega (arith, few)) is)

-- ---- levels

-- the levels of a walk, from a call of its first helper on: it runs inside the call, and behind its Tick the second helper is called, inside of which the turn stands and the first one is called again
pub data Walks (b : Builtins) (h t : PredTree) (At : Level → Level → Type 0) : Level → Level → Type 0 where
  last_walk : (l inner : Level) (c : Calls) → HelperCalled b l h inner → lower inner ≡ None → At inner (lowest c) → Walks b h t At l (lowest c)
  next_walk : (l inner below inside : Level) (c : Calls) (k : Level) → HelperCalled b l h inner → lower inner ≡ Some below → At inner (over c k) → At below k → HelperCalled b below t inside → At inside k → Walks b h t At inside k → Walks b h t At l (over c k)

-- ---- turns

-- an element that is passed on to the second helper
abbrev turn_at : Loop → ExpTree → Goal → Tree → List Tree → Goal
turn_at w e0 body x ts = element w.shared e0 body x (elements w.shared e0 body ts)

-- no item is left
ends : (known : Knows) (set : Setting) (b : Builtins) (w : Loop) (turn : List ℕ) (body : Goal) (lb : SlotNames → SlotGoals) (e0 : ExpTree) → AreAmong w.shared w.kept → (l inner k : Level) → HelperCalled b l (element_helper turn w) inner →
    TurnSame known set b w (slot_pattern e0 []) body lb inner k → (base : ℕ) (e : Environment) (hs : List Tree) (t i all : Tree) (s : State) → Handed w base e hs → Ahead s t i all [] →
    predicate_by b l w.name (trees_of (walked t i all hs)) s ≡ endings (finish_of w.ending) w.kept base (place e s)
ends known set b w turn body lb e0 among l inner k called at base e hs _ _ _ s given (list_ahead t i all n _ is) = go (list-root n (bindings s) t [] is)
  where
    go : ListRoot (bindings s) t [] → predicate_by b l w.name (trees_of (walked t i all hs)) s ≡ endings (finish_of w.ending) w.kept base (place e s)
    go (at_end root) = nil-ends known set b l inner k w turn called at.alike among base e hs given t i all s root
ends known set b w turn body lb e0 among l inner k called at base e hs _ _ _ s given (array_ahead d us j n _ root few numbered left) =
    ap (λ (i : ℕ). predicate_by b l w.name (trees_of (walked d (number_of (suc i)) (number_of (suc (length (each_tree us)))) hs)) s) (drop-none (each_tree us) j few left)
    ∙ array-ends known set b l inner k w turn called at.alike among base e hs given d us (length (each_tree us)) s root

-- one is left, and no depth
stops : (known : Knows) (set : Setting) (b : Builtins) (w : Loop) (turn : List ℕ) (body : Goal) (lb : SlotNames → SlotGoals) (e0 : ExpTree) (l inner k : Level) → HelperCalled b l (element_helper turn w) inner → TurnSame known set b w (slot_pattern e0 []) body lb inner k →
    lower inner ≡ None → (base : ℕ) (e : Environment) (hs : List Tree) (t i all x : Tree) (ts : List Tree) (s : State) → Handed w base e hs → Ahead s t i all (x ∷ ts) → predicate_by b l w.name (trees_of (walked t i all hs)) s ≡ end Deep
stops known set b w turn body lb e0 l inner k called at bottom base e hs _ _ _ x ts s given (list_ahead t i all n _ is) = go (list-root n (bindings s) t (x ∷ ts) is)
  where
    go : ListRoot (bindings s) t (x ∷ ts) → predicate_by b l w.name (trees_of (walked t i all hs)) s ≡ end Deep
    go (at_cell _ r n _ root rest) = cell-stops b l inner w turn base e hs called at.alike.core_drains bottom given t x r i all s root
stops known set b w turn body lb e0 l inner k called at bottom base e hs _ _ _ x ts s given (array_ahead d us j n _ root few numbered left) =
    array-stops known set b l inner k w turn called at.alike bottom base e hs given d us j (length (each_tree us)) s root (drop-some (each_tree us) j x ts left).1

-- one is left, and behind its Tick the second helper is called with it
goes-on : (known : Knows) (set : Setting) (b : Builtins) (w : Loop) (turn : List ℕ) (body : Goal) (lb : SlotNames → SlotGoals) (e0 : ExpTree) (l inner below k m : Level) → HelperCalled b l (element_helper turn w) inner → TurnSame known set b w (slot_pattern e0 []) body lb inner k →
    lower inner ≡ Some below → TurnSame known set b w (slot_pattern e0 []) body lb below m → (base : ℕ) (e : Environment) (hs : List Tree) (t i all x : Tree) (ts : List Tree) (s : State) → Handed w base e hs → Ahead s t i all (x ∷ ts) → (after : Trace State) →
    ((rest j : Tree) → Ahead s rest j all ts → predicate_by b below turn (trees_of (x ∷ walked rest j all hs)) s ≡ after) → predicate_by b l w.name (trees_of (walked t i all hs)) s ≡ note Tick after
goes-on known set b w turn body lb e0 l inner below k m called at deeper under base e hs _ _ _ x ts s given (list_ahead t i all n _ is) after each = go (list-root n (bindings s) t (x ∷ ts) is)
  where
    go : ListRoot (bindings s) t (x ∷ ts) → predicate_by b l w.name (trees_of (walked t i all hs)) s ≡ note Tick after
    go (at_cell _ r n _ root rest) = cell-goes-on b l inner below w turn base e hs called at.alike.core_drains deeper under.alike.core_drains given t x r i all s root ∙ ap (note Tick) (each r i (list_ahead r i all n ts rest))
goes-on known set b w turn body lb e0 l inner below k m called at deeper under base e hs _ _ _ x ts s given (array_ahead d us j n _ root few numbered left) after each =
    let item : (slice_get (each_tree us) j ≡ Some x) × (suc j ≤ length (each_tree us)) × (drop (suc j) (each_tree us) ≡ ts) = drop-some (each_tree us) j x ts left in
    array-goes-on known set b l inner below k m w turn called at.alike deeper under.alike base e hs given d us j (length (each_tree us)) n x s root item.0 item.1 numbered
    ∙ ap (note Tick) (each d (number_of (suc (suc j))) (array_ahead d us (suc j) n ts root item.1 numbered item.2))

-- A call of the first helper does what the elements that are left do over names, and ends the loop.
pub walk-calls : (known : Knows) (set : Setting) (b : Builtins) (w : Loop) (turn : List ℕ) (e0 : ExpTree) → IsPattern e0 → (body : Goal) (lb : SlotNames → SlotGoals) → AreAmong w.shared w.kept → Apart w (turn_front (slot_pattern e0 [])) → (l k : Level) →
    Walks b (element_helper turn w) (turn_helper turn w e0 lb) (TurnSame known set b w (slot_pattern e0 []) body lb) l k → (base : ℕ) (ts : List Tree) (e : Environment) (hs : List Tree) (t i all : Tree) (s : State) → Handed w base e hs → Ahead s t i all ts →
    predicate_by b l w.name (trees_of (walked t i all hs)) s ≡ then (elements w.shared e0 body ts k (place e s)) (endings (finish_of w.ending) w.kept base)
unfolding elements then
walk-calls known set b w turn e0 is-pattern body lb among apart l _ (last_walk _ inner c called bottom at) base [] e hs t i all s given ahead =
    ends known set b w turn body lb e0 among l inner (lowest c) called at base e hs t i all s given ahead
    ∙ sym (ap (λ (u : Trace Place). then u (endings (finish_of w.ending) w.kept base)) (names-not-drained (λ m q. one q) (lowest c) (place e s) at.alike.names_drain) ∙ then-of-one (place e s) (endings (finish_of w.ending) w.kept base))
walk-calls known set b w turn e0 is-pattern body lb among apart l _ (last_walk _ inner c called bottom at) base (x ∷ ts) e hs t i all s given ahead =
    stops known set b w turn body lb e0 l inner (lowest c) called at bottom base e hs t i all x ts s given ahead
    ∙ sym (ap (λ (u : Trace Place). then u (endings (finish_of w.ending) w.kept base)) (names-not-drained (λ m q. ticked (lower m) (λ j. turn_at w e0 body x ts j q)) (lowest c) (place e s) at.alike.names_drain))
walk-calls known set b w turn e0 is-pattern body lb among apart l _ (next_walk _ inner below inside c k called deeper at under second within walks) base [] e hs t i all s given ahead =
    ends known set b w turn body lb e0 among l inner (over c k) called at base e hs t i all s given ahead
    ∙ sym (ap (λ (u : Trace Place). then u (endings (finish_of w.ending) w.kept base)) (names-not-drained (λ m q. one q) (over c k) (place e s) at.alike.names_drain) ∙ then-of-one (place e s) (endings (finish_of w.ending) w.kept base))
walk-calls known set b w turn e0 is-pattern body lb among apart l _ (next_walk _ inner below inside c k called deeper at under second within walks) base (x ∷ ts) e hs t i all s given ahead =
    goes-on known set b w turn body lb e0 l inner below (over c k) k called at deeper under base e hs t i all x ts s given ahead (then (turn_at w e0 body x ts k (place e s)) (endings (finish_of w.ending) w.kept base))
    (λ rest j left. element-called known set b w turn e0 is-pattern body (elements w.shared e0 body ts) lb below inside k second within apart base (endings (finish_of w.ending) w.kept base) e x hs rest j all s given
    (λ f us r stays handed. walk-calls known set b w turn e0 is-pattern body lb among apart inside k walks base ts f us rest j all r handed (ahead-later s r stays rest j all ts left)))
    ∙ sym (ap (λ (u : Trace Place). then u (endings (finish_of w.ending) w.kept base)) (names-not-drained (λ m q. ticked (lower m) (λ j. turn_at w e0 body x ts j q)) (over c k) (place e s) at.alike.names_drain))
