-- An iterator's first helper, by what is left: a list cell, the end of a list, or an array.
use Rattle.std.proofs.Common.{◌≡◌, ℕ, suc, ◌+◌, ◌-◌, Bool, false, cond, List, [], ◌∷◌, length, refl, sym, ◌∙◌, ap, arith}
use Rattle.std.specs.Prelude.{Some, None, option_and_then, replicate}
use Rattle.pi_terms.specs.Tree.{Tree, comp, Trees, no_trees, tree, trees_of}
use Rattle.pi_terms.specs.ListNames.{nil, cell_name}
use Rattle.pi_terms.specs.Order.{order, identical}
use Rattle.pi_terms.specs.Places.{Places}
use Rattle.pi_terms.specs.PatternTree.{PatternTree, slot, exact_atom, compound, no_patterns, pattern}
use Rattle.pi_constraints.specs.Value.{Bindings}
use Rattle.pi_constraints.specs.State.{State, bindings, followed}
use Rattle.pi_constraints.specs.HeadMatch.{compound_in, matched_in, matched_all_in}
use Rattle.pi_constraints.proofs.MatchLemmas.{name_itself}
use Rattle.pi_syntax.specs.PrintTerm.{array_name}
use Rattle.pi_core.specs.GoalTree.{GoalTree}
use Rattle.pi_traces.specs.Trace.{Trace, end, note, Deep, Tick, then, done}
use Rattle.pi_traces.specs.Control.{chosen}
use Rattle.pi_meaning.specs.Shared.Level.{Level, lower, Point}
use Rattle.pi_meaning.specs.CoreMeaning.Builtins.{Builtins, predicate_by}
use Rattle.pi_meaning.specs.CoreMeaning.Meaning.{meaning}
use Rattle.pi_meaning.specs.CoreMeaning.Rules.{pred_run, rules, rule_before, rule_by}
use Rattle.pi_meaning.specs.OverNames.Environment.{Environment}
use Rattle.pi_rewrite_spec.specs.Loops.{slots_from, slots_head, Loop}
use Rattle.pi_rewrite_spec.specs.Iterators.{handed, tick_then, cell_clause, nil_clause, array_clause, element_helper}
use Rattle.pi_rewrite_spec.proofs.RunLemmas.{point, runs-one, turn-runs}
use Rattle.pi_rewrite_spec.proofs.ControlLemmas.{Drains}
use Rattle.pi_rewrite_laws.proofs.HeadLemmas.{text_by_order}
use Rattle.pi_rewrite_spec.proofs.HandedLemmas.{entered, empties-stand, head-takes, head-entered}
use Rattle.pi_rewrite_spec.proofs.CarriedLemmas.{Handed}
use Rattle.pi_rewrite_laws.proofs.HelperLemmas.{state_of, HelperCalled, count-trees}
use Rattle.pi_rewrite_laws.proofs.WhileLemmas.{tick-runs, tick-stops}
use Rattle.pi_rewrite_laws.proofs.ElementLemmas.{walked, handed-long}
use Rattle.pi_rewrite_laws.proofs.MatchedLemmas.{hands-on, walked-long}

-- ---- heads

abbrev cell_pattern : PatternTree
cell_pattern = compound cell_name (pattern (slot 0) (pattern (slot 1) no_patterns))

two-parts : (b : Bindings) (x r : Tree) (n m : ℕ) → n ≡ 2 + m → matched_all_in b (pattern (slot 0) (pattern (slot 1) no_patterns)) (tree x (tree r no_trees)) (replicate n None) ≡ Some (Some x ∷ Some r ∷ replicate m None)
unfolding slots_head
two-parts b x r n m is = ap (λ (k : ℕ). matched_all_in b (slots_head 0 2) (tree x (tree r no_trees)) (replicate k None)) is ∙ ap (matched_all_in b (slots_head 0 2) (tree x (tree r no_trees))) (empties-stand (x ∷ r ∷ []) m) ∙ head-takes b [] (x ∷ r ∷ []) (replicate m None)

cell-head : (b : Bindings) (t x r : Tree) (vs : List Tree) (n k : ℕ) → followed b t ≡ comp cell_name (tree x (tree r no_trees)) → length vs ≡ k → n ≡ 2 + k →
    matched_all_in b (pattern cell_pattern (slots_head 2 k)) (tree t (trees_of vs)) (replicate n None) ≡ Some (entered (x ∷ r ∷ vs) 0)
unfolding matched_in
cell-head b t x r vs n k root count is =
    ap (option_and_then (matched_all_in b (slots_head 2 k) (trees_of vs)))
    (ap (compound_in (λ ts. matched_all_in b (pattern (slot 0) (pattern (slot 1) no_patterns)) ts (replicate n None)) cell_name) root
    ∙ ap (λ (c : Bool). cond c (matched_all_in b (pattern (slot 0) (pattern (slot 1) no_patterns)) (tree x (tree r no_trees)) (replicate n None)) None) (name_itself cell_name)
    ∙ two-parts b x r n (length vs + 0) (omega (arith, is, count)))
    ∙ ap (λ (j : ℕ). matched_all_in b (slots_head 2 j) (trees_of vs) (Some x ∷ Some r ∷ replicate (length vs + 0) None)) (sym count)
    ∙ ap (λ (ps : Places). matched_all_in b (slots_head 2 (length vs)) (trees_of vs) (Some x ∷ Some r ∷ ps)) (empties-stand vs 0)
    ∙ head-takes b (Some x ∷ Some r ∷ []) vs (replicate 0 None)

no-cell-atom : (b : Bindings) (t : Tree) (ts : Trees) (name : List ℕ) (n k : ℕ) → followed b t ≡ Tree.atom name → matched_all_in b (pattern cell_pattern (slots_head 2 k)) (tree t ts) (replicate n None) ≡ None
unfolding matched_in
no-cell-atom b t ts name n k root = ap (λ (u : Tree). option_and_then (matched_all_in b (slots_head 2 k) ts) (compound_in (λ us. matched_all_in b (pattern (slot 0) (pattern (slot 1) no_patterns)) us (replicate n None)) cell_name u)) root

no-cell-array : (b : Bindings) (t : Tree) (ts us : Trees) (n k : ℕ) → followed b t ≡ comp array_name us → matched_all_in b (pattern cell_pattern (slots_head 2 k)) (tree t ts) (replicate n None) ≡ None
unfolding matched_in
no-cell-array b t ts us n k root =
    ap (λ (u : Tree). option_and_then (matched_all_in b (slots_head 2 k) ts) (compound_in (λ xs. matched_all_in b (pattern (slot 0) (pattern (slot 1) no_patterns)) xs (replicate n None)) cell_name u)) root
    ∙ ap (λ (c : Bool). option_and_then (matched_all_in b (slots_head 2 k) ts) (cond c (matched_all_in b (pattern (slot 0) (pattern (slot 1) no_patterns)) us (replicate n None)) None)) (text_by_order cell_name array_name)

nil-head : (b : Bindings) (t : Tree) (vs : List Tree) (n m k : ℕ) → followed b t ≡ Tree.atom nil → length vs ≡ k → n ≡ k + m → matched_all_in b (pattern (exact_atom nil) (slots_head 0 k)) (tree t (trees_of vs)) (replicate n None) ≡ Some (entered vs m)
unfolding matched_in order
nil-head b t vs n m k root count is =
    ap (λ (u : Tree). option_and_then (matched_all_in b (slots_head 0 k) (trees_of vs)) (cond (identical (Tree.atom nil) u) (Some (replicate n None)) None)) root
    ∙ ap (λ (j : ℕ). matched_all_in b (slots_head 0 j) (trees_of vs) (replicate n None)) (sym count)
    ∙ head-entered b vs n m (is ∙ ap (λ (j : ℕ). j + m) (sym count))

no-nil : (b : Bindings) (t : Tree) (ts us : Trees) (name : List ℕ) (n k : ℕ) → followed b t ≡ comp name us → matched_all_in b (pattern (exact_atom nil) (slots_head 0 k)) (tree t ts) (replicate n None) ≡ None
unfolding matched_in order
no-nil b t ts us name n k root = ap (λ (u : Tree). option_and_then (matched_all_in b (slots_head 0 k) ts) (cond (identical (Tree.atom nil) u) (Some (replicate n None)) None)) root

-- ---- clauses

shorter : (w : Loop) (base : ℕ) (e : Environment) (hs : List Tree) → Handed w base e hs → (i all : Tree) → length (i ∷ all ∷ hs) ≡ handed w - 1
shorter w base e hs given i all = omega (arith, given.count, handed-long w)

-- a list cell
cell-runs : (b : Builtins) (l : Level) (w : Loop) (turn : List ℕ) (base : ℕ) (e : Environment) (hs : List Tree) → Handed w base e hs → (t x r i all : Tree) (s : State) → followed (bindings s) t ≡ comp cell_name (tree x (tree r no_trees)) →
    pred_run b l (element_helper turn w) None (trees_of (walked t i all hs)) s ≡ then (meaning b (tick_then (GoalTree.call turn (slots_from 0 (suc (handed w))) ∷ [])) (point l (entered (x ∷ walked r i all hs) 0) s)) state_of
unfolding pred_run rules chosen
cell-runs b l w turn base e hs given t x r i all s root =
    ap (rule_before b l (rule_by (cell_clause turn w) false (λ p. then (meaning b (cell_clause turn w).body p) state_of)) s _)
    (cell-head (bindings s) t x r (i ∷ all ∷ hs) (suc (handed w)) (handed w - 1) root (shorter w base e hs given i all) (omega (arith, handed-long w)))

-- the end of a list
pub nil-runs : (b : Builtins) (l : Level) (w : Loop) (turn : List ℕ) (base : ℕ) (e : Environment) (hs : List Tree) → Handed w base e hs → (t i all : Tree) (s : State) (m : ℕ) → followed (bindings s) t ≡ Tree.atom nil → (nil_clause w).slots ≡ (handed w - 1) + m →
    pred_run b l (element_helper turn w) None (trees_of (walked t i all hs)) s ≡ then (meaning b (nil_clause w).body (point l (entered (i ∷ all ∷ hs) m) s)) state_of
unfolding pred_run rules chosen
nil-runs b l w turn base e hs given t i all s m root is =
    ap (rule_before b l (rule_by (cell_clause turn w) false (λ p. then (meaning b (cell_clause turn w).body p) state_of)) s _) (no-cell-atom (bindings s) t (trees_of (i ∷ all ∷ hs)) nil (suc (handed w)) (handed w - 1) root)
    ∙ ap (rule_before b l (rule_by (nil_clause w) false (λ p. then (meaning b (nil_clause w).body p) state_of)) s _) (nil-head (bindings s) t (i ∷ all ∷ hs) (nil_clause w).slots m (handed w - 1) root (shorter w base e hs given i all) is)

-- an array
pub array-runs : (b : Builtins) (l : Level) (w : Loop) (turn : List ℕ) (base : ℕ) (e : Environment) (hs : List Tree) → Handed w base e hs → (t i all : Tree) (us : Trees) (s : State) (m : ℕ) → followed (bindings s) t ≡ comp array_name us → (array_clause turn w).slots ≡ handed w + m →
    pred_run b l (element_helper turn w) None (trees_of (walked t i all hs)) s ≡ then (meaning b (array_clause turn w).body (point l (entered (walked t i all hs) m) s)) state_of
unfolding pred_run rules chosen
array-runs b l w turn base e hs given t i all us s m root is =
    ap (rule_before b l (rule_by (cell_clause turn w) false (λ p. then (meaning b (cell_clause turn w).body p) state_of)) s _) (no-cell-array (bindings s) t (trees_of (i ∷ all ∷ hs)) us (suc (handed w)) (handed w - 1) root)
    ∙ ap (rule_before b l (rule_by (nil_clause w) false (λ p. then (meaning b (nil_clause w).body p) state_of)) s _) (no-nil (bindings s) t (trees_of (i ∷ all ∷ hs)) us array_name (nil_clause w).slots (handed w - 1) root)
    ∙ ap (rule_before b l (rule_by (array_clause turn w) false (λ p. then (meaning b (array_clause turn w).body p) state_of)) s done)
    (ap (λ (j : ℕ). matched_all_in (bindings s) (slots_head 0 j) (trees_of (walked t i all hs)) (replicate (array_clause turn w).slots None)) (sym (walked-long w base e hs given t i all))
    ∙ head-entered (bindings s) (walked t i all hs) (array_clause turn w).slots m (is ∙ ap (λ (j : ℕ). j + m) (sym (walked-long w base e hs given t i all))))

-- ---- a cell

-- behind its Tick the second helper is called
pub cell-goes-on : (b : Builtins) (l inner below : Level) (w : Loop) (turn : List ℕ) (base : ℕ) (e : Environment) (hs : List Tree) → HelperCalled b l (element_helper turn w) inner → Drains inner → lower inner ≡ Some below → Drains below → Handed w base e hs → (t x r i all : Tree) (s : State) →
    followed (bindings s) t ≡ comp cell_name (tree x (tree r no_trees)) → predicate_by b l w.name (trees_of (walked t i all hs)) s ≡ note Tick (predicate_by b below turn (trees_of (x ∷ walked r i all hs)) s)
unfolding then
cell-goes-on b l inner below w turn base e hs called drains is lower-drains given t x r i all s root =
    called (trees_of (walked t i all hs)) s (count-trees (walked t i all hs) ∙ walked-long w base e hs given t i all)
    ∙ cell-runs b inner w turn base e hs given t x r i all s root
    ∙ ap (λ (u : Trace Point). then u state_of) (turn-runs b inner drains (GoalTree.tick ∷ goal ∷ []) slots s ∙ tick-runs b inner below drains is (goal ∷ []) slots s ∙ ap (note Tick) (runs-one b goal (point below slots s)))
    ∙ ap (note Tick) (hands-on b below lower-drains turn [] (x ∷ walked r i all hs) 0 0 (suc (handed w)) s refl (ap suc (walked-long w base e hs given r i all)))
  where
    goal : GoalTree
    goal = GoalTree.call turn (slots_from 0 (suc (handed w)))

    slots : Places
    slots = entered (x ∷ walked r i all hs) 0

pub cell-stops : (b : Builtins) (l inner : Level) (w : Loop) (turn : List ℕ) (base : ℕ) (e : Environment) (hs : List Tree) → HelperCalled b l (element_helper turn w) inner → Drains inner → lower inner ≡ None → Handed w base e hs → (t x r i all : Tree) (s : State) →
    followed (bindings s) t ≡ comp cell_name (tree x (tree r no_trees)) → predicate_by b l w.name (trees_of (walked t i all hs)) s ≡ end Deep
unfolding then
cell-stops b l inner w turn base e hs called drains is given t x r i all s root =
    called (trees_of (walked t i all hs)) s (count-trees (walked t i all hs) ∙ walked-long w base e hs given t i all)
    ∙ cell-runs b inner w turn base e hs given t x r i all s root
    ∙ ap (λ (u : Trace Point). then u state_of) (turn-runs b inner drains (GoalTree.tick ∷ goal ∷ []) slots s ∙ tick-stops b inner drains is (goal ∷ []) slots s)
  where
    goal : GoalTree
    goal = GoalTree.call turn (slots_from 0 (suc (handed w)))

    slots : Places
    slots = entered (x ∷ walked r i all hs) 0
