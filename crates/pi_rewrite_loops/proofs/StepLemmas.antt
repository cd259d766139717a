-- Turns of iterators over ranges.
use Rattle.std.proofs.Common.{◌≡◌, ℕ, suc, ◌+◌, ◌-◌, List, [], ◌∷◌, ◌++◌, length, ◌∙◌, ap, arith}
use Rattle.std.specs.Prelude.{pos, codes}
use Rattle.pi_terms.specs.Tree.{Tree}
use Rattle.pi_terms.specs.PatternTree.{PatternTree, PatternTrees, pattern}
use Rattle.pi_core.specs.GoalTree.{GoalTree}
use Rattle.pi_core.specs.CoreTree.{ClauseTree, PredTree}
use Rattle.pi_rewrite_spec.specs.Slots.{SlotNames}
use Rattle.pi_rewrite_spec.specs.Values.{SlotPattern}
use Rattle.pi_rewrite_spec.specs.Goals.{in_turn}
use Rattle.pi_rewrite_spec.specs.Loops.{Loop, slots_from, slots_head, closing_slots, clause_of, helper}
use Rattle.pi_rewrite_spec.specs.Iterators.{handed, end_slots, tick_then}
use Rattle.pi_rewrite_spec.specs.Ranges.{next_turn, step_clause, range_helper}
use Rattle.pi_rewrite_loops.specs.Helpers.{lowered}
use Rattle.pi_rewrite_loops.specs.Turns.{last_args, value_args, next_value_by, walk_end}
use Rattle.pi_rewrite_loops.proofs.PushedLemmas.{pushed-one, pushed-two, pushed-three, pushed-four}
use Rattle.pi_rewrite_loops.proofs.WalkLemmas.{slots-long}
use Rattle.pi_rewrite_loops.proofs.ArrayLemmas.{choice-of}

-- ---- the next value

pub value-call : (l : Loop) (turn : List ℕ) (free step left many rest : ℕ) (a0 a1 a2 a3 a4 now : List Tree) (made : GoalTree) → many ≡ handed l → rest ≡ many - 2 → a0 ≡ [] → a1 ≡ a0 ++ Tree.var free ∷ [] → a2 ≡ a1 ++ Tree.var free ∷ [] → a3 ≡ a2 ++ Tree.var left ∷ [] →
    a4 ≡ a3 ++ slots_from step rest → now ≡ a4 → made ≡ GoalTree.call turn now → (first : ℕ) → step ≡ first + 2 → left ≡ free + 1 → made ≡ GoalTree.call turn (value_args l first free)
value-call l turn free step left many rest a0 a1 a2 a3 a4 now made long fewer none put put' put'' four same is first by behind =
    is ∙ ap (GoalTree.call turn)
    (same ∙ (four ∙ (ap (λ ts. ts ++ slots_from step rest) (pushed-three a0 a1 a2 a3 (Tree.var free) (Tree.var free) (Tree.var left) none put put' put'')
    ∙ (ap (λ (k : ℕ). Tree.var free ∷ Tree.var free ∷ Tree.var k ∷ slots_from step rest) (behind ∙ omega arith)
    ∙ (ap (λ (k : ℕ). Tree.var free ∷ Tree.var free ∷ Tree.var (suc free) ∷ slots_from k rest) (by ∙ omega arith)
    ∙ ap (λ (k : ℕ). Tree.var free ∷ Tree.var free ∷ Tree.var (suc free) ∷ slots_from (suc (suc first)) k) (fewer ∙ ap (λ (k : ℕ). k - 2) long))))))

pub value-is : (l : Loop) (turn : List ℕ) (first free count step left : ℕ) (g0 g1 g2 g3 g4 : List GoalTree) (asked made : GoalTree) → count ≡ first + 1 → step ≡ first + 2 → left ≡ free + 1 → g0 ≡ [] → g1 ≡ g0 ++ GoalTree.apply (codes "+") (Tree.var first ∷ Tree.var step ∷ []) free ∷ [] →
    g2 ≡ g1 ++ GoalTree.apply (codes "-") (Tree.var count ∷ Tree.int (pos 1) ∷ []) left ∷ [] → g3 ≡ g2 ++ GoalTree.tick ∷ [] → ((f : ℕ) → step ≡ f + 2 → left ≡ free + 1 → asked ≡ GoalTree.call turn (value_args l f free)) → g4 ≡ g3 ++ asked ∷ [] → made ≡ in_turn g4 →
    made ≡ next_value_by turn l first free
value-is l turn first free count step left g0 g1 g2 g3 g4 asked made counts by lefts none a b c calls d turned =
    let plus : ℕ → GoalTree = λ k. GoalTree.apply (codes "+") (Tree.var first ∷ Tree.var k ∷ []) free in
    let minus : ℕ → ℕ → GoalTree = λ j k. GoalTree.apply (codes "-") (Tree.var j ∷ Tree.int (pos 1) ∷ []) k in
    turned ∙ ap in_turn
    (pushed-four g0 g1 g2 g3 g4 (plus step) (minus count left) GoalTree.tick asked none a b c d
    ∙ (ap (λ (k : ℕ). plus k ∷ minus count left ∷ GoalTree.tick ∷ asked ∷ []) (by ∙ omega arith)
    ∙ (ap (λ (k : ℕ). plus (suc (suc first)) ∷ minus k left ∷ GoalTree.tick ∷ asked ∷ []) (counts ∙ omega arith)
    ∙ (ap (λ (k : ℕ). plus (suc (suc first)) ∷ minus (suc first) k ∷ GoalTree.tick ∷ asked ∷ []) (lefts ∙ omega arith)
    ∙ ap (λ (g : GoalTree). plus (suc (suc first)) ∷ minus (suc first) (suc free) ∷ GoalTree.tick ∷ g ∷ []) (calls first by lefts)))))

-- ---- behind a turn

pub last-call : (l : Loop) (name : List ℕ) (first step many rest : ℕ) (a0 a1 a2 a3 now : List Tree) (none : Tree) (made : GoalTree) → many ≡ handed l → step ≡ first + 2 → rest ≡ many - 2 → none ≡ Tree.int (pos 0) → a0 ≡ [] → a1 ≡ a0 ++ Tree.var first ∷ [] → a2 ≡ a1 ++ none ∷ [] → a3 ≡ a2 ++ slots_from step rest → now ≡ a3 →
    name ≡ l.name → made ≡ GoalTree.call name now → made ≡ GoalTree.call l.name (last_args l first)
last-call l name first step many rest a0 a1 a2 a3 now none made long behind fewer zero empty put put' more same called is =
    is ∙ (ap (λ (n : List ℕ). GoalTree.call n now) called ∙ ap (GoalTree.call l.name)
    (same ∙ (more ∙ (ap (λ ts. ts ++ slots_from step rest) (pushed-two a0 a1 a2 (Tree.var first) none empty put put')
    ∙ (ap (λ (t : Tree). Tree.var first ∷ t ∷ slots_from step rest) zero
    ∙ (ap (λ (k : ℕ). Tree.var first ∷ Tree.int (pos 0) ∷ slots_from k rest) (behind ∙ omega arith) ∙ ap (λ (k : ℕ). Tree.var first ∷ Tree.int (pos 0) ∷ slots_from (suc (suc first)) k) (fewer ∙ ap (λ (k : ℕ). k - 2) long)))))))

pub next-turn : (l : Loop) (turn : List ℕ) (first free count : ℕ) (test then other made : GoalTree) → count ≡ first + 1 → test ≡ GoalTree.call (codes "<") (Tree.int (pos 1) ∷ Tree.var count ∷ []) → then ≡ next_value_by turn l first free → other ≡ GoalTree.call l.name (last_args l first) →
    made ≡ GoalTree.if_else test then other → made ≡ next_turn turn l first free
next-turn l turn first free count test then other made behind tested on last is =
    choice-of test then other (GoalTree.call (codes "<") (Tree.int (pos 1) ∷ Tree.var (suc first) ∷ [])) (next_value_by turn l first free) (GoalTree.call l.name (last_args l first)) made
    (tested ∙ ap (λ (k : ℕ). GoalTree.call (codes "<") (Tree.int (pos 1) ∷ Tree.var k ∷ [])) (behind ∙ omega arith)) on last is

-- ---- clauses

pub step-clause : (l : Loop) (name : List ℕ) (p : SlotPattern) (form : PatternTree) (width free size : ℕ) (turn : List GoalTree) (ns : SlotNames) (body : GoalTree) (head : PatternTrees) (c : ClauseTree) → form ≡ p.form → width ≡ length p.names → free ≡ length ns → size ≡ free + 2 →
    body ≡ in_turn (turn ++ next_turn name l width free ∷ []) → head ≡ pattern form (slots_head width (handed l)) → c ≡ clause_of head body size → c ≡ step_clause name l p (lowered turn ns)
step-clause l name p form width free size turn ns body head c same wide long more turned at is =
    let h : PatternTrees = pattern p.form (slots_head (length p.names) (handed l)) in
    is ∙ (ap (λ (x : PatternTrees). clause_of x body size) (at ∙ (ap (λ (f : PatternTree). pattern f (slots_head width (handed l))) same ∙ ap (λ (k : ℕ). pattern p.form (slots_head k (handed l))) wide))
    ∙ (ap (λ (b : GoalTree). clause_of h b size) (turned ∙ (ap (λ (k : ℕ). in_turn (turn ++ next_turn name l k free ∷ [])) wide ∙ ap (λ (k : ℕ). in_turn (turn ++ next_turn name l (length p.names) k ∷ [])) long))
    ∙ ap (λ (k : ℕ). clause_of h (in_turn (turn ++ next_turn name l (length p.names) (length ns) ∷ [])) k) (more ∙ ap (λ (k : ℕ). k + 2) long)))

pub step-passed : (l : Loop) (name : List ℕ) (arity size n : ℕ) (over : GoalTree) (head : PatternTrees) (c : ClauseTree) → arity ≡ n → size ≡ arity + 2 → over ≡ next_turn name l 1 arity → head ≡ slots_head 0 arity → c ≡ clause_of head over size → c ≡ clause_of (slots_head 0 n) (next_turn name l 1 n) (n + 2)
step-passed l name arity size n over head c long wide on at is =
    is ∙ (ap (λ (h : PatternTrees). clause_of h over size) (at ∙ ap (slots_head 0) long) ∙ (ap (λ (g : GoalTree). clause_of (slots_head 0 n) g size) (on ∙ ap (next_turn name l 1) long)
    ∙ ap (λ (k : ℕ). clause_of (slots_head 0 n) (next_turn name l 1 n) k) (wide ∙ ap (λ (k : ℕ). k + 2) long)))

-- ---- the first helper

pub first-turn : (turn : List ℕ) (count : ℕ) (a0 a1 a2 now : List Tree) (made : GoalTree) → a0 ≡ [] → a1 ≡ a0 ++ Tree.var 0 ∷ [] → a2 ≡ a1 ++ slots_from 0 count → now ≡ a2 → made ≡ tick_then (GoalTree.call turn now ∷ []) → made ≡ tick_then (GoalTree.call turn (Tree.var 0 ∷ slots_from 0 count) ∷ [])
first-turn turn count a0 a1 a2 now made empty put more same on = on ∙ ap (λ ts. tick_then (GoalTree.call turn ts ∷ [])) (same ∙ (more ∙ ap (λ ts. ts ++ slots_from 0 count) (pushed-one a0 a1 (Tree.var 0) empty put)))

pub range-is : (l : Loop) (turn name : List ℕ) (count size : ℕ) (body : GoalTree) (p : PredTree) → count ≡ handed l → size ≡ closing_slots l.kept count →
    body ≡ GoalTree.if_else (GoalTree.call (codes "<") (Tree.int (pos 0) ∷ Tree.var 1 ∷ [])) (tick_then (GoalTree.call turn (Tree.var 0 ∷ slots_from 0 count) ∷ [])) (walk_end l 3 count (end_slots 3 l)) → name ≡ l.name → p ≡ helper name count (clause_of (slots_head 0 count) body size ∷ []) → p ≡ range_helper turn l
range-is l turn name count size body p many sized does called is =
    let whole : ℕ = length (end_slots 3 l) in
    let long : count ≡ whole = slots-long l 3 count many in
    let less : GoalTree = GoalTree.call (codes "<") (Tree.int (pos 0) ∷ Tree.var 1 ∷ []) in
    let turns : ℕ → GoalTree = λ k. tick_then (GoalTree.call turn (Tree.var 0 ∷ slots_from 0 k) ∷ []) in
    let ends : ℕ → GoalTree = λ k. walk_end l 3 k (end_slots 3 l) in
    is ∙ (ap (λ (n : List ℕ). helper n count (clause_of (slots_head 0 count) body size ∷ [])) called ∙ (ap (λ (j : ℕ). helper l.name j (clause_of (slots_head 0 j) body size ∷ [])) many
    ∙ (ap (λ (g : GoalTree). helper l.name (handed l) (clause_of (slots_head 0 (handed l)) g size ∷ [])) (does ∙ (ap (λ (k : ℕ). GoalTree.if_else less (turns k) (ends count)) many ∙ ap (λ (k : ℕ). GoalTree.if_else less (turns (handed l)) (ends k)) long))
    ∙ ap (λ (j : ℕ). helper l.name (handed l) (clause_of (slots_head 0 (handed l)) (GoalTree.if_else less (turns (handed l)) (ends whole)) j ∷ [])) (sized ∙ ap (closing_slots l.kept) long))))
