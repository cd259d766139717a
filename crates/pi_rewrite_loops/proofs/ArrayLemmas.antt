-- The clause of an array, and the first helper.
use Rattle.std.proofs.Common.{◌≡◌, ℕ, suc, ◌+◌, ◌-◌, List, [], ◌∷◌, ◌++◌, length, map, ◌∙◌, ap, arith}
use Rattle.std.specs.Prelude.{pos, codes}
use Rattle.pi_terms.specs.Tree.{Tree}
use Rattle.pi_terms.specs.PatternTree.{PatternTrees}
use Rattle.pi_core.specs.GoalTree.{GoalTree}
use Rattle.pi_core.specs.CoreTree.{ClauseTree, PredTree, clause_tree}
use Rattle.pi_core.specs.declared.core_program.CoreClause.{CoreClause}
use Rattle.pi_effects.specs.Indexing.{index_name}
use Rattle.pi_rewrite_spec.specs.Goals.{in_turn}
use Rattle.pi_rewrite_spec.specs.Loops.{Loop, slots_from, slots_head, closing_slots, clause_of, helper}
use Rattle.pi_rewrite_spec.specs.Iterators.{handed, end_slots, cell_clause, nil_clause, array_clause, element_helper}
use Rattle.pi_rewrite_loops.specs.Turns.{array_args, array_turn_by, walk_end}
use Rattle.pi_rewrite_loops.proofs.PushedLemmas.{pushed-three, pushed-four}
use Rattle.pi_rewrite_loops.proofs.WalkLemmas.{slots-long}

-- the call of a turn
pub array-call : (l : Loop) (turn : List ℕ) (item next count rest : ℕ) (a0 a1 a2 a3 a4 now : List Tree) (made : GoalTree) → count ≡ handed l → rest ≡ count - 2 → a0 ≡ [] → a1 ≡ a0 ++ Tree.var item ∷ [] → a2 ≡ a1 ++ Tree.var 0 ∷ [] → a3 ≡ a2 ++ Tree.var next ∷ [] →
    a4 ≡ a3 ++ slots_from 2 rest → now ≡ a4 → made ≡ GoalTree.call turn now → next ≡ item + 1 → made ≡ GoalTree.call turn (array_args l item)
array-call l turn item next count rest a0 a1 a2 a3 a4 now made many fewer none one two three four same is further =
    is ∙ ap (GoalTree.call turn)
    (same ∙ (four ∙ (ap (λ ts. ts ++ slots_from 2 rest) (pushed-three a0 a1 a2 a3 (Tree.var item) (Tree.var 0) (Tree.var next) none one two three)
    ∙ (ap (λ (k : ℕ). Tree.var item ∷ Tree.var 0 ∷ Tree.var k ∷ slots_from 2 rest) (further ∙ omega arith) ∙ ap (λ (k : ℕ). Tree.var item ∷ Tree.var 0 ∷ Tree.var (suc item) ∷ slots_from 2 k) (fewer ∙ ap (λ (k : ℕ). k - 2) many)))))

-- a turn
pub array-turn : (l : Loop) (turn : List ℕ) (item next : ℕ) (g0 g1 g2 g3 g4 : List GoalTree) (asked made : GoalTree) → next ≡ item + 1 → g0 ≡ [] → g1 ≡ g0 ++ GoalTree.tick ∷ [] → g2 ≡ g1 ++ GoalTree.apply index_name (Tree.var 0 ∷ Tree.var 1 ∷ []) item ∷ [] →
    g3 ≡ g2 ++ GoalTree.apply (codes "+") (Tree.var 1 ∷ Tree.int (pos 1) ∷ []) next ∷ [] → (next ≡ item + 1 → asked ≡ GoalTree.call turn (array_args l item)) → g4 ≡ g3 ++ asked ∷ [] → made ≡ in_turn g4 → made ≡ array_turn_by turn l item
array-turn l turn item next g0 g1 g2 g3 g4 asked made further none first second third calls fourth turned =
    let taken : GoalTree = GoalTree.apply index_name (Tree.var 0 ∷ Tree.var 1 ∷ []) item in
    let moved : ℕ → GoalTree = λ k. GoalTree.apply (codes "+") (Tree.var 1 ∷ Tree.int (pos 1) ∷ []) k in
    turned ∙ ap in_turn
    (pushed-four g0 g1 g2 g3 g4 GoalTree.tick taken (moved next) asked none first second third fourth
    ∙ (ap (λ (k : ℕ). GoalTree.tick ∷ taken ∷ moved k ∷ asked ∷ []) (further ∙ omega arith) ∙ ap (λ (g : GoalTree). GoalTree.tick ∷ taken ∷ moved (suc item) ∷ g ∷ []) (calls further)))

-- whether one number is below another
pub less-of : (x t : Tree) (k : ℕ) (made : GoalTree) → x ≡ t → made ≡ GoalTree.call (codes "<") (x ∷ Tree.var k ∷ []) → made ≡ GoalTree.call (codes "<") (t ∷ Tree.var k ∷ [])
less-of x t k made is tested = tested ∙ ap (λ (u : Tree). GoalTree.call (codes "<") (u ∷ Tree.var k ∷ [])) is

-- a choice of parts
pub choice-of : (test then other a b c made : GoalTree) → test ≡ a → then ≡ b → other ≡ c → made ≡ GoalTree.if_else test then other → made ≡ GoalTree.if_else a b c
choice-of test then other a b c made one two three chosen = chosen ∙ (ap (λ (g : GoalTree). GoalTree.if_else g then other) one ∙ (ap (λ (g : GoalTree). GoalTree.if_else a g other) two ∙ ap (λ (g : GoalTree). GoalTree.if_else a b g) three))

pub array-is : (l : Loop) (turn : List ℕ) (item free size : ℕ) (body : GoalTree) (head : PatternTrees) (c : ClauseTree) → item ≡ handed l → free ≡ item + 2 → size ≡ closing_slots l.kept free →
    body ≡ GoalTree.if_else (GoalTree.call (codes "<") (Tree.var 1 ∷ Tree.var 2 ∷ [])) (array_turn_by turn l item) (walk_end l 3 free (end_slots 3 l)) → head ≡ slots_head 0 item → c ≡ clause_of head body size → c ≡ array_clause turn l
array-is l turn item free size body head c many more sized does at is =
    let whole : ℕ = length (end_slots 3 l) in
    let long : item ≡ whole = slots-long l 3 item many in
    let past : free ≡ whole + 2 = more ∙ ap (λ (j : ℕ). j + 2) long in
    let less : GoalTree = GoalTree.call (codes "<") (Tree.var 1 ∷ Tree.var 2 ∷ []) in
    is ∙ (ap (λ (h : PatternTrees). clause_of h body size) (at ∙ ap (slots_head 0) many)
    ∙ (ap (λ (b : GoalTree). clause_of (slots_head 0 (handed l)) b size)
    (does ∙ (ap (λ (k : ℕ). GoalTree.if_else less (array_turn_by turn l k) (walk_end l 3 free (end_slots 3 l))) long ∙ ap (λ (k : ℕ). GoalTree.if_else less (array_turn_by turn l whole) (walk_end l 3 k (end_slots 3 l))) past))
    ∙ ap (λ (j : ℕ). clause_of (slots_head 0 (handed l)) (GoalTree.if_else less (array_turn_by turn l whole) (walk_end l 3 (whole + 2) (end_slots 3 l))) j) (sized ∙ ap (closing_slots l.kept) past)))

pub element-is : (l : Loop) (turn name : List ℕ) (count : ℕ) (c d e : CoreClause) (c0 c1 c2 c3 : List CoreClause) (p : PredTree) → clause_tree c ≡ cell_clause turn l → clause_tree d ≡ nil_clause l → clause_tree e ≡ array_clause turn l → c0 ≡ [] → c1 ≡ c0 ++ c ∷ [] → c2 ≡ c1 ++ d ∷ [] → c3 ≡ c2 ++ e ∷ [] →
    count ≡ handed l → name ≡ l.name → p ≡ helper name count (map clause_tree c3) → p ≡ element_helper turn l
element-is l turn name count c d e c0 c1 c2 c3 p cell nil array none one two three many called is =
    is ∙ (ap (λ (n : List ℕ). helper n count (map clause_tree c3)) called ∙ (ap (λ (k : ℕ). helper l.name k (map clause_tree c3)) many
    ∙ ap (helper l.name (handed l)) (ap (map clause_tree) (pushed-three c0 c1 c2 c3 c d e none one two three)
    ∙ (ap (λ (x : ClauseTree). x ∷ clause_tree d ∷ clause_tree e ∷ []) cell ∙ (ap (λ (x : ClauseTree). cell_clause turn l ∷ x ∷ clause_tree e ∷ []) nil ∙ ap (λ (x : ClauseTree). cell_clause turn l ∷ nil_clause l ∷ x ∷ []) array)))))
