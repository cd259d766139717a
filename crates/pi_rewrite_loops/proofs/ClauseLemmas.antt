-- Clauses of helpers, and helpers.
use Rattle.std.proofs.Common.{◌≡◌, ℕ, suc, ◌+◌, false, true, List, [], ◌∷◌, ◌++◌, map, ◌∙◌, ap, append_assoc, arith}
use Rattle.std.proofs.lemmas.List.{map-append}
use Rattle.std.specs.Prelude.{None}
use Rattle.pi_terms.specs.PatternTree.{PatternTrees, pattern}
use Rattle.pi_core.specs.GoalTree.{GoalTree}
use Rattle.pi_core.specs.CoreTree.{ClauseTree, PredTree, clause_tree, pattern_tree, pred_tree}
use Rattle.pi_core.specs.declared.core_program.Pattern.{Pattern}
use Rattle.pi_core.specs.declared.core_program.SlotWatch.{SlotWatch}
use Rattle.pi_core.specs.declared.core_program.CoreClause.{CoreClause}
use Rattle.pi_core.specs.declared.core_program.CorePred.{CorePred}
use Rattle.pi_rewrite_spec.specs.Loops.{slots_head, clause_of, helper}
use Rattle.pi_rewrite_loops.specs.Heads.{onto}

pub onto-none : (ps : List Pattern) (made rest : PatternTrees) → ps ≡ [] → made ≡ onto ps rest → made ≡ rest
onto-none ps made rest empty is = is ∙ ap (λ qs. onto qs rest) empty

pub onto-one : (ps qs : List Pattern) (p : Pattern) (made rest : PatternTrees) → ps ≡ [] → qs ≡ ps ++ p ∷ [] → made ≡ onto qs rest → made ≡ pattern (pattern_tree p) rest
onto-one ps qs p made rest empty put is = is ∙ ap (λ rs. onto rs rest) (put ∙ ap (λ rs. rs ++ p ∷ []) empty)

pub clause-is : (head : PatternTrees) (guard body : GoalTree) (ws : List SlotWatch) (slots : ℕ) → guard ≡ GoalTree.truth → ws ≡ [] → record { head = head; guard = guard; back = false; watches = ws; body = body; value = None; slots = slots } ≡ clause_of head body slots
clause-is head guard body ws slots is none =
    ap (λ (g : GoalTree). record { head = head; guard = g; back = false; watches = ws; body = body; value = None; slots = slots }) is ∙ ap (λ (us : List SlotWatch). record { head = head; guard = GoalTree.truth; back = false; watches = us; body = body; value = None; slots = slots }) none

pub helper-is : (name called : List ℕ) (arity : ℕ) (cs ds : List CoreClause) → called ≡ name → ds ≡ cs → record { name = called; arity = arity; function = false; quiet = true; index = None; clauses = map clause_tree ds } ≡ helper name arity (map clause_tree cs)
helper-is name called arity cs ds same all = ap (λ (n : List ℕ). helper n arity (map clause_tree ds)) same ∙ ap (λ es. helper name arity (map clause_tree es)) all

one-clause : (cs ds : List CoreClause) (c : CoreClause) (t : ClauseTree) → cs ≡ [] → ds ≡ cs ++ c ∷ [] → clause_tree c ≡ t → map clause_tree ds ≡ t ∷ []
one-clause cs ds c t empty put is = ap (map clause_tree) (put ∙ ap (λ es. es ++ c ∷ []) empty) ∙ ap (λ (u : ClauseTree). u ∷ []) is

pub simple-is : (p : PredTree) (name : List ℕ) (arity slots : ℕ) (body : GoalTree) (head : PatternTrees) (c : CoreClause) (cs ds : List CoreClause) → head ≡ slots_head 0 arity → clause_tree c ≡ clause_of head body slots → cs ≡ [] → ds ≡ cs ++ c ∷ [] → p ≡ helper name arity (map clause_tree ds) →
    p ≡ helper name arity (clause_of (slots_head 0 arity) body slots ∷ [])
simple-is p name arity slots body head c cs ds at clause empty put is =
    is ∙ ap (helper name arity) (one-clause cs ds c (clause_of (slots_head 0 arity) body slots) empty put (clause ∙ ap (λ (h : PatternTrees). clause_of h body slots) at))

pub matching-is : (p : PredTree) (name : List ℕ) (arity n : ℕ) (c d : CoreClause) (cs ds es : List CoreClause) → arity ≡ n → cs ≡ [] → ds ≡ cs ++ c ∷ [] → es ≡ ds ++ d ∷ [] → p ≡ helper name arity (map clause_tree es) → p ≡ helper name n (clause_tree c ∷ clause_tree d ∷ [])
matching-is p name arity n c d cs ds es long empty one two is =
    is ∙ (ap (λ (xs : List CoreClause). helper name arity (map clause_tree xs)) (two ∙ ap (λ (xs : List CoreClause). xs ++ d ∷ []) (one ∙ ap (λ (xs : List CoreClause). xs ++ c ∷ []) empty)) ∙ ap (λ (k : ℕ). helper name k (clause_tree c ∷ clause_tree d ∷ [])) long)

pub both-clauses : (p : PredTree) (name : List ℕ) (n : ℕ) (t u a b : ClauseTree) → t ≡ a → u ≡ b → p ≡ helper name n (t ∷ u ∷ []) → p ≡ helper name n (a ∷ b ∷ [])
both-clauses p name n t u a b first second is = is ∙ (ap (λ (v : ClauseTree). helper name n (v ∷ u ∷ [])) first ∙ ap (λ (v : ClauseTree). helper name n (a ∷ v ∷ [])) second)

pub one-after : (m k n : ℕ) → k ≡ n → m ≡ k + 1 → m ≡ suc n
one-after m k n is more = omega (arith, is, more)

-- two helpers behind others
pub two-helpers : (hs one two : List CorePred) (a b : CorePred) (p q : PredTree) → pred_tree a ≡ p → pred_tree b ≡ q → one ≡ hs ++ a ∷ [] → two ≡ one ++ b ∷ [] → map pred_tree two ≡ map pred_tree hs ++ p ∷ q ∷ []
two-helpers hs one two a b p q first second put put' =
    ap (map pred_tree) (put' ∙ (ap (λ (xs : List CorePred). xs ++ b ∷ []) put ∙ append_assoc hs (a ∷ []) (b ∷ [])))
    ∙ (map-append pred_tree hs (a ∷ b ∷ []) ∙ (ap (λ (x : PredTree). map pred_tree hs ++ x ∷ pred_tree b ∷ []) first ∙ ap (λ (x : PredTree). map pred_tree hs ++ p ∷ x ∷ []) second))
