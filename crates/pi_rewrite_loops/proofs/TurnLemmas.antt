-- Helpers of loops that begin with no iterator.
use Rattle.std.proofs.Common.{◌≡◌, ℕ, ◌+◌, List, [], ◌∷◌, ◌++◌, length, ◌∙◌, ap, arith}
use Rattle.pi_terms.specs.Tree.{Tree}
use Rattle.pi_core.specs.GoalTree.{GoalTree}
use Rattle.pi_core.specs.CoreTree.{PredTree}
use Rattle.pi_rewrite_spec.specs.Slots.{SlotNames}
use Rattle.pi_rewrite_spec.specs.Goals.{in_turn}
use Rattle.pi_rewrite_spec.specs.Loops.{Loop, loop_slots, slots_from, slots_head, closing, closing_slots, clause_of, helper, again, while_turn, do_turn, only_turn}
use Rattle.pi_rewrite_spec.proofs.EnteredLemmas.{values-long}
use Rattle.pi_rewrite_loops.specs.Helpers.{lowered}
use Rattle.pi_rewrite_loops.specs.Turns.{ends_by, helped}

-- ---- the next turn

pub turn-long : (l : Loop) (count : ℕ) → count ≡ 0 + length l.shared + length l.kept → count ≡ length (loop_slots l)
turn-long l count is = omega (arith, is, values-long l.kept l.shared)

pub again-is : (l : Loop) (count : ℕ) (old args now : List Tree) (name : List ℕ) (g : GoalTree) → count ≡ length (loop_slots l) → old ≡ [] → args ≡ old ++ slots_from 0 count → now ≡ args → name ≡ l.name → g ≡ GoalTree.call name now → g ≡ again l
again-is l count old args now name g at empty put same called is =
    is ∙ (ap (λ (n : List ℕ). GoalTree.call n now) called ∙ ap (GoalTree.call l.name) (same ∙ (put ∙ (ap (λ ts. ts ++ slots_from 0 count) empty ∙ ap (slots_from 0) at))))

pub behind-tick : (gs none one all : List GoalTree) (clock : GoalTree) → clock ≡ GoalTree.tick → none ≡ [] → one ≡ none ++ clock ∷ [] → all ≡ one ++ gs → all ≡ GoalTree.tick ∷ gs
behind-tick gs none one all clock is empty first more = more ∙ ap (λ xs. xs ++ gs) (first ∙ (ap (λ xs. xs ++ clock ∷ []) empty ∙ ap (λ (x : GoalTree). x ∷ []) is))

pub ticked-is : (gs all turn : List GoalTree) (last made : GoalTree) → all ≡ GoalTree.tick ∷ gs → turn ≡ all ++ last ∷ [] → made ≡ in_turn turn → made ≡ in_turn (GoalTree.tick ∷ gs ++ last ∷ [])
ticked-is gs all turn last made is put turned = turned ∙ ap in_turn (put ∙ ap (λ xs. xs ++ last ∷ []) is)

pub ticked-again : (l : Loop) (gs : List GoalTree) (next made : GoalTree) → next ≡ again l → made ≡ in_turn (GoalTree.tick ∷ gs ++ next ∷ []) → made ≡ in_turn (GoalTree.tick ∷ gs ++ again l ∷ [])
ticked-again l gs next made is put = put ∙ ap (λ (x : GoalTree). in_turn (GoalTree.tick ∷ gs ++ x ∷ [])) is

-- ---- the end

pub ends-put : (l : Loop) (ns hs : SlotNames) (k free : ℕ) (old new : List GoalTree) → k ≡ 0 + length l.shared → free ≡ length ns → hs ≡ loop_slots l → new ≡ old ++ closing l.ending l.kept k free hs → new ≡ old ++ ends_by l ns
ends-put l ns hs k free old new variables spare slots put =
    let first : k ≡ length l.shared = variables ∙ omega arith in
    put ∙ (ap (λ (j : ℕ). old ++ closing l.ending l.kept j free hs) first ∙ (ap (λ (j : ℕ). old ++ closing l.ending l.kept (length l.shared) j hs) spare ∙ ap (λ (us : SlotNames). old ++ closing l.ending l.kept (length l.shared) (length ns) us) slots))

pub end-whole : (l : Loop) (ns : SlotNames) (none gs : List GoalTree) (made : GoalTree) → none ≡ [] → gs ≡ none ++ ends_by l ns → made ≡ in_turn gs → made ≡ in_turn (ends_by l ns)
end-whole l ns none gs made empty put turned = turned ∙ ap in_turn (put ∙ ap (λ xs. xs ++ ends_by l ns) empty)

pub tested-is : (l : Loop) (test : List GoalTree) (ns : SlotNames) (a turn other choice : GoalTree) → a ≡ in_turn test → other ≡ in_turn (ends_by l ns) → choice ≡ GoalTree.if_else a turn other → choice ≡ GoalTree.if_else (in_turn test) turn (in_turn (ends_by l ns))
tested-is l test ns a turn other choice tested ended chosen = chosen ∙ (ap (λ (x : GoalTree). GoalTree.if_else x turn other) tested ∙ ap (GoalTree.if_else (in_turn test) turn) ended)

pub tested-again : (l : Loop) (test : List GoalTree) (ns : SlotNames) (next choice : GoalTree) → next ≡ again l → choice ≡ GoalTree.if_else (in_turn test) next (in_turn (ends_by l ns)) → choice ≡ GoalTree.if_else (in_turn test) (again l) (in_turn (ends_by l ns))
tested-again l test ns next choice on chosen = chosen ∙ ap (λ (x : GoalTree). GoalTree.if_else (in_turn test) x (in_turn (ends_by l ns))) on

-- ---- helpers

pub helped-is : (l : Loop) (ns : SlotNames) (count free size : ℕ) (name : List ℕ) (body : GoalTree) (p : PredTree) → count ≡ length (loop_slots l) → free ≡ length ns → size ≡ closing_slots l.kept free → name ≡ l.name → p ≡ helper name count (clause_of (slots_head 0 count) body size ∷ []) → p ≡ helped l body ns
helped-is l ns count free size name body p many spare whole called is =
    let long : ℕ = length (loop_slots l) in
    is ∙ (ap (λ (n : List ℕ). helper n count (clause_of (slots_head 0 count) body size ∷ [])) called ∙ (ap (λ (n : ℕ). helper l.name n (clause_of (slots_head 0 n) body size ∷ [])) many
    ∙ ap (λ (n : ℕ). helper l.name long (clause_of (slots_head 0 long) body n ∷ [])) (whole ∙ ap (closing_slots l.kept) spare)))

pub while-is : (l : Loop) (test body : List GoalTree) (ns : SlotNames) (turn choice : GoalTree) (p : PredTree) → turn ≡ in_turn (GoalTree.tick ∷ body ++ again l ∷ []) → choice ≡ GoalTree.if_else (in_turn test) turn (in_turn (ends_by l ns)) → p ≡ helped l choice ns →
    p ≡ while_turn l (lowered test ns) (λ _. lowered body ns)
while-is l test body ns turn choice p turned chosen is = is ∙ ap (λ (g : GoalTree). helped l g ns) (chosen ∙ ap (λ (x : GoalTree). GoalTree.if_else (in_turn test) x (in_turn (ends_by l ns))) turned)

pub do-is : (l : Loop) (body test : List GoalTree) (ns : SlotNames) (turn choice : GoalTree) (p : PredTree) → choice ≡ GoalTree.if_else (in_turn test) (again l) (in_turn (ends_by l ns)) → turn ≡ in_turn (GoalTree.tick ∷ body ++ choice ∷ []) → p ≡ helped l turn ns →
    p ≡ do_turn l (lowered body ns) (λ _. lowered test ns)
do-is l body test ns turn choice p chosen turned is = is ∙ ap (λ (g : GoalTree). helped l g ns) (turned ∙ ap (λ (x : GoalTree). in_turn (GoalTree.tick ∷ body ++ x ∷ [])) chosen)

pub only-is : (l : Loop) (turn all : List GoalTree) (ns : SlotNames) (body : GoalTree) (p : PredTree) → all ≡ turn ++ ends_by l ns → body ≡ in_turn all → p ≡ helped l body ns → p ≡ only_turn l (lowered turn ns)
only-is l turn all ns body p put turned is = is ∙ ap (λ (g : GoalTree). helped l g ns) (turned ∙ ap in_turn put)
