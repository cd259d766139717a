-- `while` and `do`: the loop where it stands, and its helper.
use Rattle.std.proofs.Common.{◌≡◌, ℕ, List, [], ◌∷◌, ◌++◌, refl, sym, ◌∙◌, ap}
use Rattle.std.proofs.lemmas.List.{map-append}
use Rattle.std.specs.Prelude.{map}
use Rattle.pi_core.specs.GoalTree.{GoalTree}
use Rattle.pi_core.specs.CoreTree.{PredTree, pred_tree}
use Rattle.pi_core.specs.declared.core_program.CorePred.{CorePred}
use Rattle.pi_syntax.specs.ExpTree.{ExpTree, exp_tree}
use Rattle.pi_syntax.specs.declared.exp.Exp.{Exp}
use Rattle.pi_meaning.specs.OverNames.Texts.{Names}
use Rattle.pi_rewrite_spec.specs.Slots.{SlotNames}
use Rattle.pi_rewrite_spec.specs.Goals.{SlotGoals}
use Rattle.pi_rewrite_spec.specs.Sites.{Site, behind_exp}
use Rattle.pi_rewrite_spec.specs.Loops.{as_it_is, Loop, loop_slots, loop_goals, while_turn, while_helper, do_turn, do_helper}
use Rattle.pi_rewrite_spec.specs.Written.{made_as, made, goal_of, while_loop, do_loop, turns_of}
use Rattle.pi_rewrite_spec.specs.Helpers.{goal_helpers}
use Rattle.pi_rewrite_loops.specs.Parts.{AreGoals}
use Rattle.pi_rewrite_sites.specs.SiteOf.{site_of}
use Rattle.pi_rewrite_loops.specs.Helpers.{loop_of, lowered}
use Rattle.pi_rewrite_goals.specs.Lowering.{Puts, so_far}
use Rattle.pi_rewrite_goals.specs.Turning.{HasTurns, EndsTurns}
use Rattle.pi_rewrite_goals.specs.declared.loops.Turns.{Turns}
use Rattle.pi_rewrite_goals.proofs.ValueLemmas.{goals-as}
use Rattle.pi_rewrite_goals.proofs.HelperLemmas.{three-helpers}

-- one helper more
pub pushed-helper : (old new : List CorePred) (p : CorePred) (h : PredTree) → new ≡ old ++ p ∷ [] → pred_tree p ≡ h → map pred_tree new ≡ map pred_tree old ++ h ∷ []
pushed-helper old new p h put is = ap (map pred_tree) put ∙ (map-append pred_tree old (p ∷ []) ∙ ap (λ (x : PredTree). map pred_tree old ++ x ∷ []) is)

-- what is put into an empty list, and the slots behind it
from-none : (g : SlotGoals) (none gs : List GoalTree) (m : SlotNames) → none ≡ [] → AreGoals g none gs m → gs ≡ g.goals
from-none g none gs m empty put = put.goals ∙ ap (λ hs. hs ++ g.goals) empty

-- ---- where the loop stands

put-while : (s : Site) (before : Names) (e c b : ExpTree) (l : Loop) (ns m : SlotNames) (old new : List GoalTree) → e ≡ ExpTree.while_do c b → before ≡ s.before → l ≡ while_loop s c b → AreGoals (loop_goals s.filled before l ns) old new m → AreGoals (goal_of s e ns) old new m
unfolding made_as
put-while s before e c b l ns m old new p same is put =
    goals-as (goal_of s e ns) (loop_goals s.filled before l ns) old new m
    (ap (λ z. goal_of s z ns) p ∙ (ap (λ w. loop_goals s.filled s.before w ns) (sym is) ∙ ap (λ w. loop_goals s.filled w l ns) (sym same))) put

put-do : (s : Site) (before : Names) (e b c : ExpTree) (l : Loop) (ns m : SlotNames) (old new : List GoalTree) → e ≡ ExpTree.do_while b c → before ≡ s.before → l ≡ do_loop s b c → AreGoals (loop_goals s.filled before l ns) old new m → AreGoals (goal_of s e ns) old new m
unfolding made_as
put-do s before e b c l ns m old new p same is put =
    goals-as (goal_of s e ns) (loop_goals s.filled before l ns) old new m
    (ap (λ z. goal_of s z ns) p ∙ (ap (λ w. loop_goals s.filled s.before w ns) (sym is) ∙ ap (λ w. loop_goals s.filled w l ns) (sym same))) put

-- ---- helpers

abbrev pub while_shape : Loop → List GoalTree → List GoalTree → SlotNames → PredTree
while_shape l tests turn ns = while_turn l (lowered tests ns) (λ ms. lowered turn ns)

while-shape : (l : Loop) (g h : SlotNames → SlotGoals) (one two tests turn : List GoalTree) (start mid end : SlotNames) → start ≡ loop_slots l → one ≡ [] → AreGoals (g start) one tests mid → two ≡ [] → AreGoals (h mid) two turn end →
    while_shape l tests turn end ≡ while_helper l g h
while-shape l g h one two tests turn start mid end at none first empty second =
    let test : SlotGoals = g (loop_slots l) in
    let same : mid ≡ test.names = first.names ∙ ap (λ x. (g x).names) at in
    let tests-are : tests ≡ test.goals = from-none (g start) one tests mid none first ∙ ap (λ x. (g x).goals) at in
    let turn-is : turn ≡ (h test.names).goals = from-none (h mid) two turn end empty second ∙ ap (λ x. (h x).goals) same in
    let end-is : end ≡ (h test.names).names = second.names ∙ ap (λ x. (h x).names) same in
    ap (λ x. while_shape l x turn end) tests-are ∙ (ap (λ x. while_shape l test.goals x end) turn-is ∙ ap (λ x. while_shape l test.goals (h test.names).goals x) end-is)

helpers-while : (s t u : Site) (e c b : ExpTree) (l : Loop) (h : PredTree) → e ≡ ExpTree.while_do c b → l ≡ while_loop s c b → t ≡ turns_of s l → u ≡ behind_exp t c → h ≡ while_helper l (goal_of t c) (goal_of u b) →
    goal_helpers s e ≡ goal_helpers t c ++ (goal_helpers u b ++ h ∷ [])
unfolding goal_helpers
helpers-while s t u e c b l h p is at next made =
    ap (goal_helpers s) p
    ∙ (ap (λ w. goal_helpers (turns_of s w) c ++ (goal_helpers (behind_exp (turns_of s w) c) b ++ while_helper w (goal_of (turns_of s w) c) (goal_of (behind_exp (turns_of s w) c) b) ∷ [])) (sym is)
    ∙ (ap (λ z. goal_helpers z c ++ (goal_helpers (behind_exp z c) b ++ while_helper l (goal_of z c) (goal_of (behind_exp z c) b) ∷ [])) (sym at)
    ∙ (ap (λ z. goal_helpers t c ++ (goal_helpers z b ++ while_helper l (goal_of t c) (goal_of z b) ∷ [])) (sym next) ∙ ap (λ (z : PredTree). goal_helpers t c ++ (goal_helpers u b ++ z ∷ [])) (sym made))))

abbrev pub do_shape : Loop → List GoalTree → List GoalTree → SlotNames → PredTree
do_shape l turn tests ns = do_turn l (lowered turn ns) (λ ms. lowered tests ns)

do-shape : (l : Loop) (g h : SlotNames → SlotGoals) (one two turn tests : List GoalTree) (start mid end : SlotNames) → start ≡ loop_slots l → one ≡ [] → AreGoals (g start) one turn mid → two ≡ [] → AreGoals (h mid) two tests end →
    do_shape l turn tests end ≡ do_helper l g h
do-shape l g h one two turn tests start mid end at none first empty second =
    let body : SlotGoals = g (loop_slots l) in
    let same : mid ≡ body.names = first.names ∙ ap (λ x. (g x).names) at in
    let turn-is : turn ≡ body.goals = from-none (g start) one turn mid none first ∙ ap (λ x. (g x).goals) at in
    let tests-are : tests ≡ (h body.names).goals = from-none (h mid) two tests end empty second ∙ ap (λ x. (h x).goals) same in
    let end-is : end ≡ (h body.names).names = second.names ∙ ap (λ x. (h x).names) same in
    ap (λ x. do_shape l x tests end) turn-is ∙ (ap (λ x. do_shape l body.goals x end) tests-are ∙ ap (λ x. do_shape l body.goals (h body.names).goals x) end-is)

helpers-do : (s t u : Site) (e b c : ExpTree) (l : Loop) (h : PredTree) → e ≡ ExpTree.do_while b c → l ≡ do_loop s b c → t ≡ turns_of s l → u ≡ behind_exp t b → h ≡ do_helper l (goal_of t b) (goal_of u c) →
    goal_helpers s e ≡ goal_helpers t b ++ (goal_helpers u c ++ h ∷ [])
unfolding goal_helpers
helpers-do s t u e b c l h p is at next made =
    ap (goal_helpers s) p
    ∙ (ap (λ w. goal_helpers (turns_of s w) b ++ (goal_helpers (behind_exp (turns_of s w) b) c ++ do_helper w (goal_of (turns_of s w) b) (goal_of (behind_exp (turns_of s w) b) c) ∷ [])) (sym is)
    ∙ (ap (λ z. goal_helpers z b ++ (goal_helpers (behind_exp z b) c ++ do_helper l (goal_of z b) (goal_of (behind_exp z b) c) ∷ [])) (sym at)
    ∙ (ap (λ z. goal_helpers t b ++ (goal_helpers z c ++ do_helper l (goal_of t b) (goal_of z c) ∷ [])) (sym next) ∙ ap (λ (z : PredTree). goal_helpers t b ++ (goal_helpers u c ++ z ∷ [])) (sym made))))

-- ---- both, whose turns code goes through

pub while-whole : (s : Site) (e : ExpTree) (a b c d : Exp) (t : Turns) (ns m : SlotNames) (old new first last : List GoalTree) (mid end : SlotNames) (before one two all : List CorePred) → e ≡ ExpTree.while_do (exp_tree c) (exp_tree d) → a ≡ c → b ≡ d →
    HasTurns s (while_loop s (exp_tree a) (exp_tree b)) (exp_tree a) t → Puts (site_of t.first) (exp_tree c) (so_far t.slots t.one.items before) (so_far mid first one) → Puts (site_of t.second) (exp_tree d) (so_far mid t.other.items one) (so_far end last two) →
    EndsTurns s (loop_of t.whole) (while_shape (loop_of t.whole) first last end) ns old new m (map pred_tree two) (map pred_tree all) → Puts s e (so_far ns old before) (so_far m new all)
while-whole s e a b c d t ns m old new first last mid end before one two all p same other begun put more ended =
    let l : Loop = loop_of t.whole in
    let x : ExpTree = exp_tree c in
    let y : ExpTree = exp_tree d in
    let g : SlotNames → SlotGoals = goal_of (site_of t.first) x in
    let h : SlotNames → SlotGoals = goal_of (site_of t.second) y in
    let it : l ≡ while_loop s x y = begun.whole ∙ (ap (λ z. while_loop s (exp_tree z) (exp_tree b)) same ∙ ap (λ z. while_loop s x (exp_tree z)) other) in
    let at : site_of t.first ≡ turns_of s l = begun.first ∙ ap (turns_of s) (sym begun.whole) in
    let next : site_of t.second ≡ behind_exp (site_of t.first) x = begun.second ∙ (ap (λ z. behind_exp z (exp_tree a)) (sym begun.first) ∙ ap (λ z. behind_exp (site_of t.first) (exp_tree z)) same) in
    record {
      is = put-while s s.before e x y l ns m old new p refl it ended.put;
      helpers = three-helpers (map pred_tree before) (map pred_tree one) (map pred_tree two) (map pred_tree all) (goal_helpers (site_of t.first) x) (goal_helpers (site_of t.second) y) (while_helper l g h ∷ []) (goal_helpers s e)
          (helpers-while s (site_of t.first) (site_of t.second) e x y l (while_helper l g h) p it at next refl) put.helpers more.helpers
          (ended.owns ∙ ap (λ (z : PredTree). map pred_tree two ++ z ∷ []) (while-shape l g h t.one.items t.other.items first last t.slots mid end (begun.slots ∙ ap loop_slots (sym begun.whole)) begun.one put.is begun.other more.is));
    }

pub do-whole : (s : Site) (e : ExpTree) (a b c d : Exp) (t : Turns) (ns m : SlotNames) (old new first last : List GoalTree) (mid end : SlotNames) (before one two all : List CorePred) → e ≡ ExpTree.do_while (exp_tree c) (exp_tree d) → a ≡ c → b ≡ d →
    HasTurns s (do_loop s (exp_tree a) (exp_tree b)) (exp_tree a) t → Puts (site_of t.first) (exp_tree c) (so_far t.slots t.one.items before) (so_far mid first one) → Puts (site_of t.second) (exp_tree d) (so_far mid t.other.items one) (so_far end last two) →
    EndsTurns s (loop_of t.whole) (do_shape (loop_of t.whole) first last end) ns old new m (map pred_tree two) (map pred_tree all) → Puts s e (so_far ns old before) (so_far m new all)
do-whole s e a b c d t ns m old new first last mid end before one two all p same other begun put more ended =
    let l : Loop = loop_of t.whole in
    let x : ExpTree = exp_tree c in
    let y : ExpTree = exp_tree d in
    let g : SlotNames → SlotGoals = goal_of (site_of t.first) x in
    let h : SlotNames → SlotGoals = goal_of (site_of t.second) y in
    let it : l ≡ do_loop s x y = begun.whole ∙ (ap (λ z. do_loop s (exp_tree z) (exp_tree b)) same ∙ ap (λ z. do_loop s x (exp_tree z)) other) in
    let at : site_of t.first ≡ turns_of s l = begun.first ∙ ap (turns_of s) (sym begun.whole) in
    let next : site_of t.second ≡ behind_exp (site_of t.first) x = begun.second ∙ (ap (λ z. behind_exp z (exp_tree a)) (sym begun.first) ∙ ap (λ z. behind_exp (site_of t.first) (exp_tree z)) same) in
    record {
      is = put-do s s.before e x y l ns m old new p refl it ended.put;
      helpers = three-helpers (map pred_tree before) (map pred_tree one) (map pred_tree two) (map pred_tree all) (goal_helpers (site_of t.first) x) (goal_helpers (site_of t.second) y) (do_helper l g h ∷ []) (goal_helpers s e)
          (helpers-do s (site_of t.first) (site_of t.second) e x y l (do_helper l g h) p it at next refl) put.helpers more.helpers
          (ended.owns ∙ ap (λ (z : PredTree). map pred_tree two ++ z ∷ []) (do-shape l g h t.one.items t.other.items first last t.slots mid end (begun.slots ∙ ap loop_slots (sym begun.whole)) begun.one put.is begun.other more.is));
    }

-- where it ends: the loop behind the goals, from where it stands
pub put-loop : (s : Site) (before : Names) (l : Loop) (ns m : SlotNames) (old new : List GoalTree) → before ≡ s.before → AreGoals (loop_goals s.filled before l ns) old new m → AreGoals (loop_goals s.filled s.before l ns) old new m
put-loop s before l ns m old new same put = goals-as (loop_goals s.filled s.before l ns) (loop_goals s.filled before l ns) old new m (ap (λ w. loop_goals s.filled w l ns) (sym same)) put

-- ---- the loop that code finds

abbrev loop_with : List ℕ → Names → Names → Loop
loop_with name shared kept = record { name = name; shared = shared; kept = kept; ending = as_it_is }

pub loop-by : (name label : List ℕ) (shared known kept left : Names) → name ≡ label → shared ≡ known → kept ≡ left → loop_with name shared kept ≡ loop_with label known left
loop-by name label shared known kept left a b c =
    ap (λ n. loop_with n shared kept) a ∙ (ap (λ ns. loop_with label ns kept) b ∙ ap (λ ns. loop_with label known ns) c)

-- one list of names behind the other
pub both-names : (none one two a b : Names) → none ≡ [] → one ≡ none ++ a → two ≡ one ++ b → two ≡ a ++ b
both-names none one two a b empty first second = second ∙ ap (λ ns. ns ++ b) (first ∙ ap (λ ns. ns ++ a) empty)
