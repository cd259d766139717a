-- Loops over iterators and tests as wholes: `foreach` and comprehensions.
use Rattle.std.proofs.Common.{◌≡◌, Bool, true, List, [], ◌∷◌, ◌++◌, length, sym, ◌∙◌, ap, append_assoc}
use Rattle.std.specs.Prelude.{Option, Some, None}
use Rattle.pi_terms.specs.Tree.{Tree}
use Rattle.pi_core.specs.GoalTree.{GoalTree}
use Rattle.pi_core.specs.CoreTree.{PredTree}
use Rattle.pi_syntax.specs.ExpTree.{ExpTree, ExpTrees}
use Rattle.pi_meaning.specs.OverNames.Texts.{Names, begins_with_iterator, assigned, kept_names, patterns_of}
use Rattle.pi_meaning.specs.OverNames.Loops.{hidden}
use Rattle.pi_rewrite_spec.specs.Slots.{SlotNames}
use Rattle.pi_rewrite_spec.specs.Goals.{SlotGoals}
use Rattle.pi_rewrite_spec.specs.Sites.{Site}
use Rattle.pi_rewrite_spec.specs.Loops.{Ending, as_it_is, in_order, Loop as LoopTree, loop_slots, loop_goals, only_turn, started}
use Rattle.pi_rewrite_spec.specs.Iterators.{behind_collection}
use Rattle.pi_rewrite_spec.specs.Comprehensions.{adding, begun}
use Rattle.pi_rewrite_spec.specs.Written.{made_as, Inner, inner_of, gathering, gathered_at, start_loop, turns_of, started_goals, made, goal_of, units}
use Rattle.pi_rewrite_spec.specs.Helpers.{started_helpers, goal_helpers, value_helpers, units_helpers}
use Rattle.pi_rewrite_sites.specs.TextNames.{kept_of}
use Rattle.pi_rewrite_loops.specs.Parts.{AreGoals, IsValue, goals_before}
use Rattle.pi_rewrite_loops.specs.Helpers.{loop_of, lowered}
use Rattle.pi_rewrite_loops.specs.declared.loops.Loop.{Loop}
use Rattle.pi_rewrite_loops.proofs.WholeLemmas.{comprehension-whole}
use Rattle.pi_rewrite_goals.specs.Lowering.{by_place_as, by_place, so_far}
use Rattle.pi_rewrite_goals.specs.Opened.{onto, all_around, all_own, AreOpen}
use Rattle.pi_rewrite_goals.specs.Started.{Begins, Ends, loop_text, turns_at}
use Rattle.pi_rewrite_goals.specs.declared.opened.Open.{Open}
use Rattle.pi_rewrite_goals.proofs.ValueLemmas.{value-as, goals-as}

-- ---- what is open, with what stands in the loop

-- goals behind others
behind-is : (g : SlotGoals) (before turn : List GoalTree) (m : SlotNames) → AreGoals g before turn m → lowered turn m ≡ onto before g
behind-is g before turn m are = ap (λ gs. lowered gs m) are.goals ∙ ap (λ ns. lowered (before ++ g.goals) ns) are.names

-- what all is closed to
pub closed-goals : (s : Site) (ending : Ending) (i : Inner) (us : ExpTrees) (first : List GoalTree) (ns : SlotNames) (os : List Open) (t : Site) (goals turn gs : List GoalTree) (ms m ks : SlotNames) (old new : List PredTree) (body : Site → SlotNames → SlotGoals) → first ≡ [] → AreOpen s ending i us first ns os t goals ms old new →
    AreGoals (body t ms) goals turn m → lowered gs ks ≡ all_around os (lowered turn m) → lowered gs ks ≡ units s ending i us body ns
closed-goals s ending i us first ns os t goals turn gs ms m ks old new body none are put close =
    close ∙ (ap (all_around os) (behind-is (body t ms) goals turn m put) ∙ (sym (are.goals_are body) ∙ ap (λ hs. onto hs (units s ending i us body ns)) none))

pub closed-helpers : (s : Site) (ending : Ending) (i : Inner) (us : ExpTrees) (first : List GoalTree) (ns : SlotNames) (os : List Open) (t : Site) (goals turn : List GoalTree) (ms m : SlotNames) (old new more all : List PredTree) (body : Site → SlotNames → SlotGoals) (inner : Site → List PredTree) →
    AreOpen s ending i us first ns os t goals ms old new → AreGoals (body t ms) goals turn m → more ≡ new ++ inner t → all ≡ more ++ all_own os (lowered turn m) → all ≡ old ++ units_helpers s ending i us body inner
closed-helpers s ending i us first ns os t goals turn ms m old new more all body inner are put here own =
    own ∙ (ap (λ ps. ps ++ all_own os (lowered turn m)) here
    ∙ (append_assoc new (inner t) (all_own os (lowered turn m)) ∙ (ap (λ g. new ++ (inner t ++ all_own os g)) (behind-is (body t ms) goals turn m put) ∙ sym (are.helpers_are body inner))))

-- ---- where it stands

pub whole-goals : (w : Option Loop) (s : Site) (ending : Ending) (kept : Names) (i : Inner) (us : ExpTrees) (ns : SlotNames) (t : Site) (now : Ending) (first gs old new : List GoalTree) (ms ns' ks end : SlotNames) (hs all : List PredTree) (body : Site → SlotNames → SlotGoals) → Begins w (loop_text s ending kept i us) ns (turns_at t now first ms) ns' →
    lowered gs ks ≡ units t now i us body ms → Ends w s (lowered gs ks) (so_far ns' old hs) (so_far end new all) → AreGoals (started_goals (begins_with_iterator us) (units s ending i us body) s (start_loop s ending kept i us) ns) old new end
whole-goals None s ending kept i us ns t now first gs old new ms ns' ks end hs all body begins turn ends =
    let l : LoopTree = start_loop s ending kept i us in
    let there : Site → Ending → SlotNames → SlotGoals = λ z w ms. units z w i us body ms in
    goals-as (started_goals (begins_with_iterator us) (there s ending) s l ns) (lowered gs ks) old new end
    (ap (λ b. started_goals b (there s ending) s l ns) begins.begins
    ∙ (ap (λ ms. there s ending ms) (sym begins.slots) ∙ (ap (λ w. there s w ms) (sym begins.ending_is) ∙ (ap (λ z. there z now ms) (sym begins.site) ∙ sym turn)))) ends.put
whole-goals (Some l) s ending kept i us ns t now first gs old new ms ns' ks end hs all body begins turn ends =
    let there : SlotNames → SlotGoals = units s ending i us body in
    goals-as (started_goals (begins_with_iterator us) there s (start_loop s ending kept i us) ns) (loop_goals s.filled s.before (loop_of l) ns') old new end
    (ap (λ b. started_goals b there s (start_loop s ending kept i us) ns) begins.begins
    ∙ (ap (λ w. loop_goals s.filled s.before w ns) (sym begins.whole) ∙ ap (λ ms. loop_goals s.filled s.before (loop_of l) ms) (sym begins.same))) ends.put

pub whole-helpers : (w : Option Loop) (s : Site) (ending : Ending) (kept : Names) (i : Inner) (us : ExpTrees) (ns : SlotNames) (t : Site) (now : Ending) (first gs old new : List GoalTree) (ms ns' ks end : SlotNames) (before hs all : List PredTree) (body : Site → SlotNames → SlotGoals) (inner : Site → List PredTree) →
    Begins w (loop_text s ending kept i us) ns (turns_at t now first ms) ns' → lowered gs ks ≡ units t now i us body ms → hs ≡ before ++ units_helpers t now i us body inner → Ends w s (lowered gs ks) (so_far ns' old hs) (so_far end new all) →
    all ≡ before ++ started_helpers (begins_with_iterator us) (λ u e. units_helpers u e i us body inner) (λ u. units u as_it_is i us body) s (start_loop s ending kept i us)
whole-helpers None s ending kept i us ns t now first gs old new ms ns' ks end before hs all body inner begins turn own ends =
    let there : Site → Ending → List PredTree = λ u e. units_helpers u e i us body inner in
    let rest : Site → SlotNames → SlotGoals = λ u. units u as_it_is i us body in
    let l : LoopTree = start_loop s ending kept i us in
    ends.helpers ∙ (own ∙ (ap (λ z. before ++ there z now) begins.site ∙ (ap (λ e. before ++ there s e) begins.ending_is ∙ ap (λ b. before ++ started_helpers b there rest s l) (sym begins.begins))))
whole-helpers (Some w) s ending kept i us ns t now first gs old new ms ns' ks end before hs all body inner begins turn own ends =
    let there : Site → Ending → List PredTree = λ u e. units_helpers u e i us body inner in
    let rest : Site → SlotNames → SlotGoals = λ u. units u as_it_is i us body in
    let l : LoopTree = start_loop s ending kept i us in
    let shape : LoopTree → Site → SlotGoals → List PredTree = λ l z g. before ++ (there z as_it_is ++ only_turn l g ∷ []) in
    let turns : SlotGoals = units t now i us body ms in
    ends.helpers
    ∙ (ap (λ (g : SlotGoals). hs ++ only_turn (loop_of w) g ∷ []) turn
    ∙ (ap (λ ps. ps ++ only_turn (loop_of w) turns ∷ []) own
    ∙ (append_assoc before (there t now) (only_turn (loop_of w) turns ∷ [])
    ∙ (ap (λ e. before ++ (there t e ++ only_turn (loop_of w) (units t e i us body ms) ∷ [])) begins.ending_is
    ∙ (ap (λ ns. shape (loop_of w) t (rest t ns)) begins.slots
    ∙ (ap (λ z. shape (loop_of w) z (rest z (loop_slots (loop_of w)))) begins.site
    ∙ (ap (λ l. shape l (turns_of s l) (rest (turns_of s l) (loop_slots l))) begins.whole ∙ ap (λ b. before ++ started_helpers b there rest s l) (sym begins.begins))))))))

-- ---- from where it begins to where it ends

begins-none : (w : Option Loop) (s : Site) (ending : Ending) (kept : Names) (i : Inner) (us : ExpTrees) (ns : SlotNames) (t : Site) (now : Ending) (first : List GoalTree) (ms ns' : SlotNames) → Begins w (loop_text s ending kept i us) ns (turns_at t now first ms) ns' → first ≡ []
begins-none None s ending kept i us ns t now first ms ns' begins = begins.goals_are
begins-none (Some l) s ending kept i us ns t now first ms ns' begins = begins.goals_are

pub iterated-goals : (w : Option Loop) (s : Site) (ending : Ending) (kept : Names) (i : Inner) (us : ExpTrees) (ns : SlotNames) (t : Site) (now : Ending) (first : List GoalTree) (ms ns' : SlotNames) (os : List Open) (u : Site) (goals turn gs old new : List GoalTree) (m n ks end : SlotNames) (before hs hs' all : List PredTree) (body : Site → SlotNames → SlotGoals) →
    Begins w (loop_text s ending kept i us) ns (turns_at t now first ms) ns' → AreOpen t now i us first ms os u goals m before hs → AreGoals (body u m) goals turn n → lowered gs ks ≡ all_around os (lowered turn n) → Ends w s (lowered gs ks) (so_far ns' old hs') (so_far end new all) →
    AreGoals (started_goals (begins_with_iterator us) (units s ending i us body) s (start_loop s ending kept i us) ns) old new end
iterated-goals w s ending kept i us ns t now first ms ns' os u goals turn gs old new m n ks end before hs hs' all body begins are put close ends =
    let turns : lowered gs ks ≡ units t now i us body ms = closed-goals t now i us first ms os u goals turn gs m n ks before hs body (begins-none w s ending kept i us ns t now first ms ns' begins) are put close in
    whole-goals w s ending kept i us ns t now first gs old new ms ns' ks end hs' all body begins turns ends

pub iterated-helpers : (w : Option Loop) (s : Site) (ending : Ending) (kept : Names) (i : Inner) (us : ExpTrees) (ns : SlotNames) (t : Site) (now : Ending) (first : List GoalTree) (ms ns' : SlotNames) (os : List Open) (u : Site) (goals turn gs old new : List GoalTree) (m n ks end : SlotNames) (before hs more hs' all : List PredTree) (body : Site → SlotNames → SlotGoals)
    (inner : Site → List PredTree) → Begins w (loop_text s ending kept i us) ns (turns_at t now first ms) ns' → AreOpen t now i us first ms os u goals m before hs → AreGoals (body u m) goals turn n → more ≡ hs ++ inner u → lowered gs ks ≡ all_around os (lowered turn n) → hs' ≡ more ++ all_own os (lowered turn n) → Ends w s (lowered gs ks) (so_far ns' old hs') (so_far end new all) →
    all ≡ before ++ started_helpers (begins_with_iterator us) (λ v e. units_helpers v e i us body inner) (λ v. units v as_it_is i us body) s (start_loop s ending kept i us)
iterated-helpers w s ending kept i us ns t now first ms ns' os u goals turn gs old new m n ks end before hs more hs' all body inner begins are put here close own ends =
    let turns : lowered gs ks ≡ units t now i us body ms = closed-goals t now i us first ms os u goals turn gs m n ks before hs body (begins-none w s ending kept i us ns t now first ms ns' begins) are put close in
    whole-helpers w s ending kept i us ns t now first gs old new ms ns' ks end before hs' all body inner begins turns (closed-helpers t now i us first ms os u goals turn m n before hs more hs' body inner are put here own) ends

-- ---- `foreach`

-- the names that it keeps: no pattern stands before its units
pub foreach-keeps : (s : Site) (own kept : Names) (e : ExpTree) (es : ExpTrees) (i : Inner) → own ≡ [] → i ≡ inner_of e → kept ≡ kept_of s.before (own ++ patterns_of es) i.assigned → kept ≡ kept_names s.before es (assigned e)
foreach-keeps s own kept e es i none inner is = is ∙ (ap (λ ns. kept_of s.before (ns ++ patterns_of es) i.assigned) none ∙ ap (λ j. kept_of s.before (patterns_of es) j.assigned) inner)

pub put-foreach : (s : Site) (x e : ExpTree) (es : ExpTrees) (i : Inner) (kept : Names) (ns end : SlotNames) (old new : List GoalTree) → x ≡ ExpTree.foreach es e → i ≡ inner_of e → kept ≡ kept_names s.before es (assigned e) →
    AreGoals (started_goals (begins_with_iterator es) (units s as_it_is i es (λ t. goal_of t e)) s (start_loop s as_it_is kept i es) ns) old new end → AreGoals (goal_of s x ns) old new end
unfolding made_as
put-foreach s x e es i kept ns end old new p inner keeps put =
    let whole : Inner → Names → SlotGoals = λ i kept. started_goals (begins_with_iterator es) (units s as_it_is i es (λ t. goal_of t e)) s (start_loop s as_it_is kept i es) ns in
    goals-as (goal_of s x ns) (whole i kept) old new end (ap (λ z. goal_of s z ns) p ∙ (ap (λ i. whole i (kept_names s.before es (assigned e))) (sym inner) ∙ ap (λ names. whole i names) (sym keeps))) put

pub helpers-foreach : (s : Site) (x e : ExpTree) (es : ExpTrees) (i : Inner) (kept : Names) (old all : List PredTree) → x ≡ ExpTree.foreach es e → i ≡ inner_of e → kept ≡ kept_names s.before es (assigned e) →
    all ≡ old ++ started_helpers (begins_with_iterator es) (λ u ending. units_helpers u ending i es (λ v. goal_of v e) (λ v. goal_helpers v e)) (λ u. units u as_it_is i es (λ v. goal_of v e)) s (start_loop s as_it_is kept i es) → all ≡ old ++ goal_helpers s x
unfolding value_helpers
helpers-foreach s x e es i kept old all p inner keeps put =
    let whole : Inner → Names → List PredTree = λ i kept. started_helpers (begins_with_iterator es) (λ u ending. units_helpers u ending i es (λ v. goal_of v e) (λ v. goal_helpers v e)) (λ u. units u as_it_is i es (λ v. goal_of v e)) s (start_loop s as_it_is kept i es) in
    put ∙ (ap (λ names. old ++ whole i names) keeps ∙ (ap (λ i. old ++ whole i (kept_names s.before es (assigned e))) inner ∙ ap (λ z. old ++ goal_helpers s z) (sym p)))

-- ---- comprehensions

-- what stands in its turns
abbrev pub added : ExpTree → Site → SlotNames → SlotGoals
added e u ms = adding (by_place true u e ms)

pub put-collect : (s t : Site) (one : Names) (x e : ExpTree) (es : ExpTrees) (is_array : Bool) (i : Inner) (kept : Names) (ns ms us vs ks : SlotNames) (old a b new : List GoalTree) (term : Tree) → x ≡ ExpTree.collect is_array e es → i ≡ gathering e → kept ≡ hidden ∷ [] → t ≡ gathered_at s → one ≡ s.before →
    AreGoals (goals_before (started s.filled one ns)) old a ms → AreGoals (begun ms) a b us → AreGoals (started_goals (begins_with_iterator es) (units t (in_order is_array) i es (added e)) t (start_loop t (in_order is_array) kept i es) us) b new vs → term ≡ Tree.var (length ms) → ks ≡ behind_collection ms vs → IsValue (made s x ns) old new term ks
unfolding made_as by_place_as
put-collect s t one x e es is_array i kept ns ms us vs ks old a b new term p inner keeps at same start begins ends is behind =
    let loop : Site → Inner → Names → SlotNames → SlotGoals = λ z i kept. started_goals (begins_with_iterator es) (units z (in_order is_array) i es (added e)) z (start_loop z (in_order is_array) kept i es) in
    let whole : SlotNames → SlotGoals = loop (gathered_at s) (gathering e) (hidden ∷ []) in
    let there : loop t i kept us ≡ whole us = ap (λ z. loop z i kept us) at ∙ (ap (λ j. loop (gathered_at s) j kept us) inner ∙ ap (λ names. loop (gathered_at s) (gathering e) names us) keeps) in
    let first : AreGoals (goals_before (started s.filled s.before ns)) old a ms = goals-as (goals_before (started s.filled s.before ns)) (goals_before (started s.filled one ns)) old a ms (ap (λ w. goals_before (started s.filled w ns)) (sym same)) start in
    let last : AreGoals (whole us) b new vs = goals-as (whole us) (loop t i kept us) b new vs (sym there) ends in
    value-as (made s x ns) (made s (ExpTree.collect is_array e es) ns) old new term ks (ap (λ z. made s z ns) p) (comprehension-whole s.filled s.before whole ns ms us vs ks old a b new term first begins last is behind)

pub helpers-collect : (s t : Site) (x e : ExpTree) (es : ExpTrees) (is_array : Bool) (i : Inner) (kept : Names) (old all : List PredTree) → x ≡ ExpTree.collect is_array e es → i ≡ gathering e → kept ≡ hidden ∷ [] → t ≡ gathered_at s →
    all ≡ old ++ started_helpers (begins_with_iterator es) (λ u ending. units_helpers u ending i es (added e) (λ v. value_helpers v e)) (λ u. units u as_it_is i es (added e)) t (start_loop t (in_order is_array) kept i es) → all ≡ old ++ value_helpers s x
unfolding value_helpers by_place_as
helpers-collect s t x e es is_array i kept old all p inner keeps at put =
    let whole : Site → Inner → Names → List PredTree = λ z i kept. started_helpers (begins_with_iterator es) (λ u ending. units_helpers u ending i es (added e) (λ v. value_helpers v e)) (λ u. units u as_it_is i es (added e)) z (start_loop z (in_order is_array) kept i es) in
    put
    ∙ (ap (λ z. old ++ whole z i kept) at
    ∙ (ap (λ j. old ++ whole (gathered_at s) j kept) inner ∙ (ap (λ names. old ++ whole (gathered_at s) (gathering e) names) keeps ∙ ap (λ z. old ++ value_helpers s z) (sym p))))
