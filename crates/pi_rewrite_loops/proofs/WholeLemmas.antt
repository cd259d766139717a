-- Loops of parts that are lowered one after the other.
use Rattle.std.proofs.Common.{◌≡◌, ℕ, List, [], ◌++◌, length, sym, ◌∙◌, ap, append_assoc, Bool, true, false, refl, ◌∷◌}
use Rattle.pi_terms.specs.Tree.{Tree}
use Rattle.pi_core.specs.GoalTree.{GoalTree}
use Rattle.pi_core.specs.CoreTree.{PredTree}
use Rattle.pi_syntax.specs.ExpTree.{ExpTree}
use Rattle.pi_meaning.specs.OverNames.Texts.{Names}
use Rattle.pi_rewrite_spec.specs.Slots.{SlotNames}
use Rattle.pi_rewrite_spec.specs.Values.{SlotValue, SlotValues, slot_pattern}
use Rattle.pi_rewrite_spec.specs.Goals.{SlotGoals}
use Rattle.pi_rewrite_spec.specs.Loops.{Loop, loop_slots, started, while_turn, while_helper, do_turn, do_helper, only_turn, only_turn_helper}
use Rattle.pi_rewrite_spec.specs.Iterators.{turn_slots, element_helper, turn_helper, only, walked, over, iterator_goals, behind_collection}
use Rattle.pi_rewrite_spec.specs.Ranges.{SlotRange, range_helper, range_of, step_helper, through, range_goals}
use Rattle.pi_rewrite_spec.specs.Comprehensions.{adding, begun, comprehension}
use Rattle.pi_rewrite_spec.specs.Helpers.{own_helpers}
use Rattle.pi_rewrite_loops.specs.Parts.{AreGoals, IsValue, IsRange, goals_before}
use Rattle.pi_rewrite_loops.specs.Helpers.{lowered, own_by, turns_by, steps_by, range_between}

-- goals behind none
alone : (g : SlotGoals) (old gs : List GoalTree) (ns : SlotNames) → old ≡ [] → AreGoals g old gs ns → gs ≡ g.goals
alone g old gs ns empty are = are.goals ∙ ap (λ xs. xs ++ g.goals) empty

-- ---- helpers

pub while-helped : (l : Loop) (test body : SlotNames → SlotGoals) (p : PredTree) (none none' gs hs : List GoalTree) (us ns ms : SlotNames) → us ≡ loop_slots l → none ≡ [] → AreGoals (test us) none gs ns → none' ≡ [] → AreGoals (body ns) none' hs ms → p ≡ while_turn l (lowered gs ms) (λ _. lowered hs ms) → p ≡ while_helper l test body
while-helped l test body p none none' gs hs us ns ms head empty first empty' second is =
    let by : List GoalTree → SlotGoals → PredTree = λ xs g. while_turn l (lowered xs g.names) (λ _. g) in
    is ∙ (ap (λ xs. while_turn l (lowered gs ms) (λ _. lowered xs ms)) (alone (body ns) none' hs ms empty' second) ∙ (ap (λ (ks : SlotNames). while_turn l (lowered gs ks) (λ _. lowered (body ns).goals ks)) second.names
    ∙ (ap (λ xs. by xs (body ns)) (alone (test us) none gs ns empty first) ∙ (ap (λ (ks : SlotNames). by (test us).goals (body ks)) first.names ∙ ap (λ (ks : SlotNames). while_turn l (test ks) body) head))))

pub do-helped : (l : Loop) (body test : SlotNames → SlotGoals) (p : PredTree) (none none' gs hs : List GoalTree) (us ns ms : SlotNames) → us ≡ loop_slots l → none ≡ [] → AreGoals (body us) none gs ns → none' ≡ [] → AreGoals (test ns) none' hs ms → p ≡ do_turn l (lowered gs ms) (λ _. lowered hs ms) → p ≡ do_helper l body test
do-helped l body test p none none' gs hs us ns ms head empty first empty' second is =
    let by : List GoalTree → SlotGoals → PredTree = λ xs g. do_turn l (lowered xs g.names) (λ _. g) in
    is ∙ (ap (λ xs. do_turn l (lowered gs ms) (λ _. lowered xs ms)) (alone (test ns) none' hs ms empty' second) ∙ (ap (λ (ks : SlotNames). do_turn l (lowered gs ks) (λ _. lowered (test ns).goals ks)) second.names
    ∙ (ap (λ xs. by xs (test ns)) (alone (body us) none gs ns empty first) ∙ (ap (λ (ks : SlotNames). by (body us).goals (test ks)) first.names ∙ ap (λ (ks : SlotNames). do_turn l (body ks) test) head))))

pub only-helped : (l : Loop) (body : SlotNames → SlotGoals) (p : PredTree) (none gs : List GoalTree) (us ns : SlotNames) → us ≡ loop_slots l → none ≡ [] → AreGoals (body us) none gs ns → p ≡ only_turn l (lowered gs ns) → p ≡ only_turn_helper l body
only-helped l body p none gs us ns head empty turn is =
    is ∙ (ap (λ xs. only_turn l (lowered xs ns)) (alone (body us) none gs ns empty turn) ∙ (ap (λ (ks : SlotNames). only_turn l (lowered (body us).goals ks)) turn.names ∙ ap (λ (ks : SlotNames). only_turn l (body ks)) head))

pub turn-helped : (name : List ℕ) (l : Loop) (e : ExpTree) (body : SlotNames → SlotGoals) (p : PredTree) (none gs : List GoalTree) (us ns : SlotNames) → us ≡ turn_slots l (slot_pattern e []) → none ≡ [] → AreGoals (body us) none gs ns → p ≡ turns_by name l (slot_pattern e []) (lowered gs ns) → p ≡ turn_helper name l e body
turn-helped name l e body p none gs us ns head empty turn is =
    is ∙ (ap (λ xs. turns_by name l (slot_pattern e []) (lowered xs ns)) (alone (body us) none gs ns empty turn) ∙ (ap (λ (ks : SlotNames). turns_by name l (slot_pattern e []) (lowered (body us).goals ks)) turn.names ∙ ap (λ (ks : SlotNames). turns_by name l (slot_pattern e []) (body ks)) head))

pub step-helped : (name : List ℕ) (l : Loop) (e : ExpTree) (body : SlotNames → SlotGoals) (p : PredTree) (none gs : List GoalTree) (us ns : SlotNames) → us ≡ turn_slots l (slot_pattern e []) → none ≡ [] → AreGoals (body us) none gs ns → p ≡ steps_by name l (slot_pattern e []) (lowered gs ns) → p ≡ step_helper name l e body
step-helped name l e body p none gs us ns head empty turn is =
    is ∙ (ap (λ xs. steps_by name l (slot_pattern e []) (lowered xs ns)) (alone (body us) none gs ns empty turn) ∙ (ap (λ (ks : SlotNames). steps_by name l (slot_pattern e []) (lowered (body us).goals ks)) turn.names ∙ ap (λ (ks : SlotNames). steps_by name l (slot_pattern e []) (body ks)) head))

pub own-helped : (is_range : Bool) (name : List ℕ) (l : Loop) (e : ExpTree) (body : SlotNames → SlotGoals) (hs all : List PredTree) (none gs : List GoalTree) (us ns : SlotNames) → us ≡ turn_slots l (slot_pattern e []) → none ≡ [] → AreGoals (body us) none gs ns → all ≡ hs ++ own_by is_range name l (slot_pattern e []) (lowered gs ns) →
    all ≡ hs ++ own_helpers is_range name l e body
own-helped true name l e body hs all none gs us ns head empty turn is =
    is ∙ ap (λ (p : PredTree). hs ++ range_helper name l ∷ p ∷ []) (step-helped name l e body (steps_by name l (slot_pattern e []) (lowered gs ns)) none gs us ns head empty turn refl)
own-helped false name l e body hs all none gs us ns head empty turn is =
    is ∙ ap (λ (p : PredTree). hs ++ element_helper name l ∷ p ∷ []) (turn-helped name l e body (turns_by name l (slot_pattern e []) (lowered gs ns)) none gs us ns head empty turn refl)

-- ---- where one stands

-- what is put behind two others
behind-both : (old a b new first second counted calls : List GoalTree) → a ≡ old ++ first → b ≡ a ++ second → new ≡ b ++ (counted ++ calls) → new ≡ old ++ ((first ++ (second ++ counted)) ++ calls)
behind-both old a b new first second counted calls one two all =
    all ∙ (ap (λ xs. xs ++ (counted ++ calls)) (two ∙ ap (λ xs. xs ++ second) one) ∙ (append_assoc (old ++ first) second (counted ++ calls) ∙ (append_assoc old first (second ++ (counted ++ calls))
    ∙ ap (λ xs. old ++ xs) (ap (λ xs. first ++ xs) (sym (append_assoc second counted calls)) ∙ sym (append_assoc first (second ++ counted) calls)))))

pub iterator-whole : (h : ℕ) (before : Names) (l : Loop) (collection : SlotNames → SlotValue) (ns ms us vs ks : SlotNames) (old a b new : List GoalTree) (t : Tree) → AreGoals (goals_before (started h before ns)) old a ms → us ≡ only before ms → IsValue (collection us) a b t vs →
    AreGoals (over l [] (walked ms (record { goals = []; tree = t; names = vs }))) b new ks → AreGoals (iterator_goals h before l collection ns) old new ks
iterator-whole h before l collection ns ms us vs ks old a b new t start finds value put =
    let v : SlotValue = collection us in
    let by : SlotNames → Tree → SlotNames → SlotGoals = λ xs u ys. over l [] (walked xs (record { goals = []; tree = u; names = ys })) in
    let at : by ms t vs ≡ by ms v.tree v.names = ap (λ (u : Tree). by ms u vs) value.tree ∙ ap (λ (ys : SlotNames). by ms v.tree ys) value.names in
    let whole : AreGoals (over l (started h before ns).goals (walked ms (collection us))) old new ks = record {
      goals = behind-both old a b new (started h before ns).goals v.goals _ _ start.goals value.goals (put.goals ∙ ap (λ (g : SlotGoals). b ++ g.goals) at);
      names = put.names ∙ ap (λ (g : SlotGoals). g.names) at;
    } in
    let there : walked ms (collection us) ≡ walked (started h before ns).names (collection (only before (started h before ns).names)) =
    ap (λ (xs : SlotNames). walked ms (collection xs)) finds ∙ ap (λ (xs : SlotNames). walked xs (collection (only before xs))) start.names in
    record {
      goals = whole.goals ∙ ap (λ (w : SlotValue). old ++ (over l (started h before ns).goals w).goals) there;
      names = whole.names ∙ ap (λ (w : SlotValue). (over l (started h before ns).goals w).names) there;
    }

pub range-whole : (h : ℕ) (before : Names) (l : Loop) (bounds : SlotNames → SlotValues) (ns ms us vs ks : SlotNames) (old a b new : List GoalTree) (low step high : Tree) → AreGoals (goals_before (started h before ns)) old a ms → us ≡ only before ms → IsRange (range_of (bounds us)) a b low step high vs →
    AreGoals (through l [] ms (range_between low step high vs)) b new ks → AreGoals (range_goals h before l bounds ns) old new ks
range-whole h before l bounds ns ms us vs ks old a b new low step high start finds range put =
    let r : SlotRange = range_of (bounds us) in
    let by : Tree → Tree → Tree → SlotNames → SlotGoals = λ x y z ys. through l [] ms (range_between x y z ys) in
    let at : by low step high vs ≡ by r.low r.step r.high r.names =
    ap (λ (x : Tree). by x step high vs) range.low ∙ (ap (λ (y : Tree). by r.low y high vs) range.step ∙ (ap (λ (z : Tree). by r.low r.step z vs) range.high ∙ ap (λ (ys : SlotNames). by r.low r.step r.high ys) range.names)) in
    let whole : AreGoals (through l (started h before ns).goals ms (range_of (bounds us))) old new ks = record {
      goals = behind-both old a b new (started h before ns).goals r.goals _ _ start.goals range.goals (put.goals ∙ ap (λ (g : SlotGoals). b ++ g.goals) at);
      names = put.names ∙ ap (λ (g : SlotGoals). g.names) at;
    } in
    let there : through l (started h before ns).goals ms (range_of (bounds us)) ≡ through l (started h before ns).goals (started h before ns).names (range_of (bounds (only before (started h before ns).names))) =
    ap (λ (xs : SlotNames). through l (started h before ns).goals ms (range_of (bounds xs))) finds ∙ ap (λ (xs : SlotNames). through l (started h before ns).goals xs (range_of (bounds (only before xs)))) start.names in
    record { goals = whole.goals ∙ ap (λ (g : SlotGoals). old ++ g.goals) there; names = whole.names ∙ ap (λ (g : SlotGoals). g.names) there }

-- ---- comprehensions

pub adding-whole : (v : SlotValue) (old mid new : List GoalTree) (t : Tree) (ms ks : SlotNames) → IsValue v old mid t ms → AreGoals (adding (record { goals = []; tree = t; names = ms })) mid new ks → AreGoals (adding v) old new ks
adding-whole v old mid new t ms ks value put =
    let by : Tree → SlotNames → SlotGoals = λ u ns. adding (record { goals = []; tree = u; names = ns }) in
    let at : by t ms ≡ by v.tree v.names = ap (λ (u : Tree). by u ms) value.tree ∙ ap (λ (ns : SlotNames). by v.tree ns) value.names in
    record {
      goals = put.goals ∙ (ap (λ (g : SlotGoals). mid ++ g.goals) at ∙ (ap (λ xs. xs ++ (by v.tree v.names).goals) value.goals ∙ append_assoc old v.goals (by v.tree v.names).goals));
      names = put.names ∙ ap (λ (g : SlotGoals). g.names) at;
    }

pub comprehension-whole : (h : ℕ) (before : Names) (loop : SlotNames → SlotGoals) (ns ms us vs ks : SlotNames) (old a b new : List GoalTree) (t : Tree) → AreGoals (goals_before (started h before ns)) old a ms → AreGoals (begun ms) a b us → AreGoals (loop us) b new vs → t ≡ Tree.var (length ms) → ks ≡ behind_collection ms vs →
    IsValue (comprehension h before loop ns) old new t ks
comprehension-whole h before loop ns ms us vs ks old a b new t start begins ends is behind =
    let first : SlotNames = (started h before ns).names in
    let slots : us ≡ (begun first).names = begins.names ∙ ap (λ (xs : SlotNames). (begun xs).names) start.names in
    record {
      goals = ends.goals ∙ (ap (λ xs. xs ++ (loop us).goals) (begins.goals ∙ ap (λ xs. xs ++ (begun ms).goals) start.goals) ∙ (append_assoc (old ++ (started h before ns).goals) (begun ms).goals (loop us).goals
          ∙ (append_assoc old (started h before ns).goals ((begun ms).goals ++ (loop us).goals) ∙ (ap (λ (xs : SlotNames). old ++ ((started h before ns).goals ++ ((begun xs).goals ++ (loop us).goals))) start.names
          ∙ ap (λ (xs : SlotNames). old ++ ((started h before ns).goals ++ ((begun first).goals ++ (loop xs).goals))) slots))));
      tree = is ∙ ap (λ (xs : SlotNames). Tree.var (length xs)) start.names;
      names = behind ∙ (ap (behind_collection ms) (ends.names ∙ ap (λ (xs : SlotNames). (loop xs).names) slots) ∙ ap (λ (xs : SlotNames). behind_collection xs (loop (begun first).names).names) start.names);
    }
