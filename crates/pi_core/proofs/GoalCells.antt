-- The cells of goals: of a goal over its child goals, and of goals one after the other.
use Rattle.std.proofs.Common.{◌≡◌, ◌<◌, ◌+◌, ℕ, suc, List, [], ◌∷◌, ◌++◌, length, get_or, take, map, refl, ap, sym, ◌∙◌, append_assoc, add-one, arith}
use Rattle.std.proofs.lemmas.List.{append-nil, map-append, length-map, take_more}
use Rattle.pi_core.specs.GoalTree.{GoalTree, GoalTrees, no_goals, goal, goals_of, count_goals, goal_at, children, subgoals, subgoals_all, nodes_all}
use Rattle.pi_core.specs.GoalCells.{kind_of, arity, over, cell_of, flat, flat_all, spelled, goal_of, append_goals-none, subgoals-children, spelled-flat_all, goal_of-flat}
use Rattle.pi_core.specs.declared.goal_node.GoalCell.{GoalCell}
use Rattle.pi_core.specs.declared.goal_node.GoalKind.{GoalKind}
use Rattle.pi_core.specs.declared.goal_node.GoalKind.TheVariants.{True, Fail, Tick, Call, Apply, Seq, Alt, If, Not, Once, Collect, Count, Catch}

-- ---- goals one after the other

pub flat_all-goal : (g : GoalTree) (gs : GoalTrees) → flat_all (goal g gs) ≡ flat g ++ flat_all gs
unfolding flat flat_all subgoals
flat_all-goal g gs = map-append cell_of (subgoals g) (subgoals_all gs)

pub flat_all-none : flat_all no_goals ≡ []
unfolding flat_all subgoals
flat_all-none = refl

pub flat_all-one : (g : GoalTree) → flat_all (goals_of (g ∷ [])) ≡ [] ++ flat g
flat_all-one g = flat_all-goal g no_goals ∙ (ap (λ r. flat g ++ r) flat_all-none ∙ append-nil (flat g))

pub flat_all-two : (g h : GoalTree) → flat_all (goals_of (g ∷ h ∷ [])) ≡ ([] ++ flat g) ++ flat h
flat_all-two g h = flat_all-goal g (goal h no_goals) ∙ ap (λ r. flat g ++ r) (flat_all-one h)

pub flat_all-three : (g h i : GoalTree) → flat_all (goals_of (g ∷ h ∷ i ∷ [])) ≡ (([] ++ flat g) ++ flat h) ++ flat i
flat_all-three g h i = flat_all-goal g (goals_of (h ∷ i ∷ [])) ∙ (ap (λ r. flat g ++ r) (flat_all-two h i) ∙ sym (append_assoc (flat g) (flat h) (flat i)))

pub flat_all-push : (gs : List GoalTree) (g : GoalTree) → flat_all (goals_of (gs ++ g ∷ [])) ≡ flat_all (goals_of gs) ++ flat g
flat_all-push [] g = flat_all-one g ∙ ap (λ r. r ++ flat g) (sym flat_all-none)
flat_all-push (h ∷ gs) g =
    flat_all-goal h (goals_of (gs ++ g ∷ []))
    ∙ (ap (λ r. flat h ++ r) (flat_all-push gs g)
    ∙ (sym (append_assoc (flat h) (flat_all (goals_of gs)) (flat g)) ∙ ap (λ r. r ++ flat g) (sym (flat_all-goal h (goals_of gs)))))

pub count_goals-goals_of : (gs : List GoalTree) → count_goals (goals_of gs) ≡ length gs
unfolding count_goals
count_goals-goals_of [] = refl
count_goals-goals_of (g ∷ gs) = ap suc (count_goals-goals_of gs)

-- the goals that the cells spell
pub spelled-all : (gs : GoalTrees) (cs : List GoalCell) → cs ≡ flat_all gs → spelled cs ≡ gs
unfolding spelled
spelled-all gs cs e =
    ap spelled (e ∙ sym (append-nil (flat_all gs))) ∙ (spelled-flat_all gs [] ∙ append_goals-none gs)

pub spells-all : (gs : GoalTrees) (cs : List GoalCell) → cs ≡ flat_all gs → cs ≡ flat_all (spelled cs)
spells-all gs cs e = e ∙ ap flat_all (sym (spelled-all gs cs e))

-- ---- a goal over its child goals

pub kind_of-over : (kind : GoalKind) (gs : GoalTrees) → count_goals gs ≡ arity kind → kind_of (over kind gs) ≡ kind
unfolding kind_of
kind_of-over True gs h = refl
kind_of-over Fail gs h = refl
kind_of-over Tick gs h = refl
kind_of-over (Call name args) gs h = refl
kind_of-over (Apply name args slot) gs h = refl
kind_of-over (Seq k) gs h = ap Seq h
kind_of-over (Alt k) gs h = ap Alt h
kind_of-over If gs h = refl
kind_of-over Not gs h = refl
kind_of-over Once gs h = refl
kind_of-over (Collect value into) gs h = refl
kind_of-over (Count into) gs h = refl
kind_of-over (Catch ball) gs h = refl

none : (gs : GoalTrees) → count_goals gs ≡ 0 → no_goals ≡ gs
unfolding count_goals
none no_goals h = refl
none (goal g gs) h = absurd (omega arith)

one : (gs : GoalTrees) → count_goals gs ≡ 1 → goal (goal_at gs 0) no_goals ≡ gs
unfolding count_goals goal_at
one no_goals h = absurd (omega arith)
one (goal g gs) h = ap (λ r. goal g r) (none gs (omega arith))

two : (gs : GoalTrees) → count_goals gs ≡ 2 → goal (goal_at gs 0) (goal (goal_at gs 1) no_goals) ≡ gs
unfolding count_goals goal_at
two no_goals h = absurd (omega arith)
two (goal g gs) h = ap (λ r. goal g r) (one gs (omega arith))

three : (gs : GoalTrees) → count_goals gs ≡ 3 → goal (goal_at gs 0) (goal (goal_at gs 1) (goal (goal_at gs 2) no_goals)) ≡ gs
unfolding count_goals goal_at
three no_goals h = absurd (omega arith)
three (goal g gs) h = ap (λ r. goal g r) (two gs (omega arith))

pub children-over : (kind : GoalKind) (gs : GoalTrees) → count_goals gs ≡ arity kind → children (over kind gs) ≡ gs
unfolding children
children-over True gs h = none gs h
children-over Fail gs h = none gs h
children-over Tick gs h = none gs h
children-over (Call name args) gs h = none gs h
children-over (Apply name args slot) gs h = none gs h
children-over (Seq k) gs h = refl
children-over (Alt k) gs h = refl
children-over If gs h = three gs h
children-over Not gs h = one gs h
children-over Once gs h = one gs h
children-over (Collect value into) gs h = one gs h
children-over (Count into) gs h = one gs h
children-over (Catch ball) gs h = two gs h

pub flat-over : (kind : GoalKind) (gs : GoalTrees) → count_goals gs ≡ arity kind → flat (over kind gs) ≡ record { kind = kind; size = suc (nodes_all gs) } ∷ flat_all gs
unfolding flat flat_all
flat-over kind gs h =
    ap (map cell_of) (subgoals-children (over kind gs))
    ∙ (ap (λ (r : List GoalTree). (let c : GoalCell = record { kind = kind_of (over kind gs); size = length r } in c) ∷ map cell_of (subgoals_all (children (over kind gs)))) (subgoals-children (over kind gs))
    ∙ (ap (λ (r : GoalTrees). (let c : GoalCell = record { kind = kind_of (over kind gs); size = suc (nodes_all r) } in c) ∷ map cell_of (subgoals_all r)) (children-over kind gs h)
    ∙ ap (λ (r : GoalKind). (let c : GoalCell = record { kind = r; size = suc (nodes_all gs) } in c) ∷ map cell_of (subgoals_all gs)) (kind_of-over kind gs h)))

length-flat_all : (gs : GoalTrees) → length (flat_all gs) ≡ nodes_all gs
unfolding flat_all
length-flat_all gs = length-map (subgoals_all gs) cell_of

-- the cells of a goal of this kind over the child goals that `below` spells
pub cells-over : (kind : GoalKind) (below cells : List GoalCell) → below ≡ flat_all (spelled below) → count_goals (spelled below) ≡ arity kind → cells ≡ record { kind = kind; size = length below + 1 } ∷ below → cells ≡ flat (over kind (spelled below))
cells-over kind below cells spells has is =
    is
    ∙ (ap (λ (n : ℕ). (let c : GoalCell = record { kind = kind; size = n } in c) ∷ below) (add-one (length below) ∙ ap suc (ap length spells ∙ length-flat_all (spelled below)))
    ∙ (ap (λ (r : List GoalCell). (let c : GoalCell = record { kind = kind; size = suc (nodes_all (spelled below)) } in c) ∷ r) spells
    ∙ sym (flat-over kind (spelled below) has)))

pub goal_of-cells : (g : GoalTree) (cells : List GoalCell) → cells ≡ flat g → goal_of cells ≡ g
goal_of-cells g cells e = ap goal_of e ∙ goal_of-flat g

pub flat-cells : (g : GoalTree) (cells : List GoalCell) → cells ≡ flat g → cells ≡ flat (goal_of cells)
flat-cells g cells e = e ∙ ap flat (sym (goal_of-cells g cells e))

pub flat_all-more : (gs : List GoalTree) (i : ℕ) (g : GoalTree) → i < length gs → g ≡ get_or gs i g → flat_all (goals_of (take (i + 1) gs)) ≡ flat_all (goals_of (take i gs)) ++ flat g
flat_all-more gs i g h e =
    ap (λ r. flat_all (goals_of r)) (take_more gs i g h)
    ∙ (flat_all-push (take i gs) (get_or gs i g) ∙ ap (λ r. flat_all (goals_of (take i gs)) ++ flat r) (sym e))

-- the cells that are moved one goal after the other
pub one-below : (g : GoalTree) (start cs : List GoalCell) → start ≡ [] → cs ≡ start ++ flat g → cs ≡ flat_all (goals_of (g ∷ []))
one-below g start cs empty e = e ∙ (ap (λ r. r ++ flat g) empty ∙ sym (flat_all-one g))

pub two-below : (g h : GoalTree) (start front cs : List GoalCell) → start ≡ [] → front ≡ start ++ flat g → cs ≡ front ++ flat h → cs ≡ flat_all (goals_of (g ∷ h ∷ []))
two-below g h start front cs empty d e = e ∙ (ap (λ r. r ++ flat h) d ∙ (ap (λ r. (r ++ flat g) ++ flat h) empty ∙ sym (flat_all-two g h)))

pub three-below : (g h i : GoalTree) (start front most cs : List GoalCell) → start ≡ [] → front ≡ start ++ flat g → most ≡ front ++ flat h → cs ≡ most ++ flat i → cs ≡ flat_all (goals_of (g ∷ h ∷ i ∷ []))
three-below g h i start front most cs empty d e f =
    f ∙ (ap (λ r. r ++ flat i) e ∙ (ap (λ r. (r ++ flat h) ++ flat i) d ∙ (ap (λ r. ((r ++ flat g) ++ flat h) ++ flat i) empty ∙ sym (flat_all-three g h i))))

-- how many goals the cells spell
pub count_goals-spelled : (gs : List GoalTree) (cs : List GoalCell) → cs ≡ flat_all (goals_of gs) → count_goals (spelled cs) ≡ length gs
count_goals-spelled gs cs e = ap count_goals (spelled-all (goals_of gs) cs e) ∙ count_goals-goals_of gs
