-- Branches and conditions, one after the other.
use Rattle.std.proofs.Common.{◌≡◌, ℕ, ◌+◌, ◌<◌, ◌≤◌, List, [], ◌∷◌, ◌++◌, length, get_or, drop, reverse, None, Some, refl, sym, ◌∙◌, ap}
use Rattle.std.proofs.lemmas.List.{drop_all}
use Rattle.pi_core.specs.GoalTree.{GoalTree, if_else}
use Rattle.pi_syntax.specs.ExpTree.{ExpTree, exp_tree, held_tree}
use Rattle.pi_syntax.specs.ExpLists.{exps_of}
use Rattle.std.specs.declared.alloc.Global.{Global}
use Rattle.std.specs.declared.boxed.Box.{Box}
use Rattle.pi_syntax.specs.declared.exp.Exp as e
use Rattle.pi_syntax.specs.declared.exp.Exp.{Exp}
use Rattle.pi_rewrite_slots.specs.Branches.{branches_in}
use Rattle.pi_rewrite_slots.proofs.FlatLemmas.{drop-next}
use Rattle.pi_rewrite_spec.specs.Slots.{SlotNames}
use Rattle.pi_rewrite_spec.specs.Goals.{SlotGoals, SlotBranches, in_turn, either_of, branch_before, choosing}
use Rattle.pi_rewrite_spec.specs.Sites.{Site, behind_exp}
use Rattle.pi_rewrite_spec.specs.Written.{made_as, goal_of, any_of, arrow_in, branches_of, made}
use Rattle.pi_rewrite_goals.proofs.HelperLemmas.{behind-both}
use Rattle.pi_rewrite_loops.specs.Parts.{IsAlone}
use Rattle.pi_rewrite_goals.specs.Joined.{closed, chosen, branches_onto, chosen_onto, IsBranch, AreBranches, AreConditions}
use Rattle.pi_rewrite_goals.specs.declared.branches.Branch.{Branch}
use Rattle.pi_rewrite_goals.specs.declared.branches.Branch.TheVariants.{Goal, Choice}
use Rattle.pi_rewrite_goals.specs.declared.branches.Condition.{Condition}

-- ---- one more

closed-push : (bs : List Branch) (b : Branch) (gs : List GoalTree) → closed (bs ++ b ∷ []) gs ≡ closed bs (closed (b ∷ []) gs)
closed-push [] b gs = refl
closed-push (Goal g ∷ bs) b gs = ap (λ hs. g ∷ hs) (closed-push bs b gs)
closed-push (Choice test body ∷ bs) b gs = ap (λ hs. if_else test body (either_of hs) ∷ []) (closed-push bs b gs)

chosen-push : (cs : List Condition) (c : Condition) (gs : List GoalTree) → chosen (cs ++ c ∷ []) gs ≡ chosen cs (if_else c.test c.body (in_turn gs) ∷ [])
chosen-push [] c gs = refl
chosen-push (d ∷ cs) c gs = ap (λ hs. if_else d.test d.body (in_turn hs) ∷ []) (chosen-push cs c gs)

-- ---- from the last one on

pub closed-popped : (bs rest : List Branch) (b : Branch) (behind now : List GoalTree) (whole : List GoalTree) → bs ≡ rest ++ b ∷ [] → reverse now ≡ closed (b ∷ []) (reverse behind) → closed bs (reverse behind) ≡ whole → closed rest (reverse now) ≡ whole
closed-popped bs rest b behind now whole popped is so = ap (closed rest) is ∙ (sym (closed-push rest b (reverse behind)) ∙ (ap (λ xs. closed xs (reverse behind)) (sym popped) ∙ so))

pub closed-none : (bs : List Branch) (gs whole : List GoalTree) → bs ≡ [] → closed bs gs ≡ whole → gs ≡ whole
closed-none bs gs whole empty so = sym (ap (λ xs. closed xs gs) empty) ∙ so

pub chosen-popped : (cs rest : List Condition) (c : Condition) (other now whole : List GoalTree) (otherwise choice : GoalTree) → cs ≡ rest ++ c ∷ [] → otherwise ≡ in_turn other → choice ≡ if_else c.test c.body otherwise → now ≡ choice ∷ [] → chosen cs other ≡ whole → chosen rest now ≡ whole
chosen-popped cs rest c other now whole otherwise choice popped turn made one so =
    ap (chosen rest) (one ∙ (ap (λ (g : GoalTree). g ∷ []) (made ∙ ap (λ (g : GoalTree). if_else c.test c.body g) turn)))
    ∙ (sym (chosen-push rest c other) ∙ (ap (λ xs. chosen xs other) (sym popped) ∙ so))

pub chosen-none : (cs : List Condition) (gs whole : List GoalTree) → cs ≡ [] → chosen cs gs ≡ whole → gs ≡ whole
chosen-none cs gs whole empty so = sym (ap (λ xs. chosen xs gs) empty) ∙ so

-- ---- a branch

pub goal-branch : (s : Site) (e : ExpTree) (old : SlotNames) (g : GoalTree) (ns : SlotNames) → arrow_in s e ≡ None → IsAlone (goal_of s e old) g ns → IsBranch s e old (Goal g) ns
goal-branch s e old g ns none alone = record {
  is = λ others. ap (λ a. branch_before a (goal_of s e) others old) none
      ∙ (ap (λ (x : GoalTree). record { branches = x ∷ (others (goal_of s e old).names).branches; names = (others (goal_of s e old).names).names }) (sym alone.goal)
      ∙ ap (λ ms. branches_onto (Goal g ∷ []) (others ms)) (sym alone.names));
}

pub arrow-branch : (s s' : Site) (e c b : ExpTree) (old : SlotNames) (test body : GoalTree) (m ns : SlotNames) → e ≡ ExpTree.arrow c b → s' ≡ behind_exp s c → IsAlone (goal_of s c old) test m → IsAlone (goal_of s' b m) body ns → IsBranch s e old (Choice test body) ns
unfolding made_as
arrow-branch s s' e c b old test body m ns p go first second = record {
  is = λ others.
      let whole : SlotNames → SlotBranches = λ ms. record { branches = if_else (in_turn (goal_of s c old).goals) (in_turn (goal_of s' b ms).goals) (either_of (others (goal_of s' b ms).names).branches) ∷ []; names = (others (goal_of s' b ms).names).names } in
      ap (λ z. branch_before (arrow_in s z) (goal_of s z) others old) p
      ∙ (ap (λ z. branch_before (Some (record { test = goal_of s c; body = goal_of z b })) (goal_of s (ExpTree.arrow c b)) others old) (sym go)
      ∙ (ap whole (sym first.names)
      ∙ (ap (λ (x : GoalTree). record { branches = if_else x (in_turn (goal_of s' b m).goals) (either_of (others (goal_of s' b m).names).branches) ∷ []; names = (others (goal_of s' b m).names).names }) (sym first.goal)
      ∙ (ap (λ (x : GoalTree). record { branches = if_else test x (either_of (others (goal_of s' b m).names).branches) ∷ []; names = (others (goal_of s' b m).names).names }) (sym second.goal)
      ∙ ap (λ ms. branches_onto (Choice test body ∷ []) (others ms)) (sym second.names)))));
}

-- ---- branches one after the other

abbrev pub BranchesTo : Site → Site → List Exp → ℕ → SlotNames → SlotNames → List Branch → Type 0
BranchesTo s s' es i old m bs = any_of s (exps_of es) old ≡ branches_onto bs (any_of s' (exps_of (drop i es)) m)

pub branches-none : (s s' : Site) (es : List Exp) (old : SlotNames) (bs : List Branch) → s' ≡ s → bs ≡ [] → BranchesTo s s' es 0 old old bs
branches-none s s' es old bs here empty = sym (ap (λ xs. branches_onto xs (any_of s' (exps_of es) old)) empty ∙ ap (λ z. any_of z (exps_of es) old) here)

pub branches-more : (first s s' : Site) (es : List Exp) (i : ℕ) (x : Exp) (old m n : SlotNames) (bs cs : List Branch) (b : Branch) → i < length es → x ≡ get_or es i x → s' ≡ behind_exp s (exp_tree x) → IsBranch s (exp_tree x) m b n → cs ≡ bs ++ b ∷ [] →
    BranchesTo first s es i old m bs → BranchesTo first s' es (i + 1) old n cs
unfolding made_as
branches-more first s s' es i x old m n bs cs b lt is go branch put so =
    let others : SlotNames → SlotBranches = any_of (behind_exp s (exp_tree x)) (exps_of (drop (i + 1) es)) in
    so ∙ (ap (λ xs. branches_onto bs (any_of s (exps_of xs) m)) (drop-next es i x lt is)
    ∙ (ap (branches_onto bs) (branch.is others)
    ∙ (ap (λ gs. record { branches = gs; names = (others n).names }) (sym (closed-push bs b (others n).branches)) ∙ (ap (λ xs. branches_onto xs (others n)) (sym put)
    ∙ ap (λ z. branches_onto cs (any_of z (exps_of (drop (i + 1) es)) n)) (sym go)))))

pub branches-end : (s s' : Site) (es : List Exp) (i : ℕ) (old m : SlotNames) (bs : List Branch) → length es ≤ i → BranchesTo s s' es i old m bs → AreBranches s (exps_of es) old bs m
unfolding made_as
branches-end s s' es i old m bs past so = record { are = so ∙ ap (λ xs. branches_onto bs (any_of s' (exps_of xs) m)) (drop_all i es past) }

-- ---- conditions one after the other

abbrev pub ConditionsTo : Site → Site → List (Exp × Exp) → ℕ → SlotNames → SlotNames → List Condition → Type 0
ConditionsTo s s' bs i old m cs = (other : SlotNames → SlotGoals) → branches_of s (branches_in bs) other old ≡ chosen_onto cs (branches_of s' (branches_in (drop i bs)) other m)

pub conditions-none : (s s' : Site) (bs : List (Exp × Exp)) (old : SlotNames) (cs : List Condition) → s' ≡ s → cs ≡ [] → ConditionsTo s s' bs 0 old old cs
conditions-none s s' bs old cs here empty other = sym (ap (λ xs. chosen_onto xs (branches_of s' (branches_in bs) other old)) empty ∙ ap (λ z. branches_of z (branches_in bs) other old) here)

pub conditions-more : (start s t u : Site) (bs : List (Exp × Exp)) (i : ℕ) (x : Exp × Exp) (old m n k : SlotNames) (cs ds : List Condition) (test body : GoalTree) (d : Condition) → i < length bs → x ≡ get_or bs i x → t ≡ behind_exp s (exp_tree x.0) → u ≡ behind_exp t (exp_tree x.1) →
    IsAlone (goal_of s (exp_tree x.0) m) test n → IsAlone (goal_of t (exp_tree x.1) n) body k → d ≡ record { test = test; body = body } → ds ≡ cs ++ d ∷ [] → ConditionsTo start s bs i old m cs → ConditionsTo start u bs (i + 1) old k ds
unfolding made_as
conditions-more start s t u bs i x old m n k cs ds test body d lt is go on first second made put so other =
    let rest : SlotNames → SlotGoals = branches_of u (branches_in (drop (i + 1) bs)) other in
    let whole : SlotNames → SlotGoals = λ ms. record { goals = if_else (in_turn (goal_of s (exp_tree x.0) m).goals) (in_turn (goal_of t (exp_tree x.1) ms).goals) (in_turn (rest (goal_of t (exp_tree x.1) ms).names).goals) ∷ []; names = (rest (goal_of t (exp_tree x.1) ms).names).names } in
    let step : branches_of s (branches_in (drop i bs)) other m ≡ record { goals = if_else test body (in_turn (rest k).goals) ∷ []; names = (rest k).names } =
    ap (λ xs. branches_of s (branches_in xs) other m) (drop-next bs i x lt is)
    ∙ (ap (λ z. choosing (goal_of s (exp_tree x.0) m) (goal_of (behind_exp s (exp_tree x.0)) (exp_tree x.1)) (branches_of z (branches_in (drop (i + 1) bs)) other)) (sym (behind-both s t u (exp_tree x.0) (exp_tree x.1) go on))
    ∙ (ap (λ z. choosing (goal_of s (exp_tree x.0) m) (goal_of z (exp_tree x.1)) rest) (sym go)
    ∙ (ap whole (sym first.names)
    ∙ (ap (λ (g : GoalTree). record { goals = if_else g (in_turn (goal_of t (exp_tree x.1) n).goals) (in_turn (rest (goal_of t (exp_tree x.1) n).names).goals) ∷ []; names = (rest (goal_of t (exp_tree x.1) n).names).names }) (sym first.goal)
    ∙ (ap (λ (g : GoalTree). record { goals = if_else test g (in_turn (rest (goal_of t (exp_tree x.1) n).names).goals) ∷ []; names = (rest (goal_of t (exp_tree x.1) n).names).names }) (sym second.goal)
    ∙ ap (λ ms. record { goals = if_else test body (in_turn (rest ms).goals) ∷ []; names = (rest ms).names }) (sym second.names)))))) in
    so other ∙ (ap (chosen_onto cs) step
    ∙ (ap (λ (c : Condition). record { goals = chosen cs (if_else c.test c.body (in_turn (rest k).goals) ∷ []); names = (rest k).names }) (sym made)
    ∙ (ap (λ gs. record { goals = gs; names = (rest k).names }) (sym (chosen-push cs d (rest k).goals)) ∙ ap (λ xs. chosen_onto xs (rest k)) (sym put))))

pub conditions-end : (s s' : Site) (bs : List (Exp × Exp)) (i : ℕ) (old m : SlotNames) (cs : List Condition) → length bs ≤ i → ConditionsTo s s' bs i old m cs → AreConditions s (branches_in bs) old cs m
unfolding made_as
conditions-end s s' bs i old m cs past so = record { are = λ other. so other ∙ ap (λ xs. chosen_onto cs (branches_of s' (branches_in xs) other m)) (drop_all i bs past) }

pub no-arrow : (s : Site) (x : Exp) → ((a b : Box Exp Global) → x ≡ e.Arrow a b → ⊥) → arrow_in s (exp_tree x) ≡ None
unfolding made_as exp_tree held_tree
no-arrow s (e.Var n) not = refl
no-arrow s (e.Int n) not = refl
no-arrow s (e.Atom n) not = refl
no-arrow s (e.Str n) not = refl
no-arrow s (e.List' place es e.None') not = refl
no-arrow s (e.List' place es (e.Some' there x)) not = refl
no-arrow s (e.Array' place es) not = refl
no-arrow s (e.Call' n place es) not = refl
no-arrow s (e.Quote' place x) not = refl
no-arrow s (e.Index' place x places es) not = refl
no-arrow s (e.Range' place x e.None' places y) not = refl
no-arrow s (e.Range' place x (e.Some' there z) places y) not = refl
no-arrow s (e.At' n place x) not = refl
no-arrow s (e.Collect' b place x places es) not = refl
no-arrow s (e.And' place es) not = refl
no-arrow s (e.Or' place es) not = refl
no-arrow s (e.Arrow' place x places y) not = absurd (not _ _ refl)
no-arrow s (e.If' place bs e.None') not = refl
no-arrow s (e.If' place bs (e.Some' there x)) not = refl
no-arrow s (e.Foreach' place es places x) not = refl
no-arrow s (e.While' place x places y) not = refl
no-arrow s (e.DoWhile' place x places y) not = refl
