-- What quiet calls weigh: where Ticks stand between them, no more and no less than the clauses that they enter.
use Rattle.std.proofs.Common.{◌≡◌, ◌⊎◌, inl, inr, ℕ, zero, suc, ◌+◌, ◌≤◌, ◌<◌, ◌||◌, Bool, true, false, cond, List, [], ◌∷◌, length, refl, ap, sym, ◌∙◌, arith}
use Rattle.std.specs.Prelude.{Option, Some, None, Contains, not as inverse}
use Rattle.pi_core.specs.GoalTree.{GoalTree, truth, fail, tick, call, apply, seq, alternatives, if_else, not, once, collect, count, catch, GoalTrees, no_goals, goal}
use Rattle.pi_core.specs.CoreTree.{ClauseTree, PredTree, find_pred}
use Rattle.pi_effects.specs.BuiltIns.{is_predicate}
use Rattle.pi_meaning.specs.Shared.Effects.{is_built_name}
use Rattle.pi_meaning.proofs.Machine.SolveNames.{built-given}
use Rattle.pi_meaning.specs.Shared.Names.{is_call, is_later_predicate, is_given}
use Rattle.pi_meaning.specs.CoreMeaning.Instances.{is_called_by_name}
use Rattle.pi_meaning.specs.CoreMeaning.Quiet.{Callee, Passes, PassesAll, PassesAny, Reaches, ReachesInAll, ReachesInAny, ReachesFrom, IsQuiet, TicksBetween}
use Rattle.pi_meaning.proofs.Machine.NamedLemmas.{is_there}
use Rattle.pi_syntax.specs.declared.program.Mode.{Mode}
use Rattle.pi_meaning.specs.Machine.Weight.{CallWeights, call_weight, goal_weight, goals_weight, branches_weight, rules_weight, facts_weight, clauses_weight, inside_weight, entered_weight, found_weight, calls_within, program_calls}

pub none-of : (a b c : Bool) → a ≡ false → b ≡ false → c ≡ false → (a || (b || c)) ≡ false
none-of a b c x y z = ap (λ p. p || (b || c)) x ∙ (ap (λ q. q || c) y ∙ z)

-- ---- the more is behind, the more a goal weighs

abbrev pub Grow : CallWeights → Type 0
Grow calls = (function : Bool) (name : List ℕ) (k a b : ℕ) → a ≤ b → calls function name k a ≤ calls function name k b

call-more : (called : Bool) (a b : ℕ) → a ≤ b → call_weight called a ≤ call_weight called b
call-more true a b h = omega (arith, h)
call-more false a b h = omega (arith, h)

mutual
  unfolding goal_weight

  goal-more : (calls : CallWeights) → Grow calls → (g : GoalTree) (a b : ℕ) → a ≤ b → goal_weight calls g a ≤ goal_weight calls g b
  goal-more calls grow truth a b h = omega (arith, h)
  goal-more calls grow fail a b h = omega arith
  goal-more calls grow tick a b h = omega arith
  goal-more calls grow (call name args) a b h = omega (arith, call-more (is_call name (length args)) a b h, grow false name (length args) a b h)
  goal-more calls grow (apply name args slot) a b h = omega (arith, h, grow true name (length args) a b h)
  goal-more calls grow (seq gs) a b h = omega (arith, goals-more calls grow gs a b h)
  goal-more calls grow (alternatives gs) a b h = omega (arith, branches-more calls grow gs a b h)
  goal-more calls grow (if_else test g other) a b h =
      let inner : goal_weight calls g a ≤ goal_weight calls g b = goal-more calls grow g a b h in
      omega (arith, goal-more calls grow test (suc (goal_weight calls g a)) (suc (goal_weight calls g b)) (omega (arith, inner)), goal-more calls grow other a b h)
  goal-more calls grow (not g) a b h = omega (arith, h)
  goal-more calls grow (once g) a b h = omega (arith, goal-more calls grow g (suc a) (suc b) (omega (arith, h)))
  goal-more calls grow (collect g value into) a b h = omega (arith, h)
  goal-more calls grow (count g into) a b h = omega (arith, h)
  goal-more calls grow (catch g ball handler) a b h = omega (arith, goal-more calls grow g (suc (suc a)) (suc (suc b)) (omega (arith, h)), goal-more calls grow handler a b h)

  goals-more : (calls : CallWeights) → Grow calls → (gs : GoalTrees) (a b : ℕ) → a ≤ b → goals_weight calls gs a ≤ goals_weight calls gs b
  goals-more calls grow no_goals a b h = h
  goals-more calls grow (goal g gs) a b h = omega (arith, goal-more calls grow g (goals_weight calls gs a) (goals_weight calls gs b) (goals-more calls grow gs a b h))

  branches-more : (calls : CallWeights) → Grow calls → (gs : GoalTrees) (a b : ℕ) → a ≤ b → branches_weight calls gs a ≤ branches_weight calls gs b
  branches-more calls grow no_goals a b h = omega arith
  branches-more calls grow (goal g gs) a b h = omega (arith, goal-more calls grow g a b h, branches-more calls grow gs a b h)

rules-more : (calls : CallWeights) → Grow calls → (cs : List ClauseTree) (a b : ℕ) → a ≤ b → rules_weight calls cs a ≤ rules_weight calls cs b
unfolding rules_weight
rules-more calls grow [] a b h = omega arith
rules-more calls grow (c ∷ cs) a b h =
    let body : goal_weight calls c.body a ≤ goal_weight calls c.body b = goal-more calls grow c.body a b h in
    omega (arith, goal-more calls grow c.guard (suc (goal_weight calls c.body a)) (suc (goal_weight calls c.body b)) (omega (arith, body)), rules-more calls grow cs a b h)

facts-more : (cs : List ClauseTree) (a b : ℕ) → a ≤ b → facts_weight cs a ≤ facts_weight cs b
unfolding facts_weight
facts-more [] a b h = omega arith
facts-more (c ∷ cs) a b h = omega (arith, h, facts-more cs a b h)

pub clauses-more : (calls : CallWeights) → Grow calls → (lists : Option (List (List Mode))) (cs : List ClauseTree) (a b : ℕ) → a ≤ b → clauses_weight calls lists cs a ≤ clauses_weight calls lists cs b
clauses-more calls grow None cs a b h = rules-more calls grow cs a b h
clauses-more calls grow (Some lists) cs a b h = facts-more cs a b h

inside-more : (calls : CallWeights) → Grow calls → (function : Bool) (pred : PredTree) (a b : ℕ) → a ≤ b → inside_weight calls function pred a ≤ inside_weight calls function pred b
inside-more calls grow true pred a b h = rules-more calls grow pred.clauses (suc (suc a)) (suc (suc b)) (omega (arith, h))
inside-more calls grow false pred a b h = clauses-more calls grow pred.index pred.clauses (suc a) (suc b) (omega (arith, h))

entered-more : (calls : CallWeights) → Grow calls → (quiet function : Bool) (pred : PredTree) (a b : ℕ) → a ≤ b → entered_weight calls quiet function pred a ≤ entered_weight calls quiet function pred b
entered-more calls grow true function pred a b h = omega (arith, inside-more calls grow function pred a b h)
entered-more calls grow false function pred a b h = omega arith

found-more : (calls : CallWeights) → Grow calls → (function : Bool) (o : Option PredTree) (a b : ℕ) → a ≤ b → found_weight calls function o a ≤ found_weight calls function o b
found-more calls grow function None a b h = omega arith
found-more calls grow function (Some pred) a b h = entered-more calls grow pred.quiet function pred a b h

unless-more : (given : Bool) (a b : ℕ) → a ≤ b → cond given 0 a ≤ cond given 0 b
unless-more true a b h = omega arith
unless-more false a b h = h

pub within-grows : (preds : List PredTree) (n : ℕ) → Grow (calls_within preds n)
unfolding calls_within
within-grows preds zero function name k a b h = omega arith
within-grows preds (suc n) function name k a b h =
    unless-more (is_given function name k) _ _ (found-more (calls_within preds n) (within-grows preds n) function (find_pred function name k preds) a b h)

-- ---- a goal weighs by the calls that it reaches past no Tick

abbrev pub SameAt : CallWeights → CallWeights → Callee → Type 0
SameAt v w c = (r : ℕ) → v c.function c.name c.arity r ≡ w c.function c.name c.arity r

abbrev callee : Bool → List ℕ → ℕ → Callee
callee function name k = record { function = function; name = name; arity = k }

mutual
  unfolding goal_weight Reaches Passes

  goal-same : (v w : CallWeights) (g : GoalTree) (a b : ℕ) → ((c : Callee) → Reaches c g → SameAt v w c) → (Passes g → a ≡ b) → goal_weight v g a ≡ goal_weight w g b
  goal-same v w truth a b reach pass = ap suc (pass tt)
  goal-same v w fail a b reach pass = refl
  goal-same v w tick a b reach pass = refl
  goal-same v w (call name args) a b reach pass =
      ap (λ r. call_weight (is_call name (length args)) r + v false name (length args) r) (pass tt)
      ∙ ap (λ n. call_weight (is_call name (length args)) b + n) (reach (callee false name (length args)) refl b)
  goal-same v w (apply name args slot) a b reach pass =
      ap (λ r. suc (suc r) + v true name (length args) r) (pass tt) ∙ ap (λ n. suc (suc b) + n) (reach (callee true name (length args)) refl b)
  goal-same v w (seq gs) a b reach pass = ap suc (goals-same v w gs a b reach pass)
  goal-same v w (alternatives gs) a b reach pass = ap suc (branches-same v w gs a b reach pass)
  goal-same v w (if_else test g other) a b reach pass =
      let first : goal_weight v test (suc (goal_weight v g a)) ≡ goal_weight w test (suc (goal_weight w g b)) =
      goal-same v w test (suc (goal_weight v g a)) (suc (goal_weight w g b)) (λ c r. reach c (inl r))
      (λ t. ap suc (goal-same v w g a b (λ c r. reach c (inr (inl (t, r)))) (λ p. pass (inl (t, p))))) in
      let second : goal_weight v other a ≡ goal_weight w other b = goal-same v w other a b (λ c r. reach c (inr (inr r))) (λ p. pass (inr p)) in
      ap (λ n. suc (n + suc (goal_weight v other a))) first ∙ ap (λ n. suc (goal_weight w test (suc (goal_weight w g b)) + suc n)) second
  goal-same v w (not g) a b reach pass =
      ap (λ n. suc (n + suc a)) (goal-same v w g 1 1 reach (λ p. refl)) ∙ ap (λ r. suc (goal_weight w g 1 + suc r)) (pass tt)
  goal-same v w (once g) a b reach pass = ap (λ n. suc (n + 1)) (goal-same v w g (suc a) (suc b) reach (λ p. ap suc (pass p)))
  goal-same v w (collect g value into) a b reach pass =
      ap (λ n. suc (n + suc a)) (goal-same v w g 2 2 reach (λ p. refl)) ∙ ap (λ r. suc (goal_weight w g 2 + suc r)) (pass tt)
  goal-same v w (count g into) a b reach pass =
      ap (λ n. suc (n + suc a)) (goal-same v w g 1 1 reach (λ p. refl)) ∙ ap (λ r. suc (goal_weight w g 1 + suc r)) (pass tt)
  goal-same v w (catch g ball handler) a b reach pass =
      ap (λ n. suc (n + suc (goal_weight v handler a))) (goal-same v w g (suc (suc a)) (suc (suc b)) (λ c r. reach c (inl r)) (λ p. ap (λ n. suc (suc n)) (pass (inl p))))
      ∙ ap (λ n. suc (goal_weight w g (suc (suc b)) + suc n)) (goal-same v w handler a b (λ c r. reach c (inr r)) (λ p. pass (inr p)))

  goals-same : (v w : CallWeights) (gs : GoalTrees) (a b : ℕ) → ((c : Callee) → ReachesInAll c gs → SameAt v w c) → (PassesAll gs → a ≡ b) → goals_weight v gs a ≡ goals_weight w gs b
  goals-same v w no_goals a b reach pass = pass tt
  goals-same v w (goal g gs) a b reach pass =
      ap suc (goal-same v w g (goals_weight v gs a) (goals_weight w gs b) (λ c r. reach c (inl r)) (λ p. goals-same v w gs a b (λ c r. reach c (inr (p, r))) (λ q. pass (p, q))))

  branches-same : (v w : CallWeights) (gs : GoalTrees) (a b : ℕ) → ((c : Callee) → ReachesInAny c gs → SameAt v w c) → (PassesAny gs → a ≡ b) → branches_weight v gs a ≡ branches_weight w gs b
  branches-same v w no_goals a b reach pass = refl
  branches-same v w (goal g gs) a b reach pass =
      ap (λ n. suc (n + branches_weight v gs a)) (goal-same v w g a b (λ c r. reach c (inl r)) (λ p. pass (inl p)))
      ∙ ap (λ n. suc (goal_weight w g b + n)) (branches-same v w gs a b (λ c r. reach c (inr r)) (λ p. pass (inr p)))

rules-same : (v w : CallWeights) (cs : List ClauseTree) (a : ℕ) → ((c : ClauseTree) → Contains cs c → (d : Callee) → ReachesFrom d c → SameAt v w d) → rules_weight v cs a ≡ rules_weight w cs a
unfolding rules_weight
rules-same v w [] a reach = refl
rules-same v w (c ∷ cs) a reach =
    let here : (d : Callee) → ReachesFrom d c → SameAt v w d = reach c (0, omega arith, refl) in
    ap (λ n. n + suc (rules_weight v cs a))
    (goal-same v w c.guard (suc (goal_weight v c.body a)) (suc (goal_weight w c.body a)) (λ d r. here d (inl r)) (λ p. ap suc (goal-same v w c.body a a (λ d r. here d (inr (p, r))) (λ q. refl))))
    ∙ ap (λ n. goal_weight w c.guard (suc (goal_weight w c.body a)) + suc n) (rules-same v w cs a (λ d within. reach d (suc within.0, omega (arith, within.1), within.2)))

clauses-same : (v w : CallWeights) (lists : Option (List (List Mode))) (cs : List ClauseTree) (a : ℕ) → ((c : ClauseTree) → Contains cs c → (d : Callee) → ReachesFrom d c → SameAt v w d) → clauses_weight v lists cs a ≡ clauses_weight w lists cs a
clauses-same v w None cs a reach = rules-same v w cs a reach
clauses-same v w (Some lists) cs a reach = refl

inside-same : (v w : CallWeights) (function : Bool) (pred : PredTree) (a : ℕ) → ((c : ClauseTree) → Contains pred.clauses c → (d : Callee) → ReachesFrom d c → SameAt v w d) → inside_weight v function pred a ≡ inside_weight w function pred a
inside-same v w true pred a reach = rules-same v w pred.clauses (suc (suc a)) reach
inside-same v w false pred a reach = clauses-same v w pred.index pred.clauses (suc a) reach

-- ---- where Ticks stand between quiet calls, one more that may nest changes nothing

-- fewer than so many quiet calls nest from this one on
abbrev Nests : (preds : List PredTree) → TicksBetween preds → ℕ → Callee → Type 0
Nests preds ticks n c = (pred : PredTree) → IsQuiet preds c pred → ticks.rank c < n

none-entered : (preds : List PredTree) (ticks : TicksBetween preds) (c : Callee) → Nests preds ticks 0 c → (calls : CallWeights) (pred : PredTree) → find_pred c.function c.name c.arity preds ≡ Some pred →
    (quiet : Bool) → pred.quiet ≡ quiet → (r : ℕ) → 0 ≡ entered_weight calls quiet c.function pred r
none-entered preds ticks c few calls pred found true quiet r = absurd (omega (arith, few pred (found, quiet)))
none-entered preds ticks c few calls pred found false quiet r = refl

none-found : (preds : List PredTree) (ticks : TicksBetween preds) (c : Callee) → Nests preds ticks 0 c → (calls : CallWeights) (o : Option PredTree) → find_pred c.function c.name c.arity preds ≡ o →
    (r : ℕ) → 0 ≡ found_weight calls c.function o r
none-found preds ticks c few calls None found r = refl
none-found preds ticks c few calls (Some pred) found r = none-entered preds ticks c few calls pred found pred.quiet refl r

unless-none : (given : Bool) (n : ℕ) → 0 ≡ n → 0 ≡ cond given 0 n
unless-none true n h = refl
unless-none false n h = h

same-entered : (preds : List PredTree) (ticks : TicksBetween preds) (n : ℕ) (c : Callee) → Nests preds ticks (suc n) c → (v w : CallWeights) → ((d : Callee) → Nests preds ticks n d → SameAt v w d) →
    (pred : PredTree) → find_pred c.function c.name c.arity preds ≡ Some pred → (quiet : Bool) → pred.quiet ≡ quiet → (r : ℕ) →
    entered_weight v quiet c.function pred r ≡ entered_weight w quiet c.function pred r
same-entered preds ticks n c few v w same pred found true quiet r =
    ap suc (inside-same v w c.function pred r (λ clause within d reach. same d (λ other quiet_too.
    omega (arith, ticks.falls c d pred other clause (found, quiet) within reach quiet_too, few pred (found, quiet)))))
same-entered preds ticks n c few v w same pred found false quiet r = refl

same-found : (preds : List PredTree) (ticks : TicksBetween preds) (n : ℕ) (c : Callee) → Nests preds ticks (suc n) c → (v w : CallWeights) → ((d : Callee) → Nests preds ticks n d → SameAt v w d) →
    (o : Option PredTree) → find_pred c.function c.name c.arity preds ≡ o → (r : ℕ) → found_weight v c.function o r ≡ found_weight w c.function o r
same-found preds ticks n c few v w same None found r = refl
same-found preds ticks n c few v w same (Some pred) found r = same-entered preds ticks n c few v w same pred found pred.quiet refl r

within-same : (preds : List PredTree) (ticks : TicksBetween preds) (n : ℕ) (c : Callee) → Nests preds ticks n c → SameAt (calls_within preds n) (calls_within preds (suc n)) c
unfolding calls_within
within-same preds ticks zero c few r =
    unless-none (is_given c.function c.name c.arity) _ (none-found preds ticks c few (calls_within preds 0) (find_pred c.function c.name c.arity preds) refl r)
within-same preds ticks (suc n) c few r =
    ap (cond (is_given c.function c.name c.arity) 0)
    (same-found preds ticks n c few (calls_within preds n) (calls_within preds (suc n)) (within-same preds ticks n) (find_pred c.function c.name c.arity preds) refl r)

-- a quiet call weighs what it enters
pub quiet-weighs : (preds : List PredTree) → TicksBetween preds → (function : Bool) (name : List ℕ) (k : ℕ) (pred : PredTree) → is_given function name k ≡ false → find_pred function name k preds ≡ Some pred → pred.quiet ≡ true → (r : ℕ) →
    program_calls preds function name k r ≡ suc (inside_weight (program_calls preds) function pred r)
unfolding calls_within
quiet-weighs preds ticks function name k pred free found quiet r =
    let calls : CallWeights = program_calls preds in
    within-same preds ticks (length preds) (callee function name k) (λ other is. ticks.below (callee function name k) other is) r
    ∙ (ap (λ b. cond b 0 (found_weight calls function (find_pred function name k preds) r)) free
    ∙ (ap (λ o. found_weight calls function o r) found ∙ ap (λ q. entered_weight calls q function pred r) quiet))

-- ---- what is called by its name weighs no more

no-quiet : (calls : CallWeights) (quiet : Bool) (pred : PredTree) (r : ℕ) → is_called_by_name (Some pred) ≡ true → pred.quiet ≡ quiet → entered_weight calls quiet false pred r ≡ 0
no-quiet calls true pred r named is = absurd (never (sym (ap inverse is) ∙ named))
  where
    never : false ≡ true → ⊥
    never h = cc
no-quiet calls false pred r named is = refl

named-found : (calls : CallWeights) (o : Option PredTree) (r : ℕ) → is_called_by_name o ≡ true → found_weight calls false o r ≡ 0
named-found calls None r named = absurd cc
named-found calls (Some pred) r named = no-quiet calls pred.quiet pred r named refl

given-built : (a b : Bool) → b ≡ true → (a || b) ≡ true
given-built true b h = refl
given-built false b h = h

either : (built named : Bool) → (built || named) ≡ true → (built ≡ true) ⊎ (named ≡ true)
either true named h = inl refl
either false named h = inr h

unless-zero : (given : Bool) (n : ℕ) → n ≡ 0 → cond given 0 n ≡ 0
unless-zero true n h = refl
unless-zero false n h = h

pub there-weighs : (preds : List PredTree) (n : ℕ) (name : List ℕ) (k r : ℕ) → is_there preds name k ≡ true → calls_within preds n false name k r ≡ 0
unfolding calls_within
there-weighs preds zero name k r there = refl
there-weighs preds (suc n) name k r there =
    elim (either (is_built_name name k) (is_called_by_name (find_pred false name k preds)) there) as (λ w. calls_within preds (suc n) false name k r ≡ 0) [
      | inl built ↦ ap (λ b. cond b 0 (found_weight (calls_within preds n) false (find_pred false name k preds) r)) (given-built (is_call name k) (is_predicate name k || is_later_predicate name k) (built-given name k built))
      | inr named ↦ unless-zero (is_given false name k) _ (named-found (calls_within preds n) (find_pred false name k preds) r named)
    ]
