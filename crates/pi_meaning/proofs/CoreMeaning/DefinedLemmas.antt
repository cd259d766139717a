-- Programs whose calls are defined: each call of a goal is of a predicate of the program or of one that is given, or of a function of the program or of one that is given; and what is found by a
-- name is one of the program.
use Rattle.std.proofs.Common.{◌≡◌, ◌⊎◌, ◌++◌, ℕ, suc, Bool, true, false, cond, ◌==◌, ◌&&◌, List, [], ◌∷◌, length, refl, subst, arith}
use Rattle.std.specs.Prelude.{Option, Some, None, Contains, IsSome, IsTrue, ⊤}
use Rattle.std.specs.Ordering.{is_eq}
use Rattle.std.proofs.lemmas.Bool.Decides.{Decides-eqb}
use Rattle.std.proofs.lemmas.List.Elements.{Contains-append_left, Contains-append_right}
use Rattle.pi_terms.specs.Order.{name_order}
use Rattle.pi_constraints.proofs.MatchLemmas.{same_name}
use Rattle.pi_core.specs.GoalTree.{GoalTree, truth, fail, tick, call, apply, seq, alternatives, if_else, not, once, collect, count, catch, GoalTrees, no_goals, goal, subgoals, subgoals_all}
use Rattle.pi_core.specs.CoreTree.{ClauseTree, PredTree, is_pred, find_pred}
use Rattle.pi_meaning.specs.CoreMeaning.Defined.{CallsAmong, ClauseCallsAmong, ProgramCallsAmong}
use Rattle.pi_meaning.proofs.CoreMeaning.MeaningLemmas.{Callable, CallsIn, CallsInAll}
use Rattle.pi_meaning.proofs.CoreMeaning.RuleLemmas.{ClausesCall, FoundCall, ProgramCalls}

abbrev Given : Type 0
Given = List ℕ → ℕ → Bool

-- what may be called: predicates and functions of the program, and those that are given
abbrev pub defined_by : (List ℕ → ℕ → Bool) → (List ℕ → ℕ → Bool) → List PredTree → Callable
defined_by given values preds true name k = IsSome (find_pred true name k preds) ⊎ IsTrue (values name k)
defined_by given values preds false name k = IsSome (find_pred false name k preds) ⊎ IsTrue (given name k)

-- ---- each call in a goal, from those that are in it

abbrev CallHere : Callable → GoalTree → Type 0
CallHere K truth = ⊤
CallHere K fail = ⊤
CallHere K tick = ⊤
CallHere K (call name args) = K false name (length args)
CallHere K (apply name args slot) = K true name (length args)
CallHere K (seq gs) = ⊤
CallHere K (alternatives gs) = ⊤
CallHere K (if_else test yes_goal other) = ⊤
CallHere K (not g) = ⊤
CallHere K (once g) = ⊤
CallHere K (collect g value into) = ⊤
CallHere K (count g into) = ⊤
CallHere K (catch g ball handler) = ⊤

has-first : {X : Type 0} (x : X) (xs : List X) → Contains (x ∷ xs) x
has-first x xs = (0, omega arith, refl)

has-later : {X : Type 0} (x y : X) (xs : List X) → Contains xs y → Contains (x ∷ xs) y
has-later x y xs at = (suc at.0, omega (arith, at.1), at.2)

abbrev CallsHere : Callable → List GoalTree → Type 0
CallsHere K gs = (h : GoalTree) → Contains gs h → CallHere K h

later-here : (K : Callable) (g : GoalTree) (gs : List GoalTree) → CallsHere K (g ∷ gs) → CallsHere K gs
later-here K g gs f h at = f h (has-later g h gs at)

left-here : (K : Callable) (gs hs : List GoalTree) → CallsHere K (gs ++ hs) → CallsHere K gs
left-here K gs hs f h at = f h (Contains-append_left gs hs h at)

right-here : (K : Callable) (gs hs : List GoalTree) → CallsHere K (gs ++ hs) → CallsHere K hs
right-here K gs hs f h at = f h (Contains-append_right gs hs h at)

mutual
  unfolding CallsIn subgoals

  calls-in : (K : Callable) (g : GoalTree) → CallsHere K (subgoals g) → CallsIn K g
  calls-in K truth f = tt
  calls-in K fail f = tt
  calls-in K tick f = tt
  calls-in K (call name args) f = f (call name args) (has-first (call name args) [])
  calls-in K (apply name args slot) f = f (apply name args slot) (has-first (apply name args slot) [])
  calls-in K (seq gs) f = all-calls-in K gs (later-here K (seq gs) (subgoals_all gs) f)
  calls-in K (alternatives gs) f = all-calls-in K gs (later-here K (alternatives gs) (subgoals_all gs) f)
  calls-in K (if_else test yes_goal other) f =
      let inside : CallsHere K (subgoals test ++ (subgoals yes_goal ++ subgoals other)) =
      later-here K (if_else test yes_goal other) (subgoals test ++ (subgoals yes_goal ++ subgoals other)) f in
      let behind : CallsHere K (subgoals yes_goal ++ subgoals other) = right-here K (subgoals test) (subgoals yes_goal ++ subgoals other) inside in (
        calls-in K test (left-here K (subgoals test) (subgoals yes_goal ++ subgoals other) inside),
        (calls-in K yes_goal (left-here K (subgoals yes_goal) (subgoals other) behind), calls-in K other (right-here K (subgoals yes_goal) (subgoals other) behind)),
      )
  calls-in K (not g) f = calls-in K g (later-here K (not g) (subgoals g) f)
  calls-in K (once g) f = calls-in K g (later-here K (once g) (subgoals g) f)
  calls-in K (collect g value into) f = calls-in K g (later-here K (collect g value into) (subgoals g) f)
  calls-in K (count g into) f = calls-in K g (later-here K (count g into) (subgoals g) f)
  calls-in K (catch g ball handler) f =
      let inside : CallsHere K (subgoals g ++ subgoals handler) = later-here K (catch g ball handler) (subgoals g ++ subgoals handler) f in
      (calls-in K g (left-here K (subgoals g) (subgoals handler) inside), calls-in K handler (right-here K (subgoals g) (subgoals handler) inside))

  all-calls-in : (K : Callable) (gs : GoalTrees) → CallsHere K (subgoals_all gs) → CallsInAll K gs
  all-calls-in K no_goals f = tt
  all-calls-in K (goal g gs) f =
      (calls-in K g (left-here K (subgoals g) (subgoals_all gs) f), all-calls-in K gs (right-here K (subgoals g) (subgoals_all gs) f))

call-here : (given values : Given) (preds : List PredTree) (g h : GoalTree) → CallsAmong given values preds g → Contains (subgoals g) h → CallHere (defined_by given values preds) h
call-here given values preds g truth are at = tt
call-here given values preds g fail are at = tt
call-here given values preds g tick are at = tt
call-here given values preds g (call name args) are at = are.calls name args at
call-here given values preds g (apply name args slot) are at = are.functions name args slot at
call-here given values preds g (seq gs) are at = tt
call-here given values preds g (alternatives gs) are at = tt
call-here given values preds g (if_else test yes_goal other) are at = tt
call-here given values preds g (not h) are at = tt
call-here given values preds g (once h) are at = tt
call-here given values preds g (collect h value into) are at = tt
call-here given values preds g (count h into) are at = tt
call-here given values preds g (catch h ball handler) are at = tt

pub goal-calls : (given values : Given) (preds : List PredTree) (g : GoalTree) → CallsAmong given values preds g → CallsIn (defined_by given values preds) g
goal-calls given values preds g are = calls-in (defined_by given values preds) g (λ h at. call-here given values preds g h are at)

-- ---- the clauses of a program

clauses-call : (given values : Given) (preds : List PredTree) (cs : List ClauseTree) → ((c : ClauseTree) → Contains cs c → ClauseCallsAmong given values preds c) → ClausesCall (defined_by given values preds) cs
clauses-call given values preds [] are = tt
clauses-call given values preds (c ∷ cs) are =
    let this : ClauseCallsAmong given values preds c = are c (has-first c cs) in
    (record { guard = goal-calls given values preds c.guard this.guard; body = goal-calls given values preds c.body this.body }, clauses-call given values preds cs (λ x at. are x (has-later c x cs at)))

-- what is found is one of the program, with the name and the number of arguments that were asked for
pub record IsFound (preds : List PredTree) (function : Bool) (name : List ℕ) (k : ℕ) (pred : PredTree) : Type 0 where
  pub among : Contains preds pred
  pub function_is : pred.function ≡ function
  pub name_is : pred.name ≡ name
  pub arity_is : pred.arity ≡ k

pub both : (a b : Bool) → (a && b) ≡ true → (a ≡ true) × (b ≡ true)
both true true h = (refl, refl)
both true false h = absurd cc
both false b h = absurd cc

unless : (a b : Bool) → cond a false b ≡ true → (a ≡ false) × (b ≡ true)
unless true b h = absurd cc
unless false b h = (refl, h)

named-and-long : (name : List ℕ) (k : ℕ) (pred : PredTree) → (is_eq (name_order pred.name name) && (pred.arity == k)) ≡ true → (pred.name ≡ name) × (pred.arity ≡ k)
named-and-long name k pred h =
    let parts : (is_eq (name_order pred.name name) ≡ true) × ((pred.arity == k) ≡ true) = both (is_eq (name_order pred.name name)) (pred.arity == k) h in
    (same_name pred.name name parts.0, (Decides-eqb pred.arity k).0 parts.1)

is-pred : (preds : List PredTree) (function : Bool) (name : List ℕ) (k : ℕ) (pred : PredTree) → Contains preds pred → is_pred function name k pred ≡ true → IsFound preds function name k pred
is-pred preds true name k pred at h =
    let parts : (pred.function ≡ true) × ((is_eq (name_order pred.name name) && (pred.arity == k)) ≡ true) = both pred.function (is_eq (name_order pred.name name) && (pred.arity == k)) h in
    let named : (pred.name ≡ name) × (pred.arity ≡ k) = named-and-long name k pred parts.1 in
    record { among = at; function_is = parts.0; name_is = named.0; arity_is = named.1 }
is-pred preds false name k pred at h =
    let parts : (pred.function ≡ false) × ((is_eq (name_order pred.name name) && (pred.arity == k)) ≡ true) = unless pred.function (is_eq (name_order pred.name name) && (pred.arity == k)) h in
    let named : (pred.name ≡ name) × (pred.arity ≡ k) = named-and-long name k pred parts.1 in
    record { among = at; function_is = parts.0; name_is = named.0; arity_is = named.1 }

found-later : (p : PredTree) (preds : List PredTree) (function : Bool) (name : List ℕ) (k : ℕ) (pred : PredTree) → IsFound preds function name k pred → IsFound (p ∷ preds) function name k pred
found-later p preds function name k pred f =
    record { among = has-later p pred preds f.among; function_is = f.function_is; name_is = f.name_is; arity_is = f.arity_is }

found-here : (p : PredTree) (preds : List PredTree) (function : Bool) (name : List ℕ) (k : ℕ) (pred : PredTree) (b : Bool) → is_pred function name k p ≡ b →
    (find_pred function name k preds ≡ Some pred → IsFound preds function name k pred) → cond b (Some p) (find_pred function name k preds) ≡ Some pred → IsFound (p ∷ preds) function name k pred
found-here p preds function name k pred true is rest h =
    let same : p ≡ pred = cc in
    subst (IsFound (p ∷ preds) function name k) same (is-pred (p ∷ preds) function name k p (has-first p preds) is)
found-here p preds function name k pred false is rest h = found-later p preds function name k pred (rest h)

pub found-pred : (preds : List PredTree) (function : Bool) (name : List ℕ) (k : ℕ) (pred : PredTree) → find_pred function name k preds ≡ Some pred → IsFound preds function name k pred
unfolding find_pred
found-pred [] function name k pred h = absurd cc
found-pred (p ∷ preds) function name k pred h = found-here p preds function name k pred (is_pred function name k p) refl (found-pred preds function name k pred) h

found-calls : (given values : Given) (preds : List PredTree) → ProgramCallsAmong given values preds → (function : Bool) (name : List ℕ) (k : ℕ) (o : Option PredTree) → find_pred function name k preds ≡ o →
    FoundCall (defined_by given values preds) o
found-calls given values preds are function name k None h = tt
found-calls given values preds are function name k (Some pred) h = clauses-call given values preds pred.clauses (are pred (found-pred preds function name k pred h).among)

pub program-calls : (given values : Given) (preds : List PredTree) → ProgramCallsAmong given values preds → ProgramCalls (defined_by given values preds) preds
program-calls given values preds are function name k = found-calls given values preds are function name k (find_pred function name k preds) refl
