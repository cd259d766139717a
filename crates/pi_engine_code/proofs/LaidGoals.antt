-- Goals as steps: what is laid out is so in longer tables, and the marks of last goals go by a stack of those ahead.
use Rattle.std.proofs.Common.{◌≡◌, ℕ, zero, suc, ◌+◌, ◌-◌, Bool, false, List, [], ◌∷◌, ◌++◌, Some, length, map, refl, sym, ◌∙◌, ap, arith, append_assoc, replicate}
use Rattle.std.specs.Prelude.{slice_get}
use Rattle.std.proofs.lemmas.List.{append-nil, map-append, length-map}
use Rattle.pi_core.specs.GoalTree.{GoalTree, truth, fail, tick, call, apply, seq, alternatives, if_else, not, once, collect, count, catch, GoalTrees, no_goals, goal, count_goals, children, child_count, child_goals, subgoals, subgoals_all, nodes, ShowsNode}
use Rattle.pi_core.specs.GoalCells.{kind_of, kind_shown}
use Rattle.pi_core.specs.declared.goal_node.GoalKind.{GoalKind}
use Rattle.pi_core.specs.declared.goal_node.GoalNode.{GoalNode}
use Rattle.pi_core.specs.declared.core_program.CorePred.{CorePred}
use Rattle.pi_engine_code.specs.declared.code.Node.{Node}
use Rattle.pi_engine_code.specs.declared.code.Step.{Step}
use Rattle.pi_engine_code.specs.Code.{Tables}
use Rattle.pi_engine_code.specs.Laid.{Longer, IsNodeOf, Marked, mark, marked, marked_seq, marked_each, IsStepFor, StepsAt, IsLaid, before_last, layout}
use Rattle.pi_engine_code.proofs.LaidTerms.{Wider, operand-wider, operands-wider}

-- ---- longer tables

pub node-wider : (preds : List CorePred) (t u : Tables) (k : GoalKind) (n : Node) → Wider t u → IsNodeOf preds t k n → IsNodeOf preds u k n
node-wider preds t u k Node.True h is = is
node-wider preds t u k Node.Fail h is = is
node-wider preds t u k Node.Tick h is = is
node-wider preds t u k (Node.Seq m) h is = is
node-wider preds t u k (Node.Alt m) h is = is
node-wider preds t u k Node.If h is = is
node-wider preds t u k Node.Not h is = is
node-wider preds t u k Node.Once h is = is
node-wider preds t u k (Node.Collect value into) h is = is
node-wider preds t u k (Node.Count into) h is = is
node-wider preds t u k (Node.Catch ball) h is = (is.0, is.1, operand-wider t u is.0 ball h is.2)
node-wider preds t u k (Node.Unify left right) h is = (is.0, is.1, is.2, operand-wider t u is.0 left h is.3, operand-wider t u is.1 right h is.4)
node-wider preds t u k (Node.Throw ball) h is = (is.0, is.1, operand-wider t u is.0 ball h is.2)
node-wider preds t u k (Node.Call m first) h is = (is.0, is.1, is.2, is.3, is.4, operands-wider t u first is.1 h is.5)
node-wider preds t u k (Node.Apply m first slot) h is = (is.0, is.1, is.2, is.3, is.4, operands-wider t u first is.1 h is.5)
node-wider preds t u k (Node.Value value) h is = is
node-wider preds t u k (Node.BuiltIn p m first arity) h is = (is.0, is.1, is.2, h.names m is.0 is.3, is.4, is.5, operands-wider t u first is.1 h is.6)
node-wider preds t u k (Node.BuiltInValue f m first arity slot) h is = (is.0, is.1, is.2, h.names m is.0 is.3, is.4, is.5, operands-wider t u first is.1 h is.6)
node-wider preds t u k (Node.Constrain g m first arity) h is = (is.0, is.1, is.2, h.names m is.0 is.3, is.4, is.5, operands-wider t u first is.1 h is.6)
node-wider preds t u k (Node.DomainValue f m first arity slot) h is = (is.0, is.1, is.2, h.names m is.0 is.3, is.4, is.5, operands-wider t u first is.1 h is.6)
node-wider preds t u k (Node.Solve m first arity) h is = (is.0, is.1, is.2, h.names m is.0 is.3, is.4, is.5, operands-wider t u first is.1 h is.6)
node-wider preds t u k (Node.CallTerm first arity) h is = (is.0, is.1, is.2, is.3, operands-wider t u first is.0 h is.4)

pub step-wider : (preds : List CorePred) (t u : Tables) (first slots : ℕ) (h : Marked) (s : Step) → Wider t u → IsStepFor preds t first slots h s → IsStepFor preds u first slots h s
step-wider preds t u first slots h s wider is =
    record { node = node-wider preds t u (kind_of h.it) s.node wider is.node; size = is.size; first_is = is.first_is; slots_is = is.slots_is; last = is.last }

pub steps-wider : (preds : List CorePred) (t u : Tables) (ss rs : List Step) (first slots at : ℕ) (hs : List Marked) → Wider t u → Longer ss rs → StepsAt (layout preds t ss first slots) at hs → StepsAt (layout preds u rs first slots) at hs
unfolding StepsAt
steps-wider preds t u ss rs first slots at [] wider longer are = are
steps-wider preds t u ss rs first slots at (h ∷ hs) wider longer (here, rest) =
    ((here.0, longer at here.0 here.1, step-wider preds t u first slots h here.0 wider here.2), steps-wider preds t u ss rs first slots (suc at) hs wider longer rest)

pub laid-wider : (preds : List CorePred) (t u : Tables) (ss rs : List Step) (first slots at : ℕ) (g : GoalTree) (last : Bool) → Wider t u → Longer ss rs → IsLaid (layout preds t ss first slots) at g last → IsLaid (layout preds u rs first slots) at g last
laid-wider preds t u ss rs first slots at g last wider longer is =
    record { steps_are = steps-wider preds t u ss rs first slots at (marked g last) wider longer is.steps_are; fits = is.fits }

-- ---- one more step

pub steps-more : (preds : List CorePred) (t : Tables) (ss : List Step) (first slots at : ℕ) (hs : List Marked) (h : Marked) (s : Step) →
    StepsAt (layout preds t ss first slots) at hs → slice_get ss (at + length hs) ≡ Some s → IsStepFor preds t first slots h s → StepsAt (layout preds t ss first slots) at (hs ++ h ∷ [])
unfolding StepsAt
steps-more preds t ss first slots at [] h s are here is = ((s, ap (slice_get ss) (omega arith) ∙ here, is), tt)
steps-more preds t ss first slots at (x ∷ hs) h s (first_is, rest) here is = (first_is, steps-more preds t ss first slots (suc at) hs h s rest (ap (slice_get ss) (omega arith) ∙ here) is)

-- ---- the goals that are ahead

-- the child goals of a goal, each with its mark
abbrev pub below_seq : GoalTrees → Bool → List Marked
below_seq no_goals last = []
below_seq (goal g no_goals) last = mark g last ∷ []
below_seq (goal g (goal h hs)) last = mark g false ∷ below_seq (goal h hs) last

abbrev pub below_each : GoalTrees → Bool → List Marked
below_each no_goals last = []
below_each (goal g gs) last = mark g last ∷ below_each gs last

pub below : GoalTree → Bool → List Marked
below truth last = []
below fail last = []
below tick last = []
below (call name args) last = []
below (apply name args slot) last = []
below (seq gs) last = below_seq gs last
below (alternatives gs) last = below_each gs last
below (if_else test g other) last = mark test false ∷ mark g last ∷ mark other last ∷ []
below (not g) last = mark g false ∷ []
below (once g) last = mark g false ∷ []
below (collect g value into) last = mark g false ∷ []
below (count g into) last = mark g false ∷ []
below (catch g ball handler) last = mark g false ∷ mark handler last ∷ []

-- all goals in these
abbrev pub marked_all : List Marked → List Marked
marked_all [] = []
marked_all (h ∷ hs) = marked h.it h.last ++ marked_all hs

pub marked_all-append : (xs ys : List Marked) → marked_all (xs ++ ys) ≡ marked_all xs ++ marked_all ys
marked_all-append [] ys = refl
marked_all-append (x ∷ xs) ys = ap (λ r. marked x.it x.last ++ r) (marked_all-append xs ys) ∙ sym (append_assoc (marked x.it x.last) (marked_all xs) (marked_all ys))

seq-all : (gs : GoalTrees) (last : Bool) → marked_seq gs last ≡ marked_all (below_seq gs last)
unfolding marked
seq-all no_goals last = refl
seq-all (goal g no_goals) last = sym (append-nil (marked g last))
seq-all (goal g (goal h hs)) last = ap (λ r. marked g false ++ r) (seq-all (goal h hs) last)

each-all : (gs : GoalTrees) (last : Bool) → marked_each gs last ≡ marked_all (below_each gs last)
unfolding marked
each-all no_goals last = refl
each-all (goal g gs) last = ap (λ r. marked g last ++ r) (each-all gs last)

-- a goal stands in front of those in its child goals
pub marked-root : (g : GoalTree) (last : Bool) → marked g last ≡ mark g last ∷ marked_all (below g last)
unfolding marked below
marked-root truth last = refl
marked-root fail last = refl
marked-root tick last = refl
marked-root (call name args) last = refl
marked-root (apply name args slot) last = refl
marked-root (seq gs) last = ap (λ r. mark (seq gs) last ∷ r) (seq-all gs last)
marked-root (alternatives gs) last = ap (λ r. mark (alternatives gs) last ∷ r) (each-all gs last)
marked-root (if_else test g other) last = ap (λ r. mark (if_else test g other) last ∷ (marked test false ++ (marked g last ++ r))) (sym (append-nil (marked other last)))
marked-root (not g) last = ap (λ r. mark (not g) last ∷ r) (sym (append-nil (marked g false)))
marked-root (once g) last = ap (λ r. mark (once g) last ∷ r) (sym (append-nil (marked g false)))
marked-root (collect g value into) last = ap (λ r. mark (collect g value into) last ∷ r) (sym (append-nil (marked g false)))
marked-root (count g into) last = ap (λ r. mark (count g into) last ∷ r) (sym (append-nil (marked g false)))
marked-root (catch g ball handler) last = ap (λ r. mark (catch g ball handler) last ∷ (marked g false ++ r)) (sym (append-nil (marked handler last)))

-- they are the goals in the goal
goals-of : List Marked → List GoalTree
goals-of hs = map (λ h. h.it) hs

goals-append : (xs ys : List Marked) → goals-of (xs ++ ys) ≡ goals-of xs ++ goals-of ys
unfolding goals-of
goals-append xs ys = map-append (λ h. h.it) xs ys

mutual
  unfolding marked subgoals goals-of

  marked-goals : (g : GoalTree) (last : Bool) → goals-of (marked g last) ≡ subgoals g
  marked-goals truth last = refl
  marked-goals fail last = refl
  marked-goals tick last = refl
  marked-goals (call name args) last = refl
  marked-goals (apply name args slot) last = refl
  marked-goals (seq gs) last = ap (λ r. seq gs ∷ r) (seq-goals gs last)
  marked-goals (alternatives gs) last = ap (λ r. alternatives gs ∷ r) (each-goals gs last)
  marked-goals (if_else test g other) last =
      ap (λ r. if_else test g other ∷ r)
      (goals-append (marked test false) (marked g last ++ marked other last)
      ∙ ap (λ r. r ++ goals-of (marked g last ++ marked other last)) (marked-goals test false)
      ∙ ap (λ r. subgoals test ++ r) (goals-append (marked g last) (marked other last) ∙ ap (λ r. r ++ goals-of (marked other last)) (marked-goals g last) ∙ ap (λ r. subgoals g ++ r) (marked-goals other last)))
  marked-goals (not g) last = ap (λ r. not g ∷ r) (marked-goals g false)
  marked-goals (once g) last = ap (λ r. once g ∷ r) (marked-goals g false)
  marked-goals (collect g value into) last = ap (λ r. collect g value into ∷ r) (marked-goals g false)
  marked-goals (count g into) last = ap (λ r. count g into ∷ r) (marked-goals g false)
  marked-goals (catch g ball handler) last =
      ap (λ r. catch g ball handler ∷ r)
      (goals-append (marked g false) (marked handler last) ∙ ap (λ r. r ++ goals-of (marked handler last)) (marked-goals g false) ∙ ap (λ r. subgoals g ++ r) (marked-goals handler last))

  seq-goals : (gs : GoalTrees) (last : Bool) → goals-of (marked_seq gs last) ≡ subgoals_all gs
  seq-goals no_goals last = refl
  seq-goals (goal g no_goals) last = marked-goals g last ∙ sym (append-nil (subgoals g))
  seq-goals (goal g (goal h hs)) last =
      goals-append (marked g false) (marked_seq (goal h hs) last) ∙ ap (λ r. r ++ goals-of (marked_seq (goal h hs) last)) (marked-goals g false) ∙ ap (λ r. subgoals g ++ r) (seq-goals (goal h hs) last)

  each-goals : (gs : GoalTrees) (last : Bool) → goals-of (marked_each gs last) ≡ subgoals_all gs
  each-goals no_goals last = refl
  each-goals (goal g gs) last =
      goals-append (marked g last) (marked_each gs last) ∙ ap (λ r. r ++ goals-of (marked_each gs last)) (marked-goals g last) ∙ ap (λ r. subgoals g ++ r) (each-goals gs last)

pub goals-in : (g : GoalTree) (last : Bool) → map (λ h. h.it) (marked g last) ≡ subgoals g
unfolding goals-of
goals-in g last = marked-goals g last

pub length-marked : (g : GoalTree) (last : Bool) → length (marked g last) ≡ nodes g
length-marked g last = sym (length-map (marked g last) (λ h. h.it)) ∙ ap length (goals-in g last)

-- ---- the stack of marks

-- the marks of goals that are ahead, the first one's last
abbrev pub stacked : List Marked → List Bool
stacked [] = []
stacked (h ∷ hs) = stacked hs ++ h.last ∷ []

pub stacked-append : (xs ys : List Marked) → stacked (xs ++ ys) ≡ stacked ys ++ stacked xs
stacked-append [] ys = sym (append-nil (stacked ys))
stacked-append (x ∷ xs) ys = ap (λ r. r ++ x.last ∷ []) (stacked-append xs ys) ∙ append_assoc (stacked ys) (stacked xs) (x.last ∷ [])

-- how many child goals stand before those behind which nothing of the goal is left to do
first_last : GoalTree → ℕ
first_last truth = 0
first_last fail = 0
first_last tick = 0
first_last (call name args) = 0
first_last (apply name args slot) = 0
first_last (seq gs) = count_goals gs - 1
first_last (alternatives gs) = 0
first_last (if_else test g other) = 1
first_last (not g) = 1
first_last (once g) = 1
first_last (collect g value into) = 1
first_last (count g into) = 1
first_last (catch g ball handler) = 1

replicate-last : {A : Type 0} (n : ℕ) (x : A) → replicate n x ++ x ∷ [] ≡ replicate (suc n) x
replicate-last zero x = refl
replicate-last (suc n) x = ap (λ r. x ∷ r) (replicate-last n x)

stacked-each : (gs : GoalTrees) (last : Bool) → stacked (below_each gs last) ≡ replicate (count_goals gs) last
unfolding count_goals
stacked-each no_goals last = refl
stacked-each (goal g gs) last = ap (λ r. r ++ last ∷ []) (stacked-each gs last) ∙ replicate-last (count_goals gs) last

-- of a sequence that isn't empty the last one, and before it so many
stacked-seq : (g : GoalTree) (gs : GoalTrees) (last : Bool) → stacked (below_seq (goal g gs) last) ≡ last ∷ replicate (count_goals gs) false
unfolding count_goals
stacked-seq g no_goals last = refl
stacked-seq g (goal h hs) last = ap (λ r. r ++ false ∷ []) (stacked-seq h hs last) ∙ ap (λ r. last ∷ r) (replicate-last (count_goals hs) false)

stacked-below : (g : GoalTree) (last : Bool) → stacked (below g last) ≡ replicate (child_count g - first_last g) last ++ replicate (first_last g) false
unfolding below first_last children count_goals
stacked-below truth last = refl
stacked-below fail last = refl
stacked-below tick last = refl
stacked-below (call name args) last = refl
stacked-below (apply name args slot) last = refl
stacked-below (seq no_goals) last = refl
stacked-below (seq (goal g gs)) last =
    stacked-seq g gs last
    ∙ ap (λ n. last ∷ replicate n false) (omega arith)
    ∙ ap (λ n. replicate n last ++ replicate (suc (count_goals gs) - 1) false) (let e : 1 ≡ suc (count_goals gs) - (suc (count_goals gs) - 1) = omega arith in e)
stacked-below (alternatives gs) last = stacked-each gs last ∙ sym (append-nil (replicate (count_goals gs) last)) ∙ ap (λ n. replicate n last ++ []) (let e : count_goals gs ≡ count_goals gs - 0 = omega arith in e)
stacked-below (if_else test g other) last = refl
stacked-below (not g) last = refl
stacked-below (once g) last = refl
stacked-below (collect g value into) last = refl
stacked-below (count g into) last = refl
stacked-below (catch g ball handler) last = refl

-- ---- what a node shows

pub shown-kind : (g : GoalTree) (n : GoalNode) → ShowsNode g n → kind_of g ≡ kind_shown n
unfolding kind_of
shown-kind g GoalNode.True h = ap kind_of h
shown-kind g GoalNode.Fail h = ap kind_of h
shown-kind g GoalNode.Tick h = ap kind_of h
shown-kind g (GoalNode.Call name args) h = ap kind_of h
shown-kind g (GoalNode.Apply name args slot) h = ap kind_of h
shown-kind g (GoalNode.Seq k) h = ap kind_of h.0 ∙ ap (λ n. GoalKind.Seq n) (sym h.1)
shown-kind g (GoalNode.Alt k) h = ap kind_of h.0 ∙ ap (λ n. GoalKind.Alt n) (sym h.1)
shown-kind g GoalNode.If h = ap kind_of h
shown-kind g GoalNode.Not h = ap kind_of h
shown-kind g GoalNode.Once h = ap kind_of h
shown-kind g (GoalNode.Collect value into) h = ap kind_of h
shown-kind g (GoalNode.Count into) h = ap kind_of h
shown-kind g (GoalNode.Catch ball) h = ap kind_of h

first-shown : (g : GoalTree) (n : GoalNode) → ShowsNode g n → first_last g ≡ before_last n
unfolding first_last
first-shown g GoalNode.True h = ap first_last h
first-shown g GoalNode.Fail h = ap first_last h
first-shown g GoalNode.Tick h = ap first_last h
first-shown g (GoalNode.Call name args) h = ap first_last h
first-shown g (GoalNode.Apply name args slot) h = ap first_last h
first-shown g (GoalNode.Seq k) h = ap first_last h.0 ∙ ap (λ n. n - 1) (sym h.1)
first-shown g (GoalNode.Alt k) h = ap first_last h.0
first-shown g GoalNode.If h = ap first_last h
first-shown g GoalNode.Not h = ap first_last h
first-shown g GoalNode.Once h = ap first_last h
first-shown g (GoalNode.Collect value into) h = ap first_last h
first-shown g (GoalNode.Count into) h = ap first_last h
first-shown g (GoalNode.Catch ball) h = ap first_last h

pub stacked-shown : (g : GoalTree) (n : GoalNode) (last : Bool) → ShowsNode g n → child_count g ≡ child_goals n → stacked (below g last) ≡ replicate (child_goals n - before_last n) last ++ replicate (before_last n) false
stacked-shown g n last shows has =
    stacked-below g last ∙ ap (λ k. replicate (k - first_last g) last ++ replicate (first_last g) false) has ∙ ap (λ k. replicate (child_goals n - k) last ++ replicate k false) (first-shown g n shows)
