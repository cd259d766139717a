-- A goal that is laid out stands at its place, where it is a sound program's.
use Rattle.std.proofs.Common.{◌≡◌, inl, inr, ℕ, zero, suc, ◌+◌, ◌<◌, Bool, true, false, List, [], ◌∷◌, ◌++◌, Option, Some, length, take, drop, map, refl, sym, ◌∙◌, ap, subst, arith}
use Rattle.std.specs.Prelude.{slice_get, slice_index_or, Contains, codes, option_map}
use Rattle.std.proofs.lemmas.Option.{slice_get-map, slice_get_within, get_or_from_slice_get}
use Rattle.pi_terms.specs.Tree.{Tree}
use Rattle.pi_constraints.specs.State.{SpeaksBelow}
use Rattle.pi_constraints.specs.Store.{Terms}
use Rattle.pi_core.specs.GoalTree.{GoalTree, truth, fail, tick, call, apply, seq, alternatives, if_else, not, once, collect, count, catch, GoalTrees, no_goals, goal, subgoals, nodes}
use Rattle.pi_core.specs.GoalCells.{kind_of, cell_of, flat}
use Rattle.pi_core.specs.CoreTree.{pred_tree}
use Rattle.pi_meaning.specs.CoreMeaning.Sound.{SlotsBelow, NamesBelow}
use Rattle.pi_settling.specs.SolveCalls.{is_solve}
use Rattle.pi_meaning.specs.Shared.Names.{is_call}
use Rattle.pi_meaning.specs.CoreMeaning.Defined.{CallsDefined}
use Rattle.pi_core.specs.declared.goal_node.GoalCell.{GoalCell}
use Rattle.pi_core.specs.declared.goal_node.GoalKind.{GoalKind}
use Rattle.pi_core.specs.declared.core_program.CorePred.{CorePred}
use Rattle.pi_engine_code.specs.declared.code.Node.{Node}
use Rattle.pi_engine_code.specs.declared.code.Step.{Step}
use Rattle.pi_engine_code.specs.declared.code.Code.{Code}
use Rattle.pi_engine_code.specs.Code.{Tables, node_kind, step_cell, operand_tree, operand_trees, arguments}
use Rattle.pi_engine_stands.specs.Here.{Block, AreReadable, NodeIsReadable, SaysLast, SayLast, LastOfAll, EachLast, IsHere, IsValueHere}
use Rattle.pi_engine_stands.specs.Stands.{HasNumber}
use Rattle.pi_engine_code.specs.Laid.{tables_for, IsNamed, IsNotBuiltIn, IsUnknown, IsEffectOf, IsDomainFunctionNamed, IsNodeOf, OperandsAt, Marked, mark, marked, marked_seq, marked_each, IsStepFor, StepsAt, IsLaid, IsValueLaid, IsResolved, AreResolved, layout}
use Rattle.pi_lib_builtin.specs.Resolved.{IsFunctionNamed}
use Rattle.pi_lib_constraints.specs.Named.{IsConstraintNamed}
use Rattle.pi_engine_code.proofs.LaidGoals.{goals-in, length-marked}
use Rattle.pi_engine_stands.proofs.ReadsHere.{drop-got, got-index, operand-reads, operands-read, operand-readable, operands-within, operands-readable}
use Rattle.pi_engine_stands.proofs.KnownGoals.{goal-known}

-- ---- nodes

-- the arguments of a call of what is named
arguments-read : (ps : List CorePred) (terms : Terms) (code : Code) (m first : ℕ) (us : List Tree) (function : Bool) (name : List ℕ) → IsNamed ps function m name (length us) → OperandsAt (tables_for ps terms code) first us → arguments (tables_for ps terms code) m first ≡ us
arguments-read ps terms code m first us function name named are =
    ap (λ n. map (operand_tree (tables_for ps terms code)) (take n (drop first code.operands.items))) (got-index (λ p. p.arity) ps m named.pred 0 named.is ∙ named.arity_is) ∙ operands-read (tables_for ps terms code) first us are

-- the arguments and the name of a built-in
operands-taken : (ps : List CorePred) (terms : Terms) (code : Code) (first arity : ℕ) (us : List Tree) → arity ≡ length us → OperandsAt (tables_for ps terms code) first us → operand_trees (tables_for ps terms code) first arity ≡ us
operands-taken ps terms code first arity us many are = ap (operand_trees (tables_for ps terms code) first) many ∙ operands-read (tables_for ps terms code) first us are

name-read : (t : Tables) (m : ℕ) (name : List ℕ) → slice_get t.names m ≡ Some name → slice_index_or t.names m [] ≡ name
name-read t m name at = get_or_from_slice_get t.names m name [] at

built-readable : (ps : List CorePred) (terms : Terms) (code : Code) (b : Block) (first arity : ℕ) (us : List Tree) → arity ≡ length us → OperandsAt (tables_for ps terms code) first us → ((u : Tree) → Contains us u → SpeaksBelow b.count u) →
    AreReadable (tables_for ps terms code) b first arity
built-readable ps terms code b first arity us many are below = (
  omega (arith, many, operands-within (tables_for ps terms code) first us are),
  λ i o within here. operands-readable (tables_for ps terms code) b first us are below i o (omega (arith, many, within)) here,
)

pub node-reads : (ps : List CorePred) (terms : Terms) (code : Code) (k : GoalKind) (n : Node) → IsNodeOf ps (tables_for ps terms code) k n → (IsUnknown ps k → ⊥) → node_kind (tables_for ps terms code) n ≡ k
unfolding node_kind
node-reads ps terms code k Node.True is known = sym is
node-reads ps terms code k Node.Fail (inl is) known = sym is
node-reads ps terms code k Node.Fail (inr un) known = absurd (known un)
node-reads ps terms code k Node.Tick is known = sym is
node-reads ps terms code k (Node.Seq m) is known = sym is
node-reads ps terms code k (Node.Alt m) is known = sym is
node-reads ps terms code k Node.If is known = sym is
node-reads ps terms code k Node.Not is known = sym is
node-reads ps terms code k Node.Once is known = sym is
node-reads ps terms code k (Node.Collect value into) is known = sym is
node-reads ps terms code k (Node.Count into) is known = sym is
node-reads ps terms code k (Node.Catch ball) is known = ap (λ u. GoalKind.Catch u) (operand-reads (tables_for ps terms code) is.0 ball is.2) ∙ sym is.1
node-reads ps terms code k (Node.Unify left right) is known =
    ap (λ u. GoalKind.Call (codes "=") (u ∷ operand_tree (tables_for ps terms code) right ∷ [])) (operand-reads (tables_for ps terms code) is.0 left is.3)
    ∙ ap (λ w. GoalKind.Call (codes "=") (is.0 ∷ w ∷ [])) (operand-reads (tables_for ps terms code) is.1 right is.4) ∙ sym is.2
node-reads ps terms code k (Node.Throw ball) is known = ap (λ u. GoalKind.Call (codes "throw") (u ∷ [])) (operand-reads (tables_for ps terms code) is.0 ball is.2) ∙ sym is.1
node-reads ps terms code k (Node.Call m first) is known =
    ap (λ name. GoalKind.Call name (arguments (tables_for ps terms code) m first)) (got-index (λ p. p.name) ps m is.3.pred [] is.3.is ∙ is.3.name_is)
    ∙ ap (GoalKind.Call is.0) (arguments-read ps terms code m first is.1 false is.0 is.3 is.5) ∙ sym is.2
node-reads ps terms code k (Node.Apply m first slot) is known =
    ap (λ name. GoalKind.Apply name (arguments (tables_for ps terms code) m first) slot) (got-index (λ p. p.name) ps m is.3.pred [] is.3.is ∙ is.3.name_is)
    ∙ ap (λ us. GoalKind.Apply is.0 us slot) (arguments-read ps terms code m first is.1 true is.0 is.3 is.5) ∙ sym is.2
node-reads ps terms code k (Node.Value value) is known = absurd is
node-reads ps terms code k (Node.BuiltIn built m first arity) is known =
    ap (λ name. GoalKind.Call name (operand_trees (tables_for ps terms code) first arity)) (name-read (tables_for ps terms code) m is.0 is.3)
    ∙ ap (GoalKind.Call is.0) (operands-taken ps terms code first arity is.1 is.4 is.6) ∙ sym is.2
node-reads ps terms code k (Node.BuiltInValue built m first arity slot) is known =
    ap (λ name. GoalKind.Apply name (operand_trees (tables_for ps terms code) first arity) slot) (name-read (tables_for ps terms code) m is.0 is.3)
    ∙ ap (λ us. GoalKind.Apply is.0 us slot) (operands-taken ps terms code first arity is.1 is.4 is.6) ∙ sym is.2
node-reads ps terms code k (Node.Constrain g m first arity) is known =
    ap (λ name. GoalKind.Call name (operand_trees (tables_for ps terms code) first arity)) (name-read (tables_for ps terms code) m is.0 is.3)
    ∙ ap (GoalKind.Call is.0) (operands-taken ps terms code first arity is.1 is.4 is.6) ∙ sym is.2
node-reads ps terms code k (Node.DomainValue f m first arity slot) is known =
    ap (λ name. GoalKind.Apply name (operand_trees (tables_for ps terms code) first arity) slot) (name-read (tables_for ps terms code) m is.0 is.3)
    ∙ ap (λ us. GoalKind.Apply is.0 us slot) (operands-taken ps terms code first arity is.1 is.4 is.6) ∙ sym is.2
node-reads ps terms code k (Node.Solve m first arity) is known =
    ap (λ name. GoalKind.Call name (operand_trees (tables_for ps terms code) first arity)) (name-read (tables_for ps terms code) m is.0 is.3)
    ∙ ap (GoalKind.Call is.0) (operands-taken ps terms code first arity is.1 is.4 is.6) ∙ sym is.2
node-reads ps terms code k (Node.CallTerm first arity) is known = ap (GoalKind.Call (codes "call")) (operands-taken ps terms code first arity is.0 is.2 is.4) ∙ sym is.1

-- the slots that a kind of goal names are below n
abbrev KindBelow : ℕ → GoalKind → Type 0
KindBelow n (GoalKind.Call name args) = (u : Tree) → Contains args u → SpeaksBelow n u
KindBelow n (GoalKind.Apply name args slot) = ((u : Tree) → Contains args u → SpeaksBelow n u) × (slot < n)
KindBelow n (GoalKind.Collect value into) = (value < n) × (into < n)
KindBelow n (GoalKind.Count into) = into < n
KindBelow n (GoalKind.Catch ball) = SpeaksBelow n ball
KindBelow n kind = Unit {0}

kind-below : (n : ℕ) (g : GoalTree) → NamesBelow n g → KindBelow n (kind_of g)
unfolding kind_of
kind-below n truth h = tt
kind-below n fail h = tt
kind-below n tick h = tt
kind-below n (call name args) h = h
kind-below n (apply name args slot) h = h
kind-below n (seq gs) h = tt
kind-below n (alternatives gs) h = tt
kind-below n (if_else test then other) h = tt
kind-below n (not g) h = tt
kind-below n (once g) h = tt
kind-below n (collect g value into) h = h
kind-below n (count g into) h = h
kind-below n (catch g ball handler) h = h

node-readable : (ps : List CorePred) (terms : Terms) (code : Code) (b : Block) (k : GoalKind) (n : Node) → IsNodeOf ps (tables_for ps terms code) k n → KindBelow b.count k → NodeIsReadable (tables_for ps terms code) b n
node-readable ps terms code b k Node.True is below = tt
node-readable ps terms code b k Node.Fail is below = tt
node-readable ps terms code b k Node.Tick is below = tt
node-readable ps terms code b k (Node.Seq m) is below = tt
node-readable ps terms code b k (Node.Alt m) is below = tt
node-readable ps terms code b k Node.If is below = tt
node-readable ps terms code b k Node.Not is below = tt
node-readable ps terms code b k Node.Once is below = tt
node-readable ps terms code b k (Node.Collect value into) is below = subst (KindBelow b.count) is below
node-readable ps terms code b k (Node.Count into) is below = subst (KindBelow b.count) is below
node-readable ps terms code b k (Node.Catch ball) is below = operand-readable (tables_for ps terms code) b is.0 ball is.2 (subst (KindBelow b.count) is.1 below)
node-readable ps terms code b k (Node.Unify left right) is below =
    let all : (u : Tree) → Contains (is.0 ∷ is.1 ∷ []) u → SpeaksBelow b.count u = subst (KindBelow b.count) is.2 below in
    (operand-readable (tables_for ps terms code) b is.0 left is.3 (all is.0 (0, omega arith, refl)), operand-readable (tables_for ps terms code) b is.1 right is.4 (all is.1 (1, omega arith, refl)))
node-readable ps terms code b k (Node.Throw ball) is below =
    let all : (u : Tree) → Contains (is.0 ∷ []) u → SpeaksBelow b.count u = subst (KindBelow b.count) is.1 below in
    operand-readable (tables_for ps terms code) b is.0 ball is.2 (all is.0 (0, omega arith, refl))
node-readable ps terms code b k (Node.Call m first) is below =
    let many : slice_index_or (map (λ (p : CorePred). p.arity) ps) m 0 ≡ length is.1 = got-index (λ p. p.arity) ps m is.3.pred 0 is.3.is ∙ is.3.arity_is in (
      omega (arith, many, operands-within (tables_for ps terms code) first is.1 is.5),
      λ i o within here. operands-readable (tables_for ps terms code) b first is.1 is.5 (subst (KindBelow b.count) is.2 below) i o (omega (arith, many, within)) here,
    )
node-readable ps terms code b k (Node.Apply m first slot) is below =
    let many : slice_index_or (map (λ (p : CorePred). p.arity) ps) m 0 ≡ length is.1 = got-index (λ p. p.arity) ps m is.3.pred 0 is.3.is ∙ is.3.arity_is in
    let all : ((u : Tree) → Contains is.1 u → SpeaksBelow b.count u) × (slot < b.count) = subst (KindBelow b.count) is.2 below in (
      (
        omega (arith, many, operands-within (tables_for ps terms code) first is.1 is.5),
        λ i o within here. operands-readable (tables_for ps terms code) b first is.1 is.5 all.0 i o (omega (arith, many, within)) here,
      ),
      all.1,
    )
node-readable ps terms code b k (Node.Value value) is below = absurd is
node-readable ps terms code b k (Node.BuiltIn built m first arity) is below = (
  built-readable ps terms code b first arity is.1 is.4 is.6 (subst (KindBelow b.count) is.2 below),
  subst (λ n. IsEffectOf n arity built) (sym (name-read (tables_for ps terms code) m is.0 is.3)) (subst (λ n. IsEffectOf is.0 n built) (sym is.4) is.5),
)
node-readable ps terms code b k (Node.BuiltInValue built m first arity slot) is below =
    let all : ((u : Tree) → Contains is.1 u → SpeaksBelow b.count u) × (slot < b.count) = subst (KindBelow b.count) is.2 below in (
      built-readable ps terms code b first arity is.1 is.4 is.6 all.0,
      subst (λ n. IsFunctionNamed n arity built) (sym (name-read (tables_for ps terms code) m is.0 is.3)) (subst (λ n. IsFunctionNamed is.0 n built) (sym is.4) is.5),
      all.1,
    )
node-readable ps terms code b k (Node.Constrain g m first arity) is below = (
  built-readable ps terms code b first arity is.1 is.4 is.6 (subst (KindBelow b.count) is.2 below),
  subst (λ n. IsConstraintNamed n arity g) (sym (name-read (tables_for ps terms code) m is.0 is.3)) (subst (λ n. IsConstraintNamed is.0 n g) (sym is.4) is.5),
)
node-readable ps terms code b k (Node.DomainValue f m first arity slot) is below =
    let all : ((u : Tree) → Contains is.1 u → SpeaksBelow b.count u) × (slot < b.count) = subst (KindBelow b.count) is.2 below in (
      built-readable ps terms code b first arity is.1 is.4 is.6 all.0,
      subst (λ n. IsDomainFunctionNamed n arity f) (sym (name-read (tables_for ps terms code) m is.0 is.3)) (subst (λ n. IsDomainFunctionNamed is.0 n f) (sym is.4) is.5),
      all.1,
    )
node-readable ps terms code b k (Node.Solve m first arity) is below = (
  built-readable ps terms code b first arity is.1 is.4 is.6 (subst (KindBelow b.count) is.2 below),
  subst (λ n. is_solve n arity ≡ true) (sym (name-read (tables_for ps terms code) m is.0 is.3)) (subst (λ n. is_solve is.0 n ≡ true) (sym is.4) is.5),
)
node-readable ps terms code b k (Node.CallTerm first arity) is below =
    (built-readable ps terms code b first arity is.0 is.2 is.4 (subst (KindBelow b.count) is.1 below), ap (is_call (codes "call")) is.2 ∙ is.3)

-- ---- steps

steps-cells : (ps : List CorePred) (terms : Terms) (code : Code) (steps : List Step) (first slots at : ℕ) (hs : List Marked) → StepsAt (layout ps (tables_for ps terms code) steps first slots) at hs →
    ((i : ℕ) (h : Marked) → slice_get hs i ≡ Some h → IsUnknown ps (kind_of h.it) → ⊥) → take (length hs) (map (step_cell (tables_for ps terms code)) (drop at steps)) ≡ map (λ h. cell_of h.it) hs
unfolding StepsAt step_cell
steps-cells ps terms code steps first slots at [] are known = refl
steps-cells ps terms code steps first slots at (h ∷ hs) (here, rest) known =
    ap (λ ss. take (suc (length hs)) (map (step_cell (tables_for ps terms code)) ss)) (drop-got steps at here.0 here.1)
    ∙ ap (λ k. (let c : GoalCell = record { kind = k; size = here.0.size } in c) ∷ take (length hs) (map (step_cell (tables_for ps terms code)) (drop (suc at) steps)))
    (node-reads ps terms code (kind_of h.it) here.0.node here.2.node (known 0 h refl))
    ∙ ap (λ k. (let c : GoalCell = record { kind = kind_of h.it; size = k } in c) ∷ take (length hs) (map (step_cell (tables_for ps terms code)) (drop (suc at) steps))) here.2.size
    ∙ ap (λ r. cell_of h.it ∷ r) (steps-cells ps terms code steps first slots (suc at) hs rest (λ i x e. known (suc i) x e))

record StepGot (ps : List CorePred) (t : Tables) (first slots : ℕ) (hs : List Marked) (i : ℕ) (s : Step) : Type 0 where
  h : Marked
  is : slice_get hs i ≡ Some h
  step : IsStepFor ps t first slots h s

same-step : (s r : Step) (o : Option Step) → o ≡ Some s → o ≡ Some r → s ≡ r
same-step s r o a b = cc

step-got : (ps : List CorePred) (t : Tables) (steps : List Step) (first slots at : ℕ) (hs : List Marked) (i : ℕ) (s : Step) → StepsAt (layout ps t steps first slots) at hs → i < length hs → slice_get steps (at + i) ≡ Some s → StepGot ps t first slots hs i s
unfolding StepsAt
step-got ps t steps first slots at [] i s are within here = absurd (omega arith)
step-got ps t steps first slots at (h ∷ hs) zero s (f, rest) within here =
    record { h = h; is = refl; step = subst (IsStepFor ps t first slots h) (same-step f.0 s (slice_get steps at) f.1 (ap (slice_get steps) (omega arith) ∙ here)) f.2 }
step-got ps t steps first slots at (h ∷ hs) (suc i) s (f, rest) within here =
    let r : StepGot ps t first slots hs i s = step-got ps t steps first slots (suc at) hs i s rest (omega arith) (ap (slice_get steps) (omega arith) ∙ here) in
    record { h = r.h; is = r.is; step = r.step }

steps-front : (ps : List CorePred) (t : Tables) (steps : List Step) (first slots at : ℕ) (xs ys : List Marked) → StepsAt (layout ps t steps first slots) at (xs ++ ys) → StepsAt (layout ps t steps first slots) at xs
unfolding StepsAt
steps-front ps t steps first slots at [] ys are = tt
steps-front ps t steps first slots at (x ∷ xs) ys (f, rest) = (f, steps-front ps t steps first slots (suc at) xs ys rest)

steps-behind : (ps : List CorePred) (t : Tables) (steps : List Step) (first slots at n : ℕ) (xs ys : List Marked) → StepsAt (layout ps t steps first slots) at (xs ++ ys) → n ≡ at + length xs → StepsAt (layout ps t steps first slots) n ys
unfolding StepsAt
steps-behind ps t steps first slots at n [] ys are e = subst (λ k. StepsAt (layout ps t steps first slots) k ys) (omega (arith, e)) are
steps-behind ps t steps first slots at n (x ∷ xs) ys (f, rest) e = steps-behind ps t steps first slots (suc at) n xs ys rest (omega (arith, e))

-- ---- marks

says-one : (ps : List CorePred) (t : Tables) (steps : List Step) (first slots at : ℕ) (h : Marked) (hs : List Marked) → StepsAt (layout ps t steps first slots) at (h ∷ hs) → SaysLast steps at h.last
unfolding StepsAt
says-one ps t steps first slots at h hs (f, rest) s here = subst (λ r. r.is_last ≡ h.last) (same-step f.0 s (slice_get steps at) f.1 here) f.2.last

says-rest : (ps : List CorePred) (t : Tables) (steps : List Step) (first slots at : ℕ) (h : Marked) (hs : List Marked) → StepsAt (layout ps t steps first slots) at (h ∷ hs) → StepsAt (layout ps t steps first slots) (at + 1) hs
says-rest ps t steps first slots at h hs are = steps-behind ps t steps first slots at (at + 1) (h ∷ []) hs are (omega arith)

mutual
  unfolding SayLast marked

  say : (ps : List CorePred) (t : Tables) (steps : List Step) (first slots at : ℕ) (g : GoalTree) (last : Bool) → StepsAt (layout ps t steps first slots) at (marked g last) → SayLast steps at g last
  say ps t steps first slots at truth last are = says-one ps t steps first slots at (mark truth last) [] are
  say ps t steps first slots at fail last are = says-one ps t steps first slots at (mark fail last) [] are
  say ps t steps first slots at tick last are = says-one ps t steps first slots at (mark tick last) [] are
  say ps t steps first slots at (call name args) last are = λ other. says-one ps t steps first slots at (mark (call name args) last) [] are
  say ps t steps first slots at (apply name args slot) last are = says-one ps t steps first slots at (mark (apply name args slot) last) [] are
  say ps t steps first slots at (seq gs) last are = (
    says-one ps t steps first slots at (mark (seq gs) last) (marked_seq gs last) are,
    say-seq ps t steps first slots (at + 1) gs last (says-rest ps t steps first slots at (mark (seq gs) last) (marked_seq gs last) are),
  )
  say ps t steps first slots at (alternatives gs) last are = (
    says-one ps t steps first slots at (mark (alternatives gs) last) (marked_each gs last) are,
    say-each ps t steps first slots (at + 1) gs last (says-rest ps t steps first slots at (mark (alternatives gs) last) (marked_each gs last) are),
  )
  say ps t steps first slots at (if_else test g other) last are =
      let rest : StepsAt (layout ps t steps first slots) (at + 1) (marked test false ++ (marked g last ++ marked other last)) =
      says-rest ps t steps first slots at (mark (if_else test g other) last) (marked test false ++ (marked g last ++ marked other last)) are in
      let then : StepsAt (layout ps t steps first slots) (at + 1 + nodes test) (marked g last ++ marked other last) =
      steps-behind ps t steps first slots (at + 1) (at + 1 + nodes test) (marked test false) (marked g last ++ marked other last) rest (omega (arith, length-marked test false)) in (
        says-one ps t steps first slots at (mark (if_else test g other) last) (marked test false ++ (marked g last ++ marked other last)) are,
        say ps t steps first slots (at + 1) test false (steps-front ps t steps first slots (at + 1) (marked test false) (marked g last ++ marked other last) rest),
        say ps t steps first slots (at + 1 + nodes test) g last (steps-front ps t steps first slots (at + 1 + nodes test) (marked g last) (marked other last) then),
        say ps t steps first slots (at + 1 + nodes test + nodes g) other last
            (steps-behind ps t steps first slots (at + 1 + nodes test) (at + 1 + nodes test + nodes g) (marked g last) (marked other last) then (omega (arith, length-marked g last))),
      )
  say ps t steps first slots at (not g) last are =
      (says-one ps t steps first slots at (mark (not g) last) (marked g false) are, say ps t steps first slots (at + 1) g false (says-rest ps t steps first slots at (mark (not g) last) (marked g false) are))
  say ps t steps first slots at (once g) last are =
      (says-one ps t steps first slots at (mark (once g) last) (marked g false) are, say ps t steps first slots (at + 1) g false (says-rest ps t steps first slots at (mark (once g) last) (marked g false) are))
  say ps t steps first slots at (collect g value into) last are = (
    says-one ps t steps first slots at (mark (collect g value into) last) (marked g false) are,
    say ps t steps first slots (at + 1) g false (says-rest ps t steps first slots at (mark (collect g value into) last) (marked g false) are),
  )
  say ps t steps first slots at (count g into) last are = (
    says-one ps t steps first slots at (mark (count g into) last) (marked g false) are,
    say ps t steps first slots (at + 1) g false (says-rest ps t steps first slots at (mark (count g into) last) (marked g false) are),
  )
  say ps t steps first slots at (catch g ball handler) last are =
      let rest : StepsAt (layout ps t steps first slots) (at + 1) (marked g false ++ marked handler last) = says-rest ps t steps first slots at (mark (catch g ball handler) last) (marked g false ++ marked handler last) are in (
        says-one ps t steps first slots at (mark (catch g ball handler) last) (marked g false ++ marked handler last) are,
        say ps t steps first slots (at + 1) g false (steps-front ps t steps first slots (at + 1) (marked g false) (marked handler last) rest),
        say ps t steps first slots (at + 1 + nodes g) handler last
            (steps-behind ps t steps first slots (at + 1) (at + 1 + nodes g) (marked g false) (marked handler last) rest (omega (arith, length-marked g false))),
      )

  say-seq : (ps : List CorePred) (t : Tables) (steps : List Step) (first slots at : ℕ) (gs : GoalTrees) (last : Bool) → StepsAt (layout ps t steps first slots) at (marked_seq gs last) → LastOfAll steps at gs last
  say-seq ps t steps first slots at no_goals last are = tt
  say-seq ps t steps first slots at (goal g no_goals) last are = say ps t steps first slots at g last are
  say-seq ps t steps first slots at (goal g (goal h hs)) last are = (
    say ps t steps first slots at g false (steps-front ps t steps first slots at (marked g false) (marked_seq (goal h hs) last) are),
    say-seq ps t steps first slots (at + nodes g) (goal h hs) last
        (steps-behind ps t steps first slots at (at + nodes g) (marked g false) (marked_seq (goal h hs) last) are (omega (arith, length-marked g false))),
  )

  say-each : (ps : List CorePred) (t : Tables) (steps : List Step) (first slots at : ℕ) (gs : GoalTrees) (last : Bool) → StepsAt (layout ps t steps first slots) at (marked_each gs last) → EachLast steps at gs last
  say-each ps t steps first slots at no_goals last are = tt
  say-each ps t steps first slots at (goal g gs) last are = (
    say ps t steps first slots at g last (steps-front ps t steps first slots at (marked g last) (marked_each gs last) are),
    say-each ps t steps first slots (at + nodes g) gs last
        (steps-behind ps t steps first slots at (at + nodes g) (marked g last) (marked_each gs last) are (omega (arith, length-marked g last))),
  )

-- ---- the whole

map-then : {A B C : Type 0} (f : B → C) (g : A → B) (xs : List A) → map (λ x. f (g x)) xs ≡ map f (map g xs)
map-then f g [] = refl
map-then f g (x ∷ xs) = ap (λ r. f (g x) ∷ r) (map-then f g xs)

goal-at : (g : GoalTree) (last : Bool) (i : ℕ) (h : Marked) → slice_get (marked g last) i ≡ Some h → Contains (subgoals g) h.it
goal-at g last i h at =
    let there : slice_get (subgoals g) i ≡ Some h.it =
    ap (λ r. slice_get r i) (sym (goals-in g last)) ∙ slice_get-map (λ x. x.it) (marked g last) i ∙ ap (option_map (λ x. x.it)) at in
    (i, slice_get_within (subgoals g) i h.it there, get_or_from_slice_get (subgoals g) i h.it h.it there)

pub goal-here : (ps : List CorePred) (terms : Terms) (code : Code) (b : Block) (at : ℕ) (g : GoalTree) (last : Bool) → IsLaid (layout ps (tables_for ps terms code) code.steps.items b.first b.count) at g last → CallsDefined (map pred_tree ps) g → SlotsBelow b.count g →
    IsHere (tables_for ps terms code) code.steps.items b at g last
unfolding flat
goal-here ps terms code b at g last laid known below =
    let t : Tables = tables_for ps terms code in
    record {
      stands = record {
        cells = ap (λ n. take n (map (step_cell t) (drop at code.steps.items))) (sym (length-marked g last))
            ∙ steps-cells ps terms code code.steps.items b.first b.count at (marked g last) laid.steps_are (λ i h e. goal-known ps g h.it known (goal-at g last i h e))
            ∙ map-then cell_of (λ h. h.it) (marked g last) ∙ ap (map cell_of) (goals-in g last);
        fits = omega (arith, laid.fits);
      };
      of_block = λ i s within here.
          (let got : StepGot ps t b.first b.count (marked g last) i s = step-got ps t code.steps.items b.first b.count at (marked g last) i s laid.steps_are (omega (arith, length-marked g last, within)) here in
          record {
            first = got.step.first_is;
            count = got.step.slots_is;
            readable = node-readable ps terms code b (kind_of got.h.it) s.node got.step.node (kind-below b.count got.h.it (below got.h.it (goal-at g last i got.h got.is)));
          });
      says = say ps t code.steps.items b.first b.count at g last laid.steps_are;
    }

pub value-here : (ps : List CorePred) (terms : Terms) (code : Code) (b : Block) (at : ℕ) (value : Tree) → IsValueLaid (tables_for ps terms code) code.steps.items b.first b.count at value → SpeaksBelow b.count value → IsValueHere (tables_for ps terms code) code.steps.items b at value
value-here ps terms code b at value laid below =
    record {
      step = laid.step;
      operand = laid.operand;
      stands = laid.stands;
      node = laid.node;
      is_value = sym (operand-reads (tables_for ps terms code) value laid.operand laid.is_value);
      first = laid.first_is;
      count = laid.slots_is;
      readable = operand-readable (tables_for ps terms code) b value laid.operand laid.is_value below;
    }

-- ---- numbers

not-built : (ps : List CorePred) (function : Bool) (m : ℕ) (name : List ℕ) (k : ℕ) (named : IsNamed ps function m name k) → IsNotBuiltIn function name k → IsNotBuiltIn function named.pred.name named.pred.arity
not-built ps function m name k named isnt =
    subst (λ n. IsNotBuiltIn function n named.pred.arity) (sym named.name_is) (subst (IsNotBuiltIn function name) (sym named.arity_is) isnt)

has-number : (ps : List CorePred) (n : Node) → IsResolved ps n → HasNumber (map pred_tree ps) n
has-number ps Node.True is = tt
has-number ps Node.Fail is = tt
has-number ps Node.Tick is = tt
has-number ps (Node.Seq m) is = tt
has-number ps (Node.Alt m) is = tt
has-number ps Node.If is = tt
has-number ps Node.Not is = tt
has-number ps Node.Once is = tt
has-number ps (Node.Collect value into) is = tt
has-number ps (Node.Count into) is = tt
has-number ps (Node.Catch ball) is = tt
has-number ps (Node.Unify left right) is = tt
has-number ps (Node.Throw ball) is = tt
has-number ps (Node.Call m first) is = (pred_tree is.2.pred, slice_get-map pred_tree ps m ∙ ap (option_map pred_tree) is.2.is, is.2.function_is, not-built ps false m is.0 is.1 is.2 is.3)
has-number ps (Node.Apply m first slot) is = (pred_tree is.2.pred, slice_get-map pred_tree ps m ∙ ap (option_map pred_tree) is.2.is, is.2.function_is, not-built ps true m is.0 is.1 is.2 is.3)
has-number ps (Node.Value value) is = tt
has-number ps (Node.BuiltIn built m first arity) is = tt
has-number ps (Node.BuiltInValue built m first arity slot) is = tt
has-number ps (Node.Constrain g m first arity) is = tt
has-number ps (Node.DomainValue f m first arity slot) is = tt
has-number ps (Node.Solve m first arity) is = tt
has-number ps (Node.CallTerm first arity) is = tt

pub have-numbers : (ps : List CorePred) (steps : List Step) → AreResolved ps steps → (i : ℕ) (s : Step) → slice_get steps i ≡ Some s → HasNumber (map pred_tree ps) s.node
have-numbers ps steps are i s at = has-number ps s.node (are i s at)
