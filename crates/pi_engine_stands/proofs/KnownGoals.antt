-- What the goals of a program call whose calls are defined is there.
use Rattle.std.proofs.Common.{◌≡◌, ◌⊎◌, inl, inr, ℕ, suc, Bool, true, false, ◌==◌, ◌&&◌, ◌||◌, cond, List, [], ◌∷◌, Some, IsSome, length, map, refl}
use Rattle.std.specs.Prelude.{Contains, IsTrue}
use Rattle.std.specs.Ordering.{is_eq}
use Rattle.std.proofs.lemmas.Bool.Decides.{Decides-eqb}
use Rattle.pi_terms.specs.Order.{name_order}
use Rattle.pi_core.specs.GoalTree.{GoalTree, truth, fail, tick, call, apply, seq, alternatives, if_else, not, once, collect, count, catch, subgoals}
use Rattle.pi_core.specs.GoalCells.{kind_of}
use Rattle.pi_core.specs.CoreTree.{pred_tree, find_pred, is_pred}
use Rattle.pi_meaning.specs.Shared.Effects.{is_built_name, is_value_name}
use Rattle.pi_meaning.specs.Shared.Names.{is_call}
use Rattle.pi_meaning.specs.CoreMeaning.Defined.{is_machine_predicate, CallsDefined}
use Rattle.pi_core.specs.declared.core_program.CorePred.{CorePred}
use Rattle.pi_constraints.proofs.MatchLemmas.{same_name}
use Rattle.pi_engine_code.specs.Laid.{IsNamed, IsUnnamed, IsNotBuiltIn, IsUnknown}
use Rattle.pi_engine_code.proofs.NumbersLemmas.{both}

-- a predicate among these that a call names
pub record Found (preds : List CorePred) (function : Bool) (name : List ℕ) (k : ℕ) : Type 0 where
  pub number : ℕ
  pub is : IsNamed preds function number name k

found-later : (p : CorePred) (ps : List CorePred) (function : Bool) (name : List ℕ) (k : ℕ) → Found ps function name k → Found (p ∷ ps) function name k
found-later p ps function name k f =
    record { number = suc f.number; is = record { pred = f.is.pred; is = f.is.is; function_is = f.is.function_is; name_is = f.is.name_is; arity_is = f.is.arity_is } }

unless : (a b : Bool) → cond a false b ≡ true → (a ≡ false) × (b ≡ true)
unless true b h = absurd cc
unless false b h = (refl, h)

named-first : (function : Bool) (name : List ℕ) (k : ℕ) (p : CorePred) → is_pred function name k (pred_tree p) ≡ true → (p.function ≡ function) × (p.name ≡ name) × (p.arity ≡ k)
named-first true name k p h =
    let a : (p.function ≡ true) × ((is_eq (name_order p.name name) && (p.arity == k)) ≡ true) = both p.function (is_eq (name_order p.name name) && (p.arity == k)) h in
    let b : (is_eq (name_order p.name name) ≡ true) × ((p.arity == k) ≡ true) = both (is_eq (name_order p.name name)) (p.arity == k) a.1 in
    (a.0, same_name p.name name b.0, (Decides-eqb p.arity k).0 b.1)
named-first false name k p h =
    let a : (p.function ≡ false) × ((is_eq (name_order p.name name) && (p.arity == k)) ≡ true) = unless p.function (is_eq (name_order p.name name) && (p.arity == k)) h in
    let b : (is_eq (name_order p.name name) ≡ true) × ((p.arity == k) ≡ true) = both (is_eq (name_order p.name name)) (p.arity == k) a.1 in
    (a.0, same_name p.name name b.0, (Decides-eqb p.arity k).0 b.1)

find-some : (b : Bool) (p : CorePred) (ps : List CorePred) (function : Bool) (name : List ℕ) (k : ℕ) → is_pred function name k (pred_tree p) ≡ b → IsSome (cond b (Some (pred_tree p)) (find_pred function name k (map pred_tree ps))) →
    (IsSome (find_pred function name k (map pred_tree ps)) → Found ps function name k) → Found (p ∷ ps) function name k
find-some true p ps function name k is some later =
    let n : (p.function ≡ function) × (p.name ≡ name) × (p.arity ≡ k) = named-first function name k p is in
    record { number = 0; is = record { pred = p; is = refl; function_is = n.0; name_is = n.1; arity_is = n.2 } }
find-some false p ps function name k is some later = found-later p ps function name k (later some)

find-named : (ps : List CorePred) (function : Bool) (name : List ℕ) (k : ℕ) → IsSome (find_pred function name k (map pred_tree ps)) → Found ps function name k
unfolding find_pred
find-named [] function name k some = absurd cc
find-named (p ∷ ps) function name k some = find-some (is_pred function name k (pred_tree p)) p ps function name k refl some (find-named ps function name k)

not-both : (b : Bool) → b ≡ false → b ≡ true → ⊥
not-both b isnt is = absurd cc

neither : (a b : Bool) → a ≡ false → b ≡ false → (a || b) ≡ true → ⊥
neither true b isnt none is = absurd cc
neither false true isnt none is = absurd cc
neither false false isnt none is = absurd cc

known-call : (ps : List CorePred) (name : List ℕ) (k : ℕ) → IsSome (find_pred false name k (map pred_tree ps)) ⊎ IsTrue (is_machine_predicate name k) → IsUnnamed ps false name k → IsNotBuiltIn false name k → ⊥
known-call ps name k (inl some) none isnt = let f : Found ps false name k = find-named ps false name k some in none f.number f.is
known-call ps name k (inr built) none isnt = neither (is_call name k) (is_built_name name k) isnt.1 isnt.0 built

known-function : (ps : List CorePred) (name : List ℕ) (k : ℕ) → IsSome (find_pred true name k (map pred_tree ps)) ⊎ IsTrue (is_value_name name k) → IsUnnamed ps true name k → IsNotBuiltIn true name k → ⊥
known-function ps name k (inl some) none isnt = let f : Found ps true name k = find-named ps true name k some in none f.number f.is
known-function ps name k (inr built) none isnt = not-both (is_value_name name k) isnt built

-- what a goal calls is there
pub goal-known : (ps : List CorePred) (g h : GoalTree) → CallsDefined (map pred_tree ps) g → Contains (subgoals g) h → IsUnknown ps (kind_of h) → ⊥
unfolding kind_of
goal-known ps g truth known at un = un
goal-known ps g fail known at un = un
goal-known ps g tick known at un = un
goal-known ps g (call name args) known at un = known-call ps name (length args) (known.calls name args at) un.0 un.1
goal-known ps g (apply name args slot) known at un = known-function ps name (length args) (known.functions name args slot at) un.0 un.1
goal-known ps g (seq gs) known at un = un
goal-known ps g (alternatives gs) known at un = un
goal-known ps g (if_else test then other) known at un = un
goal-known ps g (not h) known at un = un
goal-known ps g (once h) known at un = un
goal-known ps g (collect h value into) known at un = un
goal-known ps g (count h into) known at un = un
goal-known ps g (catch h ball handler) known at un = un
