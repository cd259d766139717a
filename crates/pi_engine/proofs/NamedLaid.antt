-- The goals by which names are called stand at their places.
use Rattle.std.proofs.Common.{◌≡◌, ◌⊎◌, inl, inr, ℕ, zero, suc, ◌+◌, ◌≤◌, ◌<◌, ◌==◌, ◌||◌, Bool, true, false, List, [], ◌∷◌, Some, IsSome, length, map, refl, sym, ◌∙◌, ap, subst, arith, eqb-true}
use Rattle.std.specs.Prelude.{All, IsTrue, Option, None, codes}
use Rattle.std.specs.Str.{bytes_eq}
use Rattle.std.proofs.lemmas.Bool.{and_parts}
use Rattle.std.proofs.lemmas.List.Elements.{All-nil, All-cons, All-contains}
use Rattle.pi_terms.specs.Tree.{Tree, var}
use Rattle.pi_constraints.specs.State.{SpeaksBelow}
use Rattle.pi_constraints.specs.Store.{Terms}
use Rattle.pi_constraints.proofs.KeepsLemmas.{var-below}
use Rattle.pi_core.specs.GoalTree.{GoalTree, truth, fail, tick, call, apply, seq, alternatives, if_else, not, once, collect, count, catch, subgoals}
use Rattle.pi_core.specs.CoreTree.{PredTree, pred_tree, find_pred}
use Rattle.pi_meaning.specs.Shared.Effects.{is_built_name, is_value_name}
use Rattle.pi_meaning.specs.Shared.Names.{is_call, is_catch}
use Rattle.pi_meaning.specs.CoreMeaning.Sound.{NamesBelow, SlotsBelow}
use Rattle.pi_meaning.specs.CoreMeaning.Defined.{is_machine_predicate, CallsDefined}
use Rattle.pi_meaning.specs.CoreMeaning.Instances.{is_called_by_name}
use Rattle.pi_meaning.specs.Machine.NamedGoals.{slots_from, call_of_slot, call_of_slots, catch_of_slots}
use Rattle.pi_meaning.proofs.Shared.NamesApart.{call-name, slots-count}
use Rattle.pi_meaning.proofs.Machine.NamedLemmas.{NamedBy, by_catch, by_call, by_name, named-by}
use Rattle.pi_engine_code.specs.declared.code.Code.{Code}
use Rattle.pi_engine_code.specs.Code.{preds_of, tables_of}
use Rattle.pi_engine_code.specs.Callables.{IsPlaceOf, AreCallable}
use Rattle.pi_engine_stands.specs.Stands.{AreNamed}
use Rattle.pi_engine.proofs.LaidHere.{goal-here}

-- ---- what such a goal calls

-- what a goal calls itself, and not in a goal in it, is there
abbrev CallIsThere : List PredTree → GoalTree → Type 0
CallIsThere preds truth = Unit {0}
CallIsThere preds fail = Unit {0}
CallIsThere preds tick = Unit {0}
CallIsThere preds (call name args) = IsSome (find_pred false name (length args) preds) ⊎ IsTrue (is_machine_predicate name (length args))
CallIsThere preds (apply name args slot) = IsSome (find_pred true name (length args) preds) ⊎ IsTrue (is_value_name name (length args))
CallIsThere preds (seq gs) = Unit {0}
CallIsThere preds (alternatives gs) = Unit {0}
CallIsThere preds (if_else test then other) = Unit {0}
CallIsThere preds (not g) = Unit {0}
CallIsThere preds (once g) = Unit {0}
CallIsThere preds (collect g value into) = Unit {0}
CallIsThere preds (count g into) = Unit {0}
CallIsThere preds (catch g ball handler) = Unit {0}

calls-there : (preds : List PredTree) (g : GoalTree) → All (CallIsThere preds) (subgoals g) → CallsDefined preds g
calls-there preds g all = record {
  calls = λ name args at. All-contains (CallIsThere preds) (subgoals g) (call name args) all at;
  functions = λ name args slot at. All-contains (CallIsThere preds) (subgoals g) (apply name args slot) all at;
}

call-there : (preds : List PredTree) (args : List Tree) → is_call (codes "call") (length args) ≡ true → CallIsThere preds (call (codes "call") args)
call-there preds args is = inr (ap (λ b. b || is_built_name (codes "call") (length args)) is)

-- one after the other
two : {X : Type 0} (P : X → Type 0) (x y : X) → P x → P y → All P (x ∷ y ∷ [])
two P x y a b = All-cons P x (y ∷ []) a (All-cons P y [] b (All-nil P))

behind-tick : (P : GoalTree → Type 0) (g h : GoalTree) (xs : List GoalTree) → P g → P tick → P h → All P xs → All P (g ∷ tick ∷ h ∷ xs)
behind-tick P g h xs a b c rest = All-cons P g (tick ∷ h ∷ xs) a (All-cons P tick (h ∷ xs) b (All-cons P h xs c rest))

some-found : (o : Option PredTree) → is_called_by_name o ≡ true → IsSome o
some-found None is = absurd cc
some-found (Some pred) is = refl

there-by : (a b : Bool) → (a || b) ≡ true → (a ≡ true) ⊎ (b ≡ true)
there-by true b h = inl refl
there-by false b h = inr h

either-call : (a b : Bool) → b ≡ true → (a || b) ≡ true
either-call true b h = refl
either-call false b h = h

name-there : (preds : List PredTree) (name : List ℕ) (k : ℕ) (args : List Tree) → length args ≡ k → (is_built_name name k || is_called_by_name (find_pred false name k preds)) ≡ true → CallIsThere preds (call name args)
name-there preds name k args many there =
    subst (λ n. IsSome (find_pred false name n preds) ⊎ IsTrue (is_machine_predicate name n)) (sym many)
    (elim (there-by (is_built_name name k) (is_called_by_name (find_pred false name k preds)) there) [
      | inl built ↦ inr (either-call (is_call name k) (is_built_name name k) built)
      | inr called ↦ inl (some-found (find_pred false name k preds) called)
    ])

named-calls : (preds : List PredTree) (name : List ℕ) (k : ℕ) (g : GoalTree) → NamedBy preds name k g → CallsDefined preds g
unfolding subgoals
named-calls preds name k _ (by_catch is) =
    let P : GoalTree → Type 0 = CallIsThere preds in
    calls-there preds catch_of_slots
    (behind-tick P catch_of_slots (catch (call_of_slot 0) (var 1) (call_of_slot 2)) (call_of_slot 0 ∷ call_of_slot 2 ∷ []) tt tt tt (two P (call_of_slot 0) (call_of_slot 2) (call-there preds (var 0 ∷ []) refl) (call-there preds (var 2 ∷ []) refl)))
named-calls preds name k _ (by_call other is) =
    let P : GoalTree → Type 0 = CallIsThere preds in
    let args : List Tree = slots_from 0 k in
    let is_so : is_call (codes "call") (length args) ≡ true = ap (is_call (codes "call")) (slots-count 0 k) ∙ sym (ap (λ n. is_call n k) (call-name name k is)) ∙ is in
    calls-there preds (call_of_slots k) (behind-tick P (call_of_slots k) (call (codes "call") args) [] tt tt (call-there preds args is_so) (All-nil P))
named-calls preds name k _ (by_name other another there) =
    let P : GoalTree → Type 0 = CallIsThere preds in
    calls-there preds (call name (slots_from 0 k)) (All-cons P (call name (slots_from 0 k)) [] (name-there preds name k (slots_from 0 k) (slots-count 0 k) there) (All-nil P))

-- ---- the slots that it has

slots-below : (i k n : ℕ) → i + k ≤ n → All (SpeaksBelow n) (slots_from i k)
unfolding slots_from
slots-below i zero n less = All-nil (SpeaksBelow n)
slots-below i (suc k) n less = All-cons (SpeaksBelow n) (var i) (slots_from (suc i) k) (var-below n i (omega (arith, less))) (slots-below (suc i) k n (omega (arith, less)))

goals-below : (n : ℕ) (g : GoalTree) → All (NamesBelow n) (subgoals g) → SlotsBelow n g
goals-below n g all h at = All-contains (NamesBelow n) (subgoals g) h all at

call-below : (n : ℕ) (name : List ℕ) (args : List Tree) → All (SpeaksBelow n) args → NamesBelow n (call name args)
call-below n name args all t at = All-contains (SpeaksBelow n) args t all at

slot-below : (n i : ℕ) → i < n → NamesBelow n (call_of_slot i)
slot-below n i less = call-below n (codes "call") (var i ∷ []) (All-cons (SpeaksBelow n) (var i) [] (var-below n i less) (All-nil (SpeaksBelow n)))

three : (name : List ℕ) (k : ℕ) → is_catch name k ≡ true → k ≡ 3
three name k is = eqb-true k 3 (and_parts (k == 3) (bytes_eq name (codes "catch")) is).0

named-slots : (preds : List PredTree) (name : List ℕ) (k : ℕ) (g : GoalTree) → NamedBy preds name k g → SlotsBelow k g
unfolding subgoals
named-slots preds name k _ (by_catch is) =
    let P : GoalTree → Type 0 = NamesBelow k in
    let many : k ≡ 3 = three name k is in
    goals-below k catch_of_slots
    (behind-tick P catch_of_slots (catch (call_of_slot 0) (var 1) (call_of_slot 2)) (call_of_slot 0 ∷ call_of_slot 2 ∷ []) tt tt (var-below k 1 (omega (arith, many)))
    (two P (call_of_slot 0) (call_of_slot 2) (slot-below k 0 (omega (arith, many))) (slot-below k 2 (omega (arith, many)))))
named-slots preds name k _ (by_call other is) =
    let P : GoalTree → Type 0 = NamesBelow k in
    let args : List Tree = slots_from 0 k in
    goals-below k (call_of_slots k) (behind-tick P (call_of_slots k) (call (codes "call") args) [] tt tt (call-below k (codes "call") args (slots-below 0 k k (omega arith))) (All-nil P))
named-slots preds name k _ (by_name other another there) =
    let P : GoalTree → Type 0 = NamesBelow k in
    goals-below k (call name (slots_from 0 k)) (All-cons P (call name (slots_from 0 k)) [] (call-below k name (slots_from 0 k) (slots-below 0 k k (omega arith))) (All-nil P))

-- ---- their places

pub named-stand : (terms : Terms) (names : List (List ℕ)) (code : Code) → AreCallable (preds_of code) (tables_of terms code) names code.steps.items code.callables →
    AreNamed code (tables_of terms code) names (map pred_tree (preds_of code))
named-stand terms names code are =
    let preds : List PredTree = map pred_tree (preds_of code) in
    record {
      right = λ n k place found.
          (let it : IsPlaceOf (preds_of code) (tables_of terms code) names code.steps.items n k place = are.right n k place found in
          let by_it : NamedBy preds it.name k it.it = named-by preds it.name k it.it it.goal_is in
          record {
            name = it.name;
            name_is = it.name_is;
            it = it.it;
            is = it.goal_is;
            here = λ base. goal-here (preds_of code) terms code (record { base = base; first = 0; count = k }) place it.it true it.laid (named-calls preds it.name k it.it by_it) (named-slots preds it.name k it.it by_it);
          });
      each = are.each;
    }
