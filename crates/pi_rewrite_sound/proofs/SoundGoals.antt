-- Goals that are fine in a core program call what it has and what the tables have; what is reached in a goal is called in it.
use Rattle.std.proofs.Common.{◌≡◌, ◌⊎◌, inl, inr, ℕ, Bool, true, false, List, [], ◌∷◌, ◌++◌, length, refl, sym, ◌∙◌, ap, subst, arith}
use Rattle.std.proofs.lemmas.Bool.{false≢true}
use Rattle.std.proofs.lemmas.List.Elements.{Contains-append_left, Contains-append_right}
use Rattle.std.specs.Prelude.{Option, Some, None, Contains, is_some, IsSome, IsTrue, ◌||◌}
use Rattle.pi_terms.specs.Tree.{Tree}
use Rattle.pi_core.specs.GoalTree.{GoalTree, truth, fail, tick, call, apply, seq, alternatives, if_else, not, once, collect, count, catch, GoalTrees, no_goals, goal, subgoals, subgoals_all}
use Rattle.pi_core.specs.CoreTree.{PredTree, find_pred}
use Rattle.pi_meaning.specs.Shared.Effects.{is_value_name}
use Rattle.pi_meaning.specs.Shared.Names.{is_given, is_planner}
use Rattle.pi_meaning.specs.CoreMeaning.Quiet.{Callee, Reaches, ReachesInAll, ReachesInAny}
use Rattle.pi_meaning.specs.CoreMeaning.Sound.{CallsKnown}
use Rattle.pi_meaning.specs.CoreMeaning.Defined.{CallsDefined, NamesAreFree, is_machine_predicate}
use Rattle.pi_meaning.proofs.CoreMeaning.DefinedLemmas.{IsFound, found-pred}
use Rattle.pi_rewrite_sound.proofs.NameLemmas.{no-planner, planner-given, machine-given, table-given}
use Rattle.pi_rewrite_sound.proofs.FineGoals.{Fine, predicate-may, function-may}
use Rattle.pi_rewrite_sound.proofs.FoundLemmas.{found_in}

-- what a core program makes of a goal's calls
pub record GoodGoal (preds : List PredTree) (g : GoalTree) : Type 0 where
  pub known : CallsKnown preds g
  pub defined : CallsDefined preds g

pub one-of-two : (a b : Bool) → IsTrue (a || b) → IsTrue a ⊎ IsTrue b
one-of-two true b is = inl refl
one-of-two false b is = inr is

-- what is found has no name that the language gives
pub found-free : (preds : List PredTree) → NamesAreFree preds → (kind : Bool) (name : List ℕ) (k : ℕ) (pred : PredTree) → find_pred kind name k preds ≡ Some pred → is_given kind name k ≡ false
found-free preds free kind name k pred is =
    let found : IsFound preds kind name k pred = found-pred preds kind name k pred is in
    ap (λ (b : Bool). is_given b name k) (sym found.function_is) ∙ ap (λ (n : List ℕ). is_given pred.function n k) (sym found.name_is) ∙ ap (is_given pred.function pred.name) (sym found.arity_is) ∙ free pred found.among

some-free : (preds : List PredTree) → NamesAreFree preds → (kind : Bool) (name : List ℕ) (k : ℕ) → IsSome (find_pred kind name k preds) → is_given kind name k ≡ false
some-free preds free kind name k is = go (find_pred kind name k preds) refl is
  where
    go : (o : Option PredTree) → find_pred kind name k preds ≡ o → IsSome o → is_given kind name k ≡ false
    go None at h = absurd (false≢true h)
    go (Some pred) at h = found-free preds free kind name k pred at

pub goal-good : (preds : List PredTree) → NamesAreFree preds → (n : ℕ) (g : GoalTree) → Fine n (found_in preds) g → GoodGoal preds g
goal-good preds free n g fine = record {
  known = record {
    calls = λ name args there. given name (length args) (predicate name args there);
    functions = λ name args slot there. tabled name (length args) (applied name args slot there);
    plans = λ name args there is. absurd (planned name (length args) is (predicate name args there));
  };
  defined = record { calls = predicate; functions = applied };
}
  where
    predicate : (name : List ℕ) (args : List Tree) → Contains (subgoals g) (call name args) → IsSome (find_pred false name (length args) preds) ⊎ IsTrue (is_machine_predicate name (length args))
    predicate name args there = one-of-two (is_some (find_pred false name (length args) preds)) (is_machine_predicate name (length args)) (predicate-may n (found_in preds) g fine name args there)

    applied : (name : List ℕ) (args : List Tree) (slot : ℕ) → Contains (subgoals g) (apply name args slot) → IsSome (find_pred true name (length args) preds) ⊎ IsTrue (is_value_name name (length args))
    applied name args slot there = one-of-two (is_some (find_pred true name (length args) preds)) (is_value_name name (length args)) (function-may n (found_in preds) g fine name args slot there)

    given : (name : List ℕ) (k : ℕ) → IsSome (find_pred false name k preds) ⊎ IsTrue (is_machine_predicate name k) → IsSome (find_pred false name k preds) ⊎ IsTrue (is_given false name k)
    given name k (inl found) = inl found
    given name k (inr machine) = inr (machine-given name k machine)

    tabled : (name : List ℕ) (k : ℕ) → IsSome (find_pred true name k preds) ⊎ IsTrue (is_value_name name k) → IsSome (find_pred true name k preds) ⊎ IsTrue (is_given true name k)
    tabled name k (inl found) = inl found
    tabled name k (inr table) = inr (table-given name k table)

    planned : (name : List ℕ) (k : ℕ) → IsTrue (is_planner name k) → IsSome (find_pred false name k preds) ⊎ IsTrue (is_machine_predicate name k) → ⊥
    planned name k is (inl found) = false≢true (sym (some-free preds free false name k found) ∙ planner-given name k is)
    planned name k is (inr machine) = no-planner name k is machine

-- ---- what is reached is called

module _ (P : Bool → List ℕ → ℕ → Type 0) where
  pub record Calls (gs : List GoalTree) : Type 0 where
    pub predicates : (name : List ℕ) (args : List Tree) → Contains gs (call name args) → P false name (length args)
    pub functions : (name : List ℕ) (args : List Tree) (slot : ℕ) → Contains gs (apply name args slot) → P true name (length args)

  calls-first : (gs hs : List GoalTree) → Calls (gs ++ hs) → Calls gs
  calls-first gs hs are = record {
    predicates = λ name args there. are.predicates name args (Contains-append_left gs hs (call name args) there);
    functions = λ name args slot there. are.functions name args slot (Contains-append_left gs hs (apply name args slot) there);
  }

  calls-last : (gs hs : List GoalTree) → Calls (gs ++ hs) → Calls hs
  calls-last gs hs are = record {
    predicates = λ name args there. are.predicates name args (Contains-append_right gs hs (call name args) there);
    functions = λ name args slot there. are.functions name args slot (Contains-append_right gs hs (apply name args slot) there);
  }

  calls-behind : (g : GoalTree) (gs : List GoalTree) → Calls (g ∷ gs) → Calls gs
  calls-behind g gs are = calls-last (g ∷ []) gs are

  here : (c d : Callee) → c ≡ d → P d.function d.name d.arity → P c.function c.name c.arity
  here c d same is = subst (λ (x : Callee). P x.function x.name x.arity) (sym same) is

  mutual
    unfolding Reaches subgoals

    pub reached-called : (c : Callee) (g : GoalTree) → Calls (subgoals g) → Reaches c g → P c.function c.name c.arity
    reached-called c truth are at = absurd at
    reached-called c fail are at = absurd at
    reached-called c tick are at = absurd at
    reached-called c (call name args) are at = here c _ at (are.predicates name args (0, omega arith, refl))
    reached-called c (apply name args slot) are at = here c _ at (are.functions name args slot (0, omega arith, refl))
    reached-called c (seq gs) are at = reached-all c gs (calls-behind (seq gs) (subgoals_all gs) are) at
    reached-called c (alternatives gs) are at = reached-any c gs (calls-behind (alternatives gs) (subgoals_all gs) are) at
    reached-called c (if_else test holds other) are (inl first) = reached-called c test (calls-first (subgoals test) (subgoals holds ++ subgoals other) (calls-behind (if_else test holds other) (subgoals test ++ (subgoals holds ++ subgoals other)) are)) first
    reached-called c (if_else test holds other) are (inr (inl second)) =
        reached-called c holds (calls-first (subgoals holds) (subgoals other) (calls-last (subgoals test) (subgoals holds ++ subgoals other) (calls-behind (if_else test holds other) (subgoals test ++ (subgoals holds ++ subgoals other)) are))) second.1
    reached-called c (if_else test holds other) are (inr (inr third)) =
        reached-called c other (calls-last (subgoals holds) (subgoals other) (calls-last (subgoals test) (subgoals holds ++ subgoals other) (calls-behind (if_else test holds other) (subgoals test ++ (subgoals holds ++ subgoals other)) are))) third
    reached-called c (not g) are at = reached-called c g (calls-behind (not g) (subgoals g) are) at
    reached-called c (once g) are at = reached-called c g (calls-behind (once g) (subgoals g) are) at
    reached-called c (collect g value into) are at = reached-called c g (calls-behind (collect g value into) (subgoals g) are) at
    reached-called c (count g into) are at = reached-called c g (calls-behind (count g into) (subgoals g) are) at
    reached-called c (catch g ball handler) are (inl first) = reached-called c g (calls-first (subgoals g) (subgoals handler) (calls-behind (catch g ball handler) (subgoals g ++ subgoals handler) are)) first
    reached-called c (catch g ball handler) are (inr second) = reached-called c handler (calls-last (subgoals g) (subgoals handler) (calls-behind (catch g ball handler) (subgoals g ++ subgoals handler) are)) second

    reached-all : (c : Callee) (gs : GoalTrees) → Calls (subgoals_all gs) → ReachesInAll c gs → P c.function c.name c.arity
    reached-all c no_goals are at = absurd at
    reached-all c (goal g gs) are (inl first) = reached-called c g (calls-first (subgoals g) (subgoals_all gs) are) first
    reached-all c (goal g gs) are (inr later) = reached-all c gs (calls-last (subgoals g) (subgoals_all gs) are) later.1

    reached-any : (c : Callee) (gs : GoalTrees) → Calls (subgoals_all gs) → ReachesInAny c gs → P c.function c.name c.arity
    reached-any c no_goals are at = absurd at
    reached-any c (goal g gs) are (inl first) = reached-called c g (calls-first (subgoals g) (subgoals_all gs) are) first
    reached-any c (goal g gs) are (inr later) = reached-any c gs (calls-last (subgoals g) (subgoals_all gs) are) later
