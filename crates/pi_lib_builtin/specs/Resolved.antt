-- What a name that is built in is resolved to: a built-in that does the same with so many arguments, whatever they and the state are. (Own.)
use Rattle.std.specs.Prelude.{◌≡◌, ℕ, true, cond, List, [], ◌∷◌, map, Option, Some, None}
use Rattle.std.specs.Str.{bytes_eq}
use Rattle.std.specs.Borrow.{Bor}
use Rattle.pi_terms.specs.Tree.{Trees, tree_count}
use Rattle.pi_constraints.specs.State.{State}
use Rattle.pi_effects.specs.BuiltIns.{built_in_function, built_in_predicate, is_function, is_predicate}
use Rattle.pi_lib_builtin.specs.Names.{function_name, function_arity, predicate_name, takes}
use Rattle.pi_lib_builtin.specs.declared.functions.Function.{Function}
use Rattle.pi_lib_builtin.specs.declared.predicates.Predicate.{Predicate}

pub record IsFunctionNamed (name : List ℕ) (count : ℕ) (f : Function) : Type 0 where
  pub known : is_function name count ≡ true
  pub takes : function_arity f ≡ count
  pub same : (ts : Trees) (s : State) → tree_count ts ≡ count → built_in_function name ts s ≡ built_in_function (function_name f) ts s

pub record IsPredicateNamed (name : List ℕ) (count : ℕ) (p : Predicate) : Type 0 where
  pub known : is_predicate name count ≡ true
  pub takes : takes p count ≡ true
  pub same : (ts : Trees) (s : State) → tree_count ts ≡ count → built_in_predicate name ts s ≡ built_in_predicate (predicate_name p) ts s

-- ---- tables

-- a name, with what it is
abbrev pub Named : Type 0 → Type 0
Named T = List ℕ × T

abbrev pub rows_shown : {T : Type 0} → List (Bor (List ℕ) × T) → List (Named T)
rows_shown rows = map (λ r. (r.0.now, r.1)) rows

-- what stands in the first row with the name
unfoldable pub first_named : {T : Type 0} → List ℕ → List (Named T) → Option T
first_named name [] = None
first_named name (r ∷ rows) = cond (bytes_eq r.0 name) (Some r.1) (first_named name rows)

-- the names of rows, each with so many arguments
abbrev pub named_with : {T : Type 0} → ℕ → List (Named T) → List (Named ℕ)
named_with k rows = map (λ r. (r.0, k)) rows
