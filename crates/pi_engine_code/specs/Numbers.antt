-- The numbers of predicates by what a call names.
use Rattle.std.specs.Prelude.{◌≡◌, ℕ, ◌==◌, ◌&&◌, Bool, List, Option, Some, IsSome, length, slice_get}
use Rattle.std.specs.Bool.{beq}
use Rattle.std.specs.Str.{bytes_eq}
use Rattle.std.specs.HashMap.{get_by}
use Rattle.pi_core.specs.declared.core_program.CorePred.{CorePred}
use Rattle.pi_engine_code.specs.declared.build.numbers.Key.{Key}
use Rattle.pi_engine_code.specs.declared.build.numbers.Numbers.{Numbers}
use Rattle.pi_engine_code.specs.Laid.{IsNamed}

-- a key is what a call names
abbrev pub is_key : Bool → List ℕ → ℕ → Key → Bool
is_key function name k key = beq function key.is_function && (bytes_eq name key.name.now && (k == key.arity))

-- the number that is found
abbrev pub number_in : Numbers → Bool → List ℕ → ℕ → Option ℕ
number_in m function name k = get_by (is_key function name k) m.by_key

-- each of these predicates has a number, which names it
pub record IsNumbering (m : Numbers) (preds : List CorePred) : Type 0 where
  pub count : m.count ≡ length preds
  pub names : (function : Bool) (name : List ℕ) (k n : ℕ) → number_in m function name k ≡ Some n → IsNamed preds function n name k
  pub each : (n : ℕ) (pred : CorePred) → slice_get preds n ≡ Some pred → IsSome (number_in m pred.function pred.name pred.arity)
