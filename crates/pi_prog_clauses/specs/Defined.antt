-- What the code's names and sets of names are. The names of a set are known by any list that has the same ones.
use Rattle.std.specs.Prelude.{◌≡◌, Bool, List}
use Rattle.std.specs.List.{list_any}
use Rattle.pi_syntax.specs.Signature.{Signature}
use Rattle.pi_prog_clauses.specs.Called.{named_by}
use Rattle.pi_prog_clauses.specs.Calls.{Named, same_named}
use Rattle.pi_prog_clauses.specs.declared.names.calls.Called.{Called}
use Rattle.pi_prog_clauses.specs.declared.names.definitions.Definitions.{Definitions}

abbrev pub signature_by : Called → Signature
signature_by c = record { name = c.name.now; arity = c.arity }

-- the set has it
abbrev pub has : Definitions → Named → Bool
has set call = list_any (λ (key : Called). same_named call (named_by key)) set.names.keys

-- the set has exactly those of the list
pub record IsSetOf (set : Definitions) (names : List Named) : Type 0 where
  pub each : (call : Named) → has set call ≡ list_any (same_named call) names
