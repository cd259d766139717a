-- Calls on an object, one after the other.
use Rattle.std.proofs.Common.{List, [], ◌∷◌, ◌++◌, sym, subst}
use Rattle.pi_outside.specs.Went.{Went}

-- one run of calls, and then another
pub Went-then : {S C : Type 0} (does : S → C → S → Type 0) (before between after : S) (first second : List C) →
    Went does before first between → Went does between second after → Went does before (first ++ second) after
Went-then does before between after [] second same more = subst (λ s. Went does s second after) (sym same) more
Went-then does before between after (call ∷ calls) second all more = (all.0, all.1, Went-then does all.0 between after calls second all.2 more)
