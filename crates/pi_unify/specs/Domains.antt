-- Variables that are met one after the other, and their domains.
use Rattle.std.specs.Prelude.{◌≡◌, ℕ, List, [], ◌∷◌, None, ⊤}
use Rattle.std.specs.List.{flat_map}
use Rattle.pi_terms.specs.Variables.{occurrences, firsts}
use Rattle.pi_terms.specs.Places.{held}
use Rattle.pi_constraints.specs.Value.{IsAcyclic}
use Rattle.pi_constraints.specs.State.{State, bindings}
use Rattle.pi_constraints.specs.ToldDomains.{told_domains}
use Rattle.pi_core.specs.declared.answer.NamedTerm.{NamedTerm}
use Rattle.pi_unify.specs.declared.domains.Met.{Met}

-- none of these variables is bound
unfoldable pub AreUnbound : State → List ℕ → Type 0
AreUnbound s [] = ⊤
AreUnbound s (n ∷ ns) = (held (bindings s) n ≡ None) × AreUnbound s ns

-- these were met: each is noted once, and if they are unbound, those that have a domain with it
pub record HasMet (s : State) (ns : List ℕ) (met : Met) : Type 0 where
  pub variables : met.variables ≡ firsts ns
  pub domains : IsAcyclic (bindings s) → AreUnbound s ns → met.domains ≡ told_domains s (firsts ns)

-- the variables at all places of the values, from the left
abbrev pub occurring : List NamedTerm → List ℕ
occurring values = flat_map (λ (v : NamedTerm). occurrences v.value) values
