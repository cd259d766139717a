-- Facts that are tried one after the other.
use Rattle.std.specs.Prelude.{◌≡◌, ℕ, ◌-◌, ◌≤◌, ◌<◌, List, [], ◌∷◌, Option, Some, None, drop}
use Rattle.pi_terms.specs.Tree.{Trees}
use Rattle.pi_constraints.specs.State.{State}
use Rattle.pi_core.specs.CoreTree.{ClauseTree}
use Rattle.pi_meaning.specs.Machine.Step.{with_fact, from_unifying}

-- facts that have numbers from one on to before another
pub record Numbered : Type 0 where
  pub facts : List ClauseTree
  pub first : ℕ
  pub end : ℕ

abbrev pub numbered : List ClauseTree → ℕ → ℕ → Numbered
numbered cs first end = record { facts = cs; first = first; end = end }

-- the fact with a number is the first from `from` on that unifies with a call, and these stand behind it
pub record IsFirst (ts : Trees) (s : State) (cs : Numbered) (from number : ℕ) : Type 0 where
  pub from_on : from ≤ number
  pub within : number < cs.end
  pub fact : ClauseTree
  pub behind : List ClauseTree
  pub here : drop (number - cs.first) cs.facts ≡ fact ∷ behind
  pub state : State
  pub unifies : with_fact ts s fact ≡ Some state
  pub found : from_unifying ts s (drop (from - cs.first) cs.facts) ≡ fact ∷ behind

-- the first of the facts from `from` on that unifies with a call, or none does
abbrev pub IsNext : Trees → State → Numbered → ℕ → Option ℕ → Type 0
IsNext ts s cs from None = from_unifying ts s (drop (from - cs.first) cs.facts) ≡ []
IsNext ts s cs from (Some number) = IsFirst ts s cs from number
