-- The names of a head's variables, as the code keeps them.
use Rattle.std.specs.Prelude.{◌≡◌, ℕ, Bool, not, ◌&&◌, List, codes}
use Rattle.std.specs.Borrow.{Bor}
use Rattle.std.specs.List.{list_any}
use Rattle.std.specs.Str.{bytes_eq}
use Rattle.pi_syntax.specs.ExpTree.{ExpTree}
use Rattle.pi_prog_clauses.specs.Items.{occurs_in_head}
use Rattle.pi_prog_clauses.specs.declared.restrictions.head_names.HeadNames.{HeadNames}

-- a set of texts has this one
abbrev pub is_among : List (Bor (List ℕ)) → List ℕ → Bool
is_among keys name = list_any (λ (key : Bor (List ℕ)). bytes_eq name key.now) keys

-- the set was given a variable of this name
abbrev pub holds : HeadNames → List ℕ → Bool
holds set name = is_among set.names.keys name

-- it was, and the name isn't `_`
abbrev pub has : HeadNames → List ℕ → Bool
has set name = not (bytes_eq name (codes "_")) && holds set name

-- the set has the names of exactly the variables that occur in the head
pub record AreNamesOf (set : HeadNames) (head : ExpTree) : Type 0 where
  pub each : (name : List ℕ) → has set name ≡ occurs_in_head name head
