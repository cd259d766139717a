-- What the filling of a piece of a format writes, for the private functions of this crate.
use Rattle.std.specs.Prelude.{◌≡◌, ℕ, List, [], ◌∷◌, ◌++◌, drop, Option, Some, None, Result, Ok, Err}
use Rattle.pi_terms.specs.Tree.{Tree}
use Rattle.pi_constraints.specs.Store.{StoreView, IsTerm}
use Rattle.pi_constraints.specs.declared.store.Ref.{Ref}
use Rattle.pi_effects.specs.Format.{Piece, filled_in, in_front}
use Rattle.pi_effects.specs.declared.fault.Stop.{Stop}
use Rattle.pi_effects.specs.Results.{Stops}

-- the argument that comes next, of the terms that are left
abbrev pub IsNext : {M : Type 0} → StoreView M → Option Ref → List Tree → Type 0
IsNext v None us = us ≡ []
IsNext v (Some r) us = (u : Tree) × (rest : List Tree) × IsTerm v r u × (us ≡ u ∷ rest)

abbrev pub how_many : {A : Type 0} → Option A → ℕ
how_many None = 0
how_many (Some x) = 1

-- a piece that is to be filled in, with the arguments that are left, and what is raised where they don't fit
pub record Gap : Type 0 where
  pub bad : Tree
  pub piece : Piece
  pub args : List Tree

abbrev pub gap : Tree → Piece → List Tree → Gap
gap bad p us = record { bad = bad; piece = p; args = us }

-- a piece is filled in: what is written for it stands in front of what is behind, with so many arguments fewer; or it stops
abbrev pub FillsPiece : {M : Type 0} → StoreView M → Gap → List ℕ → List ℕ → Result ℕ Stop → Type 0
FillsPiece v g old new (Ok n) =
    (text : List ℕ) × (new ≡ old ++ text)
    × ((ps : List Piece) → filled_in v.now.state g.bad (g.piece ∷ ps) g.args ≡ in_front (Ok text) (filled_in v.now.state g.bad ps (drop n g.args)))
FillsPiece v g old new (Err stop) = (ps : List Piece) → Stops v stop (filled_in v.now.state g.bad (g.piece ∷ ps) g.args)
