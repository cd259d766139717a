-- What a term is followed to stays, where that is no variable, from a state to those behind it; and what later stages of the language owe of it. By this a loop walks a list in place. (Own.)
use Rattle.std.specs.Prelude.{◌≡◌, ℕ, List, All}
use Rattle.pi_terms.specs.Tree.{Tree, comp, Trees}
use Rattle.pi_constraints.specs.State.{State, bindings, followed}
use Rattle.pi_traces.specs.Trace.{answers}
use Rattle.pi_meaning.specs.Shared.View.{View}
use Rattle.pi_meaning.specs.Shared.Level.{Level, lowest, over, Calls, Applied}
use Rattle.pi_meaning.specs.Shared.Given.{Later}

-- a structure or an atom stays
pub record RootsStay (s r : State) : Type 0 where
  pub compounds : (t : Tree) (f : List ℕ) (ts : Trees) → followed (bindings s) t ≡ comp f ts → followed (bindings r) t ≡ comp f ts
  pub atoms : (t : Tree) (name : List ℕ) → followed (bindings s) t ≡ Tree.atom name → followed (bindings r) t ≡ Tree.atom name

-- the state of each value
abbrev pub RootsStayIn : State → Applied → Type 0
RootsStayIn s a = RootsStay s a.state

-- from a state to each answer of what calls do, at a level
pub record CallsKeepRoots (c : Calls) : Type 0 where
  pub called : (name : List ℕ) (ts : Trees) (s : State) → All (RootsStay s) (answers (c.called name ts s))
  pub applied : (name : List ℕ) (ts : Trees) (s : State) → All (RootsStayIn s) (answers (c.applied name ts s))
  pub drained : (s : State) → All (RootsStay s) (answers (c.drained s))

-- and at those below it
abbrev pub LevelKeepsRoots : Level → Type 0
LevelKeepsRoots (lowest c) = CallsKeepRoots c
LevelKeepsRoots (over c l) = CallsKeepRoots c × LevelKeepsRoots l

-- What later stages give keeps roots, at a level at which calls do.
pub record LaterKeepsRoots (later : Later) : Type 0 where
  pub predicates : (v : View) (l : Level) → LevelKeepsRoots l → (name : List ℕ) (ts : Trees) (s : State) → All (RootsStay s) (answers (later.predicate v l name ts s))
  pub functions : (name : List ℕ) (ts : Trees) (s : State) → All (RootsStayIn s) (answers (later.function name ts s))
