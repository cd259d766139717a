-- Names that don't occur: what stands in an environment for a name that occurs neither in a goal nor before it changes nothing.
use Rattle.std.specs.Prelude.{◌≡◌, ℕ, false, List, [], ◌∷◌, ⊤}
use Rattle.std.specs.Str.{bytes_eq}
use Rattle.pi_constraints.specs.State.{State}
use Rattle.pi_syntax.specs.ExpTree.{ExpTree, var, int, atom, str, list, list_onto, array, call, quote, index, range, range_by, at, collect, and, or, arrow, if_then, if_else, foreach, while_do, do_while, ExpTrees, no_exps, exp, ExpBranches, no_branches, branch}
use Rattle.pi_traces.specs.Related.{BelowBy}
use Rattle.pi_meaning.specs.Shared.Level.{Level}
use Rattle.pi_meaning.specs.Shared.Given.{Setting}
use Rattle.pi_meaning.specs.OverNames.Environment.{Environment, meant}
use Rattle.pi_meaning.specs.OverNames.Place.{Place}
use Rattle.pi_meaning.specs.OverNames.Texts.{Names}
use Rattle.pi_meaning.specs.OverNames.Loops.{hidden}
use Rattle.pi_meaning.specs.OverNames.Goals.{goal_of}

abbrev pub IsOther : List ℕ → List ℕ → Type 0
IsOther x name = bytes_eq name x ≡ false

-- a name is none of these
unfoldable pub AreOther : List ℕ → Names → Type 0
AreOther x [] = ⊤
AreOther x (name ∷ names) = IsOther x name × AreOther x names

-- a name occurs nowhere in an expression
unfoldable mutual
  pub Lacks : List ℕ → ExpTree → Type 0
  Lacks x (var name) = IsOther x name
  Lacks x (int n) = ⊤
  Lacks x (atom name) = ⊤
  Lacks x (str text) = ⊤
  Lacks x (list es) = LackAll x es
  Lacks x (list_onto es e) = LackAll x es × Lacks x e
  Lacks x (array es) = LackAll x es
  Lacks x (call name es) = LackAll x es
  Lacks x (quote e) = Lacks x e
  Lacks x (index e es) = Lacks x e × LackAll x es
  Lacks x (range first last) = Lacks x first × Lacks x last
  Lacks x (range_by first step last) = Lacks x first × Lacks x step × Lacks x last
  Lacks x (at name e) = IsOther x name × Lacks x e
  Lacks x (collect is_array e es) = Lacks x e × LackAll x es
  Lacks x (and es) = LackAll x es
  Lacks x (or es) = LackAll x es
  Lacks x (arrow c e) = Lacks x c × Lacks x e
  Lacks x (if_then bs) = LackBranches x bs
  Lacks x (if_else bs e) = LackBranches x bs × Lacks x e
  Lacks x (foreach es e) = LackAll x es × Lacks x e
  Lacks x (while_do c e) = Lacks x c × Lacks x e
  Lacks x (do_while e c) = Lacks x e × Lacks x c

  pub LackAll : List ℕ → ExpTrees → Type 0
  LackAll x no_exps = ⊤
  LackAll x (exp e es) = Lacks x e × LackAll x es

  pub LackBranches : List ℕ → ExpBranches → Type 0
  LackBranches x no_branches = ⊤
  LackBranches x (branch c e bs) = Lacks x c × Lacks x e × LackBranches x bs

-- two environments have the same for each other name
abbrev pub Agree : List ℕ → Environment → Environment → Type 0
Agree x e f = (name : List ℕ) → IsOther x name → meant name e ≡ meant name f

-- two places with one state, whose environments do
pub data AgreeAt (x : List ℕ) : Place → Place → Type 0 where
  agree_at : (e f : Environment) → Agree x e f → (s : State) → AgreeAt x (record { names = e; state = s }) (record { names = f; state = s })

-- Where a name occurs neither in a goal nor before it, the goal does the same whatever the environment has for that name, or where it has nothing, and the environments of its answers
-- differ in that name alone. (The empty text is no name.)
abbrev pub OtherNamesChangeNothing : Type 0
OtherNamesChangeNothing = (set : Setting) (x : List ℕ) → IsOther x hidden → (before : Names) → AreOther x before → (goal : ExpTree) → Lacks x goal →
    (l : Level) (e f : Environment) → Agree x e f → (s : State) →
    BelowBy (AgreeAt x) (goal_of set before goal l (record { names = e; state = s })) (goal_of set before goal l (record { names = f; state = s }))
    × BelowBy (AgreeAt x) (goal_of set before goal l (record { names = f; state = s })) (goal_of set before goal l (record { names = e; state = s }))
