-- Programs of what the machine runs so far: rules and facts, and no action rules; predicates whose calls are counted, and quiet ones, with a Tick on each way round (`IsSound`); calls of what they define, of what is built, of `call`, and no others.
use Rattle.std.specs.Prelude.{◌≡◌, List, [], ◌∷◌, ◌++◌, ⊤}
use Rattle.pi_core.specs.CoreTree.{ClauseTree, PredTree, QueryTree}
use Rattle.pi_meaning.specs.CoreMeaning.Sound.{IsSoundQuery}
use Rattle.pi_meaning.specs.CoreMeaning.Defined.{QueryCallsDefined, NamesAreFree}

-- no clause is an action rule
unfoldable pub WithoutEvents : List ClauseTree → Type 0
WithoutEvents [] = ⊤
WithoutEvents (c ∷ cs) = (c.watches ≡ []) × WithoutEvents cs

-- the clauses are rules, or facts
pub record IsOfRules (pred : PredTree) : Type 0 where
  pub without_events : WithoutEvents pred.clauses

unfoldable pub AreOfRules : List PredTree → Type 0
AreOfRules [] = ⊤
AreOfRules (pred ∷ preds) = IsOfRules pred × AreOfRules preds

-- a query that the machine runs so far
pub record IsRunnable (program : List PredTree) (q : QueryTree) : Type 0 where
  pub sound : IsSoundQuery program q
  pub calls : QueryCallsDefined program q
  pub free : NamesAreFree (program ++ q.helpers)
  pub rules : AreOfRules (program ++ q.helpers)
