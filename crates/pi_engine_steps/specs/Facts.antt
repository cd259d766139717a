-- What the functions that try the facts of a call owe.
use Rattle.std.specs.Prelude.{◌≡◌, ℕ, Bool, true, false, List, [], Some, map, slice_get}
use Rattle.pi_terms.specs.Tree.{Trees, comp}
use Rattle.pi_constraints.specs.State.{State}
use Rattle.pi_constraints.specs.Store.{StoreView, IsTerm, Keeps}
use Rattle.pi_constraints.specs.declared.store.Ref.{Ref}
use Rattle.pi_core.specs.CoreTree.{ClauseTree, PredTree, clause_tree}
use Rattle.pi_core.specs.declared.core_program.CoreClause.{CoreClause}
use Rattle.pi_unify.specs.Answers.{Answers}
use Rattle.pi_engine_code.specs.declared.code.Predicate.{Predicate}
use Rattle.pi_engine_arenas.specs.declared.run.Now.{Now}
use Rattle.pi_meaning.specs.Machine.Configuration.{Frame, Entry as EntryData}
use Rattle.pi_meaning.specs.Machine.Step.{with_fact, try_facts, back_to}
use Rattle.pi_engine_settle.specs.Settles.{LeftBy}
use Rattle.pi_engine_stands.specs.Settling.{NextAfter}
use Rattle.pi_engine_stands.specs.Stands.{Stands}
use Rattle.pi_engine_stands.specs.Tries.{CallIs}
use Rattle.pi_engine_stands.specs.Changes.{Change}
use Rattle.pi_engine_arenas.specs.declared.frames.Call.{Call}

-- a fact is unified with a call, and what is behind the call runs next, after what that left is settled
pub record TakesFact {M : Type 0} (v u : StoreView M) (ts : Trees) (c : ClauseTree) (call : Call) (now : Now) : Type 0 where
  pub one : Bool
  pub keeps : Keeps v u
  pub answers : Answers (with_fact ts v.now.state c) one u.now.state
  pub left : one ≡ true → LeftBy v.now.state u.now.state
  pub next : NextAfter one v.now.state u.now.state (record { place = 0; count = 0; base = call.base; frame = call.frame }) now

-- what is asked of a predicate's facts: the predicate, the facts, and the term whose arguments are those of the call
pub record Asked : Type 0 where
  pub predicate : Predicate
  pub facts : List CoreClause
  pub term : Ref

abbrev pub asking : Predicate → List CoreClause → Ref → Asked
asking predicate facts term = record { predicate = predicate; facts = facts; term = term }

-- these facts of a call's predicate are tried from one on, where its arguments are those of a term
abbrev pub TriesSome : {M : Type 0} → Call → ℕ → Asked → Bool → Change M → Type 0
TriesSome call from asked again made =
    (pred : PredTree) (ts : Trees) (cs : List ClauseTree) (s : State) (k : List Frame) (es : List EntryData) → (is : CallIs made.before call.predicate call.base call.frame from (record { function = false; args = ts }) cs s k es again) →
    slice_get made.before.loaded.preds call.predicate ≡ Some pred → slice_get made.before.loaded.code.predicates.items call.predicate ≡ Some asked.predicate → pred.clauses ≡ map clause_tree asked.facts →
    IsTerm made.before.store asked.term (comp [] ts) → s ≡ made.before.store.now.state → Stands made.after made.now (try_facts ts cs (back_to [] s k) es)
