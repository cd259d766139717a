-- Levels over slots and over names, one above the other, at which calls of what a program has do the same; and nothing waits at a level over slots.
use Rattle.std.proofs.Common.{◌≡◌, ℕ, zero, suc, ◌+◌, true, false, cond, List, length, map, refl, sym, ◌∙◌, ap}
use Rattle.std.specs.Prelude.{Option, Some, None, IsTrue}
use Rattle.std.specs.List.{list_any}
use Rattle.pi_terms.specs.Tree.{Trees, tree_count}
use Rattle.pi_constraints.specs.State.{State, bindings}
use Rattle.pi_syntax.specs.ExpTree.{ExpTree}
use Rattle.pi_syntax.specs.ProgramTree.{ProgramTree}
use Rattle.pi_syntax.specs.declared.program.Mode.{Mode}
use Rattle.pi_core.specs.CoreTree.{PredTree, find_pred}
use Rattle.pi_traces.specs.Trace.{Trace, done, one}
use Rattle.pi_meaning.specs.Shared.Drain.{drained}
use Rattle.pi_meaning.specs.Shared.Level.{Level, level_of, calls_at, ticked}
use Rattle.pi_meaning.specs.CoreMeaning.Builtins.{Builtins}
use Rattle.pi_meaning.specs.CoreMeaning.Rules.{call_run, application_run, calls_of, quiet_level, level_at}
use Rattle.pi_meaning.specs.CoreMeaning.Facts as over_slots
use Rattle.pi_meaning.specs.CoreMeaning.Facts.{fits_modes}
use Rattle.pi_meaning.specs.OverNames.Stages.{RulesSetting}
use Rattle.pi_meaning.specs.OverNames.Rules as over_names
use Rattle.pi_meaning.specs.OverNames.Rules.{function_in, fact_head, is_head_of, rules_named, facts_named, functions_named, modes_named, predicate_run, functions_called, calls_by, level_for, call_made}
use Rattle.pi_rewrite_spec.specs.Clauses.{lowered_fact}
use Rattle.pi_rewrite_spec.specs.Forms.{Knows}
use Rattle.pi_rewrite_laws.specs.Levels.{SameCalls, SameLevels}
use Rattle.pi_rewrite_laws.proofs.FactLemmas.{EachFact, facts-same}

-- ---- a level above another one

pub data Ordered (known : Knows) : Option Level → Option Level → Type 0 where
  both_lowest : Ordered known None None
  both_over : (l m : Level) → SameLevels known l m → ((s : State) → (calls_at l).drained s ≡ one s) → ((s : State) → (calls_at m).drained s ≡ one s) → Ordered known (Some l) (Some m)

-- its facts, behind the mode lists, at any levels
pub facts-called : (set : RulesSetting) (program : ProgramTree) (m : Level) (name : List ℕ) (ts : Trees) (s : State) (lists : List (List Mode)) (heads : List ExpTree) →
    heads ≡ facts_named name (tree_count ts) program → EachFact heads → modes_named name (tree_count ts) program ≡ Some lists →
    over_slots.facts_called lists (map lowered_fact heads) ts s ≡ predicate_run set program name (call_made m ts s) (modes_named name (tree_count ts) program)
facts-called set program m name ts s lists heads is each modes =
    ap (λ (t : Trace State). cond (list_any (λ ms. fits_modes (bindings s) ms ts) lists) t done) (facts-same heads each ts s)
    ∙ ap (λ (xs : List ExpTree). cond (list_any (λ ms. fits_modes (bindings s) ms ts) lists) (over_names.facts_called xs ts s) done) is
    ∙ ap (predicate_run set program name (call_made m ts s)) (sym modes)

-- what calls of what is known do at a level above another one, whichever level their own quiet calls run at
pub record CallsAre (known : Knows) (set : RulesSetting) (b : Builtins) (program : ProgramTree) (preds : List PredTree) (below above : Option Level) : Type 0 where
  pub called : (inner : Option Level) (name : List ℕ) (ts : Trees) (s : State) → IsTrue (known.predicate name (tree_count ts)) →
      call_run b inner below (find_pred false name (tree_count ts) preds) ts s ≡ ticked above (λ l. predicate_run set program name (call_made l ts s) (modes_named name (tree_count ts) program))
  pub applied : (inner : Option Level) (name : List ℕ) (ts : Trees) (s : State) → IsTrue (known.function name (tree_count ts)) →
      application_run b inner below (find_pred true name (tree_count ts) preds) ts s ≡ ticked above (λ l. over_names.function_run set program l name ts s)

calls-known : (known : Knows) (set : RulesSetting) (b : Builtins) (program : ProgramTree) (preds : List PredTree) (below above : Option Level) → CallsAre known set b program preds below above → (inner : Option Level) →
    SameCalls known (calls_of b preds inner below) (calls_by set program above)
unfolding calls_of calls_by
calls-known known set b program preds below above are inner = record { called = λ name ts s there. are.called inner name ts s there; applied = λ name ts s there. are.applied inner name ts s there; drained = λ s. refl }

-- ---- depths

pub record SameDepths (known : Knows) (l m : Level) : Type 0 where
  pub levels : SameLevels known l m
  pub core : (s : State) → (calls_at l).drained s ≡ one s
  pub names : (s : State) → (calls_at m).drained s ≡ one s

pub levels-quiet : (known : Knows) (set : RulesSetting) (b : Builtins) (program : ProgramTree) (preds : List PredTree) (below above : Option Level) → CallsAre known set b program preds below above → Ordered known below above → (k : ℕ) →
    SameDepths known (quiet_level b preds below k) (level_of (calls_by set program above) above)
unfolding quiet_level SameLevels calls_of calls_by drained
levels-quiet known set b program preds _ _ are both_lowest zero = record { levels = calls-known known set b program preds None None are None; core = λ s. refl; names = λ s. refl }
levels-quiet known set b program preds _ _ are both_lowest (suc k) = record { levels = calls-known known set b program preds None None are (Some (quiet_level b preds None k)); core = λ s. refl; names = λ s. refl }
levels-quiet known set b program preds _ _ are (both_over l m same core names) zero =
    record { levels = (calls-known known set b program preds (Some l) (Some m) are None, same); core = λ s. refl; names = λ s. refl }
levels-quiet known set b program preds _ _ are (both_over l m same core names) (suc k) =
    record { levels = (calls-known known set b program preds (Some l) (Some m) are (Some (quiet_level b preds (Some l) k)), same); core = λ s. refl; names = λ s. refl }

-- ---- nothing waits

quiet-drains : (b : Builtins) (preds : List PredTree) (below : Option Level) (k : ℕ) (s : State) → (calls_at (quiet_level b preds below k)).drained s ≡ one s
unfolding quiet_level calls_of drained
quiet-drains b preds None zero s = refl
quiet-drains b preds None (suc k) s = refl
quiet-drains b preds (Some l) zero s = refl
quiet-drains b preds (Some l) (suc k) s = refl

pub core-drains : (b : Builtins) (preds : List PredTree) (d : ℕ) (s : State) → (calls_at (level_at b preds d)).drained s ≡ one s
unfolding level_at
core-drains b preds zero s = quiet-drains b preds None (length preds) s
core-drains b preds (suc d) s = quiet-drains b preds (Some (level_at b preds d)) (suc (length preds + d)) s
