-- Rules and functions that are built, and call no term, do the same under settings in which calls of names that are built do: no agent comes of one.
use Rattle.std.specs.Prelude.{◌≡◌, ◌&&◌, ◌||◌, ℕ, zero, suc, true, false, List, [], ◌∷◌, Option, Some, None, codes, refl}
use Rattle.std.proofs.lemmas.Bool.{and_parts, or_parts}
use Rattle.pi_terms.specs.Tree.{Tree, comp, Trees, tree_count}
use Rattle.pi_constraints.specs.State.{State, bindings}
use Rattle.pi_syntax.specs.ExpTree.{ExpTree}
use Rattle.pi_syntax.specs.ProgramTree.{RuleTree, FunctionTree, ProgramTree}
use Rattle.pi_syntax.specs.declared.program.Mode.{Mode}
use Rattle.pi_traces.specs.Trace.{Trace, one, then}
use Rattle.pi_traces.specs.Control.{chosen}
use Rattle.pi_meaning.specs.Shared.Raise.{raised_with}
use Rattle.pi_meaning.specs.Shared.Drain.{drained}
use Rattle.pi_meaning.specs.Shared.Level.{Level, Applied, level_of, ticked}
use Rattle.pi_meaning.specs.CoreMeaning.Rules.{chosen_rule}
use Rattle.pi_meaning.specs.OverNames.Environment.{Environment}
use Rattle.pi_meaning.specs.OverNames.Place.{Place}
use Rattle.pi_meaning.specs.OverNames.WrittenRules.{rules_of, is_rule_of, head_arguments}
use Rattle.pi_meaning.specs.OverNames.Stages.{RulesSetting}
use Rattle.pi_meaning.specs.OverNames.Texts.{Names, places, behind}
use Rattle.pi_meaning.specs.OverNames.Heads.{patterns_matched}
use Rattle.pi_meaning.specs.OverNames.Control.{strictly}
use Rattle.pi_meaning.specs.OverNames.Forms.{plain}
use Rattle.pi_meaning.specs.OverNames.Rules.{is_head_of, rules_named, functions_named, modes_named, guarded, places_in, names_before, function_names, body_or_agent, leaves_later, rule_or_later, rules_called, predicate_run, body_or_none, applied, value_run, function_or_later, functions_called, function_run, calls_by, level_for, tried_rule, call_made}
use Rattle.pi_rewrite_sound.specs.Built.{is_built_value, is_built_goal, are_built_patterns, is_built_goal_or_none, are_none, is_built_rule, is_built_function_rule}
use Rattle.pi_rewrite_sound.specs.TermCalls.{calls_terms, calls_terms_if, rule_calls_terms, function_calls_terms}
use Rattle.pi_rewrite_sound.proofs.CallLemmas.{CallsAlike}
use Rattle.pi_rewrite_sound.proofs.GoalLemmas.{value-alike, goal-alike}
use Rattle.pi_rewrite_sound.proofs.PartLemmas.{PartsAreBuilt, RulesAreBuilt, FunctionsAreBuilt, rules-built, kept-rules, functions_of, functions-built, kept-functions}

module _ (x y : RulesSetting) (h : CallsAlike x.calls y.calls) where
  -- ---- rules

  guard-alike : (before : Names) (c : Option ExpTree) → is_built_goal_or_none c ≡ true → calls_terms_if c ≡ false → guarded x before c ≡ guarded y before c
  guard-alike before None n z = refl
  guard-alike before (Some c) n z = λ i l p. strictly (goal-alike x.calls y.calls h before c n z i) l p

  body-alike : (call : Tree) (k : ℕ) (r : RuleTree) → is_built_goal r.body ≡ true → calls_terms r.body ≡ false → (es : List ExpTree) → are_none es ≡ true → (l : Level) (p : Place) →
      body_or_agent x (tried_rule call k r) es l p ≡ body_or_agent y (tried_rule call k r) es l p
  body-alike call k r n z [] none l p = λ i. then (goal-alike x.calls y.calls h (names_before r.head r.cond) r.body n z i l p) (λ q. one q.state)
  body-alike call k r n z (e ∷ es) none l p = absurd cc

  rule-alike : (call : Tree) (k : ℕ) (r : RuleTree) → is_built_rule r ≡ true → rule_calls_terms r ≡ false → (l : Level) (s : State) (later other : Trace State) → later ≡ other → (o : Option Environment) →
      rule_or_later x (tried_rule call k r) l s later o ≡ rule_or_later y (tried_rule call k r) l s other o
  rule-alike call k r n z l s later other e None = e
  rule-alike call k r n z l s later other e (Some names) =
      let events = and_parts (are_none r.events) (are_built_patterns (head_arguments r.head) && (is_built_goal_or_none r.cond && is_built_goal r.body)) n in
      let head = and_parts (are_built_patterns (head_arguments r.head)) (is_built_goal_or_none r.cond && is_built_goal r.body) events.1 in
      let goals = and_parts (is_built_goal_or_none r.cond) (is_built_goal r.body) head.1 in
      let free = or_parts (calls_terms_if r.cond) (calls_terms r.body) z in
      λ i. chosen (guard-alike (behind [] (places r.head)) r.cond goals.0 free.0 i l (record { names = names; state = s }))
      (λ p. chosen_rule (leaves_later r r.events) (body-alike call k r goals.1 free.1 r.events events.0 l p i) (e i)) (e i)

  rules-alike : (call : Tree) (k : ℕ) (rs : List RuleTree) → RulesAreBuilt rs → (l : Level) (ts : Trees) (s : State) → rules_called x call k rs (call_made l ts s) ≡ rules_called y call k rs (call_made l ts s)
  unfolding rules_called RulesAreBuilt
  rules-alike call k [] n l ts s = refl
  rules-alike call k (r ∷ rs) n l ts s =
      rule-alike call k r n.0.0 n.0.1 l s (rules_called x call (suc k) rs (call_made l ts s)) (rules_called y call (suc k) rs (call_made l ts s)) (rules-alike call (suc k) rs n.1 l ts s) (patterns_matched (bindings s) (head_arguments r.head) ts [])

  predicate-run-alike : (program : ProgramTree) → PartsAreBuilt program → (l : Level) (name : List ℕ) (ts : Trees) (s : State) (o : Option (List (List Mode))) →
      predicate_run x program name (call_made l ts s) o ≡ predicate_run y program name (call_made l ts s) o
  predicate-run-alike program n l name ts s None =
      rules-alike (comp name ts) 0 (rules_named name (tree_count ts) program) (kept-rules (is_rule_of name (tree_count ts)) (rules_of program) (rules-built program n)) l ts s
  predicate-run-alike program n l name ts s (Some lists) = refl

  -- ---- functions

  none-alike : (before : Names) (o : Option ExpTree) → is_built_goal_or_none o ≡ true → calls_terms_if o ≡ false → body_or_none x before o ≡ body_or_none y before o
  none-alike before None n z = refl
  none-alike before (Some body) n z = λ i l p. goal-alike x.calls y.calls h before body n z i l p

  value-run-alike : (f : FunctionTree) → is_built_goal_or_none f.body ≡ true → is_built_value f.value ≡ true → calls_terms_if f.body ≡ false → calls_terms f.value ≡ false → (l : Level) (p : Place) → value_run x f l p ≡ value_run y f l p
  value-run-alike f body value z u l p = λ i.
      then (strictly (none-alike (behind (function_names f) (places_in f.cond)) f.body body z i) l p)
      (λ q. then (value-alike x.calls y.calls h plain (behind (names_before f.head f.cond) (places_in f.body)) f.value value u i l q) (λ v. one (applied v)))

  function-rule-alike : (f : FunctionTree) → is_built_function_rule f ≡ true → function_calls_terms f ≡ false → (l : Level) (s : State) (later other : Trace Applied) → later ≡ other → (o : Option Environment) →
      function_or_later x f l s later o ≡ function_or_later y f l s other o
  function-rule-alike f n z l s later other e None = e
  function-rule-alike f n z l s later other e (Some names) =
      let head = and_parts (are_built_patterns (head_arguments f.head)) (is_built_goal_or_none f.cond && (is_built_goal_or_none f.body && is_built_value f.value)) n in
      let test = and_parts (is_built_goal_or_none f.cond) (is_built_goal_or_none f.body && is_built_value f.value) head.1 in
      let run = and_parts (is_built_goal_or_none f.body) (is_built_value f.value) test.1 in
      let free = or_parts (calls_terms_if f.cond) (calls_terms_if f.body || calls_terms f.value) z in
      let rest = or_parts (calls_terms_if f.body) (calls_terms f.value) free.1 in
      λ i. chosen (guard-alike (function_names f) f.cond test.0 free.0 i l (record { names = names; state = s })) (λ p. value-run-alike f run.0 run.1 rest.0 rest.1 l p i) (e i)

  functions-alike : (fs : List FunctionTree) → FunctionsAreBuilt fs → (l : Level) (ts : Trees) (s : State) → functions_called x fs l ts s ≡ functions_called y fs l ts s
  unfolding functions_called FunctionsAreBuilt
  functions-alike [] n l ts s = refl
  functions-alike (f ∷ fs) n l ts s =
      function-rule-alike f n.0.0 n.0.1 l s (functions_called x fs l ts s) (functions_called y fs l ts s) (functions-alike fs n.1 l ts s) (patterns_matched (bindings s) (head_arguments f.head) ts [])

  function-run-alike : (program : ProgramTree) → PartsAreBuilt program → (l : Level) (name : List ℕ) (ts : Trees) (s : State) → function_run x program l name ts s ≡ function_run y program l name ts s
  function-run-alike program n l name ts s = λ i.
      chosen (functions-alike (functions_named name (tree_count ts) program) (kept-functions (λ f. is_head_of name (tree_count ts) f.head) (functions_of program) (functions-built program n)) l ts s i)
      (λ v. one v) (raised_with (codes "unresolved_function_call") (comp name ts) s)

  -- ---- depths

  calls-alike : (program : ProgramTree) → PartsAreBuilt program → (below under : Option Level) → below ≡ under → calls_by x program below ≡ calls_by y program under
  unfolding calls_by
  calls-alike program n below under e = λ i. record {
    called = λ name ts s. ticked (e i) (λ l. predicate-run-alike program n l name ts s (modes_named name (tree_count ts) program) i);
    applied = λ name ts s. ticked (e i) (λ l. function-run-alike program n l name ts s i);
    drained = λ s. drained s;
  }

  pub level-alike : (program : ProgramTree) → PartsAreBuilt program → (d : ℕ) → level_for x program d ≡ level_for y program d
  unfolding level_for
  level-alike program n zero = λ i. level_of (calls-alike program n None None refl i) None
  level-alike program n (suc d) = λ i.
      level_of (calls-alike program n (Some (level_for x program d)) (Some (level_for y program d)) (λ j. Some (level-alike program n d j)) i) (Some (level-alike program n d i))
