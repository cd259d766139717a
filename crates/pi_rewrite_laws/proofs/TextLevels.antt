-- Calls of what a program with loops has do the same over slots and over names, at each depth.
use Rattle.std.proofs.Common.{◌≡◌, ℕ, zero, suc, ◌≤◌, true, false, List, [], ◌∷◌, ◌++◌, length, map, refl, sym, ◌∙◌, ap, subst, arith}
use Rattle.std.specs.Prelude.{Option, Some, None, IsTrue, codes}
use Rattle.std.proofs.lemmas.Bool.{false≢true}
use Rattle.pi_terms.specs.Tree.{Trees, comp, tree_count}
use Rattle.pi_constraints.specs.State.{State}
use Rattle.pi_syntax.specs.ExpTree.{ExpTree}
use Rattle.pi_syntax.specs.ProgramTree.{RuleTree, FunctionTree, ProgramTree}
use Rattle.pi_syntax.specs.declared.program.Mode.{Mode}
use Rattle.pi_core.specs.CoreTree.{ClauseTree, PredTree, find_pred}
use Rattle.pi_traces.specs.Trace.{Trace, note, Tick, one}
use Rattle.pi_traces.specs.Control.{chosen}
use Rattle.pi_meaning.specs.Shared.Level.{Level, Applied, calls_at, ticked}
use Rattle.pi_meaning.specs.CoreMeaning.Builtins.{Builtins}
use Rattle.pi_meaning.specs.Shared.Raise.{raised_with}
use Rattle.pi_meaning.specs.CoreMeaning.Rules.{pred_run, function_run, call_run, application_run, level_at}
use Rattle.pi_meaning.specs.OverNames.Texts.{behind, places}
use Rattle.pi_meaning.specs.OverNames.Stages.{RulesSetting}
use Rattle.pi_meaning.specs.OverNames.Rules as over_names
use Rattle.pi_meaning.specs.OverNames.Rules.{places_in, names_before, function_names, rules_named, facts_named, functions_named, modes_named, predicate_run, functions_called, body_or_none, level_for, call_made}
use Rattle.pi_meaning.proofs.OverNames.LoopNames.{AreNamed, behind-named}
use Rattle.pi_meaning.specs.OverNames.Forms.{plain}
use Rattle.pi_rewrite_spec.specs.Values.{last_value}
use Rattle.pi_rewrite_spec.specs.Forms.{Knows}
use Rattle.pi_rewrite_spec.specs.Sites.{Site}
use Rattle.pi_rewrite_spec.specs.Written as written
use Rattle.pi_rewrite_spec.specs.Written.{made}
use Rattle.pi_rewrite_spec.specs.Helpers.{value_helpers, goal_helpers}
use Rattle.pi_rewrite_spec.specs.Clauses.{lowered_fact}
use Rattle.pi_rewrite_spec.specs.Programs.{Naming, option_goals, option_count, option_helpers, behind_option, rule_site, written_rule, rule_count, rule_helpers, function_site, value_site, written_function, function_count, function_helpers}
use Rattle.pi_rewrite_laws.specs.Within.{IsGoalOrNone, IsRule, IsFunction}
use Rattle.pi_rewrite_laws.proofs.FindLemmas.{pred_with}
use Rattle.pi_rewrite_laws.specs.Levels.{SameLevels}
use Rattle.pi_rewrite_spec.proofs.RunLemmas.{Alike, SameGoals}
use Rattle.pi_rewrite_spec.proofs.ControlLemmas.{none-goals}
use Rattle.pi_rewrite_laws.proofs.FormLemmas.{last-value}
use Rattle.pi_rewrite_laws.proofs.RootGoals.{NamesKeepRoots}
use Rattle.pi_rewrite_laws.proofs.TurnLevels.{core_level, quiet_calls, level-is, enough-calls}
use Rattle.pi_rewrite_laws.proofs.StandsLemmas.{Fixture, Here, slots_level, names_level, AlikeUpTo, alike-here, HaveHelpers, have-first, have-last, Stands}
use Rattle.pi_rewrite_laws.proofs.TextCalls.{flat-term}
use Rattle.pi_rewrite_laws.proofs.TextLemmas.{goal-same, made-same}
use Rattle.pi_rewrite_laws.proofs.RuleLemmas.{GuardSame, no_guard, a_guard, same_rule, RulesSame, no_rules, more_rules, clauses-same, FunctionsSame, no_functions, more_functions, values-same}
use Rattle.pi_rewrite_laws.proofs.FactLemmas.{EachFact}
use Rattle.pi_rewrite_laws.proofs.LevelLemmas.{facts-called, both_lowest, both_over, CallsAre, SameDepths, levels-quiet}

-- ---- clauses whose helpers are there

pub nothing-named : AreNamed []
nothing-named name is = absurd (false≢true is)

head-named : (e : ExpTree) → AreNamed (behind [] (places e))
head-named e = behind-named [] (places e) nothing-named

guard-written : (c : Fixture) (each : AlikeUpTo c) (w : Here c) (s : Site) (o : Option ExpTree) → IsGoalOrNone c.known o → Stands c w s (option_count o) (option_helpers s o) →
    GuardSame c.set c.builtins (slots_level c w) (names_level c w) s.filled s.before o (option_goals s o)
guard-written c each w s None is st = no_guard
guard-written c each w s (Some e) is st = a_guard e (written.goal_of s e) (goal-same c each w s e is st)

body-written : (c : Fixture) (each : AlikeUpTo c) (w : Here c) (s : Site) (o : Option ExpTree) → IsGoalOrNone c.known o → Stands c w s (option_count o) (option_helpers s o) →
    SameGoals c.builtins (slots_level c w) (names_level c w) s.filled (body_or_none c.set s.before o) (option_goals s o)
body-written c each w s None is st = none-goals c.builtins (slots_level c w) (names_level c w) s.filled
body-written c each w s (Some e) is st = goal-same c each w s e is st

-- rules, each with its clause behind so many helpers
pub data RulesAt (c : Fixture) (called : Naming) : List RuleTree → List ClauseTree → Type 0 where
  no_more : RulesAt c called [] []
  one_more : (n : ℕ) (r : RuleTree) (rs : List RuleTree) (cs : List ClauseTree) → IsRule c.known r → rule_count r ≤ length c.preds → HaveHelpers c (rule_helpers called n r) → RulesAt c called rs cs → RulesAt c called (r ∷ rs) (written_rule called n r ∷ cs)

rules-written : (c : Fixture) (each : AlikeUpTo c) (called : Naming) (w : Here c) → length c.preds ≤ w.calls → (rs : List RuleTree) (cs : List ClauseTree) → RulesAt c called rs cs → RulesSame c.set c.builtins (slots_level c w) (names_level c w) rs cs
rules-written c each called w all _ _ no_more = no_rules
rules-written c each called w all _ _ (one_more n r rs cs is few has rest) =
    let s : Site = rule_site called n r in
    let t : Site = behind_option s r.cond in
    more_rules r rs (written_rule called n r) cs (same_rule (option_goals s r.cond) (written.goal_of t r.body) is.head is.events
    (guard-written c each w s r.cond is.cond (record { named = head-named r.head; few = omega (arith, few, all); fits = omega (arith, few); has = have-first c (option_helpers s r.cond) (goal_helpers t r.body) has }))
    (goal-same c each w t r.body is.body (record { named = behind-named s.before (places_in r.cond) (head-named r.head); few = omega (arith, few, all); fits = omega (arith, few); has = have-last c (option_helpers s r.cond) (goal_helpers t r.body) has })))
    (rules-written c each called w all rs cs rest)

pub data FunctionsAt (c : Fixture) (called : Naming) : List FunctionTree → List ClauseTree → Type 0 where
  no_more_functions : FunctionsAt c called [] []
  one_more_function : (n : ℕ) (f : FunctionTree) (fs : List FunctionTree) (cs : List ClauseTree) → IsFunction c.known f → function_count f ≤ length c.preds → HaveHelpers c (function_helpers called n f) → FunctionsAt c called fs cs →
      FunctionsAt c called (f ∷ fs) (written_function called n f ∷ cs)

functions-written : (c : Fixture) (each : AlikeUpTo c) (called : Naming) (w : Here c) → length c.preds ≤ w.calls → (fs : List FunctionTree) (cs : List ClauseTree) → FunctionsAt c called fs cs → FunctionsSame c.set c.builtins (slots_level c w) (names_level c w) fs cs
functions-written c each called w all _ _ no_more_functions = no_functions
functions-written c each called w all _ _ (one_more_function n f fs cs is few has rest) =
    let s : Site = function_site called n f in
    let t : Site = behind_option s f.cond in
    let u : Site = value_site called n f in
    let named : AreNamed s.before = behind-named (behind [] (places f.head)) (places f.value) (head-named f.head) in
    let later : List PredTree = option_helpers t f.body ++ value_helpers u f.value in
    more_functions f fs cs (option_goals s f.cond) (option_goals t f.body) (λ ns. last_value f.value ns (made u f.value ns)) (record {
      head = is.head;
      guard = guard-written c each w s f.cond is.cond (record { named = named; few = omega (arith, few, all); fits = omega (arith, few); has = have-first c (option_helpers s f.cond) later has });
      body = body-written c each w t f.body is.body (record {
        named = behind-named s.before (places_in f.cond) named;
        few = omega (arith, few, all);
        fits = omega (arith, few);
        has = have-first c (option_helpers t f.body) (value_helpers u f.value) (have-last c (option_helpers s f.cond) later has);
      });
      value = last-value c.known c.set.calls c.builtins (slots_level c w) (names_level c w) u.filled plain u.before f.value (flat-term c.known plain f.value is.value) (made u f.value)
          (made-same c each w u plain f.value is.value (record {
            named = behind-named (names_before f.head f.cond) (places_in f.body) (behind-named (behind [] (places f.head)) (places_in f.cond) (head-named f.head));
            few = omega (arith, few, all);
            fits = omega (arith, few);
            has = have-last c (option_helpers t f.body) (value_helpers u f.value) (have-last c (option_helpers s f.cond) later has);
          }));
    }) (functions-written c each called w all fs cs rest)

-- ---- calls

-- what a core program has of a predicate: the clauses of its rules, or those of its facts behind the mode lists
pub data PredicateAt (c : Fixture) (called : Naming) (name : List ℕ) (k : ℕ) : Type 0 where
  of_rules : (r : RuleTree) (rs : List RuleTree) (cs : List ClauseTree) → rules_named name k c.program ≡ r ∷ rs → find_pred false name k c.preds ≡ pred_with false name k None cs → RulesAt c called (r ∷ rs) cs → modes_named name k c.program ≡ None →
      PredicateAt c called name k
  of_facts : (lists : List (List Mode)) (head : ExpTree) (heads : List ExpTree) → facts_named name k c.program ≡ head ∷ heads → find_pred false name k c.preds ≡ pred_with false name k (Some lists) (map lowered_fact (head ∷ heads)) →
      EachFact (head ∷ heads) → modes_named name k c.program ≡ Some lists → PredicateAt c called name k

-- and of a function
pub record FunctionAt (c : Fixture) (called : Naming) (name : List ℕ) (k : ℕ) : Type 0 where
  pub first : FunctionTree
  pub others : List FunctionTree
  pub clauses : List ClauseTree
  pub named : functions_named name k c.program ≡ first ∷ others
  pub found : find_pred true name k c.preds ≡ pred_with true name k None clauses
  pub at : FunctionsAt c called (first ∷ others) clauses

-- and of all that the program has; whatever the depth is
pub record HasText (known : Knows) (set : RulesSetting) (b : Builtins) (program : ProgramTree) (preds : List PredTree) (called : Naming) : Type 0 where
  pub predicates : (most : ℕ) (name : List ℕ) (k : ℕ) → IsTrue (known.predicate name k) → PredicateAt (record { known = known; set = set; builtins = b; program = program; preds = preds; most = most }) called name k
  pub functions : (most : ℕ) (name : List ℕ) (k : ℕ) → IsTrue (known.function name k) → FunctionAt (record { known = known; set = set; builtins = b; program = program; preds = preds; most = most }) called name k
  pub alike : (l m : Level) → SameLevels known l m → ((s : State) → (calls_at l).drained s ≡ one s) → ((s : State) → (calls_at m).drained s ≡ one s) → Alike known set.calls b l m
  pub roots : NamesKeepRoots b

abbrev fixture : (known : Knows) (set : RulesSetting) (b : Builtins) (program : ProgramTree) (preds : List PredTree) → ℕ → Fixture
fixture known set b program preds most = record { known = known; set = set; builtins = b; program = program; preds = preds; most = most }

-- ---- calls, at a level below which what is called does the same

called-lowest : (c : Fixture) (called : Naming) (inner : Option Level) (name : List ℕ) (ts : Trees) (s : State) → PredicateAt c called name (tree_count ts) →
    call_run c.builtins inner None (find_pred false name (tree_count ts) c.preds) ts s ≡ ticked None (λ l. predicate_run c.set c.program name (call_made l ts s) (modes_named name (tree_count ts) c.program))
called-lowest c called inner name ts s (of_rules r rs cs named found at none) = ap (λ (o : Option PredTree). call_run c.builtins inner None o ts s) found ∙ go cs at
  where
    go : (cs : List ClauseTree) → RulesAt c called (r ∷ rs) cs →
        call_run c.builtins inner None (pred_with false name (tree_count ts) None cs) ts s ≡ ticked None (λ l. predicate_run c.set c.program name (call_made l ts s) (modes_named name (tree_count ts) c.program))
    go _ (one_more n r rs cs is few helpers rest) = refl
called-lowest c called inner name ts s (of_facts lists head heads named found each modes) = ap (λ (o : Option PredTree). call_run c.builtins inner None o ts s) found

applied-lowest : (c : Fixture) (called : Naming) (inner : Option Level) (name : List ℕ) (ts : Trees) (s : State) → FunctionAt c called name (tree_count ts) →
    application_run c.builtins inner None (find_pred true name (tree_count ts) c.preds) ts s ≡ ticked None (λ l. over_names.function_run c.set c.program l name ts s)
applied-lowest c called inner name ts s has = ap (λ (o : Option PredTree). application_run c.builtins inner None o ts s) has.found ∙ go has.clauses has.at
  where
    go : (cs : List ClauseTree) → FunctionsAt c called (has.first ∷ has.others) cs →
        application_run c.builtins inner None (pred_with true name (tree_count ts) None cs) ts s ≡ ticked None (λ l. over_names.function_run c.set c.program l name ts s)
    go _ (one_more_function n f fs cs is few helpers rest) = refl

called-over : (c : Fixture) (each : AlikeUpTo c) (called : Naming) (w : Here c) → length c.preds ≤ w.calls → (inner : Option Level) (name : List ℕ) (ts : Trees) (s : State) → PredicateAt c called name (tree_count ts) →
    call_run c.builtins inner (Some (slots_level c w)) (find_pred false name (tree_count ts) c.preds) ts s
    ≡ ticked (Some (names_level c w)) (λ l. predicate_run c.set c.program name (call_made l ts s) (modes_named name (tree_count ts) c.program))
unfolding pred_run
called-over c each called w all inner name ts s (of_rules first others clauses named found at none) = ap (λ (o : Option PredTree). call_run c.builtins inner (Some (slots_level c w)) o ts s) found ∙ go first others clauses at named
  where
    go : (r : RuleTree) (rs : List RuleTree) (cs : List ClauseTree) → RulesAt c called (r ∷ rs) cs → rules_named name (tree_count ts) c.program ≡ r ∷ rs →
        call_run c.builtins inner (Some (slots_level c w)) (pred_with false name (tree_count ts) None cs) ts s
        ≡ ticked (Some (names_level c w)) (λ l. predicate_run c.set c.program name (call_made l ts s) (modes_named name (tree_count ts) c.program))
    go _ _ _ (one_more n r rs cs is few helpers rest) named =
        ap (note Tick)
        (clauses-same c.known c.set c.builtins (slots_level c w) (names_level c w) (alike-here c each w) (r ∷ rs) (written_rule called n r ∷ cs) (rules-written c each called w all (r ∷ rs) _ (one_more n r rs cs is few helpers rest)) (comp name ts) 0 ts s
        ∙ ap (λ (xs : List RuleTree). over_names.rules_called c.set (comp name ts) 0 xs (over_names.call_made (names_level c w) ts s)) (sym named)
        ∙ ap (predicate_run c.set c.program name (call_made (names_level c w) ts s)) (sym none))
called-over c each called w all inner name ts s (of_facts lists head heads named found is modes) =
    ap (λ (o : Option PredTree). call_run c.builtins inner (Some (slots_level c w)) o ts s) found
    ∙ ap (note Tick) (facts-called c.set c.program (names_level c w) name ts s lists (head ∷ heads) (sym named) is modes)

applied-over : (c : Fixture) (each : AlikeUpTo c) (called : Naming) (w : Here c) → length c.preds ≤ w.calls → (inner : Option Level) (name : List ℕ) (ts : Trees) (s : State) → FunctionAt c called name (tree_count ts) →
    application_run c.builtins inner (Some (slots_level c w)) (find_pred true name (tree_count ts) c.preds) ts s ≡ ticked (Some (names_level c w)) (λ l. over_names.function_run c.set c.program l name ts s)
unfolding function_run
applied-over c each called w all inner name ts s has = ap (λ (o : Option PredTree). application_run c.builtins inner (Some (slots_level c w)) o ts s) has.found ∙ go has.first has.others has.clauses has.at has.named
  where
    go : (f : FunctionTree) (fs : List FunctionTree) (cs : List ClauseTree) → FunctionsAt c called (f ∷ fs) cs → functions_named name (tree_count ts) c.program ≡ f ∷ fs →
        application_run c.builtins inner (Some (slots_level c w)) (pred_with true name (tree_count ts) None cs) ts s ≡ ticked (Some (names_level c w)) (λ l. over_names.function_run c.set c.program l name ts s)
    go _ _ _ (one_more_function n f fs cs is few helpers rest) named =
        ap (note Tick)
        (ap (λ (t : Trace Applied). chosen t (λ a. one a) (raised_with (codes "unresolved_function_call") (comp name ts) s))
        (values-same c.known c.set c.builtins (slots_level c w) (names_level c w) (alike-here c each w) (f ∷ fs) (written_function called n f ∷ cs) (functions-written c each called w all (f ∷ fs) _ (one_more_function n f fs cs is few helpers rest)) 0 ts s
        ∙ ap (λ (xs : List FunctionTree). functions_called c.set xs (names_level c w) ts s) (sym named)))

-- ---- depths

-- where it is so up to a depth, calls do the same at the level of that depth
pub alike-up : (known : Knows) (set : RulesSetting) (b : Builtins) (program : ProgramTree) (preds : List PredTree) (called : Naming) → HasText known set b program preds called → (most : ℕ) →
    ((d k : ℕ) → d ≤ most → SameDepths known (core_level b preds d k) (level_for set program d)) → AlikeUpTo (fixture known set b program preds most)
alike-up known set b program preds called has most same = record {
  alike = λ d k up few. (let at : SameDepths known (core_level b preds d k) (level_for set program d) = same d k up in has.alike _ _ at.levels at.core at.names);
  roots = has.roots;
}

-- one depth more
above : (known : Knows) (set : RulesSetting) (b : Builtins) (program : ProgramTree) (preds : List PredTree) (called : Naming) → HasText known set b program preds called → (d k : ℕ) →
    ((e j : ℕ) → e ≤ d → SameDepths known (core_level b preds e j) (level_for set program e)) → SameDepths known (core_level b preds (suc d) k) (level_for set program (suc d))
unfolding core_level level_for
above known set b program preds called has d k lower =
    levels-quiet known set b program preds (Some (level_at b preds d)) (Some (level_for set program d)) (subst (λ (l : Level). CallsAre known set b program preds (Some l) (Some (level_for set program d))) (sym (level-is b preds d)) (record {
      called = λ inner name ts s there. called-over c each called w (enough-calls preds d (length preds) (omega arith)) inner name ts s (has.predicates d name (tree_count ts) there);
      applied = λ inner name ts s there. applied-over c each called w (enough-calls preds d (length preds) (omega arith)) inner name ts s (has.functions d name (tree_count ts) there);
    })) (both_over (level_at b preds d) (level_for set program d) below.levels below.core below.names) k
  where
    c : Fixture
    c = fixture known set b program preds d

    each : AlikeUpTo (fixture known set b program preds d)
    each = alike-up known set b program preds called has d lower

    w : Here (fixture known set b program preds d)
    w = record { depth = d; calls = quiet_calls preds d; up = omega arith }

    below : SameDepths known (level_at b preds d) (level_for set program d)
    below = subst (λ (l : Level). SameDepths known l (level_for set program d)) (sym (level-is b preds d)) (lower d (quiet_calls preds d) (omega arith))

pub texts-same : (known : Knows) (set : RulesSetting) (b : Builtins) (program : ProgramTree) (preds : List PredTree) (called : Naming) → HasText known set b program preds called → (most d k : ℕ) → d ≤ most → SameDepths known (core_level b preds d k) (level_for set program d)
unfolding core_level level_for
texts-same known set b program preds called has most zero k up = levels-quiet known set b program preds None None (record {
  called = λ inner name ts s there. called-lowest (fixture known set b program preds 0) called inner name ts s (has.predicates 0 name (tree_count ts) there);
  applied = λ inner name ts s there. applied-lowest (fixture known set b program preds 0) called inner name ts s (has.functions 0 name (tree_count ts) there);
}) both_lowest k
texts-same known set b program preds called has zero (suc d) k up = absurd (omega (arith, up))
texts-same known set b program preds called has (suc most) (suc d) k up =
    above known set b program preds called has d k (λ e j few. texts-same known set b program preds called has most e j (omega (arith, up, few)))
