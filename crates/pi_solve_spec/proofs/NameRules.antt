-- Rules, functions and levels over names of a program that isn't by rests are the same under each rest.
use Rattle.std.specs.Prelude.{◌≡◌, ◌++◌, ℕ, zero, suc, Bool, true, false, cond, List, [], ◌∷◌, filter, filter_map, Option, Some, None, codes, ⊤, refl}
use Rattle.std.proofs.Common.{rules}
use Rattle.pi_terms.specs.Tree.{Tree, comp, Trees, tree_count}
use Rattle.pi_constraints.specs.State.{State, bindings}
use Rattle.pi_syntax.specs.ExpTree.{ExpTree}
use Rattle.pi_syntax.specs.ProgramTree.{RuleTree, FunctionTree, WrittenClause, rule, function, fact, ProgramTree}
use Rattle.pi_syntax.specs.declared.program.Decl.{Decl}
use Rattle.pi_syntax.specs.declared.program.Mode.{Mode}
use Rattle.pi_traces.specs.Trace.{Trace, one, then}
use Rattle.pi_traces.specs.Control.{chosen}
use Rattle.pi_meaning.specs.Shared.Raise.{raised_with}
use Rattle.pi_meaning.specs.Shared.Drain.{drained}
use Rattle.pi_meaning.specs.Shared.Level.{Level, Applied, level_of, ticked}
use Rattle.pi_meaning.specs.CoreMeaning.Rules.{chosen_rule}
use Rattle.pi_meaning.specs.OverNames.Environment.{Environment}
use Rattle.pi_meaning.specs.OverNames.Place.{Place, beginning}
use Rattle.pi_meaning.specs.OverNames.Telling.{telling}
use Rattle.pi_meaning.specs.OverNames.WrittenRules.{rules_of, is_rule_of, head_arguments}
use Rattle.pi_meaning.specs.Shared.Given.{Setting}
use Rattle.pi_meaning.specs.OverNames.Stages.{Agent, RulesSetting}
use Rattle.pi_meaning.specs.OverNames.Texts.{Names, places, behind}
use Rattle.pi_meaning.specs.OverNames.Heads.{patterns_matched}
use Rattle.pi_meaning.specs.OverNames.Control.{strictly}
use Rattle.pi_meaning.specs.OverNames.Forms.{plain}
use Rattle.pi_meaning.specs.OverNames.Rules.{function_in, is_head_of, rules_named, functions_named, heads_named, modes_named, guarded, places_in, names_before, function_names, body_or_agent, leaves_later, rule_or_later, rules_called, predicate_run, body_or_none, applied, value_run, function_or_later, functions_called, function_run, calls_by, level_for, tried_rule, call_made}
use Rattle.pi_meaning.specs.OverNames.Prelude.{prelude}
use Rattle.pi_meaning.specs.OverNames.Run.{is_some_head, answer_names, names_from, names_trace}
use Rattle.pi_solve_spec.specs.Written.{AsksNone, AskNone, MayAskNone, PartAsksNone, ProgramAsksNone}
use Rattle.pi_solve_spec.specs.NameRestLaws.{NamesIgnoreRests}
use Rattle.pi_solve_spec.proofs.CallLemmas.{resting, called-alike, function-alike, first-alike}
use Rattle.pi_solve_spec.proofs.NameGoals.{CallsAlike, value-alike, goal-alike}

-- the same rules' setting but for what calls by name are
abbrev with_calls : Setting → Agent → RulesSetting
with_calls x agent = record { calls = x; agent = agent }

-- ---- the clauses of a program

unfoldable RulesAskNone : List RuleTree → Type 0
RulesAskNone [] = ⊤
RulesAskNone (r ∷ rs) = (MayAskNone r.cond × AsksNone r.body) × RulesAskNone rs

unfoldable FunctionsAskNone : List FunctionTree → Type 0
FunctionsAskNone [] = ⊤
FunctionsAskNone (f ∷ fs) = (MayAskNone f.cond × MayAskNone f.body × AsksNone f.value) × FunctionsAskNone fs

part-rules : (d : Decl) (c : Option WrittenClause) (ps : ProgramTree) → PartAsksNone c → RulesAskNone (rules_of ps) → RulesAskNone (rules_of (record { decl = d; clause = c } ∷ ps))
unfolding RulesAskNone
part-rules d None ps h rest = rest
part-rules d (Some (rule r)) ps h rest = (h, rest)
part-rules d (Some (function f)) ps h rest = rest
part-rules d (Some (fact head)) ps h rest = rest

rules-ask_none : (ps : ProgramTree) → ProgramAsksNone ps → RulesAskNone (rules_of ps)
unfolding ProgramAsksNone RulesAskNone
rules-ask_none [] n = tt
rules-ask_none (p ∷ ps) n = part-rules p.decl p.clause ps n.0 (rules-ask_none ps n.1)

-- the functions of a program
abbrev functions_of : ProgramTree → List FunctionTree
functions_of program = filter_map (λ p. function_in p.clause) program

part-functions : (d : Decl) (c : Option WrittenClause) (ps : ProgramTree) → PartAsksNone c → FunctionsAskNone (functions_of ps) → FunctionsAskNone (functions_of (record { decl = d; clause = c } ∷ ps))
unfolding FunctionsAskNone
part-functions d None ps h rest = rest
part-functions d (Some (rule r)) ps h rest = rest
part-functions d (Some (function f)) ps h rest = (h, rest)
part-functions d (Some (fact head)) ps h rest = rest

functions-ask_none : (ps : ProgramTree) → ProgramAsksNone ps → FunctionsAskNone (functions_of ps)
unfolding ProgramAsksNone FunctionsAskNone
functions-ask_none [] n = tt
functions-ask_none (p ∷ ps) n = part-functions p.decl p.clause ps n.0 (functions-ask_none ps n.1)

kept-rule : (b : Bool) (r : RuleTree) (rs : List RuleTree) → MayAskNone r.cond × AsksNone r.body → RulesAskNone rs → RulesAskNone (cond b (r ∷ rs) rs)
unfolding RulesAskNone
kept-rule true r rs h rest = (h, rest)
kept-rule false r rs h rest = rest

kept-rules : (test : RuleTree → Bool) (rs : List RuleTree) → RulesAskNone rs → RulesAskNone (filter test rs)
unfolding RulesAskNone
kept-rules test [] n = tt
kept-rules test (r ∷ rs) n = kept-rule (test r) r (filter test rs) n.0 (kept-rules test rs n.1)

kept-function : (b : Bool) (f : FunctionTree) (fs : List FunctionTree) → MayAskNone f.cond × MayAskNone f.body × AsksNone f.value → FunctionsAskNone fs → FunctionsAskNone (cond b (f ∷ fs) fs)
unfolding FunctionsAskNone
kept-function true f fs h rest = (h, rest)
kept-function false f fs h rest = rest

kept-functions : (test : FunctionTree → Bool) (fs : List FunctionTree) → FunctionsAskNone fs → FunctionsAskNone (filter test fs)
unfolding FunctionsAskNone
kept-functions test [] n = tt
kept-functions test (f ∷ fs) n = kept-function (test f) f (filter test fs) n.0 (kept-functions test fs n.1)

both-ask_none : (ps qs : ProgramTree) → ProgramAsksNone ps → ProgramAsksNone qs → ProgramAsksNone (ps ++ qs)
unfolding ProgramAsksNone
both-ask_none [] qs n rest = rest
both-ask_none (p ∷ ps) qs n rest = (n.0, both-ask_none ps qs n.1 rest)

-- the prelude calls no function without arguments
prelude-asks_none : ProgramAsksNone prelude
unfolding ProgramAsksNone prelude AsksNone AskNone
prelude-asks_none = search rules

-- ---- rules

guard-alike : (x y : Setting) (agent : Agent) → CallsAlike x y → (before : Names) (c : Option ExpTree) → MayAskNone c → guarded (with_calls x agent) before c ≡ guarded (with_calls y agent) before c
guard-alike x y agent h before None n = refl
guard-alike x y agent h before (Some c) n = λ i l p. strictly (goal-alike x y h before c n i) l p

body-alike : (x y : Setting) (agent : Agent) → CallsAlike x y → (call : Tree) (k : ℕ) (r : RuleTree) → AsksNone r.body → (es : List ExpTree) (l : Level) (p : Place) →
    body_or_agent (with_calls x agent) (tried_rule call k r) es l p ≡ body_or_agent (with_calls y agent) (tried_rule call k r) es l p
body-alike x y agent h call k r n [] l p = λ i. then (goal-alike x y h (names_before r.head r.cond) r.body n i l p) (λ q. one q.state)
body-alike x y agent h call k r n (e ∷ es) l p = refl

rule-alike : (x y : Setting) (agent : Agent) → CallsAlike x y → (call : Tree) (k : ℕ) (r : RuleTree) → MayAskNone r.cond × AsksNone r.body → (l : Level) (s : State) (later other : Trace State) → later ≡ other →
    (o : Option Environment) → rule_or_later (with_calls x agent) (tried_rule call k r) l s later o ≡ rule_or_later (with_calls y agent) (tried_rule call k r) l s other o
rule-alike x y agent h call k r n l s later other e None = e
rule-alike x y agent h call k r n l s later other e (Some names) = λ i.
    chosen (guard-alike x y agent h (behind [] (places r.head)) r.cond n.0 i l (record { names = names; state = s }))
    (λ p. chosen_rule (leaves_later r r.events) (body-alike x y agent h call k r n.1 r.events l p i) (e i)) (e i)

rules-alike : (x y : Setting) (agent : Agent) → CallsAlike x y → (call : Tree) (k : ℕ) (rs : List RuleTree) → RulesAskNone rs → (l : Level) (ts : Trees) (s : State) →
    rules_called (with_calls x agent) call k rs (call_made l ts s) ≡ rules_called (with_calls y agent) call k rs (call_made l ts s)
unfolding rules_called RulesAskNone
rules-alike x y agent h call k [] n l ts s = refl
rules-alike x y agent h call k (r ∷ rs) n l ts s =
    rule-alike x y agent h call k r n.0 l s (rules_called (with_calls x agent) call (suc k) rs (call_made l ts s)) (rules_called (with_calls y agent) call (suc k) rs (call_made l ts s))
    (rules-alike x y agent h call (suc k) rs n.1 l ts s) (patterns_matched (bindings s) (head_arguments r.head) ts [])

predicate-run-alike : (x y : Setting) (agent : Agent) → CallsAlike x y → (program : ProgramTree) → ProgramAsksNone program → (l : Level) (name : List ℕ) (ts : Trees) (s : State) (o : Option (List (List Mode))) →
    predicate_run (with_calls x agent) program name (call_made l ts s) o ≡ predicate_run (with_calls y agent) program name (call_made l ts s) o
predicate-run-alike x y agent h program n l name ts s None =
    rules-alike x y agent h (comp name ts) 0 (rules_named name (tree_count ts) program) (kept-rules (is_rule_of name (tree_count ts)) (rules_of program) (rules-ask_none program n)) l ts s
predicate-run-alike x y agent h program n l name ts s (Some lists) = refl

-- ---- functions

none-alike : (x y : Setting) (agent : Agent) → CallsAlike x y → (before : Names) (o : Option ExpTree) → MayAskNone o → body_or_none (with_calls x agent) before o ≡ body_or_none (with_calls y agent) before o
none-alike x y agent h before None n = refl
none-alike x y agent h before (Some body) n = λ i l p. goal-alike x y h before body n i l p

value-run-alike : (x y : Setting) (agent : Agent) → CallsAlike x y → (f : FunctionTree) → MayAskNone f.cond × MayAskNone f.body × AsksNone f.value → (l : Level) (p : Place) →
    value_run (with_calls x agent) f l p ≡ value_run (with_calls y agent) f l p
value-run-alike x y agent h f n l p = λ i.
    then (strictly (none-alike x y agent h (behind (function_names f) (places_in f.cond)) f.body n.1 i) l p)
    (λ q. then (value-alike x y h plain (behind (names_before f.head f.cond) (places_in f.body)) f.value n.2 i l q) (λ v. one (applied v)))

function-rule-alike : (x y : Setting) (agent : Agent) → CallsAlike x y → (f : FunctionTree) → MayAskNone f.cond × MayAskNone f.body × AsksNone f.value → (l : Level) (s : State) (later other : Trace Applied) →
    later ≡ other → (o : Option Environment) → function_or_later (with_calls x agent) f l s later o ≡ function_or_later (with_calls y agent) f l s other o
function-rule-alike x y agent h f n l s later other e None = e
function-rule-alike x y agent h f n l s later other e (Some names) = λ i.
    chosen (guard-alike x y agent h (function_names f) f.cond n.0 i l (record { names = names; state = s })) (λ p. value-run-alike x y agent h f n l p i) (e i)

functions-alike : (x y : Setting) (agent : Agent) → CallsAlike x y → (fs : List FunctionTree) → FunctionsAskNone fs → (l : Level) (ts : Trees) (s : State) →
    functions_called (with_calls x agent) fs l ts s ≡ functions_called (with_calls y agent) fs l ts s
unfolding functions_called FunctionsAskNone
functions-alike x y agent h [] n l ts s = refl
functions-alike x y agent h (f ∷ fs) n l ts s =
    function-rule-alike x y agent h f n.0 l s (functions_called (with_calls x agent) fs l ts s) (functions_called (with_calls y agent) fs l ts s) (functions-alike x y agent h fs n.1 l ts s)
    (patterns_matched (bindings s) (head_arguments f.head) ts [])

function-run-alike : (x y : Setting) (agent : Agent) → CallsAlike x y → (program : ProgramTree) → ProgramAsksNone program → (l : Level) (name : List ℕ) (ts : Trees) (s : State) →
    function_run (with_calls x agent) program l name ts s ≡ function_run (with_calls y agent) program l name ts s
function-run-alike x y agent h program n l name ts s = λ i.
    chosen (functions-alike x y agent h (functions_named name (tree_count ts) program) (kept-functions (λ f. is_head_of name (tree_count ts) f.head) (functions_of program) (functions-ask_none program n)) l ts s i)
    (λ v. one v) (raised_with (codes "unresolved_function_call") (comp name ts) s)

-- ---- depths

calls-alike : (x y : Setting) (agent : Agent) → CallsAlike x y → (program : ProgramTree) → ProgramAsksNone program → (below under : Option Level) → below ≡ under →
    calls_by (with_calls x agent) program below ≡ calls_by (with_calls y agent) program under
unfolding calls_by
calls-alike x y agent h program n below under e = λ i. record {
  called = λ name ts s. ticked (e i) (λ l. predicate-run-alike x y agent h program n l name ts s (modes_named name (tree_count ts) program) i);
  applied = λ name ts s. ticked (e i) (λ l. function-run-alike x y agent h program n l name ts s i);
  drained = λ s. drained s;
}

level-alike : (x y : Setting) (agent : Agent) → CallsAlike x y → (program : ProgramTree) → ProgramAsksNone program → (d : ℕ) → level_for (with_calls x agent) program d ≡ level_for (with_calls y agent) program d
unfolding level_for
level-alike x y agent h program n zero = λ i. level_of (calls-alike x y agent h program n None None refl i) None
level-alike x y agent h program n (suc d) = λ i.
    level_of (calls-alike x y agent h program n (Some (level_for (with_calls x agent) program d)) (Some (level_for (with_calls y agent) program d)) (λ j. Some (level-alike x y agent h program n d j)) i)
    (Some (level-alike x y agent h program n d i))

-- ---- goals that are asked

pub names_ignore_rests : NamesIgnoreRests
unfolding names_trace names_from
names_ignore_rests later ignores log waiting q r program goal n asks_none d =
    let defines : List ℕ → ℕ → Bool = λ name k. is_some_head (heads_named name k (prelude ++ program)) in
    let x : Setting = resting log waiting later.calls defines q in
    let y : Setting = resting log waiting later.calls defines r in
    let h : CallsAlike x y = record {
      predicates = λ l name ts s. called-alike log waiting later.calls defines ignores q r l name ts s;
      functions = λ l name ts s other. function-alike log waiting later.calls defines q r l name ts s other;
      terms = λ l ts s. first-alike log waiting later.calls defines ignores q r l ts s;
    } in
    λ i. then (strictly (goal-alike x y h [] goal asks_none i) (level-alike x y later.agent h (prelude ++ program) (both-ask_none prelude program prelude-asks_none n) d i) beginning) (telling (answer_names goal))
