-- More depth only adds: rules, functions, levels and queries. So a run is one.
use Rattle.std.proofs.Common.{◌≡◌, ℕ, zero, suc, Bool, true, false, List, [], ◌∷◌, ◌++◌, refl, sym, ◌∙◌, ap}
use Rattle.std.specs.Prelude.{Option, Some, None}
use Rattle.pi_terms.specs.Tree.{Tree, comp, Trees, tree_count}
use Rattle.pi_constraints.specs.State.{State, bindings}
use Rattle.pi_syntax.specs.ExpTree.{ExpTree}
use Rattle.pi_syntax.specs.ProgramTree.{RuleTree, FunctionTree, ProgramTree}
use Rattle.pi_syntax.specs.declared.program.Mode.{Mode}
use Rattle.pi_traces.specs.Trace.{Trace, Tick, done}
use Rattle.pi_traces.specs.Depth.{Below, deeper, same_note, cut, CutWithoutDeep}
use Rattle.pi_traces.proofs.BelowLemmas.{below-refl, below-alt, below-then, below-chosen}
use Rattle.pi_traces.proofs.CutLemmas.{depths-agree}
use Rattle.pi_meaning.specs.Shared.Level.{Level, Applied, CallsBelow, LevelBelow}
use Rattle.pi_meaning.specs.CoreMeaning.Rules.{chosen_rule}
use Rattle.pi_meaning.specs.OverNames.Environment.{Environment}
use Rattle.pi_meaning.specs.OverNames.Place.{Place, beginning}
use Rattle.pi_meaning.specs.OverNames.WrittenRules.{head_arguments}
use Rattle.pi_meaning.specs.OverNames.Telling.{telling, place_told, told_trace, told_cut}
use Rattle.pi_meaning.proofs.Shared.CallLemmas.{built-later-adds}
use Rattle.pi_meaning.proofs.OverNames.ToldCuts.{cut-told}
use Rattle.pi_meaning.specs.Shared.View.{View}
use Rattle.pi_meaning.specs.OverNames.Texts.{Names, places, behind}
use Rattle.pi_meaning.specs.OverNames.Stages.{LaterStages, built_stages, RulesSetting}
use Rattle.pi_meaning.specs.OverNames.Heads.{patterns_matched}
use Rattle.pi_meaning.specs.Shared.Given.{LaterOnlyAdds}
use Rattle.pi_meaning.specs.OverNames.Forms.{plain}
use Rattle.pi_meaning.specs.OverNames.Goals.{goal_of}
use Rattle.pi_meaning.specs.OverNames.Rules.{rules_named, functions_named, modes_named, guarded, places_in, names_before, function_names, body_or_agent, leaves_later, rule_or_later, rules_called, predicate_run, body_or_none, value_run, function_or_later, functions_called, function_run, calls_by, level_for, tried_rule, call_made}
use Rattle.pi_meaning.specs.OverNames.Prelude.{prelude}
use Rattle.pi_meaning.specs.OverNames.Run.{setting, program_level, answer_names, names_from, names_trace}
use Rattle.pi_meaning.specs.OverNames.Laws.{NamesDoMore, NamesRunsAreOne, NamesRunsReach}
use Rattle.pi_meaning.proofs.OverNames.GrowControl.{Grows, stays, strictly-grows}
use Rattle.pi_meaning.proofs.OverNames.GrowGoals.{value-grows, goal-grows}

chosen-below : {X : Type 0} (back : Bool) (t u later more : Trace X) → Below t u → Below later more → Below (chosen_rule back t later) (chosen_rule back u more)
chosen-below true t u later more a b = below-alt t u later more a b
chosen-below false t u later more a b = a

guard-grows : (set : RulesSetting) → LaterOnlyAdds set.calls.later → (before : Names) (c : Option ExpTree) → Grows (guarded set before c)
guard-grows set adds before None = stays _
guard-grows set adds before (Some c) = strictly-grows (goal_of set.calls before c) (goal-grows set.calls adds before c)

body-below : (set : RulesSetting) → LaterOnlyAdds set.calls.later → (call : Tree) (i : ℕ) (r : RuleTree) (es : List ExpTree) (l m : Level) → LevelBelow l m → (p : Place) →
    Below (body_or_agent set (tried_rule call i r) es l p) (body_or_agent set (tried_rule call i r) es m p)
body-below set adds call i r [] l m b p = below-then _ _ _ _ (goal-grows set.calls adds (names_before r.head r.cond) r.body l m b p) (λ q. below-refl _)
body-below set adds call i r (e ∷ es) l m b p = below-refl _

rule-below : (set : RulesSetting) → LaterOnlyAdds set.calls.later → (call : Tree) (i : ℕ) (r : RuleTree) (l m : Level) → LevelBelow l m → (s : State) (t u : Trace State) → Below t u → (o : Option Environment) →
    Below (rule_or_later set (tried_rule call i r) l s t o) (rule_or_later set (tried_rule call i r) m s u o)
rule-below set adds call i r l m b s t u more None = more
rule-below set adds call i r l m b s t u more (Some e) =
    below-chosen _ _ _ _ t u (guard-grows set adds (behind [] (places r.head)) r.cond l m b (record { names = e; state = s }))
    (λ p. chosen-below (leaves_later r r.events) _ _ t u (body-below set adds call i r r.events l m b p) more) more

rules-below : (set : RulesSetting) → LaterOnlyAdds set.calls.later → (call : Tree) (i : ℕ) (rs : List RuleTree) (l m : Level) → LevelBelow l m → (ts : Trees) (s : State) →
    Below (rules_called set call i rs (call_made l ts s)) (rules_called set call i rs (call_made m ts s))
unfolding rules_called
rules-below set adds call i [] l m b ts s = below-refl done
rules-below set adds call i (r ∷ rs) l m b ts s =
    rule-below set adds call i r l m b s _ _ (rules-below set adds call (suc i) rs l m b ts s) (patterns_matched (bindings s) (head_arguments r.head) ts [])

predicate-run-below : (set : RulesSetting) → LaterOnlyAdds set.calls.later → (program : ProgramTree) (l m : Level) → LevelBelow l m → (name : List ℕ) (ts : Trees) (s : State) (o : Option (List (List Mode))) →
    Below (predicate_run set program name (call_made l ts s) o) (predicate_run set program name (call_made m ts s) o)
predicate-run-below set adds program l m b name ts s None = rules-below set adds (comp name ts) 0 (rules_named name (tree_count ts) program) l m b ts s
predicate-run-below set adds program l m b name ts s (Some lists) = below-refl _

none-grows : (set : RulesSetting) → LaterOnlyAdds set.calls.later → (before : Names) (o : Option ExpTree) → Grows (body_or_none set before o)
none-grows set adds before None = stays _
none-grows set adds before (Some body) = goal-grows set.calls adds before body

value-below : (set : RulesSetting) → LaterOnlyAdds set.calls.later → (f : FunctionTree) (l m : Level) → LevelBelow l m → (p : Place) → Below (value_run set f l p) (value_run set f m p)
value-below set adds f l m b p =
    below-then _ _ _ _ (strictly-grows _ (none-grows set adds (behind (function_names f) (places_in f.cond)) f.body) l m b p)
    (λ q. below-then _ _ _ _ (value-grows set.calls adds plain (behind (names_before f.head f.cond) (places_in f.body)) f.value l m b q) (λ x. below-refl _))

function-or-below : (set : RulesSetting) → LaterOnlyAdds set.calls.later → (f : FunctionTree) (l m : Level) → LevelBelow l m → (s : State) (t u : Trace Applied) → Below t u → (o : Option Environment) →
    Below (function_or_later set f l s t o) (function_or_later set f m s u o)
function-or-below set adds f l m b s t u more None = more
function-or-below set adds f l m b s t u more (Some e) =
    below-chosen _ _ _ _ t u (guard-grows set adds (function_names f) f.cond l m b (record { names = e; state = s })) (λ p. value-below set adds f l m b p) more

functions-below : (set : RulesSetting) → LaterOnlyAdds set.calls.later → (fs : List FunctionTree) (l m : Level) → LevelBelow l m → (ts : Trees) (s : State) →
    Below (functions_called set fs l ts s) (functions_called set fs m ts s)
unfolding functions_called
functions-below set adds [] l m b ts s = below-refl done
functions-below set adds (f ∷ fs) l m b ts s =
    function-or-below set adds f l m b s _ _ (functions-below set adds fs l m b ts s) (patterns_matched (bindings s) (head_arguments f.head) ts [])

function-run-below : (set : RulesSetting) → LaterOnlyAdds set.calls.later → (program : ProgramTree) (l m : Level) → LevelBelow l m → (name : List ℕ) (ts : Trees) (s : State) →
    Below (function_run set program l name ts s) (function_run set program m name ts s)
function-run-below set adds program l m b name ts s =
    below-chosen _ _ _ _ _ _ (functions-below set adds (functions_named name (tree_count ts) program) l m b ts s) (λ a. below-refl _) (below-refl _)

-- ---- depths

none-below : (set : RulesSetting) (program : ProgramTree) (o : Option Level) → CallsBelow (calls_by set program None) (calls_by set program o)
unfolding calls_by
none-below set program o = record { called = λ name ts s. deeper _; applied = λ name ts s. deeper _; drained = λ s. below-refl _ }

calls-by-below : (set : RulesSetting) → LaterOnlyAdds set.calls.later → (program : ProgramTree) (l m : Level) → LevelBelow l m → CallsBelow (calls_by set program (Some l)) (calls_by set program (Some m))
unfolding calls_by
calls-by-below set adds program l m b = record {
  called = λ name ts s. same_note Tick (predicate-run-below set adds program l m b name ts s (modes_named name (tree_count ts) program));
  applied = λ name ts s. same_note Tick (function-run-below set adds program l m b name ts s);
  drained = λ s. below-refl _;
}

levels-ascend : (set : RulesSetting) → LaterOnlyAdds set.calls.later → (program : ProgramTree) (d : ℕ) → LevelBelow (level_for set program d) (level_for set program (suc d))
unfolding level_for
levels-ascend set adds program zero = none-below set program (Some (level_for set program zero))
levels-ascend set adds program (suc d) =
    (calls-by-below set adds program (level_for set program d) (level_for set program (suc d)) (levels-ascend set adds program d), levels-ascend set adds program d)

pub names-deeper : NamesDoMore
unfolding names_trace names_from
names-deeper v later adds program goal d =
    below-then _ _ _ _
    (strictly-grows (goal_of (setting v later program).calls [] goal) (goal-grows (setting v later program).calls adds [] goal)
    (program_level v later program d) (program_level v later program (suc d))
    (levels-ascend (setting v later program) adds (prelude ++ program) d) beginning)
    (λ p. below-refl (telling (answer_names goal) p))

-- with what is built of later stages, more depth only adds
pub built-stages-add : LaterOnlyAdds built_stages.calls
built-stages-add = built-later-adds

-- ---- runs

told-once : (v : View) (later : LaterStages) → LaterOnlyAdds later.calls → (program : ProgramTree) (goal : ExpTree) (n depth other : ℕ) → CutWithoutDeep n (names_trace v later program goal depth) →
    CutWithoutDeep n (names_trace v later program goal other) →
    cut n (told_trace (place_told (answer_names goal)) (names_trace v later program goal depth)) ≡ cut n (told_trace (place_told (answer_names goal)) (names_trace v later program goal other))
told-once v later adds program goal n depth other reaches others =
    let tells = place_told (answer_names goal) in
    cut-told tells n (names_trace v later program goal depth)
    ∙ ap (told_cut tells) (depths-agree n (names_trace v later program goal) (names-deeper v later adds program goal) depth other reaches others)
    ∙ sym (cut-told tells n (names_trace v later program goal other))

pub names-runs-are-one : NamesRunsAreOne
names-runs-are-one v later adds program goal n c d a b =
    a.is_cut ∙ told-once v later adds program goal n a.depth b.depth a.reaches b.reaches ∙ sym b.is_cut

pub names-runs-reach : NamesRunsReach
names-runs-reach v later program goal n depth reaches =
    (cut n (told_trace (place_told (answer_names goal)) (names_trace v later program goal depth)), record { depth = depth; reaches = reaches; is_cut = refl })
