-- More depth only adds to calls of functions, by the core meaning.
use Rattle.std.specs.Prelude.{ℕ, suc, Bool, true, false, List, [], ◌∷◌, Option, Some, None, replicate, codes, ⊤}
use Rattle.pi_terms.specs.Tree.{Tree, comp, Trees}
use Rattle.pi_terms.specs.Places.{Places}
use Rattle.pi_constraints.specs.State.{State, bindings}
use Rattle.pi_constraints.specs.HeadMatch.{matched_all_in}
use Rattle.pi_core.specs.GoalTree.{GoalTree, truth}
use Rattle.pi_core.specs.CoreTree.{ClauseTree, PredTree}
use Rattle.pi_traces.specs.Trace.{Trace, Done, Tick, one}
use Rattle.pi_traces.specs.Depth.{Below, same_end}
use Rattle.pi_traces.specs.Related.{BelowBy, deeper_by, end_by, note_by}
use Rattle.pi_traces.proofs.RelatedLemmas.{Same, below-by, by-same, by-one, by-then, by-chosen}
use Rattle.pi_meaning.specs.Shared.Raise.{raised_with}
use Rattle.pi_meaning.specs.Shared.Level.{Level, Applied, Point, LevelBelow, PointBelow, same_but_level}
use Rattle.pi_meaning.specs.CoreMeaning.Builtins.{Builtins, BuiltinsOnlyAdd}
use Rattle.pi_meaning.specs.CoreMeaning.Meaning.{meaning, strictly}
use Rattle.pi_meaning.specs.CoreMeaning.Rules.{guarded, rule_by, rules_by, rule_before, rules, value_at, value_run, function_run, entered, application_run}
use Rattle.pi_meaning.proofs.CoreMeaning.MeaningLemmas.{place, strict-below}
use Rattle.pi_meaning.proofs.CoreMeaning.RuleLemmas.{value-at-level}

guarded-more : (b : Builtins) → BuiltinsOnlyAdd b → (g : GoalTree) (p q : Point) → PointBelow p q → BelowBy PointBelow (guarded b g p) (guarded b g q)
guarded-more b adds truth p q h = by-one PointBelow p q h
guarded-more b adds g p q h = strict-below b adds g p q h

same-value : (t : Option Tree) (p q : Point) → PointBelow p q → BelowBy Same (value_at t p) (value_at t q)
same-value t _ _ (same_but_level {l = l} {m = m} h e s) = value-at-level t l m e s

value-more : (b : Builtins) → BuiltinsOnlyAdd b → (c : ClauseTree) (p q : Point) → PointBelow p q → BelowBy Same (value_run b c p) (value_run b c q)
value-more b adds c p q r =
    by-then PointBelow Same (strictly (meaning b c.body) p) (strictly (meaning b c.body) q) (value_at c.value) (value_at c.value) (strict-below b adds c.body p q r) (same-value c.value)

rule-more : (b : Builtins) → BuiltinsOnlyAdd b → (l m : Level) → LevelBelow l m → (c : ClauseTree) (s : State) (rest more : Trace Applied) → BelowBy Same rest more → (o : Option Places) →
    BelowBy Same (rule_before b l (rule_by c false (λ p. value_run b c p)) s rest o) (rule_before b m (rule_by c false (λ p. value_run b c p)) s more o)
rule-more b adds l m h c s rest more r None = r
rule-more b adds l m h c s rest more r (Some e) =
    by-chosen PointBelow Same (guarded b c.guard (place l e s)) (guarded b c.guard (place m e s)) (λ p. value_run b c p) (λ p. value_run b c p) rest more
    (guarded-more b adds c.guard (place l e s) (place m e s) (same_but_level h e s)) (value-more b adds c) r

rules-more : (b : Builtins) → BuiltinsOnlyAdd b → (l m : Level) → LevelBelow l m → (i : ℕ) (cs : List ClauseTree) (ts : Trees) (s : State) →
    BelowBy Same (rules (rules_by b l (λ c. false) (λ i c p. value_run b c p)) i cs ts s) (rules (rules_by b m (λ c. false) (λ i c p. value_run b c p)) i cs ts s)
unfolding rules
rules-more b adds l m h i [] ts s = end_by Done
rules-more b adds l m h i (c ∷ cs) ts s =
    rule-more b adds l m h c s (rules (rules_by b l (λ c. false) (λ i c p. value_run b c p)) (suc i) cs ts s) (rules (rules_by b m (λ c. false) (λ i c p. value_run b c p)) (suc i) cs ts s)
    (rules-more b adds l m h (suc i) cs ts s) (matched_all_in (bindings s) c.head ts (replicate c.slots None))

function-more : (b : Builtins) → BuiltinsOnlyAdd b → (l m : Level) → LevelBelow l m → (pred : PredTree) (ts : Trees) (s : State) → BelowBy Same (function_run b l pred ts s) (function_run b m pred ts s)
unfolding function_run
function-more b adds l m h pred ts s =
    let unresolved : Trace Applied = raised_with (codes "unresolved_function_call") (comp pred.name ts) s in
    by-chosen Same Same (rules (rules_by b l (λ c. false) (λ i c p. value_run b c p)) 0 pred.clauses ts s) (rules (rules_by b m (λ c. false) (λ i c p. value_run b c p)) 0 pred.clauses ts s)
    (λ a. one a) (λ a. one a) unresolved unresolved (rules-more b adds l m h 0 pred.clauses ts s) (λ x y r. by-one Same x y r) (by-same unresolved)

-- where there is a level, there is one above it
abbrev pub OptionalLevel : Option Level → Option Level → Type 0
OptionalLevel None k = ⊤
OptionalLevel (Some l) None = ⊥
OptionalLevel (Some l) (Some m) = LevelBelow l m

entered-more : (quiet : Bool) (inner inner' below below' : Option Level) → OptionalLevel inner inner' → OptionalLevel below below' → (f : Level → Trace Applied) →
    ((l m : Level) → LevelBelow l m → BelowBy Same (f l) (f m)) → BelowBy Same (entered quiet inner below f) (entered quiet inner' below' f)
entered-more true None inner' below below' h k f a = deeper_by (entered true inner' below' f)
entered-more true (Some l) None below below' h k f a = absurd h
entered-more true (Some l) (Some m) below below' h k f a = a l m h
entered-more false inner inner' None below' h k f a = deeper_by (entered false inner' below' f)
entered-more false inner inner' (Some l) None h k f a = absurd k
entered-more false inner inner' (Some l) (Some m) h k f a = note_by Tick (a l m k)

pub application-more : (b : Builtins) → BuiltinsOnlyAdd b → (inner inner' below below' : Option Level) → OptionalLevel inner inner' → OptionalLevel below below' → (found : Option PredTree) (ts : Trees) (s : State) →
    Below (application_run b inner below found ts s) (application_run b inner' below' found ts s)
application-more b adds inner inner' below below' h k None ts s = same_end Done
application-more b adds inner inner' below below' h k (Some pred) ts s =
    below-by (entered pred.quiet inner below (λ l. function_run b l pred ts s)) (entered pred.quiet inner' below' (λ l. function_run b l pred ts s))
    (entered-more pred.quiet inner inner' below below' h k (λ l. function_run b l pred ts s) (λ l m a. function-more b adds l m a pred ts s))
