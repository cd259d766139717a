-- Lemmas on steps: an answer in a round of a search.
use Rattle.std.proofs.Common.{◌≡◌, ℕ, zero, suc, true, false, List, [], ◌∷◌, refl, ap, sym, subst, ◌∙◌}
use Rattle.std.specs.Prelude.{ℤ, Option, Some, None, Result, Ok, Err, codes}
use Rattle.pi_terms.specs.Tree.{tree_count}
use Rattle.pi_constraints.specs.declared.constraint.Item.{Item}
use Rattle.pi_constraints.specs.State.{State, bindings}
use Rattle.pi_constraints.specs.Evaluation.{EvaluatedAll}
use Rattle.pi_core.specs.GoalTree.{no_goals}
use Rattle.pi_core.specs.CoreTree.{PredTree}
use Rattle.pi_traces.specs.Trace.{Trace, done, one, alt, then, first}
use Rattle.pi_traces.specs.Control.{chosen}
use Rattle.pi_traces.proofs.TraceLemmas.{alt-done}
use Rattle.pi_prop_spec.specs.Steps.{Refusal}
use Rattle.pi_prop_spec.specs.Postings.{Posting, posting_in}
use Rattle.pi_settling.specs.Options.{Options}
use Rattle.pi_settling.specs.Asked.{Asked, labels, Flat, flat, no_item, flat_items, with_items}
use Rattle.pi_settling.specs.SolveCalls.{solve_asked}
use Rattle.pi_settling.specs.Posted.{posted_in}
use Rattle.pi_settling.specs.Read.{relation_trace}
use Rattle.pi_settling.specs.Rounds.{weighed}
use Rattle.pi_meaning.specs.Shared.View.{View}
use Rattle.pi_meaning.specs.Shared.Level.{Level, Point}
use Rattle.pi_meaning.specs.Shared.Settle.{settled}
use Rattle.pi_meaning.specs.Shared.Solve.{plain, solve_trace}
use Rattle.pi_meaning.specs.CoreMeaning.Builtins.{Builtins}
use Rattle.pi_meaning.specs.CoreMeaning.Instances.{built_later, whole}
use Rattle.pi_meaning.specs.CoreMeaning.Rules.{level_at}
use Rattle.pi_meaning.proofs.Shared.AskedAgain.{round-asks}
use Rattle.pi_meaning.specs.Machine.Configuration.{Back, Search, Found, search_level, Entry, strict}
use Rattle.pi_meaning.specs.Machine.NamedGoals.{slots_from}
use Rattle.pi_meaning.specs.Machine.Remaining.{point, continued, labels_of_round, later_rounds, round_trace, level_trace, around, now_trace}
use Rattle.pi_meaning.specs.Machine.Step.{name_call, with_rest, search_args, search_slots, round_call, bettered_now, better_goal, next_round, rounds_after, weighed_step, worth_in, labels_step, round_step, strict_step}
use Rattle.pi_meaning.proofs.Machine.RuleForms.{then-same}
use Rattle.pi_meaning.proofs.Machine.RunLemmas.{calls-are, draining-goes_on}
use Rattle.pi_meaning.proofs.Machine.StackLemmas.{Reach, reach}
use Rattle.pi_meaning.proofs.Machine.GoalSteps.{Is}
use Rattle.pi_meaning.proofs.Machine.AnswerSteps.{SearchAnswers}
use Rattle.pi_meaning.proofs.Machine.EndSteps.{found-goes-on}
use Rattle.pi_meaning.proofs.Machine.NamedRuns.{arguments-held}
use Rattle.pi_meaning.proofs.Machine.LabelSteps.{after_call, labels-are}
use Rattle.pi_meaning.proofs.Machine.SearchTraces.{IsLabelling, solve-labels, found_at, round-does, posting-rounds}

-- ---- an answer of a posting: its variables are labelled

-- what is after the call of a round is its answer
answer-found : (v : View) (preds : List PredTree) (d : ℕ) (x : Search) (r : State) →
    let given : Builtins = whole v built_later preds in
    let l : Level = level_at given preds d in
    found_at l x r ≡ after_call given l (search_slots x) no_goals [] r
unfolding continued
answer-found v preds d x r =
    let given : Builtins = whole v built_later preds in
    let l : Level = level_at given preds d in
    sym (draining-goes_on given preds l (calls-are given preds d) (λ q. one q) (search_slots x) r)

-- a call of a round that labels, by its arguments as they are evaluated
abbrev CallLabels : View → List PredTree → ℕ → Search → List Item → State → List Entry → EvaluatedAll → Type 0
CallLabels v preds d x items s es all =
    let given : Builtins = whole v built_later preds in
    let l : Level = level_at given preds d in
    let o : Options = plain x.options in
    IsLabelling (codes "solve") (tree_count all.trees) → solve_asked (codes "solve") all.trees all.state ≡ Some (labels o items) →
    Is given l es (then (solve_trace l all.state (labels o items)) (after_call given l all.slots no_goals [])) (labels_step None o items (name_call (codes "solve") (slots_from 0 2) all) (with_rest no_goals [] es))

round-by : (v : View) (preds : List PredTree) (d : ℕ) (x : Search) (s : State) (es : List Entry) (y : Flat) →
    let given : Builtins = whole v built_later preds in
    let l : Level = level_at given preds d in
    solve_asked (codes "solve") (search_args x) s ≡ Some (with_items s (plain x.options) y) →
    Is given l es (labels_of_round given l x s) (round_step (Some (with_items s (plain x.options) y)) (round_call x s) (with_rest no_goals [] es))
unfolding then now_trace tree_count
round-by v preds d x s es (flat items) asks =
    let given : Builtins = whole v built_later preds in
    let l : Level = level_at given preds d in
    let a : Asked = labels (plain x.options) items in
    ap (λ t. around given l es t []) (round-does v preds d x s a asks ∙ then-same (solve_trace l s a) (found_at l x) (after_call given l (search_slots x) no_goals []) (answer-found v preds d x))
    ∙ subst (CallLabels v preds d x items s es) (arguments-held (search_args x) s)
    (λ is held. labels-are v preds d (codes "solve") (slots_from 0 2) no_goals (search_slots x) s [] es (plain x.options) items is held None refl) solve-labels asks
round-by v preds d x s es (no_item t) asks =
    let given : Builtins = whole v built_later preds in
    let l : Level = level_at given preds d in
    ap (λ t. around given l es t []) (round-does v preds d x s (with_items s (plain x.options) (no_item t)) asks)

round-is : (v : View) (preds : List PredTree) (d : ℕ) (x : Search) (s : State) (es : List Entry) →
    let given : Builtins = whole v built_later preds in
    let l : Level = level_at given preds d in
    Is given l es (labels_of_round given l x s) (round_step (solve_asked (codes "solve") (search_args x) s) (round_call x s) (with_rest no_goals [] es))
round-is v preds d x s es =
    let given : Builtins = whole v built_later preds in
    let l : Level = level_at given preds d in
    let asks : _ = round-asks s x.options x.vars in
    subst (λ (a : Option Asked). Is given l es (labels_of_round given l x s) (round_step a (round_call x s) (with_rest no_goals [] es))) (sym asks) (round-by v preds d x s es (flat_items (bindings s) x.vars) asks)

-- ---- an answer of a round: it is weighed

-- what comes after a search
abbrev after_search : Builtins → Level → Back → State → Trace Point
after_search given l b r = continued given l b.frames (point l b.slots r)

-- the next round posts
next-posts : (v : View) (preds : List PredTree) (d : ℕ) (x : Search) (s : State) (p : Result Posting Refusal) →
    let given : Builtins = whole v built_later preds in
    let l : Level = level_at given preds d in
    then (then (relation_trace s p) (settled s)) (labels_of_round given l x) ≡ round_trace given l x false (now_trace given l (bettered_now x s p))
unfolding then first now_trace
next-posts v preds d x s (Err r) = refl
next-posts v preds d x s (Ok p) =
    let given : Builtins = whole v built_later preds in
    let l : Level = level_at given preds d in
    ap (λ t. then t (labels_of_round given l x)) (alt-done (settled s (posted_in s p))) ∙ sym (posting-rounds v preds d x s (posted_in s p))

next-is : (v : View) (preds : List PredTree) (d : ℕ) (x : Search) (n : ℕ) (q : State) (i : ℤ) (b : Back) (below : List Entry) →
    let given : Builtins = whole v built_later preds in
    let l : Level = level_at given preds d in
    Is given l below (then (later_rounds given l x b.state n q i) (after_search given l b)) (next_round n x q i b below)
unfolding later_rounds next_round around level_trace now_trace
next-is v preds d x zero q i b below = let given : Builtins = whole v built_later preds in let l : Level = level_at given preds d in ap (λ t. around given l below t []) (found-goes-on given l b q)
next-is v preds d x (suc n) q i b below =
    let given : Builtins = whole v built_later preds in
    let l : Level = level_at given preds d in
    ap (λ (t : Trace Point). around given l below (then (chosen t (λ p. weighed x.objective p.state (worth_in x p.state) (later_rounds given l x b.state n p.state)) (one q)) (after_search given l b)) [])
    (next-posts v preds d x b.state (posting_in b.state (better_goal x.objective i)))

weighed-is : (v : View) (preds : List PredTree) (d : ℕ) (x : Search) (f : Option Found) (q : State) (o : Option ℤ) (b : Back) (below : List Entry) →
    let given : Builtins = whole v built_later preds in
    let l : Level = level_at given preds d in
    Is given l below (then (weighed x.objective q o (λ i. later_rounds given l x b.state (rounds_after x.objective f i) q i)) (after_search given l b)) (weighed_step x f q o b below)
unfolding then now_trace
weighed-is v preds d x f q None b below = refl
weighed-is v preds d x f q (Some i) b below = next-is v preds d x (rounds_after x.objective f i) q i b below

-- ---- both

pub search-answers : (v : View) (preds : List PredTree) (d : ℕ) → SearchAnswers (whole v built_later preds) (level_at (whole v built_later preds) preds d)
unfolding around level_trace strict_step then alt first chosen
search-answers v preds d x false f e s above h b below =
    let given : Builtins = whole v built_later preds in
    let l : Level = level_at given preds d in
    let r : Reach given l above done = reach given l above h done in
    r.1 (one (point l e s)) [] (strict (search_level x false f) b ∷ below)
    ∙ (ap (λ t. around given l (strict (search_level x true f) b ∷ below) t []) (alt-done (labels_of_round given l x s))
    ∙ round-is v preds d x s (strict (search_level x true f) b ∷ below))
search-answers v preds d x true f e s above h b below =
    let given : Builtins = whole v built_later preds in
    let l : Level = level_at given preds d in
    let r : Reach given l above done = reach given l above h done in
    r.1 (one (point l e s)) [] (strict (search_level x true f) b ∷ below) ∙ weighed-is v preds d x f s (worth_in x s) b below
