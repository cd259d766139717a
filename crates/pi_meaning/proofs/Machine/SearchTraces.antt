-- Lemmas on traces: what the rounds of a search are, where each labels by its call.
use Rattle.std.proofs.Common.{◌≡◌, ℕ, zero, suc, true, false, List, [], refl, ap, sym, ◌∙◌}
use Rattle.std.proofs.Math.Path.{fun_ext}
use Rattle.std.specs.Prelude.{ℤ, Option, Some, None, Result, Ok, Err, option_map, unwrap_or, codes}
use Rattle.pi_terms.specs.Tree.{Trees, tree_count}
use Rattle.pi_constraints.specs.declared.constraint.Item.{Item}
use Rattle.pi_constraints.specs.State.{State, bindings}
use Rattle.pi_core.specs.GoalTree.{no_goals}
use Rattle.pi_core.specs.CoreTree.{PredTree}
use Rattle.pi_traces.specs.Trace.{Trace, done, one, alt, then, first}
use Rattle.pi_traces.specs.Control.{chosen}
use Rattle.pi_traces.proofs.TraceLemmas.{then-assoc, alt-done}
use Rattle.pi_effects.specs.Rows.{has_line}
use Rattle.pi_prop_spec.specs.Steps.{Refusal}
use Rattle.pi_prop_spec.specs.Postings.{Posting, posting_in}
use Rattle.pi_settling.specs.Asked.{Asked, labels, flat, flat_items, with_items}
use Rattle.pi_settling.specs.SolveCalls.{solve_calls, solve_asked}
use Rattle.pi_settling.specs.Confined.{confined}
use Rattle.pi_settling.specs.Posted.{posted_in}
use Rattle.pi_settling.specs.Reading.{Operand, reads, refuses}
use Rattle.pi_settling.specs.Read.{operand_in, relation_trace}
use Rattle.pi_settling.specs.Rounds.{operand_posted, weighed, count_better}
use Rattle.pi_settling.specs.Settled.{loaded}
use Rattle.pi_settling.specs.Settle.{answer_with}
use Rattle.pi_meaning.specs.Shared.View.{View}
use Rattle.pi_meaning.specs.Shared.Level.{Level, Point, or_called, calls_at}
use Rattle.pi_meaning.specs.Shared.Names.{is_later_predicate, is_call}
use Rattle.pi_meaning.specs.Shared.Effects.{is_effect_name}
use Rattle.pi_meaning.specs.Shared.Calls.{unknown_name}
use Rattle.pi_meaning.specs.Shared.Settle.{settlement, settled}
use Rattle.pi_meaning.specs.Shared.Solve.{labelled_in, plain, round_in, bettered_in, sought_in, solve_trace}
use Rattle.pi_meaning.specs.CoreMeaning.Builtins.{Builtins, predicate_by}
use Rattle.pi_meaning.specs.CoreMeaning.Instances.{built_later, whole}
use Rattle.pi_meaning.specs.CoreMeaning.Rules.{level_at}
use Rattle.pi_meaning.proofs.Shared.AskedAgain.{round-asks}
use Rattle.pi_meaning.proofs.Shared.BoundIntegers.{settlement-binds}
use Rattle.pi_meaning.proofs.Shared.EffectNames.{no-effect}
use Rattle.pi_meaning.proofs.Shared.MoreVariables.{Grows, grows-then, binds-grow, posted-grow, operand-grow, flat-more}
use Rattle.pi_meaning.specs.Machine.Configuration.{Back, Search, settling}
use Rattle.pi_meaning.specs.Machine.Remaining.{point, run_from, now_trace, labels_of_round, better_posted, later_rounds, sought_from, round_trace}
use Rattle.pi_meaning.specs.Machine.Step.{search_args, search_slots, begun_now, better_goal, worth_in}
use Rattle.pi_meaning.specs.Machine.NamedGoals.{slots_from}
use Rattle.pi_meaning.proofs.Machine.RuleForms.{then-same, chosen-renamed, chosen-same}
use Rattle.pi_meaning.proofs.Machine.RunLemmas.{calls-are, drains-at}
use Rattle.pi_meaning.proofs.Machine.GoalSteps.{one-goes_on, answer-is}
use Rattle.pi_meaning.proofs.Machine.NamesGiven.{does-later}
use Rattle.pi_meaning.proofs.Machine.NamedRuns.{arguments-held, slot-ran}
use Rattle.pi_meaning.proofs.Machine.LabelTraces.{settled-follows}
use Rattle.pi_meaning.proofs.Machine.SolveNames.{solve-later, solve-no_call, solve-no_effect}

-- ---- what a call does that labels

-- a name of a later stage that isn't a goal of constraints
pub record IsLabelling (name : List ℕ) (k : ℕ) : Type 0 where
  pub no_call : is_call name k ≡ false
  pub no_effect : is_effect_name name k ≡ false
  pub later : is_later_predicate name k ≡ true

pub by-name : (v : View) (preds : List PredTree) (l : Level) (name : List ℕ) (ts : Trees) (s : State) → IsLabelling name (tree_count ts) → (a : Option Asked) → solve_asked name ts s ≡ a →
    predicate_by (whole v built_later preds) l name ts s ≡ unwrap_or (option_map (solve_trace l s) a) (unknown_name name (tree_count ts))
by-name v preds l name ts s is a asked =
    ap (λ o. or_called o l name ts s) (does-later v preds l name ts s is.no_call (no-effect name ts s is.no_effect) is.later)
    ∙ ap (λ (b : Option Asked). unwrap_or (option_map (solve_trace l s) b) (unknown_name name (tree_count ts))) asked

-- ---- what a round labels

-- the name of the call of a round
pub solve-labels : IsLabelling (codes "solve") 2
unfolding has_line solve_calls
solve-labels = record { no_call = solve-no_call (codes "solve") 2 refl; no_effect = solve-no_effect (codes "solve") 2 refl; later = solve-later (codes "solve") 2 refl }

-- an answer of a round
abbrev pub found_at : Level → Search → State → Trace Point
found_at l x r = one (point l (search_slots x) r)

pub round-does : (v : View) (preds : List PredTree) (d : ℕ) (x : Search) (s : State) (a : Asked) → solve_asked (codes "solve") (search_args x) s ≡ Some a →
    let l : Level = level_at (whole v built_later preds) preds d in
    labels_of_round (whole v built_later preds) l x s ≡ then (solve_trace l s a) (found_at l x)
unfolding tree_count
round-does v preds d x s a asks =
    let l : Level = level_at (whole v built_later preds) preds d in
    slot-ran v preds d (codes "solve") (slots_from 0 2) (search_args x) (search_slots x) s (arguments-held (search_args x) s)
    ∙ ap (λ (t : Trace State). then t (found_at l x)) (by-name v preds l (codes "solve") (search_args x) s solve-labels (Some a) asks)

-- where its variables are these
pub round-labels : (v : View) (preds : List PredTree) (d : ℕ) (x : Search) (items : List Item) (s : State) → flat_items (bindings s) x.vars ≡ flat items →
    let l : Level = level_at (whole v built_later preds) preds d in
    labels_of_round (whole v built_later preds) l x s ≡ then (labelled_in (plain x.options) items l (confined s items)) (found_at l x)
round-labels v preds d x items s is =
    round-does v preds d x s (labels (plain x.options) items) (round-asks s x.options x.vars ∙ ap (λ y. Some (with_items s (plain x.options) y)) is)

-- ---- a round, by what its posting leaves

-- from each state that is left these are the variables
abbrev IsLabelled : Search → List Item → State → State → Type 0
IsLabelled x items s r = (q : State) → (settlement s r).left ≡ Some q → flat_items (bindings q) x.vars ≡ flat items

grown-labels : (x : Search) (items : List Item) (s r : State) → flat_items (bindings s) x.vars ≡ flat items → Grows (bindings s) (bindings r) → IsLabelled x items s r
grown-labels x items s r is grows = λ q left.
    flat-more (bindings s) (bindings q) (grows-then (bindings s) (bindings r) (bindings q) grows (binds-grow r q (settlement-binds s r q left))) x.vars items is

settled-round : (v : View) (preds : List PredTree) (d : ℕ) (x : Search) (items : List Item) (s r : State) → IsLabelled x items s r →
    let given : Builtins = whole v built_later preds in
    let l : Level = level_at given preds d in
    then (settled s r) (labels_of_round given l x) ≡ then (round_in x.options items l (settled s r)) (found_at l x)
unfolding then
settled-round v preds d x items s r is =
    let given : Builtins = whole v built_later preds in
    let l : Level = level_at given preds d in
    let t : Trace State = settled s r in
    let drains : State → Trace State = (calls_at l).drained in
    let labels_here : State → Trace State = λ q. labelled_in (plain x.options) items l (confined q items) in
    let on_label : State → Trace Point = λ q. then (labels_here q) (found_at l x) in
    sym (then-assoc (then t drains) labels_here (found_at l x)
    ∙ (then-assoc t drains on_label
    ∙ (then-same t (λ q. then (drains q) on_label) on_label (λ q. ap (λ u. then u on_label) (drains-at given preds l (calls-are given preds d) q) ∙ alt-done (on_label q))
    ∙ settled-follows s r on_label (labels_of_round given l x) (λ q left. sym (round-labels v preds d x items q (is q left))))))

-- what a later one posts
posted-round : (v : View) (preds : List PredTree) (d : ℕ) (x : Search) (items : List Item) (s : State) → flat_items (bindings s) x.vars ≡ flat items → (p : Result Posting Refusal) →
    let given : Builtins = whole v built_later preds in
    let l : Level = level_at given preds d in
    then (then (relation_trace s p) (settled s)) (labels_of_round given l x) ≡ then (round_in x.options items l (then (relation_trace s p) (settled s))) (found_at l x)
unfolding then
posted-round v preds d x items s is (Err r) = refl
posted-round v preds d x items s is (Ok p) =
    let given : Builtins = whole v built_later preds in
    let l : Level = level_at given preds d in
    let posted : Trace State = settled s (posted_in s p) in
    ap (λ t. then t (labels_of_round given l x)) (alt-done posted)
    ∙ (settled-round v preds d x items s (posted_in s p) (grown-labels x items s (posted_in s p) is (posted-grow s p))
    ∙ ap (λ t. then (round_in x.options items l t) (found_at l x)) (sym (alt-done posted)))

-- the later rounds
rounds-are : (v : View) (preds : List PredTree) (d : ℕ) (x : Search) (items : List Item) (s : State) → flat_items (bindings s) x.vars ≡ flat items → (n : ℕ) (r : State) (i : ℤ) →
    let given : Builtins = whole v built_later preds in
    let l : Level = level_at given preds d in
    later_rounds given l x s n r i ≡ bettered_in x.options items x.objective l s n r i
unfolding later_rounds bettered_in
rounds-are v preds d x items s is zero r i = refl
rounds-are v preds d x items s is (suc n) r i =
    let given : Builtins = whole v built_later preds in
    let l : Level = level_at given preds d in
    let here : State → Trace State = λ q. weighed x.objective q (worth_in x q) (later_rounds given l x s n q) in
    let there : State → Trace State = λ q. weighed x.objective q (worth_in x q) (bettered_in x.options items x.objective l s n q) in
    let t : Trace State = round_in x.options items l (better_posted x s i) in
    ap (λ (u : Trace Point). chosen u (λ q. here q.state) (one r)) (posted-round v preds d x items s is (posting_in s (better_goal x.objective i)))
    ∙ (chosen-renamed t (point l (search_slots x)) (λ q. here q.state) (one r)
    ∙ chosen-same t here there (one r) (one r) (λ q. ap (weighed x.objective q (worth_in x q)) (fun_ext (λ j. rounds-are v preds d x items s is n q j))) refl)

-- ---- what a round remains that has posted

first-loaded : (n : ℕ) (o : Option State) (f : State → Point) → first (then (loaded n (answer_with o)) (λ q. one (f q))) ≡ then (loaded n (answer_with o)) (λ q. one (f q))
unfolding first then alt loaded
first-loaded zero None f = refl
first-loaded zero (Some q) f = refl
first-loaded (suc n) None f = refl
first-loaded (suc n) (Some q) f = refl

-- it is settled, which leaves one state at most, and that is labelled
pub posting-rounds : (v : View) (preds : List PredTree) (d : ℕ) (x : Search) (s r : State) →
    let given : Builtins = whole v built_later preds in
    let l : Level = level_at given preds d in
    round_trace given l x false (now_trace given l (settling s r no_goals (search_slots x) [])) ≡ then (settled s r) (labels_of_round given l x)
unfolding now_trace settled
posting-rounds v preds d x s r =
    let given : Builtins = whole v built_later preds in
    let l : Level = level_at given preds d in
    let t : Trace State = settled s r in
    let on : Point → Trace Point = λ q. labels_of_round given l x q.state in
    ap (λ u. then (first u) on) (then-same t (λ q. run_from given l no_goals (search_slots x) q []) (found_at l x) (λ q. answer-is given preds l (calls-are given preds d) (search_slots x) q))
    ∙ (ap (λ u. then u on) (first-loaded (settlement s r).load (settlement s r).left (point l (search_slots x)))
    ∙ (then-assoc t (found_at l x) on ∙ then-same t (λ q. then (found_at l x q) on) (labels_of_round given l x) (λ q. one-goes_on on (point l (search_slots x) q))))

-- ---- a search

-- what it does where it begins, by how its expression is read
sought-by : (v : View) (preds : List PredTree) (d : ℕ) (x : Search) (items : List Item) (b : Back) → flat_items (bindings b.state) x.vars ≡ flat items → (p : Operand) →
    operand_in x.objective.expression b.state ≡ p →
    let given : Builtins = whole v built_later preds in
    let l : Level = level_at given preds d in
    chosen (round_in x.options items l (operand_posted settled b.state p))
    (λ q. weighed x.objective q (worth_in x q) (λ i. bettered_in x.options items x.objective l b.state (count_better x.objective.greatest i) q i)) done
    ≡ sought_from given l x None b (round_trace given l x false (now_trace given l (begun_now x b.state p)))
unfolding then chosen first now_trace
sought-by v preds d x items b is (refuses ball) read = refl
sought-by v preds d x items b is (reads r sum) read =
    let given : Builtins = whole v built_later preds in
    let l : Level = level_at given preds d in
    let here : State → Trace State = λ q. weighed x.objective q (worth_in x q) (λ i. bettered_in x.options items x.objective l b.state (count_better x.objective.greatest i) q i) in
    let there : State → Trace State = λ q. weighed x.objective q (worth_in x q) (λ i. later_rounds given l x b.state (count_better x.objective.greatest i) q i) in
    let t : Trace State = round_in x.options items l (settled b.state r) in
    let grows : Grows (bindings b.state) (bindings r) = operand-grow x.objective.expression b.state r sum read in
    chosen-same t here there done done (λ q. ap (weighed x.objective q (worth_in x q)) (fun_ext (λ i. sym (rounds-are v preds d x items b.state is (count_better x.objective.greatest i) q i)))) refl
    ∙ (sym (chosen-renamed t (point l (search_slots x)) (λ q. there q.state) done)
    ∙ ap (λ (u : Trace Point). chosen u (λ q. there q.state) done)
    (sym (posting-rounds v preds d x b.state r ∙ settled-round v preds d x items b.state r (grown-labels x items b.state r is grows))))

pub sought-is : (v : View) (preds : List PredTree) (d : ℕ) (x : Search) (items : List Item) (b : Back) → flat_items (bindings b.state) x.vars ≡ flat items →
    let given : Builtins = whole v built_later preds in
    let l : Level = level_at given preds d in
    sought_in x.options items x.objective l b.state
    ≡ sought_from given l x None b (round_trace given l x false (now_trace given l (begun_now x b.state (operand_in x.objective.expression b.state))))
sought-is v preds d x items b is = sought-by v preds d x items b is (operand_in x.objective.expression b.state) refl
