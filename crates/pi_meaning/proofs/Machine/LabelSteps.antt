-- Lemmas on steps: a call of `solve`, and the alternatives of the variable that it picks.
use Rattle.std.proofs.Common.{◌≡◌, ℕ, zero, suc, ◌+◌, Bool, true, false, List, [], ◌∷◌, length, refl, ap, sym, subst, ◌∙◌}
use Rattle.std.specs.Prelude.{Option, Some, None, is_some, option_map, unwrap_or}
use Rattle.pi_terms.specs.Tree.{Tree, Trees, trees_of, tree_count}
use Rattle.pi_terms.specs.Places.{Places, held}
use Rattle.pi_constraints.specs.declared.constraint.Item.{Item}
use Rattle.pi_constraints.specs.State.{State, bindings}
use Rattle.pi_constraints.specs.Evaluation.{EvaluatedAll, evaluated_all}
use Rattle.pi_constraints.proofs.StateLemmas.{domain_unbound}
use Rattle.pi_core.specs.GoalTree.{GoalTree, call, GoalTrees, no_goals, goal}
use Rattle.pi_core.specs.CoreTree.{PredTree}
use Rattle.pi_core.specs.declared.core_program.NameSlot.{NameSlot}
use Rattle.pi_traces.specs.Trace.{Trace, Done, note, Tick, one, alt, then}
use Rattle.pi_traces.specs.Depth.{Below}
use Rattle.pi_traces.specs.Related.{end_by}
use Rattle.pi_traces.proofs.TraceLemmas.{then-assoc, alt-done}
use Rattle.pi_traces.proofs.BelowLemmas.{below-refl}
use Rattle.pi_traces.proofs.RelatedLemmas.{by-alt, by-then_same}
use Rattle.pi_settling.specs.Options.{Options, Objective}
use Rattle.pi_settling.specs.Asked.{Asked, labels, raises}
use Rattle.pi_settling.specs.SolveCalls.{solve_asked}
use Rattle.pi_settling.specs.Confined.{confined}
use Rattle.pi_settling.specs.Label.{labelled_by}
use Rattle.pi_settling.specs.Choices.{Pending, pending, picked, Alternative, alternatives as alternatives_of, left_by, narrowed_to}
use Rattle.pi_settling.proofs.LabelKeeps.{MayHave, all-have, picked-has}
use Rattle.pi_meaning.specs.Shared.View.{View}
use Rattle.pi_meaning.specs.Shared.Level.{Level, LevelBelow, Point, PointBelow, same_but_level, lower, ticked}
use Rattle.pi_meaning.specs.Shared.Names.{is_later_predicate, is_call}
use Rattle.pi_meaning.specs.Shared.Effects.{predicate_effect}
use Rattle.pi_meaning.specs.Shared.Calls.{unknown_name}
use Rattle.pi_meaning.specs.Shared.Settle.{settlement, settled}
use Rattle.pi_meaning.specs.Shared.Solve.{labelled_in, lower_in, sought_in, solved_for, solve_trace}
use Rattle.pi_meaning.specs.CoreMeaning.Builtins.{Builtins, BuiltinsOnlyAdd, predicate_by}
use Rattle.pi_meaning.specs.CoreMeaning.Instances.{built_later, whole}
use Rattle.pi_meaning.specs.CoreMeaning.Meaning.{Action, calling, meaning}
use Rattle.pi_meaning.specs.CoreMeaning.Rules.{level_at}
use Rattle.pi_meaning.specs.CoreMeaning.Run.{answered_with}
use Rattle.pi_meaning.proofs.Shared.AskedAgain.{asked-again, labelled-flat}
use Rattle.pi_meaning.proofs.Shared.CallLemmas.{built-later-adds, whole-adds}
use Rattle.pi_meaning.proofs.Shared.EffectNames.{effects-listed}
use Rattle.pi_meaning.proofs.Shared.LevelLemmas.{quiet-keeps-depth}
use Rattle.pi_meaning.proofs.CoreMeaning.RuleLemmas.{level-below}
use Rattle.pi_meaning.specs.Machine.Configuration.{Frame, Back, alternatives_left, Entry, choice, going, failed, config, behind, in_places}
use Rattle.pi_meaning.specs.Machine.Filled.{are_filled}
use Rattle.pi_meaning.specs.Machine.Remaining.{point, continued, run_from, alternative_tried, alternatives_trace, choice_trace, level_trace, around, now_trace, remaining_at}
use Rattle.pi_meaning.specs.Machine.Step.{silently, back_to, search_of, search_step, Rest, with_rest, NameCall, name_call, later_alternatives, alternative_now, alternatives_step, Again, again_by, label_step, labels_step, solve_step}
use Rattle.pi_meaning.specs.Machine.Shape.{IsBalanced}
use Rattle.pi_meaning.specs.Machine.Laws.{Comes}
use Rattle.pi_meaning.proofs.Machine.RuleForms.{then-same}
use Rattle.pi_meaning.proofs.Machine.RunLemmas.{CallsAre, calls-are, draining-goes_on, behind-continued, returning-continued}
use Rattle.pi_meaning.proofs.Machine.GoalSteps.{Is, one-goes_on}
use Rattle.pi_meaning.proofs.Machine.EvaluationLemmas.{arguments-again}
use Rattle.pi_meaning.proofs.Machine.HigherLemmas.{Under, continued-under, alternatives-under}
use Rattle.pi_meaning.proofs.Machine.CallSteps.{Told, tick-leads, name-ran}
use Rattle.pi_meaning.proofs.Machine.NamedRuns.{arguments-held, slot-ran}
use Rattle.pi_meaning.proofs.Machine.LabelTraces.{behind_call, LabelsOn, alternatives-are, labelled-at}
use Rattle.pi_meaning.proofs.Machine.SearchTraces.{IsLabelling, by-name, sought-is}

-- ---- what a call does that labels

labels-by-name : (v : View) (preds : List PredTree) (l : Level) (name : List ℕ) (ts : Trees) (s : State) → IsLabelling name (tree_count ts) → (o : Options) (items : List Item) →
    solve_asked name ts s ≡ Some (labels o items) → o.objective ≡ None → confined s items ≡ s → predicate_by (whole v built_later preds) l name ts s ≡ labelled_in o items l s
labels-by-name v preds l name ts s is o items asked none same =
    by-name v preds l name ts s is (Some (labels o items)) asked ∙ (ap (λ x. solved_for x o items l s) none ∙ ap (labelled_in o items l) same)

-- ---- the call once more

-- with these arguments and slots the call asks for the same, and what is after it is what is after the call that labels
record GoesAgain (given : Builtins) (all : EvaluatedAll) (k : List Frame) (a : Again) : Type 0 where
  pub arguments : (q : State) → evaluated_all (trees_of a.args) a.back.slots q ≡ record { trees = all.trees; slots = a.back.slots; state = q }
  pub onward : (l : Level) (r : State) → continued given l a.back.frames (point l a.back.slots r) ≡ continued given l k (point l all.slots r)

goes-again : (given : Builtins) (name : List ℕ) (args : List Tree) (gs : GoalTrees) (e : Places) (s q : State) (k : List Frame) (es : List Entry) →
    let all : EvaluatedAll = evaluated_all (trees_of args) e s in
    (filled : Bool) → are_filled all.slots (trees_of args) ≡ filled → GoesAgain given all (behind gs k) (again_by filled (name_call name args all) q (with_rest gs k es))
goes-again given name args gs e s q k es true is = record { arguments = λ r. arguments-again (trees_of args) e s is r; onward = λ l r. refl }
goes-again given name args gs e s q k es false is =
    let all : EvaluatedAll = evaluated_all (trees_of args) e s in
    record {
      arguments = λ r. arguments-held all.trees r;
      onward = λ l r. returning-continued given l all.slots (behind gs k) (point l (in_places all.trees) r);
    }

-- the levels below those of a depth are those of a depth
lower-depth : (given : Builtins) (preds : List PredTree) (d : ℕ) (k : Level) → lower (level_at given preds d) ≡ Some k → (n : ℕ) × (level_at given preds n ≡ k)
unfolding level_at
lower-depth given preds zero k h = absurd (never (sym (quiet-keeps-depth given preds None (length preds)) ∙ h))
  where
    never : None ≡ Some k → ⊥
    never e = cc
lower-depth given preds (suc d) k h = (d, the_same (sym (quiet-keeps-depth given preds (Some (level_at given preds d)) (suc (length preds + d))) ∙ h))
  where
    the_same : {x y : Level} → Some x ≡ Some y → x ≡ y
    the_same e = cc

lower-calls : (given : Builtins) (preds : List PredTree) (d : ℕ) (k : Level) → lower (level_at given preds d) ≡ Some k → CallsAre given preds k
lower-calls given preds d k h = let n : (n : ℕ) × (level_at given preds n ≡ k) = lower-depth given preds d k h in subst (CallsAre given preds) n.1 (calls-are given preds n.0)

-- the variable that is picked isn't bound
picked-unbound : (s : State) (items : List Item) (o : Options) (p : Pending) → picked (pending s items) o.variable ≡ Some p → held (bindings s) p.variable ≡ None
picked-unbound s items o p is = domain_unbound s p.variable p.domain (subst (MayHave s) is (picked-has s (pending s items) o.variable (all-have s items)))

-- what labels, at a level of a depth, from a state that a call left
labels-on : (v : View) (preds : List PredTree) (d : ℕ) (name : List ℕ) (all : EvaluatedAll) (k : List Frame) (o : Options) (items : List Item) (p : Pending) (a : Again) →
    let given : Builtins = whole v built_later preds in
    let l : Level = level_at given preds d in
    let s : State = confined all.state items in
    IsLabelling name (tree_count all.trees) → solve_asked name all.trees all.state ≡ Some (labels o items) → o.objective ≡ None → picked (pending s items) o.variable ≡ Some p →
    GoesAgain given all k a → a.back.state ≡ s → (x : Alternative) →
    LabelsOn given l o items (call name a.args) a.back (λ r. continued given l k (point l all.slots r)) (narrowed_to a.back.state p.variable (left_by x p.domain))
labels-on v preds d name all k o items p a is asked none pick goes from x = λ low below r q narrowed left.
    let given : Builtins = whole v built_later preds in
    let l : Level = level_at given preds d in
    let s : State = confined all.state items in
    let n : (n : ℕ) × (level_at given preds n ≡ low) = lower-depth given preds d low below in
    let on_call : Action = behind_call given l a.back in
    let back : State → Trace Point = λ y. one (point low a.back.slots y) in
    let once_more : (solve_asked name all.trees q ≡ Some (labels o items)) × (confined q items ≡ q) =
    asked-again name all.trees all.state o items p.variable p.domain x r q asked (subst (λ y. narrowed_to y p.variable (left_by x p.domain) ≡ Some r) from narrowed) (picked-unbound s items o p pick)
    (subst (λ y. (settlement y r).left ≡ Some q) from left) in
    let ran : meaning given (call name a.args) (point low a.back.slots q) ≡ then (labelled_in o items low q) back =
    subst (λ y. meaning given (call name a.args) (point y a.back.slots q) ≡ then (labelled_in o items y q) (λ z. one (point y a.back.slots z))) n.1
    (slot-ran v preds n.0 name a.args all.trees a.back.slots q (goes.arguments q)
    ∙ ap (λ t. then t (λ z. one (point (level_at given preds n.0) a.back.slots z)))
    (labels-by-name v preds (level_at given preds n.0) name all.trees q is o items once_more.0 none once_more.1)) in
    ap (λ t. then t on_call) ran
    ∙ (then-assoc (labelled_in o items low q) back on_call
    ∙ then-same (labelled_in o items low q) (λ y. then (back y) on_call) (λ y. continued given l k (point l all.slots y))
    (λ y. one-goes_on on_call (point low a.back.slots y) ∙ goes.onward l y))

-- ---- the step of a call

-- what comes after the call, from an answer
abbrev pub after_call : Builtins → Level → Places → GoalTrees → List Frame → State → Trace Point
after_call given l slots gs k r = continued given l (behind gs k) (point l slots r)

again-is : (v : View) (preds : List PredTree) (d : ℕ) (name : List ℕ) (args : List Tree) (gs : GoalTrees) (e : Places) (s : State) (k : List Frame) (es : List Entry)
    (o : Options) (items : List Item) (p : Pending) →
    let given : Builtins = whole v built_later preds in
    let l : Level = level_at given preds d in
    let all : EvaluatedAll = evaluated_all (trees_of args) e s in
    let from : State = confined all.state items in
    IsLabelling name (tree_count all.trees) → solve_asked name all.trees all.state ≡ Some (labels o items) → o.objective ≡ None → picked (pending from items) o.variable ≡ Some p →
    (filled : Bool) → are_filled all.slots (trees_of args) ≡ filled →
    let a : Again = again_by filled (name_call name args all) from (with_rest gs k es) in
    then (labelled_in o items l from) (after_call given l all.slots gs k) ≡ alternatives_trace given l (call name a.args) p (alternatives_of o.value p.domain) a.back
again-is v preds d name args gs e s k es o items p is asked none pick filled fits =
    let given : Builtins = whole v built_later preds in
    let l : Level = level_at given preds d in
    let all : EvaluatedAll = evaluated_all (trees_of args) e s in
    let from : State = confined all.state items in
    let a : Again = again_by filled (name_call name args all) from (with_rest gs k es) in
    let back : a.back.state ≡ from = state-of filled (name_call name args all) from (with_rest gs k es) in
    ap (λ t. then t (after_call given l all.slots gs k))
    (labelled-at o items l from ∙ (ap (λ x. labelled_by settled (lower_in o items l) o from x) pick
    ∙ ap (λ x. labelled_by settled (lower_in o items l) o x (Some p)) (sym back)))
    ∙ alternatives-are given preds l (lower-calls given preds d) o items (call name a.args) p a.back (after_call given l all.slots gs k)
    (labels-on v preds d name all (behind gs k) o items p a is asked none pick (goes-again given name args gs e s from k es filled fits) back)
    (alternatives_of o.value p.domain)
  where
    state-of : (filled : Bool) (c : NameCall) (q : State) (r : Rest) → (again_by filled c q r).back.state ≡ q
    state-of true c q r = refl
    state-of false c q r = refl

label-is : (v : View) (preds : List PredTree) (d : ℕ) (name : List ℕ) (args : List Tree) (gs : GoalTrees) (e : Places) (s : State) (k : List Frame) (es : List Entry) (o : Options) (items : List Item) →
    let given : Builtins = whole v built_later preds in
    let l : Level = level_at given preds d in
    let all : EvaluatedAll = evaluated_all (trees_of args) e s in
    let from : State = confined all.state items in
    IsLabelling name (tree_count all.trees) → solve_asked name all.trees all.state ≡ Some (labels o items) → o.objective ≡ None →
    (p : Option Pending) → picked (pending from items) o.variable ≡ p →
    Is given l es (then (labelled_in o items l from) (after_call given l all.slots gs k)) (label_step (name_call name args all) o.value from (with_rest gs k es) p)
unfolding around choice_trace now_trace alt then
label-is v preds d name args gs e s k es o items is asked none None pick =
    let given : Builtins = whole v built_later preds in
    let l : Level = level_at given preds d in
    let all : EvaluatedAll = evaluated_all (trees_of args) e s in
    let from : State = confined all.state items in
    ap (λ t. around given l es (then t (after_call given l all.slots gs k)) [])
    (labelled-at o items l from ∙ ap (λ x. labelled_by settled (lower_in o items l) o from x) pick)
    ∙ ap (λ t. around given l es t []) (alt-done (after_call given l all.slots gs k from) ∙ sym (behind-continued given l gs k (point l all.slots from)))
label-is v preds d name args gs e s k es o items is asked none (Some p) pick =
    let given : Builtins = whole v built_later preds in
    let l : Level = level_at given preds d in
    let all : EvaluatedAll = evaluated_all (trees_of args) e s in
    ap (λ t. around given l es t []) (again-is v preds d name args gs e s k es o items p is asked none pick (are_filled all.slots (trees_of args)) refl)

-- a search begins, whose variables are the call's
search-is : (v : View) (preds : List PredTree) (d : ℕ) (name : List ℕ) (args : List Tree) (gs : GoalTrees) (e : Places) (s : State) (k : List Frame) (es : List Entry) (o : Options) (items : List Item) →
    let given : Builtins = whole v built_later preds in
    let l : Level = level_at given preds d in
    let all : EvaluatedAll = evaluated_all (trees_of args) e s in
    solve_asked name all.trees all.state ≡ Some (labels o items) → (w : Objective) → o.objective ≡ Some w →
    Is given l es (then (sought_in o items w l all.state) (after_call given l all.slots gs k)) (search_step (search_of o w all.trees) (name_call name args all) (with_rest gs k es))
unfolding around level_trace
search-is v preds d name args gs e s k es o items asked w has =
    let given : Builtins = whole v built_later preds in
    let l : Level = level_at given preds d in
    let all : EvaluatedAll = evaluated_all (trees_of args) e s in
    ap (λ t. around given l es (then t (after_call given l all.slots gs k)) [])
    (sought-is v preds d (search_of o w all.trees) items (back_to all.slots all.state (behind gs k)) (labelled-flat name all.trees all.state o w items asked has))

pub labels-are : (v : View) (preds : List PredTree) (d : ℕ) (name : List ℕ) (args : List Tree) (gs : GoalTrees) (e : Places) (s : State) (k : List Frame) (es : List Entry) (o : Options) (items : List Item) →
    let given : Builtins = whole v built_later preds in
    let l : Level = level_at given preds d in
    let all : EvaluatedAll = evaluated_all (trees_of args) e s in
    IsLabelling name (tree_count all.trees) → solve_asked name all.trees all.state ≡ Some (labels o items) → (objective : Option Objective) → o.objective ≡ objective →
    Is given l es (then (solved_for objective o items l all.state) (after_call given l all.slots gs k)) (labels_step objective o items (name_call name args all) (with_rest gs k es))
labels-are v preds d name args gs e s k es o items is asked (Some w) has = search-is v preds d name args gs e s k es o items asked w has
labels-are v preds d name args gs e s k es o items is asked None has =
    let all : EvaluatedAll = evaluated_all (trees_of args) e s in
    label-is v preds d name args gs e s k es o items is asked has (picked (pending (confined all.state items) items) o.variable) refl

asked-is : (v : View) (preds : List PredTree) (d : ℕ) (name : List ℕ) (args : List Tree) (gs : GoalTrees) (e : Places) (s : State) (k : List Frame) (es : List Entry) →
    let given : Builtins = whole v built_later preds in
    let l : Level = level_at given preds d in
    let all : EvaluatedAll = evaluated_all (trees_of args) e s in
    IsLabelling name (tree_count all.trees) → (a : Option Asked) → solve_asked name all.trees all.state ≡ a →
    Is given l es (then (unwrap_or (option_map (solve_trace l all.state) a) (unknown_name name (tree_count all.trees))) (after_call given l all.slots gs k))
    (solve_step a (name_call name args all) (with_rest gs k es))
unfolding then now_trace
asked-is v preds d name args gs e s k es is None asked = refl
asked-is v preds d name args gs e s k es is (Some (raises ball)) asked = refl
asked-is v preds d name args gs e s k es is (Some (labels o items)) asked = labels-are v preds d name args gs e s k es o items is asked o.objective refl

pub solve-comes : (v : View) (preds : List PredTree) (names : List NameSlot) (name : List ℕ) (args : List Tree) (gs : GoalTrees) (e : Places) (s : State) (k : List Frame) (es : List Entry) →
    let all : EvaluatedAll = evaluated_all (trees_of args) e s in
    is_call name (tree_count all.trees) ≡ false → predicate_effect name all.trees all.state ≡ None → is_later_predicate name (tree_count all.trees) ≡ true →
    Comes v preds names (config (going (goal (call name args) gs) e s k) es)
    (silently (solve_step (solve_asked name all.trees all.state) (name_call name args all) (with_rest gs k es)))
unfolding remaining_at now_trace
solve-comes v preds names name args gs e s k es no_call none later = λ d.
    let given : Builtins = whole v built_later preds in
    let l : Level = level_at given preds d in
    let all : EvaluatedAll = evaluated_all (trees_of args) e s in
    let is : IsLabelling name (tree_count all.trees) = record { no_call = no_call; no_effect = sym (effects-listed name all.trees all.state) ∙ ap is_some none; later = later } in
    ap (λ t. then t (answered_with names))
    (ap (λ t. around given l es t [])
    (name-ran given preds d name args gs e s k
    ∙ ap (λ t. then t (after_call given l all.slots gs k)) (by-name v preds l name all.trees all.state is (solve_asked name all.trees all.state) refl))
    ∙ asked-is v preds d name args gs e s k es is (solve_asked name all.trees all.state) refl)

-- ---- the step of alternatives

later-alternatives-wait : (given : Builtins) (l : Level) (name : List ℕ) (args : List Tree) (p : Pending) (alts : List Alternative) (b : Back) (es : List Entry) (t : Trace Point) →
    around given l es (alt t (alternatives_trace given l (call name args) p alts b)) [] ≡ around given l (later_alternatives name args p alts b es) t []
unfolding around choice_trace alternatives_trace
later-alternatives-wait given l name args p [] b es t = ap (λ u. around given l es u []) (alt-done t)
later-alternatives-wait given l name args p (a ∷ alts) b es t = refl

-- the call at a level, with what is after it at that level, under the same with what is after it at a higher one
call-under : (given : Builtins) (adds : BuiltinsOnlyAdd given) (preds : List PredTree) (d : ℕ) (m : Level) →
    let l : Level = level_at given preds d in
    LevelBelow l m → (name : List ℕ) (args : List Tree) (b : Back) (q : State) →
    Under (run_from given l (goal (call name args) no_goals) b.slots q b.frames) (then (meaning given (call name args) (point l b.slots q)) (behind_call given m b))
unfolding meaning calling
call-under given adds preds d m h name args b q =
    let l : Level = level_at given preds d in
    let all : EvaluatedAll = evaluated_all (trees_of args) b.slots q in
    let t : Trace State = predicate_by given l name all.trees all.state in
    let back : State → Trace Point = λ r. one (point l all.slots r) in
    let here : State → Trace Point = λ r. continued given l b.frames (point l all.slots r) in
    let there : State → Trace Point = λ r. continued given m b.frames (point m all.slots r) in
    let ran : then (meaning given (call name args) (point l b.slots q)) (behind_call given m b) ≡ then t there =
    ap (λ u. then u (behind_call given m b)) (draining-goes_on given preds l (calls-are given preds d) (calling given name args) b.slots q)
    ∙ (then-assoc t back (behind_call given m b) ∙ then-same t (λ r. then (back r) (behind_call given m b)) there (λ r. one-goes_on (behind_call given m b) (point l all.slots r))) in
    subst (λ u. Under u (then (meaning given (call name args) (point l b.slots q)) (behind_call given m b))) (sym (name-ran given preds d name args no_goals b.slots q b.frames))
    (subst (Under (then t here)) (sym ran)
    (by-then_same PointBelow t t here there (below-refl t)
    (λ r. continued-under given adds l m h b.frames (point l all.slots r) (point m all.slots r) (same_but_level h all.slots r))))

alternative-leads : (given : Builtins) (adds : BuiltinsOnlyAdd given) (preds : List PredTree) (d : ℕ) (m : Level) →
    let l : Level = level_at given preds d in
    LevelBelow l m → (name : List ℕ) (args : List Tree) (b : Back) (o : Option State) →
    Under (now_trace given l (alternative_now (call name args) b o)) (alternative_tried given m (call name args) b o l)
unfolding now_trace
alternative-leads given adds preds d m h name args b None = end_by Done
alternative-leads given adds preds d m h name args b (Some r) =
    let l : Level = level_at given preds d in
    let g : GoalTree = call name args in
    by-then_same PointBelow (settled b.state r) (settled b.state r) (λ q. run_from given l (goal g no_goals) b.slots q b.frames)
    (λ q. then (meaning given g (point l b.slots q)) (behind_call given m b)) (below-refl (settled b.state r)) (λ q. call-under given adds preds d m h name args b q)

pub alternatives-come : (v : View) (preds : List PredTree) (names : List NameSlot) (name : List ℕ) (args : List Tree) (p : Pending) (a : Alternative) (alts : List Alternative) (b : Back) (es : List Entry) →
    IsBalanced 0 es → Comes v preds names (config failed (choice (alternatives_left name args p (a ∷ alts)) b ∷ es)) (alternatives_step name args p (a ∷ alts) b es)
unfolding remaining_at now_trace around choice_trace alternatives_trace alt level_at
alternatives-come v preds names name args p a alts b es balanced = λ d.
    let given : Builtins = whole v built_later preds in
    let adds : BuiltinsOnlyAdd given = whole-adds v built_later preds built-later-adds in
    let l : Level = level_at given preds d in
    let m : Level = level_at given preds (suc d) in
    let h : LevelBelow l m = level-below given adds preds d in
    let g : GoalTree = call name args in
    let o : Option State = narrowed_to b.state p.variable (left_by a p.domain) in
    let here : Trace Point = now_trace given l (alternative_now g b o) in
    let tried : Trace Point = alternative_tried given m g b o l in
    let rest : Trace Point = alternatives_trace given l g p alts b in
    let rest_there : Trace Point = alternatives_trace given m g p alts b in
    let whole_there : Trace Point = alternatives_trace given m g p (a ∷ alts) b in
    let begins : whole_there ≡ note Tick (alt tried rest_there) =
    ap (λ x. alt (ticked x (alternative_tried given m g b o)) rest_there) (quiet-keeps-depth given preds (Some l) (suc (length preds + d))) in
    subst (λ t. Below (note Tick (then t (answered_with names))) (Told given m names es whole_there)) (later-alternatives-wait given l name args p alts b es here)
    (tick-leads given adds l m h names es balanced (alt here rest) (alt tried rest_there) whole_there begins
    (by-alt PointBelow here tried rest rest_there (alternative-leads given adds preds d m h name args b o) (alternatives-under given adds l m h g p alts b)))
