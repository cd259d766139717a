-- More depth only adds to what remains: at a higher level, goals, frames and entries do the same and maybe more.
use Rattle.std.proofs.Common.{ℕ, zero, suc, ◌+◌, List, [], ◌∷◌, ◌++◌, sym, subst}
use Rattle.std.specs.Prelude.{Bool, true, false, Option, Some, None, codes, ℤ, pos, replicate, slice_set, ⊤}
use Rattle.pi_terms.specs.Tree.{Tree, Trees, int}
use Rattle.pi_terms.specs.Places.{Places, held}
use Rattle.pi_constraints.specs.State.{State, bindings, next}
use Rattle.pi_terms.specs.Copy.{copy, new_variables}
use Rattle.pi_constraints.specs.Unify.{unified}
use Rattle.pi_core.specs.GoalTree.{GoalTree, truth, call, GoalTrees}
use Rattle.pi_settling.specs.Choices.{Pending, Alternative, left_by, narrowed_to}
use Rattle.pi_core.specs.CoreTree.{ClauseTree, leaves_others}
use Rattle.pi_traces.specs.Trace.{Trace, Done, Raise, Tick, one, done, alt, then, first, Out}
use Rattle.pi_traces.specs.Control.{negated, chosen, collected, counted, caught}
use Rattle.pi_traces.specs.Depth.{Below}
use Rattle.pi_settling.specs.Rounds.{weighed}
use Rattle.pi_traces.specs.Related.{BelowBy, deeper_by, end_by, note_by}
use Rattle.pi_meaning.specs.CoreMeaning.Builtins.{Builtins, BuiltinsOnlyAdd}
use Rattle.pi_meaning.specs.Shared.Settle.{settled}
use Rattle.pi_meaning.proofs.Shared.SolveBelow.{weighed-below}
use Rattle.pi_constraints.specs.Evaluation.{Evaluated, evaluated, with_new_variables}
use Rattle.pi_constraints.specs.HeadMatch.{matched_all_in}
use Rattle.pi_meaning.specs.Shared.Raise.{raised_with}
use Rattle.pi_meaning.specs.Shared.Level.{Level, lowest, over, lower, ticked, Point, LevelBelow, PointBelow, same_but_level, calls_at}
use Rattle.pi_meaning.specs.CoreMeaning.Meaning.{Action, draining, with_slot, slot_value, copyable, with_list, meaning, meaning_of_all, meaning_of_any}
use Rattle.pi_meaning.specs.Shared.Handling.{handled_in, handling}
use Rattle.pi_meaning.specs.CoreMeaning.Facts.{facts}
use Rattle.pi_meaning.specs.CoreMeaning.Rules.{guarded, chosen_rule, rule_before, rules, value_at, rule_by, rules_by}
use Rattle.pi_meaning.specs.CoreMeaning.Run.{answered_with}
use Rattle.pi_core.specs.declared.core_program.NameSlot.{NameSlot}
use Rattle.pi_traces.proofs.BelowLemmas.{below-refl}
use Rattle.pi_traces.proofs.RelatedLemmas.{Same, same, below-by, by-below, by-same, by-one, by-alt, by-then, by-then_same, by-first, by-negated, by-chosen, by-collected, by-counted, by-caught}
use Rattle.pi_meaning.proofs.CoreMeaning.MeaningLemmas.{calls-below, at-points, all-monotone, any-monotone, meaning-below, strict-below}
use Rattle.pi_meaning.specs.Machine.Configuration.{Frame, more, return, give, Back, Called, Choice, rules_left, facts_left, branches_left, alternatives_left, Strict, once_level, not_level, if_level, guard_level, value_level, list_level, number_level, Search, Found, search_level, Entry, choice, strict, catch_level, left, Now, going, settling, failed, raising, Config, after_body, telling}
use Rattle.pi_meaning.specs.Machine.Step.{unresolved, search_slots, round_goal, rounds_after, worth_in}
use Rattle.pi_meaning.proofs.Machine.EndSteps.{unresolved-raise}
use Rattle.pi_meaning.proofs.Machine.FactSteps.{behind_fact}
use Rattle.pi_meaning.specs.Machine.Remaining.{point, valued, continued, run_from, start_of, body_of, rules_trace, facts_trace, alternative_tried, alternatives_trace, choice_trace, last_found, labels_of_round, better_posted, later_rounds, sought_from, round_trace, level_trace, catch_trace, outside, further, around, now_trace, remaining_at}

-- the same trace at a higher level, and maybe more
abbrev pub Under : Trace Point → Trace Point → Type 0
Under t u = BelowBy PointBelow t u

pub points-same : {A : Type 0} (f : Places → State → Trace A) (p q : Point) → PointBelow p q → BelowBy Same (f p.slots p.state) (f q.slots q.state)
points-same f _ _ (same_but_level h e s) = by-same (f e s)

one-under : (p q : Point) → PointBelow p q → Under (one p) (one q)
one-under p q h = by-one PointBelow p q h

-- ---- frames

drains-under : (p q : Point) → PointBelow p q → Under (draining (λ r. one r) p) (draining (λ r. one r) q)
unfolding draining
drains-under _ _ (same_but_level {l = l} {m = m} h e s) =
    by-then_same PointBelow ((calls_at l).drained s) ((calls_at m).drained s) (λ r. one (point l e r)) (λ r. one (point m e r))
    ((calls-below l m h).drained s) (λ r. one-under (point l e r) (point m e r) (same_but_level h e r))

at-block : (l m : Level) → LevelBelow l m → (e : Places) (p q : Point) → PointBelow p q → PointBelow (point l e p.state) (point m e q.state)
at-block l m h e _ _ (same_but_level a f s) = same_but_level h e s

value-under : (l m : Level) → LevelBelow l m → (t : Option Tree) (p q : Point) → PointBelow p q →
    Under (then (value_at t p) (λ a. one (valued l a))) (then (value_at t q) (λ a. one (valued m a)))
unfolding then alt
value-under l m h None p q r = end_by Done
value-under l m h (Some t) _ _ (same_but_level a e s) =
    let x : Evaluated = evaluated t e s in
    one-under (point l (Some x.tree ∷ []) x.state) (point m (Some x.tree ∷ []) x.state) (same_but_level h (Some x.tree ∷ []) x.state)

pub continued-under : (given : Builtins) (adds : BuiltinsOnlyAdd given) (l m : Level) → LevelBelow l m → (k : List Frame) (p q : Point) → PointBelow p q → Under (continued given l k p) (continued given m k q)
unfolding continued
continued-under given adds l m h [] p q r = drains-under p q r
continued-under given adds l m h (more gs ∷ k) p q r =
    by-then PointBelow PointBelow (meaning_of_all given gs p) (meaning_of_all given gs q) (continued given l k) (continued given m k)
    (at-points (meaning_of_all given gs) (all-monotone given adds gs) p q r) (continued-under given adds l m h k)
continued-under given adds l m h (return e ∷ k) p q r = continued-under given adds l m h k (point l e p.state) (point m e q.state) (at-block l m h e p q r)
continued-under given adds l m h (give t ∷ k) p q r =
    by-then PointBelow PointBelow (draining (λ x. one x) p) (draining (λ x. one x) q)
    (λ x. then (value_at t x) (λ a. one (valued l a))) (λ x. then (value_at t x) (λ a. one (valued m a)))
    (drains-under p q r) (value-under l m h t)

-- what follows a trace at a higher level
pub then-under : (given : Builtins) (adds : BuiltinsOnlyAdd given) (l m : Level) → LevelBelow l m → (k : List Frame) (t u : Trace Point) → Under t u → Under (then t (continued given l k)) (then u (continued given m k))
then-under given adds l m h k t u r = by-then PointBelow PointBelow t u (continued given l k) (continued given m k) r (continued-under given adds l m h k)

run-under : (given : Builtins) (adds : BuiltinsOnlyAdd given) (l m : Level) → LevelBelow l m → (gs : GoalTrees) (e : Places) (s : State) (k : List Frame) → Under (run_from given l gs e s k) (run_from given m gs e s k)
run-under given adds l m h gs e s k =
    then-under given adds l m h k (meaning_of_all given gs (point l e s)) (meaning_of_all given gs (point m e s))
    (at-points (meaning_of_all given gs) (all-monotone given adds gs) (point l e s) (point m e s) (same_but_level h e s))

-- ---- rules

body-under : (given : Builtins) (adds : BuiltinsOnlyAdd given) (l m : Level) → LevelBelow l m → (called : Called) (b : Back) (c : ClauseTree) (p q : Point) → PointBelow p q →
    Under (body_of given l called b c p) (body_of given m called b c q)
body-under given adds l m h called b c p q r =
    then-under given adds l m h (after_body called.function c b.frames) (meaning given c.body p) (meaning given c.body q) (meaning-below given adds c.body p q r)

-- rules of which each does the same and maybe more, with answers that are related
chosen-by : {X : Type 0} (R : X → X → Type 0) (back : Bool) (t t' rest rest' : Trace X) → BelowBy R t t' → BelowBy R rest rest' → BelowBy R (chosen_rule back t rest) (chosen_rule back t' rest')
chosen-by R true t t' rest rest' a b = by-alt R t t' rest rest' a b
chosen-by R false t t' rest rest' a b = a

guarded-under : (given : Builtins) (adds : BuiltinsOnlyAdd given) (l m : Level) → LevelBelow l m → (g : GoalTree) (e : Places) (s : State) → Under (guarded given g (point l e s)) (guarded given g (point m e s))
guarded-under given adds l m h truth e s = one-under (point l e s) (point m e s) (same_but_level h e s)
guarded-under given adds l m h g e s = strict-below given adds g (point l e s) (point m e s) (same_but_level h e s)

rule-by : {X : Type 0} (R : X → X → Type 0) (given : Builtins) (adds : BuiltinsOnlyAdd given) (l m : Level) → LevelBelow l m → (c : ClauseTree) (back : Bool) (does other : Point → Trace X) →
    ((p q : Point) → PointBelow p q → BelowBy R (does p) (other q)) → (s : State) (rest rest' : Trace X) → BelowBy R rest rest' → (e : Option Places) →
    BelowBy R (rule_before given l (rule_by c back does) s rest e) (rule_before given m (rule_by c back other) s rest' e)
rule-by R given adds l m h c back does other d s rest rest' r None = r
rule-by R given adds l m h c back does other d s rest rest' r (Some e) =
    by-chosen PointBelow R (guarded given c.guard (point l e s)) (guarded given c.guard (point m e s))
    (λ p. chosen_rule back (does p) rest) (λ p. chosen_rule back (other p) rest') rest rest'
    (guarded-under given adds l m h c.guard e s)
    (λ p q x. chosen-by R back (does p) (other q) rest rest' (d p q x) r) r

pub rules-by : {X : Type 0} (R : X → X → Type 0) (given : Builtins) (adds : BuiltinsOnlyAdd given) (l m : Level) → LevelBelow l m → (back : ClauseTree → Bool) (does other : ℕ → ClauseTree → Point → Trace X) →
    ((i : ℕ) (c : ClauseTree) (p q : Point) → PointBelow p q → BelowBy R (does i c p) (other i c q)) →
    (i : ℕ) (cs : List ClauseTree) (ts : Trees) (s : State) → BelowBy R (rules (rules_by given l back does) i cs ts s) (rules (rules_by given m back other) i cs ts s)
unfolding rules
rules-by R given adds l m h back does other d i [] ts s = end_by Done
rules-by R given adds l m h back does other d i (c ∷ cs) ts s =
    rule-by R given adds l m h c (back c) (does i c) (other i c) (d i c) s (rules (rules_by given l back does) (suc i) cs ts s) (rules (rules_by given m back other) (suc i) cs ts s)
    (rules-by R given adds l m h back does other d (suc i) cs ts s) (matched_all_in (bindings s) c.head ts (replicate c.slots None))

rules-under : (given : Builtins) (adds : BuiltinsOnlyAdd given) (l m : Level) → LevelBelow l m → (called : Called) (cs : List ClauseTree) (b : Back) → Under (rules_trace given l called cs b) (rules_trace given m called cs b)
unfolding rules_trace
rules-under given adds l m h called cs b =
    rules-by PointBelow given adds l m h (λ c. leaves_others called.function c) (λ i c p. body_of given l called b c p) (λ i c p. body_of given m called b c p)
    (λ i c p q r. body-under given adds l m h called b c p q r) 0 cs called.args b.state

-- a rule that applies, with its guard
applies-under : (given : Builtins) (adds : BuiltinsOnlyAdd given) (l m : Level) → LevelBelow l m → (called : Called) (b : Back) (c : ClauseTree) (t t' rest rest' : Trace Point) → Under t t' → Under rest rest' →
    Under (chosen t (λ p. chosen_rule (leaves_others called.function c) (body_of given l called b c p) rest) rest) (chosen t' (λ p. chosen_rule (leaves_others called.function c) (body_of given m called b c p) rest') rest')
applies-under given adds l m h called b c t t' rest rest' a r =
    by-chosen PointBelow PointBelow t t' (λ p. chosen_rule (leaves_others called.function c) (body_of given l called b c p) rest) (λ p. chosen_rule (leaves_others called.function c) (body_of given m called b c p) rest') rest rest' a
    (λ p q x. chosen-by PointBelow (leaves_others called.function c) (body_of given l called b c p) (body_of given m called b c q) rest rest' (body-under given adds l m h called b c p q x) r) r

-- what is behind a state at a higher level
pub states-under : (f g : State → Trace Point) → ((s : State) → Under (f s) (g s)) → (s r : State) → Same s r → Under (f s) (g r)
states-under f g h _ _ (same s) = h s

-- ---- labelling

at-level : (l m : Level) → LevelBelow l m → (p q : Point) → PointBelow p q → PointBelow (point l p.slots p.state) (point m q.slots q.state)
at-level l m h _ _ (same_but_level a e s) = same_but_level h e s

-- an alternative, where the call and what is after it run at higher levels
alternative-under : (given : Builtins) (adds : BuiltinsOnlyAdd given) (l m k n : Level) → LevelBelow l m → LevelBelow k n → (g : GoalTree) (b : Back) (o : Option State) →
    Under (alternative_tried given l g b o k) (alternative_tried given m g b o n)
alternative-under given adds l m k n h i g b None = end_by Done
alternative-under given adds l m k n h i g b (Some r) =
    let f : Action = λ q. continued given l b.frames (point l q.slots q.state) in
    let f' : Action = λ q. continued given m b.frames (point m q.slots q.state) in
    by-then_same PointBelow (settled b.state r) (settled b.state r) (λ s. then (meaning given g (point k b.slots s)) f) (λ s. then (meaning given g (point n b.slots s)) f') (below-refl (settled b.state r))
    (λ s. by-then PointBelow PointBelow (meaning given g (point k b.slots s)) (meaning given g (point n b.slots s)) f f'
    (meaning-below given adds g (point k b.slots s) (point n b.slots s) (same_but_level i b.slots s))
    (λ p q x. continued-under given adds l m h b.frames (point l p.slots p.state) (point m q.slots q.state) (at-level l m h p q x)))

ticked-under : (given : Builtins) (adds : BuiltinsOnlyAdd given) (l m : Level) → LevelBelow l m → (g : GoalTree) (b : Back) (o : Option State) →
    Under (ticked (lower l) (alternative_tried given l g b o)) (ticked (lower m) (alternative_tried given m g b o))
ticked-under given adds (lowest c) m h g b o = deeper_by (ticked (lower m) (alternative_tried given m g b o))
ticked-under given adds (over c k) (lowest d) h g b o = absurd h
ticked-under given adds (over c k) (over d n) h g b o = note_by Tick (alternative-under given adds (over c k) (over d n) k n h h.1 g b o)

pub alternatives-under : (given : Builtins) (adds : BuiltinsOnlyAdd given) (l m : Level) → LevelBelow l m → (g : GoalTree) (p : Pending) (alts : List Alternative) (b : Back) →
    Under (alternatives_trace given l g p alts b) (alternatives_trace given m g p alts b)
unfolding alternatives_trace
alternatives-under given adds l m h g p [] b = end_by Done
alternatives-under given adds l m h g p (a ∷ alts) b =
    let o : Option State = narrowed_to b.state p.variable (left_by a p.domain) in
    by-alt PointBelow (ticked (lower l) (alternative_tried given l g b o)) (ticked (lower m) (alternative_tried given m g b o)) (alternatives_trace given l g p alts b) (alternatives_trace given m g p alts b)
    (ticked-under given adds l m h g b o) (alternatives-under given adds l m h g p alts b)

-- ---- entries

choice-under : (given : Builtins) (adds : BuiltinsOnlyAdd given) (l m : Level) → LevelBelow l m → (c : Choice) (b : Back) → Under (choice_trace given l c b) (choice_trace given m c b)
unfolding choice_trace facts_trace
choice-under given adds l m h (rules_left called cs) b = rules-under given adds l m h called cs b
choice-under given adds l m h (facts_left ts cs) b =
    by-then Same PointBelow (facts cs ts b.state) (facts cs ts b.state) (behind_fact given l b) (behind_fact given m b) (by-same (facts cs ts b.state))
    (states-under (behind_fact given l b) (behind_fact given m b) (λ r. continued-under given adds l m h b.frames (point l b.slots r) (point m b.slots r) (same_but_level h b.slots r)))
choice-under given adds l m h (branches_left gs) b =
    then-under given adds l m h b.frames (meaning_of_any given gs (start_of l b)) (meaning_of_any given gs (start_of m b))
    (at-points (meaning_of_any given gs) (any-monotone given adds gs) (start_of l b) (start_of m b) (same_but_level h b.slots b.state))
choice-under given adds l m h (alternatives_left name args p alts) b = alternatives-under given adds l m h (call name args) p alts b

value-taken : (l m : Level) → LevelBelow l m → (e : Places) (into : ℕ) (p q : Point) → PointBelow p q →
    Under (one (point l (slice_set e into (held p.slots 0)) p.state)) (one (point m (slice_set e into (held q.slots 0)) q.state))
value-taken l m h e into _ _ (same_but_level a f s) =
    one-under (point l (slice_set e into (held f 0)) s) (point m (slice_set e into (held f 0)) s) (same_but_level h (slice_set e into (held f 0)) s)

listed-under : (l m : Level) → LevelBelow l m → (b : Back) (into : ℕ) (ts : List Tree) → Under (one (with_list (start_of l b) into ts)) (one (with_list (start_of m b) into ts))
listed-under l m h b into ts =
    let p : Point = with_list (start_of l b) into ts in one-under p (with_list (start_of m b) into ts) (same_but_level h p.slots p.state)

numbered-under : (l m : Level) → LevelBelow l m → (b : Back) (into n : ℕ) → Under (one (with_slot (start_of l b) into (int (pos n)))) (one (with_slot (start_of m b) into (int (pos n))))
numbered-under l m h b into n =
    let p : Point = with_slot (start_of l b) into (int (pos n)) in one-under p (with_slot (start_of m b) into (int (pos n))) (same_but_level h p.slots p.state)

raised-under : (called : Tree) (s : State) → Under (raised_with (codes "unresolved_function_call") called s) (raised_with (codes "unresolved_function_call") called s)
raised-under called s = subst (λ t. Under t t) (sym (unresolved-raise Point called s)) (end_by (Raise (unresolved called s)))

-- what a round labels
labelled-under : (given : Builtins) (adds : BuiltinsOnlyAdd given) (l m : Level) → LevelBelow l m → (x : Search) (s : State) → Under (labels_of_round given l x s) (labels_of_round given m x s)
labelled-under given adds l m h x s = meaning-below given adds round_goal (point l (search_slots x) s) (point m (search_slots x) s) (same_but_level h (search_slots x) s)

-- what is made of a round's answer, by what follows its value
weighed-under : (x : Search) (f g : State → ℤ → Trace State) → ((s : State) (i : ℤ) → Below (f s i) (g s i)) → (p q : Point) → PointBelow p q →
    BelowBy Same (weighed x.objective p.state (worth_in x p.state) (f p.state)) (weighed x.objective q.state (worth_in x q.state) (g q.state))
weighed-under x f g below _ _ (same_but_level a e s) =
    by-below (weighed x.objective s (worth_in x s) (f s)) (weighed x.objective s (worth_in x s) (g s)) (weighed-below x.objective s (worth_in x s) (f s) (g s) (below s))

later-under : (given : Builtins) (adds : BuiltinsOnlyAdd given) (l m : Level) → LevelBelow l m → (x : Search) (s : State) (n : ℕ) (r : State) (i : ℤ) →
    Below (later_rounds given l x s n r i) (later_rounds given m x s n r i)
unfolding later_rounds
later-under given adds l m h x s zero r i = below-refl (one r)
later-under given adds l m h x s (suc n) r i =
    let posted : Trace State = better_posted x s i in
    let low : State → ℤ → Trace State = later_rounds given l x s n in
    let high : State → ℤ → Trace State = later_rounds given m x s n in
    let here : Point → Trace State = λ q. weighed x.objective q.state (worth_in x q.state) (low q.state) in
    let there : Point → Trace State = λ q. weighed x.objective q.state (worth_in x q.state) (high q.state) in
    let t : Trace Point = then posted (labels_of_round given l x) in
    let u : Trace Point = then posted (labels_of_round given m x) in
    below-by (chosen t here (one r)) (chosen u there (one r))
    (by-chosen PointBelow Same t u here there (one r) (one r)
    (by-then_same PointBelow posted posted (labels_of_round given l x) (labels_of_round given m x) (below-refl posted) (labelled-under given adds l m h x))
    (weighed-under x low high (λ q j. later-under given adds l m h x s n q j)) (by-same (one r)))

round-under : (given : Builtins) (adds : BuiltinsOnlyAdd given) (l m : Level) → LevelBelow l m → (x : Search) (labelled : Bool) (t t' : Trace Point) → Under t t' →
    Under (round_trace given l x labelled t) (round_trace given m x labelled t')
round-under given adds l m h x true t t' a = a
round-under given adds l m h x false t t' a =
    let f : Action = λ q. labels_of_round given l x q.state in
    let g : Action = λ q. labels_of_round given m x q.state in
    by-then PointBelow PointBelow (first t) (first t') f g (by-first PointBelow t t' a)
    (λ p q r. meaning-below given adds round_goal (point l (search_slots x) p.state) (point m (search_slots x) q.state) (at-block l m h (search_slots x) p q r))

sought-under : (given : Builtins) (adds : BuiltinsOnlyAdd given) (l m : Level) → LevelBelow l m → (x : Search) (f : Option Found) (b : Back) (t t' : Trace Point) → Under t t' →
    BelowBy Same (sought_from given l x f b t) (sought_from given m x f b t')
sought-under given adds l m h x f b t t' a =
    let low : State → ℤ → Trace State = λ q i. later_rounds given l x b.state (rounds_after x.objective f i) q i in
    let high : State → ℤ → Trace State = λ q i. later_rounds given m x b.state (rounds_after x.objective f i) q i in
    by-chosen PointBelow Same t t' (λ q. weighed x.objective q.state (worth_in x q.state) (low q.state)) (λ q. weighed x.objective q.state (worth_in x q.state) (high q.state)) (last_found f) (last_found f) a
    (weighed-under x low high (λ q i. later-under given adds l m h x b.state (rounds_after x.objective f i) q i)) (by-same (last_found f))

level-under : (given : Builtins) (adds : BuiltinsOnlyAdd given) (l m : Level) → LevelBelow l m → (level : Strict) (b : Back) (t t' : Trace Point) → Under t t' →
    Under (level_trace given l level b t) (level_trace given m level b t')
unfolding level_trace
level-under given adds l m h once_level b t t' a = then-under given adds l m h b.frames (first t) (first t') (by-first PointBelow t t' a)
level-under given adds l m h not_level b t t' a =
    then-under given adds l m h b.frames (negated t (start_of l b)) (negated t' (start_of m b))
    (by-negated PointBelow PointBelow t t' (start_of l b) (start_of m b) a (same_but_level h b.slots b.state))
level-under given adds l m h (if_level g other) b t t' a =
    then-under given adds l m h b.frames (chosen t (meaning given g) (meaning given other (start_of l b))) (chosen t' (meaning given g) (meaning given other (start_of m b)))
    (by-chosen PointBelow PointBelow t t' (meaning given g) (meaning given g) (meaning given other (start_of l b)) (meaning given other (start_of m b)) a
    (λ p q r. meaning-below given adds g p q r) (meaning-below given adds other (start_of l b) (start_of m b) (same_but_level h b.slots b.state)))
level-under given adds l m h (guard_level called c cs) b t t' a =
    applies-under given adds l m h called b c t t' (rules_trace given l called cs b) (rules_trace given m called cs b) a (rules-under given adds l m h called cs b)
level-under given adds l m h (value_level called into) b t t' a =
    let raise : Trace Point = raised_with (codes "unresolved_function_call") called b.state in
    let f : Action = λ q. one (point l (slice_set b.slots into (held q.slots 0)) q.state) in
    let g : Action = λ q. one (point m (slice_set b.slots into (held q.slots 0)) q.state) in
    then-under given adds l m h b.frames (chosen t f raise) (chosen t' g raise)
    (by-chosen PointBelow PointBelow t t' f g raise raise a (value-taken l m h b.slots into) (raised-under called b.state))
level-under given adds l m h (list_level k into got) b t t' a =
    let value : Point → Trace Tree = λ q. copyable (slot_value k q.slots q.state) in
    let f : List Tree → Trace Point = λ ts. one (with_list (start_of l b) into (got ++ ts)) in
    let g : List Tree → Trace Point = λ ts. one (with_list (start_of m b) into (got ++ ts)) in
    then-under given adds l m h b.frames (collected (then t value) (λ x. x) f) (collected (then t' value) (λ x. x) g)
    (by-collected PointBelow (then t value) (then t' value) f g
    (by-then PointBelow Same t t' value value a (points-same (λ e s. copyable (slot_value k e s))))
    (λ ts. listed-under l m h b into (got ++ ts)))
level-under given adds l m h (number_level into n) b t t' a =
    let f : ℕ → Trace Point = λ k. one (with_slot (start_of l b) into (int (pos (n + k)))) in
    let g : ℕ → Trace Point = λ k. one (with_slot (start_of m b) into (int (pos (n + k)))) in
    then-under given adds l m h b.frames (counted t f) (counted t' g)
    (by-counted PointBelow PointBelow t t' f g a (λ k. numbered-under l m h b into (n + k)))
level-under given adds l m h (search_level x labelled f) b t t' a =
    let u : Trace Point = round_trace given l x labelled t in
    let u' : Trace Point = round_trace given m x labelled t' in
    let k : State → Trace Point = λ r. continued given l b.frames (point l b.slots r) in
    let k' : State → Trace Point = λ r. continued given m b.frames (point m b.slots r) in
    by-then Same PointBelow (sought_from given l x f b u) (sought_from given m x f b u') k k' (sought-under given adds l m h x f b u u' (round-under given adds l m h x labelled t t' a))
    (states-under k k' (λ r. continued-under given adds l m h b.frames (point l b.slots r) (point m b.slots r) (same_but_level h b.slots r)))

handled-under : (given : Builtins) (adds : BuiltinsOnlyAdd given) (l m : Level) → LevelBelow l m → (handler : GoalTree) (b : Back) (raised : Tree) (o : Option State) →
    Under (handled_in b.state raised (λ r. meaning given handler (point l b.slots r)) o) (handled_in b.state raised (λ r. meaning given handler (point m b.slots r)) o)
handled-under given adds l m h handler b raised None = end_by (Raise raised)
handled-under given adds l m h handler b raised (Some s) =
    by-then_same PointBelow (settled b.state s) (settled b.state s) (λ r. meaning given handler (point l b.slots r)) (λ r. meaning given handler (point m b.slots r))
    (below-refl (settled b.state s)) (λ r. meaning-below given adds handler (point l b.slots r) (point m b.slots r) (same_but_level h b.slots r))

catch-under : (given : Builtins) (adds : BuiltinsOnlyAdd given) (l m : Level) → LevelBelow l m → (ball : Tree) (handler : GoalTree) (b : Back) (t t' : Trace Point) → Under t t' →
    Under (catch_trace given l ball handler b t) (catch_trace given m ball handler b t')
unfolding catch_trace
catch-under given adds l m h ball handler b t t' a =
    let f : Tree → Trace Point = handling b.state ball (λ r. meaning given handler (point l b.slots r)) in
    let g : Tree → Trace Point = handling b.state ball (λ r. meaning given handler (point m b.slots r)) in
    then-under given adds l m h b.frames (caught t f) (caught t' g)
    (by-caught PointBelow t t' f g a
    (λ raised. handled-under given adds l m h handler b raised (unified (with_new_variables (new_variables raised) b.state) ball (copy (next b.state) raised))))

-- ---- all

abbrev AllUnder : List (Trace Point) → List (Trace Point) → Type 0
AllUnder [] [] = ⊤
AllUnder [] (u ∷ us) = ⊥
AllUnder (t ∷ ts) [] = ⊥
AllUnder (t ∷ ts) (u ∷ us) = Under t u × AllUnder ts us

outside-under : (ts us : List (Trace Point)) → AllUnder ts us → Under (outside ts) (outside us)
outside-under [] [] h = end_by Done
outside-under [] (u ∷ us) h = absurd h
outside-under (t ∷ ts) [] h = absurd h
outside-under (t ∷ ts) (u ∷ us) h = h.0

further-under : (ts us : List (Trace Point)) → AllUnder ts us → AllUnder (further ts) (further us)
further-under [] [] h = tt
further-under [] (u ∷ us) h = absurd h
further-under (t ∷ ts) [] h = absurd h
further-under (t ∷ ts) (u ∷ us) h = h.1

around-under : (given : Builtins) (adds : BuiltinsOnlyAdd given) (l m : Level) → LevelBelow l m → (es : List Entry) (t t' : Trace Point) → Under t t' → (ts us : List (Trace Point)) → AllUnder ts us →
    Under (around given l es t ts) (around given m es t' us)
unfolding around
around-under given adds l m h [] t t' a ts us b = a
around-under given adds l m h (choice c k ∷ es) t t' a ts us b =
    around-under given adds l m h es (alt t (choice_trace given l c k)) (alt t' (choice_trace given m c k))
    (by-alt PointBelow t t' (choice_trace given l c k) (choice_trace given m c k) a (choice-under given adds l m h c k)) ts us b
around-under given adds l m h (strict level k ∷ es) t t' a ts us b =
    around-under given adds l m h es (level_trace given l level k t) (level_trace given m level k t') (level-under given adds l m h level k t t' a) ts us b
around-under given adds l m h (catch_level ball handler k ∷ es) t t' a ts us b =
    let x : Trace Point = catch_trace given l ball handler k t in
    let y : Trace Point = catch_trace given m ball handler k t' in
    around-under given adds l m h es (alt (outside ts) x) (alt (outside us) y)
    (by-alt PointBelow (outside ts) (outside us) x y (outside-under ts us b) (catch-under given adds l m h ball handler k t t' a)) (further ts) (further us) (further-under ts us b)
around-under given adds l m h (left ∷ es) t t' a ts us b = around-under given adds l m h es done done (end_by Done) (t ∷ ts) (t' ∷ us) (a, b)

-- one stack around two traces
pub stack-under : (given : Builtins) (adds : BuiltinsOnlyAdd given) (l m : Level) → LevelBelow l m → (es : List Entry) (t t' : Trace Point) → Under t t' → Under (around given l es t []) (around given m es t' [])
stack-under given adds l m h es t t' a = around-under given adds l m h es t t' a [] [] tt

-- what answers tell
answer-same : (names : List NameSlot) (p q : Point) → PointBelow p q → BelowBy Same (answered_with names p) (answered_with names q)
answer-same names _ _ (same_but_level {l = l} h e s) = by-same (answered_with names (point l e s))

pub told-below : (names : List NameSlot) (t u : Trace Point) → Under t u → Below (then t (answered_with names)) (then u (answered_with names))
told-below names t u h =
    below-by (then t (answered_with names)) (then u (answered_with names))
    (by-then PointBelow Same t u (answered_with names) (answered_with names) h (answer-same names))

now-under : (given : Builtins) (adds : BuiltinsOnlyAdd given) (l m : Level) → LevelBelow l m → (now : Now) → Under (now_trace given l now) (now_trace given m now)
unfolding now_trace
now-under given adds l m h (going gs e s k) = run-under given adds l m h gs e s k
now-under given adds l m h (settling before s gs e k) =
    by-then_same PointBelow (settled before s) (settled before s) (λ r. run_from given l gs e r k) (λ r. run_from given m gs e r k) (below-refl (settled before s)) (λ r. run-under given adds l m h gs e r k)
now-under given adds l m h (telling text gs e s k) = note_by (Out text) (run-under given adds l m h gs e s k)
now-under given adds l m h failed = end_by Done
now-under given adds l m h (raising ball) = end_by (Raise ball)

-- what remains at a higher level is the same and maybe more
pub remaining-below : (given : Builtins) (adds : BuiltinsOnlyAdd given) (l m : Level) → LevelBelow l m → (names : List NameSlot) (c : Config) → Below (remaining_at given l names c) (remaining_at given m names c)
unfolding remaining_at
remaining-below given adds l m h names c =
    told-below names (around given l c.stack (now_trace given l c.now) []) (around given m c.stack (now_trace given m c.now) [])
    (stack-under given adds l m h c.stack (now_trace given l c.now) (now_trace given m c.now) (now-under given adds l m h c.now))
