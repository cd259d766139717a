-- The laws of the paths of labelling and draining.
use Rattle.std.specs.Prelude.{◌≡◌, ℕ, zero, suc, List, [], ◌∷◌, Option, Some, None, option_map, ℤ, ◌+◌, codes, refl}
use Rattle.std.proofs.Common.{◌∙◌, ap, subst, arith}
use Rattle.pi_constraints.specs.State.{State, Agent, with_waiting, with_ended}
use Rattle.pi_constraints.specs.declared.constraint.Item.{Item}
use Rattle.pi_constraints.specs.declared.event.Activation.{Activation}
use Rattle.pi_traces.specs.Trace.{Trace, end, note, ans, Tick, Raise, Deep, Done, done, one, alt, then}
use Rattle.pi_traces.specs.Control.{chosen}
use Rattle.pi_traces.proofs.AnswerLemmas.{EachAnswer}
use Rattle.pi_effects.specs.Exception.{type_error}
use Rattle.pi_settling.specs.Options.{Options, Objective}
use Rattle.pi_settling.specs.Confined.{confined}
use Rattle.pi_settling.specs.Choices.{Pending, pending, picked, Alternative, alternatives as alternatives_of, left_by, narrowed_to}
use Rattle.pi_settling.specs.Label as plain_label
use Rattle.pi_settling.specs.Label.{Settling}
use Rattle.pi_settling.specs.Fire as plain_fire
use Rattle.pi_settling.specs.Fire.{event_value}
use Rattle.pi_settling.specs.Drain as plain_drain
use Rattle.pi_settling.specs.Drain.{living}
use Rattle.pi_settling.specs.Reading.{Solving}
use Rattle.pi_settling.specs.Rounds.{begins, betters, worth, round, weighed, bettered, sought}
use Rattle.pi_resume_spec.specs.Ways.{plain, choice_from}
use Rattle.pi_resume_spec.specs.Resumed.{Search, simple, sequence, ways_of, At, at_first, past_note, past_answer}
use Rattle.pi_resume_spec.specs.Searches.{without_paths, only}
use Rattle.pi_resume_spec.specs.Label as label
use Rattle.pi_resume_spec.specs.Label.{tried, one_tried, tries, labelled, labelled_at}
use Rattle.pi_resume_spec.specs.Drain as drain
use Rattle.pi_resume_spec.specs.Drain.{RuleRuns, plain_rules, decided, fired, woken, drained_from}
use Rattle.pi_resume_spec.specs.LanguageLaws.{OneAtMost, IsGuided}
use Rattle.pi_resume_spec.specs.StageLaws.{SettlesOnce, LabellingAddsNothing, LabellingIsGuided, SolvingAddsNothing, SolvingIsGuided, DrainingAddsNothing, IsGuidedLower, DrainingIsGuided}
use Rattle.pi_resume_spec.proofs.PlainLemmas.{plain_of_choice}
use Rattle.pi_resume_spec.proofs.PlainGoals.{plain-simple, plain-sequence, plain-chosen}
use Rattle.pi_resume_spec.proofs.GuidedLemmas.{Guided, one-one, one-end, one-chosen, simple-guided, guided-end, guided-sequence, AllGuided, guided-choice, guided-ticked, guided-chosen}
use Rattle.pi_resume_spec.proofs.GuidedGoals.{Any, any-guided}

-- ---- labelling

tried-same : (settle : Settling) (l : label.Lower) (s : State) (o : Option State) → without_paths (tried settle l s o) ≡ plain_label.tried settle (label.plain_lower l) s o
unfolding then
tried-same settle l s None = refl
tried-same settle l s (Some r) =
    plain-sequence (sequence (simple (settle s r)) l.drains) l.labels
    ∙ (ap (λ t. then t (λ x. without_paths (l.labels x))) (plain-sequence (simple (settle s r)) l.drains)
    ∙ ap (λ t. then (then t (λ x. without_paths (l.drains x))) (λ x. without_paths (l.labels x))) (plain-simple (settle s r)))

one-same : (settle : Settling) (below : Option label.Lower) (s : State) (o : Option State) →
    without_paths (one_tried settle below s o) ≡ plain_label.one_tried settle (option_map label.plain_lower below) s o
unfolding then
one-same settle None s o = refl
one-same settle (Some l) s o = ap (note Tick) (tried-same settle l s o)

tries-same : (settle : Settling) (below : Option label.Lower) (s : State) (p : Pending) (alts : List Alternative) (k : ℕ) →
    plain (choice_from k (ways_of (tries settle below s p alts))) ≡ plain_label.all_tried settle (option_map label.plain_lower below) s p alts
unfolding choice_from plain_label.all_tried then
tries-same settle below s p [] k = refl
tries-same settle below s p (a ∷ alts) k =
    let o = narrowed_to s p.variable (left_by a p.domain) in
    plain_of_choice k (one_tried settle below s o).ways (ways_of (tries settle below s p alts))
    ∙ (ap (λ t. alt t (plain (choice_from (suc k) (ways_of (tries settle below s p alts))))) (one-same settle below s o)
    ∙ ap (λ t. alt (plain_label.one_tried settle (option_map label.plain_lower below) s o) t) (tries-same settle below s p alts (suc k)))

by-same : (settle : Settling) (below : Option label.Lower) (o : Options) (s : State) (p : Option Pending) →
    without_paths (label.labelled_by settle below o s p) ≡ plain_label.labelled_by settle (option_map label.plain_lower below) o s p
by-same settle below o s None = plain-simple (one s)
by-same settle below o s (Some p) = tries-same settle below s p (alternatives_of o.value p.domain) 1

pub labelled-same : (settle : Settling) (below : Option label.Lower) (o : Options) (items : List Item) (s : State) →
    without_paths (labelled settle below o items s) ≡ plain_label.labelled settle (option_map label.plain_lower below) o items s
labelled-same settle below o items s = by-same settle below o s (picked (pending s items) o.variable)

at-same : (settle : Settling) (drains : ℕ → State → Search State) (o : Options) (items : List Item) (d : ℕ) →
    (λ s. without_paths (labelled_at settle drains o items d s)) ≡ plain_label.labelled_at settle (λ n r. without_paths (drains n r)) o items d
unfolding labelled_at plain_label.labelled_at
at-same settle drains o items zero = λ i s. labelled-same settle None o items s i
at-same settle drains o items (suc d) =
    (λ i s. labelled-same settle (Some (record { drains = drains d; labels = labelled_at settle drains o items d })) o items s i)
    ∙ ap {B = State → Trace State} (λ f. plain_label.labelled settle (Some (record { drains = λ r. without_paths (drains d r); labels = f })) o items) (at-same settle drains o items d)

pub labelling-adds-nothing : LabellingAddsNothing
labelling-adds-nothing settle drains o items d s = ap {B = Trace State} (λ f. f (confined s items)) (at-same settle drains o items d)

tried-guided : (settle : Settling) → SettlesOnce settle → (l : label.Lower) → ((s : State) → IsGuided (l.drains s)) → ((s : State) → IsGuided (l.labels s)) → (s : State) (o : Option State) → Guided Any (tried settle l s o)
tried-guided settle once l drains labels s None = guided-end Any Done
tried-guided settle once l drains labels s (Some r) =
    guided-sequence Any Any (sequence (simple (settle s r)) l.drains) l.labels
    (guided-sequence Any Any (simple (settle s r)) l.drains (any-guided (simple (settle s r)) (simple-guided (settle s r) (once s r))) (λ x u. any-guided (l.drains x) (drains x)))
    (λ x u. any-guided (l.labels x) (labels x))

abbrev pub LowerGuided : Option label.Lower → Type 0
LowerGuided None = Unit {0}
LowerGuided (Some l) = ((s : State) → IsGuided (l.drains s)) × ((s : State) → IsGuided (l.labels s))

one-guided : (settle : Settling) → SettlesOnce settle → (below : Option label.Lower) → LowerGuided below → (s : State) (o : Option State) → Guided Any (one_tried settle below s o)
one-guided settle once None h s o = guided-end Any Deep
one-guided settle once (Some l) h s o = guided-ticked Any (tried settle l s o) (tried-guided settle once l h.0 h.1 s o)

tries-guided : (settle : Settling) → SettlesOnce settle → (below : Option label.Lower) → LowerGuided below → (s : State) (p : Pending) (alts : List Alternative) → AllGuided Any (tries settle below s p alts)
unfolding AllGuided
tries-guided settle once below h s p [] = tt
tries-guided settle once below h s p (a ∷ alts) = (one-guided settle once below h s (narrowed_to s p.variable (left_by a p.domain)), tries-guided settle once below h s p alts)

pub by-guided : (settle : Settling) → SettlesOnce settle → (below : Option label.Lower) → LowerGuided below → (o : Options) (s : State) (p : Option Pending) → IsGuided (label.labelled_by settle below o s p)
by-guided settle once below h o s None = simple-guided (one s) (one-one s)
by-guided settle once below h o s (Some p) = (guided-choice Any (tries settle below s p (alternatives_of o.value p.domain)) (tries-guided settle once below h s p (alternatives_of o.value p.domain))).guided

at-guided : (settle : Settling) (drains : ℕ → State → Search State) → SettlesOnce settle → ((n : ℕ) (s : State) → IsGuided (drains n s)) → (o : Options) (items : List Item) (d : ℕ) (s : State) →
    IsGuided (labelled_at settle drains o items d s)
unfolding labelled_at
at-guided settle drains once all o items zero s = by-guided settle once None tt o s (picked (pending s items) o.variable)
at-guided settle drains once all o items (suc d) s =
    by-guided settle once (Some (record { drains = drains d; labels = labelled_at settle drains o items d })) (all d, at-guided settle drains once all o items d) o s (picked (pending s items) o.variable)

pub labelling-is-guided : LabellingIsGuided
labelling-is-guided settle drains once all o items d s = at-guided settle drains once all o items d (confined s items)

-- ---- `solve`

pub solving-adds-nothing : SolvingAddsNothing
solving-adds-nothing p drains same None d s =
    labelling-adds-nothing p.settle drains p.chosen_options p.items d s
    ∙ ap {B = Trace State} (λ f. plain_label.labelling p.settle f p.chosen_options p.items d s) (λ i n r. same n r i)
solving-adds-nothing p drains same (Some o) d s = plain-simple (sought p o d s)

pub one-weighed : (o : Objective) (r : State) (v : Option ℤ) (next : ℤ → Trace State) → ((i : ℤ) → OneAtMost (next i)) → OneAtMost (weighed o r v next)
one-weighed o r None next all = one-end State (Raise (type_error (codes "integer") o.expression r))
one-weighed o r (Some i) next all = all i

one-bettered : (p : Solving) (o : Objective) (d : ℕ) (s r : State) (v : ℤ) → OneAtMost (bettered p o d s r v)
unfolding bettered
one-bettered p o zero s r v = one-end State Deep
one-bettered p o (suc d) s r v =
    one-chosen (round p d (betters p o v s)) (λ q. weighed o q (worth p o q) (bettered p o d s q)) (one r) (λ q. one-weighed o q (worth p o q) (bettered p o d s q) (one-bettered p o d s q)) (one-one r)

one-sought : (p : Solving) (o : Objective) (d : ℕ) (s : State) → OneAtMost (sought p o d s)
one-sought p o d s =
    one-chosen (round p d (begins p o s)) (λ q. weighed o q (worth p o q) (bettered p o d s q)) done (λ q. one-weighed o q (worth p o q) (bettered p o d s q) (one-bettered p o d s q)) (one-end State Done)

pub solving-is-guided : SolvingIsGuided
solving-is-guided p drains once all None d s = labelling-is-guided p.settle drains once all p.chosen_options p.items d s
solving-is-guided p drains once all (Some o) d s = simple-guided (sought p o d s) (one-sought p o d s)

-- ---- draining

decided-same : {X : Type 0} (applies : ℕ → Trace X) (i before : ℕ) (own : X → Search State) (other : Search State) →
    without_paths (decided applies i before own other) ≡ plain_fire.decided applies i before (λ x. without_paths (own x)) (without_paths other)
unfolding decided plain_fire.decided
decided-same applies i zero own other = plain-chosen (applies i) own other
decided-same applies i (suc before) own other =
    plain-chosen (applies i) (λ x. other) (decided applies (suc i) before own other)
    ∙ ap (λ t. chosen (applies i) (λ x. without_paths other) t) (decided-same applies (suc i) before own other)

fired-same : {X : Type 0} (r : RuleRuns X) (s : State) (a : Activation) (agent : Agent) → without_paths (fired r s a agent) ≡ plain_fire.fired (plain_rules r) s a agent
unfolding fired plain_fire.fired
fired-same r s a agent =
    decided-same (λ i. r.applies i agent.call s) 0 agent.rule (r.body agent.rule agent.call (event_value agent a)) (r.anew agent.call (with_ended s a.agent))

woken-same : {X : Type 0} (below : Option (drain.Lower X)) (s : State) (a : Activation) (o : Option Agent) (later : Search State) (rest : Trace State) → without_paths later ≡ rest →
    without_paths (woken below s a o later) ≡ plain_drain.woken (option_map drain.plain_lower below) s a o rest
unfolding then
woken-same below s a None later rest is = is
woken-same None s a (Some agent) later rest is = refl
woken-same (Some l) s a (Some agent) later rest is =
    ap (note Tick)
    (plain-sequence (fired l.rules s a agent) l.drains ∙ ap (λ t. then t (λ x. without_paths (l.drains x))) (fired-same l.rules s a agent))

drained-same : {X : Type 0} (below : Option (drain.Lower X)) (s : State) (as_ : List Activation) → without_paths (drained_from below s as_) ≡ plain_drain.drained_from (option_map drain.plain_lower below) s as_
unfolding drained_from plain_drain.drained_from
drained-same below s [] = plain-simple (one (with_waiting s []))
drained-same below s (a ∷ rest) =
    woken-same below (with_waiting s rest) a (living s a.agent) (drained_from below s rest) (plain_drain.drained_from (option_map drain.plain_lower below) s rest) (drained-same below s rest)

pub draining-adds-nothing : {X : Type 0} → DrainingAddsNothing X
draining-adds-nothing below s = drained-same below s s.waiting

each-any : {A : Type 0} (t : Trace A) → EachAnswer (λ x. Unit {0}) t
unfolding EachAnswer
each-any (end e) = tt
each-any (note n t) = each-any t
each-any (ans x t) = (tt, each-any t)

-- what holds of each answer, one by one
each-from : {A : Type 0} (P : A → Type 0) (t : Trace A) → ((x : A) (rest : Trace A) → At t x rest → P x) → EachAnswer P t
unfolding EachAnswer
each-from P (end e) all = tt
each-from P (note n t) all = each-from P t (λ x rest a. all x rest (past_note n a))
each-from P (ans y t) all = (all y t (at_first y t), each-from P t (λ x rest a. all x rest (past_answer y a)))

decided-guided : {X : Type 0} (applies : ℕ → Trace X) (i before n : ℕ) (own : X → Search State) (other : Search State) → n ≡ i + before → EachAnswer (λ x. IsGuided (own x)) (applies n) → IsGuided other →
    Guided Any (decided applies i before own other)
unfolding decided
decided-guided applies i zero n own other is a b =
    let here : n ≡ i = omega (arith, is) in
    guided-chosen (λ x. IsGuided (own x)) Any (applies i) own other (subst (λ (m : ℕ). EachAnswer (λ x. IsGuided (own x)) (applies m)) here a) (λ x g. any-guided (own x) g) (any-guided other b)
decided-guided applies i (suc before) n own other is a b =
    guided-chosen (λ x. Unit {0}) Any (applies i) (λ x. other) (decided applies (suc i) before own other) (each-any (applies i)) (λ x u. any-guided other b)
    (decided-guided applies (suc i) before n own other (omega (arith, is)) a b)

woken-guided : {X : Type 0} (l : drain.Lower X) → IsGuidedLower l → (s : State) (a : Activation) (o : Option Agent) (later : Search State) → Guided Any later → Guided Any (woken (Some l) s a o later)
unfolding fired
woken-guided l h s a None later g = g
woken-guided l h s a (Some agent) later g =
    let own = l.rules.body agent.rule agent.call (event_value agent a) in
    guided-ticked Any (sequence (fired l.rules s a agent) l.drains)
    (guided-sequence Any Any (fired l.rules s a agent) l.drains
    (decided-guided (λ i. l.rules.applies i agent.call s) 0 agent.rule agent.rule own (l.rules.anew agent.call (with_ended s a.agent)) (omega arith)
    (each-from (λ x. IsGuided (own x)) (l.rules.applies agent.rule agent.call s) (h.body agent.rule agent.call (event_value agent a) s)) (h.anew agent.call (with_ended s a.agent)))
    (λ x u. any-guided (l.drains x) (h.drains x)))

drained-guided : {X : Type 0} (l : drain.Lower X) → IsGuidedLower l → (s : State) (as_ : List Activation) → Guided Any (drained_from (Some l) s as_)
unfolding drained_from
drained-guided l h s [] = any-guided (only (with_waiting s [])) (simple-guided (one (with_waiting s [])) (one-one (with_waiting s [])))
drained-guided l h s (a ∷ rest) = woken-guided l h (with_waiting s rest) a (living s a.agent) (drained_from (Some l) s rest) (drained-guided l h s rest)

-- at the lowest depth what waits and is alive ends at once
woken-lowest : (X : Type 0) (s : State) (a : Activation) (o : Option Agent) (later : Search State) → IsGuided later → IsGuided (woken {X = X} None s a o later)
woken-lowest X s a None later g = g
woken-lowest X s a (Some agent) later g = simple-guided (end Deep) (one-end State Deep)

drained-lowest : (X : Type 0) (s : State) (as_ : List Activation) → IsGuided (drained_from {X = X} None s as_)
unfolding drained_from
drained-lowest X s [] = simple-guided (one (with_waiting s [])) (one-one (with_waiting s []))
drained-lowest X s (a ∷ rest) = woken-lowest X (with_waiting s rest) a (living s a.agent) (drained_from {X = X} None s rest) (drained-lowest X s rest)

pub draining-is-guided : {X : Type 0} → DrainingIsGuided X
draining-is-guided {X = X} None h s = drained-lowest X s s.waiting
draining-is-guided (Some l) h s = (drained-guided l h s s.waiting).guided
