-- More depth only adds to labelling, `solve` and draining, in both runs.
use Rattle.std.specs.Prelude.{◌≡◌, ℕ, zero, suc, ℤ, List, [], ◌∷◌, Option, Some, None, codes}
use Rattle.pi_constraints.specs.State.{State, Agent, with_waiting, with_ended}
use Rattle.pi_constraints.specs.declared.constraint.Item.{Item}
use Rattle.pi_constraints.specs.declared.event.Activation.{Activation}
use Rattle.pi_effects.specs.Exception.{type_error}
use Rattle.pi_traces.specs.Trace.{Trace, end, Raise, done, one, then}
use Rattle.pi_traces.specs.Depth.{Below, deeper, DepthOnlyAdds}
use Rattle.pi_traces.specs.Related.{BelowBy}
use Rattle.pi_traces.proofs.BelowLemmas.{below-refl, below-then, below-chosen}
use Rattle.pi_traces.proofs.RelatedLemmas.{Same, by-below}
use Rattle.pi_settling.specs.Options.{Options, Objective}
use Rattle.pi_settling.specs.Confined.{confined}
use Rattle.pi_settling.specs.Choices.{Pending, pending, picked, Alternative, alternatives as alternatives_of, left_by, narrowed_to}
use Rattle.pi_settling.specs.Label as plain_label
use Rattle.pi_settling.specs.Label.{Settling}
use Rattle.pi_settling.specs.Fire.{event_value}
use Rattle.pi_settling.specs.Drain.{living}
use Rattle.pi_settling.specs.Reading.{Solving}
use Rattle.pi_settling.specs.Rounds.{begins, betters, worth, round, weighed, bettered, sought}
use Rattle.pi_settling.proofs.DepthLemmas.{labelling_does_more}
use Rattle.pi_resume_spec.specs.Resumed.{Search, simple, sequence, alternatives}
use Rattle.pi_resume_spec.specs.Searches.{only, too_deep}
use Rattle.pi_resume_spec.specs.Label.{Lower, tried, one_tried, tries, labelled_by, labelled, labelled_at}
use Rattle.pi_resume_spec.specs.Drain as drain
use Rattle.pi_resume_spec.specs.Drain.{RuleRuns, decided, fired, woken, drained_from}
use Rattle.pi_resume_spec.specs.More.{SearchBelow}
use Rattle.pi_resume_spec.specs.StageMore.{DrainsAdd, LabellingFollowsMore, SolvingFollowsMore, RulesFollowMore, LowerFollowsMore, DrainingFollowsMoreBy, DrainingFollowsMore}
use Rattle.pi_resume_spec.proofs.MoreLemmas.{SearchBy, search-below, search-by, search-itself, itself-by, simple-by, deep-by, SearchesBy, sequence-same, AllBy, alternatives-by, ticked-by, chosen-by}

-- ---- labelling

-- the lowest depth does less than any
abbrev pub DoMore : Option Lower → Option Lower → Type 0
DoMore None m = Unit {0}
DoMore (Some l) None = ⊥
DoMore (Some l) (Some m) = ((s : State) → SearchBelow (l.drains s) (m.drains s)) × ((s : State) → SearchBelow (l.labels s) (m.labels s))

tried-more : (settle : Settling) (l m : Lower) → DoMore (Some l) (Some m) → (s : State) (r : Option State) → SearchBy Same (tried settle l s r) (tried settle m s r)
tried-more settle l m h s None = itself-by (simple done)
tried-more settle l m h s (Some r) =
    let t : Search State = simple (settle s r) in
    sequence-same Same (sequence t l.drains) (sequence t m.drains) l.labels m.labels
    (search-below (sequence t l.drains) (sequence t m.drains) (sequence-same Same t t l.drains m.drains (search-itself t) (λ x. search-by (l.drains x) (m.drains x) (h.0 x))))
    (λ x. search-by (l.labels x) (m.labels x) (h.1 x))

one-more : (settle : Settling) (l m : Option Lower) → DoMore l m → (s : State) (r : Option State) → SearchBy Same (one_tried settle l s r) (one_tried settle m s r)
one-more settle None m h s r = deep-by Same (one_tried settle m s r)
one-more settle (Some l) None h s r = absurd h
one-more settle (Some l) (Some m) h s r = ticked-by Same (tried settle l s r) (tried settle m s r) (tried-more settle l m h s r)

tries-more : (settle : Settling) (l m : Option Lower) → DoMore l m → (s : State) (p : Pending) (alts : List Alternative) → AllBy Same (tries settle l s p alts) (tries settle m s p alts)
unfolding AllBy
tries-more settle l m h s p [] = tt
tries-more settle l m h s p (a ∷ alts) = (one-more settle l m h s (narrowed_to s p.variable (left_by a p.domain)), tries-more settle l m h s p alts)

by-more : (settle : Settling) (l m : Option Lower) → DoMore l m → (o : Options) (s : State) (p : Option Pending) → SearchBelow (labelled_by settle l o s p) (labelled_by settle m o s p)
by-more settle l m h o s None = search-itself (only s)
by-more settle l m h o s (Some p) =
    let alts : List Alternative = alternatives_of o.value p.domain in
    search-below (alternatives (tries settle l s p alts)) (alternatives (tries settle m s p alts)) (alternatives-by Same (tries settle l s p alts) (tries settle m s p alts) (tries-more settle l m h s p alts))

pub labelled-more : (settle : Settling) (l m : Option Lower) → DoMore l m → (o : Options) (items : List Item) (s : State) → SearchBelow (labelled settle l o items s) (labelled settle m o items s)
labelled-more settle l m h o items s = by-more settle l m h o s (picked (pending s items) o.variable)

at-more : (settle : Settling) (drains : ℕ → State → Search State) → DrainsAdd drains → (o : Options) (items : List Item) (d : ℕ) (s : State) →
    SearchBelow (labelled_at settle drains o items d s) (labelled_at settle drains o items (suc d) s)
unfolding labelled_at
at-more settle drains more o items zero s = labelled-more settle None (Some (record { drains = drains 0; labels = labelled_at settle drains o items 0 })) tt o items s
at-more settle drains more o items (suc d) s =
    labelled-more settle (Some (record { drains = drains d; labels = labelled_at settle drains o items d })) (Some (record { drains = drains (suc d); labels = labelled_at settle drains o items (suc d) }))
    (more d, at-more settle drains more o items d) o items s

pub labelling-more : LabellingFollowsMore
labelling-more settle drains more o items d s = at-more settle drains more o items d (confined s items)

-- ---- with an objective

round-more : (p : Solving) (d : ℕ) (t : Trace State) → ((s : State) → DepthOnlyAdds (λ d. p.drains d s)) → Below (round p d t) (round p (suc d) t)
round-more p d t more =
    below-then (then t (p.drains d)) (then t (p.drains (suc d))) (plain_label.labelling p.settle p.drains p.chosen_options p.items d) (plain_label.labelling p.settle p.drains p.chosen_options p.items (suc d))
    (below-then t t (p.drains d) (p.drains (suc d)) (below-refl t) (λ s. more s d)) (λ s. labelling_does_more p.settle p.drains p.chosen_options p.items more s d)

weighed-more : (o : Objective) (r : State) (w : Option ℤ) (f g : ℤ → Trace State) → ((v : ℤ) → Below (f v) (g v)) → Below (weighed o r w f) (weighed o r w g)
weighed-more o r None f g more = below-refl (end (Raise (type_error (codes "integer") o.expression r)))
weighed-more o r (Some v) f g more = more v

better-more : (p : Solving) (o : Objective) → ((s : State) → DepthOnlyAdds (λ d. p.drains d s)) → (d : ℕ) (s r : State) (v : ℤ) → Below (bettered p o d s r v) (bettered p o (suc d) s r v)
unfolding bettered
better-more p o more zero s r v = deeper (bettered p o 1 s r v)
better-more p o more (suc d) s r v =
    below-chosen (round p d (betters p o v s)) (round p (suc d) (betters p o v s)) (λ q. weighed o q (worth p o q) (bettered p o d s q)) (λ q. weighed o q (worth p o q) (bettered p o (suc d) s q)) (one r) (one r)
    (round-more p d (betters p o v s) more) (λ q. weighed-more o q (worth p o q) (bettered p o d s q) (bettered p o (suc d) s q) (λ w. better-more p o more d s q w)) (below-refl (one r))

sought-more : (p : Solving) (o : Objective) → ((s : State) → DepthOnlyAdds (λ d. p.drains d s)) → (d : ℕ) (s : State) → Below (sought p o d s) (sought p o (suc d) s)
sought-more p o more d s =
    below-chosen (round p d (begins p o s)) (round p (suc d) (begins p o s)) (λ q. weighed o q (worth p o q) (bettered p o d s q)) (λ q. weighed o q (worth p o q) (bettered p o (suc d) s q)) done done
    (round-more p d (begins p o s) more) (λ q. weighed-more o q (worth p o q) (bettered p o d s q) (bettered p o (suc d) s q) (λ w. better-more p o more d s q w)) (below-refl done)

pub solving-more : SolvingFollowsMore
solving-more p drains more plain None d s = labelling-more p.settle drains more p.chosen_options p.items d s
solving-more p drains more plain (Some o) d s =
    search-below (simple (sought p o d s)) (simple (sought p o (suc d) s)) (simple-by Same (sought p o d s) (sought p o (suc d) s) (by-below (sought p o d s) (sought p o (suc d) s) (sought-more p o plain d s)))

-- ---- draining

own-more : {X Y : Type 0} (R : X → Y → Type 0) (f : X → Search State) (g : Y → Search State) → ((x : X) (y : Y) → R x y → SearchBelow (f x) (g y)) → SearchesBy R Same f g
unfolding SearchesBy
own-more R f g all x y r = search-by (f x) (g y) (all x y r)

other-more : {X Y : Type 0} (R : X → Y → Type 0) (s t : Search State) → SearchBy Same s t → SearchesBy R Same (λ (x : X). s) (λ (y : Y). t)
unfolding SearchesBy
other-more R s t h x y r = h

decided-more : {X Y : Type 0} (R : X → Y → Type 0) (a : ℕ → Trace X) (b : ℕ → Trace Y) → ((i : ℕ) → BelowBy R (a i) (b i)) → (i before : ℕ) (f : X → Search State) (g : Y → Search State) (s t : Search State) →
    SearchesBy R Same f g → SearchBy Same s t → SearchBy Same (decided a i before f s) (decided b i before g t)
unfolding decided
decided-more R a b all i zero f g s t own other = chosen-by R Same (a i) (b i) f g s t (all i) own other
decided-more R a b all i (suc before) f g s t own other =
    chosen-by R Same (a i) (b i) (λ x. s) (λ x. t) (decided a (suc i) before f s) (decided b (suc i) before g t) (all i) (other-more R s t other) (decided-more R a b all (suc i) before f g s t own other)

fired-more : {X Y : Type 0} (R : X → Y → Type 0) (f : RuleRuns X) (g : RuleRuns Y) → RulesFollowMore R f g → (s : State) (a : Activation) (agent : Agent) → SearchBy Same (fired f s a agent) (fired g s a agent)
unfolding fired
fired-more R f g h s a agent =
    let v = event_value agent a in
    let t : Search State = f.anew agent.call (with_ended s a.agent) in
    let u : Search State = g.anew agent.call (with_ended s a.agent) in
    decided-more R (λ i. f.applies i agent.call s) (λ i. g.applies i agent.call s) (λ i. h.applies i agent.call s) 0 agent.rule (f.body agent.rule agent.call v) (g.body agent.rule agent.call v) t u
    (own-more R (f.body agent.rule agent.call v) (g.body agent.rule agent.call v) (h.body agent.rule agent.call v)) (search-by t u (h.anew agent.call (with_ended s a.agent)))

woken-more : {X Y : Type 0} (R : X → Y → Type 0) (l : Option (drain.Lower X)) (m : Option (drain.Lower Y)) → LowerFollowsMore R l m → (s : State) (a : Activation) (o : Option Agent) (x y : Search State) → SearchBelow x y →
    SearchBelow (woken l s a o x) (woken m s a o y)
woken-more R l m h s a None x y later = later
woken-more R None m h s a (Some agent) x y later = search-below too_deep (woken m s a (Some agent) y) (deep-by Same (woken m s a (Some agent) y))
woken-more R (Some l) None h s a (Some agent) x y later = absurd h
woken-more R (Some l) (Some m) h s a (Some agent) x y later =
    let t : Search State = fired l.rules s a agent in
    let u : Search State = fired m.rules s a agent in
    search-below (woken (Some l) s a (Some agent) x) (woken (Some m) s a (Some agent) y)
    (ticked-by Same (sequence t l.drains) (sequence u m.drains)
    (sequence-same Same t u l.drains m.drains (search-below t u (fired-more R l.rules m.rules h.0 s a agent)) (λ r. search-by (l.drains r) (m.drains r) (h.1 r))))

from-more : {X Y : Type 0} (R : X → Y → Type 0) (l : Option (drain.Lower X)) (m : Option (drain.Lower Y)) → LowerFollowsMore R l m → (s : State) (as_ : List Activation) →
    SearchBelow (drained_from l s as_) (drained_from m s as_)
unfolding drained_from
from-more R l m h s [] = search-itself (only (with_waiting s []))
from-more R l m h s (a ∷ rest) = woken-more R l m h (with_waiting s rest) a (living s a.agent) (drained_from l s rest) (drained_from m s rest) (from-more R l m h s rest)

pub draining-more_by : {X Y : Type 0} (R : X → Y → Type 0) → DrainingFollowsMoreBy R
draining-more_by R l m h s = from-more R l m h s s.waiting

pub draining-more : {X : Type 0} → DrainingFollowsMore X
draining-more = draining-more_by (λ x y. x ≡ y)
