-- What waits is run in order, and more depth only adds.
use Rattle.std.specs.Prelude.{◌≡◌, ℕ, zero, suc, List, [], ◌∷◌, Option, Some, None, refl}
use Rattle.std.proofs.Common.{sym, ◌∙◌, ap}
use Rattle.pi_traces.specs.Trace.{Trace, Tick, one}
use Rattle.pi_traces.specs.Control.{chosen}
use Rattle.pi_traces.specs.Depth.{Below, deeper, same_note}
use Rattle.pi_traces.specs.Related.{BelowBy}
use Rattle.pi_traces.proofs.BelowLemmas.{below-refl, below-then}
use Rattle.pi_traces.proofs.RelatedLemmas.{Same, by-below, below-by, by-chosen}
use Rattle.pi_constraints.specs.State.{State, Agent, with_waiting, with_ended}
use Rattle.pi_constraints.specs.declared.event.Activation.{Activation}
use Rattle.pi_settling.specs.Fire.{Rules, decided, event_value, fired}
use Rattle.pi_settling.specs.Drain.{Lower, living, woken, drained_from}
use Rattle.pi_settling.specs.AgentLaws.{DrainingNothing, EndedArePassedOver, FirstInFirstOut, RulesDoMore, LowerDoesMore, DrainingDoesMoreBy}

pub draining_nothing : {X : Type 0} → DrainingNothing X
unfolding drained_from
draining_nothing below s e = ap (drained_from below s) e ∙ ap (λ (w : List Activation). one (with_waiting s w)) (sym e)

-- what is drained goes by the state but for what waits
drained-by : {X : Type 0} (below : Option (Lower X)) (s : State) (w rest : List Activation) → drained_from below s rest ≡ drained_from below (with_waiting s w) rest
unfolding drained_from
drained-by below s w [] = refl
drained-by below s w (a ∷ rest) = ap (woken below (with_waiting s rest) a (living s a.agent)) (drained-by below s w rest)

pub ended_are_passed_over : {X : Type 0} → EndedArePassedOver X
unfolding drained_from
ended_are_passed_over below s a rest waits is =
    ap (drained_from below s) waits
    ∙ (ap (λ (o : Option Agent). woken below (with_waiting s rest) a o (drained_from below s rest)) is ∙ drained-by below s rest rest)

pub first_in_first_out : {X : Type 0} → FirstInFirstOut X
unfolding drained_from
first_in_first_out l s a rest agent waits is =
    ap (drained_from (Some l) s) waits ∙ ap (λ (o : Option Agent). woken (Some l) (with_waiting s rest) a o (drained_from (Some l) s rest)) is

-- ---- more depth

below-chosen_by : {X Y : Type 0} (R : X → Y → Type 0) (t : Trace X) (t' : Trace Y) (f : X → Trace State) (g : Y → Trace State) (u u' : Trace State) →
    BelowBy R t t' → ((x : X) (y : Y) → R x y → Below (f x) (g y)) → Below u u' → Below (chosen t f u) (chosen t' g u')
below-chosen_by R t t' f g u u' h each other =
    below-by (chosen t f u) (chosen t' g u') (by-chosen R Same t t' f g u u' h (λ x y r. by-below (f x) (g y) (each x y r)) (by-below u u' other))

decided-more : {X Y : Type 0} (R : X → Y → Type 0) (f : ℕ → Trace X) (g : ℕ → Trace Y) (i k : ℕ) (own : X → Trace State) (own' : Y → Trace State) (other other' : Trace State) →
    ((j : ℕ) → BelowBy R (f j) (g j)) → ((x : X) (y : Y) → R x y → Below (own x) (own' y)) → Below other other' → Below (decided f i k own other) (decided g i k own' other')
unfolding decided
decided-more R f g i zero own own' other other' all each more = below-chosen_by R (f i) (g i) own own' other other' (all i) each more
decided-more R f g i (suc k) own own' other other' all each more =
    below-chosen_by R (f i) (g i) (λ x. other) (λ y. other') (decided f (suc i) k own other) (decided g (suc i) k own' other') (all i) (λ x y r. more)
    (decided-more R f g (suc i) k own own' other other' all each more)

fired-more : {X Y : Type 0} (R : X → Y → Type 0) (f : Rules X) (g : Rules Y) (s : State) (a : Activation) (agent : Agent) → RulesDoMore R f g → Below (fired f s a agent) (fired g s a agent)
unfolding fired
fired-more R f g s a agent more =
    decided-more R (λ i. f.applies i agent.call s) (λ i. g.applies i agent.call s) 0 agent.rule (f.body agent.rule agent.call (event_value agent a)) (g.body agent.rule agent.call (event_value agent a))
    (f.anew agent.call (with_ended s a.agent)) (g.anew agent.call (with_ended s a.agent))
    (λ i. more.applies i agent.call s) (λ x y r. more.body agent.rule agent.call (event_value agent a) x y r) (more.anew agent.call (with_ended s a.agent))

woken-more : {X Y : Type 0} (R : X → Y → Type 0) (l : Option (Lower X)) (m : Option (Lower Y)) (s : State) (a : Activation) (o : Option Agent) (u u' : Trace State) → LowerDoesMore R l m → Below u u' → Below (woken l s a o u) (woken m s a o u')
woken-more R l m s a None u u' more rest = rest
woken-more R None m s a (Some agent) u u' more rest = deeper (woken m s a (Some agent) u')
woken-more R (Some l) None s a (Some agent) u u' more rest = absurd more
woken-more R (Some l) (Some m) s a (Some agent) u u' more rest =
    same_note Tick (below-then (fired l.rules s a agent) (fired m.rules s a agent) l.drains m.drains (fired-more R l.rules m.rules s a agent more.0) more.1)

drained-more : {X Y : Type 0} (R : X → Y → Type 0) (l : Option (Lower X)) (m : Option (Lower Y)) (s : State) (w : List Activation) → LowerDoesMore R l m → Below (drained_from l s w) (drained_from m s w)
unfolding drained_from
drained-more R l m s [] more = below-refl (one (with_waiting s []))
drained-more R l m s (a ∷ rest) more = woken-more R l m (with_waiting s rest) a (living s a.agent) (drained_from l s rest) (drained_from m s rest) more (drained-more R l m s rest more)

pub draining_does_more_by : {X Y : Type 0} (R : X → Y → Type 0) → DrainingDoesMoreBy R
draining_does_more_by R l m more s = drained-more R l m s s.waiting more
