-- The events of a goal keep a state calm: what they make wait are activations of agents that were made.
use Rattle.std.specs.Prelude.{◌≡◌, ⊤, ℕ, zero, suc, ◌+◌, ◌<◌, ℤ, Bool, true, false, cond, List, [], ◌∷◌, ◌++◌, length, map, nat_le, Option, Some, None, slice_get, IsSomeAnd, refl}
use Rattle.std.proofs.Common.{arith, sym, subst}
use Rattle.pi_terms.specs.Tree.{Tree, int}
use Rattle.pi_terms.specs.Variables.{Occurs}
use Rattle.pi_constraints.specs.declared.domain.Span.{Span}
use Rattle.pi_constraints.specs.declared.event.Event.{Event}
use Rattle.pi_constraints.specs.declared.event.Activation.{Activation}
use Rattle.pi_constraints.specs.Domain.{size_of}
use Rattle.pi_constraints.specs.Value.{Bindings}
use Rattle.pi_constraints.specs.State.{State, Agent, Variable, free, within, bound, WatchTree, on_ins, on_bound, on_dom, on_dom_any, on_posted, bindings, next, SpeaksBelow, IsActivation, IsState}
use Rattle.pi_settling.specs.Events.{most_told, ins_events, same_ends, bound_events, is_inner, lost_values, excluded_events, domain_events, variable_events, events_since, events_from, events_between}
use Rattle.pi_settling.specs.Answers.{given_if, answer_to, activation_or, first_answered, activations_from, activations}
use Rattle.pi_settling.specs.Settled.{with_events}
use Rattle.pi_settling.specs.Calm.{IsCalm}
use Rattle.pi_settling.specs.CalmLaws.{EventsKeepCalm, SettledIsCalm}
use Rattle.pi_settling.proofs.CalmFollowed.{all-settled}
use Rattle.pi_settling.proofs.CalmLemmas.{stable_is_calm, calm_goes_by_variables}

-- ---- no event of a goal posts a term

OfGoal : Event → Type 0
OfGoal (Event.Ins n) = ⊤
OfGoal (Event.Bound n) = ⊤
OfGoal (Event.Excluded n i inner) = ⊤
OfGoal (Event.Posted n t) = ⊥

AllOfGoal : List Event → Type 0
AllOfGoal [] = ⊤
AllOfGoal (e ∷ es) = OfGoal e × AllOfGoal es

both-goals : (xs ys : List Event) → AllOfGoal xs → AllOfGoal ys → AllOfGoal (xs ++ ys)
unfolding AllOfGoal
both-goals [] ys h g = g
both-goals (e ∷ xs) ys h g = (h.0, both-goals xs ys h.1 g)

ins-goal : (b : Bool) (n : ℕ) → AllOfGoal (ins_events b n)
unfolding AllOfGoal OfGoal
ins-goal true n = (tt, tt)
ins-goal false n = tt

bound-goal : (b : Bool) (n : ℕ) → AllOfGoal (cond b [] (Event.Bound n ∷ []))
unfolding AllOfGoal OfGoal
bound-goal true n = tt
bound-goal false n = (tt, tt)

lost-goal : (n : ℕ) (d : List Span) (is : List ℤ) → AllOfGoal (map (λ i. Event.Excluded n i (is_inner d i)) is)
unfolding AllOfGoal OfGoal
lost-goal n d [] = tt
lost-goal n d (i ∷ is) = (tt, lost-goal n d is)

told-goal : (b : Bool) (es : List Event) → AllOfGoal es → AllOfGoal (cond b es [])
unfolding AllOfGoal
told-goal true es h = h
told-goal false es h = tt

domain-goal : (n : ℕ) (old new : Option (List Span)) → AllOfGoal (domain_events n old new)
unfolding AllOfGoal
domain-goal n None e = tt
domain-goal n (Some d) None = tt
domain-goal n (Some d) (Some e) =
    both-goals (bound_events n d e) (excluded_events n d e) (bound-goal (same_ends d e) n)
    (told-goal (nat_le (size_of d) most_told) (map (λ i. Event.Excluded n i (is_inner d i)) (lost_values d e)) (lost-goal n d (lost_values d e)))

variable-goal : (n : ℕ) (old new : Option (List Span)) (b : Bool) → AllOfGoal (variable_events n old new b)
unfolding variable_events
variable-goal n old new b = both-goals (ins_events b n) (domain_events n old new) (ins-goal b n) (domain-goal n old new)

since-goal : (s : State) (n : ℕ) (v : Variable) → AllOfGoal (events_since s n v)
unfolding AllOfGoal
since-goal s n free = variable-goal n None _ _
since-goal s n (within d) = variable-goal n (Some d) _ _
since-goal s n (bound t) = tt

from-goal : (s : State) (n : ℕ) (vs : List Variable) → AllOfGoal (events_from s n vs)
unfolding AllOfGoal events_from
from-goal s n [] = tt
from-goal s n (v ∷ vs) = both-goals (events_since s n v) (events_from s (suc n) vs) (since-goal s n v) (from-goal s (suc n) vs)

-- ---- what a pattern gives

given-is : (b : Bool) (x v : Option Tree) → given_if b x ≡ Some v → x ≡ v
given-is true x v same = cc
given-is false x v same = absurd cc

value-below : (n : ℕ) (b : Bindings) (e : Event) (w : WatchTree) (v : Option Tree) (t : Tree) → OfGoal e → answer_to b e w ≡ Some v → v ≡ Some t → SpeaksBelow n t
unfolding OfGoal Occurs
value-below n b (Event.Ins m) (on_ins u) v t of same is = absurd (let none : None ≡ v = given-is _ None v same in cc)
value-below n b (Event.Ins m) (on_bound u) v t of same is = absurd cc
value-below n b (Event.Ins m) (on_dom u k) v t of same is = absurd cc
value-below n b (Event.Ins m) (on_dom_any u k) v t of same is = absurd cc
value-below n b (Event.Ins m) (on_posted u k) v t of same is = absurd cc
value-below n b (Event.Bound m) (on_ins u) v t of same is = absurd cc
value-below n b (Event.Bound m) (on_bound u) v t of same is = absurd (let none : None ≡ v = given-is _ None v same in cc)
value-below n b (Event.Bound m) (on_dom u k) v t of same is = absurd cc
value-below n b (Event.Bound m) (on_dom_any u k) v t of same is = absurd cc
value-below n b (Event.Bound m) (on_posted u k) v t of same is = absurd cc
value-below n b (Event.Excluded m i inner) (on_ins u) v t of same is = absurd cc
value-below n b (Event.Excluded m i inner) (on_bound u) v t of same is = absurd cc
value-below n b (Event.Excluded m i inner) (on_dom u k) v t of same is =
    let value : Some (int i) ≡ v = given-is _ (Some (int i)) v same in let here : int i ≡ t = cc in subst (SpeaksBelow n) here (λ j occurs. absurd occurs)
value-below n b (Event.Excluded m i inner) (on_dom_any u k) v t of same is =
    let value : Some (int i) ≡ v = given-is _ (Some (int i)) v same in let here : int i ≡ t = cc in subst (SpeaksBelow n) here (λ j occurs. absurd occurs)
value-below n b (Event.Excluded m i inner) (on_posted u k) v t of same is = absurd cc
value-below n b (Event.Posted m u) w v t of same is = absurd of

-- ---- activations

AreActivations : State → List Activation → Type 0
AreActivations s [] = ⊤
AreActivations s (a ∷ rest) = IsActivation s a × AreActivations s rest

both-wake : (s : State) (xs ys : List Activation) → AreActivations s xs → AreActivations s ys → AreActivations s (xs ++ ys)
unfolding AreActivations
both-wake s [] ys h g = g
both-wake s (a ∷ xs) ys h g = (h.0, both-wake s xs ys h.1 g)

pattern-wakes : (s : State) (e : Event) (agent : ℕ) (a : Agent) (i : ℕ) (w : WatchTree) (o : Option (Option Tree)) (others : List Activation) → OfGoal e → slice_get s.agents agent ≡ Some a → i < length a.watches →
    answer_to (bindings s) e w ≡ o → AreActivations s others → AreActivations s (activation_or agent i o others)
unfolding AreActivations
pattern-wakes s e agent a i w None others of at less same rest = rest
pattern-wakes s e agent a i w (Some v) others of at less same rest = (
  record {
    made = subst (λ (o : Option Agent). IsSomeAnd o (λ g. i < length g.watches)) (sym at) less;
    value = λ t is. value-below (next s) (bindings s) e w v t of same is;
  },
  tt,
)

patterns-wake : (s : State) (e : Event) (agent : ℕ) (a : Agent) → OfGoal e → slice_get s.agents agent ≡ Some a → (i : ℕ) (ws : List WatchTree) → i + length ws ≡ length a.watches →
    AreActivations s (first_answered (bindings s) e agent i ws)
unfolding AreActivations first_answered
patterns-wake s e agent a of at i [] many = tt
patterns-wake s e agent a of at i (w ∷ ws) many =
    pattern-wakes s e agent a i w (answer_to (bindings s) e w) (first_answered (bindings s) e agent (suc i) ws) of at (omega (arith, many)) refl (patterns-wake s e agent a of at (suc i) ws (omega (arith, many)))

alive-wakes : (s : State) (b : Bool) (xs : List Activation) → AreActivations s xs → AreActivations s (cond b xs [])
unfolding AreActivations
alive-wakes s true xs h = h
alive-wakes s false xs h = tt

agents-wake : (s : State) (e : Event) → OfGoal e → (n : ℕ) (agents : List Agent) → ((k : ℕ) (a : Agent) → slice_get agents k ≡ Some a → slice_get s.agents (n + k) ≡ Some a) →
    AreActivations s (activations_from (bindings s) e n agents)
unfolding AreActivations activations_from
agents-wake s e of n [] all = tt
agents-wake s e of n (a ∷ agents) all =
    let here : slice_get s.agents n ≡ Some a = (let same : n + 0 ≡ n = omega arith in subst (λ (k : ℕ). slice_get s.agents k ≡ Some a) same (all 0 a refl)) in
    both-wake s (cond a.alive (first_answered (bindings s) e n 0 a.watches) []) (activations_from (bindings s) e (suc n) agents)
    (alive-wakes s a.alive (first_answered (bindings s) e n 0 a.watches) (patterns-wake s e n a of here 0 a.watches (omega arith)))
    (agents-wake s e of (suc n) agents (λ k b at. let same : n + suc k ≡ suc n + k = omega arith in subst (λ (j : ℕ). slice_get s.agents j ≡ Some b) same (all (suc k) b at)))

events-wake : (s : State) (es : List Event) → AllOfGoal es → AreActivations s (activations s es)
unfolding AllOfGoal AreActivations activations
events-wake s [] h = tt
events-wake s (e ∷ es) h =
    both-wake s (activations_from (bindings s) e 0 s.agents) (activations s es)
    (agents-wake s e h.0 0 s.agents (λ k a at. let same : k ≡ 0 + k = omega arith in subst (λ (j : ℕ). slice_get s.agents j ≡ Some a) same at)) (events-wake s es h.1)

-- ---- they wait

wakes-at : (s : State) (ys : List Activation) (i : ℕ) (a : Activation) → AreActivations s ys → slice_get ys i ≡ Some a → IsActivation s a
unfolding AreActivations
wakes-at s [] i a h at = absurd cc
wakes-at s (y ∷ ys) zero a h at = let same : y ≡ a = cc in subst (IsActivation s) same h.0
wakes-at s (y ∷ ys) (suc i) a h at = wakes-at s ys i a h.1 at

waits-at : (s : State) (xs ys : List Activation) (i : ℕ) (a : Activation) → ((j : ℕ) (x : Activation) → slice_get xs j ≡ Some x → IsActivation s x) → AreActivations s ys → slice_get (xs ++ ys) i ≡ Some a → IsActivation s a
waits-at s [] ys i a all h at = wakes-at s ys i a h at
waits-at s (x ∷ xs) ys zero a all h at = let same : x ≡ a = cc in subst (IsActivation s) same (all 0 x refl)
waits-at s (x ∷ xs) ys (suc i) a all h at = waits-at s xs ys i a (λ j y got. all (suc j) y got) h at

events-state : (before s : State) → IsState s → IsState (with_events before s)
events-state before s is = record {
  acyclic = is.acyclic;
  variables = is.variables;
  constraints = is.constraints;
  agents = is.agents;
  waiting = λ i a at.
      let old : IsActivation s a = waits-at s s.waiting (activations s (events_between before s)) i a is.waiting (events-wake s (events_between before s) (from-goal s 0 before.variables)) at in
      record { made = old.made; value = old.value };
}

pub events_keep_calm : EventsKeepCalm
events_keep_calm before s calm = calm_goes_by_variables s (with_events before s) calm (events-state before s calm.state) refl refl

pub settled_is_calm : SettledIsCalm
settled_is_calm before s t is may settled =
    all-settled (λ (r : State). IsCalm r × (next r ≡ next s)) before s t settled (λ r f. (events_keep_calm before r (stable_is_calm s r is may f), f.count))
