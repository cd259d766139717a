-- Small runs of what waits, worked through the definitions.
use Rattle.std.specs.Prelude.{◌≡◌, ℕ, zero, suc, nat_lt, pos, Bool, true, false, cond, List, [], ◌∷◌, Option, Some, None, refl}
use Rattle.std.proofs.Common.{ap}
use Rattle.pi_terms.specs.Tree.{Tree, var, int, cells, most_cells}
use Rattle.pi_terms.specs.Substitution.{instance}
use Rattle.pi_traces.specs.Trace.{Trace, end, note, Raise, Deep, Tick, Load, Out, done, one, alt, then}
use Rattle.pi_traces.specs.Control.{chosen}
use Rattle.pi_constraints.specs.Value.{rounds, value}
use Rattle.pi_constraints.specs.State.{State, Agent, free, bound, on_ins, on_dom, on_dom_any, on_posted, bindings, followed_for, followed, end_agent}
use Rattle.pi_constraints.specs.declared.event.Activation.{Activation}
use Rattle.pi_effects.specs.Exception.{term_too_large}
use Rattle.pi_settling.specs.Answers.{leads_for, first_answered, activations_from, activations}
use Rattle.pi_settling.specs.Fire.{SlotValue, Rules, decided, event_value, fired}
use Rattle.pi_settling.specs.Drain.{Lower, drained_from, drained}
use Rattle.pi_settling.specs.Posting.{with_posted, posting}

abbrev agent : ℕ → Bool → Agent
agent rule alive = record { call = var 0; rule = rule; watches = on_dom (var 0) 5 ∷ []; alive = alive }

abbrev waking : ℕ → Activation
waking a = record { agent = a; watch = 0; value = Some (int (pos 3)) }

abbrev state : List Agent → List Activation → State
state agents waiting = record { variables = []; constraints = []; agents = agents; waiting = waiting }

-- rules of which these apply; the body tells the slot of its value, and a call made anew gives a Tick and writes
abbrev told : Option SlotValue → State → Trace State
told None x = one x
told (Some v) x = note (Load v.slot) (one x)

abbrev rules : (ℕ → Bool) → Rules State
rules applies = record {
  applies = λ i call s. cond (applies i) (one s) done;
  body = λ i call v x. told v x;
  anew = λ call s. note Tick (note (Out (65 ∷ [])) (one s));
}

abbrev none : ℕ → Bool
none i = false

abbrev all : ℕ → Bool
all i = true

abbrev only_second : ℕ → Bool
only_second zero = false
only_second (suc i) = true

abbrev below : (ℕ → Bool) → Option (Lower State)
below applies = Some (record { rules = rules applies; drains = λ s. one s })

-- The agent's own rule applies first: its body runs with the event's value, and the agent stays. A rule before it applies, or its own doesn't: it ends, and its call is
-- made anew. An ended agent gives no Tick, also where no depth is left.
agents-fire :
    (drained (below all) (state (agent 0 true ∷ []) (waking 0 ∷ [])) ≡ note Tick (note (Load 5) (one (state (agent 0 true ∷ []) []))))
    × (drained (below only_second) (state (agent 1 true ∷ []) (waking 0 ∷ [])) ≡ note Tick (note (Load 5) (one (state (agent 1 true ∷ []) []))))
    × (drained (below all) (state (agent 1 true ∷ []) (waking 0 ∷ [])) ≡ note Tick (note Tick (note (Out (65 ∷ [])) (one (state (agent 1 false ∷ []) [])))))
    × (drained (below none) (state (agent 0 true ∷ []) (waking 0 ∷ [])) ≡ note Tick (note Tick (note (Out (65 ∷ [])) (one (state (agent 0 false ∷ []) [])))))
    × (drained {X = State} None (state (agent 0 false ∷ []) (waking 0 ∷ [])) ≡ one (state (agent 0 false ∷ []) []))
    × (drained {X = State} None (state (agent 0 true ∷ []) (waking 0 ∷ [])) ≡ end Deep)
unfolding decided fired drained_from then alt chosen end_agent
agents-fire = (refl, refl, refl, refl, refl, refl)

-- A term past the limit is raised whatever X is; one within it does nothing on a bound X.
large-terms_raise : (s : State) (x t : Tree) → nat_lt most_cells (cells (value (bindings s) t)) ≡ true → posting s x t ≡ end (Raise term_too_large)
large-terms_raise s x t e = ap (λ (b : Bool). cond b (end (Raise term_too_large)) (one (with_posted s x t))) e

bound-posts_nothing : posting (state [] []) (int (pos 1)) (int (pos 2)) ≡ one (state [] [])
unfolding value rounds cells activations followed followed_for
bound-posts_nothing = refl

-- An event's value is told by the patterns that name a slot for it, and by no other.
values-told :
    (event_value (record { call = var 0; rule = 0; watches = on_posted (var 0) 5 ∷ []; alive = true }) (waking 0) ≡ Some (record { slot = 5; value = int (pos 3) }))
    × (event_value (record { call = var 0; rule = 0; watches = on_dom_any (var 0) 6 ∷ []; alive = true }) (waking 0) ≡ Some (record { slot = 6; value = int (pos 3) }))
    × (event_value (record { call = var 0; rule = 0; watches = on_ins (var 0) ∷ []; alive = true }) (waking 0) ≡ None)
values-told = (refl, refl, refl)

-- an agent that watches what is posted on a variable, to which another one is bound, and a third is bound to an integer
abbrev watching : List Activation → State
watching waiting = record {
  variables = free ∷ bound (var 0) ∷ bound (int (pos 7)) ∷ [];
  constraints = [];
  agents = record { call = var 0; rule = 0; watches = on_posted (var 0) 5 ∷ []; alive = true } ∷ [];
  waiting = waiting;
}

-- What is posted wakes behind what waits already, with the term as it stands; on a bound X it wakes none.
events-posted :
    (posting (watching (waking 9 ∷ [])) (var 1) (var 2) ≡ one (watching (waking 9 ∷ record { agent = 0; watch = 0; value = Some (var 2) } ∷ [])))
    × (posting (watching (waking 9 ∷ [])) (var 2) (int (pos 3)) ≡ one (watching (waking 9 ∷ [])))
unfolding value rounds instance cells activations activations_from first_answered leads_for followed followed_for
events-posted = (refl, refl)
