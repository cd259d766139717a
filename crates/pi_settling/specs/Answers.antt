-- The agents that an event wakes. An event on a variable answers the patterns whose variable is that one, or is bound to it directly or through others.
-- Each event makes one activation an agent that is alive, by the first of its patterns that it answers, in the order in which the agents were made. (A
-- User's Guide to Picat, 'Action Rules'; the order is own.)
use Rattle.std.specs.Prelude.{◌==◌, ℕ, zero, suc, Bool, false, cond, ◌&&◌, ◌||◌, List, [], ◌∷◌, ◌++◌, length, Option, Some, None}
use Rattle.pi_terms.specs.Tree.{Tree, var, int, atom, comp}
use Rattle.pi_terms.specs.Places.{held}
use Rattle.pi_constraints.specs.Value.{Bindings}
use Rattle.pi_constraints.specs.State.{State, Agent, WatchTree, on_ins, on_bound, on_dom, on_dom_any, on_posted, bindings}
use Rattle.pi_constraints.specs.declared.event.Event.{Event}
use Rattle.pi_constraints.specs.declared.event.Activation.{Activation}

abbrev pub leads_on : (Tree → Bool) → Option Tree → Bool
leads_on test None = false
leads_on test (Some u) = test u

-- a term is this variable, or one that is bound to it directly or through so many others at most
unfoldable pub leads_for : ℕ → Bindings → ℕ → Tree → Bool
leads_for zero b n (var m) = m == n
leads_for (suc k) b n (var m) = (m == n) || leads_on (leads_for k b n) (held b m)
leads_for k b n (int i) = false
leads_for k b n (atom name) = false
leads_for k b n (comp name ts) = false

abbrev pub leads_to : Bindings → Tree → ℕ → Bool
leads_to b t n = leads_for (length b) b n t

-- what an event gives to a pattern that it answers, which is nothing or the event's value; None where it doesn't answer it
abbrev pub given_if : Bool → Option Tree → Option (Option Tree)
given_if answers value = cond answers (Some value) None

abbrev pub answer_to : Bindings → Event → WatchTree → Option (Option Tree)
answer_to b (Event.Ins n) (on_ins t) = given_if (leads_to b t n) None
answer_to b (Event.Bound n) (on_bound t) = given_if (leads_to b t n) None
answer_to b (Event.Excluded n i inner) (on_dom t slot) = given_if (inner && leads_to b t n) (Some (int i))
answer_to b (Event.Excluded n i inner) (on_dom_any t slot) = given_if (leads_to b t n) (Some (int i))
answer_to b (Event.Posted n u) (on_posted t slot) = given_if (leads_to b t n) (Some u)
answer_to b e w = None

-- the activation by the first pattern that is answered, of those from this number on
abbrev pub activation_or : ℕ → ℕ → Option (Option Tree) → List Activation → List Activation
activation_or agent i None others = others
activation_or agent i (Some value) others = record { agent = agent; watch = i; value = value } ∷ []

unfoldable pub first_answered : Bindings → Event → ℕ → ℕ → List WatchTree → List Activation
first_answered b e agent i [] = []
first_answered b e agent i (w ∷ ws) = activation_or agent i (answer_to b e w) (first_answered b e agent (suc i) ws)

-- the activations of one event, of the agents from this number on
unfoldable pub activations_from : Bindings → Event → ℕ → List Agent → List Activation
activations_from b e n [] = []
activations_from b e n (a ∷ agents) = cond a.alive (first_answered b e n 0 a.watches) [] ++ activations_from b e (suc n) agents

-- the activations of events, in their order
unfoldable pub activations : State → List Event → List Activation
activations s [] = []
activations s (e ∷ es) = activations_from (bindings s) e 0 s.agents ++ activations s es
