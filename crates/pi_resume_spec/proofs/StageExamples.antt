-- Labelling and draining with paths, worked out.
use Rattle.std.specs.Prelude.{◌≡◌, ℕ, pos, Bool, true, false, cond, List, [], ◌∷◌, Option, Some, None, refl}
use Rattle.pi_terms.specs.Tree.{var, int}
use Rattle.pi_constraints.specs.declared.constraint.Item.{Item}
use Rattle.pi_constraints.specs.declared.event.Activation.{Activation}
use Rattle.pi_constraints.specs.Domain.{numbers_from, values_of, overlap, shared, common}
use Rattle.pi_constraints.specs.State.{State, Agent, Variable, within, bound, on_dom, followed_for, followed, end_agent}
use Rattle.pi_traces.specs.Trace.{end, note, ans, Done, Deep, Tick, Out, Load, done, one, alt, then}
use Rattle.pi_traces.specs.Control.{chosen}
use Rattle.pi_settling.specs.Options.{forward, ValueWord, up, down}
use Rattle.pi_resume_spec.specs.Ways.{Way, choice_from}
use Rattle.pi_resume_spec.specs.Resumed.{a_tick, a_load, on_way, reached, cut_off, bad, Search, simple, sequence, alternatives, to_answer, with_rest, follows_then, taken_from, on_first, rules_ways, rules_taken, rules_search, ticked}
use Rattle.pi_resume_spec.specs.Searches.{only}
use Rattle.pi_resume_spec.specs.Label.{labelled_at}
use Rattle.pi_resume_spec.specs.Drain.{RuleRuns, Lower, decided, fired, drained_from, drained}

abbrev state : List Variable → State
state vs = record { variables = vs; constraints = []; agents = []; waiting = [] }

abbrev is : ℕ → Variable
is n = bound (int (pos n))

abbrev up_to : ℕ → Variable
up_to n = within (record { lo = pos 1; hi = pos n } ∷ [])

abbrev label : ValueWord → ℕ → State → Search State
label w d s = labelled_at (λ before r. note (Load 5) (one r)) (λ d r. only r) (record { variable = forward; value = w; objective = None }) (Item.Var 0 ∷ Item.Var 1 ∷ []) d s

abbrev two : State
two = state (up_to 2 ∷ up_to 2 ∷ [])

abbrev way : List ℕ → State → Way State
way p s = record { path = p; answer = s }

labels-follow :
    ((label up 2 two).follows (2 ∷ 1 ∷ []) ≡ on_way a_tick (on_way (a_load 5) (on_way a_tick (on_way (a_load 5) (reached (2 ∷ 1 ∷ []) (state (is 2 ∷ is 1 ∷ [])) [] (note Tick (note (Load 5) (ans (way (2 ∷ 2 ∷ []) (state (is 2 ∷ is 2 ∷ []))) (end Done)))))))))
    × ((label down 2 two).follows (2 ∷ 2 ∷ []) ≡ on_way a_tick (on_way (a_load 5) (on_way a_tick (on_way (a_load 5) (reached (2 ∷ 2 ∷ []) (state (is 1 ∷ is 1 ∷ [])) [] (end Done))))))
    × ((label up 2 two).follows [] ≡ bad)
    × ((label up 2 two).follows (3 ∷ []) ≡ bad)
    × ((label up 2 two).follows (1 ∷ []) ≡ on_way a_tick (on_way (a_load 5) bad))
    × ((label up 0 two).follows (1 ∷ []) ≡ cut_off Deep)
    × ((label up 0 two).follows [] ≡ bad)
unfolding labelled_at values_of numbers_from overlap shared common followed followed_for then alt to_answer with_rest follows_then taken_from choice_from
labels-follow = (refl, refl, refl, refl, refl, refl, refl)

-- an agent, and rules whose body writes and has two branches; a call made anew has a Tick and takes its second rule
abbrev agent : ℕ → Bool → Agent
agent rule alive = record { call = var 0; rule = rule; watches = on_dom (var 0) 5 ∷ []; alive = alive }

abbrev waking : ℕ → Activation
waking a = record { agent = a; watch = 0; value = Some (int (pos 3)) }

abbrev waits : List Agent → List Activation → State
waits agents waiting = record { variables = []; constraints = []; agents = agents; waiting = waiting }

abbrev rules : (ℕ → Bool) → RuleRuns State
rules applies = record {
  applies = λ i call s. note (Out (66 ∷ [])) (cond (applies i) (one s) done);
  body = λ i call v x. sequence (simple (note (Out (65 ∷ [])) (one x))) (λ y. alternatives (only y ∷ only y ∷ []));
  anew = λ call s. ticked (rules_search {X = State} (record { applies = done; committed = true; body = λ x. only x } ∷ record { applies = one s; committed = true; body = λ x. only x } ∷ []));
}

abbrev below : (ℕ → Bool) → Option (Lower State)
below applies = Some (record { rules = rules applies; drains = λ s. only s })

abbrev own : State
own = waits (agent 0 true ∷ []) []

drains-follow :
    ((drained (below (λ i. true)) (waits (agent 0 true ∷ []) (waking 0 ∷ []))).ways ≡ note Tick (note (Out (66 ∷ [])) (note (Out (65 ∷ [])) (ans (way (1 ∷ []) own) (ans (way (2 ∷ []) own) (end Done))))))
    × ((drained (below (λ i. true)) (waits (agent 0 true ∷ []) (waking 0 ∷ []))).follows (1 ∷ []) ≡ on_way a_tick (reached (1 ∷ []) own [] (ans (way (2 ∷ []) own) (end Done))))
    × ((drained (below (λ i. true)) (waits (agent 0 true ∷ []) (waking 0 ∷ []))).follows [] ≡ on_way a_tick bad)
    × ((drained (below (λ i. false)) (waits (agent 0 true ∷ []) (waking 0 ∷ []))).ways ≡ note Tick (note (Out (66 ∷ [])) (note Tick (ans (way (2 ∷ []) (waits (agent 0 false ∷ []) [])) (end Done)))))
    × ((drained (below (λ i. false)) (waits (agent 0 true ∷ []) (waking 0 ∷ []))).follows (2 ∷ []) ≡ on_way a_tick (on_way a_tick (reached (2 ∷ []) (waits (agent 0 false ∷ []) []) [] (end Done))))
    × ((drained (below (λ i. true)) (waits (agent 0 false ∷ []) (waking 0 ∷ []))).follows (4 ∷ []) ≡ reached [] (waits (agent 0 false ∷ []) []) (4 ∷ []) (end Done))
unfolding decided fired drained_from then alt chosen end_agent to_answer with_rest follows_then taken_from choice_from on_first rules_ways rules_taken
drains-follow = (refl, refl, refl, refl, refl, refl)
