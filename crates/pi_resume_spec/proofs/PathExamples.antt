-- Resumed runs, worked through the definitions.
use Rattle.std.specs.Prelude.{◌≡◌, ℕ, Bool, true, false, List, [], ◌∷◌, refl}
use Rattle.pi_terms.specs.Tree.{var}
use Rattle.pi_traces.specs.Trace.{Call, end, note, ans, Done, Raise, Miss, Deep, Tick, Out, done, one, alt, then}
use Rattle.pi_traces.specs.Control.{chosen, caught}
use Rattle.pi_resume_spec.specs.Ways.{Way, without_choices, choice_from}
use Rattle.pi_resume_spec.specs.Resumed.{a_tick, on_way, reached, cut_off, bad, Search, to_answer, simple, with_rest, follows_then, sequence, taken_from, alternatives, to_exception, with_handler, caught_search, RuleSearch, rules_ways, on_first, rules_taken, rules_search, ticked, resumed}

-- a rule that applies, with this body
abbrev rule : {A : Type 0} → Bool → Search A → RuleSearch ℕ A
rule committed body = record { applies = one 0; committed = committed; body = λ x. body }

abbrev way : {A : Type 0} → List ℕ → A → Way A
way path x = record { path = path; answer = x }

-- p(X) ?=> X = 1.  p(X) => X = 2.  The first rule is committed where the Boolean is true.
abbrev p_search : Bool → Search ℕ
p_search committed = ticked (rules_search (rule committed (simple (one 1)) ∷ rule true (simple (one 2)) ∷ []))

-- member(X,[Y|_]) ?=> X = Y.  member(X,[_|L]) => member(X,L).
abbrev member : List ℕ → Search ℕ
member [] = ticked (rules_search {X = ℕ} [])
member (x ∷ xs) = ticked (rules_search (rule false (simple (one x)) ∷ rule true (member xs) ∷ []))

-- From no path, 1 and 2, and from numbers that the call doesn't have or that a committed rule rules out.
calls-resume :
    ((p_search false).ways ≡ note Tick (ans (way (1 ∷ []) 1) (ans (way (2 ∷ []) 2) (end Done))))
    × ((p_search true).ways ≡ note Tick (ans (way (1 ∷ []) 1) (end Done)))
    × ((p_search false).follows (1 ∷ []) ≡ on_way a_tick (reached (1 ∷ []) 1 [] (ans (way (2 ∷ []) 2) (end Done))))
    × ((p_search false).follows (2 ∷ []) ≡ on_way a_tick (reached (2 ∷ []) 2 [] (end Done)))
    × ((p_search false).follows (3 ∷ []) ≡ on_way a_tick bad)
    × ((p_search false).follows [] ≡ on_way a_tick bad)
    × ((p_search true).follows (2 ∷ []) ≡ on_way a_tick bad)
    × (resumed ((p_search false).follows (1 ∷ 1 ∷ [])) ≡ on_way a_tick bad)
unfolding rules_ways rules_taken on_first with_rest to_answer resumed then alt chosen
calls-resume = (refl, refl, refl, refl, refl, refl, refl, refl)

-- member(X,[7,8,9]) from 2.1: two Ticks on the way, and behind it what rule 2 of the second call gives
members-resume :
    (member (7 ∷ 8 ∷ 9 ∷ [])).follows (2 ∷ 1 ∷ [])
    ≡ on_way a_tick (on_way a_tick (reached (2 ∷ 1 ∷ []) 8 [] (note Tick (ans (way (2 ∷ 2 ∷ 1 ∷ []) 9) (note Tick (end Done))))))
unfolding rules_ways rules_taken on_first with_rest to_answer then alt chosen
members-resume = refl

-- (write, 1 ; write, 2 ; 3) from 2: the first branch isn't run, and the output of the second is dropped
abbrev written : ℕ → Search ℕ
written n = simple (note (Out (65 ∷ [])) (one n))

-- catch((write, throw), _, 5): 2 is its handler, and its goal's output is dropped
abbrev catching_search : Search ℕ
catching_search = caught_search (simple (note (Out (65 ∷ [])) (ans 4 (end (Raise (var 0)))))) (λ ball. simple (one 5))

outputs-dropped :
    ((alternatives (written 1 ∷ written 2 ∷ simple (one 3) ∷ [])).follows (2 ∷ []) ≡ reached (2 ∷ []) 2 [] (ans (way (3 ∷ []) 3) (end Done)))
    × (catching_search.follows (2 ∷ []) ≡ reached (2 ∷ []) 5 [] (end Done))
    × (catching_search.follows (1 ∷ []) ≡ reached (1 ∷ []) 4 [] (ans (way (2 ∷ []) 5) (end Done)))
    × ((sequence {A = ℕ} {B = ℕ} (alternatives (simple (one 1) ∷ simple (one 2) ∷ [])) (λ x. alternatives (simple (one 3) ∷ simple (one x) ∷ []))).follows (1 ∷ 2 ∷ [])
    ≡ reached (1 ∷ 2 ∷ []) 1 [] (ans (way (2 ∷ 1 ∷ []) 3) (ans (way (2 ∷ 2 ∷ []) 2) (end Done))))
unfolding to_answer with_rest follows_then taken_from choice_from to_exception with_handler then alt caught
outputs-dropped = (refl, refl, refl, refl)

-- an end that a run with more depth or a longer log may pass isn't a bad path; the end of all answers is one, and a rule that doesn't apply is passed over
ends-on_the_way :
    ((simple {A = ℕ} (end Deep)).follows [] ≡ cut_off Deep)
    × ((c : Call) → (simple {A = ℕ} (end (Miss c))).follows [] ≡ cut_off (Miss c))
    × ((simple {A = ℕ} (end Done)).follows [] ≡ bad)
    × ((rules_search {X = ℕ} {A = ℕ} (record { applies = done; committed = true; body = λ x. simple (one 1) } ∷ rule true (simple (one 2)) ∷ [])).follows (2 ∷ []) ≡ reached (2 ∷ []) 2 [] (end Done))
unfolding to_answer rules_ways rules_taken on_first with_rest then alt chosen
ends-on_the_way = (refl, λ c. refl, refl, refl)

-- what runs at a strict place adds no choice
no-choices : without_choices {A = ℕ} (one 4) ≡ one (way [] 4)
unfolding then alt
no-choices = refl
