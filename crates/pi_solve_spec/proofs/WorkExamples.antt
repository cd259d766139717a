-- A query without planner calls, and one with one planner call of a small program, worked through the definitions of wanted calls and of bounds.
--     final(0) => true.
--     action(N,S,A,K) => S = N-1, A = down, K = 1.        (of N from 1, with a load of 3)
use Rattle.std.specs.Prelude.{◌≡◌, ◌≢◌, ℕ, zero, suc, ◌≤◌, pos, negsuc, false, List, [], ◌∷◌, codes, sum_by, All, AllPairs, Contains, refl}
use Rattle.std.proofs.Common.{arith}
use Rattle.pi_terms.specs.Tree.{Tree, var, int, atom, comp}
use Rattle.pi_terms.specs.Variables.{occurrences, firsts}
use Rattle.pi_constraints.specs.State.{State, empty_state}
use Rattle.pi_meaning.specs.Shared.View.{call_of}
use Rattle.pi_effects.specs.Items.{list_of}
use Rattle.pi_core.specs.declared.log.LogEntry.{LogEntry}
use Rattle.pi_core.specs.declared.log.PlanResult.{PlanResult}
use Rattle.pi_traces.specs.Trace.{Trace, end, note, ans, Done, Miss, Tick, Load, Call, one, done, end_of, answers, events_of, count_ticks}
use Rattle.pi_traces.specs.Depth.{cut, Ended}
use Rattle.pi_solve_spec.specs.Bodies.{Bodies, Offer}
use Rattle.pi_solve_spec.specs.Steps.{GoesOn, IsStep, Reached, at_start, by_step, CallReaches}
use Rattle.pi_solve_spec.specs.Calls.{IsFront, Query, itself, IsWanted}
use Rattle.pi_solve_spec.specs.Counted.{loads_of, loads, its_ticks, its_loads, AtMost, Expansion, MostTicks, MostLoads, IsAnother, AreExpanded, IsChain, AreJoined, LongestChain}
use Rattle.pi_solve_spec.specs.WorkBounds.{Planning, EntersRightly, KeepsToBounds, QueryCounts, Told, told_of_each, calls_entered, entries_added, run_loads, most_work}
use Rattle.pi_solve_spec.proofs.ExpandedLemmas.{chains_are_short}

-- the loads of a trace
some-loads : loads {A = ℕ} (note (Load 2) (note Tick (ans 7 (note (Load 5) (end Done))))) ≡ 7
unfolding loads_of events_of
some-loads = refl

-- ---- a query without planner calls: it counts two Ticks, and a load of 4 before its answer

abbrev plain : Query ℕ
plain log d = cut 9 (note Tick (note (Load 4) (ans 0 (note Tick done))))

plain-loads : run_loads plain [] 0 ≡ 4
unfolding cut loads_of
plain-loads = refl

nothing-asked : (log : List LogEntry) (d : ℕ) → (plain log d).stop ≡ Ended Done
unfolding cut
nothing-asked log d = refl

-- its bounds: no pair, no Tick, no load but those of the run
plain-bound : most_work (sum_by (λ (c : Call). 0) []) 0 0 4 ≡ 4
plain-bound = refl

-- ---- a query with one planner call, plan(2,5,P,K)

abbrev the_call : Call
the_call = record { best = false; start = int (pos 2); limit = pos 5 }

abbrev the_entry : LogEntry
the_entry = LogEntry.Planned false (int (pos 2)) (pos 5) (PlanResult.Found (list_of (atom (codes "down") ∷ atom (codes "down") ∷ [])) (pos 2))

-- its trace: a Tick, and then the call, which is missing or done
abbrev asking_run : Query ℕ
asking_run [] d = cut 9 (note Tick (end (Miss the_call)))
asking_run (e ∷ log) d = cut 9 (note Tick (note (Load 1) (one 0)))

abbrev final_of : Tree → Trace State
final_of (int (pos zero)) = note Tick (one empty_state)
final_of (int (pos (suc n))) = note Tick done
final_of (int (negsuc n)) = note Tick done
final_of (var n) = note Tick done
final_of (atom name) = note Tick done
final_of (comp name ts) = note Tick done

abbrev action_of : Tree → Trace Offer
action_of (int (pos (suc n))) = note Tick (note (Load 3) (one (record { state = int (pos n); action = atom (codes "down"); cost = int (pos 1) })))
action_of (int (pos zero)) = note Tick done
action_of (int (negsuc n)) = note Tick done
action_of (var n) = note Tick done
action_of (atom name) = note Tick done
action_of (comp name ts) = note Tick done

abbrev counting : Bodies
counting = record { final = λ v s d. final_of s; action = λ v s d. action_of s }

abbrev counts : Planning
counts = record { bodies = counting; by_rests = false }

-- the query wants the call, also once it is done
is-wanted : IsWanted counting asking_run 0 (the_entry ∷ []) the_call
unfolding cut
is-wanted = record {
  first = the_call;
  asks = record { front = []; is_front = record { behind = the_entry ∷ []; parts = refl; enough = omega arith }; depth = 0; ends = refl };
  leads = itself;
}

-- what is told: the call was entered, and its entry added
abbrev told : Told
told = record { log = the_entry ∷ []; entered = the_call ∷ []; query = record { known = 0; first = 0; work = record { goals = 5; runs = 7; expansions = 3 } } }

all-is_told : (calls_entered told ≡ the_call ∷ []) × (entries_added told ≡ the_entry ∷ [])
all-is_told = (refl, refl)

-- two Ticks and a load of 3 at most are in the bodies of a number, whatever its rest
two-ticks : (n r : ℕ) → AtMost its_ticks counting (the_entry ∷ []) (int (pos n)) r 2
unfolding events_of count_ticks
two-ticks zero r front is = record { final = λ d. omega arith; both = λ goes d. omega arith }
two-ticks (suc n) r front is = record { final = λ d. omega arith; both = λ goes d. omega arith }

three-loads : (n r : ℕ) → AtMost its_loads counting (the_entry ∷ []) (int (pos n)) r 3
unfolding events_of loads_of
three-loads zero r front is = record { final = λ d. omega arith; both = λ goes d. omega arith }
three-loads (suc n) r front is = record { final = λ d. omega arith; both = λ goes d. omega arith }

-- Three states with 2 Ticks and a load of 3 each, and a load of 1 in the run: 6, 10 and 3.
the-bound : most_work (sum_by (λ (c : Call). 3) (the_call ∷ [])) 2 3 (run_loads asking_run (the_entry ∷ []) 0) ≡ 19
unfolding cut loads_of
the-bound = refl

-- ---- what is told there enters its call rightly, and keeps to its bounds

abbrev with_rest : ℕ → ℕ → Expansion
with_rest n r = record { call = the_call; pair = record { state = int (pos n); rest = r } }

abbrev the_three : List Expansion
the_three = with_rest 2 5 ∷ with_rest 1 4 ∷ with_rest 0 3 ∷ []

one-listed : {X : Type 0} (P : X → Type 0) (a : X) → P a → All P (a ∷ [])
one-listed P a x zero d l = x
one-listed P a x (suc k) d l = absurd (omega arith)

one-apart : {X : Type 0} (R : X → X → Type 0) (a : X) → AllPairs R (a ∷ [])
one-apart R a i j d l m = absurd (omega arith)

three-listed : {X : Type 0} (P : X → Type 0) (a b c : X) → P a → P b → P c → All P (a ∷ b ∷ c ∷ [])
three-listed P a b c x y z zero d l = x
three-listed P a b c x y z (suc zero) d l = y
three-listed P a b c x y z (suc (suc zero)) d l = z
three-listed P a b c x y z (suc (suc (suc k))) d l = absurd (omega arith)

three-apart : {X : Type 0} (R : X → X → Type 0) (a b c : X) → R a b → R a c → R b c → AllPairs R (a ∷ b ∷ c ∷ [])
three-apart R a b c x y z zero zero d l m = absurd (omega arith)
three-apart R a b c x y z zero (suc zero) d l m = x
three-apart R a b c x y z zero (suc (suc zero)) d l m = y
three-apart R a b c x y z zero (suc (suc (suc j))) d l m = absurd (omega arith)
three-apart R a b c x y z (suc zero) zero d l m = absurd (omega arith)
three-apart R a b c x y z (suc zero) (suc zero) d l m = absurd (omega arith)
three-apart R a b c x y z (suc zero) (suc (suc zero)) d l m = z
three-apart R a b c x y z (suc zero) (suc (suc (suc j))) d l m = absurd (omega arith)
three-apart R a b c x y z (suc (suc i)) j d l m = absurd (omega arith)

enters-rightly : EntersRightly counts asking_run told
enters-rightly = record {
  wanted = one-listed (IsWanted counting asking_run 0 (the_entry ∷ [])) the_call is-wanted;
  once = one-apart (λ c d. c ≢ d) the_call;
  added = one-listed (λ e. Contains (the_call ∷ []) (call_of e)) the_entry (0, omega arith, refl);
}

goes-on : (log : List LogEntry) (n r : ℕ) → GoesOn counting log (int (pos (suc n))) r
unfolding end_of answers
goes-on log n r = (0, refl, refl)

goes-down : (log : List LogEntry) (n r : ℕ) → IsStep counting log (int (pos (suc n))) (suc r) (atom (codes "down")) 1 (int (pos n))
unfolding answers occurrences firsts
goes-down log n r = record { given = (0, (0, omega arith, refl)); state = refl; ground = refl; within = omega arith }

reached-two : Reached counting (the_entry ∷ []) (int (pos 2)) 5 (int (pos 2)) 5
reached-two = at_start

reached-one : Reached counting (the_entry ∷ []) (int (pos 2)) 5 (int (pos 1)) 4
reached-one = by_step (int (pos 2)) 5 (atom (codes "down")) 1 (int (pos 1)) 4 reached-two (goes-on (the_entry ∷ []) 1 5) (goes-down (the_entry ∷ []) 1 4) refl

reached-none : Reached counting (the_entry ∷ []) (int (pos 2)) 5 (int (pos 0)) 3
reached-none = by_step (int (pos 1)) 4 (atom (codes "down")) 1 (int (pos 0)) 3 reached-one (goes-on (the_entry ∷ []) 0 4) (goes-down (the_entry ∷ []) 0 3) refl

are-expanded : AreExpanded false counting (the_entry ∷ []) (the_call ∷ []) the_three
are-expanded = record {
  of_calls = three-listed (λ e. Contains (the_call ∷ []) e.call) (with_rest 2 5) (with_rest 1 4) (with_rest 0 3) (0, omega arith, refl) (0, omega arith, refl) (0, omega arith, refl);
  reached = three-listed (λ e. CallReaches counting (the_entry ∷ []) e.call e.pair.state e.pair.rest) (with_rest 2 5) (with_rest 1 4) (with_rest 0 3) reached-two reached-one reached-none;
  once = three-apart (IsAnother false) (with_rest 2 5) (with_rest 1 4) (with_rest 0 3) (λ same e. absurd (cc)) (λ same e. absurd (cc)) (λ same e. absurd (cc));
}

-- whatever bounds the Ticks, or the loads, of the bodies of 2 is no less than 2, or than 3
whole-front : IsFront 0 (the_entry ∷ []) (the_entry ∷ [])
whole-front = record { behind = []; parts = refl; enough = omega arith }

least-ticks : (n : ℕ) → AtMost its_ticks counting (the_entry ∷ []) (int (pos 2)) 5 n → 2 ≤ n
unfolding events_of count_ticks
least-ticks n h = (h (the_entry ∷ []) whole-front).both (goes-on (the_entry ∷ []) 1 5) 0

least-loads : (n : ℕ) → AtMost its_loads counting (the_entry ∷ []) (int (pos 2)) 5 n → 3 ≤ n
unfolding events_of loads_of
least-loads n h = (h (the_entry ∷ []) whole-front).both (goes-on (the_entry ∷ []) 1 5) 0

-- these are the largest numbers
most-ticks : MostTicks counting (the_entry ∷ []) the_three 2
most-ticks = record {
  holds = three-listed (λ e. AtMost its_ticks counting (the_entry ∷ []) e.pair.state e.pair.rest 2) (with_rest 2 5) (with_rest 1 4) (with_rest 0 3) (two-ticks 2 5) (two-ticks 1 4) (two-ticks 0 3);
  least = λ m h. least-ticks m (h 0 (with_rest 2 5) (omega arith));
}

most-loads : MostLoads counting (the_entry ∷ []) the_three 3
most-loads = record {
  holds = three-listed (λ e. AtMost its_loads counting (the_entry ∷ []) e.pair.state e.pair.rest 3) (with_rest 2 5) (with_rest 1 4) (with_rest 0 3) (three-loads 2 5) (three-loads 1 4) (three-loads 0 3);
  least = λ m h. least-loads m (h 0 (with_rest 2 5) (omega arith));
}

-- the call is a chain by itself, and no other is longer: two evaluations at one time at most
the-chain : IsChain counting (the_entry ∷ []) (the_call ∷ []) (the_call ∷ [])
unfolding AreJoined
the-chain = record { among = one-listed (Contains (the_call ∷ [])) the_call (0, omega arith, refl); different = one-apart (λ c d. c ≢ d) the_call; joined = tt }

longest-chain : LongestChain counting (the_entry ∷ []) (the_call ∷ []) 1
longest-chain = record { holds = chains_are_short counting (the_entry ∷ []) (the_call ∷ []); least = λ m h. h (the_call ∷ []) the-chain }

seven-runs : (depth : ℕ) → run_loads asking_run (the_entry ∷ []) depth ≡ 1
unfolding cut loads_of
seven-runs depth = refl

keeps-bounds : KeepsToBounds counts asking_run told
keeps-bounds = record {
  expanded = the_three;
  number = refl;
  are_expanded = are-expanded;
  goals = λ ticks h. let two : 2 ≤ ticks = least-ticks ticks (h 0 (with_rest 2 5) (omega arith)) in omega arith;
  runs = λ depth loads reaches h. let three : 3 ≤ loads = least-loads loads (h 0 (with_rest 2 5) (omega arith)) in let run : run_loads asking_run (the_entry ∷ []) depth ≡ 1 = seven-runs depth in omega arith;
  expansions = λ reached h.
      let three : 3 ≤ reached the_call =
      h 0 the_call (omega arith) (int (pos 2) ∷ int (pos 1) ∷ int (pos 0) ∷ [])
      (three-apart (λ s t. s ≢ t) (int (pos 2)) (int (pos 1)) (int (pos 0)) (λ e. absurd (cc)) (λ e. absurd (cc)) (λ e. absurd (cc)))
      (three-listed (λ s. (r : ℕ) × CallReaches counting (the_entry ∷ []) the_call s r) (int (pos 2)) (int (pos 1)) (int (pos 0)) (5, reached-two) (4, reached-one) (3, reached-none)) in
      omega arith;
}

-- ---- two queries: the first left what the second found

abbrev none_counted : ℕ → QueryCounts
none_counted n = record { known = n; first = n; work = record { goals = 0; runs = 0; expansions = 0 } }

each-is_told : told_of_each (the_entry ∷ []) (the_call ∷ []) (none_counted 0 ∷ none_counted 1 ∷ []) ≡
    record { log = the_entry ∷ []; entered = the_call ∷ []; query = none_counted 0 } ∷
    record { log = the_entry ∷ []; entered = the_call ∷ []; query = none_counted 1 } ∷ []
unfolding told_of_each
each-is_told = refl

-- and the second entered none
none-entered : calls_entered (record { log = the_entry ∷ []; entered = the_call ∷ []; query = none_counted 1 }) ≡ []
none-entered = refl
