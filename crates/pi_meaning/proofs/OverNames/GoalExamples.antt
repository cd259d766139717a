-- Goals without loops, worked out: what the definitions are meant to say of them.
use Rattle.std.proofs.Common.{◌≡◌, ℕ, zero, suc, List, [], ◌∷◌, refl}
use Rattle.std.specs.Prelude.{false, pos, negsuc, Some, None, codes}
use Rattle.pi_terms.specs.Tree.{Tree, int, atom, var as variable}
use Rattle.pi_effects.specs.Items.{list_of, list_onto as list_before}
use Rattle.pi_syntax.specs.ExpTree.{ExpTree, list, or, arrow, if_then, quote, branch, no_branches, atom as name, int as number, str}
use Rattle.pi_syntax.specs.ProgramTree.{function, ProgramTree}
use Rattle.pi_syntax.specs.declared.program.Decl.{Decl}
use Rattle.pi_traces.specs.Trace.{Tick, Out, Done, Raise, Deep}
use Rattle.pi_traces.specs.Depth.{Ended}
use Rattle.pi_settling.specs.SolveCalls.{solve_calls}
use Rattle.pi_meaning.specs.Shared.Within.{a_body}
use Rattle.pi_meaning.specs.OverNames.Prelude.{calls, exps, v, equal, all, part}
use Rattle.pi_meaning.proofs.Machine.Worked.{Outcome, Seen, seen, told, run_in, run_of, n, compound, is}

abbrev i : ℕ → ExpTree
i k = number (pos k)

-- the number below 0 that is this far from -1
abbrev minus : ℕ → ExpTree
minus k = number (negsuc k)

abbrev items : List ExpTree → ExpTree
items es = list (exps es)

-- events, and then no further answer
abbrev done_with : List Seen → Outcome
done_with events = record { events = events; stop = Ended Done }

abbrev raised_with : List Seen → Tree → Outcome
raised_with events ball = record { events = events; stop = Ended (Raise ball) }

-- catch((X=1, throw(e)), e, true): the binding of the goal is gone
catch-leaves_nothing :
    run_of [] (calls (codes "catch") (all (equal (v (codes "X")) (i 1) ∷ calls (codes "throw") (name (codes "e") ∷ []) ∷ []) ∷ name (codes "e") ∷ name (codes "true") ∷ [])) 9 1
    ≡ done_with (told (is (codes "X") (variable 0) ∷ []) ∷ [])
unfolding run_of
catch-leaves_nothing = refl

-- A = -7 // 2, B = -7 /< 2, C = -7 /> 2, D = -7 mod 3, E = -7 rem 3
abbrev result : List ℕ → List ℕ → ℕ → ExpTree
result x sign k = equal (v x) (calls sign (minus 6 ∷ i k ∷ []))

numbers-computed :
    run_of [] (all (result (codes "A") (codes "//") 2 ∷ result (codes "B") (codes "/<") 2 ∷ result (codes "C") (codes "/>") 2 ∷ result (codes "D") (codes "mod") 3 ∷ result (codes "E") (codes "rem") 3 ∷ [])) 9 1
    ≡ done_with (told (is (codes "A") (int (negsuc 2)) ∷ is (codes "B") (int (negsuc 3)) ∷ is (codes "C") (int (negsuc 2)) ∷ is (codes "D") (n 2) ∷ is (codes "E") (int (negsuc 0)) ∷ []) ∷ [])
unfolding run_of
numbers-computed = refl

zero-divides_none : run_of [] (equal (v (codes "X")) (calls (codes "//") (i 1 ∷ i 0 ∷ []))) 9 1 ≡ raised_with [] (atom (codes "zero_divisor"))
unfolding run_of
zero-divides_none = refl

-- fib(0) = 0.  fib(1) = 1.  fib(N) = fib(N-1)+fib(N-2), N > 1 => true.
abbrev less : ExpTree → ℕ → ExpTree
less e k = calls (codes "-") (e ∷ i k ∷ [])

abbrev fib_of : ExpTree → ExpTree
fib_of e = calls (codes "fib") (e ∷ [])

abbrev fib_program : ProgramTree
fib_program =
    record { decl = Decl.Plain; clause = Some (function (record { head = fib_of (i 0); value = i 0; cond = None; body = None })) } ∷
    record { decl = Decl.Plain; clause = Some (function (record { head = fib_of (i 1); value = i 1; cond = None; body = None })) } ∷
    record {
      decl = Decl.Plain;
      clause = Some (function (record {
        head = fib_of (v (codes "N"));
        value = calls (codes "+") (fib_of (less (v (codes "N")) 1) ∷ fib_of (less (v (codes "N")) 2) ∷ []);
        cond = Some (calls (codes ">") (v (codes "N") ∷ i 1 ∷ []));
        body = Some (name (codes "true"));
      }));
    } ∷ []

-- five calls: of 3, 2, 1, 0 and 1
functions-have_values : run_of fib_program (equal (v (codes "X")) (fib_of (i 3))) 9 9
    ≡ done_with (seen Tick ∷ seen Tick ∷ seen Tick ∷ seen Tick ∷ seen Tick ∷ told (is (codes "X") (n 2) ∷ []) ∷ [])
unfolding run_of
functions-have_values = refl

no-function_applies : run_of fib_program (equal (v (codes "X")) (fib_of (minus 0))) 9 9
    ≡ raised_with (seen Tick ∷ []) (compound (codes "unresolved_function_call") (compound (codes "fib") (int (negsuc 0) ∷ []) ∷ []))
unfolding run_of
no-function_applies = refl

-- append(X,Y,[a,b]), by the prelude
abbrev ab : ExpTree
ab = items (name (codes "a") ∷ name (codes "b") ∷ [])

abbrev list_tree : List Tree → Tree
list_tree ts = list_of ts

prelude-runs :
    run_of [] (calls (codes "append") (v (codes "X") ∷ v (codes "Y") ∷ ab ∷ [])) 9 9
    ≡ done_with (seen Tick ∷ told (is (codes "X") (list_tree []) ∷ is (codes "Y") (list_tree (atom (codes "a") ∷ atom (codes "b") ∷ [])) ∷ [])
    ∷ seen Tick ∷ told (is (codes "X") (list_tree (atom (codes "a") ∷ [])) ∷ is (codes "Y") (list_tree (atom (codes "b") ∷ [])) ∷ [])
    ∷ seen Tick ∷ told (is (codes "X") (list_tree (atom (codes "a") ∷ atom (codes "b") ∷ [])) ∷ is (codes "Y") (list_tree []) ∷ []) ∷ [])
unfolding run_of list_before
prelude-runs = refl

-- println("ab"), X = "ab"; in the body of a planner call there is no output
abbrev printing : ExpTree
printing = all (calls (codes "println") (str (codes "ab") ∷ []) ∷ equal (v (codes "X")) (str (codes "ab")) ∷ [])

texts-are_lists :
    (run_of [] printing 9 1 ≡ done_with (seen (Out (codes "ab\n")) ∷ told (is (codes "X") (list_tree (atom (codes "a") ∷ atom (codes "b") ∷ [])) ∷ []) ∷ []))
    × (run_in (record { log = []; being_answered = []; within = a_body 3 }) [] printing 9 1 ≡ raised_with [] (atom (codes "output_in_plan")))
unfolding run_of run_in list_before
texts-are_lists = (refl, refl)

-- not (X = 1, fail), once member(Y,[a,b])
first-answers :
    run_of [] (all (calls (codes "not") (all (equal (v (codes "X")) (i 1) ∷ name (codes "fail") ∷ []) ∷ []) ∷ calls (codes "once") (calls (codes "member") (v (codes "Y") ∷ ab ∷ []) ∷ []) ∷ [])) 9 9
    ≡ done_with (seen Tick ∷ told (is (codes "X") (variable 1) ∷ is (codes "Y") (atom (codes "a")) ∷ []) ∷ [])
unfolding run_of
first-answers = refl

-- if fail then X = 1 end, X = 2
if-without_else :
    run_of [] (all (if_then (branch (name (codes "fail")) (equal (v (codes "X")) (i 1)) no_branches) ∷ equal (v (codes "X")) (i 2) ∷ [])) 9 1
    ≡ done_with (told (is (codes "X") (n 2) ∷ []) ∷ [])
unfolding run_of
if-without_else = refl

-- (X = 1 ; true -> X = 2 ; X = 3): what stands behind the arrow is its else part, the branch before it is an alternative
arrows-group_right :
    run_of [] (or (exps (equal (v (codes "X")) (i 1) ∷ arrow (name (codes "true")) (equal (v (codes "X")) (i 2)) ∷ equal (v (codes "X")) (i 3) ∷ []))) 9 1
    ≡ done_with (told (is (codes "X") (n 1) ∷ []) ∷ told (is (codes "X") (n 2) ∷ []) ∷ [])
unfolding run_of
arrows-group_right = refl

-- catch(call(foo,1), $unknown_name(N,A), true)
names-unknown :
    run_of [] (calls (codes "catch") (calls (codes "call") (name (codes "foo") ∷ i 1 ∷ []) ∷ quote (calls (codes "unknown_name") (v (codes "N") ∷ v (codes "A") ∷ [])) ∷ name (codes "true") ∷ [])) 9 2
    ≡ done_with (told (is (codes "N") (atom (codes "foo")) ∷ is (codes "A") (n 1) ∷ []) ∷ [])
unfolding run_of
names-unknown = refl

-- call(post_event, 1, 2): what isn't built of later stages is unknown
later-unknown :
    run_of [] (calls (codes "call") (name (codes "post_event") ∷ i 1 ∷ i 2 ∷ [])) 9 2
    ≡ raised_with [] (compound (codes "unknown_name") (atom (codes "post_event") ∷ n 2 ∷ []))
unfolding run_of solve_calls
later-unknown = refl

-- p("ab") => true.
abbrev text_program : ProgramTree
text_program = part (calls (codes "p") (str (codes "ab") ∷ [])) None false (name (codes "true")) ∷ []

-- X = a, p([X,b]): items are followed one by one; p(ab) and p([a]) have no rule
texts-match :
    (run_of text_program (all (equal (v (codes "X")) (name (codes "a")) ∷ calls (codes "p") (items (v (codes "X") ∷ name (codes "b") ∷ []) ∷ []) ∷ [])) 9 9
    ≡ done_with (seen Tick ∷ told (is (codes "X") (atom (codes "a")) ∷ []) ∷ []))
    × (run_of text_program (calls (codes "p") (str (codes "ab") ∷ [])) 9 9 ≡ done_with (seen Tick ∷ told [] ∷ []))
    × (run_of text_program (calls (codes "p") (name (codes "ab") ∷ [])) 9 9 ≡ done_with (seen Tick ∷ []))
    × (run_of text_program (calls (codes "p") (items (name (codes "a") ∷ []) ∷ [])) 9 9 ≡ done_with (seen Tick ∷ []))
    × (run_of text_program (calls (codes "p") (items (v (codes "_Y") ∷ name (codes "b") ∷ []) ∷ [])) 9 9 ≡ done_with (seen Tick ∷ []))
unfolding run_of
texts-match = (refl, refl, refl, refl, refl)

-- M = find_all(_Y, member(_Y,[c,a])), K = count_all(member(_,[c,a]))
abbrev ca : ExpTree
ca = items (name (codes "c") ∷ name (codes "a") ∷ [])

answers-collected :
    run_of [] (all (equal (v (codes "M")) (calls (codes "find_all") (v (codes "_Y") ∷ calls (codes "member") (v (codes "_Y") ∷ ca ∷ []) ∷ []))
    ∷ equal (v (codes "K")) (calls (codes "count_all") (calls (codes "member") (v (codes "_") ∷ ca ∷ []) ∷ [])) ∷ [])) 9 9
    ≡ done_with (seen Tick ∷ seen Tick ∷ seen Tick ∷ seen Tick ∷ seen Tick ∷ seen Tick ∷ told (is (codes "M") (list_tree (atom (codes "c") ∷ atom (codes "a") ∷ [])) ∷ is (codes "K") (n 2) ∷ []) ∷ [])
unfolding run_of list_before
answers-collected = refl

-- catch(println(a), f(), true), where f() = e => println(x): what is to be caught is evaluated first
catch-evaluates_first :
    run_of (record { decl = Decl.Plain; clause = Some (function (record { head = calls (codes "f") []; value = name (codes "e"); cond = None; body = Some (calls (codes "println") (name (codes "x") ∷ [])) })) } ∷ [])
    (calls (codes "catch") (calls (codes "println") (name (codes "a") ∷ []) ∷ calls (codes "f") [] ∷ name (codes "true") ∷ [])) 9 9
    ≡ done_with (seen Tick ∷ seen (Out (codes "x\n")) ∷ seen (Out (codes "a\n")) ∷ told [] ∷ [])
unfolding run_of
catch-evaluates_first = refl

-- if X = 1 then Y = X end: what a condition binds stays
conditions-bind :
    run_of [] (if_then (branch (equal (v (codes "X")) (i 1)) (equal (v (codes "Y")) (v (codes "X"))) no_branches)) 9 1
    ≡ done_with (told (is (codes "X") (n 1) ∷ is (codes "Y") (n 1) ∷ []) ∷ [])
unfolding run_of
conditions-bind = refl

-- X = X, L = find_all(_Z, true): the variables of copies are numbered on from the state of the call, in which X and L were made
copies-are_new :
    run_of [] (all (equal (v (codes "X")) (v (codes "X")) ∷ equal (v (codes "L")) (calls (codes "find_all") (v (codes "_Z") ∷ name (codes "true") ∷ [])) ∷ [])) 9 1
    ≡ done_with (told (is (codes "X") (variable 0) ∷ is (codes "L") (list_tree (variable 2 ∷ [])) ∷ []) ∷ [])
unfolding run_of list_before
copies-are_new = refl

-- call(true) takes one from the depth, and call($call(true)) two, with a Tick for the `call` to which `call` leads
abbrev called_goal : ExpTree
called_goal = calls (codes "call") (name (codes "true") ∷ [])

calls-take_depth :
    (run_of [] called_goal 9 0 ≡ record { events = []; stop = Ended Deep })
    × (run_of [] called_goal 9 1 ≡ done_with (told [] ∷ []))
    × (run_of [] (calls (codes "call") (quote called_goal ∷ [])) 9 1 ≡ record { events = seen Tick ∷ []; stop = Ended Deep })
    × (run_of [] (calls (codes "call") (quote called_goal ∷ [])) 9 2 ≡ done_with (seen Tick ∷ told [] ∷ []))
unfolding run_of
calls-take_depth = (refl, refl, refl, refl)

-- f(0) = 1.  f(N) = N*f(N-1), N > 0 => true.
abbrev factorial_of : ExpTree → ExpTree
factorial_of e = calls (codes "f") (e ∷ [])

abbrev factorial_program : ProgramTree
factorial_program =
    record { decl = Decl.Plain; clause = Some (function (record { head = factorial_of (i 0); value = i 1; cond = None; body = None })) } ∷
    record {
      decl = Decl.Plain;
      clause = Some (function (record {
        head = factorial_of (v (codes "N"));
        value = calls (codes "*") (v (codes "N") ∷ factorial_of (less (v (codes "N")) 1) ∷ []);
        cond = Some (calls (codes ">") (v (codes "N") ∷ i 0 ∷ []));
        body = Some (name (codes "true"));
      }));
    } ∷ []

abbrev ticks : ℕ → List Seen → List Seen
ticks zero events = events
ticks (suc k) events = seen Tick ∷ ticks k events

factorials :
    (run_of factorial_program (equal (v (codes "X")) (factorial_of (i 20))) 99 99 ≡ done_with (ticks 21 (told (is (codes "X") (n 2432902008176640000) ∷ []) ∷ [])))
    × (run_of factorial_program (equal (v (codes "X")) (factorial_of (i 34))) 99 99 ≡ raised_with (ticks 35 []) (atom (codes "integer_overflow")))
unfolding run_of
factorials = (refl, refl)
