-- How heads, arguments and assignments are read, worked out.
use Rattle.std.proofs.Common.{◌≡◌, ℕ, List, [], ◌∷◌, refl}
use Rattle.std.specs.Prelude.{pos, true, false, Some, None, codes}
use Rattle.pi_terms.specs.Tree.{Tree, atom, var as variable}
use Rattle.pi_effects.specs.Items.{list_of, list_onto as list_before}
use Rattle.pi_syntax.specs.ExpTree.{ExpTree, list, list_onto, array, range, range_by, index, collect, or, foreach, at, quote, str, atom as name, int as number}
use Rattle.pi_syntax.specs.ProgramTree.{function, fact, ProgramTree}
use Rattle.pi_syntax.specs.declared.program.Decl.{Decl}
use Rattle.pi_syntax.specs.declared.program.Mode.{Mode}
use Rattle.pi_traces.specs.Trace.{Tick, Out, Done, Raise}
use Rattle.pi_traces.specs.Depth.{Ended}
use Rattle.pi_meaning.specs.Shared.Within.{a_body}
use Rattle.pi_meaning.specs.OverNames.Prelude.{calls, exps, v, equal, all, part}
use Rattle.pi_meaning.specs.Shared.View.{query_view}
use Rattle.pi_meaning.proofs.Machine.Worked.{Outcome, Seen, seen, told, raising_later, run_with, run_in, run_of, n, compound, is}

abbrev i : ℕ → ExpTree
i k = number (pos k)

abbrev a : List ℕ → ExpTree
a text = name text

abbrev done_with : List Seen → Outcome
done_with events = record { events = events; stop = Ended Done }

abbrev raised_with : List Seen → Tree → Outcome
raised_with events ball = record { events = events; stop = Ended (Raise ball) }

abbrev X : ExpTree
X = v (codes "X")

abbrev Y : ExpTree
Y = v (codes "Y")

abbrev S : ExpTree
S = v (codes "S")

abbrev items : List ExpTree → ExpTree
items es = list (exps es)

abbrev plus : ExpTree → ExpTree → ExpTree
plus x y = calls (codes "+") (x ∷ y ∷ [])

abbrev f_of : ExpTree → ExpTree
f_of e = calls (codes "f") (e ∷ [])

-- p([X,Y|_], X, W@f({Y}), "ab") => println(W).
abbrev head_program : ProgramTree
head_program =
    part (calls (codes "p") (list_onto (exps (X ∷ Y ∷ [])) (v (codes "_")) ∷ X ∷ at (codes "W") (f_of (array (exps (Y ∷ [])))) ∷ str (codes "ab") ∷ []))
    None false (calls (codes "println") (v (codes "W") ∷ [])) ∷ []

abbrev asked : ExpTree → ExpTree
asked x = calls (codes "p") (items (a (codes "c") ∷ i 2 ∷ i 3 ∷ []) ∷ x ∷ quote (f_of (array (exps (i 2 ∷ [])))) ∷ items (a (codes "a") ∷ a (codes "b") ∷ []) ∷ [])

heads-match :
    (run_of head_program (asked (a (codes "c"))) 9 9 ≡ done_with (seen Tick ∷ seen (Out (codes "f({2})\n")) ∷ told [] ∷ []))
    × (run_of head_program (asked (a (codes "d"))) 9 9 ≡ done_with (seen Tick ∷ []))
    × (run_of head_program (asked X) 9 9 ≡ done_with (seen Tick ∷ []))
unfolding run_of
heads-match = (refl, refl, refl)

-- q(X), X = Y ?=> println(Y).  q(_) => true.: what a condition binds stays, and a backtrackable rule leaves the later one
abbrev condition_program : ProgramTree
condition_program =
    part (calls (codes "q") (X ∷ [])) (Some (equal X Y)) true (calls (codes "println") (Y ∷ [])) ∷
    part (calls (codes "q") (v (codes "_") ∷ [])) None false (name (codes "true")) ∷ []

conditions-bind : run_of condition_program (calls (codes "q") (i 7 ∷ [])) 9 9 ≡ done_with (seen Tick ∷ seen (Out (codes "7\n")) ∷ told [] ∷ told [] ∷ [])
unfolding run_of
conditions-bind = refl

-- index (-) e(X@f(_)).
named-in_facts :
    run_of (record { decl = Decl.Index ((Mode.Minus ∷ []) ∷ []); clause = Some (fact (calls (codes "e") (at (codes "X") (f_of (v (codes "_"))) ∷ []))) } ∷ []) (calls (codes "e") (v (codes "Z") ∷ [])) 9 9
    ≡ done_with (seen Tick ∷ told (is (codes "Z") (compound (codes "f") (variable 2 ∷ [])) ∷ []) ∷ [])
unfolding run_of
named-in_facts = refl

-- index (+) g(f(1)).: the argument of a `+` is ground
ground-places :
    run_of (record { decl = Decl.Index ((Mode.Plus ∷ []) ∷ []); clause = Some (fact (calls (codes "g") (f_of (i 1) ∷ []))) } ∷ []) (calls (codes "g") (quote (f_of X) ∷ [])) 9 9
    ≡ done_with (seen Tick ∷ [])
unfolding run_of
ground-places = refl

-- total(L) = S => S = 0, foreach(X in L) S := S+X end.: the value stands behind the body
abbrev total_program : ProgramTree
total_program = record {
  decl = Decl.Plain;
  clause = Some (function (record {
    head = calls (codes "total") (v (codes "L") ∷ []);
    value = S;
    cond = None;
    body = Some (all (equal S (i 0) ∷ foreach (exps (calls (codes "in") (X ∷ v (codes "L") ∷ []) ∷ [])) (calls (codes ":=") (S ∷ plus S X ∷ [])) ∷ []));
  }));
} ∷ []

values-stand_behind : run_of total_program (equal Y (calls (codes "total") (items (i 3 ∷ i 4 ∷ []) ∷ []))) 9 9 ≡ done_with (seen Tick ∷ seen Tick ∷ seen Tick ∷ told (is (codes "Y") (n 7) ∷ []) ∷ [])
unfolding run_of
values-stand_behind = refl

-- newest(L) = S => foreach(X in L) S = X end.: a name of the value stands before a loop in the body
abbrev newest_program : ProgramTree
newest_program = record {
  decl = Decl.Plain;
  clause = Some (function (record {
    head = calls (codes "newest") (v (codes "L") ∷ []);
    value = S;
    cond = None;
    body = Some (foreach (exps (calls (codes "in") (X ∷ v (codes "L") ∷ []) ∷ [])) (equal S X));
  }));
} ∷ []

values-stand_before : run_of newest_program (equal Y (calls (codes "newest") (items (i 3 ∷ []) ∷ []))) 9 9 ≡ done_with (seen Tick ∷ seen Tick ∷ told (is (codes "Y") (n 3) ∷ []) ∷ [])
unfolding run_of
values-stand_before = refl

-- L = find_all([_X : _ in 1..2], (true ; _X = 1)): a name of the goal stands before a loop in the term, whatever branch was taken
late-terms :
    run_of [] (equal (v (codes "L")) (calls (codes "find_all") (collect false (v (codes "_X")) (exps (calls (codes "in") (v (codes "_") ∷ range (i 1) (i 2) ∷ []) ∷ []))
    ∷ or (exps (a (codes "true") ∷ equal (v (codes "_X")) (i 1) ∷ [])) ∷ []))) 9 9
    ≡ done_with (seen Tick ∷ seen Tick ∷ seen Tick ∷ seen Tick ∷ told (is (codes "L") (list_of (list_of (variable 1 ∷ variable 1 ∷ []) ∷ list_of (n 1 ∷ n 1 ∷ []) ∷ [])) ∷ []) ∷ [])
unfolding run_of
late-terms = refl

-- catch(foreach(I in 1..2) X = I end, find_all(X, member(X,[1])), true): the names of what is to be caught stand before the goal, so X is one variable in all turns, whatever that comes to
caught-names_stand_before :
    run_of [] (calls (codes "catch") (foreach (exps (calls (codes "in") (v (codes "I") ∷ range (i 1) (i 2) ∷ []) ∷ [])) (equal X (v (codes "I")))
    ∷ calls (codes "find_all") (X ∷ calls (codes "member") (X ∷ items (i 1 ∷ []) ∷ []) ∷ []) ∷ a (codes "true") ∷ [])) 9 9
    ≡ done_with (seen Tick ∷ seen Tick ∷ seen Tick ∷ seen Tick ∷ [])
unfolding run_of list_before
caught-names_stand_before = refl

-- S = 0, foreach(X in 1..2, Y in 1..2) S := S+Y end: each loop hands on what it assigns
iterators-assign :
    run_of [] (all (equal S (i 0) ∷ foreach (exps (calls (codes "in") (X ∷ range (i 1) (i 2) ∷ []) ∷ calls (codes "in") (Y ∷ range (i 1) (i 2) ∷ []) ∷ [])) (calls (codes ":=") (S ∷ plus S Y ∷ [])) ∷ [])) 9 9
    ≡ done_with (seen Tick ∷ seen Tick ∷ seen Tick ∷ seen Tick ∷ seen Tick ∷ seen Tick ∷ told (is (codes "S") (n 6) ∷ []) ∷ [])
unfolding run_of
iterators-assign = refl

-- X = 1, X := X+1, Y = X
assignment-replaces :
    run_of [] (all (equal X (i 1) ∷ calls (codes ":=") (X ∷ plus X (i 1) ∷ []) ∷ equal Y X ∷ [])) 9 1 ≡ done_with (told (is (codes "X") (n 2) ∷ is (codes "Y") (n 2) ∷ []) ∷ [])
unfolding run_of
assignment-replaces = refl

-- X = [[1,2],[3,4]], Y = X[2,1]; 1..2..5
abbrev grid : ExpTree
grid = items (items (i 1 ∷ i 2 ∷ []) ∷ items (i 3 ∷ i 4 ∷ []) ∷ [])

indexes-in_turn :
    run_of [] (all (equal X grid ∷ equal Y (index X (exps (i 2 ∷ i 1 ∷ []))) ∷ [])) 9 1
    ≡ done_with (told (is (codes "X") (list_of (list_of (n 1 ∷ n 2 ∷ []) ∷ list_of (n 3 ∷ n 4 ∷ []) ∷ [])) ∷ is (codes "Y") (n 3) ∷ []) ∷ [])
unfolding run_of list_before
indexes-in_turn = refl

ranges-are_lists :
    run_of [] (equal X (range_by (i 1) (i 2) (i 5))) 9 1 ≡ done_with (told (is (codes "X") (list_of (n 1 ∷ n 3 ∷ n 5 ∷ [])) ∷ []) ∷ [])
unfolding run_of list_before
ranges-are_lists = refl

-- each `_` is a name of its own, and behind `$` nothing is evaluated: X = $f(_, _, 1+1, 1..2)
terms-written :
    run_of [] (equal X (quote (calls (codes "f") (v (codes "_") ∷ v (codes "_") ∷ plus (i 1) (i 1) ∷ range (i 1) (i 2) ∷ [])))) 9 1
    ≡ done_with (told (is (codes "X") (compound (codes "f") (variable 1 ∷ variable 2 ∷ compound (codes "+") (n 1 ∷ n 1 ∷ []) ∷ compound (codes "..") (n 1 ∷ n 2 ∷ []) ∷ [])) ∷ []) ∷ [])
unfolding run_of
terms-written = refl

-- call(append([a]),[b],X); call of a `catch`, which counts a Tick; call of what is no predicate, and of what is no name
abbrev by_call : List ExpTree → ExpTree
by_call es = calls (codes "call") es

calls-by_term :
    (run_of [] (by_call (quote (calls (codes "append") (items (a (codes "a") ∷ []) ∷ [])) ∷ items (a (codes "b") ∷ []) ∷ X ∷ [])) 9 9
    ≡ done_with (seen Tick ∷ seen Tick ∷ told (is (codes "X") (list_of (atom (codes "a") ∷ atom (codes "b") ∷ [])) ∷ []) ∷ []))
    × (run_of [] (by_call (quote (calls (codes "catch") (calls (codes "throw") (a (codes "e") ∷ []) ∷ X ∷ a (codes "true") ∷ [])) ∷ [])) 9 9 ≡ done_with (seen Tick ∷ told (is (codes "X") (atom (codes "e")) ∷ []) ∷ []))
    × (run_of [] (by_call (quote (calls (codes "not") (a (codes "fail") ∷ [])) ∷ [])) 9 9 ≡ raised_with [] (compound (codes "unknown_name") (atom (codes "not") ∷ n 1 ∷ [])))
    × (run_of [] (by_call (i 1 ∷ [])) 9 9 ≡ raised_with [] (compound (codes "type_error") (atom (codes "callable") ∷ n 1 ∷ [])))
    × (run_of [] (by_call (quote (calls (codes "plan") (X ∷ Y ∷ [])) ∷ [])) 9 9 ≡ raised_with [] (compound (codes "unknown_name") (atom (codes "final") ∷ n 1 ∷ [])))
unfolding run_of list_before
calls-by_term = (refl, refl, refl, refl, refl)

-- what a constraint is handed: X #= Y+abs(1)*length([a]); [X] :: 1..1+1; sum([1+1]) #= -X
abbrev handed : ExpTree → Outcome
handed goal = run_with raising_later (query_view []) [] goal 9 9

operands-stay :
    (handed (calls (codes "#=") (X ∷ plus Y (calls (codes "*") (calls (codes "abs") (i 1 ∷ []) ∷ calls (codes "length") (items (a (codes "a") ∷ []) ∷ []) ∷ [])) ∷ []))
    ≡ raised_with [] (compound (codes "#=") (variable 0 ∷ compound (codes "+") (variable 1 ∷ compound (codes "*") (compound (codes "abs") (n 1 ∷ []) ∷ n 1 ∷ []) ∷ []) ∷ [])))
    × (handed (calls (codes "::") (items (X ∷ []) ∷ range (i 1) (plus (i 1) (i 1)) ∷ []))
    ≡ raised_with [] (compound (codes "::") (list_of (variable 0 ∷ []) ∷ compound (codes "..") (n 1 ∷ n 2 ∷ []) ∷ [])))
    × (handed (calls (codes "#=") (calls (codes "sum") (items (plus (i 1) (i 1) ∷ []) ∷ []) ∷ calls (codes "-") (X ∷ []) ∷ []))
    ≡ raised_with [] (compound (codes "#=") (compound (codes "sum") (list_of (n 2 ∷ []) ∷ []) ∷ compound (codes "-") (variable 0 ∷ []) ∷ [])))
unfolding run_with list_before
operands-stay = (refl, refl, refl)

-- between the signs of constraints: (1-1) #\/ Y; X #<=> Y+1 #> 2*abs(3); #~ (X #/\ length([a])); X #\/ sum([1,2])+1 #= Y
truths-stay :
    (handed (calls (codes "#\\/") (calls (codes "-") (i 1 ∷ i 1 ∷ []) ∷ Y ∷ [])) ≡ raised_with [] (compound (codes "#\\/") (n 0 ∷ variable 0 ∷ [])))
    × (handed (calls (codes "#<=>") (X ∷ calls (codes "#>") (plus Y (i 1) ∷ calls (codes "*") (i 2 ∷ calls (codes "abs") (i 3 ∷ []) ∷ []) ∷ []) ∷ []))
    ≡ raised_with [] (compound (codes "#<=>") (variable 0 ∷ compound (codes "#>") (compound (codes "+") (variable 1 ∷ n 1 ∷ [])
    ∷ compound (codes "*") (n 2 ∷ compound (codes "abs") (n 3 ∷ []) ∷ []) ∷ []) ∷ [])))
    × (handed (calls (codes "#~") (calls (codes "#/\\") (X ∷ calls (codes "length") (items (a (codes "a") ∷ []) ∷ []) ∷ []) ∷ []))
    ≡ raised_with [] (compound (codes "#~") (compound (codes "#/\\") (variable 0 ∷ n 1 ∷ []) ∷ [])))
    × (handed (calls (codes "#\\/") (X ∷ calls (codes "#=") (plus (calls (codes "sum") (items (i 1 ∷ i 2 ∷ []) ∷ [])) (i 1) ∷ Y ∷ []) ∷ []))
    ≡ raised_with [] (compound (codes "#\\/") (variable 0 ∷ compound (codes "#=") (compound (codes "+") (compound (codes "sum") (list_of (n 1 ∷ n 2 ∷ []) ∷ []) ∷ n 1 ∷ []) ∷ variable 1 ∷ []) ∷ [])))
unfolding run_with list_before
truths-stay = (refl, refl, refl, refl)

-- current_resource(): what is left in a planner's body, and nothing in a query
abbrev resource : ExpTree
resource = equal X (calls (codes "current_resource") [])

resource-told :
    (run_in (record { log = []; being_answered = []; within = a_body 3 }) [] resource 9 1 ≡ done_with (told (is (codes "X") (n 3) ∷ []) ∷ []))
    × (run_of [] resource 9 1 ≡ raised_with [] (atom (codes "no_resource")))
unfolding run_in run_of
resource-told = (refl, refl)
