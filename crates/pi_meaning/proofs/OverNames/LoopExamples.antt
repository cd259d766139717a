-- Loops, assignments, comprehensions and facts, worked out: what the definitions are meant to say of them.
use Rattle.std.proofs.Common.{◌≡◌, ℕ, zero, suc, List, [], ◌∷◌, refl}
use Rattle.std.specs.Prelude.{pos, true, false, Some, codes}
use Rattle.pi_terms.specs.Tree.{Tree, atom, var as variable}
use Rattle.pi_effects.specs.Items.{list_of, list_onto as list_before}
use Rattle.pi_syntax.specs.ExpTree.{ExpTree, no_exps, list, array, or, range, collect, foreach, while_do, do_while, quote, atom as name, int as number}
use Rattle.pi_syntax.specs.ProgramTree.{fact, ProgramTree}
use Rattle.pi_syntax.specs.declared.program.Decl.{Decl}
use Rattle.pi_syntax.specs.declared.program.Mode.{Mode}
use Rattle.pi_traces.specs.Trace.{Tick, Out, Done, Raise}
use Rattle.pi_traces.specs.Depth.{Ended, Spent}
use Rattle.pi_meaning.specs.OverNames.Prelude.{calls, exps, v, equal, all}
use Rattle.pi_meaning.proofs.Machine.Worked.{Outcome, Seen, seen, told, run_of, n, compound, is}

abbrev i : ℕ → ExpTree
i k = number (pos k)

abbrev done_with : List Seen → Outcome
done_with events = record { events = events; stop = Ended Done }

abbrev X : ExpTree
X = v (codes "X")

abbrev Y : ExpTree
Y = v (codes "Y")

abbrev I : ExpTree
I = v (codes "I")

abbrev S : ExpTree
S = v (codes "S")

abbrev T : ExpTree
T = v (codes "T")

abbrev to : ExpTree → ExpTree → ExpTree
to x e = calls (codes ":=") (x ∷ e ∷ [])

abbrev goes_over : ExpTree → ExpTree → ExpTree
goes_over e d = calls (codes "in") (e ∷ d ∷ [])

abbrev from_to : ℕ → ℕ → ExpTree
from_to j k = range (i j) (i k)

abbrev plus : ExpTree → ExpTree → ExpTree
plus a b = calls (codes "+") (a ∷ b ∷ [])

abbrev times : ExpTree → ExpTree → ExpTree
times a b = calls (codes "*") (a ∷ b ∷ [])

abbrev ticks : ℕ → List Seen → List Seen
ticks zero events = events
ticks (suc k) events = seen Tick ∷ ticks k events

abbrev shows : List ℕ → ℕ → Seen
shows text k = told (is text (n k) ∷ [])

-- S = 0, foreach(I in 1..4) T = I*I, S := S+T end, T = done
names-of_turns :
    run_of [] (all (equal S (i 0) ∷ foreach (exps (goes_over I (from_to 1 4) ∷ [])) (all (equal T (times I I) ∷ to S (plus S T) ∷ [])) ∷ equal T (name (codes "done")) ∷ [])) 9 9
    ≡ done_with (seen Tick ∷ seen Tick ∷ seen Tick ∷ seen Tick ∷ told (is (codes "S") (n 30) ∷ is (codes "T") (atom (codes "done")) ∷ []) ∷ [])
unfolding run_of
names-of_turns = refl

-- L = [X*X : X in 1..4, X mod 2 == 0], M = find_all(_Y, member(_Y,[c,a,b]))
abbrev cab : ExpTree
cab = list (exps (name (codes "c") ∷ name (codes "a") ∷ name (codes "b") ∷ []))

comprehension-collects :
    run_of [] (all (equal (v (codes "L")) (collect false (times X X) (exps (goes_over X (from_to 1 4) ∷ calls (codes "==") (calls (codes "mod") (X ∷ i 2 ∷ []) ∷ i 0 ∷ []) ∷ [])))
    ∷ equal (v (codes "M")) (calls (codes "find_all") (v (codes "_Y") ∷ calls (codes "member") (v (codes "_Y") ∷ cab ∷ []) ∷ [])) ∷ [])) 99 9
    ≡ done_with (ticks 8 (told (is (codes "L") (list_of (n 4 ∷ n 16 ∷ [])) ∷ is (codes "M") (list_of (atom (codes "c") ∷ atom (codes "a") ∷ atom (codes "b") ∷ [])) ∷ []) ∷ []))
unfolding run_of list_before
comprehension-collects = refl

-- {X+Y : X in 1..2, Y in 1..2}
iterators-nest :
    run_of [] (equal (v (codes "L")) (collect true (plus X Y) (exps (goes_over X (from_to 1 2) ∷ goes_over Y (from_to 1 2) ∷ [])))) 9 9
    ≡ done_with (seen Tick ∷ seen Tick ∷ seen Tick ∷ seen Tick ∷ seen Tick ∷ seen Tick ∷ told (is (codes "L") (compound (codes "{}") (n 2 ∷ n 3 ∷ n 3 ∷ n 4 ∷ [])) ∷ []) ∷ [])
unfolding run_of list_before
iterators-nest = refl

-- I = 0, while (I < 3) print(I), I := I+1 end
abbrev counting : ExpTree
counting = all (equal I (i 0) ∷ while_do (calls (codes "<") (I ∷ i 3 ∷ [])) (all (calls (codes "print") (I ∷ []) ∷ to I (plus I (i 1)) ∷ [])) ∷ [])

while-ticks :
    (run_of [] counting 3 9 ≡ done_with (seen Tick ∷ seen (Out (codes "0")) ∷ seen Tick ∷ seen (Out (codes "1")) ∷ seen Tick ∷ seen (Out (codes "2")) ∷ shows (codes "I") 3 ∷ []))
    × (run_of [] counting 2 9 ≡ record { events = seen Tick ∷ seen (Out (codes "0")) ∷ seen Tick ∷ seen (Out (codes "1")) ∷ []; stop = Spent })
unfolding run_of
while-ticks = (refl, refl)

-- I = 0, do I := I+1 while (I < 2)
do-ticks :
    run_of [] (all (equal I (i 0) ∷ do_while (to I (plus I (i 1))) (calls (codes "<") (I ∷ i 2 ∷ [])) ∷ [])) 9 9
    ≡ done_with (seen Tick ∷ seen Tick ∷ shows (codes "I") 2 ∷ [])
unfolding run_of
do-ticks = refl

-- index (+,-) e(a,1).  e(a,2).
abbrev fact_of : ExpTree → ExpTree → ExpTree
fact_of a b = calls (codes "e") (a ∷ b ∷ [])

abbrev facts_program : ProgramTree
facts_program =
    record { decl = Decl.Index ((Mode.Plus ∷ Mode.Minus ∷ []) ∷ []); clause = Some (fact (fact_of (name (codes "a")) (i 1))) } ∷
    record { decl = Decl.Plain; clause = Some (fact (fact_of (name (codes "a")) (i 2))) } ∷ []

facts-unify :
    (run_of facts_program (fact_of (name (codes "a")) X) 9 9 ≡ done_with (seen Tick ∷ shows (codes "X") 1 ∷ shows (codes "X") 2 ∷ []))
    × (run_of facts_program (fact_of Y (i 1)) 9 9 ≡ done_with (seen Tick ∷ []))
unfolding run_of
facts-unify = (refl, refl)

-- foreach(I in 1) true end: raised when the iterator starts, without a Tick
no-collection :
    run_of [] (foreach (exps (goes_over I (i 1) ∷ [])) (name (codes "true"))) 9 9
    ≡ record { events = []; stop = Ended (Raise (compound (codes "type_error") (atom (codes "collection") ∷ n 1 ∷ []))) }
unfolding run_of
no-collection = refl

-- (X = 1 ; foreach(I in 1..2) X = I end): the X of the other branch stands before the loop, so that it is one variable in both turns
names-before_loops :
    run_of [] (or (exps (equal X (i 1) ∷ foreach (exps (goes_over I (from_to 1 2) ∷ [])) (equal X I) ∷ []))) 9 9
    ≡ done_with (shows (codes "X") 1 ∷ seen Tick ∷ seen Tick ∷ [])
unfolding run_of
names-before_loops = refl

-- foreach(I in 1..2) T = I end, foreach(I in 3..4) T = I end: a name of one loop is another one in the next
abbrev over : ℕ → ExpTree
over k = foreach (exps (goes_over I (from_to k k) ∷ [])) (equal T I)

loops-have_their_own :
    run_of [] (all (over 1 ∷ over 3 ∷ [])) 9 9 ≡ done_with (seen Tick ∷ seen Tick ∷ told [] ∷ [])
unfolding run_of
loops-have_their_own = refl

-- foreach(I in 1..2) T := I end, T = done: a local name that a loop assigns is another one behind it
local-assignments :
    run_of [] (all (foreach (exps (goes_over I (from_to 1 2) ∷ [])) (to T I) ∷ equal T (name (codes "done")) ∷ [])) 9 9
    ≡ done_with (seen Tick ∷ seen Tick ∷ told (is (codes "T") (atom (codes "done")) ∷ []) ∷ [])
unfolding run_of
local-assignments = refl

-- foreach(_I in [Y]) Y = 1 end, Y = 2
names-of_collections :
    run_of [] (all (foreach (exps (goes_over (v (codes "_I")) (list (exps (Y ∷ []))) ∷ [])) (equal Y (i 1)) ∷ equal Y (i 2) ∷ [])) 9 9
    ≡ done_with (seen Tick ∷ shows (codes "Y") 2 ∷ [])
unfolding run_of
names-of_collections = refl

-- X = 7, foreach(X in 1..2) print(X) end: the pattern's X is new in each turn; foreach(f(X) in [1, $f(2)]) print(X) end passes over the 1 behind its Tick
patterns-are_new :
    (run_of [] (all (equal X (i 7) ∷ foreach (exps (goes_over X (from_to 1 2) ∷ [])) (calls (codes "print") (X ∷ [])) ∷ [])) 9 9
    ≡ done_with (seen Tick ∷ seen (Out (codes "1")) ∷ seen Tick ∷ seen (Out (codes "2")) ∷ shows (codes "X") 7 ∷ []))
    × (run_of [] (foreach (exps (goes_over (calls (codes "f") (X ∷ [])) (list (exps (i 1 ∷ quote (calls (codes "f") (i 2 ∷ [])) ∷ []))) ∷ [])) (calls (codes "print") (X ∷ []))) 9 9
    ≡ done_with (seen Tick ∷ seen Tick ∷ seen (Out (codes "2")) ∷ told [] ∷ []))
unfolding run_of
patterns-are_new = (refl, refl)

-- Y = Y, foreach(X in [X : X in 1..1]) true end, Z = Z: the X of the pattern stands behind what the iterator goes over, so that it has no variable there. Z is numbered behind Y and the
-- variable of the comprehension.
abbrev Z : ExpTree
Z = v (codes "Z")

patterns-stand_behind :
    run_of [] (all (equal Y Y ∷ foreach (exps (goes_over X (collect false X (exps (goes_over X (from_to 1 1) ∷ []))) ∷ [])) (name (codes "true")) ∷ equal Z Z ∷ [])) 9 9
    ≡ done_with (seen Tick ∷ seen Tick ∷ told (is (codes "Y") (variable 0) ∷ is (codes "Z") (variable 2) ∷ []) ∷ [])
unfolding run_of
patterns-stand_behind = refl

-- L = find_all({[{Z,Y} : Z in 1..2], Y}, foreach(I in []) true end): the comprehension stands before the Y behind it, so that each of its turns has one of its own, also where the loop of the
-- goal made a variable of that Y; and so it is where no loop did. Likewise what an iterator goes over: of [Z : Z in [Y]] the Y is another one than that behind it.
abbrev found_by : ExpTree → ExpTree
found_by goal =
    equal (v (codes "L")) (calls (codes "find_all") (array (exps (collect false (array (exps (Z ∷ Y ∷ []))) (exps (goes_over Z (from_to 1 2) ∷ [])) ∷ Y ∷ [])) ∷ goal ∷ []))

abbrev gone_over : ExpTree → ExpTree
gone_over goal = equal (v (codes "L")) (calls (codes "find_all") (array (exps (collect false Z (exps (goes_over Z (list (exps (Y ∷ []))) ∷ [])) ∷ Y ∷ [])) ∷ goal ∷ []))

abbrev pair : ℕ → ℕ → Tree
pair j k = compound (codes "{}") (n j ∷ variable k ∷ [])

names-further_behind :
    (run_of [] (found_by (foreach (exps (goes_over I (list no_exps) ∷ [])) (name (codes "true")))) 9 9
    ≡ done_with (seen Tick ∷ seen Tick ∷ told (is (codes "L") (list_of (compound (codes "{}") (list_of (pair 1 1 ∷ pair 2 2 ∷ []) ∷ variable 3 ∷ []) ∷ [])) ∷ is (codes "Y") (variable 4) ∷ []) ∷ []))
    × (run_of [] (found_by (name (codes "true"))) 9 9
    ≡ done_with (seen Tick ∷ seen Tick ∷ told (is (codes "L") (list_of (compound (codes "{}") (list_of (pair 1 1 ∷ pair 2 2 ∷ []) ∷ variable 3 ∷ []) ∷ [])) ∷ is (codes "Y") (variable 4) ∷ []) ∷ []))
    × (run_of [] (gone_over (foreach (exps (goes_over I (list no_exps) ∷ [])) (name (codes "true")))) 9 9
    ≡ done_with (seen Tick ∷ told (is (codes "L") (list_of (compound (codes "{}") (list_of (variable 1 ∷ []) ∷ variable 2 ∷ []) ∷ [])) ∷ is (codes "Y") (variable 3) ∷ []) ∷ []))
    × (run_of [] (gone_over (name (codes "true"))) 9 9
    ≡ done_with (seen Tick ∷ told (is (codes "L") (list_of (compound (codes "{}") (list_of (variable 1 ∷ []) ∷ variable 2 ∷ []) ∷ [])) ∷ is (codes "Y") (variable 3) ∷ []) ∷ []))
unfolding run_of
names-further_behind = (refl, refl, refl, refl)
