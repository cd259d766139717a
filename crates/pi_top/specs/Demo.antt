-- The text of the demo program: a shortest way through n places, each joined to the next and to another one, and the number of ways to place six queens. (Own.)
use Rattle.std.specs.Prelude.{ℕ, zero, suc, ◌+◌, ◌*◌, ◌-◌, ◌%◌, List, [], ◌++◌}
use Rattle.std.specs.Fmt.{decimal}
use lib.Chars.{codes}

-- one line of the facts: a place, and one that it is joined to
abbrev pub edge_line : ℕ → ℕ → List ℕ
edge_line i j = codes "edge(" ++ (decimal i ++ (codes "," ++ (decimal j ++ codes ").\n")))

-- the two lines of place i among n places
abbrev pub place_lines : ℕ → ℕ → List ℕ
place_lines n i = edge_line i ((i + 1) % n) ++ edge_line i ((5 * i + 1) % n)

-- those of the first k places, in order
unfoldable pub edge_lines : ℕ → ℕ → List ℕ
edge_lines n zero = []
edge_lines n (suc k) = edge_lines n k ++ place_lines n k

abbrev pub rules_text : ℕ → List ℕ
rules_text last =
    codes "import cp, planner.\n" ++
    (codes "main => best_plan(0,_,D), println(D), println(count_all(queens(6,_))).\n" ++
    (codes "final(" ++ (decimal last ++ (codes ") => true.\n" ++
    (codes "action(X,Y,A,K) => edge(X,Z), Y = Z, A = Z, K = 1.\n" ++
    (codes "queens(K,Q) => Q = new_list(K), Q :: 1..K, foreach(I in 1..K-1, J in I+1..K) Q[I] #!= Q[J], abs(Q[I]-Q[J]) #!= J-I end, solve(Q).\n" ++
    codes "index (+,-)\n"))))))

-- the program over n places, which are numbered from 0
abbrev pub demo_program : ℕ → List ℕ
demo_program n = rules_text (n - 1) ++ edge_lines n n
