-- The prelude's rules, which are as any others (own): what its text reads as.
use Rattle.std.specs.Prelude.{ℕ, List, [], ◌∷◌, Bool, true, false, Option, Some, None, codes}
use Rattle.pi_syntax.specs.ExpTree.{ExpTree, var, list, list_onto, call, and, int, ExpTrees, no_exps, exp}
use Rattle.pi_syntax.specs.ProgramTree.{rule, PartTree, ProgramTree}
use Rattle.pi_syntax.specs.declared.program.Decl.{Decl}
use Rattle.std.specs.Prelude.{pos}

abbrev pub exps : List ExpTree → ExpTrees
exps [] = no_exps
exps (e ∷ es) = exp e (exps es)

abbrev pub calls : List ℕ → List ExpTree → ExpTree
calls name es = call name (exps es)

abbrev pub v : List ℕ → ExpTree
v name = var name

-- `[X|L]`, and the empty list
abbrev pub cell : ExpTree → ExpTree → ExpTree
cell x rest = list_onto (exp x no_exps) rest

abbrev pub empty : ExpTree
empty = list no_exps

abbrev pub equal : ExpTree → ExpTree → ExpTree
equal a b = calls (codes "=") (a ∷ b ∷ [])

abbrev pub all : List ExpTree → ExpTree
all es = and (exps es)

-- a rule without or with a condition; the Boolean says whether it is backtrackable
abbrev pub part : ExpTree → Option ExpTree → Bool → ExpTree → PartTree
part head c back body = record { decl = Decl.Plain; clause = Some (rule (record { head = head; cond = c; events = []; back = back; body = body })) }

unfoldable pub prelude : ProgramTree
prelude =
    -- member(X,[Y|_]) ?=> X = Y.
    part (calls (codes "member") (v (codes "X") ∷ cell (v (codes "Y")) (v (codes "_")) ∷ [])) None true (equal (v (codes "X")) (v (codes "Y"))) ∷
    -- member(X,[_|L]) => member(X,L).
    part (calls (codes "member") (v (codes "X") ∷ cell (v (codes "_")) (v (codes "L")) ∷ [])) None false
    (calls (codes "member") (v (codes "X") ∷ v (codes "L") ∷ [])) ∷
    -- append(Xs,Ys,Zs), var(Xs) ?=> Xs = [], Ys = Zs.
    part (calls (codes "append") (v (codes "Xs") ∷ v (codes "Ys") ∷ v (codes "Zs") ∷ [])) (Some (calls (codes "var") (v (codes "Xs") ∷ []))) true
    (all (equal (v (codes "Xs")) empty ∷ equal (v (codes "Ys")) (v (codes "Zs")) ∷ [])) ∷
    -- append(Xs,Ys,Zs), var(Xs) => Xs = [X|R], Zs = [X|S], append(R,Ys,S).
    part (calls (codes "append") (v (codes "Xs") ∷ v (codes "Ys") ∷ v (codes "Zs") ∷ [])) (Some (calls (codes "var") (v (codes "Xs") ∷ []))) false
    (all (equal (v (codes "Xs")) (cell (v (codes "X")) (v (codes "R"))) ∷ equal (v (codes "Zs")) (cell (v (codes "X")) (v (codes "S")))
    ∷ calls (codes "append") (v (codes "R") ∷ v (codes "Ys") ∷ v (codes "S") ∷ []) ∷ [])) ∷
    -- append([],Ys,Zs) => Ys = Zs.
    part (calls (codes "append") (empty ∷ v (codes "Ys") ∷ v (codes "Zs") ∷ [])) None false (equal (v (codes "Ys")) (v (codes "Zs"))) ∷
    -- append([X|Xs],Ys,Zs) => Zs = [X|S], append(Xs,Ys,S).
    part (calls (codes "append") (cell (v (codes "X")) (v (codes "Xs")) ∷ v (codes "Ys") ∷ v (codes "Zs") ∷ [])) None false
    (all (equal (v (codes "Zs")) (cell (v (codes "X")) (v (codes "S"))) ∷ calls (codes "append") (v (codes "Xs") ∷ v (codes "Ys") ∷ v (codes "S") ∷ []) ∷ [])) ∷
    -- select(X,[Y|L],R) ?=> X = Y, R = L.
    part (calls (codes "select") (v (codes "X") ∷ cell (v (codes "Y")) (v (codes "L")) ∷ v (codes "R") ∷ [])) None true
    (all (equal (v (codes "X")) (v (codes "Y")) ∷ equal (v (codes "R")) (v (codes "L")) ∷ [])) ∷
    -- select(X,[Y|L],R) => R = [Y|S], select(X,L,S).
    part (calls (codes "select") (v (codes "X") ∷ cell (v (codes "Y")) (v (codes "L")) ∷ v (codes "R") ∷ [])) None false
    (all (equal (v (codes "R")) (cell (v (codes "Y")) (v (codes "S"))) ∷ calls (codes "select") (v (codes "X") ∷ v (codes "L") ∷ v (codes "S") ∷ []) ∷ [])) ∷
    -- between(L,U,X), L =< U ?=> X = L.
    part (calls (codes "between") (v (codes "L") ∷ v (codes "U") ∷ v (codes "X") ∷ [])) (Some (calls (codes "=<") (v (codes "L") ∷ v (codes "U") ∷ []))) true
    (equal (v (codes "X")) (v (codes "L"))) ∷
    -- between(L,U,X), L < U => between(L+1,U,X).
    part (calls (codes "between") (v (codes "L") ∷ v (codes "U") ∷ v (codes "X") ∷ [])) (Some (calls (codes "<") (v (codes "L") ∷ v (codes "U") ∷ []))) false
    (calls (codes "between") (calls (codes "+") (v (codes "L") ∷ int (pos 1) ∷ []) ∷ v (codes "U") ∷ v (codes "X") ∷ [])) ∷
    []
