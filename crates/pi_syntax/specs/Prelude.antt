-- The rules that each program may call without writing them. (own)
use Rattle.std.specs.Prelude.{ℕ, List, [], ◌∷◌, ◌++◌, codes}

-- a line and the line feed that ends it
abbrev pub line : List ℕ → List ℕ
line text = text ++ 10 ∷ []

-- the text of the prelude
unfoldable pub prelude_text : List ℕ
prelude_text =
    line (codes "member(X,[Y|_]) ?=> X = Y.") ++
    line (codes "member(X,[_|L]) => member(X,L).") ++
    line (codes "append(Xs,Ys,Zs), var(Xs) ?=> Xs = [], Ys = Zs.") ++
    line (codes "append(Xs,Ys,Zs), var(Xs) => Xs = [X|R], Zs = [X|S], append(R,Ys,S).") ++
    line (codes "append([],Ys,Zs) => Ys = Zs.") ++
    line (codes "append([X|Xs],Ys,Zs) => Zs = [X|S], append(Xs,Ys,S).") ++
    line (codes "select(X,[Y|L],R) ?=> X = Y, R = L.") ++
    line (codes "select(X,[Y|L],R) => R = [Y|S], select(X,L,S).") ++
    line (codes "between(L,U,X), L =< U ?=> X = L.") ++
    line (codes "between(L,U,X), L < U => between(L+1,U,X).")
