-- Things that belong to calls, call by call: where each is of one of some calls, there are no more of them than these have together.
use Rattle.std.specs.Prelude.{◌≡◌, ℕ, zero, suc, ◌+◌, ◌≤◌, List, [], ◌∷◌, length, sum_by, All, AllPairs, Contains, ⊤, refl}
use Rattle.std.proofs.Common.{arith}
use Rattle.std.proofs.lemmas.List.Sums.{sum_by-cons}
use Rattle.pi_traces.specs.Trace.{Call}
use Rattle.pi_solve_spec.proofs.TraceLemmas.{none-contained}

-- ---- all of a list, and all pairs of it, by its items

abbrev pub Each : {X : Type 0} → (X → Type 0) → List X → Type 0
Each P [] = ⊤
Each P (x ∷ xs) = P x × Each P xs

abbrev pub Apart : {X : Type 0} → (X → X → Type 0) → List X → Type 0
Apart R [] = ⊤
Apart R (x ∷ xs) = Each (R x) xs × Apart R xs

pub each-all : {X : Type 0} (P : X → Type 0) (xs : List X) → All P xs → Each P xs
each-all P [] h = tt
each-all P (x ∷ xs) h = (h 0 x (omega arith), each-all P xs (λ k d l. h (suc k) d (omega arith)))

pub all-each : {X : Type 0} (P : X → Type 0) (xs : List X) → Each P xs → All P xs
all-each P [] h k d l = absurd (omega arith)
all-each P (x ∷ xs) h zero d l = h.0
all-each P (x ∷ xs) h (suc k) d l = all-each P xs h.1 k d (omega arith)

pub apart-pairs : {X : Type 0} (R : X → X → Type 0) (xs : List X) → AllPairs R xs → Apart R xs
apart-pairs R [] h = tt
apart-pairs R (x ∷ xs) h = (each-all (R x) xs (λ k d l. h 0 (suc k) d (omega arith) (omega arith)), apart-pairs R xs (λ i j d l m. h (suc i) (suc j) d (omega arith) (omega arith)))

pub pairs-apart : {X : Type 0} (R : X → X → Type 0) (xs : List X) → Apart R xs → AllPairs R xs
pairs-apart R [] h i j d l m = absurd (omega arith)
pairs-apart R (x ∷ xs) h zero zero d l m = absurd (omega arith)
pairs-apart R (x ∷ xs) h zero (suc j) d l m = all-each (R x) xs h.0 j d (omega arith)
pairs-apart R (x ∷ xs) h (suc i) zero d l m = absurd (omega arith)
pairs-apart R (x ∷ xs) h (suc i) (suc j) d l m = pairs-apart R xs h.1 i j d (omega arith) (omega arith)

-- ---- those of the first call, and the others

abbrev Of : {X : Type 0} → (X → Call) → List Call → List X → Type 0
Of key calls xs = Each (λ x. Contains calls (key x)) xs

unfoldable mine : {X : Type 0} (key : X → Call) (c : Call) (cs : List Call) (xs : List X) → Of key (c ∷ cs) xs → List X
mine key c cs [] h = []
mine key c cs (x ∷ xs) ((zero, l, e), hs) = x ∷ mine key c cs xs hs
mine key c cs (x ∷ xs) ((suc k, l, e), hs) = mine key c cs xs hs

unfoldable others : {X : Type 0} (key : X → Call) (c : Call) (cs : List Call) (xs : List X) → Of key (c ∷ cs) xs → List X
others key c cs [] h = []
others key c cs (x ∷ xs) ((zero, l, e), hs) = others key c cs xs hs
others key c cs (x ∷ xs) ((suc k, l, e), hs) = x ∷ others key c cs xs hs

both-count : {X : Type 0} (key : X → Call) (c : Call) (cs : List Call) (xs : List X) (h : Of key (c ∷ cs) xs) → length xs ≡ length (mine key c cs xs h) + length (others key c cs xs h)
unfolding mine others
both-count key c cs [] h = refl
both-count key c cs (x ∷ xs) ((zero, l, e), hs) = let rest : length xs ≡ length (mine key c cs xs hs) + length (others key c cs xs hs) = both-count key c cs xs hs in omega arith
both-count key c cs (x ∷ xs) ((suc k, l, e), hs) = let rest : length xs ≡ length (mine key c cs xs hs) + length (others key c cs xs hs) = both-count key c cs xs hs in omega arith

are-mine : {X : Type 0} (key : X → Call) (c : Call) (cs : List Call) (xs : List X) (h : Of key (c ∷ cs) xs) → Each (λ x. c ≡ key x) (mine key c cs xs h)
unfolding mine
are-mine key c cs [] h = tt
are-mine key c cs (x ∷ xs) ((zero, l, e), hs) = (e, are-mine key c cs xs hs)
are-mine key c cs (x ∷ xs) ((suc k, l, e), hs) = are-mine key c cs xs hs

are-others : {X : Type 0} (key : X → Call) (c : Call) (cs : List Call) (xs : List X) (h : Of key (c ∷ cs) xs) → Of key cs (others key c cs xs h)
unfolding others
are-others key c cs [] h = tt
are-others key c cs (x ∷ xs) ((zero, l, e), hs) = are-others key c cs xs hs
are-others key c cs (x ∷ xs) ((suc k, l, e), hs) = ((k, omega arith, e), are-others key c cs xs hs)

each-mine : {X : Type 0} (key : X → Call) (P : X → Type 0) (c : Call) (cs : List Call) (xs : List X) (h : Of key (c ∷ cs) xs) → Each P xs → Each P (mine key c cs xs h)
unfolding mine
each-mine key P c cs [] h ps = tt
each-mine key P c cs (x ∷ xs) ((zero, l, e), hs) ps = (ps.0, each-mine key P c cs xs hs ps.1)
each-mine key P c cs (x ∷ xs) ((suc k, l, e), hs) ps = each-mine key P c cs xs hs ps.1

each-others : {X : Type 0} (key : X → Call) (P : X → Type 0) (c : Call) (cs : List Call) (xs : List X) (h : Of key (c ∷ cs) xs) → Each P xs → Each P (others key c cs xs h)
unfolding others
each-others key P c cs [] h ps = tt
each-others key P c cs (x ∷ xs) ((zero, l, e), hs) ps = each-others key P c cs xs hs ps.1
each-others key P c cs (x ∷ xs) ((suc k, l, e), hs) ps = (ps.0, each-others key P c cs xs hs ps.1)

apart-mine : {X : Type 0} (key : X → Call) (R : X → X → Type 0) (c : Call) (cs : List Call) (xs : List X) (h : Of key (c ∷ cs) xs) → Apart R xs → Apart R (mine key c cs xs h)
unfolding mine
apart-mine key R c cs [] h rs = tt
apart-mine key R c cs (x ∷ xs) ((zero, l, e), hs) rs = (each-mine key (R x) c cs xs hs rs.0, apart-mine key R c cs xs hs rs.1)
apart-mine key R c cs (x ∷ xs) ((suc k, l, e), hs) rs = apart-mine key R c cs xs hs rs.1

apart-others : {X : Type 0} (key : X → Call) (R : X → X → Type 0) (c : Call) (cs : List Call) (xs : List X) (h : Of key (c ∷ cs) xs) → Apart R xs → Apart R (others key c cs xs h)
unfolding others
apart-others key R c cs [] h rs = tt
apart-others key R c cs (x ∷ xs) ((zero, l, e), hs) rs = apart-others key R c cs xs hs rs.1
apart-others key R c cs (x ∷ xs) ((suc k, l, e), hs) rs = (each-others key (R x) c cs xs hs rs.0, apart-others key R c cs xs hs rs.1)

-- ---- what a call has at most

-- so many at most are of this call, where all of them are and any two stand so to each other
abbrev pub HasAtMost : {X : Type 0} → (X → Call) → (X → Type 0) → (X → X → Type 0) → Call → ℕ → Type 0
HasAtMost {X} key P R c most = (xs : List X) → Each (λ x. c ≡ key x) xs → Each P xs → Apart R xs → length xs ≤ most

pub together : {X : Type 0} (key : X → Call) (P : X → Type 0) (R : X → X → Type 0) (most : Call → ℕ) (calls : List Call) (xs : List X) → Of key calls xs → Each P xs → Apart R xs →
    Each (λ c. HasAtMost key P R c (most c)) calls → length xs ≤ sum_by most calls
together key P R most [] [] h ps rs bounds = omega arith
together key P R most [] (x ∷ xs) h ps rs bounds = absurd (none-contained (key x) h.0)
together key P R most (c ∷ cs) xs h ps rs bounds =
    let first : length (mine key c cs xs h) ≤ most c = bounds.0 (mine key c cs xs h) (are-mine key c cs xs h) (each-mine key P c cs xs h ps) (apart-mine key R c cs xs h rs) in
    let rest : length (others key c cs xs h) ≤ sum_by most cs =
    together key P R most cs (others key c cs xs h) (are-others key c cs xs h) (each-others key P c cs xs h ps) (apart-others key R c cs xs h rs) bounds.1 in
    let count : length xs ≡ length (mine key c cs xs h) + length (others key c cs xs h) = both-count key c cs xs h in
    let sum : sum_by most (c ∷ cs) ≡ most c + sum_by most cs = sum_by-cons most c cs in
    omega arith
