-- With an objective the one answer of a labelling is a best assignment.
use Rattle.std.specs.Prelude.{◌≡◌, ◌⊎◌, ℕ, zero, suc, ◌+◌, ◌≤◌, ℤ, pos, negsuc, neg_ℤ, ◌+ℤ◌, ◌-ℤ◌, ◌<ℤ◌, ◌≤ℤ◌, Bool, true, false, List, [], ◌∷◌, Option, Some, None, Contains, codes, refl}
use Rattle.std.specs.Int.{int_min}
use Rattle.std.proofs.Common.{arith, ◌∙◌, ap, subst, inl, inr}
use Rattle.std.proofs.lemmas.Int.{ints, clamps}
use Rattle.pi_terms.specs.Tree.{Tree, int}
use Rattle.pi_constraints.specs.State.{State, IsState}
use Rattle.pi_traces.specs.Trace.{Trace, end, note, ans, Done, Raise, done, one, then, answers, end_of}
use Rattle.pi_traces.specs.Control.{chosen}
use Rattle.pi_traces.proofs.TraceLemmas.{alt-done}
use Rattle.pi_effects.specs.Exception.{type_error}
use Rattle.pi_settling.specs.SettlingLaws.{Settles}
use Rattle.pi_settling.specs.Options.{Objective}
use Rattle.pi_settling.specs.Confined.{confined}
use Rattle.pi_settling.specs.Reading.{Operand, Sum, reads, refuses, Solving}
use Rattle.pi_settling.specs.Rounds.{better_sign, operand_posted, begins, betters, worth, round, weighed, bettered, sought, solved_for, solved}
use Rattle.pi_label_laws.specs.SolutionLaws.{RunsWhatWaits, AreTold}
use Rattle.pi_label_laws.specs.ObjectiveLaws.{IsAssignment, PostsMore, IsBetter, IsReadRightly, IsBestAnswer, ObjectiveGivesTheBest}
use Rattle.pi_label_laws.proofs.PickLemmas.{AreOut}
use Rattle.pi_label_laws.proofs.BeginLemmas.{asked-good, good-out}
use Rattle.pi_label_laws.proofs.GivesLemmas.{confined-goes_on, answers-solved, Gives, gives}
use Rattle.pi_label_laws.proofs.RoundLemmas.{AllGood, Round, round-of}

-- ---- the first answer of a trace, or none

chosen-none : (t : Trace State) (f : State → Trace State) (u : Trace State) → end_of t ≡ Done → answers t ≡ [] → (end_of (chosen t f u) ≡ end_of u) × (answers (chosen t f u) ≡ answers u)
unfolding chosen answers end_of
chosen-none (end Done) f u e none = (refl, refl)
chosen-none (end x) f u e none = absurd cc
chosen-none (note n t) f u e none = chosen-none t f u e none
chosen-none (ans x t) f u e none = absurd cc

first-same : (x y : State) (xs ys : List State) → ◌≡◌ {A = List State} (x ∷ xs) (y ∷ ys) → x ≡ y
first-same x y xs ys e = ap (first_or x) e
  where
    first_or : State → List State → State
    first_or x [] = x
    first_or x (y ∷ ys) = y

chosen-some : (t : Trace State) (f : State → Trace State) (u : Trace State) (x : State) (rest : List State) → answers t ≡ x ∷ rest → (end_of (chosen t f u) ≡ end_of (f x)) × (answers (chosen t f u) ≡ answers (f x))
unfolding chosen answers end_of
chosen-some (end e) f u x rest same = absurd cc
chosen-some (note n t) f u x rest same = chosen-some t f u x rest same
chosen-some (ans y t) f u x rest same = let e : y ≡ x = first-same y x (answers t) rest same in (ap (λ (z : State). end_of (f z)) e, ap (λ (z : State). answers (f z)) e)

-- ---- values in the order of the objective

-- a smaller number for a better value
ahead : Bool → ℤ → ℤ
ahead false i = i
ahead true i = neg_ℤ i

better-ahead : (b : Bool) (i j : ℤ) → IsBetter b i j → ahead b i <ℤ ahead b j
unfolding ahead
better-ahead false i j h = h
better-ahead true i j h = omega (arith, ints, h)

no-place : (l : List ℤ) → Contains [] l → ⊥
no-place l (k, inside, e) = omega arith

-- a number that is below none of a list
least-of : (f : List ℤ → ℤ) (ls : List (List ℤ)) → (low : ℤ) × ((l : List ℤ) → Contains ls l → low ≤ℤ f l)
least-of f [] = (pos 0, λ l at. absurd (no-place l at))
least-of f (l ∷ ls) =
    let rest = least-of f ls in
    (int_min (f l) rest.0, λ m at. by f l ls rest.0 rest.1 m at)
  where
    min-first : (x y : ℤ) → int_min x y ≤ℤ x
    min-first x y = omega (arith, ints, clamps)

    min-second : (x y z : ℤ) → y ≤ℤ z → int_min x y ≤ℤ z
    min-second x y z h = omega (arith, ints, clamps, h)

    by : (f : List ℤ → ℤ) (l : List ℤ) (ls : List (List ℤ)) (low : ℤ) → ((m : List ℤ) → Contains ls m → low ≤ℤ f m) → (m : List ℤ) → Contains (l ∷ ls) m → int_min (f l) low ≤ℤ f m
    by f l ls low all m (zero, k, e) = subst (λ (z : List ℤ). int_min (f l) low ≤ℤ f z) e (min-first (f l) low)
    by f l ls low all m (suc j, k, e) = min-second (f l) low (f m) (all m (j, omega arith, e))

-- so many steps lead above a number
steps : (x low : ℤ) → (k : ℕ) × (x <ℤ (low +ℤ pos k))
steps x low = by (x -ℤ low) refl
  where
    enough : (x low : ℤ) (n : ℕ) → (x -ℤ low) ≡ pos n → x <ℤ (low +ℤ pos (suc n))
    enough x low n e = omega (arith, ints, e)

    none : (x low : ℤ) (n : ℕ) → (x -ℤ low) ≡ negsuc n → x <ℤ (low +ℤ pos 0)
    none x low n e = omega (arith, ints, e)

    by : (d : ℤ) → (x -ℤ low) ≡ d → (k : ℕ) × (x <ℤ (low +ℤ pos k))
    by (pos n) e = (suc n, enough x low n e)
    by (negsuc n) e = (0, none x low n e)

no-steps : (x low : ℤ) → low ≤ℤ x → x <ℤ (low +ℤ pos 0) → ⊥
no-steps x low h k = omega (arith, ints, h, k)

fewer-steps : (x y low : ℤ) (k : ℕ) → x <ℤ y → y <ℤ (low +ℤ pos (suc k)) → x <ℤ (low +ℤ pos k)
fewer-steps x y low k h l = omega (arith, ints, h, l)

-- ---- the later rounds

record Context (p : Solving) (o : Objective) (s : State) (value : List ℤ → ℤ) : Type 0 where
  settles : Settles p.settle
  runs : RunsWhatWaits p.drains
  state : IsState s
  good : AllGood s p.items
  right : IsReadRightly p o s value
  low : ℤ
  least : (values : List ℤ) → IsAssignment s p.items values → low ≤ℤ ahead o.greatest (value values)

abbrev Best : Solving → Objective → State → (List ℤ → ℤ) → Trace State → Type 0
Best p o s value t = (end_of t ≡ Done) × IsBestAnswer p.items o s value t

-- from some depth on nothing is raised
record Quiet (trace : ℕ → Trace State) : Type 0 where
  from : ℕ
  none : (d : ℕ) (ball : Tree) → from ≤ d → end_of (trace d) ≡ Raise ball → ⊥

-- from some depth on
record Reaches (p : Solving) (o : Objective) (s : State) (value : List ℤ → ℤ) (trace : ℕ → Trace State) : Type 0 where
  depth : ℕ
  best : (d : ℕ) → depth ≤ d → Best p o s value (trace d)

best-same : (p : Solving) (o : Objective) (s : State) (value : List ℤ → ℤ) (t u : Trace State) → end_of t ≡ end_of u → answers t ≡ answers u → Best p o s value u → Best p o s value t
best-same p o s value t u e same h = (
  e ∙ h.0,
  elim h.1 [
    | inl (none, no_) ↦ inl (same ∙ none, no_)
    | inr (r, values, is, told, has, best) ↦ inr (r, values, same ∙ is, told, has, best)
  ],
)

-- a better value is posted and settled
betters-is : (p : Solving) (o : Objective) (v : ℤ) (s q : State) → p.reading.relation (better_sign o.greatest) o.expression (int v) s ≡ one q → betters p o v s ≡ p.settle s q
unfolding then
betters-is p o v s q e = ap (λ (t : Trace State). then t (p.settle s)) e ∙ alt-done (p.settle s q)

-- a state that was found, in which the items come to an assignment
record Found (p : Solving) (s r : State) (values : List ℤ) : Type 0 where
  told : AreTold p.items r values
  has : IsAssignment s p.items values

-- what the round posts whose found assignment is to be bettered
abbrev BetterThan : Objective → (List ℤ → ℤ) → List ℤ → List ℤ → Type 0
BetterThan o value values others = IsBetter o.greatest (value others) (value values)

abbrev Posted : Solving → Objective → State → ℤ → State → Type 0
Posted p o s v q = p.reading.relation (better_sign o.greatest) o.expression (int v) s ≡ one q

-- what follows the answer of a round
abbrev follows : Solving → Objective → ℕ → State → State → Trace State
follows p o d s q = weighed o q (worth p o q) (bettered p o d s q)

round-is : (p : Solving) (o : Objective) (s q r : State) (v : ℤ) (leaves : List ℤ → Type 0) (d : ℕ) → Posted p o s v q → (once : Round p s q leaves) → once.depth ≤ d →
    bettered p o (suc d) s r v ≡ chosen once.trace (follows p o d s) (one r)
unfolding bettered
round-is p o s q r v leaves d e once l = ap (λ (u : Trace State). chosen u (follows p o d s) (one r)) (ap (round p d) (betters-is p o v s q e) ∙ once.is d l)

-- the round has no answer
last-best : (p : Solving) (o : Objective) (s q r : State) (value : List ℤ → ℤ) (values : List ℤ) → Found p s r values → Posted p o s (value values) q → (once : Round p s q (BetterThan o value values)) → answers once.trace ≡ [] →
    (d : ℕ) → suc once.depth ≤ d → Best p o s value (bettered p o d s r (value values))
unfolding answers end_of
last-best p o s q r value values f e once none zero l = absurd (omega arith)
last-best p o s q r value values f e once none (suc d) l =
    let is : bettered p o (suc d) s r (value values) ≡ chosen once.trace (follows p o d s) (one r) = round-is p o s q r (value values) (BetterThan o value values) d e once (omega arith) in
    let parts = chosen-none once.trace (follows p o d s) (one r) once.round_is.ends none in (
      ap end_of is ∙ parts.0,
      inr (r, values, ap answers is ∙ parts.1, f.told, f.has, λ others has better. once.round_is.none none others has better),
    )

-- it has one, from which the next goes on
next-best : (p : Solving) (o : Objective) (s q r : State) (value : List ℤ → ℤ) (values : List ℤ) → Posted p o s (value values) q → (once : Round p s q (BetterThan o value values)) → (x : State) (rest : List State) →
    answers once.trace ≡ x ∷ rest → (v : ℤ) → worth p o x ≡ Some v → (later : Reaches p o s value (λ d. bettered p o d s x v)) → (d : ℕ) → suc (once.depth + later.depth) ≤ d → Best p o s value (bettered p o d s r (value values))
next-best p o s q r value values e once x rest same v worthy later zero l = absurd (omega arith)
next-best p o s q r value values e once x rest same v worthy later (suc d) l =
    let is : bettered p o (suc d) s r (value values) ≡ chosen once.trace (follows p o d s) (one r) = round-is p o s q r (value values) (BetterThan o value values) d e once (omega arith) in
    let parts = chosen-some once.trace (follows p o d s) (one r) x rest same in
    let weighs : follows p o d s x ≡ bettered p o d s x v = ap (λ (w : Option ℤ). weighed o x w (bettered p o d s x)) worthy in
    best-same p o s value (bettered p o (suc d) s r (value values)) (bettered p o d s x v) (ap end_of is ∙ (parts.0 ∙ ap end_of weighs)) (ap answers is ∙ (parts.1 ∙ ap answers weighs)) (later.best d (omega arith))

-- what goes on from each better assignment
abbrev GoesOn : Solving → Objective → State → (List ℤ → ℤ) → List ℤ → Type 0
GoesOn p o s value values = (x : State) (others : List ℤ) → Found p s x others → BetterThan o value values others → Quiet (λ d. bettered p o d s x (value others)) → Reaches p o s value (λ d. bettered p o d s x (value others))

-- how it ends where the round has an answer
next-ends : (p : Solving) (o : Objective) (s q r : State) (value : List ℤ → ℤ) (values : List ℤ) → Posted p o s (value values) q → (once : Round p s q (BetterThan o value values)) → (x : State) (rest : List State) →
    answers once.trace ≡ x ∷ rest → (d : ℕ) → once.depth ≤ d → end_of (bettered p o (suc d) s r (value values)) ≡ end_of (follows p o d s x)
unfolding end_of
next-ends p o s q r value values e once x rest same d l =
    ap end_of (round-is p o s q r (value values) (BetterThan o value values) d e once l) ∙ (chosen-some once.trace (follows p o d s) (one r) x rest same).0

-- where the expression has no value it is raised
unworthy : (p : Solving) (o : Objective) (s x : State) (d : ℕ) → worth p o x ≡ None → (ball : Tree) × (end_of (follows p o d s x) ≡ Raise ball)
unfolding end_of
unworthy p o s x d none = (type_error (codes "integer") o.expression x, ap (λ (w : Option ℤ). end_of (weighed o x w (bettered p o d s x))) none)

worthy-ends : (p : Solving) (o : Objective) (s x : State) (d : ℕ) (v : ℤ) → worth p o x ≡ Some v → end_of (follows p o d s x) ≡ end_of (bettered p o d s x v)
worthy-ends p o s x d v worthy = ap (λ (w : Option ℤ). end_of (weighed o x w (bettered p o d s x))) worthy

by-worth : (p : Solving) (o : Objective) (s q r : State) (value : List ℤ → ℤ) (values : List ℤ) → Quiet (λ d. bettered p o d s r (value values)) → Posted p o s (value values) q → GoesOn p o s value values →
    (once : Round p s q (BetterThan o value values)) → (x : State) (rest : List State) → answers once.trace ≡ x ∷ rest → (others : List ℤ) → Found p s x others → BetterThan o value values others →
    (worth p o x ≡ None) ⊎ (worth p o x ≡ Some (value others)) → Reaches p o s value (λ d. bettered p o d s r (value values))
by-worth p o s q r value values quiet e on once x rest same others found better (inl none) =
    let d : ℕ = quiet.from + once.depth in
    let raised = unworthy p o s x d none in
    absurd (quiet.none (suc d) raised.0 (omega arith) (next-ends p o s q r value values e once x rest same d (omega arith) ∙ raised.1))
by-worth p o s q r value values quiet e on once x rest same others found better (inr worthy) =
    let later : Reaches p o s value (λ d. bettered p o d s x (value others)) = on x others found better (record {
      from = quiet.from + once.depth;
      none = λ d ball l ends. quiet.none (suc d) ball (omega (arith, l)) (next-ends p o s q r value values e once x rest same d (omega (arith, l)) ∙ (worthy-ends p o s x d (value others) worthy ∙ ends));
    }) in
    record { depth = suc (once.depth + later.depth); best = next-best p o s q r value values e once x rest same (value others) worthy later }

by-answers : (p : Solving) (o : Objective) (s q r : State) (value : List ℤ → ℤ) (values : List ℤ) → IsReadRightly p o s value → Found p s r values → Quiet (λ d. bettered p o d s r (value values)) → Posted p o s (value values) q →
    GoesOn p o s value values → (once : Round p s q (BetterThan o value values)) → (xs : List State) → answers once.trace ≡ xs → Reaches p o s value (λ d. bettered p o d s r (value values))
by-answers p o s q r value values right f quiet e on once [] none = record { depth = suc once.depth; best = last-best p o s q r value values f e once none }
by-answers p o s q r value values right f quiet e on once (x ∷ rest) same =
    let first = once.round_is.first x rest same in
    by-worth p o s q r value values quiet e on once x rest same first.0 (record { told = first.3; has = first.1 }) first.2 (right.worth_is x first.0 first.4 first.5 first.1 first.3)

-- a relation that is refused is raised
refused-ends : (p : Solving) (o : Objective) (s r : State) (v : ℤ) (ball : Tree) (d : ℕ) → p.reading.relation (better_sign o.greatest) o.expression (int v) s ≡ end (Raise ball) → end_of (bettered p o (suc d) s r v) ≡ Raise ball
unfolding bettered then chosen end_of
refused-ends p o s r v ball d e = ap (λ (t : Trace State). end_of (chosen (round p d (then t (p.settle s))) (follows p o d s) (one r))) e

better-rounds : (p : Solving) (o : Objective) (s : State) (value : List ℤ → ℤ) → (c : Context p o s value) → (k : ℕ) (r : State) (values : List ℤ) → Found p s r values → Quiet (λ d. bettered p o d s r (value values)) →
    ahead o.greatest (value values) <ℤ (c.low +ℤ pos k) → Reaches p o s value (λ d. bettered p o d s r (value values))
better-rounds p o s value c zero r values f quiet less = absurd (no-steps (ahead o.greatest (value values)) c.low (c.least values f.has) less)
better-rounds p o s value c (suc k) r values f quiet less = elim (c.right.later values f.has) [
  | inl (ball, e) ↦ absurd (quiet.none (suc quiet.from) ball (omega arith) (refused-ends p o s r (value values) ball quiet.from e))
  | inr (q, e, m) ↦
      let once : Round p s q (BetterThan o value values) = round-of p s q (BetterThan o value values) c.settles c.runs c.state c.good m in
      by-answers p o s q r value values c.right f quiet e
      (λ x others found better still. better-rounds p o s value c k x others found still
      (fewer-steps (ahead o.greatest (value others)) (ahead o.greatest (value values)) c.low k (better-ahead o.greatest (value others) (value values) better) less)) once (answers once.trace) refl
]

-- ---- all rounds

begins-is : (p : Solving) (o : Objective) (s q : State) (sum : Sum) → p.reading.operand o.expression s ≡ reads q sum → begins p o s ≡ p.settle s q
begins-is p o s q sum e = ap (operand_posted p.settle s) e

sought-is : (p : Solving) (o : Objective) (s q : State) (sum : Sum) (leaves : List ℤ → Type 0) (d : ℕ) → p.reading.operand o.expression s ≡ reads q sum → (once : Round p s q leaves) → once.depth ≤ d →
    sought p o d s ≡ chosen once.trace (follows p o d s) done
sought-is p o s q sum leaves d e once l = ap (λ (u : Trace State). chosen u (follows p o d s) done) (ap (round p d) (begins-is p o s q sum e) ∙ once.is d l)

abbrev All : List ℤ → Type 0
All values = Unit {0}

none-sought : (p : Solving) (o : Objective) (s q : State) (sum : Sum) (value : List ℤ → ℤ) → p.reading.operand o.expression s ≡ reads q sum → (once : Round p s q All) → answers once.trace ≡ [] → Best p o s value (sought p o once.depth s)
unfolding answers end_of
none-sought p o s q sum value e once none =
    let d : ℕ = once.depth in
    let is : sought p o d s ≡ chosen once.trace (follows p o d s) done = sought-is p o s q sum All d e once (omega arith) in
    let parts = chosen-none once.trace (follows p o d s) done once.round_is.ends none in
    (ap end_of is ∙ parts.0, inl (ap answers is ∙ parts.1, λ values has. once.round_is.none none values has tt))

some-sought : (p : Solving) (o : Objective) (s q : State) (sum : Sum) (value : List ℤ → ℤ) → p.reading.operand o.expression s ≡ reads q sum → (once : Round p s q All) → (x : State) (rest : List State) → answers once.trace ≡ x ∷ rest →
    (v : ℤ) → worth p o x ≡ Some v → (later : Reaches p o s value (λ d. bettered p o d s x v)) → Best p o s value (sought p o (once.depth + later.depth) s)
some-sought p o s q sum value e once x rest same v worthy later =
    let d : ℕ = once.depth + later.depth in
    let is : sought p o d s ≡ chosen once.trace (follows p o d s) done = sought-is p o s q sum All d e once (omega arith) in
    let parts = chosen-some once.trace (follows p o d s) done x rest same in
    let weighs : follows p o d s x ≡ bettered p o d s x v = ap (λ (w : Option ℤ). weighed o x w (bettered p o d s x)) worthy in
    best-same p o s value (sought p o d s) (bettered p o d s x v) (ap end_of is ∙ (parts.0 ∙ ap end_of weighs)) (ap answers is ∙ (parts.1 ∙ ap answers weighs)) (later.best d (omega arith))

first-ends : (p : Solving) (o : Objective) (s q : State) (sum : Sum) → p.reading.operand o.expression s ≡ reads q sum → (once : Round p s q All) → (x : State) (rest : List State) → answers once.trace ≡ x ∷ rest → (d : ℕ) → once.depth ≤ d →
    end_of (sought p o d s) ≡ end_of (follows p o d s x)
unfolding end_of
first-ends p o s q sum e once x rest same d l = ap end_of (sought-is p o s q sum All d e once l) ∙ (chosen-some once.trace (follows p o d s) done x rest same).0

first-worth : (p : Solving) (o : Objective) (s q : State) (sum : Sum) (value : List ℤ → ℤ) → Context p o s value → Quiet (λ d. sought p o d s) → p.reading.operand o.expression s ≡ reads q sum → (once : Round p s q All) → (x : State) (rest : List State) →
    answers once.trace ≡ x ∷ rest → (values : List ℤ) → Found p s x values → (worth p o x ≡ None) ⊎ (worth p o x ≡ Some (value values)) → (d : ℕ) × Best p o s value (sought p o d s)
first-worth p o s q sum value c quiet e once x rest same values found (inl none) =
    let d : ℕ = quiet.from + once.depth in
    let raised = unworthy p o s x d none in
    absurd (quiet.none d raised.0 (omega arith) (first-ends p o s q sum e once x rest same d (omega arith) ∙ raised.1))
first-worth p o s q sum value c quiet e once x rest same values found (inr worthy) =
    let k = steps (ahead o.greatest (value values)) c.low in
    let later : Reaches p o s value (λ d. bettered p o d s x (value values)) = better-rounds p o s value c k.0 x values found (record {
      from = quiet.from + once.depth;
      none = λ d ball l ends. quiet.none d ball (omega (arith, l)) (first-ends p o s q sum e once x rest same d (omega (arith, l)) ∙ (worthy-ends p o s x d (value values) worthy ∙ ends));
    }) k.1 in
    (once.depth + later.depth, some-sought p o s q sum value e once x rest same (value values) worthy later)

all-rounds : (p : Solving) (o : Objective) (s q : State) (sum : Sum) (value : List ℤ → ℤ) → Context p o s value → Quiet (λ d. sought p o d s) → p.reading.operand o.expression s ≡ reads q sum → (once : Round p s q All) → (xs : List State) →
    answers once.trace ≡ xs → (d : ℕ) × Best p o s value (sought p o d s)
all-rounds p o s q sum value c quiet e once [] none = (once.depth, none-sought p o s q sum value e once none)
all-rounds p o s q sum value c quiet e once (x ∷ rest) same =
    let first = once.round_is.first x rest same in
    first-worth p o s q sum value c quiet e once x rest same first.0 (record { told = first.3; has = first.1 }) (c.right.worth_is x first.0 first.4 first.5 first.1 first.3)

refused-first : (p : Solving) (o : Objective) (s : State) (ball : Tree) (d : ℕ) → p.reading.operand o.expression s ≡ refuses ball → end_of (sought p o d s) ≡ Raise ball
unfolding then chosen end_of
refused-first p o s ball d e = ap (λ (x : Operand). end_of (chosen (round p d (operand_posted p.settle s x)) (follows p o d s) done)) e

by-first : (p : Solving) (o : Objective) (s : State) (value : List ℤ → ℤ) → Context p o s value → Quiet (λ d. sought p o d s) →
    ((ball : Tree) × (p.reading.operand o.expression s ≡ refuses ball)) ⊎ ((q : State) × (sum : Sum) × (p.reading.operand o.expression s ≡ reads q sum) × PostsMore s q p.items (λ values. Unit {0})) →
    (d : ℕ) × Best p o s value (sought p o d s)
by-first p o s value c quiet (inl (ball, e)) = absurd (quiet.none quiet.from ball (omega arith) (refused-first p o s ball quiet.from e))
by-first p o s value c quiet (inr (q, sum, e, m)) =
    let once : Round p s q All = round-of p s q All c.settles c.runs c.state c.good m in
    all-rounds p o s q sum value c quiet e once (answers once.trace) refl

pub objective_gives_the_best : ObjectiveGivesTheBest
objective_gives_the_best p o s words vars value asks has below settles runs m right silent =
    let good : AllGood s p.items = asked-good s words vars p.chosen_options p.items m.state below asks in
    let begin : State = confined s p.items in
    let out : AreOut begin p.items = good-out s p.items good in
    let every : Gives p.settle p.drains p.chosen_options p.items begin = gives p.settle p.drains p.chosen_options p.items begin settles runs (confined-goes_on s p.items m) out (answers-solved s p.items m out) in
    let low = least-of (λ values. ahead o.greatest (value values)) _ in
    let c : Context p o s value = record { settles = settles; runs = runs; state = m.state; good = good; right = right; low = low.0; least = λ values h. low.1 values (every.all.complete values h) } in
    let same : (d : ℕ) → solved p d s ≡ sought p o d s = λ d. ap (λ (x : Option Objective). solved_for p x d s) has in
    let quiet : Quiet (λ d. sought p o d s) = record { from = 0; none = λ d ball l ends. silent d ball (ap end_of (same d) ∙ ends) } in
    let found = by-first p o s value c quiet right.first in
    let best : Best p o s value (solved p found.0 s) = best-same p o s value (solved p found.0 s) (sought p o found.0 s) (ap end_of (same found.0)) (ap answers (same found.0)) found.1 in
    (found.0, best.0, best.1)
