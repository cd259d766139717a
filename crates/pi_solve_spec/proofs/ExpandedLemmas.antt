-- What calls expand is no more than what they reach, and a chain of different calls is no longer than their list.
use Rattle.std.specs.Prelude.{◌≡◌, ◌≢◌, ℕ, ◌+◌, ◌≤◌, Bool, true, false, List, [], ◌∷◌, length, map, sum_by, Contains, ⊤, refl}
use Rattle.std.proofs.Common.{◌∙◌, sym, subst, arith}
use Rattle.std.proofs.lemmas.List.{length-map}
use Rattle.std.proofs.lemmas.List.Sums.{sum_by-cons}
use Rattle.pi_terms.specs.Tree.{Tree}
use Rattle.pi_traces.specs.Trace.{Call}
use Rattle.pi_core.specs.declared.log.LogEntry.{LogEntry}
use Rattle.pi_solve_spec.specs.Bodies.{Bodies}
use Rattle.pi_solve_spec.specs.Steps.{CallReaches}
use Rattle.pi_solve_spec.specs.Counted.{Pair, Expansion, IsAnother, ReachesAtMost}
use Rattle.pi_solve_spec.specs.WorkLaws.{ExpandedAreReached, ChainsAreShort}
use Rattle.pi_solve_spec.proofs.GroupLemmas.{Each, Apart, each-all, all-each, apart-pairs, pairs-apart, HasAtMost, together}

each-both : {X : Type 0} (P Q S : X → Type 0) → ((x : X) → P x → Q x → S x) → (xs : List X) → Each P xs → Each Q xs → Each S xs
each-both P Q S f [] ps qs = tt
each-both P Q S f (x ∷ xs) ps qs = (f x ps.0 qs.0, each-both P Q S f xs ps.1 qs.1)

each-map : {X Y : Type 0} (g : X → Y) (Q : Y → Type 0) (xs : List X) → Each (λ x. Q (g x)) xs → Each Q (map g xs)
each-map g Q [] h = tt
each-map g Q (x ∷ xs) h = (h.0, each-map g Q xs h.1)

-- what differs for one call
apart-of : {Y : Type 0} (g : Expansion → Y) (c : Call) (xs : List Expansion) → Each (λ e. c ≡ e.call) xs → Apart (λ e f. e.call ≡ f.call → g e ≢ g f) xs → Apart (λ y z. y ≢ z) (map g xs)
apart-of g c [] own rs = tt
apart-of g c (e ∷ xs) own rs = (
  each-map g (λ z. g e ≢ z) xs (each-both (λ f. e.call ≡ f.call → g e ≢ g f) (λ f. c ≡ f.call) (λ f. g e ≢ g f) (λ f r o. r (sym own.0 ∙ o)) xs rs.0 own.1),
  apart-of g c xs own.1 rs.1,
)

has-at_most : (by_rests : Bool) (b : Bodies) (log : List LogEntry) (c : Call) (most : ℕ) → ReachesAtMost by_rests b log c most →
    HasAtMost (λ (e : Expansion). e.call) (λ e. CallReaches b log e.call e.pair.state e.pair.rest) (IsAnother by_rests) c most
has-at_most false b log c most bound xs own reached apart =
    let state : Expansion → Tree = λ e. e.pair.state in
    let here : Each (λ e. (r : ℕ) × CallReaches b log c e.pair.state r) xs =
    each-both (λ (e : Expansion). c ≡ e.call) (λ e. CallReaches b log e.call e.pair.state e.pair.rest) (λ e. (r : ℕ) × CallReaches b log c e.pair.state r)
    (λ e o h. (e.pair.rest, subst (λ d. CallReaches b log d e.pair.state e.pair.rest) (sym o) h)) xs own reached in
    let few : length (map state xs) ≤ most =
    bound (map state xs) (pairs-apart (λ s t. s ≢ t) (map state xs) (apart-of state c xs own apart))
    (all-each (λ s. (r : ℕ) × CallReaches b log c s r) (map state xs) (each-map state (λ s. (r : ℕ) × CallReaches b log c s r) xs here)) in
    let same : length (map state xs) ≡ length xs = length-map xs state in
    omega arith
has-at_most true b log c most bound xs own reached apart =
    let pair : Expansion → Pair = λ e. e.pair in
    let here : Each (λ e. CallReaches b log c e.pair.state e.pair.rest) xs =
    each-both (λ (e : Expansion). c ≡ e.call) (λ e. CallReaches b log e.call e.pair.state e.pair.rest) (λ e. CallReaches b log c e.pair.state e.pair.rest)
    (λ e o h. subst (λ d. CallReaches b log d e.pair.state e.pair.rest) (sym o) h) xs own reached in
    let few : length (map pair xs) ≤ most =
    bound (map pair xs) (pairs-apart (λ p q. p ≢ q) (map pair xs) (apart-of pair c xs own apart))
    (all-each (λ p. CallReaches b log c p.state p.rest) (map pair xs) (each-map pair (λ p. CallReaches b log c p.state p.rest) xs here)) in
    let same : length (map pair xs) ≡ length xs = length-map xs pair in
    omega arith

each-bound : (by_rests : Bool) (b : Bodies) (log : List LogEntry) (reached : Call → ℕ) (calls : List Call) → Each (λ c. ReachesAtMost by_rests b log c (reached c)) calls →
    Each (λ c. HasAtMost (λ (e : Expansion). e.call) (λ e. CallReaches b log e.call e.pair.state e.pair.rest) (IsAnother by_rests) c (reached c)) calls
each-bound by_rests b log reached [] bounds = tt
each-bound by_rests b log reached (c ∷ calls) bounds = (has-at_most by_rests b log c (reached c) bounds.0, each-bound by_rests b log reached calls bounds.1)

pub expanded_are_reached : ExpandedAreReached
expanded_are_reached by_rests b log calls expanded are reached bounds =
    together (λ e. e.call) (λ e. CallReaches b log e.call e.pair.state e.pair.rest) (IsAnother by_rests) reached calls expanded
    (each-all (λ e. Contains calls e.call) expanded are.of_calls) (each-all (λ e. CallReaches b log e.call e.pair.state e.pair.rest) expanded are.reached)
    (apart-pairs (IsAnother by_rests) expanded are.once)
    (each-bound by_rests b log reached calls (each-all (λ c. ReachesAtMost by_rests b log c (reached c)) calls bounds))

-- ---- chains

-- different calls that are all this one
has-one : (c : Call) → HasAtMost (λ (d : Call). d) (λ d. ⊤) (λ d e. d ≢ e) c 1
has-one c [] own ps apart = omega arith
has-one c (d ∷ []) own ps apart = omega arith
has-one c (d ∷ e ∷ calls) own ps apart = absurd (apart.0.0 (sym own.0 ∙ own.1.0))

each-one : (calls : List Call) → Each (λ c. HasAtMost (λ (d : Call). d) (λ d. ⊤) (λ d e. d ≢ e) c 1) calls
each-one [] = tt
each-one (c ∷ calls) = (has-one c, each-one calls)

each-true : (calls : List Call) → Each (λ (c : Call). ⊤) calls
each-true [] = tt
each-true (c ∷ calls) = (tt, each-true calls)

ones : (calls : List Call) → sum_by (λ (c : Call). 1) calls ≡ length calls
ones [] = refl
ones (c ∷ calls) =
    let rest : sum_by (λ (d : Call). 1) calls ≡ length calls = ones calls in
    let sum : sum_by (λ (d : Call). 1) (c ∷ calls) ≡ 1 + sum_by (λ (d : Call). 1) calls = sum_by-cons (λ (d : Call). 1) c calls in
    omega arith

pub chains_are_short : ChainsAreShort
chains_are_short b log calls chain is =
    let few : length chain ≤ sum_by (λ (c : Call). 1) calls =
    together (λ d. d) (λ d. ⊤) (λ d e. d ≢ e) (λ c. 1) calls chain (each-all (Contains calls) chain is.among) (each-true chain) (apart-pairs (λ d e. d ≢ e) chain is.different) (each-one calls) in
    let same : sum_by (λ (c : Call). 1) calls ≡ length calls = ones calls in
    omega arith
