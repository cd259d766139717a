-- Settling as a function gives the stable state, or finds that there is none.
use Rattle.std.specs.Prelude.{◌≡◌, ◌⊎◌, ℕ, zero, suc, ◌==◌, ◌<◌, ◌≤◌, Bool, true, false, List, [], ◌∷◌, Contains, Option, Some, None, option_and_then, refl}
use Rattle.std.proofs.Common.{arith, sym, ◌∙◌, ap, subst, inl, inr}
use Rattle.std.proofs.lemmas.Bool.Decides.{Decides-eqb}
use Rattle.std.proofs.lemmas.Option.{slice_get-get_or, option_and_then_some}
use Rattle.pi_traces.specs.Trace.{one}
use Rattle.pi_constraints.specs.declared.constraint.Constraint.{Constraint}
use Rattle.pi_constraints.proofs.DomainLemmas.{not_both}
use Rattle.pi_constraints.specs.State.{State, IsState}
use Rattle.pi_settling.specs.Stable.{IsEmptied, IsStable}
use Rattle.pi_settling.specs.Settled.{loaded, with_events, IsSettled}
use Rattle.pi_settling.specs.SettlingLaws.{MaySettle}
use Rattle.pi_settling.specs.Run.{ChangesNothing}
use Rattle.pi_settling.specs.Calm.{IsCalm}
use Rattle.pi_settling.specs.Settle.{run_of, runs_of, count_all, until_same, passes, stable_state, settlement_by, answer_with, settlement, settled}
use Rattle.pi_settling.specs.SettleLaws.{GivesTheStableState, FindsWhatIsEmptied, GivesNoOther, FindsEachThatIsEmptied, SettledSettles, CalmIsSettled, LeavesTheStableState, LeavesNothing}
use Rattle.pi_settling.proofs.RunLemmas.{IsBetween, between-start, between-run, lost-empties}
use Rattle.pi_settling.proofs.SizeLemmas.{in-front, behind, front-or-behind, none-there}
use Rattle.pi_settling.proofs.StableRuns.{AllChangeNothing, stable-when-done}
use Rattle.pi_settling.proofs.LoadLemmas.{settling_twice_is_once}
use Rattle.pi_settling.proofs.UniqueLemmas.{stable_is_one, not_both_ways, settled_is_one}
use Rattle.pi_settling.proofs.SettleRuns.{IsComputed, run-computed, run-fails, run-nothing}

-- ---- one pass

abbrev ArePosted : State → List Constraint → Type 0
ArePosted s cs = (c : Constraint) → Contains cs c → Contains s.constraints c

later-posted : (s r : State) (c : Constraint) → IsBetween s r → Contains s.constraints c → Contains r.constraints c
later-posted s r c b posted = subst (λ (cs : List Constraint). Contains cs c) (sym b.narrowed.constraints) posted

-- what constraints that run in turn come to, where a settling began in the first state and has come to the second
record HavePassed (s r : State) (cs : List Constraint) (q : State) : Type 0 where
  between : IsBetween s q
  fewer : count_all q ≤ count_all r
  same : count_all q ≡ count_all r → (q ≡ r) × ((c : Constraint) → Contains cs c → ChangesNothing r c)

pub and-then : {A B : Type 0} (f : A → Option B) (o : Option A) (y : B) → option_and_then f o ≡ Some y → (x : A) × (o ≡ Some x) × (f x ≡ Some y)
and-then f o y e = option_and_then_some f o y e (λ x at g. (x, at, g))

and-then-none : {A B : Type 0} (f : A → Option B) (o : Option A) → option_and_then f o ≡ None → (o ≡ None) ⊎ ((x : A) × (o ≡ Some x) × (f x ≡ None))
and-then-none f (Some x) e = inr (x, refl, e)
and-then-none f None e = inl refl

one-passed : (s r p q : State) (c : Constraint) (cs : List Constraint) → Contains s.constraints c → IsBetween s r → IsComputed r c p → HavePassed s p cs q → HavePassed s r (c ∷ cs) q
one-passed s r p q c cs posted b run rest = record {
  between = rest.between;
  fewer = omega (arith, run.fewer, rest.fewer);
  same = λ e.
      let halfway : p ≡ r = run.same (omega (arith, run.fewer, rest.fewer, e)) in
      let after = rest.same (omega (arith, run.fewer, rest.fewer, e)) in (
        after.0 ∙ halfway,
        λ d there. elim (front-or-behind c d cs there) [
          | inl is ↦ subst (ChangesNothing r) is (run-nothing r p c b.state b.settles (later-posted s r c b posted) run.run halfway)
          | inr c' ↦ subst (λ (z : State). ChangesNothing z d) halfway (after.1 d c')
        ],
      );
}

pass : (s r : State) (cs : List Constraint) (q : State) → IsState s → MaySettle s → IsBetween s r → ArePosted s cs → runs_of cs r ≡ Some q → HavePassed s r cs q
unfolding runs_of
pass s r [] q is may b posted e =
    let same : r ≡ q = cc in
    subst (HavePassed s r []) same (record { between = b; fewer = omega arith; same = λ f. (refl, λ c there. absurd (none-there c there)) })
pass s r (c ∷ cs) q is may b posted e =
    let w = and-then (runs_of cs) (run_of c r) q e in
    let here : Contains s.constraints c = posted c (in-front c cs) in
    let run : IsComputed r c w.0 = run-computed r c w.0 b.state b.settles (later-posted s r c b here) w.1 in
    one-passed s r w.0 q c cs here b run
    (pass s w.0 cs q is may (between-run s r w.0 c is may b here run.run) (λ d there. posted d (behind c d cs there)) w.2)

pass-fails : (s r : State) (cs : List Constraint) → IsState s → MaySettle s → IsBetween s r → ArePosted s cs → runs_of cs r ≡ None → IsEmptied s
unfolding runs_of
pass-fails s r [] is may b posted e = absurd (cc)
pass-fails s r (c ∷ cs) is may b posted e =
    let here : Contains s.constraints c = posted c (in-front c cs) in
    elim (and-then-none (runs_of cs) (run_of c r) e) [
      | inl none ↦ let lost = run-fails r c b.state b.settles (later-posted s r c b here) none in lost-empties s r c lost.0 is may b here lost.1
      | inr (q, at, none) ↦
          let run : IsComputed r c q = run-computed r c q b.state b.settles (later-posted s r c b here) at in
          pass-fails s q cs is may (between-run s r q c is may b here run.run) (λ d there. posted d (behind c d cs there)) none
    ]

-- ---- passes until nothing changes

all-posted : (s r : State) → IsBetween s r → ArePosted s r.constraints
all-posted s r b c there = subst (λ (cs : List Constraint). Contains cs c) b.narrowed.constraints there

done-after : (s r q : State) → IsState s → MaySettle s → IsBetween s r → HavePassed s r r.constraints q → count_all q ≡ count_all r → IsStable s q
done-after s r q is may b h e =
    let both = h.same e in
    let none : AllChangeNothing r = both.1 in
    stable-when-done s q is may h.between (subst AllChangeNothing (sym both.0) none)

same-count : (q r : State) → (count_all q == count_all r) ≡ true → count_all q ≡ count_all r
same-count q r e = (Decides-eqb (count_all q) (count_all r)).0 e

other-count : (q r : State) → (count_all q == count_all r) ≡ false → count_all q ≡ count_all r → ⊥
other-count q r f e = not_both (count_all q == count_all r) ((Decides-eqb (count_all q) (count_all r)).1 e) f

-- a pass behind which there are further ones, where it took a value
after-pass : (s r q t : State) (k : ℕ) (b : Bool) → (count_all q == count_all r) ≡ b → until_same b q (passes k) ≡ Some t →
    ((count_all q ≡ count_all r) × (q ≡ t)) ⊎ ((count_all q ≡ count_all r → ⊥) × (passes k q ≡ Some t))
after-pass s r q t k true at e = inl (same-count q r at, let same : q ≡ t = cc in same)
after-pass s r q t k false at e = inr (other-count q r at, e)

no-pass : (s r q : State) (k : ℕ) (b : Bool) → (count_all q == count_all r) ≡ b → until_same b q (passes k) ≡ None → (count_all q ≡ count_all r → ⊥) × (passes k q ≡ None)
no-pass s r q k true at e = absurd (cc)
no-pass s r q k false at e = (other-count q r at, e)

less : (m n : ℕ) → m ≤ n → (m ≡ n → ⊥) → m < n
less m n h none = grind (arith, h, none)

passes-end : (s : State) (k : ℕ) (r t : State) → IsState s → MaySettle s → IsBetween s r → count_all r < k → passes k r ≡ Some t → IsStable s t
unfolding passes
passes-end s zero r t is may b l e = absurd (omega (arith, l))
passes-end s (suc k) r t is may b l e =
    let w = and-then (λ q. until_same (count_all q == count_all r) q (passes k)) (runs_of r.constraints r) t e in
    let h : HavePassed s r r.constraints w.0 = pass s r r.constraints w.0 is may b (all-posted s r b) w.1 in
    elim (after-pass s r w.0 t k (count_all w.0 == count_all r) refl w.2) [
      | inl (same, is-it) ↦ subst (IsStable s) is-it (done-after s r w.0 is may b h same)
      | inr (other, more) ↦ passes-end s k w.0 t is may h.between (omega (arith, l, h.fewer, less (count_all w.0) (count_all r) h.fewer other)) more
    ]

passes-fail : (s : State) (k : ℕ) (r : State) → IsState s → MaySettle s → IsBetween s r → count_all r < k → passes k r ≡ None → IsEmptied s
unfolding passes
passes-fail s zero r is may b l e = absurd (omega (arith, l))
passes-fail s (suc k) r is may b l e = elim (and-then-none (λ q. until_same (count_all q == count_all r) q (passes k)) (runs_of r.constraints r) e) [
  | inl none ↦ pass-fails s r r.constraints is may b (all-posted s r b) none
  | inr (q, at, none) ↦
      let h : HavePassed s r r.constraints q = pass s r r.constraints q is may b (all-posted s r b) at in
      let rest = no-pass s r q k (count_all q == count_all r) refl none in
      passes-fail s k q is may h.between (omega (arith, l, h.fewer, less (count_all q) (count_all r) h.fewer rest.0)) rest.1
]

-- ---- the laws

pub gives_the_stable_state : GivesTheStableState
unfolding stable_state
gives_the_stable_state s r is may e = passes-end s (suc (count_all s)) s r is may (between-start s is may) (omega arith) e

pub finds_what_is_emptied : FindsWhatIsEmptied
unfolding stable_state
finds_what_is_emptied s is may e = passes-fail s (suc (count_all s)) s is may (between-start s is may) (omega arith) e

gives-no-other : (s r : State) (o : Option State) → IsState s → MaySettle s → IsStable s r → stable_state s ≡ o → stable_state s ≡ Some r
gives-no-other s r None is may f e = absurd (not_both_ways s r (finds_what_is_emptied s is may e) f)
gives-no-other s r (Some q) is may f e = e ∙ ap Some (stable_is_one s q r (gives_the_stable_state s q is may e) f)

pub gives_no_other : GivesNoOther
gives_no_other s r is may f = gives-no-other s r (stable_state s) is may f refl

finds-each : (s : State) (o : Option State) → IsState s → MaySettle s → IsEmptied s → stable_state s ≡ o → stable_state s ≡ None
finds-each s None is may f e = e
finds-each s (Some q) is may f e = absurd (not_both_ways s q f (gives_the_stable_state s q is may e))

pub finds_each_that_is_emptied : FindsEachThatIsEmptied
finds_each_that_is_emptied s is may f = finds-each s (stable_state s) is may f refl

left-by : (before s q : State) (o : Option State) → stable_state s ≡ o → (settlement_by before s o).left ≡ Some q → (r : State) × (stable_state s ≡ Some r) × (q ≡ with_events before r)
left-by before s q None at e = absurd (cc)
left-by before s q (Some r) at e = (r, at, let same : with_events before r ≡ q = cc in sym same)

pub leaves_the_stable_state : LeavesTheStableState
unfolding settlement
leaves_the_stable_state before s q e = left-by before s q (stable_state s) refl e

nothing-by : (before s : State) (o : Option State) → (settlement_by before s o).left ≡ None → o ≡ None
nothing-by before s None e = refl
nothing-by before s (Some r) e = absurd (cc)

pub leaves_nothing : LeavesNothing
unfolding settlement
leaves_nothing before s e = nothing-by before s (stable_state s) e

settles-by : (before s : State) (o : Option State) → IsState s → MaySettle s → stable_state s ≡ o → IsSettled before s (loaded (settlement_by before s o).load (answer_with (settlement_by before s o).left))
settles-by before s None is may e = inl (finds_what_is_emptied s is may e, refl)
settles-by before s (Some r) is may e = inr (r, gives_the_stable_state s r is may e, refl)

pub settled_settles : SettledSettles
unfolding settlement settled
settled_settles = record { each = λ before s is may. settles-by before s (stable_state s) is may refl }

-- a calm state is its own stable state
calm-stable : (s : State) → IsCalm s → IsStable s s
calm-stable s h = stable-when-done s s h.state h.settles (between-start s h.state h.settles) (λ c there. h.unchanged there.0 c (slice_get-get_or s.constraints there.0 c there.1 ∙ ap Some there.2))

pub calm_is_settled : CalmIsSettled
calm_is_settled s h = settled_is_one s s (settled s s) (one s) (settled_settles.each s s h.state h.settles)
    (settling_twice_is_once s s h.state h.state h.settles (calm-stable s h))
