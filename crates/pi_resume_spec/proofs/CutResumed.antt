-- Lemmas on resumed runs that are cut.
use Rattle.std.specs.Prelude.{◌≡◌, ℕ, zero, suc, ◌+◌, ◌≤◌, List, refl}
use Rattle.std.proofs.Common.{arith, ◌∙◌, ap}
use Rattle.pi_traces.specs.Trace.{End}
use Rattle.pi_traces.specs.Depth.{Ended, cut}
use Rattle.pi_traces.proofs.CutLemmas.{cut-below}
use Rattle.pi_resume_spec.specs.Ways.{Ways}
use Rattle.pi_resume_spec.specs.Resumed.{a_tick, a_load, Following, on_way, reached, cut_off, bad, Leads}
use Rattle.pi_resume_spec.specs.ResumedCut.{stops, bad_path, with_passing, behind_way, resumed_cut, passings, ticks_among, with_passings, IsBad, IsCutOff}
use Rattle.pi_resume_spec.specs.More.{deeper_way, same_way, same_reached, same_cut, same_bad}
use Rattle.pi_resume_spec.specs.RunLaws.{SpentOnTheWay, CutBehindTheWay, BadExactlyAtTheEnd, EndsOnTheWay, MoreDepthLeavesCuts}

pub spent-on_way : {A : Type 0} → SpentOnTheWay A
unfolding passings ticks_among resumed_cut
spent-on_way n (reached made x left later) h = absurd (omega (arith, h))
spent-on_way n (cut_off e) h = absurd (omega (arith, h))
spent-on_way n bad h = absurd (omega (arith, h))
spent-on_way zero (on_way a_tick f) h = refl
spent-on_way (suc n) (on_way a_tick f) h = spent-on_way n f (omega (arith, h))
spent-on_way n (on_way (a_load k) f) h = spent-on_way n f h

pub cut-behind_way : {A : Type 0} → CutBehindTheWay A
unfolding passings ticks_among resumed_cut with_passings Leads
cut-behind_way n (reached made y left later) path x more rest h =
    let same : 0 + n ≡ n = omega arith in
    ap (λ (k : ℕ). behind_way (cut k later)) same ∙ ap (λ t. behind_way (cut n t)) h.3
cut-behind_way n (cut_off e) path x left rest h = absurd h
cut-behind_way n bad path x left rest h = absurd h
cut-behind_way n (on_way a_tick f) path x left rest h =
    let next : suc (ticks_among (passings f)) + n ≡ suc (ticks_among (passings f) + n) = omega arith in
    ap (λ (k : ℕ). resumed_cut k (on_way a_tick f)) next ∙ ap (with_passing a_tick) (cut-behind_way n f path x left rest h)
cut-behind_way n (on_way (a_load k) f) path x left rest h = ap (with_passing (a_load k)) (cut-behind_way n f path x left rest h)

pub bad-then : {A : Type 0} (n : ℕ) (f : Following A) → (resumed_cut n f).stop ≡ bad_path → IsBad f × (ticks_among (passings f) ≤ n)
unfolding passings ticks_among resumed_cut IsBad
bad-then n (reached made x left later) h = absurd cc
bad-then n (cut_off e) h = absurd cc
bad-then n bad h = (tt, omega arith)
bad-then zero (on_way a_tick f) h = absurd cc
bad-then (suc n) (on_way a_tick f) h = let r = bad-then n f h in let few = r.1 in (r.0, omega (arith, few))
bad-then n (on_way (a_load k) f) h = bad-then n f h

then-bad : {A : Type 0} (n : ℕ) (f : Following A) → IsBad f → ticks_among (passings f) ≤ n → (resumed_cut n f).stop ≡ bad_path
unfolding passings ticks_among resumed_cut IsBad
then-bad n (reached made x left later) h few = absurd h
then-bad n (cut_off e) h few = absurd h
then-bad n bad h few = refl
then-bad zero (on_way a_tick f) h few = absurd (omega (arith, few))
then-bad (suc n) (on_way a_tick f) h few = then-bad n f h (omega (arith, few))
then-bad n (on_way (a_load k) f) h few = then-bad n f h few

pub bad-exactly : {A : Type 0} → BadExactlyAtTheEnd A
bad-exactly n f = (bad-then n f, then-bad n f)

pub ends-on_way : {A : Type 0} → EndsOnTheWay A
unfolding passings ticks_among resumed_cut IsCutOff
ends-on_way n (reached made x left later) e h few = absurd h
ends-on_way n (cut_off last) e h few = ap (λ (k : End). stops (Ended k)) h
ends-on_way n bad e h few = absurd h
ends-on_way zero (on_way a_tick f) e h few = absurd (omega (arith, few))
ends-on_way (suc n) (on_way a_tick f) e h few = ends-on_way n f e h (omega (arith, few))
ends-on_way n (on_way (a_load k) f) e h few = ends-on_way n f e h few

pub more-leaves_cuts : {A : Type 0} → MoreDepthLeavesCuts A
unfolding resumed_cut
more-leaves_cuts n _ _ (deeper_way _) h = absurd (h refl)
more-leaves_cuts zero _ _ (same_way a_tick a) h = refl
more-leaves_cuts (suc n) _ _ (same_way a_tick {f = f} {g = g} a) h = ap (with_passing a_tick) (more-leaves_cuts n f g a h)
more-leaves_cuts n _ _ (same_way (a_load k) {f = f} {g = g} a) h = ap (with_passing (a_load k)) (more-leaves_cuts n f g a h)
more-leaves_cuts n _ _ (same_reached made x left {t = t} {u = u} a) h = ap behind_way (cut-below n t u a (λ e. h (ap stops e)))
more-leaves_cuts n _ _ (same_cut e) h = refl
more-leaves_cuts n _ _ same_bad h = refl

-- ---- following that leads to an answer

pub leads-not_bad : {A : Type 0} (f : Following A) (path : List ℕ) (x : A) (left : List ℕ) (rest : Ways A) → Leads f path x left rest → IsBad f → ⊥
unfolding Leads IsBad
leads-not_bad (on_way p f) path x left rest h b = leads-not_bad f path x left rest h b
leads-not_bad (reached made y more later) path x left rest h b = b
leads-not_bad (cut_off e) path x left rest h b = b
leads-not_bad bad path x left rest h b = h
