-- Cuts of traces with what their answers tell.
use Rattle.std.proofs.Common.{◌≡◌, ℕ, zero, suc, refl, ap}
use Rattle.pi_traces.specs.Trace.{Trace, end, note, ans, Tick, Load, Out, noted, answered, alt, then}
use Rattle.pi_traces.specs.Depth.{Cut, cut, with_event}
use Rattle.pi_meaning.specs.OverNames.Telling.{Told, told_trace, told_cut}

pub cut-told : {A : Type 0} (f : A → Told) (n : ℕ) (t : Trace A) → cut n (told_trace f t) ≡ told_cut f (cut n t)
unfolding cut then alt
cut-told f n (end e) = refl
cut-told f zero (note Tick t) = refl
cut-told f (suc n) (note Tick t) = ap (with_event (noted Tick)) (cut-told f n t)
cut-told f n (note (Load k) t) = ap (with_event (noted (Load k))) (cut-told f n t)
cut-told f n (note (Out text) t) = ap (with_event (noted (Out text))) (cut-told f n t)
cut-told f n (ans x t) = ap (with_event (answered (f x))) (cut-told f n t)

pub stop-told : {A : Type 0} (f : A → Told) (n : ℕ) (t : Trace A) → (cut n (told_trace f t)).stop ≡ (cut n t).stop
stop-told f n t = ap (λ (c : Cut Told). c.stop) (cut-told f n t)
