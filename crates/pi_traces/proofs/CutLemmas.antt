-- Lemmas on traces that are cut.
use Rattle.std.proofs.Common.{List, [], ◌∷◌, ◌≡◌, ℕ, zero, suc, ◌+◌, ◌≤◌, refl, ap, sym, ◌∙◌, arith}
use Rattle.pi_traces.specs.Trace.{Trace, end, note, ans, End, Done, Tick, Load, Out, Emitted, noted, answered, end_of, emit, events_of, count_ticks, ticks}
use Rattle.pi_traces.specs.Depth.{Below, deeper, same_end, same_note, same_answer, DepthOnlyAdds, Stop, Ended, Spent, Cut, with_event, with_events, cut, CutWithoutDeep}
use Rattle.pi_traces.specs.Laws.{StandsAt}
use Rattle.pi_traces.proofs.TraceLemmas.{events-and-end}
use Rattle.pi_traces.proofs.BelowLemmas.{below-later}

pub cut-below : {A : Type 0} (n : ℕ) (t u : Trace A) → Below t u → CutWithoutDeep n t → cut n t ≡ cut n u
unfolding cut
cut-below n _ _ (deeper _) h = absurd (h refl)
cut-below n _ _ (same_end _) h = refl
cut-below zero _ _ (same_note Tick a) h = refl
cut-below (suc n) _ _ (same_note Tick {t = t} {u = u} a) h = ap (with_event (noted Tick)) (cut-below n t u a h)
cut-below n _ _ (same_note (Load k) {t = t} {u = u} a) h = ap (with_event (noted (Load k))) (cut-below n t u a h)
cut-below n _ _ (same_note (Out text) {t = t} {u = u} a) h = ap (with_event (noted (Out text))) (cut-below n t u a h)
cut-below n _ _ (same_answer x {t = t} {u = u} a) h = ap (with_event (answered x)) (cut-below n t u a h)

pub cut-prefix : {A : Type 0} (n : ℕ) (t : Trace A) → (rest : Trace A) × (t ≡ emit (cut n t).events rest) × StandsAt (cut n t).stop rest
unfolding emit cut
cut-prefix n (end e) = (end e, refl, refl)
cut-prefix zero (note Tick t) = (note Tick t, refl, (t, refl))
cut-prefix (suc n) (note Tick t) = let p = cut-prefix n t in (p.0, ap (note Tick) p.1, p.2)
cut-prefix n (note (Load k) t) = let p = cut-prefix n t in (p.0, ap (note (Load k)) p.1, p.2)
cut-prefix n (note (Out text) t) = let p = cut-prefix n t in (p.0, ap (note (Out text)) p.1, p.2)
cut-prefix n (ans x t) = let p = cut-prefix n t in (p.0, ap (ans x) p.1, p.2)

pub cut-emit : {A : Type 0} (events : List (Emitted A)) (n : ℕ) (t : Trace A) → cut (count_ticks events + n) (emit events t) ≡ with_events events (cut n t)
unfolding emit count_ticks cut
cut-emit [] n t = ap (λ k. cut k t) (omega arith)
cut-emit (noted Tick ∷ events) n t =
    let next : suc (count_ticks events) + n ≡ suc (count_ticks events + n) = omega arith in
    ap (λ k. cut k (note Tick (emit events t))) next ∙ ap (with_event (noted Tick)) (cut-emit events n t)
cut-emit (noted (Load k) ∷ events) n t = ap (with_event (noted (Load k))) (cut-emit events n t)
cut-emit (noted (Out text) ∷ events) n t = ap (with_event (noted (Out text))) (cut-emit events n t)
cut-emit (answered x ∷ events) n t = ap (with_event (answered x)) (cut-emit events n t)

pub cut-at_tick : {A : Type 0} (events : List (Emitted A)) (t : Trace A) → cut (count_ticks events) (emit events (note Tick t)) ≡ record { events = events; stop = Spent }
unfolding emit count_ticks cut
cut-at_tick [] t = refl
cut-at_tick (noted Tick ∷ events) t = ap (with_event (noted Tick)) (cut-at_tick events t)
cut-at_tick (noted (Load k) ∷ events) t = ap (with_event (noted (Load k))) (cut-at_tick events t)
cut-at_tick (noted (Out text) ∷ events) t = ap (with_event (noted (Out text))) (cut-at_tick events t)
cut-at_tick (answered x ∷ events) t = ap (with_event (answered x)) (cut-at_tick events t)

pub cut-all : {A : Type 0} (n : ℕ) (t : Trace A) → ticks t ≤ n → cut n t ≡ record { events = events_of t; stop = Ended (end_of t) }
unfolding end_of events_of count_ticks cut
cut-all n (end e) h = refl
cut-all zero (note Tick t) h = absurd (omega arith)
cut-all (suc n) (note Tick t) h = ap (with_event (noted Tick)) (cut-all n t (omega arith))
cut-all n (note (Load k) t) h = ap (with_event (noted (Load k))) (cut-all n t h)
cut-all n (note (Out text) t) h = ap (with_event (noted (Out text))) (cut-all n t h)
cut-all n (ans x t) h = ap (with_event (answered x)) (cut-all n t h)

-- the trace of these events up to a stop; behind a Tick that is cut off, no more
end_at : Stop → End
end_at (Ended e) = e
end_at Spent = Done

whole : {A : Type 0} → Cut A → Trace A
whole c = emit c.events (end (end_at c.stop))

whole-cut : {A : Type 0} (n : ℕ) (t : Trace A) → ticks t ≤ n → whole (cut n t) ≡ t
unfolding end_at whole
whole-cut n t h = ap whole (cut-all n t h) ∙ sym (events-and-end t)

pub cuts-tell : {A : Type 0} (t u : Trace A) → ((n : ℕ) → cut n t ≡ cut n u) → t ≡ u
cuts-tell t u h =
    let n : ℕ = ticks t + ticks u in
    sym (whole-cut n t (omega arith)) ∙ (ap whole (h n) ∙ whole-cut n u (omega arith))

pub depths-agree : {A : Type 0} (n : ℕ) (trace : ℕ → Trace A) → DepthOnlyAdds trace → (depth other : ℕ) → CutWithoutDeep n (trace depth) → CutWithoutDeep n (trace other) → cut n (trace depth) ≡ cut n (trace other)
depths-agree n trace step depth other h g =
    let both : ℕ = depth + other in
    cut-below n (trace depth) (trace both) (below-later trace step depth other both refl) h
    ∙ sym (cut-below n (trace other) (trace both) (below-later trace step other depth both (omega arith)) g)
