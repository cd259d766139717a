-- Traces under longer logs and at greater depths.
use Rattle.std.specs.Prelude.{◌≡◌, ◌≢◌, ℕ, zero, suc, ◌+◌, List, [], ◌∷◌, Contains, refl}
use Rattle.std.proofs.Common.{arith, sym, ap, subst}
use Rattle.pi_traces.specs.Trace.{Trace, note, ans, Done, end_of, answers, WithoutDeep}
use Rattle.pi_traces.specs.Depth.{Below, deeper, same_end, same_note, same_answer, DepthOnlyAdds}
use Rattle.pi_traces.proofs.BelowLemmas.{below-later, depth-enough}
use Rattle.pi_solve_spec.specs.Bodies.{Gives, HasAnswer}
use Rattle.pi_solve_spec.specs.Known.{MoreKnown, known_now, known_end, known_note, known_answer}

contains-later : {A : Type 0} (x y : A) (xs : List A) → Contains xs x → Contains (y ∷ xs) x
contains-later x y xs (k, l, e) = (suc k, omega arith, e)

contains-cases : {A : Type 0} {B : Type 0} (x y : A) (xs : List A) → (y ≡ x → B) → (Contains xs x → B) → Contains (y ∷ xs) x → B
contains-cases x y xs f g (zero, l, e) = f e
contains-cases x y xs f g (suc k, l, e) = g (k, omega arith, e)

pub none-contained : {A : Type 0} (x : A) → Contains [] x → ⊥
none-contained x (k, l, e) = omega arith

-- ---- a longer log

-- a trace that is done stays
pub known-done : {A : Type 0} (t u : Trace A) → MoreKnown t u → end_of t ≡ Done → u ≡ t
unfolding end_of
known-done t u (known_now c v) e = absurd (cc)
known-done t u (known_end f) e = refl
known-done t u (known_note n {t = t'} {u = u'} h) e = ap (note n) (known-done t' u' h e)
known-done t u (known_answer x {t = t'} {u = u'} h) e = ap (ans x) (known-done t' u' h e)

pub known-answers : {A : Type 0} (t u : Trace A) (x : A) → MoreKnown t u → Contains (answers t) x → Contains (answers u) x
unfolding answers
known-answers t u x (known_now c v) h = absurd (none-contained x h)
known-answers t u x (known_end e) h = h
known-answers t u x (known_note n {t = t'} {u = u'} k) h = known-answers t' u' x k h
known-answers t u x (known_answer y {t = t'} {u = u'} k) h =
    contains-cases x y (answers t') (λ same. (0, omega arith, same)) (λ later. contains-later x y (answers u') (known-answers t' u' x k later)) h

pub known-some : {A : Type 0} (t u : Trace A) → MoreKnown t u → answers t ≢ [] → answers u ≢ []
unfolding answers
known-some t u (known_now c v) h = absurd (h refl)
known-some t u (known_end e) h = h
known-some t u (known_note n {t = t'} {u = u'} k) h = known-some t' u' k h
known-some t u (known_answer y k) h = λ e. absurd (cc)

-- ---- a greater depth

below-answers : {A : Type 0} (t u : Trace A) (x : A) → Below t u → Contains (answers t) x → Contains (answers u) x
unfolding answers
below-answers t u x (deeper v) h = absurd (none-contained x h)
below-answers t u x (same_end e) h = h
below-answers t u x (same_note n {t = t'} {u = u'} k) h = below-answers t' u' x k h
below-answers t u x (same_answer y {t = t'} {u = u'} k) h =
    contains-cases x y (answers t') (λ same. (0, omega arith, same)) (λ later. contains-later x y (answers u') (below-answers t' u' x k later)) h

below-some : {A : Type 0} (t u : Trace A) → Below t u → answers t ≢ [] → answers u ≢ []
unfolding answers
below-some t u (deeper v) h = absurd (h refl)
below-some t u (same_end e) h = h
below-some t u (same_note n {t = t'} {u = u'} k) h = below-some t' u' k h
below-some t u (same_answer y k) h = λ e. absurd (cc)

done-whole : {A : Type 0} (t : Trace A) → end_of t ≡ Done → WithoutDeep t
done-whole t e = λ deep. absurd (cc)

-- where a trace is done at some depth, that has all answers
pub given-whole : {A : Type 0} (f : ℕ → Trace A) (x : A) (k : ℕ) → DepthOnlyAdds f → end_of (f k) ≡ Done → Gives f x → Contains (answers (f k)) x
given-whole f x k adds is (d, h) =
    let later : Contains (answers (f (k + d))) x = below-answers (f d) (f (k + d)) x (below-later f adds d k (k + d) (omega arith)) h in
    subst (λ t. Contains (answers t) x) (sym (depth-enough f adds k d (done-whole (f k) is))) later

pub some-whole : {A : Type 0} (f : ℕ → Trace A) (k : ℕ) → DepthOnlyAdds f → end_of (f k) ≡ Done → HasAnswer f → answers (f k) ≢ []
some-whole f k adds is (d, h) =
    let later : answers (f (k + d)) ≢ [] = below-some (f d) (f (k + d)) (below-later f adds d k (k + d) (omega arith)) h in
    subst (λ t. answers t ≢ []) (sym (depth-enough f adds k d (done-whole (f k) is))) later
