-- Lemmas on more depth, which only adds.
use Rattle.std.proofs.Common.{◌≡◌, ℕ, zero, suc, ◌+◌, List, [], ◌∷◌, refl, ap, subst, arith}
use Rattle.pi_terms.specs.Tree.{Tree}
use Rattle.pi_traces.specs.Trace.{Trace, end, note, ans, Done, Raise, Note, Emitted, noted, answered, one, alt, then, first, end_of, WithoutDeep, emit}
use Rattle.pi_traces.specs.Control.{negated, chosen, collected, counted, caught}
use Rattle.pi_traces.specs.Depth.{Below, deeper, same_end, same_note, same_answer, BelowAfter, DepthOnlyAdds}

pub below-refl : {A : Type 0} (t : Trace A) → Below t t
below-refl (end e) = same_end e
below-refl (note n t) = same_note n (below-refl t)
below-refl (ans x t) = same_answer x (below-refl t)

pub below-trans : {A : Type 0} (t u v : Trace A) → Below t u → Below u v → Below t v
below-trans _ _ v (deeper u) b = deeper v
below-trans _ _ v (same_end e) b = b
below-trans _ _ _ (same_note n {t = t} {u = u} a) (same_note _ {u = v} b) = same_note n (below-trans t u v a b)
below-trans _ _ _ (same_answer x {t = t} {u = u} a) (same_answer _ {u = v} b) = same_answer x (below-trans t u v a b)

-- what is behind the same note, and behind the same answer
behind-note : {A : Type 0} (n m : Note) (t u : Trace A) → Below (note n t) (note m u) → Below t u
behind-note n _ t u (same_note _ a) = a

behind-answer : {A : Type 0} (x y : A) (t u : Trace A) → Below (ans x t) (ans y u) → Below t u
behind-answer x _ t u (same_answer _ a) = a

pub below-antisym : {A : Type 0} (t u : Trace A) → Below t u → Below u t → t ≡ u
below-antisym _ _ (deeper _) (deeper _) = refl
below-antisym _ _ (deeper _) (same_end _) = refl
below-antisym _ _ (same_end _) b = refl
below-antisym _ _ (same_note n {t = t} {u = u} a) b = ap (note n) (below-antisym t u a (behind-note n n u t b))
below-antisym _ _ (same_answer x {t = t} {u = u} a) b = ap (ans x) (below-antisym t u a (behind-answer x x u t b))

pub below-whole : {A : Type 0} (t u : Trace A) → Below t u → WithoutDeep t → t ≡ u
unfolding end_of
below-whole _ _ (deeper _) h = absurd (h refl)
below-whole _ _ (same_end _) h = refl
below-whole _ _ (same_note n {t = t} {u = u} a) h = ap (note n) (below-whole t u a h)
below-whole _ _ (same_answer x {t = t} {u = u} a) h = ap (ans x) (below-whole t u a h)

pub below-alt : {A : Type 0} (t t' u u' : Trace A) → Below t t' → Below u u' → Below (alt t u) (alt t' u')
unfolding alt
below-alt _ t' u u' (deeper _) b = deeper (alt t' u')
below-alt _ _ u u' (same_end Done) b = b
below-alt _ _ u u' (same_end e) b = same_end e
below-alt _ _ u u' (same_note n {t = t} {u = t'} a) b = same_note n (below-alt t t' u u' a b)
below-alt _ _ u u' (same_answer x {t = t} {u = t'} a) b = same_answer x (below-alt t t' u u' a b)

pub below-then : {A B : Type 0} (t t' : Trace A) (f f' : A → Trace B) → Below t t' → BelowAfter f f' → Below (then t f) (then t' f')
unfolding then
below-then _ t' f f' (deeper _) b = deeper (then t' f')
below-then _ _ f f' (same_end e) b = same_end e
below-then _ _ f f' (same_note n {t = t} {u = t'} a) b = same_note n (below-then t t' f f' a b)
below-then _ _ f f' (same_answer x {t = t} {u = t'} a) b = below-alt (f x) (f' x) (then t f) (then t' f') (b x) (below-then t t' f f' a b)

pub below-first : {A : Type 0} (t t' : Trace A) → Below t t' → Below (first t) (first t')
unfolding first
below-first _ t' (deeper _) = deeper (first t')
below-first _ _ (same_end e) = same_end e
below-first _ _ (same_note n {t = t} {u = t'} a) = same_note n (below-first t t' a)
below-first _ _ (same_answer x a) = below-refl (one x)

pub below-negated : {A B : Type 0} (t t' : Trace A) (y : B) → Below t t' → Below (negated t y) (negated t' y)
unfolding negated
below-negated _ t' y (deeper _) = deeper (negated t' y)
below-negated _ _ y (same_end Done) = below-refl (one y)
below-negated _ _ y (same_end e) = same_end e
below-negated _ _ y (same_note n {t = t} {u = t'} a) = same_note n (below-negated t t' y a)
below-negated _ _ y (same_answer x a) = same_end Done

pub below-chosen : {A B : Type 0} (t t' : Trace A) (f f' : A → Trace B) (u u' : Trace B) → Below t t' → BelowAfter f f' → Below u u' → Below (chosen t f u) (chosen t' f' u')
unfolding chosen
below-chosen _ t' f f' u u' (deeper _) b c = deeper (chosen t' f' u')
below-chosen _ _ f f' u u' (same_end Done) b c = c
below-chosen _ _ f f' u u' (same_end e) b c = same_end e
below-chosen _ _ f f' u u' (same_note n {t = t} {u = t'} a) b c = same_note n (below-chosen t t' f f' u u' a b c)
below-chosen _ _ f f' u u' (same_answer x a) b c = b x

pub below-collected : {A B C : Type 0} (t t' : Trace A) (value : A → B) (f f' : List B → Trace C) → Below t t' → BelowAfter f f' → Below (collected t value f) (collected t' value f')
unfolding collected
below-collected _ t' value f f' (deeper _) b = deeper (collected t' value f')
below-collected _ _ value f f' (same_end Done) b = b []
below-collected _ _ value f f' (same_end e) b = same_end e
below-collected _ _ value f f' (same_note n {t = t} {u = t'} a) b = same_note n (below-collected t t' value f f' a b)
below-collected _ _ value f f' (same_answer x {t = t} {u = t'} a) b = below-collected t t' value (λ values. f (value x ∷ values)) (λ values. f' (value x ∷ values)) a (λ values. b (value x ∷ values))

pub below-counted : {A B : Type 0} (t t' : Trace A) (f f' : ℕ → Trace B) → Below t t' → BelowAfter f f' → Below (counted t f) (counted t' f')
unfolding counted
below-counted _ t' f f' (deeper _) b = deeper (counted t' f')
below-counted _ _ f f' (same_end Done) b = b 0
below-counted _ _ f f' (same_end e) b = same_end e
below-counted _ _ f f' (same_note n {t = t} {u = t'} a) b = same_note n (below-counted t t' f f' a b)
below-counted _ _ f f' (same_answer x {t = t} {u = t'} a) b = below-counted t t' (λ k. f (suc k)) (λ k. f' (suc k)) a (λ k. b (suc k))

pub below-caught : {A : Type 0} (t t' : Trace A) (f f' : Tree → Trace A) → Below t t' → BelowAfter f f' → Below (caught t f) (caught t' f')
unfolding caught
below-caught _ t' f f' (deeper _) b = deeper (caught t' f')
below-caught _ _ f f' (same_end (Raise ball)) b = b ball
below-caught _ _ f f' (same_end e) b = same_end e
below-caught _ _ f f' (same_note n {t = t} {u = t'} a) b = same_note n (below-caught t t' f f' a b)
below-caught _ _ f f' (same_answer x {t = t} {u = t'} a) b = same_answer x (below-caught t t' f f' a b)

pub below-emit : {A : Type 0} (events : List (Emitted A)) (t t' : Trace A) → Below t t' → Below (emit events t) (emit events t')
unfolding emit
below-emit [] t t' a = a
below-emit (noted n ∷ events) t t' a = same_note n (below-emit events t t' a)
below-emit (answered x ∷ events) t t' a = same_answer x (below-emit events t t' a)

-- what begins with events goes on with them
pub below-events : {A : Type 0} (events : List (Emitted A)) (t u : Trace A) → Below (emit events t) u → (rest : Trace A) × (u ≡ emit events rest) × Below t rest
unfolding emit
below-events [] t u a = (u, refl, a)
below-events (noted n ∷ events) t _ (same_note _ {u = u} a) = let r = below-events events t u a in (r.0, ap (note n) r.1, r.2)
below-events (answered x ∷ events) t _ (same_answer _ {u = u} a) = let r = below-events events t u a in (r.0, ap (ans x) r.1, r.2)

-- all greater depths
pub below-later : {A : Type 0} (trace : ℕ → Trace A) → DepthOnlyAdds trace → (depth more later : ℕ) → depth + more ≡ later → Below (trace depth) (trace later)
below-later trace step depth zero later e = subst (λ d. Below (trace depth) (trace d)) (omega arith) (below-refl (trace depth))
below-later trace step depth (suc more) later e =
    let near : ℕ = depth + more in
    let last : suc near ≡ later = omega arith in
    subst (λ d. Below (trace depth) (trace d)) last
    (below-trans (trace depth) (trace near) (trace (suc near)) (below-later trace step depth more near refl) (step near))

pub depth-enough : {A : Type 0} (trace : ℕ → Trace A) → DepthOnlyAdds trace → (depth more : ℕ) → WithoutDeep (trace depth) → trace depth ≡ trace (depth + more)
depth-enough trace step depth more h =
    below-whole (trace depth) (trace (depth + more)) (below-later trace step depth more (depth + more) refl) h
