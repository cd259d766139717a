-- Lemmas on traces and control forms.
use Rattle.std.proofs.Common.{◌≡◌, ◌≢◌, ℕ, suc, List, [], ◌∷◌, ◌++◌, map, length, refl, ap, sym, ◌∙◌, ◌+◌, arith}
use Rattle.pi_terms.specs.Tree.{Tree}
use Rattle.pi_traces.specs.Trace.{Trace, end, note, ans, End, Done, Raise, Note, Emitted, noted, answered, done, one, alt, then, first, end_of, answers, emit, events_of}
use Rattle.pi_traces.specs.Control.{negated, chosen, collected, counted, caught}

pub events-and-end : {A : Type 0} (t : Trace A) → t ≡ emit (events_of t) (end (end_of t))
unfolding end_of emit events_of
events-and-end (end e) = refl
events-and-end (note n t) = ap (note n) (events-and-end t)
events-and-end (ans x t) = ap (ans x) (events-and-end t)

pub alt-goes_on : {A : Type 0} (t u : Trace A) → end_of t ≡ Done → alt t u ≡ emit (events_of t) u
unfolding alt end_of emit events_of
alt-goes_on (end Done) u h = refl
alt-goes_on (end e) u h = absurd cc
alt-goes_on (note n t) u h = ap (note n) (alt-goes_on t u h)
alt-goes_on (ans x t) u h = ap (ans x) (alt-goes_on t u h)

pub alt-first : {A : Type 0} (t u : Trace A) → end_of t ≢ Done → alt t u ≡ t
unfolding alt end_of
alt-first (end Done) u h = absurd (h refl)
alt-first (end e) u h = refl
alt-first (note n t) u h = ap (note n) (alt-first t u h)
alt-first (ans x t) u h = ap (ans x) (alt-first t u h)

pub alt-done : {A : Type 0} (t : Trace A) → alt t done ≡ t
unfolding alt
alt-done (end Done) = refl
alt-done (end e) = refl
alt-done (note n t) = ap (note n) (alt-done t)
alt-done (ans x t) = ap (ans x) (alt-done t)

pub alt-assoc : {A : Type 0} (t u v : Trace A) → alt (alt t u) v ≡ alt t (alt u v)
unfolding alt
alt-assoc (end Done) u v = refl
alt-assoc (end e) u v = refl
alt-assoc (note n t) u v = ap (note n) (alt-assoc t u v)
alt-assoc (ans x t) u v = ap (ans x) (alt-assoc t u v)

pub then-one : {A : Type 0} (t : Trace A) → then t (λ x. one x) ≡ t
unfolding alt then
then-one (end e) = refl
then-one (note n t) = ap (note n) (then-one t)
then-one (ans x t) = ap (ans x) (then-one t)

pub then-alt : {A B : Type 0} (t u : Trace A) (f : A → Trace B) → then (alt t u) f ≡ alt (then t f) (then u f)
unfolding alt then
then-alt (end Done) u f = refl
then-alt (end e) u f = refl
then-alt (note n t) u f = ap (note n) (then-alt t u f)
then-alt (ans x t) u f = ap (alt (f x)) (then-alt t u f) ∙ sym (alt-assoc (f x) (then t f) (then u f))

pub then-assoc : {A B C : Type 0} (t : Trace A) (f : A → Trace B) (g : B → Trace C) → then (then t f) g ≡ then t (λ x. then (f x) g)
unfolding alt then
then-assoc (end e) f g = refl
then-assoc (note n t) f g = ap (note n) (then-assoc t f g)
then-assoc (ans x t) f g = then-alt (f x) (then t f) g ∙ ap (alt (then (f x) g)) (then-assoc t f g)

-- ---- events in front

pub alt-emit : {A : Type 0} (events : List (Emitted A)) (t u : Trace A) → alt (emit events t) u ≡ emit events (alt t u)
unfolding alt emit
alt-emit [] t u = refl
alt-emit (noted n ∷ events) t u = ap (note n) (alt-emit events t u)
alt-emit (answered x ∷ events) t u = ap (ans x) (alt-emit events t u)

emit-alt : {A : Type 0} (events : List (Emitted A)) (t : Trace A) → emit events t ≡ alt (emit events done) t
unfolding alt
emit-alt events t = sym (alt-emit events done t)

pub then-notes : {A B : Type 0} (notes : List Note) (t : Trace A) (f : A → Trace B) → then (emit (map noted notes) t) f ≡ emit (map noted notes) (then t f)
unfolding then emit
then-notes [] t f = refl
then-notes (n ∷ notes) t f = ap (note n) (then-notes notes t f)

pub then-emit : {A B : Type 0} (events : List (Emitted A)) (t : Trace A) (f : A → Trace B) → then (emit events t) f ≡ alt (then (emit events done) f) (then t f)
then-emit events t f = ap (λ v. then v f) (emit-alt events t) ∙ then-alt (emit events done) t f

pub first-first : {A : Type 0} (t : Trace A) → first (first t) ≡ first t
unfolding first
first-first (end e) = refl
first-first (note n t) = ap (note n) (first-first t)
first-first (ans x t) = refl

pub first-stops : {A : Type 0} (notes : List Note) (x : A) (t : Trace A) → first (emit (map noted notes) (ans x t)) ≡ emit (map noted notes) (one x)
unfolding first emit
first-stops [] x t = refl
first-stops (n ∷ notes) x t = ap (note n) (first-stops notes x t)

pub first-all : {A : Type 0} (t : Trace A) → answers t ≡ [] → first t ≡ t
unfolding first answers
first-all (end e) h = refl
first-all (note n t) h = ap (note n) (first-all t h)
first-all (ans x t) h = absurd cc

pub chosen-then : {A B : Type 0} (t : Trace A) (f : A → Trace B) (u : Trace B) → answers t ≢ [] → chosen t f u ≡ then (first t) f
unfolding alt then first answers chosen
chosen-then (end Done) f u h = absurd (h refl)
chosen-then (end e) f u h = refl
chosen-then (note n t) f u h = ap (note n) (chosen-then t f u h)
chosen-then (ans x t) f u h = sym (alt-done (f x))

pub chosen-else : {A B : Type 0} (t : Trace A) (f : A → Trace B) (u : Trace B) → answers t ≡ [] → chosen t f u ≡ alt (then t f) u
unfolding alt then answers chosen
chosen-else (end Done) f u h = refl
chosen-else (end e) f u h = refl
chosen-else (note n t) f u h = ap (note n) (chosen-else t f u h)
chosen-else (ans x t) f u h = absurd cc

pub negated-chosen : {A B : Type 0} (t : Trace A) (y : B) → negated t y ≡ chosen t (λ x. done) (one y)
unfolding chosen negated
negated-chosen (end Done) y = refl
negated-chosen (end e) y = refl
negated-chosen (note n t) y = ap (note n) (negated-chosen t y)
negated-chosen (ans x t) y = refl

pub collected-list : {A B C : Type 0} (t : Trace A) (value : A → B) (f : List B → Trace C) → collected t value f ≡ alt (then t (λ x. done)) (f (map value (answers t)))
unfolding alt then answers collected
collected-list (end Done) value f = refl
collected-list (end e) value f = refl
collected-list (note n t) value f = ap (note n) (collected-list t value f)
collected-list (ans x t) value f = collected-list t value (λ values. f (value x ∷ values))

pub counted-length : {A B : Type 0} (t : Trace A) (f : ℕ → Trace B) → counted t f ≡ alt (then t (λ x. done)) (f (length (answers t)))
unfolding alt then answers counted
counted-length (end Done) f = refl
counted-length (end e) f = refl
counted-length (note n t) f = ap (note n) (counted-length t f)
counted-length (ans x t) f = counted-length t (λ k. f (suc k))

pub caught-raise : {A : Type 0} (events : List (Emitted A)) (ball : Tree) (f : Tree → Trace A) → caught (emit events (end (Raise ball))) f ≡ emit events (f ball)
unfolding emit caught
caught-raise [] ball f = refl
caught-raise (noted n ∷ events) ball f = ap (note n) (caught-raise events ball f)
caught-raise (answered x ∷ events) ball f = ap (ans x) (caught-raise events ball f)

pub caught-rest : {A : Type 0} (t : Trace A) (f : Tree → Trace A) → ((ball : Tree) → end_of t ≢ Raise ball) → caught t f ≡ t
unfolding end_of caught
caught-rest (end (Raise ball)) f h = absurd (h ball refl)
caught-rest (end e) f h = refl
caught-rest (note n t) f h = ap (note n) (caught-rest t f h)
caught-rest (ans x t) f h = ap (ans x) (caught-rest t f h)

pub emit-append : {A : Type 0} (front back : List (Emitted A)) (t : Trace A) → emit (front ++ back) t ≡ emit front (emit back t)
unfolding emit
emit-append [] back t = refl
emit-append (noted n ∷ front) back t = ap (note n) (emit-append front back t)
emit-append (answered x ∷ front) back t = ap (ans x) (emit-append front back t)

pub first-alt : {A : Type 0} (t u : Trace A) → first (alt t u) ≡ chosen t (λ x. one x) (first u)
unfolding alt first chosen
first-alt (end Done) u = refl
first-alt (end e) u = refl
first-alt (note n t) u = ap (note n) (first-alt t u)
first-alt (ans x t) u = refl

pub chosen-alt : {A B : Type 0} (t u : Trace A) (f : A → Trace B) (v : Trace B) → chosen (alt t u) f v ≡ chosen t f (chosen u f v)
unfolding alt chosen
chosen-alt (end Done) u f v = refl
chosen-alt (end e) u f v = refl
chosen-alt (note n t) u f v = ap (note n) (chosen-alt t u f v)
chosen-alt (ans x t) u f v = refl

pub negated-alt : {A B : Type 0} (t u : Trace A) (y : B) → negated (alt t u) y ≡ chosen t (λ x. done) (negated u y)
negated-alt t u y =
    negated-chosen (alt t u) y
    ∙ (chosen-alt t u (λ x. done) (one y) ∙ ap (λ v. chosen t (λ x. done) v) (sym (negated-chosen u y)))

pub collected-alt : {A B C : Type 0} (t u : Trace A) (value : A → B) (f : List B → Trace C) → collected (alt t u) value f ≡ collected t value (λ front. collected u value (λ back. f (front ++ back)))
unfolding alt collected
collected-alt (end Done) u value f = refl
collected-alt (end e) u value f = refl
collected-alt (note n t) u value f = ap (note n) (collected-alt t u value f)
collected-alt (ans x t) u value f = collected-alt t u value (λ values. f (value x ∷ values))

counted-same : {A B : Type 0} (t : Trace A) (f g : ℕ → Trace B) → ((k : ℕ) → f k ≡ g k) → counted t f ≡ counted t g
unfolding counted
counted-same (end Done) f g h = h 0
counted-same (end e) f g h = refl
counted-same (note n t) f g h = ap (note n) (counted-same t f g h)
counted-same (ans x t) f g h = counted-same t (λ k. f (suc k)) (λ k. g (suc k)) (λ k. h (suc k))

pub counted-alt : {A B : Type 0} (t u : Trace A) (f : ℕ → Trace B) → counted (alt t u) f ≡ counted t (λ j. counted u (λ k. f (j + k)))
unfolding alt counted
counted-alt (end Done) u f = counted-same u f (λ k. f (0 + k)) (λ k. ap f (omega arith))
counted-alt (end e) u f = refl
counted-alt (note n t) u f = ap (note n) (counted-alt t u f)
counted-alt (ans x t) u f =
    counted-alt t u (λ k. f (suc k))
    ∙ counted-same t (λ j. counted u (λ k. f (suc (j + k)))) (λ j. counted u (λ k. f (suc j + k)))
    (λ j. counted-same u (λ k. f (suc (j + k))) (λ k. f (suc j + k)) (λ k. ap f (omega arith)))

pub caught-alt : {A : Type 0} (t u : Trace A) (f : Tree → Trace A) → end_of t ≡ Done → caught (alt t u) f ≡ alt t (caught u f)
unfolding alt end_of caught
caught-alt (end Done) u f h = refl
caught-alt (end e) u f h = absurd cc
caught-alt (note n t) u f h = ap (note n) (caught-alt t u f h)
caught-alt (ans x t) u f h = ap (ans x) (caught-alt t u f h)

-- ---- what follows a `catch`

pub caught-emit : {A : Type 0} (events : List (Emitted A)) (t : Trace A) (f : Tree → Trace A) → caught (emit events t) f ≡ emit events (caught t f)
unfolding emit caught
caught-emit [] t f = refl
caught-emit (noted n ∷ events) t f = ap (note n) (caught-emit events t f)
caught-emit (answered x ∷ events) t f = ap (ans x) (caught-emit events t f)

raise_not_done : (e : End) (ball : Tree) → e ≡ Raise ball → e ≢ Done
raise_not_done e ball h d = absurd cc

pub caught-behind : {A B : Type 0} (events : List (Emitted A)) (x : A) (t : Trace A) (handler : Tree → Trace A) (f : A → Trace B) (ball : Tree) → end_of (then (emit events done) f) ≡ Done → end_of (f x) ≡ Raise ball
    → then (caught (emit events (ans x t)) handler) f ≡ emit (events_of (then (emit events done) f)) (f x)
unfolding then caught
caught-behind events x t handler f ball d r =
    ap (λ v. then v f) (caught-emit events (ans x t) handler)
    ∙ (then-emit events (ans x (caught t handler)) f
    ∙ (ap (alt (then (emit events done) f)) (alt-first (f x) (then (caught t handler) f) (raise_not_done (end_of (f x)) ball r))
    ∙ alt-goes_on (then (emit events done) f) (f x) d))

pub caught-none : {A B : Type 0} (t : Trace A) (handler : Tree → Trace A) (f : A → Trace B) → ((ball : Tree) → end_of t ≢ Raise ball) → then (caught t handler) f ≡ then t f
caught-none t handler f h = ap (λ v. then v f) (caught-rest t handler h)

pub caught-followed : {A B : Type 0} (events : List (Emitted A)) (ball : Tree) (handler : Tree → Trace A) (f : A → Trace B) → then (caught (emit events (end (Raise ball))) handler) f ≡ alt (then (emit events done) f) (then (handler ball) f)
caught-followed events ball handler f = ap (λ v. then v f) (caught-raise events ball handler) ∙ then-emit events (handler ball) f
