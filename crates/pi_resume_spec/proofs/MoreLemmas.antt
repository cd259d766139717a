-- More depth only adds to goals in both runs, however they are put together; their answers stand in a relation.
use Rattle.std.specs.Prelude.{◌≡◌, ℕ, zero, suc, Bool, true, false, List, [], ◌∷◌, ◌++◌, ⊤}
use Rattle.pi_terms.specs.Tree.{Tree}
use Rattle.pi_traces.specs.Trace.{Trace, end, ans, End, Done, Raise, Abort, Miss, Deep, Note, Tick, Load, Out, done, one, alt, then}
use Rattle.pi_traces.specs.Control.{caught}
use Rattle.pi_traces.specs.Depth.{Below, deeper, same_end, same_note, same_answer}
use Rattle.pi_traces.specs.Related.{BelowBy, deeper_by, end_by, note_by, answer_by}
use Rattle.pi_traces.proofs.BelowLemmas.{below-refl}
use Rattle.pi_traces.proofs.RelatedLemmas.{Same, same, by-one, by-alt, by-then, by-chosen, by-caught}
use Rattle.pi_resume_spec.specs.Ways.{Way, Ways, here, choosing, numbered, behind, followed_by, choice_from}
use Rattle.pi_resume_spec.specs.Resumed.{Passing, a_tick, a_load, Following, on_way, reached, cut_off, bad, passed, stopped, Search, to_answer, simple, with_rest, follows_then, sequence, ways_of, taken_from, taken, alternatives, to_exception, with_handler, caught_at, caught_search, RuleSearch, rest_unless, rules_ways, on_first, bad_if, rules_taken, rules_followed, rules_search, ticked, chosen_search, resumed}
use Rattle.pi_resume_spec.specs.Searches.{without_paths}
use Rattle.pi_resume_spec.specs.More.{FollowsBelow, deeper_way, same_way, same_reached, same_cut, same_bad, SearchBelow}

-- ---- relations

-- the same path, and answers that stand in a relation
pub data WayBy {A B : Type 0} (R : A → B → Type 0) : Way A → Way B → Type 0 where
  same_path : (p : List ℕ) {x : A} {y : B} → R x y → WayBy R (record { path = p; answer = x }) (record { path = p; answer = y })

-- what follows numbers does the same and maybe more
pub data FollowsBy {A B : Type 0} (R : A → B → Type 0) : Following A → Following B → Type 0 where
  deeper_follows : (g : Following B) → FollowsBy R (cut_off Deep) g
  way_by : (p : Passing) {f : Following A} {g : Following B} → FollowsBy R f g → FollowsBy R (on_way p f) (on_way p g)
  reached_by : (made left : List ℕ) {x : A} {y : B} {t : Ways A} {u : Ways B} → R x y → BelowBy (WayBy R) t u → FollowsBy R (reached made x left t) (reached made y left u)
  cut_by : (e : End) → FollowsBy R (cut_off e) (cut_off e)
  bad_by : FollowsBy R bad bad

-- so does a goal, in both runs
pub record SearchBy {A B : Type 0} (R : A → B → Type 0) (s : Search A) (t : Search B) : Type 0 where
  pub ways : BelowBy (WayBy R) s.ways t.ways
  pub follows : (p : List ℕ) → FollowsBy R (s.follows p) (t.follows p)

-- ---- the same answers

way-same : {A : Type 0} (w : Way A) → WayBy Same w w
way-same w = same_path w.path (same w.answer)

same-way : {A : Type 0} (w v : Way A) (t u : Ways A) → WayBy Same w v → Below t u → Below (ans w t) (ans v u)
same-way _ _ t u (same_path p (same x)) a = same_answer (record { path = p; answer = x }) a

pub ways-below : {A : Type 0} (t u : Ways A) → BelowBy (WayBy Same) t u → Below t u
ways-below _ _ (deeper_by u) = deeper u
ways-below _ _ (end_by e) = same_end e
ways-below _ _ (note_by n {t = t} {u = u} a) = same_note n (ways-below t u a)
ways-below _ _ (answer_by {x = w} {y = v} {t = t} {u = u} r a) = same-way w v t u r (ways-below t u a)

pub ways-by : {A : Type 0} (t u : Ways A) → Below t u → BelowBy (WayBy Same) t u
ways-by _ _ (deeper u) = deeper_by u
ways-by _ _ (same_end e) = end_by e
ways-by _ _ (same_note n {t = t} {u = u} a) = note_by n (ways-by t u a)
ways-by _ _ (same_answer w {t = t} {u = u} a) = answer_by (way-same w) (ways-by t u a)

same-reaches : {A : Type 0} (made left : List ℕ) (x y : A) (t u : Ways A) → Same x y → Below t u → FollowsBelow (reached made x left t) (reached made y left u)
same-reaches made left _ _ t u (same x) a = same_reached made x left a

pub follows-below : {A : Type 0} (f g : Following A) → FollowsBy Same f g → FollowsBelow f g
follows-below _ _ (deeper_follows g) = deeper_way g
follows-below _ _ (way_by p {f = f} {g = g} a) = same_way p (follows-below f g a)
follows-below _ _ (reached_by made left {x = x} {y = y} {t = t} {u = u} r a) = same-reaches made left x y t u r (ways-below t u a)
follows-below _ _ (cut_by e) = same_cut e
follows-below _ _ bad_by = same_bad

follows-by : {A : Type 0} (f g : Following A) → FollowsBelow f g → FollowsBy Same f g
follows-by _ _ (deeper_way g) = deeper_follows g
follows-by _ _ (same_way p {f = f} {g = g} a) = way_by p (follows-by f g a)
follows-by _ _ (same_reached made x left {t = t} {u = u} a) = reached_by made left (same x) (ways-by t u a)
follows-by _ _ (same_cut e) = cut_by e
follows-by _ _ same_bad = bad_by

pub search-below : {A : Type 0} (s t : Search A) → SearchBy Same s t → SearchBelow s t
search-below s t h = record { ways = ways-below s.ways t.ways h.ways; follows = λ p. follows-below (s.follows p) (t.follows p) (h.follows p) }

pub search-by : {A : Type 0} (s t : Search A) → SearchBelow s t → SearchBy Same s t
search-by s t h = record { ways = ways-by s.ways t.ways h.ways; follows = λ p. follows-by (s.follows p) (t.follows p) (h.follows p) }

pub follows-itself : {A : Type 0} (f : Following A) → FollowsBelow f f
follows-itself (on_way p f) = same_way p (follows-itself f)
follows-itself (reached made x left later) = same_reached made x left (below-refl later)
follows-itself (cut_off e) = same_cut e
follows-itself bad = same_bad

pub search-itself : {A : Type 0} (s : Search A) → SearchBelow s s
search-itself s = record { ways = below-refl s.ways; follows = λ p. follows-itself (s.follows p) }

pub itself-by : {A : Type 0} (s : Search A) → SearchBy Same s s
itself-by s = search-by s s (search-itself s)

-- ---- ways

choosing-by : {A B : Type 0} (R : A → B → Type 0) (k : ℕ) (w : Way A) (v : Way B) → WayBy R w v → WayBy R (choosing k w) (choosing k v)
choosing-by R k _ _ (same_path p r) = same_path (k ∷ p) r

numbered-by : {A B : Type 0} (R : A → B → Type 0) (k : ℕ) (t : Ways A) (u : Ways B) → BelowBy (WayBy R) t u → BelowBy (WayBy R) (numbered k t) (numbered k u)
numbered-by R k t u a = by-then (WayBy R) (WayBy R) t u (λ w. one (choosing k w)) (λ w. one (choosing k w)) a (λ w v r. by-one (WayBy R) (choosing k w) (choosing k v) (choosing-by R k w v r))

behind-way : {A B : Type 0} (R : A → B → Type 0) (made : List ℕ) (w : Way A) (v : Way B) → WayBy R w v → WayBy R (behind made w) (behind made v)
behind-way R made _ _ (same_path p r) = same_path (made ++ p) r

onward-by : {A B : Type 0} (R : A → B → Type 0) (made : List ℕ) (t : Ways A) (u : Ways B) → BelowBy (WayBy R) t u → BelowBy (WayBy R) (then t (λ w. one (behind made w))) (then u (λ w. one (behind made w)))
onward-by R made t u a =
    by-then (WayBy R) (WayBy R) t u (λ w. one (behind made w)) (λ w. one (behind made w)) a (λ w v r. by-one (WayBy R) (behind made w) (behind made v) (behind-way R made w v r))

-- what follows answers that stand in a relation
AfterBy : {A B C D : Type 0} → (A → B → Type 0) → (C → D → Type 0) → (A → Ways C) → (B → Ways D) → Type 0
AfterBy {A = A} {B = B} R S f g = (x : A) (y : B) → R x y → BelowBy (WayBy S) (f x) (g y)

after-way : {A B C D : Type 0} (R : A → B → Type 0) (S : C → D → Type 0) (f : A → Ways C) (g : B → Ways D) → AfterBy R S f g → (w : Way A) (v : Way B) → WayBy R w v →
    BelowBy (WayBy S) (then (f w.answer) (λ u. one (behind w.path u))) (then (g v.answer) (λ u. one (behind v.path u)))
unfolding AfterBy
after-way R S f g all _ _ (same_path p {x = x} {y = y} r) = onward-by S p (f x) (g y) (all x y r)

followed-by : {A B C D : Type 0} (R : A → B → Type 0) (S : C → D → Type 0) (t : Ways A) (u : Ways B) (f : A → Ways C) (g : B → Ways D) → BelowBy (WayBy R) t u → AfterBy R S f g →
    BelowBy (WayBy S) (followed_by t f) (followed_by u g)
followed-by R S t u f g a all =
    by-then (WayBy R) (WayBy S) t u (λ w. then (f w.answer) (λ v. one (behind w.path v))) (λ w. then (g w.answer) (λ v. one (behind w.path v))) a (after-way R S f g all)

plain-way : {A B : Type 0} (R : A → B → Type 0) (w : Way A) (v : Way B) → WayBy R w v → BelowBy R (one w.answer) (one v.answer)
plain-way R _ _ (same_path p {x = x} {y = y} r) = by-one R x y r

-- without paths
pub without-by : {A B : Type 0} (R : A → B → Type 0) (s : Search A) (t : Search B) → SearchBy R s t → BelowBy R (without_paths s) (without_paths t)
without-by R s t h = by-then (WayBy R) R s.ways t.ways (λ w. one w.answer) (λ w. one w.answer) h.ways (plain-way R)

-- ---- goals without choices

stopped-by : {A B : Type 0} (R : A → B → Type 0) (e : End) → FollowsBy R (stopped e) (stopped e)
stopped-by R Done = bad_by
stopped-by R (Raise ball) = bad_by
stopped-by R (Abort ball) = bad_by
stopped-by R (Miss c) = cut_by (Miss c)
stopped-by R Deep = cut_by Deep

passed-by : {A B : Type 0} (R : A → B → Type 0) (n : Note) (f : Following A) (g : Following B) → FollowsBy R f g → FollowsBy R (passed n f) (passed n g)
passed-by R Tick f g a = way_by a_tick a
passed-by R (Load k) f g a = way_by (a_load k) a
passed-by R (Out text) f g a = a

straight-by : {A B : Type 0} (R : A → B → Type 0) (t : Trace A) (u : Trace B) → BelowBy R t u →
    BelowBy (WayBy R) (then t (λ x. here x)) (then u (λ x. here x))
straight-by R t u a =
    by-then R (WayBy R) t u (λ x. here x) (λ x. here x) a
    (λ x y r. by-one (WayBy R) (record { path = []; answer = x }) (record { path = []; answer = y }) (same_path [] r))

to-answer : {A B : Type 0} (R : A → B → Type 0) (p : List ℕ) (t : Trace A) (u : Trace B) → BelowBy R t u → FollowsBy R (to_answer p t) (to_answer p u)
unfolding to_answer
to-answer R p _ u (deeper_by _) = deeper_follows (to_answer p u)
to-answer R p _ _ (end_by e) = stopped-by R e
to-answer R p _ _ (note_by n {t = t} {u = u} a) = passed-by R n (to_answer p t) (to_answer p u) (to-answer R p t u a)
to-answer R p _ _ (answer_by {x = x} {y = y} {t = t} {u = u} r a) = reached_by [] p r (straight-by R t u a)

pub simple-by : {A B : Type 0} (R : A → B → Type 0) (t : Trace A) (u : Trace B) → BelowBy R t u → SearchBy R (simple t) (simple u)
simple-by R t u a = record { ways = straight-by R t u a; follows = λ p. to-answer R p t u a }

pub only-by : {A B : Type 0} (R : A → B → Type 0) (x : A) (y : B) → R x y → SearchBy R (simple (one x)) (simple (one y))
only-by R x y r = simple-by R (one x) (one y) (by-one R x y r)

pub deep-by : {A B : Type 0} (R : A → B → Type 0) (t : Search B) → SearchBy R (simple (end Deep)) t
unfolding then to_answer
deep-by R t = record { ways = deeper_by t.ways; follows = λ p. deeper_follows (t.follows p) }

-- ---- one goal after another

with-rest : {A B : Type 0} (R : A → B → Type 0) (made : List ℕ) (t : Ways A) (u : Ways B) (f : Following A) (g : Following B) → BelowBy (WayBy R) t u → FollowsBy R f g →
    FollowsBy R (with_rest made t f) (with_rest made u g)
unfolding with_rest
with-rest R made t u _ g b (deeper_follows _) = deeper_follows (with_rest made u g)
with-rest R made t u _ _ b (way_by p {f = f} {g = g} a) = way_by p (with-rest R made t u f g b a)
with-rest R made t u _ _ b (reached_by choices left {x = x} {y = y} {t = v} {u = w} r a) =
    reached_by (made ++ choices) left r (by-alt (WayBy R) (then v (λ k. one (behind made k))) (then w (λ k. one (behind made k))) t u (onward-by R made v w a) b)
with-rest R made t u _ _ b (cut_by e) = cut_by e
with-rest R made t u _ _ b bad_by = bad_by

-- searches after answers that stand in a relation
unfoldable pub SearchesBy : {A B C D : Type 0} → (A → B → Type 0) → (C → D → Type 0) → (A → Search C) → (B → Search D) → Type 0
SearchesBy {A = A} {B = B} R S f g = (x : A) (y : B) → R x y → SearchBy S (f x) (g y)

ways-after : {A B C D : Type 0} (R : A → B → Type 0) (S : C → D → Type 0) (f : A → Search C) (g : B → Search D) → SearchesBy R S f g → AfterBy R S (λ x. (f x).ways) (λ y. (g y).ways)
unfolding AfterBy SearchesBy
ways-after R S f g all x y r = (all x y r).ways

follows-then : {A B C D : Type 0} (R : A → B → Type 0) (S : C → D → Type 0) (f : Following A) (g : Following B) (h : A → Search C) (k : B → Search D) → FollowsBy R f g → SearchesBy R S h k →
    FollowsBy S (follows_then f h) (follows_then g k)
unfolding follows_then SearchesBy
follows-then R S _ g h k (deeper_follows _) all = deeper_follows (follows_then g k)
follows-then R S _ _ h k (way_by p {f = f} {g = g} a) all = way_by p (follows-then R S f g h k a all)
follows-then R S _ _ h k (reached_by made left {x = x} {y = y} {t = t} {u = u} r a) all =
    with-rest S made (followed_by t (λ z. (h z).ways)) (followed_by u (λ z. (k z).ways)) ((h x).follows left) ((k y).follows left)
    (followed-by R S t u (λ z. (h z).ways) (λ z. (k z).ways) a (ways-after R S h k all)) ((all x y r).follows left)
follows-then R S _ _ h k (cut_by e) all = cut_by e
follows-then R S _ _ h k bad_by all = bad_by

pub sequence-by : {A B C D : Type 0} (R : A → B → Type 0) (S : C → D → Type 0) (s : Search A) (t : Search B) (h : A → Search C) (k : B → Search D) → SearchBy R s t → SearchesBy R S h k →
    SearchBy S (sequence s h) (sequence t k)
sequence-by R S s t h k a all = record {
  ways = followed-by R S s.ways t.ways (λ z. (h z).ways) (λ z. (k z).ways) a.ways (ways-after R S h k all);
  follows = λ p. follows-then R S (s.follows p) (t.follows p) h k (a.follows p) all;
}

after-same : {A C D : Type 0} (S : C → D → Type 0) (h : A → Search C) (k : A → Search D) → ((x : A) → SearchBy S (h x) (k x)) → (x y : A) → Same x y → SearchBy S (h x) (k y)
after-same S h k all _ _ (same x) = all x

-- after the same answers
pub sequence-same : {A C D : Type 0} (S : C → D → Type 0) (s t : Search A) (h : A → Search C) (k : A → Search D) → SearchBelow s t → ((x : A) → SearchBy S (h x) (k x)) → SearchBy S (sequence s h) (sequence t k)
unfolding SearchesBy
sequence-same S s t h k a all = sequence-by Same S s t h k (search-by s t a) (after-same S h k all)

-- ---- a choice

unfoldable pub AllBy : {A B : Type 0} → (A → B → Type 0) → List (Search A) → List (Search B) → Type 0
AllBy R [] [] = ⊤
AllBy R [] (t ∷ ts) = ⊥
AllBy R (s ∷ ss) [] = ⊥
AllBy R (s ∷ ss) (t ∷ ts) = SearchBy R s t × AllBy R ss ts

choice-by : {A B : Type 0} (R : A → B → Type 0) (k : ℕ) (ss : List (Search A)) (ts : List (Search B)) → AllBy R ss ts → BelowBy (WayBy R) (choice_from k (ways_of ss)) (choice_from k (ways_of ts))
unfolding AllBy choice_from
choice-by R k [] [] h = end_by Done
choice-by R k [] (t ∷ ts) h = absurd h
choice-by R k (s ∷ ss) [] h = absurd h
choice-by R k (s ∷ ss) (t ∷ ts) h =
    by-alt (WayBy R) (numbered k s.ways) (numbered k t.ways) (choice_from (suc k) (ways_of ss)) (choice_from (suc k) (ways_of ts)) (numbered-by R k s.ways t.ways h.0.ways) (choice-by R (suc k) ss ts h.1)

taken-by : {A B : Type 0} (R : A → B → Type 0) (k : ℕ) (ss : List (Search A)) (ts : List (Search B)) (i : ℕ) (p : List ℕ) → AllBy R ss ts → FollowsBy R (taken_from k ss i p) (taken_from k ts i p)
unfolding AllBy taken_from
taken-by R k [] [] i p h = bad_by
taken-by R k [] (t ∷ ts) i p h = absurd h
taken-by R k (s ∷ ss) [] i p h = absurd h
taken-by R k (s ∷ ss) (t ∷ ts) zero p h =
    with-rest R (k ∷ []) (choice_from (suc k) (ways_of ss)) (choice_from (suc k) (ways_of ts)) (s.follows p) (t.follows p) (choice-by R (suc k) ss ts h.1) (h.0.follows p)
taken-by R k (s ∷ ss) (t ∷ ts) (suc i) p h = taken-by R (suc k) ss ts i p h.1

all-taken : {A B : Type 0} (R : A → B → Type 0) (ss : List (Search A)) (ts : List (Search B)) (p : List ℕ) → AllBy R ss ts → FollowsBy R (taken ss p) (taken ts p)
all-taken R ss ts [] h = bad_by
all-taken R ss ts (zero ∷ p) h = bad_by
all-taken R ss ts (suc i ∷ p) h = taken-by R 1 ss ts i p h

pub alternatives-by : {A B : Type 0} (R : A → B → Type 0) (ss : List (Search A)) (ts : List (Search B)) → AllBy R ss ts → SearchBy R (alternatives ss) (alternatives ts)
alternatives-by R ss ts h = record { ways = choice-by R 1 ss ts h; follows = λ p. all-taken R ss ts p h }

-- ---- a `catch`

-- what follows exceptions
unfoldable pub HandlersBy : {A B : Type 0} → (A → B → Type 0) → (Tree → Search A) → (Tree → Search B) → Type 0
HandlersBy R f g = (ball : Tree) → SearchBy R (f ball) (g ball)

to-exception : {A B C D : Type 0} (Q : C → D → Type 0) (R : A → B → Type 0) (t : Trace C) (u : Trace D) (f : Tree → Following A) (g : Tree → Following B) → BelowBy Q t u → ((ball : Tree) → FollowsBy R (f ball) (g ball)) →
    FollowsBy R (to_exception t f) (to_exception u g)
unfolding to_exception
to-exception Q R _ u f g (deeper_by _) all = deeper_follows (to_exception u g)
to-exception Q R _ _ f g (end_by (Raise ball)) all = all ball
to-exception Q R _ _ f g (end_by Done) all = bad_by
to-exception Q R _ _ f g (end_by (Abort ball)) all = bad_by
to-exception Q R _ _ f g (end_by (Miss c)) all = cut_by (Miss c)
to-exception Q R _ _ f g (end_by Deep) all = cut_by Deep
to-exception Q R _ _ f g (note_by n {t = t} {u = u} a) all = passed-by R n (to_exception t f) (to_exception u g) (to-exception Q R t u f g a all)
to-exception Q R _ _ f g (answer_by {t = t} {u = u} r a) all = to-exception Q R t u f g a all

catching-by : {A B : Type 0} (R : A → B → Type 0) (t : Ways A) (u : Ways B) (f : Tree → Search A) (g : Tree → Search B) → BelowBy (WayBy R) t u → HandlersBy R f g →
    BelowBy (WayBy R) (caught (numbered 1 t) (λ ball. numbered 2 (f ball).ways)) (caught (numbered 1 u) (λ ball. numbered 2 (g ball).ways))
unfolding HandlersBy
catching-by R t u f g a all =
    by-caught (WayBy R) (numbered 1 t) (numbered 1 u) (λ ball. numbered 2 (f ball).ways) (λ ball. numbered 2 (g ball).ways) (numbered-by R 1 t u a) (λ ball. numbered-by R 2 (f ball).ways (g ball).ways (all ball).ways)

with-handler : {A B : Type 0} (R : A → B → Type 0) (h : Tree → Search A) (k : Tree → Search B) (f : Following A) (g : Following B) → HandlersBy R h k → FollowsBy R f g →
    FollowsBy R (with_handler (λ ball. (h ball).ways) f) (with_handler (λ ball. (k ball).ways) g)
unfolding with_handler
with-handler R h k _ g all (deeper_follows _) = deeper_follows (with_handler (λ ball. (k ball).ways) g)
with-handler R h k _ _ all (way_by p {f = f} {g = g} a) = way_by p (with-handler R h k f g all a)
with-handler R h k _ _ all (reached_by made left {x = x} {y = y} {t = t} {u = u} r a) = reached_by (1 ∷ made) left r (catching-by R t u h k a all)
with-handler R h k _ _ all (cut_by e) = cut_by e
with-handler R h k _ _ all bad_by = bad_by

caught-at : {A B : Type 0} (R : A → B → Type 0) (s : Search A) (t : Search B) (h : Tree → Search A) (k : Tree → Search B) (p : List ℕ) → SearchBy R s t → HandlersBy R h k → FollowsBy R (caught_at s h p) (caught_at t k p)
unfolding HandlersBy
caught-at R s t h k [] a all = bad_by
caught-at R s t h k (zero ∷ p) a all = bad_by
caught-at R s t h k (suc zero ∷ p) a all = with-handler R h k (s.follows p) (t.follows p) all (a.follows p)
caught-at R s t h k (suc (suc zero) ∷ p) a all =
    to-exception (WayBy R) R s.ways t.ways (λ ball. with_rest (2 ∷ []) done ((h ball).follows p)) (λ ball. with_rest (2 ∷ []) done ((k ball).follows p)) a.ways
    (λ ball. with-rest R (2 ∷ []) done done ((h ball).follows p) ((k ball).follows p) (end_by Done) ((all ball).follows p))
caught-at R s t h k (suc (suc (suc i)) ∷ p) a all = bad_by

pub caught-by : {A B : Type 0} (R : A → B → Type 0) (s : Search A) (t : Search B) (h : Tree → Search A) (k : Tree → Search B) → SearchBy R s t → HandlersBy R h k → SearchBy R (caught_search s h) (caught_search t k)
caught-by R s t h k a all = record { ways = catching-by R s.ways t.ways h k a.ways all; follows = λ p. caught-at R s t h k p a all }

-- ---- rules

pub record RuleBy {X Y A B : Type 0} (P : X → Y → Type 0) (R : A → B → Type 0) (r : RuleSearch X A) (q : RuleSearch Y B) : Type 0 where
  pub applies : BelowBy P r.applies q.applies
  pub committed : r.committed ≡ q.committed
  pub body : SearchesBy P R r.body q.body

unfoldable pub RulesBy : {X Y A B : Type 0} → (X → Y → Type 0) → (A → B → Type 0) → List (RuleSearch X A) → List (RuleSearch Y B) → Type 0
RulesBy P R [] [] = ⊤
RulesBy P R [] (q ∷ qs) = ⊥
RulesBy P R (r ∷ rs) [] = ⊥
RulesBy P R (r ∷ rs) (q ∷ qs) = RuleBy P R r q × RulesBy P R rs qs

unless-by : {A B : Type 0} (R : A → B → Type 0) (b c : Bool) (t : Ways A) (u : Ways B) → b ≡ c → BelowBy (WayBy R) t u → BelowBy (WayBy R) (rest_unless b t) (rest_unless c u)
unless-by R true true t u e a = end_by Done
unless-by R true false t u e a = absurd cc
unless-by R false true t u e a = absurd cc
unless-by R false false t u e a = a

bad-if : {A B : Type 0} (R : A → B → Type 0) (b c : Bool) (f : Following A) (g : Following B) → b ≡ c → FollowsBy R f g → FollowsBy R (bad_if b f) (bad_if c g)
bad-if R true true f g e a = bad_by
bad-if R true false f g e a = absurd cc
bad-if R false true f g e a = absurd cc
bad-if R false false f g e a = a

rules-ways : {X Y A B : Type 0} (P : X → Y → Type 0) (R : A → B → Type 0) (k : ℕ) (rs : List (RuleSearch X A)) (qs : List (RuleSearch Y B)) → RulesBy P R rs qs → BelowBy (WayBy R) (rules_ways k rs) (rules_ways k qs)
unfolding RulesBy rules_ways SearchesBy
rules-ways P R k [] [] h = end_by Done
rules-ways P R k [] (q ∷ qs) h = absurd h
rules-ways P R k (r ∷ rs) [] h = absurd h
rules-ways P R k (r ∷ rs) (q ∷ qs) h =
    let more = rules-ways P R (suc k) rs qs h.1 in
    by-chosen P (WayBy R) r.applies q.applies (λ x. alt (numbered k (r.body x).ways) (rest_unless r.committed (rules_ways (suc k) rs)))
    (λ x. alt (numbered k (q.body x).ways) (rest_unless q.committed (rules_ways (suc k) qs))) (rules_ways (suc k) rs) (rules_ways (suc k) qs) h.0.applies
    (λ x y a. by-alt (WayBy R) (numbered k (r.body x).ways) (numbered k (q.body y).ways) (rest_unless r.committed (rules_ways (suc k) rs)) (rest_unless q.committed (rules_ways (suc k) qs))
    (numbered-by R k (r.body x).ways (q.body y).ways (h.0.body x y a).ways) (unless-by R r.committed q.committed (rules_ways (suc k) rs) (rules_ways (suc k) qs) h.0.committed more)) more

on-first : {X Y A B : Type 0} (P : X → Y → Type 0) (R : A → B → Type 0) (t : Trace X) (u : Trace Y) (f : X → Following A) (g : Y → Following B) (h : Following A) (k : Following B) →
    BelowBy P t u → ((x : X) (y : Y) → P x y → FollowsBy R (f x) (g y)) → FollowsBy R h k → FollowsBy R (on_first t f h) (on_first u g k)
unfolding on_first
on-first P R _ u f g h k (deeper_by _) all other = deeper_follows (on_first u g k)
on-first P R _ _ f g h k (end_by Done) all other = other
on-first P R _ _ f g h k (end_by (Raise ball)) all other = bad_by
on-first P R _ _ f g h k (end_by (Abort ball)) all other = bad_by
on-first P R _ _ f g h k (end_by (Miss c)) all other = cut_by (Miss c)
on-first P R _ _ f g h k (end_by Deep) all other = cut_by Deep
on-first P R _ _ f g h k (note_by n {t = t} {u = u} a) all other = passed-by R n (on_first t f h) (on_first u g k) (on-first P R t u f g h k a all other)
on-first P R _ _ f g h k (answer_by {x = x} {y = y} r a) all other = all x y r

rules-taken : {X Y A B : Type 0} (P : X → Y → Type 0) (R : A → B → Type 0) (k : ℕ) (rs : List (RuleSearch X A)) (qs : List (RuleSearch Y B)) (i : ℕ) (p : List ℕ) → RulesBy P R rs qs →
    FollowsBy R (rules_taken k rs i p) (rules_taken k qs i p)
unfolding RulesBy rules_taken SearchesBy
rules-taken P R k [] [] i p h = bad_by
rules-taken P R k [] (q ∷ qs) i p h = absurd h
rules-taken P R k (r ∷ rs) [] i p h = absurd h
rules-taken P R k (r ∷ rs) (q ∷ qs) zero p h =
    on-first P R r.applies q.applies (λ x. with_rest (k ∷ []) (rest_unless r.committed (rules_ways (suc k) rs)) ((r.body x).follows p))
    (λ x. with_rest (k ∷ []) (rest_unless q.committed (rules_ways (suc k) qs)) ((q.body x).follows p)) bad bad h.0.applies
    (λ x y a. with-rest R (k ∷ []) (rest_unless r.committed (rules_ways (suc k) rs)) (rest_unless q.committed (rules_ways (suc k) qs)) ((r.body x).follows p) ((q.body y).follows p)
    (unless-by R r.committed q.committed (rules_ways (suc k) rs) (rules_ways (suc k) qs) h.0.committed (rules-ways P R (suc k) rs qs h.1)) ((h.0.body x y a).follows p)) bad_by
rules-taken P R k (r ∷ rs) (q ∷ qs) (suc i) p h =
    let more = rules-taken P R (suc k) rs qs i p h.1 in
    on-first P R r.applies q.applies (λ x. bad_if r.committed (rules_taken (suc k) rs i p)) (λ x. bad_if q.committed (rules_taken (suc k) qs i p)) (rules_taken (suc k) rs i p) (rules_taken (suc k) qs i p) h.0.applies
    (λ x y a. bad-if R r.committed q.committed (rules_taken (suc k) rs i p) (rules_taken (suc k) qs i p) h.0.committed more) more

rules-followed : {X Y A B : Type 0} (P : X → Y → Type 0) (R : A → B → Type 0) (rs : List (RuleSearch X A)) (qs : List (RuleSearch Y B)) (p : List ℕ) → RulesBy P R rs qs → FollowsBy R (rules_followed rs p) (rules_followed qs p)
rules-followed P R rs qs [] h = bad_by
rules-followed P R rs qs (zero ∷ p) h = bad_by
rules-followed P R rs qs (suc i ∷ p) h = rules-taken P R 1 rs qs i p h

pub rules-by : {X Y A B : Type 0} (P : X → Y → Type 0) (R : A → B → Type 0) (rs : List (RuleSearch X A)) (qs : List (RuleSearch Y B)) → RulesBy P R rs qs → SearchBy R (rules_search rs) (rules_search qs)
rules-by P R rs qs h = record { ways = rules-ways P R 1 rs qs h; follows = λ p. rules-followed P R rs qs p h }

pub ticked-by : {A B : Type 0} (R : A → B → Type 0) (s : Search A) (t : Search B) → SearchBy R s t → SearchBy R (ticked s) (ticked t)
ticked-by R s t h = record { ways = note_by Tick h.ways; follows = λ p. way_by a_tick (h.follows p) }

-- ---- a condition

pub chosen-by : {X Y A B : Type 0} (P : X → Y → Type 0) (R : A → B → Type 0) (t : Trace X) (u : Trace Y) (f : X → Search A) (g : Y → Search B) (h : Search A) (k : Search B) → BelowBy P t u → SearchesBy P R f g → SearchBy R h k →
    SearchBy R (chosen_search t f h) (chosen_search u g k)
unfolding SearchesBy
chosen-by P R t u f g h k a all other = record {
  ways = by-chosen P (WayBy R) t u (λ x. (f x).ways) (λ x. (g x).ways) h.ways k.ways a (λ x y r. (all x y r).ways) other.ways;
  follows = λ p. on-first P R t u (λ x. (f x).follows p) (λ x. (g x).follows p) (h.follows p) (k.follows p) a (λ x y r. (all x y r).follows p) (other.follows p);
}

-- ---- a query

pub resumed-by : {A B : Type 0} (R : A → B → Type 0) (f : Following A) (g : Following B) → FollowsBy R f g → FollowsBy R (resumed f) (resumed g)
unfolding resumed
resumed-by R _ g (deeper_follows _) = deeper_follows (resumed g)
resumed-by R _ _ (way_by p {f = f} {g = g} a) = way_by p (resumed-by R f g a)
resumed-by R _ _ (reached_by made [] r a) = reached_by made [] r a
resumed-by R _ _ (reached_by made (n ∷ left) r a) = bad_by
resumed-by R _ _ (cut_by e) = cut_by e
resumed-by R _ _ bad_by = bad_by
