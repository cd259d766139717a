-- Goals in both runs that come to Deep only past so many Ticks, however they are put together.
use Rattle.std.specs.Prelude.{◌≡◌, ℕ, zero, suc, ◌-◌, ◌≤◌, Bool, true, false, List, [], ◌∷◌, ⊤, refl}
use Rattle.std.proofs.Common.{arith, ap, subst}
use Rattle.pi_terms.specs.Tree.{Tree}
use Rattle.pi_traces.specs.Trace.{Trace, end, note, ans, End, Done, Raise, Abort, Miss, Deep, Tick, Load, Out, done, one, alt, then}
use Rattle.pi_traces.specs.Control.{caught}
use Rattle.pi_traces.proofs.LastLemmas.{Lasts, Falls, less-left, lasts-map, done-lasts, one-lasts, alt-lasts, then-lasts, chosen-lasts, caught-lasts, cut-lasts}
use Rattle.pi_resume_spec.specs.Ways.{Way, Ways, here, choosing, numbered, behind, followed_by, choice_from}
use Rattle.pi_resume_spec.specs.Resumed.{a_tick, a_load, Following, on_way, reached, cut_off, bad, stopped, Search, to_answer, simple, with_rest, follows_then, sequence, ways_of, taken_from, taken, alternatives, to_exception, with_handler, caught_at, caught_search, RuleSearch, rest_unless, rules_ways, on_first, bad_if, rules_taken, rules_followed, rules_search, ticked, chosen_search, resumed}
use Rattle.pi_resume_spec.specs.ResumedCut.{resumed_cut, ResumedWithoutDeep}
use Rattle.pi_resume_spec.specs.ResumedWork.{stop_of}
use Rattle.pi_resume_spec.specs.Searches.{without_paths}

-- of an answer with its path
abbrev pub OnWay : {A : Type 0} → (ℕ → A → Type 0) → ℕ → Way A → Type 0
OnWay Ok d w = Ok d w.answer

pub way-falls : {A : Type 0} (Ok : ℕ → A → Type 0) → Falls Ok → Falls (OnWay Ok)
way-falls Ok f d k w h a = f d k w.answer h a

-- Deep comes past d Ticks or more, and what numbers lead to past fewer holds what is said of those that are left
unfoldable pub FollowLasts : {A : Type 0} → (ℕ → A → Type 0) → ℕ → Following A → Type 0
FollowLasts Ok d (on_way a_tick f) = FollowLasts Ok (d - 1) f
FollowLasts Ok d (on_way (a_load k) f) = FollowLasts Ok d f
FollowLasts Ok d (reached made x left later) = Ok d x × Lasts (OnWay Ok) d later
FollowLasts Ok d (cut_off e) = e ≡ Deep → d ≡ 0
FollowLasts Ok d bad = ⊤

pub record SearchLasts {A : Type 0} (Ok : ℕ → A → Type 0) (d : ℕ) (s : Search A) : Type 0 where
  pub ways : Lasts (OnWay Ok) d s.ways
  pub follows : (p : List ℕ) → FollowLasts Ok d (s.follows p)

-- what follows, from each answer
abbrev pub EachLasts : {A B : Type 0} → (ℕ → A → Type 0) → (ℕ → B → Type 0) → ℕ → (A → Search B) → Type 0
EachLasts {A = A} Ok Ok' d g = (k : ℕ) (x : A) → k ≤ d → Ok k x → SearchLasts Ok' k (g x)

-- ---- less, and something else, of what is left

less-follows : {A : Type 0} (Ok : ℕ → A → Type 0) → Falls Ok → (d k : ℕ) → k ≤ d → (f : Following A) → FollowLasts Ok d f → FollowLasts Ok k f
unfolding FollowLasts
less-follows Ok h d k l (on_way a_tick f) a = less-follows Ok h (d - 1) (k - 1) (omega (arith, l)) f a
less-follows Ok h d k l (on_way (a_load n) f) a = less-follows Ok h d k l f a
less-follows Ok h d k l (reached made x left later) a = (h d k x l a.0, less-left (OnWay Ok) (way-falls Ok h) d k l later a.1)
less-follows Ok h d k l (cut_off e) a = λ is. let z : d ≡ 0 = a is in omega (arith, l, z)
less-follows Ok h d k l bad a = tt

pub less-search : {A : Type 0} (Ok : ℕ → A → Type 0) → Falls Ok → (d k : ℕ) → k ≤ d → (s : Search A) → SearchLasts Ok d s → SearchLasts Ok k s
less-search Ok h d k l s a = record { ways = less-left (OnWay Ok) (way-falls Ok h) d k l s.ways a.ways; follows = λ p. less-follows Ok h d k l (s.follows p) (a.follows p) }

follows-map : {A : Type 0} (Ok Ok' : ℕ → A → Type 0) → ((d : ℕ) (x : A) → Ok d x → Ok' d x) → (d : ℕ) (f : Following A) → FollowLasts Ok d f → FollowLasts Ok' d f
unfolding FollowLasts
follows-map Ok Ok' g d (on_way a_tick f) a = follows-map Ok Ok' g (d - 1) f a
follows-map Ok Ok' g d (on_way (a_load n) f) a = follows-map Ok Ok' g d f a
follows-map Ok Ok' g d (reached made x left later) a = (g d x a.0, lasts-map (OnWay Ok) (OnWay Ok') (λ k w o. g k w.answer o) d later a.1)
follows-map Ok Ok' g d (cut_off e) a = a
follows-map Ok Ok' g d bad a = a

pub search-map : {A : Type 0} (Ok Ok' : ℕ → A → Type 0) → ((d : ℕ) (x : A) → Ok d x → Ok' d x) → (d : ℕ) (s : Search A) → SearchLasts Ok d s → SearchLasts Ok' d s
search-map Ok Ok' g d s a = record { ways = lasts-map (OnWay Ok) (OnWay Ok') (λ k w o. g k w.answer o) d s.ways a.ways; follows = λ p. follows-map Ok Ok' g d (s.follows p) (a.follows p) }

-- no Ticks last in every search
no-ways : {A : Type 0} (t : Ways A) → Lasts (OnWay (λ k (x : A). Unit {0})) 0 t
unfolding Lasts
no-ways (end e) = λ is. refl
no-ways (note Tick t) = no-ways t
no-ways (note (Load k) t) = no-ways t
no-ways (note (Out text) t) = no-ways t
no-ways (ans w t) = (tt, no-ways t)

no-follows : {A : Type 0} (f : Following A) → FollowLasts (λ k (x : A). Unit {0}) 0 f
unfolding FollowLasts
no-follows (on_way a_tick f) = no-follows f
no-follows (on_way (a_load k) f) = no-follows f
no-follows (reached made x left later) = (tt, no-ways later)
no-follows (cut_off e) = λ is. refl
no-follows bad = tt

pub none-search : {A : Type 0} (d : ℕ) (s : Search A) → d ≤ 0 → SearchLasts (λ k (x : A). Unit {0}) d s
none-search d s h =
    let none : 0 ≡ d = omega (arith, h) in
    subst (λ (k : ℕ). SearchLasts (λ j (x : _). Unit {0}) k s) none (record { ways = no-ways s.ways; follows = λ p. no-follows (s.follows p) })

-- ---- ways

numbered-lasts : {A : Type 0} (Ok : ℕ → A → Type 0) → Falls Ok → (d k : ℕ) (t : Ways A) → Lasts (OnWay Ok) d t → Lasts (OnWay Ok) d (numbered k t)
numbered-lasts Ok h d k t a = then-lasts (OnWay Ok) (OnWay Ok) (way-falls Ok h) d t (λ w. one (choosing k w)) a (λ j w m o. one-lasts (OnWay Ok) j (choosing k w) o)

onward-lasts : {A : Type 0} (Ok : ℕ → A → Type 0) → Falls Ok → (d : ℕ) (made : List ℕ) (t : Ways A) → Lasts (OnWay Ok) d t → Lasts (OnWay Ok) d (then t (λ w. one (behind made w)))
onward-lasts Ok h d made t a = then-lasts (OnWay Ok) (OnWay Ok) (way-falls Ok h) d t (λ w. one (behind made w)) a (λ j w m o. one-lasts (OnWay Ok) j (behind made w) o)

followed-lasts : {A B : Type 0} (Ok : ℕ → A → Type 0) (Ok' : ℕ → B → Type 0) → Falls Ok' → (d : ℕ) (t : Ways A) (g : A → Search B) → Lasts (OnWay Ok) d t → EachLasts Ok Ok' d g →
    Lasts (OnWay Ok') d (followed_by t (λ x. (g x).ways))
followed-lasts Ok Ok' h d t g a each =
    then-lasts (OnWay Ok) (OnWay Ok') (way-falls Ok' h) d t (λ w. then (g w.answer).ways (λ v. one (behind w.path v))) a (λ k w m o. onward-lasts Ok' h k w.path (g w.answer).ways (each k w.answer m o).ways)

pub without-lasts : {A : Type 0} (Ok : ℕ → A → Type 0) → Falls Ok → (d : ℕ) (s : Search A) → SearchLasts Ok d s → Lasts Ok d (without_paths s)
without-lasts Ok h d s a = then-lasts (OnWay Ok) Ok h d s.ways (λ w. one w.answer) a.ways (λ k w m o. one-lasts Ok k w.answer o)

-- ---- goals without choices

straight-lasts : {A : Type 0} (Ok : ℕ → A → Type 0) → Falls Ok → (d : ℕ) (t : Trace A) → Lasts Ok d t → Lasts (OnWay Ok) d (then t (λ x. here x))
straight-lasts Ok h d t a = then-lasts Ok (OnWay Ok) (way-falls Ok h) d t (λ x. here x) a (λ k x m o. one-lasts (OnWay Ok) k (record { path = []; answer = x }) o)

stopped-lasts : {A : Type 0} (Ok : ℕ → A → Type 0) (d : ℕ) (e : End) → (e ≡ Deep → d ≡ 0) → FollowLasts Ok d (stopped e)
unfolding FollowLasts
stopped-lasts Ok d Done a = tt
stopped-lasts Ok d (Raise ball) a = tt
stopped-lasts Ok d (Abort ball) a = tt
stopped-lasts Ok d (Miss c) a = a
stopped-lasts Ok d Deep a = a

to-answer : {A : Type 0} (Ok : ℕ → A → Type 0) → Falls Ok → (d : ℕ) (p : List ℕ) (t : Trace A) → Lasts Ok d t → FollowLasts Ok d (to_answer p t)
unfolding Lasts FollowLasts to_answer
to-answer Ok h d p (end e) a = stopped-lasts Ok d e a
to-answer Ok h d p (note Tick t) a = to-answer Ok h (d - 1) p t a
to-answer Ok h d p (note (Load k) t) a = to-answer Ok h d p t a
to-answer Ok h d p (note (Out text) t) a = to-answer Ok h d p t a
to-answer Ok h d p (ans x t) a = (a.0, straight-lasts Ok h d t a.1)

pub simple-lasts : {A : Type 0} (Ok : ℕ → A → Type 0) → Falls Ok → (d : ℕ) (t : Trace A) → Lasts Ok d t → SearchLasts Ok d (simple t)
simple-lasts Ok h d t a = record { ways = straight-lasts Ok h d t a; follows = λ p. to-answer Ok h d p t a }

pub only-lasts : {A : Type 0} (Ok : ℕ → A → Type 0) → Falls Ok → (d : ℕ) (x : A) → Ok d x → SearchLasts Ok d (simple (one x))
only-lasts Ok h d x o = simple-lasts Ok h d (one x) (one-lasts Ok d x o)

-- ---- one goal after another

with-rest : {A : Type 0} (Ok : ℕ → A → Type 0) → Falls Ok → (d : ℕ) (made : List ℕ) (t : Ways A) (f : Following A) → Lasts (OnWay Ok) d t → FollowLasts Ok d f → FollowLasts Ok d (with_rest made t f)
unfolding FollowLasts with_rest
with-rest Ok h d made t (on_way a_tick f) b a = with-rest Ok h (d - 1) made t f (less-left (OnWay Ok) (way-falls Ok h) d (d - 1) (omega arith) t b) a
with-rest Ok h d made t (on_way (a_load k) f) b a = with-rest Ok h d made t f b a
with-rest Ok h d made t (reached choices x left later) b a =
    (a.0, alt-lasts (OnWay Ok) (way-falls Ok h) d (then later (λ w. one (behind made w))) t (onward-lasts Ok h d made later a.1) b)
with-rest Ok h d made t (cut_off e) b a = a
with-rest Ok h d made t bad b a = a

follows-then : {A B : Type 0} (Ok : ℕ → A → Type 0) (Ok' : ℕ → B → Type 0) → Falls Ok' → (d : ℕ) (f : Following A) (g : A → Search B) → FollowLasts Ok d f → EachLasts Ok Ok' d g → FollowLasts Ok' d (follows_then f g)
unfolding FollowLasts follows_then
follows-then Ok Ok' h d (on_way a_tick f) g a each = follows-then Ok Ok' h (d - 1) f g a (λ k x m o. each k x (omega (arith, m)) o)
follows-then Ok Ok' h d (on_way (a_load k) f) g a each = follows-then Ok Ok' h d f g a each
follows-then Ok Ok' h d (reached made x left later) g a each =
    with-rest Ok' h d made (followed_by later (λ y. (g y).ways)) ((g x).follows left) (followed-lasts Ok Ok' h d later g a.1 each) ((each d x (omega arith) a.0).follows left)
follows-then Ok Ok' h d (cut_off e) g a each = a
follows-then Ok Ok' h d bad g a each = a

pub sequence-lasts : {A B : Type 0} (Ok : ℕ → A → Type 0) (Ok' : ℕ → B → Type 0) → Falls Ok' → (d : ℕ) (s : Search A) (g : A → Search B) → SearchLasts Ok d s → EachLasts Ok Ok' d g → SearchLasts Ok' d (sequence s g)
sequence-lasts Ok Ok' h d s g a each = record { ways = followed-lasts Ok Ok' h d s.ways g a.ways each; follows = λ p. follows-then Ok Ok' h d (s.follows p) g (a.follows p) each }

-- ---- a choice

unfoldable pub AllLast : {A : Type 0} → (ℕ → A → Type 0) → ℕ → List (Search A) → Type 0
AllLast Ok d [] = ⊤
AllLast Ok d (s ∷ more) = SearchLasts Ok d s × AllLast Ok d more

choice-lasts : {A : Type 0} (Ok : ℕ → A → Type 0) → Falls Ok → (d k : ℕ) (more : List (Search A)) → AllLast Ok d more → Lasts (OnWay Ok) d (choice_from k (ways_of more))
unfolding AllLast choice_from
choice-lasts Ok h d k [] a = done-lasts (OnWay Ok) d
choice-lasts Ok h d k (s ∷ more) a =
    alt-lasts (OnWay Ok) (way-falls Ok h) d (numbered k s.ways) (choice_from (suc k) (ways_of more)) (numbered-lasts Ok h d k s.ways a.0.ways) (choice-lasts Ok h d (suc k) more a.1)

taken-lasts : {A : Type 0} (Ok : ℕ → A → Type 0) → Falls Ok → (d k : ℕ) (more : List (Search A)) (i : ℕ) (p : List ℕ) → AllLast Ok d more → FollowLasts Ok d (taken_from k more i p)
unfolding AllLast taken_from FollowLasts
taken-lasts Ok h d k [] i p a = tt
taken-lasts Ok h d k (s ∷ more) zero p a = with-rest Ok h d (k ∷ []) (choice_from (suc k) (ways_of more)) (s.follows p) (choice-lasts Ok h d (suc k) more a.1) (a.0.follows p)
taken-lasts Ok h d k (s ∷ more) (suc i) p a = taken-lasts Ok h d (suc k) more i p a.1

all-taken : {A : Type 0} (Ok : ℕ → A → Type 0) → Falls Ok → (d : ℕ) (more : List (Search A)) (p : List ℕ) → AllLast Ok d more → FollowLasts Ok d (taken more p)
unfolding FollowLasts
all-taken Ok h d more [] a = tt
all-taken Ok h d more (zero ∷ p) a = tt
all-taken Ok h d more (suc i ∷ p) a = taken-lasts Ok h d 1 more i p a

pub alternatives-lasts : {A : Type 0} (Ok : ℕ → A → Type 0) → Falls Ok → (d : ℕ) (more : List (Search A)) → AllLast Ok d more → SearchLasts Ok d (alternatives more)
alternatives-lasts Ok h d more a = record { ways = choice-lasts Ok h d 1 more a; follows = λ p. all-taken Ok h d more p a }

-- ---- a `catch`

abbrev pub HandlersLast : {A : Type 0} → (ℕ → A → Type 0) → ℕ → (Tree → Search A) → Type 0
HandlersLast Ok d f = (k : ℕ) (ball : Tree) → k ≤ d → SearchLasts Ok k (f ball)

catching-lasts : {A : Type 0} (Ok : ℕ → A → Type 0) → Falls Ok → (d : ℕ) (t : Ways A) (f : Tree → Search A) → Lasts (OnWay Ok) d t → HandlersLast Ok d f →
    Lasts (OnWay Ok) d (caught (numbered 1 t) (λ ball. numbered 2 (f ball).ways))
catching-lasts Ok h d t f a all =
    caught-lasts (OnWay Ok) d (numbered 1 t) (λ ball. numbered 2 (f ball).ways) (numbered-lasts Ok h d 1 t a) (λ k ball m. numbered-lasts Ok h k 2 (f ball).ways (all k ball m).ways)

to-exception : {A B : Type 0} (Ok : ℕ → A → Type 0) (Ok' : ℕ → B → Type 0) (d : ℕ) (t : Trace A) (f : Tree → Following B) → Lasts Ok d t → ((k : ℕ) (ball : Tree) → k ≤ d → FollowLasts Ok' k (f ball)) →
    FollowLasts Ok' d (to_exception t f)
unfolding Lasts FollowLasts to_exception
to-exception Ok Ok' d (end (Raise ball)) f a all = all d ball (omega arith)
to-exception Ok Ok' d (end Done) f a all = tt
to-exception Ok Ok' d (end (Abort ball)) f a all = tt
to-exception Ok Ok' d (end (Miss c)) f a all = a
to-exception Ok Ok' d (end Deep) f a all = a
to-exception Ok Ok' d (note Tick t) f a all = to-exception Ok Ok' (d - 1) t f a (λ k ball m. all k ball (omega (arith, m)))
to-exception Ok Ok' d (note (Load n) t) f a all = to-exception Ok Ok' d t f a all
to-exception Ok Ok' d (note (Out text) t) f a all = to-exception Ok Ok' d t f a all
to-exception Ok Ok' d (ans x t) f a all = to-exception Ok Ok' d t f a.1 all

with-handler : {A : Type 0} (Ok : ℕ → A → Type 0) → Falls Ok → (d : ℕ) (h : Tree → Search A) (f : Following A) → HandlersLast Ok d h → FollowLasts Ok d f → FollowLasts Ok d (with_handler (λ ball. (h ball).ways) f)
unfolding FollowLasts with_handler
with-handler Ok g d h (on_way a_tick f) all a = with-handler Ok g (d - 1) h f (λ k ball m. all k ball (omega (arith, m))) a
with-handler Ok g d h (on_way (a_load k) f) all a = with-handler Ok g d h f all a
with-handler Ok g d h (reached made x left later) all a = (a.0, catching-lasts Ok g d later h a.1 all)
with-handler Ok g d h (cut_off e) all a = a
with-handler Ok g d h bad all a = a

caught-at : {A : Type 0} (Ok : ℕ → A → Type 0) → Falls Ok → (d : ℕ) (s : Search A) (h : Tree → Search A) (p : List ℕ) → SearchLasts Ok d s → HandlersLast Ok d h → FollowLasts Ok d (caught_at s h p)
unfolding FollowLasts
caught-at Ok g d s h [] a all = tt
caught-at Ok g d s h (zero ∷ p) a all = tt
caught-at Ok g d s h (suc zero ∷ p) a all = with-handler Ok g d h (s.follows p) all (a.follows p)
caught-at Ok g d s h (suc (suc zero) ∷ p) a all =
    to-exception (OnWay Ok) Ok d s.ways (λ ball. with_rest (2 ∷ []) done ((h ball).follows p)) a.ways (λ k ball m. with-rest Ok g k (2 ∷ []) done ((h ball).follows p) (done-lasts (OnWay Ok) k) ((all k ball m).follows p))
caught-at Ok g d s h (suc (suc (suc i)) ∷ p) a all = tt

pub catch-lasts : {A : Type 0} (Ok : ℕ → A → Type 0) → Falls Ok → (d : ℕ) (s : Search A) (h : Tree → Search A) → SearchLasts Ok d s → HandlersLast Ok d h → SearchLasts Ok d (caught_search s h)
catch-lasts Ok g d s h a all = record { ways = catching-lasts Ok g d s.ways h a.ways all; follows = λ p. caught-at Ok g d s h p a all }

-- ---- rules

-- a rule: where it applies, by what is said of the places there, and its body from each of them
pub record RuleLasts {X A : Type 0} (Ok : ℕ → A → Type 0) (d : ℕ) (r : RuleSearch X A) : Type 1 where
  pub there : ℕ → X → Type 0
  pub applies : Lasts there d r.applies
  pub body : EachLasts there Ok d r.body

unfoldable pub RulesLast : {X A : Type 0} → (ℕ → A → Type 0) → ℕ → List (RuleSearch X A) → Type 1
RulesLast Ok d [] = Unit {1}
RulesLast Ok d (r ∷ rs) = RuleLasts Ok d r × RulesLast Ok d rs

unless-lasts : {A : Type 0} (Ok : ℕ → A → Type 0) (d : ℕ) (c : Bool) (t : Ways A) → Lasts (OnWay Ok) d t → Lasts (OnWay Ok) d (rest_unless c t)
unless-lasts Ok d true t a = done-lasts (OnWay Ok) d
unless-lasts Ok d false t a = a

rules-ways : {X A : Type 0} (Ok : ℕ → A → Type 0) → Falls Ok → (d k : ℕ) (rs : List (RuleSearch X A)) → RulesLast Ok d rs → Lasts (OnWay Ok) d (rules_ways k rs)
unfolding RulesLast rules_ways
rules-ways Ok h d k [] a = done-lasts (OnWay Ok) d
rules-ways Ok h d k (r ∷ rs) a =
    let more = rules-ways Ok h d (suc k) rs a.1 in
    chosen-lasts a.0.there (OnWay Ok) (way-falls Ok h) d r.applies (λ x. alt (numbered k (r.body x).ways) (rest_unless r.committed (rules_ways (suc k) rs))) (rules_ways (suc k) rs) a.0.applies
    (λ j x m o. alt-lasts (OnWay Ok) (way-falls Ok h) j (numbered k (r.body x).ways) (rest_unless r.committed (rules_ways (suc k) rs)) (numbered-lasts Ok h j k (r.body x).ways (a.0.body j x m o).ways)
    (unless-lasts Ok j r.committed (rules_ways (suc k) rs) (less-left (OnWay Ok) (way-falls Ok h) d j m (rules_ways (suc k) rs) more))) more

on-first : {X A : Type 0} (P : ℕ → X → Type 0) (Ok : ℕ → A → Type 0) → Falls Ok → (d : ℕ) (t : Trace X) (f : X → Following A) (other : Following A) → Lasts P d t → ((k : ℕ) (x : X) → k ≤ d → P k x → FollowLasts Ok k (f x)) →
    FollowLasts Ok d other → FollowLasts Ok d (on_first t f other)
unfolding Lasts FollowLasts on_first
on-first P Ok h d (end Done) f other a all b = b
on-first P Ok h d (end (Raise ball)) f other a all b = tt
on-first P Ok h d (end (Abort ball)) f other a all b = tt
on-first P Ok h d (end (Miss c)) f other a all b = a
on-first P Ok h d (end Deep) f other a all b = a
on-first P Ok h d (note Tick t) f other a all b = on-first P Ok h (d - 1) t f other a (λ k x m o. all k x (omega (arith, m)) o) (less-follows Ok h d (d - 1) (omega arith) other b)
on-first P Ok h d (note (Load n) t) f other a all b = on-first P Ok h d t f other a all b
on-first P Ok h d (note (Out text) t) f other a all b = on-first P Ok h d t f other a all b
on-first P Ok h d (ans x t) f other a all b = all d x (omega arith) a.0

bad-if : {A : Type 0} (Ok : ℕ → A → Type 0) (d : ℕ) (c : Bool) (f : Following A) → FollowLasts Ok d f → FollowLasts Ok d (bad_if c f)
unfolding FollowLasts
bad-if Ok d true f a = tt
bad-if Ok d false f a = a

bad-lasts : {A : Type 0} (Ok : ℕ → A → Type 0) (d : ℕ) → FollowLasts Ok d bad
unfolding FollowLasts
bad-lasts Ok d = tt

rules-taken : {X A : Type 0} (Ok : ℕ → A → Type 0) → Falls Ok → (d k : ℕ) (rs : List (RuleSearch X A)) (i : ℕ) (p : List ℕ) → RulesLast Ok d rs → FollowLasts Ok d (rules_taken k rs i p)
unfolding RulesLast rules_taken
rules-taken Ok h d k [] i p a = bad-lasts Ok d
rules-taken Ok h d k (r ∷ rs) zero p a =
    let rest = rest_unless r.committed (rules_ways (suc k) rs) in
    on-first a.0.there Ok h d r.applies (λ x. with_rest (k ∷ []) rest ((r.body x).follows p)) bad a.0.applies
    (λ j x m o. with-rest Ok h j (k ∷ []) rest ((r.body x).follows p)
    (unless-lasts Ok j r.committed (rules_ways (suc k) rs) (less-left (OnWay Ok) (way-falls Ok h) d j m (rules_ways (suc k) rs) (rules-ways Ok h d (suc k) rs a.1))) ((a.0.body j x m o).follows p)) (bad-lasts Ok d)
rules-taken Ok h d k (r ∷ rs) (suc i) p a =
    let more = rules-taken Ok h d (suc k) rs i p a.1 in
    on-first a.0.there Ok h d r.applies (λ x. bad_if r.committed (rules_taken (suc k) rs i p)) (rules_taken (suc k) rs i p) a.0.applies
    (λ j x m o. bad-if Ok j r.committed (rules_taken (suc k) rs i p) (less-follows Ok h d j m (rules_taken (suc k) rs i p) more)) more

rules-followed : {X A : Type 0} (Ok : ℕ → A → Type 0) → Falls Ok → (d : ℕ) (rs : List (RuleSearch X A)) (p : List ℕ) → RulesLast Ok d rs → FollowLasts Ok d (rules_followed rs p)
rules-followed Ok h d rs [] a = bad-lasts Ok d
rules-followed Ok h d rs (zero ∷ p) a = bad-lasts Ok d
rules-followed Ok h d rs (suc i ∷ p) a = rules-taken Ok h d 1 rs i p a

pub rules-last : {X A : Type 0} (Ok : ℕ → A → Type 0) → Falls Ok → (d : ℕ) (rs : List (RuleSearch X A)) → RulesLast Ok d rs → SearchLasts Ok d (rules_search rs)
rules-last Ok h d rs a = record { ways = rules-ways Ok h d 1 rs a; follows = λ p. rules-followed Ok h d rs p a }

-- ---- Ticks and conditions

pub tick-lasts : {A : Type 0} (Ok : ℕ → A → Type 0) (d : ℕ) (s : Search A) → SearchLasts Ok (d - 1) s → SearchLasts Ok d (ticked s)
unfolding Lasts FollowLasts
tick-lasts Ok d s a = record { ways = a.ways; follows = a.follows }

pub condition-lasts : {X A : Type 0} (P : ℕ → X → Type 0) (Ok : ℕ → A → Type 0) → Falls Ok → (d : ℕ) (t : Trace X) (f : X → Search A) (other : Search A) → Lasts P d t → EachLasts P Ok d f → SearchLasts Ok d other →
    SearchLasts Ok d (chosen_search t f other)
condition-lasts P Ok h d t f other a all b = record {
  ways = chosen-lasts P (OnWay Ok) (way-falls Ok h) d t (λ x. (f x).ways) other.ways a (λ k x m o. (all k x m o).ways) b.ways;
  follows = λ p. on-first P Ok h d t (λ x. (f x).follows p) (other.follows p) a (λ k x m o. (all k x m o).follows p) (b.follows p);
}

-- ---- a query, and cuts

pub resumed-lasts : {A : Type 0} (Ok : ℕ → A → Type 0) (d : ℕ) (f : Following A) → FollowLasts Ok d f → FollowLasts Ok d (resumed f)
unfolding FollowLasts resumed
resumed-lasts Ok d (on_way a_tick f) a = resumed-lasts Ok (d - 1) f a
resumed-lasts Ok d (on_way (a_load k) f) a = resumed-lasts Ok d f a
resumed-lasts Ok d (reached made x [] later) a = a
resumed-lasts Ok d (reached made x (n ∷ left) later) a = tt
resumed-lasts Ok d (cut_off e) a = a
resumed-lasts Ok d bad a = a

-- a cut before Tick number n + 1 of what lasts so long
pub resumed-cut_lasts : {A : Type 0} (Ok : ℕ → A → Type 0) (n : ℕ) (f : Following A) → FollowLasts Ok (suc n) f → ResumedWithoutDeep n f
unfolding FollowLasts resumed_cut
resumed-cut_lasts Ok n (reached made x left later) a = λ is. cut-lasts (OnWay Ok) n later a.1 (ap stop_of is)
resumed-cut_lasts Ok n (cut_off Deep) a = λ is. let z : suc n ≡ 0 = a refl in omega (arith, z)
resumed-cut_lasts Ok n (cut_off e) a = λ is. cc
resumed-cut_lasts Ok n bad a = λ is. cc
resumed-cut_lasts Ok zero (on_way a_tick f) a = λ is. cc
resumed-cut_lasts Ok (suc n) (on_way a_tick f) a =
    let left : suc (suc n) - 1 ≡ suc n = omega arith in
    resumed-cut_lasts Ok n f (subst (λ (k : ℕ). FollowLasts Ok k f) left a)
resumed-cut_lasts Ok n (on_way (a_load k) f) a = resumed-cut_lasts Ok n f a
