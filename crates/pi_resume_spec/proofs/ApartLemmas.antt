-- Paths that lead apart.
use Rattle.std.specs.Prelude.{◌≢◌, ℕ, zero, suc, ◌<◌, ◌≤◌, Bool, true, false, List, [], ◌∷◌, ◌++◌, length, get_or}
use Rattle.std.proofs.Common.{arith, inl, inr}
use Rattle.pi_terms.specs.Tree.{Tree}
use Rattle.pi_traces.specs.Trace.{Trace, end, note, ans, Done, Raise, Abort, Miss, Deep, one, alt, then, answers}
use Rattle.pi_traces.specs.Control.{caught, chosen}
use Rattle.pi_traces.proofs.AnswerLemmas.{EachAnswer, each-map, each-alt, each-then}
use Rattle.pi_resume_spec.specs.Ways.{Way, Ways, straight, without_choices, choosing, numbered, behind, followed_by, choice_from, choice, catching, Diverge, Apart}
use Rattle.pi_resume_spec.specs.Resumed.{Search, RuleSearch, rest_unless, rules_ways, rules_search, chosen_search}
use Rattle.pi_resume_spec.specs.PathLaws.{StraightIsApart, SequencesAreApart, AllApart, ChoicesAreApart, CatchesAreApart, AllBodiesApart, RulesAreApart, ConditionsAreApart, TicksAreApart, NoTwoPathsAreOne}

-- ---- paths

diverge-behind : (p q r s : List ℕ) → Diverge p q → Diverge (p ++ r) (q ++ s)
unfolding Diverge
diverge-behind [] q r s h = absurd h
diverge-behind (j ∷ p) [] r s h = absurd h
diverge-behind (j ∷ p) (k ∷ q) r s (inl other) = inl other
diverge-behind (j ∷ p) (k ∷ q) r s (inr h) = inr (diverge-behind p q r s h)

diverge-after : (p q r : List ℕ) → Diverge q r → Diverge (p ++ q) (p ++ r)
unfolding Diverge
diverge-after [] q r h = h
diverge-after (j ∷ p) q r h = inr (diverge-after p q r h)

diverge-differ : (p q : List ℕ) → Diverge p q → p ≢ q
unfolding Diverge
diverge-differ [] q h e = h
diverge-differ (j ∷ p) [] h e = h
diverge-differ (j ∷ p) (k ∷ q) (inl other) e = other (cc)
diverge-differ (j ∷ p) (k ∷ q) (inr h) e = diverge-differ p q h (cc)

-- ---- traces, from the front

abbrev From : {A B : Type 0} → Way A → Way B → Type 0
From v w = Diverge v.path w.path

Parts : {A : Type 0} → Ways A → Type 0
Parts (end e) = Unit {0}
Parts (note n t) = Parts t
Parts (ans w t) = EachAnswer (From w) t × Parts t

each-from : {A : Type 0} (P : A → Type 0) (d : A) (t : Trace A) → ((k : ℕ) → k < length (answers t) → P (get_or (answers t) k d)) → EachAnswer P t
unfolding EachAnswer answers
each-from P d (end e) all = tt
each-from P d (note n t) all = each-from P d t all
each-from P d (ans x t) all = (all 0 (omega arith), each-from P d t (λ k l. all (suc k) (omega arith)))

each-at : {A : Type 0} (P : A → Type 0) (d : A) (t : Trace A) (k : ℕ) → EachAnswer P t → k < length (answers t) → P (get_or (answers t) k d)
unfolding EachAnswer answers
each-at P d (end e) k h l = absurd (omega arith)
each-at P d (note n t) k h l = each-at P d t k h l
each-at P d (ans x t) zero h l = h.0
each-at P d (ans x t) (suc k) h l = each-at P d t k h.1 (omega arith)

parts-of : {A : Type 0} (t : Ways A) → Apart t → Parts t
unfolding Parts answers
parts-of (end e) a = tt
parts-of (note n t) a = parts-of t a
parts-of (ans w t) a = (each-from (From w) w t (λ k l. a 0 (suc k) w (omega arith) (omega arith)), parts-of t (λ i j d below within. a (suc i) (suc j) d (omega arith) (omega arith)))

apart-of : {A : Type 0} (t : Ways A) → Parts t → Apart t
unfolding Parts answers
apart-of (end e) p = λ i j d below within. absurd (omega arith)
apart-of (note n t) p = apart-of t p
apart-of (ans w t) p = λ i j d below within. apart-at w t p.0 (apart-of t p.1) i j d below within
  where
    apart-at : {A : Type 0} (w : Way A) (t : Ways A) → EachAnswer (From w) t → Apart t → (i j : ℕ) (d : Way A) → i < j → j < length (w ∷ answers t) → From (get_or (w ∷ answers t) i d) (get_or (w ∷ answers t) j d)
    apart-at w t each rest zero zero d below within = absurd (omega arith)
    apart-at w t each rest zero (suc j) d below within = each-at (From w) d t j each (omega arith)
    apart-at w t each rest (suc i) zero d below within = absurd (omega arith)
    apart-at w t each rest (suc i) (suc j) d below within = rest i j d (omega arith) (omega arith)

each-any : {A : Type 0} (P : A → Type 0) → ((x : A) → P x) → (t : Trace A) → EachAnswer P t
unfolding EachAnswer
each-any P all (end e) = tt
each-any P all (note n t) = each-any P all t
each-any P all (ans x t) = (all x, each-any P all t)

parts-alt : {A : Type 0} (t u : Ways A) → Parts t → Parts u → EachAnswer (λ w. EachAnswer (From w) u) t → Parts (alt t u)
unfolding Parts EachAnswer alt
parts-alt (end Done) u a b h = b
parts-alt (end (Raise ball)) u a b h = tt
parts-alt (end (Abort ball)) u a b h = tt
parts-alt (end (Miss c)) u a b h = tt
parts-alt (end Deep) u a b h = tt
parts-alt (note n t) u a b h = parts-alt t u a b h
parts-alt (ans w t) u a b h = (each-alt (From w) t u a.0 h.0, parts-alt t u a.1 b h.1)

-- ---- renamed paths

each-renamed : {A B : Type 0} (P : B → Type 0) (g : A → B) (t : Trace A) → EachAnswer (λ x. P (g x)) t → EachAnswer P (then t (λ x. one (g x)))
unfolding EachAnswer then alt
each-renamed P g (end e) h = tt
each-renamed P g (note n t) h = each-renamed P g t h
each-renamed P g (ans x t) h = (h.0, each-renamed P g t h.1)

parts-renamed : {A B : Type 0} (g : Way A → Way B) → ((v w : Way A) → From v w → From (g v) (g w)) → (t : Ways A) → Parts t → Parts (then t (λ w. one (g w)))
unfolding Parts EachAnswer then alt
parts-renamed g keeps (end e) p = tt
parts-renamed g keeps (note n t) p = parts-renamed g keeps t p
parts-renamed g keeps (ans w t) p = (each-renamed (From (g w)) g t (each-map (From w) (λ v. From (g w) (g v)) (λ v h. keeps w v h) t p.0), parts-renamed g keeps t p.1)

choosing-keeps : {A : Type 0} (k : ℕ) (v w : Way A) → From v w → From (choosing k v) (choosing k w)
unfolding Diverge
choosing-keeps k v w h = inr h

parts-numbered : {A : Type 0} (k : ℕ) (t : Ways A) → Parts t → Parts (numbered k t)
parts-numbered k t p = parts-renamed (choosing k) (choosing-keeps k) t p

-- ways with other numbers in front
numbered-from : {A B : Type 0} (j k : ℕ) → j ≢ k → (v : Way A) (u : Ways B) → EachAnswer (From (choosing j v)) (numbered k u)
unfolding Diverge
numbered-from j k other v u = each-renamed (From (choosing j v)) (choosing k) u (each-any (λ w. From (choosing j v) (choosing k w)) (λ w. inl other) u)

numbered-all : {A B : Type 0} (j k : ℕ) → j ≢ k → (t : Ways A) (u : Ways B) → EachAnswer (λ w. EachAnswer (From w) (numbered k u)) (numbered j t)
numbered-all j k other t u = each-renamed (λ w. EachAnswer (From w) (numbered k u)) (choosing j) t (each-any (λ v. EachAnswer (From (choosing j v)) (numbered k u)) (λ v. numbered-from j k other v u) t)

-- ---- a goal without choices

none-left : {A : Type 0} (w : Way A) (t : Trace A) → length (answers t) ≤ 0 → EachAnswer (From w) (without_choices t)
unfolding answers then alt EachAnswer
none-left w (end e) l = tt
none-left w (note n t) l = none-left w t l
none-left w (ans x t) l = absurd (omega arith)

few : {A : Type 0} (t : Trace A) → length (answers t) ≤ 1 → Parts (without_choices t)
unfolding Parts answers then alt EachAnswer
few (end e) l = tt
few (note n t) l = few t l
few (ans x t) l = (none-left (straight x) t (omega arith), few t (omega arith))

pub straight_is_apart : {A : Type 0} → StraightIsApart A
straight_is_apart t l = apart-of (without_choices t) (few t l)

-- ---- one goal after another

abbrev onward : {A B : Type 0} → (A → Ways B) → Way A → Ways B
onward f w = then (f w.answer) (λ v. one (behind w.path v))

onward-from : {A B : Type 0} (f : A → Ways B) (v w : Way A) (x : Way B) → From v w → EachAnswer (From (behind v.path x)) (onward f w)
onward-from f v w x h = each-renamed (From (behind v.path x)) (behind w.path) (f w.answer) (each-any (λ y. From (behind v.path x) (behind w.path y)) (λ y. diverge-behind v.path w.path x.path y.path h) (f w.answer))

onward-all : {A B : Type 0} (f : A → Ways B) (v : Way A) (t : Ways A) (x : Way B) → EachAnswer (From v) t → EachAnswer (From (behind v.path x)) (followed_by t f)
onward-all f v t x h = each-then (From v) (From (behind v.path x)) t (onward f) h (λ w d. onward-from f v w x d)

parts-then : {A B : Type 0} (P : A → Type 0) (f : A → Ways B) → ((x : A) → P x → Parts (f x)) → (t : Ways A) → EachAnswer (λ w. P w.answer) t → Parts t → Parts (followed_by t f)
unfolding Parts then EachAnswer
parts-then P f all (end e) is p = tt
parts-then P f all (note n t) is p = parts-then P f all t is p
parts-then P f all (ans w t) is p =
    parts-alt (onward f w) (followed_by t f) (parts-renamed (behind w.path) (λ x y h. diverge-after w.path x.path y.path h) (f w.answer) (all w.answer is.0)) (parts-then P f all t is.1 p.1)
    (each-renamed (λ y. EachAnswer (From y) (followed_by t f)) (behind w.path) (f w.answer) (each-any (λ x. EachAnswer (From (behind w.path x)) (followed_by t f)) (λ x. onward-all f w t x p.0) (f w.answer)))

-- where what follows leads apart from each answer that there is
pub sequences-apart : {A B : Type 0} (P : A → Type 0) (t : Ways A) (f : A → Ways B) → EachAnswer (λ w. P w.answer) t → Apart t → ((x : A) → P x → Apart (f x)) → Apart (followed_by t f)
sequences-apart P t f is a all = apart-of (followed_by t f) (parts-then P f (λ x h. parts-of (f x) (all x h)) t is (parts-of t a))

pub sequences_are_apart : {A B : Type 0} → SequencesAreApart A B
sequences_are_apart t f a all = sequences-apart (λ x. Unit {0}) t f (each-any (λ w. Unit {0}) (λ w. tt) t) a (λ x is. all x)

-- ---- a choice

-- of later numbers each differs
choice-from_each : {A B : Type 0} (j k : ℕ) → j < k → (v : Way A) (ts : List (Ways B)) → EachAnswer (From (choosing j v)) (choice_from k ts)
unfolding choice_from EachAnswer
choice-from_each j k l v [] = tt
choice-from_each j k l v (t ∷ ts) = each-alt (From (choosing j v)) (numbered k t) (choice_from (suc k) ts) (numbered-from j k (λ e. absurd (omega arith)) v t) (choice-from_each j (suc k) (omega arith) v ts)

parts-choice : {A : Type 0} (k : ℕ) (ts : List (Ways A)) → AllApart ts → Parts (choice_from k ts)
unfolding choice_from AllApart Parts
parts-choice k [] all = tt
parts-choice k (t ∷ ts) all =
    parts-alt (numbered k t) (choice_from (suc k) ts) (parts-numbered k t (parts-of t all.0)) (parts-choice (suc k) ts all.1)
    (each-renamed (λ y. EachAnswer (From y) (choice_from (suc k) ts)) (choosing k) t (each-any (λ v. EachAnswer (From (choosing k v)) (choice_from (suc k) ts)) (λ v. choice-from_each k (suc k) (omega arith) v ts) t))

pub choices_are_apart : {A : Type 0} → ChoicesAreApart A
choices_are_apart ts all = apart-of (choice ts) (parts-choice 1 ts all)

-- ---- a `catch`

each-caught : {A : Type 0} (P : A → Type 0) (t : Trace A) (f : Tree → Trace A) → EachAnswer P t → ((ball : Tree) → EachAnswer P (f ball)) → EachAnswer P (caught t f)
unfolding EachAnswer caught
each-caught P (end Done) f a b = tt
each-caught P (end (Raise ball)) f a b = b ball
each-caught P (end (Abort ball)) f a b = tt
each-caught P (end (Miss c)) f a b = tt
each-caught P (end Deep) f a b = tt
each-caught P (note n t) f a b = each-caught P t f a b
each-caught P (ans x t) f a b = (a.0, each-caught P t f a.1 b)

parts-caught : {A : Type 0} (t : Ways A) (f : Tree → Ways A) → Parts t → ((ball : Tree) → Parts (f ball)) → ((ball : Tree) → EachAnswer (λ w. EachAnswer (From w) (f ball)) t) → Parts (caught t f)
unfolding Parts EachAnswer caught
parts-caught (end Done) f a b h = tt
parts-caught (end (Raise ball)) f a b h = b ball
parts-caught (end (Abort ball)) f a b h = tt
parts-caught (end (Miss c)) f a b h = tt
parts-caught (end Deep) f a b h = tt
parts-caught (note n t) f a b h = parts-caught t f a b h
parts-caught (ans w t) f a b h = (each-caught (From w) t f a.0 (λ ball. (h ball).0), parts-caught t f a.1 b (λ ball. (h ball).1))

pub catches_are_apart : {A : Type 0} → CatchesAreApart A
catches_are_apart t handler a all =
    apart-of (catching t handler) (parts-caught (numbered 1 t) (λ ball. numbered 2 (handler ball)) (parts-numbered 1 t (parts-of t a)) (λ ball. parts-numbered 2 (handler ball) (parts-of (handler ball) (all ball)))
    (λ ball. numbered-all 1 2 (λ e. absurd (omega arith)) t (handler ball)))

-- ---- the rules of a call

each-chosen : {X A : Type 0} (P : A → Type 0) (t : Trace X) (f : X → Trace A) (u : Trace A) → ((x : X) → EachAnswer P (f x)) → EachAnswer P u → EachAnswer P (chosen t f u)
unfolding EachAnswer chosen
each-chosen P (end Done) f u a b = b
each-chosen P (end (Raise ball)) f u a b = tt
each-chosen P (end (Abort ball)) f u a b = tt
each-chosen P (end (Miss c)) f u a b = tt
each-chosen P (end Deep) f u a b = tt
each-chosen P (note n t) f u a b = each-chosen P t f u a b
each-chosen P (ans x t) f u a b = a x

parts-chosen : {X A : Type 0} (P : X → Type 0) (t : Trace X) (f : X → Ways A) (u : Ways A) → EachAnswer P t → ((x : X) → P x → Parts (f x)) → Parts u → Parts (chosen t f u)
unfolding Parts chosen EachAnswer
parts-chosen P (end Done) f u is a b = b
parts-chosen P (end (Raise ball)) f u is a b = tt
parts-chosen P (end (Abort ball)) f u is a b = tt
parts-chosen P (end (Miss c)) f u is a b = tt
parts-chosen P (end Deep) f u is a b = tt
parts-chosen P (note n t) f u is a b = parts-chosen P t f u is a b
parts-chosen P (ans x t) f u is a b = a x is.0

each-unless : {A : Type 0} (P : Way A → Type 0) (c : Bool) (t : Ways A) → EachAnswer P t → EachAnswer P (rest_unless c t)
unfolding EachAnswer
each-unless P true t h = tt
each-unless P false t h = h

parts-unless : {A : Type 0} (c : Bool) (t : Ways A) → Parts t → Parts (rest_unless c t)
unfolding Parts
parts-unless true t h = tt
parts-unless false t h = h

-- of later numbers each differs
rules-each : {X A B : Type 0} (j k : ℕ) → j < k → (v : Way B) (rs : List (RuleSearch X A)) → EachAnswer (From (choosing j v)) (rules_ways k rs)
unfolding rules_ways EachAnswer
rules-each j k l v [] = tt
rules-each j k l v (r ∷ rs) =
    let rest = rules-each j (suc k) (omega arith) v rs in
    each-chosen (From (choosing j v)) r.applies (λ x. alt (numbered k (r.body x).ways) (rest_unless r.committed (rules_ways (suc k) rs))) (rules_ways (suc k) rs)
    (λ x. each-alt (From (choosing j v)) (numbered k (r.body x).ways) (rest_unless r.committed (rules_ways (suc k) rs)) (numbered-from j k (λ e. absurd (omega arith)) v (r.body x).ways)
    (each-unless (From (choosing j v)) r.committed (rules_ways (suc k) rs) rest)) rest

-- the bodies of rules lead apart from each answer of their conditions
unfoldable pub BodiesApart : {X A : Type 0} → (X → Type 0) → List (RuleSearch X A) → Type 0
BodiesApart P [] = Unit {0}
BodiesApart {X = X} P (r ∷ rs) = (EachAnswer P r.applies × ((x : X) → P x → Apart (r.body x).ways)) × BodiesApart P rs

rules-parts : {X A : Type 0} (P : X → Type 0) (k : ℕ) (rs : List (RuleSearch X A)) → BodiesApart P rs → Parts (rules_ways k rs)
unfolding rules_ways BodiesApart Parts
rules-parts P k [] all = tt
rules-parts P k (r ∷ rs) all =
    let rest = rules-parts P (suc k) rs all.1 in
    parts-chosen P r.applies (λ x. alt (numbered k (r.body x).ways) (rest_unless r.committed (rules_ways (suc k) rs))) (rules_ways (suc k) rs) all.0.0
    (λ x h. parts-alt (numbered k (r.body x).ways) (rest_unless r.committed (rules_ways (suc k) rs)) (parts-numbered k (r.body x).ways (parts-of (r.body x).ways (all.0.1 x h)))
    (parts-unless r.committed (rules_ways (suc k) rs) rest)
    (each-renamed (λ y. EachAnswer (From y) (rest_unless r.committed (rules_ways (suc k) rs))) (choosing k) (r.body x).ways
    (each-any (λ v. EachAnswer (From (choosing k v)) (rest_unless r.committed (rules_ways (suc k) rs)))
    (λ v. each-unless (From (choosing k v)) r.committed (rules_ways (suc k) rs) (rules-each k (suc k) (omega arith) v rs)) (r.body x).ways))) rest

pub rules-apart : {X A : Type 0} (P : X → Type 0) (rs : List (RuleSearch X A)) → BodiesApart P rs → Apart (rules_search rs).ways
rules-apart P rs all = apart-of (rules_search rs).ways (rules-parts P 1 rs all)

any-bodies : {X A : Type 0} (rs : List (RuleSearch X A)) → AllBodiesApart rs → BodiesApart (λ x. Unit {0}) rs
unfolding AllBodiesApart BodiesApart
any-bodies [] all = tt
any-bodies (r ∷ rs) all = ((each-any (λ x. Unit {0}) (λ x. tt) r.applies, λ x h. all.0 x), any-bodies rs all.1)

pub rules_are_apart : {X A : Type 0} → RulesAreApart X A
rules_are_apart rs all = rules-apart (λ x. Unit {0}) rs (any-bodies rs all)

pub conditions-apart : {X A : Type 0} (P : X → Type 0) (t : Trace X) (f : X → Search A) (other : Search A) → EachAnswer P t → ((x : X) → P x → Apart (f x).ways) → Apart other.ways →
    Apart (chosen_search t f other).ways
conditions-apart P t f other is all rest = apart-of (chosen_search t f other).ways (parts-chosen P t (λ x. (f x).ways) other.ways is (λ x h. parts-of (f x).ways (all x h)) (parts-of other.ways rest))

pub conditions_are_apart : {X A : Type 0} → ConditionsAreApart X A
conditions_are_apart t f other all rest = conditions-apart (λ x. Unit {0}) t f other (each-any (λ x. Unit {0}) (λ x. tt) t) (λ x is. all x) rest

pub ticks_are_apart : {A : Type 0} → TicksAreApart A
unfolding answers
ticks_are_apart s a = a

pub no_two_paths_are_one : {A : Type 0} → NoTwoPathsAreOne A
no_two_paths_are_one t a = λ i j d below within. diverge-differ (get_or (answers t) i d).path (get_or (answers t) j d).path (a i j d below within)
