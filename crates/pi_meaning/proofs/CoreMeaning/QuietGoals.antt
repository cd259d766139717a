-- A goal's trace ends in Deep only past as many Ticks as its level is worth, where quiet calls may nest as they do in it, and built-ins last so long.
use Rattle.std.proofs.Common.{◌≡◌, ◌⊎◌, inl, inr, ℕ, suc, ◌-◌, ◌<◌, ◌≤◌, Bool, true, false, cond, List, length, ap, ◌∙◌, arith, zero}
use Rattle.std.specs.Prelude.{Option, Some, None, option_map, pos, nat_lt, codes, ⊤}
use Rattle.pi_terms.specs.Tree.{Tree, int, atom, Trees, trees_of, tree_count, cells, most_cells}
use Rattle.pi_terms.specs.Places.{Places}
use Rattle.pi_terms.specs.Copy.{copy, new_variables}
use Rattle.pi_constraints.specs.State.{State, next}
use Rattle.pi_constraints.specs.Unify.{unified}
use Rattle.pi_core.specs.GoalTree.{GoalTree, truth, fail, tick, call, apply, seq, alternatives, if_else, not, once, collect, count, catch, GoalTrees, no_goals, goal}
use Rattle.pi_traces.specs.Trace.{Trace, end, one, alt, then, first}
use Rattle.pi_traces.specs.Control.{negated, chosen}
use Rattle.pi_meaning.specs.Shared.View.{View}
use Rattle.pi_meaning.specs.CoreMeaning.Instances.{is_called_by_name}
use Rattle.pi_meaning.specs.Shared.Settle.{settled, settlement}
use Rattle.pi_settling.specs.Settled.{loaded}
use Rattle.pi_settling.specs.Settle.{answer_with}
use Rattle.pi_constraints.specs.Evaluation.{Evaluated, evaluated, EvaluatedAll, evaluated_all, with_new_variables}
use Rattle.pi_meaning.specs.Shared.Raise.{within_limit, too_large}
use Rattle.pi_meaning.specs.Shared.Level.{Level, lowest, over, Calls, Applied, Point, calls_at, or_called, or_applied}
use Rattle.pi_effects.specs.Effect.{Effect, Succeeds, Fails, Writes, Raises, FunctionEffect, Gives, Refuses}
use Rattle.pi_meaning.specs.Shared.Builtin.{written, function_trace, settled_effect}
use Rattle.pi_meaning.specs.Shared.Within.{is_body}
use Rattle.pi_meaning.specs.Shared.Handling.{handled_in, handling}
use Rattle.pi_meaning.specs.CoreMeaning.Builtins.{Builtins, predicate_by, function_by}
use Rattle.pi_core.specs.CoreTree.{PredTree, find_pred}
use Rattle.pi_meaning.specs.CoreMeaning.Meaning.{Action, in_state, with_slot, draining, strictly, succeeding, failing, ticking, calling, applying, after_arguments, after_term, slot_value, copyable, with_list, collecting, counting, catching, meaning, meaning_of_all, meaning_of_any}
use Rattle.pi_meaning.specs.CoreMeaning.Quiet.{Callee, Passes, PassesAll, PassesAny, Reaches, ReachesInAll, ReachesInAny, IsQuiet, TicksBetween}
use Rattle.pi_meaning.proofs.CoreMeaning.MeaningLemmas.{as-many, count-of}
use Rattle.pi_traces.proofs.LastLemmas.{Lasts, Falls, Any, any-falls, less-left, lasts-map, done-lasts, raise-lasts, one-lasts, alt-lasts, then-lasts, first-lasts, negated-lasts, chosen-lasts, collected-lasts, counted-lasts, caught-lasts}

-- How many Ticks last at a level: what goals do there lasts as many as it is worth, and what a counted call does as many as it counts. `call` takes one from the depth without a Tick, and what
-- it calls counts one: so goals last a Tick for each two.
abbrev pub ticks_at : Bool → Level → ℕ
ticks_at b (lowest c) = 0
ticks_at true (over c l) = suc (ticks_at false l)
ticks_at false (over c l) = ticks_at true l

abbrev pub worth : Level → ℕ
worth l = ticks_at false l

abbrev pub counted : Level → ℕ
counted l = ticks_at true l

pub worth-counted : (l : Level) → (worth l ≤ counted l) × (counted l ≤ suc (worth l))
worth-counted (lowest c) = (omega arith, omega arith)
worth-counted (over c l) = let below : (worth l ≤ counted l) × (counted l ≤ suc (worth l)) = worth-counted l in (omega (arith, below.1), omega (arith, below.0))

-- a call may be made where fewer than f quiet calls nest
abbrev pub Fits : (preds : List PredTree) → TicksBetween preds → ℕ → Callee → Type 0
Fits preds r f c = (pred : PredTree) → IsQuiet preds c pred → r.rank c < f

abbrev pub callee : Bool → List ℕ → ℕ → Callee
callee function name k = record { function = function; name = name; arity = k }

-- what calls do lasts d Ticks, where f quiet ones may nest, and e Ticks where the predicate is one that `call` finds
pub record CallsLast (preds : List PredTree) (r : TicksBetween preds) (f d e : ℕ) (c : Calls) : Type 0 where
  pub called : (name : List ℕ) (ts : Trees) (s : State) → Fits preds r f (callee false name (tree_count ts)) → Lasts Any d (c.called name ts s)
  pub applied : (name : List ℕ) (ts : Trees) (s : State) → Fits preds r f (callee true name (tree_count ts)) → Lasts Any d (c.applied name ts s)
  pub loud : (name : List ℕ) (ts : Trees) (s : State) → is_called_by_name (find_pred false name (tree_count ts) preds) ≡ true → Lasts Any e (c.called name ts s)
  pub drained : (k : ℕ) (s : State) → Lasts Any k (c.drained s)

-- the same at a level and at those below it, where all may nest
abbrev pub LevelLasts : (preds : List PredTree) → TicksBetween preds → ℕ → Level → Type 0
LevelLasts preds r f (lowest c) = CallsLast preds r f 0 0 c
LevelLasts preds r f (over c l) = CallsLast preds r f (counted l) (suc (worth l)) c × LevelLasts preds r (length preds) l

pub calls-last : (preds : List PredTree) (r : TicksBetween preds) (f : ℕ) (l : Level) → LevelLasts preds r f l → CallsLast preds r f (worth l) (counted l) (calls_at l)
calls-last preds r f (lowest c) h = h
calls-last preds r f (over c l) h = h.0

-- what built-ins do lasts so long too
abbrev pub OptionLasts : {A : Type 0} → ℕ → Option (Trace A) → Type 0
OptionLasts d None = ⊤
OptionLasts d (Some t) = Lasts Any d t

pub record BuiltinsLast (preds : List PredTree) (r : TicksBetween preds) (built : Builtins) : Type 0 where
  pub predicates : (f d : ℕ) (l : Level) → d ≤ worth l → LevelLasts preds r f l → (name : List ℕ) (ts : Trees) (s : State) → OptionLasts d (built.predicate l name ts s)
  pub functions : (d : ℕ) (l : Level) (name : List ℕ) (ts : Trees) (s : State) → OptionLasts d (built.function l name ts s)

-- an answer leaves d Ticks of depth, and its level is as it was where no goal `Tick` was passed, or else a full one
abbrev pub Left : (preds : List PredTree) → TicksBetween preds → ℕ → Type 0 → ℕ → Point → Type 0
Left preds r f P d p = (d ≤ worth p.level) × ((LevelLasts preds r f p.level × P) ⊎ LevelLasts preds r (length preds) p.level)

pub left-falls : (preds : List PredTree) (r : TicksBetween preds) (f : ℕ) (P : Type 0) → Falls (Left preds r f P)
left-falls preds r f P d k p h a = (omega (arith, h, a.0), a.1)

left-either : (preds : List PredTree) (r : TicksBetween preds) (f : ℕ) (P Q : Type 0) → (P → Q) → (l : Level) →
    ((LevelLasts preds r f l × P) ⊎ LevelLasts preds r (length preds) l) → (LevelLasts preds r f l × Q) ⊎ LevelLasts preds r (length preds) l
left-either preds r f P Q g l (inl a) = inl (a.0, g a.1)
left-either preds r f P Q g l (inr a) = inr a

pub left-map : (preds : List PredTree) (r : TicksBetween preds) (f : ℕ) (P Q : Type 0) → (P → Q) → (d : ℕ) (t : Trace Point) →
    Lasts (Left preds r f P) d t → Lasts (Left preds r f Q) d t
left-map preds r f P Q g d t a = lasts-map (Left preds r f P) (Left preds r f Q) (λ k p h. (h.0, left-either preds r f P Q g p.level h.1)) d t a

-- an action lasts as long as the level is deep, where the calls that it reaches may nest
unfoldable pub Deepens : (preds : List PredTree) → TicksBetween preds → Action → (Callee → Type 0) → Type 0 → Type 0
Deepens preds r act R P = (f : ℕ) → ((c : Callee) → R c → Fits preds r f c) → (d : ℕ) (p : Point) → d ≤ worth p.level → LevelLasts preds r f p.level →
    Lasts (Left preds r f P) d (act p)

full-either : (preds : List PredTree) (r : TicksBetween preds) (P : Type 0) (l : Level) →
    ((LevelLasts preds r (length preds) l × P) ⊎ LevelLasts preds r (length preds) l) → LevelLasts preds r (length preds) l
full-either preds r P l (inl a) = a.0
full-either preds r P l (inr a) = a

-- it lasts from a full level
onward-full : (preds : List PredTree) (r : TicksBetween preds) (f : ℕ) (Q : Type 0) (act : Action) (R : Callee → Type 0) (P : Type 0) → Deepens preds r act R P →
    (k : ℕ) (q : Point) → k ≤ worth q.level → LevelLasts preds r (length preds) q.level → Lasts (Left preds r f Q) k (act q)
unfolding Deepens
onward-full preds r f Q act R P a k q h l =
    lasts-map (Left preds r (length preds) P) (Left preds r f Q) (λ j p o. (o.0, inr (full-either preds r P p.level o.1))) k (act q)
    (a (length preds) (λ c reach pred quiet. r.below c pred quiet) k q h l)

onward-either : (preds : List PredTree) (r : TicksBetween preds) (f : ℕ) (P Q : Type 0) (act : Action) (R : Callee → Type 0) (P' : Type 0) → Deepens preds r act R P' →
    (P → (c : Callee) → R c → Fits preds r f c) → (P → P' → Q) → (k : ℕ) (q : Point) → k ≤ worth q.level →
    ((LevelLasts preds r f q.level × P) ⊎ LevelLasts preds r (length preds) q.level) → Lasts (Left preds r f Q) k (act q)
unfolding Deepens
onward-either preds r f P Q act R P' a fits passes k q h (inl l) = left-map preds r f P' Q (passes l.1) k (act q) (a f (fits l.1) k q h l.0)
onward-either preds r f P Q act R P' a fits passes k q h (inr l) = onward-full preds r f Q act R P' a k q h l

-- it lasts from an answer of what was before
pub onward : (preds : List PredTree) (r : TicksBetween preds) (f : ℕ) (P Q : Type 0) (act : Action) (R : Callee → Type 0) (P' : Type 0) → Deepens preds r act R P' →
    (P → (c : Callee) → R c → Fits preds r f c) → (P → P' → Q) → (k : ℕ) (q : Point) → Left preds r f P k q → Lasts (Left preds r f Q) k (act q)
onward preds r f P Q act R P' a fits passes k q h = onward-either preds r f P Q act R P' a fits passes k q h.0 h.1

-- Draining, and strict places

draining-deepens : (preds : List PredTree) (r : TicksBetween preds) (act : Action) (R : Callee → Type 0) (P : Type 0) → Deepens preds r act R P →
    Deepens preds r (draining act) R P
unfolding Deepens draining
draining-deepens preds r act R P a f fits d p h l =
    then-lasts Any (Left preds r f P) (left-falls preds r f P) d ((calls_at p.level).drained p.state) (λ s. act (in_state p s))
    ((calls-last preds r f p.level l).drained d p.state)
    (λ k s m o. a f fits k (in_state p s) (omega (arith, m, h)) l)

NoCall : Callee → Type 0
NoCall c = ⊥

succeeding-deepens : (preds : List PredTree) (r : TicksBetween preds) → Deepens preds r succeeding NoCall ⊤
unfolding Deepens
succeeding-deepens preds r f fits d p h l = one-lasts (Left preds r f ⊤) d p (h, inl (l, tt))

pub strictly-deepens : (preds : List PredTree) (r : TicksBetween preds) (act : Action) (R : Callee → Type 0) (P : Type 0) → Deepens preds r act R P →
    Deepens preds r (strictly act) R P
unfolding Deepens strictly NoCall
strictly-deepens preds r act R P a f fits d p h l =
    then-lasts (Left preds r f P) (Left preds r f P) (left-falls preds r f P) d (act p) (draining (λ q. one q)) (a f fits d p h l)
    (λ k q m o. onward preds r f P P (draining (λ q. one q)) NoCall ⊤ (draining-deepens preds r (λ q. one q) NoCall ⊤ (succeeding-deepens preds r))
    (λ x c reach. absurd reach) (λ x y. x) k q o)

failing-deepens : (preds : List PredTree) (r : TicksBetween preds) → Deepens preds r failing NoCall ⊥
unfolding Deepens
failing-deepens preds r f fits d p h l = done-lasts (Left preds r f ⊥) d

ticking-at : (preds : List PredTree) (r : TicksBetween preds) (f d : ℕ) (l : Level) (e : Places) (s : State) → d ≤ worth l → LevelLasts preds r f l →
    Lasts (Left preds r f ⊥) d (ticking (record { level = l; slots = e; state = s }))
unfolding Lasts
ticking-at preds r f d (lowest c) e s h l = λ is. omega (arith, h)
ticking-at preds r f d (over c m) e s h l =
    let most : (worth m ≤ counted m) × (counted m ≤ suc (worth m)) = worth-counted m in
    one-lasts (Left preds r f ⊥) (d - 1) (record { level = m; slots = e; state = s }) (omega (arith, h, most.1), inr l.1)

ticking-deepens : (preds : List PredTree) (r : TicksBetween preds) → Deepens preds r ticking NoCall ⊥
unfolding Deepens
ticking-deepens preds r f fits d p h l = ticking-at preds r f d p.level p.slots p.state h l

-- Goals in goals

all-deepens : (preds : List PredTree) (r : TicksBetween preds) (a b : Action) (R R' : Callee → Type 0) (P P' : Type 0) → Deepens preds r a R P → Deepens preds r b R' P' →
    Deepens preds r (λ p. then (a p) b) (λ c. R c ⊎ (P × R' c)) (P × P')
unfolding Deepens
all-deepens preds r a b R R' P P' x y f fits d p h l =
    then-lasts (Left preds r f P) (Left preds r f (P × P')) (left-falls preds r f (P × P')) d (a p) b
    (x f (λ c reach. fits c (inl reach)) d p h l)
    (λ k q m o. onward preds r f P (P × P') b R' P' y (λ z c reach. fits c (inr (z, reach))) (λ z w. (z, w)) k q o)

any-deepens : (preds : List PredTree) (r : TicksBetween preds) (a b : Action) (R R' : Callee → Type 0) (P P' : Type 0) → Deepens preds r a R P → Deepens preds r b R' P' →
    Deepens preds r (λ p. alt (a p) (b p)) (λ c. R c ⊎ R' c) (P ⊎ P')
unfolding Deepens
any-deepens preds r a b R R' P P' x y f fits d p h l =
    alt-lasts (Left preds r f (P ⊎ P')) (left-falls preds r f (P ⊎ P')) d (a p) (b p)
    (left-map preds r f P (P ⊎ P') (λ z. inl z) d (a p) (x f (λ c reach. fits c (inl reach)) d p h l))
    (left-map preds r f P' (P ⊎ P') (λ z. inr z) d (b p) (y f (λ c reach. fits c (inr reach)) d p h l))

chosen-deepens : (preds : List PredTree) (r : TicksBetween preds) (t a b : Action) (Rt Ra Rb : Callee → Type 0) (Pt Pa Pb : Type 0) →
    Deepens preds r t Rt Pt → Deepens preds r a Ra Pa → Deepens preds r b Rb Pb →
    Deepens preds r (λ p. chosen (strictly t p) a (b p)) (λ c. Rt c ⊎ ((Pt × Ra c) ⊎ Rb c)) ((Pt × Pa) ⊎ Pb)
unfolding Deepens
chosen-deepens preds r t a b Rt Ra Rb Pt Pa Pb x y z f fits d p h l =
    let Q : Type 0 = (Pt × Pa) ⊎ Pb in
    chosen-lasts (Left preds r f Pt) (Left preds r f Q) (left-falls preds r f Q) d (strictly t p) a (b p)
    (strictly-deepens preds r t Rt Pt x f (λ c reach. fits c (inl reach)) d p h l)
    (λ k q m o. onward preds r f Pt Q a Ra Pa y (λ w c reach. fits c (inr (inl (w, reach)))) (λ w v. inl (w, v)) k q o)
    (left-map preds r f Pb Q (λ w. inr w) d (b p) (z f (λ c reach. fits c (inr (inr reach))) d p h l))

negated-deepens : (preds : List PredTree) (r : TicksBetween preds) (a : Action) (R : Callee → Type 0) (P : Type 0) → Deepens preds r a R P →
    Deepens preds r (λ p. negated (strictly a p) p) R ⊤
unfolding Deepens
negated-deepens preds r a R P x f fits d p h l =
    negated-lasts (Left preds r f P) (Left preds r f ⊤) d (strictly a p) p (strictly-deepens preds r a R P x f fits d p h l)
    (λ k m. (omega (arith, m, h), inl (l, tt)))

first-deepens : (preds : List PredTree) (r : TicksBetween preds) (a : Action) (R : Callee → Type 0) (P : Type 0) → Deepens preds r a R P →
    Deepens preds r (λ p. first (strictly a p)) R P
unfolding Deepens
first-deepens preds r a R P x f fits d p h l = first-lasts (Left preds r f P) d (strictly a p) (strictly-deepens preds r a R P x f fits d p h l)

limit-lasts : {A : Type 0} (Ok : ℕ → A → Type 0) (d : ℕ) (b : Bool) (t : Trace A) → Lasts Ok d t → Lasts Ok d (cond b (end too_large) t)
limit-lasts Ok d true t a = raise-lasts Ok d (atom (codes "term_too_large"))
limit-lasts Ok d false t a = a

pub within-lasts : {A : Type 0} (Ok : ℕ → A → Type 0) (d : ℕ) (u : Tree) (t : Trace A) → Lasts Ok d t → Lasts Ok d (within_limit u t)
within-lasts Ok d u t a = limit-lasts Ok d (nat_lt most_cells (cells u)) t a

collecting-deepens : (preds : List PredTree) (r : TicksBetween preds) (a : Action) (k into : ℕ) (R : Callee → Type 0) (P : Type 0) → Deepens preds r a R P →
    Deepens preds r (collecting a k into) R ⊤
unfolding Deepens collecting
collecting-deepens preds r a k into R P x f fits d p h l =
    collected-lasts Any (Left preds r f ⊤) d (then (strictly a p) (λ q. copyable (slot_value k q.slots q.state))) (λ t. t) (λ ts. one (with_list p into ts))
    (then-lasts (Left preds r f P) Any any-falls d (strictly a p) (λ q. copyable (slot_value k q.slots q.state)) (strictly-deepens preds r a R P x f fits d p h l)
    (λ j q m o. within-lasts Any j (slot_value k q.slots q.state) (one (slot_value k q.slots q.state)) (one-lasts Any j (slot_value k q.slots q.state) tt)))
    (λ j ts m. one-lasts (Left preds r f ⊤) j (with_list p into ts) (omega (arith, m, h), inl (l, tt)))

counting-deepens : (preds : List PredTree) (r : TicksBetween preds) (a : Action) (into : ℕ) (R : Callee → Type 0) (P : Type 0) → Deepens preds r a R P →
    Deepens preds r (counting a into) R ⊤
unfolding Deepens counting
counting-deepens preds r a into R P x f fits d p h l =
    counted-lasts (Left preds r f P) (Left preds r f ⊤) d (strictly a p) (λ n. one (with_slot p into (int (pos n)))) (strictly-deepens preds r a R P x f fits d p h l)
    (λ j n m. one-lasts (Left preds r f ⊤) j (with_slot p into (int (pos n))) (omega (arith, m, h), inl (l, tt)))

-- settling has no Deep
loaded-lasts : (d n : ℕ) (o : Option State) → Lasts Any d (loaded n (answer_with o))
unfolding loaded Lasts
loaded-lasts d zero None = done-lasts {A = State} Any d
loaded-lasts d zero (Some r) = one-lasts Any d r tt
loaded-lasts d (suc n) None = done-lasts {A = State} Any d
loaded-lasts d (suc n) (Some r) = one-lasts {A = State} Any d r tt

pub settled-lasts : (d : ℕ) (s t : State) → Lasts Any d (settled s t)
unfolding settled
settled-lasts d s t = loaded-lasts d (settlement s t).load (settlement s t).left

handled-lasts : (preds : List PredTree) (r : TicksBetween preds) (b : Action) (R : Callee → Type 0) (P Q : Type 0) → Deepens preds r b R P → (P → Q) →
    (f : ℕ) → ((c : Callee) → R c → Fits preds r f c) → (d : ℕ) (p : Point) → d ≤ worth p.level → LevelLasts preds r f p.level → (raised : Tree) (o : Option State) →
    Lasts (Left preds r f Q) d (handled_in p.state raised (λ t. b (in_state p t)) o)
unfolding Deepens
handled-lasts preds r b R P Q x g f fits d p h l raised None = raise-lasts (Left preds r f Q) d raised
handled-lasts preds r b R P Q x g f fits d p h l raised (Some s) =
    then-lasts Any (Left preds r f Q) (left-falls preds r f Q) d (settled p.state s) (λ t. b (in_state p t)) (settled-lasts d p.state s)
    (λ k t m o. left-map preds r f P Q g k (b (in_state p t)) (x f fits k (in_state p t) (omega (arith, m, h)) l))

catching-deepens : (preds : List PredTree) (r : TicksBetween preds) (a : Action) (ball : Tree) (b : Action) (R R' : Callee → Type 0) (P P' : Type 0) →
    Deepens preds r a R P → Deepens preds r b R' P' → Deepens preds r (catching a ball b) (λ c. R c ⊎ R' c) (P ⊎ P')
unfolding Deepens catching
catching-deepens preds r a ball b R R' P P' x y f fits d p h l =
    let e : Evaluated = evaluated ball p.slots p.state in
    let q : Point = after_term p e in
    caught-lasts (Left preds r f (P ⊎ P')) d (strictly a q) (handling q.state e.tree (λ t. b (in_state q t)))
    (left-map preds r f P (P ⊎ P') (λ z. inl z) d (strictly a q) (strictly-deepens preds r a R P x f (λ c reach. fits c (inl reach)) d q h l))
    (λ k raised m. handled-lasts preds r b R' P' (P ⊎ P') y (λ z. inr z) f (λ c reach. fits c (inr reach)) k q (omega (arith, m, h)) l raised
    (unified (with_new_variables (new_variables raised) q.state) e.tree (copy (next q.state) raised)))

-- Calls

pub option-lasts : {A B : Type 0} (d : ℕ) (f : A → Trace B) → ((x : A) → Lasts Any d (f x)) → (o : Option A) → OptionLasts d (option_map f o)
option-lasts d f all None = tt
option-lasts d f all (Some x) = all x

written-lasts : (d : ℕ) (inside : Bool) (text : List ℕ) (s : State) → Lasts Any d (written inside text s)
unfolding Lasts
written-lasts d true text s = raise-lasts {A = State} Any d (atom (codes "output_in_plan"))
written-lasts d false text s = one-lasts {A = State} Any d s tt

pub gave-lasts : (d : ℕ) (e : FunctionEffect) → Lasts Any d (function_trace e)
gave-lasts d (Gives t s) = one-lasts Any d (record { value = t; state = s }) tt
gave-lasts d (Refuses ball) = raise-lasts Any d ball

pub settled-effect-lasts : (d : ℕ) (v : View) (s : State) (e : Effect) → Lasts Any d (settled_effect v s e)
settled-effect-lasts d v s (Succeeds r) = settled-lasts d s r
settled-effect-lasts d v s Fails = done-lasts {A = State} Any d
settled-effect-lasts d v s (Writes text r) = written-lasts d (is_body v.within) text r
settled-effect-lasts d v s (Raises ball) = raise-lasts {A = State} Any d ball

called-lasts : (preds : List PredTree) (r : TicksBetween preds) (f d : ℕ) (l : Level) → d ≤ worth l → LevelLasts preds r f l → (name : List ℕ) (ts : Trees) (s : State) →
    Fits preds r f (callee false name (tree_count ts)) → (o : Option (Trace State)) → OptionLasts d o → Lasts Any d (or_called o l name ts s)
called-lasts preds r f d l h last name ts s fits None a =
    less-left Any any-falls (worth l) d h ((calls_at l).called name ts s) ((calls-last preds r f l last).called name ts s fits)
called-lasts preds r f d l h last name ts s fits (Some t) a = a

applied-lasts : (preds : List PredTree) (r : TicksBetween preds) (f d : ℕ) (l : Level) → d ≤ worth l → LevelLasts preds r f l → (name : List ℕ) (ts : Trees) (s : State) →
    Fits preds r f (callee true name (tree_count ts)) → (o : Option (Trace Applied)) → OptionLasts d o → Lasts Any d (or_applied o l name ts s)
applied-lasts preds r f d l h last name ts s fits None a =
    less-left Any any-falls (worth l) d h ((calls_at l).applied name ts s) ((calls-last preds r f l last).applied name ts s fits)
applied-lasts preds r f d l h last name ts s fits (Some t) a = a

calling-deepens : (preds : List PredTree) (r : TicksBetween preds) (built : Builtins) → BuiltinsLast preds r built → (name : List ℕ) (args : List Tree) →
    Deepens preds r (calling built name args) (λ c. c ≡ callee false name (length args)) ⊤
unfolding Deepens calling
calling-deepens preds r built lasting name args f fits d p h l =
    let all : EvaluatedAll = evaluated_all (trees_of args) p.slots p.state in
    let many : tree_count all.trees ≡ length args = as-many (trees_of args) p.slots p.state ∙ count-of args in
    then-lasts Any (Left preds r f ⊤) (left-falls preds r f ⊤) d (predicate_by built p.level name all.trees all.state)
    (λ s. one (in_state (after_arguments p all) s))
    (called-lasts preds r f d p.level h l name all.trees all.state (fits (callee false name (tree_count all.trees)) (ap (callee false name) many))
    (built.predicate p.level name all.trees all.state) (lasting.predicates f d p.level h l name all.trees all.state))
    (λ k s m o. one-lasts (Left preds r f ⊤) k (in_state (after_arguments p all) s) (omega (arith, m, h), inl (l, tt)))

applying-deepens : (preds : List PredTree) (r : TicksBetween preds) (built : Builtins) → BuiltinsLast preds r built → (name : List ℕ) (args : List Tree) (into : ℕ) →
    Deepens preds r (applying built name args into) (λ c. c ≡ callee true name (length args)) ⊤
unfolding Deepens applying
applying-deepens preds r built lasting name args into f fits d p h l =
    let all : EvaluatedAll = evaluated_all (trees_of args) p.slots p.state in
    let many : tree_count all.trees ≡ length args = as-many (trees_of args) p.slots p.state ∙ count-of args in
    then-lasts Any (Left preds r f ⊤) (left-falls preds r f ⊤) d (function_by built p.level name all.trees all.state)
    (λ a. one (with_slot (in_state (after_arguments p all) a.state) into a.value))
    (applied-lasts preds r f d p.level h l name all.trees all.state (fits (callee true name (tree_count all.trees)) (ap (callee true name) many))
    (built.function p.level name all.trees all.state) (lasting.functions d p.level name all.trees all.state))
    (λ k a m o. one-lasts (Left preds r f ⊤) k (with_slot (in_state (after_arguments p all) a.state) into a.value) (omega (arith, m, h), inl (l, tt)))

-- All goals

none-deepens : (preds : List PredTree) (r : TicksBetween preds) → Deepens preds r failing (λ c. ⊥) ⊥
unfolding NoCall
none-deepens preds r = failing-deepens preds r

some-deepens : (preds : List PredTree) (r : TicksBetween preds) → Deepens preds r succeeding (λ c. ⊥) ⊤
unfolding NoCall
some-deepens preds r = succeeding-deepens preds r

tick-deepens : (preds : List PredTree) (r : TicksBetween preds) → Deepens preds r ticking (λ c. ⊥) ⊥
unfolding NoCall
tick-deepens preds r = ticking-deepens preds r

mutual
  unfolding meaning Reaches Passes

  pub goal-deepens : (preds : List PredTree) (r : TicksBetween preds) (built : Builtins) → BuiltinsLast preds r built → (g : GoalTree) → Deepens preds r (meaning built g) (λ c. Reaches c g) (Passes g)
  goal-deepens preds r built lasting truth = draining-deepens preds r succeeding (λ c. ⊥) ⊤ (some-deepens preds r)
  goal-deepens preds r built lasting fail = draining-deepens preds r failing (λ c. ⊥) ⊥ (none-deepens preds r)
  goal-deepens preds r built lasting tick = draining-deepens preds r ticking (λ c. ⊥) ⊥ (tick-deepens preds r)
  goal-deepens preds r built lasting (call name args) =
      draining-deepens preds r (calling built name args) (λ c. c ≡ callee false name (length args)) ⊤ (calling-deepens preds r built lasting name args)
  goal-deepens preds r built lasting (apply name args slot) =
      draining-deepens preds r (applying built name args slot) (λ c. c ≡ callee true name (length args)) ⊤ (applying-deepens preds r built lasting name args slot)
  goal-deepens preds r built lasting (seq gs) = draining-deepens preds r (meaning_of_all built gs) (λ c. ReachesInAll c gs) (PassesAll gs) (goals-deepen preds r built lasting gs)
  goal-deepens preds r built lasting (alternatives gs) = draining-deepens preds r (meaning_of_any built gs) (λ c. ReachesInAny c gs) (PassesAny gs) (branches-deepen preds r built lasting gs)
  goal-deepens preds r built lasting (if_else test yes_goal other) =
      draining-deepens preds r (λ p. chosen (strictly (meaning built test) p) (meaning built yes_goal) (meaning built other p))
      (λ c. Reaches c test ⊎ ((Passes test × Reaches c yes_goal) ⊎ Reaches c other)) ((Passes test × Passes yes_goal) ⊎ Passes other)
      (chosen-deepens preds r (meaning built test) (meaning built yes_goal) (meaning built other) (λ c. Reaches c test) (λ c. Reaches c yes_goal) (λ c. Reaches c other)
      (Passes test) (Passes yes_goal) (Passes other) (goal-deepens preds r built lasting test) (goal-deepens preds r built lasting yes_goal) (goal-deepens preds r built lasting other))
  goal-deepens preds r built lasting (not g) =
      draining-deepens preds r (λ p. negated (strictly (meaning built g) p) p) (λ c. Reaches c g) ⊤
      (negated-deepens preds r (meaning built g) (λ c. Reaches c g) (Passes g) (goal-deepens preds r built lasting g))
  goal-deepens preds r built lasting (once g) =
      draining-deepens preds r (λ p. first (strictly (meaning built g) p)) (λ c. Reaches c g) (Passes g)
      (first-deepens preds r (meaning built g) (λ c. Reaches c g) (Passes g) (goal-deepens preds r built lasting g))
  goal-deepens preds r built lasting (collect g k into) =
      draining-deepens preds r (collecting (meaning built g) k into) (λ c. Reaches c g) ⊤
      (collecting-deepens preds r (meaning built g) k into (λ c. Reaches c g) (Passes g) (goal-deepens preds r built lasting g))
  goal-deepens preds r built lasting (count g into) =
      draining-deepens preds r (counting (meaning built g) into) (λ c. Reaches c g) ⊤
      (counting-deepens preds r (meaning built g) into (λ c. Reaches c g) (Passes g) (goal-deepens preds r built lasting g))
  goal-deepens preds r built lasting (catch g ball handler) =
      draining-deepens preds r (catching (meaning built g) ball (meaning built handler)) (λ c. Reaches c g ⊎ Reaches c handler) (Passes g ⊎ Passes handler)
      (catching-deepens preds r (meaning built g) ball (meaning built handler) (λ c. Reaches c g) (λ c. Reaches c handler) (Passes g) (Passes handler)
      (goal-deepens preds r built lasting g) (goal-deepens preds r built lasting handler))

  goals-deepen : (preds : List PredTree) (r : TicksBetween preds) (built : Builtins) → BuiltinsLast preds r built → (gs : GoalTrees) → Deepens preds r (meaning_of_all built gs) (λ c. ReachesInAll c gs) (PassesAll gs)
  goals-deepen preds r built lasting no_goals = some-deepens preds r
  goals-deepen preds r built lasting (goal g gs) =
      all-deepens preds r (meaning built g) (meaning_of_all built gs) (λ c. Reaches c g) (λ c. ReachesInAll c gs) (Passes g) (PassesAll gs)
      (goal-deepens preds r built lasting g) (goals-deepen preds r built lasting gs)

  branches-deepen : (preds : List PredTree) (r : TicksBetween preds) (built : Builtins) → BuiltinsLast preds r built → (gs : GoalTrees) → Deepens preds r (meaning_of_any built gs) (λ c. ReachesInAny c gs) (PassesAny gs)
  branches-deepen preds r built lasting no_goals = none-deepens preds r
  branches-deepen preds r built lasting (goal g gs) =
      any-deepens preds r (meaning built g) (meaning_of_any built gs) (λ c. Reaches c g) (λ c. ReachesInAny c gs) (Passes g) (PassesAny gs)
      (goal-deepens preds r built lasting g) (branches-deepen preds r built lasting gs)
