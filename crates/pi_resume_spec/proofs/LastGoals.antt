-- Each goal of the core language lasts as long as its level is deep, in both runs, where the quiet calls that it reaches may nest.
use Rattle.std.specs.Prelude.{◌≡◌, ◌⊎◌, ℕ, suc, ◌-◌, ◌≤◌, true, false, List, [], ◌∷◌, length, Option, Some, None, pos, ⊤, refl}
use Rattle.std.proofs.Common.{arith, ap, ◌∙◌, inl, inr}
use Rattle.pi_terms.specs.Tree.{Tree, int, Trees, trees_of, tree_count}
use Rattle.pi_terms.specs.Copy.{copy, new_variables}
use Rattle.pi_constraints.specs.State.{State, next}
use Rattle.pi_constraints.specs.Unify.{unified}
use Rattle.pi_constraints.specs.Evaluation.{Evaluated, evaluated, EvaluatedAll, evaluated_all, with_new_variables}
use Rattle.pi_core.specs.GoalTree.{GoalTree, truth, fail, tick, call, apply, seq, alternatives as any_of, if_else, not, once, collect, count, catch, GoalTrees, no_goals, goal}
use Rattle.pi_core.specs.CoreTree.{PredTree, find_pred}
use Rattle.pi_traces.specs.Trace.{Trace, Raise, Deep, done, end, one, then, first}
use Rattle.pi_traces.specs.Control.{negated, collected, counted}
use Rattle.pi_traces.proofs.LastLemmas.{Lasts, Falls, Any, any-falls, less-left, done-lasts, raise-lasts, one-lasts, then-lasts, first-lasts, negated-lasts, collected-lasts, counted-lasts}
use Rattle.pi_meaning.specs.Shared.Level.{Level, Applied, or_applied, calls_at}
use Rattle.pi_meaning.specs.Shared.Settle.{settled}
use Rattle.pi_meaning.specs.CoreMeaning.Builtins.{function_by}
use Rattle.pi_meaning.specs.CoreMeaning.Instances.{is_called_by_name}
use Rattle.pi_meaning.specs.CoreMeaning.Meaning.{slot_value, copyable}
use Rattle.pi_meaning.specs.CoreMeaning.Quiet.{Callee, TicksBetween, Reaches, ReachesInAll, ReachesInAny, Passes, PassesAll, PassesAny}
use Rattle.pi_meaning.proofs.CoreMeaning.MeaningLemmas.{as-many, count-of}
use Rattle.pi_meaning.proofs.CoreMeaning.QuietGoals.{worth, counted as counts, worth-counted, Fits, callee, CallsLast, LevelLasts, calls-last, OptionLasts, BuiltinsLast, within-lasts, settled-lasts}
use Rattle.pi_resume_spec.specs.Resumed.{Search, simple, sequence, alternatives, chosen_search}
use Rattle.pi_resume_spec.specs.Searches.{Searches, SearchLevel, bottom, above, plain_calls, plain_level, searches_at, Spot, Tries, only, in_state, draining, strictly}
use Rattle.pi_resume_spec.specs.ByName.{Offers, or_searched, handled_in, handling}
use Rattle.pi_resume_spec.specs.Goals.{with_slot, after_arguments, after_term, succeeding, failing, ticking, predicate_by, calling, applying, with_list, strict, collecting, counting, catching, search, search_all, search_any}
use Rattle.pi_resume_spec.proofs.LastLemmas.{SearchLasts, less-search, search-map, without-lasts, simple-lasts, only-lasts, sequence-lasts, AllLast, alternatives-lasts, catch-lasts, tick-lasts, condition-lasts}

-- ---- levels

-- what calls do lasts d Ticks, where f quiet ones may nest, and e Ticks where the predicate is one that `call` finds
pub record SearchesLast (preds : List PredTree) (r : TicksBetween preds) (f d e : ℕ) (c : Searches) : Type 0 where
  pub called : (name : List ℕ) (ts : Trees) (s : State) → Fits preds r f (callee false name (tree_count ts)) → SearchLasts Any d (c.called name ts s)
  pub applied : (name : List ℕ) (ts : Trees) (s : State) → Fits preds r f (callee true name (tree_count ts)) → Lasts Any d (c.applied name ts s)
  pub loud : (name : List ℕ) (ts : Trees) (s : State) → is_called_by_name (find_pred false name (tree_count ts) preds) ≡ true → SearchLasts Any e (c.called name ts s)
  pub drained : (k : ℕ) (s : State) → SearchLasts Any k (c.drained s)

-- the depth of a level is that of the one that it is without paths
abbrev pub depth_of : SearchLevel → ℕ
depth_of l = worth (plain_level l)

abbrev pub count_at : SearchLevel → ℕ
count_at l = counts (plain_level l)

unfoldable pub SearchLevelLasts : (preds : List PredTree) → TicksBetween preds → ℕ → SearchLevel → Type 0
SearchLevelLasts preds r f (bottom c) = SearchesLast preds r f 0 0 c
SearchLevelLasts preds r f (above c l) = SearchesLast preds r f (count_at l) (suc (depth_of l)) c × SearchLevelLasts preds r (length preds) l

pub searches-last : (preds : List PredTree) (r : TicksBetween preds) (f : ℕ) (l : SearchLevel) → SearchLevelLasts preds r f l → SearchesLast preds r f (depth_of l) (count_at l) (searches_at l)
unfolding SearchLevelLasts plain_level
searches-last preds r f (bottom c) h = h
searches-last preds r f (above c l) h = h.0

plain-calls : (preds : List PredTree) (r : TicksBetween preds) (f d e : ℕ) (c : Searches) → SearchesLast preds r f d e c → CallsLast preds r f d e (plain_calls c)
plain-calls preds r f d e c h = record {
  called = λ name ts s fits. without-lasts Any any-falls d (c.called name ts s) (h.called name ts s fits);
  applied = h.applied;
  loud = λ name ts s is. without-lasts Any any-falls e (c.called name ts s) (h.loud name ts s is);
  drained = λ k s. without-lasts Any any-falls k (c.drained s) (h.drained k s);
}

pub plain-lasts : (preds : List PredTree) (r : TicksBetween preds) (f : ℕ) (l : SearchLevel) → SearchLevelLasts preds r f l → LevelLasts preds r f (plain_level l)
unfolding SearchLevelLasts plain_level
plain-lasts preds r f (bottom c) h = plain-calls preds r f 0 0 c h
plain-lasts preds r f (above c l) h = (plain-calls preds r f (count_at l) (suc (depth_of l)) c h.0, plain-lasts preds r (length preds) l h.1)

-- what names do by themselves lasts so long too
abbrev pub OptionSearchLasts : ℕ → Option (Search State) → Type 0
OptionSearchLasts d None = ⊤
OptionSearchLasts d (Some t) = SearchLasts Any d t

pub record OffersLast (preds : List PredTree) (r : TicksBetween preds) (b : Offers) : Type 0 where
  pub predicates : (f d : ℕ) (l : SearchLevel) → d ≤ depth_of l → SearchLevelLasts preds r f l → (name : List ℕ) (ts : Trees) (s : State) → OptionSearchLasts d (b.predicate l name ts s)
  pub plain : BuiltinsLast preds r b.plain

-- ---- answers

-- an answer leaves d Ticks of depth, and its level is as it was where no goal `Tick` was passed, or else a full one
abbrev pub Left : (preds : List PredTree) → TicksBetween preds → ℕ → Type 0 → ℕ → Spot → Type 0
Left preds r f P d p = (d ≤ depth_of p.level) × ((SearchLevelLasts preds r f p.level × P) ⊎ SearchLevelLasts preds r (length preds) p.level)

pub left-falls : (preds : List PredTree) (r : TicksBetween preds) (f : ℕ) (P : Type 0) → Falls (Left preds r f P)
left-falls preds r f P d k p h a = (omega (arith, h, a.0), a.1)

left-either : (preds : List PredTree) (r : TicksBetween preds) (f : ℕ) (P Q : Type 0) → (P → Q) → (l : SearchLevel) →
    ((SearchLevelLasts preds r f l × P) ⊎ SearchLevelLasts preds r (length preds) l) → (SearchLevelLasts preds r f l × Q) ⊎ SearchLevelLasts preds r (length preds) l
left-either preds r f P Q g l (inl a) = inl (a.0, g a.1)
left-either preds r f P Q g l (inr a) = inr a

left-map : (preds : List PredTree) (r : TicksBetween preds) (f : ℕ) (P Q : Type 0) → (P → Q) → (d : ℕ) (s : Search Spot) → SearchLasts (Left preds r f P) d s → SearchLasts (Left preds r f Q) d s
left-map preds r f P Q g d s a = search-map (Left preds r f P) (Left preds r f Q) (λ k p h. (h.0, left-either preds r f P Q g p.level h.1)) d s a

-- a goal lasts as long as the level is deep, where the calls that it reaches may nest
unfoldable pub Deepens : (preds : List PredTree) → TicksBetween preds → Tries → (Callee → Type 0) → Type 0 → Type 0
Deepens preds r act R P = (f : ℕ) → ((c : Callee) → R c → Fits preds r f c) → (d : ℕ) (p : Spot) → d ≤ depth_of p.level → SearchLevelLasts preds r f p.level → SearchLasts (Left preds r f P) d (act p)

full-either : (preds : List PredTree) (r : TicksBetween preds) (P : Type 0) (l : SearchLevel) → ((SearchLevelLasts preds r (length preds) l × P) ⊎ SearchLevelLasts preds r (length preds) l) → SearchLevelLasts preds r (length preds) l
full-either preds r P l (inl a) = a.0
full-either preds r P l (inr a) = a

onward-full : (preds : List PredTree) (r : TicksBetween preds) (f : ℕ) (Q : Type 0) (act : Tries) (R : Callee → Type 0) (P : Type 0) → Deepens preds r act R P →
    (k : ℕ) (q : Spot) → k ≤ depth_of q.level → SearchLevelLasts preds r (length preds) q.level → SearchLasts (Left preds r f Q) k (act q)
unfolding Deepens
onward-full preds r f Q act R P a k q h l =
    search-map (Left preds r (length preds) P) (Left preds r f Q) (λ j p o. (o.0, inr (full-either preds r P p.level o.1))) k (act q) (a (length preds) (λ c reach pred quiet. r.below c pred quiet) k q h l)

onward-either : (preds : List PredTree) (r : TicksBetween preds) (f : ℕ) (P Q : Type 0) (act : Tries) (R : Callee → Type 0) (P' : Type 0) → Deepens preds r act R P' →
    (P → (c : Callee) → R c → Fits preds r f c) → (P → P' → Q) → (k : ℕ) (q : Spot) → k ≤ depth_of q.level →
    ((SearchLevelLasts preds r f q.level × P) ⊎ SearchLevelLasts preds r (length preds) q.level) → SearchLasts (Left preds r f Q) k (act q)
unfolding Deepens
onward-either preds r f P Q act R P' a fits passes k q h (inl l) = left-map preds r f P' Q (passes l.1) k (act q) (a f (fits l.1) k q h l.0)
onward-either preds r f P Q act R P' a fits passes k q h (inr l) = onward-full preds r f Q act R P' a k q h l

-- it lasts from an answer of what was before
pub onward : (preds : List PredTree) (r : TicksBetween preds) (f : ℕ) (P Q : Type 0) (act : Tries) (R : Callee → Type 0) (P' : Type 0) → Deepens preds r act R P' →
    (P → (c : Callee) → R c → Fits preds r f c) → (P → P' → Q) → (k : ℕ) (q : Spot) → Left preds r f P k q → SearchLasts (Left preds r f Q) k (act q)
onward preds r f P Q act R P' a fits passes k q h = onward-either preds r f P Q act R P' a fits passes k q h.0 h.1

-- ---- draining, and strict places

draining-deepens : (preds : List PredTree) (r : TicksBetween preds) (act : Tries) (R : Callee → Type 0) (P : Type 0) → Deepens preds r act R P → Deepens preds r (draining act) R P
unfolding Deepens draining
draining-deepens preds r act R P a f fits d p h l =
    sequence-lasts Any (Left preds r f P) (left-falls preds r f P) d ((searches_at p.level).drained p.state) (λ s. act (in_state p s)) ((searches-last preds r f p.level l).drained d p.state)
    (λ k s m o. a f fits k (in_state p s) (omega (arith, m, h)) l)

NoCall : Callee → Type 0
NoCall c = ⊥

succeeding-deepens : (preds : List PredTree) (r : TicksBetween preds) → Deepens preds r succeeding NoCall ⊤
unfolding Deepens
succeeding-deepens preds r f fits d p h l = only-lasts (Left preds r f ⊤) (left-falls preds r f ⊤) d p (h, inl (l, tt))

pub strictly-deepens : (preds : List PredTree) (r : TicksBetween preds) (act : Tries) (R : Callee → Type 0) (P : Type 0) → Deepens preds r act R P → Deepens preds r (strictly act) R P
unfolding Deepens strictly NoCall
strictly-deepens preds r act R P a f fits d p h l =
    sequence-lasts (Left preds r f P) (Left preds r f P) (left-falls preds r f P) d (act p) (draining (λ q. only q)) (a f fits d p h l)
    (λ k q m o. onward preds r f P P (draining (λ q. only q)) NoCall ⊤ (draining-deepens preds r (λ q. only q) NoCall ⊤ (succeeding-deepens preds r)) (λ x c reach. absurd reach) (λ x y. x) k q o)

-- without paths
pub strict-lasts : (preds : List PredTree) (r : TicksBetween preds) (act : Tries) (R : Callee → Type 0) (P : Type 0) → Deepens preds r act R P → (f : ℕ) → ((c : Callee) → R c → Fits preds r f c) →
    (d : ℕ) (p : Spot) → d ≤ depth_of p.level → SearchLevelLasts preds r f p.level → Lasts (Left preds r f P) d (strict act p)
unfolding Deepens
strict-lasts preds r act R P a f fits d p h l = without-lasts (Left preds r f P) (left-falls preds r f P) d (strictly act p) (strictly-deepens preds r act R P a f fits d p h l)

done-search : {A : Type 0} (Ok : ℕ → A → Type 0) → Falls Ok → (d : ℕ) → SearchLasts Ok d (simple done)
done-search Ok h d = simple-lasts Ok h d done (done-lasts Ok d)

failing-deepens : (preds : List PredTree) (r : TicksBetween preds) → Deepens preds r failing NoCall ⊥
unfolding Deepens
failing-deepens preds r f fits d p h l = done-search (Left preds r f ⊥) (left-falls preds r f ⊥) d

ticking-at : (preds : List PredTree) (r : TicksBetween preds) (f d : ℕ) (l : SearchLevel) (p : Spot) → p.level ≡ l → d ≤ depth_of l → SearchLevelLasts preds r f l → SearchLasts (Left preds r f ⊥) d (ticking (record { level = l; slots = p.slots; state = p.state }))
unfolding Lasts SearchLevelLasts plain_level
ticking-at preds r f d (bottom c) p is h l =
    let none : d ≡ 0 = omega (arith, h) in
    simple-lasts (Left preds r f ⊥) (left-falls preds r f ⊥) d (end Deep) (λ e. none)
ticking-at preds r f d (above c m) p is h l =
    let most : (worth (plain_level m) ≤ counts (plain_level m)) × (counts (plain_level m) ≤ suc (worth (plain_level m))) = worth-counted (plain_level m) in
    let q : Spot = record { level = m; slots = p.slots; state = p.state } in
    tick-lasts (Left preds r f ⊥) d (only q) (only-lasts (Left preds r f ⊥) (left-falls preds r f ⊥) (d - 1) q (omega (arith, h, most.1), inr l.1))

ticking-deepens : (preds : List PredTree) (r : TicksBetween preds) → Deepens preds r ticking NoCall ⊥
unfolding Deepens
ticking-deepens preds r f fits d p h l = ticking-at preds r f d p.level p refl h l

-- ---- goals in goals

all-deepens : (preds : List PredTree) (r : TicksBetween preds) (a b : Tries) (R R' : Callee → Type 0) (P P' : Type 0) → Deepens preds r a R P → Deepens preds r b R' P' →
    Deepens preds r (λ p. sequence (a p) b) (λ c. R c ⊎ (P × R' c)) (P × P')
unfolding Deepens
all-deepens preds r a b R R' P P' x y f fits d p h l =
    sequence-lasts (Left preds r f P) (Left preds r f (P × P')) (left-falls preds r f (P × P')) d (a p) b (x f (λ c reach. fits c (inl reach)) d p h l)
    (λ k q m o. onward preds r f P (P × P') b R' P' y (λ z c reach. fits c (inr (z, reach))) (λ z w. (z, w)) k q o)

chosen-deepens : (preds : List PredTree) (r : TicksBetween preds) (t a b : Tries) (Rt Ra Rb : Callee → Type 0) (Pt Pa Pb : Type 0) → Deepens preds r t Rt Pt → Deepens preds r a Ra Pa → Deepens preds r b Rb Pb →
    Deepens preds r (λ p. chosen_search (strict t p) a (b p)) (λ c. Rt c ⊎ ((Pt × Ra c) ⊎ Rb c)) ((Pt × Pa) ⊎ Pb)
unfolding Deepens
chosen-deepens preds r t a b Rt Ra Rb Pt Pa Pb x y z f fits d p h l =
    let Q : Type 0 = (Pt × Pa) ⊎ Pb in
    condition-lasts (Left preds r f Pt) (Left preds r f Q) (left-falls preds r f Q) d (strict t p) a (b p) (strict-lasts preds r t Rt Pt x f (λ c reach. fits c (inl reach)) d p h l)
    (λ k q m o. onward preds r f Pt Q a Ra Pa y (λ w c reach. fits c (inr (inl (w, reach)))) (λ w v. inl (w, v)) k q o)
    (left-map preds r f Pb Q (λ w. inr w) d (b p) (z f (λ c reach. fits c (inr (inr reach))) d p h l))

negated-deepens : (preds : List PredTree) (r : TicksBetween preds) (a : Tries) (R : Callee → Type 0) (P : Type 0) → Deepens preds r a R P → Deepens preds r (λ p. simple (negated (strict a p) p)) R ⊤
unfolding Deepens
negated-deepens preds r a R P x f fits d p h l =
    simple-lasts (Left preds r f ⊤) (left-falls preds r f ⊤) d (negated (strict a p) p)
    (negated-lasts (Left preds r f P) (Left preds r f ⊤) d (strict a p) p (strict-lasts preds r a R P x f fits d p h l) (λ k m. (omega (arith, m, h), inl (l, tt))))

first-deepens : (preds : List PredTree) (r : TicksBetween preds) (a : Tries) (R : Callee → Type 0) (P : Type 0) → Deepens preds r a R P → Deepens preds r (λ p. simple (first (strict a p))) R P
unfolding Deepens
first-deepens preds r a R P x f fits d p h l =
    simple-lasts (Left preds r f P) (left-falls preds r f P) d (first (strict a p)) (first-lasts (Left preds r f P) d (strict a p) (strict-lasts preds r a R P x f fits d p h l))

collecting-deepens : (preds : List PredTree) (r : TicksBetween preds) (a : Tries) (k into : ℕ) (R : Callee → Type 0) (P : Type 0) → Deepens preds r a R P → Deepens preds r (collecting a k into) R ⊤
unfolding Deepens collecting
collecting-deepens preds r a k into R P x f fits d p h l =
    let t : Trace Tree = then (strict a p) (λ q. copyable (slot_value k q.slots q.state)) in
    simple-lasts (Left preds r f ⊤) (left-falls preds r f ⊤) d (collected t (λ u. u) (λ ts. one (with_list p into ts)))
    (collected-lasts Any (Left preds r f ⊤) d t (λ u. u) (λ ts. one (with_list p into ts))
    (then-lasts (Left preds r f P) Any any-falls d (strict a p) (λ q. copyable (slot_value k q.slots q.state)) (strict-lasts preds r a R P x f fits d p h l)
    (λ j q m o. within-lasts Any j (slot_value k q.slots q.state) (one (slot_value k q.slots q.state)) (one-lasts Any j (slot_value k q.slots q.state) tt)))
    (λ j ts m. one-lasts (Left preds r f ⊤) j (with_list p into ts) (omega (arith, m, h), inl (l, tt))))

counting-deepens : (preds : List PredTree) (r : TicksBetween preds) (a : Tries) (into : ℕ) (R : Callee → Type 0) (P : Type 0) → Deepens preds r a R P → Deepens preds r (counting a into) R ⊤
unfolding Deepens counting
counting-deepens preds r a into R P x f fits d p h l =
    simple-lasts (Left preds r f ⊤) (left-falls preds r f ⊤) d (counted (strict a p) (λ n. one (with_slot p into (int (pos n)))))
    (counted-lasts (Left preds r f P) (Left preds r f ⊤) d (strict a p) (λ n. one (with_slot p into (int (pos n)))) (strict-lasts preds r a R P x f fits d p h l)
    (λ j n m. one-lasts (Left preds r f ⊤) j (with_slot p into (int (pos n))) (omega (arith, m, h), inl (l, tt))))

handled-lasts : (preds : List PredTree) (r : TicksBetween preds) (b : Tries) (R : Callee → Type 0) (P Q : Type 0) → Deepens preds r b R P → (P → Q) →
    (f : ℕ) → ((c : Callee) → R c → Fits preds r f c) → (d : ℕ) (p : Spot) → d ≤ depth_of p.level → SearchLevelLasts preds r f p.level → (raised : Tree) (o : Option State) →
    SearchLasts (Left preds r f Q) d (handled_in p.state raised (λ t. b (in_state p t)) o)
unfolding Deepens
handled-lasts preds r b R P Q x g f fits d p h l raised None = simple-lasts (Left preds r f Q) (left-falls preds r f Q) d (end (Raise raised)) (raise-lasts (Left preds r f Q) d raised)
handled-lasts preds r b R P Q x g f fits d p h l raised (Some s) =
    sequence-lasts Any (Left preds r f Q) (left-falls preds r f Q) d (simple (settled p.state s)) (λ t. b (in_state p t)) (simple-lasts Any any-falls d (settled p.state s) (settled-lasts d p.state s))
    (λ k t m o. left-map preds r f P Q g k (b (in_state p t)) (x f fits k (in_state p t) (omega (arith, m, h)) l))

catching-deepens : (preds : List PredTree) (r : TicksBetween preds) (a : Tries) (ball : Tree) (b : Tries) (R R' : Callee → Type 0) (P P' : Type 0) → Deepens preds r a R P → Deepens preds r b R' P' →
    Deepens preds r (catching a ball b) (λ c. R c ⊎ R' c) (P ⊎ P')
unfolding Deepens catching
catching-deepens preds r a ball b R R' P P' x y f fits d p h l =
    let e : Evaluated = evaluated ball p.slots p.state in
    let q : Spot = after_term p e in
    catch-lasts (Left preds r f (P ⊎ P')) (left-falls preds r f (P ⊎ P')) d (strictly a q) (handling q.state e.tree (λ t. b (in_state q t)))
    (left-map preds r f P (P ⊎ P') (λ z. inl z) d (strictly a q) (strictly-deepens preds r a R P x f (λ c reach. fits c (inl reach)) d q h l))
    (λ k raised m. handled-lasts preds r b R' P' (P ⊎ P') y (λ z. inr z) f (λ c reach. fits c (inr reach)) k q (omega (arith, m, h)) l raised
    (unified (with_new_variables (new_variables raised) q.state) e.tree (copy (next q.state) raised)))

-- ---- calls

called-lasts : (preds : List PredTree) (r : TicksBetween preds) (f d : ℕ) (l : SearchLevel) → d ≤ depth_of l → SearchLevelLasts preds r f l → (name : List ℕ) (ts : Trees) (s : State) →
    Fits preds r f (callee false name (tree_count ts)) → (o : Option (Search State)) → OptionSearchLasts d o → SearchLasts Any d (or_searched o l name ts s)
called-lasts preds r f d l h last name ts s fits None a =
    less-search Any any-falls (depth_of l) d h ((searches_at l).called name ts s) ((searches-last preds r f l last).called name ts s fits)
called-lasts preds r f d l h last name ts s fits (Some t) a = a

applied-lasts : (preds : List PredTree) (r : TicksBetween preds) (f d : ℕ) (l : Level) → d ≤ worth l → LevelLasts preds r f l → (name : List ℕ) (ts : Trees) (s : State) →
    Fits preds r f (callee true name (tree_count ts)) → (o : Option (Trace Applied)) → OptionLasts d o → Lasts Any d (or_applied o l name ts s)
applied-lasts preds r f d l h last name ts s fits None a =
    less-left Any any-falls (worth l) d h ((calls_at l).applied name ts s) ((calls-last preds r f l last).applied name ts s fits)
applied-lasts preds r f d l h last name ts s fits (Some t) a = a

calling-deepens : (preds : List PredTree) (r : TicksBetween preds) (b : Offers) → OffersLast preds r b → (name : List ℕ) (args : List Tree) → Deepens preds r (calling b name args) (λ c. c ≡ callee false name (length args)) ⊤
unfolding Deepens calling
calling-deepens preds r b lasting name args f fits d p h l =
    let all : EvaluatedAll = evaluated_all (trees_of args) p.slots p.state in
    let many : tree_count all.trees ≡ length args = as-many (trees_of args) p.slots p.state ∙ count-of args in
    sequence-lasts Any (Left preds r f ⊤) (left-falls preds r f ⊤) d (predicate_by b p.level name all.trees all.state) (λ s. only (in_state (after_arguments p all) s))
    (called-lasts preds r f d p.level h l name all.trees all.state (fits (callee false name (tree_count all.trees)) (ap (callee false name) many))
    (b.predicate p.level name all.trees all.state) (lasting.predicates f d p.level h l name all.trees all.state))
    (λ k s m o. only-lasts (Left preds r f ⊤) (left-falls preds r f ⊤) k (in_state (after_arguments p all) s) (omega (arith, m, h), inl (l, tt)))

applying-deepens : (preds : List PredTree) (r : TicksBetween preds) (b : Offers) → OffersLast preds r b → (name : List ℕ) (args : List Tree) (into : ℕ) →
    Deepens preds r (applying b name args into) (λ c. c ≡ callee true name (length args)) ⊤
unfolding Deepens applying
applying-deepens preds r b lasting name args into f fits d p h l =
    let all : EvaluatedAll = evaluated_all (trees_of args) p.slots p.state in
    let many : tree_count all.trees ≡ length args = as-many (trees_of args) p.slots p.state ∙ count-of args in
    let t : Trace Applied = function_by b.plain (plain_level p.level) name all.trees all.state in
    simple-lasts (Left preds r f ⊤) (left-falls preds r f ⊤) d (then t (λ a. one (with_slot (in_state (after_arguments p all) a.state) into a.value)))
    (then-lasts Any (Left preds r f ⊤) (left-falls preds r f ⊤) d t (λ a. one (with_slot (in_state (after_arguments p all) a.state) into a.value))
    (applied-lasts preds r f d (plain_level p.level) h (plain-lasts preds r f p.level l) name all.trees all.state (fits (callee true name (tree_count all.trees)) (ap (callee true name) many))
    (b.plain.function (plain_level p.level) name all.trees all.state) (lasting.plain.functions d (plain_level p.level) name all.trees all.state))
    (λ k a m o. one-lasts (Left preds r f ⊤) k (with_slot (in_state (after_arguments p all) a.state) into a.value) (omega (arith, m, h), inl (l, tt))))

-- ---- all goals

none-deepens : (preds : List PredTree) (r : TicksBetween preds) → Deepens preds r failing (λ c. ⊥) ⊥
unfolding NoCall
none-deepens preds r = failing-deepens preds r

some-deepens : (preds : List PredTree) (r : TicksBetween preds) → Deepens preds r succeeding (λ c. ⊥) ⊤
unfolding NoCall
some-deepens preds r = succeeding-deepens preds r

tick-deepens : (preds : List PredTree) (r : TicksBetween preds) → Deepens preds r ticking (λ c. ⊥) ⊥
unfolding NoCall
tick-deepens preds r = ticking-deepens preds r

-- the branches of a disjunction, each from the same place
BranchesDeepen : (preds : List PredTree) → TicksBetween preds → (Spot → List (Search Spot)) → (Callee → Type 0) → Type 0 → Type 0
BranchesDeepen preds r act R P = (f : ℕ) → ((c : Callee) → R c → Fits preds r f c) → (d : ℕ) (p : Spot) → d ≤ depth_of p.level → SearchLevelLasts preds r f p.level → AllLast (Left preds r f P) d (act p)

branches-deepens : (preds : List PredTree) (r : TicksBetween preds) (act : Spot → List (Search Spot)) (R : Callee → Type 0) (P : Type 0) → BranchesDeepen preds r act R P → Deepens preds r (λ p. alternatives (act p)) R P
unfolding Deepens BranchesDeepen
branches-deepens preds r act R P a f fits d p h l = alternatives-lasts (Left preds r f P) (left-falls preds r f P) d (act p) (a f fits d p h l)

all-map : (preds : List PredTree) (r : TicksBetween preds) (f : ℕ) (P Q : Type 0) → (P → Q) → (d : ℕ) (more : List (Search Spot)) → AllLast (Left preds r f P) d more → AllLast (Left preds r f Q) d more
unfolding AllLast
all-map preds r f P Q g d [] a = tt
all-map preds r f P Q g d (s ∷ more) a = (left-map preds r f P Q g d s a.0, all-map preds r f P Q g d more a.1)

one-branch : (preds : List PredTree) (r : TicksBetween preds) (a : Tries) (b : Spot → List (Search Spot)) (R R' : Callee → Type 0) (P P' : Type 0) → Deepens preds r a R P → BranchesDeepen preds r b R' P' →
    BranchesDeepen preds r (λ p. a p ∷ b p) (λ c. R c ⊎ R' c) (P ⊎ P')
unfolding Deepens BranchesDeepen AllLast
one-branch preds r a b R R' P P' x y f fits d p h l = (
  left-map preds r f P (P ⊎ P') (λ z. inl z) d (a p) (x f (λ c reach. fits c (inl reach)) d p h l),
  all-map preds r f P' (P ⊎ P') (λ z. inr z) d (b p) (y f (λ c reach. fits c (inr reach)) d p h l),
)

no-branch : (preds : List PredTree) (r : TicksBetween preds) → BranchesDeepen preds r (λ p. []) (λ c. ⊥) ⊥
unfolding BranchesDeepen AllLast
no-branch preds r f fits d p h l = tt

mutual
  unfolding search Reaches Passes

  pub goal-deepens : (preds : List PredTree) (r : TicksBetween preds) (b : Offers) → OffersLast preds r b → (g : GoalTree) → Deepens preds r (search b g) (λ c. Reaches c g) (Passes g)
  goal-deepens preds r b lasting truth = draining-deepens preds r succeeding (λ c. ⊥) ⊤ (some-deepens preds r)
  goal-deepens preds r b lasting fail = draining-deepens preds r failing (λ c. ⊥) ⊥ (none-deepens preds r)
  goal-deepens preds r b lasting tick = draining-deepens preds r ticking (λ c. ⊥) ⊥ (tick-deepens preds r)
  goal-deepens preds r b lasting (call name args) = draining-deepens preds r (calling b name args) (λ c. c ≡ callee false name (length args)) ⊤ (calling-deepens preds r b lasting name args)
  goal-deepens preds r b lasting (apply name args slot) = draining-deepens preds r (applying b name args slot) (λ c. c ≡ callee true name (length args)) ⊤ (applying-deepens preds r b lasting name args slot)
  goal-deepens preds r b lasting (seq gs) = draining-deepens preds r (search_all b gs) (λ c. ReachesInAll c gs) (PassesAll gs) (goals-deepen preds r b lasting gs)
  goal-deepens preds r b lasting (any_of gs) =
      draining-deepens preds r (λ p. alternatives (search_any b gs p)) (λ c. ReachesInAny c gs) (PassesAny gs) (branches-deepens preds r (search_any b gs) (λ c. ReachesInAny c gs) (PassesAny gs) (any-deepen preds r b lasting gs))
  goal-deepens preds r b lasting (if_else test yes_goal other) =
      draining-deepens preds r (λ p. chosen_search (strict (search b test) p) (search b yes_goal) (search b other p))
      (λ c. Reaches c test ⊎ ((Passes test × Reaches c yes_goal) ⊎ Reaches c other)) ((Passes test × Passes yes_goal) ⊎ Passes other)
      (chosen-deepens preds r (search b test) (search b yes_goal) (search b other) (λ c. Reaches c test) (λ c. Reaches c yes_goal) (λ c. Reaches c other)
      (Passes test) (Passes yes_goal) (Passes other) (goal-deepens preds r b lasting test) (goal-deepens preds r b lasting yes_goal) (goal-deepens preds r b lasting other))
  goal-deepens preds r b lasting (not g) =
      draining-deepens preds r (λ p. simple (negated (strict (search b g) p) p)) (λ c. Reaches c g) ⊤ (negated-deepens preds r (search b g) (λ c. Reaches c g) (Passes g) (goal-deepens preds r b lasting g))
  goal-deepens preds r b lasting (once g) =
      draining-deepens preds r (λ p. simple (first (strict (search b g) p))) (λ c. Reaches c g) (Passes g) (first-deepens preds r (search b g) (λ c. Reaches c g) (Passes g) (goal-deepens preds r b lasting g))
  goal-deepens preds r b lasting (collect g k into) =
      draining-deepens preds r (collecting (search b g) k into) (λ c. Reaches c g) ⊤ (collecting-deepens preds r (search b g) k into (λ c. Reaches c g) (Passes g) (goal-deepens preds r b lasting g))
  goal-deepens preds r b lasting (count g into) =
      draining-deepens preds r (counting (search b g) into) (λ c. Reaches c g) ⊤ (counting-deepens preds r (search b g) into (λ c. Reaches c g) (Passes g) (goal-deepens preds r b lasting g))
  goal-deepens preds r b lasting (catch g ball handler) =
      draining-deepens preds r (catching (search b g) ball (search b handler)) (λ c. Reaches c g ⊎ Reaches c handler) (Passes g ⊎ Passes handler)
      (catching-deepens preds r (search b g) ball (search b handler) (λ c. Reaches c g) (λ c. Reaches c handler) (Passes g) (Passes handler) (goal-deepens preds r b lasting g) (goal-deepens preds r b lasting handler))

  goals-deepen : (preds : List PredTree) (r : TicksBetween preds) (b : Offers) → OffersLast preds r b → (gs : GoalTrees) → Deepens preds r (search_all b gs) (λ c. ReachesInAll c gs) (PassesAll gs)
  goals-deepen preds r b lasting no_goals = some-deepens preds r
  goals-deepen preds r b lasting (goal g gs) =
      all-deepens preds r (search b g) (search_all b gs) (λ c. Reaches c g) (λ c. ReachesInAll c gs) (Passes g) (PassesAll gs) (goal-deepens preds r b lasting g) (goals-deepen preds r b lasting gs)

  any-deepen : (preds : List PredTree) (r : TicksBetween preds) (b : Offers) → OffersLast preds r b → (gs : GoalTrees) → BranchesDeepen preds r (search_any b gs) (λ c. ReachesInAny c gs) (PassesAny gs)
  any-deepen preds r b lasting no_goals = no-branch preds r
  any-deepen preds r b lasting (goal g gs) =
      one-branch preds r (search b g) (search_any b gs) (λ c. Reaches c g) (λ c. ReachesInAny c gs) (Passes g) (PassesAny gs) (goal-deepens preds r b lasting g) (any-deepen preds r b lasting gs)
