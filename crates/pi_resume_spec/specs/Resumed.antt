-- The resumed run: a run that begins behind the answer with a given path. On the way to that answer a choice takes the number that the path has for it; what stands
-- before is passed over, and its outputs are dropped. Where the way ends without the answer the path is bad. (Own.)
use Rattle.std.specs.Prelude.{◌≡◌, ℕ, zero, suc, Bool, true, false, List, [], ◌∷◌, ◌++◌, map}
use Rattle.pi_terms.specs.Tree.{Tree}
use Rattle.pi_traces.specs.Trace.{Trace, end, note, ans, End, Done, Raise, Miss, Deep, Note, Tick, Load, Out, done, one, alt, then}
use Rattle.pi_traces.specs.Control.{caught, chosen}
use Rattle.pi_resume_spec.specs.Ways.{Way, Ways, here, behind, numbered, followed_by, choice_from, choice, catching}

-- what counts on the way: Ticks, and propagations with their loads. What is written there is dropped
pub data Passing : Type 0 where
  a_tick : Passing
  a_load : ℕ → Passing

-- What a goal does that follows numbers: what counts on the way; then the answer that it leads to, with the choices that were made in the goal, the numbers that are left,
-- and what stands behind that answer in the goal; or an end before it, which is one of a run that isn't known to go on, or a bad path.
pub data Following (A : Type 0) : Type 0 where
  on_way : Passing → Following A → Following A
  reached : List ℕ → A → List ℕ → Ways A → Following A
  cut_off : End → Following A
  bad : Following A

-- outputs on the way are dropped
abbrev pub passed : {A : Type 0} → Note → Following A → Following A
passed Tick f = on_way a_tick f
passed (Load k) f = on_way (a_load k) f
passed (Out text) f = f

-- an end before the answer: of a run that a missing planner call or the depth stops, that; any other makes the path bad
abbrev pub stopped : {A : Type 0} → End → Following A
stopped (Miss c) = cut_off (Miss c)
stopped Deep = cut_off Deep
stopped e = bad

-- a goal in both runs: its ways, and what it does where it follows numbers
pub record Search (A : Type 0) : Type 0 where
  pub ways : Ways A
  pub follows : List ℕ → Following A

-- ---- a goal without choices: the first answer is where it leads

unfoldable pub to_answer : {A : Type 0} → List ℕ → Trace A → Following A
to_answer p (end e) = stopped e
to_answer p (note n t) = passed n (to_answer p t)
to_answer p (ans x t) = reached [] x p (then t (λ y. here y))

abbrev pub simple : {A : Type 0} → Trace A → Search A
simple t = record { ways = then t (λ x. here x); follows = λ p. to_answer p t }

-- ---- one goal after another

-- what stands behind in the goals before
unfoldable pub with_rest : {A : Type 0} → List ℕ → Ways A → Following A → Following A
with_rest made rest (on_way n f) = on_way n (with_rest made rest f)
with_rest made rest (reached choices x left later) = reached (made ++ choices) x left (alt (then later (λ w. one (behind made w))) rest)
with_rest made rest (cut_off e) = cut_off e
with_rest made rest bad = bad

unfoldable pub follows_then : {A B : Type 0} → Following A → (A → Search B) → Following B
follows_then (on_way n f) g = on_way n (follows_then f g)
follows_then (reached made x left later) g = with_rest made (followed_by later (λ y. (g y).ways)) ((g x).follows left)
follows_then (cut_off e) g = cut_off e
follows_then bad g = bad

abbrev pub sequence : {A B : Type 0} → Search A → (A → Search B) → Search B
sequence s g = record { ways = followed_by s.ways (λ x. (g x).ways); follows = λ p. follows_then (s.follows p) g }

-- ---- a choice

-- the ways of alternatives
abbrev pub ways_of : {A : Type 0} → List (Search A) → List (Ways A)
ways_of more = map (λ s. s.ways) more

-- the alternative with this number, counted from 0, which has the number k of the path; those behind it follow later
unfoldable pub taken_from : {A : Type 0} → ℕ → List (Search A) → ℕ → List ℕ → Following A
taken_from k [] i p = bad
taken_from k (s ∷ more) zero p = with_rest (k ∷ []) (choice_from (suc k) (ways_of more)) (s.follows p)
taken_from k (s ∷ more) (suc i) p = taken_from (suc k) more i p

-- a choice for which no number is left, or a number that it doesn't have, ends the way
abbrev pub taken : {A : Type 0} → List (Search A) → List ℕ → Following A
taken more [] = bad
taken more (zero ∷ p) = bad
taken more (suc i ∷ p) = taken_from 1 more i p

abbrev pub alternatives : {A : Type 0} → List (Search A) → Search A
alternatives more = record { ways = choice (ways_of more); follows = taken more }

-- ---- a `catch`: where the path has 2 its goal is run to its exception, with its answers and outputs passed over

unfoldable pub to_exception : {A B : Type 0} → Trace A → (Tree → Following B) → Following B
to_exception (end (Raise ball)) f = f ball
to_exception (end e) f = stopped e
to_exception (note n t) f = passed n (to_exception t f)
to_exception (ans x t) f = to_exception t f

-- what stands behind in the goal, and in the handler where that raises
unfoldable pub with_handler : {A : Type 0} → (Tree → Ways A) → Following A → Following A
with_handler handler (on_way n f) = on_way n (with_handler handler f)
with_handler handler (reached made x left later) = reached (1 ∷ made) x left (caught (numbered 1 later) (λ ball. numbered 2 (handler ball)))
with_handler handler (cut_off e) = cut_off e
with_handler handler bad = bad

abbrev pub caught_at : {A : Type 0} → Search A → (Tree → Search A) → List ℕ → Following A
caught_at s handler [] = bad
caught_at s handler (suc zero ∷ p) = with_handler (λ ball. (handler ball).ways) (s.follows p)
caught_at s handler (suc (suc zero) ∷ p) = to_exception s.ways (λ ball. with_rest (2 ∷ []) done ((handler ball).follows p))
caught_at s handler (k ∷ p) = bad

abbrev pub caught_search : {A : Type 0} → Search A → (Tree → Search A) → Search A
caught_search s handler = record { ways = catching s.ways (λ ball. (handler ball).ways); follows = caught_at s handler }

-- ---- the rules of a call, behind its Tick: those before the path's number are matched and their conditions taken, and a committed one that applies makes the path bad

-- a rule: where it applies, whether it is committed, and its body from there
pub record RuleSearch (X A : Type 0) : Type 0 where
  pub applies : Trace X
  pub committed : Bool
  pub body : X → Search A

abbrev pub rest_unless : {A : Type 0} → Bool → Ways A → Ways A
rest_unless true later = done
rest_unless false later = later

unfoldable pub rules_ways : {X A : Type 0} → ℕ → List (RuleSearch X A) → Ways A
rules_ways k [] = done
rules_ways k (r ∷ rs) = chosen r.applies (λ x. alt (numbered k (r.body x).ways) (rest_unless r.committed (rules_ways (suc k) rs))) (rules_ways (suc k) rs)

-- what follows the first answer of a condition, and where it has none
unfoldable pub on_first : {X A : Type 0} → Trace X → (X → Following A) → Following A → Following A
on_first (end Done) f other = other
on_first (end e) f other = stopped e
on_first (note n t) f other = passed n (on_first t f other)
on_first (ans x t) f other = f x

abbrev pub bad_if : {A : Type 0} → Bool → Following A → Following A
bad_if true f = bad
bad_if false f = f

-- the rule with this number, counted from 0, which has the number k of the path
unfoldable pub rules_taken : {X A : Type 0} → ℕ → List (RuleSearch X A) → ℕ → List ℕ → Following A
rules_taken k [] i p = bad
rules_taken k (r ∷ rs) zero p = on_first r.applies (λ x. with_rest (k ∷ []) (rest_unless r.committed (rules_ways (suc k) rs)) ((r.body x).follows p)) bad
rules_taken k (r ∷ rs) (suc i) p = on_first r.applies (λ x. bad_if r.committed (rules_taken (suc k) rs i p)) (rules_taken (suc k) rs i p)

abbrev pub rules_followed : {X A : Type 0} → List (RuleSearch X A) → List ℕ → Following A
rules_followed rs [] = bad
rules_followed rs (zero ∷ p) = bad
rules_followed rs (suc i ∷ p) = rules_taken 1 rs i p

-- the rules
abbrev pub rules_search : {X A : Type 0} → List (RuleSearch X A) → Search A
rules_search rs = record { ways = rules_ways 1 rs; follows = rules_followed rs }

-- a Tick in front, which counts on the way too: that of a call before its rules or facts, and that of an alternative of a labelling
abbrev pub ticked : {A : Type 0} → Search A → Search A
ticked s = record { ways = note Tick s.ways; follows = λ p. on_way a_tick (s.follows p) }

-- ---- a condition, which is no choice: what follows its first answer, or the other goal; so it is of the rules of a quiet call, which are all committed

abbrev pub chosen_search : {X A : Type 0} → Trace X → (X → Search A) → Search A → Search A
chosen_search t f other = record { ways = chosen t (λ x. (f x).ways) other.ways; follows = λ p. on_first t (λ x. (f x).follows p) (other.follows p) }

-- ---- a query: an answer with numbers left isn't that of the path

unfoldable pub resumed : {A : Type 0} → Following A → Following A
resumed (on_way n f) = on_way n (resumed f)
resumed (reached made x [] later) = reached made x [] later
resumed (reached made x (n ∷ left) later) = bad
resumed (cut_off e) = cut_off e
resumed bad = bad

-- ---- what a search is held to

-- an answer of a trace, and what stands behind it
pub data At {A : Type 0} : Trace A → A → Trace A → Type 0 where
  at_first : (x : A) (t : Trace A) → At (ans x t) x t
  past_note : (n : Note) {t : Trace A} {x : A} {rest : Trace A} → At t x rest → At (note n t) x rest
  past_answer : (y : A) {t : Trace A} {x : A} {rest : Trace A} → At t x rest → At (ans y t) x rest

-- following numbers leads, past notes alone, to an answer with these choices, these numbers left, and this behind it
unfoldable pub Leads : {A : Type 0} → Following A → List ℕ → A → List ℕ → Ways A → Type 0
Leads (on_way n f) path x left rest = Leads f path x left rest
Leads (reached made y more later) path x left rest = (made ≡ path) × (y ≡ x) × (more ≡ left) × (later ≡ rest)
Leads (cut_off e) path x left rest = ⊥
Leads bad path x left rest = ⊥

-- the path of each answer leads to it, and what stands behind it there is what stands behind it in the trace
abbrev pub IsResumable : {A : Type 0} → Search A → Type 0
IsResumable {A = A} s = (w : Way A) (rest : Ways A) (left : List ℕ) → At s.ways w rest → Leads (s.follows (w.path ++ left)) w.path w.answer left rest
