-- Goals that name slots that are there, and call what may be called.
use Rattle.std.proofs.Common.{◌≡◌, ◌⊎◌, inl, inr, ℕ, ◌<◌, false, List, [], ◌∷◌, ◌++◌, length, sym, subst}
use Rattle.std.specs.Prelude.{Contains, IsTrue, ⊤}
use Rattle.std.proofs.lemmas.Bool.{false≢true}
use Rattle.std.proofs.lemmas.List.Elements.{Contains-append_cases}
use Rattle.pi_terms.specs.Tree.{Tree, trees_of}
use Rattle.pi_constraints.specs.State.{SpeaksBelow}
use Rattle.pi_constraints.proofs.KeepsLemmas.{TreesBelow}
use Rattle.pi_core.specs.GoalTree.{GoalTree, truth, fail, tick, call, apply, seq, alternatives, if_else, not, once, collect, count, catch, GoalTrees, no_goals, goal, goals_of, subgoals, subgoals_all}
use Rattle.pi_meaning.specs.CoreMeaning.Quiet.{Callee, Passes, Reaches, ReachesInAll, ReachesInAny}
use Rattle.pi_meaning.specs.CoreMeaning.Sound.{NamesBelow, SlotsBelow}
use Rattle.pi_rewrite_spec.specs.Forms.{Knows}
use Rattle.pi_rewrite_spec.specs.Goals.{in_turn, either_of}
use Rattle.pi_rewrite_laws.proofs.BelowLemmas.{first-of, rest-of}
use Rattle.pi_rewrite_laws.proofs.SoundLemmas.{nothing-in, cons-cases}

-- a goal names slots below n, and calls what may be called
unfoldable mutual
  pub Fine : ℕ → Knows → GoalTree → Type 0
  Fine n may truth = ⊤
  Fine n may fail = ⊤
  Fine n may tick = ⊤
  Fine n may (call name args) = TreesBelow n (trees_of args) × IsTrue (may.predicate name (length args))
  Fine n may (apply name args slot) = TreesBelow n (trees_of args) × (slot < n) × IsTrue (may.function name (length args))
  Fine n may (seq gs) = AreFine n may gs
  Fine n may (alternatives gs) = AreFine n may gs
  Fine n may (if_else test then other) = Fine n may test × Fine n may then × Fine n may other
  Fine n may (not g) = Fine n may g
  Fine n may (once g) = Fine n may g
  Fine n may (collect g value into) = Fine n may g × (value < n) × (into < n)
  Fine n may (count g into) = Fine n may g × (into < n)
  Fine n may (catch g ball handler) = Fine n may g × SpeaksBelow n ball × Fine n may handler

  pub AreFine : ℕ → Knows → GoalTrees → Type 0
  AreFine n may no_goals = ⊤
  AreFine n may (goal g gs) = Fine n may g × AreFine n may gs

abbrev pub AllFine : ℕ → Knows → List GoalTree → Type 0
AllFine n may gs = AreFine n may (goals_of gs)

pub fine-none : (n : ℕ) (may : Knows) → AllFine n may []
unfolding Fine
fine-none n may = tt

pub fine-one : (n : ℕ) (may : Knows) (g : GoalTree) → Fine n may g → AllFine n may (g ∷ [])
unfolding Fine
fine-one n may g is = (is, tt)

pub fine-first : (n : ℕ) (may : Knows) (g : GoalTree) (gs : List GoalTree) → Fine n may g → AllFine n may gs → AllFine n may (g ∷ gs)
unfolding Fine
fine-first n may g gs is are = (is, are)

pub fine-append : (n : ℕ) (may : Knows) (gs hs : List GoalTree) → AllFine n may gs → AllFine n may hs → AllFine n may (gs ++ hs)
unfolding Fine
fine-append n may [] hs is are = are
fine-append n may (g ∷ gs) hs is are = (is.0, fine-append n may gs hs is.1 are)

pub fine-turn : (n : ℕ) (may : Knows) (gs : List GoalTree) → AllFine n may gs → Fine n may (in_turn gs)
unfolding Fine
fine-turn n may [] is = tt
fine-turn n may (g ∷ []) is = is.0
fine-turn n may (g ∷ g' ∷ gs) is = is

pub fine-either : (n : ℕ) (may : Knows) (gs : List GoalTree) → AllFine n may gs → Fine n may (either_of gs)
unfolding Fine
fine-either n may [] is = tt
fine-either n may (g ∷ []) is = is.0
fine-either n may (g ∷ g' ∷ gs) is = is

pub fine-truth : (n : ℕ) (may : Knows) → Fine n may truth
unfolding Fine
fine-truth n may = tt

pub fine-fail : (n : ℕ) (may : Knows) → Fine n may fail
unfolding Fine
fine-fail n may = tt

pub fine-tick : (n : ℕ) (may : Knows) → Fine n may tick
unfolding Fine
fine-tick n may = tt

pub fine-call : (n : ℕ) (may : Knows) (name : List ℕ) (args : List Tree) → TreesBelow n (trees_of args) → IsTrue (may.predicate name (length args)) → Fine n may (call name args)
unfolding Fine
fine-call n may name args below is = (below, is)

pub fine-apply : (n : ℕ) (may : Knows) (name : List ℕ) (args : List Tree) (slot : ℕ) → TreesBelow n (trees_of args) → slot < n → IsTrue (may.function name (length args)) → Fine n may (apply name args slot)
unfolding Fine
fine-apply n may name args slot below less is = (below, less, is)

pub fine-if : (n : ℕ) (may : Knows) (test holds other : GoalTree) → Fine n may test → Fine n may holds → Fine n may other → Fine n may (if_else test holds other)
unfolding Fine
fine-if n may test holds other a b c = (a, b, c)

pub fine-not : (n : ℕ) (may : Knows) (g : GoalTree) → Fine n may g → Fine n may (not g)
unfolding Fine
fine-not n may g is = is

pub fine-once : (n : ℕ) (may : Knows) (g : GoalTree) → Fine n may g → Fine n may (once g)
unfolding Fine
fine-once n may g is = is

pub fine-collect : (n : ℕ) (may : Knows) (g : GoalTree) (value into : ℕ) → Fine n may g → value < n → into < n → Fine n may (collect g value into)
unfolding Fine
fine-collect n may g value into is from to = (is, from, to)

pub fine-count : (n : ℕ) (may : Knows) (g : GoalTree) (into : ℕ) → Fine n may g → into < n → Fine n may (count g into)
unfolding Fine
fine-count n may g into is to = (is, to)

pub fine-catch : (n : ℕ) (may : Knows) (g : GoalTree) (ball : Tree) (handler : GoalTree) → Fine n may g → SpeaksBelow n ball → Fine n may handler → Fine n may (catch g ball handler)
unfolding Fine
fine-catch n may g ball handler is below handles = (is, below, handles)

-- ---- goals in a goal

own : (n : ℕ) (may : Knows) (g h : GoalTree) (rest : List GoalTree) → Fine n may g → (Contains rest h → Fine n may h) → Contains (g ∷ rest) h → Fine n may h
own n may g h rest is are there = go (cons-cases g rest h there)
  where
    go : (g ≡ h) ⊎ Contains rest h → Fine n may h
    go (inl same) = subst (Fine n may) same is
    go (inr later) = are later

either : (n : ℕ) (may : Knows) (h : GoalTree) (gs hs : List GoalTree) → (Contains gs h → Fine n may h) → (Contains hs h → Fine n may h) → Contains (gs ++ hs) h → Fine n may h
either n may h gs hs one two there = go (Contains-append_cases gs hs h there)
  where
    go : Contains gs h ⊎ Contains hs h → Fine n may h
    go (inl first) = one first
    go (inr second) = two second

none : (n : ℕ) (may : Knows) (h : GoalTree) → Contains [] h → Fine n may h
none n may h there = absurd (nothing-in h there)

mutual
  unfolding Fine subgoals

  pub subgoal-fine : (n : ℕ) (may : Knows) (g : GoalTree) → Fine n may g → (h : GoalTree) → Contains (subgoals g) h → Fine n may h
  subgoal-fine n may truth is h there = own n may truth h [] is (none n may h) there
  subgoal-fine n may fail is h there = own n may fail h [] is (none n may h) there
  subgoal-fine n may tick is h there = own n may tick h [] is (none n may h) there
  subgoal-fine n may (call name args) is h there = own n may (call name args) h [] is (none n may h) there
  subgoal-fine n may (apply name args k) is h there = own n may (apply name args k) h [] is (none n may h) there
  subgoal-fine n may (seq gs) is h there = own n may (seq gs) h (subgoals_all gs) is (subgoals-fine n may gs is h) there
  subgoal-fine n may (alternatives gs) is h there = own n may (alternatives gs) h (subgoals_all gs) is (subgoals-fine n may gs is h) there
  subgoal-fine n may (if_else test holds other) is h there =
      own n may (if_else test holds other) h (subgoals test ++ (subgoals holds ++ subgoals other)) is
      (either n may h (subgoals test) (subgoals holds ++ subgoals other) (subgoal-fine n may test is.0 h)
      (either n may h (subgoals holds) (subgoals other) (subgoal-fine n may holds is.1 h) (subgoal-fine n may other is.2 h))) there
  subgoal-fine n may (not g) is h there = own n may (not g) h (subgoals g) is (subgoal-fine n may g is h) there
  subgoal-fine n may (once g) is h there = own n may (once g) h (subgoals g) is (subgoal-fine n may g is h) there
  subgoal-fine n may (collect g value into) is h there = own n may (collect g value into) h (subgoals g) is (subgoal-fine n may g is.0 h) there
  subgoal-fine n may (count g into) is h there = own n may (count g into) h (subgoals g) is (subgoal-fine n may g is.0 h) there
  subgoal-fine n may (catch g ball handler) is h there =
      own n may (catch g ball handler) h (subgoals g ++ subgoals handler) is (either n may h (subgoals g) (subgoals handler) (subgoal-fine n may g is.0 h) (subgoal-fine n may handler is.2 h)) there

  pub subgoals-fine : (n : ℕ) (may : Knows) (gs : GoalTrees) → AreFine n may gs → (h : GoalTree) → Contains (subgoals_all gs) h → Fine n may h
  subgoals-fine n may no_goals is h there = none n may h there
  subgoals-fine n may (goal g gs) is h there = either n may h (subgoals g) (subgoals_all gs) (subgoal-fine n may g is.0 h) (subgoals-fine n may gs is.1 h) there

each-below : (n : ℕ) (ts : List Tree) → TreesBelow n (trees_of ts) → (t : Tree) → Contains ts t → SpeaksBelow n t
each-below n [] below t there = absurd (nothing-in t there)
each-below n (x ∷ ts) below t there = go (cons-cases x ts t there) (λ later. each-below n ts (rest-of n x (trees_of ts) below) t later)
  where
    go : (x ≡ t) ⊎ Contains ts t → (Contains ts t → SpeaksBelow n t) → SpeaksBelow n t
    go (inl same) rest = subst (SpeaksBelow n) same (first-of n x (trees_of ts) below)
    go (inr later) rest = rest later

names-below : (n : ℕ) (may : Knows) (g : GoalTree) → Fine n may g → NamesBelow n g
unfolding Fine
names-below n may truth is = tt
names-below n may fail is = tt
names-below n may tick is = tt
names-below n may (call name args) is = each-below n args is.0
names-below n may (apply name args k) is = (each-below n args is.0, is.1)
names-below n may (seq gs) is = tt
names-below n may (alternatives gs) is = tt
names-below n may (if_else test holds other) is = tt
names-below n may (not g) is = tt
names-below n may (once g) is = tt
names-below n may (collect g value into) is = (is.1, is.2)
names-below n may (count g into) is = is.1
names-below n may (catch g ball handler) is = is.1

-- the slots of a goal are those that there are
pub slots-below : (n : ℕ) (may : Knows) (g : GoalTree) → Fine n may g → SlotsBelow n g
slots-below n may g is h there = names-below n may h (subgoal-fine n may g is h there)

-- what is called in it may be called
pub predicate-may : (n : ℕ) (may : Knows) (g : GoalTree) → Fine n may g → (name : List ℕ) (args : List Tree) → Contains (subgoals g) (call name args) → IsTrue (may.predicate name (length args))
unfolding Fine
predicate-may n may g is name args there = (subgoal-fine n may g is (call name args) there).1

pub function-may : (n : ℕ) (may : Knows) (g : GoalTree) → Fine n may g → (name : List ℕ) (args : List Tree) (slot : ℕ) → Contains (subgoals g) (apply name args slot) → IsTrue (may.function name (length args))
unfolding Fine
function-may n may g is name args slot there = (subgoal-fine n may g is (apply name args slot) there).2

-- ---- what is reached

-- a predicate that may be called
abbrev pub MayReach : Knows → Callee → Type 0
MayReach may c = c.function ≡ false → IsTrue (may.predicate c.name c.arity)

same-callee : (may : Knows) (c d : Callee) → c ≡ d → MayReach may d → MayReach may c
same-callee may c d same is = subst (MayReach may) (sym same) is

mutual
  unfolding Fine Reaches

  pub reaches-fine : (n : ℕ) (may : Knows) (c : Callee) (g : GoalTree) → Fine n may g → Reaches c g → MayReach may c
  reaches-fine n may c truth is at = absurd at
  reaches-fine n may c fail is at = absurd at
  reaches-fine n may c tick is at = absurd at
  reaches-fine n may c (call name args) is at = same-callee may c _ at (λ kind. is.1)
  reaches-fine n may c (apply name args k) is at = same-callee may c _ at (λ kind. absurd (false≢true (sym kind)))
  reaches-fine n may c (seq gs) is at = reaches-all n may c gs is at
  reaches-fine n may c (alternatives gs) is at = reaches-any n may c gs is at
  reaches-fine n may c (if_else test holds other) is (inl first) = reaches-fine n may c test is.0 first
  reaches-fine n may c (if_else test holds other) is (inr (inl second)) = reaches-fine n may c holds is.1 second.1
  reaches-fine n may c (if_else test holds other) is (inr (inr third)) = reaches-fine n may c other is.2 third
  reaches-fine n may c (not g) is at = reaches-fine n may c g is at
  reaches-fine n may c (once g) is at = reaches-fine n may c g is at
  reaches-fine n may c (collect g value into) is at = reaches-fine n may c g is.0 at
  reaches-fine n may c (count g into) is at = reaches-fine n may c g is.0 at
  reaches-fine n may c (catch g ball handler) is (inl first) = reaches-fine n may c g is.0 first
  reaches-fine n may c (catch g ball handler) is (inr second) = reaches-fine n may c handler is.2 second

  reaches-all : (n : ℕ) (may : Knows) (c : Callee) (gs : GoalTrees) → AreFine n may gs → ReachesInAll c gs → MayReach may c
  reaches-all n may c no_goals is at = absurd at
  reaches-all n may c (goal g gs) is (inl first) = reaches-fine n may c g is.0 first
  reaches-all n may c (goal g gs) is (inr later) = reaches-all n may c gs is.1 later.1

  reaches-any : (n : ℕ) (may : Knows) (c : Callee) (gs : GoalTrees) → AreFine n may gs → ReachesInAny c gs → MayReach may c
  reaches-any n may c no_goals is at = absurd at
  reaches-any n may c (goal g gs) is (inl first) = reaches-fine n may c g is.0 first
  reaches-any n may c (goal g gs) is (inr later) = reaches-any n may c gs is.1 later

-- nothing is reached behind a Tick
pub past-tick : (c : Callee) (gs : List GoalTree) → Reaches c (in_turn (tick ∷ gs)) → ⊥
unfolding Reaches Passes
past-tick c [] at = at
past-tick c (g ∷ gs) (inl first) = first
past-tick c (g ∷ gs) (inr later) = later.0

-- what is reached in one of three
pub if-reached : (c : Callee) (test holds other : GoalTree) → Reaches c (if_else test holds other) → {A : Type 0} → (Reaches c test → A) → (Reaches c holds → A) → (Reaches c other → A) → A
unfolding Reaches Passes
if-reached c test holds other (inl first) a b d = a first
if-reached c test holds other (inr (inl second)) a b d = b second.1
if-reached c test holds other (inr (inr third)) a b d = d third

-- what is reached in several goals and one more
reached-append : (c : Callee) (gs : List GoalTree) (g : GoalTree) → ReachesInAll c (goals_of (gs ++ g ∷ [])) → ReachesInAll c (goals_of gs) ⊎ Reaches c g
unfolding Reaches
reached-append c [] g (inl last) = inr last
reached-append c [] g (inr none) = absurd none.1
reached-append c (h ∷ gs) g (inl first) = inl (inl first)
reached-append c (h ∷ gs) g (inr later) = go (reached-append c gs g later.1)
  where
    go : ReachesInAll c (goals_of gs) ⊎ Reaches c g → ReachesInAll c (goals_of (h ∷ gs)) ⊎ Reaches c g
    go (inl rest) = inl (inr (later.0, rest))
    go (inr last) = inr last

as-turn : (c : Callee) (gs : List GoalTree) → ReachesInAll c (goals_of gs) → Reaches c (in_turn gs)
unfolding Reaches
as-turn c [] at = absurd at
as-turn c (g ∷ []) (inl first) = first
as-turn c (g ∷ []) (inr later) = absurd later.1
as-turn c (g ∷ g' ∷ gs) at = at

from-turn : (c : Callee) (gs : List GoalTree) → Reaches c (in_turn gs) → ReachesInAll c (goals_of gs)
unfolding Reaches
from-turn c [] at = absurd at
from-turn c (g ∷ []) at = inl at
from-turn c (g ∷ g' ∷ gs) at = at

pub turn-reached : (c : Callee) (gs : List GoalTree) (g : GoalTree) → Reaches c (in_turn (gs ++ g ∷ [])) → {A : Type 0} → (Reaches c (in_turn gs) → A) → (Reaches c g → A) → A
turn-reached c gs g at {A} first last = go (reached-append c gs g (from-turn c (gs ++ g ∷ []) at))
  where
    go : ReachesInAll c (goals_of gs) ⊎ Reaches c g → A
    go (inl one) = first (as-turn c gs one)
    go (inr two) = last two
