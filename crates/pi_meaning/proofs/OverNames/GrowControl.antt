-- More depth only adds: calls and forms of control, over whatever grows with the depth.
use Rattle.std.proofs.Common.{ℕ, zero, suc, List, [], ◌∷◌}
use Rattle.std.specs.Prelude.{Option, Some, None}
use Rattle.pi_terms.specs.Tree.{Tree, Trees}
use Rattle.pi_traces.specs.Trace.{Trace, done, one}
use Rattle.pi_traces.specs.Depth.{Below}
use Rattle.pi_traces.proofs.BelowLemmas.{below-refl, below-alt, below-then, below-first, below-negated, below-chosen, below-collected, below-counted, below-caught}
use Rattle.pi_meaning.specs.Shared.Level.{Level, LevelBelow}
use Rattle.pi_meaning.proofs.CoreMeaning.MeaningLemmas.{calls-below}
use Rattle.pi_meaning.specs.OverNames.Place.{Place, at_state}
use Rattle.pi_meaning.specs.OverNames.Assigning.{place_of}
use Rattle.pi_meaning.specs.Shared.Given.{Setting, LaterOnlyAdds}
use Rattle.pi_meaning.proofs.Shared.CallLemmas.{predicate-below, function-below, handling-below, first-below}
use Rattle.pi_meaning.specs.OverNames.Control.{Goal, Value, Values, behind_all, draining, strictly, in_front, made_of, made_onto, applied_to, all_found, all_counted, called_with, calling_term, following, choosing, Arrow, branch_before, denying, taken_once, assigning, catching, goal_at, value_at}

-- it does the same and maybe more at a higher level
abbrev pub Grows : {X : Type 0} → (Level → Place → Trace X) → Type 0
Grows f = (l m : Level) → LevelBelow l m → (p : Place) → Below (f l p) (f m p)

pub stays : {X : Type 0} (f : Place → Trace X) → Grows (λ l p. f p)
stays f l m b p = below-refl (f p)

-- ---- draining

pub draining-grows : (g : Goal) → Grows g → Grows (draining g)
unfolding draining
draining-grows g grows l m b p = below-then _ _ _ _ ((calls-below l m b).drained p.state) (λ s. grows l m b (at_state p s))

pub strictly-grows : (g : Goal) → Grows g → Grows (strictly g)
unfolding strictly
strictly-grows g grows l m b p = below-then _ _ _ _ (grows l m b p) (draining-grows (λ m q. one q) (stays (λ q. one q)) l m b)

-- ---- values

pub front-grows : (v : Value) (vs : Values) → Grows v → Grows vs → Grows (in_front v vs)
front-grows v vs grows more l m b p = below-then _ _ _ _ (grows l m b p) (λ x. below-then _ _ _ _ (more l m b (place_of x)) (λ all. below-refl _))

pub made-grows : (make : Trees → Tree) (vs : Values) → Grows vs → Grows (made_of make vs)
made-grows make vs grows l m b p = below-then _ _ _ _ (grows l m b p) (λ all. below-refl _)

pub onto-grows : (make : Trees → Tree → Tree) (vs : Values) (v : Value) → Grows vs → Grows v → Grows (made_onto make vs v)
onto-grows make vs v grows more l m b p = below-then _ _ _ _ (grows l m b p) (λ all. below-then _ _ _ _ (more l m b (behind_all all)) (λ x. below-refl _))

pub applied-grows : (set : Setting) (name : List ℕ) (vs : Values) → Grows vs → Grows (applied_to set name vs)
unfolding applied_to
applied-grows set name vs grows l m b p =
    below-then _ _ _ _ (grows l m b p) (λ all. below-then _ _ _ _ (function-below set l m b name all.trees all.state) (λ a. below-refl _))

pub found-grows : (v : Value) (g : Goal) → Grows v → Grows g → Grows (all_found v g)
unfolding all_found
found-grows v g grows more l m b p =
    below-collected _ _ (λ t. t) _ _ (below-then _ _ _ _ (below-then _ _ _ _ (strictly-grows g more l m b p) (grows l m b)) (λ x. below-refl _)) (λ ts. below-refl _)

pub counted-grows : (g : Goal) → Grows g → Grows (all_counted g)
unfolding all_counted
counted-grows g grows l m b p = below-counted _ _ _ _ (strictly-grows g grows l m b p) (λ n. below-refl _)

-- ---- goals

pub called-grows : (set : Setting) → LaterOnlyAdds set.later → (name : List ℕ) (vs : Values) → Grows vs → Grows (called_with set name vs)
unfolding called_with
called-grows set adds name vs grows l m b p =
    below-then _ _ _ _ (grows l m b p) (λ all. below-then _ _ _ _ (predicate-below set adds l m b name all.trees all.state) (λ s. below-refl _))

pub calling-grows : (set : Setting) → LaterOnlyAdds set.later → (vs : Values) → Grows vs → Grows (calling_term set vs)
unfolding calling_term
calling-grows set adds vs grows l m b p =
    below-then _ _ _ _ (grows l m b p) (λ all. below-then _ _ _ _ (first-below set adds l m b all.trees all.state) (λ s. below-refl _))

pub following-grows : (g h : Goal) → Grows g → Grows h → Grows (following g h)
following-grows g h grows more l m b p = below-then _ _ _ _ (grows l m b p) (more l m b)

pub choosing-grows : (test holds other : Goal) → Grows test → Grows holds → Grows other → Grows (choosing test holds other)
unfolding choosing
choosing-grows test holds other a c d l m b p = below-chosen _ _ _ _ _ _ (strictly-grows test a l m b p) (c l m b) (d l m b p)

pub denying-grows : (g : Goal) → Grows g → Grows (denying g)
unfolding denying
denying-grows g grows l m b p = below-negated _ _ p (strictly-grows g grows l m b p)

pub once-grows : (g : Goal) → Grows g → Grows (taken_once g)
unfolding taken_once
once-grows g grows l m b p = below-first _ _ (strictly-grows g grows l m b p)

pub assigning-grows : (name : Option (List ℕ)) (v : Value) → Grows v → Grows (assigning name v)
assigning-grows name v grows l m b p = below-then _ _ _ _ (grows l m b p) (λ x. below-refl _)

pub catching-grows : (g : Goal) (ball : Value) (handler : Goal) → Grows g → Grows ball → Grows handler → Grows (catching g ball handler)
unfolding catching
catching-grows g ball handler a c d l m b p =
    below-then _ _ _ _ (c l m b p) (λ x. below-caught _ _ _ _ (strictly-grows g a l m b (place_of x))
    (handling-below x.state x.tree _ _ (λ s. d l m b (at_state (place_of x) s))))

-- a branch with an arrow
pub data ArrowGrows : Option Arrow → Type 0 where
  no_arrow : ArrowGrows None
  an_arrow : (a : Arrow) → Grows a.test → Grows a.body → ArrowGrows (Some a)

pub branch-grows : (o : Option Arrow) (g others : Goal) → ArrowGrows o → Grows g → Grows others → Grows (branch_before o g others)
branch-grows None g others no_arrow a c l m b p = below-alt _ _ _ _ (a l m b p) (c l m b p)
branch-grows (Some arrow) g others (an_arrow _ t h) a c l m b p = choosing-grows arrow.test arrow.body others t h c l m b p

-- those at places
abbrev pub AllGrow : {X : Type 0} → List (Level → Place → Trace X) → Type 0
AllGrow [] = Unit {0}
AllGrow (f ∷ fs) = Grows f × AllGrow fs

pub goal-at-grows : (gs : List Goal) (i : ℕ) → AllGrow gs → Grows (goal_at gs i)
unfolding goal_at
goal-at-grows [] i h = stays (λ p. done)
goal-at-grows (g ∷ gs) zero h = h.0
goal-at-grows (g ∷ gs) (suc i) h = goal-at-grows gs i h.1

pub value-at-grows : (vs : List Value) (i : ℕ) → AllGrow vs → Grows (value_at vs i)
unfolding value_at
value-at-grows [] i h = stays (λ p. done)
value-at-grows (v ∷ vs) zero h = h.0
value-at-grows (v ∷ vs) (suc i) h = value-at-grows vs i h.1
