-- What goals of constraints leave, by what holds of each kind of goal. None of them writes.
use Rattle.std.specs.Prelude.{◌≡◌, ℕ, Bool, true, false, List, Option, Some, None, Result, Ok, Err, codes, ⊤, refl}
use Rattle.pi_terms.specs.Tree.{Tree, comp, Trees, no_trees, tree}
use Rattle.pi_constraints.specs.declared.constraint.Item.{Item}
use Rattle.pi_constraints.specs.declared.domain.Span.{Span}
use Rattle.pi_constraints.specs.State.{State, bindings}
use Rattle.pi_effects.specs.Answer.{Answer}
use Rattle.pi_effects.specs.Effect.{Effect, Succeeds, Fails, Writes, Raises, succeeds_in}
use Rattle.pi_effects.proofs.RowLemmas.{LinesGive, lines-give}
use Rattle.pi_prop_spec.specs.Steps.{Refusal}
use Rattle.pi_prop_spec.specs.Postings.{Posting, posting_in}
use Rattle.pi_settling.specs.Asked.{Flat, flat, no_item, flat_items}
use Rattle.pi_settling.specs.Goals.{constraint_goals, constraint_effect}
use Rattle.pi_settling.specs.Posted.{posted_in, effect_of_posting, posting_goal}
use Rattle.pi_settling.specs.RightSide.{side_domain}
use Rattle.pi_settling.specs.Within.{each_item, item_in, item_not_in, left_side, by_domain, within_goal, notin_goal}
use Rattle.pi_meaning.proofs.CoreMeaning.AnswersBelow.{◌&◌}

-- what is left is so, and nothing is written
abbrev pub LeavesSo : (State → Type 0) → Effect → Type 0
LeavesSo P (Succeeds r) = P r
LeavesSo P Fails = ⊤
LeavesSo P (Writes text r) = ⊥
LeavesSo P (Raises ball) = ⊤

-- ---- each kind of goal

option-leaves : (P : State → Type 0) (o : Option State) → ((r : State) → succeeds_in o ≡ Succeeds r → P r) → LeavesSo P (succeeds_in o)
option-leaves P None h = tt
option-leaves P (Some r) h = h r refl

side-leaves : (P : State → Type 0) (s : State) (x : Flat) (f : State → Item → Option State) → ((r : State) → left_side s x f ≡ Succeeds r → P r) → LeavesSo P (left_side s x f)
side-leaves P s (no_item t) f h = tt
side-leaves P s (flat xs) f h = option-leaves P (each_item f xs s) h

domain-leaves : (P : State → Type 0) (s : State) (t : Tree) (d : Answer (List Span)) (f : List Span → State → Item → Option State) → ((r : State) → by_domain s t d f ≡ Succeeds r → P r) → LeavesSo P (by_domain s t d f)
domain-leaves P s t (Err ball) f h = tt
domain-leaves P s t (Ok d) f h = side-leaves P s (flat_items (bindings s) t) (f d) h

pub within-leaves : (P : State → Type 0) (s : State) (t u : Tree) → ((r : State) → within_goal s t u ≡ Succeeds r → P r) → LeavesSo P (within_goal s t u)
within-leaves P s t u h = domain-leaves P s t (side_domain true s u) item_in h

pub notin-leaves : (P : State → Type 0) (s : State) (t u : Tree) → ((r : State) → notin_goal s t u ≡ Succeeds r → P r) → LeavesSo P (notin_goal s t u)
notin-leaves P s t u h = domain-leaves P s t (side_domain false s u) item_not_in h

pub posting-leaves : (P : State → Type 0) (s : State) (t : Tree) → ((r : State) → posting_goal s t ≡ Succeeds r → P r) → LeavesSo P (posting_goal s t)
posting-leaves P s t h = by (posting_in s t) h
  where
    by : (o : Result Posting Refusal) → ((r : State) → effect_of_posting s o ≡ Succeeds r → P r) → LeavesSo P (effect_of_posting s o)
    by (Err r) h = tt
    by (Ok p) h = h (posted_in s p) refl

-- ---- all of them, where what is left goes by no argument

pub goals-leave : (P : State → Type 0) (s : State) → ((t u : Tree) (r : State) → within_goal s t u ≡ Succeeds r → P r) → ((t u : Tree) (r : State) → notin_goal s t u ≡ Succeeds r → P r) →
    ((t : Tree) (r : State) → posting_goal s t ≡ Succeeds r → P r) → (name : List ℕ) (ts : Trees) (e : Effect) → constraint_effect name ts s ≡ Some e → LeavesSo P e
unfolding constraint_goals
goals-leave P s within notin posted name ts e is = lines-give (LeavesSo P) constraint_goals name ts s e lines is
  where
    one : (f : List ℕ) (t : Tree) → LeavesSo P (posting_goal s (comp f (tree t no_trees)))
    one f t = posting-leaves P s (comp f (tree t no_trees)) (posted (comp f (tree t no_trees)))

    two : (f : List ℕ) (t u : Tree) → LeavesSo P (posting_goal s (comp f (tree t (tree u no_trees))))
    two f t u = posting-leaves P s (comp f (tree t (tree u no_trees))) (posted (comp f (tree t (tree u no_trees))))

    three : (f : List ℕ) (t u w : Tree) → LeavesSo P (posting_goal s (comp f (tree t (tree u (tree w no_trees)))))
    three f t u w = posting-leaves P s (comp f (tree t (tree u (tree w no_trees)))) (posted (comp f (tree t (tree u (tree w no_trees)))))

    lines : LinesGive (LeavesSo P) s constraint_goals
    lines =
        (λ t u. within-leaves P s t u (within t u)) &
        (λ t u. notin-leaves P s t u (notin t u)) &
        two (codes "#=") &
        two (codes "#!=") &
        two (codes "#<") &
        two (codes "#=<") &
        two (codes "#<=") &
        two (codes "#>") &
        two (codes "#>=") &
        one (codes "#~") &
        two (codes "#/\\") &
        two (codes "#\\/") &
        two (codes "#^") &
        two (codes "#=>") &
        two (codes "#<=>") &
        one (codes "all_different") &
        one (codes "all_distinct") &
        three (codes "element") &
        tt
