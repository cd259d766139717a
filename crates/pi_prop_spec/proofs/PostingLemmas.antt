-- What a posting says, and that it may be posted.
use Rattle.std.specs.Prelude.{◌≡◌, ◌↔◌, ℕ, ◌+◌, ◌-◌, ◌<◌, ◌≤◌, List, [], ◌∷◌, map, ℤ, Option, Some, None, IsSomeAnd, Contains, Result, Ok, Err, refl}
use Rattle.std.proofs.Common.{arith, ◌∙◌, ap, sym, subst}
use Rattle.pi_terms.specs.Tree.{Tree, var, int, atom, comp}
use Rattle.pi_terms.specs.Variables.{Occurs}
use Rattle.pi_constraints.specs.Constraint.{SpeaksOf, IsWithinLimits}
use Rattle.pi_prop_spec.specs.Solutions.{AreDifferent}
use Rattle.pi_constraints.specs.State.{SpeaksBelow}
use Rattle.pi_effects.specs.Items.{collection_items}
use Rattle.pi_prop_spec.specs.Operands.{Goal, relates, is_so, all_different, all_distinct, element, no_constraint}
use Rattle.pi_prop_spec.specs.Terms.{operand_of, goal_of}
use Rattle.pi_prop_spec.specs.Steps.{Refusal, Made, Known}
use Rattle.pi_prop_spec.specs.Limits.{first_refusal}
use Rattle.pi_prop_spec.specs.Postings.{Posting, read_goal, nothing_made, posting_unless, finished, posting_of}
use Rattle.pi_prop_spec.specs.Says.{operand_value, item_value, IsItemWith, Says, AllHold, AgreeBelow}
use Rattle.pi_prop_spec.specs.PostingLaws.{OperandsHaveTheirValues, PostingsSayTheSame, NewValuesAreGiven, PostingsMayBePosted}
use Rattle.pi_prop_spec.proofs.GrowLemmas.{AreFormed}
use Rattle.pi_prop_spec.proofs.OperandLemmas.{SumRead, operand-read}
use Rattle.pi_prop_spec.proofs.RelationLemmas.{relations_agree, Posts, relation-posts}
use Rattle.pi_prop_spec.proofs.BooleanLemmas.{truths_agree, truth-posts}
use Rattle.pi_prop_spec.proofs.ListLemmas.{AllBelow, SomeBelow, items_below, different-posts, distinct-posts, element-posts}
use Rattle.pi_prop_spec.proofs.LimitLemmas.{all_kept}
use Rattle.pi_prop_spec.proofs.TermLemmas.{operand-below, GoalBelow, goal-below}

-- ---- a goal says the same of values that agree

item_values_agree : (n : ℕ) (t : Tree) (a b : ℕ → ℤ) → SpeaksBelow n t → AgreeBelow n a b → item_value b t ≡ item_value a t
unfolding Occurs
item_values_agree n (var m) a b s g = g m (s m refl)
item_values_agree n (int i) a b s g = refl
item_values_agree n (atom name) a b s g = refl
item_values_agree n (comp name ts) a b s g = refl

each_agrees : (n : ℕ) (ts : List Tree) (a b : ℕ → ℤ) → AllBelow n ts → AgreeBelow n a b → map (item_value b) ts ≡ map (item_value a) ts
unfolding AllBelow
each_agrees n [] a b s g = refl
each_agrees n (t ∷ ts) a b s g = let first = item_values_agree n t a b s.0 g in let rest = each_agrees n ts a b s.1 g in (λ i. first i ∷ rest i)

-- of the items of a list or an array
items_agree : (n : ℕ) (o : Option (List Tree)) (a b : ℕ → ℤ) (P : List ℤ → Type 0) → SomeBelow n o → AgreeBelow n a b → IsSomeAnd o (λ ts. P (map (item_value b) ts)) → IsSomeAnd o (λ ts. P (map (item_value a) ts))
items_agree n None a b P s g h = h
items_agree n (Some ts) a b P s g h = subst P (each_agrees n ts a b s g) h

says_agrees : (n : ℕ) (g : Goal) (a b : ℕ → ℤ) → GoalBelow n g → AgreeBelow n a b → Says b g → Says a g
unfolding GoalBelow
says_agrees n (relates c x y) a b s g h = sym (relations_agree n c x y a b s.0 s.1 g) ∙ h
says_agrees n (is_so e) a b s g h = sym (truths_agree n e a b s g) ∙ h
says_agrees n (all_different t) a b s g h = items_agree n (collection_items [] t) a b AreDifferent (items_below n t s) g h
says_agrees n (all_distinct t) a b s g h = items_agree n (collection_items [] t) a b AreDifferent (items_below n t s) g h
says_agrees n (element i l v) a b s g h =
    items_agree n (collection_items [] l) a b (λ vs. IsItemWith vs (item_value a i) (item_value a v)) (items_below n l s.1) g
    (subst (λ (x : ℤ). IsSomeAnd (collection_items [] l) (λ ts. IsItemWith (map (item_value b) ts) x (item_value a v))) (item_values_agree n i a b s.0 g)
    (subst (λ (x : ℤ). IsSomeAnd (collection_items [] l) (λ ts. IsItemWith (map (item_value b) ts) (item_value b i) x)) (item_values_agree n v a b s.2 g) h))
says_agrees n (no_constraint t) a b s g h = absurd h

-- ---- a goal that was read

goal-posts : (n : ℕ) (g : Goal) (m : Made) (l : Known (Unit {0})) → GoalBelow n g → n ≤ m.unused → read_goal g m ≡ Ok l → Posts m l (λ a. Says a g)
unfolding GoalBelow
goal-posts n (relates c x y) m l s b e = relation-posts n c x y m l s.0 s.1 b e
goal-posts n (is_so t) m l s b e = truth-posts n t m l s b e
goal-posts n (all_different t) m l s b e = different-posts n t m l s b e
goal-posts n (all_distinct t) m l s b e = distinct-posts n t m l s b e
goal-posts n (element i t v) m l s b e = element-posts n i t v m l s.0 s.1 s.2 b e
goal-posts n (no_constraint t) m l s b e = absurd cc

-- ---- a posting

record Made-by (n : ℕ) (g : Goal) (p : Posting) : Type 0 where
  known : Known (Unit {0})
  read : read_goal g (nothing_made n) ≡ Ok known
  kept : first_refusal known.made.constraints ≡ None
  same : record { fresh = known.made.unused - n; list = known.made.constraints } ≡ p

posting_or : Posting → Result Posting Refusal → Posting
posting_or p (Err r) = p
posting_or p (Ok q) = q

posted : (n : ℕ) (g : Goal) (p : Posting) → posting_of n g ≡ Ok p → Made-by n g p
unfolding posting_or
posted n g p e = by (read_goal g (nothing_made n)) refl e
  where
    unless : (k : Known (Unit {0})) (o : Option Refusal) → read_goal g (nothing_made n) ≡ Ok k → first_refusal k.made.constraints ≡ o → posting_unless o n k.made ≡ Ok p → Made-by n g p
    unless k (Some r) f h e = absurd cc
    unless k None f h e = record { known = k; read = f; kept = h; same = ap (posting_or p) e }

    by : (o : Result (Known (Unit {0})) Refusal) → read_goal g (nothing_made n) ≡ o → finished n o ≡ Ok p → Made-by n g p
    by (Err r) f e = absurd cc
    by (Ok k) f e = unless k (first_refusal k.made.constraints) f refl e

-- what it posts, over the variables of its term
posts_of : (n : ℕ) (t : Tree) (p : Posting) → SpeaksBelow n t → (k : Made-by n (goal_of t) p) → Posts (nothing_made n) k.known (λ a. Says a (goal_of t))
posts_of n t p s k = goal-posts n (goal_of t) (nothing_made n) k.known (goal-below n t s) (omega arith) k.read

pub operands_have_their_values : OperandsHaveTheirValues
unfolding AreFormed AllHold
operands_have_their_values n t k s e =
    let r : SumRead (nothing_made n) k (λ a. operand_value a (operand_of t)) = operand-read n (operand_of t) (nothing_made n) k (operand-below n t s) (omega arith) e in
    (r.value, λ a. r.grows.extends tt a tt tt)

pub postings_say_the_same : PostingsSayTheSame
unfolding AreFormed AllHold
postings_say_the_same n t p s e a =
    let k : Made-by n (goal_of t) p = posted n (goal_of t) p e in
    let r : Posts (nothing_made n) k.known (λ a. Says a (goal_of t)) = posts_of n t p s k in
    subst (λ (q : Posting). Says a (goal_of t) ↔ ((b : ℕ → ℤ) × AgreeBelow n a b × AllHold q.list b)) k.same
    ((λ h. r.grows.extends tt a h tt), (λ h. says_agrees n (goal_of t) a h.0 (goal-below n t s) h.1 (r.says h.0 h.2)))

all_numbers : (n m : ℕ) → n ≤ m → n + (m - n) ≡ m
all_numbers n m h = omega (arith, h)

pub new_values_are_given : NewValuesAreGiven
new_values_are_given n t p s e a b g h i =
    let k : Made-by n (goal_of t) p = posted n (goal_of t) p e in
    let r : Posts (nothing_made n) k.known (λ a. Says a (goal_of t)) = posts_of n t p s k in
    let all : AgreeBelow k.known.made.unused a b =
    r.grows.given a b g (subst (λ (q : Posting). AllHold q.list a) (sym k.same) h) (subst (λ (q : Posting). AllHold q.list b) (sym k.same) i) in
    subst (λ (q : Posting). AgreeBelow (n + q.fresh) a b) k.same (subst (λ (m : ℕ). AgreeBelow m a b) (sym (all_numbers n k.known.made.unused r.grows.more)) all)

pub postings_may_be_posted : PostingsMayBePosted
unfolding AreFormed
postings_may_be_posted n t p s e c h =
    let k : Made-by n (goal_of t) p = posted n (goal_of t) p e in
    let r : Posts (nothing_made n) k.known (λ a. Says a (goal_of t)) = posts_of n t p s k in
    let there = subst (λ (q : Posting). Contains q.list c) (sym k.same) h in
    let kept = all_kept k.known.made.unused k.known.made.constraints c (r.grows.formed tt) k.kept there in
    subst (λ (q : Posting). IsWithinLimits c × ((m : ℕ) → SpeaksOf c m → m < n + q.fresh)) k.same
    (kept.0, λ m o. subst (λ (w : ℕ). m < w) (sym (all_numbers n k.known.made.unused r.grows.more)) (kept.1 m o))
