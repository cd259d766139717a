-- Constraints are read rightly, so that `solve` with an objective gives the best.
use Rattle.std.specs.Prelude.{◌≡◌, ◌⊎◌, ◌↔◌, ℕ, zero, suc, ◌+◌, ◌-◌, ◌<◌, ◌≤◌, ℤ, ◌<ℤ◌, int_lt, Bool, true, false, List, [], ◌∷◌, map, Option, Some, None, Contains, Result, Ok, Err, refl}
use Rattle.std.proofs.Common.{arith, sym, ◌∙◌, ap, subst, inl, inr}
use Rattle.std.proofs.lemmas.Int.{ints}
use Rattle.pi_terms.specs.Tree.{Tree, int, comp, no_trees, tree}
use Rattle.pi_terms.specs.Variables.{Occurs}
use Rattle.pi_terms.specs.Substitution.{instance}
use Rattle.pi_constraints.specs.declared.constraint.Constraint.{Constraint}
use Rattle.pi_constraints.specs.declared.constraint.Item.{Item}
use Rattle.pi_constraints.specs.Value.{value}
use Rattle.pi_constraints.specs.State.{State, bindings, next, SpeaksBelow}
use Rattle.pi_constraints.proofs.ValueLemmas.{value_goes_by_variables}
use Rattle.pi_traces.specs.Trace.{end, Raise, one}
use Rattle.pi_constraints.specs.Domain.{IsWithinBounds}
use Rattle.pi_prop_spec.specs.Places.{places_of}
use Rattle.pi_prop_spec.specs.Solutions.{value_of, Holds}
use Rattle.pi_prop_spec.specs.Operands.{Operand, number, Comparison, less, greater, relates}
use Rattle.pi_prop_spec.specs.Terms.{operand_of, comparison_named, boolean_of, goal_of}
use Rattle.pi_prop_spec.specs.PostingSums as Sums
use Rattle.pi_prop_spec.specs.Steps.{Refusal, Known, read_operand}
use Rattle.pi_prop_spec.specs.Relations.{posts_relation}
use Rattle.pi_prop_spec.specs.Limits.{first_refusal}
use Rattle.pi_prop_spec.specs.Says.{operand_value, Says, AllHold, AgreeBelow}
use Rattle.pi_prop_spec.specs.Postings.{Posting, read_goal, nothing_made, posting_unless, posting_in, raised_by}
use Rattle.pi_prop_spec.proofs.PostingLemmas.{operands_have_their_values, postings_say_the_same}
use Rattle.pi_settling.specs.Solves.{Solves}
use Rattle.pi_settling.specs.Confined.{confined}
use Rattle.pi_settling.specs.Posted.{posted_in}
use Rattle.pi_settling.specs.Reading.{reads, refuses}
use Rattle.pi_settling.specs.Reading as Readings
use Rattle.pi_settling.specs.Read.{operand_as, operand_read, operand_in, relation_trace, relation_in}
use Rattle.pi_settling.specs.Rounds.{better_sign}
use Rattle.pi_settling.proofs.SettleLemmas.{settled_settles}
use Rattle.pi_settling.proofs.StableLemmas.{root-value}
use Rattle.pi_label_laws.specs.Made.{MayLabel}
use Rattle.pi_label_laws.specs.LabelledLaws.{AreAmong}
use Rattle.pi_label_laws.specs.SolutionLaws.{call_of}
use Rattle.pi_label_laws.specs.ObjectiveLaws.{PostsMore, IsBetter, value_by, expression_value, NewValuesFit, ReadingIsRight, SolveGivesTheBest}
use Rattle.pi_label_laws.proofs.AlikeLemmas.{values-same}
use Rattle.pi_label_laws.proofs.BeginLemmas.{asked-good}
use Rattle.pi_label_laws.proofs.BestLemmas.{objective_gives_the_best}
use Rattle.pi_label_laws.proofs.DefaultLemmas.{confined-down}
use Rattle.pi_label_laws.proofs.LabelledLemmas.{PostsNew}
use Rattle.pi_label_laws.proofs.NewGoals.{WasRead, was-read}
use Rattle.pi_label_laws.proofs.OperandPosts.{OperandWasRead, operand-posts}
use Rattle.pi_label_laws.proofs.PostedLemmas.{value-below, posted-made, goal-posts}
use Rattle.pi_label_laws.proofs.PostsMoreLemmas.{posts-more}
use Rattle.pi_label_laws.proofs.RelationNews.{OperandFirst, relation-operand}
use Rattle.pi_label_laws.proofs.RoundLemmas.{AllGood}
use Rattle.pi_label_laws.proofs.WordLemmas.{expression-below}
use Rattle.pi_label_laws.proofs.WorthLemmas.{value-found, worth-of}

-- an expression over the items of a call
record IsOver (s : State) (items : List Item) (t : Tree) : Type 0 where
  labels : MayLabel s items
  good : AllGood s items
  below : SpeaksBelow (next s) t
  among : AreAmong s items t
  fits : NewValuesFit s items t

-- all of a list hold
hold-at : (cs : List Constraint) (a : ℕ → ℤ) → AllHold cs a → (c : Constraint) → Contains cs c → Holds c a
unfolding AllHold
hold-at [] a h c (k, l, e) = absurd (omega arith)
hold-at (d ∷ cs) a h c (zero, l, e) = subst (λ (x : Constraint). Holds x a) e h.0
hold-at (d ∷ cs) a h c (suc k, l, e) = hold-at cs a h.1 c (k, omega arith, e)

all-hold : (cs : List Constraint) (a : ℕ → ℤ) → ((c : Constraint) → Contains cs c → Holds c a) → AllHold cs a
unfolding AllHold
all-hold [] a h = tt
all-hold (c ∷ cs) a h = (h c (0, omega arith, refl), all-hold cs a (λ d at. h d (suc at.0, omega (arith, at.1), at.2)))

-- ---- the value by an assignment

value-is : (s : State) (items : List Item) (t : Tree) (a : ℕ → ℤ) → IsOver s items t → Solves (confined s items) a → expression_value s items t (map (value_of a) items) ≡ operand_value a (operand_of (value (bindings s) t))
value-is s items t a over h =
    let there : Solves s a = confined-down items s a h in
    values-same (value_by s items (map (value_of a) items)) a (value (bindings s) t) (λ n o.
    let x = over.among n o in value-found s (value_of a) (a n) n items (λ y at root. sym (root-value s a there y) ∙ ap (value_of a) root) x.0 x.1 x.2)

-- ---- the first round

new-fits : (s : State) (items : List Item) (t : Tree) (p : Posting) (k : Known Sums.Sum) (a b : ℕ → ℤ) (c : Constraint) (w : ℕ) → IsOver s items t → PostsNew s (posted_in s p) items p.list →
    read_operand (operand_of (value (bindings s) t)) (nothing_made (next s)) ≡ Ok k → k.made.unused - next s ≡ p.fresh → Solves (confined s items) a → AgreeBelow (next s) a b → AllHold k.made.constraints b →
    Contains p.list c → Contains (places_of c) (Item.Var w) → next s ≤ w → IsWithinBounds (b w)
new-fits s items t p k a b c w over new read many h agree hold at place past =
    let high : w < next s + p.fresh = posted-made s p c w over.labels.state new.after (new.free c w at place) at place in
    over.fits k read a b h agree hold w past (omega (arith, high, many, past))

first-posts : (s : State) (items : List Item) (t : Tree) (k : Known Sums.Sum) → IsOver s items t → read_operand (operand_of (value (bindings s) t)) (nothing_made (next s)) ≡ Ok k → first_refusal k.made.constraints ≡ None →
    PostsMore s (posted_in s (record { fresh = k.made.unused - next s; list = k.made.constraints })) items (λ values. Unit {0})
first-posts s items t k over read kept =
    let p : Posting = record { fresh = k.made.unused - next s; list = k.made.constraints } in
    let m : MayLabel s items = over.labels in
    let w : OperandWasRead s t p = record { known = k; read = read; kept = kept; fresh = refl; list = refl } in
    let new : PostsNew s (posted_in s p) items p.list = operand-posts s items t p m.state m.settles over.below over.among w in
    let law = operands_have_their_values (next s) (value (bindings s) t) k (value-below s t m.state over.below) read in
    posts-more s items p (λ values. Unit {0}) m over.good new (λ a h holds. tt) (λ a h left.
    let b = law.1 a in
    record {
      values = b.0;
      agrees = b.1;
      holds = hold-at p.list b.0 b.2;
      bounded = λ c v at place past. new-fits s items t p k a b.0 c v over new read refl h b.1 b.2 at place past;
    })

first-right : (s : State) (items : List Item) (t : Tree) → IsOver s items t →
    ((ball : Tree) × (operand_in t s ≡ refuses ball)) ⊎ ((q : State) × (sum : Readings.Sum) × (operand_in t s ≡ reads q sum) × PostsMore s q items (λ values. Unit {0}))
first-right s items t over = by (read_operand (operand_of (value (bindings s) t)) (nothing_made (next s))) refl
  where
    unless : (k : Known Sums.Sum) (r : Option Refusal) → read_operand (operand_of (value (bindings s) t)) (nothing_made (next s)) ≡ Ok k → first_refusal k.made.constraints ≡ r →
        ((ball : Tree) × (operand_as s (Ok k) (posting_unless r (next s) k.made) ≡ refuses ball))
        ⊎ ((q : State) × (sum : Readings.Sum) × (operand_as s (Ok k) (posting_unless r (next s) k.made) ≡ reads q sum) × PostsMore s q items (λ values. Unit {0}))
    unless k (Some r) read kept = inl (raised_by s r, refl)
    unless k None read kept = inr (posted_in s (record { fresh = k.made.unused - next s; list = k.made.constraints }), record { terms = k.what.terms; constant = k.what.constant }, refl, first-posts s items t k over read kept)

    by : (o : Result (Known Sums.Sum) Refusal) → read_operand (operand_of (value (bindings s) t)) (nothing_made (next s)) ≡ o →
        ((ball : Tree) × (operand_read s o ≡ refuses ball)) ⊎ ((q : State) × (sum : Readings.Sum) × (operand_read s o ≡ reads q sum) × PostsMore s q items (λ values. Unit {0}))
    by (Err r) read = inl (raised_by s r, refl)
    by (Ok k) read = unless k (first_refusal k.made.constraints) read refl

-- ---- the later rounds

comparison : Bool → Comparison
comparison false = less
comparison true = greater

-- the goal that the value is better than this
abbrev better_goal : Bool → Tree → ℤ → Tree
better_goal b t v = comp (better_sign b) (tree t (tree (int v) no_trees))

goal-is : (b : Bool) (u : Tree) (v : ℤ) → goal_of (better_goal b u v) ≡ relates (comparison b) (operand_of u) (number v)
unfolding goal_of boolean_of comparison_named operand_of comparison
goal-is false u v = refl
goal-is true u v = refl

value-of-goal : (s : State) (b : Bool) (t : Tree) (v : ℤ) → value (bindings s) (better_goal b t v) ≡ better_goal b (value (bindings s) t) v
unfolding instance
value-of-goal s b t v =
    value_goes_by_variables (bindings s) (better_goal b t v) ∙ ap (λ (u : Tree). better_goal b u v) (sym (value_goes_by_variables (bindings s) t))

goal-of-state : (s : State) (b : Bool) (t : Tree) (v : ℤ) → goal_of (value (bindings s) (better_goal b t v)) ≡ relates (comparison b) (operand_of (value (bindings s) t)) (number v)
goal-of-state s b t v = ap goal_of (value-of-goal s b t v) ∙ goal-is b (value (bindings s) t) v

less-is : (i j : ℤ) → (int_lt i j ≡ true) ↔ (i <ℤ j)
less-is i j = ((λ h. grind (arith, ints, h)), (λ h. grind (arith, ints, h)))

says-better : (b : Bool) (a : ℕ → ℤ) (x : Operand) (v : ℤ) → Says a (relates (comparison b) x (number v)) ↔ IsBetter b (operand_value a x) v
unfolding comparison operand_value
says-better false a x v = less-is (operand_value a x) v
says-better true a x v = less-is v (operand_value a x)

goal-below : (s : State) (b : Bool) (t : Tree) (v : ℤ) → SpeaksBelow (next s) t → SpeaksBelow (next s) (better_goal b t v)
unfolding Occurs
goal-below s b t v h m (inl o) = h m o
goal-below s b t v h m (inr (inl o)) = absurd o
goal-below s b t v h m (inr (inr o)) = absurd o

occurs-in : (b : Bool) (u : Tree) (v : ℤ) (n : ℕ) → Occurs n (better_goal b u v) → Occurs n u
unfolding Occurs
occurs-in b u v n (inl o) = o
occurs-in b u v n (inr (inl o)) = absurd o
occurs-in b u v n (inr (inr o)) = absurd o

goal-among : (s : State) (items : List Item) (b : Bool) (t : Tree) (v : ℤ) → AreAmong s items t → AreAmong s items (better_goal b t v)
goal-among s items b t v h n o = h n (occurs-in b (value (bindings s) t) v n (subst (Occurs n) (value-of-goal s b t v) o))

-- the operand of the goal was read as by itself
operand-first : (s : State) (b : Bool) (t : Tree) (v : ℤ) (p : Posting) (c : ℕ → ℤ) → posting_in s (better_goal b t v) ≡ Ok p → AllHold p.list c →
    (k : Known Sums.Sum) × (read_operand (operand_of (value (bindings s) t)) (nothing_made (next s)) ≡ Ok k) × AllHold k.made.constraints c × (k.made.unused - next s ≡ p.fresh)
operand-first s b t v p c e hold =
    let w : WasRead (next s) (goal_of (value (bindings s) (better_goal b t v))) p = was-read (next s) (goal_of (value (bindings s) (better_goal b t v))) p e in
    let read : posts_relation (comparison b) (operand_of (value (bindings s) t)) (number v) (nothing_made (next s)) ≡ Ok w.known = sym (ap (λ g. read_goal g (nothing_made (next s))) (goal-of-state s b t v)) ∙ w.read in
    let first : OperandFirst (operand_of (value (bindings s) t)) (nothing_made (next s)) w.known.made c =
    relation-operand (comparison b) (operand_of (value (bindings s) t)) v (nothing_made (next s)) w.known c read (subst (λ (q : Posting). AllHold q.list c) (sym w.same) hold) in
    (first.known, first.read, first.holds, ap (λ (n : ℕ). n - next s) (sym first.many) ∙ ap (λ (q : Posting). q.fresh) w.same)

later-posts : (s : State) (items : List Item) (b : Bool) (t : Tree) (v : ℤ) (p : Posting) → IsOver s items t → posting_in s (better_goal b t v) ≡ Ok p →
    PostsMore s (posted_in s p) items (λ values. IsBetter b (expression_value s items t values) v)
later-posts s items b t v p over e =
    let m : MayLabel s items = over.labels in
    let goal : Tree = better_goal b t v in
    let below : SpeaksBelow (next s) goal = goal-below s b t v over.below in
    let new : PostsNew s (posted_in s p) items p.list = goal-posts s items goal p m.state m.settles below (goal-among s items b t v over.among) e in
    let law : (a : ℕ → ℤ) → Says a (goal_of (value (bindings s) goal)) ↔ ((c : ℕ → ℤ) × AgreeBelow (next s) a c × AllHold p.list c) =
    λ a. postings_say_the_same (next s) (value (bindings s) goal) p (value-below s goal m.state below) e a in
    let x : Operand = operand_of (value (bindings s) t) in
    posts-more s items p (λ values. IsBetter b (expression_value s items t values) v) m over.good new
    (λ a h holds.
    let so : Says a (goal_of (value (bindings s) goal)) = (law a).1 (a, (λ k l. refl), all-hold p.list a holds) in
    let better : IsBetter b (operand_value a x) v = (says-better b a x v).0 (subst (Says a) (goal-of-state s b t v) so) in
    subst (λ (i : ℤ). IsBetter b i v) (sym (value-is s items t a over h)) better)
    (λ a h left.
    let better : IsBetter b (operand_value a x) v = subst (λ (i : ℤ). IsBetter b i v) (value-is s items t a over h) left in
    let so : Says a (goal_of (value (bindings s) goal)) = subst (Says a) (sym (goal-of-state s b t v)) ((says-better b a x v).1 better) in
    let c = (law a).0 so in
    let first = operand-first s b t v p c.0 e c.2 in
    record {
      values = c.0;
      agrees = c.1;
      holds = hold-at p.list c.0 c.2;
      bounded = λ d w at place past. new-fits s items t p first.0 a c.0 d w over new first.1 first.3 h c.1 first.2 at place past;
    })

later-right : (s : State) (items : List Item) (b : Bool) (t : Tree) (v : ℤ) → IsOver s items t →
    ((ball : Tree) × (relation_in (better_sign b) t (int v) s ≡ end (Raise ball)))
    ⊎ ((q : State) × (relation_in (better_sign b) t (int v) s ≡ one q) × PostsMore s q items (λ values. IsBetter b (expression_value s items t values) v))
later-right s items b t v over = by (posting_in s (better_goal b t v)) refl
  where
    by : (o : Result Posting Refusal) → posting_in s (better_goal b t v) ≡ o →
        ((ball : Tree) × (relation_trace s o ≡ end (Raise ball))) ⊎ ((q : State) × (relation_trace s o ≡ one q) × PostsMore s q items (λ values. IsBetter b (expression_value s items t values) v))
    by (Err r) e = inl (raised_by s r, refl)
    by (Ok p) e = inr (posted_in s p, refl, later-posts s items b t v p over e)

-- ---- calls

pub reading_is_right : ReadingIsRight
reading_is_right drains chosen items o s words vars asks below under m among fits =
    let over : IsOver s items o.expression = record { labels = m; good = asked-good s words vars chosen items m.state below asks; below = under; among = among; fits = fits } in
    record {
      first = first-right s items o.expression over;
      later = λ found has. later-right s items o.greatest o.expression (expression_value s items o.expression found) over;
      worth_is = λ r values is kept has told. worth-of s r items values o.expression m.state is kept among told;
    }

pub solve_gives_the_best : SolveGivesTheBest
solve_gives_the_best drains chosen items o s words vars asks has words_below below runs m among fits silent =
    let under : SpeaksBelow (next s) o.expression = expression-below s words vars chosen items o m.state words_below asks has in
    objective_gives_the_best (call_of drains chosen items) o s words vars (expression_value s items o.expression) asks has below settled_settles runs m
    (reading_is_right drains chosen items o s words vars asks below under m among fits) silent
