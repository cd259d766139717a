-- Labelling and searches do the same and maybe more at a higher level.
use Rattle.std.proofs.Common.{ℕ, zero, suc, ℤ, List, [], ◌∷◌}
use Rattle.std.specs.Prelude.{Option, Some, None, unwrap_or, option_map}
use Rattle.pi_terms.specs.Tree.{Trees, tree_count}
use Rattle.pi_constraints.specs.declared.constraint.Item.{Item}
use Rattle.pi_constraints.specs.State.{State}
use Rattle.pi_traces.specs.Trace.{Trace, end, Raise, Tick, done, one, then}
use Rattle.pi_traces.specs.Depth.{Below, deeper, same_note}
use Rattle.pi_traces.proofs.BelowLemmas.{below-refl, below-alt, below-then, below-chosen}
use Rattle.pi_settling.specs.Options.{Options, Objective}
use Rattle.pi_settling.specs.Asked.{Asked, labels, raises}
use Rattle.pi_settling.specs.SolveCalls.{solve_asked}
use Rattle.pi_settling.specs.Confined.{confined}
use Rattle.pi_settling.specs.Choices.{Pending, pending, picked, Alternative, alternatives, left_by, narrowed_to}
use Rattle.pi_settling.specs.Label.{Lower, tried, one_tried, all_tried, labelled_by}
use Rattle.pi_settling.specs.Rounds.{begins, betters, worth, weighed, count_better}
use Rattle.pi_meaning.specs.Shared.Settle.{settled}
use Rattle.pi_meaning.specs.Shared.Level.{Level, lowest, over, LevelBelow, calls_at}
use Rattle.pi_meaning.specs.Shared.Calls.{unknown_name}
use Rattle.pi_meaning.specs.Shared.Solve.{labelled_in, lower_in, plain, searching, round_in, bettered_in, sought_in, solved_for, solve_trace}
use Rattle.pi_meaning.specs.CoreMeaning.Instances.{solve_or_unknown}
use Rattle.pi_meaning.proofs.CoreMeaning.MeaningLemmas.{calls-below}

-- what is done at the next lower level, where there is one: the second maybe does more
abbrev LowerBelow : Option Lower → Option Lower → Type 0
LowerBelow None m = Unit {0}
LowerBelow (Some l) None = ⊥
LowerBelow (Some l) (Some m) = ((s : State) → Below (l.drains s) (m.drains s)) × ((s : State) → Below (l.labels s) (m.labels s))

tried-below : (l m : Lower) → LowerBelow (Some l) (Some m) → (s : State) (o : Option State) → Below (tried settled l s o) (tried settled m s o)
tried-below l m more s None = below-refl done
tried-below l m more s (Some r) =
    below-then (then (settled s r) l.drains) (then (settled s r) m.drains) l.labels m.labels (below-then (settled s r) (settled s r) l.drains m.drains (below-refl (settled s r)) more.0) more.1

one-below : (l m : Option Lower) → LowerBelow l m → (s : State) (o : Option State) → Below (one_tried settled l s o) (one_tried settled m s o)
one-below None m more s o = deeper (one_tried settled m s o)
one-below (Some l) None more s o = absurd more
one-below (Some l) (Some m) more s o = same_note Tick (tried-below l m more s o)

all-below : (l m : Option Lower) → LowerBelow l m → (s : State) (p : Pending) (alts : List Alternative) → Below (all_tried settled l s p alts) (all_tried settled m s p alts)
unfolding all_tried
all-below l m more s p [] = below-refl done
all-below l m more s p (a ∷ rest) =
    let left : Option State = narrowed_to s p.variable (left_by a p.domain) in
    below-alt (one_tried settled l s left) (one_tried settled m s left) (all_tried settled l s p rest) (all_tried settled m s p rest) (one-below l m more s left) (all-below l m more s p rest)

picked-below : (l m : Option Lower) → LowerBelow l m → (o : Options) (s : State) (p : Option Pending) → Below (labelled_by settled l o s p) (labelled_by settled m o s p)
picked-below l m more o s None = below-refl (one s)
picked-below l m more o s (Some p) = all-below l m more s p (alternatives o.value p.domain)

in-below : (o : Options) (items : List Item) (l m : Level) → LevelBelow l m → (s : State) → Below (labelled_in o items l s) (labelled_in o items m s)
unfolding labelled_in
in-below o items (lowest c) (lowest d) h s = below-refl (labelled_in o items (lowest c) s)
in-below o items (lowest c) (over d m) h s = picked-below None (lower_in o items (over d m)) tt o s (picked (pending s items) o.variable)
in-below o items (over c l) (lowest d) h s = absurd h
in-below o items (over c l) (over d m) h s =
    picked-below (lower_in o items (over c l)) (lower_in o items (over d m)) ((calls-below l m h.1).drained, in-below o items l m h.1) o s (picked (pending s items) o.variable)

-- ---- with an objective

round-below : (o : Options) (items : List Item) (l m : Level) → LevelBelow l m → (t : Trace State) → Below (round_in o items l t) (round_in o items m t)
round-below o items l m h t =
    below-then (then t (calls_at l).drained) (then t (calls_at m).drained) (λ s. labelled_in (plain o) items l (confined s items)) (λ s. labelled_in (plain o) items m (confined s items))
    (below-then t t (calls_at l).drained (calls_at m).drained (below-refl t) (calls-below l m h).drained) (λ s. in-below (plain o) items l m h (confined s items))

pub weighed-below : (b : Objective) (q : State) (w : Option ℤ) (f g : ℤ → Trace State) → ((v : ℤ) → Below (f v) (g v)) → Below (weighed b q w f) (weighed b q w g)
weighed-below b q None f g more = below-refl (weighed b q None f)
weighed-below b q (Some v) f g more = more v

-- so many later rounds: none of them takes from the level
bettered-below : (o : Options) (items : List Item) (b : Objective) (l m : Level) → LevelBelow l m → (s : State) (n : ℕ) (r : State) (v : ℤ) →
    Below (bettered_in o items b l s n r v) (bettered_in o items b m s n r v)
unfolding bettered_in
bettered-below o items b l m h s zero r v = below-refl (one r)
bettered-below o items b l m h s (suc n) r v =
    let better : Trace State = betters (searching o items) b v s in
    let value : State → Option ℤ = worth (searching o items) b in
    below-chosen (round_in o items l better) (round_in o items m better) (λ q. weighed b q (value q) (bettered_in o items b l s n q)) (λ q. weighed b q (value q) (bettered_in o items b m s n q)) (one r) (one r)
    (round-below o items l m h better)
    (λ q. weighed-below b q (value q) (bettered_in o items b l s n q) (bettered_in o items b m s n q) (λ w. bettered-below o items b l m h s n q w)) (below-refl (one r))

sought-below : (o : Options) (items : List Item) (b : Objective) (l m : Level) → LevelBelow l m → (s : State) → Below (sought_in o items b l s) (sought_in o items b m s)
sought-below o items b l m h s =
    let first : Trace State = begins (searching o items) b s in
    let value : State → Option ℤ = worth (searching o items) b in
    let low : State → ℤ → Trace State = λ q v. bettered_in o items b l s (count_better b.greatest v) q v in
    let high : State → ℤ → Trace State = λ q v. bettered_in o items b m s (count_better b.greatest v) q v in
    below-chosen (round_in o items l first) (round_in o items m first) (λ q. weighed b q (value q) (low q)) (λ q. weighed b q (value q) (high q)) done done
    (round-below o items l m h first) (λ q. weighed-below b q (value q) (low q) (high q) (λ v. bettered-below o items b l m h s (count_better b.greatest v) q v)) (below-refl done)

pub for-below : (w : Option Objective) (o : Options) (items : List Item) (l m : Level) → LevelBelow l m → (s : State) → Below (solved_for w o items l s) (solved_for w o items m s)
for-below None o items l m h s = in-below o items l m h (confined s items)
for-below (Some b) o items l m h s = sought-below o items b l m h s

asked-below : (a : Asked) (l m : Level) → LevelBelow l m → (s : State) → Below (solve_trace l s a) (solve_trace m s a)
asked-below (labels o items) l m h s = for-below o.objective o items l m h s
asked-below (raises ball) l m h s = below-refl (end (Raise ball))

pub solve-below : (l m : Level) → LevelBelow l m → (name : List ℕ) (ts : Trees) (s : State) → Below (solve_or_unknown l name ts s) (solve_or_unknown m name ts s)
solve-below l m h name ts s = by (solve_asked name ts s)
  where
    none : Trace State
    none = unknown_name name (tree_count ts)

    by : (o : Option Asked) → Below (unwrap_or (option_map (solve_trace l s) o) none) (unwrap_or (option_map (solve_trace m s) o) none)
    by None = below-refl none
    by (Some a) = asked-below a l m h s
