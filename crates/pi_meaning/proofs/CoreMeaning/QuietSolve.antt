-- Labelling lasts as long as its level counts: each alternative counts a Tick, and takes one from the level. So does a search, of which no round takes from the level.
use Rattle.std.proofs.Common.{ℕ, zero, suc, ℤ, ◌-◌, ◌≤◌, List, [], ◌∷◌, length, refl, subst, ◌≡◌, arith}
use Rattle.std.specs.Prelude.{Option, Some, None, option_map, unwrap_or, Result, Ok, Err}
use Rattle.pi_terms.specs.Tree.{int, Trees, tree_count}
use Rattle.pi_constraints.specs.declared.constraint.Item.{Item}
use Rattle.pi_constraints.specs.State.{State}
use Rattle.pi_core.specs.CoreTree.{PredTree}
use Rattle.pi_traces.specs.Trace.{Trace, end, note, ans, Tick, Load, Out, done, one, then}
use Rattle.pi_prop_spec.specs.Steps.{Refusal}
use Rattle.pi_prop_spec.specs.Postings.{Posting, posting_in, raised_by}
use Rattle.pi_settling.specs.Options.{Options, Objective}
use Rattle.pi_settling.specs.Asked.{Asked, labels, raises}
use Rattle.pi_settling.specs.Reading.{Operand, reads, refuses}
use Rattle.pi_settling.specs.Posted.{posted_in}
use Rattle.pi_settling.specs.Read.{operand_in, relation_trace, relation_in}
use Rattle.pi_settling.specs.Rounds.{operand_posted, begins, better_sign, betters, worth as value_in, weighed, count_better}
use Rattle.pi_settling.specs.SolveCalls.{solve_asked}
use Rattle.pi_settling.specs.Confined.{confined}
use Rattle.pi_settling.specs.Choices.{Pending, pending, picked, Alternative, alternatives, left_by, narrowed_to}
use Rattle.pi_settling.specs.Label.{Lower, tried, all_tried, labelled_by}
use Rattle.pi_meaning.specs.Shared.Level.{Level, lowest, over, calls_at}
use Rattle.pi_meaning.specs.Shared.Settle.{settled}
use Rattle.pi_meaning.specs.Shared.Calls.{unknown_name}
use Rattle.pi_meaning.specs.Shared.Solve.{labelled_in, plain, searching, round_in, bettered_in, sought_in, solved_for, solve_trace}
use Rattle.pi_meaning.specs.CoreMeaning.Instances.{solve_or_unknown}
use Rattle.pi_meaning.specs.CoreMeaning.Quiet.{TicksBetween}
use Rattle.pi_traces.proofs.LastLemmas.{Lasts, Any, any-falls, done-lasts, raise-lasts, one-lasts, alt-lasts, then-lasts, chosen-lasts}
use Rattle.pi_meaning.proofs.CoreMeaning.QuietGoals.{counted, worth, worth-counted, LevelLasts, calls-last, OptionLasts, settled-lasts}

-- ---- traces

-- no Ticks last in every trace
none-lasts : {A : Type 0} (t : Trace A) → Lasts Any 0 t
unfolding Lasts
none-lasts (end e) = λ is. refl
none-lasts (note Tick t) = none-lasts t
none-lasts (note (Load k) t) = none-lasts t
none-lasts (note (Out text) t) = none-lasts t
none-lasts (ans x t) = (tt, none-lasts t)

pub at-most-none : {A : Type 0} (d : ℕ) (t : Trace A) → d ≤ 0 → Lasts Any d t
at-most-none d t h = let none : 0 ≡ d = omega (arith, h) in subst (λ (k : ℕ). Lasts Any k t) none (none-lasts t)

pub unknown-lasts : (d : ℕ) (name : List ℕ) (k : ℕ) → Lasts {A = State} Any d (unknown_name name k)
unknown-lasts d name k = raise-lasts Any d _

pub or-else-lasts : {A : Type 0} (d : ℕ) (o : Option (Trace A)) (t : Trace A) → OptionLasts d o → Lasts Any d t → Lasts Any d (unwrap_or o t)
or-else-lasts d None t a b = b
or-else-lasts d (Some u) t a b = a

-- a Tick in front of what lasts one less
pub tick-lasts : {A : Type 0} (d : ℕ) (t : Trace A) → Lasts Any (d - 1) t → Lasts Any d (note Tick t)
unfolding Lasts
tick-lasts d t a = a

-- ---- labelling

-- what is done at the lower level lasts
record LowerLasts (d : ℕ) (l : Lower) : Type 0 where
  drains : (k : ℕ) (s : State) → Lasts Any k (l.drains s)
  labels : (k : ℕ) → k ≤ d → (s : State) → Lasts Any k (l.labels s)

tried-lasts : (d : ℕ) (l : Lower) → LowerLasts d l → (s : State) (o : Option State) → Lasts Any d (tried settled l s o)
tried-lasts d l last s None = done-lasts Any d
tried-lasts d l last s (Some r) =
    then-lasts Any Any any-falls d (then (settled s r) l.drains) l.labels
    (then-lasts Any Any any-falls d (settled s r) l.drains (settled-lasts d s r) (λ k x m a. last.drains k x)) (λ k x m a. last.labels k m x)

all-last : (d : ℕ) (l : Lower) → LowerLasts (d - 1) l → (s : State) (p : Pending) (alts : List Alternative) → Lasts Any d (all_tried settled (Some l) s p alts)
unfolding all_tried
all-last d l last s p [] = done-lasts Any d
all-last d l last s p (a ∷ rest) =
    let left : Option State = narrowed_to s p.variable (left_by a p.domain) in
    alt-lasts Any any-falls d (note Tick (tried settled l s left)) (all_tried settled (Some l) s p rest) (tick-lasts d (tried settled l s left) (tried-lasts (d - 1) l last s left)) (all-last d l last s p rest)

picked-lasts : (d : ℕ) (l : Lower) → LowerLasts (d - 1) l → (o : Options) (s : State) (p : Option Pending) → Lasts Any d (labelled_by settled (Some l) o s p)
picked-lasts d l last o s None = one-lasts Any d s tt
picked-lasts d l last o s (Some p) = all-last d l last s p (alternatives o.value p.domain)

in-lasts : (preds : List PredTree) (r : TicksBetween preds) (o : Options) (items : List Item) (f d : ℕ) (l : Level) → d ≤ counted l → LevelLasts preds r f l → (s : State) → Lasts Any d (labelled_in o items l s)
unfolding labelled_in
in-lasts preds r o items f d (lowest c) h last s = at-most-none d (labelled_in o items (lowest c) s) h
in-lasts preds r o items f d (over c l) h last s =
    let lower : Lower = record { drains = (calls_at l).drained; labels = labelled_in o items l } in
    let most : worth l ≤ counted l = (worth-counted l).0 in
    picked-lasts d lower (record {
      drains = λ k x. (calls-last preds r (length preds) l last.1).drained k x;
      labels = λ k m x. in-lasts preds r o items (length preds) k l (omega (arith, h, m, most)) last.1 x;
    }) o s (picked (pending s items) o.variable)

-- ---- with an objective

-- what a round posts has no Deep
relation-lasts : (d : ℕ) (s : State) (o : Result Posting Refusal) → Lasts Any d (relation_trace s o)
relation-lasts d s (Err r) = raise-lasts Any d (raised_by s r)
relation-lasts d s (Ok p) = one-lasts Any d (posted_in s p) tt

betters-last : (d : ℕ) (o : Options) (items : List Item) (b : Objective) (v : ℤ) (s : State) → Lasts Any d (betters (searching o items) b v s)
betters-last d o items b v s =
    let t : Trace State = relation_in (better_sign b.greatest) b.expression (int v) s in
    then-lasts Any Any any-falls d t (settled s) (relation-lasts d s (posting_in s _)) (λ k r m a. settled-lasts k s r)

operand-lasts : (d : ℕ) (s : State) (x : Operand) → Lasts Any d (operand_posted settled s x)
operand-lasts d s (reads r sum) = settled-lasts d s r
operand-lasts d s (refuses ball) = raise-lasts Any d ball

weighed-lasts : (d : ℕ) (b : Objective) (q : State) (w : Option ℤ) (f : ℤ → Trace State) → ((v : ℤ) → Lasts Any d (f v)) → Lasts Any d (weighed b q w f)
weighed-lasts d b q None f each = raise-lasts Any d _
weighed-lasts d b q (Some v) f each = each v

-- a search at a level that counts
module _ (preds : List PredTree) (r : TicksBetween preds) (o : Options) (items : List Item) (b : Objective) (f : ℕ) (l : Level) (last : LevelLasts preds r f l) where
  round-lasts : (d : ℕ) → d ≤ counted l → (t : Trace State) → Lasts Any d t → Lasts Any d (round_in o items l t)
  round-lasts d h t a =
      then-lasts Any Any any-falls d (then t (calls_at l).drained) (λ s. labelled_in (plain o) items l (confined s items))
      (then-lasts Any Any any-falls d t (calls_at l).drained a (λ k x m y. (calls-last preds r f l last).drained k x))
      (λ k x m y. in-lasts preds r (plain o) items f k l (omega (arith, h, m)) last (confined x items))

  bettered-lasts : (d : ℕ) → d ≤ counted l → (s : State) (n : ℕ) (q : State) (v : ℤ) → Lasts Any d (bettered_in o items b l s n q v)
  unfolding bettered_in
  bettered-lasts d h s zero q v = one-lasts Any d q tt
  bettered-lasts d h s (suc n) q v =
      let better : Trace State = betters (searching o items) b v s in
      chosen-lasts Any Any any-falls d (round_in o items l better) (λ x. weighed b x (value_in (searching o items) b x) (bettered_in o items b l s n x)) (one q)
      (round-lasts d h better (betters-last d o items b v s))
      (λ k x m y. weighed-lasts k b x (value_in (searching o items) b x) (bettered_in o items b l s n x) (λ w. bettered-lasts k (omega (arith, h, m)) s n x w)) (one-lasts Any d q tt)

  sought-lasts : (d : ℕ) → d ≤ counted l → (s : State) → Lasts Any d (sought_in o items b l s)
  sought-lasts d h s =
      let first : Trace State = begins (searching o items) b s in
      let next : State → ℤ → Trace State = λ q v. bettered_in o items b l s (count_better b.greatest v) q v in
      chosen-lasts Any Any any-falls d (round_in o items l first) (λ q. weighed b q (value_in (searching o items) b q) (next q)) done
      (round-lasts d h first (operand-lasts d s (operand_in b.expression s)))
      (λ k q m y. weighed-lasts k b q (value_in (searching o items) b q) (next q) (λ v. bettered-lasts k (omega (arith, h, m)) s (count_better b.greatest v) q v)) (done-lasts Any d)

pub for-lasts : (preds : List PredTree) (r : TicksBetween preds) (w : Option Objective) (o : Options) (items : List Item) (f d : ℕ) (l : Level) → d ≤ counted l → LevelLasts preds r f l → (s : State) →
    Lasts Any d (solved_for w o items l s)
for-lasts preds r None o items f d l h last s = in-lasts preds r o items f d l h last (confined s items)
for-lasts preds r (Some b) o items f d l h last s = sought-lasts preds r o items b f l last d h s

asked-lasts : (preds : List PredTree) (r : TicksBetween preds) (f d : ℕ) (l : Level) → d ≤ counted l → LevelLasts preds r f l → (s : State) (a : Asked) → Lasts Any d (solve_trace l s a)
asked-lasts preds r f d l h last s (labels o items) = for-lasts preds r o.objective o items f d l h last s
asked-lasts preds r f d l h last s (raises ball) = raise-lasts Any d ball

pub solve-lasts : (preds : List PredTree) (r : TicksBetween preds) (f d : ℕ) (l : Level) → d ≤ counted l → LevelLasts preds r f l → (name : List ℕ) (ts : Trees) (s : State) → Lasts Any d (solve_or_unknown l name ts s)
solve-lasts preds r f d l h last name ts s = or-else-lasts d (option_map (solve_trace l s) (solve_asked name ts s)) (unknown_name name (tree_count ts)) (by (solve_asked name ts s)) (unknown-lasts d name (tree_count ts))
  where
    by : (o : Option Asked) → OptionLasts d (option_map (solve_trace l s) o)
    by None = tt
    by (Some a) = asked-lasts preds r f d l h last s a
