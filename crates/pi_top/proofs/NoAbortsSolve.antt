-- `solve` doesn't end in an exception that no `catch` catches, at a level that is safe.
use Rattle.std.proofs.Common.{ℕ, zero, suc, List, [], ◌∷◌, Option, Some, None}
use Rattle.std.specs.Prelude.{ℤ, Result, Ok, Err, option_map, unwrap_or}
use Rattle.pi_terms.specs.Tree.{int, comp, Trees, no_trees, tree, tree_count}
use Rattle.pi_constraints.specs.State.{State}
use Rattle.pi_constraints.specs.declared.constraint.Item.{Item}
use Rattle.pi_traces.specs.Trace.{Trace, done, one, then}
use Rattle.pi_settling.specs.Options.{Options, Objective}
use Rattle.pi_settling.specs.Asked.{Asked, labels, raises}
use Rattle.pi_settling.specs.SolveCalls.{solve_asked}
use Rattle.pi_settling.specs.Confined.{confined}
use Rattle.pi_settling.specs.Reading.{Operand, reads, refuses}
use Rattle.pi_settling.specs.Read.{operand_in, relation_trace}
use Rattle.pi_settling.specs.Rounds.{operand_posted, begins, better_sign, betters, worth, weighed, count_better}
use Rattle.pi_prop_spec.specs.Steps.{Refusal}
use Rattle.pi_prop_spec.specs.Postings.{Posting, posting_in}
use Rattle.pi_settling.specs.Choices.{Pending, pending, picked, Alternative, alternatives, left_by, narrowed_to}
use Rattle.pi_settling.specs.Label.{Lower, tried, one_tried, all_tried, labelled_by, labelled}
use Rattle.pi_meaning.specs.Shared.Settle.{settled}
use Rattle.pi_meaning.specs.Shared.Level.{Level, lowest, over, calls_at}
use Rattle.pi_meaning.specs.Shared.Solve.{labelled_in, plain, searching, round_in, bettered_in, sought_in, solved_for, solve_trace}
use Rattle.pi_meaning.specs.Shared.Calls.{unknown_name}
use Rattle.pi_meaning.specs.CoreMeaning.Instances.{solve_or_unknown}
use Rattle.pi_top.proofs.NoAborts.{NoAbort, Anything, no-alt, no-then, no-chosen}
use Rattle.pi_top.proofs.NoAbortsLevels.{IsSafe, calls-safe, no-settled}

-- what the level below does, where there is one
record LowerSafe (l : Lower) : Type 0 where
  pub drains : (s : State) → NoAbort Anything (l.drains s)
  pub labels : (s : State) → NoAbort Anything (l.labels s)

abbrev MaySafe : Option Lower → Type 0
MaySafe None = Unit {0}
MaySafe (Some l) = LowerSafe l

no-tried : (l : Lower) → LowerSafe l → (s : State) (o : Option State) → NoAbort Anything (tried settled l s o)
unfolding NoAbort
no-tried l safe s None = tt
no-tried l safe s (Some r) =
    no-then Anything Anything (then (settled s r) l.drains) l.labels (no-then Anything Anything (settled s r) l.drains (no-settled s r) (λ x any. safe.drains x)) (λ x any. safe.labels x)

no-one_tried : (below : Option Lower) → MaySafe below → (s : State) (o : Option State) → NoAbort Anything (one_tried settled below s o)
unfolding NoAbort
no-one_tried None safe s o = tt
no-one_tried (Some l) safe s o = no-tried l safe s o

no-all_tried : (below : Option Lower) → MaySafe below → (s : State) (p : Pending) (alts : List Alternative) → NoAbort Anything (all_tried settled below s p alts)
unfolding all_tried NoAbort
no-all_tried below safe s p [] = tt
no-all_tried below safe s p (a ∷ alts) =
    let left : Option State = narrowed_to s p.variable (left_by a p.domain) in
    no-alt Anything (one_tried settled below s left) (all_tried settled below s p alts) (no-one_tried below safe s left) (no-all_tried below safe s p alts)

no-labelled_by : (below : Option Lower) → MaySafe below → (o : Options) (s : State) (p : Option Pending) → NoAbort Anything (labelled_by settled below o s p)
unfolding NoAbort
no-labelled_by below safe o s None = (tt, tt)
no-labelled_by below safe o s (Some p) = no-all_tried below safe s p (alternatives o.value p.domain)

no-labelled : (below : Option Lower) → MaySafe below → (o : Options) (items : List Item) (s : State) → NoAbort Anything (labelled settled below o items s)
no-labelled below safe o items s = no-labelled_by below safe o s (picked (pending s items) o.variable)

no-labelled_in : (o : Options) (items : List Item) (l : Level) → IsSafe l → (s : State) → NoAbort Anything (labelled_in o items l s)
unfolding labelled_in
no-labelled_in o items (lowest c) safe s = no-labelled None tt o items s
no-labelled_in o items (over c l) safe s =
    no-labelled (Some (record { drains = (calls_at l).drained; labels = labelled_in o items l }))
    (record { drains = λ r. (calls-safe l safe.1).drained r; labels = λ r. no-labelled_in o items l safe.1 r }) o items s

-- ---- with an objective

no-operand_posted : (s : State) (o : Operand) → NoAbort Anything (operand_posted settled s o)
unfolding NoAbort
no-operand_posted s (reads r sum) = no-settled s r
no-operand_posted s (refuses ball) = tt

no-relation_trace : (s : State) (p : Result Posting Refusal) → NoAbort Anything (relation_trace s p)
unfolding NoAbort
no-relation_trace s (Err r) = tt
no-relation_trace s (Ok p) = (tt, tt)

no-betters : (o : Options) (items : List Item) (b : Objective) (v : ℤ) (s : State) → NoAbort Anything (betters (searching o items) b v s)
no-betters o items b v s =
    let posting : Result Posting Refusal = posting_in s (comp (better_sign b.greatest) (tree b.expression (tree (int v) no_trees))) in
    no-then Anything Anything (relation_trace s posting) (settled s) (no-relation_trace s posting) (λ r any. no-settled s r)

no-round_in : (o : Options) (items : List Item) (l : Level) → IsSafe l → (t : Trace State) → NoAbort Anything t → NoAbort Anything (round_in o items l t)
no-round_in o items l safe t a =
    no-then Anything Anything (then t (calls_at l).drained) (λ s. labelled_in (plain o) items l (confined s items))
    (no-then Anything Anything t (calls_at l).drained a (λ x any. (calls-safe l safe).drained x)) (λ x any. no-labelled_in (plain o) items l safe (confined x items))

no-weighed : (b : Objective) (r : State) (o : Option ℤ) (f : ℤ → Trace State) → ((v : ℤ) → NoAbort Anything (f v)) → NoAbort Anything (weighed b r o f)
unfolding NoAbort
no-weighed b r None f each = tt
no-weighed b r (Some v) f each = each v

no-bettered_in : (o : Options) (items : List Item) (b : Objective) (l : Level) → IsSafe l → (s : State) (n : ℕ) (r : State) (v : ℤ) → NoAbort Anything (bettered_in o items b l s n r v)
unfolding bettered_in NoAbort
no-bettered_in o items b l safe s zero r v = (tt, tt)
no-bettered_in o items b l safe s (suc n) r v =
    no-chosen Anything Anything (round_in o items l (betters (searching o items) b v s)) (λ q. weighed b q (worth (searching o items) b q) (bettered_in o items b l s n q)) (one r)
    (no-round_in o items l safe (betters (searching o items) b v s) (no-betters o items b v s))
    (λ q any. no-weighed b q (worth (searching o items) b q) (bettered_in o items b l s n q) (no-bettered_in o items b l safe s n q)) (tt, tt)

no-sought_in : (o : Options) (items : List Item) (b : Objective) (l : Level) → IsSafe l → (s : State) → NoAbort Anything (sought_in o items b l s)
unfolding NoAbort
no-sought_in o items b l safe s =
    let later : State → ℤ → Trace State = λ q v. bettered_in o items b l s (count_better b.greatest v) q v in
    no-chosen Anything Anything (round_in o items l (begins (searching o items) b s)) (λ q. weighed b q (worth (searching o items) b q) (later q)) done
    (no-round_in o items l safe (begins (searching o items) b s) (no-operand_posted s (operand_in b.expression s)))
    (λ q any. no-weighed b q (worth (searching o items) b q) (later q) (λ v. no-bettered_in o items b l safe s (count_better b.greatest v) q v)) tt

-- ---- `solve`

no-solved_for : (objective : Option Objective) (o : Options) (items : List Item) (l : Level) → IsSafe l → (s : State) → NoAbort Anything (solved_for objective o items l s)
no-solved_for None o items l safe s = no-labelled_in o items l safe (confined s items)
no-solved_for (Some b) o items l safe s = no-sought_in o items b l safe s

no-solve_trace : (l : Level) → IsSafe l → (s : State) (a : Asked) → NoAbort Anything (solve_trace l s a)
unfolding NoAbort
no-solve_trace l safe s (labels o items) = no-solved_for o.objective o items l safe s
no-solve_trace l safe s (raises ball) = tt

pub no-solve : (l : Level) → IsSafe l → (name : List ℕ) (ts : Trees) (s : State) → NoAbort Anything (solve_or_unknown l name ts s)
unfolding NoAbort
no-solve l safe name ts s = go (solve_asked name ts s)
  where
    go : (o : Option Asked) → NoAbort Anything (unwrap_or (option_map (solve_trace l s) o) (unknown_name name (tree_count ts)))
    go None = tt
    go (Some a) = no-solve_trace l safe s a
