-- `solve` lasts as many Ticks as its level counts, in both runs.
use Rattle.std.specs.Prelude.{ℕ, suc, ◌-◌, ◌≤◌, List, [], ◌∷◌, length, Option, Some, None, option_map, unwrap_or}
use Rattle.std.proofs.Common.{arith}
use Rattle.pi_terms.specs.Tree.{Trees, tree_count}
use Rattle.pi_constraints.specs.State.{State}
use Rattle.pi_constraints.specs.declared.constraint.Item.{Item}
use Rattle.pi_core.specs.CoreTree.{PredTree}
use Rattle.pi_traces.specs.Trace.{end, Raise, done}
use Rattle.pi_traces.proofs.LastLemmas.{Any, any-falls, done-lasts, raise-lasts}
use Rattle.pi_settling.specs.Options.{Options, Objective}
use Rattle.pi_settling.specs.Asked.{Asked, labels, raises}
use Rattle.pi_settling.specs.SolveCalls.{solve_asked}
use Rattle.pi_settling.specs.Confined.{confined}
use Rattle.pi_settling.specs.Choices.{Pending, pending, picked, Alternative, alternatives as alternatives_of, left_by, narrowed_to}
use Rattle.pi_meaning.specs.Shared.Calls.{unknown_name}
use Rattle.pi_meaning.specs.Shared.Settle.{settled}
use Rattle.pi_meaning.specs.CoreMeaning.Quiet.{TicksBetween}
use Rattle.pi_meaning.specs.Shared.Solve.{sought_in}
use Rattle.pi_meaning.proofs.CoreMeaning.QuietSolve as plain_solve
use Rattle.pi_meaning.proofs.CoreMeaning.QuietGoals.{worth, counted as counts, worth-counted, settled-lasts}
use Rattle.pi_resume_spec.specs.Resumed.{simple, sequence}
use Rattle.pi_resume_spec.specs.Searches.{SearchLevel, bottom, above, searches_at, plain_level, too_deep}
use Rattle.pi_resume_spec.specs.Label.{Lower, tried, one_tried, tries, labelled_by}
use Rattle.pi_resume_spec.specs.Solve.{labelled_in, solved_for, solve_search, solve_or_unknown}
use Rattle.pi_resume_spec.proofs.LastLemmas.{SearchLasts, AllLast, none-search, simple-lasts, only-lasts, sequence-lasts, alternatives-lasts, tick-lasts}
use Rattle.pi_resume_spec.proofs.LastGoals.{count_at, SearchLevelLasts, searches-last, plain-lasts}

-- what the level below does lasts so long
record LowerLasts (d : ℕ) (l : Lower) : Type 0 where
  pub drains : (k : ℕ) → k ≤ d → (s : State) → SearchLasts Any k (l.drains s)
  pub labels : (k : ℕ) → k ≤ d → (s : State) → SearchLasts Any k (l.labels s)

-- an alternative takes one
abbrev MayLast : ℕ → Option Lower → Type 0
MayLast d None = d ≤ 0
MayLast d (Some l) = LowerLasts (d - 1) l

tried-lasts : (d : ℕ) (l : Lower) → LowerLasts d l → (s : State) (o : Option State) → SearchLasts Any d (tried settled l s o)
tried-lasts d l h s None = simple-lasts Any any-falls d done (done-lasts Any d)
tried-lasts d l h s (Some r) =
    sequence-lasts Any Any any-falls d (sequence (simple (settled s r)) l.drains) l.labels
    (sequence-lasts Any Any any-falls d (simple (settled s r)) l.drains (simple-lasts Any any-falls d (settled s r) (settled-lasts d s r)) (λ k x m o. h.drains k m x)) (λ k x m o. h.labels k m x)

one-lasts : (d : ℕ) (below : Option Lower) → MayLast d below → (s : State) (o : Option State) → SearchLasts Any d (one_tried settled below s o)
one-lasts d None h s o = none-search d too_deep h
one-lasts d (Some l) h s o = tick-lasts Any d (tried settled l s o) (tried-lasts (d - 1) l h s o)

tries-last : (d : ℕ) (below : Option Lower) → MayLast d below → (s : State) (p : Pending) (alts : List Alternative) → AllLast Any d (tries settled below s p alts)
unfolding AllLast
tries-last d below h s p [] = tt
tries-last d below h s p (a ∷ alts) = (one-lasts d below h s (narrowed_to s p.variable (left_by a p.domain)), tries-last d below h s p alts)

by-lasts : (d : ℕ) (below : Option Lower) → MayLast d below → (o : Options) (s : State) (p : Option Pending) → SearchLasts Any d (labelled_by settled below o s p)
by-lasts d below h o s None = only-lasts Any any-falls d s tt
by-lasts d below h o s (Some p) =
    let alts : List Alternative = alternatives_of o.value p.domain in alternatives-lasts Any any-falls d (tries settled below s p alts) (tries-last d below h s p alts)

level-lasts : (preds : List PredTree) (r : TicksBetween preds) (f d : ℕ) (o : Options) (items : List Item) (l : SearchLevel) → d ≤ count_at l → SearchLevelLasts preds r f l → (s : State) →
    SearchLasts Any d (labelled_in o items l s)
unfolding labelled_in SearchLevelLasts plain_level
level-lasts preds r f d o items (bottom c) h last s = by-lasts d None h o s (picked (pending s items) o.variable)
level-lasts preds r f d o items (above c l) h last s =
    let most : (worth (plain_level l) ≤ counts (plain_level l)) × (counts (plain_level l) ≤ suc (worth (plain_level l))) = worth-counted (plain_level l) in
    by-lasts d (Some (record { drains = (searches_at l).drained; labels = labelled_in o items l }))
    (record {
      drains = λ k m x. (searches-last preds r (length preds) l last.1).drained k x;
      labels = λ k m x. level-lasts preds r (length preds) k o items l (omega (arith, h, m, most.0)) last.1 x;
    }) o s (picked (pending s items) o.variable)

for-lasts : (preds : List PredTree) (r : TicksBetween preds) (f d : ℕ) (objective : Option Objective) (o : Options) (items : List Item) (l : SearchLevel) → d ≤ count_at l → SearchLevelLasts preds r f l → (s : State) →
    SearchLasts Any d (solved_for objective o items l s)
for-lasts preds r f d None o items l h last s = level-lasts preds r f d o items l h last (confined s items)
for-lasts preds r f d (Some b) o items l h last s =
    simple-lasts Any any-falls d (sought_in o items b (plain_level l) s) (plain_solve.for-lasts preds r (Some b) o items f d (plain_level l) h (plain-lasts preds r f l last) s)

asked-lasts : (preds : List PredTree) (r : TicksBetween preds) (f d : ℕ) (l : SearchLevel) → d ≤ count_at l → SearchLevelLasts preds r f l → (s : State) (a : Asked) → SearchLasts Any d (solve_search l s a)
asked-lasts preds r f d l h last s (labels o items) = for-lasts preds r f d o.objective o items l h last s
asked-lasts preds r f d l h last s (raises ball) = simple-lasts Any any-falls d (end (Raise ball)) (raise-lasts Any d ball)

pub solve-lasts : (preds : List PredTree) (r : TicksBetween preds) (f d : ℕ) (l : SearchLevel) → d ≤ count_at l → SearchLevelLasts preds r f l → (name : List ℕ) (ts : Trees) (s : State) →
    SearchLasts Any d (solve_or_unknown l name ts s)
solve-lasts preds r f d l h last name ts s = go (solve_asked name ts s)
  where
    go : (o : Option Asked) → SearchLasts Any d (unwrap_or (option_map (solve_search l s) o) (simple (unknown_name name (tree_count ts))))
    go None = simple-lasts Any any-falls d (unknown_name name (tree_count ts)) (raise-lasts Any d _)
    go (Some a) = asked-lasts preds r f d l h last s a
