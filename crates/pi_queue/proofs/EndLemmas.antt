-- Turns one after the other: how far they came, and how a propagation ends.
use Rattle.std.specs.Prelude.{◌≡◌, ◌⊎◌, ℕ, suc, ◌+◌, ◌<◌, ◌≤◌, List, [], ◌∷◌, length, Bool, true, false, MatchBool, Result, Ok, Err, IfOk, Contains, sum_by, refl}
use Rattle.std.proofs.Common.{arith, sym, ◌∙◌, ap, subst, inl, inr}
use Rattle.std.proofs.lemmas.Option.{slice_get_within}
use Rattle.std.proofs.lemmas.List.Elements.{Contains-append_cases}
use Rattle.pi_core.specs.declared.log.Work.{Work}
use Rattle.pi_constraints.specs.State.{State, IsState}
use Rattle.pi_settling.specs.SettlingLaws.{MaySettle}
use Rattle.pi_settling.specs.Stable.{IsStable, IsEmptied}
use Rattle.pi_settling.specs.Load.{count_lost}
use Rattle.pi_settling.specs.Runs.{Runs, no_run, one_more, MayPropagate, HasRun, work_of}
use Rattle.pi_settling.proofs.RunLemmas.{runs_keep_states, Has, runs-between, failures_empty}
use Rattle.pi_settling.proofs.WakeLemmas.{runs_reach_stable_domains}
use Rattle.pi_settling.proofs.BoundLemmas.{lost-in-all, runs_are_bounded}
use Rattle.pi_settling.proofs.SizeLemmas.{in-front, behind}
use Rattle.pi_queue.specs.Leaving.{IsNarrower}
use Rattle.pi_queue.specs.Turn.{MayTurn, IsTurn, IsFailure, Turns}
use Rattle.pi_settling.specs.declared.stop.PropStop.{PropStop}
use Rattle.pi_queue.specs.Ends.{numbers_below, Ends, IsDone, HasFailed, IsSpent, IsUnderWay, KeepsWithin, worked}
use Rattle.pi_queue.proofs.LeaveLemmas.{itself}
use Rattle.pi_queue.proofs.WaitingLemmas.{Differ, below-is, below-has, below-differ, below-count}

-- ---- those that are due were posted

pub due-posted : (s : State) (due : List ℕ) (k : ℕ) (r : State) (now : List ℕ) → MayPropagate s due → Runs s due k r now → (i : ℕ) → Contains now i → i < length r.constraints
due-posted s due k r now may no_run i h = may.posted i h
due-posted s due k r now may (one_more j p q f rest fresh c before at run made) i h =
    let same : length q.constraints ≡ length p.constraints = ap length run.narrowed.constraints in
    let there : i < length p.constraints = elim (Contains-append_cases rest fresh i h) [
      | inl r ↦ due-posted s due j p (f ∷ rest) may before i (behind f i rest r)
      | inr made-now ↦ let woken = ((made.has i).0 made-now).0 in slice_get_within p.constraints i woken.2.0 woken.2.2
    ] in
    omega (arith, same, there)

-- ---- between two turns

-- some runs were made, and the work counted is just these
pub record IsBetweenTurns (s : State) (due : List ℕ) (limit : ℕ) (old new : Work) (r : State) (now : List ℕ) : Type 0 where
  pub many : ℕ
  pub runs : Runs s due many r now
  pub counted : HasRun many old new
  pub within : work_of old ≤ limit → work_of new ≤ limit

pub begins : (s : State) (due : List ℕ) (limit : ℕ) (old : Work) → IsBetweenTurns s due limit old old s due
begins s due limit old = record { many = 0; runs = no_run; counted = record { goals = refl; runs = omega arith; expansions = refl }; within = λ h. h }

pub may-turn : (s : State) (due : List ℕ) (limit : ℕ) (old new : Work) (r : State) (now : List ℕ) (i : ℕ) (rest : List ℕ) → MayPropagate s due → IsBetweenTurns s due limit old new r now → now ≡ i ∷ rest → MayTurn r i
may-turn s due limit old new r now i rest may b e =
    let h = runs_keep_states s due b.many r now may.state may.settles b.runs in
    record {
      state = h.0;
      settles = h.1;
      posted = due-posted s due b.many r now may b.runs i (subst (λ (xs : List ℕ). Contains xs i) (sym e) (in-front i rest));
    }

-- one run more is counted
pub record IsCounted (old new : Work) : Type 0 where
  pub goals : new.goals ≡ old.goals
  pub runs : new.runs ≡ old.runs + 1
  pub expansions : new.expansions ≡ old.expansions

counted-more : (k : ℕ) (old mid new : Work) → HasRun k old mid → IsCounted mid new → HasRun (suc k) old new
counted-more k old mid new h c = record { goals = c.goals ∙ h.goals; runs = let a = h.runs in let b = c.runs in omega arith; expansions = c.expansions ∙ h.expansions }

-- of any state: what is counted keeps within the limit
pub none-counted : (limit : ℕ) (old : Work) → KeepsWithin limit old old
none-counted limit old = record { many = 0; counted = record { goals = refl; runs = omega arith; expansions = refl }; within = inl refl }

pub one-counted : (limit : ℕ) (old mid new : Work) → KeepsWithin limit old mid → (limit ≤ work_of mid → ⊥) → IsCounted mid new → KeepsWithin limit old new
one-counted limit old mid new b unspent c = record {
  many = suc b.many;
  counted = counted-more b.many old mid new b.counted c;
  within = inr (let g = c.goals in let n = c.runs in let x = c.expansions in omega (arith, unspent));
}

pub goes-on : (s : State) (due : List ℕ) (limit : ℕ) (old mid new : Work) (r q : State) (now : List ℕ) (i : ℕ) (rest later : List ℕ) → IsBetweenTurns s due limit old mid r now → now ≡ i ∷ rest → (limit ≤ work_of mid → ⊥) → IsCounted mid new → IsTurn r i rest q later → IsBetweenTurns s due limit old new q later
goes-on s due limit old mid new r q now i rest later b e unspent c t =
    let runs : Runs s due b.many r (i ∷ rest) = subst (Runs s due b.many r) e b.runs in
    record {
      many = suc b.many;
      runs = subst (Runs s due (suc b.many) q) (sym t.behind) (one_more b.many r q i rest t.fresh t.constraint runs t.there t.run t.made);
      counted = counted-more b.many old mid new b.counted c;
      within = λ h. let g = c.goals in let n = c.runs in let x = c.expansions in omega (arith, unspent);
    }

pub turn-by : (r q : State) (i : ℕ) (rest later : List ℕ) (some : Bool) → Turns r i rest some q later → some ≡ true → IsTurn r i rest q later
turn-by r q i rest later some t is = subst (λ (b : Bool). Turns r i rest b q later) is t

pub failure-by : (r q : State) (i : ℕ) (rest later : List ℕ) (some : Bool) → Turns r i rest some q later → some ≡ false → IsFailure r i
failure-by r q i rest later some t is = subst (λ (b : Bool). Turns r i rest b q later) is t

-- ---- the ends

pub done : (s : State) (due : List ℕ) (limit : ℕ) (old new : Work) (r : State) (now : List ℕ) → IsBetweenTurns s due limit old new r now → now ≡ [] → IsDone s due old new r
done s due limit old new r now b e = record { many = b.many; runs = subst (Runs s due b.many r) e b.runs; counted = b.counted }

pub failed : (s : State) (due : List ℕ) (limit : ℕ) (old mid new : Work) (r : State) (now : List ℕ) (i : ℕ) (rest : List ℕ) → IsBetweenTurns s due limit old mid r now → now ≡ i ∷ rest → IsCounted mid new → IsFailure r i → HasFailed s due old new
failed s due limit old mid new r now i rest b e c f = record {
  many = b.many;
  reached = r;
  first = i;
  rest = rest;
  runs = subst (Runs s due b.many r) e b.runs;
  failure = f;
  counted = counted-more b.many old mid new b.counted c;
}

pub spent : (s : State) (due : List ℕ) (limit : ℕ) (old new : Work) (r : State) (now : List ℕ) (i : ℕ) (rest : List ℕ) → IsBetweenTurns s due limit old new r now → now ≡ i ∷ rest → limit ≤ work_of new → IsSpent s due limit old new r
spent s due limit old new r now i rest b e reached = record {
  many = b.many;
  first = i;
  rest = rest;
  runs = subst (Runs s due b.many r) e b.runs;
  counted = b.counted;
  spent = λ h. let l : work_of new ≤ limit = b.within h in omega (arith, l, reached);
}

-- ---- under way

pub under-way : (s : State) (due : List ℕ) (limit : ℕ) (old new : Work) (r : State) (now : List ℕ) → MayPropagate s due → IsBetweenTurns s due limit old new r now → IsUnderWay s due old new r
under-way s due limit old new r now may b =
    let h = runs_keep_states s due b.many r now may.state may.settles b.runs in
    record { many = b.many; reached = r; now = now; runs = b.runs; narrower = itself r h.0 h.1; counted = inl b.counted }

pub in-a-turn : (s : State) (due : List ℕ) (limit : ℕ) (old mid new : Work) (r q : State) (now : List ℕ) (i : ℕ) (rest : List ℕ) → IsBetweenTurns s due limit old mid r now → now ≡ i ∷ rest → IsCounted mid new → IsNarrower r q → IsUnderWay s due old new q
in-a-turn s due limit old mid new r q now i rest b e c n = record {
  many = b.many;
  reached = r;
  now = now;
  runs = b.runs;
  narrower = n;
  counted = inr (counted-more b.many old mid new b.counted c, λ none. let same : i ∷ rest ≡ [] = sym e ∙ none in cc);
}

not-empty : (now : List ℕ) → (now ≡ [] → ⊥) → 1 ≤ length now
not-empty [] some = absurd (some refl)
not-empty (i ∷ rest) some = omega arith

counted-runs : (k : ℕ) (old new : Work) (now : List ℕ) → HasRun k old new ⊎ (HasRun (suc k) old new × (now ≡ [] → ⊥)) → new.runs ≤ old.runs + (k + length now)
counted-runs k old new now (inl h) = let e = h.runs in omega arith
counted-runs k old new now (inr (h, some)) = let e = h.runs in let l : 1 ≤ length now = not-empty now some in omega arith

pub bounded : (s : State) (due : List ℕ) (old new : Work) (q : State) → IsState s → MaySettle s → IsUnderWay s due old new q → new.runs ≤ old.runs + (length due + sum_by (count_lost s q) s.constraints)
bounded s due old new q is may u =
    let so-far : u.many + length u.now ≤ length due + sum_by (count_lost s u.reached) s.constraints = runs_are_bounded s due u.many u.reached u.now is may u.runs in
    let whole = lost-in-all (Has q) s u.reached q is may (runs-between s due u.many u.reached u.now is may u.runs) u.narrower in
    let made : new.runs ≤ old.runs + (u.many + length u.now) = counted-runs u.many old new u.now u.counted in
    omega (arith, so-far, whole, made)

-- ---- what the ends mean

pub stands : (s : State) (due : List ℕ) (old new : Work) (r : State) → MayPropagate s due → IsDone s due old new r → IsStable s r
stands s due old new r may d = runs_reach_stable_domains s due d.many r may d.runs

pub emptied : (s : State) (due : List ℕ) (old new : Work) → MayPropagate s due → HasFailed s due old new → IsEmptied s
emptied s due old new may f = failures_empty s due f.many f.reached f.first f.rest f.failure.constraint may f.runs f.failure.there f.failure.fails

-- ---- all that were posted

pub all-due : (s : State) → IsState s → MaySettle s → MayPropagate s (numbers_below (length s.constraints))
all-due s is may = record {
  state = is;
  settles = may;
  different = below-differ (length s.constraints);
  posted = λ i h. below-is (length s.constraints) i h;
  others = λ i c at none. absurd (none (below-has (length s.constraints) i (slice_get_within s.constraints i c at)));
}

-- ---- by the answer

pub ends-mean : (s : State) (due : List ℕ) (limit : ℕ) (old new : Work) (r : State) (answer : Result Bool PropStop) → (MayPropagate s due → Ends s due (worked limit old new) r answer) →
    IfOk answer (λ some. MayPropagate s due → MatchBool some (IsStable s r) (IsEmptied s))
ends-mean s due limit old new r (Ok true) h = λ may. stands s due old new r may (h may)
ends-mean s due limit old new r (Ok false) h = λ may. emptied s due old new may (h may)
ends-mean s due limit old new r (Err e) h = tt

pub all-mean : (s : State) (limit : ℕ) (old new : Work) (r : State) (answer : Result Bool PropStop) → (IsState s → MaySettle s → Ends s (numbers_below (length s.constraints)) (worked limit old new) r answer) →
    IfOk answer (λ some. IsState s → MaySettle s → MatchBool some (IsStable s r) (IsEmptied s))
all-mean s limit old new r (Ok true) h = λ is may. stands s (numbers_below (length s.constraints)) old new r (all-due s is may) (h is may)
all-mean s limit old new r (Ok false) h = λ is may. emptied s (numbers_below (length s.constraints)) old new (all-due s is may) (h is may)
all-mean s limit old new r (Err e) h = tt

-- those that were put into the queue are those that were handed over
pub from-these : (s : State) (due numbers waiting : List ℕ) (limit : ℕ) (old new : Work) (r : State) (answer : Result Bool PropStop) → numbers ≡ due → (Differ numbers → waiting ≡ numbers) → (MayPropagate s waiting → Ends s waiting (worked limit old new) r answer) → MayPropagate s due → Ends s due (worked limit old new) r answer
from-these s due numbers waiting limit old new r answer same put h may =
    let is : waiting ≡ due = put (subst Differ (sym same) may.different) ∙ same in
    subst (λ (d : List ℕ). Ends s d (worked limit old new) r answer) is (h (subst (MayPropagate s) (sym is) may))

pub way-from-these : (s : State) (due numbers waiting : List ℕ) (old new : Work) (r : State) → numbers ≡ due → (Differ numbers → waiting ≡ numbers) → (MayPropagate s waiting → IsUnderWay s waiting old new r) → MayPropagate s due →
    new.runs ≤ old.runs + (length due + sum_by (count_lost s r) s.constraints)
way-from-these s due numbers waiting old new r same put h may =
    let is : waiting ≡ due = put (subst Differ (sym same) may.different) ∙ same in
    bounded s due old new r may.state may.settles (subst (λ (d : List ℕ). IsUnderWay s d old new r) is (h (subst (MayPropagate s) (sym is) may)))

pub from-all : (s : State) (waiting : List ℕ) (limit : ℕ) (old new : Work) (r : State) (answer : Result Bool PropStop) → waiting ≡ numbers_below (length s.constraints) → (MayPropagate s waiting → Ends s waiting (worked limit old new) r answer) → IsState s → MaySettle s →
    Ends s (numbers_below (length s.constraints)) (worked limit old new) r answer
from-all s waiting limit old new r answer is h state may =
    subst (λ (d : List ℕ). Ends s d (worked limit old new) r answer) is (h (subst (MayPropagate s) (sym is) (all-due s state may)))

pub way-from-all : (s : State) (waiting : List ℕ) (old new : Work) (r : State) → waiting ≡ numbers_below (length s.constraints) → (MayPropagate s waiting → IsUnderWay s waiting old new r) → IsState s → MaySettle s →
    new.runs ≤ old.runs + (length s.constraints + sum_by (count_lost s r) s.constraints)
way-from-all s waiting old new r is h state may =
    let all : MayPropagate s (numbers_below (length s.constraints)) = all-due s state may in
    let b : new.runs ≤ old.runs + (length (numbers_below (length s.constraints)) + sum_by (count_lost s r) s.constraints) =
    bounded s (numbers_below (length s.constraints)) old new r state may (subst (λ (d : List ℕ). IsUnderWay s d old new r) is (h (subst (MayPropagate s) (sym is) all))) in
    let many : length (numbers_below (length s.constraints)) ≡ length s.constraints = below-count (length s.constraints) in
    omega (arith, b, many)

-- nothing was done
pub nothing-done : (n m : ℕ) → n ≤ n + m
nothing-done n m = omega arith
