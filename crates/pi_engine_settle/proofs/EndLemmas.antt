-- What the propagation of the constraints comes to that are due after a goal.
use Rattle.std.specs.Prelude.{◌≡◌, ℕ, ◌+◌, ◌-◌, ◌<◌, ◌≤◌, List, [], ◌∷◌, ◌++◌, length, sum_by, Contains, refl}
use Rattle.std.proofs.Common.{arith, sym, ◌∙◌, ap, subst, inl, inr, append-nil}
use Rattle.std.proofs.lemmas.List.Sums.{sum_by-le-sum_by}
use Rattle.pi_core.specs.declared.log.Work.{Work}
use Rattle.pi_constraints.specs.declared.constraint.Constraint.{Constraint}
use Rattle.pi_constraints.specs.declared.event.Activation.{Activation}
use Rattle.pi_constraints.specs.State.{State, IsState}
use Rattle.pi_traces.specs.Trace.{one}
use Rattle.pi_prop_spec.specs.Places.{places_of}
use Rattle.pi_settling.specs.Events.{events_between}
use Rattle.pi_settling.specs.Load.{count_due, roots_of, count_values, count_lost, count_had, load}
use Rattle.pi_settling.specs.Settled.{loaded, with_events}
use Rattle.pi_settling.specs.SettlingLaws.{MaySettle}
use Rattle.pi_settling.specs.Runs.{Runs, no_run, one_more, MayPropagate, work_of}
use Rattle.pi_settling.specs.Calm.{IsCalm}
use Rattle.pi_settling.proofs.SizeLemmas.{none-there}
use Rattle.pi_settling.proofs.UniqueLemmas.{same_states}
use Rattle.pi_settling.proofs.TwiceLemmas.{less_or_not}
use Rattle.pi_settling.proofs.LoadLemmas.{no-load}
use Rattle.pi_settling.proofs.RunLemmas.{runs-between}
use Rattle.pi_settling.proofs.BoundLemmas.{runs_are_bounded}
use Rattle.pi_settling.proofs.LabelKeeps.{none-woken}
use Rattle.pi_settling.proofs.CalmLemmas.{calm_is_stable}
use Rattle.pi_queue.specs.Ends.{IsDone, HasFailed, IsSpent, Worked}
use Rattle.pi_queue.proofs.EndLemmas.{stands, emptied}
use Rattle.pi_engine_settle.specs.Due.{IsDueFor}
use Rattle.pi_engine_settle.specs.DueLaws.{DueMayPropagate, DueIsALoad, NoneDueIsSettled}
use Rattle.pi_engine_settle.specs.Settles.{HasSettled, HasLost, HasStopped}
use Rattle.pi_engine_settle.proofs.LostLemmas.{lost-in-stable}

-- ---- what a propagation asks of where it begins

pub may-propagate : DueMayPropagate
may-propagate before s due is may d = record { state = is; settles = may; different = d.different; posted = d.posted; others = d.others }

-- ---- where a constraint is due there is a load

pub some-load : DueIsALoad
some-load before s due d l = let many : length due ≡ count_due before s 0 s.constraints = d.count in (λ r. omega (arith, many, l), omega (arith, many, l))

-- ---- where none is due the state is settled as it stands

pub calm-left : (before s : State) (due : List ℕ) → due ≡ [] → IsDueFor before s due → IsState s → MaySettle s → IsCalm s
calm-left before s due none d is may = record {
  state = is;
  settles = may;
  unchanged = λ i c at. d.others i c at (λ h. none-there i (subst (λ (js : List ℕ). Contains js i) none h));
}

pub settled-left : NoneDueIsSettled
unfolding loaded
settled-left before s due none d is may agents =
    let many : length due ≡ count_due before s 0 s.constraints = d.count in
    let empty : length due ≡ 0 = ap length none in
    let lost : count_due s s 0 s.constraints + sum_by (count_lost s s) s.constraints ≡ 0 = no-load s s (λ n. refl) refl in
    let light : load before s s ≡ 0 = omega (arith, many, empty, lost) in
    let same : with_events before s ≡ s =
    same_states (with_events before s) s refl refl refl (ap (λ (list : List Activation). s.waiting ++ list) (none-woken s (events_between before s) agents) ∙ append-nil s.waiting) in
    inr (s, calm_is_stable s (calm-left before s due none d is may), rw light (ap one (sym same)))

-- ---- how it ends

lost-of-had : (s r : State) (cs : List Constraint) → sum_by (count_lost s r) cs ≤ sum_by (count_had s) cs
lost-of-had s r cs = sum_by-le-sum_by (count_lost s r) (count_had s) cs (λ c. sum_by-le-sum_by (λ x. count_values s x - count_values r x) (count_values s) (roots_of s (places_of c)) (λ x. omega arith))

pub has-settled : (before s r : State) (due : List ℕ) (old new : Work) → IsState s → MaySettle s → IsDueFor before s due → (MayPropagate s due → IsDone s due old new r) →
    (MayPropagate s due → new.runs ≤ old.runs + (length due + sum_by (count_lost s r) s.constraints)) → HasSettled before s r old new
has-settled before s r due old new is may d done bounded =
    let m : MayPropagate s due = may-propagate before s due is may d in
    let many : length due ≡ count_due before s 0 s.constraints = d.count in
    let most : new.runs ≤ old.runs + (length due + sum_by (count_lost s r) s.constraints) = bounded m in
    record { stable = stands s due old new r m (done m); runs = omega (arith, many, most) }

pub has-lost : (before s r : State) (due : List ℕ) (old new : Work) → IsState s → MaySettle s → IsDueFor before s due → (MayPropagate s due → HasFailed s due old new) →
    (MayPropagate s due → new.runs ≤ old.runs + (length due + sum_by (count_lost s r) s.constraints)) → HasLost before s old new
has-lost before s r due old new is may d failed bounded =
    let m : MayPropagate s due = may-propagate before s due is may d in
    let many : length due ≡ count_due before s 0 s.constraints = d.count in
    let most : new.runs ≤ old.runs + (length due + sum_by (count_lost s r) s.constraints) = bounded m in
    let had : sum_by (count_lost s r) s.constraints ≤ sum_by (count_had s) s.constraints = lost-of-had s r s.constraints in
    record { emptied = emptied s due old new m (failed m); runs = omega (arith, many, most, had) }

none-runs : (s : State) (due : List ℕ) (k : ℕ) (r : State) (now : List ℕ) → due ≡ [] → Runs s due k r now → now ≡ []
none-runs s due k r now none no_run = none
none-runs s due k r now none (one_more j p q i rest fresh c before at run made) = absurd (let gone : i ∷ rest ≡ [] = none-runs s due j p (i ∷ rest) none before in cc)

pub has-stopped : (before s r : State) (due : List ℕ) (w : Worked) → IsState s → MaySettle s → IsDueFor before s due → (MayPropagate s due → IsSpent s due w.limit w.old w.new r) → HasStopped before s due w
has-stopped before s r due w is may d ended =
    let e : IsSpent s due w.limit w.old w.new r = ended (may-propagate before s due is may d) in
    let goals : w.new.goals ≡ w.old.goals = e.counted.goals in
    let runs : w.new.runs ≡ w.old.runs + e.many = e.counted.runs in
    let expansions : w.new.expansions ≡ w.old.expansions = e.counted.expansions in
    let many : length due ≡ count_due before s 0 s.constraints = d.count in
    let most : e.many + length (e.first ∷ e.rest) ≤ length due + sum_by (count_lost s r) s.constraints = runs_are_bounded s due e.many r (e.first ∷ e.rest) is may e.runs in
    let more : e.many < length due + sum_by (count_lost s r) s.constraints = omega (arith, most) in
    record {
      some = λ none. let gone : e.first ∷ e.rest ≡ [] = none-runs s due e.many r (e.first ∷ e.rest) none e.runs in absurd cc;
      spent = elim (less_or_not w.limit (work_of w.old)) [
        | inl over ↦ omega (arith, goals, runs, expansions, over)
        | inr within ↦ let just : work_of w.new ≡ w.limit = e.spent within in omega (arith, just)
      ];
      just = e.spent;
      fewer = λ q f.
          let lost : sum_by (count_lost s r) s.constraints ≤ sum_by (count_lost s q) s.constraints =
          lost-in-stable s r q is may (runs-between s due e.many r (e.first ∷ e.rest) is may e.runs) f in
          omega (arith, runs, many, more, lost);
      fewer_where_lost = let had : sum_by (count_lost s r) s.constraints ≤ sum_by (count_had s) s.constraints = lost-of-had s r s.constraints in omega (arith, runs, many, more, had);
    }
