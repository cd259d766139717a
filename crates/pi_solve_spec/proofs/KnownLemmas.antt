-- What is right under a log is right under each longer one.
use Rattle.std.specs.Prelude.{◌≡◌, ℕ, zero, suc, ℤ, pos, Bool, true, false, List, [], ◌∷◌, ◌++◌, take, drop, Contains, refl}
use Rattle.std.proofs.Common.{◌∙◌, sym, ap, subst, append_assoc}
use Rattle.std.proofs.lemmas.List.{append-nil}
use Rattle.pi_terms.specs.Tree.{Tree, int}
use Rattle.pi_traces.specs.Trace.{Trace, Done, answers, end_of}
use Rattle.pi_core.specs.declared.log.LogEntry.{LogEntry}
use Rattle.pi_core.specs.declared.log.PlanResult.{PlanResult}
use Rattle.pi_meaning.specs.Shared.View.{body_view}
use Rattle.pi_solve_spec.specs.Bodies.{Offer, Bodies, first_fault}
use Rattle.pi_solve_spec.specs.Steps.{IsFinal, GoesOn, IsStep, Valid, Reached, at_start, by_step, IsClosed, IsExhausted, number_of}
use Rattle.pi_solve_spec.specs.Entries.{HasPlan, IsRightResult, IsRightlyAdded, IsRightEntry}
use Rattle.pi_solve_spec.specs.Known.{AreBodies}
use Rattle.pi_solve_spec.specs.PlanLaws.{RightStaysRight, RightLogsAreRight}
use Rattle.pi_solve_spec.proofs.TraceLemmas.{known-done, known-answers, known-some, given-whole, some-whole}

-- ---- what is found is found

final-stays : (b : Bodies) (log more : List LogEntry) (s : Tree) (r : ℕ) → AreBodies b → IsFinal b log s r → IsFinal b (log ++ more) s r
final-stays b log more s r are (d, h) = (d, known-some (b.final (body_view log [] r) s d) (b.final (body_view (log ++ more) [] r) s d) (are.final_longer log more r s d) h)

step-stays : (b : Bodies) (log more : List LogEntry) (s : Tree) (r : ℕ) (a : Tree) (c : ℕ) (t : Tree) → AreBodies b → IsStep b log s r a c t → IsStep b (log ++ more) s r a c t
step-stays b log more s r a c t are h = record {
  given = (h.given.0, known-answers (b.action (body_view log [] r) s h.given.0) (b.action (body_view (log ++ more) [] r) s h.given.0) (record { state = t; action = a; cost = int (pos c) }) (are.action_longer log more r s h.given.0) h.given.1);
  state = h.state;
  ground = h.ground;
  within = h.within;
}

valid-stays : (b : Bodies) (log more : List LogEntry) (plan : List Tree) (s : Tree) (r cost : ℕ) → AreBodies b → Valid b log plan s r cost → Valid b (log ++ more) plan s r cost
unfolding Valid
valid-stays b log more [] s r cost are v = (final-stays b log more s r are v.0, v.1)
valid-stays b log more (a ∷ plan) s r cost are (c, t, left, others, step, is_rest, is_cost, v) =
    (c, t, left, others, step-stays b log more s r a c t are step, is_rest, is_cost, valid-stays b log more plan t left others are v)

-- ---- what is closed stays closed

goes_on-same : (b : Bodies) (log more : List LogEntry) (s : Tree) (r d : ℕ) → AreBodies b → end_of (b.final (body_view log [] r) s d) ≡ Done → b.final (body_view (log ++ more) [] r) s d ≡ b.final (body_view log [] r) s d
goes_on-same b log more s r d are e = known-done (b.final (body_view log [] r) s d) (b.final (body_view (log ++ more) [] r) s d) (are.final_longer log more r s d) e

pub goes_on-stays : (b : Bodies) (log more : List LogEntry) (s : Tree) (r : ℕ) → AreBodies b → GoesOn b log s r → GoesOn b (log ++ more) s r
goes_on-stays b log more s r are h =
    let same : b.final (body_view (log ++ more) [] r) s h.0 ≡ b.final (body_view log [] r) s h.0 = goes_on-same b log more s r h.0 are h.1 in
    (h.0, ap end_of same ∙ h.1, ap answers same ∙ h.2)

action-same : (b : Bodies) (log more : List LogEntry) (s : Tree) (r d : ℕ) → AreBodies b → end_of (b.action (body_view log [] r) s d) ≡ Done → b.action (body_view (log ++ more) [] r) s d ≡ b.action (body_view log [] r) s d
action-same b log more s r d are e = known-done (b.action (body_view log [] r) s d) (b.action (body_view (log ++ more) [] r) s d) (are.action_longer log more r s d) e

closed-stays : (b : Bodies) (log more : List LogEntry) (s : Tree) (r : ℕ) → AreBodies b → IsClosed b log s r → IsClosed b (log ++ more) s r
closed-stays b log more s r are h =
    let same_action : b.action (body_view (log ++ more) [] r) s h.depth ≡ b.action (body_view log [] r) s h.depth = action-same b log more s r h.depth are h.action in
    record {
      final = goes_on-stays b log more s r are h.final;
      depth = h.depth;
      action = ap end_of same_action ∙ h.action;
      faults = ap (λ (t : Trace Offer). first_fault (answers t)) same_action ∙ h.faults;
    }

-- a closed state isn't final under a longer log
closed-not_final : (b : Bodies) (log more : List LogEntry) (s : Tree) (r : ℕ) → AreBodies b → IsClosed b log s r → IsFinal b (log ++ more) s r → ⊥
closed-not_final b log more s r are h final =
    let same : b.final (body_view (log ++ more) [] r) s h.final.0 ≡ b.final (body_view log [] r) s h.final.0 = goes_on-same b log more s r h.final.0 are h.final.1 in
    some-whole (b.final (body_view (log ++ more) [] r) s) h.final.0 (are.final_deeper (body_view (log ++ more) [] r) s) (ap end_of same ∙ h.final.1) final (ap answers same ∙ h.final.2)

-- its steps under a longer log are those before
step-back : (b : Bodies) (log more : List LogEntry) (s : Tree) (r : ℕ) (a : Tree) (c : ℕ) (t : Tree) → AreBodies b → IsClosed b log s r → IsStep b (log ++ more) s r a c t → IsStep b log s r a c t
step-back b log more s r a c t are h step =
    let same : b.action (body_view (log ++ more) [] r) s h.depth ≡ b.action (body_view log [] r) s h.depth = action-same b log more s r h.depth are h.action in
    let offer : Offer = record { state = t; action = a; cost = int (pos c) } in
    record {
      given = (
        h.depth,
        subst (λ (u : Trace Offer). Contains (answers u) offer) same
            (given-whole (b.action (body_view (log ++ more) [] r) s) offer h.depth (are.action_deeper (body_view (log ++ more) [] r) s) (ap end_of same ∙ h.action) step.given),
      );
      state = step.state;
      ground = step.ground;
      within = step.within;
    }

reached-back : (b : Bodies) (log more : List LogEntry) (start : Tree) (m : ℕ) (s : Tree) (r : ℕ) → AreBodies b → IsExhausted b log start m → Reached b (log ++ more) start m s r → Reached b log start m s r
reached-back b log more start m _ _ are ex at_start = at_start
reached-back b log more start m _ _ are ex (by_step s r a c t left reached goes step e) =
    let before : Reached b log start m s r = reached-back b log more start m s r are ex reached in
    let closed : IsClosed b log s r = ex.closed s r before in
    by_step s r a c t left before closed.final (step-back b log more s r a c t are closed step) e

valid-back : (b : Bodies) (log more : List LogEntry) (start : Tree) (m : ℕ) (plan : List Tree) (s : Tree) (r cost : ℕ) → AreBodies b → IsExhausted b log start m → Reached b log start m s r → Valid b (log ++ more) plan s r cost → ⊥
unfolding Valid
valid-back b log more start m [] s r cost are ex reached v = closed-not_final b log more s r are (ex.closed s r reached) v.0
valid-back b log more start m (a ∷ plan) s r cost are ex reached (c, t, left, others, step, is_rest, is_cost, v) =
    let closed : IsClosed b log s r = ex.closed s r reached in
    let there : Reached b log start m t left = by_step s r a c t left reached closed.final (step-back b log more s r a c t are closed step) is_rest in
    valid-back b log more start m plan t left others are ex there v

exhausted-stays : (b : Bodies) (log more : List LogEntry) (start : Tree) (m : ℕ) → AreBodies b → IsExhausted b log start m → IsExhausted b (log ++ more) start m
exhausted-stays b log more start m are ex = record {
  none = λ plan cost v. valid-back b log more start m plan start m cost are ex at_start v;
  closed = λ s r reached. closed-stays b log more s r are (ex.closed s r (reached-back b log more start m s r are ex reached));
}

-- ---- entries

plan-stays : (b : Bodies) (log more : List LogEntry) (start : Tree) (m : ℕ) (plan : Tree) (cost : ℤ) → AreBodies b → HasPlan b log start m plan cost → HasPlan b (log ++ more) start m plan cost
plan-stays b log more start m plan cost are h = record {
  actions = h.actions;
  number = h.number;
  is_list = h.is_list;
  is_cost = h.is_cost;
  valid = valid-stays b log more h.actions start m h.number are h.valid;
}

result-stays : (b : Bodies) (log more : List LogEntry) (best : Bool) (start : Tree) (limit : ℤ) (result : PlanResult) → AreBodies b → IsRightResult b log best start limit result → IsRightResult b (log ++ more) best start limit result
result-stays b log more false start limit (PlanResult.Found plan cost) are h = plan-stays b log more start (number_of limit) plan cost are h
result-stays b log more true start limit (PlanResult.Found plan cost) are (m, within, has, below) =
    (m, within, plan-stays b log more start m plan cost are has, λ j l. exhausted-stays b log more start j are (below j l))
result-stays b log more false start limit PlanResult.NoPlan are h = exhausted-stays b log more start (number_of limit) are h
result-stays b log more true start limit PlanResult.NoPlan are h = λ m l. exhausted-stays b log more start m are (h m l)

pub right_stays_right : RightStaysRight
right_stays_right b log more (LogEntry.Planned best start limit result) are h = result-stays b log more best start limit result are h
right_stays_right b log more (LogEntry.RaisedPlan best start limit ball) are (front, behind, parts, raised) =
    (front, behind ++ more, ap (λ (l : List LogEntry). l ++ more) parts ∙ append_assoc front behind more, raised)

front-and-rest : (k : ℕ) (log : List LogEntry) → take k log ++ drop k log ≡ log
front-and-rest zero log = refl
front-and-rest (suc k) [] = refl
front-and-rest (suc k) (e ∷ log) = ap (λ (l : List LogEntry). e ∷ l) (front-and-rest k log)

added-is_right : (b : Bodies) (log : List LogEntry) (e : LogEntry) → IsRightlyAdded b log e → IsRightEntry b log e
added-is_right b log (LogEntry.Planned best start limit result) h = h
added-is_right b log (LogEntry.RaisedPlan best start limit ball) h = (log, [], sym (append-nil log), h)

pub right_logs_are_right : RightLogsAreRight
right_logs_are_right b log k e are right at =
    subst (λ (l : List LogEntry). IsRightEntry b l e) (front-and-rest k log)
    (right_stays_right b (take k log) (drop k log) e are (added-is_right b (take k log) e (right.entries k e at)))
