use Rattle.std.proofs.Common.{◌≡◌, [], ◌++◌, Err, refl, subst, ◌∙◌, arith, append_assoc}
use Rattle.std.proofs.lemmas.List.{append-nil}
use Rattle.std.proofs.lemmas.Result.{err_from_is_err_and}
use Rattle.pi_outside.proofs.WriteRuns.{ByWrites-none, ByWrites-so, ByWrites-then}
use Rattle.pi_meaning.specs.Shared.View.{query_view}
use Rattle.pi_engine.specs.Seen.{machine_view}
use Rattle.pi_top.specs.declared.query.Stop.TheVariants.{Write}
use Rattle.pi_top.specs.Running.{IsSoFar, Called, NextComes}
use Rattle.pi_top.proofs.HandedTexts.{hands-one, fails-one}
use Rattle.pi_top.proofs.QueryRuns.{written-text}
use Rattle.pi_top.proofs.QueryEndings.{text-cut, memory-cut}
use Rattle.pi_top.proofs.Taking.{called-of, rest-none, rest-then}
use Rattle.pi_top.specs.QueryWords.{told_query}
use Rattle.pi_top.proofs.query.next_told.Goals as goal

pub loop-turn-init : goal.loop-turn-init
loop-turn-init g c = record {
  rest = rest-none _ c.args.budget.now;
  within = λ h. h;
  mode = refl;
  no_fault = refl;
  so_far = ByWrites-none g.O.Sink.wrote g.O.Sink.taken c.args.out.now _ (λ lines first given program q so_far. rw (append-nil first) so_far);
}

pub loop-turn-preserved : goal.loop-turn-preserved
loop-turn-preserved g c =
    let l = c.loop-turn in
    let next = c.in-Out.ensures in
    let m = machine_view g.S.StateStore.seen g.S.StateStore.order l.machine in
    let n = machine_view g.S.StateStore.seen g.S.StateStore.order c.next.new.self in
    let called : Called m n l.budget c.next.new.budget = called-of m n l.budget c.next.new.budget next.spends next.within next.mode in
    record {
      rest = rest-then _ _ _ _ _ l.invariant.mode l.invariant.rest called.rest;
      within = λ h. next.within (l.invariant.within h);
      mode = next.mode ∙ l.invariant.mode;
      no_fault = c.in_ok-write_text-in-Out.ensures.no_fault ∙ l.invariant.no_fault;
      so_far = ByWrites-then l.invariant.so_far (rw c.as_str.ensures at c.in_ok-write_text-in-Out.ensures.hands) (λ before its earlier handed. λ lines first given program q start.
          let w = earlier lines first given program q start in
          subst (IsSoFar (told_query lines program q) n c.next.new.budget given) (append_assoc first before its)
          (written-text lines m n l.budget c.next.new.budget given program q c.in-Out.text (first ++ before) its
          w called (next.steps w.running (query_view []) program q w.events w.runs) next.lasts (hands-one c.in-Out.text its handed)));
    }

pub returns-in_err-write_text-in-Out-clause-comes : goal.returns-in_err-write_text-in-Out-clause-comes
returns-in_err-write_text-in-Out-clause-comes g c =
    let l = c.loop-turn in
    let next = c.in-Out.ensures in
    let m = machine_view g.S.StateStore.seen g.S.StateStore.order l.machine in
    let n = machine_view g.S.StateStore.seen g.S.StateStore.order c.next.new.self in
    let called : Called m n l.budget c.next.new.budget = called-of m n l.budget c.next.new.budget next.spends next.within next.mode in
    let p = err_from_is_err_and c.from_residual.result c.from_residual.ensures.1 in
    let write : p.0 ≡ Write = p.2 in
    rw (p.1, write)
    (ByWrites-then l.invariant.so_far (rw c.as_str.ensures at c.in_err-write_text-in-Out.ensures.hands) (λ before its earlier fails. λ lines first given program q start runnable.
    let w = earlier lines first given program q start in
    subst (NextComes (told_query lines program q) given n c.next.new.budget (Err Write)) (append_assoc first before its)
    (text-cut lines m n l.budget c.next.new.budget given program q c.in-Out.text (first ++ before) its
    runnable w called (next.steps w.running (query_view []) program q w.events w.runs) (fails-one c.in-Out.text its fails))))

pub returns-in_default : goal.returns-in_default
returns-in_default g c =
    let l = c.loop-turn in
    let next = c.next.ensures in
    let m = machine_view g.S.StateStore.seen g.S.StateStore.order l.machine in
    let n = machine_view g.S.StateStore.seen g.S.StateStore.order c.next.new.self in
    let called : Called m n l.budget c.next.new.budget = called-of m n l.budget c.next.new.budget next.spends next.within next.mode in
    record {
      writes = record { no_fault = l.invariant.no_fault; write = tt; memory = tt; never_falls = omega (arith, l.invariant.no_fault) };
      within = λ h. next.within (l.invariant.within h);
      rest = rest-then _ _ _ _ _ l.invariant.mode l.invariant.rest called.rest;
      mode = next.mode ∙ l.invariant.mode;
      comes = ByWrites-so l.invariant.so_far (λ writes earlier. λ lines first given program q start runnable.
          let w = earlier lines first given program q start in
          record {
            before = m;
            budget = l.budget;
            so_far = w;
            called = called;
            happens = next.steps w.running (query_view []) program q w.events w.runs;
            built = next.built;
            no_text = λ text e. c.in_default.not-Out text e;
            lasts = next.lasts;
          });
    }

pub returns-clause-comes : goal.returns-clause-comes
returns-clause-comes g c =
    let l = c.loop-turn in
    let m = machine_view g.S.StateStore.seen g.S.StateStore.order l.machine in
    ByWrites-so l.invariant.so_far (λ writes earlier. λ lines first given program q start runnable.
    memory-cut lines m l.budget given program q (first ++ writes) runnable (earlier lines first given program q start))
