use Rattle.std.proofs.Common.{◌≡◌, ◌∙◌, [], ap, refl, arith}
use Rattle.std.proofs.lemmas.Grind.{common_steps}
use Rattle.std.proofs.lemmas.Result.{err_from_is_err_and}
use Rattle.pi_outside.proofs.InputRuns.{ByInput-none, ByInput-so, ByInput-then}
use Rattle.pi_outside.specs.Ahead.{Ahead}
use Rattle.pi_outside.specs.declared.found.LineStop.TheVariants.{Fault, Memory}
use Rattle.pi_outside.proofs.Turns.{so-far-start, found-line, moved-all, read-piece, read-end, read-over, read-fails, read-stops}
use Rattle.pi_outside.proofs.reader.LineReader.next.Goals as goal

pub piece-init : goal.piece-init
piece-init g c = record {
  within = grind (arith, common_steps);
  no_fault = refl;
  so_far = ByInput-none g.I.Source.has_read g.I.Source.rest c.args.input.now _ (so-far-start c.args.longest c.args.self.now c.new-line.result.items c.new-line.ensures.items);
}

pub returns-in_err-is_whole-clause-found : goal.returns-in_err-is_whole-clause-found
returns-in_err-is_whole-clause-found g c =
    let l = c.piece in
    let p = err_from_is_err_and c.from_residual.result c.from_residual.ensures.1 in
    let memory : p.0 ≡ Memory = p.2 in
    rw (p.1, memory) (ByInput-so l.invariant.so_far (λ reads so_far. read-stops _ _ _ _ reads so_far))

pub returns-then-is_whole-clause-found : goal.returns-then-is_whole-clause-found
returns-then-is_whole-clause-found g c =
    let l = c.piece in
    ByInput-so l.invariant.so_far (λ reads so_far. found-line _ _ _ _ _ _ reads (rw c.if-is_whole.true at c.in_ok-is_whole.ensures.moves) so_far)

pub returns-in_err-more-clause-found : goal.returns-in_err-more-clause-found
returns-in_err-more-clause-found g c =
    let l = c.piece in
    let moves = rw c.if-is_whole.false at c.in_ok-is_whole.ensures.moves in
    let empty : c.take_front.new.self.bytes ≡ [] = ap (λ (a : Ahead). a.bytes) moves.after_is in
    let p = err_from_is_err_and c.from_residual-in_err-more.result c.from_residual-in_err-more.ensures.1 in
    let fault : p.0 ≡ Fault = p.2 in
    rw (p.1, fault) (ByInput-then l.invariant.so_far c.in_err-more.ensures.refills (λ reads its so_far fails.
    read-fails _ _ _ _ reads its empty fails (moved-all _ _ _ _ _ _ reads moves so_far)))

pub piece-preserved : goal.piece-preserved
piece-preserved g c =
    let l = c.piece in
    let moves = rw c.if-is_whole.false at c.in_ok-is_whole.ensures.moves in
    let empty : c.take_front.new.self.bytes ≡ [] = ap (λ (a : Ahead). a.bytes) moves.after_is in
    record {
      within = c.in_ok-is_whole.ensures.within;
      no_fault = c.in_ok-more.ensures.no_fault ∙ l.invariant.no_fault;
      so_far = ByInput-then l.invariant.so_far (rw c.in-More.is at c.in_ok-more.ensures.refills) (λ reads its so_far more.
          read-piece _ _ _ _ _ reads its empty more (moved-all _ _ _ _ _ _ reads moves so_far));
    }

pub returns-in-End-clause-found : goal.returns-in-End-clause-found
returns-in-End-clause-found g c =
    let l = c.piece in
    let moves = rw c.if-is_whole.false at c.in_ok-is_whole.ensures.moves in
    let empty : c.take_front.new.self.bytes ≡ [] = ap (λ (a : Ahead). a.bytes) moves.after_is in
    ByInput-then l.invariant.so_far (rw c.in-End.is at c.in_ok-more.ensures.refills) (λ reads its so_far end.
    read-end _ _ _ _ reads its empty end (moved-all _ _ _ _ _ _ reads moves so_far))

pub returns-in-Over-clause-found : goal.returns-in-Over-clause-found
returns-in-Over-clause-found g c =
    let l = c.piece in
    let moves = rw c.if-is_whole.false at c.in_ok-is_whole.ensures.moves in
    let empty : c.take_front.new.self.bytes ≡ [] = ap (λ (a : Ahead). a.bytes) moves.after_is in
    ByInput-then l.invariant.so_far (rw c.in-Over.is at c.in_ok-more.ensures.refills) (λ reads its so_far over.
    read-over _ _ _ _ reads its empty over (moved-all _ _ _ _ _ _ reads moves so_far))
