use Rattle.std.proofs.Common.{sym, ap, ◌+◌, refl, arith, length-drop, length-take}
use Rattle.std.proofs.lemmas.Result.{err_from_is_err_and}
use Rattle.std.proofs.lemmas.Bool.Decides.{nat_tests}
use Rattle.pi_lex.proofs.KeepLemmas.{HasRoom-fewer, HasRoom-left}
use Rattle.pi_lex.proofs.ReaderLemmas.{HasRead-item, HasRead-end, HasRead-fault}
use Rattle.pi_lex.proofs.reader.read.Goals as goal

pub items-init : goal.items-init
items-init c = record {
  sound = c.new-store.ensures.sound;
  reads = λ tokens fault read. rw c.new-store.ensures.listed read;
  room = HasRoom-fewer _ _ _ c.new-store.ensures.room c.requires;
  before = c.new-store.ensures.before;
  lines = omega arith;
}

pub returns-in_err-len-clause-fault : goal.returns-in_err-len-clause-fault
returns-in_err-len-clause-fault c =
    let p = err_from_is_err_and c.from_residual.result c.from_residual.ensures.1 in
    rw (p.1, p.2) (HasRead-fault _ _ _ _ _ _ c.items.invariant.reads (sym c.item_at-item.ensures.value) c.in_err-len.ensures.fault)

pub items-preserved : goal.items-preserved
items-preserved c =
    let rest = c.items.rest.now in
    let grows = c.in_ok-push.ensures.grows in
    let size = c.in_ok-len.ensures.value in
    let front = c.in_ok-len.ensures.within in
    record {
      sound = c.in_ok-push.ensures.sound;
      reads = HasRead-item _ _ _ _ _ _ _ _ c.in_ok-len.len c.items.invariant.reads (sym c.item_at-item.ensures.value) c.in_ok-len.ensures.goes_on size (ap (λ k. c.items.line + k) c.line_feeds-line.ensures.value) refl c.in_ok-push.ensures.listed;
      room = HasRoom-fewer _ _ _ (HasRoom-left _ _ _ _ c.items.invariant.room grows (omega (arith, size, front)) (omega (arith, size, front)))
          (omega (arith, size, front, length-drop c.in_ok-len.len rest));
      before = omega (arith, c.in_ok-push.ensures.before);
      lines = omega (arith, front, c.line_feeds-line.ensures.within, length-drop c.in_ok-len.len rest, length-take c.in_ok-len.len rest);
    }

pub returns-clause-tokens : goal.returns-clause-tokens
returns-clause-tokens c = HasRead-end _ _ _ c.items.rest.now c.items.invariant.reads (grind (arith, nat_tests))
