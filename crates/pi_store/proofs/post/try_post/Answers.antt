use Rattle.std.proofs.Common.{ℕ, true, sym, subst}
use Rattle.pi_constraints.specs.Constraint.{SpeaksOf}
use Rattle.pi_region.specs.Image.{Image}
use Rattle.pi_region.specs.Back.{Advances}
use Rattle.pi_region.proofs.BackLemmas.{from_itself, through}
use Rattle.pi_store_blocks.specs.ConstraintTable.{constraint_at}
use Rattle.pi_store.specs.Added.{IsPutOn}
use Rattle.pi_store.proofs.PostLemmas.{not_made}
use Rattle.pi_store.proofs.post.try_post.Goals as goal

pub returns-in_err-end-clause-advances : goal.returns-in_err-end-clause-advances
returns-in_err-end-clause-advances c = subst (λ (j : Image). Advances c.args.words.now j) (sym c.in_err-end.ensures.err) (from_itself c.args.words.now c.len-len.ensures.sound)

pub returns-in_err-put-clause-advances : goal.returns-in_err-put-clause-advances
returns-in_err-put-clause-advances c = through c.args.words.now c.write_constraint.new.words c.put_on_written.new.words c.in_ok-end.ensures.ok.advances c.put_on_written.ensures.adds.advances

pub returns-then-not-put-clause-ok : goal.returns-then-not-put-clause-ok
returns-then-not-put-clause-ok c =
    let mid = c.write_constraint.new.words in
    not_made c.args.words.now c.write_constraint.new.words c.put_on_written.new.words c.args.constraint.now c.in_ok-end.end c.count-number.result c.in_ok-end.ensures.ok
    (subst (IsPutOn (SpeaksOf (constraint_at mid.region c.in_ok-end.end)) c.write_constraint.new.words c.put_on_written.new.words c.count-number.result) c.if-not-put.true c.in_ok-put.ensures.ok)

pub returns-then-not-put-clause-advances : goal.returns-then-not-put-clause-advances
returns-then-not-put-clause-advances c = through c.args.words.now c.write_constraint.new.words c.put_on_written.new.words c.in_ok-end.ensures.ok.advances c.put_on_written.ensures.adds.advances

pub returns-in_err-push-clause-advances : goal.returns-in_err-push-clause-advances
returns-in_err-push-clause-advances c =
    subst (λ (j : Image). Advances c.args.words.now j) (sym c.in_err-push.ensures.err) (through c.args.words.now c.write_constraint.new.words c.put_on_written.new.words c.in_ok-end.ensures.ok.advances c.put_on_written.ensures.adds.advances)

pub returns-clause-ok : goal.returns-clause-ok
returns-clause-ok c =
    let mid = c.write_constraint.new.words in
    let put : IsPutOn (SpeaksOf (constraint_at c.write_constraint.new.words.region c.in_ok-end.end)) c.write_constraint.new.words c.put_on_written.new.words c.count-number.result true =
    subst (IsPutOn (SpeaksOf (constraint_at mid.region c.in_ok-end.end)) c.write_constraint.new.words c.put_on_written.new.words c.count-number.result) c.if-not-put.false c.in_ok-put.ensures.ok in
    record {
      mid = c.write_constraint.new.words;
      end = c.in_ok-end.end;
      written = c.in_ok-end.ensures.ok;
      listed = c.put_on_written.new.words;
      adds = c.put_on_written.ensures.adds;
      put = subst (λ (k : ℕ). IsPutOn (SpeaksOf (constraint_at mid.region c.in_ok-end.end)) c.write_constraint.new.words c.put_on_written.new.words k true) c.count-number.ensures.len put;
      added = c.in_ok-push.ensures.ok;
      advances = through c.args.words.now c.put_on_written.new.words c.push.new.self (through c.args.words.now c.write_constraint.new.words c.put_on_written.new.words c.in_ok-end.ensures.ok.advances c.put_on_written.ensures.adds.advances) c.in_ok-push.ensures.advances;
    }

pub returns-clause-advances : goal.returns-clause-advances
returns-clause-advances c = through c.args.words.now c.put_on_written.new.words c.push.new.self (through c.args.words.now c.write_constraint.new.words c.put_on_written.new.words c.in_ok-end.ensures.ok.advances c.put_on_written.ensures.adds.advances) c.in_ok-push.ensures.advances
