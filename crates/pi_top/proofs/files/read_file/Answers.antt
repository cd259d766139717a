use Rattle.std.proofs.Common.{◌≡◌, ◌<◌, ◌≤◌, ℕ, List, [], length, take, refl, sym, ap, subst, arith}
use Rattle.std.proofs.lemmas.Grind.{common_steps}
use Rattle.std.proofs.lemmas.Result.{err_from_is_err_and}
use Rattle.pi_outside.proofs.Held.{HasPiece-none, HasPiece-keeps}
use Rattle.pi_outside.proofs.ReadRuns.{ByReads-none, ByReads-more, ByReads-so}
use Rattle.pi_top.specs.declared.files.FileStop.TheVariants.{Memory}
use Rattle.pi_top.specs.Reading.{ReadsOn, nothing, too_long}
use Rattle.pi_top.specs.Texts.{most_bytes}
use Rattle.pi_top.proofs.FileReads.{whole-read, long-read, more-read, reads-more, reads-end, reads-fail}
use Rattle.pi_top.proofs.files.read_file.Goals as goal

pub loop-piece-init : goal.loop-piece-init
loop-piece-init g c =
    let empty : c.new-bytes.result.items ≡ [] = c.new-bytes.ensures.items in
    let no_bytes : length c.new-bytes.result.items ≡ 0 = ap length empty in
    record {
      no_fault = refl;
      reads = ByReads-none g.F.Files.has_read c.args.files.now (ReadsOn c.args.name.now c.new-bytes.result.items) (subst (λ (l : List ℕ). ReadsOn c.args.name.now l []) (sym empty) nothing);
      has = rw empty (HasPiece-none (g.F.Files.held c.args.files.now) c.args.name.now 0);
      there = λ some. absurd (omega (arith, some, no_bytes));
      room = omega arith;
    }

pub returns-in_default-clause-reads : goal.returns-in_default-clause-reads
returns-in_default-clause-reads g c =
    let l = c.loop-piece in
    ByReads-more _ l.invariant.reads c.in_default.ensures.did (λ reads so_far.
    reads-fail c.args.name.now l.bytes.items c.len-at.result (length l.piece) reads (omega (arith, c.len-at.ensures)) so_far)

pub returns-then-count-eq0-clause-reads : goal.returns-then-count-eq0-clause-reads
returns-then-count-eq0-clause-reads g c =
    let l = c.loop-piece in
    ByReads-more _ l.invariant.reads (rw c.if-count-eq0.true at c.in-Ok.ensures.did) (λ reads so_far.
    reads-end c.args.name.now l.bytes.items c.len-at.result (length l.piece) reads (omega (arith, c.len-at.ensures)) l.invariant.room so_far)

pub returns-then-count-eq0-clause-read : goal.returns-then-count-eq0-clause-read
returns-then-count-eq0-clause-read g c =
    let l = c.loop-piece in
    let file = g.F.Files.held c.read_at.new.self in
    let ends = c.in-Ok.ensures.end c.if-count-eq0.true l.invariant.room in
    whole-read file c.args.name.now l.bytes.items c.len-at.result (omega (arith, c.len-at.ensures))
    (HasPiece-keeps l.invariant.has c.in-Ok.ensures.keeps) ends c.in-Ok.ensures.there

pub returns-in_err-extend_from_slice-clause-reads : goal.returns-in_err-extend_from_slice-clause-reads
returns-in_err-extend_from_slice-clause-reads g c =
    let l = c.loop-piece in
    let bytes = take c.in-Ok.count c.read_at.new.into in
    let some : 0 < length bytes = grind (arith, common_steps) in
    let within : length l.bytes.items ≤ most_bytes = omega (arith, c.len.ensures, c.loop-piece-test.true) in
    let p = err_from_is_err_and c.from_residual.result c.from_residual.ensures.1 in
    let memory : p.0 ≡ Memory = p.2 in
    rw (p.1, memory) (ByReads-more _ l.invariant.reads c.in-Ok.ensures.did (λ reads so_far.
    record { text = _; read = reads-more c.args.name.now l.bytes.items bytes c.len-at.result (length l.piece) reads (omega (arith, c.len-at.ensures)) within some so_far }))

pub loop-piece-preserved : goal.loop-piece-preserved
loop-piece-preserved g c =
    let l = c.loop-piece in
    let bytes = take c.in-Ok.count c.read_at.new.into in
    let some : 0 < length bytes = grind (arith, common_steps) in
    let within : length l.bytes.items ≤ most_bytes = omega (arith, c.len.ensures, c.loop-piece-test.true) in
    record {
      no_fault = grind (arith, common_steps);
      reads = rw c.in_ok-extend_from_slice.ensures.items (ByReads-more _ l.invariant.reads c.in-Ok.ensures.did (λ reads so_far.
          reads-more c.args.name.now l.bytes.items bytes c.len-at.result (length l.piece) reads (omega (arith, c.len-at.ensures)) within some so_far));
      has = rw c.in_ok-extend_from_slice.ensures.items
          (more-read (g.F.Files.held l.files) (g.F.Files.held c.read_at.new.self) c.args.name.now l.bytes.items (take c.in-Ok.count c.read_at.new.into) c.len-at.result
          (omega (arith, c.len-at.ensures)) l.invariant.has c.in-Ok.ensures.keeps c.in-Ok.ensures.piece);
      there = λ some. c.in-Ok.ensures.there;
      room = omega (arith, c.read_at.auto.into, l.invariant.room);
    }

pub returns-clause-reads : goal.returns-clause-reads
returns-clause-reads g c =
    let l = c.loop-piece in
    let long : most_bytes < length l.bytes.items = omega (arith, c.len.ensures, c.loop-piece-test.false) in
    ByReads-so l.invariant.reads (λ reads so_far. too_long long so_far)

pub returns-clause-read : goal.returns-clause-read
returns-clause-read g c =
    let l = c.loop-piece in
    let long : most_bytes < length l.bytes.items = omega (arith, c.len.ensures, c.loop-piece-test.false) in
    long-read (g.F.Files.held l.files) c.args.name.now l.bytes.items long l.invariant.has (l.invariant.there (omega (arith, long)))
