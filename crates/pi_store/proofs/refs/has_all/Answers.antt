use Rattle.std.proofs.Common.{◌<◌, length, refl, arith}
use Rattle.pi_store.specs.Holding.{heap_of}
use Rattle.pi_store.proofs.RefLemmas.{ref_at, refs_on}
use Rattle.pi_store.proofs.refs.has_all.Goals as goal

pub returns-then-not-has : goal.returns-then-not-has
returns-then-not-has c = λ cells.
    let lt : c.loop-r.r-index < length c.args.refs.now = omega arith in
    (λ e. absurd (cc), λ are. (c.if-not-has.ensures cells).1 (ref_at (heap_of c.args.names.now c.args.words.now) c.args.refs.now c.loop-r.r-index _ lt are))

pub loop-r-preserved : goal.loop-r-preserved
loop-r-preserved c = λ cells.
    let lt : c.loop-r.r-index < length c.args.refs.now = omega arith in
    refs_on (heap_of c.args.names.now c.args.words.now) c.args.refs.now c.loop-r.r-index _ lt (c.loop-r.invariant cells) ((c.if-not-has.ensures cells).0 refl)
