use Rattle.std.proofs.Common.{◌+◌, ◌*◌, ◌<◌, ◌≤◌, length, arith}
use Rattle.pi_store_blocks.proofs.TermLemmas.{term_read, terms_read}
use Rattle.pi_store_blocks.proofs.constraints.terms.read_terms.Goals as goal

pub loop-k-preserved : goal.loop-k-preserved
loop-k-preserved c =
    let within : c.args.from + 2 * c.loop-k.k + 1 < length c.args.block.now = omega arith in
    term_read c.args.block.now c.args.from c.loop-k.k c.loop-k.terms c.push.new.self _ c.read_term.result c.in_ok-push.ensures.ok c.read_term.ensures within c.loop-k.invariant

pub returns : goal.returns
returns c =
    let past : length c.args.block.now ≤ c.args.from + 2 * c.loop-k.k + 1 = omega arith in
    terms_read c.args.block.now c.args.from c.loop-k.k c.loop-k.terms _ past c.loop-k.invariant
