use Rattle.std.proofs.Common.{◌≡◌, ◌-◌, length, arith}
use Rattle.pi_store_blocks.proofs.BlockLemmas.{closes}
use Rattle.pi_store_blocks.proofs.written.close.Goals as goal

pub returns-in-Ok-clause-ok : goal.returns-in-Ok-clause-ok
returns-in-Ok-clause-ok c = λ before numbers b o.
    let count : c.saturating_sub-count.result ≡ length c.args.words.now.region - c.args.start = omega arith in
    closes before c.args.words.now c.append_count.new.words numbers c.args.start c.saturating_sub-count.result c.len-in-Ok.result b o count c.in-Ok.ensures.ok c.len-in-Ok.ensures.len
