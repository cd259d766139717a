use Rattle.std.proofs.Common.{◌<◌, length, arith}
use Rattle.pi_store_blocks.proofs.EventLemmas.{watch_written, slots_more}
use Rattle.pi_store_blocks.proofs.agents.write.append_watches.Goals as goal

pub loop-watch-preserved : goal.loop-watch-preserved
loop-watch-preserved c =
    let within : c.loop-watch.watch-index < length c.args.watches.now = omega arith in
    record {
      words = watch_written _ _ _ c.args.watches.now c.loop-watch.watch-index _ within c.loop-watch.invariant.words c.in_ok-append_watch.ensures.ok;
      slots = slots_more c.args.watches.now c.loop-watch.watch-index _ within c.loop-watch.invariant.slots c.in_ok-append_watch.ensures.slots;
    }
