use Rattle.std.proofs.Common.{◌≡◌, ◌+◌, ◌*◌, ◌<◌, ◌≤◌, min, List, ℕ, length, take, sym, ◌∙◌, arith}
use Rattle.std.proofs.lemmas.List.{length-take}
use Rattle.pi_store_blocks.proofs.EventLemmas.{watch_read, watches_read, watch_cut}
use Rattle.pi_store_blocks.proofs.agents.read.watches_between.Goals as goal

pub loop-k-preserved : goal.loop-k-preserved
loop-k-preserved c =
    let ws : List ℕ = c.args.words.now.region in
    let at : ℕ = c.args.start + 2 * c.loop-k.k in
    let cut : length (take c.args.last ws) ≡ min c.args.last (length ws) = length-take c.args.last ws in
    let within : at + 1 < c.args.last = omega arith in
    let inside : at + 1 < length (take c.args.last ws) = omega arith in
    watch_read (take c.args.last ws) c.args.start c.loop-k.k c.loop-k.watches c.push.new.self _ c.watch_at.result c.in_ok-push.ensures.ok (c.watch_at.ensures ∙ sym (watch_cut c.args.last at ws within)) inside c.loop-k.invariant

pub returns : goal.returns
returns c =
    let ws : List ℕ = c.args.words.now.region in
    let cut : length (take c.args.last ws) ≡ min c.args.last (length ws) = length-take c.args.last ws in
    let past : length (take c.args.last ws) ≤ c.args.start + 2 * c.loop-k.k + 1 = omega arith in
    watches_read (take c.args.last ws) c.args.start c.loop-k.k c.loop-k.watches _ past c.loop-k.invariant
