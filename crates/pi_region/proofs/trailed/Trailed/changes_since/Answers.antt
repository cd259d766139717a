use Rattle.pi_region.proofs.NotedLemmas.{begins, goes_on, comes_nearer, arrived}
use Rattle.pi_region.proofs.trailed.Trailed.changes_since.Goals as goal

pub loop-end-init : goal.loop-end-init
loop-end-init c = begins c.args.self.now c.args.len c.end-end.result c.count.result c.new.result.entries c.end-end.ensures c.count.ensures.len c.new.ensures.empty

pub loop-end-preserved : goal.loop-end-preserved
loop-end-preserved c =
    let h = c.loop-end.invariant in
    goes_on c.args.self.now c.args.len c.loop-end.end c.loop-end.found.count c.end_before-end.result c.note.new.found.count c.loop-end.found.words.entries c.note.new.found.words.entries h c.loop-end-test.true
    (c.end_before-end.ensures h.image h.region h.trail) (c.in_ok-note.ensures h.image c.args.self.now.variables h.region h.trail h.leads)

pub loop-end-smaller : goal.loop-end-smaller
loop-end-smaller c =
    let h = c.loop-end.invariant in
    comes_nearer c.args.self.now c.args.len c.loop-end.end c.loop-end.found.count c.end_before-end.result c.loop-end.found.words.entries h c.loop-end-test.true (c.end_before-end.ensures h.image h.region h.trail)

pub returns : goal.returns
returns c = arrived c.args.self.now c.args.len c.loop-end.end c.loop-end.found.count c.loop-end.found.words.entries c.loop-end.invariant c.loop-end-test.false
