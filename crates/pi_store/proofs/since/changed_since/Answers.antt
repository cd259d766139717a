use Rattle.std.proofs.Common.{◌≡◌, ℕ, List, subst, rules}
use Rattle.pi_region.specs.Back.{at_length}
use Rattle.pi_region.specs.Changes.{LeadsBack}
use Rattle.pi_store.proofs.SinceLemmas.{begins, goes_on, ends}
use Rattle.pi_store.proofs.since.changed_since.Goals as goal

pub loop-n-init : goal.loop-n-init
loop-n-init c = begins c.args.words.now c.in_ok-changes.changes.count c.into_iter-n-iterator.result c.new-found.result c.new-found.ensures

pub loop-n-preserved : goal.loop-n-preserved
loop-n-preserved c =
    goes_on c.args.words.now c.in_ok-changes.changes.count c.into_iter-n-iterator.result c.loop-n.n-iterator c.next.new.self c.loop-n.found c.push_if.new.found c.in-Some.n.now c.in-Some.old.now c.in_ok-changed.changed
    c.loop-n.invariant c.in-Some.ensures.steps c.in_ok-changed.ensures c.in_ok-push_if.ensures

pub returns : goal.returns
returns c =
    let notes : List (ℕ × ℕ) = c.into_iter-n-iterator.result in
    let all : c.in_ok-changes.changes.words.entries ≡ notes = search rules in
    record {
      count = c.in_ok-changes.changes.count;
      notes = notes;
      leads = subst (LeadsBack (at_length c.args.len c.args.words.now).variables c.args.words.now.variables c.in_ok-changes.changes.count) all c.in_ok-changes.ensures;
      picks = ends c.args.words.now c.in_ok-changes.changes.count notes c.loop-n.n-iterator c.loop-n.found c.loop-n.invariant c.in-None.ensures.steps.0;
    }
