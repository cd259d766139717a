use Rattle.std.proofs.Common.{arith, ◌<◌, length, refl}
use Rattle.std.proofs.lemmas.List.Elements.{All-push}
use Rattle.pi_prop_filters.specs.Intervals.{IsEnds}
use Rattle.pi_prop_filters.proofs.EndLemmas.{ends_more, ends_all}
use Rattle.pi_prop_filters.proofs.ends.all_ends.Goals as goal

pub loop-k-init : goal.loop-k-init
loop-k-init g c = rw c.new-ends.ensures.items (record { all = refl; ends = λ k d l. absurd (omega arith) })

pub loop-k-preserved : goal.loop-k-preserved
loop-k-preserved g c =
    let ds = g.P.Places.domains c.args.places.now in
    let inside : c.loop-k.k < length ds = omega (arith, c.loop-k-test.true, c.count-k-end.ensures) in
    rw c.in_ok-push.ensures.items (record {
      all = ends_more ds c.loop-k.k c.loop-k.ends.items c.ends_at.result inside c.loop-k.invariant.all c.ends_at.ensures.is;
      ends = All-push IsEnds c.loop-k.ends.items c.ends_at.result c.loop-k.invariant.ends c.ends_at.ensures.ends;
    })

pub returns-clause-all : goal.returns-clause-all
returns-clause-all g c = ends_all (g.P.Places.domains c.args.places.now) c.loop-k.k c.loop-k.ends.items (omega (arith, c.loop-k-test.false, c.count-k-end.ensures)) c.loop-k.invariant.all

pub returns-clause-ends : goal.returns-clause-ends
returns-clause-ends g c = c.loop-k.invariant.ends
