use Rattle.std.proofs.Common.{subst, arith}
use Rattle.pi_terms.proofs.TermLemmas.{cells-positive}
use Rattle.pi_unify.specs.Terms.{value_of}
use Rattle.pi_unify.specs.Copying.{ListsAll, GoesOnListing}
use Rattle.pi_unify.proofs.ListingLemmas.{listing_none, cells_listed}
use Rattle.pi_unify.proofs.copying.list_nodes.Goals as goal

pub loop-at-init : goal.loop-at-init
loop-at-init g c = λ none given a.
    listing_none (g.S.StateStore.seen c.args.s.now) c.args.nodes.now.refs.items c.args.nodes.now.numbers c.args.nodes.now.left.items c.args.r none.refs none.numbers none.left given

pub returns-then-len-ge-MOST_CELLS-clause-shows : goal.returns-then-len-ge-MOST_CELLS-clause-shows
returns-then-len-ge-MOST_CELLS-clause-shows g c = λ none given a.
    let v = g.S.StateStore.seen c.args.s.now in
    let all = cells_listed v c.loop-at.nodes.refs.items c.loop-at.nodes.numbers c.loop-at.nodes.left.items c.loop-at.at c.args.r (c.loop-at.invariant none given a) in
    omega (arith, all, c.len.ensures, c.loop-at.nodes.refs.ok.0, cells-positive (value_of v c.loop-at.at))

pub loop-at-preserved : goal.loop-at-preserved
loop-at-preserved g c = λ none given a.
    let v = g.S.StateStore.seen c.args.s.now in
    let nodes = c.list_node.new.nodes in
    subst (GoesOnListing v nodes.refs.items nodes.numbers nodes.left.items c.args.r) c.in-Some.is (c.in_ok-next.ensures.lists c.args.r a (c.loop-at.invariant none given a))

pub returns-in-None-clause-shows : goal.returns-in-None-clause-shows
returns-in-None-clause-shows g c = λ none given a.
    let v = g.S.StateStore.seen c.args.s.now in
    let nodes = c.list_node.new.nodes in
    let all : ListsAll v nodes.refs.items nodes.numbers c.args.r = subst (GoesOnListing v nodes.refs.items nodes.numbers nodes.left.items c.args.r) c.in-None.is (c.in_ok-next.ensures.lists c.args.r a (c.loop-at.invariant none given a)) in
    record { given = all.given; listed = all.listed; numbers = all.numbers; few = omega (arith, all.many, c.in_ok-next.ensures.one, c.len.ensures, c.loop-at.nodes.refs.ok.0) }
