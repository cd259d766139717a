use Rattle.std.proofs.Common.{arith}
use Rattle.std.proofs.lemmas.Int.{ints}
use Rattle.pi_prop_places.proofs.OneLemmas.{ends_ordered}
use Rattle.pi_prop_filters.proofs.corners.Ends.at.Goals as goal

pub returns-clause-ordered : goal.returns-clause-ordered
returns-clause-ordered g c =
    let o = ends_ordered _ c.least.ensures.spans in
    let a = c.wide.ensures in
    let b = c.wide-2.ensures in
    let i = c.least.ensures.is in
    let j = c.greatest.ensures.is in
    let v = c.least.ensures.within in
    let w = c.greatest.ensures.within in
    omega (arith, ints)
