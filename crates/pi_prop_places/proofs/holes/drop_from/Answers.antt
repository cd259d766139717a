use Rattle.std.proofs.Common.{◌≡◌, w64, sym}
use Rattle.std.proofs.lemmas.Int.{to_z-of_z}
use Rattle.pi_prop_places.proofs.HoleLemmas.{lies_in, alone, below_end, same_numbers, strictly, bounds_fit, next_back, before_back, next_wrapped_fits, before_wrapped_fits, removed_is, removed_has, first_is, first_has, last_is, last_has, middle_is, middle_has}
use Rattle.pi_prop_places.proofs.holes.drop_from.Goals as goal

pub returns-then-lo-hi-clause-domain : goal.returns-then-lo-hi-clause-domain
returns-then-lo-hi-clause-domain c =
    let e = c.index.result.now in
    let n = c.args.n in
    let s = lies_in c.args.spans.now.items c.args.at c.index.result.now c.args.n c.requires.domain c.requires.inside c.index.ensures c.requires.low c.requires.high in
    let at = alone e n s c.if-lo-hi.true in
    removed_is c.args.spans.now.items c.remove.new.self.items c.args.at e n c.requires.domain c.requires.inside c.index.ensures at.0 at.1 c.remove.ensures.items

pub returns-then-lo-n-clause-domain : goal.returns-then-lo-n-clause-domain
returns-then-lo-n-clause-domain c =
    let e = c.index.result.now in
    let n = c.args.n in
    let s = lies_in c.args.spans.now.items c.args.at c.index.result.now c.args.n c.requires.domain c.requires.inside c.index.ensures c.requires.low c.requires.high in
    let at : e.lo ≡ n = same_numbers e.lo n (bounds_fit e.lo s.lo) (bounds_fit n s.is) c.if-lo-n.true in
    first_is c.args.spans.now.items c.args.at e n _ _ c.requires.domain c.requires.inside c.index.ensures at (below_end e n s c.if-lo-hi.false at) (next_back n s.is) (to_z-of_z w64 e.hi (bounds_fit e.hi s.hi))

pub returns-then-n-hi-clause-domain : goal.returns-then-n-hi-clause-domain
returns-then-n-hi-clause-domain c =
    let e = c.index.result.now in
    let n = c.args.n in
    let s = lies_in c.args.spans.now.items c.args.at c.index.result.now c.args.n c.requires.domain c.requires.inside c.index.ensures c.requires.low c.requires.high in
    let at : e.hi ≡ n = sym (same_numbers n e.hi (bounds_fit n s.is) (bounds_fit e.hi s.hi) c.if-n-hi.true) in
    last_is c.args.spans.now.items c.args.at e n _ _ c.requires.domain c.requires.inside c.index.ensures at (strictly e.lo n s.low c.if-lo-n.false) (to_z-of_z w64 e.lo (bounds_fit e.lo s.lo)) (before_back n s.is)

pub returns-clause-domain : goal.returns-clause-domain
returns-clause-domain c =
    let e = c.index.result.now in
    let n = c.args.n in
    let s = lies_in c.args.spans.now.items c.args.at c.index.result.now c.args.n c.requires.domain c.requires.inside c.index.ensures c.requires.low c.requires.high in
    middle_is c.args.spans.now.items c.insert.new.self.items c.args.at e n _ _ _ _ c.requires.domain c.requires.inside c.index.ensures (strictly e.lo n s.low c.if-lo-n.false) (strictly n e.hi s.high c.if-n-hi.false) (to_z-of_z w64 e.lo (bounds_fit e.lo s.lo)) (before_back n s.is) (next_back n s.is) (to_z-of_z w64 e.hi (bounds_fit e.hi s.hi)) c.in_ok-insert.ensures.items

pub returns-then-lo-hi-clause-values : goal.returns-then-lo-hi-clause-values
returns-then-lo-hi-clause-values c =
    let e = c.index.result.now in
    let n = c.args.n in
    let s = lies_in c.args.spans.now.items c.args.at c.index.result.now c.args.n c.requires.domain c.requires.inside c.index.ensures c.requires.low c.requires.high in
    let at = alone e n s c.if-lo-hi.true in
    removed_has c.args.spans.now.items c.remove.new.self.items c.args.at e n c.requires.domain c.requires.inside c.index.ensures at.0 at.1 c.remove.ensures.items

pub returns-then-lo-n-clause-values : goal.returns-then-lo-n-clause-values
returns-then-lo-n-clause-values c =
    let e = c.index.result.now in
    let n = c.args.n in
    let s = lies_in c.args.spans.now.items c.args.at c.index.result.now c.args.n c.requires.domain c.requires.inside c.index.ensures c.requires.low c.requires.high in
    let at : e.lo ≡ n = same_numbers e.lo n (bounds_fit e.lo s.lo) (bounds_fit n s.is) c.if-lo-n.true in
    first_has c.args.spans.now.items c.args.at e n _ _ c.requires.domain c.requires.inside c.index.ensures at (below_end e n s c.if-lo-hi.false at) (next_back n s.is) (to_z-of_z w64 e.hi (bounds_fit e.hi s.hi))

pub returns-then-n-hi-clause-values : goal.returns-then-n-hi-clause-values
returns-then-n-hi-clause-values c =
    let e = c.index.result.now in
    let n = c.args.n in
    let s = lies_in c.args.spans.now.items c.args.at c.index.result.now c.args.n c.requires.domain c.requires.inside c.index.ensures c.requires.low c.requires.high in
    let at : e.hi ≡ n = sym (same_numbers n e.hi (bounds_fit n s.is) (bounds_fit e.hi s.hi) c.if-n-hi.true) in
    last_has c.args.spans.now.items c.args.at e n _ _ c.requires.domain c.requires.inside c.index.ensures at (strictly e.lo n s.low c.if-lo-n.false) (to_z-of_z w64 e.lo (bounds_fit e.lo s.lo)) (before_back n s.is)

pub returns-clause-values : goal.returns-clause-values
returns-clause-values c =
    let e = c.index.result.now in
    let n = c.args.n in
    let s = lies_in c.args.spans.now.items c.args.at c.index.result.now c.args.n c.requires.domain c.requires.inside c.index.ensures c.requires.low c.requires.high in
    middle_has c.args.spans.now.items c.insert.new.self.items c.args.at e n _ _ _ _ c.requires.domain c.requires.inside c.index.ensures (strictly e.lo n s.low c.if-lo-n.false) (strictly n e.hi s.high c.if-n-hi.false) (to_z-of_z w64 e.lo (bounds_fit e.lo s.lo)) (before_back n s.is) (next_back n s.is) (to_z-of_z w64 e.hi (bounds_fit e.hi s.hi)) c.in_ok-insert.ensures.items

pub overflow_add-n : goal.overflow_add-n
overflow_add-n c =
    let s = lies_in c.args.spans.now.items c.args.at c.index.result.now c.args.n c.requires.domain c.requires.inside c.index.ensures c.requires.low c.requires.high in
    next_wrapped_fits c.args.n s.is

pub overflow_add-n-2 : goal.overflow_add-n-2
overflow_add-n-2 c =
    let s = lies_in c.args.spans.now.items c.args.at c.index.result.now c.args.n c.requires.domain c.requires.inside c.index.ensures c.requires.low c.requires.high in
    next_wrapped_fits c.args.n s.is

pub overflow_sub-n : goal.overflow_sub-n
overflow_sub-n c =
    let s = lies_in c.args.spans.now.items c.args.at c.index.result.now c.args.n c.requires.domain c.requires.inside c.index.ensures c.requires.low c.requires.high in
    before_wrapped_fits c.args.n s.is

pub overflow_sub-n-2 : goal.overflow_sub-n-2
overflow_sub-n-2 c =
    let s = lies_in c.args.spans.now.items c.args.at c.index.result.now c.args.n c.requires.domain c.requires.inside c.index.ensures c.requires.low c.requires.high in
    before_wrapped_fits c.args.n s.is
