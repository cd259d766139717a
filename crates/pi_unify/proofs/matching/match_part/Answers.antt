use Rattle.pi_constraints.specs.State.{bindings}
use Rattle.pi_unify.specs.Terms.{term_of}
use Rattle.pi_unify.specs.Matching.{slot_terms}
use Rattle.pi_unify.proofs.TermValues.{term_given}
use Rattle.pi_unify.proofs.MatchingLemmas.{if_ok}
use Rattle.pi_unify.proofs.MatchLoopLemmas.{terms_are_told}
use Rattle.pi_unify.proofs.ArgumentLemmas.{leaf_told}
use Rattle.pi_core.specs.CoreTree.{pattern_tree}
use Rattle.pi_unify.proofs.matching.match_part.Goals as goal

pub returns-in-Slot-clause-terms : goal.returns-in-Slot-clause-terms
returns-in-Slot-clause-terms g c =
    let v = g.S.StateStore.seen c.args.s.now in
    let e = slot_terms v c.args.slots.now.items in
    let f = slot_terms v c.matches_at_root.new.slots.items in
    if_ok c.matches_at_root.result _ _ (λ found told t is a held.
    terms_are_told v found (pattern_tree c.args.p.now) c.args.r t e f is
    (leaf_told found (bindings v.now.state) c.args.p.now (term_of v c.args.r) e f c.in-Slot.is (told (term_given v c.args.r t is) a held))) c.matches_at_root.ensures.found
