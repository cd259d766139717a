use Rattle.pi_core.specs.CoreTree.{pattern_tree}
use Rattle.pi_constraints.specs.State.{bindings}
use Rattle.pi_unify.specs.Matching.{slot_terms}
use Rattle.pi_unify.proofs.MatchingLemmas.{if_ok}
use Rattle.pi_unify.proofs.MatchLoopLemmas.{values_told}
use Rattle.pi_unify.proofs.matching.match_head.Goals as goal

pub returns-clause-values : goal.returns-clause-values
returns-clause-values g c =
    let v = g.S.StateStore.seen c.args.s.now in
    if_ok c.match_pattern.result _ _ (λ found told t is a held.
    values_told found (bindings v.now.state) (pattern_tree c.args.p.now) t (slot_terms v c.args.slots.now.items) (slot_terms v c.match_pattern.new.slots.items) a (told t is a held)) c.match_pattern.ensures.terms
