use Rattle.std.proofs.Common.{true, false, subst}
use Rattle.pi_core.specs.CoreTree.{pattern_tree}
use Rattle.pi_unify.specs.Terms.{term_of}
use Rattle.pi_unify.specs.Matching.{slot_terms, GoesBehind, LeavesFewer, EndsBehind, ComesBehind}
use Rattle.pi_unify.proofs.TermValues.{term_given}
use Rattle.pi_unify.proofs.SlotLemmas.{fills_none, fills_then}
use Rattle.pi_unify.proofs.MatchingLemmas.{none_within}
use Rattle.pi_unify.proofs.MatchLoopLemmas.{Goes, Rooted, started, root_fits, not_found, goes_on, all_found, terms_are_told}
use Rattle.pi_unify.proofs.BindLemmas.{if_err}
use Rattle.pi_unify.proofs.matching.match_nested.Goals as goal

pub loop-left-init : goal.loop-left-init
loop-left-init g c = record {
  within = none_within c.new-left.result.items c.new-left.ensures.items;
  fills = fills_none c.args.slots.now.items;
  goes = λ r a slots. started (g.S.StateStore.seen c.args.s.now) c.new-left.result.items _ c.args.slots.now.items c.new-left.ensures.items r slots;
}

pub returns-then-not-branch-clause-terms : goal.returns-then-not-branch-clause-terms
returns-then-not-branch-clause-terms g c = λ t is a held.
    let v = g.S.StateStore.seen c.args.s.now in
    let q = pattern_tree c.args.p.now in
    let w = term_of v c.args.r in
    let old = c.args.slots.now.items in
    let found = c.in_ok-matches_at_root.field-0 in
    let fs = c.loop-left.left.items in
    let at = c.loop-left.at in
    let slots = c.loop-left.slots.items in
    let new = c.matches_at_root.new.slots.items in
    let goes : Goes v fs at q w old slots = c.loop-left.invariant.goes (term_given v c.args.r t is) a held in
    let rooted : Rooted v at slots new found = record { given = c.matches_at_root.ensures.given goes.given goes.slots_given; tells = c.in_ok-matches_at_root.ensures.found goes.given a goes.slots_given } in
    terms_are_told v false q c.args.r t (slot_terms v old) (slot_terms v new) is (not_found v fs at q w old slots new found goes c.if-not-branch.true rooted)

pub loop-left-smaller : goal.loop-left-smaller
loop-left-smaller g c = (subst (LeavesFewer _ c.after_root.new.left.items) c.in-Some.is c.in_ok-next.ensures.fewer).nodes

pub loop-left-preserved : goal.loop-left-preserved
loop-left-preserved g c =
    let v = g.S.StateStore.seen c.args.s.now in
    let q = pattern_tree c.args.p.now in
    let w = term_of v c.args.r in
    let old = c.args.slots.now.items in
    let found = c.in_ok-matches_at_root.field-0 in
    let fs = c.loop-left.left.items in
    let rest = c.after_root.new.left.items in
    let at = c.loop-left.at in
    let slots = c.loop-left.slots.items in
    let new = c.matches_at_root.new.slots.items in
    record {
      within = (subst (LeavesFewer _ rest) c.in-Some.is c.in_ok-next.ensures.fewer).within;
      fills = fills_then old slots new c.loop-left.invariant.fills c.matches_at_root.ensures.fills;
      goes = λ r a held.
          let goes : Goes v fs at q w old slots = c.loop-left.invariant.goes r a held in
          let rooted : Rooted v at slots new found = record { given = c.matches_at_root.ensures.given goes.given goes.slots_given; tells = c.in_ok-matches_at_root.ensures.found goes.given a goes.slots_given } in
          let behind : GoesBehind v (pattern_tree at.pattern.now) (term_of v at.term) fs rest c.in-Some.next =
          subst (ComesBehind v (pattern_tree at.pattern.now) (term_of v at.term) fs rest) c.in-Some.is (c.in_ok-next.ensures.comes goes.given a goes.left (root_fits v at slots new found c.if-not-branch.false rooted)) in
          goes_on v fs rest at c.in-Some.next q w old slots new found goes c.if-not-branch.false rooted behind;
    }

pub returns-in-None-clause-terms : goal.returns-in-None-clause-terms
returns-in-None-clause-terms g c = λ t is a held.
    let v = g.S.StateStore.seen c.args.s.now in
    let q = pattern_tree c.args.p.now in
    let w = term_of v c.args.r in
    let old = c.args.slots.now.items in
    let found = c.in_ok-matches_at_root.field-0 in
    let fs = c.loop-left.left.items in
    let at = c.loop-left.at in
    let slots = c.loop-left.slots.items in
    let new = c.matches_at_root.new.slots.items in
    let goes : Goes v fs at q w old slots = c.loop-left.invariant.goes (term_given v c.args.r t is) a held in
    let rooted : Rooted v at slots new found = record { given = c.matches_at_root.ensures.given goes.given goes.slots_given; tells = c.in_ok-matches_at_root.ensures.found goes.given a goes.slots_given } in
    let ends : EndsBehind v (pattern_tree at.pattern.now) (term_of v at.term) fs =
    subst (ComesBehind v (pattern_tree at.pattern.now) (term_of v at.term) fs c.after_root.new.left.items) c.in-None.is (c.in_ok-next.ensures.comes goes.given a goes.left (root_fits v at slots new found c.if-not-branch.false rooted)) in
    terms_are_told v true q c.args.r t (slot_terms v old) (slot_terms v new) is (all_found v fs at q w old slots new found goes c.if-not-branch.false rooted ends)

pub returns-in_err-matches_at_root-clause-fills : goal.returns-in_err-matches_at_root-clause-fills
returns-in_err-matches_at_root-clause-fills g c = fills_then c.args.slots.now.items c.loop-left.slots.items c.matches_at_root.new.slots.items c.loop-left.invariant.fills c.matches_at_root.ensures.fills

pub returns-in_err-matches_at_root-clause-given : goal.returns-in_err-matches_at_root-clause-given
returns-in_err-matches_at_root-clause-given g c = λ r a held.
    let goes = c.loop-left.invariant.goes r a held in
    c.matches_at_root.ensures.given goes.given goes.slots_given

pub returns-in_err-matches_at_root-clause-terms : goal.returns-in_err-matches_at_root-clause-terms
returns-in_err-matches_at_root-clause-terms g c = if_err c.from_residual.result _ c.from_residual.ensures.0

pub returns-then-not-branch-clause-fills : goal.returns-then-not-branch-clause-fills
returns-then-not-branch-clause-fills g c = fills_then c.args.slots.now.items c.loop-left.slots.items c.matches_at_root.new.slots.items c.loop-left.invariant.fills c.matches_at_root.ensures.fills

pub returns-then-not-branch-clause-given : goal.returns-then-not-branch-clause-given
returns-then-not-branch-clause-given g c = λ r a held.
    let goes = c.loop-left.invariant.goes r a held in
    c.matches_at_root.ensures.given goes.given goes.slots_given

pub returns-in_err-next-clause-fills : goal.returns-in_err-next-clause-fills
returns-in_err-next-clause-fills g c = fills_then c.args.slots.now.items c.loop-left.slots.items c.matches_at_root.new.slots.items c.loop-left.invariant.fills c.matches_at_root.ensures.fills

pub returns-in_err-next-clause-given : goal.returns-in_err-next-clause-given
returns-in_err-next-clause-given g c = λ r a held.
    let goes = c.loop-left.invariant.goes r a held in
    c.matches_at_root.ensures.given goes.given goes.slots_given

pub returns-in_err-next-clause-terms : goal.returns-in_err-next-clause-terms
returns-in_err-next-clause-terms g c = if_err c.from_residual-in_err-next.result _ c.from_residual-in_err-next.ensures.0

pub returns-in-None-clause-fills : goal.returns-in-None-clause-fills
returns-in-None-clause-fills g c = fills_then c.args.slots.now.items c.loop-left.slots.items c.matches_at_root.new.slots.items c.loop-left.invariant.fills c.matches_at_root.ensures.fills

pub returns-in-None-clause-given : goal.returns-in-None-clause-given
returns-in-None-clause-given g c = λ r a held.
    let goes = c.loop-left.invariant.goes r a held in
    c.matches_at_root.ensures.given goes.given goes.slots_given
