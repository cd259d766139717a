use Rattle.std.proofs.Common.{length, arith, refl}
use Rattle.pi_unify.specs.Terms.{term_of}
use Rattle.pi_unify.specs.Matching.{pending_match, slot_terms}
use Rattle.pi_unify.specs.declared.matching.Pending.{Pending}
use Rattle.pi_unify.specs.declared.matching.Arguments.{Arguments}
use Rattle.pi_unify.proofs.TermValues.{given_term}
use Rattle.pi_unify.proofs.SlotLemmas.{fills_none, fills_then}
use Rattle.pi_unify.proofs.MatchingLemmas.{IsNext, next_is}
use Rattle.pi_unify.proofs.MatchLoopLemmas.{false_told, true_told}
use Rattle.pi_unify.proofs.ArgumentLemmas.{Along, along_first, along_next, along_fails, along_ends}
use Rattle.pi_unify.proofs.BindLemmas.{if_err}
use Rattle.pi_unify.proofs.matching.match_arguments.Goals as goal

pub loop-i-init : goal.loop-i-init
loop-i-init g c = record {
  fills = fills_none c.args.slots.now.items;
  along = λ given a many held. along_first (g.S.StateStore.seen c.args.s.now) c.args.patterns.now c.args.of c.args.slots.now.items held;
}

pub returns-then-not-branch-clause-fills : goal.returns-then-not-branch-clause-fills
returns-then-not-branch-clause-fills g c = fills_then c.args.slots.now.items c.loop-i.slots.items c.match_part.new.slots.items c.loop-i.invariant.fills c.match_part.ensures.fills

pub returns-in_err-match_part-clause-given : goal.returns-in_err-match_part-clause-given
returns-in_err-match_part-clause-given g c = λ given a many held.
    let v = g.S.StateStore.seen c.args.s.now in
    let along : Along v c.args.patterns.now c.args.of c.loop-i.i c.args.slots.now.items c.loop-i.slots.items = c.loop-i.invariant.along given a many held in
    let f : Arguments = record { patterns = c.args.patterns; of = c.args.of; next = c.loop-i.i; count = length c.args.patterns.now } in
    let p : Pending = record { pattern = c.pattern_at-pattern.result; term = c.arg-term.result } in
    let next : IsNext v f p = next_is v f p a (record { count = refl; within = omega arith }) (record { given = given; many = many }) c.pattern_at-pattern.ensures c.arg-term.ensures in
    c.match_part.ensures.given next.given a along.given

pub returns-then-not-branch-clause-given : goal.returns-then-not-branch-clause-given
returns-then-not-branch-clause-given g c = λ given a many held.
    let v = g.S.StateStore.seen c.args.s.now in
    let along : Along v c.args.patterns.now c.args.of c.loop-i.i c.args.slots.now.items c.loop-i.slots.items = c.loop-i.invariant.along given a many held in
    let f : Arguments = record { patterns = c.args.patterns; of = c.args.of; next = c.loop-i.i; count = length c.args.patterns.now } in
    let p : Pending = record { pattern = c.pattern_at-pattern.result; term = c.arg-term.result } in
    let next : IsNext v f p = next_is v f p a (record { count = refl; within = omega arith }) (record { given = given; many = many }) c.pattern_at-pattern.ensures c.arg-term.ensures in
    c.match_part.ensures.given next.given a along.given

pub returns-then-not-branch-clause-found : goal.returns-then-not-branch-clause-found
returns-then-not-branch-clause-found g c = λ given a many held.
    let v = g.S.StateStore.seen c.args.s.now in
    let along : Along v c.args.patterns.now c.args.of c.loop-i.i c.args.slots.now.items c.loop-i.slots.items = c.loop-i.invariant.along given a many held in
    let f : Arguments = record { patterns = c.args.patterns; of = c.args.of; next = c.loop-i.i; count = length c.args.patterns.now } in
    let p : Pending = record { pattern = c.pattern_at-pattern.result; term = c.arg-term.result } in
    let next : IsNext v f p = next_is v f p a (record { count = refl; within = omega arith }) (record { given = given; many = many }) c.pattern_at-pattern.ensures c.arg-term.ensures in
    along_fails v f p c.args.slots.now.items c.loop-i.slots.items next along
    (false_told c.in_ok-match_part.field-0 (pending_match v p (slot_terms v c.loop-i.slots.items)) (slot_terms v c.match_part.new.slots.items) c.if-not-branch.true (c.in_ok-match_part.ensures.terms (term_of v p.term) (given_term v p.term next.given) a along.given))

pub loop-i-preserved : goal.loop-i-preserved
loop-i-preserved g c =
    let v = g.S.StateStore.seen c.args.s.now in
    let old = c.args.slots.now.items in
    let slots = c.loop-i.slots.items in
    let new = c.match_part.new.slots.items in
    record {
      fills = fills_then old slots new c.loop-i.invariant.fills c.match_part.ensures.fills;
      along = λ given a many held.
          let along : Along v c.args.patterns.now c.args.of c.loop-i.i old slots = c.loop-i.invariant.along given a many held in
          let f : Arguments = record { patterns = c.args.patterns; of = c.args.of; next = c.loop-i.i; count = length c.args.patterns.now } in
          let p : Pending = record { pattern = c.pattern_at-pattern.result; term = c.arg-term.result } in
          let next : IsNext v f p = next_is v f p a (record { count = refl; within = omega arith }) (record { given = given; many = many }) c.pattern_at-pattern.ensures c.arg-term.ensures in
          along_next v f p old slots new next along (c.match_part.ensures.given next.given a along.given)
          (true_told c.in_ok-match_part.field-0 (pending_match v p (slot_terms v slots)) (slot_terms v new) c.if-not-branch.false (c.in_ok-match_part.ensures.terms (term_of v p.term) (given_term v p.term next.given) a along.given));
    }

pub returns-clause-found : goal.returns-clause-found
returns-clause-found g c = λ given a many held.
    let v = g.S.StateStore.seen c.args.s.now in
    along_ends v c.args.patterns.now c.args.of c.loop-i.i c.args.slots.now.items c.loop-i.slots.items (omega (arith, c.loop-i-test.false, c.loop-i.auto.i-end)) many (c.loop-i.invariant.along given a many held)

pub returns-in_err-match_part-clause-fills : goal.returns-in_err-match_part-clause-fills
returns-in_err-match_part-clause-fills g c = fills_then c.args.slots.now.items c.loop-i.slots.items c.match_part.new.slots.items c.loop-i.invariant.fills c.match_part.ensures.fills

pub returns-in_err-match_part-clause-found : goal.returns-in_err-match_part-clause-found
returns-in_err-match_part-clause-found g c = if_err c.from_residual.result _ c.from_residual.ensures.0

pub returns-clause-fills : goal.returns-clause-fills
returns-clause-fills g c = c.loop-i.invariant.fills

pub returns-clause-given : goal.returns-clause-given
returns-clause-given g c = λ given a many held. (c.loop-i.invariant.along given a many held).given
