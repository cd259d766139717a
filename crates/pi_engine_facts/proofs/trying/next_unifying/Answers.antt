use Rattle.std.proofs.Common.{◌+◌, ◌∙◌, subst, sym, arith, []}
use Rattle.pi_terms.specs.Tree.{comp}
use Rattle.pi_constraints.specs.State.{IsState}
use Rattle.pi_unify.proofs.KeepsLemmas.{stays_then}
use Rattle.pi_engine_facts.specs.Keyed.{HaveKeys}
use Rattle.pi_engine_facts.proofs.KeyedLemmas.{keys-kept}
use Rattle.pi_engine_facts.proofs.TryingLemmas.{Tried, tried-none, tried-more, tried-passed, tried-found, tried-all}
use Rattle.pi_engine_facts.proofs.trying.next_unifying.Goals as goal

pub loop-number-init : goal.loop-number-init
loop-number-init g c = λ ts state asked.
    let v = g.S.StateStore.seen c.args.s.now in
    let facts = c.args.facts.now in
    let known = HaveKeys v.names facts.keys.now facts.predicate facts.clauses.now facts.first in
    tried-passed known v v ts facts.clauses.now facts.first c.args.from facts.end c.args.from c.next_alike-number.result (tried-none known v ts facts.clauses.now facts.first c.args.from facts.end) c.next_alike-number.ensures.from_on
    (λ keys low ends. c.next_alike-number.ensures.passed ts state asked keys low ends)

pub returns-then-branch-clause-stays : goal.returns-then-branch-clause-stays
returns-then-branch-clause-stays g c = λ ts state asked.
    let seen = g.S.StateStore.seen in
    let v = seen c.args.s.now in
    let w = seen c.loop-number.s in
    let tried = c.loop-number.invariant ts state asked in
    stays_then v w (seen c.unifies_at.new.s) v.now.state tried.stays (c.in_ok-unifies_at.ensures.stays ts (subst IsState (sym tried.stays.state) state) (tried.stays.keeps.terms c.args.call (comp [] ts) asked))

pub returns-then-branch-clause-found : goal.returns-then-branch-clause-found
returns-then-branch-clause-found g c = λ ts state asked keys low ends.
    let seen = g.S.StateStore.seen in
    let v = seen c.args.s.now in
    let w = seen c.loop-number.s in
    let facts = c.args.facts.now in
    let known = HaveKeys v.names facts.keys.now facts.predicate facts.clauses.now facts.first in
    let tried = c.loop-number.invariant ts state asked in
    tried-found known v w ts facts.clauses.now facts.first c.args.from facts.end c.loop-number.number c.saturating_sub.result c.loop-number-test.true (omega (arith, c.saturating_sub.ensures)) tried
    (λ d at. sym c.if-branch.true ∙ c.in_ok-unifies_at.ensures.tells ts d (subst IsState (sym tried.stays.state) state) (tried.stays.keeps.terms c.args.call (comp [] ts) asked) at) keys low ends

pub loop-number-preserved : goal.loop-number-preserved
loop-number-preserved g c = λ ts state asked.
    let seen = g.S.StateStore.seen in
    let v = seen c.args.s.now in
    let w = seen c.loop-number.s in
    let u = seen c.unifies_at.new.s in
    let facts = c.args.facts.now in
    let known = HaveKeys v.names facts.keys.now facts.predicate facts.clauses.now facts.first in
    let tried = c.loop-number.invariant ts state asked in
    let sound = subst IsState (sym tried.stays.state) state in
    let also = tried.stays.keeps.terms c.args.call (comp [] ts) asked in
    let more : Tried known v u ts facts.clauses.now facts.first c.args.from facts.end (c.loop-number.number + 1) =
    tried-more known v w u ts facts.clauses.now facts.first c.args.from facts.end c.loop-number.number c.saturating_sub.result c.loop-number-test.true (omega (arith, c.saturating_sub.ensures)) tried (c.in_ok-unifies_at.ensures.stays ts sound also)
    (λ d at. sym c.if-branch.false ∙ c.in_ok-unifies_at.ensures.tells ts d sound also at) in
    tried-passed known v u ts facts.clauses.now facts.first c.args.from facts.end (c.loop-number.number + 1) c.next_alike-number-in-loop-number.result more c.next_alike-number-in-loop-number.ensures.from_on
    (λ keys low ends.
    c.next_alike-number-in-loop-number.ensures.passed ts (subst IsState (sym more.stays.state) state) (more.stays.keeps.terms c.args.call (comp [] ts) asked)
    (keys-kept v u facts.keys.now facts.predicate facts.first facts.clauses.now more.stays.keeps keys) low ends)

pub returns-clause-stays : goal.returns-clause-stays
returns-clause-stays g c = λ ts state asked. (c.loop-number.invariant ts state asked).stays

pub returns-clause-found : goal.returns-clause-found
returns-clause-found g c = λ ts state asked keys low ends.
    let v = g.S.StateStore.seen c.args.s.now in
    let facts = c.args.facts.now in
    tried-all (HaveKeys v.names facts.keys.now facts.predicate facts.clauses.now facts.first) v (g.S.StateStore.seen c.loop-number.s) ts facts.clauses.now facts.first c.args.from facts.end c.loop-number.number (omega (arith, c.loop-number-test.false)) (c.loop-number.invariant ts state asked) keys low ends
