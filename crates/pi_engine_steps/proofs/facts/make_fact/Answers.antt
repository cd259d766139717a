use Rattle.std.proofs.Common.{◌≡◌, true, sym, subst, rules, List, []}
use Rattle.std.specs.Prelude.{option_and_then, replicate, None}
use Rattle.pi_constraints.specs.State.{IsState}
use Rattle.pi_core.specs.CoreTree.{clause_tree, pattern_trees}
use Rattle.pi_core.specs.declared.core_program.Pattern.{Pattern}
use Rattle.pi_terms.specs.Tree.{comp}
use Rattle.pi_meaning.specs.CoreMeaning.Facts.{fact_terms, unified_with}
use Rattle.pi_meaning.specs.Machine.Step.{with_fact}
use Rattle.pi_unify.specs.Answers.{Answers}
use Rattle.pi_unify.proofs.KeepsLemmas.{keeps_then}
use Rattle.pi_engine_settle.specs.Settles.{LeftBy}
use Rattle.pi_engine_settle.proofs.LeftLemmas.{left-by, left-tried}
use Rattle.pi_engine_settle.proofs.MarkLemmas.{since-stays}
use Rattle.pi_engine_stands.specs.Settling.{NextAfter}
use Rattle.pi_engine_steps.proofs.facts.make_fact.Goals as goal

pub returns-clause-takes : goal.returns-clause-takes
returns-clause-takes g c = λ ts rests asked.
    let seen = g.S.StateStore.seen in
    let v = seen c.args.run.now.store in
    let v0 = seen c.begin.new.store in
    let u = seen c.unify_fact.new.s in
    let fact = clause_tree c.args.fact.now in
    let heads : c.as_slice-head.result.now ≡ c.args.fact.now.head.items = search rules in
    let stays = c.begin.ensures.stays in
    let state0 : IsState v0.now.state = subst IsState (sym stays.state) rests.calm.state in
    let answers : Answers (with_fact ts v.now.state fact) c.in_ok-one.one u.now.state =
    subst (λ s. Answers (with_fact ts s fact) c.in_ok-one.one u.now.state) stays.state
    (subst (λ (ps : List Pattern). Answers (option_and_then (unified_with ts) (fact_terms (pattern_trees ps) (replicate c.args.fact.now.slots None) v0.now.state)) c.in_ok-one.one u.now.state) heads
    (c.in_ok-one.ensures.unifies ts state0 (stays.keeps.terms c.args.asked (comp [] ts) asked))) in
    let left : c.in_ok-one.one ≡ true → LeftBy v.now.state u.now.state = λ so. left-by v.now.state u.now.state rests.calm rests.none_made
    (left-tried ts v.now.state u.now.state fact c.in_ok-one.one rests.calm.state rests.calm.settles (c.look-root.ensures.below c.args.asked (comp [] ts) asked) answers so) in
    let since = since-stays v0 u v.now.state c.in_ok-since.since c.unify_fact.ensures.keeps (c.in_ok-since.ensures.since) in
    record {
      one = c.in_ok-one.one;
      keeps = keeps_then v v0 u stays.keeps c.unify_fact.ensures.keeps;
      answers = answers;
      left = left;
      next = subst (λ p. NextAfter c.in_ok-one.one v.now.state u.now.state p c.in_ok-next.next) c.point_behind.ensures (c.in_ok-next.ensures v.now.state since left);
    }
