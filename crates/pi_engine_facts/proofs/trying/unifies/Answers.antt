use Rattle.std.proofs.Common.{◌≡◌, subst, sym, ap, rules, refl, List}
use Rattle.std.specs.Prelude.{option_and_then, replicate, None, is_some}
use Rattle.pi_core.specs.CoreTree.{clause_tree, pattern_trees}
use Rattle.pi_core.specs.declared.core_program.Pattern.{Pattern}
use Rattle.pi_meaning.specs.CoreMeaning.Facts.{fact_terms, unified_with}
use Rattle.pi_meaning.specs.Machine.Step.{with_fact}
use Rattle.pi_constraints.specs.State.{IsState}
use Rattle.pi_unify.specs.Answers.{Answers}
use Rattle.pi_unify.proofs.KeepsLemmas.{keeps_none}
use Rattle.pi_engine_facts.proofs.TryingLemmas.{returned, answers-tell}
use Rattle.pi_engine_facts.proofs.trying.unifies.Goals as goal

pub returns-clause-stays : goal.returns-clause-stays
returns-clause-stays g c = λ ts state asked.
    let seen = g.S.StateStore.seen in
    returned g.S.StateStore.order (seen c.args.s.now) (seen c.mark.new.self) (seen c.unify_fact.new.s) (seen c.undo.new.self) c.in_ok-mark.mark c.in_ok-mark.ensures.ok c.unify_fact.ensures.keeps
    (c.undo.ensures (c.unify_fact.ensures.keeps.good c.in_ok-mark.mark c.in_ok-mark.ensures.ok.good))

pub returns-clause-tells : goal.returns-clause-tells
returns-clause-tells g c = λ ts state asked.
    let seen = g.S.StateStore.seen in
    let v = seen c.args.s.now in
    let w = seen c.mark.new.self in
    let marks = c.in_ok-mark.ensures.ok in
    let heads : c.as_slice-head.result.now ≡ c.args.fact.now.head.items = search rules in
    answers-tell (with_fact ts v.now.state (clause_tree c.args.fact.now)) c.in_ok-one.one (seen c.unify_fact.new.s).now.state
    (subst (λ (ps : List Pattern). Answers (option_and_then (unified_with ts) (fact_terms (pattern_trees ps) (replicate c.args.fact.now.slots None) v.now.state)) c.in_ok-one.one (seen c.unify_fact.new.s).now.state) heads
    (subst (λ s. Answers (option_and_then (unified_with ts) (fact_terms (pattern_trees c.as_slice-head.result.now) (replicate c.args.fact.now.slots None) s)) c.in_ok-one.one (seen c.unify_fact.new.s).now.state) marks.stays.state
    (c.in_ok-one.ensures.unifies ts (subst IsState (sym marks.stays.state) state) (marks.stays.keeps.terms c.args.call _ asked))))

pub returns-then-differs-clause-stays : goal.returns-then-differs-clause-stays
returns-then-differs-clause-stays g c = λ ts state asked. record { keeps = keeps_none (g.S.StateStore.seen c.args.s.now); state = refl }

pub returns-then-differs-clause-tells : goal.returns-then-differs-clause-tells
returns-then-differs-clause-tells g c = λ ts state asked.
    let v = g.S.StateStore.seen c.args.s.now in
    let heads : c.as_slice-head.result.now ≡ c.args.fact.now.head.items = search rules in
    let none = c.differs.ensures c.if-differs.true ts c.args.fact.now.slots state asked in
    sym (ap is_some (subst (λ (ps : List Pattern). option_and_then (unified_with ts) (fact_terms (pattern_trees ps) (replicate c.args.fact.now.slots None) v.now.state) ≡ None) heads none))
