use Rattle.std.proofs.Common.{◌≡◌, subst, rules, sym, None, Some}
use Rattle.pi_core.specs.CoreTree.{pattern_trees}
use Rattle.pi_meaning.specs.CoreMeaning.Facts.{fact_terms}
use Rattle.std.specs.Prelude.{replicate}
use Rattle.pi_constraints.specs.State.{next}
use Rattle.pi_engine_facts.specs.Heads.{made_places, AreMade, PutsHeads}
use Rattle.pi_engine_facts.proofs.HeadLemmas.{heads-are, comp-same, none-made, no-head, head-unifies, head-state}
use Rattle.pi_engine_facts.proofs.heads.unify_fact.Goals as goal

pub returns-in_default-clause-unifies : goal.returns-in_default-clause-unifies
returns-in_default-clause-unifies g c = λ ts state asked.
    let seen = g.S.StateStore.seen in
    let v = seen c.args.s.now in
    let w = seen c.put_patterns.new.s in
    let slots = c.put_patterns.new.slots.items in
    let empty : c.in_ok-filled.filled.items ≡ replicate c.args.slots None = c.in_ok-filled.ensures in
    let made : AreMade (next v.now.state) c.in_ok-filled.filled.items = subst (AreMade (next v.now.state)) (sym empty) (none-made (next v.now.state) c.args.slots) in
    no-head v w c.args.head.now c.args.slots ts slots
    (subst (λ xs. PutsHeads w (fact_terms (pattern_trees c.args.head.now) (made_places xs) v.now.state) None slots) empty
    (heads-are w (fact_terms (pattern_trees c.args.head.now) (made_places c.in_ok-filled.filled.items) v.now.state) c.in_ok-parts.field-0 None slots c.in_default.is (c.in_ok-parts.ensures.puts state made)))

pub returns-clause-unifies : goal.returns-clause-unifies
returns-clause-unifies g c = λ ts state asked.
    let seen = g.S.StateStore.seen in
    let v = seen c.args.s.now in
    let w = seen c.put_patterns.new.s in
    let x = seen c.put_comp.new.self in
    let slots = c.put_patterns.new.slots.items in
    let empty : c.in_ok-filled.filled.items ≡ replicate c.args.slots None = c.in_ok-filled.ensures in
    let made : AreMade (next v.now.state) c.in_ok-filled.filled.items = subst (AreMade (next v.now.state)) (sym empty) (none-made (next v.now.state) c.args.slots) in
    head-unifies v w x (seen c.unify.new.s) c.args.head.now c.args.slots ts c.in-Some.parts c.args.call c.in_ok-fact.fact slots c.in_ok-one.one c.put_patterns.ensures.keeps
    (subst (λ xs. PutsHeads w (fact_terms (pattern_trees c.args.head.now) (made_places xs) v.now.state) (Some c.in-Some.parts) slots) empty
    (heads-are w (fact_terms (pattern_trees c.args.head.now) (made_places c.in_ok-filled.filled.items) v.now.state) c.in_ok-parts.field-0 (Some c.in-Some.parts) slots c.in-Some.is (c.in_ok-parts.ensures.puts state made)))
    c.in_ok-fact.ensures.stays (comp-same w x _ _ c.deref.result.now c.in-Some.parts.items c.in_ok-fact.fact (search rules) (search rules) c.in_ok-fact.ensures.ok) asked c.look-root.ensures.below c.in_ok-one.ensures.unifies

pub returns-clause-state : goal.returns-clause-state
returns-clause-state g c = λ ts state asked one.
    let seen = g.S.StateStore.seen in
    let v = seen c.args.s.now in
    let w = seen c.put_patterns.new.s in
    let x = seen c.put_comp.new.self in
    let slots = c.put_patterns.new.slots.items in
    let empty : c.in_ok-filled.filled.items ≡ replicate c.args.slots None = c.in_ok-filled.ensures in
    let made : AreMade (next v.now.state) c.in_ok-filled.filled.items = subst (AreMade (next v.now.state)) (sym empty) (none-made (next v.now.state) c.args.slots) in
    head-state v w x (seen c.unify.new.s) ts (fact_terms (pattern_trees c.args.head.now) (made_places c.in_ok-filled.filled.items) v.now.state) c.in-Some.parts c.args.call c.in_ok-fact.fact slots c.put_patterns.ensures.keeps
    (heads-are w (fact_terms (pattern_trees c.args.head.now) (made_places c.in_ok-filled.filled.items) v.now.state) c.in_ok-parts.field-0 (Some c.in-Some.parts) slots c.in-Some.is (c.in_ok-parts.ensures.puts state made))
    c.in_ok-fact.ensures.stays (comp-same w x _ _ c.deref.result.now c.in-Some.parts.items c.in_ok-fact.fact (search rules) (search rules) c.in_ok-fact.ensures.ok) asked c.look-root.ensures.below c.in_ok-one.ensures.state
