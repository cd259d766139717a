use Rattle.std.proofs.Common.{subst, rules, None, Some}
use Rattle.pi_unify.proofs.KeepsLemmas.{keeps_then}
use Rattle.pi_constraints.specs.Store.{Gives}
use Rattle.pi_terms.specs.Tree.{atom}
use Rattle.pi_core.specs.CoreTree.{pattern_tree, pattern_trees}
use Rattle.pi_meaning.specs.CoreMeaning.Facts.{fact_term, fact_terms}
use Rattle.pi_engine_facts.specs.Heads.{made_places, PutsHead, PutsHeads}
use Rattle.pi_engine_facts.proofs.HeadLemmas.{comp-same, int-same, head-is, heads-are, head-slot, head-int, head-atom, head-comp, head-comp_none, head-named, head-named_none, none-put, pattern-next, one-more_put, none-more, all-put}
use Rattle.pi_engine_facts.proofs.heads.+heads.Goals as goal

pub put_pattern-returns-in_default-clause-puts : goal.put_pattern-returns-in_default-clause-puts
put_pattern-returns-in_default-clause-puts g t c = λ state made.
    let seen = g.S.StateStore.seen in
    head-comp_none (seen c.put_patterns.new.s) (seen c.put_patterns.new.s) c.args.pattern.now c.in-Comp.name c.in-Comp.patterns (made_places c.args.slots.now.items) (seen c.args.s.now).now.state c.put_patterns.new.slots.items c.in-Comp.is
    (heads-are (seen c.put_patterns.new.s) (fact_terms (pattern_trees c.in-Comp.patterns.items) (made_places c.args.slots.now.items) (seen c.args.s.now).now.state) c.in_ok-parts-in-Comp.field-0 None c.put_patterns.new.slots.items c.in_default.is
    (subst (λ ps. PutsHeads (seen c.put_patterns.new.s) (fact_terms (pattern_trees ps) (made_places c.args.slots.now.items) (seen c.args.s.now).now.state) c.in_ok-parts-in-Comp.field-0 c.put_patterns.new.slots.items) (search rules) (c.in_ok-parts-in-Comp.ensures.puts state made)))

pub put_pattern-returns-in_default-2-clause-puts : goal.put_pattern-returns-in_default-2-clause-puts
put_pattern-returns-in_default-2-clause-puts g t c = λ state made.
    let seen = g.S.StateStore.seen in
    head-named_none (seen c.args.s.now) (seen c.slot_of-in-Named.new.s) (seen c.put_pattern.new.s) (seen c.put_pattern.new.s) c.args.pattern.now c.in-Named.k c.in-Named.inner c.args.slots.now.items c.slot_of-in-Named.new.slots.items c.put_pattern.new.slots.items
    c.in_ok-whole-in-Named.whole c.in-Named.is (c.in_ok-whole-in-Named.ensures.puts state made)
    (λ sound some. head-is (seen c.put_pattern.new.s) (fact_term (pattern_tree c.in-Named.inner.value) (made_places c.slot_of-in-Named.new.slots.items) (seen c.slot_of-in-Named.new.s).now.state) c.in_ok-part-in-Named.field-0 None c.put_pattern.new.slots.items c.in_default-2.is
    (subst (λ p. PutsHead (seen c.put_pattern.new.s) (fact_term (pattern_tree p) (made_places c.slot_of-in-Named.new.slots.items) (seen c.slot_of-in-Named.new.s).now.state) c.in_ok-part-in-Named.field-0 c.put_pattern.new.slots.items) (search rules) (c.in_ok-part-in-Named.ensures.puts sound some)))

pub put_pattern-returns-in_ok-made-in-Slot-clause-puts : goal.put_pattern-returns-in_ok-made-in-Slot-clause-puts
put_pattern-returns-in_ok-made-in-Slot-clause-puts g t c = λ state made.
    head-slot (g.S.StateStore.seen c.slot_of.new.s) c.args.pattern.now c.in-Slot.k _ _ c.in_ok-made-in-Slot.made c.slot_of.new.slots.items c.in-Slot.is (c.in_ok-made-in-Slot.ensures.puts state made)

pub put_pattern-returns-in_ok-made-in-Int-clause-puts : goal.put_pattern-returns-in_ok-made-in-Int-clause-puts
put_pattern-returns-in_ok-made-in-Int-clause-puts g t c = λ state made.
    let seen = g.S.StateStore.seen in
    head-int (seen c.args.s.now) (seen c.put_int.new.self) c.args.pattern.now c.in-Int.n c.in_ok-made-in-Int.made c.args.slots.now.items c.in-Int.is state made
    (int-same (seen c.args.s.now) (seen c.put_int.new.self) (seen c.args.s.now).now.state c.in_ok-made-in-Int.made _ c.in-Int.n (search rules) c.in_ok-made-in-Int.ensures.ok)

pub put_pattern-returns-in_ok-made-in-Atom-clause-puts : goal.put_pattern-returns-in_ok-made-in-Atom-clause-puts
put_pattern-returns-in_ok-made-in-Atom-clause-puts g t c = λ state made.
    let seen = g.S.StateStore.seen in
    head-atom (seen c.args.s.now) (seen c.put_atom.new.self) c.args.pattern.now c.in-Atom.name c.in_ok-made-in-Atom.made c.args.slots.now.items c.in-Atom.is state made
    (subst (λ n. Gives (seen c.args.s.now) (seen c.put_atom.new.self) (seen c.args.s.now).now.state c.in_ok-made-in-Atom.made (atom n)) (search rules) c.in_ok-made-in-Atom.ensures.ok)

pub put_pattern-returns-in_ok-made-in-Comp-clause-puts : goal.put_pattern-returns-in_ok-made-in-Comp-clause-puts
put_pattern-returns-in_ok-made-in-Comp-clause-puts g t c = λ state made.
    let seen = g.S.StateStore.seen in
    head-comp (seen c.put_patterns.new.s) (seen c.put_comp.new.self) c.args.pattern.now c.in-Comp.name c.in-Comp.patterns (made_places c.args.slots.now.items) (seen c.args.s.now).now.state c.in-Some.parts c.in_ok-made-in-Comp.made c.put_patterns.new.slots.items c.in-Comp.is
    (heads-are (seen c.put_patterns.new.s) (fact_terms (pattern_trees c.in-Comp.patterns.items) (made_places c.args.slots.now.items) (seen c.args.s.now).now.state) c.in_ok-parts-in-Comp.field-0 (Some c.in-Some.parts) c.put_patterns.new.slots.items c.in-Some.is
    (subst (λ ps. PutsHeads (seen c.put_patterns.new.s) (fact_terms (pattern_trees ps) (made_places c.args.slots.now.items) (seen c.args.s.now).now.state) c.in_ok-parts-in-Comp.field-0 c.put_patterns.new.slots.items) (search rules) (c.in_ok-parts-in-Comp.ensures.puts state made)))
    c.in_ok-made-in-Comp.ensures.stays
    (comp-same (seen c.put_patterns.new.s) (seen c.put_comp.new.self) c.as_str-in-Comp.result.now c.in-Comp.name c.deref.result.now c.in-Some.parts.items c.in_ok-made-in-Comp.made (search rules) (search rules) c.in_ok-made-in-Comp.ensures.ok)

pub put_pattern-returns-in_ok-made-in-Named-clause-puts : goal.put_pattern-returns-in_ok-made-in-Named-clause-puts
put_pattern-returns-in_ok-made-in-Named-clause-puts g t c = λ state made.
    let seen = g.S.StateStore.seen in
    head-named (seen c.args.s.now) (seen c.slot_of-in-Named.new.s) (seen c.put_pattern.new.s) (seen c.make_named.new.s) c.args.pattern.now c.in-Named.k c.in-Named.inner c.args.slots.now.items c.slot_of-in-Named.new.slots.items c.put_pattern.new.slots.items
    c.in_ok-whole-in-Named.whole c.in-Some-2.part c.in_ok-made-in-Named.made c.in-Named.is (c.in_ok-whole-in-Named.ensures.puts state made) c.in_ok-part-in-Named.ensures.keeps
    (λ sound some. head-is (seen c.put_pattern.new.s) (fact_term (pattern_tree c.in-Named.inner.value) (made_places c.slot_of-in-Named.new.slots.items) (seen c.slot_of-in-Named.new.s).now.state) c.in_ok-part-in-Named.field-0 (Some c.in-Some-2.part) c.put_pattern.new.slots.items c.in-Some-2.is
    (subst (λ p. PutsHead (seen c.put_pattern.new.s) (fact_term (pattern_tree p) (made_places c.slot_of-in-Named.new.slots.items) (seen c.slot_of-in-Named.new.s).now.state) c.in_ok-part-in-Named.field-0 c.put_pattern.new.slots.items) (search rules) (c.in_ok-part-in-Named.ensures.puts sound some)))
    (λ a b puts term. c.in_ok-made-in-Named.ensures.puts a b c.put_pattern.new.slots.items puts.sound puts term)

pub put_patterns-loop-i-init : goal.put_patterns-loop-i-init
put_patterns-loop-i-init g t c = none-put (g.S.StateStore.seen c.args.s.now) c.args.patterns.now c.args.slots.now.items c.new-parts.result.items c.new-parts.ensures.items

pub put_patterns-returns-in_err-part-clause-keeps : goal.put_patterns-returns-in_err-part-clause-keeps
put_patterns-returns-in_err-part-clause-keeps g t c =
    keeps_then (g.S.StateStore.seen c.args.s.now) (g.S.StateStore.seen c.loop-i.s) (g.S.StateStore.seen c.put_pattern.new.s) c.loop-i.invariant.keeps c.put_pattern.ensures.keeps

pub put_patterns-returns-in_default-clause-keeps : goal.put_patterns-returns-in_default-clause-keeps
put_patterns-returns-in_default-clause-keeps g t c =
    keeps_then (g.S.StateStore.seen c.args.s.now) (g.S.StateStore.seen c.loop-i.s) (g.S.StateStore.seen c.put_pattern.new.s) c.loop-i.invariant.keeps c.put_pattern.ensures.keeps

pub put_patterns-returns-in_default-clause-puts : goal.put_patterns-returns-in_default-clause-puts
put_patterns-returns-in_default-clause-puts g t c = λ state made.
    let seen = g.S.StateStore.seen in
    none-more (seen c.args.s.now) (seen c.loop-i.s) (seen c.put_pattern.new.s) c.args.patterns.now c.loop-i.i c.args.slots.now.items c.loop-i.slots.items c.put_pattern.new.slots.items c.loop-i.parts.items c.index-patterns-i.result
    (pattern-next c.args.patterns.now c.loop-i.i c.index-patterns-i.result c.loop-i-test.true c.index-patterns-i.is)
    (λ sound some. head-is (seen c.put_pattern.new.s) (fact_term (pattern_tree c.index-patterns-i.result) (made_places c.loop-i.slots.items) (seen c.loop-i.s).now.state) c.in_ok-part.field-0 None c.put_pattern.new.slots.items c.in_default.is (c.in_ok-part.ensures.puts sound some)) c.loop-i.invariant state made

pub put_patterns-returns-in_err-push-clause-keeps : goal.put_patterns-returns-in_err-push-clause-keeps
put_patterns-returns-in_err-push-clause-keeps g t c =
    keeps_then (g.S.StateStore.seen c.args.s.now) (g.S.StateStore.seen c.loop-i.s) (g.S.StateStore.seen c.put_pattern.new.s) c.loop-i.invariant.keeps c.put_pattern.ensures.keeps

pub put_patterns-loop-i-preserved : goal.put_patterns-loop-i-preserved
put_patterns-loop-i-preserved g t c =
    let seen = g.S.StateStore.seen in
    one-more_put (seen c.args.s.now) (seen c.loop-i.s) (seen c.put_pattern.new.s) c.args.patterns.now c.loop-i.i c.args.slots.now.items c.loop-i.slots.items c.put_pattern.new.slots.items c.loop-i.parts.items c.push.new.self.items c.index-patterns-i.result c.in-Some.part
    (pattern-next c.args.patterns.now c.loop-i.i c.index-patterns-i.result c.loop-i-test.true c.index-patterns-i.is) c.put_pattern.ensures.keeps c.in_ok-push.ensures.items
    (λ sound some. head-is (seen c.put_pattern.new.s) (fact_term (pattern_tree c.index-patterns-i.result) (made_places c.loop-i.slots.items) (seen c.loop-i.s).now.state) c.in_ok-part.field-0 (Some c.in-Some.part) c.put_pattern.new.slots.items c.in-Some.is (c.in_ok-part.ensures.puts sound some)) c.loop-i.invariant

pub put_patterns-returns-clause-keeps : goal.put_patterns-returns-clause-keeps
put_patterns-returns-clause-keeps g t c = c.loop-i.invariant.keeps

pub put_patterns-returns-clause-puts : goal.put_patterns-returns-clause-puts
put_patterns-returns-clause-puts g t c = λ state made.
    let seen = g.S.StateStore.seen in
    all-put (seen c.args.s.now) (seen c.loop-i.s) c.args.patterns.now c.loop-i.i c.args.slots.now.items c.loop-i.slots.items c.loop-i.parts c.loop-i-test.false c.loop-i.invariant state made
