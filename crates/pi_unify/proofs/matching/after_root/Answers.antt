use Rattle.std.proofs.Common.{◌≡◌, ◌+◌, List, ap, sym, ◌∙◌, refl, subst}
use Rattle.pi_constraints.specs.State.{bindings}
use Rattle.pi_terms.specs.PatternTree.{PatternTree, compound}
use Rattle.pi_core.specs.CoreTree.{pattern_tree, pattern_trees}
use Rattle.pi_unify.specs.Terms.{IsGiven, HoldsNoCycle, term_of}
use Rattle.pi_core.specs.declared.core_program.Pattern.{Pattern}
use Rattle.pi_unify.specs.Matching.{nodes, nodes_left, AreLeft, HasFewer, LeavesNodes, LeavesFewer, GoesBehind, ComesBehind, TakesPending, FitsRoot, Pushes}
use Rattle.pi_unify.specs.declared.matching.Pending.{Pending}
use Rattle.pi_unify.proofs.PatternLemmas.{pattern_tree-comp, pattern_tree-named}
use Rattle.pi_unify.proofs.MatchingLemmas.{if_ok, Behind, behind_leaf, behind_compound, comes_behind, named_behind, Shrinks, shrinks_bare, shrinks_compound, leaves_fewer, named_fewer}
use Rattle.pi_unify.proofs.matching.after_root.Goals as goal

pub returns-in-Named-clause-fewer : goal.returns-in-Named-clause-fewer
returns-in-Named-clause-fewer g c =
    let next : Pending = record { pattern = c.deref.result; term = c.args.term } in
    let p = pattern_tree c.in-Named.inner.value in
    let k = c.in-Named.field-0 in
    let old = c.args.left.now.items in
    let P : PatternTree → Type 0 = λ q. HasFewer (nodes q + nodes_left old) old next in
    subst P (sym (ap pattern_tree c.in-Named.is ∙ pattern_tree-named k c.in-Named.inner)) (named_fewer k p old next c.requires.within (ap pattern_tree c.deref.ensures))

pub returns-in-Named-clause-comes : goal.returns-in-Named-clause-comes
returns-in-Named-clause-comes g c = λ given a all fits.
    let v = g.S.StateStore.seen c.args.s.now in
    let next : Pending = record { pattern = c.deref.result; term = c.args.term } in
    let p = pattern_tree c.in-Named.inner.value in
    let k = c.in-Named.field-0 in
    let old = c.args.left.now.items in
    let P : PatternTree → Type 0 = λ q. GoesBehind v q (term_of v c.args.term) old old next in
    subst P (sym (ap pattern_tree c.in-Named.is ∙ pattern_tree-named k c.in-Named.inner))
    (named_behind v k p c.args.term old next given all refl (ap pattern_tree c.deref.ensures))

pub next_argument-requires : goal.next_argument-requires
next_argument-requires g c =
    let f = c.in-Comp.field-0 in
    let ps = c.in-Comp.patterns.items in
    let pushes : Pushes c.args.left.now.items c.push_arguments.new.left.items ps c.args.term =
    subst (λ (qs : List Pattern). Pushes c.args.left.now.items c.push_arguments.new.left.items qs c.args.term) c.as_slice.ensures.value c.in_ok-push_arguments-in-Comp.ensures in
    record { within = (shrinks_compound f ps c.args.term c.args.left.now.items c.push_arguments.new.left.items c.requires.within pushes).within }

pub returns-in_ok-push_arguments-in-Comp-clause-fewer : goal.returns-in_ok-push_arguments-in-Comp-clause-fewer
returns-in_ok-push_arguments-in-Comp-clause-fewer g c =
    let f = c.in-Comp.field-0 in
    let ps = c.in-Comp.patterns.items in
    let old = c.args.left.now.items in
    let middle = c.push_arguments.new.left.items in
    let new = c.next_argument.new.left.items in
    let p = pattern_tree c.args.pattern.now in
    let is : p ≡ compound f (pattern_trees ps) = ap pattern_tree c.in-Comp.is ∙ pattern_tree-comp f c.in-Comp.patterns in
    let pushes : Pushes old middle ps c.args.term = subst (λ (qs : List Pattern). Pushes old middle qs c.args.term) c.as_slice.ensures.value c.in_ok-push_arguments-in-Comp.ensures in
    let shrinks : Shrinks p old middle = subst (λ (q : PatternTree). Shrinks q old middle) (sym is) (shrinks_compound f ps c.args.term old middle c.requires.within pushes) in
    if_ok c.next_argument.result (LeavesNodes (nodes_left middle) new) (LeavesFewer (nodes p + nodes_left old) new) (λ next. leaves_fewer p old middle new next shrinks) c.next_argument.ensures.nodes

pub returns-in_ok-push_arguments-in-Comp-clause-comes : goal.returns-in_ok-push_arguments-in-Comp-clause-comes
returns-in_ok-push_arguments-in-Comp-clause-comes g c =
    let v = g.S.StateStore.seen c.args.s.now in
    let b = bindings v.now.state in
    let t = term_of v c.args.term in
    let f = c.in-Comp.field-0 in
    let ps = c.in-Comp.patterns.items in
    let old = c.args.left.now.items in
    let middle = c.push_arguments.new.left.items in
    let new = c.next_argument.new.left.items in
    let p = pattern_tree c.args.pattern.now in
    let is : p ≡ compound f (pattern_trees ps) = ap pattern_tree c.in-Comp.is ∙ pattern_tree-comp f c.in-Comp.patterns in
    let pushes : Pushes old middle ps c.args.term = subst (λ (qs : List Pattern). Pushes old middle qs c.args.term) c.as_slice.ensures.value c.in_ok-push_arguments-in-Comp.ensures in
    if_ok c.next_argument.result (λ next. HoldsNoCycle v → AreLeft v middle → TakesPending v middle new next) (λ next. IsGiven v c.args.term → HoldsNoCycle v → AreLeft v old → FitsRoot b p t → ComesBehind v p t old new next)
    (λ next taken given a all fits.
    let own : FitsRoot b (compound f (pattern_trees ps)) t = subst (λ (q : PatternTree). FitsRoot b q t) is fits in
    let behind : Behind v p t old middle = subst (λ (q : PatternTree). Behind v q t old middle) (sym is) (behind_compound v f ps c.args.term old middle given all own pushes) in
    comes_behind v p t old middle new next behind (taken a behind.left)) c.next_argument.ensures.takes

pub returns-in-Slot-clause-fewer : goal.returns-in-Slot-clause-fewer
returns-in-Slot-clause-fewer g c =
    let old = c.args.left.now.items in
    let new = c.next_argument-in-Slot.new.left.items in
    let p = pattern_tree c.args.pattern.now in
    if_ok c.next_argument-in-Slot.result (LeavesNodes (nodes_left old) new) (LeavesFewer (nodes p + nodes_left old) new) (λ next. leaves_fewer p old old new next (shrinks_bare p old c.requires.within)) c.next_argument-in-Slot.ensures.nodes

pub returns-in-Slot-clause-comes : goal.returns-in-Slot-clause-comes
returns-in-Slot-clause-comes g c =
    let v = g.S.StateStore.seen c.args.s.now in
    let b = bindings v.now.state in
    let t = term_of v c.args.term in
    let old = c.args.left.now.items in
    let new = c.next_argument-in-Slot.new.left.items in
    let p = pattern_tree c.args.pattern.now in
    if_ok c.next_argument-in-Slot.result (λ next. HoldsNoCycle v → AreLeft v old → TakesPending v old new next) (λ next. IsGiven v c.args.term → HoldsNoCycle v → AreLeft v old → FitsRoot b p t → ComesBehind v p t old new next)
    (λ next taken given a all fits. comes_behind v p t old old new next (behind_leaf v c.args.pattern.now t old c.in-Slot.is all) (taken a all)) c.next_argument-in-Slot.ensures.takes
