use Rattle.std.proofs.Common.{◌≡◌, ap, sym, ◌∙◌, subst, rules}
use Rattle.pi_terms.specs.Tree.{int}
use Rattle.pi_constraints.specs.State.{bindings, followed}
use Rattle.pi_constraints.specs.Store.{ShowsCell}
use Rattle.pi_terms.specs.Order.{identical}
use Rattle.pi_terms.specs.PatternTree.{PatternTree, exact_atom}
use Rattle.pi_core.specs.CoreTree.{pattern_tree, pattern_trees}
use Rattle.pi_unify.specs.Terms.{term_of}
use Rattle.pi_unify.specs.Matching.{slot_terms, root_match, TellsMatch, is_compound_of, is_int_in, pattern_count}
use Rattle.pi_unify.proofs.TermValues.{given_term}
use Rattle.pi_unify.proofs.PatternLemmas.{pattern_tree-slot, pattern_tree-int, pattern_tree-atom, pattern_tree-comp, pattern_tree-named, count-trees}
use Rattle.pi_unify.proofs.SlotLemmas.{tells_test, int_told, fills_none}
use Rattle.pi_unify.proofs.matching.matches_at_root.Goals as goal

pub returns-in-Slot-clause-found : goal.returns-in-Slot-clause-found
returns-in-Slot-clause-found g c = rw (ap pattern_tree c.in-Slot.is ∙ pattern_tree-slot c.in-Slot.k) c.fill.ensures.found

pub returns-in-Named-clause-found : goal.returns-in-Named-clause-found
returns-in-Named-clause-found g c = rw (ap pattern_tree c.in-Named.is ∙ pattern_tree-named c.in-Named.k c.in-Named.field-1) c.fill-in-Named.ensures.found

pub returns-in-Int-clause-found : goal.returns-in-Int-clause-found
returns-in-Int-clause-found g c = λ given a held.
    let v = g.S.StateStore.seen c.args.s.now in
    let b = bindings v.now.state in
    let t = term_of v c.args.term in
    let e = slot_terms v c.args.slots.now.items in
    let n = c.in-Int.n in
    let shown : ShowsCell v (followed b t) c.look.result = c.look.ensures.shows t (given_term v c.args.term given) a in
    let test : c.is_int.result ≡ is_int_in n c.look.result = search rules in
    rw (ap pattern_tree c.in-Int.is ∙ pattern_tree-int n) (tells_test c.is_int.result (identical (int n) (followed b t)) e (test ∙ int_told v (followed b t) c.look.result n shown))

pub returns-in-Atom-clause-found : goal.returns-in-Atom-clause-found
returns-in-Atom-clause-found g c = λ given a held.
    let v = g.S.StateStore.seen c.args.s.now in
    let b = bindings v.now.state in
    let t = term_of v c.args.term in
    let e = slot_terms v c.args.slots.now.items in
    let shown : ShowsCell v (followed b t) c.look-in-Atom.result = c.look-in-Atom.ensures.shows t (given_term v c.args.term given) a in
    let P : PatternTree → Type 0 = λ p. TellsMatch c.is_atom.result (root_match b p t e) e in
    let name = ap exact_atom c.as_str.ensures in
    subst P (sym (ap pattern_tree c.in-Atom.is ∙ (pattern_tree-atom c.in-Atom.name ∙ sym name))) (tells_test c.is_atom.result _ e (c.is_atom.ensures (followed b t) shown))

pub returns-in-Comp-clause-found : goal.returns-in-Comp-clause-found
returns-in-Comp-clause-found g c = λ given a held.
    let v = g.S.StateStore.seen c.args.s.now in
    let b = bindings v.now.state in
    let t = term_of v c.args.term in
    let e = slot_terms v c.args.slots.now.items in
    let f = c.in-Comp.name in
    let ps = c.in-Comp.patterns in
    let shown : ShowsCell v (followed b t) c.look-in-Comp.result = c.look-in-Comp.ensures.shows t (given_term v c.args.term given) a in
    let many : c.len.result ≡ pattern_count (pattern_trees ps.items) = c.len.ensures ∙ (ps.ok.0 ∙ sym (count-trees ps.items)) in
    let told : c.is_compound.result ≡ is_compound_of f (pattern_count (pattern_trees ps.items)) (followed b t) =
    c.is_compound.ensures (followed b t) shown ∙ (ap (λ h. is_compound_of h c.len.result (followed b t)) c.as_str-in-Comp.ensures ∙ ap (λ k. is_compound_of f k (followed b t)) many) in
    rw (ap pattern_tree c.in-Comp.is ∙ pattern_tree-comp f ps) (tells_test c.is_compound.result (is_compound_of f (pattern_count (pattern_trees ps.items)) (followed b t)) e told)

pub returns-in-Slot-clause-fills : goal.returns-in-Slot-clause-fills
returns-in-Slot-clause-fills g c = c.fill.ensures.fills

pub returns-in-Slot-clause-given : goal.returns-in-Slot-clause-given
returns-in-Slot-clause-given g c = c.fill.ensures.given

pub returns-in-Named-clause-fills : goal.returns-in-Named-clause-fills
returns-in-Named-clause-fills g c = c.fill-in-Named.ensures.fills

pub returns-in-Named-clause-given : goal.returns-in-Named-clause-given
returns-in-Named-clause-given g c = c.fill-in-Named.ensures.given

pub returns-in-Int-clause-fills : goal.returns-in-Int-clause-fills
returns-in-Int-clause-fills g c = fills_none c.args.slots.now.items

pub returns-in-Int-clause-given : goal.returns-in-Int-clause-given
returns-in-Int-clause-given g c = λ given all. all

pub returns-in-Atom-clause-fills : goal.returns-in-Atom-clause-fills
returns-in-Atom-clause-fills g c = fills_none c.args.slots.now.items

pub returns-in-Atom-clause-given : goal.returns-in-Atom-clause-given
returns-in-Atom-clause-given g c = λ given all. all

pub returns-in-Comp-clause-fills : goal.returns-in-Comp-clause-fills
returns-in-Comp-clause-fills g c = fills_none c.args.slots.now.items

pub returns-in-Comp-clause-given : goal.returns-in-Comp-clause-given
returns-in-Comp-clause-given g c = λ given all. all
