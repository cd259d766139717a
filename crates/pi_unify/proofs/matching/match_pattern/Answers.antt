use Rattle.std.proofs.Common.{◌≡◌, List, ap, sym, ◌∙◌, subst, false}
use Rattle.pi_constraints.specs.State.{bindings}
use Rattle.pi_core.specs.CoreTree.{pattern_tree, pattern_trees}
use Rattle.pi_core.specs.declared.core_program.Pattern.{Pattern}
use Rattle.pi_terms.specs.PatternTree.{compound}
use Rattle.pi_unify.specs.Terms.{term_of}
use Rattle.pi_unify.specs.Matching.{slot_terms, TellsMatch, HasAsMany, arguments_match}
use Rattle.pi_unify.proofs.TermValues.{term_given}
use Rattle.pi_unify.proofs.PatternLemmas.{pattern_tree-comp}
use Rattle.pi_unify.proofs.MatchingLemmas.{if_ok, none_from_root}
use Rattle.pi_unify.proofs.MatchLoopLemmas.{true_told, false_told, terms_are_told}
use Rattle.pi_unify.proofs.ArgumentLemmas.{many_at, inside_told}
use Rattle.pi_unify.proofs.SlotLemmas.{fills_then}
use Rattle.pi_unify.proofs.BindLemmas.{if_err}
use Rattle.pi_unify.proofs.matching.match_pattern.Goals as goal

pub returns-then-not-branch-clause-terms : goal.returns-then-not-branch-clause-terms
returns-then-not-branch-clause-terms g c = λ t is a held.
    let v = g.S.StateStore.seen c.args.s.now in
    let e = slot_terms v c.args.slots.now.items in
    let middle = slot_terms v c.matches_at_root.new.slots.items in
    let given = term_given v c.args.r t is in
    terms_are_told v false (pattern_tree c.args.p.now) c.args.r t e middle is
    (none_from_root (bindings v.now.state) (pattern_tree c.args.p.now) (term_of v c.args.r) e
    (false_told c.in_ok-matches_at_root-in-Comp.field-0 _ middle c.if-not-branch.true (c.in_ok-matches_at_root-in-Comp.ensures.found given a held)))

pub returns-else-not-branch-clause-given : goal.returns-else-not-branch-clause-given
returns-else-not-branch-clause-given g c = λ given a held.
    let v = g.S.StateStore.seen c.args.s.now in
    let ps = c.in-Comp.patterns in
    let is : pattern_tree c.args.p.now ≡ compound c.in-Comp.field-0 (pattern_trees ps.items) = ap pattern_tree c.in-Comp.is ∙ pattern_tree-comp c.in-Comp.field-0 ps in
    let root = true_told c.in_ok-matches_at_root-in-Comp.field-0 _ (slot_terms v c.matches_at_root.new.slots.items) c.if-not-branch.false (c.in_ok-matches_at_root-in-Comp.ensures.found given a held) in
    let many : HasAsMany v c.args.r ps.items = many_at v c.in-Comp.field-0 ps.items (pattern_tree c.args.p.now) c.args.r (slot_terms v c.args.slots.now.items) (slot_terms v c.matches_at_root.new.slots.items) is root in
    c.match_arguments.ensures.given given a (subst (λ (qs : List Pattern). HasAsMany v c.args.r qs) (sym c.as_slice.ensures.value) many) (c.matches_at_root.ensures.given given held)

pub returns-else-not-branch-clause-terms : goal.returns-else-not-branch-clause-terms
returns-else-not-branch-clause-terms g c =
    let v = g.S.StateStore.seen c.args.s.now in
    let ps = c.in-Comp.patterns in
    let e = slot_terms v c.args.slots.now.items in
    let middle = slot_terms v c.matches_at_root.new.slots.items in
    let last = slot_terms v c.match_arguments.new.slots.items in
    let is : pattern_tree c.args.p.now ≡ compound c.in-Comp.field-0 (pattern_trees ps.items) = ap pattern_tree c.in-Comp.is ∙ pattern_tree-comp c.in-Comp.field-0 ps in
    if_ok c.match_arguments.result _ _ (λ found told t of a held.
    let given = term_given v c.args.r t of in
    let root = true_told c.in_ok-matches_at_root-in-Comp.field-0 _ middle c.if-not-branch.false (c.in_ok-matches_at_root-in-Comp.ensures.found given a held) in
    let many : HasAsMany v c.args.r ps.items = many_at v c.in-Comp.field-0 ps.items (pattern_tree c.args.p.now) c.args.r e middle is root in
    let all : HasAsMany v c.args.r c.as_slice.result.now = subst (λ (qs : List Pattern). HasAsMany v c.args.r qs) (sym c.as_slice.ensures.value) many in
    let tells : TellsMatch found (arguments_match v ps.items c.args.r middle) last =
    subst (λ (qs : List Pattern). TellsMatch found (arguments_match v qs c.args.r middle) last) c.as_slice.ensures.value (told given a all (c.matches_at_root.ensures.given given held)) in
    terms_are_told v found (pattern_tree c.args.p.now) c.args.r t e last of (inside_told v found c.in-Comp.field-0 ps.items (pattern_tree c.args.p.now) c.args.r e middle last is root tells)) c.match_arguments.ensures.found

pub returns-in_err-matches_at_root-in-Comp-clause-fills : goal.returns-in_err-matches_at_root-in-Comp-clause-fills
returns-in_err-matches_at_root-in-Comp-clause-fills g c = c.matches_at_root.ensures.fills

pub returns-in_err-matches_at_root-in-Comp-clause-given : goal.returns-in_err-matches_at_root-in-Comp-clause-given
returns-in_err-matches_at_root-in-Comp-clause-given g c = λ given a held. c.matches_at_root.ensures.given given held

pub returns-in_err-matches_at_root-in-Comp-clause-terms : goal.returns-in_err-matches_at_root-in-Comp-clause-terms
returns-in_err-matches_at_root-in-Comp-clause-terms g c = if_err c.from_residual.result _ c.from_residual.ensures.0

pub returns-then-not-branch-clause-fills : goal.returns-then-not-branch-clause-fills
returns-then-not-branch-clause-fills g c = c.matches_at_root.ensures.fills

pub returns-then-not-branch-clause-given : goal.returns-then-not-branch-clause-given
returns-then-not-branch-clause-given g c = λ given a held. c.matches_at_root.ensures.given given held

pub returns-else-not-branch-clause-fills : goal.returns-else-not-branch-clause-fills
returns-else-not-branch-clause-fills g c = fills_then c.args.slots.now.items c.matches_at_root.new.slots.items c.match_arguments.new.slots.items c.matches_at_root.ensures.fills c.match_arguments.ensures.fills
