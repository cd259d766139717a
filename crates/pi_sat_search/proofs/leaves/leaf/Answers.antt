use Rattle.std.proofs.Common.{List, sym, ap, subst, ◌∙◌}
use Rattle.std.specs.Prelude.{ℕ, ℤ}
use Rattle.pi_sat_spec.specs.Solutions.{IsSolution}
use Rattle.pi_sat_search.specs.Assigned.{assigned}
use Rattle.pi_sat_search.specs.Nodes.{IsNext, least_values}
use Rattle.pi_sat_search.proofs.LeafLemmas.{leaf-solution, leaf-next, as-given}
use Rattle.pi_sat_search.proofs.leaves.leaf.Goals as goal

pub returns-in-Some : goal.returns-in-Some
returns-in-Some c =
    let xs = c.args.given.now.domains in
    let cs = c.args.given.now.constraints in
    let found = as-given _ _ cs c.args.node.present.items _ _ c.as_slice.ensures c.as_slice-2.ensures.value c.in-Some.is c.in_ok-number.ensures in
    subst (IsNext xs cs c.args.entries.now) (sym c.entry_of.ensures)
    (leaf-next xs cs c.args.entries.now c.args.node.present.items c.args.node.lemma.items c.requires.may c.requires.node c.requires.none c.in-Some.number found.0 found.1 found.2)

pub returns : goal.returns
returns c =
    let xs = c.args.given.now.domains in
    let cs = c.args.given.now.constraints in
    let fine = as-given _ _ cs c.args.node.present.items _ _ c.as_slice.ensures c.as_slice-2.ensures.value c.in-None.is c.in_ok-number.ensures in
    subst (λ (ps : List (ℕ × ℤ)). IsSolution xs cs (assigned ps)) (sym (c.in_ok-values-in-None.ensures ∙ ap least_values c.as_slice-in-None.ensures.value))
    (leaf-solution xs cs c.args.entries.now c.args.node.present.items c.args.node.lemma.items c.requires.may c.requires.node c.requires.none fine)
