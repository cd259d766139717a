use Rattle.std.proofs.Common.{◌≡◌, List, [], sym, ap, ap₂, subst, ◌∙◌}
use Rattle.std.specs.Prelude.{true, false}
use Rattle.pi_constraints.specs.declared.var_domain.VarDomain.{VarDomain}
use Rattle.pi_sat_spec.specs.declared.entry.SatEntry.{SatEntry}
use Rattle.pi_sat_spec.specs.Domains.{AreDomains, has_empty, allowed}
use Rattle.pi_sat_spec.specs.Logs.{lemma_at}
use Rattle.pi_sat_search.specs.Nodes.{IsNext, IsNode, NoneRefuted}
use Rattle.pi_sat_search.proofs.NodeLemmas.{empty-next, root-next, root-node}
use Rattle.pi_sat_search.proofs.sure.find.Goals as goal

pub returns-then-has_empty : goal.returns-then-has_empty
returns-then-has_empty c =
    let xs = c.args.given.now.domains in
    let is = c.as_slice-3.ensures.value ∙ (c.in_ok-present.ensures ∙ c.as_slice.ensures) in
    let empty : has_empty xs ≡ true = ap has_empty (sym is) ∙ (sym c.has_empty.ensures ∙ c.if-has_empty.true) in
    subst (IsNext xs c.args.given.now.constraints c.args.entries.now) (sym (c.learned.ensures ∙ ap₂ SatEntry.Learned c.new.ensures.items c.new-then-has_empty.ensures.items))
    (empty-next xs c.args.given.now.constraints c.args.entries.now c.requires.some empty)

pub returns-in-Some : goal.returns-in-Some
returns-in-Some c =
    let xs = c.args.given.now.domains in
    let log = c.args.entries.now in
    let is = c.as_slice-4.ensures.value ∙ (c.in_ok-present.ensures ∙ c.as_slice.ensures) in
    let h = c.in-Some.ensures in
    subst (IsNext xs c.args.given.now.constraints log) (sym (c.learned-in-Some.ensures ∙ ap₂ SatEntry.Learned c.new-in-Some.ensures.items c.in_ok-hints.ensures.items))
    (root-next xs c.args.given.now.constraints log c.in-Some.number c.requires.some h.0 (subst (λ (ys : List VarDomain). allowed ys (lemma_at log c.in-Some.number) ≡ []) is h.1))

pub walk-requires-clause-node : goal.walk-requires-clause-node
walk-requires-clause-node c =
    let xs = c.args.given.now.domains in
    let log = c.args.entries.now in
    let was = c.in_ok-present.ensures ∙ c.as_slice.ensures in
    let good : AreDomains xs = subst AreDomains (c.as_slice-2.ensures.value ∙ was) c.look_at_all.ensures in
    let some : has_empty xs ≡ false = ap has_empty (sym (c.as_slice-3.ensures.value ∙ was)) ∙ (sym c.has_empty.ensures ∙ c.if-has_empty.false) in
    let none : NoneRefuted xs log = subst (λ (ys : List VarDomain). NoneRefuted ys log) (c.as_slice-4.ensures.value ∙ was) c.in_default.ensures in
    subst (λ (ys : List VarDomain). IsNode xs log ys c.new-2.result.items) (sym was) (subst (IsNode xs log xs) (sym c.new-2.ensures.items) (root-node xs log good c.requires.once some none))
