use Rattle.std.proofs.Common.{rules, ◌≡◌, List, [], ◌∷◌, ◌++◌, ap, ap₂, sym, subst, ◌∙◌}
use Rattle.std.specs.Int.{w64}
use Rattle.std.proofs.lemmas.Int.{to_z-of_z}
use Rattle.pi_constraints.specs.declared.var_domain.VarDomain.{VarDomain}
use Rattle.pi_sat_spec.specs.declared.entry.SatEntry.{SatEntry}
use Rattle.pi_sat_spec.specs.declared.literal.Literal.{Literal}
use Rattle.pi_sat_spec.specs.Domains.{cut, allowed}
use Rattle.pi_sat_spec.specs.Logs.{lemma_at}
use Rattle.pi_sat_search.specs.Nodes.{NoneRefuted, IsPut, IsNext}
use Rattle.pi_sat_search.proofs.NodeLemmas.{low, high, went-left, went-right, two-next}
use Rattle.pi_sat_search.proofs.nodes.go_down.Goals as goal

pub returns-in_default : goal.returns-in_default
returns-in_default c =
    let old = c.args.node.now in
    let same = to_z-of_z w64 c.args.pick.least (search rules) in
    let low-is = c.at_most-low.ensures ∙ ap (low c.args.pick.var) same in
    let high-is = c.above-high.ensures ∙ ap (high c.args.pick.var) same in
    went-left c.args.given.now.domains c.args.entries.now old.present.items c.in_ok-left.left.items old.lemma.items _ c.args.pick c.requires.node c.requires.pick
    (c.in_ok-left.ensures ∙ ap₂ cut c.as_slice.ensures.value low-is) (subst (λ (ys : List VarDomain). NoneRefuted ys c.args.entries.now) c.as_slice-2.ensures.value c.in_default.ensures)
    (c.in_ok-push.ensures.items ∙ ap (λ (l : Literal). old.lemma.items ++ l ∷ []) high-is)

pub returns-in_default-refuted_by : goal.returns-in_default-refuted_by
returns-in_default-refuted_by c =
    let old = c.args.node.now in
    let same = to_z-of_z w64 c.args.pick.least (search rules) in
    let low-is = c.at_most-low.ensures ∙ ap (low c.args.pick.var) same in
    let high-is = c.above-high.ensures ∙ ap (high c.args.pick.var) same in
    went-right c.args.given.now.domains c.args.entries.now old.present.items c.in_ok-right.right.items old.lemma.items _ c.args.pick c.requires.node c.requires.pick
    (c.in_ok-right.ensures ∙ ap₂ cut c.as_slice-3.ensures.value high-is) (subst (λ (ys : List VarDomain). NoneRefuted ys c.args.entries.now) c.as_slice-4.ensures.value c.in_default-refuted_by.ensures)
    (subst (λ (l : Literal). IsPut old.lemma.items l c.put_last.new.lemma.items) low-is c.in_ok-put_last.ensures)

pub returns : goal.returns
returns c =
    let xs = c.args.given.now.domains in
    let log = c.args.entries.now in
    let old = c.args.node.now in
    let same = to_z-of_z w64 c.args.pick.least (search rules) in
    let low-is = c.at_most-low.ensures ∙ ap (low c.args.pick.var) same in
    let high-is = c.above-high.ensures ∙ ap (high c.args.pick.var) same in
    let left = c.as_slice-2.ensures.value ∙ (c.in_ok-left.ensures ∙ ap₂ cut c.as_slice.ensures.value low-is) in
    let right = c.as_slice-4.ensures.value ∙ (c.in_ok-right.ensures ∙ ap₂ cut c.as_slice-3.ensures.value high-is) in
    let h = c.in-Some.ensures in
    let k = c.in-Some-refuted_by.ensures in
    subst (IsNext xs c.args.given.now.constraints log) (sym (c.learned.ensures ∙ ap₂ SatEntry.Learned (c.in_ok-lemma.ensures.items ∙ c.as_slice-5.ensures.value) c.in_ok-hints.ensures.items))
    (two-next xs c.args.given.now.constraints log old.present.items old.lemma.items c.args.pick c.in-Some.first c.in-Some-refuted_by.second c.requires.node c.requires.pick c.requires.may.right h.0
    (subst (λ (ys : List VarDomain). allowed ys (lemma_at log c.in-Some.first) ≡ []) left h.1) k.0 (subst (λ (ys : List VarDomain). allowed ys (lemma_at log c.in-Some-refuted_by.second) ≡ []) right k.1))
