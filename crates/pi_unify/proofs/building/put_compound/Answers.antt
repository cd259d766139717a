use Rattle.std.proofs.Common.{◌≡◌, List, drop, reverse, ap, sym, ◌∙◌, subst, arith}
use Rattle.pi_terms.specs.TermCells.{take_trees}
use Rattle.pi_constraints.specs.Store.{AreTerms}
use Rattle.pi_constraints.specs.declared.store.Ref.{Ref}
use Rattle.pi_unify.proofs.BuildLemmas.{TakesLast, taken_last, last_args, last_left}
use Rattle.pi_unify.proofs.building.put_compound.Goals as goal

pub returns-clause-ok : goal.returns-clause-ok
returns-clause-ok g c = λ ts h.
    let v = g.S.StateStore.seen c.args.s.now in
    let w = g.S.StateStore.seen c.put_comp.new.self in
    let k = c.args.count in
    let m = c.saturating_sub-from.result in
    let built = c.args.built.now.items in
    let args = c.in_ok-args.args.items in
    let last : TakesLast k m built = taken_last k m built (omega (arith, c.len.ensures, c.saturating_sub-from.ensures, c.args.built.now.ok.0)) in
    let is : args ≡ reverse (drop m built) = c.in_ok-args.ensures ∙ ap (λ rs. reverse (drop m rs)) c.deref.ensures.value in
    let own : AreTerms v args (take_trees k ts) = last_args v k m built args ts last is h in (
      c.in_ok-made.ensures.ok (take_trees k ts) (subst (λ (rs : List Ref). AreTerms v rs (take_trees k ts)) (sym c.deref-2.ensures.value) own),
      last_left v w k m built c.truncate.new.self.items ts last c.truncate.ensures.items c.put_comp.ensures.stays.keeps h,
    )
