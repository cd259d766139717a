use Rattle.std.proofs.Common.{List, false, sym, subst, ◌↔◌, IsTrue}
use Rattle.std.specs.Prelude.{All}
use Rattle.pi_constraints.specs.declared.constraint.Constraint.{Constraint}
use Rattle.pi_constraints.specs.declared.var_domain.VarDomain.{VarDomain}
use Rattle.pi_sat_check.specs.May.{MayHave}
use Rattle.pi_sat_check.proofs.MayLemmas.{so-may, not-all}
use Rattle.pi_sat_check.proofs.may.may_search.Goals as goal

pub returns-then-not-branch : goal.returns-then-not-branch
returns-then-not-branch c =
    let xs = c.args.domains.now in
    let is = subst (λ (ys : List VarDomain). IsTrue c.in_ok-may_have.field-0 ↔ MayHave ys c.index-all-i.result) c.as_slice.ensures c.in_ok-may_have.ensures in (
      λ t. absurd cc,
      λ h. absurd (not-all (MayHave xs) c.as_slice-all.result.now c.loop-i.i c.index-all-i.result c.in_ok-may_have.field-0 c.loop-i-test.true c.index-all-i.is is c.if-not-branch.true
          (subst (All (MayHave xs)) (sym c.as_slice-all.ensures) (so-may xs c.args.constraints.now h))),
    )
