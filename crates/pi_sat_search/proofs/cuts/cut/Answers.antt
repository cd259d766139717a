use Rattle.std.proofs.Common.{List, sym, subst}
use Rattle.pi_constraints.specs.declared.var_domain.VarDomain.{VarDomain}
use Rattle.pi_sat_spec.specs.Places.{IsPlace, IsNoPlace}
use Rattle.pi_sat_spec.proofs.LookupLemmas.{cut-none, cut-read}
use Rattle.pi_sat_search.proofs.cuts.cut.Goals as goal

pub returns-in-None : goal.returns-in-None
returns-in-None c = sym (cut-none c.args.present.now.items c.args.literal (subst (λ (xs : List VarDomain). IsNoPlace xs c.args.literal.var) c.as_slice.ensures.value c.in-None.ensures))

pub returns-in_ok-domain-in-Some : goal.returns-in_ok-domain-in-Some
returns-in_ok-domain-in-Some c = cut-read c.args.present.now.items c.args.literal c.in-Some.i c.index.result.now c.in_ok-domain-in-Some.domain (subst (λ (xs : List VarDomain). IsPlace xs c.args.literal.var c.in-Some.i) c.as_slice.ensures.value c.in-Some.ensures) c.index.ensures c.in_ok-domain-in-Some.ensures
