use Rattle.std.proofs.Common.{◌∙◌, FitsSigned, w64}
use Rattle.std.proofs.lemmas.Int.{to_z-of_z}
use Rattle.pi_prop_filters.proofs.EndLemmas.{ends_are}
use Rattle.pi_prop_filters.proofs.ends.ends_at.Goals as goal

pub returns-clause-is : goal.returns-clause-is
returns-clause-is g c =
    let f0 : FitsSigned w64 c.least.result = record { sfits = c.least.type_inv } in
    let f1 : FitsSigned w64 c.greatest.result = record { sfits = c.greatest.type_inv } in
    (λ i. ((to_z-of_z w64 c.greatest.result f1 ∙ c.greatest.ensures.is) i, (to_z-of_z w64 c.least.result f0 ∙ c.least.ensures.is) i))

pub returns-clause-ends : goal.returns-clause-ends
returns-clause-ends g c =
    let f0 : FitsSigned w64 c.least.result = record { sfits = c.least.type_inv } in
    let f1 : FitsSigned w64 c.greatest.result = record { sfits = c.greatest.type_inv } in
    ends_are _ c.greatest.result c.least.result _ _ (to_z-of_z w64 c.greatest.result f1) (to_z-of_z w64 c.least.result f0) c.greatest.ensures.is c.least.ensures.is c.greatest.ensures.within c.least.ensures.within c.least.ensures.spans
