use Rattle.std.proofs.Common.{refl}
use Rattle.pi_prog.proofs.reading.declaration.DeclarationLemmas.{opens_empty, opens_undeclared, opens_other, opens_import, opens_index}
use Rattle.pi_prog.proofs.reading.declaration.opening.Goals as goal

pub returns-then-from-to : goal.returns-then-from-to
returns-then-from-to c = opens_empty _ _ _ c.if-from-to.true

pub returns-in_ok-opening-in-Import : goal.returns-in_ok-opening-in-Import
returns-in_ok-opening-in-Import c = opens_import _ _ _ _ _ _ refl c.if-from-to.false c.kind-first.ensures.token c.in-Import.ensures c.in_ok-opening-in-Import.ensures

pub returns-in_ok-opening-in-Index : goal.returns-in_ok-opening-in-Index
returns-in_ok-opening-in-Index c = opens_index _ _ _ _ _ _ refl c.if-from-to.false c.kind-first.ensures.token c.in-Index.ensures c.in_ok-opening-in-Index.ensures

pub returns-in-Other : goal.returns-in-Other
returns-in-Other c = opens_other _ _ _ _ c.if-from-to.false c.kind-first.ensures.token c.in-Other.ensures

pub returns-in-Nothing : goal.returns-in-Nothing
returns-in-Nothing c = opens_undeclared _ _ _ _ c.if-from-to.false c.kind-first.ensures.token c.in-Nothing.ensures
