use Rattle.std.proofs.Common.{refl}
use Rattle.std.proofs.lemmas.Result.{IfOk-weaker}
use Rattle.pi_prog_clauses.proofs.program.OnePartMore.{import_more, written_more, refused_more}
use Rattle.pi_prog_clauses.proofs.program.add_part.Goals as goal

pub returns-in-Import : goal.returns-in-Import
returns-in-Import c = IfOk-weaker c.push_part.result _ _ (λ _ so. import_more _ _ _ _ so c.in-Import.is refl refl) c.push_part.ensures

pub returns-in-Written : goal.returns-in-Written
returns-in-Written c = IfOk-weaker c.push_part-in-Written.result _ _ (λ _ so. written_more _ _ _ _ so c.in-Written.is c.declaration.ensures refl) c.push_part-in-Written.ensures

pub returns-in_default : goal.returns-in_default
returns-in_default c = refused_more _ _ c.in_default.not-Import c.in_default.not-Written
