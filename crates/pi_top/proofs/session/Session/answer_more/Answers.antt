use Rattle.std.proofs.Common.{◌≡◌}
use Rattle.std.proofs.lemmas.Result.{err_from_is_err_and}
use Rattle.pi_core.specs.CoreTree.{program_tree}
use Rattle.pi_syntax.specs.ProgramTree.{source_tree}
use Rattle.pi_outside.proofs.WriteRuns.{ByWrites-so}
use Rattle.pi_top.specs.declared.query.Stop.TheVariants.{Write}
use Rattle.pi_top.proofs.ServedLines.{no-query-served, no-query-cut, kept-answers}
use Rattle.pi_top.proofs.session.Session.answer_more.Goals as goal

pub returns-in-Some-clause-ran : goal.returns-in-Some-clause-ran
returns-in-Some-clause-ran g c = λ bounded. c.answer.ensures.ran (rw c.in-Some.is at bounded)

pub returns-in-Some-clause-bounded : goal.returns-in-Some-clause-bounded
returns-in-Some-clause-bounded g c = λ bounded. c.answer.ensures.bounded (rw c.in-Some.is at bounded)

pub returns-in-Some-clause-comes : goal.returns-in-Some-clause-comes
returns-in-Some-clause-comes g c =
    let session = c.args.self.now in
    ByWrites-so c.answer.ensures.comes (λ writes comes. λ query keeps.
    kept-answers _ _ session.manner (source_tree session.program.now) (program_tree session.core.now) c.in-Some.present query c.answer.result c.args.queries.now c.answer.new.queries writes (rw c.in-Some.is at keeps)
    (λ first q earlier before was can. comes first (program_tree session.core.now) q earlier before was can))

pub returns-in_err-write_text-in-None-clause-comes : goal.returns-in_err-write_text-in-None-clause-comes
returns-in_err-write_text-in-None-clause-comes g c =
    let session = c.args.self.now in
    let p = err_from_is_err_and c.from_residual.result c.from_residual.ensures.1 in
    let write : p.0 ≡ Write = p.2 in
    rw (p.1, write) (ByWrites-so c.in_err-write_text-in-None.ensures.hands (λ writes fails. λ query keeps.
    no-query-cut session.manner (source_tree session.program.now) query c.args.queries.now writes (rw c.in-None.is at keeps) fails))

pub returns-in_ok-write_text-in-None-clause-comes : goal.returns-in_ok-write_text-in-None-clause-comes
returns-in_ok-write_text-in-None-clause-comes g c =
    let session = c.args.self.now in
    ByWrites-so c.in_ok-write_text-in-None.ensures.hands (λ writes hands. λ query keeps.
    no-query-served _ _ session.manner (source_tree session.program.now) (program_tree session.core.now) query c.args.queries.now writes (rw c.in-None.is at keeps) hands)
