use Rattle.std.proofs.Common.{◌≡◌}
use Rattle.std.proofs.lemmas.Result.{err_from_is_err_and}
use Rattle.pi_core.specs.CoreTree.{program_tree}
use Rattle.pi_syntax.specs.ProgramTree.{source_tree}
use Rattle.pi_outside.proofs.WriteRuns.{ByWrites-none, ByWrites-so}
use Rattle.pi_outside.specs.Requests.{another, a_goal, request_of}
use Rattle.pi_top.specs.declared.query.Stop.TheVariants.{Write}
use Rattle.pi_top.proofs.ServedLines.{nothing-served, too-long-served, too-long-cut, asked-served}
use Rattle.pi_top.proofs.session.Session.serve.Goals as goal

pub returns-in-Nothing-clause-comes : goal.returns-in-Nothing-clause-comes
returns-in-Nothing-clause-comes g c =
    let session = c.args.self.now in
    ByWrites-none g.O.Sink.wrote g.O.Sink.taken c.args.out.now _ (λ query may some keeps.
    nothing-served _ _ session.manner (source_tree session.program.now) (program_tree session.core.now) query (request_of c.args.line.now) c.args.present c.args.queries.now c.in-Nothing.ensures keeps)

pub returns-in-Another-clause-comes : goal.returns-in-Another-clause-comes
returns-in-Another-clause-comes g c =
    let session = c.args.self.now in
    ByWrites-so c.answer_more.ensures.comes (λ writes comes. λ query may some keeps.
    asked-served _ _ session.manner (source_tree session.program.now) (program_tree session.core.now) query (request_of c.args.line.now) another c.answer_more.result c.args.queries.now c.answer_more.new.queries writes
    c.in-Another.ensures (comes query keeps))

pub returns-in_err-write_text-in-TooLong-clause-comes : goal.returns-in_err-write_text-in-TooLong-clause-comes
returns-in_err-write_text-in-TooLong-clause-comes g c =
    let session = c.args.self.now in
    let p = err_from_is_err_and c.from_residual.result c.from_residual.ensures.1 in
    let write : p.0 ≡ Write = p.2 in
    rw (p.1, write) (ByWrites-so c.in_err-write_text-in-TooLong.ensures.hands (λ writes fails. λ query may some keeps.
    too-long-cut session.manner (source_tree session.program.now) query (request_of c.args.line.now) c.args.queries.now writes c.in-TooLong.ensures fails))

pub returns-in_ok-write_text-in-TooLong-clause-comes : goal.returns-in_ok-write_text-in-TooLong-clause-comes
returns-in_ok-write_text-in-TooLong-clause-comes g c =
    let session = c.args.self.now in
    ByWrites-so c.in_ok-write_text-in-TooLong.ensures.hands (λ writes hands. λ query may some keeps.
    too-long-served _ _ session.manner (source_tree session.program.now) (program_tree session.core.now) query (request_of c.args.line.now) c.args.queries.now writes c.in-TooLong.ensures hands)

pub returns-in-Goal-clause-comes : goal.returns-in-Goal-clause-comes
returns-in-Goal-clause-comes g c =
    let session = c.args.self.now in
    ByWrites-so c.ask.ensures.comes (λ writes comes. λ query may some keeps.
    asked-served _ _ session.manner (source_tree session.program.now) (program_tree session.core.now) query (request_of c.args.line.now) (a_goal c.in-Goal.text.now) c.ask.result c.args.queries.now c.ask.new.queries writes
    c.in-Goal.ensures (comes query may some))
