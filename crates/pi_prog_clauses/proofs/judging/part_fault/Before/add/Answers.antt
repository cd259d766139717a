use Rattle.std.proofs.Common.{◌∙◌, sym}
use Rattle.pi_prog_clauses.specs.Called.{named_by}
use Rattle.pi_prog_clauses.specs.Seen.{seen}
use Rattle.pi_prog_clauses.proofs.judging.JudgedLemmas.{nothing_more, none_written, none_defined, one_more, two_more}
use Rattle.pi_prog_clauses.proofs.judging.part_fault.Before.add.Goals as goal

pub returns-in_default : goal.returns-in_default
returns-in_default c = λ before is.
    let none = none_written c.args.part.now c.in_default.not-Written in
    nothing_more c.args.self.now before (seen c.args.part.now) none.0 none.1 is

pub returns-in_default-definition : goal.returns-in_default-definition
returns-in_default-definition c = λ before is.
    let none = none_defined c.args.part.now c.in-Written.written c.in-Written.is c.in_default-definition.ensures in
    nothing_more c.args.self.now before (seen c.args.part.now) none.0 none.1 is

pub returns-in_ok-insert-2 : goal.returns-in_ok-insert-2
returns-in_ok-insert-2 c = λ before is.
    two_more _ _ before c.args.part.now c.in-Written.written (named_by c.in-Some.name) c.in-Written.is c.in-Some.ensures (sym c.is_some.ensures ∙ c.if-is_some.true)
    (c.in_ok-insert.ensures.behind _ is.defined) (c.in_ok-insert-2.ensures.behind _ is.indexed)

pub returns-else-is_some : goal.returns-else-is_some
returns-else-is_some c = λ before is.
    one_more c.args.self.now _ before c.args.part.now c.in-Written.written (named_by c.in-Some.name) c.in-Written.is c.in-Some.ensures (sym c.is_some.ensures ∙ c.if-is_some.false)
    is (c.in_ok-insert.ensures.behind _ is.defined)
