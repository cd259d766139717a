use Rattle.std.proofs.Common.{◌≡◌, ℕ, List, [], subst, arith}
use Rattle.std.specs.String.{string_bytes}
use Rattle.std.proofs.lemmas.Result.{err_from_is_err_and}
use Rattle.pi_core.specs.CoreTree.{program_tree, query_tree}
use Rattle.pi_syntax.specs.ProgramTree.{source_tree}
use Rattle.pi_outside.proofs.WriteRuns.{ByWrites-none, ByWrites-so}
use Rattle.pi_outside.specs.Requests.{a_goal}
use Rattle.pi_top.specs.declared.query.Stop.TheVariants.{Memory, Write}
use Rattle.pi_top.specs.Handing.{Hands, Fails}
use Rattle.pi_top.specs.Runs.{run_of}
use Rattle.pi_top.specs.Took.{bounds_of, nothing_taken}
use Rattle.pi_top.proofs.RunLists.{AllWithin-push}
use Rattle.pi_top.proofs.Runnable.{lowered-runnable}
use Rattle.pi_top.specs.Asking.{RefusesOf}
use Rattle.pi_top.specs.AskingCode.{IsAskedOf}
use Rattle.pi_top.specs.Serving.{CutServing}
use Rattle.pi_top.proofs.ServedLines.{refusal-served, refusal-cut, goal-served}
use Rattle.pi_top.proofs.TurnRuns.{can-start}
use Rattle.pi_top.proofs.session.Session.ask.Goals as goal

pub returns-in_err-judged-clause-comes : goal.returns-in_err-judged-clause-comes
returns-in_err-judged-clause-comes g c =
    let p = err_from_is_err_and c.from_residual.result c.from_residual.ensures.1 in
    let memory : p.0 ≡ Memory = p.2 in
    rw (p.1, memory) (ByWrites-none g.O.Sink.wrote g.O.Sink.taken c.args.out.now _ (λ query may some. CutServing.undone query (a_goal c.args.text.now) c.args.queries.now))

pub returns-in_err-write_text-in-Refused-clause-comes : goal.returns-in_err-write_text-in-Refused-clause-comes
returns-in_err-write_text-in-Refused-clause-comes g c =
    let session = c.args.self.now in
    let program = source_tree session.program.now in
    let line = string_bytes c.in-Refused.line in
    let p = err_from_is_err_and c.from_residual-in_err-write_text-in-Refused.result c.from_residual-in_err-write_text-in-Refused.ensures.1 in
    let write : p.0 ≡ Write = p.2 in
    rw (p.1, write) (ByWrites-so c.in_err-write_text-in-Refused.ensures.hands (λ writes fails. λ query may some.
    let is : RefusesOf program c.args.text.now line = rw c.in-Refused.is at (c.in_ok-judged.ensures may) in
    refusal-cut session.manner program query c.args.text.now line c.args.queries.now writes is (subst (λ (l : List ℕ). Fails l writes) c.as_str.ensures.value fails)))

pub returns-in_ok-write_text-in-Refused-clause-comes : goal.returns-in_ok-write_text-in-Refused-clause-comes
returns-in_ok-write_text-in-Refused-clause-comes g c =
    let session = c.args.self.now in
    let program = source_tree session.program.now in
    let line = string_bytes c.in-Refused.line in
    ByWrites-so c.in_ok-write_text-in-Refused.ensures.hands (λ writes hands. λ query may some.
    let is : RefusesOf program c.args.text.now line = rw c.in-Refused.is at (c.in_ok-judged.ensures may) in
    refusal-served _ _ session.manner program (program_tree session.core.now) query c.args.text.now line c.args.queries.now writes is (subst (λ (l : List ℕ). Hands l writes) c.as_str.ensures.value hands))

pub returns-in_err-begun-in-Asks-clause-comes : goal.returns-in_err-begun-in-Asks-clause-comes
returns-in_err-begun-in-Asks-clause-comes g c =
    let session = c.args.self.now in
    let begun = c.in_err-begun-in-Asks.ensures in
    let p = err_from_is_err_and c.from_residual-in_err-begun-in-Asks.result c.from_residual-in_err-begun-in-Asks.ensures.1 in
    let same : p.0 ≡ c.in_err-begun-in-Asks.field-0.0 = p.2 in
    rw (p.1, same, begun.memory, begun.unlisted) (ByWrites-none g.O.Sink.wrote g.O.Sink.taken c.args.out.now _ (λ query may some. CutServing.undone query (a_goal c.args.text.now) c.args.queries.now))

pub returns-in_ok-begun-in-Asks-clause-comes : goal.returns-in_ok-begun-in-Asks-clause-comes
returns-in_ok-begun-in-Asks-clause-comes g c =
    let session = c.args.self.now in
    let program = source_tree session.program.now in
    let core = program_tree session.core.now in
    let q = query_tree c.in-Asks.query in
    let old = c.args.queries.now in
    let begun = c.in_ok-begun-in-Asks.ensures in
    ByWrites-so c.answer.ensures.comes (λ writes comes. λ query may some.
    let is : IsAskedOf program core c.args.text.now q = rw c.in-Asks.is at (c.in_ok-judged.ensures may) in
    goal-served _ _ session.manner program core q query c.args.text.now c.answer.result old c.answer.new.queries writes is
    (comes [] core q old (run_of nothing_taken) begun.listed (can-start session.manner _ _ core q (begun.starts c.new-store.ensures (lowered-runnable program is.goal core q is.lowered) some) begun.bounded.its_bounds)))

pub returns-in_err-begun-in-Asks-clause-ran : goal.returns-in_err-begun-in-Asks-clause-ran
returns-in_err-begun-in-Asks-clause-ran g c = λ all. rw c.in_err-begun-in-Asks.ensures.unlisted all

pub returns-in_ok-begun-in-Asks-clause-ran : goal.returns-in_ok-begun-in-Asks-clause-ran
returns-in_ok-begun-in-Asks-clause-ran g c =
    let may = bounds_of c.args.self.now.manner in
    let begun = c.in_ok-begun-in-Asks.ensures in
    λ all. c.answer.ensures.ran begun.bounded (rw begun.listed (AllWithin-push may c.args.queries.now (run_of nothing_taken) (record { ticks = omega arith; work = omega arith }) all))

pub returns-in_ok-begun-in-Asks-clause-bounded : goal.returns-in_ok-begun-in-Asks-clause-bounded
returns-in_ok-begun-in-Asks-clause-bounded g c = c.answer.ensures.bounded c.in_ok-begun-in-Asks.ensures.bounded
