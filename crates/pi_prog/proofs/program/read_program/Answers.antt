use Rattle.std.proofs.Common.{◌∙◌, ap, sym, subst}
use Rattle.pi_lex.specs.Kinds.{kinds}
use Rattle.pi_prog_clauses.specs.Seen.{all_seen}
use Rattle.pi_prog_clauses.specs.Verdict.{parts_of, verdict}
use Rattle.pi_prog_clauses.specs.Shown.{AreShown}
use Rattle.pi_prog.proofs.OneReadingLemmas.{one_program}
use Rattle.pi_prog.proofs.ProgramLemmas.{has_verdict, has_program, is_program_fault, answers_fault}
use Rattle.pi_prog.proofs.program.read_program.Goals as goal

pub returns-in-Err-clause-fault : goal.returns-in-Err-clause-fault
returns-in-Err-clause-fault c =
    let rs = c.in_ok-parts.ensures in
    let shown = subst (λ ps. AreShown ps rs.0) (sym c.as_slice.ensures.value) rs.2 in
    is_program_fault (kinds c.args.tokens.now) (verdict (all_seen c.as_slice.result.now)) c.in-Err.fault
    (has_verdict (kinds c.args.tokens.now) c.as_slice.result.now rs.0 rs.1 shown) c.in-Err.ensures.fault

pub returns-in-Err-clause-exact : goal.returns-in-Err-clause-exact
returns-in-Err-clause-exact c =
    let rs = c.in_ok-parts.ensures in
    let shown = subst (λ ps. AreShown ps rs.0) (sym c.as_slice.ensures.value) rs.2 in
    answers_fault (kinds c.args.tokens.now) (verdict (all_seen c.as_slice.result.now)) c.in-Err.fault
    (has_verdict (kinds c.args.tokens.now) c.as_slice.result.now rs.0 rs.1 shown) c.in-Err.ensures.fault

pub returns-clause-program : goal.returns-clause-program
returns-clause-program c =
    let rs = c.in_ok-parts.ensures in
    let shown = subst (λ ps. AreShown ps rs.0) (sym c.as_slice.ensures.value) rs.2 in
    has_program (kinds c.args.tokens.now) c.as_slice.result.now c.in_ok-program.program
    (has_verdict (kinds c.args.tokens.now) c.as_slice.result.now rs.0 rs.1 shown) c.in_default.ensures.ok
    (c.in_ok-program.ensures ∙ ap (λ ps. parts_of (all_seen ps)) (sym c.as_slice.ensures.value))

pub returns-clause-exact : goal.returns-clause-exact
returns-clause-exact c = λ v h.
    let rs = c.in_ok-parts.ensures in
    let shown = subst (λ ps. AreShown ps rs.0) (sym c.as_slice.ensures.value) rs.2 in
    one_program (kinds c.args.tokens.now) v _ h (has_program (kinds c.args.tokens.now) c.as_slice.result.now c.in_ok-program.program
    (has_verdict (kinds c.args.tokens.now) c.as_slice.result.now rs.0 rs.1 shown) c.in_default.ensures.ok
    (c.in_ok-program.ensures ∙ ap (λ ps. parts_of (all_seen ps)) (sym c.as_slice.ensures.value)))
