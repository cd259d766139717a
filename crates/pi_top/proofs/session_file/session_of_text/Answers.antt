use Rattle.std.proofs.Common.{◌≡◌, ◌<◌, List, [], ℕ, ◌∷◌, refl, sym, ap, subst}
use Rattle.std.specs.String.{string_bytes}
use Rattle.std.proofs.lemmas.Result.{err_from_is_err_and}
use Rattle.pi_core.specs.CoreTree.{program_tree}
use Rattle.pi_syntax.specs.ProgramTree.{source_tree}
use Rattle.pi_outside.proofs.InputRuns.{ByInput-none, ByInput-so}
use Rattle.pi_outside.proofs.WriteRuns.{ByWrites-none, ByWrites-so}
use Rattle.pi_top.specs.declared.manner.Manner.{Manner}
use Rattle.pi_top.specs.declared.query.Stop.TheVariants.{Memory}
use Rattle.pi_top.specs.Faults.{counted}
use Rattle.pi_top.specs.Runs.{AllWithin}
use Rattle.pi_top.specs.Took.{Bounds, bounds_of, bounds_asked}
use Rattle.pi_top.specs.Writing.{Writes}
use Rattle.pi_top.specs.Asking.{IsUnready}
use Rattle.pi_top.specs.AskingCode.{IsReadied}
use Rattle.pi_top.specs.SessionCode.{AnswersSession}
use Rattle.pi_top.proofs.AskedGoals.{may-be-asked}
use Rattle.pi_top.proofs.SessionEndings.{text-nothing, text-unready, text-served}
use Rattle.pi_top.specs.Told.{input_read}
use Rattle.pi_top.proofs.session_file.session_of_text.Goals as goal

pub returns-in_err-judged-clause-answers : goal.returns-in_err-judged-clause-answers
returns-in_err-judged-clause-answers g c =
    let p = err_from_is_err_and c.from_residual.result c.from_residual.ensures.1 in
    let memory : p.0 ≡ Memory = p.2 in
    rw (p.1, memory) (ByInput-none g.I.Source.has_read g.I.Source.rest c.args.input.now _ (ByWrites-none g.O.Sink.wrote g.O.Sink.taken c.args.out.now _ (λ some none.
    text-nothing c.args.asked.now c.args.text.items c.args.most _ c.args.queries.now refl none)))

pub returns-in-Refused-clause-answers : goal.returns-in-Refused-clause-answers
returns-in-Refused-clause-answers g c =
    let line = string_bytes c.in-Refused.line in
    let is : IsUnready c.args.text.items line = rw c.in-Refused.is at c.in_ok-judged.ensures in
    let ended = c.ended.ensures in
    ByInput-none g.I.Source.has_read g.I.Source.rest c.args.input.now _ (ByWrites-so ended.told (λ writes told. λ some none.
    text-unready c.args.asked.now c.args.text.items line c.args.most _ c.args.queries.now c.ended.result writes is refl none ended.status ended.stops
    (subst (λ (l : List ℕ). Writes (l ∷ []) c.ended.result writes) c.as_str.ensures.value told)))

pub returns-in-Ready-clause-answers : goal.returns-in-Ready-clause-answers
returns-in-Ready-clause-answers g c =
    let program = source_tree c.in-Ready.program in
    let core = program_tree c.in-Ready.core in
    let is : IsReadied c.args.text.items program core = rw c.in-Ready.is at c.in_ok-judged.ensures in
    let input = counted (g.I.Source.faults c.args.input.now) (g.I.Source.faults c.serve_all.new.input) in
    ByInput-so c.serve_all.ensures.comes (λ inputs by. ByWrites-so by (λ writes comes. λ some none.
    text-served c.args.asked.now c.args.text.items c.args.most input c.serve_all.new.queries program c.serve_all.result inputs writes is.is_ready
    (subst (λ (m : Manner). AnswersSession m program (input_read c.args.most input inputs) c.serve_all.new.queries c.serve_all.result writes) c.as_asked.ensures
    (comes (may-be-asked c.args.text.items program core is) (subst (λ (m : Manner). 0 < m.answers) (sym c.as_asked.ensures) some) none))))

pub returns-in-Ready-clause-ran : goal.returns-in-Ready-clause-ran
returns-in-Ready-clause-ran g c =
    let same : bounds_of c.as_asked.result ≡ bounds_asked c.args.asked.now = ap (λ (m : Manner). bounds_of m) c.as_asked.ensures in
    λ all. subst (λ (may : Bounds). AllWithin may c.serve_all.new.queries) same (c.serve_all.ensures.ran (subst (λ (may : Bounds). AllWithin may c.args.queries.now) (sym same) all))
