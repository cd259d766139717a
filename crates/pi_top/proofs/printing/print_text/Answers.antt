use Rattle.std.proofs.Common.{◌≡◌, ℕ, List, [], ◌∷◌, subst}
use Rattle.std.specs.String.{string_bytes}
use Rattle.std.proofs.lemmas.Result.{err_from_is_err_and}
use Rattle.pi_outside.proofs.WriteRuns.{ByWrites-none, ByWrites-so}
use Rattle.pi_top.specs.declared.query.Stop.TheVariants.{Memory}
use Rattle.pi_top.specs.PrintedCode.{IsCanonical, IsFaulty}
use Rattle.pi_top.specs.Writing.{Writes}
use Rattle.pi_top.proofs.Endings.{printed-faulty, printed-nothing, printed-whole}
use Rattle.pi_top.proofs.printing.print_text.Goals as goal

pub returns-in_err-printed-clause-answers : goal.returns-in_err-printed-clause-answers
returns-in_err-printed-clause-answers g c =
    let p = err_from_is_err_and c.from_residual.result c.from_residual.ensures.1 in
    let memory : p.0 ≡ Memory = p.2 in
    rw (p.1, memory) (ByWrites-none g.O.Sink.wrote g.O.Sink.taken c.args.out.now _ (λ queries none. printed-nothing c.args.text.items queries none))

pub returns-in-Canonical-clause-answers : goal.returns-in-Canonical-clause-answers
returns-in-Canonical-clause-answers g c =
    let is : IsCanonical c.args.text.items c.in-Canonical.whole = rw c.in-Canonical.is at c.in_ok-printed.ensures in
    ByWrites-so c.ended.ensures.told (λ writes told. λ queries none.
    printed-whole c.args.text.items c.in-Canonical.whole queries c.ended.result writes is none c.ended.ensures.status c.ended.ensures.stops
    (subst (λ (l : List ℕ). Writes (l ∷ []) c.ended.result writes) c.as_str.ensures told))

pub returns-in-Refused-clause-answers : goal.returns-in-Refused-clause-answers
returns-in-Refused-clause-answers g c =
    let line = string_bytes c.in-Refused.line in
    let ended = c.ended-in-Refused in
    let is : IsFaulty c.args.text.items line = rw c.in-Refused.is at c.in_ok-printed.ensures in
    ByWrites-so ended.ensures.told (λ writes told. λ queries none.
    printed-faulty c.args.text.items line queries ended.result writes is none ended.ensures.status ended.ensures.stops
    (subst (λ (l : List ℕ). Writes (l ∷ []) ended.result writes) c.as_str-in-Refused.ensures.value told))
