use Rattle.std.proofs.Common.{◌≡◌, ◌∙◌, ℕ, List, [], ◌∷◌, ap, sym, subst}
use Rattle.std.specs.String.{string_bytes}
use Rattle.std.proofs.lemmas.Result.{err_from_is_err_and}
use Rattle.pi_core.specs.CoreTree.{program_tree, query_tree}
use Rattle.pi_outside.proofs.WriteRuns.{ByWrites-none, ByWrites-so}
use Rattle.pi_top.specs.declared.manner.Manner.{Manner}
use Rattle.pi_top.specs.declared.query.Stop.TheVariants.{Memory}
use Rattle.pi_top.specs.Manner.{goal_of, manner_of}
use Rattle.pi_top.specs.JudgedCode.{IsAsked}
use Rattle.pi_top.specs.Judged.{Refused}
use Rattle.pi_top.specs.Runs.{AllWithin}
use Rattle.pi_top.specs.Took.{Bounds, bounds_of, bounds_asked}
use Rattle.pi_top.specs.Writing.{Writes}
use Rattle.pi_top.proofs.Endings.{text-nothing, text-ran, text-refused}
use Rattle.pi_top.proofs.Manners.{manner-answers, manner-bounds}
use Rattle.pi_top.proofs.Runnable.{asked-runnable}
use Rattle.pi_top.proofs.top.asked_of_text.Goals as goal

pub returns-in_err-judged-clause-answers : goal.returns-in_err-judged-clause-answers
returns-in_err-judged-clause-answers g c =
    let p = err_from_is_err_and c.from_residual.result c.from_residual.ensures.1 in
    let memory : p.0 ≡ Memory = p.2 in
    let asked = c.args.asked.now in
    rw (p.1, memory) (ByWrites-none g.O.Sink.wrote g.O.Sink.taken c.args.out.now _ (λ some none. text-nothing (manner_of asked) c.args.text.items (goal_of asked) c.args.queries.now none))

pub returns-in-Refused-clause-answers : goal.returns-in-Refused-clause-answers
returns-in-Refused-clause-answers g c =
    let asked = c.args.asked.now in
    let text = c.args.text.items in
    let line = string_bytes c.in-Refused.line in
    let shown : Refused text c.as_bytes.result.now line = rw c.in-Refused.is at c.in_ok-judged.ensures in
    let is : Refused text (goal_of asked) line = subst (λ (of_goal : List ℕ). Refused text of_goal line) (c.as_bytes.ensures.value ∙ c.goal_of-goal.ensures) shown in
    ByWrites-so c.ended.ensures.told (λ writes told. λ some none.
    text-refused (manner_of asked) text (goal_of asked) line c.args.queries.now c.ended.result writes is none c.ended.ensures.status c.ended.ensures.stops
    (subst (λ (l : List ℕ). Writes (l ∷ []) c.ended.result writes) c.as_str.ensures.value told))

pub returns-in-Asks-clause-answers : goal.returns-in-Asks-clause-answers
returns-in-Asks-clause-answers g c =
    let asked = c.args.asked.now in
    let text = c.args.text.items in
    let core = program_tree c.in-Asks.core in
    let query = query_tree c.in-Asks.query in
    let shown : IsAsked text c.as_bytes.result.now core query = rw c.in-Asks.is at c.in_ok-judged.ensures in
    let is : IsAsked text (goal_of asked) core query = subst (λ (of_goal : List ℕ). IsAsked text of_goal core query) (c.as_bytes.ensures.value ∙ c.goal_of-goal.ensures) shown in
    ByWrites-so c.run_query.ensures.comes (λ writes comes. λ some none.
    text-ran (manner_of asked) text (goal_of asked) core query c.args.queries.now c.run_query.new.queries c.run_query.result writes none is
    (rw c.of-manner.ensures at (comes (asked-runnable text (goal_of asked) core query is) (rw c.of-manner.ensures (manner-answers asked some)))))

pub returns-in-Asks-clause-ran : goal.returns-in-Asks-clause-ran
returns-in-Asks-clause-ran g c =
    let same : bounds_of c.of-manner.result ≡ bounds_asked c.args.asked.now = ap (λ (m : Manner). bounds_of m) c.of-manner.ensures ∙ manner-bounds c.args.asked.now in
    λ all. subst (λ (may : Bounds). AllWithin may c.run_query.new.queries) same (c.run_query.ensures.ran (subst (λ (may : Bounds). AllWithin may c.args.queries.now) (sym same) all))
