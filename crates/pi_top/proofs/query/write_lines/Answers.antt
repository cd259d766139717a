use Rattle.std.proofs.Common.{◌≡◌, ℕ, List, [], ◌++◌, refl, subst, ◌∙◌}
use Rattle.std.proofs.lemmas.Result.{err_from_is_err_and}
use Rattle.pi_outside.proofs.WriteRuns.{ByWrites-none, ByWrites-so, ByWrites-then}
use Rattle.pi_print_terms.specs.PrintAnswer.{answer_lines}
use Rattle.pi_top.specs.declared.query.Stop.TheVariants.{Memory, Write}
use Rattle.pi_top.specs.Handing.{HandsAll, none, FailsIn}
use Rattle.pi_top.proofs.HandedTexts.{line-then, line-cut, all-lines}
use Rattle.pi_top.proofs.query.write_lines.Goals as goal

pub returns-in_err-lines-clause-told : goal.returns-in_err-lines-clause-told
returns-in_err-lines-clause-told g c =
    let p = err_from_is_err_and c.from_residual.result c.from_residual.ensures.1 in
    let memory : p.0 ≡ Memory = p.2 in
    rw (p.1, memory) (ByWrites-none g.O.Sink.wrote g.O.Sink.taken c.args.out.now _ (record { all = tt; cut = refl }))

pub loop-line-init : goal.loop-line-init
loop-line-init g c = record {
  no_fault = refl;
  handed = ByWrites-none g.O.Sink.wrote g.O.Sink.taken c.args.out.now (HandsAll []) none;
}

pub returns-in_err-write_text-clause-told : goal.returns-in_err-write_text-clause-told
returns-in_err-write_text-clause-told g c =
    let l = c.loop-line in
    let lines = c.as_slice-line-items.result.now in
    let same : lines ≡ answer_lines c.args.answer.now = c.as_slice-line-items.ensures ∙ c.in_ok-lines.ensures.ok in
    let p = err_from_is_err_and c.from_residual-in_err-write_text.result c.from_residual-in_err-write_text.ensures.1 in
    let write : p.0 ≡ Write = p.2 in
    rw (p.1, write)
    (ByWrites-then l.invariant.handed (rw c.as_str.ensures at c.in_err-write_text.ensures.hands) (λ first second handed fails. record {
      all = tt;
      cut = subst (λ (ls : List (List ℕ)). FailsIn [] ls (first ++ second)) same (line-cut lines l.line-index c.line-item.result first second c.loop-line-test.true c.line-item.is handed fails);
    }))

pub loop-line-preserved : goal.loop-line-preserved
loop-line-preserved g c =
    let l = c.loop-line in
    let lines = c.as_slice-line-items.result.now in
    record {
      no_fault = c.in_ok-write_text.ensures.no_fault ∙ l.invariant.no_fault;
      handed = ByWrites-then l.invariant.handed (rw c.as_str.ensures at c.in_ok-write_text.ensures.hands) (λ first second handed hands.
          line-then lines l.line-index c.line-item.result first second c.loop-line-test.true c.line-item.is handed hands);
    }

pub returns-clause-told : goal.returns-clause-told
returns-clause-told g c =
    let l = c.loop-line in
    let lines = c.as_slice-line-items.result.now in
    let same : lines ≡ answer_lines c.args.answer.now = c.as_slice-line-items.ensures ∙ c.in_ok-lines.ensures.ok in
    ByWrites-so l.invariant.handed (λ writes handed. record {
      all = subst (λ (ls : List (List ℕ)). HandsAll ls writes) same (all-lines lines l.line-index writes c.loop-line-test.false handed);
      cut = tt;
    })
