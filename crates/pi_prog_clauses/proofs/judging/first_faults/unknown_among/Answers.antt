use Rattle.std.specs.Prelude.{MatchOption}
use Rattle.pi_prog_clauses.specs.declared.names.calls.Called.{Called}
use Rattle.std.proofs.Common.{length, arith, ◌≡◌, [], ◌∷◌, Option, subst, refl, sym, ◌∙◌, ap}
use Rattle.pi_prog_clauses.specs.Called.{named_by, calls_ahead}
use Rattle.pi_prog_clauses.specs.Calls.{first_unknown}
use Rattle.pi_prog_clauses.proofs.judging.JudgeLemmas.{unknown_past, unknown_met}
use Rattle.pi_prog_clauses.proofs.judging.first_faults.unknown_among.Goals as goal

pub loop-ahead-init : goal.loop-ahead-init
loop-ahead-init c = λ all is. refl

pub returns-then-not-knows : goal.returns-then-not-knows
returns-then-not-knows c = λ all is. sym (c.loop-ahead.invariant all is ∙ unknown_met all (calls_ahead c.loop-ahead.ahead) (calls_ahead c.next.new.self) (named_by c.in-Some.called) c.knows.result (subst (λ (o : Option Called). MatchOption o (calls_ahead c.loop-ahead.ahead ≡ []) (λ d. calls_ahead c.loop-ahead.ahead ≡ named_by d ∷ calls_ahead c.next.new.self)) c.in-Some.is c.in_ok-called.ensures) (c.knows.ensures all is) c.if-not-knows.true)

pub loop-ahead-preserved : goal.loop-ahead-preserved
loop-ahead-preserved c = λ all is. c.loop-ahead.invariant all is ∙ unknown_past all (calls_ahead c.loop-ahead.ahead) (calls_ahead c.next.new.self) (named_by c.in-Some.called) c.knows.result (subst (λ (o : Option Called). MatchOption o (calls_ahead c.loop-ahead.ahead ≡ []) (λ d. calls_ahead c.loop-ahead.ahead ≡ named_by d ∷ calls_ahead c.next.new.self)) c.in-Some.is c.in_ok-called.ensures) (c.knows.ensures all is) c.if-not-knows.false

pub returns : goal.returns
returns c = λ all is. sym (c.loop-ahead.invariant all is ∙ ap (first_unknown all) (subst (λ (o : Option Called). MatchOption o (calls_ahead c.loop-ahead.ahead ≡ []) (λ d. calls_ahead c.loop-ahead.ahead ≡ named_by d ∷ calls_ahead c.next.new.self)) c.in_default.is c.in_ok-called.ensures))

pub loop-ahead-smaller : goal.loop-ahead-smaller
loop-ahead-smaller c = omega (arith, ap length (subst (λ (o : Option Called). MatchOption o (calls_ahead c.loop-ahead.ahead ≡ []) (λ d. calls_ahead c.loop-ahead.ahead ≡ named_by d ∷ calls_ahead c.next.new.self)) c.in-Some.is c.in_ok-called.ensures))
