-- A call without goals in it, by the tests that tell its form.
use Rattle.std.proofs.Common.{sym, ◌∙◌, ap}
use Rattle.pi_rewrite_goals.specs.Calls.{is_plain}
use Rattle.pi_rewrite_goals.proofs.FormLemmas.{form-by_term, form-membership, form-none}
use Rattle.pi_rewrite_goals.proofs.calls.other_form.Goals as goal

pub returns-then-is_by_term-clause-is : goal.returns-then-is_by_term-clause-is
returns-then-is_by_term-clause-is c = ap is_plain (form-by_term c.args.name.now c.args.count (sym c.is_by_term.ensures ∙ c.if-is_by_term.true))

pub returns-then-is_call_of-clause-is : goal.returns-then-is_call_of-clause-is
returns-then-is_call_of-clause-is c = form-membership c.args.name.now c.args.count (sym c.is_by_term.ensures ∙ c.if-is_by_term.false) (sym c.is_call_of.ensures ∙ c.if-is_call_of.true)

pub returns-clause-is : goal.returns-clause-is
returns-clause-is c = ap is_plain (form-none c.args.name.now c.args.count (sym c.is_by_term.ensures ∙ c.if-is_by_term.false) (sym c.is_call_of.ensures ∙ c.if-is_call_of.false))
