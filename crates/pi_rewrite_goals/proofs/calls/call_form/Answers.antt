-- The form of a call by the tests that tell it.
use Rattle.std.proofs.Common.{sym, ◌∙◌, subst}
use Rattle.std.specs.Prelude.{codes}
use Rattle.std.specs.Str.{bytes_eq}
use Rattle.pi_rewrite_goals.specs.Calls.{IsForm}
use Rattle.pi_rewrite_goals.proofs.FormLemmas.{form-not, form-once, form-assignment, form-catch, form-other, term-count}
use Rattle.pi_rewrite_goals.proofs.CallLemmas.{count-is}
use Rattle.pi_rewrite_goals.proofs.calls.call_form.Goals as goal

pub returns-then-is_call_of-clause-has : goal.returns-then-is_call_of-clause-has
returns-then-is_call_of-clause-has c = count-is c.args.count 1 (bytes_eq c.args.name.now (codes "not")) (sym c.is_call_of.ensures ∙ c.if-is_call_of.true)

pub returns-then-is_call_of-clause-is : goal.returns-then-is_call_of-clause-is
returns-then-is_call_of-clause-is c = form-not c.args.name.now c.args.count (sym c.is_call_of.ensures ∙ c.if-is_call_of.true)

pub returns-then-is_call_of-2-clause-has : goal.returns-then-is_call_of-2-clause-has
returns-then-is_call_of-2-clause-has c = count-is c.args.count 1 (bytes_eq c.args.name.now (codes "once")) (sym c.is_call_of-2.ensures ∙ c.if-is_call_of-2.true)

pub returns-then-is_call_of-2-clause-is : goal.returns-then-is_call_of-2-clause-is
returns-then-is_call_of-2-clause-is c = form-once c.args.name.now c.args.count (sym c.is_call_of.ensures ∙ c.if-is_call_of.false) (sym c.is_call_of-2.ensures ∙ c.if-is_call_of-2.true)

pub returns-then-is_call_of-3-clause-has : goal.returns-then-is_call_of-3-clause-has
returns-then-is_call_of-3-clause-has c = count-is c.args.count 2 (bytes_eq c.args.name.now (codes ":=")) (sym c.is_call_of-3.ensures ∙ c.if-is_call_of-3.true)

pub returns-then-is_call_of-3-clause-is : goal.returns-then-is_call_of-3-clause-is
returns-then-is_call_of-3-clause-is c =
    form-assignment c.args.name.now c.args.count (sym c.is_call_of.ensures ∙ c.if-is_call_of.false) (sym c.is_call_of-2.ensures ∙ c.if-is_call_of-2.false) (sym c.is_call_of-3.ensures ∙ c.if-is_call_of-3.true)

pub returns-then-is_call_of-4-clause-has : goal.returns-then-is_call_of-4-clause-has
returns-then-is_call_of-4-clause-has c = count-is c.args.count 3 (bytes_eq c.args.name.now (codes "catch")) (sym c.is_call_of-4.ensures ∙ c.if-is_call_of-4.true)

pub returns-then-is_call_of-4-clause-is : goal.returns-then-is_call_of-4-clause-is
returns-then-is_call_of-4-clause-is c =
    form-catch c.args.name.now c.args.count (sym c.is_call_of.ensures ∙ c.if-is_call_of.false) (sym c.is_call_of-2.ensures ∙ c.if-is_call_of-2.false) (sym c.is_call_of-3.ensures ∙ c.if-is_call_of-3.false) (sym c.is_call_of-4.ensures ∙ c.if-is_call_of-4.true)

pub returns-clause-has : goal.returns-clause-has
returns-clause-has c = term-count c.other_form.result c.args.count c.other_form.ensures.has

pub returns-clause-is : goal.returns-clause-is
returns-clause-is c =
    subst (IsForm c.other_form.result)
    (sym (form-other c.args.name.now c.args.count (sym c.is_call_of.ensures ∙ c.if-is_call_of.false) (sym c.is_call_of-2.ensures ∙ c.if-is_call_of-2.false) (sym c.is_call_of-3.ensures ∙ c.if-is_call_of-3.false) (sym c.is_call_of-4.ensures ∙ c.if-is_call_of-4.false)))
    c.other_form.ensures.is
