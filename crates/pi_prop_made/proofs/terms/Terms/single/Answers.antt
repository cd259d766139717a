-- One term stands alone, with the coefficient 1.
use Rattle.std.specs.Prelude.{true, false}
use Rattle.std.proofs.Common.{◌∙◌, sym}
use Rattle.pi_prop_made.specs.Signed.{signed}
use Rattle.pi_prop_made.proofs.WrittenLemmas.{not_single, single_one}
use Rattle.pi_prop_made.proofs.terms.Terms.single.Goals as goal

pub returns-then-len-ne1 : goal.returns-then-len-ne1
returns-then-len-ne1 c = not_single c.self.inside.negated c.self.inside.entries.entries c.args.self.now c.self.view_is (λ e. c.if-len-ne1.true (c.len.ensures.len ∙ e))

pub returns-then-is_one : goal.returns-then-is_one
returns-then-is_one c =
    single_one c.self.inside.negated c.self.inside.entries.entries c.args.self.now c.in-Some.variable.now c.in-Some.coefficient.now (signed c.turned.result.negated c.turned.result.value) c.self.view_is
    (sym c.len.ensures.len ∙ c.if-len-ne1.false) c.in-Some.ensures.first c.turned.ensures true (sym c.if-is_one.true ∙ c.is_one.ensures)

pub returns-else-is_one : goal.returns-else-is_one
returns-else-is_one c =
    single_one c.self.inside.negated c.self.inside.entries.entries c.args.self.now c.in-Some.variable.now c.in-Some.coefficient.now (signed c.turned.result.negated c.turned.result.value) c.self.view_is
    (sym c.len.ensures.len ∙ c.if-len-ne1.false) c.in-Some.ensures.first c.turned.ensures false (sym c.if-is_one.false ∙ c.is_one.ensures)
