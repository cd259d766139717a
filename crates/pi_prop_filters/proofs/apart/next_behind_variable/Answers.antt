use Rattle.std.proofs.Common.{arith, sym, ◌∙◌, ◌+◌}
use Rattle.std.proofs.lemmas.Bool.{false≢true}
use Rattle.pi_prop_filters.proofs.ApartLemmas.{apart_variable, apart_above}
use Rattle.pi_prop_filters.proofs.apart.next_behind_variable.Goals as goal

pub returns-then-next-number : goal.returns-then-next-number
returns-then-next-number c = λ f. apart_above c.args.items.now c.args.i c.args.next (c.from-number.result + 1) c.args.variable c.requires (omega (arith, c.from-number.ensures)) (omega (arith, c.from-number.ensures)) f

pub returns : goal.returns
returns c = λ f.
    apart_variable c.args.items.now c.args.i c.args.next c.args.next c.args.variable c.requires (omega (arith, c.from-number.ensures)) (omega arith)
    (λ h. false≢true (sym c.if-stands_before.false ∙ c.stands_before.ensures.1 h)) f
