-- The sign, and what isn't it.
use Rattle.std.proofs.Common.{sym, ◌∙◌}
use Rattle.pi_syntax.specs.ExpLists.{exps_of}
use Rattle.pi_rewrite_sites.proofs.UnitLemmas.{iterated-in, iterated-not}
use Rattle.pi_rewrite_sites.proofs.units.in_sign.Goals as goal

pub returns-then-eq : goal.returns-then-eq
returns-then-eq c = c.first_of_two.ensures ∙ sym (iterated-in c.args.name.now (exps_of c.args.args.now) (sym c.eq.ensures ∙ c.if-eq.true))

pub returns : goal.returns
returns c = iterated-not c.args.name.now (exps_of c.args.args.now) (sym c.eq.ensures ∙ c.if-eq.false)
