use Rattle.std.proofs.Common.{sym, ap, ◌∙◌, option_copied}
use Rattle.pi_types.proofs.StandingLemmas.{span-by, none-span}
use Rattle.pi_types.proofs.tree_store.state.TreeState.span.Goals as goal

pub returns-in-Some : goal.returns-in-Some
returns-in-Some c = span-by _ _ c.args.k c.span_of.result (sym (ap option_copied c.in-Some.is) ∙ c.domain_ref.ensures) c.span_of.ensures

pub returns-in-None : goal.returns-in-None
returns-in-None c = none-span _ c.args.k _ (sym (ap option_copied c.in-None.is) ∙ c.domain_ref.ensures)
