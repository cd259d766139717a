use Rattle.std.proofs.Common.{rules, sym, ◌∙◌}
use Rattle.std.proofs.lemmas.Bool.{false≢true}
use Rattle.pi_prop_places.proofs.WideLemmas.{le_told, told_le}
use Rattle.pi_prop_places.proofs.shared.lies_in.Goals as goal

pub returns-then-other-span : goal.returns-then-other-span
returns-then-other-span c = (
  λ t. (le_told c.args.other.lo c.args.span.lo (search rules) (search rules) c.if-other-span.true, le_told c.args.span.hi c.args.other.hi (search rules) (search rules) t),
  λ p. told_le c.args.span.hi c.args.other.hi (search rules) (search rules) p.1,
)

pub returns-else-other-span : goal.returns-else-other-span
returns-else-other-span c = (
  λ t. absurd (false≢true (sym c.if-other-span.false ∙ t)),
  λ p. absurd (false≢true (sym c.if-other-span.false ∙ told_le c.args.other.lo c.args.span.lo (search rules) (search rules) p.0)),
)
