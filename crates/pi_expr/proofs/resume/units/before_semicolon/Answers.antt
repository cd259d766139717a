use Rattle.std.proofs.Common.{refl, sym}
use Rattle.pi_expr.proofs.resume.units.before_semicolon.Goals as goal

pub returns-then-starts_with : goal.returns-then-starts_with
returns-then-starts_with c = λ fs e h. rw (sym c.starts_with.ensures, c.if-starts_with.true) (e, (refl, h))

pub returns-else-starts_with : goal.returns-else-starts_with
returns-else-starts_with c = λ fs e h. rw (sym c.starts_with.ensures, c.if-starts_with.false) refl
