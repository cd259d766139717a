use Rattle.std.proofs.Common.{refl}
use Rattle.pi_expr_phrases.specs.Machine as m
use Rattle.pi_expr.proofs.StepLemmas.{terms_no}
use Rattle.pi_expr.proofs.enter.term.Goals as goal

pub returns-in-Atom : goal.returns-in-Atom
returns-in-Atom c = λ fs. rw (c.in-Next.ensures, c.in-Atom.is) (c.structure.ensures fs)

pub returns-in_default : goal.returns-in_default
returns-in_default c = λ fs. rw (terms_no fs _ _ _ c.in-Next.ensures c.in_default.not-Atom) (c.open_behind.ensures fs (m.parens _) refl)

pub returns-in-End : goal.returns-in-End
returns-in-End c = λ fs. rw c.in-End.ensures refl
