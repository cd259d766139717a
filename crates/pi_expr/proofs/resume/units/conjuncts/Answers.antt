use Rattle.std.proofs.Common.{refl}
use Rattle.pi_expr_phrases.specs.Machine as m
use Rattle.pi_syntax.specs.ExpTree as tree
use Rattle.pi_expr.proofs.OperandLemmas.{conjunction_with}
use Rattle.pi_expr.proofs.resume.units.conjuncts.Goals as goal

pub returns-in-Some : goal.returns-in-Some
returns-in-Some c = λ fs a es e h i. rw (c.in-Some.ensures.0, c.in-Some.ensures.1) (m.conjuncts (m.with_exp (tree.exp a es) e), (refl, (a, (m.with_exp es e, (refl, c.in_ok-more.ensures (tree.exp a es) e h i)))))

pub returns-in-None : goal.returns-in-None
returns-in-None c = λ fs a es e h i. rw (c.in-None.ensures, conjunction_with a es e) (tree.and (m.with_exp (tree.exp a es) e), (refl, c.and.ensures (m.with_exp (tree.exp a es) e) (c.in_ok-more.ensures (tree.exp a es) e h i)))
