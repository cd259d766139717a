use Rattle.std.proofs.Common.{sym, subst, ℤ, rules}
use Rattle.pi_syntax.specs.ExpTree.{int}
use Rattle.pi_expr_phrases.specs.Trees.{Shows}
use Rattle.pi_expr.proofs.resume.operators.negated.Goals as goal

pub returns-in-Some : goal.returns-in-Some
returns-in-Some c = λ e h. rw (c.in-Some.ensures, sym c.negated.ensures) (let P : ℤ → Type 0 = λ v. Shows c.integer.result (int v) in subst P (search rules) c.integer.ensures)

pub returns-in-None : goal.returns-in-None
returns-in-None c = rw c.in-None.ensures c.call_of_one.ensures
