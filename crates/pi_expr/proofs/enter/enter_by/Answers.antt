use Rattle.std.proofs.Common.{refl, subst, ℤ, rules}
use Rattle.pi_syntax.specs.ExpTree.{int, str}
use Rattle.pi_expr_phrases.specs.Trees.{Shows}
use Rattle.pi_expr.proofs.enter.enter_by.Goals as goal

pub returns-in-Variable : goal.returns-in-Variable
returns-in-Variable c = λ fs h. rw c.in-Variable.is (c.variable.ensures fs)

pub returns-in-Atom : goal.returns-in-Atom
returns-in-Atom c = λ fs h. rw c.in-Atom.is (c.atom.ensures fs)

pub returns-in-Integer : goal.returns-in-Integer
returns-in-Integer c = λ fs h. rw c.in-Integer.is (c.found.ensures fs (int c.in-Integer.natural.value) (let P : ℤ → Type 0 = λ v. Shows c.integer.result (int v) in subst P (search rules) c.integer.ensures))

pub returns-in_ok-meant-in-Text : goal.returns-in_ok-meant-in-Text
returns-in_ok-meant-in-Text c = λ fs h. rw c.in-Text.is (c.found-in-Text.ensures fs (str c.in-Text.text.now) c.in_ok-meant-in-Text.ensures)

pub returns-in-GoalSign : goal.returns-in-GoalSign
returns-in-GoalSign c = λ fs h. rw c.in-GoalSign.is (c.sign.ensures fs h)

pub returns-in-Mark : goal.returns-in-Mark
returns-in-Mark c = λ fs h. rw c.in-Mark.is (c.enter_mark.ensures fs h)

pub returns-in-Joint : goal.returns-in-Joint
returns-in-Joint c = λ fs h. rw c.in-Joint.is refl

pub returns-in-Relation : goal.returns-in-Relation
returns-in-Relation c = λ fs h. rw c.in-Relation.is refl
