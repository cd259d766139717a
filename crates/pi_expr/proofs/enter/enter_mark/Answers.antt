use Rattle.std.proofs.Common.{refl}
use Rattle.pi_expr_phrases.specs.Machine as m
use Rattle.pi_expr.proofs.StepLemmas.{enters_no}
use Rattle.pi_syntax.specs.ExpTree.{no_branches}
use Rattle.pi_expr.proofs.enter.enter_mark.Goals as goal

pub returns-in-ConstraintNot : goal.returns-in-ConstraintNot
returns-in-ConstraintNot c = λ fs h. rw c.in-ConstraintNot.is (c.sign.ensures fs h)

pub returns-in-Plus : goal.returns-in-Plus
returns-in-Plus c = λ fs h. rw c.in-Plus.is (c.sign-in-Plus.ensures fs h)

pub returns-in-Complement : goal.returns-in-Complement
returns-in-Complement c = λ fs h. rw c.in-Complement.is (c.sign-in-Complement.ensures fs h)

pub returns-in-Minus : goal.returns-in-Minus
returns-in-Minus c = λ fs h. rw (c.in-Minus.is, h) (c.open_when.ensures fs (m.minus _) refl)

pub returns-in-OpenParen : goal.returns-in-OpenParen
returns-in-OpenParen c = λ fs h. rw c.in-OpenParen.is (m.parens _, (refl, refl))

pub returns-in-OpenBracket : goal.returns-in-OpenBracket
returns-in-OpenBracket c = λ fs h. rw c.in-OpenBracket.is (c.list.ensures fs)

pub returns-in-OpenBrace : goal.returns-in-OpenBrace
returns-in-OpenBrace c = λ fs h. rw c.in-OpenBrace.is (c.array.ensures fs)

pub returns-in-Dollar : goal.returns-in-Dollar
returns-in-Dollar c = λ fs h. rw c.in-Dollar.is (c.term.ensures fs)

pub returns-in-If : goal.returns-in-If
returns-in-If c = λ fs h. rw c.in-If.is (m.if_test no_branches, (refl, (no_branches, (refl, c.new.ensures))))

pub returns-in-Foreach : goal.returns-in-Foreach
returns-in-Foreach c = λ fs h. rw c.in-Foreach.is (c.foreach.ensures fs)

pub returns-in-While : goal.returns-in-While
returns-in-While c = λ fs h. rw c.in-While.is (c.open_behind.ensures fs m.while_test refl)

pub returns-in-Do : goal.returns-in-Do
returns-in-Do c = λ fs h. rw c.in-Do.is (m.do_body, (refl, refl))

pub returns-in_default : goal.returns-in_default
returns-in_default c = λ fs h. enters_no fs c.args.mark _ c.in_default.not-ConstraintNot c.in_default.not-Plus c.in_default.not-Complement c.in_default.not-Minus c.in_default.not-OpenParen c.in_default.not-OpenBracket c.in_default.not-OpenBrace c.in_default.not-Dollar c.in_default.not-If c.in_default.not-Foreach c.in_default.not-While c.in_default.not-Do
