use Rattle.pi_expr.proofs.resume.resume.Goals as goal

pub returns-in-Signed : goal.returns-in-Signed
returns-in-Signed c = λ fs f e h i. let j = rw c.in-Signed.is at h in rw j (c.signed.ensures fs e i)

pub returns-in-Minus : goal.returns-in-Minus
returns-in-Minus c = λ fs f e h i. let j = rw c.in-Minus.is at h in rw j (c.minus.ensures fs e i)

pub returns-in-Joining : goal.returns-in-Joining
returns-in-Joining c = λ fs f e h i. let j = rw c.in-Joining.is at h in rw j.1.0 (c.joining.ensures fs j.0 e j.1.1 i)

pub returns-in-Relation : goal.returns-in-Relation
returns-in-Relation c = λ fs f e h i. let j = rw c.in-Relation.is at h in rw j.1.0 (c.relation.ensures fs j.0 e j.1.1 i)

pub returns-in-RangeFrom : goal.returns-in-RangeFrom
returns-in-RangeFrom c = λ fs f e h i. let j = rw c.in-RangeFrom.is at h in rw j.1.0 (c.range_from.ensures fs j.0 e j.1.1 i)

pub returns-in-RangeStep : goal.returns-in-RangeStep
returns-in-RangeStep c = λ fs f e h i. let j = rw c.in-RangeStep.is at h in rw j.1.1.0 (c.range_step.ensures fs j.0 j.1.0 e j.1.1.1.0 j.1.1.1.1 i)

pub returns-in-Power : goal.returns-in-Power
returns-in-Power c = λ fs f e h i. let j = rw c.in-Power.is at h in rw j.1.0 (c.power.ensures fs j.0 e j.1.1 i)

pub returns-in-Conjuncts : goal.returns-in-Conjuncts
returns-in-Conjuncts c = λ fs f e h i. let j = rw c.in-Conjuncts.is at h in rw j.1.1.0 (c.conjuncts.ensures fs j.0 j.1.0 e j.1.1.1 i)

pub returns-in-Branches : goal.returns-in-Branches
returns-in-Branches c = λ fs f e h i. let j = rw c.in-Branches.is at h in rw j.1.1.0 (c.branches.ensures fs j.0 j.1.0 e j.1.1.1 i)

pub returns-in-Arrow : goal.returns-in-Arrow
returns-in-Arrow c = λ fs f e h i. let j = rw c.in-Arrow.is at h in rw j.1.0 (c.arrow.ensures fs j.0 e j.1.1 i)

pub returns-in-Pattern : goal.returns-in-Pattern
returns-in-Pattern c = λ fs f e h i. let j = rw c.in-Pattern.is at h in rw j (c.pattern.ensures fs e i)

pub returns-in-Parens : goal.returns-in-Parens
returns-in-Parens c = λ fs f e h i. let j = rw c.in-Parens.is at h in rw j (c.parens.ensures fs e i)

pub returns-in-Items : goal.returns-in-Items
returns-in-Items c = λ fs f e h i. let j = rw c.in-Items.is at h in rw j.1.1.0 (c.resume_items.ensures fs j.0 j.1.0 e j.1.1.1 i)

pub returns-in-ListTail : goal.returns-in-ListTail
returns-in-ListTail c = λ fs f e h i. let j = rw c.in-ListTail.is at h in rw j.1.0 (c.list_tail.ensures fs j.0 e j.1.1 i)

pub returns-in-Indexing : goal.returns-in-Indexing
returns-in-Indexing c = λ fs f e h i. let j = rw c.in-Indexing.is at h in rw j.1.0 (c.indexing.ensures fs j.0 e j.1.1 i)

pub returns-in-ForeachBody : goal.returns-in-ForeachBody
returns-in-ForeachBody c = λ fs f e h i. let j = rw c.in-ForeachBody.is at h in rw j.1.0 (c.foreach_body.ensures fs j.0 e j.1.1 i)

pub returns-in-WhileTest : goal.returns-in-WhileTest
returns-in-WhileTest c = λ fs f e h i. let j = rw c.in-WhileTest.is at h in rw j (c.while_test.ensures fs e i)

pub returns-in-WhileBody : goal.returns-in-WhileBody
returns-in-WhileBody c = λ fs f e h i. let j = rw c.in-WhileBody.is at h in rw j.1.0 (c.while_body.ensures fs j.0 e j.1.1 i)

pub returns-in-DoBody : goal.returns-in-DoBody
returns-in-DoBody c = λ fs f e h i. let j = rw c.in-DoBody.is at h in rw j (c.do_body.ensures fs e i)

pub returns-in-DoTest : goal.returns-in-DoTest
returns-in-DoTest c = λ fs f e h i. let j = rw c.in-DoTest.is at h in rw j.1.0 (c.do_test.ensures fs j.0 e j.1.1 i)

pub returns-in-IfTest : goal.returns-in-IfTest
returns-in-IfTest c = λ fs f e h i. let j = rw c.in-IfTest.is at h in rw j.1.0 (c.if_test.ensures fs j.0 e j.1.1 i)

pub returns-in-IfBody : goal.returns-in-IfBody
returns-in-IfBody c = λ fs f e h i. let j = rw c.in-IfBody.is at h in rw j.1.1.0 (c.if_body.ensures fs j.0 j.1.0 e j.1.1.1.0 j.1.1.1.1 i)

pub returns-in-IfLast : goal.returns-in-IfLast
returns-in-IfLast c = λ fs f e h i. let j = rw c.in-IfLast.is at h in rw j.1.0 (c.if_last.ensures fs j.0 e j.1.1 i)
