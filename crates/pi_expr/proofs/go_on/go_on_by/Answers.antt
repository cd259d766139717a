use Rattle.pi_expr.proofs.go_on.go_on_by.Goals as goal

pub returns-in-Joint : goal.returns-in-Joint
returns-in-Joint c = λ fs e h. rw c.in-Joint.is (c.join.ensures fs e h)

pub returns-in-Relation : goal.returns-in-Relation
returns-in-Relation c = λ fs e h. rw c.in-Relation.is (c.relation.ensures fs e c.args.indexable h)

pub returns-in-Mark : goal.returns-in-Mark
returns-in-Mark c = λ fs e h. rw c.in-Mark.is (c.go_on_mark.ensures fs e h)

pub returns-in-Variable : goal.returns-in-Variable
returns-in-Variable c = λ fs e h. rw c.in-Variable.is (c.refuse.ensures fs)

pub returns-in-Atom : goal.returns-in-Atom
returns-in-Atom c = λ fs e h. rw c.in-Atom.is (c.refuse-in-Atom.ensures fs)

pub returns-in-Integer : goal.returns-in-Integer
returns-in-Integer c = λ fs e h. rw c.in-Integer.is (c.refuse-in-Integer.ensures fs)

pub returns-in-Text : goal.returns-in-Text
returns-in-Text c = λ fs e h. rw c.in-Text.is (c.refuse-in-Text.ensures fs)

pub returns-in-GoalSign : goal.returns-in-GoalSign
returns-in-GoalSign c = λ fs e h. rw c.in-GoalSign.is (c.refuse-in-GoalSign.ensures fs)
